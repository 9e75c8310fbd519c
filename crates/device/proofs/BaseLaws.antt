-- The rule of the base over all set-up numbers, as an equation: they are accepted exactly where they would be with the base at
-- 100000h, and their own is a multiple of 4096, not below 100000h, with base + T at most 2^64. So no other number excuses a lower base
-- (C-16), and none asks for a higher one.
use Prim.Native.Nat.{ℕ, ◌+◌, ◌%◌, ◌^◌, ◌≤◌}
use mathlib.Core.Bool.{Bool, true, false, ◌&&◌}
use mathlib.Core.Path.{◌≡◌, refl, sym, ◌∙◌}
use native.Mathlib.Omega.{arith}
use lib.Dec.{eqb, leb}
use borrow.Author.Tests.{leb-true, le-leb}
use Rattle.common.specs.Tests.{every}
use Rattle.common.proofs.TestLaws.{and_left, and_right}
use Rattle.device.specs.declared.Settings.{Settings}
use Rattle.device.specs.SetUp.{accepted, total, paged, min_base}
use Rattle.device.proofs.SetUpLaws.{accepted_facts, tests, each}

-- the same numbers with another base
abbrev pub at : ℕ → Settings → Settings
at base s =
    record {
      peers = s.peers;
      vectors = s.vectors;
      table = s.table;
      common = s.common;
      output = s.output;
      base = base;
      protocol = s.protocol;
      vendor = s.vendor;
      subsystem = s.subsystem;
    }

-- R10 of the base: a multiple of 4096, base + T at most 2^64, and not below 100000h (R12)
abbrev pub well_placed : Settings → Bool
well_placed s = (eqb (s.base % 4096) 0 && leb 0x100000 s.base) && leb (s.base + total s) (2 ^ 64)

-- where they are accepted, their own base is well placed, and so is 100000h
own : (s : Settings) → accepted s ≡ true → well_placed s ≡ true
unfolding tests
own s e =
    let above : 0x100000 ≤ s.base = omega (arith, leb-true min_base _ (each s e 11)) in
    rw (each s e 10, le-leb 0x100000 s.base above, each s e 12)

lowest : (s : Settings) → accepted s ≡ true → well_placed (at 0x100000 s) ≡ true
unfolding total
lowest s e =
    let t : total s ≤ 2 ^ 30 = (accepted_facts s e).whole in
    le-leb (0x100000 + total s) (2 ^ 64) (omega arith)

-- accepted numbers are accepted at every base that is well placed
moved : (s : Settings) (base : ℕ) → accepted s ≡ true → well_placed (at base s) ≡ true → accepted (at base s) ≡ true
unfolding accepted every tests total
moved s base e p =
    let page : paged base ≡ true = and_left _ _ (and_left _ _ p) in
    let above : min_base ≤ base = omega (arith, leb-true 0x100000 base (and_right (paged base) _ (and_left _ _ p))) in
    let end : leb (base + total s) (2 ^ 64) ≡ true = and_right (paged base && leb 0x100000 base) _ p in
    rw (
      each s e 0,
      each s e 1,
      each s e 2,
      each s e 3,
      each s e 4,
      each s e 5,
      each s e 6,
      each s e 7,
      each s e 8,
      each s e 9,
      page,
      le-leb min_base base above,
      end,
      each s e 13,
      each s e 14,
      each s e 15,
    )

pub base_rule : (s : Settings) → accepted s ≡ (accepted (at 0x100000 s) && well_placed s)
base_rule s = by (accepted s) refl (accepted (at 0x100000 s)) refl (well_placed s) refl
  where
    by : (a : Bool) → accepted s ≡ a → (l : Bool) → accepted (at 0x100000 s) ≡ l → (w : Bool) → well_placed s ≡ w → a ≡ (l && w)
    by true e l f w g = sym (rw (sym f ∙ moved s 0x100000 e (lowest s e), sym g ∙ own s e))
    by false e true f true g = sym e ∙ moved (at 0x100000 s) s.base f g
    by false e true f false g = refl
    by false e false f w g = refl
