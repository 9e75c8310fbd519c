-- Set-up numbers whose sum is too large for 64 bits are not accepted, and how the State Table's least size is tested.
use Prim.Native.Nat.{ℕ, ◌*◌, ◌/◌, ◌≤◌, ◌<◌, ◌^◌}
use mathlib.Core.Bool.{Bool, true, false}
use mathlib.Core.Path.{◌≡◌, refl, sym, ◌∙◌}
use native.Mathlib.Omega.{arith}
use lib.Dec.{leb}
use borrow.Author.Tests.{leb-true, leb-false, le-leb, lt-leb}
use Rattle.device.specs.declared.Settings.{Settings}
use Rattle.device.specs.SetUp.{accepted, total}
use Rattle.device.proofs.SetUpLaws.{accepted_facts}

pub accepted_summed : (s : Settings) → accepted s ≡ true → total s < 2 ^ 64
accepted_summed s e = omega (arith, (accepted_facts s e).whole)

pub unsummed_refused : (s : Settings) → (total s < 2 ^ 64 → ⊥) → false ≡ accepted s
unsummed_refused s h = by (accepted s) refl
  where
    by : (b : Bool) → accepted s ≡ b → false ≡ accepted s
    by false f = sym f
    by true f = absurd (h (accepted_summed s f))

-- four bytes for each peer, tested without their product
pub quarter : (p t : ℕ) → leb p (t / 4) ≡ leb (4 * p) t
quarter p t = by (leb p (t / 4)) refl
  where
    by : (x : Bool) → leb p (t / 4) ≡ x → leb p (t / 4) ≡ leb (4 * p) t
    by true e =
        let l : p ≤ t / 4 = leb-true _ _ e in
        let m : 4 * p ≤ t = omega arith in
        e ∙ sym (le-leb (4 * p) t m)
    by false e =
        let l : t / 4 < p = leb-false _ _ e in
        let m : t < 4 * p = omega arith in
        e ∙ sym (lt-leb (4 * p) t m)
