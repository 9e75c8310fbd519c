-- The refusals of a piece.
use Prim.Native.Nat.{ℕ, ◌≤◌}
use mathlib.Core.Bool.{Bool, true, false, not, ◌&&◌, ◌||◌}
use mathlib.Core.List.{List, ◌++◌}
use mathlib.Core.Path.{◌≡◌}
use native.Mathlib.Omega.{arith}
use lib.Seq.{length-take-le}
use lib.Dec.{eqb, ltb}
use lib.ListN.{length, drop, set, length-append, length-drop, length-set}
use borrow.Author.Tests.{eqb-true, leb-true, ltb-true}
use Rattle.common.proofs.TestLaws.{every_true}
use Rattle.common.specs.Tests.{first}
use Rattle.playback.specs.declared.Progress.{Progress}
use Rattle.playback.specs.Answers.{longest}
use Rattle.playback.specs.Player.{inside}
use Rattle.playback.specs.Promises.{Lent, anew, lent_tests, is_lent, player_in, refusal_of}

module _ (hub region held : List ℕ) (p : Progress) where
  pub lent_facts : is_lent hub region held p ≡ true → Lent hub region held p
  unfolding is_lent
  lent_facts e =
      let t = every_true (lent_tests hub region held p) e in
      record {
        hub_length = eqb-true _ _ (t 0);
        region_length = eqb-true _ _ (t 1);
        held_length = eqb-true _ _ (t 2);
        words = leb-true _ _ (t 3);
        bytes = leb-true _ _ (t 4);
        few = ltb-true _ _ (t 5);
      }

  pub not_lent : (room : ℕ) → is_lent hub region held p ≡ false → 10 ≡ refusal_of hub region held p room
  unfolding refusal_of first
  not_lent room e = rw e

  pub no_room : (room : ℕ) → is_lent hub region held p ≡ true → ltb room longest ≡ true → 11 ≡ refusal_of hub region held p room
  unfolding refusal_of first
  no_room room e l = rw (e, l)

  pub no_refusal : (room : ℕ) → is_lent hub region held p ≡ true → ltb room longest ≡ false → 0 ≡ refusal_of hub region held p room
  unfolding refusal_of first
  no_refusal room e l = rw (e, l)

  -- the end of the input, by the progress alone
  pub inside_is : Lent hub region held p → inside (player_in hub region held p) ≡ (not p.stopped && not (eqb p.held 0))
  unfolding inside
  inside_is lent = let l : p.held ≤ length held = omega (arith, lent.few) in rw (length-take-le p.held held l)

  -- the parts in use were lent on, and came back
  pub lent_back : (hub_after region_after : List ℕ) → length hub_after ≡ p.words → length region_after ≡ p.bytes → Lent hub region held p
      → Lent (hub_after ++ drop p.words hub) (region_after ++ drop p.bytes region) held p
  lent_back hub_after region_after nh nr lent =
      record {
        hub_length = simp (length-append, length-drop) (omega (arith, lent.words, lent.hub_length));
        region_length = simp (length-append, length-drop) (omega (arith, lent.bytes, lent.region_length));
        held_length = lent.held_length;
        words = simp (length-append, length-drop) (omega (arith, lent.words));
        bytes = simp (length-append, length-drop) (omega (arith, lent.bytes));
        few = lent.few;
      }

pub not_inside : (a b t : Bool) → (a || b) ≡ t → (not a && not b) ≡ not t
not_inside true b t e = rw (← e)
not_inside false true t e = rw (← e)
not_inside false false t e = rw (← e)

-- where nothing is held
pub none_held : {hub region held : List ℕ} {p : Progress} {stopped : Bool} → Lent hub region held p
    → Lent hub region held (record { words = p.words; bytes = p.bytes; held = 0; stopped = stopped })
none_held l =
    record {
      hub_length = l.hub_length;
      region_length = l.region_length;
      held_length = l.held_length;
      words = l.words;
      bytes = l.bytes;
      few = omega (arith, l.few);
    }

pub anew_lent : {hub region held : List ℕ} {p : Progress} → Lent hub region held p → Lent hub region held anew
anew_lent l =
    record {
      hub_length = l.hub_length;
      region_length = l.region_length;
      held_length = l.held_length;
      words = omega arith;
      bytes = omega arith;
      few = omega (arith, l.few);
    }

-- one byte was stored
pub byte_lent : {hub region held : List ℕ} {p : Progress} (byte : ℕ) → Lent hub region held p → Lent hub region (set held p.held byte) p
byte_lent byte l =
    record {
      hub_length = l.hub_length;
      region_length = l.region_length;
      held_length = simp length-set l.held_length;
      words = l.words;
      bytes = l.bytes;
      few = simp length-set l.few;
    }
