-- Bytes stored one after the other, from a place on.
use Prim.Native.Nat.{ℕ, suc, ◌+◌, ◌≤◌}
use mathlib.Core.List.{List, [], ◌∷◌, ◌++◌}
use mathlib.Core.Path.{◌≡◌}
use native.Mathlib.Omega.{arith}
use native.Mathlib.Nat.{add-zero}
use lib.ListN.{length, set}
use lib.Seq.{sets, sets-eq}
use Rattle.common.specs.Lists.{over}

-- two parts, one behind the other
sets_then : (a b l : List ℕ) (i : ℕ) → sets (sets l i a) (i + length a) b ≡ sets l i (a ++ b)
sets_then [] b l i = rw (add-zero i)
sets_then (x ∷ a) b l i = let e : i + suc (length a) ≡ suc i + length a = omega arith in rw e (sets_then a b (set l i x) (suc i))

pub sets_behind : (a b l : List ℕ) (i j : ℕ) → j ≡ i + length a → sets (sets l i a) j b ≡ sets l i (a ++ b)
sets_behind a b l i j e = rw e (sets_then a b l i)

-- from the front
pub sets_over : (new l : List ℕ) → length new ≤ length l → sets l 0 new ≡ over new l
unfolding over
sets_over new l h = let n : 0 + length new ≡ length new = omega arith in rw n at (sets-eq new l 0 (omega arith))
