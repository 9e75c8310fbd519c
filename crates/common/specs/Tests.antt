-- Lists of tests.
use Rattle.std.specs.Prelude.{ℕ, zero, suc, Bool, true, cond, ◌&&◌, List, [], ◌∷◌}

-- a number and the test on which it is given
pub record Row : Type 0 where
  pub number : ℕ
  pub holds : Bool

abbrev pub row : ℕ → Bool → Row
row n b = record { number = n; holds = b }

-- the number of the first row whose test holds; 0 where none does
unfoldable pub first : List Row → ℕ
first [] = 0
first (r ∷ rs) = cond r.holds r.number (first rs)

-- all tests of a list hold, taken from the left as the code's `a & b & c`
abbrev pub every_after : Bool → List Bool → Bool
every_after ok [] = ok
every_after ok (b ∷ bs) = every_after (ok && b) bs

unfoldable pub every : List Bool → Bool
every bs = every_after true bs

-- a test holds at every number below n
unfoldable pub below : ℕ → (ℕ → Bool) → Bool
below zero t = true
below (suc n) t = below n t && t n
