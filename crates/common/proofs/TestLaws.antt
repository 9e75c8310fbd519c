-- Laws of specs/Tests.antt.
use Prim.Native.Nat.{ℕ, zero, suc, ◌+◌, ◌*◌, ◌<◌, ◌≤◌}
use mathlib.Core.Bool.{Bool, true, false, cond, ◌&&◌}
use mathlib.Core.Path.{◌≡◌, refl, sym, ◌∙◌}
use mathlib.Core.List.{List, [], ◌∷◌, ◌++◌}
use native.Mathlib.Nat.{add-zero, zero-mul, suc-mul}
use native.Mathlib.Omega.{arith}
use lib.Dec.{eqb, leb, ltb}
use borrow.Author.Tests.{leb-true, ltb-true, eqb-true, eqb-false}
use lib.ListN.{get_or}
use Rattle.common.specs.Tests.{Row, row, first, every_after, every, below}

pub and_left : (a b : Bool) → a && b ≡ true → a ≡ true
and_left true b e = refl
and_left false b e = e

pub and_right : (a b : Bool) → a && b ≡ true → b ≡ true
and_right true b e = e
and_right false b e = let z : ◌≡◌ {A = ℕ} 0 1 = cc in absurd (omega arith)

pub and_true : (a : Bool) → (a && true) ≡ a
and_true true = refl
and_true false = refl

pub and_assoc : (a b c : Bool) → ((a && b) && c) ≡ (a && (b && c))
and_assoc true b c = refl
and_assoc false b c = refl

pub and_swap : (a b c d : Bool) → ((a && b) && (c && d)) ≡ ((a && c) && (b && d))
and_swap false b c d = refl
and_swap true true c d = refl
and_swap true false true d = refl
and_swap true false false d = refl

-- one test more
pub below_suc : (n : ℕ) (t : ℕ → Bool) → below (suc n) t ≡ (below n t && t n)
unfolding below
below_suc n t = refl

-- what a test of two parts tells, as rules for omega
pub first_le : (a b : ℕ) (t : Bool) → leb a b && t ≡ true → a ≤ b
first_le a b t e = leb-true a b (and_left (leb a b) t e)

pub second_lt : (t : Bool) (a b : ℕ) → t && ltb a b ≡ true → a < b
second_lt t a b e = ltb-true a b (and_right t (ltb a b) e)

-- One false test makes the whole false, and where the whole is true each test is.
stays_false : (bs : List Bool) → every_after false bs ≡ false
stays_false [] = refl
stays_false (b ∷ bs) = stays_false bs

after_false : (ok : Bool) (bs : List Bool) (k : ℕ) → get_or bs k true ≡ false → every_after ok bs ≡ false
after_false ok [] k e = let z : ◌≡◌ {A = ℕ} 0 1 = cc in absurd (omega arith)
after_false true (b ∷ bs) zero e = rw e (stays_false bs)
after_false false (b ∷ bs) zero e = stays_false bs
after_false true (b ∷ bs) (suc k) e = after_false b bs k e
after_false false (b ∷ bs) (suc k) e = stays_false bs

pub every_false : (bs : List Bool) (k : ℕ) → get_or bs k true ≡ false → every bs ≡ false
unfolding every
every_false bs k e = after_false true bs k e

pub every_true : (bs : List Bool) → every bs ≡ true → (k : ℕ) → get_or bs k true ≡ true
every_true bs e k = by (get_or bs k true) refl
  where
    by : (b : Bool) → get_or bs k true ≡ b → get_or bs k true ≡ true
    by true f = f
    by false f = let z : false ≡ true = sym (every_false bs k f) ∙ e in f ∙ z

pub and_false : (a b : Bool) → b ≡ false → (a && b) ≡ false
and_false true b e = e
and_false false b e = refl

-- Rows in two parts. What the first part gives, where it gives anything, and what the second gives where the first gives nothing.
pub first_stops : (xs ys : List Row) → (first xs ≡ 0 → ⊥) → first (xs ++ ys) ≡ first xs
unfolding first
first_stops [] ys h = absurd (h refl)
first_stops (x ∷ xs) ys h = by x.holds refl (λ k. first_stops xs ys k) h
  where
    by : (b : Bool) → x.holds ≡ b → ((first xs ≡ 0 → ⊥) → first (xs ++ ys) ≡ first xs) →
        (cond x.holds x.number (first xs) ≡ 0 → ⊥) →
        cond x.holds x.number (first (xs ++ ys)) ≡ cond x.holds x.number (first xs)
    by true e later k = rw e
    by false e later k = rw e (later (rw e at k))

-- no row gives 0
abbrev pub positive : List Row → Bool
positive [] = true
positive (x ∷ xs) = ltb 0 x.number && positive xs

split_row : (x : Row) (n : ℕ) → ltb 0 x.number ≡ true → cond x.holds x.number n ≡ 0 → (x.holds ≡ false) × (n ≡ 0)
split_row x n p e = by x.holds refl
  where
    by : (b : Bool) → x.holds ≡ b → (x.holds ≡ false) × (n ≡ 0)
    by true f = let z : x.number ≡ 0 = rw f at e in absurd (omega (arith, ltb-true 0 x.number p))
    by false f = (f, rw f at e)

pub first_none : (xs : List Row) → positive xs ≡ true → first xs ≡ 0 → (k : ℕ) → (get_or xs k (row 0 false)).holds ≡ false
unfolding first
first_none [] p e k = refl
first_none (x ∷ xs) p e zero = (split_row x (first xs) (and_left (ltb 0 x.number) (positive xs) p) e).0
first_none (x ∷ xs) p e (suc k) =
    first_none xs (and_right (ltb 0 x.number) (positive xs) p)
    (split_row x (first xs) (and_left (ltb 0 x.number) (positive xs) p) e).1 k

pub first_goes_on : (xs ys : List Row) → positive xs ≡ true → first xs ≡ 0 → first (xs ++ ys) ≡ first ys
unfolding first
first_goes_on [] ys p e = refl
first_goes_on (x ∷ xs) ys p e =
    let s = split_row x (first xs) (and_left (ltb 0 x.number) (positive xs) p) e in
    rw s.0 (first_goes_on xs ys (and_right (ltb 0 x.number) (positive xs) p) s.1)

-- both parts give nothing where the whole does
pub first_parts : (xs ys : List Row) → positive xs ≡ true → first (xs ++ ys) ≡ 0 → (first xs ≡ 0) × (first ys ≡ 0)
unfolding first
first_parts [] ys p e = (refl, e)
first_parts (x ∷ xs) ys p e =
    let s = split_row x (first (xs ++ ys)) (and_left (ltb 0 x.number) (positive xs) p) e in
    let t = first_parts xs ys (and_right (ltb 0 x.number) (positive xs) p) s.1 in
    (rw s.0 t.0, t.1)

-- two ways to go on, by whether two numbers are equal
pub by_equal : {P : Type 0} (a b : ℕ) → (a ≡ b → P) → ((a ≡ b → ⊥) → P) → P
by_equal {P} a b same other = go (eqb a b) refl
  where
    go : (t : Bool) → eqb a b ≡ t → P
    go true e = same (eqb-true a b e)
    go false e = other (eqb-false a b e)

-- A test at every number below n, and at each of them.
pub below_true : (n : ℕ) (t : ℕ → Bool) → below n t ≡ true → (i : ℕ) → i < n → t i ≡ true
unfolding below
below_true zero t e i h = absurd (omega arith)
below_true (suc n) t e i h =
    by_equal i n (λ (q : i ≡ n). rw q (and_right (below n t) (t n) e)) (λ d. below_true n t (and_left (below n t) (t n) e) i (omega arith))

pub true_below : (n : ℕ) (t : ℕ → Bool) → ((i : ℕ) → i < n → t i ≡ true) → below n t ≡ true
unfolding below
true_below zero t f = refl
true_below (suc n) t f = rw (true_below n t (λ i h. f i (omega arith)), f n (omega arith))

-- where no row of a table is given, its first test fails and no row of the rest is given
pub first_zero : (n : ℕ) (b : Bool) (rows : List Row) → first (row (suc n) b ∷ rows) ≡ 0 → (b ≡ false) × (first rows ≡ 0)
unfolding first
first_zero n true rows e = absurd (omega arith)
first_zero n false rows e = (refl, e)

-- two tests that hold together are one
pub alike : (a b : Bool) → (a ≡ true → b ≡ true) → (b ≡ true → a ≡ true) → a ≡ b
alike true b f g = sym (f refl)
alike false true f g = g refl
alike false false f g = refl

-- a test at every number below a sum: those of the first part, then those of the second
pub below_add : (a n : ℕ) (t : ℕ → Bool) → below (a + n) t ≡ (below a t && below n (λ k. t (a + k)))
unfolding below
below_add a zero t = rw add-zero (sym (and_true (below a t)))
below_add a (suc n) t =
    let e : a + suc n ≡ suc (a + n) = omega arith in
    rw (e, below_add a n t) (and_assoc (below a t) (below n (λ k. t (a + k))) (t (a + n)))

-- a test at every entry of n rows of m entries each, row by row
pub below_rows : (n m : ℕ) (t : ℕ → Bool) → below (n * m) t ≡ below n (λ i. below m (λ v. t (i * m + v)))
unfolding below
below_rows zero m t = rw zero-mul
below_rows (suc n) m t =
    rw (suc-mul n m, below_add (n * m) m t, below_rows n m t)

pub below_ext : (n : ℕ) (t u : ℕ → Bool) → ((i : ℕ) → i < n → t i ≡ u i) → below n t ≡ below n u
unfolding below
below_ext zero t u same = refl
below_ext (suc n) t u same = rw (below_ext n t u (λ i h. same i (omega arith)), same n (omega arith))

-- two tests at every number below n
pub below_both : (n : ℕ) (t u : ℕ → Bool) → below n (λ i. t i && u i) ≡ (below n t && below n u)
unfolding below
below_both zero t u = refl
below_both (suc n) t u = rw (below_both n t u) (and_swap (below n t) (below n u) (t n) (u n))
