-- Laws of specs/Lists.antt, and of a list that a loop fills from the front.
use Prim.Native.Nat.{ℕ, zero, suc, ◌+◌, ◌<◌}
use mathlib.Core.Bool.{Bool, true, false}
use mathlib.Core.Logic.{⊎_elim}
use mathlib.Core.Path.{◌≡◌, refl, sym, ap, ◌∙◌}
use mathlib.Core.List.{List, [], ◌∷◌, ◌++◌, append-nil}
use native.Mathlib.Nat.{not-suc-le-zero, le_of_suc-le-suc, eq-or-lt_of_le, le_of_eq}
use native.Mathlib.Omega.{arith}
use native.Mathlib.Numerals.{add-one}
use borrow.Author.Tests.{eqb-true, eqb-false}
use lib.Dec.{eqb}
use lib.ListN.{length, get_or, set, drop, replicate, length-append, length-set, replicate-append-replicate, drop_of_length-le, get_or-append}
use lib.Seq.{get_or_at, get_or-set_same, get_or-set_other, ext_get_or}
use Rattle.common.specs.Lists.{tabulate}

module _ {ℓ} {A : Type ℓ} where
  pub length_tabulate : (n : ℕ) (f : ℕ → A) → length (tabulate n f) ≡ n
  unfolding tabulate
  length_tabulate zero f = refl
  length_tabulate (suc n) f = length-append (tabulate n f) (f n ∷ []) ∙ add-one (length (tabulate n f)) ∙ ap suc (length_tabulate n f)

  pub get_d_tabulate : (n : ℕ) (f : ℕ → A) (i : ℕ) (d : A) → i < n → get_or (tabulate n f) i d ≡ f i
  unfolding tabulate
  get_d_tabulate zero f i d h = absurd (not-suc-le-zero h)
  get_d_tabulate (suc n) f i d h =
      ⊎_elim
      (λ e. get_or_at (tabulate n f) (f n) [] d i (length_tabulate n f ∙ sym e) ∙ ap f (sym e))
      (λ l. get_or-append (tabulate n f) (f n ∷ []) d i (rw length_tabulate l) ∙ get_d_tabulate n f i d l)
      (eq-or-lt_of_le (le_of_suc-le-suc h))

  pub tabulate_ext : (n : ℕ) (f g : ℕ → A) → ((i : ℕ) → i < n → f i ≡ g i) → tabulate n f ≡ tabulate n g
  unfolding tabulate
  tabulate_ext zero f g same = refl
  tabulate_ext (suc n) f g same =
      λ t. tabulate_ext n f g (λ i l. same i (omega arith)) t ++ (same n (omega arith) t ∷ [])

  -- a list that is a table has its values
  pub tabulate_at : (n : ℕ) (f : ℕ → A) {l : List A} → tabulate n f ≡ l → (i : ℕ) (d : A) → i < n → f i ≡ get_or l i d
  tabulate_at n f e i d h = sym (get_d_tabulate n f i d h) ∙ ap (λ (l : List A). get_or l i d) e

  pub tabulate_const : (n : ℕ) (a : A) → tabulate n (λ _. a) ≡ replicate n a
  unfolding tabulate
  tabulate_const zero a = refl
  tabulate_const (suc n) a =
      ap (λ (l : List A). l ++ (a ∷ [])) (tabulate_const n a)
      ∙ replicate-append-replicate n 1 a
      ∙ ap (λ (k : ℕ). replicate k a) (add-one n)

  -- two tables that differ at one place only
  pub set_tabulate : (n : ℕ) (f g : ℕ → A) (i : ℕ) (a : A) → i < n → g i ≡ a
      → ((j : ℕ) → j < n → (j ≡ i → ⊥) → g j ≡ f j) → tabulate n g ≡ set (tabulate n f) i a
  set_tabulate n f g i a h here others =
      ext_get_or a _ _ (simp (length-set, length_tabulate)) (λ j l. at j (rw length_tabulate at l) (eqb j i) refl)
    where
      at : (j : ℕ) → j < n → (t : Bool) → eqb j i ≡ t → get_or (tabulate n g) j a ≡ get_or (set (tabulate n f) i a) j a
      at j l true e =
          get_d_tabulate n g j a l
          ∙ ap g (eqb-true j i e)
          ∙ here
          ∙ sym (rw (eqb-true j i e) (get_or-set_same (tabulate n f) i a a (rw length_tabulate h)))
      at j l false e =
          get_d_tabulate n g j a l
          ∙ others j l (eqb-false j i e)
          ∙ sym (get_or-set_other (tabulate n f) i j a a (eqb-false j i e) ∙ get_d_tabulate n f j a l)

  -- the first n elements are v, the others as they were; one more, and all of them
  pub filled_more : (n : ℕ) (v : A) (d : List A) → n < length d → set (replicate n v ++ drop n d) n v ≡ replicate (n + 1) v ++ drop (n + 1) d
  filled_more n v d h = rw add-one (next n d h)
    where
      next : (n : ℕ) (d : List A) → n < length d → set (replicate n v ++ drop n d) n v ≡ replicate (suc n) v ++ drop (suc n) d
      next n [] l = absurd (not-suc-le-zero l)
      next zero (x ∷ d) l = refl
      next (suc n) (x ∷ d) l = ap (λ (t : List A). v ∷ t) (next n d (le_of_suc-le-suc l))

  pub filled_all : (n : ℕ) (v : A) (d : List A) → length d ≡ n → replicate n v ++ drop n d ≡ replicate n v
  filled_all n v d e = ap (λ (t : List A). replicate n v ++ t) (drop_of_length-le d {i = n} (le_of_eq e)) ∙ append-nil (replicate n v)

-- what holds of the element put at an index and of every element before holds of every element after
pub get_d_set {ℓ} : {A : Type ℓ} (P : A → Type 0) (l : List A) (i j : ℕ) (a d : A) → (j ≡ i → P a) → P (get_or l j d) → P (get_or (set l i a) j d)
get_d_set P [] i j a d new old = old
get_d_set P (x ∷ l) zero zero a d new old = new refl
get_d_set P (x ∷ l) zero (suc j) a d new old = old
get_d_set P (x ∷ l) (suc i) zero a d new old = old
get_d_set P (x ∷ l) (suc i) (suc j) a d new old = get_d_set P l i j a d (λ e. new (ap suc e)) old

-- two lists of one length that agree at an index agree there after the same element was put
pub get_d_set_alike {ℓ} : {A : Type ℓ} (l m : List A) (i : ℕ) (a d : A) → length l ≡ length m → get_or l i d ≡ get_or m i d
    → get_or (set l i a) i d ≡ get_or (set m i a) i d
get_d_set_alike [] [] i a d n e = refl
get_d_set_alike [] (y ∷ m) i a d n e = absurd (omega arith)
get_d_set_alike (x ∷ l) [] i a d n e = absurd (omega arith)
get_d_set_alike (x ∷ l) (y ∷ m) zero a d n e = refl
get_d_set_alike (x ∷ l) (y ∷ m) (suc i) a d n e = get_d_set_alike l m i a d (omega arith) e
