-- What a list has for each of its elements.
use Prim.Native.Nat.{ℕ, zero, suc, ◌+◌, ◌*◌, ◌<◌}
use mathlib.Core.List.{List, [], ◌∷◌, ◌++◌, map, append_assoc, append-nil}
use mathlib.Core.Path.{◌≡◌, refl, sym, ap, ◌∙◌}
use native.Mathlib.Omega.{arith}
use native.Mathlib.Numerals.{add-one}
use native.Mathlib.Nat.{mul-suc}
use lib.ListN.{length, replicate, length-append, take, get_or}
use lib.Seq.{take-suc}
use Rattle.server.specs.Messages.{each_of}

module _ {A B : Type 0} (f : A → List B) where
  pub each_append : (xs ys : List A) → each_of f (xs ++ ys) ≡ each_of f xs ++ each_of f ys
  unfolding each_of
  each_append [] ys = refl
  each_append (x ∷ xs) ys = rw (each_append xs ys) (sym (append_assoc (f x) (each_of f xs) (each_of f ys)))

  pub each_one : (x : A) → each_of f (x ∷ []) ≡ f x
  unfolding each_of
  each_one x = append-nil (f x)

  -- once more
  each_suc : (n : ℕ) (x : A) → each_of f (replicate (suc n) x) ≡ each_of f (replicate n x) ++ f x
  unfolding each_of
  each_suc zero x = append-nil (f x)
  each_suc (suc n) x = ap (λ (l : List B). f x ++ l) (each_suc n x) ∙ sym (append_assoc (f x) (each_of f (replicate n x)) (f x))

  pub each_more : (n : ℕ) (x : A) → each_of f (replicate (n + 1) x) ≡ each_of f (replicate n x) ++ f x
  each_more n x = rw (add-one n) (each_suc n x)

  -- for the next of a list
  pub each_next : (xs : List A) (i : ℕ) (d : A) → i < length xs → each_of f (take (i + 1) xs) ≡ each_of f (take i xs) ++ f (get_or xs i d)
  each_next xs i d h = rw (add-one i, take-suc xs i d h, each_append (take i xs) (get_or xs i d ∷ []), each_one (get_or xs i d))

  pub each_same : (g : A → List B) → ((x : A) → f x ≡ g x) → (xs : List A) → each_of f xs ≡ each_of g xs
  unfolding each_of
  each_same g same [] = refl
  each_same g same (x ∷ xs) = rw (same x, each_same g same xs)

  -- as long as there are elements, where each has as much
  pub each_length : (k : ℕ) → ((x : A) → length (f x) ≡ k) → (xs : List A) → length (each_of f xs) ≡ k * length xs
  unfolding each_of
  each_length k same [] = omega arith
  each_length k same (x ∷ xs) =
      rw (length-append (f x) (each_of f xs), same x, each_length k same xs, mul-suc k (length xs)) (omega arith)

-- one after the other
module _ {A B C : Type 0} (f : B → List C) where
  pub each_map : (g : A → B) (xs : List A) → each_of f (map g xs) ≡ each_of (λ x. f (g x)) xs
  unfolding each_of
  each_map g [] = refl
  each_map g (x ∷ xs) = rw (each_map g xs)

  pub each_each : (g : A → List B) (xs : List A) → each_of f (each_of g xs) ≡ each_of (λ x. each_of f (g x)) xs
  unfolding each_of
  each_each g [] = refl
  each_each g (x ∷ xs) = rw (each_append f (g x) (each_of g xs), each_each g xs)

  -- what is alike for one element is alike for as many of it
  pub each_alike : (g : A → List C) (x : B) (y : A) → f x ≡ g y → (n : ℕ) → each_of f (replicate n x) ≡ each_of g (replicate n y)
  unfolding each_of
  each_alike g x y e zero = refl
  each_alike g x y e (suc n) = rw (e, each_alike g x y e n)
