-- The bytes held with the input behind them, as the code puts them place by place.
use Prim.Native.Nat.{ℕ, suc, ◌+◌, ◌-◌, ◌≤◌, ◌<◌}
use mathlib.Core.Bool.{Bool, true, false, cond}
use mathlib.Core.List.{List, [], ◌∷◌, ◌++◌, append_assoc}
use mathlib.Core.Path.{◌≡◌, refl, sym, ap, ◌∙◌}
use native.Mathlib.Omega.{arith}
use lib.Dec.{ltb}
use lib.ListN.{length, take, drop, get_or, length-append, get_or-append, get_or-eq_default}
use lib.Seq.{sets, sets-eq, length-sets, length-take-le, get_or-append-add, get_or-take, get_or-drop, drop-cons, ext_get_or}
use borrow.Author.Tests.{ltb-true, ltb-false, lt-ltb, le-ltb}
use Rattle.std.proofs.lemmas.List.{get_or_default}
use Rattle.common.specs.Bytes.{number}
use Rattle.common.specs.Lists.{tabulate}
use Rattle.common.proofs.ListLaws.{length_tabulate, get_d_tabulate}
use Rattle.reader.specs.Parts.{placed}
use Rattle.reader.specs.Records.{signed, record_in, record_of}

-- an element where there is one
pub get_or_cond : (l : List ℕ) (i d : ℕ) → get_or l i d ≡ cond (ltb i (length l)) (get_or l i 0) d
get_or_cond l i d = by (ltb i (length l)) refl
  where
    by : (t : Bool) → ltb i (length l) ≡ t → get_or l i d ≡ cond (ltb i (length l)) (get_or l i 0) d
    by true e = rw e (get_or_default l i d 0 (ltb-true i (length l) e))
    by false e = rw e (get_or-eq_default l d (ltb-false i (length l) e))

-- a byte of two lists, the first a front
front : (l ys : List ℕ) (n k : ℕ) → n ≤ length l → get_or (take n l ++ ys) k 0 ≡ cond (ltb k n) (get_or l k 0) (get_or ys (k - n) 0)
front l ys n k h = by (ltb k n) refl
  where
    long : length (take n l) ≡ n
    long = length-take-le n l h

    by : (t : Bool) → ltb k n ≡ t → get_or (take n l ++ ys) k 0 ≡ cond (ltb k n) (get_or l k 0) (get_or ys (k - n) 0)
    by true e =
        let i : k < n = ltb-true k n e in
        rw e (get_or-append (take n l) ys 0 k (rw long i) ∙ get_or-take n l k 0 i)
    by false e =
        let i : n ≤ k = ltb-false k n e in
        let q : k ≡ length (take n l) + (k - n) = rw long (omega arith) in
        rw e (ap (λ (j : ℕ). get_or (take n l ++ ys) j 0) q ∙ get_or-append-add (take n l) ys (k - n) 0)

-- where all of the input is held
module _ (bytes input : List ℕ) (held : ℕ) (eight : length bytes ≡ 8) (room : held + length input ≤ 8) where
  behind : (k : ℕ) → held ≤ k
      → get_or (input ++ drop (held + length input) bytes) (k - held) 0
      ≡ cond (ltb (k - held) (length input)) (get_or input (k - held) 0) (get_or bytes k 0)
  behind k h = by (ltb (k - held) (length input)) refl
    where
      by : (t : Bool) → ltb (k - held) (length input) ≡ t
          → get_or (input ++ drop (held + length input) bytes) (k - held) 0
          ≡ cond (ltb (k - held) (length input)) (get_or input (k - held) 0) (get_or bytes k 0)
      by true e = rw e (get_or-append input (drop (held + length input) bytes) 0 (k - held) (ltb-true _ _ e))
      by false e =
          let i : length input ≤ k - held = ltb-false _ _ e in
          let q : k - held ≡ length input + (k - held - length input) = omega arith in
          let p : held + length input + (k - held - length input) ≡ k = omega arith in
          rw e
          (ap (λ (j : ℕ). get_or (input ++ drop (held + length input) bytes) j 0) q
          ∙ get_or-append-add input (drop (held + length input) bytes) (k - held - length input) 0
          ∙ get_or-drop (held + length input) bytes (k - held - length input) 0
          ∙ ap (λ (j : ℕ). get_or bytes j 0) p)

  held_at : (k : ℕ) → placed bytes held input k ≡ get_or (sets bytes held input) k 0
  unfolding placed
  held_at k =
      rw (sets-eq input bytes held (omega arith), append_assoc, front bytes (input ++ drop (held + length input) bytes) held k (omega arith))
      (by (ltb k held) refl)
    where
      by : (t : Bool) → ltb k held ≡ t
          → cond (ltb k held) (get_or bytes k 0) (cond (ltb (k - held) (length input)) (get_or input (k - held) 0) (get_or bytes k 0))
          ≡ cond (ltb k held) (get_or bytes k 0) (get_or (input ++ drop (held + length input) bytes) (k - held) 0)
      by true e = rw e
      by false e = rw e (sym (behind k (ltb-false k held e)))

  pub all_held : tabulate 8 (placed bytes held input) ≡ sets bytes held input
  all_held =
      ext_get_or 0 _ _ (length_tabulate 8 (placed bytes held input) ∙ sym (length-sets bytes held input ∙ eight))
      (λ k l. get_d_tabulate 8 (placed bytes held input) k 0 (rw length_tabulate at l) ∙ held_at k)

-- where a record is whole: its nine bytes are the eight places and the next of the input
module _ (bytes input : List ℕ) (held : ℕ) (eight : length bytes ≡ 8) (few : held ≤ 8) (whole : 9 - held ≤ length input) where
  all : List ℕ
  all = take held bytes ++ input

  length_all : length all ≡ held + length input
  unfolding all
  length_all = length-append (take held bytes) input ∙ ap (λ (n : ℕ). n + length input) (length-take-le held bytes (omega arith))

  byte_at : (k : ℕ) → k < 8 → get_or all k 0 ≡ placed bytes held input k
  unfolding all placed
  byte_at k h = front bytes input held k (omega arith) ∙ by (ltb k held) refl
    where
      by : (t : Bool) → ltb k held ≡ t
          → cond (ltb k held) (get_or bytes k 0) (get_or input (k - held) 0)
          ≡ cond (ltb k held) (get_or bytes k 0) (cond (ltb (k - held) (length input)) (get_or input (k - held) 0) (get_or bytes k 0))
      by true e = rw e
      by false e = let i = ltb-false k held e in rw (e, lt-ltb (k - held) (length input) (omega arith))

  last_byte : get_or all 8 0 ≡ get_or input (8 - held) 0
  unfolding all
  last_byte = front bytes input held 8 (omega arith) ∙ rw (le-ltb 8 held few)

  next : (j : ℕ) → j < 9 → drop j all ≡ get_or all j 0 ∷ drop (suc j) all
  next j h = drop-cons all j 0 (rw length_all (omega arith))

  eight_bytes : take 8 (drop 1 all)
      ≡ get_or all 1 0 ∷ get_or all 2 0 ∷ get_or all 3 0 ∷ get_or all 4 0 ∷ get_or all 5 0 ∷ get_or all 6 0 ∷ get_or all 7 0 ∷ get_or all 8 0 ∷ []
  eight_bytes =
      rw (
        next 1 (omega arith),
        next 2 (omega arith),
        next 3 (omega arith),
        next 4 (omega arith),
        next 5 (omega arith),
        next 6 (omega arith),
        next 7 (omega arith),
        next 8 (omega arith),
      )

  -- the number's bytes, as the code has them
  abbrev pub number_bytes : List ℕ
  number_bytes =
      placed bytes held input 1 ∷ placed bytes held input 2 ∷ placed bytes held input 3 ∷ placed bytes held input 4
      ∷ placed bytes held input 5 ∷ placed bytes held input 6 ∷ placed bytes held input 7 ∷ get_or input (8 - held) 0 ∷ []

  pub record_whole : record_in (take held bytes ++ input) ≡ record_of (placed bytes held input 0) (signed (number number_bytes))
  unfolding record_in all
  record_whole =
      rw (
        eight_bytes,
        byte_at 0 (omega arith),
        byte_at 1 (omega arith),
        byte_at 2 (omega arith),
        byte_at 3 (omega arith),
        byte_at 4 (omega arith),
        byte_at 5 (omega arith),
        byte_at 6 (omega arith),
        byte_at 7 (omega arith),
        last_byte,
      )
