-- Fields of a record and numbers as bytes: those of the definition, and those of std.
use Prim.Native.Nat.{ℕ, zero, suc, ◌+◌, ◌*◌, ◌/◌, ◌^◌, ◌≤◌, ◌<◌}
use mathlib.Core.List.{List, [], ◌∷◌, ◌++◌}
use mathlib.Core.Path.{◌≡◌, refl, sym, ap, ◌∙◌}
use native.Mathlib.Nat.{mul_assoc, mul_comm, pow-suc}
use native.Mathlib.Omega.{arith}
use lib.Pow.{shr-shr, pow-add}
use lib.ListN.{length, take, drop, get_or}
use lib.Seq.{take-length, take-suc, drop-cons, length-take-le}
use Rattle.common.specs.Bytes.{bytes, number}
use Rattle.playback.specs.Log.{field}
use Rattle.std.specs.Int.{w16, w32, w64, byte_worth, from_le_bytes, sum_through, to_le_bytes}
use Rattle.std.specs.List.{slice_index}

more_bits : (n : ℕ) → 2 ^ (8 * suc n) ≡ 256 * 2 ^ (8 * n)
more_bits n = let e : 8 * suc n ≡ 8 + 8 * n = omega arith in rw (e, pow-add 2 8 (8 * n))

-- the number of two lists of bytes, the second higher
number_append : (xs ys : List ℕ) → number (xs ++ ys) ≡ number xs + 2 ^ (8 * length xs) * number ys
unfolding number
number_append [] ys = omega arith
number_append (x ∷ xs) ys =
    rw (number_append xs ys, more_bits (length xs), mul_assoc 256 (2 ^ (8 * length xs)) (number ys)) (omega arith)

pub field_one : (at : ℕ) (r : List ℕ) → at + 1 ≤ length r → field at 1 r ≡ get_or r at 0
unfolding field number
field_one at r h = rw (drop-cons r at 0 (omega arith)) (omega arith)

-- one byte lent as a list
pub one_part : (at : ℕ) (r : List ℕ) → at + 1 ≤ length r → take 1 (drop at r) ≡ field at 1 r ∷ []
one_part at r h = rw (drop-cons r at 0 (omega arith), field_one at r h)

-- std's conversions of numbers to bytes
pub two_bytes : (x : ℕ) → to_le_bytes w16 x ≡ bytes 2 x
unfolding bytes
two_bytes x = refl

module _ (x : ℕ) where
  two : x / 256 / 256 ≡ x / 65536
  two = shr-shr x 8 8

  three : x / 65536 / 256 ≡ x / 16777216
  three = shr-shr x 16 8

  pub four_bytes : to_le_bytes w32 x ≡ bytes 4 x
  unfolding bytes
  four_bytes = rw (two, three)

  pub eight_bytes : to_le_bytes w64 x ≡ bytes 8 x
  unfolding bytes
  eight_bytes = rw (two, three, shr-shr x 24 8, shr-shr x 32 8, shr-shr x 40 8, shr-shr x 48 8)

-- and back
powers : (k : ℕ) → 2 ^ (8 * k) ≡ 256 ^ k
powers zero = refl
powers (suc k) = more_bits k ∙ rw (powers k) (mul_comm 256 (256 ^ k) ∙ sym (pow-suc 256 k))

byte_number : (b : ℕ) → number (b ∷ []) ≡ b
unfolding number
byte_number b = omega arith

first_worth : (l : List ℕ) → 0 < length l → slice_index l 0 ≡ number (take 1 l)
unfolding number
first_worth [] h = absurd (omega arith)
first_worth (x ∷ l) h = omega arith

worth : (l : List ℕ) (k : ℕ) → k < length l → sum_through (λ i. byte_worth i (slice_index l i)) k ≡ number (take (suc k) l)
worth l zero h = first_worth l h
worth l (suc k) h =
    let b = get_or l (suc k) 0 in
    let n : length (take (suc k) l) ≡ suc k = length-take-le (suc k) l (omega arith) in
    ap (λ (s : ℕ). s + b * 256 ^ suc k) (worth l k (omega arith))
    ∙ sym (
    rw (
      take-suc l (suc k) 0 h,
      number_append (take (suc k) l) (b ∷ []),
      n,
      powers (suc k),
      byte_number b,
    ) (ap (λ (s : ℕ). number (take (suc k) l) + s) (mul_comm (256 ^ suc k) b))
    )

-- std's number of bytes is the definition's, wherever they stand in a record
module _ (l : List ℕ) where
  whole_number : (k : ℕ) → length l ≡ suc k → sum_through (λ i. byte_worth i (slice_index l i)) k ≡ number l
  whole_number k n = worth l k (omega arith) ∙ ap number (ap (λ (m : ℕ). take m l) (sym n) ∙ take-length l)

  pub two_worth : length l ≡ 2 → from_le_bytes w16 l ≡ number l
  two_worth = whole_number 1

  pub four_worth : length l ≡ 4 → from_le_bytes w32 l ≡ number l
  four_worth = whole_number 3

  pub eight_worth : length l ≡ 8 → from_le_bytes w64 l ≡ number l
  eight_worth = whole_number 7

-- a field is the number of its bytes
module _ (at : ℕ) (r l : List ℕ) where
  part_number : (k : ℕ) → l ≡ take (suc k) (drop at r) → length l ≡ suc k
      → sum_through (λ i. byte_worth i (slice_index l i)) k ≡ field at (suc k) r
  unfolding field
  part_number k e n = whole_number l k n ∙ ap number e

  pub one_number : l ≡ take 1 (drop at r) → length l ≡ 1 → slice_index l 0 ≡ field at 1 r
  one_number = part_number 0

  pub two_number : l ≡ take 2 (drop at r) → length l ≡ 2 → from_le_bytes w16 l ≡ field at 2 r
  two_number = part_number 1

  pub four_number : l ≡ take 4 (drop at r) → length l ≡ 4 → from_le_bytes w32 l ≡ field at 4 r
  four_number = part_number 3

  pub eight_number : l ≡ take 8 (drop at r) → length l ≡ 8 → from_le_bytes w64 l ≡ field at 8 r
  eight_number = part_number 7
