-- Laws of specs/Bytes.antt: a number and its bytes, a byte replaced, and a byte written under a mask.
use Prim.Native.Nat.{ℕ, zero, suc, ◌+◌, ◌-◌, ◌*◌, ◌/◌, ◌%◌, ◌^◌, ◌<◌}
use mathlib.Core.Path.{◌≡◌, refl, sym, ap, ◌∙◌}
use mathlib.Core.List.{List, [], ◌∷◌, ◌++◌}
use native.Mathlib.Omega.{arith}
use native.Mathlib.Nat.{zero-div, le_of_suc-le-suc}
use lib.Bits.{bit_and, bit_or, and_le_r, and_zero_r, or_zero_r, or_lt, and_mask}
use lib.ListN.{length, get_or, set}
use lib.Pow.{shr-shr}
use lib.Seq.{get_or-set_same, get_or-set_other}
use Rattle.common.specs.Bytes.{byte, bytes, number, set_byte, merge}
use Rattle.common.specs.Lists.{tabulate}

pub length_bytes : (n x : ℕ) → length (bytes n x) ≡ n
unfolding bytes
length_bytes zero x = refl
length_bytes (suc n) x = ap suc (length_bytes n (x / 256))

-- the bytes above the lowest are those of the number without it
pub byte_suc : (k x : ℕ) → byte (suc k) x ≡ byte k (x / 256)
byte_suc k x =
    let e : 8 * suc k ≡ 8 + 8 * k = omega arith in
    ap (λ (i : ℕ). x / 2 ^ i % 256) e ∙ ap (λ (q : ℕ). q % 256) (sym (shr-shr x 8 (8 * k)))

pub byte_zero : (x : ℕ) → byte 0 x ≡ x % 256
byte_zero x = omega arith

pub get_d_bytes : (n x j : ℕ) → j < n → get_or (bytes n x) j 0 ≡ byte j x
unfolding bytes
get_d_bytes zero x j h = absurd (omega arith)
get_d_bytes (suc n) x zero h = sym (byte_zero x)
get_d_bytes (suc n) x (suc j) h = get_d_bytes n (x / 256) j (le_of_suc-le-suc h) ∙ sym (byte_suc j x)

pub bytes_small : (n x i : ℕ) → get_or (bytes n x) i 0 < 256
unfolding bytes
bytes_small zero x i = omega arith
bytes_small (suc n) x zero = omega arith
bytes_small (suc n) x (suc i) = bytes_small n (x / 256) i

-- byte j of the number that bytes make is the byte at j
pub byte_number : (bs : List ℕ) (j : ℕ) → ((i : ℕ) → get_or bs i 0 < 256) → byte j (number bs) ≡ get_or bs j 0
unfolding number
byte_number [] j h = ap (λ (q : ℕ). q % 256) (zero-div (2 ^ (8 * j)))
byte_number (b ∷ bs) zero h = byte_zero (b + 256 * number bs) ∙ omega (arith, h 0)
byte_number (b ∷ bs) (suc j) h =
    let rest : (b + 256 * number bs) / 256 ≡ number bs = omega (arith, h 0) in
    byte_suc j (b + 256 * number bs) ∙ ap (λ (q : ℕ). byte j q) rest ∙ byte_number bs j (λ i. h (suc i))

set_small : (l : List ℕ) (k b i : ℕ) → ((i : ℕ) → get_or l i 0 < 256) → b < 256 → get_or (set l k b) i 0 < 256
set_small [] k b i h hb = omega arith
set_small (x ∷ l) zero b zero h hb = hb
set_small (x ∷ l) zero b (suc i) h hb = h (suc i)
set_small (x ∷ l) (suc k) b zero h hb = h 0
set_small (x ∷ l) (suc k) b (suc i) h hb = set_small l k b i (λ i. h (suc i)) hb

byte_set_byte : (k j b x : ℕ) → b < 256 → byte j (set_byte k b x) ≡ get_or (set (bytes 4 x) k b) j 0
unfolding set_byte
byte_set_byte k j b x h = byte_number (set (bytes 4 x) k b) j (λ i. set_small (bytes 4 x) k b i (bytes_small 4 x) h)

-- the byte replaced, and the others
pub byte_set_byte_same : (k b x : ℕ) → k < 4 → b < 256 → byte k (set_byte k b x) ≡ b
byte_set_byte_same k b x hk hb =
    byte_set_byte k k b x hb ∙ get_or-set_same (bytes 4 x) k b 0 (rw (length_bytes 4 x) hk)

pub byte_set_byte_other : (k j b x : ℕ) → (j ≡ k → ⊥) → j < 4 → b < 256 → byte j (set_byte k b x) ≡ byte j x
byte_set_byte_other k j b x ne hj hb =
    byte_set_byte k j b x hb ∙ get_or-set_other (bytes 4 x) k j b 0 ne ∙ get_d_bytes 4 x j hj

pub merge_small : (mask old new : ℕ) → mask < 256 → merge mask old new < 256
merge_small mask old new h =
    or_lt 8 (bit_and old (255 - mask)) (bit_and new mask) (omega (arith, and_le_r old (255 - mask))) (omega (arith, and_le_r new mask))

-- where the mask is 0 a byte stays
pub merge_zero : (old new : ℕ) → old < 256 → merge 0 old new ≡ old
merge_zero old new h =
    ap (λ (x : ℕ). bit_or (bit_and old 255) x) (and_zero_r new) ∙ or_zero_r (bit_and old 255) ∙ and_mask old 8 ∙ omega arith

-- a number of bytes given by their index, from its lowest byte
tabulate_cons : (n : ℕ) (f : ℕ → ℕ) → tabulate (suc n) f ≡ f 0 ∷ tabulate n (λ j. f (suc j))
unfolding tabulate
tabulate_cons zero f = refl
tabulate_cons (suc n) f = ap (λ (l : List ℕ). l ++ (f (suc n) ∷ [])) (tabulate_cons n f)

pub number_tabulate : (n : ℕ) (f : ℕ → ℕ) → number (tabulate (suc n) f) ≡ f 0 + 256 * number (tabulate n (λ j. f (suc j)))
unfolding number
number_tabulate n f = ap (λ (l : List ℕ). number l) (tabulate_cons n f)
