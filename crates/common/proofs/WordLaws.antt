-- Bytes of numbers under masks and shifts, and the 32-bit word that four bytes make.
use Prim.Native.Nat.{ℕ, zero, suc, ◌+◌, ◌-◌, ◌*◌, ◌/◌, ◌%◌, ◌^◌, ◌<◌}
use mathlib.Core.Path.{◌≡◌, sym, ◌∙◌}
use native.Mathlib.Nat.{mod-eq_of_lt}
use native.Mathlib.Omega.{arith}
use lib.Bits.{bit_and, bit_or, and_shr, and_mod, or_shr, or_mod}
use lib.Pow.{shl-shr, shr-shr, field, mod-mod-pow, mod-pow-add}
use Rattle.common.specs.Bytes.{byte, bytes, number, set_byte}

pub byte_and : (k a b : ℕ) → byte k (bit_and a b) ≡ bit_and (byte k a) (byte k b)
byte_and k a b = rw (and_shr a b (8 * k)) (and_mod (a / 2 ^ (8 * k)) (b / 2 ^ (8 * k)) 8)

pub byte_or : (k a b : ℕ) → byte k (bit_or a b) ≡ bit_or (byte k a) (byte k b)
byte_or k a b = rw (or_shr a b (8 * k)) (or_mod (a / 2 ^ (8 * k)) (b / 2 ^ (8 * k)) 8)

-- a number shifted up by k bytes, and one cut to its k lowest
pub byte_shifted : (i k x : ℕ) → byte (i + k) (x * 2 ^ (8 * k)) ≡ byte i x
byte_shifted i k x =
    let e : 8 * (i + k) ≡ 8 * k + 8 * i = omega arith in
    rw (e, ← shr-shr (x * 2 ^ (8 * k)) (8 * k) (8 * i), shl-shr x (8 * k))

pub byte_mod : (i k x : ℕ) → i < k → byte i (x % 2 ^ (8 * k)) ≡ byte i x
byte_mod i k x h =
    let e : 8 * k ≡ 8 * (k - i) + 8 * i = omega arith in
    let f : 8 * (k - i) ≡ 8 * (k - i - 1) + 8 = omega arith in
    rw (e, field x (8 * (k - i)) (8 * i), f, mod-mod-pow (x / 2 ^ (8 * i)) (8 * (k - i - 1)) 8)

-- n bytes of a number from byte k on
abbrev pub part : ℕ → ℕ → ℕ → ℕ
part zero k x = 0
part (suc n) k x = byte k x + 256 * part n (suc k) x

pub cut : (n k x : ℕ) → x / 2 ^ (8 * k) % 2 ^ (8 * n) ≡ part n k x
cut zero k x = omega arith
cut (suc n) k x =
    let e : 8 * suc n ≡ 8 * n + 8 = omega arith in
    let f : 8 * suc k ≡ 8 * k + 8 = omega arith in
    let rest : x / 2 ^ (8 * k) / 2 ^ 8 % 2 ^ (8 * n) ≡ part n (suc k) x = rw (shr-shr x (8 * k) 8, ← f) (cut n (suc k) x) in
    rw (e, mod-pow-add (x / 2 ^ (8 * k)) (8 * n) 8, rest) (omega arith)

-- the low half and the low word of a number, the high word of one of 64 bits, and a whole word
pub low_half : (x : ℕ) → x % 2 ^ 16 ≡ part 2 0 x
low_half x = let e : x % 2 ^ 16 ≡ x / 2 ^ (8 * 0) % 2 ^ (8 * 2) = omega arith in e ∙ cut 2 0 x

pub low_word : (x : ℕ) → x % 2 ^ 32 ≡ part 4 0 x
low_word x = let e : x % 2 ^ 32 ≡ x / 2 ^ (8 * 0) % 2 ^ (8 * 4) = omega arith in e ∙ cut 4 0 x

pub high_word : (x : ℕ) → x < 2 ^ 64 → x / 2 ^ 32 ≡ part 4 4 x
high_word x h = let e : x / 2 ^ 32 ≡ x / 2 ^ (8 * 4) % 2 ^ (8 * 4) = omega arith in e ∙ cut 4 4 x

pub whole_word : (x : ℕ) → x < 2 ^ 32 → x ≡ part 4 0 x
whole_word x h = sym (mod-eq_of_lt h) ∙ low_word x

-- what holds of each of a word's bytes
pub each_byte : (P : ℕ → Type 0) → P 0 → P 1 → P 2 → P 3 → (j : ℕ) → j < 4 → P j
each_byte P a b c d zero h = a
each_byte P a b c d (suc zero) h = b
each_byte P a b c d (suc (suc zero)) h = c
each_byte P a b c d (suc (suc (suc zero))) h = d
each_byte P a b c d (suc (suc (suc (suc j)))) h = absurd (omega arith)

pub byte_not : (m : ℕ) → m < 2 ^ 32 → (j : ℕ) → j < 4 → byte j (2 ^ 32 - 1 - m) ≡ 255 - byte j m
byte_not m h =
    each_byte (λ j. byte j (2 ^ 32 - 1 - m) ≡ 255 - byte j m) (omega arith) (omega arith) (omega arith) (omega arith)

-- words that agree in each byte are the same
pub same_word : (x y : ℕ) → x < 2 ^ 32 → y < 2 ^ 32 → ((j : ℕ) → j < 4 → byte j x ≡ byte j y) → x ≡ y
same_word x y hx hy e =
    let all : part 4 0 x ≡ part 4 0 y = rw (e 0 (omega arith), e 1 (omega arith), e 2 (omega arith), e 3 (omega arith)) in
    whole_word x hx ∙ all ∙ sym (whole_word y hy)

-- a number with a byte replaced is a word
pub set_byte_small : (k b x : ℕ) → b < 256 → set_byte k b x < 2 ^ 32
unfolding set_byte bytes number
set_byte_small zero b x h = omega arith
set_byte_small (suc zero) b x h = omega arith
set_byte_small (suc (suc zero)) b x h = omega arith
set_byte_small (suc (suc (suc zero))) b x h = omega arith
set_byte_small (suc (suc (suc (suc k)))) b x h = omega arith
