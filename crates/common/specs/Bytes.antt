-- Numbers as little-endian bytes, and bits of numbers.
use Rattle.std.specs.Prelude.{ℕ, zero, suc, ◌+◌, ◌-◌, ◌*◌, ◌/◌, ◌%◌, ◌^◌, Bool, List, [], ◌∷◌, eqb, set}
use Rattle.std.specs.Int.Bits.{bit_and, bit_or}

-- bit k of a number is 1
abbrev pub bit : ℕ → ℕ → Bool
bit k x = eqb (x / 2 ^ k % 2) 1

-- byte k of a number, byte 0 being the lowest
abbrev pub byte : ℕ → ℕ → ℕ
byte k x = x / 2 ^ (8 * k) % 256

-- the n lowest bytes of a number, little-endian
unfoldable pub bytes : ℕ → ℕ → List ℕ
bytes zero x = []
bytes (suc n) x = x % 256 ∷ bytes n (x / 256)

-- the number that little-endian bytes make
unfoldable pub number : List ℕ → ℕ
number [] = 0
number (b ∷ bs) = b + 256 * number bs

-- a 32-bit word with its byte k replaced
unfoldable pub set_byte : ℕ → ℕ → ℕ → ℕ
set_byte k b x = number (set (bytes 4 x) k b)

-- a byte of which a write replaces only the bits of a mask: (old and not mask) or (new and mask)
abbrev pub merge : ℕ → ℕ → ℕ → ℕ
merge mask old new = bit_or (bit_and old (255 - mask)) (bit_and new mask)

-- no bit outside the mask is set
abbrev pub only : ℕ → ℕ → Bool
only mask x = eqb (bit_and x mask) x
