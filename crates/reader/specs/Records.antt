-- C-17: a record is one byte of kind and a signed little-endian number of 8 bytes (R82).
use Rattle.std.specs.Prelude.{ℕ, ◌-◌, ◌^◌, Bool, cond, List, eqb, ltb, ℤ, pos, negsuc, take, drop, get_or}
use Rattle.common.specs.Bytes.{number}

pub record Record : Type 0 where
  pub kind : ℕ
  pub value : ℤ

abbrev pub record_of : ℕ → ℤ → Record
record_of kind value = record { kind = kind; value = value }

-- how many bytes a record has, and how many of them are held at the most
abbrev pub record_bytes : ℕ
record_bytes = 9

abbrev pub held_places : ℕ
held_places = 8

-- the number whose two's complement of 64 bits this is
unfoldable pub signed : ℕ → ℤ
signed x = cond (ltb x (2 ^ 63)) (pos x) (negsuc (2 ^ 64 - 1 - x))

-- the record at the front of bytes
unfoldable pub record_in : List ℕ → Record
record_in bs = record_of (get_or bs 0 0) (signed (number (take 8 (drop 1 bs))))

-- R82: kind 00h comes without a descriptor, kind 01h with one
abbrev pub without_descriptor : Record → Bool
without_descriptor r = eqb r.kind 0

abbrev pub with_descriptor : Record → Bool
with_descriptor r = eqb r.kind 1
