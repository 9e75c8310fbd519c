-- The MSI-X region, 4096 bytes (R47 to R49).
use Rattle.std.specs.Prelude.{ℕ, ◌/◌, ◌%◌, Bool, cond, eqb, ltb}
use Rattle.std.specs.Int.Bits.{bit_and}
use Rattle.device.specs.declared.Entry.{Entry}
use Rattle.device.specs.declared.Settings.{Settings}
use Rattle.device.specs.Registers.{memory_on, unmapped}
use Rattle.device.specs.World.{Slot, entry_at, with_entry}

-- the vector whose entry an offset lies in, and which of the entry's four words it is
abbrev pub vector_at : ℕ → ℕ
vector_at at = at / 16

abbrev pub word_at : ℕ → ℕ
word_at at = at % 16 / 4

-- R47: for v below V, entry v stands at 16v; all else, the pending bits at 800h among it, reads 0 and takes no store
unfoldable pub in_table : Settings → ℕ → Bool
in_table s at = ltb (vector_at at) s.vectors

-- address low, address high, data, control
unfoldable pub entry_word : Entry → ℕ → ℕ
entry_word e k = cond (eqb k 0) e.low (cond (eqb k 1) e.high (cond (eqb k 2) e.payload e.control))

unfoldable pub table_word : Settings → Slot → ℕ → ℕ
table_word s slot at = cond (in_table s at) (entry_word (entry_at slot (vector_at at)) (word_at at)) 0

unfoldable pub msix_read : Settings → Slot → ℕ → ℕ
msix_read s slot at = cond (memory_on slot.peer) (table_word s slot at) unmapped

-- R48: bits 0 and 1 of the low address are fixed at 0, and so is all of control but bit 0
abbrev pub address_mask : ℕ
address_mask = 0xFFFFFFFC

abbrev pub word_mask : ℕ
word_mask = 0xFFFFFFFF

abbrev pub control_mask : ℕ
control_mask = 0x00000001

unfoldable pub with_word : Entry → ℕ → ℕ → Entry
with_word e k value =
    record {
      low = cond (eqb k 0) (bit_and value address_mask) e.low;
      high = cond (eqb k 1) (bit_and value word_mask) e.high;
      payload = cond (eqb k 2) (bit_and value word_mask) e.payload;
      control = cond (eqb k 3) (bit_and value control_mask) e.control;
    }

unfoldable pub msix_written : Settings → Slot → ℕ → ℕ → Slot
msix_written s slot at value =
    cond (in_table s at) (with_entry slot (vector_at at) (with_word (entry_at slot (vector_at at)) (word_at at) value)) slot
