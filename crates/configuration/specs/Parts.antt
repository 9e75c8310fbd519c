-- An access to configuration space as it meets the one aligned 32-bit word that it lies in.
use Rattle.std.specs.Prelude.{ℕ, ◌-◌, ◌*◌, ◌/◌, ◌^◌, cond, eqb, ltb}
use Rattle.std.specs.Int.Bits.{bit_and, bit_or}
use Rattle.common.specs.Bytes.{merge}
use Rattle.device.specs.Configuration.{mask_at, mask_of}
use Rattle.device.specs.declared.Peer.{Peer}
use Rattle.device.specs.declared.Settings.{Settings}

-- the bits of the byte lanes that an access of `width` bytes enables, `place` bytes into its word
abbrev pub lanes : ℕ → ℕ → ℕ
lanes place width = (2 ^ (8 * width) - 1) * 2 ^ (8 * place)

-- a word of which a write replaces only the bits of a mask
abbrev pub merge_word : ℕ → ℕ → ℕ → ℕ
merge_word mask old new = bit_or (bit_and old (2 ^ 32 - 1 - mask)) (bit_and new mask)

-- a register that is the last byte of its word, written only where that byte's lane is enabled
abbrev pub merge_last : ℕ → ℕ → ℕ → ℕ → ℕ
merge_last bits mask old new = cond (ltb bits (2 ^ 24)) old (merge mask old (new / 2 ^ 24))

-- the registers after a write to the word at an offset: of the bits of the enabled lanes, those of the mask become the value's
unfoldable pub word_written : Settings → Peer → ℕ → ℕ → ℕ → Peer
word_written s p at bits new =
    record {
      connected = p.connected;
      command = cond (eqb at 0x04) (merge_word (bit_and bits (mask_of s 0x04 4)) p.command new) p.command;
      bar0 = cond (eqb at 0x10) (merge_word (bit_and bits (mask_of s 0x10 4)) p.bar0 new) p.bar0;
      bar1 = cond (eqb at 0x14) (merge_word (bit_and bits (mask_of s 0x14 4)) p.bar1 new) p.bar1;
      privileged = cond (eqb at 0x40) (merge_last bits (mask_at s 0x43) p.privileged new) p.privileged;
      message = cond (eqb at 0x60) (merge_last bits (mask_at s 0x63) p.message new) p.message;
      interrupt = p.interrupt;
      state = p.state;
    }
