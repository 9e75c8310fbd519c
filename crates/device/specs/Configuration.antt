-- Configuration space, 256 bytes (R37 to R44).
use Rattle.std.specs.Prelude.{ℕ, zero, suc, ◌+◌, ◌-◌, ◌*◌, ◌/◌, ◌%◌, Bool, cond, ◌&&◌, List, [], ◌∷◌, ◌++◌, eqb, leb, ltb}
use Rattle.common.specs.Bytes.{byte, set_byte, merge}
use Rattle.device.specs.declared.Peer.{Peer}
use Rattle.device.specs.declared.Settings.{Settings}

-- a row of the table: `size` bytes from `start` hold `content`
pub record Field : Type 0 where
  pub start : ℕ
  pub size : ℕ
  pub content : ℕ

abbrev pub field : ℕ → ℕ → ℕ → Field
field start size content = record { start = start; size = size; content = content }

-- The table of R38, in three parts: the header's registers, the vendor-specific capability at 40h and the MSI-X capability
-- at 60h.
abbrev pub header_fields : Settings → Peer → List Field
header_fields s p =
    field 0x00 2 0x110A
    ∷ field 0x02 2 0x4106
    ∷ field 0x04 2 p.command
    ∷ field 0x06 2 0x0010
    ∷ field 0x08 1 0x00
    ∷ field 0x09 2 s.protocol
    ∷ field 0x0B 1 0xFF
    ∷ field 0x10 4 p.bar0
    ∷ field 0x14 4 p.bar1
    ∷ field 0x2C 2 s.vendor
    ∷ field 0x2E 2 s.subsystem
    ∷ field 0x34 1 0x40
    ∷ []

abbrev pub vendor_fields : Settings → Peer → List Field
vendor_fields s p =
    field 0x40 1 0x09
    ∷ field 0x41 1 0x60
    ∷ field 0x42 1 0x20
    ∷ field 0x43 1 p.privileged
    ∷ field 0x44 4 s.table
    ∷ field 0x48 8 s.common
    ∷ field 0x50 8 s.output
    ∷ field 0x58 8 s.base
    ∷ []

-- Message Control is given as its two bytes: V - 1 fits the low one
abbrev pub msix_fields : Settings → Peer → List Field
msix_fields s p =
    field 0x60 1 0x11
    ∷ field 0x61 1 0x00
    ∷ field 0x62 1 (s.vectors - 1)
    ∷ field 0x63 1 p.message
    ∷ field 0x64 4 0x00000001
    ∷ field 0x68 4 0x00000801
    ∷ []

unfoldable pub fields : Settings → Peer → List Field
fields s p = header_fields s p ++ (vendor_fields s p ++ msix_fields s p)

-- an offset is one of the `size` from `start`
abbrev pub within : ℕ → ℕ → ℕ → Bool
within start size at = leb start at && ltb at (start + size)

-- the byte at an offset; an offset with no rule reads 0
unfoldable pub field_byte : ℕ → List Field → ℕ
field_byte at [] = 0
field_byte at (f ∷ fs) = cond (within f.start f.size at) (byte (at - f.start) f.content) (field_byte at fs)

unfoldable pub configuration_byte : Settings → Peer → ℕ → ℕ
configuration_byte s p at = field_byte at (fields s p)

-- a read of some bytes, little-endian
unfoldable pub configuration_read : Settings → Peer → ℕ → ℕ → ℕ
configuration_read s p at zero = 0
configuration_read s p at (suc width) = configuration_byte s p at + 256 * configuration_read s p (suc at) width

-- The mask of each byte: the bits that a write replaces.
pub record Mask : Type 0 where
  pub at : ℕ
  pub bits : ℕ

abbrev pub mask : ℕ → ℕ → Mask
mask at bits = record { at = at; bits = bits }

-- a function of the settings, as the contents are: what a device offers is chosen at set-up, though no mask depends on it today
unfoldable pub masks : Settings → List Mask
masks s =
    mask 0x04 0x06
    ∷ mask 0x05 0x04
    ∷ mask 0x11 0xF0
    ∷ mask 0x15 0xF0
    ∷ mask 0x12 0xFF
    ∷ mask 0x13 0xFF
    ∷ mask 0x16 0xFF
    ∷ mask 0x17 0xFF
    ∷ mask 0x43 0x01
    ∷ mask 0x63 0xC0
    ∷ []

-- R41: a byte that no row gives a mask has mask 00h
unfoldable pub mask_in : ℕ → List Mask → ℕ
mask_in at [] = 0x00
mask_in at (m ∷ ms) = cond (eqb at m.at) m.bits (mask_in at ms)

unfoldable pub mask_at : Settings → ℕ → ℕ
mask_at s at = mask_in at (masks s)

-- the mask of a field of `size` bytes, as one number
unfoldable pub mask_of : Settings → ℕ → ℕ → ℕ
mask_of s at zero = 0
mask_of s at (suc size) = mask_at s at + 256 * mask_of s (suc at) size

-- the registers with the byte at an offset replaced; only offsets that a mask names are kept in registers
unfoldable pub with_byte : Peer → ℕ → ℕ → Peer
with_byte p at b =
    record {
      connected = p.connected;
      command = cond (within 0x04 2 at) (set_byte (at - 0x04) b p.command) p.command;
      bar0 = cond (within 0x10 4 at) (set_byte (at - 0x10) b p.bar0) p.bar0;
      bar1 = cond (within 0x14 4 at) (set_byte (at - 0x14) b p.bar1) p.bar1;
      privileged = cond (eqb at 0x43) b p.privileged;
      message = cond (eqb at 0x63) b p.message;
      interrupt = p.interrupt;
      state = p.state;
    }

-- R42: of a byte a write replaces the bits of the mask alone
unfoldable pub written_byte : Settings → Peer → ℕ → ℕ → Peer
written_byte s p at b = with_byte p at (merge (mask_at s at) (configuration_byte s p at) b)

-- the low bytes of the value, from the lowest
unfoldable pub configuration_written : Settings → Peer → ℕ → ℕ → ℕ → Peer
configuration_written s p at zero value = p
configuration_written s p at (suc width) value =
    configuration_written s (written_byte s p at (value % 256)) (suc at) width (value / 256)
