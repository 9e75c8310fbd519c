-- Refusals (R19 to R32): the numbers of the table in their order, 10, 2, 11, 3, 4 or 5, 6, 7, 8, 9. Number 1 is given at
-- set-up alone, which is handed no hub and has its own order (SetUp).
use Rattle.std.specs.Prelude.{ℕ, ◌+◌, ◌%◌, Bool, false, not, ◌||◌, List, [], ◌∷◌, eqb, leb, ltb, length}
use Rattle.common.specs.Tests.{Row, row, first}
use Rattle.device.specs.declared.Settings.{Settings}
use Rattle.device.specs.Call.{Act, Call}
use Rattle.device.specs.Call.Act.{connect, disconnect, reset, configuration_read, configuration_write}
use Rattle.device.specs.Call.Act.{register_read, register_write, msix_read, msix_write, question, load, store}
use Rattle.device.specs.Sections.{section_of, somewhere, may_store}
use Rattle.device.specs.SetUp.{total}
use Rattle.device.specs.Sound.{sound}
use Rattle.device.specs.World.{World, slot_at}

-- What the host lends to a call (R4): nothing, the region, or the region and a delivery table of so many records.
pub data Lent : Type 0 where
  nothing region : Lent
  region_and_table : (records : ℕ) → Lent

unfoldable pub lent_to : Act → Lent
lent_to connect = Lent.nothing
lent_to (disconnect n) = Lent.region_and_table n
lent_to (reset n) = Lent.region_and_table n
lent_to (configuration_read at w) = Lent.nothing
lent_to (configuration_write at w x) = Lent.nothing
lent_to (register_read at w) = Lent.nothing
lent_to (register_write n at w x) = Lent.region_and_table n
lent_to (msix_read at w) = Lent.nothing
lent_to (msix_write at w x) = Lent.nothing
lent_to (question at n) = Lent.nothing
lent_to (load at n) = Lent.region
lent_to (store at bs) = Lent.region

-- What a call reaches for: to become connected, nothing further, a space of 256 or 4096 bytes, or a range of the shared region,
-- to be looked at or to be stored to.
pub data Access : Type 0 where
  joining none : Access
  configuration : (offset width : ℕ) → Access
  registers : (offset width : ℕ) → Access
  shared : (offset length : ℕ) → Access
  storing : (offset length : ℕ) → Access

unfoldable pub access_of : Act → Access
access_of connect = Access.joining
access_of (disconnect n) = Access.none
access_of (reset n) = Access.none
access_of (configuration_read at w) = Access.configuration at w
access_of (configuration_write at w x) = Access.configuration at w
access_of (register_read at w) = Access.registers at w
access_of (register_write n at w x) = Access.registers at w
access_of (msix_read at w) = Access.registers at w
access_of (msix_write at w x) = Access.registers at w
access_of (question at n) = Access.shared at n
access_of (load at n) = Access.shared at n
access_of (store at bs) = Access.storing at (length bs)

-- 2: 'the lent region's length is not T'
unfoldable pub wrong_region : Settings → List ℕ → Lent → Bool
wrong_region s bytes Lent.nothing = false
wrong_region s bytes Lent.region = not (eqb (length bytes) (total s))
wrong_region s bytes (Lent.region_and_table n) = not (eqb (length bytes) (total s))

-- 11: 'the lent delivery table has fewer than N records'
unfoldable pub short_table : Settings → Lent → Bool
short_table s Lent.nothing = false
short_table s Lent.region = false
short_table s (Lent.region_and_table n) = ltb n s.peers

-- 4: 'the peer is not connected; for every call by or on it but connect'
unfoldable pub missing : Bool → Access → Bool
missing connected Access.joining = false
missing connected Access.none = not connected
missing connected (Access.configuration at w) = not connected
missing connected (Access.registers at w) = not connected
missing connected (Access.shared at n) = not connected
missing connected (Access.storing at n) = not connected

-- 5: 'connect of a connected peer'
unfoldable pub present : Bool → Access → Bool
present connected Access.joining = connected
present connected Access.none = false
present connected (Access.configuration at w) = false
present connected (Access.registers at w) = false
present connected (Access.shared at n) = false
present connected (Access.storing at n) = false

-- 6: 'width not allowed', 'shared length 0'
unfoldable pub wrong_width : Access → Bool
wrong_width Access.joining = false
wrong_width Access.none = false
wrong_width (Access.configuration at w) = not (eqb w 1 || eqb w 2 || eqb w 4)
wrong_width (Access.registers at w) = not (eqb w 4)
wrong_width (Access.shared at n) = eqb n 0
wrong_width (Access.storing at n) = eqb n 0

-- 7: 'the offset is not a multiple of the width; never for shared bytes'
unfoldable pub misaligned : Access → Bool
misaligned Access.joining = false
misaligned Access.none = false
misaligned (Access.configuration at w) = not (eqb (at % w) 0)
misaligned (Access.registers at w) = not (eqb (at % w) 0)
misaligned (Access.shared at n) = false
misaligned (Access.storing at n) = false

-- 8: 'offset + width is above the size of the space', 'no section holds the whole shared range'
unfoldable pub outside : Settings → Access → Bool
outside s Access.joining = false
outside s Access.none = false
outside s (Access.configuration at w) = ltb 256 (at + w)
outside s (Access.registers at w) = ltb 4096 (at + w)
outside s (Access.shared at n) = not (somewhere (section_of s at n))
outside s (Access.storing at n) = not (somewhere (section_of s at n))

-- 9: 'a store to the State Table or to another peer's output section'
unfoldable pub forbidden : Settings → ℕ → Access → Bool
forbidden s who Access.joining = false
forbidden s who Access.none = false
forbidden s who (Access.configuration at w) = false
forbidden s who (Access.registers at w) = false
forbidden s who (Access.shared at n) = false
forbidden s who (Access.storing at n) = not (may_store who (section_of s at n))

unfoldable pub is_connected : World → ℕ → Bool
is_connected w who = eqb (slot_at w.hub who).peer.connected 1

-- The table, in the order of the checks.
abbrev pub checks : World → ℕ → Lent → Access → List Row
checks w who lent access =
    row 10 (not (sound w.hub))
    ∷ row 2 (wrong_region w.hub.settings w.region lent)
    ∷ row 11 (short_table w.hub.settings lent)
    ∷ row 3 (leb w.hub.settings.peers who)
    ∷ row 4 (missing (is_connected w who) access)
    ∷ row 5 (present (is_connected w who) access)
    ∷ row 6 (wrong_width access)
    ∷ row 7 (misaligned access)
    ∷ row 8 (outside w.hub.settings access)
    ∷ row 9 (forbidden w.hub.settings who access)
    ∷ []

-- the number of the first check that fails; 0 where the call is accepted
unfoldable pub refusal : World → Call → ℕ
refusal w c = first (checks w c.who (lent_to c.act) (access_of c.act))
