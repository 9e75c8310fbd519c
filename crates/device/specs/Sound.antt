-- R33 to R35: a hub is sound where its numbers would be accepted, no bit of a connected peer is set that a write cannot set, and
-- all that belongs to a peer that is not connected is at its reset values.
use Rattle.std.specs.Prelude.{Bool, cond, ◌&&◌, [], ◌∷◌, eqb}
use Rattle.common.specs.Bytes.{only}
use Rattle.common.specs.Tests.{every, below}
use Rattle.device.specs.declared.Entry.{Entry}
use Rattle.device.specs.declared.Peer.{Peer}
use Rattle.device.specs.declared.Settings.{Settings}
use Rattle.device.specs.Configuration.{mask_of}
use Rattle.device.specs.Msix.{address_mask, control_mask}
use Rattle.device.specs.SetUp.{accepted}
use Rattle.device.specs.World.{Hub, Slot, slot_at, entry_at}

-- every fixed bit of a connected peer's registers is 0: no bit is set but those that a write can set
unfoldable pub peer_fixed : Settings → Peer → Bool
peer_fixed s p =
    every
    (only (mask_of s 0x04 2) p.command
    ∷ only (mask_of s 0x10 4) p.bar0
    ∷ only (mask_of s 0x14 4) p.bar1
    ∷ only (mask_of s 0x43 1) p.privileged
    ∷ only (mask_of s 0x63 1) p.message
    ∷ only 1 p.interrupt
    ∷ [])

unfoldable pub peer_reset : Peer → Bool
peer_reset p =
    every
    (eqb p.connected 0
    ∷ eqb p.command 0
    ∷ eqb p.bar0 0
    ∷ eqb p.bar1 0
    ∷ eqb p.privileged 0
    ∷ eqb p.message 0
    ∷ eqb p.interrupt 0
    ∷ eqb p.state 0
    ∷ [])

unfoldable pub entry_fixed : Entry → Bool
entry_fixed e = every (only address_mask e.low ∷ only control_mask e.control ∷ [])

unfoldable pub entry_reset : Entry → Bool
entry_reset e = every (eqb e.low 0 ∷ eqb e.high 0 ∷ eqb e.payload 0 ∷ eqb e.control 1 ∷ [])

-- R34 of a connected peer, R35 of one that is not: its registers, and each of its entries
unfoldable pub peer_sound : Settings → Peer → Bool
peer_sound s p = cond (eqb p.connected 1) (peer_fixed s p) (peer_reset p)

unfoldable pub entry_sound : Peer → Entry → Bool
entry_sound p e = cond (eqb p.connected 1) (entry_fixed e) (entry_reset e)

unfoldable pub slot_sound : Settings → Slot → Bool
slot_sound s slot = peer_sound s slot.peer && below s.vectors (λ v. entry_sound slot.peer (entry_at slot v))

-- every slot of every peer; there are no unused ones
unfoldable pub sound : Hub → Bool
sound hub = accepted hub.settings && below hub.settings.peers (λ i. slot_sound hub.settings (slot_at hub i))
