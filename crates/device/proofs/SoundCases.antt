-- Hubs that are sound and hubs that are not, two tables, each checked by one theorem: one hub for each field and each clause of
-- R33 to R35. So soundness itself is held to the rules, and not only the code to it. (Unused slots and vectors there are none.)
use Prim.Native.Nat.{ℕ, ◌-◌, ◌^◌}
use mathlib.Core.Bool.{true, not}
use mathlib.Core.List.{List, [], ◌∷◌, ◌++◌, map}
use mathlib.Core.Path.{◌≡◌, refl}
use Rattle.common.specs.Tests.{every, below}
use Rattle.device.specs.declared.Entry.{Entry}
use Rattle.device.specs.declared.Peer.{Peer}
use Rattle.device.specs.declared.Settings.{Settings}
use Rattle.device.specs.Configuration.{masks, mask_in, mask_at, mask_of}
use Rattle.device.specs.Reset.{reset_peer, reset_entry}
use Rattle.device.specs.SetUp.{total, accepted}
use Rattle.device.specs.Sizes.{max_peers, max_vectors}
use Rattle.device.specs.Sound.{peer_fixed, peer_reset, entry_fixed, entry_reset, peer_sound, entry_sound, slot_sound, sound}
use Rattle.device.specs.World.{Hub, Slot, zero_slot}

-- N, V, S, R, O, base, protocol type, subsystem vendor, subsystem id
abbrev numbers : ℕ → ℕ → ℕ → ℕ → ℕ → ℕ → ℕ → ℕ → ℕ → Settings
numbers n v s r o base protocol vendor subsystem =
    record { peers = n; vectors = v; table = s; common = r; output = o; base = base; protocol = protocol; vendor = vendor; subsystem = subsystem }

-- Command, BAR 0, BAR 1, Privileged Control, Message Control, Interrupt Control, State
abbrev peer : ℕ → ℕ → ℕ → ℕ → ℕ → ℕ → ℕ → ℕ → Peer
peer connected command bar0 bar1 privileged message interrupt state =
    record {
      connected = connected;
      command = command;
      bar0 = bar0;
      bar1 = bar1;
      privileged = privileged;
      message = message;
      interrupt = interrupt;
      state = state;
    }

abbrev entry : ℕ → ℕ → ℕ → ℕ → Entry
entry low high payload control = record { low = low; high = high; payload = payload; control = control }

-- two peers, two vectors
abbrev two : Settings
two = numbers 2 2 4096 0 0 0x40000000 0 0 0

-- a connected peer and an entry with every bit set that can be written
abbrev full : Peer
full = peer 1 0x0406 0xFFFFF000 0xFFFFF000 0x01 0xC0 0x01 0xFFFFFFFF

abbrev full_entry : Entry
full_entry = entry 0xFFFFFFFC 0xFFFFFFFF 0xFFFFFFFF 0x01

abbrev slot : Peer → Entry → Entry → Slot
slot p e f = record { peer = p; entries = e ∷ f ∷ [] }

abbrev hub : Settings → Slot → Slot → Hub
hub s a b = record { settings = s; slots = a ∷ b ∷ [] }

abbrev present : Slot
present = slot full full_entry full_entry

abbrev absent : Slot
absent = slot (reset_peer 0) reset_entry reset_entry

pub sound_hubs : List Hub
sound_hubs =
    hub two absent absent
    ∷ hub two present absent
    ∷ hub two absent present
    ∷ hub two present present
    -- connected and at reset, and with no bit of an entry set
    ∷ hub two (slot (reset_peer 1) reset_entry (entry 0 0 0 0)) present
    -- the lowest base
    ∷ hub (numbers 2 2 4096 0 0 0x100000 0 0 0) present absent
    ∷ []

-- R33: set-up numbers that would not be accepted
pub unaccepted : List Hub
unaccepted =
    map (λ s. hub s present absent)
    (numbers 1 2 4096 0 0 0x40000000 0 0 0
    ∷ numbers 65 2 4096 0 0 0x40000000 0 0 0
    ∷ numbers 2 0 4096 0 0 0x40000000 0 0 0
    ∷ numbers 2 17 4096 0 0 0x40000000 0 0 0
    ∷ numbers 2 2 0 0 0 0x40000000 0 0 0
    ∷ numbers 2 2 4100 0 0 0x40000000 0 0 0
    ∷ numbers 2 2 4096 1 0 0x40000000 0 0 0
    ∷ numbers 2 2 4096 0 1 0x40000000 0 0 0
    ∷ numbers 2 2 4096 (2 ^ 30) 0 0x40000000 0 0 0
    ∷ numbers 2 2 4096 0 0 0x40000001 0 0 0
    ∷ numbers 2 2 4096 0 0 0 0 0 0
    ∷ numbers 2 2 4096 0 0 0xFF000 0 0 0
    ∷ numbers 2 2 8192 0 0 (2 ^ 64 - 4096) 0 0 0
    ∷ numbers 2 2 4096 0 0 0x40000000 (2 ^ 16) 0 0
    ∷ numbers 2 2 4096 0 0 0x40000000 0 (2 ^ 16) 0
    ∷ numbers 2 2 4096 0 0 0x40000000 0 0 (2 ^ 16)
    ∷ [])

-- R34: bits that cannot be written, of a connected peer, the first or the last
pub unfixed : List Hub
unfixed =
    map (λ p. hub two (slot p full_entry full_entry) absent)
    (peer 1 0x0407 0xFFFFF000 0xFFFFF000 0x01 0xC0 0x01 0
    ∷ peer 1 0x0506 0xFFFFF000 0xFFFFF000 0x01 0xC0 0x01 0
    ∷ peer 1 0x010406 0xFFFFF000 0xFFFFF000 0x01 0xC0 0x01 0
    ∷ peer 1 0x0406 0xFFFFF800 0xFFFFF000 0x01 0xC0 0x01 0
    ∷ peer 1 0x0406 0xFFFFF000 0xFFFFF001 0x01 0xC0 0x01 0
    ∷ peer 1 0x0406 0xFFFFF000 0xFFFFF000 0x03 0xC0 0x01 0
    ∷ peer 1 0x0406 0xFFFFF000 0xFFFFF000 0x01 0xE0 0x01 0
    ∷ peer 1 0x0406 0xFFFFF000 0xFFFFF000 0x01 0x01C0 0x01 0
    ∷ peer 1 0x0406 0xFFFFF000 0xFFFFF000 0x01 0xC0 0x03 0
    ∷ [])
    ++ map (λ e. hub two absent (slot full full_entry e)) (entry 0xFFFFFFFD 0 0 0 ∷ entry 0xFFFFFFFE 0 0 0 ∷ entry 0 0 0 0x03 ∷ [])
    ++ (hub two (slot full (entry 2 0 0 0) full_entry) absent ∷ [])

-- R35: peers that are not connected and not at reset, with bits that could be written
pub not_reset : List Hub
not_reset =
    map (λ p. hub two present (slot p reset_entry reset_entry))
    (peer 2 0 0 0 0 0 0 0
    ∷ peer 0 0x0400 0 0 0 0 0 0
    ∷ peer 0 0 0x1000 0 0 0 0 0
    ∷ peer 0 0 0 0x1000 0 0 0 0
    ∷ peer 0 0 0 0 0x01 0 0 0
    ∷ peer 0 0 0 0 0 0x80 0 0
    ∷ peer 0 0 0 0 0 0 0x01 0
    ∷ peer 0 0 0 0 0 0 0 1
    ∷ [])
    ++ map (λ e. hub two (slot (reset_peer 0) reset_entry e) present) (entry 4 0 0 1 ∷ entry 0 1 0 1 ∷ entry 0 0 1 1 ∷ entry 0 0 0 0 ∷ [])
    ++ (hub two (slot (reset_peer 0) (entry 0 0 1 1) reset_entry) present ∷ [])

pub sound_hubs_lem : every (map sound sound_hubs) ≡ true
unfolding sound_hubs every below masks mask_in mask_at mask_of total accepted max_peers max_vectors peer_fixed peer_reset entry_fixed
    entry_reset peer_sound entry_sound slot_sound sound zero_slot
sound_hubs_lem = refl

pub unsound_hubs : every (map (λ h. not (sound h)) (unaccepted ++ unfixed ++ not_reset)) ≡ true
unfolding unaccepted unfixed not_reset every below masks mask_in mask_at mask_of total accepted max_peers max_vectors peer_fixed
    peer_reset entry_fixed entry_reset peer_sound entry_sound slot_sound sound zero_slot
unsound_hubs = refl
