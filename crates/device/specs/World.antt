-- What the device's calls read and change: the hub, and the shared region's bytes.
use Rattle.std.specs.Prelude.{ℕ, List, [], get_or, set, replicate}
use Rattle.device.specs.declared.Entry.{Entry}
use Rattle.device.specs.declared.Peer.{Peer}
use Rattle.device.specs.declared.Settings.{Settings}
use Rattle.device.specs.Reset.{reset_peer, reset_entry}

-- all that is kept of one peer: its registers and its MSI-X entries
pub record Slot : Type 0 where
  pub peer : Peer
  pub entries : List Entry

-- a hub has a slot for each of its peers, connected or not, and each slot an entry for each vector: no slot and no vector is unused
pub record Hub : Type 0 where
  pub settings : Settings
  pub slots : List Slot

pub record World : Type 0 where
  pub hub : Hub
  pub region : List ℕ

abbrev pub world : Hub → List ℕ → World
world hub region = record { hub = hub; region = region }

-- all numbers 0: what a list gives beyond its end
abbrev pub zero_entry : Entry
zero_entry = record { low = 0; high = 0; payload = 0; control = 0 }

unfoldable pub zero_slot : Slot
zero_slot = record { peer = reset_peer 0; entries = [] }

abbrev pub zero_settings : Settings
zero_settings =
    record {
      peers = 0;
      vectors = 0;
      table = 0;
      common = 0;
      output = 0;
      base = 0;
      protocol = 0;
      vendor = 0;
      subsystem = 0;
    }

-- the all-zero hub, which a refused set-up leaves (R18): N is 0, so it has no slot
unfoldable pub zero_hub : Hub
zero_hub = record { settings = zero_settings; slots = [] }

-- a slot of so many vectors with all registers and entries at reset
unfoldable pub reset_slot : (vectors connected : ℕ) → Slot
reset_slot vectors connected = record { peer = reset_peer connected; entries = replicate vectors reset_entry }

-- the slot of an id, and the entry of a vector
abbrev pub slot_at : Hub → ℕ → Slot
slot_at hub i = get_or hub.slots i zero_slot

abbrev pub entry_at : Slot → ℕ → Entry
entry_at slot v = get_or slot.entries v zero_entry

-- the same with one part replaced
abbrev pub with_slot : Hub → ℕ → Slot → Hub
with_slot hub i slot = record { settings = hub.settings; slots = set hub.slots i slot }

abbrev pub with_peer : Slot → Peer → Slot
with_peer slot peer = record { peer = peer; entries = slot.entries }

abbrev pub with_entry : Slot → ℕ → Entry → Slot
with_entry slot v entry = record { peer = slot.peer; entries = set slot.entries v entry }
