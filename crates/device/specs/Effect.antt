-- What an accepted call gives back and changes. An effect sees the settings, the caller's own slot and the region, and asks for
-- primitive operations; only the rings among these reach other peers.
use Rattle.std.specs.Prelude.{ℕ, ◌*◌, ◌/◌, ◌%◌, ◌^◌, Bool, cond, not, List, [], ◌∷◌, eqb, take, drop}
use Rattle.std.specs.Int.Bits.{bit_and}
use Rattle.common.specs.Bytes.{bytes}
use Rattle.device.specs.declared.Peer.{Peer}
use Rattle.device.specs.declared.PeerId.{PeerId}
use Rattle.device.specs.declared.SectionAnswer.{SectionAnswer}
use Rattle.device.specs.declared.Settings.{Settings}
use Rattle.device.specs.declared.Vector.{Vector}
use Rattle.device.specs.Call.{Act}
use Rattle.device.specs.Call.Act.{connect, disconnect, reset, configuration_read, configuration_write}
use Rattle.device.specs.Call.Act.{register_read, register_write, msix_read, msix_write, question, load, store}
use Rattle.device.specs.Configuration
use Rattle.device.specs.Msix
use Rattle.device.specs.Registers
use Rattle.device.specs.Registers.{Register, register_at, memory_on}
use Rattle.device.specs.Ring.{peer_id, vector, with_interrupt}
use Rattle.device.specs.Sections.{no_section, answer_of, section_of}
use Rattle.device.specs.World.{Slot, with_peer, reset_slot}

-- The primitive operations: the caller's own slot takes a value; bytes are written to the region; one vector is rung at one id;
-- vector 0 is rung at every other id.
pub data Operation : Type 0 where
  own : Slot → Operation
  write : (offset : ℕ) → List ℕ → Operation
  ring_one : PeerId → Vector → Operation
  ring_others : Operation

pub record Effect : Type 0 where
  -- the value read, 0 where nothing is read
  pub value : ℕ
  -- the answer to the section question
  pub answer : SectionAnswer
  -- the bytes that a load puts into the lent buffer
  pub loaded : List ℕ
  pub operations : List Operation

abbrev pub reads : ℕ → Effect
reads value = record { value = value; answer = no_section; loaded = []; operations = [] }

abbrev pub does : List Operation → Effect
does operations = record { value = 0; answer = no_section; loaded = []; operations = operations }

-- C-11: 'where the State value changes', from what the peer's State register held to what it takes
unfoldable pub changes : (old new : ℕ) → Bool
changes old new = not (eqb old new)

-- the four bytes of the State Table entry in any case, then the rings, 'only where the State value changes' (C-11)
abbrev pub entered : (who state : ℕ) → (changed : Bool) → List Operation
entered who state changed = Operation.write (4 * who) (bytes 4 state) ∷ cond changed (Operation.ring_others ∷ []) []

-- State store, reset and disconnect: the own slot, then the entry and the rings
unfoldable pub announces : ℕ → (old new : Slot) → List Operation
announces who old new =
    Operation.own new ∷ entered who new.peer.state (changes old.peer.state new.peer.state)

abbrev pub with_state : Peer → ℕ → Peer
with_state p state =
    record {
      connected = p.connected;
      command = p.command;
      bar0 = p.bar0;
      bar1 = p.bar1;
      privileged = p.privileged;
      message = p.message;
      interrupt = p.interrupt;
      state = state;
    }

-- R54: the vector is bits 0 to 15 of the value, the id bits 16 to 31
abbrev pub rung_vector : ℕ → Vector
rung_vector value = vector (value % 2 ^ 16)

abbrev pub rung_peer : ℕ → PeerId
rung_peer value = peer_id (value / 2 ^ 16 % 2 ^ 16)

-- the 32 bits that State takes
abbrev pub state_value : ℕ → ℕ
state_value value = bit_and value 0xFFFFFFFF

-- a store to a register (R45): at ID, at Maximum Peers and where none is, nothing. Interrupt Control has bit 0 only.
unfoldable pub register_stored : ℕ → Slot → Register → ℕ → List Operation
register_stored who slot Register.identity value = []
register_stored who slot Register.maximum_peers value = []
register_stored who slot Register.interrupt_control value =
    Operation.own (with_peer slot (with_interrupt slot.peer (bit_and value 1))) ∷ []
register_stored who slot Register.doorbell value = Operation.ring_one (rung_peer value) (rung_vector value) ∷ []
register_stored who slot Register.state value =
    announces who slot (with_peer slot (with_state slot.peer (state_value value)))
register_stored who slot Register.none value = []

unfoldable pub effect : Settings → ℕ → Slot → List ℕ → Act → Effect
effect s who slot region connect = does (Operation.own (reset_slot s.vectors 1) ∷ [])
effect s who slot region (disconnect n) = does (announces who slot (reset_slot s.vectors 0))
effect s who slot region (reset n) = does (announces who slot (reset_slot s.vectors 1))
effect s who slot region (configuration_read at w) = reads (Configuration.configuration_read s slot.peer at w)
effect s who slot region (configuration_write at w x) =
    does (Operation.own (with_peer slot (Configuration.configuration_written s slot.peer at w x)) ∷ [])
effect s who slot region (register_read at w) = reads (Registers.register_read s who slot.peer at)
effect s who slot region (register_write n at w x) =
    does (cond (memory_on slot.peer) (register_stored who slot (register_at at) x) [])
effect s who slot region (msix_read at w) = reads (Msix.msix_read s slot at)
effect s who slot region (msix_write at w x) =
    does (cond (memory_on slot.peer) (Operation.own (Msix.msix_written s slot at x) ∷ []) [])
effect s who slot region (question at n) =
    record { value = 0; answer = answer_of who (section_of s at n); loaded = []; operations = [] }
effect s who slot region (load at n) =
    record { value = 0; answer = no_section; loaded = take n (drop at region); operations = [] }
effect s who slot region (store at bs) = does (Operation.write at bs ∷ [])
