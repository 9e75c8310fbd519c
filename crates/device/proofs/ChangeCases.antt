-- Which calls ring since C-11, one table, checked by one theorem: what counts is the peer's State register, and the State Table entry
-- is written in any case. In every world of a history the entry is the register (StateWords), so no history can tell which of them
-- is compared; here are regions that hold another word too, as a host may lend them.
use Prim.Native.Nat.{ℕ}
use mathlib.Core.List.{List, [], ◌∷◌, ◌++◌}
use mathlib.Core.Path.{refl}
use lib.ListN.{take, drop, replicate}
use Rattle.common.specs.Bytes.{bytes}
use Rattle.common.specs.Tests.{first, every, below}
use Rattle.device.specs.declared.Peer.{Peer}
use Rattle.device.specs.declared.Settings.{Settings}
use Rattle.device.specs.Call.{Act, call}
use Rattle.device.specs.Call.Act.{disconnect, reset, register_write}
use Rattle.device.specs.Configuration.{masks, mask_in, mask_at, mask_of}
use Rattle.device.specs.Effect.{changes, announces, register_stored, effect}
use Rattle.device.specs.Refusal.{lent_to, access_of, wrong_region, short_table, missing, present}
use Rattle.device.specs.Refusal.{wrong_width, misaligned, outside, forbidden, is_connected, refusal}
use Rattle.device.specs.Registers.{register_at, memory_on}
use Rattle.device.specs.Ring.{gate_of, opens, target, delivery_of, after_delivery, ring_at, ring, ring_from}
use Rattle.device.specs.Ring
use Rattle.device.specs.SetUp.{total, accepted}
use Rattle.device.specs.Sizes.{max_peers, max_vectors}
use Rattle.device.specs.Sound.{peer_fixed, peer_reset, entry_fixed, entry_reset, peer_sound, entry_sound, slot_sound, sound}
use Rattle.device.specs.Step.{run, run_all, step_by, step}
use Rattle.device.specs.World.{World, Slot, zero_slot, reset_slot}
use Rattle.device.proofs.BenchCases.{Case, case, parts, Right}

-- two peers with one vector, and no section but the State Table
abbrev two : Settings
two = record { peers = 2; vectors = 1; table = 4096; common = 0; output = 0; base = 0x100000000; protocol = 0; vendor = 0; subsystem = 0 }

-- connected, with every switch on, data 40h and this State
abbrev listens : ℕ → Slot
listens state =
    let peer : Peer = record { connected = 1; command = 0x06; bar0 = 0; bar1 = 0; privileged = 0; message = 0x80; interrupt = 1; state = state } in
    record { peer = peer; entries = record { low = 0; high = 0; payload = 0x40; control = 0 } ∷ [] }

-- peer 1 has this State, and the State Table this word at its entry
abbrev pub holding : (register word : ℕ) → World
holding register word =
    record {
      hub = record { settings = two; slots = listens 0 ∷ listens register ∷ [] };
      region = replicate 4 0 ++ (bytes 4 word ++ replicate 4088 0);
    }

-- what a call by or on peer 1 delivers, and then its entry
abbrev pub gives : World → Act → List ℕ
gives w act = parts (step w (call 1 act)).deliveries ++ take 4 (drop 4 (step w (call 1 act)).world.region)

abbrev five : Act
five = register_write 2 0x10 4 5

-- the delivery to peer 0, or none, and then the entry
abbrev rings : List ℕ → List ℕ
rings entry = 0 ∷ 0 ∷ 0 ∷ 0x40 ∷ entry

pub cases : List Case
cases =
    -- a State store of the value that the register holds: whatever the entry was, it takes it, and nobody is rung
    case (gives (holding 5 5) five) (5 ∷ 0 ∷ 0 ∷ 0 ∷ [])
    ∷ case (gives (holding 5 0) five) (5 ∷ 0 ∷ 0 ∷ 0 ∷ [])
    -- of another value
    ∷ case (gives (holding 0 0) five) (rings (5 ∷ 0 ∷ 0 ∷ 0 ∷ []))
    ∷ case (gives (holding 0 5) five) (rings (5 ∷ 0 ∷ 0 ∷ 0 ∷ []))
    -- 'the State value changes' where only its last byte does
    ∷ case (gives (holding 0x01000005 5) five) (rings (5 ∷ 0 ∷ 0 ∷ 0 ∷ []))
    -- a reset with State 0, and with another
    ∷ case (gives (holding 0 0) (reset 2)) (0 ∷ 0 ∷ 0 ∷ 0 ∷ [])
    ∷ case (gives (holding 0 5) (reset 2)) (0 ∷ 0 ∷ 0 ∷ 0 ∷ [])
    ∷ case (gives (holding 5 5) (reset 2)) (rings (0 ∷ 0 ∷ 0 ∷ 0 ∷ []))
    ∷ case (gives (holding 5 0) (reset 2)) (rings (0 ∷ 0 ∷ 0 ∷ 0 ∷ []))
    -- a disconnect with State 0, and with another
    ∷ case (gives (holding 0 0) (disconnect 2)) (0 ∷ 0 ∷ 0 ∷ 0 ∷ [])
    ∷ case (gives (holding 0 5) (disconnect 2)) (0 ∷ 0 ∷ 0 ∷ 0 ∷ [])
    ∷ case (gives (holding 5 5) (disconnect 2)) (rings (0 ∷ 0 ∷ 0 ∷ 0 ∷ []))
    ∷ case (gives (holding 5 0) (disconnect 2)) (rings (0 ∷ 0 ∷ 0 ∷ 0 ∷ []))
    ∷ []

pub changed_cases : Right cases
unfolding cases bytes first every below masks mask_in mask_at mask_of changes announces register_stored effect lent_to access_of
    wrong_region short_table missing present wrong_width misaligned outside forbidden is_connected refusal register_at memory_on
    gate_of opens target delivery_of after_delivery ring_at ring ring_from Ring.ring_others total accepted max_peers max_vectors
    peer_fixed peer_reset entry_fixed entry_reset peer_sound entry_sound slot_sound sound run run_all step_by step zero_slot reset_slot
changed_cases =
    (refl, (refl, (refl, (refl, (refl, (refl, (refl, (refl, (refl, (refl, (refl, (refl, (refl, tt)))))))))))))
