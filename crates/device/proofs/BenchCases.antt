-- Fourteen worked cases of the rules, one table, checked by one theorem about the meaning: for each case what `step`
-- gives and what the rules say. Then a case of several calls, the whole list, as C-11 amends it.
use Prim.Native.Nat.{ℕ}
use mathlib.Core.List.{List, [], ◌∷◌, ◌++◌}
use mathlib.Core.Path.{◌≡◌, refl}
use lib.ListN.{take, drop, replicate}
use Rattle.common.specs.Bytes.{bytes, number, set_byte}
use Rattle.common.specs.Tests.{first, every, below}
use Rattle.device.specs.declared.Delivery.{Delivery}
use Rattle.device.specs.declared.Settings.{Settings}
use Rattle.device.specs.Call.{Act, Call, call}
use Rattle.device.specs.Call.Act.{connect, configuration_read, configuration_write, register_read, register_write, msix_write, store}
use Rattle.device.specs.Configuration
use Rattle.device.specs.Configuration.{fields, field_byte, configuration_byte, masks, mask_in, mask_at, mask_of, with_byte, written_byte, configuration_written}
use Rattle.device.specs.Effect.{changes, announces, register_stored, effect, rung_vector, rung_peer}
use Rattle.device.specs.History
use Rattle.device.specs.Msix.{in_table, with_word, msix_written}
use Rattle.device.specs.Refusal.{lent_to, access_of, wrong_region, short_table, missing, present}
use Rattle.device.specs.Refusal.{wrong_width, misaligned, outside, forbidden, is_connected, refusal}
use Rattle.device.specs.Registers
use Rattle.device.specs.Registers.{register_at, memory_on, register_value}
use Rattle.device.specs.Ring.{gate_of, opens, target, delivery_of, after_delivery, ring_at, ring, ring_from}
use Rattle.device.specs.Ring
use Rattle.device.specs.Sections.{outputs, sections, section_in, section_of, somewhere, may_store}
use Rattle.device.specs.SetUp.{total, accepted, fresh_hub}
use Rattle.device.specs.Sizes.{max_peers, max_vectors}
use Rattle.device.specs.Sound.{peer_fixed, peer_reset, entry_fixed, entry_reset, peer_sound, entry_sound, slot_sound, sound}
use Rattle.device.specs.Step.{Outcome, run, run_all, step_by, step}
use Rattle.device.specs.World.{World, world, zero_slot, reset_slot}

-- what the meaning gives, and what the rules say
pub record Case : Type 0 where
  pub gives : List ℕ
  pub says : List ℕ

abbrev pub case : List ℕ → List ℕ → Case
case gives says = record { gives = gives; says = says }

-- a hub of n peers with v vectors, sections of s, r and o bytes and protocol 0001h, right after set-up
abbrev set_up : ℕ → ℕ → ℕ → ℕ → ℕ → World
set_up n v s r o =
    let numbers : Settings = record {
      peers = n;
      vectors = v;
      table = s;
      common = r;
      output = o;
      base = 0x100000000;
      protocol = 0x0001;
      vendor = 0;
      subsystem = 0;
    } in
    world (fresh_hub numbers) (replicate (total numbers) 0)

-- a call of a peer, and the world after it
abbrev does : World → ℕ → Act → Outcome
does w who act = step w (call who act)

abbrev after : World → ℕ → Act → World
after w who act = (does w who act).world

-- number and value of an answer
abbrev answer : World → ℕ → Act → List ℕ
answer w who act = (does w who act).number ∷ (does w who act).value ∷ []

-- Fresh peer, N=4, V=4, protocol 0001h
abbrev fresh : World
fresh = after (set_up 4 4 4096 0 0) 0 connect

-- S=4096, R=0, O=4096, N=2, both connected
abbrev pair : World
pair = after (after (set_up 2 1 4096 0 4096) 0 connect) 1 connect

-- a store of so many zero bytes
abbrev storing : ℕ → ℕ → Act
storing offset n = store offset (replicate n 0)

pub cases : List Case
cases =
    -- 4 bytes at 00h give 4106110Ah
    case (answer fresh 0 (configuration_read 0x00 4)) (0 ∷ 0x4106110A ∷ [])
    -- at 08h FF000100h
    ∷ case (answer fresh 0 (configuration_read 0x08 4)) (0 ∷ 0xFF000100 ∷ [])
    -- at 40h 00206009h
    ∷ case (answer fresh 0 (configuration_read 0x40 4)) (0 ∷ 0x00206009 ∷ [])
    -- at 60h 00030011h
    ∷ case (answer fresh 0 (configuration_read 0x60 4)) (0 ∷ 0x00030011 ∷ [])
    -- Write FFFFh at 04h: 4 bytes at 04h read 00100406h
    ∷ case (answer (after fresh 0 (configuration_write 0x04 2 0xFFFF)) 0 (configuration_read 0x04 4)) (0 ∷ 0x00100406 ∷ [])
    -- Write FFFFFFFFh at 10h: reads FFFFF000h
    ∷ case (answer (after fresh 0 (configuration_write 0x10 4 0xFFFFFFFF)) 0 (configuration_read 0x10 4)) (0 ∷ 0xFFFFF000 ∷ [])
    -- Write FFFFFFFFh at 60h: reads C0030011h
    ∷ case (answer (after fresh 0 (configuration_write 0x60 4 0xFFFFFFFF)) 0 (configuration_read 0x60 4)) (0 ∷ 0xC0030011 ∷ [])
    -- Register read at 04h with Command 0: FFFFFFFFh
    ∷ case (answer fresh 0 (register_read 0x04 4)) (0 ∷ 0xFFFFFFFF ∷ [])
    -- with 0002h: 4
    ∷ case (answer (after fresh 0 (configuration_write 0x04 2 0x0002)) 0 (register_read 0x04 4)) (0 ∷ 4 ∷ [])
    -- Doorbell 00030001h means vector 1 at id 3
    ∷ case ((rung_vector 0x00030001).0 ∷ (rung_peer 0x00030001).0 ∷ []) (1 ∷ 3 ∷ [])
    -- store by 1 at 8192, length 4096: taken
    ∷ case (answer pair 1 (storing 8192 4096)) (0 ∷ 0 ∷ [])
    -- The same by 0: 9
    ∷ case (answer pair 0 (storing 8192 4096)) (9 ∷ 0 ∷ [])
    -- Offset 8191, length 2: 8
    ∷ case (answer pair 1 (storing 8191 2)) (8 ∷ 0 ∷ [])
    -- Length 0: 6
    ∷ case (answer pair 1 (storing 8192 0)) (6 ∷ 0 ∷ [])
    ∷ []

-- every case of a list gives what it says
abbrev pub Right : List Case → Type 0
Right [] = Unit {0}
Right (c ∷ cs) = (c.gives ≡ c.says) × Right cs

-- each case by computation
pub bench : Right cases
unfolding cases bytes number set_byte first every below Configuration.configuration_read fields field_byte configuration_byte masks
    mask_in mask_at mask_of with_byte written_byte configuration_written effect lent_to access_of wrong_region short_table missing present
    wrong_width misaligned outside forbidden is_connected refusal Registers.register_read register_at memory_on register_value outputs
    sections section_in section_of somewhere may_store total accepted fresh_hub max_peers max_vectors peer_fixed peer_reset entry_fixed
    entry_reset peer_sound entry_sound slot_sound sound run run_all step_by step zero_slot reset_slot
bench =
    (refl, (refl, (refl, (refl, (refl, (refl, (refl, (refl, (refl, (refl, (refl, (refl, (refl, (refl, tt))))))))))))))

-- all switches on at 0 and 3, entry 0 there address FEE00000h
abbrev listens : ℕ → ℕ → List Call
listens who payload =
    call who connect
    ∷ call who (configuration_write 0x04 2 0x0006)
    ∷ call who (configuration_write 0x63 1 0x80)
    ∷ call who (msix_write 0x00 4 0xFEE00000)
    ∷ call who (msix_write 0x08 4 payload)
    ∷ call who (msix_write 0x0C 4 0)
    ∷ call who (register_write 4 0x08 4 1)
    ∷ []

-- N=4, V=2; 0, 1 and 3 connected, data 40h and 43h, peer 3 alone one-shot; peer 1 has Command bit 1 on
abbrev four : World
four =
    History.after (set_up 4 2 4096 0 0)
    (listens 0 0x40
    ++ (listens 3 0x43
    ++ (call 3 (configuration_write 0x43 1 0x01) ∷ call 1 connect ∷ call 1 (configuration_write 0x04 2 0x0002) ∷ [])))

-- Peer 1 stores State 5
abbrev five : Act
five = register_write 4 0x10 4 5

-- the parts of each delivery: target, vector, address, data
abbrev pub parts : List Delivery → List ℕ
parts [] = []
parts (d ∷ ds) = d.target.0 ∷ d.vector.0 ∷ d.address ∷ d.payload ∷ parts ds

-- Whole list
abbrev list : Outcome → Outcome → List Case
list first second =
    -- (0, 0, FEE00000h, 40h), (3, 0, FEE00000h, 43h)
    case (parts first.deliveries) (0 ∷ 0 ∷ 0xFEE00000 ∷ 0x40 ∷ 3 ∷ 0 ∷ 0xFEE00000 ∷ 0x43 ∷ [])
    -- region bytes 4-7 are 05 00 00 00
    ∷ case (take 4 (drop 4 first.world.region)) (5 ∷ 0 ∷ 0 ∷ 0 ∷ [])
    -- peer 3's Interrupt Control is 0
    ∷ case (answer first.world 3 (register_read 0x08 4)) (0 ∷ 0 ∷ [])
    -- the second store of 5 delivers nothing (C-11)
    ∷ case (second.number ∷ parts second.deliveries) (0 ∷ [])
    ∷ []

pub whole_list : Right (list (does four 1 five) (does (after four 1 five) 1 five))
unfolding bytes number set_byte first every below fields field_byte configuration_byte masks mask_in mask_at mask_of with_byte
    written_byte configuration_written changes announces register_stored effect History.after in_table with_word msix_written lent_to
    access_of wrong_region short_table missing present wrong_width misaligned outside forbidden is_connected refusal
    Registers.register_read register_at memory_on register_value gate_of opens target delivery_of after_delivery ring_at ring ring_from
    Ring.ring_others total accepted fresh_hub max_peers max_vectors peer_fixed peer_reset entry_fixed entry_reset peer_sound entry_sound
    slot_sound sound run run_all step_by step zero_slot reset_slot
whole_list = (refl, (refl, (refl, (refl, tt))))
