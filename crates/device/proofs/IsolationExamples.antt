-- Isolation says something: peer 0 does receive an interrupt; each kind of item of its window is needed, for with the item left out
-- of a history both the window and what peer 0 observes change; and calls that are no item of the window change neither.
use Prim.Native.Nat.{ℕ}
use mathlib.Core.Bool.{Bool, true, false, ◌&&◌}
use mathlib.Core.List.{List, [], ◌∷◌, ◌++◌}
use mathlib.Core.Path.{◌≡◌, refl}
use native.Mathlib.Omega.{arith}
use borrow.Author.Tests.{eq-eqb}
use lib.Dec.{eqb}
use Rattle.common.specs.Bytes.{bytes, number, set_byte}
use Rattle.common.specs.Tests.{first, every, below}
use Rattle.device.specs.declared.Delivery.{Delivery}
use Rattle.device.specs.declared.Settings.{Settings}
use Rattle.device.specs.Call.{Call, call}
use Rattle.device.specs.Call.Act.{connect, disconnect, reset, configuration_read, configuration_write}
use Rattle.device.specs.Call.Act.{register_read, register_write, msix_read, msix_write, question, load, store}
use Rattle.device.specs.Configuration
use Rattle.device.specs.Configuration.{fields, field_byte, configuration_byte, masks, mask_in, mask_at, mask_of, with_byte, written_byte, configuration_written}
use Rattle.device.specs.Effect.{changes, announces, register_stored, effect}
use Rattle.device.specs.History.{Observation, start, observed, deliveries_to, answer_to}
use Rattle.device.specs.Msix.{in_table, with_word, msix_written}
use Rattle.device.specs.Refusal.{lent_to, access_of, wrong_region, short_table, missing, present}
use Rattle.device.specs.Refusal.{wrong_width, misaligned, outside, forbidden, is_connected, refusal}
use Rattle.device.specs.Registers
use Rattle.device.specs.Registers.{register_at, memory_on, register_value}
use Rattle.device.specs.Ring.{peer_id, vector, gate_of, opens, target, delivery_of, after_delivery, ring_at, ring, ring_from}
use Rattle.device.specs.Ring
use Rattle.device.specs.Sections.{outputs, sections, section_in, section_of, somewhere, may_store}
use Rattle.device.specs.SetUp.{total, accepted, fresh_hub}
use Rattle.device.specs.Sizes.{max_peers, max_vectors}
use Rattle.device.specs.Sound.{peer_fixed, peer_reset, entry_fixed, entry_reset, peer_sound, entry_sound, slot_sound, sound}
use Rattle.device.specs.Step.{run, run_all, step_by, step}
use Rattle.device.specs.Window.{Item, memory_after, memory_bit, word_sent, sent_by, sent, items, window_from, window, Alike}
use Rattle.device.specs.World.{zero_slot, reset_slot}
use Rattle.device.proofs.Isolation.{isolation}

-- three peers with one vector; a page each for the State Table and the common section
abbrev pub numbers : Settings
numbers = record { peers = 3; vectors = 1; table = 4096; common = 4096; output = 0; base = 0x100000000; protocol = 0; vendor = 0; subsystem = 0 }

-- peers 0 and 1 are connected, and peer 1 has Command bit 1 on
abbrev pub joined : List Call
joined = call 0 connect ∷ call 1 connect ∷ call 1 (configuration_write 0x04 2 0x0002) ∷ []

-- then peer 0 takes interrupts, with data 40h
abbrev pub ready : List Call
ready =
    joined
    ++ (call 0 (configuration_write 0x04 2 0x0006)
    ∷ call 0 (configuration_write 0x63 1 0x80)
    ∷ call 0 (msix_write 0x08 4 0x40)
    ∷ call 0 (msix_write 0x0C 4 0)
    ∷ call 0 (register_write 3 0x08 4 1)
    ∷ [])

-- peer 1 rings vector 0 at peer 0, stores State 5, stores a byte of the common section
abbrev pub bell : Call
bell = call 1 (register_write 3 0x0C 4 0x00000000)

abbrev pub stores : Call
stores = call 1 (register_write 3 0x10 4 5)

abbrev pub shares : Call
shares = call 1 (store 4096 (7 ∷ []))

-- peer 0 looks at peer 1's State Table entry and at that byte
abbrev pub looks : List Call
looks = call 0 (load 4 4) ∷ call 0 (load 4096 1) ∷ []

-- Histories told apart by numbers.

abbrev item_code : Item → List ℕ
item_code (Item.own a) = 0 ∷ []
item_code (Item.bell v) = 1 ∷ v.0 ∷ []
item_code (Item.word who x) = 2 ∷ who ∷ x ∷ []
item_code (Item.bytes at bs) = 3 ∷ at ∷ bs

abbrev observation_code : Observation → List ℕ
observation_code (Observation.answered n v a l) = 0 ∷ n ∷ v ∷ l
observation_code (Observation.interrupted d) = 1 ∷ d.target.0 ∷ d.vector.0 ∷ d.address ∷ d.payload ∷ []

abbrev codes : {A : Type 0} → (A → List ℕ) → List A → List ℕ
codes f [] = []
codes f (x ∷ xs) = f x ++ codes f xs

abbrev same : List ℕ → List ℕ → Bool
same [] [] = true
same [] (y ∷ ys) = false
same (x ∷ xs) [] = false
same (x ∷ xs) (y ∷ ys) = eqb x y && same xs ys

same_self : (xs : List ℕ) → same xs xs ≡ true
same_self [] = refl
same_self (x ∷ xs) = rw (eq-eqb x x refl) (same_self xs)

apart : {A : Type 0} (f : A → List ℕ) (xs ys : List A) → same (codes f xs) (codes f ys) ≡ false → xs ≡ ys → ⊥
apart f xs ys d e =
    let s : same (codes f ys) (codes f ys) ≡ false = rw e at d in
    let z : ◌≡◌ {A = ℕ} 0 1 = cc (same_self (codes f ys)) in
    omega arith

-- Each kind of item: a history with it, and the same without it.
pub record Pair : Type 0 where
  pub with : List Call
  pub without : List Call

abbrev pair : List Call → List Call → Pair
pair with without = record { with = with; without = without }

-- (a) a call of peer 0 itself
abbrev pub calls : Pair
calls = pair (joined ++ (call 0 (register_read 0x04 4) ∷ [])) joined

-- (b) a Doorbell store
abbrev pub bells : Pair
bells = pair (ready ++ (bell ∷ [])) ready

-- (c) a State store, a reset and a disconnect
abbrev pub state_stores : Pair
state_stores = pair (joined ++ (stores ∷ looks)) (joined ++ looks)

abbrev pub resets : Pair
resets = pair (joined ++ (stores ∷ call 1 (reset 3) ∷ looks)) (joined ++ (stores ∷ looks))

abbrev pub disconnects : Pair
disconnects = pair (joined ++ (stores ∷ call 1 (disconnect 3) ∷ looks)) (joined ++ (stores ∷ looks))

-- (d) a shared store
abbrev pub shared_stores : Pair
shared_stores = pair (joined ++ (shares ∷ looks)) (joined ++ looks)

abbrev pub pairs : List Pair
pairs = calls ∷ bells ∷ state_stores ∷ resets ∷ disconnects ∷ shared_stores ∷ []

abbrev pub Each : (Pair → Type 0) → List Pair → Type 0
Each P [] = Unit {0}
Each P (p ∷ ps) = P p × Each P ps

abbrev Coded : Pair → Type 0
Coded p =
    (same (codes item_code (window 0 numbers p.with)) (codes item_code (window 0 numbers p.without)) ≡ false)
    × (same (codes observation_code (observed 0 (start numbers) p.with)) (codes observation_code (observed 0 (start numbers) p.without)) ≡ false)

-- Calls of others that are no item: refused ones, reads, the section question, loads, connects, stores to own registers and entries,
-- rings at itself, at a third peer and beyond the last id, rings and State stores with Command bit 1 off (peer 2), and, since C-11,
-- the State 5 stored again, and a reset and a disconnect of a peer whose State is 0.
abbrev pub hidden : List Call
hidden =
    call 1 (register_read 0x04 2)
    ∷ call 1 (configuration_read 0x00 4)
    ∷ call 1 (configuration_write 0x10 4 0xFFFFFFFF)
    ∷ call 1 (register_read 0x04 4)
    ∷ call 1 (register_write 3 0x08 4 1)
    ∷ call 1 (register_write 2 0x10 4 5)
    ∷ call 1 (msix_read 0x0C 4)
    ∷ call 1 (msix_write 0x0C 4 0)
    ∷ call 1 (question 0 4)
    ∷ call 1 (load 0 4)
    ∷ call 1 (store 0 (7 ∷ []))
    ∷ call 2 connect
    ∷ call 2 (register_write 3 0x0C 4 0x00000000)
    ∷ call 2 (register_write 3 0x10 4 9)
    ∷ call 1 (register_write 3 0x0C 4 0x00010000)
    ∷ call 1 (register_write 3 0x0C 4 0x00020000)
    ∷ call 1 (register_write 3 0x0C 4 0x00030000)
    ∷ stores
    ∷ call 2 (reset 3)
    ∷ call 2 (disconnect 3)
    ∷ []

-- the interrupts among observations
abbrev pub interrupts : List Observation → List Delivery
interrupts [] = []
interrupts (Observation.answered n v a l ∷ os) = interrupts os
interrupts (Observation.interrupted d ∷ os) = d ∷ interrupts os

-- all that the examples compute with
unfoldable pub computing : Unit {0}
unfolding bytes number set_byte first every below fields field_byte configuration_byte masks mask_in mask_at mask_of with_byte
    written_byte configuration_written Configuration.configuration_read changes announces register_stored effect start observed
    deliveries_to answer_to in_table with_word msix_written lent_to access_of wrong_region short_table missing present wrong_width
    misaligned outside forbidden is_connected refusal register_at memory_on register_value Registers.register_read gate_of opens
    target delivery_of after_delivery ring_at ring ring_from Ring.ring_others outputs sections section_in section_of somewhere may_store
    total accepted fresh_hub max_peers max_vectors peer_fixed peer_reset entry_fixed entry_reset peer_sound entry_sound slot_sound sound
    run run_all step_by step memory_after memory_bit word_sent sent_by sent items window_from window zero_slot reset_slot
computing = tt

calls_coded : Coded calls
unfolding computing
calls_coded = (refl, refl)

bells_coded : Coded bells
unfolding computing
bells_coded = (refl, refl)

stores_coded : Coded state_stores
unfolding computing
stores_coded = (refl, refl)

resets_coded : Coded resets
unfolding computing
resets_coded = (refl, refl)

disconnects_coded : Coded disconnects
unfolding computing
disconnects_coded = (refl, refl)

shared_coded : Coded shared_stores
unfolding computing
shared_coded = (refl, refl)

accepts : accepted numbers ≡ true
unfolding computing
accepts = refl

hides : window 0 numbers (ready ++ (stores ∷ hidden ++ looks)) ≡ window 0 numbers (ready ++ (stores ∷ looks))
unfolding computing
hides = refl

-- Some history delivers an interrupt to peer 0.
pub delivered : interrupts (observed 0 (start numbers) (ready ++ (bell ∷ []))) ≡ record {
  target = peer_id 0;
  vector = vector 0;
  address = 0;
  payload = 0x40;
} ∷ []
unfolding computing
delivered = refl

-- Each kind of item is needed: the windows differ, and the histories are not alike.
abbrev pub Matters : Pair → Type 0
Matters p = (window 0 numbers p.with ≡ window 0 numbers p.without → ⊥) × (Alike 0 numbers p.with p.without → ⊥)

matters : (ps : List Pair) → Each Coded ps → Each Matters ps
matters [] c = tt
matters (p ∷ ps) c = ((apart item_code _ _ c.0.0, λ same. apart observation_code _ _ c.0.1 same.observations), matters ps c.1)

pub every_item_matters : Each Matters pairs
every_item_matters = matters pairs (calls_coded, (bells_coded, (stores_coded, (resets_coded, (disconnects_coded, (shared_coded, tt))))))

-- Calls that are no item change nothing for peer 0.
pub others_hidden : Alike 0 numbers (ready ++ (stores ∷ hidden ++ looks)) (ready ++ (stores ∷ looks))
others_hidden = isolation numbers accepts 0 _ _ hides
