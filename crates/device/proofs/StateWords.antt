-- In every world of a history each word of the State Table is that peer's State register: a store to State, a reset and a
-- disconnect write both, and an accepted shared store lies at or above the end of the State Table.
use Prim.Native.Nat.{ℕ, zero, suc, ◌+◌, ◌*◌, ◌/◌, ◌%◌, ◌^◌, ◌<◌, ◌≤◌}
use mathlib.Core.Bool.{Bool, true, false, cond}
use mathlib.Core.List.{List, [], ◌∷◌}
use mathlib.Core.Path.{◌≡◌, refl, sym, ap, subst, ◌∙◌}
use native.Mathlib.Nat.{le_trans, add-zero, zero-div}
use native.Mathlib.Omega.{arith}
use borrow.Author.Tests.{eqb-true, leb-true, not-false}
use lib.Dec.{eqb, leb}
use lib.ListN.{length, get_or, set, length-set, get_or-replicate}
use lib.Seq.{get_or-set_same, get_or-set_other, set-get_or, sets}
use Rattle.common.specs.Bytes.{byte, bytes}
use Rattle.common.proofs.ByteLaws.{length_bytes, get_d_bytes}
use Rattle.common.proofs.TestLaws.{and_left, every_true, by_equal}
use Rattle.device.specs.declared.Entry.{Entry}
use Rattle.device.specs.declared.Gate.{Gate}
use Rattle.device.specs.declared.Peer.{Peer}
use Rattle.device.specs.declared.Settings.{Settings}
use Rattle.device.specs.Call.{Act, Call}
use Rattle.device.specs.Call.Act.{connect, disconnect, reset, configuration_read, configuration_write}
use Rattle.device.specs.Call.Act.{register_read, register_write, msix_read, msix_write, question, load, store}
use Rattle.device.specs.Configuration.{with_byte, written_byte, configuration_written}
use Rattle.device.specs.Effect.{Operation, announces, changes, register_stored, effect, with_state, state_value}
use Rattle.device.specs.History.{start, after}
use Rattle.device.specs.Msix.{in_table, msix_written}
use Rattle.device.specs.Refusal.{access_of, present, forbidden, is_connected, refusal}
use Rattle.device.specs.Registers.{Register, register_at, memory_on}
use Rattle.device.specs.Ring.{with_interrupt, after_delivery}
use Rattle.device.specs.Sections.{Section, outputs, sections, holds, section_in, section_of, may_store}
use Rattle.device.specs.SetUp.{accepted, total, fresh_hub}
use Rattle.device.specs.Sound.{peer_reset, slot_sound}
use Rattle.device.specs.Step.{run, run_all, effect_in, step}
use Rattle.device.specs.World.{Slot, World, zero_slot, reset_slot, slot_at, with_peer}
use Rattle.device.proofs.HistoryLaws.{Sound, Fit, taken, taken_world, refused_world, same, small, slots_keep, start_fit, step_fit}
use Rattle.device.proofs.KeepingLaws.{Frame, Every, Leaves, announces_leaves}
use Rattle.device.proofs.SetUpLaws.{Accepted, accepted_facts}
use Rattle.device.proofs.SoundLaws.{absent_reset}
use Rattle.device.proofs.StepLaws.{never}

-- A store lies above the State Table.

-- every section of a list that a peer may store to starts at n or above
abbrev Above : ℕ → ℕ → List Section → Type 0
Above n who [] = Unit {0}
Above n who (x ∷ xs) = (may_store who x.kind ≡ true → n ≤ x.start) × Above n who xs

outputs_above : (s : Settings) (who i n : ℕ) → Above s.table who (outputs s i n)
unfolding outputs
outputs_above s who i zero = tt
outputs_above s who i (suc n) = (λ e. omega arith, outputs_above s who (suc i) n)

found_above : (n who offset size : ℕ) (xs : List Section) → Above n who xs → may_store who (section_in offset size xs) ≡ true → n ≤ offset
unfolding section_in may_store
found_above n who offset size [] a e = never e
found_above n who offset size (x ∷ xs) a e = go (λ k. found_above n who offset size xs a.1 k) (holds offset size x) refl e
  where
    go : (may_store who (section_in offset size xs) ≡ true → n ≤ offset) → (t : Bool) → holds offset size x ≡ t →
        may_store who (cond t x.kind (section_in offset size xs)) ≡ true → n ≤ offset
    go rest true h k = le_trans (a.0 k) (leb-true x.start offset (and_left (leb x.start offset) (leb (offset + size) (x.start + x.size)) h))
    go rest false h k = rest k

store_above : (s : Settings) (who offset size : ℕ) → may_store who (section_of s offset size) ≡ true → s.table ≤ offset
unfolding section_of sections may_store
store_above s who offset size e = found_above s.table who offset size (sections s) (λ m. never m, (λ m. omega arith, outputs_above s who 0 s.peers)) e

-- Bytes written to the region.

sets_other : (l bs : List ℕ) (at k : ℕ) → ((m : ℕ) → m < length bs → k ≡ at + m → ⊥) → get_or (sets l at bs) k 0 ≡ get_or l k 0
sets_other l [] at k d = refl
sets_other l (b ∷ bs) at k d =
    sets_other (set l at b) bs (suc at) k (λ m h e. d (suc m) (omega arith) (omega arith))
    ∙ get_or-set_other l at k b 0 (λ e. d 0 (omega arith) (omega arith))

sets_here : (l bs : List ℕ) (at m : ℕ) → at + length bs ≤ length l → m < length bs → get_or (sets l at bs) (at + m) 0 ≡ get_or bs m 0
sets_here l [] at m h k = absurd (omega arith)
sets_here l (b ∷ bs) at zero h k =
    sets_other (set l at b) bs (suc at) (at + 0) (λ m q e. omega arith)
    ∙ ap (λ (i : ℕ). get_or (set l at b) i 0) (add-zero at)
    ∙ get_or-set_same l at b 0 (omega arith)
sets_here l (b ∷ bs) at (suc m) h k =
    let next : at + suc m ≡ suc at + m = omega arith in
    ap (λ (i : ℕ). get_or (sets (set l at b) (suc at) bs) i 0) next ∙ sets_here (set l at b) bs (suc at) m (omega (arith, length-set l at b)) (omega arith)

sets_same : (l bs : List ℕ) (at : ℕ) → ((m : ℕ) → m < length bs → get_or l (at + m) 0 ≡ get_or bs m 0) → sets l at bs ≡ l
sets_same l [] at e = refl
sets_same l (b ∷ bs) at e =
    let here : set l at b ≡ l = ap (λ (x : ℕ). set l at x) (sym (e 0 (omega arith)) ∙ ap (λ (i : ℕ). get_or l i 0) (add-zero at)) ∙ set-get_or l at 0 in
    ap (λ (k : List ℕ). sets k (suc at) bs) here
    ∙ sets_same l bs (suc at) (λ m h. let next : suc at + m ≡ at + suc m = omega arith in ap (λ (i : ℕ). get_or l i 0) next ∙ e (suc m) (omega arith))

-- The word of a peer in a region is the State of its slot.
abbrev pub Worded : Settings → List ℕ → ℕ → Slot → Type 0
Worded s region i slot = i < s.peers → (j : ℕ) → j < 4 → get_or region (4 * i + j) 0 ≡ byte j slot.peer.state

-- so that State, stored again, leaves the region as it is
pub word_again : (s : Settings) (region : List ℕ) (i : ℕ) (slot : Slot) → i < s.peers → Worded s region i slot
    → sets region (4 * i) (bytes 4 slot.peer.state) ≡ region
word_again s region i slot l e =
    let n : length (bytes 4 slot.peer.state) ≡ 4 = length_bytes 4 slot.peer.state in
    sets_same region (bytes 4 slot.peer.state) (4 * i)
    (λ m h. let k : m < 4 = omega arith in e l m k ∙ sym (get_d_bytes 4 slot.peer.state m k))

-- the region after operations
abbrev written : List ℕ → List Operation → List ℕ
written region [] = region
written region (Operation.own new ∷ os) = written region os
written region (Operation.write at bs ∷ os) = written (sets region at bs) os
written region (Operation.ring_one t v ∷ os) = written region os
written region (Operation.ring_others ∷ os) = written region os

run_region : (who : ℕ) (w : World) (os : List Operation) → (run_all who w os).world.region ≡ written w.region os
unfolding run_all run
run_region who w [] = refl
run_region who w (Operation.own new ∷ os) = run_region who (run who w (Operation.own new)).world os
run_region who w (Operation.write at bs ∷ os) = run_region who (run who w (Operation.write at bs)).world os
run_region who w (Operation.ring_one t v ∷ os) = run_region who (run who w (Operation.ring_one t v)).world os
run_region who w (Operation.ring_others ∷ os) = run_region who (run who w Operation.ring_others).world os

-- no configuration write changes State, and an absent peer's is 0
written_state : (s : Settings) (p : Peer) (at w x : ℕ) → (configuration_written s p at w x).state ≡ p.state
unfolding configuration_written written_byte with_byte
written_state s p at zero x = refl
written_state s p at (suc w) x = written_state s (written_byte s p at (x % 256)) (suc at) w (x / 256)

absent_state : (s : Settings) (slot : Slot) → slot_sound s slot ≡ true → eqb slot.peer.connected 1 ≡ false → slot.peer.state ≡ 0
unfolding peer_reset
absent_state s slot e d = eqb-true slot.peer.state 0 (every_true _ (absent_reset s slot e d) 7)

-- what the operations of one call leave: every other word as it was, and the caller's own word right
record Words (s : Settings) (who : ℕ) (slot : Slot) (region : List ℕ) (os : List Operation) : Type 0 where
  others : (i j : ℕ) → (i ≡ who → ⊥) → i < s.peers → j < 4 → get_or (written region os) (4 * i + j) 0 ≡ get_or region (4 * i + j) 0
  own : Leaves (Worded s (written region os) who) slot os

module _ (s : Settings) (who : ℕ) (slot : Slot) (region : List ℕ) (a : Accepted s) (room : length region ≡ total s) (small : who < s.peers) where
  -- whether it rings or not, the entry is written
  entry_written : (old new : Slot) → written region (announces who old new) ≡ sets region (4 * who) (bytes 4 new.peer.state)
  unfolding announces
  entry_written old new = go (changes old.peer.state new.peer.state)
    where
      entry : List ℕ
      entry = sets region (4 * who) (bytes 4 new.peer.state)

      go : (t : Bool) → written entry (cond t (Operation.ring_others ∷ []) []) ≡ entry
      go true = refl
      go false = refl

  announced : (new : Slot) → Words s who slot region (announces who slot new)
  unfolding total
  announced new =
      let n : length (bytes 4 new.peer.state) ≡ 4 = length_bytes 4 new.peer.state in
      record {
        others = rw (entry_written slot new) (λ i j d l h. sets_other region (bytes 4 new.peer.state) (4 * who) (4 * i + j) (λ m k e. omega arith));
        own =
            rw (entry_written slot new)
            (announces_leaves _ who slot slot new
            (λ l j h. sets_here region (bytes 4 new.peer.state) (4 * who) j (omega (arith, a.state)) (omega arith) ∙ get_d_bytes 4 new.peer.state j h));
      }

  stored_words : (r : Register) (x : ℕ) → Worded s region who slot → Words s who slot region (register_stored who slot r x)
  unfolding register_stored
  stored_words Register.identity x h = record { others = λ i j d l k. refl; own = h }
  stored_words Register.maximum_peers x h = record { others = λ i j d l k. refl; own = h }
  stored_words Register.interrupt_control x h = record { others = λ i j d l k. refl; own = h }
  stored_words Register.doorbell x h = record { others = λ i j d l k. refl; own = (h, λ later q. q) }
  stored_words Register.state x h = announced (with_peer slot (with_state slot.peer (state_value x)))
  stored_words Register.none x h = record { others = λ i j d l k. refl; own = h }

  effect_words : (c : Act) → present (eqb slot.peer.connected 1) (access_of c) ≡ false → forbidden s who (access_of c) ≡ false → Sound s who slot
      → Worded s region who slot → Words s who slot region (effect s who slot region c).operations
  unfolding effect present forbidden access_of reset_slot msix_written
  effect_words connect p f e h = record { others = λ i j d l k. refl; own = λ l j k. h l j k ∙ ap (λ (n : ℕ). byte j n) (absent_state s slot e p) }
  effect_words (disconnect n) p f e h = announced (reset_slot s.vectors 0)
  effect_words (reset n) p f e h = announced (reset_slot s.vectors 1)
  effect_words (configuration_read at w) p f e h = record { others = λ i j d l k. refl; own = h }
  effect_words (configuration_write at w x) p f e h =
      record { others = λ i j d l k. refl; own = λ l j k. h l j k ∙ ap (λ (n : ℕ). byte j n) (sym (written_state s slot.peer at w x)) }
  effect_words (register_read at w) p f e h = record { others = λ i j d l k. refl; own = h }
  effect_words (register_write n at w x) p f e h = go (memory_on slot.peer)
    where
      go : (t : Bool) → Words s who slot region (cond t (register_stored who slot (register_at at) x) [])
      go true = stored_words (register_at at) x h
      go false = record { others = λ i j d l k. refl; own = h }
  effect_words (msix_read at w) p f e h = record { others = λ i j d l k. refl; own = h }
  effect_words (msix_write at w x) p f e h = go (memory_on slot.peer)
    where
      put : (t : Bool) (new : List Entry) → Worded s region who (cond t (record { peer = slot.peer; entries = new }) slot)
      put true new = h
      put false new = h

      go : (t : Bool) → Words s who slot region (cond t (Operation.own (msix_written s slot at x) ∷ []) [])
      go true = record { others = λ i j d l k. refl; own = put (in_table s at) _ }
      go false = record { others = λ i j d l k. refl; own = h }
  effect_words (question at n) p f e h = record { others = λ i j d l k. refl; own = h }
  effect_words (load at n) p f e h = record { others = λ i j d l k. refl; own = h }
  effect_words (store at bs) p f e h =
      let high : s.table ≤ at = store_above s who at (length bs) (not-false _ f) in
      let free : (i j : ℕ) → i < s.peers → j < 4 → get_or (sets region at bs) (4 * i + j) 0 ≡ get_or region (4 * i + j) 0 =
      λ i j l k. sets_other region bs at (4 * i + j) (λ m q r. omega (arith, a.state)) in
      record { others = λ i j d l k. free i j l k; own = λ l j k. free who j l k ∙ h l j k }

-- Every world of a history.

abbrev pub Written : Settings → World → Type 0
Written s w = Every (Worded s w.region) s.peers w.hub

delivery_worded : (s : Settings) (region : List ℕ) (i : ℕ) (g : Gate) (slot : Slot) → Worded s region i slot → Worded s region i (after_delivery g slot)
unfolding after_delivery
delivery_worded s region i g slot e = go g.oneshot
  where
    go : (t : Bool) → Worded s region i (cond t (with_peer slot (with_interrupt slot.peer 0)) slot)
    go true = e
    go false = e

module _ (s : Settings) (a : accepted s ≡ true) where
  taken_written : (w : World) (c : Call) → Fit s w → Written s w → refusal w c ≡ 0 → Written s (step w c).world
  unfolding is_connected
  taken_written w c f h e =
      let slot : Slot = slot_at w.hub c.who in
      let os : List Operation = (effect_in w c).operations in
      let near : c.who < s.peers = small s w c a f e in
      let permitted : forbidden s c.who (access_of c.act) ≡ false = rw (same s w c a f) at (taken w c e).permitted in
      let words : Words s c.who slot w.region os =
      subst (λ (x : Settings). Words s c.who slot w.region (effect x c.who slot w.region c.act).operations) (sym (same s w c a f))
      (effect_words s c.who slot w.region (accepted_facts s a) (ap (λ (x : Frame). x.room) f.fixed)
      (small s w c a f e) c.act (taken w c e).absent permitted
      (f.slots c.who near) (h c.who near)) in
      let region : (step w c).world.region ≡ written w.region os = ap (λ (x : World). x.region) (taken_world w c e) ∙ run_region c.who w os in
      subst (λ (r : List ℕ). Every (Worded s r) s.peers (step w c).world.hub) (sym region)
      (slots_keep s w c a f (Worded s (written w.region os)) (delivery_worded s (written w.region os)) e
      (λ i l d k j m. words.others i j d k m ∙ h i l k j m) words.own)

  pub step_written : (w : World) (c : Call) → Fit s w → Written s w → Written s (step w c).world
  step_written w c f h = by_equal (refusal w c) 0 (taken_written w c f h) (λ n. subst (Written s) (sym (refused_world w c n)) h)

  pub start_written : Written s (start s)
  unfolding start fresh_hub reset_slot total
  start_written i l k j m =
      rw (get_or-replicate s.peers i (reset_slot s.vectors 0) zero_slot l)
      (get_or-replicate {A = ℕ} (total s) (4 * i + j) 0 0 (omega (arith, (accepted_facts s a).state)) ∙ sym (ap (λ (q : ℕ). q % 256) (zero-div (2 ^ (8 * j)))))

  after_written : (w : World) (cs : List Call) → Fit s w → Written s w → Written s (after w cs)
  unfolding after
  after_written w [] f h = h
  after_written w (c ∷ cs) f h = after_written (step w c).world cs (step_fit s w c a f) (step_written w c f h)

  pub state_words : (cs : List Call) → Written s (after (start s) cs)
  state_words cs = after_written (start s) cs (start_fit s) start_written
