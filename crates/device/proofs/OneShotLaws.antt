-- One-shot mode, by operations: a ring at a peer that has it on takes from Interrupt Control what it delivers; other rings neither
-- take nor deliver there; and a call's changes to the peer's own slot come before its rings.
use Prim.Native.Nat.{ℕ, zero, suc, ◌+◌, ◌/◌, ◌%◌, ◌^◌, ◌≤◌, ◌<◌}
use mathlib.Core.Bool.{Bool, true, false, cond, ◌&&◌}
use mathlib.Core.List.{List, [], ◌∷◌, ◌++◌}
use mathlib.Core.Path.{◌≡◌, refl, sym, ap, subst, ◌∙◌}
use native.Mathlib.Omega.{arith}
use borrow.Author.Tests.{eqb-true, eq-eqb, ne_eqb}
use lib.Bits.{bit_and, and_le_r}
use lib.Dec.{eqb, ltb}
use lib.ListN.{length}
use lib.Seq.{get_or-set_same}
use Rattle.common.specs.Bytes.{bit}
use Rattle.common.specs.Tests.{every}
use Rattle.common.proofs.TestLaws.{by_equal, every_true}
use Rattle.device.specs.declared.Entry.{Entry}
use Rattle.device.specs.declared.Gate.{Gate}
use Rattle.device.specs.declared.Peer.{Peer}
use Rattle.device.specs.declared.PeerId.{PeerId}
use Rattle.device.specs.declared.Settings.{Settings}
use Rattle.device.specs.declared.Target.{Target}
use Rattle.device.specs.declared.Target.TheVariants.{Live, Nobody}
use Rattle.device.specs.declared.Vector.{Vector}
use Rattle.device.specs.Call.{Act}
use Rattle.device.specs.Call.Act.{connect, disconnect, reset, configuration_read, configuration_write}
use Rattle.device.specs.Call.Act.{register_read, register_write, msix_read, msix_write, question, load, store}
use Rattle.device.specs.Configuration.{with_byte, written_byte, configuration_written}
use Rattle.device.specs.Effect.{Operation, announces, changes, register_stored, effect}
use Rattle.device.specs.History.{Observation, deliveries_to}
use Rattle.device.specs.Msix.{in_table, msix_written}
use Rattle.device.specs.OneShot.{interrupts, turns_register, turns_act, one, NothingKept}
use Rattle.device.specs.Registers.{Register, register_at, memory_on}
use Rattle.device.specs.Ring.{Rung, rung, peer_id, vector, gate_of, opens, target, delivery_of, after_delivery, ring_at, ring, with_interrupt}
use Rattle.device.specs.Step.{Ran, ran, ran_rings, run, run_all}
use Rattle.device.specs.World.{Hub, Slot, World, world, zero_slot, reset_slot, slot_at, entry_at, with_slot, with_peer}
use Rattle.device.proofs.KeepingLaws.{Frame, run_all_frame}
use Rattle.device.proofs.SeenLaws.{Sight, sight, both_deliveries, reach}
use Rattle.device.proofs.StepLaws.{never}

pub interrupts_both : (xs ys : List Observation) → interrupts (xs ++ ys) ≡ interrupts xs + interrupts ys
unfolding interrupts
interrupts_both [] ys = omega arith
interrupts_both (Observation.answered n v a l ∷ xs) ys = interrupts_both xs ys
interrupts_both (Observation.interrupted d ∷ xs) ys = let rest = interrupts_both xs ys in omega arith

-- What rings make of a peer's slot: Privileged Control stays, and with one-shot on Interrupt Control falls by what is delivered.
pub record Settled (from : Slot) (x : Sight) : Type 0 where
  pub mode : x.view.slot.peer.privileged ≡ from.peer.privileged
  pub level : bit 0 from.peer.privileged ≡ true → from.peer.interrupt ≤ 1
      → interrupts x.heard + x.view.slot.peer.interrupt ≡ from.peer.interrupt

-- a ring is delivered only with Interrupt Control on
opens_control : (g : Gate) → opens g ≡ true → g.interrupt ≡ true
unfolding opens
opens_control g e = every_true _ e 4

-- the gate of a live target
abbrev gate_at : Hub → PeerId → Vector → Gate
gate_at hub t v = gate_of (slot_at hub t.0).peer (entry_at (slot_at hub t.0) v.0)

live_gate : (hub : Hub) (t : PeerId) (v : Vector) (g : Gate) → target hub t v ≡ Live g → gate_at hub t v ≡ g
unfolding target
live_gate hub t v g e = go (every (ltb t.0 hub.settings.peers ∷ eqb (slot_at hub t.0).peer.connected 1 ∷ ltb v.0 hub.settings.vectors ∷ [])) e
  where
    go : (x : Bool) → cond x (Live (gate_at hub t v)) Nobody ≡ Live g → gate_at hub t v ≡ g
    go true k = cc
    go false k = let z : ◌≡◌ {A = ℕ} 0 1 = cc in absurd (omega arith)

pub nothing_kept : NothingKept
unfolding ring ring_at gate_of
nothing_kept hub t v off = go (target hub t v) refl
  where
    shut : (g : Gate) → gate_at hub t v ≡ g → opens g ≡ true → ⊥
    shut g e o =
        let on : bit 0 (slot_at hub t.0).peer.interrupt ≡ true = ap (λ (x : Gate). x.interrupt) e ∙ opens_control g o in
        never (rw off at on)

    by : (x : Bool) (g : Gate) (r : Rung) → gate_at hub t v ≡ g → opens g ≡ x → cond x r (rung hub []) ≡ rung hub []
    by true g r e o = absurd (shut g e o)
    by false g r e o = refl

    go : (x : Target) → target hub t v ≡ x → ring_at hub t v x ≡ rung hub []
    go Nobody e = refl
    go (Live g) e = by (opens g) g _ (live_gate hub t v g e) refl

-- what a delivery leaves of the slot
delivery_mode : (g : Gate) (slot : Slot) → (after_delivery g slot).peer.privileged ≡ slot.peer.privileged
unfolding after_delivery
delivery_mode g slot = go g.oneshot
  where
    go : (t : Bool) → (cond t (with_peer slot (with_interrupt slot.peer 0)) slot).peer.privileged ≡ slot.peer.privileged
    go true = refl
    go false = refl

delivery_level : (g : Gate) (slot : Slot) → g.oneshot ≡ true → bit 0 slot.peer.interrupt ≡ true → slot.peer.interrupt ≤ 1
    → 1 + (after_delivery g slot).peer.interrupt ≡ slot.peer.interrupt
unfolding after_delivery
delivery_level g slot o i h =
    let on : slot.peer.interrupt / 2 ^ 0 % 2 ≡ 1 = eqb-true (slot.peer.interrupt / 2 ^ 0 % 2) 1 i in
    rw o (omega arith)

module _ (b : ℕ) where
  unrung : (w : World) (region : List ℕ) → Settled (slot_at w.hub b) (sight b (ran (world w.hub region) []))
  unfolding deliveries_to interrupts
  unrung w region = record { mode = refl; level = λ o h. omega arith }

  -- one thing, then another
  both : (from : Slot) (r q : Ran) → Settled from (sight b r) → Settled (slot_at r.world.hub b) (sight b q)
      → Settled from (sight b (ran q.world (r.deliveries ++ q.deliveries)))
  both from r q first rest =
      record {
        mode = rest.mode ∙ first.mode;
        level =
            λ o h.
            let here = first.level o h in
            let later = rest.level (rw first.mode o) (omega arith) in
            rw (
              both_deliveries b r.deliveries q.deliveries,
              interrupts_both (deliveries_to b r.deliveries)
                  (deliveries_to b q.deliveries),
            ) (omega arith);
      }

  -- The law of one ring at the peer.
  ring_settles : (w : World) (v : Vector) → b < length w.hub.slots
      → Settled (slot_at w.hub b) (sight b (ran_rings w.region (ring w.hub (peer_id b) v)))
  unfolding ring ring_at gate_of deliveries_to interrupts delivery_of
  ring_settles w v near = go (target w.hub (peer_id b) v) refl
    where
      slot : Slot
      slot = slot_at w.hub b

      opened : Gate → Rung
      opened g = rung (with_slot w.hub b (after_delivery g slot)) (delivery_of (peer_id b) v (entry_at slot v.0) ∷ [])

      delivered : (g : Gate) → gate_at w.hub (peer_id b) v ≡ g → opens g ≡ true → Settled slot (sight b (ran_rings w.region (opened g)))
      delivered g e o =
          let here : slot_at (with_slot w.hub b (after_delivery g slot)) b ≡ after_delivery g slot =
          get_or-set_same w.hub.slots b (after_delivery g slot) zero_slot near in
          record {
            mode = rw here (delivery_mode g slot);
            level =
                λ m h.
                rw (here, eq-eqb b b refl)
                (delivery_level g slot (sym (ap (λ (x : Gate). x.oneshot) e) ∙ m) (ap (λ (x : Gate). x.interrupt) e ∙ opens_control g o) h);
          }

      by : (t : Bool) (g : Gate) → gate_at w.hub (peer_id b) v ≡ g → opens g ≡ t
          → Settled slot (sight b (ran_rings w.region (cond t (opened g) (rung w.hub []))))
      by true g e o = delivered g e o
      by false g e o = unrung w w.region

      go : (x : Target) → target w.hub (peer_id b) v ≡ x → Settled slot (sight b (ran_rings w.region (ring_at w.hub (peer_id b) v x)))
      go Nobody e = unrung w w.region
      go (Live g) e = by (opens g) g (live_gate w.hub (peer_id b) v g e) refl

-- Operations that leave the peer's own slot alone: of another's call all, of its own those that are no change of its slot.
abbrev pub NoOwn : List Operation → Type 0
NoOwn [] = Unit {0}
NoOwn (Operation.own new ∷ os) = ⊥
NoOwn (Operation.write at bs ∷ os) = NoOwn os
NoOwn (Operation.ring_one t v ∷ os) = NoOwn os
NoOwn (Operation.ring_others ∷ os) = NoOwn os

-- A call's own changes come first, and P holds of what they leave.
abbrev pub First : (Slot → Type 0) → Slot → List Operation → Type 0
First P slot [] = P slot
First P slot (Operation.own new ∷ os) = First P new os
First P slot (Operation.write at bs ∷ os) = First P slot os
First P slot (Operation.ring_one t v ∷ os) = P slot × NoOwn os
First P slot (Operation.ring_others ∷ os) = P slot × NoOwn os

-- what own changes left, and what the rings made of it
pub record Left (P : Slot → Type 0) (x : Sight) : Type 0 where
  pub slot : Slot
  pub holds : P slot
  pub settled : Settled slot x

module _ (b : ℕ) where
  near_kept : (w : World) (o : Operation) → b < length w.hub.slots → b < length (run b w o).world.hub.slots
  unfolding run_all
  near_kept w o near = rw (ap (λ (f : Frame). f.slots) (run_all_frame b w (o ∷ []))) near

  ring_then : (w : World) (v : Vector) (os : List Operation) → b < length w.hub.slots
      → Settled (slot_at (run b w (Operation.ring_one (peer_id b) v)).world.hub b) (sight b (run_all b (run b w (Operation.ring_one (peer_id b) v)).world os))
      → Settled (slot_at w.hub b) (sight b (run_all b w (Operation.ring_one (peer_id b) v ∷ os)))
  unfolding run_all run
  ring_then w v os near rest =
      let r : Ran = run b w (Operation.ring_one (peer_id b) v) in
      both b (slot_at w.hub b) r (run_all b r.world os) (ring_settles b w v near) rest

  -- what reaches the peer of such operations is rings
  pub rings_settle : (mine : Bool) (os : List Operation) → (mine ≡ true → NoOwn os) → (w : World) → b < length w.hub.slots
      → Settled (slot_at w.hub b) (sight b (run_all b w (reach b mine os)))
  unfolding run_all run reach
  rings_settle mine [] n w near = unrung b w w.region
  rings_settle true (Operation.own new ∷ os) n w near = absurd (n refl)
  rings_settle false (Operation.own new ∷ os) n w near = rings_settle false os (λ e. never e) w near
  rings_settle mine (Operation.write at bs ∷ os) n w near = rings_settle mine os n (run b w (Operation.write at bs)).world near
  rings_settle mine (Operation.ring_one t v ∷ os) n w near =
      by_equal t.0 b
      (λ (q : t.0 ≡ b).
      rw (eq-eqb t.0 b q)
      (subst (λ (k : ℕ). Settled (slot_at w.hub b) (sight b (run_all b w (Operation.ring_one (peer_id k) v ∷ reach b mine os)))) (sym q)
      (ring_then w v (reach b mine os) near (rings_settle mine os n _ (near_kept w (Operation.ring_one (peer_id b) v) near)))))
      (λ (d : t.0 ≡ b → ⊥). rw (ne_eqb t.0 b d) (rings_settle mine os n w near))
  rings_settle true (Operation.ring_others ∷ os) n w near = rings_settle true os n w near
  rings_settle false (Operation.ring_others ∷ os) n w near =
      ring_then w (vector 0) (reach b false os) near (rings_settle false os (λ e. never e) _ (near_kept w (Operation.ring_one (peer_id b) (vector 0)) near))

  -- own changes, then rings
  pub own_left : (P : Slot → Type 0) (os : List Operation) (w : World) → b < length w.hub.slots
      → First P (slot_at w.hub b) os → Left P (sight b (run_all b w (reach b true os)))
  unfolding run_all run reach
  own_left P [] w near h = record { slot = slot_at w.hub b; holds = h; settled = unrung b w w.region }
  own_left P (Operation.own new ∷ os) w near h =
      let here : slot_at (with_slot w.hub b new) b ≡ new = get_or-set_same w.hub.slots b new zero_slot near in
      own_left P os (run b w (Operation.own new)).world (near_kept w (Operation.own new) near) (rw here h)
  own_left P (Operation.write at bs ∷ os) w near h = own_left P os (run b w (Operation.write at bs)).world near h
  own_left P (Operation.ring_one t v ∷ os) w near h =
      record { slot = slot_at w.hub b; holds = h.0; settled = rings_settle true (Operation.ring_one t v ∷ os) (λ e. h.1) w near }
  own_left P (Operation.ring_others ∷ os) w near h =
      record { slot = slot_at w.hub b; holds = h.0; settled = rings_settle true (Operation.ring_others ∷ os) (λ e. h.1) w near }

-- What a call does to the caller's own Interrupt Control: with one-shot on afterwards, what its stores to it say. A reset turns
-- one-shot off.

abbrev pub Kept : Peer → (set clear : Bool) → Slot → Type 0
Kept p set clear new =
    p.interrupt ≤ 1 → bit 0 new.peer.privileged ≡ true → (new.peer.interrupt ≤ 1) × (new.peer.interrupt + one clear ≡ one set + p.interrupt)

unturned : (new old : ℕ) → new ≡ old → old ≤ 1 → (new ≤ 1) × (new + one false ≡ one false + old)
unturned new old e h = (omega arith, omega arith)

turned : (old new : ℕ) → new ≤ 1 → old ≤ 1 → (new ≤ 1) × (new + one (eqb old 1 && eqb new 0) ≡ one (eqb old 0 && eqb new 1) + old)
turned zero zero n o = (n, refl)
turned zero (suc zero) n o = (n, refl)
turned (suc zero) zero n o = (n, refl)
turned (suc zero) (suc zero) n o = (n, refl)
turned zero (suc (suc new)) n o = absurd (omega arith)
turned (suc zero) (suc (suc new)) n o = absurd (omega arith)
turned (suc (suc old)) new n o = absurd (omega arith)

written_control : (s : Settings) (p : Peer) (at w x : ℕ) → (configuration_written s p at w x).interrupt ≡ p.interrupt
unfolding configuration_written written_byte with_byte
written_control s p at zero x = refl
written_control s p at (suc w) x = written_control s (written_byte s p at (x % 256)) (suc at) w (x / 256)

-- State store, reset and disconnect change the slot first
pub announces_first : (P : Slot → Type 0) (who : ℕ) (slot new : Slot) → P new → First P slot (announces who slot new)
unfolding announces
announces_first P who slot new h = go (changes slot.peer.state new.peer.state)
  where
    go : (t : Bool) → First P new (cond t (Operation.ring_others ∷ []) [])
    go true = (h, tt)
    go false = h

stored_first : (who : ℕ) (slot : Slot) (r : Register) (x : ℕ)
    → First (Kept slot.peer (turns_register 0 1 slot.peer r x) (turns_register 1 0 slot.peer r x)) slot (register_stored who slot r x)
unfolding register_stored turns_register
stored_first who slot Register.identity x = λ h m. unturned _ _ refl h
stored_first who slot Register.maximum_peers x = λ h m. unturned _ _ refl h
stored_first who slot Register.interrupt_control x = λ h m. turned slot.peer.interrupt (bit_and x 1) (and_le_r x 1) h
stored_first who slot Register.doorbell x = (λ h m. unturned _ _ refl h, tt)
stored_first who slot Register.state x = announces_first _ who slot _ (λ h m. unturned _ _ refl h)
stored_first who slot Register.none x = λ h m. unturned _ _ refl h

pub effect_first : (s : Settings) (who : ℕ) (slot : Slot) (region : List ℕ) (a : Act)
    → First (Kept slot.peer (turns_act 0 1 slot.peer a) (turns_act 1 0 slot.peer a)) slot (effect s who slot region a).operations
unfolding effect turns_act reset_slot msix_written
effect_first s who slot region connect = λ h m. never m
effect_first s who slot region (disconnect n) = announces_first _ who slot _ (λ h m. never m)
effect_first s who slot region (reset n) = announces_first _ who slot _ (λ h m. never m)
effect_first s who slot region (configuration_read at w) = λ h m. unturned _ _ refl h
effect_first s who slot region (configuration_write at w x) = λ h m. unturned _ _ (written_control s slot.peer at w x) h
effect_first s who slot region (register_read at w) = λ h m. unturned _ _ refl h
effect_first s who slot region (register_write n at w x) = go (memory_on slot.peer)
  where
    p : Peer
    p = slot.peer

    r : Register
    r = register_at at

    go : (t : Bool) → First (Kept p (t && turns_register 0 1 p r x) (t && turns_register 1 0 p r x)) slot (cond t (register_stored who slot r x) [])
    go true = stored_first who slot r x
    go false = λ h m. unturned _ _ refl h
effect_first s who slot region (msix_read at w) = λ h m. unturned _ _ refl h
effect_first s who slot region (msix_write at w x) = go (memory_on slot.peer)
  where
    put : (t : Bool) (new : List Entry) → Kept slot.peer false false (cond t (record { peer = slot.peer; entries = new }) slot)
    put true new = λ h m. unturned _ _ refl h
    put false new = λ h m. unturned _ _ refl h

    go : (t : Bool) → First (Kept slot.peer false false) slot (cond t (Operation.own (msix_written s slot at x) ∷ []) [])
    go true = put (in_table s at) _
    go false = λ h m. unturned _ _ refl h
effect_first s who slot region (question at n) = λ h m. unturned _ _ refl h
effect_first s who slot region (load at n) = λ h m. unturned _ _ refl h
effect_first s who slot region (store at bs) = λ h m. unturned _ _ refl h
