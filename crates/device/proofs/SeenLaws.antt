-- What one peer can see of a world, and what each primitive operation, its own or another's, does to that: nothing but its own
-- changes to its slot, writes to the region and rings at its id.
use Prim.Native.Nat.{ℕ, zero, suc, ◌+◌, ◌<◌, ◌≤◌}
use mathlib.Core.Bool.{Bool, true, false, cond}
use mathlib.Core.List.{List, [], ◌∷◌, ◌++◌, append-nil}
use mathlib.Core.Path.{◌≡◌, refl, sym, ap, ap₂, subst, ◌∙◌}
use native.Mathlib.Omega.{arith}
use borrow.Author.Tests.{eqb-true, eqb-false, ltb-true, ltb-false, eq-eqb, ne_eqb, le-ltb}
use lib.Dec.{eqb, ltb}
use lib.ListN.{length, length-set}
use lib.Seq.{get_or-set_other, sets}
use Rattle.common.proofs.ListLaws.{get_d_set_alike}
use Rattle.common.proofs.TestLaws.{by_equal, every_false}
use Rattle.device.specs.declared.Delivery.{Delivery}
use Rattle.device.specs.declared.Gate.{Gate}
use Rattle.device.specs.declared.PeerId.{PeerId}
use Rattle.device.specs.declared.Settings.{Settings}
use Rattle.device.specs.declared.Target.{Target}
use Rattle.device.specs.declared.Target.TheVariants.{Live, Nobody}
use Rattle.device.specs.declared.Vector.{Vector}
use Rattle.device.specs.Effect.{Operation}
use Rattle.device.specs.History.{Observation, deliveries_to}
use Rattle.device.specs.Ring.{Rung, rung, peer_id, vector, opens, target, after_delivery, delivery_of, ring_at, ring, ring_from}
use Rattle.device.specs.Ring
use Rattle.device.specs.Step.{Ran, ran, ran_rings, run, run_all}
use Rattle.device.specs.World.{Slot, World, world, zero_slot, slot_at, entry_at, with_slot}

-- of a world: the settings, how many slots there are, the peer's own slot and the region
pub record View : Type 0 where
  pub settings : Settings
  pub count : ℕ
  pub slot : Slot
  pub region : List ℕ

abbrev pub view : ℕ → World → View
view b w = record { settings = w.hub.settings; count = length w.hub.slots; slot = slot_at w.hub b; region = w.region }

-- of what was run: the view afterwards, and the deliveries to the peer
pub record Sight : Type 0 where
  pub view : View
  pub heard : List Observation

abbrev pub sight : ℕ → Ran → Sight
sight b r = record { view = view b r.world; heard = deliveries_to b r.deliveries }

abbrev pub heard_first : List Observation → Sight → Sight
heard_first hs x = record { view = x.view; heard = hs ++ x.heard }

-- one thing run after the other
abbrev joined : Ran → Ran → Ran
joined r q = ran q.world (r.deliveries ++ q.deliveries)

pub both_deliveries : (b : ℕ) (ds es : List Delivery) → deliveries_to b (ds ++ es) ≡ deliveries_to b ds ++ deliveries_to b es
unfolding deliveries_to
both_deliveries b [] es = refl
both_deliveries b (d ∷ ds) es = rw (both_deliveries b ds es) (go (eqb d.target.0 b))
  where
    go : (t : Bool)
        → cond t (Observation.interrupted d ∷ (deliveries_to b ds ++ deliveries_to b es)) (deliveries_to b ds ++ deliveries_to b es)
        ≡ cond t (Observation.interrupted d ∷ deliveries_to b ds) (deliveries_to b ds) ++ deliveries_to b es
    go true = refl
    go false = refl

module _ (b : ℕ) where
  joined_sight : (r q : Ran) → sight b (joined r q) ≡ heard_first (deliveries_to b r.deliveries) (sight b q)
  joined_sight r q = ap (λ (hs : List Observation). record { view = view b q.world; heard = hs }) (both_deliveries b r.deliveries q.deliveries)

  joined_alike : (r r' q q' : Ran) → sight b r ≡ sight b r' → sight b q ≡ sight b q' → sight b (joined r q) ≡ sight b (joined r' q')
  joined_alike r r' q q' e f =
      joined_sight r q ∙ ap₂ (λ (x y : Sight). heard_first x.heard y) e f ∙ sym (joined_sight r' q')

  -- nothing that the peer sees happens at first, or afterwards
  quiet_before : (r q : Ran) → deliveries_to b r.deliveries ≡ [] → sight b (joined r q) ≡ sight b q
  quiet_before r q e = joined_sight r q ∙ ap (λ (hs : List Observation). heard_first hs (sight b q)) e

  quiet_after : (r q : Ran) → sight b q ≡ sight b (ran r.world []) → sight b (joined r q) ≡ sight b r
  unfolding deliveries_to
  quiet_after r q e =
      joined_sight r q
      ∙ ap (λ (x : Sight). heard_first (deliveries_to b r.deliveries) x) e
      ∙ ap (λ (hs : List Observation). record { view = view b r.world; heard = hs }) (append-nil (deliveries_to b r.deliveries))

  -- a slot takes a value
  put_other : (w : World) (i : ℕ) (x : Slot) → (b ≡ i → ⊥) → view b (world (with_slot w.hub i x) w.region) ≡ view b w
  put_other w i x d =
      λ j. record {
        settings = w.hub.settings;
        count = length-set w.hub.slots i x j;
        slot = get_or-set_other
            w.hub.slots i b x zero_slot d j;
        region = w.region;
      }

  put_here : (w w' : World) (x : Slot) → view b w ≡ view b w'
      → view b (world (with_slot w.hub b x) w.region) ≡ view b (world (with_slot w'.hub b x) w'.region)
  put_here w w' x e =
      λ j. record {
        settings = (e j).settings;
        count = (length-set w.hub.slots b x ∙ ap (λ (y : View). y.count) e ∙ sym (length-set w'.hub.slots b x)) j;
        slot = get_d_set_alike w.hub.slots w'.hub.slots b x zero_slot (ap (λ (y : View). y.count) e) (ap (λ (y : View). y.slot) e) j;
        region = (e j).region;
      }

  -- a ring at another id, and one at the peer's own
  ring_elsewhere : (w : World) (t : PeerId) (v : Vector) → (t.0 ≡ b → ⊥) → sight b (ran_rings w.region (ring w.hub t v)) ≡ sight b (ran w [])
  unfolding ring ring_at deliveries_to delivery_of
  ring_elsewhere w t v d = go (target w.hub t v)
    where
      by : (o : Bool) (g : Gate)
          → sight b (ran_rings w.region (cond o (rung (with_slot w.hub t.0 (after_delivery g (slot_at w.hub t.0)))
          (delivery_of t v (entry_at (slot_at w.hub t.0) v.0) ∷ [])) (rung w.hub [])))
          ≡ sight b (ran w [])
      by true g = rw (ne_eqb t.0 b d) (ap (λ (x : View). record { view = x; heard = [] })
          (put_other w t.0 (after_delivery g (slot_at w.hub t.0)) (λ e. d (sym e))))
      by false g = refl

      go : (x : Target) → sight b (ran_rings w.region (ring_at w.hub t v x)) ≡ sight b (ran w [])
      go Nobody = refl
      go (Live g) = by (opens g) g

  target_alike : (w w' : World) (v : Vector) → view b w ≡ view b w' → target w.hub (peer_id b) v ≡ target w'.hub (peer_id b) v
  unfolding target
  target_alike w w' v e =
      let s : w.hub.settings ≡ w'.hub.settings = ap (λ (y : View). y.settings) e in
      let x : slot_at w.hub b ≡ slot_at w'.hub b = ap (λ (y : View). y.slot) e in
      cc

  ring_here : (w w' : World) (v : Vector) → view b w ≡ view b w'
      → sight b (ran_rings w.region (ring w.hub (peer_id b) v)) ≡ sight b (ran_rings w'.region (ring w'.hub (peer_id b) v))
  unfolding ring ring_at deliveries_to
  ring_here w w' v e = rw (target_alike w w' v e) (go (target w'.hub (peer_id b) v))
    where
      x : slot_at w.hub b ≡ slot_at w'.hub b
      x = ap (λ (y : View). y.slot) e

      after : World → Gate → Rung
      after u g = rung (with_slot u.hub b (after_delivery g (slot_at u.hub b))) (delivery_of (peer_id b) v (entry_at (slot_at u.hub b) v.0) ∷ [])

      by : (o : Bool) (g : Gate) → sight b (ran_rings w.region (cond o (after w g) (rung w.hub [])))
          ≡ sight b (ran_rings w'.region (cond o (after w' g) (rung w'.hub [])))
      by true g =
          let hs : List Observation = deliveries_to b (delivery_of (peer_id b) v (entry_at (slot_at w'.hub b) v.0) ∷ []) in
          rw x (ap (λ (y : View). record { view = y; heard = hs }) (put_here w w' (after_delivery g (slot_at w'.hub b)) e))
      by false g = ap (λ (y : View). record { view = y; heard = [] }) e

      go : (y : Target) → sight b (ran_rings w.region (ring_at w.hub (peer_id b) v y)) ≡ sight b (ran_rings w'.region (ring_at w'.hub (peer_id b) v y))
      go Nobody = ap (λ (y : View). record { view = y; heard = [] }) e
      go (Live g) = by (opens g) g

  -- a ring at every other id: of the n from i none is the peer's own, or one of them is
  ring_first : (w : World) (i who : ℕ) → ((i ≡ who → ⊥) → i ≡ b → ⊥)
      → sight b (ran_rings w.region (cond (eqb i who) (rung w.hub []) (ring w.hub (peer_id i) (vector 0)))) ≡ sight b (ran w [])
  ring_first w i who d = go (eqb i who) refl
    where
      go : (t : Bool) → eqb i who ≡ t → sight b (ran_rings w.region (cond t (rung w.hub []) (ring w.hub (peer_id i) (vector 0)))) ≡ sight b (ran w [])
      go true e = refl
      go false e = ring_elsewhere w (peer_id i) (vector 0) (d (eqb-false i who e))

  none_here : (n i who : ℕ) (w : World) → ((j : ℕ) → i ≤ j → j < i + n → (j ≡ who → ⊥) → j ≡ b → ⊥)
      → sight b (ran_rings w.region (ring_from n i who w.hub)) ≡ sight b (ran w [])
  unfolding ring_from
  none_here zero i who w d = refl
  none_here (suc n) i who w d =
      let r : Rung = cond (eqb i who) (rung w.hub []) (ring w.hub (peer_id i) (vector 0)) in
      let first = ring_first w i who (d i (omega arith) (omega arith)) in
      quiet_after (ran_rings w.region r) (ran_rings w.region (ring_from n (suc i) who r.hub))
      (none_here n (suc i) who (world r.hub w.region) (λ j l u. d j (omega arith) (omega arith)))
      ∙ first

  ring_own : (w w' : World) (i who : ℕ) → i ≡ b → (b ≡ who → ⊥) → view b w ≡ view b w'
      → sight b (ran_rings w.region (cond (eqb i who) (rung w.hub []) (ring w.hub (peer_id i) (vector 0))))
      ≡ sight b (ran_rings w'.region (ring w'.hub (peer_id b) (vector 0)))
  ring_own w w' i who q d e = rw (q, ne_eqb b who d) (ring_here w w' (vector 0) e)

  one_here : (n i who : ℕ) (w w' : World) → (b ≡ who → ⊥) → i ≤ b → b < i + n → view b w ≡ view b w'
      → sight b (ran_rings w.region (ring_from n i who w.hub)) ≡ sight b (ran_rings w'.region (ring w'.hub (peer_id b) (vector 0)))
  unfolding ring_from deliveries_to
  one_here zero i who w w' d l u e = absurd (omega arith)
  one_here (suc n) i who w w' d l u e =
      let r : Rung = cond (eqb i who) (rung w.hub []) (ring w.hub (peer_id i) (vector 0)) in
      let later : World = world r.hub w.region in
      by_equal i b
      (λ (q : i ≡ b).
      quiet_after (ran_rings w.region r) (ran_rings w.region (ring_from n (suc i) who r.hub))
      (none_here n (suc i) who later (λ j g h k m. omega arith))
      ∙ ring_own w w' i who q d e)
      (λ (q : i ≡ b → ⊥).
      let first = ring_first w i who (λ k. q) in
      quiet_before (ran_rings w.region r) (ran_rings w.region (ring_from n (suc i) who r.hub)) (ap (λ (x : Sight). x.heard) first)
      ∙ one_here n (suc i) who later w' d (omega arith) (omega arith) (ap (λ (x : Sight). x.view) first ∙ e))

  -- no peer has the id
  ring_nobody : (w : World) (v : Vector) → w.hub.settings.peers ≤ b → sight b (ran_rings w.region (ring w.hub (peer_id b) v)) ≡ sight b (ran w [])
  unfolding ring ring_at target
  ring_nobody w v h = rw (every_false (ltb b w.hub.settings.peers ∷ eqb (slot_at w.hub b).peer.connected 1
      ∷ ltb v.0 w.hub.settings.vectors ∷ []) 0 (le-ltb b w.hub.settings.peers h))

  -- so to the peer a ring at all others is no ring if it is its own, and a ring at its id if it is another's
  own_others : (w : World) → sight b (run b w Operation.ring_others) ≡ sight b (ran w [])
  unfolding run Ring.ring_others
  own_others w = none_here w.hub.settings.peers 0 b w (λ j l u d. d)

  other_others : (w w' : World) (who : ℕ) → (b ≡ who → ⊥) → view b w ≡ view b w'
      → sight b (run who w Operation.ring_others) ≡ sight b (run b w' (Operation.ring_one (peer_id b) (vector 0)))
  unfolding run Ring.ring_others deliveries_to
  other_others w w' who d e = go (ltb b w.hub.settings.peers) refl
    where
      n : ℕ
      n = w.hub.settings.peers

      go : (t : Bool) → ltb b n ≡ t → sight b (ran_rings w.region (ring_from n 0 who w.hub))
          ≡ sight b (ran_rings w'.region (ring w'.hub (peer_id b) (vector 0)))
      go true h = one_here n 0 who w w' d (omega arith) (omega (arith, ltb-true)) e
      go false h =
          let m : w'.hub.settings.peers ≡ n = ap (λ (y : View). y.settings.peers) (sym e) in
          none_here n 0 who w (λ j l u k m. omega (arith, ltb-false b n h))
          ∙ ap (λ (x : View). record { view = x; heard = [] }) e
          ∙ sym (ring_nobody w' (vector 0) (omega (arith, ltb-false b n h)))

-- What of the operations of a call reaches the peer, by whether the call is its own: all that it sees of them.
unfoldable pub reach : ℕ → Bool → List Operation → List Operation
reach b mine [] = []
reach b true (Operation.own new ∷ os) = Operation.own new ∷ reach b true os
reach b false (Operation.own new ∷ os) = reach b false os
reach b mine (Operation.write at bs ∷ os) = Operation.write at bs ∷ reach b mine os
reach b mine (Operation.ring_one t v ∷ os) = cond (eqb t.0 b) (Operation.ring_one t v ∷ reach b mine os) (reach b mine os)
reach b true (Operation.ring_others ∷ os) = reach b true os
reach b false (Operation.ring_others ∷ os) = Operation.ring_one (peer_id b) (vector 0) ∷ reach b false os

module _ (b who : ℕ) where
  pub all_seen : (mine : Bool) → eqb who b ≡ mine → (os : List Operation) (w w' : World) → view b w ≡ view b w'
      → sight b (run_all who w os) ≡ sight b (run_all b w' (reach b mine os))
  unfolding run_all run reach deliveries_to
  all_seen mine m [] w w' e = ap (λ (x : View). record { view = x; heard = [] }) e
  all_seen true m (Operation.own new ∷ os) w w' e =
      let here : view b (run who w (Operation.own new)).world ≡ view b (run b w' (Operation.own new)).world = rw (eqb-true who b m) (put_here b w w' new e) in
      all_seen true m os (run who w (Operation.own new)).world (run b w' (Operation.own new)).world here
  all_seen false m (Operation.own new ∷ os) w w' e =
      all_seen false m os (run who w (Operation.own new)).world w' (put_other b w who new (λ q. eqb-false who b m (sym q)) ∙ e)
  all_seen mine m (Operation.write at bs ∷ os) w w' e =
      all_seen mine m os (run who w (Operation.write at bs)).world (run b w' (Operation.write at bs)).world
      (ap (λ (x : View). record { settings = x.settings; count = x.count; slot = x.slot; region = sets x.region at bs }) e)
  all_seen mine m (Operation.ring_one t v ∷ os) w w' e =
      let r : Ran = run who w (Operation.ring_one t v) in
      let r' : Ran = run b w' (Operation.ring_one t v) in
      by_equal t.0 b
      (λ (q : t.0 ≡ b).
      let here : sight b r ≡ sight b r' =
      subst (λ (k : ℕ). sight b (ran_rings w.region (ring w.hub (peer_id k) v))
      ≡ sight b (ran_rings w'.region (ring w'.hub (peer_id k) v))) (sym q) (ring_here b w w' v e) in
      rw (eq-eqb t.0 b q)
      (joined_alike b r r' (run_all who r.world os) (run_all b r'.world (reach b mine os)) here
      (all_seen mine m os r.world r'.world (ap (λ (x : Sight). x.view) here))))
      (λ (d : t.0 ≡ b → ⊥).
      let past : sight b r ≡ sight b (ran w []) = ring_elsewhere b w t v d in
      rw (ne_eqb t.0 b d)
      (quiet_before b r (run_all who r.world os) (ap (λ (x : Sight). x.heard) past)
      ∙ all_seen mine m os r.world w' (ap (λ (x : Sight). x.view) past ∙ e)))
  all_seen true m (Operation.ring_others ∷ os) w w' e =
      let r : Ran = run who w Operation.ring_others in
      let past : sight b r ≡ sight b (ran w []) = rw (eqb-true who b m) (own_others b w) in
      quiet_before b r (run_all who r.world os) (ap (λ (x : Sight). x.heard) past)
      ∙ all_seen true m os r.world w' (ap (λ (x : Sight). x.view) past ∙ e)
  all_seen false m (Operation.ring_others ∷ os) w w' e =
      let r : Ran = run who w Operation.ring_others in
      let r' : Ran = run b w' (Operation.ring_one (peer_id b) (vector 0)) in
      let here : sight b r ≡ sight b r' = other_others b w w' who (λ q. eqb-false who b m (sym q)) e in
      joined_alike b r r' (run_all who r.world os) (run_all b r'.world (reach b false os)) here
      (all_seen false m os r.world r'.world (ap (λ (x : Sight). x.view) here))
