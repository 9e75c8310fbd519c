-- What operations keep. Rings only clear Interrupt Controls, so a property of slots that a delivery keeps and that the caller's
-- own operations keep holds of every slot after a call; the settings and the sizes of hub and region never change.
use Prim.Native.Nat.{ℕ, zero, suc, ◌<◌}
use mathlib.Core.Bool.{Bool, true, false, cond}
use mathlib.Core.List.{List, [], ◌∷◌}
use mathlib.Core.Path.{◌≡◌, refl, ap, subst, ◌∙◌}
use lib.Dec.{eqb}
use lib.ListN.{length, length-set}
use lib.Seq.{get_or-set_same, get_or-set_other, length-sets}
use Rattle.common.proofs.ListLaws.{get_d_set}
use Rattle.common.proofs.TestLaws.{by_equal}
use Rattle.device.specs.declared.Delivery.{Delivery}
use Rattle.device.specs.declared.Gate.{Gate}
use Rattle.device.specs.declared.PeerId.{PeerId}
use Rattle.device.specs.declared.Settings.{Settings}
use Rattle.device.specs.declared.Target.{Target}
use Rattle.device.specs.declared.Target.TheVariants.{Live, Nobody}
use Rattle.device.specs.declared.Vector.{Vector}
use Rattle.device.specs.Effect.{Operation, announces, changes}
use Rattle.device.specs.Ring.{rung, peer_id, vector, opens, target, after_delivery, ring_at, ring, ring_from}
use Rattle.device.specs.Ring
use Rattle.device.specs.Step.{run, run_all}
use Rattle.device.specs.World.{Hub, Slot, World, world, zero_slot, slot_at, with_slot}

-- What rings make of a hub: one delivery after the other.
data Rings : Hub → Hub → Type 0 where
  none : {h : Hub} → Rings h h
  delivered : {h k : Hub} (i : ℕ) (g : Gate) → Rings (with_slot h i (after_delivery g (slot_at h i))) k → Rings h k

both : {h k l : Hub} → Rings h k → Rings k l → Rings h l
both none r = r
both (delivered i g q) r = delivered i g (both q r)

ring_rings : (hub : Hub) (t : PeerId) (v : Vector) → Rings hub (ring hub t v).hub
unfolding ring ring_at
ring_rings hub t v = go (target hub t v)
  where
    by : (b : Bool) (g : Gate) (ds : List Delivery)
        → Rings hub (cond b (rung (with_slot hub t.0 (after_delivery g (slot_at hub t.0))) ds) (rung hub [])).hub
    by true g ds = delivered t.0 g none
    by false g ds = none

    go : (x : Target) → Rings hub (ring_at hub t v x).hub
    go Nobody = none
    go (Live g) = by (opens g) g _

ring_from_rings : (n i who : ℕ) (hub : Hub) → Rings hub (ring_from n i who hub).hub
unfolding ring_from
ring_from_rings zero i who hub = none
ring_from_rings (suc n) i who hub = both (first (eqb i who)) (ring_from_rings n (suc i) who _)
  where
    first : (t : Bool) → Rings hub (cond t (rung hub []) (ring hub (peer_id i) (vector 0))).hub
    first true = none
    first false = ring_rings hub (peer_id i) (vector 0)

run_rings : (who : ℕ) (w : World) → Rings w.hub (run who w Operation.ring_others).world.hub
unfolding run Ring.ring_others
run_rings who w = ring_from_rings w.hub.settings.peers 0 who w.hub

-- What never changes: the settings, the number of slots and the number of the region's bytes.
pub record Frame : Type 0 where
  pub settings : Settings
  pub slots : ℕ
  pub room : ℕ

abbrev pub frame : World → Frame
frame w = record { settings = w.hub.settings; slots = length w.hub.slots; room = length w.region }

rings_frame : {h k : Hub} (region : List ℕ) → Rings h k → frame (world k region) ≡ frame (world h region)
rings_frame region none = refl
rings_frame region (delivered {h = h} i g r) =
    rings_frame region r
    ∙ ap (λ (n : ℕ). record { settings = h.settings; slots = n; room = length region }) (length-set h.slots i (after_delivery g (slot_at h i)))

run_frame : (who : ℕ) (w : World) (o : Operation) → frame (run who w o).world ≡ frame w
unfolding run
run_frame who w (Operation.own slot) =
    ap (λ (n : ℕ). record { settings = w.hub.settings; slots = n; room = length w.region }) (length-set w.hub.slots who slot)
run_frame who w (Operation.write at bs) =
    ap (λ (n : ℕ). record { settings = w.hub.settings; slots = length w.hub.slots; room = n }) (length-sets w.region at bs)
run_frame who w (Operation.ring_one t v) = rings_frame w.region (ring_rings w.hub t v)
run_frame who w Operation.ring_others = rings_frame w.region (run_rings who w)

pub run_all_frame : (who : ℕ) (w : World) (os : List Operation) → frame (run_all who w os).world ≡ frame w
unfolding run_all
run_all_frame who w [] = refl
run_all_frame who w (o ∷ os) = run_all_frame who (run who w o).world os ∙ run_frame who w o

-- What operations leave in the caller's own slot, up to deliveries to it: P holds where a ring can find it and at the end.
abbrev pub Leaves : (Slot → Type 0) → Slot → List Operation → Type 0
Leaves P slot [] = P slot
Leaves P slot (Operation.own new ∷ os) = Leaves P new os
Leaves P slot (Operation.write at bs ∷ os) = Leaves P slot os
Leaves P slot (Operation.ring_one t v ∷ os) = P slot × ((later : Slot) → P later → Leaves P later os)
Leaves P slot (Operation.ring_others ∷ os) = P slot × ((later : Slot) → P later → Leaves P later os)

-- State store, reset and disconnect: the new slot, whether they ring or not
pub announces_leaves : (P : Slot → Type 0) (who : ℕ) (slot old new : Slot) → P new → Leaves P slot (announces who old new)
unfolding announces
announces_leaves P who slot old new h = go (changes old.peer.state new.peer.state)
  where
    go : (t : Bool) → Leaves P new (cond t (Operation.ring_others ∷ []) [])
    go true = (h, λ later f. f)
    go false = h

-- P holds of each of the first n slots of a hub, and of each but one
abbrev pub Every : (ℕ → Slot → Type 0) → ℕ → Hub → Type 0
Every P n hub = (i : ℕ) → i < n → P i (slot_at hub i)

abbrev EveryOther : (ℕ → Slot → Type 0) → ℕ → ℕ → Hub → Type 0
EveryOther P n who hub = (i : ℕ) → i < n → (i ≡ who → ⊥) → P i (slot_at hub i)

module _ (P : ℕ → Slot → Type 0) (keeps : (i : ℕ) (g : Gate) (slot : Slot) → P i slot → P i (after_delivery g slot)) (n : ℕ) where
  rings_keep : {h k : Hub} → Rings h k → Every P n h → Every P n k
  rings_keep none all = all
  rings_keep (delivered {h = h} j g r) all =
      rings_keep r
      (λ i l.
      get_d_set (P i) h.slots j i (after_delivery g (slot_at h j)) zero_slot
      (λ e. subst (λ (k : ℕ). P i (after_delivery g (slot_at h k))) e (keeps i g (slot_at h i) (all i l)))
      (all i l))

  pub ring_keeps : (hub : Hub) (t : PeerId) (v : Vector) → Every P n hub → Every P n (ring hub t v).hub
  ring_keeps hub t v all = rings_keep (ring_rings hub t v) all

module _ (P : ℕ → Slot → Type 0) (keeps : (i : ℕ) (g : Gate) (slot : Slot) → P i slot → P i (after_delivery g slot)) (n who : ℕ) (small : who < n) where
  whole : (hub : Hub) → EveryOther P n who hub → P who (slot_at hub who) → Every P n hub
  whole hub others mine i l = by_equal i who (λ (e : i ≡ who). rw e mine) (λ d. others i l d)

  pub run_all_keeps : (w : World) (os : List Operation) → length w.hub.slots ≡ n → EveryOther P n who w.hub
      → Leaves (P who) (slot_at w.hub who) os → Every P n (run_all who w os).world.hub
  unfolding run_all run
  run_all_keeps w [] size others leaves = whole w.hub others leaves
  run_all_keeps w (Operation.own new ∷ os) size others leaves =
      let here : slot_at (with_slot w.hub who new) who ≡ new = get_or-set_same w.hub.slots who new zero_slot (rw size small) in
      run_all_keeps (run who w (Operation.own new)).world os (ap (λ (f : Frame). f.slots) (run_frame who w (Operation.own new)) ∙ size)
      (λ i l d. rw (get_or-set_other w.hub.slots who i new zero_slot d) (others i l d))
      (rw here leaves)
  run_all_keeps w (Operation.write at bs ∷ os) size others leaves =
      run_all_keeps (run who w (Operation.write at bs)).world os size others leaves
  run_all_keeps w (Operation.ring_one t v ∷ os) size others leaves =
      let after = ring_keeps P keeps n w.hub t v (whole w.hub others leaves.0) in
      run_all_keeps (run who w (Operation.ring_one t v)).world os (ap (λ (f : Frame). f.slots) (run_frame who w (Operation.ring_one t v)) ∙ size)
      (λ i l d. after i l) (leaves.1 _ (after who small))
  run_all_keeps w (Operation.ring_others ∷ os) size others leaves =
      let after = rings_keep P keeps n (run_rings who w) (whole w.hub others leaves.0) in
      run_all_keeps (run who w Operation.ring_others).world os (ap (λ (f : Frame). f.slots) (run_frame who w Operation.ring_others) ∙ size)
      (λ i l d. after i l) (leaves.1 _ (after who small))
