-- Laws of one ring: what a target tells, what one ring leaves, and that a ring keeps the settings and the MSI-X entries and
-- delivers at most one interrupt.
use Prim.Native.Nat.{ℕ, ◌≤◌, ◌<◌}
use mathlib.Core.Bool.{Bool, true, false, cond, not, ◌&&◌, not-not}
use mathlib.Core.List.{List, [], ◌∷◌}
use mathlib.Core.Path.{◌≡◌, refl, sym, ap, ◌∙◌}
use native.Mathlib.Omega.{arith}
use borrow.Author.Tests.{ltb-true, lt-ltb, eq-eqb}
use lib.Dec.{eqb, ltb}
use lib.ListN.{length, get_or}
use Rattle.common.proofs.ListLaws.{get_d_set}
use Rattle.common.proofs.TestLaws.{every_false, every_true}
use Rattle.common.specs.Tests.{every}
use Rattle.device.proofs.SetUpLaws.{accepted_facts}
use Rattle.device.specs.declared.Delivery.{Delivery}
use Rattle.device.specs.declared.Gate.{Gate}
use Rattle.device.specs.declared.PeerId.{PeerId}
use Rattle.device.specs.declared.Settings.{Settings}
use Rattle.device.specs.declared.Target.{Target}
use Rattle.device.specs.declared.Target.TheVariants.{Live, Nobody}
use Rattle.device.specs.declared.Vector.{Vector}
use Rattle.device.specs.Ring.{Rung, rung, gate_of, opens, target, with_interrupt, after_delivery, ring_at, ring}
use Rattle.device.specs.SetUp.{accepted}
use Rattle.device.specs.Sizes.{max_peers}
use Rattle.device.specs.World.{Hub, Slot, zero_slot, slot_at, entry_at, with_slot, with_peer}
use Rattle.std.proofs.lemmas.Option.{none-some}
use Rattle.std.specs.Bool.{then_some}
use Rattle.std.specs.Option.{unwrap_or}
use Rattle.std.specs.Prelude.{Option, Some, None}
use Rattle.words.proofs.LayoutLaws.{accepted_fits}
use Rattle.words.proofs.SlotLaws.{slot_kept}
use Rattle.words.specs.Layout.{fits, hub_of}
use Rattle.gate.specs.PassedGate.{passed_gate}
use Rattle.gate.specs.RingOutcome.{sent_at, outcome_list, Usable, disarmed}

-- ids of a usable hub are few, and its words fit
pub peer_below : (ws : List ℕ) (i : ℕ) → Usable ws → i < (hub_of ws).settings.peers → i < max_peers
peer_below ws i u l = omega (arith, (accepted_facts _ u.numbers).peers)

pub usable_fits : (ws : List ℕ) → Usable ws → fits ws ≡ true
usable_fits ws u = accepted_fits ws u.numbers

pub usable_kept : (before after : List ℕ) → Usable before → (hub_of after).settings ≡ (hub_of before).settings → Usable after
usable_kept before after u same = record { numbers = ap (λ (s : Settings). accepted s) same ∙ u.numbers }

-- a ring's two parts
pub apart : (hub : Hub) (ds : List Delivery) {r : Rung} → rung hub ds ≡ r → (hub ≡ r.hub) × (ds ≡ r.deliveries)
apart hub ds e = (ap (λ (r : Rung). r.hub) e, ap (λ (r : Rung). r.deliveries) e)

-- a gate's switches, each as it stands for a delivery
abbrev switches : Gate → List Bool
switches g = g.master ∷ g.enabled ∷ not g.masked ∷ not g.silenced ∷ g.interrupt ∷ []

interrupt_on : (g : Gate) → opens g ≡ true → g.interrupt ≡ true
unfolding opens
interrupt_on g o = every_true (switches g) o 4

-- a delivered ring clears the gate's interrupt exactly in one-shot mode
cleared : (g : Gate) → opens g ≡ true → (g.interrupt && not (passed_gate g).interrupt) ≡ g.oneshot
unfolding passed_gate
cleared g o = rw (o, interrupt_on g o) (not-not g.oneshot)

-- a gate that is passed on, and one that is not
some_passed : (b : Bool) (g after : Gate) → then_some b g ≡ Some after → (b ≡ true) × (g ≡ after)
some_passed true g after e = (refl, ap (λ (o : Option Gate). unwrap_or o g) e)
some_passed false g after e = absurd (none-some after e)

none_passed : (b : Bool) (g : Gate) → then_some b g ≡ None → b ≡ false
none_passed true g e = absurd (none-some g (sym e))
none_passed false g e = refl

-- the tests that a target passes
abbrev tests : Hub → PeerId → Vector → List Bool
tests hub t v =
    ltb t.0 hub.settings.peers
    ∷ eqb (slot_at hub t.0).peer.connected 1
    ∷ ltb v.0 hub.settings.vectors
    ∷ []

module _ (hub : Hub) (t : PeerId) (v : Vector) where
  pub nobody : (k : ℕ) → get_or (tests hub t v) k true ≡ false → Nobody ≡ target hub t v
  unfolding target
  nobody k e = rw (every_false (tests hub t v) k e)

  pub live : t.0 < hub.settings.peers → (slot_at hub t.0).peer.connected ≡ 1 → v.0 < hub.settings.vectors
      → Live (gate_of (slot_at hub t.0).peer (entry_at (slot_at hub t.0) v.0)) ≡ target hub t v
  unfolding target every
  live known connected few = rw (lt-ltb _ _ known, eq-eqb _ _ connected, lt-ltb _ _ few)

  -- what a ring that finds a gate knows
  pub found : (gate : Gate) → Live gate ≡ target hub t v → t.0 < hub.settings.peers
  unfolding target
  found gate e = by (every (tests hub t v)) refl
    where
      by : (b : Bool) → every (tests hub t v) ≡ b → t.0 < hub.settings.peers
      by true f = ltb-true _ _ (every_true (tests hub t v) f 0)
      by false f = let z : ◌≡◌ {A = ℕ} 0 1 = cc in absurd (omega arith)

  -- and one that is delivered
  pub reached : outcome_list hub t v true ≡ (ring hub t v).deliveries → t.0 < hub.settings.peers
  unfolding outcome_list ring ring_at
  reached e = by (target hub t v) refl
    where
      by : (x : Target) → target hub t v ≡ x → t.0 < hub.settings.peers
      by (Live gate) f = found gate (sym f)
      by Nobody f =
          let n : outcome_list hub t v true ≡ [] = rw f at e in
          let z : ◌≡◌ {A = ℕ} 0 1 = cc in absurd (omega arith)

  -- what a ring leaves: at nobody, and at a gate that is shut or open
  pub unanswered : Nobody ≡ target hub t v → rung hub (outcome_list hub t v false) ≡ ring hub t v
  unfolding ring ring_at outcome_list
  unanswered e = rw (← e)

  module _ (gate : Gate) (at : Live gate ≡ target hub t v) where
    pub lost : then_some (opens gate) (passed_gate gate) ≡ None → rung hub (outcome_list hub t v false) ≡ ring hub t v
    unfolding ring ring_at outcome_list
    lost none = rw (← at, none_passed _ _ none)

    pub answered : (after : Gate) (clear : Bool) → then_some (opens gate) (passed_gate gate) ≡ Some after
        → (gate.interrupt && not after.interrupt) ≡ clear → rung (cond clear (disarmed hub t.0) hub) (outcome_list hub t v true) ≡ ring hub t v
    unfolding ring ring_at after_delivery outcome_list sent_at
    answered after clear some test =
        let p = some_passed _ _ after some in
        let o : opens gate ≡ true = p.0 in
        rw (← test, ← p.1, cleared gate o, ← at, o) (ap (λ (h : Hub). rung h (sent_at hub v t.0 ∷ [])) (either gate.oneshot))
      where
        either : (b : Bool)
            → cond b (disarmed hub t.0) hub
            ≡ with_slot hub t.0 (cond b (with_peer (slot_at hub t.0) (with_interrupt (slot_at hub t.0).peer 0)) (slot_at hub t.0))
        either true = refl
        either false = slot_kept hub t.0

-- every MSI-X entry is as it was, and so is a record made from one
abbrev pub SameEntries : Hub → Hub → Type 0
SameEntries before after = (i v : ℕ) → entry_at (slot_at after i) v ≡ entry_at (slot_at before i) v

pub sent_same : (before after : Hub) (v : Vector) (t : ℕ) → SameEntries before after → sent_at after v t ≡ sent_at before v t
unfolding sent_at
sent_same before after v t same = rw (same t v.0)

-- rings keep the settings and the entries, and deliver at most so many interrupts
pub record Kept (hub : Hub) (n : ℕ) (r : Rung) : Type 0 where
  pub settings : r.hub.settings ≡ hub.settings
  pub entries : SameEntries hub r.hub
  pub few : length r.deliveries ≤ n

pub none_kept : (hub : Hub) (n : ℕ) → Kept hub n (rung hub [])
none_kept hub n = record { settings = refl; entries = λ i v. refl; few = omega arith }

module _ (hub : Hub) (t : PeerId) (v : Vector) where
  slot_entries : (gate : Gate) (slot : Slot) → (after_delivery gate slot).entries ≡ slot.entries
  unfolding after_delivery
  slot_entries gate slot = by gate.oneshot
    where
      by : (b : Bool) → (cond b (with_peer slot (with_interrupt slot.peer 0)) slot).entries ≡ slot.entries
      by true = refl
      by false = refl

  at_entries : (gate : Gate) → SameEntries hub (with_slot hub t.0 (after_delivery gate (slot_at hub t.0)))
  at_entries gate i w =
      get_d_set (λ s. entry_at s w ≡ entry_at (slot_at hub i) w) hub.slots t.0 i _ zero_slot (λ e. rw (e, slot_entries gate (slot_at hub t.0))) refl

  either_kept : (b : Bool) (gate : Gate) (d : Delivery) →
      Kept hub 1 (cond b (rung (with_slot hub t.0 (after_delivery gate (slot_at hub t.0))) (d ∷ [])) (rung hub []))
  either_kept true gate d = record { settings = refl; entries = at_entries gate; few = omega arith }
  either_kept false gate d = none_kept hub 1

  at_kept : (target : Target) → Kept hub 1 (ring_at hub t v target)
  unfolding ring_at
  at_kept Nobody = none_kept hub 1
  at_kept (Live gate) = either_kept (opens gate) gate _

  pub ring_kept : Kept hub 1 (ring hub t v)
  unfolding ring
  ring_kept = at_kept (target hub t v)
