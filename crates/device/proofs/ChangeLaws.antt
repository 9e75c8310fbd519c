-- C-11 over every world, in a history or not: an accepted State store, reset or disconnect puts the new slot in place and writes its
-- State to the State Table in any case. Where the State register held that value, that is all; else vector 0 is rung at every other
-- id, and nothing more.
use Prim.Native.Nat.{ℕ, ◌*◌}
use mathlib.Core.Bool.{true}
use mathlib.Core.List.{[], append-nil}
use mathlib.Core.Path.{◌≡◌, ap}
use borrow.Author.Tests.{eq-eqb, ne_eqb}
use lib.Seq.{sets}
use Rattle.common.specs.Bytes.{bytes}
use Rattle.device.specs.Call.{call}
use Rattle.device.specs.Call.Act.{disconnect, reset, register_write}
use Rattle.device.specs.Effect.{changes, announces, register_stored, effect, with_state, state_value}
use Rattle.device.specs.Refusal.{refusal}
use Rattle.device.specs.Registers.{register_at, memory_on}
use Rattle.device.specs.Ring
use Rattle.device.specs.Step.{Outcome, Ran, ran, ran_rings, run, run_all, step}
use Rattle.device.specs.World.{Slot, World, world, slot_at, with_slot, with_peer, reset_slot}
use Rattle.device.proofs.StepLaws.{accepted_effect}

-- the world with a peer's slot replaced, and its State in its State Table entry
abbrev pub stored : World → ℕ → Slot → World
stored w who new = world (with_slot w.hub who new) (sets w.region (4 * who) (bytes 4 new.peer.state))

-- what such a call leaves and delivers
pub record Announced (w : World) (who : ℕ) (new : Slot) (r : Ran) : Type 0 where
  pub unchanged : (slot_at w.hub who).peer.state ≡ new.peer.state → r ≡ ran (stored w who new) []
  pub changed : ((slot_at w.hub who).peer.state ≡ new.peer.state → ⊥) → r ≡ ran_rings (stored w who new).region
      (Ring.ring_others who (stored w who new).hub)

announced : (w : World) (who : ℕ) (new : Slot) → Announced w who new (run_all who w (announces who (slot_at w.hub who) new))
unfolding announces changes run_all run
announced w who new =
    let old : ℕ = (slot_at w.hub who).peer.state in
    record {
      unchanged = λ e. rw (eq-eqb old new.peer.state e);
      changed = λ d. rw (ne_eqb old new.peer.state d, append-nil (Ring.ring_others who (with_slot w.hub who new)).deliveries);
    }

-- what a call leaves and delivers
abbrev pub ran_by : Outcome → Ran
ran_by o = ran o.world o.deliveries

module _ (w : World) (who records : ℕ) where
  pub state_store_announced : (value : ℕ) → refusal w (call who (register_write records 0x10 4 value)) ≡ 0 → memory_on (slot_at w.hub who).peer ≡ true
      → Announced w who (with_peer (slot_at w.hub who) (with_state (slot_at w.hub who).peer (state_value value)))
      (ran_by (step w (call who (register_write records 0x10 4 value))))
  unfolding effect register_at register_stored
  state_store_announced value e on =
      rw (ap (λ (o : Outcome). ran_by o) (accepted_effect w (call who (register_write records 0x10 4 value)) e), on) (announced w who _)

  pub reset_announced : refusal w (call who (reset records)) ≡ 0
      → Announced w who (reset_slot w.hub.settings.vectors 1) (ran_by (step w (call who (reset records))))
  unfolding effect
  reset_announced e = rw (ap (λ (o : Outcome). ran_by o) (accepted_effect w (call who (reset records)) e)) (announced w who _)

  pub disconnect_announced : refusal w (call who (disconnect records)) ≡ 0
      → Announced w who (reset_slot w.hub.settings.vectors 0) (ran_by (step w (call who (disconnect records))))
  unfolding effect
  disconnect_announced e = rw (ap (λ (o : Outcome). ran_by o) (accepted_effect w (call who (disconnect records)) e)) (announced w who _)
