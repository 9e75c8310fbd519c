-- What one ring gives, as the list of its deliveries; and what a hub must satisfy to be rung at.
use Rattle.std.specs.Prelude.{Bool, true, cond, List, [], ◌∷◌, ◌≡◌, ℕ}
use Rattle.device.specs.declared.Delivery.{Delivery}
use Rattle.device.specs.declared.PeerId.{PeerId}
use Rattle.device.specs.declared.Vector.{Vector}
use Rattle.device.specs.Ring.{peer_id, delivery_of, with_interrupt}
use Rattle.device.specs.SetUp.{accepted}
use Rattle.device.specs.World.{Hub, slot_at, entry_at, with_slot, with_peer}
use Rattle.words.specs.Layout.{hub_of}

-- the delivery of a vector at an id, from the target's entry
unfoldable pub sent_at : Hub → Vector → ℕ → Delivery
sent_at hub v t = delivery_of (peer_id t) v (entry_at (slot_at hub t) v.0)

-- a ring's deliveries, by whether it is delivered: one or none
unfoldable pub outcome_list : Hub → PeerId → Vector → Bool → List Delivery
outcome_list hub t v delivered = cond delivered (sent_at hub v t.0 ∷ []) []

-- words that are a hub with accepted settings
pub record Usable (ws : List ℕ) : Type 0 where
  pub numbers : accepted (hub_of ws).settings ≡ true

-- a hub with Interrupt Control 0 at one id
abbrev pub disarmed : Hub → ℕ → Hub
disarmed hub i = with_slot hub i (with_peer (slot_at hub i) (with_interrupt (slot_at hub i).peer 0))
