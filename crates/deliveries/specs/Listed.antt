-- The list that a by-value list of deliveries is: a record for each of its first targets, as many as its count says. And one turn
-- of the rings at every other id.
use Rattle.std.specs.Prelude.{ℕ, cond, List, [], ◌++◌, map, ◌≡◌, eqb, length, take, drop}
use Rattle.device.specs.declared.Delivery.{Delivery}
use Rattle.device.specs.Ring.{Rung, rung, ring, peer_id, vector}
use Rattle.device.specs.World.{Hub}
use Rattle.gate.specs.RingOutcome.{sent_at}
use Rattle.deliveries.specs.declared.Deliveries.{Deliveries}

-- each record is made from its target's entry, in any hub that has the entries of the one that was rung
unfoldable pub listed : Hub → Deliveries → List Delivery
listed hub d = map (sent_at hub d.vector) (take d.count d.targets)

-- a by-value list is these deliveries, and its count is their number
pub record Lists (hub : Hub) (d : Deliveries) (ds : List Delivery) : Type 0 where
  pub deliveries : listed hub d ≡ ds
  pub count : d.count ≡ length ds

-- the sender is not rung
unfoldable pub ring_but : ℕ → Hub → ℕ → Rung
ring_but who hub i = cond (eqb i who) (rung hub []) (ring hub (peer_id i) (vector 0))

-- deliveries written over a lent table from the front: the later records stay
unfoldable pub handed_out : List Delivery → List Delivery → List Delivery
handed_out list table = list ++ drop (length list) table
