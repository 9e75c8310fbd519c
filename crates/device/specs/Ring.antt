-- One ring of one vector at one id, and a ring at every other id.
use Rattle.std.specs.Prelude.{ℕ, zero, suc, ◌+◌, ◌*◌, ◌^◌, Bool, cond, not, List, [], ◌∷◌, ◌++◌, eqb, ltb}
use Rattle.common.specs.Bytes.{bit}
use Rattle.common.specs.Tests.{every}
use Rattle.device.specs.declared.Delivery.{Delivery}
use Rattle.device.specs.declared.Entry.{Entry}
use Rattle.device.specs.declared.Gate.{Gate}
use Rattle.device.specs.declared.Peer.{Peer}
use Rattle.device.specs.declared.PeerId.{PeerId}
use Rattle.device.specs.declared.Target.{Target}
use Rattle.device.specs.declared.Target.TheVariants.{Live, Nobody}
use Rattle.device.specs.declared.Vector.{Vector}
use Rattle.device.specs.World.{Hub, Slot, slot_at, entry_at, with_slot, with_peer}

abbrev pub peer_id : ℕ → PeerId
peer_id i = record { 0 = i }

abbrev pub vector : ℕ → Vector
vector v = record { 0 = v }

-- R51: the gate of a peer, the record of its switches
unfoldable pub gate_of : Peer → Entry → Gate
gate_of p e =
    record {
      master = bit 2 p.command;
      enabled = bit 7 p.message;
      masked = bit 6 p.message;
      silenced = bit 0 e.control;
      interrupt = bit 0 p.interrupt;
      oneshot = bit 0 p.privileged;
    }

-- every switch on its side is on
unfoldable pub opens : Gate → Bool
opens g = every (g.master ∷ g.enabled ∷ not g.masked ∷ not g.silenced ∷ g.interrupt ∷ [])

-- R50: a ring finds a target, or nobody
unfoldable pub target : Hub → PeerId → Vector → Target
target hub t v =
    cond
    (every
    (ltb t.0 hub.settings.peers
    ∷ eqb (slot_at hub t.0).peer.connected 1
    ∷ ltb v.0 hub.settings.vectors
    ∷ []))
    (Live (gate_of (slot_at hub t.0).peer (entry_at (slot_at hub t.0) v.0)))
    Nobody

-- R52: t, v, and the 64-bit address and the data of entry v
unfoldable pub delivery_of : PeerId → Vector → Entry → Delivery
delivery_of t v e =
    record { target = t; vector = v; address = e.low + 2 ^ 32 * e.high; payload = e.payload }

abbrev pub with_interrupt : Peer → ℕ → Peer
with_interrupt p interrupt =
    record {
      connected = p.connected;
      command = p.command;
      bar0 = p.bar0;
      bar1 = p.bar1;
      privileged = p.privileged;
      message = p.message;
      interrupt = interrupt;
      state = p.state;
    }

-- R52: where one-shot is on at the target, its Interrupt Control becomes 0
unfoldable pub after_delivery : Gate → Slot → Slot
after_delivery g slot = cond g.oneshot (with_peer slot (with_interrupt slot.peer 0)) slot

-- what rings leave: the hub, and the deliveries in ring order
pub record Rung : Type 0 where
  pub hub : Hub
  pub deliveries : List Delivery

abbrev pub rung : Hub → List Delivery → Rung
rung hub deliveries = record { hub = hub; deliveries = deliveries }

-- R53: a ring that is not delivered leaves the hub as it was
unfoldable pub ring_at : Hub → PeerId → Vector → Target → Rung
ring_at hub t v Nobody = rung hub []
ring_at hub t v (Live gate) =
    cond (opens gate)
    (rung
    (with_slot hub t.0 (after_delivery gate (slot_at hub t.0)))
    (delivery_of t v (entry_at (slot_at hub t.0) v.0) ∷ []))
    (rung hub [])

unfoldable pub ring : Hub → PeerId → Vector → Rung
ring hub t v = ring_at hub t v (target hub t v)

-- a ring, then what comes after it
abbrev pub rung_then : Rung → (Hub → Rung) → Rung
rung_then r next = rung (next r.hub).hub (r.deliveries ++ (next r.hub).deliveries)

-- vector 0 rung at each of n ids from i, ascending, but for who
unfoldable pub ring_from : ℕ → ℕ → ℕ → Hub → Rung
ring_from zero i who hub = rung hub []
ring_from (suc n) i who hub =
    rung_then (cond (eqb i who) (rung hub []) (ring hub (peer_id i) (vector 0))) (λ h. ring_from n (suc i) who h)

-- R55: vector 0 rung at every other id, ascending
unfoldable pub ring_others : ℕ → Hub → Rung
ring_others who hub = ring_from hub.settings.peers 0 who hub
