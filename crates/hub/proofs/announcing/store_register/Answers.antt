-- `hub::announcing::store_register` meets its contract, register by register.
use mathlib.Core.Path.{◌≡◌, refl, ap, ap₂, ◌∙◌}
use lib.Bits.{bit_and}
use borrow.Author.Rules.{rules}
use Rattle.device.specs.Effect.{register_stored, announces, changes, with_state, state_value, rung_peer, rung_vector}
use Rattle.device.specs.Registers.{register_at}
use Rattle.device.specs.Ring.{with_interrupt}
use Rattle.device.specs.World.{slot_at, with_peer}
use Rattle.device.specs.declared.Peer.{Peer}
use Rattle.words.specs.Layout.{hub_of}
use Rattle.hub.proofs.RunLaws.{runs_nothing, runs_own, runs_ring, runs_own_then, nothing_stored}
use Rattle.hub.proofs.announcing.store_register.Goals as goal

pub returns-in-8 : goal.returns-in-8
unfolding register_stored register_at
returns-in-8 c =
    let a = c.args in
    let s = slot_at (hub_of a.hub.now) a.id in
    rw c.in-8.is
    (runs_own a.hub.now _ a.region.now a.id _ (with_peer s (with_interrupt s.peer (bit_and a.value 1)))
    (rw (c.put_peer.ensures, c.with_interrupt.ensures, c.peer-p.ensures)) c.none.ensures)

pub returns-in-12 : goal.returns-in-12
unfolding register_stored register_at
returns-in-12 c =
    let a = c.args in
    rw c.in-12.is
    (runs_ring a.hub.now _ a.region.now a.id _ (rung_peer a.value) (rung_vector a.value)
    (rw (← c.rung_peer.ensures, ← c.rung_vector.ensures) c.ring_one.ensures.hub)
    (rw (← c.rung_peer.ensures, ← c.rung_vector.ensures) c.ring_one.ensures.deliveries))

pub returns-in-16 : goal.returns-in-16
unfolding register_stored register_at announces
returns-in-16 c =
    let a = c.args in
    let s = slot_at (hub_of a.hub.now) a.id in
    let q : c.with_state-q.result ≡ with_state s.peer (state_value a.value) = c.with_state-q.ensures
    ∙ ap (λ (p : Peer). with_state p (state_value a.value)) c.peer-p.ensures in
    let changed : c.state_changes-changed.result ≡ changes s.peer.state (state_value a.value) = c.state_changes-changed.ensures
    ∙ ap₂ (λ (p r : Peer). changes p.state r.state) c.peer-p.ensures q in
    rw c.in-16.is
    (runs_own_then a.hub.now c.put_peer-in-16.new.hub _ a.region.now _ a.id (with_peer s (with_state s.peer (state_value a.value))) _ _
    (c.put_peer-in-16.ensures ∙ rw q) (rw (q, changed) at c.announce.ensures))

pub returns-in_default : goal.returns-in_default
returns-in_default c =
    let a = c.args in
    rw (nothing_stored a.id (slot_at (hub_of a.hub.now) a.id) a.offset a.value (search rules) (search rules) (search rules))
    (runs_nothing a.hub.now _ a.region.now a.id _ refl c.none-in_default.ensures)
