-- `hub::announcing::announce` meets its contract: the four bytes, then the rings if State has changed.
use mathlib.Core.Path.{refl}
use Rattle.hub.proofs.RunLaws.{runs_nothing, runs_others, runs_write_then}
use Rattle.hub.proofs.announcing.announce.Goals as goal

pub returns-then-not-changed : goal.returns-then-not-changed
returns-then-not-changed c =
    let a = c.args in
    runs_write_then a.hub.now _ a.region.now _ a.id _ _ _ _ c.put_state.ensures
    (rw c.if-not-changed.true (runs_nothing a.hub.now _ _ a.id _ refl c.none.ensures))

pub returns : goal.returns
returns c =
    let a = c.args in
    runs_write_then a.hub.now _ a.region.now _ a.id _ _ _ _ c.put_state.ensures
    (rw c.if-not-changed.false
    (runs_others a.hub.now _ _ a.id _ c.ring_others.ensures.hub
    c.ring_others.ensures.deliveries))
