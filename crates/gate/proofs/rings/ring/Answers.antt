-- `gate::rings::ring` meets its contract: at nobody, and at a gate that is shut or open.
use mathlib.Core.Path.{sym, ◌∙◌}
use Rattle.gate.proofs.RingLaws.{found, apart, unanswered, lost, answered}
use Rattle.gate.proofs.rings.ring.Goals as goal

pub returns-in_default : goal.returns-in_default
returns-in_default c = let r = apart _ _ (unanswered _ _ _ (sym c.in_default.is ∙ c.target.ensures)) in record { hub = r.0; deliveries = r.1 }

pub returns-in_default-pass_local : goal.returns-in_default-pass_local
returns-in_default-pass_local c =
    let r = apart _ _ (lost _ _ _ _ (sym c.in-Live.is ∙ c.target.ensures) (sym c.pass_local.ensures ∙ c.in_default-pass_local.is)) in
    record { hub = r.0; deliveries = r.1 }

pub disarm-requires : goal.disarm-requires
disarm-requires c = found _ _ _ _ (sym c.in-Live.is ∙ c.target.ensures)

pub returns-then-gate-after : goal.returns-then-gate-after
returns-then-gate-after c =
    let r = apart _ _ (answered _ _ _ _ (sym c.in-Live.is ∙ c.target.ensures) _ _ (sym c.pass_local.ensures ∙ c.in-Some.is) c.if-gate-after.true) in
    record { hub = c.disarm.ensures ∙ r.0; deliveries = r.1 }

pub returns-else-gate-after : goal.returns-else-gate-after
returns-else-gate-after c =
    let r = apart _ _ (answered _ _ _ _ (sym c.in-Live.is ∙ c.target.ensures) _ _ (sym c.pass_local.ensures ∙ c.in-Some.is) c.if-gate-after.false) in
    record { hub = r.0; deliveries = r.1 }
