-- `reader::steps::Known::peers_due` meets its contract.
use mathlib.Core.Path.{sym}
use Rattle.reader.proofs.LeaveLaws.{leaves_same}
use Rattle.reader.specs.Steps.{peers_step}
use Rattle.reader.proofs.steps.Known.peers_due.Goals as goal

pub returns-in_default : goal.returns-in_default
unfolding peers_step
returns-in_default c =
    let i = c.in_default.ensures in
    leaves_same c.close.ensures (sym (rw i))

pub returns-then-with_descriptor : goal.returns-then-with_descriptor
unfolding peers_step
returns-then-with_descriptor c =
    let i = c.in-Some.ensures in
    let t = c.if-with_descriptor.ensures in
    leaves_same c.add.ensures (sym (rw (i.0, ← t, ← i.1.0)))

pub returns-then-without_descriptor : goal.returns-then-without_descriptor
unfolding peers_step
returns-then-without_descriptor c =
    let i = c.in-Some.ensures in
    let t = c.if-with_descriptor.ensures in
    let u = c.if-without_descriptor.ensures in
    leaves_same c.remove.ensures (sym (rw (i.0, ← t, ← u, ← i.1.0)))

pub returns : goal.returns
unfolding peers_step
returns c =
    let i = c.in-Some.ensures in
    let t = c.if-with_descriptor.ensures in
    let u = c.if-without_descriptor.ensures in
    leaves_same c.close-2.ensures (sym (rw (i.0, ← t, ← u)))
