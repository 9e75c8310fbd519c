-- `reader::steps::Known::id_due` meets its contract.
use mathlib.Core.Path.{sym, refl}
use Rattle.reader.proofs.LeaveLaws.{leaves_same}
use Rattle.reader.specs.Steps.{id_step}
use Rattle.reader.proofs.steps.Known.id_due.Goals as goal

pub returns-in_default : goal.returns-in_default
unfolding id_step
returns-in_default c =
    let i = c.in_default.ensures in
    leaves_same c.close.ensures (sym (rw i))

pub returns-then-not-without_descriptor : goal.returns-then-not-without_descriptor
unfolding id_step
returns-then-not-without_descriptor c =
    let i = c.in-Some.ensures in
    let t = c.if-not-without_descriptor.ensures in
    leaves_same c.close-then-not-without_descriptor.ensures (sym (rw (i.0, ← t)))

pub returns : goal.returns
unfolding id_step
returns c =
    let i = c.in-Some.ensures in
    let t = c.if-not-without_descriptor.ensures in
    record { is = sym (rw (i.0, ← t, ← i.1.0, c.from-self.ensures)); counts = refl; vectors = refl }
