-- `reader::steps::Known::remove` meets its contract.
use mathlib.Core.Path.{sym, refl}
use Rattle.reader.proofs.LeaveLaws.{leaves_same}
use Rattle.reader.specs.Steps.{removes}
use Rattle.reader.proofs.steps.Known.remove.Goals as goal

pub returns-then-not-ok : goal.returns-then-not-ok
unfolding removes
returns-then-not-ok c =
    let t = rw (c.from.ensures, c.from-at.ensures) at c.if-not-ok.true in
    leaves_same c.close.ensures (sym (rw t))

pub returns : goal.returns
unfolding removes
returns c =
    let t = rw (c.from.ensures, c.from-at.ensures) at c.if-not-ok.false in
    record { is = rw (t, c.from-at.ensures); counts = refl; vectors = refl }
