-- `playback::calls::set_up` meets its contract.
use mathlib.Core.Path.{refl}
use Rattle.std.proofs.lemmas.Result.{err_from_is_err_and}
use Rattle.playback.proofs.calls.set_up.Goals as goal

pub returns-in_err-set_up : goal.returns-in_err-set_up
returns-in_err-set_up c =
    let p = err_from_is_err_and c.from_residual.result c.from_residual.ensures.1 in
    rw (p.1, p.2) (record { sets = c.in_err-set_up.ensures; done = tt })

pub returns : goal.returns
returns c = record { sets = c.in_ok-set_up.ensures; done = refl }
