-- `hub::reads::configuration_read` meets its contract: a refusal is the table's, and an accepted read is its effect.
use mathlib.Core.Path.{refl}
use Rattle.std.proofs.lemmas.Result.{err_from_is_err_and}
use Rattle.device.specs.Call.{Act}
use Rattle.device.specs.Refusal.{lent_to, access_of}
use Rattle.hub.proofs.RefusalLaws.{configuration_checked}
use Rattle.hub.proofs.ReplyLaws.{answers_refused}
use Rattle.hub.proofs.reads.configuration_read.Goals as goal

pub returns-in_err-caller : goal.returns-in_err-caller
unfolding lent_to access_of
returns-in_err-caller c =
    let a = c.args in
    let p = err_from_is_err_and c.from_residual.result c.from_residual.ensures.1 in
    rw (p.1, p.2)
    (answers_refused a.hub.now _ _
    (configuration_checked a.hub.now a.id (Act.configuration_read a.offset a.width) a.offset a.width _ refl refl c.in_err-caller.ensures.is))
