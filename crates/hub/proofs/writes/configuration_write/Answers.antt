-- `hub::writes::configuration_write` meets its contract: a refusal is the table's, and an accepted write is its effect.
use mathlib.Core.Path.{refl}
use Rattle.device.specs.Call.{Act}
use Rattle.device.specs.Effect.{effect}
use Rattle.device.specs.Refusal.{lent_to, access_of}
use Rattle.device.specs.Step.{run, run_all}
use Rattle.hub.proofs.RefusalLaws.{configuration_checked}
use Rattle.hub.proofs.ReplyLaws.{changes_accepted, changes_refused}
use Rattle.std.proofs.lemmas.Result.{err_from_is_err_and}
use Rattle.hub.proofs.writes.configuration_write.Goals as goal

pub returns-in_err-caller : goal.returns-in_err-caller
unfolding lent_to access_of
returns-in_err-caller c =
    let a = c.args in
    let p = err_from_is_err_and c.from_residual.result c.from_residual.ensures.1 in
    rw (p.1, p.2)
    (changes_refused a.hub.now _ _
    (configuration_checked a.hub.now a.id (Act.configuration_write a.offset a.width a.value) a.offset a.width _ refl refl
    c.in_err-caller.ensures.is))

pub returns : goal.returns
unfolding lent_to access_of effect run_all run
returns c =
    let a = c.args in
    let f = c.in_ok-caller.ensures.found in
    changes_accepted a.hub.now _ _
    (configuration_checked a.hub.now a.id (Act.configuration_write a.offset a.width a.value) a.offset a.width _ refl refl
    c.in_ok-caller.ensures.is)
    (λ region. refl) (λ region. rw (c.put_peer.ensures, c.write-written.ensures, c.from.ensures, f.settings, f.peer))
