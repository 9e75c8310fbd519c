-- `hub::refusals::store_refusal` meets its contract: the right to store is asked last.
use mathlib.Core.List.{◌++◌}
use Rattle.std.proofs.lemmas.Result.{err_from_is_err_and}
use Rattle.words.specs.Layout.{hub_of}
use Rattle.hub.specs.Admission.{admission, range_rows, store_rows}
use Rattle.hub.proofs.RefusalLaws.{stops}
use Rattle.hub.proofs.refusals.store_refusal.Goals as goal

pub returns-in_err-kind-clause-is : goal.returns-in_err-kind-clause-is
returns-in_err-kind-clause-is c =
    let a = c.args in
    let s = (hub_of a.hub.now).settings in
    let p = err_from_is_err_and c.from_residual.result c.from_residual.ensures.1 in
    rw (p.1, p.2)
    (stops (admission (hub_of a.hub.now) a.lent a.id ++ range_rows s a.within.offset a.within.size)
    (store_rows s a.id a.within.offset a.within.size) _ c.in_err-kind.ensures.is)
