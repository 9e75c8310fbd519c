-- `hub::refusals::range_refusal` meets its contract: the checks of a range come after those of the caller.
use mathlib.Core.Path.{refl, ◌∙◌}
use Rattle.std.proofs.lemmas.Result.{err_from_is_err_and}
use Rattle.words.specs.Layout.{hub_of}
use Rattle.hub.specs.Admission.{admission, range_rows}
use Rattle.hub.proofs.RefusalLaws.{on_ok, stops, goes_on, range_inside}
use Rattle.hub.proofs.refusals.range_refusal.Goals as goal

pub returns-in_err-caller-clause-is : goal.returns-in_err-caller-clause-is
returns-in_err-caller-clause-is c =
    let a = c.args in
    let p = err_from_is_err_and c.from_residual.result c.from_residual.ensures.1 in
    rw (p.1, p.2)
    (stops (admission (hub_of a.hub.now) a.lent a.id) (range_rows (hub_of a.hub.now).settings a.within.offset a.within.size) _
    c.in_err-caller.ensures.is)

pub returns-clause-is : goal.returns-clause-is
returns-clause-is c =
    let a = c.args in
    goes_on (admission (hub_of a.hub.now) a.lent a.id) (range_rows (hub_of a.hub.now).settings a.within.offset a.within.size) _ refl
    c.in_ok-caller.ensures.is (rw c.in_ok-caller.ensures.found.settings at c.range.ensures.is)

pub returns-clause-inside : goal.returns-clause-inside
returns-clause-inside c =
    on_ok c.range.result
    (λ z. range_inside _ _ _ (z ∙ rw c.in_ok-caller.ensures.found.settings at c.range.ensures.is))
