-- `hub::refusals::space_refusal` meets its contract: the checks of an access come after those of the caller.
use mathlib.Core.Path.{refl}
use Rattle.std.proofs.lemmas.Result.{err_from_is_err_and}
use Rattle.words.specs.Layout.{hub_of}
use Rattle.hub.specs.Admission.{admission, allows, size_of, space_rows}
use Rattle.hub.proofs.RefusalLaws.{stops, goes_on, space_inside}
use Rattle.hub.proofs.refusals.space_refusal.Goals as goal

pub returns-in_err-caller-clause-is : goal.returns-in_err-caller-clause-is
returns-in_err-caller-clause-is c =
    let a = c.args in
    let p = err_from_is_err_and c.from_residual.result c.from_residual.ensures.1 in
    rw (p.1, p.2)
    (stops (admission (hub_of a.hub.now) a.lent a.id)
    (space_rows (size_of a.into) (allows a.into a.access.size) a.access.offset a.access.size) _ c.in_err-caller.ensures.is)

pub returns-in_err-check-clause-is : goal.returns-in_err-check-clause-is
returns-in_err-check-clause-is c =
    let a = c.args in
    let p = err_from_is_err_and c.from_residual-in_err-check.result c.from_residual-in_err-check.ensures.1 in
    rw (p.1, p.2)
    (goes_on (admission (hub_of a.hub.now) a.lent a.id)
    (space_rows (size_of a.into) (allows a.into a.access.size) a.access.offset a.access.size) _ refl
    c.in_ok-caller.ensures.is c.in_err-check.ensures)

pub returns-clause-is : goal.returns-clause-is
returns-clause-is c =
    let a = c.args in
    goes_on (admission (hub_of a.hub.now) a.lent a.id)
    (space_rows (size_of a.into) (allows a.into a.access.size) a.access.offset a.access.size) 0 refl
    c.in_ok-caller.ensures.is c.in_ok-check.ensures

pub returns-clause-inside : goal.returns-clause-inside
returns-clause-inside c = space_inside _ _ _ _ c.in_ok-check.ensures
