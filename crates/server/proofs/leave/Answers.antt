-- `server::leave` meets its contract.
use mathlib.Core.Path.{sym}
use native.Mathlib.Omega.{arith}
use lib.ListN.{length}
use Rattle.std.proofs.lemmas.Result.{err_from_is_err_and}
use Rattle.reader.proofs.SizeLaws.{ids_byte}
use Rattle.server.proofs.JoinedLaws.{joined_below_lem}
use Rattle.server.proofs.ServeLaws.{serves_refused, leave_refusal, leave_goes_on, has_room, leaves_joined, leaves_free}
use Rattle.server.proofs.leave.Goals as goal

pub returns-in_err-check : goal.returns-in_err-check
returns-in_err-check c =
    let p = err_from_is_err_and c.from_residual.result c.from_residual.ensures.1 in
    rw (p.1, p.2) (leave_refusal c.args.server c.args.out.now _ c.in_err-check.ensures c.args.id)

pub returns-then-not-contains : goal.returns-then-not-contains
returns-then-not-contains c =
    let s = c.args.server in
    let l = c.args.out.now in
    rw (leave_goes_on s (length l) c.args.id c.in_ok-check.ensures, leaves_free s c.args.id (sym c.if-not-contains.ensures)) (serves_refused 4 s l)

pub overflow_cast-id : goal.overflow_cast-id
overflow_cast-id c = record { fits = omega (arith, ids_byte, joined_below_lem _ _ (sym c.if-not-contains.ensures)) }

pub leave_as-requires : goal.leave_as-requires
leave_as-requires c = (sym c.if-not-contains.ensures, has_room c.args.server (length c.args.out.now) c.in_ok-check.ensures)

pub returns : goal.returns
returns c =
    let s = c.args.server in
    rw (leave_goes_on s (length c.args.out.now) c.args.id c.in_ok-check.ensures, leaves_joined s c.args.id (sym c.if-not-contains.ensures))
    c.leave_as.ensures
