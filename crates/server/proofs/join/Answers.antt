-- `server::join` meets its contract.
use Prim.Native.Nat.{◌<◌}
use mathlib.Core.Path.{◌≡◌}
use native.Mathlib.Omega.{arith}
use lib.ListN.{length}
use Rattle.std.proofs.lemmas.Result.{err_from_is_err_and}
use Rattle.reader.specs.Sizes.{ids}
use Rattle.server.specs.declared.refusals.Refusal.TheVariants.{NoneFree}
use Rattle.server.proofs.FreeLaws.{lowest_is_free}
use Rattle.server.proofs.ServeLaws.{serves_refused, join_refusal, join_goes_on, in_range_lem, has_room, joins_free, joins_full}
use Rattle.server.specs.Clients.{lowest_free}
use Rattle.server.proofs.join.Goals as goal

pub returns-in_err-check : goal.returns-in_err-check
returns-in_err-check c =
    let p = err_from_is_err_and c.from_residual.result c.from_residual.ensures.1 in
    rw (p.1, p.2) (join_refusal c.args.server c.args.out.now _ c.in_err-check.ensures)

pub returns-in_err-id : goal.returns-in_err-id
returns-in_err-id c =
    let p = err_from_is_err_and c.from_residual-in_err-id.result c.from_residual-in_err-id.ensures.1 in
    let s = c.args.server in
    let none : lowest_free s.joined < ids → ⊥ = grind arith in
    let full : c.in_err-id.field-0.0 ≡ NoneFree = grind arith in
    rw (p.1, p.2, full, join_goes_on s (length c.args.out.now) c.in_ok-check.ensures, joins_full s (omega arith))
    (serves_refused 12 s c.args.out.now)

pub join_as-requires : goal.join_as-requires
join_as-requires c =
    let s = c.args.server in
    let l = c.args.out.now in
    let z = c.in_ok-check.ensures in
    let free : lowest_free s.joined < ids = grind arith in
    let is : c.in_ok-id.id ≡ lowest_free s.joined = grind arith in
    (in_range_lem s (length l) z, rw is free, rw is (lowest_is_free s.joined).free, has_room s (length l) z)

pub returns : goal.returns
returns c =
    let s = c.args.server in
    let l = c.args.out.now in
    let free : lowest_free s.joined < ids = grind arith in
    let is : c.in_ok-id.id ≡ lowest_free s.joined = grind arith in
    rw (join_goes_on s (length l) c.in_ok-check.ensures, joins_free s free) (rw is at c.join_as.ensures)
