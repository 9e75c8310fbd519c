-- `playback::records::answer` meets its contract.
use mathlib.Core.Path.{refl}
use native.Mathlib.Omega.{arith}
use lib.ListN.{get_or}
use Rattle.playback.proofs.GoesLaws.{unknown_goes}
use Rattle.playback.proofs.LentLaws.{none_held}
use Rattle.playback.proofs.OverLaws.{one_over}
use Rattle.playback.proofs.RecordLaws.{unknown_request}
use Rattle.playback.specs.Log.{kind_of}
use Rattle.playback.proofs.records.answer.Goals as goal

pub returns-in-Ok : goal.returns-in-Ok
unfolding kind_of
returns-in-Ok c = rw (← c.in-Ok.ensures) c.play.ensures

pub returns-in-Err : goal.returns-in-Err
unfolding kind_of
returns-in-Err c =
    let a = c.args in
    rw (unknown_request (get_or a.fields.bytes.now 0 0) a.fields.bytes.now c.in-Err.ensures)
    (unknown_goes a.hub.now a.region.now a.fields.bytes.now a.out.now _ a.p.words a.p.bytes _ (none_held c.requires)
    (record { bytes = one_over a.out.now 0x85 (omega arith); count = refl; fits = omega arith }))
