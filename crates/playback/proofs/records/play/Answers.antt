-- `playback::records::play` meets its contract.
use mathlib.Core.Path.{◌∙◌}
use lib.Seq.{length-take-le}
use Rattle.playback.proofs.GoesLaws.{call_goes}
use Rattle.playback.proofs.LentLaws.{anew_lent, none_held}
use Rattle.playback.proofs.RecordLaws.{kind_small, kind_some, known_goes_on}
use Rattle.playback.specs.Kinds.{kind_number}
use Rattle.playback.specs.Log.{request_of}
use Rattle.playback.specs.Promises.{world_in}
use Rattle.playback.proofs.records.play.Goals as goal

pub returns-in-SetUp : goal.returns-in-SetUp
unfolding request_of
returns-in-SetUp c =
    let a = c.args in
    rw c.in-SetUp.is (c.set_up.ensures (world_in a.hub.now a.region.now a.p.words a.p.bytes))

pub set_up-requires : goal.set_up-requires
set_up-requires c = anew_lent c.requires

pub call-outcome-requires : goal.call-outcome-requires
call-outcome-requires c = kind_some c.args.kind c.in_default.not-SetUp

pub returns : goal.returns
returns c =
    let a = c.args in
    let l = c.requires in
    let on = known_goes_on (world_in a.hub.now a.region.now a.p.words a.p.bytes) (kind_number a.kind) a.fields.bytes.now (kind_small a.kind) in
    call_goes a.hub.now a.region.now a.fields.bytes.now a.out.now _ a.p.words a.p.bytes _ c.call-outcome.new.hub
    c.call-outcome.new.region _ _ on (none_held l)
    (c.call-outcome.auto.hub ∙ length-take-le a.p.words a.hub.now l.words)
    (c.call-outcome.auto.region ∙ length-take-le a.p.bytes a.region.now l.bytes) c.call-outcome.ensures c.write-written.ensures
