-- `playback::records::set_up` meets its contract.
use Prim.Native.Nat.{◌≤◌}
use mathlib.Core.Bool.{true}
use mathlib.Core.Path.{◌≡◌, sym, ap, ◌∙◌}
use lib.ListN.{length}
use lib.Seq.{length-take-le}
use Rattle.device.proofs.SetUpLaws.{accepted_facts}
use Rattle.device.specs.SetUp.{accepted, total}
use Rattle.playback.proofs.SetUpLaws.{hub_room, in_use_is, goes_same, refused_goes, taken_goes}
use Rattle.playback.specs.declared.Progress.{Progress}
use Rattle.playback.specs.Answers.{max_total, outcome_bytes, set_up_number}
use Rattle.playback.specs.Log.{settings_in}
use Rattle.playback.proofs.records.set_up.Goals as goal

pub returns-in-Err : goal.returns-in-Err
unfolding outcome_bytes
returns-in-Err c =
    let a = c.args in
    let e : set_up_number (settings_in a.fields.bytes.now) ≡ 1 = rw (← c.settings-s.ensures) c.in-Err.ensures.1 in
    λ w. rw c.start-progress.ensures.none (refused_goes a.hub.now a.region.now a.fields.bytes.now a.out.now _
    (settings_in a.fields.bytes.now) w _ c.requires e (rw c.in-Err.ensures.0 at c.write-written-in-Err.ensures))

pub slice_bounds-set_up-end : goal.slice_bounds-set_up-end
slice_bounds-set_up-end c =
    let f = accepted_facts c.settings-s.result c.in-Ok.ensures.0 in
    rw (c.in-Ok.ensures.2, c.requires.hub_length) (hub_room _ _ f.peers f.vectors)

pub slice_bounds-set_up-end-in-Ok : goal.slice_bounds-set_up-end-in-Ok
slice_bounds-set_up-end-in-Ok c =
    let f = accepted_facts c.settings-s.result c.in-Ok.ensures.0 in
    let words : c.in-Ok.progress.words ≤ length c.args.hub.now = rw (c.in-Ok.ensures.2, c.requires.hub_length) (hub_room _ _ f.peers f.vectors) in
    sym (length-take-le c.in-Ok.progress.words c.args.hub.now words)

pub slice_bounds-set_up-end-in-Ok-2 : goal.slice_bounds-set_up-end-in-Ok-2
slice_bounds-set_up-end-in-Ok-2 c = rw (c.in-Ok.ensures.2, c.requires.region_length) c.in-Ok.ensures.1

pub slice_bounds-set_up-end-in-Ok-3 : goal.slice_bounds-set_up-end-in-Ok-3
slice_bounds-set_up-end-in-Ok-3 c =
    let bytes : c.in-Ok.progress.bytes ≤ length c.args.region.now = rw (c.in-Ok.ensures.2, c.requires.region_length) c.in-Ok.ensures.1 in
    sym (length-take-le c.in-Ok.progress.bytes c.args.region.now bytes)

pub returns-in-Ok : goal.returns-in-Ok
returns-in-Ok c =
    let a = c.args in
    let p = c.in-Ok.progress in
    let e = c.settings-s.ensures in
    let is = c.in-Ok.ensures.2 in
    let f = accepted_facts c.settings-s.result c.in-Ok.ensures.0 in
    let words : p.words ≤ length a.hub.now = rw (is, c.requires.hub_length) (hub_room _ _ f.peers f.vectors) in
    let bytes : p.bytes ≤ length a.region.now = rw (is, c.requires.region_length) c.in-Ok.ensures.1 in
    let ok : (accepted (settings_in a.fields.bytes.now) ≡ true) × (total (settings_in a.fields.bytes.now) ≤ max_total) =
    (rw e at c.in-Ok.ensures.0, rw e at c.in-Ok.ensures.1) in
    let nw = rw e at (ap (λ (x : Progress). x.words) is) in
    let nb = rw e at (ap (λ (x : Progress). x.bytes) is) in
    let fresh = in_use_is p (ap (λ (x : Progress). x.held) is) (ap (λ (x : Progress). x.stopped) is) in
    let sv = rw e at c.set_up-outcome.ensures.sets in
    λ w. goes_same fresh (taken_goes a.hub.now a.region.now a.fields.bytes.now a.out.now _
    (settings_in a.fields.bytes.now) w _ p.words p.bytes
    c.set_up-outcome.new.hub c.set_up-outcome.new.region _ ok nw nb
    (record { hub_length = c.requires.hub_length; region_length = c.requires.region_length; held_length = c.requires.held_length; words = words; bytes = bytes; few = c.requires.few })
    (c.set_up-outcome.auto.hub ∙ length-take-le p.words a.hub.now words) (c.set_up-outcome.auto.region
    ∙ length-take-le p.bytes a.region.now bytes) sv c.set_up-outcome.ensures.done c.write-written.ensures)
