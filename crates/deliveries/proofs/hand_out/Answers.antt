use Prim.Native.Nat.{◌<◌}
use mathlib.Core.Path.{◌≡◌, refl, ◌∙◌}
use native.Mathlib.Omega.{arith}
use lib.Seq.{length-take-le, get_or-take}
use Rattle.words.specs.Layout.{hub_of}
use Rattle.deliveries.proofs.HandedOut.{Fits, filled_next, filled_all}
use Rattle.deliveries.proofs.hand_out.Goals as goal

pub loop-i-preserved : goal.loop-i-preserved
loop-i-preserved c =
    let a = c.args in
    let ok : Fits a.list a.table.now = record { few = c.requires.0; room = c.requires.1 } in
    let size = length-take-le a.list.count a.list.targets c.requires.0 in
    let l : c.loop-i.i < a.list.count = omega (arith, size) in
    rw (c.loop-i.invariant, c.sent_in.ensures, c.of-entries.ensures, get_or-take a.list.count a.list.targets c.loop-i.i 0 l)
    (filled_next (hub_of a.hub.now) a.list a.table.now ok c.loop-i.i l)

pub bounds-table-i : goal.bounds-table-i
bounds-table-i c =
    let a = c.args in
    omega (arith, c.loop-i.auto.table, c.requires.1, length-take-le a.list.count a.list.targets c.requires.0)

pub returns : goal.returns
returns c =
    let a = c.args in
    let ok : Fits a.list a.table.now = record { few = c.requires.0; room = c.requires.1 } in
    let size = length-take-le a.list.count a.list.targets c.requires.0 in
    let end : c.loop-i.i ≡ a.list.count = omega (arith, size) in
    (c.loop-i.invariant ∙ rw end (filled_all (hub_of a.hub.now) a.list a.table.now ok), refl)
