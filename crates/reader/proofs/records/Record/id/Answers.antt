-- `reader::records::Record::id` meets its contract.
use mathlib.Core.Path.{sym, ◌∙◌}
use mir.Facts.{to_z-of_z}
use mir.Syntax.{w64}
use mir.Val.{SFits}
use borrow.Author.Rules.{rules}
use Rattle.reader.proofs.NumberLaws.{id_order, id_number}
use Rattle.reader.specs.Sizes.{ids}
use Rattle.reader.proofs.records.Record.id.Goals as goal

pub returns-then-named : goal.returns-then-named
unfolding ids
returns-then-named c =
    let z = c.args.self.number in
    let f : SFits w64 z = search rules in
    let is = sym (id_order z) ∙ rw to_z-of_z at c.if-named.true in
    let n = id_number z is in
    rw (to_z-of_z f) (is, (n.is, n.below))

pub returns : goal.returns
unfolding ids
returns c =
    let z = c.args.self.number in
    let f : SFits w64 z = search rules in
    sym (id_order z) ∙ rw to_z-of_z at c.if-named.false
