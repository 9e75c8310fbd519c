use mathlib.Core.Path.{◌∙◌, sym}
use lib.Seq.{ext_get_or}
use borrow.Author.Rules.{rules}
use Rattle.common.proofs.ListLaws.{length_tabulate, get_d_tabulate}
use Rattle.reader.specs.Parts.{placed}
use Rattle.reader.proofs.records.gathered.Goals as goal

pub returns : goal.returns
returns c =
    let p = placed c.args.bytes c.args.held c.args.input.now in
    let i = c.loop-k.invariant in
    ext_get_or 0 _ _ (i.0 ∙ sym (length_tabulate 8 p)) (λ j l. i.1 j (search rules) ∙ sym (get_d_tabulate 8 p j 0 (search rules)))
