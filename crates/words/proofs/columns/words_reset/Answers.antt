use Prim.Native.Nat.{◌+◌}
use mathlib.Core.Path.{◌≡◌, refl, sym, ◌∙◌}
use native.Mathlib.Numerals.{add-one}
use native.Mathlib.Omega.{arith}
use Rattle.common.proofs.TestLaws.{below_suc}
use Rattle.common.specs.Tests.{below}
use Rattle.words.specs.Parts.{entry_from}
use Rattle.words.proofs.RunLaws.{reset_more}
use Rattle.words.proofs.columns.words_reset.Goals as goal

pub loop-k-init : goal.loop-k-init
unfolding below
loop-k-init c = refl

pub loop-k-preserved : goal.loop-k-preserved
loop-k-preserved c =
    let e = entry_from c.args.hub.now (c.args.at.start + c.loop-k.k) c.args.at.column in
    rw add-one (reset_more c.loop-k.faults e ∙ rw c.loop-k.invariant (sym (below_suc _ _)))

pub returns : goal.returns
returns c =
    let e : c.loop-k.k ≡ c.args.at.size = omega arith in
    rw e at c.loop-k.invariant
