-- `reader::refusals::is_good` meets its contract.
use Prim.Native.Nat.{ℕ}
use mathlib.Core.Path.{ap, ◌∙◌, sym}
use borrow.Author.Rules.{rules}
use lib.Dec.{leb}
use lib.ListN.{get_or}
use Rattle.common.specs.Tests.{every, below}
use Rattle.reader.proofs.GoodLaws.{bound_largest, bound_zero, none_within, step_known}
use Rattle.reader.specs.Reading.{good}
use Rattle.reader.specs.Sizes.{ids}
use Rattle.reader.proofs.refusals.is_good.Goals as goal

pub returns : goal.returns
unfolding good every ids
returns c =
    let a = c.args in
    let l = c.from-most.ensures ∙ c.largest.ensures in
    let all = ap (λ (n : ℕ). below n (λ i. leb (get_or a.counts.now i 0) a.vectors)) c.requires.size in
    let few = ap (λ (n : ℕ). below n (λ i. leb (get_or a.counts.now i 0) 0)) c.requires.size in
    let within = ap (λ (m : ℕ). leb m a.vectors) l ∙ bound_largest a.counts.now a.vectors ∙ all in
    let none = sym (bound_zero c.from-most.result) ∙ ap (λ (m : ℕ). leb m 0) l ∙ bound_largest a.counts.now 0 ∙ few ∙ none_within a.counts.now ids in
    rw (within, none, c.requires.due, step_known a.step) (search rules)
