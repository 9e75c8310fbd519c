-- `reader::refusals::due` meets its contract.
use borrow.Author.Rules.{rules}
use borrow.Author.Tests.{ne_eqb, eq-eqb}
use Rattle.common.specs.Tests.{first, every}
use Rattle.reader.specs.Reading.{good, refusal}
use Rattle.reader.specs.Sizes.{ids, most_vectors}
use Rattle.reader.proofs.refusals.due.Goals as goal

pub returns-then-not-ok : goal.returns-then-not-ok
unfolding refusal first ids most_vectors
returns-then-not-ok c = rw c.if-not-ok.true

pub returns-then-counts-ne-IDS : goal.returns-then-counts-ne-IDS
unfolding refusal first ids most_vectors
returns-then-counts-ne-IDS c = rw (c.if-not-ok.false, ne_eqb _ _ c.if-counts-ne-IDS.true)

pub returns-in_err-step : goal.returns-in_err-step
unfolding refusal first ids most_vectors good every
returns-in_err-step c = search rules

pub is_good-requires-clause-size : goal.is_good-requires-clause-size
unfolding ids
is_good-requires-clause-size c = c.if-counts-ne-IDS.false

pub returns-then-not-is_good : goal.returns-then-not-is_good
unfolding refusal first ids most_vectors
returns-then-not-is_good c = rw (c.if-not-ok.false, eq-eqb _ _ c.if-counts-ne-IDS.false, ← c.is_good.ensures, c.if-not-is_good.true)

pub returns : goal.returns
unfolding refusal first ids most_vectors
returns c = (rw (c.if-not-ok.false, eq-eqb _ _ c.if-counts-ne-IDS.false, ← c.is_good.ensures, c.if-not-is_good.false), c.in_ok-step.ensures)
