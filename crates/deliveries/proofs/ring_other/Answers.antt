-- `deliveries::ring_other` meets its contract: the definition's two cases are the code's.
use mathlib.Core.Path.{refl}
use borrow.Author.Tests.{eq-eqb, ne_eqb}
use Rattle.deliveries.specs.Listed.{ring_but}
use Rattle.gate.specs.RingOutcome.{outcome_list}
use Rattle.deliveries.proofs.ring_other.Goals as goal

pub returns-then-from-who : goal.returns-then-from-who
unfolding ring_but outcome_list
returns-then-from-who c = rw (eq-eqb _ _ (rw c.from.ensures at c.if-from-who.true)) record { hub = refl; deliveries = refl }

pub returns : goal.returns
unfolding ring_but
returns c = rw (ne_eqb _ _ (rw c.from.ensures at c.if-from-who.false)) c.ring.ensures
