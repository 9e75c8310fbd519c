-- `words::sizes::fits` meets its contract: the code's tests are the definition's, one by one.
use mathlib.Core.Path.{sym}
use native.Mathlib.Omega.{arith}
use lib.ListN.{length}
use borrow.Author.Tests.{le-leb, lt-leb, ne_eqb}
use Rattle.common.proofs.TestLaws.{every_false}
use Rattle.common.specs.Tests.{every}
use Rattle.words.specs.Layout.{hub_words, word, fits}
use Rattle.words.proofs.sizes.fits.Goals as goal

pub returns-then-hub-lt10 : goal.returns-then-hub-lt10
unfolding fits hub_words
returns-then-hub-lt10 c =
    let ws = c.args.hub.now in
    sym (every_false _ 2 (ne_eqb (length ws) (hub_words (word ws 0) (word ws 1)) (λ e. omega arith)))

pub returns-then-max_peers-peers : goal.returns-then-max_peers-peers
unfolding fits
returns-then-max_peers-peers c = sym (every_false _ 0 (lt-leb _ _ (rw c.max_peers.ensures at c.if-max_peers-peers.true)))

pub returns-then-max_vectors-vectors : goal.returns-then-max_vectors-vectors
unfolding fits
returns-then-max_vectors-vectors c = sym (every_false _ 1 (lt-leb _ _ (rw c.max_vectors.ensures at c.if-max_vectors-vectors.true)))

pub returns : goal.returns
unfolding fits every
returns c =
    rw (
      c.hub_words.ensures,
      le-leb _ _ (rw c.max_peers.ensures at c.if-max_peers-peers.false),
      le-leb _ _ (rw c.max_vectors.ensures at c.if-max_vectors-vectors.false),
    )
