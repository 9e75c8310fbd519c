-- `words::sizes::Counts::stored` meets its contract: the first two words are the numbers of peers and vectors.
use mathlib.Core.Path.{sym}
use native.Mathlib.Omega.{arith}
use Rattle.words.specs.Layout.{hub_words}
use Rattle.words.proofs.LayoutLaws.{fits_sized, peers_at_lem, vectors_at}
use Rattle.words.proofs.sizes.Counts.stored.Goals as goal

pub bounds-hub-0 : goal.bounds-hub-0
unfolding hub_words
bounds-hub-0 c = omega (arith, (fits_sized _ c.requires).size)

pub bounds-hub-1 : goal.bounds-hub-1
unfolding hub_words
bounds-hub-1 c = omega (arith, (fits_sized _ c.requires).size)

pub invariant_of-result : goal.invariant_of-result
invariant_of-result c = let z = fits_sized _ c.requires in record { few = z.few; less = z.less }

pub returns : goal.returns
returns c = let z = fits_sized _ c.requires in (sym (peers_at_lem z), sym (vectors_at z))
