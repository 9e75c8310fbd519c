-- `words::sizes::hub_words` meets its contract: a hub's words are few.
use native.Mathlib.Omega.{arith}
use mathlib.Core.Path.{refl}
use Rattle.device.proofs.SizeLaws.{max_peers_small}
use Rattle.words.specs.Layout.{hub_words}
use Rattle.words.proofs.IndexLaws.{entries_small}
use Rattle.words.proofs.sizes.hub_words.Goals as goal

pub overflow_mul-result : goal.overflow_mul-result
overflow_mul-result c = omega (arith, max_peers_small)

pub overflow_add-result : goal.overflow_add-result
overflow_add-result c = omega (arith, max_peers_small)

pub overflow_mul-result-2 : goal.overflow_mul-result-2
overflow_mul-result-2 c = omega (arith, entries_small _ _ c.requires.0 c.requires.1)

pub overflow_mul-result-3 : goal.overflow_mul-result-3
overflow_mul-result-3 c = omega (arith, entries_small _ _ c.requires.0 c.requires.1)

pub overflow_add-result-2 : goal.overflow_add-result-2
overflow_add-result-2 c = omega (arith, max_peers_small, entries_small _ _ c.requires.0 c.requires.1)

pub returns : goal.returns
unfolding hub_words
returns c = refl
