-- `words::sizes::Counts::column` meets its contract: a hub's entries are few.
use native.Mathlib.Omega.{arith}
use Rattle.words.proofs.IndexLaws.{entries_small}
use Rattle.words.proofs.sizes.Counts.column.Goals as goal

pub overflow_mul-result : goal.overflow_mul-result
overflow_mul-result c = omega (arith, entries_small _ _ c.args.self.few c.args.self.less)
