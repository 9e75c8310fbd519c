-- `words::sizes::Counts::entry_start` meets its contract: a hub's words are few.
use Prim.Native.Nat.{ℕ, ◌*◌, ◌^◌, ◌≤◌}
use native.Mathlib.Nat.{mul-le-mul, le_trans}
use native.Mathlib.Omega.{arith}
use Rattle.device.proofs.SizeLaws.{max_peers_small, max_vectors_small}
use Rattle.device.specs.Sizes.{max_peers, max_vectors}
use Rattle.words.proofs.sizes.Counts.entry_start.Goals as goal

-- the place in the column
row : (i n m : ℕ) → i ≤ n → n ≤ max_peers → m ≤ max_vectors → i * m ≤ 2 ^ 24
row i n m known few less = mul-le-mul (le_trans (le_trans known few) max_peers_small) (le_trans less max_vectors_small)

pub overflow_mul-result : goal.overflow_mul-result
overflow_mul-result c = omega (arith, c.args.self.few, max_peers_small)

pub overflow_add-result : goal.overflow_add-result
overflow_add-result c = omega (arith, c.args.self.few, max_peers_small)

pub overflow_mul-result-2 : goal.overflow_mul-result-2
overflow_mul-result-2 c = omega (arith, row _ _ _ c.requires.0 c.args.self.few c.args.self.less)

pub overflow_add-result-2 : goal.overflow_add-result-2
overflow_add-result-2 c = omega (arith, row _ _ _ c.requires.0 c.args.self.few c.args.self.less, c.requires.1, c.args.self.less, max_vectors_small)

pub overflow_add-result-3 : goal.overflow_add-result-3
overflow_add-result-3 c = omega (arith, row _ _ _ c.requires.0 c.args.self.few c.args.self.less, c.requires.1, c.args.self.few, c.args.self.less, max_peers_small, max_vectors_small)
