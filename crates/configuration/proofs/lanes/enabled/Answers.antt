-- `configuration::lanes::enabled` meets its contract: four bytes at the most, so no shift loses a bit.
use Prim.Native.Nat.{ℕ, ◌*◌, ◌%◌, ◌^◌, ◌≤◌}
use mathlib.Core.Path.{◌≡◌, ◌∙◌}
use native.Mathlib.Omega.{arith}
use lib.Pow.{pow_pos, shl_exact, ones_lt}
use Rattle.configuration.proofs.lanes.enabled.Goals as goal

one_shifted : (w : ℕ) → w ≤ 4 → 1 * 2 ^ (8 * w) % 2 ^ 64 ≡ 2 ^ (8 * w)
one_shifted w h = shl_exact 1 (8 * w) 64 (omega arith) (omega arith) ∙ omega arith

pub overflow_sub-result : goal.overflow_sub-result
overflow_sub-result c = rw (one_shifted c.args.width (omega arith)) (pow_pos (8 * c.args.width))

pub returns : goal.returns
returns c =
    let a = c.args in
    rw (one_shifted a.width (omega arith)) (shl_exact (8 * a.width) (8 * a.place) 64 (ones_lt (8 * a.width)) (omega arith))
