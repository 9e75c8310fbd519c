-- `soundness::setup::sum` meets its contract: a part of the sum that is too large makes the whole too large.
use Prim.Native.Nat.{◌+◌}
use mathlib.Core.Path.{◌≡◌}
use native.Mathlib.Omega.{arith}
use Rattle.device.specs.SetUp.{total}
use Rattle.soundness.proofs.setup.sum.Goals as goal

pub returns-in_err-checked_mul : goal.returns-in_err-checked_mul
unfolding total
returns-in_err-checked_mul c = rw c.from_residual.ensures (λ h. c.in_err-checked_mul.ensures (omega arith))

pub returns-in_err-checked_add : goal.returns-in_err-checked_add
unfolding total
returns-in_err-checked_add c = rw c.from_residual-in_err-checked_add.ensures (λ h. c.in_err-checked_add.ensures (omega (arith, c.in_ok-checked_mul.ensures)))

pub returns : goal.returns
unfolding total
returns c =
    let e : c.in_ok-checked_add.field-0 + c.args.s.common ≡ total c.args.s = omega (arith, c.in_ok-checked_mul.ensures, c.in_ok-checked_add.ensures) in
    rw e at c.checked_add-2.ensures
