-- `soundness::setup::total` meets its contract: the sum of accepted numbers is small.
use Prim.Native.Nat.{ℕ}
use mathlib.Core.Path.{refl}
use Rattle.std.specs.Prelude.{Option, Some, None, SomeIff, IsSome}
use Rattle.soundness.proofs.SetUpLaws.{accepted_summed}
use Rattle.soundness.proofs.setup.total.Goals as goal

there : (o : Option ℕ) (P : Type 0) (v : ℕ) → SomeIff o P v → P → IsSome o
there None P v h p = absurd (h p)
there (Some x) P v h p = refl

pub unwrap-requires : goal.unwrap-requires
unwrap-requires c = there _ _ _ c.sum.ensures (accepted_summed _ c.requires)
