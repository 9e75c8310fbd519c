-- `soundness::setup::accepted` meets its contract: numbers whose sum is too large are not accepted.
use Prim.Native.Nat.{ℕ, ◌<◌, ◌^◌}
use mathlib.Core.Bool.{Bool, false}
use mathlib.Core.Path.{◌≡◌, ◌∙◌}
use Rattle.std.proofs.Common.{rules}
use Rattle.std.specs.Prelude.{Option, Some, None, SomeIff, MatchOption}
use Rattle.device.specs.declared.Settings.{Settings}
use Rattle.device.specs.SetUp.{accepted, total}
use Rattle.soundness.proofs.SetUpLaws.{unsummed_refused}
use Rattle.soundness.proofs.setup.accepted.Goals as goal

tested : (s : Settings) (sum : Option ℕ) (r : Bool)
    → SomeIff sum (total s < 2 ^ 64) (total s) → MatchOption sum (r ≡ false) (λ all. r ≡ accepted s) → r ≡ accepted s
tested s None r large e = e ∙ unsummed_refused s large
tested s (Some all) r small e = e

pub returns : goal.returns
returns c = tested _ _ _ c.sum.ensures (search rules)
