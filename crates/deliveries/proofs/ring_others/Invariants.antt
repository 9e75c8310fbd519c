-- `deliveries::ring_others` meets its contract. The loop's invariant: what is listed and what the turns left give is the whole.
use Prim.Native.Nat.{ℕ, ◌≤◌}
use mathlib.Core.List.{List}
use mathlib.Core.Path.{◌≡◌}
use lib.ListN.{length}
use Rattle.device.specs.Ring.{ring_others}
use Rattle.device.specs.Sizes.{max_peers}
use Rattle.gate.specs.RingOutcome.{Usable}
use Rattle.words.specs.Layout.{hub_of}
use Rattle.deliveries.proofs.ListedLaws.{of_zero, Rest}
use Rattle.deliveries.proofs.ring_others.Given as goal

pub record Inv (hub₀ : List ℕ) (who peers : ℕ) (hub targets : List ℕ) (count i : ℕ) : Type 0 where
  pub usable : Usable hub
  pub kept : length hub ≡ length hub₀
  pub same : peers ≡ (hub_of hub).settings.peers
  pub few : count ≤ i
  pub room : length targets ≡ max_peers
  pub rest : Rest who peers i (hub_of hub) (of_zero count targets) (ring_others who (hub_of hub₀))

abbrev pub invariant-loop-i : goal.invariant-loop-i
invariant-loop-i l = Inv l.initial.hub l.who l.peers l.hub l.targets l.count l.i
