-- `words::slots::put_reset` meets its contract. The loop's invariant: of the slot, the entries passed are at reset.
use Prim.Native.Nat.{ℕ}
use mathlib.Core.List.{List}
use mathlib.Core.Path.{◌≡◌}
use lib.ListN.{length}
use Rattle.device.specs.World.{slot_at, with_slot}
use Rattle.words.specs.declared.sizes.Counts.{Counts}
use Rattle.words.specs.Layout.{hub_of, Known}
use Rattle.words.proofs.SlotLaws.{cleared}
use Rattle.words.proofs.slots.put_reset.Given as goal

pub record Inv (hub₀ : List ℕ) (i : ℕ) (counts : Counts) (hub : List ℕ) (v : ℕ) : Type 0 where
  pub known : Known hub₀ i
  pub peers : counts.peers ≡ (hub_of hub₀).settings.peers
  pub vectors : counts.vectors ≡ (hub_of hub₀).settings.vectors
  pub kept : length hub ≡ length hub₀
  pub reset : hub_of hub ≡ with_slot (hub_of hub₀) i (cleared (slot_at (hub_of hub₀) i) v)

abbrev pub invariant-loop-v : goal.invariant-loop-v
invariant-loop-v l = Inv l.initial.hub l.i l.counts l.hub l.v
