-- The peers that are not connected, from one id on.
use Rattle.std.specs.Prelude.{ℕ, ◌+◌, ◌-◌, ◌≤◌, ◌<◌, Bool, true, false, ◌&&◌, ◌||◌, List, ◌≡◌, Option, Some, None}
use Rattle.common.specs.Tests.{below}
use Rattle.device.specs.Sound.{peer_reset, entry_reset}
use Rattle.device.specs.World.{slot_at, entry_at}
use Rattle.words.specs.Layout.{hub_of}
use Rattle.soundness.specs.declared.absent.Gap.{Gap}
use Rattle.soundness.specs.Scanned.{joined}

-- a slot at its reset values, and one that is so where its peer is not connected
abbrev pub slot_reset : List ℕ → ℕ → Bool
slot_reset ws k =
    peer_reset (slot_at (hub_of ws) k).peer && below (hub_of ws).settings.vectors (λ v. entry_reset (entry_at (slot_at (hub_of ws) k) v))

abbrev pub absent_slot : List ℕ → ℕ → Bool
absent_slot ws k = joined ws k || slot_reset ws k

-- an id below the number of peers, whose peer is not connected
pub record Here (ws : List ℕ) (peers i : ℕ) : Type 0 where
  pub below : i < peers
  pub absent : joined ws i ≡ false

-- the first such id from one on
pub record FirstAbsent (ws : List ℕ) (from peers i : ℕ) : Type 0 where
  pub order : from ≤ i
  pub passed : (k : ℕ) → from ≤ k → k < i → joined ws k ≡ true
  pub here : Here ws peers i

abbrev pub NextAbsent : List ℕ → (from peers : ℕ) → Option ℕ → Type 0
NextAbsent ws from peers None = (k : ℕ) → from ≤ k → k < peers → joined ws k ≡ true
NextAbsent ws from peers (Some i) = FirstAbsent ws from peers i

-- a run of ids whose peers are not connected, with their registers collected
pub record Vacant (ws : List ℕ) (peers : ℕ) (gap : Gap) : Type 0 where
  pub some : gap.from < gap.to
  pub most : gap.to ≤ peers
  pub absent : (k : ℕ) → gap.from ≤ k → k < gap.to → joined ws k ≡ false
  pub reset : peer_reset gap.all ≡ below (gap.to - gap.from) (λ k. peer_reset (slot_at (hub_of ws) (gap.from + k)).peer)

-- the slots of such a run hold reset values
abbrev pub gap_reset : List ℕ → (from to : ℕ) → Bool
gap_reset ws from to = below (to - from) (λ k. slot_reset ws (from + k))
