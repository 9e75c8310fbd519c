-- How far a pass over the peers has come, and what it has tested.
use Rattle.std.specs.Prelude.{ℕ, ◌+◌, ◌-◌, ◌≤◌, ◌<◌, Bool, true, false, ◌&&◌, ◌||◌, List, ◌≡◌, eqb}
use Rattle.common.specs.Tests.{below}
use Rattle.device.specs.declared.Settings.{Settings}
use Rattle.device.specs.Sound.{peer_fixed, peer_reset, entry_sound, slot_sound}
use Rattle.device.specs.World.{Hub, slot_at, entry_at}
use Rattle.words.specs.Layout.{hub_of}
use Rattle.soundness.specs.declared.runs.Scan.{Scan}
use Rattle.soundness.specs.declared.runs.Standing.{Standing}
use Rattle.soundness.specs.declared.runs.Standing.TheVariants.{Connected, Absent}
use Rattle.soundness.specs.declared.whole.Peers.{Peers}

-- whether a peer is connected
abbrev pub joined : List ℕ → ℕ → Bool
joined ws k = eqb (slot_at (hub_of ws) k).peer.connected 1

-- the registers of a peer that is not connected
abbrev pub absent_registers : List ℕ → ℕ → Bool
absent_registers ws k = joined ws k || peer_reset (slot_at (hub_of ws) k).peer

-- the entries of one peer, and of the peers from one id up to another
abbrev pub entries_sound : Hub → ℕ → Bool
entries_sound hub i = below hub.settings.vectors (λ v. entry_sound (slot_at hub i).peer (entry_at (slot_at hub i) v))

unfoldable pub entries_from : Hub → (from to : ℕ) → Bool
entries_from hub from to = below (to - from) (λ k. entries_sound hub (from + k))

-- the registers of the peers below i are collected, and it is known whether all of them, or none, are connected
pub record Seen (ws : List ℕ) (s : Settings) (i : ℕ) (x : Peers) : Type 0 where
  pub few : x.connected ≤ i
  pub all : x.connected ≡ i → (k : ℕ) → k < i → joined ws k ≡ true
  pub none : x.connected ≡ 0 → (k : ℕ) → k < i → joined ws k ≡ false
  pub fixed : peer_fixed s x.all ≡ below i (λ k. peer_fixed s (slot_at (hub_of ws) k).peer)
  pub reset : peer_reset x.all ≡ below i (λ k. peer_reset (slot_at (hub_of ws) k).peer)

abbrev pub stands : Standing → Bool
stands Connected = true
stands Absent = false

-- ids of the hub whose peers are all connected, or all not
pub record Uniform (ws : List ℕ) (from to : ℕ) (standing : Standing) : Type 0 where
  pub order : from ≤ to
  pub known : to ≤ (hub_of ws).settings.peers
  pub alike : (k : ℕ) → from ≤ k → k < to → joined ws k ≡ stands standing

-- the peers below i are tested, but for the entries of the last run, and nothing is found
pub record Scanned (ws : List ℕ) (i : ℕ) (x : Scan) : Type 0 where
  pub run : Uniform ws x.from i x.standing
  pub tested : (below i (absent_registers ws) && below x.from (entries_sound (hub_of ws))) ≡ true

-- something is found in the peers below i
abbrev pub Failed : List ℕ → ℕ → Type 0
Failed ws i = (below i (absent_registers ws) && below i (entries_sound (hub_of ws))) ≡ false

-- the slots are sound, each of them
abbrev pub slots_sound : List ℕ → Settings → Bool
slots_sound ws s = below s.peers (λ i. slot_sound s (slot_at (hub_of ws) i))
