-- Refusal 10 is exact: of the hubs that memory can hold it is given to those that no history leaves, and to no other.
use Rattle.std.specs.Prelude.{ℕ, ◌<◌, ◌^◌, true, List, ◌≡◌, length}
use Rattle.device.specs.Call.{Call}
use Rattle.device.specs.History.{start, after}
use Rattle.device.specs.SetUp.{accepted}
use Rattle.device.specs.Sound.{sound}
use Rattle.device.specs.World.{Hub, Slot, slot_at, entry_at}

-- a history that leaves a hub: it starts with a set-up of the hub's own numbers
pub record Reached (hub : Hub) : Type 0 where
  pub numbers : accepted hub.settings ≡ true
  pub calls : List Call
  pub leaves : (after (start hub.settings) calls).hub ≡ hub

-- What every hub in memory has, sound or not: a slot for each peer, with an entry for each vector, of words of 32 bits. Soundness
-- itself bounds the words that have fixed bits, so that only the others are named.
pub record SlotShaped (vectors : ℕ) (slot : Slot) : Type 0 where
  pub entries : length slot.entries ≡ vectors
  pub state : slot.peer.state < 2 ^ 32
  pub high : (v : ℕ) → (entry_at slot v).high < 2 ^ 32
  pub payload : (v : ℕ) → (entry_at slot v).payload < 2 ^ 32

pub record Shaped (hub : Hub) : Type 0 where
  pub slots : length hub.slots ≡ hub.settings.peers
  pub each : (i : ℕ) → i < hub.settings.peers → SlotShaped hub.settings.vectors (slot_at hub i)

-- R36, of refusal 10: the sound hubs are exactly those that a history leaves
abbrev pub SoundIsReached : Type 0
SoundIsReached = (hub : Hub) → Shaped hub → (sound hub ≡ true → Reached hub) × (Reached hub → sound hub ≡ true)
