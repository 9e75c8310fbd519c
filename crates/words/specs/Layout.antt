-- Which hub an array of 32-bit words is. Only this crate knows the layout: the settings, then eight words for each peer, then the
-- MSI-X entries in four columns (all address-low words, all address-high, all data, all control). How many peers and vectors there
-- are stands in the first two words, so a hub has just the words that its set-up asks for.
use Rattle.std.specs.Prelude.{ℕ, ◌+◌, ◌*◌, ◌^◌, ◌≤◌, ◌<◌, Bool, cond, List, [], ◌∷◌, eqb, leb, length, get_or}
use Rattle.common.specs.Lists.{tabulate}
use Rattle.common.specs.Tests.{every}
use Rattle.device.specs.declared.Entry.{Entry}
use Rattle.device.specs.declared.Peer.{Peer}
use Rattle.device.specs.declared.Settings.{Settings}
use Rattle.device.specs.Sizes.{max_peers, max_vectors}
use Rattle.device.specs.World.{Hub, Slot, zero_hub}

-- how many words a hub of n peers and m vectors has
unfoldable pub hub_words : (n m : ℕ) → ℕ
hub_words n m = 10 + 8 * n + 4 * (n * m)

abbrev pub word : List ℕ → ℕ → ℕ
word ws k = get_or ws k 0

-- the base address is the only number of two words
unfoldable pub settings_of : List ℕ → Settings
settings_of ws =
    record {
      peers = word ws 0;
      vectors = word ws 1;
      table = word ws 2;
      common = word ws 3;
      output = word ws 4;
      base = word ws 5 + 2 ^ 32 * word ws 6;
      protocol = word ws 7;
      vendor = word ws 8;
      subsystem = word ws 9;
    }

-- where a peer's eight words begin
abbrev pub peer_start : ℕ → ℕ
peer_start i = 10 + 8 * i

unfoldable pub peer_of : List ℕ → ℕ → Peer
peer_of ws i =
    record {
      connected = word ws (peer_start i);
      command = word ws (peer_start i + 1);
      bar0 = word ws (peer_start i + 2);
      bar1 = word ws (peer_start i + 3);
      privileged = word ws (peer_start i + 4);
      message = word ws (peer_start i + 5);
      interrupt = word ws (peer_start i + 6);
      state = word ws (peer_start i + 7);
    }

-- where an entry's word of a column stands, in a hub of n peers and m vectors
abbrev pub entry_start : (n m column i v : ℕ) → ℕ
entry_start n m column i v = 10 + 8 * n + column * (n * m) + (i * m + v)

unfoldable pub entry_of : (n m : ℕ) → List ℕ → ℕ → ℕ → Entry
entry_of n m ws i v =
    record {
      low = word ws (entry_start n m 0 i v);
      high = word ws (entry_start n m 1 i v);
      payload = word ws (entry_start n m 2 i v);
      control = word ws (entry_start n m 3 i v);
    }

unfoldable pub slot_of : (n m : ℕ) → List ℕ → ℕ → Slot
slot_of n m ws i = record { peer = peer_of ws i; entries = tabulate m (entry_of n m ws i) }

unfoldable pub decoded : (n m : ℕ) → List ℕ → Hub
decoded n m ws = record { settings = settings_of ws; slots = tabulate n (slot_of n m ws) }

-- there are as many words as the first two ask for, and these ask for no more than a hub can have
unfoldable pub fits : List ℕ → Bool
fits ws =
    every (leb (word ws 0) max_peers ∷ leb (word ws 1) max_vectors ∷ eqb (length ws) (hub_words (word ws 0) (word ws 1)) ∷ [])

-- any other words are the all-zero hub, which is not sound
unfoldable pub hub_of : List ℕ → Hub
hub_of ws = cond (fits ws) (decoded (word ws 0) (word ws 1) ws) zero_hub

-- an id and a vector of the hub that the words are
abbrev pub Known : List ℕ → ℕ → Type 0
Known ws i = i < (hub_of ws).settings.peers

abbrev pub KnownVector : List ℕ → ℕ → Type 0
KnownVector ws v = v < (hub_of ws).settings.vectors

-- the settings fit the words that hold them, and a hub can have so many peers and vectors; accepted ones do
pub record Storable (s : Settings) : Type 0 where
  pub peers : s.peers < 2 ^ 32
  pub vectors : s.vectors < 2 ^ 32
  pub table : s.table < 2 ^ 32
  pub common : s.common < 2 ^ 32
  pub output : s.output < 2 ^ 32
  pub protocol : s.protocol < 2 ^ 32
  pub vendor : s.vendor < 2 ^ 32
  pub subsystem : s.subsystem < 2 ^ 32
  pub few : s.peers ≤ max_peers
  pub less : s.vectors ≤ max_vectors
