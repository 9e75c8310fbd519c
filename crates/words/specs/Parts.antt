-- What the functions inside this crate promise of a part of the words: several words, each at a place of its own.
use Rattle.std.specs.Prelude.{ℕ, ◌+◌, ◌*◌, ◌/◌, ◌%◌, ◌^◌, ◌≤◌, ◌<◌, true, List, [], ◌∷◌, ◌≡◌}
use Rattle.device.specs.declared.Entry.{Entry}
use Rattle.device.specs.declared.Peer.{Peer}
use Rattle.device.specs.declared.Settings.{Settings}
use Rattle.words.specs.Layout
use Rattle.words.specs.Layout.{word, hub_of}

-- the ten words of the settings
abbrev pub settings_words : Settings → List ℕ
settings_words s =
    s.peers
    ∷ s.vectors
    ∷ s.table
    ∷ s.common
    ∷ s.output
    ∷ s.base % 2 ^ 32
    ∷ s.base / 2 ^ 32
    ∷ s.protocol
    ∷ s.vendor
    ∷ s.subsystem
    ∷ []

-- eight words from a place on as a peer's registers
abbrev pub peer_from : List ℕ → ℕ → Peer
peer_from ws at =
    record {
      connected = word ws at;
      command = word ws (at + 1);
      bar0 = word ws (at + 2);
      bar1 = word ws (at + 3);
      privileged = word ws (at + 4);
      message = word ws (at + 5);
      interrupt = word ws (at + 6);
      state = word ws (at + 7);
    }

-- four words from a place on, each a step further, as an entry
abbrev pub entry_from : List ℕ → ℕ → ℕ → Entry
entry_from ws at step =
    record {
      low = word ws at;
      high = word ws (at + step);
      payload = word ws (at + 2 * step);
      control = word ws (at + 3 * step);
    }

-- the four words of an entry
abbrev pub entry_words : Entry → List ℕ
entry_words e = e.low ∷ e.high ∷ e.payload ∷ e.control ∷ []

-- the first n values stand at their places, and every other word is as it was
pub record Copied (before after : List ℕ) (place : ℕ → ℕ) (values : List ℕ) (n : ℕ) : Type 0 where
  pub there : (r : ℕ) → r < n → word after (place r) ≡ word values r
  pub kept : (k : ℕ) → ((r : ℕ) → r < n → k ≡ place r → ⊥) → word after k ≡ word before k

-- the n words from a place on hold a value, and every other word is as it was
pub record Filled (before after : List ℕ) (at value n : ℕ) : Type 0 where
  pub there : (r : ℕ) → r < n → word after (at + r) ≡ value
  pub kept : (k : ℕ) → ((r : ℕ) → r < n → k ≡ at + r → ⊥) → word after k ≡ word before k

-- the words are a hub of these settings, and past the first ten they are as they were
pub record Set (before after : List ℕ) (s : Settings) : Type 0 where
  pub fits : Layout.fits after ≡ true
  pub settings : (hub_of after).settings ≡ s
  pub kept : (k : ℕ) → 10 ≤ k → word after k ≡ word before k
