-- The entries of a run of peers, from one id up to another.
use Rattle.std.specs.Prelude.{ℕ, ◌+◌, ◌-◌, ◌*◌, ◌≤◌, ◌<◌, Bool, List, ◌≡◌, length}
use Rattle.common.specs.Tests.{below}
use Rattle.device.specs.declared.Entry.{Entry}
use Rattle.device.specs.World.{Hub, slot_at, entry_at}
use Rattle.words.specs.declared.columns.Places.{Places}
use Rattle.words.specs.Layout.{word, entry_start, hub_of}

-- ids of the hub, at least one
pub record Run (ws : List ℕ) (from to : ℕ) : Type 0 where
  pub some : from < to
  pub known : to ≤ (hub_of ws).settings.peers

-- a test holds of each of their entries
unfoldable pub run_of : Hub → (from to : ℕ) → (Entry → Bool) → Bool
run_of hub from to t = below (to - from) (λ k. below hub.settings.vectors (λ v. t (entry_at (slot_at hub (from + k)) v)))

-- where their words stand: a row for each peer, all inside the hub
pub record Stands (ws : List ℕ) (from to : ℕ) (p : Places) : Type 0 where
  pub start : p.start ≡ entry_start (word ws 0) (word ws 1) 0 from 0
  pub size : p.size ≡ (to - from) * word ws 1
  pub column : p.column ≡ word ws 0 * word ws 1
  pub inside : p.start + p.size + 3 * p.column ≤ length ws
