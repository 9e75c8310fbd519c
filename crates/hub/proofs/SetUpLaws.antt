-- Set-up: accepted numbers fit the words, and what each answer leaves.
use Prim.Native.Nat.{ℕ}
use mathlib.Core.Bool.{true}
use mathlib.Core.List.{List}
use mathlib.Core.Path.{◌≡◌}
use native.Mathlib.Omega.{arith}
use borrow.Author.Tests.{ne_eqb}
use Rattle.device.specs.declared.Settings.{Settings}
use Rattle.device.specs.SetUp.{accepted, hub_after_set_up, region_after_set_up}
use Rattle.device.specs.World.{zero_hub}
use Rattle.device.proofs.SetUpLaws.{accepted_facts, table_small, common_small, output_small}
use Rattle.device.proofs.SizeLaws.{max_peers_small, max_vectors_small}
use Rattle.words.proofs.LayoutLaws.{zero_words}
use Rattle.words.specs.Layout.{Storable}
use Rattle.hub.proofs.RefusalLaws.{number_some}

pub storable : (s : Settings) → accepted s ≡ true → Storable s
storable s e =
    let f = accepted_facts s e in
    record {
      peers = omega (arith, f.peers, max_peers_small);
      vectors = omega (arith, f.vectors, max_vectors_small);
      table = omega (arith, table_small s f);
      common = omega (arith, common_small s f);
      output = omega (arith, output_small s f);
      protocol = omega (arith, f.protocol);
      vendor = omega (arith, f.vendor);
      subsystem = omega (arith, f.subsystem);
      few = f.peers;
      less = f.vectors;
    }

pub hub_refused : (n : ℕ) (s : Settings) → (n ≡ 0 → ⊥) → hub_after_set_up n s ≡ zero_hub
hub_refused n s h = rw (ne_eqb n 0 h)

pub region_refused : (n : ℕ) (region : List ℕ) → (n ≡ 0 → ⊥) → region_after_set_up n region ≡ region
region_refused n region h = rw (ne_eqb n 0 h)

-- for what a set-up leaves
pub ruleset set_ups = (storable, hub_refused, region_refused, number_some, zero_words)
