-- What accepted set-up numbers are known to satisfy, as facts on numbers.
use Prim.Native.Nat.{ℕ, ◌+◌, ◌*◌, ◌^◌, ◌≤◌, ◌<◌}
use mathlib.Core.Bool.{Bool, true, false, not}
use mathlib.Core.List.{List, [], ◌∷◌}
use mathlib.Core.Path.{◌≡◌, refl}
use native.Mathlib.Nat.{mul-le-mul_right}
use native.Mathlib.Omega.{arith}
use lib.Dec.{eqb, leb}
use lib.ListN.{get_or}
use borrow.Author.Tests.{leb-true, ltb-true}
use Rattle.common.specs.Tests.{every}
use Rattle.common.proofs.TestLaws.{every_true}
use Rattle.device.specs.declared.Settings.{Settings}
use Rattle.device.specs.SetUp.{accepted, total, paged, min_base, sixteen_bits}
use Rattle.device.specs.Sizes.{max_peers, max_vectors}
use Rattle.device.specs.Sound.{sound}
use Rattle.device.specs.World.{zero_hub}

pub record Accepted (s : Settings) : Type 0 where
  pub two : 2 ≤ s.peers
  pub peers : s.peers ≤ max_peers
  pub one : 1 ≤ s.vectors
  pub vectors : s.vectors ≤ max_vectors
  pub state : 4 * s.peers ≤ s.table
  pub whole : total s ≤ 2 ^ 30
  pub placed : s.base + total s ≤ 2 ^ 64
  pub protocol : s.protocol < 2 ^ 16
  pub vendor : s.vendor < 2 ^ 16
  pub subsystem : s.subsystem < 2 ^ 16

-- the tests of the definition, as a list
unfoldable pub tests : Settings → List Bool
tests s =
    leb 2 s.peers
    ∷ leb s.peers max_peers
    ∷ leb 1 s.vectors
    ∷ leb s.vectors max_vectors
    ∷ not (eqb s.table 0)
    ∷ paged s.table
    ∷ leb (4 * s.peers) s.table
    ∷ paged s.common
    ∷ paged s.output
    ∷ leb (total s) (2 ^ 30)
    ∷ paged s.base
    ∷ leb min_base s.base
    ∷ leb (s.base + total s) (2 ^ 64)
    ∷ sixteen_bits s.protocol
    ∷ sixteen_bits s.vendor
    ∷ sixteen_bits s.subsystem
    ∷ []

pub each : (s : Settings) → accepted s ≡ true → (k : ℕ) → get_or (tests s) k true ≡ true
unfolding accepted tests
each s e k = every_true (tests s) e k

pub accepted_facts : (s : Settings) → accepted s ≡ true → Accepted s
unfolding tests
accepted_facts s e =
    record {
      two = leb-true _ _ (each s e 0);
      peers = leb-true _ _ (each s e 1);
      one = leb-true _ _ (each s e 2);
      vectors = leb-true _ _ (each s e 3);
      state = leb-true _ _ (each s e 6);
      whole = leb-true _ _ (each s e 9);
      placed = leb-true _ _ (each s e 12);
      protocol = ltb-true _ _ (each s e 13);
      vendor = ltb-true _ _ (each s e 14);
      subsystem = ltb-true _ _ (each s e 15);
    }

-- each section is no larger than the whole
pub table_small : (s : Settings) → Accepted s → s.table ≤ 2 ^ 30
unfolding total
table_small s a = omega (arith, a.whole)

pub common_small : (s : Settings) → Accepted s → s.common ≤ 2 ^ 30
unfolding total
common_small s a = omega (arith, a.whole)

pub output_small : (s : Settings) → Accepted s → s.output ≤ 2 ^ 30
unfolding total
output_small s a =
    let h : 2 * s.output ≤ s.peers * s.output = mul-le-mul_right s.output a.two in
    omega (arith, a.whole)

-- the all-zero hub is not sound: its settings would not be accepted
pub zero_unsound : sound zero_hub ≡ false
unfolding sound zero_hub accepted every
zero_unsound = refl
