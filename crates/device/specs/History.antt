-- Histories, and what one peer observes of them (R66 to R68).
use Rattle.std.specs.Prelude.{ℕ, ◌*◌, cond, List, [], ◌∷◌, ◌++◌, eqb, replicate}
use Rattle.common.specs.Lists.{tabulate}
use Rattle.device.specs.declared.Delivery.{Delivery}
use Rattle.device.specs.declared.SectionAnswer.{SectionAnswer}
use Rattle.device.specs.declared.Settings.{Settings}
use Rattle.device.specs.Call.{Call}
use Rattle.device.specs.Configuration.{configuration_byte}
use Rattle.device.specs.Msix.{table_word}
use Rattle.device.specs.Registers.{register_at, register_value}
use Rattle.device.specs.SetUp.{total, fresh_hub}
use Rattle.device.specs.Step.{Outcome, step}
use Rattle.device.specs.World.{World, world, slot_at}

-- R66: a history is any list of calls, by or on any ids, refused ones included. It starts with what an accepted set-up leaves.
unfoldable pub start : Settings → World
start s = world (fresh_hub s) (replicate (total s) 0)

-- R66: each call meets the world that the call before it left
unfoldable pub after : World → List Call → World
after w [] = w
after w (c ∷ cs) = after (step w c).world cs

-- What a peer is given: the answer to a call by it or on it, or an interrupt.
pub data Observation : Type 0 where
  -- R67: number, value, section answer and the bytes of an accepted load
  answered : (number value : ℕ) (answer : SectionAnswer) (loaded : List ℕ) → Observation
  -- a delivery with its four parts
  interrupted : Delivery → Observation

-- the deliveries of a list that are for b
unfoldable pub deliveries_to : ℕ → List Delivery → List Observation
deliveries_to b [] = []
deliveries_to b (d ∷ ds) = cond (eqb d.target.0 b) (Observation.interrupted d ∷ deliveries_to b ds) (deliveries_to b ds)

unfoldable pub answer_to : ℕ → Call → Outcome → List Observation
answer_to b c o =
    cond (eqb c.who b) (Observation.answered o.number o.value o.answer o.loaded ∷ []) []

-- R67: a single list, call by call, the answer before the deliveries
unfoldable pub observed : ℕ → World → List Call → List Observation
observed b w [] = []
observed b w (c ∷ cs) =
    answer_to b c (step w c) ++ (deliveries_to b (step w c).deliveries ++ observed b (step w c).world cs)

-- R68: the peer's registers, those that Command bit 1 hides too: each byte of configuration space, and each word of
-- the register region and of the MSI-X region as it reads with that bit on
pub record Spaces : Type 0 where
  pub configuration : List ℕ
  pub registers : List ℕ
  pub msix : List ℕ

unfoldable pub spaces_of : ℕ → World → Spaces
spaces_of b w =
    record {
      configuration = tabulate 256 (λ at. configuration_byte w.hub.settings (slot_at w.hub b).peer at);
      registers =
          tabulate 1024 (λ k. register_value w.hub.settings b (slot_at w.hub b).peer (register_at (4 * k)));
      msix = tabulate 1024 (λ k. table_word w.hub.settings (slot_at w.hub b) (4 * k));
    }
