-- C-13: what a record is answered by, in bytes, and the world that it leaves.
use Rattle.std.specs.Prelude.{ℕ, ◌+◌, ◌*◌, Bool, true, false, cond, List, [], ◌∷◌, ◌++◌, eqb, leb, replicate, Result, Ok, Err}
use Rattle.common.specs.Bytes.{bytes, number}
use Rattle.device.specs.declared.Delivery.{Delivery}
use Rattle.device.specs.declared.Settings.{Settings}
use Rattle.device.specs.History.{start}
use Rattle.device.specs.SetUp.{total, set_up_refusal}
use Rattle.device.specs.Sizes.{max_peers}
use Rattle.device.specs.Step.{step}
use Rattle.device.specs.World.{Hub, World, world, zero_hub}
use Rattle.deliveries.specs.Listed.{listed}
use Rattle.hub.specs.declared.reasons.Refusal.{Refusal}
use Rattle.hub.specs.Answered.{number_of}
use Rattle.playback.specs.declared.answers.Accepted.{Accepted}
use Rattle.playback.specs.declared.answers.Accepted.TheVariants.{Done, Delivered, Value}
use Rattle.playback.specs.Log.{Request}

-- R77: after 83h, 'target 2, vector 2, address 8, data 4'
abbrev pub parts : Delivery → List ℕ
parts d = (bytes 2 d.target.0 ++ bytes 2 d.vector.0) ++ (bytes 8 d.address ++ bytes 4 d.payload)

unfoldable pub delivered : Delivery → List ℕ
delivered d = 0x83 ∷ parts d

unfoldable pub all_delivered : List Delivery → List ℕ
all_delivered [] = []
all_delivered (d ∷ ds) = delivered d ++ all_delivered ds

-- R77: 80h and the number in one byte; 81h, then each delivery; 82h and a value of 4 bytes
abbrev pub refused_by : ℕ → List ℕ
refused_by number = 0x80 ∷ bytes 1 number

abbrev pub done : List Delivery → List ℕ
done ds = 0x81 ∷ all_delivered ds

abbrev pub valued : ℕ → List ℕ
valued value = 0x82 ∷ bytes 4 value

unfoldable pub replied : (number : ℕ) → (accepted : List ℕ) → List ℕ
replied number accepted = cond (eqb number 0) accepted (refused_by number)

-- what is written for a call: for one that is accepted as its answer is, with records made from the hub that it leaves
unfoldable pub accepted_bytes : Hub → Accepted → List ℕ
accepted_bytes hub Done = done []
accepted_bytes hub (Delivered list) = done (listed hub list)
accepted_bytes hub (Value x) = valued x

abbrev pub Outcome : Type 0
Outcome = Result Accepted Refusal

unfoldable pub outcome_bytes : Hub → Outcome → List ℕ
outcome_bytes hub (Ok answer) = accepted_bytes hub answer
outcome_bytes hub (Err refusal) = refused_by (number_of refusal)

-- no answer is longer: done, and a delivery to each peer
abbrev pub longest : ℕ
longest = 1 + 17 * max_peers

-- R78: T above 32768 is refused with 1. The words and the region that it lends are as large as the set-up asks for.
abbrev pub max_total : ℕ
max_total = 32768

unfoldable pub set_up_number : Settings → ℕ
set_up_number s = cond (leb (total s) max_total) (set_up_refusal true s (replicate (total s) 0)) 1

-- R79: what a record meets before any set-up, the all-zero hub with an empty region
abbrev pub nowhere : World
nowhere = world zero_hub []

-- R79: a set-up begins anew, and after a refused one stands the all-zero hub
abbrev pub set_up_leaves : ℕ → Settings → World
set_up_leaves number s = cond (eqb number 0) (start s) nowhere

pub record Answer : Type 0 where
  pub world : World
  pub written : List ℕ
  -- nothing after it is read
  pub stops : Bool

abbrev pub answered : World → List ℕ → Answer
answered w written = record { world = w; written = written; stops = false }

unfoldable pub answer : World → Request → Answer
answer w (Request.set_up s) = answered (set_up_leaves (set_up_number s) s) (replied (set_up_number s) (done []))
answer w (Request.does c) = answered (step w c).world (replied (step w c).number (done (step w c).deliveries))
answer w (Request.reads c) = answered (step w c).world (replied (step w c).number (valued (step w c).value))
answer w (Request.loads c) = answered (step w c).world (replied (step w c).number (valued (number (step w c).loaded)))
answer w Request.unknown = record { world = w; written = 0x85 ∷ []; stops = true }
