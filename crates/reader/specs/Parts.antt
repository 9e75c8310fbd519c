-- What the parts of the code promise each other.
use Rattle.std.specs.Prelude.{ℕ, ◌-◌, ◌<◌, cond, List, ℤ, Option, Result, ◌≡◌, ltb, length, get_or, true, false, MatchOption, MatchResult}
use Rattle.reader.specs.declared.Message.{Message}
use Rattle.reader.specs.declared.records.Record.{Record}
use Rattle.reader.specs.declared.refusals.Refusal.{Refusal}
use Rattle.reader.specs.declared.steps.Known.{Known}
use Rattle.reader.specs.declared.steps.Step.{Step}
use Rattle.reader.specs.declared.steps.Step.TheVariants.{Version, Id, Memory, Peers, Closed}
use Rattle.reader.specs.Reading.{refusal_number}
use Rattle.reader.specs.Records.{Record as Told, record_of}
use Rattle.reader.specs.Sizes.{ids}
use Rattle.reader.specs.Steps.{version_due, id_due, memory_due, peers_due, closed_step, Result as Heard, result_with, Known as Kept, known, is_id, id_of}

-- the byte at place k, where the input comes behind the bytes held and over what stood there
unfoldable pub placed : (bytes : List ℕ) (held : ℕ) (input : List ℕ) (k : ℕ) → ℕ
placed bytes held input k =
    cond (ltb k held) (get_or bytes k 0) (cond (ltb (k - held) (length input)) (get_or input (k - held) 0) (get_or bytes k 0))

-- a step's number in the progress record
abbrev pub step_number : Step → ℕ
step_number Version = version_due
step_number Id = id_due
step_number Memory = memory_due
step_number Peers = peers_due
step_number Closed = closed_step

-- the step that a number stands for, or the refusal of one that stands for none
abbrev pub Numbers : ℕ → Result Step Refusal → Type 0
Numbers n r = MatchResult r (λ s. n ≡ step_number s) (λ e. (closed_step < n) × (refusal_number e ≡ 10))

-- the step that is due where nothing is refused, or the refusal of this number
abbrev pub Due : (number due : ℕ) → Result Step Refusal → Type 0
Due number due r = MatchResult r (λ s. (number ≡ 0) × (due ≡ step_number s)) (λ e. number ≡ refusal_number e)

-- the code's record, as the definitions have it
abbrev pub told : Record → Told
told r = record_of r.kind r.number

-- the id that a number is
abbrev pub IdOf : ℤ → Option ℕ → Type 0
IdOf z o = MatchOption o (is_id z ≡ false) (λ id. (is_id z ≡ true) × ((id ≡ id_of z) × (id < ids)))

-- what the code knows, as the definitions have it
abbrev pub known_by : Known → Kept
known_by k = known (step_number k.step) k.own k.counts.now

-- what the code of a step leaves, as the definitions have it
abbrev pub result_of : Message → Known → Heard
result_of m k = result_with m (known_by k)

-- what a record leaves: its message and what is known then, and all else as it was
pub record Leaves (before after : Known) (m : Message) (r : Heard) : Type 0 where
  pub is : result_of m after ≡ r
  pub counts : before.counts.ghost_name ≡ after.counts.ghost_name
  pub vectors : after.vectors ≡ before.vectors
