-- C-17: a call, which takes bytes through the end of the first whole record (R89), and when it is refused (R90).
use Rattle.std.specs.Prelude.{ℕ, ◌+◌, ◌-◌, Bool, cond, not, ◌&&◌, ◌||◌, List, [], ◌∷◌, ◌++◌, Result, Ok, Err, eqb, leb, ltb, length, take, get_or, replicate}
use Rattle.std.proofs.lemmas.List.Edits.{sets}
use Rattle.common.specs.Tests.{row, first, every, below}
use Rattle.reader.specs.declared.Answer.{Answer}
use Rattle.reader.specs.declared.Message.{Message}
use Rattle.reader.specs.declared.Message.TheVariants.{More}
use Rattle.reader.specs.declared.Progress.{Progress}
use Rattle.reader.specs.declared.refusals.Refusal.{Refusal}
use Rattle.reader.specs.declared.refusals.Refusal.TheVariants as refusals
use Rattle.reader.specs.Records.{record_bytes, held_places, record_in}
use Rattle.reader.specs.Sizes.{ids, most_vectors}
use Rattle.reader.specs.Steps.{Known, known, Result as Heard, read_record, id_due, memory_due, closed_step}

-- what goes in and comes back: the progress, and the buffer of the counts
pub record State : Type 0 where
  pub progress : Progress
  pub counts : List ℕ

abbrev pub state : Progress → List ℕ → State
state p counts = record { progress = p; counts = counts }

-- R93: everything is 0, and the version is due
abbrev pub start : State
start = state (record { due = 0; own = 0; held = 0; bytes = replicate held_places 0 }) (replicate ids 0)

-- the bytes held of a record that is not whole
abbrev pub held_in : State → List ℕ
held_in s = take s.progress.held s.progress.bytes

abbrev pub known_in : State → Known
known_in s = known s.progress.due s.progress.own s.counts

-- R89: the input is put after the bytes held, and the places after it keep what they had
abbrev pub holding : State → List ℕ → State
holding s input =
    state (record {
      due = s.progress.due;
      own = s.progress.own;
      held = s.progress.held + length input;
      bytes = sets s.progress.bytes s.progress.held input;
    }) s.counts

-- R89: after a whole record nothing is held, and all eight places are 0
abbrev pub emptied : Known → State
emptied k = state (record { due = k.due; own = k.own; held = 0; bytes = replicate held_places 0 }) k.counts

-- what a call gives: 0 or a refusal's number, the message, the bytes taken of the input, and the state
pub record Read : Type 0 where
  pub number : ℕ
  pub message : Message
  pub taken : ℕ
  pub state : State

abbrev pub gives : Message → ℕ → State → Read
gives message taken s = record { number = 0; message = message; taken = taken; state = s }

abbrev pub answered_by : ℕ → Heard → Read
answered_by taken h = gives h.message taken (emptied h.known)

-- R89: bytes are taken through the end of the first whole record; without one all are held
unfoldable pub accepted : (vectors : ℕ) → State → (input : List ℕ) → Read
accepted vectors s input =
    cond (ltb (length input) (record_bytes - s.progress.held)) (gives More (length input) (holding s input))
    (answered_by (record_bytes - s.progress.held) (read_record vectors (known_in s) (record_in (held_in s ++ input))))

-- R90: a known step, an own id below 64, at most 8 bytes held, no count above the configured number, our own id 0 while version or
-- id is due, and every count 0 while version, id or memory is due
unfoldable pub good : (vectors : ℕ) → State → Bool
good vectors s =
    every
    (leb s.progress.due closed_step
    ∷ ltb s.progress.own ids
    ∷ leb s.progress.held held_places
    ∷ below ids (λ i. leb (get_or s.counts i 0) vectors)
    ∷ (ltb id_due s.progress.due || eqb s.progress.own 0)
    ∷ (ltb memory_due s.progress.due || below ids (λ i. eqb (get_or s.counts i 0) 0))
    ∷ [])

-- R90: 1 for a configured number outside 1 to 16, then 2 for another buffer length, then 10
unfoldable pub refusal : (vectors : ℕ) → State → ℕ
refusal vectors s =
    first
    (row 1 (not (leb 1 vectors && leb vectors most_vectors))
    ∷ row 2 (not (eqb (length s.counts) ids))
    ∷ row 10 (not (good vectors s))
    ∷ [])

-- R90: a refused call changes nothing, takes nothing, and has no message
abbrev pub refused_by : ℕ → State → Read
refused_by number s = record { number = number; message = More; taken = 0; state = s }

-- one call, whole
unfoldable pub read : (vectors : ℕ) → State → (input : List ℕ) → Read
read vectors s input = cond (eqb (refusal vectors s) 0) (accepted vectors s input) (refused_by (refusal vectors s) s)

-- R90: the number of each refusal
abbrev pub refusal_number : Refusal → ℕ
refusal_number refusals.Vectors = 1
refusal_number refusals.Counts = 2
refusal_number refusals.Progress = 10

-- the code's answer with the counts that it leaves; beside a refusal the progress is the one that was handed in
abbrev pub answered : Result Answer Refusal → Progress → List ℕ → Read
answered (Ok a) p counts = gives a.message a.taken (state a.progress counts)
answered (Err e) p counts = refused_by (refusal_number e) (state p counts)
