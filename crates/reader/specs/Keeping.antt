-- C-17: what a message means, and what no stream can change (R93 to R96).
use Rattle.std.specs.Prelude.{ℕ, ◌+◌, ◌*◌, ◌/◌, ◌≤◌, ◌<◌, cond, ◌&&◌, List, ◌⊎◌, ◌≡◌, leb, length, drop, get_or, set, replicate}
use Rattle.reader.specs.declared.Message.{Message}
use Rattle.reader.specs.declared.Message.TheVariants.{More, Version, Id, Memory, Vector, Extra, Disconnected, Closed}
use Rattle.reader.specs.Cutting.{Calls}
use Rattle.reader.specs.Reading.{State, start, read, refusal}
use Rattle.reader.specs.Records.{Record, record_bytes, record_in, without_descriptor}
use Rattle.reader.specs.Sizes.{ids, most_vectors}
use Rattle.reader.specs.Steps.{is_version, is_id, id_of, closed_step}

-- R93: the start is accepted with every number of vectors in its range;
abbrev pub StartIsGood : Type 0
StartIsGood = (vectors : ℕ) → 1 ≤ vectors → vectors ≤ most_vectors → refusal vectors start ≡ 0

-- and what an accepted call gives back is accepted again, with the same number.
abbrev pub GoodStaysGood : Type 0
GoodStaysGood =
    (vectors : ℕ) (s : State) (input : List ℕ) → refusal vectors s ≡ 0 → refusal vectors (read vectors s input).state ≡ 0

-- R94: what a call leaves, by its message. Our own id and the counts are as they were,
pub record Same (before after : State) : Type 0 where
  pub own : after.progress.own ≡ before.progress.own
  pub counts : after.counts ≡ before.counts

-- or one count is another, and our own id and the others are as they were
pub record OneCount (id n : ℕ) (before after : State) : Type 0 where
  pub own : after.progress.own ≡ before.progress.own
  pub counts : after.counts ≡ set before.counts id n

abbrev pub Means : (vectors : ℕ) → Message → (before after : State) → Type 0
Means vectors More before after = Same before after
Means vectors Version before after = Same before after
Means vectors (Id id) before after = (id < ids) × ((after.progress.own ≡ id) × (after.counts ≡ before.counts))
Means vectors Memory before after = Same before after
Means vectors (Vector id n) before after =
    (id < ids) × ((n ≡ get_or before.counts id 0 + 1) × ((n ≤ vectors) × OneCount id n before after))
Means vectors (Extra id n) before after = (id < ids) × ((n ≡ get_or before.counts id 0) × ((n ≡ vectors) × Same before after))
Means vectors (Disconnected id) before after =
    (id < ids) × ((id ≡ before.progress.own → ⊥) × ((0 < get_or before.counts id 0) × OneCount id 0 before after))
Means vectors Closed before after = (after.progress.due ≡ closed_step) × Same before after

abbrev pub MessagesAreTrue : Type 0
MessagesAreTrue =
    (vectors : ℕ) (s : State) (input : List ℕ) → refusal vectors s ≡ 0
    → Means vectors (read vectors s input).message s (read vectors s input).state

-- R94: a count is never above the configured number, and a call leaves it, adds one to it, or makes it 0 by a disconnect.
pub record CountAfter (vectors id before after : ℕ) (m : Message) : Type 0 where
  pub within : after ≤ vectors
  pub one : after ≤ before + 1
  pub how : (after ≡ before) ⊎ (((m ≡ Vector id after) × (after ≡ before + 1)) ⊎ ((m ≡ Disconnected id) × (after ≡ 0)))

abbrev pub CountsRiseByOne : Type 0
CountsRiseByOne =
    (vectors : ℕ) (s : State) (input : List ℕ) → refusal vectors s ≡ 0 → (id : ℕ) → id < ids
    → CountAfter vectors id (get_or s.counts id 0) (get_or (read vectors s input).state.counts id 0) (read vectors s input).message

-- R95: after a close our own id and the counts never change, and each record of nine bytes, with those that were held, is answered
-- so. That the record which closes leaves them too is in `MessagesAreTrue`.
abbrev pub ClosedStays : Type 0
ClosedStays =
    (vectors : ℕ) (s after : State) (bytes : List ℕ) (messages : List Message) → refusal vectors s ≡ 0 → s.progress.due ≡ closed_step
    → Calls vectors s bytes messages after
    → Same s after
    × ((after.progress.due ≡ closed_step) × (messages ≡ replicate ((s.progress.held + length bytes) / record_bytes) Closed))

-- R96: our own id is what the second record said: an id without a descriptor, after the version without one. Else it is 0.
unfoldable pub said_by : (first second : Record) → ℕ
said_by first second =
    cond ((is_version first.value && without_descriptor first) && (is_id second.value && without_descriptor second))
    (id_of second.value) 0

-- the two records at the front of a stream; 0 where they are not both whole
unfoldable pub own_said : List ℕ → ℕ
own_said bytes = cond (leb (2 * record_bytes) (length bytes)) (said_by (record_in bytes) (record_in (drop record_bytes bytes))) 0

abbrev pub OwnIsSecond : Type 0
OwnIsSecond =
    (vectors : ℕ) (bytes : List ℕ) (messages : List Message) (after : State) → Calls vectors start bytes messages after
    → after.progress.own ≡ own_said bytes
