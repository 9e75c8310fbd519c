-- C-17: what is not refused is what streams leave, and no more (R90, R93).
use Rattle.std.specs.Prelude.{ℕ, ◌≤◌, ◌<◌, List, ◌≡◌, get_or}
use Rattle.reader.specs.declared.Message.{Message}
use Rattle.reader.specs.Cutting.{Calls, Eight}
use Rattle.reader.specs.Reading.{State, start, held_in, known_in, refusal}
use Rattle.reader.specs.Sizes.{most_vectors}

-- every number of a list is a byte
abbrev pub Small : List ℕ → Type 0
Small bytes = (i : ℕ) → get_or bytes i 0 < 256

-- Calls from the start that leave the reader there. What stands in the places behind the bytes held is free, and the stream is of
-- bytes where those held are.
pub record Reaches (vectors : ℕ) (s : State) : Type 0 where
  pub bytes : List ℕ
  pub messages : List Message
  pub after : State
  pub calls : Calls vectors start bytes messages after
  pub known : known_in after ≡ known_in s
  pub held : after.progress.held ≡ s.progress.held
  pub held_bytes : held_in after ≡ held_in s
  pub small : Small (held_in s) → Small bytes

-- A progress and counts that are not refused are left by some stream,
abbrev pub GoodIsReached : Type 0
GoodIsReached = (vectors : ℕ) (s : State) → Eight s → refusal vectors s ≡ 0 → Reaches vectors s

-- and what a stream leaves is not refused.
abbrev pub ReachedIsGood : Type 0
ReachedIsGood = (vectors : ℕ) (s : State) → 1 ≤ vectors → vectors ≤ most_vectors → Reaches vectors s → refusal vectors s ≡ 0
