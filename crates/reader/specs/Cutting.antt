-- C-17: cutting a stream into pieces changes nothing (R92), and what the definition of one call says of records (R89).
use Rattle.std.specs.Prelude.{ℕ, zero, suc, ◌<◌, ◌≤◌, Bool, true, false, cond, List, [], ◌∷◌, ◌++◌, ◌≡◌, length, take, drop}
use Rattle.common.specs.Streams.{FedOf, fed_to, fed_all, joined}
use Rattle.reader.specs.declared.Message.{Message}
use Rattle.reader.specs.declared.Message.TheVariants.{More, Version, Id, Memory, Vector, Extra, Disconnected, Closed}
use Rattle.reader.specs.Reading.{State, emptied, holding, read, refusal}
use Rattle.reader.specs.Records.{record_bytes, record_in}
use Rattle.reader.specs.Steps.{Known, read_record}

-- more bytes are wanted
unfoldable pub is_more : Message → Bool
is_more More = true
is_more Version = false
is_more (Id id) = false
is_more Memory = false
is_more (Vector id count) = false
is_more (Extra id count) = false
is_more (Disconnected id) = false
is_more Closed = false

-- a call's message, left out where more is wanted
unfoldable pub without_more : Message → List Message
without_more m = cond (is_more m) [] (m ∷ [])

-- The progress record has 8 places for bytes, so this holds of every state that can be handed in.
abbrev pub Eight : State → Type 0
Eight s = length s.progress.bytes ≡ 8

-- A piece, read to its end: calls, each on what the one before left of it, until more is wanted. Every other call takes a byte at
-- least (`CallsTake`), so that one call more than there are bytes is enough.
unfoldable pub read_at_most : (calls vectors : ℕ) → State → (piece : List ℕ) → FedOf Message State
read_at_most zero vectors s piece = fed_to s []
read_at_most (suc calls) vectors s piece =
    cond (is_more (read vectors s piece).message) (fed_to (read vectors s piece).state [])
    (fed_to (read_at_most calls vectors (read vectors s piece).state (drop (read vectors s piece).taken piece)).machine
    ((read vectors s piece).message
    ∷ (read_at_most calls vectors (read vectors s piece).state (drop (read vectors s piece).taken piece)).written))

unfoldable pub read_piece : (vectors : ℕ) → State → (piece : List ℕ) → FedOf Message State
read_piece vectors s piece = read_at_most (suc (length piece)) vectors s piece

-- piece after piece
unfoldable pub read_pieces : (vectors : ℕ) → State → (pieces : List (List ℕ)) → FedOf Message State
read_pieces vectors s [] = fed_to s []
read_pieces vectors s (p ∷ ps) =
    fed_to (read_pieces vectors (read_piece vectors s p).machine ps).machine
    ((read_piece vectors s p).written ++ (read_pieces vectors (read_piece vectors s p).machine ps).written)

-- A stream in pieces gives the messages, the progress and the counts that it gives in one piece.
abbrev pub CuttingChangesNothing : Type 0
CuttingChangesNothing =
    (vectors : ℕ) (s : State) (pieces : List (List ℕ)) → Eight s → refusal vectors s ≡ 0
    → read_pieces vectors s pieces ≡ read_piece vectors s (joined pieces)

-- The same of any accepted calls, one after the other, each with any input: `bytes` is all that they took, `messages` their messages.
pub data Calls (vectors : ℕ) : (before : State) (bytes : List ℕ) (messages : List Message) (after : State) → Type 0 where
  none : {s : State} → Calls vectors s [] [] s
  call : {s after : State} {bytes : List ℕ} {messages : List Message} (input : List ℕ)
      → (read vectors s input).number ≡ 0
      → Calls vectors (read vectors s input).state bytes messages after
      → Calls vectors s (take (read vectors s input).taken input ++ bytes) (without_more (read vectors s input).message ++ messages) after

abbrev pub OnlyBytesCount : Type 0
OnlyBytesCount =
    (vectors : ℕ) (s : State) (bytes : List ℕ) (messages₁ messages₂ : List Message) (after₁ after₂ : State) → Eight s
    → Calls vectors s bytes messages₁ after₁ → Calls vectors s bytes messages₂ after₂ → (messages₁ ≡ messages₂) × (after₁ ≡ after₂)

-- one byte, as a call of its own
abbrev pub one_byte : (vectors : ℕ) → State → ℕ → FedOf Message State
one_byte vectors s byte = fed_to (read vectors s (byte ∷ [])).state (without_more (read vectors s (byte ∷ [])).message)

-- Calls come to what their bytes come to one by one;
abbrev pub CallsAreBytes : Type 0
CallsAreBytes =
    (vectors : ℕ) (s : State) (bytes : List ℕ) (messages : List Message) (after : State) → Eight s
    → Calls vectors s bytes messages after → fed_all (one_byte vectors) s bytes ≡ fed_to after messages

-- and every stream can be read, from every state that is not refused.
abbrev pub EveryStreamIsRead : Type 0
EveryStreamIsRead =
    (vectors : ℕ) (s : State) (bytes : List ℕ) → refusal vectors s ≡ 0
    → Calls vectors s bytes (fed_all (one_byte vectors) s bytes).written (fed_all (one_byte vectors) s bytes).machine

-- A call that wants more has taken all of its input, and any other accepted one some of it.
abbrev pub CallsTake : Type 0
CallsTake =
    (vectors : ℕ) (s : State) (input : List ℕ) → (read vectors s input).number ≡ 0
    → ((read vectors s input).taken ≤ length input)
    × (((read vectors s input).message ≡ More → (read vectors s input).taken ≡ length input)
    × (((read vectors s input).message ≡ More → ⊥) → 0 < (read vectors s input).taken))

-- A whole record, byte by byte where none has begun, has one message, with its last byte.
abbrev pub RecordsAreAnswered : Type 0
RecordsAreAnswered =
    (vectors : ℕ) (k : Known) (r : List ℕ) → refusal vectors (emptied k) ≡ 0 → length r ≡ record_bytes
    → fed_all (one_byte vectors) (emptied k) r
    ≡ fed_to (emptied (read_record vectors k (record_in r)).known) ((read_record vectors k (record_in r)).message ∷ [])

-- One that is not whole has none, and its bytes are held.
abbrev pub PartsAreHeld : Type 0
PartsAreHeld =
    (vectors : ℕ) (k : Known) (r : List ℕ) → refusal vectors (emptied k) ≡ 0 → length r < record_bytes
    → fed_all (one_byte vectors) (emptied k) r ≡ fed_to (holding (emptied k) r) []
