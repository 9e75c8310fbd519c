-- C-18: the calls, and when they are refused (R97, R102, R103).
use Rattle.std.specs.Prelude.{ℕ, ◌<◌, Bool, true, cond, not, ◌&&◌, List, [], ◌∷◌, ◌≡◌, Result, Ok, Err, eqb, leb, ltb, length}
use Rattle.common.specs.Lists.{over}
use Rattle.common.specs.Tests.{row, first}
use Rattle.reader.specs.Sizes.{ids, most_vectors}
use Rattle.server.specs.declared.Accepted.{Accepted}
use Rattle.server.specs.declared.refusals.Refusal.{Refusal}
use Rattle.server.specs.declared.refusals.Refusal.TheVariants.{VectorsOutOfRange, NotJoined, StateUnsound, BufferTooSmall, NoneFree}
use Rattle.server.specs.declared.Served.{Served}
use Rattle.server.specs.declared.Server.{Server}
use Rattle.server.specs.declared.Started.{Started}
use Rattle.server.specs.Clients.{is_joined, joined_with, joined_without, clients, lowest_free, Lowest}
use Rattle.server.specs.Messages.{Sent, join_messages, leave_messages, all_bytes, buffer_bytes}

-- R97: the state is the joined ids and the number of vectors
abbrev pub server_of : (joined vectors : ℕ) → Server
server_of joined vectors = record { joined = joined; vectors = vectors }

unfoldable pub in_range : (vectors : ℕ) → Bool
in_range vectors = leb 1 vectors && leb vectors most_vectors

abbrev pub begun : ℕ → Server → Started
begun number s = record { number = number; server = s }

-- the numbers that stand for refusals (R97, R98, R100, R102)
abbrev pub refusal_number : Refusal → ℕ
refusal_number VectorsOutOfRange = 1
refusal_number NotJoined = 4
refusal_number StateUnsound = 10
refusal_number BufferTooSmall = 11
refusal_number NoneFree = 12

-- what C gets for a start, accepted or refused
abbrev pub started_as : Result Server Refusal → Started
started_as (Ok s) = begun 0 s
started_as (Err r) = begun (refusal_number r) (server_of 0 0)

-- R97: nobody is joined; 1 for a number of vectors outside 1 to 16, with a state that every call refuses
unfoldable pub started : (vectors : ℕ) → Started
started vectors = cond (in_range vectors) (begun 0 (server_of 0 vectors)) (begun 1 (server_of 0 0))

-- what a call comes to: 0 or a refusal's number, the id, the messages, and the state
pub record Outcome : Type 0 where
  pub number : ℕ
  pub id : ℕ
  pub sent : List Sent
  pub server : Server

abbrev pub done : ℕ → List Sent → Server → Outcome
done id sent s = record { number = 0; id = id; sent = sent; server = s }

-- R102: a refused call has no messages, and changes nothing
abbrev pub refused_by : ℕ → Server → Outcome
refused_by number s = record { number = number; id = 0; sent = []; server = s }

-- R98, R99: a join takes the lowest free id; 12 where none is free
abbrev pub join_as : Server → ℕ → Outcome
join_as s id = done id (join_messages s.vectors (clients s.joined) id) (server_of (joined_with s.joined id) s.vectors)

unfoldable pub joins : Server → Outcome
joins s = cond (ltb (lowest_free s.joined) ids) (join_as s (lowest_free s.joined)) (refused_by 12 s)

-- R100: a leave frees an id; 4 where it is not joined
abbrev pub leave_as : Server → ℕ → Outcome
leave_as s id =
    done id (leave_messages (clients (joined_without s.joined id)) id) (server_of (joined_without s.joined id) s.vectors)

unfoldable pub leaves : Server → (id : ℕ) → Outcome
leaves s id = cond (is_joined s.joined id) (leave_as s id) (refused_by 4 s)

-- R102: before all else, 10 for a number of vectors outside 1 to 16 (specs/Reached: every other state is left by some history), then 11
-- for a buffer that is too small for the largest join
unfoldable pub refusal : Server → (room : ℕ) → ℕ
refusal s room = first (row 10 (not (in_range s.vectors)) ∷ row 11 (ltb room buffer_bytes) ∷ [])

abbrev pub unless_refused : Server → (room : ℕ) → Outcome → Outcome
unless_refused s room o = cond (eqb (refusal s room) 0) o (refused_by (refusal s room) s)

-- the two calls, whole
unfoldable pub join : Server → (room : ℕ) → Outcome
join s room = unless_refused s room (joins s)

unfoldable pub leave : Server → (id room : ℕ) → Outcome
leave s id room = unless_refused s room (leaves s id)

-- Where neither 10 nor 11 is given, a join that is accepted takes the lowest free id, and 12 is given exactly where all ids are joined.
pub record TakesLowest (s : Server) (o : Outcome) : Type 0 where
  pub taken : o.number ≡ 0 → (o.id < ids) × Lowest s.joined o.id
  pub full : o.number ≡ 12 → (id : ℕ) → id < ids → is_joined s.joined id ≡ true
  pub only : ((id : ℕ) → id < ids → is_joined s.joined id ≡ true) → o.number ≡ 12

abbrev pub JoinsTakeTheLowest : Type 0
JoinsTakeTheLowest = (s : Server) (room : ℕ) → refusal s room ≡ 0 → TakesLowest s (join s room)

-- R103: an answer has the number, the id, how many messages there are, and the state;
abbrev pub answer_of : Outcome → Served
answer_of o = record { number = o.number; id = o.id; messages = length o.sent; server = o.server }

-- what C gets for a call on a state, accepted or refused
abbrev pub served_as : Server → Result Accepted Refusal → Served
served_as s (Ok a) = record { number = 0; id = a.id; messages = a.messages; server = a.server }
served_as s (Err r) = record { number = refusal_number r; id = 0; messages = 0; server = s }

-- the messages stand at the front of the buffer, and the bytes behind them are as they were
pub record Serves (o : Outcome) (before after : List ℕ) (r : Served) : Type 0 where
  pub answer : r ≡ answer_of o
  pub buffer : after ≡ over (all_bytes o.sent) before
