-- Histories worked through: what each call answers, the room that it wants, and the bytes of a join and a leave.
use Prim.Native.Nat.{ℕ, ◌+◌, ◌-◌, ◌*◌, ◌^◌}
use mathlib.Core.List.{List, [], ◌∷◌, ◌++◌, map}
use mathlib.Core.Path.{◌≡◌, refl}
use lib.ListN.{length, replicate}
use Rattle.common.specs.Bytes.{bytes}
use Rattle.common.specs.Lists.{tabulate}
use Rattle.common.specs.Tests.{first}
use Rattle.reader.specs.Sizes.{ids, most_vectors}
use Rattle.server.specs.declared.Server.{Server}
use Rattle.server.specs.declared.Started.{Started}
use Rattle.server.specs.Clients.{is_joined, joined_at, joined_below, free_from, lowest_free}
use Rattle.server.specs.Histories.{Act, joining, leaving, outcome}
use Rattle.server.specs.Messages.{each_of, to_joiner, to_others, join_messages, leave_messages, unsigned, bytes_of, sent_bytes}
use Rattle.server.specs.Messages.{all_bytes, most_sent, buffer_bytes}
use Rattle.server.specs.Serving.{Outcome, server_of, in_range, started, joins, leaves, refusal, join, leave, answer_of}

-- an answer: the number, the id, how many messages there are, and who is joined then
abbrev row : (number id messages joined : ℕ) → List ℕ
row number id messages joined = number ∷ id ∷ messages ∷ joined ∷ []

abbrev row_of : Outcome → List ℕ
row_of o = row (answer_of o).number (answer_of o).id (answer_of o).messages (answer_of o).server.joined

pub rows : Server → List Act → List (List ℕ)
rows s [] = []
rows s (a ∷ later) = row_of (outcome a s) ∷ rows (outcome a s).server later

-- the first join and three more; of two holes the lower is taken first; ids that are not joined, and a buffer that is too small; all
-- leave, and one comes back
abbrev joins_in : Act
joins_in = joining 20350

abbrev leaves_in : ℕ → Act
leaves_in id = leaving id 20350

pub tried : List Act
tried =
    joins_in ∷ joins_in ∷ joins_in ∷ joins_in
    ∷ leaves_in 2 ∷ leaves_in 1 ∷ joins_in ∷ joins_in
    ∷ leaves_in 4 ∷ leaves_in 64 ∷ joining 20349 ∷ leaving 0 20349
    ∷ leaves_in 0 ∷ leaves_in 1 ∷ leaves_in 3 ∷ leaves_in 2 ∷ leaves_in 2 ∷ joins_in
    ∷ []

pub few_clients : rows (server_of 0 1) tried
    ≡ row 0 0 4 0x1 ∷ row 0 1 6 0x3 ∷ row 0 2 8 0x7 ∷ row 0 3 10 0xF
    ∷ row 0 2 3 0xB ∷ row 0 1 2 0x9 ∷ row 0 1 8 0xB ∷ row 0 2 10 0xF
    ∷ row 4 0 0 0xF ∷ row 4 0 0 0xF ∷ row 11 0 0 0xF ∷ row 11 0 0 0xF
    ∷ row 0 0 3 0xE ∷ row 0 1 2 0xC ∷ row 0 3 1 0x4 ∷ row 0 2 0 0x0 ∷ row 4 0 0 0x0 ∷ row 0 0 4 0x1
    ∷ []
unfolding tried rows join leave refusal first in_range most_vectors buffer_bytes most_sent joins leaves lowest_free free_from is_joined ids join_messages to_joiner to_others leave_messages each_of joined_below joined_at
few_clients = refl

-- 64 joins, and one more
pub all_clients : rows (server_of 0 1) (replicate 65 joins_in)
    ≡ tabulate 64 (λ k. row 0 k (4 + 2 * k) (2 ^ (k + 1) - 1)) ++ row 12 0 0 (2 ^ 64 - 1) ∷ []
unfolding rows join leave refusal first in_range most_vectors buffer_bytes most_sent joins lowest_free free_from is_joined ids join_messages to_joiner to_others each_of joined_below joined_at tabulate
all_clients = refl

-- the largest join fills the buffer
pub largest : Outcome
largest = joins (server_of (2 ^ 63 - 1) 16)

pub largest_join : row_of largest ≡ row 0 63 2035 (2 ^ 64 - 1)
unfolding largest joins lowest_free free_from is_joined ids join_messages to_joiner to_others each_of joined_below joined_at
largest_join = refl

pub largest_bytes : length (all_bytes largest.sent) ≡ 20350
unfolding largest joins lowest_free free_from is_joined ids join_messages to_joiner to_others each_of joined_below joined_at all_bytes sent_bytes bytes_of
    unsigned bytes
largest_bytes = refl

-- the numbers of both calls: the room, whatever the number of vectors, and first the number of vectors; then whether an id is free
pub numbers : Server → (id room : ℕ) → List ℕ
numbers s id room = (join s room).number ∷ (leave s id room).number ∷ []

pub refusals :
    numbers (server_of 1 1) 0 20349 ∷ numbers (server_of 1 1) 0 20350 ∷ numbers (server_of 1 16) 0 20349 ∷ numbers (server_of 1 16) 0 20350
    ∷ numbers (server_of 1 0) 0 20350 ∷ numbers (server_of 1 17) 0 0 ∷ numbers (server_of (2 ^ 64 - 1) 16) 64 20349
    ∷ numbers (server_of (2 ^ 64 - 1) 16) 64 20350 ∷ numbers (server_of 0 16) 0 20350 ∷ []
    ≡ (11 ∷ 11 ∷ []) ∷ (0 ∷ 0 ∷ []) ∷ (11 ∷ 11 ∷ []) ∷ (0 ∷ 0 ∷ [])
    ∷ (10 ∷ 10 ∷ []) ∷ (10 ∷ 10 ∷ []) ∷ (11 ∷ 11 ∷ [])
    ∷ (12 ∷ 4 ∷ []) ∷ (0 ∷ 4 ∷ []) ∷ []
unfolding numbers join leave joins leaves refusal first in_range most_vectors buffer_bytes most_sent lowest_free free_from is_joined ids
refusals = refl

-- a start: the number, who is joined, and the number of vectors
abbrev start_row : Started → List ℕ
start_row s = s.number ∷ s.server.joined ∷ s.server.vectors ∷ []

pub starts : map (λ vectors. start_row (started vectors)) (0 ∷ 1 ∷ 16 ∷ 17 ∷ [])
    ≡ (1 ∷ 0 ∷ 0 ∷ []) ∷ (0 ∷ 0 ∷ 1 ∷ []) ∷ (0 ∷ 0 ∷ 16 ∷ []) ∷ (1 ∷ 0 ∷ 0 ∷ []) ∷ []
unfolding started in_range most_vectors
starts = refl

-- the bytes of a join with two vectors between two others, and of a leave
abbrev ten : (client kind number : ℕ) → List ℕ
ten client kind number = client ∷ kind ∷ number ∷ 0 ∷ 0 ∷ 0 ∷ 0 ∷ 0 ∷ 0 ∷ 0 ∷ []

pub join_written : all_bytes (joins (server_of 5 2)).sent
    ≡ ten 1 0 0
    ++ ten 1 0 1
    ++ (1 ∷ 1 ∷ 255 ∷ 255 ∷ 255 ∷ 255 ∷ 255 ∷ 255 ∷ 255 ∷ 255 ∷ [])
    ++ ten 1 1 0
    ++ ten 1 1 0
    ++ ten 1 1 2
    ++ ten 1 1 2
    ++ ten 1 1 1
    ++ ten 1 1 1
    ++ ten 0 1 1
    ++ ten 0 1 1
    ++ ten 2 1 1
    ++ ten 2 1 1
unfolding joins lowest_free free_from is_joined ids join_messages to_joiner to_others each_of joined_below joined_at all_bytes sent_bytes bytes_of unsigned
    bytes
join_written = refl

pub leave_written : all_bytes (leaves (server_of 7 2) 1).sent ≡ ten 0 0 1 ++ ten 2 0 1
unfolding leaves is_joined ids leave_messages each_of joined_below joined_at all_bytes sent_bytes bytes_of unsigned bytes
leave_written = refl
