-- C-18: the messages of a join and of a leave (R99, R100), and their bytes (R101).
use Rattle.std.specs.Prelude.{ℕ, ◌+◌, ◌-◌, ◌*◌, ◌<◌, ◌^◌, List, [], ◌∷◌, ◌++◌, map, ◌≡◌, ℤ, pos, negsuc, length, take, drop, get_or, replicate}
use Rattle.common.specs.Bytes.{bytes}
use Rattle.reader.specs.Records.{Record, record_of, record_in}
use Rattle.reader.specs.Sizes.{ids, most_vectors}

-- a record for a client
pub record Sent : Type 0 where
  pub client : ℕ
  pub said : Record

abbrev pub to : ℕ → Record → Sent
to client said = record { client = client; said = said }

abbrev pub all_to : ℕ → List Record → List Sent
all_to client records = map (to client) records

-- what a list has for each of its elements, one after the other
unfoldable pub each_of : {A B : Type 0} → (A → List B) → List A → List B
each_of f [] = []
each_of f (x ∷ xs) = f x ++ each_of f xs

-- What is said without a descriptor: the version, the client's own id, the id of one that has left. With one: the memory, a vector.
abbrev pub version : Record
version = record_of 0 (pos 0)

abbrev pub own_id : ℕ → Record
own_id id = record_of 0 (pos id)

abbrev pub memory : Record
memory = record_of 1 (negsuc 0)

abbrev pub vector_of : ℕ → Record
vector_of id = record_of 1 (pos id)

abbrev pub has_left : ℕ → Record
has_left id = record_of 0 (pos id)

-- as many as there are vectors
abbrev pub vectors_of : (vectors id : ℕ) → List Record
vectors_of vectors id = replicate vectors (vector_of id)

-- R99: the joiner is told the version, its own id, the memory, each other client's vectors, and then its own;
unfoldable pub to_joiner : (vectors : ℕ) (others : List ℕ) (id : ℕ) → List Record
to_joiner vectors others id = version ∷ own_id id ∷ memory ∷ (each_of (vectors_of vectors) others ++ vectors_of vectors id)

-- then each other client is told the joiner's vectors
unfoldable pub to_others : (vectors : ℕ) (others : List ℕ) (id : ℕ) → List Sent
to_others vectors others id = each_of (λ other. all_to other (vectors_of vectors id)) others

unfoldable pub join_messages : (vectors : ℕ) (others : List ℕ) (id : ℕ) → List Sent
join_messages vectors others id = all_to id (to_joiner vectors others id) ++ to_others vectors others id

-- R100: each client that stays is told who left
unfoldable pub leave_messages : (others : List ℕ) (id : ℕ) → List Sent
leave_messages others id = each_of (λ other. to other (has_left id) ∷ []) others

-- R101: the 64 bits of a number in two's complement, a record's nine bytes, and a message's ten
unfoldable pub unsigned : ℤ → ℕ
unsigned (pos n) = n
unsigned (negsuc n) = 2 ^ 64 - 1 - n

unfoldable pub bytes_of : Record → List ℕ
bytes_of r = r.kind ∷ bytes 8 (unsigned r.value)

-- C-17 reads it back, where its number is one of 64 bits.
abbrev pub In64Bits : ℤ → Type 0
In64Bits (pos n) = n < 2 ^ 63
In64Bits (negsuc n) = n < 2 ^ 63

abbrev pub RecordsComeBack : Type 0
RecordsComeBack = (r : Record) → In64Bits r.value → record_in (bytes_of r) ≡ r

unfoldable pub sent_bytes : Sent → List ℕ
sent_bytes m = m.client ∷ bytes_of m.said

unfoldable pub all_bytes : List Sent → List ℕ
all_bytes sent = each_of sent_bytes sent

-- Each message stands in its ten bytes.
abbrev pub MessagesStandInTens : Type 0
MessagesStandInTens =
    (sent : List Sent) (k : ℕ) (m : Sent) → k < length sent → take 10 (drop (10 * k) (all_bytes sent)) ≡ sent_bytes (get_or sent k m)

-- R101: the buffer has room for the largest join: the first three, the vectors of all other ids, the joiner's own, and these again for
-- each other id
unfoldable pub most_sent : ℕ
most_sent = 3 + most_vectors * (ids - 1) + most_vectors + most_vectors * (ids - 1)

unfoldable pub buffer_bytes : ℕ
buffer_bytes = 10 * most_sent
