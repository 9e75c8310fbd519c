-- What the parts of the code promise each other.
use Rattle.std.specs.Prelude.{ℕ, ◌+◌, ◌*◌, ◌≤◌, List, [], ◌∷◌, ◌++◌, ◌≡◌, length, replicate}
use Rattle.std.proofs.lemmas.List.Edits.{sets}
use Rattle.reader.specs.Records.{Record}
use Rattle.server.specs.declared.messages.Message.{Message}
use Rattle.server.specs.declared.messages.Said.{Said}
use Rattle.server.specs.declared.messages.Said.TheVariants.{Version, Id, Memory, Vector, Gone}
use Rattle.server.specs.declared.messages.Writer.{Writer}
use Rattle.server.specs.declared.notices.Notice.{Notice}
use Rattle.server.specs.declared.notices.Notice.TheVariants.{ToJoiner, OfJoiner, OfLeaver}
use Rattle.server.specs.Clients.{clients}
use Rattle.server.specs.Messages.{to, each_of, version, own_id, memory, vector_of, has_left, sent_bytes}

-- the record that says it
abbrev pub record_of_said : Said → Record
record_of_said Version = version
record_of_said (Id id) = own_id id
record_of_said Memory = memory
record_of_said (Vector id) = vector_of id
record_of_said (Gone id) = has_left id

abbrev pub message_of : (client : ℕ) → Said → Message
message_of client said = record { client = client; said = said }

-- the bytes that the code writes for a message, for one to a client, and for the same several times
abbrev pub written : Message → List ℕ
written m = sent_bytes (to m.client (record_of_said m.said))

abbrev pub written_to : (client : ℕ) → Said → List ℕ
written_to client said = written (message_of client said)

abbrev pub written_times : ℕ → Message → List ℕ
written_times n m = each_of written (replicate n m)

-- what a notice comes to for one other client: so many times the same message
unfoldable pub notice_times : Notice → ℕ
notice_times (ToJoiner joiner vectors) = vectors
notice_times (OfJoiner joiner vectors) = vectors
notice_times (OfLeaver leaver) = 1

unfoldable pub notice_to : Notice → (client : ℕ) → Message
notice_to (ToJoiner joiner vectors) client = message_of joiner (Vector client)
notice_to (OfJoiner joiner vectors) client = message_of client (Vector joiner)
notice_to (OfLeaver leaver) client = message_of client (Gone leaver)

-- its bytes for one client, and for several
abbrev pub notice_bytes : Notice → (client : ℕ) → List ℕ
notice_bytes n client = written_times (notice_times n) (notice_to n client)

abbrev pub notices_bytes : Notice → List ℕ → List ℕ
notices_bytes n to = each_of (notice_bytes n) to

-- the bytes of a join: the first three messages, the vectors of the other clients, the joiner's own, and these for the others
abbrev pub start_bytes : (id : ℕ) → List ℕ
start_bytes id = each_of (written_to id) (Version ∷ Id id ∷ Memory ∷ [])

abbrev pub join_bytes : (joined id vectors : ℕ) → List ℕ
join_bytes joined id vectors =
    start_bytes id
    ++ notices_bytes (ToJoiner id vectors) (clients joined)
    ++ written_times vectors (message_of id (Vector id))
    ++ notices_bytes (OfJoiner id vectors) (clients joined)

-- there is room for these bytes behind the messages that are written
abbrev pub HasRoom : Writer → List ℕ → Type 0
HasRoom w bytes = 10 * w.messages + length bytes ≤ length w.out.now

-- these bytes, whole messages, are written behind those before, into the same buffer
pub record Writes (before after : Writer) (bytes : List ℕ) : Type 0 where
  pub out : after.out.now ≡ sets before.out.now (10 * before.messages) bytes
  pub messages : 10 * after.messages ≡ 10 * before.messages + length bytes
  pub same : after.out.ghost_name ≡ before.out.ghost_name
