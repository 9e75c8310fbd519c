-- C-18 with C-17: what a reader makes of the records that one client is sent (R104 to R106).
use Rattle.std.specs.Prelude.{ℕ, ◌≤◌, Bool, true, false, cond, not, ◌&&◌, List, [], ◌∷◌, ◌++◌, ◌≡◌, eqb, length}
use Rattle.common.specs.Lists.{tabulate}
use Rattle.common.specs.Streams.{fed_to, joined}
use Rattle.reader.specs.declared.Message.{Message}
use Rattle.reader.specs.declared.Message.TheVariants.{More, Version, Id, Memory, Vector, Extra, Disconnected, Closed}
use Rattle.reader.specs.Cutting.{Calls, read_pieces}
use Rattle.reader.specs.Reading.{State, emptied, start}
use Rattle.reader.specs.Records.{Record}
use Rattle.reader.specs.Sizes.{ids, most_vectors}
use Rattle.reader.specs.Steps.{known, peers_due}
use Rattle.server.specs.declared.Server.{Server}
use Rattle.server.specs.Clients.{is_joined, clients}
use Rattle.server.specs.Messages.{Sent, each_of, bytes_of, to_joiner}
use Rattle.server.specs.Serving.{Outcome, started, join, leave}

-- the calls of a history, with the room of the buffer that is lent: a client joins, or the client with this id leaves. There may be
-- refused ones among them.
pub data Act : Type 0 where
  joining : (room : ℕ) → Act
  leaving : (id room : ℕ) → Act

abbrev pub outcome : Act → Server → Outcome
outcome (joining room) s = join s room
outcome (leaving id room) s = leave s id room

-- the records for one client, in their order
unfoldable pub records_for : (client : ℕ) → List Sent → List Record
records_for client [] = []
records_for client (m ∷ ms) = cond (eqb m.client client) (m.said ∷ records_for client ms) (records_for client ms)

-- What has become of one client: the server's state, the records for the client since it joined last, and the ids that were joined
-- after the last call after which the client was joined.
pub record Seen : Type 0 where
  pub server : Server
  pub heard : List Record
  pub peers : ℕ

abbrev pub is_there : (client : ℕ) → Server → Bool
is_there client s = is_joined s.joined client

-- one call more: where the client joins by it, its records begin anew
unfoldable pub next : (client : ℕ) → Seen → Outcome → Seen
next client v o =
    record {
      server = o.server;
      heard = cond (not (is_there client v.server) && is_there client o.server) [] v.heard ++ records_for client o.sent;
      peers = cond (is_there client o.server) o.server.joined v.peers;
    }

unfoldable pub seen_from : (client : ℕ) → Seen → List Act → Seen
seen_from client v [] = v
seen_from client v (a ∷ later) = seen_from client (next client v (outcome a v.server)) later

-- a history from the start
abbrev pub seen : (vectors client : ℕ) → List Act → Seen
seen vectors client history = seen_from client (record { server = (started vectors).server; heard = []; peers = 0 }) history

-- the bytes of records, as a reader takes them
unfoldable pub stream : List Record → List ℕ
stream records = each_of bytes_of records

-- a reader that knows its own id and exactly these peers, each with all its vectors, and holds nothing
unfoldable pub counts_of : (vectors peers : ℕ) → List ℕ
counts_of vectors peers = tabulate ids (λ id. cond (is_joined peers id) vectors 0)

abbrev pub knows : (vectors client peers : ℕ) → State
knows vectors client peers = emptied (known peers_due client (counts_of vectors peers))

-- a message that accepts its record: not extra, not closed, and not that more is wanted
unfoldable pub is_plain : Message → Bool
is_plain More = false
is_plain Version = true
is_plain (Id id) = true
is_plain Memory = true
is_plain (Vector id count) = true
is_plain (Extra id count) = false
is_plain (Disconnected id) = true
is_plain Closed = false

unfoldable pub all_plain : List Message → Bool
all_plain [] = true
all_plain (m ∷ ms) = is_plain m && all_plain ms

-- A fresh reader with as many vectors is handed the records, cut in any way: it answers each with one message, none of them extra or
-- closed, and then knows these peers. Accepted calls take all of the bytes. (`joined pieces` is the pieces one after the other, and no
-- set of ids.)
pub record Follows (vectors client : ℕ) (v : Seen) : Type 0 where
  pub messages : List Message
  pub one : length messages ≡ length v.heard
  pub plain : all_plain messages ≡ true
  pub cut : (pieces : List (List ℕ)) → joined pieces ≡ stream v.heard
      → read_pieces vectors start pieces ≡ fed_to (knows vectors client v.peers) messages
  pub calls : Calls vectors start (stream v.heard) messages (knows vectors client v.peers)

-- R104: so it is of each client that was joined at some time, whatever comes later:
abbrev pub ReadersFollow : Type 0
ReadersFollow =
    (vectors client : ℕ) (before later : List Act) → 1 ≤ vectors → vectors ≤ most_vectors
    → is_there client (seen vectors client before).server ≡ true → Follows vectors client (seen vectors client (before ++ later))

-- while it is joined its peers are the ids that are joined now,
abbrev pub PeersAreNow : Type 0
PeersAreNow =
    (vectors client : ℕ) (history : List Act) → is_there client (seen vectors client history).server ≡ true
    → (seen vectors client history).peers ≡ (seen vectors client history).server.joined

-- and a call after which it is not joined, that by which it leaves and every later one, leaves its peers and its records as they were.
pub record Keeps (before after : Seen) : Type 0 where
  pub heard : after.heard ≡ before.heard
  pub peers : after.peers ≡ before.peers

abbrev pub LeaversKeep : Type 0
LeaversKeep =
    (client : ℕ) (v : Seen) (a : Act) → is_there client (outcome a v.server).server ≡ false
    → Keeps v (next client v (outcome a v.server))

-- R105: such a call has no record for the client at all.
abbrev pub LeaversHearNothing : Type 0
LeaversHearNothing =
    (client : ℕ) (s : Server) (a : Act) → is_there client (outcome a s).server ≡ false → records_for client (outcome a s).sent ≡ []

-- R106: a client that joins, with a freed id or with another, is told what every joiner is told, by the number of vectors and by who
-- is joined alone.
abbrev pub JoinersStartAfresh : Type 0
JoinersStartAfresh =
    (client : ℕ) (s : Server) (a : Act) → is_there client s ≡ false → is_there client (outcome a s).server ≡ true
    → records_for client (outcome a s).sent ≡ to_joiner s.vectors (clients s.joined) client
