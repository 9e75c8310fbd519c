-- The bytes that the code writes are those of the messages.
use Prim.Native.Nat.{ℕ, zero, suc, ◌+◌, ◌*◌}
use mathlib.Core.List.{List, [], ◌∷◌, ◌++◌}
use mathlib.Core.Path.{◌≡◌, refl, ◌∙◌}
use native.Mathlib.Omega.{arith}
use lib.ListN.{length}
use lib.Seq.{take_at, drop-append-add}
use Rattle.common.specs.Bytes.{bytes}
use Rattle.reader.specs.Records.{Record}
use Rattle.server.proofs.ListLaws.{each_append, each_map, each_each, each_alike, each_same, each_length}
use Rattle.server.specs.Clients.{clients}
use Rattle.server.specs.Messages.{Sent, to, all_to, each_of, vector_of, vectors_of, has_left, to_joiner, to_others}
use Rattle.server.specs.Messages.{join_messages, leave_messages, bytes_of, sent_bytes, all_bytes, MessagesStandInTens}
use Rattle.server.specs.declared.messages.Said.TheVariants.{Vector, Gone}
use Rattle.server.specs.declared.notices.Notice.TheVariants.{ToJoiner, OfJoiner, OfLeaver}
use Rattle.server.specs.declared.messages.Message.{Message}
use Rattle.server.specs.Parts.{record_of_said, message_of, written, written_times, notice_times, notice_to, notice_bytes, notices_bytes, start_bytes, join_bytes}

-- each of the ten bytes
pub sent_ten : (m : Sent) → length (sent_bytes m) ≡ 10
unfolding sent_bytes bytes_of bytes
sent_ten m = refl

pub written_ten : (m : Message) → length (written m) ≡ 10
written_ten m = sent_ten (to m.client (record_of_said m.said))

pub all_length : (sent : List Sent) → length (all_bytes sent) ≡ 10 * length sent
unfolding all_bytes
all_length sent = each_length sent_bytes 10 sent_ten sent

all_append : (xs ys : List Sent) → all_bytes (xs ++ ys) ≡ all_bytes xs ++ all_bytes ys
unfolding all_bytes
all_append xs ys = each_append sent_bytes xs ys

pub messages_stand_in_tens : MessagesStandInTens
unfolding all_bytes each_of
messages_stand_in_tens [] k m h = absurd (omega arith)
messages_stand_in_tens (x ∷ sent) zero m h = take_at (sent_bytes x) (all_bytes sent) 10 (sent_ten x)
messages_stand_in_tens (x ∷ sent) (suc k) m h =
    let n : 10 * suc k ≡ length (sent_bytes x) + 10 * k = rw (sent_ten x) (omega arith) in
    rw (n, drop-append-add (sent_bytes x) (all_bytes sent) (10 * k)) (messages_stand_in_tens sent k m (omega arith))

-- the vectors of an id for a client, one notice of two
module _ (vectors id : ℕ) where
  vectors_to : (client : ℕ) → each_of sent_bytes (all_to client (vectors_of vectors id)) ≡ written_times vectors (message_of client (Vector id))
  vectors_to client =
      each_map sent_bytes (to client) (vectors_of vectors id)
      ∙ each_alike (λ r. sent_bytes (to client r)) written (vector_of id) (message_of client (Vector id)) refl vectors

  others_bytes : (others : List ℕ) → all_bytes (to_others vectors others id) ≡ notices_bytes (OfJoiner id vectors) others
  unfolding all_bytes to_others notice_to notice_times
  others_bytes others =
      each_each sent_bytes (λ other. all_to other (vectors_of vectors id)) others
      ∙ each_same (λ other. each_of sent_bytes (all_to other (vectors_of vectors id))) (notice_bytes (OfJoiner id vectors)) vectors_to others

-- a record for the joiner
abbrev to_one : ℕ → Record → List ℕ
to_one id r = sent_bytes (to id r)

module _ (vectors joined id : ℕ) where
  -- the vectors of the others, for the joiner
  known_bytes : each_of (to_one id) (each_of (vectors_of vectors) (clients joined)) ≡ notices_bytes (ToJoiner id vectors) (clients joined)
  unfolding notice_to notice_times
  known_bytes =
      each_each (to_one id) (vectors_of vectors) (clients joined)
      ∙ each_same (λ other. each_of (to_one id) (vectors_of vectors other)) (notice_bytes (ToJoiner id vectors))
      (λ other. each_alike (to_one id) written (vector_of other) (message_of id (Vector other)) refl vectors) (clients joined)

  own_bytes : each_of (to_one id) (vectors_of vectors id) ≡ written_times vectors (message_of id (Vector id))
  own_bytes = each_alike (to_one id) written (vector_of id) (message_of id (Vector id)) refl vectors

  joiner_bytes : all_bytes (all_to id (to_joiner vectors (clients joined) id))
      ≡ start_bytes id ++ notices_bytes (ToJoiner id vectors) (clients joined) ++ written_times vectors (message_of id (Vector id))
  unfolding all_bytes to_joiner each_of sent_bytes bytes_of bytes
  joiner_bytes =
      each_map sent_bytes (to id) (to_joiner vectors (clients joined) id)
      ∙ rw (
        each_append (to_one id) (each_of (vectors_of vectors) (clients joined)) (vectors_of vectors id),
        known_bytes,
        own_bytes,
      )

  pub join_bytes_lem : all_bytes (join_messages vectors (clients joined) id) ≡ join_bytes joined id vectors
  unfolding join_messages
  join_bytes_lem =
      all_append (all_to id (to_joiner vectors (clients joined) id)) (to_others vectors (clients joined) id)
      ∙ rw (joiner_bytes, others_bytes vectors id (clients joined))

-- who left, for each that stays
pub leave_bytes : (joined id : ℕ) → all_bytes (leave_messages (clients joined) id) ≡ notices_bytes (OfLeaver id) (clients joined)
unfolding all_bytes leave_messages notice_to notice_times
leave_bytes joined id =
    each_each sent_bytes (λ other. to other (has_left id) ∷ []) (clients joined)
    ∙ each_same (λ other. each_of sent_bytes (to other (has_left id) ∷ [])) (notice_bytes (OfLeaver id))
    (λ other. each_alike sent_bytes written (to other (has_left id)) (message_of other (Gone id)) refl 1) (clients joined)
