-- How many bytes the messages have, and that the buffer has room for them.
use Prim.Native.Nat.{ℕ, zero, suc, ◌+◌, ◌-◌, ◌*◌, ◌≤◌, ◌<◌}
use mathlib.Core.Bool.{true, false}
use mathlib.Core.List.{List, [], ◌++◌}
use mathlib.Core.Path.{◌≡◌, refl, ap, ◌∙◌}
use native.Mathlib.Nat.{mul-le-mul, mul_assoc}
use native.Mathlib.Numerals.{add-one}
use native.Mathlib.Omega.{arith}
use lib.ListN.{length, replicate, length-append, length-replicate}
use lib.Dec.{leb}
use borrow.Author.Tests.{leb-true}
use Rattle.common.proofs.TestLaws.{and_right, by_equal}
use Rattle.reader.proofs.SizeLaws.{most_vectors_pos}
use Rattle.reader.specs.Sizes.{ids, most_vectors}
use Rattle.server.specs.declared.messages.Message.{Message}
use Rattle.server.specs.declared.notices.Notice.{Notice}
use Rattle.server.proofs.FreeLaws.{at_joined, at_free, below_next, clients_fewer}
use Rattle.server.proofs.ListLaws.{each_append, each_one, each_length}
use Rattle.server.proofs.MessageLaws.{written_ten}
use Rattle.server.specs.Clients.{is_joined, joined_at, joined_below, clients}
use Rattle.common.specs.Bytes.{bytes}
use Rattle.server.specs.Messages.{each_of, bytes_of, sent_bytes, most_sent, buffer_bytes}
use Rattle.server.specs.declared.messages.Said.TheVariants.{Vector}
use Rattle.server.specs.declared.notices.Notice.TheVariants.{ToJoiner, OfJoiner, OfLeaver}
use Rattle.server.specs.Parts.{message_of, written, written_times, notice_times, notice_bytes, notices_bytes, start_bytes, join_bytes}
use Rattle.server.specs.Serving.{in_range}

pub times_length : (n : ℕ) (m : Message) → length (written_times n m) ≡ 10 * n
times_length n m = each_length written 10 written_ten (replicate n m) ∙ rw (length-replicate n m)

pub notices_length : (n : Notice) (to : List ℕ) → length (notices_bytes n to) ≡ 10 * (notice_times n * length to)
notices_length n to =
    each_length (notice_bytes n) (10 * notice_times n) (λ client. times_length (notice_times n) _) to
    ∙ mul_assoc 10 (notice_times n) (length to)

-- the number of vectors that is in its range
pub vectors_few : (vectors : ℕ) → in_range vectors ≡ true → vectors ≤ most_vectors
unfolding in_range
vectors_few vectors e = leb-true vectors most_vectors (and_right (leb 1 vectors) (leb vectors most_vectors) e)

-- the first of the four parts of a join, and all
pub start_length : (id : ℕ) → 30 ≡ length (start_bytes id)
unfolding each_of sent_bytes bytes_of bytes
start_length id = refl

pub join_length : (joined id vectors : ℕ)
    → length (join_bytes joined id vectors)
    ≡ 30
    + length (notices_bytes (ToJoiner id vectors) (clients joined))
    + 10 * vectors
    + length (notices_bytes (OfJoiner id vectors) (clients joined))
unfolding each_of sent_bytes bytes_of bytes
join_length joined id vectors = rw (length-append, length-append, length-append, times_length vectors (message_of id (Vector id)))

module _ (joined id vectors : ℕ) (h : id < ids) (free : is_joined joined id ≡ false) (range : in_range vectors ≡ true) where
  pub join_room : length (join_bytes joined id vectors) ≤ buffer_bytes
  unfolding buffer_bytes most_sent notice_times
  join_room =
      let most : vectors * length (clients joined) ≤ most_vectors * (ids - 1) =
      mul-le-mul (vectors_few vectors range) (clients_fewer joined id h free) in
      rw (
        join_length joined id vectors,
        notices_length (ToJoiner id vectors) (clients joined),
        notices_length (OfJoiner id vectors) (clients joined),
      ) (omega (arith, vectors_few vectors range))

pub leave_room : (joined id : ℕ) → id < ids → is_joined joined id ≡ false
    → length (notices_bytes (OfLeaver id) (clients joined)) ≤ buffer_bytes
unfolding buffer_bytes most_sent notice_times
leave_room joined id h free =
    let most : 1 * length (clients joined) ≤ most_vectors * (ids - 1) = mul-le-mul most_vectors_pos (clients_fewer joined id h free) in
    rw (notices_length (OfLeaver id) (clients joined)) (omega arith)

-- a notice, client after client
module _ (n : Notice) (joined : ℕ) where
  pub notice_one : (client : ℕ) → is_joined joined client ≡ true → notices_bytes n (joined_at joined client) ≡ notice_bytes n client
  notice_one client e = rw (at_joined joined client e) (each_one (notice_bytes n) client)

  pub notice_none : (client : ℕ) → is_joined joined client ≡ false → notices_bytes n (joined_at joined client) ≡ []
  unfolding each_of
  notice_none client e = rw (at_free joined client e)

  pub notices_next : (k : ℕ)
      → notices_bytes n (joined_below (k + 1) joined) ≡ notices_bytes n (joined_below k joined) ++ notices_bytes n (joined_at joined k)
  notices_next k = rw (add-one k, below_next joined k) (each_append (notice_bytes n) (joined_below k joined) (joined_at joined k))

  -- there is room for the next one
  within : (k m : ℕ) → k ≤ m → length (notices_bytes n (joined_below k joined)) ≤ length (notices_bytes n (joined_below m joined))
  within k zero l = let e : k ≡ 0 = omega arith in rw e (omega arith)
  within k (suc m) l =
      by_equal k (suc m) (λ e. rw e (omega arith))
      (λ o.
      let more : length (notices_bytes n (joined_below (suc m) joined))
      ≡ length (notices_bytes n (joined_below m joined)) + length (notices_bytes n (joined_at joined m)) =
      rw (← add-one m)
      (ap length (notices_next m) ∙ length-append (notices_bytes n (joined_below m joined)) (notices_bytes n (joined_at joined m))) in
      omega (arith, within k m (omega arith)))

  pub notices_room : (k : ℕ) → k < ids
      → length (notices_bytes n (joined_below k joined)) + length (notices_bytes n (joined_at joined k))
      ≤ length (notices_bytes n (clients joined))
  notices_room k l =
      rw (length-append (notices_bytes n (joined_below k joined)) (notices_bytes n (joined_at joined k))) at
      (rw (notices_next k) at (within (k + 1) ids (omega arith)))
