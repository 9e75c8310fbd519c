-- The calls by their cases, and what an accepted or a refused one leaves.
use Prim.Native.Nat.{ℕ, ◌*◌, ◌≤◌, ◌<◌}
use mathlib.Core.Bool.{true, false, not, true≢false}
use mathlib.Core.List.{List, [], ◌∷◌}
use mathlib.Core.Path.{◌≡◌, refl, sym, ap, ◌∙◌}
use native.Mathlib.Omega.{arith}
use lib.Dec.{ltb}
use lib.ListN.{length}
use lib.Seq.{sets}
use borrow.Author.Tests.{eq-eqb, ne_eqb, lt-ltb, le-ltb, ltb-false, le-leb, not-false}
use Rattle.common.proofs.TestLaws.{first_zero, by_equal}
use Rattle.common.specs.Lists.{over}
use Rattle.common.specs.Tests.{row, first}
use Rattle.reader.proofs.ReadLaws.{by_bool, by_less}
use Rattle.reader.specs.Sizes.{ids, most_vectors}
use Rattle.std.specs.Prelude.{Err}
use Rattle.server.specs.declared.refusals.Refusal.{Refusal}
use Rattle.server.specs.declared.refusals.Refusal.TheVariants.{VectorsOutOfRange, NotJoined, StateUnsound, BufferTooSmall, NoneFree}
use Rattle.server.specs.declared.Server.{Server}
use Rattle.server.proofs.FreeLaws.{lowest_is_free}
use Rattle.server.proofs.MessageLaws.{all_length}
use Rattle.server.proofs.SetsLaws.{sets_over}
use Rattle.server.specs.Clients.{is_joined, lowest_free}
use Rattle.server.specs.Messages.{Sent, each_of, all_bytes, buffer_bytes}
use Rattle.server.specs.Serving.{Outcome, server_of, in_range, started, done, refused_by, join_as, joins, TakesLowest, JoinsTakeTheLowest, leave_as, leaves, refusal_number, served_as, refusal, join, leave, answer_of, Serves}

-- a start: nobody is joined, and the number of vectors is the one that it was handed, if that is in its range
pub nobody : (vectors : ℕ) → (started vectors).server.joined ≡ 0
unfolding started
nobody vectors = by_bool (in_range vectors) (λ e. rw e) (λ e. rw e)

pub started_in : (vectors : ℕ) → in_range vectors ≡ true → (started vectors).server ≡ server_of 0 vectors
unfolding started
started_in vectors e = rw e

-- it is accepted exactly where that is in its range
pub range_accepted : (vectors : ℕ) → in_range vectors ≡ true → (started vectors).number ≡ 0
unfolding started
range_accepted vectors e = rw e

pub accepted_range : (vectors : ℕ) → (started vectors).number ≡ 0 → in_range vectors ≡ true
unfolding started
accepted_range vectors z =
    by_bool (in_range vectors) (λ e. e) (λ e. let one : (started vectors).number ≡ 1 = rw e in absurd (omega (arith, one, z)))

pub started_vectors : (vectors : ℕ) → 1 ≤ vectors → vectors ≤ most_vectors → (started vectors).server.vectors ≡ vectors
unfolding in_range
started_vectors vectors some most =
    ap (λ (s : Server). s.vectors) (started_in vectors (rw (le-leb 1 vectors some, le-leb vectors most_vectors most)))

-- so many messages, whose bytes were stored from the front
pub serves_done : (id : ℕ) (sent : List Sent) (s : Server) (bytes before after : List ℕ) (n : ℕ) → all_bytes sent ≡ bytes
    → length bytes ≤ length before → after ≡ sets before 0 bytes → 10 * n ≡ length bytes
    → Serves (done id sent s) before after (record { number = 0; id = id; messages = n; server = s })
serves_done id sent s bytes before after n e room stored count =
    let same : n ≡ length sent = omega (arith, all_length sent, ap length e) in
    record { answer = rw same; buffer = stored ∙ rw e (sets_over bytes before room) }

-- nothing
pub serves_refused : (number : ℕ) (s : Server) (l : List ℕ) → Serves (refused_by number s) l l (answer_of (refused_by number s))
unfolding over all_bytes each_of
serves_refused number s l = record { answer = refl; buffer = refl }

-- no refusal has the number of an accepted call
number_some : (r : Refusal) → refusal_number r ≡ 0 → ⊥
number_some VectorsOutOfRange z = omega (arith, z)
number_some NotJoined z = omega (arith, z)
number_some StateUnsound z = omega (arith, z)
number_some BufferTooSmall z = omega (arith, z)
number_some NoneFree z = omega (arith, z)

-- a call that is refused at first, or goes on
module _ (s : Server) (room : ℕ) where
  pub join_refused : (refusal s room ≡ 0 → ⊥) → join s room ≡ refused_by (refusal s room) s
  unfolding join
  join_refused n = rw (ne_eqb _ _ n)

  pub join_goes_on : refusal s room ≡ 0 → join s room ≡ joins s
  unfolding join
  join_goes_on e = rw (eq-eqb _ _ e)

  pub leave_refused : (id : ℕ) → (refusal s room ≡ 0 → ⊥) → leave s id room ≡ refused_by (refusal s room) s
  unfolding leave
  leave_refused id n = rw (ne_eqb _ _ n)

  pub leave_goes_on : (id : ℕ) → refusal s room ≡ 0 → leave s id room ≡ leaves s id
  unfolding leave
  leave_goes_on id e = rw (eq-eqb _ _ e)

  -- what is known where it goes on
  pub in_range_lem : refusal s room ≡ 0 → in_range s.vectors ≡ true
  unfolding refusal
  in_range_lem e = not-false (in_range s.vectors) (first_zero 9 (not (in_range s.vectors)) (row 11 (ltb room buffer_bytes) ∷ []) e).0

  pub has_room : refusal s room ≡ 0 → buffer_bytes ≤ room
  unfolding refusal
  has_room e =
      ltb-false room buffer_bytes
      (first_zero 10 (ltb room buffer_bytes) [] (first_zero 9 (not (in_range s.vectors)) (row 11 (ltb room buffer_bytes) ∷ []) e).1).0

-- what a call gives that is refused at first
module _ (s : Server) (l : List ℕ) (r : Refusal) (e : refusal s (length l) ≡ refusal_number r) where
  refused : refusal s (length l) ≡ 0 → ⊥
  refused z = number_some r (sym e ∙ z)

  pub join_refusal : Serves (join s (length l)) l l (served_as s (Err r))
  join_refusal = rw (join_refused s (length l) refused, e) (serves_refused (refusal_number r) s l)

  pub leave_refusal : (id : ℕ) → Serves (leave s id (length l)) l l (served_as s (Err r))
  leave_refusal id = rw (leave_refused s (length l) id refused, e) (serves_refused (refusal_number r) s l)

-- a join with a free id, or with none; a leave of a joined id, or of none
module _ (s : Server) where
  pub joins_free : lowest_free s.joined < ids → joins s ≡ join_as s (lowest_free s.joined)
  unfolding joins
  joins_free l = rw (lt-ltb _ _ l)

  pub joins_full : ids ≤ lowest_free s.joined → joins s ≡ refused_by 12 s
  unfolding joins
  joins_full l = rw (le-ltb _ _ l)

  pub leaves_joined : (id : ℕ) → is_joined s.joined id ≡ true → leaves s id ≡ leave_as s id
  unfolding leaves
  leaves_joined id e = rw e

  pub leaves_free : (id : ℕ) → is_joined s.joined id ≡ false → leaves s id ≡ refused_by 4 s
  unfolding leaves
  leaves_free id e = rw e

lowest_taken : (s : Server) → TakesLowest s (joins s)
lowest_taken s =
    let lowest = lowest_is_free s.joined in
    by_less (lowest_free s.joined) ids
    (λ l.
    rw (joins_free s l)
    (record {
      taken = λ _. (l, lowest);
      full = λ e. absurd (omega arith);
      only = λ all. absurd (true≢false (sym (all (lowest_free s.joined) l) ∙ lowest.free));
    }))
    (λ l.
    rw (joins_full s l)
    (record { taken = λ e. absurd (omega arith); full = λ _ id h. lowest.before id (omega arith); only = λ _. refl }))

pub joins_take_the_lowest : JoinsTakeTheLowest
joins_take_the_lowest s room e = rw (join_goes_on s room e) (lowest_taken s)

-- what holds of a refused call and of one that goes on holds of a call
module _ (s : Server) (room : ℕ) (P : Outcome → Type 0) (refused : (number : ℕ) → P (refused_by number s)) where
  pub by_join : P (joins s) → P (join s room)
  by_join goes =
      by_equal (refusal s room) 0 (λ e. rw (join_goes_on s room e) goes) (λ n. rw (join_refused s room n) (refused (refusal s room)))

  pub by_leave : (id : ℕ) → P (leaves s id) → P (leave s id room)
  by_leave id goes =
      by_equal (refusal s room) 0 (λ e. rw (leave_goes_on s room id e) goes)
      (λ n. rw (leave_refused s room id n) (refused (refusal s room)))

-- a number in its range, and room
pub not_refused : (s : Server) → in_range s.vectors ≡ true → refusal s buffer_bytes ≡ 0
unfolding refusal first
not_refused s e = rw (e, le-ltb buffer_bytes buffer_bytes (omega arith))
