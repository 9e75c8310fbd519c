-- The theorems of specs/Reached: all ids join, and then those leave that the state does not have.
use Prim.Native.Nat.{ℕ, suc, ◌<◌, ◌^◌}
use mathlib.Core.Bool.{Bool, true, false, cond, true≢false}
use mathlib.Core.List.{List, [], ◌∷◌, ◌++◌}
use mathlib.Core.Path.{◌≡◌, refl, sym, ap, ◌∙◌}
use native.Mathlib.Omega.{arith}
use lib.Dec.{ltb}
use borrow.Author.Tests.{lt-ltb, le-ltb}
use Rattle.common.proofs.TestLaws.{by_equal}
use Rattle.reader.proofs.Reached.{climb}
use Rattle.reader.proofs.ReadLaws.{by_bool, by_less}
use Rattle.reader.specs.Sizes.{ids}
use Rattle.server.specs.declared.Server.{Server}
use Rattle.server.proofs.FreeLaws.{lowest_is_free}
use Rattle.server.proofs.JoinedLaws.{same_bits, joined_beyond, none_joined, with_same, with_other, with_fits, without_same}
use Rattle.server.proofs.JoinedLaws.{without_other}
use Rattle.server.proofs.ServeLaws.{range_accepted, accepted_range, started_in, in_range_lem, not_refused, by_join, by_leave, join_goes_on, leave_goes_on, joins_free, joins_full, leaves_joined, leaves_free}
use Rattle.server.specs.Clients.{is_joined, joined_with, joined_without, lowest_free}
use Rattle.server.specs.Histories.{Act, joining, leaving, outcome}
use Rattle.server.specs.Messages.{buffer_bytes}
use Rattle.server.specs.Reached.{after, EveryStateIsReached, ReachedIsAccepted, VectorsAreFixed}
use Rattle.server.specs.Serving.{Outcome, server_of, in_range, started}

after_then : (first second : List Act) (s : Server) → after s (first ++ second) ≡ after (after s first) second
unfolding after
after_then [] second s = refl
after_then (a ∷ first) second s = after_then first second (outcome a s).server

-- a history that leaves a set of ids, told by a test
record Leaves (vectors : ℕ) (t : ℕ → Bool) : Type 0 where
  history : List Act
  joined : ℕ
  left : after (started vectors).server history ≡ server_of joined vectors
  fits : joined < 2 ^ 64
  are : (id : ℕ) → is_joined joined id ≡ t id

-- one call more
one_more : (vectors : ℕ) (t u : ℕ → Bool) (l : Leaves vectors t) (a : Act) (next : ℕ)
    → (outcome a (server_of l.joined vectors)).server ≡ server_of next vectors → next < 2 ^ 64 → ((id : ℕ) → is_joined next id ≡ u id)
    → Leaves vectors u
unfolding after
one_more vectors t u l a next e f are =
    record {
      history = l.history ++ a ∷ [];
      joined = next;
      left = after_then l.history (a ∷ []) (started vectors).server ∙ rw l.left e;
      fits = f;
      are = are;
    }

-- with another test that comes to the same
retold : {vectors : ℕ} (t u : ℕ → Bool) → ((id : ℕ) → t id ≡ u id) → Leaves vectors t → Leaves vectors u
retold t u same l =
    record { history = l.history; joined = l.joined; left = l.left; fits = l.fits; are = λ id. l.are id ∙ same id }

-- a join and a leave in a buffer with room
module _ (s : Server) (range : in_range s.vectors ≡ true) where
  with_room : lowest_free s.joined < ids
      → (outcome (joining buffer_bytes) s).server ≡ server_of (joined_with s.joined (lowest_free s.joined)) s.vectors
  with_room l = ap (λ (o : Outcome). o.server) (join_goes_on s buffer_bytes (not_refused s range) ∙ joins_free s l)

  left_with_room : (id : ℕ) → is_joined s.joined id ≡ true
      → (outcome (leaving id buffer_bytes) s).server ≡ server_of (joined_without s.joined id) s.vectors
  left_with_room id e = ap (λ (o : Outcome). o.server) (leave_goes_on s buffer_bytes id (not_refused s range) ∙ leaves_joined s id e)

-- the first n ids are joined
module _ (vectors : ℕ) (range : in_range vectors ≡ true) where
  abbrev First : ℕ → Type 0
  First n = Leaves vectors (λ id. ltb id n)

  first_none : First 0
  unfolding after
  first_none =
      record {
        history = [];
        joined = 0;
        left = started_in vectors range;
        fits = omega arith;
        are = λ id. none_joined id ∙ sym (le-ltb id 0 (omega arith));
      }

  -- the next one is the lowest that is free
  lowest_next : (n : ℕ) (l : First n) → lowest_free l.joined ≡ n
  lowest_next n l =
      let lowest = lowest_is_free l.joined in
      let not-below : lowest_free l.joined < n → ⊥ =
      λ h. true≢false (sym (l.are (lowest_free l.joined) ∙ lt-ltb _ n h) ∙ lowest.free) in
      let not-above : n < lowest_free l.joined → ⊥ = λ h. true≢false (sym (lowest.before n h) ∙ l.are n ∙ le-ltb n n (omega arith)) in
      omega arith

  first_more : (n : ℕ) → n < ids → First n → First (suc n)
  first_more n h l =
      let free : is_joined l.joined n ≡ false = l.are n ∙ le-ltb n n (omega arith) in
      let at = lowest_next n l in
      one_more vectors (λ id. ltb id n) (λ id. ltb id (suc n)) l (joining buffer_bytes) (joined_with l.joined n)
      (with_room (server_of l.joined vectors) range (rw at h) ∙ rw at)
      (with_fits l.joined n h free l.fits)
      (λ id.
      by_equal id n (λ same. rw same (with_same l.joined n h free ∙ sym (lt-ltb n (suc n) (omega arith))))
      (λ o. with_other l.joined n h free id o ∙ l.are id ∙ below_alike id n o))
    where
      below_alike : (id n : ℕ) → (id ≡ n → ⊥) → ltb id n ≡ ltb id (suc n)
      below_alike id n o =
          by_less id n (λ l. lt-ltb id n l ∙ sym (lt-ltb id (suc n) (omega arith)))
          (λ l. le-ltb id n l ∙ sym (le-ltb id (suc n) (omega arith)))

-- below a number those of the state, and all from there on
module _ (s : Server) (range : in_range s.vectors ≡ true) where
  abbrev wanted : ℕ → ℕ → Bool
  wanted k id = cond (ltb id k) (is_joined s.joined id) (ltb id ids)

  abbrev Wanted : ℕ → Type 0
  Wanted k = Leaves s.vectors (wanted k)

  wanted_here : (k : ℕ) → k < ids → wanted k k ≡ true
  wanted_here k h = rw (le-ltb k k (omega arith), lt-ltb k ids h)

  wanted_next : (k : ℕ) → wanted (suc k) k ≡ is_joined s.joined k
  wanted_next k = rw (lt-ltb k (suc k) (omega arith))

  wanted_other : (k id : ℕ) → (id ≡ k → ⊥) → wanted k id ≡ wanted (suc k) id
  wanted_other k id o =
      by_less id k (λ l. rw (lt-ltb id k l, lt-ltb id (suc k) (omega arith))) (λ l. rw (le-ltb id k l, le-ltb id (suc k) (omega arith)))

  wanted_more : (k : ℕ) → k < ids → Wanted k → Wanted (suc k)
  wanted_more k h l =
      let there : is_joined l.joined k ≡ true = l.are k ∙ wanted_here k h in
      by_bool (is_joined s.joined k)
      (λ e.
      retold (wanted k) (wanted (suc k))
      (λ id.
      by_equal id k (λ same. rw same (wanted_here k h ∙ sym (wanted_next k ∙ e))) (λ o. wanted_other k id o)) l)
      (λ e.
      one_more s.vectors (wanted k) (wanted (suc k)) l (leaving k buffer_bytes) (joined_without l.joined k)
      (left_with_room (server_of l.joined s.vectors) range k there) (omega (arith, l.fits))
      (λ id.
      by_equal id k (λ same. rw same (without_same l.joined k there ∙ sym (wanted_next k ∙ e)))
      (λ o. without_other l.joined k there id o ∙ l.are id ∙ wanted_other k id o)))

pub every_state_is_reached : EveryStateIsReached
every_state_is_reached s e fits =
    let range = in_range_lem s buffer_bytes e in
    let v = s.vectors in
    let first = climb (First v range) ids (first_none v range) (first_more v range) ids (omega arith) in
    let none = retold (λ id. ltb id ids) (wanted s range 0) (λ id. rw (le-ltb id 0 (omega arith))) first in
    let all = climb (Wanted s range) ids none (wanted_more s range) ids (omega arith) in
    let same : all.joined ≡ s.joined =
    same_bits all.joined s.joined all.fits fits
    (λ id.
    all.are id
    ∙ by_less id ids (λ l. rw (lt-ltb id ids l)) (λ l. rw (le-ltb id ids l) (sym (joined_beyond s.joined id l)))) in
    record { vectors = v; accepted = range_accepted v range; history = all.history; left = all.left ∙ rw same }

-- a call keeps the number, and the bits within 64
module _ (s : Server) where
  abbrev Fits : Outcome → Type 0
  Fits o = o.server.joined < 2 ^ 64

  abbrev Same : Outcome → Type 0
  Same o = o.server.vectors ≡ s.vectors

  fits_one : (a : Act) → s.joined < 2 ^ 64 → Fits (outcome a s)
  fits_one (joining room) f =
      by_join s room Fits (λ _. f)
      (by_less (lowest_free s.joined) ids
      (λ l. rw (joins_free s l) (with_fits s.joined (lowest_free s.joined) l (lowest_is_free s.joined).free f))
      (λ l. rw (joins_full s l) f))
  fits_one (leaving id room) f =
      by_leave s room Fits (λ _. f) id
      (by_bool (is_joined s.joined id) (λ e. rw (leaves_joined s id e) (omega arith)) (λ e. rw (leaves_free s id e) f))

  same_one : (a : Act) → Same (outcome a s)
  same_one (joining room) =
      by_join s room Same (λ _. refl)
      (by_less (lowest_free s.joined) ids (λ l. rw (joins_free s l)) (λ l. rw (joins_full s l)))
  same_one (leaving id room) =
      by_leave s room Same (λ _. refl) id
      (by_bool (is_joined s.joined id) (λ e. rw (leaves_joined s id e)) (λ e. rw (leaves_free s id e)))

pub vectors_are_fixed : VectorsAreFixed
unfolding after
vectors_are_fixed s [] = refl
vectors_are_fixed s (a ∷ later) = vectors_are_fixed (outcome a s).server later ∙ same_one s a

fits_all : (history : List Act) (s : Server) → s.joined < 2 ^ 64 → (after s history).joined < 2 ^ 64
unfolding after
fits_all [] s f = f
fits_all (a ∷ later) s f = fits_all later (outcome a s).server (fits_one s a f)

pub reached_is_accepted : ReachedIsAccepted
reached_is_accepted s r =
    let begun = (started r.vectors).server in
    let range = accepted_range r.vectors r.accepted in
    let from = started_in r.vectors range in
    let same : s.vectors ≡ r.vectors =
    rw r.left at (vectors_are_fixed begun r.history) ∙ ap (λ (b : Server). b.vectors) from in
    let zero-fits : begun.joined < 2 ^ 64 = rw from (omega arith) in
    (not_refused s (rw same range), rw r.left at (fits_all r.history begun zero-fits))
