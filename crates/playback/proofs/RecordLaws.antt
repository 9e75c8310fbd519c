-- The lengths of records: none is empty, and none is longer than a set-up.
use Prim.Native.Nat.{ℕ, zero, suc, ◌+◌, ◌-◌, ◌≤◌, ◌<◌}
use mathlib.Core.Bool.{Bool, true, false, ◌&&◌}
use mathlib.Core.List.{List, [], ◌∷◌}
use mathlib.Core.Path.{◌≡◌, refl, sym, ap, ◌∙◌}
use native.Mathlib.Omega.{arith}
use lib.Dec.{leb, ltb}
use lib.ListN.{length, drop, get_or, take}
use borrow.Author.Tests.{leb-true, ltb-false, ltb-true, ne_eqb}
use Rattle.std.proofs.lemmas.List.{drop-take, take-take}
use Rattle.common.specs.Bytes.{number}
use Rattle.common.proofs.TestLaws.{and_left, and_right, by_equal}
use Rattle.playback.specs.declared.kinds.Kind.{Kind}
use Rattle.playback.specs.declared.kinds.Kind.TheVariants.{SetUp, Connect, Disconnect, Reset, ConfigurationRead, ConfigurationWrite}
use Rattle.playback.specs.declared.kinds.Kind.TheVariants.{RegisterRead, RegisterWrite, MsixRead, MsixWrite, Load, Store}
use Rattle.playback.specs.Answers.{answer}
use Rattle.playback.specs.Kinds.{kind_number}
use Rattle.playback.specs.Log.{Request, bodies, field, record_length, request_of, settings_in, longest_record}
use Rattle.device.specs.World.{World}

abbrev all_short : List ℕ → Bool
all_short [] = true
all_short (x ∷ l) = leb x 38 && all_short l

short : (l : List ℕ) → all_short l ≡ true → (k : ℕ) → get_or l k 0 ≤ 38
short [] e k = omega arith
short (x ∷ l) e zero = leb-true x 38 (and_left (leb x 38) (all_short l) e)
short (x ∷ l) e (suc k) = short l (and_right (leb x 38) (all_short l) e) k

pub body_short : (kind : ℕ) → get_or bodies kind 0 ≤ 38
body_short kind = short bodies refl kind

pub record_short : (kind : ℕ) → record_length kind ≤ longest_record
unfolding record_length
record_short kind = omega (arith, body_short kind)

pub record_some : (kind : ℕ) → 1 ≤ record_length kind
unfolding record_length
record_some kind = omega arith

past : (l : List ℕ) (k : ℕ) → length l ≤ k → get_or l k 0 ≡ 0
past [] k h = refl
past (x ∷ l) zero h = absurd (omega arith)
past (x ∷ l) (suc k) h = past l k (omega arith)

pub unknown_length : (kind : ℕ) → 12 ≤ kind → record_length kind ≡ 1
unfolding record_length
unknown_length kind h = rw (past bodies kind h)

-- a number that is not the next above a bound either
pub above : (n k : ℕ) → n < k → (k ≡ suc n → ⊥) → suc n < k
above n k h e = omega arith

-- a kind above 0B asks for nothing, and no other stops the player
pub unknown_request : (kind : ℕ) (r : List ℕ) → 12 ≤ kind → request_of kind r ≡ Request.unknown
unfolding request_of
unknown_request kind r h = rw (
  ne_eqb kind 0 (differs 0 (omega arith)),
  ne_eqb kind 1 (differs 1 (omega arith)),
  ne_eqb kind 2 (differs 2 (omega arith)),
  ne_eqb kind 3 (differs 3 (omega arith)),
  ne_eqb kind 4 (differs 4 (omega arith)),
  ne_eqb kind 5 (differs 5 (omega arith)),
  ne_eqb kind 6 (differs 6 (omega arith)),
  ne_eqb kind 7 (differs 7 (omega arith)),
  ne_eqb kind 8 (differs 8 (omega arith)),
  ne_eqb kind 9 (differs 9 (omega arith)),
  ne_eqb kind 10 (differs 10 (omega arith)),
  ne_eqb kind 11 (differs 11 (omega arith)),
)
  where
    differs : (k : ℕ) → k < 12 → kind ≡ k → ⊥
    differs k l e = omega arith

pub known_goes_on : (w : World) (kind : ℕ) (r : List ℕ) → kind < 12 → (answer w (request_of kind r)).stops ≡ false
unfolding request_of answer
known_goes_on w kind r h =
    by_equal kind 0 (λ e. rw e) (λ n0. let b1 : 0 < kind = omega arith in by_equal kind 1 (λ e. rw e)
    (λ n1. let b2 : 1 < kind = above 0 kind b1 n1 in by_equal kind 2 (λ e. rw e)
    (λ n2. let b3 : 2 < kind = above 1 kind b2 n2 in by_equal kind 3 (λ e. rw e)
    (λ n3. let b4 : 3 < kind = above 2 kind b3 n3 in by_equal kind 4 (λ e. rw e)
    (λ n4. let b5 : 4 < kind = above 3 kind b4 n4 in by_equal kind 5 (λ e. rw e)
    (λ n5. let b6 : 5 < kind = above 4 kind b5 n5 in by_equal kind 6 (λ e. rw e)
    (λ n6. let b7 : 6 < kind = above 5 kind b6 n6 in by_equal kind 7 (λ e. rw e)
    (λ n7. let b8 : 7 < kind = above 6 kind b7 n7 in by_equal kind 8 (λ e. rw e)
    (λ n8. let b9 : 8 < kind = above 7 kind b8 n8 in by_equal kind 9 (λ e. rw e)
    (λ n9. let b10 : 9 < kind = above 8 kind b9 n9 in by_equal kind 10 (λ e. rw e)
    (λ n10. let b11 : 10 < kind = above 9 kind b10 n10 in by_equal kind 11 (λ e. rw e)
    (λ n11. let b12 : 11 < kind = above 10 kind b11 n11 in absurd (omega arith)))))))))))))

-- a field that ends before a place
field_front : (at n k : ℕ) (r : List ℕ) → at + n ≤ k → field at n (take k r) ≡ field at n r
unfolding field
field_front at n k r h =
    let cut : k ≡ at + (k - at) = omega arith in
    let part : take n (drop at (take k r)) ≡ take n (drop at r) =
    rw (cut, drop-take at (k - at) r) (take-take n (k - at) (drop at r) (omega arith)) in
    ap number part

-- what a record asks for is in its first bytes, as many as its kind says
module _ (k : ℕ) (r : List ℕ) where
  on : (at n : ℕ) → at + n ≤ k → field at n (take k r) ≡ field at n r
  on at n h = field_front at n k r h

  settings_front : 39 ≤ k → settings_in (take k r) ≡ settings_in r
  settings_front h =
      rw (
        on 1 2 (omega arith),
        on 3 2 (omega arith),
        on 5 4 (omega arith),
        on 9 8 (omega arith),
        on 17 8 (omega arith),
        on 25 8 (omega arith),
        on 33 2 (omega arith),
        on 35 2 (omega arith),
        on 37 2 (omega arith),
      )

  known_front : (kind : ℕ) → kind < 12 → record_length kind ≤ k → request_of kind (take k r) ≡ request_of kind r
  unfolding request_of record_length
  known_front kind h l =
      by_equal kind 0 (λ e. let m = rw e at l in rw (e, settings_front m))
      (λ n0. let b1 : 0 < kind = omega arith in by_equal kind 1 (λ e. let m = rw e at l in rw (e, on 1 2 (omega arith)))
      (λ n1. let b2 : 1 < kind = above 0 kind b1 n1 in by_equal kind 2 (λ e. let m = rw e at l in rw (e, on 1 2 (omega arith)))
      (λ n2. let b3 : 2 < kind = above 1 kind b2 n2 in by_equal kind 3 (λ e. let m = rw e at l in rw (e, on 1 2 (omega arith)))
      (λ n3. let b4 : 3 < kind = above 2 kind b3 n3 in by_equal kind 4
      (λ e. let m = rw e at l in rw (e, on 1 2 (omega arith), on 3 2 (omega arith), on 5 1 (omega arith)))
      (λ n4. let b5 : 4 < kind = above 3 kind b4 n4 in by_equal kind 5
      (λ e. let m = rw e at l in rw (e, on 1 2 (omega arith), on 3 2 (omega arith), on 5 1 (omega arith), on 6 4 (omega arith)))
      (λ n5. let b6 : 5 < kind = above 4 kind b5 n5 in by_equal kind 6
      (λ e. let m = rw e at l in rw (e, on 1 2 (omega arith), on 3 2 (omega arith)))
      (λ n6. let b7 : 6 < kind = above 5 kind b6 n6 in by_equal kind 7
      (λ e. let m = rw e at l in rw (e, on 1 2 (omega arith), on 3 2 (omega arith), on 5 4 (omega arith)))
      (λ n7. let b8 : 7 < kind = above 6 kind b7 n7 in by_equal kind 8
      (λ e. let m = rw e at l in rw (e, on 1 2 (omega arith), on 3 2 (omega arith)))
      (λ n8. let b9 : 8 < kind = above 7 kind b8 n8 in by_equal kind 9
      (λ e. let m = rw e at l in rw (e, on 1 2 (omega arith), on 3 2 (omega arith), on 5 4 (omega arith)))
      (λ n9. let b10 : 9 < kind = above 8 kind b9 n9 in by_equal kind 10
      (λ e. let m = rw e at l in rw (e, on 1 2 (omega arith), on 3 4 (omega arith)))
      (λ n10. let b11 : 10 < kind = above 9 kind b10 n10 in by_equal kind 11
      (λ e. let m = rw e at l in rw (e, on 1 2 (omega arith), on 3 4 (omega arith), on 7 1 (omega arith)))
      (λ n11. let b12 : 11 < kind = above 10 kind b11 n11 in absurd (omega arith)))))))))))))

  pub request_front : (kind : ℕ) → record_length kind ≤ k → request_of kind (take k r) ≡ request_of kind r
  request_front kind l = go (ltb kind 12) refl
    where
      go : (t : Bool) → ltb kind 12 ≡ t → request_of kind (take k r) ≡ request_of kind r
      go true e = known_front kind (ltb-true kind 12 e) l
      go false e =
          let h : 12 ≤ kind = ltb-false kind 12 e in
          unknown_request kind (take k r) h ∙ sym (unknown_request kind r h)

pub kind_small : (k : Kind) → kind_number k < 12
kind_small SetUp = omega arith
kind_small Connect = omega arith
kind_small Disconnect = omega arith
kind_small Reset = omega arith
kind_small ConfigurationRead = omega arith
kind_small ConfigurationWrite = omega arith
kind_small RegisterRead = omega arith
kind_small RegisterWrite = omega arith
kind_small MsixRead = omega arith
kind_small MsixWrite = omega arith
kind_small Load = omega arith
kind_small Store = omega arith

pub kind_some : (k : Kind) → (k ≡ SetUp → ⊥) → 0 < kind_number k
kind_some SetUp h = absurd (h refl)
kind_some Connect h = omega arith
kind_some Disconnect h = omega arith
kind_some Reset h = omega arith
kind_some ConfigurationRead h = omega arith
kind_some ConfigurationWrite h = omega arith
kind_some RegisterRead h = omega arith
kind_some RegisterWrite h = omega arith
kind_some MsixRead h = omega arith
kind_some MsixWrite h = omega arith
kind_some Load h = omega arith
kind_some Store h = omega arith
