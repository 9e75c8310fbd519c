-- The lowest free id, and how many ids are joined.
use Prim.Native.Nat.{ℕ, zero, suc, ◌+◌, ◌-◌, ◌≤◌, ◌<◌, ◌^◌}
use mathlib.Core.Bool.{true, false, not, true≢false}
use mathlib.Core.List.{List, [], ◌∷◌, ◌++◌, append-nil}
use mathlib.Core.Path.{◌≡◌, refl, sym, ◌∙◌}
use native.Mathlib.Nat.{div-eq_of_lt}
use native.Mathlib.Omega.{arith}
use lib.ListN.{length, get_or, length-append, get_or-append}
use lib.Seq.{get_or-append_seam}
use Rattle.common.proofs.TestLaws.{by_equal}
use Rattle.reader.proofs.ReadLaws.{by_bool, by_less}
use Rattle.reader.specs.Sizes.{ids}
use Rattle.std.proofs.lemmas.Nat.{leading_length}
use Rattle.std.proofs.lemmas.Nat.Bits.{bit_at_ones, bit_at-trailing_ones}
use Rattle.std.specs.Int.{w64, bit_at, leading_zeros, trailing_ones}
use Rattle.server.proofs.JoinedLaws.{is_bit, joined_below_lem, joined_beyond, bits_gone}
use Rattle.server.specs.Clients.{is_joined, joined_at, joined_below, clients, free_from, lowest_free, Lowest, ClientsAreListed}

-- where an id is joined the search goes on behind it, else it ends there
pub free_next : (n id joined : ℕ) → is_joined joined id ≡ true → free_from (suc n) id joined ≡ free_from n (suc id) joined
unfolding free_from
free_next n id joined e = rw e

pub free_here : (n id joined : ℕ) → is_joined joined id ≡ false → free_from n id joined ≡ id
unfolding free_from
free_here zero id joined e = refl
free_here (suc n) id joined e = rw e

-- all ids before one are joined: the lowest free one is found from there on
lowest_from : (n id joined : ℕ) → n + id ≡ ids → ((i : ℕ) → i < id → is_joined joined i ≡ true) → Lowest joined (free_from n id joined)
unfolding free_from
lowest_from zero id joined s b =
    record { within = omega arith; free = joined_beyond joined id (omega arith); before = b }
lowest_from (suc n) id joined s b =
    by_bool (is_joined joined id)
    (λ e. rw e (lowest_from n (suc id) joined (omega arith)
    (λ i l. by_equal i id (λ same. rw same e) (λ other. b i (omega arith)))))
    (λ e. rw e (record { within = omega arith; free = e; before = b }))

pub lowest_is_free : (joined : ℕ) → Lowest joined (lowest_free joined)
unfolding lowest_free
lowest_is_free joined = lowest_from ids 0 joined (omega arith) (λ i l. absurd (omega arith))

-- There is one such id, which the trailing ones count.
lowest_is : (joined id : ℕ) → Lowest joined id → lowest_free joined ≡ id
lowest_is joined id l =
    let m = lowest_is_free joined in
    by_less (lowest_free joined) id (λ h. absurd (true≢false (sym (l.before (lowest_free joined) h) ∙ m.free)))
    (λ h. by_less id (lowest_free joined) (λ k. absurd (true≢false (sym (m.before id k) ∙ l.free))) (λ k. omega arith))

zero_free : (joined i : ℕ) → i < ids → bit_at joined i ≡ 0 → is_joined joined i ≡ false
zero_free joined i h e = is_bit joined i h ∙ rw e

one_joined : (joined i : ℕ) → i < ids → bit_at joined i ≡ 1 → is_joined joined i ≡ true
one_joined joined i h e = is_bit joined i h ∙ rw e

all_ones : lowest_free (2 ^ 64 - 1) ≡ 64
unfolding ids
all_ones =
    lowest_is (2 ^ 64 - 1) 64 (record {
      within = omega arith;
      free = joined_beyond (2 ^ 64 - 1) 64 (omega arith);
      before = λ i l. one_joined (2 ^ 64 - 1) i l (bit_at_ones 64 i l);
    })

pub lowest_counted : (joined : ℕ) → joined < 2 ^ 64 → lowest_free joined ≡ trailing_ones w64 joined
unfolding ids lib.Count.count_trailing_zeros
lowest_counted joined f =
    by_less (joined + 1) (2 ^ 64)
    (λ h.
    let t = bit_at-trailing_ones w64 joined h in
    lowest_is joined (trailing_ones w64 joined) (record {
      within = omega (arith, t.0);
      free = zero_free joined (trailing_ones w64 joined) t.0 t.1;
      before = λ i l. one_joined joined i (omega (arith, t.0)) (t.2 i l);
    }))
    (λ h. let all : joined ≡ 2 ^ 64 - 1 = omega arith in rw all all_ones)

-- the joined ids below a number: one turn more
module _ (joined : ℕ) where
  pub at_joined : (id : ℕ) → is_joined joined id ≡ true → joined_at joined id ≡ id ∷ []
  unfolding joined_at
  at_joined id e = rw e

  pub at_free : (id : ℕ) → is_joined joined id ≡ false → joined_at joined id ≡ []
  unfolding joined_at
  at_free id e = rw e

  -- what holds of both holds of it
  pub by_joined : (P : List ℕ → Type 0) (id : ℕ) → (is_joined joined id ≡ true → P (id ∷ [])) → (is_joined joined id ≡ false → P [])
      → P (joined_at joined id)
  by_joined P id f g = by_bool (is_joined joined id) (λ e. rw (at_joined id e) (f e)) (λ e. rw (at_free id e) (g e))

  pub below_next : (n : ℕ) → joined_below (suc n) joined ≡ joined_below n joined ++ joined_at joined n
  unfolding joined_below
  below_next n = refl

  -- there are no more of them than numbers,
  below_length : (n : ℕ) → length (joined_below n joined) ≤ n
  unfolding joined_below
  below_length zero = omega arith
  below_length (suc n) =
      rw length-append
      (by_joined (λ l. length (joined_below n joined) + length l ≤ suc n) n (λ e. omega (arith, below_length n))
      (λ e. omega (arith, below_length n)))

  -- and fewer where one is free
  fewer : (n id : ℕ) → id < n → is_joined joined id ≡ false → length (joined_below n joined) < n
  unfolding joined_below
  fewer zero id l e = absurd (omega arith)
  fewer (suc n) id l e =
      rw length-append
      (by_equal id n (λ same. rw (at_free n (rw same at e)) (omega (arith, below_length n)))
      (λ other.
      by_joined (λ l. length (joined_below n joined) + length l < suc n) n (λ _. omega (arith, fewer n id (omega arith) e))
      (λ _. omega (arith, fewer n id (omega arith) e))))

  pub clients_fewer : (id : ℕ) → id < ids → is_joined joined id ≡ false → length (clients joined) ≤ ids - 1
  clients_fewer id l e = omega (arith, fewer ids id l e)

  pub clients_within : length (clients joined) ≤ ids
  clients_within = below_length ids

-- where a number ends no id is joined, and those below are all
module _ (joined id : ℕ) (e : joined < 2 ^ id) where
  no_more : (j : ℕ) → id ≤ j → is_joined joined j ≡ false
  no_more j l = bits_gone joined id j l (div-eq_of_lt e)

  same_below : (d : ℕ) → joined_below (d + id) joined ≡ joined_below id joined
  same_below zero = let n : 0 + id ≡ id = omega arith in rw n
  same_below (suc d) =
      let n : suc d + id ≡ suc (d + id) = omega arith in
      rw (n, below_next joined (d + id), at_free joined (d + id) (no_more (d + id) (omega arith)), append-nil) (same_below d)

  pub all_below : id ≤ ids → clients joined ≡ joined_below id joined
  all_below l = let n : ids - id + id ≡ ids = omega arith in rw n at (same_below (ids - id))

-- it ends before its leading zeros
pub end_of : (joined : ℕ) → joined < 2 ^ 64
    → (ids - leading_zeros w64 joined ≤ ids) × (clients joined ≡ joined_below (ids - leading_zeros w64 joined) joined)
unfolding ids
end_of joined f =
    let l = leading_length 64 joined f in
    let n : 64 - leading_zeros w64 joined ≡ l.0 = omega (arith, l.1) in
    (omega arith, rw n (all_below joined l.0 l.2 (omega (arith, l.1))))

-- the list of joined ids below a number: all of them, ascending, and all below it
record ListedBelow (joined n : ℕ) (to : List ℕ) : Type 0 where
  only : (k : ℕ) → k < length to → (is_joined joined (get_or to k 0) ≡ true) × (get_or to k 0 < n)
  all : (id : ℕ) → id < n → is_joined joined id ≡ true → (k : ℕ) × ((k < length to) × (get_or to k 0 ≡ id))
  ascending : (j k : ℕ) → j < k → k < length to → get_or to j 0 < get_or to k 0

-- one that is not joined
listed_same : (joined n : ℕ) (to : List ℕ) → is_joined joined n ≡ false → ListedBelow joined n to → ListedBelow joined (suc n) to
listed_same joined n to free l =
    record {
      only = λ k h. ((l.only k h).0, omega (arith, (l.only k h).1));
      all = λ id h e. by_equal id n (λ same. absurd (true≢false (sym e ∙ rw same free))) (λ o. l.all id (omega arith) e);
      ascending = l.ascending;
    }

-- one more, at the end
module _ (joined n : ℕ) (to : List ℕ) (e : is_joined joined n ≡ true) (l : ListedBelow joined n to) where
  longer : length (to ++ n ∷ []) ≡ length to + 1
  longer = length-append to (n ∷ [])

  old : (k : ℕ) → k < length to → get_or (to ++ n ∷ []) k 0 ≡ get_or to k 0
  old k h = get_or-append to (n ∷ []) 0 k h

  last : (k : ℕ) → (k < length to → ⊥) → k < length (to ++ n ∷ []) → get_or (to ++ n ∷ []) k 0 ≡ n
  last k not h = let is : k ≡ length to = omega (arith, longer) in rw is (get_or-append_seam to n [] 0)

  listed_only : (k : ℕ) → k < length (to ++ n ∷ [])
      → (is_joined joined (get_or (to ++ n ∷ []) k 0) ≡ true) × (get_or (to ++ n ∷ []) k 0 < suc n)
  listed_only k h =
      by_less k (length to) (λ b. rw (old k b) ((l.only k b).0, omega (arith, (l.only k b).1)))
      (λ b. rw (last k (λ s. absurd (omega arith)) h) (e, omega arith))

  listed_ascending : (j k : ℕ) → j < k → k < length (to ++ n ∷ []) → get_or (to ++ n ∷ []) j 0 < get_or (to ++ n ∷ []) k 0
  listed_ascending j k less h =
      by_less k (length to) (λ b. rw (old k b, old j (omega arith)) (l.ascending j k less b))
      (λ b.
      let front : j < length to = omega (arith, longer) in
      rw (last k (λ s. absurd (omega arith)) h, old j front) (l.only j front).1)

  listed_all : (id : ℕ) → id < suc n → is_joined joined id ≡ true
      → (k : ℕ) × ((k < length (to ++ n ∷ [])) × (get_or (to ++ n ∷ []) k 0 ≡ id))
  listed_all id h there =
      by_equal id n (λ same. (length to, (omega (arith, longer), get_or-append_seam to n [] 0 ∙ sym same)))
      (λ o.
      let at = l.all id (omega arith) there in
      (at.0, (omega (arith, longer, at.1.0), old at.0 at.1.0 ∙ at.1.1)))

  listed_more : ListedBelow joined (suc n) (to ++ n ∷ [])
  listed_more = record { only = listed_only; all = listed_all; ascending = listed_ascending }

listed_below : (joined n : ℕ) → ListedBelow joined n (joined_below n joined)
unfolding joined_below
listed_below joined zero =
    record {
      only = λ k h. absurd (omega arith);
      all = λ id h e. absurd (omega arith);
      ascending = λ j k l h. absurd (omega arith);
    }
listed_below joined (suc n) =
    by_joined joined (λ x. ListedBelow joined (suc n) (joined_below n joined ++ x)) n
    (λ e. listed_more joined n (joined_below n joined) e (listed_below joined n))
    (λ e. rw (append-nil (joined_below n joined)) (listed_same joined n (joined_below n joined) e (listed_below joined n)))

pub clients_are_listed : ClientsAreListed
clients_are_listed joined =
    let l = listed_below joined ids in
    record {
      only = λ k h. (l.only k h).0;
      all = λ id e. l.all id (joined_below_lem joined id e) e;
      ascending = l.ascending;
    }
