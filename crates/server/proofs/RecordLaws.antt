-- A record's bytes are read back, and which records are for one client.
use Prim.Native.Nat.{ℕ, zero, suc, ◌-◌, ◌*◌, ◌/◌, ◌<◌, ◌≤◌, ◌^◌}
use mathlib.Core.Bool.{true, false}
use mathlib.Core.List.{List, [], ◌∷◌, ◌++◌, append-nil}
use mathlib.Core.Path.{◌≡◌, refl, ◌∙◌}
use native.Mathlib.Nat.{pow-suc}
use native.Mathlib.Omega.{arith}
use lib.Dec.{eqb}
use lib.IntN.{ℤ, pos, negsuc}
use lib.Seq.{take_all}
use borrow.Author.Tests.{eq-eqb, ne_eqb, lt-ltb, le-ltb}
use Rattle.common.proofs.ByteLaws.{length_bytes}
use Rattle.common.proofs.TestLaws.{by_equal}
use Rattle.common.specs.Bytes.{bytes, number}
use Rattle.reader.proofs.ReadLaws.{by_bool, by_less}
use Rattle.reader.specs.Records.{Record, record_in, signed}
use Rattle.reader.specs.Sizes.{ids}
use Rattle.server.proofs.FreeLaws.{at_joined, at_free, by_joined}
use Rattle.server.proofs.JoinedLaws.{joined_below_lem}
use Rattle.server.proofs.ListLaws.{each_append, each_one}
use Rattle.server.specs.Clients.{is_joined, joined_at, joined_below, clients}
use Rattle.server.specs.Histories.{records_for}
use Rattle.server.specs.Messages.{Sent, to, all_to, each_of, unsigned, bytes_of, In64Bits, RecordsComeBack}

number_bytes_lem : (n x : ℕ) → x < 256 ^ n → number (bytes n x) ≡ x
unfolding bytes number
number_bytes_lem zero x h = omega arith
number_bytes_lem (suc n) x h = let p : 256 ^ suc n ≡ 256 ^ n * 256 = pow-suc 256 n in rw (number_bytes_lem n (x / 256) (omega arith)) (omega arith)

signed_back : (z : ℤ) → In64Bits z → (unsigned z < 2 ^ 64) × (signed (unsigned z) ≡ z)
unfolding signed unsigned
signed_back (pos n) h = (omega arith, rw (lt-ltb n (2 ^ 63) h))
signed_back (negsuc n) h =
    let back : 2 ^ 64 - 1 - (2 ^ 64 - 1 - n) ≡ n = omega arith in
    (omega arith, rw (le-ltb (2 ^ 64 - 1 - n) (2 ^ 63) (omega arith), back))

pub records_come_back : RecordsComeBack
unfolding record_in bytes_of
records_come_back r h =
    let b = signed_back r.value h in
    let x = unsigned r.value in
    rw (take_all 8 (bytes 8 x) (omega (arith, length_bytes 8 x)), number_bytes_lem 8 x b.0, b.1)

-- for one client, part after part
module _ (client : ℕ) where
  pub for_append : (xs ys : List Sent) → records_for client (xs ++ ys) ≡ records_for client xs ++ records_for client ys
  unfolding records_for
  for_append [] ys = refl
  for_append (m ∷ xs) ys =
      by_bool (eqb m.client client) (λ e. rw (e, for_append xs ys)) (λ e. rw (e, for_append xs ys))

  -- all of those for it, and none of those for another
  pub for_own : (rs : List Record) → records_for client (all_to client rs) ≡ rs
  unfolding records_for
  for_own [] = refl
  for_own (r ∷ rs) = rw (eq-eqb client client refl, for_own rs)

  pub for_other : (other : ℕ) → (other ≡ client → ⊥) → (rs : List Record) → records_for client (all_to other rs) ≡ []
  unfolding records_for
  for_other other n [] = refl
  for_other other n (r ∷ rs) = rw (ne_eqb other client n, for_other other n rs)

  -- the same records for each joined id: the client has them where it is joined
  module _ (joined : ℕ) (rs : List Record) where
    abbrev each : List ℕ → List Sent
    each to = each_of (λ id. all_to id rs) to

    -- at its own turn, and at no other
    for_turn : (n : ℕ) → (n ≡ client → ⊥) → records_for client (each (joined_at joined n)) ≡ []
    unfolding records_for each_of
    for_turn n o =
        by_joined joined (λ l. records_for client (each l) ≡ []) n (λ e. rw (append-nil (all_to n rs)) (for_other n o rs)) (λ e. refl)

    for_next : (n : ℕ) → records_for client (each (joined_below (suc n) joined))
        ≡ records_for client (each (joined_below n joined)) ++ records_for client (each (joined_at joined n))
    unfolding joined_below
    for_next n = rw (each_append (λ id. all_to id rs) (joined_below n joined) (joined_at joined n)) (for_append _ _)

    for_none : (n : ℕ) → n ≤ client → records_for client (each (joined_below n joined)) ≡ []
    unfolding records_for joined_below each_of
    for_none zero h = refl
    for_none (suc n) h = for_next n ∙ rw (for_none n (omega arith), for_turn n (omega arith))

    for_some : (n : ℕ) → client < n → records_for client (each (joined_below n joined)) ≡ records_for client (each (joined_at joined client))
    for_some zero h = absurd (omega arith)
    for_some (suc n) h =
        for_next n
        ∙ by_equal n client (λ same. rw (same, for_none client (omega arith)))
        (λ other. rw (for_some n (omega arith), for_turn n other, append-nil))

    pub for_joined : is_joined joined client ≡ true → records_for client (each (clients joined)) ≡ rs
    for_joined e =
        for_some ids (joined_below_lem joined client e)
        ∙ rw (at_joined joined client e, each_one (λ id. all_to id rs) client) (for_own rs)

    pub for_free : is_joined joined client ≡ false → records_for client (each (clients joined)) ≡ []
    unfolding records_for each_of
    for_free e = by_less client ids (λ l. for_some ids l ∙ rw (at_free joined client e)) (λ l. for_none ids l)
