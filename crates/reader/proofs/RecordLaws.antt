-- What a whole record can come to, and that only its nine bytes count.
use Prim.Native.Nat.{ℕ, ◌+◌, ◌≤◌, ◌<◌}
use mathlib.Core.Bool.{Bool, true, false, cond, not, ◌&&◌}
use mathlib.Core.List.{List, ◌++◌}
use mathlib.Core.Path.{◌≡◌, refl}
use native.Mathlib.Omega.{arith}
use lib.Dec.{eqb, ltb}
use lib.IntN.{ℤ, pos, negsuc}
use lib.ListN.{length, drop, length-drop, get_or-append}
use lib.Seq.{drop-append-le, take-append-le}
use borrow.Author.Tests.{eqb-true, eqb-false, ltb-true, ltb-false, not-true}
use Rattle.common.proofs.TestLaws.{and_left, and_right}
use Rattle.reader.specs.declared.Message.TheVariants.{Version, Id, Memory, Vector, Extra, Disconnected}
use Rattle.reader.specs.Records.{Record, record_in, without_descriptor, with_descriptor}
use Rattle.reader.specs.Sizes.{ids}
use Rattle.reader.specs.Steps.{Known, known, count, counted, Result, result_with, closes, is_id, id_of, is_version, is_memory}
use Rattle.reader.specs.Steps.{version_step, id_step, memory_step, adds, removes, peers_step, read_record}

-- the record at the front of nine bytes or more
pub record_front : (m xs : List ℕ) → 9 ≤ length m → record_in (m ++ xs) ≡ record_in m
unfolding record_in
record_front m xs h =
    let n : 8 ≤ length (drop 1 m) = rw (length-drop 1 m) (omega arith) in
    rw (get_or-append m xs 0 0 (omega arith), drop-append-le 1 m xs (omega arith), take-append-le 8 (drop 1 m) xs n)

-- All that a record can come to: it closes, or it is what the step that is due asks for.
pub data Comes (vectors : ℕ) (k : Known) : Result → Type 0 where
  closing : Comes vectors k (closes k)
  version : k.due ≡ 0 → Comes vectors k (result_with Version (known 1 k.own k.counts))
  own : (id : ℕ) → k.due ≡ 1 → id < ids → Comes vectors k (result_with (Id id) (known 2 id k.counts))
  memory : k.due ≡ 2 → Comes vectors k (result_with Memory (known 3 k.own k.counts))
  vector : (id : ℕ) → k.due ≡ 3 → id < ids → count k id < vectors
      → Comes vectors k (result_with (Vector id (count k id + 1)) (counted k id (count k id + 1)))
  extra : (id : ℕ) → k.due ≡ 3 → id < ids → vectors ≤ count k id → Comes vectors k (result_with (Extra id (count k id)) k)
  disconnected : (id : ℕ) → k.due ≡ 3 → id < ids → (id ≡ k.own → ⊥) → 0 < count k id
      → Comes vectors k (result_with (Disconnected id) (counted k id 0))

-- one of two, by a test
pub by_test : (P : Result → Type 0) (b : Bool) (x y : Result) → (b ≡ true → P x) → (b ≡ false → P y) → P (cond b x y)
by_test P true x y f g = f refl
by_test P false x y f g = g refl

id_small : (z : ℤ) → is_id z ≡ true → id_of z < ids
unfolding is_id id_of
id_small (pos n) e = ltb-true n ids e
id_small (negsuc n) e = let z : ◌≡◌ {A = ℕ} 0 1 = cc in absurd (omega arith)

module _ (vectors : ℕ) (k : Known) (r : Record) where
  added : (id : ℕ) → k.due ≡ 3 → id < ids → Comes vectors k (adds vectors k id)
  unfolding adds
  added id d l =
      by_test (λ h. Comes vectors k h) (ltb (count k id) vectors) _ _ (λ e. Comes.vector id d l (ltb-true _ _ e)) (λ e. Comes.extra id d l (ltb-false _ _ e))

  removed : (id : ℕ) → k.due ≡ 3 → id < ids → Comes vectors k (removes k id)
  unfolding removes
  removed id d l =
      by_test (λ h. Comes vectors k h) (not (eqb id k.own) && ltb 0 (count k id)) _ _
      (λ e.
      Comes.disconnected id d l (eqb-false id k.own (not-true (eqb id k.own) (and_left (not (eqb id k.own)) (ltb 0 (count k id)) e)))
      (ltb-true 0 (count k id) (and_right (not (eqb id k.own)) (ltb 0 (count k id)) e)))
      (λ _. Comes.closing)

  of_peers : k.due ≡ 3 → Comes vectors k (peers_step vectors k r)
  unfolding peers_step
  of_peers d =
      by_test (λ h. Comes vectors k h) (is_id r.value && with_descriptor r) _ _
      (λ e. added (id_of r.value) d (id_small r.value (and_left (is_id r.value) (with_descriptor r) e)))
      (λ _. by_test (λ h. Comes vectors k h) (is_id r.value && without_descriptor r) _ _
      (λ e. removed (id_of r.value) d (id_small r.value (and_left (is_id r.value) (without_descriptor r) e)))
      (λ _. Comes.closing))

  of_memory : k.due ≡ 2 → Comes vectors k (memory_step k r)
  unfolding memory_step
  of_memory d = by_test (λ h. Comes vectors k h) (is_memory r.value && with_descriptor r) _ _ (λ _. Comes.memory d) (λ _. Comes.closing)

  of_id : k.due ≡ 1 → Comes vectors k (id_step k r)
  unfolding id_step
  of_id d =
      by_test (λ h. Comes vectors k h) (is_id r.value && without_descriptor r) _ _
      (λ e. Comes.own (id_of r.value) d (id_small r.value (and_left (is_id r.value) (without_descriptor r) e)))
      (λ _. Comes.closing)

  of_version : k.due ≡ 0 → Comes vectors k (version_step k r)
  unfolding version_step
  of_version d = by_test (λ h. Comes vectors k h) (is_version r.value && without_descriptor r) _ _ (λ _. Comes.version d) (λ _. Comes.closing)

  pub comes : Comes vectors k (read_record vectors k r)
  unfolding read_record
  comes =
      by_test (λ h. Comes vectors k h) (eqb k.due 0) _ _ (λ e. of_version (eqb-true _ _ e))
      (λ _. by_test (λ h. Comes vectors k h) (eqb k.due 1) _ _ (λ e. of_id (eqb-true _ _ e))
      (λ _. by_test (λ h. Comes vectors k h) (eqb k.due 2) _ _ (λ e. of_memory (eqb-true _ _ e))
      (λ _. by_test (λ h. Comes vectors k h) (eqb k.due 3) _ _ (λ e. of_peers (eqb-true _ _ e)) (λ _. Comes.closing))))
