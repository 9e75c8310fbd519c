-- What a reader makes of records from the start, one after the other.
use Prim.Native.Nat.{ℕ, zero, suc, ◌+◌, ◌≤◌, ◌<◌}
use mathlib.Core.Bool.{Bool, true, false, cond, ◌&&◌}
use mathlib.Core.List.{List, [], ◌∷◌, ◌++◌, append_assoc, append-nil}
use mathlib.Core.Path.{◌≡◌, refl, sym, ap, ◌∙◌}
use native.Mathlib.Numerals.{add-one}
use native.Mathlib.Omega.{arith}
use lib.Dec.{ltb}
use lib.ListN.{length, get_or, set, replicate, length-append}
use lib.Seq.{get_or-set_same, set-set, set-get_or}
use borrow.Author.Tests.{lt-ltb, le-ltb, ne_eqb}
use Rattle.common.proofs.ByteLaws.{length_bytes}
use Rattle.common.proofs.ListLaws.{length_tabulate, get_d_tabulate, tabulate_ext, tabulate_const, set_tabulate}
use Rattle.common.proofs.StreamLaws.{fed_append}
use Rattle.common.proofs.TestLaws.{and_left, and_right, and_false, by_equal}
use Rattle.common.specs.Lists.{tabulate}
use Rattle.common.specs.Streams.{fed_to, fed_all}
use Rattle.reader.proofs.Cutting.{by_bytes, stays, records_are_answered}
use Rattle.reader.proofs.Reached.{climb}
use Rattle.reader.proofs.ReadLaws.{by_bool, by_less}
use Rattle.reader.proofs.SizeLaws.{ids_byte}
use Rattle.reader.specs.declared.Message.{Message}
use Rattle.reader.specs.declared.Message.TheVariants.{Version, Id, Memory, Vector, Disconnected}
use Rattle.reader.specs.Cutting.{one_byte}
use Rattle.reader.specs.Reading.{start, emptied, refusal}
use Rattle.reader.specs.Records.{Record, record_in}
use Rattle.reader.specs.Sizes.{ids}
use Rattle.reader.specs.Steps.{Known, known, result_with, Result, is_version, is_id, id_of, is_memory, version_step, id_step, memory_step, adds}
use Rattle.reader.specs.Steps.{removes, peers_step, read_record}
use Rattle.server.proofs.FreeLaws.{at_joined, at_free, below_next}
use Rattle.server.proofs.JoinedLaws.{joined_below_lem, joined_beyond, with_same, with_other, without_same, without_other}
use Rattle.server.proofs.ListLaws.{each_append, each_one}
use Rattle.server.proofs.RecordLaws.{records_come_back}
use Rattle.server.specs.Clients.{is_joined, joined_with, joined_without, joined_at, joined_below, clients}
use Rattle.server.specs.Histories.{stream, is_plain, all_plain, counts_of}
use Rattle.server.specs.Messages.{each_of, bytes_of, In64Bits, version, own_id, memory, vector_of, vectors_of, has_left, to_joiner}

-- a record has nine bytes
nine : (r : Record) → length (bytes_of r) ≡ 9
unfolding bytes_of
nine r = ap suc (length_bytes 8 _)

stream_more : (rs : List Record) (r : Record) → stream (rs ++ r ∷ []) ≡ stream rs ++ bytes_of r
unfolding stream
stream_more rs r = each_append bytes_of rs (r ∷ []) ∙ ap (λ (l : List ℕ). each_of bytes_of rs ++ l) (each_one bytes_of r)

plain_more : (ms : List Message) (m : Message) → all_plain ms ≡ true → is_plain m ≡ true → all_plain (ms ++ m ∷ []) ≡ true
unfolding all_plain
plain_more [] m e p = rw p
plain_more (x ∷ ms) m e p = rw (and_left (is_plain x) (all_plain ms) e) (plain_more ms m (and_right (is_plain x) (all_plain ms) e) p)

once_more : (r : Record) (n : ℕ) → replicate (suc n) r ≡ replicate n r ++ r ∷ []
once_more r zero = refl
once_more r (suc n) = ap (λ (l : List Record). r ∷ l) (once_more r n)

-- records that are all in their places, and what is known behind them
pub record Told (vectors : ℕ) (rs : List Record) (k : Known) : Type 0 where
  pub messages : List Message
  pub one : length messages ≡ length rs
  pub plain : all_plain messages ≡ true
  pub there : by_bytes vectors start (stream rs) ≡ fed_to (emptied k) messages

module _ (vectors : ℕ) (good : refusal vectors start ≡ 0) where
  pub told_none : Told vectors [] (known 0 0 (replicate ids 0))
  unfolding stream each_of fed_all all_plain
  told_none = record { messages = []; one = refl; plain = refl; there = refl }

  -- one record more, with its message
  told_more : (rs : List Record) (k : Known) (r : Record) (h : Result) → In64Bits r.value → read_record vectors k r ≡ h
      → is_plain h.message ≡ true → Told vectors rs k → Told vectors (rs ++ r ∷ []) h.known
  told_more rs k r h v e p t =
      let kept : refusal vectors (emptied k) ≡ 0 = rw t.there at (stays vectors (stream rs) start refl good).1 in
      let back : read_record vectors k (record_in (bytes_of r)) ≡ h = rw (records_come_back r v) e in
      record {
        messages = t.messages ++ h.message ∷ [];
        one = rw (length-append t.messages (h.message ∷ []), length-append rs (r ∷ []), t.one);
        plain = plain_more t.messages h.message t.plain p;
        there =
            ap (by_bytes vectors start) (stream_more rs r)
            ∙ fed_append (one_byte vectors) start (stream rs) (bytes_of r)
            ∙ rw (t.there, records_are_answered vectors k (bytes_of r) kept (nine r), back);
      }

  -- the version, the own id and the memory
  pub told_start : (own : ℕ) → own < ids → Told vectors (version ∷ own_id own ∷ memory ∷ []) (known 3 own (replicate ids 0))
  unfolding read_record version_step is_version id_step is_id id_of memory_step is_memory is_plain
  told_start own h =
      let none : List ℕ = replicate ids 0 in
      told_more (version ∷ own_id own ∷ []) (known 2 own none) memory (result_with Memory (known 3 own none)) (omega arith) refl refl
      (told_more (version ∷ []) (known 1 0 none) (own_id own) (result_with (Id own) (known 2 own none)) (omega (arith, ids_byte))
      (rw (lt-ltb own ids h)) refl
      (told_more [] (known 0 0 none) version (result_with Version (known 1 0 none)) (omega arith) refl refl told_none))

  -- a vector of an id that has not all of them
  module _ (own id : ℕ) (h : id < ids) where
    told_vector : (rs : List Record) (counts : List ℕ) → get_or counts id 0 < vectors → Told vectors rs (known 3 own counts)
        → Told vectors (rs ++ vector_of id ∷ []) (known 3 own (set counts id (get_or counts id 0 + 1)))
    unfolding read_record peers_step is_id id_of adds is_plain
    told_vector rs counts m t =
        told_more rs (known 3 own counts) (vector_of id)
        (result_with (Vector id (get_or counts id 0 + 1)) (known 3 own (set counts id (get_or counts id 0 + 1))))
        (omega (arith, ids_byte)) (rw (lt-ltb id ids h, lt-ltb (get_or counts id 0) vectors m)) refl t

    -- as many as may be, where it has none
    module _ (rs : List Record) (counts : List ℕ) (b : id < length counts) where
      abbrev So : ℕ → Type 0
      So n = Told vectors (rs ++ replicate n (vector_of id)) (known 3 own (set counts id n))

      so_more : (n : ℕ) → n < vectors → So n → So (suc n)
      so_more n m t =
          let is : get_or (set counts id n) id 0 ≡ n = get_or-set_same counts id n 0 b in
          rw (once_more (vector_of id) n, ← append_assoc rs (replicate n (vector_of id)) (vector_of id ∷ []), ← add-one n)
          (rw (is, set-set counts id n (n + 1)) at (told_vector (rs ++ replicate n (vector_of id)) (set counts id n) (rw is m) t))

      pub told_vectors : get_or counts id 0 ≡ 0 → Told vectors rs (known 3 own counts) → So vectors
      told_vectors z t = climb So vectors (rw (append-nil rs, ← z, set-get_or counts id 0) t) so_more vectors (omega arith)

    -- another peer that has vectors leaves
    pub told_left : (rs : List Record) (counts : List ℕ) → (id ≡ own → ⊥) → 0 < get_or counts id 0 → Told vectors rs (known 3 own counts)
        → Told vectors (rs ++ has_left id ∷ []) (known 3 own (set counts id 0))
    unfolding read_record peers_step is_id id_of removes is_plain
    told_left rs counts o m t =
        told_more rs (known 3 own counts) (has_left id) (result_with (Disconnected id) (known 3 own (set counts id 0))) (omega (arith, ids_byte))
        (rw (lt-ltb id ids h, ne_eqb id own o, lt-ltb 0 (get_or counts id 0) m)) refl t

-- the counts of those ids for which a test holds
abbrev counts_by : (vectors : ℕ) → (ℕ → Bool) → List ℕ
counts_by vectors t = tabulate ids (λ id. cond (t id) vectors 0)

module _ (vectors : ℕ) (t : ℕ → Bool) where
  by_size : length (counts_by vectors t) ≡ ids
  by_size = length_tabulate ids _

  by_here : (id : ℕ) → id < ids → t id ≡ true → get_or (counts_by vectors t) id 0 ≡ vectors
  by_here id h e = get_d_tabulate ids _ id 0 h ∙ rw e

  by_free : (id : ℕ) → id < ids → t id ≡ false → get_or (counts_by vectors t) id 0 ≡ 0
  by_free id h e = get_d_tabulate ids _ id 0 h ∙ rw e

  -- another test, alike but at one id, or everywhere
  by_added : (u : ℕ → Bool) (id : ℕ) → id < ids → u id ≡ true → ((j : ℕ) → (j ≡ id → ⊥) → u j ≡ t j)
      → counts_by vectors u ≡ set (counts_by vectors t) id vectors
  by_added u id h e same =
      set_tabulate ids (λ i. cond (t i) vectors 0) (λ i. cond (u i) vectors 0) id vectors h (rw e) (λ j _ o. rw (same j o))

  by_removed : (u : ℕ → Bool) (id : ℕ) → id < ids → u id ≡ false → ((j : ℕ) → (j ≡ id → ⊥) → u j ≡ t j)
      → counts_by vectors u ≡ set (counts_by vectors t) id 0
  by_removed u id h e same =
      set_tabulate ids (λ i. cond (t i) vectors 0) (λ i. cond (u i) vectors 0) id 0 h (rw e) (λ j _ o. rw (same j o))

  by_same : (u : ℕ → Bool) → ((j : ℕ) → u j ≡ t j) → counts_by vectors u ≡ counts_by vectors t
  by_same u same = tabulate_ext ids _ _ (λ i _. rw (same i))

by_none : (vectors : ℕ) (t : ℕ → Bool) → ((j : ℕ) → t j ≡ false) → counts_by vectors t ≡ replicate ids 0
by_none vectors t none = tabulate_ext ids _ _ (λ i _. rw (none i)) ∙ tabulate_const ids 0

-- what a joiner is told: the others, id after id, then its own vectors
module _ (vectors : ℕ) (good : refusal vectors start ≡ 0) (joined own : ℕ) (h : own < ids) (free : is_joined joined own ≡ false) where
  abbrev up_to : ℕ → ℕ → Bool
  up_to n id = ltb id n && is_joined joined id

  abbrev front : ℕ → List Record
  front n = version ∷ own_id own ∷ memory ∷ each_of (vectors_of vectors) (joined_below n joined)

  abbrev Those : ℕ → Type 0
  Those n = Told vectors (front n) (known 3 own (counts_by vectors (up_to n)))

  those_none : Those 0
  unfolding joined_below each_of
  those_none = rw (by_none vectors (up_to 0) (λ j. rw (le-ltb j 0 (omega arith)))) (told_start vectors good own h)

  -- below a number, and one further
  up_here : (n : ℕ) → up_to n n ≡ false
  up_here n = rw (le-ltb n n (omega arith))

  up_next : (n : ℕ) → is_joined joined n ≡ true → up_to (suc n) n ≡ true
  up_next n e = rw (lt-ltb n (suc n) (omega arith), e)

  up_other : (n j : ℕ) → (j ≡ n → ⊥) → up_to (suc n) j ≡ up_to n j
  up_other n j o =
      by_less j n (λ l. rw (lt-ltb j n l, lt-ltb j (suc n) (omega arith))) (λ l. rw (le-ltb j n l, le-ltb j (suc n) (omega arith)))

  up_free : (n : ℕ) → is_joined joined n ≡ false → (j : ℕ) → up_to (suc n) j ≡ up_to n j
  up_free n e j =
      by_equal j n (λ same. rw (same, e) (and_false (ltb n (suc n)) false refl ∙ sym (and_false (ltb n n) false refl)))
      (λ o. up_other n j o)

  front_next : (n : ℕ) → is_joined joined n ≡ true → front (suc n) ≡ front n ++ vectors_of vectors n
  front_next n e =
      rw (
        below_next joined n,
        each_append (vectors_of vectors) (joined_below n joined) (joined_at joined n),
        at_joined joined n e,
        each_one (vectors_of vectors) n,
      )

  front_same : (n : ℕ) → is_joined joined n ≡ false → front (suc n) ≡ front n
  unfolding each_of
  front_same n e = rw (below_next joined n, at_free joined n e, append-nil (joined_below n joined))

  those_more : (n : ℕ) → n < ids → Those n → Those (suc n)
  those_more n l t =
      by_bool (is_joined joined n)
      (λ e.
      rw (front_next n e, by_added vectors (up_to n) (up_to (suc n)) n l (up_next n e) (up_other n))
      (told_vectors vectors good own n l (front n) (counts_by vectors (up_to n)) (rw (by_size vectors (up_to n)) l)
      (by_free vectors (up_to n) n l (up_here n)) t))
      (λ e. rw (front_same n e, by_same vectors (up_to n) (up_to (suc n)) (up_free n e)) t)

  -- and all of it
  pub told_joiner : Told vectors (to_joiner vectors (clients joined) own) (known 3 own (counts_of vectors (joined_with joined own)))
  unfolding to_joiner counts_of
  told_joiner =
      let t = climb Those ids those_none those_more ids (omega arith) in
      rw (by_added vectors (up_to ids) (is_joined (joined_with joined own)) own h (with_same joined own h free) up_all)
      (told_vectors vectors good own own h (front ids) (counts_by vectors (up_to ids)) (rw (by_size vectors (up_to ids)) h)
      (by_free vectors (up_to ids) own h (and_false (ltb own ids) (is_joined joined own) free)) t)
    where
      up_all : (j : ℕ) → (j ≡ own → ⊥) → is_joined (joined_with joined own) j ≡ up_to ids j
      up_all j o =
          with_other joined own h free j o
          ∙ by_less j ids (λ l. rw (lt-ltb j ids l)) (λ l. rw (le-ltb j ids l) (joined_beyond joined j l))

-- what one that is joined is told of another's join, and of its leave
module _ (vectors : ℕ) (good : refusal vectors start ≡ 0) (joined own id : ℕ) (rs : List Record)
    (t : Told vectors rs (known 3 own (counts_of vectors joined))) where
  pub told_join : (h : id < ids) (free : is_joined joined id ≡ false)
      → Told vectors (rs ++ vectors_of vectors id) (known 3 own (counts_of vectors (joined_with joined id)))
  unfolding counts_of
  told_join h free =
      rw (by_added vectors (is_joined joined) (is_joined (joined_with joined id)) id h (with_same joined id h free) (with_other joined id h free))
      (told_vectors vectors good own id h rs (counts_of vectors joined) (rw (by_size vectors (is_joined joined)) h)
      (by_free vectors (is_joined joined) id h free) t)

  pub told_leave : (e : is_joined joined id ≡ true) → (id ≡ own → ⊥) → 1 ≤ vectors
      → Told vectors (rs ++ has_left id ∷ []) (known 3 own (counts_of vectors (joined_without joined id)))
  unfolding counts_of
  told_leave e o some =
      let h = joined_below_lem joined id e in
      rw (by_removed vectors (is_joined joined) (is_joined (joined_without joined id)) id h (without_same joined id e) (without_other joined id e))
      (told_left vectors good own id h rs (counts_of vectors joined) o (rw (by_here vectors (is_joined joined) id h e) some) t)
