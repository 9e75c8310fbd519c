-- Our own id is what the second record said (`OwnIsSecond`).
use Prim.Native.Nat.{ℕ, ◌≤◌, ◌<◌}
use mathlib.Core.Bool.{Bool, true, false, cond, ◌&&◌}
use mathlib.Core.List.{List, [], ◌∷◌}
use mathlib.Core.Path.{◌≡◌, refl, sym, ap, ◌∙◌}
use native.Mathlib.Omega.{arith}
use lib.Dec.{leb}
use lib.ListN.{length, take, drop, length-drop, take-append-drop}
use lib.Seq.{take-length}
use borrow.Author.Tests.{le-leb, lt-leb}
use Rattle.common.proofs.StreamLaws.{fed_append}
use Rattle.common.proofs.TestLaws.{by_equal}
use Rattle.common.specs.Streams.{FedOf, fed_all}
use Rattle.reader.proofs.Cutting.{by_bytes, call_is_bytes, calls}
use Rattle.reader.proofs.Keeping.{by_read, good_stays_good}
use Rattle.reader.proofs.ReadLaws.{by_bool, by_less, read_accepted, accepted_refusal, reads_more, reads_whole}
use Rattle.reader.proofs.RecordLaws.{Comes}
use Rattle.reader.specs.declared.Message.{Message}
use Rattle.reader.specs.declared.Message.TheVariants.{More}
use Rattle.reader.specs.Cutting.{Calls, Eight, one_byte}
use Rattle.reader.specs.Keeping.{said_by, own_said, OwnIsSecond}
use Rattle.reader.specs.Reading.{State, Read, start, gives, holding, emptied, known_in, answered_by, read, refusal}
use Rattle.reader.specs.Records.{Record, record_in, without_descriptor}
use Rattle.reader.specs.Steps.{known, Result, is_version, is_id, id_of, version_step, id_step, read_record}

abbrev own_of : State → ℕ
own_of s = s.progress.own

-- once it is known, or closed, it stays
record Settled (s : State) (r : Read) : Type 0 where
  due : 2 ≤ r.state.progress.due
  own : own_of r.state ≡ own_of s

settled_record : {vectors : ℕ} (s : State) {h : Result} → 2 ≤ s.progress.due → Comes vectors (known_in s) h
    → (2 ≤ h.known.due) × (h.known.own ≡ own_of s)
settled_record s d Comes.closing = (omega arith, refl)
settled_record s d (Comes.version e) = absurd (omega arith)
settled_record s d (Comes.own i e l) = absurd (omega arith)
settled_record s d (Comes.memory e) = (omega arith, refl)
settled_record s d (Comes.vector i e l m) = (d, refl)
settled_record s d (Comes.extra i e l m) = (d, refl)
settled_record s d (Comes.disconnected i e l ne p) = (d, refl)

settled : (vectors : ℕ) (s : State) (input : List ℕ) → 2 ≤ s.progress.due → Settled s (read vectors s input)
settled vectors s input d =
    by_read vectors s input (λ r. Settled s r) (record { due = d; own = refl }) (λ _. record { due = d; own = refl })
    (λ h l c. let k = settled_record s d c in record { due = k.0; own = k.1 })

module _ (vectors : ℕ) where
  own_stays : (bytes : List ℕ) (s : State) → 2 ≤ s.progress.due → own_of (by_bytes vectors s bytes).machine ≡ own_of s
  unfolding fed_all
  own_stays [] s d = refl
  own_stays (x ∷ bytes) s d =
      let f = settled vectors s (x ∷ []) d in
      own_stays bytes (read vectors s (x ∷ [])).state f.due ∙ f.own

  -- a stream from a state that holds nothing: less than a record, or a record and the rest
  module _ (s : State) (bytes : List ℕ) (eight : Eight s) (e : refusal vectors s ≡ 0) (none : s.progress.held ≡ 0) where
    part : length bytes < 9 → own_of (by_bytes vectors s bytes).machine ≡ own_of s
    part l =
        let r : read vectors s bytes ≡ gives More (length bytes) (holding s bytes) =
        read_accepted vectors s bytes e ∙ reads_more vectors s bytes (omega arith) in
        let f = rw (r, take-length bytes) at (call_is_bytes vectors bytes s eight e) in
        ap (λ (x : FedOf Message State). own_of x.machine) f

    -- where the first record leaves the reader
    abbrev next : State
    next = emptied (read_record vectors (known_in s) (record_in bytes)).known

    first_read : 9 ≤ length bytes → read vectors s bytes ≡ answered_by 9 (read_record vectors (known_in s) (record_in bytes))
    first_read l = read_accepted vectors s bytes e ∙ reads_whole vectors s bytes (omega arith) ∙ rw none

    first_record : 9 ≤ length bytes → (by_bytes vectors s bytes).machine ≡ (by_bytes vectors next (drop 9 bytes)).machine
    first_record l =
        let f = rw (first_read l) at (call_is_bytes vectors bytes s eight e) in
        ap (λ (b : List ℕ). (by_bytes vectors s b).machine) (sym (take-append-drop 9 bytes))
        ∙ ap (λ (x : FedOf Message State). x.machine) (fed_append (one_byte vectors) s (take 9 bytes) (drop 9 bytes))
        ∙ rw f

    next_good : 9 ≤ length bytes → refusal vectors next ≡ 0
    next_good l = rw (first_read l) at (good_stays_good vectors s bytes e)

-- the first two steps, by what their records say
version_said : (vectors : ℕ) (r : Record) → (is_version r.value && without_descriptor r) ≡ true
    → (read_record vectors (known_in start) r).known ≡ known 1 0 start.counts
unfolding read_record version_step
version_said vectors r e = rw e

version_not : (vectors : ℕ) (r : Record) → (is_version r.value && without_descriptor r) ≡ false
    → (read_record vectors (known_in start) r).known ≡ known 4 0 start.counts
unfolding read_record version_step
version_not vectors r e = rw e

id_said_lem : (vectors : ℕ) (r : Record) (counts : List ℕ)
    → (2 ≤ (read_record vectors (known 1 0 counts) r).known.due)
    × ((read_record vectors (known 1 0 counts) r).known.own ≡ cond (is_id r.value && without_descriptor r) (id_of r.value) 0)
unfolding read_record id_step
id_said_lem vectors r counts = by (is_id r.value && without_descriptor r) refl
  where
    by : (t : Bool) → (is_id r.value && without_descriptor r) ≡ t
        → (2 ≤ (read_record vectors (known 1 0 counts) r).known.due)
        × ((read_record vectors (known 1 0 counts) r).known.own ≡ cond (is_id r.value && without_descriptor r) (id_of r.value) 0)
    by true e = rw e (omega arith, refl)
    by false e = rw e (omega arith, refl)

not_said : (t : Bool) (r : Record) (n : ℕ) → cond t (cond (false && (is_id r.value && without_descriptor r)) n 0) 0 ≡ 0
not_said true r n = refl
not_said false r n = refl

-- the second record, where the first was the version
module _ (vectors : ℕ) (rest counts : List ℕ) (e : refusal vectors (emptied (known 1 0 counts)) ≡ 0) where
  abbrev second : State
  second = emptied (known 1 0 counts)

  abbrev id_said : ℕ
  id_said = cond (is_id (record_in rest).value && without_descriptor (record_in rest)) (id_of (record_in rest).value) 0

  own_by_second : 9 ≤ length rest → own_of (by_bytes vectors second rest).machine ≡ id_said
  own_by_second l =
      let k = id_said_lem vectors (record_in rest) counts in
      rw (first_record vectors second rest refl e refl l)
      (own_stays vectors (drop 9 rest) (emptied (read_record vectors (known 1 0 counts) (record_in rest)).known) k.0 ∙ k.1)

module _ (vectors : ℕ) (bytes : List ℕ) (e : refusal vectors start ≡ 0) where
  abbrev first : Record
  first = record_in bytes

  abbrev Says : Type 0
  Says = own_of (by_bytes vectors start bytes).machine ≡ own_said bytes

  short : length bytes < 9 → Says
  unfolding own_said
  short l = part vectors start bytes refl e refl l ∙ sym (rw (lt-leb 18 (length bytes) (omega arith)))

  -- the first record was no version
  other : 9 ≤ length bytes → (is_version first.value && without_descriptor first) ≡ false → Says
  unfolding own_said said_by
  other l f =
      rw (
        first_record vectors start bytes refl e refl l,
        version_not vectors first f,
        own_stays vectors (drop 9 bytes) (emptied (known 4 0 start.counts)) (omega arith),
        f,
      )
      (sym (not_said (leb 18 (length bytes)) (record_in (drop 9 bytes)) (id_of (record_in (drop 9 bytes)).value)))

  -- it was
  version : 9 ≤ length bytes → (is_version first.value && without_descriptor first) ≡ true → Says
  unfolding own_said said_by
  version l f =
      let k = version_said vectors first f in
      let good : refusal vectors (emptied (known 1 0 start.counts)) ≡ 0 = rw k at (next_good vectors start bytes refl e refl l) in
      let n = length-drop 9 bytes in
      rw (first_record vectors start bytes refl e refl l, k, f)
      (by_less (length (drop 9 bytes)) 9
      (λ m. part vectors (emptied (known 1 0 start.counts)) (drop 9 bytes) refl good refl m ∙ sym (rw (lt-leb 18 (length bytes) (omega arith))))
      (λ m. own_by_second vectors (drop 9 bytes) start.counts good m ∙ sym (rw (le-leb 18 (length bytes) (omega arith)))))

  own_said_lem : Says
  own_said_lem =
      by_less (length bytes) 9 short
      (λ l. by_bool (is_version first.value && without_descriptor first) (λ f. version l f) (λ f. other l f))

pub own_is_second : OwnIsSecond
unfolding own_said
own_is_second vectors bytes messages after c =
    by_equal (refusal vectors start) 0
    (λ e. sym (ap (λ (f : FedOf Message State). own_of f.machine) (calls vectors refl c)) ∙ own_said_lem vectors bytes e)
    (λ ne. refused c ne)
  where
    refused : {after : State} {bytes : List ℕ} {messages : List Message} → Calls vectors start bytes messages after → (refusal vectors start ≡ 0 → ⊥)
        → own_of after ≡ own_said bytes
    refused Calls.none ne = refl
    refused (Calls.call input z rest) ne = absurd (ne (accepted_refusal vectors start input z))
