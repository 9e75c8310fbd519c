-- The theorems of specs/Reached: records that lead from the start to every progress and counts that are not refused.
use Prim.Native.Nat.{ℕ, zero, suc, ◌+◌, ◌-◌, ◌^◌, ◌≤◌, ◌<◌}
use mathlib.Core.List.{List, [], ◌∷◌, ◌++◌, append_assoc, append-nil}
use mathlib.Core.Path.{◌≡◌, refl, sym, ap, ◌∙◌}
use native.Mathlib.Omega.{arith}
use native.Mathlib.Numerals.{add-one}
use lib.IntN.{pos, negsuc}
use lib.ListN.{length, take, get_or, set, replicate, length-append, length-replicate}
use lib.Seq.{sets, sets-eq, take_at, take-suc, take_all, set_at, get_or_at, set-get_or, set-set, get_or-set_same, length-take-le, ext_get_or}
use borrow.Author.Tests.{lt-ltb}
use Rattle.common.proofs.StreamLaws.{fed_append}
use Rattle.common.specs.Bytes.{number}
use Rattle.common.specs.Streams.{FedOf, fed_all}
use Rattle.reader.proofs.Cutting.{by_bytes, calls, stays, every_stream_is_read, records_are_answered, parts_are_held}
use Rattle.reader.proofs.GoodLaws.{good_facts, facts_good}
use Rattle.reader.proofs.Keeping.{get_d_zeros, start_is_good}
use Rattle.reader.proofs.SizeLaws.{ids_byte}
use Rattle.reader.specs.declared.Message.{Message}
use Rattle.reader.specs.Cutting.{one_byte}
use Rattle.reader.specs.Reached.{Small, GoodIsReached, ReachedIsGood}
use Rattle.reader.specs.Reading.{State, start, emptied, holding, held_in, known_in, refusal}
use Rattle.reader.specs.Records.{record_of, record_in, signed}
use Rattle.reader.specs.Sizes.{ids}
use Rattle.reader.specs.Steps.{Known, known, is_version, is_id, id_of, is_memory, version_step, id_step, memory_step, adds, peers_step, read_record}

-- bytes with bytes behind them
small_append : (xs ys : List ℕ) → Small xs → Small ys → Small (xs ++ ys)
small_append [] ys f g i = g i
small_append (x ∷ xs) ys f g zero = f 0
small_append (x ∷ xs) ys f g (suc i) = small_append xs ys (λ j. f (suc j)) g i

-- the record of a small number
abbrev numbered : ℕ → ℕ → List ℕ
numbered kind n = kind ∷ n ∷ 0 ∷ 0 ∷ 0 ∷ 0 ∷ 0 ∷ 0 ∷ 0 ∷ []

-- the record of -1 with a descriptor
abbrev memory_record : List ℕ
memory_record = 1 ∷ replicate 8 255

-- they say these numbers
numbered_in : (kind n : ℕ) → n < 256 → record_in (numbered kind n) ≡ record_of kind (pos n)
unfolding record_in signed number
numbered_in kind n h = let e : n + 0 ≡ n = omega arith in rw (e, lt-ltb n (2 ^ 63) (omega arith))

memory_in : record_in memory_record ≡ record_of 1 (negsuc 0)
unfolding record_in signed number
memory_in = refl

-- and are bytes
small_numbered : (kind n : ℕ) → kind < 256 → n < 256 → Small (numbered kind n)
small_numbered kind n k h zero = k
small_numbered kind n k h (suc zero) = h
small_numbered kind n k h (suc (suc i)) = rw (get_d_zeros 7 i) (omega arith)

small_memory : Small memory_record
small_memory zero = omega arith
small_memory (suc i) = all 8 i
  where
    all : (n i : ℕ) → get_or (replicate n 255) i 0 < 256
    all zero i = omega arith
    all (suc n) zero = omega arith
    all (suc n) (suc i) = all n i

-- the first i counts of those wanted, and no vectors for the next id and for n more
abbrev partly : List ℕ → ℕ → ℕ → List ℕ
partly wanted i n = take i wanted ++ 0 ∷ replicate n 0

module _ (wanted : List ℕ) (i n : ℕ) (l : i < length wanted) where
  -- the next id has its place there
  next_in : i < length (partly wanted i n)
  next_in = rw (length-append (take i wanted) (0 ∷ replicate n 0), length-take-le i wanted (omega arith)) (omega arith)

  -- no vectors yet
  next_none : get_or (partly wanted i n) i 0 ≡ 0
  next_none = get_or_at (take i wanted) 0 (replicate n 0) 0 i (length-take-le i wanted (omega arith))

  -- and those wanted once they are put
  next_put : set (partly wanted i n) i (get_or wanted i 0) ≡ take (suc i) wanted ++ replicate n 0
  next_put =
      set_at (take i wanted) 0 (replicate n 0) (get_or wanted i 0) i (length-take-le i wanted (omega arith))
      ∙ sym (ap (λ (l : List ℕ). l ++ replicate n 0) (take-suc wanted i 0 l)
      ∙ append_assoc (take i wanted) (get_or wanted i 0 ∷ []) (replicate n 0))

-- up to a number, step by step
pub climb : (P : ℕ → Type 0) (most : ℕ) → P 0 → ((n : ℕ) → n < most → P n → P (suc n)) → (n : ℕ) → n ≤ most → P n
climb P most first next zero l = first
climb P most first next (suc n) l = next n l (climb P most first next n (omega arith))

-- bytes that lead from the start to what is known, with nothing held
record Leads (vectors : ℕ) (k : Known) : Type 0 where
  bytes : List ℕ
  small : Small bytes
  there : (by_bytes vectors start bytes).machine ≡ emptied k

module _ (vectors : ℕ) (e : refusal vectors start ≡ 0) where
  -- what is led to is not refused
  led_good : (k : Known) → Leads vectors k → refusal vectors (emptied k) ≡ 0
  led_good k l = rw l.there at (stays vectors l.bytes start refl e).1

  -- one record more
  one_more : (k : Known) (r : List ℕ) → length r ≡ 9 → Small r → Leads vectors k → Leads vectors (read_record vectors k (record_in r)).known
  one_more k r n s l =
      record {
        bytes = l.bytes ++ r;
        small = small_append l.bytes r l.small s;
        there =
            ap (λ (x : FedOf Message State). x.machine) (fed_append (one_byte vectors) start l.bytes r)
            ∙ rw (l.there, records_are_answered vectors k r (led_good k l) n);
      }

  -- no record
  at_start : Leads vectors (known 0 0 (replicate ids 0))
  unfolding fed_all
  at_start = record { bytes = []; small = λ i. omega arith; there = refl }

  -- the version
  after_version : Leads vectors (known 1 0 (replicate ids 0))
  unfolding read_record version_step is_version
  after_version =
      rw (numbered_in 0 0 (omega arith)) at
      (one_more (known 0 0 (replicate ids 0)) (numbered 0 0) refl (small_numbered 0 0 (omega arith) (omega arith)) at_start)

  -- our own id
  after_id : (own : ℕ) → own < ids → Leads vectors (known 2 own (replicate ids 0))
  unfolding read_record id_step is_id id_of
  after_id own h =
      let b : own < 256 = omega (arith, ids_byte) in
      rw (numbered_in 0 own b, lt-ltb own ids h) at
      (one_more (known 1 0 (replicate ids 0)) (numbered 0 own) refl (small_numbered 0 own (omega arith) b) after_version)

  -- the memory
  after_memory : (own : ℕ) → own < ids → Leads vectors (known 3 own (replicate ids 0))
  unfolding read_record memory_step is_memory
  after_memory own h =
      rw memory_in at (one_more (known 2 own (replicate ids 0)) memory_record refl small_memory (after_id own h))

  -- one vector more for an id that has not all of them
  one_vector : (own id : ℕ) (counts : List ℕ) → id < ids → get_or counts id 0 < vectors → Leads vectors (known 3 own counts)
      → Leads vectors (known 3 own (set counts id (get_or counts id 0 + 1)))
  unfolding read_record peers_step is_id id_of adds
  one_vector own id counts h m l =
      let b : id < 256 = omega (arith, ids_byte) in
      rw (numbered_in 1 id b, lt-ltb id ids h, lt-ltb (get_or counts id 0) vectors m) at
      (one_more (known 3 own counts) (numbered 1 id) refl (small_numbered 1 id (omega arith) b) l)

  -- vectors for an id that has none
  module _ (own id : ℕ) (counts : List ℕ) (b : id < length counts) (h : id < ids) where
    -- n of them
    abbrev So : ℕ → Type 0
    So n = Leads vectors (known 3 own (set counts id n))

    -- one more
    so_more : (n : ℕ) → n < vectors → So n → So (suc n)
    so_more n m l =
        let is : get_or (set counts id n) id 0 ≡ n = get_or-set_same counts id n 0 b in
        rw (is, set-set counts id n (n + 1), add-one n) at (one_vector own id (set counts id n) h (rw is m) l)

    -- as many as may be configured
    vectors_of_lem : (n : ℕ) → n ≤ vectors → get_or counts id 0 ≡ 0 → Leads vectors (known 3 own counts) → So n
    vectors_of_lem n m z l = climb So vectors (rw (← z, set-get_or counts id 0) l) so_more n m

  -- the counts wanted, id after id
  module _ (own : ℕ) (wanted : List ℕ) (h : own < ids) (size : length wanted ≡ ids) (few : (i : ℕ) → i < ids → get_or wanted i 0 ≤ vectors) where
    -- those of the first i ids, and none of the others
    abbrev Those : ℕ → Type 0
    Those i = Leads vectors (known 3 own (take i wanted ++ replicate (ids - i) 0))

    -- one id more
    next_id : (i : ℕ) → i < ids → Those i → Those (suc i)
    next_id i m before =
        let l : i < length wanted = omega arith in
        let n = ids - suc i in
        let e : ids - i ≡ suc n = omega arith in
        rw (next_put wanted i n l) at
        (vectors_of_lem own i (partly wanted i n) (next_in wanted i n l) m (get_or wanted i 0) (few i m) (next_none wanted i n l) (rw e at before))

    -- all of them
    after_peers : Leads vectors (known 3 own wanted)
    after_peers =
        let none : ids - 0 ≡ ids = omega arith in
        let all : ids - ids ≡ 0 = omega arith in
        rw (all, append-nil (take ids wanted), take_all ids wanted (omega arith)) at
        (climb Those ids (rw none (after_memory own h)) next_id ids (omega arith))

    -- and a record that closes
    after_close_lem : Leads vectors (known 4 own wanted)
    unfolding read_record peers_step is_id
    after_close_lem = rw memory_in at (one_more (known 3 own wanted) memory_record refl small_memory after_peers)

  -- what is not refused, by the step that is due
  led : (due own : ℕ) (counts : List ℕ) → due ≤ 4 → own < ids → length counts ≡ ids → ((i : ℕ) → i < ids → get_or counts i 0 ≤ vectors)
      → (due ≤ 1 → own ≡ 0) → (due ≤ 2 → counts ≡ replicate ids 0) → Leads vectors (known due own counts)
  led zero own counts d h size few unknown none = rw (unknown (omega arith), none (omega arith)) at_start
  led (suc zero) own counts d h size few unknown none = rw (unknown (omega arith), none (omega arith)) after_version
  led (suc (suc zero)) own counts d h size few unknown none = rw (none (omega arith)) (after_id own h)
  led (suc (suc (suc zero))) own counts d h size few unknown none = after_peers own counts h size few
  led (suc (suc (suc (suc zero)))) own counts d h size few unknown none = after_close_lem own counts h size few
  led (suc (suc (suc (suc (suc n))))) own counts d h size few unknown none = absurd (omega arith)

-- counts that are all 0
zeros : (counts : List ℕ) → length counts ≡ ids → ((i : ℕ) → i < ids → get_or counts i 0 ≡ 0) → counts ≡ replicate ids 0
zeros counts size none =
    ext_get_or 0 counts (replicate ids 0) (size ∙ sym (length-replicate ids 0)) (λ i l. none i (rw size at l) ∙ sym (get_d_zeros ids i))

-- bytes put where none are held are those that are held then
held_front : (bytes : List ℕ) → length bytes ≤ 8 → take (0 + length bytes) (sets (replicate 8 0) 0 bytes) ≡ bytes
held_front bytes h =
    let n : 0 + length bytes ≡ length bytes = omega arith in
    rw (n, sets-eq bytes (replicate 8 0) 0 (omega arith)) (take_at bytes _ (length bytes) refl)

-- the records that lead there, then the bytes held
pub good_is_reached : GoodIsReached
good_is_reached vectors s eight e =
    let g = good_facts vectors s e in
    let good = start_is_good vectors g.some g.most in
    let n : length (held_in s) ≡ s.progress.held = length-take-le s.progress.held s.progress.bytes (omega (arith, g.held)) in
    let l = led vectors good s.progress.due s.progress.own s.counts g.due g.own g.size g.counts g.unknown
    (λ d. zeros s.counts g.size (g.none d)) in
    let end : (by_bytes vectors start (l.bytes ++ held_in s)).machine ≡ holding (emptied (known_in s)) (held_in s) =
    ap (λ (x : FedOf Message State). x.machine) (fed_append (one_byte vectors) start l.bytes (held_in s))
    ∙ rw (l.there, parts_are_held vectors (known_in s) (held_in s) (led_good vectors good (known_in s) l) (omega (arith, g.held))) in
    record {
      bytes = l.bytes ++ held_in s;
      messages = (by_bytes vectors start (l.bytes ++ held_in s)).written;
      after = (by_bytes vectors start (l.bytes ++ held_in s)).machine;
      calls = every_stream_is_read vectors start (l.bytes ++ held_in s) good;
      known = ap known_in end;
      held = ap (λ (t : State). t.progress.held) end ∙ omega arith;
      held_bytes = ap held_in end ∙ held_front (held_in s) (omega (arith, g.held));
      small = λ b. small_append l.bytes (held_in s) l.small b;
    }

-- what the bytes leave is not refused, and no test asks for more than is alike
pub reached_is_good : ReachedIsGood
reached_is_good vectors s some most r =
    let good = start_is_good vectors some most in
    let end = ap (λ (x : FedOf Message State). x.machine) (calls vectors refl r.calls) in
    let g = good_facts vectors r.after (rw end at (stays vectors r.bytes start refl good).1) in
    let due : r.after.progress.due ≡ s.progress.due = ap (λ (k : Known). k.due) r.known in
    let own : r.after.progress.own ≡ s.progress.own = ap (λ (k : Known). k.own) r.known in
    let counts : r.after.counts ≡ s.counts = ap (λ (k : Known). k.counts) r.known in
    facts_good vectors s
    (record {
      some = some;
      most = most;
      size = rw counts at g.size;
      due = rw due at g.due;
      own = rw own at g.own;
      held = rw r.held at g.held;
      counts = rw counts at g.counts;
      unknown = rw (due, own) at g.unknown;
      none = rw (due, counts) at g.none;
    })
