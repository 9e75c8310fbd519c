-- The theorems of specs/Keeping but for that of our own id: what is accepted stays accepted, what messages mean, how counts change,
-- and that nothing changes after a close.
use Prim.Native.Nat.{ℕ, zero, suc, ◌+◌, ◌-◌, ◌/◌, ◌≤◌, ◌<◌}
use mathlib.Core.List.{List, ◌++◌}
use mathlib.Core.Logic.{inl, inr}
use mathlib.Core.Path.{◌≡◌, refl, sym, ap, ◌∙◌}
use native.Mathlib.Omega.{arith}
use lib.ListN.{length, take, get_or, set, replicate, length-append, length-set, length-replicate}
use lib.Seq.{get_or-set_same, get_or-set_other, length-take-le}
use Rattle.common.proofs.ListLaws.{get_d_set}
use Rattle.common.proofs.TestLaws.{by_equal}
use Rattle.reader.proofs.GoodLaws.{Good, good_facts, facts_good}
use Rattle.reader.proofs.ReadLaws.{read_accepted, read_refused, by_reads}
use Rattle.reader.proofs.RecordLaws.{Comes, comes}
use Rattle.reader.proofs.SizeLaws.{ids_pos}
use Rattle.reader.specs.declared.Message.{Message}
use Rattle.reader.specs.declared.Message.TheVariants.{More, Closed}
use Rattle.reader.specs.Cutting.{Calls, is_more, without_more}
use Rattle.reader.specs.Keeping.{StartIsGood, GoodStaysGood, Same, Means, MessagesAreTrue, CountAfter, CountsRiseByOne, ClosedStays}
use Rattle.reader.specs.Reading.{State, Read, start, gives, holding, emptied, answered_by, known_in, held_in, accepted, read, refusal, refused_by}
use Rattle.reader.specs.Records.{record_in}
use Rattle.reader.specs.Sizes.{ids}
use Rattle.reader.specs.Steps.{Known, counted, Result, closes}

pub get_d_zeros : (n i : ℕ) → ◌≡◌ {A = ℕ} (get_or (replicate n 0) i 0) 0
get_d_zeros zero i = refl
get_d_zeros (suc n) zero = refl
get_d_zeros (suc n) (suc i) = get_d_zeros n i

pub start_is_good : StartIsGood
start_is_good vectors h l =
    facts_good vectors start
    (record {
      some = h;
      most = l;
      size = length-replicate ids 0;
      due = omega arith;
      own = ids_pos;
      held = omega arith;
      counts = λ i b. rw (get_d_zeros ids i) (omega arith);
      unknown = λ _. refl;
      none = λ _ i b. get_d_zeros ids i;
    })

-- what is known after a record, with nothing held: early, and once the peers' step is reached
early : {vectors : ℕ} {s : State} → Good vectors s → (k : Known) → k.due ≤ 2 → k.own < ids → k.counts ≡ s.counts → s.progress.due ≤ 2
    → (k.due ≤ 1 → k.own ≡ 0) → Good vectors (emptied k)
early g k d l e before unknown =
    record {
      some = g.some;
      most = g.most;
      size = rw e g.size;
      due = omega arith;
      own = l;
      held = omega arith;
      counts = rw e g.counts;
      unknown = unknown;
      none = λ _. rw e (g.none before);
    }

late : {vectors : ℕ} {s : State} → Good vectors s → (k : Known) → 3 ≤ k.due → k.due ≤ 4 → k.own < ids → length k.counts ≡ ids
    → ((i : ℕ) → i < ids → get_or k.counts i 0 ≤ vectors) → Good vectors (emptied k)
late g k low high l size counts =
    record {
      some = g.some;
      most = g.most;
      size = size;
      due = high;
      own = l;
      held = omega arith;
      counts = counts;
      unknown = λ b. absurd (omega arith);
      none = λ b. absurd (omega arith);
    }

-- one count replaced
module _ {vectors : ℕ} {s : State} (g : Good vectors s) (d : s.progress.due ≡ 3) (id n : ℕ) (l : n ≤ vectors) where
  replaced : Good vectors (emptied (counted (known_in s) id n))
  replaced =
      late g (counted (known_in s) id n) (omega arith) (omega arith) g.own (length-set s.counts id n ∙ g.size)
      (λ i b. get_d_set (λ x. x ≤ vectors) s.counts id i n 0 (λ _. l) (g.counts i b))

after_record : {vectors : ℕ} {s : State} {h : Result} → Good vectors s → Comes vectors (known_in s) h → Good vectors (emptied h.known)
after_record g Comes.closing = late g _ (omega arith) (omega arith) g.own g.size g.counts
after_record g (Comes.version d) = early g _ (omega arith) g.own refl (omega arith) (λ _. g.unknown (omega arith))
after_record g (Comes.own id d l) = early g _ (omega arith) l refl (omega arith) (λ b. absurd (omega arith))
after_record g (Comes.memory d) = late g _ (omega arith) (omega arith) g.own g.size g.counts
after_record g (Comes.vector id d l m) = replaced g d id _ (omega arith)
after_record g (Comes.extra id d l m) = late g _ (omega arith) (omega arith) g.own g.size g.counts
after_record g (Comes.disconnected id d l ne p) = replaced g d id 0 (omega arith)

-- bytes held
more_held : {vectors : ℕ} (s : State) (input : List ℕ) → Good vectors s → length input < 9 - s.progress.held → Good vectors (holding s input)
more_held s input g l =
    record {
      some = g.some;
      most = g.most;
      size = g.size;
      due = g.due;
      own = g.own;
      held = omega arith;
      counts = g.counts;
      unknown = g.unknown;
      none = g.none;
    }

pub good_after : (vectors : ℕ) (s : State) (input : List ℕ) → Good vectors s → Good vectors (accepted vectors s input).state
good_after vectors s input g =
    by_reads vectors s input (λ r. Good vectors r.state) (λ l. more_held s input g l)
    (λ _. after_record g (comes vectors (known_in s) (record_in (held_in s ++ input))))

pub good_stays_good : GoodStaysGood
good_stays_good vectors s input e =
    facts_good vectors (read vectors s input).state
    (rw (read_accepted vectors s input e) (good_after vectors s input (good_facts vectors s e)))

-- counts
same_count : (vectors id n : ℕ) (m : Message) → n ≤ vectors → CountAfter vectors id n n m
same_count vectors id n m l = record { within = l; one = omega arith; how = inl refl }

-- the count of one id where that of another, or its own, was replaced
module _ (vectors id at n : ℕ) (counts : List ℕ) (m : Message) (few : get_or counts id 0 ≤ vectors) (here : at < length counts) where
  one_replaced : (at ≡ id → CountAfter vectors id (get_or counts id 0) n m) → CountAfter vectors id (get_or counts id 0) (get_or (set counts at n) id 0) m
  one_replaced same =
      by_equal id at
      (λ (e : id ≡ at). rw (e, get_or-set_same counts at n 0 here, ← e) (same (sym e)))
      (λ ne. rw (get_or-set_other counts at id n 0 ne) (same_count vectors id (get_or counts id 0) m few))

count_after : {vectors : ℕ} {s : State} {h : Result} → Good vectors s → Comes vectors (known_in s) h → (id : ℕ) → id < ids
    → CountAfter vectors id (get_or s.counts id 0) (get_or h.known.counts id 0) h.message
count_after {vectors} {s} g Comes.closing id b = same_count vectors id _ _ (g.counts id b)
count_after {vectors} {s} g (Comes.version d) id b = same_count vectors id _ _ (g.counts id b)
count_after {vectors} {s} g (Comes.own i d l) id b = same_count vectors id _ _ (g.counts id b)
count_after {vectors} {s} g (Comes.memory d) id b = same_count vectors id _ _ (g.counts id b)
count_after {vectors} {s} g (Comes.extra i d l m) id b = same_count vectors id _ _ (g.counts id b)
count_after {vectors} {s} g (Comes.vector i d l m) id b =
    one_replaced vectors id i _ s.counts _ (g.counts id b) (rw g.size l)
    (λ (e : i ≡ id).
    let f : get_or s.counts id 0 < vectors = rw e at m in
    rw e (record { within = omega arith; one = omega arith; how = inr (inl (refl, refl)) }))
count_after {vectors} {s} g (Comes.disconnected i d l ne p) id b =
    one_replaced vectors id i 0 s.counts _ (g.counts id b) (rw g.size l)
    (λ (e : i ≡ id). rw e (record { within = omega arith; one = omega arith; how = inr (inr (refl, refl)) }))

pub counts_rise_by_one : CountsRiseByOne
counts_rise_by_one vectors s input e id b =
    let g = good_facts vectors s e in
    rw (read_accepted vectors s input e)
    (by_reads vectors s input (λ r. CountAfter vectors id (get_or s.counts id 0) (get_or r.state.counts id 0) r.message)
    (λ _. same_count vectors id _ _ (g.counts id b))
    (λ _. count_after g (comes vectors (known_in s) (record_in (held_in s ++ input))) id b))

-- a call, accepted or refused
pub by_read : (vectors : ℕ) (s : State) (input : List ℕ) (P : Read → Type 0) → P (refused_by (refusal vectors s) s)
    → (length input < 9 - s.progress.held → P (gives More (length input) (holding s input)))
    → ((h : Result) → 9 - s.progress.held ≤ length input → Comes vectors (known_in s) h → P (answered_by (9 - s.progress.held) h))
    → P (read vectors s input)
by_read vectors s input P refused more whole =
    by_equal (refusal vectors s) 0
    (λ e. rw (read_accepted vectors s input e)
    (by_reads vectors s input P more (λ l. whole _ l (comes vectors (known_in s) (record_in (held_in s ++ input))))))
    (λ ne. rw (read_refused vectors s input ne) refused)

-- no more is taken than there is
taken_within_lem : (vectors : ℕ) (s : State) (input : List ℕ) → refusal vectors s ≡ 0 → (read vectors s input).taken ≤ length input
taken_within_lem vectors s input e =
    rw (read_accepted vectors s input e) (by_reads vectors s input (λ r. r.taken ≤ length input) (λ _. omega arith) (λ l. l))

-- messages
true_record : {vectors : ℕ} {s : State} {h : Result} → Good vectors s → Comes vectors (known_in s) h
    → Means vectors h.message s (emptied h.known)
true_record g Comes.closing = (refl, record { own = refl; counts = refl })
true_record g (Comes.version d) = record { own = refl; counts = refl }
true_record g (Comes.own id d l) = (l, (refl, refl))
true_record g (Comes.memory d) = record { own = refl; counts = refl }
true_record g (Comes.vector id d l m) = (l, (refl, (omega arith, record { own = refl; counts = refl })))
true_record {vectors} {s} g (Comes.extra id d l m) =
    let full : get_or s.counts id 0 ≡ vectors = omega (arith, g.counts id l) in
    (l, (refl, (full, record { own = refl; counts = refl })))
true_record g (Comes.disconnected id d l ne p) = (l, (ne, (p, record { own = refl; counts = refl })))

pub messages_are_true : MessagesAreTrue
messages_are_true vectors s input e =
    let g = good_facts vectors s e in
    rw (read_accepted vectors s input e)
    (by_reads vectors s input (λ r. Means vectors r.message s r.state) (λ _. record { own = refl; counts = refl })
    (λ _. true_record g (comes vectors (known_in s) (record_in (held_in s ++ input)))))

-- after a close only one way is left
closed_only : {vectors : ℕ} (s : State) {h : Result} → s.progress.due ≡ 4 → Comes vectors (known_in s) h → h ≡ closes (known_in s)
closed_only s c Comes.closing = refl
closed_only s c (Comes.version d) = absurd (omega arith)
closed_only s c (Comes.own i d l) = absurd (omega arith)
closed_only s c (Comes.memory d) = absurd (omega arith)
closed_only s c (Comes.vector i d l m) = absurd (omega arith)
closed_only s c (Comes.extra i d l m) = absurd (omega arith)
closed_only s c (Comes.disconnected i d l ne p) = absurd (omega arith)

-- what a call then leaves, and how many records it has answered with its bytes and those held
pub record Silent (s : State) (r : Read) : Type 0 where
  pub due : r.state.progress.due ≡ 4
  pub kept : Same s r.state
  pub messages : (n : ℕ) → without_more r.message ++ replicate ((r.state.progress.held + n) / 9) Closed
      ≡ replicate ((s.progress.held + (r.taken + n)) / 9) Closed

closed_call : (vectors : ℕ) (s : State) (input : List ℕ) → s.progress.due ≡ 4 → refusal vectors s ≡ 0 → Silent s (read vectors s input)
unfolding without_more is_more
closed_call vectors s input d e =
    let g = good_facts vectors s e in
    rw (read_accepted vectors s input e)
    (by_reads vectors s input (λ r. Silent s r)
    (λ l. record {
      due = d;
      kept = record { own = refl; counts = refl };
      messages = λ n.
          let q : s.progress.held + length input + n ≡ s.progress.held + (length input + n) = omega arith in
          ap (λ (k : ℕ). replicate (k / 9) Closed) q;
    })
    (λ l.
    rw (closed_only s d (comes vectors (known_in s) (record_in (held_in s ++ input))))
    (record {
      due = refl;
      kept = record { own = refl; counts = refl };
      messages = λ n.
          let q : suc ((0 + n) / 9) ≡ (s.progress.held + (9 - s.progress.held + n)) / 9 = omega (arith, g.held) in
          ap (λ (k : ℕ). replicate k Closed) q;
    })))

same_then : {a b c : State} → Same a b → Same b c → Same a c
same_then f g = record { own = g.own ∙ f.own; counts = g.counts ∙ f.counts }

pub closed_stays : ClosedStays
closed_stays vectors s after bytes messages e d c = by c d e
  where
    by : {s after : State} {bytes : List ℕ} {messages : List Message} → Calls vectors s bytes messages after → s.progress.due ≡ 4
        → refusal vectors s ≡ 0
        → Same s after × ((after.progress.due ≡ 4) × (messages ≡ replicate ((s.progress.held + length bytes) / 9) Closed))
    by {s} Calls.none d e =
        let g = good_facts vectors s e in
        let q : 0 ≡ (s.progress.held + 0) / 9 = omega (arith, g.held) in
        (record { own = refl; counts = refl }, (d, ap (λ (k : ℕ). replicate k Closed) q))
    by {s} (Calls.call {bytes = bytes} {messages = messages} input z rest) d e =
        let f = closed_call vectors s input d e in
        let g = by rest f.due (good_stays_good vectors s input e) in
        let n : length (take (read vectors s input).taken input ++ bytes) ≡ (read vectors s input).taken + length bytes =
        length-append (take (read vectors s input).taken input) bytes
        ∙ ap (λ (k : ℕ). k + length bytes) (length-take-le (read vectors s input).taken input (taken_within_lem vectors s input e)) in
        (same_then f.kept g.0, (g.1.0, rw (n, g.1.1) (f.messages (length bytes))))
