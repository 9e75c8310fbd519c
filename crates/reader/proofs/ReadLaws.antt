-- One call: accepted or refused, and that its first byte may be handed in by itself.
use Prim.Native.Nat.{ℕ, suc, ◌+◌, ◌-◌, ◌≤◌, ◌<◌}
use mathlib.Core.Bool.{Bool, true, false}
use mathlib.Core.List.{List, [], ◌∷◌, ◌++◌, append_assoc}
use mathlib.Core.Path.{◌≡◌, refl, sym, ap, ◌∙◌}
use native.Mathlib.Nat.{add-zero}
use native.Mathlib.Numerals.{add-one}
use native.Mathlib.Omega.{arith}
use lib.Dec.{ltb}
use lib.ListN.{length, length-append}
use lib.Seq.{take-suc-set, length-take-le}
use borrow.Author.Tests.{eq-eqb, ne_eqb, ltb-true, ltb-false, lt-ltb, le-ltb}
use Rattle.common.proofs.TestLaws.{by_equal}
use Rattle.reader.proofs.RecordLaws.{record_front}
use Rattle.reader.specs.declared.Message.TheVariants.{More}
use Rattle.reader.specs.Cutting.{Eight}
use Rattle.reader.specs.Reading.{State, Read, gives, holding, held_in, known_in, answered_by, accepted, refusal, refused_by, read}
use Rattle.reader.specs.Records.{Record, record_in}
use Rattle.reader.specs.Steps.{read_record}

-- two ways to go on, by a test and by an order
pub by_bool : {P : Type 0} (t : Bool) → (t ≡ true → P) → (t ≡ false → P) → P
by_bool true f g = f refl
by_bool false f g = g refl

pub by_less : {P : Type 0} (a b : ℕ) → (a < b → P) → (b ≤ a → P) → P
by_less a b f g = by_bool (ltb a b) (λ e. f (ltb-true a b e)) (λ e. g (ltb-false a b e))

module _ (vectors : ℕ) (s : State) (input : List ℕ) where
  pub read_accepted : refusal vectors s ≡ 0 → read vectors s input ≡ accepted vectors s input
  unfolding read
  read_accepted e = rw (eq-eqb _ _ e)

  pub read_refused : (refusal vectors s ≡ 0 → ⊥) → read vectors s input ≡ refused_by (refusal vectors s) s
  unfolding read
  read_refused n = rw (ne_eqb _ _ n)

  -- a call that answers 0 was not refused
  pub accepted_refusal : (read vectors s input).number ≡ 0 → refusal vectors s ≡ 0
  accepted_refusal z =
      by_equal (refusal vectors s) 0 (λ e. e) (λ n. sym (ap (λ (r : Read). r.number) (read_refused n)) ∙ z)

  -- there is no whole record, or there is one
  pub reads_more : length input < 9 - s.progress.held → accepted vectors s input ≡ gives More (length input) (holding s input)
  unfolding accepted
  reads_more l = rw (lt-ltb _ _ l)

  pub reads_whole : 9 - s.progress.held ≤ length input
      → accepted vectors s input ≡ answered_by (9 - s.progress.held) (read_record vectors (known_in s) (record_in (held_in s ++ input)))
  unfolding accepted
  reads_whole l = rw (le-ltb _ _ l)

  -- what holds of both ways holds of what a call gives
  pub by_reads : (P : Read → Type 0) → (length input < 9 - s.progress.held → P (gives More (length input) (holding s input)))
      → (9 - s.progress.held ≤ length input
      → P (answered_by (9 - s.progress.held) (read_record vectors (known_in s) (record_in (held_in s ++ input)))))
      → P (accepted vectors s input)
  by_reads P f g =
      by_less (length input) (9 - s.progress.held) (λ l. rw (reads_more l) (f l)) (λ l. rw (reads_whole l) (g l))

-- nothing handed in changes nothing
pub holding_none : (s : State) → holding s [] ≡ s
holding_none s = rw (add-zero s.progress.held)

-- the first byte by itself: it is held, and the rest comes behind it
module _ (s : State) (x : ℕ) (eight : Eight s) (few : s.progress.held < 8) where
  pub holding_then : (xs : List ℕ) → holding s (x ∷ xs) ≡ holding (holding s (x ∷ [])) xs
  holding_then xs =
      let n : s.progress.held + suc (length xs) ≡ s.progress.held + 1 + length xs = omega arith in
      rw (n, add-one s.progress.held)

  held_then : (xs : List ℕ) → held_in s ++ (x ∷ xs) ≡ held_in (holding s (x ∷ [])) ++ xs
  held_then xs =
      rw (add-one s.progress.held, take-suc-set s.progress.bytes s.progress.held x (omega arith))
      (sym (append_assoc (held_in s) (x ∷ []) xs))

  -- one byte more taken
  abbrev pub later : Read → Read
  later r = record { number = r.number; message = r.message; taken = suc r.taken; state = r.state }

  pub reads_then : (vectors : ℕ) (xs : List ℕ) → accepted vectors s (x ∷ xs) ≡ later (accepted vectors (holding s (x ∷ [])) xs)
  reads_then vectors xs =
      by_reads vectors (holding s (x ∷ [])) xs (λ r. accepted vectors s (x ∷ xs) ≡ later r)
      (λ l. reads_more vectors s (x ∷ xs) (omega arith) ∙ ap (λ (t : State). gives More (suc (length xs)) t) (holding_then xs))
      (λ l.
      let n : 9 - s.progress.held ≡ suc (9 - (s.progress.held + 1)) = omega arith in
      reads_whole vectors s (x ∷ xs) (omega arith) ∙ rw (n, held_then xs))

-- the ninth byte: what comes behind it is not looked at
pub reads_ninth : (vectors : ℕ) (s : State) (x : ℕ) (xs : List ℕ) → Eight s → s.progress.held ≡ 8
    → accepted vectors s (x ∷ xs) ≡ accepted vectors s (x ∷ [])
reads_ninth vectors s x xs eight e =
    let n : 9 - s.progress.held ≡ 1 = omega arith in
    let nine : length (held_in s ++ (x ∷ [])) ≡ 9 =
    length-append (held_in s) (x ∷ []) ∙ ap (λ (n : ℕ). n + 1) (length-take-le s.progress.held s.progress.bytes (omega arith) ∙ e) in
    let same : record_in (held_in s ++ (x ∷ xs)) ≡ record_in (held_in s ++ (x ∷ [])) =
    ap record_in (sym (append_assoc (held_in s) (x ∷ []) xs)) ∙ record_front (held_in s ++ (x ∷ [])) xs (omega arith) in
    reads_whole vectors s (x ∷ xs) (omega arith)
    ∙ ap (λ (r : Record). answered_by (9 - s.progress.held) (read_record vectors (known_in s) r)) same
    ∙ sym (reads_whole vectors s (x ∷ []) (omega arith))
