-- What is known of a progress and counts that are not refused, and that this is all that is asked.
use Prim.Native.Nat.{ℕ, zero, suc, max, ◌≤◌, ◌<◌}
use mathlib.Core.Bool.{Bool, true, false, ◌&&◌, ◌||◌}
use mathlib.Core.List.{List}
use mathlib.Core.Path.{◌≡◌, refl, sym, ap, ◌∙◌}
use native.Mathlib.Numerals.{add-one}
use native.Mathlib.Omega.{arith}
use lib.Dec.{eqb, leb, ltb}
use lib.ListN.{length, take, get_or}
use lib.Seq.{take_all}
use borrow.Author.Tests.{leb-true, ltb-true, ltb-false, eqb-true, le-leb, lt-ltb, le-ltb, eq-eqb, not-false}
use Rattle.std.specs.List.{fold}
use Rattle.std.proofs.lemmas.List.Sums.{fold_more}
use Rattle.common.specs.Tests.{first, every, below}
use Rattle.common.proofs.TestLaws.{and_left, and_right, alike, every_true, first_zero, below_true, true_below, below_ext}
use Rattle.reader.specs.declared.steps.Step.{Step}
use Rattle.reader.specs.declared.steps.Step.TheVariants.{Version, Id, Memory, Peers, Closed}
use Rattle.reader.specs.Parts.{step_number}
use Rattle.reader.specs.Reading.{State, good, refusal}
use Rattle.reader.specs.Sizes.{ids, most_vectors}
use Rattle.reader.specs.Steps.{closed_step}

pub record Good (vectors : ℕ) (s : State) : Type 0 where
  pub some : 1 ≤ vectors
  pub most : vectors ≤ most_vectors
  pub size : length s.counts ≡ ids
  pub due : s.progress.due ≤ 4
  pub own : s.progress.own < ids
  pub held : s.progress.held ≤ 8
  pub counts : (i : ℕ) → i < ids → get_or s.counts i 0 ≤ vectors
  pub unknown : s.progress.due ≤ 1 → s.progress.own ≡ 0
  pub none : s.progress.due ≤ 2 → (i : ℕ) → i < ids → get_or s.counts i 0 ≡ 0

-- the second of two tests where the first fails
other : (a b : Bool) → (a || b) ≡ true → a ≡ false → b ≡ true
other true b e f = let z : ◌≡◌ {A = ℕ} 0 1 = cc in absurd (omega arith)
other false b e f = e

either : (a b : Bool) → (a ≡ false → b ≡ true) → (a || b) ≡ true
either true b h = refl
either false b h = h refl

module _ (vectors : ℕ) (s : State) where
  pub good_facts : refusal vectors s ≡ 0 → Good vectors s
  unfolding refusal good
  good_facts e =
      let one = first_zero 0 _ _ e in
      let two = first_zero 1 _ _ one.1 in
      let ten = first_zero 9 _ _ two.1 in
      let range : leb 1 vectors && leb vectors most_vectors ≡ true = not-false _ one.0 in
      let long : eqb (length s.counts) ids ≡ true = not-false _ two.0 in
      let all : good vectors s ≡ true = not-false _ ten.0 in
      let tests = every_true _ all in
      let within : below ids (λ i. leb (get_or s.counts i 0) vectors) ≡ true = tests 3 in
      let early : (ltb 1 s.progress.due || eqb s.progress.own 0) ≡ true = tests 4 in
      let empty : (ltb 2 s.progress.due || below ids (λ i. eqb (get_or s.counts i 0) 0)) ≡ true = tests 5 in
      record {
        some = leb-true 1 vectors (and_left (leb 1 vectors) (leb vectors most_vectors) range);
        most = leb-true vectors most_vectors (and_right (leb 1 vectors) (leb vectors most_vectors) range);
        size = eqb-true _ _ long;
        due = leb-true _ 4 (tests 0);
        own = ltb-true _ ids (tests 1);
        held = leb-true _ 8 (tests 2);
        counts = λ i h. leb-true _ vectors (below_true ids _ within i h);
        unknown = λ h. eqb-true _ 0 (other _ _ early (le-ltb 1 _ h));
        none = λ h i l. eqb-true _ 0 (below_true ids _ (other _ _ empty (le-ltb 2 _ h)) i l);
      }

  pub facts_good : Good vectors s → refusal vectors s ≡ 0
  unfolding refusal good first every
  facts_good g =
      let within : below ids (λ i. leb (get_or s.counts i 0) vectors) ≡ true =
      true_below ids _ (λ i h. le-leb _ _ (g.counts i h)) in
      let early : (ltb 1 s.progress.due || eqb s.progress.own 0) ≡ true =
      either _ _ (λ e. eq-eqb _ _ (g.unknown (ltb-false 1 _ e))) in
      let empty : (ltb 2 s.progress.due || below ids (λ i. eqb (get_or s.counts i 0) 0)) ≡ true =
      either _ _ (λ e. true_below ids _ (λ i h. eq-eqb _ _ (g.none (ltb-false 2 _ e) i h))) in
      rw (
        le-leb _ _ g.some,
        le-leb _ _ g.most,
        eq-eqb _ _ g.size,
        le-leb _ _ g.due,
        lt-ltb _ _ g.own,
        le-leb _ _ g.held,
        within,
        early,
        empty,
      )

-- a bound on the larger of two numbers is one on both
bound_max : (a b most : ℕ) → leb (max a b) most ≡ (leb a most && leb b most)
bound_max a b most =
    alike (leb (max a b) most) (leb a most && leb b most)
    (λ e. let l = leb-true (max a b) most e in rw (le-leb a most (omega arith), le-leb b most (omega arith)))
    (λ e.
    let l = leb-true a most (and_left (leb a most) (leb b most) e) in
    let k = leb-true b most (and_right (leb a most) (leb b most) e) in
    le-leb (max a b) most (omega arith))

-- a bound on the largest of a front is one on each of its numbers
bound_front : (l : List ℕ) (most n : ℕ) → n ≤ length l → leb (fold max 0 (take n l)) most ≡ below n (λ i. leb (get_or l i 0) most)
unfolding below
bound_front l most zero h = le-leb 0 most (omega arith)
bound_front l most (suc n) h =
    rw (← add-one n, fold_more max 0 l n 0 (omega arith), bound_max, bound_front l most n (omega arith))

pub bound_largest : (l : List ℕ) (most : ℕ) → leb (fold max 0 l) most ≡ below (length l) (λ i. leb (get_or l i 0) most)
bound_largest l most =
    ap (λ (front : List ℕ). leb (fold max 0 front) most) (sym (take_all (length l) l (omega arith))) ∙ bound_front l most (length l) (omega arith)

-- a number that is no more than 0 is 0
pub bound_zero : (n : ℕ) → leb n 0 ≡ eqb n 0
bound_zero n =
    alike (leb n 0) (eqb n 0) (λ e. let l = leb-true n 0 e in eq-eqb n 0 (omega arith)) (λ e. let q = eqb-true n 0 e in le-leb n 0 (omega arith))

-- no count is above 0 exactly where every count is 0
pub none_within : (l : List ℕ) (n : ℕ) → below n (λ i. leb (get_or l i 0) 0) ≡ below n (λ i. eqb (get_or l i 0) 0)
none_within l n = below_ext n _ _ (λ i h. bound_zero (get_or l i 0))

-- a step's number is a known one
pub step_known : (s : Step) → leb (step_number s) closed_step ≡ true
step_known Version = refl
step_known Id = refl
step_known Memory = refl
step_known Peers = refl
step_known Closed = refl
