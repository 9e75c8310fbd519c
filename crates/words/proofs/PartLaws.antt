-- Laws of specs/Parts.antt: values stored one by one, and all at once.
use Prim.Native.Nat.{ℕ, ◌+◌, ◌-◌, ◌*◌, ◌≤◌, ◌<◌}
use mathlib.Core.Bool.{Bool, true, false}
use mathlib.Core.Logic.{⊎_elim}
use mathlib.Core.Path.{◌≡◌, refl, sym, subst, fun_ext, ◌∙◌}
use mathlib.Core.List.{List}
use native.Mathlib.Nat.{not-suc-le-zero, le_of_suc-le-suc, eq-or-lt_of_le, mul-lt-mul_of_pos_right}
use native.Mathlib.Numerals.{add-one}
use native.Mathlib.Omega.{arith}
use borrow.Author.Tests.{ltb-true, ltb-false}
use borrow.Rule.Slice.PartMut.{put_mid, same_len_mid}
use lib.Dec.{ltb}
use lib.ListN.{length, set, take, drop, replicate, length-set, length-replicate, length-drop, get_or-append, get_or-replicate}
use lib.Seq.{get_or-set_same, get_or-set_other, get_or-take, length-take-le}
use Rattle.device.specs.declared.Entry.{Entry}
use Rattle.std.proofs.lemmas.List.{get_or-append_right, get_or-drop}
use Rattle.words.specs.Layout.{word}
use Rattle.words.specs.Parts.{entry_words, Copied, Filled}

pub copied_none : (a : List ℕ) (place : ℕ → ℕ) (values : List ℕ) → Copied a a place values 0
copied_none a place values = record { there = λ r h. absurd (not-suc-le-zero h); kept = λ k away. refl }

-- places a step apart are different
steps_apart : (at step r n : ℕ) → 0 < step → r < n → at + r * step ≡ at + n * step → ⊥
steps_apart at step r n pos l e = let s : r * step < n * step = mul-lt-mul_of_pos_right l pos in omega arith

pub copied_more : (a b : List ℕ) (at step : ℕ) (values : List ℕ) (n : ℕ) → 0 < step → at + n * step < length b
    → Copied a b (λ r. at + r * step) values n
    → Copied a (set b (at + n * step) (word values n)) (λ r. at + r * step) values (n + 1)
copied_more a b at step values n pos inside old =
    record {
      there = λ r h. ⊎_elim (λ e. rw e (get_or-set_same b (at + n * step) (word values n) 0 inside))
          (λ l. get_or-set_other b (at + n * step) (at + r * step) (word values n) 0 (steps_apart at step r n pos l) ∙ old.there r l)
          (eq-or-lt_of_le (le_of_suc-le-suc (rw add-one at h)));
      kept = λ k away. get_or-set_other b (at + n * step) k (word values n) 0 (away n (omega arith)) ∙ old.kept k (λ r l. away r (omega arith));
    }

-- the same places under another name
pub copied_at : {a b : List ℕ} {place other : ℕ → ℕ} {values : List ℕ} {n : ℕ} → ((r : ℕ) → place r ≡ other r)
    → Copied a b place values n → Copied a b other values n
copied_at {a} {b} {place} {other} {values} {n} e copied =
    subst (λ (p : ℕ → ℕ). Copied a b p values n) (fun_ext e) copied

-- the four words of an entry, stored one by one
pub copied_entry : (a : List ℕ) (at step : ℕ) (e : Entry) → 0 < step → at + 3 * step < length a
    → Copied a (set (set (set (set a at e.low) (at + step) e.high) (at + 2 * step) e.payload) (at + 3 * step) e.control)
    (λ r. at + r * step) (entry_words e) 4
copied_entry a at step e pos inside =
    let first : at + 0 * step ≡ at = omega arith in
    let second : at + 1 * step ≡ at + step = omega arith in
    let vs = entry_words e in
    let one = copied_more a a at step vs 0 pos (omega arith) (copied_none a _ vs) in
    let two = copied_more a _ at step vs 1 pos (simp length-set (omega arith)) one in
    let three = copied_more a _ at step vs 2 pos (simp length-set (omega arith)) two in
    rw (first, second) at (copied_more a _ at step vs 3 pos (simp length-set inside) three)

-- values written over a part of the words
pub copied_part : (a values : List ℕ) (at n : ℕ) → at ≤ length a → length values ≡ n → Copied a (put_mid at n a values) (λ r. at + r) values n
copied_part a values at n inside size =
    record {
      there = λ r h. there r (rw (← size) at h);
      kept = λ k away. kept k away (ltb k at) refl;
    }
  where
    front : length (take at a) ≡ at
    front = length-take-le at a inside

    there : (r : ℕ) → r < length values → word (put_mid at n a values) (at + r) ≡ word values r
    there r h =
        let e : at + r - at ≡ r = omega arith in
        get_or-append_right (take at a) _ at (at + r) 0 front (omega arith) ∙ rw e (get_or-append values _ 0 r h)

    beyond : (k : ℕ) → ((r : ℕ) → r < n → k ≡ at + r → ⊥) → at ≤ k → (t : Bool) → ltb (k - at) n ≡ t → at + n ≤ k
    beyond k away l true t = absurd (away (k - at) (ltb-true (k - at) n t) (omega arith))
    beyond k away l false t = omega (arith, ltb-false (k - at) n t)

    kept : (k : ℕ) → ((r : ℕ) → r < n → k ≡ at + r → ⊥) → (t : Bool) → ltb k at ≡ t → word (put_mid at n a values) k ≡ word a k
    kept k away true t =
        let l : k < at = ltb-true k at t in
        get_or-append (take at a) _ 0 k (omega (arith, front)) ∙ get_or-take at a k 0 l
    kept k away false t =
        let l : at ≤ k = ltb-false k at t in
        let past : at + n ≤ k = beyond k away l (ltb (k - at) n) refl in
        let e : at + (n + (k - at - n)) ≡ k = omega arith in
        get_or-append_right (take at a) _ at k 0 front l
        ∙ get_or-append_right values _ n (k - at) 0 size (omega arith)
        ∙ get_or-drop n (drop at a) (k - at - n) 0
        ∙ get_or-drop at a (n + (k - at - n)) 0
        ∙ rw e

-- and one value in all of them
pub filled_part : (a : List ℕ) (at n value : ℕ) → at ≤ length a → Filled a (put_mid at n a (replicate n value)) at value n
filled_part a at n value inside =
    let copied = copied_part a (replicate n value) at n inside (length-replicate n value) in
    record { there = λ r h. copied.there r h ∙ get_or-replicate n r value 0 h; kept = copied.kept }

-- the words are as many as before
pub part_length : (a values : List ℕ) (at n : ℕ) → at + n ≤ length a → length values ≡ n → length (put_mid at n a values) ≡ length a
part_length a values at n inside size =
    same_len_mid at n a values (size ∙ sym (length-take-le n (drop at a) (omega (arith, length-drop at a))))
