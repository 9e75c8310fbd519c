-- Which section holds a range: the search through all sections comes to the one that division names.
use Prim.Native.Nat.{ℕ, zero, suc, ◌+◌, ◌*◌, ◌-◌, ◌/◌, ◌≤◌, ◌<◌}
use mathlib.Core.Bool.{Bool, true, false, cond, ◌&&◌}
use mathlib.Core.Path.{◌≡◌, refl, sym, ap, ◌∙◌}
use native.Mathlib.Nat.{mul-le-mul_right, div-eq_of_lt-le, div-mul-le_self}
use native.Mathlib.Omega.{arith}
use lib.Arith.{lt_of_le-ne}
use lib.Dec.{leb, leb-zero}
use borrow.Author.Tests.{leb-true, leb-false, le-leb, lt-leb}
use Rattle.common.proofs.TestLaws.{and_left, and_right, and_false}
use Rattle.device.specs.declared.SectionKind.{SectionKind}
use Rattle.device.specs.declared.SectionKind.TheVariants.{Nothing, StateTable, ReadWrite, Output}
use Rattle.device.specs.declared.Settings.{Settings}
use Rattle.device.specs.Ring.{peer_id}
use Rattle.device.specs.SetUp.{total}
use Rattle.device.specs.Sections.{outputs, sections, section_in, section_of, somewhere}

-- the output section of peer k holds the range
abbrev pub held_by : Settings → ℕ → ℕ → ℕ → Bool
held_by s offset length k =
    leb (s.table + s.common + k * s.output) offset
    && leb (offset + length) (s.table + s.common + k * s.output + s.output)

module _ (s : Settings) (offset length : ℕ) where
  -- no output section of the list holds the range
  pub none_holds : (n i : ℕ) → ((k : ℕ) → i ≤ k → k < i + n → held_by s offset length k ≡ false) →
      section_in offset length (outputs s i n) ≡ Nothing
  unfolding section_in outputs
  none_holds zero i h = refl
  none_holds (suc n) i h =
      rw (h i (omega arith) (omega arith)) (none_holds n (suc i) (λ k a b. h k (omega arith) (omega arith)))

  -- the one that holds it is found, where a section that holds it can only be this one
  pub one_holds : (q n i : ℕ) → i ≤ q → q < i + n → held_by s offset length q ≡ true →
      ((k : ℕ) → held_by s offset length k ≡ true → k ≡ q) → section_in offset length (outputs s i n) ≡ Output (peer_id q)
  unfolding section_in outputs
  one_holds q zero i a b t u = absurd (omega arith)
  one_holds q (suc n) i a b t u =
      by (held_by s offset length i) refl (λ l. one_holds q n (suc i) l (omega arith) t u)
    where
      by : (x : Bool) → held_by s offset length i ≡ x →
          (suc i ≤ q → section_in offset length (outputs s (suc i) n) ≡ Output (peer_id q)) →
          cond (held_by s offset length i) (Output (peer_id i)) (section_in offset length (outputs s (suc i) n)) ≡ Output (peer_id q)
      by true e later = rw e (ap (λ (k : ℕ). Output (peer_id k)) (u i e))
      by false e later =
          let differs : i ≡ q → ⊥ = λ z. (let w : ◌≡◌ {A = ℕ} 0 1 = cc in absurd (omega arith)) in
          rw e (later (lt_of_le-ne a differs))

  first_fits : (k : ℕ) → held_by s offset length k ≡ true → s.table + s.common + k * s.output ≤ offset
  first_fits k e = leb-true _ _ (and_left (leb (s.table + s.common + k * s.output) offset) _ e)

  last_fits : (k : ℕ) → held_by s offset length k ≡ true → offset + length ≤ s.table + s.common + k * s.output + s.output
  last_fits k e =
      leb-true _ _
      (and_right
      (leb (s.table + s.common + k * s.output) offset)
      (leb (offset + length) (s.table + s.common + k * s.output + s.output))
      e)

  -- a section that holds a range is the one in which its first byte lies
  pub held_is : 0 < length → (k : ℕ) → held_by s offset length k ≡ true → k ≡ (offset - (s.table + s.common)) / s.output
  held_is p k e =
      let a = first_fits k e in
      let b = last_fits k e in
      let low : k * s.output ≤ offset - (s.table + s.common) = omega arith in
      let high : offset - (s.table + s.common) < (k + 1) * s.output = omega arith in
      sym (div-eq_of_lt-le s.output low high)

  pub held : (k : ℕ) → s.table + s.common + k * s.output ≤ offset →
      offset + length ≤ s.table + s.common + k * s.output + s.output → held_by s offset length k ≡ true
  held k a b =
      rw (
        le-leb (s.table + s.common + k * s.output) offset a,
        le-leb (offset + length) (s.table + s.common + k * s.output + s.output) b,
      )

  -- what is not true of a section that holds the range makes the test false
  pub not_held : (k : ℕ) → (held_by s offset length k ≡ true → ⊥) → held_by s offset length k ≡ false
  not_held k h = by (held_by s offset length k) refl
    where
      by : (x : Bool) → held_by s offset length k ≡ x → held_by s offset length k ≡ false
      by true e = absurd (h e)
      by false e = e

  pub before_outputs : 0 < length → offset < s.table + s.common → (k : ℕ) → held_by s offset length k ≡ false
  before_outputs p h k = not_held k (λ e. let a = first_fits k e in omega arith)

  pub no_outputs : 0 < length → s.output ≡ 0 → (k : ℕ) → held_by s offset length k ≡ false
  no_outputs p z k =
      not_held k (λ e. let a = first_fits k e in let b = last_fits k e in omega arith)

  -- a section that ends before the range does, does not hold it
  ends_before : (start size : ℕ) → start + size < offset + length →
      (leb start offset && leb (offset + length) (start + size)) ≡ false
  ends_before start size h = and_false (leb start offset) _ (lt-leb (offset + length) (start + size) h)

  -- nothing lies beyond the whole
  pub beyond : total s < offset + length → section_of s offset length ≡ Nothing
  unfolding section_of sections section_in total
  beyond h =
      let none : (k : ℕ) → 0 ≤ k → k < 0 + s.peers → held_by s offset length k ≡ false =
      (λ k a b.
      let less : suc k ≤ s.peers = omega arith in
      let m : suc k * s.output ≤ s.peers * s.output = mul-le-mul_right s.output less in
      ends_before (s.table + s.common + k * s.output) s.output (omega arith)) in
      rw (
        ends_before 0 s.table (omega arith),
        ends_before s.table s.common (omega arith),
      )
      (none_holds s.peers 0 none)

  -- the five ways that the code goes, with q the section that the first byte lies in
  pub none_before : 0 < length → offset < s.table + s.common → section_in offset length (outputs s 0 s.peers) ≡ Nothing
  none_before p h = none_holds s.peers 0 (λ k a b. before_outputs p h k)

  pub none_empty : 0 < length → s.output ≡ 0 → section_in offset length (outputs s 0 s.peers) ≡ Nothing
  none_empty p z = none_holds s.peers 0 (λ k a b. no_outputs p z k)

  pub none_past : 0 < length → s.peers ≤ (offset - (s.table + s.common)) / s.output →
      section_in offset length (outputs s 0 s.peers) ≡ Nothing
  none_past p h =
      none_holds s.peers 0 (λ k a b. not_held k (λ e. omega (arith, held_is p k e)))

  pub none_cut : 0 < length →
      s.table + s.common + (offset - (s.table + s.common)) / s.output * s.output + s.output < offset + length →
      section_in offset length (outputs s 0 s.peers) ≡ Nothing
  none_cut p h =
      none_holds s.peers 0
      (λ k a b.
      not_held k
      (λ e. let l = rw (held_is p k e) at (last_fits k e) in omega arith))

  pub found : 0 < length → s.table + s.common ≤ offset → (offset - (s.table + s.common)) / s.output < s.peers →
      offset + length ≤ s.table + s.common + (offset - (s.table + s.common)) / s.output * s.output + s.output →
      section_in offset length (outputs s 0 s.peers) ≡ Output (peer_id ((offset - (s.table + s.common)) / s.output))
  found p h q l =
      let m : (offset - (s.table + s.common)) / s.output * s.output ≤ offset - (s.table + s.common) =
      div-mul-le_self (offset - (s.table + s.common)) s.output in
      one_holds ((offset - (s.table + s.common)) / s.output) s.peers 0 (omega arith) (omega arith)
      (held ((offset - (s.table + s.common)) / s.output) (omega arith) l)
      (held_is p)

  -- the search through all sections, by the tests of the first two
  pub in_table_lem : offset + length ≤ s.table → section_of s offset length ≡ StateTable
  unfolding section_of sections section_in
  in_table_lem h = rw (leb-zero offset, le-leb (offset + length) (0 + s.table) (omega arith))

  past_table : s.table < offset + length →
      section_of s offset length
      ≡ cond (leb s.table offset && leb (offset + length) (s.table + s.common)) ReadWrite
      (section_in offset length (outputs s 0 s.peers))
  unfolding section_of sections section_in
  past_table h = rw (ends_before 0 s.table (omega arith))

  pub in_common : s.table < offset + length → s.table ≤ offset → offset + length ≤ s.table + s.common → section_of s offset length ≡ ReadWrite
  in_common h a b = past_table h ∙ rw (le-leb s.table offset a, le-leb (offset + length) (s.table + s.common) b)

  pub in_outputs : s.table < offset + length → (s.table ≤ offset → s.table + s.common < offset + length) →
      section_of s offset length ≡ section_in offset length (outputs s 0 s.peers)
  in_outputs h past = past_table h ∙ go (leb s.table offset) refl
    where
      go : (x : Bool) → leb s.table offset ≡ x →
          cond (leb s.table offset && leb (offset + length) (s.table + s.common)) ReadWrite (section_in offset length (outputs s 0 s.peers))
          ≡ section_in offset length (outputs s 0 s.peers)
      go true e = rw (e, lt-leb (offset + length) (s.table + s.common) (past (leb-true _ _ e)))
      go false e = rw e

  -- a range that lies in a section lies in the region
  pub held_fits : somewhere (section_of s offset length) ≡ true → offset + length ≤ total s
  unfolding somewhere
  held_fits e = by (leb (offset + length) (total s)) refl
    where
      by : (b : Bool) → leb (offset + length) (total s) ≡ b → offset + length ≤ total s
      by true f = leb-true _ _ f
      by false f =
          let past : somewhere (section_of s offset length) ≡ false =
          ap (λ (k : SectionKind). somewhere k) (beyond (leb-false _ _ f)) in
          let z : ◌≡◌ {A = ℕ} 0 1 = cc in
          absurd (omega arith)
