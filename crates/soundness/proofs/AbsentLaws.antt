-- Laws of specs/Absent.antt: a run of absent peers, and the next one.
use Prim.Native.Nat.{ℕ, suc, ◌+◌, ◌-◌, ◌^◌, ◌≤◌, ◌<◌}
use mathlib.Core.Bool.{Bool, true, false, ◌&&◌}
use mathlib.Core.List.{List}
use mathlib.Core.Path.{◌≡◌, sym, ap, ◌∙◌}
use native.Mathlib.Omega.{arith}
use Rattle.std.specs.Prelude.{Option, Some, None, MatchOption}
use Rattle.common.proofs.TestLaws.{by_equal, below_suc, below_add, below_ext, below_both, true_below}
use Rattle.common.specs.Tests.{below}
use Rattle.device.specs.Sound.{peer_reset, entry_reset}
use Rattle.device.specs.World.{slot_at}
use Rattle.words.specs.Layout.{hub_of, Known}
use Rattle.words.specs.Runs.{run_of}
use Rattle.words.proofs.LayoutLaws.{known_inside}
use Rattle.soundness.specs.declared.absent.Gap.{Gap}
use Rattle.soundness.specs.Absent.{absent_slot, Here, NextAbsent, Vacant, gap_reset}
use Rattle.soundness.specs.Scanned.{joined}
use Rattle.soundness.specs.Together.{together}
use Rattle.soundness.proofs.TogetherLaws.{reset_together}

-- a hub has few peers
pub few_peers : (ws : List ℕ) → (hub_of ws).settings.peers ≤ 2 ^ 16
few_peers ws =
    by_equal (hub_of ws).settings.peers 0
    (λ e. omega arith)
    (λ d.
    let last : Known ws ((hub_of ws).settings.peers - 1) = omega arith in
    omega (arith, known_inside ws _ last))

pub next_told : (ws : List ℕ) (from peers : ℕ) (r : Option ℕ)
    → MatchOption r ((k : ℕ) → from ≤ k → k < peers → joined ws k ≡ true)
    (λ i. (from ≤ i) × (i < peers) × (joined ws i ≡ false) × ((k : ℕ) → from ≤ k → k < i → joined ws k ≡ true))
    → NextAbsent ws from peers r
next_told ws from peers None h = h
next_told ws from peers (Some i) h = record { order = h.0; passed = h.3; here = record { below = h.1; absent = h.2 } }

module _ (ws : List ℕ) where
  -- the run begins with one peer, and takes one more
  pub gap_first : (peers from : ℕ) → Here ws peers from
      → Vacant ws peers (record { from = from; to = from + 1; all = (slot_at (hub_of ws) from).peer })
  unfolding below
  gap_first peers from h =
      record {
        some = omega arith;
        most = omega (arith, h.below);
        absent = λ k l u. let q : k ≡ from = omega arith in rw q h.absent;
        reset =
            let one : from + 1 - from ≡ suc 0 = omega arith in
            let same : from + 0 ≡ from = omega arith in
            rw (one, same);
      }

  pub gap_more : (peers : ℕ) (gap : Gap) → Vacant ws peers gap → gap.to < peers → joined ws gap.to ≡ false
      → Vacant ws peers (record { from = gap.from; to = gap.to + 1; all = together gap.all (slot_at (hub_of ws) gap.to).peer })
  gap_more peers gap v h e =
      record {
        some = omega (arith, v.some);
        most = omega arith;
        absent = λ k l u. by_equal k gap.to (λ (q : k ≡ gap.to). rw q e) (λ d. v.absent k l (omega arith));
        reset =
            let one : gap.to + 1 - gap.from ≡ suc (gap.to - gap.from) = omega (arith, v.some) in
            let same : gap.from + (gap.to - gap.from) ≡ gap.to = omega (arith, v.some) in
            rw (one, below_suc (gap.to - gap.from), same, reset_together gap.all (slot_at (hub_of ws) gap.to).peer, v.reset);
      }

  -- registers and entries of a run
  pub gap_tested : (peers : ℕ) (gap : Gap) → Vacant ws peers gap
      → (peer_reset gap.all && run_of (hub_of ws) gap.from gap.to entry_reset) ≡ gap_reset ws gap.from gap.to
  unfolding run_of
  gap_tested peers gap v =
      ap (λ (b : Bool). b && run_of (hub_of ws) gap.from gap.to entry_reset) v.reset ∙ sym (below_both (gap.to - gap.from) _ _)

  -- connected peers have nothing to be tested
  pub present_more : (i j : ℕ) → i ≤ j → ((k : ℕ) → i ≤ k → k < j → joined ws k ≡ true) → below i (absent_slot ws) ≡ true
      → below j (absent_slot ws) ≡ true
  present_more i j h here e =
      let end : i + (j - i) ≡ j = omega arith in
      let rest : below (j - i) (λ k. absent_slot ws (i + k)) ≡ true = true_below (j - i) _ (λ k l. rw (here (i + k) (omega arith) (omega arith))) in
      sym (ap (λ (m : ℕ). below m (absent_slot ws)) end) ∙ below_add i (j - i) (absent_slot ws)
      ∙ ap (λ (b : Bool). b && below (j - i) (λ k. absent_slot ws (i + k))) e ∙ rest

  -- the absent peers below the next are tested, and nothing is found
  abbrev pub Passed : ℕ → Option ℕ → Type 0
  Passed peers None = below peers (absent_slot ws) ≡ true
  Passed peers (Some i) = Here ws peers i × (below i (absent_slot ws) ≡ true)

  pub passed_next : (i peers : ℕ) (next : Option ℕ) → i ≤ peers → NextAbsent ws i peers next → below i (absent_slot ws) ≡ true → Passed peers next
  passed_next i peers None h n e = present_more i peers h n e
  passed_next i peers (Some j) h n e = (n.here, present_more i j n.order n.passed e)

  -- what is found in a run is found in all up to its end
  pub gap_passed : (peers from : ℕ) (gap : Gap) → gap.from ≡ from → Vacant ws peers gap → below from (absent_slot ws) ≡ true
      → below gap.to (absent_slot ws) ≡ gap_reset ws gap.from gap.to
  gap_passed peers from gap start v e =
      let end : gap.from + (gap.to - gap.from) ≡ gap.to = omega (arith, v.some) in
      let run : below (gap.to - gap.from) (λ k. absent_slot ws (gap.from + k)) ≡ gap_reset ws gap.from gap.to =
      below_ext (gap.to - gap.from) _ _ (λ k h. rw (v.absent (gap.from + k) (omega arith) (omega (arith, v.some)))) in
      let before : below gap.from (absent_slot ws) ≡ true = rw start e in
      sym (ap (λ (m : ℕ). below m (absent_slot ws)) end) ∙ below_add gap.from (gap.to - gap.from) (absent_slot ws)
      ∙ ap (λ (b : Bool). b && below (gap.to - gap.from) (λ k. absent_slot ws (gap.from + k))) before ∙ run
