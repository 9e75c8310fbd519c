-- Laws of specs/Scanned.antt: one peer more, with or without the end of a run. First the runs.
use Prim.Native.Nat.{ℕ, ◌+◌, ◌-◌, ◌≤◌, ◌<◌}
use mathlib.Core.Bool.{Bool, true, false, cond, ◌&&◌}
use mathlib.Core.List.{List}
use mathlib.Core.Path.{◌≡◌, refl, sym, ap, ◌∙◌}
use native.Mathlib.Numerals.{add-one}
use native.Mathlib.Omega.{arith}
use mir.Val.{bool_byte as from_bool}
use Rattle.std.specs.Bool.{then_some}
use Rattle.std.specs.Prelude.{MatchOption}
use Rattle.common.proofs.TestLaws.{and_true, and_false, and_assoc, by_equal, below_suc, below_add, below_ext, below_both}
use Rattle.common.specs.Tests.{below}
use Rattle.device.specs.declared.Entry.{Entry}
use Rattle.device.specs.declared.Settings.{Settings}
use Rattle.device.specs.Reset.{reset_peer}
use Rattle.device.specs.Sound.{peer_fixed, peer_reset, entry_fixed, entry_reset, entry_sound}
use Rattle.device.specs.World.{Hub, slot_at}
use Rattle.words.specs.Layout.{hub_of, Known}
use Rattle.words.specs.Runs.{run_of}
use Rattle.soundness.specs.declared.whole.Peers.{Peers}
use Rattle.soundness.specs.declared.runs.Scan.{Scan}
use Rattle.soundness.specs.declared.runs.Standing.{Standing}
use Rattle.soundness.specs.Scanned.{joined, stands, absent_registers, Failed, Seen, Scanned, Uniform, entries_sound, entries_from}
use Rattle.soundness.specs.Together.{together}
use Rattle.soundness.proofs.TogetherLaws.{fixed_together, reset_together, none_fixed, none_reset}

-- the test of a run's entries is each entry's own, where its peers are alike
pub uniform_run : (ws : List ℕ) (from to : ℕ) (standing : Standing) (t : Entry → Bool) → Uniform ws from to standing
    → ((e : Entry) → t e ≡ cond (stands standing) (entry_fixed e) (entry_reset e)) → run_of (hub_of ws) from to t ≡ entries_from (hub_of ws) from to
unfolding run_of entries_from entry_sound
uniform_run ws from to standing t u same =
    below_ext (to - from) _ _
    (λ k h. below_ext (hub_of ws).settings.vectors _ _ (λ v _. rw (u.alike (from + k) (omega arith) (omega (arith, u.order))) (same _)))

-- a run with no peer has nothing to test
pub empty_run : (hub : Hub) (from to : ℕ) → to ≤ from → true ≡ entries_from hub from to
unfolding entries_from below
empty_run hub from to h = let e : to - from ≡ 0 = omega arith in rw e

-- the tests of a run complete those of the peers below it
run_tested : (ws : List ℕ) (from i : ℕ) → from ≤ i
    → (below from (entries_sound (hub_of ws)) && entries_from (hub_of ws) from i) ≡ below i (entries_sound (hub_of ws))
unfolding entries_from
run_tested ws from i h =
    let e : from + (i - from) ≡ i = omega arith in
    sym (below_add from (i - from) (entries_sound (hub_of ws))) ∙ ap (λ (n : ℕ). below n (entries_sound (hub_of ws))) e

-- what fails below one number fails below a larger one
pub below_stops : (i n : ℕ) (t : ℕ → Bool) → i ≤ n → below i t ≡ false → below n t ≡ false
below_stops i n t h e =
    let end : i + (n - i) ≡ n = omega arith in
    sym (ap (λ (m : ℕ). below m t) end) ∙ below_add i (n - i) t ∙ ap (λ (b : Bool). b && below (n - i) (λ k. t (i + k))) e

module _ (ws : List ℕ) where
  pub scan_first : (standing : Standing) → Scanned ws 0 (record { from = 0; standing = standing })
  unfolding below
  scan_first standing = record { run = record { order = omega arith; known = omega arith; alike = λ k l h. absurd (omega arith) }; tested = refl }

  -- a fault in one more peer's registers
  pub registers_fail : (i : ℕ) → absent_registers ws i ≡ false → Failed ws (i + 1)
  registers_fail i e = rw (add-one, below_suc i (absent_registers ws), and_false (below i (absent_registers ws)) (absent_registers ws i) e)

  pub failed_more : (i n : ℕ) → i ≤ n → Failed ws i → Failed ws n
  failed_more i n h e =
      sym (below_both n (absent_registers ws) (entries_sound (hub_of ws)))
      ∙ below_stops i n _ h (below_both i (absent_registers ws) (entries_sound (hub_of ws)) ∙ e)

  module _ (i : ℕ) (x : Scan) (known : Known ws i) (p : Scanned ws i x) where
    -- a fault in the entries of the run that ends here
    pub run_fails : entries_from (hub_of ws) x.from i ≡ false → Failed ws (i + 1)
    run_fails e =
        failed_more i (i + 1) (omega arith)
        (and_false (below i (absent_registers ws)) (below i (entries_sound (hub_of ws)))
        (sym (run_tested ws x.from i p.run.order) ∙ and_false (below x.from (entries_sound (hub_of ws))) (entries_from (hub_of ws) x.from i) e))

    -- one more peer's registers
    more_registers : absent_registers ws i ≡ true → (below (i + 1) (absent_registers ws) && below x.from (entries_sound (hub_of ws))) ≡ true
    more_registers h = rw (add-one, below_suc i (absent_registers ws), h, and_true (below i (absent_registers ws))) p.tested

    -- the run goes on
    pub scan_same : absent_registers ws i ≡ true → joined ws i ≡ stands x.standing → Scanned ws (i + 1) x
    scan_same h same =
        record {
          run =
              record {
                order = omega (arith, p.run.order);
                known = omega (arith, known);
                alike = λ k l u. by_equal k i (λ (q : k ≡ i). rw q same) (λ d. p.run.alike k l (omega arith));
              };
          tested = more_registers h;
        }

    -- the run ends here: its entries are tested too, and another begins
    pub scan_changed : absent_registers ws i ≡ true → entries_from (hub_of ws) x.from i ≡ true → (standing : Standing) → joined ws i ≡ stands standing
        → Scanned ws (i + 1) (record { from = i; standing = standing })
    scan_changed h e standing same =
        record {
          run =
              record {
                order = omega arith;
                known = omega (arith, known);
                alike = λ k l u. let q : k ≡ i = omega arith in rw q same;
              };
          tested =
              sym (ap (λ (b : Bool). below (i + 1) (absent_registers ws) && b) (run_tested ws x.from i p.run.order))
              ∙ sym (and_assoc (below (i + 1) (absent_registers ws)) (below x.from (entries_sound (hub_of ws))) (entries_from (hub_of ws) x.from i))
              ∙ ap (λ (b : Bool). b && entries_from (hub_of ws) x.from i) (more_registers h)
              ∙ e;
        }

    pub scan_ended : absent_registers ws i ≡ true → (r : Bool) → r ≡ entries_from (hub_of ws) x.from i → (standing : Standing) → joined ws i ≡ stands standing
        → MatchOption (then_some r (record { from = i; standing = standing })) (Failed ws (i + 1)) (Scanned ws (i + 1))
    scan_ended h true e standing same = scan_changed h (sym e) standing same
    scan_ended h false e standing same = run_fails (sym e)

  -- after the last run
  pub scan_last : (n : ℕ) (x : Scan) → Scanned ws n x
      → entries_from (hub_of ws) x.from n ≡ (below n (absent_registers ws) && below n (entries_sound (hub_of ws)))
  scan_last n x p =
      ap (λ (b : Bool). b && entries_from (hub_of ws) x.from n) (sym p.tested)
      ∙ and_assoc (below n (absent_registers ws)) (below x.from (entries_sound (hub_of ws))) (entries_from (hub_of ws) x.from n)
      ∙ ap (λ (b : Bool). below n (absent_registers ws) && b) (run_tested ws x.from n p.run.order)

  -- one run is all
  pub one_run : (n : ℕ) → entries_from (hub_of ws) 0 n ≡ below n (entries_sound (hub_of ws))
  unfolding below
  one_run n = run_tested ws 0 n (omega arith)

-- an id of the slots is one of the hub
pub known_id : (ws : List ℕ) (s : Settings) (i : ℕ) → s ≡ (hub_of ws).settings → i < s.peers → Known ws i
known_id ws s i e h = omega (arith, ap (λ (s : Settings). s.peers) e)

-- The registers.

pub one_more : (t : Bool) (x : ℕ) → x ≡ from_bool t → x ≤ 1
one_more true x e = omega arith
one_more false x e = omega arith

module _ (ws : List ℕ) (s : Settings) where
  pub seen_first : Seen ws s 0 (record { all = reset_peer 0; connected = 0 })
  unfolding below
  seen_first =
      record {
        few = omega arith;
        all = λ e k h. absurd (omega arith);
        none = λ e k h. absurd (omega arith);
        fixed = none_fixed s;
        reset = none_reset;
      }

  module _ (i : ℕ) (x : Peers) (p : Seen ws s i x) where
    more_fixed : peer_fixed s (together x.all (slot_at (hub_of ws) i).peer) ≡ below (i + 1) (λ k. peer_fixed s (slot_at (hub_of ws) k).peer)
    more_fixed = rw (add-one, below_suc, fixed_together, p.fixed)

    more_reset : peer_reset (together x.all (slot_at (hub_of ws) i).peer) ≡ below (i + 1) (λ k. peer_reset (slot_at (hub_of ws) k).peer)
    more_reset = rw (add-one, below_suc, reset_together, p.reset)

    -- a connected peer is counted
    pub seen_more : (t : Bool) → joined ws i ≡ t
        → Seen ws s (i + 1) (record { all = together x.all (slot_at (hub_of ws) i).peer; connected = x.connected + from_bool t })
    seen_more true here =
        record {
          few = omega (arith, p.few);
          all = λ q k h. by_equal k i (λ (r : k ≡ i). rw r here) (λ d. p.all (omega arith) k (omega arith));
          none = λ q k h. absurd (omega arith);
          fixed = more_fixed;
          reset = more_reset;
        }
    seen_more false here =
        record {
          few = omega (arith, p.few);
          all = λ q k h. absurd (omega (arith, p.few));
          none = λ q k h. by_equal k i (λ (r : k ≡ i). rw r here) (λ d. p.none (omega arith) k (omega arith));
          fixed = more_fixed;
          reset = more_reset;
        }
