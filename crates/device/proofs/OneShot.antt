-- One-shot mode over a stretch of a history: each call keeps the balance of interrupts, Interrupt Control and the peer's own stores
-- to it, and so does any list of calls.
use Prim.Native.Nat.{ℕ, zero, suc, ◌+◌, ◌≤◌, ◌<◌}
use mathlib.Core.Bool.{Bool, true, false, cond}
use mathlib.Core.List.{List, [], ◌∷◌, ◌++◌}
use mathlib.Core.Path.{◌≡◌, refl, sym, ap, subst, ◌∙◌}
use native.Mathlib.Omega.{arith}
use borrow.Author.Tests.{eqb-true, eq-eqb, ne_eqb, ltb-true, ltb-false}
use lib.Bits.{bit_and, and_le_r}
use lib.Dec.{eqb, ltb}
use lib.ListN.{length, get_or-eq_default}
use Rattle.common.specs.Bytes.{bit}
use Rattle.common.specs.Tests.{every}
use Rattle.common.proofs.TestLaws.{and_left, and_right, and_false, every_true, every_false, by_equal}
use Rattle.device.specs.declared.Peer.{Peer}
use Rattle.device.specs.declared.Settings.{Settings}
use Rattle.device.specs.Call.{Act, Call, call}
use Rattle.device.specs.Call.Act.{disconnect, reset, register_write}
use Rattle.device.specs.Effect.{register_stored, effect, rung_peer, rung_vector}
use Rattle.device.specs.History.{Observation, start, after, observed, deliveries_to, answer_to}
use Rattle.device.specs.OneShot.{peer_of, interrupt_control, one_shot, throughout, interrupts, turns_act}
use Rattle.device.specs.OneShot.{turns, one, count, times_set, times_cleared, OneShotLimits}
use Rattle.device.specs.Refusal.{is_connected, refusal}
use Rattle.device.specs.Registers.{Register, register_at, memory_on}
use Rattle.device.specs.SetUp.{accepted}
use Rattle.device.specs.Sound.{peer_fixed, peer_reset, peer_sound, slot_sound}
use Rattle.device.specs.Step.{Ran, Outcome, run, run_all, refused, done, effect_in, step}
use Rattle.device.specs.World.{Slot, World, zero_slot, reset_slot, slot_at}
use Rattle.device.proofs.FixedLaws.{fixed_facts}
use Rattle.device.proofs.HistoryLaws.{Fit, start_fit, step_fit}
use Rattle.device.proofs.KeepingLaws.{Frame}
use Rattle.device.proofs.OneShotLaws.{interrupts_both, nothing_kept, Settled, Kept, First, Left, rings_settle, own_left, announces_first, effect_first}
use Rattle.device.proofs.SeenLaws.{Sight, view, sight, reach, all_seen}
use Rattle.device.proofs.StepLaws.{never, accepted_effect, refused_changes_nothing}

-- Interrupt Control is 0 or 1 in every sound slot, and so in every world of a history.
sound_control : (s : Settings) (slot : Slot) → slot_sound s slot ≡ true → slot.peer.interrupt ≤ 1
unfolding slot_sound peer_sound peer_reset
sound_control s slot e = go (eqb slot.peer.connected 1) (and_left (peer_sound s slot.peer) _ e)
  where
    go : (t : Bool) → cond t (peer_fixed s slot.peer) (peer_reset slot.peer) ≡ true → slot.peer.interrupt ≤ 1
    go true f =
        let i : ℕ = slot.peer.interrupt in
        let same : bit_and i 1 ≡ i = eqb-true (bit_and i 1) i (fixed_facts s slot.peer f).interrupt in
        omega (arith, and_le_r i 1)
    go false f = omega (arith, eqb-true slot.peer.interrupt 0 (every_true _ f 6))

-- an id has a slot, or lies beyond the last
by_slot : {P : Type 0} (w : World) (b : ℕ) → (b < length w.hub.slots → P) → (slot_at w.hub b ≡ zero_slot → P) → P
by_slot {P} w b has none = go (ltb b (length w.hub.slots)) refl
  where
    go : (t : Bool) → ltb b (length w.hub.slots) ≡ t → P
    go true e = has (ltb-true b (length w.hub.slots) e)
    go false e = none (get_or-eq_default w.hub.slots zero_slot (ltb-false b (length w.hub.slots) e))

pub control_bit : (s : Settings) (w : World) → Fit s w → (b : ℕ) → interrupt_control b w ≤ 1
unfolding zero_slot
control_bit s w f b =
    by_slot w b
    (λ (l : b < length w.hub.slots). sound_control s (slot_at w.hub b) (f.slots b (rw (ap (λ (x : Frame). x.slots) f.fixed) at l)))
    (λ (none : slot_at w.hub b ≡ zero_slot).
    let off : interrupt_control b w ≡ 0 = ap (λ (slot : Slot). slot.peer.interrupt) none in
    omega arith)

-- a connected peer's id has a slot
pub has_slot : (w : World) (b : ℕ) → is_connected w b ≡ true → b < length w.hub.slots
unfolding is_connected zero_slot
has_slot w b c = by_slot w b (λ l. l) (λ (none : slot_at w.hub b ≡ zero_slot). never (rw none at c))

-- One call, in a world of a history, of a peer that has one-shot on before and after it.

abbrev Balanced : ℕ → World → Call → Type 0
Balanced b w c =
    interrupts (deliveries_to b (step w c).deliveries) + interrupt_control b (step w c).world + one (turns 1 0 b w c)
    ≡ one (turns 0 1 b w c) + interrupt_control b w

-- what the peer sees of it
abbrev seen_of : ℕ → Outcome → Sight
seen_of b o = record { view = view b o.world; heard = deliveries_to b o.deliveries }

module _ (s : Settings) (w : World) (f : Fit s w) (b : ℕ) (before : one_shot b w ≡ true) where
  near : b < length w.hub.slots
  unfolding one_shot
  near = has_slot w b (and_left (is_connected w b) _ before)

  mode : bit 0 (peer_of b w).privileged ≡ true
  unfolding one_shot
  mode = and_right (is_connected w b) _ before

  small : interrupt_control b w ≤ 1
  small = control_bit s w f b

  taken_sight : (c : Call) → refusal w c ≡ 0 → (mine : Bool) → eqb c.who b ≡ mine
      → seen_of b (step w c) ≡ sight b (run_all b w (reach b mine (effect_in w c).operations))
  taken_sight c r mine m =
      ap (λ (o : Outcome). seen_of b o) (accepted_effect w c r)
      ∙ all_seen b c.who mine m (effect_in w c).operations w w refl

  -- whether the call turns Interrupt Control
  turns_refused : (old new : ℕ) (c : Call) → (refusal w c ≡ 0 → ⊥) → turns old new b w c ≡ false
  unfolding turns
  turns_refused old new c n = every_false _ 1 (ne_eqb (refusal w c) 0 n)

  turns_other : (old new : ℕ) (c : Call) → (c.who ≡ b → ⊥) → turns old new b w c ≡ false
  unfolding turns
  turns_other old new c d = every_false _ 0 (ne_eqb c.who b d)

  turns_own : (old new : ℕ) (c : Call) → c.who ≡ b → refusal w c ≡ 0 → turns old new b w c ≡ turns_act old new (peer_of b w) c.act
  unfolding turns every
  turns_own old new c e r = rw (eq-eqb c.who b e, eq-eqb (refusal w c) 0 r)

  refused_call : (c : Call) → (refusal w c ≡ 0 → ⊥) → Balanced b w c
  unfolding deliveries_to interrupts
  refused_call c n = rw (refused_changes_nothing w c n, turns_refused 1 0 c n, turns_refused 0 1 c n) (omega arith)

  others_call : (c : Call) → (c.who ≡ b → ⊥) → refusal w c ≡ 0 → Balanced b w c
  others_call c d r =
      let settled = rings_settle b false (effect_in w c).operations (λ e. never e) w near in
      let level = (subst (λ (x : Sight). Settled (slot_at w.hub b) x) (sym (taken_sight c r false (ne_eqb c.who b d))) settled).level mode small in
      rw (turns_other 1 0 c d, turns_other 0 1 c d) (omega arith)

  own_sight : (P : Slot → Type 0) (a : Act) → refusal w (call b a) ≡ 0
      → First P (slot_at w.hub b) (effect_in w (call b a)).operations → Left P (seen_of b (step w (call b a)))
  own_sight P a r h =
      subst (λ (x : Sight). Left P x) (sym (taken_sight (call b a) r true (eq-eqb b b refl)))
      (own_left b P (effect_in w (call b a)).operations w near h)

  own_call : (a : Act) → refusal w (call b a) ≡ 0 → one_shot b (step w (call b a)).world ≡ true → Balanced b w (call b a)
  unfolding one_shot
  own_call a r later =
      let p : Peer = peer_of b w in
      let left = own_sight (Kept p (turns_act 0 1 p a) (turns_act 1 0 p a)) a r (effect_first w.hub.settings b (slot_at w.hub b) w.region a) in
      let on : bit 0 left.slot.peer.privileged ≡ true = rw left.settled.mode at (and_right (is_connected (step w (call b a)).world b) _ later) in
      let kept = left.holds small on in
      let level = left.settled.level on kept.0 in
      rw (turns_own 1 0 (call b a) refl r, turns_own 0 1 (call b a) refl r) (omega (arith, kept.1))

  pub call_balanced : (c : Call) → one_shot b (step w c).world ≡ true → Balanced b w c
  call_balanced c later =
      by_equal (refusal w c) 0
      (λ (r : refusal w c ≡ 0). by_equal c.who b (λ (e : c.who ≡ b). mine e r) (λ d. others_call c d r))
      (refused_call c)
    where
      mine : c.who ≡ b → refusal w c ≡ 0 → Balanced b w c
      mine e r =
          subst (λ (k : ℕ). refusal w (call k c.act) ≡ 0 → one_shot b (step w (call k c.act)).world ≡ true → Balanced b w (call k c.act)) (sym e)
          (own_call c.act) r later

  -- that the peer isn't reset follows: a reset or a disconnect of the peer turns one-shot off
  restart_ends : (a : Act) → refusal w (call b a) ≡ 0
      → First (λ new. bit 0 new.peer.privileged ≡ false) (slot_at w.hub b) (effect_in w (call b a)).operations
      → one_shot b (step w (call b a)).world ≡ false
  unfolding one_shot
  restart_ends a r h =
      let left = own_sight (λ new. bit 0 new.peer.privileged ≡ false) a r h in
      and_false (is_connected (step w (call b a)).world b) _ (rw left.settled.mode left.holds)

  pub reset_ends : (n : ℕ) → refusal w (call b (reset n)) ≡ 0 → one_shot b (step w (call b (reset n))).world ≡ false
  unfolding effect reset_slot
  reset_ends n r = restart_ends (reset n) r (announces_first _ b (slot_at w.hub b) (reset_slot w.hub.settings.vectors 1) refl)

  pub disconnect_ends : (n : ℕ) → refusal w (call b (disconnect n)) ≡ 0 → one_shot b (step w (call b (disconnect n))).world ≡ false
  unfolding effect reset_slot
  disconnect_ends n r = restart_ends (disconnect n) r (announces_first _ b (slot_at w.hub b) (reset_slot w.hub.settings.vectors 0) refl)

-- A whole stretch.

answer_silent : (b : ℕ) (c : Call) (o : Outcome) → interrupts (answer_to b c o) ≡ 0
unfolding answer_to interrupts
answer_silent b c o = go (eqb c.who b)
  where
    go : (t : Bool) → interrupts (cond t (Observation.answered o.number o.value o.answer o.loaded ∷ []) []) ≡ 0
    go true = refl
    go false = refl

-- the interrupts of a call and of those after it
pub observed_more : (b : ℕ) (w : World) (c : Call) (cs : List Call)
    → interrupts (observed b w (c ∷ cs)) ≡ interrupts (deliveries_to b (step w c).deliveries) + interrupts (observed b (step w c).world cs)
unfolding observed
observed_more b w c cs =
    let ds : List Observation = deliveries_to b (step w c).deliveries in
    let os : List Observation = observed b (step w c).world cs in
    rw (interrupts_both (answer_to b c (step w c)) (ds ++ os), interrupts_both ds os, answer_silent b c (step w c)) (omega arith)

at_start : (b : ℕ) (w : World) (cs : List Call) → throughout b w cs ≡ true → one_shot b w ≡ true
unfolding throughout
at_start b w [] e = e
at_start b w (c ∷ cs) e = and_left (one_shot b w) _ e

module _ (s : Settings) (a : accepted s ≡ true) where
  pub after_fit : (w : World) (cs : List Call) → Fit s w → Fit s (after w cs)
  unfolding after
  after_fit w [] f = f
  after_fit w (c ∷ cs) f = after_fit (step w c).world cs (step_fit s w c a f)

module _ (s : Settings) (a : accepted s ≡ true) (b : ℕ) where
  balanced : (w : World) (cs : List Call) → Fit s w → throughout b w cs ≡ true
      → interrupts (observed b w cs) + interrupt_control b (after w cs) + times_cleared b w cs ≡ times_set b w cs + interrupt_control b w
  unfolding observed after count interrupts throughout
  balanced w [] f e = omega arith
  balanced w (c ∷ cs) f e =
      let later : throughout b (step w c).world cs ≡ true = and_right (one_shot b w) _ e in
      let here = call_balanced s w f b (and_left (one_shot b w) _ e) c (at_start b (step w c).world cs later) in
      let rest = balanced (step w c).world cs (step_fit s w c a f) later in
      rw (observed_more b w c cs) (omega arith)

bit_one : (n : ℕ) → n ≤ 1 → n ≡ one (eqb n 1)
bit_one zero h = refl
bit_one (suc zero) h = refl
bit_one (suc (suc n)) h = absurd (omega arith)

pub one_shot_limits : OneShotLimits
one_shot_limits s a b before stretch e =
    let w : World = after (start s) before in
    let f : Fit s w = after_fit s a (start s) before (start_fit s) in
    let balance = balanced s a b w stretch f e in
    let small = control_bit s w f b in
    record {
      balance = balance;
      bound = omega (arith, bit_one (interrupt_control b w) small);
      single = λ none. omega arith;
    }

-- Nothing is kept, by calls: a doorbell at a peer whose Interrupt Control is 0 leaves the world as it was, and a store to Interrupt
-- Control delivers nothing.

either_way : (P : Outcome → Type 0) (w : World) (c : Call) → P (done (effect_in w c) (run_all c.who w (effect_in w c).operations))
    → ((n : ℕ) → P (refused n w)) → P (step w c)
either_way P w c taken not_taken =
    by_equal (refusal w c) 0
    (λ (r : refusal w c ≡ 0). subst P (sym (accepted_effect w c r)) taken)
    (λ n. subst P (sym (refused_changes_nothing w c n)) (not_taken (refusal w c)))

abbrev storing : (who records at width x : ℕ) → Call
storing who records at width x = call who (register_write records at width x)

pub doorbell_lost : (w : World) (who records at width x : ℕ) → register_at at ≡ Register.doorbell → interrupt_control (rung_peer x).0 w ≡ 0
    → ((step w (storing who records at width x)).world ≡ w) × ((step w (storing who records at width x)).deliveries ≡ [])
unfolding effect register_stored run_all run
doorbell_lost w who records at width x d off =
    either_way (λ (o : Outcome). (o.world ≡ w) × (o.deliveries ≡ [])) w (storing who records at width x) (rw d (go (memory_on (peer_of who w))))
    (λ n. (refl, refl))
  where
    ran : Bool → Ran
    ran t = run_all who w (cond t (register_stored who (slot_at w.hub who) Register.doorbell x) [])

    go : (t : Bool) → ((ran t).world ≡ w) × ((ran t).deliveries ≡ [])
    go true = rw (nothing_kept w.hub (rung_peer x) (rung_vector x) off) (refl, refl)
    go false = (refl, refl)

pub control_quiet : (w : World) (who records at width x : ℕ) → register_at at ≡ Register.interrupt_control
    → (step w (storing who records at width x)).deliveries ≡ []
unfolding effect register_stored run_all run
control_quiet w who records at width x d =
    either_way (λ (o : Outcome). o.deliveries ≡ []) w (storing who records at width x) (rw d (go (memory_on (peer_of who w)))) (λ n. refl)
  where
    go : (t : Bool) → (run_all who w (cond t (register_stored who (slot_at w.hub who) Register.interrupt_control x) [])).deliveries ≡ []
    go true = refl
    go false = refl
