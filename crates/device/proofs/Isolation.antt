-- Isolation (R72): what a peer observes of a history, and its view at the end, are the replay of its window, so two histories
-- with equal windows are alike to it.
use Prim.Native.Nat.{ℕ, ◌<◌}
use mathlib.Core.Bool.{true, false, cond}
use mathlib.Core.List.{List, [], ◌∷◌, append_assoc}
use mathlib.Core.Path.{◌≡◌, refl, sym, ap, ap₂, subst, ◌∙◌}
use borrow.Author.Tests.{eq-eqb, ne_eqb}
use Rattle.common.proofs.TestLaws.{by_equal}
use Rattle.device.specs.declared.Settings.{Settings}
use Rattle.device.specs.Call.{Act, Call, call}
use Rattle.device.specs.History.{Observation, start, after, observed, deliveries_to, answer_to, spaces_of}
use Rattle.device.specs.Refusal.{is_connected, refusal}
use Rattle.device.specs.SetUp.{accepted}
use Rattle.device.specs.Step.{Outcome, effect_in, step}
use Rattle.device.specs.Window.{Item, memory_bit, items, is_accepted, state_before, window_from, window, Isolation}
use Rattle.device.specs.World.{Slot, World, slot_at}
use Rattle.device.proofs.HistoryLaws.{Fit, Tracks, Remembered, fit_sound, start_fit, start_remembered, step_fit, step_remembered, taken, small}
use Rattle.device.proofs.ReplayLaws.{Told, TableHolds, seen, told_by, tell, replay, replay_both, replay_one, replay_fit, own_seen, sent_told}
use Rattle.device.proofs.SeenLaws.{View, view, Sight, heard_first, all_seen}
use Rattle.device.proofs.StateWords.{Written, start_written, step_written, word_again}
use Rattle.device.proofs.StepLaws.{accepted_effect, refused_changes_nothing}

-- One call: the peer sees it as the replay of its items, in any world that looks alike to the peer.
module _ (s : Settings) (a : accepted s ≡ true) (b : ℕ) (w w' : World) (f : Fit s w) (f' : Fit s w') (e : view b w ≡ view b w') where
  -- another's call gives the peer no answer
  no_answer : (c : Call) (o : Outcome) → (c.who ≡ b → ⊥) → seen b (told_by b c o) ≡ record { view = view b o.world; heard = deliveries_to b o.deliveries }
  unfolding answer_to
  no_answer c o d = rw (ne_eqb c.who b d)

  own_call : (past : List Call) (act : Act)
      → seen b (told_by b (call b act) (step w (call b act)))
      ≡ seen b (replay b w' (items b past (is_accepted w (call b act)) (state_before w (call b act)) (call b act)))
  unfolding items tell
  own_call past act =
      rw (eq-eqb b b refl)
      (own_seen b act w w' (fit_sound s w a f) (fit_sound s w' a f') e ∙ ap (λ (r : Told). seen b r) (sym (replay_one b w' (Item.own act))))

  taken_call : (past : List Call) (c : Call) → Remembered s past w → Written s w → (c.who ≡ b → ⊥) → refusal w c ≡ 0
      → seen b (told_by b c (step w c)) ≡ seen b (replay b w' (items b past true (state_before w c) c))
  unfolding is_connected items
  taken_call past c m words d r =
      let slot : Slot = slot_at w.hub c.who in
      let near : c.who < s.peers = small s w c a f r in
      let memory : Tracks (memory_bit c.who past) slot = m c.who near in
      let held : TableHolds w'.region c.who slot =
      subst (λ (l : List ℕ). TableHolds l c.who slot) (ap (λ (x : View). x.region) e) (word_again s w.region c.who slot near (words c.who near)) in
      no_answer c (step w c) d
      ∙ ap (λ (o : Outcome). record { view = view b o.world; heard = deliveries_to b o.deliveries }) (accepted_effect w c r)
      ∙ all_seen b c.who false (ne_eqb c.who b d) (effect_in w c).operations w w' e
      ∙ rw (ne_eqb c.who b d)
      (ap (λ (x : Told). seen b x) (sym (sent_told b c.who w.hub.settings slot w.region c.act _ w' (taken w c r).there memory held)))

  refused_call : (past : List Call) (c : Call) → (c.who ≡ b → ⊥) → (refusal w c ≡ 0 → ⊥)
      → seen b (told_by b c (step w c)) ≡ seen b (replay b w' (items b past false (state_before w c) c))
  unfolding replay deliveries_to items
  refused_call past c d n =
      no_answer c (step w c) d
      ∙ ap (λ (o : Outcome). record { view = view b o.world; heard = deliveries_to b o.deliveries }) (refused_changes_nothing w c n)
      ∙ rw (ne_eqb c.who b d) (ap (λ (x : View). record { view = x; heard = [] }) e)

  call_seen : (past : List Call) (c : Call) → Remembered s past w → Written s w
      → seen b (told_by b c (step w c)) ≡ seen b (replay b w' (items b past (is_accepted w c) (state_before w c) c))
  call_seen past c m words =
      by_equal c.who b
      (λ (q : c.who ≡ b).
      subst (λ (k : ℕ). seen b (told_by b (call k c.act) (step w (call k c.act)))
      ≡ seen b (replay b w' (items b past (is_accepted w (call k c.act)) (state_before w (call k c.act)) (call k c.act))))
      (sym q) (own_call past c.act))
      (λ (d : c.who ≡ b → ⊥).
      by_equal (refusal w c) 0
      (λ (r : refusal w c ≡ 0). rw (eq-eqb (refusal w c) 0 r) (taken_call past c m words d r))
      (λ (n : refusal w c ≡ 0 → ⊥). rw (ne_eqb (refusal w c) 0 n) (refused_call past c d n)))

-- The whole list of calls.

abbrev history : ℕ → World → List Call → Sight
history b w cs = record { view = view b (after w cs); heard = observed b w cs }

pub factored : (s : Settings) → accepted s ≡ true → (b : ℕ) (cs past : List Call) (w w' : World) → Fit s w → Remembered s past w → Written s w → Fit s w'
    → view b w ≡ view b w' → history b w cs ≡ seen b (replay b w' (window_from b past w cs))
unfolding after observed window_from replay
factored s a b [] past w w' f m words f' e = ap (λ (x : View). record { view = x; heard = [] }) e
factored s a b (c ∷ cs) past w w' f m words f' e =
    let xs : List Item = items b past (is_accepted w c) (state_before w c) c in
    let later : List Call = cond (is_accepted w c) (c ∷ past) past in
    let next : World = (step w c).world in
    let ys : List Item = window_from b later next cs in
    let here = call_seen s a b w w' f f' e past c m words in
    let rest = factored s a b cs later next (replay b w' xs).world (step_fit s w c a f) (step_remembered s w c a f past m)
    (step_written s a w c f words) (replay_fit s b w' xs a f') (ap (λ (x : Sight). x.view) here) in
    ap (λ (hs : List Observation). record { view = view b (after next cs); heard = hs })
    (sym (append_assoc (answer_to b c (step w c)) (deliveries_to b (step w c).deliveries) (observed b next cs)))
    ∙ ap₂ (λ (x y : Sight). heard_first x.heard y) here rest
    ∙ ap (λ (r : Told). seen b r) (sym (replay_both b w' xs ys))

pub isolation : Isolation
unfolding window spaces_of
isolation s a b cs ds same =
    let whole : history b (start s) cs ≡ history b (start s) ds =
    factored s a b cs [] (start s) (start s) (start_fit s) (start_remembered s) (start_written s a) (start_fit s) refl
    ∙ ap (λ (xs : List Item). seen b (replay b (start s) xs)) same
    ∙ sym (factored s a b ds [] (start s) (start s) (start_fit s) (start_remembered s) (start_written s a) (start_fit s) refl) in
    let settings : (after (start s) cs).hub.settings ≡ (after (start s) ds).hub.settings = ap (λ (x : Sight). x.view.settings) whole in
    let slot : slot_at (after (start s) cs).hub b ≡ slot_at (after (start s) ds).hub b = ap (λ (x : Sight). x.view.slot) whole in
    record {
      observations = ap (λ (x : Sight). x.heard) whole;
      registers = rw (settings, slot);
      region = ap (λ (x : Sight). x.view.region) whole;
    }
