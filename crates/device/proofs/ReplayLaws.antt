-- A peer's window, replayed: what the peer is told by its window alone, starting from any world. Each call looks to the peer like
-- the replay of its items.
use Prim.Native.Nat.{ℕ, zero, suc, ◌*◌}
use mathlib.Core.Bool.{Bool, true, false, cond}
use mathlib.Core.List.{List, [], ◌∷◌, ◌++◌, append-nil, append_assoc}
use mathlib.Core.Path.{◌≡◌, refl, sym, ap, ap₂, ◌∙◌}
use borrow.Author.Tests.{eqb-true, eq-eqb, ne_eqb, not-false}
use lib.Dec.{eqb}
use lib.Seq.{sets}
use Rattle.common.specs.Bytes.{bytes}
use Rattle.common.proofs.TestLaws.{by_equal}
use Rattle.device.specs.declared.Settings.{Settings}
use Rattle.device.specs.Call.{Act, Call, call}
use Rattle.device.specs.Call.Act.{connect, disconnect, reset, configuration_read, configuration_write}
use Rattle.device.specs.Call.Act.{register_read, register_write, msix_read, msix_write, question, load, store}
use Rattle.device.specs.Effect.{Effect, Operation, announces, changes, effect, register_stored, rung_peer, rung_vector, state_value, with_state}
use Rattle.device.specs.History.{Observation, deliveries_to, answer_to}
use Rattle.device.specs.Msix.{msix_written}
use Rattle.device.specs.Refusal.{access_of, missing, is_connected, refusal}
use Rattle.device.specs.Registers.{Register, register_at, memory_on}
use Rattle.device.specs.Ring.{peer_id, vector}
use Rattle.device.specs.SetUp.{accepted}
use Rattle.device.specs.Sound.{sound}
use Rattle.device.specs.Step.{Ran, ran, Outcome, refused, done, effect_in, run, run_all, step_by, step}
use Rattle.device.specs.Window.{Item, word_sent, sent_by, sent}
use Rattle.device.specs.World.{Slot, World, world, reset_slot, slot_at, with_peer}
use Rattle.device.proofs.HistoryLaws.{Sound, Fit, Tracks, step_fit}
use Rattle.device.proofs.KeepingLaws.{run_all_frame, ring_keeps}
use Rattle.device.proofs.SeenLaws.{View, view, Sight, sight, heard_first, reach, all_seen}
use Rattle.device.proofs.SoundLaws.{delivery_sound}

-- a world, and what the peer was given on the way to it
pub record Told : Type 0 where
  pub world : World
  pub heard : List Observation

abbrev pub told : World → List Observation → Told
told w hs = record { world = w; heard = hs }

-- as the peer sees it
abbrev pub seen : ℕ → Told → Sight
seen b r = record { view = view b r.world; heard = r.heard }

abbrev pub and_then : Told → (World → Told) → Told
and_then r next = told (next r.world).world (r.heard ++ (next r.world).heard)

-- by operations, and by a call
abbrev pub told_of : ℕ → Ran → Told
told_of b r = told r.world (deliveries_to b r.deliveries)

abbrev pub told_by : ℕ → Call → Outcome → Told
told_by b c o = told o.world (answer_to b c o ++ deliveries_to b o.deliveries)

-- by one item of the window
unfoldable pub tell : ℕ → World → Item → Told
tell b w (Item.own a) = told_by b (call b a) (step w (call b a))
tell b w (Item.bell v) = told_of b (run_all b w (Operation.ring_one (peer_id b) v ∷ []))
tell b w (Item.word who x) = told_of b (run_all b w (Operation.write (4 * who) (bytes 4 x) ∷ Operation.ring_one (peer_id b) (vector 0) ∷ []))
tell b w (Item.bytes at bs) = told_of b (run_all b w (Operation.write at bs ∷ []))

unfoldable pub replay : ℕ → World → List Item → Told
replay b w [] = told w []
replay b w (x ∷ xs) = and_then (tell b w x) (λ u. replay b u xs)

pub replay_both : (b : ℕ) (w : World) (xs ys : List Item) → replay b w (xs ++ ys) ≡ and_then (replay b w xs) (λ u. replay b u ys)
unfolding replay
replay_both b w [] ys = refl
replay_both b w (x ∷ xs) ys =
    ap (λ (r : Told). told r.world ((tell b w x).heard ++ r.heard)) (replay_both b (tell b w x).world xs ys)
    ∙ ap (λ (hs : List Observation). told (replay b (replay b (tell b w x).world xs).world ys).world hs)
    (sym (append_assoc (tell b w x).heard (replay b (tell b w x).world xs).heard (replay b (replay b (tell b w x).world xs).world ys).heard))

pub replay_one : (b : ℕ) (w : World) (x : Item) → replay b w (x ∷ []) ≡ tell b w x
unfolding replay
replay_one b w x = ap (λ (hs : List Observation). told (tell b w x).world hs) (append-nil (tell b w x).heard)

-- a replay goes through worlds like those of a history
tell_fit : (s : Settings) (b : ℕ) (w : World) (x : Item) → accepted s ≡ true → Fit s w → Fit s (tell b w x).world
unfolding tell run_all run
tell_fit s b w (Item.own a) h f = step_fit s w (call b a) h f
tell_fit s b w (Item.bell v) h f =
    record {
      fixed = run_all_frame b w (Operation.ring_one (peer_id b) v ∷ []) ∙ f.fixed;
      slots = ring_keeps (Sound s)
          (λ i. delivery_sound s) s.peers w.hub (peer_id b) v f.slots;
    }
tell_fit s b w (Item.word who x) h f =
    record {
      fixed = run_all_frame b w (Operation.write (4 * who) (bytes 4 x) ∷ Operation.ring_one (peer_id b) (vector 0) ∷ [])
          ∙ f.fixed;
      slots = ring_keeps (Sound s) (λ i. delivery_sound s) s.peers w.hub (peer_id b) (vector 0) f.slots;
    }
tell_fit s b w (Item.bytes at bs) h f = record { fixed = run_all_frame b w (Operation.write at bs ∷ []) ∙ f.fixed; slots = f.slots }

pub replay_fit : (s : Settings) (b : ℕ) (w : World) (xs : List Item) → accepted s ≡ true → Fit s w → Fit s (replay b w xs).world
unfolding replay
replay_fit s b w [] h f = f
replay_fit s b w (x ∷ xs) h f = replay_fit s b (tell b w x).world xs h (tell_fit s b w x h f)

-- The peer's own call.

refusal_alike : (b : ℕ) (a : Act) (w w' : World) → sound w.hub ≡ true → sound w'.hub ≡ true → view b w ≡ view b w'
    → refusal w (call b a) ≡ refusal w' (call b a)
unfolding refusal is_connected
refusal_alike b a w w' h h' e =
    let s : w.hub.settings ≡ w'.hub.settings = ap (λ (y : View). y.settings) e in
    let x : slot_at w.hub b ≡ slot_at w'.hub b = ap (λ (y : View). y.slot) e in
    let r : w.region ≡ w'.region = ap (λ (y : View). y.region) e in
    cc

own_by : (b : ℕ) (a : Act) (w w' : World) (n : ℕ) → view b w ≡ view b w'
    → seen b (told_by b (call b a) (step_by n w (call b a))) ≡ seen b (told_by b (call b a) (step_by n w' (call b a)))
unfolding step_by answer_to deliveries_to
own_by b a w w' zero e =
    let same : effect_in w (call b a) ≡ effect_in w' (call b a) = ap (λ (x : View). effect x.settings b x.slot x.region a) e in
    let os : List Operation = (effect_in w (call b a)).operations in
    let mine : eqb b b ≡ true = eq-eqb b b refl in
    let both : sight b (run_all b w os) ≡ sight b (run_all b w' os) = all_seen b b true mine os w w' e ∙ sym (all_seen b b true mine os w' w' refl) in
    ap₂ (λ (f : Effect) (x : Sight). heard_first (answer_to b (call b a) (done f (ran w []))) x) same
    (both ∙ ap (λ (f : Effect). sight b (run_all b w' f.operations)) same)
own_by b a w w' (suc n) e =
    ap (λ (x : View). heard_first (answer_to b (call b a) (refused (suc n) w)) (record { view = x; heard = [] })) e

pub own_seen : (b : ℕ) (a : Act) (w w' : World) → sound w.hub ≡ true → sound w'.hub ≡ true → view b w ≡ view b w'
    → seen b (told_by b (call b a) (step w (call b a))) ≡ seen b (told_by b (call b a) (step w' (call b a)))
unfolding step
own_seen b a w w' h h' e = rw (refusal_alike b a w w' h h' e) (own_by b a w w' (refusal w' (call b a)) e)

-- Another's call.

-- the State Table of a region holds a peer's State already
abbrev pub TableHolds : List ℕ → ℕ → Slot → Type 0
TableHolds region who slot = sets region (4 * who) (bytes 4 slot.peer.state) ≡ region

-- a State value that changes is an item; one that does not writes what stands there
announced_told : (b who : ℕ) (old new : Slot) (w : World) → TableHolds w.region who old
    → replay b w (word_sent who old.peer.state new.peer.state) ≡ told_of b (run_all b w (reach b false (announces who old new)))
unfolding replay tell word_sent announces changes reach run_all run deliveries_to
announced_told b who old new w same =
    by_equal old.peer.state new.peer.state
    (λ (e : old.peer.state ≡ new.peer.state).
    let kept : sets w.region (4 * who) (bytes 4 new.peer.state) ≡ w.region = rw e at same in
    rw (eq-eqb old.peer.state new.peer.state e) (ap (λ (l : List ℕ). told (world w.hub l) []) (sym kept)))
    (λ (d : old.peer.state ≡ new.peer.state → ⊥).
    rw (ne_eqb old.peer.state new.peer.state d) (replay_one b w (Item.word who new.peer.state)))

stored_told : (b who : ℕ) (slot : Slot) (r : Register) (x : ℕ) (w : World) → TableHolds w.region who slot
    → replay b w (sent_by b who slot.peer.state r x) ≡ told_of b (run_all b w (reach b false (register_stored who slot r x)))
unfolding replay tell sent_by register_stored reach run_all deliveries_to
stored_told b who slot Register.identity x w same = refl
stored_told b who slot Register.maximum_peers x w same = refl
stored_told b who slot Register.interrupt_control x w same = refl
stored_told b who slot Register.doorbell x w same =
    by_equal (rung_peer x).0 b
    (λ (e : (rung_peer x).0 ≡ b). rw (eq-eqb (rung_peer x).0 b e, e) (replay_one b w (Item.bell (rung_vector x))))
    (λ (d : (rung_peer x).0 ≡ b → ⊥). rw (ne_eqb (rung_peer x).0 b d))
stored_told b who slot Register.state x w same = announced_told b who slot (with_peer slot (with_state slot.peer (state_value x))) w same
stored_told b who slot Register.none x w same = refl

pub sent_told : (b who : ℕ) (s : Settings) (slot : Slot) (region : List ℕ) (a : Act) (on : Bool) (w : World)
    → missing (eqb slot.peer.connected 1) (access_of a) ≡ false → Tracks on slot → TableHolds w.region who slot
    → replay b w (sent b who on slot.peer.state a) ≡ told_of b (run_all b w (reach b false (effect s who slot region a).operations))
unfolding replay tell sent effect reach run_all deliveries_to reset_slot missing access_of
sent_told b who s slot region connect on w m e same = refl
sent_told b who s slot region (disconnect n) on w m e same = announced_told b who slot (reset_slot s.vectors 0) w same
sent_told b who s slot region (reset n) on w m e same = announced_told b who slot (reset_slot s.vectors 1) w same
sent_told b who s slot region (configuration_read at k) on w m e same = refl
sent_told b who s slot region (configuration_write at k x) on w m e same = refl
sent_told b who s slot region (register_read at k) on w m e same = refl
sent_told b who s slot region (register_write n at k x) on w m e same = rw (e (eqb-true slot.peer.connected 1 (not-false _ m))) (go on)
  where
    go : (t : Bool) → replay b w (cond t (sent_by b who slot.peer.state (register_at at) x) [])
        ≡ told_of b (run_all b w (reach b false (cond t (register_stored who slot (register_at at) x) [])))
    go true = stored_told b who slot (register_at at) x w same
    go false = refl
sent_told b who s slot region (msix_read at k) on w m e same = refl
sent_told b who s slot region (msix_write at k x) on w m e same = go (memory_on slot.peer)
  where
    go : (t : Bool) → told w [] ≡ told_of b (run_all b w (reach b false (cond t (Operation.own (msix_written s slot at x) ∷ []) [])))
    go true = refl
    go false = refl
sent_told b who s slot region (question at k) on w m e same = refl
sent_told b who s slot region (load at k) on w m e same = refl
sent_told b who s slot region (store at bs) on w m e same = replay_one b w (Item.bytes at bs)
