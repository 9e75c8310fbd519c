-- From what the hub's calls promise to what a record's answer is: a law for each way that calls are lent the hub and the region.
use Prim.Native.Nat.{ℕ, zero, suc}
use mathlib.Core.Bool.{Bool, true, false, cond}
use mathlib.Core.List.{List, [], ◌∷◌}
use mathlib.Core.Path.{◌≡◌, refl, sym, ap, ◌∙◌}
use native.Mathlib.Omega.{arith}
use borrow.Author.Tests.{eqb-true}
use lib.Dec.{eqb}
use lib.ListN.{length, get_or}
use Rattle.common.specs.Bytes.{number}
use Rattle.device.specs.declared.Delivery.{Delivery}
use Rattle.device.specs.declared.Reply.{Reply}
use Rattle.device.proofs.QuietLaws.{may_ring, quiet}
use Rattle.device.proofs.StepLaws.{reads_only, reads_keep_world}
use Rattle.device.specs.Call.{Act, Call}
use Rattle.device.specs.Call.Act.{connect, disconnect, reset, configuration_read, configuration_write}
use Rattle.device.specs.Call.Act.{register_read, register_write, msix_read, msix_write, question, load, store}
use Rattle.device.specs.Effect.{Operation, effect}
use Rattle.device.specs.Refusal.{Lent, lent_to, refusal}
use Rattle.device.specs.Registers.{memory_on}
use Rattle.device.specs.Msix
use Rattle.device.specs.Step.{run, run_all, effect_in, step_by, step}
use Rattle.device.specs.World.{Hub, World, world, slot_at}
use Rattle.deliveries.specs.declared.Deliveries.{Deliveries}
use Rattle.hub.specs.declared.reasons.Refusal.{Refusal}
use Rattle.hub.specs.Answered.{done_reply, value_reply}
use Rattle.hub.specs.Promises
use Rattle.hub.specs.Promises.{Changes, Loads, Stores, Serves}
use Rattle.playback.specs.declared.answers.Accepted.TheVariants.{Done, Delivered, Value}
use Rattle.playback.specs.Answers.{accepted_bytes, answer, done, outcome_bytes, refused_by, replied, valued}
use Rattle.playback.proofs.OutcomeLaws.{mapped, refused, told, told_value}
use Rattle.playback.specs.Log.{Request}
use Rattle.playback.specs.Promises.{Answers}
use Rattle.words.specs.Layout.{hub_of}
use Rattle.std.specs.Prelude.{Result, Ok, Err}

-- a call that is not lent the region leaves it as it was
effect_keeps : (w : World) (who : ℕ) (a : Act) → lent_to a ≡ Lent.nothing
    → (run_all who w (effect w.hub.settings who (slot_at w.hub who) w.region a).operations).world.region ≡ w.region
unfolding lent_to effect run_all run
effect_keeps w who connect e = refl
effect_keeps w who (disconnect n) e = let z : ◌≡◌ {A = ℕ} 0 1 = cc in absurd (omega arith)
effect_keeps w who (reset n) e = let z : ◌≡◌ {A = ℕ} 0 1 = cc in absurd (omega arith)
effect_keeps w who (configuration_read at n) e = refl
effect_keeps w who (configuration_write at n x) e = refl
effect_keeps w who (register_read at n) e = refl
effect_keeps w who (register_write n at k x) e = let z : ◌≡◌ {A = ℕ} 0 1 = cc in absurd (omega arith)
effect_keeps w who (msix_read at n) e = refl
effect_keeps w who (msix_write at n x) e = go (memory_on (slot_at w.hub who).peer)
  where
    go : (on : Bool) → (run_all who w (cond on (Operation.own (Msix.msix_written w.hub.settings (slot_at w.hub who) at x)
        ∷ []) [])).world.region ≡ w.region
    go true = refl
    go false = refl
effect_keeps w who (question at n) e = refl
effect_keeps w who (load at n) e = let z : ◌≡◌ {A = ℕ} 0 1 = cc in absurd (omega arith)
effect_keeps w who (store at bs) e = let z : ◌≡◌ {A = ℕ} 0 1 = cc in absurd (omega arith)

kept_by : (n : ℕ) (w : World) (c : Call) → (run_all c.who w (effect_in w c).operations).world.region ≡ w.region → (step_by n w c).world.region ≡ w.region
unfolding step_by
kept_by zero w c e = e
kept_by (suc n) w c e = refl

region_kept_lem : (w : World) (c : Call) → lent_to c.act ≡ Lent.nothing → (step w c).world.region ≡ w.region
unfolding step
region_kept_lem w c e = kept_by (refusal w c) w c (effect_keeps w c.who c.act e)

replied_same : (n : ℕ) (a b : List ℕ) → (n ≡ 0 → a ≡ b) → replied n a ≡ replied n b
unfolding replied
replied_same n a b same = go (eqb n 0) refl
  where
    go : (t : Bool) → eqb n 0 ≡ t → cond t a (refused_by n) ≡ cond t b (refused_by n)
    go true e = same (eqb-true n 0 e)
    go false e = refl

number_one : (l : List ℕ) → length l ≡ 1 → number l ≡ get_or l 0 0
unfolding number
number_one [] e = absurd (omega arith)
number_one (x ∷ []) e = omega arith
number_one (x ∷ y ∷ l) e = absurd (omega arith)

module _ (hub region : List ℕ) (c : Call) where
  -- reads
  pub reads_answer : (r : Result ℕ Refusal) → reads_only c.act ≡ true → Promises.Answers hub c (value_reply r)
      → Answers hub hub region region (Request.reads c) (mapped Value r)
  unfolding answer
  reads_answer r only a =
      record {
        left = sym (reads_keep_world (world (hub_of hub) region) c only).0;
        written = told_value (hub_of hub) r ∙ ap (λ (x : Reply). replied x.number (valued x.value)) (a region);
      }

  -- loads of one byte: only an accepted one's byte is written
  pub loads_answer : (before after : List ℕ) (r : Result (Unit {0}) Refusal) (byte : ℕ) → reads_only c.act ≡ true → length after ≡ 1
      → byte ≡ get_or after 0 0 → Loads hub region before after c (done_reply r)
      → Answers hub hub region region (Request.loads c) (mapped (λ x. Value byte) r)
  unfolding answer accepted_bytes
  loads_answer before after r byte only one is l =
      let s = step (world (hub_of hub) region) c in
      let e : replied (done_reply r).number (valued byte) ≡ replied s.number (valued (number s.loaded)) =
      replied_same (done_reply r).number _ _ (λ z. ap valued (is ∙ sym (number_one after one) ∙ ap number (l.filled z)))
      ∙ ap (λ (x : Reply). replied x.number (valued (number s.loaded))) l.reply in
      record {
        left = sym (reads_keep_world (world (hub_of hub) region) c only).0;
        written = told (λ x. Value byte) (valued byte) (hub_of hub) r (λ a. refl) ∙ e;
      }

  -- stores to the caller's own registers
  pub changes_answer : (after : List ℕ) (r : Result (Unit {0}) Refusal) → lent_to c.act ≡ Lent.nothing → may_ring c.act ≡ false
      → Changes hub after c (done_reply r) → Answers hub after region region (Request.does c) (mapped (λ x. Done) r)
  unfolding answer accepted_bytes
  changes_answer after r lent silent ch =
      let s = step (world (hub_of hub) region) c in
      let e : replied (done_reply r).number (done []) ≡ replied s.number (done s.deliveries) =
      ap (λ (x : Reply). replied x.number (done [])) (ch.reply region)
      ∙ ap (λ (ds : List Delivery). replied s.number (done ds)) (sym (quiet (world (hub_of hub) region) c silent)) in
      record {
        left = ap (λ (h : Hub). world h region) (ch.hub region) ∙ ap (λ (g : List ℕ). world s.world.hub g)
            (sym (region_kept_lem (world (hub_of hub) region) c lent));
        written = told (λ x. Done) (done []) (hub_of after) r (λ a. refl) ∙ e;
      }

  -- shared stores
  pub stores_answer : (region_after : List ℕ) (r : Result (Unit {0}) Refusal) → may_ring c.act ≡ false
      → Stores hub region region_after c (done_reply r) → Answers hub hub region region_after (Request.does c) (mapped (λ x. Done) r)
  unfolding answer accepted_bytes
  stores_answer region_after r silent st =
      let s = step (world (hub_of hub) region) c in
      let e : replied (done_reply r).number (done []) ≡ replied s.number (done s.deliveries) =
      ap (λ (x : Reply). replied x.number (done [])) st.reply ∙ ap (λ (ds : List Delivery). replied s.number (done ds))
      (sym (quiet (world (hub_of hub) region) c silent)) in
      record { left = st.region; written = told (λ x. Done) (done []) (hub_of hub) r (λ a. refl) ∙ e }

  -- the calls that may ring, with a table for all peers
  pub served_answer : (after region_after : List ℕ) (r : Result Deliveries Refusal) → Serves hub after region region_after c r
      → Answers hub after region region_after (Request.does c) (mapped Delivered r)
  unfolding answer accepted_bytes outcome_bytes replied
  served_answer after region_after r sv = record { left = sv.left; written = go r sv }
    where
      go : (r : Result Deliveries Refusal) → Serves hub after region region_after c r
          → outcome_bytes (hub_of after) (mapped Delivered r)
          ≡ replied (step (world (hub_of hub) region) c).number (done (step (world (hub_of hub) region) c).deliveries)
      go (Ok list) sv =
          ap done sv.list.deliveries
          ∙ ap (λ (x : Reply). replied x.number (done (step (world (hub_of hub) region) c).deliveries)) sv.reply
      go (Err e) sv =
          refused e (done (step (world (hub_of hub) region) c).deliveries)
          ∙ ap (λ (x : Reply). replied x.number (done (step (world (hub_of hub) region) c).deliveries)) sv.reply
