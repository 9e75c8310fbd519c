-- Operations run one after the other, and the calls that are made of them.
use Prim.Native.Nat.{ℕ}
use mathlib.Core.Bool.{Bool, true, false, cond}
use mathlib.Core.List.{List, [], ◌∷◌, append-nil}
use mathlib.Core.Path.{◌≡◌, refl, sym, ap, ◌∙◌}
use Rattle.std.specs.Prelude.{Ok, Err}
use Rattle.common.specs.Tests.{first}
use native.Mathlib.Omega.{arith}
use lib.ListN.{length}
use lib.Dec.{eqb}
use lib.Seq.{sets}
use borrow.Author.Tests.{ne_eqb}
use Rattle.device.specs.declared.PeerId.{PeerId}
use Rattle.device.specs.declared.Settings.{Settings}
use Rattle.device.specs.declared.Vector.{Vector}
use Rattle.device.specs.Call.{Call, call}
use Rattle.device.specs.Effect.{Operation, announces, does, effect, register_stored}
use Rattle.device.specs.Refusal.{access_of, lent_to, refusal}
use Rattle.device.specs.Registers.{Register, register_at}
use Rattle.device.specs.Ring
use Rattle.device.specs.SetUp.{total}
use Rattle.device.specs.Step.{Outcome, run, run_all, effect_in}
use Rattle.device.specs.World.{Hub, Slot, reset_slot, world, with_slot}
use Rattle.device.proofs.SetUpLaws.{accepted_facts}
use Rattle.device.proofs.StepLaws.{accepted_effect}
use Rattle.deliveries.specs.declared.Deliveries.{Deliveries}
use Rattle.deliveries.specs.Listed.{Lists}
use Rattle.deliveries.proofs.ListedLaws.{none_lists}
use Rattle.words.specs.Layout.{hub_of}
use Rattle.hub.specs.declared.announcing.Restart.{Restart}
use Rattle.hub.specs.declared.announcing.Restart.TheVariants.{Reset, Disconnect}
use Rattle.hub.specs.declared.reasons.Refusal.{Refusal}
use Rattle.hub.specs.Answered.{number_of}
use Rattle.hub.specs.Admission.{both_lent, admission, Admitted, Ready}
use Rattle.hub.specs.Promises.{Runs, Serves}
use Rattle.hub.specs.Restarts.{connected, restarted}
use Rattle.hub.proofs.RefusalLaws.{number_some, served_refusal}
use Rattle.hub.proofs.ReplyLaws.{step_refused, reply_refused, reply_accepted}

-- an admitted caller that is lent the region has a State Table entry there
pub ready : (ws region : List ℕ) (records id : ℕ) → Admitted ws (both_lent (length region) records) id → Ready ws region id
unfolding total
ready ws region records id a =
    let f = accepted_facts (hub_of ws).settings a.numbers in
    let t : length region ≡ total (hub_of ws).settings = a.region in
    record {
      usable = record { numbers = a.numbers };
      known = a.known;
      state = omega (arith, a.known, f.state, t);
    }

-- the same hub and region after the own slot was written
pub ready_kept : (ws after region : List ℕ) (id : ℕ) (slot : Slot) → Ready ws region id → hub_of after ≡ with_slot (hub_of ws) id slot → Ready after region id
ready_kept ws after region id slot r e =
    record {
      usable = record { numbers = rw e r.usable.numbers };
      known = rw e r.known;
      state = r.state;
    }

module _ (ws after region : List ℕ) (id : ℕ) (d : Deliveries) where
  pub runs_nothing : hub_of after ≡ hub_of ws → d.count ≡ 0 → Runs ws after region region id [] d
  unfolding run_all
  runs_nothing e none = record { left = ap (λ (h : Hub). world h region) e; list = none_lists _ d none }

  pub runs_own : (slot : Slot) → hub_of after ≡ with_slot (hub_of ws) id slot → d.count ≡ 0 →
      Runs ws after region region id (Operation.own slot ∷ []) d
  unfolding run_all run
  runs_own slot e none = record { left = ap (λ (h : Hub). world h region) e; list = none_lists _ d none }

  pub runs_ring : (t : PeerId) (v : Vector) → hub_of after ≡ (Ring.ring (hub_of ws) t v).hub →
      Lists (hub_of after) d (Ring.ring (hub_of ws) t v).deliveries → Runs ws after region region id (Operation.ring_one t v ∷ []) d
  unfolding run_all run
  runs_ring t v e list = record { left = ap (λ (h : Hub). world h region) e; list = rw append-nil list }

  pub runs_others : hub_of after ≡ (Ring.ring_others id (hub_of ws)).hub → Lists (hub_of after) d (Ring.ring_others id (hub_of ws)).deliveries →
      Runs ws after region region id (Operation.ring_others ∷ []) d
  unfolding run_all run
  runs_others e list = record { left = ap (λ (h : Hub). world h region) e; list = rw append-nil list }

-- bytes of the region first, then what leaves the region alone
pub runs_write_then : (ws after region after' : List ℕ) (id at : ℕ) (vs : List ℕ) (os : List Operation) (d : Deliveries) →
    after' ≡ sets region at vs → Runs ws after after' after' id os d → Runs ws after region after' id (Operation.write at vs ∷ os) d
unfolding run_all run
runs_write_then ws after region after' id at vs os d e r =
    record { left = ap (λ (l : List ℕ). world (hub_of after) l) e ∙ rw e at r.left; list = rw e at r.list }

-- the own slot first, then the rest
pub runs_own_then : (ws mid after region after' : List ℕ) (id : ℕ) (slot : Slot) (os : List Operation) (d : Deliveries) →
    hub_of mid ≡ with_slot (hub_of ws) id slot → Runs mid after region after' id os d →
    Runs ws after region after' id (Operation.own slot ∷ os) d
unfolding run_all run
runs_own_then ws mid after region after' id slot os d e r = record { left = rw e at r.left; list = rw e at r.list }

pub serves_refused : (ws region : List ℕ) (c : Call) (e : Refusal) → refusal (world (hub_of ws) region) c ≡ number_of e →
    Serves ws ws region region c (Err e)
serves_refused ws region c e n =
    let s = step_refused (world (hub_of ws) region) c _ n (number_some e) in
    record {
      reply = reply_refused _ c _ n (number_some e);
      left = sym (ap (λ (o : Outcome). o.world) s);
      list = ap (λ (o : Outcome). o.deliveries) s;
      kept = refl;
    }

pub serves_accepted : (ws after region after' : List ℕ) (c : Call) (list : Deliveries) → refusal (world (hub_of ws) region) c ≡ 0 →
    0 ≡ (effect_in (world (hub_of ws) region) c).value →
    Runs ws after region after' c.who (effect_in (world (hub_of ws) region) c).operations list →
    Serves ws after region after' c (Ok list)
serves_accepted ws after region after' c list n value runs =
    let s = accepted_effect (world (hub_of ws) region) c n in
    record {
      reply = reply_accepted _ c 0 n value;
      left = runs.left ∙ sym (ap (λ (o : Outcome). o.world) s);
      list = rw s runs.list;
      kept = tt;
    }

-- reset and disconnect have the same checks, and their effect is the slot at reset, the State Table entry and the rings
pub restarted_refusal : (h : Hub) (region : List ℕ) (id n : ℕ) (why : Restart) →
    refusal (world h region) (call id (restarted why n)) ≡ first (admission h (both_lent (length region) n) id)
unfolding lent_to access_of
restarted_refusal h region id n Reset = served_refusal h region id n _ refl refl
restarted_refusal h region id n Disconnect = served_refusal h region id n _ refl refl

pub restarted_effect : (s : Settings) (who n : ℕ) (slot : Slot) (bytes : List ℕ) (why : Restart) →
    effect s who slot bytes (restarted why n) ≡ does (announces who slot (reset_slot s.vectors (connected why)))
unfolding effect
restarted_effect s who n slot bytes Reset = refl
restarted_effect s who n slot bytes Disconnect = refl

-- a store to any other offset than the three registers' does nothing
pub nothing_stored : (who : ℕ) (slot : Slot) (at x : ℕ) → (at ≡ 0x08 → ⊥) → (at ≡ 0x0C → ⊥) → (at ≡ 0x10 → ⊥) →
    register_stored who slot (register_at at) x ≡ []
unfolding register_at register_stored
nothing_stored who slot at x a b c = rw (ne_eqb at 0x08 a, ne_eqb at 0x0C b, ne_eqb at 0x10 c) (by (eqb at 0x00) (eqb at 0x04))
  where
    by : (p q : Bool) → register_stored who slot (cond p Register.identity (cond q Register.maximum_peers Register.none)) x ≡ []
    by true q = refl
    by false true = refl
    by false false = refl
