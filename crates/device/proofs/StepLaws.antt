-- One call: a refusal changes nothing and its number is the table's, an accepted call is its effect, a call that only reads
-- leaves the world as it was and delivers nothing, and only reads of registers give a value.
use Prim.Native.Nat.{ℕ, zero, suc}
use mathlib.Core.Bool.{Bool, true, false}
use mathlib.Core.List.{List, []}
use mathlib.Core.Path.{◌≡◌, refl, sym, ap}
use native.Mathlib.Omega.{arith}
use Rattle.device.specs.declared.Settings.{Settings}
use Rattle.device.specs.Call.{Act, Call}
use Rattle.device.specs.Call.Act.{connect, disconnect, reset, configuration_read, configuration_write}
use Rattle.device.specs.Call.Act.{register_read, register_write, msix_read, msix_write, question, load, store}
use Rattle.device.specs.Effect.{effect, Operation}
use Rattle.device.specs.Refusal.{refusal}
use Rattle.device.specs.Step.{run_all, refused, done, effect_in, step_by, step}
use Rattle.device.specs.World.{Slot, World}

refused_by_lem : (n : ℕ) (w : World) (c : Call) → (n ≡ 0 → ⊥) → step_by n w c ≡ refused n w
unfolding step_by
refused_by_lem zero w c h = absurd (h refl)
refused_by_lem (suc n) w c h = refl

pub refused_changes_nothing : (w : World) (c : Call) → (refusal w c ≡ 0 → ⊥) → step w c ≡ refused (refusal w c) w
unfolding step
refused_changes_nothing w c h = refused_by_lem (refusal w c) w c h

pub accepted_effect : (w : World) (c : Call) → refusal w c ≡ 0
    → step w c ≡ done (effect_in w c) (run_all c.who w (effect_in w c).operations)
unfolding step step_by
accepted_effect w c e = ap (λ (n : ℕ). step_by n w c) e

number_by : (n : ℕ) (w : World) (c : Call) → (step_by n w c).number ≡ n
unfolding step_by
number_by zero w c = refl
number_by (suc n) w c = refl

pub step_number : (w : World) (c : Call) → (step w c).number ≡ refusal w c
unfolding step
step_number w c = number_by (refusal w c) w c

-- the calls that change neither hub nor region
unfoldable pub reads_only : Act → Bool
reads_only connect = false
reads_only (disconnect n) = false
reads_only (reset n) = false
reads_only (configuration_read at w) = true
reads_only (configuration_write at w x) = false
reads_only (register_read at w) = true
reads_only (register_write n at w x) = false
reads_only (msix_read at w) = true
reads_only (msix_write at w x) = false
reads_only (question at n) = true
reads_only (load at n) = true
reads_only (store at bs) = false

-- the calls whose answer has a value
unfoldable pub gives_value : Act → Bool
gives_value connect = false
gives_value (disconnect n) = false
gives_value (reset n) = false
gives_value (configuration_read at w) = true
gives_value (configuration_write at w x) = false
gives_value (register_read at w) = true
gives_value (register_write n at w x) = false
gives_value (msix_read at w) = true
gives_value (msix_write at w x) = false
gives_value (question at n) = false
gives_value (load at n) = false
gives_value (store at bs) = false

pub never : {P : Type 0} → false ≡ true → P
never {P} e = let z : ◌≡◌ {A = ℕ} 0 1 = cc in absurd (omega arith)

-- the effect of a call that only reads asks for no operation, and that of one that gives no value has value 0
pub effect_reads : (s : Settings) (who : ℕ) (slot : Slot) (region : List ℕ) (a : Act)
    → (reads_only a ≡ true → (effect s who slot region a).operations ≡ []) × (gives_value a ≡ false → (effect s who slot region a).value ≡ 0)
unfolding reads_only gives_value effect
effect_reads s who slot region connect = (λ e. never e, λ e. refl)
effect_reads s who slot region (disconnect n) = (λ e. never e, λ e. refl)
effect_reads s who slot region (reset n) = (λ e. never e, λ e. refl)
effect_reads s who slot region (configuration_read at w) = (λ e. refl, λ e. never (sym e))
effect_reads s who slot region (configuration_write at w x) = (λ e. never e, λ e. refl)
effect_reads s who slot region (register_read at w) = (λ e. refl, λ e. never (sym e))
effect_reads s who slot region (register_write n at w x) = (λ e. never e, λ e. refl)
effect_reads s who slot region (msix_read at w) = (λ e. refl, λ e. never (sym e))
effect_reads s who slot region (msix_write at w x) = (λ e. never e, λ e. refl)
effect_reads s who slot region (question at n) = (λ e. refl, λ e. refl)
effect_reads s who slot region (load at n) = (λ e. refl, λ e. refl)
effect_reads s who slot region (store at bs) = (λ e. never e, λ e. refl)

keeps : (n : ℕ) (w : World) (c : Call) → (effect_in w c).operations ≡ [] → ((step_by n w c).world ≡ w) × ((step_by n w c).deliveries ≡ [])
unfolding step_by run_all
keeps zero w c e = (ap (λ (os : List Operation). (run_all c.who w os).world) e, ap (λ (os : List Operation). (run_all c.who w os).deliveries) e)
keeps (suc n) w c e = (refl, refl)

pub reads_keep_world : (w : World) (c : Call) → reads_only c.act ≡ true → ((step w c).world ≡ w) × ((step w c).deliveries ≡ [])
unfolding step
reads_keep_world w c h = keeps (refusal w c) w c ((effect_reads _ _ _ _ c.act).0 h)

value_by : (n : ℕ) (w : World) (c : Call) → (effect_in w c).value ≡ 0 → (step_by n w c).value ≡ 0
unfolding step_by
value_by zero w c e = e
value_by (suc n) w c e = refl

pub other_values : (w : World) (c : Call) → gives_value c.act ≡ false → (step w c).value ≡ 0
unfolding step
other_values w c h = value_by (refusal w c) w c ((effect_reads _ _ _ _ c.act).1 h)
