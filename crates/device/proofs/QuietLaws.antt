-- Nothing is ever pending: only register writes, resets and disconnects deliver. An unmasking write, a connect or a load brings no
-- interrupt, whatever was rung before.
use Prim.Native.Nat.{ℕ, zero, suc}
use mathlib.Core.Bool.{Bool, true, false, cond}
use mathlib.Core.List.{List, [], ◌∷◌}
use mathlib.Core.Path.{◌≡◌, refl, sym}
use Rattle.device.specs.declared.Settings.{Settings}
use Rattle.device.specs.Call.{Act, Call}
use Rattle.device.specs.Call.Act.{connect, disconnect, reset, configuration_read, configuration_write}
use Rattle.device.specs.Call.Act.{register_read, register_write, msix_read, msix_write, question, load, store}
use Rattle.device.specs.Effect.{effect, Operation}
use Rattle.device.specs.Refusal.{refusal}
use Rattle.device.specs.Registers.{memory_on}
use Rattle.device.specs.Step.{run, run_all, step_by, step}
use Rattle.device.specs.World.{Slot, World}
use Rattle.device.proofs.StepLaws.{never}

-- the calls that may ring
unfoldable pub may_ring : Act → Bool
may_ring connect = false
may_ring (disconnect n) = true
may_ring (reset n) = true
may_ring (configuration_read at w) = false
may_ring (configuration_write at w x) = false
may_ring (register_read at w) = false
may_ring (register_write n at w x) = true
may_ring (msix_read at w) = false
may_ring (msix_write at w x) = false
may_ring (question at n) = false
may_ring (load at n) = false
may_ring (store at bs) = false

own_or_nothing : (who : ℕ) (w : World) (slot : Slot) (on : Bool) → (run_all who w (cond on (Operation.own slot ∷ []) [])).deliveries ≡ []
unfolding run_all run
own_or_nothing who w slot true = refl
own_or_nothing who w slot false = refl

quiet_effect : (s : Settings) (who : ℕ) (slot : Slot) (region : List ℕ) (w : World) (a : Act) → may_ring a ≡ false →
    (run_all who w (effect s who slot region a).operations).deliveries ≡ []
unfolding may_ring effect run_all run
quiet_effect s who slot region w connect e = refl
quiet_effect s who slot region w (disconnect n) e = never (sym e)
quiet_effect s who slot region w (reset n) e = never (sym e)
quiet_effect s who slot region w (configuration_read at v) e = refl
quiet_effect s who slot region w (configuration_write at v x) e = refl
quiet_effect s who slot region w (register_read at v) e = refl
quiet_effect s who slot region w (register_write n at v x) e = never (sym e)
quiet_effect s who slot region w (msix_read at v) e = refl
quiet_effect s who slot region w (msix_write at v x) e = own_or_nothing who w _ (memory_on slot.peer)
quiet_effect s who slot region w (question at n) e = refl
quiet_effect s who slot region w (load at n) e = refl
quiet_effect s who slot region w (store at bs) e = refl

quiet_by : (n : ℕ) (w : World) (c : Call) → may_ring c.act ≡ false → (step_by n w c).deliveries ≡ []
unfolding step_by
quiet_by zero w c e = quiet_effect _ c.who _ _ w c.act e
quiet_by (suc n) w c e = refl

pub quiet : (w : World) (c : Call) → may_ring c.act ≡ false → (step w c).deliveries ≡ []
unfolding step
quiet w c e = quiet_by (refusal w c) w c e
