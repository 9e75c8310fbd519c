-- One-shot mode over a stretch of a history: while a connected peer has it on, it gets at most one interrupt for each time that it
-- sets Interrupt Control itself, and one more if Interrupt Control was set at the start; and of a ring that is lost nothing is kept.
use Rattle.std.specs.Prelude.{ℕ, suc, ◌+◌, ◌≤◌, Bool, true, false, cond, ◌&&◌, List, [], ◌∷◌, ◌≡◌, eqb}
use Rattle.std.specs.Int.Bits.{bit_and}
use Rattle.common.specs.Bytes.{bit}
use Rattle.common.specs.Tests.{every}
use Rattle.device.specs.declared.Peer.{Peer}
use Rattle.device.specs.declared.PeerId.{PeerId}
use Rattle.device.specs.declared.Settings.{Settings}
use Rattle.device.specs.declared.Vector.{Vector}
use Rattle.device.specs.Call.{Act, Call}
use Rattle.device.specs.Call.Act.{connect, disconnect, reset, configuration_read, configuration_write}
use Rattle.device.specs.Call.Act.{register_read, register_write, msix_read, msix_write, question, load, store}
use Rattle.device.specs.History.{Observation, start, after, observed}
use Rattle.device.specs.Refusal.{is_connected}
use Rattle.device.specs.Registers.{Register, register_at, memory_on}
use Rattle.device.specs.Ring.{rung, ring}
use Rattle.device.specs.SetUp.{accepted}
use Rattle.device.specs.Step.{step}
use Rattle.device.specs.Window.{is_accepted}
use Rattle.device.specs.World.{Hub, World, slot_at}

-- a peer's registers, and its Interrupt Control
abbrev pub peer_of : ℕ → World → Peer
peer_of b w = (slot_at w.hub b).peer

abbrev pub interrupt_control : ℕ → World → ℕ
interrupt_control b w = (peer_of b w).interrupt

-- connected, with one-shot on (Privileged Control bit 0)
unfoldable pub one_shot : ℕ → World → Bool
one_shot b w = is_connected w b && bit 0 (peer_of b w).privileged

-- 'throughout': at the start of a stretch and after each of its calls. An accepted reset or disconnect of the peer turns one-shot
-- off, so that there is none in such a stretch; a refused one changes nothing, and ends no stretch.
unfoldable pub throughout : ℕ → World → List Call → Bool
throughout b w [] = one_shot b w
throughout b w (c ∷ cs) = one_shot b w && throughout b (step w c).world cs

-- how many interrupts a peer observes
unfoldable pub interrupts : List Observation → ℕ
interrupts [] = 0
interrupts (Observation.answered n v a l ∷ os) = interrupts os
interrupts (Observation.interrupted d ∷ os) = suc (interrupts os)

-- Whether a store of a value to a register turns Interrupt Control, which takes bit 0 of the value, from `old` to `new`.
unfoldable pub turns_register : (old new : ℕ) → Peer → Register → ℕ → Bool
turns_register old new p Register.identity x = false
turns_register old new p Register.maximum_peers x = false
turns_register old new p Register.interrupt_control x = eqb p.interrupt old && eqb (bit_and x 1) new
turns_register old new p Register.doorbell x = false
turns_register old new p Register.state x = false
turns_register old new p Register.none x = false

-- only a register write stores to it, and it does nothing while Command bit 1 is off
unfoldable pub turns_act : (old new : ℕ) → Peer → Act → Bool
turns_act old new p connect = false
turns_act old new p (disconnect n) = false
turns_act old new p (reset n) = false
turns_act old new p (configuration_read at w) = false
turns_act old new p (configuration_write at w x) = false
turns_act old new p (register_read at w) = false
turns_act old new p (register_write n at w x) = memory_on p && turns_register old new p (register_at at) x
turns_act old new p (msix_read at w) = false
turns_act old new p (msix_write at w x) = false
turns_act old new p (question at n) = false
turns_act old new p (load at n) = false
turns_act old new p (store at bs) = false

-- a peer's own accepted store that turns its Interrupt Control, in the world that the call meets
unfoldable pub turns : (old new : ℕ) → ℕ → World → Call → Bool
turns old new b w c = every (eqb c.who b ∷ is_accepted w c ∷ turns_act old new (peer_of b w) c.act ∷ [])

-- 1 for a test that holds, 0 for one that does not
abbrev pub one : Bool → ℕ
one t = cond t 1 0

-- how many calls of a stretch pass a test, each in the world that it meets
unfoldable pub count : (World → Call → Bool) → World → List Call → ℕ
count t w [] = 0
count t w (c ∷ cs) = one (t w c) + count t (step w c).world cs

-- its own stores that turn Interrupt Control from 0 to 1, and from 1 to 0
abbrev pub times_set : ℕ → World → List Call → ℕ
times_set b w cs = count (turns 0 1 b) w cs

abbrev pub times_cleared : ℕ → World → List Call → ℕ
times_cleared b w cs = count (turns 1 0 b) w cs

-- What holds of a stretch that starts in a world.
pub record Limited (b : ℕ) (w : World) (cs : List Call) : Type 0 where
  -- interrupts, Interrupt Control at the end and own clears add up to own sets and Interrupt Control at the start
  pub balance : interrupts (observed b w cs) + interrupt_control b (after w cs) + times_cleared b w cs ≡ times_set b w cs + interrupt_control b w
  -- R74: at most its own stores that turn Interrupt Control from 0 to 1, and one more where it was 1 at the start
  pub bound : interrupts (observed b w cs) ≤ times_set b w cs + one (eqb (interrupt_control b w) 1)
  -- so between one of the peer's own stores to Interrupt Control and the next at most one interrupt comes, whatever is rung
  pub single : times_set b w cs ≡ 0 → interrupts (observed b w cs) ≤ 1

-- R73: of any stretch of a history in which a peer is connected with one-shot on throughout
abbrev pub OneShotLimits : Type 0
OneShotLimits =
    (s : Settings) → accepted s ≡ true → (b : ℕ) (before stretch : List Call)
    → throughout b (after (start s) before) stretch ≡ true → Limited b (after (start s) before) stretch

-- R53, of a ring at Interrupt Control 0, by whatever call: it delivers nothing and leaves the hub as it was, so that nothing can
-- come of it later
abbrev pub NothingKept : Type 0
NothingKept = (hub : Hub) (t : PeerId) (v : Vector) → (slot_at hub t.0).peer.interrupt ≡ 0 → ring hub t v ≡ rung hub []
