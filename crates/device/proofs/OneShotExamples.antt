-- One-shot mode says something: stretches in which the bound is reached, from Interrupt Control 1 and from 0; the same calls with
-- one-shot off, where it is exceeded; and a ring that is lost and does not come later. Peer 1 rings at peer 0, in the hub of
-- IsolationExamples.
use Prim.Native.Nat.{ℕ, ◌+◌}
use mathlib.Core.Bool.{Bool, true, false, ◌&&◌}
use mathlib.Core.List.{List, [], ◌∷◌, ◌++◌}
use mathlib.Core.Path.{◌≡◌, refl, ap, ◌∙◌}
use native.Mathlib.Omega.{arith}
use Rattle.device.specs.Call.{Call, call}
use Rattle.device.specs.Call.Act.{configuration_write, register_write, reset}
use Rattle.device.specs.History.{start, after, observed, deliveries_to}
use Rattle.device.specs.OneShot.{interrupt_control, one_shot, throughout, interrupts, turns_register}
use Rattle.device.specs.OneShot.{turns_act, turns, one, count, times_set, times_cleared, Limited}
use Rattle.device.specs.Registers.{register_at}
use Rattle.device.specs.Step.{Outcome, step}
use Rattle.device.specs.World.{World}
use Rattle.device.proofs.IsolationExamples.{numbers, ready, bell, computing}
use Rattle.device.proofs.OneShot.{observed_more, doorbell_lost}

-- after `ready` Interrupt Control of peer 0 is 1; then it turns one-shot on
abbrev pub armed : List Call
armed = ready ++ (call 0 (configuration_write 0x43 1 0x01) ∷ [])

-- a first ring has brought it to 0
abbrev pub disarmed : List Call
disarmed = armed ++ (bell ∷ [])

-- peer 0 sets and clears Interrupt Control
abbrev pub set : Call
set = call 0 (register_write 3 0x08 4 1)

abbrev pub clear : Call
clear = call 0 (register_write 3 0x08 4 0)

-- two rings; and three rings, with a set before the first and before the last
abbrev pub twice : List Call
twice = bell ∷ bell ∷ []

abbrev pub two_sets : List Call
two_sets = set ∷ bell ∷ bell ∷ set ∷ bell ∷ []

abbrev pub from : List Call → World
from before = after (start numbers) before

-- Of a stretch of peer 0: whether one-shot is on throughout, and the five numbers of the balance, which are interrupts, Interrupt
-- Control at the end, own clears, own sets and Interrupt Control at the start.
pub record Counts : Type 0 where
  pub on : Bool
  pub got : ℕ
  pub left : ℕ
  pub cleared : ℕ
  pub set : ℕ
  pub began : ℕ

abbrev counts : Bool → (got left cleared set began : ℕ) → Counts
counts on got left cleared set began =
    record { on = on; got = got; left = left; cleared = cleared; set = set; began = began }

abbrev pub counts_of : World → List Call → Counts
counts_of w cs =
    counts (throughout 0 w cs) (interrupts (observed 0 w cs)) (interrupt_control 0 (after w cs)) (times_cleared 0 w cs) (times_set 0 w cs)
    (interrupt_control 0 w)

-- a stretch, and what its counts are
pub record Case : Type 0 where
  pub stretch : List Call
  pub says : Counts

abbrev case : List Call → Counts → Case
case stretch says = record { stretch = stretch; says = says }

abbrev pub Right : World → List Case → Type 0
Right w [] = Unit {0}
Right w (c ∷ cs) = (counts_of w c.stretch ≡ c.says) × Right w cs

pub from_one : List Case
from_one =
    -- the bound is reached: two rings, one interrupt
    case twice (counts true 1 0 0 0 1)
    -- a clear of the peer's own, and Interrupt Control left at 1: no number is 0
    ∷ case (clear ∷ set ∷ bell ∷ set ∷ []) (counts true 1 1 1 2 1)
    -- a refused reset, here with a table that is too short, neither ends a stretch nor counts
    ∷ case (bell ∷ call 0 (reset 2) ∷ bell ∷ []) (counts true 1 0 0 0 1)
    -- an accepted one turns one-shot off
    ∷ case (call 0 (reset 3) ∷ []) (counts false 0 0 0 0 1)
    ∷ []

pub from_zero : List Case
from_zero =
    -- the bound is reached: two sets, three rings, two interrupts
    case two_sets (counts true 2 0 0 2 0)
    -- a ring at Interrupt Control 0 does not come when it is set
    ∷ case (bell ∷ set ∷ []) (counts true 0 1 0 1 0)
    ∷ []

pub without_one_shot : List Case
without_one_shot =
    -- two rings, two interrupts
    case twice (counts false 2 1 0 0 1)
    ∷ []

-- The counts in one walk over the stretch, so that each call is computed once.

with_call : World → Call → Outcome → Counts → Counts
with_call w c o rest =
    counts (one_shot 0 w && rest.on) (interrupts (deliveries_to 0 o.deliveries) + rest.got) rest.left
    (one (turns 1 0 0 w c) + rest.cleared) (one (turns 0 1 0 w c) + rest.set) (interrupt_control 0 w)

added : World → Call → Outcome → (World → Counts) → Counts
added w c o later = with_call w c o (later o.world)

walk : List Call → World → Counts
walk [] = λ w. counts (one_shot 0 w) 0 (interrupt_control 0 w) 0 0 (interrupt_control 0 w)
walk (c ∷ cs) = λ w. added w c (step w c) (walk cs)

walked : (cs : List Call) (w : World) → counts_of w cs ≡ walk cs w
unfolding throughout observed after count interrupts walk added with_call
walked [] w = refl
walked (c ∷ cs) w =
    ap (λ (n : ℕ). counts (throughout 0 w (c ∷ cs)) n (interrupt_control 0 (after w (c ∷ cs))) (times_cleared 0 w (c ∷ cs))
    (times_set 0 w (c ∷ cs)) (interrupt_control 0 w))
    (observed_more 0 w c cs)
    ∙ ap (λ (rest : Counts). with_call w c (step w c) rest) (walked cs (step w c).world)

-- all walks of a list from one world, so that the calls before them are computed once too
walks : World → List Case → List Counts
walks w [] = []
walks w (c ∷ cs) = walk c.stretch w ∷ walks w cs

said : List Case → List Counts
said [] = []
said (c ∷ cs) = c.says ∷ said cs

right : (w : World) (cs : List Case) → walks w cs ≡ said cs → Right w cs
unfolding walks said
right w [] e = tt
right w (c ∷ cs) e =
    let here : walk c.stretch w ≡ c.says = cc in
    let rest : walks w cs ≡ said cs = cc in
    (walked c.stretch w ∙ here, right w cs rest)

-- all that the examples compute with
computing_walks : Unit {0}
unfolding computing after one_shot interrupts turns_register turns_act turns walk added with_call walks said
computing_walks = tt

pub from_one_lem : Right (from armed) from_one
unfolding computing_walks from_one
from_one_lem = right (from armed) from_one refl

pub from_zero_lem : Right (from disarmed) from_zero
unfolding computing_walks from_zero
from_zero_lem = right (from disarmed) from_zero refl

pub without_one_shot_lem : Right (from ready) without_one_shot
unfolding computing_walks without_one_shot
without_one_shot_lem = right (from ready) without_one_shot refl

-- One-shot is needed: with it off, the two rings that gave one interrupt with it on exceed the bound.
pub exceeded : Limited 0 (from ready) twice → ⊥
unfolding without_one_shot
exceeded h =
    let e : counts_of (from ready) twice ≡ counts false 2 1 0 0 1 = without_one_shot_lem.0 in
    let got = ap (λ (k : Counts). k.got) e in
    let set = ap (λ (k : Counts). k.set) e in
    let began = ap (λ (k : Counts). k.began) e in
    let bound = rw began at h.bound in
    omega arith

-- A ring at Interrupt Control 0 leaves no trace: the world is as it was, and nothing was delivered.
pub lost : ((step (from disarmed) bell).world ≡ from disarmed) × ((step (from disarmed) bell).deliveries ≡ [])
unfolding from_zero register_at
lost = doorbell_lost (from disarmed) 1 3 0x0C 4 0x00000000 refl (ap (λ (k : Counts). k.began) from_zero_lem.0)
