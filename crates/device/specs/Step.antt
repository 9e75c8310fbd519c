-- One call, whole: the answer, the deliveries and the world afterwards. Every public call's promise, but that of set-up
-- (SetUp.antt), and every theorem is about `step`.
use Rattle.std.specs.Prelude.{ℕ, zero, suc, List, [], ◌∷◌, ◌++◌}
use Rattle.std.proofs.lemmas.List.Edits.{sets}
use Rattle.device.specs.declared.Delivery.{Delivery}
use Rattle.device.specs.declared.Reply.{Reply}
use Rattle.device.specs.declared.SectionAnswer.{SectionAnswer}
use Rattle.device.specs.declared.SectionReply.{SectionReply}
use Rattle.device.specs.Call.{Call}
use Rattle.device.specs.Effect.{Effect, Operation, effect}
use Rattle.device.specs.Refusal.{refusal}
use Rattle.device.specs.Ring.{Rung, ring}
use Rattle.device.specs.Ring
use Rattle.device.specs.Sections.{no_section}
use Rattle.device.specs.World.{World, world, slot_at, with_slot}

-- what operations leave: the world, and the deliveries in order
pub record Ran : Type 0 where
  pub world : World
  pub deliveries : List Delivery

abbrev pub ran : World → List Delivery → Ran
ran w ds = record { world = w; deliveries = ds }

abbrev pub ran_rings : List ℕ → Rung → Ran
ran_rings region r = ran (world r.hub region) r.deliveries

unfoldable pub run : ℕ → World → Operation → Ran
run who w (Operation.own slot) = ran (world (with_slot w.hub who slot) w.region) []
run who w (Operation.write at bs) = ran (world w.hub (sets w.region at bs)) []
run who w (Operation.ring_one t v) = ran_rings w.region (ring w.hub t v)
run who w Operation.ring_others = ran_rings w.region (Ring.ring_others who w.hub)

unfoldable pub run_all : ℕ → World → List Operation → Ran
run_all who w [] = ran w []
run_all who w (o ∷ os) =
    ran (run_all who (run who w o).world os).world ((run who w o).deliveries ++ (run_all who (run who w o).world os).deliveries)

pub record Outcome : Type 0 where
  pub number : ℕ
  pub value : ℕ
  pub answer : SectionAnswer
  pub loaded : List ℕ
  pub deliveries : List Delivery
  pub world : World

-- R31: the number, value 0, no deliveries, and the world as it was
abbrev pub refused : ℕ → World → Outcome
refused number w =
    record { number = number; value = 0; answer = no_section; loaded = []; deliveries = []; world = w }

-- R6: number 0, and what the effect gives
abbrev pub done : Effect → Ran → Outcome
done e r =
    record {
      number = 0;
      value = e.value;
      answer = e.answer;
      loaded = e.loaded;
      deliveries = r.deliveries;
      world = r.world;
    }

abbrev pub effect_in : World → Call → Effect
effect_in w c = effect w.hub.settings c.who (slot_at w.hub c.who) w.region c.act

unfoldable pub step_by : ℕ → World → Call → Outcome
step_by zero w c = done (effect_in w c) (run_all c.who w (effect_in w c).operations)
step_by (suc number) w c = refused (suc number) w

unfoldable pub step : World → Call → Outcome
step w c = step_by (refusal w c) w c

-- number and value, as a call returns them
abbrev pub reply_of : Outcome → Reply
reply_of o = record { number = o.number; value = o.value }

abbrev pub section_reply_of : Outcome → SectionReply
section_reply_of o = record { reply = reply_of o; section = o.answer }
