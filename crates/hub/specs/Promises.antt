-- What the public calls promise: their answers, and what they leave, are the parts of `step`.
use Rattle.std.specs.Prelude.{ℕ, List, [], ◌≡◌, eqb, length, replicate, Result, MatchResult, OnErr}
use Rattle.device.specs.declared.Reply.{Reply}
use Rattle.device.specs.declared.SectionReply.{SectionReply}
use Rattle.device.specs.declared.Settings.{Settings}
use Rattle.device.specs.Call.{Call}
use Rattle.device.specs.Effect.{Operation}
use Rattle.device.specs.SetUp.{set_up_refusal, hub_after_set_up, region_after_set_up}
use Rattle.device.specs.Step.{run_all, step, reply_of, section_reply_of}
use Rattle.device.specs.World.{world}
use Rattle.deliveries.specs.declared.Deliveries.{Deliveries}
use Rattle.deliveries.specs.Listed.{Lists}
use Rattle.hub.specs.declared.reasons.Refusal.{Refusal}
use Rattle.hub.specs.Answered.{done_reply}
use Rattle.words.specs.Layout.{hub_words, hub_of}

-- A read: the region is not lent, and the answer is the same whatever it holds.
abbrev pub Answers : List ℕ → Call → Reply → Type 0
Answers hub c r = (region : List ℕ) → r ≡ reply_of (step (world (hub_of hub) region) c)

abbrev pub AnswersQuestion : List ℕ → Call → SectionReply → Type 0
AnswersQuestion hub c r = (region : List ℕ) → r ≡ section_reply_of (step (world (hub_of hub) region) c)

-- A call that changes the hub and is not lent the region. A refusal leaves each word as it was.
pub record Changes (before after : List ℕ) (c : Call) (r : Reply) : Type 0 where
  pub reply : (region : List ℕ) → r ≡ reply_of (step (world (hub_of before) region) c)
  pub hub : (region : List ℕ) → hub_of after ≡ (step (world (hub_of before) region) c).world.hub
  pub kept : (r.number ≡ 0 → ⊥) → after ≡ before

-- A load: an accepted one fills the whole buffer, a refused one leaves it.
pub record Loads (hub region before after : List ℕ) (c : Call) (r : Reply) : Type 0 where
  pub reply : r ≡ reply_of (step (world (hub_of hub) region) c)
  pub filled : r.number ≡ 0 → after ≡ (step (world (hub_of hub) region) c).loaded
  pub kept : (r.number ≡ 0 → ⊥) → after ≡ before

-- A store: the region is the step's, and the hub, which is not lent to be changed, is the step's too.
pub record Stores (hub before after : List ℕ) (c : Call) (r : Reply) : Type 0 where
  pub reply : r ≡ reply_of (step (world (hub_of hub) before) c)
  pub region : world (hub_of hub) after ≡ (step (world (hub_of hub) before) c).world

-- the set-up numbers in the order of the rules: N, V, S, R, O, base, protocol type, subsystem vendor, subsystem id
abbrev pub numbers : ℕ → ℕ → ℕ → ℕ → ℕ → ℕ → ℕ → ℕ → ℕ → Settings
numbers n v s r o base protocol vendor subsystem =
    record {
      peers = n;
      vectors = v;
      table = s;
      common = r;
      output = o;
      base = base;
      protocol = protocol;
      vendor = vendor;
      subsystem = subsystem;
    }

-- Set-up, in words as many as its numbers ask for. Every refusal leaves all words zero: words of another length could hold a sound
-- hub of another size.
pub record SetsUp (before after region_before region_after : List ℕ) (s : Settings) (r : Reply) : Type 0 where
  pub reply : r ≡ record { number = set_up_refusal (eqb (length before) (hub_words s.peers s.vectors)) s region_before; value = 0 }
  pub hub : hub_of after ≡ hub_after_set_up r.number s
  pub region : region_after ≡ region_after_set_up r.number region_before
  pub zero : (r.number ≡ 0 → ⊥) → after ≡ replicate (length before) 0

-- Operations run on the hub and the region: what they leave, and their deliveries in order.
pub record Runs (hub after region region_after : List ℕ) (id : ℕ) (operations : List Operation) (d : Deliveries) : Type 0 where
  pub left : world (hub_of after) region_after ≡ (run_all id (world (hub_of hub) region) operations).world
  pub list : Lists (hub_of after) d (run_all id (world (hub_of hub) region) operations).deliveries

-- A call that is lent the region and a delivery table, whose length is among the call's arguments: hub and region afterwards are
-- the step's, the list is the step's deliveries in order, its records made from the hub afterwards. A refusal leaves each word as it
-- was and delivers nothing.
pub record Serves (hub after region region_after : List ℕ) (c : Call) (r : Result Deliveries Refusal) : Type 0 where
  pub reply : done_reply r ≡ reply_of (step (world (hub_of hub) region) c)
  pub left : world (hub_of after) region_after ≡ (step (world (hub_of hub) region) c).world
  pub list : MatchResult r (λ list. Lists (hub_of after) list (step (world (hub_of hub) region) c).deliveries)
      (λ e. (step (world (hub_of hub) region) c).deliveries ≡ [])
  pub kept : OnErr r (after ≡ hub)
