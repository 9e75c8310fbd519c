-- What is written for a call by its result.
use Prim.Native.Nat.{ℕ}
use mathlib.Core.Bool.{false}
use mathlib.Core.List.{List, []}
use mathlib.Core.Path.{◌≡◌, refl, sym, ◌∙◌}
use borrow.Author.Tests.{eq-eqb}
use lib.Dec.{eqb}
use Rattle.std.specs.Prelude.{Result, Ok, Err, IfOk}
use Rattle.device.proofs.StepLaws.{never}
use Rattle.device.specs.World.{Hub}
use Rattle.hub.specs.declared.reasons.Refusal.{Refusal}
use Rattle.hub.specs.declared.reasons.Refusal.TheVariants.{BadSetting, BadRegion, NoSuchPeer, NotConnected, Connected, BadWidth}
use Rattle.hub.specs.declared.reasons.Refusal.TheVariants.{Misaligned, OutOfRange, ReadOnly, UnsoundHub, ShortTable}
use Rattle.hub.specs.Answered.{number_of, done_reply, value_reply}
use Rattle.playback.specs.declared.answers.Accepted.{Accepted}
use Rattle.playback.specs.declared.answers.Accepted.TheVariants.{Done, Value}
use Rattle.playback.specs.Answers.{Outcome, accepted_bytes, done, outcome_bytes, refused_by, replied, valued}

-- a refusal has a number
some_number : (e : Refusal) → eqb (number_of e) 0 ≡ false
some_number BadSetting = refl
some_number BadRegion = refl
some_number NoSuchPeer = refl
some_number NotConnected = refl
some_number Connected = refl
some_number BadWidth = refl
some_number Misaligned = refl
some_number OutOfRange = refl
some_number ReadOnly = refl
some_number UnsoundHub = refl
some_number ShortTable = refl

pub refused : (e : Refusal) (x : List ℕ) → refused_by (number_of e) ≡ replied (number_of e) x
unfolding replied
refused e x = rw (some_number e)

-- an accepted call's value, as an answer
abbrev pub mapped : {A : Type 0} → (A → Accepted) → Result A Refusal → Outcome
mapped f (Ok x) = Ok (f x)
mapped f (Err e) = Err e

-- what is written for it, where that is the same whatever the value is
pub told : {A : Type 0} (f : A → Accepted) (x : List ℕ) (h : Hub) (r : Result A Refusal) → ((a : A) → accepted_bytes h (f a) ≡ x)
    → outcome_bytes h (mapped f r) ≡ replied (done_reply r).number x
unfolding outcome_bytes replied
told f x h (Ok a) e = e a
told f x h (Err e) same = refused e x

pub told_value : (h : Hub) (r : Result ℕ Refusal) → outcome_bytes h (mapped Value r) ≡ replied (value_reply r).number (valued (value_reply r).value)
unfolding accepted_bytes outcome_bytes replied
told_value h (Ok x) = refl
told_value h (Err e) = refused e (valued 0)

-- a set-up that is not refused
pub done_bytes : (h : Hub) (o : Outcome) → (done_reply o).number ≡ 0 → IfOk o (λ a. a ≡ Done) → outcome_bytes h o ≡ done []
unfolding accepted_bytes outcome_bytes
done_bytes h (Ok a) n is = rw is
done_bytes h (Err e) n is = never (sym (some_number e) ∙ eq-eqb _ _ n)
