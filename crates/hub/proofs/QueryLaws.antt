-- What a connect is refused with says whether the peer is connected.
use Prim.Native.Nat.{ℕ}
use mathlib.Core.Bool.{Bool, true, false}
use mathlib.Core.Path.{◌≡◌, refl, sym, ◌∙◌}
use native.Mathlib.Omega.{arith}
use lib.Dec.{eqb, leb}
use borrow.Author.Tests.{eqb-true, eqb-false}
use Rattle.common.specs.Tests.{first}
use Rattle.device.specs.declared.Reply.{Reply}
use Rattle.device.specs.Sound.{sound}
use Rattle.device.specs.World.{Hub, slot_at}
use Rattle.hub.specs.Admission.{joining_rows}
use Rattle.hub.specs.Queries.{connected_answer, by_connect, ConnectedByConnect}
use Rattle.hub.proofs.RefusalLaws.{connect_refusal, five_connected}
use Rattle.hub.proofs.ReplyLaws.{refused_by}

abbrev yes : Reply
yes = record { number = 0; value = 1 }

-- both parts over the three tests that they are made of
module _ (hub : Hub) (who : ℕ) where
  abbrev Parts : Type 0
  Parts =
      (first (joining_rows hub who) ≡ 5 → yes ≡ connected_answer hub who)
      × ((first (joining_rows hub who) ≡ 5 → ⊥) → refused_by (first (joining_rows hub who)) ≡ connected_answer hub who)

  by_tests : (s l c : Bool) → sound hub ≡ s → leb hub.settings.peers who ≡ l → eqb (slot_at hub who).peer.connected 1 ≡ c → Parts
  unfolding first
  by_tests false l c a b d = rw a (λ e. let no : ◌≡◌ {A = ℕ} 10 5 = e in absurd (omega arith), λ n. refl)
  by_tests true true c a b d = rw (a, b) (λ e. let no : ◌≡◌ {A = ℕ} 3 5 = e in absurd (omega arith), λ n. refl)
  by_tests true false true a b d = rw (a, b, d) (λ e. refl, λ n. absurd (n refl))
  by_tests true false false a b d = rw (a, b, d) (λ e. let no : ◌≡◌ {A = ℕ} 0 5 = e in absurd (omega arith), λ n. refl)

  parts : Parts
  parts = by_tests _ _ _ refl refl refl

pub connected_yes : (hub : Hub) (who number : ℕ) → number ≡ first (joining_rows hub who) → number ≡ 5 → yes ≡ connected_answer hub who
connected_yes hub who number e five = (parts hub who).0 (sym e ∙ five)

pub connected_no : (hub : Hub) (who number : ℕ) → number ≡ first (joining_rows hub who) → (number ≡ 5 → ⊥) →
    refused_by number ≡ connected_answer hub who
connected_no hub who number e some = rw e ((parts hub who).1 (λ five. some (e ∙ five)))

pub connected_by_connect : ConnectedByConnect
connected_by_connect hub region who = rw (connect_refusal hub region who) (by (eqb (first (joining_rows hub who)) 5) refl)
  where
    by : (t : Bool) → eqb (first (joining_rows hub who)) 5 ≡ t → connected_answer hub who ≡ by_connect (first (joining_rows hub who))
    by true e = rw e (sym ((parts hub who).0 (eqb-true _ _ e)))
    by false e = rw e (sym ((parts hub who).1 (eqb-false _ _ e)))

pub ruleset queries = (connected_yes, connected_no, five_connected)
