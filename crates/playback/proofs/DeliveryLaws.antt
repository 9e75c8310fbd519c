-- The bytes of deliveries: how many there are, and one delivery more.
use Prim.Native.Nat.{ℕ, ◌+◌, ◌*◌, ◌≤◌, ◌<◌}
use mathlib.Core.List.{List, [], ◌∷◌, ◌++◌, map, append_assoc, append-nil, map-append}
use mathlib.Core.Path.{◌≡◌, refl, sym, ap, ◌∙◌}
use native.Mathlib.Numerals.{add-one}
use native.Mathlib.Omega.{arith}
use lib.ListN.{length, take, get_or, length-append, length-map}
use lib.Seq.{take-suc, length-take-le}
use Rattle.common.proofs.ByteLaws.{length_bytes}
use Rattle.device.specs.declared.Delivery.{Delivery}
use Rattle.device.specs.declared.Vector.{Vector}
use Rattle.device.specs.World.{Hub}
use Rattle.gate.specs.RingOutcome.{sent_at}
use Rattle.playback.specs.Answers.{delivered, all_delivered}

pub length_delivered : (d : Delivery) → length (delivered d) ≡ 17
unfolding delivered
length_delivered d = simp (length-append, length_bytes)

pub length_all : (ds : List Delivery) → length (all_delivered ds) ≡ 17 * length ds
unfolding all_delivered
length_all [] = refl
length_all (d ∷ ds) = simp (length-append, length_delivered, length_all ds) (omega arith)

all_append : (xs ys : List Delivery) → all_delivered (xs ++ ys) ≡ all_delivered xs ++ all_delivered ys
unfolding all_delivered
all_append [] ys = refl
all_append (x ∷ xs) ys = rw (all_append xs ys) (sym (append_assoc (delivered x) (all_delivered xs) (all_delivered ys)))

-- the records of the first targets, and one more
abbrev pub first_of : Hub → Vector → List ℕ → ℕ → List Delivery
first_of hub v targets i = map (sent_at hub v) (take i targets)

module _ (hub : Hub) (v : Vector) (targets : List ℕ) (i : ℕ) where
  pub length_first : i ≤ length targets → length (all_delivered (first_of hub v targets i)) ≡ 17 * i
  length_first h =
      length_all (first_of hub v targets i) ∙ ap (λ (n : ℕ). 17 * n) (length-map (take i targets) (sent_at hub v) ∙ length-take-le i targets h)

  pub first_more : i < length targets
      → all_delivered (first_of hub v targets i) ++ delivered (sent_at hub v (get_or targets i 0)) ≡ all_delivered (first_of hub v targets (i + 1))
  unfolding all_delivered
  first_more h =
      rw (
        add-one i,
        take-suc targets i 0 h,
        map-append (sent_at hub v) (take i targets) (get_or targets i 0 ∷ []),
        all_append (map (sent_at hub v) (take i targets)) _,
        append-nil,
      )
