-- Cutting what a machine is fed changes nothing: of any machine, whatever its records are.
use Prim.Native.Nat.{ℕ}
use mathlib.Core.List.{List, [], ◌∷◌, ◌++◌, append_assoc}
use mathlib.Core.Path.{◌≡◌, refl, sym, ap, ◌∙◌}
use Rattle.common.specs.Streams.{FedOf, fed_to, fed_all, fed_pieces, joined}

module _ {A M : Type 0} (feed : M → ℕ → FedOf A M) where
  -- what is fed after something else
  abbrev pub followed : FedOf A M → List ℕ → FedOf A M
  followed f bs = fed_to (fed_all feed f.machine bs).machine (f.written ++ (fed_all feed f.machine bs).written)

  pub fed_append : (m : M) (xs ys : List ℕ) → fed_all feed m (xs ++ ys) ≡ followed (fed_all feed m xs) ys
  unfolding fed_all
  fed_append m [] ys = refl
  fed_append m (x ∷ xs) ys = rw (fed_append (feed m x).machine xs ys, append_assoc)

  pub pieces_joined : (m : M) (ps : List (List ℕ)) → fed_pieces feed m ps ≡ fed_all feed m (joined ps)
  unfolding fed_pieces fed_all joined
  pieces_joined m [] = refl
  pieces_joined m (p ∷ ps) =
      ap (λ (f : FedOf A M). fed_to f.machine ((fed_all feed m p).written ++ f.written)) (pieces_joined (fed_all feed m p).machine ps)
      ∙ sym (fed_append m p (joined ps))
