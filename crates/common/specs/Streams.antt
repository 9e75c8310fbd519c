-- Machines that are fed bytes and give something for them. Where a machine stands after a byte, and what it gives for it, is all
-- that is known of it, so that what is shown here holds of records and of answers of any form.
use Rattle.std.specs.Prelude.{ℕ, List, [], ◌∷◌, ◌++◌}

pub record FedOf (A M : Type 0) : Type 0 where
  pub machine : M
  pub written : List A

-- what a machine that writes bytes gives
abbrev pub Fed : Type 0 → Type 0
Fed M = FedOf ℕ M

abbrev pub fed_to : {A M : Type 0} → M → List A → FedOf A M
fed_to m written = record { machine = m; written = written }

-- byte after byte
unfoldable pub fed_all : {A M : Type 0} → (M → ℕ → FedOf A M) → M → List ℕ → FedOf A M
fed_all feed m [] = fed_to m []
fed_all feed m (b ∷ bs) =
    fed_to (fed_all feed (feed m b).machine bs).machine ((feed m b).written ++ (fed_all feed (feed m b).machine bs).written)

-- piece after piece: each is fed where the one before left the machine
unfoldable pub fed_pieces : {A M : Type 0} → (M → ℕ → FedOf A M) → M → List (List ℕ) → FedOf A M
fed_pieces feed m [] = fed_to m []
fed_pieces feed m (p ∷ ps) =
    fed_to (fed_pieces feed (fed_all feed m p).machine ps).machine
    ((fed_all feed m p).written ++ (fed_pieces feed (fed_all feed m p).machine ps).written)

-- the whole that pieces make
unfoldable pub joined : List (List ℕ) → List ℕ
joined [] = []
joined (p ∷ ps) = p ++ joined ps
