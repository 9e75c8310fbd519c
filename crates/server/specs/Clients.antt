-- C-18: the ids that are joined (R97, R98).
use Rattle.std.specs.Prelude.{ℕ, zero, suc, ◌+◌, ◌-◌, ◌≤◌, ◌<◌, ◌^◌, Bool, true, false, cond, not, ◌&&◌, ◌||◌, List, [], ◌∷◌, ◌++◌, ◌≡◌, eqb, ltb, length, get_or}
use Rattle.common.specs.Bytes.{bit}
use Rattle.reader.specs.Sizes.{ids}

-- R97: the joined ids are the bits of one number: bit i is 1 where id i is joined
unfoldable pub is_joined : (joined id : ℕ) → Bool
is_joined joined id = ltb id ids && bit id joined

-- with an id that was free, and without one that was joined
abbrev pub joined_with : (joined id : ℕ) → ℕ
joined_with joined id = joined + 2 ^ id

abbrev pub joined_without : (joined id : ℕ) → ℕ
joined_without joined id = joined - 2 ^ id

-- Neither touches another id.
abbrev pub JoiningAddsOne : Type 0
JoiningAddsOne =
    (joined id : ℕ) → id < ids → is_joined joined id ≡ false
    → (j : ℕ) → is_joined (joined_with joined id) j ≡ (eqb j id || is_joined joined j)

abbrev pub LeavingRemovesOne : Type 0
LeavingRemovesOne =
    (joined id : ℕ) → is_joined joined id ≡ true
    → (j : ℕ) → is_joined (joined_without joined id) j ≡ (not (eqb j id) && is_joined joined j)

-- an id, if it is joined
unfoldable pub joined_at : (joined id : ℕ) → List ℕ
joined_at joined id = cond (is_joined joined id) (id ∷ []) []

-- the joined ids below n, ascending
unfoldable pub joined_below : (n joined : ℕ) → List ℕ
joined_below zero joined = []
joined_below (suc n) joined = joined_below n joined ++ joined_at joined n

abbrev pub clients : (joined : ℕ) → List ℕ
clients joined = joined_below ids joined

-- They are the joined ids, all of them, ascending.
pub record Listed (joined : ℕ) (to : List ℕ) : Type 0 where
  pub only : (k : ℕ) → k < length to → is_joined joined (get_or to k 0) ≡ true
  pub all : (id : ℕ) → is_joined joined id ≡ true → (k : ℕ) × ((k < length to) × (get_or to k 0 ≡ id))
  pub ascending : (j k : ℕ) → j < k → k < length to → get_or to j 0 < get_or to k 0

abbrev pub ClientsAreListed : Type 0
ClientsAreListed = (joined : ℕ) → Listed joined (clients joined)

-- R98: the lowest free id, looked for among n ids from this one on; the number after them where all are joined
unfoldable pub free_from : (n id joined : ℕ) → ℕ
free_from zero id joined = id
free_from (suc n) id joined = cond (is_joined joined id) (free_from n (suc id) joined) id

unfoldable pub lowest_free : (joined : ℕ) → ℕ
lowest_free joined = free_from ids 0 joined

-- a free id before which all ids are joined
pub record Lowest (joined id : ℕ) : Type 0 where
  pub within : id ≤ ids
  pub free : is_joined joined id ≡ false
  pub before : (i : ℕ) → i < id → is_joined joined i ≡ true
