-- Each message has its own number, and its id and count in their places: a definition and code that mixed up two of them alike would
-- meet the contract.
use Prim.Native.Nat.{ℕ}
use mathlib.Core.List.{List, [], ◌∷◌, map}
use mathlib.Core.Path.{◌≡◌, refl}
use Rattle.reader.specs.declared.Message.{Message}
use Rattle.reader.specs.declared.Message.TheVariants.{More, Version, Id, Memory, Vector, Extra, Disconnected, Closed}
use Rattle.ivshmem_protocol.specs.declared.MessageNumbers.{MessageNumbers}
use Rattle.ivshmem_protocol.specs.Promises.{numbers_of}

abbrev pub three : MessageNumbers → List ℕ
three n = n.message ∷ n.id ∷ n.count ∷ []

pub messages : List Message
messages = More ∷ Version ∷ Id 63 ∷ Memory ∷ Vector 63 16 ∷ Extra 63 16 ∷ Disconnected 63 ∷ Closed ∷ []

pub numbered : List (List ℕ)
numbered =
    (0 ∷ 0 ∷ 0 ∷ [])
    ∷ (1 ∷ 0 ∷ 0 ∷ [])
    ∷ (2 ∷ 63 ∷ 0 ∷ [])
    ∷ (3 ∷ 0 ∷ 0 ∷ [])
    ∷ (4 ∷ 63 ∷ 16 ∷ [])
    ∷ (5 ∷ 63 ∷ 16 ∷ [])
    ∷ (6 ∷ 63 ∷ 0 ∷ [])
    ∷ (7 ∷ 0 ∷ 0 ∷ [])
    ∷ []

pub each_in_its_place : map (λ m. three (numbers_of m)) messages ≡ numbered
unfolding messages numbered
each_in_its_place = refl
