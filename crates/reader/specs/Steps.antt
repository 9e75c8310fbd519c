-- C-17: what one whole record does (R83 to R88).
use Rattle.std.specs.Prelude.{ℕ, ◌+◌, Bool, false, cond, not, ◌&&◌, List, eqb, ltb, ℤ, pos, negsuc, get_or, set}
use Rattle.reader.specs.declared.Message.{Message}
use Rattle.reader.specs.declared.Message.TheVariants.{Version, Id, Memory, Vector, Extra, Disconnected, Closed}
use Rattle.reader.specs.Records.{Record, without_descriptor, with_descriptor}
use Rattle.reader.specs.Sizes.{ids}

-- the steps, by their number in the progress record
abbrev pub version_due : ℕ
version_due = 0

abbrev pub id_due : ℕ
id_due = 1

abbrev pub memory_due : ℕ
memory_due = 2

abbrev pub peers_due : ℕ
peers_due = 3

abbrev pub closed_step : ℕ
closed_step = 4

-- what is known of the server: the step that is due, our own id, and how many vectors each id has
pub record Known : Type 0 where
  pub due : ℕ
  pub own : ℕ
  pub counts : List ℕ

abbrev pub known : ℕ → ℕ → List ℕ → Known
known due own counts = record { due = due; own = own; counts = counts }

abbrev pub count : Known → ℕ → ℕ
count k id = get_or k.counts id 0

abbrev pub counted : Known → ℕ → ℕ → Known
counted k id n = known k.due k.own (set k.counts id n)

-- what a record comes to: its message, and what is known then
pub record Result : Type 0 where
  pub message : Message
  pub known : Known

abbrev pub result_with : Message → Known → Result
result_with m k = record { message = m; known = k }

-- R88: our own id and the counts stay as they are
abbrev pub closes : Known → Result
closes k = result_with Closed (known closed_step k.own k.counts)

-- the numbers that a record may have: the version 0, the ids 0 to 63, and -1 for the memory
unfoldable pub is_version : ℤ → Bool
is_version (pos n) = eqb n 0
is_version (negsuc n) = false

unfoldable pub is_id : ℤ → Bool
is_id (pos n) = ltb n ids
is_id (negsuc n) = false

-- asked only where the number is an id
unfoldable pub id_of : ℤ → ℕ
id_of (pos n) = n
id_of (negsuc n) = 0

unfoldable pub is_memory : ℤ → Bool
is_memory (pos n) = false
is_memory (negsuc n) = eqb n 0

-- R83: first the version 0, without a descriptor
unfoldable pub version_step : Known → Record → Result
version_step k r = cond (is_version r.value && without_descriptor r) (result_with Version (known id_due k.own k.counts)) (closes k)

-- R84: then our own id, without one
unfoldable pub id_step : Known → Record → Result
id_step k r =
    cond (is_id r.value && without_descriptor r) (result_with (Id (id_of r.value)) (known memory_due (id_of r.value) k.counts)) (closes k)

-- R85: then -1, with one
unfoldable pub memory_step : Known → Record → Result
memory_step k r = cond (is_memory r.value && with_descriptor r) (result_with Memory (known peers_due k.own k.counts)) (closes k)

-- R86: an id with a descriptor adds one vector to it, up to the configured number; one above that is extra and changes no count
unfoldable pub adds : (vectors : ℕ) → Known → ℕ → Result
adds vectors k id =
    cond (ltb (count k id) vectors) (result_with (Vector id (count k id + 1)) (counted k id (count k id + 1)))
    (result_with (Extra id (count k id)) k)

-- R87: the id of another peer that has vectors, without a descriptor, disconnects that peer
unfoldable pub removes : Known → ℕ → Result
removes k id = cond (not (eqb id k.own) && ltb 0 (count k id)) (result_with (Disconnected id) (counted k id 0)) (closes k)

unfoldable pub peers_step : (vectors : ℕ) → Known → Record → Result
peers_step vectors k r =
    cond (is_id r.value && with_descriptor r) (adds vectors k (id_of r.value))
    (cond (is_id r.value && without_descriptor r) (removes k (id_of r.value)) (closes k))

-- one whole record, by the step that is due; R88: anything else closes, and so does every record after a close
unfoldable pub read_record : (vectors : ℕ) → Known → Record → Result
read_record vectors k r =
    cond (eqb k.due version_due) (version_step k r)
    (cond (eqb k.due id_due) (id_step k r)
    (cond (eqb k.due memory_due) (memory_step k r)
    (cond (eqb k.due peers_due) (peers_step vectors k r) (closes k))))
