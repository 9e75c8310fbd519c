-- Worked cases, in two tables that one theorem checks: the whole start, each wrong record at each step, a record cut at each of its
-- bytes, and each refusal. A definition and code that agree on another rule would pass every other proof.
use Prim.Native.Nat.{ℕ, ◌+◌, ◌-◌, ◌*◌, ◌^◌}
use mathlib.Core.List.{List, [], ◌∷◌, ◌++◌, map}
use mathlib.Core.Path.{◌≡◌, refl}
use lib.ListN.{take, drop, set, replicate}
use Rattle.common.specs.Bytes.{bytes, number}
use Rattle.common.specs.Lists.{tabulate}
use Rattle.common.specs.Tests.{first, every, below}
use Rattle.reader.specs.declared.Message.{Message}
use Rattle.reader.specs.declared.Message.TheVariants.{More, Version, Id, Memory, Vector, Extra, Disconnected, Closed}
use Rattle.reader.specs.Reading.{State, state, start, emptied, Read, gives, good, refusal, refused_by, accepted, read}
use Rattle.reader.specs.Records.{signed, record_in}
use Rattle.reader.specs.Sizes.{ids, most_vectors}
use Rattle.reader.specs.Steps.{Known, known, is_version, is_id, id_of, is_memory, read_record}
use Rattle.reader.specs.Steps.{version_step, id_step, memory_step, adds, removes, peers_step}

-- a record without a descriptor and one with, of 64 bits; those of a negative number
abbrev bare : ℕ → List ℕ
bare n = 0 ∷ bytes 8 n

abbrev with : ℕ → List ℕ
with n = 1 ∷ bytes 8 n

abbrev minus : ℕ → ℕ
minus n = 2 ^ 64 - n

-- Streams: whole records, each by a call, and their messages.
pub record Stream : Type 0 where
  pub vectors : ℕ
  pub records : List (List ℕ)
  pub says : List Message

abbrev stream : ℕ → List (List ℕ) → List Message → Stream
stream vectors records says = record { vectors = vectors; records = records; says = says }

unfoldable pub heard : ℕ → State → List (List ℕ) → List Message
heard vectors s [] = []
heard vectors s (r ∷ rs) = (read vectors s r).message ∷ heard vectors (read vectors s r).state rs

pub streams : List Stream
streams =
    -- byte for byte as they come
    stream 2
    ((0 ∷ 0 ∷ 0 ∷ 0 ∷ 0 ∷ 0 ∷ 0 ∷ 0 ∷ 0 ∷ [])
    ∷ (0 ∷ 5 ∷ 0 ∷ 0 ∷ 0 ∷ 0 ∷ 0 ∷ 0 ∷ 0 ∷ [])
    ∷ (1 ∷ 255 ∷ 255 ∷ 255 ∷ 255 ∷ 255 ∷ 255 ∷ 255 ∷ 255 ∷ [])
    ∷ (1 ∷ 7 ∷ 0 ∷ 0 ∷ 0 ∷ 0 ∷ 0 ∷ 0 ∷ 0 ∷ [])
    ∷ (0 ∷ 7 ∷ 0 ∷ 0 ∷ 0 ∷ 0 ∷ 0 ∷ 0 ∷ 0 ∷ [])
    ∷ (1 ∷ 0 ∷ 0 ∷ 0 ∷ 0 ∷ 0 ∷ 0 ∷ 0 ∷ 7 ∷ [])
    ∷ [])
    (Version ∷ Id 5 ∷ Memory ∷ Vector 7 1 ∷ Disconnected 7 ∷ Closed ∷ [])
    -- the whole start with one vector: a second one is extra, and does not count; a peer comes back after it has left
    ∷ stream 1
    (bare 0 ∷ bare 5 ∷ with (minus 1) ∷ with 7 ∷ with 5 ∷ with 5 ∷ with 7 ∷ bare 7 ∷ with 7 ∷ [])
    (Version ∷ Id 5 ∷ Memory ∷ Vector 7 1 ∷ Vector 5 1 ∷ Extra 5 1 ∷ Extra 7 1 ∷ Disconnected 7 ∷ Vector 7 1 ∷ [])
    -- with sixteen: those of a peer, our own, and one more of each
    ∷ stream 16
    (bare 0 ∷ bare 63 ∷ with (minus 1) ∷ (replicate 17 (with 0) ++ replicate 17 (with 63)))
    (Version ∷ Id 63 ∷ Memory
    ∷ (tabulate 16 (λ i. Vector 0 (i + 1)) ++ (Extra 0 16 ∷ (tabulate 16 (λ i. Vector 63 (i + 1)) ++ (Extra 63 16 ∷ [])))))
    -- a disconnect takes all vectors; without any the peer is not there, and its leaving closes, as does all after it
    ∷ stream 3
    (bare 0 ∷ bare 0 ∷ with (minus 1) ∷ with 2 ∷ with 2 ∷ bare 2 ∷ with 2 ∷ bare 2 ∷ bare 2 ∷ with 2 ∷ bare 0 ∷ [])
    (Version ∷ Id 0 ∷ Memory ∷ Vector 2 1 ∷ Vector 2 2 ∷ Disconnected 2 ∷ Vector 2 1 ∷ Disconnected 2 ∷ Closed ∷ Closed ∷ Closed ∷ [])
    ∷ []

-- Calls: what goes in, and all that comes back.
pub record Call : Type 0 where
  pub vectors : ℕ
  pub before : State
  pub input : List ℕ
  pub after : Read

abbrev call : ℕ → State → List ℕ → Read → Call
call vectors before input after = record { vectors = vectors; before = before; input = input; after = after }

-- at each step, with two vectors: our id is 5, peer 7 has two vectors and we have one
abbrev none : List ℕ
none = replicate ids 0

abbrev some : List ℕ
some = set (set none 7 2) 5 1

abbrev version_at : Known
version_at = known 0 0 none

abbrev id_at : Known
id_at = known 1 0 none

abbrev memory_at : Known
memory_at = known 2 5 none

abbrev peers_at : Known
peers_at = known 3 5 some

abbrev closed_at : Known
closed_at = known 4 5 some

-- a record that is answered by this message and leaves this
abbrev told : Known → List ℕ → Message → Known → Call
told k r m after = call 2 (emptied k) r (gives m 9 (emptied after))

-- one that closes: our id and the counts stay
abbrev closing : Known → List ℕ → Call
closing k r = told k r Closed (known 4 k.own k.counts)

-- numbers that mean nothing at any step: no id, the largest, -2, and the least
abbrev strange : (ℕ → List ℕ) → Known → List Call
strange f k =
    closing k (f 64)
    ∷ closing k (f (2 ^ 63 - 1))
    ∷ closing k (f (minus 2))
    ∷ closing k (f (2 ^ 63))
    -- each byte of the number counts
    ∷ tabulate 7 (λ j. closing k (f (2 ^ (8 * (j + 1)))))

-- the record that is due, of another kind
abbrev kinds : Known → ℕ → List Call
kinds k n = closing k (2 ∷ bytes 8 n) ∷ closing k (128 ∷ bytes 8 n) ∷ closing k (255 ∷ bytes 8 n) ∷ []

abbrev wrong_version : List Call
wrong_version =
    closing version_at (bare 1)
    ∷ closing version_at (with 0)
    ∷ closing version_at (with (minus 1))
    ∷ closing version_at (bare (minus 1))
    ∷ (kinds version_at 0 ++ (strange bare version_at ++ strange with version_at))

abbrev wrong_id : List Call
wrong_id =
    closing id_at (with 5)
    ∷ closing id_at (with (minus 1))
    ∷ closing id_at (bare (minus 1))
    ∷ (kinds id_at 5 ++ (strange bare id_at ++ strange with id_at))

-- -1 has 64 bits
abbrev wrong_memory : List Call
wrong_memory =
    closing memory_at (bare (minus 1))
    ∷ closing memory_at (bare 5)
    ∷ closing memory_at (with 5)
    ∷ closing memory_at (with 0)
    ∷ closing memory_at (with (2 ^ 32 - 1))
    ∷ (tabulate 8 (λ j. closing memory_at (with (minus 1 - 2 ^ (8 * j)))) ++ (kinds memory_at (minus 1) ++ (strange with memory_at ++ strange bare memory_at)))

-- we ourselves do not leave, and neither does a peer without vectors
abbrev wrong_peer : List Call
wrong_peer =
    closing peers_at (bare 5)
    ∷ closing peers_at (bare 9)
    ∷ closing peers_at (with (minus 1))
    ∷ closing peers_at (bare (minus 1))
    ∷ closing (known 3 0 (set some 0 1)) (bare 0)
    ∷ (kinds peers_at 7 ++ (strange bare peers_at ++ strange with peers_at))

abbrev after_close : List Call
after_close =
    closing closed_at (bare 0)
    ∷ closing closed_at (with (minus 1))
    ∷ closing closed_at (with 7)
    ∷ closing closed_at (bare 7)
    ∷ call 2 (emptied closed_at) (take 8 (with 7)) (gives More 8 (state (record { due = 4; own = 5; held = 8; bytes = take 8 (with 7) }) some))
    ∷ kinds closed_at 7

abbrev right : List Call
right =
    told version_at (bare 0) Version id_at
    ∷ told id_at (bare 5) (Id 5) memory_at
    ∷ told id_at (bare 0) (Id 0) (known 2 0 none)
    ∷ told id_at (bare 63) (Id 63) (known 2 63 none)
    ∷ told memory_at (with (minus 1)) Memory (known 3 5 none)
    ∷ told peers_at (with 5) (Vector 5 2) (known 3 5 (set some 5 2))
    ∷ told peers_at (with 63) (Vector 63 1) (known 3 5 (set some 63 1))
    ∷ told peers_at (with 7) (Extra 7 2) peers_at
    ∷ told peers_at (bare 7) (Disconnected 7) (known 3 5 (set some 7 0))
    -- of two records the first is taken
    ∷ call 2 (emptied version_at) (bare 0 ++ bare 5) (gives Version 9 (emptied id_at))
    ∷ []

-- a record cut after its first k bytes: those are held, and the rest, with more behind it, is read to the record's end
abbrev holds : ℕ → List ℕ → State
holds k r = state (record { due = 3; own = 5; held = k; bytes = take k r ++ replicate (8 - k) 0 }) some

abbrev begun : ℕ → Call
begun k = call 2 (emptied peers_at) (take k (with 5)) (gives More k (holds k (with 5)))

abbrev ended : ℕ → Call
ended k =
    call 2 (holds k (with 5)) (drop k (with 5) ++ (1 ∷ 2 ∷ [])) (gives (Vector 5 2) (9 - k) (emptied (known 3 5 (set some 5 2))))

-- what stands behind the bytes held stays until the record is whole
abbrev behind : Call
behind =
    call 2 (state (record { due = 4; own = 0; held = 2; bytes = 1 ∷ 2 ∷ 3 ∷ 4 ∷ 5 ∷ 6 ∷ 7 ∷ 8 ∷ [] }) none) (9 ∷ 10 ∷ [])
    (gives More 2 (state (record { due = 4; own = 0; held = 4; bytes = 1 ∷ 2 ∷ 9 ∷ 10 ∷ 5 ∷ 6 ∷ 7 ∷ 8 ∷ [] }) none))

-- what is refused, and by which number; nothing is taken and nothing changes
abbrev refused : ℕ → ℕ → State → Call
refused number vectors s = call vectors s (bare 0) (refused_by number s)

abbrev held : ℕ → ℕ → ℕ → List ℕ → State
held due own n counts = state (record { due = due; own = own; held = n; bytes = 255 ∷ 2 ∷ 3 ∷ 4 ∷ 5 ∷ 6 ∷ 7 ∷ 8 ∷ [] }) counts

abbrev refusals : List Call
refusals =
    refused 1 0 start
    ∷ refused 1 17 start
    ∷ refused 1 17 (held 5 0 0 [])
    ∷ refused 2 16 (held 0 0 0 [])
    ∷ refused 2 16 (held 0 0 0 (replicate 63 0))
    ∷ refused 2 16 (held 0 0 0 (replicate 65 0))
    ∷ refused 2 16 (held 5 0 0 [])
    -- an unknown step, no id, nine bytes, a count above the number
    ∷ refused 10 16 (held 5 0 0 none)
    ∷ refused 10 16 (held 3 64 0 none)
    ∷ refused 10 16 (held 4 64 0 none)
    ∷ refused 10 16 (held 0 0 9 none)
    ∷ refused 10 16 (held 4 0 9 none)
    ∷ refused 10 16 (held 3 0 0 (set none 0 17))
    ∷ refused 10 1 (held 3 0 0 (set none 63 2))
    ∷ refused 10 1 (held 4 0 0 (set none 63 2))
    -- an id too early, a vector too early
    ∷ refused 10 16 (held 0 1 0 none)
    ∷ refused 10 16 (held 1 1 0 none)
    ∷ refused 10 16 (held 0 0 0 (set none 0 1))
    ∷ refused 10 16 (held 1 0 0 (set none 0 1))
    ∷ refused 10 16 (held 2 0 0 (set none 63 1))
    ∷ []

-- the least and the most that is taken, at each step
abbrev taken : ℕ → ℕ → ℕ → ℕ → List ℕ → Call
taken vectors due own n counts = call vectors (held due own n counts) [] (gives More 0 (held due own n counts))

abbrev limits : List Call
limits =
    taken 1 0 0 0 none
    ∷ taken 16 0 0 8 none
    ∷ taken 16 1 0 8 none
    ∷ taken 16 2 63 8 none
    ∷ taken 16 3 63 8 (replicate ids 16)
    ∷ taken 16 4 63 8 (replicate ids 16)
    ∷ taken 1 4 0 0 (replicate ids 1)
    ∷ []

pub calls : List Call
calls =
    right
    ++ (wrong_version ++ (wrong_id ++ (wrong_memory ++ (wrong_peer ++ (after_close ++ (tabulate 9 begun ++ (tabulate 9 ended ++ (behind ∷ (refusals ++ limits)))))))))

pub the_cases :
    (map (λ c. heard c.vectors start c.records) streams ≡ map (λ c. c.says) streams)
    × (map (λ c. read c.vectors c.before c.input) calls ≡ map (λ c. c.after) calls)
unfolding streams calls heard read accepted refusal good first every below tabulate ids most_vectors record_in signed number bytes
    read_record is_version is_id id_of is_memory version_step id_step memory_step adds removes peers_step
the_cases = (refl, refl)
