-- The theorems of specs/Cutting: cutting changes nothing, calls are feeding, and records are answered or held.
use Prim.Native.Nat.{ℕ, ◌+◌, ◌<◌}
use mathlib.Core.Bool.{false, true}
use mathlib.Core.List.{List, [], ◌∷◌, ◌++◌, append-nil, append_assoc}
use mathlib.Core.Path.{◌≡◌, refl, sym, ap, ◌∙◌}
use native.Mathlib.Omega.{arith}
use lib.ListN.{length, take, length-append}
use lib.Seq.{take_at}
use borrow.Author.Tests.{le-leb, lt-leb, ne_eqb}
use Rattle.common.proofs.StreamLaws.{fed_append, pieces_joined}
use Rattle.common.specs.Lists.{over}
use Rattle.common.specs.Streams.{Fed, fed_to, fed_all}
use Rattle.device.specs.World.{World}
use Rattle.playback.proofs.RecordLaws.{record_some}
use Rattle.playback.specs.Answers.{answer}
use Rattle.playback.specs.Cutting.{played_in_pieces, CuttingChangesNothing, Calls, CallsAreFeeding}
use Rattle.playback.specs.Cutting.{CallsPlay, RecordsAreAnswered, PartsAreHeld, NothingElse}
use Rattle.playback.specs.Log.{kind_of, record_length, request_of, whole}
use Rattle.playback.specs.Player.{Player, player, after, answers, come, fed, fresh, inside, played}
use Rattle.playback.specs.Promises.{Writes, player_in}

pub cutting_changes_nothing : CuttingChangesNothing
unfolding played_in_pieces played answers
cutting_changes_nothing pieces = rw (pieces_joined fed fresh pieces)

front : {before after written : List ℕ} {n : ℕ} → Writes before after written n → take n after ≡ written
unfolding over
front {before} {after} {written} {n} w = rw w.bytes (take_at written _ n (sym w.count))

calls : {p now : Player} {bytes written : List ℕ} → Calls p bytes written now → fed_all fed p bytes ≡ fed_to now written
unfolding fed_all
calls Calls.none = refl
calls {p} (Calls.more {piece = piece} {bytes = bytes} {r = r} f rest) =
    fed_append fed p (take r.taken piece) bytes ∙ rw (← f.goes.player, calls rest, front f.goes.written)

pub calls_are_feeding : CallsAreFeeding
calls_are_feeding p now bytes written c = calls c

pub calls_play : CallsPlay
unfolding played answers
calls_play log written hub region held out out_after p n c e =
    let f = calls c in
    let a : answers log ≡ written = ap (λ (x : Fed Player). x.written) f in
    let m : (fed_all fed fresh log).machine ≡ player_in hub region held p = ap (λ (x : Fed Player). x.machine) f in
    rw (a, m, front e.written)

-- one byte of a record that has begun
kind_first : (h bs : List ℕ) → 0 < length h → kind_of (h ++ bs) ≡ kind_of h
unfolding kind_of
kind_first [] bs l = absurd (omega arith)
kind_first (x ∷ h) bs l = refl

one_more : (w : World) (h : List ℕ) (b : ℕ) → fed (player w h false) b ≡ come w (h ++ (b ∷ []))
unfolding fed
one_more w h b = refl

come_held : (w : World) (r : List ℕ) → length r < record_length (kind_of r) → come w r ≡ fed_to (player w r false) []
unfolding come whole
come_held w r l = rw (lt-leb _ _ l)

come_whole : (w : World) (r : List ℕ) → length r ≡ record_length (kind_of r) → come w r ≡ after (answer w (request_of (kind_of r) r))
unfolding come whole
come_whole w r e = rw (le-leb (record_length (kind_of r)) (length r) (omega arith))

longer : (h : List ℕ) (b : ℕ) → length (h ++ (b ∷ [])) ≡ length h + 1
longer h b = length-append h (b ∷ [])

-- the first byte, and those after it
abbrev Some : List ℕ → Type 0
Some l = 0 < length l

held_on : (w : World) (h bs : List ℕ) → Some h → length h + length bs < record_length (kind_of h) →
    fed_all fed (player w h false) bs ≡ fed_to (player w (h ++ bs) false) []
unfolding fed_all
held_on w h [] s l = rw append-nil
held_on w h (b ∷ bs) s l =
    let k : kind_of (h ++ (b ∷ [])) ≡ kind_of h = kind_first h (b ∷ []) s in
    let n : length (h ++ (b ∷ [])) ≡ length h + 1 = longer h b in
    let here : fed (player w h false) b ≡ fed_to (player w (h ++ (b ∷ [])) false) [] = one_more w h b ∙ come_held w (h ++ (b ∷ [])) (rw k (omega arith)) in
    rw (here, held_on w (h ++ (b ∷ [])) bs (omega arith) (rw k (omega arith)), append_assoc)

answered_on : (w : World) (h bs : List ℕ) (b : ℕ) → Some h → length h + length (b ∷ bs) ≡ record_length (kind_of h)
    → fed_all fed (player w h false) (b ∷ bs) ≡ after (answer w (request_of (kind_of (h ++ (b ∷ bs))) (h ++ (b ∷ bs))))
unfolding fed_all
answered_on w h [] b s e =
    let k : kind_of (h ++ (b ∷ [])) ≡ kind_of h = kind_first h (b ∷ []) s in
    let n : length (h ++ (b ∷ [])) ≡ length h + 1 = longer h b in
    let here : fed (player w h false) b ≡ after (answer w (request_of (kind_of (h ++ (b ∷ []))) (h ++ (b ∷ [])))) = one_more w h b
    ∙ come_whole w (h ++ (b ∷ [])) (rw k (omega arith)) in
    rw (here, append-nil)
answered_on w h (c ∷ bs) b s e =
    let k : kind_of (h ++ (b ∷ [])) ≡ kind_of h = kind_first h (b ∷ []) s in
    let n : length (h ++ (b ∷ [])) ≡ length h + 1 = longer h b in
    let here : fed (player w h false) b ≡ fed_to (player w (h ++ (b ∷ [])) false) [] = one_more w h b ∙ come_held w (h ++ (b ∷ [])) (rw k (omega arith)) in
    let join : (h ++ (b ∷ [])) ++ (c ∷ bs) ≡ h ++ (b ∷ c ∷ bs) = append_assoc h (b ∷ []) (c ∷ bs) in
    rw (here, ← join) (answered_on w (h ++ (b ∷ [])) bs c (omega arith) (rw k (omega arith)))

first_held : (w : World) (b : ℕ) → 1 < record_length (kind_of (b ∷ [])) → fed (player w [] false) b ≡ fed_to (player w (b ∷ []) false) []
first_held w b l = one_more w [] b ∙ come_held w (b ∷ []) l

pub records_are_answered : RecordsAreAnswered
unfolding fed_all
records_are_answered w [] e = absurd (omega (arith, record_some (kind_of [])))
records_are_answered w (b ∷ []) e = rw (one_more w [] b, come_whole w (b ∷ []) e, append-nil)
records_are_answered w (b ∷ c ∷ bs) e =
    let k : kind_of (b ∷ c ∷ bs) ≡ kind_of (b ∷ []) = kind_first (b ∷ []) (c ∷ bs) (omega arith) in
    let n : length (b ∷ c ∷ bs) ≡ record_length (kind_of (b ∷ [])) = e ∙ ap record_length k in
    rw (first_held w b (omega arith)) (answered_on w (b ∷ []) bs c (omega arith) (omega arith))

pub parts_are_held : PartsAreHeld
unfolding fed_all inside
parts_are_held w [] s l = absurd (omega arith)
parts_are_held w (b ∷ bs) s l =
    let k : kind_of (b ∷ bs) ≡ kind_of (b ∷ []) = kind_first (b ∷ []) bs (omega arith) in
    let n : length (b ∷ bs) < record_length (kind_of (b ∷ [])) = rw k at l in
    (rw (first_held w b (omega arith)) (held_on w (b ∷ []) bs (omega arith) (omega arith)), rw (ne_eqb (length (b ∷ bs)) 0 (λ z. omega arith)))

ignored : (w : World) (held bytes : List ℕ) → fed_all fed (player w held true) bytes ≡ fed_to (player w held true) []
unfolding fed_all fed
ignored w held [] = refl
ignored w held (b ∷ bytes) = ignored w held bytes

pub nothing_else : NothingElse
unfolding inside
nothing_else w held bytes = (refl, refl, ignored w held bytes)
