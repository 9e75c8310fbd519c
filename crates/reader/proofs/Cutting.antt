-- The theorems of specs/Cutting: calls come to what their bytes come to one by one, so that only the bytes count.
use Prim.Native.Nat.{ℕ, zero, suc, ◌-◌, ◌≤◌, ◌<◌}
use mathlib.Core.Bool.{true, false}
use mathlib.Core.List.{List, [], ◌∷◌, ◌++◌, append-nil}
use mathlib.Core.Path.{◌≡◌, refl, sym, ap, ◌∙◌}
use native.Mathlib.Omega.{arith}
use lib.ListN.{length, take, drop, length-set, length-drop, take-append-drop}
use lib.Seq.{length-sets, take_all, take-length}
use Rattle.common.proofs.StreamLaws.{fed_append}
use Rattle.common.proofs.TestLaws.{by_equal}
use Rattle.common.specs.Streams.{FedOf, fed_to, fed_all, joined}
use Rattle.reader.proofs.GoodLaws.{good_facts}
use Rattle.reader.proofs.Keeping.{by_read, good_stays_good}
use Rattle.reader.proofs.ReadLaws.{by_bool, read_accepted, accepted_refusal, reads_more, reads_whole, by_reads}
use Rattle.reader.proofs.ReadLaws.{holding_none, later, reads_then, reads_ninth}
use Rattle.reader.proofs.RecordLaws.{Comes, comes}
use Rattle.reader.specs.declared.Message.{Message}
use Rattle.reader.specs.declared.Message.TheVariants.{More, Version, Id, Memory, Vector, Extra, Disconnected, Closed}
use Rattle.reader.specs.Cutting.{is_more, without_more, Eight, read_at_most, read_piece, read_pieces, CuttingChangesNothing, Calls, OnlyBytesCount}
use Rattle.reader.specs.Cutting.{one_byte, CallsAreBytes, EveryStreamIsRead, CallsTake, RecordsAreAnswered, PartsAreHeld}
use Rattle.reader.specs.Reading.{State, Read, gives, answered_by, emptied, held_in, holding, known_in, read, accepted, refusal}
use Rattle.reader.specs.Records.{record_in}
use Rattle.reader.specs.Steps.{Known, Result, read_record}

-- every call keeps the eight places
eight_after : (vectors : ℕ) (s : State) (input : List ℕ) → Eight s → Eight (read vectors s input).state
eight_after vectors s input eight =
    by_read vectors s input (λ r. Eight r.state) eight
    (λ _. length-sets s.progress.bytes s.progress.held input ∙ eight) (λ h l c. refl)

-- what a call gives, as what its bytes give
abbrev pub given : Read → FedOf Message State
given r = fed_to r.state (without_more r.message)

abbrev pub by_bytes : ℕ → State → List ℕ → FedOf Message State
by_bytes vectors s bytes = fed_all (one_byte vectors) s bytes

module _ (vectors : ℕ) where
  -- the ninth byte of a record
  ninth : (s : State) (x : ℕ) (xs : List ℕ) → Eight s → refusal vectors s ≡ 0 → s.progress.held ≡ 8
      → by_bytes vectors s (take (read vectors s (x ∷ xs)).taken (x ∷ xs)) ≡ given (read vectors s (x ∷ xs))
  unfolding fed_all
  ninth s x xs eight e n =
      let same : read vectors s (x ∷ xs) ≡ read vectors s (x ∷ []) =
      read_accepted vectors s (x ∷ xs) e ∙ reads_ninth vectors s x xs eight n ∙ sym (read_accepted vectors s (x ∷ []) e) in
      let left : 9 - s.progress.held ≡ 1 = omega arith in
      let one : (read vectors s (x ∷ [])).taken ≡ 1 =
      ap (λ (r : Read). r.taken) (read_accepted vectors s (x ∷ []) e ∙ reads_whole vectors s (x ∷ []) (omega arith)) ∙ left in
      rw (same, one, append-nil)

  pub call_is_bytes : (input : List ℕ) (s : State) → Eight s → refusal vectors s ≡ 0
      → by_bytes vectors s (take (read vectors s input).taken input) ≡ given (read vectors s input)
  unfolding fed_all without_more is_more
  call_is_bytes [] s eight e =
      let g = good_facts vectors s e in
      let none : read vectors s [] ≡ gives More 0 s =
      read_accepted vectors s [] e ∙ reads_more vectors s [] (omega arith) ∙ ap (λ (t : State). gives More 0 t) (holding_none s) in
      rw none
  call_is_bytes (x ∷ xs) s eight e =
      by_equal s.progress.held 8 (λ n. ninth s x xs eight e n)
      (λ ne.
      let g = good_facts vectors s e in
      let few : s.progress.held < 8 = omega (arith, g.held) in
      let first : read vectors s (x ∷ []) ≡ gives More 1 (holding s (x ∷ [])) =
      read_accepted vectors s (x ∷ []) e ∙ reads_more vectors s (x ∷ []) (omega arith) in
      let next : refusal vectors (holding s (x ∷ [])) ≡ 0 =
      rw first at (good_stays_good vectors s (x ∷ []) e) in
      let whole : read vectors s (x ∷ xs) ≡ later s x eight few (read vectors (holding s (x ∷ [])) xs) =
      read_accepted vectors s (x ∷ xs) e ∙ reads_then s x eight few vectors xs
      ∙ ap (λ (r : Read). later s x eight few r) (sym (read_accepted vectors (holding s (x ∷ [])) xs next)) in
      let room : Eight (holding s (x ∷ [])) = length-set s.progress.bytes s.progress.held x ∙ eight in
      rw (whole, first) (call_is_bytes xs (holding s (x ∷ [])) room next))

  pub calls : {s now : State} {bytes : List ℕ} {messages : List Message} → Eight s → Calls vectors s bytes messages now
      → by_bytes vectors s bytes ≡ fed_to now messages
  unfolding fed_all
  calls eight Calls.none = refl
  calls {s} eight (Calls.call {bytes = bytes} input z rest) =
      let e = accepted_refusal vectors s input z in
      fed_append (one_byte vectors) s (take (read vectors s input).taken input) bytes
      ∙ rw (call_is_bytes input s eight e, calls (eight_after vectors s input eight) rest)

pub calls_are_bytes : CallsAreBytes
calls_are_bytes vectors s bytes messages now eight c = calls vectors eight c

pub only_bytes_count : OnlyBytesCount
only_bytes_count vectors s bytes messages₁ messages₂ after₁ after₂ eight c₁ c₂ =
    let same : fed_to after₁ messages₁ ≡ fed_to after₂ messages₂ = sym (calls vectors eight c₁) ∙ calls vectors eight c₂ in
    (ap (λ (f : FedOf Message State). f.written) same, ap (λ (f : FedOf Message State). f.machine) same)

-- what a call takes
pub record Takes (input : List ℕ) (r : Read) : Type 0 where
  pub within : r.taken ≤ length input
  pub all : r.message ≡ More → r.taken ≡ length input
  pub some : (r.message ≡ More → ⊥) → 0 < r.taken

speaks : {vectors : ℕ} {k : Known} {h : Result} → Comes vectors k h → h.message ≡ More → ⊥
speaks Comes.closing e = let z : ◌≡◌ {A = ℕ} 0 1 = cc in omega arith
speaks (Comes.version d) e = let z : ◌≡◌ {A = ℕ} 0 1 = cc in omega arith
speaks (Comes.own i d l) e = let z : ◌≡◌ {A = ℕ} 0 1 = cc in omega arith
speaks (Comes.memory d) e = let z : ◌≡◌ {A = ℕ} 0 1 = cc in omega arith
speaks (Comes.vector i d l m) e = let z : ◌≡◌ {A = ℕ} 0 1 = cc in omega arith
speaks (Comes.extra i d l m) e = let z : ◌≡◌ {A = ℕ} 0 1 = cc in omega arith
speaks (Comes.disconnected i d l ne p) e = let z : ◌≡◌ {A = ℕ} 0 1 = cc in omega arith

takes : (vectors : ℕ) (s : State) (input : List ℕ) → refusal vectors s ≡ 0 → Takes input (accepted vectors s input)
takes vectors s input e =
    let g = good_facts vectors s e in
    by_reads vectors s input (λ r. Takes input r)
    (λ l. record { within = omega arith; all = λ _. refl; some = λ n. absurd (n refl) })
    (λ l. record {
      within = l;
      all = λ m. absurd (speaks (comes vectors (known_in s) (record_in (held_in s ++ input))) m);
      some = λ _. omega (arith, g.held);
    })

pub calls_take : CallsTake
calls_take vectors s input z =
    let e = accepted_refusal vectors s input z in
    let t = takes vectors s input e in
    rw (read_accepted vectors s input e) (t.within, (t.all, t.some))

-- one byte is always taken
one_taken : (vectors : ℕ) (s : State) (x : ℕ) → refusal vectors s ≡ 0 → (read vectors s (x ∷ [])).taken ≡ 1
one_taken vectors s x e =
    let g = good_facts vectors s e in
    rw (read_accepted vectors s (x ∷ []) e)
    (by_reads vectors s (x ∷ []) (λ r. r.taken ≡ 1) (λ l. refl) (λ l. omega (arith, g.held)))

pub every_stream_is_read : EveryStreamIsRead
unfolding fed_all
every_stream_is_read vectors s [] e = Calls.none
every_stream_is_read vectors s (x ∷ bytes) e =
    let next = every_stream_is_read vectors (read vectors s (x ∷ [])).state bytes (good_stays_good vectors s (x ∷ []) e) in
    let zero : (read vectors s (x ∷ [])).number ≡ 0 =
    rw (read_accepted vectors s (x ∷ []) e) (by_reads vectors s (x ∷ []) (λ r. r.number ≡ 0) (λ _. refl) (λ _. refl)) in
    rw (one_taken vectors s x e) at (Calls.call (x ∷ []) zero next)

-- where the bytes leave the reader it is accepted again
pub stays : (vectors : ℕ) (bytes : List ℕ) (s : State) → Eight s → refusal vectors s ≡ 0
    → Eight (by_bytes vectors s bytes).machine × (refusal vectors (by_bytes vectors s bytes).machine ≡ 0)
unfolding fed_all
stays vectors [] s eight e = (eight, e)
stays vectors (x ∷ bytes) s eight e =
    stays vectors bytes (read vectors s (x ∷ [])).state (eight_after vectors s (x ∷ []) eight) (good_stays_good vectors s (x ∷ []) e)

-- messages that want more, and others
more : (m : Message) → is_more m ≡ true → m ≡ More
unfolding is_more
more More e = refl
more Version e = cc
more (Id id) e = cc
more Memory e = cc
more (Vector id count) e = cc
more (Extra id count) e = cc
more (Disconnected id) e = cc
more Closed e = cc

module _ (vectors : ℕ) where
  -- a call that wants more, and one that does not
  last_call : (piece : List ℕ) (s : State) → Eight s → refusal vectors s ≡ 0 → is_more (read vectors s piece).message ≡ true
      → fed_to (read vectors s piece).state [] ≡ by_bytes vectors s piece
  unfolding without_more
  last_call piece s eight e m =
      let t = takes vectors s piece e in
      let all : (read vectors s piece).taken ≡ length piece =
      rw (read_accepted vectors s piece e) (t.all (rw (read_accepted vectors s piece e) at (more (read vectors s piece).message m))) in
      sym (rw (all, take-length piece, m) at (call_is_bytes vectors piece s eight e))

  first_call : (piece : List ℕ) (s : State) → Eight s → refusal vectors s ≡ 0 → is_more (read vectors s piece).message ≡ false
      → by_bytes vectors s piece
      ≡ fed_to (by_bytes vectors (read vectors s piece).state (drop (read vectors s piece).taken piece)).machine
      ((read vectors s piece).message ∷ (by_bytes vectors (read vectors s piece).state (drop (read vectors s piece).taken piece)).written)
  unfolding without_more
  first_call piece s eight e m =
      ap (λ (b : List ℕ). by_bytes vectors s b) (sym (take-append-drop (read vectors s piece).taken piece))
      ∙ fed_append (one_byte vectors) s (take (read vectors s piece).taken piece) (drop (read vectors s piece).taken piece)
      ∙ rw (call_is_bytes vectors piece s eight e, m)

  -- it has taken a byte, so that less is left
  less_left : (n : ℕ) (piece : List ℕ) (s : State) → length piece < suc n → refusal vectors s ≡ 0 → is_more (read vectors s piece).message ≡ false
      → length (drop (read vectors s piece).taken piece) < n
  unfolding is_more
  less_left n piece s l e m =
      let t = takes vectors s piece e in
      let says : (accepted vectors s piece).message ≡ More → ⊥ =
      λ q. let z : false ≡ true = sym (rw (read_accepted vectors s piece e, q) at m) in let y : ◌≡◌ {A = ℕ} 0 1 = cc in omega arith in
      let some : 0 < (read vectors s piece).taken = rw (read_accepted vectors s piece e) (t.some says) in
      let within : (read vectors s piece).taken ≤ length piece = rw (read_accepted vectors s piece e) t.within in
      rw (length-drop (read vectors s piece).taken piece) (omega arith)

  piece_is_bytes : (n : ℕ) (piece : List ℕ) (s : State) → length piece < n → Eight s → refusal vectors s ≡ 0
      → read_at_most n vectors s piece ≡ by_bytes vectors s piece
  unfolding read_at_most
  piece_is_bytes zero piece s l eight e = absurd (omega arith)
  piece_is_bytes (suc n) piece s l eight e =
      by_bool (is_more (read vectors s piece).message) (λ m. rw m (last_call piece s eight e m))
      (λ m.
      rw (
        m,
        piece_is_bytes n (drop (read vectors s piece).taken piece) (read vectors s piece).state (less_left n piece s l e m)
            (eight_after vectors s piece eight) (good_stays_good vectors s piece e),
      )
      (sym (first_call piece s eight e m)))

  whole_piece : (piece : List ℕ) (s : State) → Eight s → refusal vectors s ≡ 0 → read_piece vectors s piece ≡ by_bytes vectors s piece
  unfolding read_piece
  whole_piece piece s eight e = piece_is_bytes (suc (length piece)) piece s (omega arith) eight e

  pub pieces_are_bytes : (pieces : List (List ℕ)) (s : State) → Eight s → refusal vectors s ≡ 0
      → read_pieces vectors s pieces ≡ by_bytes vectors s (joined pieces)
  unfolding read_pieces joined fed_all
  pieces_are_bytes [] s eight e = refl
  pieces_are_bytes (p ∷ ps) s eight e =
      let k = stays vectors p s eight e in
      rw (whole_piece p s eight e, pieces_are_bytes ps (by_bytes vectors s p).machine k.0 k.1)
      (sym (fed_append (one_byte vectors) s p (joined ps)))

pub cutting_changes_nothing : CuttingChangesNothing
cutting_changes_nothing vectors s pieces eight e =
    pieces_are_bytes vectors pieces s eight e ∙ sym (whole_piece vectors (joined pieces) s eight e)

-- Records: a message is not More, so that it is not left out.
shown : (m : Message) → (m ≡ More → ⊥) → without_more m ≡ m ∷ []
unfolding without_more
shown m n = by_bool (is_more m) (λ e. absurd (n (more m e))) (λ e. rw e)

pub records_are_answered : RecordsAreAnswered
records_are_answered vectors k r e l =
    let whole : read vectors (emptied k) r ≡ answered_by 9 (read_record vectors k (record_in r)) =
    read_accepted vectors (emptied k) r e ∙ reads_whole vectors (emptied k) r (omega arith) in
    let all : take 9 r ≡ r = take_all 9 r (omega arith) in
    rw (whole, all, shown (read_record vectors k (record_in r)).message (speaks (comes vectors k (record_in r)))) at
    (call_is_bytes vectors r (emptied k) refl e)

pub parts_are_held : PartsAreHeld
unfolding without_more is_more
parts_are_held vectors k r e l =
    let part : read vectors (emptied k) r ≡ gives More (length r) (holding (emptied k) r) =
    read_accepted vectors (emptied k) r e ∙ reads_more vectors (emptied k) r (omega arith) in
    rw (part, take-length r) at (call_is_bytes vectors r (emptied k) refl e)
