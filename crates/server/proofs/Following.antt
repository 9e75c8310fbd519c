-- The theorems of specs/Histories: what a call is to one client, and what stays true of it through a history.
use Prim.Native.Nat.{ℕ, ◌≤◌, ◌<◌}
use mathlib.Core.Bool.{true, false, cond, not, ◌&&◌, true≢false}
use mathlib.Core.List.{List, [], ◌∷◌, ◌++◌, append-nil}
use mathlib.Core.Path.{◌≡◌, refl, sym, ◌∙◌}
use Rattle.common.proofs.TestLaws.{by_equal, and_false}
use Rattle.reader.proofs.Cutting.{every_stream_is_read, pieces_are_bytes}
use Rattle.reader.proofs.Keeping.{start_is_good}
use Rattle.reader.proofs.ReadLaws.{by_bool, by_less}
use Rattle.reader.specs.Reading.{start, refusal}
use Rattle.reader.specs.Records.{Record}
use Rattle.reader.specs.Sizes.{ids}
use Rattle.reader.specs.Steps.{known}
use Rattle.server.specs.declared.Server.{Server}
use Rattle.server.proofs.FreeLaws.{lowest_is_free}
use Rattle.server.proofs.JoinedLaws.{none_joined, with_same, with_other, without_same, without_other}
use Rattle.server.proofs.RecordLaws.{for_append, for_own, for_other, for_joined, for_free}
use Rattle.server.proofs.ServeLaws.{nobody, started_vectors, by_join, by_leave, joins_free, joins_full, leaves_joined, leaves_free}
use Rattle.server.proofs.TellLaws.{Told, told_joiner, told_join, told_leave}
use Rattle.server.specs.Clients.{is_joined, joined_with, joined_without, clients, lowest_free}
use Rattle.server.specs.Histories.{Act, joining, leaving, outcome, records_for, Seen, is_there, next, seen_from, seen, stream}
use Rattle.server.specs.Histories.{counts_of, ReadersFollow, PeersAreNow, LeaversKeep, LeaversHearNothing}
use Rattle.server.specs.Histories.{JoinersStartAfresh}
use Rattle.server.specs.Messages.{vectors_of, has_left, to_joiner, to_others, join_messages, leave_messages}
use Rattle.server.specs.Serving.{Outcome, server_of, started, refused_by, join_as, leave_as}

-- what a call is to one client: the state that it leaves, and the records that it has for the client
data Happens (client : ℕ) (s : Server) : Server → List Record → Type 0 where
  refused : Happens client s s []
  joins_itself : client < ids → is_there client s ≡ false
      → Happens client s (server_of (joined_with s.joined client) s.vectors) (to_joiner s.vectors (clients s.joined) client)
  other_joins : (id : ℕ) → id < ids → is_joined s.joined id ≡ false → (client ≡ id → ⊥) → is_there client s ≡ true
      → Happens client s (server_of (joined_with s.joined id) s.vectors) (vectors_of s.vectors id)
  other_leaves : (id : ℕ) → is_joined s.joined id ≡ true → (client ≡ id → ⊥) → is_there client s ≡ true
      → Happens client s (server_of (joined_without s.joined id) s.vectors) (has_left id ∷ [])
  not_there : (now : Server) → now.vectors ≡ s.vectors → is_there client now ≡ false → Happens client s now []

abbrev Is : (client : ℕ) → Server → Outcome → Type 0
Is client s o = Happens client s o.server (records_for client o.sent)

module _ (client : ℕ) (s : Server) where
  is_refused : (number : ℕ) → Is client s (refused_by number s)
  unfolding records_for
  is_refused number = refused

  module _ (id : ℕ) where
    join_own : is_joined s.joined client ≡ false → id ≡ client
        → records_for client (join_messages s.vectors (clients s.joined) id) ≡ to_joiner s.vectors (clients s.joined) client
    unfolding join_messages to_others
    join_own free same =
        rw (same, for_append client, for_own client, for_free client s.joined (vectors_of s.vectors client) free) (append-nil _)

    join_other : (records : List Record) → (id ≡ client → ⊥)
        → records_for client (to_others s.vectors (clients s.joined) id) ≡ records
        → records_for client (join_messages s.vectors (clients s.joined) id) ≡ records
    unfolding join_messages
    join_other records o e = rw (for_append client, for_other client id o, e)

    others_joined : is_there client s ≡ true
        → records_for client (to_others s.vectors (clients s.joined) id) ≡ vectors_of s.vectors id
    unfolding to_others
    others_joined e = for_joined client s.joined (vectors_of s.vectors id) e

    others_free : is_there client s ≡ false → records_for client (to_others s.vectors (clients s.joined) id) ≡ []
    unfolding to_others
    others_free e = for_free client s.joined (vectors_of s.vectors id) e

    of_join : id < ids → is_joined s.joined id ≡ false → Is client s (join_as s id)
    of_join h free =
        by_equal id client
        (λ same.
        let f : is_there client s ≡ false = rw same at free in
        rw (join_own f same, same) (joins_itself (rw same at h) f))
        (λ o.
        let away : client ≡ id → ⊥ = λ e. o (sym e) in
        by_bool (is_there client s) (λ e. rw (join_other (vectors_of s.vectors id) o (others_joined e)) (other_joins id h free away e))
        (λ e.
        rw (join_other [] o (others_free e))
        (not_there (server_of (joined_with s.joined id) s.vectors) refl (with_other s.joined id h free client away ∙ e))))

    of_leave : is_joined s.joined id ≡ true → Is client s (leave_as s id)
    unfolding leave_messages
    of_leave e =
        let left = joined_without s.joined id in
        by_equal id client
        (λ same.
        let gone : is_joined left client ≡ false = rw (← same) (without_same s.joined id e) in
        rw (for_free client left (has_left id ∷ []) gone) (not_there (server_of left s.vectors) refl gone))
        (λ o.
        let away : client ≡ id → ⊥ = λ e. o (sym e) in
        let alike = without_other s.joined id e client away in
        by_bool (is_there client s)
        (λ there. rw (for_joined client left (has_left id ∷ []) (alike ∙ there)) (other_leaves id e away there))
        (λ gone.
        rw (for_free client left (has_left id ∷ []) (alike ∙ gone)) (not_there (server_of left s.vectors) refl (alike ∙ gone))))

happens : (client : ℕ) (s : Server) (a : Act) → Is client s (outcome a s)
happens client s (joining room) =
    by_join s room (Is client s) (is_refused client s)
    (by_less (lowest_free s.joined) ids
    (λ l. rw (joins_free s l) (of_join client s (lowest_free s.joined) l (lowest_is_free s.joined).free))
    (λ l. rw (joins_full s l) (is_refused client s 12)))
happens client s (leaving id room) =
    by_leave s room (Is client s) (is_refused client s) id
    (by_bool (is_joined s.joined id) (λ e. rw (leaves_joined s id e) (of_leave client s id e))
    (λ e. rw (leaves_free s id e) (is_refused client s 4)))

-- no record for one that is not there afterwards, and for one that was not there before all that a joiner is told
module _ {client : ℕ} {s : Server} where
  no_record : {now : Server} {records : List Record} → Happens client s now records → is_there client now ≡ false → records ≡ []
  no_record refused e = refl
  no_record (joins_itself h f) e = absurd (true≢false (sym (with_same s.joined client h f) ∙ e))
  no_record (other_joins id h f o there) e = absurd (true≢false (sym there ∙ sym (with_other s.joined id h f client o) ∙ e))
  no_record (other_leaves id j o there) e = absurd (true≢false (sym there ∙ sym (without_other s.joined id j client o) ∙ e))
  no_record (not_there now v f) e = refl

  all_records : {now : Server} {records : List Record} → Happens client s now records → is_there client s ≡ false → is_there client now ≡ true
      → records ≡ to_joiner s.vectors (clients s.joined) client
  all_records refused f e = absurd (true≢false (sym e ∙ f))
  all_records (joins_itself h _) f e = refl
  all_records (other_joins id h _ o there) f e = absurd (true≢false (sym there ∙ f))
  all_records (other_leaves id j o there) f e = absurd (true≢false (sym there ∙ f))
  all_records (not_there now v gone) f e = absurd (true≢false (sym e ∙ gone))

pub leavers_hear_nothing : LeaversHearNothing
leavers_hear_nothing client s a e = no_record (happens client s a) e

pub joiners_start_afresh : JoinersStartAfresh
joiners_start_afresh client s a f e = all_records (happens client s a) f e

-- one call more, by whether the client is there before and afterwards
abbrev seen_as : Server → List Record → ℕ → Seen
seen_as s heard peers = record { server = s; heard = heard; peers = peers }

abbrev moved : (client : ℕ) → Seen → Server → List Record → Seen
moved client v now records =
    seen_as now (cond (not (is_there client v.server) && is_there client now) [] v.heard ++ records)
    (cond (is_there client now) now.joined v.peers)

module _ (client : ℕ) (v : Seen) (now : Server) where
  moved_quiet : is_there client now ≡ false → moved client v now [] ≡ seen_as now v.heard v.peers
  moved_quiet e = rw (e, and_false (not (is_there client v.server)) false refl, append-nil v.heard)

  moved_new : (records : List Record) → is_there client v.server ≡ false → is_there client now ≡ true
      → moved client v now records ≡ seen_as now records now.joined
  moved_new records f e = rw (f, e)

  moved_on : (records : List Record) → is_there client v.server ≡ true → is_there client now ≡ true
      → moved client v now records ≡ seen_as now (v.heard ++ records) now.joined
  moved_on records f e = rw (f, e)

pub leavers_keep : LeaversKeep
unfolding next
leavers_keep client v a gone =
    let now = (outcome a v.server).server in
    rw (leavers_hear_nothing client v.server a gone, moved_quiet client v now gone) (record { heard = refl; peers = refl })

-- what stays true: with a number of vectors in its range, the records for the client are all in their places
record Stays (vectors client : ℕ) (v : Seen) : Type 0 where
  same : v.server.vectors ≡ vectors
  now : is_there client v.server ≡ true → v.peers ≡ v.server.joined
  told : 1 ≤ vectors → refusal vectors start ≡ 0 → is_joined v.peers client ≡ true
      → Told vectors v.heard (known 3 client (counts_of vectors v.peers))

module _ (vectors client : ℕ) (v : Seen) (k : Stays vectors client v) where
  -- where it is there, or was told of it
  told_now : is_there client v.server ≡ true → 1 ≤ vectors → refusal vectors start ≡ 0
      → Told vectors v.heard (known 3 client (counts_of vectors v.server.joined))
  told_now e some good = rw (k.now e) at (k.told some good (rw (k.now e) e))

  -- it is there afterwards, and was told all of it
  stays_there : (now : Server) (heard : List Record) → now.vectors ≡ v.server.vectors → is_there client now ≡ true
      → (1 ≤ vectors → refusal vectors start ≡ 0 → Told vectors heard (known 3 client (counts_of vectors now.joined)))
      → Stays vectors client (seen_as now heard now.joined)
  stays_there now heard e there t =
      record {
        same = e ∙ k.same;
        now = λ _. refl;
        told = λ some good _. t some good;
      }

  -- it is not, and was told nothing
  stays_quiet : (now : Server) → now.vectors ≡ v.server.vectors → is_there client now ≡ false
      → Stays vectors client (seen_as now v.heard v.peers)
  stays_quiet now e gone =
      record { same = e ∙ k.same; now = λ there. absurd (true≢false (sym there ∙ gone)); told = k.told }

  stays_one : {now : Server} {records : List Record} → Happens client v.server now records
      → Stays vectors client (moved client v now records)
  stays_one refused =
      by_bool (is_there client v.server)
      (λ e.
      rw (moved_on client v v.server [] e e, append-nil v.heard) (stays_there v.server v.heard refl e (told_now e)))
      (λ e. rw (moved_quiet client v v.server e) (stays_quiet v.server refl e))
  stays_one (joins_itself h f) =
      let now = server_of (joined_with v.server.joined client) v.server.vectors in
      let there : is_there client now ≡ true = with_same v.server.joined client h f in
      let records = to_joiner v.server.vectors (clients v.server.joined) client in
      rw (moved_new client v now records f there)
      (stays_there now records refl there
      (λ some good. rw k.same (told_joiner vectors good v.server.joined client h f)))
  stays_one (other_joins id h f o e) =
      let now = server_of (joined_with v.server.joined id) v.server.vectors in
      let there : is_there client now ≡ true = with_other v.server.joined id h f client o ∙ e in
      rw (moved_on client v now (vectors_of v.server.vectors id) e there)
      (stays_there now (v.heard ++ vectors_of v.server.vectors id) refl there
      (λ some good. rw k.same (told_join vectors good v.server.joined client id v.heard (told_now e some good) h f)))
  stays_one (other_leaves id j o e) =
      let now = server_of (joined_without v.server.joined id) v.server.vectors in
      let there : is_there client now ≡ true = without_other v.server.joined id j client o ∙ e in
      rw (moved_on client v now (has_left id ∷ []) e there)
      (stays_there now (v.heard ++ has_left id ∷ []) refl there
      (λ some good.
      told_leave vectors good v.server.joined client id v.heard (told_now e some good) j (λ same. o (sym same)) some))
  stays_one (not_there now e gone) = rw (moved_quiet client v now gone) (stays_quiet now e gone)

-- through a history
module _ (client : ℕ) where
  stays_all : (vectors : ℕ) (history : List Act) (v : Seen) → Stays vectors client v → Stays vectors client (seen_from client v history)
  unfolding seen_from next
  stays_all vectors [] v k = k
  stays_all vectors (a ∷ later) v k =
      stays_all vectors later (next client v (outcome a v.server)) (stays_one vectors client v k (happens client v.server a))

  -- one after the other
  seen_then : (before later : List Act) (v : Seen) → seen_from client v (before ++ later) ≡ seen_from client (seen_from client v before) later
  unfolding seen_from
  seen_then [] later v = refl
  seen_then (a ∷ before) later v = seen_then before later (next client v (outcome a v.server))

  -- the client stays among its own peers
  peers_one : (v : Seen) (o : Outcome) → is_joined v.peers client ≡ true → is_joined (next client v o).peers client ≡ true
  unfolding next
  peers_one v o e = by_bool (is_there client o.server) (λ there. rw there there) (λ gone. rw gone e)

  peers_all : (later : List Act) (v : Seen) → is_joined v.peers client ≡ true → is_joined (seen_from client v later).peers client ≡ true
  unfolding seen_from
  peers_all [] v e = e
  peers_all (a ∷ later) v e = peers_all later (next client v (outcome a v.server)) (peers_one v (outcome a v.server) e)

  always : (vectors : ℕ) (history : List Act) → Stays (started vectors).server.vectors client (seen vectors client history)
  always vectors history =
      stays_all (started vectors).server.vectors history (seen_as (started vectors).server [] 0)
      (record { same = refl; now = λ e. sym (nobody vectors); told = λ some good e. absurd (true≢false (sym e ∙ none_joined client)) })

pub peers_are_now : PeersAreNow
peers_are_now vectors client history e = (always client vectors history).now e

-- a client that was joined is among its peers, and stays there
was_joined : (vectors client : ℕ) (before later : List Act) → is_there client (seen vectors client before).server ≡ true
    → is_joined (seen vectors client (before ++ later)).peers client ≡ true
was_joined vectors client before later e =
    let v = seen vectors client before in
    rw (seen_then client before later (seen_as (started vectors).server [] 0))
    (peers_all client later v (rw (peers_are_now vectors client before e) e))

pub readers_follow : ReadersFollow
readers_follow vectors client before later some most e =
    let good = start_is_good vectors some most in
    let told = rw (started_vectors vectors some most) at (always client vectors (before ++ later)).told in
    let t = told some good (was_joined vectors client before later e) in
    record {
      messages = t.messages;
      one = t.one;
      plain = t.plain;
      cut = λ pieces whole. pieces_are_bytes vectors pieces start refl good ∙ rw whole t.there;
      calls = rw t.there at (every_stream_is_read vectors start (stream (seen vectors client (before ++ later)).heard) good);
    }
