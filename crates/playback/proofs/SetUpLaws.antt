-- When a log's set-up is taken.
use Prim.Native.Nat.{ℕ, ◌*◌, ◌≤◌}
use mathlib.Core.Bool.{Bool, true, false, cond}
use mathlib.Core.List.{List, [], ◌∷◌, ◌++◌}
use mathlib.Core.Path.{◌≡◌, refl, ap, ◌∙◌}
use native.Mathlib.Nat.{mul-le-mul}
use native.Mathlib.Omega.{arith}
use lib.Dec.{eqb, leb}
use lib.ListN.{length, take, drop, replicate, length-replicate}
use lib.Seq.{length-take-le, take_at}
use borrow.Author.Tests.{eq-eqb, le-leb}
use Rattle.common.specs.Tests.{first}
use Rattle.common.proofs.TestLaws.{every_false}
use Rattle.device.specs.declared.Settings.{Settings}
use Rattle.device.specs.SetUp.{accepted, total, set_up_refusal, fresh_hub}
use Rattle.device.specs.History.{start}
use Rattle.device.specs.declared.Reply.{Reply}
use Rattle.hub.specs.Promises.{SetsUp}
use Rattle.device.specs.Sizes.{max_peers, max_vectors}
use Rattle.device.specs.World.{World, zero_hub}
use Rattle.playback.proofs.LentLaws.{lent_back}
use Rattle.playback.specs.declared.Progress.{Progress}
use Rattle.playback.specs.declared.answers.Accepted.TheVariants.{Done}
use Rattle.playback.specs.Answers.{Outcome, answer, max_total, outcome_bytes, refused_by, replied, set_up_number}
use Rattle.playback.specs.Log.{Request}
use Rattle.common.specs.Streams.{Fed}
use Rattle.playback.specs.Player.{Player, after}
use Rattle.playback.specs.Promises.{Goes, Lent, Writes, anew}
use Rattle.std.specs.Prelude.{IfOk}
use Rattle.hub.specs.Answered.{done_reply}
use Rattle.playback.proofs.OutcomeLaws.{done_bytes}
use Rattle.words.specs.Layout.{fits, hub_of, hub_words}

pub not_accepted : (s : Settings) → accepted s ≡ false → set_up_number s ≡ 1
unfolding set_up_number set_up_refusal first
not_accepted s e = rw e (go (leb (total s) max_total))
  where
    go : (t : Bool) → ◌≡◌ {A = ℕ} (cond t 1 1) 1
    go true = refl
    go false = refl

pub too_large : (s : Settings) → leb (total s) max_total ≡ false → set_up_number s ≡ 1
unfolding set_up_number
too_large s e = rw e

no_refusal : (s : Settings) (region : List ℕ) → accepted s ≡ true → length region ≡ total s → set_up_refusal true s region ≡ 0
unfolding set_up_refusal first
no_refusal s region a n = rw (a, eq-eqb _ _ n)

pub taken : (s : Settings) → accepted s ≡ true → leb (total s) max_total ≡ true → set_up_number s ≡ 0
unfolding set_up_number
taken s a e = rw e (no_refusal s (replicate (total s) 0) a (length-replicate (total s) 0))

-- the words of any hub fit the lent memory
pub hub_room : (n m : ℕ) → n ≤ max_peers → m ≤ max_vectors → hub_words n m ≤ hub_words max_peers max_vectors
unfolding hub_words
hub_room n m h k = let p : n * m ≤ max_peers * max_vectors = mul-le-mul h k in omega arith

-- no words are the all-zero hub
pub empty_hub : hub_of [] ≡ zero_hub
unfolding hub_of fits hub_words
empty_hub = rw (every_false (leb 0 max_peers ∷ leb 0 max_vectors ∷ eqb 0 10 ∷ []) 2 refl)

-- nothing held, going on
pub in_use_is : (p : Progress) → p.held ≡ 0 → p.stopped ≡ false → p ≡ record { words = p.words; bytes = p.bytes; held = 0; stopped = false }
in_use_is p h s =
    ap (λ (n : ℕ). record p { held = n }) h ∙ ap (λ (b : Bool). record p { held = 0; stopped = b }) s

pub goes_same : {hub region held out out_after : List ℕ} {p q : Progress} {n : ℕ} {f : Fed Player} → p ≡ q
    → Goes hub region held out out_after q n f → Goes hub region held out out_after p n f
goes_same e g = rw e g

module _ (hub region held out out_after : List ℕ) (s : Settings) (w : World) (n : ℕ) where
  -- a refused set-up leaves no hub
  pub refused_goes : Lent hub region held anew → set_up_number s ≡ 1 → Writes out out_after (refused_by 1) n
      → Goes hub region held out out_after anew n (after (answer w (Request.set_up s)))
  unfolding answer replied
  refused_goes lent e ws = record { player = rw (e, empty_hub); written = rw e ws; lent = lent }

  -- an accepted one leaves a fresh hub in as many words, and a zero region in as many bytes, as it asks for
  pub taken_goes : (words bytes : ℕ) (hub_after region_after : List ℕ) (o : Outcome) → (accepted s ≡ true) × (total s ≤ max_total)
      → words ≡ hub_words s.peers s.vectors → bytes ≡ total s
      → Lent hub region held (record { words = words; bytes = bytes; held = 0; stopped = false })
      → length hub_after ≡ words → length region_after ≡ bytes
      → SetsUp (take words hub) hub_after (take bytes region) region_after s (done_reply o) → IfOk o (λ a. a ≡ Done)
      → Writes out out_after (outcome_bytes (hub_of (hub_after ++ drop words hub)) o) n
      → Goes (hub_after ++ drop words hub) (region_after ++ drop bytes region) held out out_after
      (record { words = words; bytes = bytes; held = 0; stopped = false }) n (after (answer w (Request.set_up s)))
  unfolding answer replied start
  taken_goes words bytes hub_after region_after o ok ew eb lent nh nr sv is ws =
      let room : length (take words hub) ≡ hub_words s.peers s.vectors = length-take-le words hub lent.words ∙ ew in
      let all : length (take bytes region) ≡ total s = length-take-le bytes region lent.bytes ∙ eb in
      let number : (done_reply o).number ≡ 0 = ap (λ (x : Reply). x.number) sv.reply ∙ rw (eq-eqb _ _ room) (no_refusal s (take bytes region) ok.0 all) in
      let e : set_up_number s ≡ 0 = taken s ok.0 (le-leb _ _ ok.1) in
      let h : hub_of (take words (hub_after ++ drop words hub)) ≡ fresh_hub s = rw (take_at hub_after (drop words hub) words nh) (sv.hub ∙ rw number) in
      let g : take bytes (region_after ++ drop bytes region) ≡ replicate (total s) 0 =
      rw (take_at region_after (drop bytes region) bytes nr) (sv.region ∙ rw (number, all)) in
      record {
        player = rw (h, g, e);
        written = rw e (rw (done_bytes (hub_of (hub_after ++ drop words hub)) o number is) at ws);
        lent = lent_back hub region held _ hub_after region_after nh nr lent;
      }
