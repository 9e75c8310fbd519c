-- Laws of specs/Layout.antt: each part of the hub is a table of words, so parts are compared word by word, whichever part it is.
use Prim.Native.Nat.{ℕ, zero, suc, ◌+◌, ◌-◌, ◌*◌, ◌/◌, ◌%◌, ◌^◌, ◌≤◌, ◌<◌}
use mathlib.Core.Bool.{Bool, true, false}
use mathlib.Core.List.{List, [], ◌∷◌}
use mathlib.Core.Path.{◌≡◌, refl, sym, ap, ap₂, ◌∙◌}
use native.Mathlib.Nat.{add-zero, zero-add, not-suc-le-zero, le_trans}
use native.Mathlib.Omega.{arith}
use borrow.Author.Tests.{eq-eqb, eqb-true, le-leb, leb-true, ltb-true, ltb-false}
use lib.Dec.{ltb}
use lib.ListN.{length, get_or, replicate, get_or-replicate, length-replicate, get_or-eq_default}
use lib.Seq.{ext_get_or}
use Rattle.common.proofs.ListLaws.{length_tabulate, get_d_tabulate, tabulate_at, tabulate_ext, tabulate_const, set_tabulate}
use Rattle.common.proofs.TestLaws.{every_true}
use Rattle.common.specs.Lists.{tabulate}
use Rattle.common.specs.Tests.{every}
use Rattle.device.proofs.SetUpLaws.{accepted_facts}
use Rattle.device.proofs.SizeLaws.{max_peers_small, max_vectors_small}
use Rattle.device.specs.declared.Entry.{Entry}
use Rattle.device.specs.declared.Peer.{Peer}
use Rattle.device.specs.declared.Settings.{Settings}
use Rattle.device.specs.Reset.{reset_peer, reset_entry}
use Rattle.device.specs.SetUp.{accepted, fresh_hub}
use Rattle.device.specs.Sizes.{max_peers, max_vectors}
use Rattle.device.specs.World.{Hub, Slot, zero_slot, zero_entry, zero_hub, reset_slot, slot_at, entry_at, with_slot, with_peer, with_entry}
use Rattle.words.specs.Layout.{hub_words, word, settings_of, peer_start, peer_of, entry_start, entry_of}
use Rattle.words.specs.Layout.{slot_of, decoded, fits, hub_of, Known, KnownVector, Storable}
use Rattle.words.specs.Parts.{settings_words, entry_words, peer_from, entry_from, Copied, Filled, Set}
use Rattle.words.proofs.IndexLaws.{EntryPlace, entries_small, row_below, entry_place, entry_apart}
use Rattle.words.proofs.PartLaws.{copied_at}

-- words that are a hub of n peers and m vectors
pub record Sized (ws : List ℕ) (n m : ℕ) : Type 0 where
  pub peers : word ws 0 ≡ n
  pub vectors : word ws 1 ≡ m
  pub few : n ≤ max_peers
  pub less : m ≤ max_vectors
  pub size : length ws ≡ hub_words n m

pub fits_sized : (ws : List ℕ) → fits ws ≡ true → Sized ws (word ws 0) (word ws 1)
unfolding fits
fits_sized ws e =
    record {
      peers = refl;
      vectors = refl;
      few = leb-true _ _ (every_true _ e 0);
      less = leb-true _ _ (every_true _ e 1);
      size = eqb-true _ _ (every_true _ e 2);
    }

pub sized_fits : {ws : List ℕ} {n m : ℕ} → Sized ws n m → fits ws ≡ true
unfolding fits every
sized_fits {ws} {n} {m} z =
    rw (z.peers, z.vectors, le-leb n max_peers z.few, le-leb m max_vectors z.less, eq-eqb (length ws) (hub_words n m) z.size)

-- words of the same length with the same first two are as large
pub sized_kept : {a b : List ℕ} {n m : ℕ} → Sized a n m → length b ≡ length a → word b 0 ≡ word a 0 → word b 1 ≡ word a 1 → Sized b n m
sized_kept z l p v = record { peers = p ∙ z.peers; vectors = v ∙ z.vectors; few = z.few; less = z.less; size = l ∙ z.size }

-- what stands in words that fit, and in others
pub hub_decoded : {ws : List ℕ} {n m : ℕ} → Sized ws n m → hub_of ws ≡ decoded n m ws
unfolding hub_of
hub_decoded z = rw (sized_fits z, z.peers, z.vectors)

pub no_hub : (ws : List ℕ) → fits ws ≡ false → hub_of ws ≡ zero_hub
unfolding hub_of
no_hub ws e = rw e

by_fits : {P : Type 0} (ws : List ℕ) → (Sized ws (word ws 0) (word ws 1) → P) → (hub_of ws ≡ zero_hub → P) → P
by_fits {P} ws there other = go (fits ws) refl
  where
    go : (t : Bool) → fits ws ≡ t → P
    go true e = there (fits_sized ws e)
    go false e = other (no_hub ws e)

-- only words that fit have peers
pub known_sized : (ws : List ℕ) (i : ℕ) → Known ws i → Sized ws (word ws 0) (word ws 1)
unfolding zero_hub
known_sized ws i h = by_fits ws (λ z. z) (λ (e : hub_of ws ≡ zero_hub). absurd (not-suc-le-zero (rw e at h)))

pub known_fits : (ws : List ℕ) (i : ℕ) → Known ws i → fits ws ≡ true
known_fits ws i h = sized_fits (known_sized ws i h)

-- and so do words with accepted settings
pub accepted_fits : (ws : List ℕ) → accepted (hub_of ws).settings ≡ true → fits ws ≡ true
accepted_fits ws a = sized_fits (known_sized ws 0 (omega (arith, (accepted_facts _ a).two)))

module _ {ws : List ℕ} {n m : ℕ} (z : Sized ws n m) where
  pub settings_at : (hub_of ws).settings ≡ settings_of ws
  unfolding decoded
  settings_at = ap (λ (h : Hub). h.settings) (hub_decoded z)

  pub peers_at_lem : (hub_of ws).settings.peers ≡ n
  unfolding settings_of
  peers_at_lem = ap (λ (s : Settings). s.peers) settings_at ∙ z.peers

  pub vectors_at : (hub_of ws).settings.vectors ≡ m
  unfolding settings_of
  vectors_at = ap (λ (s : Settings). s.vectors) settings_at ∙ z.vectors

  pub slot_at_lem : (i : ℕ) → i < n → slot_at (hub_of ws) i ≡ slot_of n m ws i
  unfolding decoded
  slot_at_lem i h = ap (λ (h : Hub). slot_at h i) (hub_decoded z) ∙ get_d_tabulate n (slot_of n m ws) i zero_slot h

-- what is known where the words have a peer of an id: they fit, and the peer's words are among them
pub record Inside (ws : List ℕ) (i : ℕ) : Type 0 where
  pub sized : Sized ws (word ws 0) (word ws 1)
  pub below : i < word ws 0
  pub peers : word ws 0 ≤ 2 ^ 16
  pub vectors : word ws 1 ≤ 2 ^ 8
  pub entries : word ws 0 * word ws 1 ≤ 2 ^ 24
  pub room : peer_start i + 8 ≤ length ws

pub known_inside : (ws : List ℕ) (i : ℕ) → Known ws i → Inside ws i
unfolding hub_words
known_inside ws i h =
    let z = known_sized ws i h in
    let l : i < word ws 0 = rw (peers_at_lem z) at h in
    record {
      sized = z;
      below = l;
      peers = le_trans z.few max_peers_small;
      vectors = le_trans z.less max_vectors_small;
      entries = entries_small _ _ z.few z.less;
      room = omega (arith, z.size);
    }

pub entry_at_lem : (n m : ℕ) (ws : List ℕ) (i v : ℕ) → v < m → entry_at (slot_of n m ws i) v ≡ entry_of n m ws i v
unfolding slot_of
entry_at_lem n m ws i v h = get_d_tabulate m (entry_of n m ws i) v zero_entry h

-- what the readers find
module _ {ws : List ℕ} {n m : ℕ} (z : Sized ws n m) where
  pub peer_read : (i : ℕ) → i < n → peer_from ws (peer_start i) ≡ (slot_at (hub_of ws) i).peer
  unfolding slot_of peer_of
  peer_read i hi = sym (ap (λ (s : Slot). s.peer) (slot_at_lem z i hi))

  pub entry_read : (i v : ℕ) → i < n → v < m → entry_from ws (entry_start n m 0 i v) (n * m) ≡ entry_at (slot_at (hub_of ws) i) v
  unfolding entry_of
  entry_read i v hi hv =
      let high : entry_start n m 0 i v + n * m ≡ entry_start n m 1 i v = omega arith in
      let payload : entry_start n m 0 i v + 2 * (n * m) ≡ entry_start n m 2 i v = omega arith in
      let control : entry_start n m 0 i v + 3 * (n * m) ≡ entry_start n m 3 i v = omega arith in
      rw (high, payload, control) (sym (ap (λ (s : Slot). entry_at s v) (slot_at_lem z i hi) ∙ entry_at_lem n m ws i v hv))

-- a slot for each peer, and an entry for each vector
pub slots_length : (ws : List ℕ) → length (hub_of ws).slots ≡ (hub_of ws).settings.peers
unfolding decoded zero_hub
slots_length ws =
    by_fits ws
    (λ z. rw (peers_at_lem z, hub_decoded z) (length_tabulate (word ws 0) _))
    (λ (e : hub_of ws ≡ zero_hub). rw e)

pub entries_length : (ws : List ℕ) (i : ℕ) → Known ws i → length (slot_at (hub_of ws) i).entries ≡ (hub_of ws).settings.vectors
unfolding slot_of
entries_length ws i h =
    let z = known_sized ws i h in
    rw (vectors_at z, slot_at_lem z i (rw (peers_at_lem z) at h)) (length_tabulate (word ws 1) _)

-- beyond the last peer, and beyond the last vector, there is no entry
pub no_entry : (ws : List ℕ) (i v : ℕ) → (Known ws i → KnownVector ws v → ⊥) → zero_entry ≡ entry_at (slot_at (hub_of ws) i) v
unfolding zero_slot
no_entry ws i v none = by (ltb i (hub_of ws).settings.peers) refl
  where
    within : Known ws i → (t : Bool) → ltb v (hub_of ws).settings.vectors ≡ t → zero_entry ≡ entry_at (slot_at (hub_of ws) i) v
    within known true e = absurd (none known (ltb-true _ _ e))
    within known false e =
        sym (get_or-eq_default (slot_at (hub_of ws) i).entries zero_entry {n = v} (rw (entries_length ws i known) (ltb-false _ _ e)))

    by : (t : Bool) → ltb i (hub_of ws).settings.peers ≡ t → zero_entry ≡ entry_at (slot_at (hub_of ws) i) v
    by true e = within (ltb-true _ _ e) (ltb v (hub_of ws).settings.vectors) refl
    by false e =
        let beyond : slot_at (hub_of ws) i ≡ zero_slot = get_or-eq_default (hub_of ws).slots zero_slot {n = i} (rw slots_length (ltb-false _ _ e)) in
        sym (ap (λ (s : Slot). entry_at s v) beyond)

-- the words of a part, as a store of the part writes them
abbrev pub peer_words : Peer → List ℕ
peer_words p =
    p.connected ∷ p.command ∷ p.bar0 ∷ p.bar1 ∷ p.privileged ∷ p.message ∷ p.interrupt ∷ p.state ∷ []

-- a part is made of the table of its words, and the table is the part's words
settings_table : (ws : List ℕ) → settings_of ws ≡ settings_of (tabulate 10 (word ws))
unfolding settings_of tabulate
settings_table ws = refl

settings_words_lem : (ws : List ℕ) → word ws 5 < 2 ^ 32 → tabulate 10 (word ws) ≡ settings_words (settings_of ws)
unfolding settings_of tabulate
settings_words_lem ws h =
    let low : (word ws 5 + 2 ^ 32 * word ws 6) % 2 ^ 32 ≡ word ws 5 = omega arith in
    let high : (word ws 5 + 2 ^ 32 * word ws 6) / 2 ^ 32 ≡ word ws 6 = omega arith in
    rw (low, high)

settings_back : (s : Settings) → settings_of (settings_words s) ≡ s
unfolding settings_of
settings_back s = let whole : s.base % 2 ^ 32 + 2 ^ 32 * (s.base / 2 ^ 32) ≡ s.base = omega arith in rw whole

peer_words_lem : (ws : List ℕ) (i : ℕ) → tabulate 8 (λ r. word ws (peer_start i + r)) ≡ peer_words (peer_of ws i)
unfolding peer_of tabulate
peer_words_lem ws i = rw add-zero

entry_words_lem : (n m : ℕ) (ws : List ℕ) (i v : ℕ) → tabulate 4 (λ c. word ws (entry_start n m c i v)) ≡ entry_words (entry_of n m ws i v)
unfolding entry_of tabulate
entry_words_lem n m ws i v = refl

-- words that agree on a part have the same part there
settings_same : (a b : List ℕ) → ((k : ℕ) → k < 10 → word b k ≡ word a k) → settings_of b ≡ settings_of a
settings_same a b same = settings_table b ∙ ap settings_of (tabulate_ext 10 (word b) (word a) same) ∙ sym (settings_table a)

peer_is : (ws : List ℕ) (i : ℕ) (p : Peer) → ((r : ℕ) → r < 8 → word ws (peer_start i + r) ≡ word (peer_words p) r) → peer_of ws i ≡ p
unfolding tabulate
peer_is ws i p same =
    ap (λ (l : List ℕ). peer_from l 0) (sym (peer_words_lem ws i) ∙ tabulate_ext 8 _ (word (peer_words p)) same)

entry_is : (n m : ℕ) (ws : List ℕ) (i v : ℕ) (e : Entry) → ((c : ℕ) → c < 4 → word ws (entry_start n m c i v) ≡ word (entry_words e) c)
    → entry_of n m ws i v ≡ e
unfolding tabulate
entry_is n m ws i v e same =
    ap (λ (l : List ℕ). entry_from l 0 1) (sym (entry_words_lem n m ws i v) ∙ tabulate_ext 4 _ (word (entry_words e)) same)

settings_word : (ws : List ℕ) → word ws 5 < 2 ^ 32 → (k : ℕ) → k < 10 → word ws k ≡ word (settings_words (settings_of ws)) k
settings_word ws h k l = tabulate_at 10 (word ws) (settings_words_lem ws h) k 0 l

peer_word : (ws : List ℕ) (i r : ℕ) → r < 8 → word ws (peer_start i + r) ≡ word (peer_words (peer_of ws i)) r
peer_word ws i r h = tabulate_at 8 (λ r. word ws (peer_start i + r)) (peer_words_lem ws i) r 0 h

entry_word_lem : (n m : ℕ) (ws : List ℕ) (i v c : ℕ) → c < 4 → word ws (entry_start n m c i v) ≡ word (entry_words (entry_of n m ws i v)) c
entry_word_lem n m ws i v c h = tabulate_at 4 (λ c. word ws (entry_start n m c i v)) (entry_words_lem n m ws i v) c 0 h

module _ (n m : ℕ) (a b : List ℕ) where
  -- the words of a peer, and of its entries, are the same
  abbrev SamePeer : ℕ → Type 0
  SamePeer j = (r : ℕ) → r < 8 → word b (peer_start j + r) ≡ word a (peer_start j + r)

  abbrev SameEntry : ℕ → ℕ → Type 0
  SameEntry j w = (c : ℕ) → c < 4 → word b (entry_start n m c j w) ≡ word a (entry_start n m c j w)

  peer_same : (j : ℕ) → SamePeer j → peer_of b j ≡ peer_of a j
  peer_same j same = peer_is b j (peer_of a j) (λ r h. same r h ∙ peer_word a j r h)

  entry_same : (j w : ℕ) → SameEntry j w → entry_of n m b j w ≡ entry_of n m a j w
  entry_same j w same = entry_is n m b j w (entry_of n m a j w) (λ c h. same c h ∙ entry_word_lem n m a j w c h)

  slot_same : (j : ℕ) → SamePeer j → ((w : ℕ) → w < m → SameEntry j w) → slot_of n m b j ≡ slot_of n m a j
  unfolding slot_of
  slot_same j peer entries =
      λ t. record {
        peer = peer_same j peer t;
        entries = tabulate_ext m (entry_of n m b j) (entry_of n m a j) (λ w h. entry_same j w (entries w h)) t;
      }

-- the settings are stored in as many words as they ask for
pub settings_put : (a b : List ℕ) (s : Settings) → Storable s → length b ≡ hub_words s.peers s.vectors
    → Copied a b (λ r. 0 + r) (settings_words s) 10 → Set a b s
unfolding tabulate settings_of
settings_put a b s small size stored =
    let copied : Copied a b (λ r. r) (settings_words s) 10 = copied_at zero-add stored in
    let e : settings_of b ≡ s =
    settings_table b ∙ ap settings_of (tabulate_ext 10 (word b) (word (settings_words s)) copied.there) ∙ settings_back s in
    let z : Sized b s.peers s.vectors =
    record {
      peers = ap (λ (x : Settings). x.peers) e;
      vectors = ap (λ (x : Settings). x.vectors) e;
      few = small.few;
      less = small.less;
      size = size;
    } in
    record { fits = sized_fits z; settings = settings_at z ∙ e; kept = λ k l. copied.kept k (λ r h q. omega arith) }

module _ {n m : ℕ} (a b : List ℕ) (z : Sized a n m) (l : length b ≡ length a) where
  -- words of which the first ten are the same are as large
  same_size : ((k : ℕ) → k < 10 → word b k ≡ word a k) → Sized b n m
  same_size same = sized_kept z l (same 0 (omega arith)) (same 1 (omega arith))

  -- one slot is changed
  slot_put : (i : ℕ) (s : Slot) → i < n → ((k : ℕ) → k < 10 → word b k ≡ word a k) → slot_of n m b i ≡ s
      → ((j : ℕ) → j < n → (j ≡ i → ⊥) → slot_of n m b j ≡ slot_of n m a j) → hub_of b ≡ with_slot (hub_of a) i s
  unfolding decoded
  slot_put i s h settings here others =
      rw (hub_decoded z, hub_decoded (same_size settings))
      (λ t. record {
        settings = settings_same a b settings t;
        slots = set_tabulate n (slot_of n m a) (slot_of n m b) i s h here others t;
      })

  pub peer_put : (i : ℕ) (p : Peer) → i < n → Copied a b (λ r. peer_start i + r) (peer_words p) 8
      → hub_of b ≡ with_slot (hub_of a) i (with_peer (slot_at (hub_of a) i) p)
  unfolding slot_of
  peer_put i p h copied =
      let entries : (j w : ℕ) → w < m → SameEntry n m a b j w = λ j w _ c _. copied.kept _ (omega arith) in
      rw (slot_at_lem z i h)
      (slot_put i (with_peer (slot_of n m a i) p) h (λ k l. copied.kept k (omega arith))
      (λ t. record {
        peer = peer_is b i p copied.there t;
        entries = tabulate_ext m (entry_of n m b i) (entry_of n m a i) (λ w l. entry_same n m a b i w (entries i w l)) t;
      })
      (λ j _ ne. slot_same n m a b j (λ r hr. copied.kept _ (omega arith)) (entries j)))

  pub entry_put : (i v : ℕ) (e : Entry) → i < n → v < m → Copied a b (λ c. entry_start n m 0 i v + c * (n * m)) (entry_words e) 4
      → hub_of b ≡ with_slot (hub_of a) i (with_entry (slot_at (hub_of a) i) v e)
  unfolding slot_of
  entry_put i v e hi hv stored =
      let copied : Copied a b (λ c. entry_start n m c i v) (entry_words e) 4 = copied_at (λ c. omega arith) stored in
      let peer : (j : ℕ) → j < n → SamePeer n m a b j = λ j hj r hr. copied.kept _ (omega arith) in
      rw (slot_at_lem z i hi)
      (slot_put i (with_entry (slot_of n m a i) v e) hi (λ k l. copied.kept k (omega arith))
      (λ t. record {
        peer = peer_same n m a b i (peer i hi) t;
        entries =
            set_tabulate m (entry_of n m a i) (entry_of n m b i) v e hv (entry_is n m b i v e copied.there)
            (λ w hw ne. entry_same n m a b i w (λ c _. copied.kept _ (λ d _ same. ne (entry_apart n m c d i i w v hi hi hw hv same).1))) t;
      })
      (λ j hj ne. slot_same n m a b j (peer j hj)
      (λ w hw c _. copied.kept _ (λ d _ same. ne (entry_apart n m c d j i w v hj hi hw hv same).0))))

-- words that are all zero
zero_word : (n k : ℕ) → word (replicate n 0) k ≡ 0
zero_word n k = go (ltb k n) refl
  where
    go : (t : Bool) → ltb k n ≡ t → word (replicate n 0) k ≡ 0
    go true e = get_or-replicate n k 0 0 (ltb-true k n e)
    go false e = get_or-eq_default (replicate n 0) 0 {n = k} (rw length-replicate (ltb-false k n e))

pub zero_words : (n : ℕ) → hub_of (replicate n 0) ≡ zero_hub
unfolding decoded settings_of tabulate zero_hub
zero_words n =
    by_fits (replicate n 0)
    (λ z.
    hub_decoded z
    ∙ ap (λ (k : ℕ). decoded k (word (replicate n 0) 1) (replicate n 0)) (zero_word n 0)
    ∙ (λ t. record { settings = settings_same [] (replicate n 0) (λ k _. zero_word n k) t; slots = [] }))
    (λ e. e)

-- words that hold 0 but for the settings, and 1 in the last column, are a hub at reset
fresh_words : {ws : List ℕ} {n m : ℕ} (s : Settings) → Sized ws n m → (hub_of ws).settings ≡ s
    → ((k : ℕ) → 10 ≤ k → k < 10 + 8 * n + 3 * (n * m) → word ws k ≡ 0)
    → ((r : ℕ) → r < n * m → word ws (10 + 8 * n + 3 * (n * m) + r) ≡ 1) → hub_of ws ≡ fresh_hub s
unfolding decoded fresh_hub reset_slot slot_of tabulate
fresh_words {ws} {n} {m} s z settings zeros ones =
    hub_decoded z
    ∙ (λ t. record { settings = (sym (settings_at z) ∙ settings) t; slots = (tabulate_ext n (slot_of n m ws) (λ _. slot) slots ∙ tabulate_const n slot) t })
    ∙ ap₂ (λ (k j : ℕ). record { settings = s; slots = replicate k (record { peer = reset_peer 0; entries = replicate j reset_entry }) })
    (sym (peers_at_lem z) ∙ ap (λ (x : Settings). x.peers) settings) (sym (vectors_at z) ∙ ap (λ (x : Settings). x.vectors) settings)
  where
    slot : Slot
    slot = record { peer = reset_peer 0; entries = replicate m reset_entry }

    entry : (i v : ℕ) → i < n → v < m → (c : ℕ) → c < 4 → word ws (entry_start n m c i v) ≡ word (entry_words reset_entry) c
    entry i v hi hv zero hc = zeros _ (omega arith) (omega (arith, row_below n m hi hv))
    entry i v hi hv (suc zero) hc = zeros _ (omega arith) (omega (arith, row_below n m hi hv))
    entry i v hi hv (suc (suc zero)) hc = zeros _ (omega arith) (omega (arith, row_below n m hi hv))
    entry i v hi hv (suc (suc (suc zero))) hc = ones (i * m + v) (row_below n m hi hv)
    entry i v hi hv (suc (suc (suc (suc c)))) hc = absurd (omega arith)

    slots : (i : ℕ) → i < n → slot_of n m ws i ≡ slot
    slots i hi =
        λ t. record {
          peer = peer_is ws i (reset_peer 0) (λ r h. zeros _ (omega arith) (omega arith) ∙ sym (get_or-replicate {A = ℕ} 8 r 0 0 h)) t;
          entries =
              (tabulate_ext m (entry_of n m ws i) (λ _. reset_entry) (λ v hv. entry_is n m ws i v reset_entry (entry i v hi hv))
              ∙ tabulate_const m reset_entry) t;
        }

-- 0 up to the last column, then the settings, then 1 in the last column: a hub with nobody connected
pub fresh_put : (o a b c : List ℕ) (s : Settings) → Filled o a 0 0 (10 + 8 * s.peers + 3 * (s.peers * s.vectors)) → Set a b s → length c ≡ length b
    → Filled b c (10 + 8 * s.peers + 3 * (s.peers * s.vectors)) 1 (s.peers * s.vectors) → hub_of c ≡ fresh_hub s
fresh_put o a b c s cleared put same filled =
    let y = fits_sized b put.fits in
    let n : word b 0 ≡ s.peers = sym (peers_at_lem y) ∙ ap (λ (x : Settings). x.peers) put.settings in
    let m : word b 1 ≡ s.vectors = sym (vectors_at y) ∙ ap (λ (x : Settings). x.vectors) put.settings in
    let header : (k : ℕ) → k < 10 → word c k ≡ word b k = λ k h. filled.kept k (λ r l e. omega arith) in
    let x : Sized c (word b 0) (word b 1) = sized_kept y same (header 0 (omega arith)) (header 1 (omega arith)) in
    let z : Sized c s.peers s.vectors = rw (n, m) at x in
    fresh_words s z (settings_at z ∙ settings_same b c header ∙ sym (settings_at y) ∙ put.settings)
    (λ k l h. filled.kept k (λ r q e. omega arith) ∙ put.kept k l ∙ rw (zero-add k) at (cleared.there k h))
    filled.there

-- equal hubs in words that fit, all below 2^32, are the same words
pub hub_injective : (a b : List ℕ) → fits a ≡ true → fits b ≡ true → ((k : ℕ) → get_or a k 0 < 2 ^ 32) → ((k : ℕ) → get_or b k 0 < 2 ^ 32)
    → hub_of a ≡ hub_of b → a ≡ b
unfolding slot_of settings_of
hub_injective a b la lb fa fb e = ext_get_or 0 a b (za.size ∙ sym zb.size) (λ k h. at k (rw za.size at h) (ltb k 10) refl)
  where
    n : ℕ
    n = word a 0

    m : ℕ
    m = word a 1

    za : Sized a n m
    za = fits_sized a la

    settings : settings_of a ≡ settings_of b
    settings = sym (settings_at za) ∙ ap (λ (h : Hub). h.settings) e ∙ settings_at (fits_sized b lb)

    zb : Sized b n m
    zb =
        record {
          peers = sym (ap (λ (s : Settings). s.peers) settings);
          vectors = sym (ap (λ (s : Settings). s.vectors) settings);
          few = za.few;
          less = za.less;
          size = (fits_sized b lb).size ∙ ap (λ (s : Settings). hub_words s.peers s.vectors) (sym settings);
        }

    slot : (i : ℕ) → i < n → slot_of n m a i ≡ slot_of n m b i
    slot i h = sym (slot_at_lem za i h) ∙ ap (λ (h : Hub). slot_at h i) e ∙ slot_at_lem zb i h

    entry : (i v : ℕ) → i < n → v < m → entry_of n m a i v ≡ entry_of n m b i v
    entry i v hi hv = sym (entry_at_lem n m a i v hv) ∙ ap (λ (s : Slot). entry_at s v) (slot i hi) ∙ entry_at_lem n m b i v hv

    at_settings : (k : ℕ) → k < 10 → word a k ≡ word b k
    at_settings k h =
        settings_word a (fa 5) k h ∙ ap (λ (s : Settings). word (settings_words s) k) settings ∙ sym (settings_word b (fb 5) k h)

    at_peer : (i r : ℕ) → i < n → r < 8 → word a (peer_start i + r) ≡ word b (peer_start i + r)
    at_peer i r hi hr =
        peer_word a i r hr ∙ ap (λ (s : Slot). word (peer_words s.peer) r) (slot i hi) ∙ sym (peer_word b i r hr)

    at_entry : (c i v : ℕ) → c < 4 → i < n → v < m → word a (entry_start n m c i v) ≡ word b (entry_start n m c i v)
    at_entry c i v hc hi hv =
        entry_word_lem n m a i v c hc
        ∙ ap (λ (e : Entry). word (entry_words e) c) (entry i v hi hv)
        ∙ sym (entry_word_lem n m b i v c hc)

    past_settings : (k : ℕ) → 10 ≤ k → k < hub_words n m → (t : Bool) → ltb k (10 + 8 * n) ≡ t → word a k ≡ word b k
    past_settings k low h true t =
        let l : k < 10 + 8 * n = ltb-true k (10 + 8 * n) t in
        let place : peer_start ((k - 10) / 8) + (k - 10) % 8 ≡ k = omega arith in
        rw place at (at_peer ((k - 10) / 8) ((k - 10) % 8) (omega arith) (omega arith))
    past_settings k low h false t =
        let p : EntryPlace n m k = entry_place n m k (ltb-false k (10 + 8 * n) t) h in
        rw p.place at (at_entry p.column p.id p.vector p.column_below p.id_below p.vector_below)

    at : (k : ℕ) → k < hub_words n m → (t : Bool) → ltb k 10 ≡ t → word a k ≡ word b k
    at k h true t = at_settings k (ltb-true k 10 t)
    at k h false t = past_settings k (ltb-false k 10 t) h (ltb k (10 + 8 * n)) refl
