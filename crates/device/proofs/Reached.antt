-- Every sound hub is left by a history: first each connected peer connects, turns Command bit 1 on and stores its State, with every
-- Interrupt Control still 0, so that the rings are lost; then each stores its MSI-X entries, its Interrupt Control and, byte by byte,
-- its configuration space, which rings nobody.
use Prim.Native.Nat.{ℕ, zero, suc, ◌+◌, ◌*◌, ◌/◌, ◌%◌, ◌^◌, ◌<◌, ◌≤◌}
use mathlib.Core.Bool.{Bool, true, false, cond}
use mathlib.Core.List.{List, [], ◌∷◌, ◌++◌}
use mathlib.Core.Path.{◌≡◌, refl, sym, ap, subst, ◌∙◌}
use native.Mathlib.Omega.{arith}
use borrow.Author.Tests.{eqb-true, eq-eqb, lt-ltb, le-ltb, lt-leb}
use lib.Bits.{bit_and}
use lib.Dec.{eqb}
use lib.ListN.{length, get_or, set, replicate}
use lib.Seq.{lt-length-set, get_or-set_same, set-get_or, set-set}
use Rattle.common.specs.Bytes.{bytes, number, set_byte}
use Rattle.common.specs.Lists.{tabulate}
use Rattle.common.specs.Tests.{Row, row, first}
use Rattle.common.proofs.ListLaws.{tabulate_const, get_d_set}
use Rattle.common.proofs.TestLaws.{and_left, and_right, below_true}
use Rattle.device.specs.declared.Entry.{Entry}
use Rattle.device.specs.declared.Peer.{Peer}
use Rattle.device.specs.declared.Settings.{Settings}
use Rattle.device.specs.Call.{Act, Call, call}
use Rattle.device.specs.Call.Act.{connect, configuration_write, register_write, msix_write}
use Rattle.device.specs.Configuration.{fields, field_byte, configuration_byte, configuration_read, masks}
use Rattle.device.specs.Configuration.{mask_in, mask_at, with_byte, written_byte, configuration_written}
use Rattle.device.specs.Effect.{Operation, announces, changes, register_stored, effect}
use Rattle.device.specs.History.{start, after}
use Rattle.device.specs.Msix.{in_table, with_word, msix_written}
use Rattle.device.specs.Reached.{Reached, SlotShaped, SoundIsReached}
use Rattle.device.specs.Refusal.{Lent, Access, lent_to, access_of, wrong_region, short_table, missing, present}
use Rattle.device.specs.Refusal.{wrong_width, misaligned, outside, forbidden, is_connected, refusal}
use Rattle.device.specs.Registers.{register_at, memory_on}
use Rattle.device.specs.Reset.{reset_entry}
use Rattle.device.specs.Ring.{Rung, rung, ring, peer_id, vector, ring_from, with_interrupt}
use Rattle.device.specs.Ring
use Rattle.device.specs.SetUp.{accepted, total, fresh_hub}
use Rattle.device.specs.Sound.{entry_fixed, slot_sound, sound}
use Rattle.device.specs.Step.{run, run_all, step}
use Rattle.device.specs.World.{Hub, Slot, World, world, zero_entry, zero_slot, reset_slot, slot_at, entry_at, with_peer, with_entry}
use Rattle.device.proofs.CopyLaws.{whole_word, opened, copied_all, entry_copied, absent_slot_lem, sweep, tabled}
use Rattle.device.proofs.FixedLaws.{written_connected}
use Rattle.device.proofs.HistoryLaws.{Fit, fit_sound, start_fit, taken_world}
use Rattle.device.proofs.KeepingLaws.{Frame}
use Rattle.device.proofs.OneShot.{after_fit}
use Rattle.device.proofs.OneShotLaws.{nothing_kept}
use Rattle.device.proofs.SetUpLaws.{accepted_facts}
use Rattle.device.proofs.SizeLaws.{max_vectors_small}
use Rattle.device.proofs.SoundLaws.{Used, used}

-- One call more.

pub after_one : (w : World) (cs : List Call) (c : Call) → after w (cs ++ (c ∷ [])) ≡ (step (after w cs) c).world
unfolding after
after_one w [] c = refl
after_one w (d ∷ cs) c = after_one (step w d).world cs c

right_region : (s : Settings) (region : List ℕ) (lent : Lent) → length region ≡ total s → wrong_region s region lent ≡ false
unfolding wrong_region
right_region s region Lent.nothing e = refl
right_region s region Lent.region e = rw (eq-eqb (length region) (total s) e)
right_region s region (Lent.region_and_table n) e = rw (eq-eqb (length region) (total s) e)

-- the checks 4 to 9, of the caller and its access
abbrev own_checks : Settings → Bool → ℕ → Access → List Row
own_checks s connected who access =
    row 4 (missing connected access)
    ∷ row 5 (present connected access)
    ∷ row 6 (wrong_width access)
    ∷ row 7 (misaligned access)
    ∷ row 8 (outside s access)
    ∷ row 9 (forbidden s who access)
    ∷ []

-- a call that a peer with this slot may make in every world of a history: there the hub is sound and the region has its length
record Allowed (s : Settings) (x : Slot) (a : Act) : Type 0 where
  records : short_table s (lent_to a) ≡ false
  checked : (who : ℕ) → first (own_checks s (eqb x.peer.connected 1) who (access_of a)) ≡ 0

abbrev hub_with : Settings → List Slot → Hub
hub_with s zs = record { settings = s; slots = zs }

module _ (s : Settings) (a : accepted s ≡ true) (zs : List Slot) (i : ℕ) (near : i < length zs) (x : Slot)
    (here : get_or zs i zero_slot ≡ x) (act : Act) (ok : Allowed s x act) where
  allowed : (region : List ℕ) → Fit s (world (hub_with s zs) region) → refusal (world (hub_with s zs) region) (call i act) ≡ 0
  unfolding refusal first is_connected
  allowed region f =
      let n : length zs ≡ s.peers = ap (λ (x : Frame). x.slots) f.fixed in
      rw (
        fit_sound s (world (hub_with s zs) region) a f,
        right_region s region (lent_to act) (ap (λ (x : Frame). x.room) f.fixed),
        ok.records,
        lt-leb s.peers i (omega arith),
        here,
      )
      (ok.checked i)

  goes_on : (next : List Slot)
      → ((region : List ℕ) → (run_all i (world (hub_with s zs) region) (effect s i x region act).operations).world.hub ≡ hub_with s next)
      → Reached (hub_with s zs) → Reached (hub_with s next)
  goes_on next runs r =
      let w : World = after (start s) r.calls in
      let u : World = world (hub_with s zs) w.region in
      let same : w ≡ u = λ j. record { hub = r.leaves j; region = w.region } in
      let f : Fit s u = subst (Fit s) same (after_fit s a (start s) r.calls (start_fit s)) in
      record {
        numbers = a;
        calls = r.calls ++ (call i act ∷ []);
        leaves =
            ap (λ (y : World). y.hub) (after_one (start s) r.calls (call i act))
            ∙ ap (λ (y : World). (step y (call i act)).world.hub) same
            ∙ ap (λ (y : World). y.hub) (taken_world u (call i act) (allowed w.region f))
            ∙ rw here (runs w.region);
      }

-- A peer's own calls take its slot from one value to another, whatever the others are, and keep what holds of the slots together.
record Moves (R : List Slot → Type 0) (x y : Slot) : Type 0 where
  go : (zs : List Slot) (i : ℕ) → i < length zs → get_or zs i zero_slot ≡ x → R zs → R (set zs i y)

stays : (R : List Slot → Type 0) (x : Slot) → Moves R x x
stays R x = record { go = λ zs i h e r. subst R (sym (ap (λ (y : Slot). set zs i y) (sym e) ∙ set-get_or zs i zero_slot)) r }

before : {R : List Slot → Type 0} {x y z : Slot} → Moves R x y → Moves R y z → Moves R x z
before {R} {y = y} {z = z} f g =
    record {
      go =
          λ zs i h e r.
          subst R (set-set zs i y z) (g.go (set zs i y) i (lt-length-set zs i y h) (get_or-set_same zs i y zero_slot h) (f.go zs i h e r));
    }

-- The calls that the history is made of.
module _ (s : Settings) (a : accepted s ≡ true) where
  abbrev Left : List Slot → Type 0
  Left zs = Reached (hub_with s zs)

  own_call : (x y : Slot) (act : Act) → Allowed s x act
      → ((who : ℕ) (region : List ℕ) → (effect s who x region act).operations ≡ Operation.own y ∷ []) → Moves Left x y
  unfolding run_all run
  own_call x y act ok own = record { go = λ zs i h e r. goes_on s a zs i h x e act ok (set zs i y) (λ region. rw (own i region)) r }

  connects : Moves Left (reset_slot s.vectors 0) (reset_slot s.vectors 1)
  unfolding effect lent_to access_of short_table missing present wrong_width misaligned outside forbidden first reset_slot
  connects = own_call _ _ connect (record { records = refl; checked = λ who. refl }) (λ who region. refl)

  module _ (x : Slot) (c : x.peer.connected ≡ 1) where
    writes_byte : (at v : ℕ) → at < 256 → Moves Left x (with_peer x (configuration_written s x.peer at 1 v))
    unfolding effect lent_to access_of short_table missing present wrong_width misaligned outside forbidden first
    writes_byte at v h =
        own_call x _ (configuration_write at 1 v)
        (record { records = refl; checked = λ who. rw (eq-eqb x.peer.connected 1 c, eq-eqb (at % 1) 0 (omega arith), le-ltb 256 (at + 1) (omega arith)) })
        (λ who region. refl)

    -- a store to the register region or the MSI-X region
    store_checked : (at : ℕ) → at % 4 ≡ 0 → at + 4 ≤ 4096 → (who : ℕ) → first (own_checks s (eqb x.peer.connected 1) who (Access.registers at 4)) ≡ 0
    unfolding missing present wrong_width misaligned outside forbidden first
    store_checked at e h who = rw (eq-eqb x.peer.connected 1 c, eq-eqb (at % 4) 0 e, le-ltb 4096 (at + 4) h)

    register_allowed : (at v : ℕ) → at % 4 ≡ 0 → at + 4 ≤ 4096 → Allowed s x (register_write s.peers at 4 v)
    unfolding lent_to access_of short_table
    register_allowed at v e h = record { records = le-ltb s.peers s.peers (omega arith); checked = store_checked at e h }

    module _ (m : memory_on x.peer ≡ true) where
      stores_control : (v : ℕ) → Moves Left x (with_peer x (with_interrupt x.peer (bit_and v 1)))
      unfolding effect register_at register_stored
      stores_control v = own_call x _ (register_write s.peers 0x08 4 v) (register_allowed 0x08 v refl (omega arith)) (λ who region. rw m)

      stores_word : (at v : ℕ) → at % 4 ≡ 0 → at + 4 ≤ 4096 → Moves Left x (msix_written s x at v)
      unfolding effect lent_to access_of short_table
      stores_word at v e h = own_call x _ (msix_write at 4 v) (record { records = refl; checked = store_checked at e h }) (λ who region. rw m)

  -- The first part, while every Interrupt Control is 0: a peer that is to be connected gets its State, and is else at reset but for
  -- Command bit 1.

  abbrev Quiet : List Slot → Type 0
  Quiet zs = (j : ℕ) → (get_or zs j zero_slot).peer.interrupt ≡ 0

  abbrev LeftQuiet : List Slot → Type 0
  LeftQuiet zs = Left zs × Quiet zs

  quiet_set : (zs : List Slot) (i : ℕ) (x : Slot) → x.peer.interrupt ≡ 0 → Quiet zs → Quiet (set zs i x)
  quiet_set zs i x e q = λ j. get_d_set (λ (y : Slot). y.peer.interrupt ≡ 0) zs i j x zero_slot (λ k. e) (q j)

  -- so a State store reaches nobody
  rings_lost : (n i who : ℕ) (zs : List Slot) → Quiet zs → ring_from n i who (hub_with s zs) ≡ rung (hub_with s zs) []
  unfolding ring_from
  rings_lost zero i who zs q = refl
  rings_lost (suc n) i who zs q = rw (one (eqb i who)) (rings_lost n (suc i) who zs q)
    where
      one : (t : Bool) → cond t (rung (hub_with s zs) []) (ring (hub_with s zs) (peer_id i) (vector 0)) ≡ rung (hub_with s zs) []
      one true = refl
      one false = nothing_kept (hub_with s zs) (peer_id i) (vector 0) (q i)

  changed_lost : (t : Bool) (who : ℕ) (zs : List Slot) (region : List ℕ) → Quiet zs
      → (run_all who (world (hub_with s zs) region) (cond t (Operation.ring_others ∷ []) [])).world.hub ≡ hub_with s zs
  unfolding run_all run Ring.ring_others
  changed_lost true who zs region q = ap (λ (y : Rung). y.hub) (rings_lost s.peers 0 who zs q)
  changed_lost false who zs region q = refl

  abbrev begun : ℕ → Slot
  begun state = record { peer = opened 0 state; entries = replicate s.vectors reset_entry }

  opens : Moves LeftQuiet (reset_slot s.vectors 0) (begun 0)
  unfolding configuration_written written_byte with_byte set_byte number bytes mask_at masks mask_in configuration_byte field_byte fields reset_slot
  opens =
      let m : Moves Left (reset_slot s.vectors 0) (begun 0) = before connects (writes_byte (reset_slot s.vectors 1) refl 0x04 2 (omega arith)) in
      record { go = λ zs i h e r. (m.go zs i h e r.0, quiet_set zs i (begun 0) refl r.1) }

  stores_state : (v : ℕ) → v < 2 ^ 32 → Moves LeftQuiet (begun 0) (begun v)
  unfolding effect register_at register_stored announces run_all run memory_on
  stores_state v small =
      record {
        go =
            λ zs i h e r.
            let q : Quiet (set zs i (begun v)) = quiet_set zs i (begun v) refl r.1 in (
              goes_on s a zs i h (begun 0) e (register_write s.peers 0x10 4 v) (register_allowed (begun 0) refl 0x10 v refl
                  (omega arith)) (set zs i (begun v))
                  (λ region. rw (whole_word v small) (changed_lost (changes 0 v) i (set zs i (begun v)) _ q))
                  r.0,
              q,
            );
      }

  unfoldable prepared : Slot → Slot
  prepared y = cond (eqb y.peer.connected 1) (begun y.peer.state) (reset_slot s.vectors 0)

  prepares : (y : Slot) → y.peer.state < 2 ^ 32 → Moves LeftQuiet (reset_slot s.vectors 0) (prepared y)
  unfolding prepared
  prepares y small = go (eqb y.peer.connected 1)
    where
      go : (t : Bool) → Moves LeftQuiet (reset_slot s.vectors 0) (cond t (begun y.peer.state) (reset_slot s.vectors 0))
      go true = before opens (stores_state y.peer.state small)
      go false = stays LeftQuiet (reset_slot s.vectors 0)

  -- The second part, which rings nobody: the entries, Interrupt Control, and configuration space.

  module _ (x : Slot) (c : x.peer.connected ≡ 1) (m : memory_on x.peer ≡ true) (v : ℕ) (inside : v < s.vectors) (there : v < length x.entries) where
    word_stored : (f : Entry) (k value : ℕ) → k < 4 → Moves Left (with_entry x v f) (with_entry x v (with_word f k value))
    unfolding msix_written in_table
    word_stored f k value h =
        let n : (16 * v + 4 * k) / 16 ≡ v = omega arith in
        let w : (16 * v + 4 * k) % 16 / 4 ≡ k = omega arith in
        rw (n, w, lt-ltb v s.vectors inside, get_or-set_same x.entries v f zero_entry there, set-set x.entries v f) at
        (stores_word (with_entry x v f) c m (16 * v + 4 * k) value (omega arith) (omega (arith, (accepted_facts s a).vectors, max_vectors_small)))

    entry_stored : (e : Entry) → entry_fixed e ≡ true → e.high < 2 ^ 32 → e.payload < 2 ^ 32 → Moves Left x (with_entry x v e)
    entry_stored e f h p =
        rw (set-get_or x.entries v zero_entry, entry_copied (entry_at x v) e f h p) at
        (before (before (before (word_stored (entry_at x v) 0 e.low (omega arith)) (word_stored _ 1 e.high (omega arith)))
        (word_stored _ 2 e.payload (omega arith))) (word_stored _ 3 e.control (omega arith)))

  writes_bytes : (w at v : ℕ) (x : Slot) → x.peer.connected ≡ 1 → at + w ≤ 256 → Moves Left x (with_peer x (configuration_written s x.peer at w v))
  unfolding configuration_written
  writes_bytes zero at v x c h = stays Left x
  writes_bytes (suc w) at v x c h =
      before (writes_byte x c at v (omega arith))
      (writes_bytes w (suc at) (v / 256) (with_peer x (configuration_written s x.peer at 1 v)) (written_connected s x.peer at 1 v ∙ c) (omega arith))

  finishes : (y : Slot) → y.peer.connected ≡ 1 → slot_sound s y ≡ true → SlotShaped s.vectors y → Moves Left (begun y.peer.state) y
  unfolding memory_on
  finishes y c e shape =
      let u : Used s y = used s y c e in
      let p : Peer = y.peer in
      let slot : ℕ → List Entry → Slot = λ interrupt es. record { peer = opened interrupt p.state; entries = es } in
      let entries : Moves Left (begun p.state) (slot 0 y.entries) =
      rw (tabled zero_entry s.vectors y.entries shape.entries) at
      (sweep (λ es. Moves Left (begun p.state) (slot 0 es)) zero_entry s.vectors (λ v. reset_entry) (λ v. entry_at y v)
      (λ v es h n g moved.
      before moved (entry_stored (slot 0 es) refl refl v h (rw n h) (entry_at y v) (u.entries v h) (shape.high v) (shape.payload v)))
      (rw (tabulate_const s.vectors reset_entry) (stays Left (begun p.state)))) in
      let control : bit_and p.interrupt 1 ≡ p.interrupt = eqb-true _ _ u.fixed.interrupt in
      rw (copied_all s p c u.fixed) at
      (before (before entries (rw control at (stores_control (slot 0 y.entries) refl refl p.interrupt)))
      (writes_bytes 256 0 (configuration_read s p 0 256) (slot p.interrupt y.entries) refl (omega arith)))

  completes : (y : Slot) → slot_sound s y ≡ true → SlotShaped s.vectors y → Moves Left (prepared y) y
  unfolding prepared
  completes y e shape = go (eqb y.peer.connected 1) refl
    where
      go : (t : Bool) → eqb y.peer.connected 1 ≡ t → Moves Left (cond t (begun y.peer.state) (reset_slot s.vectors 0)) y
      go true h = finishes y (eqb-true y.peer.connected 1 h) e shape
      go false h = subst (Moves Left (reset_slot s.vectors 0)) (sym (absent_slot_lem s y e h shape.entries)) (stays Left (reset_slot s.vectors 0))

  -- Both parts, over all ids.

  all_move : (R : List Slot → Type 0) (f g : ℕ → Slot) → ((i : ℕ) → i < s.peers → Moves R (f i) (g i)) → R (tabulate s.peers f) → R (tabulate s.peers g)
  all_move R f g each r = sweep R zero_slot s.peers f g (λ i zs h l e k. (each i h).go zs i (rw l h) e k) r

  quiet_fresh : (n : ℕ) → Quiet (replicate n (reset_slot s.vectors 0))
  unfolding reset_slot zero_slot
  quiet_fresh zero j = refl
  quiet_fresh (suc n) zero = refl
  quiet_fresh (suc n) (suc j) = quiet_fresh n j

  fresh : LeftQuiet (tabulate s.peers (λ i. reset_slot s.vectors 0))
  unfolding start fresh_hub after
  fresh = rw (tabulate_const s.peers (reset_slot s.vectors 0)) (record { numbers = a; calls = []; leaves = refl }, quiet_fresh s.peers)

pub sound_is_reached : SoundIsReached
unfolding sound
sound_is_reached hub shape =
    let s : Settings = hub.settings in (
      λ e.
          let a : accepted s ≡ true = and_left (accepted s) _ e in
          let each : (i : ℕ) → i < s.peers → slot_sound s (slot_at hub i) ≡ true = below_true s.peers _ (and_right (accepted s) _ e) in
          rw (tabled zero_slot s.peers hub.slots shape.slots) at
          (all_move s a (Left s a) (λ i. prepared s a (slot_at hub i)) (λ i. slot_at hub i) (λ i h. completes s a (slot_at hub i) (each i h) (shape.each i h))
          (all_move s a (LeftQuiet s a) (λ i. reset_slot s.vectors 0) (λ i. prepared s a (slot_at hub i))
          (λ i h. prepares s a (slot_at hub i) (shape.each i h).state) (fresh s a)).0),
      λ r.
          subst (λ (h : Hub). sound h ≡ true) r.leaves
          (fit_sound s (after (start s) r.calls) r.numbers (after_fit s r.numbers (start s) r.calls (start_fit s))),
    )
