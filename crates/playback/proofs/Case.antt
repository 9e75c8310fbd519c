-- The case of C-13: a set-up, a connect and a read of Maximum Peers with Command bit 1 off. Each record's answer is computed.
use Prim.Native.Nat.{ℕ}
use mathlib.Core.Bool.{false}
use mathlib.Core.List.{List, [], ◌∷◌}
use mathlib.Core.Path.{◌≡◌, refl, sym, ap, ◌∙◌}
use Rattle.common.specs.Bytes.{bytes, number}
use Rattle.common.specs.Streams.{fed_to, fed_all, fed_pieces, joined}
use Rattle.common.specs.Tests.{first, every, below}
use Rattle.device.specs.declared.Settings.{Settings}
use Rattle.device.specs.Call.{Act, call}
use Rattle.device.specs.Effect.{effect}
use Rattle.device.specs.History.{start}
use Rattle.device.specs.Refusal.{lent_to, access_of, wrong_region, short_table, missing, present, wrong_width, misaligned, outside, forbidden, is_connected, refusal}
use Rattle.device.specs.Registers.{register_read, register_at, memory_on, register_value}
use Rattle.device.specs.SetUp.{total, accepted, set_up_refusal, fresh_hub}
use Rattle.device.specs.Sizes.{max_peers, max_vectors}
use Rattle.device.specs.Sound.{peer_fixed, peer_reset, entry_fixed, entry_reset, peer_sound, entry_sound, slot_sound, sound}
use Rattle.device.specs.Step.{run, run_all, step_by, step}
use Rattle.device.specs.World.{World, zero_slot, reset_slot}
use Rattle.playback.proofs.Cutting.{cutting_changes_nothing, records_are_answered}
use Rattle.playback.specs.Answers.{all_delivered, answer, answered, nowhere, replied, set_up_number}
use Rattle.playback.specs.Cutting.{played_in_pieces}
use Rattle.playback.specs.Log.{field, kind_of, request_of, record_length}
use Rattle.playback.specs.Player.{after, fed, fresh, inside, played, player}

-- 00 0200 0100 00100000 0000000000000000 0000000000000000 0000100000000000 0100 0A11 0641
unfoldable pub set_up : List ℕ
set_up =
    0x00 ∷ 0x02 ∷ 0x00 ∷ 0x01 ∷ 0x00 ∷ 0x00 ∷ 0x10 ∷ 0x00 ∷ 0x00
    ∷ 0x00 ∷ 0x00 ∷ 0x00 ∷ 0x00 ∷ 0x00 ∷ 0x00 ∷ 0x00 ∷ 0x00
    ∷ 0x00 ∷ 0x00 ∷ 0x00 ∷ 0x00 ∷ 0x00 ∷ 0x00 ∷ 0x00 ∷ 0x00
    ∷ 0x00 ∷ 0x00 ∷ 0x10 ∷ 0x00 ∷ 0x00 ∷ 0x00 ∷ 0x00 ∷ 0x00
    ∷ 0x01 ∷ 0x00 ∷ 0x0A ∷ 0x11 ∷ 0x06 ∷ 0x41 ∷ []

abbrev numbers : Settings
numbers =
    record { peers = 2; vectors = 1; table = 4096; common = 0; output = 0; base = 0x100000; protocol = 1; vendor = 0x110A; subsystem = 0x4106 }

-- 01 0000, then 06 0000 0400
unfoldable pub joins : List ℕ
joins = 0x01 ∷ 0x00 ∷ 0x00 ∷ []

unfoldable pub asks : List ℕ
asks = 0x06 ∷ 0x00 ∷ 0x00 ∷ 0x04 ∷ 0x00 ∷ []

connected : World
connected = (step (start numbers) (call 0 Act.connect)).world

answering : World
answering = (step connected (call 0 (Act.register_read 4 4))).world

first_answer : answer nowhere (request_of (kind_of set_up) set_up) ≡ answered (start numbers) (0x81 ∷ [])
unfolding set_up field kind_of request_of number answer replied set_up_number set_up_refusal first every total accepted max_peers max_vectors all_delivered
first_answer = refl

second_answer : answer (start numbers) (request_of (kind_of joins) joins) ≡ answered connected (0x81 ∷ [])
unfolding connected joins number field kind_of request_of answer replied all_delivered step step_by run run_all effect start fresh_hub
    reset_slot zero_slot refusal first every below lent_to access_of wrong_region short_table missing present wrong_width misaligned
    outside forbidden is_connected sound accepted total max_peers max_vectors slot_sound peer_sound entry_sound peer_fixed peer_reset
    entry_fixed entry_reset
second_answer = refl

third_answer : answer connected (request_of (kind_of asks) asks) ≡ answered answering (0x82 ∷ 0xFF ∷ 0xFF ∷ 0xFF ∷ 0xFF ∷ [])
unfolding connected answering asks bytes number field kind_of request_of answer replied step step_by run run_all effect register_read
    register_at register_value memory_on start fresh_hub reset_slot zero_slot refusal first every below lent_to access_of wrong_region
    short_table missing present wrong_width misaligned outside forbidden is_connected sound accepted total max_peers max_vectors
    slot_sound peer_sound entry_sound peer_fixed peer_reset entry_fixed entry_reset
third_answer = refl

-- 81, 81, 82 FFFFFFFF
pub the_case : played (joined (set_up ∷ joins ∷ asks ∷ [])) ≡ 0x81 ∷ 0x81 ∷ 0x82 ∷ 0xFF ∷ 0xFF ∷ 0xFF ∷ 0xFF ∷ []
unfolding set_up joins asks kind_of record_length fed_pieces played_in_pieces inside
the_case =
    let one : fed_all fed fresh set_up ≡ fed_to (player (start numbers) [] false) (0x81 ∷ []) = records_are_answered nowhere set_up refl ∙ ap after first_answer in
    let two : fed_all fed (player (start numbers) [] false) joins ≡ fed_to (player connected [] false) (0x81 ∷ []) =
    records_are_answered (start numbers) joins refl ∙ ap after second_answer in
    let three : fed_all fed (player connected [] false) asks ≡ fed_to (player answering [] false) (0x82 ∷ 0xFF ∷ 0xFF ∷ 0xFF ∷ 0xFF ∷ []) =
    records_are_answered connected asks refl ∙ ap after third_answer in
    sym (cutting_changes_nothing (set_up ∷ joins ∷ asks ∷ [])) ∙ rw (one, two, three)
