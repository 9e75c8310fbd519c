-- `words::slots::put_fresh` meets its contract: the words have their values in three steps.
use Prim.Native.Nat.{ℕ, ◌+◌, ◌-◌, ◌*◌, ◌≤◌}
use mathlib.Core.List.{List, ◌++◌}
use mathlib.Core.Path.{◌≡◌, sym, ap, ◌∙◌}
use native.Mathlib.Omega.{arith}
use borrow.Rule.Slice.PartMut.{put_mid}
use lib.ListN.{length, take, drop, replicate, length-replicate, length-drop}
use lib.Seq.{length-take-le}
use Rattle.device.proofs.SizeLaws.{max_peers_small}
use Rattle.words.specs.Layout.{hub_words}
use Rattle.words.specs.Parts.{Filled}
use Rattle.words.proofs.IndexLaws.{entries_small}
use Rattle.words.proofs.LayoutLaws.{fresh_put}
use Rattle.words.proofs.PartLaws.{filled_part, part_length}
use Rattle.words.proofs.slots.put_fresh.Goals as goal

pub overflow_mul-size : goal.overflow_mul-size
overflow_mul-size c = omega (arith, entries_small _ _ c.requires.small.few c.requires.small.less)

pub overflow_mul-start-2 : goal.overflow_mul-start-2
overflow_mul-start-2 c = omega (arith, entries_small _ _ c.requires.small.few c.requires.small.less)

pub overflow_add-start-2 : goal.overflow_add-start-2
overflow_add-start-2 c = omega (arith, max_peers_small, c.requires.small.few, entries_small _ _ c.requires.small.few c.requires.small.less)

-- what the first two steps leave is as long as what was lent
kept : (ws part after : List ℕ) (n : ℕ) → length after ≡ length (part ++ drop n ws) → length part ≡ n → n ≤ length ws → length after ≡ length ws
kept ws part after n same size inside = same ∙ part_length ws part 0 n (omega (arith, inside)) size

pub slice_bounds-fill-end : goal.slice_bounds-fill-end
unfolding hub_words
slice_bounds-fill-end c = omega (arith, c.requires.size)

pub slice_bounds-fill-end-2 : goal.slice_bounds-fill-end-2
unfolding hub_words
slice_bounds-fill-end-2 c = sym (length-take-le _ c.args.hub.now (omega (arith, c.requires.size)))

pub overflow_add-start-3 : goal.overflow_add-start-3
overflow_add-start-3 c = omega (arith, max_peers_small, c.requires.small.few, entries_small _ _ c.requires.small.few c.requires.small.less)

pub offset_bounds-hub-start : goal.offset_bounds-hub-start
offset_bounds-hub-start c = omega (arith, max_peers_small, c.requires.small.few, entries_small _ _ c.requires.small.few c.requires.small.less)

pub slice_bounds-fill-end-3 : goal.slice_bounds-fill-end-3
unfolding hub_words
slice_bounds-fill-end-3 c =
    let s = c.args.s in
    let ws = c.args.hub.now in
    let size : ℕ = s.peers * s.vectors in
    let start : ℕ = 10 + 8 * s.peers + 3 * size in
    let inside : start + size ≤ length ws = omega (arith, c.requires.size) in
    let taken : length (take start ws) ≡ start = length-take-le start ws (omega arith) in
    omega (arith, kept ws c.fill.new.part c.put_settings.new.hub start c.put_settings.auto.hub (c.fill.auto.part ∙ taken) (omega arith))

pub returns : goal.returns
unfolding hub_words
returns c =
    let s = c.args.s in
    let ws = c.args.hub.now in
    let mid = c.put_settings.new.hub in
    let size : ℕ = s.peers * s.vectors in
    let start : ℕ = 10 + 8 * s.peers + 3 * size in
    let inside : start + size ≤ length ws = omega (arith, c.requires.size) in
    let taken : length (take start ws) ≡ start = length-take-le start ws (omega arith) in
    let length_mid : length mid ≡ length ws = kept ws c.fill.new.part mid start c.put_settings.auto.hub (c.fill.auto.part ∙ taken) (omega arith) in
    let width : start + size - start ≡ size = omega arith in
    let zeros : c.fill.new.part ≡ replicate start 0 = c.fill.ensures ∙ ap (λ (n : ℕ). replicate n 0) taken in
    let ones : c.fill-2.new.part ≡ replicate size 1 = c.fill-2.ensures
    ∙ ap (λ (n : ℕ). replicate n 1) (length-take-le _ (drop start mid) (rw length-drop (omega (arith, length_mid))) ∙ width) in
    let first : Filled ws (put_mid 0 start ws (replicate start 0)) 0 0 start = filled_part ws 0 start 0 (omega arith) in
    rw (ones, width)
    (fresh_put ws _ mid _ s first (rw zeros at c.put_settings.ensures)
    (part_length mid _ start size (omega (arith, length_mid)) (length-replicate size 1))
    (filled_part mid start size 1 (omega (arith, length_mid))))
