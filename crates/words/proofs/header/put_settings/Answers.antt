-- `words::header::put_settings` meets its contract: the first ten words are stored, and ask for as many words as there are.
use Prim.Native.Nat.{◌≤◌}
use mathlib.Core.Path.{refl, sym, ◌∙◌}
use native.Mathlib.Omega.{arith}
use lib.ListN.{length}
use lib.Seq.{length-take-le}
use Rattle.words.specs.Layout.{hub_words}
use Rattle.words.specs.Parts.{settings_words}
use Rattle.words.proofs.LayoutLaws.{settings_put}
use Rattle.words.proofs.PartLaws.{copied_part, part_length}
use Rattle.words.proofs.header.put_settings.Goals as goal

pub slice_bounds-copy_from_slice-end : goal.slice_bounds-copy_from_slice-end
unfolding hub_words
slice_bounds-copy_from_slice-end c = omega (arith, c.requires.size)

pub slice_bounds-copy_from_slice-end-2 : goal.slice_bounds-copy_from_slice-end-2
unfolding hub_words
slice_bounds-copy_from_slice-end-2 c = sym (length-take-le 10 c.args.hub.now (omega (arith, c.requires.size)))

pub copy_from_slice-requires : goal.copy_from_slice-requires
unfolding hub_words
copy_from_slice-requires c = length-take-le 10 c.args.hub.now (omega (arith, c.requires.size)) ∙ rw c.settings_words.ensures refl

pub returns : goal.returns
unfolding hub_words
returns c =
    let ws = c.args.hub.now in
    let inside : 10 ≤ length ws = omega (arith, c.requires.size) in
    rw (c.copy_from_slice.ensures.after, c.settings_words.ensures)
    (settings_put ws _ _ c.requires.small (part_length ws (settings_words c.args.s) 0 10 inside refl ∙ c.requires.size)
    (copied_part ws (settings_words c.args.s) 0 10 (omega arith) refl))
