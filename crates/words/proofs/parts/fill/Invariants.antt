-- `words::parts::fill` meets its contract. The loop's invariant: the words passed hold the value, the others are as they were.
use mathlib.Core.Path.{◌≡◌}
use mathlib.Core.List.{◌++◌}
use lib.ListN.{drop, replicate}
use Rattle.words.proofs.parts.fill.Given as goal

abbrev pub invariant-loop-word : goal.invariant-loop-word
invariant-loop-word l = l.part ≡ replicate l.word-index l.value ++ drop l.word-index l.initial.part
