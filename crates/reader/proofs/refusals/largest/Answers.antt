-- `reader::refusals::largest` meets its contract.
use Prim.Native.Nat.{ℕ}
use mathlib.Core.List.{List, map-id}
use mathlib.Core.Path.{sym, ap, ◌∙◌}
use Rattle.std.specs.Prelude.{Option, unwrap_or}
use Rattle.std.specs.List.{reduce}
use Rattle.std.specs.Ordering.{max_by_ordering, nat_cmp}
use Rattle.std.proofs.lemmas.Iterator.{YieldsList-from_slice}
use Rattle.std.proofs.lemmas.Iterator.Consumers.{reduce_from_yields_List, YieldsList-from_copied}
use Rattle.std.proofs.lemmas.List.Folds.{max_of_map}
use Rattle.reader.proofs.refusals.largest.Goals as goal

pub returns : goal.returns
returns c =
    let l = c.args.counts.now in
    let picked = reduce_from_yields_List _ c.copied.result _ c.max.ensures.ran (YieldsList-from_copied (YieldsList-from_slice l cc)) in
    c.unwrap_or.ensures
    ∙ ap (λ (o : Option ℕ). unwrap_or o 0) (picked ∙ ap (λ (m : List ℕ). reduce (λ p z. max_by_ordering (nat_cmp p z) p z) m) (sym (map-id l)))
    ∙ max_of_map (λ x. x) l
