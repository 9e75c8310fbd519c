-- `words::columns::Places::of_run` meets its contract: the rows of the run's peers follow each other.
use native.Mathlib.Omega.{arith}
use Rattle.words.proofs.LayoutLaws.{known_inside, known_fits, peers_at_lem, vectors_at}
use Rattle.words.proofs.RunLaws.{run_known, run_rows, run_stands}
use Rattle.words.proofs.columns.Places.of_run.Goals as goal

pub stored-counts-requires : goal.stored-counts-requires
stored-counts-requires c = known_fits _ _ (run_known _ _ _ c.requires)

pub overflow_mul-result : goal.overflow_mul-result
overflow_mul-result c =
    let z = (known_inside _ _ (run_known _ _ _ c.requires)).sized in
    rw (c.stored-counts.ensures.1, vectors_at z) (omega (arith, run_rows _ _ _ c.requires))

pub returns : goal.returns
returns c =
    let z = (known_inside _ _ (run_known _ _ _ c.requires)).sized in
    run_stands _ _ _ c.requires _
    (rw (c.entry_start.ensures, c.stored-counts.ensures.0, c.stored-counts.ensures.1, peers_at_lem z, vectors_at z))
    (rw (c.stored-counts.ensures.1, vectors_at z))
    (rw (c.column.ensures, c.stored-counts.ensures.0, c.stored-counts.ensures.1, peers_at_lem z, vectors_at z))
