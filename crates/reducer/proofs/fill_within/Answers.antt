-- `fill_within` meets its contract: its arrays are large enough, and fresh. Assumes nothing.
use Rattle.rows.specs.Seen.{cells_of}
use Rattle.reducer.proofs.Arrays.{arrays_ready}
use Rattle.reducer.proofs.fill_within.Goals as goal

pub reduce_rows-requires-clause-fresh : goal.reduce_rows-requires-clause-fresh
reduce_rows-requires-clause-fresh g c =
    (arrays_ready (cells_of c.args.view) _ _ _ c.requires.evidence_len c.requires.blank c.requires.kept_room c.requires.owner_room).1
