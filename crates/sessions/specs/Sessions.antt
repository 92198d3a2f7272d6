-- What demand 2 says of a session: any run of requests on a table.
-- A reader must believe these definitions; nothing here is proved.
use Rattle.std.specs.Prelude.{List, ℕ}
use Rattle.table.specs.Table.{Valid}
use Rattle.complex.specs.SemiSimplicial.{SemiSimplicial, OfTable}
use Rattle.building.specs.Runs.{Request, calls, Exactly}

pub record Session (t : List ℕ) (rs : List Request) : Type 1 where
  -- the table holds exactly what the published rules give,
  pub exact : Exactly t rs (calls t rs)
  -- it is valid,
  pub valid : Valid (calls t rs)
  -- and it is a semi-simplicial set in the published sense
  pub semi_simplicial : (S : SemiSimplicial) × OfTable (calls t rs) S
