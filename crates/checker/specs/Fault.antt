-- The first row at fault, by rules A and B as they are printed.
-- A reader must believe these definitions; nothing here is proved.
use Rattle.std.specs.Prelude.{List, ℕ, ◌<◌}
use Rattle.homology.specs.Cells.{Cells}
use Rattle.homology.specs.Evidence.{RuleA, RuleB}
use Rattle.rows.specs.Rows.{rows}

-- The first row at fault: it is one of the rows, every lower row keeps both rules, and it breaks A, or keeps A and breaks B.
pub record FirstBreaksA (K : Cells) (ev : List ℕ) (c : ℕ) : Type 0 where
  pub inside : c < K.size
  pub lower_a : (b : ℕ) → b < c → RuleA K (rows K ev) b
  pub lower_b : (b : ℕ) → b < c → RuleB K (rows K ev) b
  pub broken : RuleA K (rows K ev) c → ⊥

pub record FirstBreaksB (K : Cells) (ev : List ℕ) (c : ℕ) : Type 0 where
  pub inside : c < K.size
  pub lower_a : (b : ℕ) → b < c → RuleA K (rows K ev) b
  pub lower_b : (b : ℕ) → b < c → RuleB K (rows K ev) b
  pub kept : RuleA K (rows K ev) c
  pub broken : RuleB K (rows K ev) c → ⊥
