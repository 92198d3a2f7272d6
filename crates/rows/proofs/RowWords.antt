-- Rows of evidence: how many words a row has, which, and what they are as sets of cells.
-- What carries it: the laws of rows of words, at the width of the table's. Assumes nothing.
use mathlib.Core.Path.{◌≡◌, ap}
use mathlib.Core.List.{List}
use Prim.Native.Nat.{ℕ, ◌+◌, ◌*◌, ◌≤◌, ◌<◌}
use native.Mathlib.Omega.{arith}
use lib.ListN.{length, get_or}
use Rattle.homology.specs.Cells.{Cells}
use Rattle.homology.specs.Evidence.{RuleA}
use Rattle.homology.proofs.Marks.{by_mark, clash}
use Rattle.bitset.specs.Rows.{row_at}
use Rattle.bitset.proofs.RowLaws.{row_fits, length_row, get_or_row}
use Rattle.table.specs.Kind.{capacity}
use Rattle.bitset.specs.Bits.{full_width}
use Rattle.rows.specs.Rows.{row_width, evidence_words, row_of, rows, RowLive}

pub row_width_fits : (K : Cells) → K.size ≤ capacity → row_width K ≤ full_width
row_width_fits K room = omega arith

module _ (K : Cells) (ev : List ℕ) (long : length ev ≡ evidence_words K) (c : ℕ) (inside : c < K.size) where
  pub row_ends : c * row_width K + row_width K ≤ length ev
  row_ends = row_fits (row_width K) ev K.size c long inside

  pub length_row_of : length (row_of K ev c) ≡ row_width K
  unfolding row_of
  length_row_of = length_row (row_width K) ev c row_ends

-- the row of the evidence at a width that is the rows'
pub row_at_width : (K : Cells) (ev : List ℕ) (c w : ℕ) → w ≡ row_width K → row_at w ev c ≡ row_of K ev c
unfolding row_of
row_at_width K ev c w e = ap (λ (k : ℕ). row_at k ev c) e

pub get_or_row_of : (K : Cells) (ev : List ℕ) (c k : ℕ) → k < row_width K → get_or (row_of K ev c) k 0 ≡ get_or ev (c * row_width K + k) 0
unfolding row_of
get_or_row_of K ev c k h = get_or_row (row_width K) ev c k h

-- a row that meets rule A has live cells alone
pub rule_a_live : (K : Cells) (ev : List ℕ) (c : ℕ) → RuleA K (rows K ev) c → RowLive K ev c
rule_a_live K ev c rule = record {
  each = λ s e. by_mark (K.live c)
      (λ h. (rule.alike h s e).0)
      (λ h. clash e (rule.free h s));
}
