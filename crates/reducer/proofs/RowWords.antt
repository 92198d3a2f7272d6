-- Rows of words at the width of a row of evidence: the rows of the evidence and of the boundaries, before and after one of them is written.
-- What carries it: a row of the evidence is a row of as many words. Assumes nothing.
use mathlib.Core.Path.{◌≡◌, sym, ap, ◌∙◌}
use mathlib.Core.List.{List}
use Prim.Native.Nat.{ℕ, ◌+◌, ◌*◌, ◌≤◌, ◌<◌}
use lib.ListN.{length}
use Rattle.homology.specs.Cells.{Cells}
use Rattle.bitset.specs.Rows.{row_at, RowKept}
use Rattle.rows.specs.Rows.{row_width, evidence_words, row_of}
use Rattle.rows.proofs.RowWords.{row_ends}

pub row_at_lem : {w : ℕ} (K : Cells) (ws : List ℕ) (b : ℕ) → w ≡ row_width K → row_of K ws b ≡ row_at w ws b
unfolding row_of
row_at_lem K ws b e = sym (ap (λ (u : ℕ). row_at u ws b) e)

pub row_room : (K : Cells) (ev : List ℕ) (c w : ℕ) → w ≡ row_width K → length ev ≡ evidence_words K → c < K.size → c * w + w ≤ length ev
row_room K ev c w e long inside = rw e (row_ends K ev long c inside)

module _ (K : Cells) {w m : ℕ} {x ws ws' : List ℕ} (e : w ≡ row_width K) (put : RowKept w m x ws ws') where
  pub kept_row : row_of K ws' m ≡ x
  kept_row = row_at_lem K ws' m e ∙ put.row

  pub kept_others : (b : ℕ) → (b ≡ m → ⊥) → row_of K ws' b ≡ row_of K ws b
  kept_others b apart = row_at_lem K ws' b e ∙ put.others b apart ∙ sym (row_at_lem K ws b e)
