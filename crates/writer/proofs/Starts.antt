-- The counts in an array, where the bodies start by them, and that no start passes the longest file.
-- What carries it: a start is a sum over the dimensions before it. Assumes nothing.
use mathlib.Core.Path.{◌≡◌, sym, ap, ◌∙◌}
use mathlib.Core.Logic.{⊎_elim}
use mathlib.Core.List.{List}
use Prim.Native.Nat.{ℕ, ◌+◌, ◌*◌, ◌≤◌, ◌<◌}
use native.Mathlib.Nat.{eq-or-lt_of_le}
use native.Mathlib.Omega.{arith}
use lib.ListN.{length, get_or, set, replicate, length-replicate, length-set}
use lib.Seq.{get_or-set_same, get_or-set_other}
use Rattle.table.specs.Table.{cells_of, Sized, is_cell, count_of}
use Rattle.counting.specs.Counting.{how_many, listed}
use Rattle.counting.proofs.Cases.{same_or_other}
use Rattle.counting.proofs.Listed.{get_or_listed}
use Rattle.table.specs.Kind.{dimensions}
use Rattle.sketch.specs.Form.{contents_size, record_size, body_start, longest}
use Rattle.sketch.specs.Written.{file_of}
use Rattle.counting.proofs.Totals.{total_cong}
use Rattle.sketch.proofs.Sizes.{body_start_zero, body_start_more, body_start_grows, length_file, start_fits}
use Rattle.writer.specs.Put.{Counted, Started, in_array}

-- the array of the live cells of each dimension
pub census_counts : (t counts : List ℕ) → counts ≡ listed dimensions (λ p. how_many (is_cell t p) (cells_of t)) → Counted t counts
unfolding count_of
census_counts t counts e =
    record { each = λ p l. ap (λ xs. get_or xs p 0) e ∙ get_or_listed dimensions (λ q. how_many (is_cell t q) (cells_of t)) p l }

starts_agree :
    (t counts : List ℕ) → Counted t counts → (p : ℕ) → p ≤ dimensions → body_start (in_array counts) p ≡ body_start (count_of t) p
unfolding body_start
starts_agree t counts h p l =
    ap (λ k. contents_size + k)
    (total_cong (λ q. get_or counts q 0 * record_size q) (λ q. count_of t q * record_size q) p
    (λ q m. ap (λ k. k * record_size q) (h.each q (omega arith))))

-- where the last start is in bounds, the next one is
pub start_more :
    (counts : ℕ → ℕ) (p k : ℕ) → p < k → body_start counts k ≤ longest → body_start counts p + counts p * record_size p ≤ longest
start_more counts p k l h = omega (arith, body_start_more counts p, body_start_grows counts (p + 1) k (omega arith))

pub array_fits : (t counts : List ℕ) → Sized t → Counted t counts → body_start (in_array counts) dimensions ≤ longest
array_fits t counts s h = omega (arith, starts_agree t counts h dimensions (omega arith), start_fits t dimensions s)

-- the starts by the array are those by the table, and the last of them is the file's length
pub table_starts : (t counts starts : List ℕ) → Counted t counts → Started (in_array counts) starts → Started (count_of t) starts
table_starts t counts starts h s = record { each_start = λ p l. s.each_start p l ∙ starts_agree t counts h p l }

pub last_start : (t starts : List ℕ) → Started (count_of t) starts → get_or starts dimensions 0 ≡ length (file_of t)
last_start t starts s = s.each_start dimensions (omega arith) ∙ sym (length_file t)

-- ---- the starts in an array, up to place p

pub record StartsTo (counts : ℕ → ℕ) (p : ℕ) (starts : List ℕ) : Type 0 where
  pub long : length starts ≡ dimensions + 1
  pub each : (q : ℕ) → q ≤ p → get_or starts q 0 ≡ body_start counts q

pub starts_first : (counts : ℕ → ℕ) → StartsTo counts 0 (replicate (dimensions + 1) contents_size)
starts_first counts =
    record {
      long = length-replicate (dimensions + 1) contents_size;
      each = λ q h.
          let e : q ≡ 0 = omega arith in
          ap (λ k. get_or (replicate (dimensions + 1) contents_size) k 0) e ∙ sym (body_start_zero counts) ∙ ap (body_start counts) (sym e);
    }

module _ {counts : ℕ → ℕ} {p : ℕ} {starts : List ℕ} (k : StartsTo counts p starts) where
  pub starts_more : (s : ℕ) → p < dimensions → s ≡ get_or starts p 0 + counts p * record_size p → StartsTo counts (p + 1) (set starts (p + 1) s)
  starts_more s l e =
      record {
        long = length-set starts (p + 1) s ∙ k.long;
        each = λ q h.
            same_or_other (λ r. get_or (set starts (p + 1) s) r 0 ≡ body_start counts r) q (p + 1)
            (get_or-set_same starts (p + 1) s 0 (omega (arith, k.long)) ∙ omega (arith, k.each p (omega arith), body_start_more counts p))
            (λ ne. get_or-set_other starts (p + 1) q s 0 ne ∙ k.each q (not_last q h ne));
      }
    where
      not_last : (q : ℕ) → q ≤ p + 1 → (q ≡ p + 1 → ⊥) → q ≤ p
      not_last q h ne = ⊎_elim (λ i. absurd (ne i)) (λ i. omega arith) (eq-or-lt_of_le h)

  pub starts_all : dimensions ≤ p → Started counts starts
  starts_all l = record { each_start = λ q h. k.each q (omega arith) }
