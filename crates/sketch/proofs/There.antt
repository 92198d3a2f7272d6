-- A valid table, written and read: the file fits, and describes the table.
-- What carries it: each part of the written file stands at its place, and a p-cell is in body p alone. Assumes nothing.
use mathlib.Core.Path.{◌≡◌, refl, ap, sym, subst, ◌∙◌}
use mathlib.Core.Bool.{true, false}
use mathlib.Core.List.{List}
use mathlib.Core.Logic.{◌⊎◌, inl, inr, ⊎_elim}
use Prim.Native.Nat.{ℕ, suc, ◌≤◌, ◌<◌}
use native.Mathlib.Omega.{arith}
use Rattle.table.specs.Kind.{capacity, top, faces, free_mark, used, dimensions}
use Rattle.table.specs.Table.{cells_of, dim, face, Valid, is_cell, count_of}
use Rattle.table.proofs.Words.{table_by_records}
use Rattle.counting.specs.Counting.{how_many}
use Rattle.counting.proofs.Cases.{below_or_not, true_or_false}
use Rattle.counting.proofs.Counting.{how_many_most, how_many_strict, nth_below, nth_rising, rank_nth}
use Rattle.table.proofs.Places.{used_says}
use Rattle.sketch.specs.Written.{file_of}
use Rattle.sketch.specs.Read.{count_in, number_in, face_in, in_body, dim_in, described}
use Rattle.sketch.proofs.Parts.{Laid}
use Rattle.sketch.proofs.Laid.{layout_laid}
use Rattle.table.proofs.Dimensions.{cell_live, cell_dim, cell_says}
use Rattle.sketch.proofs.Cells.{cell_at, face_at, cell_at_is, file_is}
use Rattle.sketch.proofs.Sizes.{start_fits}
use Rattle.sketch.proofs.Fits.{Fits, Numbered}
use Rattle.sketch.proofs.Readings.{Small, reads_count, reads_number, reads_face, reads_fits}
use Rattle.sketch.proofs.Bodies.{body_one, dim_in_none, dim_in_number}
use Rattle.sketch.proofs.Described.{described_length, described_dim, described_record, described_unused}

module _ (t : List ℕ) (v : Valid t) where
  abbrev file : List ℕ
  file = file_of t

  written_laid : Laid (cells_of t) (count_of t) (cell_at t) (face_at t) file
  written_laid =
      subst (Laid (cells_of t) (count_of t) (cell_at t) (face_at t)) (sym (file_is t))
      (layout_laid (cells_of t) (count_of t) (cell_at t) (face_at t))

  count_most : (p : ℕ) → count_of t p ≤ cells_of t
  unfolding count_of
  count_most p = how_many_most (is_cell t p) (cells_of t)

  at_below : (p i : ℕ) → i < count_of t p → cell_at t p i < cells_of t
  unfolding count_of
  at_below p i l = nth_below (is_cell t p) (cells_of t) i l

  at_rising : (p i : ℕ) → suc i < count_of t p → cell_at t p i < cell_at t p (suc i)
  unfolding count_of
  at_rising p i l = nth_rising (is_cell t p) (cells_of t) i (suc i) (omega arith) l

  at_dim : (p i : ℕ) → i < count_of t p → dim t (cell_at t p i) ≡ p
  at_dim p i l = cell_dim t p (cell_at t p i) (cell_at_is t p i l)

  at_face : (p i j : ℕ) → i < count_of t p → j < used p → face_at t p i j < cells_of t
  at_face p i j l m =
      (v.face_live (cell_at t p i) j (cell_live t p (cell_at t p i) (cell_at_is t p i l))
      (subst (λ q. j < used q) (sym (at_dim p i l)) m)).inside

  written_small : Small (cells_of t) (count_of t) (cell_at t) (face_at t)
  written_small =
      let room : cells_of t ≤ capacity = v.sized.room in
      record {
        cells = omega arith;
        count = λ p h. omega (arith, count_most p);
        start = λ p h. omega (arith, start_fits t p v.sized);
        number = λ p i h l. omega (arith, at_below p i l);
        word = λ p i j h l m. omega (arith, at_face p i j l m);
      }

  pub there_fits : Fits (cells_of t) file
  there_fits = reads_fits (cells_of t) (count_of t) (cell_at t) (face_at t) file written_small written_laid

  there_count : (p : ℕ) → p < dimensions → count_in file p ≡ count_of t p
  there_count = reads_count (cells_of t) (count_of t) (cell_at t) (face_at t) file written_small written_laid

  there_number : (p i : ℕ) → p < dimensions → i < count_of t p → number_in file p i ≡ cell_at t p i
  there_number = reads_number (cells_of t) (count_of t) (cell_at t) (face_at t) file written_small written_laid

  there_face : (p i j : ℕ) → p < dimensions → i < count_of t p → j < used p → face_in file p i j ≡ face_at t p i j
  there_face = reads_face (cells_of t) (count_of t) (cell_at t) (face_at t) file written_small written_laid

  -- a cell in body p has dimension p
  body_dim : (p c : ℕ) → p < dimensions → in_body file p c ≡ true → is_cell t p c ≡ true
  body_dim p c h e =
      let w = body_one file p c e in
      let l : w.0 < count_of t p = omega (arith, there_count p h, w.1) in
      subst (λ x. is_cell t p x ≡ true) (sym (there_number p w.0 h l) ∙ w.2) (cell_at_is t p w.0 l)

  not_in_body : (p c : ℕ) → p < dimensions → (is_cell t p c ≡ true → ⊥) → in_body file p c ≡ false
  not_in_body p c h other = go (true_or_false (in_body file p c))
    where
      go : (in_body file p c ≡ true) ⊎ (in_body file p c ≡ false) → in_body file p c ≡ false
      go (inl e) = absurd (other (body_dim p c h e))
      go (inr e) = e

  pub there_numbered : Numbered (cells_of t) file
  there_numbered =
      record {
        below = λ p i h l. let m : i < count_of t p = omega (arith, there_count p h) in omega (arith, there_number p i h m, at_below p i m);
        rising = λ p i h l.
            let m : suc i < count_of t p = omega (arith, there_count p h) in
            omega (arith, there_number p i h (omega arith), there_number p (suc i) h m, at_rising p i m);
        alone = λ p i q h l k.
            let m : i < count_of t p = omega (arith, there_count p h) in
            not_in_body q (number_in file p i) (omega arith)
            (λ e. omega (arith, cell_dim t q (number_in file p i) e, ap (dim t) (there_number p i h m), at_dim p i m));
      }

  -- a live cell stands in the body of its dimension, at its rank
  module _ (c : ℕ) (h : c < cells_of t) (low : dim t c ≤ top) where
    abbrev rank : ℕ
    rank = how_many (is_cell t (dim t c)) c

    is_cell_lem : is_cell t (dim t c) c ≡ true
    is_cell_lem = cell_says t (dim t c) c (record { inside = h; low = low }) refl

    rank_below : rank < count_of t (dim t c)
    unfolding count_of
    rank_below = how_many_strict (is_cell t (dim t c)) c (cells_of t) h is_cell_lem

    rank_below_in : rank < count_in file (dim t c)
    rank_below_in = omega (arith, there_count (dim t c) (omega arith), rank_below)

    rank_at : cell_at t (dim t c) rank ≡ c
    rank_at = rank_nth (is_cell t (dim t c)) (cells_of t) c h is_cell_lem

    rank_number : number_in file (dim t c) rank ≡ c
    rank_number = there_number (dim t c) rank (omega arith) rank_below ∙ rank_at

    live_dim : dim_in file c ≡ dim t c
    live_dim =
        ap (dim_in file) (sym rank_number)
        ∙ dim_in_number file (cells_of t) there_numbered (dim t c) rank (omega arith) rank_below_in

    live_face : (j : ℕ) → j < used (dim t c) → face (described (cells_of t) file) c j ≡ face t c j
    live_face j l =
        ap (λ x. face (described (cells_of t) file) x j) (sym rank_number)
        ∙ described_record (cells_of t) file there_numbered (dim t c) rank j (omega arith) rank_below_in l
        ∙ there_face (dim t c) rank j (omega arith) rank_below l
        ∙ ap (λ x. face t x j) rank_at

  -- a free number is in no body
  free_dim : (c : ℕ) → dim t c ≡ free_mark → dim_in file c ≡ free_mark
  free_dim c e =
      dim_in_none file c (λ p h. not_in_body p c h (λ i. omega (arith, cell_dim t p c i)))

  same_dim : (c : ℕ) → c < cells_of t → dim_in file c ≡ dim t c
  same_dim c h = ⊎_elim (λ l. live_dim c h l) (λ e. free_dim c e ∙ sym e) (v.records c h)

  used_low : (c j : ℕ) → c < cells_of t → j < used (dim t c) → dim t c ≤ top
  used_low c j h l = (used_says (dim t c) j l).1

  same_face : (c j : ℕ) → c < cells_of t → j < faces → face (described (cells_of t) file) c j ≡ face t c j
  same_face c j h m =
      ⊎_elim (λ l. live_face c h (used_low c j h l) j l)
      (λ l. described_unused (cells_of t) file c (dim t c) j h (same_dim c h) l m ∙ sym (v.unused c j h l m))
      (below_or_not j (used (dim t c)))

  pub there_table : described (cells_of t) file ≡ t
  there_table =
      table_by_records (described (cells_of t) file) t (cells_of t) (described_length (cells_of t) file) v.sized.whole
      (λ c h. record { same_dim = described_dim (cells_of t) file c h ∙ same_dim c h; same_face = λ j m. same_face c j h m })
