-- The table that a file describes: its size, its dimensions and its faces.
-- What carries it: the laws of a table that is written down record by record. Assumes nothing.
use mathlib.Core.Path.{◌≡◌, ap, sym, ◌∙◌}
use mathlib.Core.Bool.{Bool, true, false}
use mathlib.Core.List.{List}
use mathlib.Core.Logic.{⊎_elim}
use Prim.Native.Nat.{ℕ, ◌*◌, ◌≤◌, ◌<◌}
use native.Mathlib.Omega.{arith}
use borrow.Author.Tests.{lt-ltb, le-ltb}
use lib.ListN.{length, get_or}
use lib.Dec.{ltb}
use Rattle.table.specs.Kind.{capacity, width, faces, free_mark, used, dimensions}
use Rattle.table.specs.Table.{cells_of, dim, face, Sized}
use Rattle.table.specs.Records.{record_at, Alike}
use Rattle.table.proofs.Words.{length_table_of, cells_of_table_of, record_table_of}
use Rattle.counting.specs.Counting.{how_many, nth, some_has, pick}
use Rattle.counting.proofs.Cases.{below_or_not}
use Rattle.counting.proofs.Counting.{nth_below, nth_none}
use Rattle.table.proofs.Places.{used_fits}
use Rattle.sketch.specs.Read.{count_in, number_in, face_in, in_body, dim_in, place_in, cell_in, described}
use Rattle.sketch.proofs.Bytes.{two_at_small}
use Rattle.sketch.proofs.Fits.{Numbered}
use Rattle.sketch.proofs.Bodies.{dim_in_number, place_in_number}

module _ (n : ℕ) (f : List ℕ) where
  pub described_length : length (described n f) ≡ n * width
  unfolding described
  described_length = length_table_of n (cell_in f)

  pub described_cells : cells_of (described n f) ≡ n
  unfolding described
  described_cells = cells_of_table_of n (cell_in f)

  pub described_alike : (c : ℕ) → c < n → Alike (record_at (described n f) c) (cell_in f c)
  unfolding described
  described_alike c h = record_table_of n (cell_in f) c h

  pub described_dim : (c : ℕ) → c < n → dim (described n f) c ≡ dim_in f c
  described_dim c h = (described_alike c h).same_dim

  described_face : (c j : ℕ) → c < n → j < faces → face (described n f) c j ≡ (cell_in f c).face j
  described_face c j h l = (described_alike c h).same_face j l

  -- a used face and an unused one, of a cell of which the dimension is known
  described_used : (c p j : ℕ) → c < n → dim_in f c ≡ p → j < used p → face (described n f) c j ≡ face_in f p (place_in f p c) j
  described_used c p j h e l =
      described_face c j h (omega (arith, used_fits p))
      ∙ ap (λ q. pick (ltb j (used q)) (face_in f q (place_in f q c) j) free_mark) e
      ∙ ap (λ b. pick b (face_in f p (place_in f p c) j) free_mark) (lt-ltb j (used p) l)

  pub described_unused : (c p j : ℕ) → c < n → dim_in f c ≡ p → used p ≤ j → j < faces → face (described n f) c j ≡ free_mark
  described_unused c p j h e l m =
      described_face c j h m
      ∙ ap (λ q. pick (ltb j (used q)) (face_in f q (place_in f q c) j) free_mark) e
      ∙ ap (λ b. pick b (face_in f p (place_in f p c) j) free_mark) (le-ltb j (used p) l)

  -- the i-th cell of body p has the faces that stand in its record
  pub described_record : Numbered n f → (p i j : ℕ) → p < dimensions → i < count_in f p → j < used p → face (described n f) (number_in f p i) j ≡ face_in f p i j
  described_record w p i j h l m =
      described_used (number_in f p i) p j (w.below p i h l) (dim_in_number f n w p i h l) m
      ∙ ap (λ k. face_in f p k j) (place_in_number f n w p i h l)

  pub described_sized : 1 ≤ n → n ≤ capacity → Sized (described n f)
  described_sized h l =
      let e : cells_of (described n f) ≡ n = described_cells in
      record {
        whole = described_length ∙ ap (λ m. m * width) (sym e);
        some = omega arith;
        room = omega arith;
      }

-- every word of a described table has room in 16 bits
module _ (n : ℕ) (f : List ℕ) (bytes : (k : ℕ) → get_or f k 0 < 256) where
  face_small : (p i j : ℕ) → face_in f p i j < 65536
  unfolding face_in
  face_small p i j = two_at_small f _ (bytes _) (bytes _)

  dim_small : (c : ℕ) → dim_in f c < 65536
  unfolding dim_in
  dim_small c = go (some_has (λ p. in_body f p c) dimensions)
    where
      least : nth (λ p. in_body f p c) dimensions 0 ≤ dimensions
      least =
          ⊎_elim (λ l. omega (arith, nth_below (λ p. in_body f p c) dimensions 0 l)) (λ l. omega (arith, nth_none (λ p. in_body f p c) dimensions 0 l))
          (below_or_not 0 (how_many (λ p. in_body f p c) dimensions))

      go : (b : Bool) → pick b (nth (λ p. in_body f p c) dimensions 0) free_mark < 65536
      go true = omega (arith, least)
      go false = omega arith

  pick_small : (b : Bool) (x y : ℕ) → x < 65536 → y < 65536 → pick b x y < 65536
  pick_small true x y h l = h
  pick_small false x y h l = l

  face_of_small : (c j : ℕ) → (cell_in f c).face j < 65536
  face_of_small c j =
      pick_small (ltb j (used (dim_in f c))) (face_in f (dim_in f c) (place_in f (dim_in f c) c) j) free_mark
      (face_small (dim_in f c) (place_in f (dim_in f c) c) j)
      (omega arith)
