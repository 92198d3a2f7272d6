-- A written file is a list of bytes: every number in it is below 256.
-- What carries it: it is put together from numbers in 2 bytes and in 4. Assumes nothing.
use mathlib.Core.Path.{◌≡◌, sym, ap, subst, ◌∙◌}
use mathlib.Core.Bool.{Bool, true, false}
use mathlib.Core.List.{List, [], ◌++◌}
use mathlib.Core.Logic.{⊎_elim}
use Prim.Native.Nat.{ℕ, zero, suc, ◌+◌, ◌-◌, ◌≤◌, ◌<◌}
use native.Mathlib.Omega.{arith}
use lib.ListN.{length, get_or, get_or-append}
use lib.Seq.{get_or-append-add}
use Rattle.counting.specs.Counting.{pick}
use Rattle.table.specs.Kind.{used, dimensions}
use Rattle.table.specs.Table.{cells_of, dim, face, is_cell, count_of}
use Rattle.counting.proofs.Cases.{below_or_not}
use Rattle.sketch.specs.Form.{two, four, pieces, body_start}
use Rattle.sketch.specs.Written.{cell_bytes, body_of, contents_of}
use Rattle.sketch.proofs.Bytes.{two_small, four_small}
use Rattle.sketch.proofs.Pieces.{pieces_zero, pieces_suc}

abbrev pub AreBytes : List ℕ → Type 0
AreBytes f = (k : ℕ) → get_or f k 0 < 256

append_bytes : (a b : List ℕ) → AreBytes a → AreBytes b → AreBytes (a ++ b)
append_bytes a b h l k = ⊎_elim left right (below_or_not k (length a))
  where
    left : k < length a → get_or (a ++ b) k 0 < 256
    left m = rw (get_or-append a b 0 k m) (h k)

    right : length a ≤ k → get_or (a ++ b) k 0 < 256
    right m =
        let e : length a + (k - length a) ≡ k = omega arith in
        subst (λ x. x < 256) (sym (get_or-append-add a b (k - length a) 0) ∙ ap (λ x. get_or (a ++ b) x 0) e) (l (k - length a))

pieces_bytes : (g : ℕ → List ℕ) (n : ℕ) → ((k : ℕ) → AreBytes (g k)) → AreBytes (pieces g n)
pieces_bytes g zero h = subst AreBytes (sym (pieces_zero g)) (λ k. omega arith)
pieces_bytes g (suc n) h = subst AreBytes (sym (pieces_suc g n)) (append_bytes (pieces g n) (g n) (pieces_bytes g n h) (h n))

pick_bytes : (b : Bool) (a : List ℕ) → AreBytes a → AreBytes (pick b a [])
pick_bytes true a h = h
pick_bytes false a h = λ k. omega arith

module _ (t : List ℕ) where
  cell_bytes_lem : (c : ℕ) → AreBytes (cell_bytes t c)
  unfolding cell_bytes
  cell_bytes_lem c =
      append_bytes (two c) (pieces (λ j. two (face t c j)) (used (dim t c))) (two_small c)
      (pieces_bytes (λ j. two (face t c j)) (used (dim t c)) (λ j. two_small (face t c j)))

  body_bytes : (p : ℕ) → AreBytes (body_of t p)
  unfolding body_of
  body_bytes p =
      pieces_bytes (λ c. pick (is_cell t p c) (cell_bytes t c) []) (cells_of t) (λ c. pick_bytes (is_cell t p c) (cell_bytes t c) (cell_bytes_lem c))

  contents_bytes : AreBytes (contents_of t)
  unfolding contents_of
  contents_bytes =
      append_bytes (two (cells_of t)) (pieces entry dimensions) (two_small (cells_of t))
      (pieces_bytes entry dimensions
      (λ p. append_bytes (two (count_of t p)) (four (body_start (count_of t) p)) (two_small (count_of t p)) (four_small (body_start (count_of t) p))))
    where
      entry : ℕ → List ℕ
      entry p = two (count_of t p) ++ four (body_start (count_of t) p)
