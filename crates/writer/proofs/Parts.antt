-- The parts of a file as the writer puts them, piece by piece: the contents, a record, the whole file.
-- What carries it: the definitions of the parts. Assumes nothing.
use mathlib.Core.Path.{◌≡◌, refl, ap, ◌∙◌}
use mathlib.Core.List.{List, ◌++◌}
use Prim.Native.Nat.{ℕ, ◌≤◌}
use native.Mathlib.Omega.{arith}
use lib.ListN.{length, length-append}
use lib.Seq.{sets, length-sets}
use Rattle.table.specs.Kind.{used, dimensions}
use Rattle.table.specs.Table.{cells_of, dim, face, count_of}
use Rattle.sketch.specs.Form.{two, four, pieces, entry_size, contents_size, body_start}
use Rattle.sketch.specs.Written.{cell_bytes, body_of, contents_of, file_of}
use Rattle.sketch.proofs.Bytes.{length_two, length_four}
use Rattle.sketch.proofs.Sizes.{length_contents}
use Rattle.writer.specs.Put.{Put, entry}
use Rattle.writer.proofs.Pasting.{put_then, put_as}

pub length_entry : (count start : ℕ) → length (entry count start) ≡ entry_size
length_entry count start = omega (arith, length-append (two count) (four start), length_two count, length_four start)

module _ (t : List ℕ) where
  -- the entry of dimension p, and face j of cell c
  abbrev pub entry_of : ℕ → List ℕ
  entry_of p = entry (count_of t p) (body_start (count_of t) p)

  abbrev pub face_bytes : ℕ → ℕ → List ℕ
  face_bytes c j = two (face t c j)

  pub contents_parts : (n : ℕ) → n ≡ cells_of t → two n ++ pieces entry_of dimensions ≡ contents_of t
  unfolding contents_of
  contents_parts n e = ap (λ k. two k ++ pieces entry_of dimensions) e

  pub record_parts : (c p u : ℕ) → p ≡ dim t c → u ≡ used p → two c ++ pieces (face_bytes c) u ≡ cell_bytes t c
  unfolding cell_bytes
  record_parts c p u e i = rw (i, e)

  file_parts : contents_of t ++ pieces (body_of t) dimensions ≡ file_of t
  unfolding file_of
  file_parts = refl

  pub contents_fit_lem : (m : ℕ) → length (file_of t) ≤ m → length (contents_of t) ≤ m
  contents_fit_lem m h = omega (arith, ap length file_parts, length-append (contents_of t) (pieces (body_of t) dimensions))

  -- the bodies after the contents are the file
  pub file_put :
      {d d' d'' : List ℕ} {e s : ℕ} →
      Put d 0 (contents_of t) e d' → d'' ≡ sets d' contents_size (pieces (body_of t) dimensions) → s ≡ length (file_of t) → Put d 0 (file_of t) s d''
  file_put {d} {d'} {d''} {e} {s} a i l =
      let bodies : List ℕ = pieces (body_of t) dimensions in
      let at : contents_size ≡ e = omega (arith, a.ends, length_contents t) in
      put_as file_parts
      (put_then a
      (record {
        ends = omega (arith, a.ends, ap length file_parts, length-append (contents_of t) bodies);
        same = ap length i ∙ length-sets d' contents_size bodies;
        left = i ∙ ap (λ k. sets d' k bodies) at;
      }))
