-- What a merge leaves is the published identification, and the published rule is met by exactly one table.
-- What carries it: each line of the rule is a law of the renamed table; a table is determined by its records. Assumes nothing.
use mathlib.Core.Path.{◌≡◌, ap, sym, ◌∙◌}
use mathlib.Core.List.{List}
use mathlib.Core.Logic.{⊎_elim}
use Prim.Native.Nat.{ℕ, ◌<◌, max}
use native.Mathlib.Omega.{arith}
use Rattle.table.specs.Kind.{faces}
use Rattle.table.specs.Table.{cells_of, dim, face, Sized, Live, Valid}
use Rattle.counting.proofs.Cases.{same_or_not, same_or_other}
use Rattle.table.proofs.Words.{table_by_records}
use Rattle.merge.specs.Rename.{identify}
use Rattle.merge.specs.Merge.{IsIdentification, merged}
use Rattle.merge.proofs.Renaming.{length_renamed, dim_fixed, face_fixed, dim_moved, face_moved, identify_larger, identify_other}

-- the larger of two live cells is inside the table, and the map moves it
larger_inside : (t : List ℕ) (a b : ℕ) → Live t a → Live t b → max a b < cells_of t
larger_inside t a b v w = omega (arith, v.inside, w.inside)

larger_moves : (a b : ℕ) → (a ≡ b → ⊥) → identify a b (max a b) ≡ max a b → ⊥
larger_moves a b n e = n (omega (arith, identify_larger a b, e))

pub merged_is_identification :
    (t : List ℕ) (a b : ℕ) → Valid t → Live t a → Live t b → (a ≡ b → ⊥) → IsIdentification t a b (merged t a b)
unfolding merged
merged_is_identification t a b valid v w n =
    record {
      size = length_renamed ρ t ∙ sym valid.sized.whole;
      freed_dim = dim_moved ρ t (max a b) inside moves;
      freed_face = λ j l. face_moved ρ t (max a b) j inside l moves;
      kept_dim = λ c h m. dim_fixed ρ t c h (identify_other a b c m);
      other_face = λ c j h l m q. face_fixed ρ t c j h l (identify_other a b c m) ∙ identify_other a b (face t c j) q;
      named_face = λ c j h l m q. face_fixed ρ t c j h l (identify_other a b c m) ∙ ap ρ q ∙ identify_larger a b;
    }
  where
    ρ : ℕ → ℕ
    ρ = identify a b

    inside : max a b < cells_of t
    inside = larger_inside t a b v w

    moves : ρ (max a b) ≡ max a b → ⊥
    moves = larger_moves a b n

module _ (t : List ℕ) (a b : ℕ) (t' t'' : List ℕ) (s : Sized t) (i : IsIdentification t a b t') (k : IsIdentification t a b t'') where
  same_dims : (c : ℕ) → c < cells_of t → dim t' c ≡ dim t'' c
  same_dims c h =
      same_or_other (λ d. dim t' d ≡ dim t'' d) c (max a b)
      (i.freed_dim ∙ sym k.freed_dim)
      (λ n. i.kept_dim c h n ∙ sym (k.kept_dim c h n))

  same_faces_lem : (c j : ℕ) → c < cells_of t → j < faces → (c ≡ max a b → ⊥) → face t' c j ≡ face t'' c j
  same_faces_lem c j h l n =
      ⊎_elim
      (λ e. i.named_face c j h l n e ∙ sym (k.named_face c j h l n e))
      (λ m. i.other_face c j h l n m ∙ sym (k.other_face c j h l n m))
      (same_or_not (face t c j) (max a b))

  pub identification_determines : t' ≡ t''
  identification_determines =
      table_by_records t' t'' (cells_of t) (i.size ∙ s.whole) (k.size ∙ s.whole)
      (λ c h.
      record {
        same_dim = same_dims c h;
        same_face = λ j l.
            same_or_other (λ d. face t' d j ≡ face t'' d j) c (max a b)
            (i.freed_face j l ∙ sym (k.freed_face j l))
            (same_faces_lem c j h l);
      })
