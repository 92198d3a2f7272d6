-- A second compaction changes nothing. What carries it: the table is its own compaction, and there is one. Assumes nothing.
use mathlib.Core.Path.{◌≡◌, refl, ap, sym, subst, ◌∙◌}
use mathlib.Core.List.{List}
use mathlib.Core.Logic.{inl, inr, ⊎_elim}
use Prim.Native.Nat.{ℕ, ◌<◌}
use native.Mathlib.Omega.{arith}
use Rattle.counting.specs.Counting.{pick}
use Rattle.table.specs.Kind.{free_mark, used}
use Rattle.table.specs.Table.{dim, face, Live, live, Valid}
use Rattle.counting.proofs.Cases.{below_or_not, not_true_false}
use Rattle.table.proofs.Records.{live_true, live_says}
use Rattle.table.proofs.Places.{used_says}
use Rattle.compaction.specs.Compaction.{Precedes, Taken, IsNumbering, IsCompaction}
use Rattle.compaction.specs.Made.{new_number, compacted}
use Rattle.compaction.proofs.Determines.{one_list, one_compaction, compacted_is_compaction}
use Rattle.compaction.proofs.Kept.{live_there, live_from, compaction_valid}

-- each live cell keeps its number
abbrev pub stays : List ℕ → ℕ → ℕ
stays t c = pick (live t c) c free_mark

stays_live : (t : List ℕ) (c : ℕ) → Live t c → stays t c ≡ c
stays_live t c l = ap (λ b. pick b c free_mark) (live_says t c l)

stays_free : (t : List ℕ) (c : ℕ) → (Live t c → ⊥) → stays t c ≡ free_mark
stays_free t c n = ap (λ b. pick b c free_mark) (not_true_false (live t c) (λ e. n (live_true t c e)))

-- A valid table whose cells are numbered in their order without gaps is its own compaction.
module _ (t : List ℕ) (valid : Valid t) (n : IsNumbering t (stays t)) where
  not_live : (i : ℕ) → (Taken t (stays t) i → ⊥) → Live t i → ⊥
  not_live i m l = m (record { cell = i; living = l; number = stays_live t i l })

  own_compaction : IsCompaction t (stays t) t
  own_compaction =
      record {
        numbering = n;
        size = refl;
        kept_dim = λ c l. ap (dim t) (stays_live t c l);
        kept_face = λ c j l h. ap (λ z. face t z j) (stays_live t c l) ∙ sym (stays_live t (face t c j) (valid.face_live c j l h));
        unused = λ c j l k h. ap (λ z. face t z j) (stays_live t c l) ∙ valid.unused c j l.inside k h;
        rest_dim = λ i h m.
            ⊎_elim (λ k. absurd (not_live i m (record { inside = h; low = k }))) (λ e. e) (valid.records i h);
        rest_face = λ i j h l m.
            ⊎_elim
            (λ k. absurd (not_live i m (record { inside = h; low = (used_says (dim t i) j k).1 })))
            (λ k. valid.unused i j h k l)
            (below_or_not j (used (dim t i)));
      }

-- What a compaction leaves is such a table.
module _ (t : List ℕ) (ν : ℕ → ℕ) (u : List ℕ) (valid : Valid t) (x : IsCompaction t ν u) where
  in_order : (i k : ℕ) → Live u i → Live u k → Precedes u i k → i < k
  in_order i k v w (inr h) = h.1
  in_order i k v w (inl h) =
      let a = live_from t ν u valid x i v in
      let b = live_from t ν u valid x k w in
      let da : dim u i ≡ dim t a.cell = ap (dim u) (sym a.number) ∙ x.kept_dim a.cell a.living in
      let db : dim u k ≡ dim t b.cell = ap (dim u) (sym b.number) ∙ x.kept_dim b.cell b.living in
      omega (arith, a.number, b.number, x.numbering.order a.cell b.cell a.living b.living (inl (omega (arith, da, db))))

  lower_live : (i m : ℕ) → Live u i → m < i → Live u m
  lower_live i m v h =
      let a = live_from t ν u valid x i v in
      let b = x.numbering.gapless a.cell m a.living (omega (arith, a.number)) in
      subst (Live u) b.number (live_there t ν u valid x b.cell b.living)

  left_numbered : IsNumbering u (stays u)
  left_numbered =
      record {
        free = stays_free u;
        order = λ i k v w h. omega (arith, stays_live u i v, stays_live u k w, in_order i k v w h);
        gapless = λ i m v h.
            let l : Live u m = lower_live i m v (omega (arith, stays_live u i v)) in
            record { cell = m; living = l; number = stays_live u m l };
      }

  pub second_changes_nothing : compacted u ≡ u
  second_changes_nothing =
      let v = compaction_valid t ν u valid x in
      one_compaction u (new_number u) (stays u) (compacted u) u (compacted_is_compaction u v) (own_compaction u v left_numbered) v.sized

  pub second_list : (c : ℕ) → new_number u c ≡ stays u c
  second_list =
      let v = compaction_valid t ν u valid x in
      one_list u (new_number u) (stays u) (compacted u) u (compacted_is_compaction u v) (own_compaction u v left_numbered)
