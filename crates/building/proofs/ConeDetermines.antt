-- The published rule gives exactly one table: of two cones over the same marks, the apexes, the cones' numbers and the tables are
-- the same.
-- What carries it: the lowest free number is one; and by strong recursion on the marked cell, of two candidates for the next lowest
-- the smaller would be the cone of an earlier cell in both. Assumes nothing.
use mathlib.Core.Path.{◌≡◌, sym, ap, ◌∙◌}
use mathlib.Core.Bool.{true, false≢true}
use mathlib.Core.List.{List}
use Prim.Native.Nat.{ℕ, zero, suc, ◌<◌}
use native.Mathlib.Nat.{not-suc-le-zero}
use native.Mathlib.Omega.{arith}
use Rattle.bitset.specs.Bits.{member}
use Rattle.table.specs.Kind.{faces}
use Rattle.table.specs.Table.{cells_of, dim, face}
use Rattle.table.proofs.Words.{table_by_records}
use Rattle.table.proofs.Records.{live_says}
use Rattle.std.specs.declared.result.Result.TheVariants.{Ok}
use Prim.{tt}
use Rattle.cone.specs.Cone.{apex_of, cone_of, coned, cone_verdict}
use Rattle.building.specs.ConeRule.{IsCone}
use Rattle.cone.proofs.Acceptance.{Accepts, cone_accepted}
use Rattle.building.proofs.ConedIsCone.{coned_is_cone}
use Rattle.building.proofs.Sorts.{Sort, old, tip, over, rest, sort_of, Place, base, past, first, side, place_of}

-- two numbers of which neither is below the other
neither_below : (a b : ℕ) → (a < b → ⊥) → (b < a → ⊥) → a ≡ b
neither_below a b h k = omega arith

module _ (t marks : List ℕ) where
  lower_apex : {a a' : ℕ} {κ κ' : ℕ → ℕ} {u u' : List ℕ} → IsCone t marks a κ u → IsCone t marks a' κ' u' → a < a' → ⊥
  lower_apex {a} x y h = false≢true (sym (y.apex_lowest a h) ∙ x.apex_free)

  same_apex : {a a' : ℕ} {κ κ' : ℕ → ℕ} {u u' : List ℕ} → IsCone t marks a κ u → IsCone t marks a' κ' u' → a ≡ a'
  same_apex {a} {a'} x y = neither_below a a' (lower_apex x y) (lower_apex y x)

  -- where the cones below s agree, neither cone of s is below the other
  lower_cone : {a a' : ℕ} {κ κ' : ℕ → ℕ} {u u' : List ℕ} → IsCone t marks a κ u → IsCone t marks a' κ' u' → (s : ℕ) → member marks s ≡ true → ((b : ℕ) → b < s → member marks b ≡ true → κ b ≡ κ' b) → κ s < κ' s → ⊥
  lower_cone {a} {a'} {κ} {κ'} x y s m agree h =
      let e = y.cone_next s (κ s) m (x.cone_free s m) h (λ i. omega (arith, x.cone_not_apex s m, same_apex x y)) in
      omega (arith, e.is_cone, agree e.base e.before e.marked, x.cone_after s e.base m e.marked e.before)

  agree_below : {a a' : ℕ} {κ κ' : ℕ → ℕ} {u u' : List ℕ} → IsCone t marks a κ u → IsCone t marks a' κ' u' → (n s : ℕ) → s < n → member marks s ≡ true → κ s ≡ κ' s
  agree_below x y zero s h m = absurd (not-suc-le-zero h)
  agree_below {a} {a'} {κ} {κ'} x y (suc n) s h m =
      neither_below (κ s) (κ' s)
      (lower_cone x y s m (λ b l k. agree_below x y n b (omega arith) k))
      (lower_cone y x s m (λ b l k. sym (agree_below x y n b (omega arith) k)))

  same_cones : {a a' : ℕ} {κ κ' : ℕ → ℕ} {u u' : List ℕ} → IsCone t marks a κ u → IsCone t marks a' κ' u' → (s : ℕ) → member marks s ≡ true → κ s ≡ κ' s
  same_cones x y s m = agree_below x y (suc s) s (omega arith) m

module _ (t marks : List ℕ) (acc : Accepts t marks) (a a' : ℕ) (κ κ' : ℕ → ℕ) (u u' : List ℕ) (x : IsCone t marks a κ u) (y : IsCone t marks a' κ' u') where
  apexes : a ≡ a'
  apexes = same_apex t marks x y

  cones : (s : ℕ) → member marks s ≡ true → κ s ≡ κ' s
  cones = same_cones t marks x y

  dims_by : (c : ℕ) → Sort t marks a κ c → dim u c ≡ dim u' c
  dims_by c (old v) = x.old_dim c (live_says t c v) ∙ sym (y.old_dim c (live_says t c v))
  dims_by c (tip e) =
      ap (λ (i : ℕ). dim u i) e ∙ x.apex_dim ∙ sym (ap (λ (i : ℕ). dim u' i) (e ∙ apexes) ∙ y.apex_dim)
  dims_by c (over s m e) =
      ap (λ (i : ℕ). dim u i) e ∙ x.cone_dim s m
      ∙ sym (ap (λ (i : ℕ). dim u' i) (e ∙ cones s m) ∙ y.cone_dim s m)
  dims_by c (rest f other none) =
      x.rest_dim c f other none
      ∙ sym (y.rest_dim c f (λ e. other (e ∙ sym apexes)) (λ s m e. none s m (e ∙ sym (cones s m))))

  cone_faces : (s j : ℕ) → member marks s ≡ true → j < faces → Place (dim t s) j → face u (κ s) j ≡ face u' (κ' s) j
  cone_faces s j m h (base e) = rw e (x.cone_base s m ∙ sym (y.cone_base s m))
  cone_faces s j m h (past l) = x.cone_unused s j m l h ∙ sym (y.cone_unused s j m l h)
  cone_faces s j m h (first z e) = rw e (x.cone_tip s m z ∙ apexes ∙ sym (y.cone_tip s m z))
  cone_faces s j m h (side p l k) =
      x.cone_side s j m k ∙ cones (face t s j) (acc.closed s j m k) ∙ sym (y.cone_side s j m k)

  faces_by : (c j : ℕ) → j < faces → Sort t marks a κ c → face u c j ≡ face u' c j
  faces_by c j h (old v) = x.old_face c j (live_says t c v) h ∙ sym (y.old_face c j (live_says t c v) h)
  faces_by c j h (tip e) =
      ap (λ (i : ℕ). face u i j) e ∙ x.apex_faces j h
      ∙ sym (ap (λ (i : ℕ). face u' i j) (e ∙ apexes) ∙ y.apex_faces j h)
  faces_by c j h (over s m e) =
      ap (λ (i : ℕ). face u i j) e
      ∙ cone_faces s j m h (place_of (dim t s) j (acc.marked_live s m).low)
      ∙ sym (ap (λ (i : ℕ). face u' i j) (e ∙ cones s m))
  faces_by c j h (rest f other none) =
      x.rest_face c j f h other none
      ∙ sym (y.rest_face c j f h (λ e. other (e ∙ sym apexes)) (λ s m e. none s m (e ∙ sym (cones s m))))

  sorted : (c : ℕ) → c < cells_of t → Sort t marks a κ c
  sorted c h = sort_of t marks acc.marked_live a κ c h

  pub cone_determines : (a ≡ a') × ((s : ℕ) → member marks s ≡ true → κ s ≡ κ' s) × (u ≡ u')
  cone_determines = (
    apexes,
    cones,
    table_by_records u u' (cells_of t) (x.size ∙ acc.valid.sized.whole) (y.size ∙ acc.valid.sized.whole)
        (λ c h. record { same_dim = dims_by c (sorted c h); same_face = λ j l. faces_by c j l (sorted c h) }),
  )

-- so what an accepted call names and leaves is all that the published rule permits
pub rule_gives_coned : (t marks : List ℕ) → cone_verdict t marks ≡ Ok tt → (a : ℕ) (κ : ℕ → ℕ) (u : List ℕ) → IsCone t marks a κ u → (a ≡ apex_of t) × (u ≡ coned t marks)
rule_gives_coned t marks e a κ u x =
    let acc = cone_accepted t marks e in
    let d = cone_determines t marks acc a (apex_of t) κ (cone_of t marks) u (coned t marks) x (coned_is_cone t marks acc) in
    (d.0, d.2)
