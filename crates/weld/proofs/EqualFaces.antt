-- Where the face lists are equal the weld is the merge: what a merge accepts a weld accepts, with the same answer and the same table.
-- What carries it: the identification of two cells with the same faces is the weld's map, and there is one such map. Assumes nothing.
use mathlib.Core.Path.{◌≡◌, refl, ap, ap₂, sym, subst, ◌∙◌}
use mathlib.Core.List.{List}
use mathlib.Core.Logic.{◌⊎◌, inl, inr, ⊎_elim}
use Prim.Native.Nat.{ℕ, min}
use native.Mathlib.Omega.{arith}
use Rattle.table.specs.Table.{dim, face, Live}
use Rattle.table.proofs.Places.{used_fits}
use Rattle.calls.specs.Calls.{named, leaves}
use Rattle.std.specs.declared.result.Result.TheVariants.{Ok}
use Prim.{tt}
use Rattle.merge.specs.Rename.{identify}
use Rattle.merge.specs.Merge.{merge_verdict, merged, merge_answer, merge_leaves}
use Rattle.merge.proofs.Identifying.{identify_way, identify_first, identify_second, identify_down}
use Rattle.merge.proofs.Keeping.{Carries, identify_carries}
use Rattle.merge.proofs.Verdicts.{Mergeable, merge_accepted}
use Rattle.weld.specs.Weld.{Congruence, IsWeld}
use Rattle.weld.specs.Call.{weld_verdict, welded, weld_answer, weld_leaves}
use Rattle.weld.proofs.Answers.{joinable_accepts, welded_is_renamed}

-- two numbers with one image are one, or the two that were identified
one_image :
    (a b c d : ℕ) → identify a b c ≡ identify a b d →
    (c ≡ d) ⊎ (((c ≡ a) × (d ≡ b)) ⊎ ((c ≡ b) × (d ≡ a)))
one_image a b c d e = go (identify_way a b c) (identify_way a b d)
  where
    Way : ℕ → Type 0
    Way x = (identify a b x ≡ x) ⊎ (((identify a b x ≡ a) × (x ≡ b)) ⊎ ((identify a b x ≡ b) × (x ≡ a)))

    go : Way c → Way d → (c ≡ d) ⊎ (((c ≡ a) × (d ≡ b)) ⊎ ((c ≡ b) × (d ≡ a)))
    go (inl f) (inl g) = inl (sym f ∙ e ∙ g)
    go (inl f) (inr (inl g)) = inr (inl (sym f ∙ e ∙ g.0, g.1))
    go (inl f) (inr (inr g)) = inr (inr (sym f ∙ e ∙ g.0, g.1))
    go (inr (inl f)) (inl g) = inr (inr (f.1, sym g ∙ sym e ∙ f.0))
    go (inr (inl f)) (inr (inl g)) = inl (f.1 ∙ sym g.1)
    go (inr (inl f)) (inr (inr g)) = inr (inr (f.1, g.1))
    go (inr (inr f)) (inl g) = inr (inl (f.1, sym g ∙ sym e ∙ f.0))
    go (inr (inr f)) (inr (inl g)) = inr (inl (f.1, g.1))
    go (inr (inr f)) (inr (inr g)) = inl (f.1 ∙ sym g.1)

module _ (t : List ℕ) (a b : ℕ) (m : Mergeable t a b) where
  abbrev ρ : ℕ → ℕ
  ρ = identify a b

  carries : Carries ρ t
  carries = identify_carries t a b m.pair.valid m.pair.first m.pair.second m.pair.same_dim m.same_faces_lem

  -- what holds of a pair of one cell and of the two cells holds of every pair with one image
  by_image : (P : ℕ → ℕ → Type 0) → ((c : ℕ) → P c c) → P a b → P b a → (c d : ℕ) → ρ c ≡ ρ d → P c d
  by_image P same one other c d e =
      ⊎_elim
      (λ i. subst (P c) i (same c))
      (λ w. ⊎_elim
      (λ i. subst (λ z. P z d) (sym i.0) (subst (P a) (sym i.1) one))
      (λ i. subst (λ z. P z d) (sym i.0) (subst (P b) (sym i.1) other))
      w)
      (one_image a b c d e)

  classes : Congruence t (λ c d. ρ c ≡ ρ d)
  classes =
      record {
        itself = λ c l. refl;
        turned = λ c d l k r. sym r;
        through = λ c d e l k n r s. r ∙ s;
        level = λ c d l k r.
            by_image (λ x y. dim t x ≡ dim t y) (λ x. refl) m.pair.same_dim (sym m.pair.same_dim) c d r;
        carried = λ c d j l k r h.
            let f : face t a j ≡ face t b j = m.same_faces_lem j (omega (arith, used_fits (dim t c))) in
            by_image (λ x y. ρ (face t x j) ≡ ρ (face t y j)) (λ x. refl) (ap ρ f) (sym (ap ρ f)) c d r;
      }

  identify_is_weld : IsWeld t a b ρ
  identify_is_weld =
      record {
        congruence = classes;
        joins = identify_first a b ∙ sym (identify_second a b);
        smallest = λ R g r c d l k e.
            by_image (λ x y. Live t x → R x y) g.itself (λ n. r) (λ n. g.turned a b m.pair.first m.pair.second r) c d e l;
        lives = carries.lives;
        once = carries.once;
        down = identify_down a b;
        others = λ c n. stays c n (identify_way a b c);
      }
    where
      stays :
          (c : ℕ) → (Live t c → ⊥) → (ρ c ≡ c) ⊎ (((ρ c ≡ a) × (c ≡ b)) ⊎ ((ρ c ≡ b) × (c ≡ a))) → ρ c ≡ c
      stays c n (inl e) = e
      stays c n (inr (inl w)) = absurd (n (subst (Live t) (sym w.1) m.pair.second))
      stays c n (inr (inr w)) = absurd (n (subst (Live t) (sym w.1) m.pair.first))

-- where a merge is accepted
module _ (t : List ℕ) (a b : ℕ) (e : merge_verdict t a b ≡ Ok tt) where
  merge_accepted_weld_accepted : weld_verdict t a b ≡ Ok tt
  merge_accepted_weld_accepted = joinable_accepts t a b (merge_accepted t a b e).pair

  welded_is_merged : welded t a b ≡ merged t a b
  unfolding merged
  welded_is_merged =
      welded_is_renamed t a b merge_accepted_weld_accepted (identify a b) (identify_is_weld t a b (merge_accepted t a b e))

  pub weld_answers_as_merge : weld_answer t a b ≡ merge_answer t a b
  weld_answers_as_merge = ap (λ v. named v (min a b)) (merge_accepted_weld_accepted ∙ sym e)

  pub weld_leaves_as_merge : weld_leaves t a b ≡ merge_leaves t a b
  weld_leaves_as_merge = ap₂ (λ v u. leaves v u t) (merge_accepted_weld_accepted ∙ sym e) welded_is_merged
