-- One join of two classes: what holds of the map so far holds after it. The invariant of the whole weld.
-- What carries it: the image of a cell is its old image, or that of x or of y. Assumes nothing.
use mathlib.Core.Path.{◌≡◌, refl, ap, sym, subst, ◌∙◌, fun_ext}
use mathlib.Core.List.{List}
use mathlib.Core.Logic.{⊎_elim}
use Prim.Native.Nat.{ℕ, ◌≤◌}
use native.Mathlib.Omega.{arith}
use Rattle.table.specs.Table.{dim, Live}
use Rattle.merge.specs.Rename.{identify}
use Rattle.merge.proofs.Renaming.{identify_once}
use Rattle.merge.proofs.Identifying.{identify_way, identify_first, identify_second, identify_itself, identify_down}
use Rattle.weld.specs.Weld.{Congruence}
use Rattle.weld.specs.Joins.{joined}
use Rattle.weld.specs.Maps.{Tied}

module _ (κ : ℕ → ℕ) (x y : ℕ) where
  -- what holds of the old image and of those of x and y holds of the new one
  by_way :
      (P : ℕ → Type 0) (c : ℕ) → P (κ c) → (κ c ≡ κ y → P (κ x)) → (κ c ≡ κ x → P (κ y)) → P (joined κ x y c)
  unfolding joined
  by_way P c old first second =
      ⊎_elim
      (λ e. subst P (sym e) old)
      (λ w. ⊎_elim (λ f. subst P (sym f.0) (first f.1)) (λ f. subst P (sym f.0) (second f.1)) w)
      (identify_way (κ x) (κ y) (κ c))

  pub joined_joins : joined κ x y x ≡ joined κ x y y
  unfolding joined
  joined_joins = identify_first (κ x) (κ y) ∙ sym (identify_second (κ x) (κ y))

  pub joined_coarser : (c d : ℕ) → κ c ≡ κ d → joined κ x y c ≡ joined κ x y d
  unfolding joined
  joined_coarser c d e = ap (identify (κ x) (κ y)) e

  joined_down : (c : ℕ) → κ c ≤ c → joined κ x y c ≤ c
  unfolding joined
  joined_down c h = omega (arith, identify_down (κ x) (κ y) (κ c))

  joined_once : ((c : ℕ) → κ (κ c) ≡ κ c) → (c : ℕ) → joined κ x y (joined κ x y c) ≡ joined κ x y c
  unfolding joined
  joined_once once c =
      ap (identify (κ x) (κ y)) (by_way (λ z. κ z ≡ z) c (once c) (λ e. once x) (λ e. once y))
      ∙ identify_once (κ x) (κ y) (κ c)

pub joined_itself : (κ : ℕ → ℕ) (x : ℕ) → joined κ x x ≡ κ
unfolding joined
joined_itself κ x = fun_ext (λ c. identify_itself (κ x) (κ c))

-- one join keeps cells at their level
pub joined_tied :
    (t : List ℕ) (κ : ℕ → ℕ) (x y : ℕ) → Live t x → Live t y → dim t x ≡ dim t y → Tied t κ → Tied t (joined κ x y)
joined_tied t κ x y v w d s =
    let e : dim t (κ x) ≡ dim t (κ y) = s.level x v ∙ d ∙ sym (s.level y w) in
    record {
      lives = λ c l. by_way κ x y (Live t) c (s.lives c l) (λ f. s.lives x v) (λ f. s.lives y w);
      level = λ c l.
          by_way κ x y (λ z. dim t z ≡ dim t c) c (s.level c l)
          (λ f. e ∙ sym (ap (dim t) f) ∙ s.level c l)
          (λ f. sym e ∙ sym (ap (dim t) f) ∙ s.level c l);
    }

-- x and y are together in every congruence that has a and b together
abbrev pub Meant : List ℕ → ℕ → ℕ → ℕ → ℕ → Type 1
Meant t a b x y = (R : ℕ → ℕ → Type 0) → Congruence t R → R a b → R x y

-- The invariant: the map is as a weld's, and joins nothing that need not be joined.
pub record Sound (t : List ℕ) (a b : ℕ) (κ : ℕ → ℕ) : Type 1 where
  pub tied : Tied t κ
  pub once : (c : ℕ) → κ (κ c) ≡ κ c
  pub down : (c : ℕ) → κ c ≤ c
  pub others : (c : ℕ) → (Live t c → ⊥) → κ c ≡ c
  pub meant : (c : ℕ) → Live t c → Meant t a b (κ c) c

-- What joins at dimension q leave: they only join, and only there.
pub record After (t : List ℕ) (q : ℕ) (κ μ : ℕ → ℕ) : Type 0 where
  pub coarser : (c d : ℕ) → κ c ≡ κ d → μ c ≡ μ d
  pub elsewhere : (c : ℕ) → Live t c → (dim t c ≡ q → ⊥) → μ c ≡ κ c

pub after_nothing : (t : List ℕ) (q : ℕ) (κ : ℕ → ℕ) → After t q κ κ
after_nothing t q κ = record { coarser = λ c d e. e; elsewhere = λ c l n. refl }

pub after_both : (t : List ℕ) (q : ℕ) (κ μ ν : ℕ → ℕ) → After t q κ μ → After t q μ ν → After t q κ ν
after_both t q κ μ ν f g =
    record {
      coarser = λ c d e. g.coarser c d (f.coarser c d e);
      elsewhere = λ c l n. g.elsewhere c l n ∙ f.elsewhere c l n;
    }

module _ (t : List ℕ) (a b : ℕ) (κ : ℕ → ℕ) (s : Sound t a b κ) (x y : ℕ) (v : Live t x) (w : Live t y) (d : dim t x ≡ dim t y) where
  pub joined_sound : Meant t a b x y → Sound t a b (joined κ x y)
  joined_sound m =
      record {
        tied = joined_tied t κ x y v w d s.tied;
        once = joined_once κ x y s.once;
        down = λ c. joined_down κ x y c (s.down c);
        others = λ c n.
            by_way κ x y (λ z. z ≡ c) c (s.others c n)
            (λ e. absurd (n (subst (Live t) (sym e ∙ s.others c n) (s.tied.lives y w))))
            (λ e. absurd (n (subst (Live t) (sym e ∙ s.others c n) (s.tied.lives x v))));
        meant = λ c l R g r.
            by_way κ x y (λ z. R z c) c (s.meant c l R g r)
            (λ e. g.through (κ x) (κ y) c (s.tied.lives x v) (s.tied.lives y w) l
            (together R g x y v w (m R g r) (s.meant x v R g r) (s.meant y w R g r))
            (subst (λ z. R z c) e (s.meant c l R g r)))
            (λ e. g.through (κ y) (κ x) c (s.tied.lives y w) (s.tied.lives x v) l
            (together R g y x w v (g.turned x y v w (m R g r)) (s.meant y w R g r) (s.meant x v R g r))
            (subst (λ z. R z c) e (s.meant c l R g r)));
      }
    where
      together :
          (R : ℕ → ℕ → Type 0) → Congruence t R → (x y : ℕ) → Live t x → Live t y → R x y → R (κ x) x → R (κ y) y → R (κ x) (κ y)
      together R g x y v w r i k =
          g.through (κ x) x (κ y) (s.tied.lives x v) v (s.tied.lives y w) i
          (g.through x y (κ y) v w (s.tied.lives y w) r (g.turned (κ y) y (s.tied.lives y w) w k))

  pub joined_after : (q : ℕ) → dim t x ≡ q → After t q κ (joined κ x y)
  joined_after q e =
      record {
        coarser = joined_coarser κ x y;
        elsewhere = λ c l n.
            by_way κ x y (λ z. z ≡ κ c) c refl
            (λ f. absurd (n (sym (s.tied.level c l) ∙ ap (dim t) f ∙ s.tied.level y w ∙ sym d ∙ e)))
            (λ f. absurd (n (sym (s.tied.level c l) ∙ ap (dim t) f ∙ s.tied.level x v ∙ e)));
      }
