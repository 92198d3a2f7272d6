-- The map that words hold, at a number inside and past it; and that words sent on hold the map with two classes joined.
-- What carries it: where the smaller number is kept for the larger, the words are sent as their identification sends them. Assumes nothing.
use mathlib.Core.Path.{◌≡◌, ap, ap₂, sym, subst, ◌∙◌, fun_ext}
use mathlib.Core.Bool.{Bool, true, false}
use mathlib.Core.List.{List}
use mathlib.Core.Logic.{⊎_elim}
use Prim.Native.Nat.{ℕ, ◌≤◌, ◌<◌, min, max}
use native.Mathlib.Omega.{arith}
use borrow.Author.Tests.{lt-ltb, le-ltb}
use lib.ListN.{get_or}
use lib.Dec.{eqb}
use Rattle.counting.specs.Counting.{pick}
use Rattle.counting.proofs.Cases.{below_or_not}
use Rattle.merge.specs.Rename.{identify}
use Rattle.merge.specs.Writing.{sent}
use Rattle.merge.proofs.Renaming.{identify_keeps}
use Rattle.merge.proofs.Identifying.{identify_itself}
use Rattle.weld.specs.Joins.{joined}
use Rattle.weld.specs.Maps.{map_of, Maps, Becomes, Sent}

pub map_inside : (n : ℕ) (k : List ℕ) (c : ℕ) → c < n → map_of n k c ≡ get_or k c 0
unfolding map_of
map_inside n k c h = ap (λ b. pick b (get_or k c 0) c) (lt-ltb c n h)

pub map_outside : (n : ℕ) (k : List ℕ) (c : ℕ) → n ≤ c → map_of n k c ≡ c
unfolding map_of
map_outside n k c h = ap (λ b. pick b (get_or k c 0) c) (le-ltb c n h)

-- where kept is below gone the map is that of their identification
sent_identify : (i j kept gone f : ℕ) → kept ≡ min i j → gone ≡ max i j → sent kept gone f ≡ identify i j f
unfolding identify
sent_identify i j kept gone f e g = ap₂ (λ a b. pick (eqb f b) a f) e g

module _ (n : ℕ) (k : List ℕ) (m : Maps n k) (x y : ℕ) (hx : x < n) (hy : y < n) where
  abbrev i : ℕ
  i = get_or k x 0

  abbrev j : ℕ
  j = get_or k y 0

  joined_at : (c : ℕ) → joined (map_of n k) x y c ≡ identify i j (map_of n k c)
  unfolding joined
  joined_at c = ap₂ (λ a b. identify a b (map_of n k c)) (map_inside n k x hx) (map_inside n k y hy)

  -- one class already
  pub join_same : i ≡ j → Becomes n (λ κ. joined κ x y) k k
  join_same e =
      record {
        maps = m;
        map = fun_ext (λ c. sym (joined_at c ∙ ap (λ z. identify z j (map_of n k c)) e ∙ identify_itself j (map_of n k c)));
      }

  -- two classes: the larger number is sent to the smaller
  module _ (kept gone : ℕ) (k' : List ℕ) (s : Sent kept gone n k k') (e : kept ≡ min i j) (g : gone ≡ max i j) where
    at_cell : (c : ℕ) → c < n → map_of n k' c ≡ joined (map_of n k) x y c
    at_cell c h =
        map_inside n k' c h
        ∙ s.done c h
        ∙ sent_identify i j kept gone (get_or k c 0) e g
        ∙ sym (joined_at c ∙ ap (identify i j) (map_inside n k c h))

    at_other : (c : ℕ) → n ≤ c → map_of n k' c ≡ joined (map_of n k) x y c
    at_other c h =
        let stays = identify_keeps i j c (omega (arith, m.small x hx)) (omega (arith, m.small y hy)) in
        map_outside n k' c h ∙ sym (joined_at c ∙ ap (identify i j) (map_outside n k c h) ∙ stays)

    smaller : (b : Bool) (f : ℕ) → f < n → pick b kept f < n
    smaller true f h = omega (arith, e, m.small x hx)
    smaller false f h = h

    pub join_sent : Becomes n (λ κ. joined κ x y) k k'
    join_sent =
        record {
          maps =
              record {
                size = s.size ∙ m.size;
                small = λ c h. subst (λ z. z < n) (sym (s.done c h)) (smaller (eqb (get_or k c 0) gone) (get_or k c 0) (m.small c h));
              };
          map = fun_ext (λ c. ⊎_elim (at_cell c) (at_other c) (below_or_not c n));
        }
