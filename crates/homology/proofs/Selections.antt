-- Lists of chains and selections of their places: what holds of every chain of a list, and how a selection's sum changes when one
-- chain is added to others to clear a cell. What carries it: clearing a cell is linear, so it goes through a sum.
-- Assumes nothing.
use mathlib.Core.Path.{◌≡◌, refl, sym, ap, ap₂, ◌∙◌}
use mathlib.Core.Bool.{Bool, true, false, ◌&&◌, ◌||◌}
use mathlib.Core.List.{List, [], ◌∷◌, map}
use Prim.Native.Nat.{ℕ, zero, suc, ◌≤◌, ◌<◌}
use native.Mathlib.Omega.{arith}
use lib.ListN.{length, get_or, length-map}
use Rattle.homology.specs.Cells.{◌⊻◌}
use Rattle.homology.specs.Holes.{Chain, none, sum, picked, chosen}
use Rattle.homology.proofs.Marks.{by_mark, ⊻-swap, ⊻-comm, &&-⊻, &&-assoc, ⊻-&&, &&-off}
use Rattle.homology.proofs.Tops.{Empty}

abbrev pub Every : (Chain → Type 0) → List Chain → Type 0
Every P [] = Unit {0}
Every P (x ∷ xs) = P x × Every P xs

pub every_at : (P : Chain → Type 0) (xs : List Chain) → Every P xs → (i : ℕ) → i < length xs → P (get_or xs i none)
every_at P [] h i l = absurd (omega arith)
every_at P (x ∷ xs) h zero l = h.0
every_at P (x ∷ xs) h (suc i) l = every_at P xs h.1 i (omega arith)

pub at_every : (P : Chain → Type 0) (xs : List Chain) → ((i : ℕ) → i < length xs → P (get_or xs i none)) → Every P xs
at_every P [] h = tt
at_every P (x ∷ xs) h = (h 0 (omega arith), at_every P xs (λ i l. h (suc i) (omega arith)))

pub every_map : (P Q : Chain → Type 0) (f : Chain → Chain) → ((x : Chain) → P x → Q (f x)) → (xs : List Chain) → Every P xs → Every Q (map f xs)
every_map P Q f h [] a = tt
every_map P Q f h (x ∷ xs) a = (h x a.0, every_map P Q f h xs a.1)

pub every_so : (P Q : Chain → Type 0) → ((x : Chain) → P x → Q x) → (xs : List Chain) → Every P xs → Every Q xs
every_so P Q h [] a = tt
every_so P Q h (x ∷ xs) a = (h x a.0, every_so P Q h xs a.1)

pub picked_empty : (s : List Bool) (xs : List Chain) → Every Empty xs → Empty (picked s xs)
unfolding picked
picked_empty [] xs h c = refl
picked_empty (b ∷ s) [] h c = refl
picked_empty (b ∷ s) (x ∷ xs) h c = ap₂ ◌⊻◌ (ap (λ a. b && a) (h.0 c) ∙ &&-off b) (picked_empty s xs h.1 c)

-- x with z added where x has m
abbrev pub cleared : ℕ → Chain → Chain → Chain
cleared m z x = sum x (λ c. x m && z c)

pub cleared_off : (m : ℕ) (z x : Chain) → z m ≡ true → cleared m z x m ≡ false
cleared_off m z x e = rw e (on (x m))
  where
    on : (b : Bool) → b ⊻ (b && true) ≡ false
    on true = refl
    on false = refl

pub picked_cleared : (m : ℕ) (z : Chain) (s : List Bool) (xs : List Chain) (c : ℕ) → picked s (map (cleared m z) xs) c ≡ cleared m z (picked s xs) c
unfolding picked
picked_cleared m z [] xs c = refl
picked_cleared m z (b ∷ s) [] c = refl
picked_cleared m z (b ∷ s) (x ∷ xs) c =
    ap₂ ◌⊻◌ (&&-⊻ b (x c) (x m && z c)) (picked_cleared m z s xs c)
    ∙ ⊻-swap (b && x c) (b && (x m && z c)) (picked s xs c) (picked s xs m && z c)
    ∙ ap (λ a. ((b && x c) ⊻ picked s xs c) ⊻ a)
    (ap (λ a. a ⊻ (picked s xs m && z c)) (sym (&&-assoc b (x m) (z c))) ∙ sym (⊻-&& (b && x m) (picked s xs m) (z c)))

-- ys is xs without its first chain that has m, which is added to the later ones that have m
pub data Pivoted (m : ℕ) : List Chain → List Chain → Type 0 where
  nowhere : Pivoted m [] []
  here : {x : Chain} {xs : List Chain} → x m ≡ true → Pivoted m (x ∷ xs) (map (cleared m x) xs)
  later : {x : Chain} {xs ys : List Chain} → x m ≡ false → Pivoted m xs ys → Pivoted m (x ∷ xs) (x ∷ ys)

pub pivoted_length : {m : ℕ} {xs ys : List Chain} → Pivoted m xs ys → length xs ≤ suc (length ys)
pivoted_length nowhere = omega arith
pivoted_length {m} (here {x = x} {xs = xs} e) = omega (arith, length-map xs (cleared m x))
pivoted_length (later e h) = omega (arith, pivoted_length h)

pub pivot : (m : ℕ) (xs : List Chain) → (ys : List Chain) × Pivoted m xs ys
pivot m [] = ([], nowhere)
pivot m (x ∷ xs) = let r = pivot m xs in by_mark (x m) (λ e. (map (cleared m x) xs, here e)) (λ e. (x ∷ r.0, later e r.1))

pub pivoted_every : (P Q : Chain → Type 0) {m : ℕ} {xs ys : List Chain}
    → ((z x : Chain) → P z → z m ≡ true → P x → Q (cleared m z x)) → ((x : Chain) → P x → x m ≡ false → Q x)
    → Pivoted m xs ys → Every P xs → Every Q ys
pivoted_every P Q f g nowhere a = tt
pivoted_every P Q {m} f g (here {x = x} {xs = xs} e) a = every_map P Q (cleared m x) (λ y b. f x y a.0 e b) xs a.1
pivoted_every P Q f g (later {x = x} e h) a = (g x a.0 e, pivoted_every P Q f g h a.1)

-- a non-empty selection of ys is, as a sum, a non-empty selection of xs
pub pivoted_picked : {m : ℕ} {xs ys : List Chain} → Pivoted m xs ys → (s : List Bool) → length s ≡ length ys
    → (r : List Bool) × (length r ≡ length xs) × (chosen s ≡ true → chosen r ≡ true) × ((c : ℕ) → picked s ys c ≡ picked r xs c)
unfolding picked chosen
pivoted_picked nowhere s l = (s, l, λ h. h, λ c. refl)
pivoted_picked {m} (here {x = x} {xs = xs} e) s l = (
  picked s xs m ∷ s,
  ap suc (l ∙ length-map xs (cleared m x)),
  still (picked s xs m),
  λ c. picked_cleared m x s xs c ∙ ⊻-comm (picked s xs c) (picked s xs m && x c),
)
  where
    still : (b : Bool) → chosen s ≡ true → b || chosen s ≡ true
    still true h = refl
    still false h = h
pivoted_picked (later e h) [] l = absurd (omega arith)
pivoted_picked (later {x = x} {ys = ys} e h) (b ∷ s) l =
    let k : length s ≡ length ys = omega arith in
    let r = pivoted_picked h s k in
    (b ∷ r.0, ap suc r.1, still b r.2, λ c. ap (λ a. (b && x c) ⊻ a) (r.3 c))
  where
    still : {a d : Bool} (b : Bool) → (a ≡ true → d ≡ true) → b || a ≡ true → b || d ≡ true
    still true f g = refl
    still false f g = f g
