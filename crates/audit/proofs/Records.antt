-- A cell as both passes read it, and what the test of its record finds, over the dimension p that is read once: sound, or why not.
-- What carries it: the two parts of the test, each read as the fact that it tests. Assumes nothing.
use mathlib.Core.Path.{◌≡◌, ap, sym, subst, ◌∙◌}
use mathlib.Core.Bool.{Bool, true, false}
use mathlib.Core.List.{List}
use mathlib.Core.Logic.{◌⊎◌, ◌≢◌, ⊎_elim}
use Prim.Native.Nat.{ℕ, ◌+◌, ◌-◌, ◌≤◌, ◌<◌}
use native.Mathlib.Omega.{arith}
use lib.ListN.{length, get_or, take, drop}
use Rattle.std.specs.Bool.{MatchBool}
use Rattle.std.specs.List.{AllWithin, HoldsAt}
use Rattle.std.proofs.lemmas.List.{get_or-take, get_or-drop, length-drop, length-take-le}
use Rattle.counting.proofs.Cases.{not_true_false}
use Rattle.table.specs.Kind.{top, faces, free_mark, used}
use Rattle.table.specs.Table.{cells_of, dim, face, faces_of}
use Rattle.audit.specs.Audit.{record_sound, law_places}
use Rattle.table.proofs.Records.{faces_at}
use Rattle.audit.proofs.Valid.{record_kind, record_unused, record_says}

module _ (t : List ℕ) (c p : ℕ) (e : p ≡ dim t c) where
  pub no_kind : top < p → (p ≡ free_mark → ⊥) → record_sound t c ≡ false
  no_kind h g =
      not_true_false (record_sound t c) (λ s. ⊎_elim (λ l. omega arith) (λ f. g (e ∙ f)) (record_kind t c s))

  not_unused : (j : ℕ) → used p ≤ j → j < faces → (face t c j ≡ free_mark → ⊥) → record_sound t c ≡ false
  not_unused j h l g = not_true_false (record_sound t c) (λ s. g (record_unused t c s j (rw e at h) l))

  pub all_unused : (p ≤ top) ⊎ (p ≡ free_mark) → ((j : ℕ) → used p ≤ j → j < faces → face t c j ≡ free_mark) → record_sound t c ≡ true
  all_unused k h = record_says t c (rw e at k) (rw e at h)

-- What a search through the unused face words of record c says of it. They are those of fs behind the u used ones.
module _ (t : List ℕ) (c p u : ℕ) (fs : List ℕ) (e : p ≡ dim t c) (by_value : fs ≡ faces_of t c) (used_is : u ≡ used p) (few : u ≤ faces) where
  abbrev unused : List ℕ
  unused = take (faces - u) (drop u fs)

  many : length unused ≡ faces - u
  many = let n : length (drop u fs) ≡ faces - u = length-drop u fs ∙ ap (λ m. m - u) (ap length by_value) in length-take-le _ _ (omega (arith, n))

  word : (k : ℕ) → k < faces - u → get_or unused k 0 ≡ face t c (u + k)
  word k h = get_or-take (faces - u) (drop u fs) k 0 h ∙ get_or-drop u fs k 0 ∙ faces_at t c fs by_value (u + k) (omega (arith, few))

  pub searched : (r : Bool) → (p ≤ top) ⊎ (p ≡ free_mark) → MatchBool r (AllWithin (λ x. x ≡ free_mark) unused 0 (length unused)) ((k : ℕ) × (k < length unused) × HoldsAt (λ x. x ≢ free_mark) unused k) → r ≡ record_sound t c
  searched true kind q = sym (all_unused t c p e kind free) where
    free : (j : ℕ) → used p ≤ j → j < faces → face t c j ≡ free_mark
    free j h l =
        let inside : j - u < faces - u = omega (arith, used_is) in
        let there : u + (j - u) ≡ j = omega (arith, used_is) in
        subst (λ i. face t c i ≡ free_mark) there (sym (word (j - u) inside) ∙ q (j - u) 0 (omega arith) (omega (arith, many)))
  searched false kind (k, inside, differs) =
      sym (not_unused t c p e (u + k) (omega (arith, used_is)) (omega (arith, many)) (λ f. differs 0 (word k (omega (arith, many)) ∙ f)))

-- Cell c of a table of n cells: dimension p, u used places, m places of the law, the faces fs by value.
pub record Cell (t : List ℕ) (n c p u m : ℕ) (fs : List ℕ) : Type 0 where
  pub cells : n ≡ cells_of t
  pub inside : c < n
  pub dimension : p ≡ dim t c
  pub places_used : u ≡ used p
  pub places_law : m ≡ law_places p
  pub fits : u ≤ faces
  pub fewer : m ≤ u
  pub by_value : fs ≡ faces_of t c

module _ {t : List ℕ} {n c p u m : ℕ} {fs : List ℕ} (h : Cell t n c p u m fs) where
  pub used_here : u ≡ used (dim t c)
  used_here = h.places_used ∙ ap used h.dimension

  pub law_here : m ≡ law_places (dim t c)
  law_here = h.places_law ∙ ap law_places h.dimension

  pub face_at_lem : (j : ℕ) → j < faces → get_or fs j 0 ≡ face t c j
  face_at_lem = faces_at t c fs h.by_value
