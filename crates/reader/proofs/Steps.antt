-- One record taken in: what the table has after it, and why a number that is not in order is refused.
-- What carries it: a record that is not free was taken in earlier, so its number is in a lower body; and numbers rise in a body.
-- Assumes nothing.
use mathlib.Core.Path.{◌≡◌, refl, ap, sym, subst, ◌∙◌}
use mathlib.Core.Bool.{false, false≢true}
use mathlib.Core.List.{List}
use mathlib.Core.Logic.{inl, inr}
use Prim.Native.Nat.{ℕ, ◌+◌, ◌≤◌, ◌<◌}
use native.Mathlib.Omega.{arith}
use borrow.Author.Count.{below_more}
use lib.ListN.{get_or}
use Rattle.table.specs.Kind.{free_mark, used, dimensions}
use Rattle.table.specs.Table.{dim}
use Rattle.table.specs.Records.{Record, record_at, free_record, Alike, Stored}
use Rattle.table.proofs.Stores.{alike_then, stored_alike}
use Rattle.counting.proofs.Cases.{not_true_false}
use Rattle.sketch.specs.Form.{two_at, face_place}
use Rattle.sketch.specs.Read.{count_in, record_in, number_in, in_body, numbers_fit}
use Rattle.sketch.proofs.Fits.{numbers_fit_lem}
use Rattle.sketch.proofs.Bodies.{body_has, body_one}
use Rattle.sketch.proofs.Rising.{rising_far}
use Rattle.reader.specs.Taking.{faces_at, FacesAre, record_from, Earlier, Unmet, InOrder, Taken}
use Rattle.reader.proofs.Contents.{record_next}

-- Before record i of body p, which stands at this place: `low` is the least number above those before it in the body.
pub record Going (n : ℕ) (f : List ℕ) (p : ℕ) (t : List ℕ) (at low i : ℕ) : Type 0 where
  pub place : at ≡ record_in f p i
  pub above : (k : ℕ) → k < i → number_in f p k < low
  pub least : (c : ℕ) → ((k : ℕ) → k < i → number_in f p k < c) → low ≤ c
  pub taken : Taken n f t p i

number_at : (f : List ℕ) (p i at c : ℕ) → at ≡ record_in f p i → c ≡ two_at f at → c ≡ number_in f p i
unfolding number_in
number_at f p i at c e g = g ∙ ap (two_at f) e

-- what comes before record i, and record i, come before the next
module _ (f : List ℕ) (p i : ℕ) where
  earlier_more : (P : ℕ → ℕ → Type 0) → ((q k : ℕ) → Earlier f p i q k → P q k) → P p i → (q k : ℕ) → Earlier f p (i + 1) q k → P q k
  earlier_more P old new q k (inl w) = old q k (inl w)
  earlier_more P old new q k (inr w) =
      subst (λ r. P r k) (sym w.0) (below_more (P p) i (λ l h. old p l (inr (refl, h))) new k w.1)

  unmet_less : (c : ℕ) → Unmet f p (i + 1) c → Unmet f p i c
  unmet_less c m q k (inl w) = m q k (inl w)
  unmet_less c m q k (inr w) = m q k (inr (w.0, omega (arith, w.1)))

  earlier_low : (q k : ℕ) → p < dimensions → Earlier f p i q k → q < dimensions
  earlier_low q k h (inl w) = omega (arith, w.0)
  earlier_low q k h (inr w) = omega (arith, w.0)

module _ (n : ℕ) (f : List ℕ) (p : ℕ) (t : List ℕ) (at low i : ℕ) (g : Going n f p t at low i) (h : p < dimensions) where
  -- a number that is in no lower body and above those before it was not met
  unmet : (c : ℕ) → low ≤ c → ((q : ℕ) → q < p → in_body f q c ≡ false) → Unmet f p i c
  unmet c l none q k (inl w) z = false≢true (sym (none q w.0) ∙ sym (ap (in_body f q) z) ∙ body_has f q k w.1)
  unmet c l none q k (inr w) z = omega (arith, ap (λ x. number_in f x k) w.0, g.above k w.1)

  -- where all numbers are in order, this one passes the three tests
  pub refused :
      (c : ℕ) → i < count_in f p → c ≡ two_at f at → (low ≤ c → c < n → dim t c ≡ free_mark → ⊥) → numbers_fit n f ≡ false
  refused c l e fails =
      not_true_false (numbers_fit n f)
      (λ z.
      let a : c ≡ number_in f p i = number_at f p i at c g.place e in
      let o = numbers_fit_lem n f z in
      let up : low ≤ c = g.least c (λ k m. omega (arith, rising_far (number_in f p) (count_in f p) (λ j. o.rising p j h) k i m l)) in
      let inside : c < n = omega (arith, o.below p i h l) in
      fails up inside (g.taken.free c inside (unmet c up (λ q m. ap (in_body f q) a ∙ o.alone p i q h l m))).same_dim)

  module _ (inside : number_in f p i < n) (up : low ≤ number_in f p i) (free : dim t (number_in f p i) ≡ free_mark) where
    -- a free record's number was not met, and is in no lower body
    apart : Unmet f p i (number_in f p i)
    apart q k e z = omega (arith, earlier_low f p i q k h e, (g.taken.met q k e).same_dim, ap (dim t) z)

    none_lower : (q : ℕ) → q < p → in_body f q (number_in f p i) ≡ false
    none_lower q l =
        not_true_false (in_body f q (number_in f p i))
        (λ e. let w = body_one f q (number_in f p i) e in apart q w.0 (inl (l, w.1)) w.2)

    module _ (u : List ℕ) (s : Stored (number_in f p i) (record_from f p (record_in f p i)) t u) where
      -- every other record stays
      kept : (c : ℕ) (r : Record) → (c ≡ number_in f p i → ⊥) → Alike (record_at t c) r → Alike (record_at u c) r
      kept c r ne w = alike_then (s.else c ne) w

      taken_more : Taken n f u p (i + 1)
      taken_more =
          record {
            size = s.size ∙ g.taken.size;
            met = earlier_more f p i (λ q k. Alike (record_at u (number_in f q k)) (record_from f q (record_in f q k)))
                (λ q k e. kept (number_in f q k) (record_from f q (record_in f q k)) (apart q k e) (g.taken.met q k e))
                s.here;
            free = λ c l m.
                kept c free_record (λ e. m p i (inr (refl, omega arith)) (sym e)) (g.taken.free c l (unmet_less f p i c m));
            order = earlier_more f p i (InOrder n f) g.taken.order (inside, λ k l. omega (arith, g.above k l), none_lower);
          }

  pub going_more :
      (c m b : ℕ) (u fs : List ℕ) → c ≡ two_at f at → low ≤ c → c < n → dim t c ≡ free_mark → m ≡ used p → b ≡ face_place m →
      FacesAre fs (faces_at f m at) → Stored c (record { dim = p; face = λ j. get_or fs j 0 }) t u →
      Going n f p u (at + b) (c + 1) (i + 1)
  going_more c m b u fs e up inside free is z filled s =
      let a : c ≡ number_in f p i = number_at f p i at c g.place e in
      record {
        place = record_next f p i at b g.place (omega arith);
        above = below_more (λ k. number_in f p k < c + 1) i (λ k l. omega (arith, g.above k l)) (omega arith);
        least = λ x l. omega (arith, l i (omega arith));
        taken = taken_more (omega arith) (omega arith) (subst (λ x. dim t x ≡ free_mark) a free) u
            (stored_alike (record { same_dim = refl; same_face = λ j l. filled j l ∙ rw (is, g.place) })
            (subst (λ x. Stored x (record { dim = p; face = λ j. get_or fs j 0 }) t u) a s));
      }
