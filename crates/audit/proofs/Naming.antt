-- Every call that begins with a length and the validity of its table names the first breach with its refusal 2, and what it refuses has
-- room in the word that C sees; the audit itself refuses with a breach exactly where that is the first one.
-- What carries it: the ground of validity is the search's, and what the search finds is the first breach. Assumes nothing.
use mathlib.Core.Path.{◌≡◌, refl, sym, ap, subst, ◌∙◌}
use mathlib.Core.Bool.{Bool, true, false, false≢true, not, ◌&&◌}
use mathlib.Core.List.{List, [], ◌∷◌}
use mathlib.Core.Logic.{◌⊎◌, inl, inr, ⊎_elim, ◌↔◌}
use Prim.{tt}
use Prim.Native.Nat.{ℕ, ◌<◌}
use native.Mathlib.Omega.{arith}
use borrow.Author.Tests.{not-true, not-false}
use Rattle.counting.proofs.Cases.{and_left}
use Rattle.calls.specs.Calls.{Ground, verdict}
use Rattle.calls.specs.Numbers.{number_of}
use Rattle.calls.specs.Packed.{BreachFits, WordFits}
use Rattle.calls.specs.declared.Breach.{Breach}
use Rattle.calls.specs.declared.Refusal.{Refusal}
use Rattle.calls.specs.declared.Refusal.TheVariants.{Length, Invalid}
use Rattle.std.specs.declared.result.Result.TheVariants.{Err}
use Rattle.std.specs.declared.option.Option.TheVariants.{None, Some}
use Rattle.calls.proofs.Givens.{Each, refused_has, first_or_later}
use Rattle.table.specs.Table.{dim, Sized, Valid, sized, on_length, on_lengths}
use Rattle.table.proofs.Sizes.{sized_is_sized}
use Rattle.table.proofs.Places.{used_says}
use Rattle.std.specs.declared.option.Option.{Option}
use Rattle.audit.specs.Audit.{first_breach, breach_in, is_sound, sound, invalid, on_validity, audit_grounds, grounds, grounds_with}
use Rattle.audit.specs.First.{IsBreach, IsFirst, NamesFirst, Tells}
use Rattle.audit.specs.First.IsBreach.{no_kind, stray, no_face, no_law}
use Rattle.audit.proofs.Valid.{sound_is_valid, valid_is_sound, valid_is_sized}
use Rattle.audit.proofs.Scans.{sound_true}
use Rattle.audit.proofs.Verdicts.{audit_refuses_invalid}
use Rattle.audit.proofs.First.{found_iff_first, none_where_sound}

-- a table that is not sound has a first breach, and the refusal names it
pub unsound_names_first : (t : List ℕ) → sound t ≡ false → NamesFirst t (invalid t)
unfolding sound
unsound_names_first t e = go (first_breach t) refl
  where
    go : (x : Option Breach) → first_breach t ≡ x → NamesFirst t (invalid t)
    go None f = absurd (false≢true (sym e ∙ ap is_sound f))
    go (Some b) f =
        record { breach = b; named = ap (λ (x : Option Breach). Invalid (breach_in x)) f; first = (found_iff_first t b).0 f }

-- the breach of a table has room in the word
breach_fits : (t : List ℕ) (b : Breach) → Sized t → IsBreach t b → BreachFits b
breach_fits t b z (no_kind i h k) = omega (arith, z.room)
breach_fits t b z (stray i s) = omega (arith, z.room)
breach_fits t b z (no_face {c} {j} v h k) =
    let u = used_says (dim t c) j h in
    (omega (arith, z.room, v.inside), omega (arith, u.1, u.2))
breach_fits t b z (no_law v h k m i i' n) = (omega (arith, z.room, v.inside), omega (arith, v.low), omega (arith, v.low))

pub named_fits : (t : List ℕ) (r : Refusal) → sized t ≡ true → NamesFirst t r → WordFits r
named_fits t r s n =
    subst WordFits (sym n.named) (breach_fits t n.breach (sized_is_sized t s) n.first.breach)

sound_found : (t : List ℕ) → sound t ≡ true → first_breach t ≡ None
unfolding sound
sound_found t e = sound_true (first_breach t) e

not_false_true : (b : Bool) → (b ≡ false → ⊥) → b ≡ true
not_false_true true h = refl
not_false_true false h = absurd (h refl)

fitting : (t : List ℕ) (fit : Bool) → not (sized t && fit) ≡ false → sized t ≡ true
fitting t fit e = and_left (sized t) fit (not-false (sized t && fit) e)

-- what a call's own grounds are: numbers above 2, and room in the word
abbrev pub Own : Refusal → Type 0
Own x = (2 < number_of x) × WordFits x

module _ (t : List ℕ) (g : Ground) (own : List Ground) (length : g.refusal ≡ Length) (fit : g.applies ≡ false → sized t ≡ true) (r : Refusal) (e : verdict (g ∷ on_validity t ∷ own) ≡ Err r) where
  -- why the call refuses: its lengths, its table, or a ground of its own
  refused_for : (r ≡ Length) ⊎ (((sized t ≡ true) × NamesFirst t r) ⊎ (verdict own ≡ Err r))
  refused_for =
      ⊎_elim
      (λ h. inl (sym h.1 ∙ length))
      (λ h. inr (⊎_elim
      (λ k. inl (fit h.0, subst (NamesFirst t) k.1 (unsound_names_first t (not-true (sound t) k.0))))
      (λ k. inr k.1)
      (first_or_later (not (sound t)) (invalid t) r (verdict own) h.1)))
      (first_or_later g.applies g.refusal r (verdict (on_validity t ∷ own)) e)

  tells : Each Own own → Tells t r
  tells each =
      ⊎_elim
      (λ h. let one : number_of r ≡ 1 = ap number_of h in record { breach_named = λ two. absurd (omega arith); fits = subst WordFits (sym h) tt })
      (λ h. ⊎_elim
      (λ k. record { breach_named = λ two. k.1; fits = named_fits t r k.0 k.1 })
      (λ k. let n = refused_has Own own r each k in record { breach_named = λ two. absurd (omega (arith, n.0)); fits = n.1 }) h)
      refused_for

-- The same for a call that is lent a table alone, and for one that is lent other buffers too.
pub tells_alone : (t : List ℕ) (own : List Ground) (r : Refusal) → Each Own own → verdict (grounds t own) ≡ Err r → Tells t r
tells_alone t own r each e = tells t (on_length t) own refl (not-false (sized t)) r e each

pub tells_with : (t : List ℕ) (fit : Bool) (own : List Ground) (r : Refusal) → Each Own own → verdict (grounds_with t fit own) ≡ Err r → Tells t r
tells_with t fit own r each e = tells t (on_lengths t fit) own refl (fitting t fit) r e each

-- The audit refuses with the breach b exactly where b is the first one of a table of the right length,
breach_of : (t : List ℕ) (b : Breach) → verdict (audit_grounds t) ≡ Err (Invalid b) → (sized t ≡ true) × IsFirst t b
breach_of t b e =
    ⊎_elim
    (λ h. let z : ◌≡◌ {A = ℕ} 2 1 = ap number_of h in absurd (omega arith))
    (λ h. ⊎_elim
    (λ k. let same : k.1.breach ≡ b = cc in (k.0, subst (IsFirst t) same k.1.first))
    (λ k. let z : ◌≡◌ {A = ℕ} 0 1 = cc in absurd (omega arith)) h)
    (refused_for t (on_length t) [] refl (not-false (sized t)) (Invalid b) e)

pub audit_names_first : (t : List ℕ) (b : Breach) → (verdict (audit_grounds t) ≡ Err (Invalid b)) ↔ ((sized t ≡ true) × IsFirst t b)
audit_names_first t b = (
  breach_of t b,
  λ h. sym (audit_refuses_invalid t b h.0 ((found_iff_first t b).1 h.1)),
)

-- and a table is valid exactly where its length is right and it has no breach.
pub valid_iff_no_breach : (t : List ℕ) → Valid t ↔ ((sized t ≡ true) × ((b : Breach) → IsBreach t b → ⊥))
valid_iff_no_breach t = (
  λ v. (valid_is_sized t v, λ b. none_where_sound t b (sound_found t (valid_is_sound t v))),
  λ h. sound_is_valid t h.0 (not_false_true (sound t) (λ e. let n = unsound_names_first t e in h.1 n.breach n.first.breach)),
)
