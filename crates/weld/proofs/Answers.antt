-- What an accepted weld has been shown, the ways out of the call, and what it leaves: the table of the one weld's map, which is valid
-- and is what the single merges leave.
-- What carries it: the grounds are read one after the other. Assumes nothing.
use mathlib.Core.Path.{◌≡◌, refl, ap, sym, subst, ◌∙◌}
use mathlib.Core.List.{List, []}
use Prim.Native.Nat.{ℕ, min}
use borrow.Author.Tests.{eq-eqb, ne_eqb}
use Rattle.table.specs.Table.{dim, Valid}
use Rattle.calls.specs.Calls.{verdict, named, leaves, Ends}
use Rattle.calls.specs.declared.Refusal.{Refusal}
use Rattle.calls.specs.Calls.{Verdict}
use Rattle.std.specs.declared.result.Result.TheVariants.{Ok, Err}
use Prim.{tt}
use Rattle.table.proofs.Records.{live_says}
use Rattle.audit.proofs.Valid.{valid_is_sound, valid_is_sized}
use Rattle.merge.specs.Rename.{renamed}
use Rattle.merge.specs.Writing.{Joinable}
use Rattle.merge.proofs.Verdicts.{joinable_accepted}
use Rattle.weld.specs.Weld.{IsWeld}
use Rattle.weld.specs.Joins.{weld_map}
use Rattle.weld.specs.Merges.{Merges, weld_merges}
use Rattle.weld.specs.Call.{weld_grounds, weld_verdict, welded, weld_answer, weld_leaves}
use Rattle.weld.proofs.Welds.{weld_map_is_weld, weld_keeps_valid, one_welded_table}
use Rattle.weld.proofs.Single.{weld_by_merges}

module _ (t : List ℕ) (a b : ℕ) where
  pub weld_accepted : weld_verdict t a b ≡ Ok tt → Joinable t a b
  unfolding weld_verdict
  weld_accepted e = joinable_accepted t a b [] e

  -- any two different live cells of one dimension in a valid table: their faces are not asked for
  pub joinable_accepts : Joinable t a b → weld_verdict t a b ≡ Ok tt
  unfolding weld_verdict
  joinable_accepts m =
      let lives = live_says t a m.first in
      let lives-too = live_says t b m.second in
      let apart = ne_eqb a b m.different in
      let level = eq-eqb (dim t a) (dim t b) m.same_dim in
      simp (valid_is_sized t m.valid, valid_is_sound t m.valid, lives, lives-too, apart, level)

  -- the two cells are asked as for a merge
  pub verdict_is : weld_verdict t a b ≡ verdict (weld_grounds t a b)
  unfolding weld_verdict
  verdict_is = refl

  -- the ways out of the call
  pub ends_refused : (r : Refusal) → weld_verdict t a b ≡ Err r → Ends (weld_answer t a b) (weld_leaves t a b) (Err r) t
  ends_refused r e =
      record { answer = sym (ap (λ v. named v (min a b)) e); left = sym (ap (λ v. leaves v (welded t a b) t) e) }

  pub ends_accepted :
      (c : ℕ) (u : List ℕ) → weld_verdict t a b ≡ Ok tt → c ≡ min a b → u ≡ renamed (weld_map t a b) t →
      Ends (weld_answer t a b) (weld_leaves t a b) (Ok c) u
  unfolding welded
  ends_accepted c u e m f =
      record {
        answer = ap Ok m ∙ sym (ap (λ v. named v (min a b)) e);
        left = f ∙ sym (ap (λ v. leaves v (renamed (weld_map t a b) t) t) e);
      }

  module _ (e : weld_verdict t a b ≡ Ok tt) where
    -- the map is the weld's
    accepted_weld : IsWeld t a b (weld_map t a b)
    accepted_weld = let m = weld_accepted e in weld_map_is_weld t a b m.valid m.first m.second m.same_dim

    -- there is a map of the weld,
    pub weld_exists : (κ : ℕ → ℕ) × IsWeld t a b κ
    weld_exists = (weld_map t a b, accepted_weld)

    -- what is left is the table renamed by it, and by every map that is the weld's,
    pub welded_is_renamed : (κ : ℕ → ℕ) → IsWeld t a b κ → welded t a b ≡ renamed κ t
    unfolding welded
    welded_is_renamed κ x = one_welded_table t a b (weld_map t a b) κ accepted_weld x

    -- is valid,
    pub welded_is_valid : Valid (welded t a b)
    unfolding welded
    welded_is_valid = weld_keeps_valid t a b (weld_map t a b) (weld_accepted e).valid accepted_weld

    -- and is what single merges leave, from dimension 0 up, rising cell, each accepted in turn
    pub welded_by_merges : (κ : ℕ → ℕ) → IsWeld t a b κ → Merges t (weld_merges t κ) (welded t a b)
    welded_by_merges κ x =
        subst (Merges t (weld_merges t κ)) (sym (welded_is_renamed κ x)) (weld_by_merges t a b κ (weld_accepted e).valid x)

  -- whatever the two numbers are
  pub weld_leaves_valid : Valid t → Valid (weld_leaves t a b)
  weld_leaves_valid valid = go (weld_verdict t a b) refl
    where
      go : (v : Verdict) → weld_verdict t a b ≡ v → Valid (leaves v (welded t a b) t)
      go (Ok tt) e = welded_is_valid e
      go (Err r) e = valid
