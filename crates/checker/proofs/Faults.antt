-- The grounds of the rows: where no row is at fault the evidence is accepted, and otherwise the first row at fault is named.
-- What carries it: the grounds from row c on are those of row c and then those from the next row on. Assumes nothing.
use mathlib.Core.Path.{◌≡◌, sym, ap, subst, ◌∙◌}
use mathlib.Core.Bool.{true, false}
use mathlib.Core.List.{List}
use Prim.Native.Nat.{ℕ, zero, suc, ◌+◌, ◌-◌, ◌≤◌, ◌<◌}
use native.Mathlib.Numerals.{add-one}
use native.Mathlib.Omega.{arith}
use Rattle.calls.proofs.Grounds.{refused_not_accepted}
use Rattle.homology.specs.Cells.{Cells}
use Rattle.homology.proofs.Marks.{by_mark, by_order}
use Rattle.calls.specs.Calls.{verdict}
use Rattle.calls.specs.declared.Refusal.{Refusal}
use Rattle.calls.specs.declared.Refusal.TheVariants as refusals
use Rattle.calls.specs.Calls.{Verdict}
use Rattle.std.specs.declared.result.Result.TheVariants.{Ok, Err}
use Prim.{tt}
use Rattle.checker.specs.Check.{keeps_a, keeps_b, row_grounds}

-- every row below c keeps both rules
pub record Passed (K : Cells) (ev : List ℕ) (c : ℕ) : Type 0 where
  pub keeps_a_lem : (b : ℕ) → b < c → keeps_a K ev b ≡ true
  pub keeps_b_lem : (b : ℕ) → b < c → keeps_b K ev b ≡ true

-- How one of n rows is the first at fault, by the refusal that names it.
pub data Fault (K : Cells) (ev : List ℕ) (n : ℕ) : Refusal → Type 0 where
  breaks_a : (c : ℕ) → c < n → Passed K ev c → keeps_a K ev c ≡ false → Fault K ev n (refusals.RuleA c)
  breaks_b : (c : ℕ) → c < n → Passed K ev c → keeps_a K ev c ≡ true → keeps_b K ev c ≡ false → Fault K ev n (refusals.RuleB c)

-- Either all of n rows pass, or one is the first at fault.
data Outcome (K : Cells) (ev : List ℕ) (n : ℕ) : Type 0 where
  passes : Passed K ev n → Outcome K ev n
  fails : {r : Refusal} → Fault K ev n r → Outcome K ev n

-- the verdict over k rows from c on
abbrev pub verdict_from : Cells → List ℕ → ℕ → ℕ → Verdict
verdict_from K ev c k = verdict (row_grounds K ev c k)

module _ (K : Cells) (ev : List ℕ) where
  pub passed_none : Passed K ev 0
  passed_none = record { keeps_a_lem = λ b l. absurd (omega arith); keeps_b_lem = λ b l. absurd (omega arith) }

  passed_suc : (c : ℕ) → Passed K ev c → keeps_a K ev c ≡ true → keeps_b K ev c ≡ true → Passed K ev (suc c)
  passed_suc c p a b = record {
    keeps_a_lem = λ s l. by_order s c (p.keeps_a_lem s) (λ e. subst (λ (k : ℕ). keeps_a K ev k ≡ true) (sym e) a) (λ g. absurd (omega arith));
    keeps_b_lem = λ s l. by_order s c (p.keeps_b_lem s) (λ e. subst (λ (k : ℕ). keeps_b K ev k ≡ true) (sym e) b) (λ g. absurd (omega arith));
  }

  pub passed_more : (c : ℕ) → Passed K ev c → keeps_a K ev c ≡ true → keeps_b K ev c ≡ true → Passed K ev (c + 1)
  passed_more c p a b = rw (add-one c) (passed_suc c p a b)

  passed_less : (c : ℕ) → Passed K ev (suc c) → Passed K ev c
  passed_less c p = record { keeps_a_lem = λ b l. p.keeps_a_lem b (omega arith); keeps_b_lem = λ b l. p.keeps_b_lem b (omega arith) }

  row_passes : (c k : ℕ) → keeps_a K ev c ≡ true → keeps_b K ev c ≡ true → verdict_from K ev c (suc k) ≡ verdict_from K ev (suc c) k
  unfolding row_grounds
  row_passes c k a b = rw (a, b)

  row_breaks_a : (c k : ℕ) → keeps_a K ev c ≡ false → verdict_from K ev c (suc k) ≡ Err (refusals.RuleA c)
  unfolding row_grounds
  row_breaks_a c k a = rw a

  row_breaks_b : (c k : ℕ) → keeps_a K ev c ≡ true → keeps_b K ev c ≡ false → verdict_from K ev c (suc k) ≡ Err (refusals.RuleB c)
  unfolding row_grounds
  row_breaks_b c k a b = rw (a, b)

  -- rows that pass leave the verdict to those that follow
  rows_pass : (c n : ℕ) → c ≤ n → Passed K ev c → verdict_from K ev 0 n ≡ verdict_from K ev c (n - c)
  rows_pass zero n h p =
      let e : n ≡ n - 0 = omega arith in
      ap (verdict_from K ev 0) e
  rows_pass (suc c) n h p =
      let e : n - c ≡ suc (n - suc c) = omega arith in
      rows_pass c n (omega arith) (passed_less c p)
      ∙ ap (verdict_from K ev c) e
      ∙ row_passes c (n - suc c) (p.keeps_a_lem c (omega arith)) (p.keeps_b_lem c (omega arith))

  at_row : (c n : ℕ) → c < n → Passed K ev c → verdict_from K ev 0 n ≡ verdict_from K ev c (suc (n - suc c))
  at_row c n h p =
      let e : n - c ≡ suc (n - suc c) = omega arith in
      rows_pass c n (omega arith) p ∙ ap (verdict_from K ev c) e

  pub all_pass : (n : ℕ) → Passed K ev n → (Ok tt) ≡ verdict_from K ev 0 n
  unfolding row_grounds
  all_pass n p =
      let e : n - n ≡ 0 = omega arith in
      sym (rows_pass n n (omega arith) p ∙ ap (verdict_from K ev n) e)

  -- the first row at fault is named,
  pub fault_named : {n : ℕ} {r : Refusal} → Fault K ev n r → Err r ≡ verdict_from K ev 0 n
  fault_named {n} (breaks_a c h p a) = sym (at_row c n h p ∙ row_breaks_a c (n - suc c) a)
  fault_named {n} (breaks_b c h p a b) = sym (at_row c n h p ∙ row_breaks_b c (n - suc c) a b)

  fault_later : {n : ℕ} {r : Refusal} → Fault K ev n r → Fault K ev (suc n) r
  fault_later (breaks_a c h p a) = breaks_a c (omega arith) p a
  fault_later (breaks_b c h p a b) = breaks_b c (omega arith) p a b

  outcome : (n : ℕ) → Outcome K ev n
  outcome zero = passes passed_none
  outcome (suc n) = go (outcome n)
    where
      go : Outcome K ev n → Outcome K ev (suc n)
      go (passes p) = by_mark (keeps_a K ev n)
          (λ a. by_mark (keeps_b K ev n)
          (λ b. passes (passed_suc n p a b))
          (λ b. fails (breaks_b n (omega arith) p a b)))
          (λ a. fails (breaks_a n (omega arith) p a))
      go (fails f) = fails (fault_later f)

  pub accepted_pass : (n : ℕ) → verdict_from K ev 0 n ≡ Ok tt → Passed K ev n
  accepted_pass n e = go (outcome n)
    where
      go : Outcome K ev n → Passed K ev n
      go (passes p) = p
      go (fails f) = absurd (refused_not_accepted _ (fault_named f ∙ e))

  -- and what is named is the first row at fault
  pub named_fault : (n : ℕ) (r : Refusal) → verdict_from K ev 0 n ≡ Err r → Fault K ev n r
  named_fault n r e = go (outcome n)
    where
      go : Outcome K ev n → Fault K ev n r
      go (passes p) = absurd (refused_not_accepted _ (sym (all_pass n p ∙ e)))
      go (fails {r = q} f) =
          let both : Err q ≡ Err r = fault_named f ∙ e in
          let same : q ≡ r = cc in
          subst (Fault K ev n) same f
