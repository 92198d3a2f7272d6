-- Two permitted outcomes of an exported call are equal: the answer, and what stands in every buffer and behind every pointer.
-- What carries it: each is what the contract names; the reducer's rule has one outcome. Assumes nothing.
use mathlib.Core.Path.{◌≡◌, refl, sym, ◌∙◌}
use mathlib.Core.List.{List}
use Prim.Native.Nat.{ℕ}
use lib.IntN.{ℤ}
use Rattle.calls.proofs.Outcomes.{one_outcome}
use Rattle.reducer.specs.Reduce.{Reduces, reduce_verdict}
use Rattle.reducer.proofs.OneOutcome.{one_reduction}
use Rattle.kernel.specs.Face.{Fills}
use Rattle.kernel.specs.Calls.{EmptyEnds, AuditEnds, ConeEnds, MergeEnds, WeldEnds, CompactEnds, IncidenceEnds, BoundaryEnds, CornerEnds, SheetEnds, ReduceEnds, CheckEnds, WriteEnds, ReadEnds, ImportEnds}

-- a call that leaves a buffer and a value
one_filling : {code value r r' v v' : ℕ} {left l l' : List ℕ} → Fills code left value r l v → Fills code left value r' l' v' → (r ≡ r') × (l ≡ l') × (v ≡ v')
one_filling p q = (p.answer ∙ sym q.answer, p.buffer ∙ sym q.buffer, p.told ∙ sym q.told)

pub one_empty : (t l l' : List ℕ) (r r' : ℕ) → EmptyEnds t r l → EmptyEnds t r' l' → (r ≡ r') × (l ≡ l')
one_empty t l l' r r' p q = one_outcome p q

pub one_audit : (t : List ℕ) (r r' : ℕ) → AuditEnds t r → AuditEnds t r' → r ≡ r'
one_audit t r r' p q = p ∙ sym q

pub one_cone : (t m l l' : List ℕ) (a r r' v v' : ℕ) → ConeEnds t m a r l v → ConeEnds t m a r' l' v' → (r ≡ r') × (l ≡ l') × (v ≡ v')
one_cone t m l l' a r r' v v' p q = one_filling p q

pub one_merge : (t l l' : List ℕ) (a b k r r' v v' : ℕ) → MergeEnds t a b k r l v → MergeEnds t a b k r' l' v' → (r ≡ r') × (l ≡ l') × (v ≡ v')
one_merge t l l' a b k r r' v v' p q = one_filling p q

pub one_weld : (t l l' : List ℕ) (a b k r r' v v' : ℕ) → WeldEnds t a b k r l v → WeldEnds t a b k r' l' v' → (r ≡ r') × (l ≡ l') × (v ≡ v')
one_weld t l l' a b k r r' v v' p q = one_filling p q

pub one_compact : (t i l l' j j' : List ℕ) (r r' : ℕ) → CompactEnds t i r l j → CompactEnds t i r' l' j' → (r ≡ r') × (l ≡ l') × (j ≡ j')
one_compact t i l l' j j' r r' p q = (p.answer ∙ sym q.answer, p.table ∙ sym q.table, p.numbers ∙ sym q.numbers)

pub one_incidence : (t : List ℕ) (s u : ℕ) (z v v' : ℤ) (r r' : ℕ) → IncidenceEnds t s u z r v → IncidenceEnds t s u z r' v' → (r ≡ r') × (v ≡ v')
one_incidence t s u z v v' r r' p q = one_outcome p q

pub one_boundary : (t : List ℕ) (x : List ℤ) (p : ℕ) (b l l' : List ℤ) (r r' : ℕ) → BoundaryEnds t x p b r l → BoundaryEnds t x p b r' l' → (r ≡ r') × (l ≡ l')
one_boundary t x p b l l' r r' e e' = one_outcome e e'

pub one_corner : (t : List ℕ) (c k o r r' v v' : ℕ) → CornerEnds t c k o r v → CornerEnds t c k o r' v' → (r ≡ r') × (v ≡ v')
one_corner t c k o r r' v v' p q = one_outcome p q

pub one_sheet : (t : List ℕ) (o r r' v v' : ℕ) → SheetEnds t o r v → SheetEnds t o r' v' → (r ≡ r') × (v ≡ v')
one_sheet t o r r' v v' p q = one_outcome p q

pub one_check : (t ev c h c' h' c'' h'' : List ℕ) (r r' : ℕ) → CheckEnds t ev c h r c' h' → CheckEnds t ev c h r' c'' h'' → (r ≡ r') × (c' ≡ c'') × (h' ≡ h'')
one_check t ev c h c' h' c'' h'' r r' p q = (
  p.answer ∙ sym q.answer,
  p.cells_told ∙ sym q.cells_told,
  p.holes_told ∙ sym q.holes_told,
)

-- what the exported reducer leaves is what the call beneath it may leave
reduces : {t ev a₀ ev' a : List ℕ} {r : ℕ} → ReduceEnds t ev a₀ r ev' a → Reduces t ev a₀ (reduce_verdict t ev) ev' a
reduces e = record { answer = refl; refused_left = e.refused_left; accepted = e.accepted }

pub one_reduce : (t ev a₀ l a l' a' : List ℕ) (r r' : ℕ) → ReduceEnds t ev a₀ r l a → ReduceEnds t ev a₀ r' l' a' → (r ≡ r') × (l ≡ l') × (a ≡ a')
one_reduce t ev a₀ l a l' a' r r' p q =
    let same = one_reduction t ev a₀ l l' a a' _ _ (reduces p) (reduces q) in
    (p.answer ∙ sym q.answer, same.1, same.2)

pub one_write : (t d l l' : List ℕ) (o r r' v v' : ℕ) → WriteEnds t d o r l v → WriteEnds t d o r' l' v' → (r ≡ r') × (l ≡ l') × (v ≡ v')
one_write t d l l' o r r' v v' p q = one_filling p q

pub one_read : (t f l l' : List ℕ) (r r' : ℕ) → ReadEnds t f r l → ReadEnds t f r' l' → (r ≡ r') × (l ≡ l')
one_read t f l l' r r' p q = one_outcome p q

pub one_import : (t text l l' : List ℕ) (r r' : ℕ) → ImportEnds t text r l → ImportEnds t text r' l' → (r ≡ r') × (l ≡ l')
one_import t text l l' r r' p q = one_outcome p q
