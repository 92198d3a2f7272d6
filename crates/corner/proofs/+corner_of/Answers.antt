-- `corner::corner_of` meets its contract: a point is its own corner, and a face answers for any other cell. Assumes nothing.
use mathlib.Core.Path.{◌≡◌, sym, ◌∙◌}
use mathlib.Core.List.{List}
use Prim.Native.Nat.{ℕ}
use native.Mathlib.Omega.{arith}
use lib.ListN.{length, take}
use lib.Seq.{take_all}
use Rattle.corner.proofs.Corners.{corner_of_point, lower_answers, last_asks, last_answers}
use Rattle.corner.proofs.+corner_of.Goals as goal

-- the part that is handed on is the whole table
whole : (t : List ℕ) → take (length t) t ≡ t
whole t = take_all (length t) t (omega arith)

pub returns-then-p-eq0 : goal.returns-then-p-eq0
returns-then-p-eq0 t c = sym (corner_of_point _ _ _ (sym c.requires.p_value ∙ c.if-p-eq0.true))

pub returns-then-k-p : goal.returns-then-k-p
returns-then-k-p t c =
    lower_answers _ _ (whole _) _ _ _ _ _ c.requires.valid c.requires.live c.requires.p_value c.if-p-eq0.false c.decreases c.if-k-p.true
    c.face.ensures _ c.corner_of.ensures

pub corner_of-requires-2 : goal.corner_of-requires-2
corner_of-requires-2 t c =
    last_asks _ _ (whole _) _ _ 0 _ _ c.requires.valid c.requires.live c.requires.p_value c.if-p-eq0.false c.decreases c.face-2.ensures

pub returns : goal.returns
returns t c =
    last_answers _ _ (whole _) _ _ _ _ _ c.requires.valid c.requires.live c.requires.p_value c.if-p-eq0.false c.decreases c.if-k-p.false
    c.requires.k_le_p c.face-2.ensures _ c.corner_of-2.ensures
