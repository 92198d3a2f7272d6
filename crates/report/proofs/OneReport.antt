-- Of every file exactly one text is said, in exactly one way: what `report` is permitted to answer follows from the file.
-- What carries it: a file is refused or accepted, and a hole number is determined by its meaning. Assumes nothing.
use mathlib.Core.Path.{◌≡◌, refl, sym, ap, ◌∙◌}
use mathlib.Core.List.{List, ◌++◌}
use Prim.Native.Nat.{ℕ, ◌-◌, ◌<◌}
use native.Mathlib.Omega.{arith}
use lib.ListN.{length, replicate, length-drop, length-replicate, take-append-drop}
use lib.Seq.{length-take-le}
use Rattle.homology.specs.Evidence.{cells_in}
use Rattle.homology.proofs.Unique.{hole_number_unique}
use Rattle.calls.specs.Calls.{Verdict}
use Rattle.std.specs.declared.result.Result.TheVariants.{Ok, Err}
use Prim.{tt}
use Rattle.complex.specs.Cells.{cells}
use Rattle.table.specs.Kind.{dimensions}
use Rattle.sketch.proofs.Pieces.{pieces_cong}
use Rattle.report.specs.Lines.{line, lines_of, room}
use Rattle.report.specs.Text.{text_of, rest_of, ZerosAfter, IsWhole}
use Rattle.report.specs.declared.text.Text.TheInside.{Inside}
use Rattle.report.specs.Report.{table_in, file_verdict, HoleLines, Reports}

same_lines : (n h h' : ℕ → ℕ) → ((p : ℕ) → p < dimensions → h p ≡ h' p) → lines_of n h ≡ lines_of n h'
unfolding lines_of
same_lines n h h' e =
    pieces_cong (λ p. line p (n p) (h p)) (λ p. line p (n p) (h' p)) dimensions
    (λ p l. ap (λ (k : ℕ). line p (n p) k) (e p l))

one_hole_lines : (t x y : List ℕ) → HoleLines t x → HoleLines t y → x ≡ y
one_hole_lines t x y a b =
    a.lines
    ∙ same_lines (cells_in (cells t)) a.holes b.holes (λ p l. hole_number_unique (cells t) p (a.holes p) (b.holes p) (a.meaning p l) (b.meaning p l))
    ∙ sym b.lines

by_verdict : (f x y : List ℕ) → Reports f x → Reports f y → (v : Verdict) → file_verdict f ≡ v → x ≡ y
by_verdict f x y a b (Ok tt) e = one_hole_lines (table_in f) x y (a.accepted e) (b.accepted e)
by_verdict f x y a b (Err r) e = a.refused r e ∙ sym (b.refused r e)

pub one_report : (f x y : List ℕ) → Reports f x → Reports f y → x ≡ y
one_report f x y a b = by_verdict f x y a b (file_verdict f) refl

-- and in one way: the length and every byte follow from it
module _ (x : Inside) (inside : x.len < room) (zeros : ZerosAfter x) where
  text_long : length (text_of x) ≡ x.len
  text_long =
      let long : length (rest_of x) ≡ room - x.len = ap length zeros ∙ length-replicate (room - x.len) 0 in
      length-take-le x.len x.bytes (omega (arith, length-drop x.len x.bytes))

  bytes_are : x.bytes ≡ text_of x ++ replicate (room - length (text_of x)) 0
  bytes_are =
      sym (take-append-drop x.len x.bytes)
      ∙ ap (λ (l : List ℕ). text_of x ++ l) (zeros ∙ ap (λ (n : ℕ). replicate (room - n) 0) (sym text_long))

pub one_text :
    (f : List ℕ) (x y : Inside) → Reports f (text_of x) → (x.len < room) × ZerosAfter x → Reports f (text_of y) → (y.len < room) × ZerosAfter y →
    (x.len ≡ y.len) × (x.bytes ≡ y.bytes)
one_text f x y a p b q =
    let e : text_of x ≡ text_of y = one_report f (text_of x) (text_of y) a b in (
      sym (text_long x p.0 p.1) ∙ ap length e ∙ text_long y q.0 q.1,
      bytes_are x p.0 p.1 ∙ ap (λ (l : List ℕ). l ++ replicate (room - length l) 0) e ∙ sym (bytes_are y q.0 q.1),
    )

-- the same, said of what every `Text` keeps and of the list that it is seen as
shorter : (x : Inside) → IsWhole x → length (text_of x) < room → x.len < room
shorter x w h = omega (arith, length-take-le x.len x.bytes (omega (arith, w.inside, w.sized)))

pub one_whole_text :
    (f : List ℕ) (x y : Inside) → IsWhole x → Reports f (text_of x) → length (text_of x) < room → IsWhole y → Reports f (text_of y) →
    length (text_of y) < room → (x.len ≡ y.len) × (x.bytes ≡ y.bytes)
one_whole_text f x y w a p v b q = one_text f x y a (shorter x w p, w.zeros) b (shorter y v q, v.zeros)
