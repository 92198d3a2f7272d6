-- The way there and back: a valid table, written and read, is the same table; an accepted file, read and written, is the same
-- bytes; and the reader accepts exactly the files that valid tables are written as.
-- What carries it: the files There and Back. Assumes nothing.
use mathlib.Core.Path.{◌≡◌, ap, ap₂, sym, subst, ◌∙◌}
use mathlib.Core.Bool.{true}
use mathlib.Core.List.{List}
use mathlib.Core.Logic.{⊎_elim, ◌↔◌}
use Prim.Native.Nat.{ℕ, ◌<◌}
use native.Mathlib.Omega.{arith}
use lib.ListN.{length, get_or, replicate}
use lib.Dec.{eqb}
use Rattle.counting.specs.Counting.{pick}
use Rattle.table.specs.Kind.{faces, free_mark, used}
use Rattle.table.specs.Table.{cells_of, dim, face, Sized, Valid}
use Rattle.audit.specs.Audit.{sound}
use Rattle.calls.specs.Calls.{on_verdict}
use Rattle.calls.specs.Numbers.{number_of}
use Rattle.calls.specs.Calls.{Verdict}
use Rattle.std.specs.declared.result.Result.TheVariants.{Ok}
use Prim.{tt}
use Rattle.counting.proofs.Cases.{below_or_not}
use Rattle.table.proofs.Places.{used_says}
use Rattle.table.proofs.Sizes.{sized_says}
use Rattle.audit.proofs.Valid.{valid_is_sound}
use Rattle.sketch.specs.Form.{two_at}
use Rattle.sketch.specs.Written.{file_of}
use Rattle.sketch.specs.Read.{contents_fit, numbers_fit, described, read_verdict, read_leaves}
use Rattle.sketch.proofs.Fits.{fit_contents, fit_numbers}
use Rattle.sketch.proofs.There.{there_fits, there_numbered, there_table}
use Rattle.sketch.proofs.Back.{back_file}
use Rattle.sketch.proofs.Described.{described_cells}
use Rattle.sketch.proofs.Accepted.{accepted_says, says_accepted}

-- the file of a valid table is in order and describes the table
pub write_then_read : (t : List ℕ) → Valid t → (contents_fit (cells_of t) (file_of t) ≡ true) × (numbers_fit (cells_of t) (file_of t) ≡ true) × (described (cells_of t) (file_of t) ≡ t)
write_then_read t v = (
  fit_contents (cells_of t) (file_of t) (there_fits t v),
  fit_numbers (cells_of t) (file_of t) (there_numbered t v),
  there_table t v,
)

-- so a table of its size reads it, whatever its words were
pub written_accepted : (t u : List ℕ) → Valid t → Sized u → cells_of t ≡ cells_of u → read_verdict u (file_of t) ≡ Ok tt
written_accepted t u v s e =
    let w = write_then_read t v in
    says_accepted u (file_of t) (sized_says u s) (subst (λ n. contents_fit n (file_of t) ≡ true) e w.0)
    (subst (λ n. numbers_fit n (file_of t) ≡ true) e w.1)
    (ap sound (ap (λ n. described n (file_of t)) (sym e) ∙ w.2) ∙ valid_is_sound t v)

pub written_read : (t u : List ℕ) → Valid t → Sized u → cells_of t ≡ cells_of u → read_leaves u (file_of t) ≡ t
written_read t u v s e =
    ap (λ (d : Verdict). on_verdict d (described (cells_of u) (file_of t)) (λ r. pick (eqb (number_of r) 1) u (replicate (length u) free_mark))) (written_accepted t u v s e)
    ∙ ap (λ n. described n (file_of t)) (sym e)
    ∙ (write_then_read t v).2

-- an accepted file describes a valid table, and rewritten is the same bytes
pub accepted_valid : (u f : List ℕ) → read_verdict u f ≡ Ok tt → Valid (described (cells_of u) f)
accepted_valid u f e = (accepted_says u f e).table

pub read_then_write : (u f : List ℕ) → ((k : ℕ) → get_or f k 0 < 256) → read_verdict u f ≡ Ok tt → file_of (described (cells_of u) f) ≡ f
read_then_write u f bytes e =
    let w = accepted_says u f e in
    back_file (cells_of u) f w.numbers bytes w.contents

-- a table has one file, and a file one table
pub one_file_for_a_table : (u u' f f' : List ℕ) → ((k : ℕ) → get_or f k 0 < 256) → ((k : ℕ) → get_or f' k 0 < 256) → read_verdict u f ≡ Ok tt → read_verdict u' f' ≡ Ok tt → described (cells_of u) f ≡ described (cells_of u') f' → f ≡ f'
one_file_for_a_table u u' f f' bytes bytes' e e' same =
    sym (read_then_write u f bytes e) ∙ ap file_of same ∙ read_then_write u' f' bytes' e'

pub one_table_for_a_file : (t t' : List ℕ) → Valid t → Valid t' → file_of t ≡ file_of t' → t ≡ t'
one_table_for_a_file t t' v v' e =
    let n : cells_of t ≡ cells_of t' = sym (there_fits t v).start ∙ ap (λ f. two_at f 0) e ∙ (there_fits t' v').start in
    sym (write_then_read t v).2 ∙ ap₂ described n e ∙ (write_then_read t' v').2

-- the reader accepts exactly the files that valid tables of its size are written as
pub accepted_iff_written : (u f : List ℕ) → ((k : ℕ) → get_or f k 0 < 256) → Sized u → (read_verdict u f ≡ Ok tt) ↔ ((t : List ℕ) × Valid t × (cells_of t ≡ cells_of u) × (f ≡ file_of t))
accepted_iff_written u f bytes s = (
  λ e. (described (cells_of u) f, accepted_valid u f e, described_cells (cells_of u) f, sym (read_then_write u f bytes e)),
  λ w. ap (read_verdict u) w.3 ∙ written_accepted w.0 u w.1 s w.2,
)

-- the words of a valid table have room in 16 bits
module _ (t : List ℕ) (v : Valid t) where
  dim_small : (c : ℕ) → c < cells_of t → dim t c < 65536
  dim_small c h = ⊎_elim (λ l. omega arith) (λ e. omega arith) (v.records c h)

  face_small : (c j : ℕ) → c < cells_of t → j < faces → face t c j < 65536
  face_small c j h m =
      ⊎_elim
      (λ l. omega (arith, (v.face_live c j (record { inside = h; low = (used_says (dim t c) j l).1 }) l).inside, v.sized.room))
      (λ l. omega (arith, v.unused c j h l m))
      (below_or_not j (used (dim t c)))
