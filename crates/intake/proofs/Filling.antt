-- The steps of the intake, one after the other: points, lines, sweep, faces.
-- What carries it: each step's contract, for the one list that the text reads as. Assumes nothing.
use mathlib.Core.Path.{◌≡◌, refl, ap, subst, ◌∙◌}
use mathlib.Core.Bool.{true}
use mathlib.Core.List.{List}
use Prim.Native.Nat.{ℕ, ◌/◌, ◌≤◌, ◌<◌}
use native.Mathlib.Omega.{arith}
use lib.ListN.{length}
use Rattle.std.specs.Prelude.{Result}
use Rattle.calls.specs.declared.Refusal.{Refusal}
use Rattle.calls.specs.declared.Refusal.TheVariants.{NoRoom}
use Rattle.table.specs.Kind.{width}
use Rattle.table.specs.Table.{cells_of}
use Rattle.partlist.specs.Text.{IsList}
use Rattle.partlist.specs.Cells.{cell_list}
use Rattle.partlist.specs.ListTable.{list_table}
use Rattle.partlist.specs.Sweep.{InRange}
use Rattle.partlist.specs.Indices.{list_fits}
use Rattle.partlist.proofs.Indices.{fits_range}
use Rattle.partlist.proofs.Reading.{reading_unique}
use Rattle.partlist.proofs.Gathering.{points_most}
use Rattle.partlist.proofs.ListTable.{list_complete}
use Rattle.lines.specs.Scans.{Scanned}
use Rattle.intake.specs.Steps.{Gathers, GathersAll, TooMany, Sweeps, SweptIn, SweptOut, PutsFaces}

-- tables of one length have the same room
module _ (t₀ t : List ℕ) (e : length t ≡ length t₀) where
  pub gathers_there : (text : List ℕ) (n : ℕ) (t' : List ℕ) (r : Result ℕ Refusal) → Gathers text n (cells_of t) t' r → Gathers text n (cells_of t₀) t' r
  gathers_there text n t' r g = subst (λ (x : ℕ). Gathers text n (x / width) t' r) e g

  pub sweeps_there : (t' : List ℕ) (m : ℕ) (r : Result ℕ Refusal) → Sweeps (cells_of t) t t' m r → Sweeps (cells_of t₀) t t' m r
  sweeps_there t' m r s = subst (λ (x : ℕ). Sweeps (x / width) t t' m r) e s

  pub puts_there : {m : ℕ} {t' : List ℕ} → PutsFaces (cells_of t) t m t' → PutsFaces (cells_of t₀) t m t'
  puts_there {m} {t'} p = subst (λ (x : ℕ). PutsFaces (x / width) t m t') e p

module _ (text : List ℕ) (n room : ℕ) where
  -- more points than records
  pub fills_no_points : room < n → TooMany text n room NoRoom
  fills_no_points h = record { refusal = refl; full = λ ls e. omega (arith, h, points_most n ls) }

  module _ (t : List ℕ) (g : ℕ) (gathers : GathersAll text n room t g) (whole : Scanned text n true) where
    range : (ls : List (List ℕ)) → IsList text n ls → InRange n ls
    range ls e = fits_range n ls (ap (list_fits n) (reading_unique text n n ls whole.lines e whole.is_list).1 ∙ whole.fits)

    pub fills_no_facets : (e : Refusal) → SweptOut room t g e → TooMany text n room e
    fills_no_facets e out = record { refusal = out.refusal; full = λ ls l. out.full n ls (range ls l) (gathers.gathers ls l) }

    pub fills_all :
        (t' : List ℕ) (m : ℕ) → SweptIn room t t' g m → (u : List ℕ) → PutsFaces room t' m u → (ls : List (List ℕ)) → IsList text n ls →
        (length (cell_list n ls) ≤ room) × (u ≡ list_table room (cell_list n ls))
    fills_all t' m sweeps u puts ls e =
        let l = sweeps.sweeps n ls (range ls e) (gathers.gathers ls e) in
        (omega (arith, l.count, sweeps.most), puts.table (cell_list n ls) (list_complete n ls e.lines) l.count l.kept)
