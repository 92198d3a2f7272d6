-- The lines, taken in one after the other: the state between two lines, a line that is taken in, and the end.
-- What carries it: the lines passed are the first ones of the reading, and each one's cell is a cell of the list. Assumes nothing.
use mathlib.Core.Path.{◌≡◌, refl, sym, ap, subst}
use mathlib.Core.Bool.{true, ◌&&◌}
use mathlib.Core.List.{List, [], ◌∷◌, ◌++◌}
use Prim.Native.Nat.{ℕ, ◌≤◌, ◌<◌}
use native.Mathlib.Omega.{arith}
use lib.ListN.{length}
use Rattle.std.specs.Prelude.{Option, Some, None, IsSome}
use Rattle.calls.specs.declared.Refusal.{Refusal}
use Rattle.table.specs.Kind.{capacity, free_mark}
use Rattle.partlist.specs.Text.{IsLine}
use Rattle.partlist.specs.Indices.{line_fits, Fit}
use Rattle.partlist.specs.Sorting.{compared_numbers, sorted_up}
use Rattle.partlist.specs.Cells.{cell_list}
use Rattle.partlist.specs.Sweep.{points_from, Gathered}
use Rattle.partlist.proofs.Indices.{line_fit, fit_wider}
use Rattle.partlist.proofs.Reading.{reading_unique}
use Rattle.partlist.proofs.Sweep.{gathered_most}
use Rattle.partlist.proofs.Gathering.{gather_points, gather_found, gather_put, cells_grow, points_from_length}
use Rattle.lines.specs.Scans.{Opens, Scanned, ReadsLine, LineAt}
use Rattle.lines.proofs.Wholes.{Onto, onto_first, onto_more, onto_fits, onto_part, line_missing, all_read}
use Rattle.corners.specs.Scratch.{Kept, Packs, Taken, Overfull, Joined, TakenIn, LeftOut}
use Rattle.corners.specs.Scratch.Joined.{there, put}
use Rattle.intake.specs.Steps.{GathersAll, TooMany}

-- the lines up to the place `at` are passed, and the table holds m cells that have them
pub record Reached (text : List ℕ) (n room : ℕ) (t : List ℕ) (at m : ℕ) : Type 0 where
  pub onto : Onto text n at true
  pub cells : List (List ℕ)
  pub count : length cells ≡ m
  pub kept : Kept room t cells
  pub gathered : Gathered n onto.passed cells

pub reached_none :
    (text : List ℕ) (n room : ℕ) (t : List ℕ) (at : ℕ) → Opens text n at → Kept room t (points_from 0 n) → Reached text n room t at n
unfolding onto_first
reached_none text n room t at o k =
    record {
      onto = onto_first text n at o;
      cells = points_from 0 n;
      count = points_from_length 0 n;
      kept = k;
      gathered = gather_points n;
    }

-- the cell of a line among the cells
joined_gathered :
    (n :
    ℕ) (ls : List (List ℕ)) (l : List ℕ) (cs cs' : List (List ℕ)) → Gathered n ls cs → IsLine l → Joined cs (sorted_up compared_numbers l) cs' →
    Gathered n (ls ++ (l ∷ [])) cs'
joined_gathered n ls l cs cs' g h (there i) = gather_found n ls l cs g i
joined_gathered n ls l cs cs' g h (put k fit) = gather_put n ls l cs k g h fit

module _ (text : List ℕ) (n room : ℕ) (t : List ℕ) (at m : ℕ) (s : Reached text n room t at m) where
  reached_room : m ≤ room
  reached_room = omega (arith, s.count, s.kept.room)

  module _ (whole : Scanned text n true) where
    -- a line stands where the text has not ended
    pub line_some : at < length text → (r : Option (List ℕ × ℕ)) → LineAt text at r → IsSome {T = List ℕ × ℕ} r
    line_some h (Some l) w = refl
    line_some h None bad = absurd (line_missing text n at true s.onto h bad n whole.lines whole.is_list)

    module _ (l : List ℕ) (i : ℕ) (reads : ReadsLine text at l i) where
      further : Onto text n i (true && line_fits n l)
      further = onto_more text n at true s.onto l i (line_fits n l) reads refl

      line_fits_lem : line_fits n l ≡ true
      line_fits_lem = onto_fits text n i (true && line_fits n l) further whole.lines whole.is_list whole.fits

      pub line_fit_small : n ≤ capacity → Fit free_mark l
      line_fit_small h = fit_wider n free_mark l (omega arith) (line_fit n l line_fits_lem)

      onto_next : Onto text n i true
      onto_next = onto_more text n at true s.onto l i true reads (sym line_fits_lem)

      module _ (p : ℕ) (ws : List ℕ) (packs : Packs p ws (sorted_up compared_numbers l)) where
        gathered_next : (cs : List (List ℕ)) → Joined s.cells (sorted_up compared_numbers l) cs → Gathered n onto_next.passed cs
        unfolding onto_next onto_more
        gathered_next cs joined = joined_gathered n s.onto.passed l s.cells cs s.gathered reads.line joined

        pub reached_more : (t' : List ℕ) (r : ℕ) → TakenIn t t' m p ws r → Reached text n room t' i r
        reached_more t' r takes =
            let took : Taken room s.cells (sorted_up compared_numbers l) t' r = takes.taken room s.cells (sorted_up compared_numbers l) s.count s.kept packs in
            record { onto = onto_next; cells = took.cells; count = took.count; kept = took.kept; gathered = gathered_next took.cells took.joined }

        -- one cell too many
        pub too_many : (t' : List ℕ) (e : Refusal) → LeftOut t t' m p ws e → TooMany text n room e
        too_many t' e out =
            let o : Overfull room s.cells (sorted_up compared_numbers l) = out.full room s.cells (sorted_up compared_numbers l) s.count s.kept packs in
            record {
              refusal = out.refusal;
              full = λ ls e.
                  let p = onto_part text n i true onto_next ls e in
                  omega (
                    arith,
                    o.full,
                    gathered_most n onto_next.passed o.cells (gathered_next o.cells o.joined),
                    cells_grow n onto_next.passed p.others,
                    ap (λ (x : List (List ℕ)). length (cell_list n x)) p.joined,
                  );
            }

  pub all_reached : length text ≤ at → GathersAll text n room t m
  unfolding all_read
  all_reached h =
      record {
        most = reached_room;
        gathers = λ ls e.
            let w = all_read text n at true s.onto h in
            record {
              cells = s.cells;
              count = s.count;
              kept = s.kept;
              gathered = subst (λ (x : List (List ℕ)). Gathered n x s.cells) (reading_unique text n n w.lines ls w.is_list e).1 s.gathered;
            };
      }
