-- The whole text, line by line: the state on the way, the end, and a place where no line stands.
-- What carries it: the lines passed are the first ones of any reading. Assumes nothing.
use mathlib.Core.Path.{◌≡◌, refl, sym, ap, ap₂, subst, ◌∙◌}
use mathlib.Core.Bool.{Bool, true, ◌&&◌}
use mathlib.Core.List.{List, [], ◌∷◌, ◌++◌, append_assoc, append-nil}
use Prim.Native.Nat.{ℕ, ◌≤◌, ◌<◌}
use native.Mathlib.Omega.{arith}
use lib.ListN.{length, drop, length-drop, drop_of_length-le}
use Rattle.partlist.specs.Text.{numbers_end, line_text, text_of, AllLines, IsList, NoList}
use Rattle.partlist.proofs.Reading.{Further, text_onward, no_reading, lines_more, text_more}
use Rattle.partlist.specs.Indices.{line_fits, list_fits}
use Rattle.partlist.proofs.Indices.{fits_more, fits_part}
use Rattle.lines.specs.Scans.{ReadsLine, NoLine, Opens, Scanned}

-- the count n and some lines are passed, up to the place `at`, and `fit` says whether their indices fit
pub record Onto (text : List ℕ) (n at : ℕ) (fit : Bool) : Type 0 where
  pub inside : at ≤ length text
  pub short : n < numbers_end
  pub passed : List (List ℕ)
  pub lines : AllLines passed
  pub reads : text ≡ text_of n passed ++ drop at text
  pub fits : list_fits n passed ≡ fit

unfoldable pub onto_first : (text : List ℕ) (n at : ℕ) → Opens text n at → Onto text n at true
unfolding list_fits
onto_first text n at w = record { inside = w.inside; short = w.short; passed = []; lines = tt; reads = w.reads; fits = refl }

module _ (text : List ℕ) (n at : ℕ) (fit : Bool) (o : Onto text n at fit) where
  unfoldable pub onto_more : (l : List ℕ) (i : ℕ) (b : Bool) → ReadsLine text at l i → b ≡ line_fits n l → Onto text n i (fit && b)
  onto_more l i b r e =
      record {
        inside = r.inside;
        short = o.short;
        passed = o.passed ++ (l ∷ []);
        lines = lines_more o.passed l o.lines r.line;
        reads =
            o.reads
            ∙ ap (λ (x : List ℕ). text_of n o.passed ++ x) r.reads
            ∙ sym (append_assoc (text_of n o.passed) (line_text l) (drop i text))
            ∙ ap (λ (x : List ℕ). x ++ drop i text) (sym (text_more n o.passed l));
        fits = fits_more n o.passed l ∙ ap₂ ◌&&◌ o.fits (sym e);
      }

  unfoldable pub all_read : length text ≤ at → Scanned text n fit
  all_read h =
      record {
        lines = o.passed;
        is_list = record {
          is_text = o.reads ∙ ap (λ (x : List ℕ). text_of n o.passed ++ x) (drop_of_length-le text h) ∙ append-nil (text_of n o.passed);
          count = o.short;
          lines = o.lines;
        };
        fits = o.fits;
      }

  pub line_missing : at < length text → NoLine (drop at text) → NoList text
  line_missing h bad n' ls e =
      no_reading n o.passed (drop at text) o.short o.lines (omega (arith, length-drop at text)) bad n' ls
      (subst (λ (x : List ℕ). IsList x n' ls) o.reads e)

  -- the lines passed are the first ones of any reading
  pub onto_part : (ls : List (List ℕ)) → IsList text n ls → Further o.passed ls (drop at text)
  onto_part ls e =
      (text_onward n n o.passed ls (drop at text) o.short o.lines (subst (λ (x : List ℕ). IsList x n ls) o.reads e)).further

  pub onto_fits : (ls : List (List ℕ)) → IsList text n ls → list_fits n ls ≡ true → fit ≡ true
  onto_fits ls e h =
      let p = onto_part ls e in
      sym o.fits ∙ fits_part n o.passed p.others (ap (list_fits n) (sym p.joined) ∙ h)
