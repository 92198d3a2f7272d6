-- What a writer of text holds after some writes to it, where each of them adds to an intact text and leaves it intact: all that they wrote.
-- Assumes nothing.
use Rattle.std.proofs.Common.{◌≡◌, sym, ap, ◌∙◌, List, ℕ, [], ◌∷◌, ◌++◌, subst, append-nil, append_assoc}
use Rattle.std.specs.List.{FoldsTo, concat}
use Rattle.std.specs.Fmt.{WritesInCalls}

module _
    {W : Type 0} (intact : W → Type 0) (text : W → List ℕ) (took : W → List ℕ → W → Type 0)
    (adds : (s : W) (bs : List ℕ) (t : W) → took s bs t → intact s → intact t × (text t ≡ text s ++ bs)) where
  after_calls : (s : W) (parts : List (List ℕ)) (t : W) → FoldsTo took s parts t → intact s → intact t × (text t ≡ text s ++ concat parts)
  after_calls s [] t same whole = (subst intact same whole, ap text (sym same) ∙ sym (append-nil (text s)))
  after_calls s (x ∷ parts) t calls whole =
      let first = adds s x calls.0 calls.1 whole in
      let rest = after_calls calls.0 parts t calls.2 first.0 in
      (rest.0, rest.1 ∙ ap (λ l. l ++ concat parts) first.1 ∙ append_assoc (text s) x (concat parts))

  pub all_of_it : (s : W) (bs wanted : List ℕ) (t : W) → intact s → text s ≡ [] → WritesInCalls took s bs t → bs ≡ wanted → text t ≡ wanted
  all_of_it s bs wanted t whole none wrote same =
      (after_calls s wrote.parts t wrote.calls whole).1 ∙ ap (λ l. l ++ concat wrote.parts) none ∙ wrote.whole ∙ same
