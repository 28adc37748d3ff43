-- Each entry of a table is the one that its label finds. L: its labels; key: their folded form; D: its definitions.
use Rattle.std.proofs.Common.{◌≡◌, refl, sym, ap, ◌∙◌, ℕ, List, [], ◌∷◌, Bool, true, false, Some, All, if◌then◌else◌, option_map}
use Rattle.std.specs.List.{AllByRecursion, IsDistinct}
use Rattle.std.specs.List.Sorted.{IsStrictlySortedBy}
use Rattle.std.proofs.lemmas.List.Elements.{All-from_recursion}
use Rattle.std.proofs.lemmas.Map.Keys.{IsDistinct-from_sorted, IsDistinct-head, IsDistinct-tail}
use Rattle.std.proofs.lemmas.Map.Text.{is_eq-slice_cmp}
use Rattle.std.specs.Cmp.Lexicographic.{nat_list_eq_equiv}
use Rattle.std.specs.Map.{keys_of, lookup, lookup_entry}
use Rattle.std.specs.Ordering.{eq_by_cmp}
use Rattle.cmark_references.proofs.DefinitionSteps.{label_cmp}
use Rattle.cmark_references.proofs.SpellingSteps.{at}

-- a look-up gives the definition of the entry
pub looked_up : {L D : Type 0} (test : L → Bool) (es : List (L × D)) → lookup test es ≡ option_map (λ e. e.1) (lookup_entry test es)
looked_up test [] = refl
looked_up test (e ∷ es) = go (test e.0) (looked_up test es)
  where
    go : (here : Bool) → lookup test es ≡ option_map (λ e. e.1) (lookup_entry test es)
        → (if here then Some e.1 else lookup test es) ≡ option_map (λ e. e.1) (if here then Some e else lookup_entry test es)
    go true later = refl
    go false later = later

module _ {L D : Type 0} (key : L → List ℕ) where
  -- in these entries this one is found by its own label
  abbrev Finds : List (L × D) → L × D → Type 0
  Finds es e = lookup_entry (at key (key e.0)) es ≡ Some e

  -- after an entry of another label the same entries are found
  following : (x : L × D) (es found : List (L × D)) → AllByRecursion (λ k. eq_by_cmp (label_cmp key) x.0 k ≡ false) (keys_of found) → AllByRecursion (Finds es) found
      → AllByRecursion (Finds (x ∷ es)) found
  following x es [] apart h = tt
  following x es (e ∷ found) apart h = (
    ap (λ b. if b then Some x else lookup_entry (at key (key e.0)) es) (is_eq-slice_cmp (key e.0) (key x.0) ∙ nat_list_eq_equiv.symm (key e.0) (key x.0) ∙ sym (is_eq-slice_cmp (key x.0) (key e.0)) ∙ apart.0) ∙ h.0,
    following x es found apart.1 h.1,
  )

  each : (es : List (L × D)) → IsDistinct (eq_by_cmp (label_cmp key)) (keys_of es) → AllByRecursion (Finds es) es
  each [] once = tt
  each (e ∷ es) once = (
    ap (λ b. if b then Some e else lookup_entry (at key (key e.0)) es) (is_eq-slice_cmp (key e.0) (key e.0) ∙ nat_list_eq_equiv.refl (key e.0)),
    following e es es (IsDistinct-head _ e.0 (keys_of es) once) (each es (IsDistinct-tail _ e.0 (keys_of es) once)),
  )

  pub each_found : (es : List (L × D)) → IsStrictlySortedBy (label_cmp key) (keys_of es) → All (Finds es) es
  each_found es ordered = All-from_recursion (Finds es) es (each es (IsDistinct-from_sorted (label_cmp key) (keys_of es) ordered))
