-- The definitions of a table are the first ones of the labels of a document.
use Rattle.std.proofs.Common.{◌≡◌, ℕ, List, [], ◌∷◌, Bool, true, false, cond, map, Some, All, bytes_eq, refl, sym, ap, subst, ◌∙◌}
use Rattle.std.specs.Prelude.{option_map}
use Rattle.std.specs.List.{AllByRecursion}
use Rattle.std.specs.Map.{lookup_entry}
use Rattle.std.specs.Ordering.{is_eq, nat_cmp}
use Rattle.std.specs.Cmp.Lexicographic.{bytes_decides, nat_list_eq_equiv, slice_cmp}
use Rattle.std.proofs.lemmas.List.Elements.{recursion_from_All}
use Rattle.std.proofs.lemmas.Map.Text.{is_eq-slice_cmp}
use Rattle.cmark_grammar.specs.BlockDocument.{Reference}
use Rattle.cmark_grammar.specs.Labels.{fold}
use Rattle.cmark_grammar.specs.References.{first_with, found_or}
use Rattle.cmark_references.specs.Definitions.{entry_of, reference_at, shown_entry}
use Rattle.cmark_references.specs.declared.definitions.LinkDef.{LinkDef}
use Rattle.cmark_references.specs.declared.definitions.RefDefs.{RefDefs}
use Rattle.cmark_values.specs.Labelled.{link_key, link_text}
use Rattle.cmark_values.specs.declared.label.LinkLabel.{LinkLabel}

-- the first reference of a folded label has it
found_has : (folded : List ℕ) (refs : List Reference) (r : Reference) → first_with fold folded refs ≡ Some r → bytes_eq (fold r.label) folded ≡ true
found_has folded [] r h = absurd cc
found_has folded (s ∷ refs) r h = go (bytes_eq (fold s.label) folded) refl (found_has folded refs r) h
  where
    go : (b : Bool) → bytes_eq (fold s.label) folded ≡ b → (first_with fold folded refs ≡ Some r → bytes_eq (fold r.label) folded ≡ true) → found_or b s (first_with fold folded refs) ≡ Some r → bytes_eq (fold r.label) folded ≡ true
    go true e later h = let same : s ≡ r = cc in subst (λ (q : Reference). bytes_eq (fold q.label) folded ≡ true) same e
    go false e later h = later h

-- an entry that its own label finds
abbrev IsFound : RefDefs → LinkLabel × LinkDef → Type 0
IsFound table e = entry_of table (link_key e.0) ≡ Some e

abbrev test_of : List ℕ → LinkLabel → Bool
test_of folded label = is_eq (slice_cmp nat_cmp folded (link_key label))

module _ (table : RefDefs) (refs : List Reference) (same : (folded : List ℕ) → reference_at table folded ≡ first_with fold folded refs) where
  -- its label is a normal form
  key_is : (e : LinkLabel × LinkDef) → IsFound table e → fold (link_text e.0) ≡ link_key e.0
  key_is e found =
      let first : first_with fold (link_key e.0) refs ≡ Some (shown_entry e) = sym (same (link_key e.0)) ∙ ap (option_map shown_entry) found in
      (bytes_decides (fold (link_text e.0)) (link_key e.0)).0 (found_has (link_key e.0) refs (shown_entry e) first)

  -- so it is found by the same labels in both ways
  tests_are : (folded : List ℕ) (e : LinkLabel × LinkDef) → IsFound table e → bytes_eq (fold (link_text e.0)) folded ≡ test_of folded e.0
  tests_are folded e found =
      ap (λ k. bytes_eq k folded) (key_is e found) ∙ nat_list_eq_equiv.symm (link_key e.0) folded ∙ sym (is_eq-slice_cmp folded (link_key e.0))

  rest_first : (es : List (LinkLabel × LinkDef)) → AllByRecursion (IsFound table) es → (folded : List ℕ) → first_with fold folded (map shown_entry es) ≡ option_map shown_entry (lookup_entry (test_of folded) es)
  rest_first [] all folded = refl
  rest_first (e ∷ es) all folded =
      ap (λ b. found_or b (shown_entry e) (first_with fold folded (map shown_entry es))) (tests_are folded e all.0)
      ∙ go (test_of folded e.0) (rest_first es all.1 folded)
    where
      go : (b : Bool) → first_with fold folded (map shown_entry es) ≡ option_map shown_entry (lookup_entry (test_of folded) es)
          → found_or b (shown_entry e) (first_with fold folded (map shown_entry es)) ≡ option_map shown_entry (cond b (Some e) (lookup_entry (test_of folded) es))
      go true h = refl
      go false h = h

  pub all_first : All (λ e. entry_of table (link_key e.0) ≡ Some e) table → (folded : List ℕ) → first_with fold folded (map shown_entry table) ≡ first_with fold folded refs
  all_first all folded = rest_first table (recursion_from_All (IsFound table) table all) folded ∙ same folded
