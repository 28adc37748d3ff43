-- The table of link reference definitions, with another definition.
use Rattle.std.proofs.Common.{◌≡◌, ℕ, Bool, true, false, List, [], ◌∷◌, ◌++◌, Option, Some, None, option_map, refl, sym, ap, subst, ◌∙◌, true≢false}
use Rattle.std.specs.Borrow.{Bor}
use Rattle.std.specs.Prelude.{bytes_eq, if◌then◌else◌, is_some, option_copied}
use Rattle.std.proofs.lemmas.Slice.Eq.{bytes_eq-Decides}
use Rattle.cmark_grammar.specs.BlockDocument.{Reference}
use Rattle.cmark_grammar.specs.Labels.{fold}
use Rattle.cmark_grammar.specs.References.{found_or, first_with}
use Rattle.cmark_values.specs.declared.label.LinkLabel.{LinkLabel}
use Rattle.cmark_values.specs.Labelled.{link_key}
use Rattle.cmark_references.specs.Definitions.{definition, reference_at, shown_entry, first_of, at_label}
use Rattle.cmark_references.specs.declared.definitions.RefDefs.{RefDefs}
use Rattle.cmark_references.proofs.SpellingSteps.{at, no_entry}
use Rattle.cmark_references.specs.declared.definitions.LinkDef.{LinkDef}

pub eq-sym : (a b : List ℕ) → bytes_eq a b ≡ bytes_eq b a
eq-sym a b =
    go (bytes_eq a b) (bytes_eq b a) (λ e. (bytes_eq-Decides b a).1 (sym ((bytes_eq-Decides a b).0 e))) (λ e. (bytes_eq-Decides a b).1 (sym ((bytes_eq-Decides b a).0 e)))
  where
    go : (p q : Bool) → (p ≡ true → q ≡ true) → (q ≡ true → p ≡ true) → p ≡ q
    go true q x y = sym (x refl)
    go false true x y = y refl
    go false false x y = refl

-- another reference, of a different label
not-found : (folded : List ℕ) (rs : List Reference) (r : Reference) → bytes_eq (fold r.label) folded ≡ false → first_with fold folded (rs ++ r ∷ []) ≡ first_with fold folded rs
not-found folded [] r other = ap (λ z. found_or z r None) other
not-found folded (s ∷ rs) r other = ap (found_or (bytes_eq (fold s.label) folded) s) (not-found folded rs r other)

-- another reference of a known label changes nothing
pub with-known : (folded : List ℕ) (rs : List Reference) (r known : Reference) → first_with fold (fold r.label) rs ≡ Some known → first_with fold folded (rs ++ r ∷ []) ≡ first_with fold folded rs
with-known folded [] r known e = absurd (let q : None ≡ Some known = e in cc)
with-known folded (s ∷ rs) r known e = go (bytes_eq (fold s.label) folded) refl (bytes_eq (fold s.label) (fold r.label)) refl e (λ f. with-known folded rs r known f)
  where
    go : (p : Bool) → bytes_eq (fold s.label) folded ≡ p → (q : Bool) → bytes_eq (fold s.label) (fold r.label) ≡ q → found_or q s (first_with fold (fold r.label) rs) ≡ Some known →
        (first_with fold (fold r.label) rs ≡ Some known → first_with fold folded (rs ++ r ∷ []) ≡ first_with fold folded rs) →
        found_or p s (first_with fold folded (rs ++ r ∷ [])) ≡ found_or p s (first_with fold folded rs)
    go true at q same f later = refl
    go false at false same f later = later f
    go false at true same f later = not-found folded rs r (subst (λ bs. bytes_eq bs folded ≡ false) ((bytes_eq-Decides (fold s.label) (fold r.label)).0 same) at)

pub known-some : (known : Option (Bor LinkDef)) (found : Option LinkDef) → is_some known ≡ true → option_copied known ≡ found → (def : LinkDef) × (found ≡ Some def)
known-some None found e is = absurd (true≢false (sym e))
known-some (Some def) found e is = (def.now, sym is)

-- if the table has a definition, there is a reference
pub known-reference : (found : Option LinkDef) (def : LinkDef) (entry : Option (LinkLabel × LinkDef)) (o : Option Reference) → found ≡ Some def → found ≡ option_map (λ e. e.1) entry →
    option_map shown_entry entry ≡ o → (known : Reference) × (o ≡ Some known)
known-reference found def None o is looked same = absurd (let q : None ≡ Some def = sym looked ∙ is in cc)
known-reference found def (Some e) o is looked same = (shown_entry e, sym same)

-- the shown data of the first of two
pub shown-first : {D S : Type 0} (sh : D → S) (found : Option D) (key : List ℕ) (def : D) (folded : List ℕ) →
    option_map sh (first_of found (at_label key def folded)) ≡ first_of (option_map sh found) (at_label key (sh def) folded)
shown-first sh (Some d) key def folded = refl
shown-first sh None key def folded = go (bytes_eq folded key)
  where
    go : (same : Bool) → option_map sh (if same then Some def else None) ≡ (if same then Some (sh def) else None)
    go true = refl
    go false = refl

-- another reference after the others
pub with-more : (folded : List ℕ) (rs : List Reference) (r : Reference) → first_of (first_with fold folded rs) (at_label (fold r.label) r folded) ≡ first_with fold folded (rs ++ r ∷ [])
with-more folded [] r = ap (λ same. if same then Some r else None) (eq-sym folded (fold r.label)) ∙ go (bytes_eq (fold r.label) folded)
  where
    go : (same : Bool) → (if same then Some r else None) ≡ found_or same r None
    go true = refl
    go false = refl
with-more folded (s ∷ rs) r = go (bytes_eq (fold s.label) folded) (with-more folded rs r)
  where
    go : (same : Bool) → first_of (first_with fold folded rs) (at_label (fold r.label) r folded) ≡ first_with fold folded (rs ++ r ∷ []) →
        first_of (found_or same s (first_with fold folded rs)) (at_label (fold r.label) r folded) ≡ found_or same s (first_with fold folded (rs ++ r ∷ []))
    go true later = refl
    go false later = later

-- a table without definitions has no reference
pub no_reference : (table : RefDefs) (folded : List ℕ) → definition table folded ≡ None → reference_at table folded ≡ None
no_reference table folded none = ap (option_map shown_entry) (no_entry (at link_key folded) table none)
