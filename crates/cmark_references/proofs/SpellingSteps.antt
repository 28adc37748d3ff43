-- The spelling of an entry's label in a table of definitions after a definition was added. L: its labels; key: their folded form; D: its
-- definitions.
use Rattle.std.proofs.Common.{◌≡◌, refl, sym, ap, subst, ◌∙◌, ℕ, List, [], ◌∷◌, Bool, true, false, Option, Some, None, bytes_eq, if◌then◌else◌, is_some, true≢false}
use Rattle.std.specs.BTreeMap.{insert_entry}
use Rattle.std.specs.Cmp.Lexicographic.{bytes_decides, slice_cmp}
use Rattle.std.specs.Map.{lookup, lookup_entry}
use Rattle.std.specs.Ordering.{is_eq, match_ordering, nat_cmp}
use Rattle.std.specs.declared.cmp.Ordering.{Ordering}
use Rattle.std.specs.declared.cmp.Ordering.TheVariants.{Less, Equal, Greater}
use Rattle.std.proofs.lemmas.Map.Text.{is_eq-slice_cmp}
use Rattle.cmark_references.specs.Definitions.{at_label, first_of}

-- a label that is not found has no entry
pub no_entry : {L D : Type 0} (test : L → Bool) (es : List (L × D)) → lookup test es ≡ None → lookup_entry test es ≡ None
no_entry test [] none = refl
no_entry test (e ∷ es) none = go (test e.0) (no_entry test es) none
  where
    go : (here : Bool) → (lookup test es ≡ None → lookup_entry test es ≡ None) → (if here then Some e.1 else lookup test es) ≡ None → (if here then Some e else lookup_entry test es) ≡ None
    go true ih none = cc
    go false ih none = ih none

-- a label without an entry is not found
pub none_looked_up : {L D : Type 0} (test : L → Bool) (es : List (L × D)) → lookup_entry test es ≡ None → lookup test es ≡ None
none_looked_up test [] none = refl
none_looked_up test (e ∷ es) none = go (test e.0) (none_looked_up test es) none
  where
    go : (here : Bool) → (lookup_entry test es ≡ None → lookup test es ≡ None) → (if here then Some e else lookup_entry test es) ≡ None → (if here then Some e.1 else lookup test es) ≡ None
    go true ih none = cc
    go false ih none = ih none

pub some_there : {D : Type 0} (found : Option D) (here : Bool) → here ≡ is_some found → here ≡ true → found ≡ None → ⊥
some_there found here e y none = true≢false (sym y ∙ e ∙ ap is_some none)

-- whether a label has this folded form
abbrev pub at : {L : Type 0} → (L → List ℕ) → List ℕ → L → Bool
at key folded label = is_eq (slice_cmp nat_cmp folded (key label))

module _ {L D : Type 0} (key : L → List ℕ) where
  -- before another entry
  before : (label : L) (def : D) (folded : List ℕ) (found : Option (L × D)) (same : Bool) → bytes_eq folded (key label) ≡ same → (same ≡ true → found ≡ None)
      → (if same then Some (label, def) else found) ≡ first_of found (if same then Some (label, def) else None)
  before label def folded found true is none = sym (ap (λ f. first_of f (Some (label, def))) (none refl))
  before label def folded None false is none = refl
  before label def folded (Some e) false is none = refl

  pub inserted : (label : L) (def : D) (folded : List ℕ) (es : List (L × D)) → lookup_entry (at key (key label)) es ≡ None
      → lookup_entry (at key folded) (insert_entry (λ a b. slice_cmp nat_cmp (key a) (key b)) es label def) ≡ first_of (lookup_entry (at key folded) es) (at_label (key label) (label, def) folded)
  inserted label def folded [] none = ap (λ b. if b then Some (label, def) else None) (is_eq-slice_cmp folded (key label))
  inserted label def folded (e ∷ es) none = go (slice_cmp nat_cmp (key label) (key e.0)) refl (inserted label def folded es)
    where
      same_key : bytes_eq folded (key label) ≡ true → lookup_entry (at key folded) (e ∷ es) ≡ None
      same_key is = subst (λ l. lookup_entry (at key l) (e ∷ es) ≡ None) (sym ((bytes_decides folded (key label)).0 is)) none

      further : (here there : Bool) → (if here then Some e else lookup_entry (at key (key label)) es) ≡ None → here ≡ false
          → (lookup_entry (at key (key label)) es ≡ None → lookup_entry (at key folded) (insert_entry (λ a b. slice_cmp nat_cmp (key a) (key b)) es label def) ≡ first_of (lookup_entry (at key folded) es) (at_label (key label) (label, def) folded))
          → (if there then Some e else lookup_entry (at key folded) (insert_entry (λ a b. slice_cmp nat_cmp (key a) (key b)) es label def))
          ≡ first_of (if there then Some e else lookup_entry (at key folded) es) (at_label (key label) (label, def) folded)
      further true there none is ih = cc
      further false true none is ih = refl
      further false false none is ih = ih none

      taken : (here : Bool) → here ≡ true → (if here then Some e else lookup_entry (at key (key label)) es) ≡ None → ⊥
      taken true is none = cc
      taken false is none = cc

      go : (o : Ordering) → slice_cmp nat_cmp (key label) (key e.0) ≡ o
          → (lookup_entry (at key (key label)) es ≡ None → lookup_entry (at key folded) (insert_entry (λ a b. slice_cmp nat_cmp (key a) (key b)) es label def) ≡ first_of (lookup_entry (at key folded) es) (at_label (key label) (label, def) folded))
          → lookup_entry (at key folded) (match_ordering o ((label, def) ∷ (e ∷ es)) ((e.0, def) ∷ es) (e ∷ insert_entry (λ a b. slice_cmp nat_cmp (key a) (key b)) es label def))
          ≡ first_of (lookup_entry (at key folded) (e ∷ es)) (at_label (key label) (label, def) folded)
      go Less is ih =
          ap (λ b. if b then Some (label, def) else lookup_entry (at key folded) (e ∷ es)) (is_eq-slice_cmp folded (key label))
          ∙ before label def folded (lookup_entry (at key folded) (e ∷ es)) (bytes_eq folded (key label)) refl same_key
      go Equal is ih = absurd (taken (at key (key label) e.0) (ap is_eq is) none)
      go Greater is ih = further (at key (key label) e.0) (at key folded e.0) none (ap is_eq is) ih

-- a label that is there already stays as it is spelled
pub spelled_before : {L D : Type 0} (key : L → List ℕ) (label : L) (def : D) (folded : List ℕ) (es : List (L × D)) → (lookup_entry (at key (key label)) es ≡ None → ⊥)
    → lookup_entry (at key folded) es ≡ first_of (lookup_entry (at key folded) es) (at_label (key label) (label, def) folded)
spelled_before {L = L} {D = D} key label def folded es there = go (lookup_entry (at key folded) es) refl (bytes_eq folded (key label)) refl
  where
    go : (found : Option (L × D)) → lookup_entry (at key folded) es ≡ found → (same : Bool) → bytes_eq folded (key label) ≡ same
        → found ≡ first_of found (if same then Some (label, def) else None)
    go (Some e) is same b = refl
    go None is false b = refl
    go None is true b = absurd (there (subst (λ l. lookup_entry (at key l) es ≡ None) ((bytes_decides folded (key label)).0 b) is))
