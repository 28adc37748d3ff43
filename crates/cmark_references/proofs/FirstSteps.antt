-- A table of definitions after an entry was put where its label had none. L: its labels; key: their folded form; D: its definitions.
use Rattle.std.proofs.Common.{◌≡◌, refl, sym, ap, ap₂, subst, ◌∙◌, ℕ, List, [], ◌∷◌, Bool, true, false, Option, Some, None, IsSome, bytes_eq, if◌then◌else◌, option_map}
use Rattle.std.specs.BTreeMap.{BTreeMap, get_by, insert_entry, UpdatesBy}
use Rattle.std.specs.Map.{keys_of, lookup, lookup_entry}
use Rattle.std.specs.Option.{unwrap_or}
use Rattle.cmark_references.specs.Definitions.{first_of, at_label}
use Rattle.cmark_references.proofs.DefinitionSteps.{at_key, label_cmp, rewritten}
use Rattle.cmark_references.proofs.EntrySteps.{looked_up}
use Rattle.cmark_references.proofs.SpellingSteps.{at, inserted, no_entry, none_looked_up, spelled_before}

-- entries with the same keys and the same look-ups are the same for a label
same_entry : {L D : Type 0} (test : L → Bool) (old new : List (L × D)) → keys_of new ≡ keys_of old → lookup test new ≡ lookup test old → lookup_entry test new ≡ lookup_entry test old
same_entry test [] [] keys found = refl
same_entry test [] (n ∷ new) keys found = cc
same_entry test (o ∷ old) [] keys found = cc
same_entry {L = L} {D = D} test (o ∷ old) (n ∷ new) keys found =
    let key : n.0 ≡ o.0 = cc in
    let later : keys_of new ≡ keys_of old = cc in
    go (test n.0) (test o.0) (ap test key) key found (same_entry test old new later)
  where
    go : (here there : Bool) → here ≡ there → n.0 ≡ o.0 → (if here then Some n.1 else lookup test new) ≡ (if there then Some o.1 else lookup test old)
        → (lookup test new ≡ lookup test old → lookup_entry test new ≡ lookup_entry test old)
        → (if here then Some n else lookup_entry test new) ≡ (if there then Some o else lookup_entry test old)
    go true true same key value ih = let def : n.1 ≡ o.1 = cc in ap₂ (λ k d. Some (k, d)) key def
    go true false same key value ih = cc
    go false true same key value ih = cc
    go false false same key value ih = ih value

pub found_in : {L D : Type 0} (test : L → Bool) (new entries : List (L × D)) → new ≡ entries → lookup_entry test new ≡ lookup_entry test entries
found_in test new entries e = ap (lookup_entry test) e

same_found : {D : Type 0} (same : Bool) (found : Option D) → (if same then option_map (λ d. d) found else found) ≡ found
same_found false found = refl
same_found true None = refl
same_found true (Some d) = refl

is_not_none : {D : Type 0} (d : D) → Some d ≡ None → ⊥
is_not_none d e = cc

module _ {L D : Type 0} (key : L → List ℕ) where
  pub first_put : (label : L) (def w : D) (m n : BTreeMap L D) → w ≡ unwrap_or (get_by (label_cmp key label) m) def
      → UpdatesBy (label_cmp key) (label_cmp key label) m n (Some w)
      → n.entries ≡ insert_entry (label_cmp key) m.entries label w
      → (IsSome (get_by (label_cmp key label) m) → keys_of n.entries ≡ keys_of m.entries)
      → (folded : List ℕ) → lookup_entry (at key folded) n.entries ≡ first_of (lookup_entry (at key folded) m.entries) (at_label (key label) (label, def) folded)
  first_put label def w m n value updates entries keys folded = go (get_by (label_cmp key label) m) refl
    where
      go : (there : Option D) → get_by (label_cmp key label) m ≡ there
          → lookup_entry (at key folded) n.entries ≡ first_of (lookup_entry (at key folded) m.entries) (at_label (key label) (label, def) folded)
      go None none =
          ap (lookup_entry (at key folded)) (entries ∙ ap (insert_entry (label_cmp key) m.entries label) (value ∙ ap (λ found. unwrap_or found def) none))
          ∙ inserted key label def folded m.entries (no_entry (at key (key label)) m.entries none)
      go (Some d) some =
          let is : w ≡ d = value ∙ ap (λ found. unwrap_or found def) some in
          same_entry (at key folded) m.entries n.entries (keys (subst IsSome (sym some) refl))
          (rewritten key (λ x. x) label d m n some (subst (λ v. UpdatesBy (label_cmp key) (label_cmp key label) m n (Some v)) is updates) folded
          ∙ same_found (bytes_eq folded (key label)) (get_by (at_key key folded) m))
          ∙ spelled_before key label def folded m.entries (λ none. is_not_none d (sym some ∙ none_looked_up (at key (key label)) m.entries none))

  pub first_found : (label : L) (def : D) (old new : List (L × D)) (folded : List ℕ)
      → lookup_entry (at key folded) new ≡ first_of (lookup_entry (at key folded) old) (at_label (key label) (label, def) folded)
      → lookup (at key folded) new ≡ first_of (lookup (at key folded) old) (at_label (key label) def folded)
  first_found label def old new folded entry =
      looked_up (at key folded) new
      ∙ ap (option_map (λ e. e.1)) entry
      ∙ go (lookup_entry (at key folded) old) (bytes_eq folded (key label))
      ∙ ap (λ found. first_of found (at_label (key label) def folded)) (sym (looked_up (at key folded) old))
    where
      go : (found : Option (L × D)) (same : Bool)
          → option_map (λ e. e.1) (first_of found (if same then Some (label, def) else None)) ≡ first_of (option_map (λ e. e.1) found) (if same then Some def else None)
      go (Some e) same = refl
      go None true = refl
      go None false = refl
