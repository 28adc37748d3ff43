-- The content of a table of definitions at a folded label after a definition was added. L: its labels; key: their folded form; D: its
-- definitions.
use Rattle.std.proofs.Common.{◌≡◌, refl, sym, ap, subst, ◌∙◌, ℕ, List, Bool, true, false, Option, Some, None, bytes_eq, ⊎_elim, if◌then◌else◌, is_some, option_map}
use Rattle.std.proofs.lemmas.Bool.{false≢true}
use Rattle.std.specs.Ordering.{is_eq, nat_cmp}
use Rattle.std.specs.declared.cmp.Ordering.{Ordering}
use Rattle.std.specs.Cmp.Lexicographic.{slice_cmp, bytes_decides, nat_list_cmp_total, nat_list_eq_equiv}
use Rattle.std.specs.BTreeMap.{BTreeMap, get_by, UpdatesBy}
use Rattle.std.specs.Map.{KeepsOthers, IsKeyTest, AreApart, lookup}
use Rattle.std.proofs.lemmas.Map.Text.{is_eq-slice_cmp}
use Rattle.std.proofs.lemmas.Cmp.{eq_by_cmp_equiv}
use Rattle.std.proofs.lemmas.Bool.{cases_Bool}
use Rattle.cmark_references.specs.Definitions.{first_of, at_label}

module _ {L : Type 0} (key : L → List ℕ) where
  abbrev pub label_cmp : L → L → Ordering
  label_cmp a b = slice_cmp nat_cmp (key a) (key b)

  abbrev pub at_key : List ℕ → L → Ordering
  at_key folded label = slice_cmp nat_cmp folded (key label)

  apart : (bs cs ks : List ℕ) → bytes_eq bs cs ≡ false → is_eq (slice_cmp nat_cmp bs ks) ≡ true → is_eq (slice_cmp nat_cmp cs ks) ≡ false
  apart bs cs ks n y = is_eq-slice_cmp cs ks ∙ (nat_list_eq_equiv.symm cs ks ∙ sym (nat_list_eq_equiv.congr bs ks cs (sym (is_eq-slice_cmp bs ks) ∙ y)) ∙ n)

-- a definition of a label that has one changes nothing
none_more : {D : Type 0} (found : Option D) → found ≡ first_of found None
none_more None = refl
none_more (Some def) = refl

pub none_there : {D : Type 0} (found : Option D) (here : Bool) → here ≡ is_some found → here ≡ false → found ≡ None
none_there None here e n = refl
none_there (Some def) here e n = absurd (false≢true (sym n ∙ e))

module _ {L D : Type 0} (key : L → List ℕ) where
  others : (test : L → Bool) (old new : List (L × D)) → KeepsOthers (λ a b. is_eq (label_cmp key a b)) test old new
      → (other : L → Bool) → IsKeyTest (λ a b. is_eq (label_cmp key a b)) other → AreApart test other → lookup other new ≡ lookup other old
  unfolding KeepsOthers
  others test old new h = h

  pub written : (label : L) (def : D) (m n : BTreeMap L D) → UpdatesBy (label_cmp key) (label_cmp key label) m n (Some def)
      → (folded : List ℕ) → get_by (at_key key folded) n ≡ (if bytes_eq folded (key label) then Some def else get_by (at_key key folded) m)
  written label def m n h folded =
      ⊎_elim
      (λ y.
      subst (λ l. get_by (at_key key l) n ≡ (if bytes_eq l (key label) then Some def else get_by (at_key key l) m)) (sym ((bytes_decides folded (key label)).0 y))
      (h.1 ∙ ap (λ b. if b then Some def else get_by (label_cmp key label) m) (sym (nat_list_eq_equiv.refl (key label)))))
      (λ n'.
      others _ _ _ h.3 _ (λ x y. (eq_by_cmp_equiv nat_list_cmp_total).congr folded (key x) (key y)) (λ k. apart key (key label) folded (key k) (nat_list_eq_equiv.symm (key label) folded ∙ n'))
      ∙ ap (λ b. if b then Some def else get_by (at_key key folded) m) (sym n'))
      (cases_Bool (bytes_eq folded (key label)))

  pub rewritten : (f : D → D) (label : L) (def : D) (m n : BTreeMap L D) → get_by (label_cmp key label) m ≡ Some def → UpdatesBy (label_cmp key) (label_cmp key label) m n (Some (f def))
      → (folded : List ℕ) → get_by (at_key key folded) n ≡ (if bytes_eq folded (key label) then option_map f (get_by (at_key key folded) m) else get_by (at_key key folded) m)
  rewritten f label def m n there h folded =
      written label (f def) m n h folded
      ∙ ⊎_elim
      (λ y.
      subst (λ l. (if bytes_eq l (key label) then Some (f def) else get_by (at_key key l) m) ≡ (if bytes_eq l (key label) then option_map f (get_by (at_key key l) m) else get_by (at_key key l) m))
      (sym ((bytes_decides folded (key label)).0 y))
      (ap (λ found. if bytes_eq (key label) (key label) then option_map f found else get_by (label_cmp key label) m) (sym there)))
      (λ n'.
      ap (λ b. if b then Some (f def) else get_by (at_key key folded) m) n'
      ∙ sym (ap (λ b. if b then option_map f (get_by (at_key key folded) m) else get_by (at_key key folded) m) n'))
      (cases_Bool (bytes_eq folded (key label)))

  other_label : (label : L) (def : D) (found : Option D) (folded : List ℕ) → bytes_eq folded (key label) ≡ false
      → found ≡ first_of found (at_label (key label) def folded)
  other_label label def found folded n = none_more found ∙ ap (λ b. first_of found (if b then Some def else None)) (sym n)

  pub kept : (label : L) (def : D) (m n : BTreeMap L D) → get_by (label_cmp key label) m ≡ None
      → UpdatesBy (label_cmp key) (label_cmp key label) m n (Some def)
      → (folded : List ℕ) → get_by (at_key key folded) n ≡ first_of (get_by (at_key key folded) m) (at_label (key label) def folded)
  kept label def m n absent h folded =
      ⊎_elim
      (λ y.
      subst (λ l. get_by (at_key key l) n ≡ first_of (get_by (at_key key l) m) (at_label (key label) def l)) (sym ((bytes_decides folded (key label)).0 y))
      (h.1 ∙ ap (λ found. first_of found (Some def)) (sym absent) ∙ ap (λ b. first_of (get_by (label_cmp key label) m) (if b then Some def else None)) (sym (nat_list_eq_equiv.refl (key label)))))
      (λ n'.
      others _ _ _ h.3 _ (λ x y. (eq_by_cmp_equiv nat_list_cmp_total).congr folded (key x) (key y)) (λ k. apart key (key label) folded (key k) (nat_list_eq_equiv.symm (key label) folded ∙ n'))
      ∙ other_label label def (get_by (at_key key folded) m) folded n')
      (cases_Bool (bytes_eq folded (key label)))
