-- A search by halves among rows whose names ascend.
use Rattle.std.proofs.Common.{◌≡◌, ℕ, ◌+◌, ◌<◌, Bool, false, cond, List, [], ◌∷◌, map, length, slice_index_or, Some, None, All, bytes_eq, option_map, refl, sym, ap, ap₂, subst, ◌∙◌, ⊎_elim, arith}
use Rattle.std.specs.Cmp.Lexicographic.{bytes_decides, nat_list_eq_equiv, slice_cmp}
use Rattle.std.specs.List.Sorted.{IsNonDecreasingBy, IsPartitionPoint, IsSortedBy, IsStrictlySortedBy}
use Rattle.std.specs.Map.{keys_of, lookup}
use Rattle.std.specs.Ordering.{is_eq, is_lt, nat_cmp, ordering_index, ordering_reverse}
use Rattle.std.specs.declared.cmp.Ordering.{Ordering}
use Rattle.std.specs.declared.cmp.Ordering.TheVariants.{Less, Equal, Greater}
use Rattle.std.proofs.lemmas.Bool.{cases_lt}
use Rattle.std.proofs.lemmas.Cmp.{eq_by_cmp_equiv, nat_list_cmp_total}
use Rattle.std.proofs.lemmas.List.{get_or-map, length-map}
use Rattle.std.proofs.lemmas.List.Elements.{All-map, recursion_from_All}
use Rattle.std.proofs.lemmas.List.Sorted.{searchable_from_sorted}
use Rattle.std.proofs.lemmas.Map.{lookup-none}
use Rattle.std.proofs.lemmas.Map.Entries.{lookup_from_place}
use Rattle.std.proofs.lemmas.Map.Keys.{IsDistinct-from_sorted, Less-from_sorted}
use Rattle.std.proofs.lemmas.Map.Text.{is_eq-slice_cmp}
use Rattle.std.proofs.lemmas.Option.{slice_get-get_or, slice_get-map}

abbrev pub entry_of : {X : Type 0} (name_of text_of : X → List ℕ) → X → List ℕ × List ℕ
entry_of name_of text_of x = (name_of x, text_of x)

keys_are : {X : Type 0} (name_of text_of : X → List ℕ) (rows : List X) → keys_of (map (entry_of name_of text_of) rows) ≡ map name_of rows
keys_are name_of text_of [] = refl
keys_are name_of text_of (x ∷ rows) = ap (λ l. name_of x ∷ l) (keys_are name_of text_of rows)

-- tests that agree find the same
same_found : {K V : Type 0} {test other : K → Bool} → ((k : K) → test k ≡ other k) → (es : List (K × V)) → lookup test es ≡ lookup other es
same_found h [] = refl
same_found h (e ∷ es) = ap₂ (λ b found. cond b (Some e.1) found) (h e.0) (same_found h es)

module _ {X : Type 0} (name_of text_of : X → List ℕ) (rows : List X) (in_order : IsStrictlySortedBy (slice_cmp nat_cmp) (keys_of (map (entry_of name_of text_of) rows))) (name : List ℕ) where
  abbrev entry : X → List ℕ × List ℕ
  entry = entry_of name_of text_of

  ascend : IsStrictlySortedBy (slice_cmp nat_cmp) (map name_of rows)
  ascend = subst (IsStrictlySortedBy (slice_cmp nat_cmp)) (keys_are name_of text_of rows) in_order

  abbrev pub ord : X → Ordering
  ord x = slice_cmp nat_cmp (name_of x) name

  not_less : (o : Ordering) → ordering_reverse o ≡ Less → is_lt o ≡ false
  not_less Greater e = refl
  not_less _ e = cc

  sorted : IsSortedBy (λ a b. is_lt (slice_cmp nat_cmp (name_of a) (name_of b))) rows
  sorted k d low high =
      let first : slice_index_or (map name_of rows) k (name_of d) ≡ name_of (slice_index_or rows k d) = get_or-map name_of rows k d (name_of d) (omega arith) in
      let second : slice_index_or (map name_of rows) (k + 1) (name_of d) ≡ name_of (slice_index_or rows (k + 1) d) = get_or-map name_of rows (k + 1) d (name_of d) high in
      let less : slice_cmp nat_cmp (slice_index_or (map name_of rows) k (name_of d)) (slice_index_or (map name_of rows) (k + 1) (name_of d)) ≡ Less =
      Less-from_sorted (slice_cmp nat_cmp) (map name_of rows) k (k + 1) (name_of d) ascend (omega arith) (omega (arith, high, length-map rows name_of)) in
      not_less (slice_cmp nat_cmp (name_of (slice_index_or rows (k + 1) d)) (name_of (slice_index_or rows k d)))
      (sym (nat_list_cmp_total.antisymm (name_of (slice_index_or rows k d)) (name_of (slice_index_or rows (k + 1) d)))
      ∙ sym (ap (λ n. slice_cmp nat_cmp n (name_of (slice_index_or rows (k + 1) d))) first) ∙ sym (ap (λ n. slice_cmp nat_cmp (slice_index_or (map name_of rows) k (name_of d)) n) second) ∙ less)

  pub can_be_searched : IsNonDecreasingBy (λ x. ordering_index (ord x)) rows
  can_be_searched = searchable_from_sorted nat_list_cmp_total name_of rows name sorted

  test_is : (x : X) → bytes_eq name (name_of x) ≡ is_eq (ord x)
  test_is x = nat_list_eq_equiv.symm name (name_of x) ∙ sym (is_eq-slice_cmp (name_of x) name)

  pub not_found : (i : ℕ) → IsPartitionPoint (λ x. ord x ≡ Less) (λ x. ord x ≡ Greater) rows i → lookup (bytes_eq name) (map entry rows) ≡ None
  not_found i h = lookup-none (bytes_eq name) (map entry rows) (recursion_from_All (λ e. bytes_eq name e.0 ≡ false) (map entry rows) (All-map (λ e. bytes_eq name e.0 ≡ false) entry rows all))
    where
      all : All (λ x. bytes_eq name (name_of x) ≡ false) rows
      all k d below = test_is (slice_index_or rows k d) ∙ ⊎_elim (λ l. ap is_eq (h.0 k d (omega arith) l)) (λ l. ap is_eq (h.1 k d l below)) (cases_lt k i)

  pub found : (i : ℕ) (d : X) → i < length rows → ord (slice_index_or rows i d) ≡ Equal → lookup (bytes_eq name) (map entry rows) ≡ Some (text_of (slice_index_or rows i d))
  found i d below same =
      let x = slice_index_or rows i d in
      let is : name ≡ name_of x = (bytes_decides name (name_of x)).0 (test_is x ∙ ap is_eq same) in
      ap (λ n. lookup (bytes_eq n) (map entry rows)) is
      ∙ sym (same_found (λ k. is_eq-slice_cmp (name_of x) k) (map entry rows))
      ∙ lookup_from_place (eq_by_cmp_equiv nat_list_cmp_total) (map entry rows) i (name_of x) (text_of x)
      (IsDistinct-from_sorted (slice_cmp nat_cmp) (keys_of (map entry rows)) in_order)
      (slice_get-map entry rows i ∙ ap (option_map entry) (slice_get-get_or rows i d below))
