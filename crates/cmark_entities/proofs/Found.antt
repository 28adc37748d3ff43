-- A name that is found has its text, and the list has no other name.
use Rattle.std.proofs.Common.{◌≡◌, ℕ, ◌<◌, true, List, map, length, slice_index_or, Option, Some, None, All, bytes_eq, option_copied, Result, Ok, Err, Bor, refl, sym, ap, subst, ◌∙◌}
use Rattle.std.specs.Cmp.Lexicographic.{slice_cmp}
use Rattle.std.specs.List.{list_all}
use Rattle.std.specs.List.Sorted.{IsNonDecreasingBy, IsPartitionPoint, IsStrictlySortedBy}
use Rattle.std.specs.Map.{keys_of, lookup}
use Rattle.std.specs.Ordering.{nat_cmp, ordering_index}
use Rattle.std.specs.Result.{MatchResult, result_ok}
use Rattle.std.specs.Str.{IsUtf8, encode_utf8_all}
use Rattle.std.proofs.Math.Utf8.{scalars}
use Rattle.std.specs.declared.cmp.Ordering.TheVariants.{Less, Equal, Greater}
use Rattle.std.proofs.lemmas.List.{get_or-map, length-map}
use Rattle.std.proofs.lemmas.List.Elements.{All-map}
use Rattle.std.proofs.lemmas.List.Sums.{AllPass-from_list_all}
use Rattle.std.proofs.lemmas.Map.Made.{lookup-map_values}
use Rattle.cmark_entities.specs.Names.{all_entity}
use Rattle.cmark_entities.specs.Rows.{entity_rows}
use Rattle.cmark_entities.specs.Table.{name_in, text_in}
use Rattle.cmark_entities.specs.declared.table.TheConstants.{ROWS}
use Rattle.cmark_entities.proofs.Ascending.{ascends, sorted_from_ascends}
use Rattle.cmark_entities.proofs.Searched.{entry_of, can_be_searched, found, not_found}
use Rattle.cmark_entities.proofs.Unpacked.{entries_are, spelled_of}

list_ascends : ascends (keys_of (spelled_of entity_rows)) ≡ true
unfolding entity_rows
list_ascends = refl

names_ascend : IsStrictlySortedBy (slice_cmp nat_cmp) (keys_of (map (entry_of name_in text_in) ROWS))
names_ascend = subst (λ es. IsStrictlySortedBy (slice_cmp nat_cmp) (keys_of es)) (sym entries_are) (sorted_from_ascends (keys_of (spelled_of entity_rows)) list_ascends)

texts_are_scalars : list_all (λ r. scalars r.1) entity_rows ≡ true
unfolding entity_rows
texts_are_scalars = refl

list_of : (name : List ℕ) → all_entity name ≡ lookup (bytes_eq name) (map (entry_of name_in text_in) ROWS)
unfolding all_entity
list_of name = sym (lookup-map_values encode_utf8_all (bytes_eq name) entity_rows) ∙ ap (lookup (bytes_eq name)) (sym entries_are)

pub no_name : (name : List ℕ) (i : ℕ) → (IsNonDecreasingBy (λ row. ordering_index (slice_cmp nat_cmp (name_in row) name)) ROWS → IsPartitionPoint (λ row. slice_cmp nat_cmp (name_in row) name ≡ Less) (λ row. slice_cmp nat_cmp (name_in row) name ≡ Greater) ROWS i)
    → None ≡ all_entity name
no_name name i h = sym (list_of name ∙ not_found name_in text_in ROWS names_ascend name i (h (can_be_searched name_in text_in ROWS names_ascend name)))

pub has_text : (name : List ℕ) (i : ℕ) (d : ℕ × ℕ × ℕ) → i < length ROWS → slice_cmp nat_cmp (name_in (slice_index_or ROWS i d)) name ≡ Equal → all_entity name ≡ Some (text_in (slice_index_or ROWS i d))
has_text name i d below same = list_of name ∙ found name_in text_in ROWS names_ascend name i d below same

spelled_is_utf8 : (rows : List (List ℕ × List ℕ)) → list_all (λ r. scalars r.1) rows ≡ true → All (λ e. IsUtf8 e.1) (spelled_of rows)
spelled_is_utf8 rows h = All-map (λ e. IsUtf8 e.1) (λ r. (r.0, encode_utf8_all r.1)) rows (λ k d below. ((slice_index_or rows k d).1, (AllPass-from_list_all (λ r. scalars r.1) rows h k d below, refl)))

pub text_is_utf8 : (i : ℕ) (d : ℕ × ℕ × ℕ) → i < length ROWS → IsUtf8 (text_in (slice_index_or ROWS i d))
text_is_utf8 i d below =
    subst (λ e. IsUtf8 e.1) (get_or-map (entry_of name_in text_in) ROWS i d (entry_of name_in text_in d) below)
    (subst (All (λ e. IsUtf8 e.1)) (sym entries_are) (spelled_is_utf8 entity_rows texts_are_scalars) i (entry_of name_in text_in d) (subst (λ n. i < n) (sym (length-map ROWS (entry_of name_in text_in))) below))

-- bytes that are UTF-8 are read as a text
pub read : {E : Type 0} (Q : E → Type 0) (r : Result (Bor (List ℕ)) E) (o : Option (Bor (List ℕ))) (bytes : List ℕ) → o ≡ result_ok r → MatchResult r (λ s. (s.now ≡ bytes) × IsUtf8 bytes) (λ e. ¬ (IsUtf8 bytes) × Q e) → IsUtf8 bytes
    → option_copied o ≡ Some bytes
read Q (Ok s) o bytes is h utf8 = ap option_copied is ∙ ap Some h.0
read Q (Err e) o bytes is h utf8 = absurd (h.0 utf8)
