-- The items of a walk, and their records.
use Rattle.std.proofs.Common.{◌≡◌, ℕ, List, [], ◌∷◌, ◌++◌, map, Result, Ok, sym, ap, ◌∙◌}
use Rattle.std.proofs.lemmas.List.{map_push}
use Rattle.std.specs.declared.ops.Range.{Range}
use Rattle.cmark_flat.specs.Flat.{flat, records}
use Rattle.cmark_flat.specs.Records.{spelled}
use Rattle.cmark_flat.proofs.FlatSteps.{flat_more}
use Rattle.cmark_parser.specs.Parsing.{shown_item}
use Rattle.cmark_text.specs.declared.event.Event.{Event}

-- the records of one item more
pub written_more : (items : List (Event × Range ℕ)) (item : Event × Range ℕ) (mid new : List ℕ) → mid ≡ flat (map shown_item items) → new ≡ mid ++ spelled (records (shown_item item))
    → new ≡ flat (map shown_item (items ++ item ∷ []))
written_more items item mid new before more =
    more ∙ ap (λ l. l ++ spelled (records (shown_item item))) before ∙ sym (flat_more (map shown_item items) (shown_item item)) ∙ ap flat (sym (map_push shown_item items item))

-- the items given, with one more
pub given_more : {E : Type 0} (all : List (Result (Event × Range ℕ) E)) (one : Result (Event × Range ℕ) E) (items : List (Event × Range ℕ)) (item : Event × Range ℕ) → all ≡ map Ok items → one ≡ Ok item
    → all ++ one ∷ [] ≡ map Ok (items ++ item ∷ [])
given_more all one items item p q = ap (λ l. l ++ one ∷ []) p ∙ ap (λ z. map Ok items ++ z ∷ []) q ∙ sym (map_push Ok items item)
