-- The lines of a walk's events.
use Rattle.std.proofs.Common.{◌≡◌, ℕ, List, [], ◌∷◌, ◌++◌, map, Result, Ok, Option, None, sym, ap, ◌∙◌, append_assoc, append-nil}
use Rattle.std.proofs.lemmas.List.{map_push}
use Rattle.std.specs.Iterator.{Drains}
use Rattle.std.specs.declared.ops.Range.{Range}
use Rattle.cmark_grammar.specs.Answers.{Lookup}
use Rattle.cmark_grammar.specs.Event.{Ranged}
use Rattle.cmark_grammar.specs.Headline.{usual_limit}
use Rattle.cmark_grammar.specs.Options.{Options}
use Rattle.cmark_text.specs.declared.event.Event.{Event}
use Rattle.cmark_values.specs.declared.text.CowStr.{CowStr}
use Rattle.cmark_inline.specs.declared.callback.BrokenLink.{BrokenLink}
use Rattle.cmark_json.specs.Lines.{line, lines}
use Rattle.mdevents_run.specs.Renders.{AreLinesOf}
use Rattle.cmark_parser.specs.declared.parse.OffsetIter.{OffsetIter}
use Rattle.cmark_parser.specs.declared.parse.Parser.{Parser}
use Rattle.cmark_parser.specs.Parsing.{GivesRanged, Reads, callback_of, shown_item, walk_of}
use Rattle.cmark_parser.proofs.WalkSteps.{drained_silent}

lines-more : (rs : List Ranged) (r : Ranged) → lines (rs ++ r ∷ []) ≡ lines rs ++ line r
lines-more [] r = append-nil (line r)
lines-more (x ∷ rs) r = ap (λ l. line x ++ l) (lines-more rs r) ∙ sym (append_assoc (line x) (lines rs) (line r))

-- one more line
pub written_more : (items : List (Event × Range ℕ)) (item : Event × Range ℕ) (mid new : List ℕ) → mid ≡ lines (map shown_item items) → new ≡ mid ++ line (shown_item item)
    → new ≡ lines (map shown_item (items ++ item ∷ []))
written_more items item mid new before more =
    more ∙ ap (λ l. l ++ line (shown_item item)) before ∙ sym (lines-more (map shown_item items) (shown_item item)) ∙ ap lines (sym (map_push shown_item items item))

-- the items given, with one more
pub given_more : {E : Type 0} (all : List (Result (Event × Range ℕ) E)) (one : Result (Event × Range ℕ) E) (items : List (Event × Range ℕ)) (item : Event × Range ℕ) → all ≡ map Ok items → one ≡ Ok item
    → all ++ one ∷ [] ≡ map Ok (items ++ item ∷ [])
given_more all one items item p q = ap (λ l. l ++ one ∷ []) p ∙ ap (λ z. map Ok items ++ z ∷ []) q ∙ sym (map_push Ok items item)

module _ {E F : Type 0} (Says : F → BrokenLink → Option (CowStr × CowStr) → F → Type 0) (replacement : E → Lookup) where
  -- the lines of all items of a walk from its start, without a callback, are the output for its text
  pub rendered : (parser : Parser E F) (iter : OffsetIter E F) (text : List ℕ) (options : Options) (lookup : Lookup) (items : List (Event × Range ℕ)) (output : List ℕ) → walk_of iter ≡ parser → callback_of parser ≡ None
      → Reads replacement text options lookup parser → Drains (GivesRanged Says replacement) iter (map Ok items) → output ≡ lines (map shown_item items) → AreLinesOf text options lookup output
  rendered parser iter text options lookup items output same silent reads drains is =
      record { events = map shown_item items; reading = drained_silent Says replacement (usual_limit text) parser iter text options lookup items same silent reads drains; output_is = is }
