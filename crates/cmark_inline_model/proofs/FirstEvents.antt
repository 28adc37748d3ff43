-- A leaf with a byte has some event, and an empty leaf has no event; the events of a leaf never begin with the end of an element.
use Rattle.std.specs.Prelude.{◌-◌, ◌&&◌, ◌||◌, max, get_or}
use Rattle.std.proofs.Common.{◌≡◌, ◌≢◌, ℕ, ◌+◌, ◌<◌, ◌≤◌, Bool, true, false, List, [], ◌∷◌, ◌++◌, length, Option, Some, None, refl, sym, ap, subst, ◌∙◌, arith, rules}
use Rattle.cmark_grammar.specs.BracketDecisions.{decide}
use Rattle.cmark_grammar.specs.BracketReading.{Reads}
use Rattle.cmark_grammar.specs.BracketStates.{State}
use Rattle.cmark_grammar.specs.Emphasis.{places_taken}
use Rattle.cmark_grammar.specs.Event.{Ranged}
use Rattle.cmark_grammar.specs.Flanking.{is_delimiter_run}
use Rattle.cmark_grammar.specs.InlineReading.{event_of, inline_events}
use Rattle.cmark_grammar.specs.InlineTokens.{from, token}
use Rattle.cmark_grammar.specs.Items.{ItemKind, Delimiters, Item, Ends}
use Rattle.cmark_grammar.specs.LeafReading.{Between, ReadsLeaf, entering}
use Rattle.cmark_grammar.specs.LeafText.{Leaf, Stretch, InTurn, begin_of, bytes_from}
use Rattle.cmark_grammar.specs.Options.{Options}
use Rattle.cmark_grammar.specs.Parts.{Parts, Nil as NoParts, Single as SinglePart, Form, Closing, Opening, Linking, Footnote, Wiki}
use Rattle.cmark_grammar.specs.Questions.{Saying}
use Rattle.cmark_grammar.specs.Quotes.{quote_characters}
use Rattle.cmark_grammar.specs.Readers.{Reader}
use Rattle.cmark_grammar.specs.Siblings.{Inline, Nil, Single, Around, append, quotes_of, with_characters, with_quotes, element, item_then, footnote_then, AreSiblings, AreSpans}
use Rattle.cmark_inline_model.specs.RunSpans.{runs_from, put_gap, gaps_of, dressed_all, IsDressedByRuns}
use Rattle.cmark_grammar.specs.Spans as spans
use Rattle.cmark_grammar.specs.Spans.{Spans, TakePlaces}
use Rattle.cmark_grammar.specs.Tag.{Tag}
use Rattle.cmark_grammar.specs.Tokens.{slice}
use Rattle.cmark_inline_model.proofs.EmphasisOne.{one}
use Rattle.cmark_inline_model.proofs.SpanPlaces.{places}
use Rattle.cmark_inline_model.proofs.SpanPlacing.{by-runs}
use Rattle.cmark_inline_model.specs.FirstEvents.{IsEnd, BeginWithEnd}
use Rattle.cmark_inline_model.specs.OptionRules.{IsRead, AllItems}
use Rattle.cmark_inline_model.specs.TextPlaces.{text_of}
use Rattle.cmark_inline_model.proofs.KindViews.{kind-view}
use Rattle.cmark_inline_model.proofs.SpanCosts.{runs-stand}
use Rattle.cmark_inline_model.proofs.SpanElements.{quoted_then, other_then}
use Rattle.cmark_inline_model.proofs.TokenOptions.{leaf-items}
use Rattle.cmark_inline_model.proofs.TokenSome.{ends-following-bytes, no-end-at-a-byte}

-- ## A delimiter run has a byte

abbrev HasSize : ItemKind → Type 0
HasSize (Delimiters run) = 0 < run.run_length
HasSize _ = Unit {0}

and_none : (a b : Bool) → b ≡ false → (a && b) ≡ false
and_none true b e = e
and_none false b e = refl

or_none : (a b c d : Bool) → a ≡ false → b ≡ false → c ≡ false → d ≡ false → (a || (b || (c || d))) ≡ false
or_none a b c d e f g h = ap (λ x. x || (b || (c || d))) e ∙ ap (λ x. x || (c || d)) f ∙ ap (λ x. x || d) g ∙ h

run_size : (options : Options) (delimiter size : ℕ) → is_delimiter_run options delimiter size ≡ true → 0 < size
run_size options delimiter size e = search (rules, or_none, and_none)

read_size : (options : Options) (kind : ItemKind) → IsRead options kind → HasSize kind
read_size options (Delimiters run) h = run_size options run.delimiter run.run_length h
read_size options _ h = tt

-- ## Some parts become some siblings

-- there is a sibling, and the first has a byte if it is a delimiter run
abbrev AreSome : Inline → Type 0
AreSome Nil = ⊥
AreSome (Single x after) = HasSize x.kind
AreSome (Around tag start end inside after) = Unit {0}

item_some : (x : Item) (after : Inline) → HasSize x.kind → AreSome (item_then x.kind x after)
item_some x after h = grind (arith, kind-view)

footnote_some : (is_image : Bool) (start : ℕ) (label : List ℕ) (end : ℕ) (others : Inline) → AreSome (footnote_then is_image start label end others)
footnote_some true start label end others = tt
footnote_some false start label end others = tt

siblings_some : (options : Options) (parts : Parts) (siblings : Inline) → parts ≢ NoParts → AllItems (IsRead options) parts → AreSiblings options parts siblings → AreSome siblings
siblings_some options NoParts siblings some read h = absurd (some refl)
siblings_some options (SinglePart x after) siblings some read h = subst AreSome (sym h.2) (item_some x h.0 (read_size options x.kind read.0))
siblings_some options (Form opener inside closer (Linking target) after) siblings some read h = subst AreSome (sym h.6) tt
siblings_some options (Form opener inside closer (Footnote label end) after) siblings some read h = subst AreSome (sym h.2) (footnote_some opener.is_image opener.start label end h.0)
siblings_some options (Form opener inside closer (Wiki name None end) after) siblings some read h = subst AreSome (sym h.2) tt
siblings_some options (Form opener inside closer (Wiki name (Some place) end) after) siblings some read h = subst AreSome (sym h.6) tt
siblings_some options _ siblings some read h = subst AreSome (sym h.2) tt

quoted_some : (siblings : Inline) (cs : List ℕ) → AreSome siblings → AreSome (with_characters siblings cs)
quoted_some siblings cs h = grind (arith, kind-view, quoted_then, other_then)

-- ## Some siblings become some spans

abbrev IsSpan : Inline → Type 0
IsSpan Nil = ⊥
IsSpan _ = Unit {0}

span_left : (a b : Inline) → IsSpan a → IsSpan (append a b)
span_left Nil b h = absurd h
span_left _ b h = tt

span_right : (a b : Inline) → IsSpan b → IsSpan (append a b)
span_right Nil b h = h
span_right _ b h = tt

put_span : (put : Inline → Inline) (gaps : List Inline) → ((gap : Inline) → IsSpan (put gap)) → IsSpan (get_or (put_gap put gaps) 0 Nil)
put_span put [] h = h Nil
put_span put (gap ∷ gaps) h = h gap

element_span : (tag : Option Tag) (start end : ℕ) (inside after : Inline) → IsSpan (element tag start end inside after)
element_span (Some tag) start end inside after = tt
element_span None start end inside after = tt

-- if no byte of a run is left over, the first sibling comes before the runs
first_span : (siblings : Inline) → AreSome siblings → 0 ≡ places_taken (runs_from siblings 0) → IsSpan (get_or (gaps_of siblings) 0 Nil)
first_span siblings h e = grind (arith, put_span, kind-view)

dressed_span : (options : Options) (siblings : Inline) (f : Spans) → AreSome siblings → TakePlaces 0 f (places_taken (runs_from siblings 0)) → IsSpan (dressed_all options siblings f)
dressed_span options siblings spans.Nil h t = span_left (get_or (gaps_of siblings) 0 Nil) Nil (first_span siblings h t)
dressed_span options siblings (spans.Single at after) h t = grind (arith, span_right)
dressed_span options siblings (spans.Around span inside after) h t = grind (arith, span_right, element_span)

dress_span : (options : Options) (siblings result : Inline) → AreSome siblings → IsDressedByRuns options siblings result → IsSpan result
dress_span options siblings result h d =
    let quoted = with_quotes siblings in
    let runs = runs_from quoted 0 in
    let take : TakePlaces 0 d.spans_are (places_taken runs) = subst (λ f. TakePlaces 0 f (places_taken runs)) (sym (one runs d.pairs d.spans_are d.emphasis).1) (places runs (runs-stand quoted 0)) in
    subst IsSpan (sym d.result_is) (dressed_span options quoted d.spans_are (quoted_some siblings (quote_characters [] (quotes_of siblings)) h) take)

-- ## Events

event_some : (source : List ℕ) (f : Inline) → IsSpan f → inline_events source f ≢ []
event_some source Nil h e = h
event_some source _ h e = cc

item_no_end : (source : List ℕ) (x : Item) (kind : ItemKind) → IsEnd (event_of source x kind) → ⊥
item_no_end source x kind h = grind arith

first_no_end : (source : List ℕ) (f : Inline) → BeginWithEnd (inline_events source f) → ⊥
first_no_end source (Single x after) h = item_no_end source x x.kind h
first_no_end source _ h = h

-- ## Leaves

-- the text is the same from each offset up to its start
same_bytes : (source : List ℕ) (from : ℕ) (st : List Stretch) (size a b : ℕ) → InTurn from st size → a ≤ from → b ≤ from → bytes_from source st a ≡ bytes_from source st b
same_bytes source from [] size a b h j k = refl
same_bytes source from (s ∷ more) size a b h j k =
    let low = h.0 in
    let up = h.1 in
    let x : max a s.start ≡ max b s.start = omega (arith, low, j, k) in
    ap (λ n. slice source n s.end ++ bytes_from source more a) x
    ∙ ap (λ l. slice source (max b s.start) s.end ++ l) (same_bytes source s.end more size a b h.2 (omega (arith, low, up, j)) (omega (arith, low, up, k)))

begin_bytes : (source : List ℕ) (st : List Stretch) (size : ℕ) → InTurn 0 st size → bytes_from source st (begin_of st) ≡ bytes_from source st 0
begin_bytes source [] size h = refl
begin_bytes source (s ∷ more) size h = same_bytes source s.start (s ∷ more) size s.start 0 (omega arith, h.1, h.2) (omega arith) (omega arith)

module _ (reader : Reader) (Says : Saying) (leaf : Leaf) (before : Between) (events : List Ranged) (after : Between) where
  abbrev first : State
  first = entering leaf before

  -- a text without a byte has no part
  no_part : token reader leaf first.at ≡ Ends → (parts : Parts) (t : State) → Reads (token reader leaf) (decide reader leaf) Says first parts t → parts ≡ NoParts
  no_part e NoParts t h = refl
  no_part e (SinglePart x more) t h = absurd (let f = sym e ∙ h.1 in let d : ⊥ = cc in d)
  no_part e (Form opener inside closer formed more) t h = absurd (let f = sym e ∙ h.opens in let d : ⊥ = cc in d)
  no_part e (Closing closer more) t h = absurd (let f = sym e ∙ h.closes in let d : ⊥ = cc in d)
  no_part e (Opening opener more) t h = absurd (let f = sym e ∙ h.0 in let d : ⊥ = cc in d)

  no_span : (parts : Parts) (f : Inline) → parts ≡ NoParts → AreSpans reader.options parts f → f ≡ Nil
  no_span parts f e h = grind (arith, one)

  pub leaf-none : InTurn 0 leaf.stretches (length reader.source) → text_of reader leaf ≡ [] → ReadsLeaf reader Says leaf before events after → events ≡ []
  leaf-none turn empty h = grind (arith, begin_bytes, no_span, no_part, ends-following-bytes)

  -- nothing is asked there
  pub leaf-same : InTurn 0 leaf.stretches (length reader.source) → text_of reader leaf ≡ [] → ReadsLeaf reader Says leaf before events after → after ≡ before
  leaf-same turn empty h = grind (arith, begin_bytes, no_part, ends-following-bytes)

  -- a text with a byte has a part
  some_part : from reader leaf first.at ≢ [] → (parts : Parts) (t : State) → Reads (token reader leaf) (decide reader leaf) Says first parts t → token reader leaf t.at ≡ Ends → parts ≢ NoParts
  some_part some parts t h ends e = grind (arith, no-end-at-a-byte)

  pub leaf-some : InTurn 0 leaf.stretches (length reader.source) → text_of reader leaf ≢ [] → ReadsLeaf reader Says leaf before events after → events ≢ []
  leaf-some turn some h e =
      let begin : from reader leaf first.at ≢ [] = λ none. some (sym (begin_bytes reader.source leaf.stretches (length reader.source) turn) ∙ none) in
      let part = some_part begin h.parts h.last h.reads.reads h.reads.ends in
      let siblings = siblings_some reader.options h.parts h.are.siblings part (leaf-items reader leaf Says first h.parts h.last h.reads.reads) h.are.are in
      event_some reader.source h.spans (dress_span reader.options h.are.siblings h.spans siblings (by-runs reader.options h.are.siblings h.spans h.are.dressed_so)) (sym h.events_are ∙ e)

  pub leaf-first : ReadsLeaf reader Says leaf before events after → BeginWithEnd events → ⊥
  leaf-first h b = first_no_end reader.source h.spans (subst BeginWithEnd h.events_are b)
