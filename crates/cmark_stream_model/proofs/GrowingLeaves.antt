-- A leaf among the first bytes of a text is read as the same events if the text grows. The labels that it may look up must lead to the same
-- definitions.
use Rattle.std.proofs.Common.{◌≡◌, inl, inr, ℕ, zero, suc, ◌+◌, ◌-◌, ◌≤◌, Bool, true, false, not, ◌==◌, ◌&&◌, ◌||◌, List, [], ◌∷◌, ◌++◌, length, drop, take, refl, sym, ap, ◌∙◌, subst, arith, length-drop, Option, Some, None, rules}
use Rattle.std.specs.Prelude.{if◌then◌else◌, max, reverse, chars, map}
use Rattle.std.specs.List.{prefix_len}
use Rattle.cmark_grammar.specs.BlockDocument.{Reference as Definition}
use Rattle.cmark_grammar.specs.BracketDecisions.{Named, following, between, place, stays, question, answered, defined_or_asked, refers, one_line_footnotes, is_footnote_label, footnote_reference, as_label, collapsed_or_shortcut, by_own_label, full_reference, reference_or, unless_footnote, link_or, with_taken, wiki_text, wikilink_or, decide, is_there, forms, name_in, after_pipe}
use Rattle.cmark_grammar.specs.BracketReading.{Reads, Comes}
use Rattle.cmark_grammar.specs.BracketStates.{Opener, State, moved, opened, Result, StaysText, Forms, Outcome, Decision, Settled, Asks}
use Rattle.cmark_grammar.specs.CodeSpans.{is_backtick, backticks, code_in}
use Rattle.cmark_grammar.specs.Columns.{is_blank_byte}
use Rattle.cmark_grammar.specs.Event.{Start, End, Ranged}
use Rattle.cmark_grammar.specs.TagEnd as tag_end
use Rattle.cmark_grammar.specs.Flanking.{is_run_delimiter}
use Rattle.cmark_grammar.specs.Formulas.{is_dollar, Braces, no_braces, braces_after, inline_in, display_in}
use Rattle.cmark_grammar.specs.InlineReading.{event_of, inline_events}
use Rattle.cmark_grammar.specs.InlineTokens.{item_at, is_plain, first_of, from, before, place_of, character_before, character_at, read_on, break_or, code_or, escaped_backtick, escape_at, entity_or, autolink_or, tag_kind, tag_or_text, source_from, markup_or, less_than, run_at, formula_or, dollar, smart_or, begins, begins_at, goes_on, plain_end, longest, token}
use Rattle.cmark_grammar.specs.Items.{ItemKind, Item, Bracket, Token, Stands, Opens, Closes, InlineMath, DisplayMath}
use Rattle.cmark_grammar.specs.Labels.{fold, normal_form}
use Rattle.cmark_grammar.specs.LeafReading.{Between, entering, ReadsLeaf}
use Rattle.cmark_grammar.specs.LeafText.{Stretch, Leaf, bytes_from, bytes_before, size_of, begin_of, end_of, InTurn}
use Rattle.cmark_grammar.specs.Letters.{first_is}
use Rattle.cmark_grammar.specs.LineBreaks.{LineBreak, backslash_break_in, blank_break_in}
use Rattle.cmark_grammar.specs.Lines.{is_content}
use Rattle.cmark_grammar.specs.LinkDefinitions.{Parsed}
use Rattle.cmark_grammar.specs.LinkTails.{LinkTail, link_tail_in, after_collapsed, is_bracketed_label, reference_label_in}
use Rattle.cmark_grammar.specs.OpenBrackets.{Taken, nearest, undoubled, tried, inactive, dropped}
use Rattle.cmark_grammar.specs.Parts.{Footnote, Wiki, Parts, Nil as NoParts, Single as SinglePart, Form, Closing, Opening, openings}
use Rattle.cmark_grammar.specs.Questions.{Exchange, Saying}
use Rattle.cmark_grammar.specs.Readers.{Reader}
use Rattle.cmark_grammar.specs.Siblings.{Inline, Nil as NoSpans, Single as SingleItem, Around as SpanAround}
use Rattle.cmark_inline_model.specs.SiblingsModel.{spans_in}
use Rattle.cmark_grammar.specs.SpanDocuments.{Profile, Segment, Given, Content, ReadsAll}
use Rattle.cmark_grammar.specs.Tokens.{Entity, entity_in, slice}
use Rattle.cmark_inline_model.specs.CutRanges.{IsAfterPipe}
use Rattle.cmark_inline_model.specs.LeafModel.{HaveLineEnds}
use Rattle.cmark_inline_model.specs.NestedLinks.{Persist, ResultsApart, KeepsApart}
use Rattle.cmark_inline_model.specs.Progress.{Always, FitsBy, Fits}
use Rattle.cmark_inline_model.proofs.DecisionLaws.{decide-apart}
use Rattle.cmark_inline_model.proofs.Openers.{nearest-taken}
use Rattle.cmark_inline_model.proofs.ForwardLaws.{leaf-forward, leaf-ranges}
use Rattle.cmark_inline_model.proofs.LeafPlaces.{end-within, leaf-up}
use Rattle.cmark_inline_model.proofs.LeafSteps.{IsAt, place-first}
use Rattle.cmark_inline_model.proofs.PartOrders.{parts-fill, spans-order}
use Rattle.cmark_inline_model.proofs.ReadingLaws.{reading-stands}
use Rattle.cmark_inline_model.proofs.ReadingPlaces.{reading-reaches}
use Rattle.cmark_inline_model.proofs.SiblingsOne.{spans-one}
use Rattle.cmark_inline_model.proofs.SpanRanges.{InlineOrder, inline-up}
use Rattle.cmark_inline_model.proofs.WikiGaps.{decide-far, reading-gaps}
use Rattle.cmark_stream_model.proofs.FoldedLabels.{fold-again}
use Rattle.cmark_stream_model.specs.Continued.{Agree, reader_with, MayAskFor, AreKept, AreKeptButLabels}

-- a choice has the same result if each of its cases has
either-token : (z : Bool) (a b c d : Token) → a ≡ b → c ≡ d → (if z then a else c) ≡ (if z then b else d)
either-token true a b c d e f = e
either-token false a b c d e f = f

either-decision : (z : Bool) (a b c d : Decision) → a ≡ b → c ≡ d → (if z then a else c) ≡ (if z then b else d)
either-decision true a b c d e f = e
either-decision false a b c d e f = f

either-place : (z : Bool) (a b c d : ℕ) → a ≡ b → c ≡ d → (if z then a else c) ≡ (if z then b else d)
either-place true a b c d e f = e
either-place false a b c d e f = f

-- stretches in turn end within `size` bytes
turn-low : (at size : ℕ) (st : List Stretch) → InTurn at st size → at ≤ size
turn-low at size [] h = h
turn-low at size (x ∷ more) h = let a = h.0 in let b = h.1 in let c = turn-low x.end size more h.2 in omega (arith, a, b, c)

module _ (size : ℕ) (s t : List ℕ) (agree : Agree size s t) where
  bytes_from-same : (low : ℕ) (st : List Stretch) → InTurn low st size → (at : ℕ) → bytes_from s st at ≡ bytes_from t st at
  bytes_from-same low [] h at = refl
  bytes_from-same low (x ∷ more) h at =
      ap (λ l. l ++ bytes_from s more at) (agree (max at x.start) x.end (turn-low x.end size more h.2)) ∙ ap (λ l. slice t (max at x.start) x.end ++ l) (bytes_from-same x.end more h.2 at)

  bytes_before-same : (low : ℕ) (st : List Stretch) → InTurn low st size → (at : ℕ) → bytes_before s st at ≡ bytes_before t st at
  bytes_before-same low [] h at = refl
  bytes_before-same low (x ∷ more) h at = grind (arith, turn-low, bytes_before-same x.end more h.2 at)

module _ (profile : Profile) (size : ℕ) (s t : List ℕ) (agree : Agree size s t) (d e : List ℕ → Option Definition) (f g : List ℕ → Bool) (leaf : Leaf) (turn : InTurn 0 leaf.stretches size) where
  abbrev one : Reader
  one = reader_with profile s d f

  abbrev other : Reader
  other = reader_with profile t e g

  end-low : end_of leaf.stretches ≤ size
  end-low = end-within leaf.stretches size turn

  from-same : (at : ℕ) → from one leaf at ≡ from other leaf at
  from-same at = bytes_from-same size s t agree 0 leaf.stretches turn at

  before-same : (at : ℕ) → before one leaf at ≡ before other leaf at
  before-same at = bytes_before-same size s t agree 0 leaf.stretches turn at

  source-same : (at : ℕ) → source_from one leaf at ≡ source_from other leaf at
  source-same at = agree at (end_of leaf.stretches) end-low

  -- ## Tokens

  read_on-same : (at : ℕ) → read_on one leaf at ≡ read_on other leaf at
  read_on-same at = cc (before-same at, from-same at)

  break_or-same : (at : ℕ) (o : Option LineBreak) (x y : Token) → x ≡ y → break_or one leaf at o x ≡ break_or other leaf at o y
  break_or-same at o x y h = grind (arith, from-same, read_on-same)

  code_or-same : (at n : ℕ) (o : Option Parsed) → code_or one leaf at n o ≡ code_or other leaf at n o
  code_or-same at n None = refl
  code_or-same at n (Some found) = refl

  escaped-same : (at n : ℕ) (o : Option Parsed) → escaped_backtick one leaf at n o ≡ escaped_backtick other leaf at n o
  escaped-same at n None = refl
  escaped-same at n (Some found) = refl

  escape-same : (at : ℕ) (bs : List ℕ) → escape_at one leaf at bs ≡ escape_at other leaf at bs
  escape-same at bs = either-token (first_is is_backtick bs) _ _ _ _ (escaped-same (suc at) (backticks bs) (code_in (drop 1 bs))) refl

  entity_or-same : (at : ℕ) (o : Option Entity) → entity_or one leaf at o ≡ entity_or other leaf at o
  entity_or-same at None = refl
  entity_or-same at (Some entity) = refl

  autolink_or-same : (at : ℕ) (o : Option Parsed) (x y : Token) → x ≡ y → autolink_or one leaf at o x ≡ autolink_or other leaf at o y
  autolink_or-same at None x y h = h
  autolink_or-same at (Some found) x y h = refl

  tag_or_text-same : (at : ℕ) (o : Option (List ℕ)) → tag_or_text one leaf at o ≡ tag_or_text other leaf at o
  tag_or_text-same at None = refl
  tag_or_text-same at (Some rest) = ap (λ (l : List ℕ). item_at (tag_kind one leaf (take (length l - length rest) l)) at (place_of one leaf rest)) (from-same at)

  markup_or-same : (at : ℕ) (o : Option (List ℕ)) (x y : Token) → x ≡ y → markup_or one leaf at o x ≡ markup_or other leaf at o y
  markup_or-same at o x y h = grind (arith, source-same, read_on-same)

  less_than-same : (at : ℕ) (bs : List ℕ) → less_than one leaf at bs ≡ less_than other leaf at bs
  less_than-same at bs = grind (arith, either-token, autolink_or-same, source-same, markup_or-same, from-same, tag_or_text-same)

  character_before-same : (at : ℕ) → character_before one leaf at ≡ character_before other leaf at
  character_before-same at = ap (λ l. first_of (reverse (chars l))) (before-same at)

  character_at-same : (at : ℕ) → character_at one leaf at ≡ character_at other leaf at
  character_at-same at = ap (λ l. first_of (chars l)) (from-same at)

  run_at-same : (at delimiter n : ℕ) → run_at one leaf at delimiter n ≡ run_at other leaf at delimiter n
  run_at-same at delimiter n = cc (character_before-same at, character_at-same (at + n))

  formula_or-same : (kind : List ℕ → ItemKind) (at : ℕ) (o : Option Parsed) → formula_or one leaf kind at o ≡ formula_or other leaf kind at o
  formula_or-same kind at None = refl
  formula_or-same kind at (Some found) = refl

  dollar-same : (at : ℕ) (bs : List ℕ) (x y : Braces) → x ≡ y → dollar one leaf at bs x ≡ dollar other leaf at bs y
  dollar-same at bs x y h =
      ap (dollar one leaf at bs) h ∙ either-token (first_is is_dollar bs) _ _ _ _ (formula_or-same DisplayMath at (display_in y (drop 1 bs))) (formula_or-same InlineMath at (inline_in y bs))

  smart_or-same : (at b : ℕ) → smart_or one leaf at b ≡ smart_or other leaf at b
  smart_or-same at b = cc (from-same at, character_before-same at, character_at-same (suc at))

  begins-same : (at : ℕ) (bs : List ℕ) → begins one leaf at bs ≡ begins other leaf at bs
  begins-same at [] = refl
  begins-same at (b ∷ bs) =
      either-token (is_blank_byte b || not (is_content b)) _ _ _ _ (break_or-same at (blank_break_in (b ∷ bs)) _ _ refl)
      (either-token (b == 92) _ _ _ _ (break_or-same at (backslash_break_in (b ∷ bs)) _ _ (escape-same at bs))
      (either-token (b == 38) _ _ _ _ (entity_or-same at (entity_in profile.lookup bs))
      (either-token (b == 96) _ _ _ _ (code_or-same at (backticks (b ∷ bs)) (code_in (b ∷ bs)))
      (either-token (b == 60) _ _ _ _ (less_than-same at bs)
      (either-token (b == 33) _ _ _ _ refl
      (either-token (b == 91) _ _ _ _ refl
      (either-token (b == 93) _ _ _ _ refl
      (either-token (is_run_delimiter b) _ _ _ _ (run_at-same at b (prefix_len (λ c. c == b) (b ∷ bs)))
      (either-token (profile.options.math && is_dollar b) _ _ _ _ (dollar-same at bs _ _ (ap (λ l. braces_after false l no_braces) (before-same at)))
      (either-token profile.options.smart_punctuation _ _ _ _ (smart_or-same at b) refl))))))))))

  begins_at-same : (at : ℕ) → begins_at one leaf at ≡ begins_at other leaf at
  begins_at-same at = ap (begins one leaf at) (from-same at) ∙ begins-same at (from other leaf at)

  goes_on-same : (x : Token) (end : ℕ) (more others : ℕ → ℕ) → ((n : ℕ) → more n ≡ others n) → goes_on one leaf x end more ≡ goes_on other leaf x end others
  goes_on-same (Stands item resume) end more others h = either-place (is_plain item.kind && (item.start == end)) _ _ _ _ (h resume) refl
  goes_on-same _ end more others h = refl

  plain_end-same : (n end : ℕ) → plain_end one leaf n end ≡ plain_end other leaf n end
  plain_end-same zero end = refl
  plain_end-same (suc n) end =
      ap (λ x. goes_on one leaf x end (plain_end one leaf n)) (begins_at-same end) ∙ goes_on-same (begins_at other leaf end) end (plain_end one leaf n) (plain_end other leaf n) (plain_end-same n)

  longest-same : (x : Token) → longest one leaf x ≡ longest other leaf x
  longest-same x = grind (arith, either-token, from-same, plain_end-same)

  token-same : (at : ℕ) → token one leaf at ≡ token other leaf at
  unfolding token
  token-same at = ap (longest one leaf) (begins_at-same at) ∙ longest-same (begins_at other leaf at)

  -- ## Decisions

  between-same : (start end : ℕ) → between one leaf start end ≡ between other leaf start end
  between-same start end =
      ap (λ (l : List ℕ). take (length l - length (following one leaf end)) l) (from-same start) ∙ ap (λ (l : List ℕ). take (length (following other leaf start) - length l) (following other leaf start)) (from-same end)

  wiki_text-same : (first : Taken) (closer : Bracket) → closer.start ≤ size → wiki_text one leaf first closer ≡ wiki_text other leaf first closer
  wiki_text-same first closer w = agree (suc first.opener.bracket.end) closer.start w

  defined-same : (o : Option Definition) (named : Named) (taken : Taken) (closer : Bracket) (st : State) → defined_or_asked one leaf o named taken closer st ≡ defined_or_asked other leaf o named taken closer st
  defined-same None named taken closer st = refl
  defined-same (Some found) named taken closer st = refl

  -- the labels that the leaf may look up lead to the same definitions and footnotes
  abbrev pub Alike : Type 0
  Alike = (label : List ℕ) → MayAskFor one leaf label → (d (fold label) ≡ e (fold label)) × (f (fold label) ≡ g (fold label))

  abbrev pub FootnotesAlike : Type 0
  FootnotesAlike = (label : List ℕ) → MayAskFor one leaf label → f (fold label) ≡ g (fold label)

  -- the decision about a reference is the same in both texts
  abbrev pub SameReference : Named → Taken → Bracket → State → Type 0
  SameReference named taken closer st = refers one leaf named taken closer st ≡ refers other leaf named taken closer st

  refers-alike : (named : Named) (taken : Taken) (closer : Bracket) (st : State) → d (fold named.label) ≡ e (fold named.label) → SameReference named taken closer st
  refers-alike named taken closer st h =
      either-decision (st.expansion_left == 0) _ _ _ _ refl (ap (λ o. defined_or_asked one leaf o named taken closer st) h ∙ defined-same (e (fold named.label)) named taken closer st)

  footnote-same : (label : List ℕ) (taken : Taken) (closer : Bracket) (st : State) → f (fold label) ≡ g (fold label) → footnote_reference one leaf label taken closer st ≡ footnote_reference other leaf label taken closer st
  footnote-same label taken closer st h = ap (λ z. if one_line_footnotes one leaf && not z then Settled (stays one leaf closer st) else Settled (forms one leaf taken (Footnote (normal_form label) closer.end) closer.end (map dropped) st)) h

  named-label : (label : List ℕ) (end : ℕ) (o : Option (List ℕ)) → (collapsed_or_shortcut one leaf label end o).label ≡ label
  named-label label end None = refl
  named-label label end (Some rest) = refl

  named-same : (label : List ℕ) (end : ℕ) (o : Option (List ℕ)) → collapsed_or_shortcut one leaf label end o ≡ collapsed_or_shortcut other leaf label end o
  named-same label end None = refl
  named-same label end (Some rest) = refl

  -- an opening bracket of the leaf
  abbrev IsOpener : Bracket → Type 0
  IsOpener b = (place : ℕ) × (token one leaf place ≡ Opens b)

  unless-found : (o : Option Parsed) (found : Parsed) → unless_footnote one leaf o ≡ Some found → o ≡ Some found
  unless-found o found q = grind arith

  unless-same : (o : Option Parsed) → unless_footnote one leaf o ≡ unless_footnote other leaf o
  unless-same None = refl
  unless-same (Some x) = refl

  -- the taken bracket is an opening bracket of the leaf
  abbrev IsTakenOpener : Option Taken → Type 0
  IsTakenOpener None = Unit {0}
  IsTakenOpener (Some taken) = IsOpener taken.opener.bracket

  -- if `Holds` is true of a decision about a reference, the decision is the same in both texts
  module _ (Holds : Decision → Type 0) (footnotes : FootnotesAlike)
      (refers-same : (named : Named) (taken : Taken) (closer : Bracket) (st : State) → MayAskFor one leaf named.label → Holds (refers one leaf named taken closer st) → SameReference named taken closer st) where
    either-held : (z : Bool) (a b x y : Decision) → Holds (if z then a else b) → (Holds a → a ≡ x) → (Holds b → b ≡ y) → (if z then a else b) ≡ (if z then x else y)
    either-held true a b x y k e f = e k
    either-held false a b x y k e f = f k

    own-same : (at : ℕ) (taken : Taken) (closer : Bracket) (st : State) → token one leaf at ≡ Closes closer → IsOpener taken.opener.bracket → Holds (by_own_label one leaf (between one leaf taken.opener.bracket.end closer.start) taken closer st)
        → by_own_label one leaf (between one leaf taken.opener.bracket.end closer.start) taken closer st ≡ by_own_label other leaf (between other leaf taken.opener.bracket.end closer.start) taken closer st
    own-same at taken closer st q o k =
        either-held (is_footnote_label one leaf (between one leaf start end)) _ _ _ _ k
        (λ h. footnote-same (as_label one leaf (drop 1 (between one leaf start end))) taken closer st (footnotes _ (at, closer, q, inr (o.0, taken.opener.bracket, o.1, inr refl))))
        (λ h. either-held (is_bracketed_label (between one leaf start end)) _ _ _ _ h
        (λ h. refers-same named taken closer st (subst (MayAskFor one leaf) (sym (named-label label closer.end (after_collapsed (following one leaf closer.end)))) (at, closer, q, inr (o.0, taken.opener.bracket, o.1, inl refl))) h
        ∙ ap (λ l. refers other leaf (collapsed_or_shortcut one leaf label closer.end (after_collapsed l)) taken closer st) (from-same closer.end)
        ∙ ap (λ n. refers other leaf n taken closer st) (named-same label closer.end (after_collapsed (following other leaf closer.end))))
        (λ h. refl))
        ∙ ap (λ l. by_own_label other leaf l taken closer st) (between-same start end)
      where
        start : ℕ
        start = taken.opener.bracket.end

        end : ℕ
        end = closer.start

        label : List ℕ
        label = as_label one leaf (between one leaf taken.opener.bracket.end closer.start)

        named : Named
        named = collapsed_or_shortcut one leaf label closer.end (after_collapsed (following one leaf closer.end))

    full-same : (found : Parsed) (at : ℕ) (taken : Taken) (closer : Bracket) (st : State) → token one leaf at ≡ Closes closer → reference_label_in (from one leaf closer.end) ≡ Some found → Holds (full_reference one leaf found taken closer st)
        → full_reference one leaf found taken closer st ≡ full_reference other leaf found taken closer st
    full-same found at taken closer st c q k = grind arith

    reference-same : (o : Option Parsed) (at : ℕ) (taken : Taken) (closer : Bracket) (st : State) → token one leaf at ≡ Closes closer → IsOpener taken.opener.bracket → ((found : Parsed) → o ≡ Some found → reference_label_in (from one leaf closer.end) ≡ Some found)
        → Holds (reference_or one leaf o taken closer st) → reference_or one leaf o taken closer st ≡ reference_or other leaf o taken closer st
    reference-same None at taken closer st c b h k = either-held (is_there closer.start st.label_close) _ _ _ _ k (λ z. refl) (λ z. own-same at taken closer st c b z)
    reference-same (Some found) at taken closer st c b h k = full-same found at taken closer st c (h found refl) k

    link-same : (at : ℕ) (taken : Taken) (closer : Bracket) (st : State) → token one leaf at ≡ Closes closer → IsOpener taken.opener.bracket → Holds (link_or one leaf (link_tail_in (following one leaf closer.end)) taken closer st)
        → link_or one leaf (link_tail_in (following one leaf closer.end)) taken closer st ≡ link_or other leaf (link_tail_in (following other leaf closer.end)) taken closer st
    link-same at taken closer st c b k = go (link_tail_in (following one leaf closer.end)) k ∙ ap (λ l. link_or other leaf (link_tail_in l) taken closer st) (from-same closer.end)
      where
        go : (o : Option LinkTail) → Holds (link_or one leaf o taken closer st) → link_or one leaf o taken closer st ≡ link_or other leaf o taken closer st
        go (Some tail) k = refl
        go None k =
            reference-same (unless_footnote one leaf (reference_label_in (following one leaf closer.end))) at taken closer st c b (λ found q. unless-found (reference_label_in (following one leaf closer.end)) found q) k
            ∙ ap (λ l. reference_or other leaf (unless_footnote one leaf (reference_label_in l)) taken closer st) (from-same closer.end)
            ∙ ap (λ o. reference_or other leaf o taken closer st) (unless-same (reference_label_in (following other leaf closer.end)))

    taken-same : (at : ℕ) (o : Option Taken) (closer : Bracket) (st : State) → token one leaf at ≡ Closes closer → IsTakenOpener o → Holds (with_taken one leaf o closer st) → with_taken one leaf o closer st ≡ with_taken other leaf o closer st
    taken-same at None closer st c b k = refl
    taken-same at (Some taken) closer st c b k = either-held taken.opener.is_inactive _ _ _ _ k (λ h. refl) (λ h. link-same at taken closer st c b h)

    wikilink-same : (at : ℕ) (first : Option Taken) (o : Option Taken) (closer : Bracket) (st : State) → closer.start ≤ size → token one leaf at ≡ Closes closer → IsTakenOpener o → Holds (wikilink_or one leaf first o closer st)
        → wikilink_or one leaf first o closer st ≡ wikilink_or other leaf first o closer st
    wikilink-same at None o closer st w c b k = taken-same at o closer st c b k
    wikilink-same at (Some first) o closer st w c b k =
        either-held (first.opener.is_inactive || (length (name_in (wiki_text one leaf first closer)) == 0)) _ _ _ _ k (λ h. taken-same at o closer (record st { openers = tried first.nearer st.openers }) c b h) (λ h. refl)
        ∙ ap (λ l. form other l) (wiki_text-same first closer w)
      where
        form : Reader → List ℕ → Decision
        form reader l =
            if first.opener.is_inactive || (length (name_in l) == 0)
            then with_taken reader leaf o closer (record st { openers = tried first.nearer st.openers })
            else Settled (forms reader leaf first (Wiki (name_in l) (after_pipe (suc first.opener.bracket.end) l) (suc closer.end)) (suc closer.end) (λ os. map undoubled (map inactive os)) st)

    decide-same : (at : ℕ) (st : State) (closer : Bracket) → closer.start ≤ size → token one leaf at ≡ Closes closer → IsTakenOpener (nearest st.openers) → Holds (decide one leaf st closer) → decide one leaf st closer ≡ decide other leaf st closer
    unfolding decide
    decide-same at st closer w c b k = search (rules, either-held, wikilink-same, taken-same, from-same)

  -- ## Parts

  closer-low : (at : ℕ) (closer : Bracket) → token one leaf at ≡ Closes closer → closer.start ≤ size
  closer-low at closer q =
      let k = (leaf-ranges one leaf size turn).closes at closer q in
      let a = k.0.ordered in let b = k.0.ends in let c = end-low in omega (arith, a, b, c)

  -- the openers of a state are opening brackets of the leaf
  abbrev AreOpeners : List Opener → Type 0
  AreOpeners [] = Unit {0}
  AreOpeners (o ∷ os) = IsOpener o.bracket × AreOpeners os

  openers-persist : (a b : List Opener) → Persist a b → AreOpeners a → AreOpeners b
  openers-persist [] b p h = subst AreOpeners (sym p) tt
  openers-persist (o ∷ a) [] p h = absurd p
  openers-persist (o ∷ a) (n ∷ b) p h = (subst IsOpener (sym p.0) h.0, openers-persist a b p.2 h.1)

  openers-drop : (n : ℕ) (a : List Opener) → AreOpeners a → AreOpeners (drop n a)
  openers-drop zero a h = h
  openers-drop (suc n) [] h = h
  openers-drop (suc n) (o ∷ a) h = openers-drop n a h.1

  nearest-opener : (os : List Opener) → AreOpeners os → IsTakenOpener (nearest os)
  nearest-opener os h = grind (arith, nearest-taken, openers-drop)

  always-comes : (Says : Saying) (asked : List Exchange) (P : Outcome → Type 0) (x : Decision) (o : Outcome) → Always P x → Comes Says asked x o → P o
  always-comes Says asked P (Settled outcome) o h k = subst P (sym k) h
  always-comes Says asked P (Asks question answered) o h k = subst P (sym k.2) (h k.0)

  openers-left : (os after : List Opener) (r : Result) → ResultsApart os r after → FitsBy (length os) (length after) r → AreOpeners os → AreOpeners after
  openers-left os after StaysText k f h = openers-persist os after k h
  openers-left os after (Forms nearer formed) k f h = go (drop nearer os) refl
    where
      go : (l : List Opener) → drop nearer os ≡ l → AreOpeners after
      go [] e = let z : length (drop nearer os) ≡ 0 = ap length e in let d = length-drop nearer os in absurd (omega (arith, z, d, f))
      go (t ∷ b) e = openers-persist b after (k t b e).persist (subst AreOpeners e (openers-drop nearer os h)).1

  openers-following : (Says : Saying) (asked : List Exchange) (st : State) (closer : Bracket) (o : Outcome) → Comes Says asked (decide one leaf st closer) o → AreOpeners st.openers → AreOpeners o.after.openers
  openers-following Says asked st closer o k h =
      openers-left st.openers o.after.openers o.result (always-comes Says asked (KeepsApart st.openers) (decide one leaf st closer) o ((decide-apart one leaf).keeps st closer) k)
      (always-comes Says asked (Fits (length st.openers)) (decide one leaf st closer) o ((leaf-forward one leaf size turn).fits st closer) k) h

  -- after the parts, the openers of the state still are
  openers-kept : (Says : Saying) (a : State) (parts : Parts) (b : State) → Reads (token one leaf) (decide one leaf) Says a parts b → AreOpeners a.openers → AreOpeners b.openers
  openers-kept Says a NoParts b h k = subst (λ (x : State). AreOpeners x.openers) (sym h) k
  openers-kept Says a (SinglePart item after) b h k = openers-kept Says (moved h.0 a) after b h.2 k
  openers-kept Says a (Form opener inside closer formed after) b h k =
      openers-kept Says h.next after b h.after
      (openers-following Says h.until.asked h.until closer (record { result = Forms (openings inside) formed; after = h.next }) h.comes (openers-kept Says (opened opener a) inside h.until h.inside ((a.at, h.opens), k)))
  openers-kept Says a (Closing closer after) b h k = openers-kept Says h.next after b h.after (openers-following Says a.asked a closer (record { result = StaysText; after = h.next }) h.comes k)
  openers-kept Says a (Opening opener after) b h k = openers-kept Says (opened opener a) after b h.1 ((a.at, h.0), k)

  -- the decision about each closing bracket of a reading is the same in both texts
  abbrev pub SameDecisions : Saying → Type 0
  SameDecisions Says =
      (at : ℕ) (st : State) (closer : Bracket) (o : Outcome) → closer.start ≤ size → token one leaf at ≡ Closes closer → IsTakenOpener (nearest st.openers) → Comes Says st.asked (decide one leaf st closer) o → decide one leaf st closer ≡ decide other leaf st closer

  reads-same : (Says : Saying) → SameDecisions Says → (a : State) (parts : Parts) (b : State) → AreOpeners a.openers → Reads (token one leaf) (decide one leaf) Says a parts b → Reads (token other leaf) (decide other leaf) Says a parts b
  reads-same Says same a NoParts b k h = h
  reads-same Says same a (SinglePart item after) b k h = (h.0, sym (token-same a.at) ∙ h.1, reads-same Says same (moved h.0 a) after b k h.2)
  reads-same Says same a (Form opener inside closer formed after) b k h =
      let until_openers = openers-kept Says (opened opener a) inside h.until h.inside ((a.at, h.opens), k) in
      let o : Outcome = record { result = Forms (openings inside) formed; after = h.next } in
      record {
        until = h.until;
        next = h.next;
        opens = sym (token-same a.at) ∙ h.opens;
        inside = reads-same Says same (opened opener a) inside h.until ((a.at, h.opens), k) h.inside;
        closes = sym (token-same h.until.at) ∙ h.closes;
        comes = subst (λ x. Comes Says h.until.asked x o) (same h.until.at h.until closer o (closer-low h.until.at closer h.closes) h.closes (nearest-opener h.until.openers until_openers) h.comes) h.comes;
        after = reads-same Says same h.next after b (openers-following Says h.until.asked h.until closer o h.comes until_openers) h.after;
      }
  reads-same Says same a (Closing closer after) b k h =
      let o : Outcome = record { result = StaysText; after = h.next } in
      record {
        next = h.next;
        closes = sym (token-same a.at) ∙ h.closes;
        comes = subst (λ x. Comes Says a.asked x o) (same a.at a closer o (closer-low a.at closer h.closes) h.closes (nearest-opener a.openers k) h.comes) h.comes;
        after = reads-same Says same h.next after b (openers-following Says a.asked a closer o h.comes k) h.after;
      }
  reads-same Says same a (Opening opener after) b k h = (sym (token-same a.at) ∙ h.0, reads-same Says same (opened opener a) after b ((a.at, h.0), k) h.1)

  -- ## Events

  event-same : (x : Item) (kind : ItemKind) → slice s x.start x.end ≡ slice t x.start x.end → event_of s x kind ≡ event_of t x kind
  event-same x kind h = grind arith

  inline-same : (Pipe : ℕ → Type 0) (low : ℕ) (spans : Inline) (to : ℕ) → InlineOrder Pipe low spans to → to ≤ size → inline_events s spans ≡ inline_events t spans
  inline-same Pipe low NoSpans to h w = refl
  inline-same Pipe low (SingleItem x after) to h w = grind (arith, inline-up, event-same, inline-same Pipe x.end after to h.2 w)
  inline-same Pipe low (SpanAround tag start end inside after) to h w =
      let up = inline-up Pipe end after to h.5 in
      ap (λ l. record { event = Start tag; start = start; end = end } ∷ (l ++ (record { event = End (tag_end.end_of tag); start = start; end = end } ∷ inline_events s after))) (inline-same Pipe h.0 inside end h.4 (omega (arith, up, w)))
      ∙ ap (λ l. record { event = Start tag; start = start; end = end } ∷ (inline_events t inside ++ (record { event = End (tag_end.end_of tag); start = start; end = end } ∷ l))) (inline-same Pipe end after to h.5 w)

  -- if all stretches but the last end with line endings, the spans are in the leaf
  spans-stand : size ≤ length s → HaveLineEnds s leaf.stretches → (Says : Saying) (before after : Between) (events : List Ranged) (h : ReadsLeaf one Says leaf before events after)
      → InlineOrder (IsAfterPipe profile.options s) (begin_of leaf.stretches) (spans_in profile.options h.parts) h.last.at × (h.last.at ≤ size)
  spans-stand bound lines Says before after events h =
      let start = entering leaf before in
      let stands = reading-stands (token one leaf) (decide one leaf) Says (end_of leaf.stretches) (leaf-ranges one leaf size turn) start h.parts h.last start.at (omega arith) (leaf-up leaf.stretches size turn) h.reads.reads in
      let reached = reading-reaches one leaf size turn bound lines Says start h.parts h.last (begin-place leaf.stretches lines turn) h.reads.reads in
      let gaps = reading-gaps (token one leaf) (decide one leaf) Says (end_of leaf.stretches) (leaf-forward one leaf size turn) (leaf-ranges one leaf size turn) (decide-far one leaf) start h.parts h.last h.reads.reads in
      let order = spans-order one leaf size turn bound lines start.at h.parts h.last.at stands.0 (parts-fill one leaf size turn Says start h.parts h.last h.reads.reads) reached.items reached.pipes gaps in
      let a = stands.1 in let b = end-low in
      (order, omega (arith, a, b))
    where
      begin-place : (st : List Stretch) (ended : HaveLineEnds s st) (turn : InTurn 0 st size) → (left : ℕ) × IsAt s st size turn bound ended left (begin_of st)
      begin-place [] ended turn = (0, (omega arith, refl))
      begin-place (x ∷ more) ended turn = (size_of (x ∷ more), (omega arith, sym (place-first s x more ended)))

  -- the leaf is read as the same events
  leaf-read : size ≤ length s → HaveLineEnds s leaf.stretches → (Says : Saying) → SameDecisions Says → (before after : Between) (events : List Ranged) → ReadsLeaf one Says leaf before events after → ReadsLeaf other Says leaf before events after
  leaf-read bound lines Says same before after events h =
      let k = spans-stand bound lines Says before after events h in
      let are : h.spans ≡ spans_in profile.options h.parts = spans-one profile.options h.parts h.spans h.are in
      record {
        parts = h.parts;
        last = h.last;
        spans = h.spans;
        reads = record { reads = reads-same Says same (entering leaf before) h.parts h.last tt h.reads.reads; ends = sym (token-same h.last.at) ∙ h.reads.ends };
        are = h.are;
        events_are =
            h.events_are ∙ ap (inline_events s) are ∙ inline-same (IsAfterPipe profile.options s) (begin_of leaf.stretches) (spans_in profile.options h.parts) h.last.at k.0 k.1 ∙ ap (inline_events t) (sym are);
        after_is = h.after_is;
      }

  -- if the labels that the leaf may look up lead to the same definitions
  pub leaf-same : size ≤ length s → HaveLineEnds s leaf.stretches → Alike → (Says : Saying) (before after : Between) (events : List Ranged) → ReadsLeaf one Says leaf before events after → ReadsLeaf other Says leaf before events after
  leaf-same bound lines alike Says before after events h =
      leaf-read bound lines Says
      (λ at st closer o w c b k.
      decide-same (λ x. Unit {0}) (λ label may. (alike label may).1) (λ named taken closer st may h. refers-alike named taken closer st (alike named.label may).0) at st closer w c b tt) before after events h

  -- by the questions that were asked: a question is not about a label that has a definition now
  abbrev pub Unanswered : Decision → Type 0
  Unanswered (Settled o) = Unit {0}
  Unanswered (Asks question answered) = e (fold question.reference) ≡ None

  refers-unanswered : profile.has_callback ≡ true → ((folded : List ℕ) (r : Definition) → d folded ≡ Some r → e folded ≡ Some r)
      → (named : Named) (taken : Taken) (closer : Bracket) (st : State) → Unanswered (refers one leaf named taken closer st) → SameReference named taken closer st
  refers-unanswered on stay named taken closer st k = grind (arith, defined-same, fold-again)

  -- these answers are not about labels that have a definition now
  abbrev pub SaysOfUndefined : Saying → Saying
  SaysOfUndefined Says asked question answer = Says asked question answer × (e (fold question.reference) ≡ None)

  told : (Says : Saying) (asked : List Exchange) (x : Decision) (o : Outcome) → Comes (SaysOfUndefined Says) asked x o → Unanswered x
  told Says asked (Settled s) o k = tt
  told Says asked (Asks question answered) o k = k.1.1

  pub leaf-unanswered : size ≤ length s → HaveLineEnds s leaf.stretches → FootnotesAlike → profile.has_callback ≡ true → ((folded : List ℕ) (r : Definition) → d folded ≡ Some r → e folded ≡ Some r)
      → (Says : Saying) (before after : Between) (events : List Ranged) → ReadsLeaf one (SaysOfUndefined Says) leaf before events after → ReadsLeaf other (SaysOfUndefined Says) leaf before events after
  leaf-unanswered bound lines footnotes on stay Says before after events h =
      leaf-read bound lines (SaysOfUndefined Says)
      (λ at st closer o w c b k.
      decide-same Unanswered footnotes (λ named taken closer st may h. refers-unanswered on stay named taken closer st h) at st closer w c b (told Says st.asked (decide one leaf st closer) o k)) before after events h

module _ (profile : Profile) (size : ℕ) (s t : List ℕ) (agree : Agree size s t) (d e : List ℕ → Option Definition) (f g : List ℕ → Bool) where
  pub all-same : size ≤ length s → (Says : Saying) (segments : List Segment) (before after : Between) (events : List Ranged) → AreKept profile size s d e f g segments
      → ReadsAll (reader_with profile s d f) Says segments before events after → ReadsAll (reader_with profile t e g) Says segments before events after
  all-same bound Says [] before after events k h = h
  all-same bound Says (Given r ∷ others) before after events k h = (h.0, all-same bound Says others before after h.0 k h.1, h.2)
  all-same bound Says (Content leaf ∷ others) before after events k h =
      (h.0, h.1, h.2, leaf-same profile size s t agree d e f g leaf k.0.turn bound k.0.lines k.0.labels Says before h.2 h.0 h.3, all-same bound Says others h.2 after h.1 k.1 h.4, h.5)

  pub all-unanswered : size ≤ length s → profile.has_callback ≡ true → ((folded : List ℕ) (r : Definition) → d folded ≡ Some r → e folded ≡ Some r)
      → (Says : Saying) (segments : List Segment) (before after : Between) (events : List Ranged) → AreKeptButLabels profile s d f g size segments
      → ReadsAll (reader_with profile s d f) (λ asked question answer. Says asked question answer × (e (fold question.reference) ≡ None)) segments before events after
      → ReadsAll (reader_with profile t e g) (λ asked question answer. Says asked question answer × (e (fold question.reference) ≡ None)) segments before events after
  all-unanswered bound on stay Says [] before after events k h = h
  all-unanswered bound on stay Says (Given r ∷ others) before after events k h = (h.0, all-unanswered bound on stay Says others before after h.0 k h.1, h.2)
  all-unanswered bound on stay Says (Content leaf ∷ others) before after events k h =
      (h.0, h.1, h.2, leaf-unanswered profile size s t agree d e f g leaf k.0.turn bound k.0.lines k.0.footnotes on stay Says before h.2 h.0 h.3, all-unanswered bound on stay Says others h.2 after h.1 k.1 h.4, h.5)
