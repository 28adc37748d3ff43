-- The HTML of a growing text from a cut on, for a caller that keeps nothing but the text, the HTML and the cut.
use Rattle.std.specs.Prelude.{◌≡◌, ◌⊎◌, ◌≤◌, ℕ, zero, suc, false, List, [], ◌++◌, take, IsCharBoundary, IsTrue, None, Option, string_bytes}
use Rattle.cmark_block_model.specs.DocumentModel.{document}
use Rattle.cmark_block_model.specs.Tails.{document_after}
use Rattle.cmark_grammar.specs.Answers.{Lookup}
use Rattle.cmark_grammar.specs.Event.{Event, Ranged}
use Rattle.cmark_grammar.specs.Headline.{profile_within}
use Rattle.cmark_grammar.specs.Html.{at_line_start, html, moved_all, pieces}
use Rattle.cmark_grammar.specs.Options.{Options}
use Rattle.cmark_grammar.specs.Questions.{Exchange}
use Rattle.cmark_grammar.specs.SpanDocuments.{Left, Profile, segments}
use Rattle.cmark_inline.specs.declared.callback.BrokenLink.{BrokenLink}
use Rattle.cmark_parser.specs.declared.parse.Parser.{Parser}
use Rattle.cmark_parser.specs.Parsing.{Asks, Remains}
use Rattle.cmark_parser.specs.Rendering.{IsHtmlBy, filtered_of}
use Rattle.cmark_stream_model.specs.Continued.{reader_with}
use Rattle.cmark_stream_model.specs.Settled.{IsSettledAt}
use Rattle.cmark_stream_model.specs.Undefined.{HasNoDefinitions, IsReadAlone}
use Rattle.cmark_values.specs.declared.text.CowStr.{CowStr}
use Rattle.cmark_stream.specs.declared.part.Part.{Part}

-- `filtered` replaces each event
module _ (profile : Profile) (filtered : Event → Event) where
  -- the bytes define nothing. Whatever follows them, they are read as the same events, if that defines nothing either. This is the HTML of
  -- the replacements of these events. After it the writer is as at the beginning
  pub record IsShownAlone (front shown : List ℕ) : Type 0 where
    pub events : List Ranged
    pub undefined : HasNoDefinitions (document front profile.options profile.lookup)
    pub alone : IsReadAlone profile front events
    pub shown_is : shown ≡ pieces (filtered_of filtered events)
    pub after_is : moved_all at_line_start (filtered_of filtered events) ≡ at_line_start

  -- this HTML is that of the bytes before this offset, which is the beginning of the text or a settled cut
  pub record IsShownUpTo (text : List ℕ) (cut : ℕ) (shown : List ℕ) : Type 0 where
    pub boundary : IsCharBoundary text cut
    pub is_settled : IsSettledAt profile.options text cut
    pub html : IsShownAlone (take cut text) shown

  -- the lines after this offset define nothing, and are read as these events
  pub record AreReadAfter (text : List ℕ) (from : ℕ) (events : List Ranged) : Type 0 where
    pub undefined : HasNoDefinitions (document_after text profile.options profile.lookup from)
    pub left : Left (reader_with profile text (λ folded. None) (λ folded. false)) (segments (document_after text profile.options profile.lookup from)) profile.reference_expansion_limit [] events

  -- this is the HTML of the lines after this offset, by themselves
  pub record IsTailHtml (text : List ℕ) (from : ℕ) (tail : List ℕ) : Type 0 where
    pub events : List Ranged
    pub read : AreReadAfter text from events
    pub tail_is : tail ≡ html (filtered_of filtered events)

  -- and the writer is as at the beginning after them
  pub record IsPieceHtml (text : List ℕ) (from : ℕ) (piece : List ℕ) : Type 0 where
    pub events : List Ranged
    pub read : AreReadAfter text from events
    pub piece_is : piece ≡ pieces (filtered_of filtered events)
    pub after_is : moved_all at_line_start (filtered_of filtered events) ≡ at_line_start

-- the settled HTML that the caller keeps at this new cut: none at 0
abbrev pub kept_at : (cut : ℕ) → (shown : List ℕ) → List ℕ
kept_at zero shown = []
kept_at (suc n) shown = shown

module _ (filtered : Event → Event) (limit : ℕ) (text : List ℕ) (options : Options) (lookup : Lookup) where
  abbrev pub rest_profile : Profile
  rest_profile = profile_within limit options lookup false

  -- What a call returns for the lines after an offset: the HTML of the blocks before a new cut, which are settled, and that of the others.
  -- `shown` is the settled HTML that the caller has, if the offset is 0 or a cut that an earlier call returned:
  --
  -- - boundary, order: the new cut is between two characters, and 0 or not before the offset;
  -- - written: whatever the offset is, both parts are the HTML of replaced events;
  -- - whole: at the cut 0 the tail is the HTML of the text, and nothing is settled;
  -- - shows: what the caller keeps, followed by both parts, is the HTML of the text;
  -- - settles: with the settled part it is the HTML of the bytes before the new cut
  pub record IsRestFrom (from : ℕ) (settled tail : List ℕ) (cut : ℕ) : Type 0 where
    pub boundary : IsCharBoundary text cut
    pub order : (cut ≡ 0) ⊎ (from ≤ cut)
    pub written : (events : List Ranged) × (settled ++ tail ≡ html (filtered_of filtered events))
    pub whole : cut ≡ 0 → (settled ≡ []) × IsHtmlBy limit filtered text options lookup tail
    pub shows : (shown : List ℕ) → IsShownUpTo rest_profile filtered text from shown → IsHtmlBy limit filtered text options lookup (kept_at cut shown ++ (settled ++ tail))
    pub settles : (shown : List ℕ) → IsShownUpTo rest_profile filtered text from shown → IsShownUpTo rest_profile filtered text cut (kept_at cut shown ++ settled)

module _ {E F : Type 0} (Says : F → BrokenLink → Option (CowStr × CowStr) → F → Type 0) (replacement : E → Lookup) (filtered : Event → Event) where
  -- all events that the parser had left were returned, with the questions that were asked, and this is the HTML of their replacements
  pub record WritesTail (old new : Parser E F) (tail : List ℕ) : Type 0 where
    pub exchanges : List Exchange
    pub events : List Ranged
    pub left : Remains replacement old exchanges events
    pub asks : Asks Says old exchanges new
    pub tail_is : tail ≡ html (filtered_of filtered events)

  -- and after it the writer is as at the beginning
  pub record WritesPiece (old new : Parser E F) (piece : List ℕ) : Type 0 where
    pub written : WritesTail old new piece
    pub after_is : moved_all at_line_start (filtered_of filtered written.events) ≡ at_line_start

  -- and the part says whether the writer is as at the beginning after it
  pub record WritesPart (old new : Parser E F) (part : Part) : Type 0 where
    pub written : WritesTail old new (string_bytes part.html)
    pub after_is : IsTrue part.ends_at_beginning → moved_all at_line_start (filtered_of filtered written.events) ≡ at_line_start
