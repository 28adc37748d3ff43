-- The HTML of a growing text from a cut on.
use Rattle.std.proofs.Common.{◌≡◌, inl, inr, ℕ, zero, suc, ◌<◌, false, ◌||◌, List, [], ◌∷◌, ◌++◌, take, Option, None, refl, sym, ap, ◌∙◌, subst, append_assoc, append-nil, arith}
use Rattle.std.proofs.lemmas.List.{map-append, take-append-le, take-take}
use Rattle.std.specs.Prelude.{IsCharBoundary, IsUtf8}
use Rattle.cmark_block_model.specs.BlocksModel as blocks_model
use Rattle.cmark_block_model.specs.DocumentModel.{document}
use Rattle.cmark_block_model.specs.Tails.{document_after}
use Rattle.cmark_grammar.specs.Answers.{Lookup}
use Rattle.cmark_grammar.specs.BlockDocument.{BlockDocument, Reference}
use Rattle.cmark_grammar.specs.Event.{Event, Ranged}
use Rattle.cmark_grammar.specs.Headline.{profile_within}
use Rattle.cmark_grammar.specs.Html.{Writing, at_line_start, html, last_piece, moved_all, pieces, pieces_from}
use Rattle.cmark_grammar.specs.Labels.{fold}
use Rattle.cmark_grammar.specs.Options.{Options}
use Rattle.cmark_grammar.specs.Readers.{Reader}
use Rattle.cmark_grammar.specs.References.{first_with, references}
use Rattle.cmark_grammar.specs.SpanDocuments.{Left, Profile, footnote_labels, has_label, reader_of, segments}
use Rattle.cmark_html.proofs.HtmlSteps.{moved_all-joined, pieces_from-joined}
use Rattle.cmark_parser.specs.Rendering.{IsHtmlBy, filtered_of}
use Rattle.cmark_stream_model.proofs.GrowingTables.{first-append, labels-append}
use Rattle.cmark_stream_model.proofs.TailFacts.{tail-footnotes, tail-references}
use Rattle.cmark_stream_model.proofs.UndefinedReadings.{undefined-alone, undefined-reading}
use Rattle.cmark_stream_model.specs.Continued.{reader_with}
use Rattle.cmark_stream_model.specs.Growth.{definition_or}
use Rattle.cmark_stream_model.specs.Tails.{IsJoinedAt}
use Rattle.cmark_stream_model.specs.Undefined.{HasNoDefinitions}
use Rattle.cmark_stream_model.specs.Settled.{IsSettledAt}
use Rattle.cmark_stream_model.proofs.SettledCuts.{settled-stays-at, stays-joined}
use Rattle.cmark_stream_model.proofs.SettledPieces.{front-joined}
use Rattle.cmark_stream.specs.Rests.{AreReadAfter, IsPieceHtml, IsRestFrom, IsShownAlone, IsShownUpTo, IsTailHtml, kept_at}
use Rattle.cmark_stream.proofs.Offsets.{boundary-grown}

-- ## Two lists of events, if the writer is as at the beginning after the first

module _ (a b : List Event) (again : moved_all at_line_start a ≡ at_line_start) where
  pub pieces-both : pieces (a ++ b) ≡ pieces a ++ pieces b
  pieces-both = pieces_from-joined at_line_start a b ∙ ap (λ w. pieces a ++ pieces_from w b) again

  pub moved-both : moved_all at_line_start (a ++ b) ≡ moved_all at_line_start b
  moved-both = moved_all-joined at_line_start a b ∙ ap (λ w. moved_all w b) again

  pub html-both : html (a ++ b) ≡ pieces a ++ html b
  html-both =
      ap (λ l. l ++ last_piece (moved_all at_line_start (a ++ b)).image) pieces-both
      ∙ ap (λ (w : Writing). (pieces a ++ pieces b) ++ last_piece w.image) moved-both
      ∙ append_assoc (pieces a) (pieces b) (last_piece (moved_all at_line_start b).image)

  pub html-first : html a ≡ pieces a
  html-first = ap (λ (w : Writing). pieces a ++ last_piece w.image) again ∙ append-nil (pieces a)

pub both-filtered : (filtered : Event → Event) (a b : List Ranged) → filtered_of filtered (a ++ b) ≡ filtered_of filtered a ++ filtered_of filtered b
both-filtered filtered a b = map-append (λ (r : Ranged). filtered r.event) a b

-- ## Texts that define nothing

-- the reader of a document that defines nothing
none-reader : (profile : Profile) (text : List ℕ) (d : BlockDocument) → HasNoDefinitions d → reader_with profile text (λ folded. None) (λ folded. false) ≡ reader_of text profile d
none-reader profile text d h = λ i. record {
  source = text;
  options = profile.options;
  lookup = profile.lookup;
  definition = λ folded. sym (h.definitions folded) i;
  has_footnote = λ folded. sym (h.footnotes folded) i;
  has_callback = profile.has_callback;
}

module _ (limit : ℕ) (options : Options) (lookup : Lookup) (filtered : Event → Event) (text : List ℕ) (from : ℕ) (joined : IsJoinedAt options lookup text from) where
  abbrev profile : Profile
  profile = profile_within limit options lookup false

  abbrev whole : BlockDocument
  whole = document text options lookup

  abbrev earlier : BlockDocument
  earlier = document (take from text) options lookup

  abbrev rest : BlockDocument
  rest = document_after text options lookup from

  -- two parts that define nothing
  pub undefined-whole : HasNoDefinitions earlier → HasNoDefinitions rest → HasNoDefinitions whole
  undefined-whole h k = record {
    definitions = λ folded.
        ap (first_with fold folded) (tail-references text options lookup from joined) ∙ first-append folded (references earlier) (references rest)
        ∙ ap (λ (o : Option Reference). definition_or o (first_with fold folded (references rest))) (h.definitions folded) ∙ k.definitions folded;
    footnotes = λ folded.
        ap (has_label folded) (tail-footnotes text options lookup from joined) ∙ labels-append folded (footnote_labels earlier) (footnote_labels rest)
        ∙ ap (λ b. b || has_label folded (footnote_labels rest)) (h.footnotes folded) ∙ k.footnotes folded;
  }

  left-of : HasNoDefinitions whole → (events : List Ranged) → AreReadAfter profile filtered text from events → Left (reader_of text profile whole) (segments rest) limit [] events
  left-of none events r = subst (λ (reader : Reader). Left reader (segments rest) limit [] events) (none-reader profile text whole none) r.left

  -- both parts are the HTML of the text
  pub rest-shown : (shown tail : List ℕ) → IsShownAlone profile filtered (take from text) shown → IsTailHtml profile filtered text from tail → IsHtmlBy limit filtered text options lookup (shown ++ tail)
  rest-shown shown tail h t =
      let none = undefined-whole h.undefined t.read.undefined in
      record {
        events = h.events ++ t.events;
        reading = undefined-reading profile refl text from joined none h.events t.events h.alone (left-of none t.events t.read);
        output_is =
            ap (λ l. l ++ tail) h.shown_is
            ∙ ap (λ l. pieces (filtered_of filtered h.events) ++ l) t.tail_is
            ∙ sym (html-both (filtered_of filtered h.events) (filtered_of filtered t.events) h.after_is)
            ∙ ap html (sym (both-filtered filtered h.events t.events));
      }

  -- both parts are the HTML of bytes that stay
  pub piece-grows : (shown piece : List ℕ) → IsShownAlone profile filtered (take from text) shown → IsPieceHtml profile filtered text from piece → IsShownAlone profile filtered text (shown ++ piece)
  piece-grows shown piece h p =
      let none = undefined-whole h.undefined p.read.undefined in
      let first = filtered_of filtered h.events in
      let later = filtered_of filtered p.events in
      record {
        events = h.events ++ p.events;
        undefined = none;
        alone = undefined-alone profile refl text from joined none h.events p.events h.alone (left-of none p.events p.read);
        shown_is =
            ap (λ l. l ++ piece) h.shown_is ∙ ap (λ l. pieces first ++ l) p.piece_is ∙ sym (pieces-both first later h.after_is) ∙ ap pieces (sym (both-filtered filtered h.events p.events));
        after_is = ap (moved_all at_line_start) (both-filtered filtered h.events p.events) ∙ moved-both first later h.after_is ∙ p.after_is;
      }

-- the beginning of a text
pub begins-alone : (profile : Profile) (filtered : Event → Event) → IsShownAlone profile filtered [] []
unfolding blocks_model.blocks
begins-alone profile filtered = record {
  events = [];
  undefined = record { definitions = λ folded. refl; footnotes = λ folded. refl };
  alone = λ more definition has_footnote none. (refl, refl);
  shown_is = refl;
  after_is = refl;
}

-- ## The new cut

take-none : (bs : List ℕ) → take 0 bs ≡ []
take-none [] = refl
take-none (b ∷ bs) = refl

-- nothing is shown at the beginning
pub starts-shown : (profile : Profile) (filtered : Event → Event) (text : List ℕ) → IsCharBoundary text 0 → IsShownUpTo profile filtered text 0 []
starts-shown profile filtered text start = record { boundary = start; is_settled = inl refl; html = subst (λ t. IsShownAlone profile filtered t []) (sym (take-none text)) (begins-alone profile filtered) }

module _ (limit : ℕ) (options : Options) (lookup : Lookup) (filtered : Event → Event) (text : List ℕ) where
  abbrev read : Profile
  read = profile_within limit options lookup false

  pub cut-is-joined : (cut : ℕ) → IsSettledAt options text cut → IsJoinedAt options lookup text cut
  cut-is-joined cut h = subst (λ t. IsJoinedAt options lookup t cut) (append-nil text) (stays-joined options text cut h lookup [])

  pub rest-same : (from : ℕ) (settled other tail : List ℕ) (cut at : ℕ) → settled ≡ other → cut ≡ at → IsRestFrom filtered limit text options lookup from other tail at → IsRestFrom filtered limit text options lookup from settled tail cut
  rest-same from settled other tail cut at e f h =
      subst (λ l. IsRestFrom filtered limit text options lookup from l tail cut) (sym e) (subst (IsRestFrom filtered limit text options lookup from other tail) (sym f) h)

  -- the whole text is read
  pub rest-whole : (from : ℕ) (tail : List ℕ) → IsCharBoundary text 0 → IsHtmlBy limit filtered text options lookup tail → IsRestFrom filtered limit text options lookup from [] tail 0
  rest-whole from tail start h = record {
    boundary = start;
    order = inl refl;
    written = (h.events, h.output_is);
    whole = λ z. (refl, h);
    shows = λ shown k. h;
    settles = λ shown k. starts-shown read filtered text start;
  }

  -- no further block is settled
  pub rest-stays : (from : ℕ) (tail : List ℕ) → IsCharBoundary text from → IsTailHtml read filtered text from tail → IsRestFrom filtered limit text options lookup from [] tail from
  rest-stays zero tail start t = rest-whole zero tail start (rest-shown limit options lookup filtered text 0 (cut-is-joined 0 (inl refl)) [] tail (starts-shown read filtered text start).html t)
  rest-stays (suc n) tail begins t = record {
    boundary = begins;
    order = inr (omega arith);
    written = (t.events, t.tail_is);
    whole = λ z. absurd (omega (arith, z));
    shows = λ shown k. rest-shown limit options lookup filtered text (suc n) (cut-is-joined (suc n) k.is_settled) shown tail k.html t;
    settles = λ shown k. subst (IsShownUpTo read filtered text (suc n)) (sym (append-nil shown)) k;
  }

  module _ (from cut : ℕ) (less : from < cut) (stays : IsSettledAt options text from → IsSettledAt options text cut) (piece tail : List ℕ) (p : IsPieceHtml read filtered (take cut text) from piece) (t : IsTailHtml read filtered text cut tail) where
    settled-shown : (shown : List ℕ) → IsShownUpTo read filtered text from shown → IsShownAlone read filtered (take cut text) (shown ++ piece)
    settled-shown shown k =
        piece-grows limit options lookup filtered (take cut text) from (front-joined options lookup text from cut less k.is_settled (stays k.is_settled)) shown piece
        (subst (λ b. IsShownAlone read filtered b shown) (sym (take-take from cut text (omega (arith, less)))) k.html) p

    all-shown : (shown : List ℕ) → IsShownUpTo read filtered text from shown → IsHtmlBy limit filtered text options lookup (shown ++ (piece ++ tail))
    all-shown shown k =
        subst (IsHtmlBy limit filtered text options lookup) (append_assoc shown piece tail)
        (rest-shown limit options lookup filtered text cut (cut-is-joined cut (stays k.is_settled)) (shown ++ piece) tail (settled-shown shown k) t)

    all-written : piece ++ tail ≡ html (filtered_of filtered (p.events ++ t.events))
    all-written =
        ap (λ l. l ++ tail) p.piece_is ∙ ap (λ l. pieces (filtered_of filtered p.events) ++ l) t.tail_is
        ∙ sym (html-both (filtered_of filtered p.events) (filtered_of filtered t.events) p.after_is) ∙ ap html (sym (both-filtered filtered p.events t.events))

    -- the blocks up to the cut are settled
    pub rest-grows : IsCharBoundary text cut → IsRestFrom filtered limit text options lookup from piece tail cut
    rest-grows boundary = record {
      boundary = boundary;
      order = inr (omega (arith, less));
      written = (p.events ++ t.events, all-written);
      whole = λ z. absurd (omega (arith, z, less));
      shows = λ shown k. subst (λ l. IsHtmlBy limit filtered text options lookup (l ++ (piece ++ tail))) (sym (kept shown)) (all-shown shown k);
      settles = λ shown k.
          subst (λ l. IsShownUpTo read filtered text cut (l ++ piece)) (sym (kept shown))
          (record { boundary = boundary; is_settled = stays k.is_settled; html = settled-shown shown k });
    }
      where
        kept : (shown : List ℕ) → kept_at cut shown ≡ shown
        kept shown = go cut refl
          where
            go : (n : ℕ) → cut ≡ n → kept_at n shown ≡ shown
            go zero e = absurd (omega (arith, e, less))
            go (suc n) e = refl

-- ## Laws for a caller

-- a text that grows keeps its cuts
pub shown-grown : (profile : Profile) (filtered : Event → Event) (text more : List ℕ) (cut : ℕ) (shown : List ℕ) → IsUtf8 more → IsShownUpTo profile filtered text cut shown → IsShownUpTo profile filtered (text ++ more) cut shown
shown-grown profile filtered text more cut shown utf8 h = record {
  boundary = boundary-grown text more cut utf8 h.boundary;
  is_settled = settled-stays-at profile.options text more cut h.is_settled;
  html = subst (λ b. IsShownAlone profile filtered b shown) (sym (take-append-le cut text more h.boundary.0)) h.html;
}
