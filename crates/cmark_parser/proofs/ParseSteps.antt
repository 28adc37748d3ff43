-- Steps of a parser.
use Rattle.std.specs.Prelude.{IfOk, IfSome, OnErr, OnOk, Option, Result, Err, IsUtf8, is_err, is_some, option_map}
use Rattle.std.specs.declared.alloc.AllocError.{AllocError}
use Rattle.std.proofs.Common.{◌≡◌, ◌+◌, ◌*◌, ◌<◌, ◌≤◌, ℕ, suc, Bool, true, false, if◌then◌else◌, List, [], ◌∷◌, ◌++◌, length, None, Some, Ok, inl, inr, refl, sym, ap, ◌∙◌, subst, arith}
use Rattle.cmark_block_model.proofs.Drawings.{derived}
use Rattle.cmark_block_model.proofs.LeafDrawings.{segments-bounded}
use Rattle.cmark_blocks.specs.Footnotes.{HasLabels, unused_if}
use Rattle.cmark_grammar.specs.Answers.{Lookup}
use Rattle.cmark_grammar.specs.BlockDocument.{Reference}
use Rattle.cmark_grammar.specs.BracketDecisions.{or_empty}
use Rattle.cmark_block_model.specs.DocumentModel.{document}
use Rattle.cmark_grammar.specs.Event.{Ranged}
use Rattle.cmark_grammar.specs.Labels.{fold}
use Rattle.cmark_grammar.specs.Options.{Options}
use Rattle.cmark_grammar.specs.Questions.{Exchange, Plan}
use Rattle.cmark_grammar.specs.Readers.{Reader}
use Rattle.cmark_grammar.specs.References.{first_with, references}
use Rattle.cmark_grammar.specs.SpanDocuments.{Content, Given as GivenOf, Segment, footnote_labels, has_label, segments}
use Rattle.cmark_grammar.specs.SpanDocuments as documents
use Rattle.cmark_grammar.specs.Tag.{Linked}
use Rattle.cmark_inline.specs.Counted.{total}
use Rattle.cmark_inline.specs.declared.steps.Steps.{Steps}
use Rattle.cmark_inline.specs.Decided.{said}
use Rattle.cmark_inline.specs.Footnoted.{SameFootnotes}
use Rattle.cmark_inline.specs.Linked.{said_by, title_or_none}
use Rattle.cmark_inline.specs.Resolved.{Answered}
use Rattle.cmark_inline.specs.declared.callback.BrokenLink.{BrokenLink}
use Rattle.cmark_inline_model.specs.CharacterRanges.{HaveRanges}
use Rattle.cmark_inline_model.specs.LeafExtents.{extents}
use Rattle.cmark_inline_model.specs.LeafGaps.{HaveNoPipesBetween}
use Rattle.cmark_inline_model.specs.LeafModel.{AreLeavesInTurn}
use Rattle.cmark_inline_model.specs.PlacedLeaves.{AreLeavesPlaced}
use Rattle.cmark_inline_model.specs.Unanswered.{AreUnanswered}
use Rattle.cmark_inline_model.proofs.BlockRanges.{derived-ranges}
use Rattle.cmark_inline_model.proofs.LeafEndings.{derived-placed}
use Rattle.cmark_inline_model.proofs.LeafExtents.{derived-extents}
use Rattle.cmark_inline_model.proofs.LeafGaps.{derived-no-pipes}
use Rattle.cmark_inline_model.proofs.PlannedReadings.{left-planned}
use Rattle.cmark_references.proofs.EntrySteps.{looked_up}
use Rattle.cmark_references.proofs.SpellingSteps.{at}
use Rattle.cmark_references.specs.Definitions.{definition, entry_of, reference_at, shown_entry}
use Rattle.cmark_references.specs.Footnotes.{footnote}
use Rattle.cmark_references.specs.Links.{shown_link}
use Rattle.cmark_references.specs.declared.link.Link.{Link}
use Rattle.cmark_references.specs.declared.definitions.LinkDef.{LinkDef}
use Rattle.cmark_references.specs.declared.definitions.RefDefs.{RefDefs}
use Rattle.cmark_references.specs.declared.footnotes.FootnoteDef.{FootnoteDef}
use Rattle.cmark_event_walk.specs.Callback.{AnswersIfAny}
use Rattle.cmark_inline_model.specs.PlainLines.{line_events}
use Rattle.cmark_event_walk.specs.Walking as walking
use Rattle.cmark_event_walk.specs.Walking.{ArePlaced}
use Rattle.cmark_event_walk.specs.declared.callback.OptionalCallback.{OptionalCallback}
use Rattle.cmark_values.specs.Labelled.{link_key}
use Rattle.cmark_values.specs.Shown.{text_bytes}
use Rattle.cmark_values.specs.declared.label.LinkLabel.{LinkLabel}
use Rattle.cmark_text.specs.declared.short.Short.TheVariants as short
use Rattle.cmark_text.specs.declared.short.Step.TheVariants as next
use Rattle.cmark_text.specs.declared.short.Short.{Short}
use Rattle.cmark_values.specs.declared.text.CowStr.{CowStr}
use Rattle.cmark_text.specs.declared.ranged.Ranged.{Ranged as Item}
use Rattle.cmark_text.specs.Ranged.{IsRangedZeroCopy, shown_ranged}
use Rattle.cmark_parser.specs.declared.parse.Parser.{Parser}
use Rattle.cmark_parser.specs.Walking.{GoesOn, SomeLeft, reader_by}
use Rattle.cmark_event_walk.specs.declared.walk_step.WalkStep.{WalkStep}
use Rattle.cmark_event_walk.specs.declared.walk_step.WalkStep.TheVariants as coming
use Rattle.cmark_parser.specs.Parsing.{CanGo, IsOver, GivesAs, GivesWalkStep, GivesOrErr, GivesStart, GivesStep, IsCounted, Left, Passes, ReadsWithin, Remains, definitions, footnotes, events_left, is_last, link_to_come, link_unless, lookup_of, options_of, reader_for, text_of}

-- ## Questions

module _ {F : Type 0} (Says : F → BrokenLink → Option (CowStr × CowStr) → F → Type 0) where
  -- the answers of a callback that may be absent
  abbrev pub SaysIfAny : OptionalCallback F → BrokenLink → Option (CowStr × CowStr) → OptionalCallback F → Type 0
  SaysIfAny before link answer after = AnswersIfAny Says before.callback link answer after.callback

  asked-of : (taken : List Exchange) (before after : OptionalCallback F) → Answered SaysIfAny taken before after → Answered (AnswersIfAny Says) taken before.callback after.callback
  asked-of [] before after h = ap OptionalCallback.callback h
  asked-of (x ∷ xs) before after h =
      (h.0.callback, record { link = h.1.link; told = h.1.told; question_is = h.1.question_is; answer_is = h.1.answer_is; run = h.1.run }, asked-of xs h.0 after h.2)

  -- without a callback, the answer to each question is None
  pub none-answered : (taken : List Exchange) (after : Option F) → Answered (AnswersIfAny Says) taken None after → AreUnanswered taken
  none-answered [] after h = tt
  none-answered (x ∷ xs) after h = (sym h.1.answer_is ∙ ap (option_map _) h.1.run.0, none-answered xs after (subst (λ (o : Option F). Answered (AnswersIfAny Says) xs o after) h.1.run.1 h.2))

-- ## The events that are left

pub placed-all : (reader : Reader) (others : List Segment) → HaveRanges reader.source others → AreLeavesPlaced reader others → HaveNoPipesBetween reader others → ArePlaced reader others
placed-all reader [] h k p = tt
placed-all reader (GivenOf r ∷ others) h k p = (h.0, placed-all reader others h.1 k p)
placed-all reader (Content leaf ∷ others) h k p = (record { placed = k.0; pipes = p.0 }, placed-all reader others h k.1 p.1)

pub placed-turn : (reader : Reader) (others : List Segment) → ArePlaced reader others → AreLeavesInTurn (length reader.source) others
placed-turn reader [] h = tt
placed-turn reader (GivenOf r ∷ others) h = placed-turn reader others h.1
placed-turn reader (Content leaf ∷ others) h = (h.0.placed.turn, placed-turn reader others h.1)

-- the definitions and the footnotes of the text are the same as in the grammar
title-same : (title : Option CowStr) → or_empty (option_map text_bytes title) ≡ title_or_none title
title-same None = refl
title-same (Some text) = refl

said-entry : (entry : Option (LinkLabel × LinkDef)) → option_map said (option_map shown_entry entry) ≡ option_map said_by (option_map (λ e. e.1) entry)
said-entry None = refl
said-entry (Some e) = ap (λ t. Some (record { destination = text_bytes e.1.dest; title = t })) (title-same e.1.title)

pub said-same : (folded : List ℕ) (table : RefDefs) (found : Option Reference) → reference_at table folded ≡ found → option_map said found ≡ option_map said_by (definition table folded)
said-same folded table found is = ap (option_map said) (sym is) ∙ said-entry (entry_of table folded) ∙ ap (option_map said_by) (sym (looked_up (at link_key folded) table))

pub label-same : (known : Option FootnoteDef) (b : Bool) → known ≡ unused_if b → b ≡ is_some known
label-same known true e = sym (ap is_some e)
label-same known false e = sym (ap is_some e)

module _ {E F : Type 0} (replacement : E → Lookup) where
  -- the reader stays the same if the text, the options, the entities, the definitions and the labels of the footnotes do
  reader-same : (old new : Parser E F) → definitions new ≡ definitions old → SameFootnotes (footnotes old) (footnotes new) → walking.ReadsSame replacement (reader_for replacement old) new.spans
      → reader_for replacement old ≡ reader_for replacement new
  reader-same old new same known s = λ i. record {
    source = s.source i;
    options = s.options_are i;
    lookup = s.lookup_is i;
    definition = λ folded. reference_at (sym same i) folded;
    has_footnote = λ folded. sym (known folded) i;
    has_callback = true;
  }

  -- if a parser is not over, its walk is read by its reader
  pub read-by : (parser : Parser E F) → parser.is_over ≡ false → CanGo replacement parser → walking.IsReadBy replacement (reader_for replacement parser) parser.spans
  read-by parser e can = go can.goes
    where
      go : GoesOn (Remains replacement) IsOver parser → walking.IsReadBy replacement (reader_for replacement parser) parser.spans
      go (inl over) = absurd (let q : true ≡ false = sym over ∙ e in cc)
      go (inr some) = let l = some (λ asked question. None) in (subst (λ b. Left replacement b parser l.0 l.1) e l.3).read_by

  pub going : (parser : Parser E F) → parser.is_over ≡ false → CanGo replacement parser → walking.Stands parser.spans
  going parser e can = let r = read-by parser e can in (r.left, r.stands)

  some-left : (parser : Parser E F) → parser.is_over ≡ false → walking.IsReadBy replacement (reader_for replacement parser) parser.spans → (plan : Plan) → SomeLeft (Remains replacement) plan parser
  some-left parser e r plan =
      let reader = reader_for replacement parser in
      let l = left-planned reader r.left (walking.expansion_left_of parser.spans) plan (placed-turn reader r.left r.placed) in
      let events = walking.spans_to_come parser.spans.in_leaf parser.spans ++ l.1 in
      (l.0, events, l.2, subst (λ b. Left replacement b parser l.0 events) (sym e) (record { read_by = r; later = l.1; reads = l.3; are = refl }))

  goes : (old new : Parser E F) → new.is_over ≡ false → definitions new ≡ definitions old → SameFootnotes (footnotes old) (footnotes new) → walking.IsReadBy replacement (reader_for replacement old) new.spans
      → GoesOn (Remains replacement) IsOver new
  goes old new e same known r = inr (some-left new e (subst (λ reader. walking.IsReadBy replacement reader new.spans) (reader-same old new same known r.same) r))

pub left-of : {E F : Type 0} → (parser : Parser E F) → parser.is_over ≡ false → events_left parser ≡ suc (walking.events_left parser.spans)
left-of parser e = ap (λ b. if b then 0 else suc (walking.events_left parser.spans)) e

-- a link is next only if the parser is not over
pub link-going : {E F : Type 0} → (parser : Parser E F) → is_some (link_to_come parser) ≡ true → parser.is_over ≡ false
link-going parser h = go parser.is_over refl
  where
    go : (b : Bool) → parser.is_over ≡ b → parser.is_over ≡ false
    go true e = let q : false ≡ true = sym (ap (λ b. is_some (link_unless b parser)) e) ∙ h in cc
    go false e = e

pub link-walked : {E F : Type 0} → (parser : Parser E F) → is_some (link_to_come parser) ≡ true → is_some (walking.link_to_come parser.spans) ≡ true
link-walked parser h = sym (ap (λ b. is_some (link_unless b parser)) (link-going parser h)) ∙ h

module _ {E F : Type 0} (Says : F → BrokenLink → Option (CowStr × CowStr) → F → Type 0) (replacement : E → Lookup) where
  abbrev WalkPasses : (front : List Ranged) → (old new : Parser E F) → Type 0
  WalkPasses front old new = walking.Passes (SaysIfAny Says) replacement (reader_for replacement old) front old.spans new.spans

  -- the parser passes the events that its walk passes
  passes-of : (front : List Ranged) (old new : Parser E F) → old.is_over ≡ false → new.is_over ≡ false → definitions new ≡ definitions old → SameFootnotes (footnotes old) (footnotes new)
      → WalkPasses front old new → Passes Says replacement front old new
  passes-of front old new e n same known p = record {
    taken = p.taken;
    asks = asked-of Says p.taken old.spans.callback new.spans.callback p.answered;
    back = λ rest events m.
        subst (λ b. Left replacement b old (p.taken ++ rest) (front ++ events)) (sym e)
        (p.back rest events
        (subst (λ reader. walking.Remains replacement reader new.spans rest events) (sym (reader-same replacement old new same known p.read_by.same)) (subst (λ b. Left replacement b new rest events) n m)));
  }

  -- an event is returned, and the others are left
  pub gives-some : (old new : Parser E F) (item : Item) → old.is_over ≡ false → new.is_over ≡ false → walking.Gives (SaysIfAny Says) replacement (reader_for replacement old) old.spans item new.spans
      → IsRangedZeroCopy (text_of old) item → walking.events_left new.spans < walking.events_left old.spans → text_of new ≡ text_of old → definitions new ≡ definitions old → SameFootnotes (footnotes old) (footnotes new) → IsCounted new → GivesStep Says replacement old (Some (Ok item)) new
  gives-some old new item e n gives lent less text same known counted =
      let p = passes-of (shown_ranged item ∷ []) old new e n same known gives.passes in
      record {
        next = record {
          taken = p.taken;
          first = (p.asks, (shown_ranged item, record { is = refl; range = gives.range; lent = lent }, p.back));
          goes_on = goes replacement old new n same known gives.passes.read_by;
          over = λ over. absurd (let q : true ≡ false = sym over ∙ e in cc);
        };
        text = text;
        definitions = same;
        footnotes = known;
        counted = counted;
        fewer = let a = left-of old e in let b = left-of new n in omega (arith, a, b, less);
      }

  -- after the end, the short result is Over
  pub gives-over : (parser : Parser E F) → parser.is_over ≡ true → IsCounted parser → GivesAs Says replacement parser next.Over parser
  gives-over parser e counted = record {
    answers = record { taken = []; asks = refl; none = subst (λ b. Left replacement b parser [] []) (sym e) (refl, refl); over = e };
    can = record { goes = inl e; counted = counted };
    text = refl;
    definitions = refl;
    footnotes = λ folded. refl;
  }

  pub gives-error : (old new : Parser E F) (error : AllocError) → old.is_over ≡ false → new.is_over ≡ true → ((reader : Reader) → walking.NoEndIsNext replacement reader old.spans)
      → walking.Stops (SaysIfAny Says) replacement (reader_for replacement old) old.spans new.spans → text_of new ≡ text_of old → definitions new ≡ definitions old → SameFootnotes (footnotes old) (footnotes new) → IsCounted new → GivesStep Says replacement old (Some (Err error)) new
  gives-error old new error e n ends stops text same known counted = record {
    next = record {
      taken = stops.taken;
      first = (
        asked-of Says stops.taken old.spans.callback new.spans.callback stops.answered,
        λ exchanges events m. ends (reader_for replacement old) exchanges events (subst (λ b. Left replacement b old exchanges events) e m),
        n,
        λ plan. (let l = stops.left plan in (l.0, l.1, l.2, subst (λ b. Left replacement b old (stops.taken ++ l.0) l.1) (sym e) l.3)),
      );
      goes_on = inl n;
      over = λ over. absurd (let q : true ≡ false = sym over ∙ e in cc);
    };
    text = text;
    definitions = same;
    footnotes = known;
    counted = counted;
    fewer =
        let a = ap (λ b. if b then 0 else suc (walking.events_left old.spans)) e in
        let b = ap (λ b. if b then 0 else suc (walking.events_left new.spans)) n in
        omega (arith, a, b);
  }

  -- the parser returns the results of its walk
  module _ (old new : Parser E F) (e : old.is_over ≡ false) (text : text_of new ≡ text_of old) (same : definitions new ≡ definitions old) (known : SameFootnotes (footnotes old) (footnotes new)) (counted : IsCounted new) where
    gives-short : (short : Short) (start end : ℕ) → new.is_over ≡ false → walking.GivesShort (SaysIfAny Says) replacement (reader_for replacement old) old.spans short start end new.spans → walking.events_left new.spans < walking.events_left old.spans → GivesAs Says replacement old (next.Short short start end) new
    gives-short short start end n h less = record {
      answers = record {
        given = h.given;
        is = h.is;
        range = h.range;
        lent = h.lent;
        passes = passes-of (h.given ∷ []) old new e n same known h.passes;
        fewer = let a = left-of old e in let b = left-of new n in omega (arith, a, b, less);
      };
      can = record { goes = goes replacement old new n same known h.passes.read_by; counted = counted };
      text = text;
      definitions = same;
      footnotes = known;
    }

    -- the start of a link is passed
    gives-start : (link : Linked) → new.is_over ≡ false → walking.GivesStart (SaysIfAny Says) replacement (reader_for replacement old) old.spans link new.spans → walking.events_left new.spans < walking.events_left old.spans → GivesStart Says replacement old link new
    gives-start link n h less = record {
      given = h.given;
      is = h.is;
      range = h.range;
      passes = passes-of (h.given ∷ []) old new e n same known h.passes;
      fewer = let a = left-of old e in let b = left-of new n in omega (arith, a, b, less);
      can = record { goes = goes replacement old new n same known h.passes.read_by; counted = counted };
      text = text;
      definitions = same;
      footnotes = known;
    }

    pub gives-next-start : new.is_over ≡ false → IfSome (walking.link_to_come old.spans) (λ link. walking.GivesStart (SaysIfAny Says) replacement (reader_for replacement old) old.spans (shown_link link) new.spans)
        → walking.events_left new.spans < walking.events_left old.spans → IfSome (link_to_come old) (λ link. GivesStart Says replacement old (shown_link link) new)
    gives-next-start n first less = subst (λ b. IfSome (link_unless b old) Starts) (sym e) (go (walking.link_to_come old.spans) first)
      where
        Starts : Link → Type 0
        Starts link = GivesStart Says replacement old (shown_link link) new

        go : (found : Option Link) → IfSome found (λ link. walking.GivesStart (SaysIfAny Says) replacement (reader_for replacement old) old.spans (shown_link link) new.spans) → IfSome found Starts
        go None h = tt
        go (Some link) h = gives-start (shown_link link) n h less

    gives-coming : (coming : WalkStep) → new.is_over ≡ is_last (Ok coming) → walking.GivesWalkStep (SaysIfAny Says) replacement (reader_for replacement old) old.spans coming new.spans → walking.LeavesFewerAfter old.spans coming new.spans
        → GivesWalkStep Says replacement old coming new
    gives-coming (coming.Span short start end) n h less = gives-short short start end n h less
    gives-coming (coming.Block short start end) n h less = gives-short short start end n h less
    gives-coming (coming.Lines (short.Text text_of_lines) start end) n h less = record {
      start = h.start;
      lines = h.lines;
      last = h.last;
      bytes_are = h.text_is;
      some = h.some;
      passes = passes-of (line_events h.start h.lines h.last) old new e n same known h.passes;
      fewer = let a = left-of old e in let b = left-of new n in omega (arith, a, b, less);
      can = record { goes = goes replacement old new n same known h.passes.read_by; counted = counted };
      text = text;
      definitions = same;
      footnotes = known;
    }
    gives-coming (coming.Lines (short.Start tag) start end) n h less = absurd h
    gives-coming (coming.Lines (short.End tag) start end) n h less = absurd h
    gives-coming (coming.Lines (short.Code bytes) start end) n h less = absurd h
    gives-coming (coming.Lines (short.Html bytes) start end) n h less = absurd h
    gives-coming (coming.Lines (short.InlineHtml bytes) start end) n h less = absurd h
    gives-coming (coming.Lines short.SoftBreak start end) n h less = absurd h
    gives-coming (coming.Lines short.HardBreak start end) n h less = absurd h
    gives-coming (coming.Lines short.Rule start end) n h less = absurd h
    gives-coming coming.Long n h most = record {
      answers = record {
        passes = passes-of [] old new e n same known h;
        most = let a = left-of old e in let b = left-of new n in omega (arith, a, b, most);
      };
      can = record { goes = goes replacement old new n same known h.read_by; counted = counted };
      text = text;
      definitions = same;
      footnotes = known;
    }
    gives-coming coming.Over n h none = record {
      answers = record {
        taken = h.taken;
        asks = asked-of Says h.taken old.spans.callback new.spans.callback h.answered;
        none = subst (λ b. Left replacement b old h.taken []) (sym e) h.none;
        over = n;
      };
      can = record { goes = inl n; counted = counted };
      text = text;
      definitions = same;
      footnotes = known;
    }

    pub gives-or-err : (o : Result WalkStep AllocError) → new.is_over ≡ is_last o → IfOk o (λ coming. walking.GivesWalkStep (SaysIfAny Says) replacement (reader_for replacement old) old.spans coming new.spans)
        → IfOk o (λ coming. walking.LeavesFewerAfter old.spans coming new.spans)
        → OnErr o ((reader : Reader) → walking.NoEndIsNext replacement reader old.spans) → OnErr o (walking.Stops (SaysIfAny Says) replacement (reader_for replacement old) old.spans new.spans) → GivesOrErr Says replacement old o new
    gives-or-err (Ok coming) n h less ends stops = gives-coming coming n h less
    gives-or-err (Err error) n h less ends stops = gives-error old new error e n ends stops text same known counted

  -- the parser takes an event that is not a short one
  pub gives-taken : (old new : Parser E F) (o : Result Item AllocError) → old.is_over ≡ false → new.is_over ≡ is_err o → text_of new ≡ text_of old → definitions new ≡ definitions old → SameFootnotes (footnotes old) (footnotes new) → IsCounted new
      → IfOk o (λ given. walking.Gives (SaysIfAny Says) replacement (reader_for replacement old) old.spans given new.spans) → IfOk o (IsRangedZeroCopy (text_of old)) → OnOk o (walking.events_left new.spans < walking.events_left old.spans)
      → OnErr o ((reader : Reader) → walking.NoEndIsNext replacement reader old.spans) → walking.Stops (SaysIfAny Says) replacement (reader_for replacement old) old.spans new.spans → GivesStep Says replacement old (Some o) new
  gives-taken old new (Ok item) e n text same known counted gives lent less ends stops = gives-some old new item e n gives lent less text same known counted
  gives-taken old new (Err error) e n text same known counted gives lent less ends stops = gives-error old new error e n ends stops text same known counted

-- ## A parser at the start

module _ {E F : Type 0} (replacement : E → Lookup) (parser : Parser E F) (text : List ℕ) (options : Options) (lookup : Lookup) where
  abbrev pub left : List Segment
  left = segments (document text options lookup)

  abbrev pub reader : Reader
  reader = reader_by text options lookup

  -- the events of the blocks and the leaves have their places
  pub begin-placed : IsUtf8 text → ArePlaced reader left
  begin-placed utf8 =
      let d = document text options lookup in
      let derives = derived text options lookup in
      placed-all reader left (derived-ranges text options lookup d utf8 derives) (derived-placed reader options lookup d derives) (derived-no-pipes reader options lookup d derives)

  -- the reader has the data of the parser
  pub begin-same : text_of parser ≡ text → options_of parser ≡ options → lookup_of replacement parser ≡ lookup
      → ((folded : List ℕ) → reference_at (definitions parser) folded ≡ first_with fold folded (references (document text options lookup)))
      → HasLabels (footnote_labels (document text options lookup)) (footnotes parser) → walking.ReadsSame replacement reader parser.spans
  begin-same text_is options_is lookup_is known labels = record {
    source = sym text_is;
    options_are = sym options_is;
    lookup_is = sym lookup_is;
    definitions = λ folded. said-same folded (definitions parser) (first_with fold folded (references (document text options lookup))) (known folded);
    footnotes_are = λ folded. label-same (footnote (footnotes parser) folded) (has_label folded (footnote_labels (document text options lookup))) (labels folded);
    callback = refl;
  }

  pub begin-reader : text_of parser ≡ text → options_of parser ≡ options → lookup_of replacement parser ≡ lookup
      → ((folded : List ℕ) → reference_at (definitions parser) folded ≡ first_with fold folded (references (document text options lookup)))
      → HasLabels (footnote_labels (document text options lookup)) (footnotes parser) → reader ≡ reader_for replacement parser
  begin-reader text_is options_is lookup_is known labels = λ i. record {
    source = sym text_is i;
    options = sym options_is i;
    lookup = sym lookup_is i;
    definition = λ folded. sym (known folded) i;
    has_footnote = λ folded. label-same (footnote (footnotes parser) folded) (has_label folded (footnote_labels (document text options lookup))) (labels folded) i;
    has_callback = true;
  }

  pub reads-from : (limit : ℕ) → parser.is_over ≡ false → reader ≡ reader_for replacement parser → walking.expansion_left_of parser.spans ≡ limit → ArePlaced reader left
      → ((exchanges : List Exchange) (events : List Ranged) → documents.Left reader left (walking.expansion_left_of parser.spans) exchanges events → walking.Remains replacement reader parser.spans exchanges events)
      → ((exchanges : List Exchange) (events : List Ranged) → walking.Remains replacement reader parser.spans exchanges events → documents.Left reader left (walking.expansion_left_of parser.spans) exchanges events)
      → ReadsWithin replacement limit text options lookup parser
  reads-from limit e same limit-is placed begins reads = record {
    some = λ plan.
        let l = left-planned reader left (walking.expansion_left_of parser.spans) plan (placed-turn reader left placed) in
        (l.0, l.1, l.2, subst (λ b. Left replacement b parser l.0 l.1) (sym e) (subst (λ r. walking.Remains replacement r parser.spans l.0 l.1) same (begins l.0 l.1 l.3)));
    reads = λ exchanges events m.
        let h = subst (λ n. documents.Left reader left n exchanges events) limit-is (reads exchanges events (subst (λ r. walking.Remains replacement r parser.spans exchanges events) (sym same) (subst (λ b. Left replacement b parser exchanges events) e m))) in
        record { document = document text options lookup; after = h.after; derives = derived text options lookup; reads = h.reads; asked = h.asked };
  }

  -- at the start of a parser a call may be made
  pub can-begin : (limit : ℕ) → ReadsWithin replacement limit text options lookup parser → IsCounted parser → CanGo replacement parser
  can-begin limit r counted = record { goes = inr r.some; counted = counted }

-- a document has few events and leaves
pub begin-few : (text : List ℕ) (options : Options) (lookup : Lookup) → length (segments (document text options lookup)) < length text * 786444 + 1
begin-few text options lookup = let n = segments-bounded text options lookup (document text options lookup) (derived text options lookup) in omega (arith, n)

-- the extents of the leaves do not overlap, so their sum is at most the length of the text
pub begin-extents : (text : List ℕ) (options : Options) (lookup : Lookup) → extents (segments (document text options lookup)) ≤ length text
begin-extents text options lookup = derived-extents text options lookup (document text options lookup) (derived text options lookup)

-- no steps were taken yet
pub begin-counted : (steps : Steps) (text : List ℕ) → total steps ≡ 0 → total steps ≤ 128 * length text
begin-counted steps text none = omega (arith, none)
