-- Before a leaf is read, no part of it is read. At its end, it is read as the events of its slots.
use Rattle.std.specs.Prelude.{Option, map, option_map}
use Rattle.std.proofs.Common.{◌≡◌, inl, inr, ℕ, ◌+◌, ◌-◌, ◌≤◌, Bool, List, [], ◌∷◌, ◌++◌, length, drop, refl, sym, ap, ◌∙◌, subst, arith, length-drop}
use Rattle.cmark_emphasis.specs.Least.{least_examined}
use Rattle.cmark_grammar.specs.BracketDecisions.{decide}
use Rattle.cmark_grammar.specs.Emphasis as emphasis
use Rattle.cmark_inline_model.specs.EmphasisModel.{pairs_of, spans_of}
use Rattle.cmark_inline_model.proofs.EmphasisSound.{sound}
use Rattle.cmark_grammar.specs.InlineTokens.{begins, longest, token}
use Rattle.cmark_grammar.specs.Items.{Ends}
use Rattle.cmark_grammar.specs.LeafReading.{Between, ReadsLeaf, entering}
use Rattle.cmark_grammar.specs.LeafText.{Leaf}
use Rattle.cmark_grammar.specs.Parts.{Nil}
use Rattle.cmark_grammar.specs.Questions.{AnyAnswer, IsNext}
use Rattle.cmark_grammar.specs.Readers.{Reader}
use Rattle.cmark_inline_model.specs.SiblingsModel.{siblings_of}
use Rattle.cmark_references.specs.declared.footnotes.FootnoteDefs.{FootnoteDefs}
use Rattle.cmark_leaf_text.specs.Reads.{is_cell_of, source_of, text_of}
use Rattle.cmark_leaf_text.specs.declared.leaf_text.LeafText.{LeafText}
use Rattle.cmark_values.specs.declared.text.CowStr.{CowStr}
use Rattle.cmark_inline_model.specs.BracketPass.{pass}
use Rattle.cmark_inline_model.specs.PlacedTokens.{may_open_markup, placed, one_stretch, text_reader}
use Rattle.cmark_inline_model.specs.RowParts.{counted}
use Rattle.cmark_inline_model.specs.SlotRows.{marked, marks_by, quoted}
use Rattle.cmark_inline_model.proofs.BracketQuestions.{reads-next}
use Rattle.cmark_inline_model.proofs.DecisionLaws.{decide-recorded}
use Rattle.cmark_inline_model.proofs.RowParts.{runs-counted}
use Rattle.cmark_inline.specs.CursorProgress.{HasBegun, HasCome, HasReached, IsCleared, IsPending}
use Rattle.cmark_inline.specs.Decided.{EndsWithin}
use Rattle.cmark_slots.specs.MarkedSlots.{places_of, siblings_from}
use Rattle.cmark_slots.specs.QuoteSlots.{characters_of}
use Rattle.cmark_inline.specs.LeastSteps.{IsReadAs, TakesSteps, TakesUses, Tally, least_among, visited_in}
use Rattle.cmark_inline.specs.Reached.{ReadsPlaces}
use Rattle.cmark_inline.specs.Resolved.{ResolvesAs}
use Rattle.cmark_slots.specs.SlotViews.{all_events, shown_slots}
use Rattle.cmark_slots.specs.Slots.{PushesText}
use Rattle.cmark_inline.specs.Tokens.{begins_at}
use Rattle.cmark_inline.specs.declared.callback.BrokenLink.{BrokenLink}
use Rattle.cmark_slots.specs.declared.quote.PlacedQuote.{PlacedQuote}
use Rattle.cmark_inline.specs.declared.state.InlineState.{InlineState}
use Rattle.cmark_inline.specs.declared.step.Cursor.{Cursor}
use Rattle.cmark_inline.specs.declared.step.Sought.{Sought}
use Rattle.cmark_inline.proofs.ComeTexts.{tick-there}
use Rattle.cmark_inline.specs.declared.steps.Steps.{Steps}
use Rattle.cmark_inline.proofs.EndSteps.{first-read, leaf-read}
use Rattle.cmark_inline.proofs.LinkSteps.{siblings-counted}
use Rattle.cmark_inline.proofs.PendingReads.{flushed-reached, stops-there, token-placed}
use Rattle.cmark_inline.proofs.PlainChains.{IsHeld}
use Rattle.cmark_inline.proofs.TokenSteps.{from-is}
use Rattle.cmark_inline.proofs.UsesCounted.{rise-none}

module _ (leaf : LeafText) (reader : Reader) (read : Leaf) (place : ℕ → ℕ) (r : ReadsPlaces leaf reader read place) {F : Type 0} (R : F → BrokenLink → Option (CowStr × CowStr) → F → Type 0) (expansion_left : ℕ) (initial : F) where
  abbrev text : List ℕ
  text = text_of leaf

  abbrev cell : Bool
  cell = is_cell_of leaf

  abbrev before : Between
  before = record { expansion_left = expansion_left; asked = [] }

  pub begin-come : (sought : Sought) (begun : FootnoteDefs) (state : InlineState) → IsCleared state → state.expansion_left ≡ expansion_left → HasCome R leaf reader read place before (record { sought = sought; begun = begun; notes = begun }) initial (record { pending = 0; at = 0 }) state initial
  begin-come sought begun state c left = record {
    from = 0;
    reached = record {
      p = pass (entering read before) Nil;
      bs = [];
      has_read = first-read leaf reader read place before state c.slots c.runs c.quotes;
      at_is = r.first;
      shows = record {
        openers = record {
          placed = tt;
          standing_are = record { are = c.brackets.0; few = (let e = c.brackets.1 in omega (arith, e)) };
          inactive = tt;
          doubled_are = λ w. record { are = c.doubled.0; few = (let e = c.doubled.1 in omega (arith, e)) };
          doubled_inactive = λ w. tt;
        };
        fresh = tt;
        remembers = record { expansion_left = sym left; label = ap (option_map place) (sym c.label); within = subst (EndsWithin text) (sym c.label) tt };
      };
      answered = refl;
      counted = record { html = omega arith; openers = omega arith; closers = omega arith; uses = rise-none begun begun (λ folded. refl) };
    };
    pending = inl (refl, refl);
  }

  none-left : drop (length text) text ≡ []
  none-left = go (drop (length text) text) (length-drop (length text) text)
    where
      go : (l : List ℕ) → length l ≡ length text - length text → l ≡ []
      go [] e = refl
      go (x ∷ l) e = absurd (omega (arith, e))

  end-begins : begins_at reader.options reader.lookup cell text (length text) ≡ Ends
  end-begins = ap (begins (text_reader reader.options reader.lookup text) (one_stretch cell text) (length text)) (from-is reader.options reader.lookup cell text (length text) ∙ none-left)

  end-token : token reader read (place (length text)) ≡ Ends
  unfolding token
  end-token =
      token-placed leaf reader read place r (length text) (omega arith) (ap (may_open_markup reader.options.email_autolinks) none-left)
      ∙ ap (λ y. placed place (longest (text_reader reader.options reader.lookup text) (one_stretch cell text) y)) end-begins

  module _ (tally : Tally) (now : F) (cursor : Cursor) (old mid : InlineState) (come : HasCome R leaf reader read place before tally initial cursor old now) (at : cursor.at ≡ length text) (pushes : PushesText cursor.pending (length text) old.slots.items mid.slots.items) (others : mid ≡ record old { slots = mid.slots }) where
    end-held : IsPending reader.options reader.lookup cell text come.from cursor → IsHeld reader.options reader.lookup cell text come.from cursor.pending (length text)
    end-held (inl h) = inl (h.0, h.1 ∙ at)
    end-held (inr (inl h)) = inr (subst (λ n. HasBegun reader.options reader.lookup cell text come.from cursor.pending n) at h.0)
    end-held (inr (inr h)) = absurd (let lt = (tick-there reader.options reader.lookup cell text come.from cursor.pending cursor.at h).0 in omega (arith, lt, at))

    reached : HasReached R leaf reader read place before tally initial (length text) mid now
    reached =
        flushed-reached leaf reader read place r R before tally initial now come.from cursor.pending (length text) old mid come.reached (end-held come.pending) (omega arith)
        (stops-there reader.options reader.lookup cell text (length text) Ends end-begins tt) pushes others

    -- the parts that were read are the whole leaf
    end-read-as : IsReadAs R reader read expansion_left reached.p.here initial now
    end-read-as =
        let h = reached in
        record {
          asked = h.p.state.asked;
          answered = h.answered;
          last = h.p.state;
          reads = λ rest. record {
            reads = reads-next (token reader read) (decide reader read) AnyAnswer (decide-recorded reader read) (h.p.state.asked ++ rest) rest (entering read before) h.p.here h.p.state refl h.has_read.reads;
            ends = ap (token reader read) h.at_is ∙ end-token;
          };
        }

    -- the counters have grown by the steps that were taken, including those for the runs of the outermost list
    pub end-takes : (were are : Steps) (examined : ℕ) → were.html + tally.sought.unclosed.passed ≤ are.html → mid.delimiters.examined + least_examined (emphasis.runs_of (siblings_from 0 mid.delimiters.placed.items)) ≤ examined → were.openers + examined ≤ are.openers → were.closers + visited_in tally.sought ≤ are.closers
        → TakesSteps R reader read expansion_left were are initial now
    end-takes were are examined html more openers closers =
        let h = reached in
        let among : least_among (siblings_of reader.options h.p.here) ≡ least_examined (emphasis.runs_of (siblings_from 0 mid.delimiters.placed.items)) =
        ap (λ l. least_examined (emphasis.runs_of l)) (runs-counted (siblings_of reader.options h.p.here) 0 ∙ ap (counted 0) h.has_read.is_row.runs_are ∙ siblings-counted 0 mid.delimiters.placed.items) in
        let passed = h.counted.html in
        let within = h.counted.openers in
        let visited = h.counted.closers in
        record {
          parts = h.p.here;
          read_as = end-read-as;
          html = omega (arith, passed, html);
          openers = omega (arith, among, within, more, openers);
          closers = omega (arith, visited, closers);
        }

    -- each use is the use of a footnote reference that was formed
    pub end-uses : TakesUses R reader read expansion_left tally.begun tally.notes initial now
    end-uses = record { parts = reached.p.here; read_as = end-read-as; uses = reached.counted.uses }

    -- the quotes are characters, and the pairs have written their marks
    pub end-reads : reader.source ≡ source_of leaf → (new : InlineState)
        → shown_slots leaf new.texts.items new.links.items new.slots.items
        ≡ marked reader.options (places_of mid.delimiters.placed.items) (marks_by (length (places_of mid.delimiters.placed.items)) (pairs_of (siblings_from 0 mid.delimiters.placed.items)))
        (quoted (map (λ (q : PlacedQuote). q.slot) mid.quotes.placed.items) (characters_of mid.quotes.placed.items) (shown_slots leaf mid.texts.items mid.links.items mid.slots.items)) []
        → new.expansion_left ≡ mid.expansion_left → ResolvesAs R reader read expansion_left (all_events leaf new.texts.items new.links.items new.slots.items) new.expansion_left initial now
    end-reads source new slots left =
        let siblings = siblings_from 0 mid.delimiters.placed.items in
        let h = reached in record {
          asked = h.p.state.asked;
          answered = h.answered;
          reads = λ rest.
              (subst (λ n. ReadsLeaf reader (IsNext (h.p.state.asked ++ rest)) read before (all_events leaf new.texts.items new.links.items new.slots.items) (record { expansion_left = n; asked = h.p.state.asked })) (h.shows.remembers.expansion_left ∙ sym left)
              (leaf-read leaf reader read place before h.p h.bs mid new h.has_read source (ap (token reader read) h.at_is ∙ end-token) (pairs_of siblings) (spans_of siblings) (sound siblings) slots (h.p.state.asked ++ rest) rest refl));
        }
