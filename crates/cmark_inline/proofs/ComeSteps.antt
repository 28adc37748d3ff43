-- After each special byte except a closing bracket, the leaf is read on as the grammar's pass reads it.
use Rattle.std.specs.Prelude.{Option, codes, is_some, not}
use Rattle.std.proofs.Common.{◌≡◌, ◌⊎◌, inl, inr, ℕ, suc, ◌+◌, ◌-◌, ◌<◌, ◌≤◌, ◌==◌, ◌||◌, Bool, true, false, List, [], ◌∷◌, ◌++◌, length, drop, get_or, Some, None, refl, sym, ap, ◌∙◌, subst, arith, eqb-true, true≢false, length-drop}
use Rattle.std.proofs.lemmas.Bool.{not-true}
use Rattle.std.proofs.lemmas.List.{get_or_append_left, get_or_push, length_push}
use Rattle.cmark_emphasis.specs.Shown.{shown_quote, shown_whole}
use Rattle.cmark_grammar.specs.CodeSpans.{backticks, code_in}
use Rattle.cmark_grammar.specs.Columns.{is_blank_byte}
use Rattle.cmark_grammar.specs.InlineTokens.{bracket, code_or, item_at}
use Rattle.cmark_grammar.specs.Items.{ItemKind, Plain, Own, Code, Autolink, Delimiters, Quoted, Item, Token, Stands, Opens}
use Rattle.cmark_grammar.specs.LeafReading.{Between}
use Rattle.cmark_grammar.specs.LeafText.{Leaf}
use Rattle.cmark_grammar.specs.LinkDefinitions.{Parsed, after_leading_blanks}
use Rattle.cmark_grammar.specs.Lines.{is_content}
use Rattle.cmark_grammar.specs.Options.{Options}
use Rattle.cmark_grammar.specs.Readers.{Reader}
use Rattle.cmark_inline_model.specs.SpecialBytes.{is_special}
use Rattle.cmark_grammar.specs.Tags.{after_ending}
use Rattle.cmark_grammar.specs.Tokens.{slice}
use Rattle.cmark_references.specs.declared.definitions.RefDefs.{RefDefs}
use Rattle.cmark_references.specs.declared.footnotes.FootnoteDefs.{FootnoteDefs}
use Rattle.cmark_leaf_text.specs.Reads.{is_cell_of, source_of, text_of}
use Rattle.cmark_leaf_text.specs.declared.leaf_text.LeafText.{LeafText}
use Rattle.cmark_values.specs.declared.text.CowStr.{CowStr}
use Rattle.cmark_inline_model.specs.PlacedTokens.{may_open_markup}
use Rattle.cmark_inline.specs.Closers as closers
use Rattle.cmark_inline.specs.Decided.{ReadsSame}
use Rattle.cmark_inline.specs.CursorProgress.{HasCome, HasEscaped, HasReached, IsPending, IsUnderWay}
use Rattle.cmark_inline.specs.LeastSteps.{PassesAt, Tally, VisitsAt, closers_of, visited_in}
use Rattle.cmark_inline.specs.MarkupInSource.{AppendsMarkup, AppendsUnclosed, ReadsLess}
use Rattle.cmark_inline.specs.PlainStretches.{StandUpTo}
use Rattle.cmark_inline.specs.Reached.{ReadsPlaces}
use Rattle.cmark_slots.specs.SlotViews.{shown_slots}
use Rattle.cmark_slots.specs.Standing.{AreEnded}
use Rattle.cmark_inline.specs.Sound.{IsSound}
use Rattle.cmark_inline.specs.SpecialReads.{OpensBracket, ReadsSpecial}
use Rattle.cmark_inline.specs.Stands.{Flushes, Moves}
use Rattle.cmark_slots.specs.Slots.{IsSlot}
use Rattle.cmark_inline.specs.Tokens.{Appends, AppendsAutolink, AppendsQuote, AppendsRun, BeginsThere, Escapes, EscapesPipe, Passes, PassesOver, TakesEscaped, begins_at, reading, whole}
use Rattle.cmark_inline.specs.declared.callback.BrokenLink.{BrokenLink}
use Rattle.cmark_slots.specs.declared.slot.LinkElement.TheVariants as element
use Rattle.cmark_slots.specs.declared.slot.Slot.{Slot}
use Rattle.cmark_slots.specs.declared.slot.SlotKind.TheVariants as kind
use Rattle.cmark_inline.specs.declared.state.InlineState.{InlineState}
use Rattle.cmark_inline.specs.declared.step.Cursor.{Cursor}
use Rattle.cmark_inline.specs.declared.step.Sought.{Sought}
use Rattle.cmark_inline.proofs.ComeAutolinks.{autolink-reached}
use Rattle.cmark_inline.proofs.ComeBrackets.{opening-reached}
use Rattle.cmark_inline.proofs.ComeClosers.{closing-reached}
use Rattle.cmark_inline.proofs.ComeItems.{appends-reached, no-markup-at, other-token}
use Rattle.cmark_inline.proofs.ComeMarks.{quote-reached, run-reached}
use Rattle.cmark_inline.proofs.ComeMarkup.{markup-reached, unclosed-reached}
use Rattle.cmark_inline.proofs.ComeTexts.{IsFree, escaped-begun, escaped-next, escaped-own, escapes-pending, escapes-stop, held-pending, passes-over-pending, passes-pending, pipe-pending, pipe-stop, tick-there}
use Rattle.cmark_inline.proofs.ItemSlots.{slot-like}
use Rattle.cmark_inline.proofs.LeastCounted.{counted-more}
use Rattle.cmark_inline.proofs.PendingReads.{flushed-reached, item-within}
use Rattle.cmark_inline.proofs.PlainBytes.{breaks, content-there, ending-there, plain-tick}
use Rattle.cmark_inline.proofs.PlainChains.{IsHeld, Reaches, before-or-following, begun-order, held-further}
use Rattle.cmark_inline.proofs.PlainUpTo.{reaches-to}
use Rattle.cmark_inline.proofs.ReachedItems.{item-reached}
use Rattle.cmark_inline.proofs.SpecialSteps.{Kinds, sign-passes, special-kinds}
use Rattle.cmark_inline.proofs.StopSteps.{closing-under-way, reached-under-way}
use Rattle.cmark_inline.proofs.TokenSteps.{code-begins}
use Rattle.cmark_inline.proofs.VisitedTokens.{blank-visited, there-visited}

or-true : (z : Bool) → (z || true) ≡ true
or-true true = refl
or-true false = refl

-- a special byte is no blank
pub special-no-blank : (o : Options) (b : ℕ) → is_special o b ≡ true → is_blank_byte b ≡ false
special-no-blank o b e = not-true (is_blank_byte b) (kinds (special-kinds o b e))
  where
    p : ℕ → Bool
    p n = not (is_blank_byte n)

    here : (n : ℕ) → (b == n) ≡ true → not (is_blank_byte n) ≡ true → not (is_blank_byte b) ≡ true
    here n h k = ap (λ m. not (is_blank_byte m)) (eqb-true b n h) ∙ k

    kinds : Kinds o b → not (is_blank_byte b) ≡ true
    kinds (inl h) = sign-passes (λ n. not (is_blank_byte n)) b (codes "\n\r*_&\\[]<!`") (refl, (refl, (refl, (refl, (refl, (refl, (refl, (refl, (refl, (refl, (refl, tt))))))))))) h
    kinds (inr (inl h)) = here 124 h refl
    kinds (inr (inr (inl h))) = here 126 h refl
    kinds (inr (inr (inr (inl h)))) = here 94 h refl
    kinds (inr (inr (inr (inr (inl h))))) = here 61 h refl
    kinds (inr (inr (inr (inr (inr (inl h)))))) = sign-passes (λ n. not (is_blank_byte n)) b (codes "${}") (refl, (refl, (refl, tt))) h.1
    kinds (inr (inr (inr (inr (inr (inr h)))))) = sign-passes (λ n. not (is_blank_byte n)) b (codes ".-\"'") (refl, (refl, (refl, (refl, tt)))) h.1

abbrev tick_kind : ItemKind → Bool
tick_kind (Code bytes) = true
tick_kind Own = true
tick_kind other = false

abbrev ticks : Token → Bool
ticks (Stands x resume) = tick_kind x.kind
ticks _ = false

module _ (leaf : LeafText) (reader : Reader) (read : Leaf) (place : ℕ → ℕ) (r : ReadsPlaces leaf reader read place) (source : reader.source ≡ source_of leaf) where
  abbrev text : List ℕ
  text = text_of leaf

  abbrev cell : Bool
  cell = is_cell_of leaf

  module _ {F : Type 0} (R : F → BrokenLink → Option (CowStr × CowStr) → F → Type 0) (before : Between) (tally : Tally) (initial now : F) (cursor : Cursor) (old : InlineState) (come : HasCome R leaf reader read place before tally initial cursor old now) where
    abbrev m : ℕ
    m = come.from

    abbrev start : ℕ
    start = cursor.pending

    abbrev Held : ℕ → Type 0
    Held to = IsHeld reader.options reader.lookup cell text m start to

    -- if nothing is pending, or a text that has begun, the text continues
    goes-on : (to : ℕ) → Reaches reader.options reader.lookup cell text cursor.at to → (HasEscaped reader.options reader.lookup cell text m start cursor.at → Held cursor.at) → Held to
    goes-on to reach escaped = held-further reader.options reader.lookup cell text m start cursor.at to (by come.pending) reach
      where
        by : IsPending reader.options reader.lookup cell text m cursor → Held cursor.at
        by (inl h) = inl h
        by (inr (inl h)) = inr h.0
        by (inr (inr h)) = escaped h

    is-free : (HasEscaped reader.options reader.lookup cell text m start cursor.at → ⊥) → IsFree reader.options reader.lookup cell text m start
    is-free never = by come.pending
      where
        by : IsPending reader.options reader.lookup cell text m cursor → IsFree reader.options reader.lookup cell text m start
        by (inl h) = inl h.0
        by (inr (inl h)) = inr h.1
        by (inr (inr h)) = absurd (never h)

    pub come-order : start ≤ cursor.at
    come-order = by come.pending
      where
        by : IsPending reader.options reader.lookup cell text m cursor → start ≤ cursor.at
        by (inl h) = let e = h.1 in omega (arith, e)
        by (inr (inl h)) = let lt = begun-order reader.options reader.lookup cell text m start cursor.at h.0 in omega (arith, lt)
        by (inr (inr h)) = let b = h.following in omega (arith, b)

    -- a pending text does not end with a blank, unless the leaf ends there
    no-blank-before : start < cursor.at → cursor.at < length text → is_blank_byte (get_or text (cursor.at - 1) 0) ≡ false
    no-blank-before some lt = by come.pending
      where
        by : IsPending reader.options reader.lookup cell text m cursor → is_blank_byte (get_or text (cursor.at - 1) 0) ≡ false
        by (inl h) = absurd (let e = h.1 in omega (arith, e, some))
        by (inr (inl h)) = h.2 lt
        by (inr (inr h)) = ap (λ n. is_blank_byte (get_or text n 0)) (let b = h.following in let q : cursor.at - 1 ≡ start = omega (arith, b) in q) ∙ ap is_blank_byte h.byte

    module _ (at : ℕ) (order : cursor.at ≤ at) (lt : at < length text) (stands : StandUpTo reader.options reader.lookup cell text cursor.at at) (special : is_special reader.options (get_or text at 0) ≡ true) (new : InlineState) (next : Cursor) (sound : IsSound old)
        (moves : Moves text at new next) where
      abbrev here : Cursor
      here = record { pending = start; at = at }

      none : is_blank_byte (get_or text at 0) ≡ false
      none = special-no-blank reader.options (get_or text at 0) special

      within : next.at ≤ length text
      within = moves.cursor.at.0

      further : at < next.at
      further = moves.further

      reach : is_content (get_or text at 0) ≡ true → Reaches reader.options reader.lookup cell text cursor.at at
      reach content =
          reaches-to reader.options reader.lookup cell text cursor.at at at (omega (arith, lt)) stands order (omega arith) (λ j a b. absurd (omega (arith, a, b))) (λ some blank. ending-there text at lt content none)

      -- after an escaped backtick, the special byte is the next one of its run
      module _ (h : HasEscaped reader.options reader.lookup cell text m start cursor.at) where
        same : at ≡ cursor.at
        same = escaped-next reader.options reader.lookup cell text m start cursor.at h at order (omega (arith, lt)) stands

        tick : get_or text at 0 ≡ 96
        tick = ap (λ n. get_or text n 0) same ∙ (tick-there reader.options reader.lookup cell text m start cursor.at h).1

        tick-token : (t : Token) → begins_at reader.options reader.lookup cell text at ≡ t → ticks t ≡ true
        tick-token t e = sym (ap ticks (sym (code-begins reader.options reader.lookup cell text at lt tick) ∙ e)) ∙ go (backticks (drop at text)) (code_in (drop at text))
          where
            go : (n : ℕ) (found : Option Parsed) → ticks (code_or (reading reader.options reader.lookup text) (whole cell text) at n found) ≡ true
            go n None = refl
            go n (Some found) = refl

        not-plain : (s e : ℕ) → begins_at reader.options reader.lookup cell text at ≡ item_at Plain s e → ⊥
        not-plain s e t = plain-tick reader.options reader.lookup cell text at lt s e t tick

        no-other : (t : Token) → begins_at reader.options reader.lookup cell text at ≡ t → ticks t ≡ false → ⊥
        no-other t e f = true≢false (sym (tick-token t e) ∙ f)

        held-code : is_some (code_in (drop at text)) ≡ true → Held cursor.at
        held-code e = inr (escaped-begun reader.options reader.lookup cell text m start cursor.at h (ap (λ n. is_some (code_in (drop n text))) (sym same) ∙ e))

      -- the text up to the special byte is pending
      held-there : is_content (get_or text at 0) ≡ true → (HasEscaped reader.options reader.lookup cell text m start cursor.at → ⊥) → Held at
      held-there content never = goes-on at (reach content) (λ h. absurd (never h))

      nothing-pending : (found : Sought) → HasReached R leaf reader read place before (record tally { sought = found }) initial next.at new now → next.pending ≡ next.at → HasCome R leaf reader read place before (record tally { sought = found }) initial next new now
      nothing-pending found h e = record { from = next.at; reached = h; pending = inl (sym e, e) }

      from-token : (t : Token) → begins_at reader.options reader.lookup cell text at ≡ t → breaks t ≡ false → is_content (get_or text at 0) ≡ true
      from-token t e f = content-there reader.options reader.lookup cell text at lt t e f

      -- ## Literal bytes
      come-passes : Passes reader.options reader.lookup cell text here old new next → HasCome R leaf reader read place before tally initial next new now
      come-passes p =
          let never = λ (h : HasEscaped reader.options reader.lookup cell text m start cursor.at). not-plain h at next.at p.token in
          let content = from-token (item_at Plain at next.at) p.token refl in
          record {
            from = m;
            reached = subst (λ (s : InlineState). HasReached R leaf reader read place before tally initial m s now) (sym p.same) come.reached;
            pending = passes-pending reader.options reader.lookup cell text m here old new next (held-there content never) (is-free never) further within p none;
          }

      come-over : PassesOver reader.options reader.lookup cell text here old new next → HasCome R leaf reader read place before tally initial next new now
      come-over p =
          let first = p.plain at (omega arith) further in
          let never = λ (h : HasEscaped reader.options reader.lookup cell text m start cursor.at). not-plain h at (at + 1) first in
          let content = from-token (item_at Plain at (at + 1)) first refl in
          record {
            from = m;
            reached = subst (λ (s : InlineState). HasReached R leaf reader read place before tally initial m s now) (sym p.same) come.reached;
            pending = passes-over-pending reader.options reader.lookup cell text m here old new next (held-there content never) (is-free never) further within p;
          }

      -- ## Backslashes
      come-escapes : Escapes reader.options reader.lookup cell text here old new next → HasCome R leaf reader read place before tally initial next new now
      come-escapes x =
          let never = λ (h : HasEscaped reader.options reader.lookup cell text m start cursor.at). (let q : 92 ≡ 96 = sym x.byte ∙ tick h in absurd (omega (arith, q))) in
          record {
            from = at;
            reached = flushed-reached leaf reader read place r R before tally initial now m start at old new come.reached (held-there (ap is_content x.byte) never) (omega (arith, lt)) (escapes-stop reader.options reader.lookup cell text here old new next x) x.slots x.others;
            pending = escapes-pending reader.options reader.lookup cell text here old new next x;
          }

      come-pipe : EscapesPipe reader.options reader.lookup cell text here old new next → HasCome R leaf reader read place before tally initial next new now
      come-pipe x =
          let never = λ (h : HasEscaped reader.options reader.lookup cell text m start cursor.at). not-plain h next.pending next.at x.token in
          let content = from-token (item_at Plain next.pending next.at) x.token refl in
          record {
            from = at;
            reached = flushed-reached leaf reader read place r R before tally initial now m start at old new come.reached (held-there content never) (omega (arith, lt)) (pipe-stop reader.options reader.lookup cell text here old new next x) x.slots x.others;
            pending = pipe-pending reader.options reader.lookup cell text here old new next x;
          }

      -- ## Items
      come-appends : (found : Sought) → VisitsAt text at tally.sought found → PassesAt reader.options.email_autolinks leaf at tally.sought.unclosed found.unclosed → Appends reader.options reader.lookup cell text here old new next → HasCome R leaf reader read place before (record tally { sought = found }) initial next new now
      come-appends found visits passes a =
          nothing-pending found (appends-reached leaf reader read place r R before (record tally { sought = found }) initial now tally.sought here m old new next sound come.reached moves.stands a (by a.there) passes.grows (visited a.there (before-or-following at a.from))) a.pending
        where
          -- its closing run was visited if it is a code span or a formula; a line break is neither
          visited : BeginsThere text here a.from → (at ≤ a.from) ⊎ (a.from < at) → closers_of a.item.kind + visited_in tally.sought ≤ visited_in found
          visited (inl t) order = there-visited reader.options reader.lookup cell text at lt a.item next.at (ap (begins_at reader.options reader.lookup cell text) (sym t.0) ∙ a.token) tally.sought found visits
          visited (inr t) (inl le) =
              let b = a.before in
              let e : a.from ≡ at = omega (arith, b, le) in
              blank-visited reader.options reader.lookup cell text a.from (omega (arith, e, lt)) a.item next.at a.token tally.sought found visits.runs visits.signs
              (ap (λ n. is_blank_byte (get_or text n 0) || not (is_content (get_or text n 0))) e ∙ ap (λ z. is_blank_byte (get_or text at 0) || not z) t.0 ∙ or-true (is_blank_byte (get_or text at 0)))
          visited (inr t) (inr low) =
              blank-visited reader.options reader.lookup cell text a.from (omega (arith, low, lt)) a.item next.at a.token tally.sought found visits.runs visits.signs
              (ap (λ z. z || not (is_content (get_or text a.from 0))) (a.blanks a.from (omega arith) low))

          by : BeginsThere text here a.from → Held a.from
          by (inl t) =
              subst Held (sym t.0) (goes-on at (reach t.1)
              (λ h. held-code h (t.3 (tick h) (let e = same h in let b = h.following in omega (arith, e, b)) h.byte)))
          by (inr t) = goes-on a.from (go (before-or-following cursor.at a.from)) (λ h. absurd (true≢false (sym (ap is_content (tick h)) ∙ t.0)))
            where
              go : (cursor.at ≤ a.from) ⊎ (a.from < cursor.at) → Reaches reader.options reader.lookup cell text cursor.at a.from
              go (inl le) =
                  reaches-to reader.options reader.lookup cell text cursor.at a.from at (omega (arith, lt)) stands le a.before a.blanks
                  (λ some blank. absurd (true≢false (sym blank ∙ t.1 (let s = come-order in omega (arith, s, some)))))
              go (inr low) =
                  absurd (let s = a.following in true≢false (sym (a.blanks (cursor.at - 1) (omega (arith, low)) (omega (arith, low, order))) ∙ no-blank-before (omega (arith, s, low)) (omega (arith, order, lt))))

      come-autolink : AppendsAutolink reader.options reader.lookup cell text here old new next → HasCome R leaf reader read place before tally initial next new now
      come-autolink a =
          let x : Item = record { kind = Autolink (slice text (at + 1) (next.at - 1)); start = at; end = next.at } in
          let never = λ (h : HasEscaped reader.options reader.lookup cell text m start cursor.at). no-other h (Stands x next.at) a.token refl in
          nothing-pending tally.sought (autolink-reached leaf reader read place r R before tally initial now here m old new next sound come.reached (held-there (from-token (Stands x next.at) a.token refl) never) a inside) a.pending
        where
          inside : at + 1 < next.at - 1
          inside =
              let one : List Slot = a.slots.before ++ (record { kind = kind.BeginLink element.Autolink (length old.links.items); start = at; end = next.at } ∷ []) in
              let uri : Slot = record { kind = kind.Text; start = at + 1; end = next.at - 1 } in
              let last : Slot = record { kind = kind.End; start = next.at - 1; end = next.at } in
              let n = length_push one uri in
              let k = length_push (one ++ (uri ∷ [])) last in
              let e = ap length a.slots.slots_are in
              let there : length one < length new.slots.items = omega (arith, n, k, e) in
              let is : get_or new.slots.items (length one) uri ≡ uri =
              ap (λ (l : List Slot). get_or l (length one) uri) a.slots.slots_are ∙ get_or_append_left (one ++ (uri ∷ [])) (last ∷ []) uri (length one) (omega (arith, n)) ∙ get_or_push one uri uri (length one) refl in
              (subst (IsSlot text next.pending) is (moves.stands.slots (length one) uri there)).part.some

      come-markup : (found : Sought) → VisitsAt text at tally.sought found → PassesAt reader.options.email_autolinks leaf at tally.sought.unclosed found.unclosed → AppendsMarkup reader.options leaf here old new next → HasCome R leaf reader read place before (record tally { sought = found }) initial next new now
      come-markup found visits passes a =
          let runs = visits.runs in
          let signs = visits.signs in
          let never = λ (h : HasEscaped reader.options reader.lookup cell text m start cursor.at). (let q : 60 ≡ 96 = sym a.byte ∙ tick h in absurd (omega (arith, q))) in
          nothing-pending found (markup-reached leaf reader read place r source R before tally initial now here m old new next come.reached (held-there (ap is_content a.byte) never) further within found (omega (arith, runs, signs)) passes a) a.pending

      come-unclosed : AppendsUnclosed reader.options leaf here old new next → HasCome R leaf reader read place before tally initial next new now
      come-unclosed a =
          let never = λ (h : HasEscaped reader.options reader.lookup cell text m start cursor.at). (let q : 60 ≡ 96 = sym a.byte ∙ tick h in absurd (omega (arith, q))) in
          nothing-pending tally.sought (unclosed-reached leaf reader read place r source R before tally initial now here m old new next come.reached (held-there (ap is_content a.byte) never) further within a) a.pending

      come-run : AppendsRun reader.options reader.lookup cell text here old new next → HasCome R leaf reader read place before tally initial next new now
      come-run a =
          let never = λ (h : HasEscaped reader.options reader.lookup cell text m start cursor.at). no-other h (item_at (Delimiters (shown_whole a.run)) at next.at) a.token refl in
          nothing-pending tally.sought (run-reached leaf reader read place r R before tally initial now here m old new next come.reached (held-there (from-token (item_at (Delimiters (shown_whole a.run)) at next.at) a.token refl) never) a) a.pending

      come-quote : AppendsQuote reader.options reader.lookup cell text here old new next → HasCome R leaf reader read place before tally initial next new now
      come-quote a =
          let never = λ (h : HasEscaped reader.options reader.lookup cell text m start cursor.at). no-other h (item_at (Quoted (shown_quote a.quote)) at next.at) a.token refl in
          let content = from-token (item_at (Quoted (shown_quote a.quote)) at next.at) a.token refl in
          nothing-pending tally.sought (quote-reached leaf reader read place r R before tally initial now here m old new next come.reached (held-there content never) a content a.size) a.pending

      come-opens : OpensBracket reader.options reader.lookup cell text here old new next → HasCome R leaf reader read place before tally initial next new now
      come-opens a =
          let never = λ (h : HasEscaped reader.options reader.lookup cell text m start cursor.at). no-other h (Opens (bracket a.is_image at next.at)) a.token refl in
          nothing-pending tally.sought (opening-reached leaf reader read place r R before tally initial now here m old new next come.reached (held-there (from-token (Opens (bracket a.is_image at next.at)) a.token refl) never) a within) a.pending

      -- the rest of a run of backticks whose first one is escaped
      come-taken : TakesEscaped reader.options reader.lookup cell text here old new next → HasCome R leaf reader read place before tally initial next new now
      come-taken a = nothing-pending tally.sought (by come.pending) a.pending
        where
          by : IsPending reader.options reader.lookup cell text m cursor → HasReached R leaf reader read place before tally initial next.at new now
          by (inl h) =
              let one = a.escaped.0 in
              let e = h.1 in
              let is : get_or text cursor.at 0 ≡ 96 = ap (λ n. get_or text n 0) (sym e) ∙ a.escaped.1 in
              let s = stands cursor.at (omega arith) (omega (arith, e, one)) (λ blank. absurd (true≢false (sym blank ∙ ap is_blank_byte is))) in
              absurd (plain-tick reader.options reader.lookup cell text cursor.at (omega (arith, order, lt)) cursor.at s.end s.token is)
          by (inr (inl h)) = absurd (h.1 a.escaped.1)
          by (inr (inr h)) =
              let t = escaped-own reader.options reader.lookup cell text m start cursor.at h next.at (ap (begins_at reader.options reader.lookup cell text) (sym (same h)) ∙ a.token ∙ ap (λ n. item_at Own n next.at) (same h)) in
              let x : Item = record { kind = Own; start = start; end = next.at } in
              let w = item-within reader.options reader.lookup cell text m x next.at t.0 in
              let low = w.begins in
              let some = t.1 in
              let slot : Slot = record { kind = kind.Text; start = start; end = next.at } in
              let others = a.others in
              let none : may_open_markup reader.options.email_autolinks (drop m text) ≡ false = no-markup-at reader.options.email_autolinks text m (omega (arith, low, some, within)) (λ is. absurd (let q : 92 ≡ 60 = sym h.slash ∙ is in omega (arith, q))) in
              let texts : new.texts.items ≡ old.texts.items = ap (λ (s : InlineState). s.texts.items) others in
              let links : new.links.items ≡ old.links.items = ap (λ (s : InlineState). s.links.items) others in
              item-reached leaf reader read place before R tally initial now tally.sought m next.at old new come.reached (omega (arith, low, some))
              (record { examined = ap (λ (s : InlineState). s.delimiters.examined) others; brackets = ap (λ (s : InlineState). s.brackets) others; doubled = ap (λ (s : InlineState). s.doubled) others; expansion_left = ap (λ (s : InlineState). s.expansion_left) others; label = ap (λ (s : InlineState). s.label_close) others })
              (ap (λ y. shown_slots leaf y new.links.items old.slots.items) texts ∙ ap (λ y. shown_slots leaf old.texts.items y old.slots.items) links)
              Own (place start) (suc (place (next.at - 1))) slot (other-token leaf reader read place r m x next.at (omega (arith, low, some, within)) t.0 refl none) refl
              (slot-like leaf reader read place r.places r.cell r.bytes new.texts.items new.links.items slot x m next.at t.0 none (record { start = refl; end = refl; says = tt }) some within)
              a.slots (ap (λ (s : InlineState). s.delimiters.placed.items) others) (ap (λ (s : InlineState). s.quotes.placed.items) others) (record { html = omega arith; closers = omega arith })

      -- the counts do not fall
      more : (found : Sought) → VisitsAt text at tally.sought found → PassesAt reader.options.email_autolinks leaf at tally.sought.unclosed found.unclosed → HasCome R leaf reader read place before tally initial next new now → HasCome R leaf reader read place before (record tally { sought = found }) initial next new now
      more found visits passes c =
          let runs = visits.runs in
          let signs = visits.signs in
          let passed = passes.grows in
          let h = c.reached in
          record {
            from = c.from;
            reached = record {
              p = h.p;
              bs = h.bs;
              has_read = h.has_read;
              at_is = h.at_is;
              shows = h.shows;
              answered = h.answered;
              counted = counted-more reader h.p.here tally found new.delimiters.examined passed (omega (arith, runs, signs)) h.counted;
            };
            pending = c.pending;
          }

      less : (found : Sought) → VisitsAt text at tally.sought found → PassesAt reader.options.email_autolinks leaf at tally.sought.unclosed found.unclosed → ReadsLess reader.options reader.lookup leaf here old new next → HasCome R leaf reader read place before (record tally { sought = found }) initial next new now
      less found visits passes (inl p) = more found visits passes (come-passes p)
      less found visits passes (inr (inl p)) = more found visits passes (come-autolink p)
      less found visits passes (inr (inr (inl p))) = come-appends found visits passes p
      less found visits passes (inr (inr (inr (inl p)))) = come-markup found visits passes p
      less found visits passes (inr (inr (inr (inr p)))) = more found visits passes (come-unclosed p)

      pub come-special : (found : Sought) → VisitsAt text at tally.sought found → PassesAt reader.options.email_autolinks leaf at tally.sought.unclosed found.unclosed → ReadsSpecial reader.options reader.lookup leaf here old new next → HasCome R leaf reader read place before (record tally { sought = found }) initial next new now
      come-special found visits passes (inl p) = less found visits passes p
      come-special found visits passes (inr (inl p)) = more found visits passes (come-escapes p)
      come-special found visits passes (inr (inr (inl p))) = more found visits passes (come-taken p)
      come-special found visits passes (inr (inr (inr (inl p)))) = more found visits passes (come-run p)
      come-special found visits passes (inr (inr (inr (inr (inl p))))) = more found visits passes (come-quote p)
      come-special found visits passes (inr (inr (inr (inr (inr (inl p)))))) = more found visits passes (come-opens p)
      come-special found visits passes (inr (inr (inr (inr (inr (inr (inl p))))))) = more found visits passes (come-over p)
      come-special found visits passes (inr (inr (inr (inr (inr (inr (inr p))))))) = more found visits passes (come-pipe p)

      -- ## Closing brackets
      pub come-closing : (later : F) (references : RefDefs) (others : FootnoteDefs) → get_or text at 0 ≡ 93 → ReadsSame reader.options reader.lookup references tally.notes leaf reader read place → Flushes start at old
          → closers.Closes R reader.options reader.lookup references tally.notes others leaf text start at old new next now later → AreEnded leaf old.slots.items → HasCome R leaf reader read place before (record tally { notes = others }) initial next new later
      come-closing later references others byte same_reading flush closes ended =
          let never = λ (h : HasEscaped reader.options reader.lookup cell text m start cursor.at). (let q : 93 ≡ 96 = sym byte ∙ tick h in absurd (omega (arith, q))) in
          let c = closing-reached leaf reader read place r R before tally initial now later here m old new next come.reached (held-there (ap is_content byte) never) lt byte references others same_reading flush closes ended in
          record { from = next.at; reached = c.0; pending = inl (sym c.1, c.1) }

    -- no special byte is left
    pub come-rest : cursor.at < length text → StandUpTo reader.options reader.lookup cell text cursor.at (length text) → HasCome R leaf reader read place before tally initial (record { pending = start; at = length text }) old now
    come-rest lt stands =
        let never = λ (h : HasEscaped reader.options reader.lookup cell text m start cursor.at). (let q = escaped-next reader.options reader.lookup cell text m start cursor.at h (length text) (omega (arith, lt)) (omega arith) stands in absurd (omega (arith, q, lt))) in
        let order = come-order in
        let reach = reaches-to reader.options reader.lookup cell text cursor.at (length text) (length text) (omega arith) stands (omega (arith, lt)) (omega arith) (λ j a b. absurd (omega (arith, a, b))) (λ some blank. ap (λ l. after_ending (after_leading_blanks l)) none-left) in
        record {
          from = m;
          reached = come.reached;
          pending = held-pending reader.options reader.lookup cell text m (record { pending = start; at = length text }) (goes-on (length text) reach (λ h. absurd (never h))) (is-free never) (omega (arith, order, lt)) (omega arith) (λ over. absurd (omega (arith, over)));
        }
      where
        none-left : drop (length text) text ≡ []
        none-left = go (drop (length text) text) (length-drop (length text) text)
          where
            go : (l : List ℕ) → length l ≡ length text - length text → l ≡ []
            go [] e = refl
            go (x ∷ l) e = absurd (omega (arith, e))

    -- ## If memory is refused
    pub stops-there : IsUnderWay R reader read before initial now
    stops-there = reached-under-way leaf reader read place r R before tally initial now m old come.reached

    -- at a closing bracket
    pub stops-closing : (at : ℕ) → cursor.at ≤ at → at < length text → StandUpTo reader.options reader.lookup cell text cursor.at at → get_or text at 0 ≡ 93 → (later : F) (references : RefDefs)
        → ReadsSame reader.options reader.lookup references tally.notes leaf reader read place → closers.AsksOfCloser R reader.options reader.lookup references tally.notes leaf text at old now later → IsUnderWay R reader read before initial later
    stops-closing at order lt stands byte later references same asks =
        closing-under-way leaf reader read place r R before tally initial now references m start at old later same come.reached (goes-on at reach (λ h. absurd (never h))) lt byte asks
      where
        reach : Reaches reader.options reader.lookup cell text cursor.at at
        reach =
            reaches-to reader.options reader.lookup cell text cursor.at at at (omega (arith, lt)) stands order (omega arith) (λ j a b. absurd (omega (arith, a, b)))
            (λ some blank. ending-there text at lt (ap is_content byte) (ap is_blank_byte byte))

        never : HasEscaped reader.options reader.lookup cell text m start cursor.at → ⊥
        never h =
            let same = escaped-next reader.options reader.lookup cell text m start cursor.at h at order (omega (arith, lt)) stands in
            let q : 93 ≡ 96 = sym byte ∙ ap (λ n. get_or text n 0) same ∙ (tick-there reader.options reader.lookup cell text m start cursor.at h).1 in
            omega (arith, q)
