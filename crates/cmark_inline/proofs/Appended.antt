-- Slots that represent the item that begins where they were appended.
use Rattle.std.specs.Prelude.{Option, Some, None, is_some, option_map, if◌then◌else◌, slice_get, encode_utf8}
use Rattle.std.proofs.Common.{◌≡◌, ◌⊎◌, inl, inr, ℕ, suc, ◌+◌, ◌-◌, ◌<◌, ◌≤◌, ◌==◌, ◌&&◌, Bool, true, false, List, [], ◌∷◌, ◌++◌, length, drop, get_or, refl, sym, ap, subst, ◌∙◌, arith, length-drop, append_assoc, zero, true≢false}
use Rattle.std.specs.List.{prefix_len}
use Rattle.std.proofs.lemmas.Bool.{eq-eqb}
use Rattle.std.proofs.lemmas.List.{append-nil, get_or-drop, length_push, get_or_push}
use Rattle.std.proofs.lemmas.List.Sums.{prefix_len_passes}
use Rattle.std.proofs.lemmas.Option.{slice_get-get_or}
use Rattle.cmark_grammar.specs.Answers.{Lookup}
use Rattle.cmark_grammar.specs.CodeSpans.{is_backtick, backticks, code_in, code_text}
use Rattle.cmark_grammar.specs.Columns.{is_blank_byte}
use Rattle.cmark_grammar.specs.InlineTokens.{as_in, is_plain, item_at, code_or, entity_or, place_of, break_or, escape_at, escaped_backtick}
use Rattle.cmark_grammar.specs.Items.{SoftBreak, HardBreak, Plain, Own, Code, Written, Item, Stands}
use Rattle.cmark_grammar.specs.LabelsOverLines.{piped}
use Rattle.cmark_grammar.specs.Letters.{first_is, starts, after_if, and_then}
use Rattle.cmark_grammar.specs.LineBreaks.{ends_with_two_spaces, hard_break, backslash_break_in, line_break_in}
use Rattle.cmark_grammar.specs.Lines.{is_content}
use Rattle.cmark_grammar.specs.Options.{Options}
use Rattle.cmark_grammar.specs.Tokens.{slice, Entity, entity_in, is_punctuation}
use Rattle.cmark_values.specs.Shown.{text_bytes}
use Rattle.cmark_values.specs.declared.text.CowStr.{CowStr}
use Rattle.cmark_span_scan.specs.Shown.{shown_code, ClosesFirst, IsCodeAt}
use Rattle.cmark_span_scan.specs.declared.code.CodeSpan.{CodeSpan}
use Rattle.cmark_link_scan.specs.Shown.{shown_break, IsBreakAt}
use Rattle.cmark_link_scan.specs.declared.breaks.LineBreak as find
use Rattle.cmark_inline.specs.Tokens.{whole, reading, begins_at, read_on, Says, IsItem, Puts, BeginsThere, Appends, Escapes, EscapesPipe, TakesEscaped}
use Rattle.cmark_slots.specs.Slots.{before_backticks, byte_slots, PushesText}
use Rattle.cmark_slots.specs.declared.slot.Slot.{Slot}
use Rattle.cmark_slots.specs.declared.slot.SlotKind.{SlotKind}
use Rattle.cmark_slots.specs.declared.slot.SlotKind.TheVariants as kind
use Rattle.cmark_inline.specs.declared.state.InlineState.{InlineState}
use Rattle.cmark_inline.specs.declared.step.Cursor.{Cursor}
use Rattle.cmark_slots.proofs.Backticks.{before-run}
use Rattle.cmark_inline.proofs.TokenSteps.{line-token, found-at-ending, slash-begins, slash-break-following, break-stands, code-begins, entity-begins, front, line-at-slash, slash-escapes, slash-pipe, slash-run, some-ticks}

-- the other parts of a state stay
pub kept : (old new between : InlineState) → new ≡ between → between ≡ record old { slots = new.slots; texts = between.texts } → new ≡ record old { slots = new.slots; texts = new.texts }
kept old new between e f = e ∙ f ∙ ap (λ (s : InlineState). record old { slots = new.slots; texts = s.texts }) (sym e)

pub slots-alone : (old new : InlineState) → new ≡ record old { slots = new.slots } → new ≡ record old { slots = new.slots; texts = new.texts }
slots-alone old new e = kept old new (record old { slots = new.slots }) e refl

-- an item begins at a byte other than `<` and a backtick, which have further conditions
pub at-byte : (text : List ℕ) (here : Cursor) (b : ℕ) → get_or text here.at 0 ≡ b → is_content b ≡ true → (b == 60) ≡ false → (b == 96) ≡ false → BeginsThere text here here.at
at-byte text here b is content less tick =
    inl (refl, ap is_content is ∙ content, (λ e. absurd (true≢false (sym (eq-eqb b 60 (sym is ∙ e)) ∙ less))), λ e one two. absurd (true≢false (sym (eq-eqb b 96 (sym is ∙ e)) ∙ tick)))

-- the content of a code span ends before the backticks at the span's end
pub code-stops : (text : List ℕ) (at : ℕ) (span : CodeSpan) → IsCodeAt text at span → ClosesFirst text at span → before_backticks text span.end ≡ span.content_end
code-stops text at span places first =
    ap (before_backticks text) places.closes
    ∙ before-run text span.content_end (backticks (drop at text)) first.begins (λ i lt.
    ap is_backtick (sym (get_or-drop span.content_end text i 0)) ∙ prefix_len_passes is_backtick (drop span.content_end text) i 0 (subst (λ n. i < n) (sym first.whole) lt))

module _ (o : Options) (l : Lookup) (cell : Bool) (text : List ℕ) (here : Cursor) (old new : InlineState) (next : Cursor) where
  -- only slots were appended
  pub no-texts : new ≡ record old { slots = new.slots } → new.texts.items ≡ old.texts.items ++ []
  no-texts e = ap (λ (s : InlineState). s.texts.items) e ∙ sym (append-nil old.texts.items)

  -- ## Line breaks
  break-item : (texts : List CowStr) (slot : Slot) (hard : Bool) (text_end at end : ℕ)
      → slot ≡ record { kind = if hard then kind.HardBreak else kind.SoftBreak; start = if hard then text_end else at; end = end }
      → IsItem cell text texts (record { kind = if hard then HardBreak else SoftBreak; start = if hard then text_end else at; end = end }) slot
  break-item texts slot hard text_end at end e = record {
    start = ap (λ (s : Slot). s.start) e;
    end = ap (λ (s : Slot). s.end) e;
    says = says hard (slot.kind) (ap (λ (s : Slot). s.kind) e);
  }
    where
      says : (z : Bool) (k : SlotKind) → k ≡ (if z then kind.HardBreak else kind.SoftBreak) → Says cell text texts slot.start slot.end (if z then HardBreak else SoftBreak) k
      says true k q = subst (Says cell text texts slot.start slot.end HardBreak) (sym q) tt
      says false k q = subst (Says cell text texts slot.start slot.end SoftBreak) (sym q) tt

  no-content : (b : ℕ) → (b ≡ 10) ⊎ (b ≡ 13) → is_content b ≡ false
  no-content b (inl e) = ap is_content e
  no-content b (inr e) = ap is_content e

  no-text : (hard : Bool) → is_plain (if hard then HardBreak else SoftBreak) ≡ false
  no-text true = refl
  no-text false = refl

  pub break-appends : (text_end : ℕ) (found : find.LineBreak) (slot : Slot) (hard : Bool)
      → here.pending ≤ text_end → text_end ≤ here.at → here.at < length text → (here.pending < text_end → is_blank_byte (get_or text (text_end - 1) 0) ≡ false)
      → ((k : ℕ) → text_end ≤ k → k < here.at → is_blank_byte (get_or text k 0) ≡ true) → (get_or text here.at 0 ≡ 10) ⊎ (get_or text here.at 0 ≡ 13)
      → option_map (shown_break text here.at) (Some found) ≡ line_break_in (drop here.at text) → IsBreakAt text here.at found
      → hard ≡ ends_with_two_spaces (slice text text_end here.at)
      → slot ≡ record { kind = if hard then kind.HardBreak else kind.SoftBreak; start = if hard then text_end else here.at; end = found.end }
      → next.at ≡ read_on text slot.end → next.pending ≡ next.at → Puts here.pending text_end slot old.slots.items new.slots.items → new ≡ record old { slots = new.slots }
      → Appends o l cell text here old new next
  break-appends text_end found slot hard following before lt first blanks ends value places is-hard is at pending slots others =
      let two : Bool = ends_with_two_spaces (slice text text_end here.at) in
      let slot-is = ap (λ z. record { kind = if z then kind.HardBreak else kind.SoftBreak; start = if z then text_end else here.at; end = found.end }) is-hard in
      let a = places.following in let b = places.ordered in let w = places.ends.0 in
      record {
        from = text_end;
        item = record { kind = if two then HardBreak else SoftBreak; start = if two then text_end else here.at; end = found.end };
        slot = slot;
        following = following;
        before = before;
        blanks = blanks;
        there = inr (no-content (get_or text here.at 0) ends, first);
        own = no-text two;
        token =
            line-token o l cell text text_end here.at found.end before lt (let q : here.at ≤ found.end = omega (arith, a, b) in q) w blanks ends (found-at-ending text here.at lt found ends value)
            ∙ ap (Stands (record { kind = if two then HardBreak else SoftBreak; start = if two then text_end else here.at; end = found.end })) (sym (at ∙ ap (λ (s : Slot). read_on text s.end) is));
        pending = pending;
        slots = slots;
        owned = [];
        texts = no-texts others;
        is = break-item new.texts.items slot two text_end here.at found.end (is ∙ slot-is);
        others = slots-alone old new others;
      }

  -- a hard break that begins with a backslash
  pub slash-appends : (found : find.LineBreak) (slot : Slot)
      → here.pending ≤ here.at → here.at < length text → get_or text here.at 0 ≡ 92
      → option_map (shown_break text here.at) (Some found) ≡ line_break_in (drop here.at text) → IsBreakAt text here.at found
      → slot ≡ record { kind = kind.HardBreak; start = here.at; end = found.end }
      → next.at ≡ read_on text slot.end → next.pending ≡ next.at → Puts here.pending here.at slot old.slots.items new.slots.items → new ≡ record old { slots = new.slots }
      → Appends o l cell text here old new next
  slash-appends found slot following lt byte value places is at pending slots others =
      let a = places.following in let b = places.ordered in let w = places.ends.0 in
      let item : Item = record { kind = HardBreak; start = here.at; end = found.end } in
      record {
        from = here.at;
        item = item;
        slot = slot;
        following = following;
        before = omega arith;
        blanks = λ k le high. absurd (omega (arith, le, high));
        there = at-byte text here 92 byte refl refl refl;
        own = refl;
        token =
            slash-begins o l cell text here.at lt byte
            ∙ ap (λ x. break_or (reading o l text) (whole cell text) here.at x (escape_at (reading o l text) (whole cell text) here.at (drop (suc here.at) text))) (slash-break-following text here.at lt byte found value)
            ∙ break-stands o l cell text here.at found.end (hard_break (drop found.end text)) (escape_at (reading o l text) (whole cell text) here.at (drop (suc here.at) text)) (let q : here.at ≤ found.end = omega (arith, a, b) in q) w refl
            ∙ ap (λ s. Stands (record { kind = HardBreak; start = s; end = found.end }) (read_on text found.end)) (let q : here.at + 0 ≡ here.at = omega arith in q)
            ∙ ap (Stands item) (sym (at ∙ ap (λ (s : Slot). read_on text s.end) is));
        pending = pending;
        slots = slots;
        owned = [];
        texts = no-texts others;
        is = record {
          start = ap (λ (s : Slot). s.start) is;
          end = ap (λ (s : Slot). s.end) is;
          says = subst (Says cell text new.texts.items slot.start slot.end HardBreak) (sym (ap (λ (s : Slot). s.kind) is)) tt;
        };
        others = slots-alone old new others;
      }

  -- ## Texts of their own
  pub own-appends : (start end : ℕ)
      → here.pending ≤ here.at → BeginsThere text here here.at → begins_at o l cell text here.at ≡ item_at Own start end → next.at ≡ end → next.pending ≡ next.at
      → Puts here.pending here.at (record { kind = kind.Text; start = start; end = end }) old.slots.items new.slots.items → new ≡ record old { slots = new.slots }
      → Appends o l cell text here old new next
  own-appends start end following there token at pending slots others = record {
    from = here.at;
    item = record { kind = Own; start = start; end = end };
    slot = record { kind = kind.Text; start = start; end = end };
    following = following;
    before = omega arith;
    blanks = λ k le high. absurd (omega (arith, le, high));
    there = there;
    own = refl;
    token = token ∙ ap (Stands (record { kind = Own; start = start; end = end })) (sym at);
    pending = pending;
    slots = slots;
    owned = [];
    texts = no-texts others;
    is = record { start = refl; end = refl; says = tt };
    others = slots-alone old new others;
  }

  -- ## Code spans
  code-ends : (span : CodeSpan) → IsCodeAt text here.at span → place_of (reading o l text) (whole cell text) (drop span.end text) ≡ span.end
  code-ends span is = let d = length-drop span.end text in let w = is.ends.0 in let q : length text - length (drop span.end text) ≡ span.end = omega (arith, d, w) in q

  pub code-appends : (span : CodeSpan)
      → here.pending ≤ here.at → here.at < length text → get_or text here.at 0 ≡ 96
      → option_map (shown_code text) (Some span) ≡ code_in (drop here.at text) → IsCodeAt text here.at span → ClosesFirst text here.at span → next.at ≡ span.end → next.pending ≡ next.at
      → Puts here.pending here.at (record { kind = kind.Code span.content_start; start = here.at; end = span.end }) old.slots.items new.slots.items → new ≡ record old { slots = new.slots }
      → Appends o l cell text here old new next
  code-appends span following lt byte value places first at pending slots others =
      let bytes : List ℕ = code_text (as_in cell (slice text span.content_start span.content_end)) in
      record {
        from = here.at;
        item = record { kind = Code bytes; start = here.at; end = span.end };
        slot = record { kind = kind.Code span.content_start; start = here.at; end = span.end };
        following = following;
        before = omega arith;
        blanks = λ k le high. absurd (omega (arith, le, high));
        there = inl (refl, ap is_content byte, (λ e. absurd (let q : 96 ≡ 60 = sym byte ∙ e in omega (arith, q))), λ e one two. ap is_some (sym value));
        own = refl;
        token =
            code-begins o l cell text here.at lt byte
            ∙ ap (code_or (reading o l text) (whole cell text) here.at (backticks (drop here.at text))) (sym value)
            ∙ ap (item_at (Code bytes) here.at) (code-ends span places)
            ∙ ap (Stands (record { kind = Code bytes; start = here.at; end = span.end })) (sym at);
        pending = pending;
        slots = slots;
        owned = [];
        texts = no-texts others;
        is = record { start = refl; end = refl; says = ap (λ n. code_text (as_in cell (slice text span.content_start n))) (code-stops text here.at span places first) };
        others = slots-alone old new others;
      }

  -- a run of backticks that opens no code span
  pub run-token : (end : ℕ) → here.at < length text → get_or text here.at 0 ≡ 96 → None ≡ code_in (drop here.at text) → end ≡ here.at + prefix_len (λ b. b == get_or text here.at 0) (drop here.at text)
      → begins_at o l cell text here.at ≡ item_at Own here.at end
  run-token end lt byte none is =
      code-begins o l cell text here.at lt byte
      ∙ ap (code_or (reading o l text) (whole cell text) here.at (backticks (drop here.at text))) (sym none)
      ∙ ap (item_at Own here.at) (sym (is ∙ ap (λ c. here.at + prefix_len (λ b. b == c) (drop here.at text)) byte))

  -- ## Owned texts
  last-get : {A : Type 0} (xs ys : List A) (x : A) (n : ℕ) → ys ≡ xs ++ (x ∷ []) → n ≡ length xs → slice_get ys n ≡ Some x
  last-get xs ys x n e is =
      let m = length_push xs x in
      ap (λ l. slice_get l n) e ∙ slice_get-get_or (xs ++ (x ∷ [])) n x (let q : n < length (xs ++ (x ∷ [])) = omega (arith, m, is) in q) ∙ ap Some (get_or_push xs x x n (sym is))

  pub owned-appends : (bytes : List ℕ) (end index : ℕ) (text_is : CowStr)
      → here.pending ≤ here.at → BeginsThere text here here.at → begins_at o l cell text here.at ≡ item_at (Written bytes) here.at end → next.at ≡ end → next.pending ≡ next.at
      → Puts here.pending here.at (record { kind = kind.OwnedText index; start = here.at; end = end }) old.slots.items new.slots.items
      → new.texts.items ≡ old.texts.items ++ (text_is ∷ []) → index ≡ length old.texts.items → text_bytes text_is ≡ bytes
      → new ≡ record old { slots = new.slots; texts = new.texts }
      → Appends o l cell text here old new next
  owned-appends bytes end index text_is following there token at pending slots texts place is others = record {
    from = here.at;
    item = record { kind = Written bytes; start = here.at; end = end };
    slot = record { kind = kind.OwnedText index; start = here.at; end = end };
    following = following;
    before = omega arith;
    blanks = λ k le high. absurd (omega (arith, le, high));
    there = there;
    own = refl;
    token = token ∙ ap (Stands (record { kind = Written bytes; start = here.at; end = end })) (sym at);
    pending = pending;
    slots = slots;
    owned = text_is ∷ [];
    texts = texts;
    is = record { start = refl; end = refl; says = (text_is, last-get old.texts.items new.texts.items text_is index texts place, is) };
    others = others;
  }

  -- a character that represents some bytes
  pub character-appends : (bytes : List ℕ) (end character : ℕ)
      → here.pending ≤ here.at → BeginsThere text here here.at → begins_at o l cell text here.at ≡ item_at (Written bytes) here.at end → next.at ≡ end → next.pending ≡ next.at
      → Puts here.pending here.at (record { kind = kind.Character character; start = here.at; end = end }) old.slots.items new.slots.items → new ≡ record old { slots = new.slots } → encode_utf8 character ≡ bytes
      → Appends o l cell text here old new next
  character-appends bytes end character following there token at pending slots others is = record {
    from = here.at;
    item = record { kind = Written bytes; start = here.at; end = end };
    slot = record { kind = kind.Character character; start = here.at; end = end };
    following = following;
    before = omega arith;
    blanks = λ k le high. absurd (omega (arith, le, high));
    there = there;
    own = refl;
    token = token ∙ ap (Stands (record { kind = Written bytes; start = here.at; end = end })) (sym at);
    pending = pending;
    slots = slots;
    owned = [];
    texts = no-texts others;
    is = record { start = refl; end = refl; says = is };
    others = slots-alone old new others;
  }

  -- ## Entities
  pub entity-is : (bytes range : List ℕ) (found : Option Entity) → here.at < length text → get_or text here.at 0 ≡ 38 → bytes ≡ range → range ≡ drop here.at text
      → found ≡ and_then (after_if (λ b. b == 38) bytes) (entity_in l) → entity_in l (drop (suc here.at) text) ≡ found
  entity-is bytes range found lt is same cut e = sym (e ∙ ap (λ bs. and_then (after_if (λ b. b == 38) bs) (entity_in l)) (same ∙ cut ∙ front o l cell text here.at 38 lt is))

  pub entity-token : (entity : Entity) (end : ℕ) → here.at < length text → get_or text here.at 0 ≡ 38 → entity_in l (drop (suc here.at) text) ≡ Some entity → end ≡ here.at + entity.size
      → begins_at o l cell text here.at ≡ item_at (Written entity.bytes) here.at end
  entity-token entity end lt is e ends = entity-begins o l cell text here.at lt is ∙ ap (entity_or (reading o l text) (whole cell text) here.at) e ∙ ap (item_at (Written entity.bytes) here.at) (sym ends)

  pub no-entity : here.at < length text → get_or text here.at 0 ≡ 38 → entity_in l (drop (suc here.at) text) ≡ None → next.at ≡ here.at + 1 → begins_at o l cell text here.at ≡ item_at Plain here.at next.at
  no-entity lt is e at =
      entity-begins o l cell text here.at lt is ∙ ap (entity_or (reading o l text) (whole cell text) here.at) e ∙ ap (item_at Plain here.at) (let q : suc here.at ≡ next.at = omega (arith, at) in q)

-- ## Escapes
module _ (o : Options) (l : Lookup) (cell : Bool) (text : List ℕ) (here : Cursor) (old new : InlineState) (escaped end : ℕ) where
  pub slash-makes : here.at < length text → get_or text here.at 0 ≡ 92 → None ≡ line_break_in (drop here.at text) → true ≡ first_is is_punctuation (drop (here.at + 1) text)
      → escaped ≡ here.at + 1 → end ≡ escaped + 1 → false ≡ (backticks (drop escaped text) == 1) → (cell && starts piped (drop escaped text)) ≡ false
      → PushesText here.pending here.at old.slots.items new.slots.items → new ≡ record old { slots = new.slots }
      → Escapes o l cell text here old new (record { pending = escaped; at = end })
  slash-makes lt is none punctuation e f several no-pipe slots others =
      let no-break : backslash_break_in (drop here.at text) ≡ None = sym (none ∙ line-at-slash text here.at lt is) in
      let two : end ≡ here.at + 2 = omega (arith, e, f) in
      record {
        byte = is;
        escaped = sym punctuation;
        pending = e;
        at = two;
        token = λ t. slash-escapes o l cell text here.at lt is no-break t (ap (λ s. cell && starts piped (drop s text)) (sym e) ∙ no-pipe) (sym punctuation) ∙ ap (λ s. item_at Plain s (here.at + 2)) (sym e) ∙ ap (item_at Plain escaped) (sym two);
        run = λ t. (
          slash-run o l cell text here.at lt is no-break t
              ∙ ap (λ s. escaped_backtick (reading o l text) (whole cell text) s (backticks (drop s text)) (code_in (drop (here.at + 2) text))) (sym e)
              ∙ ap (λ s. escaped_backtick (reading o l text) (whole cell text) escaped (backticks (drop escaped text)) (code_in (drop s text))) (sym two),
          some-ticks (drop escaped text) (ap (λ s. first_is is_backtick (drop s text)) e ∙ t) (sym several),
        );
        slots = slots;
        others = others;
      }

-- in a table's cell, before another backslash and a pipe
module _ (o : Options) (l : Lookup) (cell : Bool) (text : List ℕ) (here : Cursor) (old new : InlineState) (escaped end resume : ℕ) where
  pub pipe-makes : here.at < length text → get_or text here.at 0 ≡ 92 → None ≡ line_break_in (drop here.at text)
      → escaped ≡ here.at + 1 → end ≡ escaped + 1 → resume ≡ end + 1 → cell ≡ true → starts piped (drop escaped text) ≡ true
      → PushesText here.pending here.at old.slots.items new.slots.items → new ≡ record old { slots = new.slots }
      → EscapesPipe o l cell text here old new (record { pending = end; at = resume })
  pipe-makes lt is none e f g in-cell pipe slots others =
      let two : end ≡ here.at + 2 = omega (arith, e, f) in
      let three : resume ≡ here.at + 3 = omega (arith, two, g) in
      record {
        cell = in-cell;
        pipe = ap (λ s. starts piped (drop s text)) (sym e) ∙ pipe;
        pending = two;
        at = three;
        token =
            slash-pipe o l cell text here.at lt is (sym (none ∙ line-at-slash text here.at lt is)) in-cell (ap (λ s. starts piped (drop s text)) (sym e) ∙ pipe)
            ∙ ap (λ s. item_at Plain s (here.at + 3)) (sym two) ∙ ap (item_at Plain end) (sym three);
        slots = slots;
        others = others;
      }

-- ## Runs of backticks that open no code span
module _ (o : Options) (l : Lookup) (cell : Bool) (text : List ℕ) (here : Cursor) (old new : InlineState) (next : Cursor) where
  pub ticks-make : (start end : ℕ) → here.pending ≤ here.at → here.at < length text → get_or text here.at 0 ≡ 96 → None ≡ code_in (drop here.at text)
      → end ≡ here.at + prefix_len (λ b. b == get_or text here.at 0) (drop here.at text)
      → (start ≡ here.at) ⊎ ((start ≡ here.pending) × (here.pending + 1 ≡ here.at) × (get_or text here.pending 0 ≡ 96))
      → (here.pending + 1 ≡ here.at → get_or text here.pending 0 ≡ 96 → start ≡ here.pending)
      → next.at ≡ end → next.pending ≡ next.at → Puts here.pending start (record { kind = kind.Text; start = start; end = end }) old.slots.items new.slots.items → new ≡ record old { slots = new.slots }
      → Appends o l cell text here old new next ⊎ TakesEscaped o l cell text here old new next
  ticks-make start end ordered lt is none ends (inl e) escaped at pending slots others =
      inl (own-appends o l cell text here old new next here.at end ordered
      (inl (refl, ap is_content is, (λ x. absurd (let q : 96 ≡ 60 = sym is ∙ x in omega (arith, q))), λ x one two. absurd (let q = escaped one two in omega (arith, q, e, one))))
      (run-token o l cell text here old new next end lt is none ends) at pending
      (subst (λ (s : ℕ). Puts here.pending s (record { kind = kind.Text; start = s; end = end }) old.slots.items new.slots.items) e slots) others)
  ticks-make start end ordered lt is none ends (inr e) escaped at pending slots others =
      let puts : Puts here.pending here.pending (record { kind = kind.Text; start = here.pending; end = end }) old.slots.items new.slots.items =
      subst (λ (s : ℕ). Puts here.pending s (record { kind = kind.Text; start = s; end = end }) old.slots.items new.slots.items) e.0 slots in
      inr (record {
        escaped = (e.1, e.2);
        token = run-token o l cell text here old new next end lt is none ends ∙ ap (item_at Own here.at) (sym at);
        pending = pending;
        slots =
            puts.slot_is ∙ ap (λ (ss : List Slot). ss ++ (record { kind = kind.Text; start = here.pending; end = end } ∷ [])) (puts.text.1 (omega arith))
            ∙ ap (λ (n : ℕ). old.slots.items ++ (record { kind = kind.Text; start = here.pending; end = n } ∷ [])) (sym at);
        others = others;
      })

-- ## A slot for each byte
bytes-more : (start n : ℕ) → byte_slots start (suc n) ≡ byte_slots start n ++ (record { kind = kind.Text; start = start + n; end = start + n + 1 } ∷ [])
bytes-more start zero = ap (λ s. record { kind = kind.Text; start = s; end = s + 1 } ∷ []) (let q : start ≡ start + 0 = omega arith in q)
bytes-more start (suc n) =
    ap (λ (l : List Slot). record { kind = kind.Text; start = start; end = start + 1 } ∷ l)
    (bytes-more (start + 1) n ∙ ap (λ s. byte_slots (start + 1) n ++ (record { kind = kind.Text; start = s; end = s + 1 } ∷ [])) (let q : start + 1 + n ≡ start + suc n = omega arith in q))

pub push-byte : (init ss ts : List Slot) (start at : ℕ) → start ≤ at → ss ≡ init ++ byte_slots start (at - start) → ts ≡ ss ++ (record { kind = kind.Text; start = at; end = at + 1 } ∷ [])
    → ts ≡ init ++ byte_slots start (at + 1 - start)
push-byte init ss ts start at le before e =
    e ∙ ap (λ (l : List Slot). l ++ (record { kind = kind.Text; start = at; end = at + 1 } ∷ [])) before
    ∙ append_assoc init (byte_slots start (at - start)) (record { kind = kind.Text; start = at; end = at + 1 } ∷ [])
    ∙ ap (λ (l : List Slot). init ++ l)
    (ap (λ s. byte_slots start (at - start) ++ (record { kind = kind.Text; start = s; end = s + 1 } ∷ [])) (let q : at ≡ start + (at - start) = omega (arith, le) in q)
    ∙ sym (bytes-more start (at - start)) ∙ ap (byte_slots start) (let q : suc (at - start) ≡ at + 1 - start = omega (arith, le) in q))

pub no-bytes : (init : List Slot) (start : ℕ) → init ≡ init ++ byte_slots start (start - start)
no-bytes init start = sym (append-nil init) ∙ ap (λ n. init ++ byte_slots start n) (let q : 0 ≡ start - start = omega arith in q)
