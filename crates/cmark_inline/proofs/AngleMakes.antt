-- Slots for tokens at a `<`.
use Rattle.std.specs.Prelude.{Some, None, option_map, not, if◌then◌else◌}
use Rattle.std.proofs.Common.{◌≡◌, inl, inr, ℕ, suc, ◌+◌, ◌-◌, ◌<◌, ◌≤◌, ◌==◌, Bool, true, false, List, [], ◌∷◌, ◌++◌, length, drop, get_or, refl, sym, ap, subst, ◌∙◌, arith, length-drop}
use Rattle.std.proofs.lemmas.List.{get_or-drop}
use Rattle.cmark_grammar.specs.Answers.{Lookup}
use Rattle.cmark_grammar.specs.Autolinks.{autolink_in}
use Rattle.cmark_grammar.specs.InlineHtml.{takes_lines}
use Rattle.cmark_grammar.specs.InlineTokens.{is_plain, item_at, tag_kind}
use Rattle.cmark_grammar.specs.Items.{ItemKind, Own, Autolink, Html, OwnedHtml, Stands}
use Rattle.cmark_grammar.specs.Letters.{first_is}
use Rattle.cmark_grammar.specs.Lines.{is_content}
use Rattle.cmark_grammar.specs.Options.{Options}
use Rattle.cmark_grammar.specs.Tags.{after_tag, no_prefix}
use Rattle.cmark_grammar.specs.Tokens.{slice}
use Rattle.cmark_leaf_text.specs.Reads.{IsPart, is_cell_of, text_of}
use Rattle.cmark_leaf_text.specs.declared.leaf_text.LeafText.{LeafText}
use Rattle.cmark_scan_bytes.proofs.Endings.{tag-following}
use Rattle.cmark_inline.specs.MarkupInSource.{IsTag, IsFound, FindsNone, ReadsLess}
use Rattle.cmark_inline.specs.Linked.{IsAutolink}
use Rattle.cmark_inline.specs.Tokens.{whole, reading, read_on, opens_markup, shown_autolink, Says, Puts, BeginsThere, PutsAutolink}
use Rattle.cmark_references.specs.declared.link.Link.{Link}
use Rattle.cmark_inline.specs.declared.markup.FoundHtml.{FoundHtml}
use Rattle.cmark_slots.specs.declared.slot.SlotKind.TheVariants as kind
use Rattle.cmark_inline.specs.declared.state.InlineState.{InlineState}
use Rattle.cmark_inline.specs.declared.step.Cursor.{Cursor}
use Rattle.cmark_inline.proofs.AngleSteps.{less-autolink, less-own, less-html, html-says, tag-find}
use Rattle.cmark_inline.proofs.Appended.{own-appends, no-texts, slots-alone}
use Rattle.cmark_inline.proofs.ReadingOn.{read-on-content}

-- a tag ends with its `>`, so no line begins after it
module _ (text : List ℕ) (at end : ℕ) (le : end ≤ length text) (found : after_tag no_prefix (drop at text) ≡ Some (drop end text)) where
  tag-end : (0 < end) × (get_or text (end - 1) 0 ≡ 62)
  tag-end =
      let h = tag-following no_prefix (drop at text) (drop end text) found in
      let p = h.place in
      let inside = h.inside in
      let a = length-drop at text in
      let b = length-drop end text in
      let c = ap length h.rest in
      let d = length-drop (suc p) (drop at text) in
      let is : end ≡ at + suc p = omega (arith, inside, a, b, c, d, le) in (
        (let q : 0 < end = omega (arith, is) in q),
        ap (λ k. get_or text k 0) (let q : end - 1 ≡ at + p = omega (arith, is) in q) ∙ sym (get_or-drop at text p 0) ∙ h.byte,
      )

  pub tag-reads-on : read_on text end ≡ end
  tag-reads-on = read-on-content text end le tag-end.0 (ap (λ b. not (is_content b)) tag-end.1)

module _ (o : Options) (l : Lookup) (leaf : LeafText) (here : Cursor) (old new : InlineState) (next : Cursor) where
  abbrev cell : Bool
  cell = is_cell_of leaf

  abbrev text : List ℕ
  text = text_of leaf

  module _ (following : here.pending ≤ here.at) (lt : here.at < length text) (is : get_or text here.at 0 ≡ 60) (slash : first_is (λ c. c == 92) (drop (here.at + 1) text) ≡ false) where
    autolink-made : (end : ℕ) → option_map (shown_autolink text here.at) (Some end) ≡ autolink_in o.email_autolinks (drop (here.at + 1) text) → IsPart text here.at end → (next.pending ≡ end) × (next.at ≡ end)
        → PutsAutolink (length old.links.items) here.pending here.at end old.slots.items new.slots.items
        → (parts : Link) × IsAutolink text here.at end parts × (new.links.items ≡ old.links.items ++ (parts ∷ []))
        → new ≡ record old { slots = new.slots; links = new.links }
        → ReadsLess o l leaf here old new next
    autolink-made end value part places slots link others = inr (inl (record {
      token = less-autolink o l cell text here.at lt is end slash value part.within ∙ ap (λ e. item_at (Autolink (slice text (here.at + 1) (e - 1))) here.at e) (sym places.1);
      pending = places.0 ∙ sym places.1;
      slots = subst (λ e. PutsAutolink (length old.links.items) here.pending here.at e old.slots.items new.slots.items) (sym places.1) slots;
      parts = link.0;
      link = subst (λ e. IsAutolink text here.at e link.0) (sym places.1) link.1;
      links = link.2;
      others = others;
    }))

    at-less : opens_markup (drop (here.at + 1) text) ≡ false → BeginsThere text here here.at
    at-less e = inl (refl, ap is_content is, (λ same. e), λ same one two. absurd (let q : 60 ≡ 96 = sym is ∙ same in omega (arith, q)))

    no-text : (bytes : List ℕ) → is_plain (tag_kind (reading o l text) (whole cell text) bytes) ≡ false
    no-text bytes = go (takes_lines bytes)
      where
        go : (z : Bool) → is_plain (if z then OwnedHtml bytes else Html) ≡ false
        go true = refl
        go false = refl

    module _ (none : None ≡ autolink_in o.email_autolinks (drop (here.at + 1) text)) (pending : next.pending ≡ next.at) (others : new ≡ record old { slots = new.slots }) where
      tag-made : (found : FoundHtml) → IsTag leaf here.at found → IsPart text here.at found.end → next.at ≡ read_on text found.end
          → Puts here.pending here.at (record { kind = found.kind; start = here.at; end = found.end }) old.slots.items new.slots.items → ReadsLess o l leaf here old new next
      tag-made found tag part at slots =
          let end : ℕ = found.end in
          let some = part.some in
          let bytes : List ℕ = slice text here.at end in
          let its : ItemKind = tag_kind (reading o l text) (whole cell text) bytes in
          let closes : after_tag no_prefix (drop here.at text) ≡ Some (drop end text) = sym (tag-find text here.at lt is tag.opens) ∙ tag.closes in
          let to : next.at ≡ end = at ∙ tag-reads-on text here.at end part.within closes in
          inr (inr (inl (record {
            from = here.at;
            item = record { kind = its; start = here.at; end = end };
            slot = record { kind = found.kind; start = here.at; end = end };
            following = following;
            before = omega arith;
            blanks = λ k le high. absurd (omega (arith, le, high));
            there = at-less tag.opens;
            own = no-text bytes;
            token = less-html o l cell text here.at lt is slash none tag.opens end (sym closes) (let q : here.at ≤ end = omega (arith, some) in q) part.within ∙ ap (Stands (record { kind = its; start = here.at; end = end })) (sym to);
            pending = pending;
            slots = slots;
            owned = [];
            texts = no-texts o l cell text here old new next others;
            is = record { start = refl; end = refl; says = subst (Says cell text new.texts.items here.at end its) (sym tag.kind_is) (html-says o l cell text here.at lt is new.texts.items end) };
            others = slots-alone old new others;
          })))

      html-made : (found : FoundHtml) → IsFound leaf here.at found → IsPart text here.at found.end → next.at ≡ read_on text found.end
          → Puts here.pending here.at (record { kind = found.kind; start = here.at; end = found.end }) old.slots.items new.slots.items → ReadsLess o l leaf here old new next
      html-made found (inl tag) part at slots = tag-made found tag part at slots
      html-made found (inr markup) part at slots = inr (inr (inr (inl (record { byte = is; autolink = sym none; found = found; is = markup; at = at; pending = pending; slots = slots; others = others }))))

      less-stays : FindsNone leaf here.at → (end : ℕ) → end ≡ here.at + 1 → next.at ≡ end
          → Puts here.pending here.at (record { kind = kind.Text; start = here.at; end = end }) old.slots.items new.slots.items → ReadsLess o l leaf here old new next
      less-stays finds end is-next at slots = by (opens_markup (drop (here.at + 1) text)) refl
        where
          by : (z : Bool) → opens_markup (drop (here.at + 1) text) ≡ z → ReadsLess o l leaf here old new next
          by true e = inr (inr (inr (inr (record {
            byte = is;
            autolink = sym none;
            opens = e;
            closes = finds.markup e;
            at = at ∙ is-next;
            pending = pending;
            slots = subst (λ k. Puts here.pending here.at (record { kind = kind.Text; start = here.at; end = k }) old.slots.items new.slots.items) (sym at) slots;
            others = others;
          }))))
          by false e =
              inr (inr (inl (own-appends o l cell text here old new next here.at end following (at-less e)
              (less-own o l cell text here.at lt is slash none e (sym (finds.tag e) ∙ tag-find text here.at lt is e) ∙ ap (item_at Own here.at) (sym is-next)) at pending slots others)))

-- ## In the leaf's text
module _ (o : Options) (l : Lookup) (leaf : LeafText) (here : Cursor) (old new : InlineState) (next : Cursor) where
  abbrev IsLess : (text : List ℕ) → Type 0
  IsLess text = (here.pending ≤ here.at) × (here.at < length text) × (get_or text here.at 0 ≡ 60) × (first_is (λ c. c == 92) (drop (here.at + 1) text) ≡ false)

  abbrev ByAutolink : (text : List ℕ) → Type 0
  ByAutolink text =
      IsLess text → (end : ℕ) → option_map (shown_autolink text here.at) (Some end) ≡ autolink_in o.email_autolinks (drop (here.at + 1) text) → IsPart text here.at end → (next.pending ≡ end) × (next.at ≡ end)
      → PutsAutolink (length old.links.items) here.pending here.at end old.slots.items new.slots.items
      → (parts : Link) × IsAutolink text here.at end parts × (new.links.items ≡ old.links.items ++ (parts ∷ []))
      → new ≡ record old { slots = new.slots; links = new.links }
      → ReadsLess o l leaf here old new next

  pub by-autolink : (text : List ℕ) → text ≡ text_of leaf → ByAutolink text
  by-autolink bytes same = subst ByAutolink (sym same) (λ h. autolink-made o l leaf here old new next h.0 h.1 h.2 h.3)

  abbrev ByHtml : (text : List ℕ) → Type 0
  ByHtml text =
      IsLess text → None ≡ autolink_in o.email_autolinks (drop (here.at + 1) text) → next.pending ≡ next.at → new ≡ record old { slots = new.slots }
      → (found : FoundHtml) → IsFound leaf here.at found → IsPart text here.at found.end → next.at ≡ read_on text found.end
      → Puts here.pending here.at (record { kind = found.kind; start = here.at; end = found.end }) old.slots.items new.slots.items → ReadsLess o l leaf here old new next

  pub by-html : (text : List ℕ) → text ≡ text_of leaf → ByHtml text
  by-html bytes same = subst ByHtml (sym same) (λ h. html-made o l leaf here old new next h.0 h.1 h.2 h.3)

  abbrev ByNone : (text : List ℕ) → Type 0
  ByNone text =
      IsLess text → None ≡ autolink_in o.email_autolinks (drop (here.at + 1) text) → next.pending ≡ next.at → new ≡ record old { slots = new.slots }
      → FindsNone leaf here.at → (end : ℕ) → end ≡ here.at + 1 → next.at ≡ end
      → Puts here.pending here.at (record { kind = kind.Text; start = here.at; end = end }) old.slots.items new.slots.items → ReadsLess o l leaf here old new next

  pub by-none : (text : List ℕ) → text ≡ text_of leaf → ByNone text
  by-none bytes same = subst ByNone (sym same) (λ h. less-stays o l leaf here old new next h.0 h.1 h.2 h.3)
