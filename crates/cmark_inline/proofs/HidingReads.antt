-- The parts that the grammar's pass has read with a closing bracket that forms something without showing its inside.
use Rattle.std.specs.Prelude.{drop, take, Option, Some, None}
use Rattle.std.proofs.Common.{◌≡◌, ℕ, suc, ◌+◌, ◌-◌, ◌<◌, ◌≤◌, Bool, true, false, if◌then◌else◌, List, [], ◌∷◌, ◌++◌, length, get_or, refl, sym, ap, subst, ◌∙◌, arith, append-nil}
use Rattle.std.proofs.Math.Seq.{drop-cons}
use Rattle.cmark_grammar.specs.BracketDecisions.{decide, name_in, after_pipe}
use Rattle.cmark_grammar.specs.BracketReading.{Comes}
use Rattle.cmark_grammar.specs.BracketStates.{Opener, State, Forms}
use Rattle.cmark_grammar.specs.Event as event
use Rattle.cmark_grammar.specs.InlineTokens.{token}
use Rattle.cmark_grammar.specs.Items as items
use Rattle.cmark_grammar.specs.LeafText.{Leaf}
use Rattle.cmark_grammar.specs.Options.{Options}
use Rattle.cmark_grammar.specs.Lines.{is_content}
use Rattle.cmark_grammar.specs.OpenBrackets.{Taken}
use Rattle.cmark_grammar.specs.Parts.{Parts, Nil, Form, Footnote, Wiki}
use Rattle.cmark_grammar.specs.Questions.{AnyAnswer}
use Rattle.cmark_grammar.specs.Readers.{Reader}
use Rattle.cmark_grammar.specs.Siblings as siblings
use Rattle.cmark_grammar.specs.Siblings.{Inline, footnote_then, item, name_text, quotes_of, wiki_tag}
use Rattle.cmark_inline_model.specs.SiblingsModel.{siblings_of}
use Rattle.cmark_grammar.specs.Tag.{Tag}
use Rattle.cmark_grammar.specs.Tokens.{slice}
use Rattle.cmark_leaf_text.specs.Reads.{place_of, text_of}
use Rattle.cmark_leaf_text.specs.declared.leaf_text.LeafText.{LeafText}
use Rattle.cmark_values.specs.declared.text.CowStr.{CowStr}
use Rattle.cmark_inline_model.specs.LikeSlots.{AreLike, IsLike}
use Rattle.cmark_inline_model.specs.PartLists.{Cut}
use Rattle.cmark_inline_model.specs.RowParts.{runs_in}
use Rattle.cmark_inline_model.specs.RowPasses.{StandsFor}
use Rattle.cmark_inline_model.specs.SlotRows as row
use Rattle.cmark_inline_model.specs.SlotRows.{LaysOut, seen, slots_of}
use Rattle.cmark_inline.specs.BracketViews.{IsPlaced, after_opening}
use Rattle.cmark_inline.specs.Closers.{ReadsOn}
use Rattle.cmark_inline.specs.Decided.{IsCloser}
use Rattle.cmark_slots.specs.Doubled.{nearest}
use Rattle.cmark_inline.specs.Hiding.{WritesReference, WritesWikilink, mark_before, mark_slot, shown_reference}
use Rattle.cmark_inline.specs.Reached.{ReadsPlaces, bracket_place}
use Rattle.cmark_slots.specs.SlotViews.{first_of, item_slot, shown_slot, shown_slots}
use Rattle.cmark_slots.specs.Standing.{AreEnded, IsTakenPair}
use Rattle.cmark_inline.specs.Sound.{IsSound}
use Rattle.cmark_inline.specs.Stands.{Stands}
use Rattle.cmark_inline.specs.Wikilinks.{ShowsFrom, display_place, has_pothole, shown_name, wiki_start, wiki_text}
use Rattle.cmark_slots.specs.declared.bracket.Bracket.{Bracket}
use Rattle.cmark_references.specs.declared.link.Link.{Link}
use Rattle.cmark_slots.specs.declared.slot.SlotKind.TheVariants as kind
use Rattle.cmark_inline.specs.declared.state.InlineState.{InlineState}
use Rattle.cmark_inline.specs.declared.wikilink.Wikilink.{Wikilink}
use Rattle.cmark_inline.proofs.AfterSteps.{IsTried}
use Rattle.cmark_inline.proofs.ClosingReads.{IsFlushed, SameRows, opener-first, read-before}
use Rattle.cmark_inline.proofs.DisplayReads.{display-reads}
use Rattle.cmark_inline.proofs.LinkSteps.{formed-read}
use Rattle.cmark_slots.proofs.Marks.{no-slot}
use Rattle.cmark_slots.proofs.Opening.{is-pair, last-nearest}
use Rattle.cmark_inline.proofs.WikiSlots.{shows-own}

-- ## Slots that are like themselves
like-itself : (source : List ℕ) (slots : List row.Slot) → AreLike source slots slots
like-itself source [] = refl
like-itself source (row.ItemSlot x ∷ slots) = (record { start = refl; end = refl; event = refl; lines = λ q. refl }, like-itself source slots)
like-itself source (row.BeginSlot tag start end ∷ slots) = (refl, like-itself source slots)
like-itself source (row.EndSlot ∷ slots) = (refl, like-itself source slots)
like-itself source (row.NothingSlot ∷ slots) = (refl, like-itself source slots)

one-of : (xs : List ℕ) (a b : ℕ) → b ≡ suc a → a < length xs → slice xs a b ≡ get_or xs a 0 ∷ []
one-of xs a b e lt = ap (λ n. take n (drop a xs)) (let q : b - a ≡ 1 = omega (arith, e) in q) ∙ ap (take 1) (drop-cons xs a 0 lt)

-- ## The slots of a footnote reference

no-runs : (z : Bool) (start : ℕ) (label : List ℕ) (end : ℕ) → runs_in (footnote_then z start label end siblings.Nil) ≡ []
no-runs true start label end = refl
no-runs false start label end = refl

no-quotes : (z : Bool) (start : ℕ) (label : List ℕ) (end : ℕ) → quotes_of (footnote_then z start label end siblings.Nil) ≡ []
no-quotes true start label end = refl
no-quotes false start label end = refl

module _ (leaf : LeafText) (reader : Reader) (read : Leaf) (place : ℕ → ℕ) (places : ReadsPlaces leaf reader read place) where
  -- one byte as a text
  byte-like : (texts : List CowStr) (links : List Link) (k : ℕ) → k < length (text_of leaf) → IsLike reader.source (shown_slot leaf texts links (record { kind = kind.Text; start = k; end = k + 1 })) (row.ItemSlot (item items.Own (place k) (suc (place k))))
  byte-like texts links k within =
      let b = places.bytes k within in
      let last : k + 1 - 1 ≡ k = omega arith in
      record {
        start = b;
        end = ap (λ n. place_of leaf n + 1) last ∙ ap (λ n. n + 1) b ∙ (let q : place k + 1 ≡ suc (place k) = omega arith in q);
        event = ap event.Text (
            one-of (text_of leaf) k (k + 1) (let q : k + 1 ≡ suc k = omega arith in q) within
            ∙ ap (λ x. x ∷ []) (sym (places.places.bytes k within))
            ∙ sym (one-of reader.source (place k) (suc (place k)) refl (places.places.inside k within)));
        lines = λ q. refl;
      }

  -- the `[` after a `!`
  following-mark : (o : Opener) (b : Bracket) → IsPlaced place o b → b.is_image ≡ true → b.inside ≤ length (text_of leaf) → place (b.start + 1) ≡ suc (place b.start)
  following-mark o b p image le =
      let inside : b.inside ≡ b.start + 2 = p.in_text ∙ ap (λ z. after_opening z b.start) image in
      let source : place b.inside ≡ place b.start + 2 = p.in_source ∙ ap (λ z. after_opening z (place b.start)) image in
      let one = places.places.places.order b.start (b.start + 1) (omega arith) (omega (arith, inside, le)) in
      let two = places.places.places.order (b.start + 1) b.inside (omega (arith, inside)) le in
      omega (arith, one, two, source)

  module _ (close : ℕ) (within : close < length (text_of leaf)) (closer : items.Bracket) (ends : closer.end ≡ suc (place close)) (o : Opener) (b : Bracket) (p : IsPlaced place o b) (before : b.inside ≤ close) (label : List ℕ) (hidden : List row.Slot) (nothing : seen hidden ≡ [])
      (inside : Parts) (at : ℕ) where
    abbrev start_of : ℕ
    start_of = place b.start

    abbrev as_reference : (first : ℕ) → row.Slot
    as_reference first = row.ItemSlot (item (items.FootnoteReference label) first closer.end)

    starts : b.start < length (text_of leaf)
    starts = let e = p.in_text in go b.is_image e
      where
        go : (z : Bool) → b.inside ≡ after_opening z b.start → b.start < length (text_of leaf)
        go true e = let w = within in let l = before in omega (arith, e, w, l)
        go false e = let w = within in let l = before in omega (arith, e, w, l)

    ref-like : (k : ℕ) (first : ℕ) → place_of leaf k ≡ first → IsLike reader.source (item_slot (items.FootnoteReference label) (place_of leaf k) (place_of leaf (close + 1 - 1) + 1)) (as_reference first)
    ref-like k first e = record {
      start = e;
      end = ap (λ n. place_of leaf n + 1) (let q : close + 1 - 1 ≡ close = omega arith in q) ∙ ap (λ n. n + 1) (places.bytes close within) ∙ (let q : place close + 1 ≡ suc (place close) = omega arith in q) ∙ sym ends;
      event = refl;
      lines = λ q. refl;
    }

    abbrev StandsAs : Bool → Type 0
    StandsAs z =
        StandsFor reader at (Form (record { is_image = z; start = start_of; end = place b.inside }) inside closer (Footnote label closer.end) Nil)
        ((if z then shown_slot leaf [] [] (mark_slot b) ∷ [] else []) ++ (item_slot (items.FootnoteReference label) (place_of leaf (if z then b.start + 1 else b.start)) (place_of leaf (close + 1 - 1) + 1) ∷ hidden)) [] []

    stands-as : (z : Bool) → b.is_image ≡ z → StandsAs z
    stands-as true e =
        let next : b.start + 1 < length (text_of leaf) = (let i = p.in_text ∙ ap (λ z. after_opening z b.start) e in let l = before in let w = within in omega (arith, i, l, w)) in
        let first : place_of leaf (b.start + 1) ≡ suc start_of = places.bytes (b.start + 1) next ∙ following-mark o b p e (let l = before in let w = within in omega (arith, l, w)) in
        record {
          row = row.ItemSlot (item items.Own start_of (suc start_of)) ∷ (as_reference (suc start_of) ∷ hidden);
          laid = (as_reference (suc start_of) ∷ hidden, refl, (hidden, [], nothing, ap (λ l. as_reference (suc start_of) ∷ l) (sym (append-nil hidden)), (refl, refl, refl)));
          like = (byte-like [] [] b.start starts, (ref-like (b.start + 1) (suc start_of) first, like-itself reader.source hidden));
        }
    stands-as false e = record {
      row = as_reference start_of ∷ hidden;
      laid = (hidden, [], nothing, ap (λ l. as_reference start_of ∷ l) (sym (append-nil hidden)), (refl, refl, refl));
      like = (ref-like b.start start_of (places.bytes b.start starts), like-itself reader.source hidden);
    }

    pub reference-stands : StandsFor reader at (Form (bracket_place place b).bracket inside closer (Footnote label closer.end) Nil) (mark_before leaf b ++ (shown_reference leaf b label (close + 1) ∷ hidden)) [] []
    reference-stands = stands-as b.is_image refl

-- ## The slots of a wikilink that shows one slot of its own

seen-following : (nothing slots : List row.Slot) → seen nothing ≡ [] → seen (nothing ++ slots) ≡ seen slots
seen-following [] slots e = refl
seen-following (row.NothingSlot ∷ nothing) slots e = seen-following nothing slots e
seen-following (row.ItemSlot x ∷ nothing) slots e = absurd (let z = ap length e in omega (arith, z))
seen-following (row.BeginSlot tag start end ∷ nothing) slots e = absurd (let z = ap length e in omega (arith, z))
seen-following (row.EndSlot ∷ nothing) slots e = absurd (let z = ap length e in omega (arith, z))

like-around : (source : List ℕ) (nothing : List row.Slot) (x y : row.Slot) → seen nothing ≡ [] → IsLike source x y → AreLike source ((nothing ++ (x ∷ [])) ++ (row.EndSlot ∷ [])) ((nothing ++ (y ∷ [])) ++ (row.EndSlot ∷ []))
like-around source [] x y e h = (h, (refl, refl))
like-around source (row.NothingSlot ∷ nothing) x y e h = (refl, like-around source nothing x y e h)
like-around source (row.ItemSlot z ∷ nothing) x y e h = absurd (let z = ap length e in omega (arith, z))
like-around source (row.BeginSlot tag start end ∷ nothing) x y e h = absurd (let z = ap length e in omega (arith, z))
like-around source (row.EndSlot ∷ nothing) x y e h = absurd (let z = ap length e in omega (arith, z))

own-laid : (tag : Tag) (start end at : ℕ) (inner : Inline) (x : items.Item) (nothing : List row.Slot) → seen nothing ≡ [] → row.ItemSlot x ∷ [] ≡ slots_of inner
    → LaysOut at (siblings.Around tag start end inner siblings.Nil) (row.BeginSlot tag start end ∷ ((nothing ++ (row.ItemSlot x ∷ [])) ++ (row.EndSlot ∷ []))) [] []
own-laid tag start end at inner x nothing e is = (nothing ++ (row.ItemSlot x ∷ []), [], seen-following nothing (row.ItemSlot x ∷ []) e ∙ is, refl, (refl, refl, refl))

no-display : (leaf : LeafText) (place at : Option ℕ) → place ≡ None → ShowsFrom leaf place at → at ≡ None
no-display leaf None None e h = refl
no-display leaf None (Some at) e h = absurd h
no-display leaf (Some place) at e h = absurd (let z : ⊥ = cc in z)

module _ (leaf : LeafText) (reader : Reader) (read : Leaf) (place : ℕ → ℕ) (places : ReadsPlaces leaf reader read place) (text : List ℕ) (same : text ≡ text_of leaf) (close : ℕ) (closer : items.Bracket) (c : IsCloser text place close closer) (past : close + 1 < length text) (b : Bracket)
    (inner : ℕ) (before : inner + 1 ≤ close) (meets : place inner ≡ place b.inside) (follows : place (inner + 1) ≡ suc (place inner)) (name : List ℕ) (first : ℕ) (starts : first ≡ place b.start) (nothing : List row.Slot) (none : seen nothing ≡ []) (inside : Parts) (at : ℕ) where
  two-within : close + 1 < length (text_of leaf)
  two-within = let l = past in subst (λ (l : List ℕ). close + 1 < length l) same l

  within : close < length (text_of leaf)
  within = let l = two-within in omega (arith, l)

  following-close : place_of leaf (close + 1) + 1 ≡ suc closer.end
  following-close =
      let content : is_content (get_or (text_of leaf) close 0) ≡ true = ap (λ (l : List ℕ). is_content (get_or l close 0)) (sym same) ∙ ap is_content c.byte in
      let e = places.bytes (close + 1) two-within in
      let f = places.places.places.next close within content in
      let g = ap place (let q : close + 1 ≡ suc close = omega arith in q) in
      let h = c.end in
      omega (arith, e, f, g, h)

  at-close : place_of leaf close ≡ closer.start
  at-close = places.bytes close within ∙ sym c.start

  begin-is : (tag : Tag) → row.BeginSlot tag (place b.start) (suc closer.end) ≡ row.BeginSlot tag first (place_of leaf (close + 1) + 1)
  begin-is tag = ap (λ n. row.BeginSlot tag n (suc closer.end)) (sym starts) ∙ ap (λ n. row.BeginSlot tag first n) (sym following-close)

  abbrev doubled : Bracket
  doubled = record b { inside = inner + 1 }

  -- the wikilink shows its name
  pub name-stands : (source_end : ℕ) → source_end ≡ place_of leaf close
      → StandsFor reader at (Form (bracket_place place b).bracket inside closer (Wiki name None (suc closer.end)) Nil)
      (row.BeginSlot (wiki_tag b.is_image name false) first (place_of leaf (close + 1) + 1) ∷ ((nothing ++ shown_slots leaf [] [] (shown_name doubled close source_end None)) ++ (row.EndSlot ∷ []))) [] []
  name-stands source_end e =
      let from : place_of leaf (inner + 1) ≡ suc (place b.inside) = (let w = within in let l = before in places.bytes (inner + 1) (omega (arith, w, l))) ∙ follows ∙ ap suc meets in
      let to : source_end ≡ closer.start = e ∙ at-close in
      let shows = item items.Own (suc (place b.inside)) closer.start in
      record {
        row = row.BeginSlot (wiki_tag b.is_image name false) (place b.start) (suc closer.end) ∷ ((nothing ++ (row.ItemSlot shows ∷ [])) ++ (row.EndSlot ∷ []));
        laid = own-laid (wiki_tag b.is_image name false) (place b.start) (suc closer.end) at (name_text (bracket_place place b).bracket closer) shows nothing none refl;
        like = (
          begin-is (wiki_tag b.is_image name false),
          like-around reader.source nothing (item_slot items.Own (place_of leaf (inner + 1)) source_end) (row.ItemSlot shows) none (record {
            start = from;
            end = to;
            event = ap (λ n. event.Text (slice reader.source n source_end)) from ∙ ap (λ n. event.Text (slice reader.source (suc (place b.inside)) n)) to;
            lines = λ q. refl;
          }),
        );
      }

-- ## The steps

module _ (leaf : LeafText) (reader : Reader) (read : Leaf) (place : ℕ → ℕ) (closer : items.Bracket) (s : State) (bs : List Bracket) (from close : ℕ) (old mine st new : InlineState) (is : IsFlushed from close old mine) (rows : SameRows mine st) where
  -- a footnote reference
  pub footnote-reads : (text : List ℕ) → text ≡ text_of leaf → IsCloser text place close closer → (o : Opener) (b : Bracket) → IsPlaced place o b → b.inside ≤ close → (label : List ℕ) → WritesReference b label (close + 1) st new
      → (nearer : ℕ) → drop nearer bs ≡ b ∷ drop (suc nearer) bs → (next : State) → Comes AnyAnswer s.asked (decide reader read s closer) (record { result = Forms nearer (Footnote label closer.end); after = next })
      → ReadsOn leaf reader read place from close closer s bs (record { result = Forms nearer (Footnote label closer.end); after = next }) old new
  footnote-reads text same c o b p inside label writes nearer there next comes = λ places t before pass flushed state_is pushes others h.
      let within : close < length (text_of leaf) = subst (λ (l : List ℕ). close < length l) same c.within in
      formed-read leaf reader read place before pass bs st new (read-before leaf reader read place closer s bs from close old mine st new is rows before pass flushed pushes others h) b closer nearer (Footnote label closer.end) next there
      (ap (λ (x : State). token reader read x.at) state_is ∙ t)
      (subst (λ (x : State). Comes AnyAnswer x.asked (decide reader read x closer) (record { result = Forms nearer (Footnote label closer.end); after = next })) (sym state_is) comes)
      (mark_before leaf b ++ (shown_reference leaf b label (close + 1) ∷ writes.hidden))
      (λ cut found opener. subst (λ (x : items.Bracket). StandsFor reader b.slot (Form x cut.inside closer (Footnote label closer.end) Nil) (mark_before leaf b ++ (shown_reference leaf b label (close + 1) ∷ writes.hidden)) [] []) (sym opener)
      (reference-stands leaf reader read place places close within closer c.end o b p inside label writes.hidden writes.nothing cut.inside b.slot))
      (λ cut. (no-runs cut.opener.is_image cut.opener.start label closer.end, no-quotes cut.opener.is_image cut.opener.start label closer.end))
      (writes.slots leaf) writes.forgets.runs writes.forgets.quotes

  module _ (text : List ℕ) (same : text ≡ text_of leaf) (c : IsCloser text place close closer) (past : close + 1 < length text) (first : Taken) (i : IsTried place close bs first (nearest st.doubled)) (sound : IsSound st) (stands : Stands text close st)
      (options : Options) (options_are : options ≡ reader.options) (writes : WritesWikilink options leaf text (record i.bracket { inside = i.inner + 1 }) close st new) (name : List ℕ) (name_is : name ≡ name_in (wiki_text leaf (record i.bracket { inside = i.inner + 1 }) close)) where
    abbrev b : Bracket
    b = i.bracket

    abbrev entry : Bracket
    entry = record b { inside = i.inner + 1 }

    abbrev wikilink : Wikilink
    wikilink = writes.wikilink

    pair : IsTakenPair st.slots.items st.delimiters.placed.items st.quotes.placed.items st.brackets.standing.items entry
    pair = is-pair (length st.texts.items) (length st.links.items) st.slots.items st.delimiters.placed.items st.quotes.placed.items st.brackets.standing.items st.doubled.standing.items sound entry (last-nearest st.doubled _ i.is)

    abbrev first_place : ℕ
    first_place = first_of leaf (get_or st.slots.items b.slot no-slot)

    -- the wikilink's slots, around hidden ones and the one that it shows
    abbrev around : List row.Slot → List ℕ → Option ℕ → List row.Slot
    around nothing n shown = row.BeginSlot (wiki_tag b.is_image n (has_pothole shown)) first_place (place_of leaf (close + 1) + 1) ∷ ((nothing ++ shown_slots leaf [] [] (shown_name entry close wikilink.source_end shown)) ++ (row.EndSlot ∷ []))

    own-reads : (display shown : Option ℕ) → wikilink.display ≡ shown → display_place close shown ≡ close
        → ((nothing : List row.Slot) → seen nothing ≡ [] → ReadsPlaces leaf reader read place → first_place ≡ place b.start → (inside : Parts) → StandsFor reader b.slot (Form (bracket_place place b).bracket inside closer (Wiki name display (suc closer.end)) Nil) (around nothing name shown) [] [])
        → ((cut : Cut) → (runs_in (siblings_of reader.options (Form cut.opener cut.inside closer (Wiki name display (suc closer.end)) Nil)) ≡ []) × (quotes_of (siblings_of reader.options (Form cut.opener cut.inside closer (Wiki name display (suc closer.end)) Nil)) ≡ []))
        → (next : State) → Comes AnyAnswer s.asked (decide reader read s closer) (record { result = Forms first.nearer (Wiki name display (suc closer.end)); after = next })
        → ReadsOn leaf reader read place from close closer s bs (record { result = Forms first.nearer (Wiki name display (suc closer.end)); after = next }) old new
    own-reads display shown shown_is ends stand_for hides next comes = λ places t before pass flushed state_is pushes others h.
        let made = Wiki name display (suc closer.end) in
        let own = shows-own options text entry close wikilink st new writes.writes pair.placed.there stands.slots (length st.texts.items) (length st.links.items) st.brackets.standing.items st.doubled.standing.items sound (ap (display_place close) shown_is ∙ ends) in
        let read_so = read-before leaf reader read place closer s bs from close old mine st new is rows before pass flushed pushes others h in
        let starts = opener-first leaf reader read place before pass bs st read_so b first.nearer i.there pair.placed.there no-slot (pair.placed.text no-slot) in
        let named : wikilink.name.now ≡ name = writes.is.name ∙ sym name_is in
        formed-read leaf reader read place before pass bs st new read_so b closer first.nearer made next i.there
        (ap (λ (x : State). token reader read x.at) state_is ∙ t)
        (subst (λ (x : State). Comes AnyAnswer x.asked (decide reader read x closer) (record { result = Forms first.nearer made; after = next })) (sym state_is) comes)
        (around own.nothing name shown)
        (λ cut found opener. subst (λ (x : items.Bracket). StandsFor reader b.slot (Form x cut.inside closer made Nil) (around own.nothing name shown) [] []) (sym opener) (stand_for own.nothing own.none places starts cut.inside))
        hides
        (own.slots leaf no-slot ∙ ap (λ l. take b.slot (shown_slots leaf st.texts.items st.links.items st.slots.items) ++ l) (ap (λ n. around own.nothing n wikilink.display) named ∙ ap (around own.nothing name) shown_is))
        writes.writes.forgets.runs writes.writes.forgets.quotes

    meets : place i.inner ≡ place b.inside
    meets = i.meets ∙ ap (λ (x : items.Bracket). x.end) i.placed.bracket

    -- a wikilink
    pub wikilink-reads : (display : Option ℕ) → display ≡ after_pipe (wiki_start leaf entry) (wiki_text leaf entry close) → (next : State)
        → Comes AnyAnswer s.asked (decide reader read s closer) (record { result = Forms first.nearer (Wiki name display (suc closer.end)); after = next }) → AreEnded leaf old.slots.items
        → ReadsOn leaf reader read place from close closer s bs (record { result = Forms first.nearer (Wiki name display (suc closer.end)); after = next }) old new
    wikilink-reads None display_is next comes ended =
        own-reads None None (no-display leaf (after_pipe (wiki_start leaf entry) (wiki_text leaf entry close)) wikilink.display (sym display_is) writes.is.display) refl
        (λ nothing none places starts inside. name-stands leaf reader read place places text same close closer c past b i.inner i.before meets i.next name first_place starts nothing none inside b.slot wikilink.source_end writes.is.ends)
        (λ cut. (refl, refl)) next comes
    wikilink-reads (Some display) display_is next comes ended = go wikilink.display refl
      where
        go : (shown : Option ℕ) → wikilink.display ≡ shown → ReadsOn leaf reader read place from close closer s bs (record { result = Forms first.nearer (Wiki name (Some display) (suc closer.end)); after = next }) old new
        go None shown_is = absurd (subst (λ o. ShowsFrom leaf o None) (sym display_is) (subst (ShowsFrom leaf (after_pipe (wiki_start leaf entry) (wiki_text leaf entry close))) shown_is writes.is.display))
        go (Some t) shown_is = display-reads leaf reader read place closer s bs from close old mine st new is rows text same c past first i sound stands options options_are writes name name_is display t shown_is display_is next comes ended
