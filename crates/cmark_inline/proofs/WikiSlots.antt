-- The slots of a wikilink.
use Rattle.std.proofs.Common.{◌≡◌, ◌⊎◌, inl, inr, ℕ, suc, ◌+◌, ◌-◌, ◌<◌, ◌≤◌, ◌==◌, Bool, true, false, List, [], ◌∷◌, ◌++◌, length, drop, take, get_or, set, Option, Some, None, refl, sym, ap, subst, ◌∙◌, arith, append_assoc, length-append}
use Rattle.std.specs.Prelude.{if◌then◌else◌, map}
use Rattle.std.proofs.Math.Seq.{drop-append_seam, take-append_seam}
use Rattle.std.proofs.lemmas.Bool.{cases_lt}
use Rattle.std.proofs.lemmas.List.{append-nil, drop_all, get_or_default, length-map, length-take-le, map-append, take-map}
use Rattle.cmark_grammar.specs.Emphasis.{IsEmphasis, Pair}
use Rattle.cmark_inline_model.specs.EmphasisModel.{pairs_of, spans_of}
use Rattle.cmark_grammar.specs.LinkType as link
use Rattle.cmark_grammar.specs.Options.{Options}
use Rattle.cmark_grammar.specs.Siblings.{tag_by, wiki_tag}
use Rattle.cmark_grammar.specs.Spans.{Spans}
use Rattle.cmark_grammar.specs.Tag.{Linked}
use Rattle.cmark_inline_model.proofs.EmphasisSound.{sound}
use Rattle.cmark_leaf_text.specs.Reads.{place_of}
use Rattle.cmark_leaf_text.specs.declared.leaf_text.LeafText.{LeafText}
use Rattle.cmark_inline_model.specs.SlotRows as row
use Rattle.cmark_inline_model.specs.SlotRows.{marked, marks_by, quoted, seen}
use Rattle.cmark_inline.specs.Hiding.{AreLeft, WritesShown}
use Rattle.cmark_slots.specs.MarkedSlots.{SameBefore, begun_as, places_of, siblings_from}
use Rattle.cmark_slots.specs.QuoteSlots.{characters_of}
use Rattle.cmark_references.specs.Links.{shown_link}
use Rattle.cmark_slots.specs.SlotViews.{first_of, link_tag, linked_at, shown_slot, shown_slots}
use Rattle.cmark_slots.specs.Standing.{AreNamed, AreSound, CanSettle}
use Rattle.cmark_slots.specs.Slots.{AreSlots}
use Rattle.cmark_slots.specs.Cuts.{Hides, hidden}
use Rattle.cmark_inline.specs.Wikilinks.{IsNamed, Shows, display_place, has_pothole, shown_name}
use Rattle.cmark_inline.specs.FormedSlots.{Forgets, dressed_after, end_slot, wrapped}
use Rattle.cmark_slots.specs.declared.bracket.Bracket.{Bracket}
use Rattle.cmark_slots.specs.declared.bracket.Brackets.{Brackets}
use Rattle.cmark_emphasis.specs.declared.run.PlacedRun.{PlacedRun}
use Rattle.cmark_references.specs.declared.link.Link.{Link}
use Rattle.cmark_slots.specs.declared.quote.PlacedQuote.{PlacedQuote}
use Rattle.cmark_slots.specs.declared.slot.LinkElement.{LinkElement}
use Rattle.cmark_slots.specs.declared.slot.LinkElement.TheVariants as element
use Rattle.cmark_slots.specs.declared.slot.Slot.{Slot}
use Rattle.cmark_slots.specs.declared.slot.SlotKind.TheVariants as kind
use Rattle.cmark_inline.specs.declared.state.InlineState.{InlineState}
use Rattle.cmark_inline.specs.declared.wikilink.Wikilink.{Wikilink}
use Rattle.cmark_inline.proofs.ElementWrites.{element-dressed, image-shown, link-shown}
use Rattle.cmark_inline.proofs.HiddenSlots.{cut-at-slot, hides-following}
use Rattle.cmark_slots.proofs.Longer.{shown-longer}
use Rattle.cmark_slots.proofs.Marks.{no-slot}
use Rattle.cmark_slots.proofs.Placing.{no-quote, no-run, runs-within}
use Rattle.cmark_slots.proofs.Cutting.{cut-past}

-- ## The tag

named-shown : (wikilink : Wikilink) (parts : Link) → IsNamed wikilink parts → shown_link parts ≡ record { link_type = link.WikiLink (has_pothole wikilink.display); destination = wikilink.name.now; title = []; id = [] }
named-shown wikilink parts h =
    let all : link.LinkType → List ℕ → List ℕ → List ℕ → Linked = λ a b c d. record { link_type = a; destination = b; title = c; id = d } in
    ap (λ x. all x (shown_link parts).destination (shown_link parts).title (shown_link parts).id) h.form
    ∙ ap (λ x. all (link.WikiLink (has_pothole wikilink.display)) x (shown_link parts).title (shown_link parts).id) h.destination
    ∙ ap (λ x. all (link.WikiLink (has_pothole wikilink.display)) wikilink.name.now x (shown_link parts).id) h.title
    ∙ ap (λ x. all (link.WikiLink (has_pothole wikilink.display)) wikilink.name.now [] x) h.id

wiki-shown : (wikilink : Wikilink) (links : List Link) (parts : Link) (index : ℕ) (z : Bool) (made : LinkElement) → IsNamed wikilink parts → index ≡ length links → made ≡ (if z then element.Image else element.Link)
    → link_tag made (linked_at (links ++ (parts ∷ [])) index) ≡ wiki_tag z wikilink.name.now (has_pothole wikilink.display)
wiki-shown wikilink links parts index true made h e is = ap (λ m. link_tag m (linked_at (links ++ (parts ∷ [])) index)) is ∙ image-shown links parts index e ∙ ap (tag_by true) (named-shown wikilink parts h)
wiki-shown wikilink links parts index false made h e is = ap (λ m. link_tag m (linked_at (links ++ (parts ∷ [])) index)) is ∙ link-shown links parts index e ∙ ap (tag_by false) (named-shown wikilink parts h)

-- ## The slots that the calls write

pub writes-shown : (options : Options) (text : List ℕ) (doubled : Bracket) (close : ℕ) (wikilink : Wikilink) (old new : InlineState) (parts : Link) (index : ℕ) (made : LinkElement) (shown : List Slot) (inside : Bracket)
    → (at : ℕ) × Shows text doubled close wikilink old.slots.items shown at × AreLeft at old.delimiters.placed.items old.quotes.placed.items doubled inside
    → doubled.slot < length old.slots.items → length old.slots.items ≤ length shown → SameBefore (doubled.slot + 1) old.slots.items shown → AreSlots text close old.slots.items → AreNamed (length old.texts.items) (length old.links.items) shown
    → CanSettle (doubled.slot + 1) shown (drop inside.runs old.delimiters.placed.items) (drop inside.quotes old.quotes.placed.items) → new.texts.items ≡ old.texts.items → new.links.items ≡ old.links.items ++ (parts ∷ []) → IsNamed wikilink parts
    → index ≡ length old.links.items → made ≡ (if doubled.is_image then element.Image else element.Link) → Forgets doubled old new
    → ((leaf : LeafText) (pairs : List Pair) (spans : Spans) → IsEmphasis (siblings_from 0 (drop inside.runs old.delimiters.placed.items)) pairs spans → shown_slots leaf new.texts.items new.links.items new.slots.items
    ≡ dressed_after options inside pairs old.delimiters.placed.items old.quotes.placed.items (shown_slots leaf new.texts.items new.links.items (set shown doubled.slot (begun_as (kind.BeginLink made index) (close + 2) (get_or shown doubled.slot no-slot)) ++ (end_slot close (close + 2) ∷ []))))
    → WritesShown options text doubled close wikilink old new
writes-shown options text doubled close wikilink old new parts index made shown inside is there longer before stand named can texts links is_named is_index is_made forgets dressed = record {
  forgets = forgets;
  shown = shown;
  at = is.0;
  shows = is.1;
  inside = inside;
  left = is.2;
  slots = λ leaf pairs spans d emphasis.
      let at : ℕ = doubled.slot in
      let end : ℕ = close + 2 in
      let there1 : at < length shown = omega (arith, there, longer) in
      let same : shown_slots leaf old.texts.items new.links.items shown ≡ shown_slots leaf old.texts.items old.links.items shown =
      shown-longer leaf old.texts.items old.texts.items [] old.links.items new.links.items (parts ∷ []) shown (sym (append-nil old.texts.items)) links named in
      let first : get_or shown at no-slot ≡ get_or shown at d = get_or_default shown at no-slot d there1 in
      let kept : get_or shown at d ≡ get_or old.slots.items at d = before at d (omega arith) in
      let e = (stand at d there).before in
      let low : (get_or old.slots.items at d).end ≤ end = omega (arith, e) in
      let tag = wiki_tag doubled.is_image wikilink.name.now (has_pothole wikilink.display) in
      let begin : Slot → ℕ → row.Slot = λ s n. row.BeginSlot tag (first_of leaf s) (place_of leaf n + 1) in
      let around : row.Slot → List row.Slot = λ b. wrapped at b (dressed_after options inside pairs old.delimiters.placed.items old.quotes.placed.items (shown_slots leaf old.texts.items old.links.items shown)) in
      dressed leaf pairs spans emphasis
      ∙ ap (λ l. dressed_after options inside pairs old.delimiters.placed.items old.quotes.placed.items (shown_slots leaf l new.links.items (set shown at (begun_as (kind.BeginLink made index) end (get_or shown at no-slot)) ++ (end_slot close end ∷ [])))) texts
      ∙ element-dressed leaf old.texts.items old.links.items new.links.items at shown there1 made index tag
      (ap (λ l. link_tag made (linked_at l index)) links ∙ wiki-shown wikilink old.links.items parts index doubled.is_image made is_named is_index is_made) close end (begun_as (kind.BeginLink made index) end (get_or shown at no-slot)) d
      (subst (λ (s : Slot). s.end ≤ end) (sym kept) low) same (ap (begun_as (kind.BeginLink made index) end) first) options inside pairs old.delimiters.placed.items old.quotes.placed.items is.2.slot can
      ∙ ap around (ap (λ s. begin s (end - 1)) kept ∙ ap (begin (get_or old.slots.items at d)) (let q : end - 1 ≡ close + 1 = omega arith in q));
}

-- taking the doubled bracket does not change the slots
pub writes-taken : (options : Options) (text : List ℕ) (doubled : Bracket) (close : ℕ) (wikilink : Wikilink) (old new : InlineState) (left : Brackets) → WritesShown options text doubled close wikilink (record old { doubled = left }) new
    → WritesShown options text doubled close wikilink old new
writes-taken options text doubled close wikilink old new left w = record {
  forgets = record { runs = w.forgets.runs; quotes = w.forgets.quotes; examined = w.forgets.examined };
  shown = w.shown;
  at = w.at;
  shows = w.shows;
  inside = w.inside;
  left = w.left;
  slots = w.slots;
}

-- ## If no slot after the bracket stays

module _ (options : Options) (inside : Bracket) (runs : List PlacedRun) (quotes : List PlacedQuote) (slots : List row.Slot) (r : drop inside.runs runs ≡ []) (q : drop inside.quotes quotes ≡ []) where
  none-dressed : (pairs : List Pair) → dressed_after options inside pairs runs quotes slots ≡ slots
  none-dressed pairs =
      ap (λ (l : List PlacedRun). marked options (places_of l) (marks_by (length (places_of l)) pairs) (quoted (map (λ (x : PlacedQuote). x.slot) (drop inside.quotes quotes)) (characters_of (drop inside.quotes quotes)) slots) []) r
      ∙ ap (λ (l : List PlacedQuote). quoted (map (λ (x : PlacedQuote). x.slot) l) (characters_of l) slots) q

module _ (text : List ℕ) (doubled : Bracket) (close : ℕ) (wikilink : Wikilink) (old shown : List Slot) (at : ℕ) (h : Shows text doubled close wikilink old shown at) (there : doubled.slot < length old) (stand : AreSlots text close old) (ends : display_place close wikilink.display ≡ close) where
  abbrev front : List Slot
  front = take doubled.slot old

  abbrev here : Slot
  here = get_or old doubled.slot no-slot

  abbrev rest : List Slot
  rest = drop (suc doubled.slot) old

  pub all-hidden : at ≡ length old
  all-hidden = go (cases_lt at (length old))
    where
      go : (at < length old) ⊎ (length old ≤ at) → at ≡ length old
      go (inl lt) =
          let past = h.first.following no-slot lt in
          let most = (stand at no-slot lt).before in
          absurd (omega (arith, past, most, ends))
      go (inr le) = let w = h.first.within in omega (arith, le, w)

  pub all-shown : shown ≡ front ++ (here ∷ (map hidden rest ++ shown_name doubled close wikilink.source_end wikilink.display))
  all-shown =
      let size = length-take-le doubled.slot old (let t = there in let q : doubled.slot ≤ length old = omega (arith, t) in q) in
      let one : List Slot = here ∷ [] in
      let long = length-append front one in
      let all : (front ++ one) ++ rest ≡ old = append_assoc front one rest ∙ cut-at-slot old doubled.slot there in
      let from : doubled.slot + 1 ≡ length (front ++ one) = omega (arith, size, long) in
      let between : h.between ≡ (front ++ one) ++ map hidden rest =
      hides-following (front ++ one) rest h.between (subst (λ l. Hides (length (front ++ one)) (length l) l h.between) (sym all) (subst (λ n. Hides n (length old) old h.between) from (subst (λ n. Hides (doubled.slot + 1) n old h.between) all-hidden h.hides))) in
      let m = h.hides.size in
      let e = all-hidden in
      let name = shown_name doubled close wikilink.source_end wikilink.display in
      h.slots_are
      ∙ ap (λ l. l ++ name) (sym (cut-past text (display_place close wikilink.display) at h.between (let q : length h.between ≤ at = omega (arith, m, e) in q)))
      ∙ ap (λ l. l ++ name) (between ∙ append_assoc front one (map hidden rest))
      ∙ append_assoc front (here ∷ map hidden rest) name

-- an element around the slots after one
around : (slots front following : List row.Slot) (at : ℕ) (here begin : row.Slot) → slots ≡ front ++ (here ∷ following) → length front ≡ at → wrapped at begin slots ≡ front ++ (begin ∷ (following ++ (row.EndSlot ∷ [])))
around slots front following at here begin e size =
    let one : List row.Slot = here ∷ [] in
    let long = length-append front one in
    ap (wrapped at begin) e
    ∙ ap (λ l. l ++ (begin ∷ (drop (suc at) (front ++ (here ∷ following)) ++ (row.EndSlot ∷ [])))) (ap (λ n. take n (front ++ (here ∷ following))) (sym size) ∙ take-append_seam front (here ∷ following))
    ∙ ap (λ l. front ++ (begin ∷ (l ++ (row.EndSlot ∷ [])))) (ap (drop (suc at)) (sym (append_assoc front one following)) ∙ ap (λ n. drop n ((front ++ one) ++ following)) (let q : suc at ≡ length (front ++ one) = omega (arith, size, long) in q) ∙ drop-append_seam (front ++ one) following)

-- a wikilink that shows one slot of its own
pub record ShowsOwn (doubled : Bracket) (close : ℕ) (wikilink : Wikilink) (old new : InlineState) : Type 0 where
  pub nothing : List row.Slot
  pub none : seen nothing ≡ []
  pub slots : (leaf : LeafText) (d : Slot) → shown_slots leaf new.texts.items new.links.items new.slots.items
      ≡ take doubled.slot (shown_slots leaf old.texts.items old.links.items old.slots.items)
      ++ (row.BeginSlot (wiki_tag doubled.is_image wikilink.name.now (has_pothole wikilink.display)) (first_of leaf (get_or old.slots.items doubled.slot d)) (place_of leaf (close + 1) + 1)
      ∷ ((nothing ++ shown_slots leaf [] [] (shown_name doubled close wikilink.source_end wikilink.display)) ++ (row.EndSlot ∷ [])))

pub shows-own : (options : Options) (text : List ℕ) (doubled : Bracket) (close : ℕ) (wikilink : Wikilink) (old new : InlineState) → WritesShown options text doubled close wikilink old new → doubled.slot < length old.slots.items → AreSlots text close old.slots.items
    → (texts links : ℕ) (standing bracket : List Bracket) → AreSound texts links old.slots.items old.delimiters.placed.items old.quotes.placed.items standing bracket → display_place close wikilink.display ≡ close → ShowsOwn doubled close wikilink old new
shows-own options text doubled close wikilink old new w there stand texts links standing bracket sound_so ends = record {
  nothing = map (λ (s : Slot). row.NothingSlot) rest_of;
  none = none rest_of;
  slots = λ leaf d.
      let shown : List Slot → List row.Slot = shown_slots leaf old.texts.items old.links.items in
      let siblings = siblings_from 0 (drop w.inside.runs runs) in
      let begin = row.BeginSlot (wiki_tag doubled.is_image wikilink.name.now (has_pothole wikilink.display)) (first_of leaf (get_or old.slots.items doubled.slot d)) (place_of leaf (close + 1) + 1) in
      let front : List Slot = take doubled.slot old.slots.items in
      let here : Slot = get_or old.slots.items doubled.slot no-slot in
      let name : List Slot = shown_name doubled close wikilink.source_end wikilink.display in
      let size : length (shown front) ≡ doubled.slot = length-map front (shown_slot leaf old.texts.items old.links.items) ∙ length-take-le doubled.slot old.slots.items (let q : doubled.slot ≤ length old.slots.items = omega (arith, there) in q) in
      let are : shown w.shown ≡ shown front ++ (shown_slot leaf old.texts.items old.links.items here ∷ (map (λ (s : Slot). row.NothingSlot) rest_of ++ shown_slots leaf [] [] name)) =
      ap shown (all-shown text doubled close wikilink old.slots.items w.shown w.at w.shows there stand ends)
      ∙ map-append (shown_slot leaf old.texts.items old.links.items) front (here ∷ (map hidden rest_of ++ name))
      ∙ ap (λ l. shown front ++ (shown_slot leaf old.texts.items old.links.items here ∷ l)) (map-append (shown_slot leaf old.texts.items old.links.items) (map hidden rest_of) name
      ∙ ap (λ l. l ++ shown name) (all-nothing leaf rest_of) ∙ ap (λ l. map (λ (s : Slot). row.NothingSlot) rest_of ++ l) (own leaf wikilink.display)) in
      w.slots leaf (pairs_of siblings) (spans_of siblings) d (sound siblings)
      ∙ ap (wrapped doubled.slot begin) (none-dressed options w.inside runs quotes (shown w.shown) no-runs no-quotes (pairs_of siblings))
      ∙ around (shown w.shown) (shown front) (map (λ (s : Slot). row.NothingSlot) rest_of ++ shown_slots leaf [] [] name) doubled.slot (shown_slot leaf old.texts.items old.links.items here) begin are size
      ∙ ap (λ l. l ++ (begin ∷ ((map (λ (s : Slot). row.NothingSlot) rest_of ++ shown_slots leaf [] [] name) ++ (row.EndSlot ∷ [])))) (sym (take-map (shown_slot leaf old.texts.items old.links.items) doubled.slot old.slots.items));
}
  where
    runs : List PlacedRun
    runs = old.delimiters.placed.items

    quotes : List PlacedQuote
    quotes = old.quotes.placed.items

    rest_of : List Slot
    rest_of = drop (suc doubled.slot) old.slots.items

    none : (slots : List Slot) → seen (map (λ (s : Slot). row.NothingSlot) slots) ≡ []
    none [] = refl
    none (s ∷ slots) = none slots

    all-nothing : (leaf : LeafText) (slots : List Slot) → shown_slots leaf old.texts.items old.links.items (map hidden slots) ≡ map (λ (s : Slot). row.NothingSlot) slots
    all-nothing leaf [] = refl
    all-nothing leaf (s ∷ slots) = ap (λ l. row.NothingSlot ∷ l) (all-nothing leaf slots)

    own : (leaf : LeafText) (display : Option ℕ) → shown_slots leaf old.texts.items old.links.items (shown_name doubled close wikilink.source_end display) ≡ shown_slots leaf [] [] (shown_name doubled close wikilink.source_end display)
    own leaf None = refl
    own leaf (Some place) = go (place == close)
      where
        go : (z : Bool) → shown_slots leaf old.texts.items old.links.items (if z then record { kind = kind.Empty; start = close; end = close + 1 } ∷ [] else []) ≡ shown_slots leaf [] [] (if z then record { kind = kind.Empty; start = close; end = close + 1 } ∷ [] else [])
        go true = refl
        go false = refl

    no-runs : drop w.inside.runs runs ≡ []
    no-runs = drop_all w.inside.runs runs (go (cases_lt w.inside.runs (length runs)))
      where
        go : (w.inside.runs < length runs) ⊎ (length runs ≤ w.inside.runs) → length runs ≤ w.inside.runs
        go (inl lt) =
            let low = w.left.runs_after no-run lt in
            let high = runs-within old.slots.items 0 0 runs sound_so.sizes sound_so.runs_are w.inside.runs no-run lt in
            let some = sound_so.sizes w.inside.runs no-run lt in
            let e = all-hidden text doubled close wikilink old.slots.items w.shown w.at w.shows there stand ends in
            absurd (omega (arith, low, high, some, e))
        go (inr le) = le

    no-quotes : drop w.inside.quotes quotes ≡ []
    no-quotes = drop_all w.inside.quotes quotes (go (cases_lt w.inside.quotes (length quotes)))
      where
        go : (w.inside.quotes < length quotes) ⊎ (length quotes ≤ w.inside.quotes) → length quotes ≤ w.inside.quotes
        go (inl lt) =
            let low = w.left.quotes_after no-quote lt in
            let high = (sound_so.quotes_are w.inside.quotes no-quote lt).0 in
            let e = all-hidden text doubled close wikilink old.slots.items w.shown w.at w.shows there stand ends in
            absurd (omega (arith, low, high, e))
        go (inr le) = le
