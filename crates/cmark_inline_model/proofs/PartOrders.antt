-- The siblings and the spans of parts are in order, except for cuts by the pipe of a wikilink.
use Rattle.std.specs.Prelude.{suc, ◌-◌, ◌==◌, max, drop, take, if◌then◌else◌}
use Rattle.std.specs.List.{prefix_len}
use Rattle.std.proofs.Common.{◌≡◌, inl, ℕ, ◌+◌, ◌<◌, ◌≤◌, Bool, true, false, List, [], ◌∷◌, length, Some, None, refl, sym, ap, subst, arith, length-drop, eqb-true, rules}
use Rattle.cmark_grammar.specs.Autolinks.{autolink_in, has_address, is_uri_byte}
use Rattle.cmark_grammar.specs.BracketDecisions.{decide}
use Rattle.cmark_grammar.specs.BracketReading.{Reads}
use Rattle.cmark_grammar.specs.BracketStates.{State}
use Rattle.cmark_grammar.specs.InlineTokens.{from, place_of, token}
use Rattle.cmark_grammar.specs.Items.{ItemKind, Delimiters, Autolink, Item}
use Rattle.cmark_grammar.specs.LeafText.{Leaf, InTurn}
use Rattle.cmark_grammar.specs.Letters.{first_is}
use Rattle.cmark_grammar.specs.LinkDefinitions.{Parsed}
use Rattle.cmark_grammar.specs.Parts.{Parts, Nil as NoParts, Single as SinglePart, Form, Closing, Opening, Linking, Footnote, Wiki}
use Rattle.cmark_grammar.specs.Questions.{Saying}
use Rattle.cmark_grammar.specs.Readers.{Reader}
use Rattle.cmark_grammar.specs.Siblings.{Inline, Nil, Single, Around, tag_by, item, item_then, footnote_then, from_place, display_from}
use Rattle.cmark_inline_model.specs.SiblingsModel.{dress, siblings_of, spans_in}
use Rattle.cmark_inline_model.specs.LeafModel.{HaveLineEnds}
use Rattle.cmark_inline_model.specs.PartRanges.{StandBetween, end_of}
use Rattle.cmark_grammar.specs.Tag.{Linked}
use Rattle.cmark_inline_model.specs.CutRanges.{IsLinkOrImage, IsAfterPipe}
use Rattle.cmark_inline_model.proofs.KindViews.{KindView, AQuote, ARun, AnAutolink, AText, kind-view}
use Rattle.cmark_inline_model.proofs.LeafPlaces.{place-following, next-size}
use Rattle.cmark_inline_model.proofs.ReadingPlaces.{HavePipes}
use Rattle.cmark_inline_model.proofs.SpanRanges.{Fills, begun-up, InlineOrder, SiblingOrder, inline-wide, dress-order}
use Rattle.cmark_inline_model.proofs.TokenItems.{HoldsOfItems, HoldsOf, token-holds, OfItems, items-hold}
use Rattle.cmark_inline_model.proofs.TokenPlaces.{Uncut}
use Rattle.cmark_inline_model.proofs.WikiGaps.{HaveGaps}

-- ## Items fill their bytes

autolink_after : (emails : Bool) (bs : List ℕ) (found : Parsed) → autolink_in emails bs ≡ Some found → length found.following < length bs
autolink_after emails [] found e = grind arith
autolink_after emails (b ∷ bs) found e = scheme (has_address emails (b ∷ bs)) e
  where
    size : ℕ
    size = prefix_len is_uri_byte (b ∷ bs)

    closed : (x : Bool) → (if x then Some (record { bytes = take size (b ∷ bs); following = drop size bs }) else None) ≡ Some found → length found.following < length (b ∷ bs)
    closed true f = let g : drop size bs ≡ found.following = cc in let l = ap length g in let d = length-drop size bs in omega arith
    closed false f = cc

    scheme : (x : Bool) → (if x then (if first_is (λ c. c == 62) (drop size (b ∷ bs)) then Some (record { bytes = take size (b ∷ bs); following = drop size bs }) else None) else None) ≡ Some found
        → length found.following < length (b ∷ bs)
    scheme true f = closed (first_is (λ c. c == 62) (drop size (b ∷ bs))) f
    scheme false f = cc

abbrev pub FillsItem : Item → Type 0
FillsItem x = Fills x.kind x.start x.end

module _ (reader : Reader) (leaf : Leaf) (size : ℕ) (turn : InTurn 0 leaf.stretches size) where
  autolink_fills : (at b : ℕ) (bs : List ℕ) (found : Parsed) → from reader leaf at ≡ b ∷ bs → autolink_in reader.options.email_autolinks bs ≡ Some found → at + 2 ≤ place_of reader leaf found.following
  autolink_fills at b bs found here e =
      let l = ap length here in
      let n = next-size reader.source leaf.stretches size turn at in
      let k = autolink_after reader.options.email_autolinks bs found e in
      let p = place-following reader.source leaf.stretches size turn (length found.following) (suc at) (omega arith) in
      omega arith

  items_fill : HoldsOfItems reader leaf Fills
  items_fill = search (rules, autolink_fills)

  pub parts-fill : (Says : Saying) (s : State) (parts : Parts) (t : State) → Reads (token reader leaf) (decide reader leaf) Says s parts t → OfItems FillsItem parts
  parts-fill Says s parts t h =
      items-hold (token reader leaf) (decide reader leaf) Says FillsItem (λ at resume item e. subst (HoldsOf reader leaf Fills) e (token-holds reader leaf Fills items_fill at)) s parts t h

-- ## Parts

pub part-up : (from : ℕ) (parts : Parts) (to : ℕ) → StandBetween from parts to → from ≤ to
part-up from NoParts to h = h
part-up from (SinglePart x after) to h = let a = h.0 in let b = h.1 in let c = part-up x.end after to h.2 in omega arith
part-up from (Form opener inside closer formed after) to h =
    let a = h.0 in let b = h.1 in let c = part-up opener.end inside closer.start h.2 in let d = h.3 in let e = h.4 in let f = part-up (end_of formed) after to h.5 in omega arith
part-up from (Closing closer after) to h = let a = h.0 in let b = h.1 in let c = part-up closer.end after to h.2 in omega arith
part-up from (Opening opener after) to h = let a = h.0 in let b = h.1 in let c = part-up opener.end after to h.2 in omega arith

-- ## Siblings after a pipe

-- the offset of the pipe is not inside a run
abbrev pub FreeBy : ItemKind → (place start end : ℕ) → Type 0
FreeBy (Delimiters run) place start end = start < place → place ≤ end → ⊥
FreeBy (Autolink uri) place start end = ⊥
FreeBy _ place start end = Unit {0}

abbrev pub IsFree : (place : ℕ) → Inline → Type 0
IsFree place Nil = Unit {0}
IsFree place (Single x after) = FreeBy x.kind place x.start x.end × IsFree place after
IsFree place (Around tag start end inside after) = IsFree place after

fills_later : (kind : ItemKind) (place start end : ℕ) → place < end → FreeBy kind place start end → Fills kind start end → Fills kind (max start place) end
fills_later kind place start end h f k = grind arith

link_tag : (is_image : Bool) (linked : Linked) → IsLinkOrImage (tag_by is_image linked)
link_tag true linked = tt
link_tag false linked = tt

module _ (Pipe : ℕ → Type 0) where
  abbrev Siblings : ℕ → Inline → ℕ → Type 0
  Siblings from siblings to = SiblingOrder Pipe from siblings to

  siblings_lower : (less from : ℕ) (siblings : Inline) (to : ℕ) → less ≤ from → Siblings from siblings to → Siblings less siblings to
  siblings_lower less from Nil to e h = let x : from ≤ to = h in omega arith
  siblings_lower less from (Single x after) to e h = ((let y = h.0 in omega arith), h.1, h.2, h.3)
  siblings_lower less from (Around tag start end inside after) to e h = (h.0, (let y = h.1 in omega arith), h.2, h.3, h.4, h.5, h.6)

  from_order : (place : ℕ) → Pipe place → (from : ℕ) (siblings : Inline) (to : ℕ) → Siblings from siblings to → IsFree place siblings → Siblings from (from_place place siblings) to
  from_order place pipe from Nil to h f = h
  from_order place pipe from (Single x after) to h f = search (rules, siblings_lower, fills_later, from_order place pipe x.end after to h.3 f.1)
  from_order place pipe from (Around tag start end inside after) to h f = grind (arith, siblings_lower, begun-up, from_order place pipe end after to h.5 f)

  display_order : (place end : ℕ) → Pipe place → (from : ℕ) (siblings : Inline) → from ≤ end → Siblings from siblings end → IsFree place siblings → Siblings from (display_from place end siblings) end
  display_order place end pipe from siblings w h f = grind (arith, eqb-true, from_order)

  item_order : (from : ℕ) (x : Item) (after : Inline) (to : ℕ) → from ≤ x.start → x.start ≤ x.end → FillsItem x → Siblings x.end after to → Siblings from (item_then x.kind x after) to
  item_order from x after to a b f k = go x.kind (kind-view x.kind) f
    where
      go : (kind : ItemKind) → KindView kind → Fills kind x.start x.end → Siblings from (item_then kind x after) to
      go _ (AQuote quote) g = (a, b, f, k)
      go _ (ARun run) g = (a, b, f, k)
      go _ (AnAutolink uri) g = (x.start, a, inl refl, b, (omega arith, omega arith, omega arith), k, tt)
      go _ (AText kind t) g = subst (λ l. Siblings from l to) (sym (t.item x after)) (a, b, f, k)

  footnote_order : (is_image : Bool) (from start : ℕ) (label : List ℕ) (end : ℕ) (others : Inline) (to : ℕ) → from ≤ start → start < end → Siblings end others to
      → Siblings from (footnote_then is_image start label end others) to
  footnote_order true from start label end others to a b k = (a, omega arith, tt, (omega arith, omega (arith, b), tt, k))
  footnote_order false from start label end others to a b k = (a, omega (arith, b), tt, k)

module _ (reader : Reader) (leaf : Leaf) (size : ℕ) (turn : InTurn 0 leaf.stretches size) (within : size ≤ length reader.source) (lines : HaveLineEnds reader.source leaf.stretches) where
  abbrev pub UncutItem : Item → Type 0
  UncutItem x = Uncut reader leaf size turn within lines x.kind x.start x.end

  abbrev Pipe : ℕ → Type 0
  Pipe at = IsAfterPipe reader.options reader.source at

  -- no run contains a pipe
  item_free : (place : ℕ) → Pipe place → (x : Item) (after : Inline) → UncutItem x → IsFree place after → IsFree place (item_then x.kind x after)
  item_free place pipe x after u k = grind arith

  footnote_free : (place : ℕ) (is_image : Bool) (start : ℕ) (label : List ℕ) (end : ℕ) (others : Inline) → IsFree place others → IsFree place (footnote_then is_image start label end others)
  footnote_free place true start label end others k = (tt, (tt, k))
  footnote_free place false start label end others k = (tt, k)

  pub parts-free : (place : ℕ) → Pipe place → (parts : Parts) → OfItems UncutItem parts → IsFree place (siblings_of reader.options parts)
  parts-free place pipe NoParts u = tt
  parts-free place pipe (SinglePart x after) u = item_free place pipe x (siblings_of reader.options after) u.0 (parts-free place pipe after u.1)
  parts-free place pipe (Form opener inside closer (Linking target) after) u = parts-free place pipe after u.1
  parts-free place pipe (Form opener inside closer (Footnote label end) after) u = footnote_free place opener.is_image opener.start label end (siblings_of reader.options after) (parts-free place pipe after u.1)
  parts-free place pipe (Form opener inside closer (Wiki name None end) after) u = parts-free place pipe after u.1
  parts-free place pipe (Form opener inside closer (Wiki name (Some display) end) after) u = parts-free place pipe after u.1
  parts-free place pipe (Closing closer after) u = (tt, parts-free place pipe after u)
  parts-free place pipe (Opening opener after) u = (tt, parts-free place pipe after u)

  pub siblings-order : (from : ℕ) (parts : Parts) (to : ℕ) → StandBetween from parts to → OfItems FillsItem parts → OfItems UncutItem parts → HavePipes reader parts → HaveGaps parts
      → SiblingOrder Pipe from (siblings_of reader.options parts) to
  siblings-order from NoParts to h f u g w = h
  siblings-order from (SinglePart x after) to h f u g w = item_order Pipe from x (siblings_of reader.options after) to h.0 h.1 f.0 (siblings-order x.end after to h.2 f.1 u.1 g w)
  siblings-order from (Form opener inside closer (Linking target) after) to h f u g w =
      let a = h.1 in let b = h.3 in let c = h.4 in let d = part-up opener.end inside closer.start h.2 in
      let inner = dress-order Pipe reader.options opener.end (siblings_of reader.options inside) closer.start (siblings-order opener.end inside closer.start h.2 f.0 u.0 g.1 w.1) in (
        opener.start,
        h.0,
        inl refl,
        omega arith,
        inline-wide Pipe opener.start opener.end (dress reader.options (siblings_of reader.options inside)) closer.start target.end a (omega arith) inner,
        siblings-order target.end after to h.5 f.1 u.1 g.2 w.2,
        link_tag opener.is_image target.linked,
      )
  siblings-order from (Form opener inside closer (Footnote label end) after) to h f u g w =
      let a = h.1 in let b = h.3 in let c = h.4 in let d = part-up opener.end inside closer.start h.2 in
      footnote_order Pipe opener.is_image from opener.start label end (siblings_of reader.options after) to h.0 (omega arith) (siblings-order end after to h.5 f.1 u.1 g.2 w.2)
  siblings-order from (Form opener inside closer (Wiki name None end) after) to h f u g w =
      let a = h.1 in let b = h.3 in let c = h.4 in let d = w.0 in
      (opener.start, h.0, inl refl, omega arith, (omega arith, omega arith, omega arith), siblings-order end after to h.5 f.1 u.1 g.2 w.2, link_tag opener.is_image _)
  siblings-order from (Form opener inside closer (Wiki name (Some place) end) after) to h f u g w =
      let a = h.1 in let b = h.3 in let c = h.4 in let d = part-up opener.end inside closer.start h.2 in
      let display = display_from place closer.start (siblings_of reader.options inside) in
      let inner = dress-order Pipe reader.options opener.end display closer.start
      (display_order Pipe place closer.start g.0.0 opener.end (siblings_of reader.options inside) d (siblings-order opener.end inside closer.start h.2 f.0 u.0 g.1 w.1) (parts-free place g.0.0 inside u.0)) in
      (opener.start, h.0, inl refl, omega arith, inline-wide Pipe opener.start opener.end (dress reader.options display) closer.start end a (omega arith) inner, siblings-order end after to h.5 f.1 u.1 g.2 w.2, link_tag opener.is_image _)
  siblings-order from (Closing closer after) to h f u g w = (h.0, (let b = h.1 in omega arith), tt, siblings-order closer.end after to h.2 f u g w)
  siblings-order from (Opening opener after) to h f u g w = (h.0, h.1, tt, siblings-order opener.end after to h.2 f u g w)

  pub spans-order : (from : ℕ) (parts : Parts) (to : ℕ) → StandBetween from parts to → OfItems FillsItem parts → OfItems UncutItem parts → HavePipes reader parts → HaveGaps parts
      → InlineOrder Pipe from (spans_in reader.options parts) to
  spans-order from parts to h f u g w = dress-order Pipe reader.options from (siblings_of reader.options parts) to (siblings-order from parts to h f u g w)
