-- If the source is UTF-8, the spans of a leaf, and the events of a text, begin and end at character boundaries.
use Rattle.std.specs.Prelude.{zero, suc, ◌-◌, max, get_or, drop, encode_utf8, if◌then◌else◌, IsUtf8}
use Rattle.std.specs.Str.{IsCharBoundary}
use Rattle.std.proofs.Common.{◌≡◌, ℕ, ◌+◌, ◌<◌, ◌≤◌, Bool, true, false, List, [], ◌∷◌, ◌++◌, length, Option, Some, None, refl, sym, ap, subst, arith, ◌∙◌, rules}
use Rattle.std.proofs.lemmas.Str.{IsCharBoundary-start}
use Rattle.cmark_grammar.specs.BlockDocument.{BlockDocument, BlockNode, Nil as NoNodes, Node}
use Rattle.cmark_grammar.specs.BlockReading.{Reads as ReadsAs, First, first_event, is_leaf, over, read_as, starts_before}
use Rattle.cmark_grammar.specs.Event.{Ranged}
use Rattle.cmark_grammar.specs.InlineReading.{inline_events}
use Rattle.cmark_grammar.specs.Items.{ItemKind, Written, Delimiters, Autolink, Item}
use Rattle.cmark_grammar.specs.LeafReading.{Between, entering, ReadsLeaf}
use Rattle.cmark_grammar.specs.LeafText.{InTurn, Leaf, Stretch, begin_of, size_of}
use Rattle.cmark_grammar.specs.Options.{Options}
use Rattle.cmark_grammar.specs.Parts.{Parts, Nil as NoParts, Single as SinglePart, Form, Closing, Opening, Linking, Footnote, Wiki}
use Rattle.cmark_grammar.specs.Questions.{Exchange, IsNext, Saying}
use Rattle.cmark_block_model.specs.Ranges.{AllAt}
use Rattle.cmark_grammar.specs.Readers.{Reader}
use Rattle.cmark_grammar.specs.Siblings.{Inline, Nil, Single, Around, append, item, quote_as, with_characters, element, item_then, footnote_then, from_place, display_from}
use Rattle.cmark_inline_model.specs.RunSpans.{bytes_then, run_bytes, put_gap, no_gaps, gaps_of, no_item, dressed}
use Rattle.cmark_inline_model.specs.SiblingsModel.{dress, siblings_of, spans_in}
use Rattle.cmark_grammar.specs.SpanDocuments.{Content, Given, IsReading, Profile, ReadsAll, Segment, at_start, first_of_segments, inside_of, leaf_of, node_segments, reader_of, segments, stretches_of, with_first_segment}
use Rattle.cmark_grammar.specs.Spans as spans
use Rattle.cmark_grammar.specs.Spans.{span_tag, span_width, Spans}
use Rattle.cmark_grammar.specs.Tag.{Tag}
use Rattle.cmark_block_model.proofs.BoundaryLaws.{derived-boundaries}
use Rattle.cmark_inline_model.specs.CharacterRanges.{CutNoCharacter, HaveRanges}
use Rattle.cmark_inline_model.specs.CutRanges.{IsAfterPipe}
use Rattle.cmark_inline_model.specs.LeafModel.{HaveLineEnds}
use Rattle.cmark_inline_model.specs.PlacedLeaves.{AreLeavesPlaced, IsPlaced}
use Rattle.cmark_inline_model.specs.TextPlaces.{place_in, text_of}
use Rattle.cmark_inline_model.proofs.BlockRanges.{derived-ranges}
use Rattle.cmark_inline_model.proofs.LeafCuts.{size-is}
use Rattle.cmark_inline_model.proofs.LeafEndings.{derived-placed}
use Rattle.cmark_inline_model.proofs.LeafSteps.{IsAt, place-first}
use Rattle.cmark_inline_model.proofs.PartOrders.{FillsItem, IsFree, FreeBy, UncutItem, parts-fill, parts-free}
use Rattle.cmark_inline_model.proofs.ReadingEdges.{PartsEdged, reading-edged}
use Rattle.cmark_inline_model.proofs.ReadingPlaces.{HavePipes, reading-reaches}
use Rattle.cmark_inline_model.proofs.SiblingsOne.{spans-one}
use Rattle.cmark_inline_model.proofs.SourceEdges as edges
use Rattle.cmark_inline_model.proofs.SourceEdges.{AreEdges}
use Rattle.cmark_inline_model.proofs.SpanRanges.{Fills}
use Rattle.cmark_inline_model.proofs.TokenItems.{OfItems}
use Rattle.cmark_inline_model.proofs.TokenPlaces.{IsPlace}

-- a place that holds of two holds of the greater
max-of : (P : ℕ → Type 0) (a b : ℕ) → P a → P b → P (max a b)
max-of P a b p q = grind arith

module _ (Edge : ℕ → Type 0) (Ascii : ℕ → Type 0) (at-ascii : (i : ℕ) → Ascii i → Edge i) (following-ascii : (i : ℕ) → Ascii i → Edge (suc i)) (at-start : Edge 0) where
  -- both ends of each item and of each element are such places
  abbrev pub AllEdges : Inline → Type 0
  AllEdges Nil = Unit {0}
  AllEdges (Single x after) = Edge x.start × Edge x.end × AllEdges after
  AllEdges (Around tag start end inside after) = Edge start × Edge end × AllEdges inside × AllEdges after

  -- the bytes of a run are ASCII
  abbrev RunBytes : ItemKind → (start : ℕ) → Type 0
  RunBytes (Delimiters run) start = (i : ℕ) → i < run.run_length → Ascii (start + i)
  RunBytes _ start = Unit {0}

  abbrev pub SiblingEdges : Inline → Type 0
  SiblingEdges Nil = Unit {0}
  SiblingEdges (Single x after) = Edge x.start × Edge x.end × RunBytes x.kind x.start × SiblingEdges after
  SiblingEdges (Around tag start end inside after) = Edge start × Edge end × AllEdges inside × SiblingEdges after

  edges-append : (a b : Inline) → AllEdges a → AllEdges b → AllEdges (append a b)
  edges-append Nil b h k = k
  edges-append (Single x after) b h k = (h.0, h.1, edges-append after b h.2 k)
  edges-append (Around tag start end inside after) b h k = (h.0, h.1, h.2, edges-append after b h.3 k)

  quoted-edges : (siblings : Inline) (cs : List ℕ) → SiblingEdges siblings → SiblingEdges (with_characters siblings cs)
  quoted-edges Nil cs h = tt
  quoted-edges (Around tag start end inside after) cs h = (h.0, h.1, h.2, quoted-edges after cs h.3)
  quoted-edges (Single x after) cs h = by (quoted-edges after (drop 1 cs) h.3) (quoted-edges after cs h.3) x.kind refl
    where
      by : SiblingEdges (with_characters after (drop 1 cs)) → SiblingEdges (with_characters after cs) → (kind : ItemKind) → x.kind ≡ kind
          → SiblingEdges (quote_as (λ cs. Single (item (Written (encode_utf8 (get_or cs 0 0))) x.start x.end) (with_characters after (drop 1 cs))) (λ cs. Single x (with_characters after cs)) kind cs)
      by i k kind e = grind arith

  -- ## Gaps and bytes

  abbrev GapEdges : List Inline → Type 0
  GapEdges [] = Unit {0}
  GapEdges (gap ∷ gaps) = AllEdges gap × GapEdges gaps

  abbrev ByteEdges : List Item → Type 0
  ByteEdges [] = Unit {0}
  ByteEdges (b ∷ bytes) = Edge b.start × Edge b.end × ByteEdges bytes

  put-edges : (put : Inline → Inline) (gaps : List Inline) → ((gap : Inline) → AllEdges gap → AllEdges (put gap)) → GapEdges gaps → GapEdges (put_gap put gaps)
  put-edges put [] f h = (f Nil tt, tt)
  put-edges put (gap ∷ gaps) f h = (f gap h.0, h.1)

  none-edges : (n : ℕ) (gaps : List Inline) → GapEdges gaps → GapEdges (no_gaps n gaps)
  none-edges zero gaps h = h
  none-edges (suc n) gaps h = (tt, none-edges n gaps h)

  gaps-edges : (siblings : Inline) → SiblingEdges siblings → GapEdges (gaps_of siblings)
  gaps-edges Nil h = (tt, tt)
  gaps-edges (Around tag start end inside after) h = put-edges (Around tag start end inside) (gaps_of after) (λ gap k. (h.0, h.1, h.2, k)) (gaps-edges after h.3)
  gaps-edges (Single x after) h = grind (arith, put-edges, none-edges, gaps-edges after h.3)

  run-edges : (start n : ℕ) (after : List Item) → ((i : ℕ) → i < n → Ascii (start + i)) → ByteEdges after → ByteEdges (bytes_then start n after)
  run-edges start zero after f h = h
  run-edges start (suc n) after f h =
      let a = subst Ascii (let q : start + 0 ≡ start = omega arith in q) (f 0 (omega arith)) in
      (at-ascii start a, following-ascii start a, run-edges (suc start) n after (λ i lt. subst Ascii (let q : start + suc i ≡ suc start + i = omega arith in q) (f (suc i) (omega arith))) h)

  bytes-edges : (siblings : Inline) → SiblingEdges siblings → ByteEdges (run_bytes siblings)
  bytes-edges Nil h = tt
  bytes-edges (Around tag start end inside after) h = bytes-edges after h.3
  bytes-edges (Single x after) h = grind (arith, run-edges, bytes-edges after h.3)

  gap-at : (gaps : List Inline) (n : ℕ) → GapEdges gaps → AllEdges (get_or gaps n Nil)
  gap-at [] n h = tt
  gap-at (gap ∷ gaps) zero h = h.0
  gap-at (gap ∷ gaps) (suc n) h = gap-at gaps n h.1

  byte-at : (bytes : List Item) (n : ℕ) → ByteEdges bytes → Edge (get_or bytes n no_item).start × Edge (get_or bytes n no_item).end
  byte-at [] n h = (at-start, at-start)
  byte-at (b ∷ bytes) zero h = (h.0, h.1)
  byte-at (b ∷ bytes) (suc n) h = byte-at bytes n h.2

  element-edges : (tag : Option Tag) (start end : ℕ) (inner others : Inline) → Edge start → Edge end → AllEdges inner → AllEdges others → AllEdges (element tag start end inner others)
  element-edges (Some tag) start end inner others a b h k = (a, b, h, k)
  element-edges None start end inner others a b h k = (a, b, k)

  module _ (options : Options) (gaps : List Inline) (bytes : List Item) (g : GapEdges gaps) (b : ByteEdges bytes) where
    dressed-edges : (f : Spans) → AllEdges (dressed options gaps bytes f)
    dressed-edges spans.Nil = tt
    dressed-edges (spans.Single at after) =
        let x = byte-at bytes at b in (x.0, x.1, edges-append (get_or gaps (suc at) Nil) (dressed options gaps bytes after) (gap-at gaps (suc at) g) (dressed-edges after))
    dressed-edges (spans.Around span inside after) =
        let x = byte-at bytes span.start b in
        let y = byte-at bytes (span.end - 1) b in
        element-edges (span_tag options span.kind) (get_or bytes span.start no_item).start (get_or bytes (span.end - 1) no_item).end
        (append (get_or gaps (span.start + span_width span.kind) Nil) (dressed options gaps bytes inside)) (append (get_or gaps span.end Nil) (dressed options gaps bytes after)) x.0 y.1
        (edges-append (get_or gaps (span.start + span_width span.kind) Nil) (dressed options gaps bytes inside) (gap-at gaps (span.start + span_width span.kind) g) (dressed-edges inside))
        (edges-append (get_or gaps span.end Nil) (dressed options gaps bytes after) (gap-at gaps span.end g) (dressed-edges after))

  pub dress-edges : (options : Options) (siblings : Inline) → SiblingEdges siblings → AllEdges (dress options siblings)
  dress-edges options siblings h = grind (arith, quoted-edges, gaps-edges, edges-append, gap-at, dressed-edges, bytes-edges)

  -- ## Following a pipe

  cut-run : (kind : ItemKind) (place start end : ℕ) → place < end → FreeBy kind place start end → RunBytes kind start → RunBytes kind (max start place)
  cut-run kind place start end lt f r = grind arith

  from-edges : (place : ℕ) → Edge place → (siblings : Inline) → IsFree place siblings → SiblingEdges siblings → SiblingEdges (from_place place siblings)
  from-edges place p Nil f h = tt
  from-edges place p (Single x after) f h = search (rules, max-of, cut-run, from-edges place p after f.1 h.3)
  from-edges place p (Around tag start end inside after) f h = grind (arith, max-of, from-edges place p after f h.3)

  pub display-edges : (place end : ℕ) → Edge place → (siblings : Inline) → IsFree place siblings → SiblingEdges siblings → SiblingEdges (display_from place end siblings)
  display-edges place end p siblings f h = grind (arith, from-edges)

  -- ## Events

  pub events-edges : (source : List ℕ) → ((p : ℕ) → Edge p → IsCharBoundary source p) → (spans : Inline) → AllEdges spans → CutNoCharacter source (inline_events source spans)
  events-edges source f Nil h = tt
  events-edges source f (Single x after) h = (f x.start h.0, f x.end h.1, events-edges source f after h.2)
  events-edges source f (Around tag start end inside after) h =
      (f start h.0, f end h.1, both (inline_events source inside) _ (events-edges source f inside h.2) (f start h.0, f end h.1, events-edges source f after h.3))
    where
      both : (a b : List Ranged) → CutNoCharacter source a → CutNoCharacter source b → CutNoCharacter source (a ++ b)
      both [] b h k = k
      both (r ∷ a) b h k = (h.0, h.1, both a b h.2 k)

-- ## Parts

module _ (reader : Reader) (leaf : Leaf) (at : IsPlaced reader leaf) (utf8 : IsUtf8 reader.source) (ends : AreEdges reader.source leaf.stretches) where
  abbrev Edge : ℕ → Type 0
  Edge p = edges.Edge reader leaf at utf8 ends p

  abbrev Ascii : ℕ → Type 0
  Ascii p = edges.Ascii reader leaf at utf8 ends p

  abbrev at-ascii : (i : ℕ) → Ascii i → Edge i
  at-ascii i a = edges.at-ascii reader leaf at utf8 ends i a

  abbrev following-ascii : (i : ℕ) → Ascii i → Edge (suc i)
  following-ascii i a = edges.following-ascii reader leaf at utf8 ends i a

  abbrev at-start : Edge 0
  at-start = IsCharBoundary-start reader.source utf8

  abbrev Siblings : Inline → Type 0
  Siblings siblings = SiblingEdges Edge Ascii at-ascii following-ascii at-start siblings

  abbrev All : Inline → Type 0
  All spans = AllEdges Edge Ascii at-ascii following-ascii at-start spans

  -- an offset after a pipe
  pipe-edge : (p : ℕ) → IsAfterPipe reader.options reader.source p → Edge p
  pipe-edge p b =
      let s = b.some in
      let lt = there (p - 1) reader.source b.pipe in
      subst Edge (let q : suc (p - 1) ≡ p = omega arith in q) (following-ascii (p - 1) (lt, (let e = b.pipe in omega arith)))
    where
      there : (i : ℕ) (l : List ℕ) → get_or l i 0 ≡ 124 → i < length l
      there i [] e = absurd (let d : ⊥ = omega arith in d)
      there zero (b ∷ l) e = omega arith
      there (suc i) (b ∷ l) e = let k = there i l e in omega arith

  item-edges : (x : Item) (after : Inline) → Edge x.start → Edge x.end → edges.Bytes reader leaf at utf8 ends x.kind x.start x.end → FillsItem x → Siblings after → Siblings (item_then x.kind x after)
  item-edges x after a b c f k = go x.kind refl c f
    where
      go : (kind : ItemKind) → x.kind ≡ kind → edges.Bytes reader leaf at utf8 ends kind x.start x.end → Fills kind x.start x.end → Siblings (item_then kind x after)
      go (Delimiters run) e c f = (a, b, subst (λ q. RunBytes Edge Ascii at-ascii following-ascii at-start q x.start) (sym e) (λ i lt. c (x.start + i) (omega arith) (omega arith)), k)
      go (Autolink uri) e c f = (a, b, (following-ascii x.start c.0, at-ascii (x.end - 1) c.1, tt), k)
      go _ e c f = (a, b, subst (λ q. RunBytes Edge Ascii at-ascii following-ascii at-start q x.start) (sym e) tt, k)

  footnote-edges : (is_image : Bool) (start : ℕ) (label : List ℕ) (end : ℕ) (others : Inline) → Edge start → Edge (suc start) → Edge end → Siblings others → Siblings (footnote_then is_image start label end others)
  footnote-edges true start label end others a b c k = (a, b, tt, (b, c, tt, k))
  footnote-edges false start label end others a b c k = (a, c, tt, k)

  within : length reader.source ≤ length reader.source
  within = omega arith

  abbrev PartUncut : Item → Type 0
  PartUncut x = UncutItem reader leaf (length reader.source) at.turn within at.lines x

  siblings-edges : (parts : Parts) → PartsEdged reader leaf at utf8 ends parts → OfItems FillsItem parts → OfItems PartUncut parts → HavePipes reader parts → Siblings (siblings_of reader.options parts)
  siblings-edges NoParts h f u g = tt
  siblings-edges (SinglePart x after) h f u g = item-edges x (siblings_of reader.options after) h.0 h.1 h.2 f.0 (siblings-edges after h.3 f.1 u.1 g)
  siblings-edges (Form opener inside closer (Linking target) after) h f u g =
      (h.0.starts, h.2, dress-edges Edge Ascii at-ascii following-ascii at-start reader.options (siblings_of reader.options inside) (siblings-edges inside h.3 f.0 u.0 g.1), siblings-edges after h.4 f.1 u.1 g.2)
  siblings-edges (Form opener inside closer (Footnote label end) after) h f u g =
      footnote-edges opener.is_image opener.start label end (siblings_of reader.options after) h.0.starts h.0.first h.2 (siblings-edges after h.4 f.1 u.1 g.2)
  siblings-edges (Form opener inside closer (Wiki name None end) after) h f u g = (h.0.starts, h.2.0, (h.2.1, h.1, tt), siblings-edges after h.4 f.1 u.1 g.2)
  siblings-edges (Form opener inside closer (Wiki name (Some place) end) after) h f u g =
      let inner = siblings_of reader.options inside in
      let free = parts-free reader leaf (length reader.source) at.turn within at.lines place g.0.0 inside u.0 in
      let shown = display-edges Edge Ascii at-ascii following-ascii at-start place closer.start (pipe-edge place g.0.0) inner free (siblings-edges inside h.3 f.0 u.0 g.1) in
      (h.0.starts, h.2.0, dress-edges Edge Ascii at-ascii following-ascii at-start reader.options (display_from place closer.start inner) shown, siblings-edges after h.4 f.1 u.1 g.2)
  siblings-edges (Closing closer after) h f u g = (h.0, h.1, tt, siblings-edges after h.2 f u g)
  siblings-edges (Opening opener after) h f u g = (h.0, h.1, tt, siblings-edges after h.2 f u g)

  -- ## A leaf

  pub leaf-cut : (Says : Saying) (before after : Between) (events : List Ranged) → ReadsLeaf reader Says leaf before events after → CutNoCharacter reader.source events
  leaf-cut Says before after events h =
      let s = entering leaf before in
      let text = text_of reader leaf in
      let start : edges.At reader leaf at utf8 ends s.at = record {
        k = 0;
        within = omega arith;
        edge = IsCharBoundary-start text (edges.whole-text reader leaf at utf8 ends);
        is = begins;
      } in
      let r = reading-edged reader leaf at utf8 ends Says s h.parts h.last start tt h.reads.reads in
      let m = reading-reaches reader leaf (length reader.source) at.turn within at.lines Says s h.parts h.last first-place h.reads.reads in
      let f = parts-fill reader leaf (length reader.source) at.turn Says s h.parts h.last h.reads.reads in
      let all = dress-edges Edge Ascii at-ascii following-ascii at-start reader.options (siblings_of reader.options h.parts) (siblings-edges h.parts r.parts_are f m.items m.pipes) in
      subst (CutNoCharacter reader.source) (sym (h.events_are ∙ ap (inline_events reader.source) (spans-one reader.options h.parts h.spans h.are)))
      (events-edges Edge Ascii at-ascii following-ascii at-start reader.source (λ p e. e) (spans_in reader.options h.parts) all)
    where
      -- a leaf begins in the place of its first byte
      begins : begin_of leaf.stretches ≡ place_in reader leaf 0
      begins = grind (arith, size-is, within, place-first)

      first-place : IsPlace reader leaf (length reader.source) at.turn within at.lines (begin_of leaf.stretches)
      first-place = go leaf.stretches at.lines at.turn
        where
          go : (st : List Stretch) (ended : HaveLineEnds reader.source st) (turn : InTurn 0 st (length reader.source)) → (left : ℕ) × IsAt reader.source st (length reader.source) turn within ended left (begin_of st)
          go [] ended turn = (0, (omega arith, refl))
          go (s ∷ more) ended turn = (size_of (s ∷ more), (omega arith, sym (place-first reader.source s more ended)))

-- ## A text

-- the stretches of each leaf cut no character
abbrev LeafEdges : (source : List ℕ) → List Segment → Type 0
LeafEdges source [] = Unit {0}
LeafEdges source (Given r ∷ others) = LeafEdges source others
LeafEdges source (Content leaf ∷ others) = AreEdges source leaf.stretches × LeafEdges source others

module _ (source : List ℕ) where
  stretches-edges : (document : BlockDocument) → AllAt (IsCharBoundary source) document → AreEdges source (stretches_of document)
  stretches-edges NoNodes h = tt
  stretches-edges (Node node inside after) h = (h.0, h.1, stretches-edges after h.3)

  both-leaves : (a b : List Segment) → LeafEdges source a → LeafEdges source b → LeafEdges source (a ++ b)
  both-leaves [] b h k = k
  both-leaves (Given r ∷ a) b h k = both-leaves a b h k
  both-leaves (Content leaf ∷ a) b h k = (h.0, both-leaves a b h.1 k)

  inside-leaves : (z : Bool) (leaf : Leaf) (others : List Segment) → AreEdges source leaf.stretches → LeafEdges source others → LeafEdges source (if z then Content leaf ∷ [] else others)
  inside-leaves true leaf others e h = (e, tt)
  inside-leaves false leaf others e h = h

  node-leaves : (reads : ReadsAs) (node : BlockNode) (own : List Segment) → LeafEdges source own → LeafEdges source (node_segments reads node own)
  node-leaves reads node own h = grind (arith, both-leaves)

  first-leaves : (starts : ℕ) (r : Ranged) (others : List Segment) → LeafEdges source others → LeafEdges source (first_of_segments starts (Given r) others)
  first-leaves zero r others h = h
  first-leaves (suc starts) r [] h = tt
  first-leaves (suc starts) r (Given e ∷ others) h = first-leaves starts r others h
  first-leaves (suc starts) r (Content leaf ∷ others) h = (h.0, first-leaves starts r others h.1)

  with-leaves : (reads : ReadsAs) (starts : ℕ) (node : BlockNode) (others : List Segment) → LeafEdges source others → LeafEdges source (with_first_segment (first_event reads) starts node others)
  with-leaves (First event) starts node others h = first-leaves starts (over node event) others h
  with-leaves _ starts node others h = h

  document-leaves : (document : BlockDocument) → AllAt (IsCharBoundary source) document → LeafEdges source (segments document)
  document-leaves NoNodes h = tt
  document-leaves (Node node content after) h =
      let own = inside_of node.kind content (segments content) in
      with-leaves (read_as node.kind) (starts_before after) node (node_segments (read_as node.kind) node own ++ segments after)
      (both-leaves (node_segments (read_as node.kind) node own) (segments after)
      (node-leaves (read_as node.kind) node own (inside-leaves (is_leaf node.kind) (leaf_of node.kind content) (segments content) (stretches-edges content h.2) (document-leaves content h.2))) (document-leaves after h.3))

  both-cut : (a b : List Ranged) → CutNoCharacter source a → CutNoCharacter source b → CutNoCharacter source (a ++ b)
  both-cut [] b h k = k
  both-cut (r ∷ a) b h k = (h.0, h.1, both-cut a b h.2 k)

all-cut : (reader : Reader) (Says : Saying) (others : List Segment) (before after : Between) (events : List Ranged) → IsUtf8 reader.source → AreLeavesPlaced reader others → LeafEdges reader.source others → HaveRanges reader.source others
    → ReadsAll reader Says others before events after → CutNoCharacter reader.source events
all-cut reader Says [] before after events utf8 p l r h = subst (CutNoCharacter reader.source) (sym h.0) tt
all-cut reader Says (Given x ∷ others) before after events utf8 p l r h =
    subst (CutNoCharacter reader.source) (sym h.2) (r.0.starts, r.0.ends, all-cut reader Says others before after h.0 utf8 p l r.1 h.1)
all-cut reader Says (Content leaf ∷ others) before after events utf8 p l r h =
    subst (CutNoCharacter reader.source) (sym h.5) (both-cut reader.source h.0 h.1 (leaf-cut reader leaf p.0 utf8 l.0 Says before h.2 h.0 h.3) (all-cut reader Says others h.2 after h.1 utf8 p.1 l.1 r h.4))

pub reading-cut : (text : List ℕ) (profile : Profile) (exchanges : List Exchange) (events : List Ranged) → IsUtf8 text → IsReading text profile exchanges events → CutNoCharacter text events
reading-cut text profile exchanges events utf8 h =
    let reader = reader_of text profile h.document in
    let bounds = derived-boundaries text profile.options profile.lookup h.document utf8 h.derives in
    all-cut reader (IsNext exchanges) (segments h.document) (at_start profile) h.after events utf8 (derived-placed reader profile.options profile.lookup h.document h.derives)
    (document-leaves text h.document bounds) (derived-ranges text profile.options profile.lookup h.document utf8 h.derives) h.reads
