-- A slot that is cut is like the grammar's item that begins at the same byte.
use Rattle.std.specs.Prelude.{encode_utf8, not, ◌&&◌, ◌||◌, if◌then◌else◌, nat_lt}
use Rattle.std.proofs.Common.{◌≡◌, ℕ, zero, suc, ◌+◌, ◌-◌, ◌<◌, ◌≤◌, ◌==◌, Bool, true, false, true≢false, List, length, get_or, refl, sym, ap, ◌∙◌, subst, arith}
use Rattle.std.proofs.lemmas.Bool.{ltb-false}
use Rattle.std.proofs.lemmas.Grind.{same_number_lists}
use Rattle.std.proofs.lemmas.List.{get_or_default}
use Rattle.std.proofs.lemmas.List.Folds.{Any-from_list_any, list_any_at, list_any_none}
use Rattle.cmark_grammar.specs.CodeSpans.{code_text}
use Rattle.cmark_grammar.specs.Event as event
use Rattle.cmark_grammar.specs.Event.{Event}
use Rattle.cmark_grammar.specs.InlineHtml.{takes_lines}
use Rattle.cmark_grammar.specs.InlineReading.{event_of}
use Rattle.cmark_grammar.specs.InlineTokens.{as_in}
use Rattle.cmark_grammar.specs.Items as items
use Rattle.cmark_grammar.specs.Items.{ItemKind, Item}
use Rattle.cmark_grammar.specs.LeafText.{Leaf}
use Rattle.cmark_grammar.specs.Lines.{is_content}
use Rattle.cmark_grammar.specs.Readers.{Reader}
use Rattle.cmark_grammar.specs.Siblings.{item}
use Rattle.cmark_grammar.specs.Tokens.{slice}
use Rattle.cmark_leaf_text.specs.Reads.{is_cell_of, place_of, text_of}
use Rattle.cmark_leaf_text.specs.declared.leaf_text.LeafText.{LeafText}
use Rattle.cmark_leaf_text.proofs.StretchSteps.{slice-length, byte-in-slice}
use Rattle.cmark_values.specs.declared.text.CowStr.{CowStr}
use Rattle.cmark_inline_model.specs.Displays.{CutFacts, CutKind, OwnedFacts}
use Rattle.cmark_inline_model.specs.LikeSlots.{IsLike, is_html}
use Rattle.cmark_inline_model.specs.SlotRows as row
use Rattle.cmark_inline.specs.Reached.{ReadsPlaces}
use Rattle.cmark_slots.specs.SlotViews.{shown_slot, slot_as, text_at, written, written_code}
use Rattle.cmark_slots.specs.Cuts.{cut_kind, cut_slot}
use Rattle.cmark_references.specs.declared.link.Link.{Link}
use Rattle.cmark_slots.specs.declared.slot.Slot.{Slot}
use Rattle.cmark_slots.specs.declared.slot.SlotKind.{SlotKind}
use Rattle.cmark_slots.specs.declared.slot.SlotKind.TheVariants as kind

-- ## Line endings

abbrev ends_line : ℕ → Bool
ends_line b = (b == 10) || (b == 13)

neither : (y z : Bool) → (y || z) ≡ false → (not y && not z) ≡ true
neither true z e = absurd (true≢false e)
neither false true e = absurd (true≢false e)
neither false false e = refl

none-at : (bs : List ℕ) (k : ℕ) → takes_lines bs ≡ false → k < length bs → is_content (get_or bs k 0) ≡ true
none-at bs k e lt = go (ends_line (get_or bs k 0)) refl
  where
    go : (z : Bool) → ends_line (get_or bs k 0) ≡ z → is_content (get_or bs k 0) ≡ true
    go true f = absurd (true≢false (sym (list_any_at ends_line bs k 0 lt f) ∙ e))
    go false f = neither (get_or bs k 0 == 10) (get_or bs k 0 == 13) f

one-at : (bs : List ℕ) → takes_lines bs ≡ true → (k : ℕ) × (k < length bs) × (ends_line (get_or bs k 0) ≡ true)
one-at bs e =
    let a = Any-from_list_any ends_line bs e in
    (a.0, a.2, ap ends_line (get_or_default bs a.0 0 a.1 a.2 ∙ a.3) ∙ a.4)

-- the last of some bytes that end no line
none-following : (bs : List ℕ) (s e t : ℕ) → e ≤ length bs → s ≤ t → takes_lines (slice bs s e) ≡ false → takes_lines (slice bs t e) ≡ false
none-following bs s e t within le none = list_any_none ends_line (slice bs t e) (λ k d lt.
    let m = slice-length bs t e within in
    let n = slice-length bs s e within in
    let less : k < e - t = omega (arith, lt, m) in
    let at : get_or (slice bs t e) k d ≡ get_or (slice bs s e) (t - s + k) 0 =
    get_or_default (slice bs t e) k d 0 lt ∙ byte-in-slice bs t e k less within
    ∙ ap (λ j. get_or bs j 0) (let q : t + k ≡ s + (t - s + k) = omega (arith, le) in q)
    ∙ sym (byte-in-slice bs s e (t - s + k) (omega (arith, less, le)) within) in
    ap ends_line at ∙ not-content (get_or (slice bs s e) (t - s + k) 0) (none-at (slice bs s e) (t - s + k) none (omega (arith, less, le, n))))
  where
    not-content : (b : ℕ) → is_content b ≡ true → ends_line b ≡ false
    not-content b c = go (b == 10) (b == 13) c
      where
        go : (y z : Bool) → (not y && not z) ≡ true → (y || z) ≡ false
        go true z f = absurd (true≢false (sym f))
        go false true f = absurd (true≢false (sym f))
        go false false f = refl

-- ## Adjacent bytes

module _ (leaf : LeafText) (reader : Reader) (read : Leaf) (place : ℕ → ℕ) (places : ReadsPlaces leaf reader read place) (s e : ℕ) (some : s < e) (within : e ≤ length (text_of leaf)) where
  abbrev text : List ℕ
  text = text_of leaf

  abbrev source : List ℕ
  source = reader.source

  abbrev past : ℕ
  past = suc (place (e - 1))

  past-within : past ≤ length source
  past-within = let q = places.places.inside (e - 1) (omega (arith, some, within)) in omega (arith, q)

  -- each place is at least one more than the place before
  rises : (n k : ℕ) → k + n < e → place k + n ≤ place (k + n)
  rises zero k lt = let q = ap place (let z : k + 0 ≡ k = omega arith in z) in omega (arith, q)
  rises (suc n) k lt =
      let i = rises n k (omega (arith, lt)) in
      let o = places.places.places.order (k + n) (k + suc n) (omega arith) (omega (arith, lt, within)) in
      omega (arith, i, o)

  abbrev IsTogether : Type 0
  IsTogether = (t : ℕ) → s ≤ t → t < e → place t ≡ place s + (t - s)

  -- the bytes are adjacent in the source if they take equally much of it as of the text
  by-size : past - place s ≡ e - s → IsTogether
  by-size size = λ t low lt.
      let a = rises (t - s) s (omega (arith, low, lt)) in
      let b = rises (e - 1 - t) t (omega (arith, lt)) in
      let c = ap place (let q : s + (t - s) ≡ t = omega (arith, low) in q) in
      let d = ap place (let q : t + (e - 1 - t) ≡ e - 1 = omega (arith, lt) in q) in
      omega (arith, a, b, c, d, size, low, lt)

  -- they are adjacent if the source has the bytes of the text there
  by-bytes : slice source (place s) past ≡ slice text s e → IsTogether
  by-bytes same =
      let a = slice-length source (place s) past past-within in
      let b = slice-length text s e within in
      let c = ap length same in
      by-size (omega (arith, a, b, c))

  -- they are adjacent if they end no line
  by-content : takes_lines (slice text s e) ≡ false → IsTogether
  by-content none = λ t low lt. go (t - s) (omega (arith, low, lt)) t (omega (arith, low))
    where
      step : (n : ℕ) → s + suc n < e → place (s + n) ≡ place s + n → place (s + suc n) ≡ place s + suc n
      step n lt h =
          let size = slice-length text s e within in
          let there : n < length (slice text s e) = omega (arith, lt, size) in
          let content : is_content (get_or text (s + n) 0) ≡ true = ap is_content (sym (byte-in-slice text s e n (omega (arith, lt)) within)) ∙ none-at (slice text s e) n none there in
          let f = places.places.places.next (s + n) (omega (arith, lt, within)) content in
          let g = ap place (let q : s + suc n ≡ suc (s + n) = omega arith in q) in
          omega (arith, f, g, h)

      from : (n : ℕ) → s + n < e → place (s + n) ≡ place s + n
      from zero lt = let q = ap place (let z : s + 0 ≡ s = omega arith in z) in omega (arith, q)
      from (suc n) lt = step n lt (from n (omega (arith, lt)))

      go : (n : ℕ) → s + n < e → (t : ℕ) → t ≡ s + n → place t ≡ place s + n
      go n lt t q = ap place q ∙ from n lt

  -- the last of them are equal in the source and in the text
  following : IsTogether → (t : ℕ) → s ≤ t → t < e → slice source (place t) past ≡ slice text t e
  following h t low lt =
      let a = slice-length source (place t) past past-within in
      let b = slice-length text t e within in
      let u = h t low lt in
      let v = h (e - 1) (omega (arith, some)) (omega (arith, some)) in
      same_number_lists (slice source (place t) past) (slice text t e) (omega (arith, a, b, u, v, low, lt))
      (λ k less.
      let inside : k < e - t = omega (arith, less, a, u, v, low, lt) in
      let w = h (t + k) (omega (arith, low)) (omega (arith, inside)) in
      byte-in-slice source (place t) past k (omega (arith, less, a)) past-within
      ∙ ap (λ n. get_or source n 0) (let q : place t + k ≡ place (t + k) = omega (arith, u, w, low) in q)
      ∙ places.places.bytes (t + k) (omega (arith, inside, within))
      ∙ sym (byte-in-slice text t e k inside within))

  -- a line that ends in the text ends in the source
  ends-there : takes_lines (slice text s e) ≡ true → takes_lines (slice source (place s) past) ≡ true
  ends-there one =
      let k = one-at (slice text s e) one in
      let size = slice-length text s e within in
      let lt = k.1 in
      let less : s + k.0 < e = omega (arith, lt, size, some) in
      let low = rises k.0 s less in
      let up = rises (e - 1 - (s + k.0)) (s + k.0) (omega (arith, less)) in
      let last = ap place (let q : s + k.0 + (e - 1 - (s + k.0)) ≡ e - 1 = omega (arith, less) in q) in
      let n : ℕ = place (s + k.0) - place s in
      let long = slice-length source (place s) past past-within in
      let at : get_or (slice source (place s) past) n 0 ≡ get_or (slice text s e) k.0 0 =
      byte-in-slice source (place s) past n (omega (arith, low, up, last)) past-within
      ∙ ap (λ m. get_or source m 0) (let q : place s + n ≡ place (s + k.0) = omega (arith, low) in q)
      ∙ places.places.bytes (s + k.0) (omega (arith, less, within))
      ∙ sym (byte-in-slice text s e k.0 (omega (arith, less)) within) in
      list_any_at ends_line (slice source (place s) past) n 0 (omega (arith, long, low, up, last)) (ap ends_line at ∙ k.2)

-- ## Kinds, by their events

-- a text of the bytes themselves
abbrev IsText : ItemKind → Type 0
IsText items.Plain = Unit {0}
IsText items.Own = Unit {0}
IsText (items.Quoted quote) = Unit {0}
IsText (items.Delimiters run) = Unit {0}
IsText (items.Autolink uri) = Unit {0}
IsText _ = ⊥

text-kind : (source bytes : List ℕ) (x : Item) (k : ItemKind) → CutKind k → event.Text bytes ≡ event_of source x k → IsText k × (bytes ≡ slice source x.start x.end)
text-kind source bytes x items.Plain c h = (tt, cc)
text-kind source bytes x items.Own c h = (tt, cc)
text-kind source bytes x (items.Quoted quote) c h = (tt, cc)
text-kind source bytes x (items.Delimiters run) c h = (tt, cc)
text-kind source bytes x (items.Autolink uri) c h = (tt, cc)
text-kind source bytes x (items.Written text) c h = absurd c
text-kind source bytes x _ c h = absurd (let z : ⊥ = cc in z)

text-event : (source : List ℕ) (x : Item) (k : ItemKind) → IsText k → event_of source x k ≡ event.Text (slice source x.start x.end)
text-event source x items.Plain t = refl
text-event source x items.Own t = refl
text-event source x (items.Quoted quote) t = refl
text-event source x (items.Delimiters run) t = refl
text-event source x (items.Autolink uri) t = refl
text-event source x _ t = absurd t

text-html : (k : ItemKind) → IsText k → is_html k ≡ false
text-html items.Html t = absurd t
text-html _ t = refl

-- an event that is neither a text nor inline HTML
abbrev IsOther : Event → Type 0
IsOther (event.Text bytes) = ⊥
IsOther (event.InlineHtml bytes) = ⊥
IsOther _ = Unit {0}

-- this event does not depend on the range of the item
other-event : (source : List ℕ) (x y : Item) (k : ItemKind) (e : Event) → IsOther e → e ≡ event_of source x k → e ≡ event_of source y k
other-event source x y (items.Code text) e o h = h
other-event source x y (items.InlineMath text) e o h = h
other-event source x y (items.DisplayMath text) e o h = h
other-event source x y (items.FootnoteReference label) e o h = h
other-event source x y items.SoftBreak e o h = h
other-event source x y items.HardBreak e o h = h
other-event source x y _ e o h = absurd (subst IsOther h o)

other-html : (source : List ℕ) (x : Item) (k : ItemKind) (e : Event) → IsOther e → e ≡ event_of source x k → is_html k ≡ false
other-html source x items.Html e o h = absurd (subst IsOther h o)
other-html source x _ e o h = refl

-- inline HTML is a part of the source, or owns its bytes
data HtmlKind (source bytes : List ℕ) (x : Item) (k : ItemKind) : Type 0 where
  Part : (k ≡ items.Html) → (bytes ≡ slice source x.start x.end) → HtmlKind source bytes x k
  Owned : (k ≡ items.OwnedHtml bytes) → HtmlKind source bytes x k

html-kind : (source bytes : List ℕ) (x : Item) (k : ItemKind) → event.InlineHtml bytes ≡ event_of source x k → HtmlKind source bytes x k
html-kind source bytes x items.Html h = Part refl cc
html-kind source bytes x (items.OwnedHtml text) h = let e : text ≡ bytes = cc in Owned (ap items.OwnedHtml e)
html-kind source bytes x _ h = absurd (let z : ⊥ = cc in z)

-- ## The slot that is cut

module _ (leaf : LeafText) (reader : Reader) (read : Leaf) (place : ℕ → ℕ) (places : ReadsPlaces leaf reader read place) (texts : List CowStr) (links : List Link) (slot : Slot) (t : ℕ) (low : slot.start < t) (high : t < slot.end) (within : slot.end ≤ length (text_of leaf))
    (x : Item) (facts : CutFacts reader.source x) (further : place t < x.end) where
  abbrev src : List ℕ
  src = reader.source

  abbrev txt : List ℕ
  txt = text_of leaf

  abbrev s : ℕ
  s = slot.start

  abbrev e : ℕ
  e = slot.end

  some : s < e
  some = omega (arith, low, high)

  abbrev made : SlotKind → Slot
  made k = record { kind = k; start = t; end = e }

  abbrev cut_item : Item
  cut_item = item x.kind (place t) x.end

  abbrev Goal : SlotKind → Type 0
  Goal k = IsLike src (slot_as leaf texts links (made k) k) (row.ItemSlot cut_item)

  abbrev Given : SlotKind → Type 0
  Given k = IsLike src (slot_as leaf texts links slot k) (row.ItemSlot x)

  first-is : place_of leaf t ≡ place t
  first-is = places.bytes t (omega (arith, high, within))

  begins-at : place_of leaf s ≡ x.start → x.start ≡ place s
  begins-at h = sym h ∙ places.bytes s (omega (arith, some, within))

  ends-at : place_of leaf (e - 1) + 1 ≡ x.end → x.end ≡ suc (place (e - 1))
  ends-at h = let b = places.bytes (e - 1) (omega (arith, some, within)) in let q : x.end ≡ suc (place (e - 1)) = omega (arith, h, b) in q

  -- the bytes of the item in the source
  bytes-are : place_of leaf s ≡ x.start → place_of leaf (e - 1) + 1 ≡ x.end → slice src x.start x.end ≡ slice src (place s) (suc (place (e - 1)))
  bytes-are a b = ap (λ n. slice src n x.end) (begins-at a) ∙ ap (slice src (place s)) (ends-at b)

  -- the bytes from the place on
  later : slice src (place s) (suc (place (e - 1))) ≡ slice txt s e → place_of leaf (e - 1) + 1 ≡ x.end → slice txt t e ≡ slice src (place t) x.end
  later same b = sym (ap (slice src (place t)) (ends-at b) ∙ following leaf reader read place places s e some within (by-bytes leaf reader read place places s e some within same) t (omega (arith, low)) high)

  -- a text of the bytes of its range
  as-bytes : slice src (place s) (suc (place (e - 1))) ≡ slice txt s e → IsText x.kind → place_of leaf (e - 1) + 1 ≡ x.end → Goal kind.Text
  as-bytes same is b = record { start = first-is; end = b; event = ap event.Text (later same b) ∙ sym (text-event src cut_item x.kind is); lines = λ q. sym (text-html x.kind is) }

  -- a text of the source
  as-source : (end : ℕ) → end ≡ x.end → IsText x.kind → IsLike src (row.ItemSlot (item items.Own (place_of leaf t) end)) (row.ItemSlot cut_item)
  as-source end b is = record { start = first-is; end = b; event = ap event.Text (ap (λ n. slice src n end) first-is ∙ ap (slice src (place t)) b) ∙ sym (text-event src cut_item x.kind is); lines = λ q. sym (text-html x.kind is) }

  -- an item of another kind
  as-other : (k : ItemKind) → is_html k ≡ false → place_of leaf (e - 1) + 1 ≡ x.end → (n : Event) → IsOther n → ((z : Item) → event_of src z k ≡ n) → n ≡ event_of src x x.kind → IsLike src (row.ItemSlot (item k (place_of leaf t) (place_of leaf (e - 1) + 1))) (row.ItemSlot cut_item)
  as-other k plain b n o same h = record { start = first-is; end = b; event = same (item k (place_of leaf t) (place_of leaf (e - 1) + 1)) ∙ other-event src x cut_item x.kind n o h; lines = λ q. plain ∙ sym (other-html src x x.kind n o h) }

  -- HTML that is a part of the source
  html-part : (end : ℕ) → end ≡ x.end → x.kind ≡ items.Html → (bytes : List ℕ) → bytes ≡ slice src (place t) x.end → takes_lines bytes ≡ false → IsLike src (row.ItemSlot (item (items.OwnedHtml bytes) (place_of leaf t) end)) (row.ItemSlot cut_item)
  html-part end b is bytes same none = record {
    start = first-is;
    end = b;
    event = ap event.InlineHtml same ∙ sym (ap (event_of src cut_item) is);
    lines = λ q. absurd (true≢false (sym q ∙ ap takes_lines (ap (λ n. slice src n end) first-is ∙ ap (slice src (place t)) b ∙ sym same) ∙ none));
  }

  html-owned : (end : ℕ) → end ≡ x.end → (bytes : List ℕ) → x.kind ≡ items.OwnedHtml bytes → IsLike src (row.ItemSlot (item (items.OwnedHtml bytes) (place_of leaf t) end)) (row.ItemSlot cut_item)
  html-owned end b bytes is = record { start = first-is; end = b; event = sym (ap (event_of src cut_item) is); lines = λ q. sym (ap is_html is) }

  line-kinds : (a b : ℕ) (z : Bool) → a ≡ x.start → b ≡ x.end → (takes_lines (slice src a b) ≡ true → z ≡ is_html x.kind) → takes_lines (slice src x.start x.end) ≡ true → z ≡ is_html x.kind
  line-kinds a b z c d lines q = lines (ap takes_lines (ap (λ n. slice src n b) c ∙ ap (slice src x.start) d) ∙ q)

  owned-lines : (bytes : List ℕ) → x.kind ≡ items.OwnedHtml bytes → takes_lines bytes ≡ true
  owned-lines bytes is = subst OwnedFacts is facts.owned

  cut-as : (k : SlotKind) → Given k → Goal (cut_kind txt s e k)
  cut-as kind.Text h =
      let k = text-kind src (written leaf s e) x x.kind facts.kind h.event in
      as-bytes (sym (k.1 ∙ bytes-are h.start h.end)) k.0 h.end
  cut-as (kind.OwnedText index) h = let k = text-kind src (text_at texts index) x x.kind facts.kind h.event in as-source (place_of leaf (e - 1) + 1) h.end k.0
  cut-as (kind.Character character) h = let k = text-kind src (encode_utf8 character) x x.kind facts.kind h.event in as-source (place_of leaf (e - 1) + 1) h.end k.0
  cut-as (kind.Whole last) h = let k = text-kind src _ x x.kind facts.kind h.event in as-source (place_of leaf (e - 1) + 1) h.end k.0
  cut-as (kind.SourceText end) h = let k = text-kind src _ x x.kind facts.kind h.event in as-source end h.end k.0
  cut-as kind.Empty h = absurd (
      let a = h.start in
      let b = h.end in
      let c = places.bytes s (omega (arith, some, within)) in
      let d = places.places.places.order s t low (omega (arith, high, within)) in
      omega (arith, a, b, c, d, further))
  cut-as kind.SoftBreak h = as-other items.SoftBreak refl h.end event.SoftBreak tt (λ z. refl) h.event
  cut-as kind.HardBreak h = as-other items.HardBreak refl h.end event.HardBreak tt (λ z. refl) h.event
  cut-as (kind.Code from) h = as-other (items.Code (code_text (as_in (is_cell_of leaf) (written_code leaf from e)))) refl h.end _ tt (λ z. refl) h.event
  cut-as (kind.InlineMath from) h = as-other (items.InlineMath (as_in (is_cell_of leaf) (written leaf from (e - 1)))) refl h.end _ tt (λ z. refl) h.event
  cut-as (kind.DisplayMath from) h = as-other (items.DisplayMath (as_in (is_cell_of leaf) (written leaf from (e - 2)))) refl h.end _ tt (λ z. refl) h.event
  cut-as (kind.FootnoteReference index) h = as-other (items.FootnoteReference (text_at texts index)) refl h.end _ tt (λ z. refl) h.event
  cut-as kind.InlineHtml h = go (takes_lines (slice txt s e)) refl (html-kind src (written leaf s e) x x.kind h.event)
    where
      go : (z : Bool) → takes_lines (slice txt s e) ≡ z → HtmlKind src (written leaf s e) x x.kind → Goal (cut_kind txt s e kind.InlineHtml)
      go true f (Part is same) = absurd (true≢false (sym (line-kinds _ _ false h.start h.end h.lines (ap takes_lines (sym same) ∙ f) ∙ ap is_html is)))
      go true f (Owned is) = subst Goal (sym (ap (λ z. if z then kind.CutHtml s else kind.InlineHtml) f)) (html-owned (place_of leaf (e - 1) + 1) h.end (written leaf s e) is)
      go false f (Part is same) =
          subst Goal (sym (ap (λ z. if z then kind.CutHtml s else kind.InlineHtml) f))
          (html-part (place_of leaf (e - 1) + 1) h.end is (written leaf t e) (later (sym (same ∙ bytes-are h.start h.end)) h.end) (none-following txt s e t within (omega (arith, low)) f))
      go false f (Owned is) = absurd (true≢false (sym (owned-lines (written leaf s e) is) ∙ f))
  cut-as (kind.CutHtml from) h = go (takes_lines (written leaf from e)) refl (html-kind src (written leaf from e) x x.kind h.event)
    where
      -- the bytes of the range end no line
      joined : takes_lines (slice src x.start x.end) ≡ false → (z : Bool) → takes_lines (slice txt s e) ≡ z → slice src (place s) (suc (place (e - 1))) ≡ slice txt s e
      joined n true f = absurd (true≢false (sym (ap takes_lines (bytes-are h.start h.end) ∙ ends-there leaf reader read place places s e some within f) ∙ n))
      joined n false f = following leaf reader read place places s e some within (by-content leaf reader read place places s e some within f) s (omega arith) some

      go : (z : Bool) → takes_lines (written leaf from e) ≡ z → HtmlKind src (written leaf from e) x x.kind → Goal (cut_kind txt s e (kind.CutHtml from))
      go true f (Part is same) = absurd (true≢false (sym (line-kinds _ _ false h.start h.end h.lines (ap takes_lines (sym same) ∙ f) ∙ ap is_html is)))
      go true f (Owned is) = subst Goal (sym (ap (λ z. if z then kind.CutHtml from else kind.InlineHtml) f)) (html-owned (place_of leaf (e - 1) + 1) h.end (written leaf from e) is)
      go false f (Part is same) =
          subst Goal (sym (ap (λ z. if z then kind.CutHtml from else kind.InlineHtml) f))
          (html-part (place_of leaf (e - 1) + 1) h.end is (written leaf t e) (later (joined (ap takes_lines (sym same) ∙ f) (takes_lines (slice txt s e)) refl) h.end)
          (none-following txt s e t within (omega (arith, low)) (ap takes_lines (sym (bytes-are h.start h.end ∙ joined (ap takes_lines (sym same) ∙ f) (takes_lines (slice txt s e)) refl)) ∙ ap takes_lines (sym same) ∙ f)))
      go false f (Owned is) = absurd (true≢false (sym (owned-lines (written leaf from e) is) ∙ f))
  cut-as (kind.SourceHtml end) h = go (html-kind src _ x x.kind h.event)
    where
      go : HtmlKind src (slice src (place_of leaf s) end) x x.kind → IsLike src (row.ItemSlot (item items.Html (place_of leaf t) end)) (row.ItemSlot cut_item)
      go (Part is same) = record { start = first-is; end = h.end; event = ap event.InlineHtml (ap (λ n. slice src n end) first-is ∙ ap (slice src (place t)) h.end) ∙ sym (ap (event_of src cut_item) is); lines = λ q. sym (ap is_html is) }
      go (Owned is) =
          let o = owned-lines (slice src (place_of leaf s) end) is in
          let same : slice src x.start x.end ≡ slice src (place_of leaf s) end = ap (λ n. slice src n x.end) (sym h.start) ∙ ap (slice src (place_of leaf s)) (sym h.end) in
          absurd (true≢false (line-kinds _ _ true h.start h.end h.lines (ap takes_lines same ∙ o) ∙ ap is_html is))
  cut-as (kind.Begin mark) h = absurd (let z : ⊥ = cc in z)
  cut-as (kind.BeginLink element index) h = absurd (let z : ⊥ = cc in z)
  cut-as kind.End h = absurd (let z : ⊥ = cc in z)
  cut-as kind.Nothing h = absurd (let z : ⊥ = cc in z)

  pub cut-like : IsLike src (shown_slot leaf texts links slot) (row.ItemSlot x) → IsLike src (shown_slot leaf texts links (cut_slot txt t slot)) (row.ItemSlot cut_item)
  cut-like h =
      let a = low in
      let b = high in
      subst (λ (c : Slot). IsLike src (shown_slot leaf texts links c) (row.ItemSlot cut_item)) (sym is) (cut-as slot.kind h)
    where
      go : (y z : Bool) → nat_lt s t ≡ y → nat_lt t e ≡ z → cut_slot txt t slot ≡ record { kind = cut_kind txt s e slot.kind; start = t; end = e }
      go true true f g = ap (λ y. if y && nat_lt t e then record { kind = cut_kind txt s e slot.kind; start = t; end = e } else slot) f ∙ ap (λ z. if z then record { kind = cut_kind txt s e slot.kind; start = t; end = e } else slot) g
      go false z f g = absurd (let q = ltb-false s t f in let l = low in omega (arith, q, l))
      go true false f g = absurd (let q = ltb-false t e g in let l = high in omega (arith, q, l))

      is : cut_slot txt t slot ≡ record { kind = cut_kind txt s e slot.kind; start = t; end = e }
      is = go (nat_lt s t) (nat_lt t e) refl refl
