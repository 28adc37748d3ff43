-- If a leaf's siblings are in order, so are its spans, except for cuts by a pipe.
use Rattle.std.specs.Prelude.{zero, suc, ◌-◌, get_or, drop}
use Rattle.std.proofs.Common.{◌≡◌, ◌⊎◌, inl, inr, ℕ, ◌+◌, ◌<◌, ◌≤◌, List, [], ◌∷◌, length, Option, Some, None, refl, sym, ap, subst, arith, ◌∙◌, rules}
use Rattle.cmark_grammar.specs.Emphasis.{places_taken}
use Rattle.cmark_inline_model.specs.EmphasisModel.{spans_of}
use Rattle.cmark_grammar.specs.Items.{ItemKind, Delimiters, Autolink, Item}
use Rattle.cmark_grammar.specs.Options.{Options}
use Rattle.cmark_grammar.specs.Quotes.{quote_characters}
use Rattle.cmark_grammar.specs.Siblings.{Inline, Nil, Single, Around, append, quotes_of, with_characters, with_quotes, element}
use Rattle.cmark_inline_model.specs.RunSpans.{run_then, runs_from, bytes_then, run_bytes_then, run_bytes, put_gap, no_gaps, gaps_of, no_item, dressed}
use Rattle.cmark_inline_model.specs.SiblingsModel.{dress}
use Rattle.cmark_grammar.specs.Spans as spans
use Rattle.cmark_grammar.specs.Spans.{span_tag, span_width, Spans, TakePlaces}
use Rattle.cmark_grammar.specs.Tag.{Tag}
use Rattle.cmark_inline_model.proofs.SpanPlaces.{places}
use Rattle.cmark_inline_model.specs.CutRanges.{IsLinkOrImage}
use Rattle.cmark_inline_model.proofs.KindViews.{KindView, kind-view}
use Rattle.cmark_inline_model.proofs.SpanCosts.{runs-stand, takes-up, width-some}
use Rattle.cmark_inline_model.proofs.SpanElements.{quoted_then, other_then}

-- a run has its bytes, and an autolink one at each side of its text
abbrev pub Fills : ItemKind → (start end : ℕ) → Type 0
Fills (Delimiters run) start end = start + run.run_length ≤ end
Fills (Autolink uri) start end = start + 2 ≤ end
Fills _ start end = Unit {0}

-- an element begins where it is written to begin, or after a pipe that cuts it
abbrev pub Begun : (Pipe : ℕ → Type 0) → Tag → (written start : ℕ) → Type 0
Begun Pipe tag written start = (start ≡ written) ⊎ (IsLinkOrImage tag × (written < start) × Pipe start)

pub begun-up : (Pipe : ℕ → Type 0) (tag : Tag) (written start : ℕ) → Begun Pipe tag written start → written ≤ start
begun-up Pipe tag written start (inl e) = omega arith
begun-up Pipe tag written start (inr h) = let a = h.1 in omega arith

module _ (Pipe : ℕ → Type 0) where
  -- the spans between two offsets are in order, and each element contains the spans inside it. Its content begins where the element is
  -- written to begin
  abbrev pub InlineOrder : ℕ → Inline → ℕ → Type 0
  InlineOrder from Nil to = from ≤ to
  InlineOrder from (Single x after) to = (from ≤ x.start) × (x.start ≤ x.end) × InlineOrder x.end after to
  InlineOrder from (Around tag start end inside after) to =
      (written : ℕ) × (from ≤ written) × Begun Pipe tag written start × (start ≤ end) × InlineOrder written inside end × InlineOrder end after to

  -- siblings of which those inside of elements are spans already
  abbrev pub SiblingOrder : ℕ → Inline → ℕ → Type 0
  SiblingOrder from Nil to = from ≤ to
  SiblingOrder from (Single x after) to = (from ≤ x.start) × (x.start ≤ x.end) × Fills x.kind x.start x.end × SiblingOrder x.end after to
  SiblingOrder from (Around tag start end inside after) to =
      (written : ℕ) × (from ≤ written) × Begun Pipe tag written start × (start ≤ end) × InlineOrder written inside end × SiblingOrder end after to × IsLinkOrImage tag

  pub inline-up : (from : ℕ) (spans : Inline) (to : ℕ) → InlineOrder from spans to → from ≤ to
  inline-up from Nil to h = h
  inline-up from (Single x after) to h = let a = h.0 in let b = h.1 in let c = inline-up x.end after to h.2 in omega arith
  inline-up from (Around tag start end inside after) to h = let a = h.1 in let b = begun-up Pipe tag h.0 start h.2 in let c = h.3 in let d = inline-up end after to h.5 in omega arith

  pub inline-wide : (less from : ℕ) (spans : Inline) (to more : ℕ) → less ≤ from → to ≤ more → InlineOrder from spans to → InlineOrder less spans more
  inline-wide less from Nil to more a b h = let x : from ≤ to = h in omega arith
  inline-wide less from (Single x after) to more a b h = (let y = h.0 in omega arith, h.1, inline-wide x.end x.end after to more (omega arith) b h.2)
  inline-wide less from (Around tag start end inside after) to more a b h = (h.0, (let y = h.1 in omega arith), h.2, h.3, h.4, inline-wide end end after to more (omega arith) b h.5)

  inline_append : (from mid to : ℕ) (a b : Inline) → InlineOrder from a mid → InlineOrder mid b to → InlineOrder from (append a b) to
  inline_append from mid to Nil b h k = inline-wide from mid b to to h (omega arith) k
  inline_append from mid to (Single x after) b h k = (h.0, h.1, inline_append x.end mid to after b h.2 k)
  inline_append from mid to (Around tag start end inside after) b h k = (h.0, h.1, h.2, h.3, h.4, inline_append end mid to after b h.5 k)

  characters_order : (from : ℕ) (siblings : Inline) (to : ℕ) (cs : List ℕ) → SiblingOrder from siblings to → SiblingOrder from (with_characters siblings cs) to
  characters_order from Nil to cs h = h
  characters_order from (Around tag start end inside after) to cs h = (h.0, h.1, h.2, h.3, h.4, characters_order end after to cs h.5, h.6)
  characters_order from (Single x after) to cs h = search (rules, kind-view, quoted_then, other_then, characters_order x.end after to (drop 1 cs) h.3, characters_order x.end after to cs h.3)

  -- ## Gaps and bytes in turn

  abbrev Layout : ℕ → List Inline → List Item → ℕ → Type 0
  Layout from [] bytes to = ⊥
  Layout from (gap ∷ gaps) [] to = InlineOrder from gap to
  Layout from (gap ∷ gaps) (b ∷ bytes) to = InlineOrder from gap b.start × (b.start ≤ b.end) × Layout b.end gaps bytes to

  layout_put : (from mid : ℕ) (put : Inline → Inline) (gaps : List Inline) (bytes : List Item) (to : ℕ) → ((gap : Inline) (up : ℕ) → InlineOrder mid gap up → InlineOrder from (put gap) up)
      → Layout mid gaps bytes to → Layout from (put_gap put gaps) bytes to
  layout_put from mid put gaps bytes to f h = grind arith

  layout_lower : (from mid : ℕ) (gaps : List Inline) (bytes : List Item) (to : ℕ) → from ≤ mid → Layout mid gaps bytes to → Layout from gaps bytes to
  layout_lower from mid [] bytes to e h = absurd h
  layout_lower from mid (gap ∷ gaps) [] to e h = inline-wide from mid gap to to e (omega arith) h
  layout_lower from mid (gap ∷ gaps) (b ∷ bytes) to e h = (inline-wide from mid gap b.start b.start e (omega arith) h.0, h.1, h.2)

  layout_run : (from start size mid : ℕ) (gaps : List Inline) (bytes : List Item) (to : ℕ) → from ≤ start → start + size ≤ mid → Layout mid gaps bytes to
      → Layout from (no_gaps size gaps) (bytes_then start size bytes) to
  layout_run from start zero mid gaps bytes to e f h = layout_lower from mid gaps bytes to (omega arith) h
  layout_run from start (suc size) mid gaps bytes to e f h = (e, omega arith, layout_run (suc start) (suc start) size mid gaps bytes to (omega arith) (omega arith) h)

  layout : (from : ℕ) (siblings : Inline) (to : ℕ) → SiblingOrder from siblings to → Layout from (gaps_of siblings) (run_bytes siblings) to
  layout from Nil to h = h
  layout from (Around tag start end inside after) to h = layout_put from end (Around tag start end inside) (gaps_of after) (run_bytes after) to (λ gap up k. (h.0, h.1, h.2, h.3, h.4, k)) (layout end after to h.5)
  layout from (Single x after) to h = grind (arith, kind-view, layout_put, layout_run, layout x.end after to h.3)

  bytes_size : (start size : ℕ) (after : List Item) → length (bytes_then start size after) ≡ size + length after
  bytes_size start zero after = omega arith
  bytes_size start (suc size) after = let i = bytes_size (suc start) size after in omega arith

  runs_size : (siblings : Inline) (n : ℕ) → length (run_bytes siblings) ≡ places_taken (runs_from siblings n)
  runs_size Nil n = refl
  runs_size (Around tag start end inside after) n = runs_size after n
  runs_size (Single x after) n = go (λ m. runs_size after m) x.kind (kind-view x.kind)
    where
      go : ((m : ℕ) → length (run_bytes after) ≡ places_taken (runs_from after m)) → (kind : ItemKind) → KindView kind
          → length (run_bytes_then kind x.start (run_bytes after)) ≡ places_taken (run_then n kind (runs_from after))
      go i kind h = grind (arith, bytes_size)

  -- the end of the byte before the index, or `from`; and the start of the byte with the index, or `to`
  abbrev following : (from : ℕ) → List Item → ℕ → ℕ
  following from bytes zero = from
  following from [] (suc n) = from
  following from (b ∷ bytes) (suc n) = following b.end bytes n

  abbrev until : (to : ℕ) → List Item → ℕ → ℕ
  until to [] n = to
  until to (b ∷ bytes) zero = b.start
  until to (b ∷ bytes) (suc n) = until to bytes n

  until_end : (to : ℕ) (bytes : List Item) → until to bytes (length bytes) ≡ to
  until_end to [] = refl
  until_end to (b ∷ bytes) = until_end to bytes

  gap_order : (from : ℕ) (gaps : List Inline) (bytes : List Item) (to n : ℕ) → Layout from gaps bytes to → n ≤ length bytes → InlineOrder (following from bytes n) (get_or gaps n Nil) (until to bytes n)
  gap_order from [] bytes to n h k = absurd h
  gap_order from (gap ∷ gaps) [] to zero h k = h
  gap_order from (gap ∷ gaps) [] to (suc n) h k = absurd (omega arith)
  gap_order from (gap ∷ gaps) (b ∷ bytes) to zero h k = h.0
  gap_order from (gap ∷ gaps) (b ∷ bytes) to (suc n) h k = gap_order b.end gaps bytes to n h.2 (omega arith)

  -- a byte reaches from the offset before it to the offset after it
  record IsByte (from : ℕ) (bytes : List Item) (to n : ℕ) : Type 0 where
    pub start : (get_or bytes n no_item).start ≡ until to bytes n
    pub end : (get_or bytes n no_item).end ≡ following from bytes (suc n)
    pub order : until to bytes n ≤ following from bytes (suc n)

  byte_order : (from : ℕ) (gaps : List Inline) (bytes : List Item) (to n : ℕ) → Layout from gaps bytes to → n < length bytes → IsByte from bytes to n
  byte_order from [] bytes to n h k = absurd h
  byte_order from (gap ∷ gaps) [] to n h k = absurd (omega arith)
  byte_order from (gap ∷ gaps) (b ∷ bytes) to zero h k = record { start = refl; end = refl; order = h.1 }
  byte_order from (gap ∷ gaps) (b ∷ bytes) to (suc n) h k = let i = byte_order b.end gaps bytes to n h.2 (omega arith) in record { start = i.start; end = i.end; order = i.order }

  element_order : (tag : Option Tag) (low first last to : ℕ) (inner others : Inline) → low ≤ first → InlineOrder first inner last → InlineOrder last others to
      → InlineOrder low (element tag first last inner others) to
  element_order (Some tag) low first last to inner others e h k = (first, e, inl refl, inline-up first inner last h, h, k)
  element_order None low first last to inner others e h k = (e, inline-up first inner last h, k)

  module _ (from : ℕ) (gaps : List Inline) (bytes : List Item) (to : ℕ) (h : Layout from gaps bytes to) where
    next : (n : ℕ) → n < length bytes → following from bytes n ≤ following from bytes (suc n)
    next n k =
        let g = inline-up (following from bytes n) (get_or gaps n Nil) (until to bytes n) (gap_order from gaps bytes to n h (omega arith)) in
        let b = (byte_order from gaps bytes to n h k).order in
        omega arith

    later : (n k : ℕ) → n + k ≤ length bytes → following from bytes n ≤ following from bytes (n + k)
    later n zero w = let e : following from bytes (n + 0) ≡ following from bytes n = ap (following from bytes) (let f : n + 0 ≡ n = omega arith in f) in omega arith
    later n (suc k) w =
        let i = later n k (omega arith) in
        let j = next (n + k) (omega arith) in
        let e : following from bytes (n + suc k) ≡ following from bytes (suc (n + k)) = ap (following from bytes) (let f : n + suc k ≡ suc (n + k) = omega arith in f) in
        omega arith

    module _ (options : Options) where
      dressed_order : (f : Spans) (n m : ℕ) → TakePlaces n f m → m ≤ length bytes → InlineOrder (until to bytes n) (dressed options gaps bytes f) (until to bytes m)
      dressed_order spans.Nil n m t w = let e : until to bytes n ≡ until to bytes m = ap (until to bytes) t in omega arith
      dressed_order (spans.Single at after) n m t w =
          let up = takes-up after (suc n) m t.1 in
          let b = byte_order from gaps bytes to n h (omega arith) in
          let s = b.start in let e = b.end in let o = b.order in
          let g = gap_order from gaps bytes to (suc n) h (omega arith) in
          let i = dressed_order after (suc n) m t.1 w in
          let first = inline-wide (get_or bytes n no_item).end (following from bytes (suc n)) (get_or gaps (suc n) Nil) (until to bytes (suc n)) (until to bytes (suc n)) (omega arith) (omega arith) g in
          subst (λ k. InlineOrder (until to bytes n) (Single (get_or bytes k no_item) (append (get_or gaps (suc k) Nil) (dressed options gaps bytes after))) (until to bytes m)) (sym t.0)
          (omega arith, omega arith, inline_append (get_or bytes n no_item).end (until to bytes (suc n)) (until to bytes m) (get_or gaps (suc n) Nil) (dressed options gaps bytes after) first i)
      dressed_order (spans.Around span inside after) n m t w =
          let width = span_width span.kind in
          let some = width-some span.kind in
          let up = takes-up inside (n + width) t.mid t.inside in
          let on = takes-up after span.end m t.after in
          let ends = t.end in
          let first = byte_order from gaps bytes to n h (omega arith) in
          let last = byte_order from gaps bytes to (span.end - 1) h (omega arith) in
          let middle = byte_order from gaps bytes to t.mid h (omega arith) in
          let fs = first.start in let fo = first.order in let le = last.end in let mo = middle.order in
          let e1 : following from bytes (suc n + (width - 1)) ≡ following from bytes (n + width) = ap (following from bytes) (let f : suc n + (width - 1) ≡ n + width = omega arith in f) in
          let e2 : following from bytes (suc t.mid + (width - 1)) ≡ following from bytes span.end = ap (following from bytes) (let f : suc t.mid + (width - 1) ≡ span.end = omega arith in f) in
          let e3 : following from bytes (suc (span.end - 1)) ≡ following from bytes span.end = ap (following from bytes) (let f : suc (span.end - 1) ≡ span.end = omega arith in f) in
          let l1 = later (suc n) (width - 1) (omega arith) in
          let l2 = later (suc t.mid) (width - 1) (omega arith) in
          let inner =
          inline_append (get_or bytes n no_item).start (until to bytes (n + width)) (until to bytes t.mid) (get_or gaps (n + width) Nil) (dressed options gaps bytes inside)
          (inline-wide (get_or bytes n no_item).start (following from bytes (n + width)) (get_or gaps (n + width) Nil) (until to bytes (n + width)) (until to bytes (n + width)) (omega arith) (omega arith)
          (gap_order from gaps bytes to (n + width) h (omega arith)))
          (dressed_order inside (n + width) t.mid t.inside (omega arith)) in
          let others =
          inline_append (get_or bytes (span.end - 1) no_item).end (until to bytes span.end) (until to bytes m) (get_or gaps span.end Nil) (dressed options gaps bytes after)
          (inline-wide (get_or bytes (span.end - 1) no_item).end (following from bytes span.end) (get_or gaps span.end Nil) (until to bytes span.end) (until to bytes span.end) (omega arith) (omega arith)
          (gap_order from gaps bytes to span.end h (omega arith)))
          (dressed_order after span.end m t.after w) in
          subst (λ k. InlineOrder (until to bytes n) (element (span_tag options span.kind) (get_or bytes k no_item).start (get_or bytes (span.end - 1) no_item).end
          (append (get_or gaps (k + width) Nil) (dressed options gaps bytes inside)) (append (get_or gaps span.end Nil) (dressed options gaps bytes after))) (until to bytes m)) (sym t.start)
          (element_order (span_tag options span.kind) (until to bytes n) (get_or bytes n no_item).start (get_or bytes (span.end - 1) no_item).end (until to bytes m)
          (append (get_or gaps (n + width) Nil) (dressed options gaps bytes inside)) (append (get_or gaps span.end Nil) (dressed options gaps bytes after)) (omega arith)
          (inline-wide (get_or bytes n no_item).start (get_or bytes n no_item).start (append (get_or gaps (n + width) Nil) (dressed options gaps bytes inside)) (until to bytes t.mid)
          (get_or bytes (span.end - 1) no_item).end (omega arith) (omega arith) inner) others)

  pub dress-order : (options : Options) (from : ℕ) (siblings : Inline) (to : ℕ) → SiblingOrder from siblings to → InlineOrder from (dress options siblings) to
  dress-order options from siblings to h =
      let quoted = with_quotes siblings in
      let gaps = gaps_of quoted in
      let bytes = run_bytes quoted in
      let n = places_taken (runs_from quoted 0) in
      let f = spans_of (runs_from quoted 0) in
      let lay = layout from quoted to (characters_order from siblings to (quote_characters [] (quotes_of siblings)) h) in
      let size = runs_size quoted 0 in
      let last : until to bytes n ≡ to = ap (until to bytes) (sym size) ∙ until_end to bytes in
      inline_append from (until to bytes 0) to (get_or gaps 0 Nil) (dressed options gaps bytes f) (gap_order from gaps bytes to 0 lay (omega arith))
      (subst (λ k. InlineOrder (until to bytes 0) (dressed options gaps bytes f) k) last
      (dressed_order from gaps bytes to lay options f 0 n (places (runs_from quoted 0) (runs-stand quoted 0)) (omega arith)))
