-- If the source is UTF-8 and the stretches of a leaf begin and end at character boundaries, so do its tokens.
use Rattle.std.specs.Prelude.{suc, zero, ◌-◌, ◌==◌, ◌||◌, ◌&&◌, max, if◌then◌else◌, is_none, get_or, drop, take, IsUtf8}
use Rattle.std.specs.Str.{IsCharBoundary}
use Rattle.std.proofs.Common.{◌≡◌, ◌⊎◌, inl, inr, ◌<◌, ◌≤◌, ◌+◌, ℕ, Bool, true, false, List, [], ◌∷◌, length, Option, Some, None, refl, sym, ap, ◌∙◌, subst, arith, length-drop, drop-drop, eqb-true, rules}
use Rattle.std.proofs.lemmas.Bool.{ltb-true, ltb-false}
use Rattle.std.proofs.lemmas.List.{get_or-drop, length-take}
use Rattle.std.proofs.lemmas.Str.{IsCharBoundary-after_ascii, IsCharBoundary-before_ascii, IsCharBoundary-end, IsCharBoundary-start, IsUtf8-append, IsUtf8-between, IsUtf8-nil}
use Rattle.cmark_grammar.specs.Autolinks.{autolink_in}
use Rattle.cmark_grammar.specs.InlineHtml.{after_markup, takes_lines}
use Rattle.cmark_grammar.specs.InlineTokens.{item_at, from, place_of, read_on, size_to, source_from, autolink_or, markup_or, tag_or_text, less_than, begins, begins_at, longest, token}
use Rattle.cmark_grammar.specs.Items.{ItemKind, Plain, Delimiters, Autolink, Html, OwnedHtml, Bracket, Token, Stands, Opens, Closes, Ends}
use Rattle.cmark_grammar.specs.LeafText.{Stretch, Leaf, InTurn, bytes_from, end_of, place_with, size_of}
use Rattle.cmark_grammar.specs.Letters.{first_is}
use Rattle.cmark_grammar.specs.Lines.{is_content}
use Rattle.cmark_grammar.specs.LinkDefinitions.{Parsed}
use Rattle.cmark_grammar.specs.Readers.{Reader}
use Rattle.cmark_grammar.specs.Tags.{after_tag, no_prefix}
use Rattle.cmark_grammar.specs.Tokens.{slice}
use Rattle.cmark_inline_model.specs.PlacedLeaves.{IsPlaced}
use Rattle.cmark_inline_model.specs.PlacedTokens.{AreLeafPlaces, IsParted, may_open_markup, one_stretch, placed, text_reader}
use Rattle.cmark_inline_model.specs.TextPlaces.{place_in, text_of}
use Rattle.cmark_inline_model.proofs.FindRests.{IsAfter, tag-following}
use Rattle.cmark_inline_model.proofs.LeafPlaces.{by_size}
use Rattle.cmark_inline_model.proofs.LinkRests.{LeavesAfter, markup-following}
use Rattle.cmark_inline_model.proofs.PlacedTokens.{from-place, read-on}
use Rattle.cmark_inline_model.proofs.PlainTokens.{NotPlain, markup-not, token-at}
use Rattle.cmark_inline_model.proofs.TextEdges as texts
use Rattle.cmark_inline_model.proofs.WordBytes.{IsWord, and-left, and-right, or-either}

-- both ends of each stretch are such places
abbrev pub AreEdges : (source : List ℕ) → List Stretch → Type 0
AreEdges source [] = Unit {0}
AreEdges source (s ∷ more) = IsCharBoundary source s.start × IsCharBoundary source s.end × AreEdges source more

le_or : (a b : ℕ) → (a ≤ b) ⊎ (b < a)
le_or a b = grind (arith, ltb-true, ltb-false)

-- a byte that ends a line is ASCII
ends-low : (b : ℕ) → is_content b ≡ false → b < 128
ends-low b c = grind (arith, eqb-true)

stretches-utf8 : (source : List ℕ) (from : ℕ) (stretches : List Stretch) (size : ℕ) → IsUtf8 source → InTurn from stretches size → AreEdges source stretches → IsUtf8 (bytes_from source stretches 0)
stretches-utf8 source from [] size utf8 t e = IsUtf8-nil
stretches-utf8 source from (s ∷ more) size utf8 t e =
    let zero-max : max 0 s.start ≡ s.start = omega arith in
    IsUtf8-append (slice source (max 0 s.start) s.end) (bytes_from source more 0) (subst (λ n. IsUtf8 (slice source n s.end)) (sym zero-max) (IsUtf8-between source s.start s.end utf8 t.1 e.0 e.1)) (stretches-utf8 source s.end more size utf8 t.2 e.2)

end-edge : (source : List ℕ) (stretches : List Stretch) → IsUtf8 source → AreEdges source stretches → IsCharBoundary source (end_of stretches)
end-edge source [] utf8 e = IsCharBoundary-start source utf8
end-edge source (s ∷ []) utf8 e = subst (IsCharBoundary source) (let q : s.end ≡ s.end - 0 = omega arith in q) e.1
end-edge source (s ∷ (t ∷ more)) utf8 e = go (end-edge source (t ∷ more) utf8 e.2)
  where
    go : IsCharBoundary source (end_of (t ∷ more)) → IsCharBoundary source (end_of (s ∷ (t ∷ more)))
    go i = by_size (IsCharBoundary source) (size_of (t ∷ more)) 0 (s.end - (0 - size_of (t ∷ more))) (place_with 0 (t ∷ more)) (λ lt. absurd (omega arith)) (λ le. i)

module _ (reader : Reader) (leaf : Leaf) (at : IsPlaced reader leaf) (utf8 : IsUtf8 reader.source) (edges : AreEdges reader.source leaf.stretches) where
  abbrev pub text : List ℕ
  text = text_of reader leaf

  abbrev place : ℕ → ℕ
  place = place_in reader leaf

  abbrev h : AreLeafPlaces reader leaf text place
  h = at.places

  abbrev one : Reader
  one = text_reader reader.options reader.lookup text

  abbrev alone : Leaf
  alone = one_stretch leaf.is_cell text

  pub whole-text : IsUtf8 text
  whole-text = stretches-utf8 reader.source 0 leaf.stretches (length reader.source) utf8 at.turn edges

  -- a character of the source begins there, or it ends
  abbrev pub Edge : ℕ → Type 0
  Edge p = IsCharBoundary reader.source p

  abbrev pub TextEdge : ℕ → Type 0
  TextEdge k = IsCharBoundary text k

  abbrev pub Ascii : ℕ → Type 0
  Ascii i = (i < length reader.source) × (get_or reader.source i 0 < 128)

  pub at-ascii : (i : ℕ) → Ascii i → Edge i
  at-ascii i a = IsCharBoundary-before_ascii reader.source i a.0 a.1

  pub following-ascii : (i : ℕ) → Ascii i → Edge (suc i)
  following-ascii i a = subst Edge (let e : i + 1 ≡ suc i = omega arith in e) (IsCharBoundary-after_ascii reader.source i utf8 a.0 a.1)

  -- the place of a byte of the text with which a character begins, or of its end
  pub record At (p : ℕ) : Type 0 where
    pub k : ℕ
    pub within : k ≤ length text
    pub edge : IsCharBoundary text k
    pub is : p ≡ place k

  ascii-there : (k : ℕ) → k < length text → get_or text k 0 < 128 → Ascii (place k)
  ascii-there k lt a = (h.inside k lt, subst (λ c. c < 128) (sym (h.bytes k lt)) a)

  place-edge : (k : ℕ) → TextEdge k → Edge (place k)
  place-edge k e = go (le_or (length text) k)
    where
      go : (length text ≤ k) ⊎ (k < length text) → Edge (place k)
      go (inl le) = subst (λ j. Edge (place j)) (let w = e.0 in let q : length text ≡ k = omega arith in q) last
        where
          last : Edge (place (length text))
          last = subst Edge (ap (λ n. place_with n leaf.stretches) (let d = length-drop (length text) text in let q : 0 ≡ length (drop (length text) text) = omega arith in q)) (end-edge reader.source leaf.stretches utf8 edges)
      go (inr lt) = search rules

  pub at-edge : (p : ℕ) → At p → Edge p
  at-edge p a = subst Edge (sym a.is) (place-edge a.k a.edge)

  -- after the last byte of an item
  end-place : (e : ℕ) → 0 < e → TextEdge e → Edge (suc (place (e - 1)))
  end-place e some edge = go (is_content (get_or text (e - 1) 0)) refl
    where
      lt : e - 1 < length text
      lt = let w = edge.0 in omega arith

      go : (z : Bool) → is_content (get_or text (e - 1) 0) ≡ z → Edge (suc (place (e - 1)))
      go true c =
          let n = h.places.next (e - 1) lt c in
          subst Edge (ap place (let q : e ≡ suc (e - 1) = omega arith in q) ∙ n) (place-edge e edge)
      go false c = following-ascii (place (e - 1)) (ascii-there (e - 1) lt (ends-low (get_or text (e - 1) 0) c))

  -- ## After markup that is searched in the source

  record Cut (x n : ℕ) : Type 0 where
    count : ℕ
    within : count ≤ n
    earlier : (k : ℕ) → k < count → place k < x
    later : (k : ℕ) → count ≤ k → k < n → x ≤ place k

  cut-up-to : (x n : ℕ) → n ≤ length text → Cut x n
  cut-up-to x zero le = record { count = 0; within = omega arith; earlier = λ k lt. absurd (omega arith); later = λ k a b. absurd (omega arith) }
  cut-up-to x (suc n) le = go (cut-up-to x n (omega arith))
    where
      go : Cut x n → Cut x (suc n)
      go c = by (le_or n c.count)
        where
          same : (j k : ℕ) → j ≡ k → place k < x → place j < x
          same j k e = subst (λ i. place i < x) (sym e)

          by : (n ≤ c.count) ⊎ (c.count < n) → Cut x (suc n)
          by (inl all) = step (le_or x (place n))
            where
              full : c.count ≡ n
              full = let w = c.within in omega arith

              step : (x ≤ place n) ⊎ (place n < x) → Cut x (suc n)
              step (inl following) = record {
                count = n;
                within = omega arith;
                earlier = λ k lt. c.earlier k (omega (arith, full, lt));
                later = λ k a b. subst (λ i. x ≤ place i) (let q : n ≡ k = omega arith in q) following;
              }
              step (inr before) = record { count = suc n; within = omega arith; earlier = λ k lt. one-more k lt (le_or n k); later = λ k a b. absurd (omega arith) }
                where
                  one-more : (k : ℕ) → k < suc n → (n ≤ k) ⊎ (k < n) → place k < x
                  one-more k lt (inl e) = same k n (let q : k ≡ n = omega arith in q) before
                  one-more k lt (inr e) = c.earlier k (omega (arith, full, e))
          by (inr some) = record { count = c.count; within = let w = c.within in omega arith; earlier = c.earlier; later = λ k a b. more k a b (le_or n k) }
            where
              more : (k : ℕ) → c.count ≤ k → k < suc n → (n ≤ k) ⊎ (k < n) → x ≤ place k
              more k a b (inl e) =
                  let l = c.later c.count (omega arith) some in
                  let o = h.places.order c.count n some (omega arith) in
                  subst (λ i. x ≤ place i) (let q : n ≡ k = omega arith in q) (omega arith)
              more k a b (inr e) = c.later k a e

  -- the bytes of the text before a character boundary of the source end with a character
  counted-edge : (x : ℕ) → Edge x → (count : ℕ) → IsParted (length text) place x count → TextEdge count
  counted-edge x edge count p = go (le_or (length text) count)
    where
      go : (length text ≤ count) ⊎ (count < length text) → TextEdge count
      go (inl le) = subst TextEdge (let w = p.within in let q : length text ≡ count = omega arith in q) (IsCharBoundary-end text)
      go (inr lt) = by (le_or (place count) x)
        where
          first : (c : ℕ) → count ≡ c → x < place count → TextEdge count
          first zero e less = subst TextEdge (sym e) (IsCharBoundary-start text whole-text)
          first (suc c) e less = kind (is_content (get_or text c 0)) refl
            where
              kind : (z : Bool) → is_content (get_or text c 0) ≡ z → TextEdge count
              kind true q =
                  let n = h.places.next c (omega arith) q in
                  let s = ap place e in
                  absurd (let d : ⊥ = omega arith in d)
              kind false q = subst TextEdge (sym e) (texts.following-ascii reader.options reader.lookup leaf.is_cell text whole-text c (omega arith, ends-low (get_or text c 0) q))

          by : (place count ≤ x) ⊎ (x < place count) → TextEdge count
          by (inl le) =
              let here : place count ≡ x = omega arith in
              let e = subst Edge (sym here) edge in
              let same = h.bytes count lt in
              let i = h.inside count lt in
              (omega arith, λ inside high. subst (λ c. 192 ≤ c) same (e.1 i (subst (λ c. 128 ≤ c) (sym same) high)))
          by (inr less) = first count refl less

  read-on-at : (x : ℕ) → Edge x → At (read_on reader leaf x)
  read-on-at x edge =
      let c = cut-up-to x (length text) (omega arith) in
      let p : IsParted (length text) place x c.count = record { within = c.within; earlier = c.earlier; later = c.later } in
      let e = texts.read-on-edge reader.options reader.lookup leaf.is_cell text whole-text c.count (counted-edge x edge c.count p) in
      record { k = read_on one alone c.count; within = e.0; edge = e; is = read-on reader leaf text place h x c.count p }

  -- ## Tokens

  -- the bytes of a run are ASCII, and so are the first and the last byte of an autolink
  abbrev pub Bytes : ItemKind → (start end : ℕ) → Type 0
  Bytes (Delimiters run) start end = (i : ℕ) → start ≤ i → i < end → Ascii i
  Bytes (Autolink uri) start end = Ascii start × Ascii (end - 1)
  Bytes _ start end = Unit {0}

  -- an opening bracket
  pub record Good (b : Bracket) : Type 0 where
    pub starts : Edge b.start
    pub ends : Edge b.end
    pub first : Edge (suc b.start)
    pub short : b.is_image ≡ false → b.end ≡ suc b.start

  abbrev pub Whole : Token → Type 0
  Whole (Stands x resume) = Edge x.start × Edge x.end × At resume × Bytes x.kind x.start x.end
  Whole (Opens o) = Good o × At o.end
  Whole (Closes c) = Edge c.start × Edge c.end × At c.end
  Whole Ends = Unit {0}

  abbrev TextWhole : Token → Type 0
  TextWhole t = texts.Whole reader.options reader.lookup leaf.is_cell text whole-text t

  abbrev TextWord : ℕ → Type 0
  TextWord k = (k < length text) × IsWord (get_or text k 0)

  -- words are without a gap in the source
  words-place : (start n : ℕ) → ((i : ℕ) → start ≤ i → i < start + n → TextWord i) → place (start + n) ≡ place start + n
  words-place start zero w = ap place (let q : start + 0 ≡ start = omega arith in q) ∙ (let q : place start ≡ place start + 0 = omega arith in q)
  words-place start (suc n) w =
      let i = words-place start n (λ j a b. w j a (omega arith)) in
      let l = w (start + n) (omega arith) (omega arith) in
      let s = h.places.next (start + n) l.0 l.1.content in
      ap place (let q : start + suc n ≡ suc (start + n) = omega arith in q) ∙ s ∙ ap suc i ∙ (let q : suc (place start + n) ≡ place start + suc n = omega arith in q)

  -- the bytes of an item that are words, in the source
  words-there : (start end : ℕ) → 0 < end → end ≤ length text → start ≤ length text → ((i : ℕ) → start ≤ i → i < end → TextWord i) → (i : ℕ) → place start ≤ i → i < suc (place (end - 1)) → Ascii i
  words-there start end some within low w i a b = go (le_or end start)
    where
      go : (end ≤ start) ⊎ (start < end) → Ascii i
      go (inl none) =
          let o = h.places.order (end - 1) start (omega arith) low in
          absurd (let d : ⊥ = omega arith in d)
      go (inr lt) =
          let n = (end - 1) - start in
          let last : start + n ≡ end - 1 = omega arith in
          let p : place (end - 1) ≡ place start + n = ap place (sym last) ∙ words-place start n (λ j x y. w j x (omega arith)) in
          let m = i - place start in
          let there : place (start + m) ≡ place start + m = words-place start m (λ j x y. w j x (omega arith)) in
          let l = w (start + m) (omega arith) (omega arith) in
          subst Ascii (there ∙ (let q : place start + m ≡ i = omega arith in q)) (ascii-there (start + m) l.0 l.1.ascii)

  placed-whole : (t : Token) → TextWhole t → Whole (placed place t)
  placed-whole Ends w = tt
  placed-whole (Opens o) w = grind (arith, place-edge, following-ascii, ascii-there)
  placed-whole (Closes c) w = (place-edge c.start w.0, place-edge c.end w.1, record { k = c.end; within = w.1.0; edge = w.1; is = refl })
  placed-whole (Stands x resume) w =
      (place-edge x.start w.0, end-place x.end w.1 w.2, record { k = resume; within = w.3.0; edge = w.3; is = refl }, bytes x.kind w.4)
    where
      bytes : (kind : ItemKind) → texts.Bytes reader.options reader.lookup leaf.is_cell text whole-text kind x.start x.end → Bytes kind (place x.start) (suc (place (x.end - 1)))
      bytes (Delimiters run) b = words-there x.start x.end w.1 w.2.0 w.0.0 b
      bytes (Autolink uri) b = (ascii-there x.start b.0.0 b.0.1, subst Ascii (let q : place (x.end - 1) ≡ suc (place (x.end - 1)) - 1 = omega arith in q) (ascii-there (x.end - 1) b.1.0 b.1.1))
      bytes _ b = tt

  -- ## Where markup may open that is searched in the source

  module _ (k : ℕ) (within : k ≤ length text) (edge : TextEdge k) (bs : List ℕ) (here : drop k text ≡ 60 ∷ bs) where
    there : from reader leaf (place k) ≡ 60 ∷ bs
    there = from-place reader leaf text place h k within ∙ here

    byte : get_or text k 0 ≡ 60
    byte = ap (λ j. get_or text j 0) (let q : k ≡ k + 0 = omega arith in q) ∙ sym (get_or-drop k text 0 0) ∙ ap (λ l. get_or l 0 0) here

    inside-text : k < length text
    inside-text = let d = length-drop k text in let n = ap length here in omega arith

    text-ascii : (i : ℕ) → i < length (60 ∷ bs) → get_or (60 ∷ bs) i 0 < 128 → (k + i < length text) × (get_or text (k + i) 0 < 128)
    text-ascii i lt a =
        let d = length-drop k text in let n = ap length here in
        (omega arith, subst (λ c. c < 128) (sym (sym (get_or-drop k text i 0) ∙ ap (λ l. get_or l i 0) here)) a)

    start : Edge (place k)
    start = place-edge k edge

    second : At (suc (place k))
    second =
        let n = h.places.next k inside-text (ap is_content byte) in
        record { k = suc k; within = inside-text; edge = texts.following-ascii reader.options reader.lookup leaf.is_cell text whole-text k (inside-text, (let e = byte in omega arith)); is = sym n }

    -- after a byte of the text
    rest-at : (rest : List ℕ) → IsAfter (60 ∷ bs) rest → At (place_of reader leaf rest)
    rest-at rest b =
        let i = b.inside in
        let a = text-ascii b.place i b.ascii in
        let rest_is : rest ≡ drop (k + suc b.place) text = b.rest ∙ ap (drop (suc b.place)) (sym here) ∙ drop-drop (suc b.place) k text in
        let w : suc (k + b.place) ≡ k + suc b.place = omega arith in
        record {
          k = k + suc b.place;
          within = (let f = a.0 in omega arith);
          edge = subst TextEdge w (texts.following-ascii reader.options reader.lookup leaf.is_cell text whole-text (k + b.place) a);
          is = ap (place_of reader leaf) rest_is;
        }

    tag-whole : (found : Option (List ℕ)) → ((rest : List ℕ) → found ≡ Some rest → IsAfter (60 ∷ bs) rest) → Whole (tag_or_text reader leaf (place k) found)
    tag-whole None b = (start, at-edge (suc (place k)) second, second, tt)
    tag-whole (Some rest) b = kind (takes_lines (take (size_to reader leaf (place k) rest) (from reader leaf (place k))))
      where
        a : At (place_of reader leaf rest)
        a = rest-at rest (b rest refl)

        kind : (x : Bool) → Whole (item_at (if x then OwnedHtml (take (size_to reader leaf (place k) rest) (from reader leaf (place k))) else Html) (place k) (place_of reader leaf rest))
        kind true = (start, at-edge (place_of reader leaf rest) a, a, tt)
        kind false = (start, at-edge (place_of reader leaf rest) a, a, tt)

    markup-whole : (found : Option (List ℕ)) (other : Token) → LeavesAfter (source_from reader leaf (place k)) found → Whole other → Whole (markup_or reader leaf (place k) found other)
    markup-whole None other b w = w
    markup-whole (Some rest) other b w = (start, ends, read-on-at end ends, tt)
      where
        source : List ℕ
        source = source_from reader leaf (place k)

        end : ℕ
        end = place k + (length source - length rest)

        ends : Edge end
        ends =
            let i = b.inside in
            let r = ap length b.rest in
            let d = length-drop (suc b.place) source in
            let c = cut-slice reader.source (place k) (end_of leaf.stretches) b.place i in
            let size : suc (place k + b.place) ≡ end = omega (arith, i, r, d) in
            subst Edge size (following-ascii (place k + b.place) (c.0, subst (λ x. x < 128) c.1 b.ascii))
          where
            cut-slice : (l : List ℕ) (from to i : ℕ) → i < length (slice l from to) → (from + i < length l) × (get_or (slice l from to) i 0 ≡ get_or l (from + i) 0)
            cut-slice l from to i lt =
                let t = length-take (to - from) (drop from l) in
                let d = length-drop from l in
                (omega arith, take-get (to - from) i (drop from l) (omega arith) ∙ get_or-drop from l i 0)
              where
                take-get : (n i : ℕ) (l : List ℕ) → i < n → get_or (take n l) i 0 ≡ get_or l i 0
                take-get zero i l h = absurd (omega arith)
                take-get (suc n) i [] h = refl
                take-get (suc n) zero (b ∷ l) h = refl
                take-get (suc n) (suc i) (b ∷ l) h = take-get n i l (omega arith)

    less_than-whole : autolink_in reader.options.email_autolinks bs ≡ None → first_is (λ c. (c == 33) || (c == 63)) bs ≡ true → Whole (less_than reader leaf (place k) bs)
    less_than-whole link opens =
        let tag = tag_or_text reader leaf (place k) (after_tag no_prefix (from reader leaf (place k))) in
        let others = markup_or reader leaf (place k) (after_markup (source_from reader leaf (place k))) tag in
        subst (λ z. Whole (if z then item_at Plain (place k) (suc (place k)) else autolink_or reader leaf (place k) (autolink_in reader.options.email_autolinks bs) others)) (sym (slash bs opens))
        (subst (λ o. Whole (autolink_or reader leaf (place k) o others)) (sym link)
        (markup-whole (after_markup (source_from reader leaf (place k))) tag (markup-following (source_from reader leaf (place k)))
        (tag-whole (after_tag no_prefix (from reader leaf (place k))) (λ rest f. tag-following (60 ∷ bs) rest (ap (after_tag no_prefix) (sym there) ∙ f)))))
      where
        slash : (l : List ℕ) → first_is (λ c. (c == 33) || (c == 63)) l ≡ true → first_is (λ c. c == 92) l ≡ false
        slash [] e = cc
        slash (c ∷ l) e = grind (arith, or-either, eqb-true)

  -- ## All tokens

  is-none : (found : Option Parsed) → is_none found ≡ true → found ≡ None
  is-none None e = refl
  is-none (Some f) e = cc

  -- a token other than a longer text is the one that begins there
  stays-token : (q : ℕ) → NotPlain reader leaf (begins_at reader leaf q) → Whole (begins_at reader leaf q) → Whole (token reader leaf q)
  unfolding token
  stays-token q n w = go (begins_at reader leaf q) n w
    where
      go : (t : Token) → NotPlain reader leaf t → Whole t → Whole (longest reader leaf t)
      go t n w = grind arith

  markup-token : (k : ℕ) → k ≤ length text → TextEdge k → (l : List ℕ) → drop k text ≡ l → may_open_markup reader.options.email_autolinks l ≡ true → Whole (token reader leaf (place k))
  markup-token k within edge [] e m = cc
  markup-token k within edge (b ∷ bs) e m =
      let none = is_none (autolink_in reader.options.email_autolinks bs) in
      let second = first_is (λ c. (c == 33) || (c == 63)) bs in
      let is : b ≡ 60 = eqb-true b 60 (and-left (b == 60) (none && second) m) in
      let both = and-right (b == 60) (none && second) m in
      let here : drop k text ≡ 60 ∷ bs = e ∙ ap (λ c. c ∷ bs) is in
      let f : from reader leaf (place k) ≡ 60 ∷ bs = from-place reader leaf text place h k within ∙ here in
      let not-plain : NotPlain reader leaf (begins_at reader leaf (place k)) = subst (λ l. NotPlain reader leaf (begins reader leaf (place k) l)) (sym f) (markup-not reader leaf (place k) (60 ∷ bs) both) in
      stays-token (place k) not-plain (subst (λ l. Whole (begins reader leaf (place k) l)) (sym f) (less_than-whole k within edge bs here (is-none (autolink_in reader.options.email_autolinks bs) (and-left none second both)) (and-right none second both)))

  pub token-whole : (p : ℕ) → At p → Whole (token reader leaf p)
  token-whole p a = subst (λ q. Whole (token reader leaf q)) (sym a.is) (go (may_open_markup reader.options.email_autolinks (drop a.k text)) refl)
    where
      go : (z : Bool) → may_open_markup reader.options.email_autolinks (drop a.k text) ≡ z → Whole (token reader leaf (place a.k))
      go false e =
          subst Whole (sym (token-at reader leaf text place h a.k a.within e)) (placed-whole (token one alone a.k) (texts.token-whole reader.options reader.lookup leaf.is_cell text whole-text a.k a.edge))
      go true e = markup-token a.k a.within a.edge (drop a.k text) refl e
