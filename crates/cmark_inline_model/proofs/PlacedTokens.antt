-- The token at an offset of a leaf is the token of its text, with offsets of the source.
use Rattle.std.specs.Prelude.{suc, zero, ◌-◌, ◌==◌, ◌&&◌, ◌||◌, not, nat_lt, if◌then◌else◌, get_or, drop, take, codes, chars, reverse, min}
use Rattle.std.specs.List.{prefix_len}
use Rattle.std.proofs.Common.{◌≡◌, ◌⊎◌, inl, inr, ⊎_elim, ◌<◌, ◌≤◌, ◌+◌, ℕ, Bool, true, false, List, [], ◌∷◌, length, Option, Some, None, refl, sym, ap, ◌∙◌, subst, arith, length-drop, drop-drop, eqb-true, true≢false, rules}
use Rattle.std.proofs.Math.Seq.{drop-cons, take-length}
use Rattle.std.proofs.lemmas.Bool.{ltb-true, ltb-false, eq-eqb, false_from_ne_true, or_parts}
use Rattle.std.proofs.lemmas.List.{append-nil, length-take, get_or-drop}
use Rattle.std.proofs.lemmas.Slice.Eq.{bytes_eq-Decides}
use Rattle.cmark_grammar.specs.Autolinks.{autolink_in}
use Rattle.cmark_grammar.specs.CodeSpans.{is_backtick, backticks, code_in, code_text}
use Rattle.cmark_grammar.specs.Columns.{is_blank_byte}
use Rattle.cmark_grammar.specs.Dashes.{dashes_of, dash_text}
use Rattle.cmark_grammar.specs.Flanking.{Flanking, flanking, is_run_delimiter}
use Rattle.cmark_grammar.specs.Formulas.{is_dollar, no_braces, braces_after, inline_in, display_in}
use Rattle.cmark_grammar.specs.InlineHtml.{after_markup}
use Rattle.cmark_grammar.specs.InlineTokens.{item_at, bracket, as_in, first_of, from, before, place_of, size_to, character_before, character_at, line_begins, read_on, break_to, break_or, code_or, escaped_backtick, escape_at, entity_or, autolink_or, tag_kind, tag_or_text, source_from, markup_or, less_than, run_or, run_at, formula_or, dollar, dots, hyphens, quote_at, smart_or, begins, begins_at}
use Rattle.cmark_grammar.specs.Items.{ItemKind, Plain, Own, Written, Code, InlineMath, DisplayMath, Autolink, Quoted, SoftBreak, HardBreak, Token, Stands, Opens, Closes}
use Rattle.cmark_grammar.specs.LabelsOverLines.{piped}
use Rattle.cmark_grammar.specs.LeafText.{Leaf, end_of}
use Rattle.cmark_grammar.specs.Letters.{first_is, starts}
use Rattle.cmark_grammar.specs.LineBreaks.{LineBreak, backslash_break_in, blank_break_in}
use Rattle.cmark_grammar.specs.Lines.{is_content}
use Rattle.cmark_grammar.specs.LinkDefinitions.{Parsed, after_leading_blanks}
use Rattle.cmark_grammar.specs.Quotes.{quote_beside}
use Rattle.cmark_grammar.specs.Readers.{Reader}
use Rattle.cmark_grammar.specs.Tags.{after_tag, no_prefix}
use Rattle.cmark_grammar.specs.Tokens.{Entity, entity_in, is_punctuation, slice}
use Rattle.cmark_block_model.proofs.RowEdges.{Front, front-less}
use Rattle.cmark_inline_model.specs.PlacedTokens.{IsParted, AreLeafPlaces, one_stretch, text_reader, placed, may_open_markup}
use Rattle.cmark_inline_model.proofs.BreakRests.{BreakTaken, blank-taken, backslash-taken}
use Rattle.cmark_inline_model.proofs.FindRests.{IsAfter, ParsedAfter, following-rest, code-following, inline-following, display-following, autolink-following, tag-following}
use Rattle.cmark_inline_model.proofs.WordBytes.{IsWord, and-right, word-is, punctuation-word, front-map, Leads, prefix-leads, starts-leads, first-leads, leads-cons, EntityLeads, entity-leads}

abbrev pub Content : ℕ → Type 0
Content b = is_content b ≡ true

pub content-leads : (n : ℕ) (l : List ℕ) → Leads IsWord n l → Leads Content n l
content-leads n l h = record { front = front-map IsWord Content (λ b w. w.content) n l h.front; fits = h.fits }

le_or : (a b : ℕ) → (a ≤ b) ⊎ (b < a)
le_or a b = grind (arith, ltb-true, ltb-false)

-- a blank ends no line, and a line ending is a break
pub no-break : (b : ℕ) (bs : List ℕ) → (is_blank_byte b || not (is_content b)) ≡ true → blank_break_in (b ∷ bs) ≡ None → Content b
no-break b bs e none = grind (arith, eqb-true)

module _ (reader : Reader) (leaf : Leaf) (text : List ℕ) (place : ℕ → ℕ) (h : AreLeafPlaces reader leaf text place) where
  -- the text as a leaf of its own
  abbrev one : Reader
  one = text_reader reader.options reader.lookup text

  abbrev alone : Leaf
  alone = one_stretch leaf.is_cell text

  pub from-text : (k : ℕ) → from one alone k ≡ drop k text
  from-text k = grind (arith, append-nil, length-drop, take-length)

  before-text : (k : ℕ) → k ≤ length text → before one alone k ≡ take k text
  before-text k le = append-nil (slice text 0 (min k (length text))) ∙ ap (λ n. take n text) (let e : min k (length text) - 0 ≡ k = omega arith in e)

  place-text : (j : ℕ) → j ≤ length text → place_of one alone (drop j text) ≡ j
  place-text j le = let d = length-drop j text in let e : length text - length (drop j text) ≡ j = omega arith in e

  at-own : (k : ℕ) → k ≤ length text → IsParted (length text) place (place k) k
  at-own k le = record { within = le; earlier = λ j lt. h.places.order j k lt le; later = λ j a b. go j a b (le_or j k) }
    where
      go : (j : ℕ) → k ≤ j → j < length text → (j ≤ k) ⊎ (k < j) → place k ≤ place j
      go j a b (inl c) = subst (λ i. place k ≤ place i) (let e : k ≡ j = omega arith in e) (omega arith)
      go j a b (inr c) = let o = h.places.order k j c (omega arith) in omega arith

  -- after a byte
  pub at-following : (k : ℕ) → k < length text → IsParted (length text) place (suc (place k)) (suc k)
  at-following k lt = record { within = lt; earlier = λ j a. go j a (le_or k j); later = λ j a b. (let o = h.places.order k j a (omega arith) in omega arith) }
    where
      go : (j : ℕ) → j < suc k → (k ≤ j) ⊎ (j < k) → place j < suc (place k)
      go j a (inl c) = subst (λ i. place i < suc (place k)) (let e : k ≡ j = omega arith in e) (omega arith)
      go j a (inr c) = let o = h.places.order j k c (omega arith) in omega arith

  pub from-place : (k : ℕ) → k ≤ length text → from reader leaf (place k) ≡ drop k text
  from-place k le = h.rest (place k) k (at-own k le)

  before-place : (k : ℕ) → k ≤ length text → before reader leaf (place k) ≡ take k text
  before-place k le = h.front (place k) k (at-own k le)

  -- ## Steps over bytes that end no line

  pub inside : (k b : ℕ) (l : List ℕ) → drop k text ≡ b ∷ l → (k < length text) × (get_or text k 0 ≡ b) × (drop (suc k) text ≡ l)
  inside k b l e =
      let d = length-drop k text in let n = ap length e in (
        omega arith,
        ap (λ j. get_or text j 0) (let q : k ≡ k + 0 = omega arith in q) ∙ sym (get_or-drop k text 0 0) ∙ ap (λ m. get_or m 0 0) e,
        ap (λ j. drop j text) (let q : suc k ≡ k + 1 = omega arith in q) ∙ sym (drop-drop 1 k text) ∙ ap (drop 1) e,
      )

  steps : (n k : ℕ) (l : List ℕ) → drop k text ≡ l → Leads Content n l → place (k + n) ≡ place k + n
  steps zero k l e f = ap place (let q : k + 0 ≡ k = omega arith in q) ∙ (let q : place k ≡ place k + 0 = omega arith in q)
  steps (suc n) k [] e f = absurd (let w = f.fits in omega arith)
  steps (suc n) k (b ∷ l) e f =
      let i = inside k b l e in
      let w = f.fits in
      let x : place (suc k) ≡ suc (place k) = h.places.next k i.0 (ap is_content i.1 ∙ f.front.0) in
      let y = steps n (suc k) l i.2 (record { front = f.front.1; fits = omega arith }) in
      ap place (let q : k + suc n ≡ suc k + n = omega arith in q) ∙ y ∙ (let q : place (suc k) + n ≡ place k + suc n = omega arith in q)

  pub fewer-steps : (m n k : ℕ) (l : List ℕ) → m ≤ n → drop k text ≡ l → Leads Content n l → place (k + m) ≡ place k + m
  fewer-steps m n k l le e f = let w = f.fits in steps m k l e (record { front = front-less Content m n l le f.front; fits = omega arith })

  -- an item in other places
  item_is : (kind : ItemKind) (s e p s0 e0 p0 : ℕ) → s ≡ place s0 → e ≡ suc (place (e0 - 1)) → p ≡ place p0
      → Stands (record { kind = kind; start = s; end = e }) p ≡ placed place (Stands (record { kind = kind; start = s0; end = e0 }) p0)
  item_is kind s e p s0 e0 p0 a b c = cc

  -- within bytes that end no line
  words_is : (kind : ItemKind) (k o n : ℕ) (l : List ℕ) → drop k text ≡ l → Leads Content n l → o < n → (s e s0 e0 : ℕ) → s ≡ place k + o → e ≡ place k + n → s0 ≡ k + o → e0 ≡ k + n
      → item_at kind s e ≡ placed place (item_at kind s0 e0)
  words_is kind k o n l d f lt s e s0 e0 a b c g =
      let x = fewer-steps o n k l (omega arith) d f in
      let y = fewer-steps (n - 1) n k l (omega arith) d f in
      let z = fewer-steps n n k l (omega arith) d f in
      item_is kind s e e s0 e0 e0 (a ∙ sym x ∙ ap place (sym c)) (b ∙ (let q : place k + n ≡ suc (place k + (n - 1)) = omega arith in q) ∙ ap suc (sym y) ∙ ap (λ j. suc (place j)) (let q : k + (n - 1) ≡ e0 - 1 = omega arith in q))
      (b ∙ sym z ∙ ap place (sym g))

  -- up to the end of a byte that does not end a line
  rest_is : (kind : ItemKind) (k : ℕ) (l rest : List ℕ) → drop k text ≡ l → IsAfter l rest → item_at kind (place k) (place_of reader leaf rest) ≡ placed place (item_at kind k (place_of one alone rest))
  rest_is kind k l rest d b =
      let j = k + b.place in
      let n = ap length d in
      let m = length-drop k text in
      let w = b.inside in
      let lt : j < length text = omega arith in
      let is : rest ≡ drop (suc j) text =
      b.rest ∙ ap (drop (suc b.place)) (sym d) ∙ drop-drop (suc b.place) k text ∙ ap (λ i. drop i text) (let q : k + suc b.place ≡ suc j = omega arith in q) in
      let byte : is_content (get_or text j 0) ≡ true = ap is_content (sym (get_or-drop k text b.place 0) ∙ ap (λ i. get_or i b.place 0) d) ∙ b.content in
      let end : place_of reader leaf rest ≡ place (suc j) = ap (place_of reader leaf) is ∙ h.places.ends (suc j) (omega arith) in
      let own : place_of one alone rest ≡ suc j = ap (place_of one alone) is ∙ place-text (suc j) (omega arith) in
      item_is kind (place k) (place_of reader leaf rest) (place_of reader leaf rest) k (suc j) (suc j) refl (end ∙ h.places.next j lt byte ∙ ap (λ i. suc (place i)) (let q : j ≡ suc j - 1 = omega arith in q)) end
      ∙ ap (λ i. placed place (item_at kind k i)) (sym own)

  -- one of two tokens, by the condition
  either : (b : Bool) (x y x0 y0 : Token) → (b ≡ true → x ≡ placed place x0) → (b ≡ false → y ≡ placed place y0) → (if b then x else y) ≡ placed place (if b then x0 else y0)
  either true x y x0 y0 p q = p refl
  either false x y x0 y0 p q = q refl

  -- ## After a line ending and after markup

  -- the offset at which reading continues
  pub read-on : (x k : ℕ) → IsParted (length text) place x k → read_on reader leaf x ≡ place (read_on one alone k)
  read-on x k p =
      let line : line_begins reader leaf x ≡ line_begins one alone k = ap (λ l. first_is (λ b. not (is_content b)) (reverse l)) (h.front x k p ∙ sym (before-text k p.within)) in
      let bytes : from reader leaf x ≡ from one alone k = h.rest x k p ∙ sym (from-text k) in
      ap (λ b. place_of reader leaf (if b then after_leading_blanks (from reader leaf x) else from reader leaf x)) line
      ∙ ap (λ l. place_of reader leaf (if line_begins one alone k then after_leading_blanks l else l)) (bytes ∙ from-text k)
      ∙ by (line_begins one alone k)
      ∙ ap (λ l. place (place_of one alone (if line_begins one alone k then after_leading_blanks l else l))) (sym (from-text k))
    where
      at : (n : ℕ) → place_of reader leaf (drop n (drop k text)) ≡ place (place_of one alone (drop n (drop k text)))
      at n = subst (λ l. place_of reader leaf l ≡ place (place_of one alone l)) (sym (drop-drop n k text)) (go (le_or (k + n) (length text)))
        where
          go : (k + n ≤ length text) ⊎ (length text < k + n) → place_of reader leaf (drop (k + n) text) ≡ place (place_of one alone (drop (k + n) text))
          go (inl le) = h.places.ends (k + n) le ∙ ap place (sym (place-text (k + n) le))
          go (inr lt) =
              let none : drop (k + n) text ≡ drop (length text) text = nothing (drop (k + n) text) (drop (length text) text) (let d = length-drop (k + n) text in omega arith) (let d = length-drop (length text) text in omega arith) in
              subst (λ l. place_of reader leaf l ≡ place (place_of one alone l)) (sym none) (h.places.ends (length text) (omega arith) ∙ ap place (sym (place-text (length text) (omega arith))))
            where
              nothing : (a b : List ℕ) → length a ≡ 0 → length b ≡ 0 → a ≡ b
              nothing [] [] e f = refl
              nothing (x ∷ a) b e f = absurd (omega arith)
              nothing [] (x ∷ b) e f = absurd (omega arith)

      by : (b : Bool) → place_of reader leaf (if b then after_leading_blanks (drop k text) else drop k text) ≡ place (place_of one alone (if b then after_leading_blanks (drop k text) else drop k text))
      by true = at _
      by false = at 0

  -- no markup is searched in the source if none may open
  starts_not : (c : ℕ) (prefix l : List ℕ) → prefix ≡ 60 ∷ c ∷ [] → (take 2 l ≡ 60 ∷ c ∷ [] → ⊥) → starts prefix l ≡ false
  starts_not c prefix l is other = false_from_ne_true (starts prefix l) (λ t. other (ap (λ p. take (length p) l) (sym is) ∙ (bytes_eq-Decides (take (length prefix) l) prefix).0 t ∙ is))

  no_markup : (l : List ℕ) → (take 2 l ≡ 60 ∷ 33 ∷ [] → ⊥) → (take 2 l ≡ 60 ∷ 63 ∷ [] → ⊥) → after_markup l ≡ None
  no_markup l x y = cc (starts_not 33 (codes "<!") l refl x, starts_not 63 (codes "<?") l refl y)

  -- the source has the leaf's next byte after a byte that does not end a line
  second_of_source : (k c : ℕ) → k < length text → is_content (get_or text k 0) ≡ true → take 2 (source_from reader leaf (place k)) ≡ 60 ∷ c ∷ [] → first_is (λ d. d == c) (drop (suc k) text) ≡ true
  second_of_source k c lt content e = go (le_or (length text) (suc k))
    where
      end : ℕ
      end = end_of leaf.stretches

      -- two bytes are before the end
      two : suc (place k) < end
      two =
          let t = length-take 2 (source_from reader leaf (place k)) in
          let u = length-take (end - place k) (drop (place k) reader.source) in
          let n = ap length e in
          omega arith

      end_is : place (length text) ≡ end
      end_is = sym (h.places.ends (length text) (omega arith)) ∙ ap (place_of reader leaf) (none (drop (length text) text) (let d = length-drop (length text) text in omega arith))
        where
          none : (l : List ℕ) → length l ≡ 0 → l ≡ []
          none [] f = refl
          none (x ∷ l) f = cc

      next : place (suc k) ≡ suc (place k)
      next = h.places.next k lt content

      go : (length text ≤ suc k) ⊎ (suc k < length text) → first_is (λ d. d == c) (drop (suc k) text) ≡ true
      go (inl a) = absurd (let t = two in let n = next in let p = end_is in let q : length text ≡ suc k = omega arith in let r = ap place q in omega arith)
      go (inr a) =
          let byte : get_or reader.source (suc (place k)) 0 ≡ get_or text (suc k) 0 = ap (λ i. get_or reader.source i 0) (sym next) ∙ h.bytes (suc k) a in
          let there : get_or (source_from reader leaf (place k)) 1 0 ≡ c = sym (taken (source_from reader leaf (place k))) ∙ ap (λ l. get_or l 1 0) e in
          let at : get_or (source_from reader leaf (place k)) 1 0 ≡ get_or reader.source (suc (place k)) 0 =
          (let w = two in sliced (end - place k) (drop (place k) reader.source) (omega arith)) ∙ get_or-drop (place k) reader.source 1 0 ∙ ap (λ i. get_or reader.source i 0) (let q : place k + 1 ≡ suc (place k) = omega arith in q) in
          subst (λ l. first_is (λ d. d == c) l ≡ true) (sym (drop-cons text (suc k) 0 a)) (eq-eqb (get_or text (suc k) 0) c (sym byte ∙ sym at ∙ there))
        where
          taken : (l : List ℕ) → get_or (take 2 l) 1 0 ≡ get_or l 1 0
          taken [] = refl
          taken (x ∷ []) = refl
          taken (x ∷ (y ∷ l)) = refl

          sliced : (n : ℕ) (l : List ℕ) → 2 ≤ n → get_or (take n l) 1 0 ≡ get_or l 1 0
          sliced (suc (suc n)) [] w = refl
          sliced (suc (suc n)) (x ∷ []) w = refl
          sliced (suc (suc n)) (x ∷ (y ∷ l)) w = refl
          sliced _ l w = absurd (omega arith)

  -- ## At a byte of the text
  module _ (k b : ℕ) (bs : List ℕ) (here : drop k text ≡ b ∷ bs) where
    lt : k < length text
    lt = (inside k b bs here).0

    from_here : from reader leaf (place k) ≡ b ∷ bs
    from_here = let l = lt in from-place k (omega arith) ∙ here

    from_own : from one alone k ≡ b ∷ bs
    from_own = from-text k ∙ here

    before_here : before reader leaf (place k) ≡ before one alone k
    before_here = let l = lt in before-place k (omega arith) ∙ sym (before-text k (omega arith))

    -- one byte
    byte_is : (kind : ItemKind) → Content b → item_at kind (place k) (suc (place k)) ≡ placed place (item_at kind k (suc k))
    byte_is kind c = words_is kind k 0 1 (b ∷ bs) here (record { front = (c, none bs); fits = omega arith }) (omega arith) (place k) (suc (place k)) k (suc k) (omega arith) (omega arith) (omega arith) (omega arith)
      where
        none : (l : List ℕ) → Front Content 0 l
        none [] = tt
        none (x ∷ l) = tt

    bytes_are : (kind : ItemKind) (n : ℕ) → Leads Content n (b ∷ bs) → 0 < n → item_at kind (place k) (place k + n) ≡ placed place (item_at kind k (k + n))
    bytes_are kind n f lt = words_is kind k 0 n (b ∷ bs) here f lt (place k) (place k + n) k (k + n) (omega arith) refl (omega arith) refl

    next_place : Content b → place (suc k) ≡ suc (place k)
    next_place c = let i = inside k b bs here in h.places.next k i.0 (ap is_content i.1 ∙ c)

    break_is : (found : Option LineBreak) (other other0 : Token) → BreakTaken (b ∷ bs) found → (found ≡ None → other ≡ placed place other0) → break_or reader leaf (place k) found other ≡ placed place (break_or one alone k found other0)
    break_is None other other0 t p = p refl
    break_is (Some found) other other0 t p =
        ap (λ n. break_to reader leaf (place k) found (place k + n)) size_here
        ∙ item_is (if found.is_hard then HardBreak else SoftBreak) (place k + found.before) (place k + n) (read_on reader leaf (place k + n)) (k + found.before) (k + n) (read_on one alone (k + n))
        (sym (fewer-steps found.before t.blanks k (b ∷ bs) t.begins here blank_leads)) end_is
        (ap (read_on reader leaf) end_is ∙ read-on (suc (place last)) (k + n) (subst (IsParted (length text) place (suc (place last))) (let q : suc last ≡ k + n = omega arith in q) (at-following last last_in)))
        ∙ ap (λ n. placed place (break_to one alone k found (k + n))) (sym size_own)
      where
        n : ℕ
        n = t.blanks + suc t.more

        following_size : length (b ∷ bs) - length found.following ≡ n
        following_size = let e = ap length t.following in let d = length-drop (t.blanks + suc t.more) (b ∷ bs) in let w = t.fits in omega arith

        size_here : size_to reader leaf (place k) found.following ≡ n
        size_here = ap (λ l. length l - length found.following) from_here ∙ following_size

        size_own : size_to one alone k found.following ≡ n
        size_own = ap (λ l. length l - length found.following) from_own ∙ following_size

        blank_leads : Leads Content t.blanks (b ∷ bs)
        blank_leads = record { front = front-map IsWord Content (λ c w. w.content) t.blanks (b ∷ bs) t.leads.front; fits = t.leads.fits }

        last : ℕ
        last = (k + n) - 1

        last_in : last < length text
        last_in = let w = t.fits in let e = ap length here in let d = length-drop k text in omega arith

        blanks_at : place (k + t.blanks) ≡ place k + t.blanks
        blanks_at = steps t.blanks k (b ∷ bs) here blank_leads

        byte_at : (i : ℕ) → get_or text (k + i) 0 ≡ get_or (b ∷ bs) i 0
        byte_at i = sym (get_or-drop k text i 0) ∙ ap (λ l. get_or l i 0) here

        end_is : place k + n ≡ suc (place last)
        end_is = ⊎_elim
            (λ z. (let e = blanks_at in let q : k + t.blanks ≡ last = omega arith in let r = ap place q in omega arith))
            (λ two. (let e = blanks_at in
            let w = t.fits in let s = ap length here in let d = length-drop k text in
            let x = two.0 in
            let r : place (suc (k + t.blanks)) ≡ suc (place (k + t.blanks)) = h.endings (k + t.blanks) (omega arith) (byte_at t.blanks ∙ two.1) (ap (λ i. get_or text i 0) (let q : suc (k + t.blanks) ≡ k + suc t.blanks = omega arith in q) ∙ byte_at (suc t.blanks) ∙ two.2) in
            let q : suc (k + t.blanks) ≡ last = omega arith in
            let v = ap place q in
            omega arith)) t.ending

    code_is : (found : Option Parsed) → ParsedAfter (b ∷ bs) found → Leads Content (backticks (b ∷ bs)) (b ∷ bs) → 0 < backticks (b ∷ bs)
        → code_or reader leaf (place k) (backticks (b ∷ bs)) found ≡ placed place (code_or one alone k (backticks (b ∷ bs)) found)
    code_is (Some found) f w some = rest_is (Code (code_text (as_in leaf.is_cell found.bytes))) k (b ∷ bs) found.following here f
    code_is None f w some = bytes_are Own (backticks (b ∷ bs)) w some

    entity_is : IsWord b → (entity : Option Entity) → EntityLeads bs entity → entity_or reader leaf (place k) entity ≡ placed place (entity_or one alone k entity)
    entity_is w None e = byte_is Plain w.content
    entity_is w (Some entity) e =
        let l = leads-cons IsWord b e.0 bs w e.2 in
        words_is (Written entity.bytes) k 0 (suc e.0) (b ∷ bs) here (content-leads (suc e.0) (b ∷ bs) l) (omega arith) (place k) (place k + entity.size) k (k + entity.size) (omega arith)
        (let s = e.1 in omega arith) (omega arith) (let s = e.1 in omega arith)

    next_here : drop (suc k) text ≡ bs
    next_here = (inside k b bs here).2

    escaped_is : Content b → (found : Option Parsed) → first_is is_backtick bs ≡ true
        → escaped_backtick reader leaf (suc (place k)) (backticks bs) found ≡ placed place (escaped_backtick one alone (suc k) (backticks bs) found)
    escaped_is c (Some found) e =
        let f = first-leads IsWord is_backtick bs (λ d q. word-is d 96 refl (omega arith) q) e in
        let p = next_place c in
        words_is Plain (suc k) 0 1 bs next_here (content-leads 1 bs f) (omega arith) (suc (place k)) (suc (suc (place k))) (suc k) (suc (suc k)) (omega arith) (omega arith) (omega arith) (omega arith)
    escaped_is c None e =
        let n = backticks bs in
        let f = prefix-leads is_backtick IsWord (λ d q. word-is d 96 refl (omega arith) q) bs in
        let p = next_place c in
        words_is Own (suc k) 0 n bs next_here (content-leads n bs f) (some bs e) (suc (place k)) (suc (place k) + n) (suc k) (suc k + n) (omega arith) (omega arith) (omega arith) refl
      where
        some : (l : List ℕ) → first_is is_backtick l ≡ true → 0 < backticks l
        some [] q = cc
        some (d ∷ l) q = subst (λ z. 0 < (if z then 1 + backticks l else 0)) (sym q) (omega arith)

    escape_is : IsWord b → escape_at reader leaf (place k) bs ≡ placed place (escape_at one alone k bs)
    escape_is w =
        either (first_is is_backtick bs) (escaped_backtick reader leaf (suc (place k)) (backticks bs) (code_in (drop 1 bs)))
        (if leaf.is_cell && starts piped bs then item_at Plain (place k + 2) (place k + 3) else if first_is is_punctuation bs then item_at Plain (suc (place k)) (place k + 2) else item_at Plain (place k) (suc (place k)))
        (escaped_backtick one alone (suc k) (backticks bs) (code_in (drop 1 bs)))
        (if leaf.is_cell && starts piped bs then item_at Plain (k + 2) (k + 3) else if first_is is_punctuation bs then item_at Plain (suc k) (k + 2) else item_at Plain k (suc k)) (escaped_is w.content (code_in (drop 1 bs)))
        (λ e. either (leaf.is_cell && starts piped bs) (item_at Plain (place k + 2) (place k + 3)) (if first_is is_punctuation bs then item_at Plain (suc (place k)) (place k + 2) else item_at Plain (place k) (suc (place k)))
        (item_at Plain (k + 2) (k + 3)) (if first_is is_punctuation bs then item_at Plain (suc k) (k + 2) else item_at Plain k (suc k))
        (λ f. (let l = starts-leads IsWord piped bs (record { content = refl; ascii = omega arith }, (record { content = refl; ascii = omega arith }, tt)) (and-right leaf.is_cell (starts piped bs) f) in
        words_is Plain k 2 3 (b ∷ bs) here (content-leads 3 (b ∷ bs) (leads-cons IsWord b 2 bs w l)) (omega arith) (place k + 2) (place k + 3) (k + 2) (k + 3) refl refl refl refl))
        (λ f. either (first_is is_punctuation bs) (item_at Plain (suc (place k)) (place k + 2)) (item_at Plain (place k) (suc (place k))) (item_at Plain (suc k) (k + 2)) (item_at Plain k (suc k))
        (λ g. (let l = first-leads IsWord is_punctuation bs punctuation-word g in
        words_is Plain k 1 2 (b ∷ bs) here (content-leads 2 (b ∷ bs) (leads-cons IsWord b 1 bs w l)) (omega arith) (suc (place k)) (place k + 2) (suc k) (k + 2) (omega arith) refl (omega arith) refl))
        (λ g. byte_is Plain w.content)))

    -- no markup opens there
    module _ (none : may_open_markup reader.options.email_autolinks (b ∷ bs) ≡ false) where
      no_second : (b == 60) ≡ true → autolink_in reader.options.email_autolinks bs ≡ None → first_is (λ c. (c == 33) || (c == 63)) bs ≡ false
      no_second e link = cc

      parts_of : (l : List ℕ) → first_is (λ c. (c == 33) || (c == 63)) l ≡ false → (first_is (λ c. c == 33) l ≡ false) × (first_is (λ c. c == 63) l ≡ false)
      parts_of [] e = (refl, refl)
      parts_of (d ∷ l) e = or_parts (d == 33) (d == 63) e

      no_source : (b == 60) ≡ true → autolink_in reader.options.email_autolinks bs ≡ None → after_markup (source_from reader leaf (place k)) ≡ None
      no_source e link =
          let c : is_content (get_or text k 0) ≡ true = ap is_content (inside k b bs here).1 ∙ subst (λ x. is_content x ≡ true) (sym (eqb-true b 60 e)) refl in
          let p = parts_of bs (no_second e link) in
          no_markup (source_from reader leaf (place k))
          (λ t. true≢false (sym (second_of_source k 33 lt c t) ∙ ap (first_is (λ d. d == 33)) next_here ∙ p.0))
          (λ t. true≢false (sym (second_of_source k 63 lt c t) ∙ ap (first_is (λ d. d == 63)) next_here ∙ p.1))

      own_source : source_from one alone k ≡ b ∷ bs
      own_source =
          (let d = length-drop k text in ap (λ n. take n (drop k text)) (let e : end_of alone.stretches - k ≡ length (drop k text) = omega arith in e))
          ∙ take-length (drop k text) ∙ here

      pub no-own : (b == 60) ≡ true → autolink_in reader.options.email_autolinks bs ≡ None → after_markup (source_from one alone k) ≡ None
      no-own e link = grind (arith, parts_of, no_second, no_markup, own_source, eq-eqb)

      tag_is : IsWord b → (found : Option (List ℕ)) → after_tag no_prefix (b ∷ bs) ≡ found → tag_or_text reader leaf (place k) found ≡ placed place (tag_or_text one alone k found)
      tag_is w None e = byte_is Own w.content
      tag_is w (Some rest) e =
          ap (λ l. item_at (tag_kind reader leaf (take (length l - length rest) l)) (place k) (place_of reader leaf rest)) from_here
          ∙ rest_is (tag_kind reader leaf (take (length (b ∷ bs) - length rest) (b ∷ bs))) k (b ∷ bs) rest here (tag-following (b ∷ bs) rest e)
          ∙ ap (λ l. placed place (item_at (tag_kind one alone (take (length l - length rest) l)) k (place_of one alone rest))) (sym from_own)

      autolink_is : (found : Option Parsed) (other other0 : Token) → ParsedAfter bs found → (found ≡ None → other ≡ placed place other0)
          → autolink_or reader leaf (place k) found other ≡ placed place (autolink_or one alone k found other0)
      autolink_is None other other0 f p = p refl
      autolink_is (Some found) other other0 f p = rest_is (Autolink found.bytes) k (b ∷ bs) found.following here (following-rest (b ∷ bs) bs found.following (1, refl) f)

      less_than_is : (b == 60) ≡ true → less_than reader leaf (place k) bs ≡ placed place (less_than one alone k bs)
      less_than_is e =
          let w = word-is b 60 refl (omega arith) e in
          let tag = tag_or_text reader leaf (place k) (after_tag no_prefix (from reader leaf (place k))) in
          let tag0 = tag_or_text one alone k (after_tag no_prefix (from one alone k)) in
          let others = markup_or reader leaf (place k) (after_markup (source_from reader leaf (place k))) tag in
          let others0 = markup_or one alone k (after_markup (source_from one alone k)) tag0 in
          either (first_is (λ c. c == 92) bs) (item_at Plain (place k) (suc (place k))) (autolink_or reader leaf (place k) (autolink_in reader.options.email_autolinks bs) others) (item_at Plain k (suc k)) (autolink_or one alone k (autolink_in reader.options.email_autolinks bs) others0)
          (λ f. byte_is Plain w.content)
          (λ f. autolink_is (autolink_in reader.options.email_autolinks bs) others others0 (autolink-following reader.options.email_autolinks bs)
          (λ n. ap (λ o. markup_or reader leaf (place k) o tag) (no_source e n)
          ∙ ap (λ l. tag_or_text reader leaf (place k) (after_tag no_prefix l)) from_here
          ∙ tag_is w (after_tag no_prefix (b ∷ bs)) refl
          ∙ ap (λ l. placed place (tag_or_text one alone k (after_tag no_prefix l))) (sym from_own)
          ∙ ap (λ o. placed place (markup_or one alone k o tag0)) (sym (no-own e n))))

      -- ## Runs, formulas, and smart punctuation
      character_before_is : character_before reader leaf (place k) ≡ character_before one alone k
      character_before_is = ap (λ l. first_of (reverse (chars l))) before_here

      character_at_is : (x j : ℕ) → x ≡ place j → j ≤ length text → character_at reader leaf x ≡ character_at one alone j
      character_at_is x j e le = ap (λ l. first_of (chars l)) (ap (from reader leaf) e ∙ from-place j le ∙ sym (from-text j))

      run_or_is : (n : ℕ) (beside : Flanking) → Leads Content n (b ∷ bs) → 0 < n → run_or reader leaf (place k) b n beside ≡ placed place (run_or one alone k b n beside)
      run_or_is n beside f some = search (rules, either, bytes_are)

      run_is : Content b → run_at reader leaf (place k) b (prefix_len (λ c. c == b) (b ∷ bs)) ≡ placed place (run_at one alone k b (prefix_len (λ c. c == b) (b ∷ bs)))
      run_is c =
          let n = prefix_len (λ c. c == b) (b ∷ bs) in
          let f = prefix-leads (λ d. d == b) Content (λ d e. subst (λ x. is_content x ≡ true) (sym (eqb-true d b e)) c) (b ∷ bs) in
          let w = f.fits in
          let s = ap length here in
          let d = length-drop k text in
          ap (λ x. run_or reader leaf (place k) b n (flanking reader.options b n x (character_at reader leaf (place k + n)))) character_before_is
          ∙ ap (λ x. run_or reader leaf (place k) b n (flanking reader.options b n (character_before one alone k) x)) (character_at_is (place k + n) (k + n) (sym (steps n k (b ∷ bs) here f)) (omega arith))
          ∙ run_or_is n (flanking reader.options b n (character_before one alone k) (character_at one alone (k + n))) f some
        where
          some : 0 < prefix_len (λ c. c == b) (b ∷ bs)
          some = subst (λ z. 0 < (if z then 1 + prefix_len (λ c. c == b) bs else 0)) (sym (eq-eqb b b refl)) (omega arith)

      formula_is : Content b → (kind : List ℕ → ItemKind) (found : Option Parsed) → ParsedAfter (b ∷ bs) found → formula_or reader leaf kind (place k) found ≡ placed place (formula_or one alone kind k found)
      formula_is c kind None f = byte_is Own c
      formula_is c kind (Some found) f = rest_is (kind (as_in leaf.is_cell found.bytes)) k (b ∷ bs) found.following here f

      more_after : (n : ℕ) (l : List ℕ) (found : Option Parsed) → ParsedAfter (drop n l) found → ParsedAfter l found
      more_after n l None f = tt
      more_after n l (Some found) f = following-rest l (drop n l) found.following (n, refl) f

      dollar_is : Content b → dollar reader leaf (place k) bs (braces_after false (before reader leaf (place k)) no_braces) ≡ placed place (dollar one alone k bs (braces_after false (before one alone k) no_braces))
      dollar_is c =
          let braces = braces_after false (before one alone k) no_braces in
          ap (λ l. dollar reader leaf (place k) bs (braces_after false l no_braces)) before_here
          ∙ either (first_is is_dollar bs) (formula_or reader leaf DisplayMath (place k) (display_in braces (drop 1 bs))) (formula_or reader leaf InlineMath (place k) (inline_in braces bs))
          (formula_or one alone DisplayMath k (display_in braces (drop 1 bs))) (formula_or one alone InlineMath k (inline_in braces bs))
          (λ e. formula_is c DisplayMath (display_in braces (drop 1 bs)) (more_after 2 (b ∷ bs) (display_in braces (drop 1 bs)) (display-following braces (drop 1 bs))))
          (λ e. formula_is c InlineMath (inline_in braces bs) (more_after 1 (b ∷ bs) (inline_in braces bs) (inline-following braces bs)))

      dots_is : Content b → dots reader leaf (place k) ≡ placed place (dots one alone k)
      dots_is c =
          let written = Written (226 ∷ 128 ∷ 166 ∷ []) in
          ap (λ l. if starts (codes "...") l then item_at written (place k) (place k + 3) else item_at Plain (place k) (suc (place k))) from_here
          ∙ either (starts (codes "...") (b ∷ bs)) (item_at written (place k) (place k + 3)) (item_at Plain (place k) (suc (place k))) (item_at written k (k + 3)) (item_at Plain k (suc k))
          (λ e. bytes_are written 3
          (content-leads 3 (b ∷ bs) (starts-leads IsWord (codes "...") (b ∷ bs) (record { content = refl; ascii = omega arith }, (record { content = refl; ascii = omega arith }, (record { content = refl; ascii = omega arith }, tt))) e)) (omega arith))
          (λ e. byte_is Plain c)
          ∙ ap (λ l. placed place (if starts (codes "...") l then item_at written k (k + 3) else item_at Plain k (suc k))) (sym from_own)

      hyphens_is : (b == 45) ≡ true → hyphens reader leaf (place k) (prefix_len (λ c. c == 45) (from reader leaf (place k))) ≡ placed place (hyphens one alone k (prefix_len (λ c. c == 45) (from one alone k)))
      hyphens_is e =
          let n = prefix_len (λ c. c == 45) (b ∷ bs) in
          let f = content-leads n (b ∷ bs) (prefix-leads (λ c. c == 45) IsWord (λ c q. word-is c 45 refl (omega arith) q) (b ∷ bs)) in
          let text_kind = Written (dash_text (dashes_of n)) in
          ap (λ l. hyphens reader leaf (place k) (prefix_len (λ c. c == 45) l)) from_here
          ∙ either (nat_lt n 2) (item_at Plain (place k) (place k + n)) (item_at text_kind (place k) (place k + n)) (item_at Plain k (k + n)) (item_at text_kind k (k + n)) (λ x. bytes_are Plain n f some) (λ x. bytes_are text_kind n f some)
          ∙ ap (λ l. placed place (hyphens one alone k (prefix_len (λ c. c == 45) l))) (sym from_own)
        where
          some : 0 < prefix_len (λ c. c == 45) (b ∷ bs)
          some = subst (λ z. 0 < (if z then 1 + prefix_len (λ c. c == 45) bs else 0)) (sym e) (omega arith)

      quote_is : Content b → quote_at reader leaf (place k) b ≡ placed place (quote_at one alone k b)
      quote_is c =
          let l = lt in
          ap (λ x. item_at (Quoted (quote_beside (b == 34) x (character_at reader leaf (suc (place k))))) (place k) (suc (place k))) character_before_is
          ∙ ap (λ x. item_at (Quoted (quote_beside (b == 34) (character_before one alone k) x)) (place k) (suc (place k))) (character_at_is (suc (place k)) (suc k) (sym (next_place c)) (omega arith))
          ∙ byte_is (Quoted (quote_beside (b == 34) (character_before one alone k) (character_at one alone (suc k)))) c

      smart_is : Content b → smart_or reader leaf (place k) b ≡ placed place (smart_or one alone k b)
      smart_is c = grind (arith, either, dots_is, hyphens_is, quote_is, byte_is)

      both_false : (x y : Bool) → (x || not y) ≡ false → y ≡ true
      both_false x y e = grind arith

      backtick_some : (b == 96) ≡ true → 0 < backticks (b ∷ bs)
      backtick_some e = subst (λ z. 0 < (if z then 1 + backticks bs else 0)) (sym e) (omega arith)

      begins_is : begins reader leaf (place k) (b ∷ bs) ≡ placed place (begins one alone k (b ∷ bs))
      begins_is =
          let at = place k in
          let plain = item_at Plain at (suc at) in
          let plain0 = item_at Plain k (suc k) in
          let c9 = if reader.options.smart_punctuation then smart_or reader leaf at b else plain in
          let d9 = if reader.options.smart_punctuation then smart_or one alone k b else plain0 in
          let c8 = if reader.options.math && is_dollar b then dollar reader leaf at bs (braces_after false (before reader leaf at) no_braces) else c9 in
          let d8 = if reader.options.math && is_dollar b then dollar one alone k bs (braces_after false (before one alone k) no_braces) else d9 in
          let run = run_at reader leaf at b (prefix_len (λ c. c == b) (b ∷ bs)) in
          let run0 = run_at one alone k b (prefix_len (λ c. c == b) (b ∷ bs)) in
          let c7 = if is_run_delimiter b then run else c8 in
          let d7 = if is_run_delimiter b then run0 else d8 in
          let c6 = if b == 93 then Closes (bracket false at (suc at)) else c7 in
          let d6 = if b == 93 then Closes (bracket false k (suc k)) else d7 in
          let c5 = if b == 91 then Opens (bracket false at (suc at)) else c6 in
          let d5 = if b == 91 then Opens (bracket false k (suc k)) else d6 in
          let bang = if first_is (λ c. c == 91) bs then Opens (bracket true at (at + 2)) else plain in
          let bang0 = if first_is (λ c. c == 91) bs then Opens (bracket true k (k + 2)) else plain0 in
          let c4 = if b == 33 then bang else c5 in
          let d4 = if b == 33 then bang0 else d5 in
          let c3 = if b == 60 then less_than reader leaf at bs else c4 in
          let d3 = if b == 60 then less_than one alone k bs else d4 in
          let code = code_or reader leaf at (backticks (b ∷ bs)) (code_in (b ∷ bs)) in
          let code0 = code_or one alone k (backticks (b ∷ bs)) (code_in (b ∷ bs)) in
          let c2 = if b == 96 then code else c3 in
          let d2 = if b == 96 then code0 else d3 in
          let c1 = if b == 38 then entity_or reader leaf at (entity_in reader.lookup bs) else c2 in
          let d1 = if b == 38 then entity_or one alone k (entity_in reader.lookup bs) else d2 in
          let slash = break_or reader leaf at (backslash_break_in (b ∷ bs)) (escape_at reader leaf at bs) in
          let slash0 = break_or one alone k (backslash_break_in (b ∷ bs)) (escape_at one alone k bs) in
          let c0 = if b == 92 then slash else c1 in
          let d0 = if b == 92 then slash0 else d1 in
          either (is_blank_byte b || not (is_content b)) (break_or reader leaf at (blank_break_in (b ∷ bs)) plain) c0 (break_or one alone k (blank_break_in (b ∷ bs)) plain0) d0
          (λ e. break_is (blank_break_in (b ∷ bs)) plain plain0 (blank-taken (b ∷ bs)) (λ n. byte_is Plain (no-break b bs e n)))
          (λ e0. (let c = both_false (is_blank_byte b) (is_content b) e0 in
          either (b == 92) slash c1 slash0 d1
          (λ e. break_is (backslash_break_in (b ∷ bs)) (escape_at reader leaf at bs) (escape_at one alone k bs) (backslash-taken (b ∷ bs)) (λ n. escape_is (word-is b 92 refl (omega arith) e)))
          (λ e1. either (b == 38) (entity_or reader leaf at (entity_in reader.lookup bs)) c2 (entity_or one alone k (entity_in reader.lookup bs)) d2
          (λ e. entity_is (word-is b 38 refl (omega arith) e) (entity_in reader.lookup bs) (entity-leads reader.lookup bs))
          (λ e2. either (b == 96) code c3 code0 d3
          (λ e. code_is (code_in (b ∷ bs)) (code-following (b ∷ bs))
          (content-leads (backticks (b ∷ bs)) (b ∷ bs) (prefix-leads is_backtick IsWord (λ d q. word-is d 96 refl (omega arith) q) (b ∷ bs))) (backtick_some e))
          (λ e3. either (b == 60) (less_than reader leaf at bs) c4 (less_than one alone k bs) d4 less_than_is
          (λ e4. either (b == 33) bang c5 bang0 d5
          (λ e. either (first_is (λ c. c == 91) bs) (Opens (bracket true at (at + 2))) plain (Opens (bracket true k (k + 2))) plain0
          (λ g. opens_is true 2 (leads-cons IsWord b 1 bs (word-is b 33 refl (omega arith) e) (first-leads IsWord (λ c. c == 91) bs (λ c x. word-is c 91 refl (omega arith) x) g))) (λ g. byte_is Plain c))
          (λ e5. either (b == 91) (Opens (bracket false at (suc at))) c6 (Opens (bracket false k (suc k))) d6
          (λ e. ap (λ x. Opens (bracket false at x)) (sym (next_place c)))
          (λ e6. either (b == 93) (Closes (bracket false at (suc at))) c7 (Closes (bracket false k (suc k))) d7 (λ e. ap (λ x. Closes (bracket false at x)) (sym (next_place c)))
          (λ e7. either (is_run_delimiter b) run c8 run0 d8 (λ e. run_is c)
          (λ e8. either (reader.options.math && is_dollar b) (dollar reader leaf at bs (braces_after false (before reader leaf at) no_braces)) c9
          (dollar one alone k bs (braces_after false (before one alone k) no_braces)) d9 (λ e. dollar_is c)
          (λ e9. either reader.options.smart_punctuation (smart_or reader leaf at b) plain (smart_or one alone k b) plain0 (λ e. smart_is c) (λ e. byte_is Plain c))))))))))))
        where
          opens_is : (is_image : Bool) (n : ℕ) → Leads IsWord n (b ∷ bs) → Opens (bracket is_image (place k) (place k + n)) ≡ placed place (Opens (bracket is_image k (k + n)))
          opens_is is_image n w = ap (λ x. Opens (bracket is_image (place k) x)) (sym (steps n k (b ∷ bs) here (content-leads n (b ∷ bs) w)))

  -- the token there, except for markup that is searched in the source
  pub begins-at : (k : ℕ) → k ≤ length text → may_open_markup reader.options.email_autolinks (drop k text) ≡ false → begins_at reader leaf (place k) ≡ placed place (begins_at one alone k)
  begins-at k le none = grind (arith, from-place, from-text, begins_is)
