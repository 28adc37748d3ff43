-- Each token of a leaf ends where a byte of the leaf begins, or at its end, and the bytes of a delimiter run are without a gap in the
-- source.
use Rattle.std.specs.Prelude.{suc, zero, ◌-◌, ◌==◌, ◌&&◌, ◌||◌, not, nat_lt, if◌then◌else◌, get_or, drop, codes}
use Rattle.std.specs.List.{prefix_len}
use Rattle.std.proofs.Common.{◌≡◌, ◌<◌, ◌≤◌, ◌+◌, ℕ, Bool, true, false, List, [], ◌∷◌, length, Option, Some, None, refl, sym, ap, ◌∙◌, subst, arith, length-drop, eqb-true, true≢false}
use Rattle.cmark_grammar.specs.Autolinks.{autolink_in}
use Rattle.cmark_grammar.specs.CodeSpans.{is_backtick, backticks, code_in}
use Rattle.cmark_grammar.specs.Columns.{is_blank_byte}
use Rattle.cmark_grammar.specs.Dashes.{dashes_of, dash_text}
use Rattle.cmark_grammar.specs.Flanking.{flanking, is_run_delimiter}
use Rattle.cmark_grammar.specs.Formulas.{is_dollar, Braces, no_braces, braces_after, inline_in, display_in}
use Rattle.cmark_grammar.specs.InlineHtml.{after_markup, takes_lines}
use Rattle.cmark_grammar.specs.InlineTokens.{item_at, bracket, is_plain, from, before, place_of, size_to, character_before, character_at, read_on, break_or, code_or, escaped_backtick, escape_at, entity_or, autolink_or, tag_or_text, source_from, markup_or, less_than, run_at, formula_or, dollar, dots, hyphens, quote_at, smart_or, begins, begins_at, goes_on, plain_end, longest, token}
use Rattle.cmark_grammar.specs.Items.{ItemKind, Plain, Own, Quoted, Item, Written, InlineMath, DisplayMath, Delimiters, OwnedHtml, SoftBreak, HardBreak, Token, Stands, Opens, Closes, Ends}
use Rattle.cmark_grammar.specs.LabelsOverLines.{piped}
use Rattle.cmark_grammar.specs.LeafText.{Leaf, InTurn}
use Rattle.cmark_grammar.specs.Letters.{first_is, starts}
use Rattle.cmark_grammar.specs.LineBreaks.{LineBreak, backslash_break_in, blank_break_in}
use Rattle.cmark_grammar.specs.Lines.{is_content}
use Rattle.cmark_grammar.specs.LinkDefinitions.{Parsed}
use Rattle.cmark_grammar.specs.Readers.{Reader}
use Rattle.cmark_grammar.specs.Tags.{after_tag, no_prefix}
use Rattle.cmark_grammar.specs.Tokens.{Entity, entity_in, is_punctuation}
use Rattle.cmark_block_model.proofs.RowEdges.{Front}
use Rattle.cmark_inline_model.proofs.ShorterRests.{LeavesBelow, ParsedBelow, either, tag-shorter, code-shorter, autolink-within, inline-shorter, display-shorter}
use Rattle.cmark_inline_model.specs.LeafModel.{HaveLineEnds}
use Rattle.cmark_inline_model.proofs.LeafPlaces.{bytes-size}
use Rattle.cmark_inline_model.proofs.LeafSteps.{IsAt, at-size, at-next}
use Rattle.cmark_inline_model.proofs.PlainTokens.{Shaped, begins-shaped}
use Rattle.cmark_inline_model.proofs.TokenLaws.{length-blanks}
use Rattle.cmark_inline_model.proofs.WordBytes.{IsWord, IsName, and-right, or-either, word-is, name-is, punctuation-word, front-map, Leads, prefix-leads, starts-leads, first-leads, leads-cons, EntityNames, entity-names}

module _ (reader : Reader) (leaf : Leaf) (size : ℕ) (turn : InTurn 0 leaf.stretches size) (within : size ≤ length reader.source) (lines : HaveLineEnds reader.source leaf.stretches) where
  abbrev At : (left at : ℕ) → Type 0
  At left at = IsAt reader.source leaf.stretches size turn within lines left at

  -- a byte of the leaf begins there, or it ends there
  abbrev pub IsPlace : ℕ → Type 0
  IsPlace at = (left : ℕ) × IsAt reader.source leaf.stretches size turn within lines left at

  -- these bytes of the source contain no pipe
  abbrev pub HaveNoPipe : (start end : ℕ) → Type 0
  HaveNoPipe start end = (k : ℕ) → start ≤ k → k < end → (get_or reader.source k 0 == 124) ≡ false

  -- no line ends among them
  abbrev pub HaveContent : (start end : ℕ) → Type 0
  HaveContent start end = (k : ℕ) → start ≤ k → k < end → is_content (get_or reader.source k 0) ≡ true

  -- the kinds of an item whose bytes contain a pipe: not a delimiter run, a quote, or a text that is written in another way. A text has no
  -- line ending, and a tag with a text of its own has one
  abbrev pub Uncut : ItemKind → (start end : ℕ) → Type 0
  Uncut (Delimiters run) start end = HaveNoPipe start end
  Uncut (Written text) start end = HaveNoPipe start end
  Uncut (Quoted quote) start end = end ≡ suc start
  Uncut Plain start end = HaveContent start end
  Uncut Own start end = HaveContent start end
  Uncut (OwnedHtml text) start end = takes_lines text ≡ true
  Uncut _ start end = Unit {0}

  -- one byte, which ends no line, and the next
  pub next-place : (at b : ℕ) (bs : List ℕ) → IsPlace at → from reader leaf at ≡ b ∷ bs → is_content b ≡ true → IsPlace (suc at) × (from reader leaf (suc at) ≡ bs) × (get_or reader.source at 0 ≡ b)
  next-place at b bs h e c =
      let n = at-next reader.source leaf.stretches size turn within lines h.0 at b bs h.1 e in
      let s = n.next c in
      ((length bs, (n.fits, s)), ap (from reader leaf) s ∙ n.rest, n.byte)

  -- a construct over n bytes that do not end a line
  pub record Walked (R : ℕ → Type 0) (at n : ℕ) (rest : List ℕ) : Type 0 where
    pub place : IsPlace (at + n)
    pub rest_is : from reader leaf (at + n) ≡ rest
    pub bytes : (k : ℕ) → at ≤ k → k < at + n → R (get_or reader.source k 0)

  pub walk : (R : ℕ → Type 0) (n at : ℕ) (l : List ℕ) → IsPlace at → from reader leaf at ≡ l → n ≤ length l → Front (λ b. (is_content b ≡ true) × R b) n l → Walked R at n (drop n l)
  walk R zero at l h e w f = grind arith
  walk R (suc n) at [] h e w f = absurd (omega arith)
  walk R (suc n) at (b ∷ l) h e w f =
      let s = next-place at b l h e f.0.0 in
      let i = walk R n (suc at) l s.0 s.1 (omega arith) f.1 in
      let z : suc at + n ≡ at + suc n = omega arith in
      record {
        place = subst IsPlace z i.place;
        rest_is = ap (from reader leaf) (sym z) ∙ i.rest_is;
        bytes = λ k x y. first k x y (λ q. i.bytes k q (omega arith)) (subst R (sym s.2) f.0.1);
      }
    where
      first : (k : ℕ) → at ≤ k → k < at + suc n → (suc at ≤ k → R (get_or reader.source k 0)) → R (get_or reader.source at 0) → R (get_or reader.source k 0)
      first k x y later here = grind arith

  pub rest-place : (at : ℕ) (rest : List ℕ) → IsPlace at → length rest ≤ length (from reader leaf at) → IsPlace (place_of reader leaf rest)
  rest-place at rest h w =
      let s = at-size reader.source leaf.stretches size turn within lines h.0 at h.1 in let x = h.1.0 in
      (length rest, (omega arith, refl))

  abbrev pub Sits : Token → Type 0
  Sits (Stands item resume) = IsPlace resume × Uncut item.kind item.start item.end
  Sits (Opens opener) = IsPlace opener.end × HaveContent opener.start opener.end
  Sits (Closes closer) = IsPlace closer.end × HaveContent closer.start closer.end
  Sits Ends = Unit {0}

  -- one of two tokens, by the condition
  when : (b : Bool) (x y : Token) → (b ≡ true → Sits x) → (b ≡ false → Sits y) → Sits (if b then x else y)
  when true x y h k = h refl
  when false x y h k = k refl

  abbrev Anything : ℕ → Type 0
  Anything b = Unit {0}

  -- after words
  words : (n at : ℕ) (l : List ℕ) → IsPlace at → from reader leaf at ≡ l → Leads IsWord n l → IsPlace (at + n)
  words n at l h e k = (walk Anything n at l h e k.fits (front-map IsWord (λ b. (is_content b ≡ true) × Unit {0}) (λ b w. (w.content, tt)) n l k.front)).place

  -- and a property of these words
  words_are : (R : ℕ → Type 0) (n at : ℕ) (l : List ℕ) → IsPlace at → from reader leaf at ≡ l → Leads (λ b. IsWord b × R b) n l → IsPlace (at + n) × ((k : ℕ) → at ≤ k → k < at + n → R (get_or reader.source k 0))
  words_are R n at l h e k =
      let w = walk R n at l h e k.fits (front-map (λ b. IsWord b × R b) (λ b. (is_content b ≡ true) × R b) (λ b w. (w.0.content, w.1)) n l k.front) in
      (w.place, w.bytes)

  words_text : (n at : ℕ) (l : List ℕ) → IsPlace at → from reader leaf at ≡ l → Leads IsWord n l → IsPlace (at + n) × HaveContent at (at + n)
  words_text n at l h e k =
      words_are (λ b. is_content b ≡ true) n at l h e (record { front = front-map IsWord (λ b. IsWord b × (is_content b ≡ true)) (λ b w. (w, w.content)) n l k.front; fits = k.fits })

  less_content : (start later end : ℕ) → start ≤ later → HaveContent start end → HaveContent later end
  less_content start later end e h = λ k a b. h k (omega arith) b

  one_content : (at b end : ℕ) → end ≡ suc at → get_or reader.source at 0 ≡ b → is_content b ≡ true → HaveContent at end
  one_content at b end e is c = λ k x y. subst (λ j. is_content (get_or reader.source j 0) ≡ true) (let q : at ≡ k = omega arith in q) (subst (λ d. is_content d ≡ true) (sym is) c)

  pub read-on-place : (x : ℕ) → IsPlace (read_on reader leaf x)
  read-on-place x = grind (arith, bytes-size, length-blanks, either)

  module _ (at b : ℕ) (bs : List ℕ) (there : IsPlace at) (here : from reader leaf at ≡ b ∷ bs) where
    content_next : is_content b ≡ true → IsPlace (suc at)
    content_next c = (next-place at b bs there here c).0

    -- one byte that is a text
    text_next : is_content b ≡ true → IsPlace (suc at) × HaveContent at (suc at)
    text_next c = let n = next-place at b bs there here c in (n.0, one_content at b (suc at) refl n.2 c)

    rest_there : (rest : List ℕ) → length rest ≤ suc (length bs) → IsPlace (place_of reader leaf rest)
    rest_there rest w = let e = ap length here in rest-place at rest there (omega arith)

    word_next : IsWord b → IsPlace (suc at) × HaveContent at (suc at)
    word_next w = text_next w.content

    break_sits : (found : Option LineBreak) (other : Token) → (found ≡ None → Sits other) → Sits (break_or reader leaf at found other)
    break_sits None other h = h refl
    break_sits (Some found) other h = (read-on-place (at + size_to reader leaf at found.following), hard found.is_hard)
      where
        hard : (x : Bool) → Uncut (if x then HardBreak else SoftBreak) (at + found.before) (at + size_to reader leaf at found.following)
        hard true = tt
        hard false = tt

    code_sits : (found : Option Parsed) → ParsedBelow (suc (length bs)) found → Leads IsWord (backticks (b ∷ bs)) (b ∷ bs) → Sits (code_or reader leaf at (backticks (b ∷ bs)) found)
    code_sits (Some found) h k = (rest_there found.following (omega arith), tt)
    code_sits None h k = words_text (backticks (b ∷ bs)) at (b ∷ bs) there here k

    no_pipe : (c : ℕ) → IsName c → IsWord c × ((c == 124) ≡ false)
    no_pipe c n = grind (arith, eqb-true)

    names_no_pipe : (n : ℕ) (l : List ℕ) → Leads IsName n l → Leads (λ c. IsWord c × ((c == 124) ≡ false)) n l
    names_no_pipe n l k = record { front = front-map IsName (λ c. IsWord c × ((c == 124) ≡ false)) no_pipe n l k.front; fits = k.fits }

    entity_sits : IsName b → (entity : Option Entity) → EntityNames bs entity → Sits (entity_or reader leaf at entity)
    entity_sits w (Some entity) h =
        let r = words_are (λ c. (c == 124) ≡ false) (suc h.0) at (b ∷ bs) there here (names_no_pipe (suc h.0) (b ∷ bs) (leads-cons IsName b h.0 bs w h.2)) in
        (subst (λ n. IsPlace (at + n)) (sym h.1) r.0, subst (λ n. HaveNoPipe at (at + n)) (sym h.1) r.1)
    entity_sits w None h = word_next w.word

    backtick_word : (c : ℕ) → is_backtick c ≡ true → IsWord c
    backtick_word c e = word-is c 96 refl (omega arith) e

    escape_sits : IsWord b → Sits (escape_at reader leaf at bs)
    escape_sits w =
        let second = next-place at b bs there here w.content in
        when (first_is is_backtick bs) (escaped_backtick reader leaf (suc at) (backticks bs) (code_in (drop 1 bs)))
        (if leaf.is_cell && starts piped bs then item_at Plain (at + 2) (at + 3) else if first_is is_punctuation bs then item_at Plain (suc at) (at + 2) else item_at Plain at (suc at))
        (λ e. escaped (code_in (drop 1 bs)) second.0 second.1 e)
        (λ e. when (leaf.is_cell && starts piped bs) (item_at Plain (at + 2) (at + 3)) (if first_is is_punctuation bs then item_at Plain (suc at) (at + 2) else item_at Plain at (suc at))
        (λ f. (let k = starts-leads IsWord piped bs (record { content = refl; ascii = omega arith }, (record { content = refl; ascii = omega arith }, tt)) (and-right leaf.is_cell (starts piped bs) f) in
        let t = words_text 3 at (b ∷ bs) there here (leads-cons IsWord b 2 bs w k) in (t.0, less_content at (at + 2) (at + 3) (omega arith) t.1)))
        (λ f. when (first_is is_punctuation bs) (item_at Plain (suc at) (at + 2)) (item_at Plain at (suc at))
        (λ g. (let t = words_text 2 at (b ∷ bs) there here (leads-cons IsWord b 1 bs w (first-leads IsWord is_punctuation bs punctuation-word g)) in (t.0, less_content at (suc at) (at + 2) (omega arith) t.1)))
        (λ g. word_next w)))
      where
        escaped : (found : Option Parsed) → IsPlace (suc at) → from reader leaf (suc at) ≡ bs → first_is is_backtick bs ≡ true → Sits (escaped_backtick reader leaf (suc at) (backticks bs) found)
        escaped (Some found) p q e =
            let z : (suc at) + 1 ≡ suc (suc at) = omega arith in
            let t = words_text 1 (suc at) bs p q (first-leads IsWord is_backtick bs backtick_word e) in
            (subst IsPlace z t.0, subst (HaveContent (suc at)) z t.1)
        escaped None p q e = words_text (backticks bs) (suc at) bs p q (prefix-leads is_backtick IsWord backtick_word bs)

    markup_sits : (found : Option (List ℕ)) (other : Token) → Sits other → Sits (markup_or reader leaf at found other)
    markup_sits None other h = h
    markup_sits (Some rest) other h = (read-on-place (at + (length (source_from reader leaf at) - length rest)), tt)

    tag_sits : IsWord b → (found : Option (List ℕ)) → LeavesBelow (length (from reader leaf at)) found → Sits (tag_or_text reader leaf at found)
    tag_sits w found h = grind (arith, word_next, rest_there)

    autolink_sits : (found : Option Parsed) (other : Token) → ParsedBelow (suc (length bs)) found → Sits other → Sits (autolink_or reader leaf at found other)
    autolink_sits None other h k = k
    autolink_sits (Some found) other h k = (rest_there found.following (omega arith), tt)

    less_than_sits : IsWord b → Sits (less_than reader leaf at bs)
    less_than_sits w =
        let tag = tag_or_text reader leaf at (after_tag no_prefix (from reader leaf at)) in
        let others = markup_or reader leaf at (after_markup (source_from reader leaf at)) tag in
        when (first_is (λ c. c == 92) bs) (item_at Plain at (suc at)) (autolink_or reader leaf at (autolink_in reader.options.email_autolinks bs) others) (λ e. word_next w)
        (λ e. autolink_sits (autolink_in reader.options.email_autolinks bs) others (autolink-within reader.options.email_autolinks bs)
        (markup_sits (after_markup (source_from reader leaf at)) tag (tag_sits w (after_tag no_prefix (from reader leaf at)) (tag-shorter no_prefix (from reader leaf at)))))

    same_byte : (c : ℕ) → IsWord b → (c == b) ≡ true → (is_content c ≡ true) × ((c == b) ≡ true)
    same_byte c w e = (subst (λ x. is_content x ≡ true) (sym (eqb-true c b e)) w.content, e)

    run_sits : IsWord b → (b == 124) ≡ false → Sits (run_at reader leaf at b (prefix_len (λ c. c == b) (b ∷ bs)))
    run_sits w other =
        let n = prefix_len (λ c. c == b) (b ∷ bs) in
        let beside = flanking reader.options b n (character_before reader leaf at) (character_at reader leaf (at + n)) in
        let k = prefix-leads (λ c. c == b) (λ c. (is_content c ≡ true) × ((c == b) ≡ true)) (λ c e. same_byte c w e) (b ∷ bs) in
        let walked = walk (λ c. (c == b) ≡ true) n at (b ∷ bs) there here k.fits k.front in
        let text : HaveContent at (at + n) = λ i x y. subst (λ c. is_content c ≡ true) (sym (eqb-true (get_or reader.source i 0) b (walked.bytes i x y))) w.content in
        when (beside.opens || beside.closes) (item_at (Delimiters (record { delimiter = b; run_length = n; at = 0; left = n; opens = beside.opens; closes = beside.closes })) at (at + n)) (item_at Plain at (at + n))
        (λ e. (walked.place, (λ k x y. subst (λ c. (c == 124) ≡ false) (sym (eqb-true (get_or reader.source k 0) b (walked.bytes k x y))) other)))
        (λ e. (walked.place, text))

    formula_sits : IsWord b → (kind : List ℕ → ItemKind) (found : Option Parsed) → ((text : List ℕ) (start end : ℕ) → Uncut (kind text) start end) → ParsedBelow (suc (length bs)) found
        → Sits (formula_or reader leaf kind at found)
    formula_sits w kind (Some found) u h = (rest_there found.following (omega arith), u _ at (place_of reader leaf found.following))
    formula_sits w kind None u h = word_next w

    more_found : (n m : ℕ) (found : Option Parsed) → n ≤ m → ParsedBelow n found → ParsedBelow m found
    more_found n m None h k = tt
    more_found n m (Some found) h k = omega arith

    dollar_sits : IsWord b → (braces : Braces) → Sits (dollar reader leaf at bs braces)
    dollar_sits w braces =
        let l = length-drop 1 bs in
        when (first_is is_dollar bs) (formula_or reader leaf DisplayMath at (display_in braces (drop 1 bs))) (formula_or reader leaf InlineMath at (inline_in braces bs))
        (λ e. formula_sits w DisplayMath (display_in braces (drop 1 bs)) (λ t a b. tt) (more_found (length (drop 1 bs)) (suc (length bs)) (display_in braces (drop 1 bs)) (omega arith) (display-shorter braces (drop 1 bs))))
        (λ e. formula_sits w InlineMath (inline_in braces bs) (λ t a b. tt) (more_found (length bs) (suc (length bs)) (inline_in braces bs) (omega arith) (inline-shorter braces bs)))

    dots_sits : IsWord b → Sits (dots reader leaf at)
    dots_sits w =
        when (starts (codes "...") (from reader leaf at)) (item_at (Written (226 ∷ 128 ∷ 166 ∷ [])) at (at + 3)) (item_at Plain at (suc at))
        (λ f. (let dot : IsWord 46 × ((46 == 124) ≡ false) = (record { content = refl; ascii = omega arith }, refl) in
        let t = words_are (λ c. (c == 124) ≡ false) 3 at (from reader leaf at) there refl (starts-leads (λ c. IsWord c × ((c == 124) ≡ false)) (codes "...") (from reader leaf at) (dot, (dot, (dot, tt))) f) in (t.0, t.1)))
        (λ f. word_next w)

    hyphens_sits : Sits (hyphens reader leaf at (prefix_len (λ c. c == 45) (from reader leaf at)))
    hyphens_sits =
        let n = prefix_len (λ c. c == 45) (from reader leaf at) in
        let t = words_text n at (from reader leaf at) there refl (prefix-leads (λ c. c == 45) IsWord (λ c e. word-is c 45 refl (omega arith) e) (from reader leaf at)) in
        let p = words_are (λ c. (c == 124) ≡ false) n at (from reader leaf at) there refl
        (prefix-leads (λ c. c == 45) (λ c. IsWord c × ((c == 124) ≡ false)) (λ c e. (word-is c 45 refl (omega arith) e, subst (λ x. (x == 124) ≡ false) (sym (eqb-true c 45 e)) refl)) (from reader leaf at)) in
        when (nat_lt n 2) (item_at Plain at (at + n)) (item_at (Written (dash_text (dashes_of n))) at (at + n)) (λ e. t) (λ e. p)

    smart_sits : is_content b ≡ true → Sits (smart_or reader leaf at b)
    smart_sits c =
        let n = prefix_len (λ c. c == 45) (from reader leaf at) in
        when (b == 46) (dots reader leaf at) (if b == 45 then hyphens reader leaf at n else if (b == 34) || (b == 39) then quote_at reader leaf at b else item_at Plain at (suc at))
        (λ e. dots_sits (word-is b 46 refl (omega arith) e))
        (λ e. when (b == 45) (hyphens reader leaf at n) (if (b == 34) || (b == 39) then quote_at reader leaf at b else item_at Plain at (suc at)) (λ f. hyphens_sits)
        (λ f. when ((b == 34) || (b == 39)) (quote_at reader leaf at b) (item_at Plain at (suc at)) (λ g. (content_next c, refl)) (λ g. text_next c)))

    -- a blank ends no line, and a line ending is a break
    no_break : (is_blank_byte b || not (is_content b)) ≡ true → blank_break_in (b ∷ bs) ≡ None → is_content b ≡ true
    no_break e none = grind (arith, eqb-true)

    -- a byte that is neither a blank nor ends a line
    both_false : (x y : Bool) → (x || not y) ≡ false → y ≡ true
    both_false x y e = grind arith

    mark_word : (is_run_delimiter b) ≡ true → IsWord b × ((b == 124) ≡ false)
    mark_word e = grind (arith, or-either, word-is, eqb-true)

    begins_sits : Sits (begins reader leaf at (b ∷ bs))
    begins_sits =
        let plain = item_at Plain at (suc at) in
        let c9 = if reader.options.smart_punctuation then smart_or reader leaf at b else plain in
        let c8 = if reader.options.math && is_dollar b then dollar reader leaf at bs (braces_after false (before reader leaf at) no_braces) else c9 in
        let c7 = if is_run_delimiter b then run_at reader leaf at b (prefix_len (λ c. c == b) (b ∷ bs)) else c8 in
        let c6 = if b == 93 then Closes (bracket false at (suc at)) else c7 in
        let c5 = if b == 91 then Opens (bracket false at (suc at)) else c6 in
        let bang = if first_is (λ c. c == 91) bs then Opens (bracket true at (at + 2)) else plain in
        let c4 = if b == 33 then bang else c5 in
        let c3 = if b == 60 then less_than reader leaf at bs else c4 in
        let c2 = if b == 96 then code_or reader leaf at (backticks (b ∷ bs)) (code_in (b ∷ bs)) else c3 in
        let c1 = if b == 38 then entity_or reader leaf at (entity_in reader.lookup bs) else c2 in
        let c0 = if b == 92 then break_or reader leaf at (backslash_break_in (b ∷ bs)) (escape_at reader leaf at bs) else c1 in
        when (is_blank_byte b || not (is_content b)) (break_or reader leaf at (blank_break_in (b ∷ bs)) plain) c0 (λ e. break_sits (blank_break_in (b ∷ bs)) plain (λ n. text_next (no_break e n)))
        (λ e0. (let c = both_false (is_blank_byte b) (is_content b) e0 in
        when (b == 92) (break_or reader leaf at (backslash_break_in (b ∷ bs)) (escape_at reader leaf at bs)) c1 (λ e. break_sits (backslash_break_in (b ∷ bs)) (escape_at reader leaf at bs) (λ n. escape_sits (word-is b 92 refl (omega arith) e)))
        (λ e1. when (b == 38) (entity_or reader leaf at (entity_in reader.lookup bs)) c2 (λ e. entity_sits (name-is b 38 refl (omega arith) e) (entity_in reader.lookup bs) (entity-names reader.lookup bs))
        (λ e2. when (b == 96) (code_or reader leaf at (backticks (b ∷ bs)) (code_in (b ∷ bs))) c3 (λ e. code_sits (code_in (b ∷ bs)) (code-shorter (b ∷ bs)) (prefix-leads is_backtick IsWord backtick_word (b ∷ bs)))
        (λ e3. when (b == 60) (less_than reader leaf at bs) c4 (λ e. less_than_sits (word-is b 60 refl (omega arith) e))
        (λ e4. when (b == 33) bang c5
        (λ e. when (first_is (λ c. c == 91) bs) (Opens (bracket true at (at + 2))) plain
        (λ g. words_text 2 at (b ∷ bs) there here (leads-cons IsWord b 1 bs (word-is b 33 refl (omega arith) e) (first-leads IsWord (λ c. c == 91) bs (λ c x. word-is c 91 refl (omega arith) x) g))) (λ g. text_next c))
        (λ e5. when (b == 91) (Opens (bracket false at (suc at))) c6 (λ e. text_next c)
        (λ e6. when (b == 93) (Closes (bracket false at (suc at))) c7 (λ e. text_next c)
        (λ e7. when (is_run_delimiter b) (run_at reader leaf at b (prefix_len (λ c. c == b) (b ∷ bs))) c8 (λ e. (let m = mark_word e in run_sits m.0 m.1))
        (λ e8. when (reader.options.math && is_dollar b) (dollar reader leaf at bs (braces_after false (before reader leaf at) no_braces)) c9
        (λ e. dollar_sits (word-is b 36 refl (omega arith) (and-right reader.options.math (is_dollar b) e)) (braces_after false (before reader leaf at) no_braces))
        (λ e9. when reader.options.smart_punctuation (smart_or reader leaf at b) plain (λ e. smart_sits c) (λ e. text_next c))))))))))))

  pub begins-at-sits : (at : ℕ) → IsPlace at → Sits (begins_at reader leaf at)
  begins-at-sits at h = grind (arith, begins_sits)

  goes_place : (t : Token) (item_end : ℕ) (more : ℕ → ℕ) → IsPlace item_end → Sits t → ((x : ℕ) → IsPlace x → IsPlace (more x)) → IsPlace (goes_on reader leaf t item_end more)
  goes_place (Stands item resume) item_end more h k i = by (is_plain item.kind && (item.start == item_end))
    where
      by : (b : Bool) → IsPlace (if b then more resume else item_end)
      by true = i resume k.0
      by false = h
  goes_place _ item_end more h k i = h

  plain_place : (n item_end : ℕ) → IsPlace item_end → IsPlace (plain_end reader leaf n item_end)
  plain_place zero item_end h = h
  plain_place (suc n) item_end h = goes_place (begins_at reader leaf item_end) item_end (plain_end reader leaf n) h (begins-at-sits item_end h) (λ x k. plain_place n x k)

  -- texts without a gap are one text
  plain_is : (kind : ItemKind) (start end : ℕ) → is_plain kind ≡ true → Uncut kind start end → HaveContent start end
  plain_is Plain start end e h = h
  plain_is kind start end e h = absurd (true≢false (sym e))

  both_content : (start mid end : ℕ) → HaveContent start mid → HaveContent mid end → HaveContent start end
  both_content start mid end h k = grind arith

  ends_there : (at resume : ℕ) (item : Item) → begins_at reader leaf at ≡ Stands item resume → is_plain item.kind ≡ true → item.end ≡ resume
  ends_there at resume item e f = (subst (Shaped reader leaf) e (begins-shaped reader leaf at (from reader leaf at))) f

  plain_content : (n start item_end : ℕ) → HaveContent start item_end → IsPlace item_end → HaveContent start (plain_end reader leaf n item_end)
  plain_content zero start item_end h w = h
  plain_content (suc n) start item_end h w = go (begins_at reader leaf item_end) refl (begins-at-sits item_end w) (λ resume q p. plain_content n start resume q p)
    where
      go : (t : Token) → begins_at reader leaf item_end ≡ t → Sits t → ((resume : ℕ) → HaveContent start resume → IsPlace resume → HaveContent start (plain_end reader leaf n resume)) → HaveContent start (goes_on reader leaf t item_end (plain_end reader leaf n))
      go (Stands item resume) e k more = by (is_plain item.kind) (item.start == item_end) refl refl
        where
          by : (x y : Bool) → is_plain item.kind ≡ x → (item.start == item_end) ≡ y → HaveContent start (if x && y then plain_end reader leaf n resume else item_end)
          by true true f g =
              more resume
              (both_content start item_end resume h (subst (HaveContent item_end) (ends_there item_end resume item e f) (subst (λ s. HaveContent s item.end) (eqb-true item.start item_end g) (plain_is item.kind item.start item.end f k.1))))
              k.0
          by _ _ f g = h
      go _ e k more = h

  longest_sits : (at : ℕ) (t : Token) → begins_at reader leaf at ≡ t → Sits t → Sits (longest reader leaf t)
  longest_sits at (Stands item resume) is h =
      when (is_plain item.kind) (item_at Plain item.start (plain_end reader leaf (length (from reader leaf resume)) resume)) (Stands item resume)
      (λ e. (
        plain_place (length (from reader leaf resume)) resume h.0,
        plain_content (length (from reader leaf resume)) item.start resume (subst (HaveContent item.start) (ends_there at resume item is e) (plain_is item.kind item.start item.end e h.1)) h.0,
      )) (λ e. h)
  longest_sits at Ends is h = tt
  longest_sits at _ is h = h

  pub token-sits : (at : ℕ) → IsPlace at → Sits (token reader leaf at)
  unfolding token
  token-sits at h = longest_sits at (begins_at reader leaf at) refl (begins-at-sits at h)
