-- In a UTF-8 text each token begins and ends at a character boundary.
use Rattle.std.specs.Prelude.{suc, zero, ◌-◌, ◌==◌, ◌&&◌, ◌||◌, not, nat_lt, if◌then◌else◌, get_or, drop, take, codes, take_while, max, IsUtf8}
use Rattle.std.specs.List.{prefix_len}
use Rattle.std.specs.Str.{IsCharBoundary}
use Rattle.std.proofs.Common.{◌≡◌, ◌<◌, ◌≤◌, ◌+◌, ℕ, Bool, true, false, List, [], ◌∷◌, length, Option, Some, None, refl, sym, ap, ◌∙◌, subst, arith, length-drop, drop-drop, eqb-true, true≢false, append-nil, rules}
use Rattle.std.proofs.lemmas.Bool.{eq-eqb, ltb-true, ltb-false}
use Rattle.std.proofs.lemmas.List.{get_or-drop}
use Rattle.std.proofs.Math.Seq.{take-length}
use Rattle.std.proofs.lemmas.Str.{IsCharBoundary-after_ascii, IsCharBoundary-before_ascii, IsCharBoundary-end}
use Rattle.cmark_grammar.specs.Answers.{Lookup}
use Rattle.cmark_grammar.specs.Autolinks.{autolink_in}
use Rattle.cmark_grammar.specs.CodeSpans.{is_backtick, backticks, code_in, code_text}
use Rattle.cmark_grammar.specs.Columns.{is_blank_byte}
use Rattle.cmark_grammar.specs.Dashes.{dashes_of, dash_text}
use Rattle.cmark_grammar.specs.Emphasis.{Run}
use Rattle.cmark_grammar.specs.Flanking.{flanking, is_run_delimiter}
use Rattle.cmark_grammar.specs.Formulas.{is_dollar, Braces, no_braces, braces_after}
use Rattle.cmark_grammar.specs.InlineHtml.{after_markup}
use Rattle.cmark_grammar.specs.InlineTokens.{as_in, item_at, bracket, is_plain, from, before, place_of, size_to, character_before, character_at, line_begins, read_on, break_or, code_or, escaped_backtick, escape_at, entity_or, autolink_or, tag_or_text, source_from, markup_or, less_than, run_at, formula_or, dollar, dots, hyphens, smart_or, begins, begins_at, goes_on, plain_end, longest, token}
use Rattle.cmark_grammar.specs.Items.{ItemKind, Plain, Own, Code, Written, Delimiters, Autolink, SoftBreak, HardBreak, Token, Stands, Opens, Closes, Ends}
use Rattle.cmark_grammar.specs.LabelsOverLines.{piped}
use Rattle.cmark_grammar.specs.LeafText.{InTurn, Leaf, end_of}
use Rattle.cmark_grammar.specs.Letters.{first_is, starts}
use Rattle.cmark_grammar.specs.LineBreaks.{LineBreak, backslash_break_in, blank_break_in}
use Rattle.cmark_grammar.specs.Lines.{is_content}
use Rattle.cmark_grammar.specs.LinkDefinitions.{Parsed, after_leading_blanks}
use Rattle.cmark_grammar.specs.Options.{Options}
use Rattle.cmark_grammar.specs.Readers.{Reader}
use Rattle.cmark_grammar.specs.Tags.{after_tag, no_prefix}
use Rattle.cmark_grammar.specs.Tokens.{Entity, entity_in, slice}
use Rattle.cmark_inline_model.specs.PlacedTokens.{one_stretch, text_reader}
use Rattle.cmark_inline_model.proofs.BreakRests.{BreakTaken, blank-taken, backslash-taken, blank_word}
use Rattle.cmark_inline_model.proofs.FindRests.{IsAfter, ParsedAfter, following-rest, autolink-following, code-following, display-following, inline-following, tag-following}
use Rattle.cmark_inline_model.proofs.LinkRests.{LeavesAfter, markup-following}
use Rattle.cmark_inline_model.proofs.TokenLaws.{Onward, begins-at-onward}
use Rattle.cmark_inline_model.proofs.WordBytes.{IsWord, EntityLeads, Leads, and-right, entity-leads, first-leads, leads-cons, or-either, prefix-leads, starts-leads, while-leads, word-is}
use Rattle.cmark_block_model.proofs.RowEdges.{Front}
use Rattle.cmark_inline_model.proofs.ShorterRests.{prefix-some}

-- the byte before the last of some bytes that have this property
pub leads-last : (Q : ℕ → Type 0) (m : ℕ) (l : List ℕ) → Leads Q (suc m) l → (m < length l) × Q (get_or l m 0)
leads-last Q m l h = (h.fits, go m l h.fits h.front)
  where
    go : (m : ℕ) (l : List ℕ) → suc m ≤ length l → Front Q (suc m) l → Q (get_or l m 0)
    go m [] f k = absurd (omega arith)
    go zero (b ∷ l) f k = k.0
    go (suc m) (b ∷ l) f k = go m l (omega arith) k.1

pub leads-each : (Q : ℕ → Type 0) (n : ℕ) (l : List ℕ) → Leads Q n l → (i : ℕ) → i < n → Q (get_or l i 0)
leads-each Q n l h i lt = go n l h.fits h.front i lt
  where
    go : (n : ℕ) (l : List ℕ) → n ≤ length l → Front Q n l → (i : ℕ) → i < n → Q (get_or l i 0)
    go n [] f k i lt = absurd (omega arith)
    go zero (b ∷ l) f k i lt = absurd (omega arith)
    go (suc n) (b ∷ l) f k zero lt = k.0
    go (suc n) (b ∷ l) f k (suc i) lt = go n l (omega arith) k.1 i (omega arith)

module _ (options : Options) (lookup : Lookup) (is_cell : Bool) (text : List ℕ) (utf8 : IsUtf8 text) where
  abbrev one : Reader
  one = text_reader options lookup text

  abbrev alone : Leaf
  alone = one_stretch is_cell text

  -- a character begins there, or the text ends
  abbrev pub Edge : ℕ → Type 0
  Edge p = IsCharBoundary text p

  abbrev pub Ascii : ℕ → Type 0
  Ascii i = (i < length text) × (get_or text i 0 < 128)

  -- and the byte there ends no line
  abbrev pub Word : ℕ → Type 0
  Word i = (i < length text) × IsWord (get_or text i 0)

  pub at-ascii : (i : ℕ) → Ascii i → Edge i
  at-ascii i a = IsCharBoundary-before_ascii text i a.0 a.1

  pub following-ascii : (i : ℕ) → Ascii i → Edge (suc i)
  following-ascii i a = subst Edge (let e : i + 1 ≡ suc i = omega arith in e) (IsCharBoundary-after_ascii text i utf8 a.0 a.1)

  -- the bytes of a run, and the first and the last byte of an autolink
  abbrev pub Bytes : ItemKind → (start end : ℕ) → Type 0
  Bytes (Delimiters run) start end = (i : ℕ) → start ≤ i → i < end → Word i
  Bytes (Autolink uri) start end = Ascii start × Ascii (end - 1)
  Bytes _ start end = Unit {0}

  -- a text that continues with further bytes is judged at its end
  abbrev pub Edged : Token → Type 0
  Edged (Stands x resume) = Edge x.start × (is_plain x.kind ≡ false → (0 < x.end) × Edge x.end × Edge resume × Bytes x.kind x.start x.end)
  Edged (Opens o) = Edge o.start × Edge o.end × Word o.start × (o.start < o.end) × (o.is_image ≡ false → o.end ≡ suc o.start)
  Edged (Closes c) = Edge c.start × Edge c.end
  Edged Ends = Unit {0}

  when : (b : Bool) (x y : Token) → (b ≡ true → Edged x) → (b ≡ false → Edged y) → Edged (if b then x else y)
  when true x y h k = h refl
  when false x y h k = k refl

  from-text : (k : ℕ) → from one alone k ≡ drop k text
  from-text k =
      append-nil (slice text (max k 0) (length text)) ∙ ap (λ m. slice text m (length text)) (let e : max k 0 ≡ k = omega arith in e)
      ∙ (let d = length-drop k text in ap (λ n. take n (drop k text)) (let e : length text - k ≡ length (drop k text) = omega arith in e))
      ∙ take-length (drop k text)

  plain : (start end : ℕ) → Edge start → Edged (item_at Plain start end)
  plain start end e = (e, λ n. absurd (true≢false n))

  module _ (k : ℕ) (l : List ℕ) (here : drop k text ≡ l) where
    byte-at : (i : ℕ) → get_or text (k + i) 0 ≡ get_or l i 0
    byte-at i = sym (get_or-drop k text i 0) ∙ ap (λ m. get_or m i 0) here

    fits : (i : ℕ) → i < length l → k + i < length text
    fits i lt = let d = length-drop k text in let n = ap length here in omega arith

    ascii-at : (i : ℕ) → i < length l → get_or l i 0 < 128 → Ascii (k + i)
    ascii-at i lt a = (fits i lt, subst (λ c. c < 128) (sym (byte-at i)) a)

    -- after any number of words
    words-edge : (n : ℕ) → Edge k → Leads IsWord n l → Edge (k + n)
    words-edge zero e h = subst Edge (let q : k ≡ k + 0 = omega arith in q) e
    words-edge (suc n) e h =
        let b = leads-last IsWord n l h in
        subst Edge (let q : suc (k + n) ≡ k + suc n = omega arith in q) (following-ascii (k + n) (ascii-at n b.0 b.1.ascii))

    word-at : (i : ℕ) → i < length l → IsWord (get_or l i 0) → Word (k + i)
    word-at i lt w = (fits i lt, subst IsWord (sym (byte-at i)) w)

    words-bytes : (n : ℕ) → Leads IsWord n l → (i : ℕ) → k ≤ i → i < k + n → Word i
    words-bytes n h i a b =
        let w = leads-each IsWord n l h (i - k) (omega arith) in
        let f = h.fits in
        subst Word (let q : k + (i - k) ≡ i = omega arith in q) (word-at (i - k) (omega arith) w)

    rest-place : (rest : List ℕ) (n : ℕ) → k ≤ length text → rest ≡ drop n l → n ≤ length l → place_of one alone rest ≡ k + n
    rest-place rest n le e w = grind (arith, length-drop)

    rest-edge : (rest : List ℕ) → IsAfter l rest → Edge (place_of one alone rest)
    rest-edge rest h =
        let i = h.inside in
        subst Edge (sym (rest-place rest (suc h.place) (let f = fits h.place i in omega arith) h.rest i)) (subst Edge (let q : suc (k + h.place) ≡ k + suc h.place = omega arith in q) (following-ascii (k + h.place) (ascii-at h.place i h.ascii)))

    rest-some : (rest : List ℕ) → IsAfter l rest → 0 < place_of one alone rest
    rest-some rest h =
        let i = h.inside in
        let p = rest-place rest (suc h.place) (let f = fits h.place i in omega arith) h.rest i in
        omega arith

  place-drop : (j : ℕ) → j ≤ length text → place_of one alone (drop j text) ≡ j
  place-drop j le = let d = length-drop j text in let e : length text - length (drop j text) ≡ j = omega arith in e

  -- the offset at which reading continues after an offset
  pub read-on-edge : (x : ℕ) → Edge x → Edge (read_on one alone x)
  read-on-edge x e = go (line_begins one alone x)
    where
      go : (b : Bool) → Edge (place_of one alone (if b then after_leading_blanks (from one alone x) else from one alone x))
      go true =
          let n = length (take_while is_blank_byte (drop x text)) in
          let k = while-leads IsWord is_blank_byte blank_word (drop x text) in
          let p : place_of one alone (after_leading_blanks (from one alone x)) ≡ x + n =
          ap (λ l. place_of one alone (after_leading_blanks l)) (from-text x) ∙ rest-place x (drop x text) refl (after_leading_blanks (drop x text)) n e.0 refl k.fits in
          subst Edge (sym p) (words-edge x (drop x text) refl n e k)
      go false = subst Edge (sym (ap (place_of one alone) (from-text x) ∙ place-drop x e.0)) e

  module _ (k b : ℕ) (bs : List ℕ) (here : drop k text ≡ b ∷ bs) (edge : Edge k) where
    from-own : from one alone k ≡ b ∷ bs
    from-own = from-text k ∙ here

    first : IsWord b → Ascii k
    first w = subst Ascii (let q : k + 0 ≡ k = omega arith in q) (ascii-at k (b ∷ bs) here 0 (omega arith) w.ascii)

    second : IsWord b → Edge (suc k)
    second w = following-ascii k (first w)

    -- an item over words, other than a longer text
    words-edged : (kind : ItemKind) (n : ℕ) → 0 < n → Leads IsWord n (b ∷ bs) → ((i : ℕ) → k ≤ i → i < k + n → Word i) → (((i : ℕ) → k ≤ i → i < k + n → Word i) → Bytes kind k (k + n)) → Edged (item_at kind k (k + n))
    words-edged kind n some h all f = (edge, λ p. (let e = words-edge k (b ∷ bs) here n edge h in (omega arith, e, e, f all)))

    one-edged : (kind : ItemKind) → IsWord b → Bytes kind k (suc k) → Edged (item_at kind k (suc k))
    one-edged kind w f = (edge, λ p. (omega arith, second w, second w, f))

    break-edged : (found : Option LineBreak) (other : Token) → BreakTaken (b ∷ bs) found → (found ≡ None → Edged other) → Edged (break_or one alone k found other)
    break-edged None other t h = h refl
    break-edged (Some found) other t h = (words-edge k (b ∷ bs) here found.before edge front, λ p. ((let z = size in let q : 0 < k + size_to one alone k found.following = omega arith in q), ends, read-on-edge end ends, bytes found.is_hard))
      where
        end : ℕ
        end = k + size_to one alone k found.following

        front : Leads IsWord found.before (b ∷ bs)
        front = fewer found.before t.blanks (b ∷ bs) t.begins t.leads
          where
            fewer : (m n : ℕ) (l : List ℕ) → m ≤ n → Leads IsWord n l → Leads IsWord m l
            fewer m n l le h = record { front = less m n l le h.front; fits = let w = h.fits in omega arith }
              where
                less : (m n : ℕ) (l : List ℕ) → m ≤ n → Front IsWord n l → Front IsWord m l
                less m n [] le f = tt
                less zero n (c ∷ l) le f = tt
                less (suc m) zero (c ∷ l) le f = absurd (omega arith)
                less (suc m) (suc n) (c ∷ l) le f = (f.0, less m n l (omega arith) f.1)

        last : ℕ
        last = t.blanks + t.more

        size : size_to one alone k found.following ≡ suc last
        size = grind (arith, length-drop, from-own, last)

        ends : Edge end
        ends =
            let f = t.fits in
            subst Edge (ap (λ n. k + n) (sym size)) (subst Edge (let q : suc (k + last) ≡ k + suc last = omega arith in q) (following-ascii (k + last) (ascii-at k (b ∷ bs) here last (omega arith) t.ascii)))

        bytes : (hard : Bool) → Bytes (if hard then HardBreak else SoftBreak) (k + found.before) end
        bytes true = tt
        bytes false = tt

    rest-edged : (kind : ItemKind) (rest : List ℕ) → IsAfter (b ∷ bs) rest → Bytes kind k (place_of one alone rest) → Edged (item_at kind k (place_of one alone rest))
    rest-edged kind rest h f = (edge, λ p. (let e = rest-edge k (b ∷ bs) here rest h in (rest-some k (b ∷ bs) here rest h, e, e, f)))

    code-edged : (found : Option Parsed) → ParsedAfter (b ∷ bs) found → 0 < backticks (b ∷ bs) → Leads IsWord (backticks (b ∷ bs)) (b ∷ bs) → Edged (code_or one alone k (backticks (b ∷ bs)) found)
    code-edged (Some found) h some w = rest-edged (Code (code_text (as_in is_cell found.bytes))) found.following h tt
    code-edged None h some w = words-edged Own (backticks (b ∷ bs)) some w (words-bytes k (b ∷ bs) here (backticks (b ∷ bs)) w) (λ a. tt)

    entity-edged : IsWord b → (entity : Option Entity) → EntityLeads bs entity → Edged (entity_or one alone k entity)
    entity-edged w entity h = grind (arith, leads-cons, words-edge, plain)

    backtick-word : (c : ℕ) → is_backtick c ≡ true → IsWord c
    backtick-word c e = word-is c 96 refl (omega arith) e

    next : drop (suc k) text ≡ bs
    next = ap (λ j. drop j text) (let q : suc k ≡ k + 1 = omega arith in q) ∙ sym (drop-drop 1 k text) ∙ ap (drop 1) here

    escape-edged : IsWord b → Edged (escape_at one alone k bs)
    escape-edged w = search (rules, when, escaped, plain, piped-edge, second)
      where
        escaped : (found : Option Parsed) → Edged (escaped_backtick one alone (suc k) (backticks bs) found)
        escaped (Some found) = plain (suc k) (suc (suc k)) (second w)
        escaped None = (second w, λ p. (let e = words-edge (suc k) bs next (backticks bs) (second w) (prefix-leads is_backtick IsWord backtick-word bs) in (omega arith, e, e, tt)))

        slash : IsWord 92
        slash = record { content = refl; ascii = omega arith }

        pipe : IsWord 124
        pipe = record { content = refl; ascii = omega arith }

        piped-edge : (is_cell && starts piped bs) ≡ true → Edge (k + 2)
        piped-edge f =
            let two = starts-leads IsWord piped bs (slash, (pipe, tt)) (and-right is_cell (starts piped bs) f) in
            let a = leads-each IsWord 2 bs two 0 (omega arith) in
            let fit = two.fits in
            subst Edge (let q : suc (suc k + 0) ≡ k + 2 = omega arith in q) (following-ascii (suc k + 0) (ascii-at (suc k) bs next 0 (omega arith) a.ascii))

    tag-edged : IsWord b → (found : Option (List ℕ)) → ((rest : List ℕ) → found ≡ Some rest → IsAfter (b ∷ bs) rest) → Edged (tag_or_text one alone k found)
    tag-edged w found h = grind (arith, one-edged, rest-edged)

    -- after `<`
    autolink-edged : IsWord b → (found : Option Parsed) (other : Token) → ParsedAfter bs found → Edged other → Edged (autolink_or one alone k found other)
    autolink-edged w None other h o = o
    autolink-edged w (Some found) other h o =
        let i = h.inside in
        let p : place_of one alone found.following ≡ suc k + suc h.place = rest-place (suc k) bs next found.following (suc h.place) (second w).0 h.rest i in
        let last : Ascii (suc k + h.place) = ascii-at (suc k) bs next h.place i h.ascii in
        let e : Edge (place_of one alone found.following) = rest-edge (suc k) bs next found.following h in
        (edge, λ n. (rest-some (suc k) bs next found.following h, e, e, (first w, subst Ascii (let q : suc k + h.place ≡ place_of one alone found.following - 1 = omega arith in q) last)))

    source-own : source_from one alone k ≡ b ∷ bs
    source-own =
        (let d = length-drop k text in ap (λ n. take n (drop k text)) (let e : (length text - 0) - k ≡ length (drop k text) = omega arith in e))
        ∙ take-length (drop k text) ∙ here

    markup-edged : (found : Option (List ℕ)) (other : Token) → LeavesAfter (b ∷ bs) found → Edged other → Edged (markup_or one alone k found other)
    markup-edged None other h o = o
    markup-edged (Some rest) other h o =
        let i = h.inside in
        let d = length-drop (suc h.place) (b ∷ bs) in
        let r = ap length h.rest in
        let size : length (source_from one alone k) - length rest ≡ suc h.place = ap (λ l. length l - length rest) source-own ∙ (let q : length (b ∷ bs) - length rest ≡ suc h.place = omega (arith, i, d, r) in q) in
        let e : Edge (k + (length (source_from one alone k) - length rest)) =
        subst (λ n. Edge (k + n)) (sym size) (subst Edge (let q : suc (k + h.place) ≡ k + suc h.place = omega arith in q) (following-ascii (k + h.place) (ascii-at k (b ∷ bs) here h.place i h.ascii))) in
        (edge, λ n. ((let q : 0 < k + (length (source_from one alone k) - length rest) = omega arith in q), e, read-on-edge (k + (length (source_from one alone k) - length rest)) e, tt))

    less_than-edged : IsWord b → Edged (less_than one alone k bs)
    less_than-edged w =
        let tag = tag_or_text one alone k (after_tag no_prefix (from one alone k)) in
        let others = markup_or one alone k (after_markup (source_from one alone k)) tag in
        when (first_is (λ c. c == 92) bs) (item_at Plain k (suc k)) (autolink_or one alone k (autolink_in options.email_autolinks bs) others) (λ e. plain k (suc k) edge)
        (λ e. autolink-edged w (autolink_in options.email_autolinks bs) others (autolink-following options.email_autolinks bs)
        (markup-edged (after_markup (source_from one alone k)) tag (subst (λ l. LeavesAfter (b ∷ bs) (after_markup l)) (sym source-own) (markup-following (b ∷ bs)))
        (tag-edged w (after_tag no_prefix (from one alone k)) (λ rest f. tag-following (b ∷ bs) rest (ap (after_tag no_prefix) (sym from-own) ∙ f)))))

    formula-edged : IsWord b → (kind : List ℕ → ItemKind) → ((t : List ℕ) (s e : ℕ) → Bytes (kind t) s e) → (found : Option Parsed) → ParsedAfter (b ∷ bs) found → Edged (formula_or one alone kind k found)
    formula-edged w kind f (Some found) h = rest-edged (kind _) found.following h (f _ k (place_of one alone found.following))
    formula-edged w kind f None h = one-edged Own w tt

    more-following : (c : ℕ) (cs : List ℕ) (found : Option Parsed) → ParsedAfter cs found → ParsedAfter (c ∷ cs) found
    more-following c cs None h = tt
    more-following c cs (Some found) h = following-rest (c ∷ cs) cs found.following (1, refl) h

    twice-following : (found : Option Parsed) → ParsedAfter (drop 1 bs) found → ParsedAfter (b ∷ bs) found
    twice-following None h = tt
    twice-following (Some found) h = following-rest (b ∷ bs) (drop 1 bs) found.following (2, refl) h

    dollar-edged : IsWord b → (braces : Braces) → Edged (dollar one alone k bs braces)
    dollar-edged w braces = grind (arith, when, formula-edged, twice-following, display-following, more-following, inline-following)

    -- a run
    run-word : (c : ℕ) → IsWord b → (c == b) ≡ true → IsWord c
    run-word c w e = subst IsWord (sym (eqb-true c b e)) w

    run-edged : IsWord b → Edged (run_at one alone k b (prefix_len (λ c. c == b) (b ∷ bs)))
    run-edged w =
        let n = prefix_len (λ c. c == b) (b ∷ bs) in
        let beside = flanking options b n (character_before one alone k) (character_at one alone (k + n)) in
        let run : Run = record { delimiter = b; run_length = n; at = 0; left = n; opens = beside.opens; closes = beside.closes } in
        let h = prefix-leads (λ c. c == b) IsWord (λ c e. run-word c w e) (b ∷ bs) in
        when (beside.opens || beside.closes) (item_at (Delimiters run) k (k + n)) (item_at Plain k (k + n)) (λ e. words-edged (Delimiters run) n (prefix-some (λ c. c == b) b bs (eq-eqb b b refl)) h (words-bytes k (b ∷ bs) here n h) (λ a. a)) (λ e. plain k (k + n) edge)

    dots-edged : Edged (dots one alone k)
    dots-edged =
        let dot : IsWord 46 = record { content = refl; ascii = omega arith } in
        let written : ItemKind = Written (226 ∷ 128 ∷ 166 ∷ []) in
        when (starts (codes "...") (from one alone k)) (item_at written k (k + 3)) (item_at Plain k (suc k))
        (λ e. (let h = starts-leads IsWord (codes "...") (b ∷ bs) (dot, (dot, (dot, tt))) (ap (starts (codes "...")) (sym from-own) ∙ e) in words-edged written 3 (omega arith) h (words-bytes k (b ∷ bs) here 3 h) (λ a. tt))) (λ e. plain k (suc k) edge)

    hyphens-edged : Edged (hyphens one alone k (prefix_len (λ c. c == 45) (from one alone k)))
    hyphens-edged =
        let n = prefix_len (λ c. c == 45) (from one alone k) in
        let h : Leads IsWord n (b ∷ bs) = subst (λ l. Leads IsWord n l) from-own (prefix-leads (λ c. c == 45) IsWord (λ c e. word-is c 45 refl (omega arith) e) (from one alone k)) in
        when (nat_lt n 2) (item_at Plain k (k + n)) (item_at (Written (dash_text (dashes_of n))) k (k + n)) (λ e. plain k (k + n) edge)
        (λ e. words-edged (Written (dash_text (dashes_of n))) n (let l = ltb-false n 2 e in omega arith) h (words-bytes k (b ∷ bs) here n h) (λ a. tt))

    quote-word : ((b == 34) || (b == 39)) ≡ true → IsWord b
    quote-word e = grind (arith, or-either, word-is)

    smart-edged : Edged (smart_or one alone k b)
    smart-edged = search (rules, when, dots-edged, hyphens-edged, one-edged, quote-word, plain)

    mark-word : is_run_delimiter b ≡ true → IsWord b
    mark-word e = grind (arith, or-either, word-is)

    -- a bracket of n words
    opener-edges : (is_image : Bool) (n : ℕ) → 0 < n → (is_image ≡ false → k + n ≡ suc k) → Leads IsWord n (b ∷ bs) → Edged (Opens (bracket is_image k (k + n)))
    opener-edges is_image n some short h =
        (edge, words-edge k (b ∷ bs) here n edge h, words-bytes k (b ∷ bs) here n h k (omega arith) (omega arith), omega arith, short)

    opener-one : IsWord b → Edged (Opens (bracket false k (suc k)))
    opener-one w = (edge, second w, (let a = first w in (a.0, subst IsWord (sym (byte-at-first)) w)), omega arith, λ e. refl)
      where
        byte-at-first : get_or text k 0 ≡ b
        byte-at-first = ap (λ j. get_or text j 0) (let q : k ≡ k + 0 = omega arith in q) ∙ byte-at k (b ∷ bs) here 0

    begins-edged : Edged (begins one alone k (b ∷ bs))
    begins-edged =
        let text_item = item_at Plain k (suc k) in
        let c9 = if options.smart_punctuation then smart_or one alone k b else text_item in
        let c8 = if options.math && is_dollar b then dollar one alone k bs (braces_after false (before one alone k) no_braces) else c9 in
        let c7 = if is_run_delimiter b then run_at one alone k b (prefix_len (λ c. c == b) (b ∷ bs)) else c8 in
        let c6 = if b == 93 then Closes (bracket false k (suc k)) else c7 in
        let c5 = if b == 91 then Opens (bracket false k (suc k)) else c6 in
        let bang = if first_is (λ c. c == 91) bs then Opens (bracket true k (k + 2)) else text_item in
        let c4 = if b == 33 then bang else c5 in
        let c3 = if b == 60 then less_than one alone k bs else c4 in
        let c2 = if b == 96 then code_or one alone k (backticks (b ∷ bs)) (code_in (b ∷ bs)) else c3 in
        let c1 = if b == 38 then entity_or one alone k (entity_in lookup bs) else c2 in
        let c0 = if b == 92 then break_or one alone k (backslash_break_in (b ∷ bs)) (escape_at one alone k bs) else c1 in
        when (is_blank_byte b || not (is_content b)) (break_or one alone k (blank_break_in (b ∷ bs)) text_item) c0 (λ e. break-edged (blank_break_in (b ∷ bs)) text_item (blank-taken (b ∷ bs)) (λ n. plain k (suc k) edge))
        (λ e0. when (b == 92) (break_or one alone k (backslash_break_in (b ∷ bs)) (escape_at one alone k bs)) c1
        (λ e. break-edged (backslash_break_in (b ∷ bs)) (escape_at one alone k bs) (backslash-taken (b ∷ bs)) (λ n. escape-edged (word-is b 92 refl (omega arith) e)))
        (λ e1. when (b == 38) (entity_or one alone k (entity_in lookup bs)) c2 (λ e. entity-edged (word-is b 38 refl (omega arith) e) (entity_in lookup bs) (entity-leads lookup bs))
        (λ e2. when (b == 96) (code_or one alone k (backticks (b ∷ bs)) (code_in (b ∷ bs))) c3 (λ e. code-edged (code_in (b ∷ bs)) (code-following (b ∷ bs)) (prefix-some is_backtick b bs e) (prefix-leads is_backtick IsWord backtick-word (b ∷ bs)))
        (λ e3. when (b == 60) (less_than one alone k bs) c4 (λ e. less_than-edged (word-is b 60 refl (omega arith) e))
        (λ e4. when (b == 33) bang c5
        (λ e. when (first_is (λ c. c == 91) bs) (Opens (bracket true k (k + 2))) text_item
        (λ g. opener-edges true 2 (omega arith) (λ q. absurd (true≢false q)) (leads-cons IsWord b 1 bs (word-is b 33 refl (omega arith) e) (first-leads IsWord (λ c. c == 91) bs (λ c x. word-is c 91 refl (omega arith) x) g))) (λ g. plain k (suc k) edge))
        (λ e5. when (b == 91) (Opens (bracket false k (suc k))) c6 (λ e. opener-one (word-is b 91 refl (omega arith) e))
        (λ e6. when (b == 93) (Closes (bracket false k (suc k))) c7 (λ e. (edge, second (word-is b 93 refl (omega arith) e)))
        (λ e7. when (is_run_delimiter b) (run_at one alone k b (prefix_len (λ c. c == b) (b ∷ bs))) c8 (λ e. run-edged (mark-word e))
        (λ e8. when (options.math && is_dollar b) (dollar one alone k bs (braces_after false (before one alone k) no_braces)) c9
        (λ e. dollar-edged (word-is b 36 refl (omega arith) (and-right options.math (is_dollar b) e)) (braces_after false (before one alone k) no_braces))
        (λ e9. when options.smart_punctuation (smart_or one alone k b) text_item (λ e. smart-edged) (λ e. plain k (suc k) edge)))))))))))

  pub begins-at-edged : (k : ℕ) → Edge k → Edged (begins_at one alone k)
  begins-at-edged k e = subst (λ l. Edged (begins one alone k l)) (sym (from-text k)) (go (drop k text) refl)
    where
      go : (l : List ℕ) → drop k text ≡ l → Edged (begins one alone k l)
      go [] f = tt
      go (b ∷ bs) f = begins-edged k b bs f e

  -- ## Texts that continue

  -- a text that continues begins inside a character
  high-plain : (k b : ℕ) (bs : List ℕ) → 128 ≤ b → begins one alone k (b ∷ bs) ≡ item_at Plain k (suc k)
  high-plain k b bs h = go
    where
      not-is : (c : ℕ) → c < 128 → (b == c) ≡ false
      not-is c lt = grind (arith, eqb-true)

      abbrev-if : (x : Bool) (t other : Token) → x ≡ false → (if x then t else other) ≡ other
      abbrev-if true t other e = cc
      abbrev-if false t other e = refl

      or-false : (x y : Bool) → x ≡ false → y ≡ false → (x || y) ≡ false
      or-false true y e f = cc
      or-false false y e f = f

      and-false : (x y : Bool) → y ≡ false → (x && y) ≡ false
      and-false true y e = e
      and-false false y e = refl

      content : not (is_content b) ≡ false
      content = cc (not-is 10 (omega arith), not-is 13 (omega arith))

      smart : (x : Bool) → (if x then smart_or one alone k b else item_at Plain k (suc k)) ≡ item_at Plain k (suc k)
      smart x = grind (arith, abbrev-if, not-is, or-false)

      go : begins one alone k (b ∷ bs) ≡ item_at Plain k (suc k)
      go =
          abbrev-if (is_blank_byte b || not (is_content b)) _ _ (or-false (is_blank_byte b) (not (is_content b)) (or-false (b == 32) (b == 9) (not-is 32 (omega arith)) (not-is 9 (omega arith))) content)
          ∙ abbrev-if (b == 92) _ _ (not-is 92 (omega arith))
          ∙ abbrev-if (b == 38) _ _ (not-is 38 (omega arith))
          ∙ abbrev-if (b == 96) _ _ (not-is 96 (omega arith))
          ∙ abbrev-if (b == 60) _ _ (not-is 60 (omega arith))
          ∙ abbrev-if (b == 33) _ _ (not-is 33 (omega arith))
          ∙ abbrev-if (b == 91) _ _ (not-is 91 (omega arith))
          ∙ abbrev-if (b == 93) _ _ (not-is 93 (omega arith))
          ∙ abbrev-if (is_run_delimiter b) _ _
          (or-false (b == 42) ((b == 95) || ((b == 126) || ((b == 94) || (b == 61)))) (not-is 42 (omega arith)) (or-false (b == 95) ((b == 126) || ((b == 94) || (b == 61))) (not-is 95 (omega arith))
          (or-false (b == 126) ((b == 94) || (b == 61)) (not-is 126 (omega arith)) (or-false (b == 94) (b == 61) (not-is 94 (omega arith)) (not-is 61 (omega arith))))))
          ∙ abbrev-if (options.math && is_dollar b) _ _ (and-false options.math (is_dollar b) (not-is 36 (omega arith)))
          ∙ smart options.smart_punctuation

  -- texts do not continue here
  stop-edge : (k : ℕ) → k ≤ length text → ((start : ℕ) (resume : ℕ) → begins_at one alone k ≡ Stands (record { kind = Plain; start = k; end = start }) resume → ⊥) → Edge k
  stop-edge k le stops = go (drop k text) refl
    where
      go : (l : List ℕ) → drop k text ≡ l → Edge k
      go [] e = subst Edge (let d = length-drop k text in let n = ap length e in let q : length text ≡ k = omega arith in q) (IsCharBoundary-end text)
      go (b ∷ bs) e = by (nat_lt b 128) refl
        where
          by : (x : Bool) → nat_lt b 128 ≡ x → Edge k
          by true f = at-ascii k (subst Ascii (let q : k + 0 ≡ k = omega arith in q) (ascii-at k (b ∷ bs) e 0 (omega arith) (ltb-true b 128 f)))
          by false f = absurd (stops (suc k) (suc k) (ap (begins one alone k) (from-text k ∙ e) ∙ high-plain k b bs (ltb-false b 128 f)))

  turn : InTurn 0 alone.stretches (length text)
  turn = (omega arith, omega arith, omega arith)

  end-is : end_of alone.stretches ≡ length text
  end-is = let q : length text - 0 ≡ length text = omega arith in q

  pub plain-end-edge : (n k : ℕ) → k ≤ length text → length text - k ≤ n → Edge (plain_end one alone n k)
  plain-end-edge zero k le few = subst Edge (let q : length text ≡ k = omega arith in q) (IsCharBoundary-end text)
  plain-end-edge (suc n) k le few = go (begins_at one alone k) refl (λ resume a b. plain-end-edge n resume a b)
    where
      go : (t : Token) → begins_at one alone k ≡ t → ((resume : ℕ) → resume ≤ length text → length text - resume ≤ n → Edge (plain_end one alone n resume)) → Edge (goes_on one alone t k (plain_end one alone n))
      go (Stands x resume) e ih = by (is_plain x.kind && (x.start == k)) refl
        where
          by : (z : Bool) → (is_plain x.kind && (x.start == k)) ≡ z → Edge (if z then plain_end one alone n resume else k)
          by true f =
              let o = subst (Onward one alone (length text) turn k) e (begins-at-onward one alone (length text) turn k) in
              let further : k < resume = o.1 in
              let within : resume ≤ end_of alone.stretches = o.2 in
              let s = end-is in
              ih resume (omega arith) (omega arith)
          by false f = grind (arith, stop-edge, eq-eqb)
      go _ e ih = stop-edge k le (λ end later g. cc)

  plain-end-following : (n k : ℕ) → k ≤ plain_end one alone n k
  plain-end-following zero k = omega arith
  plain-end-following (suc n) k = go (begins_at one alone k) refl (plain-end-following n)
    where
      go : (t : Token) → begins_at one alone k ≡ t → ((resume : ℕ) → resume ≤ plain_end one alone n resume) → k ≤ goes_on one alone t k (plain_end one alone n)
      go (Stands x resume) e ih = by (is_plain x.kind && (x.start == k))
        where
          by : (z : Bool) → k ≤ (if z then plain_end one alone n resume else k)
          by true =
              let o = subst (Onward one alone (length text) turn k) e (begins-at-onward one alone (length text) turn k) in
              let further : k < resume = o.1 in
              let i = ih resume in
              omega arith
          by false = omega arith
      go _ e ih = omega arith

  -- each item begins and ends at a character boundary, and so does the text after it
  abbrev pub Whole : Token → Type 0
  Whole (Stands x resume) = Edge x.start × (0 < x.end) × Edge x.end × Edge resume × Bytes x.kind x.start x.end
  Whole (Opens o) = Edged (Opens o)
  Whole (Closes c) = Edged (Closes c)
  Whole Ends = Unit {0}

  pub token-whole : (k : ℕ) → Edge k → Whole (token one alone k)
  unfolding token
  token-whole k e = go (begins_at one alone k) refl (begins-at-edged k e)
    where
      go : (t : Token) → begins_at one alone k ≡ t → Edged t → Whole (longest one alone t)
      go (Opens o) f h = h
      go (Closes c) f h = h
      go Ends f h = tt
      go (Stands x resume) f h = by (is_plain x.kind) refl
        where
          by : (z : Bool) → is_plain x.kind ≡ z → Whole (if z then item_at Plain x.start (plain_end one alone (length (from one alone resume)) resume) else Stands x resume)
          by false g = let q = h.1 g in (h.0, q.0, q.1, q.2, q.3)
          by true g =
              let o = subst (Onward one alone (length text) turn k) f (begins-at-onward one alone (length text) turn k) in
              let further : k < resume = o.1 in
              let within : resume ≤ end_of alone.stretches = o.2 in
              let s = end-is in
              let n = length (from one alone resume) in
              let m : n ≡ length text - resume = ap length (from-text resume) ∙ length-drop resume text in
              let ends = plain-end-edge n resume (omega arith) (omega arith) in
              let following = plain-end-following n resume in
              (h.0, omega arith, ends, ends, tt)
