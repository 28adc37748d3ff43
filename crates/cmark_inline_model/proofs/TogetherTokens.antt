-- The bytes of a text, of an autolink and of a tag on one line are without a gap in the source.
use Rattle.std.specs.Prelude.{suc, zero, ◌-◌, ◌==◌, ◌&&◌, ◌||◌, not, nat_lt, if◌then◌else◌, get_or, drop, take}
use Rattle.std.specs.List.{prefix_len}
use Rattle.std.proofs.Common.{◌≡◌, ◌<◌, ◌≤◌, ◌+◌, ℕ, Bool, true, false, List, [], ◌∷◌, length, Option, Some, None, refl, sym, ap, ◌∙◌, subst, arith, eqb-true, true≢false, length-drop, rules}
use Rattle.std.proofs.lemmas.Bool.{eq-eqb, ltb-false, ltb-true, or_parts}
use Rattle.std.proofs.lemmas.List.{get_or-drop, get_or-take, get_or_default, length-take}
use Rattle.std.proofs.lemmas.List.Folds.{list_any_none}
use Rattle.std.proofs.Math.Seq.{drop-cons}
use Rattle.cmark_grammar.specs.Autolinks.{closed_by, has_address, is_uri_byte, autolink_in}
use Rattle.cmark_grammar.specs.CodeSpans.{is_backtick, backticks, code_in}
use Rattle.cmark_grammar.specs.Columns.{is_blank_byte}
use Rattle.cmark_grammar.specs.Dashes.{dashes_of, dash_text}
use Rattle.cmark_grammar.specs.Flanking.{Flanking, flanking, is_run_delimiter}
use Rattle.cmark_grammar.specs.Formulas.{is_dollar, Braces, no_braces, braces_after}
use Rattle.cmark_grammar.specs.InlineHtml.{after_markup, takes_lines}
use Rattle.cmark_grammar.specs.InlineTokens.{item_at, bracket, is_plain, from, before, place_of, size_to, character_before, character_at, break_or, code_or, escaped_backtick, escape_at, entity_or, autolink_or, tag_or_text, source_from, markup_or, less_than, run_or, run_at, formula_or, dollar, hyphens, smart_or, begins, begins_at, goes_on, plain_end, longest, token}
use Rattle.cmark_grammar.specs.Items.{ItemKind, Plain, Written, InlineMath, DisplayMath, Html, OwnedHtml, SoftBreak, HardBreak, Item, Token, Stands, Opens, Closes}
use Rattle.cmark_grammar.specs.LabelsOverLines.{piped}
use Rattle.cmark_grammar.specs.LeafText.{Leaf}
use Rattle.cmark_grammar.specs.Letters.{first_is, starts}
use Rattle.cmark_grammar.specs.LineBreaks.{LineBreak, backslash_break_in, blank_break_in}
use Rattle.cmark_grammar.specs.Lines.{is_content}
use Rattle.cmark_grammar.specs.LinkDefinitions.{Parsed}
use Rattle.cmark_grammar.specs.Readers.{Reader}
use Rattle.cmark_grammar.specs.Tags.{after_tag, no_prefix}
use Rattle.cmark_grammar.specs.Tokens.{Entity, entity_in, is_punctuation, slice}
use Rattle.cmark_block_model.proofs.RowEdges.{Front, front-add}
use Rattle.cmark_inline_model.specs.PlacedTokens.{AreLeafPlaces, one_stretch, text_reader, may_open_markup, is_as_written}
use Rattle.cmark_inline_model.proofs.FindRests.{IsAfter, ParsedAfter, following-rest, autolink-following, tag-following}
use Rattle.cmark_inline_model.proofs.PlacedTokens.{from-text, inside, fewer-steps, content-leads, no-own, no-break}
use Rattle.cmark_inline_model.proofs.PlainTokens.{Shaped, NotPlain, begins-shaped, markup-not, goes-stop}
use Rattle.cmark_inline_model.proofs.WordBytes.{IsWord, and-right, word-is, punctuation-word, Leads, prefix-leads, starts-leads, first-leads, leads-cons}

module _ (reader : Reader) (leaf : Leaf) (text : List ℕ) (place : ℕ → ℕ) (h : AreLeafPlaces reader leaf text place) where
  -- bytes from a place of the text to another, side by side in the source
  pub record Together (start end : ℕ) : Type 0 where
    pub some : start < end
    pub within : end ≤ length text
    pub sizes : suc (place (end - 1)) ≡ place start + (end - start)
    pub last : place end ≡ suc (place (end - 1))
    pub content : (i : ℕ) → start + i < end → is_content (get_or text (start + i) 0) ≡ true

  -- n bytes that do not end a line
  front-at : (n : ℕ) (l : List ℕ) (j : ℕ) → Front (λ b. is_content b ≡ true) n l → j < n → j < length l → is_content (get_or l j 0) ≡ true
  front-at n [] j f lt m = absurd (omega (arith, m))
  front-at zero (b ∷ l) j f lt m = absurd (omega (arith, lt))
  front-at (suc n) (b ∷ l) zero f lt m = f.0
  front-at (suc n) (b ∷ l) (suc j) f lt m = front-at n l j f.1 (omega (arith, lt)) (omega (arith, m))

  leads-together : (k o n : ℕ) (l : List ℕ) → drop k text ≡ l → Leads (λ b. is_content b ≡ true) n l → o < n → (s e : ℕ) → s ≡ k + o → e ≡ k + n → Together s e
  leads-together k o n l d f lt s e a b =
      let x = fewer-steps reader leaf text place h o n k l (omega arith) d f in
      let y = fewer-steps reader leaf text place h (n - 1) n k l (omega arith) d f in
      let v = fewer-steps reader leaf text place h n n k l (omega arith) d f in
      let w = f.fits in
      let m = ap length d in
      let r = length-drop k text in
      let p = ap place a in
      let u = ap place b in
      let q = ap place (let z : e - 1 ≡ k + (n - 1) = omega arith in z) in
      record {
        some = omega arith;
        within = omega arith;
        sizes = omega arith;
        last = omega arith;
        content = λ i less. ap is_content (ap (λ j. get_or text j 0) (let z : s + i ≡ k + (o + i) = omega (arith, a) in z) ∙ sym (get_or-drop k text (o + i) 0) ∙ ap (λ x. get_or x (o + i) 0) d)
            ∙ front-at n l (o + i) f.front (omega (arith, less, a, b)) (omega (arith, less, a, b, w));
      }

  between : (s e i : ℕ) → Together s e → s + i < e → place (s + i) ≡ place s + i
  between s e i t lt = go (rises i s) (rises ((e - 1) - (s + i)) (s + i))
    where
      -- places rise by one at least
      rises : (n k : ℕ) → (k + n ≤ length text → place k + n ≤ place (k + n))
      rises zero k le = let q = ap place (let z : k + 0 ≡ k = omega arith in z) in omega arith
      rises (suc n) k le =
          let i = rises n k (omega arith) in
          let o = h.places.order (k + n) (k + suc n) (omega arith) le in
          omega arith

      go : (s + i ≤ length text → place s + i ≤ place (s + i)) → ((s + i) + ((e - 1) - (s + i)) ≤ length text → place (s + i) + ((e - 1) - (s + i)) ≤ place ((s + i) + ((e - 1) - (s + i)))) → place (s + i) ≡ place s + i
      go a b =
          let w = t.within in
          let x = a (omega arith) in
          let y = b (omega arith) in
          let q = ap place (let z : (s + i) + ((e - 1) - (s + i)) ≡ e - 1 = omega arith in z) in
          let r = t.sizes in
          omega arith

  -- and they are these bytes of the source
  pub together-slice : (s e : ℕ) → Together s e → slice reader.source (place s) (suc (place (e - 1))) ≡ slice text s e
  together-slice s e t =
      ap (λ n. take n (drop (place s) reader.source)) (let r = t.sizes in let q : suc (place (e - 1)) - place s ≡ e - s = omega arith in q)
      ∙ same (e - s) s (place s) (λ i lt. (between s e i t (omega arith), let w = t.within in omega arith))
    where
      same : (n s x : ℕ) → ((i : ℕ) → i < n → (place (s + i) ≡ x + i) × (s + i < length text)) → take n (drop x reader.source) ≡ take n (drop s text)
      same zero s x f = refl
      same (suc n) s x f =
          let a = f 0 (omega arith) in
          let lt : s < length text = let z = a.1 in omega arith in
          let at : place s ≡ x = ap place (let q : s ≡ s + 0 = omega arith in q) ∙ a.0 ∙ (let q : x + 0 ≡ x = omega arith in q) in
          let byte : get_or reader.source x 0 ≡ get_or text s 0 = ap (λ i. get_or reader.source i 0) (sym at) ∙ h.bytes s lt in
          let some : x < length reader.source = subst (λ i. i < length reader.source) at (h.inside s lt) in
          let i = same n (suc s) (suc x) (λ i lt. (let b = f (suc i) (omega arith) in let c = b.0 in let d = b.1 in let q = ap place (let z : suc s + i ≡ s + suc i = omega arith in z) in (omega arith, omega arith))) in
          ap (take (suc n)) (drop-cons reader.source x 0 some)
          ∙ ap (λ b. b ∷ take n (drop (suc x) reader.source)) byte
          ∙ ap (λ l. get_or text s 0 ∷ l) i
          ∙ sym (ap (take (suc n)) (drop-cons text s 0 lt))

  -- ## Which tokens have such bytes
  abbrev one : Reader
  one = text_reader reader.options reader.lookup text

  abbrev alone : Leaf
  alone = one_stretch leaf.is_cell text

  abbrev pub Joined : Token → Type 0
  Joined (Stands x resume) = is_as_written x.kind ≡ true → Together x.start x.end
  Joined _ = Unit {0}

  when : (b : Bool) (x y : Token) → (b ≡ true → Joined x) → (b ≡ false → Joined y) → Joined (if b then x else y)
  when true x y p q = p refl
  when false x y p q = q refl

  not_written : {A : Type 0} → false ≡ true → A
  not_written e = absurd (true≢false (sym e))

  break_joined : (at : ℕ) (found : Option LineBreak) (other : Token) → (found ≡ None → Joined other) → Joined (break_or one alone at found other)
  break_joined at None other p = p refl
  break_joined at (Some found) other p = by found.is_hard
    where
      by : (b : Bool) → is_as_written (if b then HardBreak else SoftBreak) ≡ true → Together (at + found.before) (at + size_to one alone at found.following)
      by true e = not_written e
      by false e = not_written e

  module _ (k b : ℕ) (bs : List ℕ) (here : drop k text ≡ b ∷ bs) where
    byte_joined : is_content b ≡ true → Together k (suc k)
    byte_joined c = leads-together k 0 1 (b ∷ bs) here (record { front = (c, none bs); fits = omega arith }) (omega arith) k (suc k) (omega arith) (omega arith)
      where
        none : (l : List ℕ) → Front (λ c. is_content c ≡ true) 0 l
        none [] = tt
        none (x ∷ l) = tt

    bytes_joined : (n : ℕ) → Leads (λ c. is_content c ≡ true) n (b ∷ bs) → 0 < n → Together k (k + n)
    bytes_joined n f some = leads-together k 0 n (b ∷ bs) here f some k (k + n) (omega arith) refl

    code_joined : (size : ℕ) (found : Option Parsed) → Together k (k + size) → Joined (code_or one alone k size found)
    code_joined size None t = λ e. t
    code_joined size (Some found) t = λ e. not_written e

    entity_joined : (found : Option Entity) → is_content b ≡ true → Joined (entity_or one alone k found)
    entity_joined None c = λ e. byte_joined c
    entity_joined (Some found) c = λ e. not_written e

    next_here : drop (suc k) text ≡ bs
    next_here = (inside reader leaf text place h k b bs here).2

    escaped_joined : (found : Option Parsed) → first_is is_backtick bs ≡ true → Joined (escaped_backtick one alone (suc k) (backticks bs) found)
    escaped_joined (Some found) e = λ w.
        (let f = first-leads IsWord is_backtick bs (λ d q. word-is d 96 refl (omega arith) q) e in leads-together (suc k) 0 1 bs next_here (content-leads 1 bs f) (omega arith) (suc k) (suc (suc k)) (omega arith) (omega arith))
    escaped_joined None e = λ w.
        (let n = backticks bs in
        let f = prefix-leads is_backtick IsWord (λ d q. word-is d 96 refl (omega arith) q) bs in
        leads-together (suc k) 0 n bs next_here (content-leads n bs f) (some bs e) (suc k) (suc k + n) (omega arith) refl)
      where
        some : (l : List ℕ) → first_is is_backtick l ≡ true → 0 < backticks l
        some [] q = cc
        some (d ∷ l) q = subst (λ z. 0 < (if z then 1 + backticks l else 0)) (sym q) (omega arith)

    escape_joined : IsWord b → Joined (escape_at one alone k bs)
    escape_joined w =
        when (first_is is_backtick bs) (escaped_backtick one alone (suc k) (backticks bs) (code_in (drop 1 bs)))
        (if leaf.is_cell && starts piped bs then item_at Plain (k + 2) (k + 3) else if first_is is_punctuation bs then item_at Plain (suc k) (k + 2) else item_at Plain k (suc k)) (escaped_joined (code_in (drop 1 bs)))
        (λ e. when (leaf.is_cell && starts piped bs) (item_at Plain (k + 2) (k + 3)) (if first_is is_punctuation bs then item_at Plain (suc k) (k + 2) else item_at Plain k (suc k))
        (λ f g. (let l = starts-leads IsWord piped bs (record { content = refl; ascii = omega arith }, (record { content = refl; ascii = omega arith }, tt)) (and-right leaf.is_cell (starts piped bs) f) in
        leads-together k 2 3 (b ∷ bs) here (content-leads 3 (b ∷ bs) (leads-cons IsWord b 2 bs w l)) (omega arith) (k + 2) (k + 3) refl refl))
        (λ f. when (first_is is_punctuation bs) (item_at Plain (suc k) (k + 2)) (item_at Plain k (suc k))
        (λ g i. (let l = first-leads IsWord is_punctuation bs punctuation-word g in
        leads-together k 1 2 (b ∷ bs) here (content-leads 2 (b ∷ bs) (leads-cons IsWord b 1 bs w l)) (omega arith) (suc k) (k + 2) (omega arith) refl)) (λ g i. byte_joined w.content)))

    -- a tag on one line
    no_lines : (n : ℕ) (l : List ℕ) → takes_lines (take n l) ≡ false → Front (λ c. is_content c ≡ true) n l
    no_lines n [] e = tt
    no_lines zero (c ∷ l) e = tt
    no_lines (suc n) (c ∷ l) e = let p = or_parts ((c == 10) || (c == 13)) (takes_lines (take n l)) e in let q = or_parts (c == 10) (c == 13) p.0 in (both (c == 10) (c == 13) q.0 q.1, no_lines n l p.1)
      where
        both : (x y : Bool) → x ≡ false → y ≡ false → (not x && not y) ≡ true
        both x y e f = grind (arith, not_written)

    -- up to the end of one of these bytes
    rest_joined : (rest : List ℕ) → IsAfter (b ∷ bs) rest → Front (λ c. is_content c ≡ true) (length (b ∷ bs) - length rest) (b ∷ bs) → Together k (place_of one alone rest)
    rest_joined rest x f =
        let n = length (b ∷ bs) - length rest in
        let i = x.inside in
        let r = ap length x.rest in
        let d = length-drop (suc x.place) (b ∷ bs) in
        let m = ap length here in
        let w = length-drop k text in
        leads-together k 0 n (b ∷ bs) here (record { front = f; fits = omega arith }) (omega arith) k (length text - length rest) (omega arith) (omega arith)

    tag_joined : is_content b ≡ true → (found : Option (List ℕ)) → after_tag no_prefix (b ∷ bs) ≡ found → Joined (tag_or_text one alone k found)
    tag_joined c None e = λ w. byte_joined c
    tag_joined c (Some rest) e = by (takes_lines (take (size_to one alone k rest) (from one alone k))) refl
      where
        from_here : from one alone k ≡ b ∷ bs
        from_here = from-text reader leaf text place h k ∙ here

        by : (z : Bool) → takes_lines (take (size_to one alone k rest) (from one alone k)) ≡ z → is_as_written (if z then OwnedHtml (take (size_to one alone k rest) (from one alone k)) else Html) ≡ true → Together k (place_of one alone rest)
        by true f w = not_written w
        by false f w =
            rest_joined rest (tag-following (b ∷ bs) rest e)
            (no_lines (length (b ∷ bs) - length rest) (b ∷ bs) (sym (ap (λ l. takes_lines (take (length l - length rest) l)) from_here) ∙ f))

    -- the bytes of an autolink, including its `>`
    abbrev UriFront : Option Parsed → Type 0
    UriFront None = Unit {0}
    UriFront (Some f) = Front (λ d. is_content d ≡ true) (length (b ∷ bs) - length f.following) (b ∷ bs)

    uri_content : (d : ℕ) → is_uri_byte d ≡ true → is_content d ≡ true
    uri_content d e = grind (arith, eqb-true, not_written)

    closed_front : is_content b ≡ true → UriFront (closed_by 62 (prefix_len is_uri_byte bs) bs)
    closed_front c = go (first_is (λ d. d == 62) (drop n bs)) refl
      where
        n : ℕ
        n = prefix_len is_uri_byte bs

        go : (z : Bool) → first_is (λ d. d == 62) (drop n bs) ≡ z → UriFront (if z then Some (record { bytes = take n bs; following = drop (suc n) bs }) else None)
        go false e = tt
        go true e =
            let f = prefix-leads is_uri_byte (λ d. is_content d ≡ true) uri_content bs in
            let g = first-leads (λ d. is_content d ≡ true) (λ d. d == 62) (drop n bs) (λ d q. subst (λ x. is_content x ≡ true) (sym (eqb-true d 62 q)) refl) e in
            let w = f.fits in let v = g.fits in
            let l = length-drop n bs in
            let m = length-drop (suc n) bs in
            subst (λ i. Front (λ d. is_content d ≡ true) i (b ∷ bs)) (let q : suc (n + 1) ≡ length (b ∷ bs) - length (drop (suc n) bs) = omega arith in q) (c, front-add (λ d. is_content d ≡ true) n 1 bs f.front g.front)

    uri_front : is_content b ≡ true → UriFront (autolink_in reader.options.email_autolinks bs)
    uri_front c = go (has_address reader.options.email_autolinks bs)
      where
        go : (z : Bool) → UriFront (if z then closed_by 62 (prefix_len is_uri_byte bs) bs else None)
        go true = closed_front c
        go false = tt

    autolink_joined : is_content b ≡ true → (found : Option Parsed) (other : Token) → autolink_in reader.options.email_autolinks bs ≡ found → (found ≡ None → Joined other) → Joined (autolink_or one alone k found other)
    autolink_joined c None other e p = p refl
    autolink_joined c (Some found) other e p = λ w. rest_joined found.following (following-rest (b ∷ bs) bs found.following (1, refl) (subst (ParsedAfter bs) e (autolink-following reader.options.email_autolinks bs))) (subst UriFront e (uri_front c))

    module _ (none : may_open_markup reader.options.email_autolinks (b ∷ bs) ≡ false) where
      less_than_joined : (b == 60) ≡ true → Joined (less_than one alone k bs)
      less_than_joined e =
          let c = subst (λ x. is_content x ≡ true) (sym (eqb-true b 60 e)) refl in
          let tag = tag_or_text one alone k (after_tag no_prefix (from one alone k)) in
          let others = markup_or one alone k (after_markup (source_from one alone k)) tag in
          when (first_is (λ d. d == 92) bs) (item_at Plain k (suc k)) (autolink_or one alone k (autolink_in reader.options.email_autolinks bs) others) (λ f w. byte_joined c)
          (λ f. autolink_joined c (autolink_in reader.options.email_autolinks bs) others refl
          (λ g. subst (λ o. Joined (markup_or one alone k o tag)) (sym (no-own reader leaf text place h k b bs here none e g))
          (tag_joined c (after_tag no_prefix (from one alone k)) (ap (after_tag no_prefix) (sym (from-text reader leaf text place h k ∙ here))))))

      run_joined : (n : ℕ) (beside : Flanking) → Leads (λ c. is_content c ≡ true) n (b ∷ bs) → 0 < n → Joined (run_or one alone k b n beside)
      run_joined n beside f some = grind (arith, when, not_written, bytes_joined)

      math_joined : is_content b ≡ true → (found : Option Parsed) → Joined (formula_or one alone InlineMath k found)
      math_joined c None = λ w. byte_joined c
      math_joined c (Some found) = λ w. not_written w

      display_joined : is_content b ≡ true → (found : Option Parsed) → Joined (formula_or one alone DisplayMath k found)
      display_joined c None = λ w. byte_joined c
      display_joined c (Some found) = λ w. not_written w

      dollar_joined : is_content b ≡ true → (braces : Braces) → Joined (dollar one alone k bs braces)
      dollar_joined c braces = grind (arith, when, display_joined, math_joined)

      smart_joined : is_content b ≡ true → Joined (smart_or one alone k b)
      smart_joined c = search (rules, when, not_written, byte_joined, hyphens_joined)
        where
          hyphens_joined : (b == 45) ≡ true → Joined (hyphens one alone k (prefix_len (λ d. d == 45) (from one alone k)))
          hyphens_joined e =
              let from_here : from one alone k ≡ b ∷ bs = from-text reader leaf text place h k ∙ here in
              let n = prefix_len (λ d. d == 45) (b ∷ bs) in
              let f = content-leads n (b ∷ bs) (prefix-leads (λ d. d == 45) IsWord (λ d q. word-is d 45 refl (omega arith) q) (b ∷ bs)) in
              let some : 0 < prefix_len (λ d. d == 45) (b ∷ bs) = subst (λ z. 0 < (if z then 1 + prefix_len (λ d. d == 45) bs else 0)) (sym e) (omega arith) in
              subst (λ l. Joined (hyphens one alone k (prefix_len (λ d. d == 45) l))) (sym from_here)
              (when (nat_lt n 2) (item_at Plain k (k + n)) (item_at (Written (dash_text (dashes_of n))) k (k + n)) (λ g w. bytes_joined n f some) (λ g w. not_written w))

      both_false : (x y : Bool) → (x || not y) ≡ false → y ≡ true
      both_false x y e = grind arith

      content_or : (is_blank_byte b || not (is_content b)) ≡ true → blank_break_in (b ∷ bs) ≡ None → is_content b ≡ true
      content_or e none = no-break b bs e none

      begins_joined : Joined (begins one alone k (b ∷ bs))
      begins_joined =
          let plain = item_at Plain k (suc k) in
          let c9 = if reader.options.smart_punctuation then smart_or one alone k b else plain in
          let c8 = if reader.options.math && is_dollar b then dollar one alone k bs (braces_after false (before one alone k) no_braces) else c9 in
          let n = prefix_len (λ c. c == b) (b ∷ bs) in
          let c7 = if is_run_delimiter b then run_at one alone k b n else c8 in
          let c6 = if b == 93 then Closes (bracket false k (suc k)) else c7 in
          let c5 = if b == 91 then Opens (bracket false k (suc k)) else c6 in
          let bang = if first_is (λ c. c == 91) bs then Opens (bracket true k (k + 2)) else plain in
          let c4 = if b == 33 then bang else c5 in
          let c3 = if b == 60 then less_than one alone k bs else c4 in
          let c2 = if b == 96 then code_or one alone k (backticks (b ∷ bs)) (code_in (b ∷ bs)) else c3 in
          let c1 = if b == 38 then entity_or one alone k (entity_in reader.lookup bs) else c2 in
          let slash = break_or one alone k (backslash_break_in (b ∷ bs)) (escape_at one alone k bs) in
          let c0 = if b == 92 then slash else c1 in
          when (is_blank_byte b || not (is_content b)) (break_or one alone k (blank_break_in (b ∷ bs)) plain) c0 (λ e. break_joined k (blank_break_in (b ∷ bs)) plain (λ m w. byte_joined (content_or e m)))
          (λ e0. (let c = both_false (is_blank_byte b) (is_content b) e0 in
          when (b == 92) slash c1 (λ e. break_joined k (backslash_break_in (b ∷ bs)) (escape_at one alone k bs) (λ m. escape_joined (word-is b 92 refl (omega arith) e)))
          (λ e1. when (b == 38) (entity_or one alone k (entity_in reader.lookup bs)) c2 (λ e. entity_joined (entity_in reader.lookup bs) c)
          (λ e2. when (b == 96) (code_or one alone k (backticks (b ∷ bs)) (code_in (b ∷ bs))) c3
          (λ e. code_joined (backticks (b ∷ bs)) (code_in (b ∷ bs))
          (bytes_joined (backticks (b ∷ bs)) (content-leads (backticks (b ∷ bs)) (b ∷ bs) (prefix-leads is_backtick IsWord (λ d q. word-is d 96 refl (omega arith) q) (b ∷ bs)))
          (subst (λ z. 0 < (if z then 1 + backticks bs else 0)) (sym e) (omega arith))))
          (λ e3. when (b == 60) (less_than one alone k bs) c4 less_than_joined
          (λ e4. when (b == 33) bang c5 (λ e. when (first_is (λ c. c == 91) bs) (Opens (bracket true k (k + 2))) plain (λ g. tt) (λ g w. byte_joined c))
          (λ e5. when (b == 91) (Opens (bracket false k (suc k))) c6 (λ e. tt)
          (λ e6. when (b == 93) (Closes (bracket false k (suc k))) c7 (λ e. tt)
          (λ e7. when (is_run_delimiter b) (run_at one alone k b n) c8
          (λ e. run_joined n (flanking reader.options b n (character_before one alone k) (character_at one alone (k + n)))
          (prefix-leads (λ d. d == b) (λ d. is_content d ≡ true) (λ d q. subst (λ x. is_content x ≡ true) (sym (eqb-true d b q)) c) (b ∷ bs))
          (subst (λ z. 0 < (if z then 1 + prefix_len (λ c. c == b) bs else 0)) (sym (eq-eqb b b refl)) (omega arith)))
          (λ e8. when (reader.options.math && is_dollar b) (dollar one alone k bs (braces_after false (before one alone k) no_braces)) c9 (λ e. dollar_joined c (braces_after false (before one alone k) no_braces))
          (λ e9. when reader.options.smart_punctuation (smart_or one alone k b) plain (λ e. smart_joined c) (λ e w. byte_joined c))))))))))))

  pub begins-joined : (k : ℕ) → may_open_markup reader.options.email_autolinks (drop k text) ≡ false → Joined (begins_at one alone k)
  begins-joined k none = grind (arith, from-text, begins_joined)

  -- ## Texts one after the other
  grown : (s m e : ℕ) → Together s m → Together m e → Together s e
  grown s m e a b = record {
    some = (let x = a.some in let y = b.some in omega arith);
    within = b.within;
    sizes = (let x = a.some in let y = b.some in let z = a.sizes in let w = b.sizes in let v = a.last in omega arith);
    last = b.last;
    content = λ i lt. go i lt (nat_lt (s + i) m) refl;
  }
    where
      go : (i : ℕ) → s + i < e → (z : Bool) → nat_lt (s + i) m ≡ z → is_content (get_or text (s + i) 0) ≡ true
      go i lt true f = a.content i (ltb-true (s + i) m f)
      go i lt false f =
          let g = ltb-false (s + i) m f in
          ap is_content (ap (λ j. get_or text j 0) (let z : s + i ≡ m + (s + i - m) = omega (arith, g) in z)) ∙ b.content (s + i - m) (omega (arith, g, lt))

  plain_written : (kind : ItemKind) → is_plain kind ≡ true → is_as_written kind ≡ true
  plain_written Plain e = refl
  plain_written kind e = not_written e

  goes_joined : (t : Token) (s e : ℕ) (more : ℕ → ℕ) → Joined t → Shaped one alone t → Together s e → ((x : ℕ) → Together s x → Together s (more x)) → Together s (goes_on one alone t e more)
  goes_joined (Stands x resume) s e more j shape t further = by (is_plain x.kind) (x.start == e) refl refl
    where
      by : (y z : Bool) → is_plain x.kind ≡ y → (x.start == e) ≡ z → Together s (if y && z then more resume else e)
      by true true p q =
          let own = j (plain_written x.kind p) in
          further resume (grown s e resume t (subst (λ i. Together i resume) (eqb-true x.start e q) (subst (Together x.start) (shape p) own)))
      by _ _ p q = t
  goes_joined _ s e more j shape t further = t

  plain_joined : (n s e : ℕ) → Together s e → Together s (plain_end one alone n e)
  plain_joined zero s e t = t
  plain_joined (suc n) s e t = by (may_open_markup reader.options.email_autolinks (drop e text)) refl (λ x u. plain_joined n s x u)
    where
      by : (z : Bool) → may_open_markup reader.options.email_autolinks (drop e text) ≡ z → ((x : ℕ) → Together s x → Together s (plain_end one alone n x)) → Together s (goes_on one alone (begins_at one alone e) e (plain_end one alone n))
      by true m further =
          let no = subst (λ l. NotPlain one alone (begins one alone e l)) (sym (from-text reader leaf text place h e)) (markup-not one alone e (drop e text) m) in
          subst (Together s) (sym (goes-stop one alone (begins_at one alone e) e (plain_end one alone n) no)) t
      by false m further = goes_joined (begins_at one alone e) s e (plain_end one alone n) (begins-joined e m) (begins-shaped one alone e (from one alone e)) t further

  longest_joined : (t : Token) → Joined t → Shaped one alone t → Joined (longest one alone t)
  longest_joined t j shape = grind (arith, plain_joined, plain_written)

  pub token-joined : (k : ℕ) → may_open_markup reader.options.email_autolinks (drop k text) ≡ false → Joined (token one alone k)
  unfolding token
  token-joined k none = longest_joined (begins_at one alone k) (begins-joined k none) (begins-shaped one alone k (from one alone k))

  -- an item's bytes in the source are those of the text
  pub text-together : (k : ℕ) → may_open_markup reader.options.email_autolinks (drop k text) ≡ false → (x : Item) (resume : ℕ) → token one alone k ≡ Stands x resume → is_as_written x.kind ≡ true → slice reader.source (place x.start) (suc (place (x.end - 1))) ≡ slice text x.start x.end
  text-together k none x resume e w = together-slice x.start x.end (subst Joined e (token-joined k none) w)

  pub byte-together : (k : ℕ) → may_open_markup reader.options.email_autolinks (drop k text) ≡ false → (x : Item) (resume : ℕ) → begins_at one alone k ≡ Stands x resume → is_as_written x.kind ≡ true → slice reader.source (place x.start) (suc (place (x.end - 1))) ≡ slice text x.start x.end
  byte-together k none x resume e w = together-slice x.start x.end (subst Joined e (begins-joined k none) w)

  -- no line ends among these bytes
  no-content : (b : ℕ) → is_content b ≡ true → ((b == 10) || (b == 13)) ≡ false
  no-content b e = grind (arith, not_written)

  pub byte-lines : (k : ℕ) → may_open_markup reader.options.email_autolinks (drop k text) ≡ false → (x : Item) (resume : ℕ) → begins_at one alone k ≡ Stands x resume → is_as_written x.kind ≡ true → takes_lines (slice text x.start x.end) ≡ false
  byte-lines k none x resume e w =
      let t = subst Joined e (begins-joined k none) w in
      list_any_none (λ b. (b == 10) || (b == 13)) (slice text x.start x.end) (λ j d lt.
      let m = length-take (x.end - x.start) (drop x.start text) in
      let less : j < x.end - x.start = omega (arith, lt, m) in
      ap (λ b. (b == 10) || (b == 13)) (get_or_default (slice text x.start x.end) j d 0 lt ∙ get_or-take (x.end - x.start) (drop x.start text) j 0 less ∙ get_or-drop x.start text j 0)
      ∙ no-content (get_or text (x.start + j) 0) (t.content j (omega (arith, less))))
