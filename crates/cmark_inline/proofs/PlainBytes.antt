-- The bytes of a literal item, and the token at the end of a line.
use Rattle.std.specs.Prelude.{Option, Some, None, codes, if◌then◌else◌, not, nat_lt, option_map}
use Rattle.std.specs.List.{prefix_len, take_while}
use Rattle.std.proofs.Common.{◌≡◌, ◌⊎◌, inl, inr, ℕ, zero, suc, ◌+◌, ◌-◌, ◌<◌, ◌≤◌, ◌==◌, ◌&&◌, ◌||◌, Bool, true, false, List, [], ◌∷◌, length, take, drop, get_or, refl, sym, ap, ◌∙◌, subst, arith, eqb-true, true≢false}
use Rattle.std.proofs.Math.Seq.{drop-cons}
use Rattle.std.proofs.lemmas.Bool.{or_parts}
use Rattle.std.proofs.lemmas.List.{get_or-drop}
use Rattle.std.proofs.lemmas.List.Sums.{prefix_len_passes}
use Rattle.cmark_grammar.specs.Answers.{Lookup}
use Rattle.cmark_grammar.specs.Autolinks.{autolink_in}
use Rattle.cmark_grammar.specs.CodeSpans.{is_backtick, backticks, code_in}
use Rattle.cmark_grammar.specs.Columns.{is_blank_byte}
use Rattle.cmark_grammar.specs.Dashes.{dashes_of, dash_text}
use Rattle.cmark_grammar.specs.Flanking.{Flanking, flanking, is_run_delimiter}
use Rattle.cmark_grammar.specs.Formulas.{is_dollar, Braces, no_braces, braces_after, inline_in, display_in}
use Rattle.cmark_grammar.specs.InlineHtml.{after_markup, takes_lines}
use Rattle.cmark_grammar.specs.InlineTokens.{as_in, item_at, bracket, is_plain, from, before, size_to, character_before, character_at, break_or, code_or, escaped_backtick, escape_at, entity_or, autolink_or, tag_or_text, source_from, markup_or, less_than, run_or, run_at, formula_or, dollar, dots, hyphens, quote_at, smart_or, begins}
use Rattle.cmark_grammar.specs.Items.{ItemKind, Plain, Written, InlineMath, DisplayMath, Delimiters, Html, OwnedHtml, SoftBreak, HardBreak, Token, Stands, Opens, Closes}
use Rattle.cmark_grammar.specs.LabelsOverLines.{piped}
use Rattle.cmark_grammar.specs.LeafText.{Leaf}
use Rattle.cmark_grammar.specs.Letters.{first_is, starts}
use Rattle.cmark_grammar.specs.LineBreaks.{LineBreak, backslash_break_in, blank_break, blank_break_in}
use Rattle.cmark_grammar.specs.Lines.{is_content}
use Rattle.cmark_grammar.specs.LinkDefinitions.{Parsed, after_leading_blanks}
use Rattle.cmark_grammar.specs.Options.{Options}
use Rattle.cmark_grammar.specs.Readers.{Reader}
use Rattle.cmark_grammar.specs.Tags.{after_ending, after_line_feed, after_tag, no_prefix}
use Rattle.cmark_grammar.specs.Tokens.{Entity, entity_in, is_punctuation}
use Rattle.cmark_inline_model.proofs.PlacedTokens.{no-break}
use Rattle.cmark_inline.specs.Tokens.{begins_at, reading, whole}
use Rattle.cmark_inline.proofs.Bytes.{following-more, following-none}
use Rattle.cmark_inline.proofs.TokenSteps.{begins-with, code-begins, from-is}

abbrev is_break : ItemKind → Bool
is_break SoftBreak = true
is_break HardBreak = true
is_break _ = false

-- a line break is read
abbrev pub breaks : Token → Bool
breaks (Stands x resume) = is_break x.kind
breaks _ = false

abbrev plain_token : Token → Bool
plain_token (Stands x resume) = is_plain x.kind
plain_token _ = false

module _ (o : Options) (l : Lookup) (cell : Bool) (text : List ℕ) (at : ℕ) (lt : at < length text) where
  abbrev r : Reader
  r = reading o l text

  abbrev leaf : Leaf
  leaf = whole cell text

  abbrev b : ℕ
  b = get_or text at 0

  abbrev bs : List ℕ
  bs = drop (suc at) text

  abbrev Bytes : (resume : ℕ) → Type 0
  Bytes resume = (resume ≡ suc at) ⊎ ((is_blank_byte b ≡ false) × ((j : ℕ) → at ≤ j → j < resume → get_or text j 0 ≡ b))

  -- a literal text at `at` is one byte, or several equal bytes that are no blanks
  abbrev Same : Token → Type 0
  Same (Stands x resume) = is_plain x.kind ≡ true → x.start ≡ at → Bytes resume
  Same _ = Unit {0}

  when : (z : Bool) (x y : Token) → (z ≡ true → Same x) → (z ≡ false → Same y) → Same (if z then x else y)
  when true x y p q = p refl
  when false x y p q = q refl

  other : {A : Type 0} → false ≡ true → A
  other e = absurd (true≢false (sym e))

  byte_same : Same (item_at Plain at (suc at))
  byte_same = λ p s. inl refl

  break_same : (found : Option LineBreak) (t : Token) → Same t → Same (break_or r leaf at found t)
  break_same None t h = h
  break_same (Some found) t h = λ p s. other (sym (hard found.is_hard) ∙ p)
    where
      hard : (z : Bool) → is_plain (if z then HardBreak else SoftBreak) ≡ false
      hard true = refl
      hard false = refl

  code_same : (n : ℕ) (found : Option Parsed) → Same (code_or r leaf at n found)
  code_same n None = λ p s. other p
  code_same n (Some found) = λ p s. other p

  escaped_same : (n : ℕ) (found : Option Parsed) → Same (escaped_backtick r leaf (suc at) n found)
  escaped_same n None = λ p s. other p
  escaped_same n (Some found) = λ p s. absurd (omega (arith, s))

  escape_same : Same (escape_at r leaf at bs)
  escape_same =
      when (first_is is_backtick bs) (escaped_backtick r leaf (suc at) (backticks bs) (code_in (drop 1 bs)))
      (if leaf.is_cell && starts piped bs then item_at Plain (at + 2) (at + 3) else if first_is is_punctuation bs then item_at Plain (suc at) (at + 2) else item_at Plain at (suc at))
      (λ e. escaped_same (backticks bs) (code_in (drop 1 bs)))
      (λ e. when (leaf.is_cell && starts piped bs) (item_at Plain (at + 2) (at + 3)) (if first_is is_punctuation bs then item_at Plain (suc at) (at + 2) else item_at Plain at (suc at)) (λ f p s. absurd (omega (arith, s)))
      (λ f. when (first_is is_punctuation bs) (item_at Plain (suc at) (at + 2)) (item_at Plain at (suc at)) (λ g p s. absurd (omega (arith, s))) (λ g. byte_same)))

  entity_same : (found : Option Entity) → Same (entity_or r leaf at found)
  entity_same None = byte_same
  entity_same (Some entity) = λ p s. other p

  tag_same : (found : Option (List ℕ)) → Same (tag_or_text r leaf at found)
  tag_same None = λ p s. other p
  tag_same (Some rest) = λ p s. other (sym (tag (takes_lines (take (size_to r leaf at rest) (from r leaf at)))) ∙ p)
    where
      tag : (z : Bool) → is_plain (if z then OwnedHtml (take (size_to r leaf at rest) (from r leaf at)) else Html) ≡ false
      tag true = refl
      tag false = refl

  markup_same : (found : Option (List ℕ)) (t : Token) → Same t → Same (markup_or r leaf at found t)
  markup_same None t h = h
  markup_same (Some rest) t h = λ p s. other p

  autolink_same : (found : Option Parsed) (t : Token) → Same t → Same (autolink_or r leaf at found t)
  autolink_same None t h = h
  autolink_same (Some found) t h = λ p s. other p

  less_same : Same (less_than r leaf at bs)
  less_same =
      let tag = tag_or_text r leaf at (after_tag no_prefix (from r leaf at)) in
      let others = markup_or r leaf at (after_markup (source_from r leaf at)) tag in
      when (first_is (λ c. c == 92) bs) (item_at Plain at (suc at)) (autolink_or r leaf at (autolink_in r.options.email_autolinks bs) others) (λ e. byte_same)
      (λ e. autolink_same (autolink_in r.options.email_autolinks bs) others (markup_same (after_markup (source_from r leaf at)) tag (tag_same (after_tag no_prefix (from r leaf at)))))

  -- the bytes of a run of this byte
  run_bytes : (c : ℕ) → b ≡ c → (j : ℕ) → at ≤ j → j < at + prefix_len (λ d. d == c) (drop at text) → get_or text j 0 ≡ b
  run_bytes c is j low high =
      let inside : j - at < prefix_len (λ d. d == c) (drop at text) = omega (arith, low, high) in
      ap (λ i. get_or text i 0) (let q : j ≡ at + (j - at) = omega (arith, low) in q) ∙ sym (get_or-drop at text (j - at) 0)
      ∙ eqb-true (get_or (drop at text) (j - at) 0) c (prefix_len_passes (λ d. d == c) (drop at text) (j - at) 0 inside) ∙ sym is

  there : b ∷ bs ≡ drop at text
  there = sym (drop-cons text at 0 lt)

  run_same : is_blank_byte b ≡ false → (beside : Flanking) → Same (run_or r leaf at b (prefix_len (λ c. c == b) (b ∷ bs)) beside)
  run_same none beside =
      let n = prefix_len (λ c. c == b) (b ∷ bs) in
      when (beside.opens || beside.closes) (item_at (Delimiters (record { delimiter = b; run_length = n; at = 0; left = n; opens = beside.opens; closes = beside.closes })) at (at + n)) (item_at Plain at (at + n)) (λ e p s. other p)
      (λ e p s. inr (none, λ j low high. run_bytes b refl j low (subst (λ x. j < at + prefix_len (λ c. c == b) x) there high)))

  formula_same : (kind : List ℕ → ItemKind) → ((x : List ℕ) → is_plain (kind x) ≡ false) → (found : Option Parsed) → Same (formula_or r leaf kind at found)
  formula_same kind never None = λ p s. other p
  formula_same kind never (Some found) = λ p s. other (sym (never (as_in leaf.is_cell found.bytes)) ∙ p)

  dollar_same : (braces : Braces) → Same (dollar r leaf at bs braces)
  dollar_same braces =
      when (first_is is_dollar bs) (formula_or r leaf DisplayMath at (display_in braces (drop 1 bs))) (formula_or r leaf InlineMath at (inline_in braces bs))
      (λ e. formula_same DisplayMath (λ x. refl) (display_in braces (drop 1 bs))) (λ e. formula_same InlineMath (λ x. refl) (inline_in braces bs))

  smart_same : is_blank_byte b ≡ false → Same (smart_or r leaf at b)
  smart_same none =
      let n = prefix_len (λ c. c == 45) (from r leaf at) in
      let plain = item_at Plain at (suc at) in
      let quoted = if (b == 34) || (b == 39) then quote_at r leaf at b else plain in
      when (b == 46) (dots r leaf at) (if b == 45 then hyphens r leaf at n else quoted)
      (λ e. when (starts (codes "...") (from r leaf at)) (item_at (Written (226 ∷ 128 ∷ 166 ∷ [])) at (at + 3)) plain (λ f p s. other p) (λ f. byte_same))
      (λ e. when (b == 45) (hyphens r leaf at n) quoted
      (λ f. when (nat_lt n 2) (item_at Plain at (at + n)) (item_at (Written (dash_text (dashes_of n))) at (at + n))
      (λ g p s. inr (none, λ j low high. run_bytes 45 (eqb-true b 45 f) j low (subst (λ x. j < at + prefix_len (λ c. c == 45) x) (from-is o l cell text at) high))) (λ g p s. other p))
      (λ f. when ((b == 34) || (b == 39)) (quote_at r leaf at b) plain (λ g p s. other p) (λ g. byte_same)))

  begins_same : Same (begins r leaf at (b ∷ bs))
  begins_same =
      let plain = item_at Plain at (suc at) in
      let c9 = if r.options.smart_punctuation then smart_or r leaf at b else plain in
      let c8 = if r.options.math && is_dollar b then dollar r leaf at bs (braces_after false (before r leaf at) no_braces) else c9 in
      let n = prefix_len (λ c. c == b) (b ∷ bs) in
      let c7 = if is_run_delimiter b then run_at r leaf at b n else c8 in
      let c6 = if b == 93 then Closes (bracket false at (suc at)) else c7 in
      let c5 = if b == 91 then Opens (bracket false at (suc at)) else c6 in
      let bang = if first_is (λ c. c == 91) bs then Opens (bracket true at (at + 2)) else plain in
      let c4 = if b == 33 then bang else c5 in
      let c3 = if b == 60 then less_than r leaf at bs else c4 in
      let c2 = if b == 96 then code_or r leaf at (backticks (b ∷ bs)) (code_in (b ∷ bs)) else c3 in
      let c1 = if b == 38 then entity_or r leaf at (entity_in r.lookup bs) else c2 in
      let slash = break_or r leaf at (backslash_break_in (b ∷ bs)) (escape_at r leaf at bs) in
      let c0 = if b == 92 then slash else c1 in
      when (is_blank_byte b || not (is_content b)) (break_or r leaf at (blank_break_in (b ∷ bs)) plain) c0 (λ e. break_same (blank_break_in (b ∷ bs)) plain byte_same)
      (λ e0. (let none = (or_parts (is_blank_byte b) (not (is_content b)) e0).0 in
      when (b == 92) slash c1 (λ e. break_same (backslash_break_in (b ∷ bs)) (escape_at r leaf at bs) escape_same)
      (λ e1. when (b == 38) (entity_or r leaf at (entity_in r.lookup bs)) c2 (λ e. entity_same (entity_in r.lookup bs))
      (λ e2. when (b == 96) (code_or r leaf at (backticks (b ∷ bs)) (code_in (b ∷ bs))) c3 (λ e. code_same (backticks (b ∷ bs)) (code_in (b ∷ bs)))
      (λ e3. when (b == 60) (less_than r leaf at bs) c4 (λ e. less_same)
      (λ e4. when (b == 33) bang c5 (λ e. when (first_is (λ c. c == 91) bs) (Opens (bracket true at (at + 2))) plain (λ g. tt) (λ g. byte_same))
      (λ e5. when (b == 91) (Opens (bracket false at (suc at))) c6 (λ e. tt)
      (λ e6. when (b == 93) (Closes (bracket false at (suc at))) c7 (λ e. tt)
      (λ e7. when (is_run_delimiter b) (run_at r leaf at b n) c8 (λ e. run_same none (flanking r.options b n (character_before r leaf at) (character_at r leaf (at + n))))
      (λ e8. when (r.options.math && is_dollar b) (dollar r leaf at bs (braces_after false (before r leaf at) no_braces)) c9 (λ e. dollar_same (braces_after false (before r leaf at) no_braces))
      (λ e9. when r.options.smart_punctuation (smart_or r leaf at b) plain (λ e. smart_same none) (λ e. byte_same))))))))))))

  pub plain-bytes : (end : ℕ) → begins_at o l cell text at ≡ item_at Plain at end → Bytes end
  plain-bytes end t = subst Same (sym (begins-with o l cell text at b lt refl) ∙ t) begins_same refl refl

  -- its last byte is no blank if its first byte is none
  pub plain-last : (end : ℕ) → at < end → begins_at o l cell text at ≡ item_at Plain at end → is_blank_byte b ≡ false → is_blank_byte (get_or text (end - 1) 0) ≡ false
  plain-last end some t none = go (plain-bytes end t)
    where
      go : Bytes end → is_blank_byte (get_or text (end - 1) 0) ≡ false
      go (inl e) = ap (λ i. is_blank_byte (get_or text i 0)) (let q : end - 1 ≡ at = omega (arith, e) in q) ∙ none
      go (inr h) = ap is_blank_byte (h.1 (end - 1) (omega (arith, some)) (omega (arith, some))) ∙ none

  -- no literal text begins with a backtick
  pub plain-tick : (start end : ℕ) → begins_at o l cell text at ≡ item_at Plain start end → b ≡ 96 → ⊥
  plain-tick start end t is = true≢false (sym (sym (go (backticks (drop at text)) (code_in (drop at text))) ∙ ap plain_token (sym (code-begins o l cell text at lt is) ∙ t)))
    where
      go : (n : ℕ) (found : Option Parsed) → plain_token (code_or r leaf at n found) ≡ false
      go n None = refl
      go n (Some found) = refl

  -- if no line break is read, the byte ends no line
  pub content-there : (t : Token) → begins_at o l cell text at ≡ t → breaks t ≡ false → is_content b ≡ true
  content-there t is none = go (is_content b) refl
    where
      go : (z : Bool) → is_content b ≡ z → z ≡ true
      go true e = refl
      go false e = absurd (found (blank_break_in (b ∷ bs)) refl)
        where
          ends : (is_blank_byte b || not (is_content b)) ≡ true
          ends = ap (λ z. is_blank_byte b || not z) e ∙ right (is_blank_byte b)
            where
              right : (x : Bool) → (x || true) ≡ true
              right true = refl
              right false = refl

          token : begins_at o l cell text at ≡ break_or r leaf at (blank_break_in (b ∷ bs)) (item_at Plain at (suc at))
          token = begins-with o l cell text at b lt refl ∙ by (is_blank_byte b || not (is_content b)) (break_or r leaf at (blank_break_in (b ∷ bs)) (item_at Plain at (suc at))) _ ends
            where
              by : (z : Bool) (x y : Token) → z ≡ true → (if z then x else y) ≡ x
              by true x y q = refl
              by false x y q = other q

          kind : (z : Bool) → is_break (if z then HardBreak else SoftBreak) ≡ true
          kind true = refl
          kind false = refl

          found : (f : Option LineBreak) → blank_break_in (b ∷ bs) ≡ f → ⊥
          found None q = true≢false (sym (no-break b bs ends q) ∙ e)
          found (Some f) q = true≢false (sym (ap breaks (token ∙ ap (λ x. break_or r leaf at x (item_at Plain at (suc at))) q) ∙ kind f.is_hard) ∙ ap breaks is ∙ none)

-- ## No line break begins
no-ending : (b : ℕ) (bs : List ℕ) → is_content b ≡ true → after_ending (b ∷ bs) ≡ None
no-ending b bs e = go (b == 10) (b == 13) refl refl
  where
    go : (x y : Bool) → (b == 10) ≡ x → (b == 13) ≡ y → after_ending (b ∷ bs) ≡ None
    go true y p q = absurd (true≢false (sym e ∙ ap is_content (eqb-true b 10 p)))
    go false true p q = absurd (true≢false (sym e ∙ ap is_content (eqb-true b 13 q)))
    go false false p q = ap (λ z. if z then Some bs else if b == 13 then Some (after_line_feed bs) else None) p ∙ ap (λ z. if z then Some (after_line_feed bs) else None) q

pub ending-there : (text : List ℕ) (at : ℕ) → at < length text → is_content (get_or text at 0) ≡ true → is_blank_byte (get_or text at 0) ≡ false → after_ending (after_leading_blanks (drop at text)) ≡ None
ending-there text at lt e none = ap after_ending (following-none text at lt none ∙ drop-cons text at 0 lt) ∙ no-ending (get_or text at 0) (drop (suc at) text) e

pub no-break-before : (n : ℕ) (text : List ℕ) (at to : ℕ) → at + suc n ≡ to → to ≤ length text → ((j : ℕ) → at ≤ j → j < to → is_content (get_or text j 0) ≡ true)
    → (is_blank_byte (get_or text (to - 1) 0) ≡ true → after_ending (after_leading_blanks (drop to text)) ≡ None) → after_ending (after_leading_blanks (drop at text)) ≡ None
no-break-before zero text at to size within all last = go (is_blank_byte (get_or text at 0)) refl
  where
    lt : at < length text
    lt = omega (arith, size, within)

    go : (z : Bool) → is_blank_byte (get_or text at 0) ≡ z → after_ending (after_leading_blanks (drop at text)) ≡ None
    go false e = ending-there text at lt (all at (omega arith) (let q : at < to = omega (arith, size) in q)) e
    go true e =
        ap after_ending (following-more text at lt e) ∙ ap (λ k. after_ending (after_leading_blanks (drop k text))) (let q : at + 1 ≡ to = omega (arith, size) in q)
        ∙ last (ap (λ k. is_blank_byte (get_or text k 0)) (let q : to - 1 ≡ at = omega (arith, size) in q) ∙ e)
no-break-before (suc n) text at to size within all last =
    go (is_blank_byte (get_or text at 0)) refl (no-break-before n text (at + 1) to (let q : at + 1 + suc n ≡ to = omega (arith, size) in q) within (λ j low high. all j (let q : at ≤ j = omega (arith, low) in q) high) last)
  where
    lt : at < length text
    lt = omega (arith, size, within)

    go : (z : Bool) → is_blank_byte (get_or text at 0) ≡ z → after_ending (after_leading_blanks (drop (at + 1) text)) ≡ None → after_ending (after_leading_blanks (drop at text)) ≡ None
    go false e further = ending-there text at lt (all at (omega arith) (let q : at < to = omega (arith, size) in q)) e
    go true e further = ap after_ending (following-more text at lt e) ∙ further

pub no-blank-break : (bs : List ℕ) → after_ending (after_leading_blanks bs) ≡ None → blank_break_in bs ≡ None
no-blank-break bs e = ap (option_map (blank_break (take_while is_blank_byte bs))) e
