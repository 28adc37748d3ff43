-- The special bytes, and the tokens at brackets and at literal bytes.
use Rattle.std.specs.Prelude.{Option, if◌then◌else◌, codes, nat_lt}
use Rattle.std.specs.List.{prefix_len}
use Rattle.std.proofs.Common.{◌≡◌, ◌⊎◌, inl, inr, ℕ, suc, ◌+◌, ◌-◌, ◌<◌, ◌≤◌, ◌==◌, ◌||◌, ◌&&◌, Bool, true, false, List, [], ◌∷◌, length, drop, get_or, refl, sym, ap, ◌∙◌, arith, eqb-true, length-drop, true≢false}
use Rattle.std.proofs.lemmas.Bool.{or_cases, and_parts}
use Rattle.std.proofs.lemmas.List.{get_or-drop}
use Rattle.std.proofs.lemmas.List.Sums.{prefix_len_passes, prefix_len-le-length}
use Rattle.cmark_grammar.specs.Answers.{Lookup}
use Rattle.cmark_grammar.specs.Columns.{is_blank_byte}
use Rattle.cmark_grammar.specs.Flanking.{Flanking, closes_beside, flanking, is_delimiter_run, is_intraword, is_run_delimiter, opens_beside}
use Rattle.cmark_emphasis.specs.Counts.{is_run_of}
use Rattle.cmark_grammar.specs.Formulas.{no_braces, braces_after}
use Rattle.cmark_grammar.specs.InlineTokens.{item_at, bracket, before, dollar}
use Rattle.cmark_grammar.specs.Items.{Plain, Token, Opens, Closes}
use Rattle.cmark_grammar.specs.Letters.{first_is}
use Rattle.cmark_grammar.specs.Options.{Options}
use Rattle.cmark_inline_model.specs.SpecialBytes.{is_one_of, is_always_special, is_special}
use Rattle.cmark_inline.specs.Tokens.{whole, reading, begins_at, is_other}
use Rattle.cmark_inline.proofs.TokenSteps.{begins-with, unsigned}

-- ## Special bytes
abbrev pub Kinds : Options → ℕ → Type 0
Kinds o b =
    (is_always_special b ≡ true)
    ⊎ (((b == 124) ≡ true)
    ⊎ (((b == 126) ≡ true)
    ⊎ (((b == 94) ≡ true)
    ⊎ (((b == 61) ≡ true)
    ⊎ (((o.math ≡ true) × (is_one_of (codes "${}") b ≡ true))
    ⊎ ((o.smart_punctuation ≡ true) × (is_one_of (codes ".-\"'") b ≡ true)))))))

pub special-kinds : (o : Options) (b : ℕ) → is_special o b ≡ true → Kinds o b
special-kinds o b e = first (or_cases (is_always_special b) _ e)
  where
    last : (x : Bool) → (x ≡ true) → (o.smart_punctuation && is_one_of (codes ".-\"'") b) ≡ x → Kinds o b
    last x e f = inr (inr (inr (inr (inr (inr (and_parts o.smart_punctuation (is_one_of (codes ".-\"'") b) (f ∙ e)))))))

    sixth : ((o.math && is_one_of (codes "${}") b) ≡ true) ⊎ ((o.smart_punctuation && is_one_of (codes ".-\"'") b) ≡ true) → Kinds o b
    sixth (inl h) = inr (inr (inr (inr (inr (inl (and_parts o.math (is_one_of (codes "${}") b) h))))))
    sixth (inr h) = last true refl h

    fifth : ((o.highlight && (b == 61)) ≡ true) ⊎ (((o.math && is_one_of (codes "${}") b) || (o.smart_punctuation && is_one_of (codes ".-\"'") b)) ≡ true) → Kinds o b
    fifth (inl h) = inr (inr (inr (inr (inl (and_parts o.highlight (b == 61) h).1))))
    fifth (inr h) = sixth (or_cases (o.math && is_one_of (codes "${}") b) (o.smart_punctuation && is_one_of (codes ".-\"'") b) h)

    fourth : ((o.superscript && (b == 94)) ≡ true) ⊎ (((o.highlight && (b == 61)) || ((o.math && is_one_of (codes "${}") b) || (o.smart_punctuation && is_one_of (codes ".-\"'") b))) ≡ true) → Kinds o b
    fourth (inl h) = inr (inr (inr (inl (and_parts o.superscript (b == 94) h).1)))
    fourth (inr h) = fifth (or_cases (o.highlight && (b == 61)) ((o.math && is_one_of (codes "${}") b) || (o.smart_punctuation && is_one_of (codes ".-\"'") b)) h)

    third : (((o.strikethrough || o.subscript) && (b == 126)) ≡ true) ⊎ (((o.superscript && (b == 94)) || ((o.highlight && (b == 61)) || ((o.math && is_one_of (codes "${}") b) || (o.smart_punctuation && is_one_of (codes ".-\"'") b)))) ≡ true) → Kinds o b
    third (inl h) = inr (inr (inl (and_parts (o.strikethrough || o.subscript) (b == 126) h).1))
    third (inr h) = fourth (or_cases (o.superscript && (b == 94)) ((o.highlight && (b == 61)) || ((o.math && is_one_of (codes "${}") b) || (o.smart_punctuation && is_one_of (codes ".-\"'") b))) h)

    second : ((o.tables && (b == 124)) ≡ true) ⊎ ((((o.strikethrough || o.subscript) && (b == 126)) || ((o.superscript && (b == 94)) || ((o.highlight && (b == 61)) || ((o.math && is_one_of (codes "${}") b) || (o.smart_punctuation && is_one_of (codes ".-\"'") b))))) ≡ true) → Kinds o b
    second (inl h) = inr (inl (and_parts o.tables (b == 124) h).1)
    second (inr h) = third (or_cases ((o.strikethrough || o.subscript) && (b == 126)) ((o.superscript && (b == 94)) || ((o.highlight && (b == 61)) || ((o.math && is_one_of (codes "${}") b) || (o.smart_punctuation && is_one_of (codes ".-\"'") b)))) h)

    first : (is_always_special b ≡ true) ⊎ (((o.tables && (b == 124)) || (((o.strikethrough || o.subscript) && (b == 126)) || ((o.superscript && (b == 94)) || ((o.highlight && (b == 61)) || ((o.math && is_one_of (codes "${}") b) || (o.smart_punctuation && is_one_of (codes ".-\"'") b)))))) ≡ true) → Kinds o b
    first (inl h) = inl h
    first (inr h) = second (or_cases (o.tables && (b == 124)) (((o.strikethrough || o.subscript) && (b == 126)) || ((o.superscript && (b == 94)) || ((o.highlight && (b == 61)) || ((o.math && is_one_of (codes "${}") b) || (o.smart_punctuation && is_one_of (codes ".-\"'") b))))) h)

-- a dot, a hyphen or a quote is special only with typographic punctuation
pub smart-special : (o : Options) (b : ℕ) → (b ≡ 46) ⊎ ((b ≡ 45) ⊎ ((b ≡ 34) ⊎ (b ≡ 39))) → is_special o b ≡ true → o.smart_punctuation ≡ true
smart-special o b is e = go is
  where
    no : {A : Type 0} → false ≡ true → A
    no h = absurd (true≢false (sym h))

    by : (n : ℕ) → is_always_special n ≡ false → (n == 124) ≡ false → (n == 126) ≡ false → (n == 94) ≡ false → (n == 61) ≡ false → is_one_of (codes "${}") n ≡ false → Kinds o n → o.smart_punctuation ≡ true
    by n p q r s u t (inl h) = no (sym p ∙ h)
    by n p q r s u t (inr (inl h)) = no (sym q ∙ h)
    by n p q r s u t (inr (inr (inl h))) = no (sym r ∙ h)
    by n p q r s u t (inr (inr (inr (inl h)))) = no (sym s ∙ h)
    by n p q r s u t (inr (inr (inr (inr (inl h))))) = no (sym u ∙ h)
    by n p q r s u t (inr (inr (inr (inr (inr (inl h)))))) = no (sym t ∙ h.1)
    by n p q r s u t (inr (inr (inr (inr (inr (inr h)))))) = h.0

    go : (b ≡ 46) ⊎ ((b ≡ 45) ⊎ ((b ≡ 34) ⊎ (b ≡ 39))) → o.smart_punctuation ≡ true
    go (inl h) = by 46 refl refl refl refl refl refl (special-kinds o 46 (sym (ap (is_special o) h) ∙ e))
    go (inr (inl h)) = by 45 refl refl refl refl refl refl (special-kinds o 45 (sym (ap (is_special o) h) ∙ e))
    go (inr (inr (inl h))) = by 34 refl refl refl refl refl refl (special-kinds o 34 (sym (ap (is_special o) h) ∙ e))
    go (inr (inr (inr h))) = by 39 refl refl refl refl refl refl (special-kinds o 39 (sym (ap (is_special o) h) ∙ e))

-- a dollar sign is special only with formulas
pub math-special : (o : Options) (b : ℕ) → b ≡ 36 → is_special o b ≡ true → o.math ≡ true
math-special o b is e = by (special-kinds o 36 (sym (ap (is_special o) is) ∙ e))
  where
    no : {A : Type 0} → false ≡ true → A
    no h = absurd (true≢false (sym h))

    by : Kinds o 36 → o.math ≡ true
    by (inl h) = no h
    by (inr (inl h)) = no h
    by (inr (inr (inl h))) = no h
    by (inr (inr (inr (inl h)))) = no h
    by (inr (inr (inr (inr (inl h))))) = no h
    by (inr (inr (inr (inr (inr (inl h)))))) = h.0
    by (inr (inr (inr (inr (inr (inr h)))))) = no h.1

-- the bytes that have a call of their own
abbrev pub has_call : ℕ → Bool
has_call b = is_one_of (codes "\n\r\\&`<![].-\"'$") b

-- all signs pass a test
abbrev pub AllPass : (ℕ → Bool) → List ℕ → Type 0
AllPass f [] = Unit {0}
AllPass f (x ∷ xs) = (f x ≡ true) × AllPass f xs

pub sign-passes : (f : ℕ → Bool) (b : ℕ) (signs : List ℕ) → AllPass f signs → is_one_of signs b ≡ true → f b ≡ true
sign-passes f b [] all e = absurd (true≢false (sym e))
sign-passes f b (x ∷ xs) all e = go (sign-passes f b xs all.1) (or_cases (x == b) (is_one_of xs b) e)
  where
    go : (is_one_of xs b ≡ true → f b ≡ true) → ((x == b) ≡ true) ⊎ (is_one_of xs b ≡ true) → f b ≡ true
    go rest (inl h) = ap f (sym (eqb-true x b h)) ∙ all.0
    go rest (inr h) = rest h

abbrev is_known : ℕ → Bool
is_known n = has_call n || (is_run_delimiter n || is_other n)

-- all other special bytes are delimiters of runs, pipes or braces
pub other-special : (o : Options) (b : ℕ) → has_call b ≡ false → is_special o b ≡ true → (is_run_delimiter b ≡ true) ⊎ (is_other b ≡ true)
other-special o b uncalled e = or_cases (is_run_delimiter b) (is_other b) (others (or_cases (has_call b) (is_run_delimiter b || is_other b) (known (special-kinds o b e))))
  where
    here : (n : ℕ) → (b == n) ≡ true → is_known n ≡ true → is_known b ≡ true
    here n h k = ap is_known (eqb-true b n h) ∙ k

    known : Kinds o b → is_known b ≡ true
    known (inl h) = sign-passes is_known b (codes "\n\r*_&\\[]<!`") (refl, (refl, (refl, (refl, (refl, (refl, (refl, (refl, (refl, (refl, (refl, tt))))))))))) h
    known (inr (inl h)) = here 124 h refl
    known (inr (inr (inl h))) = here 126 h refl
    known (inr (inr (inr (inl h)))) = here 94 h refl
    known (inr (inr (inr (inr (inl h))))) = here 61 h refl
    known (inr (inr (inr (inr (inr (inl h)))))) = sign-passes is_known b (codes "${}") (refl, (refl, (refl, tt))) h.1
    known (inr (inr (inr (inr (inr (inr h)))))) = sign-passes is_known b (codes ".-\"'") (refl, (refl, (refl, (refl, tt)))) h.1

    others : (has_call b ≡ true) ⊎ ((is_run_delimiter b || is_other b) ≡ true) → (is_run_delimiter b || is_other b) ≡ true
    others (inl h) = absurd (true≢false (sym h ∙ uncalled))
    others (inr h) = h

-- ## Brackets, and literal bytes
module _ (o : Options) (l : Lookup) (cell : Bool) (text : List ℕ) (at : ℕ) (lt : at < length text) where
  one-more : suc at ≡ at + 1
  one-more = omega arith

  next-is : drop (suc at) text ≡ drop (at + 1) text
  next-is = ap (λ k. drop k text) one-more

  abbrev by_bracket : List ℕ → Token
  by_bracket rest = if first_is (λ c. c == 91) rest then Opens (bracket true at (at + 2)) else item_at Plain at (suc at)

  mark-begins : get_or text at 0 ≡ 33 → begins_at o l cell text at ≡ by_bracket (drop (at + 1) text)
  mark-begins is = begins-with o l cell text at 33 lt is ∙ ap by_bracket next-is

  pub image-opens : get_or text at 0 ≡ 33 → first_is (λ c. c == 91) (drop (at + 1) text) ≡ true → begins_at o l cell text at ≡ Opens (bracket true at (at + 2))
  image-opens is e = mark-begins is ∙ ap (λ z. if z then Opens (bracket true at (at + 2)) else item_at Plain at (suc at)) e

  pub mark-stands : get_or text at 0 ≡ 33 → first_is (λ c. c == 91) (drop (at + 1) text) ≡ false → begins_at o l cell text at ≡ item_at Plain at (at + 1)
  mark-stands is e = mark-begins is ∙ ap (λ z. if z then Opens (bracket true at (at + 2)) else item_at Plain at (suc at)) e ∙ ap (item_at Plain at) one-more

  pub link-opens : get_or text at 0 ≡ 91 → begins_at o l cell text at ≡ Opens (bracket false at (at + 1))
  link-opens is = begins-with o l cell text at 91 lt is ∙ ap (λ e. Opens (bracket false at e)) one-more

  pub bracket-closes : get_or text at 0 ≡ 93 → begins_at o l cell text at ≡ Closes (bracket false at (at + 1))
  bracket-closes is = begins-with o l cell text at 93 lt is ∙ ap (λ e. Closes (bracket false at e)) one-more

  either-way : (z : Bool) → ◌≡◌ {A = Token} (if z then item_at Plain at (suc at) else item_at Plain at (suc at)) (item_at Plain at (at + 1))
  either-way true = ap (item_at Plain at) one-more
  either-way false = ap (item_at Plain at) one-more

  abbrev signed : Token
  signed = dollar (reading o l text) (whole cell text) at (drop (suc at) text) (braces_after false (before (reading o l text) (whole cell text) at) no_braces)

  no-sign : ◌≡◌ {A = Token} (if o.math && false then signed else if o.smart_punctuation then item_at Plain at (suc at) else item_at Plain at (suc at)) (item_at Plain at (at + 1))
  no-sign = unsigned o.math signed (if o.smart_punctuation then item_at Plain at (suc at) else item_at Plain at (suc at)) ∙ either-way o.smart_punctuation

  other-stands : (b : ℕ) → get_or text at 0 ≡ b → is_other b ≡ true → begins_at o l cell text at ≡ item_at Plain at (at + 1)
  other-stands b is e = go (or_cases (b == 124) ((b == 123) || (b == 125)) e)
    where
      more : ((b == 123) ≡ true) ⊎ ((b == 125) ≡ true) → begins_at o l cell text at ≡ item_at Plain at (at + 1)
      more (inl h) = begins-with o l cell text at 123 lt (is ∙ eqb-true b 123 h) ∙ no-sign
      more (inr h) = begins-with o l cell text at 125 lt (is ∙ eqb-true b 125 h) ∙ no-sign

      go : ((b == 124) ≡ true) ⊎ (((b == 123) || (b == 125)) ≡ true) → begins_at o l cell text at ≡ item_at Plain at (at + 1)
      go (inl h) = begins-with o l cell text at 124 lt (is ∙ eqb-true b 124 h) ∙ no-sign
      go (inr h) = more (or_cases (b == 123) (b == 125) h)

-- each byte of a run of pipes or braces
run-byte : (text : List ℕ) (at b end : ℕ) → get_or text at 0 ≡ b → end ≡ at + prefix_len (λ c. c == get_or text at 0) (drop at text) → (k : ℕ) → at ≤ k → k < end → (k < length text) × (get_or text k 0 ≡ b)
run-byte text at b end is ends k low high =
    let p : ℕ → Bool = λ c. c == get_or text at 0 in
    let n = prefix_len-le-length p (drop at text) in
    let d = length-drop at text in
    let inside : k - at < prefix_len p (drop at text) = omega (arith, ends, low, high) in (
      (let q : k < length text = omega (arith, inside, n, d) in q),
      ap (λ i. get_or text i 0) (let q : k ≡ at + (k - at) = omega (arith, low) in q) ∙ sym (get_or-drop at text (k - at) 0)
          ∙ eqb-true (get_or (drop at text) (k - at) 0) (get_or text at 0) (prefix_len_passes p (drop at text) (k - at) 0 inside) ∙ is,
    )

pub others-stand : (o : Options) (l : Lookup) (cell : Bool) (text : List ℕ) (at b end : ℕ) → get_or text at 0 ≡ b → is_other b ≡ true → end ≡ at + prefix_len (λ c. c == get_or text at 0) (drop at text)
    → (k : ℕ) → at ≤ k → k < end → begins_at o l cell text k ≡ item_at Plain k (k + 1)
others-stand o l cell text at b end is e ends k low high = let h = run-byte text at b end is ends k low high in other-stands o l cell text k h.0 b h.1 e

pub others-last : (text : List ℕ) (at b end : ℕ) → get_or text at 0 ≡ b → is_other b ≡ true → end ≡ at + prefix_len (λ c. c == get_or text at 0) (drop at text) → at < end → is_blank_byte (get_or text (end - 1) 0) ≡ false
others-last text at b end is e ends some = ap is_blank_byte (run-byte text at b end is ends (end - 1) (omega (arith, some)) (omega (arith, some))).1 ∙ go (or_cases (b == 124) ((b == 123) || (b == 125)) e)
  where
    more : ((b == 123) ≡ true) ⊎ ((b == 125) ≡ true) → is_blank_byte b ≡ false
    more (inl h) = ap is_blank_byte (eqb-true b 123 h)
    more (inr h) = ap is_blank_byte (eqb-true b 125 h)

    go : ((b == 124) ≡ true) ⊎ (((b == 123) || (b == 125)) ≡ true) → is_blank_byte b ≡ false
    go (inl h) = ap is_blank_byte (eqb-true b 124 h)
    go (inr h) = more (or_cases (b == 123) (b == 125) h)

abbrev none : Flanking
none = record { opens = false; closes = false }

-- a run of pipes or braces is no delimiter run
pub others-flank : (o : Options) (b size : ℕ) (before after : Option ℕ) → is_other b ≡ true → flanking o b size before after ≡ record { opens = false; closes = false }
others-flank o b size before after e = go (or_cases (b == 124) ((b == 123) || (b == 125)) e)
  where
    at-byte : (n : ℕ) → (b == n) ≡ true → flanking o n size before after ≡ none → flanking o b size before after ≡ none
    at-byte n h q = ap (λ m. flanking o m size before after) (eqb-true b n h) ∙ q

    more : ((b == 123) ≡ true) ⊎ ((b == 125) ≡ true) → flanking o b size before after ≡ none
    more (inl h) = at-byte 123 h refl
    more (inr h) = at-byte 125 h refl

    go : ((b == 124) ≡ true) ⊎ (((b == 123) || (b == 125)) ≡ true) → flanking o b size before after ≡ none
    go (inl h) = at-byte 124 h refl
    go (inr h) = more (or_cases (b == 123) (b == 125) h)

-- a run that can open or close has a byte and a length that delimiter runs have
pub flanks-known : (o : Options) (b size : ℕ) (before after : Option ℕ) (flanks : Flanking) → flanks ≡ flanking o b size before after → (flanks.opens || flanks.closes) ≡ true → is_run_of b size ≡ true
flanks-known o b size before after flanks is e = go (or_cases flanks.opens flanks.closes e)
  where
    at-byte : (n : ℕ) → (b == n) ≡ true → is_run_of n size ≡ true → is_run_of b size ≡ true
    at-byte n h q = ap (λ m. is_run_of m size) (eqb-true b n h) ∙ q

    marks : ((b == 42) ≡ true) ⊎ ((b == 95) ≡ true) → is_run_of b size ≡ true
    marks (inl h) = at-byte 42 h refl
    marks (inr h) = at-byte 95 h refl

    last : (y : Bool) → (((b == 94) && y) ≡ true) ⊎ (((b == 61) && (o.highlight && (size == 2))) ≡ true) → is_run_of b size ≡ true
    last y (inl h) = at-byte 94 (and_parts (b == 94) y h).0 refl
    last y (inr h) = let two = and_parts (b == 61) (o.highlight && (size == 2)) h in at-byte 61 two.0 (and_parts o.highlight (size == 2) two.1).1

    others : (x y : Bool) → (((b == 126) && x) ≡ true) ⊎ ((((b == 94) && y) || ((b == 61) && (o.highlight && (size == 2)))) ≡ true) → is_run_of b size ≡ true
    others x y (inl h) = at-byte 126 (and_parts (b == 126) x h).0 refl
    others x y (inr h) = last y (or_cases ((b == 94) && y) ((b == 61) && (o.highlight && (size == 2))) h)

    run : (x y : Bool) → ((((b == 42) || (b == 95)) && nat_lt 0 size) ≡ true) ⊎ ((((b == 126) && x) || (((b == 94) && y) || ((b == 61) && (o.highlight && (size == 2))))) ≡ true) → is_run_of b size ≡ true
    run x y (inl h) = marks (or_cases (b == 42) (b == 95) (and_parts ((b == 42) || (b == 95)) (nat_lt 0 size) h).0)
    run x y (inr h) = others x y (or_cases ((b == 126) && x) (((b == 94) && y) || ((b == 61) && (o.highlight && (size == 2)))) h)

    known : is_delimiter_run o b size ≡ true → is_run_of b size ≡ true
    known h =
        let x = (o.strikethrough || o.subscript) && ((size == 1) || (size == 2)) in
        let y = o.superscript && (size == 1) in
        run x y (or_cases (((b == 42) || (b == 95)) && nat_lt 0 size) (((b == 126) && x) || (((b == 94) && y) || ((b == 61) && (o.highlight && (size == 2))))) h)

    go : (flanks.opens ≡ true) ⊎ (flanks.closes ≡ true) → is_run_of b size ≡ true
    go (inl h) = known (and_parts (is_delimiter_run o b size) (opens_beside (is_intraword o b size) before after) (sym (ap (λ (f : Flanking). f.opens) is) ∙ h)).0
    go (inr h) = known (and_parts (is_delimiter_run o b size) (closes_beside (is_intraword o b size) before after) (sym (ap (λ (f : Flanking). f.closes) is) ∙ h)).0
