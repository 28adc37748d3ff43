-- Bytes that are not special are literal.
use Rattle.std.specs.Prelude.{Option, None, codes, not, if◌then◌else◌, nat_lt}
use Rattle.std.specs.List.{prefix_len, position_or_len}
use Rattle.std.proofs.Common.{◌≡◌, ◌⊎◌, inl, inr, ℕ, suc, ◌+◌, ◌-◌, ◌<◌, ◌≤◌, ◌==◌, ◌&&◌, ◌||◌, Bool, true, false, List, [], ◌∷◌, length, drop, get_or, refl, sym, ap, ◌∙◌, arith, cond, eqb-true, length-drop, true≢false}
use Rattle.std.proofs.lemmas.Bool.{eq-eqb, or_parts, false_from_ne_true, ltb-true, ltb-false}
use Rattle.std.proofs.lemmas.List.{get_or-drop}
use Rattle.std.proofs.lemmas.List.Sums.{prefix_len_passes, prefix_len-le-length, fails_before_first, passes_at_first}
use Rattle.cmark_grammar.specs.Answers.{Lookup}
use Rattle.cmark_grammar.specs.Columns.{is_blank_byte}
use Rattle.cmark_grammar.specs.Flanking.{Flanking, flanking, is_delimiter_run, is_intraword, opens_beside, closes_beside, is_run_delimiter}
use Rattle.cmark_grammar.specs.Formulas.{is_dollar, no_braces, braces_after}
use Rattle.cmark_grammar.specs.InlineTokens.{item_at, before, break_or, dollar, smart_or, run_at, run_or, character_before, character_at}
use Rattle.cmark_grammar.specs.Items.{Plain, Token}
use Rattle.cmark_grammar.specs.LeafText.{Leaf}
use Rattle.cmark_grammar.specs.LineBreaks.{blank_break_in}
use Rattle.cmark_grammar.specs.Lines.{is_content}
use Rattle.cmark_grammar.specs.Options.{Options}
use Rattle.cmark_grammar.specs.Readers.{Reader}
use Rattle.cmark_inline_model.specs.SpecialBytes.{is_one_of, is_always_special, is_special}
use Rattle.cmark_search.specs.Sets.{in_rows}
use Rattle.cmark_inline.specs.PlainStretches.{IsSetOf, StandsForItself, StandUpTo}
use Rattle.cmark_inline.specs.Tokens.{whole, reading, begins_at}
use Rattle.cmark_inline.proofs.SpecialSteps.{Kinds, special-kinds, sign-passes}
use Rattle.cmark_inline.proofs.TokenSteps.{begins-with, blank-breaks, break-begins, front}

-- ## Bytes that are not special differ from all signs
abbrev AllDiffer : List ℕ → ℕ → Type 0
AllDiffer [] b = Unit {0}
AllDiffer (x ∷ xs) b = ((b == x) ≡ false) × AllDiffer xs b

differ : (x b : ℕ) → (x == b) ≡ false → (b == x) ≡ false
differ x b e = false_from_ne_true (b == x) (λ t. true≢false (sym (eq-eqb x b (sym (eqb-true b x t))) ∙ e))

none-of : (signs : List ℕ) (b : ℕ) → is_one_of signs b ≡ false → AllDiffer signs b
none-of [] b e = tt
none-of (x ∷ xs) b e = let h = or_parts (x == b) (is_one_of xs b) e in (differ x b h.0, none-of xs b h.1)

-- an option is off, or the byte is none of these signs
under : (z : Bool) (signs : List ℕ) (b : ℕ) → (z && is_one_of signs b) ≡ false → (z ≡ false) ⊎ AllDiffer signs b
under false signs b e = inl refl
under true signs b e = inr (none-of signs b e)

record Others (o : Options) (b : ℕ) : Type 0 where
  always : AllDiffer (codes "\n\r*_&\\[]<!`") b
  tilde : ((o.strikethrough || o.subscript) && (b == 126)) ≡ false
  caret : (o.superscript && (b == 94)) ≡ false
  equals : (o.highlight && (b == 61)) ≡ false
  math : (o.math ≡ false) ⊎ AllDiffer (codes "${}") b
  smart : (o.smart_punctuation ≡ false) ⊎ AllDiffer (codes ".-\"'") b

others : (o : Options) (b : ℕ) → is_special o b ≡ false → Others o b
others o b e =
    let t = (o.tables && (b == 124)) in
    let w = ((o.strikethrough || o.subscript) && (b == 126)) in
    let c = (o.superscript && (b == 94)) in
    let q = (o.highlight && (b == 61)) in
    let m = (o.math && is_one_of (codes "${}") b) in
    let s = (o.smart_punctuation && is_one_of (codes ".-\"'") b) in
    let one = or_parts (is_always_special b) (t || (w || (c || (q || (m || s))))) e in
    let two = or_parts t (w || (c || (q || (m || s)))) one.1 in
    let three = or_parts w (c || (q || (m || s))) two.1 in
    let four = or_parts c (q || (m || s)) three.1 in
    let fifth = or_parts q (m || s) four.1 in
    let five = or_parts m s fifth.1 in
    record {
      always = none-of (codes "\n\r*_&\\[]<!`") b one.0;
      tilde = three.0;
      caret = four.0;
      equals = fifth.0;
      math = under o.math (codes "${}") b five.0;
      smart = under o.smart_punctuation (codes ".-\"'") b five.1;
    }

-- special bytes are ASCII
big-is-none : (o : Options) (b : ℕ) → 128 ≤ b → is_special o b ≡ false
big-is-none o b big = false_from_ne_true (is_special o b) (λ t. kinds (special-kinds o b t))
  where
    low : ℕ → Bool
    low n = nat_lt n 128

    high : (nat_lt b 128) ≡ true → ⊥
    high e = let lt = ltb-true b 128 e in absurd (omega (arith, lt, big))

    here : (n : ℕ) → (b == n) ≡ true → nat_lt n 128 ≡ true → ⊥
    here n h k = high (ap (λ m. nat_lt m 128) (eqb-true b n h) ∙ k)

    kinds : Kinds o b → ⊥
    kinds (inl h) = high (sign-passes (λ n. nat_lt n 128) b (codes "\n\r*_&\\[]<!`") (refl, (refl, (refl, (refl, (refl, (refl, (refl, (refl, (refl, (refl, (refl, tt))))))))))) h)
    kinds (inr (inl h)) = here 124 h refl
    kinds (inr (inr (inl h))) = here 126 h refl
    kinds (inr (inr (inr (inl h)))) = here 94 h refl
    kinds (inr (inr (inr (inr (inl h))))) = here 61 h refl
    kinds (inr (inr (inr (inr (inr (inl h)))))) = high (sign-passes (λ n. nat_lt n 128) b (codes "${}") (refl, (refl, (refl, tt))) h.1)
    kinds (inr (inr (inr (inr (inr (inr h)))))) = high (sign-passes (λ n. nat_lt n 128) b (codes ".-\"'") (refl, (refl, (refl, (refl, tt)))) h.1)

-- ## No delimiter run
skip : {A : Type 0} (z : Bool) (x y : A) → z ≡ false → (if z then x else y) ≡ y
skip z x y e = ap (λ t. if t then x else y) e

unread : (x y w : Bool) → (y && x) ≡ false → (x && (y && w)) ≡ false
unread true true w e = absurd (true≢false e)
unread true false w e = refl
unread false y w e = refl

no-run : (o : Options) (b n : ℕ) → Others o b → is_delimiter_run o b n ≡ false
no-run o b n h =
    let w : Bool = (b == 126) && ((o.strikethrough || o.subscript) && ((n == 1) || (n == 2))) in
    let c : Bool = (b == 94) && (o.superscript && (n == 1)) in
    let q : Bool = (b == 61) && (o.highlight && (n == 2)) in
    ap (λ z. ((z || (b == 95)) && nat_lt 0 n) || (w || (c || q))) h.always.1.1.0
    ∙ ap (λ z. (z && nat_lt 0 n) || (w || (c || q))) h.always.1.1.1.0
    ∙ ap (λ z. z || (c || q)) (unread (b == 126) (o.strikethrough || o.subscript) ((n == 1) || (n == 2)) h.tilde)
    ∙ ap (λ z. z || q) (unread (b == 94) o.superscript (n == 1) h.caret)
    ∙ unread (b == 61) o.highlight (n == 2) h.equals

no-flanks : (o : Options) (b n : ℕ) (left right : Option ℕ) → is_delimiter_run o b n ≡ false → flanking o b n left right ≡ record { opens = false; closes = false }
no-flanks o b n left right e = ap by e
  where
    by : Bool → Flanking
    by z = record { opens = z && opens_beside (is_intraword o b n) left right; closes = z && closes_beside (is_intraword o b n) left right }

and-false : (x : Bool) → (x && false) ≡ false
and-false true = refl
and-false false = refl

not-less : (a b : ℕ) → (a < b → ⊥) → b ≤ a
not-less a b h = go (nat_lt a b) refl
  where
    go : (z : Bool) → nat_lt a b ≡ z → b ≤ a
    go true e = absurd (h (ltb-true a b e))
    go false e = ltb-false a b e

-- ## The token at a byte that is not special
module _ (o : Options) (l : Lookup) (cell : Bool) (text : List ℕ) (at : ℕ) (lt : at < length text) where
  abbrev r : Reader
  r = reading o l text

  abbrev leaf : Leaf
  leaf = whole cell text

  abbrev b : ℕ
  b = get_or text at 0

  abbrev bs : List ℕ
  bs = drop (suc at) text

  -- the token after the tests for the bytes that are always special
  abbrev after_marks : Token
  after_marks =
      if o.math && is_dollar b then dollar r leaf at bs (braces_after false (before r leaf at) no_braces)
      else if o.smart_punctuation then smart_or r leaf at b
      else item_at Plain at (suc at)

  abbrev at_marks : Token
  at_marks = if is_run_delimiter b then run_at r leaf at b (prefix_len (λ c. c == b) (b ∷ bs)) else after_marks

  to-marks : Others o b → is_blank_byte b ≡ false → begins_at o l cell text at ≡ at_marks
  to-marks h blank =
      begins-with o l cell text at b lt refl
      ∙ skip (is_blank_byte b || not (is_content b)) _ _ (ap (λ z. z || not (is_content b)) blank ∙ content)
      ∙ skip (b == 92) _ _ h.always.1.1.1.1.1.0
      ∙ skip (b == 38) _ _ h.always.1.1.1.1.0
      ∙ skip (b == 96) _ _ h.always.1.1.1.1.1.1.1.1.1.1.0
      ∙ skip (b == 60) _ _ h.always.1.1.1.1.1.1.1.1.0
      ∙ skip (b == 33) _ _ h.always.1.1.1.1.1.1.1.1.1.0
      ∙ skip (b == 91) _ _ h.always.1.1.1.1.1.1.0
      ∙ skip (b == 93) _ _ h.always.1.1.1.1.1.1.1.0
    where
      content : not (is_content b) ≡ false
      content = ap (λ z. not (not z && not (b == 13))) h.always.0 ∙ ap (λ z. not (true && not z)) h.always.1.0

  run-plain : (n : ℕ) → Others o b → run_at r leaf at b n ≡ item_at Plain at (at + n)
  run-plain n h = ap (run_or r leaf at b n) (no-flanks o b n (character_before r leaf at) (character_at r leaf (at + n)) (no-run o b n h))

  by-smart : (z : Bool) → (z ≡ false) ⊎ AllDiffer (codes ".-\"'") b → (if z then smart_or r leaf at b else item_at Plain at (suc at)) ≡ item_at Plain at (suc at)
  by-smart false h = refl
  by-smart true (inl e) = absurd (true≢false e)
  by-smart true (inr d) = skip (b == 46) _ _ d.0 ∙ skip (b == 45) _ _ d.1.0 ∙ skip ((b == 34) || (b == 39)) _ _ (ap (λ z. z || (b == 39)) d.1.1.0 ∙ d.1.1.1.0)

  by-dollar : (o.math ≡ false) ⊎ AllDiffer (codes "${}") b → (o.math && is_dollar b) ≡ false
  by-dollar (inl e) = ap (λ z. z && is_dollar b) e
  by-dollar (inr d) = ap (λ z. o.math && z) d.0 ∙ and-false o.math

  following-stands : Others o b → after_marks ≡ item_at Plain at (suc at)
  following-stands h = skip (o.math && is_dollar b) _ _ (by-dollar h.math) ∙ by-smart o.smart_punctuation h.smart

  byte-stands : Others o b → is_blank_byte b ≡ false → (begins_at o l cell text at ≡ item_at Plain at (suc at)) ⊎ (begins_at o l cell text at ≡ item_at Plain at (at + prefix_len (λ c. c == b) (drop at text)))
  byte-stands h blank = go (is_run_delimiter b) refl
    where
      n : ℕ
      n = prefix_len (λ c. c == b) (b ∷ bs)

      go : (z : Bool) → (is_run_delimiter b) ≡ z → (begins_at o l cell text at ≡ item_at Plain at (suc at)) ⊎ (begins_at o l cell text at ≡ item_at Plain at (at + prefix_len (λ c. c == b) (drop at text)))
      go true q =
          inr (to-marks h blank ∙ ap (λ z. if z then run_at r leaf at b n else after_marks) q ∙ run-plain n h
          ∙ ap (λ x. item_at Plain at (at + prefix_len (λ c. c == b) x)) (sym (front o l cell text at b lt refl)))
      go false q = inl (to-marks h blank ∙ ap (λ z. if z then run_at r leaf at b n else after_marks) q ∙ following-stands h)

  blank-stands : is_blank_byte b ≡ true → blank_break_in (drop at text) ≡ None → begins_at o l cell text at ≡ item_at Plain at (suc at)
  blank-stands e none = break-begins o l cell text at lt (blank-breaks b e) ∙ ap (λ x. break_or r leaf at x (item_at Plain at (suc at))) none

  -- the run of this byte is not empty
  run-some : 0 < prefix_len (λ c. c == b) (drop at text)
  run-some =
      let size : prefix_len (λ c. c == b) (drop at text) ≡ 1 + prefix_len (λ c. c == b) bs =
      ap (prefix_len (λ c. c == b)) (front o l cell text at b lt refl) ∙ ap (λ t. cond t (1 + prefix_len (λ c. c == b) bs) 0) (eq-eqb b b refl) in
      omega (arith, size)

-- ## Up to a special byte
module _ (o : Options) (l : Lookup) (cell : Bool) (text : List ℕ) (from to : ℕ) (within : to ≤ length text)
    (plain : (k : ℕ) → from ≤ k → k < to → is_special o (get_or text k 0) ≡ false) (stop : to < length text → is_special o (get_or text to 0) ≡ true) where
  run-within : (k : ℕ) → from ≤ k → k < to → k + prefix_len (λ c. c == get_or text k 0) (drop k text) ≤ to
  run-within k low high = not-less to (k + prefix_len p (drop k text)) inside
    where
      p : ℕ → Bool
      p c = c == get_or text k 0

      inside : to < k + prefix_len p (drop k text) → ⊥
      inside lt =
          let m = prefix_len-le-length p (drop k text) in
          let d = length-drop k text in
          let short : to - k < prefix_len p (drop k text) = omega (arith, lt, high) in
          let byte : get_or text to 0 ≡ get_or text k 0 =
          ap (λ i. get_or text i 0) (let q : to ≡ k + (to - k) = omega (arith, high) in q) ∙ sym (get_or-drop k text (to - k) 0)
          ∙ eqb-true (get_or (drop k text) (to - k) 0) (get_or text k 0) (prefix_len_passes p (drop k text) (to - k) 0 short) in
          true≢false (sym (stop (let q : to < length text = omega (arith, lt, m, d, high) in q)) ∙ ap (is_special o) byte ∙ plain k low high)

  stretch : StandUpTo o l cell text from to
  stretch k low high none = go (is_blank_byte (get_or text k 0)) refl
    where
      lt : k < length text
      lt = omega (arith, high, within)

      one : begins_at o l cell text k ≡ item_at Plain k (suc k) → StandsForItself o l cell text k to
      one t = record { end = suc k; further = omega arith; within = (let q : suc k ≤ to = omega (arith, high) in q); token = t }

      either : (begins_at o l cell text k ≡ item_at Plain k (suc k)) ⊎ (begins_at o l cell text k ≡ item_at Plain k (k + prefix_len (λ c. c == get_or text k 0) (drop k text))) → StandsForItself o l cell text k to
      either (inl t) = one t
      either (inr t) =
          let some = run-some o l cell text k lt in
          record { end = k + prefix_len (λ c. c == get_or text k 0) (drop k text); further = omega (arith, some); within = run-within k low high; token = t }

      go : (z : Bool) → is_blank_byte (get_or text k 0) ≡ z → StandsForItself o l cell text k to
      go true e = one (blank-stands o l cell text k lt e (none e))
      go false e = either (byte-stands o l cell text k lt (others o (get_or text k 0) (plain k low high)) e)

pub stands-up-to : (rows : List ℕ) (o : Options) (l : Lookup) (cell : Bool) (text : List ℕ) (from to : ℕ) → IsSetOf o rows → from ≤ length text → to ≡ from + position_or_len (in_rows rows) (drop from text)
    → to ≤ length text → (to < length text → get_or text to 0 < 128) → StandUpTo o l cell text from to
stands-up-to rows o l cell text from to set le is within ascii = stretch o l cell text from to within plain stop
  where
    n : ℕ
    n = position_or_len (in_rows rows) (drop from text)

    byte-there : (k : ℕ) → from ≤ k → get_or (drop from text) (k - from) 0 ≡ get_or text k 0
    byte-there k low = get_or-drop from text (k - from) 0 ∙ ap (λ i. get_or text i 0) (let q : from + (k - from) ≡ k = omega (arith, low) in q)

    none-there : (b : ℕ) → in_rows rows b ≡ false → is_special o b ≡ false
    none-there b e = go (nat_lt b 128) refl
      where
        go : (z : Bool) → nat_lt b 128 ≡ z → is_special o b ≡ false
        go true q = sym (set b (ltb-true b 128 q)) ∙ e
        go false q = big-is-none o b (ltb-false b 128 q)

    plain : (k : ℕ) → from ≤ k → k < to → is_special o (get_or text k 0) ≡ false
    plain k low high =
        none-there (get_or text k 0) (sym (ap (in_rows rows) (byte-there k low)) ∙ fails_before_first (in_rows rows) (drop from text) (k - from) 0 (let q : k - from < n = omega (arith, low, high, is) in q))

    stop : to < length text → is_special o (get_or text to 0) ≡ true
    stop lt =
        let d = length-drop from text in
        sym (set (get_or text to 0) (ascii lt))
        ∙ ap (in_rows rows) (sym (get_or-drop from text n 0 ∙ ap (λ i. get_or text i 0) (sym is)))
        ∙ passes_at_first (in_rows rows) (drop from text) 0 (let q : n < length (drop from text) = omega (arith, lt, is, d, le) in q)
