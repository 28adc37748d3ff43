-- Dollar signs that are listed, and formulas.
use Rattle.std.proofs.Common.{◌≡◌, ℕ, zero, suc, ◌+◌, ◌-◌, ◌<◌, ◌≤◌, Bool, true, false, ◌==◌, ◌&&◌, ◌||◌, not, if◌then◌else◌, List, [], ◌∷◌, ◌++◌, length, take, drop, get_or, Option, None, Some, refl, sym, ap, subst, ◌∙◌, arith, true≢false, eqb-true, length-drop, drop-drop}
use Rattle.std.specs.Prelude.{nat_le, nat_lt}
use Rattle.std.specs.List.{prefix_len}
use Rattle.std.specs.Str.{IsCharBoundary, IsUtf8}
use Rattle.std.proofs.lemmas.Str.{IsCharBoundary-after_ascii, IsCharBoundary-before_ascii}
use Rattle.std.proofs.Math.Bool.{and-false}
use Rattle.std.proofs.Math.Seq.{drop-cons, take-suc}
use Rattle.std.proofs.lemmas.Bool.{leb-true, le-leb, lt-leb, lt-ltb, le-ltb, ltb-true, and_parts}
use Rattle.std.proofs.lemmas.List.{get_or-drop}
use Rattle.cmark_grammar.specs.Letters.{first_is}
use Rattle.cmark_grammar.specs.Formulas.{Braces, is_dollar, is_ink, no_braces, context_of, after_byte, braces_after, closes_formula, formula_to, inline_in, display_in}
use Rattle.cmark_grammar.specs.LinkDefinitions.{Parsed, put, escapes_next}
use Rattle.cmark_grammar.specs.Tokens.{slice}
use Rattle.cmark_span_scan.specs.Dollars.{IsFormulaAt, dollars_from, dollars_in, closing, braces_at, formula_at, signs_of, stands_before}
use Rattle.cmark_span_scan.specs.declared.dollars.Dollar.{Dollar}

-- ## One more byte
module _ (at : ℕ) (escaped : Bool) (braces : Braces) (b : ℕ) (bs : List ℕ) where
  abbrev pub rest : List Dollar
  rest = dollars_from (suc at) (escapes_next escaped b) (after_byte escaped b braces) bs

  abbrev pub sign : Dollar
  sign = record { place = at; context = context_of braces; is_escaped = escaped }

  pub listed-here : is_dollar b ≡ true → dollars_from at escaped braces (b ∷ bs) ≡ sign ∷ rest
  listed-here e = ap (λ t. (if t then sign ∷ [] else []) ++ rest) e

  pub listed-later : is_dollar b ≡ false → dollars_from at escaped braces (b ∷ bs) ≡ rest
  listed-later e = ap (λ t. (if t then sign ∷ [] else []) ++ rest) e

-- ## The dollar sign that closes is among the bytes
record IsThere (at from : ℕ) (bs : List ℕ) (p : ℕ) : Type 0 where
  pub low : at ≤ p
  pub following : from ≤ p
  pub within : p < at + length bs
  pub sign : get_or bs (p - at) 0 ≡ 36

there-later : (at from b : ℕ) (bs : List ℕ) (p : ℕ) → IsThere (suc at) from bs p → IsThere at from (b ∷ bs) p
there-later at from b bs p h =
    let low = h.low in
    let within = h.within in
    record {
      low = omega (arith, low);
      following = h.following;
      within = omega (arith, within);
      sign = ap (λ k. get_or (b ∷ bs) k 0) (let q : p - at ≡ suc (p - suc at) = omega (arith, low) in q) ∙ h.sign;
    }

there-step : (from context at : ℕ) (escaped : Bool) (braces : Braces) (b : ℕ) (bs : List ℕ) (p : ℕ) → (closing from context (rest at escaped braces b bs) ≡ Some p → IsThere (suc at) from bs p)
    → closing from context (dollars_from at escaped braces (b ∷ bs)) ≡ Some p → IsThere at from (b ∷ bs) p
there-step from context at escaped braces b bs p further e = by_byte (is_dollar b) refl
  where
    deeper : closing from context (rest at escaped braces b bs) ≡ Some p → IsThere at from (b ∷ bs) p
    deeper q = there-later at from b bs p (further q)

    test : Bool
    test = nat_le from at && (not escaped && (context_of braces == context))

    by_test : (t : Bool) → test ≡ t → is_dollar b ≡ true → (if t then Some at else closing from context (rest at escaped braces b bs)) ≡ Some p → IsThere at from (b ∷ bs) p
    by_test true h d q =
        let same : at ≡ p = cc in
        let following : from ≤ at = leb-true from at (and_parts (nat_le from at) (not escaped && (context_of braces == context)) h).0 in
        subst (IsThere at from (b ∷ bs)) same (record {
          low = omega arith;
          following = following;
          within = omega arith;
          sign = ap (λ k. get_or (b ∷ bs) k 0) (let z : at - at ≡ 0 = omega arith in z) ∙ eqb-true b 36 d;
        })
    by_test false h d q = deeper q

    by_byte : (t : Bool) → is_dollar b ≡ t → IsThere at from (b ∷ bs) p
    by_byte true d = by_test test refl d (sym (ap (closing from context) (listed-here at escaped braces b bs d)) ∙ e)
    by_byte false d = deeper (sym (ap (closing from context) (listed-later at escaped braces b bs d)) ∙ e)

there : (from context at : ℕ) (escaped : Bool) (braces : Braces) (bs : List ℕ) (p : ℕ) → closing from context (dollars_from at escaped braces bs) ≡ Some p → IsThere at from bs p
there from context at escaped braces [] p e = let z : ⊥ = cc in absurd z
there from context at escaped braces (b ∷ bs) p e =
    there-step from context at escaped braces b bs p (there from context (suc at) (escapes_next escaped b) (after_byte escaped b braces) bs p) e

-- ## The search of the grammar is the search for the dollar sign that closes
abbrev between : (is_display : Bool) → (at last : ℕ) → (bs : List ℕ) → (p : ℕ) → Option Parsed
between is_display at last bs p =
    if closes_formula is_display (get_or (last ∷ bs) (p - at) 0) (drop (suc (p - at)) bs)
    then Some (record { bytes = take (p - at) bs; following = drop (if is_display then 1 else 0) (drop (suc (p - at)) bs) })
    else None

abbrev up_to : (is_display : Bool) → (at last : ℕ) → (bs : List ℕ) → Option ℕ → Option Parsed
up_to is_display at last bs None = None
up_to is_display at last bs (Some p) = between is_display at last bs p

put-if : (b : ℕ) (t : Bool) (found : Parsed) → put b (if t then Some found else None) ≡ (if t then Some (record { bytes = b ∷ found.bytes; following = found.following }) else None)
put-if b true found = refl
put-if b false found = refl

between-later : (is_display : Bool) (at last b : ℕ) (bs : List ℕ) (p m : ℕ) → p - suc at ≡ m → suc at ≤ p → between is_display at last (b ∷ bs) p ≡ put b (between is_display (suc at) b bs p)
between-later is_display at last b bs p m e low =
    ap (λ n. if closes_formula is_display (get_or (last ∷ (b ∷ bs)) n 0) (drop (suc n) (b ∷ bs)) then Some (record { bytes = take n (b ∷ bs); following = drop (if is_display then 1 else 0) (drop (suc n) (b ∷ bs)) }) else None)
    (let q : p - at ≡ suc m = omega (arith, e, low) in q)
    ∙ sym (put-if b (closes_formula is_display (get_or (b ∷ bs) m 0) (drop (suc m) bs)) (record { bytes = take m bs; following = drop (if is_display then 1 else 0) (drop (suc m) bs) }))
    ∙ ap (λ n. put b (if closes_formula is_display (get_or (b ∷ bs) n 0) (drop (suc n) bs) then Some (record { bytes = take n bs; following = drop (if is_display then 1 else 0) (drop (suc n) bs) }) else None)) (sym e)

formula-step : (is_display : Bool) (context from at last : ℕ) (escaped : Bool) (braces : Braces) (b : ℕ) (bs : List ℕ) → from ≤ at
    → formula_to is_display context (escapes_next escaped b) b (after_byte escaped b braces) bs ≡ up_to is_display (suc at) b bs (closing from context (rest at escaped braces b bs))
    → formula_to is_display context escaped last braces (b ∷ bs) ≡ up_to is_display at last (b ∷ bs) (closing from context (dollars_from at escaped braces (b ∷ bs)))
formula-step is_display context from at last escaped braces b bs le further = by_byte (is_dollar b) refl
  where
    after : List Dollar
    after = rest at escaped braces b bs

    deep : Option Parsed
    deep = formula_to is_display context (escapes_next escaped b) b (after_byte escaped b braces) bs

    here : Option Parsed
    here = if closes_formula is_display last bs then Some (record { bytes = []; following = drop (if is_display then 1 else 0) bs }) else None

    shifted : (o : Option ℕ) → closing from context after ≡ o → put b (up_to is_display (suc at) b bs o) ≡ up_to is_display at last (b ∷ bs) o
    shifted None e = refl
    shifted (Some p) e = sym (between-later is_display at last b bs p (p - suc at) refl (there from context (suc at) (escapes_next escaped b) (after_byte escaped b braces) bs p e).low)

    later : put b deep ≡ up_to is_display at last (b ∷ bs) (closing from context after)
    later = ap (put b) further ∙ shifted (closing from context after) refl

    now : here ≡ between is_display at last (b ∷ bs) at
    now = ap (λ n. if closes_formula is_display (get_or (last ∷ (b ∷ bs)) n 0) (drop (suc n) (b ∷ bs)) then Some (record { bytes = take n (b ∷ bs); following = drop (if is_display then 1 else 0) (drop (suc n) (b ∷ bs)) }) else None)
        (let q : 0 ≡ at - at = omega arith in q)

    decides : Bool
    decides = not escaped && (context_of braces == context)

    chosen : closing from context (sign at escaped braces b bs ∷ after) ≡ (if decides then Some at else closing from context after)
    chosen = ap (λ y. if y && decides then Some at else closing from context after) (le-leb from at le)

    both : (t : Bool) → (if t then here else put b deep) ≡ up_to is_display at last (b ∷ bs) (if t then Some at else closing from context after)
    both true = now
    both false = later

    by_byte : (t : Bool) → is_dollar b ≡ t → formula_to is_display context escaped last braces (b ∷ bs) ≡ up_to is_display at last (b ∷ bs) (closing from context (dollars_from at escaped braces (b ∷ bs)))
    by_byte true d =
        ap (λ x. if not escaped && (x && (context_of braces == context)) then here else put b deep) d
        ∙ both decides
        ∙ ap (up_to is_display at last (b ∷ bs)) (sym (ap (closing from context) (listed-here at escaped braces b bs d) ∙ chosen))
    by_byte false d =
        ap (λ x. if not escaped && (x && (context_of braces == context)) then here else put b deep) d
        ∙ ap (λ x. if x then here else put b deep) (and-false (not escaped))
        ∙ later
        ∙ ap (up_to is_display at last (b ∷ bs)) (sym (ap (closing from context) (listed-later at escaped braces b bs d)))

formula-is : (is_display : Bool) (context from at last : ℕ) (escaped : Bool) (braces : Braces) (bs : List ℕ) → from ≤ at
    → formula_to is_display context escaped last braces bs ≡ up_to is_display at last bs (closing from context (dollars_from at escaped braces bs))
formula-is is_display context from at last escaped braces [] le = refl
formula-is is_display context from at last escaped braces (b ∷ bs) le =
    formula-step is_display context from at last escaped braces b bs le (formula-is is_display context from (suc at) b (escapes_next escaped b) (after_byte escaped b braces) bs (omega (arith, le)))

-- ## The state after some bytes
abbrev escaped_after : (escaped : Bool) → List ℕ → Bool
escaped_after escaped [] = escaped
escaped_after escaped (b ∷ bs) = escaped_after (escapes_next escaped b) bs

-- a dollar sign before `from` closes no formula whose content begins at `from`
closed-from : (from context k at : ℕ) (escaped : Bool) (braces : Braces) (bs : List ℕ) → from ≡ at + k
    → closing from context (dollars_from at escaped braces bs) ≡ closing from context (dollars_from from (escaped_after escaped (take k bs)) (braces_after escaped (take k bs) braces) (drop k bs))
closed-from from context zero at escaped braces bs e = ap (λ n. closing from context (dollars_from n escaped braces bs)) (let q : at ≡ from = omega (arith, e) in q)
closed-from from context (suc k) at escaped braces [] e = refl
closed-from from context (suc k) at escaped braces (b ∷ bs) e = by_byte (is_dollar b) refl ∙ closed-from from context k (suc at) (escapes_next escaped b) (after_byte escaped b braces) bs (omega (arith, e))
  where
    low : nat_le from at ≡ false
    low = lt-leb from at (omega (arith, e))

    by_byte : (t : Bool) → is_dollar b ≡ t → closing from context (dollars_from at escaped braces (b ∷ bs)) ≡ closing from context (rest at escaped braces b bs)
    by_byte true d =
        ap (closing from context) (listed-here at escaped braces b bs d)
        ∙ ap (λ y. if y && (not escaped && (context_of braces == context)) then Some at else closing from context (rest at escaped braces b bs)) low
    by_byte false d = ap (closing from context) (listed-later at escaped braces b bs d)

-- after a dollar sign nothing is escaped, and the braces are those before it
escaped-sign : (escaped : Bool) (bs : List ℕ) → escaped_after escaped (bs ++ (36 ∷ [])) ≡ false
escaped-sign true [] = refl
escaped-sign false [] = refl
escaped-sign escaped (b ∷ bs) = escaped-sign (escapes_next escaped b) bs

braces-sign : (escaped : Bool) (bs : List ℕ) (braces : Braces) → braces_after escaped (bs ++ (36 ∷ [])) braces ≡ braces_after escaped bs braces
braces-sign true [] braces = refl
braces-sign false [] braces = refl
braces-sign escaped (b ∷ bs) braces = braces-sign (escapes_next escaped b) bs (after_byte escaped b braces)

-- ## The formula that a dollar sign opens
module _ (text : List ℕ) where
  record Opened (at start : ℕ) : Type 0 where
    pub low : 0 < start
    pub within : start ≤ length text
    pub sign : get_or text (start - 1) 0 ≡ 36
    pub unescaped : escaped_after false (take start text) ≡ false
    pub braces : braces_at text start ≡ braces_at text at

  signed : (at : ℕ) → at < length text → get_or text at 0 ≡ 36 → take (suc at) text ≡ take at text ++ (36 ∷ [])
  signed at lt is = take-suc text at 0 lt ∙ ap (λ b. take at text ++ (b ∷ [])) is

  opened-one : (at : ℕ) → at < length text → get_or text at 0 ≡ 36 → Opened at (at + 1)
  opened-one at lt is =
      let one : at + 1 ≡ suc at = omega arith in
      let prefix : take (at + 1) text ≡ take at text ++ (36 ∷ []) = ap (λ n. take n text) one ∙ signed at lt is in
      record {
        low = omega arith;
        within = omega (arith, lt);
        sign = ap (λ n. get_or text n 0) (let q : at + 1 - 1 ≡ at = omega arith in q) ∙ is;
        unescaped = ap (escaped_after false) prefix ∙ escaped-sign false (take at text);
        braces = ap (λ bs. braces_after false bs no_braces) prefix ∙ braces-sign false (take at text) no_braces;
      }

  opened-two : (at : ℕ) → at < length text → get_or text at 0 ≡ 36 → at + 1 < length text → get_or text (at + 1) 0 ≡ 36 → Opened at (at + 2)
  opened-two at lt is more again =
      let two : at + 1 + 1 ≡ at + 2 = omega arith in
      let h = opened-one (at + 1) more again in
      subst (Opened at) two (record { low = h.low; within = h.within; sign = h.sign; unescaped = h.unescaped; braces = h.braces ∙ (opened-one at lt is).braces })

  -- the braces before the last opening sign are those before the first
  pub last-braces : (is_display : Bool) (at : ℕ) → at < length text → get_or text at 0 ≡ 36 → braces_at text (at + signs_of is_display - 1) ≡ braces_at text at
  last-braces true at lt is = ap (braces_at text) (let q : at + 2 - 1 ≡ at + 1 = omega arith in q) ∙ (opened-one at lt is).braces
  last-braces false at lt is = ap (braces_at text) (let q : at + 1 - 1 ≡ at = omega arith in q)

  -- the search from there on, in offsets of the text
  abbrev pub found_up_to : (is_display : Bool) → (start p : ℕ) → Option Parsed
  found_up_to is_display start p =
      if closes_formula is_display (get_or text (p - 1) 0) (drop (p + 1) text)
      then Some (record { bytes = slice text start p; following = drop (p + signs_of is_display) text })
      else None

  abbrev pub found_by : (is_display : Bool) → (start : ℕ) → Option ℕ → Option Parsed
  found_by is_display start None = None
  found_by is_display start (Some p) = found_up_to is_display start p

  text-front : (start : ℕ) → 0 < start → start ≤ length text → get_or text (start - 1) 0 ≡ 36 → 36 ∷ drop start text ≡ drop (start - 1) text
  text-front start low within is =
      let one : suc (start - 1) ≡ start = omega (arith, low) in
      sym (drop-cons text (start - 1) 0 (omega (arith, low, within)) ∙ ap (λ x. x ∷ drop (suc (start - 1)) text) is ∙ ap (λ n. 36 ∷ drop n text) one)

  in-text : (is_display : Bool) (start p : ℕ) → 0 < start → start ≤ length text → get_or text (start - 1) 0 ≡ 36 → start ≤ p → between is_display start 36 (drop start text) p ≡ found_up_to is_display start p
  in-text is_display start p low within is le =
      let last : get_or (36 ∷ drop start text) (p - start) 0 ≡ get_or text (p - 1) 0 =
      ap (λ (l : List ℕ). get_or l (p - start) 0) (text-front start low within is) ∙ get_or-drop (start - 1) text (p - start) 0 ∙ ap (λ n. get_or text n 0) (let q : start - 1 + (p - start) ≡ p - 1 = omega (arith, low, le) in q) in
      let tail : drop (suc (p - start)) (drop start text) ≡ drop (p + 1) text = drop-drop (suc (p - start)) start text ∙ ap (λ n. drop n text) (let q : start + suc (p - start) ≡ p + 1 = omega (arith, le) in q) in
      ap (λ b. if closes_formula is_display b (drop (suc (p - start)) (drop start text)) then Some (record { bytes = take (p - start) (drop start text); following = drop (if is_display then 1 else 0) (drop (suc (p - start)) (drop start text)) }) else None) last
      ∙ ap (λ l. if closes_formula is_display (get_or text (p - 1) 0) l then Some (record { bytes = take (p - start) (drop start text); following = drop (if is_display then 1 else 0) l }) else None) tail
      ∙ ap (λ l. if closes_formula is_display (get_or text (p - 1) 0) (drop (p + 1) text) then Some (record { bytes = take (p - start) (drop start text); following = l }) else None) (following is_display)
    where
      following : (d : Bool) → drop (if d then 1 else 0) (drop (p + 1) text) ≡ drop (p + signs_of d) text
      following true = drop-drop 1 (p + 1) text ∙ ap (λ n. drop n text) (let q : p + 1 + 1 ≡ p + 2 = omega arith in q)
      following false = drop-drop 0 (p + 1) text ∙ ap (λ n. drop n text) (let q : p + 1 + 0 ≡ p + 1 = omega arith in q)

  pub there-in : (from context p : ℕ) → closing from context (dollars_in text) ≡ Some p → (from ≤ p) × (p < length text) × (get_or text p 0 ≡ 36)
  there-in from context p e =
      let h = there from context 0 false no_braces text p e in
      let w = h.within in
      (h.following, (let q : p < length text = omega (arith, w) in q), ap (λ n. get_or text n 0) (let q : p ≡ p - 0 = omega arith in q) ∙ h.sign)

  searched : (is_display : Bool) (at start : ℕ) → Opened at start
      → formula_to is_display (context_of (braces_at text at)) false 36 (braces_at text at) (drop start text) ≡ found_by is_display start (closing start (context_of (braces_at text at)) (dollars_in text))
  searched is_display at start h =
      let c : ℕ = context_of (braces_at text at) in
      formula-is is_display c start start 36 false (braces_at text at) (drop start text) (omega arith)
      ∙ ap (λ b. up_to is_display start 36 (drop start text) (closing start c (dollars_from start false b (drop start text)))) (sym h.braces)
      ∙ ap (λ e. up_to is_display start 36 (drop start text) (closing start c (dollars_from start e (braces_at text start) (drop start text)))) (sym h.unescaped)
      ∙ ap (up_to is_display start 36 (drop start text)) (sym (closed-from start c start 0 false no_braces text (omega arith)))
      ∙ placed (closing start c (dollars_in text)) refl
    where
      placed : (o : Option ℕ) → closing start (context_of (braces_at text at)) (dollars_in text) ≡ o → up_to is_display start 36 (drop start text) o ≡ found_by is_display start o
      placed None e = refl
      placed (Some p) e = in-text is_display start p h.low h.within h.sign (there-in start (context_of (braces_at text at)) p e).0

  pub formula-inline : (at : ℕ) → at < length text → get_or text at 0 ≡ 36 → first_is is_dollar (drop (at + 1) text) ≡ false → first_is is_ink (drop (at + 1) text) ≡ true
      → formula_at text at ≡ found_by false (at + 1) (closing (at + 1) (context_of (braces_at text at)) (dollars_in text))
  formula-inline at lt is single ink =
      ap (λ z. if z then display_in (braces_at text at) (drop (at + 2) text) else inline_in (braces_at text at) (drop (at + 1) text)) single
      ∙ ap (λ z. if z then formula_to false (context_of (braces_at text at)) false 36 (braces_at text at) (drop (at + 1) text) else None) ink
      ∙ searched false at (at + 1) (opened-one at lt is)

  -- a dollar sign follows
  first-sign : (bs : List ℕ) → first_is is_dollar bs ≡ true → (0 < length bs) × (get_or bs 0 0 ≡ 36)
  first-sign [] e = absurd (true≢false (sym e))
  first-sign (b ∷ bs) e = (omega arith, eqb-true b 36 e)

  pub again : (at : ℕ) → first_is is_dollar (drop (at + 1) text) ≡ true → (at + 1 < length text) × (get_or text (at + 1) 0 ≡ 36)
  again at e =
      let h = first-sign (drop (at + 1) text) e in
      let some = h.0 in
      let d = length-drop (at + 1) text in
      (omega (arith, some, d), ap (λ n. get_or text n 0) (let q : at + 1 ≡ at + 1 + 0 = omega arith in q) ∙ sym (get_or-drop (at + 1) text 0 0) ∙ h.1)

  pub formula-display : (at : ℕ) → at < length text → get_or text at 0 ≡ 36 → first_is is_dollar (drop (at + 1) text) ≡ true
      → formula_at text at ≡ found_by true (at + 2) (closing (at + 2) (context_of (braces_at text at)) (dollars_in text))
  formula-display at lt is double =
      let h = again at double in
      ap (λ z. if z then display_in (braces_at text at) (drop (at + 2) text) else inline_in (braces_at text at) (drop (at + 1) text)) double
      ∙ searched true at (at + 2) (opened-two at lt is h.0 h.1)

-- ## The list in the code
low-step : (at : ℕ) (escaped : Bool) (braces : Braces) (b : ℕ) (bs : List ℕ) (k : ℕ) (d : Dollar) → ((n : ℕ) → n < length (rest at escaped braces b bs) → suc at ≤ (get_or (rest at escaped braces b bs) n d).place)
    → k < length (dollars_from at escaped braces (b ∷ bs)) → at ≤ (get_or (dollars_from at escaped braces (b ∷ bs)) k d).place
low-step at escaped braces b bs k d further lt = by_byte (is_dollar b) refl
  where
    after : List Dollar
    after = rest at escaped braces b bs

    deeper : (n : ℕ) → n < length after → at ≤ (get_or after n d).place
    deeper n h = let q = further n h in omega (arith, q)

    here : (n : ℕ) → n < length (sign at escaped braces b bs ∷ after) → at ≤ (get_or (sign at escaped braces b bs ∷ after) n d).place
    here zero h = omega arith
    here (suc n) h = deeper n (omega (arith, h))

    by_byte : (t : Bool) → is_dollar b ≡ t → at ≤ (get_or (dollars_from at escaped braces (b ∷ bs)) k d).place
    by_byte true e = subst (λ (l : List Dollar). at ≤ (get_or l k d).place) (sym (listed-here at escaped braces b bs e)) (here k (subst (λ (l : List Dollar). k < length l) (listed-here at escaped braces b bs e) lt))
    by_byte false e = subst (λ (l : List Dollar). at ≤ (get_or l k d).place) (sym (listed-later at escaped braces b bs e)) (deeper k (subst (λ (l : List Dollar). k < length l) (listed-later at escaped braces b bs e) lt))

low-places : (at : ℕ) (escaped : Bool) (braces : Braces) (bs : List ℕ) (k : ℕ) (d : Dollar) → k < length (dollars_from at escaped braces bs) → at ≤ (get_or (dollars_from at escaped braces bs) k d).place
low-places at escaped braces [] k d lt = absurd (omega (arith, lt))
low-places at escaped braces (b ∷ bs) k d lt = low-step at escaped braces b bs k d (λ n h. low-places (suc at) (escapes_next escaped b) (after_byte escaped b braces) bs n d h) lt

-- j dollar signs are before an offset, at or after which another one follows
abbrev pub AreBefore : (place j : ℕ) → List Dollar → Type 0
AreBefore place j list = prefix_len (stands_before place) list ≡ j + prefix_len (stands_before place) (drop j list)

abbrev pub StandsBy : (place j : ℕ) → Dollar → List Dollar → Type 0
StandsBy place j d list = (j < length list) × ((get_or list j d).place ≤ place)

before-step : (at : ℕ) (escaped : Bool) (braces : Braces) (b : ℕ) (bs : List ℕ) (place j : ℕ) (d : Dollar)
    → ((n : ℕ) → StandsBy place n d (rest at escaped braces b bs) → AreBefore place n (rest at escaped braces b bs))
    → StandsBy place (suc j) d (dollars_from at escaped braces (b ∷ bs)) → AreBefore place (suc j) (dollars_from at escaped braces (b ∷ bs))
before-step at escaped braces b bs place j d further h = by_byte (is_dollar b) refl
  where
    after : List Dollar
    after = rest at escaped braces b bs

    here : StandsBy place (suc j) d (sign at escaped braces b bs ∷ after) → AreBefore place (suc j) (sign at escaped braces b bs ∷ after)
    here q =
        let lt = q.0 in
        let le : (get_or after j d).place ≤ place = q.1 in
        let inside : j < length after = omega (arith, lt) in
        let low = low-places (suc at) (escapes_next escaped b) (after_byte escaped b braces) bs j d inside in
        let more = further j (inside, le) in
        ap (λ t. if t then 1 + prefix_len (stands_before place) after else 0) (lt-ltb at place (omega (arith, low, le))) ∙ (let r : 1 + prefix_len (stands_before place) after ≡ suc j + prefix_len (stands_before place) (drop j after) = omega (arith, more) in r)

    by_byte : (t : Bool) → is_dollar b ≡ t → AreBefore place (suc j) (dollars_from at escaped braces (b ∷ bs))
    by_byte true e = subst (AreBefore place (suc j)) (sym (listed-here at escaped braces b bs e)) (here (subst (StandsBy place (suc j) d) (listed-here at escaped braces b bs e) h))
    by_byte false e = subst (AreBefore place (suc j)) (sym (listed-later at escaped braces b bs e)) (further (suc j) (subst (StandsBy place (suc j) d) (listed-later at escaped braces b bs e) h))

pub some-before : (at : ℕ) (escaped : Bool) (braces : Braces) (bs : List ℕ) (place j : ℕ) (d : Dollar) → StandsBy place j d (dollars_from at escaped braces bs) → AreBefore place j (dollars_from at escaped braces bs)
some-before at escaped braces bs place zero d h = omega arith
some-before at escaped braces [] place (suc j) d h = let lt = h.0 in absurd (omega (arith, lt))
some-before at escaped braces (b ∷ bs) place (suc j) d h = before-step at escaped braces b bs place j d (λ n q. some-before (suc at) (escapes_next escaped b) (after_byte escaped b braces) bs place n d q) h

-- the dollar sign at an offset comes after those before it, with its context
pub record IsListed (list : List Dollar) (place context : ℕ) (d : Dollar) : Type 0 where
  pub within : prefix_len (stands_before place) list < length list
  pub context_is : (get_or list (prefix_len (stands_before place) list) d).context ≡ context
  pub place_is : (get_or list (prefix_len (stands_before place) list) d).place ≡ place

listed-step : (at : ℕ) (escaped : Bool) (braces : Braces) (b : ℕ) (bs : List ℕ) (place context k : ℕ) (d : Dollar) → place ≡ at + suc k → IsListed (rest at escaped braces b bs) place context d
    → IsListed (dollars_from at escaped braces (b ∷ bs)) place context d
listed-step at escaped braces b bs place context k d e deeper = by_byte (is_dollar b) refl
  where
    after : List Dollar
    after = rest at escaped braces b bs

    here : IsListed (sign at escaped braces b bs ∷ after) place context d
    here =
        let front : prefix_len (stands_before place) (sign at escaped braces b bs ∷ after) ≡ suc (prefix_len (stands_before place) after) = ap (λ t. if t then 1 + prefix_len (stands_before place) after else 0) (lt-ltb at place (omega (arith, e))) ∙ (let q : 1 + prefix_len (stands_before place) after ≡ suc (prefix_len (stands_before place) after) = omega arith in q) in
        let within = deeper.within in
        record {
          within = omega (arith, front, within);
          context_is = ap (λ n. (get_or (sign at escaped braces b bs ∷ after) n d).context) front ∙ deeper.context_is;
          place_is = ap (λ n. (get_or (sign at escaped braces b bs ∷ after) n d).place) front ∙ deeper.place_is;
        }

    by_byte : (t : Bool) → is_dollar b ≡ t → IsListed (dollars_from at escaped braces (b ∷ bs)) place context d
    by_byte true h = subst (λ l. IsListed l place context d) (sym (listed-here at escaped braces b bs h)) here
    by_byte false h = subst (λ l. IsListed l place context d) (sym (listed-later at escaped braces b bs h)) deeper

pub listed-at : (at : ℕ) (escaped : Bool) (braces : Braces) (bs : List ℕ) (place k : ℕ) (d : Dollar) → place ≡ at + k → k < length bs → get_or bs k 0 ≡ 36
    → IsListed (dollars_from at escaped braces bs) place (context_of (braces_after escaped (take k bs) braces)) d
listed-at at escaped braces [] place k d e lt is = absurd (omega (arith, lt))
listed-at at escaped braces (b ∷ bs) place zero d e lt is =
    let front : prefix_len (stands_before place) (sign at escaped braces b bs ∷ rest at escaped braces b bs) ≡ 0 = ap (λ t. if t then 1 + prefix_len (stands_before place) (rest at escaped braces b bs) else 0) (le-ltb at place (omega (arith, e))) in
    subst (λ l. IsListed l place (context_of braces) d) (sym (listed-here at escaped braces b bs (ap is_dollar is))) (record {
      within = omega (arith, front);
      context_is = ap (λ n. (get_or (sign at escaped braces b bs ∷ rest at escaped braces b bs) n d).context) front;
      place_is = ap (λ n. (get_or (sign at escaped braces b bs ∷ rest at escaped braces b bs) n d).place) front ∙ (let q : at ≡ place = omega (arith, e) in q);
    })
listed-at at escaped braces (b ∷ bs) place (suc k) d e lt is =
    listed-step at escaped braces b bs place (context_of (braces_after (escapes_next escaped b) (take k bs) (after_byte escaped b braces))) k d e
    (listed-at (suc at) (escapes_next escaped b) (after_byte escaped b braces) bs place k d (omega (arith, e)) (omega (arith, lt)) is)

-- a dollar sign before an offset closes no formula that is opened after it
closing-step : (from context place : ℕ) (d : Dollar) (ds : List Dollar) → place ≤ from → closing from context ds ≡ closing from context (drop (prefix_len (stands_before place) ds) ds)
    → closing from context (d ∷ ds) ≡ closing from context (drop (prefix_len (stands_before place) (d ∷ ds)) (d ∷ ds))
closing-step from context place d ds le further = go (nat_lt d.place place) refl
  where
    n : ℕ
    n = prefix_len (stands_before place) ds

    go : (t : Bool) → nat_lt d.place place ≡ t → closing from context (d ∷ ds) ≡ closing from context (drop (prefix_len (stands_before place) (d ∷ ds)) (d ∷ ds))
    go true e =
        let low = ltb-true d.place place e in
        ap (λ y. if y && (not d.is_escaped && (d.context == context)) then Some d.place else closing from context ds) (lt-leb from d.place (omega (arith, low, le)))
        ∙ further
        ∙ ap (λ k. closing from context (drop k (d ∷ ds))) (let q : suc n ≡ 1 + n = omega arith in q)
        ∙ sym (ap (λ t. closing from context (drop (if t then 1 + n else 0) (d ∷ ds))) e)
    go false e = sym (ap (λ t. closing from context (drop (if t then 1 + n else 0) (d ∷ ds))) e)

pub closing-following : (from context place : ℕ) (list : List Dollar) → place ≤ from → closing from context list ≡ closing from context (drop (prefix_len (stands_before place) list) list)
closing-following from context place [] le = refl
closing-following from context place (d ∷ ds) le = closing-step from context place d ds le (closing-following from context place ds le)

-- ## Offsets
module _ (text : List ℕ) (utf8 : IsUtf8 text) where
  small : (n : ℕ) → n ≡ 36 → n < 128
  small n e = omega (arith, e)

  following-sign : (at : ℕ) → at < length text → get_or text at 0 ≡ 36 → IsCharBoundary text (at + 1)
  following-sign at lt is = IsCharBoundary-after_ascii text at utf8 lt (small (get_or text at 0) is)

  pub following-signs : (double : Bool) (at : ℕ) → at < length text → get_or text at 0 ≡ 36 → (double ≡ true → first_is is_dollar (drop (at + 1) text) ≡ true) → IsCharBoundary text (at + signs_of double)
  following-signs false at lt is h = following-sign at lt is
  following-signs true at lt is h =
      let more = again text at (h refl) in
      subst (IsCharBoundary text) (let q : at + 1 + 1 ≡ at + 2 = omega arith in q) (following-sign (at + 1) more.0 more.1)

  pub closed-places : (double : Bool) (at start closer : ℕ) → IsCharBoundary text start → start ≤ closer → closer < length text → get_or text closer 0 ≡ 36
      → closes_formula double (get_or text (closer - 1) 0) (drop (closer + 1) text) ≡ true → start ≡ at + signs_of double
      → IsFormulaAt text at (record { content_start = start; content_end = closer; end = closer + signs_of double; is_display = double })
  closed-places double at start closer starts ordered within is closes e = record {
    opens = e;
    ordered = ordered;
    closes = refl;
    starts = starts;
    stops = IsCharBoundary-before_ascii text closer within (small (get_or text closer 0) is);
    ends = following-signs double closer within is (twice double closes);
  }
    where
      twice : (d : Bool) → closes_formula d (get_or text (closer - 1) 0) (drop (closer + 1) text) ≡ true → d ≡ true → first_is is_dollar (drop (closer + 1) text) ≡ true
      twice true h q = h
      twice false h q = absurd (true≢false (sym q))

-- ## The result of the code
module _ (text : List ℕ) (at : ℕ) (lt : at < length text) (is : get_or text at 0 ≡ 36) where
  pub formula-found : (double : Bool) → double ≡ first_is is_dollar (drop (at + 1) text) → true ≡ double || first_is is_ink (drop (at + 1) text)
      → formula_at text at ≡ found_by text double (at + signs_of double) (closing (at + signs_of double) (context_of (braces_at text at)) (dollars_in text))
  formula-found false e ink = formula-inline text at lt is (sym e) (sym ink)
  formula-found true e ink = formula-display text at lt is (sym e)

  pub formula-by : (double : Bool) → double ≡ first_is is_dollar (drop (at + 1) text) → true ≡ double || first_is is_ink (drop (at + 1) text) → (start : ℕ) → start ≡ at + signs_of double
      → (o : Option ℕ) → o ≡ closing start (context_of (braces_at text at)) (dollars_in text) → found_by text double start o ≡ formula_at text at
  formula-by double e ink start places o found =
      ap (found_by text double start) found
      ∙ ap (λ n. found_by text double n (closing n (context_of (braces_at text at)) (dollars_in text))) places
      ∙ sym (formula-found double e ink)
