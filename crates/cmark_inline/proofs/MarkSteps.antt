-- Tokens at delimiter runs, hyphens, dots and quotes.
use Rattle.std.specs.Prelude.{Option, reverse, chars, encode_utf8, codes, if◌then◌else◌, not}
use Rattle.std.proofs.Common.{◌≡◌, ◌⊎◌, inl, inr, ℕ, suc, ◌+◌, ◌-◌, ◌<◌, ◌≤◌, ◌==◌, ◌&&◌, ◌||◌, Bool, true, false, List, [], ◌∷◌, ◌++◌, length, take, drop, get_or, refl, sym, ap, ◌∙◌, arith, eqb-true}
use Rattle.std.specs.List.{prefix_len}
use Rattle.std.proofs.lemmas.Bool.{or_cases, not-true, lt-ltb, le-ltb, false_from_ne_true}
use Rattle.std.proofs.lemmas.List.{take-append-drop, get_or-drop}
use Rattle.std.proofs.lemmas.List.Sums.{prefix_len_passes}
use Rattle.std.proofs.lemmas.Slice.Eq.{bytes_eq-Decides}
use lib.Utf8.{encode}
use Rattle.cmark_grammar.specs.Answers.{Lookup}
use Rattle.cmark_grammar.specs.Dashes.{dashes_of, dash_text}
use Rattle.cmark_grammar.specs.Flanking.{Flanking, flanking, is_run_delimiter}
use Rattle.cmark_grammar.specs.InlineTokens.{first_of, item_at, run_at, run_or, hyphens, quote_at, smart_or, character_before, character_at, before, dollar}
use Rattle.cmark_grammar.specs.Formulas.{no_braces, braces_after}
use Rattle.cmark_grammar.specs.Items.{Plain, Written, Quoted, Delimiters, Token}
use Rattle.cmark_grammar.specs.Letters.{starts}
use Rattle.cmark_grammar.specs.Lines.{is_content}
use Rattle.cmark_grammar.specs.Options.{Options}
use Rattle.cmark_grammar.specs.Quotes.{quote_beside}
use Rattle.cmark_inline.specs.Tokens.{whole, reading, begins_at}
use Rattle.cmark_inline.proofs.TokenSteps.{from-is, front, begins-with, unsigned}
use Rattle.cmark_inline.proofs.ReadingOn.{before-is}

module _ (o : Options) (l : Lookup) (cell : Bool) (text : List ℕ) (at : ℕ) (lt : at < length text) where
  before-at : character_before (reading o l text) (whole cell text) at ≡ first_of (reverse (chars (take at text)))
  before-at = ap (λ bs. first_of (reverse (chars bs))) (before-is text at (let q : at ≤ length text = omega (arith, lt) in q))

  at-is : (place : ℕ) → character_at (reading o l text) (whole cell text) place ≡ first_of (chars (drop place text))
  at-is place = ap (λ bs. first_of (chars bs)) (from-is o l cell text place)

  -- ## Runs
  run-begins : (b : ℕ) → get_or text at 0 ≡ b → is_run_delimiter b ≡ true → begins_at o l cell text at ≡ run_at (reading o l text) (whole cell text) at b (prefix_len (λ c. c == b) (drop at text))
  run-begins b is delimiter = go (or_cases (b == 42) ((b == 95) || ((b == 126) || ((b == 94) || (b == 61)))) delimiter)
    where
      Is : ℕ → Type 0
      Is m = begins_at o l cell text at ≡ run_at (reading o l text) (whole cell text) at m (prefix_len (λ c. c == m) (drop at text))

      back : (m : ℕ) → b ≡ m → Is m → Is b
      back m e h = h ∙ ap (λ n. run_at (reading o l text) (whole cell text) at n (prefix_len (λ c. c == n) (drop at text))) (sym e)

      at-mark : (m : ℕ) → b ≡ m → begins_at o l cell text at ≡ run_at (reading o l text) (whole cell text) at m (prefix_len (λ c. c == m) (m ∷ drop (suc at) text)) → Is b
      at-mark m e h = back m e (h ∙ ap (λ x. run_at (reading o l text) (whole cell text) at m (prefix_len (λ c. c == m) x)) (sym (front o l cell text at m lt (is ∙ e))))

      last : ((b == 94) ≡ true) ⊎ ((b == 61) ≡ true) → Is b
      last (inl h) = let e = eqb-true b 94 h in at-mark 94 e (begins-with o l cell text at 94 lt (is ∙ e))
      last (inr h) = let e = eqb-true b 61 h in at-mark 61 e (begins-with o l cell text at 61 lt (is ∙ e))

      further : ((b == 126) ≡ true) ⊎ (((b == 94) || (b == 61)) ≡ true) → Is b
      further (inl h) = let e = eqb-true b 126 h in at-mark 126 e (begins-with o l cell text at 126 lt (is ∙ e))
      further (inr h) = last (or_cases (b == 94) (b == 61) h)

      more : ((b == 95) ≡ true) ⊎ (((b == 126) || ((b == 94) || (b == 61))) ≡ true) → Is b
      more (inl h) = let e = eqb-true b 95 h in at-mark 95 e (begins-with o l cell text at 95 lt (is ∙ e))
      more (inr h) = further (or_cases (b == 126) ((b == 94) || (b == 61)) h)

      go : ((b == 42) ≡ true) ⊎ (((b == 95) || ((b == 126) || ((b == 94) || (b == 61)))) ≡ true) → Is b
      go (inl h) = let e = eqb-true b 42 h in at-mark 42 e (begins-with o l cell text at 42 lt (is ∙ e))
      go (inr h) = more (or_cases (b == 95) ((b == 126) || ((b == 94) || (b == 61))) h)

  pub run-is : (b end size : ℕ) (before after : Option ℕ) → get_or text at 0 ≡ b → is_run_delimiter b ≡ true
      → end ≡ at + prefix_len (λ c. c == get_or text at 0) (drop at text) → size ≡ end - at
      → before ≡ first_of (reverse (chars (take at text))) → after ≡ first_of (chars (drop end text))
      → begins_at o l cell text at ≡ run_or (reading o l text) (whole cell text) at b size (flanking o b size before after)
  run-is b end size before after is delimiter ends sized left right =
      let n : ℕ = prefix_len (λ c. c == b) (drop at text) in
      let same : n ≡ size = ap (λ m. prefix_len (λ c. c == m) (drop at text)) (sym is) ∙ (let q : prefix_len (λ c. c == get_or text at 0) (drop at text) ≡ size = omega (arith, ends, sized) in q) in
      run-begins b is delimiter
      ∙ ap (run_at (reading o l text) (whole cell text) at b) same
      ∙ ap (λ x. run_or (reading o l text) (whole cell text) at b size (flanking o b size x (character_at (reading o l text) (whole cell text) (at + size)))) (before-at ∙ sym left)
      ∙ ap (λ x. run_or (reading o l text) (whole cell text) at b size (flanking o b size before x))
      (at-is (at + size) ∙ ap (λ p. first_of (chars (drop p text))) (let q : at + size ≡ end = omega (arith, ends, sized) in q) ∙ sym right)

  -- a run that neither opens nor closes
  pub run-plain : (b end size : ℕ) (beside : Flanking) → begins_at o l cell text at ≡ run_or (reading o l text) (whole cell text) at b size beside → at + size ≡ end
      → beside.opens ≡ false → beside.closes ≡ false → begins_at o l cell text at ≡ item_at Plain at end
  run-plain b end size beside is ends left right =
      is ∙ ap (λ z. if z then item_at (Delimiters (record { delimiter = b; run_length = size; at = 0; left = size; opens = beside.opens; closes = beside.closes })) at (at + size) else item_at Plain at (at + size)) (both beside.opens beside.closes left right)
      ∙ ap (item_at Plain at) ends
    where
      both : (x y : Bool) → x ≡ false → y ≡ false → (x || y) ≡ false
      both false y e f = f
      both true y e f = absurd (let z : ⊥ = cc in z)

  pub run-marks : (b end size : ℕ) (beside : Flanking) → begins_at o l cell text at ≡ run_or (reading o l text) (whole cell text) at b size beside → at + size ≡ end
      → (beside.opens || beside.closes) ≡ true
      → begins_at o l cell text at ≡ item_at (Delimiters (record { delimiter = b; run_length = size; at = 0; left = size; opens = beside.opens; closes = beside.closes })) at end
  run-marks b end size beside is ends some =
      is ∙ ap (λ z. if z then item_at (Delimiters (record { delimiter = b; run_length = size; at = 0; left = size; opens = beside.opens; closes = beside.closes })) at (at + size) else item_at Plain at (at + size)) some
      ∙ ap (item_at (Delimiters (record { delimiter = b; run_length = size; at = 0; left = size; opens = beside.opens; closes = beside.closes })) at) ends

  -- ## Typographic punctuation
  module _ (smart : o.smart_punctuation ≡ true) where
    abbrev signed : Token
    signed = dollar (reading o l text) (whole cell text) at (drop (suc at) text) (braces_after false (before (reading o l text) (whole cell text) at) no_braces)

    smart-begins : (b : ℕ) → begins_at o l cell text at ≡ (if o.math && false then signed else if o.smart_punctuation then smart_or (reading o l text) (whole cell text) at b else item_at Plain at (suc at)) → begins_at o l cell text at ≡ smart_or (reading o l text) (whole cell text) at b
    smart-begins b is = is ∙ unsigned o.math signed (if o.smart_punctuation then smart_or (reading o l text) (whole cell text) at b else item_at Plain at (suc at)) ∙ ap (λ z. if z then smart_or (reading o l text) (whole cell text) at b else item_at Plain at (suc at)) smart

    pub hyphens-begin : get_or text at 0 ≡ 45 → begins_at o l cell text at ≡ hyphens (reading o l text) (whole cell text) at (prefix_len (λ c. c == 45) (drop at text))
    hyphens-begin is = smart-begins 45 (begins-with o l cell text at 45 lt is) ∙ ap (λ x. hyphens (reading o l text) (whole cell text) at (prefix_len (λ c. c == 45) x)) (from-is o l cell text at)

    pub dots-begin : get_or text at 0 ≡ 46 → begins_at o l cell text at ≡ (if starts (codes "...") (drop at text) then item_at (Written (226 ∷ 128 ∷ 166 ∷ [])) at (at + 3) else item_at Plain at (suc at))
    dots-begin is = smart-begins 46 (begins-with o l cell text at 46 lt is) ∙ ap (λ x. if starts (codes "...") x then item_at (Written (226 ∷ 128 ∷ 166 ∷ [])) at (at + 3) else item_at Plain at (suc at)) (from-is o l cell text at)

    quote-at : (b : ℕ) (before after : Option ℕ) → before ≡ first_of (reverse (chars (take at text))) → after ≡ first_of (chars (drop (at + 1) text))
        → quote_at (reading o l text) (whole cell text) at b ≡ item_at (Quoted (quote_beside (b == 34) before after)) at (at + 1)
    quote-at b before after left right =
        ap (λ x. item_at (Quoted (quote_beside (b == 34) x (character_at (reading o l text) (whole cell text) (suc at)))) at (suc at)) (before-at ∙ sym left)
        ∙ ap (λ p. item_at (Quoted (quote_beside (b == 34) before (character_at (reading o l text) (whole cell text) p))) at p) (let q : suc at ≡ at + 1 = omega arith in q)
        ∙ ap (λ x. item_at (Quoted (quote_beside (b == 34) before x)) at (at + 1)) (at-is (at + 1) ∙ sym right)

    pub quote-begins : (b : ℕ) (before after : Option ℕ) → get_or text at 0 ≡ b → (b ≡ 34) ⊎ (b ≡ 39) → before ≡ first_of (reverse (chars (take at text))) → after ≡ first_of (chars (drop (at + 1) text))
        → begins_at o l cell text at ≡ item_at (Quoted (quote_beside (b == 34) before after)) at (at + 1)
    quote-begins b before after is (inl e) left right = smart-begins 34 (begins-with o l cell text at 34 lt (is ∙ e)) ∙ ap (quote_at (reading o l text) (whole cell text) at) (sym e) ∙ quote-at b before after left right
    quote-begins b before after is (inr e) left right = smart-begins 39 (begins-with o l cell text at 39 lt (is ∙ e)) ∙ ap (quote_at (reading o l text) (whole cell text) at) (sym e) ∙ quote-at b before after left right

    hyphens-size : (end size : ℕ) → get_or text at 0 ≡ 45 → end ≡ at + prefix_len (λ c. c == get_or text at 0) (drop at text) → size ≡ end - at → begins_at o l cell text at ≡ hyphens (reading o l text) (whole cell text) at size
    hyphens-size end size is ends sized =
        hyphens-begin is ∙ ap (λ m. hyphens (reading o l text) (whole cell text) at (prefix_len (λ c. c == m) (drop at text))) (sym is)
        ∙ ap (hyphens (reading o l text) (whole cell text) at) (let q : prefix_len (λ c. c == get_or text at 0) (drop at text) ≡ size = omega (arith, ends, sized) in q)

    pub one-hyphen : (end size : ℕ) → get_or text at 0 ≡ 45 → end ≡ at + prefix_len (λ c. c == get_or text at 0) (drop at text) → size ≡ end - at → at < end → size < 2 → begins_at o l cell text at ≡ item_at Plain at (at + 1)
    one-hyphen end size is ends sized some few =
        hyphens-size end size is ends sized ∙ ap (λ z. if z then item_at Plain at (at + size) else item_at (Written (dash_text (dashes_of size))) at (at + size)) (lt-ltb size 2 few)
        ∙ ap (item_at Plain at) (let q : at + size ≡ at + 1 = omega (arith, sized, some, few) in q)

    pub many-hyphens : (end size : ℕ) → get_or text at 0 ≡ 45 → end ≡ at + prefix_len (λ c. c == get_or text at 0) (drop at text) → size ≡ end - at → 2 ≤ size → begins_at o l cell text at ≡ item_at (Written (dash_text (dashes_of size))) at end
    many-hyphens end size is ends sized some =
        hyphens-size end size is ends sized ∙ ap (λ z. if z then item_at Plain at (at + size) else item_at (Written (dash_text (dashes_of size))) at (at + size)) (le-ltb size 2 some)
        ∙ ap (item_at (Written (dash_text (dashes_of size))) at) (let q : at + size ≡ end = omega (arith, sized, ends) in q)

    pub no-ellipsis : get_or text at 0 ≡ 46 → ((rest : List ℕ) → drop at text ≡ 46 ∷ 46 ∷ 46 ∷ rest → ⊥) → begins_at o l cell text at ≡ item_at Plain at (at + 1)
    no-ellipsis is none =
        dots-begin is
        ∙ ap (λ z. if z then item_at (Written (226 ∷ 128 ∷ 166 ∷ [])) at (at + 3) else item_at Plain at (suc at))
        (false_from_ne_true (starts (codes "...") (drop at text)) (λ t.
        none (drop 3 (drop at text)) (sym (take-append-drop 3 (drop at text)) ∙ ap (λ x. x ++ drop 3 (drop at text)) ((bytes_eq-Decides (take 3 (drop at text)) (codes "...")).0 t))))
        ∙ ap (item_at Plain at) (let q : suc at ≡ at + 1 = omega arith in q)

    pub ellipsis-begins : (rest : List ℕ) → get_or text at 0 ≡ 46 → drop at text ≡ 46 ∷ 46 ∷ 46 ∷ rest → begins_at o l cell text at ≡ item_at (Written (226 ∷ 128 ∷ 166 ∷ [])) at (at + 3)
    ellipsis-begins rest is e = dots-begin is ∙ ap (λ x. if starts (codes "...") x then item_at (Written (226 ∷ 128 ∷ 166 ∷ [])) at (at + 3) else item_at Plain at (suc at)) e

pub ellipsis-bytes : encode_utf8 8230 ≡ 226 ∷ 128 ∷ 166 ∷ []
unfolding encode
ellipsis-bytes = refl

-- no byte of a run ends a line
pub run-content : (text : List ℕ) (at end b : ℕ) → get_or text at 0 ≡ b → is_run_delimiter b ≡ true → end ≡ at + prefix_len (λ c. c == get_or text at 0) (drop at text) → (k : ℕ) → at ≤ k → k < end → is_content (get_or text k 0) ≡ true
run-content text at end b is delimiter ends k low high =
    let p : ℕ → Bool = λ c. c == get_or text at 0 in
    let inside : k - at < prefix_len p (drop at text) = omega (arith, ends, low, high) in
    let byte : get_or text k 0 ≡ b =
    ap (λ i. get_or text i 0) (let q : k ≡ at + (k - at) = omega (arith, low) in q) ∙ sym (get_or-drop at text (k - at) 0)
    ∙ eqb-true (get_or (drop at text) (k - at) 0) (get_or text at 0) (prefix_len_passes p (drop at text) (k - at) 0 inside) ∙ is in
    ap is_content byte ∙ go (or_cases (b == 42) ((b == 95) || ((b == 126) || ((b == 94) || (b == 61)))) delimiter)
  where
    last : ((b == 94) ≡ true) ⊎ ((b == 61) ≡ true) → is_content b ≡ true
    last (inl h) = ap is_content (eqb-true b 94 h)
    last (inr h) = ap is_content (eqb-true b 61 h)

    further : ((b == 126) ≡ true) ⊎ (((b == 94) || (b == 61)) ≡ true) → is_content b ≡ true
    further (inl h) = ap is_content (eqb-true b 126 h)
    further (inr h) = last (or_cases (b == 94) (b == 61) h)

    more : ((b == 95) ≡ true) ⊎ (((b == 126) || ((b == 94) || (b == 61))) ≡ true) → is_content b ≡ true
    more (inl h) = ap is_content (eqb-true b 95 h)
    more (inr h) = further (or_cases (b == 126) ((b == 94) || (b == 61)) h)

    go : ((b == 42) ≡ true) ⊎ (((b == 95) || ((b == 126) || ((b == 94) || (b == 61)))) ≡ true) → is_content b ≡ true
    go (inl h) = ap is_content (eqb-true b 42 h)
    go (inr h) = more (or_cases (b == 95) ((b == 126) || ((b == 94) || (b == 61))) h)

-- ## Runs, from the code's values
module _ (o : Options) (l : Lookup) (cell : Bool) (text : List ℕ) (at : ℕ) (lt : at < length text) (b end size : ℕ) (before after : Option ℕ) (beside : Flanking) where
  pub record IsRunAt : Type 0 where
    pub byte : get_or text at 0 ≡ b
    pub delimiter : is_run_delimiter b ≡ true
    pub ends : end ≡ at + prefix_len (λ c. c == get_or text at 0) (drop at text)
    pub some : at < end
    pub sized : size ≡ end - at
    pub left : before ≡ first_of (reverse (chars (take at text)))
    pub right : after ≡ first_of (chars (drop end text))
    pub flanks : beside ≡ flanking o b size before after

  run-of : IsRunAt → begins_at o l cell text at ≡ run_or (reading o l text) (whole cell text) at b size beside
  run-of h = run-is o l cell text at lt b end size before after h.byte h.delimiter h.ends h.sized h.left h.right ∙ ap (run_or (reading o l text) (whole cell text) at b size) (sym h.flanks)

  size-is : IsRunAt → at + size ≡ end
  size-is h = let s = h.sized in let lt = h.some in let q : at + size ≡ end = omega (arith, s, lt) in q

  pub run-stays : IsRunAt → not beside.opens ≡ true → not beside.closes ≡ true → begins_at o l cell text at ≡ item_at Plain at end
  run-stays h x y = run-plain o l cell text at lt b end size beside (run-of h) (size-is h) (not-true beside.opens x) (not-true beside.closes y)

  pub run-begins-there : IsRunAt → (beside.opens || beside.closes) ≡ true
      → begins_at o l cell text at ≡ item_at (Delimiters (record { delimiter = b; run_length = size; at = 0; left = size; opens = beside.opens; closes = beside.closes })) at end
  run-begins-there h x = run-marks o l cell text at lt b end size beside (run-of h) (size-is h) x
