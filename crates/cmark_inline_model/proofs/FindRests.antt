-- Code spans, formulas, autolinks, tags, and the text after a link's closing bracket end after an ASCII byte that does not end a line.
-- Markup that is searched in the source ends after an ASCII byte.
use Rattle.std.specs.Prelude.{option_map, ◌&&◌, not}
use Rattle.std.specs.List.{prefix_len}
use Rattle.std.proofs.Common.{◌≡◌, ◌⊎◌, inl, inr, ⊎_elim, ℕ, zero, suc, ◌+◌, ◌<◌, ◌≤◌, Bool, true, false, ◌==◌, ◌||◌, if◌then◌else◌, List, [], ◌∷◌, length, drop, get_or, Option, None, Some, refl, sym, ap, subst, ◌∙◌, arith, eqb-true, length-drop, drop-drop, rules}
use Rattle.std.proofs.lemmas.List.{get_or-drop}
use Rattle.cmark_grammar.specs.Autolinks.{closed_by, has_address, is_uri_byte, autolink_in}
use Rattle.cmark_grammar.specs.CodeSpans.{is_backtick, backticks, up_to_run, after_run, code_in}
use Rattle.cmark_grammar.specs.Columns.{is_blank_byte}
use Rattle.cmark_grammar.specs.Formulas.{is_dollar, is_ink, Braces, context_of, after_byte, closes_formula, formula_to, inline_in, display_in}
use Rattle.cmark_grammar.specs.Letters.{is_letter, first_is, after_while, after_if, and_then}
use Rattle.cmark_grammar.specs.Lines.{is_content}
use Rattle.cmark_grammar.specs.LinkDefinitions.{Parsed, put, escapes_next}
use Rattle.cmark_grammar.specs.Tags.{is_name_byte, is_attribute_start, is_attribute_byte, is_value_byte, after_line_feed, after_ending, after_tag_name, after_attribute_name, after_bare_value, after_greater, after_open_end, after_closing_tag, without_prefix, on_next_line, after_space, prefix_after, after_quotation_mark, after_value, after_assigned, after_attribute, after_attributes, after_open_tag, after_tag_start, after_tag, no_prefix}
use Rattle.cmark_block_model.proofs.RowEdges.{Front}
use Rattle.cmark_inline_model.proofs.WordBytes.{and-left, and-right, IsWord, Leads, prefix-leads, word-is}

-- a rest after some bytes
abbrev pub IsRest : (bs r : List ℕ) → Type 0
IsRest bs r = (k : ℕ) × (r ≡ drop k bs)

-- and the last of them is ASCII, and ends no line
pub record IsAfter (bs r : List ℕ) : Type 0 where
  pub place : ℕ
  pub inside : place < length bs
  pub content : is_content (get_or bs place 0) ≡ true
  pub ascii : get_or bs place 0 < 128
  pub rest : r ≡ drop (suc place) bs

pub onward : (bs s r : List ℕ) → IsRest bs s → IsRest s r → IsRest bs r
onward bs s r h i = (h.0 + i.0, i.1 ∙ ap (drop i.0) h.1 ∙ drop-drop i.0 h.0 bs)

pub following-rest : (bs s r : List ℕ) → IsRest bs s → IsAfter s r → IsAfter bs r
following-rest bs s r h i =
    let n = ap length h.1 in let l = length-drop h.0 bs in record {
      place = h.0 + i.place;
      inside = let lt = i.inside in omega arith;
      content = ap is_content (byte h i) ∙ i.content;
      ascii = subst (λ c. c < 128) (sym (byte h i)) i.ascii;
      rest = i.rest ∙ ap (drop (suc i.place)) h.1 ∙ drop-drop (suc i.place) h.0 bs ∙ ap (λ n. drop n bs) (let e : h.0 + suc i.place ≡ suc (h.0 + i.place) = omega arith in e);
    }
  where
    byte : (h : IsRest bs s) (i : IsAfter s r) → get_or bs (h.0 + i.place) 0 ≡ get_or s i.place 0
    byte h i = sym (get_or-drop h.0 bs i.place 0) ∙ ap (λ (l : List ℕ). get_or l i.place 0) (sym h.1)

pub byte_after : (b c : ℕ) (bs : List ℕ) → is_content c ≡ true → c < 128 → (b == c) ≡ true → IsAfter (b ∷ bs) bs
byte_after b c bs k a e = grind (arith, eqb-true)

-- the result came from one of the branches, or from the first part
pub branch : {A : Type 0} (z : Bool) (x y : Option A) (r : A) → (if z then x else y) ≡ Some r → ((z ≡ true) × (x ≡ Some r)) ⊎ (y ≡ Some r)
branch true x y r e = inl (refl, e)
branch false x y r e = inr e

pub after : {A B : Type 0} (o : Option A) (next : A → Option B) (r : B) → and_then o next ≡ Some r → (x : A) × (o ≡ Some x) × (next x ≡ Some r)
after None next r e = cc
after (Some x) next r e = (x, refl, e)

pub same : (x r : List ℕ) → Some x ≡ Some r → r ≡ x
same x r e = cc

-- ## Tags

pub if-rest : (p : ℕ → Bool) (bs r : List ℕ) → after_if p bs ≡ Some r → IsRest bs r
if-rest p [] r e = cc
if-rest p (b ∷ bs) r e = ⊎_elim (λ s. (1, same bs r s.1)) (λ n. cc) (branch (p b) (Some bs) None r e)

pub all-rest : (p : ℕ → Bool) (bs : List ℕ) → IsRest bs (after_while p bs)
all-rest p bs = (_, refl)

then-all : (p q : ℕ → Bool) (bs r : List ℕ) → and_then (after_if p bs) (λ rest. Some (after_while q rest)) ≡ Some r → IsRest bs r
then-all p q bs r e =
    let h = after (after_if p bs) (λ rest. Some (after_while q rest)) r e in
    onward bs h.0 r (if-rest p bs h.0 h.1) (subst (IsRest h.0) (sym (same (after_while q h.0) r h.2)) (all-rest q h.0))

feed-rest : (bs : List ℕ) → IsRest bs (after_line_feed bs)
feed-rest [] = (0, refl)
feed-rest (b ∷ bs) = go (b == 10)
  where
    go : (z : Bool) → IsRest (b ∷ bs) (if z then bs else b ∷ bs)
    go true = (1, refl)
    go false = (0, refl)

pub ending-rest : (bs r : List ℕ) → after_ending bs ≡ Some r → IsRest bs r
ending-rest [] r e = cc
ending-rest (b ∷ bs) r e =
    ⊎_elim (λ s. (1, same bs r s.1))
    (λ f. ⊎_elim (λ s. onward (b ∷ bs) bs r (1, refl) (subst (IsRest bs) (sym (same (after_line_feed bs) r s.1)) (feed-rest bs))) (λ n. cc) (branch (b == 13) (Some (after_line_feed bs)) None r f))
    (branch (b == 10) (Some bs) (if b == 13 then Some (after_line_feed bs) else None) r e)

module _ (prefix : List ℕ → ℕ) where
  line-rest : (bs : List ℕ) (o : Option (List ℕ)) → ((r : List ℕ) → o ≡ Some r → IsRest bs r) → IsRest bs (on_next_line prefix bs o)
  line-rest bs None h = (0, refl)
  line-rest bs (Some r) h = onward bs r _ (h r refl) (onward r (without_prefix prefix r) _ (_, refl) (all-rest is_blank_byte (without_prefix prefix r)))

  space-rest : (bs : List ℕ) → IsRest bs (after_space prefix bs)
  space-rest bs =
      let blanks : List ℕ = after_while is_blank_byte bs in
      onward bs blanks _ (all-rest is_blank_byte bs) (line-rest blanks (after_ending blanks) (ending-rest blanks))

  quote-rest : (quote skip : ℕ) (bs r : List ℕ) → after_quotation_mark prefix quote skip bs ≡ Some r → IsRest bs r
  quote-rest quote skip [] r e = cc
  quote-rest quote (suc skip) (b ∷ bs) r e = onward (b ∷ bs) bs r (1, refl) (quote-rest quote skip bs r e)
  quote-rest quote zero (b ∷ bs) r e =
      ⊎_elim (λ s. (1, same bs r s.1)) (λ f. onward (b ∷ bs) bs r (1, refl) (quote-rest quote (prefix_after prefix b bs) bs r f))
      (branch (b == quote) (Some bs) (after_quotation_mark prefix quote (prefix_after prefix b bs) bs) r e)

  value-rest : (bs r : List ℕ) → after_value prefix bs ≡ Some r → IsRest bs r
  value-rest [] r e = cc
  value-rest (b ∷ bs) r e =
      ⊎_elim (λ f. onward (b ∷ bs) bs r (1, refl) (quote-rest b 0 bs r f.1)) (λ f. then-all is_value_byte is_value_byte (b ∷ bs) r f)
      (branch ((b == 34) || (b == 39)) (after_quotation_mark prefix b 0 bs) (after_bare_value (b ∷ bs)) r e)

  assigned-rest : (name bs r : List ℕ) → IsRest name bs → after_assigned prefix name bs ≡ Some r → IsRest name r
  assigned-rest name [] r h e = (0, same name r e)
  assigned-rest name (b ∷ bs) r h e =
      ⊎_elim (λ f. onward name (b ∷ bs) r h (onward (b ∷ bs) bs r (1, refl) (onward bs (after_space prefix bs) r (space-rest bs) (value-rest (after_space prefix bs) r f.1)))) (λ s. (0, same name r s))
      (branch (b == 61) (after_value prefix (after_space prefix bs)) (Some name) r e)

  named-rest : (bs r : List ℕ) → and_then (after_attribute_name (after_space prefix bs)) (λ name. after_assigned prefix name (after_space prefix name)) ≡ Some r → IsRest bs r
  named-rest bs r e =
      let spaced : List ℕ = after_space prefix bs in
      let h = after (after_attribute_name spaced) (λ name. after_assigned prefix name (after_space prefix name)) r e in
      onward bs spaced r (space-rest bs) (onward spaced h.0 r (then-all is_attribute_start is_attribute_byte spaced h.0 h.1) (assigned-rest h.0 (after_space prefix h.0) r (space-rest h.0) h.2))

  attribute-rest : (bs r : List ℕ) → after_attribute prefix bs ≡ Some r → IsRest bs r
  attribute-rest bs r e = grind (arith, named-rest, branch)

  attributes-rest : (most : ℕ) (bs : List ℕ) → IsRest bs (after_attributes prefix most bs)
  attributes-rest zero bs = (0, refl)
  attributes-rest (suc most) bs = go (after_attribute prefix bs) refl (attributes-rest most)
    where
      go : (o : Option (List ℕ)) → after_attribute prefix bs ≡ o → ((rest : List ℕ) → IsRest rest (after_attributes prefix most rest)) → IsRest bs (elim o [ None ↦ bs | Some rest ↦ after_attributes prefix most rest ])
      go None e further = (0, refl)
      go (Some rest) e further = onward bs rest _ (attribute-rest bs rest e) (further rest)

greater-following : (bs r : List ℕ) → after_greater bs ≡ Some r → IsAfter bs r
greater-following [] r e = cc
greater-following (b ∷ bs) r e = ⊎_elim (λ f. subst (IsAfter (b ∷ bs)) (sym (same bs r f.1)) (byte_after b 62 bs refl (omega arith) f.0)) (λ n. cc) (branch (b == 62) (Some bs) None r e)

open_end-following : (bs r : List ℕ) → after_open_end bs ≡ Some r → IsAfter bs r
open_end-following bs r e = search (rules, following-rest, greater-following, branch)

closing-following : (bs r : List ℕ) → after_closing_tag bs ≡ Some r → IsAfter bs r
closing-following bs r e =
    let h = after (after_tag_name bs) (λ rest. after_greater (after_while is_blank_byte rest)) r e in
    following-rest bs h.0 r (then-all is_letter is_name_byte bs h.0 h.1) (following-rest h.0 (after_while is_blank_byte h.0) r (all-rest is_blank_byte h.0) (greater-following (after_while is_blank_byte h.0) r h.2))

open-following : (bs r : List ℕ) → after_open_tag no_prefix bs ≡ Some r → IsAfter bs r
open-following bs r e =
    let h = after (after_tag_name bs) (λ rest. after_open_end (after_space no_prefix (after_attributes no_prefix (length rest) rest))) r e in
    let attributes : List ℕ = after_attributes no_prefix (length h.0) h.0 in
    following-rest bs h.0 r (then-all is_letter is_name_byte bs h.0 h.1)
    (following-rest h.0 attributes r (attributes-rest no_prefix (length h.0) h.0)
    (following-rest attributes (after_space no_prefix attributes) r (space-rest no_prefix attributes) (open_end-following (after_space no_prefix attributes) r h.2)))

start-following : (bs r : List ℕ) → after_tag_start no_prefix bs ≡ Some r → IsAfter bs r
start-following bs r e =
    ⊎_elim (λ f. following-rest bs (drop 1 bs) r (1, refl) (closing-following (drop 1 bs) r f.1)) (λ f. open-following bs r f)
    (branch (first_is (λ b. b == 47) bs) (after_closing_tag (drop 1 bs)) (after_open_tag no_prefix bs) r e)

pub tag-following : (bs r : List ℕ) → after_tag no_prefix bs ≡ Some r → IsAfter bs r
tag-following bs r e =
    let h = after (after_if (λ b. b == 60) bs) (after_tag_start no_prefix) r e in
    following-rest bs h.0 r (if-rest (λ b. b == 60) bs h.0 h.1) (start-following h.0 r h.2)

-- ## Code spans

abbrev pub ParsedAfter : List ℕ → Option Parsed → Type 0
ParsedAfter bs None = Unit {0}
ParsedAfter bs (Some found) = IsAfter bs found.following

abbrev RunRest : (size : ℕ) → List ℕ → Option Parsed → Type 0
RunRest size bs None = Unit {0}
RunRest size bs (Some found) = IsRest bs found.following × (backticks found.following ≡ size)

pub when : {A : Type 0} (P : A → Type 0) (b : Bool) (x y : A) → (b ≡ true → P x) → (b ≡ false → P y) → P (if b then x else y)
when P true x y h k = h refl
when P false x y h k = k refl

put_run : (size b : ℕ) (bs : List ℕ) (o : Option Parsed) → RunRest size bs o → RunRest size (b ∷ bs) (put b o)
put_run size b bs None h = tt
put_run size b bs (Some found) h = (onward (b ∷ bs) bs found.following (1, refl) h.0, h.1)

run_rest : (size : ℕ) (goes_on : Bool) (bs : List ℕ) → RunRest size bs (up_to_run size goes_on bs)
run_rest size goes_on [] = tt
run_rest size goes_on (b ∷ bs) = search (rules, when, eqb-true, and-right, put_run, run_rest size (is_backtick b) bs)

-- the last of some bytes at the front
front_last : (Q : ℕ → Type 0) (m : ℕ) (l : List ℕ) → suc m ≤ length l → Front Q (suc m) l → Q (get_or l m 0)
front_last Q m [] h f = absurd (omega arith)
front_last Q zero (b ∷ l) h f = f.0
front_last Q (suc m) (b ∷ l) h f = front_last Q m l (omega arith) f.1

backtick_word : (b : ℕ) → is_backtick b ≡ true → IsWord b
backtick_word b e = word-is b 96 refl (omega arith) e

pub leads_after : (n : ℕ) (l : List ℕ) → 0 < n → Leads IsWord n l → IsAfter l (drop n l)
leads_after n l some h = grind (arith, front_last)

run_after : (bs l : List ℕ) (n : ℕ) → 0 < n → IsRest bs l → backticks l ≡ n → IsAfter bs (drop n l)
run_after bs l n some h e =
    following-rest bs l (drop n l) h (leads_after n l some (subst (λ k. Leads IsWord k l) e (prefix-leads is_backtick IsWord backtick_word l)))

pub code-following : (bs : List ℕ) → ParsedAfter bs (code_in bs)
code-following bs = go (backticks bs == 0) refl
  where
    found : (o : Option Parsed) → 0 < backticks bs → RunRest (backticks bs) (after_while is_backtick bs) o → ParsedAfter bs (option_map (after_run (backticks bs)) o)
    found None lt h = tt
    found (Some f) lt h = run_after bs f.following (backticks bs) lt (onward bs (after_while is_backtick bs) f.following (all-rest is_backtick bs) h.0) h.1

    some : (n : ℕ) → (n == 0) ≡ false → 0 < n
    some zero e = cc
    some (suc n) e = omega arith

    go : (z : Bool) → (backticks bs == 0) ≡ z → ParsedAfter bs (if z then None else option_map (after_run (backticks bs)) (up_to_run (backticks bs) false (after_while is_backtick bs)))
    go true e = tt
    go false e = found (up_to_run (backticks bs) false (after_while is_backtick bs)) (some (backticks bs) e) (run_rest (backticks bs) false (after_while is_backtick bs))

-- ## Formulas

put_after : (b : ℕ) (bs : List ℕ) (o : Option Parsed) → ParsedAfter bs o → ParsedAfter (b ∷ bs) (put b o)
put_after b bs None h = tt
put_after b bs (Some found) h = following-rest (b ∷ bs) bs found.following (1, refl) h

dollar_after : (b : ℕ) (bs : List ℕ) → is_dollar b ≡ true → IsAfter (b ∷ bs) bs
dollar_after b bs e = byte_after b 36 bs refl (omega arith) e

pub first_after : (bs : List ℕ) → first_is is_dollar bs ≡ true → IsAfter bs (drop 1 bs)
first_after [] e = cc
first_after (c ∷ bs) e = dollar_after c bs e

closed_formula : (is_display : Bool) (last b : ℕ) (bs : List ℕ) → is_dollar b ≡ true → closes_formula is_display last bs ≡ true → IsAfter (b ∷ bs) (drop (if is_display then 1 else 0) bs)
closed_formula true last b bs e f = following-rest (b ∷ bs) bs (drop 1 bs) (1, refl) (first_after bs f)
closed_formula false last b bs e f = dollar_after b bs e

formula_after : (is_display : Bool) (context : ℕ) (escaped : Bool) (last : ℕ) (braces : Braces) (bs : List ℕ) → ParsedAfter bs (formula_to is_display context escaped last braces bs)
formula_after is_display context escaped last braces [] = tt
formula_after is_display context escaped last braces (b ∷ bs) =
    let here : Option Parsed = Some (record { bytes = []; following = drop (if is_display then 1 else 0) bs }) in
    let closed : Option Parsed = if closes_formula is_display last bs then here else None in
    let later : Option Parsed = formula_to is_display context (escapes_next escaped b) b (after_byte escaped b braces) bs in
    when (ParsedAfter (b ∷ bs)) (not escaped && (is_dollar b && (context_of braces == context))) closed (put b later)
    (λ e. when (ParsedAfter (b ∷ bs)) (closes_formula is_display last bs) here None
    (λ f. closed_formula is_display last b bs (and-left (is_dollar b) (context_of braces == context) (and-right (not escaped) (is_dollar b && (context_of braces == context)) e)) f) (λ f. tt))
    (λ e. put_after b bs later (formula_after is_display context (escapes_next escaped b) b (after_byte escaped b braces) bs))

pub inline-following : (braces : Braces) (bs : List ℕ) → ParsedAfter bs (inline_in braces bs)
inline-following braces bs =
    when (ParsedAfter bs) (first_is is_ink bs) (formula_to false (context_of braces) false 36 braces bs) None (λ e. formula_after false (context_of braces) false 36 braces bs) (λ e. tt)

pub display-following : (braces : Braces) (bs : List ℕ) → ParsedAfter bs (display_in braces bs)
display-following braces bs = formula_after true (context_of braces) false 36 braces bs

-- ## Autolinks

first_here : (l : List ℕ) → first_is (λ b. b == 62) l ≡ true → IsAfter l (drop 1 l)
first_here [] e = cc
first_here (b ∷ l) e = byte_after b 62 l refl (omega arith) e

closed_after : (size : ℕ) (bs : List ℕ) → ParsedAfter bs (closed_by 62 size bs)
closed_after size bs =
    when (ParsedAfter bs) (first_is (λ b. b == 62) (drop size bs)) (Some (record { bytes = _; following = drop (suc size) bs })) None
    (λ e. subst (IsAfter bs) (drop-drop 1 size bs ∙ ap (λ n. drop n bs) (let q : size + 1 ≡ suc size = omega arith in q)) (following-rest bs (drop size bs) (drop 1 (drop size bs)) (size, refl) (first_here (drop size bs) e))) (λ e. tt)

pub autolink-following : (emails : Bool) (bs : List ℕ) → ParsedAfter bs (autolink_in emails bs)
autolink-following emails bs = when (ParsedAfter bs) (has_address emails bs) (closed_by 62 (prefix_len is_uri_byte bs) bs) None (λ e. closed_after (prefix_len is_uri_byte bs) bs) (λ e. tt)
