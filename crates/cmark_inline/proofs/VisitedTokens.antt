-- A code span or a formula begins at an offset only if a search finds it. HTML begins at the offset where it is read.
use Rattle.std.specs.Prelude.{Option, is_some, if◌then◌else◌, nat_lt, codes, not, drop, take}
use Rattle.std.specs.List.{prefix_len}
use Rattle.std.proofs.Common.{◌≡◌, ℕ, suc, ◌+◌, ◌<◌, ◌≤◌, ◌==◌, ◌&&◌, ◌||◌, Bool, true, false, List, ◌∷◌, length, get_or, Some, None, refl, sym, ap, subst, ◌∙◌, arith, eqb-true, true≢false}
use Rattle.std.proofs.lemmas.Bool.{and_parts}
use Rattle.cmark_grammar.specs.Answers.{Lookup}
use Rattle.cmark_grammar.specs.Autolinks.{autolink_in}
use Rattle.cmark_grammar.specs.CodeSpans.{is_backtick, backticks, code_in}
use Rattle.cmark_grammar.specs.Columns.{is_blank_byte}
use Rattle.cmark_grammar.specs.Flanking.{Flanking, flanking, is_run_delimiter}
use Rattle.cmark_grammar.specs.Formulas.{is_dollar}
use Rattle.cmark_grammar.specs.InlineHtml.{after_markup, takes_lines}
use Rattle.cmark_grammar.specs.InlineTokens.{autolink_or, begins, break_or, character_at, character_before, code_or, entity_or, escape_at, escaped_backtick, formula_or, from, item_at, less_than, markup_or, run_or, size_to, smart_or, source_from, tag_or_text}
use Rattle.cmark_grammar.specs.Items.{ItemKind, Plain, Html, OwnedHtml, SoftBreak, HardBreak, Item, Token, Stands}
use Rattle.cmark_grammar.specs.LabelsOverLines.{piped}
use Rattle.cmark_grammar.specs.LeafText.{Leaf}
use Rattle.cmark_grammar.specs.Letters.{first_is, starts}
use Rattle.cmark_grammar.specs.LineBreaks.{LineBreak, backslash_break_in, blank_break_in}
use Rattle.cmark_grammar.specs.Lines.{is_content}
use Rattle.cmark_grammar.specs.LinkDefinitions.{Parsed}
use Rattle.cmark_grammar.specs.Options.{Options}
use Rattle.cmark_grammar.specs.Readers.{Reader}
use Rattle.cmark_grammar.specs.Tags.{after_tag, no_prefix}
use Rattle.cmark_grammar.specs.Tokens.{Entity, entity_in, is_punctuation}
use Rattle.cmark_span_scan.specs.Dollars.{formula_at}
use Rattle.cmark_inline.specs.LeastSteps.{VisitsAt, closers_of, visited_in}
use Rattle.cmark_inline.specs.Tokens.{begins_at, reading, whole}
use Rattle.cmark_inline.specs.declared.step.Sought.{Sought}
use Rattle.cmark_inline.proofs.FormulaSteps.{formula-begins, kind_by}
use Rattle.cmark_inline.proofs.TokenSteps.{begins-with, code-begins}

abbrev pub closers_at : Token → ℕ
closers_at (Stands x resume) = closers_of x.kind
closers_at _ = 0

-- HTML of the source begins at the offset where it is read
abbrev pub StartsAt : (at : ℕ) → ItemKind → (start : ℕ) → Type 0
StartsAt at Html start = start ≡ at
StartsAt at _ start = Unit {0}

abbrev pub IsHere : (at : ℕ) → Token → Type 0
IsHere at (Stands x resume) = StartsAt at x.kind x.start
IsHere at _ = Unit {0}

-- the token is no code span and no formula, and if it is HTML, it begins there
pub record IsOther (at : ℕ) (t : Token) : Type 0 where
  pub none : closers_at t ≡ 0
  pub here : IsHere at t

module _ (reader : Reader) (leaf : Leaf) (at : ℕ) where
  either : (z : Bool) (x y : Token) → IsOther at x → IsOther at y → IsOther at (if z then x else y)
  either true x y h k = h
  either false x y h k = k

  first-of : (z : Bool) (x y : Token) → z ≡ true → IsOther at x → IsOther at (if z then x else y)
  first-of true x y e h = h
  first-of false x y e h = absurd (true≢false (sym e))

  second-of : (z : Bool) (x y : Token) → z ≡ false → IsOther at y → IsOther at (if z then x else y)
  second-of true x y e h = absurd (true≢false e)
  second-of false x y e h = h

  break-other : (found : Option LineBreak) (t : Token) → IsOther at t → IsOther at (break_or reader leaf at found t)
  break-other None t h = h
  break-other (Some found) t h = record { none = go found.is_hard; here = here found.is_hard (at + found.before) }
    where
      here : (z : Bool) (start : ℕ) → StartsAt at (if z then HardBreak else SoftBreak) start
      here true start = tt
      here false start = tt

      go : (z : Bool) → closers_of (if z then HardBreak else SoftBreak) ≡ 0
      go true = refl
      go false = refl

  escaped-other : (n k : ℕ) (found : Option Parsed) → IsOther at (escaped_backtick reader leaf n k found)
  escaped-other n k None = record { none = refl; here = tt }
  escaped-other n k (Some found) = record { none = refl; here = tt }

  escape-other : (bs : List ℕ) → IsOther at (escape_at reader leaf at bs)
  escape-other bs =
      either (first_is is_backtick bs) _ _ (escaped-other (suc at) (backticks bs) (code_in (drop 1 bs)))
      (either (leaf.is_cell && starts piped bs) _ _ (record { none = refl; here = tt }) (either (first_is is_punctuation bs) _ _ (record { none = refl; here = tt }) (record { none = refl; here = tt })))

  entity-other : (entity : Option Entity) → IsOther at (entity_or reader leaf at entity)
  entity-other None = record { none = refl; here = tt }
  entity-other (Some entity) = record { none = refl; here = tt }

  tag-other : (found : Option (List ℕ)) → IsOther at (tag_or_text reader leaf at found)
  tag-other None = record { none = refl; here = tt }
  tag-other (Some rest) = record {
    none = go (take (size_to reader leaf at rest) (from reader leaf at)) (takes_lines (take (size_to reader leaf at rest) (from reader leaf at)));
    here = here (take (size_to reader leaf at rest) (from reader leaf at)) (takes_lines (take (size_to reader leaf at rest) (from reader leaf at)));
  }
    where
      here : (bytes : List ℕ) (z : Bool) → StartsAt at (if z then OwnedHtml bytes else Html) at
      here bytes true = tt
      here bytes false = refl

      go : (bytes : List ℕ) (z : Bool) → closers_of (if z then OwnedHtml bytes else Html) ≡ 0
      go bytes true = refl
      go bytes false = refl

  markup-other : (found : Option (List ℕ)) (t : Token) → IsOther at t → IsOther at (markup_or reader leaf at found t)
  markup-other None t h = h
  markup-other (Some rest) t h = record { none = refl; here = refl }

  autolink-other : (found : Option Parsed) (t : Token) → IsOther at t → IsOther at (autolink_or reader leaf at found t)
  autolink-other None t h = h
  autolink-other (Some found) t h = record { none = refl; here = tt }

  less-other : (bs : List ℕ) → IsOther at (less_than reader leaf at bs)
  less-other bs =
      either (first_is (λ c. c == 92) bs) _ _ (record { none = refl; here = tt })
      (autolink-other (autolink_in reader.options.email_autolinks bs) _ (markup-other (after_markup (source_from reader leaf at)) _ (tag-other (after_tag no_prefix (from reader leaf at)))))

  run-other : (delimiter n : ℕ) (beside : Flanking) → IsOther at (run_or reader leaf at delimiter n beside)
  run-other delimiter n beside = either (beside.opens || beside.closes) _ _ (record { none = refl; here = tt }) (record { none = refl; here = tt })

  smart-other : (b : ℕ) → IsOther at (smart_or reader leaf at b)
  smart-other b =
      either (b == 46) _ _ (either (starts (codes "...") (from reader leaf at)) _ _ (record { none = refl; here = tt }) (record { none = refl; here = tt }))
      (either (b == 45) _ _ (either (nat_lt (prefix_len (λ c. c == 45) (from reader leaf at)) 2) _ _ (record { none = refl; here = tt }) (record { none = refl; here = tt }))
      (either ((b == 34) || (b == 39)) _ _ (record { none = refl; here = tt }) (record { none = refl; here = tt })))

  -- the token at a blank or a line ending
  pub blank-other : (b : ℕ) (bs : List ℕ) → (is_blank_byte b || not (is_content b)) ≡ true → IsOther at (begins reader leaf at (b ∷ bs))
  blank-other b bs e = first-of (is_blank_byte b || not (is_content b)) _ _ e (break-other (blank_break_in (b ∷ bs)) (item_at Plain at (suc at)) (record { none = refl; here = tt }))

  -- the token at a byte that is neither a backtick nor a dollar sign that may open a formula
  pub byte-other : (b : ℕ) (bs : List ℕ) → (b == 96) ≡ false → (reader.options.math && is_dollar b) ≡ false → IsOther at (begins reader leaf at (b ∷ bs))
  byte-other b bs no-tick no-sign =
      either (is_blank_byte b || not (is_content b)) _ _ (break-other (blank_break_in (b ∷ bs)) (item_at Plain at (suc at)) (record { none = refl; here = tt }))
      (either (b == 92) _ _ (break-other (backslash_break_in (b ∷ bs)) (escape_at reader leaf at bs) (escape-other bs))
      (either (b == 38) _ _ (entity-other (entity_in reader.lookup bs))
      (second-of (b == 96) _ _ no-tick
      (either (b == 60) _ _ (less-other bs)
      (either (b == 33) _ _ (either (first_is (λ c. c == 91) bs) _ _ (record { none = refl; here = tt }) (record { none = refl; here = tt }))
      (either (b == 91) _ _ (record { none = refl; here = tt })
      (either (b == 93) _ _ (record { none = refl; here = tt })
      (either (is_run_delimiter b) _ _ (run-other b (prefix_len (λ c. c == b) (b ∷ bs)) (flanking reader.options b (prefix_len (λ c. c == b) (b ∷ bs)) (character_before reader leaf at) (character_at reader leaf (at + prefix_len (λ c. c == b) (b ∷ bs)))))
      (second-of (reader.options.math && is_dollar b) _ _ no-sign (either reader.options.smart_punctuation _ _ (smart-other b) (record { none = refl; here = tt })))))))))))

-- ## The item at an offset
module _ (o : Options) (l : Lookup) (cell : Bool) (text : List ℕ) (at : ℕ) (lt : at < length text) (x : Item) (resume : ℕ) (t : begins_at o l cell text at ≡ Stands x resume) where
  -- if it is HTML, it begins there
  pub starts-there : StartsAt at x.kind x.start
  starts-there = subst (IsHere at) t (by (get_or text at 0 == 96) refl (o.math && is_dollar (get_or text at 0)) refl)
    where
      code : (found : Option Parsed) → IsHere at (code_or (reading o l text) (whole cell text) at (backticks (drop at text)) found)
      code None = tt
      code (Some found) = tt

      formula : (double : Bool) (found : Option Parsed) → IsHere at (formula_or (reading o l text) (whole cell text) (kind_by double) at found)
      formula double None = tt
      formula true (Some found) = tt
      formula false (Some found) = tt

      by : (z : Bool) → (get_or text at 0 == 96) ≡ z → (w : Bool) → (o.math && is_dollar (get_or text at 0)) ≡ w → IsHere at (begins_at o l cell text at)
      by true e w f = subst (IsHere at) (sym (code-begins o l cell text at lt (eqb-true (get_or text at 0) 96 e))) (code (code_in (drop at text)))
      by false e true f =
          let both = and_parts o.math (is_dollar (get_or text at 0)) f in
          subst (IsHere at) (sym (formula-begins o l cell text at lt (eqb-true (get_or text at 0) 36 both.1) both.0 (first_is is_dollar (drop (at + 1) text)) refl)) (formula (first_is is_dollar (drop (at + 1) text)) (formula_at text at))
      by false e false f = (subst (IsOther at) (sym (begins-with o l cell text at (get_or text at 0) lt refl)) (byte-other (reading o l text) (whole cell text) at (get_or text at 0) (drop (suc at) text) e f)).here

  -- ## The runs that a call has visited
  module _ (was sought : Sought) where
    abbrev Visited : Type 0
    Visited = closers_of x.kind + visited_in was ≤ visited_in sought

    none-visited : was.runs.visited ≤ sought.runs.visited → was.dollars.visited ≤ sought.dollars.visited → IsOther at (begins_at o l cell text at) → Visited
    none-visited runs signs other = let n = sym (ap closers_at t) ∙ other.none in omega (arith, runs, signs, n)

    -- at a blank or a line ending
    pub blank-visited : was.runs.visited ≤ sought.runs.visited → was.dollars.visited ≤ sought.dollars.visited → (is_blank_byte (get_or text at 0) || not (is_content (get_or text at 0))) ≡ true → Visited
    blank-visited runs signs e =
        none-visited runs signs (subst (IsOther at) (sym (begins-with o l cell text at (get_or text at 0) lt refl)) (blank-other (reading o l text) (whole cell text) at (get_or text at 0) (drop (suc at) text) e))

    -- at the byte of the call
    pub there-visited : VisitsAt text at was sought → Visited
    there-visited v = by (get_or text at 0 == 96) refl (o.math && is_dollar (get_or text at 0)) refl
      where
        code : get_or text at 0 ≡ 96 → (found : Option Parsed) → code_in (drop at text) ≡ found → closers_at (code_or (reading o l text) (whole cell text) at (backticks (drop at text)) found) ≡ closers_of x.kind → Visited
        code is None e n = let r = v.runs in let s = v.signs in omega (arith, r, s, n)
        code is (Some found) e n = let r = v.code is (ap is_some e) in let s = v.signs in omega (arith, r, s, n)

        formula : get_or text at 0 ≡ 36 → (double : Bool) (found : Option Parsed) → formula_at text at ≡ found → closers_at (formula_or (reading o l text) (whole cell text) (kind_by double) at found) ≡ closers_of x.kind → Visited
        formula is double None e n = let r = v.runs in let s = v.signs in omega (arith, r, s, n)
        formula is true (Some found) e n = let r = v.runs in let s = v.formula is (ap is_some e) in omega (arith, r, s, n)
        formula is false (Some found) e n = let r = v.runs in let s = v.formula is (ap is_some e) in omega (arith, r, s, n)

        by : (z : Bool) → (get_or text at 0 == 96) ≡ z → (w : Bool) → (o.math && is_dollar (get_or text at 0)) ≡ w → Visited
        by true e w f = let is = eqb-true (get_or text at 0) 96 e in code is (code_in (drop at text)) refl (ap closers_at (sym (code-begins o l cell text at lt is) ∙ t))
        by false e true f =
            let both = and_parts o.math (is_dollar (get_or text at 0)) f in
            let is = eqb-true (get_or text at 0) 36 both.1 in
            formula is (first_is is_dollar (drop (at + 1) text)) (formula_at text at) refl (ap closers_at (sym (formula-begins o l cell text at lt is both.0 (first_is is_dollar (drop (at + 1) text)) refl) ∙ t))
        by false e false f = none-visited v.runs v.signs (subst (IsOther at) (sym (begins-with o l cell text at (get_or text at 0) lt refl)) (byte-other (reading o l text) (whole cell text) at (get_or text at 0) (drop (suc at) text) e f))
