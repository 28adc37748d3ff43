-- The offset at which reading continues after a break or inline HTML.
use Rattle.std.specs.Prelude.{not, if◌then◌else◌, min, reverse, None}
use Rattle.std.proofs.Common.{◌≡◌, ℕ, ◌-◌, ◌<◌, ◌≤◌, Bool, true, false, List, length, take, drop, get_or, sym, ap, ◌∙◌, arith, length-drop}
use Rattle.std.proofs.lemmas.List.{append-nil}
use Rattle.cmark_grammar.specs.InlineTokens.{from, before, line_begins}
use Rattle.cmark_grammar.specs.Lines.{is_content}
use Rattle.cmark_grammar.specs.Letters.{first_is}
use Rattle.cmark_grammar.specs.LinkDefinitions.{after_leading_blanks}
use Rattle.cmark_grammar.specs.Options.{no_options}
use Rattle.cmark_grammar.specs.Readers.{Reader}
use Rattle.cmark_grammar.specs.Tokens.{slice}
use Rattle.cmark_inline.specs.Tokens.{whole, reading, read_on}
use Rattle.cmark_inline.proofs.Bytes.{last-before}
use Rattle.cmark_inline.proofs.TokenSteps.{from-is}

module _ (text : List ℕ) (at : ℕ) (le : at ≤ length text) where
  abbrev r : Reader
  r = reading no_options (λ name. None) text

  pub before-is : before r (whole false text) at ≡ take at text
  before-is = append-nil (slice text 0 (min at (length text))) ∙ ap (λ n. take n text) (let q : min at (length text) - 0 ≡ at = omega (arith, le) in q)

  begins-is : 0 < at → line_begins r (whole false text) at ≡ not (is_content (get_or text (at - 1) 0))
  begins-is some = ap (λ bs. first_is (λ b. not (is_content b)) (reverse bs)) before-is ∙ last-before (λ b. not (is_content b)) text at some le

  start-is : at ≡ 0 → line_begins r (whole false text) at ≡ false
  start-is e = ap (λ bs. first_is (λ b. not (is_content b)) (reverse bs)) (before-is ∙ ap (λ n. take n text) e)

  abbrev rest_by : Bool → List ℕ
  rest_by z = if z then after_leading_blanks (from r (whole false text) at) else from r (whole false text) at

  here-is : length text - length (rest_by false) ≡ at
  here-is = let e = ap length (from-is no_options (λ name. None) false text at) in let d = length-drop at text in let q : length text - length (from r (whole false text) at) ≡ at = omega (arith, e, d, le) in q

  pub read-on-content : 0 < at → not (is_content (get_or text (at - 1) 0)) ≡ false → read_on text at ≡ at
  read-on-content some e = ap (λ z. length text - length (rest_by z)) (begins-is some ∙ e) ∙ here-is

  -- a line begins there: reading continues after its leading blanks
  pub read-on-words : (words : ℕ) → 0 < at → not (is_content (get_or text (at - 1) 0)) ≡ true → drop words text ≡ after_leading_blanks (drop at text) → words ≤ length text → read_on text at ≡ words
  read-on-words words some e is within =
      let d = length-drop words text in
      ap (λ z. length text - length (rest_by z)) (begins-is some ∙ e)
      ∙ ap (λ bs. length text - length (after_leading_blanks bs)) (from-is no_options (λ name. None) false text at)
      ∙ ap (λ bs. length text - length bs) (sym is)
      ∙ (let q : length text - length (drop words text) ≡ words = omega (arith, d, within) in q)
