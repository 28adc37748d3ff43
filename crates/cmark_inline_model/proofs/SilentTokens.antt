-- Tokens do not hang on whether there is a callback.
use Rattle.std.specs.Prelude.{suc, zero, ◌==◌, ◌&&◌, ◌||◌, not, if◌then◌else◌}
use Rattle.std.specs.List.{prefix_len}
use Rattle.std.proofs.Common.{◌≡◌, ℕ, ◌+◌, Bool, true, false, List, [], ◌∷◌, Option, Some, None, refl, ap, ◌∙◌, arith}
use Rattle.cmark_grammar.specs.Flanking.{is_run_delimiter}
use Rattle.cmark_grammar.specs.CodeSpans.{backticks, code_in}
use Rattle.cmark_grammar.specs.Columns.{is_blank_byte}
use Rattle.cmark_grammar.specs.Formulas.{is_dollar, Braces, no_braces, braces_after}
use Rattle.cmark_grammar.specs.InlineTokens.{item_at, bracket, is_plain, from, before, break_or, code_or, escaped_backtick, escape_at, entity_or, autolink_or, tag_or_text, markup_or, less_than, run_at, formula_or, dollar, smart_or, begins, begins_at, goes_on, plain_end, longest, token}
use Rattle.cmark_grammar.specs.Items.{ItemKind, Plain, Token, Stands, Opens, Closes}
use Rattle.cmark_grammar.specs.LeafText.{Leaf}
use Rattle.cmark_grammar.specs.Letters.{first_is}
use Rattle.cmark_grammar.specs.LineBreaks.{LineBreak, backslash_break_in, blank_break_in}
use Rattle.cmark_grammar.specs.Lines.{is_content}
use Rattle.cmark_grammar.specs.LinkDefinitions.{Parsed}
use Rattle.cmark_grammar.specs.Readers.{Reader}
use Rattle.cmark_grammar.specs.Tokens.{Entity, entity_in}
use Rattle.cmark_inline_model.specs.Unanswered.{silent}

pub if-same : {A : Type 0} (b : Bool) (x y u v : A) → x ≡ u → y ≡ v → (if b then x else y) ≡ (if b then u else v)
if-same true x y u v e f = e
if-same false x y u v e f = f

module _ (reader : Reader) (leaf : Leaf) where
  break_same : (at : ℕ) (found : Option LineBreak) (x y : Token) → x ≡ y → break_or (silent reader) leaf at found x ≡ break_or reader leaf at found y
  break_same at None x y e = e
  break_same at (Some found) x y e = refl

  code_same : (at size : ℕ) (found : Option Parsed) → code_or (silent reader) leaf at size found ≡ code_or reader leaf at size found
  code_same at size None = refl
  code_same at size (Some found) = refl

  backtick_same : (at size : ℕ) (found : Option Parsed) → escaped_backtick (silent reader) leaf at size found ≡ escaped_backtick reader leaf at size found
  backtick_same at size None = refl
  backtick_same at size (Some found) = refl

  escape_same : (at : ℕ) (bs : List ℕ) → escape_at (silent reader) leaf at bs ≡ escape_at reader leaf at bs
  escape_same at bs = grind (arith, if-same, backtick_same)

  entity_same : (at : ℕ) (entity : Option Entity) → entity_or (silent reader) leaf at entity ≡ entity_or reader leaf at entity
  entity_same at None = refl
  entity_same at (Some entity) = refl

  tag_same : (at : ℕ) (found : Option (List ℕ)) → tag_or_text (silent reader) leaf at found ≡ tag_or_text reader leaf at found
  tag_same at None = refl
  tag_same at (Some rest) = refl

  markup_same : (at : ℕ) (found : Option (List ℕ)) (x y : Token) → x ≡ y → markup_or (silent reader) leaf at found x ≡ markup_or reader leaf at found y
  markup_same at None x y e = e
  markup_same at (Some rest) x y e = refl

  autolink_same : (at : ℕ) (found : Option Parsed) (x y : Token) → x ≡ y → autolink_or (silent reader) leaf at found x ≡ autolink_or reader leaf at found y
  autolink_same at None x y e = e
  autolink_same at (Some found) x y e = refl

  less_same : (at : ℕ) (bs : List ℕ) → less_than (silent reader) leaf at bs ≡ less_than reader leaf at bs
  less_same at bs = grind (arith, if-same, autolink_same, markup_same, tag_same)

  formula_same : (kind : List ℕ → ItemKind) (at : ℕ) (found : Option Parsed) → formula_or (silent reader) leaf kind at found ≡ formula_or reader leaf kind at found
  formula_same kind at None = refl
  formula_same kind at (Some found) = refl

  dollar_same : (at : ℕ) (bs : List ℕ) (braces : Braces) → dollar (silent reader) leaf at bs braces ≡ dollar reader leaf at bs braces
  dollar_same at bs braces = grind (arith, if-same, formula_same)

  begins_same : (at : ℕ) (l : List ℕ) → begins (silent reader) leaf at l ≡ begins reader leaf at l
  begins_same at [] = refl
  begins_same at (b ∷ bs) =
      let plain = item_at Plain at (suc at) in
      let braces = braces_after false (before reader leaf at) no_braces in
      let last : Token = if reader.options.smart_punctuation then smart_or reader leaf at b else plain in
      let runs : Token → Token = λ t. if is_run_delimiter b then run_at reader leaf at b (prefix_len (λ c. c == b) (b ∷ bs)) else t in
      let bang : Token = if first_is (λ c. c == 91) bs then Opens (bracket true at (at + 2)) else plain in
      let brackets : Token → Token = λ t. if b == 33 then bang else (if b == 91 then Opens (bracket false at (suc at)) else (if b == 93 then Closes (bracket false at (suc at)) else runs t)) in
      let math : Reader → Token = λ r. if reader.options.math && is_dollar b then dollar r leaf at bs braces else last in
      let c3 : Reader → Token = λ r. if b == 60 then less_than r leaf at bs else brackets (math r) in
      let c2 : Reader → Token = λ r. if b == 96 then code_or r leaf at (backticks (b ∷ bs)) (code_in (b ∷ bs)) else c3 r in
      let c1 : Reader → Token = λ r. if b == 38 then entity_or r leaf at (entity_in reader.lookup bs) else c2 r in
      let slash : Reader → Token = λ r. break_or r leaf at (backslash_break_in (b ∷ bs)) (escape_at r leaf at bs) in
      let c0 : Reader → Token = λ r. if b == 92 then slash r else c1 r in
      let s = silent reader in
      let math_same : math s ≡ math reader = if-same (reader.options.math && is_dollar b) (dollar s leaf at bs braces) last (dollar reader leaf at bs braces) last (dollar_same at bs braces) refl in
      let same3 : c3 s ≡ c3 reader = if-same (b == 60) (less_than s leaf at bs) (brackets (math s)) (less_than reader leaf at bs) (brackets (math reader)) (less_same at bs) (ap brackets math_same) in
      let same2 : c2 s ≡ c2 reader = if-same (b == 96) (code_or s leaf at (backticks (b ∷ bs)) (code_in (b ∷ bs))) (c3 s)
      (code_or reader leaf at (backticks (b ∷ bs)) (code_in (b ∷ bs))) (c3 reader) (code_same at (backticks (b ∷ bs)) (code_in (b ∷ bs))) same3 in
      let same1 : c1 s ≡ c1 reader = if-same (b == 38) (entity_or s leaf at (entity_in reader.lookup bs)) (c2 s) (entity_or reader leaf at (entity_in reader.lookup bs)) (c2 reader) (entity_same at (entity_in reader.lookup bs)) same2 in
      let slash_same : slash s ≡ slash reader = break_same at (backslash_break_in (b ∷ bs)) (escape_at s leaf at bs) (escape_at reader leaf at bs) (escape_same at bs) in
      let same0 : c0 s ≡ c0 reader = if-same (b == 92) (slash s) (c1 s) (slash reader) (c1 reader) slash_same same1 in
      if-same (is_blank_byte b || not (is_content b)) (break_or s leaf at (blank_break_in (b ∷ bs)) plain) (c0 s) (break_or reader leaf at (blank_break_in (b ∷ bs)) plain) (c0 reader)
      (break_same at (blank_break_in (b ∷ bs)) plain plain refl) same0

  begins_at_same : (at : ℕ) → begins_at (silent reader) leaf at ≡ begins_at reader leaf at
  begins_at_same at = begins_same at (from reader leaf at)

  goes_same : (t : Token) (item_end : ℕ) (more other : ℕ → ℕ) → ((n : ℕ) → more n ≡ other n) → goes_on (silent reader) leaf t item_end more ≡ goes_on reader leaf t item_end other
  goes_same (Stands item resume) item_end more other e = if-same (is_plain item.kind && (item.start == item_end)) (more resume) item_end (other resume) item_end (e resume) refl
  goes_same _ item_end more other e = refl

  plain_same : (n item_end : ℕ) → plain_end (silent reader) leaf n item_end ≡ plain_end reader leaf n item_end
  plain_same zero item_end = refl
  plain_same (suc n) item_end = grind (arith, begins_at_same, goes_same)

  longest_same : (t : Token) → longest (silent reader) leaf t ≡ longest reader leaf t
  longest_same t = grind (arith, if-same, plain_same)

  pub token-same : (at : ℕ) → token (silent reader) leaf at ≡ token reader leaf at
  unfolding token
  token-same at = ap (longest (silent reader) leaf) (begins_at_same at) ∙ longest_same (begins_at reader leaf at)
