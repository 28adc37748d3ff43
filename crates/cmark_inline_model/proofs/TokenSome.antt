-- At each byte of a leaf some token begins that is not the end of the text.
use Rattle.std.specs.Prelude.{suc, ◌==◌, ◌&&◌, ◌||◌, not, if◌then◌else◌}
use Rattle.std.specs.List.{prefix_len}
use Rattle.std.proofs.Common.{◌≡◌, ◌≢◌, ◌+◌, ℕ, Bool, true, false, List, [], ◌∷◌, Option, Some, None, arith}
use Rattle.cmark_grammar.specs.CodeSpans.{backticks, code_in}
use Rattle.cmark_grammar.specs.Columns.{is_blank_byte}
use Rattle.cmark_grammar.specs.Flanking.{Flanking, flanking, is_run_delimiter}
use Rattle.cmark_grammar.specs.Formulas.{is_dollar, Braces, no_braces, braces_after}
use Rattle.cmark_grammar.specs.InlineTokens.{item_at, bracket, from, before, character_before, character_at, break_or, code_or, escaped_backtick, escape_at, entity_or, autolink_or, tag_or_text, markup_or, less_than, run_or, run_at, formula_or, dollar, smart_or, begins, longest, token}
use Rattle.cmark_grammar.specs.Items.{ItemKind, Plain, Delimiters, Token, Opens, Closes, Ends}
use Rattle.cmark_grammar.specs.LeafText.{Leaf}
use Rattle.cmark_grammar.specs.Letters.{first_is}
use Rattle.cmark_grammar.specs.LineBreaks.{LineBreak, backslash_break_in, blank_break_in}
use Rattle.cmark_grammar.specs.Lines.{is_content}
use Rattle.cmark_grammar.specs.LinkDefinitions.{Parsed}
use Rattle.cmark_grammar.specs.Readers.{Reader}
use Rattle.cmark_grammar.specs.Tokens.{Entity, entity_in}

-- an item or a bracket
abbrev IsSome : Token → Type 0
IsSome Ends = ⊥
IsSome _ = Unit {0}

-- one of two tokens
when : (b : Bool) (x y : Token) → IsSome x → IsSome y → IsSome (if b then x else y)
when true x y h k = h
when false x y h k = k

module _ (reader : Reader) (leaf : Leaf) where
  break_some : (at : ℕ) (found : Option LineBreak) (other : Token) → IsSome other → IsSome (break_or reader leaf at found other)
  break_some at None other h = h
  break_some at (Some found) other h = tt

  code_some : (at size : ℕ) (found : Option Parsed) → IsSome (code_or reader leaf at size found)
  code_some at size None = tt
  code_some at size (Some found) = tt

  escaped_some : (at size : ℕ) (found : Option Parsed) → IsSome (escaped_backtick reader leaf at size found)
  escaped_some at size None = tt
  escaped_some at size (Some found) = tt

  entity_some : (at : ℕ) (found : Option Entity) → IsSome (entity_or reader leaf at found)
  entity_some at None = tt
  entity_some at (Some found) = tt

  autolink_some : (at : ℕ) (found : Option Parsed) (other : Token) → IsSome other → IsSome (autolink_or reader leaf at found other)
  autolink_some at None other h = h
  autolink_some at (Some found) other h = tt

  markup_some : (at : ℕ) (found : Option (List ℕ)) (other : Token) → IsSome other → IsSome (markup_or reader leaf at found other)
  markup_some at None other h = h
  markup_some at (Some rest) other h = tt

  tag_some : (at : ℕ) (found : Option (List ℕ)) → IsSome (tag_or_text reader leaf at found)
  tag_some at None = tt
  tag_some at (Some rest) = tt

  formula_some : (kind : List ℕ → ItemKind) (at : ℕ) (found : Option Parsed) → IsSome (formula_or reader leaf kind at found)
  formula_some kind at None = tt
  formula_some kind at (Some found) = tt

  escape_some : (at : ℕ) (bs : List ℕ) → IsSome (escape_at reader leaf at bs)
  escape_some at bs = grind (arith, when, escaped_some)

  less_than_some : (at : ℕ) (bs : List ℕ) → IsSome (less_than reader leaf at bs)
  less_than_some at bs = grind (arith, when, autolink_some, markup_some, tag_some)

  run_some : (at delimiter size : ℕ) (beside : Flanking) → IsSome (run_or reader leaf at delimiter size beside)
  run_some at delimiter size beside =
      when (beside.opens || beside.closes) (item_at (Delimiters (record { delimiter = delimiter; run_length = size; at = 0; left = size; opens = beside.opens; closes = beside.closes })) at (at + size)) (item_at Plain at (at + size)) tt tt

  dollar_some : (at : ℕ) (bs : List ℕ) (braces : Braces) → IsSome (dollar reader leaf at bs braces)
  dollar_some at bs braces = grind (arith, when, formula_some)

  smart_some : (at b : ℕ) → IsSome (smart_or reader leaf at b)
  smart_some at b = grind (arith, when)

  begins_some : (at b : ℕ) (bs : List ℕ) → IsSome (begins reader leaf at (b ∷ bs))
  begins_some at b bs =
      let plain = item_at Plain at (suc at) in
      let c9 = if reader.options.smart_punctuation then smart_or reader leaf at b else plain in
      let c8 = if reader.options.math && is_dollar b then dollar reader leaf at bs (braces_after false (before reader leaf at) no_braces) else c9 in
      let n = prefix_len (λ c. c == b) (b ∷ bs) in
      let c7 = if is_run_delimiter b then run_at reader leaf at b n else c8 in
      let c6 = if b == 93 then Closes (bracket false at (suc at)) else c7 in
      let c5 = if b == 91 then Opens (bracket false at (suc at)) else c6 in
      let bang = if first_is (λ c. c == 91) bs then Opens (bracket true at (at + 2)) else plain in
      let c4 = if b == 33 then bang else c5 in
      let c3 = if b == 60 then less_than reader leaf at bs else c4 in
      let c2 = if b == 96 then code_or reader leaf at (backticks (b ∷ bs)) (code_in (b ∷ bs)) else c3 in
      let c1 = if b == 38 then entity_or reader leaf at (entity_in reader.lookup bs) else c2 in
      let c0 = if b == 92 then break_or reader leaf at (backslash_break_in (b ∷ bs)) (escape_at reader leaf at bs) else c1 in
      when (is_blank_byte b || not (is_content b)) (break_or reader leaf at (blank_break_in (b ∷ bs)) plain) c0 (break_some at (blank_break_in (b ∷ bs)) plain tt)
      (when (b == 92) (break_or reader leaf at (backslash_break_in (b ∷ bs)) (escape_at reader leaf at bs)) c1 (break_some at (backslash_break_in (b ∷ bs)) (escape_at reader leaf at bs) (escape_some at bs))
      (when (b == 38) (entity_or reader leaf at (entity_in reader.lookup bs)) c2 (entity_some at (entity_in reader.lookup bs))
      (when (b == 96) (code_or reader leaf at (backticks (b ∷ bs)) (code_in (b ∷ bs))) c3 (code_some at (backticks (b ∷ bs)) (code_in (b ∷ bs)))
      (when (b == 60) (less_than reader leaf at bs) c4 (less_than_some at bs)
      (when (b == 33) bang c5 (when (first_is (λ c. c == 91) bs) (Opens (bracket true at (at + 2))) plain tt tt)
      (when (b == 91) (Opens (bracket false at (suc at))) c6 tt
      (when (b == 93) (Closes (bracket false at (suc at))) c7 tt
      (when (is_run_delimiter b) (run_at reader leaf at b n) c8
      (run_some at b n (flanking reader.options b n (character_before reader leaf at) (character_at reader leaf (at + n))))
      (when (reader.options.math && is_dollar b) (dollar reader leaf at bs (braces_after false (before reader leaf at) no_braces)) c9 (dollar_some at bs (braces_after false (before reader leaf at) no_braces))
      (when reader.options.smart_punctuation (smart_or reader leaf at b) plain (smart_some at b) tt))))))))))

  longest_some : (t : Token) → IsSome t → IsSome (longest reader leaf t)
  longest_some t h = grind (arith, when)

  -- the text ends exactly if no byte is left
  pub ends-following-bytes : (at : ℕ) → from reader leaf at ≡ [] → token reader leaf at ≡ Ends
  unfolding token
  ends-following-bytes at e = cc

  pub no-end-at-a-byte : (at : ℕ) → from reader leaf at ≢ [] → token reader leaf at ≢ Ends
  unfolding token
  no-end-at-a-byte at some e = grind (arith, longest_some, begins_some)
