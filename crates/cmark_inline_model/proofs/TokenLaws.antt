-- Each token leads forward in its leaf, and is inside it.
use Rattle.std.specs.Prelude.{suc, zero, ◌-◌, ◌==◌, ◌&&◌, ◌||◌, not, nat_lt, if◌then◌else◌, drop, take, codes}
use Rattle.std.specs.List.{prefix_len}
use Rattle.std.proofs.Common.{◌≡◌, ◌<◌, ◌≤◌, ◌+◌, ℕ, Bool, true, false, List, [], ◌∷◌, length, Option, Some, None, refl, ap, arith, ◌∙◌, length-drop, eqb-true}
use Rattle.std.proofs.lemmas.Bool.{eq-eqb}
use Rattle.std.proofs.lemmas.List.{length-take}
use Rattle.std.proofs.lemmas.List.Sums.{prefix_len-le-length}
use Rattle.cmark_grammar.specs.Autolinks.{autolink_in}
use Rattle.cmark_grammar.specs.CodeSpans.{is_backtick, backticks, code_in, code_text}
use Rattle.cmark_grammar.specs.Columns.{is_blank_byte}
use Rattle.cmark_grammar.specs.Dashes.{dashes_of, dash_text}
use Rattle.cmark_grammar.specs.Flanking.{Flanking, flanking, is_run_delimiter}
use Rattle.cmark_grammar.specs.Formulas.{is_dollar, Braces, no_braces, braces_after}
use Rattle.cmark_grammar.specs.InlineHtml.{after_markup}
use Rattle.cmark_grammar.specs.InlineTokens.{item_at, bracket, as_in, from, before, place_of, size_to, character_before, character_at, read_on, break_or, code_or, escaped_backtick, escape_at, entity_or, autolink_or, tag_kind, tag_or_text, source_from, markup_or, less_than, run_or, run_at, formula_or, dollar, dots, hyphens, quote_at, smart_or, begins, begins_at, goes_on, plain_end, longest, token}
use Rattle.cmark_grammar.specs.Items.{ItemKind, Plain, Own, Written, Code, Autolink, Quoted, Delimiters, Token, Stands, Opens, Closes, Ends}
use Rattle.cmark_grammar.specs.LabelsOverLines.{piped}
use Rattle.cmark_grammar.specs.LeafText.{Leaf, end_of, InTurn}
use Rattle.cmark_grammar.specs.Letters.{first_is, starts}
use Rattle.cmark_grammar.specs.LineBreaks.{LineBreak, backslash_break_in, blank_break_in}
use Rattle.cmark_grammar.specs.Lines.{is_content}
use Rattle.cmark_grammar.specs.LinkDefinitions.{Parsed, after_leading_blanks}
use Rattle.cmark_grammar.specs.Quotes.{quote_beside}
use Rattle.cmark_grammar.specs.Readers.{Reader}
use Rattle.cmark_grammar.specs.Tags.{after_tag, no_prefix}
use Rattle.cmark_grammar.specs.Tokens.{Entity, entity_in, is_punctuation}
use Rattle.cmark_inline_model.proofs.ShorterRests.{LeavesBelow, ParsedBelow, either, prefix-some, tag-shorter, code-shorter, autolink-within, inline-shorter, display-shorter, markup-shorter}
use Rattle.cmark_inline_model.specs.PartRanges.{StandsFrom}
use Rattle.cmark_inline_model.proofs.LeafPlaces.{none-following, place-within, place-from, place-following, some-fit}
use Rattle.cmark_inline_model.proofs.TokenSizes.{starts-size, first-size, EntityWithin, entity-within, BreakWithin, backslash-within, blank-within}

pub length-blanks : (bs : List ℕ) → length (after_leading_blanks bs) ≤ length bs
length-blanks bs = grind (arith, length-drop)

module _ (reader : Reader) (leaf : Leaf) (size : ℕ) (turn : InTurn 0 leaf.stretches size) where
  abbrev end : ℕ
  end = end_of leaf.stretches

  abbrev pub Onward : ℕ → Token → Type 0
  Onward at (Stands item resume) = StandsFrom at item.start item.end resume × (at < resume) × (resume ≤ end)
  Onward at (Opens opener) = StandsFrom at opener.start opener.end end × (at < opener.end)
  Onward at (Closes closer) = (closer.start ≡ at) × (closer.end ≡ suc at) × (suc at ≤ end)
  Onward at Ends = Unit {0}

  -- one of two tokens, by the condition
  when : (at : ℕ) (b : Bool) (x y : Token) → (b ≡ true → Onward at x) → Onward at y → Onward at (if b then x else y)
  when at true x y h k = h refl
  when at false x y h k = k

  item_onward : (at start item_end : ℕ) (kind : ItemKind) → at ≤ start → start ≤ item_end → at < item_end → item_end ≤ end → Onward at (item_at kind start item_end)
  item_onward at start item_end kind a b c d = (record { begins = a; ordered = b; ends = omega arith }, c, d)

  -- after a byte of the leaf
  module _ (at : ℕ) (b : ℕ) (bs : List ℕ) (here : from reader leaf at ≡ b ∷ bs) where
    size_here : length (from reader leaf at) ≡ suc (length bs)
    size_here = ap length here

    fits : suc (length bs) + at ≤ end
    fits = let e = size_here in let f = some-fit reader.source leaf.stretches size turn at (omega arith) in omega arith

    bytes_onward : (start n : ℕ) (kind : ItemKind) → at ≤ start → start < at + n → n ≤ suc (length bs) → Onward at (item_at kind start (at + n))
    bytes_onward start n kind a c d = let f = fits in item_onward at start (at + n) kind a (omega arith) (omega arith) (omega arith)

    byte_onward : (kind : ItemKind) → Onward at (item_at kind at (suc at))
    byte_onward kind = let f = fits in item_onward at at (suc at) kind (omega arith) (omega arith) (omega arith) (omega arith)

    rest_onward : (kind : ItemKind) (rest : List ℕ) → length rest < suc (length bs) → Onward at (item_at kind at (place_of reader leaf rest))
    rest_onward kind rest h = grind (arith, size_here, place-following, place-within, item_onward)

    read_on_after : (x : ℕ) → x ≤ end → (x ≤ read_on reader leaf x) × (read_on reader leaf x ≤ end)
    read_on_after x h = grind (arith, place-from, place-within, either, length-blanks)

    break_onward : (found : Option LineBreak) (other : Token) → BreakWithin (suc (length bs)) found → Onward at other → Onward at (break_or reader leaf at found other)
    break_onward found other h k = grind (arith, size_here, fits, read_on_after)

    code_onward : (n : ℕ) (found : Option Parsed) → 0 < n → n ≤ suc (length bs) → ParsedBelow (suc (length bs)) found → Onward at (code_or reader leaf at n found)
    code_onward n (Some found) h k f = rest_onward (Code (code_text (as_in leaf.is_cell found.bytes))) found.following f
    code_onward n None h k f = bytes_onward at n Own (omega arith) (omega arith) k

    entity_onward : (entity : Option Entity) → EntityWithin (suc (length bs)) entity → Onward at (entity_or reader leaf at entity)
    entity_onward (Some entity) h = let a = h.0 in let c = h.1 in bytes_onward at entity.size (Written entity.bytes) (omega arith) (omega arith) c
    entity_onward None h = byte_onward Plain

    escape_onward : Onward at (escape_at reader leaf at bs)
    escape_onward =
        let f = fits in
        let w = prefix_len-le-length is_backtick bs in
        when at (first_is is_backtick bs) (escaped_backtick reader leaf (suc at) (backticks bs) (code_in (drop 1 bs)))
        (if leaf.is_cell && starts piped bs then item_at Plain (at + 2) (at + 3) else if first_is is_punctuation bs then item_at Plain (suc at) (at + 2) else item_at Plain at (suc at))
        (λ e. escaped (code_in (drop 1 bs)) (first-size is_backtick bs e) (some_backticks bs e))
        (when at (leaf.is_cell && starts piped bs) (item_at Plain (at + 2) (at + 3)) (if first_is is_punctuation bs then item_at Plain (suc at) (at + 2) else item_at Plain at (suc at))
        (λ e. (let s = starts-size piped bs (and_right leaf.is_cell (starts piped bs) e) in bytes_onward (at + 2) 3 Plain (omega arith) (omega arith) (two s)))
        (when at (first_is is_punctuation bs) (item_at Plain (suc at) (at + 2)) (item_at Plain at (suc at))
        (λ e. (let s = first-size is_punctuation bs e in bytes_onward (suc at) 2 Plain (omega arith) (omega arith) (omega arith)))
        (byte_onward Plain)))
      where
        and_right : (x y : Bool) → (x && y) ≡ true → y ≡ true
        and_right true y e = e
        and_right false y e = cc

        two : 2 ≤ length bs → 3 ≤ suc (length bs)
        two h = omega arith

        some_backticks : (l : List ℕ) → first_is is_backtick l ≡ true → 0 < backticks l
        some_backticks [] e = cc
        some_backticks (c ∷ l) e = prefix-some is_backtick c l e

        escaped : (found : Option Parsed) → 0 < length bs → 0 < backticks bs → Onward at (escaped_backtick reader leaf (suc at) (backticks bs) found)
        escaped found h k = grind (arith, fits, item_onward, prefix_len-le-length)

    markup_onward : (found : Option (List ℕ)) (other : Token) → LeavesBelow (length (source_from reader leaf at)) found → Onward at other → Onward at (markup_or reader leaf at found other)
    markup_onward found other h k = grind (arith, length-take, fits, read_on_after)

    tag_onward : (found : Option (List ℕ)) → LeavesBelow (length (from reader leaf at)) found → Onward at (tag_or_text reader leaf at found)
    tag_onward None h = byte_onward Own
    tag_onward (Some rest) h = let e = size_here in rest_onward (tag_kind reader leaf (take (size_to reader leaf at rest) (from reader leaf at))) rest (omega arith)

    autolink_onward : (found : Option Parsed) (other : Token) → ParsedBelow (suc (length bs)) found → Onward at other → Onward at (autolink_or reader leaf at found other)
    autolink_onward None other h k = k
    autolink_onward (Some found) other h k = rest_onward (Autolink found.bytes) found.following h

    less_than_onward : Onward at (less_than reader leaf at bs)
    less_than_onward =
        let others = markup_or reader leaf at (after_markup (source_from reader leaf at)) (tag_or_text reader leaf at (after_tag no_prefix (from reader leaf at))) in
        when at (first_is (λ c. c == 92) bs) (item_at Plain at (suc at)) (autolink_or reader leaf at (autolink_in reader.options.email_autolinks bs) others) (λ e. byte_onward Plain)
        (autolink_onward (autolink_in reader.options.email_autolinks bs) others (autolink-within reader.options.email_autolinks bs)
        (markup_onward (after_markup (source_from reader leaf at)) (tag_or_text reader leaf at (after_tag no_prefix (from reader leaf at))) (markup-shorter (source_from reader leaf at))
        (tag_onward (after_tag no_prefix (from reader leaf at)) (tag-shorter no_prefix (from reader leaf at)))))

    run_onward : (delimiter n : ℕ) (beside : Flanking) → 0 < n → n ≤ suc (length bs) → Onward at (run_or reader leaf at delimiter n beside)
    run_onward delimiter n beside h k =
        when at (beside.opens || beside.closes) (item_at (Delimiters (record { delimiter = delimiter; run_length = n; at = 0; left = n; opens = beside.opens; closes = beside.closes })) at (at + n)) (item_at Plain at (at + n))
        (λ e. bytes_onward at n (Delimiters (record { delimiter = delimiter; run_length = n; at = 0; left = n; opens = beside.opens; closes = beside.closes })) (omega arith) (omega arith) k) (bytes_onward at n Plain (omega arith) (omega arith) k)

    formula_onward : (kind : List ℕ → ItemKind) (found : Option Parsed) → ParsedBelow (suc (length bs)) found → Onward at (formula_or reader leaf kind at found)
    formula_onward kind (Some found) h = rest_onward (kind (as_in leaf.is_cell found.bytes)) found.following h
    formula_onward kind None h = byte_onward Own

    more_found : (n m : ℕ) (found : Option Parsed) → n ≤ m → ParsedBelow n found → ParsedBelow m found
    more_found n m None h k = tt
    more_found n m (Some found) h k = omega arith

    dollar_onward : (braces : Braces) → Onward at (dollar reader leaf at bs braces)
    dollar_onward braces = grind (arith, length-drop, when, formula_onward, more_found, display-shorter, inline-shorter)

    dots_onward : Onward at (dots reader leaf at)
    dots_onward =
        let e = size_here in
        when at (starts (codes "...") (from reader leaf at)) (item_at (Written (226 ∷ 128 ∷ 166 ∷ [])) at (at + 3)) (item_at Plain at (suc at))
        (λ f. (let s = starts-size (codes "...") (from reader leaf at) f in bytes_onward at 3 (Written (226 ∷ 128 ∷ 166 ∷ [])) (omega arith) (omega arith) (three s))) (byte_onward Plain)
      where
        three : length (codes "...") ≤ length (from reader leaf at) → 3 ≤ suc (length bs)
        three h = let e = size_here in let g : 3 ≤ length (from reader leaf at) = h in omega arith

    hyphens_onward : (n : ℕ) → 0 < n → n ≤ suc (length bs) → Onward at (hyphens reader leaf at n)
    hyphens_onward n h k =
        when at (nat_lt n 2) (item_at Plain at (at + n)) (item_at (Written (dash_text (dashes_of n))) at (at + n)) (λ e. bytes_onward at n Plain (omega arith) (omega arith) k)
        (bytes_onward at n (Written (dash_text (dashes_of n))) (omega arith) (omega arith) k)

    same_byte : (c : ℕ) → (c == c) ≡ true
    same_byte c = eq-eqb c c refl

    -- a run of one byte, with the byte in front
    run_size : (c : ℕ) → b ≡ c → (0 < prefix_len (λ x. x == c) (b ∷ bs)) × (prefix_len (λ x. x == c) (b ∷ bs) ≤ suc (length bs))
    run_size c e = (prefix-some (λ x. x == c) b bs (ap (λ x. x == c) e ∙ same_byte c), prefix_len-le-length (λ x. x == c) (b ∷ bs))

    smart_onward : Onward at (smart_or reader leaf at b)
    smart_onward =
        let n = prefix_len (λ c. c == 45) (from reader leaf at) in
        when at (b == 46) (dots reader leaf at) (if b == 45 then hyphens reader leaf at n else if (b == 34) || (b == 39) then quote_at reader leaf at b else item_at Plain at (suc at)) (λ e. dots_onward)
        (when at (b == 45) (hyphens reader leaf at n) (if (b == 34) || (b == 39) then quote_at reader leaf at b else item_at Plain at (suc at))
        (λ e. (let r = run_size 45 (eqb-true b 45 e) in let s : n ≡ prefix_len (λ c. c == 45) (b ∷ bs) = ap (prefix_len (λ c. c == 45)) here in let x = r.0 in let y = r.1 in hyphens_onward n (omega arith) (omega arith)))
        (when at ((b == 34) || (b == 39)) (quote_at reader leaf at b) (item_at Plain at (suc at))
        (λ e. byte_onward (Quoted (quote_beside (b == 34) (character_before reader leaf at) (character_at reader leaf (suc at))))) (byte_onward Plain)))

    begins_onward : Onward at (begins reader leaf at (b ∷ bs))
    begins_onward =
        let f = fits in
        let plain = item_at Plain at (suc at) in
        let c9 = if reader.options.smart_punctuation then smart_or reader leaf at b else plain in
        let c8 = if reader.options.math && is_dollar b then dollar reader leaf at bs (braces_after false (before reader leaf at) no_braces) else c9 in
        let c7 = if is_run_delimiter b then run_at reader leaf at b (prefix_len (λ c. c == b) (b ∷ bs)) else c8 in
        let c6 = if b == 93 then Closes (bracket false at (suc at)) else c7 in
        let c5 = if b == 91 then Opens (bracket false at (suc at)) else c6 in
        let bang = if first_is (λ c. c == 91) bs then Opens (bracket true at (at + 2)) else plain in
        let c4 = if b == 33 then bang else c5 in
        let c3 = if b == 60 then less_than reader leaf at bs else c4 in
        let c2 = if b == 96 then code_or reader leaf at (backticks (b ∷ bs)) (code_in (b ∷ bs)) else c3 in
        let c1 = if b == 38 then entity_or reader leaf at (entity_in reader.lookup bs) else c2 in
        let c0 = if b == 92 then break_or reader leaf at (backslash_break_in (b ∷ bs)) (escape_at reader leaf at bs) else c1 in
        when at (is_blank_byte b || not (is_content b)) (break_or reader leaf at (blank_break_in (b ∷ bs)) plain) c0 (λ e. break_onward (blank_break_in (b ∷ bs)) plain (blank-within (b ∷ bs)) (byte_onward Plain))
        (when at (b == 92) (break_or reader leaf at (backslash_break_in (b ∷ bs)) (escape_at reader leaf at bs)) c1 (λ e. break_onward (backslash_break_in (b ∷ bs)) (escape_at reader leaf at bs) (backslash-within (b ∷ bs)) escape_onward)
        (when at (b == 38) (entity_or reader leaf at (entity_in reader.lookup bs)) c2 (λ e. entity_onward (entity_in reader.lookup bs) (entity-within reader.lookup bs))
        (when at (b == 96) (code_or reader leaf at (backticks (b ∷ bs)) (code_in (b ∷ bs))) c3 (λ e. (let r = run_size 96 (eqb-true b 96 e) in code_onward (backticks (b ∷ bs)) (code_in (b ∷ bs)) r.0 r.1 (code-shorter (b ∷ bs))))
        (when at (b == 60) (less_than reader leaf at bs) c4 (λ e. less_than_onward)
        (when at (b == 33) bang c5
        (λ e. when at (first_is (λ c. c == 91) bs) (Opens (bracket true at (at + 2))) plain
        (λ g. (let s = first-size (λ c. c == 91) bs g in (record { begins = omega arith; ordered = omega arith; ends = omega arith }, omega arith))) (byte_onward Plain))
        (when at (b == 91) (Opens (bracket false at (suc at))) c6 (λ e. (record { begins = omega arith; ordered = omega arith; ends = omega arith }, omega arith))
        (when at (b == 93) (Closes (bracket false at (suc at))) c7 (λ e. (refl, refl, omega arith))
        (when at (is_run_delimiter b) (run_at reader leaf at b (prefix_len (λ c. c == b) (b ∷ bs))) c8
        (λ e. (let r = run_size b refl in (let n = prefix_len (λ c. c == b) (b ∷ bs) in run_onward b n (flanking reader.options b n (character_before reader leaf at) (character_at reader leaf (at + n))) r.0 r.1)))
        (when at (reader.options.math && is_dollar b) (dollar reader leaf at bs (braces_after false (before reader leaf at) no_braces)) c9 (λ e. dollar_onward (braces_after false (before reader leaf at) no_braces))
        (when at reader.options.smart_punctuation (smart_or reader leaf at b) plain (λ e. smart_onward) (byte_onward Plain)))))))))))

  pub begins-at-onward : (at : ℕ) → Onward at (begins_at reader leaf at)
  begins-at-onward at = grind (arith, begins_onward)

  -- plain bytes lead up to the leaf's end
  goes_within : (t : Token) (item_end : ℕ) (more : ℕ → ℕ) → item_end ≤ end → Onward item_end t → ((x : ℕ) → x ≤ end → (x ≤ more x) × (more x ≤ end)) → (item_end ≤ goes_on reader leaf t item_end more) × (goes_on reader leaf t item_end more ≤ end)
  goes_within t item_end more h k i = grind arith

  plain_within : (n item_end : ℕ) → item_end ≤ end → (item_end ≤ plain_end reader leaf n item_end) × (plain_end reader leaf n item_end ≤ end)
  plain_within zero item_end h = (omega arith, h)
  plain_within (suc n) item_end h = goes_within (begins_at reader leaf item_end) item_end (plain_end reader leaf n) h (begins-at-onward item_end) (λ x k. plain_within n x k)

  longest_onward : (at : ℕ) (t : Token) → Onward at t → Onward at (longest reader leaf t)
  longest_onward at t h = grind (arith, plain_within, when, item_onward)

  pub token-onward : (at : ℕ) → Onward at (token reader leaf at)
  unfolding token
  token-onward at = longest_onward at (begins_at reader leaf at) (begins-at-onward at)

  pub token-ends : (at : ℕ) → end ≤ at → token reader leaf at ≡ Ends
  unfolding token
  token-ends at h = go (from reader leaf at) (none-following reader.source leaf.stretches size turn at h)
    where
      go : (l : List ℕ) → length l ≡ 0 → longest reader leaf (begins reader leaf at l) ≡ Ends
      go [] e = refl
      go (b ∷ bs) e = absurd (let d : ⊥ = omega arith in d)
