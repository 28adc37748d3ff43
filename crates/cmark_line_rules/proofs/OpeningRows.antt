-- What a line begins, test by test.
use Rattle.std.proofs.Common.{◌≡◌, ℕ, ◌-◌, ◌<◌, ◌≤◌, Bool, true, false, ◌&&◌, ◌||◌, not, List, [], ◌∷◌, ◌++◌, length, Option, Some, None, refl, sym, ap, ◌∙◌, subst, arith, true≢false}
use Rattle.std.specs.Prelude.{if◌then◌else◌, nat_le}
use Rattle.std.specs.Str.{IsCharBoundary}
use Rattle.cmark_grammar.specs.Options.{Options}
use Rattle.cmark_grammar.specs.Footnotes.{footnotes_in}
use Rattle.cmark_grammar.specs.Columns.{bytes_of}
use Rattle.cmark_grammar.specs.Rows.{Row, without, is_blank_line, indent_of, words_of}
use Rattle.cmark_grammar.specs.Leaves.{Fence, run, is_thematic_break, is_atx_heading, fence_of, counted, code_continuation}
use Rattle.cmark_grammar.specs.HtmlBlocks.{html_kind}
use Rattle.cmark_grammar.specs.LinkDefinitions.{label_in, with_label, definition_in, further_bytes, bytes_over}
use Rattle.cmark_grammar.specs.BlockQuoteKind.{BlockQuoteKind}
use Rattle.cmark_grammar.specs.Alerts.{alert_in}
use Rattle.cmark_grammar.specs.Containers.{Container, BlockQuote, Item, begins_with, is_block_quote, block_quote_width, item_of, container_with, container_of, with_task, marker_width}
use Rattle.cmark_grammar.specs.Openings.{Opening, Blank, Nests, Takes, Plain, AtxHeading, IndentedCode, or_else, nests_if, is_one, item_interrupts, fenced_if, html_if, break_if, heading_if, defined_if, metadata_begun, begins_no_link, text_lines, definition_of, table_if, text_of, leaf_of, whole_opens, opens}
use Rattle.cmark_grammar.specs.Metadata.{metadata_kind}
use Rattle.cmark_grammar.specs.TableRows.{table_head}
use Rattle.cmark_grammar.specs.MetadataBlockKind.{MetadataBlockKind}
use Rattle.cmark_block_model.proofs.BlockLaws.{marker_len}
use Rattle.cmark_block_model.proofs.RowEdges.{marker-good}
use Rattle.cmark_scan_lines.specs.LeafLines.{atx_level}
use Rattle.cmark_line_rules.specs.Rests.{row_of, IsIn}
use Rattle.cmark_line_rules.specs.Opened.{bracket_of}
use Rattle.cmark_line_rules.specs.Starts.{begun_item, begun_container, begun_marked, block_quote_entered}
use Rattle.cmark_line_rules.specs.declared.line_rest.LineRest.{LineRest}
use Rattle.cmark_line_rules.proofs.RestSteps.{in-moved}

-- no definition begins without a bracket
none_in : (bs : List ℕ) → begins_with 91 bs ≡ false → definition_in bs ≡ None
none_in [] e = refl
none_in (b ∷ bs) e = ap (λ z. if z then with_label (label_in bs) else None) e

further-no_bracket : (r : Row) (more : List Row) → begins_with 91 (further_bytes r more) ≡ false
further-no_bracket r [] = refl
further-no_bracket r (s ∷ more) = go (nat_le 2 (r.line_end - r.content_end))
  where
    go : (z : Bool) → begins_with 91 ((if z then 13 ∷ 10 ∷ [] else 10 ∷ []) ++ (bytes_of s.columns ++ further_bytes s more)) ≡ false
    go true = refl
    go false = refl

over-no_bracket : (words further : List ℕ) → begins_with 91 words ≡ false → begins_with 91 further ≡ false → begins_with 91 (words ++ further) ≡ false
over-no_bracket [] further e f = f
over-no_bracket (b ∷ bs) further e f = e

module _ (options : Options) (r : Row) (ahead : List Row) where
  abbrev definition_read : Opening
  definition_read = defined_if (length (text_lines options ahead)) (definition_in (bytes_over r (text_lines options ahead)))

  no-definition : begins_with 91 (words_of r) ≡ false → definition_read ≡ Plain
  no-definition e =
      ap (defined_if (length (text_lines options ahead)))
      (none_in (bytes_over r (text_lines options ahead)) (over-no_bracket (words_of r) (further_bytes r (text_lines options ahead)) e (further-no_bracket r (text_lines options ahead))))

  abbrev unless_footnote : Bool → Opening
  unless_footnote z = if z then Plain else definition_read

  -- no definition begins without a bracket that may be that of a link
  pub no-link : (begins_with 91 (words_of r) && not (begins_no_link (footnotes_in options) (words_of r))) ≡ false → definition_of options r ahead ≡ Plain
  no-link e = go (begins_with 91 (words_of r)) (begins_no_link (footnotes_in options) (words_of r)) refl e
    where
      off : (z : Bool) → definition_read ≡ Plain → unless_footnote z ≡ Plain
      off true f = refl
      off false f = f

      go : (x z : Bool) → begins_with 91 (words_of r) ≡ x → (x && not z) ≡ false → unless_footnote z ≡ Plain
      go x true b f = refl
      go false false b f = no-definition b
      go true false b f = absurd (true≢false f)

  pub no-bracket : begins_with 91 (words_of r) ≡ false → definition_of options r ahead ≡ Plain
  no-bracket e = no-link (ap (λ z. z && not (begins_no_link (footnotes_in options) (words_of r))) e)

  -- if the bracket may belong to a link, a definition is read
  pub link-read : (begins_with 91 (words_of r) && not (begins_no_link (footnotes_in options) (words_of r))) ≡ true → text_of options r ahead ≡ bracket_of options r ahead
  link-read e = ap (λ z. or_else (unless_footnote z) (table_if options (table_head options r ahead) ahead)) (go (begins_with 91 (words_of r)) (begins_no_link (footnotes_in options) (words_of r)) e)
    where
      go : (x z : Bool) → (x && not z) ≡ true → z ≡ false
      go true true f = absurd (true≢false (sym f))
      go true false f = refl
      go false z f = absurd (true≢false (sym f))

  -- the leaves in their order
  abbrev in_order : Option ℕ → Bool → Bool → ℕ → Option Fence → Opening → Opening
  in_order kind broken headed level fence other =
      or_else (html_if r ahead kind) (or_else (break_if broken) (or_else (heading_if headed level) (or_else (fenced_if fence ahead) other)))

  pub leaf-heading : (n : ℕ) → html_kind (words_of r) ≡ None → is_thematic_break (words_of r) ≡ false → Some n ≡ atx_level (words_of r) → leaf_of options r ahead ≡ Takes (AtxHeading n) 0
  leaf-heading n kind broken level =
      ap (λ k. in_order k (is_thematic_break (words_of r)) (is_atx_heading (words_of r)) (run 35 (words_of r)) fence other) kind
      ∙ ap (λ z. in_order None z (is_atx_heading (words_of r)) (run 35 (words_of r)) fence other) broken ∙ go (is_atx_heading (words_of r)) level
    where
      fence : Option Fence
      fence = fence_of (indent_of r) (words_of r)

      other : Opening
      other = text_of options r ahead

      go : (z : Bool) → Some n ≡ (if z then Some (run 35 (words_of r)) else None) → in_order None false z (run 35 (words_of r)) fence other ≡ Takes (AtxHeading n) 0
      go true e = let q : n ≡ run 35 (words_of r) = cc in ap (λ m. Takes (AtxHeading m) 0) (sym q)
      go false e = absurd (let q : Some n ≡ None = e in cc)

  pub leaf-text : html_kind (words_of r) ≡ None → is_thematic_break (words_of r) ≡ false → None ≡ atx_level (words_of r) → None ≡ fence_of (indent_of r) (words_of r) → leaf_of options r ahead ≡ text_of options r ahead
  leaf-text kind broken level fence =
      ap (λ k. in_order k (is_thematic_break (words_of r)) (is_atx_heading (words_of r)) (run 35 (words_of r)) (fence_of (indent_of r) (words_of r)) (text_of options r ahead)) kind
      ∙ ap (λ z. in_order None z (is_atx_heading (words_of r)) (run 35 (words_of r)) (fence_of (indent_of r) (words_of r)) (text_of options r ahead)) broken
      ∙ ap (λ f. in_order None false (is_atx_heading (words_of r)) (run 35 (words_of r)) f (text_of options r ahead)) (sym fence) ∙ go (is_atx_heading (words_of r)) level
    where
      go : (z : Bool) → None ≡ (if z then Some (run 35 (words_of r)) else None) → in_order None false z (run 35 (words_of r)) None (text_of options r ahead) ≡ text_of options r ahead
      go true e = absurd (let q : None ≡ Some (run 35 (words_of r)) = e in cc)
      go false e = refl

  pub leaf-plain : html_kind (words_of r) ≡ None → is_thematic_break (words_of r) ≡ false → None ≡ atx_level (words_of r) → None ≡ fence_of (indent_of r) (words_of r) → definition_of options r ahead ≡ Plain → leaf_of options r ahead ≡ table_if options (table_head options r ahead) ahead
  leaf-plain kind broken level fence none = leaf-text kind broken level fence ∙ ap (λ o. or_else o (table_if options (table_head options r ahead) ahead)) none

  -- the opening of a line that lacks no prefix
  module _ (whole : r.lazy ≡ false) where
    as_whole : opens options r ahead ≡ or_else (metadata_begun (metadata_kind options r) ahead) (whole_opens options r ahead)
    unfolding opens
    as_whole = ap (λ z. if z then Plain else or_else (metadata_begun (metadata_kind options r) ahead) (whole_opens options r ahead)) whole

    abbrev chosen : (blank deep : Bool) → Opening
    chosen blank deep =
        or_else (metadata_begun (metadata_kind options r) ahead)
        (if blank then Blank else if deep then Takes IndentedCode (counted code_continuation ahead) else or_else (nests_if (container_of options r)) (leaf_of options r ahead))

    pub opens-blank : is_blank_line r ≡ true → opens options r ahead ≡ or_else (metadata_begun (metadata_kind options r) ahead) Blank
    opens-blank blank = as_whole ∙ ap (λ z. chosen z (nat_le 4 (indent_of r))) blank

    pub opens-code : is_blank_line r ≡ false → 4 ≤ indent_of r → opens options r ahead ≡ or_else (metadata_begun (metadata_kind options r) ahead) (Takes IndentedCode (counted code_continuation ahead))
    opens-code blank deep = as_whole ∙ ap (λ z. chosen z (nat_le 4 (indent_of r))) blank ∙ ap (chosen false) (at_least (indent_of r) deep)
      where
        at_least : (n : ℕ) → 4 ≤ n → nat_le 4 n ≡ true
        at_least n le = grind (arith)

    pub opens-shallow : is_blank_line r ≡ false → indent_of r ≤ 3 → opens options r ahead ≡ or_else (metadata_begun (metadata_kind options r) ahead) (or_else (nests_if (begun_container options r)) (leaf_of options r ahead))
    opens-shallow blank le =
        as_whole ∙ ap (λ z. chosen z (nat_le 4 (indent_of r))) blank ∙ ap (chosen false) (below (indent_of r) le)
        ∙ ap (λ o. or_else (metadata_begun (metadata_kind options r) ahead) (or_else (nests_if o) (leaf_of options r ahead))) (sym (ap (λ z. if z then container_of options r else None) (at_most (indent_of r) le)))
      where
        below : (n : ℕ) → n ≤ 3 → nat_le 4 n ≡ false
        below n le = grind (arith)

        at_most : (n : ℕ) → n ≤ 3 → nat_le n 3 ≡ true
        at_most n le = grind (arith)

-- with no line ahead no line begins metadata
pub none_ahead : (o : Option MetadataBlockKind) (other : Opening) → or_else (metadata_begun o []) other ≡ other
none_ahead None other = refl
none_ahead (Some kind) other = refl

-- the line inside a container that a line of a text begins is part of the text
pub begun-in : (options : Options) (text : List ℕ) (rest inside : LineRest) (k : Container) → opens options (row_of rest) [] ≡ Nests k → row_of inside ≡ without (marker_width k (row_of rest)) (row_of rest) → IsIn text rest → IsIn text inside
begun-in options text rest inside k opened is h =
    in-moved text rest inside (without (marker_width k (row_of rest)) (row_of rest)) is refl (marker-good (IsCharBoundary text) options k (row_of rest) [] opened h.good) h

-- and it has fewer columns
pub begun-shorter : (options : Options) (rest inside : LineRest) (k : Container) → opens options (row_of rest) [] ≡ Nests k → row_of inside ≡ without (marker_width k (row_of rest)) (row_of rest) → length (row_of inside).columns < length (row_of rest).columns
begun-shorter options rest inside k opened is = subst (λ x. length x.columns < length (row_of rest).columns) (sym is) (marker_len options k (row_of rest) [] opened)

-- a line with a block quote's marker that begins no item begins a block quote: the line after the marker shows whether it is an alert
pub block_quote-begun : (options : Options) (r s : Row) → None ≡ begun_item r → Some s ≡ block_quote_entered r → Some (BlockQuote (alert_in options s)) ≡ begun_marked options r
block_quote-begun options r s none is = go (nat_le (indent_of r) 3) (begins_with 62 (words_of r)) none is
  where
    following : Row
    following = without (block_quote_width r) r

    go : (shallow marked : Bool) → None ≡ (if shallow then item_of r else None) → Some s ≡ (if shallow && marked then Some (without (block_quote_width r) r) else None)
        → Some (BlockQuote (alert_in options s)) ≡ (if shallow then container_with (with_task options r (item_of r)) (shallow && marked) (alert_in options (without (block_quote_width r) r)) else None)
    go true true n e =
        let same : s ≡ following = cc in
        ap (λ x. Some (BlockQuote (alert_in options x))) same ∙ ap (λ o. container_with (with_task options r o) true (alert_in options following)) n
    go true false n e = absurd (let q : Some s ≡ None = e in cc)
    go false marked n e = absurd (let q : Some s ≡ None = e in cc)

pub block_quote-inside : (r s : Row) (alert : Option BlockQuoteKind) → Some s ≡ block_quote_entered r → s ≡ without (marker_width (BlockQuote alert) r) r
block_quote-inside r s alert is = go (is_block_quote r) is
  where
    go : (z : Bool) → Some s ≡ (if z then Some (without (block_quote_width r) r) else None) → s ≡ without (block_quote_width r) r
    go true e = cc
    go false e = absurd (let q : Some s ≡ None = e in cc)

-- a bullet, or an item of number 1, interrupts a paragraph of its own container unless it is blank after its marker
pub item-goes : (r s : Row) (same : Bool) (delimiter : ℕ) (number : Option ℕ) (width : ℕ) → same ≡ true → is_one number ≡ true → s ≡ without width r → not (is_blank_line s) ≡ item_interrupts same r (Some (Item delimiter number width None))
item-goes r s same delimiter number width is_same one is =
    ap (λ x. not (is_blank_line x)) is ∙ ap (λ z. z && not (is_blank_line (without width r))) (sym one)
    ∙ ap (λ z. not z || (is_one number && not (is_blank_line (without width r)))) (sym is_same)
