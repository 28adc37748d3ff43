-- Lines that lack a prefix (CommonMark 5.1), without regard to that: they begin only paragraphs, and continue a paragraph further inside
-- unless they interrupt it.
use Rattle.std.proofs.Common.{◌≡◌, Bool, true, false, ◌&&◌, ◌||◌, not, List, Option, Some, None, refl, ap, ◌∙◌}
use Rattle.std.specs.Prelude.{nat_le, if◌then◌else◌}
use Rattle.cmark_grammar.specs.Options.{Options}
use Rattle.cmark_grammar.specs.Rows.{Row, lazy_row, is_blank_line, indent_of, words_of}
use Rattle.cmark_grammar.specs.Leaves.{is_thematic_break, is_atx_heading, fence_of, underlines}
use Rattle.cmark_grammar.specs.HtmlBlocks.{html_kind}
use Rattle.cmark_grammar.specs.Containers.{Container, BlockQuote, Item, Footnote, ListDefinition, Marker, marker_of, item_with, item_of, is_block_quote, keeps}
use Rattle.cmark_grammar.specs.DefinitionLists.{begins_definition, definition_width, is_definition, is_marker}
use Rattle.cmark_grammar.specs.Footnotes.{footnotes_in}
use Rattle.cmark_grammar.specs.TableRows.{table_interrupts}
use Rattle.cmark_block_model.proofs.BlockLaws.{lazy-interrupts as lazy-table}
use Rattle.cmark_grammar.specs.Openings.{Plain, footnote_interrupts, item_interrupts, is_some_fence, html_interrupts, interrupts, texts, lazily, opens}

-- no container keeps a line that lacks an outer prefix
pub lazy-keeps : (k : Container) (bare : Bool) (r : Row) → keeps k bare (lazy_row r) ≡ None
unfolding keeps
lazy-keeps k bare r = refl

pub lazy-underlines : (r : Row) → underlines (lazy_row r) ≡ None
unfolding underlines
lazy-underlines r = refl

lazy-item : (r : Row) (m : Option Marker) → item_with (lazy_row r) m ≡ item_with r m
lazy-item r None = refl
lazy-item r (Some m) = refl

lazy-item-interrupts : (same : Bool) (r : Row) (o : Option Container) → item_interrupts same (lazy_row r) o ≡ item_interrupts same r o
lazy-item-interrupts same r None = refl
lazy-item-interrupts same r (Some (BlockQuote alert)) = refl
lazy-item-interrupts same r (Some (Footnote label old size)) = refl
lazy-item-interrupts same r (Some (ListDefinition width)) = refl
lazy-item-interrupts same r (Some (Item delimiter number width task)) = refl

module _ (options : Options) (r : Row) (ahead : List Row) where
  -- whether a line interrupts does not depend on the prefixes that it lacks
  pub lazy-interrupts : (same : Bool) → interrupts options same (lazy_row r) ahead ≡ interrupts options same r ahead
  lazy-interrupts same =
      ap (λ z. is_blank_line r || (footnote_interrupts (footnotes_in options) r || (nat_le (indent_of r) 3 && (is_block_quote r || (z || (is_thematic_break (words_of r)
      || (is_atx_heading (words_of r) || (is_some_fence (fence_of (indent_of r) (words_of r)) || html_interrupts (html_kind (words_of r))))))))))
      (lazy-item-interrupts same r (item_of (lazy_row r)) ∙ ap (item_interrupts same r) (lazy-item r (marker_of (words_of r))))

  pub lazy-opens : opens options (lazy_row r) ahead ≡ Plain
  unfolding opens
  lazy-opens = refl

  pub lazy-texts : texts options (lazy_row r) ahead ≡ not (interrupts options false r ahead)
  unfolding texts
  lazy-texts =
      ap (λ z. not (interrupts options false (lazy_row r) ahead || (z || begins_definition options (lazy_row r)))) (lazy-table options (lazy_row r) ahead refl)
      ∙ ap (λ z. not (interrupts options false (lazy_row r) ahead || z)) (none options.definition_list)
      ∙ ap (λ z. not (z || false)) (lazy-interrupts false) ∙ go (interrupts options false r ahead)
    where
      go : (z : Bool) → not (z || false) ≡ not z
      go true = refl
      go false = refl

      none : (z : Bool) → is_marker (if z && (not true && nat_le (indent_of r) 3) then definition_width r else None) ≡ false
      none true = refl
      none false = refl

  pub lazily-is : (k : Container) → lazily options k r ahead ≡ not (interrupts options false r ahead || (table_interrupts options r ahead || (is_definition k && begins_definition options r)))
  unfolding lazily
  lazily-is k = refl

  -- a line that lacks no prefix continues a paragraph of the same container, unless it, or a table or a definition that it begins,
  -- interrupts it
  pub whole-texts : r.lazy ≡ false → texts options r ahead ≡ not (interrupts options true r ahead || (table_interrupts options r ahead || begins_definition options r))
  unfolding texts
  whole-texts whole = ap (λ z. not (interrupts options (not z) r ahead || (table_interrupts options r ahead || begins_definition options r))) whole
