-- The properties of a line, by the block that it begins.
use Rattle.std.proofs.Common.{◌≡◌, ℕ, Bool, true, false, List, refl, Option, Some, None, arith, rules}
use Rattle.std.specs.Prelude.{if◌then◌else◌, nat_le}
use Rattle.cmark_grammar.specs.Options.{Options}
use Rattle.cmark_grammar.specs.Rows.{Row, is_blank_line, indent_of}
use Rattle.cmark_grammar.specs.Leaves.{Fence, counted, code_continuation}
use Rattle.cmark_grammar.specs.LinkDefinitions.{Defined}
use Rattle.cmark_grammar.specs.Containers.{Container, container_of}
use Rattle.cmark_grammar.specs.Openings.{ThematicBreak, AtxHeading, IndentedCode, FencedCode, HtmlBlock, LinkDefinition, Opening, Blank, Nests, Takes, Plain, or_else, nests_if, fenced_if, html_if, break_if, heading_if, defined_if, leaf_of, opens, opens_at, MetadataBlock, metadata_begun, whole_opens, table_if, text_of, Table}
use Rattle.cmark_grammar.specs.Alignment.{Alignment}
use Rattle.cmark_grammar.specs.Metadata.{metadata_kind}
use Rattle.cmark_grammar.specs.MetadataBlockKind.{MetadataBlockKind}
use Rattle.cmark_grammar.specs.Places.{Place}
use Rattle.cmark_block_model.proofs.BlockLaws.{at-either}
use Rattle.cmark_block_model.proofs.ListDelimiters.{IsUnmarked, SomeUnmarked, container-unmarked}

-- a line that begins nothing is blank, an item has no colon for its marker, and a break or heading takes no further line
abbrev pub Tells : Row → Opening → Type 0
Tells r Blank = (r.lazy ≡ false) × (is_blank_line r ≡ true)
Tells r (Nests k) = IsUnmarked k
Tells r Plain = Unit {0}
Tells r (Takes ThematicBreak n) = n ≡ 0
Tells r (Takes (AtxHeading level) n) = n ≡ 0
Tells r (Takes IndentedCode n) = Unit {0}
Tells r (Takes (FencedCode fence) n) = Unit {0}
Tells r (Takes (HtmlBlock kind) n) = Unit {0}
Tells r (Takes (LinkDefinition definition) n) = Unit {0}
Tells r (Takes (MetadataBlock kind) n) = Unit {0}
Tells r (Takes (Table alignments) n) = Unit {0}

tells-or : (r : Row) (x y : Opening) → Tells r x → Tells r y → Tells r (or_else x y)
tells-or r Plain y p q = q
tells-or r _ y p q = p

tells-nests : (r : Row) (o : Option Container) → SomeUnmarked o → Tells r (nests_if o)
tells-nests r (Some k) h = h
tells-nests r None h = tt

tells-html : (r : Row) (ahead : List Row) (o : Option ℕ) → Tells r (html_if r ahead o)
tells-html r ahead (Some kind) = tt
tells-html r ahead None = tt

tells-break : (r : Row) (z : Bool) → Tells r (break_if z)
tells-break r true = refl
tells-break r false = tt

tells-heading : (r : Row) (z : Bool) (level : ℕ) → Tells r (heading_if z level)
tells-heading r true level = refl
tells-heading r false level = tt

tells-fenced : (r : Row) (ahead : List Row) (o : Option Fence) → Tells r (fenced_if o ahead)
tells-fenced r ahead (Some fence) = tt
tells-fenced r ahead None = tt

tells-defined : (r : Row) (lines : ℕ) (o : Option Defined) → Tells r (defined_if lines o)
tells-defined r lines (Some found) = tt
tells-defined r lines None = tt

tells-unless : (r : Row) (z : Bool) (o : Opening) → Tells r o → Tells r (if z then Plain else o)
tells-unless r true o t = tt
tells-unless r false o t = t

tells-metadata : (r : Row) (o : Option MetadataBlockKind) (ahead : List Row) → Tells r (metadata_begun o ahead)
tells-metadata r o ahead = grind arith

module _ (options : Options) where
  tells-table : (r : Row) (ahead : List Row) (o : Option (List Alignment)) → Tells r (table_if options o ahead)
  tells-table r ahead (Some alignments) = tt
  tells-table r ahead None = tt

  tells-text : (r : Row) (ahead : List Row) → Tells r (text_of options r ahead)
  tells-text r ahead = search (rules, tells-or, tells-unless, tells-defined, tells-table)

  tells-leaf : (r : Row) (ahead : List Row) → Tells r (leaf_of options r ahead)
  tells-leaf r ahead = search (rules, tells-or, tells-html, tells-break, tells-heading, tells-fenced, tells-text)

  pub tells : (r : Row) (ahead : List Row) → Tells r (opens options r ahead)
  unfolding opens
  tells r ahead = go r.lazy refl
    where
      opened : (b : Bool) → r.lazy ≡ false → is_blank_line r ≡ b → (c : Bool) → Tells r (if b then Blank else if c then Takes IndentedCode (counted code_continuation ahead) else or_else (nests_if (container_of options r)) (leaf_of options r ahead))
      opened true l e c = (l, e)
      opened false l e true = tt
      opened false l e false = tells-or r (nests_if (container_of options r)) (leaf_of options r ahead) (tells-nests r (container_of options r) (container-unmarked options r)) (tells-leaf r ahead)

      go : (a : Bool) → r.lazy ≡ a → Tells r (if a then Plain else or_else (metadata_begun (metadata_kind options r) ahead) (whole_opens options r ahead))
      go true l = tt
      go false l = tells-or r (metadata_begun (metadata_kind options r) ahead) (whole_opens options r ahead) (tells-metadata r (metadata_kind options r) ahead) (opened (is_blank_line r) l refl (nat_le 4 (indent_of r)))

  -- so at each place
  pub tells-at : (place : Place) (r : Row) (ahead : List Row) → Tells r (opens_at options place r ahead)
  tells-at place r ahead = grind (arith, at-either, tells)
