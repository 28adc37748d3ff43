-- The first line after a cut: what it says whatever lines are ahead.
use Rattle.std.proofs.Common.{◌≡◌, ◌⊎◌, ⊎_elim, ℕ, Bool, true, false, ◌==◌, ◌&&◌, ◌||◌, List, [], ◌∷◌, ◌++◌, length, refl, ap, ◌∙◌, Option, Some, None, arith}
use Rattle.std.specs.Prelude.{if◌then◌else◌}
use Rattle.cmark_grammar.specs.Characters.{space, tab}
use Rattle.cmark_grammar.specs.Alignment.{Alignment}
use Rattle.cmark_grammar.specs.Options.{Options}
use Rattle.cmark_grammar.specs.Places.{Apart}
use Rattle.cmark_grammar.specs.Rows.{Row, is_bare, is_blank_line}
use Rattle.cmark_grammar.specs.Leaves.{Fence, counted, code_continuation}
use Rattle.cmark_grammar.specs.LinkDefinitions.{Defined}
use Rattle.cmark_grammar.specs.Containers.{Container, container_of, enter, is_bare_start}
use Rattle.cmark_grammar.specs.DefinitionLists.{begins_definition}
use Rattle.cmark_grammar.specs.Metadata.{metadata_of, metadata_kind}
use Rattle.cmark_grammar.specs.MetadataBlockKind.{MetadataBlockKind}
use Rattle.cmark_grammar.specs.Columns.{Column, is_blank_byte, without_indent, bytes_of}
use Rattle.cmark_grammar.specs.TableRows.{table_head, table_interrupts}
use Rattle.cmark_grammar.specs.Openings.{Leaf, IndentedCode, HtmlBlock, Opening, Blank, Takes, Plain, or_else, nests_if, fenced_if, html_if, break_if, heading_if, metadata_begun, defined_if, texts, lazily, definition_of, table_if, text_of, leaf_of, whole_opens, opens, opens_at}
use Rattle.cmark_grammar.specs.Blocks.{Blocks, Nil, BlankLine, LeafBlock, join, place_in}
use Rattle.cmark_block_model.specs.BlocksModel.{within, place_after}
use Rattle.cmark_block_model.specs.BlocksByLine.{OpenLines, close_lines, html_begun, leaf_begun, lines_begin_as, lines_begin_in, lines_begin}
use Rattle.cmark_stream_model.specs.Growth.{is_blank, Parts, are_blind, has_blank_line, are_resolved, is_outside_of_lists, stands_apart, last_list, may_continue}
use Rattle.cmark_stream_model.proofs.GrowingTables.{same-apart}
use Rattle.cmark_stream_model.proofs.SettledCuts.{resolved-append, last-join}
use Rattle.cmark_stream_model.proofs.Walls.{bare-following, bare-blank, blank-words}

-- ## Lists

pub outside-any : (list : Option ℕ) (o : Opening) → is_outside_of_lists o ≡ true → may_continue false list o ≡ false
outside-any list o e = grind arith

pub apart-any : (titles : Bool) (list : Option ℕ) (o : Opening) → stands_apart o ≡ true → may_continue titles list o ≡ false
apart-any titles list o e = grind arith

-- ## Blank lines

either-blank : (b : ℕ) → is_blank_byte b ≡ true → (b ≡ space) ⊎ (b ≡ tab)
either-blank b e = grind arith

not-blank-or : (x y : Opening) → is_blank x ≡ false → is_blank y ≡ false → is_blank (or_else x y) ≡ false
not-blank-or x y e f = grind arith

not-blank-nests : (o : Option Container) → is_blank (nests_if o) ≡ false
not-blank-nests None = refl
not-blank-nests (Some k) = refl

not-blank-html : (r : Row) (ahead : List Row) (kind : Option ℕ) → is_blank (html_if r ahead kind) ≡ false
not-blank-html r ahead None = refl
not-blank-html r ahead (Some kind) = refl

not-blank-break : (z : Bool) → is_blank (break_if z) ≡ false
not-blank-break true = refl
not-blank-break false = refl

not-blank-heading : (z : Bool) (level : ℕ) → is_blank (heading_if z level) ≡ false
not-blank-heading true level = refl
not-blank-heading false level = refl

not-blank-fenced : (fence : Option Fence) (ahead : List Row) → is_blank (fenced_if fence ahead) ≡ false
not-blank-fenced None ahead = refl
not-blank-fenced (Some fence) ahead = refl

not-blank-defined : (lines : ℕ) (found : Option Defined) → is_blank (defined_if lines found) ≡ false
not-blank-defined lines None = refl
not-blank-defined lines (Some found) = refl

module _ (options : Options) where
  not-blank-table : (alignments : Option (List Alignment)) (ahead : List Row) → is_blank (table_if options alignments ahead) ≡ false
  not-blank-table None ahead = refl
  not-blank-table (Some alignments) ahead = refl

  not-blank-definition : (r : Row) (ahead : List Row) → is_blank (definition_of options r ahead) ≡ false
  not-blank-definition r ahead = grind (arith, not-blank-defined)

  not-blank-text : (r : Row) (ahead : List Row) → is_blank (text_of options r ahead) ≡ false
  not-blank-text r ahead =
      not-blank-or (definition_of options r ahead) (table_if options (table_head options r ahead) ahead) (not-blank-definition r ahead) (not-blank-table (table_head options r ahead) ahead)

  not-blank-leaf : (r : Row) (ahead : List Row) → is_blank (leaf_of options r ahead) ≡ false
  not-blank-leaf r ahead = grind (arith, not-blank-or, not-blank-html, not-blank-break, not-blank-heading, not-blank-fenced, not-blank-text)

  not-blank-metadata : (kind : Option MetadataBlockKind) (ahead : List Row) → is_blank (metadata_begun kind ahead) ≡ false
  not-blank-metadata kind ahead = grind arith

  -- a line that lacks no prefix begins metadata, or what it would begin without metadata
  whole-opening : (r : Row) (ahead : List Row) → r.lazy ≡ false → opens options r ahead ≡ or_else (metadata_begun (metadata_kind options r) ahead) (whole_opens options r ahead)
  unfolding opens
  whole-opening r ahead e = ap (λ z. if z then Plain else or_else (metadata_begun (metadata_kind options r) ahead) (whole_opens options r ahead)) e

  pub not-blank : (r : Row) → r.lazy ≡ false → is_blank_line r ≡ false → (ahead : List Row) → is_blank (opens_at options Apart r ahead) ≡ false
  not-blank r whole e ahead = grind (arith, whole-opening, not-blank-or, not-blank-metadata, go)
    where
      go : (z : Bool) → is_blank (if z then Takes IndentedCode (counted code_continuation ahead) else or_else (nests_if (container_of options r)) (leaf_of options r ahead)) ≡ false
      go true = refl
      go false = not-blank-or (nests_if (container_of options r)) (leaf_of options r ahead) (not-blank-nests (container_of options r)) (not-blank-leaf r ahead)

  -- a blank line begins no metadata
  blank-bytes : (cs : List Column) → is_bare (without_indent cs) ≡ true → metadata_of (bytes_of cs) ≡ None
  blank-bytes [] e = refl
  blank-bytes (c ∷ cs) e = go (c.part == 0) (blank-bytes cs (bare-following options c cs e))
    where
      blank : is_blank_byte c.byte ≡ true
      blank = bare-blank options c cs e

      first : (b : ℕ) (bs : List ℕ) → is_blank_byte b ≡ true → metadata_of (b ∷ bs) ≡ None
      first b bs q = ⊎_elim (λ s. ap (λ x. metadata_of (x ∷ bs)) s) (λ t. ap (λ x. metadata_of (x ∷ bs)) t) (either-blank b q)

      go : (z : Bool) → metadata_of (bytes_of cs) ≡ None → metadata_of (if z then c.byte ∷ bytes_of cs else bytes_of cs) ≡ None
      go true ih = first c.byte (bytes_of cs) blank
      go false ih = ih

  pub blank-kind : (r : Row) → is_blank_line r ≡ true → metadata_kind options r ≡ None
  blank-kind r e = grind (arith, blank-bytes)

  blank-opening : (r : Row) → r.lazy ≡ false → is_blank_line r ≡ true → (ahead : List Row) → opens_at options Apart r ahead ≡ Blank
  blank-opening r whole e ahead = cc (whole-opening r ahead whole, blank-kind r e)

  -- ## The list after the blocks that a line begins

  abbrev inside_as : Row → List Row → Container → OpenLines
  inside_as r ahead k = lines_begin_in options (length r.columns) (place_in k) Nil (enter k r) (within k (is_bare_start k r) ahead)

  html-none : (list : Option ℕ) (z : Bool) (closed : Blocks) (kind : ℕ) (r : Row) → last_list list (close_lines (html_begun z closed kind r)) ≡ None
  html-none list true closed kind r = last-join options list closed (LeafBlock (HtmlBlock kind) r [] Nil)
  html-none list false closed kind r = last-join options list (join closed (LeafBlock (HtmlBlock kind) r [] Nil)) Nil ∙ last-join options list closed (LeafBlock (HtmlBlock kind) r [] Nil)

  verbatim-none : (list : Option ℕ) (closed : Blocks) (leaf : Leaf) (r : Row) → last_list list (join (join closed (LeafBlock leaf r [] Nil)) Nil) ≡ None
  verbatim-none list closed leaf r = last-join options list (join closed (LeafBlock leaf r [] Nil)) Nil ∙ last-join options list closed (LeafBlock leaf r [] Nil)

  leaf-none : (list : Option ℕ) (leaf : Leaf) (n : ℕ) (closed : Blocks) (r : Row) → last_list list (close_lines (leaf_begun leaf n closed r)) ≡ None
  leaf-none list leaf n closed r = grind (arith, last-join, verbatim-none, html-none)

  outside-none : (list : Option ℕ) (o : Opening) (inside : Container → OpenLines) (closed : Blocks) (r : Row) → is_outside_of_lists o ≡ true → last_list list (close_lines (lines_begin_as o inside closed r)) ≡ None
  outside-none list o inside closed r e = grind (arith, last-join, leaf-none)

  pub outside-begins : (list : Option ℕ) (closed : Blocks) (r : Row) (ahead : List Row) → begins_definition options r ≡ false → is_outside_of_lists (opens_at options Apart r ahead) ≡ true → last_list list (close_lines (lines_begin options closed r ahead)) ≡ None
  unfolding lines_begin
  outside-begins list closed r ahead unmarked e =
      outside-none list (opens_at options (place_after Apart closed) r ahead) (inside_as r ahead) closed r (ap is_outside_of_lists (same-apart options closed r ahead unmarked) ∙ e)

  -- a blank line has no definition's marker
  pub blank-unmarked : (r : Row) → is_blank_line r ≡ true → begins_definition options r ≡ false
  blank-unmarked r e = grind (arith, blank-words)

  pub blank-begins : (list : Option ℕ) (closed : Blocks) (r : Row) (ahead : List Row) → r.lazy ≡ false → is_blank_line r ≡ true
      → last_list list (close_lines (lines_begin options closed r ahead)) ≡ last_list list closed
  unfolding lines_begin
  blank-begins list closed r ahead whole e = cc (same-apart options closed r ahead (blank-unmarked r e), blank-opening r whole e ahead, last-join options list closed (BlankLine r Nil))

  -- ## Lines that end what is open, whatever is ahead

  pub parts-any : (o : OpenLines) (r : Row) (a b : List Row) → ((ahead : List Row) → table_interrupts options r ahead ≡ false) → Parts options o r a → Parts options o r b
  unfolding texts lazily
  parts-any o r a b e h = grind arith

  -- ## Lines that look at none ahead

  pub resolved-blind : (done : List Row) (r : Row) → are_resolved done ≡ true → are_blind r.columns ≡ true → are_resolved (done ++ r ∷ []) ≡ true
  resolved-blind done r e blind = resolved-append options done (r ∷ []) e (ap (λ z. (z || false) && true) blind)

  blank-end : (done : List Row) (r : Row) → is_blank_line r ≡ true → has_blank_line (done ++ r ∷ []) ≡ true
  blank-end [] r e = ap (λ z. z || false) e
  blank-end (s ∷ done) r e = grind (arith, blank-end done r e)

  pub resolved-blank : (done : List Row) (r : Row) → is_blank_line r ≡ true → are_blind r.columns ≡ true → are_resolved (done ++ r ∷ []) ≡ true
  resolved-blank [] r e blind = ap (λ z. (z || false) && true) blind
  resolved-blank (s ∷ done) r e blind = grind (arith, blank-end, resolved-blank done r e blind)
