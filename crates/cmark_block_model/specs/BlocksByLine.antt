-- The blocks of lines, found in one pass over the lines. Only three things are looked up in the lines ahead: a link reference definition,
-- the rows of a table, and the end of metadata. Code, HTML and metadata continue line by line. Blank lines wait until a later line shows
-- whether they belong to code.
use Rattle.std.specs.Prelude.{ℕ, zero, suc, Bool, true, false, ◌&&◌, nat_le, List, [], ◌∷◌, ◌++◌, length, Option, Some, None}
use Rattle.cmark_grammar.specs.Options.{Options}
use Rattle.cmark_grammar.specs.Places.{Place, Apart, AfterLazy, allows_lazy}
use Rattle.cmark_grammar.specs.Rows.{Row, rows, shown, words_of}
use Rattle.cmark_grammar.specs.Leaves.{Fence, Continuation, GoesOn, Closes, Waits, Stops, underlines, code_continuation, fence_continuation}
use Rattle.cmark_grammar.specs.HtmlBlocks.{holds_end, html_continuation}
use Rattle.cmark_grammar.specs.Metadata.{metadata_continuation}
use Rattle.cmark_grammar.specs.MetadataBlockKind.{MetadataBlockKind}
use Rattle.cmark_grammar.specs.Containers.{Container, is_alert, enter, keeps, strip, is_bare_start, bare_after}
use Rattle.cmark_grammar.specs.Openings.{Leaf, ThematicBreak, AtxHeading, IndentedCode, FencedCode, HtmlBlock, LinkDefinition, MetadataBlock, Opening, Blank, Nests, Takes, Plain, opens_at, texts, lazily, Table}
use Rattle.cmark_grammar.specs.Blocks.{Blocks, Nil, BlankLine, Paragraph, SetextHeading, LeafBlock, ContainerBlock, join, after_leaf, place_in}
use Rattle.cmark_block_model.specs.BlocksModel.{within, place_after}

-- a leaf whose lines are judged one by one
pub data Verbatim : Type 0 where
  Indented : Verbatim
  Fenced : (fence : Fence) → Verbatim
  HtmlLines : (kind : ℕ) → Verbatim
  Metadata : (kind : MetadataBlockKind) → Verbatim

abbrev pub leaf_in : Verbatim → Leaf
leaf_in Indented = IndentedCode
leaf_in (Fenced fence) = FencedCode fence
leaf_in (HtmlLines kind) = HtmlBlock kind
leaf_in (Metadata kind) = MetadataBlock kind

abbrev pub continuation_in : Verbatim → Row → Continuation
continuation_in Indented r = code_continuation r
continuation_in (Fenced fence) r = fence_continuation fence r
continuation_in (HtmlLines kind) r = html_continuation kind r
continuation_in (Metadata kind) r = metadata_continuation kind r

abbrev pub continuation_if : (is_lazy : Bool) → Verbatim → Row → Continuation
continuation_if true verbatim r = Stops
continuation_if false verbatim r = continuation_in verbatim r

-- the open block: nothing, a paragraph, a leaf with `left` more lines, a leaf whose lines are judged one by one, or a container. Directly
-- after an alert's tag no block is open yet. The waiting blank lines belong to a leaf only if a later line does
pub data OpenLines : Type 0 where
  Between : (closed : Blocks) → OpenLines
  AfterTag : OpenLines
  InParagraph : (closed : Blocks) → (first : Row) → (more : List Row) → OpenLines
  InLeaf : (closed : Blocks) → (leaf : Leaf) → (first : Row) → (had : List Row) → (left : ℕ) → OpenLines
  InVerbatim : (closed : Blocks) → (verbatim : Verbatim) → (first : Row) → (had waiting : List Row) → OpenLines
  InContainer : (closed : Blocks) → (container : Container) → (first : Row) → (more : List Row) → (inside : OpenLines) → OpenLines

abbrev pub blank_lines : List Row → Blocks
blank_lines [] = Nil
blank_lines (r ∷ rs) = BlankLine r (blank_lines rs)

-- all blocks, after the last line
abbrev pub close_lines : OpenLines → Blocks
close_lines (Between closed) = closed
close_lines AfterTag = Nil
close_lines (InParagraph closed first more) = join closed (Paragraph first more Nil)
close_lines (InLeaf closed leaf first had left) = join closed (LeafBlock leaf first had Nil)
close_lines (InVerbatim closed verbatim first had waiting) = join (join closed (LeafBlock (leaf_in verbatim) first had Nil)) (blank_lines waiting)
close_lines (InContainer closed k first more inside) = join closed (ContainerBlock k first more (close_lines inside) Nil)

abbrev pub lines_take_lazy : OpenLines → Bool
lines_take_lazy (Between closed) = false
lines_take_lazy AfterTag = true
lines_take_lazy (InParagraph closed first more) = true
lines_take_lazy (InLeaf closed leaf first had left) = allows_lazy (after_leaf leaf)
lines_take_lazy (InVerbatim closed verbatim first had waiting) = false
lines_take_lazy (InContainer closed k first more inside) = lines_take_lazy inside

abbrev pub html_begun : Bool → Blocks → ℕ → Row → OpenLines
html_begun true closed kind r = InLeaf closed (HtmlBlock kind) r [] 0
html_begun false closed kind r = InVerbatim closed (HtmlLines kind) r [] []

-- a leaf that begins: only for definitions and tables is the number of its lines computed from the lines ahead
abbrev pub leaf_begun : Leaf → ℕ → Blocks → Row → OpenLines
leaf_begun ThematicBreak n closed r = InLeaf closed ThematicBreak r [] n
leaf_begun (AtxHeading level) n closed r = InLeaf closed (AtxHeading level) r [] n
leaf_begun IndentedCode n closed r = InVerbatim closed Indented r [] []
leaf_begun (FencedCode fence) n closed r = InVerbatim closed (Fenced fence) r [] []
leaf_begun (HtmlBlock kind) n closed r = html_begun (nat_le kind 5 && holds_end kind (words_of r)) closed kind r
leaf_begun (LinkDefinition definition) n closed r = InLeaf closed (LinkDefinition definition) r [] n
leaf_begun (MetadataBlock kind) n closed r = InVerbatim closed (Metadata kind) r [] []
leaf_begun (Table alignments) n closed r = InLeaf closed (Table alignments) r [] n

-- directly after an alert's tag no block is open
abbrev pub lines_inside_begun : (is_alert : Bool) → OpenLines → OpenLines
lines_inside_begun true begun = AfterTag
lines_inside_begun false begun = begun

abbrev pub lines_begin_as : Opening → (Container → OpenLines) → Blocks → Row → OpenLines
lines_begin_as Blank inside closed r = Between (join closed (BlankLine r Nil))
lines_begin_as (Nests k) inside closed r = InContainer closed k r [] (lines_inside_begun (is_alert k) (inside k))
lines_begin_as (Takes leaf more) inside closed r = leaf_begun leaf more closed r
lines_begin_as Plain inside closed r = InParagraph closed r []

abbrev pub lines_underline_or : Option ℕ → (ℕ → OpenLines) → OpenLines → OpenLines
lines_underline_or (Some level) underlined other = underlined level
lines_underline_or None underlined other = other

abbrev pub lines_go_on_or : Bool → OpenLines → OpenLines → OpenLines
lines_go_on_or true on off = on
lines_go_on_or false on off = off

abbrev pub lines_kept_or : Option Row → (is_lazy : Bool) → OpenLines → OpenLines → OpenLines
lines_kept_or (Some s) is_lazy on off = on
lines_kept_or None true on off = on
lines_kept_or None false on off = off

-- the next line of a leaf whose lines are judged one by one; off: the open block if the line does not belong to the leaf
abbrev pub verbatim_line : Continuation → Blocks → Verbatim → Row → (had waiting : List Row) → Row → (off : OpenLines) → OpenLines
verbatim_line GoesOn closed verbatim first had waiting r off = InVerbatim closed verbatim first ((had ++ waiting) ++ r ∷ []) []
verbatim_line Closes closed verbatim first had waiting r off = InLeaf closed (leaf_in verbatim) first ((had ++ waiting) ++ r ∷ []) 0
verbatim_line Waits closed verbatim first had waiting r off = InVerbatim closed verbatim first had (waiting ++ r ∷ [])
verbatim_line Stops closed verbatim first had waiting r off = off

module _ (options : Options) where
  abbrev pub lines_begin_in : (columns : ℕ) → Place → Blocks → Row → List Row → OpenLines
  lines_begin_in zero place closed r ahead = Between closed
  lines_begin_in (suc columns) place closed r ahead =
      lines_begin_as (opens_at options place r ahead) (λ k. lines_begin_in columns (place_in k) Nil (enter k r) (within k (is_bare_start k r) ahead)) closed r

  abbrev pub lines_begin_at : Place → Blocks → Row → List Row → OpenLines
  lines_begin_at place closed r ahead = lines_begin_in (suc (length r.columns)) place closed r ahead

  unfoldable pub lines_begin : Blocks → Row → List Row → OpenLines
  lines_begin closed r ahead = lines_begin_at (place_after Apart closed) closed r ahead

  -- the next line, with these lines ahead
  abbrev pub lines_feed : OpenLines → Row → List Row → OpenLines
  lines_feed (Between closed) r ahead = lines_begin closed r ahead
  lines_feed AfterTag r ahead = lines_begin_at AfterLazy Nil r ahead
  lines_feed (InParagraph closed first more) r ahead =
      lines_underline_or (underlines r) (λ level. Between (join closed (SetextHeading level first more r Nil)))
      (lines_go_on_or (texts options r ahead) (InParagraph closed first (more ++ r ∷ [])) (lines_begin (join closed (Paragraph first more Nil)) r ahead))
  lines_feed (InLeaf closed leaf first had zero) r ahead = lines_begin (join closed (LeafBlock leaf first had Nil)) r ahead
  lines_feed (InLeaf closed leaf first had (suc left)) r ahead = InLeaf closed leaf first (had ++ r ∷ []) left
  lines_feed (InVerbatim closed verbatim first had waiting) r ahead =
      verbatim_line (continuation_if r.lazy verbatim r) closed verbatim first had waiting r
      (lines_begin (join (join closed (LeafBlock (leaf_in verbatim) first had Nil)) (blank_lines waiting)) r ahead)
  lines_feed (InContainer closed k first more inside) r ahead =
      lines_kept_or (keeps k (bare_after (is_bare_start k first) more) r) (lazily options k r ahead && lines_take_lazy inside)
      (InContainer closed k first (more ++ r ∷ []) (lines_feed inside (strip k (bare_after (is_bare_start k first) more) r) (within k false ahead)))
      (lines_begin (join closed (ContainerBlock k first more (close_lines inside) Nil)) r ahead)

  abbrev pub lines_feed_all : OpenLines → List Row → OpenLines
  lines_feed_all o [] = o
  lines_feed_all o (r ∷ rs) = lines_feed_all (lines_feed o r (shown rs)) rs

  -- the blocks of a text, line by line
  unfoldable pub blocks_by_line : List ℕ → Blocks
  blocks_by_line text = close_lines (lines_feed_all (Between Nil) (rows text))
