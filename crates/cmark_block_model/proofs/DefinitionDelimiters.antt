-- No item that is open or closed has the character of definitions, line by line.
use Rattle.std.proofs.Common.{ℕ, zero, suc, ◌&&◌, Bool, true, false, List, length, arith, rules}
use Rattle.std.specs.Prelude.{nat_le}
use Rattle.cmark_grammar.specs.Options.{Options}
use Rattle.cmark_grammar.specs.Rows.{Row, words_of}
use Rattle.cmark_grammar.specs.HtmlBlocks.{holds_end}
use Rattle.cmark_grammar.specs.Containers.{Container, enter, strip, is_bare_start, bare_after}
use Rattle.cmark_grammar.specs.Openings.{Leaf, HtmlBlock, Opening, opens_at}
use Rattle.cmark_grammar.specs.Places.{Place, Apart, AfterLazy}
use Rattle.cmark_grammar.specs.Blocks.{Blocks, Nil as NoBlocks, LeafBlock, join, place_in}
use Rattle.cmark_block_model.specs.BlocksModel.{within, place_after}
use Rattle.cmark_block_model.specs.BlocksByLine.{OpenLines, Between, AfterTag, InParagraph, InLeaf, InVerbatim, InContainer, html_begun, leaf_begun, lines_inside_begun, lines_begin_as, lines_begin_in, lines_begin, lines_feed}
use Rattle.cmark_block_model.proofs.ListDelimiters.{IsUnmarked, Unmarked, unmarked-join, unmarked-blanks}
use Rattle.cmark_block_model.proofs.Tells.{Tells, tells-at}

-- the open blocks have no such item
abbrev pub OpenUnmarked : OpenLines → Type 0
OpenUnmarked (Between closed) = Unmarked closed
OpenUnmarked AfterTag = Unit {0}
OpenUnmarked (InParagraph closed first more) = Unmarked closed
OpenUnmarked (InLeaf closed leaf first had left) = Unmarked closed
OpenUnmarked (InVerbatim closed verbatim first had waiting) = Unmarked closed
OpenUnmarked (InContainer closed k first more inside) = Unmarked closed × IsUnmarked k × OpenUnmarked inside

module _ (options : Options) where
  begun-unmarked : (m : ℕ) (place : Place) (closed : Blocks) (r : Row) (ahead : List Row) → Unmarked closed → OpenUnmarked (lines_begin_in options m place closed r ahead)
  begun-unmarked zero place closed r ahead u = u
  begun-unmarked (suc m) place closed r ahead u =
      go (opens_at options place r ahead) (tells-at options place r ahead) (λ k. begun-unmarked m (place_in k) NoBlocks (enter k r) (within k (is_bare_start k r) ahead) tt)
    where
      html : (z : Bool) (kind : ℕ) → OpenUnmarked (html_begun z closed kind r)
      html true kind = u
      html false kind = u

      leaf : (l : Leaf) (more : ℕ) → OpenUnmarked (leaf_begun l more closed r)
      leaf (HtmlBlock kind) more = html (nat_le kind 5 && holds_end kind (words_of r)) kind
      leaf _ more = u

      tagged : (is_tag : Bool) (o : OpenLines) → OpenUnmarked o → OpenUnmarked (lines_inside_begun is_tag o)
      tagged true o h = tt
      tagged false o h = h

      go : (o : Opening) → Tells r o → ((k : Container) → OpenUnmarked (lines_begin_in options m (place_in k) NoBlocks (enter k r) (within k (is_bare_start k r) ahead)))
          → OpenUnmarked (lines_begin_as o (λ k. lines_begin_in options m (place_in k) NoBlocks (enter k r) (within k (is_bare_start k r) ahead)) closed r)
      go o t ih = grind (arith, unmarked-join, tagged, leaf)

  begin-unmarked : (closed : Blocks) (r : Row) (ahead : List Row) → Unmarked closed → OpenUnmarked (lines_begin options closed r ahead)
  unfolding lines_begin
  begin-unmarked closed r ahead u = begun-unmarked (suc (length r.columns)) (place_after Apart closed) closed r ahead u

  pub feed-unmarked : (o : OpenLines) (r : Row) (ahead : List Row) → OpenUnmarked o → OpenUnmarked (lines_feed options o r ahead)
  feed-unmarked (Between closed) r ahead u = begin-unmarked closed r ahead u
  feed-unmarked AfterTag r ahead u = begun-unmarked (suc (length r.columns)) AfterLazy NoBlocks r ahead tt
  feed-unmarked (InParagraph closed first more) r ahead u = grind (arith, unmarked-join, begin-unmarked)
  feed-unmarked (InLeaf closed leaf first had zero) r ahead u = begin-unmarked (join closed (LeafBlock leaf first had NoBlocks)) r ahead (unmarked-join closed (LeafBlock leaf first had NoBlocks) u tt)
  feed-unmarked (InLeaf closed leaf first had (suc left)) r ahead u = u
  feed-unmarked (InVerbatim closed v first had waiting) r ahead u = grind (arith, begin-unmarked, unmarked-join, unmarked-blanks)
  feed-unmarked (InContainer closed k first more inside) r ahead u = search (rules, begin-unmarked, unmarked-join, feed-unmarked inside (strip k (bare_after (is_bare_start k first) more) r) (within k false ahead) u.2)
