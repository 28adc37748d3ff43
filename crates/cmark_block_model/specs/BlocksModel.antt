-- The blocks of lines, line by line: each line is added to the open block.
use Rattle.std.specs.Prelude.{ℕ, zero, suc, Bool, true, false, ◌&&◌, List, [], ◌∷◌, ◌++◌, length, Option, Some, None}
use Rattle.cmark_grammar.specs.Rows.{Row, rows, shown}
use Rattle.cmark_grammar.specs.Leaves.{underlines}
use Rattle.cmark_grammar.specs.Containers.{Container, is_alert, enter, keeps, strip, strips, is_bare_start, bare_after}
use Rattle.cmark_grammar.specs.Openings.{Leaf, Opening, Blank, Nests, Takes, Plain, opens_at, texts, lazily}
use Rattle.cmark_grammar.specs.Blocks.{Blocks, Nil, BlankLine, Paragraph, SetextHeading, LeafBlock, ContainerBlock, join, after_leaf, after_container, place_in}
use Rattle.cmark_grammar.specs.Options.{Options}
use Rattle.cmark_grammar.specs.Places.{Place, Apart, AfterLazy, AfterTitle, allows_lazy, over_blank}

-- the blocks that have ended, and after them the open block: nothing, a paragraph, a leaf with lines to come, or a container. Directly
-- after an alert's tag no block is open yet
pub data Open : Type 0 where
  Between : (closed : Blocks) → Open
  AfterTag : Open
  InParagraph : (closed : Blocks) → (first : Row) → (more : List Row) → Open
  InLeaf : (closed : Blocks) → (leaf : Leaf) → (first : Row) → (had : List Row) → (left : ℕ) → Open
  InContainer : (closed : Blocks) → (container : Container) → (first : Row) → (more : List Row) → (inside : Open) → Open

-- all blocks, after the last line
abbrev pub close : Open → Blocks
close (Between closed) = closed
close AfterTag = Nil
close (InParagraph closed first more) = join closed (Paragraph first more Nil)
close (InLeaf closed leaf first had left) = join closed (LeafBlock leaf first had Nil)
close (InContainer closed k first more inside) = join closed (ContainerBlock k first more (close inside) Nil)

-- a lazy line may follow the open block
abbrev pub takes_lazy : Open → Bool
takes_lazy (Between closed) = false
takes_lazy AfterTag = true
takes_lazy (InParagraph closed first more) = true
takes_lazy (InLeaf closed leaf first had left) = allows_lazy (after_leaf leaf)
takes_lazy (InContainer closed k first more inside) = takes_lazy inside

-- the place of a line after these blocks, if it is at that place when there are no blocks
abbrev pub place_after : Place → Blocks → Place
place_after place Nil = place
place_after place (BlankLine line after) = place_after (over_blank place) after
place_after place (Paragraph first more after) = place_after AfterTitle after
place_after place (SetextHeading level first more underline after) = place_after Apart after
place_after place (LeafBlock leaf first more after) = place_after (after_leaf leaf) after
place_after place (ContainerBlock k first more inside after) = place_after (after_container k) after

-- the lines ahead, seen from inside a container
abbrev pub within : Container → Bool → List Row → List Row
within k bare ahead = shown (strips k bare ahead)

-- directly after an alert's tag no block is open
abbrev pub inside_begun : (is_alert : Bool) → Open → Open
inside_begun true begun = AfterTag
inside_begun false begun = begun

abbrev pub begin_as : Opening → (Container → Open) → Blocks → Row → Open
begin_as Blank inside closed r = Between (join closed (BlankLine r Nil))
begin_as (Nests k) inside closed r = InContainer closed k r [] (inside_begun (is_alert k) (inside k))
begin_as (Takes leaf more) inside closed r = InLeaf closed leaf r [] more
begin_as Plain inside closed r = InParagraph closed r []

abbrev pub underline_or : Option ℕ → (ℕ → Open) → Open → Open
underline_or (Some level) underlined other = underlined level
underline_or None underlined other = other

abbrev pub goes_on_or : Bool → Open → Open → Open
goes_on_or true on off = on
goes_on_or false on off = off

-- a container continues with a line that has the prefix or is lazy
abbrev pub kept_or : Option Row → (is_lazy : Bool) → Open → Open → Open
kept_or (Some s) is_lazy on off = on
kept_or None true on off = on
kept_or None false on off = off

module _ (options : Options) where
  -- the open block after a line at that place, after these blocks and with these lines ahead; each container takes at least one column
  abbrev pub begin_in : (columns : ℕ) → Place → Blocks → Row → List Row → Open
  begin_in zero place closed r ahead = Between closed
  begin_in (suc columns) place closed r ahead =
      begin_as (opens_at options place r ahead) (λ k. begin_in columns (place_in k) Nil (enter k r) (within k (is_bare_start k r) ahead)) closed r

  abbrev pub begin_at : Place → Blocks → Row → List Row → Open
  begin_at place closed r ahead = begin_in (suc (length r.columns)) place closed r ahead

  unfoldable pub begin : Blocks → Row → List Row → Open
  begin closed r ahead = begin_at (place_after Apart closed) closed r ahead

  -- the next line, with these lines ahead
  abbrev pub feed : Open → Row → List Row → Open
  feed (Between closed) r ahead = begin closed r ahead
  feed AfterTag r ahead = begin_at AfterLazy Nil r ahead
  feed (InParagraph closed first more) r ahead =
      underline_or (underlines r) (λ level. Between (join closed (SetextHeading level first more r Nil)))
      (goes_on_or (texts options r ahead) (InParagraph closed first (more ++ r ∷ [])) (begin (join closed (Paragraph first more Nil)) r ahead))
  feed (InLeaf closed leaf first had zero) r ahead = begin (join closed (LeafBlock leaf first had Nil)) r ahead
  feed (InLeaf closed leaf first had (suc left)) r ahead = InLeaf closed leaf first (had ++ r ∷ []) left
  feed (InContainer closed k first more inside) r ahead =
      kept_or (keeps k (bare_after (is_bare_start k first) more) r) (lazily options k r ahead && takes_lazy inside)
      (InContainer closed k first (more ++ r ∷ []) (feed inside (strip k (bare_after (is_bare_start k first) more) r) (within k false ahead)))
      (begin (join closed (ContainerBlock k first more (close inside) Nil)) r ahead)

  abbrev pub feed_all : Open → List Row → Open
  feed_all o [] = o
  feed_all o (r ∷ rs) = feed_all (feed o r (shown rs)) rs

  -- the blocks of a text
  unfoldable pub blocks : List ℕ → Blocks
  blocks text = close (feed_all (Between Nil) (rows text))
