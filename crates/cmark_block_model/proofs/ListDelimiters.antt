-- No item of a list has the character of definitions.
use Rattle.std.proofs.Common.{◌≡◌, ℕ, Bool, true, false, ◌==◌, List, [], ◌∷◌, Option, Some, None, eqb-true, arith, rules}
use Rattle.cmark_grammar.specs.BlockQuoteKind.{BlockQuoteKind}
use Rattle.cmark_grammar.specs.Blocks.{Blocks, Nil, BlankLine, Paragraph, SetextHeading, LeafBlock, ContainerBlock, join}
use Rattle.cmark_block_model.specs.BlocksByLine.{blank_lines}
use Rattle.cmark_grammar.specs.Containers.{Container, Item, Marker, marker_of, delimited, item_with, container_with, with_task, footnote_of, footnote_or, container_of}
use Rattle.cmark_grammar.specs.Footnotes.{Footnotes}
use Rattle.cmark_grammar.specs.Lists.{definition_delimiter}
use Rattle.cmark_grammar.specs.Options.{Options}
use Rattle.cmark_grammar.specs.Rows.{Row}

abbrev pub IsUnmarked : Container → Type 0
IsUnmarked (Item delimiter number width task) = (delimiter == definition_delimiter) ≡ false
IsUnmarked _ = Unit {0}

abbrev pub Unmarked : Blocks → Type 0
Unmarked Nil = Unit {0}
Unmarked (BlankLine line after) = Unmarked after
Unmarked (Paragraph first more after) = Unmarked after
Unmarked (SetextHeading level first more underline after) = Unmarked after
Unmarked (LeafBlock leaf first more after) = Unmarked after
Unmarked (ContainerBlock k first more inside after) = IsUnmarked k × Unmarked after

pub unmarked-join : (a b : Blocks) → Unmarked a → Unmarked b → Unmarked (join a b)
unmarked-join Nil b h k = k
unmarked-join (BlankLine line after) b h k = unmarked-join after b h k
unmarked-join (Paragraph first more after) b h k = unmarked-join after b h k
unmarked-join (SetextHeading level first more underline after) b h k = unmarked-join after b h k
unmarked-join (LeafBlock leaf first more after) b h k = unmarked-join after b h k
unmarked-join (ContainerBlock c first more inside after) b h k = (h.0, unmarked-join after b h.1 k)

pub unmarked-blanks : (rs : List Row) → Unmarked (blank_lines rs)
unmarked-blanks [] = tt
unmarked-blanks (r ∷ rs) = unmarked-blanks rs

abbrev pub SomeUnmarked : Option Container → Type 0
SomeUnmarked None = Unit {0}
SomeUnmarked (Some k) = IsUnmarked k

abbrev Marked : Option Marker → Type 0
Marked None = Unit {0}
Marked (Some m) = (m.delimiter == definition_delimiter) ≡ false

-- a byte that passes a test which a colon does not pass is not a colon
other-byte : (test : ℕ → Bool) (b : ℕ) → test definition_delimiter ≡ false → test b ≡ true → (b == definition_delimiter) ≡ false
other-byte test b colon e = grind (arith, eqb-true)

delimited-unmarked : (ds bs : List ℕ) → Marked (delimited ds bs)
delimited-unmarked ds bs = grind (arith, other-byte)

marker-unmarked : (bs : List ℕ) → Marked (marker_of bs)
marker-unmarked bs = search (rules, other-byte, delimited-unmarked)

item-unmarked : (options : Options) (r : Row) (m : Option Marker) → Marked m → SomeUnmarked (with_task options r (item_with r m))
item-unmarked options r m h = grind arith

with-unmarked : (o : Option Container) (quoted : Bool) (alert : Option BlockQuoteKind) → SomeUnmarked o → SomeUnmarked (container_with o quoted alert)
with-unmarked o quoted alert h = grind arith

or-unmarked : (x y : Option Container) → SomeUnmarked x → SomeUnmarked y → SomeUnmarked (footnote_or x y)
or-unmarked (Some k) y h i = h
or-unmarked None y h i = i

footnote-unmarked : (f : Footnotes) (r : Row) → SomeUnmarked (footnote_of f r)
footnote-unmarked f r = grind arith

pub container-unmarked : (options : Options) (r : Row) → SomeUnmarked (container_of options r)
container-unmarked options r = grind (arith, or-unmarked, footnote-unmarked, with-unmarked, item-unmarked, marker-unmarked)
