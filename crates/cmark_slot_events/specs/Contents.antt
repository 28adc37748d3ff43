-- The bytes of a leaf's text that are the content of a code span or a formula.
use Rattle.std.specs.Prelude.{◌≡◌, ◌+◌, ◌-◌, ℕ, List}
use Rattle.std.specs.Str.{IsCharBoundary}
use Rattle.cmark_grammar.specs.InlineTokens.{as_in}
use Rattle.cmark_grammar.specs.Tokens.{slice}
use Rattle.cmark_leaf_text.specs.Reads.{IsRead, is_cell_of, place_of, text_of}
use Rattle.cmark_slot_events.specs.declared.content.Content.{Content}

-- the bytes as they are written
abbrev pub written : Content → List ℕ
written content = slice (text_of content.leaf.now) content.from content.to

-- the bytes as they are read: in a table cell without the backslash of an escaped pipe (GFM 4.10)
abbrev pub read_as : Content → List ℕ
read_as content = as_in (is_cell_of content.leaf.now) (written content)

-- the bytes are in the source without a gap
abbrev pub IsUnbroken : Content → Type 0
IsUnbroken content = place_of content.leaf.now (content.to - 1) + 1 ≡ place_of content.leaf.now content.from + (content.to - content.from)

-- the leaf was read, and the content begins and ends at character boundaries of its text
pub record IsInLeaf (content : Content) : Type 0 where
  pub read : IsRead content.leaf.now
  pub starts : IsCharBoundary (text_of content.leaf.now) content.from
  pub ends : IsCharBoundary (text_of content.leaf.now) content.to
