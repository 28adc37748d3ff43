-- The last line of an open paragraph, which waits until the next line shows whether they continue.
use Rattle.std.specs.Prelude.{ℕ, List}
use Rattle.std.proofs.Props.{props}
use Rattle.cmark_leaf_nodes.specs.ReadFacts.{IsRead-prop}
use Rattle.cmark_leaf_nodes.specs.TextColumns.{IsRead}
use Rattle.cmark_blocks.specs.declared.state.OpenLeaf.{OpenLeaf}
use Rattle.cmark_blocks.specs.declared.state.OpenLeaf.TheVariants as leaf

-- the last line of an open paragraph is read in the text
abbrev pub IsLastRead : List ℕ → OpenLeaf → Type 0
IsLastRead text leaf.Closed = Unit {0}
IsLastRead text leaf.AfterTag = Unit {0}
IsLastRead text (leaf.Paragraph from last) = IsRead text last
IsLastRead text (leaf.Definition left) = Unit {0}
IsLastRead text (leaf.Table columns left has_delimiter) = Unit {0}
IsLastRead text (leaf.Indented waits end) = Unit {0}
IsLastRead text (leaf.Fenced delimiter run_length indent waits) = Unit {0}
IsLastRead text (leaf.Html kind) = Unit {0}
IsLastRead text (leaf.Metadata kind waits) = Unit {0}

-- this has one proof at most, so it may be a ghost field
pub IsLastRead-prop : (text : List ℕ) (open_leaf : OpenLeaf) → IsProp (IsLastRead text open_leaf)
IsLastRead-prop text leaf.Closed = Prim.hlevel props
IsLastRead-prop text leaf.AfterTag = Prim.hlevel props
IsLastRead-prop text (leaf.Paragraph from last) = IsRead-prop text last
IsLastRead-prop text (leaf.Definition left) = Prim.hlevel props
IsLastRead-prop text (leaf.Table columns left has_delimiter) = Prim.hlevel props
IsLastRead-prop text (leaf.Indented waits end) = Prim.hlevel props
IsLastRead-prop text (leaf.Fenced delimiter run_length indent waits) = Prim.hlevel props
IsLastRead-prop text (leaf.Html kind) = Prim.hlevel props
IsLastRead-prop text (leaf.Metadata kind waits) = Prim.hlevel props
