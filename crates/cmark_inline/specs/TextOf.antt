-- The text of a leaf.
use Rattle.std.specs.Prelude.{◌≡◌, ℕ, List}
use Rattle.cmark_leaf_text.specs.Reads.{IsRead, text_of}
use Rattle.cmark_leaf_text.specs.declared.leaf_text.LeafText.{LeafText}

-- the text is the one of this leaf, which is read from its source
pub record IsTextOf (leaf : LeafText) (text : List ℕ) : Type 0 where
  pub read : IsRead leaf
  pub same : text ≡ text_of leaf
