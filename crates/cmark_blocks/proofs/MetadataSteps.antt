-- Whether the lines ahead are those of a metadata block, line by line.
use Rattle.std.proofs.Common.{◌≡◌, ℕ, Bool, true, false, not, ◌&&◌, ◌||◌, List, [], ◌∷◌, Option, Some, refl, sym, ap, ◌∙◌}
use Rattle.std.specs.Prelude.{if◌then◌else◌}
use Rattle.cmark_grammar.specs.Leaves.{counted}
use Rattle.cmark_grammar.specs.Metadata.{ends_metadata, is_ended, holds_metadata, metadata_continuation}
use Rattle.cmark_grammar.specs.MetadataBlockKind.{MetadataBlockKind}
use Rattle.cmark_grammar.specs.Openings.{MetadataBlock, Takes, Plain, metadata_begun}
use Rattle.cmark_grammar.specs.Rows.{Row, is_blank_line}
use Rattle.cmark_grammar.specs.Answers.{Lookup}
use Rattle.cmark_grammar.specs.Options.{Options}
use Rattle.cmark_grammar.specs.Tokens.{Piece}
use Rattle.cmark_block_model.specs.BlockPass.{leaf_fed, node_closed, with_drawn, code_drawn}
use Rattle.cmark_block_model.specs.CodeLines.{rest_of, texts_of}
use Rattle.cmark_block_model.specs.OpenBlocks as model

module _ (kind : MetadataBlockKind) (lines : List Row) where
  pub ended-none : lines ≡ [] → is_ended kind lines ≡ false
  ended-none none = ap (is_ended kind) none

  module _ (r : Row) (ahead : List Row) (is : lines ≡ r ∷ ahead) where
    pub holds-first : (z : Bool) → (is_blank_line r || ends_metadata kind r) ≡ z → holds_metadata kind lines ≡ (not z && is_ended kind ahead)
    holds-first z e = ap (holds_metadata kind) is ∙ ap (λ y. not y && is_ended kind ahead) e

    pub ended-next : (z : Bool) → ends_metadata kind r ≡ z → is_ended kind lines ≡ (z || is_ended kind ahead)
    ended-next z e = ap (is_ended kind) is ∙ ap (λ y. y || is_ended kind ahead) e

-- a block that a line may begin, if it is known whether the lines ahead form a metadata block
pub begun-as : (kind : MetadataBlockKind) (ahead : List Row) (o : Option MetadataBlockKind) (z : Bool) → o ≡ Some kind → z ≡ holds_metadata kind ahead →
    metadata_begun o ahead ≡ (if z then Takes (MetadataBlock kind) (counted (metadata_continuation kind) ahead) else Plain)
begun-as kind ahead o z is holds =
    ap (λ x. metadata_begun x ahead) is ∙ ap (λ y. if y then Takes (MetadataBlock kind) (counted (metadata_continuation kind) ahead) else Plain) (sym holds)

-- a line of a metadata block: the one that ends it, and one in it
module _ (text : List ℕ) (options : Options) (lookup : Lookup) (kind : MetadataBlockKind) (waits : Option Piece) (r : Row) (next : List Row) (m : model.Pass)
    (is : m.leaf ≡ model.InMetadata kind waits) where
  fed : (z : Bool) → ends_metadata kind r ≡ z → leaf_fed text options lookup m.leaf r next m
      ≡ (if z then node_closed r.line_end (with_drawn (texts_of (rest_of waits)) m) else code_drawn text options lookup 0 r waits (model.InMetadata kind) m)
  fed z e =
      ap (λ l. leaf_fed text options lookup l r next m) is
      ∙ ap (λ b. if b then node_closed r.line_end (with_drawn (texts_of (rest_of waits)) m) else code_drawn text options lookup 0 r waits (model.InMetadata kind) m) e

  pub metadata-closes : ends_metadata kind r ≡ true → leaf_fed text options lookup m.leaf r next m ≡ node_closed r.line_end (with_drawn (texts_of (rest_of waits)) m)
  metadata-closes e = fed true e

  pub metadata-goes-on : ends_metadata kind r ≡ false → leaf_fed text options lookup m.leaf r next m ≡ code_drawn text options lookup 0 r waits (model.InMetadata kind) m
  metadata-goes-on e = fed false e

pub or-true : (a b : Bool) → b ≡ true → (a || b) ≡ true
or-true true b e = refl
or-true false b e = e
