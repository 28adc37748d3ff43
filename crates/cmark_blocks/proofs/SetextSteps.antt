-- The attributes of a setext heading, and the drawing without them.
use Rattle.std.proofs.Common.{◌≡◌, ℕ, Bool, true, false, List, [], ◌∷◌, ◌++◌, Some, None, refl, sym, ap, ◌∙◌, subst}
use Rattle.std.specs.Prelude.{if◌then◌else◌}
use Rattle.cmark_grammar.specs.Attributes.{no_attributes}
use Rattle.cmark_grammar.specs.SetextAttributes.{attributes_place, texts_if, setext_attributes}
use Rattle.cmark_block_model.specs.Drawing.{OpenNode, Drawing, cut_at, texts_cut, unbraced}
use Rattle.cmark_line_rules.specs.declared.line_rest.LineRest.{LineRest}
use Rattle.cmark_leaf_nodes.specs.Contents.{AreRead, content_columns}
use Rattle.cmark_leaf_nodes.specs.TextColumns.{IsRead}
use Rattle.cmark_leaf_nodes.specs.declared.setext.SetextAttributes.{SetextAttributes}
use Rattle.cmark_leaf_nodes.proofs.SetextContent.{no-setext}
use Rattle.cmark_blocks.specs.Setext.{FindsIf}
use Rattle.cmark_blocks.specs.LastLines.{IsLastRead}
use Rattle.cmark_blocks.specs.declared.state.OpenLeaf.{OpenLeaf}
use Rattle.cmark_blocks.specs.declared.state.OpenLeaf.TheVariants as leaf

-- another line that is read
-- no lines
pub read-none : (text : List ℕ) (lines : List LineRest) → lines ≡ [] → AreRead text lines
read-none text lines none = subst (AreRead text) (sym none) tt

pub read-more : (text : List ℕ) (lines : List LineRest) (last : LineRest) → AreRead text lines → IsRead text last → AreRead text (lines ++ last ∷ [])
read-more text [] last h l = (l, tt)
read-more text (r ∷ lines) last h l = (h.0, read-more text lines last h.1 l)

pub read-pushed : (text : List ℕ) (lines new : List LineRest) (last : LineRest) (pushed : Bool) → new ≡ (if pushed then lines ++ last ∷ [] else lines) → AreRead text lines → IsRead text last → AreRead text new
read-pushed text lines new last true e h l = subst (AreRead text) (sym e) (read-more text lines last h l)
read-pushed text lines new last false e h l = subst (AreRead text) (sym e) h

-- the last line of the paragraph that is open
pub last-read : (text : List ℕ) (l : OpenLeaf) (from : ℕ) (last : LineRest) → l ≡ leaf.Paragraph from last → IsLastRead text l → IsRead text last
last-read text l from last is h = subst (IsLastRead text) is h

-- if no attributes were found
pub none-attributes : (attributes : Bool) (before : List LineRest) (last : LineRest) → FindsIf attributes before last None → no_attributes ≡ setext_attributes attributes (content_columns before last)
none-attributes false before last e = refl
none-attributes true before last e = sym (no-setext (content_columns before last) e)

pub found-unbraced : (text : List ℕ) (attributes : Bool) (before : List LineRest) (last : LineRest) (found : SetextAttributes) (d : Drawing) → FindsIf attributes before last (Some found)
    → texts_cut text found.place d ≡ unbraced text attributes (content_columns before last) d.here d.up
found-unbraced text attributes before last found d h = go d.up attributes h
  where
    go : (up : List OpenNode) (attributes : Bool) → FindsIf attributes before last (Some found) → cut_at text found.place d.here up ≡ unbraced text attributes (content_columns before last) d.here up
    go [] attributes h = refl
    go (v ∷ up) false h = absurd (let q : Some found ≡ None = h in cc)
    go (v ∷ up) true h =
        ap (λ at. cut_at text at d.here (v ∷ up)) h.place
        ∙ sym (ap (λ z. record { here = texts_if z text (attributes_place (content_columns before last)) d.here; up = v ∷ up }) h.ends)
