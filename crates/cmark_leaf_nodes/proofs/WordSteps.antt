-- Texts as nodes that a builder has drawn.
use Rattle.std.proofs.Common.{◌≡◌, ℕ, ◌<◌, ◌≤◌, arith, Bool, true, false, List, [], ◌∷◌, ◌++◌, length, Some, option_map, refl, sym, ap, ◌∙◌, subst}
use Rattle.std.specs.Prelude.{if◌then◌else◌, nat_lt}
use Rattle.cmark_values.specs.declared.text.CowStr.{CowStr}
use Rattle.cmark_values.specs.Shown.{text_bytes}
use Rattle.cmark_tree.specs.Forest as forest
use Rattle.cmark_tree.specs.Forest.{Forest, one, join as join_forests}
use Rattle.cmark_tree.specs.Building.{Opened, Is}
use Rattle.cmark_grammar.specs.BlockDocument.{Text, OwnedText, Nil, Node, node}
use Rattle.cmark_grammar.specs.Tokens.{slice, piece_if, stretch_then}
use Rattle.cmark_items.specs.declared.allocations.Allocations.{Allocations}
use Rattle.cmark_items.specs.declared.allocations.CowIndex.{CowIndex}
use Rattle.cmark_items.specs.declared.item.Item.{Item}
use Rattle.cmark_items.specs.declared.item.ItemBody.TheVariants as body
use Rattle.cmark_items.specs.ItemNodes.{ranged, text_at}
use Rattle.cmark_items.specs.Tables.{with_text}
use Rattle.cmark_block_model.specs.Drawing.{Drawing, drawn}
use Rattle.cmark_block_model.specs.CodeLines.{texts_of}
use Rattle.cmark_builder.specs.declared.builder.Builder.{Builder}
use Rattle.cmark_builder.specs.Drawn.{Draws}
use Rattle.cmark_builder.specs.Ended.{item_at}
use Rattle.cmark_builder.proofs.DrawnSteps.{draws-add, draws-text}
use Rattle.cmark_leaf_nodes.proofs.DrawSteps.{drawn-Nil}

-- the last text
pub last-text : (texts : List CowStr) (text : CowStr) → text_at (texts ++ text ∷ []) (length texts) ≡ Some (text_bytes text)
last-text [] text = refl
last-text (t ∷ texts) text = last-text texts text

-- the builder has a node more
abbrev pub Adds : (old new : Builder) → Item → Type 0
Adds old new item = (here : Forest Item) (up : List (Opened Item)) → Is old.tree here up → Is new.tree (join_forests here (one item forest.Nil)) up

-- a text of the tables as a node
pub draws-owned : (text : List ℕ) (old new : Builder) (kept : Allocations) (owned : CowStr) (index : CowIndex) (start end : ℕ) (d : Drawing) →
    index.0 ≡ length old.allocations.texts → kept ≡ with_text owned old.allocations →
    Adds old new (item_at start end (body.SynthesizeText index)) → new.allocations ≡ kept →
    Draws text old d → Draws text new (drawn (Node (node (OwnedText (text_bytes owned)) start end) Nil Nil) d)
draws-owned text old new kept owned index start end d at is step same draws =
    let mid : Builder = record old { allocations = kept } in
    let texts : kept.texts ≡ old.allocations.texts ++ owned ∷ [] = ap (λ t. t.texts) is in
    draws-add text mid new (item_at start end (body.SynthesizeText index)) (node (OwnedText (text_bytes owned)) start end) d step same
    (ap (λ o. option_map (ranged start end) (option_map OwnedText o)) (
    ap (λ t. text_at t index.0) texts ∙ ap (text_at (old.allocations.texts ++ owned ∷ [])) at ∙ last-text old.allocations.texts owned))
    refl (draws-text text old mid owned d refl texts draws)

-- a text as it is, as a node
is-less : (a b : ℕ) → a < b → nat_lt a b ≡ true
is-less a b l = grind (arith)

no-less : (a b : ℕ) → b ≤ a → nat_lt a b ≡ false
no-less a b l = grind (arith)

if-less : (text : List ℕ) (start end : ℕ) (z : Bool) → nat_lt start end ≡ z →
    (if z then record { owned = false; bytes = slice text start end; start = start; end = end } ∷ [] else []) ≡ piece_if text start end []
if-less text start end z e = sym (ap (λ y. if y then record { owned = false; bytes = slice text start end; start = start; end = end } ∷ [] else []) e)

pub draws-words : (text : List ℕ) (old new : Builder) (start end : ℕ) (d : Drawing) → start < end →
    Adds old new (item_at start end (body.Text false)) → new.allocations ≡ old.allocations →
    Draws text old d → Draws text new (drawn (texts_of (piece_if text start end [])) d)
draws-words text old new start end d some step same draws =
    subst (λ ps. Draws text new (drawn (texts_of ps) d)) (if-less text start end true (is-less start end some))
    (draws-add text old new (item_at start end (body.Text false)) (node (Text (slice text start end)) start end) d step same refl refl draws)

-- a stretch that is not empty is one text
pub some-stretch : (text : List ℕ) (start end : ℕ) → start < end → Node (node (Text (slice text start end)) start end) Nil Nil ≡ stretch_then text start end Nil
some-stretch text start end some = ap texts_of (if-less text start end true (is-less start end some))

pub draws-no_words : (text : List ℕ) (b : Builder) (start end : ℕ) (d : Drawing) → end ≤ start → Draws text b d → Draws text b (drawn (texts_of (piece_if text start end [])) d)
draws-no_words text b start end d none draws =
    subst (λ ps. Draws text b (drawn (texts_of ps) d)) (if-less text start end false (no-less start end none)) (subst (Draws text b) (sym (drawn-Nil d)) draws)
