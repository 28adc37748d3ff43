-- The tree that the pass over a text leaves has at most four nodes a byte of the text, the cells aside that are filled in.
use Rattle.std.proofs.Common.{◌≡◌, ℕ, suc, ◌+◌, ◌*◌, ◌≤◌, Bool, true, false, List, Option, length, refl, sym, ap, ◌∙◌, arith}
use Rattle.cmark_tree.specs.Forest as forest
use Rattle.cmark_tree.specs.Forest.{Forest, size}
use Rattle.cmark_values.specs.declared.text.CowStr.{CowStr}
use Rattle.cmark_grammar.specs.Answers.{Lookup}
use Rattle.cmark_grammar.specs.BlockDocument.{BlockNode, BlockDocument, Nil, Node}
use Rattle.cmark_block_model.specs.DocumentModel.{document}
use Rattle.cmark_block_model.specs.DrawnDocument.{is_definition, node_unless, settled, without_definitions}
use Rattle.cmark_grammar.specs.Options.{Options}
use Rattle.cmark_block_model.specs.Ranges.{count_nodes, count_tables}
use Rattle.cmark_block_model.specs.Tightness.{tight_within}
use Rattle.cmark_block_model.proofs.CountLaws.{derived-count}
use Rattle.cmark_items.specs.declared.item.Item.{Item}
use Rattle.cmark_items.specs.ItemNodes.{Shape, ParagraphOf, TitleOf, shape, shown_inside, shown_forest, nodes_of}
use Rattle.cmark_block_model.specs.BlockPass.{pass_over}
use Rattle.cmark_block_model.proofs.Drawings.{derived}
use Rattle.cmark_block_model.proofs.Theorem.{pass-draws}

-- a text that is one node with its paragraph is a node of the document
inside-size : (text : List ℕ) (start : ℕ) (s : Shape) (below : Forest (Option BlockNode)) → size below ≤ size (shown_inside text start s below)
inside-size text start (ParagraphOf text_end) forest.Nil = omega arith
inside-size text start (ParagraphOf text_end) (forest.Node n i a) = omega arith
inside-size text start (TitleOf text_end) forest.Nil = omega arith
inside-size text start (TitleOf text_end) (forest.Node n i a) = omega arith
inside-size text start _ below = omega arith

shown-size : (text : List ℕ) (texts : List CowStr) (f : Forest Item) → size f ≤ size (shown_forest text texts f)
shown-size text texts forest.Nil = omega arith
shown-size text texts (forest.Node item inside after) =
    let i = shown-size text texts inside in
    let o = inside-size text item.start (shape item.body) (shown_forest text texts inside) in
    let a = shown-size text texts after in omega (arith, i, o, a)

nodes-count : (d : BlockDocument) → size (nodes_of d) ≡ count_nodes d
nodes-count Nil = refl
nodes-count (Node node inside after) = let i = nodes-count inside in let a = nodes-count after in omega (arith, i, a)

settled-count : (tight : Bool) (d : BlockDocument) → count_nodes (settled tight d) ≡ count_nodes d
settled-count tight Nil = refl
settled-count tight (Node node inside after) =
    let i = settled-count (tight_within tight node.kind) inside in let a = settled-count tight after in omega (arith, i, a)

left-count : (d : BlockDocument) → count_nodes (without_definitions d) ≤ count_nodes d
left-count Nil = omega arith
left-count (Node node inside after) = go (is_definition node.kind) (left-count inside) (left-count after)
  where
    go : (b : Bool) → count_nodes (without_definitions inside) ≤ count_nodes inside → count_nodes (without_definitions after) ≤ count_nodes after
        → count_nodes (node_unless b node (without_definitions inside) (without_definitions after)) ≤ suc (count_nodes inside + count_nodes after)
    go true i a = omega (arith, i, a)
    go false i a = omega (arith, i, a)

-- a tree that shows a drawing has no more nodes than the document that was drawn
pub drawn-within : (text : List ℕ) (texts : List CowStr) (f : Forest Item) (d whole : BlockDocument) → shown_forest text texts f ≡ nodes_of d → settled false d ≡ without_definitions whole → size f ≤ count_nodes whole
drawn-within text texts f d whole is settles =
    let shown = shown-size text texts f in
    let nodes : size (shown_forest text texts f) ≡ count_nodes d = ap size is ∙ nodes-count d in
    let drawn : count_nodes d ≡ count_nodes (without_definitions whole) = sym (settled-count false d) ∙ ap count_nodes settles in
    let left = left-count whole in
    omega (arith, shown, nodes, drawn, left)

pub drawn-few : (text : List ℕ) (options : Options) (lookup : Lookup) (texts : List CowStr) (f : Forest Item) → shown_forest text texts f ≡ nodes_of (pass_over text options lookup).drawing.here → size f ≤ 4 * length text + 262144 * count_tables (document text options lookup)
drawn-few text options lookup texts f is =
    let within = drawn-within text texts f (pass_over text options lookup).drawing.here (document text options lookup) is (pass-draws text options lookup).0 in
    let few = derived-count text options lookup (document text options lookup) (derived text options lookup) in
    omega (arith, within, few)
