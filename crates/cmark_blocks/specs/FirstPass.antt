-- The result of the block pass over a text.
use Rattle.std.specs.Prelude.{◌≡◌, ◌≤◌, ◌+◌, ◌*◌, ℕ, false, List, [], length}
use Rattle.cmark_tree.specs.Forest.{Forest, size}
use Rattle.cmark_tree.specs.Building.{Is}
use Rattle.cmark_grammar.specs.Answers.{Lookup}
use Rattle.cmark_grammar.specs.Derivation.{Derives}
use Rattle.cmark_block_model.specs.DocumentModel.{document}
use Rattle.cmark_block_model.specs.DrawnDocument.{settled, without_definitions}
use Rattle.cmark_grammar.specs.Labels.{fold}
use Rattle.cmark_grammar.specs.Options.{Options}
use Rattle.cmark_block_model.specs.Ranges.{count_tables}
use Rattle.cmark_grammar.specs.References.{first_with, references}
use Rattle.cmark_grammar.specs.SpanDocuments.{footnote_labels}
use Rattle.cmark_items.specs.declared.item.Item.{Item}
use Rattle.cmark_references.specs.Definitions.{reference_at}
use Rattle.cmark_items.specs.ItemNodes.{shown_forest, nodes_of}
use Rattle.cmark_block_model.specs.BlockPass.{pass_over}
use Rattle.cmark_blocks.specs.declared.first_pass.FirstPass.{FirstPass}
use Rattle.cmark_blocks.specs.Footnotes.{HasLabels}

-- The result of the block pass:
--
-- - drawn, tree_is: the tree is the drawing of the pass over the text, and no node is open;
-- - derived: the text derives the document;
-- - settles: with the paragraphs of tight lists settled, the drawing is this document without its link reference definitions;
-- - few: there are at most four nodes for each byte, besides the filled cells of tables;
-- - references: the table has the document's definitions, the first of each label, in the spelling of that definition;
-- - footnotes: the table has the labels of the document's footnotes, each without a use
pub record Leaves (text : List ℕ) (options : Options) (lookup : Lookup) (pass : FirstPass) : Type 0 where
  pub forest : Forest Item
  pub tree_is : Is pass.tree forest []
  pub drawn : shown_forest text pass.allocations.texts forest ≡ nodes_of (pass_over text options lookup).drawing.here
  pub derived : Derives text options lookup (document text options lookup)
  pub settles : settled false (pass_over text options lookup).drawing.here ≡ without_definitions (document text options lookup)
  pub few : size forest ≤ 4 * length text + 262144 * count_tables (document text options lookup)
  pub references : (folded : List ℕ) → reference_at pass.allocations.references folded ≡ first_with fold folded (references (document text options lookup))
  pub footnotes : HasLabels (footnote_labels (document text options lookup)) pass.allocations.footnotes
