-- The result of the block pass over the rest of a text, from an offset on.
use Rattle.std.specs.Prelude.{◌≡◌, ◌≤◌, ℕ, false, List, [], ◌++◌}
use Rattle.cmark_tree.specs.Forest.{Forest, size}
use Rattle.cmark_tree.specs.Building.{Is}
use Rattle.cmark_grammar.specs.Answers.{Lookup}
use Rattle.cmark_grammar.specs.BlockDocument.{Reference}
use Rattle.cmark_block_model.specs.DrawnDocument.{settled, without_definitions}
use Rattle.cmark_grammar.specs.Labels.{fold}
use Rattle.cmark_grammar.specs.Options.{Options}
use Rattle.cmark_block_model.specs.Ranges.{count_nodes}
use Rattle.cmark_grammar.specs.References.{first_with, references}
use Rattle.cmark_grammar.specs.SpanDocuments.{footnote_labels}
use Rattle.cmark_items.specs.declared.item.Item.{Item}
use Rattle.cmark_items.specs.ItemNodes.{shown_forest, nodes_of}
use Rattle.cmark_references.specs.Definitions.{reference_at}
use Rattle.cmark_references.specs.declared.definitions.RefDefs.{RefDefs}
use Rattle.cmark_block_model.specs.Tails.{document_after, pass_after}
use Rattle.cmark_blocks.specs.declared.first_pass.FirstPass.{FirstPass}
use Rattle.cmark_blocks.specs.Footnotes.{HasLabels}

-- the table has the first of these definitions with each label, in the spelling of that definition
abbrev pub HasDefinitions : List Reference → RefDefs → Type 0
HasDefinitions definitions table = (folded : List ℕ) → reference_at table folded ≡ first_with fold folded definitions

-- The result of the block pass over the lines of a text from an offset on, after earlier definitions and footnotes:
--
-- - drawn, tree_is: the tree is the drawing of the pass over these lines, and no node is open;
-- - settles: with the paragraphs of tight lists settled, the drawing is the document of these lines without its link reference definitions;
-- - few: there are no more nodes than this document has;
-- - references: the table has the earlier definitions and those of the lines, the first of each label;
-- - footnotes: the table has the earlier labels and those of the lines, each without a use
pub record LeavesRest (text : List ℕ) (from : ℕ) (options : Options) (lookup : Lookup) (earlier : List Reference) (labels : List (List ℕ)) (pass : FirstPass) : Type 0 where
  pub forest : Forest Item
  pub tree_is : Is pass.tree forest []
  pub drawn : shown_forest text pass.allocations.texts forest ≡ nodes_of (pass_after text options lookup from earlier labels).drawing.here
  pub settles : settled false (pass_after text options lookup from earlier labels).drawing.here ≡ without_definitions (document_after text options lookup from)
  pub few : size forest ≤ count_nodes (document_after text options lookup from)
  pub references : HasDefinitions (earlier ++ references (document_after text options lookup from)) pass.allocations.references
  pub footnotes : HasLabels (labels ++ footnote_labels (document_after text options lookup from)) pass.allocations.footnotes
