use Rattle.std.proofs.Common.{◌≡◌, ℕ, List, ap, sym, ◌∙◌}
use Rattle.cmark_grammar.specs.Answers.{Lookup}
use Rattle.cmark_grammar.specs.BlockDocument.{BlockDocument}
use Rattle.cmark_grammar.specs.Derivation.{Derives}
use Rattle.cmark_grammar.specs.Options.{Options}
use Rattle.cmark_grammar.specs.References.{references}
use Rattle.cmark_grammar.specs.SpanDocuments.{footnote_labels, segments}
use Rattle.cmark_block_model.proofs.BlockDocumentOne.{document-only}
use Rattle.cmark_blocks.proofs.laws.one_blocks.Goals as goal

same : (text : List ℕ) (options : Options) (lookup : Lookup) (first second : BlockDocument) → Derives text options lookup first → Derives text options lookup second → first ≡ second
same text options lookup first second one other = document-only text options lookup first one ∙ sym (document-only text options lookup second other)

pub returns-clause-nodes : goal.returns-clause-nodes
returns-clause-nodes c = same

pub returns-clause-tokens : goal.returns-clause-tokens
returns-clause-tokens c text options lookup first second one other = ap segments (same text options lookup first second one other)

pub returns-clause-references : goal.returns-clause-references
returns-clause-references c text options lookup first second one other = ap references (same text options lookup first second one other)

pub returns-clause-footnotes : goal.returns-clause-footnotes
returns-clause-footnotes c text options lookup first second one other = ap footnote_labels (same text options lookup first second one other)
