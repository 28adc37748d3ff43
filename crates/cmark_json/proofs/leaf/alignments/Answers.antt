use Rattle.std.proofs.Common.{ap, ◌∙◌}
use Rattle.cmark_values.specs.Shown.{shown_alignment}
use Rattle.cmark_json.specs.EventData.{alignment_data}
use Rattle.serde_json.specs.Data.{array}
use Rattle.serde_json.specs.View.{items_of}
use Rattle.serde_json.proofs.Views.{view-Array}
use Rattle.cmark_json.proofs.ListSteps.{all_made}
use Rattle.cmark_json.proofs.leaf.alignments.Goals as goal

pub returns : goal.returns
returns c = view-Array c.loop-column.values ∙ ap (λ l. array (items_of l)) (all_made alignment_data shown_alignment c.args.columns.now c.loop-column.column-index c.loop-column.values.items c.loop-column-test.false c.loop-column.invariant)
