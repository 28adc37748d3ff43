use Rattle.std.proofs.Common.{◌≡◌, map, take}
use Rattle.cmark_values.specs.Shown.{shown_alignment}
use Rattle.cmark_json.specs.EventData.{alignment_data}
use Rattle.serde_json.specs.View.{view}
use Rattle.cmark_json.proofs.leaf.alignments.Given as goal

abbrev pub invariant-loop-column : goal.invariant-loop-column
invariant-loop-column l = map view l.values.items ≡ map (λ t. alignment_data (shown_alignment t)) (take l.column-index l.columns)
