use Rattle.std.proofs.Common.{◌≡◌, map, take}
use Rattle.cmark_values.specs.Shown.{shown_attribute}
use Rattle.cmark_json.specs.EventData.{attribute_data}
use Rattle.serde_json.specs.View.{view}
use Rattle.cmark_json.proofs.leaf.attributes.Given as goal

abbrev pub invariant-loop-attribute : goal.invariant-loop-attribute
invariant-loop-attribute l = map view l.values.items ≡ map (λ t. attribute_data (shown_attribute t)) (take l.attribute-index l.attributes)
