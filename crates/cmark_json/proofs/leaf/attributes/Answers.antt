use Rattle.std.proofs.Common.{ap, ◌∙◌}
use Rattle.cmark_values.specs.Shown.{shown_attribute}
use Rattle.cmark_json.specs.EventData.{attribute_data}
use Rattle.serde_json.specs.Data.{array}
use Rattle.serde_json.specs.View.{items_of}
use Rattle.serde_json.proofs.Views.{view-Array}
use Rattle.cmark_json.proofs.ListSteps.{all_made}
use Rattle.cmark_json.proofs.leaf.attributes.Goals as goal

pub returns : goal.returns
returns c = view-Array c.loop-attribute.values ∙ ap (λ l. array (items_of l)) (all_made attribute_data shown_attribute c.args.attributes.now c.loop-attribute.attribute-index c.loop-attribute.values.items c.loop-attribute-test.false c.loop-attribute.invariant)
