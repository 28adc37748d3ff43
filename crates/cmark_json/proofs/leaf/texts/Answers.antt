use Rattle.std.proofs.Common.{ap, ◌∙◌}
use Rattle.cmark_values.specs.Shown.{text_bytes}
use Rattle.serde_json.specs.Data.{array, string}
use Rattle.serde_json.specs.View.{items_of}
use Rattle.serde_json.proofs.Views.{view-Array}
use Rattle.cmark_json.proofs.ListSteps.{all_made}
use Rattle.cmark_json.proofs.leaf.texts.Goals as goal

pub returns : goal.returns
returns c = view-Array c.loop-text.values ∙ ap (λ l. array (items_of l)) (all_made (λ t. string t) text_bytes c.args.texts.now c.loop-text.text-index c.loop-text.values.items c.loop-text-test.false c.loop-text.invariant)
