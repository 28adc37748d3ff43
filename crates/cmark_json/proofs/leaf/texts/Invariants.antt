use Rattle.std.proofs.Common.{◌≡◌, map, take}
use Rattle.cmark_values.specs.Shown.{text_bytes}
use Rattle.serde_json.specs.Data.{string}
use Rattle.serde_json.specs.View.{view}
use Rattle.cmark_json.proofs.leaf.texts.Given as goal

abbrev pub invariant-loop-text : goal.invariant-loop-text
invariant-loop-text l = map view l.values.items ≡ map (λ t. string (text_bytes t)) (take l.text-index l.texts)
