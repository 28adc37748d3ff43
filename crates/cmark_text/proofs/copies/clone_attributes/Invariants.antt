use Rattle.std.proofs.Common.{◌≡◌, map, take}
use Rattle.cmark_values.specs.Shown.{shown_attribute}
use Rattle.cmark_text.proofs.copies.clone_attributes.Given as goal

abbrev pub invariant-loop-attribute : goal.invariant-loop-attribute
invariant-loop-attribute l = map shown_attribute l.copies.items ≡ map shown_attribute (take l.attribute-index l.attributes)
