use Rattle.std.proofs.Common.{◌≡◌, ◌++◌, map, take}
use Rattle.std.specs.List.{flat_map}
use Rattle.cmark_flat.specs.Flat.{attribute_parts}
use Rattle.cmark_flat.specs.Records.{spelled}
use Rattle.cmark_values.specs.Shown.{shown_attribute}
use Rattle.cmark_flat.proofs.put.put_attributes.Given as goal

abbrev pub invariant-loop-attribute : goal.invariant-loop-attribute
invariant-loop-attribute l = l.out.items ≡ l.fn.out.items ++ spelled (flat_map attribute_parts (map shown_attribute (take l.attribute-index l.attributes)))
