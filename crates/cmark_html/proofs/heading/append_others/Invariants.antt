use Rattle.std.proofs.Common.{◌≡◌, ◌++◌, string_bytes, flat_map, take}
use Rattle.cmark_html.proofs.FrontSteps.{attribute_bytes}
use Rattle.cmark_html.proofs.heading.append_others.Given as goal

abbrev pub invariant-loop-attribute : goal.invariant-loop-attribute
invariant-loop-attribute l = string_bytes l.out ≡ string_bytes l.initial.out ++ flat_map attribute_bytes (take l.attribute-index l.attrs)
