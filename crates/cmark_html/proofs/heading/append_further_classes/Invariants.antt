use Rattle.std.proofs.Common.{◌≡◌, ◌++◌, string_bytes, flat_map, take}
use Rattle.cmark_html.proofs.FrontSteps.{class_bytes}
use Rattle.cmark_html.proofs.heading.append_further_classes.Given as goal

abbrev pub invariant-loop-name : goal.invariant-loop-name
invariant-loop-name l = string_bytes l.out ≡ string_bytes l.initial.out ++ flat_map class_bytes (take l.name-index l.names)
