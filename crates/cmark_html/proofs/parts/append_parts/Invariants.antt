use Rattle.std.proofs.Common.{◌≡◌, ◌++◌, string_bytes, flat_map, take}
use Rattle.cmark_html.specs.Parts.{part_bytes}
use Rattle.cmark_html.proofs.parts.append_parts.Given as goal

abbrev pub invariant-loop-part : goal.invariant-loop-part
invariant-loop-part l = string_bytes l.out ≡ string_bytes l.initial.out ++ flat_map part_bytes (take l.part-index l.parts)
