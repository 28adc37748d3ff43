use Rattle.std.proofs.Common.{refl, sym, arith}
use Rattle.std.proofs.lemmas.Grind.{common_steps}
use Rattle.std.specs.Prelude.{codes}
use Rattle.cmark_scan_lines.proofs.MarkerSteps.{tag-plain, tag-begins}
use Rattle.cmark_scan_lines.proofs.marker.scan_alert.Goals as goal

pub returns-then-is_tag-3-clause-plain : goal.returns-then-is_tag-3-clause-plain
returns-then-is_tag-3-clause-plain c = tag-plain (codes "[!important]") c.args.line.now (tag-begins (codes "[!important]") c.args.line.now (sym c.if-is_tag-3.ensures.value)) refl

pub returns-then-is_tag-4-clause-plain : goal.returns-then-is_tag-4-clause-plain
returns-then-is_tag-4-clause-plain c = tag-plain (codes "[!warning]") c.args.line.now (tag-begins (codes "[!warning]") c.args.line.now (sym c.if-is_tag-4.ensures.value)) refl

pub returns-then-is_tag-5-clause-plain : goal.returns-then-is_tag-5-clause-plain
returns-then-is_tag-5-clause-plain c = tag-plain (codes "[!caution]") c.args.line.now (tag-begins (codes "[!caution]") c.args.line.now (sym c.if-is_tag-5.ensures.value)) refl

pub returns-else-is_tag-5-clause-blank : goal.returns-else-is_tag-5-clause-blank
returns-else-is_tag-5-clause-blank c = grind (arith, common_steps)

pub returns-then-is_tag-2-clause-plain : goal.returns-then-is_tag-2-clause-plain
returns-then-is_tag-2-clause-plain c = grind (arith, common_steps)

pub returns-then-is_tag-clause-plain : goal.returns-then-is_tag-clause-plain
returns-then-is_tag-clause-plain c = grind (arith, common_steps)

pub returns-then-is_tag-2-clause-blank : goal.returns-then-is_tag-2-clause-blank
returns-then-is_tag-2-clause-blank c = grind (arith, common_steps)

pub returns-then-is_tag-clause-blank : goal.returns-then-is_tag-clause-blank
returns-then-is_tag-clause-blank c = grind (arith, common_steps)
