use Rattle.std.proofs.Common.{◌≡◌, map}
use Rattle.cmark_values.specs.Shown.{shown_attribute}
use Rattle.cmark_text.proofs.copies.static_attributes.Given as goal

abbrev pub invariant-loop-attribute : goal.invariant-loop-attribute
invariant-loop-attribute l = map shown_attribute l.made.items ≡ map shown_attribute l.yielded
