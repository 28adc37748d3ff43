use Rattle.std.proofs.Common.{take, sym, ap, ◌∙◌}
use Rattle.cmark_grammar.specs.Columns.{is_blank_byte, drop_end}
use Rattle.cmark_leaf_nodes.specs.Closings.{without_attributes_bytes}
use Rattle.cmark_leaf_nodes.proofs.BraceSteps.{before-take}
use Rattle.cmark_leaf_nodes.proofs.heading.without_attributes.Goals as goal

pub returns-then-attributes-clause-value : goal.returns-then-attributes-clause-value
returns-then-attributes-clause-value c =
    let bytes = c.args.bytes.now in
    c.without_trailing_blanks.ensures.value
    ∙ ap (drop_end is_blank_byte) (ap (λ n. take n bytes) c.count_before_braces.ensures.value ∙ before-take bytes)
    ∙ sym (ap (λ a. without_attributes_bytes a bytes) c.if-attributes.true)
