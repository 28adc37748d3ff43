use Rattle.std.proofs.Common.{◌∙◌, subst, List, ℕ}
use Rattle.cmark_grammar.specs.Tokens.{verbatim_line, code_columns}
use Rattle.cmark_line_rules.specs.Rests.{row_of}
use Rattle.cmark_leaf_nodes.specs.Stretches.{Goes}
use Rattle.cmark_leaf_nodes.proofs.CodeSteps.{goes-both, verbatim-parts, code-row}
use Rattle.cmark_leaf_nodes.proofs.code.draw_code_line.Goals as goal

goes : (c : goal.In_ok-waits-3) (text : List ℕ) → Goes text c.args.builder.now c.add_stretch-2.new.builder c.args.waits c.in_ok-waits-3.waits (verbatim_line text (code_columns c.args.most (row_of c.args.rest)) (row_of c.args.rest))
goes c text =
    subst (Goes text c.args.builder.now c.add_stretch-2.new.builder c.args.waits c.in_ok-waits-3.waits)
    (verbatim-parts text (row_of c.without_indent_upto-rest.result) c.stretches_of.result.0 c.stretches_of.result.1 (c.stretches_of.ensures text)
    ∙ code-row c.args.most (row_of c.args.rest) (row_of c.without_indent_upto-rest.result) text c.without_indent_upto-rest.ensures.row)
    (goes-both text c.args.builder.now c.add_left_columns.new.builder c.add_stretch-2.new.builder c.args.waits c.in_ok-waits.waits c.in_ok-waits-3.waits _ _ (c.in_ok-waits.ensures.goes text)
    (goes-both text c.add_left_columns.new.builder c.add_stretch.new.builder c.add_stretch-2.new.builder c.in_ok-waits.waits c.in_ok-waits-2.waits c.in_ok-waits-3.waits _ _ (c.in_ok-waits-2.ensures.goes text) (c.in_ok-waits-3.ensures.goes text)))

pub returns-clause-drawn : goal.returns-clause-drawn
returns-clause-drawn c text d draws = (goes c text).draws d draws

pub returns-clause-waits : goal.returns-clause-waits
returns-clause-waits c text = (goes c text).left_is
