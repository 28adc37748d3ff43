use Rattle.std.proofs.Common.{not, ◌&&◌, sym, ap, ◌∙◌}
use Rattle.cmark_line_rules.specs.Rests.{row_of}
use Rattle.cmark_blocks.specs.Ahead.{lines_at}
use Rattle.cmark_blocks.specs.Cuts.{ends_all}
use Rattle.cmark_blocks.proofs.state.Pass.begins_apart.Goals as goal

pub returns-then-is_blank : goal.returns-then-is_blank
returns-then-is_blank g c text options lookup m runs =
    let r = row_of c.args.line in
    ap (λ b. not b && ends_all text options lookup m r (lines_at text r.line_end)) (sym c.if-is_blank.true ∙ c.is_blank.ensures)

pub returns : goal.returns
returns g c text options lookup m runs =
    let r = row_of c.args.line in
    c.ends_all.ensures text options lookup m runs ∙ ap (λ b. not b && ends_all text options lookup m r (lines_at text r.line_end)) (sym c.if-is_blank.false ∙ c.is_blank.ensures)
