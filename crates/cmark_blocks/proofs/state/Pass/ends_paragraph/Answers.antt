use Rattle.std.proofs.Common.{not, ◌&&◌, sym, ap, ◌∙◌, option_map}
use Rattle.cmark_grammar.specs.Openings.{is_none, texts}
use Rattle.cmark_line_rules.specs.Rests.{row_of}
use Rattle.cmark_values.specs.Shown.{level_number}
use Rattle.cmark_blocks.specs.Ahead.{lines_at}
use Rattle.cmark_blocks.proofs.state.Pass.ends_paragraph.Goals as goal

pub returns-in-Some : goal.returns-in-Some
returns-in-Some g c text options lookup m runs =
    let r = row_of c.args.line in
    ap (λ u. is_none u && not (texts options r (lines_at text r.line_end))) (ap (option_map level_number) (sym c.in-Some.is) ∙ c.underlines.ensures)

pub returns-in-None : goal.returns-in-None
returns-in-None g c text options lookup m runs =
    let r = row_of c.args.line in
    c.ends_text.ensures text options lookup m runs
    ∙ ap (λ u. is_none u && not (texts options r (lines_at text r.line_end))) (ap (option_map level_number) (sym c.in-None.is) ∙ c.underlines.ensures)
