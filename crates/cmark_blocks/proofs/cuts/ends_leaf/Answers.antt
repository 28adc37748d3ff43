use Rattle.std.proofs.Common.{[], sym, ap, subst, ◌∙◌}
use Rattle.cmark_line_rules.specs.Rests.{row_of}
use Rattle.cmark_values.specs.Shown.{shown_options}
use Rattle.cmark_blocks.specs.Cuts.{stops, ends_leaf}
use Rattle.cmark_blocks.specs.Runs.{ShowsLeaf}
use Rattle.cmark_blocks.proofs.cuts.ends_leaf.Goals as goal

pub returns-in-Indented : goal.returns-in-Indented
returns-in-Indented c text blanks m shows =
    let here = subst (λ l. ShowsLeaf text l blanks m) c.in-Indented.is shows in
    c.is_stop.ensures ∙ ap stops (c.continuation.ensures []) ∙ ap (λ l. ends_leaf (shown_options c.args.options) c.args.by l (row_of c.args.line)) (sym here)

pub returns-in-Html : goal.returns-in-Html
returns-in-Html c text blanks m shows =
    let here = subst (λ l. ShowsLeaf text l blanks m) c.in-Html.is shows in
    c.is_stop-in-Html.ensures ∙ ap stops (c.continuation-in-Html.ensures []) ∙ ap (λ l. ends_leaf (shown_options c.args.options) c.args.by l (row_of c.args.line)) (sym here.0)
