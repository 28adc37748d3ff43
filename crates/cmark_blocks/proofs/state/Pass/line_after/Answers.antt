use Rattle.std.proofs.Common.{Option, Some, None, ap, ◌∙◌, subst, take, length, arith}
use Rattle.std.specs.Prelude.{IfSome}
use Rattle.cmark_leaf_nodes.specs.TextColumns.{StandInText}
use Rattle.cmark_leaf_nodes.proofs.TextColumnSteps.{line-in_text, without-in_text}
use Rattle.cmark_line_rules.specs.Rests.{row_of}
use Rattle.cmark_line_rules.specs.declared.line_rest.LineRest.{LineRest}
use Rattle.cmark_blocks.specs.KeepingContainers.{IsAfter}
use Rattle.cmark_blocks.proofs.AheadSteps.{next-line, no-line}
use Rattle.cmark_blocks.proofs.state.Pass.line_after.Goals as goal

pub returns-then-start-self-clause-next : goal.returns-then-start-self-clause-next
returns-then-start-self-clause-next g c text options lookup m runs =
    no-line text options lookup c.line_end-start.result _ (take c.args.count m.outer) c.line_end-start.ensures.place (c.if-start-self.true ∙ ap length runs.text_is)

pub returns-clause-next : goal.returns-clause-next
returns-clause-next g c text options lookup m runs =
    next-line text options lookup c.as_bytes.result.now c.line_end-start.result _ c.new-line.result (take c.args.count m.outer) c.inside_first.result (c.as_bytes.ensures.value ∙ runs.text_is) c.line_end-start.ensures.place
    (c.new-line.ensures.further (omega (arith, c.line_end-start.ensures.within c.args.self.now.text.now c.requires.within, c.if-start-self.false, ap length c.as_bytes.ensures.value)))
    (λ more. c.inside_first.ensures.seen text options lookup m more runs)

pub returns-clause-in_text : goal.returns-clause-in_text
returns-clause-in_text g c = go c.inside_first.result c.inside_first.ensures.following
  where
    in_text : StandInText c.args.self.now.text.now (row_of c.new-line.result).columns
    in_text =
        let text = c.args.self.now.text.now in
        let bytes = c.as_bytes.result.now in
        let line = row_of c.new-line.result in
        let start = c.line_end-start.result in
        let new = c.new-line.ensures in
        let whole_line : StandInText bytes line.columns =
        line-in_text bytes start line (omega (arith, c.line_end-start.ensures.within text c.requires.within, ap length c.as_bytes.ensures.value)) new.line (λ e. ap (λ r. r.columns) (new.none e)) in
        subst (λ t. StandInText t line.columns) c.as_bytes.ensures.value whole_line

    go : (o : Option LineRest) → IfSome o (IsAfter c.new-line.result) → IfSome o (λ rest. StandInText c.args.self.now.text.now (row_of rest).columns)
    go None following = tt
    go (Some rest) following = subst (λ r. StandInText c.args.self.now.text.now r.columns) following.1.1 (without-in_text c.args.self.now.text.now following.0 (row_of c.new-line.result) in_text)
