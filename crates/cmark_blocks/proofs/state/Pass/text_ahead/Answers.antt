use Rattle.std.proofs.Common.{◌≤◌, true, false, ◌&&◌, not, length, refl, sym, ap, ◌∙◌, arith}
use Rattle.cmark_grammar.specs.Leaves.{underlines}
use Rattle.cmark_grammar.specs.Openings.{interrupts, is_none, text_lines}
use Rattle.cmark_blocks.specs.TablesAhead.{block_interrupts}
use Rattle.cmark_line_rules.specs.Rests.{row_of}
use Rattle.cmark_line_rules.proofs.RestSteps.{whole}
use Rattle.cmark_block_model.specs.BlockPass.{ahead_in}
use Rattle.cmark_blocks.specs.Ahead.{lines_at}
use Rattle.cmark_blocks.proofs.AheadSteps.{text-if}
use Rattle.cmark_blocks.proofs.InsideSteps.{in_text-inside}
use Rattle.cmark_blocks.proofs.state.Pass.text_ahead.Goals as goal
use Rattle.cmark_blocks.proofs.state.Pass.text_ahead.Goals.{else-is_text-via-then-is_text+else-not-block_interrupts, else-is_text-via-else-is_text}

pub returns-then-not-block_interrupts-clause-next : goal.returns-then-not-block_interrupts-clause-next
returns-then-not-block_interrupts-clause-next g c text options lookup m runs =
    let rest = c.in_ok-rest.rest in
    let cs = c.args.self.now.outer.items in
    let next = lines_at text (row_of rest).line_end in
    let ahead = ahead_in text options lookup m.outer next in
    let all : length cs ≤ c.len.result = omega (arith, c.len.ensures, c.args.self.now.outer.ok.0) in
    ap (text_lines options) (c.in_ok-rest.ensures.next text options lookup m runs)
    ∙ text-if text options lookup (row_of rest) ahead (whole rest) true false (sym c.if-is_text.true ∙ c.is_text.ensures ahead ∙ ap (λ o. not (interrupts o true (row_of rest) ahead) && is_none (underlines (row_of rest))) runs.options_is)
    (in_text-inside text options lookup cs m.outer c.len.result (row_of rest) next false runs.outer all (sym c.if-not-block_interrupts.true ∙ c.block_interrupts.ensures text options lookup m runs))

pub returns-else-is_text-clause-next : goal.returns-else-is_text-clause-next
returns-else-is_text-clause-next g c text options lookup m runs =
    let rest = c.in_ok-rest.rest in
    let cs = c.args.self.now.outer.items in
    let next = lines_at text (row_of rest).line_end in
    let ahead = ahead_in text options lookup m.outer next in
    ap (text_lines options) (c.in_ok-rest.ensures.next text options lookup m runs)
    ∙ elim c.else-is_text.branch [
      | else-is_text-via-then-is_text+else-not-block_interrupts w ↦
          (let all : length cs ≤ w.len.result = omega (arith, w.len.ensures, c.args.self.now.outer.ok.0) in
          text-if text options lookup (row_of rest) ahead (whole rest) true true (sym w.if-is_text.true ∙ c.is_text.ensures ahead ∙ ap (λ o. not (interrupts o true (row_of rest) ahead) && is_none (underlines (row_of rest))) runs.options_is)
          (in_text-inside text options lookup cs m.outer w.len.result (row_of rest) next true runs.outer all (sym w.if-not-block_interrupts.false ∙ w.block_interrupts.ensures text options lookup m runs)))
      | else-is_text-via-else-is_text w ↦ text-if text options lookup (row_of rest) ahead (whole rest) false (block_interrupts options (row_of rest) ahead) (sym w.if-is_text.false ∙ c.is_text.ensures ahead ∙ ap (λ o. not (interrupts o true (row_of rest) ahead) && is_none (underlines (row_of rest))) runs.options_is) refl
    ]
