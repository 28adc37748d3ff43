use Rattle.std.proofs.Common.{sym, subst}
use Rattle.std.proofs.lemmas.Result.{on_ok_weaker}
use Rattle.cmark_grammar.specs.Leaves.{counted, code_continuation}
use Rattle.cmark_grammar.specs.HtmlBlocks.{html_lines}
use Rattle.cmark_grammar.specs.Leaves.{fence_continuation}
use Rattle.cmark_grammar.specs.Rows.{words_of}
use Rattle.cmark_values.specs.Shown.{shown_options}
use Rattle.cmark_line_rules.specs.Rests.{row_of}
use Rattle.cmark_scan_lines.specs.HtmlLines.{kind_number}
use Rattle.cmark_scan_lines.specs.LeafLines.{shown_fence}
use Rattle.cmark_block_model.specs.BlockPass.{ahead_in}
use Rattle.cmark_blocks.specs.Ahead.{lines_at}
use Rattle.cmark_blocks.specs.Entered.{BeginsAs}
use Rattle.cmark_blocks.proofs.LineSteps.{heading-level}
use Rattle.cmark_blocks.proofs.state.Pass.begin_leaf.Goals as goal

pub begin_heading-requires-clause-level : goal.begin_heading-requires-clause-level
begin_heading-requires-clause-level g c = heading-level (shown_options c.args.self.now.options) (row_of c.args.rest) c.args.opening c.in-AtxHeading.level c.requires.opens c.in-AtxHeading.is

pub returns-in-Blank-clause-runs : goal.returns-in-Blank-clause-runs
returns-in-Blank-clause-runs g c =
    subst (λ o. BeginsAs g.E.EntityLookup.replacement o c.args.bare c.args.rest c.args.self.now c.pass_blank_line.new.self) (sym c.in-Blank.is)
    (λ text options lookup m inside runs. c.pass_blank_line.ensures.runs text options lookup m runs)

pub returns-in-IndentedCode-clause-runs : goal.returns-in-IndentedCode-clause-runs
returns-in-IndentedCode-clause-runs g c =
    on_ok_weaker c.begin_indented.result
    (λ begins. subst (λ o. BeginsAs g.E.EntityLookup.replacement o c.args.bare c.args.rest c.args.self.now c.begin_indented.new.self) (sym c.in-IndentedCode.is)
    (λ text options lookup m inside runs. begins (counted code_continuation (ahead_in text options lookup m.outer (lines_at text (row_of c.args.rest).line_end))) text options lookup m (ahead_in text options lookup m.outer (lines_at text (row_of c.args.rest).line_end)) runs))
    c.begin_indented.ensures.runs

pub returns-in-Html-clause-runs : goal.returns-in-Html-clause-runs
returns-in-Html-clause-runs g c =
    on_ok_weaker c.begin_html.result
    (λ begins. subst (λ o. BeginsAs g.E.EntityLookup.replacement o c.args.bare c.args.rest c.args.self.now c.begin_html.new.self) (sym c.in-Html.is)
    (λ text options lookup m inside runs. begins (html_lines (kind_number c.in-Html.kind) (row_of c.args.rest) (ahead_in text options lookup m.outer (lines_at text (row_of c.args.rest).line_end))) text options lookup m (ahead_in text options lookup m.outer (lines_at text (row_of c.args.rest).line_end)) runs))
    c.begin_html.ensures.runs

pub returns-in-ThematicBreak-clause-runs : goal.returns-in-ThematicBreak-clause-runs
returns-in-ThematicBreak-clause-runs g c =
    on_ok_weaker c.begin_thematic_break.result
    (λ begins. subst (λ o. BeginsAs g.E.EntityLookup.replacement o c.args.bare c.args.rest c.args.self.now c.begin_thematic_break.new.self) (sym c.in-ThematicBreak.is)
    (λ text options lookup m inside runs. begins text options lookup m (ahead_in text options lookup m.outer (lines_at text (row_of c.args.rest).line_end)) runs))
    c.begin_thematic_break.ensures.runs

pub returns-in-AtxHeading-clause-runs : goal.returns-in-AtxHeading-clause-runs
returns-in-AtxHeading-clause-runs g c =
    on_ok_weaker c.begin_heading.result
    (λ begins. subst (λ o. BeginsAs g.E.EntityLookup.replacement o c.args.bare c.args.rest c.args.self.now c.begin_heading.new.self) (sym c.in-AtxHeading.is)
    (λ text options lookup m inside runs. begins text options lookup m (ahead_in text options lookup m.outer (lines_at text (row_of c.args.rest).line_end)) runs))
    c.begin_heading.ensures.runs

pub returns-in-FencedCode-clause-runs : goal.returns-in-FencedCode-clause-runs
returns-in-FencedCode-clause-runs g c =
    on_ok_weaker c.begin_fenced.result
    (λ begins. subst (λ o. BeginsAs g.E.EntityLookup.replacement o c.args.bare c.args.rest c.args.self.now c.begin_fenced.new.self) (sym c.in-FencedCode.is)
    (λ text options lookup m inside runs. begins (counted (fence_continuation (shown_fence c.in-FencedCode.indent (words_of (row_of c.args.rest)) c.in-FencedCode.fence)) (ahead_in text options lookup m.outer (lines_at text (row_of c.args.rest).line_end))) text options lookup m (ahead_in text options lookup m.outer (lines_at text (row_of c.args.rest).line_end)) runs))
    c.begin_fenced.ensures.runs

pub returns-in-Plain-clause-runs : goal.returns-in-Plain-clause-runs
returns-in-Plain-clause-runs g c =
    on_ok_weaker c.begin_text.result
    (λ begins. subst (λ o. BeginsAs g.E.EntityLookup.replacement o c.args.bare c.args.rest c.args.self.now c.begin_text.new.self) (sym c.in-Plain.is)
    (λ text options lookup m inside runs. begins text options lookup m inside c.args.bare runs))
    c.begin_text.ensures.runs

pub returns-in-Bracket-clause-runs : goal.returns-in-Bracket-clause-runs
returns-in-Bracket-clause-runs g c =
    on_ok_weaker c.begin_bracket.result
    (λ begins. subst (λ o. BeginsAs g.E.EntityLookup.replacement o c.args.bare c.args.rest c.args.self.now c.begin_bracket.new.self) (sym c.in-Bracket.is)
    (λ text options lookup m inside runs. begins text options lookup m inside c.args.bare runs))
    c.begin_bracket.ensures.runs
