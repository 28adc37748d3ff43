use Rattle.std.proofs.Common.{sym, ap, ◌∙◌}
use Rattle.cmark_values.specs.Shown.{shown_options}
use Rattle.cmark_grammar.specs.Letters.{first_is}
use Rattle.cmark_line_rules.specs.Rests.{row_of}
use Rattle.cmark_line_rules.specs.Starts.{is_letter_or_pipe}
use Rattle.cmark_line_rules.proofs.PlainRows.{plain-interrupts-not}
use Rattle.cmark_line_rules.proofs.interrupt.interrupts.Goals as goal

pub returns-then-begins_with_letter_or_pipe : goal.returns-then-begins_with_letter_or_pipe
returns-then-begins_with_letter_or_pipe c ahead =
    sym (plain-interrupts-not (shown_options c.args.options) c.args.same (row_of c.args.rest) ahead
    (ap (first_is is_letter_or_pipe) (sym c.words-words.ensures) ∙ sym c.begins_with_letter_or_pipe.ensures ∙ c.if-begins_with_letter_or_pipe.true))
