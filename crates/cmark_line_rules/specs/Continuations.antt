-- The code and HTML blocks of this crate, as those of the grammar.
use Rattle.std.specs.Prelude.{ℕ, ◌&&◌, nat_le, if◌then◌else◌, List}
use Rattle.cmark_grammar.specs.Rows.{Row, indent_of, words_of}
use Rattle.cmark_grammar.specs.Leaves as grammar
use Rattle.cmark_block_model.specs.BlocksByLine as grammar_lines
use Rattle.cmark_scan_lines.specs.HtmlLines.{kind_number}
use Rattle.cmark_scan_lines.specs.LeafLines.{closes_with}
use Rattle.cmark_line_rules.specs.declared.continuation.CodeOrHtml.{CodeOrHtml}
use Rattle.cmark_line_rules.specs.declared.continuation.CodeOrHtml.TheVariants.{Indented, Fenced, Html}
use Rattle.cmark_line_rules.specs.declared.continuation.Continuation.{Continuation}
use Rattle.cmark_line_rules.specs.declared.continuation.Continuation.TheVariants.{GoesOn, Closes, Waits, Stops}

-- the block, whose fence has this info string
abbrev pub shown_code_or_html : (info : List ℕ) → CodeOrHtml → grammar_lines.Verbatim
shown_code_or_html info Indented = grammar_lines.Indented
shown_code_or_html info (Fenced delimiter run_length indent) = grammar_lines.Fenced (record { indented = indent; delimiter = delimiter; run_length = run_length; info = info })
shown_code_or_html info (Html kind) = grammar_lines.HtmlLines (kind_number kind)

abbrev pub shown_continuation : Continuation → grammar.Continuation
shown_continuation GoesOn = grammar.GoesOn
shown_continuation Closes = grammar.Closes
shown_continuation Waits = grammar.Waits
shown_continuation Stops = grammar.Stops

-- the effect of a line on code in a fence of `run_length` of this byte
abbrev pub fenced_continuation : (delimiter run_length : ℕ) → Row → grammar.Continuation
fenced_continuation delimiter run_length r = if nat_le (indent_of r) 3 && closes_with delimiter run_length (words_of r) then grammar.Closes else grammar.GoesOn
