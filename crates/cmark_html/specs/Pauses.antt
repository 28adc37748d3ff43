-- The state of a paused writer as a state of the definition of HTML.
use Rattle.std.specs.Prelude.{[], None}
use Rattle.cmark_grammar.specs.Html as html
use Rattle.cmark_html.specs.Writer.{shown_table}
use Rattle.cmark_html.specs.declared.pause.Pause.{Pause}

abbrev pub paused : Pause → html.Writing
paused pause = record { line_start = pause.line_start; image = None; in_metadata = pause.in_metadata; table = shown_table pause.table; names = [] }
