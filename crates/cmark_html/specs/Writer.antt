-- The state of the writer as a state of the definition of HTML.
use Rattle.std.specs.Prelude.{ℕ, Bool, List, map, option_map}
use Rattle.std.specs.Cow.{cow_str_bytes}
use Rattle.cmark_grammar.specs.Html as html
use Rattle.cmark_values.specs.Shown.{text_bytes, shown_alignment}
use Rattle.cmark_html.specs.declared.names.FootnoteNames.{FootnoteNames}
use Rattle.cmark_html.specs.Names.{names_of}
use Rattle.cmark_html.specs.declared.state.OpenImage.{OpenImage}
use Rattle.cmark_html.specs.declared.state.Writer.{Writer}
use Rattle.cmark_html.specs.declared.table.TableState.{TableState}

abbrev pub shown_image : OpenImage → html.OpenImage
shown_image image = record { depth = image.depth; title = text_bytes image.title }

abbrev pub shown_table : TableState → html.TableState
shown_table table = record { in_head = table.in_head; alignments = map shown_alignment table.alignments.items; column = table.column }

abbrev pub shown_names : FootnoteNames → List (List ℕ)
shown_names names = names_of cow_str_bytes names.numbers.entries

abbrev pub writing : Writer → html.Writing
writing writer = record {
  line_start = writer.line_start;
  image = option_map shown_image writer.image;
  in_metadata = writer.in_metadata;
  table = shown_table writer.table;
  names = shown_names writer.names;
}

-- this state, but at a line start or not
abbrev pub at_start : Bool → html.Writing → html.Writing
at_start line_start w = record { line_start = line_start; image = w.image; in_metadata = w.in_metadata; table = w.table; names = w.names }

-- this state, but with these names of footnotes
abbrev pub with_names : List (List ℕ) → html.Writing → html.Writing
with_names names w = record { line_start = w.line_start; image = w.image; in_metadata = w.in_metadata; table = w.table; names = names }
