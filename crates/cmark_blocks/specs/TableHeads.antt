-- Lines that may be the head of a table in the midst of a paragraph.
use Rattle.std.specs.Prelude.{Bool, ◌&&◌, nat_le}
use Rattle.cmark_grammar.specs.Options.{Options}
use Rattle.cmark_grammar.specs.Rows.{Row, indent_of, words_of}
use Rattle.cmark_grammar.specs.TableRows.{begins_with_pipe}

-- the line interrupts a paragraph as the head of a table, if the next line is its delimiter row
abbrev pub may_head : Options → Row → Bool
may_head options r = options.tables && (nat_le (indent_of r) 3 && begins_with_pipe (words_of r))
