-- Tests of a code block's kind.
use Rattle.std.specs.Prelude.{Bool, true, false}
use Rattle.cmark_grammar.specs.CodeBlockKind.{CodeBlockKind, Fenced, Indented}

abbrev pub is_indented : CodeBlockKind → Bool
is_indented Indented = true
is_indented (Fenced info) = false

abbrev pub is_fenced : CodeBlockKind → Bool
is_fenced Indented = false
is_fenced (Fenced info) = true
