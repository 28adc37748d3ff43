-- The safe HTML of a text.
use Rattle.std.specs.Prelude.{ℕ, List}
use Rattle.cmark_grammar.specs.Answers.{Lookup}
use Rattle.cmark_grammar.specs.Options.{Options}
use Rattle.cmark_parser.specs.Rendering.{IsSafeHtmlOf}
use Rattle.cmark_safe.specs.SafeHtml.{IsSafe}

-- the output is safe, and is the HTML of the safe forms of the text's events, with these further schemes
pub record IsSafeAnswer (text : List ℕ) (options : Options) (lookup : Lookup) (further output : List ℕ) : Type 0 where
  pub is_safe : IsSafe further output
  pub is_html : IsSafeHtmlOf text options lookup further output
