-- The data with which all leaves of a source are read (CommonMark 4.7 for the definitions; the callback is this profile's own).
use Rattle.std.specs.Prelude.{ℕ, Bool, List, Option}
use Rattle.cmark_grammar.specs.Answers.{Lookup}
use Rattle.cmark_grammar.specs.BlockDocument.{Reference}
use Rattle.cmark_grammar.specs.Options.{Options}

-- the bytes of the source, the options, and the text of each entity. Definition: the first definition of each folded label (CommonMark
-- 4.7). Has_footnote: whether a footnote has the folded label. Has_callback: whether there is a callback for labels without a definition
pub record Reader : Type 0 where
  pub source : List ℕ
  pub options : Options
  pub lookup : Lookup
  pub definition : (folded : List ℕ) → Option Reference
  pub has_footnote : (folded : List ℕ) → Bool
  pub has_callback : Bool
