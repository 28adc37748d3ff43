-- Alerts: block quotes whose first line is a tag such as `[!NOTE]` (this profile's own).
use Rattle.std.specs.Prelude.{ℕ, Bool, ◌==◌, ◌&&◌, if◌then◌else◌, List, length, drop, map, codes, Option, Some, None}
use Rattle.cmark_grammar.specs.Rows.{Row, indent_of, words_of}
use Rattle.cmark_grammar.specs.Leaves.{are_blank}
use Rattle.cmark_grammar.specs.HtmlBlocks.{lower, starts}
use Rattle.cmark_grammar.specs.BlockQuoteKind.{BlockQuoteKind, Note, Tip, Important, Warning, Caution}
use Rattle.cmark_grammar.specs.Options.{Options}

-- the tag with its letters in any case, and then only spaces and tabs
abbrev pub is_tag : (tag bs : List ℕ) → Bool
is_tag tag bs = starts tag (map lower bs) && are_blank (drop (length tag) bs)

-- the kind of the alert whose tag these bytes are, if they are one
abbrev pub alert_of : List ℕ → Option BlockQuoteKind
alert_of bs =
    if is_tag (codes "[!note]") bs then Some Note
    else if is_tag (codes "[!tip]") bs then Some Tip
    else if is_tag (codes "[!important]") bs then Some Important
    else if is_tag (codes "[!warning]") bs then Some Warning
    else if is_tag (codes "[!caution]") bs then Some Caution
    else None

-- the kind of the alert that a block quote is, if the option asks for alerts: the block quote's first line, after its marker, is a tag. No
-- space or tab precedes the tag (this profile's own). Example: `> [!NOTE]`
abbrev pub alert_in : Options → Row → Option BlockQuoteKind
alert_in options r = if options.gfm && (indent_of r == 0) then alert_of (words_of r) else None
