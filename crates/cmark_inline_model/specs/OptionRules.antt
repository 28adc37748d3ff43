-- The items and events that are read only if an option is on.
use Rattle.std.specs.Prelude.{◌≡◌, true, List, [], ◌∷◌}
use Rattle.cmark_grammar.specs.Event.{Event, Start, End, InlineMath as InlineMathEvent, DisplayMath as DisplayMathEvent, FootnoteReference as FootnoteEvent, Ranged}
use Rattle.cmark_grammar.specs.Flanking.{is_delimiter_run}
use Rattle.cmark_grammar.specs.Items.{ItemKind, Quoted, Delimiters, Autolink, InlineMath, DisplayMath, FootnoteReference}
use Rattle.cmark_grammar.specs.LinkType.{LinkType, Email}
use Rattle.cmark_grammar.specs.Options.{Options}
use Rattle.cmark_grammar.specs.Parts.{Parts, Nil, Single, Form, Closing, Opening}
use Rattle.cmark_grammar.specs.Siblings.{address_type}
use Rattle.cmark_grammar.specs.Tag.{Tag, Strikethrough, Superscript, Subscript, Highlight, Link}
use Rattle.cmark_grammar.specs.TagEnd as end
use Rattle.cmark_grammar.specs.TagEnd.{TagEnd}

-- a link to an email address needs email autolinks (CommonMark 6.5)
abbrev pub IsLinkGiven : Options → LinkType → Type 0
IsLinkGiven options Email = options.email_autolinks ≡ true
IsLinkGiven options _ = Unit {0}

-- a quote needs smart punctuation, a formula math, and a footnote reference footnotes. A run of `~`, `^` or `=` has to be a delimiter run
-- under strikethrough, subscript, superscript or highlight (GFM 6.5, and this profile's own)
abbrev pub IsRead : Options → ItemKind → Type 0
IsRead options (Quoted quote) = options.smart_punctuation ≡ true
IsRead options (InlineMath text) = options.math ≡ true
IsRead options (DisplayMath text) = options.math ≡ true
IsRead options (FootnoteReference label) = options.footnotes ≡ true
IsRead options (Autolink address) = IsLinkGiven options (address_type address)
IsRead options (Delimiters run) = is_delimiter_run options run.delimiter run.run_length ≡ true
IsRead options _ = Unit {0}

-- P holds of each item of these parts
abbrev pub AllItems : (ItemKind → Type 0) → Parts → Type 0
AllItems Holds Nil = Unit {0}
AllItems Holds (Single item after) = Holds item.kind × AllItems Holds after
AllItems Holds (Form opener inside closer formed after) = AllItems Holds inside × AllItems Holds after
AllItems Holds (Closing closer after) = AllItems Holds after
AllItems Holds (Opening opener after) = AllItems Holds after

-- strikethrough, superscripts, subscripts and highlights need their options (GFM 6.5, and this profile's own)
abbrev pub IsTagGiven : Options → Tag → Type 0
IsTagGiven options Strikethrough = options.strikethrough ≡ true
IsTagGiven options Superscript = options.superscript ≡ true
IsTagGiven options Subscript = options.subscript ≡ true
IsTagGiven options Highlight = options.highlight ≡ true
IsTagGiven options (Link linked) = IsLinkGiven options linked.link_type
IsTagGiven options _ = Unit {0}

abbrev pub IsEndGiven : Options → TagEnd → Type 0
IsEndGiven options end.Strikethrough = options.strikethrough ≡ true
IsEndGiven options end.Superscript = options.superscript ≡ true
IsEndGiven options end.Subscript = options.subscript ≡ true
IsEndGiven options end.Highlight = options.highlight ≡ true
IsEndGiven options _ = Unit {0}

-- a formula needs math, and a footnote reference footnotes (both this profile's own)
abbrev pub IsGiven : Options → Event → Type 0
IsGiven options (Start tag) = IsTagGiven options tag
IsGiven options (End tag_end) = IsEndGiven options tag_end
IsGiven options (InlineMathEvent text) = options.math ≡ true
IsGiven options (DisplayMathEvent text) = options.math ≡ true
IsGiven options (FootnoteEvent label) = options.footnotes ≡ true
IsGiven options _ = Unit {0}

abbrev pub AreGiven : Options → List Ranged → Type 0
AreGiven options [] = Unit {0}
AreGiven options (r ∷ rs) = IsGiven options r.event × AreGiven options rs
