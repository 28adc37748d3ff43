-- Lists of parts, joined, and cut at an opening bracket that is a text.
use Rattle.std.specs.Prelude.{ℕ, ◌==◌, if◌then◌else◌, Option, Some, None}
use Rattle.cmark_grammar.specs.Items.{Bracket}
use Rattle.cmark_grammar.specs.Parts.{Parts, Nil, Single, Form, Closing, Opening, openings}

-- the second list after the first
abbrev pub join : Parts → Parts → Parts
join Nil other = other
join (Single item after) other = Single item (join after other)
join (Form opener inside closer formed after) other = Form opener inside closer formed (join after other)
join (Closing closer after) other = Closing closer (join after other)
join (Opening opener after) other = Opening opener (join after other)

-- the parts before an opening bracket that is a text, the bracket, and the parts after it
pub record Cut : Type 0 where
  pub before : Parts
  pub opener : Bracket
  pub inside : Parts

abbrev pub following : Parts → Option Cut → Option Cut
following piece None = None
following piece (Some cut) = Some (record { before = join piece cut.before; opener = cut.opener; inside = cut.inside })

-- cut at the opening bracket after which there are `nearer` others
abbrev pub cut_at : (nearer : ℕ) → Parts → Option Cut
cut_at nearer Nil = None
cut_at nearer (Single item after) = following (Single item Nil) (cut_at nearer after)
cut_at nearer (Form opener inside closer formed after) = following (Form opener inside closer formed Nil) (cut_at nearer after)
cut_at nearer (Closing closer after) = following (Closing closer Nil) (cut_at nearer after)
cut_at nearer (Opening opener after) =
    if openings after == nearer then Some (record { before = Nil; opener = opener; inside = after }) else following (Opening opener Nil) (cut_at nearer after)
