-- The marks that the searches for markup in one text share: each is for a kind whose closer was not found.
use Rattle.std.specs.Prelude.{◌≡◌, ℕ, ◌+◌, ◌-◌, ◌<◌, ◌≤◌, true, nat_lt, if◌then◌else◌, List, ◌∷◌, ◌++◌, drop, length, min, codes, IfSome, Option, Some, None}
use Rattle.cmark_grammar.specs.InlineHtml.{Find, after_comment}
use Rattle.cmark_grammar.specs.Letters.{after_first_of, first_is, is_letter, starts}
use Rattle.cmark_scan_bytes.specs.declared.inline_html.HtmlFind.{HtmlFind}
use Rattle.cmark_scan_bytes.specs.declared.inline_html.HtmlScanGuard.{HtmlScanGuard}
use Rattle.cmark_scan_bytes.specs.declared.inline_html.MarkupKind.{MarkupKind}
use Rattle.cmark_scan_bytes.specs.declared.inline_html.MarkupKind.TheVariants as kind

-- a search from a place of the bytes stays within them. It passed the bytes up to the end that it found
pub record ReachesWithin (bytes : List ℕ) (at : ℕ) (find : HtmlFind) : Type 0 where
  pub within : IfSome find.end (λ end. (at ≤ end) × (end ≤ length bytes))
  pub passed : IfSome find.end (λ end. at + find.passed ≡ end)
  pub few : at + find.passed ≤ length bytes

-- ## Kinds

-- the markup that `<!` opens, if any
abbrev pub kind_in : List ℕ → Option MarkupKind
kind_in bs =
    if starts (codes "--") bs then Some kind.Comment
    else if first_is is_letter bs then Some kind.Declaration
    else if starts (codes "[CDATA[") bs then Some kind.Cdata
    else None

-- markup of this kind opens at the beginning, and these are the bytes inside it
abbrev pub OpensWith : MarkupKind → (bs inside : List ℕ) → Type 0
OpensWith kind.Comment bs inside = bs ≡ codes "--" ++ inside
OpensWith kind.Processing bs inside = bs ≡ inside
OpensWith kind.Declaration bs inside = (letter : ℕ) × (is_letter letter ≡ true) × (bs ≡ letter ∷ inside)
OpensWith kind.Cdata bs inside = bs ≡ codes "[CDATA[" ++ inside

-- the bytes after the closer of the opened markup, if it is closed
abbrev pub closed_by : MarkupKind → (inside : List ℕ) → Option (List ℕ)
closed_by kind.Comment inside = after_comment inside
closed_by kind.Processing inside = after_first_of (codes "?>") inside
closed_by kind.Declaration inside = after_first_of (codes ">") inside
closed_by kind.Cdata inside = after_first_of (codes "]]>") inside

abbrev pub closer_of : MarkupKind → List ℕ
closer_of kind.Comment = codes "-->"
closer_of kind.Processing = codes "?>"
closer_of kind.Declaration = codes ">"
closer_of kind.Cdata = codes "]]>"

-- ## Marks

abbrev pub mark_of : HtmlScanGuard → MarkupKind → ℕ
mark_of guard kind.Comment = guard.comment
mark_of guard kind.Processing = guard.processing
mark_of guard kind.Declaration = guard.declaration
mark_of guard kind.Cdata = guard.cdata

abbrev pub marked : MarkupKind → (place : ℕ) → HtmlScanGuard → HtmlScanGuard
marked kind.Comment place guard = record guard { comment = place }
marked kind.Processing place guard = record guard { processing = place }
marked kind.Declaration place guard = record guard { declaration = place }
marked kind.Cdata place guard = record guard { cdata = place }

-- if the mark of a kind is beyond a place of the bytes, no closer of that kind follows the place
pub record AreMarks (bytes : List ℕ) (at : ℕ) (guard : HtmlScanGuard) : Type 0 where
  pub cdata : at < guard.cdata → after_first_of (codes "]]>") (drop at bytes) ≡ None
  pub processing : at < guard.processing → after_first_of (codes "?>") (drop at bytes) ≡ None
  pub declaration : at < guard.declaration → after_first_of (codes ">") (drop at bytes) ≡ None
  pub comment : at < guard.comment → after_first_of (codes "-->") (drop at bytes) ≡ None

pub record AreWithin (size : ℕ) (guard : HtmlScanGuard) : Type 0 where
  pub cdata : guard.cdata ≤ size
  pub processing : guard.processing ≤ size
  pub declaration : guard.declaration ≤ size
  pub comment : guard.comment ≤ size

-- ## Searches

-- the search from a place at which this kind opens: if its mark is beyond the place, at most seven bytes are passed
abbrev pub guarded : HtmlScanGuard → Option MarkupKind → (bytes : List ℕ) → (at : ℕ) → Find → Find
guarded guard None bytes at find = find
guarded guard (Some kind) bytes at find = if nat_lt at (mark_of guard kind) then record { end = None; passed = min (length bytes - at) 7 } else find

-- if the mark of a kind is before the end `size`, another search for its closer may pass `width` bytes in vain
abbrev pub may_pass_by : (width size mark : ℕ) → ℕ
may_pass_by width size mark = if nat_lt mark size then width else 0

abbrev pub may_pass : (width size : ℕ) → HtmlScanGuard → ℕ
may_pass width size guard = may_pass_by width size guard.cdata + may_pass_by width size guard.processing + may_pass_by width size guard.declaration + may_pass_by width size guard.comment
