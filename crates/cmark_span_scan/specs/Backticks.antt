-- The table of the runs of backticks of a text.
use Rattle.std.specs.Prelude.{◌≡◌, ℕ, ◌+◌, ◌-◌, ◌*◌, ◌<◌, ◌≤◌, Bool, false, not, ◌&&◌, nat_lt, if◌then◌else◌, List, [], ◌∷◌, length, drop, get_or, Option, None, Some, is_some, IfSome}
use Rattle.cmark_grammar.specs.CodeSpans.{is_backtick, backticks}
use Rattle.cmark_span_scan.specs.declared.code.CodeSpan.{CodeSpan}
use Rattle.cmark_span_scan.specs.declared.backtick_runs.BacktickRuns.{BacktickRuns}

-- the table has a run of this length that begins at this offset, or a later one
pub record IsListed (last : List ℕ) (place size : ℕ) : Type 0 where
  pub known : size < length last
  pub following : place ≤ get_or last size 0

-- each run that begins between these offsets is listed
abbrev pub AreListed : (text last : List ℕ) → (from to : ℕ) → Type 0
AreListed text last from to =
    (place : ℕ) → from < place → place < to → is_backtick (get_or text (place - 1) 0) ≡ false → 0 < backticks (drop place text)
    → IsListed last place (backticks (drop place text))

-- a run of `size` backticks begins at an offset
pub record IsRunAt (text : List ℕ) (place size : ℕ) : Type 0 where
  pub within : place < length text
  pub some : 0 < size
  pub begins : is_backtick (get_or text (place - 1) 0) ≡ false
  pub whole : backticks (drop place text) ≡ size

-- each entry of the table that is an offset after `from` is a run of its length
abbrev pub AreReal : (text last : List ℕ) → (from : ℕ) → Type 0
AreReal text last from = (size : ℕ) → from < get_or last size 0 → IsRunAt text (get_or last size 0) size

-- the table belongs to this text from an offset on: it has each run that begins after it, and no other
pub record AreRunsFrom (text last : List ℕ) (from : ℕ) : Type 0 where
  pub listed : AreListed text last from (length text)
  pub real : AreReal text last from

-- the table belongs to this text, from the offset at which listing began
abbrev pub AreRunsOf : (text : List ℕ) → BacktickRuns → Type 0
AreRunsOf text runs = IfSome runs.from (λ from. AreRunsFrom text runs.last.items from)

-- ## The number of runs looked at

-- the number of runs that begin among these bytes; goes_on says that a backtick is before the first byte
abbrev pub runs_in : (goes_on : Bool) → List ℕ → ℕ
runs_in goes_on [] = 0
runs_in goes_on (b ∷ bs) = (if is_backtick b && not goes_on then 1 else 0) + runs_in (is_backtick b) bs

-- listing began at or before the offset from which on code spans are looked up
abbrev pub IsReached : (at : ℕ) → BacktickRuns → Type 0
IsReached at runs = IfSome runs.from (λ from. from ≤ at)

-- the number of table entries that are looked at for the run at this offset
abbrev pub entries_for : (at : ℕ) → BacktickRuns → ℕ
entries_for at runs = elim runs.from [ None ↦ 0 | Some from ↦ (if nat_lt at from then 0 else 1) ]

-- an upper bound of the runs still looked at if code spans are looked up from an offset of the text on, in order. The runs after the first
-- one without a closing run are looked at twice. Then each run costs its entry, and each run of a code span is a part of it
abbrev pub may_visit : (text : List ℕ) → (at : ℕ) → BacktickRuns → ℕ
may_visit text at runs = (if is_some runs.from then 0 else 2 * length text) + 2 * (length text - at)

-- the offset at which reading continues after a run
abbrev pub end_of : (at : ℕ) → Option CodeSpan → ℕ
end_of at None = at + 1
end_of at (Some span) = span.end

-- A code span was looked up at this offset, and the next one is looked up after it. The runs looked at for it were counted in the bound before
pub record VisitsOn (text : List ℕ) (at : ℕ) (old new : BacktickRuns) : Type 0 where
  pub grows : old.visited ≤ new.visited
  pub reached : IsReached at old → IsReached (at + 1) new
  pub most : IsReached at old → at < length text → new.visited ≤ old.visited + may_visit text at old
