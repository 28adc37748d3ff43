-- The number of open runs that searches examine.
use Rattle.std.specs.Prelude.{◌≡◌, ℕ, zero, suc, ◌+◌, Bool, true, ◌==◌, ◌&&◌, ◌||◌, nat_lt, if◌then◌else◌, List, get_or}
use Rattle.cmark_grammar.specs.Characters.{asterisk, equals_sign, underscore}
use Rattle.cmark_grammar.specs.Emphasis.{Run, is_tilde_or_caret}
use Rattle.cmark_emphasis.specs.declared.bottom.OpenersBottom.{OpenersBottom}
use Rattle.cmark_emphasis.specs.declared.run.PlacedRun as code_placed
use Rattle.cmark_emphasis.specs.declared.run.Run as code_run

-- whether run_length bytes of this delimiter may be a run: two `=`, or any number of the others
abbrev pub is_run_of : (delimiter run_length : ℕ) → Bool
is_run_of delimiter run_length = (delimiter == asterisk) || ((delimiter == underscore) || (is_tilde_or_caret delimiter || ((delimiter == equals_sign) && (run_length == 2))))

abbrev pub IsKnown : code_run.Run → Type 0
IsKnown run = is_run_of run.delimiter run.run_length ≡ true

abbrev pub IsKnownPlaced : code_placed.PlacedRun → Type 0
IsKnownPlaced p = is_run_of p.delimiter p.run_length ≡ true

-- the run searches for an open one: it can close, and bytes of it are left
abbrev pub searches : Run → Bool
searches closer = closer.closes && nat_lt 0 closer.left

-- for two runs that are the only ones of a list: the second examines the first if it searches and the first is open
abbrev pub examined_of_two : (first second : Run) → ℕ
examined_of_two first second = if (first.opens && nat_lt 0 first.left) && searches second then 1 else 0

-- the price of putting an open run back: this happens at most once, if nothing is left of the closing run
abbrev pub put_back : (left : ℕ) → ℕ
put_back left = if nat_lt 0 left then 0 else 15

-- the sum of the heights of the first classes
abbrev pub heights_of : (classes : ℕ) → (heights : List ℕ) → ℕ
heights_of zero heights = 0
heights_of (suc class) heights = get_or heights class 0 + heights_of class heights

-- the sum of all heights: its rise is the number of open runs examined by searches that found nothing
unfoldable pub total_of : OpenersBottom → ℕ
total_of bottoms = heights_of 13 bottoms.heights + bottoms.inactive_below
