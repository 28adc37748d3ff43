-- Lines of leaf blocks in the form of the scanners' results.
use Rattle.std.specs.Prelude.{◌≡◌, ℕ, ◌+◌, Bool, ◌==◌, ◌&&◌, ◌||◌, not, nat_lt, nat_le, if◌then◌else◌, List, length, drop, slice_range, count_by, Option, Some, None}
use Rattle.std.specs.List.{prefix_len}
use Rattle.cmark_grammar.specs.Characters.{asterisk, backtick, hyphen, number_sign, underscore}
use Rattle.cmark_grammar.specs.Columns.{is_blank_byte}
use Rattle.cmark_grammar.specs.Leaves.{Fence, are_blank, run, trimmed, is_atx_heading, fence_with}
use Rattle.cmark_scan_lines.specs.declared.leaf.CodeFence.{CodeFence}

-- `*`, `-` and `_`
abbrev pub is_break_character : ℕ → Bool
is_break_character b = (b == asterisk) || ((b == hyphen) || (b == underscore))

-- a byte that is neither this one nor a blank, so that no thematic break of this byte continues here
abbrev pub stops_break : (character : ℕ) → ℕ → Bool
stops_break character b = not ((b == character) || is_blank_byte b)

-- the level of the heading that a run of this length opens, if it opens one
abbrev pub level_at : ℕ → Option ℕ
level_at n = if nat_lt 0 n && nat_le n 6 then Some n else None

-- the level of the ATX heading that a line is, if it is one (CommonMark 4.2)
abbrev pub atx_level : List ℕ → Option ℕ
atx_level bs = if is_atx_heading bs then Some (run number_sign bs) else None

-- a fence that was found on a line with this indent
abbrev pub shown_fence : (indent : ℕ) → List ℕ → CodeFence → Fence
shown_fence indent bs fence = record { indented = indent; delimiter = fence.delimiter; run_length = fence.run_length; info = slice_range bs fence.info_start fence.info_end }

-- the info string begins after the blanks after the fence, and ends before the blanks at the line's end
abbrev pub HasPlace : List ℕ → CodeFence → Type 0
HasPlace bs fence =
    (fence.info_start ≡ fence.run_length + prefix_len is_blank_byte (drop fence.run_length bs)) × (fence.info_end ≡ fence.info_start + length (trimmed (drop fence.run_length bs)))

-- three or more of a byte at the beginning, as a fence
abbrev pub long_fence : (indent delimiter : ℕ) → List ℕ → Option Fence
long_fence indent delimiter bs = if nat_le 3 (run delimiter bs) then Some (fence_with indent delimiter bs) else None

-- three or more backticks at the beginning, without backticks after them, as a fence
abbrev pub backtick_fence : (indent : ℕ) → List ℕ → Option Fence
backtick_fence indent bs = if nat_le 3 (run backtick bs) && (count_by (λ c. c == backtick) (drop (run backtick bs) bs) == 0) then Some (fence_with indent 96 bs) else None

-- whether a line, indented by at most three columns, closes a fence
abbrev pub closes_with : (delimiter run_length : ℕ) → List ℕ → Bool
closes_with delimiter run_length bs = nat_le run_length (run delimiter bs) && are_blank (drop (run delimiter bs) bs)
