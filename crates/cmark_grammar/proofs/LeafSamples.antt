-- Leaf blocks, by computation: which lines are thematic breaks, headings and fences (CommonMark 4).
use Rattle.std.specs.Prelude.{◌≡◌, true, false, codes, Some, None}
use Rattle.std.proofs.Common.{refl}
use Rattle.cmark_grammar.specs.Leaves.{is_thematic_break, is_atx_heading, fence_of, underline_of}

-- examples 43, 46 and 47 to 51: three or more of one character, with blanks between them
three : is_thematic_break (codes "***") ≡ true
three = refl

two : is_thematic_break (codes "--") ≡ false
two = refl

blanks_between : is_thematic_break (codes "- -\t- ") ≡ true
blanks_between = refl

two_characters : is_thematic_break (codes "*-*") ≡ false
two_characters = refl

-- examples 62 to 65: one to six `#`, and a blank or the end after them
six : is_atx_heading (codes "###### foo") ≡ true
six = refl

seven : is_atx_heading (codes "####### foo") ≡ false
seven = refl

no_blank : is_atx_heading (codes "#5 bolt") ≡ false
no_blank = refl

nothing_after : is_atx_heading (codes "##") ≡ true
nothing_after = refl

escaped : is_atx_heading (codes "\\## foo") ≡ false
escaped = refl

-- examples 121, 142, 145 and 146: three or more backticks or tildes, with an info string; none of it has a backtick after backticks
short_fence : fence_of 0 (codes "``") ≡ None
short_fence = refl

info : fence_of 0 (codes "~~~~  ruby ` ") ≡ Some (record { indented = 0; delimiter = 126; run_length = 4; info = codes "ruby `" })
info = refl

code_span : fence_of 0 (codes "``` ```") ≡ None
code_span = refl

-- examples 80, 83 and 88: a run of one character, and only blanks after it
first_level : underline_of (codes "===  ") ≡ Some 1
first_level = refl

second_level : underline_of (codes "-") ≡ Some 2
second_level = refl

parted : underline_of (codes "= =") ≡ None
parted = refl
