-- Task markers, by computation: which lines begin with one.
use Rattle.std.specs.Prelude.{◌≡◌, ℕ, true, false, List, codes, Some, None}
use Rattle.std.proofs.Common.{refl}
use Rattle.cmark_grammar.specs.Options.{Options, no_options}
use Rattle.cmark_grammar.specs.Rows.{Row, row_at, without}
use Rattle.cmark_grammar.specs.TaskItems.{task_in}

abbrev tasklists : Options
tasklists = record no_options { tasklists = true }

abbrev line : List ℕ → Row
line bs = row_at 0 bs

checked : task_in tasklists (line (codes "[x] a")) ≡ Some true
checked = refl

capital : task_in tasklists (line (codes "[X] a")) ≡ Some true
capital = refl

unchecked : task_in tasklists (line (codes "[ ] a")) ≡ Some false
unchecked = refl

-- whatever the text is
heading : task_in tasklists (line (codes "[ ] # a")) ≡ Some false
heading = refl

-- after an item's marker
after_bullet : task_in tasklists (without 2 (line (codes "- [x] a"))) ≡ Some true
after_bullet = refl

-- a tab separates, too
tab : task_in tasklists (line (codes "[ ]\ta")) ≡ Some false
tab = refl

-- with the option off there is no task marker
off : task_in no_options (line (codes "[x] a")) ≡ None
off = refl

-- nor is there one after a blank
indented : task_in tasklists (line (codes " [x] a")) ≡ None
indented = refl

-- nor before nothing
alone : task_in tasklists (line (codes "[x]")) ≡ None
alone = refl

before_blanks : task_in tasklists (line (codes "[x] \t ")) ≡ None
before_blanks = refl

-- nor directly before the text
unparted : task_in tasklists (line (codes "[x]a")) ≡ None
unparted = refl

-- nor with another box
other_box : task_in tasklists (line (codes "[y] a")) ≡ None
other_box = refl

empty_box : task_in tasklists (line (codes "[] a")) ≡ None
empty_box = refl
