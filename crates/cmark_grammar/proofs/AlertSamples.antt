-- Alerts, by computation: which lines are tags.
use Rattle.std.specs.Prelude.{◌≡◌, ℕ, true, List, codes, Option, Some, None}
use Rattle.std.proofs.Common.{refl}
use Rattle.cmark_grammar.specs.Alerts.{alert_in}
use Rattle.cmark_grammar.specs.BlockQuoteKind.{BlockQuoteKind, Note, Tip, Important, Warning, Caution}
use Rattle.cmark_grammar.specs.Options.{Options, no_options}
use Rattle.cmark_grammar.specs.Rows.{row_at, without}

abbrev gfm : Options
gfm = record no_options { gfm = true }

-- the first line of a block quote, after its marker
abbrev alert : List ℕ → Option BlockQuoteKind
alert line = alert_in gfm (row_at 0 line)

note : alert (codes "[!NOTE]") ≡ Some Note
note = refl

tip : alert (codes "[!TIP]") ≡ Some Tip
tip = refl

important : alert (codes "[!IMPORTANT]") ≡ Some Important
important = refl

warning : alert (codes "[!WARNING]") ≡ Some Warning
warning = refl

caution : alert (codes "[!CAUTION]") ≡ Some Caution
caution = refl

-- the marker is no part of the line
after_marker : alert_in gfm (without 2 (row_at 0 (codes "> [!NOTE]"))) ≡ Some Note
after_marker = refl

-- letters in any case, and blanks after the tag
any_case : alert (codes "[!tIp] \t") ≡ Some Tip
any_case = refl

-- with the option off there is no alert
off : alert_in no_options (row_at 0 (codes "[!NOTE]")) ≡ None
off = refl

-- nor is there one after a blank
indented : alert (codes " [!NOTE]") ≡ None
indented = refl

-- nor with text after the tag
with_text : alert (codes "[!NOTE] a") ≡ None
with_text = refl

-- nor with another word
other_word : alert (codes "[!NOTICE]") ≡ None
other_word = refl
