use Rattle.std.proofs.Common.{◌≡◌, ◌-◌, [], length, take}
use Rattle.cmark_span_scan.specs.Backticks.{AreRunsOf}
use Rattle.cmark_span_scan.specs.Dollars.{AreDollarsOf}
use Rattle.cmark_inline.specs.Asking.{AsksUpTo, closing_brackets}
use Rattle.cmark_inline.specs.CursorProgress.{ComesTo}
use Rattle.cmark_inline.specs.Footnoted.{SameFootnotes}
use Rattle.cmark_inline.specs.MarkupInSource.{AreUnclosed}
use Rattle.cmark_inline.specs.Paid.{ArePaid}
use Rattle.cmark_inline.specs.PlainStretches.{IsSetOf}
use Rattle.cmark_slots.specs.Standing.{AreEnded}
use Rattle.cmark_inline.specs.Sound.{IsSound}
use Rattle.cmark_inline.specs.Stands.{Stands, IsCursor}
use Rattle.cmark_inline.specs.Uses.{RiseUpTo}
use Rattle.cmark_values.specs.Shown.{shown_options}
use Rattle.cmark_inline.proofs.state.InlineState.read_leaf.Given as goal

abbrev pub invariant-loop-cursor : goal.invariant-loop-cursor
invariant-loop-cursor g l =
    Stands l.text l.cursor.pending l.self
    × IsCursor l.text l.cursor
    × AsksUpTo g.F.BrokenLinkCallback.answers (closing_brackets (take l.cursor.at l.text)) l.initial.callback l.callback
    × (l.initial.self.expansion_left ≡ 0 → (l.callback ≡ l.initial.callback) × (l.self.expansion_left ≡ 0))
    × AreRunsOf l.text l.sought.runs
    × AreUnclosed l.leaf l.cursor.at l.sought.unclosed
    × AreDollarsOf l.text l.sought.dollars
    × SameFootnotes l.initial.footnotes l.footnotes
    × IsSound l.self
    × AreEnded l.leaf l.self.slots.items
    × (IsSetOf (shown_options l.reader.options) l.reader.special.now
    → ComesTo g.F.BrokenLinkCallback.answers (shown_options l.reader.options) (g.E.EntityLookup.replacement l.reader.entities.now) l.reader.references.now l.initial.footnotes l.leaf l.initial.self.expansion_left l.initial.callback l.sought l.footnotes l.cursor l.self l.callback)
    × (l.text ≡ [] → (l.cursor.pending ≡ 0) × (l.self.quotes.placed.items ≡ []) × (l.self.delimiters.placed.items ≡ []))
    × ArePaid l.leaf l.cursor.at l.sought
    × (l.self.steps ≡ l.initial.self.steps)
    × RiseUpTo (closing_brackets (take l.cursor.at l.text)) l.initial.footnotes l.footnotes
    × g.F.BrokenLinkCallback.ready l.callback

abbrev pub decreases-loop-cursor : goal.decreases-loop-cursor
decreases-loop-cursor g l = length l.text - l.cursor.at
