use Rattle.std.proofs.Common.{◌≡◌, Bool, true, false, nat_eq, not, refl, sym, ◌∙◌, true≢false}
use Rattle.std.specs.Prelude.{IsTrue, slice_index_or}
use Rattle.std.proofs.lemmas.Bool.{leb-true, lt-leb}
use Rattle.cmark_scan_lines.proofs.LeafSteps.{stop-known}
use Rattle.cmark_scan_lines.proofs.line_start.LineStart.has_stop.Goals as goal
use Rattle.cmark_scan_lines.proofs.line_start.LineStart.has_stop.Goals.{then-self, else-self}

off : (z : Bool) → IsTrue (not z) → z ≡ false
off true h = absurd (true≢false (sym h))
off false h = refl

pub returns-then-self-2-clause-none : goal.returns-then-self-2-clause-none
returns-then-self-2-clause-none c other =
    let line = c.args.self.now in
    let no_mark = off (nat_eq (slice_index_or line.bytes.now line.break_stop 0) c.args.character) other in
    elim c.if-self.branch [
      | then-self w ↦ let lt = leb-true _ _ (sym w.value-is ∙ c.if-self-2.true) in stop-known c.args.character line.bytes.now line.taken line.break_stop w.if-self.true lt no_mark (line.stop lt)
      | else-self w ↦ absurd (true≢false (sym c.if-self-2.true ∙ w.value-is ∙ lt-leb line.taken line.break_stop w.if-self.false))
    ]
