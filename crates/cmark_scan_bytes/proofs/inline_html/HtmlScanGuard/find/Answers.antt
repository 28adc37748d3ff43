use Rattle.std.proofs.Common.{length, sym, subst, ◌∙◌, arith}
use Rattle.cmark_scan_bytes.specs.Guards.{AreMarks}
use Rattle.cmark_scan_bytes.proofs.Marks.{marks-further, marks-set, none-closes, none-mapped, within-set}
use Rattle.cmark_scan_bytes.proofs.inline_html.HtmlScanGuard.find.Goals as goal
use Rattle.cmark_scan_bytes.proofs.inline_html.HtmlScanGuard.find.Goals.{then-is_none, else-is_none}

pub returns-then-ix-mark-clause-marks : goal.returns-then-ix-mark-clause-marks
returns-then-ix-mark-clause-marks c = λ later le. marks-further c.args.bytes.now c.args.self.now c.args.ix later c.requires.marks le

pub returns-clause-marks : goal.returns-clause-marks
returns-clause-marks c = λ later le.
    elim c.if-is_none.branch [
      | then-is_none w ↦
          marks-set c.args.bytes.now c.args.self.now c.if-is_none.self c.args.kind c.args.ix (length c.args.bytes.now) later c.requires.marks (w.self-is ∙ w.set.ensures)
          (none-closes c.args.kind _ c.args.inside.now c.requires.opens (sym c.after_closer-closed.ensures.value ∙ none-mapped _ c.after_closer-closed.result w.if-is_none.ensures)) le
      | else-is_none w ↦ subst (AreMarks c.args.bytes.now later) (sym w.self-is) (marks-further c.args.bytes.now c.args.self.now c.args.ix later c.requires.marks le)
    ]

pub returns-clause-bound : goal.returns-clause-bound
returns-clause-bound c = grind (arith, then-is_none, within-set, else-is_none)
