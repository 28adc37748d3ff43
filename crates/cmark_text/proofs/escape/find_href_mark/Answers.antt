use Rattle.std.proofs.Common.{slice_index, sym, ap, ◌∙◌, inl, inr, arith}
use Rattle.std.proofs.lemmas.Bool.{cases_eq}
use Rattle.cmark_text.specs.Marks.{is_href_mark}
use Rattle.cmark_text.proofs.escape.find_href_mark.Goals as goal

pub loop-at-preserved : goal.loop-at-preserved
loop-at-preserved c k low high =
    elim (cases_eq k c.loop-at.at) [
      | inl same ↦ rw same (ap (λ l. is_href_mark (slice_index l c.loop-at.at)) (sym c.as_bytes-bytes.ensures.value) ∙ sym c.is_href_mark.ensures ∙ c.if-is_href_mark.false)
      | inr other ↦ c.loop-at.invariant k low (omega arith)
    ]
