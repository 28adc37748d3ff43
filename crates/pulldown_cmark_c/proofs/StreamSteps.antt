-- The output of a call for a growing text is safe, if the safe forms of events are written.
use Rattle.std.proofs.Common.{◌≡◌, ℕ, List, ◌++◌, drop, take, sym, ap, ◌∙◌, subst}
use Rattle.std.proofs.Math.Seq.{take-append_seam}
use Rattle.cmark_safe.specs.SafeEvents.{safe}
use Rattle.cmark_safe.specs.SafeHtml.{IsSafe}
use Rattle.cmark_stream.proofs.SafeWriting.{written-safely}
use Rattle.pulldown_cmark_c.specs.Streams.{AnswersStream, Numbers, WroteStream}

written_room : (further : List ℕ) (limit bits : ℕ) (text old new : List ℕ) (n : Numbers) → (w : WroteStream (safe further) limit bits text old new n) → take n.size new ≡ w.settled_html ++ w.tail
written_room further limit bits text old new n w =
    let html = w.settled_html ++ w.tail in
    ap (take n.size) w.room ∙ ap (λ size. take size (html ++ drop n.size old)) w.size ∙ take-append_seam html (drop n.size old)

pub safe_room : (further : List ℕ) (limit bits : ℕ) (text old new : List ℕ) (n : Numbers) (status : ℕ) → AnswersStream (safe further) limit bits text old new n status → status ≡ 0 → IsSafe further (take n.size new)
safe_room further limit bits text old new n status h done =
    let w = h.done done in
    subst (IsSafe further) (sym (written_room further limit bits text old new n w)) (written-safely further (w.settled_html ++ w.tail) w.is.written.0 w.is.written.1)
