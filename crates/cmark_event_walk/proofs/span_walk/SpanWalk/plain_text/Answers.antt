use Rattle.std.proofs.Common.{◌≡◌, ◌-◌, ◌<◌, ◌≤◌, List, [], ◌∷◌, ℕ, length, get_or, take, refl, sym, ap, ◌∙◌, subst, arith}
use Rattle.cmark_leaf_text.specs.Reads.{source_of}
use Rattle.cmark_leaf_text.specs.Stretches.{AreLines, IsLine}
use Rattle.cmark_leaf_text.specs.declared.stretch.LeafLine.{LeafLine}
use Rattle.cmark_text.specs.Excerpt.{excerpt_bytes}
use Rattle.cmark_event_walk.specs.Plain.{ArePlain}
use Rattle.cmark_event_walk.proofs.span_walk.SpanWalk.plain_text.Goals as goal

abbrev no_line : LeafLine
no_line = record { start = 0; content_end = 0; line_end = 0 }

-- if there is exactly one line, it is the first one, and it is in the source
one-line : (source : List ℕ) (lines : List LeafLine) → AreLines source 0 lines → 1 ≤ length lines → length lines < 2 → IsLine source 0 (get_or lines 0 no_line) × (lines ≡ get_or lines 0 no_line ∷ [])
one-line source [] h some few = absurd (omega (arith, some))
one-line source (x ∷ []) h some few = (h.0, refl)
one-line source (x ∷ (y ∷ more)) h some few = absurd (omega (arith, few))

pub returns-clause-plain : goal.returns-clause-plain
returns-clause-plain g c =
    let text = c.source_at-text.result.now in
    let special = c.args.self.now.special in
    let same : text ≡ excerpt_bytes c.new.result = cc in
    subst (λ bytes. ArePlain special bytes c.in_ok-lines.lines) same (subst (λ bytes. ArePlain special bytes c.in_ok-lines.lines) c.as_bytes.ensures.value c.in_ok-lines.ensures.plain)

pub returns-clause-joins : goal.returns-clause-joins
returns-clause-joins g c = c.in_ok-lines.ensures.joins

pub source_at-text-requires : goal.source_at-text-requires
source_at-text-requires g c =
    let source = source_of c.args.self.now.leaf in
    let one = one-line source c.as_slice.result.now (subst (AreLines source 0) (sym c.as_slice.ensures.value) c.requires) (omega arith) (omega arith) in
    record { some = c.if-line.false; within = omega (arith, one.0.ending, one.0.within); starts = one.0.starts; ends = one.0.stops }

pub source_ahead-ahead-requires : goal.source_ahead-ahead-requires
source_ahead-ahead-requires g c =
    let source = source_of c.args.self.now.leaf in
    let one = one-line source c.as_slice.result.now (subst (AreLines source 0) (sym c.as_slice.ensures.value) c.requires) (omega arith) (omega arith) in
    one.0.starts

pub returns-clause-line : goal.returns-clause-line
returns-clause-line g c =
    let source = source_of c.args.self.now.leaf in
    let line = get_or c.as_slice.result.now 0 no_line in
    let one = one-line source c.as_slice.result.now (subst (AreLines source 0) (sym c.as_slice.ensures.value) c.requires) (omega arith) (omega arith) in
    record {
      line = line;
      start_is = refl;
      end_is = refl;
      alone = sym c.as_slice.ensures.value ∙ one.1;
      part = record { some = c.if-line.false; within = omega (arith, one.0.ending, one.0.within); starts = one.0.starts; ends = one.0.stops };
      is = c.new.ensures ∙ ap (take (line.content_end - line.start)) c.source_ahead-ahead.ensures;
    }
