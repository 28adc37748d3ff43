use Rattle.std.proofs.Common.{◌≡◌, sym, ap, ◌∙◌, take, arith}
use Rattle.cmark_grammar.specs.Derivation.{last_content_end}
use Rattle.cmark_line_rules.specs.Rests.{row_of}
use Rattle.cmark_blocks.specs.Gathered.{texts_at}
use Rattle.cmark_blocks.proofs.GatherSteps.{content_end-none, content_end-next}
use Rattle.cmark_blocks.proofs.state.Pass.content_end_after.Goals as goal

pub returns-in_default : goal.returns-in_default
returns-in_default g c text options lookup m runs =
    let last = row_of c.loop-left.last in
    c.content_end.ensures.place ∙ sym (content_end-none last c.loop-left.left)
    ∙ ap (λ rs. last_content_end last (take c.loop-left.left rs)) (sym (c.in_default.ensures.next text options lookup m runs))
    ∙ c.loop-left.invariant.1 text options lookup m runs

pub loop-left-preserved : goal.loop-left-preserved
loop-left-preserved g c =
    let last = row_of c.loop-left.last in
    let next = row_of c.in-Some.next in (
      c.in-Some.ensures.placed,
      λ text options lookup m runs.
          sym (content_end-next last next (texts_at text options lookup m next.line_end) c.loop-left.left (omega (arith, c.loop-left-test.true)))
          ∙ ap (λ rs. last_content_end last (take c.loop-left.left rs)) (sym (c.in-Some.ensures.next text options lookup m runs))
          ∙ c.loop-left.invariant.1 text options lookup m runs,
    )

pub returns : goal.returns
returns g c text options lookup m runs =
    let last = row_of c.loop-left.last in
    let none : 0 ≡ c.loop-left.left = omega (arith, c.loop-left-test.false) in
    c.content_end-2.ensures.place ∙ ap (λ n. last_content_end last (take n (texts_at text options lookup m last.line_end))) none ∙ c.loop-left.invariant.1 text options lookup m runs
