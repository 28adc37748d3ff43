use Rattle.std.proofs.Common.{◌<◌, length, option_map, refl, sym, ap, ◌∙◌, arith}
use Rattle.std.proofs.Math.Nat.{min-le_right}
use Rattle.std.proofs.lemmas.Option.{slice_get_read}
use Rattle.cmark_line_rules.specs.Rests.{row_of}
use Rattle.cmark_blocks.proofs.AheadSteps.{inside-start}
use Rattle.cmark_blocks.proofs.InsideSteps.{first-misses, first-all}
use Rattle.cmark_blocks.proofs.KeepingSteps.{following-more}
use Rattle.cmark_blocks.proofs.OldFootnoteSteps.{first-alike}
use Rattle.cmark_blocks.proofs.state.Pass.inside_first.Goals as goal

pub loop-at-init : goal.loop-at-init
loop-at-init g c = record {
  seen = λ text options lookup m more runs. inside-start text options lookup _ (row_of c.args.line) more;
  placed = λ text is. is;
  following = (0, ((row_of c.args.line).held, refl));
  within = omega arith;
}

pub returns-in_err-rest-clause-seen : goal.returns-in_err-rest-clause-seen
returns-in_err-rest-clause-seen g c text options lookup m more runs =
    let cs = c.args.self.now.outer.items in
    let at = c.loop-at.at in
    let within : at < length cs = omega (arith, c.loop-at-test.true, c.requires) in
    rw c.from_residual.ensures (first-misses text options lookup cs m.outer runs.outer c.args.count at c.index.result.now (row_of c.args.line) more c.loop-at.rest
    (slice_get_read cs (length cs) at c.index.result.now refl within c.index.ensures) c.loop-at-test.true
    (λ k shows. ap (option_map row_of) (sym c.in_err-rest.was) ∙ c.keeps.ensures.row k shows) (c.loop-at.invariant.seen text options lookup m more runs))

pub loop-at-preserved : goal.loop-at-preserved
loop-at-preserved g c =
    let cs = c.args.self.now.outer.items in
    let at = c.loop-at.at in
    let rest = c.loop-at.rest in
    let inside = c.in_ok-rest.rest in
    let within : at < length cs = omega (arith, c.loop-at-test.true, c.requires) in
    record {
      seen = λ text options lookup m more runs.
          first-alike text options lookup cs m.outer runs.outer c.args.count (row_of c.args.line) more at c.after_kept-after.result.0 c.min-at.result c.index.result.now rest inside
          (slice_get_read cs (length cs) at c.index.result.now refl within c.index.ensures) c.loop-at-test.true
          (λ k shows. ap (option_map row_of) (sym c.in_ok-rest.was) ∙ c.keeps.ensures.row k shows) c.after_kept-after.ensures c.min-at.ensures (c.loop-at.invariant.seen text options lookup m more runs);
      placed = λ text is. c.in_ok-rest.ensures.placed text (c.loop-at.invariant.placed text is);
      following = following-more c.args.line rest inside c.index.result.now.container _ (λ k shows. ap (option_map row_of) (sym c.in_ok-rest.was) ∙ c.keeps.ensures.row k shows) c.loop-at.invariant.following;
      within = omega (arith, c.min-at.ensures, min-le_right c.after_kept-after.result.0 c.args.count);
    }

pub returns-clause-seen : goal.returns-clause-seen
returns-clause-seen g c text options lookup m more runs = (
  ap (λ r. r.line_end) (sym c.loop-at.invariant.following.1.1),
  first-all text options lookup m.outer c.args.count c.loop-at.at (row_of c.args.line) more c.loop-at.rest c.loop-at-test.false (c.loop-at.invariant.seen text options lookup m more runs),
)
