use Rattle.std.proofs.Common.{◌≡◌, suc, ◌<◌, ◌&&◌, None, option_map, sym, ap, ◌∙◌, length, arith, refl}
use Rattle.std.specs.Prelude.{◌==◌}
use Rattle.std.proofs.lemmas.Option.{slice_get_read}
use Rattle.cmark_grammar.specs.Containers as grammar
use Rattle.cmark_line_rules.specs.Rests.{row_of}
use Rattle.cmark_line_rules.specs.Starts.{Shows}
use Rattle.cmark_blocks.proofs.EmptySteps.{all-keep-used-up}
use Rattle.cmark_blocks.proofs.KeepingSteps.{keeps-not, keeps-all, following-more}
use Rattle.cmark_blocks.proofs.OldFootnoteSteps.{keeps-alike}
use Rattle.cmark_blocks.proofs.state.Pass.kept_by.Goals as goal

pub loop-kept-init : goal.loop-kept-init
loop-kept-init g c = (λ text options lookup m runs. refl, omega arith, λ text is. is, (0, ((row_of c.args.line).held, refl)))

pub returns-then-keeps_rest-clause-kept : goal.returns-then-keeps_rest-clause-kept
returns-then-keeps_rest-clause-kept g c text options lookup m runs =
    let empty = c.keeps_rest.ensures c.if-keeps_rest.true in
    c.loop-kept.invariant.0 text options lookup m runs
    ∙ all-keep-used-up text options lookup c.args.self.now.outer.items m.outer c.args.self.now.strict c.loop-kept.kept c.len-then-keeps_rest.result m.bare c.loop-kept.rest runs.outer c.args.self.now.empties empty.strict
    (omega (arith, c.len-then-keeps_rest.ensures, c.args.self.now.outer.ok.0)) (sym runs.bare ∙ empty.bare) empty.columns

pub returns-in_default-clause-kept : goal.returns-in_default-clause-kept
returns-in_default-clause-kept g c text options lookup m runs =
    let k = c.loop-kept.kept in
    let rest = c.loop-kept.rest in
    let cs = c.args.self.now.outer.items in
    let within : k < length cs = omega (arith, c.loop-kept-test.true, c.len.ensures, c.args.self.now.outer.ok.0) in
    let misses : (k : grammar.Container) → Shows c.index.result.now.container k → None ≡ grammar.keeps k (c.args.self.now.bare && (suc c.loop-kept.kept == length cs)) (row_of rest) =
    λ k shows. ap (option_map row_of) (sym c.in_default.is) ∙ c.keeps.ensures.row k shows ∙ ap (λ b. grammar.keeps k b (row_of rest)) c.is_bare-bare.ensures in
    c.loop-kept.invariant.0 text options lookup m runs
    ∙ keeps-not text options lookup cs m.outer k c.index.result.now m.bare rest runs.outer (slice_get_read cs (length cs) k c.index.result.now refl within c.index.ensures) within
    (λ k shows. misses k shows ∙ ap (λ b. grammar.keeps k (b && (suc c.loop-kept.kept == length cs)) (row_of rest)) runs.bare)

pub loop-kept-preserved : goal.loop-kept-preserved
loop-kept-preserved g c =
    let k = c.loop-kept.kept in
    let rest = c.loop-kept.rest in
    let cs = c.args.self.now.outer.items in
    let within : k < length cs = omega (arith, c.loop-kept-test.true, c.len.ensures, c.args.self.now.outer.ok.0) in (
      λ text options lookup m runs.
          c.loop-kept.invariant.0 text options lookup m runs
          ∙ keeps-alike text options lookup cs m.outer k c.after_kept.result.0 c.index.result.now m.bare rest c.in-Some.inside runs.outer (slice_get_read cs (length cs) k c.index.result.now refl within c.index.ensures) within
          (λ k shows. ap (option_map row_of) (sym c.in-Some.is) ∙ c.keeps.ensures.row k shows ∙ ap (λ b. grammar.keeps k b (row_of rest)) c.is_bare-bare.ensures
          ∙ ap (λ b. grammar.keeps k (b && (suc c.loop-kept.kept == length cs)) (row_of rest)) runs.bare)
          c.after_kept.ensures,
      c.after_kept.ensures.within,
      λ text is. c.in-Some.ensures.placed text (c.loop-kept.invariant.2 text is),
      following-more c.args.line rest c.in-Some.inside c.index.result.now.container c.is_bare-bare.result
          (λ k shows. ap (option_map row_of) (sym c.in-Some.is) ∙ c.keeps.ensures.row k shows) c.loop-kept.invariant.3,
    )

pub returns-clause-kept : goal.returns-clause-kept
returns-clause-kept g c text options lookup m runs =
    c.loop-kept.invariant.0 text options lookup m runs
    ∙ keeps-all text options lookup c.args.self.now.outer.items m.outer c.loop-kept.kept m.bare c.loop-kept.rest runs.outer
    (omega (arith, c.loop-kept-test.false, c.len.ensures, c.args.self.now.outer.ok.0))
