use Rattle.std.specs.Prelude.{not}
use Rattle.std.proofs.Common.{◌≡◌, ℕ, Bool, true, false, true≢false, string_bytes, refl, sym, ap, ◌∙◌, subst}
use Rattle.std.proofs.lemmas.Result.{on_ok_weaker}
use Rattle.cmark_html.specs.Writer.{writing}
use Rattle.cmark_text.specs.declared.short.Short.{Short}
use Rattle.cmark_event_walk.specs.declared.walk_step.WalkStep.{WalkStep}
use Rattle.cmark_event_walk.specs.declared.walk_step.WalkStep.TheVariants as lines
use Rattle.cmark_event_walk.specs.Walking.{IfLong, are_lines}
use Rattle.cmark_parser.specs.Parsing.{ComesLong, GivesWalkStep}
use Rattle.cmark_parser.specs.Rendering.{WritesLong, written}
use Rattle.cmark_parser.proofs.LineSteps.{text-written}
use Rattle.cmark_parser.proofs.RenderSteps.{all-written, joined, long-kept, none-open, none-written, short-written}
use Rattle.cmark_parser.proofs.html.write_all.Goals as goal

pub loop-step-init : goal.loop-step-init
loop-step-init g c =
    let Says = g.F.BrokenLinkCallback.answers in
    let replacement = g.E.EntityLookup.replacement in
    let filtered = g.T.Filter.filtered c.args.filter.now in
    let old = written (writing c.args.writer.now) (string_bytes c.args.out.now) in
    (none-written Says replacement filtered c.args.parser.now old c.requires.goes, c.requires.closed, c.requires.ready)

pub loop-step-preserved-in-Continue-1 : goal.loop-step-preserved-in-Continue-1
loop-step-preserved-in-Continue-1 g c =
    let Says = g.F.BrokenLinkCallback.answers in
    let replacement = g.E.EntityLookup.replacement in
    let filtered = g.T.Filter.filtered c.args.filter.now in
    let parser = c.loop-step.parser in
    let following = c.step.new.self in
    let short = c.in-Span.short in
    let made = c.short_of.result in
    let old = written (writing c.args.writer.now) (string_bytes c.args.out.now) in
    let mid = written (writing c.loop-step.writer) (string_bytes c.loop-step.out) in
    let new = written (writing c.write_short.new.writer) (string_bytes c.write_short.new.out) in
    let e = c.in_ok-write_short-in-Span.ensures in
    let h = subst (λ n. GivesWalkStep Says replacement parser n following) c.in-Span.is c.in-Ok.ensures.gives in (
      joined Says replacement filtered c.args.parser.now parser following old mid new c.loop-step.invariant.0 (short-written Says replacement filtered parser following short made _ _ mid new h c.short_of.ensures c.loop-step.invariant.1 e.writes.ok e.state),
      none-open mid.writing new.writing made e.state,
      c.in-Ok.ensures.ready,
    )

pub loop-step-preserved-in-Continue-branch-2 : goal.loop-step-preserved-in-Continue-branch-2
loop-step-preserved-in-Continue-branch-2 g c =
    let Says = g.F.BrokenLinkCallback.answers in
    let replacement = g.E.EntityLookup.replacement in
    let filtered = g.T.Filter.filtered c.args.filter.now in
    let parser = c.loop-step.parser in
    let following = c.step.new.self in
    let short = c.in-Block.short in
    let made = c.short_of-in-Block.result in
    let old = written (writing c.args.writer.now) (string_bytes c.args.out.now) in
    let mid = written (writing c.loop-step.writer) (string_bytes c.loop-step.out) in
    let new = written (writing c.write_short-in-Block.new.writer) (string_bytes c.write_short-in-Block.new.out) in
    let e = c.in_ok-write_short-in-Block.ensures in
    let h = subst (λ n. GivesWalkStep Says replacement parser n following) c.in-Block.is c.in-Ok.ensures.gives in (
      joined Says replacement filtered c.args.parser.now parser following old mid new c.loop-step.invariant.0 (short-written Says replacement filtered parser following short made _ _ mid new h c.short_of-in-Block.ensures c.loop-step.invariant.1 e.writes.ok e.state),
      none-open mid.writing new.writing made e.state,
      c.in-Ok.ensures.ready,
    )

-- the events of several lines are returned only outside of metadata blocks
shown-lines : (in_metadata : Bool) (coming : WalkStep) (text : Short) (start end : ℕ) → coming ≡ lines.Lines text start end → (not in_metadata ≡ false → are_lines coming ≡ false) → in_metadata ≡ false
shown-lines false coming text start end is joins = refl
shown-lines true coming text start end is joins = absurd (true≢false (sym (ap are_lines is) ∙ joins refl))

pub loop-step-preserved-in-Continue-branch-3 : goal.loop-step-preserved-in-Continue-branch-3
loop-step-preserved-in-Continue-branch-3 g c =
    let Says = g.F.BrokenLinkCallback.answers in
    let replacement = g.E.EntityLookup.replacement in
    let filtered = g.T.Filter.filtered c.args.filter.now in
    let parser = c.loop-step.parser in
    let following = c.step.new.self in
    let old = written (writing c.args.writer.now) (string_bytes c.args.out.now) in
    let mid = written (writing c.loop-step.writer) (string_bytes c.loop-step.out) in
    let new = written (writing c.write_lines.new.writer) (string_bytes c.write_lines.new.out) in
    let e = c.in_ok-write_lines-in-Lines.ensures in
    let h = subst (λ n. GivesWalkStep Says replacement parser n following) c.in-Lines.is c.in-Ok.ensures.gives in
    let shown = shown-lines mid.writing.in_metadata c.in-Ok.step c.in-Lines.text _ _ c.in-Lines.is c.in-Ok.ensures.joins in (
      joined Says replacement filtered c.args.parser.now parser following old mid new c.loop-step.invariant.0
          (text-written filtered (g.met.T.Filter.keeps_texts c.args.filter.now) (g.met.T.Filter.keeps_soft_breaks c.args.filter.now) Says replacement parser following c.in-Lines.text mid new h c.loop-step.invariant.1 shown e.writes.ok e.state),
      none-open mid.writing new.writing c.in-Lines.text e.state,
      c.in-Ok.ensures.ready,
    )

pub write_long-requires : goal.write_long-requires
write_long-requires g c κs =
    let replacement = g.E.EntityLookup.replacement in
    let parser = c.loop-step.parser in
    let following = c.step.new.self in
    let h = subst (λ n. GivesWalkStep g.F.BrokenLinkCallback.answers replacement parser n following) c.in-Long.is c.in-Ok.ensures.gives in
    let comes = subst (λ n. IfLong n (ComesLong replacement parser following)) c.in-Long.is c.in-Ok.ensures.long in
    ((refl, tt), (h.can, (c.in-Ok.ensures.ready, comes.long)))

pub loop-step-preserved : goal.loop-step-preserved
loop-step-preserved g c =
    let Says = g.F.BrokenLinkCallback.answers in
    let replacement = g.E.EntityLookup.replacement in
    let filtered = g.T.Filter.filtered c.args.filter.now in
    let first = c.args.parser.now in
    let parser = c.loop-step.parser in
    let following = c.step.new.self in
    let old = written (writing c.args.writer.now) (string_bytes c.args.out.now) in
    let mid = written (writing c.loop-step.writer) (string_bytes c.loop-step.out) in
    let new = written (writing c.write_long.new.writer) (string_bytes c.write_long.new.out) in
    let h = subst (λ n. GivesWalkStep Says replacement parser n following) c.in-Long.is c.in-Ok.ensures.gives in
    let kept = joined Says replacement filtered first parser following old mid mid c.loop-step.invariant.0 (long-kept Says replacement filtered parser following mid h) in
    let wrote = subst (λ b. WritesLong Says replacement filtered b following mid c.write_long.new.parser new) c.if-not-is_given.false c.in_ok-is_given-in-Long.ensures.writes in
    (joined Says replacement filtered first following c.write_long.new.parser old mid new kept wrote.some, wrote.closed, c.in_ok-is_given-in-Long.ensures.ready)

pub returns-then-not-is_given : goal.returns-then-not-is_given
returns-then-not-is_given g c =
    let Says = g.F.BrokenLinkCallback.answers in
    let replacement = g.E.EntityLookup.replacement in
    let filtered = g.T.Filter.filtered c.args.filter.now in
    let first = c.args.parser.now in
    let parser = c.loop-step.parser in
    let following = c.step.new.self in
    let old = written (writing c.args.writer.now) (string_bytes c.args.out.now) in
    let mid = written (writing c.loop-step.writer) (string_bytes c.loop-step.out) in
    let new = written (writing c.write_long.new.writer) (string_bytes c.write_long.new.out) in
    let h = subst (λ n. GivesWalkStep Says replacement parser n following) c.in-Long.is c.in-Ok.ensures.gives in
    let kept = joined Says replacement filtered first parser following old mid mid c.loop-step.invariant.0 (long-kept Says replacement filtered parser following mid h) in
    let wrote = subst (λ b. WritesLong Says replacement filtered b following mid c.write_long.new.parser new) c.if-not-is_given.true c.in_ok-is_given-in-Long.ensures.writes in
    on_ok_weaker c.finish.result
    (all-written Says replacement filtered first wrote.last c.write_long.new.parser wrote.taken old (string_bytes c.finish.new.out) new (joined Says replacement filtered first following wrote.last old mid new kept wrote.some) wrote.asks wrote.none) c.finish.ensures.ok

pub returns-in-Over : goal.returns-in-Over
returns-in-Over g c =
    let Says = g.F.BrokenLinkCallback.answers in
    let replacement = g.E.EntityLookup.replacement in
    let filtered = g.T.Filter.filtered c.args.filter.now in
    let parser = c.loop-step.parser in
    let following = c.step.new.self in
    let old = written (writing c.args.writer.now) (string_bytes c.args.out.now) in
    let mid = written (writing c.loop-step.writer) (string_bytes c.loop-step.out) in
    let h = subst (λ n. GivesWalkStep Says replacement parser n following) c.in-Over.is c.in-Ok.ensures.gives in
    on_ok_weaker c.finish-in-Over.result
    (all-written Says replacement filtered c.args.parser.now parser following h.answers.taken old (string_bytes c.finish-in-Over.new.out) mid c.loop-step.invariant.0 h.answers.asks h.answers.none) c.finish-in-Over.ensures.ok
