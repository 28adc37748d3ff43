use Rattle.std.specs.Prelude.{is_some}
use Rattle.std.proofs.Common.{◌≡◌, Bool, true, false, true≢false, [], ◌∷◌, refl, sym, ap, ◌∙◌, subst}
use Rattle.cmark_grammar.specs.Event.{Ranged}
use Rattle.cmark_grammar.specs.SpanDocuments.{Content, Given as GivenOf}
use Rattle.cmark_inline_model.specs.SpecialBytes.{is_special}
use Rattle.cmark_references.specs.Footnotes.{footnote}
use Rattle.cmark_text.specs.declared.short.Step.{Step}
use Rattle.cmark_text.specs.Excerpt.{excerpt_bytes}
use Rattle.cmark_text.specs.Short.{IsShortZeroCopy, ranged_short}
use Rattle.cmark_text.specs.declared.short.Short.TheVariants as short
use Rattle.cmark_block_walk.specs.declared.reading.BlockStep.{BlockStep}
use Rattle.cmark_slot_events.specs.Shorts.{IfLong as IfNextLong}
use Rattle.cmark_block_walk.specs.Walking as walking
use Rattle.cmark_block_walk.specs.Walking.{lines_of}
use Rattle.cmark_block_walk.proofs.LongItems.{long-no-end}
use Rattle.cmark_block_walk.proofs.WalkSteps.{on-err}
use Rattle.cmark_event_walk.specs.Plain.{ArePlain}
use Rattle.cmark_event_walk.specs.declared.plain.Lines.{Lines}
use Rattle.cmark_event_walk.specs.declared.plain.Lines.TheVariants as count
use Rattle.cmark_event_walk.specs.Walking.{ArePlaced, ComesLong, GivesInLeaf, HasRange, IsLongIn, KeepsAfterLeaf, LeavesFewer, LeavesLeaf}
use Rattle.cmark_event_walk.proofs.EndSteps.{blocks-begin, leaf-keeps, text-begins}
use Rattle.cmark_event_walk.proofs.Readings.{asked-on, asked-same, ends-on, event-passes, leaf-passes, lines-given, long-passes, met-same, over-ends, passes-none, passes-on, plain-passes, plain-range}
use Rattle.cmark_event_walk.proofs.StopSteps.{stops-here, stops-leaf}
use Rattle.cmark_event_walk.proofs.Walks.{before-leaf, following-at, lasts-leaf, lasts-none, less-since, met-by, met-fewer, most-since, over-at, same-at}
use Rattle.cmark_event_walk.proofs.span_walk.SpanWalk.step.Goals as goal

pub loop-span-init : goal.loop-span-init
loop-span-init g c =
    record { ready = c.requires.ready; lasts = lasts-none c.args.self.now c.requires.stands; reads = λ reader r. passes-none g.F.BrokenLinkCallback.answers g.E.EntityLookup.replacement reader c.args.self.now r; ends = λ reader exchanges events m b. m; asked = ([], refl) }

pub returns-in-Short-clause-given : goal.returns-in-Short-clause-given
returns-in-Short-clause-given g c = λ reader r.
    let old = c.args.self.now in
    let head = c.loop-span.self in
    let new = c.next_in_leaf.new.self in
    let p = c.loop-span.invariant.reads reader r in
    let h = subst (λ (n : Step). GivesInLeaf g.F.BrokenLinkCallback.answers g.E.EntityLookup.replacement reader head n new) c.in-Short.is (c.in-Ok.ensures.given reader p.read_by) in
    let source = c.loop-span.invariant.lasts.source in
    record {
      given = h.given;
      is = h.is;
      range = subst (λ t. HasRange t h.given) source h.range;
      lent = subst (λ t. IsShortZeroCopy t c.in-Short.short h.given.start h.given.end) source h.lent;
      passes = passes-on g.F.BrokenLinkCallback.answers g.E.EntityLookup.replacement reader old head new (h.given ∷ []) p h.passes;
    }

pub returns-in-Long-clause-given : goal.returns-in-Long-clause-given
returns-in-Long-clause-given g c = λ reader r.
    let old = c.args.self.now in
    let head = c.loop-span.self in
    let new = c.next_in_leaf.new.self in
    let p = c.loop-span.invariant.reads reader r in
    let h = subst (λ (n : Step). GivesInLeaf g.F.BrokenLinkCallback.answers g.E.EntityLookup.replacement reader head n new) c.in-Long.is (c.in-Ok.ensures.given reader p.read_by) in
    passes-on g.F.BrokenLinkCallback.answers g.E.EntityLookup.replacement reader old head new [] p h

pub returns-in-Short-clause-fewer : goal.returns-in-Short-clause-fewer
returns-in-Short-clause-fewer g c =
    let head = c.loop-span.self in
    let new = c.next_in_leaf.new.self in
    let e = c.in-Ok.ensures in
    less-since c.args.self.now head new c.loop-span.invariant.lasts (subst (λ (n : Step). LeavesFewer head n new) c.in-Short.is e.fewer.fewer) e.fewer.few e.fewer.slots e.around.budget

pub returns-in-Long-clause-fewer : goal.returns-in-Long-clause-fewer
returns-in-Long-clause-fewer g c =
    let e = c.in-Ok.ensures in
    most-since c.args.self.now c.loop-span.self c.next_in_leaf.new.self c.loop-span.invariant.lasts e.fewer.most e.fewer.few e.fewer.slots e.around.budget

pub returns-in-Long-met-clause-fewer : goal.returns-in-Long-met-clause-fewer
returns-in-Long-met-clause-fewer g c =
    let e = c.in-Ok.ensures in
    most-since c.args.self.now c.loop-span.self c.next_in_leaf.new.self c.loop-span.invariant.lasts e.fewer.most e.fewer.few e.fewer.slots e.around.budget

pub returns-in-Short-met-clause-stands : goal.returns-in-Short-met-clause-stands
returns-in-Short-met-clause-stands g c =
    let old = c.args.self.now in
    let head = c.loop-span.self in
    let mid = c.next_in_leaf.new.self in
    let walk = c.step.new.self in
    let lines = c.step.new.lines in
    let e = c.in-Ok.ensures in
    let m = c.in-Ok-step.ensures in
    let out = subst (λ (n : Step). LeavesLeaf n mid) c.in-Over.is e.outside in
    let s = e.stands in
    let given = subst (λ (b : BlockStep). walking.GivesBrief mid.walk b lines.items walk) c.in-Short-met.is m.given in
    let one : Ranged = ranged_short c.in-Short-met.short c.in-Short-met.start c.in-Short-met.end in
    let first = given.gives s.0 s.1.blocks.remains in
    (first.0, following-at mid walk lines out m.text _ s.0 (GivenOf one) first.0 s.1 first.1 first.2 refl)

pub returns-in-Short-met-clause-given : goal.returns-in-Short-met-clause-given
returns-in-Short-met-clause-given g c = λ reader r.
    let old = c.args.self.now in
    let head = c.loop-span.self in
    let mid = c.next_in_leaf.new.self in
    let walk = c.step.new.self in
    let lines = c.step.new.lines in
    let e = c.in-Ok.ensures in
    let m = c.in-Ok-step.ensures in
    let out = subst (λ (n : Step). LeavesLeaf n mid) c.in-Over.is e.outside in
    let given = subst (λ (b : BlockStep). walking.GivesBrief mid.walk b lines.items walk) c.in-Short-met.is m.given in
    let p = c.loop-span.invariant.reads reader r in
    let none = subst (λ (n : Step). GivesInLeaf g.F.BrokenLinkCallback.answers g.E.EntityLookup.replacement reader head n mid) c.in-Over.is (e.given reader p.read_by) in
    let q = passes-on g.F.BrokenLinkCallback.answers g.E.EntityLookup.replacement reader old head mid [] p none in
    let by = q.read_by in
    let one : Ranged = ranged_short c.in-Short-met.short c.in-Short-met.start c.in-Short-met.end in
    let first = given.gives by.left by.stands.blocks.remains in
    let source = e.around.source ∙ c.loop-span.invariant.lasts.source in
    let event = event-passes g.F.BrokenLinkCallback.answers g.E.EntityLookup.replacement reader mid walk lines out m.text m.definitions _ one first.0 by first.1 first.2 refl in
    record {
      given = one;
      is = refl;
      range = subst (λ t. HasRange t one) source event.0;
      lent = subst (λ t. IsShortZeroCopy t c.in-Short-met.short one.start one.end) (by.stands.blocks.same_text ∙ source) given.lent;
      passes = passes-on g.F.BrokenLinkCallback.answers g.E.EntityLookup.replacement reader old mid _ (one ∷ []) q event.1;
    }

pub returns-in-Short-met-clause-fewer : goal.returns-in-Short-met-clause-fewer
returns-in-Short-met-clause-fewer g c =
    let old = c.args.self.now in
    let head = c.loop-span.self in
    let mid = c.next_in_leaf.new.self in
    let walk = c.step.new.self in
    let lines = c.step.new.lines in
    let e = c.in-Ok.ensures in
    let m = c.in-Ok-step.ensures in
    let out = subst (λ (n : Step). LeavesLeaf n mid) c.in-Over.is e.outside in
    let s = e.stands in
    let given = subst (λ (b : BlockStep). walking.GivesBrief mid.walk b lines.items walk) c.in-Short-met.is m.given in
    let one : Ranged = ranged_short c.in-Short-met.short c.in-Short-met.start c.in-Short-met.end in
    let first = given.gives s.0 s.1.blocks.remains in
    met-fewer mid walk lines out m.text old head _ s.0 (GivenOf one) first.0 s.1 first.1 c.loop-span.invariant.lasts e.fewer.most e.fewer.few e.fewer.slots e.around.budget refl

pub plain_text-requires : goal.plain_text-requires
plain_text-requires g c κs =
    let old = c.args.self.now in
    let head = c.loop-span.self in
    let mid = c.next_in_leaf.new.self in
    let walk = c.step.new.self in
    let lines = c.step.new.lines in
    let e = c.in-Ok.ensures in
    let m = c.in-Ok-step.ensures in
    let out = subst (λ (n : Step). LeavesLeaf n mid) c.in-Over.is e.outside in
    let s = e.stands in
    let given = subst (λ (b : BlockStep). walking.GivesBrief mid.walk b lines.items walk) c.in-Leaf.is m.given in
    let gives = given s.0 s.1.blocks.remains in
    let before = before-leaf mid walk lines out m.text c.in-Leaf.is_cell _ s.0 gives.0 gives.1 s.1 gives.2 gives.3 gives.4 gives.5 refl in
    ((refl, tt), before.lines.in_turn)

pub returns-in-One-clause-stands : goal.returns-in-One-clause-stands
returns-in-One-clause-stands g c =
    let old = c.args.self.now in
    let head = c.loop-span.self in
    let mid = c.next_in_leaf.new.self in
    let walk = c.step.new.self in
    let lines = c.step.new.lines in
    let e = c.in-Ok.ensures in
    let m = c.in-Ok-step.ensures in
    let out = subst (λ (n : Step). LeavesLeaf n mid) c.in-Over.is e.outside in
    let s = e.stands in
    let given = subst (λ (b : BlockStep). walking.GivesBrief mid.walk b lines.items walk) c.in-Leaf.is m.given in
    let gives = given s.0 s.1.blocks.remains in
    (gives.1, following-at mid walk lines out m.text _ s.0 (Content gives.0) gives.1 s.1 gives.2 gives.4 refl)

pub returns-in-One-clause-given : goal.returns-in-One-clause-given
returns-in-One-clause-given g c = λ reader r.
    let old = c.args.self.now in
    let head = c.loop-span.self in
    let mid = c.next_in_leaf.new.self in
    let walk = c.step.new.self in
    let lines = c.step.new.lines in
    let e = c.in-Ok.ensures in
    let m = c.in-Ok-step.ensures in
    let out = subst (λ (n : Step). LeavesLeaf n mid) c.in-Over.is e.outside in
    let given = subst (λ (b : BlockStep). walking.GivesBrief mid.walk b lines.items walk) c.in-Leaf.is m.given in
    let p = c.loop-span.invariant.reads reader r in
    let none = subst (λ (n : Step). GivesInLeaf g.F.BrokenLinkCallback.answers g.E.EntityLookup.replacement reader head n mid) c.in-Over.is (e.given reader p.read_by) in
    let q = passes-on g.F.BrokenLinkCallback.answers g.E.EntityLookup.replacement reader old head mid [] p none in
    let by = q.read_by in
    let gives = given by.left by.stands.blocks.remains in
    let only = c.in-Some.ensures.line in
    let special = by.stands.blocks.special in
    let plain = subst (ArePlain mid.special (excerpt_bytes c.in-Some.text)) c.in-One.is c.in-Some.ensures.plain reader.options reader.lookup gives.0.is_cell (λ byte less. special byte less ∙ ap (λ o. is_special o byte) (sym by.same.options_are)) in
    let source = e.around.source ∙ c.loop-span.invariant.lasts.source in
    record {
      given = ranged_short (short.Text c.in-Some.text) only.line.start only.line.content_end;
      is = ap (λ n. ranged_short (short.Text c.in-Some.text) n only.line.content_end) (sym only.start_is) ∙ ap (ranged_short (short.Text c.in-Some.text) c.in-Some.start) (sym only.end_is);
      range = subst (λ t. HasRange t (ranged_short (short.Text c.in-Some.text) only.line.start only.line.content_end)) source (plain-range mid.leaf.source.now lines.items (excerpt_bytes c.in-Some.text) c.in-Some.start c.in-Some.end only);
      lent = subst (λ t. IsShortZeroCopy t (short.Text c.in-Some.text) only.line.start only.line.content_end) source only.is;
      passes = passes-on g.F.BrokenLinkCallback.answers g.E.EntityLookup.replacement reader old mid _ _ q (plain-passes g.F.BrokenLinkCallback.answers g.E.EntityLookup.replacement reader mid walk lines out m.text m.definitions _ gives.0 gives.1 (excerpt_bytes c.in-Some.text) c.in-Some.start c.in-Some.end by gives.2 gives.4 refl only gives.3.are plain);
    }

pub returns-in-One-clause-fewer : goal.returns-in-One-clause-fewer
returns-in-One-clause-fewer g c =
    let old = c.args.self.now in
    let head = c.loop-span.self in
    let mid = c.next_in_leaf.new.self in
    let walk = c.step.new.self in
    let lines = c.step.new.lines in
    let e = c.in-Ok.ensures in
    let m = c.in-Ok-step.ensures in
    let out = subst (λ (n : Step). LeavesLeaf n mid) c.in-Over.is e.outside in
    let s = e.stands in
    let given = subst (λ (b : BlockStep). walking.GivesBrief mid.walk b lines.items walk) c.in-Leaf.is m.given in
    let gives = given s.0 s.1.blocks.remains in
    met-fewer mid walk lines out m.text old head _ s.0 (Content gives.0) gives.1 s.1 gives.2 c.loop-span.invariant.lasts e.fewer.most e.fewer.few e.fewer.slots e.around.budget refl

pub returns-in-Several-clause-stands : goal.returns-in-Several-clause-stands
returns-in-Several-clause-stands g c =
    let old = c.args.self.now in
    let head = c.loop-span.self in
    let mid = c.next_in_leaf.new.self in
    let walk = c.step.new.self in
    let lines = c.step.new.lines in
    let e = c.in-Ok.ensures in
    let m = c.in-Ok-step.ensures in
    let out = subst (λ (n : Step). LeavesLeaf n mid) c.in-Over.is e.outside in
    let s = e.stands in
    let given = subst (λ (b : BlockStep). walking.GivesBrief mid.walk b lines.items walk) c.in-Leaf.is m.given in
    let gives = given s.0 s.1.blocks.remains in
    (gives.1, following-at mid walk lines out m.text _ s.0 (Content gives.0) gives.1 s.1 gives.2 gives.4 refl)

pub returns-in-Several-clause-given : goal.returns-in-Several-clause-given
returns-in-Several-clause-given g c = λ reader r.
    let old = c.args.self.now in
    let head = c.loop-span.self in
    let mid = c.next_in_leaf.new.self in
    let walk = c.step.new.self in
    let lines = c.step.new.lines in
    let e = c.in-Ok.ensures in
    let m = c.in-Ok-step.ensures in
    let out = subst (λ (n : Step). LeavesLeaf n mid) c.in-Over.is e.outside in
    let given = subst (λ (b : BlockStep). walking.GivesBrief mid.walk b lines.items walk) c.in-Leaf.is m.given in
    let p = c.loop-span.invariant.reads reader r in
    let none = subst (λ (n : Step). GivesInLeaf g.F.BrokenLinkCallback.answers g.E.EntityLookup.replacement reader head n mid) c.in-Over.is (e.given reader p.read_by) in
    let q = passes-on g.F.BrokenLinkCallback.answers g.E.EntityLookup.replacement reader old head mid [] p none in
    let by = q.read_by in
    let gives = given by.left by.stands.blocks.remains in
    let only = c.in-Some.ensures.line in
    let special = by.stands.blocks.special in
    let plain = subst (ArePlain mid.special (excerpt_bytes c.in-Some.text)) c.in-Several.is c.in-Some.ensures.plain in
    let are = plain.are reader.options reader.lookup gives.0.is_cell (λ byte less. special byte less ∙ ap (λ o. is_special o byte) (sym by.same.options_are)) in
    let found = lines-given g.F.BrokenLinkCallback.answers g.E.EntityLookup.replacement reader mid walk lines out m.text m.definitions _ gives.0 gives.1 (excerpt_bytes c.in-Some.text) c.in-Some.start c.in-Some.end by gives.2 gives.4 refl only gives.3.are plain.lines plain.last are in
    record {
      start = found.start;
      lines = found.lines;
      last = found.last;
      text_is = found.text_is;
      some = found.some;
      passes = passes-on g.F.BrokenLinkCallback.answers g.E.EntityLookup.replacement reader old mid _ _ q found.passes;
    }

pub returns-in-Several-clause-fewer : goal.returns-in-Several-clause-fewer
returns-in-Several-clause-fewer g c =
    let old = c.args.self.now in
    let head = c.loop-span.self in
    let mid = c.next_in_leaf.new.self in
    let walk = c.step.new.self in
    let lines = c.step.new.lines in
    let e = c.in-Ok.ensures in
    let m = c.in-Ok-step.ensures in
    let out = subst (λ (n : Step). LeavesLeaf n mid) c.in-Over.is e.outside in
    let s = e.stands in
    let given = subst (λ (b : BlockStep). walking.GivesBrief mid.walk b lines.items walk) c.in-Leaf.is m.given in
    let gives = given s.0 s.1.blocks.remains in
    met-fewer mid walk lines out m.text old head _ s.0 (Content gives.0) gives.1 s.1 gives.2 c.loop-span.invariant.lasts e.fewer.most e.fewer.few e.fewer.slots e.around.budget refl

one-not-several : count.One ≡ count.Several → ⊥
one-not-several e = true≢false (ap is_one e)
  where
    is_one : Lines → Bool
    is_one count.One = true
    is_one count.Several = false

pub returns-in-Several-clause-joins : goal.returns-in-Several-clause-joins
returns-in-Several-clause-joins g c single = absurd (one-not-several (sym (c.in-Some.ensures.joins single) ∙ c.in-Several.is))

pub enter_leaf-requires : goal.enter_leaf-requires
enter_leaf-requires g c κs =
    let old = c.args.self.now in
    let head = c.loop-span.self in
    let mid = c.next_in_leaf.new.self in
    let walk = c.step.new.self in
    let lines = c.step.new.lines in
    let e = c.in-Ok.ensures in
    let m = c.in-Ok-step.ensures in
    let out = subst (λ (n : Step). LeavesLeaf n mid) c.in-Over.is e.outside in
    let s = e.stands in
    let given = subst (λ (b : BlockStep). walking.GivesBrief mid.walk b lines.items walk) c.in-Leaf.is m.given in
    let gives = given s.0 s.1.blocks.remains in
    let ready = subst g.F.BrokenLinkCallback.ready (sym c.in-Ok.ensures.around.callback) c.loop-span.invariant.ready in
    ((refl, tt), ((gives.0, gives.1, before-leaf mid walk lines out m.text c.in-Leaf.is_cell _ s.0 gives.0 gives.1 s.1 gives.2 gives.3 gives.4 gives.5 refl), ready))

pub loop-span-preserved : goal.loop-span-preserved
loop-span-preserved g c =
    let old = c.args.self.now in
    let head = c.loop-span.self in
    let mid = c.next_in_leaf.new.self in
    let walk = c.step.new.self in
    let lines = c.step.new.lines in
    let e = c.in-Ok.ensures in
    let m = c.in-Ok-step.ensures in
    let out = subst (λ (n : Step). LeavesLeaf n mid) c.in-Over.is e.outside in
    let s = e.stands in
    let given = subst (λ (b : BlockStep). walking.GivesBrief mid.walk b lines.items walk) c.in-Leaf.is m.given in
    let gives = given s.0 s.1.blocks.remains in
    let entered = c.in_ok-enter_leaf-in-Leaf.ensures in
    let new = c.enter_leaf.new.self in
    let before = before-leaf mid walk lines out m.text c.in-Leaf.is_cell _ s.0 gives.0 gives.1 s.1 gives.2 gives.3 gives.4 gives.5 refl in
    record {
      ready = entered.ready;
      lasts = lasts-leaf mid walk lines out m.text old head new s.0 gives.0 gives.1 s.1 c.loop-span.invariant.lasts e.around.budget (entered.keeps.definitions ∙ m.definitions ∙ e.around.definitions)
          (λ folded. entered.keeps.footnotes folded ∙ ap (λ t. is_some (footnote t folded)) e.around.footnotes) e.around.source gives.2 (entered.enters gives.0 gives.1 before) entered.keeps.source entered.budget;
      reads = λ reader r.
          let p = c.loop-span.invariant.reads reader r in
          let none = subst (λ (n : Step). GivesInLeaf g.F.BrokenLinkCallback.answers g.E.EntityLookup.replacement reader head n mid) c.in-Over.is (e.given reader p.read_by) in
          let q = passes-on g.F.BrokenLinkCallback.answers g.E.EntityLookup.replacement reader old head mid [] p none in
          let by = q.read_by in
          let met = given by.left by.stands.blocks.remains in
          let here = before-leaf mid walk lines out m.text c.in-Leaf.is_cell _ by.left met.0 met.1 by.stands met.2 met.3 met.4 met.5 refl in
          let placed : ArePlaced reader (Content met.0 ∷ met.1) = subst (ArePlaced reader) met.2 by.placed in
          passes-on g.F.BrokenLinkCallback.answers g.E.EntityLookup.replacement reader old mid new [] q
          (leaf-passes g.F.BrokenLinkCallback.answers g.E.EntityLookup.replacement reader mid walk lines out m.text m.definitions _ met.0 met.1 new by met.2 (entered.enters met.0 met.1 here)
          (entered.reads reader met.0 met.1 here placed.0 (met-same g.F.BrokenLinkCallback.answers g.E.EntityLookup.replacement reader mid walk lines out m.text m.definitions _ by.same)));
      ends = λ reader exchanges events n b.
          let keeps = subst (λ (x : Step). KeepsAfterLeaf g.E.EntityLookup.replacement reader head x mid) c.in-Over.is (e.kept reader) in
          let kept = keeps exchanges events (c.loop-span.invariant.ends reader exchanges events n b) in
          let by = kept.read_by in
          let met = given by.left by.stands.blocks.remains in
          let here = before-leaf mid walk lines out m.text c.in-Leaf.is_cell _ by.left met.0 met.1 by.stands met.2 met.3 met.4 met.5 refl in
          let placed : ArePlaced reader (Content met.0 ∷ met.1) = subst (ArePlaced reader) met.2 by.placed in
          leaf-keeps g.E.EntityLookup.replacement reader mid out by met.0 met.1 met.2 g.F.BrokenLinkCallback.answers (met-by mid walk lines out m.text _) new refl (entered.enters met.0 met.1 here)
          (entered.reads reader met.0 met.1 here placed.0 (met-same g.F.BrokenLinkCallback.answers g.E.EntityLookup.replacement reader mid walk lines out m.text m.definitions _ by.same)) exchanges events kept b;
      asked = asked-on g.F.BrokenLinkCallback.answers old.callback head.callback mid.callback new.callback c.loop-span.invariant.asked e.around.callback entered.asked;
    }

pub returns-in-Long-met-clause-stands : goal.returns-in-Long-met-clause-stands
returns-in-Long-met-clause-stands g c =
    let old = c.args.self.now in
    let head = c.loop-span.self in
    let mid = c.next_in_leaf.new.self in
    let walk = c.step.new.self in
    let lines = c.step.new.lines in
    let e = c.in-Ok.ensures in
    let m = c.in-Ok-step.ensures in
    let out = subst (λ (n : Step). LeavesLeaf n mid) c.in-Over.is e.outside in
    let s = e.stands in
    let given = subst (λ (b : BlockStep). walking.GivesBrief mid.walk b lines.items walk) c.in-Long-met.is m.given in
    (s.0, same-at mid walk lines out m.text s.0 s.1 (given.0 s.0 s.1.blocks.remains))

pub returns-in-Long-met-clause-given : goal.returns-in-Long-met-clause-given
returns-in-Long-met-clause-given g c = λ reader r.
    let old = c.args.self.now in
    let head = c.loop-span.self in
    let mid = c.next_in_leaf.new.self in
    let walk = c.step.new.self in
    let lines = c.step.new.lines in
    let e = c.in-Ok.ensures in
    let m = c.in-Ok-step.ensures in
    let out = subst (λ (n : Step). LeavesLeaf n mid) c.in-Over.is e.outside in
    let given = subst (λ (b : BlockStep). walking.GivesBrief mid.walk b lines.items walk) c.in-Long-met.is m.given in
    let p = c.loop-span.invariant.reads reader r in
    let none = subst (λ (n : Step). GivesInLeaf g.F.BrokenLinkCallback.answers g.E.EntityLookup.replacement reader head n mid) c.in-Over.is (e.given reader p.read_by) in
    let q = passes-on g.F.BrokenLinkCallback.answers g.E.EntityLookup.replacement reader old head mid [] p none in
    let by = q.read_by in
    passes-on g.F.BrokenLinkCallback.answers g.E.EntityLookup.replacement reader old mid _ [] q (long-passes g.F.BrokenLinkCallback.answers g.E.EntityLookup.replacement reader mid walk lines out m.text m.definitions by (given.0 by.left by.stands.blocks.remains))

pub returns-in-Over-met-clause-stands : goal.returns-in-Over-met-clause-stands
returns-in-Over-met-clause-stands g c =
    let old = c.args.self.now in
    let head = c.loop-span.self in
    let mid = c.next_in_leaf.new.self in
    let walk = c.step.new.self in
    let lines = c.step.new.lines in
    let e = c.in-Ok.ensures in
    let m = c.in-Ok-step.ensures in
    let out = subst (λ (n : Step). LeavesLeaf n mid) c.in-Over.is e.outside in
    let s = e.stands in
    let given = subst (λ (b : BlockStep). walking.GivesBrief mid.walk b lines.items walk) c.in-Over-met.is m.given in
    let gives = given s.0 s.1.blocks.remains in
    ([], over-at mid walk lines out m.text s.0 s.1 gives.0 gives.1)

pub returns-in-Over-met-clause-given : goal.returns-in-Over-met-clause-given
returns-in-Over-met-clause-given g c = λ reader r.
    let old = c.args.self.now in
    let head = c.loop-span.self in
    let mid = c.next_in_leaf.new.self in
    let walk = c.step.new.self in
    let lines = c.step.new.lines in
    let e = c.in-Ok.ensures in
    let m = c.in-Ok-step.ensures in
    let out = subst (λ (n : Step). LeavesLeaf n mid) c.in-Over.is e.outside in
    let given = subst (λ (b : BlockStep). walking.GivesBrief mid.walk b lines.items walk) c.in-Over-met.is m.given in
    let p = c.loop-span.invariant.reads reader r in
    let none = subst (λ (n : Step). GivesInLeaf g.F.BrokenLinkCallback.answers g.E.EntityLookup.replacement reader head n mid) c.in-Over.is (e.given reader p.read_by) in
    let q = passes-on g.F.BrokenLinkCallback.answers g.E.EntityLookup.replacement reader old head mid [] p none in
    let by = q.read_by in
    let gives = given by.left by.stands.blocks.remains in
    ends-on g.F.BrokenLinkCallback.answers g.E.EntityLookup.replacement reader old mid _ q (over-ends g.F.BrokenLinkCallback.answers g.E.EntityLookup.replacement reader mid walk lines out m.text m.definitions by gives.0)

pub returns-in_default-clause-refused : goal.returns-in_default-clause-refused
returns-in_default-clause-refused g c =
    record {
      ends = (λ reader exchanges events m b. c.in_default.ensures.ends reader exchanges events (c.loop-span.invariant.ends reader exchanges events m b) b);
      asked = (asked-same g.F.BrokenLinkCallback.answers c.args.self.now.callback c.loop-span.self.callback c.next_in_leaf.new.self.callback c.loop-span.invariant.asked c.in_default.ensures.around.callback);
      stops = λ reader r.
          stops-here g.F.BrokenLinkCallback.answers g.E.EntityLookup.replacement reader c.args.self.now c.loop-span.self c.next_in_leaf.new.self (c.loop-span.invariant.reads reader r) c.in_default.ensures.around.callback;
    }

pub returns-in_default-step-clause-refused : goal.returns-in_default-step-clause-refused
returns-in_default-step-clause-refused g c =
    record {
      ends = (λ reader exchanges events m b.
          let head = c.loop-span.self in
          let mid = c.next_in_leaf.new.self in
          let e = c.in-Ok.ensures in
          let out = subst (λ (n : Step). LeavesLeaf n mid) c.in-Over.is e.outside in
          let keeps = subst (λ (x : Step). KeepsAfterLeaf g.E.EntityLookup.replacement reader head x mid) c.in-Over.is (e.kept reader) in
          blocks-begin g.E.EntityLookup.replacement reader mid out c.in_default-step.ensures.ends exchanges events (keeps exchanges events (c.loop-span.invariant.ends reader exchanges events m b)) b);
      asked = (asked-same g.F.BrokenLinkCallback.answers c.args.self.now.callback c.loop-span.self.callback c.next_in_leaf.new.self.callback c.loop-span.invariant.asked c.in-Ok.ensures.around.callback);
      stops = λ reader r.
          stops-here g.F.BrokenLinkCallback.answers g.E.EntityLookup.replacement reader c.args.self.now c.loop-span.self _ (c.loop-span.invariant.reads reader r) c.in-Ok.ensures.around.callback;
    }

pub returns-in_err-enter_leaf-in-Leaf-clause-refused : goal.returns-in_err-enter_leaf-in-Leaf-clause-refused
returns-in_err-enter_leaf-in-Leaf-clause-refused g c =
    on-err c.from_residual.result _ (record {
      ends = (λ reader exchanges events n b.
          let head = c.loop-span.self in
          let mid = c.next_in_leaf.new.self in
          let e = c.in-Ok.ensures in
          let out = subst (λ (n : Step). LeavesLeaf n mid) c.in-Over.is e.outside in
          let keeps = subst (λ (x : Step). KeepsAfterLeaf g.E.EntityLookup.replacement reader head x mid) c.in-Over.is (e.kept reader) in
          let kept = keeps exchanges events (c.loop-span.invariant.ends reader exchanges events n b) in
          let by = kept.read_by in
          let given = subst (λ (b : BlockStep). walking.GivesBrief mid.walk b c.step.new.lines.items c.step.new.self) c.in-Leaf.is c.in-Ok-step.ensures.given in
          let met = given by.left by.stands.blocks.remains in
          text-begins g.E.EntityLookup.replacement reader mid out by met.0 met.1 met.2 (λ empty. c.in_err-enter_leaf-in-Leaf.ensures.lines (met.3.are ∙ ap lines_of empty)) exchanges events kept b);
      asked = (asked-on g.F.BrokenLinkCallback.answers c.args.self.now.callback c.loop-span.self.callback c.next_in_leaf.new.self.callback c.enter_leaf.new.self.callback c.loop-span.invariant.asked c.in-Ok.ensures.around.callback c.in_err-enter_leaf-in-Leaf.ensures.asked);
      stops = (λ reader r. (let head = c.loop-span.self in
          let mid = c.next_in_leaf.new.self in
          let walk = c.step.new.self in
          let lines = c.step.new.lines in
          let e = c.in-Ok.ensures in
          let m = c.in-Ok-step.ensures in
          let out = subst (λ (n : Step). LeavesLeaf n mid) c.in-Over.is e.outside in
          let p = c.loop-span.invariant.reads reader r in
          let none = subst (λ (n : Step). GivesInLeaf g.F.BrokenLinkCallback.answers g.E.EntityLookup.replacement reader head n mid) c.in-Over.is (e.given reader p.read_by) in
          let q = passes-on g.F.BrokenLinkCallback.answers g.E.EntityLookup.replacement reader c.args.self.now head mid [] p none in
          let by = q.read_by in
          let given = subst (λ (b : BlockStep). walking.GivesBrief mid.walk b lines.items walk) c.in-Leaf.is m.given in
          let met = given by.left by.stands.blocks.remains in
          let here = before-leaf mid walk lines out m.text c.in-Leaf.is_cell _ by.left met.0 met.1 by.stands met.2 met.3 met.4 met.5 refl in
          let placed : ArePlaced reader (Content met.0 ∷ met.1) = subst (ArePlaced reader) met.2 by.placed in
          stops-leaf g.F.BrokenLinkCallback.answers g.E.EntityLookup.replacement reader c.args.self.now mid c.enter_leaf.new.self met.0 met.1 out q met.2
          (c.in_err-enter_leaf-in-Leaf.ensures.stops reader met.0 met.1 here placed.0 (met-same g.F.BrokenLinkCallback.answers g.E.EntityLookup.replacement reader mid walk lines out m.text m.definitions _ by.same))));
    })

pub returns-in-Long-clause-long : goal.returns-in-Long-clause-long
returns-in-Long-clause-long g c =
    let replacement = g.E.EntityLookup.replacement in
    let comes = subst (λ (n : Step). IfNextLong n (ComesLong replacement c.loop-span.self c.next_in_leaf.new.self)) c.in-Long.is c.in-Ok.ensures.long in
    record {
      long = comes.long;
      no_end = λ reader exchanges events m b. comes.no_end reader exchanges events (c.loop-span.invariant.ends reader exchanges events m b) b;
    }

pub returns-in-Long-met-clause-long : goal.returns-in-Long-met-clause-long
returns-in-Long-met-clause-long g c =
    let replacement = g.E.EntityLookup.replacement in
    let head = c.loop-span.self in
    let mid = c.next_in_leaf.new.self in
    let walk = c.step.new.self in
    let lines = c.step.new.lines in
    let e = c.in-Ok.ensures in
    let out = subst (λ (n : Step). LeavesLeaf n mid) c.in-Over.is e.outside in
    let given = subst (λ (b : BlockStep). walking.GivesBrief mid.walk b lines.items walk) c.in-Long-met.is c.in-Ok-step.ensures.given in
    record {
      long = subst (λ b. IsLongIn b (record mid { walk = walk; lines = lines })) (sym out) given.1;
      no_end = λ reader exchanges events m b.
          let keeps = subst (λ (x : Step). KeepsAfterLeaf replacement reader head x mid) c.in-Over.is (e.kept reader) in
          blocks-begin replacement reader mid out (λ left r. long-no-end walk given.1 left (given.0 left r)) exchanges events (keeps exchanges events (c.loop-span.invariant.ends reader exchanges events m b)) b;
    }
