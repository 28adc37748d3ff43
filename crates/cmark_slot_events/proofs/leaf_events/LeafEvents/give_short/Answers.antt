use Rattle.std.proofs.Common.{sym, subst}
use Rattle.std.proofs.lemmas.List.Elements.{All-push}
use Rattle.cmark_leaf_text.specs.Reads.{IsPart, source_of}
use Rattle.cmark_text.specs.declared.short.Short.TheVariants as short
use Rattle.cmark_slot_events.specs.Shorts.{GivesShort}
use Rattle.cmark_slot_events.specs.Opens.{AreOpened}
use Rattle.cmark_slot_events.specs.declared.leaf_events.Opened.{Opened}
use Rattle.cmark_slot_events.proofs.ShortFirst.{alone, begin-short-now, begin-some, ended-first, nothing-first}
use Rattle.cmark_slot_events.proofs.ShortSteps.{begin-gives, passes}
use Rattle.cmark_slot_events.proofs.leaf_events.LeafEvents.give_short.Goals as goal

pub returns-in-End-clause-opened : goal.returns-in-End-clause-opened
returns-in-End-clause-opened c = c.end_short.ensures.opened (source_of c.args.leaf.now) c.requires.opened

pub returns-in-End-clause-stands : goal.returns-in-End-clause-stands
returns-in-End-clause-stands c = c.end_short.ensures.stands c.args.leaf.now c.args.slot

pub returns-in-End-clause-gives : goal.returns-in-End-clause-gives
returns-in-End-clause-gives c =
    passes (source_of c.args.leaf.now) c.args.self.now.walk.opened.items c.end_short.new.self.walk.opened.items c.end_short.result (c.end_short.ensures.gives (source_of c.args.leaf.now) c.requires.opened)

pub returns-in-End-clause-first : goal.returns-in-End-clause-first
returns-in-End-clause-first c = λ texts links following.
    ended-first c.args.leaf.now texts links c.args.slot following c.args.self.now.walk.opened.items c.end_short.new.self.walk.opened.items c.end_short.result c.in-End.is (c.end_short.ensures.first (source_of c.args.leaf.now) c.requires.opened)

pub returns-in-Nothing-clause-first : goal.returns-in-Nothing-clause-first
returns-in-Nothing-clause-first c = λ texts links following. nothing-first c.args.leaf.now texts links c.args.slot following c.args.self.now.walk.opened.items c.in-Nothing.is

pub returns-in_default-clause-first : goal.returns-in_default-clause-first
returns-in_default-clause-first c = λ texts links following.
    c.single_short.ensures.first texts links c.args.self.now.walk.opened.items following

pub single_short-requires-clause-alone : goal.single_short-requires-clause-alone
single_short-requires-clause-alone c = alone c.args.slot.kind c.in_default.not-Begin c.in_default.not-BeginLink c.in_default.not-End c.in_default.not-Nothing

pub returns-in-BeginLink-clause-first : goal.returns-in-BeginLink-clause-first
returns-in-BeginLink-clause-first c = λ texts links following. begin-some c.args.leaf.now texts links c.args.slot following c.args.self.now.walk.opened.items _ _ c.in-BeginLink.is

pub returns-in_ok-push-in-Begin-clause-opened : goal.returns-in_ok-push-in-Begin-clause-opened
returns-in_ok-push-in-Begin-clause-opened c =
    let source = source_of c.args.leaf.now in
    subst (AreOpened source) (sym c.in_ok-push-in-Begin.ensures.items)
    (All-push (λ (one : Opened). IsPart source one.start one.end) c.args.self.now.walk.opened.items _ c.requires.opened c.range-range.ensures.part)

pub returns-in_ok-push-in-Begin-clause-gives : goal.returns-in_ok-push-in-Begin-clause-gives
returns-in_ok-push-in-Begin-clause-gives c =
    let source = source_of c.args.leaf.now in
    let opened = c.args.self.now.walk.opened.items in
    subst (GivesShort source opened (short.Start c.plain_element-tag.result.0) c.range-range.result.start c.range-range.result.end) (sym c.in_ok-push-in-Begin.ensures.items)
    (begin-gives source c.range-range.result.start c.range-range.result.end c.plain_element-tag.result.0 c.plain_element-tag.result.1 opened c.range-range.ensures.part c.plain_element-tag.ensures.span c.plain_element-tag.ensures.end)

pub returns-in_ok-push-in-Begin-clause-first : goal.returns-in_ok-push-in-Begin-clause-first
returns-in_ok-push-in-Begin-clause-first c = λ texts links following.
    let leaf = c.args.leaf.now in
    let opened = c.args.self.now.walk.opened.items in
    begin-short-now leaf texts links c.args.slot following opened c.push.new.self.items c.plain_element-tag.result.0 c.plain_element-tag.result.1 c.in-Begin.element c.range-range.result.start c.range-range.result.end c.requires.slot.read c.requires.slot.is.part c.in-Begin.is
    c.plain_element-tag.ensures.value c.plain_element-tag.ensures.span c.plain_element-tag.ensures.end c.range-range.ensures.start c.range-range.ensures.end c.in_ok-push-in-Begin.ensures.items
