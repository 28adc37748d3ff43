use Rattle.std.proofs.Common.{◌≤◌, ◌+◌, ◌-◌, ◌++◌, ◌∷◌, [], List, ℕ, sym, ap, subst, ◌∙◌, arith, refl}
use Rattle.cmark_grammar.specs.Tokens.{slice}
use Rattle.cmark_leaf_text.specs.Stretches.{IsOpen, PlacesMore, joined}
use Rattle.cmark_leaf_text.specs.declared.stretch.Stretch.{Stretch}
use Rattle.cmark_leaf_text.proofs.StretchSteps.{grown, grown-text, ordered-open, added, added-text}
use Rattle.cmark_leaf_text.proofs.PlaceSteps.{added-places, grown-places}
use Rattle.cmark_leaf_text.proofs.leaf_text.LeafText.push_part.Goals as goal

pub returns-then-opened-start-clause-open : goal.returns-then-opened-start-clause-open
returns-then-opened-start-clause-open c =
    let b = c.requires.part.following in
    let o = c.requires.part.content in
    grown c.args.self.now.source.now c.args.self.now.stretches.items c.args.opened c.args.end c.requires.open (let l : c.args.opened.end ≤ c.args.end = omega (arith, b, o) in l) c.requires.part.within c.requires.part.ends

pub returns-then-opened-start-clause-text : goal.returns-then-opened-start-clause-text
returns-then-opened-start-clause-text c =
    let b = c.requires.part.following in
    let o = c.requires.part.content in
    let source : List ℕ = c.args.self.now.source.now in
    let items : List Stretch = c.args.self.now.stretches.items in
    grown-text source items c.args.opened c.args.end (ordered-open source items c.args.opened c.requires.open) (let l : c.args.opened.end ≤ c.args.end = omega (arith, b, o) in l)
    ∙ ap (λ n. joined source (items ++ (c.args.opened ∷ [])) ++ slice source n c.args.end) c.if-opened-start.true

pub overflow_sub-at : goal.overflow_sub-at
overflow_sub-at c = ordered-open c.args.self.now.source.now c.args.self.now.stretches.items c.args.opened c.requires.open

pub returns-clause-open : goal.returns-clause-open
returns-clause-open c =
    let source : List ℕ = c.args.self.now.source.now in
    let items : List Stretch = c.args.self.now.stretches.items in
    let next : Stretch = record { at = c.args.opened.at + (c.args.opened.end - c.args.opened.start); start = c.args.start; end = c.args.end } in
    let e = c.requires.part.ending in
    subst (λ (ss : List Stretch). IsOpen source ss next) (sym c.in_ok-push.ensures.items)
    (added source items c.args.opened next c.requires.open
    (record { place = refl; following = c.requires.part.following; ordered = c.requires.part.content; within = c.requires.part.within; starts = c.requires.part.starts; ends = c.requires.part.ends }))

pub returns-clause-text : goal.returns-clause-text
returns-clause-text c =
    let source : List ℕ = c.args.self.now.source.now in
    let items : List Stretch = c.args.self.now.stretches.items in
    let next : Stretch = record { at = c.args.opened.at + (c.args.opened.end - c.args.opened.start); start = c.args.start; end = c.args.end } in
    ap (λ (ss : List Stretch). joined source (ss ++ (next ∷ []))) c.in_ok-push.ensures.items
    ∙ added-text source items c.args.opened next

pub returns-then-opened-start-clause-places : goal.returns-then-opened-start-clause-places
returns-then-opened-start-clause-places c =
    grown-places c.args.self.now.source.now c.args.self.now.stretches.items c.args.opened c.args.start c.args.end c.requires.open (returns-then-opened-start-clause-open c) c.if-opened-start.true c.requires.part.content

pub returns-clause-places : goal.returns-clause-places
returns-clause-places c =
    let source : List ℕ = c.args.self.now.source.now in
    let items : List Stretch = c.args.self.now.stretches.items in
    let next : Stretch = record { at = c.args.opened.at + (c.args.opened.end - c.args.opened.start); start = c.args.start; end = c.args.end } in
    let open_now = subst (λ (ss : List Stretch). IsOpen source ss next) c.in_ok-push.ensures.items (returns-clause-open c) in
    subst (λ (ss : List Stretch). PlacesMore source (items ++ (c.args.opened ∷ [])) c.args.start (c.args.end - c.args.start) (ss ++ (next ∷ []))) (sym c.in_ok-push.ensures.items)
    (added-places source items c.args.opened next open_now)
