use Rattle.std.proofs.Common.{◌≡◌, ◌<◌, ◌≤◌, ◌+◌, ℕ, List, length, Some, refl, sym, subst, ◌∙◌, arith, get_or}
use Rattle.std.specs.Prelude.{slice_get}
use Rattle.std.proofs.lemmas.Option.{slice_get_read, slice_get_within}
use Rattle.cmark_leaf_text.specs.Stretches.{FindsStretch, AreStretches, joined}
use Rattle.cmark_leaf_text.specs.declared.stretch.Stretch.{Stretch}
use Rattle.cmark_leaf_text.proofs.StretchSteps.{Placed, found, placed}
use Rattle.cmark_leaf_text.proofs.leaf_text.LeafText.place.Goals as goal

there : (source : List ℕ) (items : List Stretch) (at i : ℕ) (s : Stretch) → AreStretches source 0 0 items → FindsStretch items at i → s ≡ get_or items i s
    → at < length (joined source items) → Placed source items at s
there source items at i s all f e lt =
    let here : slice_get items i ≡ Some s = slice_get_read items (length items) i s refl (slice_get_within items i f.stretch f.is) e in
    let same : f.stretch ≡ s = let h : Some f.stretch ≡ Some s = sym f.is ∙ here in cc in
    found source items at i s all here (subst (λ (t : Stretch). t.at ≤ at) same f.before) f.next lt

pub place-requires-clause-following : goal.place-requires-clause-following
place-requires-clause-following c = (there c.args.self.now.source.now c.args.self.now.stretches.items c.args.at c.stretch_at.result c.index-stretch.result.now c.requires.read.stretches c.stretch_at.ensures c.index-stretch.ensures c.requires.within).inside

pub returns-clause-value : goal.returns-clause-value
returns-clause-value c =
    let r = there c.args.self.now.source.now c.args.self.now.stretches.items c.args.at c.stretch_at.result c.index-stretch.result.now c.requires.read.stretches c.stretch_at.ensures c.index-stretch.ensures c.requires.within in
    c.place.ensures ∙ sym r.place

pub returns-clause-within : goal.returns-clause-within
returns-clause-within c =
    let source : List ℕ = c.args.self.now.source.now in
    let items : List Stretch = c.args.self.now.stretches.items in
    let lt = c.requires.within in
    let r = there source items c.args.at c.stretch_at.result c.index-stretch.result.now c.requires.read.stretches c.stretch_at.ensures c.index-stretch.ensures c.requires.within in
    let p = placed source 0 0 items c.args.at c.requires.read.stretches (let q : 0 ≤ c.args.at = omega arith in q) (let q : c.args.at < 0 + length (joined source items) = omega (arith, lt) in q) in
    subst (λ k. k < length source) (r.place ∙ sym c.place.ensures) p.within
