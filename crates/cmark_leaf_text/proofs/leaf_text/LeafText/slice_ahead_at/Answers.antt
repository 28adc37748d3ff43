use Rattle.std.proofs.Common.{◌≡◌, ◌+◌, ◌-◌, ℕ, List, drop, sym, take, ap, ◌∙◌, arith}
use Rattle.cmark_leaf_text.specs.Stretches.{place_in}
use Rattle.cmark_leaf_text.specs.declared.stretch.Stretch.{Stretch}
use Rattle.cmark_leaf_text.proofs.Gapless.{same-bytes}
use Rattle.cmark_leaf_text.proofs.leaf_text.LeafText.slice_ahead_at.Goals as goal

pub returns-then-range-to-clause-text : goal.returns-then-range-to-clause-text
returns-then-range-to-clause-text c =
    let source : List ℕ = c.args.self.now.source.now in
    let items : List Stretch = c.args.self.now.stretches.items in
    let first : ℕ = place_in items c.args.from in
    let last : ℕ = place_in items (c.args.to - 1) + 1 in
    let s = c.requires.start in
    let e = c.requires.end in
    let t = c.if-range-to.true in
    let wide : last - first ≡ c.args.to - c.args.from = omega (arith, s, e, t) in
    ap (λ (l : List ℕ). take (c.args.to - c.args.from) l) (c.source_ahead.ensures ∙ ap (λ (k : ℕ). drop k source) s)
    ∙ ap (λ (n : ℕ). take n (drop first source)) (sym wide)
    ∙ same-bytes source items c.args.from c.args.to c.requires.read.stretches c.requires.part wide
