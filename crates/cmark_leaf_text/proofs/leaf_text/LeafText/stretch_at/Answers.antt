use Rattle.std.proofs.Common.{◌≡◌, ◌<◌, ◌≤◌, ◌+◌, ℕ, List, length, ap, ◌∙◌, arith, get_or}
use Rattle.std.specs.Prelude.{slice_get}
use Rattle.std.proofs.lemmas.Option.{slice_get-get_or}
use Rattle.cmark_leaf_text.specs.declared.stretch.Stretch.{Stretch}
use Rattle.cmark_leaf_text.proofs.StretchSteps.{first-begins, some-stretch, nothing-line_end}
use Rattle.cmark_leaf_text.proofs.leaf_text.LeafText.stretch_at.Goals as goal

pub loop-high-init : goal.loop-high-init
loop-high-init c =
    let source : List ℕ = c.args.self.now.source.now in
    let items : List Stretch = c.args.self.now.stretches.items in
    let n = c.len-high.ensures in
    let k = some-stretch source items c.args.at c.requires.within in
    record {
      some = (let l : 0 < c.len-high.result = omega (arith, n, k) in l);
      within = (let l : c.len-high.result ≤ length items = omega (arith, n) in l);
      before = (λ s e. let b = first-begins source items s c.requires.read.stretches e in (let l : s.at ≤ c.args.at = omega (arith, b) in l));
      next = (λ s e. absurd (nothing-line_end source items c.len-high.result s (let l : length items ≤ c.len-high.result = omega (arith, n) in l) e));
    }

pub returns : goal.returns
returns c =
    let items : List Stretch = c.args.self.now.stretches.items in
    let i = c.loop-high.invariant in
    let some = i.some in
    let within = i.within in
    let t = c.loop-high-test.false in
    let lt : c.loop-high.low < length items = omega (arith, some, within) in
    let first : Stretch = record { at = 0; start = 0; end = 0 } in
    record {
      stretch = get_or items c.loop-high.low first;
      is = slice_get-get_or items c.loop-high.low first lt;
      before = i.before (get_or items c.loop-high.low first) (slice_get-get_or items c.loop-high.low first lt);
      next = (λ s e. i.next s (ap (slice_get items) (let n : c.loop-high.high ≡ c.loop-high.low + 1 = omega (arith, t, some) in n) ∙ e));
    }
