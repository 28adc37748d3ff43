use Rattle.std.proofs.Common.{◌+◌, ℕ, List, sym, subst}
use Rattle.cmark_leaf_text.specs.Reads.{IsPart}
use Rattle.cmark_leaf_text.specs.Stretches.{place_in}
use Rattle.cmark_leaf_text.specs.declared.stretch.Stretch.{Stretch}
use Rattle.cmark_leaf_text.proofs.StretchSteps.{part-there}
use Rattle.cmark_leaf_text.proofs.leaf_text.LeafText.range.Goals as goal

pub returns-clause-part : goal.returns-clause-part
returns-clause-part c =
    let source : List ℕ = c.args.self.now.source.now in
    let items : List Stretch = c.args.self.now.stretches.items in
    subst (λ a. IsPart source a (c.place-last.result + 1)) (sym c.place-start.ensures.value)
    (subst (λ b. IsPart source (place_in items c.args.from) (b + 1)) (sym c.place-last.ensures.value)
    (part-there source items c.args.from c.args.to c.requires.read.stretches c.requires.part))
