use Rattle.std.proofs.Common.{◌<◌, ℕ, List, length}
use Rattle.std.specs.Prelude.{slice_index_or}
use Rattle.std.proofs.lemmas.Option.{slice_get-get_or}
use Rattle.cmark_leaf_text.specs.Stretches.{IsStretch, AreStretches}
use Rattle.cmark_leaf_text.specs.declared.stretch.Stretch.{Stretch}
use Rattle.cmark_leaf_text.proofs.StretchSteps.{stretch-there}
use Rattle.cmark_leaf_text.proofs.leaf_text.copy_stretches.Goals as goal

there : (source : List ℕ) (items : List Stretch) (i : ℕ) → AreStretches source 0 0 items → i < length items
    → let s = slice_index_or items i (record { at = 0; start = 0; end = 0 }) in IsStretch source s.at 0 s
there source items i all lt =
    let s : Stretch = slice_index_or items i (record { at = 0; start = 0; end = 0 }) in
    (stretch-there source 0 0 items i s all (slice_get-get_or items i (record { at = 0; start = 0; end = 0 }) lt)).1

pub range-requires-clause-start_le_end : goal.range-requires-clause-start_le_end
range-requires-clause-start_le_end c = (there c.args.source.now c.args.stretches.now c.loop-stretch.stretch-index c.requires c.loop-stretch-test.true).ordered

pub range-requires-clause-start_boundary : goal.range-requires-clause-start_boundary
range-requires-clause-start_boundary c = λ some. (there c.args.source.now c.args.stretches.now c.loop-stretch.stretch-index c.requires c.loop-stretch-test.true).starts

pub range-requires-clause-end_boundary : goal.range-requires-clause-end_boundary
range-requires-clause-end_boundary c = (there c.args.source.now c.args.stretches.now c.loop-stretch.stretch-index c.requires c.loop-stretch-test.true).ends
