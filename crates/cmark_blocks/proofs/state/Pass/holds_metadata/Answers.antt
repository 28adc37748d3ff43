use Rattle.std.proofs.Common.{◌≡◌, true, false, ◌||◌, sym, ap, ◌∙◌}
use Rattle.cmark_grammar.specs.Metadata.{ends_metadata}
use Rattle.cmark_grammar.specs.Rows.{is_blank_line}
use Rattle.cmark_values.specs.Shown.{shown_metadata_block_kind}
use Rattle.cmark_line_rules.specs.Rests.{row_of}
use Rattle.cmark_block_model.specs.BlockPass.{ahead_in}
use Rattle.cmark_blocks.specs.Ahead.{lines_at}
use Rattle.cmark_blocks.proofs.MetadataSteps.{holds-first, ended-none, ended-next, or-true}
use Rattle.cmark_blocks.proofs.state.Pass.holds_metadata.Goals as goal
use Rattle.cmark_blocks.proofs.state.Pass.holds_metadata.Goals.{then-is_blank-via-then-is_blank, then-is_blank-via-else-is_blank+then-ends_metadata}

pub returns-then-is_blank : goal.returns-then-is_blank
returns-then-is_blank g c text options lookup m runs =
    let kind = shown_metadata_block_kind c.args.kind in
    let first = row_of c.in-Some.first in
    let ends : (is_blank_line first || ends_metadata kind first) ≡ true = elim c.then-is_blank.branch [
      | then-is_blank-via-then-is_blank w ↦ ap (λ b. b || ends_metadata kind first) (sym c.is_blank.ensures ∙ w.if-is_blank.true)
      | then-is_blank-via-else-is_blank+then-ends_metadata w ↦ or-true (is_blank_line first) (ends_metadata kind first) (sym w.ends_metadata.ensures ∙ w.if-ends_metadata.true)
    ] in
    sym (holds-first kind (ahead_in text options lookup m.outer (lines_at text (row_of c.args.rest).line_end)) first (ahead_in text options lookup m.outer (lines_at text first.line_end)) (c.in-Some.ensures.next text options lookup m runs) true ends)

pub loop-next-init : goal.loop-next-init
loop-next-init g c = (
  c.in-Some.ensures.placed,
  λ text options lookup m runs.
      let kind = shown_metadata_block_kind c.args.kind in
      let first = row_of c.in-Some.first in
      let ends : (is_blank_line first || ends_metadata kind first) ≡ false =
      ap (λ b. b || ends_metadata kind first) (sym c.is_blank.ensures ∙ c.if-is_blank.false) ∙ sym c.ends_metadata.ensures ∙ c.if-ends_metadata.false in
      holds-first kind (ahead_in text options lookup m.outer (lines_at text (row_of c.args.rest).line_end)) first (ahead_in text options lookup m.outer (lines_at text first.line_end)) (c.in-Some.ensures.next text options lookup m runs) false ends,
)

pub returns-then-ends_metadata-2 : goal.returns-then-ends_metadata-2
returns-then-ends_metadata-2 g c text options lookup m runs =
    let kind = shown_metadata_block_kind c.args.kind in
    let next = row_of c.in-Some-line_ahead.next in
    sym (c.loop-next.invariant.1 text options lookup m runs
    ∙ ended-next kind (ahead_in text options lookup m.outer (lines_at text (row_of c.loop-next.last).line_end)) next (ahead_in text options lookup m.outer (lines_at text next.line_end)) (c.in-Some-line_ahead.ensures.next text options lookup m runs)
    true (sym c.ends_metadata-in-Some-line_ahead.ensures ∙ c.if-ends_metadata-2.true))

pub loop-next-preserved : goal.loop-next-preserved
loop-next-preserved g c = (
  c.in-Some-line_ahead.ensures.placed,
  λ text options lookup m runs.
      let kind = shown_metadata_block_kind c.args.kind in
      let next = row_of c.in-Some-line_ahead.next in
      c.loop-next.invariant.1 text options lookup m runs
      ∙ ended-next kind (ahead_in text options lookup m.outer (lines_at text (row_of c.loop-next.last).line_end)) next (ahead_in text options lookup m.outer (lines_at text next.line_end)) (c.in-Some-line_ahead.ensures.next text options lookup m runs)
      false (sym c.ends_metadata-in-Some-line_ahead.ensures ∙ c.if-ends_metadata-2.false),
)

pub returns : goal.returns
returns g c text options lookup m runs =
    sym (c.loop-next.invariant.1 text options lookup m runs
    ∙ ended-none (shown_metadata_block_kind c.args.kind) (ahead_in text options lookup m.outer (lines_at text (row_of c.loop-next.last).line_end)) (c.in_default-line_ahead.ensures.next text options lookup m runs))
