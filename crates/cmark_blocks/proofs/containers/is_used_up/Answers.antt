use Rattle.std.proofs.Common.{length, sym, ◌∙◌}
use Rattle.std.proofs.lemmas.List.{nil_from_length}
use Rattle.cmark_line_rules.specs.Rests.{row_of}
use Rattle.cmark_blocks.proofs.EmptySteps.{none-left}
use Rattle.cmark_blocks.proofs.FeedSteps.{is-zero}
use Rattle.cmark_blocks.proofs.containers.is_used_up.Goals as goal

pub returns : goal.returns
returns c none =
    none-left (row_of c.args.rest).columns
    (sym c.bytes.ensures ∙ nil_from_length c.bytes.result.now (is-zero (length c.bytes.result.now) (sym c.is_empty.ensures ∙ c.if-not-is_empty.false)))
    (sym c.remaining_space.ensures ∙ is-zero c.remaining_space.result none)
