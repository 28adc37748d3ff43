use Rattle.std.proofs.Common.{ap, ◌∙◌}
use Rattle.cmark_grammar.specs.Blocks.{Nil}
use Rattle.cmark_block_model.specs.BlocksByLine.{Between, close_lines, lines_feed_all}
use Rattle.cmark_stream_model.specs.Growth.{begins_apart}
use Rattle.cmark_stream_model.proofs.Leading.{lines-apart}
use Rattle.cmark_stream_model.proofs.laws.tails_continue_no_list.Goals as goal

pub returns : goal.returns
returns c options off at following r rs are e = ap (λ ls. begins_apart (close_lines (lines_feed_all options (Between Nil) ls))) are ∙ lines-apart options r rs off e
