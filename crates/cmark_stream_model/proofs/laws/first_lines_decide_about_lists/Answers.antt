use Rattle.std.proofs.Common.{ap, ◌∙◌}
use Rattle.cmark_grammar.specs.Blocks.{Nil}
use Rattle.cmark_block_model.specs.BlocksByLine.{Between, close_lines, lines_feed_all}
use Rattle.cmark_stream_model.specs.Growth.{continues}
use Rattle.cmark_stream_model.proofs.Leading.{lines-continue}
use Rattle.cmark_stream_model.proofs.laws.first_lines_decide_about_lists.Goals as goal

pub returns : goal.returns
returns c options list at following r rs are e = ap (λ ls. continues list (close_lines (lines_feed_all options (Between Nil) ls))) are ∙ lines-continue options r rs list e
