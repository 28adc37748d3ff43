use Rattle.std.proofs.Common.{None, sym}
use Rattle.cmark_line_rules.specs.Rests.{row_of}
use Rattle.cmark_line_rules.proofs.OpeningRows.{block_quote-begun, block_quote-inside}
use Rattle.cmark_line_rules.proofs.PlainRows.{quote-no-item}
use Rattle.cmark_line_rules.proofs.container.block_quote_start.Goals as goal

pub returns-clause-container : goal.returns-clause-container
returns-clause-container c options = block_quote-begun options (row_of c.args.rest) (row_of c.in_ok-inside.inside) (sym (quote-no-item (row_of c.args.rest) c.requires)) c.in_ok-inside.ensures

pub returns-clause-inside : goal.returns-clause-inside
returns-clause-inside c options = block_quote-inside (row_of c.args.rest) (row_of c.in_ok-inside.inside) None c.in_ok-inside.ensures
