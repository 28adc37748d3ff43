use Rattle.memchr.specs.Find.{is_byte3}
use Rattle.cmark_scan_bytes.proofs.Lists.{from_first, first_some, first_none}
use Rattle.cmark_scan_bytes.proofs.find.at_first3.Goals as goal

pub returns-in-Some-clause-value : goal.returns-in-Some-clause-value
returns-in-Some-clause-value c = from_first (is_byte3 c.args.one c.args.two c.args.three) _ _ (first_some _ _ _ c.in-Some.ensures)

pub returns-in-None-clause-value : goal.returns-in-None-clause-value
returns-in-None-clause-value c = from_first (is_byte3 c.args.one c.args.two c.args.three) _ _ (first_none _ _ c.in-None.ensures)
