use Rattle.std.specs.Prelude.{⊤}
use Rattle.cmark_parser.specs.Parsing.{IsReady, events_left}
use Rattle.pulldown_cmark_c.specs.Flat.{says-nothing}
use Rattle.pulldown_cmark_c.proofs.FlatSteps.{WritesFlat}
use Rattle.pulldown_cmark_c.proofs.flat.flat_of_rest.Given as goal

abbrev pub invariant-loop-output : goal.invariant-loop-output
invariant-loop-output g l = WritesFlat says-nothing g.E.EntityLookup.replacement l.initial.iter.parser l.iter.parser l.output.items × IsReady (λ _. ⊤) l.iter.parser

abbrev pub decreases-loop-output : goal.decreases-loop-output
decreases-loop-output g l = events_left l.iter.parser
