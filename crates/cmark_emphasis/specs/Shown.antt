-- Runs and pairs of the code as values of the grammar.
use Rattle.std.specs.Prelude.{◌+◌, ◌<◌, ◌^◌, List, [], ◌∷◌, Option, Some, None, map, reverse}
use Rattle.cmark_grammar.specs.Emphasis.{Run, Pair}
use Rattle.cmark_grammar.specs.Flanking.{Flanking}
use Rattle.cmark_grammar.specs.Quotes.{Quote}
use Rattle.cmark_emphasis.specs.declared.quotes.Quote as code_quote
use Rattle.cmark_emphasis.specs.declared.flanking.Flanking as code_flanking
use Rattle.cmark_grammar.specs.Spans.{SpanKind}
use Rattle.cmark_grammar.specs.Spans as grammar
use Rattle.cmark_emphasis.specs.declared.span.SpanKind as code_kind
use Rattle.cmark_emphasis.specs.declared.span.SpanKind.TheVariants as code
use Rattle.cmark_emphasis.specs.declared.run.Run as code_run
use Rattle.cmark_emphasis.specs.declared.run.PlacedRun as code_placed
use Rattle.cmark_emphasis.specs.declared.run.Pair as code_pair

abbrev pub shown_run : code_run.Run → Run
shown_run run = record { delimiter = run.delimiter; run_length = run.run_length; at = run.at; left = run.left; opens = run.opens; closes = run.closes }

-- a whole run at its slot
abbrev pub shown_placed : code_placed.PlacedRun → Run
shown_placed p = record { delimiter = p.delimiter; run_length = p.run_length; at = p.slot; left = p.run_length; opens = p.opens; closes = p.closes }

-- a whole run without its slots
abbrev pub shown_whole : code_placed.PlacedRun → Run
shown_whole p = record { delimiter = p.delimiter; run_length = p.run_length; at = 0; left = p.run_length; opens = p.opens; closes = p.closes }

abbrev pub shown_pair : code_pair.Pair → Pair
shown_pair pair = record { delimiter = pair.delimiter; from = pair.from; to = pair.to; count = pair.count }

abbrev pub pairs_in : Option code_pair.Pair → List Pair
pairs_in None = []
pairs_in (Some pair) = shown_pair pair ∷ []

-- the slots of the run, if it has any, have indices that fit in a usize
abbrev pub Fits : code_placed.PlacedRun → Type 0
Fits p = 0 < p.run_length → p.slot + p.run_length < 2 ^ 64

-- the indices of the run fit in a usize
abbrev pub IsPlaced : code_run.Run → Type 0
IsPlaced run = run.at + run.left < 2 ^ 64

-- the open runs, the nearest first, of a stack whose last is the nearest
abbrev pub open_runs : List code_run.Run → List Run
open_runs stack = reverse (map shown_run stack)

abbrev pub shown_flanking : code_flanking.Flanking → Flanking
shown_flanking flanking = record { opens = flanking.opens; closes = flanking.closes }

abbrev pub shown_kind : code_kind.SpanKind → SpanKind
shown_kind code.Emphasis = grammar.Emphasis
shown_kind code.Strong = grammar.Strong
shown_kind code.SingleTilde = grammar.SingleTilde
shown_kind code.DoubleTilde = grammar.DoubleTilde
shown_kind code.Caret = grammar.Caret
shown_kind code.DoubleEquals = grammar.DoubleEquals

abbrev pub shown_quote : code_quote.Quote → Quote
shown_quote quote = record { double = quote.double; opens = quote.opens; closes = quote.closes }
