use Rattle.std.proofs.Common.{List, drop, length, sym, ap, subst, ◌∙◌, arith}
use Rattle.std.specs.Prelude.{All, map}
use Rattle.cmark_emphasis.specs.Least.{least_examined}
use Rattle.cmark_emphasis.specs.Shown.{Fits, shown_pair, shown_placed}
use Rattle.cmark_emphasis.specs.declared.run.PlacedRun.{PlacedRun}
use Rattle.cmark_values.specs.Shown.{shown_options}
use Rattle.cmark_slots.specs.MarkedSlots.{HaveBytes}
use Rattle.cmark_slots.specs.PairSlots.{AreResolved}
use Rattle.cmark_slots.proofs.PairsWritten.{all-fit, all-found, few-least, few-resolved, least-same, resolved-by, two-are, written-as}
use Rattle.cmark_slots.proofs.delimiter.Delimiters.write.Goals as goal

pub write_two-requires-clause-bytes : goal.write_two-requires-clause-bytes
write_two-requires-clause-bytes c =
    let same = c.runs_from.ensures.value ∙ ap (drop c.args.first) c.as_slice.ensures.value in
    subst (HaveBytes c.args.slots.now.items 0 0) (sym same ∙ two-are c.runs_from.result.now _ c.in-len2.len_at_least c.in-len2.len_below) c.requires.can.bytes

pub returns-in-len2-clause-resolved : goal.returns-in-len2-clause-resolved
returns-in-len2-clause-resolved c =
    let same = c.runs_from.ensures.value ∙ ap (drop c.args.first) c.as_slice.ensures.value in
    subst (λ (l : List PlacedRun). AreResolved (shown_options c.args.options) l c.args.slots.now.items c.write_two.new.slots.items) (sym (sym same ∙ two-are c.runs_from.result.now _ c.in-len2.len_at_least c.in-len2.len_below)) c.write_two.ensures.resolved

pub pair_runs-requires-clause-fits : goal.pair_runs-requires-clause-fits
pair_runs-requires-clause-fits c =
    let same = c.runs_from.ensures.value ∙ ap (drop c.args.first) c.as_slice.ensures.value in
    subst (All Fits) (sym same) (all-fit c.args.slots.now.items 0 0 (drop c.args.first c.args.self.now.placed.items) (omega arith) c.requires.can.bytes)

pub write_pairs-requires-clause-opens : goal.write_pairs-requires-clause-opens
write_pairs-requires-clause-opens c =
    let mine : List PlacedRun = drop c.args.first c.args.self.now.placed.items in
    let same = c.runs_from.ensures.value ∙ ap (drop c.args.first) c.as_slice.ensures.value in
    let found = all-found c.runs_from.result.now mine c.clear.new.self.items c.pair_runs.new.pairs.items c.as_slice-in_default.result.now same c.clear.ensures.items c.as_slice-in_default.ensures.value c.in_ok-pair_runs-in_default.ensures.value in
    (written-as c.args.slots.now.items mine (map shown_pair c.as_slice-in_default.result.now) c.requires.can.bytes c.requires.can.whole found).opens

pub write_pairs-requires-clause-texts : goal.write_pairs-requires-clause-texts
write_pairs-requires-clause-texts c =
    let mine : List PlacedRun = drop c.args.first c.args.self.now.placed.items in
    let same = c.runs_from.ensures.value ∙ ap (drop c.args.first) c.as_slice.ensures.value in
    let found = all-found c.runs_from.result.now mine c.clear.new.self.items c.pair_runs.new.pairs.items c.as_slice-in_default.result.now same c.clear.ensures.items c.as_slice-in_default.ensures.value c.in_ok-pair_runs-in_default.ensures.value in
    (written-as c.args.slots.now.items mine (map shown_pair c.as_slice-in_default.result.now) c.requires.can.bytes c.requires.can.whole found).can

pub returns-in-empty-clause-least : goal.returns-in-empty-clause-least
returns-in-empty-clause-least c =
    let same = c.runs_from.ensures.value ∙ ap (drop c.args.first) c.as_slice.ensures.value in
    let few = ap length same in
    let below = c.in-empty.len_below in
    let none = few-least (drop c.args.first c.args.self.now.placed.items) (omega (arith, few, below)) in
    omega (arith, none)

pub returns-in-empty-clause-resolved : goal.returns-in-empty-clause-resolved
returns-in-empty-clause-resolved c =
    let same = c.runs_from.ensures.value ∙ ap (drop c.args.first) c.as_slice.ensures.value in
    let few = ap length same in
    let below = c.in-empty.len_below in
    few-resolved (shown_options c.args.options) (drop c.args.first c.args.self.now.placed.items) c.args.slots.now.items (omega (arith, few, below)) c.requires.can.bytes c.requires.can.whole

pub returns-in_ok-pair_runs-in_default-clause-least : goal.returns-in_ok-pair_runs-in_default-clause-least
returns-in_ok-pair_runs-in_default-clause-least c =
    let mine : List PlacedRun = drop c.args.first c.args.self.now.placed.items in
    let same = c.runs_from.ensures.value ∙ ap (drop c.args.first) c.as_slice.ensures.value in
    let least = c.in_ok-pair_runs-in_default.ensures.least in
    let here = ap (λ (l : List PlacedRun). least_examined (map shown_placed l)) same ∙ least-same mine in
    omega (arith, least, here)

pub returns-in_ok-pair_runs-in_default-clause-resolved : goal.returns-in_ok-pair_runs-in_default-clause-resolved
returns-in_ok-pair_runs-in_default-clause-resolved c =
    let mine : List PlacedRun = drop c.args.first c.args.self.now.placed.items in
    let same = c.runs_from.ensures.value ∙ ap (drop c.args.first) c.as_slice.ensures.value in
    let found = all-found c.runs_from.result.now mine c.clear.new.self.items c.pair_runs.new.pairs.items c.as_slice-in_default.result.now same c.clear.ensures.items c.as_slice-in_default.ensures.value c.in_ok-pair_runs-in_default.ensures.value in
    resolved-by (shown_options c.args.options) mine (map shown_pair c.as_slice-in_default.result.now) c.args.slots.now.items c.write_pairs.new.slots.items
    (written-as c.args.slots.now.items mine (map shown_pair c.as_slice-in_default.result.now) c.requires.can.bytes c.requires.can.whole found) c.write_pairs.ensures.keeps c.write_pairs.ensures.whole c.write_pairs.ensures.before c.write_pairs.ensures.spans
