use Rattle.std.proofs.Common.{◌∷◌, [], List, ◌∙◌, arith}
use Rattle.std.specs.Prelude.{map}
use Rattle.cmark_emphasis.specs.Shown.{shown_pair, shown_placed}
use Rattle.cmark_emphasis.specs.declared.run.PlacedRun.{PlacedRun}
use Rattle.cmark_values.specs.Shown.{shown_options}
use Rattle.cmark_slots.proofs.PairsWritten.{all-fit, delimiters, delimiters-are, least-same, none-resolved, one-can, one-resolved, pairs-are, written-as}
use Rattle.cmark_slots.proofs.delimiter.write_two.Goals as goal

pub pair_two-requires-clause-first : goal.pair_two-requires-clause-first
pair_two-requires-clause-first c = all-fit c.args.slots.now.items 0 0 (c.args.one ∷ (c.args.other ∷ [])) (omega arith) c.requires.bytes 0 c.args.one (omega arith)

pub pair_two-requires-clause-second : goal.pair_two-requires-clause-second
pair_two-requires-clause-second c = all-fit c.args.slots.now.items 0 0 (c.args.one ∷ (c.args.other ∷ [])) (omega arith) c.requires.bytes 1 c.args.one (omega arith)

pub returns-in_default-clause-least : goal.returns-in_default-clause-least
returns-in_default-clause-least c =
    let mine : List PlacedRun = c.args.one ∷ (c.args.other ∷ []) in
    let least = c.in_default.ensures.least in
    let same = least-same mine in
    omega (arith, least, same)

pub returns-in-Some-clause-least : goal.returns-in-Some-clause-least
returns-in-Some-clause-least c =
    let mine : List PlacedRun = c.args.one ∷ (c.args.other ∷ []) in
    let least = c.in-Some.ensures.least in
    let same = least-same mine in
    omega (arith, least, same)

pub write_pair-requires-clause-opens : goal.write_pair-requires-clause-opens
write_pair-requires-clause-opens c =
    let mine : List PlacedRun = c.args.one ∷ (c.args.other ∷ []) in
    let found = c.in-Some.ensures.value (delimiters (map shown_placed mine)) (delimiters-are (map shown_placed mine)) ∙ pairs-are mine in
    (written-as c.args.slots.now.items mine (shown_pair c.in-Some.pair ∷ []) c.requires.bytes c.requires.whole found).opens.0

pub write_pair-requires-clause-texts : goal.write_pair-requires-clause-texts
write_pair-requires-clause-texts c =
    let mine : List PlacedRun = c.args.one ∷ (c.args.other ∷ []) in
    let found = c.in-Some.ensures.value (delimiters (map shown_placed mine)) (delimiters-are (map shown_placed mine)) ∙ pairs-are mine in
    one-can c.args.slots.now.items mine (shown_pair c.in-Some.pair) (written-as c.args.slots.now.items mine (shown_pair c.in-Some.pair ∷ []) c.requires.bytes c.requires.whole found)

pub returns-in-Some-clause-resolved : goal.returns-in-Some-clause-resolved
returns-in-Some-clause-resolved c =
    let mine : List PlacedRun = c.args.one ∷ (c.args.other ∷ []) in
    let found = c.in-Some.ensures.value (delimiters (map shown_placed mine)) (delimiters-are (map shown_placed mine)) ∙ pairs-are mine in
    one-resolved (shown_options c.args.options) mine (shown_pair c.in-Some.pair) c.args.slots.now.items c.write_pair.new.slots.items
    (written-as c.args.slots.now.items mine (shown_pair c.in-Some.pair ∷ []) c.requires.bytes c.requires.whole found) c.write_pair.ensures.keeps c.write_pair.ensures.whole c.write_pair.ensures.before c.write_pair.ensures.spans

pub returns-in_default-clause-resolved : goal.returns-in_default-clause-resolved
returns-in_default-clause-resolved c =
    let mine : List PlacedRun = c.args.one ∷ (c.args.other ∷ []) in
    none-resolved (shown_options c.args.options) mine c.args.slots.now.items c.requires.bytes c.requires.whole
    (c.in_default.ensures.value (delimiters (map shown_placed mine)) (delimiters-are (map shown_placed mine)) ∙ pairs-are mine)
