use Rattle.std.proofs.Common.{◌≡◌, ◌≤◌, [], sym, ap, ◌∙◌, arith}
use Rattle.std.proofs.lemmas.Grind.{common_steps}
use Rattle.cmark_values.specs.Shown.{shown_options}
use Rattle.cmark_grammar.specs.Rows.{indent_of}
use Rattle.cmark_grammar.specs.Openings.{Nests, or_else, nests_if, metadata_begun, leaf_of, opens}
use Rattle.cmark_grammar.specs.Metadata.{metadata_kind}
use Rattle.cmark_line_rules.specs.Rests.{row_of}
use Rattle.cmark_line_rules.specs.Starts.{shown_start, inside_of}
use Rattle.cmark_line_rules.proofs.RestSteps.{whole}
use Rattle.cmark_grammar.specs.Letters.{is_letter, first_is}
use Rattle.cmark_line_rules.proofs.FirstBytes.{letter-container}
use Rattle.cmark_line_rules.proofs.PlainRows.{letter-leaf}
use Rattle.cmark_line_rules.proofs.OpeningRows.{opens-blank, opens-code, opens-shallow, none_ahead, begun-in, begun-shorter}
use Rattle.cmark_line_rules.proofs.opening.what_opens.Goals as goal

pub returns-in_default-clause-opens : goal.returns-in_default-clause-opens
returns-in_default-clause-opens c ahead = opens-blank (shown_options c.args.options) (row_of c.args.rest) ahead (whole c.args.rest) (c.indent_and_words.ensures.blank c.in_default.is)

pub returns-then-indent-eq4-clause-opens : goal.returns-then-indent-eq4-clause-opens
returns-then-indent-eq4-clause-opens c ahead =
    let count = c.in-Some.ensures.indent in
    let four = c.if-indent-eq4.true in
    opens-code (shown_options c.args.options) (row_of c.args.rest) ahead (whole c.args.rest) c.in-Some.ensures.some (omega (arith, count, four))

pub returns-then-begins_with_letter-clause-opens : goal.returns-then-begins_with_letter-clause-opens
returns-then-begins_with_letter-clause-opens c ahead =
    let count = c.in-Some.ensures.indent in
    let other = c.if-indent-eq4.false in
    let options = shown_options c.args.options in
    let row = row_of c.args.rest in
    let letter = ap (first_is is_letter) (sym c.in-Some.ensures.words) ∙ sym c.begins_with_letter.ensures ∙ c.if-begins_with_letter.true in
    opens-shallow options row ahead (whole c.args.rest) c.in-Some.ensures.some (omega (arith, count, other))
    ∙ ap (λ o. or_else (metadata_begun (metadata_kind options row) ahead) (or_else (nests_if o) (leaf_of options row ahead))) (letter-container options row letter)
    ∙ ap (or_else (metadata_begun (metadata_kind options row) ahead)) (letter-leaf options row ahead letter)

pub returns-in-Some-container_start-clause-opens : goal.returns-in-Some-container_start-clause-opens
returns-in-Some-container_start-clause-opens c ahead =
    let count = c.in-Some.ensures.indent in
    let other = c.if-indent-eq4.false in
    let row = row_of c.args.rest in
    opens-shallow (shown_options c.args.options) row ahead (whole c.args.rest) c.in-Some.ensures.some (omega (arith, count, other))
    ∙ ap (λ o. or_else (metadata_begun (metadata_kind (shown_options c.args.options) row) ahead) (or_else (nests_if o) (leaf_of (shown_options c.args.options) row ahead))) (sym (c.in-Some-container_start.ensures.container))

begun : (c : goal.In-Some-container_start) → opens (shown_options c.args.options) (row_of c.args.rest) [] ≡ Nests (shown_start (shown_options c.args.options) (row_of c.args.rest) c.in-Some-container_start.start)
begun c =
    let count = c.in-Some.ensures.indent in
    let other = c.if-indent-eq4.false in
    let row = row_of c.args.rest in
    opens-shallow (shown_options c.args.options) row [] (whole c.args.rest) c.in-Some.ensures.some (omega (arith, count, other))
    ∙ none_ahead (metadata_kind (shown_options c.args.options) row) _
    ∙ ap (λ o. or_else (nests_if o) (leaf_of (shown_options c.args.options) row [])) (sym (c.in-Some-container_start.ensures.container))

pub returns-in-Some-container_start-clause-placed : goal.returns-in-Some-container_start-clause-placed
returns-in-Some-container_start-clause-placed c text = begun-in (shown_options c.args.options) text c.args.rest (inside_of c.in-Some-container_start.start) (shown_start (shown_options c.args.options) (row_of c.args.rest) c.in-Some-container_start.start) (begun c) (c.in-Some-container_start.ensures.inside (shown_options c.args.options))

pub returns-in-Some-container_start-clause-shorter : goal.returns-in-Some-container_start-clause-shorter
returns-in-Some-container_start-clause-shorter c = begun-shorter (shown_options c.args.options) c.args.rest (inside_of c.in-Some-container_start.start) (shown_start (shown_options c.args.options) (row_of c.args.rest) c.in-Some-container_start.start) (begun c) (c.in-Some-container_start.ensures.inside (shown_options c.args.options))

pub returns-clause-opens : goal.returns-clause-opens
returns-clause-opens c ahead =
    let count = c.in-Some.ensures.indent in
    let other = c.if-indent-eq4.false in
    let row = row_of c.args.rest in
    let le : indent_of row ≤ 3 = omega (arith, count, other) in
    opens-shallow (shown_options c.args.options) row ahead (whole c.args.rest) c.in-Some.ensures.some le
    ∙ ap (λ o. or_else (metadata_begun (metadata_kind (shown_options c.args.options) row) ahead) (or_else (nests_if o) (leaf_of (shown_options c.args.options) row ahead))) (sym (c.in_default-container_start.ensures.container))
    ∙ ap (or_else (metadata_begun (metadata_kind (shown_options c.args.options) row) ahead)) (c.leaf_opening.ensures.opens row ahead (sym c.in-Some.ensures.words) (omega (arith, count, le)))

pub returns-clause-placed : goal.returns-clause-placed
returns-clause-placed c text placed = c.leaf_opening.ensures.placed text

pub returns-clause-info_placed : goal.returns-clause-info_placed
returns-clause-info_placed c = grind (arith, common_steps)
