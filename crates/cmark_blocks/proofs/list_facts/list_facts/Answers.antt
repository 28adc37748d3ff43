use Rattle.std.proofs.Common.{not, ◌&&◌, sym, ap, ◌∙◌}
use Rattle.cmark_grammar.specs.Openings.{or_else, metadata_begun, opens_at}
use Rattle.cmark_grammar.specs.Places.{Apart}
use Rattle.cmark_grammar.specs.Metadata.{metadata_kind}
use Rattle.cmark_line_rules.specs.Opened.{opened}
use Rattle.cmark_line_rules.specs.Rests.{row_of}
use Rattle.cmark_stream_model.specs.Growth.{is_outside_of_lists, may_continue}
use Rattle.cmark_stream_model.proofs.Walls.{no-metadata}
use Rattle.cmark_values.specs.Shown.{shown_options}
use Rattle.cmark_blocks.specs.Cuts.{is_apart, is_outside}
use Rattle.cmark_blocks.proofs.CutSteps.{both-true, not-true, outside-opened, outside-metadata, opened-apart, metadata-apart}
use Rattle.cmark_blocks.proofs.list_facts.list_facts.Goals as goal

pub returns-clause-none : goal.returns-clause-none
returns-clause-none c metadata ahead =
    let options = shown_options c.args.options in
    let r = row_of c.args.line in
    c.is_unlisted-is_outside.ensures
    ∙ ap (λ z. z && not c.begins_definition-is_marked.result)
    (outside-opened options r ahead c.what_opens-opening.result
    ∙ ap is_outside_of_lists (sym (c.what_opens-opening.ensures.opens ahead ∙ ap (λ k. or_else (metadata_begun k ahead) (opened options c.what_opens-opening.result r ahead)) (no-metadata options metadata r))))
    ∙ ap (λ z. is_outside_of_lists (opens_at options Apart r ahead) && not z) c.begins_definition-is_marked.ensures

pub returns-clause-is_outside : goal.returns-clause-is_outside
returns-clause-is_outside c e ahead =
    let options = shown_options c.args.options in
    let r = row_of c.args.line in
    let h = both-true (is_outside c.what_opens-opening.result) (not c.begins_definition-is_marked.result) (sym c.is_unlisted-is_outside.ensures ∙ e) in
    ap is_outside_of_lists (c.what_opens-opening.ensures.opens ahead)
    ∙ outside-metadata (metadata_kind options r) ahead (opened options c.what_opens-opening.result r ahead) (sym (outside-opened options r ahead c.what_opens-opening.result) ∙ h.0)

pub returns-clause-is_unmarked : goal.returns-clause-is_unmarked
returns-clause-is_unmarked c e =
    let h = both-true (is_outside c.what_opens-opening.result) (not c.begins_definition-is_marked.result) (sym c.is_unlisted-is_outside.ensures ∙ e) in
    sym c.begins_definition-is_marked.ensures ∙ not-true c.begins_definition-is_marked.result h.1

pub returns-clause-is_apart : goal.returns-clause-is_apart
returns-clause-is_apart c e list ahead =
    let options = shown_options c.args.options in
    let r = row_of c.args.line in
    ap (may_continue options.definition_list list) (c.what_opens-opening.ensures.opens ahead)
    ∙ metadata-apart options.definition_list list (metadata_kind options r) ahead (opened options c.what_opens-opening.result r ahead)
    (opened-apart options.definition_list list options r ahead c.what_opens-opening.result (ap (λ z. is_apart z c.what_opens-opening.result) (sym c.reads_definition_lists.ensures) ∙ sym c.is_apart-is_apart.ensures ∙ e))
