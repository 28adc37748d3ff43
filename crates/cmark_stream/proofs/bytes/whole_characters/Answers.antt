use Rattle.std.proofs.Common.{◌∙◌, ap, drop, sym, take}
use Rattle.cmark_stream.proofs.CutCharacters.{cut-into, cut-nowhere, never-utf8}
use Rattle.cmark_stream.proofs.bytes.whole_characters.Goals as goal

pub returns-in-Ok-clause-parts : goal.returns-in-Ok-clause-parts
returns-in-Ok-clause-parts c = cut-nowhere c.args.bytes.now _ _ c.in-Ok.ensures.cases.0 c.new.ensures c.in-Ok.ensures.cases.1

pub returns-clause-parts : goal.returns-clause-parts
returns-clause-parts c =
    let bytes = c.args.bytes.now in
    let size = c.valid_up_to.ensures in
    cut-into bytes _ c.in-Err.ensures.cases.1 _ _
    (c.in-Ok-Ok.ensures.cases.0 ∙ c.split_at.ensures.front ∙ ap (λ n. take n bytes) size)
    (c.in-Ok-Ok.ensures'.0 ∙ c.split_at.ensures.back ∙ ap (λ n. drop n bytes) size)
    (sym c.in-Err.ensures.fault ∙ sym c.error_len.ensures ∙ c.in-None.is)

pub returns-in-Some-clause-not_utf8 : goal.returns-in-Some-clause-not_utf8
returns-in-Some-clause-not_utf8 c = λ none. never-utf8 c.args.bytes.now _ c.in-Err.ensures.cases.1 _ (sym c.in-Err.ensures.fault ∙ sym c.error_len.ensures ∙ c.in-Some.is)
