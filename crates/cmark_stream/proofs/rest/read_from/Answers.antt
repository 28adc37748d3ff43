use Rattle.std.proofs.Common.{◌≡◌, ◌<◌, ◌∙◌, [], ap, subst, take}
use Rattle.std.proofs.lemmas.Result.{IfOk-weaker}
use Rattle.std.specs.Prelude.{IfSome, None, false, string_bytes}
use Rattle.cmark_block_model.specs.Tails.{document_after}
use Rattle.cmark_grammar.specs.Headline.{profile_within}
use Rattle.cmark_parser.specs.Filters.{filtered_by}
use Rattle.cmark_parser.specs.Parsing.{callback_of}
use Rattle.cmark_parser.specs.Tails.{ReadsUndefined}
use Rattle.cmark_stream_model.specs.Undefined.{HasNoDefinitions}
use Rattle.cmark_values.specs.Shown.{shown_options}
use Rattle.cmark_stream.proofs.RestSteps.{rest-same, rest-stays}
use Rattle.cmark_stream.proofs.RestWrites.{tail-read}
use Rattle.cmark_stream.specs.Rests.{IsPieceHtml}
use Rattle.cmark_stream.proofs.rest.read_from.Goals as goal

pub returns-in_default : goal.returns-in_default
returns-in_default g c = IfOk-weaker c.read_whole.result _ _ (λ rest w. w c.args.from) c.read_whole.ensures

pub returns-in-Some-settled : goal.returns-in-Some-settled
returns-in-Some-settled g c =
    let text = c.args.text.now in
    let options = shown_options c.args.options in
    let lookup = g.E.EntityLookup.replacement c.args.entities.now in
    let filtered = filtered_by c.args.filter.now in
    let piece = subst (λ o. IfSome o (λ piece. (c.args.from < c.in_ok-cut.cut) × IsPieceHtml (profile_within c.args.limit options lookup false) filtered (take c.in_ok-cut.cut text) c.args.from (string_bytes piece))) c.in-Some-settled.is c.in_ok-settled.ensures in
    IfOk-weaker c.read_after.result _ _ (λ rest w. w c.args.from piece.0 c.in_ok-cut.ensures.settled piece.1) c.read_after.ensures

pub returns : goal.returns
returns g c =
    let text = c.args.text.now in
    let options = shown_options c.args.options in
    let replacement = g.E.EntityLookup.replacement in
    let lookup = replacement c.args.entities.now in
    let filtered = filtered_by c.args.filter.now in
    IfOk-weaker c.with_tail.result _ _
    (λ rest w.
    rest-same c.args.limit options lookup filtered text c.args.from (string_bytes rest.settled) [] (string_bytes rest.tail) rest.cut c.args.from (ap string_bytes w.1 ∙ c.new.ensures.bytes) w.0
    (rest-stays c.args.limit options lookup filtered text c.args.from (string_bytes rest.tail) c.requires.begins
    (tail-read _ replacement filtered c.args.limit text c.args.from options lookup c.in-Some.parser c.with_tail.new.parser
    (subst (λ o. IfSome o (λ parser. HasNoDefinitions (document_after text options lookup c.args.from))) c.in-Some.is c.in_ok-found.ensures.undefined)
    (subst (λ o. IfSome o (ReadsUndefined replacement c.args.limit text c.args.from options lookup)) c.in-Some.is c.in_ok-found.ensures.reads)
    (subst (λ o. IfSome o (λ parser. callback_of parser ≡ None)) c.in-Some.is c.in_ok-found.ensures.callback)
    (string_bytes rest.tail) w.2))) c.with_tail.ensures
