use Rattle.std.proofs.Common.{◌≡◌, ap, subst}
use Rattle.std.proofs.lemmas.Result.{IfOk-weaker}
use Rattle.std.specs.Prelude.{IfSome, None, string_bytes}
use Rattle.cmark_block_model.specs.Tails.{document_after}
use Rattle.cmark_parser.specs.Filters.{filtered_by}
use Rattle.cmark_parser.specs.Parsing.{callback_of}
use Rattle.cmark_parser.specs.Tails.{ReadsUndefined}
use Rattle.cmark_stream_model.specs.Undefined.{HasNoDefinitions}
use Rattle.cmark_values.specs.Shown.{shown_options}
use Rattle.cmark_stream.proofs.RestSteps.{rest-grows, rest-same}
use Rattle.cmark_stream.proofs.RestWrites.{tail-read}
use Rattle.cmark_stream.proofs.rest.read_after.Goals as goal

pub returns-in-Some : goal.returns-in-Some
returns-in-Some g c =
    let text = c.args.text.now in
    let options = shown_options c.args.options in
    let replacement = g.E.EntityLookup.replacement in
    let lookup = replacement c.args.entities.now in
    let filtered = filtered_by c.args.filter.now in
    IfOk-weaker c.with_tail.result _ _
    (λ rest w from less stays piece.
    rest-same c.args.limit options lookup filtered text from (string_bytes rest.settled) (string_bytes c.args.settled) (string_bytes rest.tail) rest.cut c.args.cut (ap string_bytes w.1) w.0
    (rest-grows c.args.limit options lookup filtered text from c.args.cut less stays (string_bytes c.args.settled) (string_bytes rest.tail) piece
    (tail-read _ replacement filtered c.args.limit text c.args.cut options lookup c.in-Some.parser c.with_tail.new.parser
    (subst (λ o. IfSome o (λ parser. HasNoDefinitions (document_after text options lookup c.args.cut))) c.in-Some.is c.in_ok-found.ensures.undefined)
    (subst (λ o. IfSome o (ReadsUndefined replacement c.args.limit text c.args.cut options lookup)) c.in-Some.is c.in_ok-found.ensures.reads)
    (subst (λ o. IfSome o (λ parser. callback_of parser ≡ None)) c.in-Some.is c.in_ok-found.ensures.callback)
    (string_bytes rest.tail) w.2)
    c.requires.begins)) c.with_tail.ensures

pub returns-in-None : goal.returns-in-None
returns-in-None g c = IfOk-weaker c.read_whole.result _ _ (λ rest w from less stays piece. w from) c.read_whole.ensures
