use Rattle.std.proofs.Common.{◌≡◌, arith, subst, sym, take}
use Rattle.std.specs.Prelude.{IfSome, IsCharBoundary, None, false, string_bytes}
use Rattle.cmark_block_model.specs.Tails.{document_after}
use Rattle.cmark_grammar.specs.Headline.{profile_within}
use Rattle.cmark_parser.specs.Filters.{filtered_by}
use Rattle.cmark_parser.specs.Parsing.{callback_of}
use Rattle.cmark_parser.specs.Tails.{ReadsUndefined}
use Rattle.cmark_stream_model.specs.Undefined.{HasNoDefinitions}
use Rattle.cmark_values.specs.Shown.{shown_options}
use Rattle.cmark_stream.proofs.RestWrites.{each-found, piece-read}
use Rattle.cmark_stream.proofs.Offsets.{boundary-front}
use Rattle.cmark_stream.specs.Rests.{IsPieceHtml}
use Rattle.cmark_stream.proofs.rest.settled_html.Goals as goal

pub parse_undefined-requires : goal.parse_undefined-requires
parse_undefined-requires g c =
    let front : c.range-front.result.now ≡ take c.args.cut c.args.text.now = grind arith in
    record { begins = subst (λ b. IsCharBoundary b c.args.from) (sym front) (boundary-front c.args.text.now c.args.from c.args.cut (omega (arith, c.if-cut-from.false)) c.requires.ends.0 c.requires.begins) }

pub returns-in-Some : goal.returns-in-Some
returns-in-Some g c =
    let text = c.range-front.result.now in
    let options = shown_options c.args.options in
    let replacement = g.E.EntityLookup.replacement in
    let lookup = replacement c.args.entities.now in
    let filtered = filtered_by c.args.filter.now in
    let front : c.range-front.result.now ≡ take c.args.cut c.args.text.now = grind arith in
    each-found c.settled_part.result
    (λ piece w. (
      omega (arith, c.if-cut-from.false),
      subst (λ t. IsPieceHtml (profile_within c.args.limit options lookup false) filtered t c.args.from (string_bytes piece)) front
          (piece-read _ replacement filtered c.args.limit text c.args.from options lookup c.in-Some.parser c.settled_part.new.parser
          (subst (λ o. IfSome o (λ parser. HasNoDefinitions (document_after text options lookup c.args.from))) c.in-Some.is c.in_ok-found.ensures.undefined)
          (subst (λ o. IfSome o (ReadsUndefined replacement c.args.limit text c.args.from options lookup)) c.in-Some.is c.in_ok-found.ensures.reads)
          (subst (λ o. IfSome o (λ parser. callback_of parser ≡ None)) c.in-Some.is c.in_ok-found.ensures.callback)
          (string_bytes piece) w),
    )) c.settled_part.ensures
