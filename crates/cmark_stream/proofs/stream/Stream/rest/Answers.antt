use Rattle.std.proofs.Common.{refl, subst, sym, take}
use Rattle.std.proofs.lemmas.Result.{IfOk-weaker}
use Rattle.std.specs.Prelude.{IsCharBoundary}
use Rattle.cmark_block_model.specs.DocumentModel.{document}
use Rattle.cmark_parser.specs.Tails.{CanReadRest, ReadsRest}
use Rattle.cmark_stream_model.specs.Tails.{IsJoinedAt}
use Rattle.cmark_stream_model.specs.Undefined.{HasNoDefinitions}
use Rattle.cmark_stream.specs.Streams.{lookup_of, options_of}
use Rattle.cmark_stream.proofs.RemainingSteps.{completes, joined-at-cut, no-definitions, no-labels}
use Rattle.cmark_stream.proofs.stream.Stream.rest.Goals as goal

pub parse_rest-requires : goal.parse_rest-requires
parse_rest-requires g c =
    let s = c.args.self.now in
    let options = options_of s in
    let lookup = lookup_of g.E.EntityLookup.replacement s in
    let text = sym c.as_str-text.ensures.value in
    let undefined = subst (λ t. HasNoDefinitions (document (take s.cut t) options lookup)) text c.requires.shown.html.undefined in
    let earlier = document (take s.cut c.as_str-text.result.now) options lookup in
    let follows : CanReadRest _ options lookup s.cut _ _ = record {
      boundary = subst (λ t. IsCharBoundary t s.cut) text c.requires.shown.boundary;
      joined = subst (λ t. IsJoinedAt options lookup t s.cut) text (joined-at-cut g.E.EntityLookup.replacement s c.requires);
      defined = no-definitions earlier c.new-definitions.result undefined c.new-definitions.ensures;
      labelled = no-labels earlier c.new-footnotes.result undefined c.new-footnotes.ensures;
    } in
    λ k. ((refl, tt), (follows, λ x none. tt))

pub returns-clause-completes : goal.returns-clause-completes
returns-clause-completes g c =
    let replacement = g.E.EntityLookup.replacement in
    let s = c.args.self.now in
    IfOk-weaker c.parse_rest.result _ _
    (λ parser reads. completes replacement s c.requires parser (subst (λ t. ReadsRest replacement s.limit t s.cut (options_of s) (lookup_of replacement s) parser) c.as_str-text.ensures.value reads))
    c.parse_rest.ensures.reads
