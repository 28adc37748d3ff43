use Rattle.std.proofs.Common.{◌++◌, ◌∙◌, ap}
use Rattle.cmark_stream.specs.Streams.{begun_of}
use Rattle.cmark_stream.proofs.StreamSteps.{after-none, bytes-joined, bytes-keep, bytes-never, none-begun}
use Rattle.cmark_stream.proofs.stream.Stream.push_bytes.Goals as goal

pub returns-then-not-ends_inside_character-clause-bytes : goal.returns-then-not-ends_inside_character-clause-bytes
returns-then-not-ends_inside_character-clause-bytes g c =
    bytes-joined g.E.EntityLookup.replacement c.args.self.now c.args.chunk.now c.args.chunk.now
    (after-none (begun_of c.args.self.now) c.args.chunk.now (none-begun c.ends_inside_character.result (begun_of c.args.self.now) c.ends_inside_character.ensures c.if-not-ends_inside_character.true))
    c.append.new.self c.append.result c.append.ensures

pub returns-then-not-ends_inside_character-clause-not_utf8 : goal.returns-then-not-ends_inside_character-clause-not_utf8
returns-then-not-ends_inside_character-clause-not_utf8 g c =
    bytes-never g.E.EntityLookup.replacement c.args.self.now c.args.chunk.now c.args.chunk.now
    (after-none (begun_of c.args.self.now) c.args.chunk.now (none-begun c.ends_inside_character.result (begun_of c.args.self.now) c.ends_inside_character.ensures c.if-not-ends_inside_character.true))
    c.append.new.self c.append.result c.append.ensures

pub returns-then-not-ends_inside_character-clause-html : goal.returns-then-not-ends_inside_character-clause-html
returns-then-not-ends_inside_character-clause-html g c =
    bytes-keep g.E.EntityLookup.replacement c.args.self.now c.args.chunk.now c.args.chunk.now
    (after-none (begun_of c.args.self.now) c.args.chunk.now (none-begun c.ends_inside_character.result (begun_of c.args.self.now) c.ends_inside_character.ensures c.if-not-ends_inside_character.true))
    c.append.new.self c.append.result c.append.ensures

pub returns-clause-bytes : goal.returns-clause-bytes
returns-clause-bytes g c =
    bytes-joined g.E.EntityLookup.replacement c.args.self.now c.args.chunk.now c.as_slice-2.result.now
    (c.as_slice-2.ensures.value ∙ c.in_ok-bytes.ensures ∙ ap (λ l. l ++ c.args.chunk.now) c.as_slice.ensures.value)
    c.append-2.new.self c.append-2.result c.append-2.ensures

pub returns-clause-not_utf8 : goal.returns-clause-not_utf8
returns-clause-not_utf8 g c =
    bytes-never g.E.EntityLookup.replacement c.args.self.now c.args.chunk.now c.as_slice-2.result.now
    (c.as_slice-2.ensures.value ∙ c.in_ok-bytes.ensures ∙ ap (λ l. l ++ c.args.chunk.now) c.as_slice.ensures.value)
    c.append-2.new.self c.append-2.result c.append-2.ensures

pub returns-clause-html : goal.returns-clause-html
returns-clause-html g c =
    bytes-keep g.E.EntityLookup.replacement c.args.self.now c.args.chunk.now c.as_slice-2.result.now
    (c.as_slice-2.ensures.value ∙ c.in_ok-bytes.ensures ∙ ap (λ l. l ++ c.args.chunk.now) c.as_slice.ensures.value)
    c.append-2.new.self c.append-2.result c.append-2.ensures
