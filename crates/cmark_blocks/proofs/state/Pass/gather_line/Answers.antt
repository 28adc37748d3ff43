use Rattle.std.proofs.Common.{◌≡◌, ◌++◌, ◌+◌, ap, ◌∙◌, arith, refl, append_assoc}
use Rattle.std.specs.Prelude.{string_bytes}
use Rattle.cmark_grammar.specs.Columns.{bytes_of}
use Rattle.cmark_grammar.specs.LinkDefinitions.{line_end_of}
use Rattle.cmark_line_rules.specs.Rests.{row_of}
use Rattle.cmark_blocks.proofs.GatherSteps.{holds-more}
use Rattle.cmark_blocks.proofs.state.Pass.gather_line.Goals as goal

pub returns-clause-gathered : goal.returns-clause-gathered
returns-clause-gathered g c =
    record {
      read = record { placed = c.in-Some.ensures.placed; in_text = c.in-Some.ensures.in_text };
      few = omega (arith, c.in-Some.ensures.further, c.requires.gathered.few);
    }

pub returns-clause-line : goal.returns-clause-line
returns-clause-line g c =
    let old = c.args.gathered.now in
    let last = row_of old.last in
    let line = bytes_of (row_of c.in-Some.rest).columns in
    let bytes : string_bytes c.push_str-2.new.self ≡ string_bytes old.text ++ (line_end_of last ++ line) =
    c.in_ok-push_str-2.ensures.bytes ∙ ap (λ bs. bs ++ c.bytes_in.result.now) c.in_ok-push_str.ensures.bytes ∙ append_assoc (string_bytes old.text) c.line_end_of.result.now c.bytes_in.result.now
    ∙ ap (λ bs. string_bytes old.text ++ (bs ++ c.bytes_in.result.now)) c.line_end_of.ensures ∙ ap (λ bs. string_bytes old.text ++ (line_end_of last ++ bs)) c.bytes_in.ensures in (
      λ first holds text options lookup m runs.
          holds-more text options lookup m first c.in-Some.rest old c.push_str-2.new.self (old.lines + 1) (holds text options lookup m runs) (c.in-Some.ensures.next text options lookup m runs) bytes refl,
      c.in-Some.ensures.further,
    )
