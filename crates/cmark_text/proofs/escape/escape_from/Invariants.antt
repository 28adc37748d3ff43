use denote.Shadow.{shadow}
use denote.Text.{Utf8}
use Rattle.std.proofs.Common.{length, string_bytes}
use Rattle.memchr.specs.Find.{IsFirstByte}
use Rattle.cmark_grammar.specs.Escapes.{body_text_byte}
use Rattle.cmark_text.specs.Marks.{is_body_text_mark}
use Rattle.cmark_text.proofs.Escaping.{Written}
use Rattle.cmark_text.proofs.escape.escape_from.Given as goal

abbrev pub invariant-loop-found : goal.invariant-loop-found
invariant-loop-found l = record {
  text : shadow (Utf8 l.rest);
  written : Written body_text_byte (string_bytes l.initial.out) (string_bytes l.out) l.initial.rest l.rest;
  found : IsFirstByte is_body_text_mark l.rest l.found;
}

abbrev pub decreases-loop-found : goal.decreases-loop-found
decreases-loop-found l = length l.rest
