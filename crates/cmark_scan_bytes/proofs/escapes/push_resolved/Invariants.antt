use denote.Shadow.{shadow}
use denote.Text.{Utf8}
use Rattle.std.proofs.Common.{◌≡◌, ◌++◌, length, string_bytes}
use Rattle.cmark_grammar.specs.Tokens.{resolved}
use Rattle.cmark_scan_bytes.proofs.escapes.push_resolved.Given as goal

abbrev pub invariant-loop-found : goal.invariant-loop-found
invariant-loop-found g l = record {
  text : shadow (Utf8 l.rest);
  pushed : string_bytes l.out ++ resolved (g.E.EntityLookup.replacement l.entities) l.rest ≡ string_bytes l.initial.out ++ resolved (g.E.EntityLookup.replacement l.entities) l.text;
}

abbrev pub decreases-loop-found : goal.decreases-loop-found
decreases-loop-found g l = length l.rest
