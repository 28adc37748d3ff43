use denote.Shadow.{shadow}
use denote.Text.{Utf8}
use Rattle.std.proofs.Common.{length}
use Rattle.cmark_scan_bytes.proofs.Unescaping.{Passed}
use Rattle.cmark_scan_bytes.proofs.escapes.find_resolved.Given as goal

abbrev pub invariant-loop-at : goal.invariant-loop-at
invariant-loop-at g l = record {
  text : shadow (Utf8 l.rest);
  passed : Passed (g.E.EntityLookup.replacement l.entities) l.text l.rest;
}

abbrev pub decreases-loop-at : goal.decreases-loop-at
decreases-loop-at g l = length l.rest
