use Rattle.std.proofs.Common.{◌≡◌, ℕ, ◌-◌, List, [], length, take, drop, Option, None, Some, Bool, if◌then◌else◌, eq-eqb, sym, ap, ◌∙◌, arith}
use Rattle.std.proofs.lemmas.Bool.{ne_eqb}
use Rattle.cmark_grammar.specs.LinkDefinitions.{Parsed, bare_in}
use Rattle.cmark_scan_bytes.specs.Steps.{puts}
use Rattle.cmark_scan_bytes.proofs.Lists.{rest_of}
use Rattle.cmark_scan_bytes.proofs.PartSteps.{Reads, reads_none, reads_more, reads_far, reads_fail, reads_open, reads_end, no_bytes}
use Rattle.cmark_scan_bytes.proofs.destination.bare_size.Goals as goal

abbrev at_end : Bool → Option Parsed
at_end t = if t then Some (record { bytes = []; following = [] }) else None

-- the rest begins after the bytes that were passed
module _ (all : Option Parsed) (escaped : Bool) (depth n : ℕ) (bytes rest : List ℕ) where
  pub further : Reads all (bare_in escaped depth rest) bytes rest → bare_in escaped depth rest ≡ puts (take n rest) (bare_in escaped depth (drop n rest))
      → let others : List ℕ = take (length rest - n) (drop n rest) in Reads all (bare_in escaped depth others) bytes others
  further reads passed = grind (arith, rest_of, reads_far)

pub loop-first-init : goal.loop-first-init
loop-first-init c = grind (arith, further, reads_none)

pub loop-first-preserved : goal.loop-first-preserved
loop-first-preserved c = grind (arith, further, reads_more)

pub returns-in-Ends-clause-value : goal.returns-in-Ends-clause-value
returns-in-Ends-clause-value c =
    let cut = c.in-Some.ensures.cases.0 in
    reads_open _ _ c.args.bytes.now _ c.loop-first.invariant.reads (ap (bare_in c.loop-first.escaped c.loop-first.depth) cut ∙ c.in-Ends.ensures.value c.in-Some.others.now _ ∙ ap (λ bs. let found : Parsed = record { bytes = []; following = bs } in Some found) (sym cut))

pub returns-in-Fails-clause-value : goal.returns-in-Fails-clause-value
returns-in-Fails-clause-value c =
    let cut = c.in-Some.ensures.cases.0 in
    reads_fail _ _ c.args.bytes.now _ c.loop-first.invariant.reads (ap (bare_in c.loop-first.escaped c.loop-first.depth) cut ∙ c.in-Fails.ensures.value c.in-Some.others.now _)

pub returns-then-depth-eq0-clause-value : goal.returns-then-depth-eq0-clause-value
returns-then-depth-eq0-clause-value c =
    reads_end _ _ c.args.bytes.now c.loop-first.rest.now c.loop-first.invariant.reads c.in_default.ensures.cases
    (ap (bare_in c.loop-first.escaped c.loop-first.depth) (no_bytes c.loop-first.rest.now c.in_default.ensures.cases) ∙ ap at_end (eq-eqb c.loop-first.depth 0 c.if-depth-eq0.true))

pub returns-else-depth-eq0-clause-value : goal.returns-else-depth-eq0-clause-value
returns-else-depth-eq0-clause-value c =
    reads_fail _ _ c.args.bytes.now c.loop-first.rest.now c.loop-first.invariant.reads
    (ap (bare_in c.loop-first.escaped c.loop-first.depth) (no_bytes c.loop-first.rest.now c.in_default.ensures.cases) ∙ ap at_end (ne_eqb c.loop-first.depth 0 c.if-depth-eq0.false))
