use Rattle.std.proofs.Common.{◌-◌, ◌%◌, ◌≤◌, refl, sym, ap, ◌∙◌, subst, arith}
use Rattle.cmark_grammar.specs.Columns.{indent, is_blank_byte}
use Rattle.cmark_scan_lines.proofs.PlaceSteps.{left, left-pending, not_blank, wide-blank, indent-blank-byte, indent-next, indent-none, tab-width, aligned-space, aligned-tab}
use Rattle.cmark_scan_lines.proofs.line_start.LineStart.take_blank.Goals as goal

pub invariant_of-self : goal.invariant_of-self
invariant_of-self c =
    let line = c.args.self.now in
    let some = c.in-Some-eq32.ensures in
    record {
      plain = line.plain;
      inside = omega arith;
      following = omega arith;
      aligned = aligned-space line.bytes.now line.taken line.after_tab some.0 line.following (sym some.1 ∙ c.in-Some-eq32.field-0-test) line.aligned;
      stop = line.stop;
      cut = λ h. absurd (omega arith);
    }

pub invariant_of-self-in-Some-eq9 : goal.invariant_of-self-in-Some-eq9
invariant_of-self-in-Some-eq9 c =
    let line = c.args.self.now in
    let some = c.in-Some-eq9.ensures in
    record {
      plain = line.plain;
      inside = omega arith;
      following = omega arith;
      aligned = aligned-tab line.bytes.now line.taken line.after_tab some.0 (sym some.1 ∙ c.in-Some-eq9.field-0-test) line.aligned;
      stop = line.stop;
      cut = λ h. absurd (omega arith);
    }

pub returns-in-Some-eq32-clause-wide : goal.returns-in-Some-eq32-clause-wide
returns-in-Some-eq32-clause-wide c h =
    let line = c.args.self.now in
    wide-blank line.bytes.now line.taken 32 1 c.in-Some-eq32.ensures.0 (sym c.in-Some-eq32.field-0-test ∙ c.in-Some-eq32.ensures.1) refl

pub returns-in-Some-eq32-clause-taken : goal.returns-in-Some-eq32-clause-taken
returns-in-Some-eq32-clause-taken c =
    let line = c.args.self.now in
    let w = wide-blank line.bytes.now line.taken 32 1 c.in-Some-eq32.ensures.0 (sym c.in-Some-eq32.field-0-test ∙ c.in-Some-eq32.ensures.1) refl in
    omega arith

pub returns-in-Some-eq32-clause-blank : goal.returns-in-Some-eq32-clause-blank
returns-in-Some-eq32-clause-blank c at =
    let line = c.args.self.now in
    subst (λ p. 1 ≤ indent (left at line.bytes.now line.taken p)) (sym c.requires)
    (indent-blank-byte at line.bytes.now line.taken 32 1 c.in-Some-eq32.ensures.0 refl (sym c.in-Some-eq32.field-0-test ∙ c.in-Some-eq32.ensures.1) refl)

pub returns-in-Some-eq9-clause-wide : goal.returns-in-Some-eq9-clause-wide
returns-in-Some-eq9-clause-wide c h =
    let line = c.args.self.now in
    wide-blank line.bytes.now line.taken 9 _ c.in-Some-eq9.ensures.0 (sym c.in-Some-eq9.field-0-test ∙ c.in-Some-eq9.ensures.1) (tab-width _ line.taken line.after_tab line.aligned)

pub returns-in-Some-eq9-clause-taken : goal.returns-in-Some-eq9-clause-taken
returns-in-Some-eq9-clause-taken c =
    let line = c.args.self.now in
    let w = wide-blank line.bytes.now line.taken 9 _ c.in-Some-eq9.ensures.0 (sym c.in-Some-eq9.field-0-test ∙ c.in-Some-eq9.ensures.1) (tab-width _ line.taken line.after_tab line.aligned) in
    omega arith

pub returns-in-Some-eq9-clause-blank : goal.returns-in-Some-eq9-clause-blank
returns-in-Some-eq9-clause-blank c at =
    let line = c.args.self.now in
    subst (λ p. 4 - (line.taken - line.after_tab) % 4 ≤ indent (left at line.bytes.now line.taken p)) (sym c.requires)
    (indent-blank-byte at line.bytes.now line.taken 9 _ c.in-Some-eq9.ensures.0 refl (sym c.in-Some-eq9.field-0-test ∙ c.in-Some-eq9.ensures.1) (tab-width _ line.taken line.after_tab line.aligned))

pub returns-in_default-clause-none : goal.returns-in_default-clause-none
returns-in_default-clause-none c at e =
    let line = c.args.self.now in
    let some = c.in_default.ensures in
    let other = c.in_default.field-0-test in
    ap indent (left-pending at line.bytes.now line.taken line.pending c.requires)
    ∙ indent-next at line.bytes.now line.taken some.0 (ap is_blank_byte (sym some.1) ∙ not_blank _ other.0.1 other.1)

pub returns-in_default-2-clause-none : goal.returns-in_default-2-clause-none
returns-in_default-2-clause-none c at e =
    let line = c.args.self.now in
    let end = rw c.in_default.is at c.next_byte.ensures in
    ap indent (left-pending at line.bytes.now line.taken line.pending c.requires) ∙ indent-none at line.bytes.now line.taken end
