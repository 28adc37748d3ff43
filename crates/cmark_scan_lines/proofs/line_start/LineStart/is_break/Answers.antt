use Rattle.std.proofs.Common.{◌≡◌, ◌==◌, ◌&&◌, ◌||◌, Bool, true, false, drop, refl, sym, ap, ◌∙◌, get_or, true≢false, arith}
use Rattle.std.proofs.lemmas.Grind.{common_steps}
use Rattle.cmark_grammar.specs.Columns.{is_blank_byte}
use Rattle.cmark_grammar.specs.Leaves.{all_pass, is_break_of}
use Rattle.cmark_scan_lines.specs.LeafLines.{is_break_character, stops_break}
use Rattle.std.specs.List.{position}
use Rattle.std.proofs.lemmas.List.{get_or-drop}
use Rattle.cmark_scan_bytes.proofs.Lists.{rest_of}
use Rattle.cmark_scan_lines.proofs.LeafSteps.{break-fails, stop-found, break-here, no-stop, stop-learned, character-here}
use Rattle.cmark_scan_lines.proofs.line_start.LineStart.is_break.Goals as goal
use Rattle.cmark_scan_lines.proofs.line_start.LineStart.is_break.Goals.{then-not-is_break_character-via-then-not-is_break_character, then-not-is_break_character-via-else-not-is_break_character+then-has_stop}

never : (z : Bool) → (z && false) ≡ false
never true = refl
never false = refl

pub returns-then-not-is_break_character-clause-found : goal.returns-then-not-is_break_character-clause-found
returns-then-not-is_break_character-clause-found c =
    let line = c.args.self.now in
    let character = c.in-Some.character in
    let here = break-here line.bytes.now line.taken character c.in-Some.ensures.0 c.in-Some.ensures.1 c.requires in
    elim c.then-not-is_break_character.branch [
      | then-not-is_break_character-via-then-not-is_break_character w ↦ ap (λ t. t && is_break_of character (drop line.taken line.bytes.now)) w.if-not-is_break_character.ensures ∙ here
      | then-not-is_break_character-via-else-not-is_break_character+then-has_stop w ↦ sym (never (is_break_character character)) ∙ ap (λ t. is_break_character character && t) (sym (w.has_stop.ensures.none w.if-has_stop.true)) ∙ here
    ]

pub returns-in_default-break_stop-clause-found : goal.returns-in_default-break_stop-clause-found
returns-in_default-break_stop-clause-found c =
    let line = c.args.self.now in
    let character = c.in-Some.character in
    c.is_break_of.ensures ∙ ap (is_break_of character) (rest_of line.bytes.now line.taken)
    ∙ ap (λ t. t && is_break_of character (drop line.taken line.bytes.now)) c.if-not-is_break_character.ensures
    ∙ break-here line.bytes.now line.taken character c.in-Some.ensures.0 c.in-Some.ensures.1 c.requires

pub invariant_of-self : goal.invariant_of-self
invariant_of-self c =
    let line = c.args.self.now in
    let size = c.in-Some-break_stop.size in
    let found = stop-found c.in-Some.character (drop line.taken line.bytes.now) size (c.in-Some-break_stop.ensures ∙ ap (position (stops_break c.in-Some.character)) (rest_of line.bytes.now line.taken)) in
    record {
      plain = line.plain;
      inside = line.inside;
      following = line.following;
      aligned = line.aligned;
      stop = λ lt. ap is_blank_byte (sym (get_or-drop line.taken line.bytes.now size 0)) ∙ found.1;
      cut = line.cut;
    }

pub returns-clause-found : goal.returns-clause-found
returns-clause-found c =
    let line = c.args.self.now in
    let character = c.in-Some.character in
    let size = c.in-Some-break_stop.size in
    let rest = drop line.taken line.bytes.now in
    let found = stop-found character rest size (c.in-Some-break_stop.ensures ∙ ap (position (stops_break character)) (rest_of line.bytes.now line.taken)) in
    let none = break-fails character rest size found.0 (neither _ _ found.2 found.1) in
    sym (never (is_break_character character)) ∙ ap (λ t. is_break_character character && t) none ∙ break-here line.bytes.now line.taken character c.in-Some.ensures.0 c.in-Some.ensures.1 c.requires
  where
    neither : (x y : Bool) → x ≡ false → y ≡ false → (x || y) ≡ false
    neither x y e f = ap (λ t. t || y) e ∙ f

pub returns-in_default-break_stop-clause-learns : goal.returns-in_default-break_stop-clause-learns
returns-in_default-break_stop-clause-learns c character e marks stops =
    let line = c.args.self.now in
    let rest = drop line.taken line.bytes.now in
    let same = character-here line.bytes.now line.taken c.in-Some.character character c.in-Some.ensures.1 e in
    let all = no-stop c.in-Some.character rest (c.in_default-break_stop.ensures ∙ ap (position (stops_break c.in-Some.character)) (rest_of line.bytes.now line.taken)) in
    absurd (true≢false (sym all ∙ ap (λ m. all_pass (λ b. (b == m) || is_blank_byte b) rest) same ∙ stops))

pub returns-clause-learns : goal.returns-clause-learns
returns-clause-learns c character e marks stops =
    let line = c.args.self.now in
    let size = c.in-Some-break_stop.size in
    let rest = drop line.taken line.bytes.now in
    let same = character-here line.bytes.now line.taken c.in-Some.character character c.in-Some.ensures.1 e in
    let found = stop-found c.in-Some.character rest size (c.in-Some-break_stop.ensures ∙ ap (position (stops_break c.in-Some.character)) (rest_of line.bytes.now line.taken)) in
    stop-learned line.bytes.now line.taken size character found.0 (ap (λ m. get_or rest size 0 == m) (sym same) ∙ found.2)

pub returns-clause-pending : goal.returns-clause-pending
returns-clause-pending c = grind (arith, common_steps)

pub returns-in_default-clause-found : goal.returns-in_default-clause-found
returns-in_default-clause-found c = grind (arith, common_steps)
