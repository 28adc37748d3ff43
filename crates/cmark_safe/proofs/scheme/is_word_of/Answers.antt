use Rattle.std.proofs.Common.{◌≡◌, false, sym, ap, ◌∙◌, ◌||◌, true}
use Rattle.std.specs.Str.{str_eq_ignore_ascii_case}
use Rattle.std.specs.Str.Iter.{split_ascii_whitespace_text}
use Rattle.cmark_grammar.specs.Labels.{words}
use Rattle.cmark_safe.specs.Schemes.{is_one_of}
use Rattle.cmark_safe.proofs.SchemeWords.{none_left, word_off}
use Rattle.cmark_safe.proofs.scheme.is_word_of.Goals as goal

pub returns-then-is_same : goal.returns-then-is_same
returns-then-is_same c =
    let name = c.args.name.now in
    let word = c.in-Some.word.now in
    let step = c.in-Some.ensures.steps in
    let parts = step.3 in
    let rest = split_ascii_whitespace_text c.next.new.self in
    let same : str_eq_ignore_ascii_case name word ≡ true = ap (str_eq_ignore_ascii_case name) (sym c.as_bytes.ensures.value) ∙ sym c.is_same.ensures ∙ c.if-is_same.true in
    sym (ap (λ b. b || is_one_of (words rest) name) same)
    ∙ sym (word_off (split_ascii_whitespace_text c.loop-word.word-iterator) parts.0 word parts.1 rest name parts.2 parts.3 step.0 step.1 parts.4)
    ∙ c.loop-word.invariant

pub loop-word-preserved : goal.loop-word-preserved
loop-word-preserved c =
    let name = c.args.name.now in
    let word = c.in-Some.word.now in
    let step = c.in-Some.ensures.steps in
    let parts = step.3 in
    let rest = split_ascii_whitespace_text c.next.new.self in
    let differs : str_eq_ignore_ascii_case name word ≡ false = ap (str_eq_ignore_ascii_case name) (sym c.as_bytes.ensures.value) ∙ sym c.is_same.ensures ∙ c.if-is_same.false in
    sym (ap (λ b. b || is_one_of (words rest) name) differs)
    ∙ sym (word_off (split_ascii_whitespace_text c.loop-word.word-iterator) parts.0 word parts.1 rest name parts.2 parts.3 step.0 step.1 parts.4)
    ∙ c.loop-word.invariant

pub returns : goal.returns
returns c = sym (none_left (split_ascii_whitespace_text c.loop-word.word-iterator) c.args.name.now c.in-None.ensures.steps.0) ∙ c.loop-word.invariant
