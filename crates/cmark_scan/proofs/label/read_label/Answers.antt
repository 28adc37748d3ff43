use Rattle.std.proofs.Common.{◌≡◌, ◌+◌, ◌-◌, ◌<◌, ◌||◌, ◌++◌, ◌∷◌, [], true, false, not, List, ℕ, Some, length, take, drop, get_or, string_bytes, sym, ap, subst, ◌∙◌, arith, length-append}
use Rattle.std.proofs.lemmas.Grind.{common_steps}
use Rattle.std.specs.Char.{is_ascii_whitespace}
use Rattle.std.specs.Prelude.{option_map}
use Rattle.std.proofs.Math.ListN.{drop_of_length-le}
use Rattle.std.proofs.lemmas.Str.{IsCharBoundary-start, IsCharBoundary-after_ascii}
use Rattle.cmark_grammar.specs.LinkDefinitions.{characters}
use Rattle.cmark_grammar.specs.LabelsOverLines.{label_prefix, up_to_bracket}
use Rattle.cmark_scan_bytes.specs.Shown.{Part}
use Rattle.cmark_scan_bytes.proofs.Lists.{rest_of}
use Rattle.cmark_scan_bytes.specs.Steps.{puts}
use Rattle.cmark_scan_bytes.proofs.Boundaries.{ascii_boundary, next_boundary}
use Rattle.cmark_scan.proofs.LabelSteps.{has_words, characters_more, words_more, label_fails, label_cut, label_ends, too_long, so_far, so_far-more, so_far-copied, byte-cut, label_onward, no_rest, rest_found, ok_borrowed}
use Rattle.cmark_scan.proofs.label.read_label.Goals as goal

pub loop-at-init : goal.loop-at-init
loop-at-init g c =
    let none = c.new-copied.ensures.bytes in
    record {
      reads = λ prefix answers. sym (ap (λ (l : List ℕ). puts (l ++ []) (up_to_bracket prefix false 0 c.args.text.now)) none);
      counts = sym (ap (λ (l : List ℕ). characters (l ++ [])) none);
      words = sym (ap (λ (l : List ℕ). has_words (l ++ [])) none);
      few = omega arith;
      ordered = omega arith;
      within = omega arith;
      short = let n = ap length none in let l = length-append (string_bytes c.new-copied.result) [] in omega arith;
      kept = λ same. none;
      whole = IsCharBoundary-start c.args.text.now c.utf8.text;
    }

pub returns-then-not-is_label-clause-value : goal.returns-then-not-is_label-clause-value
returns-then-not-is_label-clause-value g c = λ prefix answers.
    let text = c.args.text.now in
    let at = c.loop-at.at in
    let inv = c.loop-at.invariant in
    let cut = byte-cut c.as_bytes-bytes.result.now text at c.as_bytes-bytes.ensures.value (let l = c.loop-at-test.true in let e = ap length c.as_bytes-bytes.ensures.value in omega (arith, l, e)) in
    no_rest prefix text
    (sym (label_ends _ _ (so_far (string_bytes c.loop-at.copied) text c.loop-at.mark at) (drop (at + 1) text) c.loop-at.count c.loop-at.has_words false (inv.reads prefix answers)
    (ap (up_to_bracket prefix c.loop-at.escaped 0) cut ∙ c.in-Ends.ensures.value (drop (at + 1) text) _) inv.counts inv.words c.if-not-is_label.ensures))

pub range-requires-clause-end_boundary : goal.range-requires-clause-end_boundary
range-requires-clause-end_boundary g c =
    let value = c.as_bytes-bytes.ensures.value in
    ascii_boundary c.args.text.now c.loop-at.at 93 (let l = c.loop-at-test.true in let e = ap length value in omega (arith, l, e)) (ap (λ (l : List ℕ). get_or l c.loop-at.at 0) (sym value) ∙ c.in-Ends.ensures.ends) (omega arith)

pub returns-in-Ends-clause-value : goal.returns-in-Ends-clause-value
returns-in-Ends-clause-value g c = λ prefix answers.
    let text = c.args.text.now in
    let at = c.loop-at.at in
    let inv = c.loop-at.invariant in
    let lt : at < length text = let l = c.loop-at-test.true in let e = ap length c.as_bytes-bytes.ensures.value in omega (arith, l, e) in
    let cut = byte-cut c.as_bytes-bytes.result.now text at c.as_bytes-bytes.ensures.value lt in
    let read : List ℕ = so_far (string_bytes c.loop-at.copied) text c.loop-at.mark at in
    ap (λ bytes. let part : Part = record { end = at + 1; bytes = bytes } in Some part) (c.in_ok-joined-in-Ends.ensures.value ∙ ap (λ (l : List ℕ). string_bytes c.loop-at.copied ++ l) c.range.ensures.value)
    ∙ rest_found prefix text read at lt
    (label_ends _ _ read (drop (at + 1) text) c.loop-at.count c.loop-at.has_words true (inv.reads prefix answers)
    (ap (up_to_bracket prefix c.loop-at.escaped 0) cut ∙ c.in-Ends.ensures.value (drop (at + 1) text) _) inv.counts inv.words c.if-not-is_label.ensures)

pub returns-in-Ends-clause-boundary : goal.returns-in-Ends-clause-boundary
returns-in-Ends-clause-boundary g c =
    let value = c.as_bytes-bytes.ensures.value in
    let lt : c.loop-at.at < length c.args.text.now = let l = c.loop-at-test.true in let e = ap length value in omega (arith, l, e) in
    let bracket : get_or c.args.text.now c.loop-at.at 0 ≡ 93 = ap (λ (l : List ℕ). get_or l c.loop-at.at 0) (sym value) ∙ c.in-Ends.ensures.ends in
    IsCharBoundary-after_ascii c.args.text.now c.loop-at.at c.utf8.text lt (omega (arith, bracket))

pub returns-in-Ends-clause-short : goal.returns-in-Ends-clause-short
returns-in-Ends-clause-short g c =
    let read = ap length (c.in_ok-joined-in-Ends.ensures.value ∙ ap (λ (l : List ℕ). string_bytes c.loop-at.copied ++ l) c.range.ensures.value) in
    let short = c.loop-at.invariant.short in
    omega (arith, read, short)

pub returns-in-Ends-clause-borrowed : goal.returns-in-Ends-clause-borrowed
returns-in-Ends-clause-borrowed g c whole =
    let read = ap length (c.in_ok-joined-in-Ends.ensures.value ∙ ap (λ (l : List ℕ). string_bytes c.loop-at.copied ++ l) c.range.ensures.value) in
    let none = c.loop-at.invariant.kept (omega (arith, read, whole)) in
    ok_borrowed _ _ (c.in_ok-joined-in-Ends.ensures.kept none)

pub returns-in-Fails-clause-value : goal.returns-in-Fails-clause-value
returns-in-Fails-clause-value g c = λ prefix answers.
    let text = c.args.text.now in
    let at = c.loop-at.at in
    let cut = byte-cut c.as_bytes-bytes.result.now text at c.as_bytes-bytes.ensures.value (let l = c.loop-at-test.true in let e = ap length c.as_bytes-bytes.ensures.value in omega (arith, l, e)) in
    no_rest prefix text
    (label_fails _ _ (so_far (string_bytes c.loop-at.copied) text c.loop-at.mark at) (c.loop-at.invariant.reads prefix answers)
    (ap (up_to_bracket prefix c.loop-at.escaped 0) cut ∙ c.in-Fails.ensures.value (drop (at + 1) text) _))

pub returns-then-count-gt999-clause-value : goal.returns-then-count-gt999-clause-value
returns-then-count-gt999-clause-value g c = λ prefix answers.
    let text = c.args.text.now in
    no_rest prefix text (too_long _ _ (so_far (string_bytes c.loop-at.copied) text c.loop-at.mark c.loop-at.at) c.loop-at.count (c.loop-at.invariant.reads prefix answers) c.loop-at.invariant.counts c.if-count-gt999.true)

pub returns-in_default-clause-value : goal.returns-in_default-clause-value
returns-in_default-clause-value g c = λ prefix answers.
    let text = c.args.text.now in
    let at = c.loop-at.at in
    let value = c.as_bytes-bytes.ensures.value in
    let cut = byte-cut c.as_bytes-bytes.result.now text at value (let l = c.loop-at-test.true in let e = ap length value in omega (arith, l, e)) in
    let byte = get_or c.as_bytes-bytes.result.now at 0 in
    let rest : take (length c.as_bytes-bytes.result.now - (at + 1)) (drop (at + 1) c.as_bytes-bytes.result.now) ≡ drop (at + 1) text = rest_of c.as_bytes-bytes.result.now (at + 1) ∙ ap (drop (at + 1)) value in
    no_rest prefix text
    (label_cut prefix _ (so_far (string_bytes c.loop-at.copied) text c.loop-at.mark at) (drop at text) (drop (at + 1) text) c.loop-at.escaped byte (c.loop-at.invariant.reads prefix answers) cut c.in-GoesOn.ensures.value
    (ap (option_map (λ n. drop n (drop (at + 1) text))) (c.in_default.ensures.value prefix answers ∙ ap (label_prefix prefix byte) rest)))

pub range-requires-then-size-gt0-clause-end_boundary : goal.range-requires-then-size-gt0-clause-end_boundary
range-requires-then-size-gt0-clause-end_boundary g c =
    let text = c.args.text.now in
    let at = c.loop-at.at in
    let value = c.as_bytes-bytes.ensures.value in
    let lt : at < length text = let l = c.loop-at-test.true in let e = ap length value in omega (arith, l, e) in
    let small = c.in-Some.ensures.line c.if-size-gt0.true in
    IsCharBoundary-after_ascii text at c.utf8.text lt (subst (λ (l : List ℕ). get_or l at 0 < 128) value small)

pub overflow_add-at-then-size-gt0 : goal.overflow_add-at-then-size-gt0
overflow_add-at-then-size-gt0 g c =
    let text = c.args.text.now in
    let at = c.loop-at.at in
    let bytes = c.as_bytes-bytes.result.now in
    let value = c.as_bytes-bytes.ensures.value in
    let lt : at < length text = let l = c.loop-at-test.true in let e = ap length value in omega (arith, l, e) in
    let following = IsCharBoundary-after_ascii text at c.utf8.text lt (subst (λ (l : List ℕ). get_or l at 0 < 128) value (c.in-Some.ensures.line c.if-size-gt0.true)) in
    let next = next_boundary bytes text (at + 1) c.in-Some.size value c.utf8.text following c.in-Some.ensures.within in
    let end = next.0 in
    let same = ap length value in
    let fits = c.as_bytes-bytes.type_inv.0 in
    omega (arith, end, same, fits)

pub loop-at-preserved-then-size-gt0 : goal.loop-at-preserved-then-size-gt0
loop-at-preserved-then-size-gt0 g c =
    let text = c.args.text.now in
    let at = c.loop-at.at in
    let mark = c.loop-at.mark in
    let inv = c.loop-at.invariant in
    let bytes = c.as_bytes-bytes.result.now in
    let value = c.as_bytes-bytes.ensures.value in
    let lt : at < length text = let l = c.loop-at-test.true in let e = ap length value in omega (arith, l, e) in
    let byte = get_or bytes at 0 in
    let cut = byte-cut bytes text at value lt in
    let rest : take (length bytes - (at + 1)) (drop (at + 1) bytes) ≡ drop (at + 1) text = rest_of bytes (at + 1) ∙ ap (drop (at + 1)) value in
    let copied : List ℕ = string_bytes c.loop-at.copied in
    let read : List ℕ = so_far copied text mark at in
    let more : so_far copied text mark (at + 1) ≡ read ++ byte ∷ [] = so_far-more copied text mark at inv.ordered lt ∙ ap (λ (l : List ℕ). read ++ get_or l at 0 ∷ []) (sym value) in
    let size = c.in-Some.size in
    let following = IsCharBoundary-after_ascii text at c.utf8.text lt (subst (λ (l : List ℕ). get_or l at 0 < 128) value (c.in-Some.ensures.line c.if-size-gt0.true)) in
    let next = next_boundary bytes text (at + 1) size value c.utf8.text following c.in-Some.ensures.within in
    let pushed : string_bytes c.push_str.new.self ≡ read ++ byte ∷ [] = c.in_ok-push_str.ensures.bytes ∙ ap (λ (l : List ℕ). copied ++ l) c.range-then-size-gt0.ensures.value ∙ more in
    let is : so_far (string_bytes c.push_str.new.self) text (at + 1 + size) (at + 1 + size) ≡ read ++ byte ∷ [] = so_far-copied (string_bytes c.push_str.new.self) (read ++ byte ∷ []) text (at + 1 + size) pushed in
    record {
      reads = λ prefix answers. label_onward prefix _ text at size byte c.loop-at.escaped c.escapes_next-escaped.result read _ (inv.reads prefix answers) cut c.in-GoesOn.ensures.value (c.in-Some.ensures.value prefix answers ∙ ap (label_prefix prefix byte) rest) is c.escapes_next-escaped.ensures;
      counts = ap (λ n. n + c.begun.result) inv.counts ∙ ap (λ n. characters read + n) c.begun.ensures.value ∙ sym (characters_more read byte) ∙ ap characters (sym is);
      words = c.finds_word-has_words.ensures ∙ ap (λ w. w || not (is_ascii_whitespace byte)) inv.words ∙ sym (words_more read byte) ∙ ap has_words (sym is);
      few = let s = c.begun.ensures.small in let f = c.if-count-gt999.false in omega (arith, s, f);
      ordered = omega arith;
      within = next.0;
      short = let n = ap length is in let l = length-append read (byte ∷ []) in let s = inv.short in omega (arith, n, l, s);
      kept = λ same. let n = ap length is in let l = length-append read (byte ∷ []) in let s = inv.short in let z = c.if-size-gt0.true in absurd (omega (arith, n, l, s, z, same));
      whole = next;
    }

pub loop-at-preserved : goal.loop-at-preserved
loop-at-preserved g c =
    let text = c.args.text.now in
    let at = c.loop-at.at in
    let mark = c.loop-at.mark in
    let inv = c.loop-at.invariant in
    let bytes = c.as_bytes-bytes.result.now in
    let value = c.as_bytes-bytes.ensures.value in
    let lt : at < length text = let l = c.loop-at-test.true in let e = ap length value in omega (arith, l, e) in
    let byte = get_or bytes at 0 in
    let cut = byte-cut bytes text at value lt in
    let rest : take (length bytes - (at + 1)) (drop (at + 1) bytes) ≡ drop (at + 1) text = rest_of bytes (at + 1) ∙ ap (drop (at + 1)) value in
    let copied : List ℕ = string_bytes c.loop-at.copied in
    let read : List ℕ = so_far copied text mark at in
    let more : so_far copied text mark (at + 1) ≡ read ++ byte ∷ [] = so_far-more copied text mark at inv.ordered lt ∙ ap (λ (l : List ℕ). read ++ get_or l at 0 ∷ []) (sym value) in
    let size = c.in-Some.size in
    let none : at + 1 + size ≡ at + 1 = let z = c.if-size-gt0.false in omega (arith, z) in
    let is = more in
    record {
      reads = λ prefix answers. label_onward prefix _ text at size byte c.loop-at.escaped c.escapes_next-escaped.result read _ (inv.reads prefix answers) cut c.in-GoesOn.ensures.value (c.in-Some.ensures.value prefix answers ∙ ap (label_prefix prefix byte) rest) is c.escapes_next-escaped.ensures
          ∙ ap (λ n. puts (so_far copied text mark (at + 1)) (up_to_bracket prefix c.escapes_next-escaped.result 0 (drop n text))) none;
      counts = ap (λ n. n + c.begun.result) inv.counts ∙ ap (λ n. characters read + n) c.begun.ensures.value ∙ sym (characters_more read byte) ∙ ap characters (sym is);
      words = c.finds_word-has_words.ensures ∙ ap (λ w. w || not (is_ascii_whitespace byte)) inv.words ∙ sym (words_more read byte) ∙ ap has_words (sym is);
      few = let s = c.begun.ensures.small in let f = c.if-count-gt999.false in omega (arith, s, f);
      ordered = let o = inv.ordered in omega (arith, o);
      within = omega (arith, lt);
      short = let n = ap length is in let l = length-append read (byte ∷ []) in let s = inv.short in omega (arith, n, l, s);
      kept = λ same. inv.kept (let n = ap length is in let l = length-append read (byte ∷ []) in omega (arith, n, l, same));
      whole = inv.whole;
    }

pub returns-clause-value : goal.returns-clause-value
returns-clause-value g c = λ prefix answers.
    let text = c.args.text.now in
    let at = c.loop-at.at in
    let end : drop at text ≡ [] = drop_of_length-le text (let l = c.loop-at-test.false in let e = ap length c.as_bytes-bytes.ensures.value in omega (arith, l, e)) in
    no_rest prefix text
    (label_fails _ _ (so_far (string_bytes c.loop-at.copied) text c.loop-at.mark at) (c.loop-at.invariant.reads prefix answers) (ap (up_to_bracket prefix c.loop-at.escaped 0) end))

pub returns-clause-borrowed : goal.returns-clause-borrowed
returns-clause-borrowed g c = grind (arith, common_steps)

pub returns-clause-short : goal.returns-clause-short
returns-clause-short g c = grind (arith, common_steps)

pub returns-in_default-clause-boundary : goal.returns-in_default-clause-boundary
returns-in_default-clause-boundary g c = grind (arith, common_steps)

pub returns-then-count-gt999-clause-short : goal.returns-then-count-gt999-clause-short
returns-then-count-gt999-clause-short g c = grind (arith, common_steps)
