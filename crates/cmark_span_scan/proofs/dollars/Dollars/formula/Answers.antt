use Rattle.std.proofs.Common.{arith, get_or, length, ◌<◌, ◌-◌, ◌≡◌, ◌+◌, ◌||◌, Bool, ℕ, List, None, Some, sym, ap, subst, ◌∙◌, drop}
use Rattle.std.specs.List.{prefix_len}
use Rattle.std.specs.Str.{IsCharBoundary}
use Rattle.cmark_grammar.specs.Formulas.{is_dollar, is_ink, context_of}
use Rattle.cmark_grammar.specs.Letters.{first_is}
use Rattle.cmark_span_scan.specs.Dollars.{braces_at, closing, dollars_in, stands_before}
use Rattle.cmark_span_scan.proofs.DollarLinks.{formula-pays, last-closes, last-sign, reached-further, reached-next, signs-following}
use Rattle.cmark_span_scan.proofs.DollarSteps.{following-signs, formula-by, there-in}
use Rattle.cmark_span_scan.proofs.dollars.Dollars.formula.Goals as goal

pub returns-in_default-clause-value : goal.returns-in_default-clause-value
returns-in_default-clause-value c =
    let text : List ℕ = c.args.text.now in
    let double : Bool = c.is_dollar_at-is_display.result in
    formula-by text c.args.at c.requires.dollar.within c.requires.dollar.is double
    (c.is_dollar_at-is_display.ensures ∙ ap (λ (bs : List ℕ). first_is is_dollar (drop (c.args.at + 1) bs)) c.as_bytes-bytes.ensures.value)
    (sym c.if-not-opens.false ∙ c.opens.ensures ∙ ap (λ (bs : List ℕ). double || first_is is_ink (drop (c.args.at + 1) bs)) c.as_bytes-bytes.ensures.value)
    (c.args.at + c.signs_of.result) (ap (λ n. c.args.at + n) c.signs_of.ensures.value) None (sym c.in_default.is ∙ last-closes text double c.args.at (c.args.at + c.signs_of.result) c.closer.result c.requires.dollar.within c.requires.dollar.is (ap (λ n. c.args.at + n) c.signs_of.ensures.value) c.closer.ensures.value)

closed : (c : goal.In-Some) → Some c.in-Some.closer ≡ closing (c.args.at + c.signs_of.result) (context_of (braces_at c.args.text.now c.args.at)) (dollars_in c.args.text.now)
closed c = last-closes c.args.text.now c.is_dollar_at-is_display.result c.args.at (c.args.at + c.signs_of.result) (Some c.in-Some.closer) c.requires.dollar.within c.requires.dollar.is (ap (λ n. c.args.at + n) c.signs_of.ensures.value) c.in-Some.ensures.value

pub returns-clause-value : goal.returns-clause-value
returns-clause-value c =
    let text : List ℕ = c.args.text.now in
    let double : Bool = c.is_dollar_at-is_display.result in
    c.formula_up_to.ensures.value
    ∙ formula-by text c.args.at c.requires.dollar.within c.requires.dollar.is double
    (c.is_dollar_at-is_display.ensures ∙ ap (λ (bs : List ℕ). first_is is_dollar (drop (c.args.at + 1) bs)) c.as_bytes-bytes.ensures.value)
    (sym c.if-not-opens.false ∙ c.opens.ensures ∙ ap (λ (bs : List ℕ). double || first_is is_ink (drop (c.args.at + 1) bs)) c.as_bytes-bytes.ensures.value)
    (c.args.at + c.signs_of.result) (ap (λ n. c.args.at + n) c.signs_of.ensures.value) (Some c.in-Some.closer) (last-closes text c.is_dollar_at-is_display.result c.args.at (c.args.at + c.signs_of.result) (Some c.in-Some.closer) c.requires.dollar.within c.requires.dollar.is (ap (λ n. c.args.at + n) c.signs_of.ensures.value) c.in-Some.ensures.value)

pub formula_up_to-requires-clause-starts : goal.formula_up_to-requires-clause-starts
formula_up_to-requires-clause-starts c =
    let double : Bool = c.is_dollar_at-is_display.result in
    let e : double ≡ first_is is_dollar (drop (c.args.at + 1) c.args.text.now) = c.is_dollar_at-is_display.ensures ∙ ap (λ (bs : List ℕ). first_is is_dollar (drop (c.args.at + 1) bs)) c.as_bytes-bytes.ensures.value in
    subst (λ n. IsCharBoundary c.args.text.now (c.args.at + n)) (sym c.signs_of.ensures.value) (following-signs c.args.text.now c.utf8.text double c.args.at c.requires.dollar.within c.requires.dollar.is (λ q. sym e ∙ q))

pub formula_up_to-requires-clause-ordered : goal.formula_up_to-requires-clause-ordered
formula_up_to-requires-clause-ordered c =
    (there-in c.args.text.now (c.args.at + c.signs_of.result) (context_of (braces_at c.args.text.now c.args.at)) c.in-Some.closer (sym (closed c))).0

pub formula_up_to-requires-clause-within : goal.formula_up_to-requires-clause-within
formula_up_to-requires-clause-within c =
    (there-in c.args.text.now (c.args.at + c.signs_of.result) (context_of (braces_at c.args.text.now c.args.at)) c.in-Some.closer (sym (closed c))).1

pub formula_up_to-requires-clause-dollar : goal.formula_up_to-requires-clause-dollar
formula_up_to-requires-clause-dollar c =
    (there-in c.args.text.now (c.args.at + c.signs_of.result) (context_of (braces_at c.args.text.now c.args.at)) c.in-Some.closer (sym (closed c))).2

pub closer-requires-clause-dollar : goal.closer-requires-clause-dollar
closer-requires-clause-dollar c =
    let double : Bool = c.is_dollar_at-is_display.result in
    let e : double ≡ first_is is_dollar (drop (c.args.at + 1) c.args.text.now) = c.is_dollar_at-is_display.ensures ∙ ap (λ (bs : List ℕ). first_is is_dollar (drop (c.args.at + 1) bs)) c.as_bytes-bytes.ensures.value in
    let next = last-sign c.args.text.now double c.args.at c.requires.dollar.within c.requires.dollar.is (λ q. sym e ∙ q) in
    let signs = c.signs_of.ensures.value in
    record {
      within = subst (λ n. c.args.at + n - 1 < length c.args.text.now) (sym signs) next.0;
      is = ap (λ n. get_or c.args.text.now (c.args.at + n - 1) 0) signs ∙ next.1;
    }

pub returns-then-not-opens-clause-visits : goal.returns-then-not-opens-clause-visits
returns-then-not-opens-clause-visits c = record {
  grows = omega arith;
  reached = reached-further c.args.text.now c.args.at (c.args.at + 1) c.args.self.now (omega arith);
  pays = λ reached. omega arith;
}

pub returns-in_default-clause-visits : goal.returns-in_default-clause-visits
returns-in_default-clause-visits c =
    let listed = c.in_ok-list.ensures.grows in
    let least = c.closer.ensures.least in
    record {
      grows = omega (arith, listed, least);
      reached = λ h on.
          let next = reached-next c.args.text.now c.is_dollar_at-is_display.result c.args.at in
          let is = c.closer.ensures.reached ∙ ap (λ n. prefix_len (stands_before (c.args.at + n - 1)) (dollars_in c.args.text.now)) c.signs_of.ensures.value in
          omega (arith, next, is);
      pays = formula-pays c.args.text.now c.args.self.now c.list.new.self c.closer.new.self c.args.at (c.args.at + c.signs_of.result - 1) c.requires.dollar.within (signs-following c.args.at c.is_dollar_at-is_display.result c.signs_of.result c.signs_of.ensures.value) c.in_ok-list.ensures.counts c.in_ok-list.ensures.listed c.closer.ensures.pays c.closer.ensures.listed.is c.closer.ensures.within;
    }

pub returns-clause-visits : goal.returns-clause-visits
returns-clause-visits c =
    let listed = c.in_ok-list.ensures.grows in
    let least = c.closer.ensures.least in
    record {
      grows = omega (arith, listed, least);
      reached = λ h on.
          let next = reached-next c.args.text.now c.is_dollar_at-is_display.result c.args.at in
          let is = c.closer.ensures.reached ∙ ap (λ n. prefix_len (stands_before (c.args.at + n - 1)) (dollars_in c.args.text.now)) c.signs_of.ensures.value in
          omega (arith, next, is);
      pays = formula-pays c.args.text.now c.args.self.now c.list.new.self c.closer.new.self c.args.at (c.args.at + c.signs_of.result - 1) c.requires.dollar.within (signs-following c.args.at c.is_dollar_at-is_display.result c.signs_of.result c.signs_of.ensures.value) c.in_ok-list.ensures.counts c.in_ok-list.ensures.listed c.closer.ensures.pays c.closer.ensures.listed.is c.closer.ensures.within;
    }
