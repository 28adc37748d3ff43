use Rattle.std.proofs.Common.{◌≡◌, ◌⊎◌, inl, inr, true, drop, sym, ap, ◌∙◌, arith}
use Rattle.cmark_grammar.specs.Rows.{is_bare, without}
use Rattle.cmark_scan_lines.specs.LineStart.{columns_from, row_from}
use Rattle.cmark_scan_lines.proofs.RowSteps.{pad-wide, pad-bare, pad-some, pad-one}
use Rattle.cmark_scan_lines.proofs.line_start.LineStart.scan_padding.Goals as goal
use Rattle.cmark_scan_lines.proofs.line_start.LineStart.scan_padding.Goals.{then-blanks-eq5-via-then-blanks-eq5, then-blanks-eq5-via-else-blanks-eq5+then-is_at_eol}

pub returns-then-blanks-eq5-clause-count : goal.returns-then-blanks-eq5-clause-count
returns-then-blanks-eq5-clause-count c at =
    let cs = columns_from at c.args.self.now in
    let n = c.scan_space_upto-blanks.result in
    let is = c.scan_space_upto-blanks.ensures.count at in
    elim c.then-blanks-eq5.branch [
      | then-blanks-eq5-via-then-blanks-eq5 w ↦ pad-wide cs n is w.if-blanks-eq5.true
      | then-blanks-eq5-via-else-blanks-eq5+then-is_at_eol w ↦
          pad-bare cs n is w.if-blanks-eq5.false (ap (λ r. is_bare r.columns) (sym (c.scan_space_upto-blanks.ensures.rest at 0)) ∙ sym (w.is_at_eol.ensures at) ∙ w.if-is_at_eol.true)
    ]

pub returns-then-blanks-eq5-clause-rest : goal.returns-then-blanks-eq5-clause-rest
returns-then-blanks-eq5-clause-rest c at line_end =
    let r = row_from at line_end c.args.self.now in
    let n = c.scan_space_upto-blanks.result in
    let why : (n ≡ 5) ⊎ (is_bare (drop n r.columns) ≡ true) =
    elim c.then-blanks-eq5.branch [
      | then-blanks-eq5-via-then-blanks-eq5 w ↦ inl w.if-blanks-eq5.true
      | then-blanks-eq5-via-else-blanks-eq5+then-is_at_eol w ↦ inr (ap (λ r. is_bare r.columns) (sym (c.scan_space_upto-blanks.ensures.rest at line_end)) ∙ sym (w.is_at_eol.ensures at) ∙ w.if-is_at_eol.true)
    ]
    in
    c.scan_space_upto.ensures.rest at line_end ∙ ap (λ k. without k r) (c.scan_space_upto.ensures.count at)
    ∙ ap (λ cs. record r { columns = cs }) (pad-one r.columns n (c.scan_space_upto-blanks.ensures.count at) why)

pub returns-clause-count : goal.returns-clause-count
returns-clause-count c at =
    let cs = columns_from at c.args.self.now in
    pad-some cs c.scan_space_upto-blanks.result (c.scan_space_upto-blanks.ensures.count at) c.if-blanks-eq5.false
    (ap (λ r. is_bare r.columns) (sym (c.scan_space_upto-blanks.ensures.rest at 0)) ∙ sym (c.is_at_eol.ensures at) ∙ c.if-is_at_eol.false)

pub returns-clause-few : goal.returns-clause-few
returns-clause-few c = let e = c.scan_space_upto-blanks.ensures.count 0 in omega arith
