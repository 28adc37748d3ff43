-- The bytes that searches for markup have passed, from byte to byte of a leaf's text.
use Rattle.std.specs.Prelude.{nat_lt, if◌then◌else◌, Option, Some, None, IfSome, MatchOption, Result, IfOk, is_some}
use Rattle.std.proofs.Common.{◌≡◌, ◌⊎◌, inl, inr, ℕ, zero, suc, ◌+◌, ◌-◌, ◌*◌, ◌≤◌, ◌<◌, Bool, true, false, List, length, refl, sym, subst, ap, ◌∙◌, arith, length-drop, true≢false}
use Rattle.std.proofs.lemmas.Bool.{cases_lt, le-ltb, lt-ltb}
use Rattle.cmark_leaf_text.specs.declared.leaf_text.LeafText.{LeafText}
use Rattle.cmark_leaf_text.specs.Reads.{IsFirstFrom, IsPart, IsRead, place_of, source_of, text_of}
use Rattle.cmark_leaf_text.specs.Stretches.{joined}
use Rattle.cmark_leaf_text.proofs.StretchSteps.{placed, slice-length}
use Rattle.cmark_scan_bytes.specs.Guards.{may_pass, may_pass_by}
use Rattle.cmark_inline.specs.MarkupInSource.{source_from}
use Rattle.cmark_span_scan.specs.Dollars.{IsFormulaAt, IsReached, dollars_in, may_visit, signs_of}
use Rattle.cmark_span_scan.specs.declared.backtick_runs.BacktickRuns.{BacktickRuns}
use Rattle.cmark_span_scan.specs.declared.dollars.Dollars.{Dollars}
use Rattle.cmark_span_scan.specs.declared.dollars.Formula.{Formula}
use Rattle.cmark_span_scan.proofs.DollarLinks.{before-more}
use Rattle.cmark_inline.specs.Counted.{extent_of, extent_up_to}
use Rattle.cmark_inline.specs.Paid.{ArePaid, DollarsPaid, MarkupPaid, RunsPaid, ahead_of}
use Rattle.cmark_inline.specs.Stands.{Moves}
use Rattle.cmark_inline.specs.declared.state.InlineState.{InlineState}
use Rattle.cmark_inline.specs.declared.step.Cursor.{Cursor}
use Rattle.cmark_inline.specs.declared.step.Sought.{Sought}
use Rattle.std.proofs.lemmas.Result.{IfOk-weaker}
use Rattle.cmark_inline.proofs.LastCalls.{ok-by-two}
use Rattle.cmark_inline.specs.declared.markup.FoundHtml.{FoundHtml}
use Rattle.cmark_inline.specs.declared.markup.Unclosed.{Unclosed}
use Rattle.cmark_inline.proofs.SourceOrder.{place-before}
use Rattle.cmark_inline.proofs.SourcePlaces.{order, source-ahead}

-- ## The bytes that may be passed
may-pass-by-most : (width size mark : ℕ) → may_pass_by width size mark ≤ width
may-pass-by-most width size mark = go (nat_lt mark size)
  where
    go : (z : Bool) → (if z then width else 0) ≤ width
    go true = omega arith
    go false = omega arith

module _ (leaf : LeafText) (read : IsRead leaf) where
  abbrev size : ℕ
  size = length (text_of leaf)

  -- the source has at least one byte for each byte of the text
  places-far : (n : ℕ) → n < size → place_of leaf 0 + n ≤ place_of leaf n
  places-far zero lt = omega arith
  places-far (suc n) lt =
      let far = places-far n (omega (arith, lt)) in
      let step = place-before (source_of leaf) 0 0 leaf.stretches.items n (suc n) read.stretches (omega arith) (omega arith) (let q : suc n < 0 + length (joined (source_of leaf) leaf.stretches.items) = omega (arith, lt) in q) in
      omega (arith, far, step)

  -- the bytes of the source that a text takes, if it is not empty
  pub extent-is : 0 < size → extent_of leaf ≡ length (source_from leaf 0)
  extent-is some = go size refl
    where
      go : (count : ℕ) → count ≡ size → extent_up_to leaf count ≡ length (source_from leaf 0)
      go zero e = absurd (omega (arith, e, some))
      go (suc count) e =
          let last = (placed (source_of leaf) 0 0 leaf.stretches.items (size - 1) read.stretches (omega arith) (let q : size - 1 < 0 + length (joined (source_of leaf) leaf.stretches.items) = omega (arith, some) in q)).within in
          let n = slice-length (source_of leaf) (place_of leaf 0) (place_of leaf (size - 1) + 1) (omega (arith, last)) in
          let same : place_of leaf count ≡ place_of leaf (size - 1) = ap (place_of leaf) (let q : count ≡ size - 1 = omega (arith, e) in q) in
          omega (arith, n, same)

  -- these bytes are not more than the source has
  pub extent-within : extent_of leaf ≤ length (source_of leaf)
  extent-within = go size refl
    where
      go : (count : ℕ) → count ≡ size → extent_up_to leaf count ≤ length (source_of leaf)
      go zero e = omega arith
      go (suc count) e =
          let last = (placed (source_of leaf) 0 0 leaf.stretches.items count read.stretches (omega arith) (let q : count < 0 + length (joined (source_of leaf) leaf.stretches.items) = omega (arith, e) in q)).within in
          omega (arith, last)

  following-all : (at : ℕ) → at < size → length (source_from leaf at) ≡ extent_of leaf - (place_of leaf at - place_of leaf 0)
  following-all at lt =
      let n = ap length (source-ahead leaf read at lt) ∙ length-drop (place_of leaf at - place_of leaf 0) (source_from leaf 0) in
      let e = extent-is (omega (arith, lt)) in
      omega (arith, n, e)

  pub ahead-is : (at : ℕ) → at < size → ahead_of leaf at ≡ length (source_from leaf at)
  ahead-is at lt = ap (λ z. if z then extent_of leaf - (place_of leaf at - place_of leaf 0) else 0) (lt-ltb at size lt) ∙ sym (following-all at lt)

  ahead-none : (at : ℕ) → size ≤ at → ahead_of leaf at ≡ 0
  ahead-none at le = ap (λ z. if z then extent_of leaf - (place_of leaf at - place_of leaf 0) else 0) (le-ltb at size le)

  pub text-fits : size ≤ extent_of leaf
  text-fits = go (cases_lt 0 size)
    where
      go : (0 < size) ⊎ (size ≤ 0) → size ≤ extent_of leaf
      go (inr none) = omega (arith, none)
      go (inl some) =
          let far = places-far (size - 1) (omega (arith, some)) in
          let last = (placed (source_of leaf) 0 0 leaf.stretches.items (size - 1) read.stretches (omega arith) (let q : size - 1 < 0 + length (joined (source_of leaf) leaf.stretches.items) = omega (arith, some) in q)).within in
          let n = slice-length (source_of leaf) (place_of leaf 0) (place_of leaf (size - 1) + 1) (omega (arith, last)) in
          let e = extent-is some in
          omega (arith, far, n, e, some)

  -- from a later byte on, not more bytes are ahead
  ahead-falls : (a b : ℕ) → a ≤ b → ahead_of leaf b ≤ ahead_of leaf a
  ahead-falls a b le = go (cases_lt b size)
    where
      go : (b < size) ⊎ (size ≤ b) → ahead_of leaf b ≤ ahead_of leaf a
      go (inr none) = let n = ahead-none b none in omega (arith, n)
      go (inl lt) =
          let m = ahead-is b lt ∙ following-all b lt in
          let n = ahead-is a (let q : a < size = omega (arith, le, lt) in q) ∙ following-all a (let q : a < size = omega (arith, le, lt) in q) in
          let o = order leaf read a b le lt in
          omega (arith, m, n, o)

  -- without a search, the bound still holds
  pub paid-on : (a b : ℕ) (unclosed : Unclosed) → a ≤ b → MarkupPaid leaf a unclosed → MarkupPaid leaf b unclosed
  paid-on a b unclosed le h = let p = h.paid in let f = ahead-falls a b le in record { paid = omega (arith, p, f, le) }

  -- a search that finds nothing
  pub paid-vain : (at : ℕ) (old new : Unclosed) → at < size → new.passed + may_pass (extent_of leaf) (extent_of leaf) new.guard ≤ old.passed + 7 + may_pass (extent_of leaf) (extent_of leaf) old.guard → MarkupPaid leaf at old → MarkupPaid leaf (at + 1) new
  paid-vain at old new lt pays h = let p = h.paid in let f = ahead-falls at (at + 1) (omega arith) in record { paid = omega (arith, p, f, pays, lt) }

  -- a search that finds markup of `taken` bytes
  pub paid-found : (at taken end : ℕ) (old new : Unclosed) → at < size → taken ≤ length (source_from leaf at) → at < end → IsFirstFrom leaf (place_of leaf at + taken) end → new.passed ≤ old.passed + taken → new.guard ≡ old.guard → MarkupPaid leaf at old → MarkupPaid leaf end new
  paid-found at taken end old new lt within further first pays same h =
      let p = h.paid in
      let n = ahead-is at lt ∙ following-all at lt in
      let l = following-all at lt in
      let m = ap (may_pass (extent_of leaf) (extent_of leaf)) same in
      let o = order leaf read 0 at (omega arith) lt in
      let fits : ahead_of leaf end + taken ≤ ahead_of leaf at = go n l o (cases_lt end size) in
      record { paid = omega (arith, p, m, fits, pays, further) }
    where
      go : ahead_of leaf at ≡ extent_of leaf - (place_of leaf at - place_of leaf 0) → length (source_from leaf at) ≡ extent_of leaf - (place_of leaf at - place_of leaf 0) → place_of leaf 0 ≤ place_of leaf at → (end < size) ⊎ (size ≤ end) → ahead_of leaf end + taken ≤ ahead_of leaf at
      go n l o (inr none) = let m = ahead-none end none in omega (arith, m, n, l, within)
      go n l o (inl there) =
          let m = ahead-is end there ∙ following-all end there in
          let b = first.following end (omega arith) there in
          omega (arith, m, n, l, within, b, o)

-- before the first search
pub paid-none : (leaf : LeafText) (unclosed : Unclosed) → length (text_of leaf) ≤ extent_of leaf → unclosed.passed ≡ 0 → MarkupPaid leaf 0 unclosed
paid-none leaf unclosed fits none =
    let e : ℕ = extent_of leaf in
    let g = unclosed.guard in
    let a = may-pass-by-most e e g.cdata in
    let b = may-pass-by-most e e g.processing in
    let c = may-pass-by-most e e g.declaration in
    let d = may-pass-by-most e e g.comment in
    let most = ahead-most (nat_lt 0 (length (text_of leaf))) in
    record { paid = omega (arith, a, b, c, d, most, fits, none) }
  where
    ahead-most : (z : Bool) → (if z then extent_of leaf - (place_of leaf 0 - place_of leaf 0) else 0) ≤ extent_of leaf
    ahead-most true = omega arith
    ahead-most false = omega arith

-- reading a tag searches nothing in the source, whether it is found or not
pub paid-tag : (leaf : LeafText) → IsRead leaf → (text : List ℕ) (at : ℕ) (unclosed : Unclosed) (result : Option FoundHtml) → IfSome result (λ (found : FoundHtml). IsPart text at found.end) → MarkupPaid leaf at unclosed
    → MatchOption result (MarkupPaid leaf (at + 1) unclosed) (λ (found : FoundHtml). MarkupPaid leaf found.end unclosed)
paid-tag leaf read text at unclosed None part h = paid-on leaf read at (at + 1) unclosed (omega arith) h
paid-tag leaf read text at unclosed (Some found) part h = let some = part.some in paid-on leaf read at found.end unclosed (omega (arith, some)) h

-- ## All searches

-- without a search, the bound still holds
pub runs-on : (text : List ℕ) (at next : ℕ) (runs : BacktickRuns) → at ≤ next → RunsPaid text at runs → RunsPaid text next runs
runs-on text at next runs le h = record { reached = further runs.from h.reached; paid = (let p = h.paid in omega (arith, p, le)) }
  where
    further : (from : Option ℕ) → IfSome from (λ n. n ≤ at) → IfSome from (λ n. n ≤ next)
    further None r = tt
    further (Some n) r = omega (arith, r, le)

pub signs-on : (text : List ℕ) (at next : ℕ) (signs : Dollars) → at ≤ next → DollarsPaid text at signs → DollarsPaid text next signs
signs-on text at next signs le h = record {
  reached = λ listed. let r = h.reached listed in let m = before-more at next (dollars_in text) le in omega (arith, r, m);
  paid = (let p = h.paid in omega (arith, p, le));
}

pub all-on : (leaf : LeafText) → IsRead leaf → (at next : ℕ) (sought : Sought) → at ≤ next → ArePaid leaf at sought → ArePaid leaf next sought
all-on leaf read at next sought le h = record {
  runs = runs-on (text_of leaf) at next sought.runs le h.runs;
  signs = signs-on (text_of leaf) at next sought.dollars le h.signs;
  markup = paid-on leaf read at next sought.unclosed le h.markup;
}

-- before the first search
pub paid-start : (leaf : LeafText) → IsRead leaf → (sought : Sought) → sought.runs.from ≡ None → sought.runs.visited ≡ 0 → sought.dollars.is_listed ≡ false → sought.dollars.visited ≡ 0 → MarkupPaid leaf 0 sought.unclosed → ArePaid leaf 0 sought
paid-start leaf read sought none no-runs unlisted no-signs markup = record {
  runs = record {
    reached = subst (λ (from : Option ℕ). IfSome from (λ n. n ≤ 0)) (sym none) tt;
    paid = (let still = ap (λ (from : Option ℕ). if is_some from then 0 else 2 * length (text_of leaf)) none in omega (arith, no-runs, still));
  };
  signs = record {
    reached = λ listed. absurd (true≢false (sym listed ∙ unlisted));
    paid = (let still = ap (λ (z : Bool). if z then length (dollars_in (text_of leaf)) - sought.dollars.reached else 3 * length (text_of leaf)) unlisted in omega (arith, no-signs, still));
  };
  markup = markup;
}

-- a search found a formula
pub signs-found : (text : List ℕ) (at : ℕ) (old new : Dollars) (formula : Formula) → IsReached text (at + 1) new → new.visited + may_visit text (at + 1) new ≤ old.visited + may_visit text at old → IsFormulaAt text at formula → DollarsPaid text at old
    → DollarsPaid text formula.end new
signs-found text at old new formula reached pays there h =
    let opens = there.opens in
    let ordered = there.ordered in
    let closes = there.closes in
    let signs = some-signs formula.is_display in
    let p = h.paid in
    signs-on text (at + 1) formula.end new (omega (arith, opens, ordered, closes, signs)) (record { reached = reached; paid = omega (arith, p, pays) })
  where
    some-signs : (z : Bool) → 1 ≤ signs_of z
    some-signs true = omega arith
    some-signs false = omega arith

-- a call that searches for nothing, or for code spans, markup or formulas
pub all-moved : {E : Type 0} (leaf : LeafText) → IsRead leaf → (text : List ℕ) (at : ℕ) (state : InlineState) (sought : Sought) (result : Result Cursor E) → IfOk result (Moves text at state) → ArePaid leaf at sought → IfOk result (λ (next : Cursor). ArePaid leaf next.at sought)
all-moved leaf read text at state sought result moves h = IfOk-weaker result _ _ (λ next m. let further = m.further in all-on leaf read at next.at sought (omega (arith, further)) h) moves

pub runs-moved : {E : Type 0} (leaf : LeafText) → IsRead leaf → (text : List ℕ) → text ≡ text_of leaf → (at : ℕ) (state : InlineState) (sought : Sought) (runs : BacktickRuns) (result : Result Cursor E) → IfOk result (Moves text at state) → IfOk result (λ (next : Cursor). RunsPaid text next.at runs)
    → ArePaid leaf at sought → IfOk result (λ (next : Cursor). ArePaid leaf next.at (record sought { runs = runs }))
runs-moved leaf read text same at state sought runs result moves paid h = ok-by-two result _ _ _ moves paid (λ next m p.
    let further = m.further in
    let rest = all-on leaf read at next.at sought (omega (arith, further)) h in
    record { runs = subst (λ t. RunsPaid t next.at runs) same p; signs = rest.signs; markup = rest.markup })

pub signs-moved : {E : Type 0} (leaf : LeafText) → IsRead leaf → (text : List ℕ) → text ≡ text_of leaf → (at : ℕ) (state : InlineState) (sought : Sought) (signs : Dollars) (result : Result Cursor E) → IfOk result (Moves text at state) → IfOk result (λ (next : Cursor). DollarsPaid text next.at signs)
    → ArePaid leaf at sought → IfOk result (λ (next : Cursor). ArePaid leaf next.at (record sought { dollars = signs }))
signs-moved leaf read text same at state sought signs result moves paid h = ok-by-two result _ _ _ moves paid (λ next m p.
    let further = m.further in
    let rest = all-on leaf read at next.at sought (omega (arith, further)) h in
    record { runs = rest.runs; signs = subst (λ t. DollarsPaid t next.at signs) same p; markup = rest.markup })

pub markup-moved : {E : Type 0} (leaf : LeafText) → IsRead leaf → (text : List ℕ) (at : ℕ) (state : InlineState) (sought : Sought) (unclosed : Unclosed) (result : Result Cursor E) → IfOk result (Moves text at state) → IfOk result (λ (next : Cursor). MarkupPaid leaf next.at unclosed)
    → ArePaid leaf at sought → IfOk result (λ (next : Cursor). ArePaid leaf next.at (record sought { unclosed = unclosed }))
markup-moved leaf read text at state sought unclosed result moves paid h = ok-by-two result _ _ _ moves paid (λ next m p.
    let further = m.further in
    let rest = all-on leaf read at next.at sought (omega (arith, further)) h in
    record { runs = rest.runs; signs = rest.signs; markup = p })
