-- Escaped pipes in code and formulas, one after the other.
use Rattle.std.proofs.Common.{◌≡◌, ◌≢◌, ℕ, zero, suc, ◌+◌, ◌<◌, ◌≤◌, true, if◌then◌else◌, List, [], ◌∷◌, ◌++◌, length, take, drop, get_or, Option, None, Some, is_some, true≢false, refl, sym, ap, subst, ◌∙◌, arith, append_assoc, length-append, length-drop, length-take-le}
use Rattle.std.specs.Option.{MatchOption}
use Rattle.std.proofs.lemmas.Bool.{false_from_ne_true}
use Rattle.memchr.specs.Find.{OccursAt, FindsNeedle}
use Rattle.cmark_grammar.specs.InlineTokens.{without_pipe_escapes}
use Rattle.cmark_grammar.specs.LabelsOverLines.{piped}
use Rattle.cmark_scan_bytes.specs.Pipes.{LeavesOut}
use Rattle.cmark_scan_bytes.proofs.Boundaries.{ascii_boundary}
use Rattle.cmark_scan_bytes.proofs.Closers.{starts_here, here_starts, onward, back}

some_pipe : 0 < length piped
some_pipe = omega arith

kept_byte : (b : ℕ) (bs : List ℕ) → ¬ OccursAt (b ∷ bs) piped 0 → without_pipe_escapes (b ∷ bs) ≡ b ∷ without_pipe_escapes bs
kept_byte b bs none = ap (λ t. if t then without_pipe_escapes bs else b ∷ without_pipe_escapes bs) (false_from_ne_true _ (λ e. none (here_starts piped some_pipe (b ∷ bs) e)))

-- the first backslash before a pipe
first_left_out : (bs : List ℕ) (n : ℕ) → OccursAt bs piped n → ((k : ℕ) → k < n → ¬ OccursAt bs piped k) → without_pipe_escapes bs ≡ take n bs ++ without_pipe_escapes (drop (suc n) bs)
first_left_out [] n h before = absurd (let f : n + 2 ≤ 0 = h.fits in omega arith)
first_left_out (b ∷ bs) zero h before = ap (λ t. if t then without_pipe_escapes bs else b ∷ without_pipe_escapes bs) (starts_here piped some_pipe (b ∷ bs) h)
first_left_out (b ∷ bs) (suc n) h before =
    kept_byte b bs (before 0 (omega arith))
    ∙ ap (λ l. b ∷ l) (first_left_out bs n (onward piped some_pipe b bs n h) (λ k lt o. before (suc k) (omega arith) (back piped some_pipe b bs k o)))

none_left_out : (bs : List ℕ) → ((k : ℕ) → k < length bs + 1 → ¬ OccursAt bs piped k) → without_pipe_escapes bs ≡ bs
none_left_out [] before = refl
none_left_out (b ∷ bs) before = kept_byte b bs (before 0 (omega arith)) ∙ ap (λ l. b ∷ l) (none_left_out bs (λ k lt o. before (suc k) (omega arith) (back piped some_pipe b bs k o)))

leaves_out : (text : List ℕ) (at : ℕ) → FindsNeedle text piped 0 (Some at) → LeavesOut text at
leaves_out text at found =
    let occurs : OccursAt text piped at = found.1 in
    let fits : at + 2 ≤ length text = occurs.fits in
    record {
      within = omega (arith, fits);
      starts = ascii_boundary text at 92 (omega (arith, fits)) (ap (λ k. get_or text k 0) (let e : at ≡ at + 0 = omega arith in e) ∙ occurs.reads 0 (omega arith)) (omega arith);
      ends = ascii_boundary text (at + 1) 124 (omega (arith, fits)) (occurs.reads 1 (omega arith)) (omega arith);
      same = first_left_out text at occurs (λ k lt. found.0.before k (omega arith) lt) ∙ ap (λ k. take at text ++ without_pipe_escapes (drop k text)) (let e : suc at ≡ at + 1 = omega arith in e);
    }

pub finds_escape : (r : Option ℕ) (bs text : List ℕ) → bs ≡ text → FindsNeedle bs piped 0 r → MatchOption r (without_pipe_escapes text ≡ text) (LeavesOut text)
finds_escape None bs text same h = ap without_pipe_escapes (sym same) ∙ none_left_out bs (λ k lt. h k (omega arith) lt) ∙ same
finds_escape (Some at) bs text same h = leaves_out text at (subst (λ (l : List ℕ). FindsNeedle l piped 0 (Some at)) same h)

-- the result is not longer
shorter : (bs : List ℕ) → length (without_pipe_escapes bs) ≤ length bs
shorter [] = omega arith
shorter (b ∷ bs) = grind (arith, shorter bs)

changes : (text : List ℕ) (at : ℕ) → LeavesOut text at → without_pipe_escapes text ≢ text
changes text at d same = grind (arith, length-append, length-take-le, shorter, length-drop)

pub changes_if : (r : Option ℕ) (bs text : List ℕ) → bs ≡ text → is_some r ≡ true → MatchOption r (without_pipe_escapes bs ≡ bs) (LeavesOut bs) → without_pipe_escapes text ≢ text
changes_if None bs text e there h same = absurd (true≢false (sym there))
changes_if (Some at) bs text e there h same = changes bs at h (ap without_pipe_escapes e ∙ same ∙ sym e)

-- the text that was pushed
pub push_to_escape : (at : ℕ) (out one rest next front all : List ℕ) → one ≡ out ++ front → next ≡ drop (at + 1) rest → front ≡ take at rest → LeavesOut rest at
    → out ++ without_pipe_escapes rest ≡ all → one ++ without_pipe_escapes next ≡ all
push_to_escape at out one rest next front all first following cut d e = cc (append_assoc out (take at rest) (without_pipe_escapes (drop (at + 1) rest)))
