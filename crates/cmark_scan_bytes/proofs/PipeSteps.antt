-- Literal pipes, one after the other.
use Rattle.std.proofs.Common.{◌≡◌, ◌≢◌, ℕ, suc, ◌+◌, ◌<◌, ◌≤◌, Bool, true, false, ◌||◌, if◌then◌else◌, List, [], ◌∷◌, ◌++◌, length, take, drop, get_or, Option, None, Some, is_some, true≢false, refl, sym, ap, subst, ◌∙◌, arith, append_assoc, length-append, length-drop, length-take-le, rules}
use Rattle.std.specs.Option.{MatchOption}
use Rattle.std.specs.Str.{IsCharBoundary}
use Rattle.std.proofs.lemmas.List.{drop-drop, drop_more, get_or-drop, take_more}
use Rattle.memchr.specs.Find.{OccursAt}
use Rattle.cmark_grammar.specs.Letters.{starts}
use Rattle.cmark_grammar.specs.Unescaped.{escaped_pipe}
use Rattle.cmark_grammar.specs.LabelsOverLines.{backslash_pair, literal_pipes_from, piped, with_literal_pipes}
use Rattle.cmark_scan_bytes.specs.Pipes.{Drops}
use Rattle.cmark_scan_bytes.specs.declared.pipes.Backslashes.{Backslashes}
use Rattle.cmark_scan_bytes.proofs.Boundaries.{ascii_boundary}
use Rattle.cmark_scan_bytes.proofs.Closers.{starts_here, here_starts, onward}

some_pipe : 0 < length piped
some_pipe = omega arith

some_escape : 0 < length escaped_pipe
some_escape = omega arith

-- an escaped pipe, and the pipe with a backslash in it
onto_pipe : (bs : List ℕ) (n : ℕ) → OccursAt bs escaped_pipe n → OccursAt bs piped (suc n)
onto_pipe bs n h = grind arith

-- ---- one byte

kept_byte : (b : ℕ) (bs : List ℕ) → starts piped (b ∷ bs) ≡ false → starts escaped_pipe (b ∷ bs) ≡ false
    → with_literal_pipes (b ∷ bs) ≡ b ∷ literal_pipes_from (starts backslash_pair (b ∷ bs)) bs
kept_byte b bs no_pipe no_escape = cc

dropped_pipe : (b : ℕ) (bs : List ℕ) → starts piped (b ∷ bs) ≡ true → with_literal_pipes (b ∷ bs) ≡ with_literal_pipes bs
dropped_pipe b bs h = ap (λ t. if t || starts escaped_pipe (b ∷ bs) then with_literal_pipes bs else b ∷ literal_pipes_from (starts backslash_pair (b ∷ bs)) bs) h

dropped_escape : (b : ℕ) (bs : List ℕ) → starts escaped_pipe (b ∷ bs) ≡ true → with_literal_pipes (b ∷ bs) ≡ with_literal_pipes bs
dropped_escape b bs h = grind arith

-- both backslashes of an escaped pipe
dropped_pair : (b : ℕ) (bs : List ℕ) → starts escaped_pipe (b ∷ bs) ≡ true → with_literal_pipes (b ∷ bs) ≡ with_literal_pipes (drop 1 bs)
dropped_pair b [] h = absurd (let f : 0 + 3 ≤ 1 = (here_starts escaped_pipe some_escape (b ∷ []) h).fits in omega arith)
dropped_pair b (c ∷ bs) h =
    dropped_escape b (c ∷ bs) h
    ∙ dropped_pipe c bs (starts_here piped some_pipe (c ∷ bs) (onward piped some_pipe b (c ∷ bs) 0 (onto_pipe (b ∷ (c ∷ bs)) 0 (here_starts escaped_pipe some_escape (b ∷ (c ∷ bs)) h))))

-- ---- a byte of a text

module _ (text : List ℕ) (at : ℕ) (within : at < length text) where
  abbrev pub byte : ℕ
  byte = get_or text at 0

  abbrev pub rest : List ℕ
  rest = drop (at + 1) text

  here : drop at text ≡ byte ∷ rest
  here = drop_more text at 0 within

  -- a byte that stays
  stays : (all : List ℕ) (old new : Bool) → literal_pipes_from old (byte ∷ rest) ≡ byte ∷ literal_pipes_from new rest
      → all ≡ take at text ++ literal_pipes_from old (drop at text) → all ≡ take (at + 1) text ++ literal_pipes_from new rest
  stays all old new one e = grind (arith, here, append_assoc, take_more)

  pub second_stays : (all : List ℕ) → all ≡ take at text ++ literal_pipes_from true (drop at text) → all ≡ take (at + 1) text ++ literal_pipes_from false rest
  second_stays all e = stays all true false refl e

  pub first_stays : (all : List ℕ) → starts piped (drop at text) ≡ false → starts escaped_pipe (drop at text) ≡ false
      → all ≡ take at text ++ literal_pipes_from false (drop at text)
      → all ≡ take (at + 1) text ++ literal_pipes_from (starts backslash_pair (drop at text)) rest
  first_stays all no_pipe no_escape e =
      stays all false (starts backslash_pair (byte ∷ rest))
      (kept_byte byte rest (ap (starts piped) (sym here) ∙ no_pipe) (ap (starts escaped_pipe) (sym here) ∙ no_escape)) e
      ∙ ap (λ l. take (at + 1) text ++ literal_pipes_from (starts backslash_pair l) rest) (sym here)

  -- the place of a byte of a literal pipe
  is_place : (needle : List ℕ) (some : 0 < length needle) (k b : ℕ) → k < length needle → get_or needle k 0 ≡ b → b < 128 → starts needle (drop at text) ≡ true → IsCharBoundary text (at + k)
  is_place needle some k b lt is low h = grind (arith, here_starts, ascii_boundary, length-drop, get_or-drop)

  pub one_backslash : (end : ℕ) → end ≡ at + 1 → starts piped (drop at text) ≡ true → with_literal_pipes text ≡ take at text ++ with_literal_pipes (drop at text) → Drops text at end
  one_backslash end is h e = record {
    low = omega arith;
    starts = subst (IsCharBoundary text) (let p : at + 0 ≡ at = omega arith in p) (is_place piped some_pipe 0 92 (omega arith) refl (omega arith) h);
    ends = subst (IsCharBoundary text) (sym is) (is_place piped some_pipe 1 124 (omega arith) refl (omega arith) h);
    same = e ∙ ap (λ l. take at text ++ l) (ap with_literal_pipes here ∙ dropped_pipe byte rest (ap (starts piped) (sym here) ∙ h))
        ∙ ap (λ k. take at text ++ with_literal_pipes (drop k text)) (sym is);
  }

  pub two_backslashes : (end : ℕ) → end ≡ at + 2 → starts escaped_pipe (drop at text) ≡ true → with_literal_pipes text ≡ take at text ++ with_literal_pipes (drop at text) → Drops text at end
  two_backslashes end is h e = record {
    low = omega arith;
    starts = subst (IsCharBoundary text) (let p : at + 0 ≡ at = omega arith in p) (is_place escaped_pipe some_escape 0 92 (omega arith) refl (omega arith) h);
    ends = subst (IsCharBoundary text) (sym is) (is_place escaped_pipe some_escape 2 124 (omega arith) refl (omega arith) h);
    same = e ∙ ap (λ l. take at text ++ l) (ap with_literal_pipes here ∙ dropped_pair byte rest (ap (starts escaped_pipe) (sym here) ∙ h))
        ∙ ap (λ l. take at text ++ with_literal_pipes l) (drop-drop 1 (at + 1) text ∙ ap (λ k. drop k text) (let p : at + 1 + 1 ≡ end = omega arith in p));
  }

-- ---- the rest

-- it is no longer
shorter : (is_second : Bool) (bs : List ℕ) → length (literal_pipes_from is_second bs) ≤ length bs
shorter is_second [] = omega arith
shorter true (b ∷ bs) = let ih = shorter false bs in omega arith
shorter false (b ∷ bs) = search (rules, shorter false bs, shorter (starts backslash_pair (b ∷ bs)) bs)

pub drops_some : (text : List ℕ) (start end : ℕ) → Drops text start end → with_literal_pipes text ≢ text
drops_some text start end d same = grind (arith, length-append, length-take-le, shorter, length-drop)

pub drops_if : (r : Option Backslashes) (bs text : List ℕ) → bs ≡ text → is_some r ≡ true → MatchOption r (with_literal_pipes bs ≡ bs) (λ found. Drops bs found.start found.end) → with_literal_pipes text ≢ text
drops_if None bs text e there h same = absurd (true≢false (sym there))
drops_if (Some found) bs text e there h same = drops_some bs found.start found.end h (ap with_literal_pipes e ∙ same ∙ sym e)

-- the text that was pushed
pub push_to_backslashes : (start end : ℕ) (out one rest next front all : List ℕ) → one ≡ out ++ front → next ≡ drop end rest → front ≡ take start rest → Drops rest start end
    → out ++ with_literal_pipes rest ≡ all → one ++ with_literal_pipes next ≡ all
push_to_backslashes start end out one rest next front all first following cut d e = cc (append_assoc out (take start rest) (with_literal_pipes (drop end rest)))

-- if the length is the same, the bytes are
kept_all : (is_second : Bool) (bs : List ℕ) → length bs ≤ length (literal_pipes_from is_second bs) → literal_pipes_from is_second bs ≡ bs
kept_all is_second [] le = refl
kept_all true (b ∷ bs) le = ap (λ l. b ∷ l) (kept_all false bs (omega (arith, le)))
kept_all false (b ∷ bs) le = search (rules, shorter, kept_all (starts backslash_pair (b ∷ bs)) bs)

pub none_left_out : (bs : List ℕ) → length bs ≤ length (with_literal_pipes bs) → with_literal_pipes bs ≡ bs
none_left_out = kept_all false
