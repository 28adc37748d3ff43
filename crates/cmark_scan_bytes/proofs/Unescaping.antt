-- Texts without their escapes and entities.
use Rattle.std.proofs.Common.{◌≡◌, ℕ, zero, suc, ◌+◌, ◌-◌, ◌<◌, ◌≤◌, true, false, ◌==◌, if◌then◌else◌, List, [], ◌∷◌, ◌++◌, length, take, drop, get_or, Option, None, Some, is_some, refl, sym, ap, subst, ◌∙◌, arith, ⊎_elim, ⊎_elim, true≢false, eqb-true, append_assoc, length-append, length-drop, take-append-drop, drop-drop}
use Rattle.std.specs.Str.{IsCharBoundary, IsUtf8}
use Rattle.std.specs.Char.{IsAsciiPunctuation}
use Rattle.std.proofs.lemmas.Bool.{or_parts, or_cases, false_from_ne_true}
use Rattle.std.proofs.lemmas.Str.{IsCharBoundary-at_seam, IsCharBoundary-from_rest, IsCharBoundary-after_ascii}
use Rattle.memchr.specs.Find.{IsFirstByte, is_byte2, OccursAt, FindsNeedle}
use Rattle.cmark_grammar.specs.Answers.{Lookup}
use Rattle.std.specs.Option.{IfSome}
use Rattle.cmark_grammar.specs.Tokens.{Entity, Does, Stands, does, is_escape, size_after, add_bytes, resolved_from, resolved}
use Rattle.cmark_grammar.specs.Unescaped.{escaped_pipe, with_escaped_pipes}
use Rattle.cmark_scan_bytes.specs.declared.entity.Entity as declared
use Rattle.cmark_scan_bytes.specs.Shown.{Closes}
use Rattle.cmark_scan_bytes.proofs.Closers.{starts_here, here_starts, onward, back}
use Rattle.cmark_scan_bytes.specs.Resolved.{part_of, resolved_front, HasNoEscapes, Resolves}

module _ (lookup : Lookup) where
  plain_skip : (k : ℕ) (bs : List ℕ) → resolved_from lookup false k bs ≡ resolved_from lookup false 0 (drop k bs)
  plain_skip zero bs = refl
  plain_skip (suc k) [] = refl
  plain_skip (suc k) (b ∷ bs) = plain_skip k bs

  -- a literal byte
  plain_one : (what : Does) (b : ℕ) (bs : List ℕ) → part_of what bs ≡ None → add_bytes what b (resolved_from lookup (is_escape what) (size_after what) bs) ≡ b ∷ resolved_from lookup false 0 bs
  plain_one Stands b bs e = refl
  plain_one _ b bs e = cc

  -- an escape or an entity
  plain_escaped : (bs : List ℕ) → resolved_from lookup true 0 bs ≡ take 1 bs ++ resolved_from lookup false 0 (drop 1 bs)
  plain_escaped [] = refl
  plain_escaped (b ∷ bs) = refl

  plain_part : (what : Does) (b : ℕ) (bs : List ℕ) (part : Entity) → part_of what bs ≡ Some part → 0 < part.size
      → add_bytes what b (resolved_from lookup (is_escape what) (size_after what) bs) ≡ part.bytes ++ resolved_from lookup false 0 (drop part.size (b ∷ bs))
  plain_part what b bs part e some = grind (arith, plain_escaped, plain_skip)

  -- the same fact for resolved text
  resolved_one : (b : ℕ) (bs : List ℕ) → resolved_front lookup (b ∷ bs) ≡ None → resolved lookup (b ∷ bs) ≡ b ∷ resolved lookup bs
  resolved_one b bs e = plain_one (does lookup false b bs) b bs e

  resolved_part : (bs : List ℕ) (part : Entity) → resolved_front lookup bs ≡ Some part → 0 < part.size → resolved lookup bs ≡ part.bytes ++ resolved lookup (drop part.size bs)
  resolved_part bs part e some = grind (arith, plain_part)

  -- bytes that are neither `&` nor a backslash
  unmarked : (b : ℕ) (bs : List ℕ) → is_byte2 38 92 b ≡ false → resolved_front lookup (b ∷ bs) ≡ None
  unmarked b bs e = grind (arith, or_parts)

  resolved_unmarked : (n : ℕ) (bs : List ℕ) → n ≤ length bs → ((k : ℕ) → k < n → is_byte2 38 92 (get_or bs k 0) ≡ false) → resolved lookup bs ≡ take n bs ++ resolved lookup (drop n bs)
  resolved_unmarked zero bs le none = refl
  resolved_unmarked (suc n) [] le none = absurd (omega arith)
  resolved_unmarked (suc n) (b ∷ bs) le none =
      resolved_one b bs (unmarked b bs (none 0 (omega arith)))
      ∙ ap (λ l. b ∷ l) (resolved_unmarked n bs (omega arith) (λ k lt. none (suc k) (omega arith)))

  -- the text up to this rest is literal
  pub record Passed (text rest : List ℕ) : Type 0 where
    pub front : List ℕ
    pub cut : text ≡ front ++ rest
    pub same : resolved lookup text ≡ front ++ resolved lookup rest

  passed_more : (text rest part next : List ℕ) → Passed text rest → rest ≡ part ++ next → resolved lookup rest ≡ part ++ resolved lookup next → Passed text next
  passed_more text rest part next p cut same = record {
    front = p.front ++ part;
    cut = p.cut ∙ ap (λ l. p.front ++ l) cut ∙ sym (append_assoc p.front part next);
    same = p.same ∙ ap (λ l. p.front ++ l) same ∙ sym (append_assoc p.front part (resolved lookup next));
  }

  pub passed_to_mark : (text rest : List ℕ) (at : ℕ) → IsFirstByte (is_byte2 38 92) rest (Some at) → Passed text rest → Passed text (drop at rest)
  passed_to_mark text rest at first p =
      passed_more text rest (take at rest) (drop at rest) p (sym (take-append-drop at rest))
      (resolved_unmarked at rest (let h = first.0.high in omega arith) (λ k lt. false_from_ne_true _ (first.0.before k (omega arith) lt)))

  one_part : (rest : List ℕ) → 0 < length rest → resolved_front lookup rest ≡ None → resolved lookup rest ≡ take 1 rest ++ resolved lookup (drop 1 rest)
  one_part [] lt e = absurd (omega arith)
  one_part (b ∷ bs) lt e = resolved_one b bs e

  pub passed_mark : (text rest : List ℕ) → 0 < length rest → resolved_front lookup rest ≡ None → Passed text rest → Passed text (drop 1 rest)
  passed_mark text rest lt e p = passed_more text rest (take 1 rest) (drop 1 rest) p (sym (take-append-drop 1 rest)) (one_part rest lt e)

  pub passed_all : (text rest : List ℕ) → IsFirstByte (is_byte2 38 92) rest None → Passed text rest → resolved lookup text ≡ text
  passed_all text rest none p =
      p.same ∙ ap (λ l. p.front ++ l) (all rest (λ k lt. false_from_ne_true _ (none k (omega arith) lt))) ∙ sym p.cut
    where
      all : (bs : List ℕ) → ((k : ℕ) → k < length bs → is_byte2 38 92 (get_or bs k 0) ≡ false) → resolved lookup bs ≡ bs
      all [] h = refl
      all (b ∷ bs) h = resolved_one b bs (unmarked b bs (h 0 (omega arith))) ∙ ap (λ l. b ∷ l) (all bs (λ k lt. h (suc k) (omega arith)))

  take-front : (front rest : List ℕ) → take (length front) (front ++ rest) ≡ front
  take-front [] rest = refl
  take-front (b ∷ front) rest = ap (λ l. b ∷ l) (take-front front rest)

  drop-front : (front rest : List ℕ) → drop (length front) (front ++ rest) ≡ rest
  drop-front [] rest = refl
  drop-front (b ∷ front) rest = drop-front front rest

  -- the first part that is resolved
  pub passed_found : (text rest : List ℕ) (start : ℕ) (part : Entity) → Passed text rest → start ≡ length text - length rest → IsUtf8 rest → resolved_front lookup rest ≡ Some part → 0 < part.size
      → IsCharBoundary rest part.size → Resolves lookup text start (start + part.size) part.bytes
  passed_found text rest start part p is utf8 e some bound =
      let n = ap length p.cut in let l = length-append p.front rest in
      let size : length p.front ≡ start = omega arith in
      let following : drop start text ≡ rest = ap (λ k. drop k text) (sym size) ∙ ap (drop (length p.front)) p.cut ∙ drop-front p.front rest in
      let front : take start text ≡ p.front = ap (λ k. take k text) (sym size) ∙ ap (take (length p.front)) p.cut ∙ take-front p.front rest in
      record {
        low = omega arith;
        here = ap (λ bs. is_some (resolved_front lookup bs)) following ∙ ap is_some e;
        starts = subst (IsCharBoundary text) size (IsCharBoundary-at_seam text p.front rest p.cut utf8);
        ends = IsCharBoundary-from_rest text start part.size (omega arith) (subst (λ (bs : List ℕ). IsCharBoundary bs part.size) (sym following) bound);
        same = p.same ∙ ap (λ l. l ++ resolved lookup rest) (sym front)
            ∙ ap (λ l. take start text ++ l) (resolved_part rest part e some)
            ∙ ap (λ bs. take start text ++ (part.bytes ++ resolved lookup bs)) (ap (drop part.size) (sym following) ∙ drop-drop part.size start text);
      }

-- the end of an entity
closed_cut : (bs : List ℕ) (size : ℕ) → IsUtf8 bs → Closes bs 0 size → (0 < size) × IsCharBoundary bs size
closed_cut bs size utf8 h =
    let low = h.low in let high = h.high in
    let place : size - 0 - 1 ≡ size - 1 = omega arith in
    let byte : get_or bs (size - 1) 0 ≡ 59 = ap (λ n. get_or bs n 0) (sym place) ∙ h.semicolon in
    (low, subst (IsCharBoundary bs) (let e : size - 1 + 1 ≡ size = omega arith in e) (IsCharBoundary-after_ascii bs (size - 1) utf8 (omega arith) (omega arith)))

pub closed_cut_if : (r : Option declared.Entity) (bs text : List ℕ) → bs ≡ text → IsUtf8 text → IfSome r (λ part. Closes bs 0 part.len) → IfSome r (λ part. (0 < part.len) × IsCharBoundary text part.len)
closed_cut_if None bs text e utf8 h = tt
closed_cut_if (Some part) bs text e utf8 h = closed_cut text part.len utf8 (subst (λ (l : List ℕ). Closes l 0 part.len) e h)

-- escaped pipes
some : 0 < length escaped_pipe
some = omega arith

found_at : (bs : List ℕ) (n : ℕ) → OccursAt bs escaped_pipe n → ((k : ℕ) → k < n → ¬ OccursAt bs escaped_pipe k) → with_escaped_pipes bs ≡ take n bs ++ with_escaped_pipes (drop (suc n) bs)
found_at [] n h before = absurd (let f : n + 3 ≤ 0 = h.fits in omega arith)
found_at (b ∷ bs) zero h before = ap (λ t. if t then with_escaped_pipes bs else b ∷ with_escaped_pipes bs) (starts_here escaped_pipe some (b ∷ bs) h)
found_at (b ∷ bs) (suc n) h before =
    ap (λ t. if t then with_escaped_pipes bs else b ∷ with_escaped_pipes bs) (false_from_ne_true _ (λ e. before 0 (omega arith) (here_starts escaped_pipe some (b ∷ bs) e)))
    ∙ ap (λ l. b ∷ l) (found_at bs n (onward escaped_pipe some b bs n h) (λ k lt o. before (suc k) (omega arith) (back escaped_pipe some b bs k o)))

none_at : (bs : List ℕ) → ((k : ℕ) → k < length bs + 1 → ¬ OccursAt bs escaped_pipe k) → with_escaped_pipes bs ≡ bs
none_at [] before = refl
none_at (b ∷ bs) before =
    ap (λ t. if t then with_escaped_pipes bs else b ∷ with_escaped_pipes bs) (false_from_ne_true _ (λ e. before 0 (omega arith) (here_starts escaped_pipe some (b ∷ bs) e)))
    ∙ ap (λ l. b ∷ l) (none_at bs (λ k lt o. before (suc k) (omega arith) (back escaped_pipe some b bs k o)))

pub pipe_found : (bs : List ℕ) (n : ℕ) → FindsNeedle bs escaped_pipe 0 (Some n) → with_escaped_pipes bs ≡ take n bs ++ with_escaped_pipes (drop (n + 1) bs)
pipe_found bs n h = found_at bs n h.1 (λ k lt. h.0.before k (omega arith) lt) ∙ ap (λ m. take n bs ++ with_escaped_pipes (drop m bs)) (let e : suc n ≡ n + 1 = omega arith in e)

pub no_pipe : (bs : List ℕ) → FindsNeedle bs escaped_pipe 0 None → with_escaped_pipes bs ≡ bs
no_pipe bs h = none_at bs (λ k lt. h k (omega arith) lt)

-- boundaries after escapes
pub punctuation_is_ascii : (b : ℕ) → IsAsciiPunctuation b → b < 128
punctuation_is_ascii b h = grind arith

pub after_escape : (text bytes : List ℕ) → bytes ≡ text → IsUtf8 text → 2 ≤ length bytes → IsAsciiPunctuation (get_or bytes 1 0) → IsCharBoundary text 2
after_escape text bytes e utf8 two mark =
    let small : get_or text 1 0 < 128 = subst (λ (l : List ℕ). get_or l 1 0 < 128) e (punctuation_is_ascii (get_or bytes 1 0) mark) in
    IsCharBoundary-after_ascii text 1 utf8 (let n = ap length e in omega arith) small

-- marks are ASCII
mark_is_ascii : (b : ℕ) → is_byte2 38 92 b ≡ true → b < 128
mark_is_ascii b e = ⊎_elim (λ h. let n = eqb-true b 38 h in omega arith) (λ h. let n = eqb-true b 92 h in omega arith) (or_cases (b == 38) (b == 92) e)

pub after_mark : (bytes rest : List ℕ) (at : ℕ) → bytes ≡ rest → IsUtf8 rest → IsFirstByte (is_byte2 38 92) bytes (Some at) → IsCharBoundary rest (at + 1)
after_mark bytes rest at e utf8 first =
    let found : IsFirstByte (is_byte2 38 92) rest (Some at) = subst (λ (l : List ℕ). IsFirstByte (is_byte2 38 92) l (Some at)) e first in
    IsCharBoundary-after_ascii rest at utf8 found.0.high (mark_is_ascii (get_or rest at 0) found.1)

module _ (lookup : Lookup) (text rest bytes cut : List ℕ) (at : ℕ) (same : bytes ≡ rest) (first : IsFirstByte (is_byte2 38 92) bytes (Some at)) (is : cut ≡ drop at rest) (passed : Passed lookup text rest) where
  found : IsFirstByte (is_byte2 38 92) rest (Some at)
  found = subst (λ (l : List ℕ). IsFirstByte (is_byte2 38 92) l (Some at)) same first

  to_mark : Passed lookup text cut
  to_mark = subst (Passed lookup text) (sym is) (passed_to_mark lookup text rest at found passed)

  cut_size : length cut ≡ length rest - at
  cut_size = ap length is ∙ length-drop at rest

  fits : length rest ≤ length text
  fits = let n = ap length passed.cut in let l = length-append passed.front rest in omega arith

  pub found_in : (part : Entity) → IsUtf8 cut → Some part ≡ resolved_front lookup cut → (0 < part.size) × IsCharBoundary cut part.size
      → Resolves lookup text (length text - length rest + at) (length text - length rest + at + part.size) part.bytes
  found_in part utf8 e cuts =
      passed_found lookup text cut (length text - length rest + at) part to_mark (let n = cut_size in let f = fits in let h = found.0.high in omega arith) utf8 (sym e) cuts.0 cuts.1

  pub past_mark : (next : List ℕ) → None ≡ resolved_front lookup cut → next ≡ drop (at + 1) rest → Passed lookup text next
  past_mark next e following =
      subst (Passed lookup text) (ap (drop 1) is ∙ drop-drop 1 at rest ∙ sym following)
      (passed_mark lookup text cut (let n = cut_size in let h = found.0.high in omega arith) (sym e) to_mark)

-- the text that was pushed
pub push_part : (lookup : Lookup) (start end : ℕ) (out one two rest next front part all : List ℕ) → one ≡ out ++ front → two ≡ one ++ part → next ≡ drop end rest → front ≡ take start rest → Resolves lookup rest start end part
    → out ++ resolved lookup rest ≡ all → two ++ resolved lookup next ≡ all
push_part lookup start end out one two rest next front part all first second following cut r e = cc (append_assoc (out ++ take start rest) part (resolved lookup (drop end rest)), append_assoc out (take start rest) (part ++ resolved lookup (drop end rest)))

pub push_to_pipe : (at : ℕ) (out one rest next front all : List ℕ) → one ≡ out ++ front → next ≡ drop (at + 1) rest → front ≡ take at rest → FindsNeedle rest escaped_pipe 0 (Some at)
    → out ++ with_escaped_pipes rest ≡ all → one ++ with_escaped_pipes next ≡ all
push_to_pipe at out one rest next front all first following cut h e = cc (append_assoc out (take at rest) (with_escaped_pipes (drop (at + 1) rest)), pipe_found rest at h)

-- an escaped pipe is an escape
pub pipe_is_escape : (lookup : Lookup) (bs : List ℕ) (n : ℕ) → OccursAt bs escaped_pipe n → is_some (resolved_front lookup (drop n bs)) ≡ true
pipe_is_escape lookup [] n h = absurd (let f : n + 3 ≤ 0 = h.fits in omega arith)
pipe_is_escape lookup (b ∷ bs) (suc n) h = pipe_is_escape lookup bs n (onward escaped_pipe some b bs n h)
pipe_is_escape lookup (b ∷ []) zero h = absurd (let f : 0 + 3 ≤ 1 = h.fits in omega arith)
pipe_is_escape lookup (b ∷ (c ∷ bs)) zero h =
    ap (λ x. is_some (resolved_front lookup (x ∷ (c ∷ bs)))) (let e : b ≡ 92 = h.reads 0 (omega arith) in e)
    ∙ ap (λ x. is_some (resolved_front lookup (92 ∷ (x ∷ bs)))) (let e : c ≡ 92 = h.reads 1 (omega arith) in e)

-- there is no escape at this place
pub no_escape : (lookup : Lookup) (text : List ℕ) (at : ℕ) → HasNoEscapes lookup text → ¬ (is_some (resolved_front lookup (drop at text)) ≡ true)
no_escape lookup text at none e = true≢false (sym e ∙ ap is_some (none at))

pub no_pipe_if : (r : Option ℕ) (bs text : List ℕ) → bs ≡ text → is_some r ≡ false → FindsNeedle bs escaped_pipe 0 r → text ≡ with_escaped_pipes text
no_pipe_if None bs text e none h = sym e ∙ sym (no_pipe bs h) ∙ ap with_escaped_pipes e
no_pipe_if (Some n) bs text e none h = absurd (true≢false none)

pub pipe_if : (lookup : Lookup) (r : Option ℕ) (bs text : List ℕ) → bs ≡ text → is_some r ≡ true → FindsNeedle bs escaped_pipe 0 r → ¬ HasNoEscapes lookup text
pipe_if lookup None bs text e there h free = absurd (true≢false (sym there))
pipe_if lookup (Some n) bs text e there h free = no_escape lookup text n free (ap (λ l. is_some (resolved_front lookup (drop n l))) (sym e) ∙ pipe_is_escape lookup bs n h.1)
