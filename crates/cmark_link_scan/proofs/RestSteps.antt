-- Rests of a text.
use Rattle.std.proofs.Common.{◌≡◌, ℕ, zero, suc, ◌+◌, ◌-◌, ◌<◌, ◌≤◌, Bool, true, false, ◌==◌, if◌then◌else◌, List, [], ◌∷◌, length, drop, get_or, Option, None, Some, refl, sym, ap, subst, ◌∙◌, arith, eqb-true, drop-drop, length-drop}
use Rattle.std.specs.List.{prefix_len}
use Rattle.std.specs.Option.{IfSome}
use Rattle.std.specs.Str.{IsCharBoundary, IsUtf8}
use Rattle.std.proofs.lemmas.List.Folds.{length-prefix_len}
use Rattle.std.proofs.lemmas.List.Sums.{prefix_len-le-length, prefix_len_passes}
use Rattle.std.proofs.lemmas.Str.{IsCharBoundary-start, IsCharBoundary-after_ascii, IsCharBoundary-from_drop}
use Rattle.cmark_grammar.specs.Columns.{is_blank_byte}
use Rattle.cmark_grammar.specs.LinkDefinitions.{after_leading_blanks}
use Rattle.cmark_grammar.specs.Tags.{after_line_feed, after_ending}
use Rattle.cmark_block_model.proofs.RowEdges.{blank-ascii}
use Rattle.cmark_link_scan.specs.declared.part.Part.{Part}
use Rattle.cmark_link_scan.specs.Rests.{IsRest}

pub whole : (bs : List ℕ) → IsRest bs bs
whole bs = record { skipped = 0; within = omega arith; is = refl }

pub dropped : (bs rest : List ℕ) (n : ℕ) → n ≤ length bs → rest ≡ drop n bs → IsRest bs rest
dropped bs rest n le is = record { skipped = n; within = le; is = is }

-- a rest of a rest
pub further : (bs rest next : List ℕ) → IsRest bs rest → IsRest rest next → IsRest bs next
further bs rest next one two = record {
  skipped = one.skipped + two.skipped;
  within = let l = length-drop one.skipped bs in let n = ap length one.is in let a = one.within in let b = two.within in omega (arith, l, n, a, b);
  is = two.is ∙ ap (drop two.skipped) one.is ∙ drop-drop two.skipped one.skipped bs;
}

-- the place at which it begins
size_before : (bs rest : List ℕ) (r : IsRest bs rest) → r.skipped ≡ length bs - length rest
size_before bs rest r = let l = length-drop r.skipped bs in let n = ap length r.is in let a = r.within in omega (arith, l, n, a)

pub rest_at : (bs rest : List ℕ) → IsRest bs rest → drop (length bs - length rest) bs ≡ rest
rest_at bs rest r = ap (λ n. drop n bs) (sym (size_before bs rest r)) ∙ sym r.is

pub rest_starts : (bs rest : List ℕ) → IsUtf8 rest → IsRest bs rest → IsCharBoundary bs (length bs - length rest)
rest_starts bs rest utf8 r = IsCharBoundary-from_drop bs (length bs - length rest) (omega arith) (subst IsUtf8 (sym (rest_at bs rest r)) utf8)

-- after blanks
pub blanks_value : (bs : List ℕ) (n : ℕ) → n ≡ prefix_len is_blank_byte bs → drop n bs ≡ after_leading_blanks bs
blanks_value bs n is = ap (λ k. drop k bs) (is ∙ sym (length-prefix_len is_blank_byte bs))

pub blanks_end : (bs : List ℕ) (n : ℕ) → IsUtf8 bs → n ≡ prefix_len is_blank_byte bs → IsCharBoundary bs n
blanks_end bs zero utf8 is = IsCharBoundary-start bs utf8
blanks_end bs (suc n) utf8 is =
    let le = prefix_len-le-length is_blank_byte bs in
    let blank : is_blank_byte (get_or bs n 0) ≡ true = prefix_len_passes is_blank_byte bs n 0 (omega arith) in
    subst (IsCharBoundary bs) (let e : n + 1 ≡ suc n = omega arith in e) (IsCharBoundary-after_ascii bs n utf8 (omega arith) (blank-ascii (get_or bs n 0) blank))

-- after ASCII bytes at the beginning
pub after_first : (text bytes : List ℕ) → bytes ≡ text → IsUtf8 text → 1 ≤ length bytes → get_or bytes 0 0 < 128 → IsCharBoundary text 1
after_first text bytes e utf8 some ascii =
    IsCharBoundary-after_ascii text 0 utf8 (let n = ap length e in omega arith) (subst (λ (l : List ℕ). get_or l 0 0 < 128) e ascii)

pub after_second : (text bytes : List ℕ) → bytes ≡ text → IsUtf8 text → 2 ≤ length bytes → get_or bytes 1 0 < 128 → IsCharBoundary text 2
after_second text bytes e utf8 some ascii =
    IsCharBoundary-after_ascii text 1 utf8 (let n = ap length e in omega arith) (subst (λ (l : List ℕ). get_or l 1 0 < 128) e ascii)

pub after_blanks : (text bytes : List ℕ) (n : ℕ) → bytes ≡ text → IsUtf8 text → n ≡ prefix_len is_blank_byte bytes → IsCharBoundary text n
after_blanks text bytes n e utf8 is = blanks_end text n utf8 (is ∙ ap (prefix_len is_blank_byte) e)

pub following_is : (text bytes rest : List ℕ) (n : ℕ) → bytes ≡ text → n ≡ prefix_len is_blank_byte bytes → rest ≡ drop n text → rest ≡ after_leading_blanks text
following_is text bytes rest n e is cut = cut ∙ blanks_value text n (is ∙ ap (prefix_len is_blank_byte) e)

-- after a line ending at the beginning
pub record EndsAt (bs r : List ℕ) : Type 0 where
  pub size : ℕ
  pub boundary : IsCharBoundary bs size
  pub within : size ≤ length bs
  pub some : 0 < size
  pub is : r ≡ drop size bs

same : (x r : List ℕ) → Some x ≡ Some r → r ≡ x
same x r e = cc

pub ending_at : (bs r : List ℕ) → IsUtf8 bs → after_ending bs ≡ Some r → EndsAt bs r
ending_at [] r utf8 e = cc
ending_at (b ∷ bs) r utf8 e = line_feed (b == 10) refl e
  where
    first : b < 128 → r ≡ bs → EndsAt (b ∷ bs) r
    first small is = record { size = 1; boundary = after_first (b ∷ bs) (b ∷ bs) refl utf8 (omega arith) small; within = omega arith; some = omega arith; is = is }

    second : (cs : List ℕ) → bs ≡ cs → b < 128 → r ≡ after_line_feed cs → EndsAt (b ∷ bs) r
    second [] q small is = first small (is ∙ sym q)
    second (c ∷ cs) q small is = go (c == 10) refl is
      where
        go : (z : Bool) → (c == 10) ≡ z → r ≡ (if z then cs else c ∷ cs) → EndsAt (b ∷ bs) r
        go true f is = record {
          size = 2;
          boundary = after_second (b ∷ bs) (b ∷ c ∷ cs) (ap (λ (l : List ℕ). b ∷ l) (sym q)) utf8 (omega arith) (let t = eqb-true c 10 f in omega (arith, t));
          within = let n = ap length q in omega (arith, n);
          some = omega arith;
          is = is ∙ ap (drop 1) (sym q);
        }
        go false f is = first small (is ∙ sym q)

    carriage_return : (z : Bool) → (b == 13) ≡ z → (if z then Some (after_line_feed bs) else None) ≡ Some r → EndsAt (b ∷ bs) r
    carriage_return true f e = second bs refl (let t = eqb-true b 13 f in omega (arith, t)) (same (after_line_feed bs) r e)
    carriage_return false f e = cc

    line_feed : (z : Bool) → (b == 10) ≡ z → (if z then Some bs else if b == 13 then Some (after_line_feed bs) else None) ≡ Some r → EndsAt (b ∷ bs) r
    line_feed true f e = first (let t = eqb-true b 10 f in omega (arith, t)) (same bs r e)
    line_feed false f e = carriage_return (b == 13) refl e

pub ending_place : (bs r : List ℕ) (e : EndsAt bs r) → e.size ≡ length bs - length r
ending_place bs r e = let l = length-drop e.size bs in let n = ap length e.is in let w = e.within in omega (arith, l, n, w)

pub after_opening : (r : Option Part) (text start : List ℕ) → 1 ≤ length text → start ≡ drop 1 text → IfSome r (λ part. IsRest start part.following.now) → IfSome r (λ part. IsRest text part.following.now)
after_opening None text start some is h = tt
after_opening (Some part) text start some is h = further text start part.following.now (dropped text start 1 some is) h
