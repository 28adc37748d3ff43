-- The parentheses after a closing bracket end with a closing parenthesis.
use Rattle.std.specs.Prelude.{if◌then◌else◌, not, ◌&&◌, ◌||◌, drop, nat_le, option_map, take_while, Option, Some, None}
use Rattle.std.proofs.Common.{◌≡◌, ℕ, suc, ◌+◌, ◌-◌, ◌<◌, ◌≤◌, ◌==◌, Bool, true, false, List, [], ◌∷◌, length, get_or, refl, sym, ap, subst, ◌∙◌, arith, length-drop, drop-drop, eqb-true}
use Rattle.std.proofs.lemmas.List.{get_or-drop}
use Rattle.cmark_grammar.specs.Columns.{is_blank_byte}
use Rattle.cmark_grammar.specs.Destinations.{link_destination_in}
use Rattle.cmark_grammar.specs.Letters.{first_is, after_if, and_then}
use Rattle.cmark_grammar.specs.LinkDefinitions.{Parsed, bare_in, after_leading_blanks, after_next_line, after_separator, depth_after, ends_bare, escapes_next, put, title_in, up_to}
use Rattle.cmark_grammar.specs.LinkTails.{LinkTail, closed_tail, link_tail_in, tail_inside, title_after, with_title}
use Rattle.cmark_grammar.specs.Tags.{after_ending, after_line_feed}

abbrev IsRest : (bs r : List ℕ) → Type 0
IsRest bs r = (k : ℕ) × (r ≡ drop k bs)

onward : (bs s r : List ℕ) → IsRest bs s → IsRest s r → IsRest bs r
onward bs s r h i = (h.0 + i.0, i.1 ∙ ap (drop i.0) h.1 ∙ drop-drop i.0 h.0 bs)

either : {A : Type 0} (P : A → Type 0) (z : Bool) (x y : A) → P x → P y → P (if z then x else y)
either P true x y p q = p
either P false x y p q = q

-- ## Destinations and titles

abbrev ParsedRest : List ℕ → Option Parsed → Type 0
ParsedRest bs None = Unit {0}
ParsedRest bs (Some found) = IsRest bs found.following

put_rest : (b : ℕ) (bs : List ℕ) (o : Option Parsed) → ParsedRest bs o → ParsedRest (b ∷ bs) (put b o)
put_rest b bs None h = tt
put_rest b bs (Some found) h = onward (b ∷ bs) bs found.following (1, refl) h

on_rest : (bs s : List ℕ) (o : Option Parsed) → IsRest bs s → ParsedRest s o → ParsedRest bs o
on_rest bs s None h k = tt
on_rest bs s (Some found) h k = onward bs s found.following h k

up_rest : (escaped : Bool) (closer refused : ℕ) (over : Bool) (bs : List ℕ) → ParsedRest bs (up_to escaped closer refused over bs)
up_rest escaped closer refused over [] = tt
up_rest escaped closer refused over (b ∷ bs) =
    let after : Option Parsed = up_to (escapes_next escaped b) closer refused over bs in
    either (ParsedRest (b ∷ bs)) (not escaped && (b == closer)) (Some (record { bytes = []; following = bs })) (if (not escaped && (b == refused)) || (not over && ((b == 10) || (b == 13))) then None else put b after)
    (1, refl)
    (either (ParsedRest (b ∷ bs)) ((not escaped && (b == refused)) || (not over && ((b == 10) || (b == 13)))) None (put b after) tt (put_rest b bs after (up_rest (escapes_next escaped b) closer refused over bs)))

bare_rest : (escaped : Bool) (depth : ℕ) (bs : List ℕ) → ParsedRest bs (bare_in escaped depth bs)
bare_rest escaped depth [] = either (ParsedRest []) (depth == 0) (Some (record { bytes = []; following = [] })) None (0, refl) tt
bare_rest escaped depth (b ∷ bs) =
    let after : Option Parsed = bare_in (escapes_next escaped b) (depth_after escaped depth b) bs in
    let ends : Option Parsed = if depth == 0 then Some (record { bytes = []; following = b ∷ bs }) else None in
    let on : Option Parsed = if not escaped && ((b == 40) && nat_le 32 depth) then None else put b after in
    either (ParsedRest (b ∷ bs)) (ends_bare b || (not escaped && ((b == 41) && (depth == 0)))) ends on
    (either (ParsedRest (b ∷ bs)) (depth == 0) (Some (record { bytes = []; following = b ∷ bs })) None (0, refl) tt)
    (either (ParsedRest (b ∷ bs)) (not escaped && ((b == 40) && nat_le 32 depth)) None (put b after) tt (put_rest b bs after (bare_rest (escapes_next escaped b) (depth_after escaped depth b) bs)))

destination_rest : (bs : List ℕ) → ParsedRest bs (link_destination_in bs)
destination_rest bs =
    either (ParsedRest bs) (first_is (λ b. b == 60) bs) (up_to false 62 60 false (drop 1 bs)) (bare_in false 0 bs) (on_rest bs (drop 1 bs) (up_to false 62 60 false (drop 1 bs)) (1, refl) (up_rest false 62 60 false (drop 1 bs))) (bare_rest false 0 bs)

title_rest : (bs : List ℕ) → ParsedRest bs (title_in bs)
title_rest [] = tt
title_rest (b ∷ bs) =
    either (ParsedRest (b ∷ bs)) ((b == 34) || (b == 39)) (up_to false b b true bs) (if b == 40 then up_to false 41 40 true bs else None)
    (on_rest (b ∷ bs) bs (up_to false b b true bs) (1, refl) (up_rest false b b true bs))
    (either (ParsedRest (b ∷ bs)) (b == 40) (up_to false 41 40 true bs) None (on_rest (b ∷ bs) bs (up_to false 41 40 true bs) (1, refl) (up_rest false 41 40 true bs)) tt)

-- ## The blanks between them

abbrev LeavesRest : List ℕ → Option (List ℕ) → Type 0
LeavesRest bs None = Unit {0}
LeavesRest bs (Some r) = IsRest bs r

feed_rest : (bs : List ℕ) → IsRest bs (after_line_feed bs)
feed_rest [] = (0, refl)
feed_rest (b ∷ bs) = either (IsRest (b ∷ bs)) (b == 10) bs (b ∷ bs) (1, refl) (0, refl)

ending_rest : (bs : List ℕ) → LeavesRest bs (after_ending bs)
ending_rest [] = tt
ending_rest (b ∷ bs) =
    either (LeavesRest (b ∷ bs)) (b == 10) (Some bs) (if b == 13 then Some (after_line_feed bs) else None) (1, refl)
    (either (LeavesRest (b ∷ bs)) (b == 13) (Some (after_line_feed bs)) None (onward (b ∷ bs) bs (after_line_feed bs) (1, refl) (feed_rest bs)) tt)

blanks_rest : (bs : List ℕ) → IsRest bs (after_leading_blanks bs)
blanks_rest bs = (length (take_while is_blank_byte bs), refl)

separator_rest : (bs : List ℕ) → IsRest bs (after_separator bs)
separator_rest bs = go (after_ending (after_leading_blanks bs)) (ending_rest (after_leading_blanks bs))
  where
    go : (o : Option (List ℕ)) → LeavesRest (after_leading_blanks bs) o → IsRest bs (after_next_line (after_leading_blanks bs) o)
    go None h = blanks_rest bs
    go (Some line) h = onward bs (after_leading_blanks bs) (after_leading_blanks line) (blanks_rest bs) (onward (after_leading_blanks bs) line (after_leading_blanks line) h (blanks_rest line))

-- ## The tail

-- a closing parenthesis is directly before the bytes `following`
abbrev EndsBefore : (bs following : List ℕ) → Type 0
EndsBefore bs following = (k : ℕ) × (drop k bs ≡ 41 ∷ following)

abbrev TailEnds : List ℕ → Option LinkTail → Type 0
TailEnds bs None = Unit {0}
TailEnds bs (Some tail) = EndsBefore bs tail.following

on_tail : (bs s : List ℕ) (o : Option LinkTail) → IsRest bs s → TailEnds s o → TailEnds bs o
on_tail bs s None h k = tt
on_tail bs s (Some tail) h k = (h.0 + k.0, sym (ap (drop k.0) h.1 ∙ drop-drop k.0 h.0 bs) ∙ k.1)

closed_ends : (destination : List ℕ) (title : Option (List ℕ)) (bs : List ℕ) → TailEnds bs (closed_tail destination title bs)
closed_ends destination title bs = on_tail bs (after_separator bs) (closed_tail destination title bs) (separator_rest bs) (go (after_separator bs))
  where
    go : (l : List ℕ) → TailEnds l (option_map (λ following. record { destination = destination; title = title; following = following }) (after_if (λ b. b == 41) l))
    go [] = tt
    go (b ∷ l) = by (b == 41) refl
      where
        by : (z : Bool) → (b == 41) ≡ z → TailEnds (b ∷ l) (option_map (λ following. record { destination = destination; title = title; following = following }) (if z then Some l else None))
        by true e = (0, ap (λ c. c ∷ l) (eqb-true b 41 e))
        by false e = tt

titled_ends : (bs : List ℕ) (destination title : Option Parsed) → ParsedRest bs destination → ParsedRest bs title → TailEnds bs (with_title destination title)
titled_ends bs None title h k = tt
titled_ends bs (Some destination) None h k = on_tail bs destination.following (closed_tail destination.bytes None destination.following) h (closed_ends destination.bytes None destination.following)
titled_ends bs (Some destination) (Some title) h k = on_tail bs title.following (closed_tail destination.bytes (Some title.bytes) title.following) k (closed_ends destination.bytes (Some title.bytes) title.following)

after_rest : (bs : List ℕ) (destination : Option Parsed) → ParsedRest bs destination → ParsedRest bs (title_after destination)
after_rest bs None h = tt
after_rest bs (Some destination) h =
    let s = after_separator destination.following in
    on_rest bs s (title_in s) (onward bs destination.following s h (separator_rest destination.following)) (title_rest s)

inside_ends : (bs : List ℕ) → TailEnds bs (tail_inside bs)
inside_ends bs =
    let s = after_separator bs in
    let found : ParsedRest bs (link_destination_in s) = on_rest bs s (link_destination_in s) (separator_rest bs) (destination_rest s) in
    titled_ends bs (link_destination_in s) (title_after (link_destination_in s)) found (after_rest bs (link_destination_in s) found)

tail_ends : (bs : List ℕ) → TailEnds bs (link_tail_in bs)
tail_ends [] = tt
tail_ends (b ∷ bs) = go (b == 40)
  where
    go : (z : Bool) → TailEnds (b ∷ bs) (and_then (if z then Some bs else None) tail_inside)
    go true = on_tail (b ∷ bs) bs (tail_inside bs) (1, refl) (inside_ends bs)
    go false = tt

-- the last byte of the tail is its closing parenthesis
pub tail-ends : (text : List ℕ) (at end : ℕ) (tail : LinkTail) → link_tail_in (drop at text) ≡ Some tail → tail.following ≡ drop end text → end ≤ length text → (0 < end) × (get_or text (end - 1) 0 ≡ 41)
tail-ends text at end tail e following within =
    let h : EndsBefore (drop at text) tail.following = subst (TailEnds (drop at text)) e (tail_ends (drop at text)) in
    let is : drop (at + h.0) text ≡ 41 ∷ drop end text = sym (drop-drop h.0 at text) ∙ h.1 ∙ ap (λ l. 41 ∷ l) following in
    let a = ap length is in
    let b = length-drop (at + h.0) text in
    let c = length-drop end text in
    let n : end ≡ suc (at + h.0) = omega (arith, a, b, c, within) in (
      (let q : 0 < end = omega (arith, n) in q),
      ap (λ k. get_or text k 0) (let q : end - 1 ≡ (at + h.0) + 0 = omega (arith, n) in q) ∙ sym (get_or-drop (at + h.0) text 0 0) ∙ ap (λ l. get_or l 0 0) is,
    )
