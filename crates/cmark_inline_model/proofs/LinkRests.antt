-- The text after a closing bracket that belongs to a link ends after an ASCII byte that does not end a line. So does markup that is
-- searched in the source.
use Rattle.std.specs.Prelude.{option_map, ◌&&◌, not, codes, take_while}
use Rattle.std.specs.Option.{option_or}
use Rattle.std.proofs.Common.{◌≡◌, ⊎_elim, ℕ, suc, ◌<◌, Bool, true, false, ◌==◌, ◌||◌, if◌then◌else◌, List, [], ◌∷◌, length, drop, Option, None, Some, refl, sym, subst, arith, rules}
use Rattle.cmark_grammar.specs.Columns.{is_blank_byte}
use Rattle.cmark_grammar.specs.Destinations.{link_destination_in}
use Rattle.cmark_grammar.specs.InlineHtml.{after_comment, declaration_in, cdata_in, opened_in, after_opened, after_markup}
use Rattle.cmark_grammar.specs.Letters.{is_letter, first_is, starts, after_if, after_start_of, after_first_of, and_then}
use Rattle.cmark_grammar.specs.Lines.{is_content}
use Rattle.cmark_grammar.specs.LinkDefinitions.{Parsed, put, escapes_next, label_in, up_to, depth_after, bare_in, title_in, after_leading_blanks, after_next_line, after_separator}
use Rattle.cmark_grammar.specs.LinkTails.{LinkTail, closed_tail, with_title, title_after, tail_inside, link_tail_in, reference_label_in, after_collapsed}
use Rattle.cmark_grammar.specs.Tags.{after_ending}
use Rattle.cmark_block_model.proofs.RowEdges.{Front}
use Rattle.cmark_inline_model.proofs.FindRests.{IsRest, IsAfter, ParsedAfter, following-rest, branch, byte_after, ending-rest, if-rest, leads_after, onward, same, when}
use Rattle.cmark_inline_model.proofs.WordBytes.{and-right, IsWord, starts-leads}

abbrev pub LeavesAfter : List ℕ → Option (List ℕ) → Type 0
LeavesAfter bs None = Unit {0}
LeavesAfter bs (Some r) = IsAfter bs r

abbrev pub TailAfter : List ℕ → Option LinkTail → Type 0
TailAfter bs None = Unit {0}
TailAfter bs (Some tail) = IsAfter bs tail.following

abbrev ParsedRest : List ℕ → Option Parsed → Type 0
ParsedRest bs None = Unit {0}
ParsedRest bs (Some found) = IsRest bs found.following

parsed-on : (bs s : List ℕ) (o : Option Parsed) → IsRest bs s → ParsedRest s o → ParsedRest bs o
parsed-on bs s None h k = tt
parsed-on bs s (Some found) h k = onward bs s found.following h k

parsed-following : (bs s : List ℕ) (o : Option Parsed) → IsRest bs s → ParsedAfter s o → ParsedAfter bs o
parsed-following bs s None h k = tt
parsed-following bs s (Some found) h k = following-rest bs s found.following h k

following-is-rest : (bs : List ℕ) (o : Option Parsed) → ParsedAfter bs o → ParsedRest bs o
following-is-rest bs None h = tt
following-is-rest bs (Some found) h = (suc h.place, h.rest)

put-rest : (b : ℕ) (bs : List ℕ) (o : Option Parsed) → ParsedRest bs o → ParsedRest (b ∷ bs) (put b o)
put-rest b bs None h = tt
put-rest b bs (Some found) h = onward (b ∷ bs) bs found.following (1, refl) h

put-following : (b : ℕ) (bs : List ℕ) (o : Option Parsed) → ParsedAfter bs o → ParsedAfter (b ∷ bs) (put b o)
put-following b bs None h = tt
put-following b bs (Some found) h = following-rest (b ∷ bs) bs found.following (1, refl) h

-- ## Labels, destinations, titles

up-following : (escaped : Bool) (closer refused : ℕ) (over_lines : Bool) (bs : List ℕ) → is_content closer ≡ true → closer < 128 → ParsedAfter bs (up_to escaped closer refused over_lines bs)
up-following escaped closer refused over_lines [] c a = tt
up-following escaped closer refused over_lines (b ∷ bs) c a = search (rules, when, byte_after, and-right, put-following, up-following (escapes_next escaped b) closer refused over_lines bs c a)

label-following : (bs : List ℕ) → ParsedAfter bs (label_in bs)
label-following bs = search (rules, up-following, when)

pub reference_label-following : (bs : List ℕ) → ParsedAfter bs (reference_label_in bs)
reference_label-following bs = go (after_if (λ b. b == 91) bs) (if-rest (λ b. b == 91) bs)
  where
    go : (o : Option (List ℕ)) → ((r : List ℕ) → o ≡ Some r → IsRest bs r) → ParsedAfter bs (and_then o label_in)
    go None h = tt
    go (Some rest) h = parsed-following bs rest (label_in rest) (h rest refl) (label-following rest)

bare-rest : (escaped : Bool) (depth : ℕ) (bs : List ℕ) → ParsedRest bs (bare_in escaped depth bs)
bare-rest escaped depth [] = when (ParsedRest []) (depth == 0) (Some (record { bytes = []; following = [] })) None (λ e. (0, refl)) (λ e. tt)
bare-rest escaped depth (b ∷ bs) = search (rules, when, put-rest, bare-rest (escapes_next escaped b) (depth_after escaped depth b) bs)

destination-rest : (bs : List ℕ) → ParsedRest bs (link_destination_in bs)
destination-rest bs =
    let pointed : Option Parsed = up_to false 62 60 false (drop 1 bs) in
    when (ParsedRest bs) (first_is (λ b. b == 60) bs) pointed (bare_in false 0 bs)
    (λ e. parsed-on bs (drop 1 bs) pointed (1, refl) (following-is-rest (drop 1 bs) pointed (up-following false 62 60 false (drop 1 bs) refl (omega arith)))) (λ e. bare-rest false 0 bs)

-- a title ends with its quotation mark, or with a parenthesis
title-rest : (bs : List ℕ) → ParsedRest bs (title_in bs)
title-rest [] = tt
title-rest (b ∷ bs) =
    let quoted : Option Parsed = up_to false b b true bs in
    let round : Option Parsed = up_to false 41 40 true bs in
    when (ParsedRest (b ∷ bs)) ((b == 34) || (b == 39)) quoted (if b == 40 then round else None) (λ e. parsed-on (b ∷ bs) bs quoted (1, refl) (up-rest false b b bs))
    (λ e. when (ParsedRest (b ∷ bs)) (b == 40) round None (λ f. parsed-on (b ∷ bs) bs round (1, refl) (up-rest false 41 40 bs)) (λ f. tt))
  where
    up-rest : (escaped : Bool) (closer refused : ℕ) (bs : List ℕ) → ParsedRest bs (up_to escaped closer refused true bs)
    up-rest escaped closer refused [] = tt
    up-rest escaped closer refused (b ∷ bs) =
        let later : Option Parsed = up_to (escapes_next escaped b) closer refused true bs in
        let ends : Bool = (not escaped && (b == refused)) || (not true && ((b == 10) || (b == 13))) in
        when (ParsedRest (b ∷ bs)) (not escaped && (b == closer)) (Some (record { bytes = []; following = bs })) (if ends then None else put b later) (λ e. (1, refl))
        (λ e. when (ParsedRest (b ∷ bs)) ends None (put b later) (λ f. tt) (λ f. put-rest b bs later (up-rest (escapes_next escaped b) closer refused bs)))

blanks-rest : (bs : List ℕ) → IsRest bs (after_leading_blanks bs)
blanks-rest bs = (length (take_while is_blank_byte bs), refl)

separator-rest : (bs : List ℕ) → IsRest bs (after_separator bs)
separator-rest bs = go (after_ending (after_leading_blanks bs)) (ending-rest (after_leading_blanks bs))
  where
    go : (o : Option (List ℕ)) → ((r : List ℕ) → o ≡ Some r → IsRest (after_leading_blanks bs) r) → IsRest bs (after_next_line (after_leading_blanks bs) o)
    go None h = blanks-rest bs
    go (Some line) h = onward bs (after_leading_blanks bs) (after_leading_blanks line) (blanks-rest bs) (onward (after_leading_blanks bs) line (after_leading_blanks line) (h line refl) (blanks-rest line))

if-following : (c : ℕ) (bs r : List ℕ) → is_content c ≡ true → c < 128 → after_if (λ b. b == c) bs ≡ Some r → IsAfter bs r
if-following c [] r k a e = cc
if-following c (b ∷ bs) r k a e = ⊎_elim (λ f. subst (IsAfter (b ∷ bs)) (sym (same bs r f.1)) (byte_after b c bs k a f.0)) (λ n. cc) (branch (b == c) (Some bs) None r e)

closed-tail-following : (destination : List ℕ) (title : Option (List ℕ)) (bs : List ℕ) → TailAfter bs (closed_tail destination title bs)
closed-tail-following destination title bs = go (after_if (λ b. b == 41) (after_separator bs)) (λ r. if-following 41 (after_separator bs) r refl (omega arith))
  where
    go : (o : Option (List ℕ)) → ((r : List ℕ) → o ≡ Some r → IsAfter (after_separator bs) r) → TailAfter bs (option_map (λ following. record { destination = destination; title = title; following = following }) o)
    go None h = tt
    go (Some rest) h = following-rest bs (after_separator bs) rest (separator-rest bs) (h rest refl)

tail-on : (bs s : List ℕ) (o : Option LinkTail) → IsRest bs s → TailAfter s o → TailAfter bs o
tail-on bs s None h k = tt
tail-on bs s (Some tail) h k = following-rest bs s tail.following h k

titled-following : (bs : List ℕ) (destination title : Option Parsed) → ParsedRest bs destination → ParsedRest bs title → TailAfter bs (with_title destination title)
titled-following bs destination title h k = grind (arith, tail-on, closed-tail-following)

title-following-rest : (bs : List ℕ) (destination : Option Parsed) → ParsedRest bs destination → ParsedRest bs (title_after destination)
title-following-rest bs None h = tt
title-following-rest bs (Some destination) h =
    parsed-on bs (after_separator destination.following) (title_in (after_separator destination.following))
    (onward bs destination.following (after_separator destination.following) h (separator-rest destination.following)) (title-rest (after_separator destination.following))

pub link_tail-following : (bs : List ℕ) → TailAfter bs (link_tail_in bs)
link_tail-following bs = go (after_if (λ b. b == 40) bs) (if-rest (λ b. b == 40) bs)
  where
    go : (o : Option (List ℕ)) → ((r : List ℕ) → o ≡ Some r → IsRest bs r) → TailAfter bs (and_then o tail_inside)
    go None h = tt
    go (Some rest) h =
        let spaced : List ℕ = after_separator rest in
        let found : ParsedRest rest (link_destination_in spaced) = parsed-on rest spaced (link_destination_in spaced) (separator-rest rest) (destination-rest spaced) in
        tail-on bs rest (tail_inside rest) (h rest refl) (titled-following rest (link_destination_in spaced) (title_after (link_destination_in spaced)) found (title-following-rest rest (link_destination_in spaced) found))

-- ## Some bytes at the front, or the first occurrence of some bytes

start-following : (prefix bs : List ℕ) → 0 < length prefix → Front IsWord (length prefix) prefix → LeavesAfter bs (after_start_of prefix bs)
start-following prefix bs some words =
    when (LeavesAfter bs) (starts prefix bs) (Some (drop (length prefix) bs)) None (λ e. leads_after (length prefix) bs some (starts-leads IsWord prefix bs words e)) (λ e. tt)

pub collapsed-following : (bs : List ℕ) → LeavesAfter bs (after_collapsed bs)
collapsed-following bs = start-following (codes "[]") bs (omega arith) (record { content = refl; ascii = omega arith }, (record { content = refl; ascii = omega arith }, tt))

leaves-on : (bs s : List ℕ) (o : Option (List ℕ)) → IsRest bs s → LeavesAfter s o → LeavesAfter bs o
leaves-on bs s None h k = tt
leaves-on bs s (Some r) h k = following-rest bs s r h k

first-following : (closer bs : List ℕ) → 0 < length closer → Front IsWord (length closer) closer → LeavesAfter bs (after_first_of closer bs)
first-following closer [] some words = tt
first-following closer (b ∷ bs) some words =
    when (LeavesAfter (b ∷ bs)) (starts closer (b ∷ bs)) (Some (drop (length closer) (b ∷ bs))) (after_first_of closer bs)
    (λ e. leads_after (length closer) (b ∷ bs) some (starts-leads IsWord closer (b ∷ bs) words e)) (λ e. leaves-on (b ∷ bs) bs (after_first_of closer bs) (1, refl) (first-following closer bs some words))

-- ## Markup

word : (c : ℕ) → is_content c ≡ true → c < 128 → IsWord c
word c k a = record { content = k; ascii = a }

or-following : (bs : List ℕ) (a b : Option (List ℕ)) → LeavesAfter bs a → LeavesAfter bs b → LeavesAfter bs (option_or a b)
or-following bs None b h k = k
or-following bs (Some r) b h k = h

comment-following : (bs : List ℕ) → LeavesAfter bs (after_comment bs)
comment-following bs =
    or-following bs (after_start_of (codes ">") bs) (option_or (after_start_of (codes "->") bs) (after_first_of (codes "-->") bs)) (start-following (codes ">") bs (omega arith) (word 62 refl (omega arith), tt))
    (or-following bs (after_start_of (codes "->") bs) (after_first_of (codes "-->") bs) (start-following (codes "->") bs (omega arith) (word 45 refl (omega arith), (word 62 refl (omega arith), tt)))
    (first-following (codes "-->") bs (omega arith) (word 45 refl (omega arith), (word 45 refl (omega arith), (word 62 refl (omega arith), tt)))))

-- the text after the closer of markup that was opened
abbrev OpenedAfter : List ℕ → Option (Option (List ℕ)) → Type 0
OpenedAfter bs None = Unit {0}
OpenedAfter bs (Some o) = LeavesAfter bs o

map-following : (bs : List ℕ) (o : Option (List ℕ)) (f : List ℕ → Option (List ℕ)) → ((r : List ℕ) → o ≡ Some r → IsRest bs r) → ((r : List ℕ) → LeavesAfter r (f r)) → OpenedAfter bs (option_map f o)
map-following bs None f h k = tt
map-following bs (Some r) f h k = leaves-on bs r (f r) (h r refl) (k r)

start-rest : (prefix bs r : List ℕ) → after_start_of prefix bs ≡ Some r → IsRest bs r
start-rest prefix bs r e = ⊎_elim (λ f. (length prefix, same (drop (length prefix) bs) r f.1)) (λ n. cc) (branch (starts prefix bs) (Some (drop (length prefix) bs)) None r e)

or-opened : (bs : List ℕ) (a b : Option (Option (List ℕ))) → OpenedAfter bs a → OpenedAfter bs b → OpenedAfter bs (option_or a b)
or-opened bs None b h k = k
or-opened bs (Some r) b h k = h

opened-following : (bs : List ℕ) → OpenedAfter bs (opened_in bs)
opened-following bs =
    or-opened bs (option_map after_comment (after_start_of (codes "--") bs)) (option_or (declaration_in bs) (cdata_in bs))
    (map-following bs (after_start_of (codes "--") bs) after_comment (start-rest (codes "--") bs) comment-following)
    (or-opened bs (declaration_in bs) (cdata_in bs)
    (map-following bs (after_if is_letter bs) (after_first_of (codes ">")) (if-rest is_letter bs) (λ r. first-following (codes ">") r (omega arith) (word 62 refl (omega arith), tt)))
    (map-following bs (after_start_of (codes "[CDATA[") bs) (after_first_of (codes "]]>")) (start-rest (codes "[CDATA[") bs)
    (λ r. first-following (codes "]]>") r (omega arith) (word 93 refl (omega arith), (word 93 refl (omega arith), (word 62 refl (omega arith), tt))))))

closed-following : (bs : List ℕ) (o : Option (Option (List ℕ))) → OpenedAfter bs o → LeavesAfter bs (after_opened o)
closed-following bs None h = tt
closed-following bs (Some o) h = h

pub markup-following : (bs : List ℕ) → LeavesAfter bs (after_markup bs)
markup-following bs =
    let opened : Option (List ℕ) = after_opened (opened_in (drop 2 bs)) in
    let instruction : Option (List ℕ) = after_first_of (codes "?>") (drop 2 bs) in
    when (LeavesAfter bs) (starts (codes "<!") bs) opened (if starts (codes "<?") bs then instruction else None)
    (λ e. leaves-on bs (drop 2 bs) opened (2, refl) (closed-following (drop 2 bs) (opened_in (drop 2 bs)) (opened-following (drop 2 bs))))
    (λ e. when (LeavesAfter bs) (starts (codes "<?") bs) instruction None
    (λ f. leaves-on bs (drop 2 bs) instruction (2, refl) (first-following (codes "?>") (drop 2 bs) (omega arith) (word 63 refl (omega arith), (word 62 refl (omega arith), tt)))) (λ f. tt))
