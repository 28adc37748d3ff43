-- Reading a part of a text leaves fewer bytes, so that each search makes progress.
use Rattle.std.specs.Prelude.{ℕ, zero, suc, ◌<◌, ◌≤◌, Bool, true, false, ◌==◌, ◌||◌, if◌then◌else◌, List, [], ◌∷◌, length, drop, take_while, codes, Option, Some, None, option_map}
use Rattle.std.specs.Option.{option_or}
use Rattle.std.specs.List.{prefix_len}
use Rattle.std.proofs.Common.{◌≡◌, arith, length-drop, rules}
use Rattle.std.proofs.lemmas.Bool.{eq-eqb}
use Rattle.std.proofs.lemmas.List.Sums.{prefix_len-le-length}
use Rattle.cmark_grammar.specs.Autolinks.{closed_by, has_address, is_uri_byte, autolink_in}
use Rattle.cmark_grammar.specs.CodeSpans.{is_backtick, up_to_run, after_run, code_in}
use Rattle.cmark_grammar.specs.Columns.{is_blank_byte}
use Rattle.cmark_grammar.specs.Destinations.{link_destination_in}
use Rattle.cmark_grammar.specs.Formulas.{Braces, context_of, after_byte, formula_to, inline_in, display_in}
use Rattle.cmark_grammar.specs.InlineHtml.{after_comment, declaration_in, cdata_in, opened_in, after_opened, after_markup}
use Rattle.cmark_grammar.specs.Letters.{is_letter, first_is, starts, after_while, after_if, after_start_of, after_first_of, and_then}
use Rattle.cmark_grammar.specs.LineBreaks.{LineBreak, backslash_break_in}
use Rattle.cmark_grammar.specs.LinkDefinitions.{Parsed, put, label_in, escapes_next, up_to, bare_in, depth_after, title_in, after_leading_blanks, after_separator}
use Rattle.cmark_grammar.specs.LinkTails.{LinkTail, closed_tail, with_title, title_after, tail_inside, link_tail_in, reference_label_in, after_collapsed}
use Rattle.cmark_grammar.specs.Tags.{is_name_byte, is_attribute_start, is_attribute_byte, is_value_byte, is_space_byte, after_line_feed, after_ending, after_tag_name, after_attribute_name, after_bare_value, after_open_end, after_closing_tag, on_next_line, after_space, prefix_after, after_quotation_mark, after_value, after_assigned, after_attribute, after_attributes, after_open_tag, after_tag_start, after_tag}

-- fewer than `n` bytes are left, if the part was there
abbrev pub LeavesBelow : ℕ → Option (List ℕ) → Type 0
LeavesBelow n None = Unit {0}
LeavesBelow n (Some rest) = length rest < n

abbrev pub ParsedBelow : ℕ → Option Parsed → Type 0
ParsedBelow n None = Unit {0}
ParsedBelow n (Some found) = length found.following < n

-- either of two
pub either : {A : Type 0} (P : A → Type 0) (b : Bool) (x y : A) → P x → P y → P (if b then x else y)
either P true x y h k = h
either P false x y h k = k

more : (n m : ℕ) (o : Option (List ℕ)) → n ≤ m → LeavesBelow n o → LeavesBelow m o
more n m None h k = tt
more n m (Some rest) h k = omega arith

more_found : (n m : ℕ) (o : Option Parsed) → n ≤ m → ParsedBelow n o → ParsedBelow m o
more_found n m None h k = tt
more_found n m (Some rest) h k = omega arith

and_shorter : (n m : ℕ) (o : Option (List ℕ)) (next : List ℕ → Option (List ℕ)) → LeavesBelow n o → ((rest : List ℕ) → length rest < n → LeavesBelow m (next rest)) → LeavesBelow m (and_then o next)
and_shorter n m None next h k = tt
and_shorter n m (Some rest) next h k = k rest h

and_found : (n m : ℕ) (o : Option (List ℕ)) (next : List ℕ → Option Parsed) → LeavesBelow n o → ((rest : List ℕ) → length rest < n → ParsedBelow m (next rest)) → ParsedBelow m (and_then o next)
and_found n m None next h k = tt
and_found n m (Some rest) next h k = k rest h

or_else : (n : ℕ) (x y : Option (List ℕ)) → LeavesBelow n x → LeavesBelow n y → LeavesBelow n (option_or x y)
or_else n None y h k = k
or_else n (Some x) y h k = h

dropped : (k : ℕ) (bs : List ℕ) → length (drop k bs) ≤ length bs
dropped k bs = let e = length-drop k bs in omega arith

pub if-shorter : (p : ℕ → Bool) (bs : List ℕ) → LeavesBelow (length bs) (after_if p bs)
if-shorter p [] = tt
if-shorter p (b ∷ bs) = either (LeavesBelow (suc (length bs))) (p b) (Some bs) None (omega arith) tt

start_within : (prefix bs : List ℕ) → LeavesBelow (suc (length bs)) (after_start_of prefix bs)
start_within prefix bs = either (LeavesBelow (suc (length bs))) (starts prefix bs) (Some (drop (length prefix) bs)) None (let e = dropped (length prefix) bs in omega arith) tt

first_within : (closer bs : List ℕ) → LeavesBelow (suc (length bs)) (after_first_of closer bs)
first_within closer [] = tt
first_within closer (b ∷ bs) =
    either (LeavesBelow (suc (suc (length bs)))) (starts closer (b ∷ bs)) (Some (drop (length closer) (b ∷ bs))) (after_first_of closer bs)
    (let e = dropped (length closer) (b ∷ bs) in omega arith) (more (suc (length bs)) (suc (suc (length bs))) (after_first_of closer bs) (omega arith) (first_within closer bs))

-- ## Tags

feed_within : (bs : List ℕ) → length (after_line_feed bs) ≤ length bs
feed_within [] = omega arith
feed_within (b ∷ bs) = either (λ (l : List ℕ). length l ≤ suc (length bs)) (b == 10) bs (b ∷ bs) (omega arith) (omega arith)

pub ending-shorter : (bs : List ℕ) → LeavesBelow (length bs) (after_ending bs)
ending-shorter bs = grind (arith, either, feed_within)

then_all : (p q : ℕ → Bool) (bs : List ℕ) → LeavesBelow (length bs) (and_then (after_if p bs) (λ rest. Some (after_while q rest)))
then_all p q bs = and_shorter (length bs) (length bs) (after_if p bs) (λ rest. Some (after_while q rest)) (if-shorter p bs) (λ rest h. let e = dropped (prefix_len q rest) rest in omega arith)

module _ (prefix : List ℕ → ℕ) where
  line_within : (n : ℕ) (bs : List ℕ) (o : Option (List ℕ)) → length bs ≤ n → LeavesBelow n o → length (on_next_line prefix bs o) ≤ n
  line_within n bs o h k = grind (arith, dropped)

  space_within : (bs : List ℕ) → length (after_space prefix bs) ≤ length bs
  space_within bs = grind (arith, dropped, line_within, more, ending-shorter)

  quote_shorter : (quote skip : ℕ) (bs : List ℕ) → LeavesBelow (length bs) (after_quotation_mark prefix quote skip bs)
  quote_shorter quote skip [] = tt
  quote_shorter quote (suc skip) (b ∷ bs) = more (length bs) (suc (length bs)) (after_quotation_mark prefix quote skip bs) (omega arith) (quote_shorter quote skip bs)
  quote_shorter quote zero (b ∷ bs) = search (rules, either, more, quote_shorter quote (prefix_after prefix b bs) bs)

  value_shorter : (bs : List ℕ) → LeavesBelow (length bs) (after_value prefix bs)
  value_shorter [] = tt
  value_shorter (b ∷ bs) =
      either (LeavesBelow (suc (length bs))) ((b == 34) || (b == 39)) (after_quotation_mark prefix b 0 bs) (after_bare_value (b ∷ bs))
      (more (length bs) (suc (length bs)) (after_quotation_mark prefix b 0 bs) (omega arith) (quote_shorter b 0 bs)) (then_all is_value_byte is_value_byte (b ∷ bs))

  assigned_within : (n : ℕ) (name bs : List ℕ) → length name < n → length bs < n → LeavesBelow n (after_assigned prefix name bs)
  assigned_within n name bs h k = grind (arith, either, more, space_within, value_shorter)

  attribute_within : (bs : List ℕ) → LeavesBelow (suc (length bs)) (after_attribute prefix bs)
  attribute_within bs =
      let spaced : List ℕ = after_space prefix bs in
      let assigned : List ℕ → Option (List ℕ) = λ name. after_assigned prefix name (after_space prefix name) in
      let e = space_within bs in
      either (LeavesBelow (suc (length bs))) (first_is is_space_byte bs) (and_then (after_attribute_name spaced) assigned) None
      (and_shorter (length spaced) (suc (length bs)) (after_attribute_name spaced) assigned (then_all is_attribute_start is_attribute_byte spaced)
      (λ name h. assigned_within (suc (length bs)) name (after_space prefix name) (omega arith) (let f = space_within name in omega arith)))
      tt

  attributes_within : (most : ℕ) (bs : List ℕ) → length (after_attributes prefix most bs) ≤ length bs
  attributes_within zero bs = omega arith
  attributes_within (suc most) bs = search (rules, attribute_within, attributes_within most)

open_end_shorter : (bs : List ℕ) → LeavesBelow (length bs) (after_open_end bs)
open_end_shorter bs = grind (arith, either, more, if-shorter)

closing_shorter : (bs : List ℕ) → LeavesBelow (length bs) (after_closing_tag bs)
closing_shorter bs = grind (arith, and_shorter, then_all, more, dropped, if-shorter)

module _ (prefix : List ℕ → ℕ) where
  open_shorter : (bs : List ℕ) → LeavesBelow (length bs) (after_open_tag prefix bs)
  open_shorter bs =
      let spaced : List ℕ → List ℕ = λ rest. after_space prefix (after_attributes prefix (length rest) rest) in
      and_shorter (length bs) (length bs) (after_tag_name bs) (λ rest. after_open_end (spaced rest)) (then_all is_letter is_name_byte bs)
      (λ rest h. more (length (spaced rest)) (length bs) (after_open_end (spaced rest))
      (let a = attributes_within prefix (length rest) rest in let b = space_within prefix (after_attributes prefix (length rest) rest) in omega arith)
      (open_end_shorter (spaced rest)))

  start_shorter : (bs : List ℕ) → LeavesBelow (length bs) (after_tag_start prefix bs)
  start_shorter bs = grind (arith, either, more, dropped, closing_shorter, open_shorter)

  pub tag-shorter : (bs : List ℕ) → LeavesBelow (length bs) (after_tag prefix bs)
  tag-shorter bs = grind (arith, and_shorter, if-shorter, more, start_shorter)

-- ## Inline HTML after its first two bytes

comment_within : (bs : List ℕ) → LeavesBelow (suc (length bs)) (after_comment bs)
comment_within bs = grind (arith, or_else, start_within, first_within)

-- the part that opened leaves fewer than `n` bytes, if it closed
abbrev OpenedBelow : ℕ → Option (Option (List ℕ)) → Type 0
OpenedBelow n o = LeavesBelow n (after_opened o)

opened_or : (n : ℕ) (x y : Option (Option (List ℕ))) → OpenedBelow n x → OpenedBelow n y → OpenedBelow n (option_or x y)
opened_or n None y h k = k
opened_or n (Some x) y h k = h

opened_map : (n m : ℕ) (f : List ℕ → Option (List ℕ)) (o : Option (List ℕ)) → LeavesBelow n o → ((rest : List ℕ) → length rest < n → LeavesBelow m (f rest)) → OpenedBelow m (option_map f o)
opened_map n m f None h k = tt
opened_map n m f (Some rest) h k = k rest h

pub opened-within : (bs : List ℕ) → LeavesBelow (suc (length bs)) (after_opened (opened_in bs))
opened-within bs =
    let n = suc (length bs) in
    opened_or n (option_map after_comment (after_start_of (codes "--") bs)) (option_or (declaration_in bs) (cdata_in bs))
    (opened_map n n after_comment (after_start_of (codes "--") bs) (start_within (codes "--") bs) (λ rest h. more (suc (length rest)) n (after_comment rest) (omega arith) (comment_within rest)))
    (opened_or n (declaration_in bs) (cdata_in bs)
    (opened_map (length bs) n (after_first_of (codes ">")) (after_if is_letter bs) (if-shorter is_letter bs) (λ rest h. more (suc (length rest)) n (after_first_of (codes ">") rest) (omega arith) (first_within (codes ">") rest)))
    (opened_map n n (after_first_of (codes "]]>")) (after_start_of (codes "[CDATA[") bs) (start_within (codes "[CDATA[") bs) (λ rest h. more (suc (length rest)) n (after_first_of (codes "]]>") rest) (omega arith) (first_within (codes "]]>") rest))))

-- ## Code spans and autolinks

put_below : (n b : ℕ) (o : Option Parsed) → ParsedBelow n o → ParsedBelow n (put b o)
put_below n b None h = tt
put_below n b (Some found) h = h

pub run-within : (size : ℕ) (goes_on : Bool) (bs : List ℕ) → ParsedBelow (suc (length bs)) (up_to_run size goes_on bs)
run-within size goes_on [] = tt
run-within size goes_on (b ∷ bs) = search (rules, either, put_below, more_found, run-within size (is_backtick b) bs)

pub closed-shorter : (closer size : ℕ) (bs : List ℕ) → ParsedBelow (suc (length bs)) (closed_by closer size bs)
closed-shorter closer size bs = grind (arith, either, dropped)

-- ## The part of a link after its closing bracket

up_within : (escaped : Bool) (closer refused : ℕ) (over_lines : Bool) (bs : List ℕ) → ParsedBelow (length bs) (up_to escaped closer refused over_lines bs)
up_within escaped closer refused over_lines [] = tt
up_within escaped closer refused over_lines (b ∷ bs) = search (rules, either, put_below, more_found, up_within (escapes_next escaped b) closer refused over_lines bs)

pub label-shorter : (bs : List ℕ) → ParsedBelow (length bs) (label_in bs)
label-shorter bs = grind (arith, up_within, either)

pub reference_label-shorter : (bs : List ℕ) → ParsedBelow (length bs) (reference_label_in bs)
reference_label-shorter bs = grind (arith, and_found, if-shorter, more_found, label-shorter)

pub collapsed-shorter : (bs : List ℕ) → LeavesBelow (suc (length bs)) (after_collapsed bs)
collapsed-shorter bs = start_within (codes "[]") bs

bare_within : (escaped : Bool) (depth : ℕ) (bs : List ℕ) → ParsedBelow (suc (length bs)) (bare_in escaped depth bs)
bare_within escaped depth [] = either (ParsedBelow 1) (depth == 0) (Some (record { bytes = []; following = [] })) None (omega arith) tt
bare_within escaped depth (b ∷ bs) = search (rules, either, put_below, more_found, bare_within (escapes_next escaped b) (depth_after escaped depth b) bs)

destination_within : (bs : List ℕ) → ParsedBelow (suc (length bs)) (link_destination_in bs)
destination_within bs = grind (arith, dropped, either, more_found, up_within, bare_within)

title_shorter : (bs : List ℕ) → ParsedBelow (length bs) (title_in bs)
title_shorter bs = grind (arith, either, more_found, up_within)

blanks_within : (bs : List ℕ) → length (after_leading_blanks bs) ≤ length bs
blanks_within bs = dropped (length (take_while is_blank_byte bs)) bs

separator_within : (bs : List ℕ) → length (after_separator bs) ≤ length bs
separator_within bs = grind (arith, ending-shorter, blanks_within)

abbrev pub TailBelow : ℕ → Option LinkTail → Type 0
TailBelow n None = Unit {0}
TailBelow n (Some tail) = length tail.following < n

closed_tail_shorter : (destination : List ℕ) (title : Option (List ℕ)) (bs : List ℕ) → TailBelow (length bs) (closed_tail destination title bs)
closed_tail_shorter destination title bs = grind (arith, if-shorter, separator_within)

tail_more : (n m : ℕ) (o : Option LinkTail) → n ≤ m → TailBelow n o → TailBelow m o
tail_more n m None h k = tt
tail_more n m (Some tail) h k = omega arith

titled_shorter : (n : ℕ) (destination title : Option Parsed) → ParsedBelow (suc n) destination → ParsedBelow n title → TailBelow n (with_title destination title)
titled_shorter n destination title h k = grind (arith, tail_more, closed_tail_shorter)

title_within : (n : ℕ) (destination : Option Parsed) → ParsedBelow (suc n) destination → ParsedBelow n (title_after destination)
title_within n destination h = grind (arith, separator_within, more_found, title_shorter)

pub link_tail-shorter : (bs : List ℕ) → TailBelow (length bs) (link_tail_in bs)
link_tail-shorter bs = go (after_if (λ b. b == 40) bs) (if-shorter (λ b. b == 40) bs)
  where
    go : (o : Option (List ℕ)) → LeavesBelow (length bs) o → TailBelow (length bs) (and_then o tail_inside)
    go o h = grind (arith, separator_within, more_found, destination_within, tail_more, titled_shorter, title_within)

-- ## Line breaks

abbrev pub BreakBelow : ℕ → Option LineBreak → Type 0
BreakBelow n None = Unit {0}
BreakBelow n (Some found) = length found.following < n

pub backslash_break-shorter : (bs : List ℕ) → BreakBelow (length bs) (backslash_break_in bs)
backslash_break-shorter bs = grind (arith, if-shorter, ending-shorter)

-- ## Runs of backticks, autolinks, formulas and inline HTML from their first byte on

pub prefix-some : (p : ℕ → Bool) (b : ℕ) (bs : List ℕ) → p b ≡ true → 0 < prefix_len p (b ∷ bs)
prefix-some p b bs e = grind arith

run_after : (size n : ℕ) (o : Option Parsed) → ParsedBelow n o → ParsedBelow n (option_map (after_run size) o)
run_after size n None h = tt
run_after size n (Some found) h = let e = dropped size found.following in omega arith

pub code-shorter : (bs : List ℕ) → ParsedBelow (length bs) (code_in bs)
code-shorter bs = grind (arith, eq-eqb, length-drop, prefix_len-le-length, more_found, run_after, run-within)

pub autolink-within : (emails : Bool) (bs : List ℕ) → ParsedBelow (suc (length bs)) (autolink_in emails bs)
autolink-within emails bs = either (ParsedBelow (suc (length bs))) (has_address emails bs) (closed_by 62 (prefix_len is_uri_byte bs) bs) None (closed-shorter 62 (prefix_len is_uri_byte bs) bs) tt

formula_shorter : (is_display : Bool) (context : ℕ) (escaped : Bool) (last : ℕ) (braces : Braces) (bs : List ℕ) → ParsedBelow (length bs) (formula_to is_display context escaped last braces bs)
formula_shorter is_display context escaped last braces [] = tt
formula_shorter is_display context escaped last braces (b ∷ bs) = search (rules, either, dropped, put_below, more_found, formula_shorter is_display context (escapes_next escaped b) b (after_byte escaped b braces) bs)

pub inline-shorter : (braces : Braces) (bs : List ℕ) → ParsedBelow (length bs) (inline_in braces bs)
inline-shorter braces bs = grind (arith, either, formula_shorter)

pub display-shorter : (braces : Braces) (bs : List ℕ) → ParsedBelow (length bs) (display_in braces bs)
display-shorter braces bs = formula_shorter true (context_of braces) false 36 braces bs

pub markup-shorter : (bs : List ℕ) → LeavesBelow (length bs) (after_markup bs)
markup-shorter [] = tt
markup-shorter (b ∷ bs) =
    let rest : List ℕ = drop 2 (b ∷ bs) in
    let e = dropped 1 bs in
    let n = suc (length bs) in
    let instruction : Option (List ℕ) = after_first_of (codes "?>") rest in
    either (LeavesBelow n) (starts (codes "<!") (b ∷ bs)) (after_opened (opened_in rest)) (if starts (codes "<?") (b ∷ bs) then instruction else None)
    (more (suc (length rest)) n (after_opened (opened_in rest)) (omega arith) (opened-within rest))
    (either (LeavesBelow n) (starts (codes "<?") (b ∷ bs)) instruction None (more (suc (length rest)) n instruction (omega arith) (first_within (codes "?>") rest)) tt)
