-- A label read from byte to byte.
use Rattle.std.proofs.Common.{◌≡◌, ℕ, zero, suc, ◌+◌, ◌-◌, ◌<◌, ◌≤◌, Bool, true, false, ◌&&◌, ◌||◌, not, nat_lt, nat_le, if◌then◌else◌, List, [], ◌∷◌, ◌++◌, length, take, drop, get_or, Option, None, Some, refl, sym, ap, subst, ◌∙◌, arith, append-nil, append_assoc, drop-cons, drop-drop, length-drop}
use Rattle.std.specs.Char.{is_ascii_whitespace}
use denote.Ref.{Bor}
use Rattle.std.specs.Prelude.{Result, Ok, count_by, fold, option_map, slice_range}
use Rattle.std.proofs.lemmas.Bool.{lt-leb, le-leb}
use Rattle.std.proofs.lemmas.List.{take_more, get_or-drop}
use Rattle.cmark_grammar.specs.Letters.{and_then}
use Rattle.cmark_grammar.specs.LinkDefinitions.{Parsed, put, up_to_byte, escapes_next, characters, label_if}
use Rattle.cmark_grammar.specs.LabelsOverLines.{as_in_cell, label_prefix, up_to_bracket, label_over_lines}
use Rattle.cmark_values.specs.declared.text.CowStr.{CowStr}
use Rattle.cmark_values.specs.declared.text.CowStr.TheVariants.{Borrowed}
use Rattle.cmark_scan_bytes.specs.Shown.{Part, cut_after}
use Rattle.cmark_values.specs.Lending.{IsBorrowed}
use Rattle.cmark_scan_bytes.specs.Steps.{puts}
use Rattle.cmark_scan_bytes.proofs.PartSteps.{puts-more, puts-none, puts-done}

-- some byte is no white space
abbrev pub has_words : List ℕ → Bool
has_words bs = nat_lt 0 (count_by (λ b. not (is_ascii_whitespace b)) bs)

last_step : (f : ℕ → ℕ → ℕ) (a : ℕ) (bs : List ℕ) (b : ℕ) → fold f a (bs ++ b ∷ []) ≡ f (fold f a bs) b
last_step f a [] b = refl
last_step f a (c ∷ bs) b = last_step f (f a c) bs b

pub characters_more : (bs : List ℕ) (b : ℕ) → characters (bs ++ b ∷ []) ≡ characters bs + (if nat_lt b 128 || nat_le 192 b then 1 else 0)
characters_more bs b = last_step (λ n c. n + (if nat_lt c 128 || nat_le 192 c then 1 else 0)) 0 bs b

one_more : (n : ℕ) (t : Bool) → nat_lt 0 (n + (if t then 1 else 0)) ≡ (nat_lt 0 n || t)
one_more n true = le-leb 1 (n + 1) (omega arith) ∙ sym (or_true (nat_lt 0 n))
  where
    or_true : (t : Bool) → (t || true) ≡ true
    or_true true = refl
    or_true false = refl
one_more n false = ap (nat_lt 0) (let e : n + 0 ≡ n = omega arith in e) ∙ sym (or_false (nat_lt 0 n))
  where
    or_false : (t : Bool) → (t || false) ≡ t
    or_false true = refl
    or_false false = refl

pub words_more : (bs : List ℕ) (b : ℕ) → has_words (bs ++ b ∷ []) ≡ (has_words bs || not (is_ascii_whitespace b))
words_more bs b =
    ap (nat_lt 0) (last_step (λ n c. n + (if not (is_ascii_whitespace c) then 1 else 0)) 0 bs b)
    ∙ one_more (count_by (λ c. not (is_ascii_whitespace c)) bs) (not (is_ascii_whitespace b))

pub label_fails : (all here : Option Parsed) (text : List ℕ) → all ≡ puts text here → here ≡ None → None ≡ label_if all
label_fails all here text reads e = sym (ap label_if (reads ∙ ap (puts text) e ∙ puts-none text))

module _ (prefix : List ℕ → Option ℕ) where
  skipped : (e : Bool) (k : ℕ) (bs : List ℕ) → up_to_bracket prefix e k bs ≡ up_to_bracket prefix e 0 (drop k bs)
  skipped e zero bs = refl
  skipped e (suc k) [] = refl
  skipped e (suc k) (b ∷ bs) = skipped e k bs

  following : (e : Bool) (bs next : List ℕ) (r : Option ℕ) → Some next ≡ option_map (λ n. drop n bs) r → and_then r (λ n. up_to_bracket prefix e n bs) ≡ up_to_bracket prefix e 0 next
  following e bs next None is = cc
  following e bs next (Some n) is = let same : next ≡ drop n bs = cc in skipped e n bs ∙ ap (up_to_bracket prefix e 0) (sym same)

  pub label_more : (all : Option Parsed) (text rest others next : List ℕ) (e : Bool) (b : ℕ) → all ≡ puts text (up_to_bracket prefix e 0 rest) → rest ≡ b ∷ others
      → ((bs : List ℕ) (found : Option Parsed) → up_to_byte e 93 91 true b bs found ≡ put b found) → Some next ≡ option_map (λ n. drop n others) (label_prefix prefix b others)
      → all ≡ puts (text ++ b ∷ []) (up_to_bracket prefix (escapes_next e b) 0 next)
  label_more all text rest others next e b reads is step line =
      reads ∙ ap (λ l. puts text (up_to_bracket prefix e 0 l)) is
      ∙ ap (puts text) (step others _ ∙ ap (put b) (following (escapes_next e b) others next (label_prefix prefix b others) line))
      ∙ puts-more text b _

  no_line : (e : Bool) (bs : List ℕ) (r : Option ℕ) → None ≡ option_map (λ n. drop n bs) r → and_then r (λ n. up_to_bracket prefix e n bs) ≡ None
  no_line e bs None is = refl
  no_line e bs (Some n) is = cc

  pub label_cut : (all : Option Parsed) (text rest others : List ℕ) (e : Bool) (b : ℕ) → all ≡ puts text (up_to_bracket prefix e 0 rest) → rest ≡ b ∷ others
      → ((bs : List ℕ) (found : Option Parsed) → up_to_byte e 93 91 true b bs found ≡ put b found) → None ≡ option_map (λ n. drop n others) (label_prefix prefix b others)
      → None ≡ label_if all
  label_cut all text rest others e b reads is step line =
      label_fails all _ text reads (ap (up_to_bracket prefix e 0) is ∙ step others _ ∙ ap (put b) (no_line (escapes_next e b) others (label_prefix prefix b others) line))

pub label_ends : (all here : Option Parsed) (text others : List ℕ) (n : ℕ) (words t : Bool) → all ≡ puts text here → here ≡ Some (record { bytes = []; following = others }) → n ≡ characters text → words ≡ has_words text
    → t ≡ (nat_le n 999 && words) → label_if all ≡ (if t then Some (record { bytes = text; following = others }) else None)
label_ends all here text others n words t reads e count some is =
    ap label_if (reads ∙ ap (puts text) e ∙ puts-done text others)
    ∙ ap (λ (p : Bool). if p then Some (let found : Parsed = record { bytes = text; following = others } in found) else None) (sym (is ∙ ap (λ m. nat_le m 999 && words) count ∙ ap (λ w. nat_le (characters text) 999 && w) some))

-- more characters than a label has
grows : (p : ℕ → Bool) (a : ℕ) (bs : List ℕ) → a ≤ fold (λ n c. n + (if p c then 1 else 0)) a bs
grows p a [] = omega arith
grows p a (b ∷ bs) = let h = grows p (a + (if p b then 1 else 0)) bs in omega arith

longer_from : (p : ℕ → Bool) (a : ℕ) (text bs : List ℕ) → fold (λ n c. n + (if p c then 1 else 0)) a text ≤ fold (λ n c. n + (if p c then 1 else 0)) a (text ++ bs)
longer_from p a [] bs = grows p a bs
longer_from p a (b ∷ text) bs = longer_from p (a + (if p b then 1 else 0)) text bs

longer : (text bs : List ℕ) → characters text ≤ characters (text ++ bs)
longer text bs = longer_from (λ c. nat_lt c 128 || nat_le 192 c) 0 text bs

puts-some : (text : List ℕ) (found : Parsed) → puts text (Some found) ≡ Some (record { bytes = text ++ found.bytes; following = found.following })
puts-some [] found = refl
puts-some (b ∷ text) found = ap (put b) (puts-some text found)

pub too_long : (all here : Option Parsed) (text : List ℕ) (n : ℕ) → all ≡ puts text here → n ≡ characters text → 999 < n → None ≡ label_if all
too_long all None text n reads count lt = sym (ap label_if (reads ∙ puts-none text))
too_long all (Some found) text n reads count lt =
    sym (ap label_if (reads ∙ puts-some text found)
    ∙ ap (λ t. if t && has_words (text ++ found.bytes) then Some (let f : Parsed = record { bytes = text ++ found.bytes; following = found.following } in f) else None)
    (lt-leb (characters (text ++ found.bytes)) 999 (let m = longer text found.bytes in omega arith)))

-- the text read up to a place: the stretches that were copied, and the bytes after a mark
abbrev pub so_far : (copied text : List ℕ) (mark at : ℕ) → List ℕ
so_far copied text mark at = copied ++ slice_range text mark at

pub so_far-more : (copied text : List ℕ) (mark at : ℕ) → mark ≤ at → at < length text → so_far copied text mark (at + 1) ≡ so_far copied text mark at ++ get_or text at 0 ∷ []
so_far-more copied text mark at le lt =
    let inside : at - mark < length (drop mark text) = let l = length-drop mark text in omega arith in
    ap (λ n. copied ++ take n (drop mark text)) (let e : at + 1 - mark ≡ at - mark + 1 = omega arith in e)
    ∙ ap (λ l. copied ++ l) (take_more (drop mark text) (at - mark) 0 inside)
    ∙ ap (λ b. copied ++ (take (at - mark) (drop mark text) ++ b ∷ [])) (get_or-drop mark text (at - mark) 0 ∙ ap (λ n. get_or text n 0) (let e : mark + (at - mark) ≡ at = omega arith in e))
    ∙ sym (append_assoc copied (slice_range text mark at) (get_or text at 0 ∷ []))

-- if all that was read was copied
pub so_far-copied : (copied read text : List ℕ) (at : ℕ) → copied ≡ read → so_far copied text at at ≡ read
so_far-copied copied read text at is = ap (λ n. copied ++ take n (drop at text)) (let e : at - at ≡ 0 = omega arith in e) ∙ append-nil copied ∙ is

-- the byte at a place
pub byte-cut : (bytes text : List ℕ) (at : ℕ) → bytes ≡ text → at < length text → drop at text ≡ get_or bytes at 0 ∷ drop (at + 1) text
byte-cut bytes text at same lt = drop-cons text at 0 lt ∙ ap (λ (l : List ℕ). get_or l at 0 ∷ drop (suc at) text) (sym same) ∙ ap (λ n. get_or bytes at 0 ∷ drop n text) (let e : suc at ≡ at + 1 = omega arith in e)

-- a label that is not in a table
in_no_cell : (o : Option Parsed) → option_map (as_in_cell false) o ≡ o
in_no_cell None = refl
in_no_cell (Some found) = refl

module _ (prefix : List ℕ → Option ℕ) (text : List ℕ) where
  pub no_rest : None ≡ label_if (up_to_bracket prefix false 0 text) → None ≡ option_map (cut_after text) (label_over_lines prefix false text)
  no_rest e = ap (λ (o : Option Parsed). option_map (cut_after text) (option_map (as_in_cell false) o)) e

  pub rest_found : (bytes : List ℕ) (at : ℕ) → at < length text → label_if (up_to_bracket prefix false 0 text) ≡ Some (record { bytes = bytes; following = drop (at + 1) text })
      → Some (let part : Part = record { end = at + 1; bytes = bytes } in part) ≡ option_map (cut_after text) (label_over_lines prefix false text)
  rest_found bytes at lt e =
      ap (λ n. let part : Part = record { end = n; bytes = bytes } in Some part) (let l = length-drop (at + 1) text in let s : at + 1 ≡ length text - length (drop (at + 1) text) = omega arith in s)
      ∙ ap (option_map (cut_after text)) (sym e ∙ sym (in_no_cell _))

-- one further byte of a label, and the prefixes after it
pub label_onward : (prefix : List ℕ → Option ℕ) (all : Option Parsed) (text : List ℕ) (at size b : ℕ) (e e' : Bool) (read read' : List ℕ) → all ≡ puts read (up_to_bracket prefix e 0 (drop at text)) → drop at text ≡ b ∷ drop (at + 1) text
    → ((bs : List ℕ) (found : Option Parsed) → up_to_byte e 93 91 true b bs found ≡ put b found) → Some size ≡ label_prefix prefix b (drop (at + 1) text) → read' ≡ read ++ b ∷ [] → e' ≡ escapes_next e b
    → all ≡ puts read' (up_to_bracket prefix e' 0 (drop (at + 1 + size) text))
label_onward prefix all text at size b e e' read read' reads cut step line is escapes =
    label_more prefix all read (drop at text) (drop (at + 1) text) (drop (at + 1 + size) text) e b reads cut step
    (ap Some (sym (drop-drop size (at + 1) text)) ∙ ap (option_map (λ n. drop n (drop (at + 1) text))) line)
    ∙ ap (λ l. puts l (up_to_bracket prefix (escapes_next e b) 0 (drop (at + 1 + size) text))) (sym is)
    ∙ ap (λ t. puts read' (up_to_bracket prefix t 0 (drop (at + 1 + size) text))) (sym escapes)

-- a text that is borrowed
pub ok_borrowed : {E : Type 0} (text : CowStr) (last : Bor (List ℕ)) → ◌≡◌ {A = Result CowStr E} (Ok text) (Ok (Borrowed last)) → IsBorrowed text
ok_borrowed text last is = let e : text ≡ Borrowed last = cc in subst IsBorrowed (sym e) tt

pub ok_same : {E : Type 0} (text one : CowStr) → ◌≡◌ {A = Result CowStr E} (Ok text) (Ok one) → text ≡ one
ok_same text one is = cc
