-- Steps of the search for plain lines.
use Rattle.std.specs.Prelude.{◌-◌, ◌==◌, ◌&&◌, not, get_or, drop}
use Rattle.std.proofs.Common.{◌≡◌, ℕ, suc, ◌+◌, ◌<◌, ◌≤◌, Bool, true, false, List, [], ◌∷◌, ◌++◌, length, length-drop, refl, sym, ap, ◌∙◌, subst, arith, eqb-true, true≢false, drop-drop}
use Rattle.std.proofs.Math.Seq.{drop-cons}
use Rattle.std.proofs.lemmas.List.{length-take-le, take-append-drop}
use Rattle.cmark_grammar.specs.Answers.{Lookup}
use Rattle.cmark_grammar.specs.Columns.{is_blank_byte}
use Rattle.cmark_grammar.specs.Options.{Options}
use Rattle.cmark_grammar.specs.Tokens.{slice}
use Rattle.cmark_inline.specs.PlainStretches.{IsSetOf, StandUpTo}
use Rattle.cmark_inline_model.specs.PlainLines.{ArePlainLines, IsEndedLine, IsLastLine, StandWithin}
use Rattle.cmark_event_walk.specs.Plain.{HaveLines, StandFor, is_lone_line_feed}

-- the two readings of plain bytes are the same
pub stand-within : (options : Options) (lookup : Lookup) (is_cell : Bool) (text : List ℕ) (from to : ℕ) → StandUpTo options lookup is_cell text from to → StandWithin options lookup is_cell text from to
stand-within options lookup is_cell text from to h k le lt blank =
    let i = h k le lt blank in
    record { end = i.end; further = i.further; within = i.within; token = i.token }

-- from the offset `at` on, the bytes before `to` are these lines, each of which a line feed ends
abbrev pub AreEnded : (special bytes : List ℕ) → (at : ℕ) → (lines : List (List ℕ)) → (to : ℕ) → Type 0
AreEnded special bytes at [] to = at ≡ to
AreEnded special bytes at (line ∷ lines) to =
    IsEndedLine bytes at line × StandFor special bytes at (at + length line) × AreEnded special bytes (suc (at + length line)) lines to

-- one more line
pub ended-more : (special bytes : List ℕ) (at : ℕ) (lines : List (List ℕ)) (mid : ℕ) (line : List ℕ) (to : ℕ) → AreEnded special bytes at lines mid
    → IsEndedLine bytes mid line → StandFor special bytes mid (mid + length line) → to ≡ suc (mid + length line) → AreEnded special bytes at (lines ++ line ∷ []) to
ended-more special bytes at [] mid line to same h stand e =
    subst (λ n. IsEndedLine bytes n line × StandFor special bytes n (n + length line) × (suc (n + length line) ≡ to)) (sym same) (h, stand, sym e)
ended-more special bytes at (first ∷ lines) mid line to ended h stand e =
    (ended.0, ended.1, ended-more special bytes (suc (at + length first)) lines mid line to ended.2 h stand e)

-- the last line
pub ended-last : (special bytes : List ℕ) (at : ℕ) (lines : List (List ℕ)) (mid : ℕ) (last : List ℕ) → AreEnded special bytes at lines mid → IsLastLine bytes mid last → StandFor special bytes mid (length bytes)
    → (options : Options) (lookup : Lookup) (is_cell : Bool) → IsSetOf options special → ArePlainLines options lookup is_cell bytes at lines last
ended-last special bytes at [] mid last same h stand options lookup is_cell set =
    subst (λ n. IsLastLine bytes n last × StandWithin options lookup is_cell bytes n (length bytes)) (sym same) (h, stand-within options lookup is_cell bytes mid (length bytes) (stand options lookup is_cell set))
ended-last special bytes at (line ∷ lines) mid last ended h stand options lookup is_cell set =
    (ended.0, stand-within options lookup is_cell bytes at (at + length line) (ended.1 options lookup is_cell set), ended-last special bytes (suc (at + length line)) lines mid last ended.2 h stand options lookup is_cell set)

and-both : (x y : Bool) → (x && y) ≡ true → (x ≡ true) × (y ≡ true)
and-both true y e = (refl, e)
and-both false y e = absurd (true≢false (sym e))

not-so : (x : Bool) → not x ≡ true → x ≡ false
not-so false e = refl
not-so true e = absurd (true≢false (sym e))

line-size : (bytes : List ℕ) (from at : ℕ) → from ≤ at → at ≤ length bytes → length (slice bytes from at) ≡ at - from
line-size bytes from at le within = length-take-le (at - from) (drop from bytes) (let d = length-drop from bytes in omega (arith, d, le, within))

-- the bytes up to a line feed are a line
module _ (bytes : List ℕ) (from at : ℕ) (some : from < at) (within : at < length bytes) (feed : is_lone_line_feed bytes at ≡ true) where
  line-end : from + length (slice bytes from at) ≡ at
  line-end = let s = line-size bytes from at (omega (arith, some)) (omega (arith, within)) in omega (arith, s, some)

  pub line-next : suc (from + length (slice bytes from at)) ≡ suc at
  line-next = ap suc line-end

  pub ended-line : IsEndedLine bytes from (slice bytes from at)
  ended-line =
      let size = line-end in
      let parts = and-both (get_or bytes at 0 == 10) (not (is_blank_byte (get_or bytes (at - 1) 0)) && not (is_blank_byte (get_or bytes (at + 1) 0))) feed in
      let blanks = and-both (not (is_blank_byte (get_or bytes (at - 1) 0))) (not (is_blank_byte (get_or bytes (at + 1) 0))) parts.1 in
      let rest : drop (at - from) (drop from bytes) ≡ 10 ∷ drop (suc at) bytes =
      drop-drop (at - from) from bytes ∙ ap (λ n. drop n bytes) (let q : from + (at - from) ≡ at = omega (arith, some) in q) ∙ drop-cons bytes at 0 within ∙ ap (λ b. b ∷ drop (suc at) bytes) (eqb-true (get_or bytes at 0) 10 parts.0) in
      record {
        some = omega (arith, size, some);
        part = sym (take-append-drop (at - from) (drop from bytes)) ∙ ap (λ l. slice bytes from at ++ l) rest ∙ ap (λ n. slice bytes from at ++ 10 ∷ drop n bytes) (sym line-next);
        full = ap (λ n. is_blank_byte (get_or bytes n 0)) (let q : from + (length (slice bytes from at) - 1) ≡ at - 1 = omega (arith, size, some) in q) ∙ not-so (is_blank_byte (get_or bytes (at - 1) 0)) blanks.0;
        next = ap (λ n. is_blank_byte (get_or bytes n 0)) (let q : suc (from + length (slice bytes from at)) ≡ at + 1 = omega (arith, size) in q) ∙ not-so (is_blank_byte (get_or bytes (at + 1) 0)) blanks.1;
      }

-- the lines that were found so far: they end before `from`. If the text has to be one line, none was found
pub record HasEnded (special bytes : List ℕ) (joins : Bool) (from : ℕ) : Type 0 where
  pub within : from ≤ length bytes
  pub alone : joins ≡ false → from ≡ 0
  pub lines : List (List ℕ)
  pub ended : AreEnded special bytes 0 lines from

-- one more line was found
pub ended-on : (special bytes : List ℕ) (joins : Bool) (from at : ℕ) → HasEnded special bytes joins from → from < at → at < length bytes → is_lone_line_feed bytes at ≡ true → joins ≡ true → StandFor special bytes from at → HasEnded special bytes joins (at + 1)
ended-on special bytes joins from at h some within feed together stand =
    let line = slice bytes from at in
    let next = line-next bytes from at some within feed in
    let end : from + length line ≡ at = (let s = line-size bytes from at (omega (arith, some)) (omega (arith, within)) in omega (arith, s, some)) in
    record {
      within = omega (arith, within);
      alone = λ single. absurd (true≢false (sym together ∙ single));
      lines = h.lines ++ line ∷ [];
      ended = ended-more special bytes 0 h.lines from line (at + 1) h.ended (ended-line bytes from at some within feed) (subst (StandFor special bytes from) (sym end) stand) (let q : at + 1 ≡ suc (from + length line) = omega (arith, end) in q);
    }

-- the last line was found
pub ended-whole : (special bytes : List ℕ) (joins : Bool) (from : ℕ) → HasEnded special bytes joins from → from < length bytes → StandFor special bytes from (length bytes) → HaveLines special bytes
ended-whole special bytes joins from h some stand = record {
  lines = h.lines;
  last = drop from bytes;
  are = ended-last special bytes 0 h.lines from (drop from bytes) h.ended (record { some = (let d = length-drop from bytes in omega (arith, d, some)); part = refl }) stand;
}
