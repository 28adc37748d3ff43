-- Runs of backticks.
use Rattle.std.proofs.Common.{◌≡◌, ℕ, zero, suc, ◌+◌, ◌-◌, ◌<◌, ◌≤◌, Bool, true, false, ◌==◌, ◌&&◌, not, if◌then◌else◌, List, [], ◌∷◌, length, take, drop, get_or, Option, None, Some, refl, sym, ap, subst, ◌∙◌, arith, true≢false, eqb-true, eq-eqb, length-drop, length-append, drop-drop}
use Rattle.std.specs.Str.{IsCharBoundary, IsUtf8}
use Rattle.std.proofs.Math.Seq.{drop-append_seam}
use Rattle.std.proofs.lemmas.Bool.{ne_eqb, false_from_ne_true}
use Rattle.std.proofs.lemmas.List.{get_or-drop}
use Rattle.std.proofs.lemmas.List.Sums.{prefix_len-le-length, prefix_len_passes}
use Rattle.std.proofs.lemmas.Str.{IsCharBoundary-after_ascii, IsCharBoundary-before_ascii}
use Rattle.memchr.specs.Find.{IsFirstByte, is_byte}
use Rattle.cmark_grammar.specs.CodeSpans.{is_backtick, backticks, up_to_run}
use Rattle.cmark_grammar.specs.Letters.{first_is, after_while}
use Rattle.cmark_grammar.specs.LinkDefinitions.{Parsed, put}
use Rattle.cmark_scan_bytes.proofs.Links.{first_there}
use Rattle.cmark_scan_bytes.proofs.Lists.{after_while-on, after_while-off}
use Rattle.cmark_scan_bytes.proofs.PartSteps.{Reads, reads_more, reads_fail, reads_open}
use Rattle.cmark_span_scan.specs.Shown.{IsCodeAt}

module _ (size : ℕ) where
  -- a byte that is not a backtick
  plain_byte : (goes_on : Bool) (b : ℕ) (bs : List ℕ) → is_backtick b ≡ false → up_to_run size goes_on (b ∷ bs) ≡ put b (up_to_run size false bs)
  plain_byte goes_on b bs e =
      ap (λ t. if t && (not goes_on && (backticks (b ∷ bs) == size)) then Some (let found : Parsed = record { bytes = []; following = b ∷ bs } in found) else put b (up_to_run size t bs)) e

  -- a run that continues, and a run of another length that begins
  run_byte : (b : ℕ) (bs : List ℕ) → is_backtick b ≡ true → up_to_run size true (b ∷ bs) ≡ put b (up_to_run size true bs)
  run_byte b bs e =
      ap (λ t. if t && false then Some (let found : Parsed = record { bytes = []; following = b ∷ bs } in found) else put b (up_to_run size t bs)) e

  other_run : (b : ℕ) (bs : List ℕ) → is_backtick b ≡ true → (backticks (b ∷ bs) == size) ≡ false → up_to_run size false (b ∷ bs) ≡ put b (up_to_run size true bs)
  other_run b bs e o =
      ap (λ t. if t && (backticks (b ∷ bs) == size) then Some (let found : Parsed = record { bytes = []; following = b ∷ bs } in found) else put b (up_to_run size t bs)) e
      ∙ ap (λ t. if t then Some (let found : Parsed = record { bytes = []; following = b ∷ bs } in found) else put b (up_to_run size true bs)) o

  module _ (all : Option Parsed) (bytes : List ℕ) where
    Goes : Bool → List ℕ → Type 0
    Goes goes_on rest = Reads all (up_to_run size goes_on rest) bytes rest

    -- to the next run
    pub to_run : (n : ℕ) (rest : List ℕ) → n ≤ length rest → ((k : ℕ) → k < n → is_backtick (get_or rest k 0) ≡ false) → Reads all (up_to_run size false rest) bytes rest → Reads all (up_to_run size false (drop n rest)) bytes (drop n rest)
    to_run zero rest le none r = r
    to_run (suc n) [] le none r = absurd (omega arith)
    to_run (suc n) (b ∷ bs) le none r =
        to_run n bs (omega arith) (λ k lt. none (suc k) (omega arith)) (reads_more all _ (up_to_run size false bs) bytes (b ∷ bs) bs b r refl (plain_byte false b bs (none 0 (omega arith))))

    -- after a run that continues
    after_ticks : (rest : List ℕ) → Reads all (up_to_run size true rest) bytes rest → Reads all (up_to_run size false (after_while is_backtick rest)) bytes (after_while is_backtick rest)
    after_ticks [] r = r
    after_ticks (b ∷ bs) r = by_case (is_backtick b) refl (after_ticks bs)
      where
        by_case : (t : Bool) → is_backtick b ≡ t → (Reads all (up_to_run size true bs) bytes bs → Reads all (up_to_run size false (after_while is_backtick bs)) bytes (after_while is_backtick bs))
            → Reads all (up_to_run size false (after_while is_backtick (b ∷ bs))) bytes (after_while is_backtick (b ∷ bs))
        by_case true e further =
            subst (λ (l : List ℕ). Reads all (up_to_run size false l) bytes l) (sym (after_while-on is_backtick b bs e)) (further (reads_more all _ (up_to_run size true bs) bytes (b ∷ bs) bs b r refl (run_byte b bs e)))
        by_case false e further =
            subst (λ (l : List ℕ). Reads all (up_to_run size false l) bytes l) (sym (after_while-off is_backtick b bs e))
            (subst (λ (o : Option Parsed). Reads all o bytes (b ∷ bs)) (plain_byte true b bs e ∙ sym (plain_byte false b bs e)) r)

    -- after a run of another length
    pub past_run : (rest : List ℕ) → (backticks rest == size) ≡ false → Reads all (up_to_run size false rest) bytes rest → Reads all (up_to_run size false (after_while is_backtick rest)) bytes (after_while is_backtick rest)
    past_run [] o r = r
    past_run (b ∷ bs) o r = by_case (is_backtick b) refl
      where
        by_case : (t : Bool) → is_backtick b ≡ t → Reads all (up_to_run size false (after_while is_backtick (b ∷ bs))) bytes (after_while is_backtick (b ∷ bs))
        by_case true e =
            subst (λ (l : List ℕ). Reads all (up_to_run size false l) bytes l) (sym (after_while-on is_backtick b bs e))
            (after_ticks bs (reads_more all _ (up_to_run size true bs) bytes (b ∷ bs) bs b r refl (other_run b bs e o)))
        by_case false e = subst (λ (l : List ℕ). Reads all (up_to_run size false l) bytes l) (sym (after_while-off is_backtick b bs e)) r

  -- the run that closes
  run_here : (run : List ℕ) → first_is is_backtick run ≡ true → (backticks run == size) ≡ true → up_to_run size false run ≡ Some (record { bytes = []; following = run })
  run_here [] first is = absurd (true≢false (sym first))
  run_here (b ∷ bs) first is =
      ap (λ t. if t && (backticks (b ∷ bs) == size) then Some (let found : Parsed = record { bytes = []; following = b ∷ bs } in found) else put b (up_to_run size (is_backtick b) bs)) first
      ∙ ap (λ t. if t then Some (let found : Parsed = record { bytes = []; following = b ∷ bs } in found) else put b (up_to_run size (is_backtick b) bs)) is

  no_run : (rest : List ℕ) → ((k : ℕ) → k < length rest → is_backtick (get_or rest k 0) ≡ false) → up_to_run size false rest ≡ None
  no_run [] none = refl
  no_run (b ∷ bs) none = plain_byte false b bs (none 0 (omega arith)) ∙ ap (put b) (no_run bs (λ k lt. none (suc k) (omega arith)))

  -- the rest, from the length of the bytes before it
  rest_back : (all here : Option Parsed) (bytes rest : List ℕ) → Reads all here bytes rest → drop (length bytes - length rest) bytes ≡ rest
  rest_back all here bytes rest r =
      let n = ap length r.cut in let l = length-append r.front rest in
      ap (λ k. drop k bytes) (let e : length bytes - length rest ≡ length r.front = omega arith in e) ∙ ap (drop (length r.front)) r.cut ∙ drop-append_seam r.front rest

  module _ (all : Option Parsed) (bytes rest run : List ℕ) (at : ℕ) (first : IsFirstByte (is_byte 96) rest (Some at)) (cut : run ≡ drop at rest) (r : Reads all (up_to_run size false rest) bytes rest) where
    at_run : Reads all (up_to_run size false run) bytes run
    at_run =
        subst (λ (l : List ℕ). Reads all (up_to_run size false l) bytes l) (sym cut)
        (to_run all bytes at rest (let h = first.0.high in omega arith) (λ k lt. false_from_ne_true _ (first.0.before k (omega arith) lt)) r)

    pub run_found : (count : ℕ) → count ≡ backticks run → count ≡ size
        → Some (let found : Parsed = record { bytes = take (length bytes - length run) bytes; following = drop (length bytes - length run) bytes } in found) ≡ all
    run_found count is e =
        reads_open all (up_to_run size false run) bytes run at_run
        (run_here run (ap (first_is is_backtick) cut ∙ first_there is_backtick at rest first.0.high first.1) (eq-eqb (backticks run) size (sym is ∙ e)))

    pub run_back : drop (length bytes - length run) bytes ≡ run
    run_back = rest_back all _ bytes run at_run

    pub run_size : (count : ℕ) → count ≡ backticks run → count ≡ size → backticks (drop (length bytes - length run) bytes) ≡ size
    run_size count is e = ap backticks (rest_back all _ bytes run at_run) ∙ sym is ∙ e

    pub run_passed : (count : ℕ) (next : List ℕ) → count ≡ backticks run → (count ≡ size → ⊥) → next ≡ drop count run → Reads all (up_to_run size false next) bytes next
    run_passed count next is other following =
        subst (λ (l : List ℕ). Reads all (up_to_run size false l) bytes l) (sym (following ∙ ap (λ n. drop n run) is))
        (past_run all bytes run (ne_eqb (backticks run) size (λ e. other (is ∙ e))) at_run)

  pub run_missing : (all : Option Parsed) (bytes rest : List ℕ) → IsFirstByte (is_byte 96) rest None → Reads all (up_to_run size false rest) bytes rest → None ≡ all
  run_missing all bytes rest first r = reads_fail all (up_to_run size false rest) bytes rest r (no_run rest (λ k lt. false_from_ne_true _ (first k (omega arith) lt)))

-- a character boundary at the end of a run, and at the start of one
pub run_ends : (text run : List ℕ) (at size : ℕ) → IsUtf8 text → run ≡ drop at text → size ≡ backticks run → 0 < size → IsCharBoundary text (at + size)
run_ends text run at size utf8 cut is some =
    let le = prefix_len-le-length is_backtick run in
    let n = ap length cut in
    let l = length-drop at text in
    let tick : is_backtick (get_or run (size - 1) 0) ≡ true = prefix_len_passes is_backtick run (size - 1) 0 (omega arith) in
    let here : get_or text (at + (size - 1)) 0 ≡ 96 = sym (get_or-drop at text (size - 1) 0) ∙ ap (λ (c : List ℕ). get_or c (size - 1) 0) (sym cut) ∙ eqb-true _ 96 tick in
    subst (IsCharBoundary text) (let e : at + (size - 1) + 1 ≡ at + size = omega arith in e)
    (IsCharBoundary-after_ascii text (at + (size - 1)) utf8 (omega arith) (omega (arith, here)))

pub run_starts : (text run : List ℕ) (at size : ℕ) → run ≡ drop at text → size ≡ backticks run → 0 < size → IsCharBoundary text at
run_starts text run at size cut is some =
    let le = prefix_len-le-length is_backtick run in
    let n = ap length cut in
    let l = length-drop at text in
    let tick : is_backtick (get_or run 0 0) ≡ true = prefix_len_passes is_backtick run 0 0 (omega arith) in
    let here : get_or text (at + 0) 0 ≡ 96 = sym (get_or-drop at text 0 0) ∙ ap (λ (c : List ℕ). get_or c 0 0) (sym cut) ∙ eqb-true _ 96 tick in
    subst (IsCharBoundary text) (let e : at + 0 ≡ at = omega arith in e) (IsCharBoundary-before_ascii text (at + 0) (omega arith) (omega (arith, here)))

-- the offsets of a code span
pub code_places : (text run inside : List ℕ) (at size content : ℕ) → IsUtf8 text → run ≡ drop at text → size ≡ backticks run → (size ≡ 0 → ⊥) → inside ≡ drop size run → content ≤ length inside → backticks (drop content inside) ≡ size
    → IsCodeAt text at (record { content_start = at + size; content_end = at + size + content; end = at + size + content + size })
code_places text run inside at size content utf8 cut is some following le closes = record {
  opens = ap (λ n. at + n) (is ∙ ap backticks cut);
  ordered = omega arith;
  closes = ap (λ n. at + size + content + n) (is ∙ ap backticks cut);
  starts = run_ends text run at size utf8 cut is (omega (arith, some));
  stops = run_starts text (drop content inside) (at + size + content) size closer (sym closes) (omega (arith, some));
  ends = run_ends text (drop content inside) (at + size + content) size utf8 closer (sym closes) (omega (arith, some));
}
  where
    closer : drop content inside ≡ drop (at + size + content) text
    closer = ap (drop content) (following ∙ ap (drop size) cut ∙ drop-drop size at text) ∙ drop-drop content (at + size) text
