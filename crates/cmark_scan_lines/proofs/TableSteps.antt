-- The cells of a delimiter row, one after the other.
use Rattle.std.proofs.Common.{◌≡◌, ◌≢◌, ℕ, zero, suc, ◌+◌, ◌-◌, ◌<◌, true, false, ◌==◌, List, [], ◌∷◌, ◌++◌, length, take, drop, map, get_or, Option, Some, None, refl, sym, ap, ◌∙◌, arith, append-nil, append_assoc, ne_eqb, eq-eqb}
use Rattle.std.specs.Prelude.{if◌then◌else◌, option_map, codes}
use Rattle.std.proofs.lemmas.List.{drop-drop}
use Rattle.memchr.specs.Find.{IsFirstByte, is_byte}
use Rattle.cmark_grammar.specs.Lines.{onto}
use Rattle.cmark_grammar.specs.Leaves.{trimmed}
use Rattle.cmark_grammar.specs.HtmlBlocks.{holds}
use Rattle.cmark_grammar.specs.Alignment as grammar
use Rattle.cmark_grammar.specs.Tables.{alignment_of, put_first, alignments, cells, without_first_pipe, without_last_pipe, delimiter_row}
use Rattle.cmark_values.specs.declared.kind.Alignment.{Alignment}
use Rattle.cmark_values.specs.Shown.{shown_alignment}
use Rattle.cmark_scan_lines.proofs.FirstSteps.{none-before, first-within, first-is, none-at-all}

pub cells-alone : (bs : List ℕ) → ((k : ℕ) → k < length bs → (get_or bs k 0 == 124) ≡ false) → cells bs ≡ bs ∷ []
cells-alone [] each = refl
cells-alone (b ∷ bs) each = ap (λ t. if t then [] ∷ cells bs else onto b (cells bs)) (each 0 (omega arith)) ∙ ap (onto b) (cells-alone bs (λ k lt. each (suc k) (omega arith)))

pub cells-more : (bs : List ℕ) (n : ℕ) → n < length bs → ((k : ℕ) → k < n → (get_or bs k 0 == 124) ≡ false) → (get_or bs n 0 == 124) ≡ true → cells bs ≡ take n bs ∷ cells (drop (suc n) bs)
cells-more [] n lt before e = absurd (omega arith)
cells-more (b ∷ bs) zero lt before e = ap (λ t. if t then [] ∷ cells bs else onto b (cells bs)) e
cells-more (b ∷ bs) (suc n) lt before e =
    ap (λ t. if t then [] ∷ cells bs else onto b (cells bs)) (before 0 (omega arith)) ∙ ap (onto b) (cells-more bs n (omega arith) (λ k l. before (suc k) (omega arith)) e)

map-push : (old : List Alignment) (a : Alignment) → map shown_alignment (old ++ a ∷ []) ≡ map shown_alignment old ++ shown_alignment a ∷ []
map-push [] a = refl
map-push (x ∷ old) a = ap (λ l. shown_alignment x ∷ l) (map-push old a)

-- the columns so far before those that further cells give
abbrev pub so_far : List Alignment → Option (List grammar.Alignment) → Option (List grammar.Alignment)
so_far old more = option_map (λ l. map shown_alignment old ++ l) more

push-so_far : (old new : List Alignment) (a : Alignment) (more : Option (List grammar.Alignment)) → new ≡ old ++ a ∷ [] → so_far new more ≡ so_far old (put_first (Some (shown_alignment a)) more)
push-so_far old new a None is = refl
push-so_far old new a (Some l) is = ap Some (ap (λ xs. map shown_alignment xs ++ l) is ∙ ap (λ xs. xs ++ l) (map-push old a) ∙ append_assoc (map shown_alignment old) (shown_alignment a ∷ []) l)

module _ (row rest : List ℕ) (old : List Alignment) (so : so_far old (alignments (cells rest)) ≡ alignments (cells row)) where
  module _ (n : ℕ) (first : IsFirstByte (is_byte 124) rest (Some n)) where
    cut : cells rest ≡ take n rest ∷ cells (drop (suc n) rest)
    cut = cells-more rest n (first-within 124 rest n first) (none-before 124 rest n first) (first-is 124 rest n first)

    pub next-column : (new : List Alignment) (a : Alignment) (following' : List ℕ) → Some (shown_alignment a) ≡ alignment_of (trimmed (take n rest)) → new ≡ old ++ a ∷ [] → following' ≡ drop (suc n) rest → so_far new (alignments (cells following')) ≡ alignments (cells row)
    next-column new a following' cell is at =
        ap (λ l. so_far new (alignments (cells l))) at ∙ push-so_far old new a (alignments (cells (drop (suc n) rest))) is
        ∙ ap (λ c. so_far old (put_first c (alignments (cells (drop (suc n) rest))))) cell ∙ ap (λ l. so_far old (alignments l)) (sym cut) ∙ so

    pub no_next-column : None ≡ alignment_of (trimmed (take n rest)) → None ≡ alignments (cells row)
    no_next-column cell = ap (λ c. so_far old (put_first c (alignments (cells (drop (suc n) rest))))) cell ∙ ap (λ l. so_far old (alignments l)) (sym cut) ∙ so

  module _ (none : IsFirstByte (is_byte 124) rest None) where
    alone : cells rest ≡ rest ∷ []
    alone = cells-alone rest (none-at-all 124 rest none)

    pub last-column : (new : List Alignment) (a : Alignment) → Some (shown_alignment a) ≡ alignment_of (trimmed rest) → new ≡ old ++ a ∷ [] → Some (map shown_alignment new) ≡ alignments (cells row)
    last-column new a cell is =
        ap Some (sym (append-nil (map shown_alignment new))) ∙ push-so_far old new a (Some []) is ∙ ap (λ c. so_far old (put_first c (Some []))) cell ∙ ap (λ l. so_far old (alignments l)) (sym alone) ∙ so

    pub no_last-column : None ≡ alignment_of (trimmed rest) → None ≡ alignments (cells row)
    no_last-column cell = ap (λ c. so_far old (put_first c (Some []))) cell ∙ ap (λ l. so_far old (alignments l)) (sym alone) ∙ so

-- a pipe at the end
pub last-dropped : (bs : List ℕ) → 0 < length bs → get_or bs (length bs - 1) 0 ≡ 124 → take (length bs - 1) bs ≡ without_last_pipe bs
last-dropped [] some e = absurd (omega arith)
last-dropped (b ∷ []) some e = sym (ap (λ t. if t then [] else b ∷ []) (eq-eqb b 124 e))
last-dropped (b ∷ c ∷ cs) some e =
    ap (λ n. take n (b ∷ c ∷ cs)) (let s : suc (suc (length cs)) - 1 ≡ suc (suc (length cs) - 1) = omega arith in s)
    ∙ ap (λ l. b ∷ l) (last-dropped (c ∷ cs) (omega arith) (ap (λ n. get_or (b ∷ c ∷ cs) n 0) (let s : suc (suc (length cs) - 1) ≡ suc (suc (length cs)) - 1 = omega arith in s) ∙ e))

pub last-kept : (bs : List ℕ) → (0 < length bs → get_or bs (length bs - 1) 0 ≢ 124) → bs ≡ without_last_pipe bs
last-kept [] other = refl
last-kept (b ∷ []) other = sym (ap (λ t. if t then [] else b ∷ []) (ne_eqb b 124 (other (omega arith))))
last-kept (b ∷ c ∷ cs) other =
    ap (λ l. b ∷ l) (last-kept (c ∷ cs) (λ some e. other (omega arith) (ap (λ n. get_or (b ∷ c ∷ cs) n 0) (let s : suc (suc (length cs)) - 1 ≡ suc (suc (length cs) - 1) = omega arith in s) ∙ e)))

pub row-of : (line : List ℕ) → true ≡ holds (codes "|") line → alignments (cells (without_last_pipe (without_first_pipe (trimmed line)))) ≡ delimiter_row line
row-of line e = ap (λ t. if t then alignments (cells (without_last_pipe (without_first_pipe (trimmed line)))) else None) e

pub no_row : (line : List ℕ) → false ≡ holds (codes "|") line → None ≡ delimiter_row line
no_row line e = ap (λ t. if t then alignments (cells (without_last_pipe (without_first_pipe (trimmed line)))) else None) e

pub following-pipe : (at : ℕ) (rest following : List ℕ) → following ≡ drop at rest → drop 1 following ≡ drop (suc at) rest
following-pipe at rest following e = ap (drop 1) e ∙ drop-drop 1 at rest ∙ ap (λ n. drop n rest) (let s : at + 1 ≡ suc at = omega arith in s)
