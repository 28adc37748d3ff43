-- The lines of a text tell its bytes, also without their prefixes.
use Rattle.std.proofs.Common.{◌≡◌, ℕ, zero, suc, ◌+◌, ◌-◌, ◌≤◌, Bool, true, false, ◌==◌, List, [], ◌∷◌, ◌++◌, length, length-drop, drop, refl, sym, ap, ◌∙◌, subst, arith, append_assoc, drop-drop}
use Rattle.std.specs.Prelude.{if◌then◌else◌}
use Rattle.cmark_grammar.specs.Characters.{tab}
use Rattle.cmark_grammar.specs.Columns.{Column, expand, tab_columns, to_tab_stop}
use Rattle.cmark_grammar.specs.Containers.{Container, enter, width_of}
use Rattle.cmark_grammar.specs.Lines.{lines, content}
use Rattle.cmark_grammar.specs.Rows.{Row, row_at, without}
use Rattle.cmark_block_model.proofs.BoundaryLaws.{joined, lines-ended, content-cut}
use Rattle.cmark_leaf_nodes.specs.TextColumns.{StandInText}
use Rattle.cmark_leaf_nodes.proofs.ColumnCuts.{drop-in_text}

tab-in_text : (text : List ℕ) (at part n : ℕ) (rest : List Column) → drop at text ≡ tab ∷ drop (suc at) text → StandInText text rest → StandInText text (tab_columns at part n ++ rest)
tab-in_text text at part zero rest e t = t
tab-in_text text at part (suc n) rest e t = ((λ q. e), tab-in_text text at (suc part) n rest e t)

pub expand-in_text : (text : List ℕ) (column at : ℕ) (bs after : List ℕ) → drop at text ≡ bs ++ after → StandInText text (expand column at bs)
expand-in_text text column at [] after e = tt
expand-in_text text column at (b ∷ bs) after e =
    go (b == tab) refl (expand-in_text text (column + to_tab_stop column) (suc at) bs after next) (expand-in_text text (suc column) (suc at) bs after next)
  where
    next : drop (suc at) text ≡ bs ++ after
    next = ap (λ n. drop n text) (let s : suc at ≡ at + 1 = omega arith in s) ∙ sym (drop-drop 1 at text) ∙ ap (drop 1) e

    is : drop at text ≡ b ∷ drop (suc at) text
    is = e ∙ ap (λ l. b ∷ l) (sym next)

    same : (a b : ℕ) → (a == b) ≡ true → a ≡ b
    same a b e = grind (arith)

    go : (z : Bool) → (b == tab) ≡ z → StandInText text (expand (column + to_tab_stop column) (suc at) bs) → StandInText text (expand (suc column) (suc at) bs) →
        StandInText text (if z then tab_columns at 0 (to_tab_stop column) ++ expand (column + to_tab_stop column) (suc at) bs else record { byte = b; at = at; part = 0 } ∷ expand (suc column) (suc at) bs)
    go true q p r = tab-in_text text at 0 (to_tab_stop column) (expand (column + to_tab_stop column) (suc at) bs) (is ∙ ap (λ c. c ∷ drop (suc at) text) (same b tab q)) p
    go false q p r = ((λ x. is), r)

-- a whole line
pub row-in_text : (text : List ℕ) (at : ℕ) (line : List ℕ) (more : List (List ℕ)) → lines (drop at text) ≡ line ∷ more → StandInText text (row_at at line).columns
row-in_text text at line more is =
    expand-in_text text 0 at (content line) (drop (length (content line)) line ++ joined more)
    (sym (lines-ended (drop at text)).1 ∙ ap joined is ∙ ap (λ l. l ++ joined more) (sym (content-cut line)) ∙ append_assoc (content line) (drop (length (content line)) line) (joined more))

-- without columns at the beginning
pub without-in_text : (text : List ℕ) (n : ℕ) (r : Row) → StandInText text r.columns → StandInText text (without n r).columns
without-in_text text n r t = drop-in_text text n r.columns t

pub enter-in_text : (text : List ℕ) (k : Container) (r : Row) → StandInText text r.columns → StandInText text (enter k r).columns
unfolding enter
enter-in_text text k r t = drop-in_text text (width_of k r) r.columns t

-- the line that begins at a place of the text
pub line-in_text : (text : List ℕ) (at : ℕ) (r : Row) → at ≤ length text → ((line : List ℕ) (more : List (List ℕ)) → lines (drop at text) ≡ line ∷ more → r ≡ row_at at line) → (at ≡ length text → r.columns ≡ []) → StandInText text r.columns
line-in_text text at r le line none = go (lines (drop at text)) refl
  where
    go : (ls : List (List ℕ)) → lines (drop at text) ≡ ls → StandInText text r.columns
    go [] e =
        let bare : drop at text ≡ [] = sym (lines-ended (drop at text)).1 ∙ ap joined e in
        let len : length text - at ≡ 0 = sym (length-drop at text) ∙ ap length bare in
        subst (StandInText text) (sym (none (omega (arith, le, len)))) tt
    go (l ∷ ls) e = subst (λ x. StandInText text x.columns) (sym (line l ls e)) (row-in_text text at l ls e)
