-- In the leaves of a document that is derived only the first stretch may begin with a line ending: a line of a paragraph is not blank.
use Rattle.std.specs.Prelude.{◌==◌, if◌then◌else◌, cond, get_or}
use Rattle.std.proofs.Common.{◌≡◌, ℕ, zero, suc, ◌+◌, Bool, true, false, List, [], ◌∷◌, ◌++◌, length, drop, refl, sym, ap, ◌∙◌, subst, arith, append_assoc, Option, Some, None, true≢false, length-append, get_or-append-add, rules}
use Rattle.std.proofs.lemmas.List.Sums.{take_while-cons}
use Rattle.cmark_grammar.specs.Characters.{tab}
use Rattle.cmark_grammar.specs.Answers.{Lookup}
use Rattle.cmark_grammar.specs.BlockDocument.{BlockDocument, Nil, Node}
use Rattle.cmark_grammar.specs.Blocks.{AreText}
use Rattle.cmark_grammar.specs.Columns.{Column, expand, tab_columns, to_tab_stop, is_blank, without_indent}
use Rattle.cmark_grammar.specs.Containers.{Container, is_alert, unless_tag, enter, width_of, keeps, strip_as, strip, strips, is_bare_start, insides}
use Rattle.cmark_grammar.specs.Derivation.{Derives}
use Rattle.cmark_grammar.specs.LeafText.{Stretch}
use Rattle.cmark_grammar.specs.Lines.{lines, content, is_content}
use Rattle.cmark_grammar.specs.Options.{Options}
use Rattle.cmark_grammar.specs.Rows.{Row, rows, rows_from, row_at, begin_of, is_bare, is_blank_line, shown}
use Rattle.cmark_grammar.specs.SetextAttributes.{texts_before}
use Rattle.cmark_grammar.specs.SpanDocuments.{stretches_of, segments}
use Rattle.cmark_grammar.specs.Tokens.{stretch_then, stretches, words_end}
use Rattle.cmark_block_model.proofs.BlockLaws.{texts-words}
use Rattle.cmark_block_model.proofs.BoundaryLaws.{joined, lines-ended, content-cut}
use Rattle.cmark_block_model.proofs.RowPlaces.{Runs, drop-Runs, expand-Runs, first_place-Runs, kept-following, after_prefix}
use Rattle.cmark_inline_model.proofs.LeafStretches.{AllLeaves, KeepsStretches, derived-leaves}

-- ## Columns

-- a byte that begins in one of these columns does not end a line, and is in the text there; other columns belong to a tab
abbrev AreColumns : (text : List ℕ) → List Column → Type 0
AreColumns text [] = Unit {0}
AreColumns text (c ∷ cs) = ((c.part == 0) ≡ true → is_content (get_or text c.at 0) ≡ true) × ((c.part == 0) ≡ false → is_blank c ≡ true) × AreColumns text cs

columns_after : (text : List ℕ) (n : ℕ) (cs : List Column) → AreColumns text cs → AreColumns text (drop n cs)
columns_after text zero cs h = h
columns_after text (suc n) [] h = tt
columns_after text (suc n) (c ∷ cs) h = columns_after text n cs h.2

tab_are : (text : List ℕ) (at part n : ℕ) (rest : List Column) → is_content (get_or text at 0) ≡ true → AreColumns text rest → AreColumns text (tab_columns at part n ++ rest)
tab_are text at part zero rest c h = h
tab_are text at part (suc n) rest c h = ((λ e. c), (λ e. refl), tab_are text at (suc part) n rest c h)

abbrev AreContent : List ℕ → Type 0
AreContent [] = Unit {0}
AreContent (b ∷ bs) = (is_content b ≡ true) × AreContent bs

content_are : (line : List ℕ) → AreContent (content line)
content_are [] = tt
content_are (b ∷ line) = subst AreContent (sym (take_while-cons is_content b line)) (go (is_content b) refl (content_are line))
  where
    go : (z : Bool) → is_content b ≡ z → AreContent (content line) → AreContent (cond z (b ∷ content line) [])
    go true e h = (e, h)
    go false e h = tt

expand_are : (text before bs after : List ℕ) (column at : ℕ) → text ≡ before ++ (bs ++ after) → length before ≡ at → AreContent bs → AreColumns text (expand column at bs)
expand_are text before [] after column at e l c = tt
expand_are text before (b ∷ bs) after column at e l c =
    let s = length-append before (b ∷ []) in
    let further : (next : ℕ) → AreColumns text (expand next (suc at) bs) = λ next. expand_are text (before ++ b ∷ []) bs after next (suc at) (e ∙ sym (append_assoc before (b ∷ []) (bs ++ after))) (omega arith) c.1 in
    go (b == tab) (further (column + to_tab_stop column)) (further (suc column))
  where
    byte : get_or text at 0 ≡ b
    byte =
        let z : length before + 0 ≡ length before = omega arith in
        ap (λ n. get_or text n 0) (sym l) ∙ ap (λ t. get_or t (length before) 0) e ∙ ap (λ i. get_or (before ++ (b ∷ (bs ++ after))) i 0) (sym z) ∙ get_or-append-add before (b ∷ (bs ++ after)) 0 0

    text_there : is_content (get_or text at 0) ≡ true
    text_there = ap is_content byte ∙ c.0

    go : (z : Bool) → AreColumns text (expand (column + to_tab_stop column) (suc at) bs) → AreColumns text (expand (suc column) (suc at) bs)
        → AreColumns text (if z then tab_columns at 0 (to_tab_stop column) ++ expand (column + to_tab_stop column) (suc at) bs else record { byte = b; at = at; part = 0 } ∷ expand (suc column) (suc at) bs)
    go true p q = tab_are text at 0 (to_tab_stop column) (expand (column + to_tab_stop column) (suc at) bs) text_there p
    go false p q = ((λ x. text_there), (λ x. absurd (true≢false x)), q)

-- columns that are not all blank begin with a byte that ends no line
begins_so : (text : List ℕ) (from : ℕ) (cs : List Column) (to : ℕ) → Runs from cs to → AreColumns text cs → is_bare (without_indent cs) ≡ false → is_content (get_or text from 0) ≡ true
begins_so text from [] to h k e = absurd (true≢false e)
begins_so text from (c ∷ cs) to h k e = go (c.part == 0) refl h.0 (begins_so text (suc c.at) cs to h.1 k.2)
  where
    go : (z : Bool) → (c.part == 0) ≡ z → (if z then c.at else suc c.at) ≡ from → (is_bare (without_indent cs) ≡ false → is_content (get_or text (suc c.at) 0) ≡ true) → is_content (get_or text from 0) ≡ true
    go z q p ih = grind (arith, take_while-cons)

-- ## Rows

abbrev IsRow : (text : List ℕ) → Row → Type 0
IsRow text r = Runs (begin_of r) r.columns r.content_end × AreColumns text r.columns

abbrev pub AreRows : (text : List ℕ) → List Row → Type 0
AreRows text [] = Unit {0}
AreRows text (r ∷ rs) = IsRow text r × AreRows text rs

row_begins : (text : List ℕ) (r : Row) → IsRow text r → is_blank_line r ≡ false → is_content (get_or text (begin_of r) 0) ≡ true
row_begins text r h e = begins_so text (begin_of r) r.columns r.content_end h.0 h.1 e

after_prefix_is : (text : List ℕ) (n : ℕ) (held : Bool) (r : Row) → IsRow text r → IsRow text (after_prefix n held r)
after_prefix_is text n held r h = ((drop-Runs n (begin_of r) r.columns r.content_end h.0).0, columns_after text n r.columns h.1)

strip_is : (text : List ℕ) (k : Container) (bare : Bool) (r : Row) → IsRow text r → IsRow text (strip k bare r)
strip_is text k bare r h = go (keeps k bare r) refl
  where
    go : (o : Option Row) → keeps k bare r ≡ o → IsRow text (strip_as o r)
    go None e = h
    go (Some s) e = let w = kept-following k bare r s e in subst (IsRow text) w.1.1 (after_prefix_is text w.0 w.1.0 r h)

strips_are : (text : List ℕ) (k : Container) (bare : Bool) (rs : List Row) → AreRows text rs → AreRows text (strips k bare rs)
strips_are text k bare [] h = tt
strips_are text k bare (r ∷ rs) h = (strip_is text k bare r h.0, strips_are text k false rs h.1)

rows_front : (text : List ℕ) (a b : List Row) → AreRows text (a ++ b) → AreRows text a
rows_front text [] b h = tt
rows_front text (r ∷ a) b h = (h.0, rows_front text a b h.1)

rows_inside : (text : List ℕ) (k : Container) (first : Row) (more : List Row) → AreRows text (first ∷ more) → AreRows text (insides k first more)
unfolding enter
rows_inside text k first more h = go (is_alert k)
  where
    others : AreRows text (strips k (is_bare_start k first) more)
    others = strips_are text k (is_bare_start k first) more h.1

    go : (is_tag : Bool) → AreRows text (unless_tag is_tag (enter k first) (strips k (is_bare_start k first) more))
    go true = others
    go false = (after_prefix_is text (width_of k first) first.held first h.0, others)

pub rows_of_lines : (text before : List ℕ) (ls : List (List ℕ)) (at : ℕ) → text ≡ before ++ joined ls → length before ≡ at → AreRows text (rows_from at ls)
rows_of_lines text before [] at e l = tt
rows_of_lines text before (line ∷ ls) at e l =
    let runs : Runs at (expand 0 at (content line)) (at + length (content line)) = expand-Runs 0 at (content line) in
    let begin : begin_of (row_at at line) ≡ at = first_place-Runs at (expand 0 at (content line)) (at + length (content line)) runs in
    let tail = drop (length (content line)) line in
    let cut : text ≡ before ++ (content line ++ (tail ++ joined ls)) = e ∙ ap (λ t. before ++ (t ++ joined ls)) (sym (content-cut line)) ∙ ap (λ t. before ++ t) (append_assoc (content line) tail (joined ls)) in (
      (subst (λ f. Runs f (expand 0 at (content line)) (at + length (content line))) (sym begin) runs, expand_are text before (content line) (tail ++ joined ls) 0 at cut l (content_are line)),
      rows_of_lines text (before ++ line) ls (at + length line) (e ∙ sym (append_assoc before line (joined ls))) (length-append before line ∙ ap (λ n. n + length line) l),
    )

rows_are : (text : List ℕ) → AreRows text (rows text)
rows_are text = rows_of_lines text [] (lines text) 0 (sym (lines-ended text).1) refl

-- ## Stretches

-- each of these stretches begins with a byte that ends no line
abbrev pub BeginWithText : (source : List ℕ) → List Stretch → Type 0
BeginWithText source [] = Unit {0}
BeginWithText source (s ∷ more) = (is_content (get_or source s.start 0) ≡ true) × BeginWithText source more

-- each but the first does
abbrev pub GoOnWithText : (source : List ℕ) → List Stretch → Type 0
GoOnWithText source [] = Unit {0}
GoOnWithText source (s ∷ more) = BeginWithText source more

all_but_first : (source : List ℕ) (st : List Stretch) → BeginWithText source st → GoOnWithText source st
all_but_first source [] h = tt
all_but_first source (s ∷ more) h = h.1

stretch_begins : (text : List ℕ) (start end : ℕ) (after : BlockDocument) → is_content (get_or text start 0) ≡ true → BeginWithText text (stretches_of after) → BeginWithText text (stretches_of (stretch_then text start end after))
stretch_begins text start end after c h = grind arith

stretch_goes_on : (text : List ℕ) (start end : ℕ) (after : BlockDocument) → BeginWithText text (stretches_of after) → GoOnWithText text (stretches_of (stretch_then text start end after))
stretch_goes_on text start end after h = grind (arith, all_but_first)

-- lines that are not blank
abbrev AreWords : (text : List ℕ) → List Row → Type 0
AreWords text [] = Unit {0}
AreWords text (r ∷ rs) = (is_content (get_or text (begin_of r) 0) ≡ true) × AreWords text rs

stretches_begin : (text : List ℕ) (begin : ℕ) (r : Row) (more : List Row) → is_content (get_or text begin 0) ≡ true → AreWords text more → BeginWithText text (stretches_of (stretches text begin r more))
stretches_begin text begin r [] c h = stretch_begins text begin (words_end r) Nil c tt
stretches_begin text begin r (s ∷ more) c h = search (rules, stretch_begins, stretches_begin text begin s more c h.1, stretches_begin text (begin_of s) s more h.0 h.1)

stretches_go_on : (text : List ℕ) (begin : ℕ) (r : Row) (more : List Row) → AreWords text more → GoOnWithText text (stretches_of (stretches text begin r more))
stretches_go_on text begin r [] h = stretch_goes_on text begin (words_end r) Nil tt
stretches_go_on text begin r (s ∷ more) h = grind (arith, stretches_begin, stretch_goes_on, stretches_go_on text begin s more h.1)

-- texts before a place begin as they did
before_begin : (text : List ℕ) (at : ℕ) (d : BlockDocument) → BeginWithText text (stretches_of d) → BeginWithText text (stretches_of (texts_before text at d))
before_begin text at Nil h = tt
before_begin text at (Node n inside after) h = grind (arith, stretch_begins, before_begin text at after h.1)

before_go_on : (text : List ℕ) (at : ℕ) (d : BlockDocument) → GoOnWithText text (stretches_of d) → GoOnWithText text (stretches_of (texts_before text at d))
before_go_on text at Nil h = tt
before_go_on text at (Node n inside after) h = grind (arith, before_begin, stretch_goes_on)

-- ## Leaves

-- a line that continues a paragraph is not blank
words_are : (text : List ℕ) (options : Options) (more rest : List Row) → AreRows text more → AreText options more rest → AreWords text more
words_are text options [] rest h t = tt
words_are text options (r ∷ more) rest h t = (row_begins text r h.0 (texts-words options r (shown (more ++ rest)) t.0.0), words_are text options more rest h.1 t.1)

pub keeps_fronts : (text : List ℕ) (options : Options) → KeepsStretches text options (GoOnWithText text) (AreRows text)
keeps_fronts text options = grind (arith, stretches_go_on, words_are, rows_front, before_go_on, rows_inside)

pub derived-fronts : (text : List ℕ) (options : Options) (lookup : Lookup) (document : BlockDocument) → Derives text options lookup document → AllLeaves (GoOnWithText text) (segments document)
derived-fronts text options lookup document h = derived-leaves text options (GoOnWithText text) (AreRows text) (keeps_fronts text options) lookup document h (rows_are text)
