-- Lines of code and HTML as a builder draws them.
use Rattle.std.proofs.Common.{◌≡◌, ℕ, zero, suc, ◌+◌, ◌-◌, ◌≤◌, Bool, true, false, ◌==◌, ◌&&◌, not, ◌≢◌, min, List, [], ◌∷◌, ◌++◌, length, drop, take, take_while, replicate, Option, Some, None, refl, sym, ap, ◌∙◌, subst, arith, true≢false, append_assoc, append-nil, drop-drop, take-add, cond}
use Rattle.std.specs.Prelude.{if◌then◌else◌, nat_lt, nat_le}
use Rattle.std.proofs.lemmas.List.Sums.{take_while-cons}
use Rattle.cmark_grammar.specs.Characters.{tab}
use Rattle.cmark_grammar.specs.BlockDocument.{Text, OwnedText, Html, Nil, Node, node, join}
use Rattle.cmark_grammar.specs.Columns.{Column, expand, tab_columns, to_tab_stop}
use Rattle.cmark_grammar.specs.Rows.{Row, without, begin_of, indent_of}
use Rattle.cmark_grammar.specs.Tokens.{Piece, slice, piece_if, plain_line, is_left, left_columns, spaces_if, verbatim_line, code_columns, touches, html_kind_of, html_then}
use Rattle.cmark_block_model.specs.Drawing.{Drawing, drawn}
use Rattle.cmark_block_model.specs.CodeLines.{Run, put_after, touch, add_to, add_piece, add_pieces, rest_of, texts_of}
use Rattle.cmark_items.specs.declared.item.ItemBody.TheVariants as body
use Rattle.cmark_builder.specs.declared.builder.Builder.{Builder}
use Rattle.cmark_builder.specs.Drawn.{Draws}
use Rattle.cmark_builder.specs.Ended.{item_at}
use Rattle.cmark_builder.proofs.DrawnSteps.{draws-add}
use Rattle.cmark_scan_lines.specs.LineStart.{columns_taken, cut_columns}
use Rattle.cmark_line_rules.specs.Rests.{row_of}
use Rattle.cmark_line_rules.specs.declared.line_rest.LineRest.{LineRest}
use Rattle.cmark_leaf_nodes.specs.declared.stretch.Stretch.{Stretch}
use Rattle.cmark_leaf_nodes.specs.Stretches.{shown_stretch, shown_waits, run_of, Goes}
use Rattle.cmark_leaf_nodes.proofs.ColumnCuts.{goes_on, expand-whole}
use Rattle.cmark_leaf_nodes.proofs.DrawSteps.{drawn-Nil, drawn-join, texts-append}
use Rattle.cmark_leaf_nodes.proofs.WordSteps.{Adds}

-- the stretch that waits, as a node
pub draws-waiting : (text : List ℕ) (old new : Builder) (waits : Option Stretch) (s : Stretch) (d : Drawing) → waits ≡ Some s →
    Adds old new (item_at s.start s.end (body.Text false)) → new.allocations ≡ old.allocations →
    Draws text old d → Draws text new (drawn (texts_of (rest_of (shown_waits text waits))) d)
draws-waiting text old new waits s d is step same draws =
    subst (λ w. Draws text new (drawn (texts_of (rest_of (shown_waits text w))) d)) (sym is)
    (draws-add text old new (item_at s.start s.end (body.Text false)) (node (Text (slice text s.start s.end)) s.start s.end) d step same refl refl draws)

pub draws-none : (text : List ℕ) (b : Builder) (waits : Option Stretch) (d : Drawing) → waits ≡ None → Draws text b d → Draws text b (drawn (texts_of (rest_of (shown_waits text waits))) d)
draws-none text b waits d is draws = subst (λ w. Draws text b (drawn (texts_of (rest_of (shown_waits text w))) d)) (sym is) (subst (Draws text b) (sym (drawn-Nil d)) draws)

slice-join : (text : List ℕ) (a b c : ℕ) → a ≤ b → b ≤ c → slice text a b ++ slice text b c ≡ slice text a c
slice-join text a b c le lf =
    ap (λ xs. take (b - a) (drop a text) ++ take (c - b) xs) (ap (λ n. drop n text) (let s : b ≡ a + (b - a) = omega (arith, le) in s) ∙ sym (drop-drop (b - a) a text))
    ∙ sym (take-add (b - a) (c - b) (drop a text))
    ∙ ap (λ n. take n (drop a text)) (let s : (b - a) + (c - b) ≡ c - a = omega (arith, le, lf) in s)

same-true : (a b : ℕ) → a ≡ b → (a == b) ≡ true
same-true a b e = grind (arith)

-- stretches that touch are one
pub joins-touching : (text : List ℕ) (waits : Option Stretch) (s next : Stretch) → waits ≡ Some s → s.end ≡ next.start →
    add_to [] (shown_waits text waits) (shown_stretch text next) ≡ record { done = []; waits = Some (record { owned = false; bytes = slice text s.start next.end; start = s.start; end = next.end }) }
joins-touching text waits s next is touching =
    ap (λ w. add_to [] (shown_waits text w) (shown_stretch text next)) is
    ∙ ap (λ z. touch z [] (shown_stretch text s) (shown_stretch text next)) (same-true s.end next.start touching)
    ∙ ap (λ bs. record { done = []; waits = Some (record { owned = false; bytes = bs; start = s.start; end = next.end }) }) (
    ap (λ n. slice text s.start n ++ slice text next.start next.end) touching
    ∙ slice-join text s.start next.start next.end (let o : s.start ≤ s.end = s.ordered in omega (arith, o, touching)) next.ordered)

-- nothing more comes
pub goes-none : (text : List ℕ) (b : Builder) (waits : Option Stretch) (ps : List Piece) → ps ≡ [] → Goes text b b waits waits ps
goes-none text b waits ps none = subst (Goes text b b waits waits) (sym none) (record { left_is = refl; draws = λ d draws. subst (Draws text b) (sym (drawn-Nil d)) draws })

not-less : (a b : ℕ) → a ≡ b → nat_lt a b ≡ false
not-less a b e = grind (arith)

is-less : (a b : ℕ) → a ≤ b → a ≢ b → nat_lt a b ≡ true
is-less a b le ne = grind (arith)

pub piece_if-none : (text : List ℕ) (start end : ℕ) (ps : List Piece) → start ≡ end → piece_if text start end ps ≡ ps
piece_if-none text start end ps e = ap (λ z. if z then record { owned = false; bytes = slice text start end; start = start; end = end } ∷ ps else ps) (not-less start end e)

pub piece_if-some : (text : List ℕ) (next : Stretch) (ps : List Piece) → next.start ≢ next.end → piece_if text next.start next.end ps ≡ shown_stretch text next ∷ ps
piece_if-some text next ps ne = ap (λ z. if z then shown_stretch text next ∷ ps else ps) (is-less next.start next.end next.ordered ne)

-- another stretch
pub goes-joined : (text : List ℕ) (b : Builder) (waits : Option Stretch) (both next : Stretch) → next.start ≢ next.end →
    add_to [] (shown_waits text waits) (shown_stretch text next) ≡ run_of text (Some both) → Goes text b b waits (Some both) (piece_if text next.start next.end [])
goes-joined text b waits both next some is =
    subst (Goes text b b waits (Some both)) (sym (piece_if-some text next [] some)) (record {
      left_is = sym (ap (λ r. r.waits) is);
      draws = λ d draws. subst (λ r. Draws text b (drawn (texts_of r.done) d)) (sym is) (subst (Draws text b) (sym (drawn-Nil d)) draws);
    })

-- columns that are left of a tab
pub left-cut : (cs : List Column) → left_columns cs ≡ cut_columns cs
left-cut [] = refl
left-cut (c ∷ cs) = ap length (take_while-cons is_left c cs) ∙ go (c.part == 0) (left-cut cs)
  where
    go : (z : Bool) → left_columns cs ≡ cut_columns cs → length (cond (not z) (c ∷ take_while is_left cs) []) ≡ (if z then 0 else suc (cut_columns cs))
    go true e = refl
    go false e = ap suc e

whole-cut : (cs : List Column) → goes_on cs ≡ false → cut_columns cs ≡ 0
whole-cut [] e = refl
whole-cut (c ∷ cs) e = go (c.part == 0) e
  where
    go : (z : Bool) → not z ≡ false → (if z then 0 else suc (cut_columns cs)) ≡ 0
    go true e = refl
    go false e = absurd (true≢false e)

tab-len : (at part n : ℕ) (rest : List Column) → goes_on rest ≡ false → cut_columns (tab_columns at part n ++ rest) ≤ n
tab-len at part zero rest first = let e = whole-cut rest first in omega (arith, e)
tab-len at part (suc n) rest first = go (part == 0) (tab-len at (suc part) n rest first)
  where
    go : (z : Bool) → cut_columns (tab_columns at (suc part) n ++ rest) ≤ n → (if z then 0 else suc (cut_columns (tab_columns at (suc part) n ++ rest))) ≤ suc n
    go true le = omega arith
    go false le = omega (arith, le)

tab-cut : (at part n : ℕ) (rest : List Column) (m : ℕ) → goes_on rest ≡ false → part + n ≤ 4 → ((k : ℕ) → cut_columns (drop k rest) ≤ 3) → cut_columns (drop m (tab_columns at part n ++ rest)) ≤ 3
tab-cut at part zero rest m first le h = h m
tab-cut at part (suc n) rest (suc m) first le h = tab-cut at (suc part) n rest m first (omega (arith, le)) h
tab-cut at zero (suc n) rest zero first le h = omega arith
tab-cut at (suc part) (suc n) rest zero first le h = let l = tab-len at (suc part) (suc n) rest first in omega (arith, l, le)

expand-cut : (column at : ℕ) (bs : List ℕ) (m : ℕ) → cut_columns (drop m (expand column at bs)) ≤ 3
expand-cut column at [] zero = omega arith
expand-cut column at [] (suc m) = omega arith
expand-cut column at (b ∷ bs) m = go (b == tab) m (λ k. expand-cut (column + to_tab_stop column) (suc at) bs k) (λ k. expand-cut (suc column) (suc at) bs k)
  where
    go : (z : Bool) (m : ℕ) → ((k : ℕ) → cut_columns (drop k (expand (column + to_tab_stop column) (suc at) bs)) ≤ 3) → ((k : ℕ) → cut_columns (drop k (expand (suc column) (suc at) bs)) ≤ 3) →
        cut_columns (drop m (if z then tab_columns at 0 (to_tab_stop column) ++ expand (column + to_tab_stop column) (suc at) bs else record { byte = b; at = at; part = 0 } ∷ expand (suc column) (suc at) bs)) ≤ 3
    go true m p r = tab-cut at 0 (to_tab_stop column) (expand (column + to_tab_stop column) (suc at) bs) m (expand-whole (column + to_tab_stop column) (suc at) bs) (omega arith) p
    go false zero p r = omega arith
    go false (suc m) p r = r m

pub rest-cut : (rest : LineRest) → cut_columns (row_of rest).columns ≤ 3
unfolding row_of
rest-cut rest = expand-cut 0 rest.start rest.front.bytes.now (columns_taken rest.front)

-- the spaces of such columns
pub spaces-none : (n count at : ℕ) → count ≡ n → count ≡ 0 → spaces_if n at [] ≡ []
spaces-none n count at e z = ap (λ k. spaces_if k at []) (sym e ∙ z)

add-owned : (waits : Option Piece) (q : Piece) → q.owned ≡ true → add_to [] waits q ≡ record { done = rest_of waits ++ q ∷ []; waits = None }
add-owned None q o = ap (λ z. put_after z [] q) o
add-owned (Some p) q o = ap (λ z. touch (not p.owned && (not z && (p.end == q.start))) [] p q) o ∙ apart p.owned ∙ ap (λ z. put_after z (p ∷ []) q) o
  where
    apart : (z : Bool) → touch (not z && false) [] p q ≡ put_after q.owned (p ∷ []) q
    apart true = refl
    apart false = refl

pub goes-spaces : (text : List ℕ) (old mid new : Builder) (waits : Option Stretch) (n count place at : ℕ) → count ≡ n → count ≢ 0 → place ≡ at →
    ((d : Drawing) → Draws text old d → Draws text mid (drawn (texts_of (rest_of (shown_waits text waits))) d)) →
    ((d : Drawing) → Draws text mid d → Draws text new (drawn (Node (node (OwnedText (replicate count 32)) place place) Nil Nil) d)) →
    Goes text old new waits None (spaces_if n at [])
goes-spaces text old mid new waits n zero place at e some p first second = absurd (some refl)
goes-spaces text old mid new waits n (suc count) place at e some p first second =
    subst (λ k. Goes text old new waits None (spaces_if k at [])) e (subst (λ x. Goes text old new waits None (spaces_if (suc count) x [])) p (record {
      left_is = sym (ap (λ r. r.waits) is);
      draws = λ d draws. subst (λ r. Draws text new (drawn (texts_of r.done) d)) (sym is)
          (subst (Draws text new) (sym (ap (λ x. drawn x d) (texts-append (rest_of (shown_waits text waits)) (q ∷ [])) ∙ drawn-join (texts_of (rest_of (shown_waits text waits))) (texts_of (q ∷ [])) d))
          (second (drawn (texts_of (rest_of (shown_waits text waits))) d) (first d draws)));
    }))
  where
    q : Piece
    q = record { owned = true; bytes = replicate (suc count) 32; start = place; end = place }

    is : add_to [] (shown_waits text waits) q ≡ record { done = rest_of (shown_waits text waits) ++ q ∷ []; waits = None }
    is = add-owned (shown_waits text waits) q refl

-- pieces after others that are finished
abbrev following : List Piece → Run → Run
following ds run = record { done = ds ++ run.done; waits = run.waits }

abbrev put_after-more : (owned : Bool) (ds es : List Piece) (q : Piece) → put_after owned (ds ++ es) q ≡ record { done = ds ++ (put_after owned es q).done; waits = (put_after owned es q).waits }
put_after-more true ds es q = ap (λ x. record { done = x; waits = None }) (append_assoc ds es (q ∷ []))
put_after-more false ds es q = refl

add_to-more : (ds es : List Piece) (waits : Option Piece) (q : Piece) → add_to (ds ++ es) waits q ≡ record { done = ds ++ (add_to es waits q).done; waits = (add_to es waits q).waits }
add_to-more ds es None q = put_after-more q.owned ds es q
add_to-more ds es (Some p) q = go (touches p q)
  where
    go : (z : Bool) → touch z (ds ++ es) p q ≡ record { done = ds ++ (touch z es p q).done; waits = (touch z es p q).waits }
    go true = refl
    go false = ap (λ x. put_after q.owned x q) (append_assoc ds es (p ∷ [])) ∙ put_after-more q.owned ds (es ++ p ∷ []) q

pieces-more : (ds : List Piece) (run : Run) (ps : List Piece) → add_pieces (record { done = ds ++ run.done; waits = run.waits }) ps ≡ record { done = ds ++ (add_pieces run ps).done; waits = (add_pieces run ps).waits }
pieces-more ds run [] = refl
pieces-more ds run (p ∷ ps) = ap (λ r. add_pieces r ps) (add_to-more ds run.done run.waits p) ∙ pieces-more ds (add_piece run p) ps

pieces-append : (run : Run) (ps qs : List Piece) → add_pieces run (ps ++ qs) ≡ add_pieces (add_pieces run ps) qs
pieces-append run [] qs = refl
pieces-append run (p ∷ ps) qs = pieces-append (add_piece run p) ps qs

-- two lists of pieces in order
pub goes-both : (text : List ℕ) (old mid new : Builder) (first second third : Option Stretch) (ps qs : List Piece) → Goes text old mid first second ps → Goes text mid new second third qs → Goes text old new first third (ps ++ qs)
goes-both text old mid new first second third ps qs g h = record {
  left_is = h.left_is ∙ sym (ap (λ r. r.waits) all);
  draws = λ d draws. subst (λ r. Draws text new (drawn (texts_of r.done) d)) (sym all)
      (subst (Draws text new) (sym (ap (λ x. drawn x d) (texts-append a.done b.done) ∙ drawn-join (texts_of a.done) (texts_of b.done) d)) (h.draws (drawn (texts_of a.done) d) (g.draws d draws)));
}
  where
    a : Run
    a = add_pieces (run_of text first) ps

    b : Run
    b = add_pieces (run_of text second) qs

    all : add_pieces (run_of text first) (ps ++ qs) ≡ record { done = a.done ++ b.done; waits = b.waits }
    all = pieces-append (run_of text first) ps qs
        ∙ ap (λ w. add_pieces (record { done = a.done; waits = w }) qs) (sym g.left_is)
        ∙ ap (λ ds. add_pieces (record { done = ds; waits = shown_waits text second }) qs) (sym (append-nil a.done))
        ∙ pieces-more a.done (run_of text second) qs

-- a line, in parts
spaces-then : (n at : ℕ) (ps : List Piece) → spaces_if n at ps ≡ spaces_if n at [] ++ ps
spaces-then zero at ps = refl
spaces-then (suc n) at ps = refl

piece-then : (text : List ℕ) (start end : ℕ) (ps : List Piece) → piece_if text start end ps ≡ piece_if text start end [] ++ ps
piece-then text start end ps = go (nat_lt start end)
  where
    go : (z : Bool) → (if z then record { owned = false; bytes = slice text start end; start = start; end = end } ∷ ps else ps) ≡ (if z then record { owned = false; bytes = slice text start end; start = start; end = end } ∷ [] else []) ++ ps
    go true = refl
    go false = refl

pub verbatim-parts : (text : List ℕ) (r : Row) (a b : Stretch) → piece_if text a.start a.end (piece_if text b.start b.end []) ≡ plain_line text (begin_of r) r →
    spaces_if (left_columns r.columns) (begin_of r) [] ++ (piece_if text a.start a.end [] ++ piece_if text b.start b.end []) ≡ verbatim_line text r.columns r
verbatim-parts text r a b is =
    ap (λ ps. spaces_if (left_columns r.columns) (begin_of r) [] ++ ps) (sym (piece-then text a.start a.end (piece_if text b.start b.end [])) ∙ is)
    ∙ sym (spaces-then (left_columns r.columns) (begin_of r) (plain_line text (begin_of r) r))

-- the line without its indent
pub code-row : (most : ℕ) (r s : Row) (text : List ℕ) → s ≡ without (min most (indent_of r)) r → verbatim_line text s.columns s ≡ verbatim_line text (code_columns most r) r
code-row most r s text is = ap (λ x. verbatim_line text x.columns x) is ∙ ap (λ n. verbatim_line text (drop n r.columns) r) (sym (least most (indent_of r)))
  where
    least : (a b : ℕ) → (if nat_le a b then a else b) ≡ min a b
    least a b = grind (arith)

pub html-append : (ps qs : List Piece) → html_then (ps ++ qs) Nil ≡ join (html_then ps Nil) (html_then qs Nil)
html-append [] qs = refl
html-append (p ∷ ps) qs = ap (Node (node (html_kind_of p) p.start p.end) Nil) (html-append ps qs)

-- HTML as nodes
pub draws-html-none : (text : List ℕ) (b : Builder) (ps : List Piece) (d : Drawing) → ps ≡ [] → Draws text b d → Draws text b (drawn (html_then ps Nil) d)
draws-html-none text b ps d none draws = subst (λ x. Draws text b (drawn (html_then x Nil) d)) (sym none) (subst (Draws text b) (sym (drawn-Nil d)) draws)

pub draws-html : (text : List ℕ) (old new : Builder) (s : Stretch) (d : Drawing) → s.start ≢ s.end → Adds old new (item_at s.start s.end body.Html) → new.allocations ≡ old.allocations →
    Draws text old d → Draws text new (drawn (html_then (piece_if text s.start s.end []) Nil) d)
draws-html text old new s d some step same draws =
    subst (λ ps. Draws text new (drawn (html_then ps Nil) d)) (sym (piece_if-some text s [] some))
    (draws-add text old new (item_at s.start s.end body.Html) (node (Html (slice text s.start s.end)) s.start s.end) d step same refl refl draws)

pub draws-html-spaces : (text : List ℕ) (old new : Builder) (n count place at : ℕ) (d : Drawing) → count ≡ n → count ≢ 0 → place ≡ at →
    ((d : Drawing) → Draws text old d → Draws text new (drawn (Node (node (OwnedText (replicate count 32)) place place) Nil Nil) d)) →
    Draws text old d → Draws text new (drawn (html_then (spaces_if n at []) Nil) d)
draws-html-spaces text old new n zero place at d e some p step draws = absurd (some refl)
draws-html-spaces text old new n (suc count) place at d e some p step draws =
    subst (λ k. Draws text new (drawn (html_then (spaces_if k at []) Nil) d)) e (subst (λ x. Draws text new (drawn (html_then (spaces_if (suc count) x []) Nil) d)) p (step d draws))

pub draws-html-both : (text : List ℕ) (old mid new : Builder) (ps qs : List Piece) → ((d : Drawing) → Draws text old d → Draws text mid (drawn (html_then ps Nil) d)) →
    ((d : Drawing) → Draws text mid d → Draws text new (drawn (html_then qs Nil) d)) → (d : Drawing) → Draws text old d → Draws text new (drawn (html_then (ps ++ qs) Nil) d)
draws-html-both text old mid new ps qs first second d draws =
    subst (Draws text new) (sym (ap (λ x. drawn x d) (html-append ps qs) ∙ drawn-join (html_then ps Nil) (html_then qs Nil) d)) (second (drawn (html_then ps Nil) d) (first d draws))
