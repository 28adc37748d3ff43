-- Lines of code: pieces that are drawn from left to right are those that are merged from right to left.
use Rattle.std.proofs.Common.{◌≡◌, ℕ, Bool, true, false, ◌==◌, ◌&&◌, not, List, [], ◌∷◌, ◌++◌, refl, ap, ◌∙◌, sym, append_assoc, append-nil, Option, Some, None, arith, rules}
use Rattle.std.specs.Prelude.{if◌then◌else◌}
use Rattle.cmark_grammar.specs.Rows.{Row}
use Rattle.cmark_grammar.specs.BlockDocument.{Nil, join}
use Rattle.cmark_grammar.specs.Tokens.{Piece, touches, merge, merge_all, texts_then, verbatim_line, code_columns, code_pieces, code_tokens}
use Rattle.cmark_block_model.specs.CodeLines.{Run, no_run, longer, put_after, touch, add_pieces, code_line, rest_of, texts_of}
use Rattle.cmark_block_model.proofs.PlainTokens.{texts-append, texts-join}

abbrev pub merge_waits : Option Piece → List Piece → List Piece
merge_waits None ps = ps
merge_waits (Some p) ps = merge p ps

abbrev pub run_with : List Piece → Option Piece → Run
run_with done waits = record { done = done; waits = waits }

merge-apart : (p : Piece) (ps : List Piece) → p.owned ≡ true → merge p ps ≡ p ∷ ps
merge-apart p [] e = refl
merge-apart p (q ∷ ps) e = ap (λ z. if not z && (not q.owned && (p.end == q.start)) then record { owned = false; bytes = p.bytes ++ q.bytes; start = p.start; end = q.end } ∷ ps else p ∷ q ∷ ps) e

-- a piece before another piece that it does not touch, and before the pieces merged with that
apart : (p q : Piece) (ps : List Piece) → q.owned ≡ false → touches p q ≡ false → merge p (merge q ps) ≡ p ∷ merge q ps
apart p q ps f e = grind arith

together : (p q : Piece) (ps : List Piece) → q.owned ≡ false → touches p q ≡ true → merge (longer p q) ps ≡ merge p (merge q ps)
together p q ps f e = grind (arith, append_assoc)

touched-plain : (p q : Piece) → touches p q ≡ true → q.owned ≡ false
touched-plain p q e = grind arith

-- all pieces, with the later ones
add-merges : (ps : List Piece) (done : List Piece) (waits : Option Piece) (following : List Piece) → ((add_pieces (run_with done waits) ps).done ++ merge_waits (add_pieces (run_with done waits) ps).waits following) ≡ (done ++ merge_waits waits (merge_all ps following))
add-merges [] done waits following = refl
add-merges (q ∷ ps) done None following = go q.owned refl (λ d w. add-merges ps d w following)
  where
    l : List Piece
    l = merge_all ps following

    go : (z : Bool) → q.owned ≡ z → ((d : List Piece) (w : Option Piece) → ((add_pieces (run_with d w) ps).done ++ merge_waits (add_pieces (run_with d w) ps).waits following) ≡ (d ++ merge_waits w (merge_all ps following))) → ((add_pieces (put_after z done q) ps).done ++ merge_waits (add_pieces (put_after z done q) ps).waits following) ≡ (done ++ merge q (merge_all ps following))
    go true e ih = ih (done ++ q ∷ []) None ∙ append_assoc done (q ∷ []) l ∙ ap (λ x. done ++ x) (sym (merge-apart q l e))
    go false e ih = ih done (Some q)
add-merges (q ∷ ps) done (Some p) following = touching (touches p q) refl (λ d w. add-merges ps d w following)
  where
    l : List Piece
    l = merge_all ps following

    go : (z : Bool) → q.owned ≡ z → touches p q ≡ false → ((d : List Piece) (w : Option Piece) → ((add_pieces (run_with d w) ps).done ++ merge_waits (add_pieces (run_with d w) ps).waits following) ≡ (d ++ merge_waits w (merge_all ps following))) → ((add_pieces (put_after z (done ++ p ∷ []) q) ps).done ++ merge_waits (add_pieces (put_after z (done ++ p ∷ []) q) ps).waits following) ≡ (done ++ merge p (merge q (merge_all ps following)))
    go z e f ih = grind (arith, append_assoc, l, merge-apart, apart)

    touching : (z : Bool) → touches p q ≡ z → ((d : List Piece) (w : Option Piece) → ((add_pieces (run_with d w) ps).done ++ merge_waits (add_pieces (run_with d w) ps).waits following) ≡ (d ++ merge_waits w (merge_all ps following))) → ((add_pieces (touch z done p q) ps).done ++ merge_waits (add_pieces (touch z done p q) ps).waits following) ≡ (done ++ merge p (merge q (merge_all ps following)))
    touching true e ih = ih done (Some (longer p q)) ∙ ap (λ x. done ++ x) (together p q l (touched-plain p q e) e)
    touching false e ih = go q.owned refl e ih

-- the finished pieces stay first
add-front : (ps : List Piece) (ds es : List Piece) (waits : Option Piece) → add_pieces (run_with (ds ++ es) waits) ps ≡ run_with (ds ++ (add_pieces (run_with es waits) ps).done) (add_pieces (run_with es waits) ps).waits
add-front [] ds es waits = refl
add-front (q ∷ ps) ds es None = go q.owned (λ e w. add-front ps ds e w)
  where
    go : (z : Bool) → ((e : List Piece) (w : Option Piece) → add_pieces (run_with (ds ++ e) w) ps ≡ run_with (ds ++ (add_pieces (run_with e w) ps).done) (add_pieces (run_with e w) ps).waits) → add_pieces (put_after z (ds ++ es) q) ps ≡ run_with (ds ++ (add_pieces (put_after z es q) ps).done) (add_pieces (put_after z es q) ps).waits
    go true ih = ap (λ d. add_pieces (run_with d None) ps) (append_assoc ds es (q ∷ [])) ∙ ih (es ++ q ∷ []) None
    go false ih = ih es (Some q)
add-front (q ∷ ps) ds es (Some p) = touching (touches p q) (λ e w. add-front ps ds e w)
  where
    go : (z : Bool) → ((e : List Piece) (w : Option Piece) → add_pieces (run_with (ds ++ e) w) ps ≡ run_with (ds ++ (add_pieces (run_with e w) ps).done) (add_pieces (run_with e w) ps).waits) → add_pieces (put_after z ((ds ++ es) ++ p ∷ []) q) ps ≡ run_with (ds ++ (add_pieces (put_after z (es ++ p ∷ []) q) ps).done) (add_pieces (put_after z (es ++ p ∷ []) q) ps).waits
    go z ih = grind (arith, append_assoc)

    touching : (z : Bool) → ((e : List Piece) (w : Option Piece) → add_pieces (run_with (ds ++ e) w) ps ≡ run_with (ds ++ (add_pieces (run_with e w) ps).done) (add_pieces (run_with e w) ps).waits) → add_pieces (touch z (ds ++ es) p q) ps ≡ run_with (ds ++ (add_pieces (touch z es p q) ps).done) (add_pieces (touch z es p q) ps).waits
    touching true ih = ih es (Some (longer p q))
    touching false ih = go q.owned ih

module _ (text : List ℕ) (most : ℕ) where
  -- the run of these lines
  abbrev pub code_run : Run → List Row → Run
  code_run run [] = run
  code_run run (r ∷ rs) = code_run (add_pieces run (verbatim_line text (code_columns most r) r)) rs

  pub code_run-append : (run : Run) (a b : List Row) → code_run run (a ++ b) ≡ code_run (code_run run a) b
  code_run-append run [] b = refl
  code_run-append run (r ∷ a) b = code_run-append (add_pieces run (verbatim_line text (code_columns most r) r)) a b

  run-merges : (rs : List Row) (done : List Piece) (waits : Option Piece) → ((code_run (run_with done waits) rs).done ++ rest_of (code_run (run_with done waits) rs).waits) ≡ (done ++ merge_waits waits (code_pieces text most rs))
  run-merges [] done None = refl
  run-merges [] done (Some p) = refl
  run-merges (r ∷ rs) done waits =
      let ps = verbatim_line text (code_columns most r) r in
      run-merges rs (add_pieces (run_with done waits) ps).done (add_pieces (run_with done waits) ps).waits ∙ add-merges ps done waits (code_pieces text most rs)

  -- the tokens of lines of code: the finished pieces, and the stretch that waits
  pub run-tokens : (rs : List Row) → code_tokens text most rs ≡ join (texts_of (code_run no_run rs).done) (texts_of (rest_of (code_run no_run rs).waits))
  run-tokens rs =
      ap (λ ps. texts_then ps Nil) (sym (run-merges rs [] None))
      ∙ texts-append (code_run no_run rs).done (rest_of (code_run no_run rs).waits) Nil ∙ sym (texts-join (code_run no_run rs).done Nil (texts_of (rest_of (code_run no_run rs).waits)))

  -- one line more
  pub run-line : (run : Run) (r : Row) → texts_of (code_run run (r ∷ [])).done ≡ join (texts_of run.done) (texts_of (code_line text most r run.waits).done)
  run-line run r = search (rules, append-nil, add-front, texts-append, texts-join)

  pub run-waits : (run : Run) (r : Row) → (code_run run (r ∷ [])).waits ≡ (code_line text most r run.waits).waits
  run-waits run r = search (rules, append-nil, add-front)
