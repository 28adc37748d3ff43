-- Merged texts have the same HTML as the texts.
use Rattle.std.proofs.Common.{◌≡◌, ℕ, ◌-◌, suc, Bool, true, false, List, [], ◌∷◌, ◌++◌, length, drop, map, Option, Some, None, nat_eq, refl, sym, ap, ap₂, ◌∙◌, append_assoc, append-nil, arith}
use Rattle.std.proofs.lemmas.Grind.{flat_map-append}
use Rattle.std.proofs.lemmas.List.{map-append}
use Rattle.std.specs.Cmp.Lexicographic.{pointwise}
use Rattle.cmark_grammar.specs.Escapes.{body_text_byte, html_byte}
use Rattle.cmark_grammar.specs.Event.{Event, Text}
use Rattle.cmark_grammar.specs.Html.{OpenImage, TableState, Writing, at_line_start, ends_in_line_feed, html, last_piece, moved, moved_all, piece, pieces_from}
use Rattle.cmark_merge.specs.Merge.{TextAt, event_of, merge_after, merge_events, merged_run, text_of_event, texts, unless_empty, IsNoEmptyText, NoEmptyTexts}

-- the last byte of a text is the last byte after its first one, if there are more
last-following : (x c : ℕ) (cs : List ℕ) → ends_in_line_feed (x ∷ c ∷ cs) ≡ ends_in_line_feed (c ∷ cs)
last-following x c cs =
    let less : length (x ∷ c ∷ cs) - 1 ≡ suc (length (c ∷ cs) - 1) = omega arith in
    ap (λ n. pointwise nat_eq (10 ∷ []) (drop n (x ∷ c ∷ cs))) less

line_feed-append : (a : List ℕ) (c : ℕ) (cs : List ℕ) → ends_in_line_feed (a ++ c ∷ cs) ≡ ends_in_line_feed (c ∷ cs)
line_feed-append [] c cs = refl
line_feed-append (x ∷ []) c cs = last-following x c cs
line_feed-append (x ∷ y ∷ a) c cs = last-following x y (a ++ c ∷ cs) ∙ line_feed-append (y ∷ a) c cs

-- the HTML that is written from a state on
abbrev html_from : Writing → List Event → List ℕ
html_from w es = pieces_from w es ++ last_piece (moved_all w es).image

abbrev state : Bool → Option OpenImage → Bool → TableState → List (List ℕ) → Writing
state l i m t n = record { line_start = l; image = i; in_metadata = m; table = t; names = n }

module _ (l : Bool) (t : TableState) (n : List (List ℕ)) (a : List ℕ) (c : ℕ) (cs : List ℕ) where
  two-pieces : (i : Option OpenImage) (m : Bool)
      → piece (state l i m t n) (Text a) ++ piece (moved (state l i m t n) (Text a)) (Text (c ∷ cs)) ≡ piece (state l i m t n) (Text (a ++ c ∷ cs))
  two-pieces None true = refl
  two-pieces None false = sym (flat_map-append body_text_byte a (c ∷ cs))
  two-pieces (Some image) m = sym (flat_map-append html_byte a (c ∷ cs))

  two-moved : (i : Option OpenImage) (m : Bool)
      → moved (moved (state l i m t n) (Text a)) (Text (c ∷ cs)) ≡ moved (state l i m t n) (Text (a ++ c ∷ cs))
  two-moved None true = refl
  two-moved None false = ap (λ at_start. state at_start None false t n) (sym (line_feed-append a c cs))
  two-moved (Some image) m = refl

html_from-step : (w : Writing) (e : Event) (es : List Event) → html_from w (e ∷ es) ≡ piece w e ++ html_from (moved w e) es
html_from-step w e es = append_assoc (piece w e) (pieces_from (moved w e) es) (last_piece (moved_all (moved w e) es).image)

-- two texts, the second of which is not empty
html_from-two : (w : Writing) (a : List ℕ) (c : ℕ) (cs : List ℕ) (es : List Event) → html_from w (Text a ∷ Text (c ∷ cs) ∷ es) ≡ html_from w (Text (a ++ c ∷ cs) ∷ es)
html_from-two w a c cs es =
    let first = moved w (Text a) in
    html_from-step w (Text a) (Text (c ∷ cs) ∷ es)
    ∙ ap (λ rest. piece w (Text a) ++ rest) (html_from-step first (Text (c ∷ cs)) es)
    ∙ sym (append_assoc (piece w (Text a)) (piece first (Text (c ∷ cs))) (html_from (moved first (Text (c ∷ cs))) es))
    ∙ ap₂ (λ p v. p ++ html_from v es) (two-pieces w.line_start w.table w.names a c cs w.image w.in_metadata) (two-moved w.line_start w.table w.names a c cs w.image w.in_metadata)
    ∙ sym (html_from-step w (Text (a ++ c ∷ cs)) es)

-- the events that follow may be replaced by others with the same HTML
html_from-following : (w : Writing) (xs ys zs : List Event) → ((v : Writing) → html_from v ys ≡ html_from v zs) → html_from w (xs ++ ys) ≡ html_from w (xs ++ zs)
html_from-following w [] ys zs same = same w
html_from-following w (x ∷ xs) ys zs same =
    html_from-step w x (xs ++ ys) ∙ ap (λ rest. piece w x ++ rest) (html_from-following (moved w x) xs ys zs same) ∙ sym (html_from-step w x (xs ++ zs))

-- the texts of a run are not empty
abbrev NoneEmpty : List TextAt → Type 0
NoneEmpty ts = NoEmptyTexts (map event_of ts)

two-by : (w : Writing) (a b : List ℕ) (es : List Event) → IsNoEmptyText (Text b) → html_from w (Text a ∷ Text b ∷ es) ≡ html_from w (Text (a ++ b) ∷ es)
two-by w a [] es h = absurd h
two-by w a (c ∷ cs) es h = html_from-two w a c cs es

many : (w : Writing) (a : List ℕ) (us : List TextAt) (es : List Event) → NoneEmpty us → html_from w (Text a ∷ (map event_of us ++ es)) ≡ html_from w (Text (a ++ texts us) ∷ es)
many w a [] es h = ap (λ text. html_from w (Text text ∷ es)) (sym (append-nil a))
many w a (u ∷ us) es h =
    two-by w a u.text (map event_of us ++ es) h.0 ∙ many w (a ++ u.text) us es h.1
    ∙ ap (λ text. html_from w (Text text ∷ es)) (append_assoc a u.text (texts us))

not-empty : (a b : List ℕ) → IsNoEmptyText (Text a) → unless_empty (a ++ b) (Text (a ++ b)) ≡ Text (a ++ b) ∷ []
not-empty [] b h = absurd h
not-empty (c ∷ cs) b h = refl

one-run : (w : Writing) (run : List TextAt) (es : List Event) → NoneEmpty run → html_from w (merged_run event_of run ++ es) ≡ html_from w (map event_of run ++ es)
one-run w [] es h = refl
one-run w (t ∷ []) es h = refl
one-run w (t ∷ u ∷ us) es h = ap (λ l. html_from w (l ++ es)) (not-empty t.text (texts (u ∷ us)) h.0) ∙ sym (many w t.text (u ∷ us) es h.1)

none-more : (run : List TextAt) (text : List ℕ) → NoneEmpty run → IsNoEmptyText (Text text) → NoneEmpty (run ++ record { text = text; start = 0; end = 0 } ∷ [])
none-more [] text h k = (k, tt)
none-more (t ∷ run) text h k = (h.0, none-more run text h.1 k)

merge-html : (w : Writing) (run : List TextAt) (es : List Event) → NoneEmpty run → NoEmptyTexts es
    → html_from w (merge_after text_of_event event_of run es) ≡ html_from w (map event_of run ++ es)
merge-html w run [] h k = ap (λ l. html_from w l) (sym (append-nil (merged_run event_of run))) ∙ one-run w run [] h
merge-html w run (Text text ∷ es) h k =
    let t : TextAt = record { text = text; start = 0; end = 0 } in
    merge-html w (run ++ t ∷ []) es (none-more run text h k.0) k.1
    ∙ ap (λ l. html_from w l) (ap (λ l. l ++ es) (map-append event_of run (t ∷ [])) ∙ append_assoc (map event_of run) (Text text ∷ []) es)
merge-html w run (e ∷ es) h k =
    one-run w run (e ∷ merge_events es) h
    ∙ html_from-following w (map event_of run) (e ∷ merge_events es) (e ∷ es)
    (λ v. html_from-step v e (merge_events es) ∙ ap (λ rest. piece v e ++ rest) (merge-html (moved v e) [] es tt k.1) ∙ sym (html_from-step v e es))

pub html-merged : (es : List Event) → NoEmptyTexts es → html (merge_events es) ≡ html es
html-merged es k = merge-html at_line_start [] es tt k
