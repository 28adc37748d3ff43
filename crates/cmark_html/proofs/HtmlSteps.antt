-- The HTML of one more event.
use Rattle.std.proofs.Common.{◌≡◌, ℕ, List, [], ◌∷◌, ◌++◌, refl, sym, ap, ◌∙◌, append_assoc, append-nil, subst, map, Result, Ok}
use Rattle.std.proofs.lemmas.List.{map_push}
use Rattle.cmark_grammar.specs.Event.{Event as GrammarEvent}
use Rattle.cmark_grammar.specs.Html.{Writing, at_line_start, piece, moved, moved_all, pieces_from, pieces, last_piece, html}
use Rattle.cmark_text.specs.declared.event.Event.{Event}
use Rattle.cmark_text.specs.Appended.{AppendsFront}
use Rattle.cmark_text.specs.Shown.{shown}
use Rattle.cmark_html.proofs.FrontSteps.{front_after}

pieces_from-more : (w : Writing) (es : List GrammarEvent) (e : GrammarEvent) → pieces_from w (es ++ e ∷ []) ≡ pieces_from w es ++ piece (moved_all w es) e
pieces_from-more w [] e = append-nil (piece w e)
pieces_from-more w (x ∷ es) e = ap (λ l. piece w x ++ l) (pieces_from-more (moved w x) es e) ∙ sym (append_assoc (piece w x) (pieces_from (moved w x) es) (piece (moved_all (moved w x) es) e))

moved_all-more : (w : Writing) (es : List GrammarEvent) (e : GrammarEvent) → moved_all w (es ++ e ∷ []) ≡ moved (moved_all w es) e
moved_all-more w [] e = refl
moved_all-more w (x ∷ es) e = moved_all-more (moved w x) es e

-- events, and others after them
pub pieces_from-joined : (w : Writing) (xs ys : List GrammarEvent) → pieces_from w (xs ++ ys) ≡ pieces_from w xs ++ pieces_from (moved_all w xs) ys
pieces_from-joined w [] ys = refl
pieces_from-joined w (x ∷ xs) ys = ap (λ l. piece w x ++ l) (pieces_from-joined (moved w x) xs ys) ∙ sym (append_assoc (piece w x) (pieces_from (moved w x) xs) (pieces_from (moved_all (moved w x) xs) ys))

pub moved_all-joined : (w : Writing) (xs ys : List GrammarEvent) → moved_all w (xs ++ ys) ≡ moved_all (moved_all w xs) ys
moved_all-joined w [] ys = refl
moved_all-joined w (x ∷ xs) ys = moved_all-joined (moved w x) xs ys

-- events of the grammar, and one more
module _ (w : Writing) (es : List GrammarEvent) (e : GrammarEvent) (state : w ≡ moved_all at_line_start es) where
  piece-on : pieces es ++ piece w e ≡ pieces (es ++ e ∷ [])
  piece-on = ap (λ v. pieces es ++ piece v e) state ∙ sym (pieces_from-more at_line_start es e)

  -- the state after one more event
  pub kept_on : (next : Writing) → next ≡ moved w e → next ≡ moved_all at_line_start (es ++ e ∷ [])
  kept_on next is = is ∙ ap (λ v. moved v e) state ∙ sym (moved_all-more at_line_start es e)

  -- the bytes after one more event
  pub written_on : (old mid new : List ℕ) → mid ≡ old ++ pieces es → new ≡ mid ++ piece w e → new ≡ old ++ pieces (es ++ e ∷ [])
  written_on old mid new before more = more ∙ ap (λ l. l ++ piece w e) before ∙ append_assoc old (pieces es) (piece w e) ∙ ap (λ l. old ++ l) piece-on

  -- the bytes if only a beginning of the event's HTML was appended
  pub front_on : (old mid new : List ℕ) → mid ≡ old ++ pieces es → AppendsFront mid new (piece w e) → AppendsFront old new (pieces (es ++ e ∷ []))
  front_on old mid new before front = subst (AppendsFront old new) piece-on (front_after old mid new (pieces es) (piece w e) before front)

-- after the last event
module _ (w : Writing) (es : List GrammarEvent) (old mid new : List ℕ) (before : mid ≡ old ++ pieces es) (state : w ≡ moved_all at_line_start es) where
  pub written_end : new ≡ mid ++ last_piece w.image → new ≡ old ++ html es
  written_end more = more ∙ ap (λ l. l ++ last_piece w.image) before ∙ append_assoc old (pieces es) (last_piece w.image) ∙ ap (λ v. old ++ (pieces es ++ last_piece (Writing.image v))) state

  pub front_end : AppendsFront mid new (last_piece w.image) → AppendsFront old new (html es)
  front_end front = subst (λ v. AppendsFront old new (pieces es ++ last_piece (Writing.image v))) state (front_after old mid new (pieces es) (last_piece w.image) before front)

-- these lemmas for events as the code has them
module _ (w : Writing) (es : List Event) (e : Event) where
  shown-more : map shown (es ++ e ∷ []) ≡ map shown es ++ shown e ∷ []
  shown-more = map_push shown es e

  pub kept_more : (next : Writing) → w ≡ moved_all at_line_start (map shown es) → next ≡ moved w (shown e) → next ≡ moved_all at_line_start (map shown (es ++ e ∷ []))
  kept_more next state is = kept_on w (map shown es) (shown e) state next is ∙ ap (moved_all at_line_start) (sym shown-more)

  pub written_more : (old mid new : List ℕ) → mid ≡ old ++ pieces (map shown es) → w ≡ moved_all at_line_start (map shown es) → new ≡ mid ++ piece w (shown e) → new ≡ old ++ pieces (map shown (es ++ e ∷ []))
  written_more old mid new before state more = written_on w (map shown es) (shown e) state old mid new before more ∙ ap (λ l. old ++ pieces l) (sym shown-more)

  pub front_more : (old mid new : List ℕ) → mid ≡ old ++ pieces (map shown es) → w ≡ moved_all at_line_start (map shown es) → AppendsFront mid new (piece w (shown e)) → AppendsFront old new (pieces (map shown (es ++ e ∷ [])))
  front_more old mid new before state front = subst (λ l. AppendsFront old new (pieces l)) (sym shown-more) (front_on w (map shown es) (shown e) state old mid new before front)

-- the items given, with one more event
pub given_more : {E : Type 0} (items : List (Result Event E)) (item : Result Event E) (es : List Event) (e : Event) → items ≡ map Ok es → item ≡ Ok e → items ++ item ∷ [] ≡ map Ok (es ++ e ∷ [])
given_more items item es e p q = ap (λ l. l ++ item ∷ []) p ∙ ap (λ z. map Ok es ++ z ∷ []) q ∙ sym (map_push Ok es e)
