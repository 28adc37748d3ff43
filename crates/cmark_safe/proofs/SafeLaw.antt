-- The HTML of safe events is safe.
use Rattle.std.proofs.Common.{◌≡◌, ℕ, Bool, true, false, not, ◌&&◌, ◌==◌, if◌then◌else◌, true≢false, IfSome, List, [], ◌∷◌, ◌++◌, refl, ap, sym, ◌∙◌, subst}
use Rattle.std.specs.Prelude.{codes, map, Option, Some, None}
use Rattle.std.proofs.lemmas.List.{append_assoc, append-nil}
use Rattle.cmark_grammar.specs.Escapes.{escaped_href}
use Rattle.cmark_grammar.specs.Event.{Event, Start, End, Text, Code, InlineMath, DisplayMath, Html, InlineHtml, FootnoteReference, TaskListMarker}
use Rattle.cmark_grammar.specs.Html.{Writing, OpenImage, TableState, no_table, title_attribute, image_start, image_end, footnote_number, alt_text, piece, moved, moved_all, pieces_from, last_piece, line_start_after, metadata_after, table_after, names_after, names_after_inside, deeper, less_deep}
use Rattle.cmark_grammar.specs.Tag as tag
use Rattle.cmark_safe.specs.SafeHtml.{IsValue, Empty, Byte, IsTitle, Image, IsSafe, Nothing, Tagged, own_prefix}
use Rattle.cmark_safe.specs.SafeEvents.{safe, safe_destination, SafeEventsAreSafe, RefusedSchemesStay}
use Rattle.cmark_safe.specs.Schemes.{is_allowed_scheme, is_allowed_if_any, is_one_of, is_scheme_byte, refused_schemes, scheme_of}
use Rattle.std.specs.List.{list_all}
use Rattle.cmark_safe.proofs.SafeParts.{safe_then, value_then, html_value, decimal_value}
use Rattle.cmark_safe.proofs.SafePieces.{destination_address, title_is, piece_safe}

abbrev state : Bool → Option OpenImage → Bool → TableState → List (List ℕ) → Writing
state l o m t n = record { line_start = l; image = o; in_metadata = m; table = t; names = n }

-- the HTML of events, and of the end of an image that they leave open
abbrev rest : Writing → List Event → List ℕ
rest w es = pieces_from w es ++ last_piece (moved_all w es).image

-- the rest of the HTML inside an image: the end of its alternative text, the end of its tag, and safe HTML
record IsRest (further bytes : List ℕ) : Type 0 where
  alternative : List ℕ
  title : List ℕ
  more : List ℕ
  value : IsValue alternative
  titled : IsTitle title
  is_safe : IsSafe further more
  is : bytes ≡ alternative ++ (codes "\"" ++ (title ++ (codes " />" ++ more)))

rest_then : {further : List ℕ} (front bytes : List ℕ) → IsValue front → IsRest further bytes → IsRest further (front ++ bytes)
rest_then front bytes v r = record {
  alternative = front ++ r.alternative;
  title = r.title;
  more = r.more;
  value = value_then front r.alternative v r.value;
  titled = r.titled;
  is_safe = r.is_safe;
  is = ap (λ b. front ++ b) r.is ∙ sym (append_assoc front r.alternative _);
}

closed : {further : List ℕ} (title more : List ℕ) → IsSafe further more → IsRest further (image_end title ++ more)
closed title more s = record {
  alternative = [];
  title = title_attribute title;
  more = more;
  value = Empty;
  titled = title_is title;
  is_safe = s;
  is = ap (λ b. codes "\"" ++ b) (append_assoc (title_attribute title) (codes " />") more);
}

-- an image's tag with the HTML after its start
opened : (further destination bytes : List ℕ) → IsRest further bytes → IsSafe further (image_start (safe_destination further destination) ++ bytes)
opened further destination bytes r =
    let h : List ℕ = escaped_href (safe_destination further destination) in
    let tail : List ℕ = codes "\"" ++ (r.title ++ codes " />") in
    let ends : (tail ++ r.more) ≡ codes "\"" ++ (r.title ++ (codes " />" ++ r.more)) = ap (λ b. codes "\"" ++ b) (append_assoc r.title (codes " />") r.more) in
    let inside : ((r.alternative ++ tail) ++ r.more) ≡ bytes = append_assoc r.alternative tail r.more ∙ ap (λ b. r.alternative ++ b) ends ∙ sym r.is in
    let whole : ((h ++ (codes "\" alt=\"" ++ (r.alternative ++ tail))) ++ r.more) ≡ ((h ++ codes "\" alt=\"") ++ bytes)
    = append_assoc h (codes "\" alt=\"" ++ (r.alternative ++ tail)) r.more ∙ ap (λ b. h ++ (codes "\" alt=\"" ++ b)) inside ∙ sym (append_assoc h (codes "\" alt=\"") bytes) in
    subst (λ b. IsSafe further (codes "<img src=\"" ++ b)) whole
    (Tagged _ r.more (Image h r.alternative r.title (destination_address further destination) r.value r.titled) r.is_safe)

alt_value : (further : List ℕ) (names : List (List ℕ)) (e : Event) → IsValue (alt_text names (safe further e))
alt_value further names (Start t) = Empty
alt_value further names (End e) = Empty
alt_value further names (Text text) = html_value text
alt_value further names (Code text) = html_value text
alt_value further names (InlineMath text) = Byte 36 _ refl (value_then _ _ (html_value text) (Byte 36 [] refl Empty))
alt_value further names (DisplayMath text) = Byte 36 _ refl (Byte 36 _ refl (value_then _ _ (html_value text) (Byte 36 _ refl (Byte 36 [] refl Empty))))
alt_value further names (Html text) = html_value text
alt_value further names (InlineHtml text) = html_value text
alt_value further names (FootnoteReference label) = Byte 91 _ refl (value_then _ _ (decimal_value (footnote_number names (own_prefix ++ label))) (Byte 93 [] refl Empty))
alt_value further names (TaskListMarker true) = Byte 91 _ refl (Byte 120 _ refl (Byte 93 [] refl Empty))
alt_value further names (TaskListMarker false) = Byte 91 _ refl (Byte 32 _ refl (Byte 93 [] refl Empty))
alt_value further names _ = Byte 32 [] refl Empty

module _ (further : List ℕ) where
  abbrev safes : List Event → List Event
  safes es = map (safe further) es

  abbrev Outside : List Event → Type 0
  Outside es = (l m : Bool) (t : TableState) (n : List (List ℕ)) → IsSafe further (rest (state l None m t n) (safes es))

  abbrev Inside : List Event → Type 0
  Inside es = (l m : Bool) (t : TableState) (n : List (List ℕ)) (image : OpenImage) → IsRest further (rest (state l (Some image) m t n) (safes es))

  -- the rest after one event
  front : (P : List ℕ → Type 0) (w : Writing) (e : Event) (es : List Event) → P (piece w e ++ rest (moved w e) es) → P (rest w (e ∷ es))
  front P w e es p = subst P (sym (append_assoc (piece w e) (pieces_from (moved w e) es) (last_piece (moved_all w (e ∷ es)).image))) p

  step_outside : (e : Event) (es : List Event) → Outside es → Inside es → Outside (e ∷ es)
  step_outside (Start (tag.Image linked)) es o i l m t n = front (IsSafe further) (state l None m t n) (safe further (Start (tag.Image linked))) (safes es)
      (opened further linked.destination _ (i false m t n (record { depth = 0; title = linked.title })))
  step_outside e es o i l m t n = front (IsSafe further) (state l None m t n) (safe further e) (safes es)
      (safe_then _ _ (piece_safe further (state l None m t n) e tt)
      (o (line_start_after (state l None m t n) (safe further e)) (metadata_after m (safe further e)) (table_after t (safe further e)) (names_after n (safe further e))))

  end_choice : (x : Bool) (es : List Event) (image : OpenImage) (m : Bool) (t : TableState) (n : List (List ℕ)) → Outside es → Inside es
      → IsRest further ((if x then image_end image.title else []) ++ rest (state false (if x then None else Some (less_deep image)) m t n) (safes es))
  end_choice true es image m t n o i = closed image.title _ (o false m t n)
  end_choice false es image m t n o i = i false m t n (less_deep image)

  step_inside : (e : Event) (es : List Event) → Outside es → Inside es → Inside (e ∷ es)
  step_inside (End e) es o i l m t n image = front (IsRest further) (state l (Some image) m t n) (safe further (End e)) (safes es)
      (end_choice (image.depth == 0) es image m t n o i)
  step_inside (Start tag) es o i l m t n image = front (IsRest further) (state l (Some image) m t n) (safe further (Start tag)) (safes es)
      (i false m t n (deeper image))
  step_inside e es o i l m t n image = front (IsRest further) (state l (Some image) m t n) (safe further e) (safes es)
      (rest_then _ _ (alt_value further n e) (i false m t (names_after_inside n (safe further e)) image))

  both : (es : List Event) → Outside es × Inside es
  both [] = ((λ l m t n. Nothing), (λ l m t n image. subst (IsRest further) (append-nil (image_end image.title)) (closed image.title [] Nothing)))
  both (e ∷ es) = let others : Outside es × Inside es = both es in
      (step_outside e es others.0 others.1, step_inside e es others.0 others.1)

pub safe_events_are_safe : SafeEventsAreSafe
safe_events_are_safe further es = (both further es).0 true false no_table []

-- no scheme that is allowed is refused
allowed_not_refused : (further name : List ℕ) → is_allowed_scheme further name ≡ true → is_one_of refused_schemes name ≡ false
allowed_not_refused further name h = not_refused (list_all is_scheme_byte name) (is_one_of refused_schemes name) _ h
  where
    not_refused : (x y z : Bool) → (x && (not y && z)) ≡ true → y ≡ false
    not_refused true false z h = refl
    not_refused true true z h = absurd (true≢false (sym h))
    not_refused false y z h = absurd (true≢false (sym h))

of_any : (further : List ℕ) (scheme : Option (List ℕ)) → is_allowed_if_any further scheme ≡ true → IfSome scheme (λ name. is_one_of refused_schemes name ≡ false)
of_any further None h = tt
of_any further (Some name) h = allowed_not_refused further name h

pub refused_schemes_stay : RefusedSchemesStay
refused_schemes_stay further address h = of_any further (scheme_of address) h
