-- More text after a text in which a definition has ended.
use Rattle.std.proofs.Common.{◌≡◌, ℕ, ◌+◌, Bool, true, false, ◌==◌, ◌&&◌, ◌||◌, not, cond, List, [], ◌∷◌, ◌++◌, length, drop, take_while, Option, Some, None, option_map, refl, sym, ap, ◌∙◌, subst, arith, true≢false, length-append}
use Rattle.std.specs.Prelude.{if◌then◌else◌, nat_lt}
use Rattle.std.proofs.lemmas.List.Sums.{take_while-cons}
use Rattle.std.proofs.lemmas.Option.{same_Some}
use Rattle.cmark_grammar.specs.Columns.{is_blank_byte}
use Rattle.cmark_grammar.specs.Leaves.{is_empty}
use Rattle.cmark_grammar.specs.Letters.{first_is}
use Rattle.cmark_grammar.specs.LinkDefinitions.{Parsed, Defined, put, escapes_next, up_to, is_label, label_if, label_in, ends_bare, depth_after, bare_in, nonempty, destination_in, title_in, after_leading_blanks, after_next_line, after_separator, at_end, is_line_done, defined, untitled, titled, with_destination, after_colon, with_label, definition_in}
use Rattle.cmark_grammar.specs.Tags.{after_ending, after_line_feed}
use Rattle.cmark_link_definitions.specs.Settled.{read_before, defined_before, IsSettled, ends_in, title_ends, end_settles, lacks_colon, settles_as, settles}

module _ (more : List ℕ) where
  -- the part read up to a byte
  put-before : (b : ℕ) (o : Option Parsed) → put b (option_map (read_before more) o) ≡ option_map (read_before more) (put b o)
  put-before b None = refl
  put-before b (Some f) = refl

  up_to-before : (escaped : Bool) (closer refused : ℕ) (over : Bool) (bs : List ℕ) (f : Parsed) → up_to escaped closer refused over bs ≡ Some f → up_to escaped closer refused over (bs ++ more) ≡ Some (read_before more f)
  up_to-before escaped closer refused over [] f e = absurd (let q : None ≡ Some f = e in cc)
  up_to-before escaped closer refused over (b ∷ bs) f e =
      go (not escaped && (b == closer)) ((not escaped && (b == refused)) || (not over && ((b == 10) || (b == 13)))) (up_to (escapes_next escaped b) closer refused over bs) e
      (λ g s. up_to-before (escapes_next escaped b) closer refused over bs g s)
    where
      go : (x y : Bool) (o : Option Parsed) → (if x then Some (record { bytes = []; following = bs }) else if y then None else put b o) ≡ Some f →
          ((g : Parsed) → o ≡ Some g → up_to (escapes_next escaped b) closer refused over (bs ++ more) ≡ Some (read_before more g)) →
          (if x then Some (record { bytes = []; following = bs ++ more }) else if y then None else put b (up_to (escapes_next escaped b) closer refused over (bs ++ more))) ≡ Some (read_before more f)
      go true y o q ih = ap {A = Parsed} {B = Option Parsed} (λ g. Some (read_before more g)) (same_Some _ f q)
      go false true o q ih = absurd (let z : None ≡ Some f = q in cc)
      go false false None q ih = absurd (let z : None ≡ Some f = q in cc)
      go false false (Some g) q ih = ap (put b) (ih g refl) ∙ ap {A = Parsed} {B = Option Parsed} (λ h. Some (read_before more h)) (same_Some _ f q)

  up_to-settled : (escaped : Bool) (closer refused : ℕ) (bs : List ℕ) → ends_in escaped closer refused bs ≡ true → up_to escaped closer refused true (bs ++ more) ≡ option_map (read_before more) (up_to escaped closer refused true bs)
  up_to-settled escaped closer refused [] e = absurd (true≢false (sym e))
  up_to-settled escaped closer refused (b ∷ bs) e = go (not escaped) (b == closer) (b == refused) e (up_to-settled (escapes_next escaped b) closer refused bs)
    where
      now : Option Parsed
      now = up_to (escapes_next escaped b) closer refused true bs

      later : Option Parsed
      later = up_to (escapes_next escaped b) closer refused true (bs ++ more)

      go : (n x y : Bool) → (if n && (x || y) then true else ends_in (escapes_next escaped b) closer refused bs) ≡ true →
          (ends_in (escapes_next escaped b) closer refused bs ≡ true → later ≡ option_map (read_before more) now) →
          (if n && x then Some (record { bytes = []; following = bs ++ more }) else if (n && y) || (not true && ((b == 10) || (b == 13))) then None else put b later)
          ≡ option_map (read_before more) (if n && x then Some (record { bytes = []; following = bs }) else if (n && y) || (not true && ((b == 10) || (b == 13))) then None else put b now)
      go true true y q ih = refl
      go true false true q ih = refl
      go true false false q ih = ap (put b) (ih q) ∙ put-before b now
      go false x y q ih = ap (put b) (ih q) ∙ put-before b now

  -- labels
  label-if-before : (o : Option Parsed) → label_if (option_map (read_before more) o) ≡ option_map (read_before more) (label_if o)
  label-if-before None = refl
  label-if-before (Some f) = go (is_label f.bytes)
    where
      go : (z : Bool) → (if z then Some (read_before more f) else None) ≡ option_map (read_before more) (if z then Some f else None)
      go true = refl
      go false = refl

  label-settled : (bs : List ℕ) → ends_in false 93 91 bs ≡ true → label_in (bs ++ more) ≡ option_map (read_before more) (label_in bs)
  label-settled bs e = ap label_if (up_to-settled false 93 91 bs e) ∙ label-if-before (up_to false 93 91 true bs)

  label-before : (bs : List ℕ) (f : Parsed) → label_in bs ≡ Some f → label_in (bs ++ more) ≡ Some (read_before more f)
  label-before bs f e = go (up_to false 93 91 true bs) refl e
    where
      go : (o : Option Parsed) → up_to false 93 91 true bs ≡ o → label_if o ≡ Some f → label_in (bs ++ more) ≡ Some (read_before more f)
      go None s q = absurd (let z : None ≡ Some f = q in cc)
      go (Some g) s q = ap label_if (up_to-before false 93 91 true bs g s) ∙ label-if-before (Some g) ∙ ap (option_map (read_before more)) q

  -- destinations
  bare-before : (escaped : Bool) (depth : ℕ) (bs : List ℕ) (f : Parsed) (x : ℕ) (xs : List ℕ) → bare_in escaped depth bs ≡ Some f → f.following ≡ x ∷ xs → bare_in escaped depth (bs ++ more) ≡ Some (read_before more f)
  bare-before escaped depth [] f x xs e some = go (depth == 0) e
    where
      go : (z : Bool) → (if z then Some (record { bytes = []; following = [] }) else None) ≡ Some f → bare_in escaped depth more ≡ Some (read_before more f)
      go true q = absurd (let z : [] ≡ x ∷ xs = ap {A = Parsed} {B = List ℕ} (λ g. g.following) (same_Some _ f q) ∙ some in cc)
      go false q = absurd (let z : None ≡ Some f = q in cc)
  bare-before escaped depth (b ∷ bs) f x xs e some =
      go (ends_bare b || (not escaped && ((b == 41) && (depth == 0)))) (depth == 0) _ (bare_in (escapes_next escaped b) (depth_after escaped depth b) bs) e
      (λ g s t. bare-before (escapes_next escaped b) (depth_after escaped depth b) bs g x xs s t)
    where
      later : Option Parsed
      later = bare_in (escapes_next escaped b) (depth_after escaped depth b) (bs ++ more)

      go : (p q r : Bool) (o : Option Parsed) → (if p then (if q then Some (record { bytes = []; following = b ∷ bs }) else None) else if r then None else put b o) ≡ Some f →
          ((g : Parsed) → o ≡ Some g → g.following ≡ x ∷ xs → later ≡ Some (read_before more g)) →
          (if p then (if q then Some (record { bytes = []; following = b ∷ (bs ++ more) }) else None) else if r then None else put b later) ≡ Some (read_before more f)
      go true true r o h ih = ap {A = Parsed} {B = Option Parsed} (λ g. Some (read_before more g)) (same_Some _ f h)
      go true false r o h ih = absurd (let z : None ≡ Some f = h in cc)
      go false q true o h ih = absurd (let z : None ≡ Some f = h in cc)
      go false q false None h ih = absurd (let z : None ≡ Some f = h in cc)
      go false q false (Some g) h ih =
          let same : record { bytes = b ∷ g.bytes; following = g.following } ≡ f = same_Some _ f h in
          ap (put b) (ih g refl (ap {A = Parsed} {B = List ℕ} (λ k. k.following) same ∙ some)) ∙ ap {A = Parsed} {B = Option Parsed} (λ k. Some (read_before more k)) same

  destination-before : (bs : List ℕ) (f : Parsed) (x : ℕ) (xs : List ℕ) → destination_in bs ≡ Some f → f.following ≡ x ∷ xs → destination_in (bs ++ more) ≡ Some (read_before more f)
  destination-before [] f x xs e some = absurd (let z : None ≡ Some f = e in cc)
  destination-before (b ∷ bs) f x xs e some = go (b == 60) e
    where
      full : (o : Option Parsed) → bare_in false 0 (b ∷ bs) ≡ o → nonempty o ≡ Some f → nonempty (bare_in false 0 (b ∷ (bs ++ more))) ≡ Some (read_before more f)
      full None s q = absurd (let z : None ≡ Some f = q in cc)
      full (Some g) s q = pick (is_empty g.bytes) refl q
        where
          pick : (z : Bool) → is_empty g.bytes ≡ z → (if z then None else Some g) ≡ Some f → nonempty (bare_in false 0 (b ∷ (bs ++ more))) ≡ Some (read_before more f)
          pick true t q = absurd (let z : None ≡ Some f = q in cc)
          pick false t q =
              ap nonempty (bare-before false 0 (b ∷ bs) g x xs s (ap {A = Parsed} {B = List ℕ} (λ k. k.following) (same_Some g f q) ∙ some))
              ∙ ap {A = Bool} {B = Option Parsed} (λ z. if z then None else Some (read_before more g)) t
              ∙ ap {A = Parsed} {B = Option Parsed} (λ k. Some (read_before more k)) (same_Some g f q)

      go : (z : Bool) → (if z then up_to false 62 60 false bs else nonempty (bare_in false 0 (b ∷ bs))) ≡ Some f →
          (if z then up_to false 62 60 false (bs ++ more) else nonempty (bare_in false 0 (b ∷ (bs ++ more)))) ≡ Some (read_before more f)
      go true q = up_to-before false 62 60 false bs f q
      go false q = full (bare_in false 0 (b ∷ bs)) refl q

  -- titles
  title-before : (bs : List ℕ) (f : Parsed) → title_in bs ≡ Some f → title_in (bs ++ more) ≡ Some (read_before more f)
  title-before [] f e = absurd (let z : None ≡ Some f = e in cc)
  title-before (b ∷ bs) f e = go ((b == 34) || (b == 39)) (b == 40) e
    where
      go : (x y : Bool) → (if x then up_to false b b true bs else if y then up_to false 41 40 true bs else None) ≡ Some f →
          (if x then up_to false b b true (bs ++ more) else if y then up_to false 41 40 true (bs ++ more) else None) ≡ Some (read_before more f)
      go true y q = up_to-before false b b true bs f q
      go false true q = up_to-before false 41 40 true bs f q
      go false false q = absurd (let z : None ≡ Some f = q in cc)

  title-settled : (bs : List ℕ) → title_ends bs ≡ true → title_in (bs ++ more) ≡ option_map (read_before more) (title_in bs)
  title-settled [] e = absurd (true≢false (sym e))
  title-settled (b ∷ bs) e = go ((b == 34) || (b == 39)) (b == 40) e
    where
      go : (x y : Bool) → (if x then ends_in false b b bs else if y then ends_in false 41 40 bs else true) ≡ true →
          (if x then up_to false b b true (bs ++ more) else if y then up_to false 41 40 true (bs ++ more) else None)
          ≡ option_map (read_before more) (if x then up_to false b b true bs else if y then up_to false 41 40 true bs else None)
      go true y q = up_to-settled false b b bs q
      go false true q = up_to-settled false 41 40 bs q
      go false false q = refl

  -- blanks
  blanks-cons : (b : ℕ) (bs : List ℕ) → after_leading_blanks (b ∷ bs) ≡ cond (is_blank_byte b) (after_leading_blanks bs) (b ∷ bs)
  blanks-cons b bs = ap (λ l. drop (length l) (b ∷ bs)) (take_while-cons is_blank_byte b bs) ∙ go (is_blank_byte b)
    where
      go : (z : Bool) → drop (length (cond z (b ∷ take_while is_blank_byte bs) [])) (b ∷ bs) ≡ cond z (after_leading_blanks bs) (b ∷ bs)
      go true = refl
      go false = refl

  blanks-before : (bs : List ℕ) (x : ℕ) (xs : List ℕ) → after_leading_blanks bs ≡ x ∷ xs → after_leading_blanks (bs ++ more) ≡ x ∷ (xs ++ more)
  blanks-before [] x xs e = absurd (let z : [] ≡ x ∷ xs = e in cc)
  blanks-before (b ∷ bs) x xs e = blanks-cons b (bs ++ more) ∙ go (is_blank_byte b) (sym (blanks-cons b bs) ∙ e) (blanks-before bs x xs)
    where
      go : (z : Bool) → cond z (after_leading_blanks bs) (b ∷ bs) ≡ x ∷ xs → (after_leading_blanks bs ≡ x ∷ xs → after_leading_blanks (bs ++ more) ≡ x ∷ (xs ++ more)) → cond z (after_leading_blanks (bs ++ more)) (b ∷ (bs ++ more)) ≡ x ∷ (xs ++ more)
      go true q ih = ih q
      go false q ih = ap (λ l. l ++ more) q

  -- after a line ending that something follows
  feed-before : (bs : List ℕ) (x : ℕ) (xs : List ℕ) → after_leading_blanks (after_line_feed bs) ≡ x ∷ xs → after_leading_blanks (after_line_feed (bs ++ more)) ≡ x ∷ (xs ++ more)
  feed-before [] x xs e = absurd (let z : [] ≡ x ∷ xs = e in cc)
  feed-before (b ∷ bs) x xs e = go (b == 10) e
    where
      go : (p : Bool) → after_leading_blanks (if p then bs else b ∷ bs) ≡ x ∷ xs → after_leading_blanks (if p then bs ++ more else b ∷ (bs ++ more)) ≡ x ∷ (xs ++ more)
      go true s = blanks-before bs x xs s
      go false s = blanks-before (b ∷ bs) x xs s

  line-before : (y : ℕ) (ys : List ℕ) (x : ℕ) (xs : List ℕ) → after_next_line (y ∷ ys) (after_ending (y ∷ ys)) ≡ x ∷ xs
      → after_next_line (y ∷ (ys ++ more)) (after_ending (y ∷ (ys ++ more))) ≡ x ∷ (xs ++ more)
  line-before y ys x xs e = go (y == 10) (y == 13) e
    where
      go : (p q : Bool) → after_next_line (y ∷ ys) (if p then Some ys else if q then Some (after_line_feed ys) else None) ≡ x ∷ xs
          → after_next_line (y ∷ (ys ++ more)) (if p then Some (ys ++ more) else if q then Some (after_line_feed (ys ++ more)) else None) ≡ x ∷ (xs ++ more)
      go true q s = blanks-before ys x xs s
      go false true s = feed-before ys x xs s
      go false false s = ap (λ l. l ++ more) s

  -- if something follows a separator, something follows the blanks
  some-blanks : (bs : List ℕ) (x : ℕ) (xs : List ℕ) → after_separator bs ≡ x ∷ xs → (y : ℕ) × (ys : List ℕ) × (after_leading_blanks bs ≡ y ∷ ys)
  some-blanks bs x xs e = go (after_leading_blanks bs) e
    where
      go : (l : List ℕ) → after_next_line l (after_ending l) ≡ x ∷ xs → (y : ℕ) × (ys : List ℕ) × (l ≡ y ∷ ys)
      go [] s = absurd (let z : [] ≡ x ∷ xs = s in cc)
      go (y ∷ ys) s = (y, ys, refl)

  separator-before : (bs : List ℕ) (x : ℕ) (xs : List ℕ) → after_separator bs ≡ x ∷ xs → after_separator (bs ++ more) ≡ x ∷ (xs ++ more)
  separator-before bs x xs e =
      let s = some-blanks bs x xs e in
      ap (λ l. after_next_line l (after_ending l)) (blanks-before bs s.0 s.1 s.2)
      ∙ line-before s.0 s.1 x xs (ap (λ l. after_next_line l (after_ending l)) (sym s.2) ∙ e)

  done-before : (bs : List ℕ) (x : ℕ) (xs : List ℕ) → after_leading_blanks bs ≡ x ∷ xs → is_line_done (bs ++ more) ≡ is_line_done bs
  done-before bs x xs e = ap at_end (blanks-before bs x xs e) ∙ ap at_end (sym e)

  undone-before : (bs : List ℕ) → is_line_done bs ≡ false → is_line_done (bs ++ more) ≡ false
  undone-before bs e = go (after_leading_blanks bs) refl
    where
      go : (l : List ℕ) → after_leading_blanks bs ≡ l → is_line_done (bs ++ more) ≡ false
      go [] s = absurd (true≢false (ap at_end (sym s) ∙ e))
      go (x ∷ xs) s = done-before bs x xs s ∙ e

  -- something follows the part that was read
  some-following : (bs : List ℕ) (x : ℕ) (xs : List ℕ) → after_separator bs ≡ x ∷ xs → (y : ℕ) × (ys : List ℕ) × (bs ≡ y ∷ ys)
  some-following [] x xs e = absurd (let z : [] ≡ x ∷ xs = e in cc)
  some-following (b ∷ bs) x xs e = (b, bs, refl)

  untitled-before : (label : List ℕ) (d : Parsed) → is_line_done (d.following ++ more) ≡ is_line_done d.following → untitled label (read_before more d) ≡ option_map (defined_before more) (untitled label d)
  untitled-before label d e = ap {A = Bool} {B = Option Defined} (λ z. if z then Some (defined label d.bytes None (d.following ++ more)) else None) e ∙ go (is_line_done d.following)
    where
      go : (z : Bool) → (if z then Some (defined label d.bytes None (d.following ++ more)) else None) ≡ option_map (defined_before more) (if z then Some (defined label d.bytes None d.following) else None)
      go true = refl
      go false = refl

  untitled-settles : (label : List ℕ) (d : Parsed) (found : Defined) → untitled label d ≡ Some found → end_settles found.definition.title found.following ≡ true → title_ends (after_separator d.following) ≡ true
  untitled-settles label d found e s = go (is_line_done d.following) e
    where
      go : (z : Bool) → (if z then Some (defined label d.bytes None d.following) else None) ≡ Some found → title_ends (after_separator d.following) ≡ true
      go true q = subst (λ (f : Defined). end_settles f.definition.title f.following ≡ true) (sym (same_Some _ found q)) s
      go false q = absurd (let z : None ≡ Some found = q in cc)

  some-ends : (bs : List ℕ) → title_ends bs ≡ true → (x : ℕ) × (xs : List ℕ) × (bs ≡ x ∷ xs)
  some-ends [] e = absurd (true≢false (sym e))
  some-ends (x ∷ xs) e = (x, xs, refl)

  some-title : (bs : List ℕ) (t : Parsed) → title_in bs ≡ Some t → (x : ℕ) × (xs : List ℕ) × (bs ≡ x ∷ xs)
  some-title [] t e = absurd (let z : None ≡ Some t = e in cc)
  some-title (x ∷ xs) t e = (x, xs, refl)

  some-full : (bs : List ℕ) → not (is_empty (after_leading_blanks bs)) ≡ true → (x : ℕ) × (xs : List ℕ) × (after_leading_blanks bs ≡ x ∷ xs)
  some-full bs e = go (after_leading_blanks bs) refl e
    where
      go : (l : List ℕ) → after_leading_blanks bs ≡ l → not (is_empty l) ≡ true → (x : ℕ) × (xs : List ℕ) × (after_leading_blanks bs ≡ x ∷ xs)
      go [] s q = absurd (true≢false (sym q))
      go (x ∷ xs) s q = (x, xs, s)

  longer : (cs bs : List ℕ) → nat_lt (length (cs ++ more)) (length (bs ++ more)) ≡ nat_lt (length cs) (length bs)
  longer cs bs =
      ap (λ n. nat_lt n (length (bs ++ more))) (length-append cs more) ∙ ap (λ n. nat_lt (length cs + length more) n) (length-append bs more)
      ∙ same (length cs) (length bs) (length more)
    where
      same : (a b n : ℕ) → nat_lt (a + n) (b + n) ≡ nat_lt a b
      same a b n = grind (arith)

  -- after a destination
  abbrev Titles : (label : List ℕ) → Parsed → Defined → Type 0
  Titles label d found =
      (titled label (read_before more d) (title_in (after_separator (d.following ++ more))) ≡ Some (defined_before more found))
      × ((y : ℕ) × (ys : List ℕ) × (d.following ≡ y ∷ ys))

  -- without a title, if none follows
  untitled-goes : (label : List ℕ) (d : Parsed) (found : Defined) (x : ℕ) (xs : List ℕ) → after_separator d.following ≡ x ∷ xs → untitled label d ≡ Some found →
      untitled label (read_before more d) ≡ Some (defined_before more found)
  untitled-goes label d found x xs some e =
      let s = some-blanks d.following x xs some in
      untitled-before label d (done-before d.following s.0 s.1 s.2) ∙ ap (option_map (defined_before more)) e

  titled-none : (label : List ℕ) (d : Parsed) (found : Defined) → title_in (after_separator d.following) ≡ None → untitled label d ≡ Some found →
      end_settles found.definition.title found.following ≡ true → Titles label d found
  titled-none label d found none e settled =
      let ends = untitled-settles label d found e settled in
      let some = some-ends (after_separator d.following) ends in
      let still : title_in (after_separator (d.following ++ more)) ≡ None =
      ap title_in (separator-before d.following some.0 some.1 some.2) ∙ ap (λ l. title_in (l ++ more)) (sym some.2) ∙ title-settled (after_separator d.following) ends ∙ ap (option_map (read_before more)) none in (
        ap (titled label (read_before more d)) still ∙ untitled-goes label d found some.0 some.1 some.2 e,
        some-following d.following some.0 some.1 some.2,
      )

  -- with a title, if more than blanks follows it, or without it
  titled-some : (label : List ℕ) (d t : Parsed) (found : Defined) → title_in (after_separator d.following) ≡ Some t →
      titled label d (Some t) ≡ Some found → end_settles found.definition.title found.following ≡ true → Titles label d found
  titled-some label d t found is e settled =
      let some = some-title (after_separator d.following) t is in
      let still : title_in (after_separator (d.following ++ more)) ≡ Some (read_before more t) =
      ap title_in (separator-before d.following some.0 some.1 some.2) ∙ ap (λ l. title_in (l ++ more)) (sym some.2) ∙ title-before (after_separator d.following) t is in
      let parted : nat_lt (length (after_separator (d.following ++ more))) (length (d.following ++ more)) ≡ nat_lt (length (after_separator d.following)) (length d.following) =
      ap (λ l. nat_lt (length l) (length (d.following ++ more))) (separator-before d.following some.0 some.1 some.2 ∙ ap (λ l. l ++ more) (sym some.2)) ∙ longer (after_separator d.following) d.following in (
        ap (titled label (read_before more d)) still
            ∙ ap {A = Bool} {B = Option Defined} (λ p. if p && is_line_done (t.following ++ more) then Some (defined label d.bytes (Some t.bytes) (t.following ++ more)) else untitled label (read_before more d)) parted
            ∙ go (nat_lt (length (after_separator d.following)) (length d.following)) (is_line_done t.following) refl some.0 some.1 some.2 e,
        some-following d.following some.0 some.1 some.2,
      )
    where
      go : (p q : Bool) → is_line_done t.following ≡ q → (x : ℕ) (xs : List ℕ) → after_separator d.following ≡ x ∷ xs →
          (if p && q then Some (defined label d.bytes (Some t.bytes) t.following) else untitled label d) ≡ Some found →
          (if p && is_line_done (t.following ++ more) then Some (defined label d.bytes (Some t.bytes) (t.following ++ more)) else untitled label (read_before more d)) ≡ Some (defined_before more found)
      go true true done x xs s q =
          let same : defined label d.bytes (Some t.bytes) t.following ≡ found = same_Some _ found q in
          let full = some-full t.following (subst (λ (f : Defined). end_settles f.definition.title f.following ≡ true) (sym same) settled) in
          ap {A = Bool} {B = Option Defined} (λ z. if z then Some (defined label d.bytes (Some t.bytes) (t.following ++ more)) else untitled label (read_before more d)) (done-before t.following full.0 full.1 full.2 ∙ done)
          ∙ ap {A = Defined} {B = Option Defined} (λ f. Some (defined_before more f)) same
      go true false done x xs s q =
          ap {A = Bool} {B = Option Defined} (λ z. if z then Some (defined label d.bytes (Some t.bytes) (t.following ++ more)) else untitled label (read_before more d)) (undone-before t.following done)
          ∙ untitled-goes label d found x xs s q
      go false q done x xs s e = untitled-goes label d found x xs s e

  titled-before : (label : List ℕ) (d : Parsed) (found : Defined) → titled label d (title_in (after_separator d.following)) ≡ Some found →
      end_settles found.definition.title found.following ≡ true → Titles label d found
  titled-before label d found e settled = go (title_in (after_separator d.following)) refl e
    where
      go : (o : Option Parsed) → title_in (after_separator d.following) ≡ o → titled label d o ≡ Some found → Titles label d found
      go None is q = titled-none label d found is q settled
      go (Some t) is q = titled-some label d t found is q settled

  -- after a colon
  some-destination : (bs : List ℕ) (f : Parsed) → destination_in bs ≡ Some f → (x : ℕ) × (xs : List ℕ) × (bs ≡ x ∷ xs)
  some-destination [] f e = absurd (let z : None ≡ Some f = e in cc)
  some-destination (x ∷ xs) f e = (x, xs, refl)

  destined-before : (label rest : List ℕ) (found : Defined) → with_destination label (destination_in (after_separator rest)) ≡ Some found →
      end_settles found.definition.title found.following ≡ true → with_destination label (destination_in (after_separator (rest ++ more))) ≡ Some (defined_before more found)
  destined-before label rest found e settled = go (destination_in (after_separator rest)) refl e
    where
      go : (o : Option Parsed) → destination_in (after_separator rest) ≡ o → with_destination label o ≡ Some found → with_destination label (destination_in (after_separator (rest ++ more))) ≡ Some (defined_before more found)
      go None is q = absurd (let z : None ≡ Some found = q in cc)
      go (Some d) is q =
          let titles = titled-before label d found q settled in
          let some = some-destination (after_separator rest) d is in
          ap (with_destination label) (ap destination_in (separator-before rest some.0 some.1 some.2) ∙ ap (λ l. destination_in (l ++ more)) (sym some.2)
          ∙ destination-before (after_separator rest) d titles.1.0 titles.1.1 is titles.1.2)
          ∙ titles.0

  -- after a label
  labelled-before : (bs : List ℕ) (label : Parsed) → label_in bs ≡ Some label →
      settles_as (91 ∷ bs) (with_label (Some label)) ≡ true → with_label (label_in (bs ++ more)) ≡ option_map (defined_before more) (with_label (Some label))
  labelled-before bs label is settled = ap with_label (label-before bs label is) ∙ go label.following refl settled
    where
      lacks : (l : List ℕ) → label.following ≡ l → label_in bs ≡ Some label → ends_in false 93 91 bs && lacks_colon (label_in bs) ≡ true → first_is (λ b. not (b == 58)) l ≡ true
      lacks l s is q =
          ap (first_is (λ b. not (b == 58))) (sym s) ∙ both (ends_in false 93 91 bs) (first_is (λ b. not (b == 58)) label.following) (ap (λ o. ends_in false 93 91 bs && lacks_colon o) (sym is) ∙ q)
        where
          both : (p q : Bool) → (p && q) ≡ true → q ≡ true
          both true q e = e
          both false q e = absurd (true≢false (sym e))

      go : (l : List ℕ) → label.following ≡ l → settles_as (91 ∷ bs) (after_colon label l) ≡ true →
          after_colon (read_before more label) (l ++ more) ≡ option_map (defined_before more) (after_colon label l)
      go [] s q = absurd (true≢false (sym (lacks [] s is q)))
      go (c ∷ rest) s q = pick (c == 58) refl q
        where
          end : (o : Option Defined) → with_destination label.bytes (destination_in (after_separator rest)) ≡ o → settles_as (91 ∷ bs) o ≡ true → (c == 58) ≡ true →
              with_destination label.bytes (destination_in (after_separator (rest ++ more))) ≡ option_map (defined_before more) o
          end None w q t = absurd (true≢false (sym (ap not (sym t) ∙ lacks (c ∷ rest) s is q)))
          end (Some found) w q t = destined-before label.bytes rest found w q

          pick : (z : Bool) → (c == 58) ≡ z → settles_as (91 ∷ bs) (if z then with_destination label.bytes (destination_in (after_separator rest)) else None) ≡ true →
              (if z then with_destination label.bytes (destination_in (after_separator (rest ++ more))) else None)
              ≡ option_map (defined_before more) (if z then with_destination label.bytes (destination_in (after_separator rest)) else None)
          pick true t q = end (with_destination label.bytes (destination_in (after_separator rest))) refl q t ∙ refl
          pick false t q = refl

  bracket-before : (bs : List ℕ) (o : Option Parsed) → label_in bs ≡ o → settles_as (91 ∷ bs) (with_label o) ≡ true → with_label (label_in (bs ++ more)) ≡ option_map (defined_before more) (with_label o)
  bracket-before bs None is settled = ap with_label (label-settled bs (front (ends_in false 93 91 bs) (lacks_colon (label_in bs)) settled) ∙ ap (option_map (read_before more)) is)
    where
      front : (p q : Bool) → (p && q) ≡ true → p ≡ true
      front true q e = refl
      front false q e = e
  bracket-before bs (Some label) is settled = labelled-before bs label is settled

  settled-before : (bs : List ℕ) → settles bs ≡ true → definition_in (bs ++ more) ≡ option_map (defined_before more) (definition_in bs)
  settled-before [] e = absurd (true≢false (sym e))
  settled-before (b ∷ bs) e = go (b == 91) refl e
    where
      same : (a c : ℕ) → (a == c) ≡ true → a ≡ c
      same a c e = grind (arith)

      go : (z : Bool) → (b == 91) ≡ z → settles_as (b ∷ bs) (if z then with_label (label_in bs) else None) ≡ true →
          (if z then with_label (label_in (bs ++ more)) else None) ≡ option_map (defined_before more) (if z then with_label (label_in bs) else None)
      go true t q = bracket-before bs (label_in bs) refl (subst (λ c. settles_as (c ∷ bs) (with_label (label_in bs)) ≡ true) (same b 91 t) q)
      go false t q = refl

pub settled : (bs : List ℕ) → settles bs ≡ true → IsSettled bs
settled bs e more = settled-before more bs e
