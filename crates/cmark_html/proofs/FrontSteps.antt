-- Appends that may be cut short, one after the other.
use Rattle.std.proofs.Common.{◌≡◌, arith, eqb-true, Bool, true, false, true≢false, ◌==◌, codes, ℕ, ◌+◌, ◌<◌, ◌≤◌, List, [], ◌∷◌, ◌++◌, flat_map, map, length, take, drop, get_or, refl, sym, ap, ◌∙◌, subst, append_assoc, append-nil, Result, Ok, Err, OnErr, Option}
use Rattle.std.proofs.lemmas.List.{take_more, take_all, take-append-drop}
use Rattle.std.proofs.lemmas.Grind.{flat_map-append}
use Rattle.cmark_grammar.specs.Escapes.{escaped_html, escaped_href}
use Rattle.cmark_grammar.specs.Html.{fresh_line, digit, language_start, title_attribute, further_classes, other_attribute, other_attributes}
use Rattle.cmark_values.specs.declared.text.CowStr.{CowStr}
use Rattle.cmark_text.specs.Appended.{AppendsFront}
use Rattle.cmark_values.specs.Shown.{text_bytes, shown_attribute}
use Rattle.cmark_html.specs.declared.parts.Part.{Part}
use Rattle.cmark_html.specs.Parts.{part_bytes, joined, heading_start}

-- at an exit
pub on_err : {T E P : Type 0} (r : Result T E) → P → OnErr r P
on_err (Ok x) p = tt
on_err (Err e) p = p

-- all of a first part, and a beginning of the rest
pub front_after : (old mid new a b : List ℕ) → mid ≡ old ++ a → AppendsFront mid new b → AppendsFront old new (a ++ b)
front_after old mid new a b e h =
    (a ++ h.0, h.1, ap (λ l. a ++ l) h.2 ∙ sym (append_assoc a h.0 h.1), h.3 ∙ ap (λ l. l ++ h.0) e ∙ append_assoc old a h.0)

-- a beginning of a first part
pub front_within : (old new a b : List ℕ) → AppendsFront old new a → AppendsFront old new (a ++ b)
front_within old new a b h = (h.0, h.1 ++ b, ap (λ l. l ++ b) h.2 ∙ append_assoc h.0 h.1 b, h.3)

-- all of it
pub front_all : (old new bs : List ℕ) → new ≡ old ++ bs → AppendsFront old new bs
front_all old new bs e = (bs, [], sym (append-nil bs), e)

-- two parts, then a beginning of a third
pub front_third : (old mid mid' new a b d : List ℕ) → mid ≡ old ++ a → mid' ≡ mid ++ b → AppendsFront mid' new d → AppendsFront old new (a ++ (b ++ d))
front_third old mid mid' new a b d e e' h = front_after old mid new a (b ++ d) e (front_after mid mid' new b d e' h)

-- two parts, then all of a third
pub all_third : (old mid mid' new a b d : List ℕ) → mid ≡ old ++ a → mid' ≡ mid ++ b → new ≡ mid' ++ d → new ≡ old ++ (a ++ (b ++ d))
all_third old mid mid' new a b d e e' e'' = e'' ∙ ap (λ l. l ++ d) e' ∙ ap (λ l. (l ++ b) ++ d) e ∙ append_assoc (old ++ a) b d ∙ append_assoc old a (b ++ d)

-- a part, then a beginning of the second of two further parts
pub front_second : (old mid new a b d : List ℕ) → mid ≡ old ++ a → AppendsFront mid new b → AppendsFront old new (a ++ (b ++ d))
front_second old mid new a b d e h = front_after old mid new a (b ++ d) e (front_within mid new b d h)

-- the bytes that are appended for each element of a list
module _ {A : Type 0} (f : A → List ℕ) (xs : List A) (i : ℕ) (d : A) (lt : i < length xs) (old mid new : List ℕ) (before : mid ≡ old ++ flat_map f (take i xs)) where
  one_more : flat_map f (take (i + 1) xs) ≡ flat_map f (take i xs) ++ f (get_or xs i d)
  one_more = ap (flat_map f) (take_more xs i d lt) ∙ flat_map-append f (take i xs) (get_or xs i d ∷ []) ∙ ap (λ l. flat_map f (take i xs) ++ l) (append-nil (f (get_or xs i d)))

  pub appended_more : new ≡ mid ++ f (get_or xs i d) → new ≡ old ++ flat_map f (take (i + 1) xs)
  appended_more e = e ∙ ap (λ l. l ++ f (get_or xs i d)) before ∙ append_assoc old (flat_map f (take i xs)) (f (get_or xs i d)) ∙ ap (λ l. old ++ l) (sym one_more)

  pub front_of_all : AppendsFront mid new (f (get_or xs i d)) → AppendsFront old new (flat_map f xs)
  front_of_all h =
      subst (AppendsFront old new) (ap (λ l. l ++ flat_map f (drop (i + 1) xs)) (sym one_more) ∙ sym (flat_map-append f (take (i + 1) xs) (drop (i + 1) xs)) ∙ ap (flat_map f) (take-append-drop (i + 1) xs))
      (front_within old new (flat_map f (take i xs) ++ f (get_or xs i d)) (flat_map f (drop (i + 1) xs)) (front_after old mid new (flat_map f (take i xs)) (f (get_or xs i d)) before h))

pub appended_all : {A : Type 0} (f : A → List ℕ) (xs : List A) (i : ℕ) (old new : List ℕ) → length xs ≤ i → new ≡ old ++ flat_map f (take i xs) → new ≡ old ++ flat_map f xs
appended_all f xs i old new le e = e ∙ ap (λ l. old ++ flat_map f l) (take_all i xs le)

pub joined-flat : (ps : List Part) → joined ps ≡ flat_map part_bytes ps
joined-flat [] = refl
joined-flat (p ∷ []) = sym (append-nil (part_bytes p))
joined-flat (p ∷ q ∷ ps) = ap (λ l. part_bytes p ++ l) (joined-flat (q ∷ ps))

abbrev pub class_bytes : CowStr → List ℕ
class_bytes name = 32 ∷ escaped_html (text_bytes name)

pub further_classes-flat : (names : List CowStr) → further_classes (map text_bytes names) ≡ flat_map class_bytes names
further_classes-flat [] = refl
further_classes-flat (n ∷ ns) = ap (λ l. 32 ∷ (escaped_html (text_bytes n) ++ l)) (further_classes-flat ns)

abbrev pub attribute_bytes : CowStr × Option CowStr → List ℕ
attribute_bytes a = other_attribute (shown_attribute a)

pub other_attributes-flat : (attrs : List (CowStr × Option CowStr)) → other_attributes (map shown_attribute attrs) ≡ flat_map attribute_bytes attrs
other_attributes-flat [] = refl
other_attributes-flat (a ∷ others) = ap (λ l. other_attribute (shown_attribute a) ++ l) (other_attributes-flat others)

pub heading_parts : (line_start : Bool) (level : ℕ) (rest : List ℕ) → heading_start line_start level ++ rest ≡ fresh_line line_start ++ (codes "<h" ++ (digit level ∷ rest))
heading_parts line_start level rest = append_assoc (fresh_line line_start) (codes "<h" ++ (digit level ∷ [])) rest

-- the start of a code block in a language, and of a link with a title
pub fenced_piece : (language : List ℕ) → (length language == 0) ≡ false → codes "<pre><code class=\"language-" ++ (escaped_html language ++ codes "\">") ≡ language_start language
fenced_piece [] e = absurd (true≢false e)
fenced_piece (b ∷ bs) e = refl

title_piece : (title : List ℕ) → (length title == 0) ≡ false → codes " title=\"" ++ (escaped_html title ++ codes "\">") ≡ title_attribute title ++ codes ">"
title_piece [] e = absurd (true≢false e)
title_piece (b ∷ bs) e = ap (λ l. codes " title=\"" ++ l) (sym (append_assoc (escaped_html (b ∷ bs)) (codes "\"") (codes ">")))

pub no_title_piece : (title : List ℕ) → (length title == 0) ≡ true → codes "\">" ≡ codes "\"" ++ (title_attribute title ++ codes ">")
no_title_piece [] e = refl
no_title_piece (b ∷ bs) e = absurd (let none : length (b ∷ bs) ≡ 0 = eqb-true (length (b ∷ bs)) 0 e in omega arith)

pub titled_piece : (title : List ℕ) → (length title == 0) ≡ false → codes "\" title=\"" ++ (escaped_html title ++ codes "\">") ≡ codes "\"" ++ (title_attribute title ++ codes ">")
titled_piece title e = ap (λ l. codes "\"" ++ l) (title_piece title e)

-- a link whose start up to its destination is this
pub link_piece : (before url title front : List ℕ) → front ≡ codes "<a href=\"" ++ before
    → front ++ (escaped_href url ++ (codes "\"" ++ (title_attribute title ++ codes ">"))) ≡ codes "<a href=\"" ++ (before ++ (escaped_href url ++ (codes "\"" ++ (title_attribute title ++ codes ">"))))
link_piece before url title front is =
    ap (λ l. l ++ (escaped_href url ++ (codes "\"" ++ (title_attribute title ++ codes ">")))) is
    ∙ append_assoc (codes "<a href=\"") before (escaped_href url ++ (codes "\"" ++ (title_attribute title ++ codes ">")))
