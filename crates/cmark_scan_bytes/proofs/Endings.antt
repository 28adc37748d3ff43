-- Tags and other pieces of inline HTML end after a `>`, which is a character boundary.
use Rattle.std.proofs.Common.{◌≡◌, ◌⊎◌, inl, inr, ⊎_elim, ℕ, zero, suc, ◌+◌, ◌-◌, ◌<◌, Bool, true, false, ◌==◌, ◌||◌, if◌then◌else◌, List, [], ◌∷◌, length, drop, get_or, Option, None, Some, refl, sym, ap, subst, ◌∙◌, arith, eqb-true, length-drop, drop-drop}
use denote.Ref.{Bor}
use Rattle.std.specs.Prelude.{codes, option_map, option_copied}
use Rattle.std.specs.Option.{IfSome, option_or}
use Rattle.std.specs.Str.{IsCharBoundary, IsUtf8}
use Rattle.std.proofs.lemmas.List.{get_or-drop}
use Rattle.std.proofs.lemmas.Str.{IsCharBoundary-after_ascii}
use Rattle.cmark_grammar.specs.Columns.{is_blank_byte}
use Rattle.cmark_grammar.specs.Letters.{is_letter, first_is, starts, after_while, after_if, after_start_of, after_first_of, and_then}
use Rattle.cmark_grammar.specs.Tags.{is_name_byte, is_attribute_start, is_attribute_byte, is_value_byte, after_line_feed, after_ending, after_tag_name, after_attribute_name, after_bare_value, after_greater, after_open_end, after_closing_tag, without_prefix, on_next_line, after_space, prefix_after, after_quotation_mark, after_value, after_assigned, after_attribute, after_attributes, after_open_tag, after_tag_start, after_tag}
use Rattle.cmark_grammar.specs.InlineHtml.{after_comment, declaration_in, cdata_in, opened_in, find_with}
use Rattle.cmark_scan_bytes.proofs.Closers.{here_starts}

-- the bytes after some others
abbrev pub IsRest : (bs r : List ℕ) → Type 0
IsRest bs r = (k : ℕ) × (r ≡ drop k bs)

-- and this byte is the last of them
pub record IsAfter (b : ℕ) (bs r : List ℕ) : Type 0 where
  pub place : ℕ
  pub inside : place < length bs
  pub byte : get_or bs place 0 ≡ b
  pub rest : r ≡ drop (suc place) bs

onward : (bs s r : List ℕ) → IsRest bs s → IsRest s r → IsRest bs r
onward bs s r h i = (h.0 + i.0, i.1 ∙ ap (drop i.0) h.1 ∙ drop-drop i.0 h.0 bs)

pub following-rest : (b : ℕ) (bs s r : List ℕ) → IsRest bs s → IsAfter b s r → IsAfter b bs r
following-rest b bs s r h i =
    let n = ap length h.1 in let l = length-drop h.0 bs in record {
      place = h.0 + i.place;
      inside = let lt = i.inside in omega arith;
      byte = sym (get_or-drop h.0 bs i.place 0) ∙ ap (λ (l : List ℕ). get_or l i.place 0) (sym h.1) ∙ i.byte;
      rest = i.rest ∙ ap (drop (suc i.place)) h.1 ∙ drop-drop (suc i.place) h.0 bs ∙ ap (λ n. drop n bs) (let e : h.0 + suc i.place ≡ suc (h.0 + i.place) = omega arith in e);
    }

pub following-boundary : (b : ℕ) (bs r : List ℕ) → b < 128 → IsUtf8 bs → IsAfter b bs r → IsCharBoundary bs (length bs - length r)
following-boundary b bs r small utf8 h =
    let inside = h.inside in let byte = h.byte in let n = ap length h.rest in let l = length-drop (suc h.place) bs in
    subst (IsCharBoundary bs) (let e : h.place + 1 ≡ length bs - length r = omega arith in e) (IsCharBoundary-after_ascii bs h.place utf8 inside (omega (arith, small, byte)))

-- the result came from one of the branches, or from the first part
branch : {A : Type 0} (z : Bool) (x y : Option A) (r : A) → (if z then x else y) ≡ Some r → (x ≡ Some r) ⊎ (y ≡ Some r)
branch true x y r e = inl e
branch false x y r e = inr e

either : {A : Type 0} (x y : Option A) (r : A) → option_or x y ≡ Some r → (x ≡ Some r) ⊎ (y ≡ Some r)
either None y r e = inr e
either (Some x) y r e = inl e

after : {A B : Type 0} (o : Option A) (next : A → Option B) (r : B) → and_then o next ≡ Some r → (x : A) × (o ≡ Some x) × (next x ≡ Some r)
after None next r e = cc
after (Some x) next r e = (x, refl, e)

mapped : {A B : Type 0} (o : Option A) (f : A → B) (r : B) → option_map f o ≡ Some r → (x : A) × (o ≡ Some x) × (f x ≡ r)
mapped None f r e = cc
mapped (Some x) f r e = (x, refl, cc)

same : (x r : List ℕ) → Some x ≡ Some r → r ≡ x
same x r e = cc

-- parts of tags
if-rest : (p : ℕ → Bool) (bs r : List ℕ) → after_if p bs ≡ Some r → IsRest bs r
if-rest p [] r e = cc
if-rest p (b ∷ bs) r e = ⊎_elim (λ s. (1, same bs r s)) (λ n. cc) (branch (p b) (Some bs) None r e)

all-rest : (p : ℕ → Bool) (bs : List ℕ) → IsRest bs (after_while p bs)
all-rest p bs = (_, refl)

then-all : (p q : ℕ → Bool) (bs r : List ℕ) → and_then (after_if p bs) (λ rest. Some (after_while q rest)) ≡ Some r → IsRest bs r
then-all p q bs r e =
    let h = after (after_if p bs) (λ rest. Some (after_while q rest)) r e in
    onward bs h.0 r (if-rest p bs h.0 h.1) (subst (IsRest h.0) (sym (same (after_while q h.0) r h.2)) (all-rest q h.0))

feed-rest : (bs : List ℕ) → IsRest bs (after_line_feed bs)
feed-rest [] = (0, refl)
feed-rest (b ∷ bs) = go (b == 10)
  where
    go : (z : Bool) → IsRest (b ∷ bs) (if z then bs else b ∷ bs)
    go true = (1, refl)
    go false = (0, refl)

ending-rest : (bs r : List ℕ) → after_ending bs ≡ Some r → IsRest bs r
ending-rest [] r e = cc
ending-rest (b ∷ bs) r e =
    ⊎_elim (λ s. (1, same bs r s))
    (λ f. ⊎_elim (λ s. onward (b ∷ bs) bs r (1, refl) (subst (IsRest bs) (sym (same (after_line_feed bs) r s)) (feed-rest bs))) (λ n. cc) (branch (b == 13) (Some (after_line_feed bs)) None r f))
    (branch (b == 10) (Some bs) (if b == 13 then Some (after_line_feed bs) else None) r e)

module _ (prefix : List ℕ → ℕ) where
  line-rest : (bs : List ℕ) (o : Option (List ℕ)) → ((r : List ℕ) → o ≡ Some r → IsRest bs r) → IsRest bs (on_next_line prefix bs o)
  line-rest bs None h = (0, refl)
  line-rest bs (Some r) h = onward bs r _ (h r refl) (onward r (without_prefix prefix r) _ (_, refl) (all-rest is_blank_byte (without_prefix prefix r)))

  space-rest : (bs : List ℕ) → IsRest bs (after_space prefix bs)
  space-rest bs =
      let blanks : List ℕ = after_while is_blank_byte bs in
      onward bs blanks _ (all-rest is_blank_byte bs) (line-rest blanks (after_ending blanks) (ending-rest blanks))

  quote-rest : (quote skip : ℕ) (bs r : List ℕ) → after_quotation_mark prefix quote skip bs ≡ Some r → IsRest bs r
  quote-rest quote skip [] r e = cc
  quote-rest quote (suc skip) (b ∷ bs) r e = onward (b ∷ bs) bs r (1, refl) (quote-rest quote skip bs r e)
  quote-rest quote zero (b ∷ bs) r e =
      ⊎_elim (λ s. (1, same bs r s)) (λ f. onward (b ∷ bs) bs r (1, refl) (quote-rest quote (prefix_after prefix b bs) bs r f))
      (branch (b == quote) (Some bs) (after_quotation_mark prefix quote (prefix_after prefix b bs) bs) r e)

  value-rest : (bs r : List ℕ) → after_value prefix bs ≡ Some r → IsRest bs r
  value-rest [] r e = cc
  value-rest (b ∷ bs) r e =
      ⊎_elim (λ f. onward (b ∷ bs) bs r (1, refl) (quote-rest b 0 bs r f)) (λ f. then-all is_value_byte is_value_byte (b ∷ bs) r f)
      (branch ((b == 34) || (b == 39)) (after_quotation_mark prefix b 0 bs) (after_bare_value (b ∷ bs)) r e)

  assigned-rest : (name bs r : List ℕ) → IsRest name bs → after_assigned prefix name bs ≡ Some r → IsRest name r
  assigned-rest name [] r h e = (0, same name r e)
  assigned-rest name (b ∷ bs) r h e =
      ⊎_elim (λ f. onward name (b ∷ bs) r h (onward (b ∷ bs) bs r (1, refl) (onward bs (after_space prefix bs) r (space-rest bs) (value-rest (after_space prefix bs) r f)))) (λ s. (0, same name r s))
      (branch (b == 61) (after_value prefix (after_space prefix bs)) (Some name) r e)

  named-rest : (bs r : List ℕ) → and_then (after_attribute_name (after_space prefix bs)) (λ name. after_assigned prefix name (after_space prefix name)) ≡ Some r → IsRest bs r
  named-rest bs r e =
      let spaced : List ℕ = after_space prefix bs in
      let h = after (after_attribute_name spaced) (λ name. after_assigned prefix name (after_space prefix name)) r e in
      onward bs spaced r (space-rest bs) (onward spaced h.0 r (then-all is_attribute_start is_attribute_byte spaced h.0 h.1) (assigned-rest h.0 (after_space prefix h.0) r (space-rest h.0) h.2))

  attribute-rest : (bs r : List ℕ) → after_attribute prefix bs ≡ Some r → IsRest bs r
  attribute-rest bs r e = grind (arith, named-rest, branch)

  attributes-rest : (most : ℕ) (bs : List ℕ) → IsRest bs (after_attributes prefix most bs)
  attributes-rest zero bs = (0, refl)
  attributes-rest (suc most) bs = go (after_attribute prefix bs) refl (attributes-rest most)
    where
      go : (o : Option (List ℕ)) → after_attribute prefix bs ≡ o → ((rest : List ℕ) → IsRest rest (after_attributes prefix most rest)) → IsRest bs (elim o [ None ↦ bs | Some rest ↦ after_attributes prefix most rest ])
      go None e further = (0, refl)
      go (Some rest) e further = onward bs rest _ (attribute-rest bs rest e) (further rest)

-- and their ends
greater-following : (bs r : List ℕ) → after_greater bs ≡ Some r → IsAfter 62 bs r
greater-following bs r e = grind (arith, eqb-true, same)

open_end-following : (bs r : List ℕ) → after_open_end bs ≡ Some r → IsAfter 62 bs r
open_end-following bs r e = grind (arith, following-rest, greater-following, branch)

closing-following : (bs r : List ℕ) → after_closing_tag bs ≡ Some r → IsAfter 62 bs r
closing-following bs r e =
    let h = after (after_tag_name bs) (λ rest. after_greater (after_while is_blank_byte rest)) r e in
    following-rest 62 bs h.0 r (then-all is_letter is_name_byte bs h.0 h.1) (following-rest 62 h.0 (after_while is_blank_byte h.0) r (all-rest is_blank_byte h.0) (greater-following (after_while is_blank_byte h.0) r h.2))

module _ (prefix : List ℕ → ℕ) where
  open-following : (bs r : List ℕ) → after_open_tag prefix bs ≡ Some r → IsAfter 62 bs r
  open-following bs r e =
      let h = after (after_tag_name bs) (λ rest. after_open_end (after_space prefix (after_attributes prefix (length rest) rest))) r e in
      let attributes : List ℕ = after_attributes prefix (length h.0) h.0 in
      following-rest 62 bs h.0 r (then-all is_letter is_name_byte bs h.0 h.1)
      (following-rest 62 h.0 attributes r (attributes-rest prefix (length h.0) h.0)
      (following-rest 62 attributes (after_space prefix attributes) r (space-rest prefix attributes) (open_end-following (after_space prefix attributes) r h.2)))

  start-following : (bs r : List ℕ) → after_tag_start prefix bs ≡ Some r → IsAfter 62 bs r
  start-following bs r e =
      ⊎_elim (λ f. following-rest 62 bs (drop 1 bs) r (1, refl) (closing-following (drop 1 bs) r f)) (λ f. open-following bs r f)
      (branch (first_is (λ b. b == 47) bs) (after_closing_tag (drop 1 bs)) (after_open_tag prefix bs) r e)

  pub tag-following : (bs r : List ℕ) → after_tag prefix bs ≡ Some r → IsAfter 62 bs r
  tag-following bs r e =
      let h = after (after_if (λ b. b == 60) bs) (after_tag_start prefix) r e in
      following-rest 62 bs h.0 r (if-rest (λ b. b == 60) bs h.0 h.1) (start-following h.0 r h.2)

-- closers that end with this byte
module _ (closer : List ℕ) (some : 0 < length closer) (b : ℕ) (last : get_or closer (length closer - 1) 0 ≡ b) where
  here-following : (bs : List ℕ) → starts closer bs ≡ true → IsAfter b bs (drop (length closer) bs)
  here-following bs e = grind (arith, here_starts)

  start_closer-following : (bs r : List ℕ) → after_start_of closer bs ≡ Some r → IsAfter b bs r
  start_closer-following bs r e = grind (arith, same, here-following)

  first_closer-following : (bs r : List ℕ) → after_first_of closer bs ≡ Some r → IsAfter b bs r
  first_closer-following [] r e = cc
  first_closer-following (c ∷ bs) r e = go (starts closer (c ∷ bs)) refl e (first_closer-following bs r)
    where
      go : (z : Bool) → starts closer (c ∷ bs) ≡ z → (if z then Some (drop (length closer) (c ∷ bs)) else after_first_of closer bs) ≡ Some r → (after_first_of closer bs ≡ Some r → IsAfter b bs r) → IsAfter b (c ∷ bs) r
      go true f e further = subst (IsAfter b (c ∷ bs)) (sym (same (drop (length closer) (c ∷ bs)) r e)) (here-following (c ∷ bs) f)
      go false f e further = following-rest b (c ∷ bs) bs r (1, refl) (further e)

start-rest : (prefix bs r : List ℕ) → after_start_of prefix bs ≡ Some r → IsRest bs r
start-rest prefix bs r e = ⊎_elim (λ s. (length prefix, same (drop (length prefix) bs) r s)) (λ n. cc) (branch (starts prefix bs) (Some (drop (length prefix) bs)) None r e)

comment-following : (bs r : List ℕ) → after_comment bs ≡ Some r → IsAfter 62 bs r
comment-following bs r e =
    ⊎_elim (λ f. start_closer-following (codes ">") (omega arith) 62 refl bs r f)
    (λ f. ⊎_elim (λ g. start_closer-following (codes "->") (omega arith) 62 refl bs r g) (λ g. first_closer-following (codes "-->") (omega arith) 62 refl bs r g)
    (either (after_start_of (codes "->") bs) (after_first_of (codes "-->") bs) r f))
    (either (after_start_of (codes ">") bs) (option_or (after_start_of (codes "->") bs) (after_first_of (codes "-->") bs)) r e)

pub opened-following : (bs r : List ℕ) → opened_in bs ≡ Some (Some r) → IsAfter 62 bs r
opened-following bs r e =
    ⊎_elim comment
    (λ f. ⊎_elim declaration cdata (either (declaration_in bs) (cdata_in bs) (Some r) f))
    (either (option_map after_comment (after_start_of (codes "--") bs)) (option_or (declaration_in bs) (cdata_in bs)) (Some r) e)
  where
    comment : option_map after_comment (after_start_of (codes "--") bs) ≡ Some (Some r) → IsAfter 62 bs r
    comment f =
        let h = mapped (after_start_of (codes "--") bs) after_comment (Some r) f in
        following-rest 62 bs h.0 r (start-rest (codes "--") bs h.0 h.1) (comment-following h.0 r h.2)

    declaration : declaration_in bs ≡ Some (Some r) → IsAfter 62 bs r
    declaration f =
        let h = mapped (after_if is_letter bs) (after_first_of (codes ">")) (Some r) f in
        following-rest 62 bs h.0 r (if-rest is_letter bs h.0 h.1) (first_closer-following (codes ">") (omega arith) 62 refl h.0 r h.2)

    cdata : cdata_in bs ≡ Some (Some r) → IsAfter 62 bs r
    cdata f =
        let h = mapped (after_start_of (codes "[CDATA[") bs) (after_first_of (codes "]]>")) (Some r) f in
        following-rest 62 bs h.0 r (start-rest (codes "[CDATA[") bs h.0 h.1) (first_closer-following (codes "]]>") (omega arith) 62 refl h.0 r h.2)

pub processing-following : (bs r : List ℕ) → after_first_of (codes "?>") bs ≡ Some r → IsAfter 62 bs r
processing-following bs r e = first_closer-following (codes "?>") (omega arith) 62 refl bs r e

-- the end of a search
pub find-boundary : (bytes : List ℕ) (at : ℕ) (o : Option (Option (List ℕ))) (end : Option ℕ) → end ≡ (find_with bytes at o).end → IsUtf8 bytes → ((r : List ℕ) → o ≡ Some (Some r) → IsAfter 62 (drop at bytes) r) → IfSome end (IsCharBoundary bytes)
find-boundary bytes at o end is utf8 h = subst (λ (e : Option ℕ). IfSome e (IsCharBoundary bytes)) (sym is) (go o h)
  where
    go : (o : Option (Option (List ℕ))) → ((r : List ℕ) → o ≡ Some (Some r) → IsAfter 62 (drop at bytes) r) → IfSome (find_with bytes at o).end (IsCharBoundary bytes)
    go None h = tt
    go (Some None) h = tt
    go (Some (Some r)) h = following-boundary 62 bytes r (omega arith) utf8 (following-rest 62 bytes (drop at bytes) r (at, refl) (h r refl))

-- the end of a tag
pub tag-boundary : (prefix : List ℕ → ℕ) (bs : List ℕ) (r : Option (Bor (List ℕ))) → option_copied r ≡ after_tag prefix bs → IsUtf8 bs → IfSome r (λ rest. IsCharBoundary bs (length bs - length rest.now))
tag-boundary prefix bs None is utf8 = tt
tag-boundary prefix bs (Some rest) is utf8 = following-boundary 62 bs rest.now (omega arith) utf8 (tag-following prefix bs rest.now (sym is))
