-- The attributes that are found in the gathered lines of a setext heading are those at the end of its content.
use Rattle.std.proofs.Common.{◌≡◌, ℕ, suc, ◌+◌, ◌-◌, ◌≤◌, Bool, true, false, List, [], ◌∷◌, length, take, map, refl, sym, ap, ◌∙◌, subst, arith, String, Global}
use Rattle.std.specs.Prelude.{if◌then◌else◌, nat_lt, string_bytes}
use Rattle.std.specs.Str.{IsUtf8}
use Rattle.cmark_grammar.specs.Attributes.{is_braced, before_braces, without_last, inside_braces, attributes_of, no_attributes}
use Rattle.cmark_grammar.specs.Columns.{Column, is_blank_byte, drop_end, bytes_of}
use Rattle.cmark_grammar.specs.Tags.{is_space_byte}
use Rattle.cmark_grammar.specs.SetextAttributes.{ends_in_braces, setext_attributes}
use Rattle.cmark_grammar.specs.Tokens.{slice}
use Rattle.cmark_line_rules.specs.Rests.{row_of}
use Rattle.cmark_line_rules.specs.declared.line_rest.LineRest.{LineRest}
use Rattle.cmark_leaf_nodes.specs.Closings.{StandsAt}
use Rattle.cmark_leaf_nodes.specs.Contents.{content_columns, gathered_bytes, place_in, HasAttributes}
use Rattle.cmark_leaf_nodes.proofs.BraceSteps.{stands-in, before-take}
use Rattle.cmark_leaf_nodes.proofs.ContentPlaces.{found-place}
use Rattle.cmark_leaf_nodes.proofs.ContentSteps.{ends_in_bytes, inside-whole, ends-whole, content-tabs, content-whole, content-bytes}

less-not : (a b : ℕ) → a ≡ b → nat_lt a b ≡ false
less-not a b e = grind (arith)

less-true : (a b : ℕ) → a ≤ b → (a ≡ b → ⊥) → nat_lt a b ≡ true
less-true a b l n = grind (arith)

take-all : (bs : List ℕ) → take (length bs) bs ≡ bs
take-all [] = refl
take-all (b ∷ bs) = ap (λ l. b ∷ l) (take-all bs)

-- the words between the braces are part of the gathered bytes
pub words-in : (all content : List ℕ) (count : ℕ) → IsUtf8 all → content ≡ drop_end is_blank_byte all → count ≡ length (before_braces (λ b. b) content) → (count ≡ length content → ⊥)
    → StandsAt all (count + 1) (length content - 1) (inside_braces (λ b. b) content)
words-in all content count utf8 h k some =
    let slice_is : all ≡ slice all 0 (length all) = sym (ap (λ n. take n all) (let q : length all - 0 ≡ length all = omega arith in q) ∙ take-all all) in
    let s = stands-in all 0 (length all) all count (length content) utf8 slice_is (k ∙ ap (λ bs. length (before_braces (λ b. b) bs)) h) (ap length h) some in
    subst (λ bs. StandsAt all (count + 1) (length content - 1) (inside_braces (λ b. b) bs)) (sym h)
    (subst (λ from. StandsAt all from (length content - 1) (inside_braces (λ b. b) (drop_end is_blank_byte all))) (let q : 0 + count + 1 ≡ count + 1 = omega arith in q)
    (subst (λ to. StandsAt all (0 + count + 1) to (inside_braces (λ b. b) (drop_end is_blank_byte all))) (let q : 0 + length content - 1 ≡ length content - 1 = omega arith in q) s))

module _ (before : List LineRest) (last : LineRest) (content : List ℕ) (count : ℕ) (h : content ≡ drop_end is_blank_byte (gathered_bytes (map row_of before) (row_of last))) (k : count ≡ length (before_braces (λ b. b) content)) where
  cs : List Column
  cs = content_columns before last

  content_is : bytes_of (content_columns before last) ≡ content
  content_is = content-bytes before last ∙ sym h

  ends : ends_in_braces (content_columns before last) ≡ nat_lt count (length content)
  ends = ends-whole (content_columns before last) (content-tabs before last) (content-whole before last) ∙ ap ends_in_bytes content_is ∙ ap (λ n. nat_lt n (length content)) (sym k)

  pub none-found : count ≡ length content → ends_in_braces (content_columns before last) ≡ false
  none-found e = ends ∙ less-not count (length content) e

  pub all-found : (words white : List ℕ) (made : String Global) (at : ℕ) → count ≤ length content → (count ≡ length content → ⊥) → words ≡ inside_braces (λ b. b) content → string_bytes made ≡ words
      → white ≡ drop_end is_space_byte (take count content) → at ≡ place_in (map row_of before) (row_of last) (length white) → HasAttributes (content_columns before last) (record { words = made; place = at })
  all-found words white made at le some w m z p =
      let found : ends_in_braces (content_columns before last) ≡ true = ends ∙ less-true count (length content) le some in
      let front : take count content ≡ before_braces (λ b. b) content = ap (λ n. take n content) k ∙ before-take content in
      record {
        ends = found;
        words = m ∙ w ∙ sym (inside-whole (content_columns before last) (content-tabs before last) (content-whole before last) ∙ ap (inside_braces (λ b. b)) content_is);
        place = p ∙ ap (λ ws. place_in (map row_of before) (row_of last) (length ws)) (z ∙ ap (drop_end is_space_byte) (front ∙ ap (before_braces (λ b. b)) (sym content_is))) ∙ found-place before last found;
      }

-- without braces at the end there are no attributes
nothing-inside : (cs : List Column) → ends_in_braces cs ≡ false → inside_braces (λ c. c.byte) cs ≡ []
nothing-inside [] e = refl
nothing-inside (c ∷ cs) e = go (is_braced (λ x. x.byte) (c ∷ cs)) e (nothing-inside cs)
  where
    same : (a b : ℕ) → nat_lt (suc a) (suc b) ≡ nat_lt a b
    same a b = grind (arith)

    some : (b : ℕ) → nat_lt 0 (suc b) ≡ true
    some b = grind (arith)

    go : (z : Bool) → nat_lt (length (if z then [] else c ∷ before_braces (λ x. x.byte) cs)) (suc (length cs)) ≡ false → (ends_in_braces cs ≡ false → inside_braces (λ x. x.byte) cs ≡ [])
        → (if z then without_last cs else inside_braces (λ x. x.byte) cs) ≡ []
    go true f ih = absurd (let q : true ≡ false = sym (some (length cs)) ∙ f in cc)
    go false f ih = ih (sym (same (length (before_braces (λ x. x.byte) cs)) (length cs)) ∙ f)

pub no-setext : (cs : List Column) → ends_in_braces cs ≡ false → setext_attributes true cs ≡ no_attributes
no-setext cs e = ap (λ xs. attributes_of (bytes_of xs)) (nothing-inside cs e)
