-- A label that no colon follows is that of no link reference definition.
use Rattle.std.proofs.Common.{◌≡◌, ℕ, ◌-◌, Bool, true, false, ◌==◌, ◌&&◌, ◌||◌, not, List, [], ◌∷◌, ◌++◌, Option, Some, None, refl, sym, ap, true≢false}
use Rattle.std.specs.Prelude.{if◌then◌else◌, nat_le}
use Rattle.cmark_grammar.specs.Columns.{bytes_of}
use Rattle.cmark_grammar.specs.Letters.{first_is}
use Rattle.cmark_grammar.specs.LinkDefinitions.{Parsed, put, escapes_next, up_to, is_label, label_if, label_in, after_colon, with_label, definition_in, further_bytes}
use Rattle.cmark_grammar.specs.Rows.{Row}
use Rattle.cmark_blocks.specs.Brackets.{is_colon, lacks_colon, begins_none}

-- no colon follows the part that was read
abbrev LacksColon : Option Parsed → Type 0
LacksColon None = Unit {0}
LacksColon (Some found) = first_is is_colon found.following ≡ false

put-lacks : (b : ℕ) (o : Option Parsed) → LacksColon o → LacksColon (put b o)
put-lacks b None h = tt
put-lacks b (Some found) h = h

module _ (more : List ℕ) (no_colon : first_is is_colon more ≡ false) where
  following-lacks : (bs : List ℕ) → not (first_is is_colon bs) ≡ true → first_is is_colon (bs ++ more) ≡ false
  following-lacks [] e = no_colon
  following-lacks (b ∷ bs) e = go (b == 58) e
    where
      go : (z : Bool) → not z ≡ true → z ≡ false
      go true q = absurd (true≢false (sym q))
      go false q = refl

  up_to-lacks : (escaped : Bool) (bs : List ℕ) → lacks_colon escaped bs ≡ true → LacksColon (up_to escaped 93 91 true (bs ++ more))
  up_to-lacks escaped [] e = absurd (true≢false (sym e))
  up_to-lacks escaped (b ∷ bs) e = go (not escaped) (b == 93) (b == 91) e (up_to-lacks (escapes_next escaped b) bs)
    where
      further : Option Parsed
      further = up_to (escapes_next escaped b) 93 91 true (bs ++ more)

      go : (n x y : Bool) → (if n && x then not (first_is is_colon bs) else if n && y then true else lacks_colon (escapes_next escaped b) bs) ≡ true →
          (lacks_colon (escapes_next escaped b) bs ≡ true → LacksColon further) →
          LacksColon (if n && x then Some (record { bytes = []; following = bs ++ more }) else if (n && y) || (not true && ((b == 10) || (b == 13))) then None else put b further)
      go true true y q ih = following-lacks bs q
      go true false true q ih = tt
      go true false false q ih = put-lacks b further (ih q)
      go false x y q ih = put-lacks b further (ih q)

  none-following : (label : Parsed) (following : List ℕ) → first_is is_colon following ≡ false → after_colon label following ≡ None
  none-following label [] e = refl
  none-following label (b ∷ bs) e = ap (λ z. if z then after_colon label (58 ∷ bs) else None) e

  label-lacks : (o : Option Parsed) → LacksColon o → with_label (label_if o) ≡ None
  label-lacks None h = refl
  label-lacks (Some found) h = go (is_label found.bytes)
    where
      go : (z : Bool) → with_label (if z then Some found else None) ≡ None
      go true = none-following found found.following h
      go false = refl

  pub none-begins : (words : List ℕ) → begins_none words ≡ true → definition_in (words ++ more) ≡ None
  none-begins [] e = absurd (true≢false (sym e))
  none-begins (b ∷ bs) e = go (b == 91) e
    where
      go : (z : Bool) → (z && lacks_colon false bs) ≡ true → (if z then with_label (label_in (bs ++ more)) else None) ≡ None
      go true q = label-lacks (up_to false 93 91 true (bs ++ more)) (up_to-lacks false bs q)
      go false q = refl

-- further lines come after a line end
pub further-lacks : (r : Row) (more : List Row) → first_is is_colon (further_bytes r more) ≡ false
further-lacks r [] = refl
further-lacks r (s ∷ more) = go (nat_le 2 (r.line_end - r.content_end))
  where
    go : (z : Bool) → first_is is_colon ((if z then 13 ∷ 10 ∷ [] else 10 ∷ []) ++ (bytes_of s.columns ++ further_bytes s more)) ≡ false
    go true = refl
    go false = refl
