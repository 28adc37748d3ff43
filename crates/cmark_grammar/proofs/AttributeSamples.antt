-- Attributes of headings, by computation: the words between braces, and which braces count.
use Rattle.std.specs.Prelude.{◌≡◌, ℕ, List, [], ◌∷◌, codes, Some}
use Rattle.std.proofs.Common.{refl}
use Rattle.cmark_grammar.specs.Attributes.{no_attributes, attributes_of, before_braces, inside_braces}

-- the last identifier counts, classes and pairs stay in order, and a word of one byte is passed over
words : attributes_of (codes "#a .b c=d e #f .g h= x=y=z =v") ≡ record {
  id = Some (codes "f");
  classes = codes "b" ∷ codes "g" ∷ [];
  others = record { name = codes "c"; value = Some (codes "d") } ∷ record { name = codes "h"; value = Some [] } ∷ record { name = codes "x"; value = Some (codes "y=z") } ∷ record { name = []; value = Some (codes "v") } ∷ [];
}
words = refl

white_space : attributes_of (codes "\t.a\n.b  .c") ≡ record no_attributes { classes = codes "a" ∷ codes "b" ∷ codes "c" ∷ [] }
white_space = refl

no_words : attributes_of [] ≡ no_attributes
no_words = refl

abbrev before : List ℕ → List ℕ
before content = before_braces (λ b. b) content

abbrev inside : List ℕ → List ℕ
inside content = inside_braces (λ b. b) content

-- the braces are at the end of the content
at_the_end : inside (codes "a {#b}") ≡ codes "#b"
at_the_end = refl

text_before : before (codes "a {#b}") ≡ codes "a "
text_before = refl

not_at_the_end : before (codes "{#b} a") ≡ codes "{#b} a"
not_at_the_end = refl

-- there is no other brace between them
last_braces : inside (codes "{.a{.b}") ≡ codes ".b"
last_braces = refl

text_before_last_braces : before (codes "{.a{.b}") ≡ codes "{.a"
text_before_last_braces = refl

two_at_the_end : before (codes "{.a}}") ≡ codes "{.a}}"
two_at_the_end = refl
