-- Lists of parts, joined and cut.
use Rattle.std.proofs.Common.{◌≡◌, ℕ, ◌+◌, Option, Some, None, refl, ap, arith}
use Rattle.std.proofs.lemmas.Bool.{eq-eqb, eqb-true, ne_eqb}
use Rattle.cmark_grammar.specs.Items.{Bracket}
use Rattle.cmark_grammar.specs.Parts.{Parts, Nil, Single, Form, Closing, Opening, openings}
use Rattle.cmark_inline_model.specs.PartLists.{join, Cut, following, cut_at}

pub join-nil : (a : Parts) → join a Nil ≡ a
join-nil Nil = refl
join-nil (Single item after) = ap (λ x. Single item x) (join-nil after)
join-nil (Form opener inside closer formed after) = ap (λ x. Form opener inside closer formed x) (join-nil after)
join-nil (Closing closer after) = ap (λ x. Closing closer x) (join-nil after)
join-nil (Opening opener after) = ap (λ x. Opening opener x) (join-nil after)

pub join_assoc : (a b c : Parts) → join (join a b) c ≡ join a (join b c)
join_assoc Nil b c = refl
join_assoc (Single item after) b c = ap (λ x. Single item x) (join_assoc after b c)
join_assoc (Form opener inside closer formed after) b c = ap (λ x. Form opener inside closer formed x) (join_assoc after b c)
join_assoc (Closing closer after) b c = ap (λ x. Closing closer x) (join_assoc after b c)
join_assoc (Opening opener after) b c = ap (λ x. Opening opener x) (join_assoc after b c)

pub openings-join : (a b : Parts) → openings (join a b) ≡ openings a + openings b
openings-join Nil b = omega arith
openings-join (Single item after) b = openings-join after b
openings-join (Form opener inside closer formed after) b = openings-join after b
openings-join (Closing closer after) b = openings-join after b
openings-join (Opening opener after) b = let e = openings-join after b in omega arith

-- a list is cut into the parts before the bracket and after it
pub cut-is : (a : Parts) (opener : Bracket) (b : Parts) → cut_at (openings b) (join a (Opening opener b)) ≡ Some (record { before = a; opener = opener; inside = b })
cut-is Nil opener b = cc (eq-eqb (openings b) (openings b) refl)
cut-is (Single item after) opener b = ap (following (Single item Nil)) (cut-is after opener b)
cut-is (Form other inside closer formed after) opener b = ap (following (Form other inside closer formed Nil)) (cut-is after opener b)
cut-is (Closing closer after) opener b = ap (following (Closing closer Nil)) (cut-is after opener b)
cut-is (Opening other after) opener b = grind (arith, ne_eqb, openings-join, cut-is after opener b)

-- and whatever it is cut into is it
pub record IsCut (nearer : ℕ) (whole : Parts) (cut : Cut) : Type 0 where
  pub whole_is : whole ≡ join cut.before (Opening cut.opener cut.inside)
  pub more_is : openings cut.inside ≡ nearer

abbrev pub Cuts : ℕ → Parts → Option Cut → Type 0
Cuts nearer whole None = ℕ
Cuts nearer whole (Some cut) = IsCut nearer whole cut

cuts_after : (nearer : ℕ) (piece whole : Parts) (cut : Option Cut) → Cuts nearer whole cut → Cuts nearer (join piece whole) (following piece cut)
cuts_after nearer piece whole cut h = grind (arith, join_assoc)

pub cuts : (nearer : ℕ) (whole : Parts) → Cuts nearer whole (cut_at nearer whole)
cuts nearer Nil = 0
cuts nearer (Single item after) = cuts_after nearer (Single item Nil) after (cut_at nearer after) (cuts nearer after)
cuts nearer (Form opener inside closer formed after) = cuts_after nearer (Form opener inside closer formed Nil) after (cut_at nearer after) (cuts nearer after)
cuts nearer (Closing closer after) = cuts_after nearer (Closing closer Nil) after (cut_at nearer after) (cuts nearer after)
cuts nearer (Opening opener after) = grind (arith, eqb-true, cuts_after, cuts nearer after)
