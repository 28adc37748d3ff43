-- No link is inside a link (CommonMark 6.3).
use Rattle.std.specs.Prelude.{◌≡◌, Bool, true, false, not, ◌&&◌, ◌||◌, List, [], ◌∷◌, drop}
use Rattle.cmark_grammar.specs.BracketStates.{Opener, State, Result, StaysText, Forms, Outcome, Decision}
use Rattle.cmark_grammar.specs.Items.{Bracket}
use Rattle.cmark_grammar.specs.Parts.{Formed, Linking, Footnote, Wiki, Parts, Nil, Single, Form, Closing, Opening}
use Rattle.cmark_inline_model.specs.Progress.{Always}

-- two brackets form a link: not an image and not a footnote reference
abbrev pub is_link : Bracket → Formed → Bool
is_link opener (Linking target) = not opener.is_image
is_link opener (Footnote label end) = false
is_link opener (Wiki name display end) = not opener.is_image

-- two brackets form a link among these parts, at any depth
abbrev pub holds_link : Parts → Bool
holds_link Nil = false
holds_link (Single item after) = holds_link after
holds_link (Form opener inside closer formed after) = is_link opener formed || (holds_link inside || holds_link after)
holds_link (Closing closer after) = holds_link after
holds_link (Opening opener after) = holds_link after

-- no link contains another
abbrev pub HasLinksApart : Parts → Type 0
HasLinksApart Nil = Unit {0}
HasLinksApart (Single item after) = HasLinksApart after
HasLinksApart (Form opener inside closer formed after) = ((is_link opener formed && holds_link inside) ≡ false) × HasLinksApart inside × HasLinksApart after
HasLinksApart (Closing closer after) = HasLinksApart after
HasLinksApart (Opening opener after) = HasLinksApart after

-- ## Facts that a decision preserves for this

-- the same brackets; an inactive bracket stays inactive
abbrev pub Persist : (old new : List Opener) → Type 0
Persist [] new = new ≡ []
Persist (o ∷ os) [] = ⊥
Persist (o ∷ os) (n ∷ ns) = (n.bracket ≡ o.bracket) × (o.is_inactive ≡ true → n.is_inactive ≡ true) × Persist os ns

-- no bracket of these can open a link
abbrev pub OpenNoLink : List Opener → Type 0
OpenNoLink [] = Unit {0}
OpenNoLink (o ∷ os) = ((o.is_inactive || o.bracket.is_image) ≡ true) × OpenNoLink os

-- brackets after the taken one are removed; it was active; and after a link no earlier bracket can open a link
pub record FormsApart (taken : Opener) (before : List Opener) (formed : Formed) (after : List Opener) : Type 0 where
  pub active : taken.is_inactive ≡ false
  pub persist : Persist before after
  pub links : is_link taken.bracket formed ≡ true → OpenNoLink after

abbrev pub ResultsApart : (openers : List Opener) → Result → (after : List Opener) → Type 0
ResultsApart openers StaysText after = Persist openers after
ResultsApart openers (Forms nearer formed) after = (taken : Opener) (before : List Opener) → drop nearer openers ≡ taken ∷ before → FormsApart taken before formed after

abbrev pub KeepsApart : List Opener → Outcome → Type 0
KeepsApart openers o = ResultsApart openers o.result o.after.openers

pub record KeepsLinksApart (decide : State → (closer : Bracket) → Decision) : Type 0 where
  pub keeps : (s : State) (closer : Bracket) → Always (KeepsApart s.openers) (decide s closer)
