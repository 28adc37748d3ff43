-- The brackets after a link or an image.
use Rattle.std.proofs.Common.{◌≡◌, ◌++◌, ◌∷◌, [], ℕ, Bool, true, false, List, length, refl, sym, ap, subst, ◌∙◌, arith}
use Rattle.std.specs.Prelude.{if◌then◌else◌}
use Rattle.cmark_grammar.specs.Siblings.{tag_by}
use Rattle.cmark_references.specs.Links.{shown_link}
use Rattle.cmark_references.specs.declared.link.Link.{Link}
use Rattle.cmark_inline.specs.Closers.{Deactivates, DeactivatesAfter, Drops, LeavesElement}
use Rattle.cmark_inline.specs.declared.state.InlineState.{InlineState}
use Rattle.cmark_slots.specs.SlotViews.{link_tag, linked_at}
use Rattle.cmark_slots.specs.Slots.{AreBrackets, AreFree}
use Rattle.cmark_slots.specs.declared.bracket.Brackets.{Brackets}
use Rattle.cmark_slots.specs.declared.slot.LinkElement.TheVariants as element
use Rattle.cmark_slots.specs.declared.slot.Slot.{Slot}
use Rattle.cmark_inline.proofs.ElementWrites.{image-shown, link-shown}

pub still-standing : (is_image : Bool) (old new : Brackets) → DeactivatesAfter is_image old new → new.standing.items ≡ old.standing.items
still-standing true old new d = ap (λ (v : Brackets). v.standing.items) d
still-standing false old new d = ap (λ v. v.items) d.standing

pub still-brackets : (is_image : Bool) (text : List ℕ) (at : ℕ) (old new : Brackets) → DeactivatesAfter is_image old new → AreBrackets text at old.standing.items → AreBrackets text at new.standing.items
still-brackets is_image text at old new d h = subst (AreBrackets text at) (sym (still-standing is_image old new d)) h

pub still-free : (is_image : Bool) (slots : List Slot) (old new : Brackets) → DeactivatesAfter is_image old new → (is_image ≡ true → AreFree slots old.standing.items old.inactive_below) → AreFree slots new.standing.items new.inactive_below
still-free true slots old new d h = subst (λ (v : Brackets). AreFree slots v.standing.items v.inactive_below) (sym d) (h refl)
still-free false slots old new d h = λ i bracket low lt.
    let below = d.inactive_below in
    let size = ap length (still-standing false old new d) in
    absurd (omega (arith, below, size, low, lt))

pub leaves-element : (is_image : Bool) (start : ℕ) (old mid new : InlineState) → mid.brackets ≡ old.brackets → Drops start old.doubled mid.doubled → DeactivatesAfter is_image mid.brackets new.brackets → DeactivatesAfter is_image mid.doubled new.doubled
    → LeavesElement is_image start old new
leaves-element true start old mid new same drops brackets doubled = record { same = brackets ∙ same; drops = subst (Drops start old.doubled) (sym doubled) drops }
leaves-element false start old mid new same drops brackets doubled = record {
  deactivates = subst (λ v. Deactivates v new.brackets) same brackets;
  between = mid.doubled;
  drops = drops;
  deactivates_doubled = doubled;
}

-- the tag of a link or an image whose parts are the last of the table
pub linked-shown : (is_image : Bool) (links : List Link) (parts : Link) (index : ℕ) → index ≡ length links → link_tag (if is_image then element.Image else element.Link) (linked_at (links ++ (parts ∷ [])) index) ≡ tag_by is_image (shown_link parts)
linked-shown true links parts index e = image-shown links parts index e
linked-shown false links parts index e = link-shown links parts index e
