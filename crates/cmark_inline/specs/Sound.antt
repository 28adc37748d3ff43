-- Facts about the slots of a leaf while it is read: their texts and links, and their quotes, delimiter runs and brackets.
use Rattle.std.specs.Prelude.{length}
use Rattle.cmark_leaf_text.specs.declared.leaf_text.LeafText.{LeafText}
use Rattle.cmark_slots.specs.declared.bracket.Bracket.{Bracket}
use Rattle.cmark_inline.specs.declared.state.InlineState.{InlineState}
use Rattle.cmark_slots.specs.Standing.{AreEnded, AreSound, IsTaken, IsTakenPair}

abbrev pub IsSound : InlineState → Type 0
IsSound state =
    AreSound (length state.texts.items) (length state.links.items) state.slots.items state.delimiters.placed.items state.quotes.placed.items state.brackets.standing.items state.doubled.standing.items

abbrev pub IsTakenFrom : InlineState → Bracket → Type 0
IsTakenFrom state bracket = IsTaken state.slots.items state.delimiters.placed.items state.quotes.placed.items state.brackets.standing.items state.doubled.standing.items bracket

abbrev pub IsPairFrom : InlineState → Bracket → Type 0
IsPairFrom state bracket = IsTakenPair state.slots.items state.delimiters.placed.items state.quotes.placed.items state.brackets.standing.items bracket

-- these facts hold after a call if they hold before it
pub record KeepsSound (old new : InlineState) : Type 0 where
  pub sound : IsSound old → IsSound new
  pub ends : (leaf : LeafText) → AreEnded leaf old.slots.items → AreEnded leaf new.slots.items
