-- Lines that begin with a bracket and not with a link reference definition (CommonMark 4.7).
use Rattle.std.specs.Prelude.{ℕ, Bool, true, false, ◌==◌, ◌&&◌, not, if◌then◌else◌, List, [], ◌∷◌}
use Rattle.cmark_grammar.specs.Characters.{colon, left_bracket, right_bracket}
use Rattle.cmark_grammar.specs.Letters.{first_is}
use Rattle.cmark_grammar.specs.LinkDefinitions.{escapes_next}

abbrev pub is_colon : ℕ → Bool
is_colon b = b == colon

-- the label ends here without a colon after it, or another bracket opens in it
abbrev pub lacks_colon : (escaped : Bool) → List ℕ → Bool
lacks_colon escaped [] = false
lacks_colon escaped (b ∷ bs) =
    if not escaped && (b == right_bracket) then not (first_is is_colon bs)
    else if not escaped && (b == left_bracket) then true
    else lacks_colon (escapes_next escaped b) bs

abbrev pub begins_none : List ℕ → Bool
begins_none [] = false
begins_none (b ∷ bs) = (b == left_bracket) && lacks_colon false bs
