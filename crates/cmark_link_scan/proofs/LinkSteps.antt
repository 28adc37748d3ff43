-- The destination of a link.
use Rattle.std.proofs.Common.{◌≡◌, ℕ, List, drop, Some, sym, ap, ◌∙◌}
use Rattle.std.specs.Str.{IsUtf8}
use Rattle.cmark_grammar.specs.Destinations.{link_destination_in}
use Rattle.cmark_link_scan.proofs.DestinationSteps.{Cut, found_at, destination_ends}

-- the part that was found, and the text after it
pub destination_value : (text part following : List ℕ) (end : ℕ) → IsUtf8 text → Cut text end part → following ≡ drop end text → Some (found_at part following) ≡ link_destination_in text
destination_value text part following end utf8 c is =
    let rest : following ≡ c.found.following = is ∙ ap (λ n. drop n text) c.end_is ∙ (destination_ends text c.found utf8 c.is).rest in
    ap (λ l. Some (found_at l following)) c.part_is ∙ ap (λ l. Some (found_at c.found.bytes l)) rest ∙ sym c.is
