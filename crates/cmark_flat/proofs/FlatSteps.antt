-- The flat records of one event more.
use Rattle.std.proofs.Common.{◌≡◌, List, [], ◌∷◌, ◌++◌, ap, ◌∙◌, append-nil}
use Rattle.std.specs.List.{flat_map}
use Rattle.std.proofs.lemmas.Grind.{flat_map-append}
use Rattle.std.proofs.lemmas.List.Concat.{flat_map-cons}
use Rattle.cmark_grammar.specs.Event.{Ranged}
use Rattle.cmark_flat.specs.Flat.{flat, records}
use Rattle.cmark_flat.specs.Records.{record_bytes, spelled}

pub flat_more : (rs : List Ranged) (r : Ranged) → flat (rs ++ r ∷ []) ≡ flat rs ++ spelled (records r)
flat_more rs r =
    let one : flat_map records (r ∷ []) ≡ records r = flat_map-cons records r [] ∙ append-nil (records r) in
    ap spelled (flat_map-append records rs (r ∷ []) ∙ ap (λ l. flat_map records rs ++ l) one)
    ∙ flat_map-append record_bytes (flat_map records rs) (records r)
