use Rattle.std.proofs.Common.{ℕ, List, ◌++◌, length, drop, take, min, take_all, replicate, length-append, length-drop, ap, ◌∙◌, arith}
use Rattle.std.specs.List.{position_or_len}
use Rattle.cmark_search.proofs.Sets.{front-place}
use Rattle.cmark_search.proofs.search.find_in_few.Goals as goal

-- the sixteen lanes begin with the bytes
pub returns-clause-value : goal.returns-clause-value
returns-clause-value g c =
    let p = g.S.LaneSet.has c.args.set.now in
    let bytes = c.args.bytes.now in
    let zeroes : List ℕ = replicate 16 0 in
    let zeros = drop (length bytes) zeroes in
    let sixteen = take_all 16 (bytes ++ zeros) (omega (arith, length-append bytes zeros, length-drop (length bytes) zeroes, c.requires)) in
    c.min.ensures ∙ ap (λ n. min n (length bytes)) (c.lanes_before.ensures.value ∙ ap (λ l. position_or_len p (take 16 l)) c.padded-lanes.ensures ∙ ap (position_or_len p) sixteen) ∙ front-place p bytes zeros
