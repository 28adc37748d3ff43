use borrow.Rule.Slice.PartMut.{put_mid, post_of}
use Rattle.std.proofs.Common.{◌-◌, ◌++◌, length, drop, take, take_all, length-drop, ◌∙◌, arith}
use Rattle.cmark_search.proofs.Sets.{ends-written}
use Rattle.cmark_search.proofs.search.copy_ends.Goals as goal

pub returns : goal.returns
returns c =
    let bytes = c.args.bytes.now in
    let at = length bytes - c.args.size in
    let last = take_all (length bytes - at) (drop at bytes) (let l = length-drop at bytes in omega arith) in
    (λ i. put_mid at (length bytes - at) (c.copy_from_slice.ensures.after i ++ post_of 0 c.args.size c.args.lanes.now) (c.copy_from_slice-2.ensures.after i))
    ∙ (λ i. put_mid at (length bytes - at) (take c.args.size bytes ++ post_of 0 c.args.size c.args.lanes.now) (last i))
    ∙ ends-written bytes c.args.lanes.now c.args.size c.requires.size c.requires.all
