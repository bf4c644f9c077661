use Rattle.std.proofs.Common.{ℕ, List, ap, ◌∙◌, arith}
use Rattle.predication.specs.inside.Made.{mask_of, mask_members}
use Rattle.predication.proofs.ReadLemmas.{found_mask, members_lt}
use Rattle.predication.proofs.outputs.mask.Goals as goal

pub overflow_cast-result : goal.overflow_cast-result
overflow_cast-result c =
    let l = members_lt c.as_slice.result.now 32 in
    let e = c.mask_below.ensures in
    omega (arith, l, e)

pub returns : goal.returns
unfolding mask_of
returns c =
    c.mask_below.ensures ∙ ap (λ (x : List ℕ). mask_members x 32) c.as_slice.ensures.value
    ∙ found_mask c.args.nodes.now c.new-found.result c.note_stores.new.found c.new-found.ensures.value
    c.in_ok-note_stores.ensures 32
