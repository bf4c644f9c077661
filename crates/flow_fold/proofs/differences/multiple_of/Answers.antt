use Rattle.std.proofs.Common.{◌≡◌, rules, refl, ap, sym, subst, ◌∙◌, to_z, of_z, w32, ℤ, Some}
use Rattle.std.specs.Prelude.{◌*ℤ◌}
use Rattle.flow_fold.specs.inside.Offsets.{if_small}
use Rattle.flow_fold.specs.inside.Strides.{Times, multiple}
use Rattle.flow_fold.specs.inside.Sums.{adds}
use Rattle.flow_fold.proofs.Rounds.{small_round}
use Rattle.flow_fold.proofs.StrideFacts.{adds_small, times_small, multiple_small}
use Rattle.flow_fold.proofs.SumFacts.{adds_is}
use Rattle.flow_fold.proofs.differences.multiple_of.Goals as goal

pub returns-in-Some-small_product : goal.returns-in-Some-small_product
returns-in-Some-small_product c =
    let ns = c.args.nodes.now in
    let a = c.args.c.now in
    let n = c.args.n.now in
    let d = c.in-Some-adds.d in
    let w = c.in-Some.w in
    let b = c.in-Some-small_product.b in
    let e = c.in-Some-adds.ensures in
    let i : to_z w32 (of_z w32 n.imm) ≡ n.imm = search rules in
    let t : Times n.op n.imm w = subst (λ (z : ℤ). Times n.op z w) i c.in-Some.ensures in
    let p = c.in-Some-small_product.ensures in
    let s : adds ns a a.op ≡ Some d = cc in
    let rd : to_z w32 (of_z w32 d) ≡ d = small_round d (adds_small ns a d (adds_is ns a d a.op refl s)) in
    let rt : to_z w32 (of_z w32 w) ≡ w = small_round w (times_small n.op n.imm w t) in
    let q : if_small d w (d *ℤ w) ≡ Some b = cc in
    let rb : to_z w32 (of_z w32 b) ≡ b = small_round b (multiple_small ns a n b (multiple d w s t q)) in
    multiple d w s t (q ∙ ap (λ (z : ℤ). Some z) (sym rb))
