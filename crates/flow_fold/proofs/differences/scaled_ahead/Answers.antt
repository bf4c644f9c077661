use Rattle.std.proofs.Common.{◌≡◌, ◌∷◌, [], rules, sym, subst, to_z, of_z, w32, ℤ}
use Rattle.ir_forms.specs.declared.flow.FlowSource.TheVariants.{Node}
use Rattle.flow_fold.specs.inside.Strides.{Multiple, scaled}
use Rattle.flow_fold.proofs.Rounds.{small_round}
use Rattle.flow_fold.proofs.StrideFacts.{multiple_small}
use Rattle.flow_fold.proofs.differences.scaled_ahead.Goals as goal

pub returns-in-Some : goal.returns-in-Some
returns-in-Some c =
    let ns = c.args.nodes.now in
    let s = c.args.c.now in
    let a = c.args.a.now in
    let n = c.args.n.now in
    let b = c.in-Some.b in
    let m : Multiple ns s n b = c.in-Some.ensures in
    let r : to_z w32 (of_z w32 b) ≡ b = small_round b (multiple_small ns s n b m) in
    let at : n.left ≡ Node c.args.k ∷ [] = search rules in
    let left : a.left ≡ s.left = search rules in
    let right : a.right ≡ n.right = search rules in
    let op : a.op ≡ n.op = search rules in
    let imm : a.imm ≡ n.imm = search rules in
    scaled at left right op imm (subst (λ (z : ℤ). Multiple ns s n z) (sym r) m)
