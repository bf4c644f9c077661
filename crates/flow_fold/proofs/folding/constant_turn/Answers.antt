use Rattle.std.proofs.Common.{◌≡◌, ◌∙◌, ap, ℤ, Some}
use Rattle.flow_fold.specs.inside.Folds.{immediate, with_constant}
use Rattle.flow_fold.specs.inside.Immediates.{small_of}
use Rattle.flow_fold.proofs.ConstantFacts.{small_is}
use Rattle.flow_fold.proofs.Rounds.{small_round}
use Rattle.flow_fold.proofs.folding.constant_turn.Goals as goal

pub returns-in_ok-m-in-Some-small_of : goal.returns-in_ok-m-in-Some-small_of
returns-in_ok-m-in-Some-small_of c =
    let i = c.in-Some-small_of.imm in
    let a = c.in-Some-small_of.ensures in
    let b = c.as_slice.ensures.value in
    let d = c.in-Some.ensures in
    let small : small_of c.args.nodes.now c.args.n.now.right ≡ Some i = cc in
    let s = small_is c.args.nodes.now c.args.n.now.right i small in
    immediate i c.in-Some.op small (cc)
    (c.in_ok-m-in-Some-small_of.ensures
    ∙ ap (λ (z : ℤ). with_constant c.args.n.now c.in-Some.op z) (small_round i s.small))
