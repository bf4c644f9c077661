use Rattle.std.proofs.Common.{◌≡◌, ◌<◌, subst, List, arith, length, refl, Some}
use Rattle.std.specs.Prelude.{slice_get}
use Rattle.std.proofs.lemmas.Bool.Decides.{nat_tests}
use Rattle.std.proofs.lemmas.Option.{slice_get_read}
use Rattle.ir_forms.specs.declared.flow.FlowNode.{FlowNode}
use Rattle.flow_fold.specs.inside.Folds.{Turns}
use Rattle.flow_fold.proofs.FoldedBlocks.{folding_stands}
use Rattle.flow_fold.proofs.joining.left_joined_at.Goals as goal

pub returns-in_ok-m-in-Some : goal.returns-in_ok-m-in-Some
returns-in_ok-m-in-Some c =
    let v = c.as_slice-nodes.ensures.value in
    let ns = c.as_slice-nodes.result.now in
    let l : c.args.j < length ns = grind (arith, nat_tests, c.in-Some.ensures.lookup.0) in
    let at : slice_get ns c.args.j ≡ Some c.in-Some.n.now =
    slice_get_read ns _ c.args.j c.in-Some.n.now refl l c.in-Some.ensures.lookup.1 in
    folding_stands c.args.block c.with_node.result
    (record {
      place = c.args.j;
      old = c.in-Some.n.now;
      new = c.in_ok-m-in-Some.m;
      there = subst (λ (x : List FlowNode). slice_get x c.args.j ≡ Some c.in-Some.n.now) v at;
      turns = subst (λ (x : List FlowNode). Turns x c.args.j c.in-Some.n.now c.in_ok-m-in-Some.m) v
          c.in_ok-m-in-Some.ensures;
      becomes = c.with_node.ensures;
    })
