use Rattle.std.proofs.Common.{◌≡◌, ◌<◌, subst, List, arith, length, refl, Some}
use Rattle.std.specs.Prelude.{slice_get}
use Rattle.std.proofs.lemmas.Bool.Decides.{nat_tests}
use Rattle.std.proofs.lemmas.Option.{MatchOption-at_some, slice_get_read}
use Rattle.ir_forms.specs.declared.flow.FlowNode.{FlowNode}
use Rattle.flow_fold.specs.inside.Folds.{Turns}
use Rattle.flow_fold.proofs.FoldedBlocks.{folding_stands}
use Rattle.flow_fold.proofs.folding.turned_at.Goals as goal

pub returns-in-Some-found : goal.returns-in-Some-found
returns-in-Some-found c =
    let v = c.as_slice-nodes.ensures.value in
    let l : c.args.j < length c.as_slice-nodes.result.now = grind (arith, nat_tests, c.in-Some.ensures.lookup.0) in
    let at : slice_get c.as_slice-nodes.result.now c.args.j ≡ Some c.in-Some.n.now =
    slice_get_read c.as_slice-nodes.result.now _ c.args.j c.in-Some.n.now refl l c.in-Some.ensures.lookup.1 in
    let t : Turns c.as_slice-nodes.result.now c.args.j c.in-Some.n.now c.in-Some-found.m =
    MatchOption-at_some (Unit {0})
    (λ (m : FlowNode). Turns c.as_slice-nodes.result.now c.args.j c.in-Some.n.now m) c.in-Some-found.m
    c.in-Some-found.is c.in_ok-found-in-Some.ensures in
    folding_stands c.args.block c.with_node.result
    (record {
      place = c.args.j;
      old = c.in-Some.n.now;
      new = c.in-Some-found.m;
      there = subst (λ (ns : List FlowNode). slice_get ns c.args.j ≡ Some c.in-Some.n.now) v at;
      turns = subst (λ (ns : List FlowNode). Turns ns c.args.j c.in-Some.n.now c.in-Some-found.m) v t;
      becomes = c.with_node.ensures;
    })
