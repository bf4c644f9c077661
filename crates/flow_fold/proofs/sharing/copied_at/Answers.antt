use Rattle.std.proofs.Common.{◌≡◌, ◌<◌, ◌∙◌, ap, subst, List, arith, length, refl, Some}
use Rattle.std.specs.Prelude.{slice_get}
use Rattle.std.proofs.lemmas.Bool.Decides.{nat_tests}
use Rattle.std.proofs.lemmas.Option.{slice_get_read}
use Rattle.ir_forms.specs.declared.flow.FlowNode.{FlowNode}
use Rattle.flow_fold.specs.inside.Folds.{with_node}
use Rattle.flow_fold.proofs.SharedBlocks.{sharing_stands}
use Rattle.flow_fold.proofs.sharing.copied_at.Goals as goal

pub returns-in_ok-m-in-Some-get : goal.returns-in_ok-m-in-Some-get
returns-in_ok-m-in-Some-get c =
    let v = c.as_slice-nodes.ensures.value in
    let ns = c.as_slice-nodes.result.now in
    let l : c.args.i < length ns = grind (arith, nat_tests, c.in-Some.ensures.lookup.0) in
    let k : c.args.j < length ns = grind (arith, nat_tests, c.in-Some-get.ensures.lookup.0) in
    let other : slice_get ns c.args.i ≡ Some c.in-Some.a.now =
    slice_get_read ns _ c.args.i c.in-Some.a.now refl l c.in-Some.ensures.lookup.1 in
    let place : slice_get ns c.args.j ≡ Some c.in-Some-get.n.now =
    slice_get_read ns _ c.args.j c.in-Some-get.n.now refl k c.in-Some-get.ensures.lookup.1 in
    let copy = c.in_ok-m-in-Some-get.ensures in
    sharing_stands c.args.block c.with_node.result
    (record {
      place = c.args.j;
      node = c.in-Some-get.n.now;
      there = subst (λ (x : List FlowNode). slice_get x c.args.j ≡ Some c.in-Some-get.n.now) v place;
      other = c.args.i;
      twin = c.in-Some.a.now;
      standing = subst (λ (x : List FlowNode). slice_get x c.args.i ≡ Some c.in-Some.a.now) v other;
      apart = λ e. grind (arith, nat_tests, c.if-i-j.false, e);
      twins = c.are_twins.ensures c.if-are_twins.true;
      becomes = c.with_node.ensures ∙ ap (with_node c.args.block c.args.j) copy;
    })
