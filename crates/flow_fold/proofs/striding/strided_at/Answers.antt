use Rattle.std.proofs.Common.{◌≡◌, ◌<◌, ◌∙◌, ap, subst, List, arith, length, refl, Some, rules, true}
use Rattle.std.specs.Prelude.{ℤ, slice_get}
use Rattle.std.proofs.lemmas.Bool.Decides.{nat_tests}
use Rattle.std.proofs.lemmas.Option.{slice_get_read}
use Rattle.ir_forms.specs.declared.flow.FlowNode.{FlowNode}
use Rattle.flow_fold.specs.inside.Copies.{covers}
use Rattle.flow_fold.specs.inside.Folds.{with_node}
use Rattle.flow_fold.specs.inside.Strides.{Ahead, sum_on}
use Rattle.flow_fold.proofs.Rounds.{small_round}
use Rattle.flow_fold.proofs.StrideFacts.{leads, lead_small}
use Rattle.flow_fold.proofs.StridedBlocks.{striding_stands}
use Rattle.flow_fold.proofs.striding.strided_at.Goals as goal

pub returns-in_ok-m-in-Some-ahead : goal.returns-in_ok-m-in-Some-ahead
returns-in_ok-m-in-Some-ahead c =
    let v = c.as_slice-nodes.ensures.value in
    let ns = c.as_slice-nodes.result.now in
    let a = c.in-Some.a.now in
    let s = c.in-Some-get.c.now in
    let n = c.in-Some-get-2.n.now in
    let li : c.args.i < length ns = grind (arith, nat_tests, c.in-Some.ensures.lookup.0) in
    let lk : c.args.k < length ns = grind (arith, nat_tests, c.in-Some-get.ensures.lookup.0) in
    let lj : c.args.j < length ns = grind (arith, nat_tests, c.in-Some-get-2.ensures.lookup.0) in
    let other : slice_get ns c.args.i ≡ Some a = slice_get_read ns _ c.args.i a refl li c.in-Some.ensures.lookup.1 in
    let middle : slice_get ns c.args.k ≡ Some s =
    slice_get_read ns _ c.args.k s refl lk c.in-Some-get.ensures.lookup.1 in
    let place : slice_get ns c.args.j ≡ Some n =
    slice_get_read ns _ c.args.j n refl lj c.in-Some-get-2.ensures.lookup.1 in
    let g = c.covers.ensures in
    let h = c.covers-in-Some-get-2.ensures in
    let p = c.if-not-covers.false in
    let q = c.if-not-covers-2.false in
    let base_guard : covers a.guard n.guard ≡ true = search rules in
    let step_guard : covers s.guard n.guard ≡ true = search rules in
    let b = c.in-Some-ahead.b in
    let ahead : Ahead ns c.args.k s a n b = c.in-Some-ahead.ensures in
    let small = lead_small ns c.args.k s a n b (leads ns c.args.k s a n b ahead) in
    let sum = c.in_ok-m-in-Some-ahead.ensures ∙ ap (λ (z : ℤ). sum_on c.args.i n z) (small_round b small) in
    striding_stands c.args.block c.with_node.result
    (record {
      place = c.args.j;
      node = n;
      there = subst (λ (x : List FlowNode). slice_get x c.args.j ≡ Some n) v place;
      other = c.args.i;
      base = a;
      standing = subst (λ (x : List FlowNode). slice_get x c.args.i ≡ Some a) v other;
      apart = λ e. grind (arith, nat_tests, c.if-i-j.false, e);
      base_guard = base_guard;
      middle = c.args.k;
      step = s;
      between = subst (λ (x : List FlowNode). slice_get x c.args.k ≡ Some s) v middle;
      aside = λ e. grind (arith, nat_tests, c.if-k-j.false, e);
      step_guard = step_guard;
      number = b;
      ahead = subst (λ (x : List FlowNode). Ahead x c.args.k s a n b) v ahead;
      becomes = c.with_node.ensures ∙ ap (with_node c.args.block c.args.j) sum;
    })
