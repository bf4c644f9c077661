use Rattle.std.proofs.Common.{◌≡◌, length, nat_le, true}
use Rattle.std.proofs.lemmas.Bool.{leb-true}
use Rattle.flow_fold.proofs.SweptAtOnce.{sweeping_all_stands}
use Rattle.flow_fold.proofs.sweeping.swept.Goals as goal

pub returns-then-takes_all : goal.returns-then-takes_all
returns-then-takes_all c =
    let a = c.if-not-is_within.ensures in
    let b = c.if-not-may_sweep.ensures in
    let e = c.if-takes_all.ensures in
    let g = c.as_slice.ensures.value in
    let w : nat_le (length c.args.keeps.now) (length c.args.block.nodes) ≡ true = cc in
    sweeping_all_stands c.args.block c.in_ok-less.less
    (record {
      keeps = c.args.keeps.now;
      within = leb-true _ _ w;
      may = cc;
      becomes = c.in_ok-less.ensures;
      taken = cc;
    })
