use Rattle.flow_fold.proofs.NumberTables.{kept_by_table}
use Rattle.flow_fold.proofs.renumbering.kept.Goals as goal

pub returns : goal.returns
returns c =
    let a = c.in_ok-table.ensures in
    let b = c.as_slice.ensures.value in
    kept_by_table c.args.keeps.now c.args.block.now c.in_ok-made.made c.as_slice.result.now c.going_count-less.result
    (cc) c.going_count-less.ensures c.in_ok-made.ensures
