use Rattle.std.proofs.Common.{arith, length, ◌+◌, ◌-◌}
use Rattle.null_outputs.specs.inside.Listed as listed
use Rattle.null_outputs.proofs.Fillings.{numbers_turn}
use Rattle.null_outputs.proofs.stores.+push_numbers.Goals as goal

pub returns : goal.returns
returns t c =
    numbers_turn (listed.sure_in_guess c.args.block.now.nodes c.args.guess.now)
    (listed.cover_in c.args.block.now.nodes c.args.guess.now c.args.starts.now) c.args.block.now
    (length c.args.block.now.nodes) c.args.out.now c.push_number.new.out c.push_numbers.new.out c.in_ok-p.p c.args.k
    c.args.m (c.args.k + 1) (c.args.m - 1) (omega arith) (omega arith)
    (omega (arith, c.in_ok-p.ensures, c.len.ensures.value, c.len-2.ensures.value)) c.in_ok-push_number.ensures
    c.in_ok-push_numbers.ensures
