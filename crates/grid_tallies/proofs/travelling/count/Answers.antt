use Rattle.std.proofs.Common.{◌≡◌, true, false}
use Rattle.grid_tallies.proofs.Travelled.{taken_heard, waited_heard}
use Rattle.grid_tallies.proofs.travelling.count.Goals as goal

pub returns-then-free : goal.returns-then-free
returns-then-free c = λ n p l.
    let on : c.args.free ≡ true = cc in
    taken_heard c.args.free n p l c.args.told.now c.add.new.self on c.add.ensures

pub returns-else-free : goal.returns-else-free
returns-else-free c = λ n p l.
    let off : c.args.free ≡ false = cc in
    waited_heard c.args.free n p l c.args.told.now c.add-else-free.new.self off c.add-else-free.ensures
