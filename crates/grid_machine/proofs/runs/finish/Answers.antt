use Rattle.std.proofs.Common.{sym}
use Rattle.grid_parts.specs.Seen.{seen}
use Rattle.grid_machine.proofs.CallFacts.{end_cycles, end_ended, end_is, end_kept, end_rests, going_ended, going_kept}
use Rattle.grid_machine.proofs.RunFacts.{end_going}
use Rattle.grid_machine.proofs.runs.finish.Goals as goal

pub returns-then-is_going-clause-change : goal.returns-then-is_going-clause-change
returns-then-is_going-clause-change g c =
    let here = seen (g.V.Windows.held c.args.grid.now.window) c.args.grid.now.state in
    sym (end_going c.args.budget here (sym c.if-is_going.ensures))

pub returns-then-is_going-clause-value : goal.returns-then-is_going-clause-value
returns-then-is_going-clause-value g c =
    going_ended c.args.budget (g.V.Windows.held c.args.grid.now.window) (sym c.if-is_going.ensures)

pub returns-then-is_going-clause-kept : goal.returns-then-is_going-clause-kept
returns-then-is_going-clause-kept g c =
    let here = seen (g.V.Windows.held c.args.grid.now.window) c.args.grid.now.state in
    going_kept c.args.budget here (sym c.if-is_going.ensures) c.requires.counted

pub ending-requires : goal.ending-requires
ending-requires g c =
    let here = seen (g.V.Windows.held c.args.grid.now.window) c.args.grid.now.state in
    let there = seen (g.V.Windows.held c.close.new.grid.window) c.close.new.grid.state in
    record { rests = end_rests c.args.budget here there (sym c.if-is_going.ensures) c.close.ensures.change }

pub returns-clause-change : goal.returns-clause-change
returns-clause-change g c =
    let here = seen (g.V.Windows.held c.args.grid.now.window) c.args.grid.now.state in
    let there = seen (g.V.Windows.held c.close.new.grid.window) c.close.new.grid.state in
    end_is c.args.budget here there (sym c.if-is_going.ensures) c.close.ensures.change

pub returns-clause-value : goal.returns-clause-value
returns-clause-value g c =
    let here = seen (g.V.Windows.held c.args.grid.now.window) c.args.grid.now.state in
    let there = seen (g.V.Windows.held c.close.new.grid.window) c.close.new.grid.state in
    end_ended c.args.budget here there (sym c.if-is_going.ensures) c.close.ensures.change c.ending.result
    c.ending.ensures.value

pub returns-clause-kept : goal.returns-clause-kept
returns-clause-kept g c =
    let here = seen (g.V.Windows.held c.args.grid.now.window) c.args.grid.now.state in
    let there = seen (g.V.Windows.held c.close.new.grid.window) c.close.new.grid.state in
    end_kept c.args.budget here there (sym c.if-is_going.ensures) c.close.ensures.change c.requires.counted

pub returns-clause-cycles : goal.returns-clause-cycles
returns-clause-cycles g c =
    let here = seen (g.V.Windows.held c.args.grid.now.window) c.args.grid.now.state in
    let there = seen (g.V.Windows.held c.close.new.grid.window) c.close.new.grid.state in
    end_cycles c.args.budget here there (sym c.if-is_going.ensures) c.close.ensures.change
