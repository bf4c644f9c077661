use Rattle.smt_mode.specs.Fours.{fours_of}
use Rattle.trips_four_answers.proofs.Listed.{are_told}
use Rattle.trips_four_answers.proofs.running.ended_answer.Goals as goal

pub returns : goal.returns
returns c =
    are_told (fours_of c.args.four.now) c.args.cycles c.args.endings c.status.result c.in_ok-report.report.items
    c.tell_counts.new.out.items c.cycles.result c.costs-cost.result c.are_four.ensures c.status.ensures
    c.in_ok-report.ensures c.cycles.ensures c.costs-cost.ensures c.in_ok-tell_counts.ensures
