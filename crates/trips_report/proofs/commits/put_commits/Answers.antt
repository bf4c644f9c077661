use Rattle.std.proofs.Common.{◌≡◌, ◌++◌, OnOk, subst}
use Rattle.trips_report.proofs.CommitFacts.{table_lines}
use Rattle.trips_report.proofs.commits.put_commits.Goals as goal

pub returns : goal.returns
returns c = record {
  ok = subst (λ lines. OnOk c.put_counts.result (c.put_counts.new.out.items ≡ c.args.out.now.items ++ lines))
      (table_lines c.deref.result.now c.in_ok-counts.counts.items c.args.trace.now c.above-numbers.result
      c.deref.ensures.value c.above-numbers.ensures c.in_ok-counts.ensures.size c.in_ok-counts.ensures.each)
      c.put_counts.ensures.ok;
}
