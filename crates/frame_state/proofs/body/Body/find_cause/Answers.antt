use Rattle.std.proofs.Common.{sym, ap, ap₂, ◌∙◌}
use Rattle.trips_isa.specs.Marks.{least, least_at, writes_to}
use Rattle.commit_flush_spec.specs.Marks.{mark_held}
use Rattle.frame_state.specs.inside.Held.{Held}
use Rattle.frame_state.proofs.LeastFacts.{owed_is}
use Rattle.frame_state.proofs.body.Body.find_cause.Goals as goal

pub returns : goal.returns
returns c = record {
  value = c.least.ensures.value
      ∙ ap₂ least
      (c.least_of_writes.ensures
      ∙ ap (λ n. least_at (mark_held c.args.self.now.marks) (writes_to n)) c.len-count.ensures.value)
      (c.least-numbers.ensures.value
      ∙ ap₂ least c.least_of_numbers.ensures
      (c.exit-exit.ensures.value ∙ ap (λ (h : Held). h.marks.exit) c.self.view_is))
      ∙ sym (owed_is (mark_held c.args.self.now.marks) c.args.block.now);
}
