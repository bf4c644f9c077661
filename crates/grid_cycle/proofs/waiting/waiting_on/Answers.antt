use Rattle.std.proofs.Common.{ap, ◌∙◌}
use Rattle.commit_flush.specs.Observed.{is_whole_in, lack_in}
use Rattle.grid_cycle.proofs.LackFacts.{first_is_oldest, none_oldest}
use Rattle.grid_cycle.proofs.waiting.waiting_on.Goals as goal

pub returns-in-None : goal.returns-in-None
returns-in-None c = record {
  value = ap lack_in (none_oldest c.args.window.now.window.frames c.in-None.ensures.value);
  whole = ap is_whole_in (none_oldest c.args.window.now.window.frames c.in-None.ensures.value);
}

pub returns-in-Some : goal.returns-in-Some
returns-in-Some c = record {
  value = c.lacks.ensures.value
      ∙ ap lack_in (first_is_oldest c.args.window.now.window.frames c.in-Some.frame c.in-Some.ensures.value);
  whole = c.lacks.ensures.whole
      ∙ ap is_whole_in (first_is_oldest c.args.window.now.window.frames c.in-Some.frame c.in-Some.ensures.value);
}
