use Rattle.commit_flush_spec.specs.Older.{committed}
use Rattle.grid_machine.proofs.FiringFacts.{never_done, not_open}
use Rattle.grid_machine.proofs.ready.unread.Goals as goal

pub returns : goal.returns
returns c =
    let w = c.args.window.now.window in
    record {
      value = c.unread.ensures.value;
      closed = λ r l e. never_done w.over _
          (not_open c.args.frame r c.unread.result w.frames (committed w.state) (c.unread.ensures.value r l) e);
    }
