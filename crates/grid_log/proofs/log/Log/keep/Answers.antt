use Rattle.grid_log.proofs.Logging.{logged_event}
use Rattle.grid_log.proofs.log.Log.keep.Goals as goal

pub returns : goal.returns
returns c = logged_event c.args.self.now c.put.new.self c.args.event c.put.ensures.cycle c.put.ensures.keeps
