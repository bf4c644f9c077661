use Rattle.std.proofs.Common.{ap}
use Rattle.commit_flush_spec.specs.Window as event
use Rattle.frame_state.specs.Events.{as_event}
use Rattle.commit_flush.proofs.TryFacts.{happens_done, went_if_done}
use Rattle.commit_flush.proofs.window.Window.make_happen.Goals as goal

pub try_fire-requires : goal.try_fire-requires
try_fire-requires c = record { goes_on = went_if_done _ _ c.requires.done }

pub try_deliver-requires : goal.try_deliver-requires
try_deliver-requires c = record { goes_on = went_if_done _ _ c.requires.done }

pub returns-in-Fire : goal.returns-in-Fire
returns-in-Fire c = happens_done c.args.self.now (event.Fire c.in-Fire.frame c.in-Fire.slot) (as_event c.args.e)
    (ap as_event c.in-Fire.is) c.requires.done _ c.try_fire.ensures.window

pub returns-in-Deliver : goal.returns-in-Deliver
returns-in-Deliver c = happens_done c.args.self.now (event.Deliver c.in-Deliver.token) (as_event c.args.e)
    (ap as_event c.in-Deliver.is) c.requires.done _ c.try_deliver.ensures.window
