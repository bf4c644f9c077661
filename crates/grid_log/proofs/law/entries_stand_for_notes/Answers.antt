use Rattle.grid_log.proofs.Logging.{stands}
use Rattle.grid_log.proofs.Kept.{kept_is}
use Rattle.grid_log.proofs.law.entries_stand_for_notes.Goals as goal

pub returns-clause-kept : goal.returns-clause-kept
returns-clause-kept c = kept_is

pub returns-clause-one : goal.returns-clause-one
returns-clause-one c = stands
