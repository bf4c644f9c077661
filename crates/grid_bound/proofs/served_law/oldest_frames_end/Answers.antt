use Rattle.grid_bound.proofs.OldestEnds.{ends_open, ends_complete}
use Rattle.grid_bound.proofs.served_law.oldest_frames_end.Goals as goal

pub returns-clause-open : goal.returns-clause-open
returns-clause-open W c = λ blocks budget g f fs i ok went e. ends_open blocks budget g f fs i ok went e

pub returns-clause-all : goal.returns-clause-all
returns-clause-all W c = λ blocks budget g f fs i ok went e l. ends_complete blocks budget g f fs i ok went e l
