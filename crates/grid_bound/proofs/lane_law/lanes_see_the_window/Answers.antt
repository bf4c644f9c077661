use Rattle.grid_bound.proofs.Ready.{ready_seen}
use Rattle.grid_bound.proofs.Seen.{complete_seen, unread_seen}
use Rattle.grid_bound.proofs.lane_law.lanes_see_the_window.Goals as goal

pub returns-clause-complete : goal.returns-clause-complete
returns-clause-complete W c = λ g f t l. complete_seen g f t l

pub returns-clause-unread : goal.returns-clause-unread
returns-clause-unread W c = λ g f t r e. unread_seen g f t e r

pub returns-clause-ready : goal.returns-clause-ready
returns-clause-ready W c = λ g f a t solves holds e s l. ready_seen g f a t solves holds e s l
