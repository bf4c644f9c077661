use Rattle.grid_bound.proofs.Courses.{course_good}
use Rattle.grid_bound.proofs.Sizes.{tasks_are, price_is}
use Rattle.grid_bound.proofs.lane_law.courses_are_good.Goals as goal

pub returns-clause-size : goal.returns-clause-size
returns-clause-size c = tasks_are

pub returns-clause-price : goal.returns-clause-price
returns-clause-price c = price_is

pub returns-clause-good : goal.returns-clause-good
returns-clause-good c = λ b a g runnable solves. course_good b runnable a g solves
