use Rattle.c_front.proofs.Once.{not_both, refused_once}
use Rattle.c_front.proofs.EveryText.{every_text}
use Rattle.c_front.proofs.law.one_stage_answers.Goals as goal

pub returns-clause-not_both : goal.returns-clause-not_both
returns-clause-not_both c = not_both

pub returns-clause-once : goal.returns-clause-once
returns-clause-once c = refused_once

pub returns-clause-some : goal.returns-clause-some
returns-clause-some c = every_text
