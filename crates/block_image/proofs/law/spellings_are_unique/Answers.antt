use Rattle.std.proofs.Common.{sym, ◌∙◌}
use Rattle.block_image.proofs.Prefix.{one_image, no_front}
use Rattle.block_image.proofs.law.spellings_are_unique.Goals as goal

pub returns-clause-one_image : goal.returns-clause-one_image
returns-clause-one_image c = one_image

pub returns-clause-one_spelling : goal.returns-clause-one_spelling
returns-clause-one_spelling c = λ i bytes more a b. a.spelled ∙ sym b.spelled

pub returns-clause-no_prefix : goal.returns-clause-no_prefix
returns-clause-no_prefix c = no_front
