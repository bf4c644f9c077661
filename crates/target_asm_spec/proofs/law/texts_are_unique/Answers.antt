use Rattle.target_asm_spec.proofs.Images.{one_text, one_image, read_again}
use Rattle.target_asm_spec.proofs.law.texts_are_unique.Goals as goal

pub returns-clause-one_text : goal.returns-clause-one_text
returns-clause-one_text c = one_text

pub returns-clause-one_image : goal.returns-clause-one_image
returns-clause-one_image c = one_image

pub returns-clause-again : goal.returns-clause-again
returns-clause-again c = read_again
