use Rattle.target_file.proofs.Laws.{bare_image, bare_fault}
use Rattle.target_file.proofs.law.bare_texts_are_texts.Goals as goal

pub returns : goal.returns
returns c = record { images = bare_image; faults = bare_fault }
