use Rattle.target_file.proofs.Laws.{one_image, one_fault, not_both, some}
use Rattle.target_file.proofs.law.files_tell_one.Goals as goal

pub returns : goal.returns
returns c = record { one_image = one_image; one_fault = one_fault; not_both = not_both; some = some }
