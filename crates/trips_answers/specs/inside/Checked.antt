-- What `run` and `save` answer to an image.
use Rattle.std.specs.Prelude.{ℕ, List, All, ◌⊎◌}
use Rattle.trips_isa.specs.declared.block.Image.{Image}
use Rattle.block_check.specs.declared.fault.CheckFault.{CheckFault}
use Rattle.block_check.specs.Faults.{IsGood}
use Rattle.block_check.specs.Images.{IsFirstBad}
use Rattle.trips_answers.specs.declared.forms.Settings.{Settings}
use Rattle.trips_requests.specs.declared.status.Status.{Status}
use Rattle.trips_requests.specs.declared.status.Status.TheVariants as status
use Rattle.trips_report.specs.Refusals.{check_text}
use Rattle.trips_grid_answers.specs.Saved.{IsSavedRun}
use Rattle.trips_answers.specs.Worked.{IsRunBy}
use Rattle.trips_requests.specs.Texts.{IsFixed}

-- the run of an image of good blocks, or the refusal of its first block that is not good
abbrev pub IsRunOfChecked : Image → Settings → List ℕ → Status → List ℕ → Type 0
IsRunOfChecked image settings input s report =
    (All IsGood image.blocks × IsRunBy image.blocks image.bytes input settings s report)
    ⊎ ((number : ℕ) × (fault : CheckFault) × IsFirstBad image number fault
    × IsFixed status.Refused (check_text number fault) s report)

-- the save of its run, or that refusal
abbrev pub IsSaveOfChecked : Image → Settings → List ℕ → Status → List ℕ → Type 0
IsSaveOfChecked image settings input s report =
    (All IsGood image.blocks × IsSavedRun image input settings.most s report)
    ⊎ ((number : ℕ) × (fault : CheckFault) × IsFirstBad image number fault
    × IsFixed status.Refused (check_text number fault) s report)
