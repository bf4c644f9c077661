-- What saving and resuming are answered: a save file, the report of the second part of a run, or a refusal.
use Rattle.std.specs.Prelude.{◌≡◌, ◌⊎◌, ℕ, List, [], codes}
use Rattle.trips_isa.specs.declared.block.Image.{Image}
use Rattle.trips_isa.specs.declared.run.Stepped.TheVariants.{Went}
use Rattle.trips_isa.specs.Machine.{State, runs, start}
use Rattle.block_image.specs.declared.fault.ImageFault.{ImageFault}
use Rattle.block_image.specs.declared.fault.ImageFault.TheVariants as image
use Rattle.machine_save.specs.declared.fault.SaveFault.{SaveFault}
use Rattle.machine_save.specs.declared.fault.SaveFault.TheVariants as save
use Rattle.machine_save.specs.Spelling.{SaveBytes}
use Rattle.machine_save.specs.FirstFault.{FirstSaveFault}
use Rattle.grid_cycle.specs.declared.conditions.Conditions.{Conditions}
use Rattle.trips_report.specs.declared.show.Show.{Show}
use Rattle.trips_report.specs.Refusals.{at_place}
use Rattle.trips_requests.specs.declared.status.Status.{Status}
use Rattle.trips_requests.specs.declared.status.Status.TheVariants as status
use Rattle.trips_requests.specs.Texts.{IsFixed}
use Rattle.trips_grid_answers.specs.Runs.{IsRunFrom}

-- the report where a run ends, makes system call 4 or traps before it is to be saved
unfoldable pub over_text : List ℕ
over_text = codes "refused save 1 Over\n"

-- the refusal of a save file whose image has this fault: the place counts from the image's first byte
abbrev pub save_image_text : ImageFault → List ℕ
save_image_text image.Magic = codes "refused save 15 Image\n"
save_image_text image.Version = codes "refused save 15 Image\n"
save_image_text (image.Truncated at) = at_place (codes "refused save 15 Image") at
save_image_text (image.Trailing at) = at_place (codes "refused save 15 Image") at
save_image_text (image.BadField at) = at_place (codes "refused save 15 Image") at
save_image_text image.Memory = []

-- the refusal of bytes that save nothing: the stage, the number and the name of the fault, and its place
abbrev pub save_text : SaveFault → List ℕ
save_text save.Magic = codes "refused save 11 Magic\n"
save_text save.Version = codes "refused save 12 Version\n"
save_text (save.Truncated at) = at_place (codes "refused save 13 Truncated") at
save_text (save.BadField at) = at_place (codes "refused save 14 BadField") at
save_text (save.Image fault) = save_image_text fault
save_text (save.Bad number fault) = codes "refused save 16 Bad\n"
save_text save.Memory = []

-- The state of an image's run on an input is saved behind so many blocks, where the run has not ended, made system
-- call 4 or trapped by then; else the answer is that it is over.
abbrev pub IsSavedRun : Image → List ℕ → ℕ → Status → List ℕ → Type 0
IsSavedRun image input at s report =
    let run = runs image.blocks (start image.bytes input) at in
    ((run.1 ≡ Went) × SaveBytes image run.0 report × (s ≡ status.Ended))
    ⊎ ((run.1 ≡ Went → ⊥) × IsFixed status.Refused over_text s report)

-- the bytes save nothing, and the refusal says why
abbrev pub IsNoSave : List ℕ → List ℕ → Type 0
IsNoSave bytes text = (f : SaveFault) × FirstSaveFault bytes f × (text ≡ save_text f)

-- The run from the state that the bytes save is told, whose trace begins empty.
abbrev pub IsResumedRun : List ℕ → Conditions → ℕ → Show → Status → List ℕ → Type 0
IsResumedRun bytes conditions most show s report = (image : Image) × (t : State) × SaveBytes image t bytes
    × (t.trace ≡ []) × IsRunFrom image.blocks t conditions most show s report

-- or they are refused
abbrev pub IsResumed : List ℕ → Conditions → ℕ → Show → Status → List ℕ → Type 0
IsResumed bytes conditions most show s report =
    ((text : List ℕ) × IsNoSave bytes text × IsFixed status.Refused text s report)
    ⊎ IsResumedRun bytes conditions most show s report
