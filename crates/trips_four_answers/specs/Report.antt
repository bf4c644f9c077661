-- The report of four programs, each as it runs alone, and what it says besides of the four together.
use Rattle.std.specs.Prelude.{ℕ, ◌+◌, ◌≤◌, Bool, if◌then◌else◌, List, [], ◌∷◌, ◌++◌, codes}
use Rattle.trips_isa.specs.declared.block.Image.{Image}
use Rattle.trips_isa.specs.declared.run.Ending.{Ending}
use Rattle.trips_isa.specs.declared.run.Stepped.{Stepped}
use Rattle.trips_isa.specs.Machine.{State, runs, start}
use Rattle.grid_cycle_spec.specs.Costs.{cost_of}
use Rattle.trips_report.specs.Endings.{status_of}
use Rattle.trips_report.specs.Runs.{count_line}
use Rattle.trips_requests.specs.declared.status.Status.{Status}
use Rattle.trips_requests.specs.declared.status.Status.TheVariants as status
use Rattle.trips_requests.specs.Texts.{IsFixed}
use Rattle.trips_grid_answers.specs.Report.{ending_of, run_report, trap_cost}

-- one program -------------------------------------------------------------------------------------

-- what the machine's run of an image on an input comes to within so many blocks, the image alone
abbrev pub own_run : List ℕ → ℕ → Image → State × Stepped
own_run input most image = runs image.blocks (start image.bytes input) most

-- how it ends
abbrev pub own_ending : List ℕ → ℕ → Image → Ending
own_ending input most image = ending_of (own_run input most image).1 (own_run input most image).0.next

-- what it may cost on the grid, in cycles, the block at which it trapped among it
abbrev pub own_cost : List ℕ → ℕ → Image → ℕ
own_cost input most image = cost_of image.blocks (own_run input most image).0.trace
    + trap_cost image.blocks (own_ending input most image)

-- the line that a program's report begins with
unfoldable pub program_line : ℕ → List ℕ
program_line number = count_line (codes "program ") number

-- the report of the program of a number: this line, and the report of its run
abbrev pub program_text : ℕ → Ending → State → List ℕ
program_text number ending s = program_line number ++ run_report ending s

-- the four -----------------------------------------------------------------------------------------

-- the reports of programs, which are counted from a number
abbrev pub program_texts : List ℕ → ℕ → ℕ → List Image → List ℕ
program_texts input most number [] = []
program_texts input most number (image ∷ images) =
    program_text number (own_ending input most image) (own_run input most image).0
    ++ program_texts input most (number + 1) images

-- what their runs may cost together
abbrev pub costs : List ℕ → ℕ → List Image → ℕ
costs input most [] = 0
costs input most (image ∷ images) = own_cost input most image + costs input most images

-- a status that is not that of an end, and behind such an end the later one
abbrev pub status_or : Status → Status → Status
status_or status.Ended later = later
status_or other later = other

-- the status of the lowest program that has not ended with its end
abbrev pub first_status : List ℕ → ℕ → List Image → Status
first_status input most [] = status.Ended
first_status input most (image ∷ images) =
    status_or (status_of (own_ending input most image) (own_run input most image).0) (first_status input most images)

-- how many cycles were made, and how many the four might cost, where that is shown
unfoldable pub counts_text : Bool → ℕ → ℕ → List ℕ
counts_text cycles made cost =
    if cycles then count_line (codes "cycles ") made ++ count_line (codes "cost ") cost else []

-- These tell the runs of four images on one input, within so many blocks each, in so many cycles: the status and the
-- report of each are those of its run alone.
abbrev pub TellsIn : List Image → List ℕ → ℕ → Bool → ℕ → Status → List ℕ → Type 0
TellsIn images input most cycles made s report =
    IsFixed (first_status input most images)
    (program_texts input most 0 images ++ counts_text cycles made (costs input most images)) s report

-- In some number of cycles, which is at most what the four may cost.
abbrev pub TellsFour : List Image → List ℕ → ℕ → Bool → Status → List ℕ → Type 0
TellsFour images input most cycles s report =
    (made : ℕ) × (made ≤ costs input most images) × TellsIn images input most cycles made s report
