-- What `verify` answers of a trace's file, behind the file of its image and the input.
use Rattle.std.specs.Prelude.{◌≡◌, ◌⊎◌, ℕ, ◌≤◌, List, Option}
use Rattle.trips_isa.specs.declared.block.Image.{Image}
use Rattle.trips_isa.specs.Machine.{start}
use Rattle.trace_verify.specs.declared.fault.VerifyFault.{VerifyFault}
use Rattle.trace_verify.specs.Traces.{TraceBytes}
use Rattle.trace_verify.specs.FirstFault.{FirstFault}
use Rattle.trips_outside.specs.Outside.{Holds}
use Rattle.trips_answers.specs.Work.{Work}
use Rattle.trips_answers.specs.Work.{Verify}
use Rattle.trips_requests.specs.declared.status.Status.{Status}
use Rattle.trips_requests.specs.declared.status.Status.TheVariants as status
use Rattle.trips_requests.specs.Limits.{most_recorded}
use Rattle.trips_requests.specs.Texts.{IsFixed, read_fault_text}
use Rattle.trips_trace_answers.specs.TraceReports.{trace_text, verified_report}
use Rattle.trips_trace_answers.specs.TraceAnswers.{HoldsImage}

-- the bytes of the trace are those of the image's run on the input, and the report tells of how many blocks
abbrev pub IsTraceVerified : List ℕ → List ℕ → List ℕ → Status → List ℕ → Type 0
IsTraceVerified bytes input trace s report = (image : Image) × HoldsImage bytes image
    × (b : ℕ) × TraceBytes image.blocks image.bytes input b trace × (b ≤ most_recorded)
    × IsFixed status.Ended (verified_report b) s report

-- they are not, and the text tells their first fault
abbrev pub IsTraceRefused : List ℕ → List ℕ → List ℕ → List ℕ → Type 0
IsTraceRefused bytes input trace text = (image : Image) × HoldsImage bytes image
    × (fault : VerifyFault) × FirstFault image.blocks (start image.bytes input) most_recorded trace fault
    × (text ≡ trace_text fault)

-- the trace's file could not be read, or what it holds, as far as that is told, is refused
abbrev pub IsTraceFault : Option (List ℕ) → Type 0 → Work → List ℕ → List ℕ → Status → List ℕ → Type 0
IsTraceFault told rose work bytes input s report = (work ≡ Verify)
    × ((rose × IsFixed status.ReadFault read_fault_text s report)
    ⊎ ((trace : List ℕ) × (text : List ℕ) × Holds told trace × IsTraceRefused bytes input trace text
    × IsFixed status.Refused text s report))
