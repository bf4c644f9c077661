-- What `record` and `verify` are answered for the bytes of an image's file and of an input: the status and the
-- report.
use Rattle.std.specs.Prelude.{◌≡◌, ◌⊎◌, ℕ, ◌≤◌, List, Option, All}
use Rattle.trips_isa.specs.declared.block.Image.{Image}
use Rattle.trips_isa.specs.declared.run.Ending.{Ending}
use Rattle.trips_isa.specs.Machine.{start}
use Rattle.block_image.specs.Spelling.{ImageBytes}
use Rattle.block_check.specs.Faults.{IsGood}
use Rattle.trace_verify.specs.declared.fault.VerifyFault.{VerifyFault}
use Rattle.trace_verify.specs.Traces.{TraceBytes}
use Rattle.trace_verify.specs.FirstFault.{FirstFault}
use Rattle.trace_verify.specs.Recorded.{IsRecorded}
use Rattle.trips_outside.specs.Outside.{Holds}
use Rattle.trips_requests.specs.declared.status.Status.{Status}
use Rattle.trips_requests.specs.declared.status.Status.TheVariants as status
use Rattle.trips_requests.specs.Limits.{most_recorded}
use Rattle.trips_requests.specs.Texts.{IsFixed, read_fault_text}
use Rattle.trips_report.specs.Endings.{status_by}
use Rattle.trips_tools.specs.ToolAnswers.{IsNoImage, IsBadImage}
use Rattle.trips_trace_answers.specs.TraceReports.{trace_text, verified_report}

-- the bytes are those of an image all of whose blocks are good
abbrev pub HoldsImage : List ℕ → Image → Type 0
HoldsImage bytes image = ImageBytes image bytes × All IsGood image.blocks

-- the bytes are no image of good blocks, and the report says why
abbrev pub IsRefusedImage : List ℕ → Status → List ℕ → Type 0
IsRefusedImage bytes s report =
    (text : List ℕ) × (IsNoImage bytes text ⊎ IsBadImage bytes text) × IsFixed status.Refused text s report

-- the report is the longest trace of an image's run on an input within so many blocks, and the status how it ends
abbrev pub TellsTrace : Image → List ℕ → ℕ → Status → List ℕ → Type 0
TellsTrace image input most s report =
    (ended : Ending) × (word : ℕ) × IsRecorded image.blocks (start image.bytes input) most report ended word
    × (s ≡ status_by ended word)

-- that is told of the image whose bytes these are
abbrev pub IsRecording : ℕ → List ℕ → List ℕ → Status → List ℕ → Type 0
IsRecording most bytes input s report =
    (image : Image) × HoldsImage bytes image × TellsTrace image input most s report

-- The bytes of a trace's file are the trace of the image's run on the input, of at most as many blocks as a trace may
-- have, and the report tells their number; or they are not, and it tells their first fault.
abbrev pub IsVerdict : Image → List ℕ → List ℕ → Status → List ℕ → Type 0
IsVerdict image input trace s report =
    ((b : ℕ) × TraceBytes image.blocks image.bytes input b trace × (b ≤ most_recorded)
    × IsFixed status.Ended (verified_report b) s report)
    ⊎ ((fault : VerifyFault) × FirstFault image.blocks (start image.bytes input) most_recorded trace fault
    × IsFixed status.Refused (trace_text fault) s report)

-- That is told of the trace's file, or it could not be read. Where it is not told what its name holds, it is told of
-- some bytes.
abbrev pub IsVerified : List ℕ → List ℕ → Option (List ℕ) → Type 0 → Status → List ℕ → Type 0
IsVerified bytes input told rose s report = (image : Image) × HoldsImage bytes image
    × (((trace : List ℕ) × Holds told trace × IsVerdict image input trace s report)
    ⊎ (rose × IsFixed status.ReadFault read_fault_text s report))
