-- Beside what is believed of TraceAnswers.antt: what a trace's file comes to.
use Rattle.std.specs.Prelude.{◌≡◌, ◌⊎◌, ℕ, ◌≤◌, List, [], Option}
use Rattle.trips_isa.specs.declared.block.Image.{Image}
use Rattle.trips_isa.specs.Machine.{start}
use Rattle.trace_verify.specs.Traces.{TraceBytes}
use Rattle.trace_verify.specs.FirstFault.{FirstFault}
use Rattle.trace_verify.specs.Verifiers.{Verifying, CompletesTo, FaultsTo}
use Rattle.trips_outside.specs.Outside.{Holds}
use Rattle.trips_requests.specs.declared.status.Status.{Status}
use Rattle.trips_requests.specs.declared.status.Status.TheVariants as status
use Rattle.trips_requests.specs.Limits.{most_recorded}
use Rattle.trips_requests.specs.Texts.{IsFixed, read_fault_text}
use Rattle.trips_trace_answers.specs.TraceAnswers.{IsVerdict}
use Rattle.trips_trace_answers.specs.TraceReports.{trace_text, verified_report}
use Rattle.trips_trace_answers.specs.declared.judging.Judged.{Judged}
use Rattle.trips_trace_answers.specs.declared.judging.Judged.TheVariants.{Verified, Refused, Unread}

-- what a verifier says where no more bytes follow
abbrev pub IsEnd : Verifying → Judged → Type 0
IsEnd v (Verified b) = CompletesTo v [] b
IsEnd v (Refused f) = FaultsTo v [] f
IsEnd v Unread = ⊥

-- what the bytes that are told, or some, come to for a verifier
abbrev pub IsJudgedBy : Option (List ℕ) → Verifying → Type 0 → Judged → Type 0
IsJudgedBy told v rose (Verified b) = (trace : List ℕ) × Holds told trace × CompletesTo v trace b
IsJudgedBy told v rose (Refused f) = (trace : List ℕ) × Holds told trace × FaultsTo v trace f
IsJudgedBy told v rose Unread = rose

-- what the bytes that are told, or some, come to as the trace of the image's run
abbrev pub IsJudged : Image → List ℕ → Option (List ℕ) → Type 0 → Judged → Type 0
IsJudged image input told rose (Verified b) = (trace : List ℕ) × Holds told trace
    × TraceBytes image.blocks image.bytes input b trace × (b ≤ most_recorded)
IsJudged image input told rose (Refused f) = (trace : List ℕ) × Holds told trace
    × FirstFault image.blocks (start image.bytes input) most_recorded trace f
IsJudged image input told rose Unread = rose

-- the status and the report that tell it
abbrev pub IsTold : Judged → Status → List ℕ → Type 0
IsTold (Verified b) s report = IsFixed status.Ended (verified_report b) s report
IsTold (Refused f) s report = IsFixed status.Refused (trace_text f) s report
IsTold Unread s report = IsFixed status.ReadFault read_fault_text s report

-- what a trace's file is answered as that of the image's run
abbrev pub IsTraced : Image → List ℕ → Option (List ℕ) → Type 0 → Status → List ℕ → Type 0
IsTraced image input told rose s report = ((trace : List ℕ) × Holds told trace × IsVerdict image input trace s report)
    ⊎ (rose × IsFixed status.ReadFault read_fault_text s report)
