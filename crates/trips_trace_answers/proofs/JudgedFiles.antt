-- What a trace's file comes to, said of the bytes that its name holds.
use Rattle.std.proofs.Common.{◌≡◌, ℕ, ◌≤◌, List, Option, Result, Ok, Err, IfOk, subst, arith}
use Rattle.std.specs.Prelude.{◌↔◌}
use Rattle.trips_isa.specs.declared.block.Image.{Image}
use Rattle.trips_isa.specs.Machine.{start}
use Rattle.trips_outside.specs.Outside.{Rose}
use Rattle.trips_requests.specs.Limits.{most_recorded}
use Rattle.trace_verify.specs.declared.fault.VerifyFault.{VerifyFault}
use Rattle.trace_verify.specs.Traces.{TraceBytes}
use Rattle.trace_verify.specs.FirstFault.{FirstFault}
use Rattle.trace_verify.specs.Verifiers.{Verifying, CompletesTo, FaultsTo}
use Rattle.trips_trace_answers.specs.declared.judging.Judged.{Judged}
use Rattle.trips_trace_answers.specs.declared.judging.Judged.TheVariants as judged
use Rattle.trips_trace_answers.specs.inside.Judging.{IsJudged, IsJudgedBy}

-- a count that rose in the last part of a time rose in the whole
rose_last : (old now new : ℕ) → old ≤ now → Rose now new → Rose old new
rose_last old now new le up = omega arith

module _ (image : Image) (input : List ℕ) (v : Verifying)
    (completes : (bytes : List ℕ) (b : ℕ) → CompletesTo v bytes b
    ↔ (TraceBytes image.blocks image.bytes input b bytes × (b ≤ most_recorded)))
    (faults : (bytes : List ℕ) (f : VerifyFault) → FaultsTo v bytes f
    ↔ FirstFault image.blocks (start image.bytes input) most_recorded bytes f) where
  of_verifier : (told : Option (List ℕ)) (old now new : ℕ) (j : Judged) → old ≤ now
      → IsJudgedBy told v (Rose now new) j → IsJudged image input told (Rose old new) j
  of_verifier told old now new (judged.Verified b) le h =
      let t = (completes h.0 b).0 h.2 in (h.0, h.1, t.0, t.1)
  of_verifier told old now new (judged.Refused f) le h = (h.0, h.1, (faults h.0 f).0 h.2)
  of_verifier told old now new judged.Unread le h = rose_last old now new le h

  -- the file of a name that was opened, behind a verifier at the start
  pub file_judged : {E : Type 0} (told ahead : Option (List ℕ)) (old now new : ℕ) (r : Result Judged E)
      → ahead ≡ told → old ≤ now → IfOk r (IsJudgedBy ahead v (Rose now new))
      → IfOk r (IsJudged image input told (Rose old new))
  file_judged told ahead old now new (Err e) same le h = tt
  file_judged told ahead old now new (Ok j) same le h =
      of_verifier told old now new j le (subst (λ (o : Option (List ℕ)). IsJudgedBy o v (Rose now new) j) same h)
