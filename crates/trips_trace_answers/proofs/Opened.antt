-- The answers of an image that was opened, and of one that was not.
use Rattle.std.proofs.Common.{ℕ, List, All, ◌⊎◌, inl, inr, ◌≡◌, ◌≤◌, Option, Result, Ok, Err, IfOk, subst, sym}
use Rattle.trips_isa.specs.declared.block.Image.{Image}
use Rattle.block_image.specs.Spelling.{ImageBytes}
use Rattle.block_check.specs.Faults.{IsGood}
use Rattle.trips_report.specs.declared.said.Said.{Said}
use Rattle.trips_report.specs.inside.Refusals.{refusal_report}
use Rattle.trips_requests.specs.declared.answer.Answer.{Answer}
use Rattle.trips_requests.specs.declared.status.Status.{Status}
use Rattle.trips_requests.specs.declared.status.Status.TheVariants as status
use Rattle.trips_requests.specs.Texts.{IsFixed}
use Rattle.trips_tools.specs.inside.Tools as tools
use Rattle.trips_tools.proofs.MadeAnswers.{not_good}
use Rattle.trace_verify.specs.Verifiers.{Verifying, CompletesTo, FaultsTo}
use Rattle.trace_verify.specs.declared.fault.VerifyFault.{VerifyFault}
use Rattle.trips_trace_answers.specs.TraceAnswers.{HoldsImage, IsRecording, IsRefusedImage, IsVerified, TellsTrace}
use Rattle.trips_trace_answers.specs.inside.Judging.{IsTraced, IsTold, IsJudged}
use Rattle.trips_trace_answers.specs.declared.judging.Judged.{Judged}
use Rattle.trips_trace_answers.specs.declared.judging.Judged.TheVariants as judged

-- the image that was checked is the one that the bytes are
pub opened_holds : {E : Type 0} (bytes : List ℕ) (image : Image) (r : Result Image E) → ImageBytes image bytes
    → IfOk r (λ i. i ≡ image) → IfOk r (λ i. All IsGood i.blocks) → IfOk r (HoldsImage bytes)
opened_holds bytes image (Err e) is same good = tt
opened_holds bytes image (Ok i) is same good = (subst (λ (j : Image). ImageBytes j bytes) (sym same) is, good)

-- bytes that are no image of good blocks are refused
pub refused_told : {E : Type 0} (bytes : List ℕ) (said : Said) (r : Result Answer E)
    → tools.IsNoImage bytes said ⊎ tools.IsBadImage bytes said
    → IfOk r (λ a. IsFixed status.Refused (refusal_report said) a.status a.report.items)
    → IfOk r (λ a. IsRefusedImage bytes a.status a.report.items)
refused_told bytes said (Err e) n told = tt
refused_told bytes said (Ok a) n told = (refusal_report said, not_good bytes said n, told)

-- the run of an image that was opened is recorded
pub recorded_told : {E : Type 0} (most : ℕ) (bytes input : List ℕ) (image : Image) (r : Result Answer E)
    → HoldsImage bytes image → IfOk r (λ a. TellsTrace image input most a.status a.report.items)
    → IfOk r (λ a. IsRefusedImage bytes a.status a.report.items
    ⊎ IsRecording most bytes input a.status a.report.items)
recorded_told most bytes input image (Err e) i told = tt
recorded_told most bytes input image (Ok a) i told = inr (image, i, told)

-- and a trace's file is judged as that of its run
pub verified_told : {E : Type 0} (bytes input : List ℕ) (held : Option (List ℕ)) (rose : Type 0) (image : Image)
    (r : Result Answer E) → HoldsImage bytes image
    → IfOk r (λ a. IsTraced image input held rose a.status a.report.items)
    → IfOk r (λ a. IsRefusedImage bytes a.status a.report.items
    ⊎ IsVerified bytes input held rose a.status a.report.items)
verified_told bytes input held rose image (Err e) i told = tt
verified_told bytes input held rose image (Ok a) i told = inr (image, i, told)

judged_so : (image : Image) (input : List ℕ) (held : Option (List ℕ)) (rose : Type 0) (j : Judged) (s : Status)
    (report : List ℕ) → IsJudged image input held rose j → IsTold j s report → IsTraced image input held rose s report
judged_so image input held rose (judged.Verified b) s report h told =
    inl (h.0, h.1, inl (b, h.2, h.3, told))
judged_so image input held rose (judged.Refused f) s report h told = inl (h.0, h.1, inr (f, h.2, told))
judged_so image input held rose judged.Unread s report h told = inr (h, told)

-- what a trace's file came to is told
pub judged_told : {E : Type 0} (image : Image) (input : List ℕ) (held : Option (List ℕ)) (rose : Type 0) (j : Judged)
    (r : Result Answer E) → IsJudged image input held rose j → IfOk r (λ a. IsTold j a.status a.report.items)
    → IfOk r (λ a. IsTraced image input held rose a.status a.report.items)
judged_told image input held rose j (Err e) h told = tt
judged_told image input held rose j (Ok a) h told = judged_so image input held rose j a.status a.report.items h told
