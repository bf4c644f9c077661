-- The two relations of a verifier to further bytes, by what its parts do.
use Rattle.std.proofs.Common.{◌≡◌, ◌↔◌, ℕ, ◌+◌, ◌<◌, ◌≤◌, ◌^◌, List, [], ◌∷◌, ◌++◌, length}
use Rattle.std.proofs.Common.{refl, sym, ap, subst, ◌∙◌}
use Rattle.trips_isa.specs.declared.block.Block.{Block}
use Rattle.trips_isa.specs.Machine.{State}
use Rattle.trace_verify.specs.declared.fault.VerifyFault.{VerifyFault}
use Rattle.trace_verify.specs.Traces.{IsTrace}
use Rattle.trace_verify.specs.FirstFault.{FirstFault}
use Rattle.trace_verify.specs.Reading.{Stopped, Reading, Place, unread, feeds}
use Rattle.trace_verify.specs.Verdicts.{Verified, Refused, verdict, verdict_at, Completes, FaultsWith}
use Rattle.trace_verify.specs.Verifiers.{Verifying, CompletesTo, FaultsTo, HasAnswered, IsTruncated}
use Rattle.trace_verify.proofs.Forward.{fed}
use Rattle.trace_verify.proofs.Verdicts.{completed, faulted}
use Rattle.trace_verify.proofs.Sound.{verified, refused}
use Rattle.trace_verify.proofs.Answering.{feeds_stay, answer_is}

-- before the first byte
module _ (v : Verifying) (blocks : List Block) (budget : ℕ) (s : State) (is_blocks : v.blocks ≡ blocks)
    (is_budget : v.budget ≡ budget) (is : v.reading ≡ unread s) where
  -- the verdict is that of the whole run
  same_verdict : (bytes : List ℕ)
      → verdict (feeds v.blocks v.budget v.reading bytes) ≡ verdict (feeds blocks budget (unread s) bytes)
  same_verdict bytes =
      ap (λ (bs : List Block). verdict (feeds bs v.budget v.reading bytes)) is_blocks
      ∙ ap (λ (n : ℕ). verdict (feeds blocks n v.reading bytes)) is_budget
      ∙ ap (λ (r : Reading). verdict (feeds blocks budget r bytes)) is

  module _ (inside : s.next < length blocks) (few : length blocks < 2 ^ 32) (bytes : List ℕ) where
    -- further bytes complete it exactly where they are a trace within the budget
    pub made_completes : (b : ℕ) → CompletesTo v bytes b ↔ (IsTrace blocks s b bytes × (b ≤ budget))
    made_completes b = (
      λ h. verified blocks budget s b bytes (sym (same_verdict bytes) ∙ h),
      λ h. same_verdict bytes ∙ completed blocks budget s inside few b bytes h.0 h.1,
    )

    -- and fault it exactly where this is their first fault
    pub made_faults : (f : VerifyFault) → FaultsTo v bytes f ↔ FirstFault blocks s budget bytes f
    made_faults f = (
      λ h. refused blocks budget s f bytes (sym (same_verdict bytes) ∙ h),
      λ h. same_verdict bytes ∙ faulted blocks budget s inside few bytes f h,
    )

-- behind a piece
pub fed_verdict : (v w : Verifying) (piece bytes : List ℕ) → w.blocks ≡ v.blocks → w.budget ≡ v.budget
    → w.reading ≡ feeds v.blocks v.budget v.reading piece
    → verdict (feeds w.blocks w.budget w.reading bytes) ≡ verdict (feeds v.blocks v.budget v.reading (piece ++ bytes))
fed_verdict v w piece bytes blocks budget read =
    ap (λ (bs : List Block). verdict (feeds bs w.budget w.reading bytes)) blocks
    ∙ ap (λ (n : ℕ). verdict (feeds v.blocks n w.reading bytes)) budget
    ∙ ap (λ (r : Reading). verdict (feeds v.blocks v.budget r bytes)) read
    ∙ sym (ap verdict (fed v.blocks v.budget piece bytes v.reading))

-- bytes complete it exactly where the piece with them did before
pub fed_completes : (v w : Verifying) (piece : List ℕ) → w.blocks ≡ v.blocks → w.budget ≡ v.budget
    → w.reading ≡ feeds v.blocks v.budget v.reading piece → (bytes : List ℕ) (b : ℕ)
    → CompletesTo w bytes b ↔ CompletesTo v (piece ++ bytes) b
fed_completes v w piece blocks budget read bytes b = (
  λ h. sym (fed_verdict v w piece bytes blocks budget read)
      ∙ h,
  λ h. fed_verdict v w piece bytes blocks budget read ∙ h,
)

-- and fault it exactly so
pub fed_faults : (v w : Verifying) (piece : List ℕ) → w.blocks ≡ v.blocks → w.budget ≡ v.budget
    → w.reading ≡ feeds v.blocks v.budget v.reading piece → (bytes : List ℕ) (f : VerifyFault)
    → FaultsTo w bytes f ↔ FaultsTo v (piece ++ bytes) f
fed_faults v w piece blocks budget read bytes f = (
  λ h. sym (fed_verdict v w piece bytes blocks budget read)
      ∙ h,
  λ h. fed_verdict v w piece bytes blocks budget read ∙ h,
)

-- what is answered behind a piece
pub fed_answers : (v w : Verifying) (piece : List ℕ) → w.reading ≡ feeds v.blocks v.budget v.reading piece
    → (f : VerifyFault) → (w.reading.place ≡ Stopped f) ↔ (FaultsTo w [] f × (IsTruncated f → HasAnswered v f))
fed_answers v w piece read f =
    subst (λ (r : Reading). (r.place ≡ Stopped f)
    ↔ ((verdict r ≡ Refused f) × (IsTruncated f → v.reading.place ≡ Stopped f))) (sym read)
    (answer_is v.blocks v.budget v.reading piece f)

-- one equivalence behind another
pub through : {A B C : Type 0} → (A ↔ B) → (B ↔ C) → A ↔ C
through g h = (λ a. h.0 (g.0 a), λ z. g.1 (h.1 z))

-- behind a fault
pub stopped_faults : (blocks : List Block) (budget : ℕ) (r : Reading) (f : VerifyFault) → r.place ≡ Stopped f
    → (bytes : List ℕ) → FaultsWith blocks budget r bytes f × ((b : ℕ) → Completes blocks budget r bytes b → ⊥)
stopped_faults blocks budget r f e bytes = (
  faults,
  λ b h. absurd
      (let bad : Verified b ≡ Refused f = sym h ∙ faults in cc),
)
  where
    faults : verdict (feeds blocks budget r bytes) ≡ Refused f
    faults = ap verdict (feeds_stay blocks budget r bytes f e) ∙ ap (λ (p : Place). verdict_at r.progress p) e
