-- A further file of `four` that is refused cannot be run.
use Rattle.std.proofs.Common.{◌≡◌, ℕ, ◌+◌, ◌<◌, List, [], ◌∷◌, Option, None, Some, IfSome}
use Rattle.std.proofs.Common.{◌⊎◌, inl, inr, length, subst}
use Rattle.trips_outside.specs.Outside.{Holds}
use Rattle.trips_requests.specs.declared.status.Status.{Status}
use Rattle.trips_requests.specs.declared.status.Status.TheVariants as status
use Rattle.trips_requests.specs.Texts.{IsFixed, read_fault_text, too_large_text}
use Rattle.trips_answers.specs.Asks.{limit_of}
use Rattle.trips_answers.specs.Causes.{IsUnfitAmong, MayBeFurtherFault}
use Rattle.trips_answers.specs.Done.{CanBeDone}
use Rattle.trips_answers.specs.Fours.{Further, IsFurtherFault, IsLargeAmong, IsRefusedAmong, further_of}
use Rattle.trips_answers.specs.Refused.{MayRefuseFurther}
use Rattle.trips_answers.specs.Request.{Request}
use Rattle.trips_answers.specs.Work.{Work}
use Rattle.trips_answers.specs.Work.{Four}
use Rattle.trips_answers.specs.declared.forms.FileForm.{FileForm}
use Rattle.trips_answers.proofs.Exact.{no_program_can}

-- a file has too many bytes, or cannot be run
abbrev IsUnfitAs : FileForm → List ℕ → Type 0
IsUnfitAs how bytes = (limit_of how < length bytes) ⊎ (CanBeDone Four how bytes → ⊥)

-- what holds of bytes that are held, as far as that is told
held_so : (told : Option (List ℕ)) (bytes : List ℕ) (P : List ℕ → Type 0) → Holds told bytes → P bytes → IfSome told P
held_so None bytes P h p = tt
held_so (Some held) bytes P h p = subst P h p

large_one : (how : FileForm) (told : Option (List ℕ)) → IfSome told (λ bytes. limit_of how < length bytes)
    → IfSome told (IsUnfitAs how)
large_one how None l = tt
large_one how (Some bytes) l = inl l

-- those with too many bytes
large_unfit : (fs : List Further) → IsLargeAmong fs → IsUnfitAmong fs
large_unfit [] l = l
large_unfit (f ∷ fs) (inl l) = inl (large_one f.0 f.1 l)
large_unfit (f ∷ fs) (inr l) = inr (large_unfit fs l)

-- those that are refused
refused_unfit : (number : ℕ) (fs : List Further) (text : List ℕ) → IsRefusedAmong number fs text → IsUnfitAmong fs
refused_unfit number [] text r = r
refused_unfit number (f ∷ fs) text (inl r) = inl (held_so f.1 r.0 (IsUnfitAs f.0) r.1
    (inr (λ can. no_program_can f.0 r.0 r.2.0 r.2.1 can)))
refused_unfit number (f ∷ fs) text (inr r) = inr (refused_unfit (number + 1) fs text r)

-- the fault of one of them
pub further_fault : (fs : List Further) (rose : Type 0) (work : Work) (s : Status) (report : List ℕ)
    → IsFurtherFault fs rose work s report → MayBeFurtherFault fs rose work s report
further_fault fs rose work s report f = (f.0, go f.1)
  where
    go : (rose × IsFixed status.ReadFault read_fault_text s report)
        ⊎ ((IsLargeAmong fs × IsFixed status.Refused too_large_text s report)
        ⊎ ((text : List ℕ) × IsRefusedAmong 1 fs text × IsFixed status.Refused text s report))
        → (rose × IsFixed status.ReadFault read_fault_text s report) ⊎ (IsUnfitAmong fs × (s ≡ status.Refused))
    go (inl u) = inl u
    go (inr (inl l)) = inr (large_unfit fs l.0, l.1.0)
    go (inr (inr t)) = inr (refused_unfit 1 fs t.0 t.1, t.2.0)

-- a request whose further file may be refused may be unfit
pub further_may : (q : Request) (held : List ℕ → Option (List ℕ)) → MayRefuseFurther q held
    → (q.work ≡ Four) × IsUnfitAmong (further_of held q)
further_may q held r = (r.is_work, go r.bad)
  where
    go : IsLargeAmong (further_of held q) ⊎ ((text : List ℕ) × IsRefusedAmong 1 (further_of held q) text)
        → IsUnfitAmong (further_of held q)
    go (inl l) = large_unfit (further_of held q) l
    go (inr t) = refused_unfit 1 (further_of held q) t.0 t.1
