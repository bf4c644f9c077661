-- What is answered behind the input, by the command: of `verify` and `four` other files are read.
use Rattle.std.proofs.Common.{◌≡◌, ℕ, List, [], ◌∷◌, Option, Result, Ok, Err, IfOk, refl, sym, subst, ◌⊎◌}
use Rattle.trips_requests.specs.declared.answer.Answer.{Answer}
use Rattle.trips_requests.specs.declared.commands.Command.{Command}
use Rattle.trips_requests.specs.declared.commands.Command.TheVariants as command
use Rattle.trips_trace_answers.specs.TraceAnswers.{IsRefusedImage, IsVerified}
use Rattle.trips_answers.specs.Work.{Work, work_on}
use Rattle.trips_answers.specs.Work.{Verify, Four}
use Rattle.trips_answers.specs.declared.forms.FileForm.{FileForm}
use Rattle.trips_answers.specs.declared.forms.Settings.{Settings}
use Rattle.trips_answers.specs.Worked.{IsDone, IsDoneBehind}
use Rattle.trips_answers.specs.Fours.{Further, IsFourDone}
use Rattle.trips_answers.proofs.Traced.{other}

-- another command's work is no judging of a trace
pub not_verify : (k : Command) (file : List ℕ) → (k ≡ command.Verify → ⊥) → work_on k file ≡ Verify → ⊥
not_verify command.Verify file n e = n refl
not_verify command.Run file n e = cc
not_verify command.Evaluate file n e = cc
not_verify command.Compile file n e = cc
not_verify command.List file n e = cc
not_verify command.Assemble file n e = cc
not_verify command.Disassemble file n e = cc
not_verify command.Check file n e = cc
not_verify command.Explain file n e = cc
not_verify command.Trap file n e = cc
not_verify command.Record file n e = cc
not_verify command.Save file n e = cc
not_verify command.Resume file n e = cc
not_verify command.Four file n e = cc
not_verify command.Draw file n e = cc

-- nor a run of four
pub not_four : (k : Command) (file : List ℕ) → (k ≡ command.Four → ⊥) → work_on k file ≡ Four → ⊥
not_four command.Four file n e = n refl
not_four command.Run file n e = cc
not_four command.Evaluate file n e = cc
not_four command.Compile file n e = cc
not_four command.List file n e = cc
not_four command.Assemble file n e = cc
not_four command.Disassemble file n e = cc
not_four command.Check file n e = cc
not_four command.Explain file n e = cc
not_four command.Trap file n e = cc
not_four command.Record file n e = cc
not_four command.Verify file n e = cc
not_four command.Save file n e = cc
not_four command.Resume file n e = cc
not_four command.Draw file n e = cc

-- the answer of `verify`
pub verified_told : {E : Type 0} (work : Work) (how : FileForm) (settings : Settings) (told seen : Option (List ℕ))
    (fs : List Further) (rose : Type 0) (bytes input : List ℕ) (r : Result Answer E) → work ≡ Verify → seen ≡ told
    → IfOk r (λ a. IsRefusedImage bytes a.status a.report.items
    ⊎ IsVerified bytes input seen rose a.status a.report.items)
    → IfOk r (λ a. IsDoneBehind told fs rose work how settings bytes input a.status a.report.items)
verified_told work how settings told seen fs rose bytes input (Err e) is same v = tt
verified_told work how settings told seen fs rose bytes input (Ok a) is same v =
    subst (λ (w : Work). IsDoneBehind told fs rose w how settings bytes input a.status a.report.items) (sym is)
    (subst (λ (o : Option (List ℕ)). IsRefusedImage bytes a.status a.report.items
    ⊎ IsVerified bytes input o rose a.status a.report.items) same v)

-- that of `four`
pub four_told : {E : Type 0} (work : Work) (how read : FileForm) (settings seen : Settings) (told : Option (List ℕ))
    (fs others : List Further) (rose : Type 0) (bytes input : List ℕ) (r : Result Answer E) → work ≡ Four
    → read ≡ how → seen ≡ settings → others ≡ fs
    → IfOk r (λ a. IsFourDone others rose seen ((read, bytes) ∷ []) input a.status a.report.items)
    → IfOk r (λ a. IsDoneBehind told fs rose work how settings bytes input a.status a.report.items)
four_told work how read settings seen told fs others rose bytes input (Err e) is form set same d = tt
four_told work how read settings seen told fs others rose bytes input (Ok a) is form set same d =
    subst (λ (w : Work). IsDoneBehind told fs rose w how settings bytes input a.status a.report.items) (sym is)
    (subst (λ (f : FileForm). IsFourDone fs rose settings ((f, bytes) ∷ []) input a.status a.report.items) form
    (subst (λ (t : Settings). IsFourDone fs rose t ((read, bytes) ∷ []) input a.status a.report.items) set
    (subst (λ (xs : List Further). IsFourDone xs rose seen ((read, bytes) ∷ []) input a.status a.report.items) same
    d)))

-- and that of any other work
pub other_told : {E : Type 0} (told : Option (List ℕ)) (fs : List Further) (rose : Type 0) (work : Work)
    (how : FileForm) (settings : Settings) (bytes input : List ℕ) (r : Result Answer E) → (work ≡ Verify → ⊥)
    → (work ≡ Four → ⊥) → IfOk r (λ a. IsDone work how settings bytes input a.status a.report.items)
    → IfOk r (λ a. IsDoneBehind told fs rose work how settings bytes input a.status a.report.items)
other_told told fs rose work how settings bytes input (Err e) n f d = tt
other_told told fs rose work how settings bytes input (Ok a) n f d =
    other told fs rose work how settings bytes input a.status a.report.items n f d
