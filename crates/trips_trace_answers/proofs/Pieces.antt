-- A verifier behind the bytes that were read, and what they come to.
use Rattle.std.proofs.Common.{◌≡◌, ◌∙◌, refl, sym, ap, ap₂, subst, ℕ, ◌<◌, List, [], ◌++◌, length, take, Option, None}
use Rattle.std.proofs.Common.{Some, Result, Ok, Err, option_map, append_assoc, append-nil, unwrap_or}
use Rattle.std.specs.Prelude.{◌↔◌}
use Rattle.trips_outside.specs.Outside.{Gives, Holds}
use Rattle.trace_verify.specs.declared.fault.VerifyFault.{VerifyFault}
use Rattle.trace_verify.specs.Verdicts.{Verdict, verdict, verdict_at, Refused}
use Rattle.trace_verify.specs.Reading.{Place, Reading}
use Rattle.trace_verify.specs.Verifiers.{Verifying, CompletesTo, FaultsTo, HasAnswered}
use Rattle.trace_verify.proofs.Answering.{feeds_stay}
use Rattle.trips_trace_answers.specs.declared.judging.Judged.{Judged}
use Rattle.trips_trace_answers.specs.inside.Judging.{IsEnd, IsJudgedBy}
use Rattle.trips_trace_answers.specs.declared.judging.Judged.TheVariants as judged

-- what bytes make of the verifier w is what they make of v behind those that were read
pub record Behind (v w : Verifying) (read : List ℕ) : Type 0 where
  pub completes : (bytes : List ℕ) (b : ℕ) → CompletesTo w bytes b ↔ CompletesTo v (read ++ bytes) b
  pub faults : (bytes : List ℕ) (f : VerifyFault) → FaultsTo w bytes f ↔ FaultsTo v (read ++ bytes) f

-- before the first byte
pub behind_none : (v : Verifying) → Behind v v []
behind_none v = record {
  completes = λ bytes b. (λ h. h, λ h. h);
  faults = λ bytes f. (λ h. h, λ h. h);
}

-- and behind one piece more
pub behind_more : (v w x : Verifying) (read piece : List ℕ)
    → ((bytes : List ℕ) (b : ℕ) → CompletesTo x bytes b ↔ CompletesTo w (piece ++ bytes) b)
    → ((bytes : List ℕ) (f : VerifyFault) → FaultsTo x bytes f ↔ FaultsTo w (piece ++ bytes) f)
    → Behind v w read → Behind v x (read ++ piece)
behind_more v w x read piece c f h = record {
  completes = λ bytes b. (
    (λ y. subst (λ (s : List ℕ). CompletesTo v s b) (sym (append_assoc read piece bytes))
        ((h.completes (piece ++ bytes) b).0 ((c bytes b).0 y))),
    (λ y. (c bytes b).1 ((h.completes (piece ++ bytes) b).1
        (subst (λ (s : List ℕ). CompletesTo v s b) (append_assoc read piece bytes) y))),
  );
  faults = λ bytes g. (
    (λ y. subst (λ (s : List ℕ). FaultsTo v s g) (sym (append_assoc read piece bytes))
        ((h.faults (piece ++ bytes) g).0 ((f bytes g).0 y))),
    (λ y. (f bytes g).1 ((h.faults (piece ++ bytes) g).1
        (subst (λ (s : List ℕ). FaultsTo v s g) (append_assoc read piece bytes) y))),
  );
}

-- at the end of a file the bytes that were read are all that it holds
all_read : (told now after : Option (List ℕ)) (into read : List ℕ) → told ≡ option_map (λ left. read ++ left) now
    → Gives now after into 0 → 0 < length into → Holds told read
all_read None now after into read e g lt = tt
all_read (Some held) None after into read e g lt = absurd (cc)
all_read (Some held) (Some left) after into read e g lt =
    sym (ap (λ (o : Option (List ℕ)). unwrap_or o []) e
    ∙ ap (λ l. read ++ l) (g.1 refl lt) ∙ append-nil read)

at_end : (v w : Verifying) (told : Option (List ℕ)) (rose : Type 0) (read : List ℕ) (j : Judged) → Behind v w read
    → Holds told read → IsEnd w j → IsJudgedBy told v rose j
at_end v w told rose read (judged.Verified b) h held e =
    (read, held, subst (λ (s : List ℕ). CompletesTo v s b) (append-nil read) ((h.completes [] b).0 e))
at_end v w told rose read (judged.Refused f) h held e =
    (read, held, subst (λ (s : List ℕ). FaultsTo v s f) (append-nil read) ((h.faults [] f).0 e))
at_end v w told rose read judged.Unread h held e = absurd e

-- what the verifier says at the end of a file is said of all its bytes
pub ended : (v w : Verifying) (told now after : Option (List ℕ)) (rose : Type 0) (into read : List ℕ) (k : ℕ)
    (j : Judged) → told ≡ option_map (λ left. read ++ left) now → Gives now after into k → k ≡ 0 → 0 < length into
    → Behind v w read → IsEnd w j → IsJudgedBy told v rose j
ended v w told now after rose into read k j e g z lt h end =
    at_end v w told rose read j h
    (all_read told now after into read e (subst (λ (n : ℕ). Gives now after into n) z g) lt) end

-- a fault that is answered is the first one, whatever follows
stands : (v : Verifying) (f : VerifyFault) (more : List ℕ) → HasAnswered v f → FaultsTo v more f
stands v f more e = ap verdict (feeds_stay v.blocks v.budget v.reading more f e)
    ∙ ap (λ (p : Place). verdict_at v.reading.progress p) e

-- so it is that of all the bytes of the file
pub stopped : (v w : Verifying) (told now : Option (List ℕ)) (rose : Type 0) (read : List ℕ) (f : VerifyFault)
    → told ≡ option_map (λ left. read ++ left) now → Behind v w read → HasAnswered w f
    → IsJudgedBy told v rose (judged.Refused f)
stopped v w None now rose read f e h a = (read ++ [], tt, (h.faults [] f).0 (stands w f [] a))
stopped v w (Some held) None rose read f e h a = absurd (cc)
stopped v w (Some held) (Some left) rose read f e h a = (
  read ++ left,
  sym (ap (λ (o : Option (List ℕ)). unwrap_or o []) e),
  (h.faults left f).0 (stands w f left a),
)

-- what is answered is no fault
pub not_both : {A B : Type 0} (r : Result A B) (x : A) (f : B) → r ≡ Ok x → r ≡ Err f → ⊥
not_both r x f p q = let both : Ok x ≡ Err f = sym p ∙ q in absurd (cc)
