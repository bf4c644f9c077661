-- Bytes come to one verdict.
use Rattle.std.proofs.Common.{◌≡◌, ◌∙◌, refl, sym, ℕ, ◌+◌, ◌<◌, ◌≤◌, ◌^◌, List, length, ◌⊎◌, inl, inr, arith}
use Rattle.trips_isa.specs.declared.block.Block.{Block}
use Rattle.trips_isa.specs.Machine.{State}
use Rattle.trace_verify.specs.declared.fault.VerifyFault.{VerifyFault}
use Rattle.trace_verify.specs.Traces.{IsTrace}
use Rattle.trace_verify.specs.FirstFault.{FirstFault}
use Rattle.trace_verify.specs.Reading.{unread, feeds}
use Rattle.trace_verify.specs.Verdicts.{Verdict, Verified, Refused, verdict}
use Rattle.trace_verify.proofs.Verdicts as forth
use Rattle.trace_verify.proofs.Sound as back

module _ (blocks : List Block) (s : State) (budget : ℕ) (bytes : List ℕ) where
  of_verdict : (v : Verdict) → verdict (feeds blocks budget (unread s) bytes) ≡ v
      → ((b : ℕ) × IsTrace blocks s b bytes × (b ≤ budget)) ⊎ ((f : VerifyFault) × FirstFault blocks s budget bytes f)
  of_verdict (Verified b) e = let t = back.verified blocks budget s b bytes e in inl (b, t.0, t.1)
  of_verdict (Refused f) e = inr (f, back.refused blocks budget s f bytes e)

  -- bytes are a trace or have a first fault
  pub judged : ((b : ℕ) × IsTrace blocks s b bytes × (b ≤ budget))
      ⊎ ((f : VerifyFault) × FirstFault blocks s budget bytes f)
  judged = of_verdict (verdict (feeds blocks budget (unread s) bytes)) refl

module _ (blocks : List Block) (s : State) (bytes : List ℕ) (inside : s.next < length blocks)
    (few : length blocks < 2 ^ 32) where
  -- not both
  pub apart : (budget b : ℕ) (f : VerifyFault) → IsTrace blocks s b bytes → b ≤ budget
      → FirstFault blocks s budget bytes f → ⊥
  apart budget b f t room first =
      let both : Verified b ≡ Refused f = sym (forth.completed blocks budget s inside few b bytes t room)
      ∙ forth.faulted blocks budget s inside few bytes f first in absurd (cc)

  -- a trace is one of one number of blocks
  pub one_count : (b c : ℕ) → IsTrace blocks s b bytes → IsTrace blocks s c bytes → b ≡ c
  one_count b c t u =
      let left : b ≤ b + c = omega arith in
      let right : c ≤ b + c = omega arith in
      let both : Verified b ≡ Verified c = sym (forth.completed blocks (b + c) s inside few b bytes t left)
      ∙ forth.completed blocks (b + c) s inside few c bytes u right in cc

  -- there is one first fault
  pub one_fault : (budget : ℕ) (f g : VerifyFault) → FirstFault blocks s budget bytes f
      → FirstFault blocks s budget bytes g → f ≡ g
  one_fault budget f g x y =
      let both : Refused f ≡ Refused g = sym (forth.faulted blocks budget s inside few bytes f x)
      ∙ forth.faulted blocks budget s inside few bytes g y in cc
