-- What bytes come to is so: a trace, or a first fault.
use Rattle.std.proofs.Common.{◌≡◌, ℕ, zero, suc, ◌+◌, ◌<◌, ◌≤◌, List, [], ◌∷◌, ◌++◌, length, Option, Some, None}
use Rattle.std.proofs.Common.{refl, sym, ap, subst, ◌∙◌, arith}
use Rattle.std.proofs.lemmas.List.{append-nil}
use Rattle.byteorder.specs.Endian.{big_bytes}
use Rattle.trips_isa.specs.declared.block.Block.{Block}
use Rattle.trips_isa.specs.Machine.{State, runs}
use Rattle.trace_verify.specs.declared.fault.VerifyFault.{VerifyFault}
use Rattle.trace_verify.specs.declared.fault.VerifyFault.TheVariants.{Truncated}
use Rattle.trace_verify.specs.Spelling.{front, entry_with}
use Rattle.trace_verify.specs.Traces.{entries, IsTrace}
use Rattle.trace_verify.specs.FirstFault.{FirstFault, no_front, in_entry, no_number, no_exit, short_record}
use Rattle.trace_verify.specs.Reading.{Place, Front, Number, Exit, Records, Whole, Stopped, Progress, Reading, unread}
use Rattle.trace_verify.specs.Reading.{feeds}
use Rattle.trace_verify.specs.Verdicts.{Verdict, Verified, Refused, verdict, verdict_at}
use Rattle.trace_verify.proofs.EntryEnds.{Holds}
use Rattle.trace_verify.proofs.Described.{described}

module _ (blocks : List Block) (budget : ℕ) (s : State) where
  verified_at : (b : ℕ) (bytes : List ℕ) (c : Progress) (seen : List ℕ) (p : Place)
      → Holds blocks budget s bytes c seen p → verdict_at c p ≡ Verified b → IsTrace blocks s b bytes × (b ≤ budget)
  verified_at b bytes c seen Front h e = absurd (cc)
  verified_at b bytes c seen Number h e = absurd (cc)
  verified_at b bytes c seen Exit h e = absurd (cc)
  verified_at b bytes c seen (Records x l ls) h e = absurd (cc)
  verified_at b bytes c seen (Stopped f) h e = absurd (cc)
  verified_at b bytes c seen Whole h e =
      let count : c.count ≡ b = cc in
      let is : h.0 ≡ b = ap (λ (d : Progress). d.count) (sym h.1) ∙ count in
      subst (λ (n : ℕ). IsTrace blocks s n bytes × (n ≤ budget)) is
      (record { steps = h.2.steps; spelled = h.2.read }, h.2.room)

  -- what is verified is a trace
  pub verified : (b : ℕ) (bytes : List ℕ) → verdict (feeds blocks budget (unread s) bytes) ≡ Verified b
      → IsTrace blocks s b bytes × (b ≤ budget)
  verified b bytes e =
      let r = feeds blocks budget (unread s) bytes in
      verified_at b bytes r.progress r.seen r.place (described blocks budget s bytes) e

  -- the fault that is refused with
  told_at : (f g : VerifyFault) → Refused f ≡ Refused g → f ≡ g
  told_at f g e = cc

  refused_at : (f : VerifyFault) (bytes : List ℕ) (c : Progress) (seen : List ℕ) (p : Place)
      → Holds blocks budget s bytes c seen p → verdict_at c p ≡ Refused f → FirstFault blocks s budget bytes f
  refused_at f bytes c seen Front h e =
      let at : length bytes ≡ c.at = ap (λ (d : Progress). d.at) (sym h.0) in
      subst (λ (g : VerifyFault). FirstFault blocks s budget bytes g)
      (ap (λ (n : ℕ). Truncated n) at ∙ told_at (Truncated c.at) f e) (no_front h.2 h.3)
  refused_at f bytes c seen Number h e =
      let at : length bytes ≡ c.at = ap (λ (d : Progress). d.at) (sym h.1) in
      subst (λ (g : VerifyFault). FirstFault blocks s budget bytes g)
      (ap (λ (n : ℕ). Truncated n) at ∙ told_at (Truncated c.at) f e)
      (in_entry h.0 seen (Truncated (length bytes)) h.2.steps h.2.room h.2.read (no_number h.3))
  refused_at f bytes c seen Exit h e =
      let at : length bytes ≡ c.at = ap (λ (d : Progress). d.at) (sym h.1) in
      subst (λ (g : VerifyFault). FirstFault blocks s budget bytes g)
      (ap (λ (n : ℕ). Truncated n) at ∙ told_at (Truncated c.at) f e)
      (in_entry h.0 (big_bytes 4 (runs blocks s h.0).0.next) (Truncated (length bytes)) h.3.steps h.3.room h.3.read
      (no_exit refl h.4))
  refused_at f bytes c seen (Records x l ls) h e =
      let at : length bytes ≡ c.at = ap (λ (d : Progress). d.at) (sym h.2) in
      subst (λ (g : VerifyFault). FirstFault blocks s budget bytes g)
      (ap (λ (n : ℕ). Truncated n) at ∙ told_at (Truncated c.at) f e)
      (in_entry h.0 (entry_with (runs blocks s h.0).0.next x h.1 ++ seen) (Truncated (length bytes))
      h.3.steps h.3.room h.3.read (short_record x h.1 ls l seen h.4 refl h.5 h.6))
  refused_at f bytes c seen Whole h e = absurd (cc)
  refused_at f bytes c seen (Stopped g) h e =
      subst (λ (all : List ℕ). FirstFault blocks s budget all f) (append-nil bytes)
      (subst (λ (k : VerifyFault). FirstFault blocks s budget (bytes ++ []) k) (told_at g f e) (h []))

  -- what is refused has this first fault
  pub refused : (f : VerifyFault) (bytes : List ℕ) → verdict (feeds blocks budget (unread s) bytes) ≡ Refused f
      → FirstFault blocks s budget bytes f
  refused f bytes e =
      let r = feeds blocks budget (unread s) bytes in
      refused_at f bytes r.progress r.seen r.place (described blocks budget s bytes) e
