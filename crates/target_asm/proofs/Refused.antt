-- What a call that reads a text answers where the text is no image's.
use Rattle.std.proofs.Common.{◌≡◌, List, ℕ, refl, sym, subst, inl, inr}
use Rattle.std.specs.Prelude.{Result, Ok, Err, IfErr, MatchResult}
use Rattle.trips_isa.specs.declared.block.Image.{Image}
use Rattle.target_asm_spec.specs.declared.fault.AsmFault.{AsmFault}
use Rattle.target_asm_spec.specs.declared.fault.AsmFault.TheVariants.{Syntax, Range, Label, Memory}
use Rattle.target_asm_spec.specs.FirstAsmFault.{FirstAsmFault}
use Rattle.target_asm_spec.specs.inside.Whole.{image_in}
use Rattle.target_asm.specs.inside.Taking.{Fails, ReturnsOrMemory, IsMemoryOr}
use Rattle.target_asm_laws.proofs.Judged.{fault_of}
use Rattle.target_asm_laws.proofs.FaultExact.{read_fault}

fails_first : (text : List ℕ) (e : AsmFault) → Fails e (image_in text)
    → IsMemoryOr (FirstAsmFault text) e
fails_first text (Syntax n) h = inr (fault_of text (Syntax n) h)
fails_first text (Range n) h = inr (fault_of text (Range n) h)
fails_first text (Label n) h = inr (fault_of text (Label n) h)
fails_first text Memory h = inl refl

-- the error of a call that reads a text is a lack of memory or the text's first fault
pub refused : (text : List ℕ) (r : Result Image AsmFault)
    → ReturnsOrMemory (λ v. v) r (image_in text) → IfErr r (IsMemoryOr (FirstAsmFault text))
refused text (Ok v) h = tt
refused text (Err e) h = fails_first text e h

err_is : (e f : AsmFault) → ◌≡◌ {A = Result Image AsmFault} (Err e) (Err f) → e ≡ f
err_is e f h = cc

fails_alone : (e f : AsmFault) → Fails {Y = Image} e (Err f) → IsMemoryOr (λ d. d ≡ f) e
fails_alone (Syntax n) f h = inr (sym (err_is f (Syntax n) h))
fails_alone (Range n) f h = inr (sym (err_is f (Range n) h))
fails_alone (Label n) f h = inr (sym (err_is f (Label n) h))
fails_alone Memory f h = inl refl

-- a call that reads a text with a first fault answers this fault or a lack of memory
pub refused_only : (text : List ℕ) (r : Result Image AsmFault)
    → ReturnsOrMemory (λ v. v) r (image_in text) → (f : AsmFault) → FirstAsmFault text f
    → MatchResult r (λ v. ⊥) (IsMemoryOr (λ e. e ≡ f))
refused_only text r h f s =
    by r (subst (λ (x : Result Image AsmFault). ReturnsOrMemory (λ v. v) r x) (read_fault text f s) h)
  where
    by : (r : Result Image AsmFault) → ReturnsOrMemory (λ v. v) r (Err f)
        → MatchResult r (λ v. ⊥) (IsMemoryOr (λ e. e ≡ f))
    by (Ok v) h = absurd (let q : ◌≡◌ {A = Result Image AsmFault} (Err f) (Ok v) = h in cc)
    by (Err e) h = fails_alone e f h
