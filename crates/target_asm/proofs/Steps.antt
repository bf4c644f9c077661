-- Reading step by step is reading, and each text of an image is read.
use Rattle.std.proofs.Common.{◌≡◌, ℕ, ◌+◌, List, refl, sym, subst}
use Rattle.std.proofs.Common.{Result, Ok, Err}
use Rattle.std.specs.Prelude.{MatchResult, not}
use Rattle.trips_isa.specs.declared.block.Image.{Image}
use Rattle.target_asm_spec.specs.Text.{TargetText}
use Rattle.target_asm_spec.specs.declared.fault.AsmFault.{AsmFault}
use Rattle.target_asm_spec.specs.declared.fault.AsmFault.TheVariants.{Syntax, Range, Label, Memory}
use Rattle.target_asm_spec.specs.inside.Blocks.{◌>>>◌, wants}
use Rattle.target_asm_spec.specs.inside.Whole.{is_empty, front_in, data_in, data_lines, begins_of, unknown}
use Rattle.target_asm_spec.specs.inside.Whole.{body_in, image_in}
use Rattle.target_asm_spec.proofs.Images.{read_again}
use Rattle.target_asm.specs.inside.Taking.{Fails, ReturnsOrMemory, IsMemory, after_front, steps_in}

bind_same : {A B : Type 0} (r : Result A AsmFault) (f g : A → Result B AsmFault)
    → ((x : A) → f x ≡ g x) → (r >>> f) ≡ (r >>> g)
bind_same (Ok x) f g h = h x
bind_same (Err e) f g h = refl

bind_bind : {A B C : Type 0} (r : Result A AsmFault) (f : A → Result B AsmFault)
    (g : B → Result C AsmFault)
    → (r >>> λ x. (f x >>> g)) ≡ ((r >>> f) >>> g)
bind_bind (Ok x) f g = refl
bind_bind (Err e) f g = refl

pub steps_same : (text : List ℕ) → image_in text ≡ steps_in text
unfolding image_in
steps_same text =
    bind_same (front_in text) _ after_front (λ f.
    bind_same (data_in f.0 f.1) _ _ (λ d.
    bind_same (wants (not (is_empty d.1)) (Syntax (3 + data_lines f.0))) _ _ (λ u.
    bind_bind (body_in unknown (3 + data_lines f.0) d.1) (λ first. Ok (begins_of first))
    (λ b. body_in b (3 + data_lines f.0) d.1 >>> λ blocks. Ok
    (record { blocks = blocks; bytes = d.0 })))))

no_fails : (e : AsmFault) (i : Image) → Fails e (Ok i) → IsMemory e
no_fails (Syntax l) i h = absurd cc
no_fails (Range l) i h = absurd cc
no_fails (Label l) i h = absurd cc
no_fails Memory i h = refl

ok_is : (x y : Image) → ◌≡◌ {A = Result Image AsmFault} (Ok x) (Ok y) → x ≡ y
ok_is x y e = cc

-- an answer that is right of the reading in steps is right of the reading at once
pub answers_same : (text : List ℕ) (r : Result Image AsmFault) → ReturnsOrMemory (λ v. v) r (steps_in text)
    → ReturnsOrMemory (λ v. v) r (image_in text)
answers_same text r h = subst (λ (x : Result Image AsmFault). ReturnsOrMemory (λ v. v) r x)
    (sym (steps_same text)) h

only : (i : Image) (r : Result Image AsmFault) → ReturnsOrMemory (λ v. v) r (Ok i)
    → MatchResult r (λ v. v ≡ i) IsMemory
only i (Ok v) h = sym (ok_is i v h)
only i (Err e) h = no_fails e i h

-- a call that reads the text of an image answers this image or a lack of memory
pub read_only : (text : List ℕ) (r : Result Image AsmFault) → ReturnsOrMemory (λ v. v) r (image_in text)
    → (i : Image) → TargetText i text → MatchResult r (λ v. v ≡ i) IsMemory
read_only text r h i t =
    only i r (subst (λ (x : Result Image AsmFault). ReturnsOrMemory (λ v. v) r x) (read_again i text t) h)
