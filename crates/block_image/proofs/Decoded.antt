-- What decoding answers: the image that the bytes spell, or their first fault.
use Rattle.std.proofs.Common.{◌≡◌, ℕ, ◌<◌, List, Result, Ok, Err, get_or, refl, sym, ap, subst, ◌∙◌}
use Rattle.std.proofs.Common.{◌⊎◌, inl, inr}
use Rattle.std.specs.Prelude.{All, IfOk, IfErr, MatchResult}
use Rattle.trips_isa.specs.declared.block.Image.{Image}
use Rattle.block_image.specs.declared.fault.ImageFault.{ImageFault}
use Rattle.block_image.specs.declared.fault.ImageFault.TheVariants.{Magic, Version, Truncated}
use Rattle.block_image.specs.declared.fault.ImageFault.TheVariants.{Trailing, BadField, Memory}
use Rattle.block_image.specs.Spelling.{ImageBytes}
use Rattle.block_image.specs.inside.ImageReading.{Fails, DecodesOrMemory, IsMemory, IsMemoryOr, image_at}
use Rattle.block_image.specs.FirstFault.{FirstFault}
use Rattle.block_image.proofs.Each.{AreBytes, each_of, each_byte}
use Rattle.block_image.proofs.Lists.{ok_is}
use Rattle.block_image.proofs.FaultLaws.{err_is}
use Rattle.block_image.proofs.ImageLaws.{image_takes, image_again}
use Rattle.block_image.proofs.FirstFaultBlocks.{image_fault}
use Rattle.block_image.proofs.FirstFaultAgain.{image_fault_again}

-- reading gives the image that the bytes spell
read_again : (i : Image) (bytes : List ℕ) → ImageBytes i bytes → image_at bytes ≡ Ok i
read_again i bytes s = ap image_at s.spelled ∙ image_again i s.fits

-- ---- the laws of faults

-- bytes have one first fault
pub one_fault : (bytes : List ℕ) (f g : ImageFault) → FirstFault bytes f → FirstFault bytes g
    → f ≡ g
one_fault bytes f g a b = err_is {A = Image} f g
    (sym (image_fault_again bytes f a) ∙ image_fault_again bytes g b)

-- bytes are an image's or have a first fault, not both
pub not_both : (i : Image) (bytes : List ℕ) (f : ImageFault) → ImageBytes i bytes
    → FirstFault bytes f → ⊥
not_both i bytes f a b = let x = read_again i bytes a in let y = image_fault_again bytes f b in cc

-- bytes spell an image, or have a first fault
pub either : (bytes : List ℕ) → All (λ b. b < 256) bytes
    → ((i : Image) × ImageBytes i bytes) ⊎ ((f : ImageFault) × FirstFault bytes f)
either bytes a = by (image_at bytes) refl
  where
    by : (r : Result Image ImageFault) → image_at bytes ≡ r
        → ((i : Image) × ImageBytes i bytes) ⊎ ((f : ImageFault) × FirstFault bytes f)
    by (Ok i) e = inl (i, image_takes bytes i (each_of (λ b. b < 256) bytes a) e)
    by (Err f) e = inr (f, image_fault bytes f (each_of (λ b. b < 256) bytes a) e)

-- ---- the answers

-- an image that is decoded from bytes is spelled by them
pub decoded : (bytes : List ℕ) (r : Result Image ImageFault) → ((i : ℕ) → get_or bytes i 0 < 256)
    → DecodesOrMemory (λ v. v) r (image_at bytes) → IfOk r (λ v. ImageBytes v bytes)
decoded bytes (Ok v) f h = image_takes bytes v (each_byte bytes f) h
decoded bytes (Err e) f h = tt

no_fails : (e : ImageFault) (i : Image) → Fails e (Ok i) → IsMemory e
no_fails Magic i h = absurd cc
no_fails Version i h = absurd cc
no_fails (Truncated n) i h = absurd cc
no_fails (Trailing n) i h = absurd cc
no_fails (BadField n) i h = absurd cc
no_fails Memory i h = refl

-- decoding the bytes of an image answers this image or a lack of memory
pub decoded_only : (bytes : List ℕ) (r : Result Image ImageFault)
    → DecodesOrMemory (λ v. v) r (image_at bytes) → (i : Image) → ImageBytes i bytes
    → MatchResult r (λ v. v ≡ i) IsMemory
decoded_only bytes r h i s =
    by r (subst (λ (x : Result Image ImageFault). DecodesOrMemory (λ v. v) r x) (read_again i bytes s) h)
  where
    by : (r : Result Image ImageFault) → DecodesOrMemory (λ v. v) r (Ok i)
        → MatchResult r (λ v. v ≡ i) IsMemory
    by (Ok v) h = sym (ok_is i v h)
    by (Err e) h = no_fails e i h

fails_first : (bytes : List ℕ) (e : ImageFault) → AreBytes bytes → Fails e (image_at bytes)
    → IsMemoryOr (FirstFault bytes) e
fails_first bytes Magic a h = inr (image_fault bytes Magic a h)
fails_first bytes Version a h = inr (image_fault bytes Version a h)
fails_first bytes (Truncated n) a h = inr (image_fault bytes (Truncated n) a h)
fails_first bytes (Trailing n) a h = inr (image_fault bytes (Trailing n) a h)
fails_first bytes (BadField n) a h = inr (image_fault bytes (BadField n) a h)
fails_first bytes Memory a h = inl refl

-- an error of decoding is a lack of memory or the first fault of the bytes
pub refused : (bytes : List ℕ) (r : Result Image ImageFault) → ((i : ℕ) → get_or bytes i 0 < 256)
    → DecodesOrMemory (λ v. v) r (image_at bytes) → IfErr r (IsMemoryOr (FirstFault bytes))
refused bytes (Ok v) f h = tt
refused bytes (Err e) f h = fails_first bytes e (each_byte bytes f) h

fails_alone : (e f : ImageFault) → Fails {Y = Image} e (Err f) → IsMemoryOr (λ d. d ≡ f) e
fails_alone Magic f h = inr (sym (err_is {A = Image} f Magic h))
fails_alone Version f h = inr (sym (err_is {A = Image} f Version h))
fails_alone (Truncated n) f h = inr (sym (err_is {A = Image} f (Truncated n) h))
fails_alone (Trailing n) f h = inr (sym (err_is {A = Image} f (Trailing n) h))
fails_alone (BadField n) f h = inr (sym (err_is {A = Image} f (BadField n) h))
fails_alone Memory f h = inl refl

-- decoding bytes with a first fault answers this fault or a lack of memory
pub refused_only : (bytes : List ℕ) (r : Result Image ImageFault)
    → DecodesOrMemory (λ v. v) r (image_at bytes) → (f : ImageFault) → FirstFault bytes f
    → MatchResult r (λ v. ⊥) (IsMemoryOr (λ e. e ≡ f))
refused_only bytes r h f s =
    by r (subst (λ (x : Result Image ImageFault). DecodesOrMemory (λ v. v) r x)
    (image_fault_again bytes f s) h)
  where
    by : (r : Result Image ImageFault) → DecodesOrMemory (λ v. v) r (Err f)
        → MatchResult r (λ v. ⊥) (IsMemoryOr (λ e. e ≡ f))
    by (Ok v) h = absurd (let q : ◌≡◌ {A = Result Image ImageFault} (Err f) (Ok v) = h in cc)
    by (Err e) h = fails_alone e f h
