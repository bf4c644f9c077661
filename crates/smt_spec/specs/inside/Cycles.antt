-- Beside what is believed of Cycles.antt: runs of cycles of four programs.
use Rattle.std.specs.Prelude.{◌≡◌, ◌≢◌, ℕ, zero, suc, []}
use Rattle.smt_spec.specs.Programs.{Four}
use Rattle.smt_spec.specs.Parts.{Images}
use Rattle.smt_spec.specs.Cycles.{going, Eager4}

-- some cycles, then one more of a machine of which some program is not over
pub record OneMore {W : Type 0} (first : Four W → Type 0) (next : W → ℕ) (follows : W → W → Type 0) (images : Images)
    (budget : ℕ) (h : Four W) : Type 0 where
  -- the machine between them
  pub between : Four W
  pub before : first between
  pub on : going budget between ≢ []
  pub after : Eager4 next follows images budget between h

-- n eager cycles, one after another, each of a machine of which some program is not over
abbrev pub AfterFours : {W : Type 0} → (W → ℕ) → (W → W → Type 0) → Images → ℕ → ℕ → Four W → Four W → Type 0
AfterFours next follows images budget zero g h = h ≡ g
AfterFours next follows images budget (suc n) g h =
    OneMore (λ m. AfterFours next follows images budget n g m) next follows images budget h
