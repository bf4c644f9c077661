-- Loops over programs: each does something, or the first that has something to do.
use Rattle.std.proofs.Common.{◌≡◌, ℕ, ◌+◌, ◌<◌, ◌≤◌, Bool, true, false, cond, List, length, get_or, drop}
use Rattle.std.proofs.Common.{sym, ap, ap₂, ◌∙◌}
use Rattle.std.proofs.lemmas.List.{at_drop_more, at_drop_all}
use Rattle.grid_cycle_spec.specs.Grid.{Grid}
use Rattle.smt_spec.specs.Programs.{Four, alone, put}
use Rattle.smt_spec.specs.Parts.{Images}
use Rattle.smt_spec.specs.Turns.{first_does, all_do}

module _ {W : Type 0} (can : Images → ℕ → ℕ → Grid W → Bool) (does : Images → ℕ → ℕ → Grid W → Grid W)
    (images images' : Images) (budget budget' : ℕ) (same : images' ≡ images) (within : budget' ≡ budget)
    (ps : List ℕ) (i : ℕ) (l : i < length ps) (g now later : Four W) where
  -- the program whose turn it is
  abbrev p : ℕ
  p = get_or ps i 0

  -- what it makes of the machine
  abbrev made : Images → ℕ → Four W
  made bs b = put p (does bs b p (alone p now)) now

  made_same : made images' budget' ≡ made images budget
  made_same = ap₂ made same within

  -- one program more has done it
  pub all_more : later ≡ made images' budget' → all_do (does images budget) (drop i ps) now ≡ g
      → all_do (does images budget) (drop (i + 1) ps) later ≡ g
  all_more e h = ap (all_do (does images budget) (drop (i + 1) ps)) (e ∙ made_same)
      ∙ sym (at_drop_more (λ qs. all_do (does images budget) qs now) ps i 0 l) ∙ h

  module _ (b : Bool) (told : b ≡ can images' budget' p (alone p now))
      (e : later ≡ cond b (made images' budget') now) where
    told_same : b ≡ can images budget p (alone p now)
    told_same = told ∙ ap₂ (λ bs n. can bs n p (alone p now)) same within

    first_is : first_does (can images budget) (does images budget) (drop i ps) now
        ≡ cond b (made images budget) (first_does (can images budget) (does images budget) (drop (i + 1) ps) now)
    first_is = at_drop_more (λ qs. first_does (can images budget) (does images budget) qs now) ps i 0 l
        ∙ ap (λ x. cond x (made images budget) (first_does (can images budget) (does images budget)
        (drop (i + 1) ps) now)) (sym told_same)

    -- a program that has nothing to do is passed over
    pub first_more : b ≡ false → first_does (can images budget) (does images budget) (drop i ps) now ≡ g
        → first_does (can images budget) (does images budget) (drop (i + 1) ps) later ≡ g
    first_more off h =
        ap (first_does (can images budget) (does images budget) (drop (i + 1) ps))
        (e ∙ ap (λ x. cond x (made images' budget') now) off)
        ∙ sym (ap (λ x. cond x (made images budget) (first_does (can images budget) (does images budget)
        (drop (i + 1) ps) now)) off)
        ∙ sym first_is ∙ h

    -- one that has something to do does it, and none behind it
    pub first_done : b ≡ true → first_does (can images budget) (does images budget) (drop i ps) now ≡ g → later ≡ g
    first_done on h =
        e ∙ ap (λ x. cond x (made images' budget') now) on ∙ made_same
        ∙ sym (ap (λ x. cond x (made images budget) (first_does (can images budget) (does images budget)
        (drop (i + 1) ps) now)) on)
        ∙ sym first_is ∙ h

    -- a program that has nothing to do leaves the machine
    pub first_left : b ≡ false → later ≡ now
    first_left off = e ∙ ap (λ x. cond x (made images' budget') now) off

module _ {W : Type 0} (can : ℕ → Grid W → Bool) (does : ℕ → Grid W → Grid W) (ps : List ℕ) (i : ℕ)
    (l : length ps ≤ i) (g now : Four W) where
  -- all have done it
  pub all_end : all_do does (drop i ps) now ≡ g → now ≡ g
  all_end h = sym (at_drop_all (λ qs. all_do does qs now) ps i l) ∙ h

  -- none had anything to do
  pub first_end : first_does can does (drop i ps) now ≡ g → now ≡ g
  first_end h = sym (at_drop_all (λ qs. first_does can does qs now) ps i l) ∙ h
