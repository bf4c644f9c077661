-- A program that has nothing for a station does nothing there.
use Rattle.std.proofs.Common.{◌≡◌, ℕ, ◌==◌, false, Option, Some, None, is_some, refl, ap, true≢false}
use Rattle.std.proofs.lemmas.Bool.{cond_both}
use Rattle.commit_flush_spec.specs.Frames.{numbers}
use Rattle.grid_cycle_spec.specs.Grid.{Grid}
use Rattle.grid_cycle_spec.specs.Choosing.{eldest, reads, slots}
use Rattle.grid_cycle_spec.specs.Banks.{answers_read, read_chosen, bank_turn}
use Rattle.grid_cycle_spec.specs.DataTiles.{answers_request, answer_chosen, data_turn}
use Rattle.grid_cycle_spec.specs.Units.{ready, issue_chosen, issues}
use Rattle.smt_spec.specs.Parts.{has_read, has_request, has_ready, Images}

none_is : {A : Type 0} (o : Option A) → is_some o ≡ false → o ≡ None
none_is None e = refl
none_is (Some a) e = absurd (true≢false e)

module _ {W : Type 0} (images : Images) (budget : ℕ) where
  -- a bank without an answerable read
  pub no_read : (bank p : ℕ) (h : Grid W) → has_read images budget bank p h ≡ false
      → bank_turn (images p) budget bank h ≡ h
  no_read bank p h e = ap (λ o. read_chosen (images p) budget bank o h)
      (none_is (eldest (answers_read (images p) budget h bank) reads h.window.frames) e)

  -- a data tile without an answerable request
  pub no_request : (tile p : ℕ) (h : Grid W) → has_request tile p h ≡ false
      → data_turn (images p) budget tile h ≡ h
  no_request tile p h e = ap (λ o. answer_chosen (images p) budget tile o h)
      (none_is (eldest (answers_request h tile) numbers h.window.frames) e)

  -- a bank without an answerable read
  -- a tile without a ready entry
  pub no_ready : (tile p : ℕ) (h : Grid W) → has_ready images budget tile p h ≡ false
      → issues (images p) budget tile h ≡ h
  no_ready tile p h e = cond_both (h.units tile == 0)
      (issue_chosen (images p) budget tile (eldest (ready (images p) budget h tile) slots h.window.frames) h) h
      (λ k. k ≡ h)
      (λ z. ap (λ o. issue_chosen (images p) budget tile o h)
      (none_is (eldest (ready (images p) budget h tile) slots h.window.frames) e)) (λ z. refl)
