use Rattle.std.proofs.Common.{◌≡◌, ◌∙◌, ap, ℕ, List, [], replicate}
use Rattle.std.proofs.lemmas.Result.{IfOk-weaker}
use Rattle.block_predict.specs.Predicts.{holding}
use Rattle.grid_cycle.specs.Conditions.{zero_entries}
use Rattle.grid_cycle.proofs.conditions.zero_predictor.Goals as goal

-- 1,024 zeros are the entries of the table
zeros_are : (xs : List ℕ) → xs ≡ replicate 1024 0 → xs ≡ zero_entries
unfolding zero_entries
zeros_are xs e = e

pub returns : goal.returns
returns c = IfOk-weaker c.wrong.result _ _
    (λ p h. h ∙ ap (λ (xs : List ℕ). holding xs 0 [])
    (zeros_are c.in_ok-entries.entries.items (c.in_ok-entries.ensures.items_if_clones_equal (λ y h. h))))
    c.wrong.ensures
