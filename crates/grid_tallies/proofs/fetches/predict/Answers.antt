use Rattle.std.proofs.Common.{[], ◌∷◌, refl}
use Rattle.grid_events.specs.Notes.{Begins, Predicts}
use Rattle.grid_tallies.specs.declared.statistic.Statistic.TheVariants as statistic
use Rattle.grid_tallies.proofs.Guessing.{guessed_same}
use Rattle.grid_tallies.proofs.Tallying.{heard_adds}
use Rattle.grid_tallies.proofs.Weighed.{only_first}
use Rattle.grid_tallies.proofs.fetches.predict.Goals as goal

pub returns : goal.returns
returns c = λ careful.
    let n = c.args.frame in
    let k = c.args.block in
    record {
      tallies = heard_adds statistic.Predictions 1 c.args.told.now.tallies c.add.new.self
          (Predicts n k ∷ Begins k careful ∷ []) c.add.ensures
          (only_first (Predicts n k) statistic.Predictions (Begins k careful ∷ []) refl (λ s. refl));
      guesses = guessed_same c.args.told.now.guesses c.predict.new.self (Predicts n k ∷ [])
          (Predicts n k ∷ Begins k careful ∷ []) refl c.predict.ensures;
    }
