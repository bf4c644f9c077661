use Rattle.std.proofs.Common.{[], ◌∷◌, refl, sym, subst}
use Rattle.grid_events.specs.Notes.{Begins}
use Rattle.grid_tallies.specs.Counters.{Hears}
use Rattle.grid_tallies.specs.inside.Fetching.{predicted_if}
use Rattle.grid_tallies.proofs.Hearing.{hears_none}
use Rattle.grid_tallies.proofs.fetches.hear_fetch.Goals as goal

pub returns-in-None : goal.returns-in-None
returns-in-None c = λ careful.
    subst (λ o. Hears c.args.told.now (predicted_if o c.args.block (Begins c.args.block careful ∷ [])) c.args.told.now)
    (sym c.in-None.is) (hears_none c.args.told.now (Begins c.args.block careful ∷ []) (λ s. refl) refl)

pub returns-in-Some : goal.returns-in-Some
returns-in-Some c = λ careful.
    subst (λ o. Hears c.args.told.now (predicted_if o c.args.block (Begins c.args.block careful ∷ []))
    c.predict.new.told) (sym c.in-Some.is) (c.predict.ensures careful)
