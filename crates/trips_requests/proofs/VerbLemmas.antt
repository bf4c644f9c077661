-- Which option of a command takes a number.
use Rattle.std.proofs.Common.{◌≡◌, refl, codes}
use Rattle.trips_requests.specs.declared.commands.Verb.{Verb}
use Rattle.trips_requests.specs.declared.commands.Verb.TheVariants as verb
use Rattle.trips_requests.specs.Options.{counted}

-- beside those that run blocks it counts steps
pub counts_steps : (k : Verb) → (k ≡ verb.Run → ⊥) → (k ≡ verb.Bench → ⊥) → (k ≡ verb.Record → ⊥)
    → (k ≡ verb.Resume → ⊥) → (k ≡ verb.Four → ⊥) → (k ≡ verb.Save → ⊥) → (k ≡ verb.Draw → ⊥)
    → codes "steps" ≡ counted k
counts_steps verb.Run r b c d f e w = absurd (r refl)
counts_steps verb.Bench r b c d f e w = absurd (b refl)
counts_steps verb.Record r b c d f e w = absurd (c refl)
counts_steps verb.Resume r b c d f e w = absurd (d refl)
counts_steps verb.Four r b c d f e w = absurd (f refl)
counts_steps verb.Save r b c d f e w = absurd (e refl)
counts_steps verb.Draw r b c d f e w = absurd (w refl)
counts_steps verb.Evaluate r b c d f e w = refl
counts_steps _ r b c d f e w = refl
