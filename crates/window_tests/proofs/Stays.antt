-- What a refused event leaves: the whole window.
use Rattle.std.proofs.Common.{◌≡◌, ◌≢◌, refl, ap, ◌∙◌}
use Rattle.commit_flush_spec.specs.Causes.{Happened, Done, NotNow}
use Rattle.commit_flush_spec.specs.Window.{Window, Event, can, done, happens, if_done}
use Rattle.commit_flush.specs.Seen.{Seen}

-- where an event is not Done, the old window is taken
stays : (h : Happened) (new old : Window) → h ≢ Done → if_done h new old ≡ old
stays Done new old n = absurd (n refl)
stays (NotNow c) new old n = refl

-- as the window is seen
pub stays_seen : (v u : Seen) (e : Event) → u ≡ record v { window = happens v.image.blocks v.budget e v.window }
    → can v.image.blocks v.budget e v.window ≢ Done → u ≡ v
stays_seen v u e is n = is ∙ ap (λ (x : Window). (let z : Seen = record v { window = x } in z))
    (stays (can v.image.blocks v.budget e v.window) (done v.image.blocks e v.window) v.window n)
