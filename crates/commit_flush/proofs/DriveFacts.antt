-- One next event more, and none: what is seen of a window that is driven.
use Rattle.std.proofs.Common.{◌≡◌, ◌-◌, ◌<◌, Option, Some, None, length, sym, ap, ◌∙◌, subst}
use Rattle.trips_isa.specs.declared.run.Stepped.{Stepped}
use Rattle.trips_isa.specs.declared.run.Stepped.TheVariants.{Went}
use Rattle.trips_isa.specs.Machine.{runs}
use Rattle.commit_flush_spec.specs.Window.{Window, Event, happens}
use Rattle.commit_flush_spec.specs.inside.Invariant.{AllGood}
use Rattle.commit_flush_spec.specs.inside.Laws.{WindowOk}
use Rattle.commit_flush.specs.Seen.{Seen}
use Rattle.commit_flush_spec.specs.inside.NextEvent.{next_event}
use Rattle.commit_flush_spec.specs.inside.Work.{work}
use Rattle.commit_flush_spec.specs.inside.Driving.{driven}
use Rattle.commit_flush_spec.specs.inside.DrivingLaws.{HasGenerations}
use Rattle.commit_flush.specs.declared.known.Known.{Known}
use Rattle.commit_flush.specs.inside.Known.{IsKnown}
use Rattle.commit_flush_spec.proofs.Lowered.{work_falls, may_fill, has_work}
use Rattle.commit_flush_spec.proofs.DrivingEnds.{driven_steps, driven_rests}
use Rattle.commit_flush_spec.proofs.Runs.{driven_runs}

-- window v comes from window a by driving
pub record IsOn (a v : Seen) : Type 0 where
  pub same : v ≡ record a { window = v.window }
  pub room : HasGenerations v.budget v.window
  pub goal : driven v.image.blocks v.budget v.window ≡ driven a.image.blocks a.budget a.window

-- the window after its next event
pub turn : (a v u : Seen) (e : Event) → IsOn a v → AllGood v.image.blocks → WindowOk v.image.blocks v.budget v.window
    → Some e ≡ next_event v.budget v.window
    → u ≡ record v { window = happens v.image.blocks v.budget e v.window } → IsOn a u
turn a v u e on good ok next is = subst (IsOn a) (sym is) (record {
  same = ap (λ (z : Seen). (let y : Seen = record z { window = happens v.image.blocks v.budget e v.window } in y))
      on.same;
  room = steps.1;
  goal = sym steps.0 ∙ on.goal;
})
  where
    steps : (driven v.image.blocks v.budget v.window
        ≡ driven v.image.blocks v.budget (happens v.image.blocks v.budget e v.window))
        × HasGenerations v.budget (happens v.image.blocks v.budget e v.window)
    steps = driven_steps v.image.blocks v.budget e v.window good ok on.room (sym next)

-- the next event of a window lowers the work that is left
pub falls : (a v u : Seen) (e : Event) → IsOn a v → AllGood v.image.blocks → WindowOk v.image.blocks v.budget v.window
    → Some e ≡ next_event v.budget v.window
    → u ≡ record v { window = happens v.image.blocks v.budget e v.window }
    → work u.budget u.window < work v.budget v.window
falls a v u e on good ok next is =
    subst (λ (z : Seen). work z.budget z.window < work v.budget v.window) (sym is)
    (work_falls v.image.blocks v.budget e v.window good ok
    (may_fill v.budget v.window on.room (has_work v.budget v.window e (sym next))) (sym next))

-- there is no next event
pub ends : (a v : Seen) → IsOn a v → None ≡ next_event v.budget v.window
    → v ≡ record a { window = driven a.image.blocks a.budget a.window }
ends a v on none =
    on.same
    ∙ ap (λ w. (let z : Seen = record a { window = w } in z))
    (sym (driven_rests v.image.blocks v.budget v.window (sym none)) ∙ on.goal)

-- a window that is driven to its end comes to where the machine runs to within the budget
pub comes_to : (a v : Seen) (o : Stepped) → v ≡ record a { window = driven a.image.blocks a.budget a.window }
    → o ≡ v.window.over → AllGood a.image.blocks → WindowOk a.image.blocks a.budget a.window
    → HasGenerations a.budget a.window → a.window.over ≡ Went
    → (v.window.state, o) ≡ runs a.image.blocks a.window.state (a.budget - length a.window.state.trace)
comes_to a v o is told good ok room went =
    ap (λ x. (v.window.state, x)) told
    ∙ ap (λ (z : Seen). (z.window.state, z.window.over)) is
    ∙ driven_runs a.image.blocks a.budget a.window good ok room went

-- an event leaves the image, and so what is known of its blocks
pub stays_known : (v u : Seen) (x : Window) (k : Option Known) → u ≡ record v { window = x }
    → IsKnown v.image.blocks k → IsKnown u.image.blocks k
stays_known v u x k e is = subst (λ (z : Seen). IsKnown z.image.blocks k) (sym e) is
