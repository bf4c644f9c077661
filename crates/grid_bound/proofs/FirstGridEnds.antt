-- Behind a cycle in which a grid comes first, the state is that behind part (1), and the run has ended as there.
use Rattle.std.proofs.Common.{◌≡◌, ◌≢◌, ℕ, inl, inr}
use Rattle.std.proofs.Common.{List, []}
use Rattle.std.proofs.Common.{refl, sym, ap, ◌∙◌, subst}
use Rattle.std.proofs.lemmas.Bool.{cond_both}
use Rattle.trips_isa.specs.declared.block.Block.{Block}
use Rattle.trips_isa.specs.declared.run.Stepped.{Stepped}
use Rattle.trips_isa.specs.declared.run.Stepped.TheVariants as stepped
use Rattle.commit_flush_spec.specs.Window.{Window}
use Rattle.commit_flush_spec.specs.Window as window
use Rattle.commit_flush_spec.specs.inside.Invariant.{AllGood}
use Rattle.grid_cycle_spec.specs.Grid.{Grid, numbers_of}
use Rattle.grid_cycle_spec.specs.Acting.{may}
use Rattle.grid_cycle_spec.specs.Ends.{seal_each, commit_in, commit_oldest, ends}
use Rattle.grid_bound.specs.inside.ServedFirst.{worked, RestFirst, FetchesFirst, ActsFirst, ServedFirst}
use Rattle.grid_cycle_spec.proofs.KeptByCycles.{worked_keep}
use Rattle.grid_cycle_spec.proofs.KeptByTurns.{seals_keep, fetches_keep, fetched_keeps}
use Rattle.grid_cycle_spec.proofs.KeptByArrivals.{arrivals_keep}
use Rattle.grid_bound.proofs.Steady.{On, then_onward, steady}

-- without a frame in flight nothing is sealed or committed
pub idle_ends : {W : Type 0} (blocks : List Block) (budget : ℕ) (g : Grid W) → g.window.frames ≡ []
    → ends blocks budget g ≡ g
idle_ends blocks budget g i =
    ap (λ l. commit_oldest blocks budget (seal_each blocks budget (numbers_of l) g)) i
    ∙ cond_both (may blocks budget window.Commit g) (commit_in blocks budget g.window.frames g) g (λ h. h ≡ g)
    (λ z. ap (λ l. commit_in blocks budget l g) i) (λ z. refl)

module _ {W : Type 0} (blocks : List Block) (good : AllGood blocks) (budget : ℕ) where
  -- the seals of part (1) commit nothing
  pub seals_onward : (ns : List ℕ) (m : Grid W) → On blocks budget m (seal_each blocks budget ns m)
  seals_onward = seals_keep blocks budget (On blocks budget) (steady blocks budget good) tt

  -- behind part (1) a cycle commits nothing, and does not end the run
  rest_on : (m h : Grid W) → RestFirst blocks budget m h → On blocks budget m h
  rest_on m h s =
      let d : Grid W = worked blocks budget m in
      let n : Grid W = record d { units = s.units; parcels = s.parcels; weather = s.weather } in
      then_onward blocks budget m.window d.window h.window
      (worked_keep blocks budget (On blocks budget) (steady blocks budget good) (λ n. tt) tt tt m)
      (subst (λ k. On blocks budget d k) (sym s.arrived) (arrivals_keep blocks budget (On blocks budget)
      (steady blocks budget good) (λ n. tt) (numbers_of d.window.frames) n))

  -- the committed state and the ending are those behind part (1)
  abbrev Alike : Grid W → Grid W → Type 0
  Alike g h = (h.window.state ≡ (ends blocks budget g).window.state)
      × (h.window.over ≡ (ends blocks budget g).window.over)

  module _ (held_from held_to : ℕ) where
    -- part (2), where the grid comes first, commits nothing
    pub fetches_on : (m h : Grid W) → FetchesFirst blocks budget held_from held_to m h → On blocks budget m h
    fetches_on m h (inl e) = subst (λ k. On blocks budget m k) (sym e)
        (fetches_keep blocks budget (On blocks budget) (steady blocks budget good) tt m)
    fetches_on m h (inr e) = subst (λ k. On blocks budget m k) (sym e.0)
        (fetched_keeps blocks budget (On blocks budget) (steady blocks budget good) tt m.fetching m)

    acts_on : (m h : Grid W) → ActsFirst blocks budget held_from held_to m h → On blocks budget m h
    acts_on m h a = then_onward blocks budget m.window (a.fetched).window h.window
        (fetches_on m a.fetched a.is_fetched) (rest_on a.fetched h a.rest)

    -- a cycle in which a grid comes first leaves the state and the end of the run as part (1) does
    pub ends_alike : (g h : Grid W) → ServedFirst blocks budget held_from held_to g h → Alike g h
    ends_alike g h first = by (ends blocks budget g).window.over refl
      where
        rests : (ends blocks budget g).window.over ≢ stepped.Went → Alike g h
        rests n = (ap (λ (w : Window). w.state) (first.rests n), ap (λ (w : Window). w.over) (first.rests n))

        by : (s : Stepped) → (ends blocks budget g).window.over ≡ s → Alike g h
        by stepped.Went i = let o = acts_on (ends blocks budget g) h (first.acts i) in (o.state, o.over)
        by stepped.Ended i = rests (λ z. (let bad : stepped.Ended ≡ stepped.Went = sym i ∙ z in cc))
        by stepped.StackFull i = rests (λ z. (let bad : stepped.StackFull ≡ stepped.Went = sym i ∙ z in cc))
        by (stepped.Trap c) i = rests (λ z. (let bad : stepped.Trap c ≡ stepped.Went = sym i ∙ z in cc))
