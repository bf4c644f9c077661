-- A grid of its own comes first at each station, so every eager cycle serves its oldest frame.
use Rattle.std.proofs.Common.{◌≡◌, ◌≢◌, ℕ, ◌-◌, ◌^◌, ◌<◌, ◌≤◌, ◌⊎◌, inl, inr, List, []}
use Rattle.std.proofs.Common.{length, Some, slice_get, slice_index}
use Rattle.std.proofs.Common.{refl, ap, ◌∙◌, subst, arith}
use Rattle.trips_isa.specs.declared.block.Block.{Block}
use Rattle.trips_isa.specs.declared.run.Stepped.{Stepped}
use Rattle.trips_isa.specs.declared.run.Stepped.TheVariants as stepped
use Rattle.operand_net.specs.Tick.{Ticked}
use Rattle.commit_flush_spec.specs.inside.Invariant.{AllGood}
use Rattle.commit_flush_spec.specs.inside.Laws.{WindowOk}
use Rattle.grid_cycle_spec.specs.Grid.{Grid, numbers_of}
use Rattle.grid_cycle_spec.specs.Costs.{size}
use Rattle.grid_cycle_spec.specs.Ends.{ends}
use Rattle.grid_cycle_spec.specs.Fetches.{fetches}
use Rattle.grid_cycle_spec.specs.Cycles.{Moves, Follows, Eager}
use Rattle.grid_bound.specs.inside.Serving.{Served}
use Rattle.grid_bound.specs.inside.Shows.{IsDue, Traps}
use Rattle.grid_bound.specs.inside.CycleRule.{CycleRule}
use Rattle.grid_bound.specs.inside.Held.{ServedHeld}
use Rattle.grid_bound.specs.inside.Lanes.{lane_in}
use Rattle.grid_bound.specs.inside.ServedFirst.{worked, ActsFirst, ServedFirst}
use Rattle.grid_bound.proofs.Ticks.{oldest_ticks}
use Rattle.grid_bound.proofs.FirstGridServed.{serve_first}
use Rattle.grid_bound.proofs.UnitsKept.{arrivals_kept}

module _ {W : Type 0} (blocks : List Block) (budget : ℕ) (next : W → ℕ) (follows : W → W → Type 0)
    (bound : (w : W) → next w ≤ 3) (g h : Grid W) (few : (t : ℕ) → h.units t ≤ 24) where
  abbrev E : Grid W
  E = ends blocks budget g

  abbrev D : Grid W
  D = worked blocks budget (fetches blocks budget E)

  -- units change in part (5) alone
  pub units_d : (m : Moves next follows blocks budget D h) → (t : ℕ) → D.units t ≤ 24
  units_d m t =
      let e : h.units t ≡ D.units t =
      ap (λ (k : Grid W). k.units t) m.arrived
      ∙ ap (λ (u : ℕ → ℕ). u t) (arrivals_kept blocks budget (numbers_of D.window.frames)
      (record D { parcels = m.parcels; weather = m.weather })) in
      let l : h.units t ≤ 24 = few t in omega (arith, e, l)

  abbrev pub acts_first : Moves next follows blocks budget D h → ActsFirst blocks budget 0 0 E h
  acts_first m = record {
    fetched = fetches blocks budget E;
    is_fetched = inl refl;
    few = omega arith;
    rest = record {
      units = D.units;
      own = λ t l. refl;
      held = units_d m;
      parcels = m.parcels;
      weather = m.weather;
      rows = λ f fs e. oldest_ticks next follows bound f.number (length fs) (numbers_of fs) D.parcels m.parcels
          D.weather m.weather
          (subst (λ l. Ticked next follows (numbers_of l) D.parcels m.parcels D.weather m.weather (length l)) e
          m.ticked);
      arrived = m.arrived;
    };
  }

  -- where part (1) ends the run nothing follows
  pub ended : (s : Stepped) → E.window.over ≡ s → Follows s next follows blocks budget E h
      → E.window.over ≢ stepped.Went
      → h.window ≡ E.window
  ended stepped.Went i m n = absurd (n i)
  ended stepped.Ended i m n = ap (λ (k : Grid W). k.window) m
  ended stepped.StackFull i m n = ap (λ (k : Grid W). k.window) m
  ended (stepped.Trap c) i m n = ap (λ (k : Grid W). k.window) m

  -- an eager cycle is one in which the grid comes first, and no other has the fetch unit
  abbrev pub eager_first : Eager next follows blocks budget g h → ServedFirst blocks budget 0 0 g h
  eager_first cycle = record {
    acts = λ e. acts_first (subst (λ s. Follows s next follows blocks budget E h) e cycle);
    rests = ended E.window.over refl cycle;
  }

module _ {W : Type 0} (blocks : List Block) (good : AllGood blocks) (budget : ℕ) (next : W → ℕ)
    (follows : W → W → Type 0) (bound : (w : W) → next w ≤ 3) (g h : Grid W) (ok : WindowOk blocks budget g.window)
    (went : g.window.over ≡ stepped.Went) (room : length g.window.state.trace < budget)
    (rule : (ends blocks budget g).window.over ≡ stepped.Went
    → CycleRule blocks budget (fetches blocks budget (ends blocks budget g)))
    (beyond : (t : ℕ) → 16 ≤ t → g.units t ≡ 0) (most : (t : ℕ) → h.units t ≤ 24) (b : Block)
    (is_code : slice_get blocks g.window.state.next ≡ Some b) (sizes : ℕ → ℕ)
    (is_size : size b ≡ sizes (length g.window.state.trace))
    (due : g.window.frames ≡ [] → IsDue g g.fetching × (slice_index g.window.generations 0 < 2 ^ 64 - 1))
    (cycle : Eager next follows blocks budget g h) where
  -- a cycle of a grid of its own traps, or serves its oldest frame
  pub serve : Traps h ⊎ Served sizes (lane_in g) (lane_in h)
  serve = by (serve_first blocks good budget 0 0 g h ok went room
      (eager_first blocks budget next follows bound g h most cycle) rule beyond b is_code sizes is_size due)
    where
      by : Traps h ⊎ ServedHeld sizes 0 0 (lane_in g) (lane_in h) → Traps h ⊎ Served sizes (lane_in g) (lane_in h)
      by (inl z) = inl z
      by (inr (inl s)) = inr s
      by (inr (inr w)) = absurd (let l : 0 < 0 = w.fewer in omega (arith, l))
