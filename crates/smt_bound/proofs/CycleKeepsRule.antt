-- A cycle keeps the rule of four programs.
use Rattle.std.proofs.Common.{◌≡◌, ℕ, ◌<◌, ◌≤◌, Bool, true, false, List, length}
use Rattle.std.proofs.Common.{slice_index, refl, sym, ap, ◌∙◌, subst, arith, true≢false}
use Rattle.trips_isa.specs.declared.run.Stepped.TheVariants as stepped
use Rattle.trips_isa.specs.Machine.{State}
use Rattle.block_predict.specs.Predicts.{Holding}
use Rattle.commit_flush_spec.specs.InFlight.{opened}
use Rattle.commit_flush_spec.specs.Window.{Window}
use Rattle.commit_flush_spec.specs.inside.Invariant.{AllGood}
use Rattle.commit_flush_spec.specs.inside.Laws.{WindowOk}
use Rattle.commit_flush_spec.proofs.Whole.{plays_ok}
use Rattle.grid_cycle_spec.specs.Grid.{Grid}
use Rattle.grid_cycle_spec.specs.inside.Laws.{ByEvents}
use Rattle.grid_cycle_spec.specs.Fetches.{fetch_ends}
use Rattle.grid_bound.specs.inside.Rule.{GridRule}
use Rattle.grid_bound.specs.inside.OneCycle.{HasRule}
use Rattle.grid_bound.proofs.EndParts.{Ruled}
use Rattle.grid_bound.proofs.GoingGrids.{Going}
use Rattle.grid_bound.proofs.Ties.{rule_of, ties_of}
use Rattle.grid_bound.proofs.StartPredictors.{begun_counted, begun_rule}
use Rattle.smt_spec.specs.Programs.{Four, alone}
use Rattle.smt_spec.specs.Turns.{all_four}
use Rattle.smt_spec.specs.inside.Among.{Distinct, Has}
use Rattle.smt_spec.specs.Parts.{Images, ends_of, fetches_go_on}
use Rattle.smt_spec.specs.Cycles.{has_gone, goes_on, going, acting, acts_of, Eager4, begun}
use Rattle.smt_spec.proofs.SeenAlone.{all_at}
use Rattle.smt_spec.proofs.SharedLeft.{fetched_kept}
use Rattle.smt_spec.proofs.FirstParts.{four_once}
use Rattle.smt_spec.proofs.OwnEvents.{Same, last_own, moved_own, same_last}
use Rattle.smt_spec.proofs.OverStays.{those_once, those_have, over_stays, retired, retires_on}
use Rattle.smt_spec.proofs.OwnRuns.{of_four, on_last, cycle_fetchless}
use Rattle.smt_bound.specs.inside.FourRule.{WithinBudget, FourRule}
use Rattle.smt_bound.proofs.EndedRuns.{gone_before, goes_gone, has_went, events_room}
use Rattle.smt_bound.proofs.PartsKeepRule.{ends_keep, acts_go, moves_go}
use Rattle.smt_bound.proofs.SharedKept.{cycle_far}
use Rattle.smt_bound.proofs.GenerationsKept.{last_many}
use Rattle.smt_bound.proofs.TwoFramesKept.{cycle_two}

module _ {W : Type 0} (images : Images) (budget : ℕ) (next : W → ℕ) (follows : W → W → Type 0)
    (bound : (w : W) → next w ≤ 3) (g h : Four W) (cycle : Eager4 next follows images budget g h) where
  abbrev m : Four W
  m = ends_of images budget (going budget g) g

  abbrev qs : List ℕ
  qs = acting (going budget g) (ends_of images budget (going budget g) g)

  abbrev L : Four W
  L = cycle.last

  -- a program that goes on before a cycle, and at its end before what has become over is flushed
  module _ (q : ℕ) (there : Has q all_four) (good : AllGood (images q))
      (before : goes_on budget (g.own q).window ≡ true) where
    once : Distinct (going budget g)
    once = those_once (goes_on budget) g all_four four_once

    here : Has q (going budget g)
    here = those_have (goes_on budget) g q all_four there before

    -- its rule behind part (1)
    pub ruled : HasRule (images q) budget (alone q g) → Ruled (images q) budget 1 (alone q m)
    ruled r = ends_keep images budget q good (going budget g) once here there g
        (record { ok = r.window; ties = ties_of 1 (alone q g) r.rule; fetch = (r.rule).fetch })

    -- its rule behind the cycle, where part (1) has not ended its run
    pub going_on : has_gone (m.own q).window.over ≡ true → HasRule (images q) budget (alone q g)
        → Going (images q) budget 1 (alone q L)
    going_on gone r =
        let a : Ruled (images q) budget 1 (alone q m) = ruled r in
        let b : Going (images q) budget 1 (alone q m) =
        record { ok = a.ok; went = has_went (m.own q).window.over gone; ties = a.ties; fetch = a.fetch } in
        let i : Has q qs = those_have (λ w. has_gone w.over) m q (going budget g) here gone in
        let d : Distinct qs = those_once (λ w. has_gone w.over) m (going budget g) once in
        moves_go images budget q good qs d i there next follows bound (acts_of images budget qs m) L cycle.moves
        (acts_go images budget q good qs d i there m b)

    -- one that goes on behind the cycle is as it was before what has become over was flushed
    module _ (after : goes_on budget (h.own q).window ≡ true) where
      last_on : goes_on budget (L.own q).window ≡ true
      last_on = on_last images budget q next follows g h cycle ∙ after

      pub as_last : alone q h ≡ alone q L
      as_last = retired images budget q there next follows g h cycle before
          ∙ retires_on images budget (alone q L) last_on

      gone_m : has_gone (m.own q).window.over ≡ true
      gone_m = gone_before (images q) budget (m.own q).window (L.own q).window
          (moved_own images budget q next follows g h cycle) (goes_gone budget (L.own q).window last_on)

      went_on : (g : Four W) → alone q (fetches_go_on images budget g)
          ≡ fetch_ends (images q) budget (g.own q).fetching (alone q g)
      went_on g = all_at (λ p k. fetch_ends (images p) budget k.fetching k)
          (λ p k. fetched_kept (images p) budget k.fetching k) q all_four g four_once there

      -- so a program that goes on keeps its rule
      pub kept : HasRule (images q) budget (alone q g) → HasRule (images q) budget (alone q h)
      kept r =
          let c : Going (images q) budget 1 (alone q L) = going_on gone_m r in
          record {
            window = subst (λ (k : Grid W). WindowOk (images q) budget k.window) (sym as_last) c.ok;
            rule = subst GridRule (sym as_last) (rule_of 1 (alone q L) c.ties c.fetch);
            generations = λ n.
                let a = last_many images budget q n went_on next follows g h cycle in
                let b : slice_index (g.own q).window.generations n ≤ g.cycles = r.generations n in
                let e : slice_index (h.own q).window.generations n ≡ slice_index (L.own q).window.generations n =
                ap (λ (k : Grid W). slice_index k.window.generations n) as_last in
                let f = (cycle_far images budget 16 (omega arith) next follows g h cycle).1 in
                omega (arith, a, b, e, f);
            units = λ t l. (cycle_far images budget t l next follows g h cycle).0 ∙ r.units t l;
          }

  -- budgets -----------------------------------------------------------------------------------------

  abbrev Budget : ℕ → Four W → Type 0
  Budget q k = WithinBudget budget (k.own q).window

  -- the same state and ending
  same_budget : (v w : Window) → Same v w → WithinBudget budget v → WithinBudget budget w
  same_budget v w s b = record {
    spent = subst (λ (x : State). length x.trace ≤ budget) (sym s.state) b.spent;
    trapped = λ c e. subst (λ (x : State). length x.trace < budget) (sym s.state) (b.trapped c (sym s.over ∙ e));
  }

  budgets_kept : (q : ℕ) → Has q all_four → AllGood (images q) → FourRule images budget g → q < 4 → Budget q h
  budgets_kept q there good r l = by (goes_on budget (g.own q).window) refl
    where
      by : (b : Bool) → goes_on budget (g.own q).window ≡ b → Budget q h
      by false i = subst (WithinBudget budget)
          (sym (over_stays images budget q there next follows g h cycle i (r.fetchless q l i)).0) (r.budgets q l)
      by true i =
          let s : HasRule (images q) budget (alone q g) = r.grids q l i in
          let e : ByEvents (images q) budget (g.own q).window (L.own q).window =
          last_own images budget q next follows g h cycle in
          same_budget (L.own q).window (h.own q).window (same_last images budget q next follows g h cycle) (record {
            spent = (ok_last good (g.own q).window (L.own q).window s.window e).spent;
            trapped = events_room (images q) budget (g.own q).window (L.own q).window e (r.budgets q l).trapped;
          })
        where
          ok_last : AllGood (images q) → (v w : Window) → WindowOk (images q) budget v
              → ByEvents (images q) budget v w → WindowOk (images q) budget w
          ok_last good v w ok e = subst (WindowOk (images q) budget) (sym e.played)
              (plays_ok (images q) good budget e.events v ok)

  -- the rule
  pub rules_kept : ((q : ℕ) → q < 4 → AllGood (images q)) → FourRule images budget g → FourRule images budget h
  rules_kept good r = record {
    grids = λ q l after. grid q l after (goes_on budget (g.own q).window) refl;
    fetchless = λ q l. cycle_fetchless images budget q (of_four q l) next follows g h cycle (r.fetchless q l);
    frames = λ q l. cycle_two images budget q (of_four q l) next follows g h cycle (r.fetchless q l) (r.frames q l);
    budgets = λ q l. budgets_kept q (of_four q l) (good q l) r l;
    units = λ t l. (cycle_far images budget t l next follows g h cycle).0 ∙ r.units t l;
  }
    where
      grid : (q : ℕ) → q < 4 → goes_on budget (h.own q).window ≡ true → (b : Bool)
          → goes_on budget (g.own q).window ≡ b → HasRule (images q) budget (alone q h)
      grid q l after true i = kept q (of_four q l) (good q l) i after (r.grids q l i)
      grid q l after false i = absurd (true≢false (sym after ∙ ap (goes_on budget)
          (over_stays images budget q (of_four q l) next follows g h cycle i (r.fetchless q l i)).0 ∙ i))

-- the stated start --------------------------------------------------------------------------------

-- at the stated start the machine has its rule
pub begun_rules : {W : Type 0} (images : Images) (budget : ℕ) (states : ℕ → State) (predictors : ℕ → Holding)
    (weather : W) → ((q : ℕ) → q < 4 → WindowOk (images q) budget (opened (states q)))
    → FourRule images budget (begun states predictors weather)
begun_rules images budget states predictors weather opens = record {
  grids = λ q l on. record {
    window = opens q l;
    rule = begun_rule (states q) (predictors q) weather;
    generations = begun_counted (states q) (predictors q) weather;
    units = λ t z. refl;
  };
  fetchless = λ q l e. refl;
  frames = λ q l. record { numbers = tt; room = λ n. absurd (n refl) };
  budgets = λ q l. record {
    spent = (opens q l).spent;
    trapped = λ c e. absurd (let bad : stepped.Went ≡
        stepped.Trap c = e in cc);
  };
  units = λ t l. refl;
}
