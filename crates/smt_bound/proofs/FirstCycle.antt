-- A cycle gets the prime program on: its next block is committed, or what is left for it falls, or its run traps.
use Rattle.std.proofs.Common.{◌≡◌, ℕ, ◌-◌, ◌^◌, ◌<◌, ◌≤◌, ◌⊎◌, inl, inr, Bool, true, false, cond, List, []}
use Rattle.std.proofs.Common.{◌∷◌, length}
use Rattle.std.proofs.Common.{Option, Some, None, refl, sym, ap, ◌∙◌, subst, arith, true≢false}
use Rattle.trips_isa.specs.declared.run.Stepped.TheVariants as stepped
use Rattle.commit_flush_spec.specs.Frames.{Frame}
use Rattle.commit_flush_spec.specs.Window.{Window}
use Rattle.commit_flush_spec.specs.inside.Invariant.{AllGood}
use Rattle.grid_cycle_spec.specs.Costs.{fetch_latency}
use Rattle.grid_cycle_spec.specs.Grid.{Grid, Fetching, numbers_of}
use Rattle.grid_cycle_spec.specs.Acting.{known_next}
use Rattle.grid_cycle_spec.specs.Ends.{ends}
use Rattle.grid_bound.specs.inside.Rule.{FetchRule}
use Rattle.grid_bound.specs.inside.OneCycle.{HasRule}
use Rattle.grid_bound.specs.inside.CycleRule.{CycleRule}
use Rattle.grid_bound.specs.inside.Lanes.{lane_in}
use Rattle.grid_bound.specs.inside.Runs.{Stands}
use Rattle.grid_bound.specs.inside.Shows.{Traps}
use Rattle.grid_bound.specs.inside.Held.{ServedHeld, FallsHeld}
use Rattle.grid_bound.specs.inside.ServedFirst.{FetchesFirst}
use Rattle.grid_bound.proofs.Asked.{cycle_rule}
use Rattle.grid_bound.proofs.EndParts.{Ruled}
use Rattle.grid_bound.proofs.FirstGridServed.{serve_first}
use Rattle.grid_bound.proofs.GoingGrids.{Going}
use Rattle.grid_bound.proofs.GridsOfRuns.{stands_here}
use Rattle.grid_bound.proofs.Held.{falls_held}
use Rattle.grid_bound.proofs.Ties.{rule_of, ties_of}
use Rattle.smt_spec.specs.Programs.{Four, alone, is_idle}
use Rattle.smt_spec.specs.Turns.{all_do, all_four}
use Rattle.smt_spec.specs.inside.Among.{Distinct, Has}
use Rattle.smt_spec.specs.Parts.{Images, ends_of, fetches_go_on, fetches_of}
use Rattle.smt_spec.specs.Cycles.{has_gone, goes_on, those, going, acts_of, retires, Eager4}
use Rattle.smt_spec.proofs.FirstParts.{four_once}
use Rattle.smt_spec.proofs.OverStays.{on_parts, those_once}
use Rattle.smt_bound.specs.inside.FourRule.{AllTwo, FourRule}
use Rattle.smt_bound.specs.inside.Holding.{left_of, HeldFor}
use Rattle.smt_bound.specs.inside.LeftOfFirst.{next_size}
use Rattle.smt_bound.proofs.CycleKeepsRule.{rules_kept}
use Rattle.smt_bound.proofs.EndedRuns.{has_went}
use Rattle.smt_bound.proofs.FetchHeld.{ends_less, retires_less, waited}
use Rattle.smt_bound.proofs.FirstServed as served
use Rattle.smt_bound.proofs.PartsKeepRule.{ends_keep, fetches_go, acts_go}
use Rattle.smt_bound.proofs.TwoFramesKept.{ends_of_two, acts_two}

-- a fetch that follows the rule takes at most 7 cycles beyond the next
fetch_few : (known : Option ℕ) (o : Option Fetching) → FetchRule known o → left_of o ≤ 7
fetch_few known None r = omega arith
fetch_few known (Some f) r = let l : f.left < fetch_latency = r.0 in omega (arith, l)

-- by the rule the fetch unit works for no program for longer
pub rule_held : {W : Type 0} (images : Images) (budget : ℕ) (g : Four W) → FourRule images budget g → HeldFor 7 g
rule_held images budget g r q l = by (goes_on budget (g.own q).window) refl
  where
    by : (b : Bool) → goes_on budget (g.own q).window ≡ b → left_of (g.own q).fetching ≤ 7
    by true e = fetch_few (known_next (g.own q).window) (g.own q).fetching ((r.grids q l e).rule).fetch
    by false e = let z : left_of (g.own q).fetching ≡ 0 = ap left_of (r.fetchless q l e) in omega (arith, z)

-- what stands at the head of those that pass passes, and is one of all
pub those_head : {W : Type 0} (passes : Window → Bool) (g : Four W) (p : ℕ) (ps l : List ℕ)
    → those passes g l ≡ p ∷ ps → (passes (g.own p).window ≡ true) × Has p l
those_head passes g p ps [] e = absurd (cc)
those_head passes g p ps (x ∷ xs) e = by (passes (g.own x).window) refl e (λ z. those_head passes g p ps xs z)
  where
    by : (b : Bool) → passes (g.own x).window ≡ b → cond b (x ∷ those passes g xs) (those passes g xs) ≡ p ∷ ps
        → (those passes g xs ≡ p ∷ ps → (passes (g.own p).window ≡ true) × Has p xs)
        → (passes (g.own p).window ≡ true) × Has p (x ∷ xs)
    by true i z again = let s : x ≡ p = cc in (ap (λ j. passes (g.own j).window) (sym s) ∙ i, inl s)
    by false i z again = let k = again z in (k.0, inr k.1)

-- who is of all four is below four
pub below_four : (p : ℕ) → Has p all_four → p < 4
below_four p (inl e) = omega (arith, e)
below_four p (inr (inl e)) = omega (arith, e)
below_four p (inr (inr (inl e))) = omega (arith, e)
below_four p (inr (inr (inr (inl e)))) = omega (arith, e)
below_four p (inr (inr (inr (inr e)))) = absurd e

-- the prime program of a machine that has its rule
module _ {W : Type 0} (images : Images) (budget : ℕ) (goods : (q : ℕ) → q < 4 → AllGood (images q)) (g : Four W)
    (rules : FourRule images budget g) (few : g.cycles < 2 ^ 64 - 1) (p : ℕ) (ps : List ℕ)
    (first : going budget g ≡ p ∷ ps) where
  goes_of : goes_on budget (g.own p).window ≡ true
  goes_of = (those_head (goes_on budget) g p ps all_four first).0

  low_of : p < 4
  low_of = below_four p (those_head (goes_on budget) g p ps all_four first).1

  on_of : ((g.own p).window.over ≡ stepped.Went) × (length (g.own p).window.state.trace < budget)
  on_of = on_parts budget (g.own p).window goes_of

  has_of : HasRule (images p) budget (alone p g)
  has_of = rules.grids p low_of goes_of

  -- what it sees stands as its next cycle asks
  pub stands_of : Stands (images p) budget (λ n. next_size images p g) (alone p g)
  stands_of = stands_here (images p) (goods p low_of) budget (alone p g) has_of.window has_of.rule has_of.generations
      has_of.units (record { went = on_of.0; room = on_of.1 }) few (λ n. next_size images p g) refl

module _ {W : Type 0} (images : Images) (budget : ℕ) (next : W → ℕ) (follows : W → W → Type 0)
    (bound : (w : W) → next w ≤ 3) (goods : (q : ℕ) → q < 4 → AllGood (images q)) (g h : Four W)
    (rules : FourRule images budget g) (few : g.cycles < 2 ^ 64 - 1) (cycle : Eager4 next follows images budget g h)
    (p : ℕ) (ps : List ℕ) (first : going budget g ≡ p ∷ ps) where
  abbrev A : Grid W
  A = alone p g

  abbrev L : Four W
  L = cycle.last

  pub low : p < 4
  low = low_of images budget goods g rules few p ps first

  there : Has p all_four
  there = (those_head (goes_on budget) g p ps all_four first).1

  good : AllGood (images p)
  good = goods p low

  -- the program goes on
  pub on : (A.window.over ≡ stepped.Went) × (length A.window.state.trace < budget)
  on = on_of images budget goods g rules few p ps first

  has : HasRule (images p) budget A
  has = has_of images budget goods g rules few p ps first

  abbrev sizes : ℕ → ℕ
  sizes n = next_size images p g

  stands : Stands (images p) budget sizes A
  stands = stands_of images budget goods g rules few p ps first

  once : Distinct (p ∷ ps)
  once = subst Distinct first (those_once (goes_on budget) g all_four four_once)

  abbrev m : Four W
  m = ends_of images budget (p ∷ ps) g

  abbrev qs : List ℕ
  qs = those (λ w. has_gone w.over) (ends_of images budget (p ∷ ps) g) ps

  abbrev E : Grid W
  E = ends (images p) budget A

  seen_m : alone p m ≡ E
  seen_m = served.seen_m images budget p next follows bound ps once.0 there g h first cycle

  once_qs : Distinct (p ∷ qs)
  once_qs = (
    served.apart_qs images budget p next follows bound ps once.0 there g h first cycle,
    those_once (λ w. has_gone w.over) m ps once.1,
  )

  ruled : Ruled (images p) budget 1 (alone p m)
  ruled = ends_keep images budget p good (p ∷ ps) once (inl refl) there g
      (record { ok = has.window; ties = ties_of 1 A has.rule; fetch = (has.rule).fetch })

  module _ (went : E.window.over ≡ stepped.Went) where
    going_m : Going (images p) budget 1 (alone p m)
    going_m = record {
      ok = ruled.ok;
      went = ap (λ (k : Grid W). k.window.over) seen_m ∙ went;
      ties = ruled.ties;
      fetch = ruled.fetch;
    }

    rule_f : CycleRule (images p) budget (alone p (fetches_of images budget (p ∷ qs) m))
    rule_f =
        let x : Grid W = alone p (fetches_of images budget (p ∷ qs) m) in
        let k : Going (images p) budget 1 x = fetches_go images budget p good (p ∷ qs) once_qs (inl refl) there m
        going_m in
        cycle_rule (images p) good budget x k.ok k.went (rule_of 1 x k.ties k.fetch)

    most : (t : ℕ) → (acts_of images budget (p ∷ qs) m).units t ≤ 24
    most = (acts_go images budget p good (p ∷ qs) once_qs (inl refl) there m going_m).ties.busy.most

    two : (f : Frame) (fs : List Frame) → ((acts_of images budget (p ∷ qs) m).own p).window.frames ≡ f ∷ fs
        → f.number < 2
    two f fs e = (subst (λ l. AllTwo (numbers_of l)) e
        (acts_two images budget p (p ∷ qs) m (ends_of_two images budget p (p ∷ ps) g (rules.frames p low))).numbers).0

  -- by how part (2) goes
  gets : (k j : ℕ) → j < fetch_latency → (E.window.over ≡ stepped.Went
      → FetchesFirst (images p) budget k j E (alone p (fetches_of images budget (p ∷ qs) m)))
      → Traps (alone p L) ⊎ FallsHeld sizes k j (lane_in A) (lane_in (alone p L))
  gets k j small fetched = by (serve_first (images p) good budget k j A (alone p L) stands.ok stands.went stands.room
      (served.comes_first images budget p next follows bound ps once.0 there g h first cycle k j small fetched two
      most)
      rule_f stands.none stands.block stands.is_next sizes stands.is_size stands.due)
    where
      by : Traps (alone p L) ⊎ ServedHeld sizes k j (lane_in A) (lane_in (alone p L))
          → Traps (alone p L) ⊎ FallsHeld sizes k j (lane_in A) (lane_in (alone p L))
      by (inl z) = inl z
      by (inr s) = inr (falls_held sizes (lane_in A) (lane_in (alone p L)) stands.lane j small k s)

  -- the run traps, the block is committed, or what is left falls, with what the fetch unit is held
  pub record GetsOn (k : ℕ) : Type 0 where
    pub later : ℕ
    pub is_small : later < fetch_latency
    pub is_held : HeldFor later h
    pub falls : Traps (alone p L) ⊎ FallsHeld sizes k later (lane_in A) (lane_in (alone p L))

  held_h : HeldFor 7 h
  held_h = rule_held images budget h (rules_kept images budget next follows bound g h cycle goods rules)

  pub gets_on : (k : ℕ) → k < fetch_latency → HeldFor k g → GetsOn k
  gets_on k small held = by (has_gone E.window.over) refl
    where
      longest : (E.window.over ≡ stepped.Went
          → FetchesFirst (images p) budget k 7 E (alone p (fetches_of images budget (p ∷ qs) m))) → GetsOn k
      longest f = record { later = 7; is_small = omega arith; is_held = held_h; falls = gets k 7 (omega arith) f }

      shorter : E.window.over ≡ stepped.Went → is_idle (fetches_go_on images budget m) ≡ false → GetsOn k
      shorter went busy =
          let w = waited images budget next follows (p ∷ qs) m L
          (served.moves images budget p next follows bound ps once.0 there g h first cycle went) busy k
          (λ q l. (let a = held q l in let b = ends_less images budget q (p ∷ ps) g in omega (arith, a, b))) in
          let one : 1 ≤ k = w.0 in
          record {
            later = k - 1;
            is_small = omega (arith, small);
            is_held = λ q l. (let a = w.1 q l in
                let b = retires_less images budget q (going budget g) L in
                let c : left_of (h.own q).fetching
                ≡ left_of ((all_do (λ p. retires budget) (going budget g) L).own q).fetching =
                ap (λ (k : Four W). left_of (k.own q).fetching) cycle.ends in
                omega (arith, a, b, c));
            falls = gets k (k - 1) (omega (arith, small))
                (λ e. served.fetch_busy images budget p next follows bound ps once.0 there g h first cycle k one);
          }

      idle_or : E.window.over ≡ stepped.Went → (b : Bool) → is_idle (fetches_go_on images budget m) ≡ b → GetsOn k
      idle_or went true i = longest (λ e.
          served.fetch_idle images budget p next follows bound ps once.0 there g h first cycle i k 7)
      idle_or went false i = shorter went i

      by : (b : Bool) → has_gone E.window.over ≡ b → GetsOn k
      by true e = idle_or (has_went E.window.over e) (is_idle (fetches_go_on images budget m)) refl
      by false e = longest (λ z. absurd (true≢false (sym (ap has_gone z) ∙ e)))
