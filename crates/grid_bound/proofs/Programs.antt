-- The prices of the blocks of a run are the cost of its trace.
use Rattle.std.proofs.Common.{◌≡◌, ℕ, zero, suc, ◌+◌, ◌-◌, ◌≤◌, ◌⊎◌, inl, inr, Bool, true, false, ◌==◌}
use Rattle.std.proofs.Common.{List, [], ◌∷◌, ◌++◌, length, Option, Some, None, slice_get, slice_index, refl, sym, ap}
use Rattle.std.proofs.Common.{◌∙◌, subst}
use Rattle.std.proofs.Common.{arith}
use Rattle.std.proofs.lemmas.Bool.{cond_both}
use Rattle.trips_isa.specs.declared.block.Block.{Block}
use Rattle.trips_isa.specs.declared.run.Traced.{Traced}
use Rattle.trips_isa.specs.declared.run.Stepped.{Stepped}
use Rattle.trips_isa.specs.declared.run.Stepped.TheVariants.{Went, Ended, StackFull, Trap}
use Rattle.trips_isa.specs.Outcomes.{Effects, Outcome, Comes, Faults, outcome}
use Rattle.trips_isa.specs.Machine.{State, changed, with_input, system_call, then_system, apply, come_to, step_in}
use Rattle.trips_isa.specs.Machine.{step_of}
use Rattle.trips_isa.specs.Machine.{goes_on, runs}
use Rattle.grid_cycle_spec.specs.Costs.{cost, cost_in, cost_of}
use Rattle.grid_cycle_spec.proofs.Routes.{cost_more}
use Rattle.grid_bound.specs.inside.Left.{price, total}
use Rattle.grid_bound.specs.inside.Programs.{size_in, sizes_from}
use Rattle.grid_bound.proofs.Sizes.{price_is}

-- traces ------------------------------------------------------------------------------------------

input_trace : (s : State) (rest : List ℕ) → (with_input s rest).trace ≡ s.trace
input_trace s [] = refl
input_trace s (b ∷ rest) = refl

call_trace : (call : ℕ) (s : State) → (system_call call s).0.trace ≡ s.trace
call_trace call s = cond_both (call == 1) _ _ Same (λ e. refl)
    (λ e. cond_both (call == 2) _ _ Same (λ e. input_trace s s.rest)
    (λ e. cond_both (call == 3) _ _ Same (λ e. refl) (λ e. cond_both (call == 4) _ _ Same (λ e. refl) (λ e. refl))))
  where
    Same : State × Stepped → Type 0
    Same p = (p.0).trace ≡ s.trace

-- a block that is committed adds itself and its exit to the trace
pub applied_trace : (writes : List ℕ) (o : Effects) (s : State)
    → (apply writes o s).0.trace ≡ s.trace ++ (record { block = s.next; exit = o.exit }) ∷ []
applied_trace writes o s = go o.system
  where
    go : (b : Bool) → (then_system b (changed writes o s)).0.trace
        ≡ s.trace ++ (record { block = s.next; exit = o.exit }) ∷ []
    go true = call_trace (slice_index (changed writes o s).registers 0) (changed writes o s)
    go false = refl

-- a step leaves the trace, or adds its block to it
abbrev Adds : List Block → State → State → Type 0
Adds blocks s t = (t.trace ≡ s.trace)
    ⊎ ((b : Block) × (x : Traced) × (slice_get blocks s.next ≡ Some b) × (x.block ≡ s.next)
    × (t.trace ≡ s.trace ++ x ∷ []))

step_adds : (blocks : List Block) (s : State) → Adds blocks s (step_of blocks s).0
step_adds blocks s = go (slice_get blocks s.next) refl
  where
    go : (o : Option Block) → slice_get blocks s.next ≡ o → Adds blocks s (step_in blocks o s).0
    go None e = inl refl
    go (Some b) e = by (outcome blocks s.next b s.registers s.memory)
      where
        by : (o : Outcome) → Adds blocks s (come_to b.writes.items o s).0
        by (Faults c) = inl refl
        by (Comes effects) =
            inr (b, record { block = s.next; exit = effects.exit }, e, refl, applied_trace b.writes.items effects s)

goes_adds : (blocks : List Block) (s : State) (o : Stepped) → Adds blocks s (goes_on blocks s o).0
goes_adds blocks s Went = step_adds blocks s
goes_adds blocks s Ended = inl refl
goes_adds blocks s StackFull = inl refl
goes_adds blocks s (Trap c) = inl refl

-- a list with one item more is longer by one
pub length_more : (xs : List Traced) (x : Traced) → length (xs ++ x ∷ []) ≡ suc (length xs)
length_more [] x = refl
length_more (y ∷ xs) x = ap suc (length_more xs x)

runs_more : (blocks : List Block) (s : State) (n : ℕ)
    → runs blocks s (suc n) ≡ goes_on blocks (runs blocks s n).0 (runs blocks s n).1
unfolding runs
runs_more blocks s n = refl

runs_none : (blocks : List Block) (s : State) → (runs blocks s zero).0 ≡ s
unfolding runs
runs_none blocks s = refl

module _ (blocks : List Block) (s : State) where
  abbrev after : ℕ → State
  after n = (runs blocks s n).0

  next_adds : (n : ℕ) → Adds blocks (after n) (after (suc n))
  next_adds n = subst (λ (p : State × Stepped). Adds blocks (after n) p.0) (sym (runs_more blocks s n))
      (goes_adds blocks (runs blocks s n).0 (runs blocks s n).1)

  -- a step adds at most one block
  at_most : (n : ℕ) → length (after n).trace ≤ length s.trace + n
  at_most zero = let e : length (after 0).trace ≡ length s.trace = ap (λ t. length t.trace) (runs_none blocks s) in
      omega (arith, e)
  at_most (suc n) = go (at_most n) (next_adds n)
    where
      go : length (after n).trace ≤ length s.trace + n → Adds blocks (after n) (after (suc n))
          → length (after (suc n)).trace ≤ length s.trace + suc n
      go h (inl e) =
          let k : length (after (suc n)).trace ≡ length (after n).trace = ap length e in omega (arith, h, k)
      go h (inr (b, x, i, j, e)) =
          let k : length (after (suc n)).trace ≡ suc (length (after n).trace) =
          ap length e ∙ length_more (after n).trace x in
          omega (arith, h, k)

  abbrev Adding : ℕ → Type 0
  Adding n = cost_of blocks (after n).trace + total (sizes_from blocks s) (length s.trace)
      ≡ total (sizes_from blocks s) (length s.trace + n) + cost_of blocks s.trace

  price_next : (n : ℕ) (b : Block) → slice_get blocks (after n).next ≡ Some b
      → price (sizes_from blocks s (length s.trace + n)) ≡ cost b
  price_next n b e =
      let k : length s.trace + n - length s.trace ≡ n = omega arith in
      ap (λ m. price (size_in (slice_get blocks (after m).next))) k ∙ ap (λ o. price (size_in o)) e ∙ price_is b

  -- where each step added a block, the prices are the cost of what was added
  pub trace_costs : (n : ℕ) → length (after n).trace ≡ length s.trace + n → Adding n
  trace_costs zero l =
      let e : cost_of blocks (after 0).trace ≡ cost_of blocks s.trace =
      ap (λ t. cost_of blocks t.trace) (runs_none blocks s) in
      let z : length s.trace + 0 ≡ length s.trace = omega arith in
      let t : total (sizes_from blocks s) (length s.trace + 0) ≡ total (sizes_from blocks s) (length s.trace) =
      ap (total (sizes_from blocks s)) z in
      omega (arith, e, t)
  trace_costs (suc n) l = go (trace_costs n) (next_adds n)
    where
      go : (length (after n).trace ≡ length s.trace + n → Adding n) → Adds blocks (after n) (after (suc n))
          → Adding (suc n)
      go ih (inl e) = let h = at_most n in
          let k : length (after (suc n)).trace ≡ length (after n).trace = ap length e in
          absurd (omega (arith, h, k, l))
      go ih (inr (b, x, i, j, e)) =
          let k : length (after (suc n)).trace ≡ suc (length (after n).trace) =
          ap length e ∙ length_more (after n).trace x in
          let h : Adding n = ih (omega (arith, k, l)) in
          let c : cost_of blocks (after (suc n)).trace ≡ cost_of blocks (after n).trace + cost_of blocks (x ∷ []) =
          ap (cost_of blocks) e ∙ cost_more blocks (after n).trace (x ∷ []) in
          let d : cost_in (slice_get blocks x.block) ≡ cost b = ap cost_in (ap (slice_get blocks) j ∙ i) in
          let p : price (sizes_from blocks s (length s.trace + n)) ≡ cost b = price_next n b i in
          let z : length s.trace + suc n ≡ suc (length s.trace + n) = omega arith in
          let t : total (sizes_from blocks s) (length s.trace + suc n)
          ≡ price (sizes_from blocks s (length s.trace + n)) + total (sizes_from blocks s) (length s.trace + n) =
          ap (total (sizes_from blocks s)) z in
          let w : cost_of blocks (x ∷ []) ≡ cost_in (slice_get blocks x.block) + 0 = refl in
          omega (arith, h, c, d, p, t, w)
