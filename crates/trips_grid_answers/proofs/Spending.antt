-- A run puts out at most a byte a block, and the rest of its input never grows.
use Rattle.std.proofs.Common.{◌≡◌, ℕ, zero, suc, ◌+◌, ◌%◌, ◌≤◌, Bool, true, false, cond, eqb, List, [], ◌∷◌, ◌++◌}
use Rattle.std.proofs.Common.{length}
use Rattle.std.proofs.Common.{Option, Some, None, slice_get, slice_index, refl, ap, arith}
use Rattle.std.proofs.lemmas.List.{length-append}
use Rattle.trips_isa.specs.declared.block.Block.{Block}
use Rattle.trips_isa.specs.declared.run.Stepped.{Stepped}
use Rattle.trips_isa.specs.declared.run.Stepped.TheVariants.{Went, Ended, StackFull, Trap}
use Rattle.trips_isa.specs.Outcomes.{Effects, Outcome, Comes, Faults, outcome}
use Rattle.trips_isa.specs.Machine.{State, changed, with_input, system_call, then_system, come_to, step_in, goes_on}
use Rattle.trips_isa.specs.Machine.{runs}

-- at most so many bytes more were put out, and no byte of input came
pub record Spends (n : ℕ) (s t : State) : Type 0 where
  pub output : length t.output ≤ length s.output + n
  pub rest : length t.rest ≤ length s.rest

-- nothing was put out
same : (s : State) → Spends 1 s s
same s = record { output = omega arith; rest = omega arith }

either : (b : Bool) (s : State) (x y : State × Stepped) → Spends 1 s x.0 → Spends 1 s y.0 → Spends 1 s (cond b x y).0
either true s x y a b = a
either false s x y a b = b

taken : (s : State) (rest : List ℕ) → s.rest ≡ rest → Spends 1 s (with_input s rest)
taken s [] e = record { output = omega arith; rest = omega arith }
taken s (b ∷ rest) e = let l : length s.rest ≡ suc (length rest) = ap (λ (x : List ℕ). length x) e in
    record { output = omega arith; rest = omega (arith, l) }

called : (call : ℕ) (s : State) → Spends 1 s (system_call call s).0
called call s =
    either (eqb call 1) s (record s { output = s.output ++ (slice_index s.registers 3 % 256) ∷ [] }, Went) _
    (record {
      output = omega (arith, length-append s.output ((slice_index s.registers 3 % 256) ∷ []));
      rest = omega arith;
    })
    (either (eqb call 2) s (with_input s s.rest, Went) _ (taken s s.rest refl)
    (either (eqb call 3) s (s, Ended) _ (same s) (either (eqb call 4) s (s, StackFull) (s, Went) (same s) (same s))))

-- what is said of the changed state is said of the one before
before : (writes : List ℕ) (o : Effects) (s t : State) → Spends 1 (changed writes o s) t → Spends 1 s t
before writes o s t h = record { output = h.output; rest = h.rest }

come : (writes : List ℕ) (o : Outcome) (s : State) → Spends 1 s (come_to writes o s).0
come writes (Comes o) s = before writes o s (then_system o.system (changed writes o s)).0
    (either o.system (changed writes o s)
    (system_call (slice_index (changed writes o s).registers 0) (changed writes o s))
    (changed writes o s, Went) (called (slice_index (changed writes o s).registers 0) (changed writes o s))
    (same (changed writes o s)))
come writes (Faults c) s = same s

stepped : (blocks : List Block) (b : Option Block) (s : State) → Spends 1 s (step_in blocks b s).0
stepped blocks None s = same s
stepped blocks (Some b) s = come b.writes.items (outcome blocks s.next b s.registers s.memory) s

gone : (blocks : List Block) (s : State) (o : Stepped) → Spends 1 s (goes_on blocks s o).0
gone blocks s Went = stepped blocks (slice_get blocks s.next) s
gone blocks s Ended = same s
gone blocks s StackFull = same s
gone blocks s (Trap c) = same s

-- so a run of n blocks puts out at most n bytes
pub runs_spend : (blocks : List Block) (s : State) (n : ℕ) → Spends n s (runs blocks s n).0
unfolding runs
runs_spend blocks s zero = record { output = omega arith; rest = omega arith }
runs_spend blocks s (suc n) =
    let a : Spends n s (runs blocks s n).0 = runs_spend blocks s n in
    let b = gone blocks (runs blocks s n).0 (runs blocks s n).1 in
    let ao = a.output in let ar = a.rest in let bo = b.output in let br = b.rest in
    record { output = omega (arith, ao, bo); rest = omega (arith, ar, br) }
