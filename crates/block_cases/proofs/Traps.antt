-- Steps and runs that trap, and those that do not.
use Rattle.std.proofs.Common.{◌≡◌, ℕ, zero, suc, ◌<◌, List, Option, Some, None, slice_get, refl, sym}
use Rattle.std.proofs.Common.{ap, ◌∙◌, subst, arith, ◌+◌, ◌%◌, ◌==◌, Bool, true, false, cond, [], ◌∷◌}
use Rattle.std.proofs.Common.{◌++◌, length, slice_index}
use Rattle.std.proofs.lemmas.List.{length-append}
use Rattle.trips_isa.specs.declared.block.Block.{Block}
use Rattle.trips_isa.specs.declared.causes.TrapCause.{TrapCause}
use Rattle.trips_isa.specs.declared.run.Stepped.{Stepped}
use Rattle.trips_isa.specs.declared.run.Stepped.TheVariants.{Went, Ended, StackFull, Trap}
use Rattle.trips_isa.specs.TrapCauses.{cause_of}
use Rattle.trips_isa.specs.Tables.{deepest}
use Rattle.trips_isa.specs.Blocks.{token_of}
use Rattle.trips_isa.specs.Marks.{cause}
use Rattle.trips_isa.specs.Outcomes.{Effects, Outcome, Comes, Faults, unless, plain, outcome}
use Rattle.trips_isa.specs.Machine.{State, with_input, system_call, then_system, changed, apply}
use Rattle.trips_isa.specs.Machine.{come_to, step_in, step_of, goes_on, runs}
use Rattle.block_cases.specs.inside.Plain.{plain_in, plain_step, plain_on, plain_runs, cause_in, next_cause}
use Rattle.block_cases.specs.inside.Plain.{faults_in, next_faults, IsTrap}

call_goes : (call : ℕ) (s : State) → IsTrap (system_call call s).1 → ⊥
call_goes call s = go (call == 1) (call == 2) (call == 3) (call == 4)
  where
    go : (a b c d : Bool) → IsTrap (cond {A = State × Stepped} a (
      record s { output = s.output ++ (slice_index s.registers 3 % 256) ∷ [] },
      Went,
    ) (cond b (with_input s s.rest, Went) (cond c (s, Ended)
        (cond d (s, StackFull) (s, Went))))).1 → ⊥
    go true b c d t = t
    go false true c d t = t
    go false false true d t = t
    go false false false true t = t
    go false false false false t = t

system_goes : (v : Bool) (s : State) → IsTrap (then_system v s).1 → ⊥
system_goes true s t = call_goes (slice_index s.registers 0) s t
system_goes false s t = t

-- what is applied does not trap
pub applied_goes : (writes : List ℕ) (e : Effects) (s : State) → IsTrap (apply writes e s).1 → ⊥
applied_goes writes e s = system_goes e.system (changed writes e s)

no_trap : (writes : List ℕ) (e : Effects) (s : State) (c : TrapCause) → (apply writes e s).1 ≡ Trap c → ⊥
no_trap writes e s c t = applied_goes writes e s (subst IsTrap (sym t) tt)

pub trap_leaves : (writes : List ℕ) (o : Outcome) (s : State) (c : TrapCause)
    → (come_to writes o s).1 ≡ Trap c → (come_to writes o s).0 ≡ s
trap_leaves writes (Comes e) s c t = absurd (no_trap writes e s c t)
trap_leaves writes (Faults d) s c t = refl

-- a trap leaves the state, its trace included
pub step_leaves : (blocks : List Block) (s : State) (c : TrapCause) → (step_of blocks s).1 ≡ Trap c
    → (step_of blocks s).0 ≡ s
step_leaves blocks s c t = go (slice_get blocks s.next) t
  where
    go : (o : Option Block) → (step_in blocks o s).1 ≡ Trap c → (step_in blocks o s).0 ≡ s
    go None e = refl
    go (Some b) e = trap_leaves b.writes.items _ s c e

come_trap : (writes : List ℕ) (o : Outcome) (s : State) (c : TrapCause)
    → (come_to writes o s).1 ≡ Trap c → o ≡ Faults c
come_trap writes (Comes e) s c t = absurd (no_trap writes e s c t)
come_trap writes (Faults d) s c t = ap Faults (same t)
  where
    same : Trap d ≡ Trap c → d ≡ c
    same e = cc

-- a step traps where the next block's outcome is that fault, and nowhere else
pub trap_faults : (blocks : List Block) (s : State) (c : TrapCause) → (step_of blocks s).1 ≡ Trap c
    → next_faults blocks s c
trap_faults blocks s c t = go (slice_get blocks s.next) t
  where
    go : (o : Option Block) → (step_in blocks o s).1 ≡ Trap c → faults_in blocks o s c
    go None e = absurd (cc)
    go (Some b) e = come_trap b.writes.items _ s c e

-- where the next block faults with a cause, the machine's step is that trap
pub fault_traps : (blocks : List Block) (s : State) (c : TrapCause) → next_faults blocks s c
    → step_of blocks s ≡ (s, Trap c)
fault_traps blocks s c t = go (slice_get blocks s.next) t
  where
    go : (o : Option Block) → faults_in blocks o s c → step_in blocks o s ≡ (s, Trap c)
    go None e = absurd e
    go (Some b) e = ap (λ (o : Outcome). come_to b.writes.items o s) e

-- the cause that the next block computes is the one with which it faults
pub cause_faults : (blocks : List Block) (s : State) (c : ℕ) → next_cause blocks s ≡ suc c
    → next_faults blocks s (cause_of (suc c))
cause_faults blocks s c e = go (slice_get blocks s.next) e
  where
    go : (o : Option Block) → cause_in o s ≡ suc c → faults_in blocks o s (cause_of (suc c))
    go None k = absurd (cc)
    go (Some b) k = ap (λ m. unless m (plain blocks s.next b s.registers s.memory)) k

-- without a cause the outcome is the plain one
pub plain_outcome : (blocks : List Block) (k : ℕ) (b : Block) (regs mem : List ℕ)
    → cause b (token_of b regs mem deepest) ≡ 0
    → outcome blocks k b regs mem ≡ Comes (plain blocks k b regs mem)
plain_outcome blocks k b regs mem e = ap (λ n. unless n (plain blocks k b regs mem)) e

-- where the next block has no cause, the machine's step is the plain one
pub plain_steps : (blocks : List Block) (s : State) → next_cause blocks s ≡ 0
    → step_of blocks s ≡ plain_step blocks s
plain_steps blocks s e = go (slice_get blocks s.next) e
  where
    go : (o : Option Block) → cause_in o s ≡ 0 → step_in blocks o s ≡ plain_in blocks o s
    go None e = refl
    go (Some b) e = ap (λ (o : Outcome). come_to b.writes.items o s)
        (plain_outcome blocks s.next b s.registers s.memory e)

-- a run stays as it is after a trap
pub trap_stays : (blocks : List Block) (s : State) (n : ℕ) (c : TrapCause) → (runs blocks s n).1 ≡ Trap c
    → runs blocks s (suc n) ≡ runs blocks s n
unfolding runs
trap_stays blocks s n c e = ap (goes_on blocks (runs blocks s n).0) e
    ∙ ap (λ (r : Stepped). ((runs blocks s n).0, r)) (sym e)

-- a run that meets no cause is the plain one
pub plain_run : (blocks : List Block) (s : State) (n : ℕ)
    → ((k : ℕ) → k < n → (plain_runs blocks s k).1 ≡ Went
    → next_cause blocks (plain_runs blocks s k).0 ≡ 0)
    → runs blocks s n ≡ plain_runs blocks s n
unfolding runs plain_runs
plain_run blocks s zero h = refl
plain_run blocks s (suc n) h =
    ap (λ (r : State × Stepped). goes_on blocks r.0 r.1)
    (plain_run blocks s n (λ k l. h k (omega arith)))
    ∙ go (plain_runs blocks s n).1 refl
  where
    go : (p : Stepped) → (plain_runs blocks s n).1 ≡ p
        → goes_on blocks (plain_runs blocks s n).0 p ≡ plain_on blocks (plain_runs blocks s n).0 p
    go Went e = plain_steps blocks (plain_runs blocks s n).0 (h n (omega arith) e)
    go Ended e = refl
    go StackFull e = refl
    go (Trap c) e = refl

-- the trace -------------------------------------------------------------------------------------

input_keeps : (s : State) (rest : List ℕ) → (with_input s rest).trace ≡ s.trace
input_keeps s [] = refl
input_keeps s (b ∷ rest) = refl

call_keeps : (call : ℕ) (s : State) → ((system_call call s).0).trace ≡ s.trace
call_keeps call s = go (call == 1) (call == 2) (call == 3) (call == 4)
  where
    go : (a b c d : Bool) → ((cond {A = State × Stepped} a (
      record s { output = s.output ++ (slice_index s.registers 3 % 256) ∷ [] },
      Went,
    ) (cond b (with_input s s.rest, Went) (cond c (s, Ended)
        (cond d (s, StackFull) (s, Went))))).0).trace ≡ s.trace
    go true b c d = refl
    go false true c d = input_keeps s s.rest
    go false false true d = refl
    go false false false true = refl
    go false false false false = refl

system_keeps : (v : Bool) (s : State) → ((then_system v s).0).trace ≡ s.trace
system_keeps true s = call_keeps (slice_index s.registers 0) s
system_keeps false s = refl

-- without a cause the trace grows by one
pub trace_grows : (blocks : List Block) (b : Block) (s : State) → slice_get blocks s.next ≡ Some b
    → next_cause blocks s ≡ 0 → length (step_of blocks s).0.trace ≡ length s.trace + 1
trace_grows blocks b s here none =
    ap (λ (r : State × Stepped). length r.0.trace) (plain_steps blocks s none)
    ∙ ap (λ (o : Option Block). length (plain_in blocks o s).0.trace) here
    ∙ ap length (system_keeps (plain blocks s.next b s.registers s.memory).system
    (changed b.writes.items (plain blocks s.next b s.registers s.memory) s))
    ∙ length-append s.trace (record {
      block = s.next;
      exit = (plain blocks s.next b s.registers s.memory).exit;
    } ∷ [])
