-- Runs one after another: cycles that follow cycles, and what comes of none.
use Rattle.std.proofs.Common.{◌≡◌, ℕ, zero, suc, ◌+◌, Bool, true, false}
use Rattle.std.proofs.Common.{cond, List, [], refl, sym, ap, ◌∙◌, subst, arith}
use Rattle.trips_isa.specs.declared.block.Block.{Block}
use Rattle.grid_cycle_spec.specs.Cycles.{Eager}
use Rattle.grid_cycle_spec.specs.Grid.{Grid}
use Rattle.grid_machine.specs.Endings.{is_going}
use Rattle.grid_machine.specs.WholeRuns.{GoesFor, IsRun, at_end, going_cycles}
use Rattle.grid_machine.proofs.CallFacts.{on_before}
use Rattle.grid_machine.proofs.RunFacts.{closed_same, end_closed, end_going}
use Rattle.grid_cycle.specs.Engines.{IsCycle}

-- m cycles more than n
abbrev more : ℕ → ℕ → ℕ
more n zero = n
more n (suc m) = suc (more n m)

more_is : (n m : ℕ) → more n m ≡ n + m
more_is n zero = omega arith
more_is n (suc m) = let e : more n m ≡ n + m = more_is n m in omega (arith, e)

-- the end of a run that has no frame in flight
pub end_same : {W : Type 0} (budget : ℕ) (g : Grid W) → g.window.frames ≡ [] → g ≡ at_end budget g
end_same budget g none = go (is_going budget g.window) refl
  where
    go : (b : Bool) → is_going budget g.window ≡ b → g ≡ at_end budget g
    go true on = sym (end_going budget g on)
    go false off = sym (end_closed budget g off ∙ closed_same g none)

module _ {W : Type 0} (next : W → ℕ) (follows : W → W → Type 0) (blocks : List Block) (budget : ℕ) where
  goes_more : (n m : ℕ) (f g h : Grid W) → GoesFor next follows blocks budget n f g
      → GoesFor next follows blocks budget m g h → GoesFor next follows blocks budget (more n m) f h
  goes_more n zero f g h a b = subst (λ x. GoesFor next follows blocks budget n f x) (sym b) a
  goes_more n (suc m) f g h a b = record {
    between = b.between;
    before = (goes_more n m f g b.between a (b.before).0, (b.before).1);
    after = b.after;
  }

  -- a run from a grid that goes on, behind a run that led to it
  pub runs_on : (n m k : ℕ) (f g h : Grid W) → k ≡ n + m → is_going budget g.window ≡ true
      → IsRun next follows blocks budget n f g → IsRun next follows blocks budget m g h
      → IsRun next follows blocks budget k f h
  runs_on n m k f g h sum on a b =
      let same : g ≡ a.last = a.ends ∙ end_going budget a.last (on_before budget a.last g a.ends on) in
      let first : GoesFor next follows blocks budget n f g =
      subst (λ x. GoesFor next follows blocks budget n f x) (sym same) a.cycles in
      record {
        last = b.last;
        cycles = subst (λ i. GoesFor next follows blocks budget i f b.last) (more_is n m ∙ sym sum)
            (goes_more n m f g b.last first b.cycles);
        ends = b.ends;
      }

  -- no cycle has been made
  pub runs_none : (n : ℕ) (f g : Grid W) → n ≡ 0 → g ≡ f → g.window.frames ≡ []
      → IsRun next follows blocks budget n f g
  runs_none n f g none same rests = record {
    last = g;
    cycles = subst (λ i. GoesFor next follows blocks budget i f g) (sym none) same;
    ends = end_same budget g rests;
  }

  -- a single cycle, where the run goes on
  pub cycle_of : (g h : Grid W) → is_going budget g.window ≡ true
      → IsRun next follows blocks budget (going_cycles budget g.window) g h → IsCycle next follows blocks budget g h
  cycle_of g h on r =
      let c : GoesFor next follows blocks budget (suc zero) g r.last =
      subst (λ n. GoesFor next follows blocks budget n g r.last) (ap (λ b. cond b 1 0) on) r.cycles in
      record {
        last = r.last;
        eager = subst (λ m. Eager next follows blocks budget m r.last) (c.before).0 c.after;
        ends = r.ends;
      }
