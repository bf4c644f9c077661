-- What the machine's run has made: each step adds its block to the trace, and leads to a block of the image.
use Rattle.std.proofs.Common.{◌≡◌, ℕ, zero, suc, ◌+◌, ◌<◌, List, [], ◌∷◌, length, Option, Some, None, slice_get}
use Rattle.std.proofs.Common.{refl, sym, ap, subst, arith}
use Rattle.trips_isa.specs.declared.block.Block.{Block}
use Rattle.trips_isa.specs.declared.run.Stepped.{Stepped}
use Rattle.trips_isa.specs.declared.run.Stepped.TheVariants.{Went, Ended, StackFull, Trap}
use Rattle.trips_isa.specs.TrapCauses.{cause_of}
use Rattle.trips_isa.specs.Tables.{deepest}
use Rattle.trips_isa.specs.Blocks.{leaving_of, token_of}
use Rattle.trips_isa.specs.Marks.{cause}
use Rattle.trips_isa.specs.Outcomes.{Effects, plain, unless}
use Rattle.trips_isa.specs.Machine.{State, come_to, goes_on, runs, step_in, step_of}
use Rattle.commit_flush_spec.specs.Laws.{Reached}
use Rattle.commit_flush_spec.specs.inside.Laws.{IsWhole}
use Rattle.commit_flush_spec.proofs.Applying.{apply_next, apply_trace, apply_whole, next_in}

-- a run that ended with a block made a step
pub ended_later : (blocks : List Block) (s t : State) (n : ℕ) → Reached blocks s n t Ended → 0 < n
unfolding runs
ended_later blocks s t zero r = absurd (let bad : Ended ≡ Went = ap (λ (p : State × Stepped). p.1) r in cc)
ended_later blocks s t (suc n) r = omega arith

-- the machine's stack is full only after a step
pub full_later : (blocks : List Block) (s t : State) (n : ℕ) → Reached blocks s n t StackFull → 0 < n
unfolding runs
full_later blocks s t zero r = absurd (let bad : StackFull ≡ Went = ap (λ (p : State × Stepped). p.1) r in cc)
full_later blocks s t (suc n) r = omega arith

-- there is a block below the number of blocks
none_missing : (blocks : List Block) (k : ℕ) → k < length blocks → slice_get blocks k ≡ None → ⊥
none_missing [] k l e = absurd (omega (arith, l))
none_missing (b ∷ bs) zero l e = absurd (let bad : Some b ≡ None = e in cc)
none_missing (b ∷ bs) (suc k) l e = none_missing bs k (omega (arith, l)) e

module _ (blocks : List Block) (some : 0 < length blocks) where
  -- a step has been made, and the next block is one of the image
  record Made (s : State) (n : ℕ) (t : State) : Type 0 where
    pub next : t.next < length blocks
    pub long : length t.trace ≡ length s.trace + n

  come_made : (c : ℕ) (writes : List ℕ) (o : Effects) (s : State) → o.successor < length blocks
      → (come_to writes (unless c o) s).1 ≡ Went → Made s 1 (come_to writes (unless c o) s).0
  come_made zero writes o s l e = record {
    next = subst (λ k. k < length blocks) (sym (apply_next writes o s)) l;
    long = apply_trace writes o s;
  }
  come_made (suc c) writes o s l e = absurd (let bad : Trap (cause_of (suc c)) ≡ Went = e in cc)

  step_made : (o : Option Block) (s : State) → slice_get blocks s.next ≡ o → s.next < length blocks
      → (step_in blocks o s).1 ≡ Went → Made s 1 (step_in blocks o s).0
  step_made None s is l e = absurd (none_missing blocks s.next l is)
  step_made (Some b) s is l e = come_made (cause b (token_of b s.registers s.memory deepest)) b.writes.items
      (plain blocks s.next b s.registers s.memory) s
      (next_in blocks some s.next (leaving_of b (token_of b s.registers s.memory deepest))) e

  more_made : (s t : State) (n : ℕ) (o : Stepped) → (o ≡ Went → Made s n t) → (goes_on blocks t o).1 ≡ Went
      → Made s (suc n) (goes_on blocks t o).0
  more_made s t n Went before e =
      let b : Made s n t = before refl in
      let m : Made t 1 (step_of blocks t).0 = step_made (slice_get blocks t.next) t refl b.next e in
      let k : length t.trace ≡ length s.trace + n = b.long in
      let j : length (step_of blocks t).0.trace ≡ length t.trace + 1 = m.long in
      record { next = m.next; long = omega (arith, k, j) }
  more_made s t n Ended before e = absurd (let bad : Ended ≡ Went = e in cc)
  more_made s t n StackFull before e = absurd (let bad : StackFull ≡ Went = e in cc)
  more_made s t n (Trap c) before e = absurd (let bad : Trap c ≡ Went = e in cc)

  runs_made : (s : State) → s.next < length blocks → (n : ℕ) → (runs blocks s n).1 ≡ Went
      → Made s n (runs blocks s n).0
  unfolding runs
  runs_made s l zero e = record { next = l; long = omega arith }
  runs_made s l (suc n) e = more_made s (runs blocks s n).0 n (runs blocks s n).1 (runs_made s l n) e

  -- whatever a step comes to, the next block is one of the image
  come_in : (c : ℕ) (writes : List ℕ) (o : Effects) (s : State) → s.next < length blocks → o.successor < length blocks
      → (come_to writes (unless c o) s).0.next < length blocks
  come_in zero writes o s here l = subst (λ k. k < length blocks) (sym (apply_next writes o s)) l
  come_in (suc c) writes o s here l = here

  step_inside : (o : Option Block) (s : State) → s.next < length blocks → (step_in blocks o s).0.next < length blocks
  step_inside None s l = l
  step_inside (Some b) s l = come_in (cause b (token_of b s.registers s.memory deepest)) b.writes.items
      (plain blocks s.next b s.registers s.memory) s l
      (next_in blocks some s.next (leaving_of b (token_of b s.registers s.memory deepest)))

  more_inside : (t : State) (o : Stepped) → t.next < length blocks → (goes_on blocks t o).0.next < length blocks
  more_inside t Went l = step_inside (slice_get blocks t.next) t l
  more_inside t Ended l = l
  more_inside t StackFull l = l
  more_inside t (Trap c) l = l

  -- the machine's run from a block of the image comes to a block of the image
  pub runs_inside : (s : State) → s.next < length blocks → (n : ℕ) → (runs blocks s n).0.next < length blocks
  unfolding runs
  runs_inside s l zero = l
  runs_inside s l (suc n) = more_inside (runs blocks s n).0 (runs blocks s n).1 (runs_inside s l n)

-- registers and memory keep their full lengths
come_whole : (c : ℕ) (writes : List ℕ) (o : Effects) (s : State) → IsWhole s
    → IsWhole (come_to writes (unless c o) s).0
come_whole zero writes o s w = apply_whole writes o s w
come_whole (suc c) writes o s w = w

step_whole : (blocks : List Block) (o : Option Block) (s : State) → IsWhole s → IsWhole (step_in blocks o s).0
step_whole blocks None s w = w
step_whole blocks (Some b) s w = come_whole (cause b (token_of b s.registers s.memory deepest)) b.writes.items
    (plain blocks s.next b s.registers s.memory) s w

more_whole : (blocks : List Block) (t : State) (o : Stepped) → IsWhole t → IsWhole (goes_on blocks t o).0
more_whole blocks t Went w = step_whole blocks (slice_get blocks t.next) t w
more_whole blocks t Ended w = w
more_whole blocks t StackFull w = w
more_whole blocks t (Trap c) w = w

-- the machine's run leaves all registers and the whole of data memory
pub runs_whole : (blocks : List Block) (s : State) → IsWhole s → (n : ℕ) → IsWhole (runs blocks s n).0
unfolding runs
runs_whole blocks s w zero = w
runs_whole blocks s w (suc n) = more_whole blocks (runs blocks s n).0 (runs blocks s n).1 (runs_whole blocks s w n)

-- a run that has not ended has made each step
pub steps_made : (blocks : List Block) → 0 < length blocks → (s : State) → s.next < length blocks → (n : ℕ)
    → (runs blocks s n).1 ≡ Went → length (runs blocks s n).0.trace ≡ length s.trace + n
steps_made blocks some s l n e = (runs_made blocks some s l n e).long
