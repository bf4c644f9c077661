-- While a run goes on its next block is one of the image, and no block's number is the end word.
use Rattle.std.proofs.Common.{◌≡◌, ℕ, zero, suc, ◌<◌, ◌^◌, List, [], ◌∷◌, length, Option, Some, None, slice_get}
use Rattle.std.proofs.Common.{refl, sym, ap, subst, ◌∙◌, arith}
use Rattle.std.specs.Int.{w32, from_be_bytes}
use Rattle.std.proofs.lemmas.Nat.{from_be_bytes-to_be_bytes_4}
use Rattle.byteorder.specs.Endian.{big_bytes}
use Rattle.trips_isa.specs.declared.block.Block.{Block}
use Rattle.trips_isa.specs.declared.run.Stepped.{Stepped}
use Rattle.trips_isa.specs.declared.run.Stepped.TheVariants.{Went, Ended, StackFull, Trap}
use Rattle.trips_isa.specs.Tables.{deepest}
use Rattle.trips_isa.specs.Blocks.{leaving_of, token_of}
use Rattle.trips_isa.specs.Marks.{cause}
use Rattle.trips_isa.specs.Outcomes.{Effects, plain, unless}
use Rattle.trips_isa.specs.Machine.{State, come_to, goes_on, runs, step_in, step_of}
use Rattle.commit_flush_spec.proofs.Applying.{apply_next, next_in}
use Rattle.trace_verify.specs.Spelling.{end_bytes}

-- a run is a step longer
pub one_more : (blocks : List Block) (s : State) (n : ℕ)
    → runs blocks s (suc n) ≡ goes_on blocks (runs blocks s n).0 (runs blocks s n).1
unfolding runs
one_more blocks s n = refl

-- a run of no step
pub none : (blocks : List Block) (s : State) → runs blocks s 0 ≡ (s, Went)
unfolding runs
none blocks s = refl

-- a step more, where the run goes on
pub one_step : (blocks : List Block) (s : State) (n : ℕ) → (runs blocks s n).1 ≡ Went
    → runs blocks s (suc n) ≡ step_of blocks (runs blocks s n).0
one_step blocks s n went = one_more blocks s n ∙ ap (goes_on blocks (runs blocks s n).0) went

module _ (blocks : List Block) (some : 0 < length blocks) where
  come_in : (c : ℕ) (writes : List ℕ) (o : Effects) (s : State) → s.next < length blocks
      → o.successor < length blocks → (come_to writes (unless c o) s).0.next < length blocks
  come_in zero writes o s l m = subst (λ k. k < length blocks) (sym (apply_next writes o s)) m
  come_in (suc c) writes o s l m = l

  step_stays : (b : Option Block) (s : State) → s.next < length blocks → (step_in blocks b s).0.next < length blocks
  step_stays None s l = l
  step_stays (Some b) s l = come_in (cause b (token_of b s.registers s.memory deepest)) b.writes.items
      (plain blocks s.next b s.registers s.memory) s l
      (next_in blocks some s.next (leaving_of b (token_of b s.registers s.memory deepest)))

  on_stays : (s : State) (o : Stepped) → s.next < length blocks → (goes_on blocks s o).0.next < length blocks
  on_stays s Went l = step_stays (slice_get blocks s.next) s l
  on_stays s Ended l = l
  on_stays s StackFull l = l
  on_stays s (Trap c) l = l

  -- the next block of a run is one of the image
  pub next_stays : (s : State) → s.next < length blocks → (n : ℕ) → (runs blocks s n).0.next < length blocks
  next_stays s l zero =
      subst (λ (p : State × Stepped). p.0.next < length blocks) (sym (none blocks s)) l
  next_stays s l (suc n) = subst (λ (p : State × Stepped). p.0.next < length blocks) (sym (one_more blocks s n))
      (on_stays (runs blocks s n).0 (runs blocks s n).1 (next_stays s l n))

-- no block of an image has the number that the end word is
pub no_end : (n count : ℕ) → n < count → count < 2 ^ 32 → big_bytes 4 n ≡ end_bytes → ⊥
no_end n count l few e =
    let low : n < 2 ^ 32 = omega (arith, l, few) in
    let is : n ≡ 4294967295 = sym (from_be_bytes-to_be_bytes_4 n low) ∙ ap (from_be_bytes w32) e in
    absurd (omega (arith, is, l, few))
