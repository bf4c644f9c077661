-- What follows part (1) makes a cycle eager.
use Rattle.std.proofs.Common.{◌≡◌, ℕ, ◌+◌, List, length, refl, sym, subst, add-one}
use Rattle.trips_isa.specs.declared.block.Block.{Block}
use Rattle.trips_isa.specs.declared.run.Stepped.{Stepped}
use Rattle.operand_net.specs.Places.{Places}
use Rattle.operand_net.specs.Tick.{Ticked}
use Rattle.commit_flush_spec.specs.Frames.{Frame}
use Rattle.grid_cycle_spec.specs.Grid.{Grid, numbers_of}
use Rattle.grid_cycle_spec.specs.Ends.{ends}
use Rattle.grid_cycle_spec.specs.Cycles.{Eager, Follows, Moves, acts}
use Rattle.grid_cycle_spec.specs.inside.Cycles.{AfterCycles}
use Rattle.grid_parts.proofs.FlushFacts.{as_many}

module _ {W : Type 0} (next : W → ℕ) (follows : W → W → Type 0) (blocks : List Block) (budget : ℕ) where
  -- part (1) of a cycle and what follows it make an eager cycle
  pub eager_by : (o : Stepped) (g m h : Grid W) → m ≡ ends blocks budget g → o ≡ m.window.over
      → Follows o next follows blocks budget m h → Eager next follows blocks budget g h
  eager_by o g m h e is done =
      subst (λ (x : Grid W). Follows x.window.over next follows blocks budget x h) e
      (subst (λ (s : Stepped). Follows s next follows blocks budget m h) is done)

  -- parts (2) to (6) of the same image and budget
  pub moves_by : (bs : List Block) (b : ℕ) (m h : Grid W) → bs ≡ blocks → b ≡ budget
      → Moves next follows bs b (acts bs b m) h → Moves next follows blocks budget (acts blocks budget m) h
  moves_by bs b m h x y moves =
      subst (λ k. Moves next follows blocks k (acts blocks k m) h) y
      (subst (λ k. Moves next follows k b (acts k b m) h) x moves)

  -- part (6) of the same grid, image and budget
  pub moves_from : (bs : List Block) (b : ℕ) (m n h : Grid W) → bs ≡ blocks → b ≡ budget → m ≡ n
      → Moves next follows bs b m h → Moves next follows blocks budget n h
  moves_from bs b m n h x y e moves =
      subst (λ k. Moves next follows blocks budget k h) e
      (subst (λ k. Moves next follows blocks k m h) y (subst (λ k. Moves next follows k b m h) x moves))

-- one cycle more, over another image and budget that are these
pub one_more : {W : Type 0} (next : W → ℕ) (follows : W → W → Type 0) (blocks : List Block) (budget : ℕ)
    (bs : List Block) (b n : ℕ) (g m h : Grid W) → bs ≡ blocks → b ≡ budget
    → AfterCycles next follows blocks budget n g m → Eager next follows bs b m h
    → AfterCycles next follows blocks budget (n + 1) g h
one_more next follows blocks budget bs b n g m h x y before last =
    subst (λ k. AfterCycles next follows blocks budget k g h) (sym (add-one n)) (record {
      between = m;
      before = before;
      after = subst (λ k. Eager next follows blocks k m h) y (subst (λ k. Eager next follows k b m h) x last);
    })

-- a tick of the frames in flight, by their numbers
pub ticked_named : {W : Type 0} (next : W → ℕ) (follows : W → W → Type 0) (fs : List Frame) (order : List ℕ)
    (before after : Places) (v w : W) → numbers_of fs ≡ order
    → Ticked next follows order before after v w (length order)
    → Ticked next follows (numbers_of fs) before after v w (length fs)
ticked_named next follows fs order before after v w e ticked =
    subst (λ n. Ticked next follows (numbers_of fs) before after v w n) (sym (as_many fs (numbers_of fs) refl))
    (subst (λ l. Ticked next follows l before after v w (length l)) (sym e) ticked)
