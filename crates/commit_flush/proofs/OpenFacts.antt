-- Eight frames that were never filled, and a window that opens with them.
use Rattle.std.proofs.Common.{◌≡◌, ℕ, zero, suc, ◌+◌, ◌<◌, ◌≤◌, List, [], ◌∷◌, ◌++◌, Some, None, length, map}
use Rattle.std.proofs.Common.{replicate, refl, sym, ap, ap₂, ◌∙◌, subst, arith, add-zero}
use Rattle.std.specs.Prelude.{All}
use Rattle.std.proofs.lemmas.List.{length-map}
use Rattle.std.proofs.lemmas.List.Elements.{All-nil, All-cons}
use Rattle.trips_isa.specs.declared.block.Block.{Block}
use Rattle.trips_isa.specs.declared.block.Image.{Image}
use Rattle.trips_isa.specs.declared.run.Stepped.TheVariants.{Went}
use Rattle.trips_isa.specs.Stores.{data_size}
use Rattle.trips_isa.specs.Machine.{Machine}
use Rattle.block_check.specs.inside.Images.{IsCheckedImage}
use Rattle.commit_flush_spec.specs.Frames.{at}
use Rattle.commit_flush_spec.specs.InFlight.{Window, opened}
use Rattle.reg_bank.specs.inside.Ages.{Ages, none}
use Rattle.frame_state.specs.declared.phase.Phase.{Phase}
use Rattle.frame_state.specs.declared.phase.Phase.TheVariants.{Free, Going, Done, Away}
use Rattle.frame_state.specs.inside.Phases.{HasBlock, frame_in, generation_of, number_of, slots_of}
use Rattle.commit_flush.specs.inside.Seen.{IsSound, IsFresh, AreFresh, window_of}

-- one more frame of the next number
pub one_more : (n : ℕ) (ps : List Phase) (p : Phase) → AreFresh n ps → IsFresh (n + length ps) p
    → AreFresh n (ps ++ p ∷ [])
one_more n [] p h f = (subst (λ k. IsFresh k p) (add-zero n) f, tt)
one_more n (q ∷ qs) p h f =
    let e : n + suc (length qs) ≡ suc n + length qs = omega arith in
    (h.0, one_more (suc n) qs p h.1 (subst (λ k. IsFresh k p) e f))

generations : (n : ℕ) (ps : List Phase) → AreFresh n ps → map generation_of ps ≡ replicate (length ps) 0
generations n [] h = refl
generations n (Free e ∷ ps) h = ap₂ (λ x xs. x ∷ xs) h.0.1 (generations (suc n) ps h.1)
generations n (Going e ∷ ps) h = absurd h.0
generations n (Done e ∷ ps) h = absurd h.0
generations n (Away ∷ ps) h = absurd h.0

-- so many numbers from this one on
abbrev counting : ℕ → ℕ → List ℕ
counting n zero = []
counting n (suc k) = n ∷ counting (suc n) k

numbers : (n : ℕ) (ps : List Phase) → AreFresh n ps → map number_of ps ≡ counting n (length ps)
numbers n [] h = refl
numbers n (Free e ∷ ps) h = ap₂ (λ x xs. x ∷ xs) h.0.0 (numbers (suc n) ps h.1)
numbers n (Going e ∷ ps) h = absurd h.0
numbers n (Done e ∷ ps) h = absurd h.0
numbers n (Away ∷ ps) h = absurd h.0

blocks_of : (blocks : List Block) (n : ℕ) (ps : List Phase) → AreFresh n ps → All (HasBlock blocks) ps
blocks_of blocks n [] h = All-nil (HasBlock blocks)
blocks_of blocks n (Free e ∷ ps) h =
    All-cons (HasBlock blocks) (Free e) ps tt (blocks_of blocks (suc n) ps h.1)
blocks_of blocks n (Going e ∷ ps) h = absurd h.0
blocks_of blocks n (Done e ∷ ps) h = absurd h.0
blocks_of blocks n (Away ∷ ps) h = absurd h.0

none_stands : (blocks : List Block) (n : ℕ) (ps : List Phase) → AreFresh n ps → (m : ℕ)
    → at (slots_of blocks ps) m ≡ None
none_stands blocks n [] h m = refl
none_stands blocks n (Free e ∷ ps) h zero = refl
none_stands blocks n (Free e ∷ ps) h (suc m) = none_stands blocks (suc n) ps h.1 m
none_stands blocks n (Going e ∷ ps) h m = absurd h.0
none_stands blocks n (Done e ∷ ps) h m = absurd h.0
none_stands blocks n (Away ∷ ps) h m = absurd h.0

-- the window opens
pub opens : (blocks : List Block) (machine : Machine) (phases : List Phase) → AreFresh 0 phases → length phases ≡ 8
    → window_of blocks machine.state Went phases [] ≡ opened machine.state
opens blocks machine phases h e =
    ap (λ (g : List ℕ). let w : Window = record {
      state = machine.state;
      over = Went;
      generations = g;
      frames = [];
    } in w) (generations 0 phases h ∙ ap (λ k. replicate k 0) e)

-- and its parts fit together
pub sound : (image : Image) (budget : ℕ) (machine : Machine) (phases : List Phase) (registers : Ages)
    → IsCheckedImage image → AreFresh 0 phases → length phases ≡ 8 → machine.budget ≡ budget
    → length machine.state.registers ≡ 128 → length machine.state.memory ≡ data_size
    → length machine.state.trace ≤ budget → machine.state.next < length image.blocks → registers ≡ none
    → IsSound image budget machine Went phases [] registers
sound image budget machine phases registers checked h e room count size spent next blank = record {
  numbers = numbers 0 phases h ∙ ap (counting 0) e;
  blocks = blocks_of image.blocks 0 phases h;
  kept = record {
    eight = length-map phases (frame_in image.blocks) ∙ e;
    numbered = λ m f z. absurd (let bad : None ≡ Some f = sym (none_stands image.blocks 0 phases h m) ∙ z in cc);
    there = tt;
    once = tt;
    empty = λ n z. none_stands image.blocks 0 phases h n;
    banks = λ a r. ap (λ b. b a r) blank;
  };
  room = room;
  checked = checked;
  window = record {
    frames = tt;
    kept = tt;
    numbers = tt;
    whole = record { registers = count; memory = size };
    spent = spent;
    next = next;
  };
}
