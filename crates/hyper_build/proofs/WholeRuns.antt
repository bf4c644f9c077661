-- A whole program: the start, the call of main and the end.
use Rattle.std.proofs.Common.{◌≡◌, ℕ, zero, suc, ◌+◌, ◌-◌, ◌<◌, ◌≤◌, Bool, true, false, List, [], ◌∷◌, ◌++◌}
use Rattle.std.proofs.Common.{length, Some, None, refl, sym, ap, ◌∙◌, subst, arith, slice_get, slice_index}
use Rattle.std.proofs.Common.{length-append, append_assoc, le-leb, lt-ltb, replicate}
use Rattle.std.proofs.lemmas.Option.{slice_get_within}
use Rattle.std.proofs.Math.ListN.{length-replicate}
use Rattle.trips_isa.specs.Stores.{data_size}
use Rattle.trips_isa.specs.Machine.{memory_of}
use Rattle.ir_forms.specs.inside.Frames.{frames_at, frame_limit}
use Rattle.ir_forms.specs.inside.Cells.{Closed}
use Rattle.ir_forms.specs.inside.FlatSteps.{State, Res, Gone, Broke, Again, Gave, Halts, Unfinished, Wild, How}
use Rattle.ir_forms.specs.inside.FlatSteps.{NoRoom, Exited}
use Rattle.ir_forms.specs.inside.FlatRuns.{first_memory, flat_run, concluded}
use Rattle.ir_forms.specs.inside.FlatRuns as flat
use Rattle.ir_forms.specs.inside.HyperCode.{Block}
use Rattle.ir_forms.specs.inside.HyperRuns.{Machine, Layout, Standing, Ended, with_register, run, start, hyper_run}
use Rattle.ir_forms.specs.inside.HyperRuns.{block_at}
use Rattle.hyper_build.specs.inside.Tree.{Routine}
use Rattle.hyper_build.specs.inside.Passing.{parameter_moves, parameter_cuts}
use Rattle.hyper_build.specs.inside.Parts.{moved_size}
use Rattle.hyper_build.specs.inside.Routines.{parameters_size, routine_blocks, routine_size, entry_from, all_blocks}
use Rattle.hyper_build.specs.inside.Routines.{start_block, system_block, built}
use Rattle.hyper_build.specs.inside.World.{World, Has, Goes, Stack, AreBytes}
use Rattle.hyper_build.specs.inside.Follow.{Way, Next, Came, HaltsSo, standing_of, Follows}
use Rattle.hyper_build.specs.inside.Fits.{IsBuilt}
use Rattle.hyper_build.specs.inside.Whole.{world_of, flat_of, FitsWorld, Stops, EndsSo, WholeClaim}
use Rattle.hyper_build.proofs.Goes.{goes_block}
use Rattle.hyper_build.proofs.Following.{has_front, has_back}
use Rattle.hyper_build.proofs.Follows.{length_routine}
use Rattle.hyper_build.proofs.CallsFollow.{calls_follow}

-- THE BLOCKS STAND

get_behind : (pre : List Block) (b : Block) (bs : List Block) → slice_get (pre ++ b ∷ bs) (length pre) ≡ Some b
get_behind [] b bs = refl
get_behind (x ∷ pre) b bs = get_behind pre b bs

has_behind : (bs pre P : List Block) (l : ℕ) → P ≡ pre ++ bs → l ≡ length pre → Has P l bs
has_behind [] pre P l e f = tt
has_behind (b ∷ bs) pre P l e f = (
  ap (λ x. slice_get x l) e ∙ ap (slice_get (pre ++ b ∷ bs)) f ∙ get_behind pre b bs,
  has_behind bs (pre ++ b ∷ []) P (l + 1) (e ∙ sym (append_assoc pre (b ∷ []) bs))
      (omega (arith, length-append pre (b ∷ []))),
)

some_is : (x y : Routine) → Some x ≡ Some y → x ≡ y
some_is x y e = cc

has_routine : (P : List Block) (end : ℕ) (entries : ℕ → ℕ) (fs : List Routine) (e f : ℕ) (g : Routine)
    → Has P e (all_blocks end entries e fs) → slice_get fs f ≡ Some g
    → Has P (entry_from e fs f) (routine_blocks end entries (entry_from e fs f) g)
has_routine P end entries [] e f g has q = (let bad : None ≡ Some g = q in cc)
has_routine P end entries (x ∷ fs) e zero g has q =
    subst (λ z. Has P e (routine_blocks end entries e z)) (some_is x g q)
    (has_front P e (routine_blocks end entries e x) _ has)
has_routine P end entries (x ∷ fs) e (suc f) g has q =
    has_routine P end entries fs (e + routine_size x) f g
    (has_back P e (e + routine_size x) (routine_blocks end entries e x) _
    (omega (arith, length_routine end entries e x)) has) q

pub is_built : (check : Bool) (at : Layout) (bytes : List ℕ) (fs : List Routine) (main : ℕ)
    → FitsWorld (world_of check at (frames_at bytes) fs main) bytes main
    → IsBuilt (world_of check at (frames_at bytes) fs main)
is_built check at bytes fs main w = record {
  ends = refl;
  full = refl;
  has = λ f g q. has_routine (built (frames_at bytes) fs main) _ _ fs 3 f g
      (has_behind (built (frames_at bytes) fs main) [] (built (frames_at bytes) fs main) 0 refl refl).1.1.1 q;
  fits = w.fits;
  words = omega arith;
  room = w.room;
  faithful = w.faithful;
}

-- THE START OF MEMORY

zeros_at : (n a : ℕ) → slice_index (replicate n 0) a ≡ 0
zeros_at zero a = refl
zeros_at (suc n) zero = refl
zeros_at (suc n) (suc a) = zeros_at n a

behind_zeros : (xs : List ℕ) (n a : ℕ) → slice_index (xs ++ replicate n 0) a ≡ slice_index xs a
behind_zeros [] n a = zeros_at n a
behind_zeros (x ∷ xs) n zero = refl
behind_zeros (x ∷ xs) n (suc a) = behind_zeros xs n a

memory_at : (bytes : List ℕ) (a : ℕ) → slice_index (memory_of bytes) a ≡ slice_index bytes a
unfolding memory_of
memory_at bytes a = behind_zeros bytes (data_size - length bytes) a

memory_length : (bytes : List ℕ) → length bytes ≤ data_size → length (memory_of bytes) ≡ data_size
unfolding memory_of
memory_length bytes le = length-append bytes (replicate (data_size - length bytes) 0)
    ∙ omega (arith, length-replicate {A = ℕ} (data_size - length bytes) 0)

byte_at : (xs : List ℕ) (a : ℕ) → AreBytes xs → slice_index xs a < 256
byte_at [] a h = omega arith
byte_at (x ∷ xs) zero h = h.0
byte_at (x ∷ xs) (suc a) h = byte_at xs a h.1

first_closed : (bytes : List ℕ) (a : ℕ) → frames_at bytes ≤ a → a < frames_at bytes + frame_limit
    → (first_memory bytes a).mark ≡ Closed
unfolding first_memory
first_closed bytes a le lt = rw (le-leb (frames_at bytes) a le, lt-ltb a (frames_at bytes + frame_limit) lt) refl

first_byte : (bytes : List ℕ) (a : ℕ) → (first_memory bytes a).byte ≡ slice_index bytes a
unfolding first_memory
first_byte bytes a = refl

module _ (check : Bool) (at : Layout) (bytes : List ℕ) (fs : List Routine) (main : ℕ) (input : List ℕ) (n : ℕ)
    (w : FitsWorld (world_of check at (frames_at bytes) fs main) bytes main) (are : AreBytes input) where
  abbrev W : World
  W = world_of check at (frames_at bytes) fs main

  abbrev m0 : Machine
  m0 = start bytes input

  abbrev m1 : Machine
  m1 = with_register (with_register m0 1 (frames_at bytes)) 2 (at.address 1)

  abbrev s0 : State
  s0 = flat.start (flat_of bytes fs main) input

  begins : Stack W 0 s0 m1
  begins = record {
    top = omega arith;
    sized = memory_length bytes (omega (arith, w.room));
    held = λ a lt h. memory_at bytes a ∙ sym (first_byte bytes a);
    bytes = λ a h. subst (λ z. z < 256) (sym (first_byte bytes a)) (byte_at bytes a w.small);
    input = refl;
    read = are;
    output = refl;
    above = λ a le lt. first_closed bytes a (omega arith) lt;
  }

  goes_main : Goes W (block_at W.program 0) m0 1 (block_at W.program (W.entries main)) m1
  goes_main = goes_block W (start_block (frames_at bytes) (W.entries main)) _ m0 m1 refl (λ k. refl)

  no_cuts : parameters_size w.routine ≡ 0
  no_cuts = ap (λ x. moved_size (parameter_cuts w.routine.small) 0 (parameter_moves 0 x)) w.alone

  ends_block : (k : ℕ) (m : Machine) → run check at W.program (suc k) (block_at W.program 1) m
      ≡ Ended m.output (m.registers 3)
  ends_block k m = go check
    where
      go : (c : Bool) → run c at W.program (suc k) (system_block 3 1) m ≡ Ended m.output (m.registers 3)
      go true = refl
      go false = refl

  abbrev runs : ℕ → Standing
  runs k = run check at W.program k (block_at W.program 0) m0

  stops : (way : Way) (s : State) (n1 : ℕ)
      (f : Came W (W.base + 0) (Stack W 0) (block_at W.program (W.entries main)) s0 m1 n
      (3 + parameters_size w.routine) (block_at W.program 1) way s n1)
      → Stops runs n (Ended s.output (f.after.registers 3))
  stops way s n1 f = record {
    blocks = 1 + (f.j + 1);
    stands = λ k. let z : 1 + (f.j + 1) + k ≡ 1 + (f.j + suc k) = omega arith in
        ap runs z ∙ goes_main.by (f.j + suc k) ∙ f.goes.by (suc k) ∙ ends_block k f.after
        ∙ ap (λ o. Ended o (f.after.registers 3)) f.rel.output;
    few = omega (arith, f.few, no_cuts);
  }

  halts : (how : How) → HaltsSo W (block_at W.program (W.entries main)) m1 n (3 + parameters_size w.routine) how
      → Stops runs n (standing_of how)
  halts how f = record {
    blocks = 1 + f.j;
    stands = λ k. let z : 1 + f.j + k ≡ 1 + (f.j + k) = omega arith in ap runs z ∙ goes_main.by (f.j + k) ∙ f.stops k;
    few = omega (arith, f.few, no_cuts);
  }

  ends : (r : Res) → Follows W (W.base + 0) (Stack W 0) (block_at W.program (W.entries main)) s0 m1 n
      (3 + parameters_size w.routine) (λ x. block_at W.program 1) r → EndsSo runs n (concluded r)
  ends (Gone s n1) f = (f.after.registers 3, stops Next s n1 f)
  ends (Broke s n1) f = tt
  ends (Again s n1) f = tt
  ends (Gave None s n1) f = (f.after.registers 3, stops _ s n1 f)
  ends (Gave (Some x) s n1) f = subst (λ z. Stops runs n (Ended s.output z)) f.given.0 (stops _ s n1 f)
  ends (Halts (NoRoom out)) f = halts (NoRoom out) f
  ends (Halts (Exited x s n1)) f = halts (Exited x s n1) f
  ends (Unfinished out r) f = record {
    blocks = 1 + f.j;
    stands = goes_main.by f.j ∙ f.stands;
    few = omega (arith, f.few, no_cuts);
    rounds = omega (arith, f.rounds);
  }
  ends Wild f = tt

-- the blocks of a whole program follow its meaning
pub whole_follows : WholeClaim
unfolding hyper_run flat_run
whole_follows check at bytes fs main input n w are =
    let W = world_of check at (frames_at bytes) fs main in
    let b = is_built check at bytes fs main w in
    ends check at bytes fs main input n w are _
    (calls_follow W b (suc n) main w.routine w.found 0 (omega arith) (omega arith) []
    (flat.start (flat_of bytes fs main) input)
    (with_register (with_register (start bytes input) 1 (frames_at bytes)) 2 (at.address 1)) n 1 (sym w.alone)
    (λ i x e. (let bad : None ≡ Some x = e in cc)) refl
    (w.faithful 1 (slice_get_within W.program 1 _ refl)) (begins check at bytes fs main input n w are))
