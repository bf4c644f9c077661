-- What the machine does where an ending of the flat program is given.
use Rattle.std.specs.Prelude.{◌≡◌, ℕ, ◌+◌, ◌*◌, ◌%◌, ◌^◌, ◌<◌, ◌≤◌, List, length, Option, Some, None}
use Rattle.std.specs.Prelude.{slice_get}
use Rattle.ir_forms.specs.inside.Frames.{frame_limit, argument_register}
use Rattle.ir_forms.specs.inside.FlatSteps.{State, Res, Gone, Broke, Again, Gave, Halts, Unfinished, Wild}
use Rattle.ir_forms.specs.inside.FlatSteps.{How, NoRoom, Exited, Calls}
use Rattle.ir_forms.specs.inside.FlatRuns.{argument}
use Rattle.ir_forms.specs.inside.HyperCode.{Block}
use Rattle.ir_forms.specs.inside.HyperRuns.{Machine, Standing, Running, Ended, Full, jump, block_at, run}
use Rattle.hyper_build.specs.inside.Tree.{Routine}
use Rattle.hyper_build.specs.inside.Straight.{Place}
use Rattle.hyper_build.specs.inside.Routines.{parameters_size}
use Rattle.hyper_build.specs.inside.World.{World, Goes, Stack, Rel, Kept, IsFaithful}

-- how a statement is left
pub data Way : Type 0 where
  Next : Way
  Breaks : Way
  Continues : Way
  Returns : (value : Option ℕ) → Way

-- what is returned is a word in register 3
abbrev pub IsGiven : Way → Machine → Type 0
IsGiven Next m = Unit {0}
IsGiven Breaks m = Unit {0}
IsGiven Continues m = Unit {0}
IsGiven (Returns None) m = Unit {0}
IsGiven (Returns (Some w)) m = (m.registers 3 ≡ w) × (w < 2 ^ 64)

-- What holds at an end, of the state and the machine.
abbrev pub Relation : Type 1
Relation = State → Machine → Type 0

-- From b and m the machine comes to b' as the flat program leaves by `way`, in at most two blocks a
-- turn and `extra` more, and a round has a block of its own.
pub record Came (W : World) (lo : ℕ) (R : Relation) (b : Block) (s : State) (m : Machine)
    (n extra : ℕ) (b' : Block) (way : Way) (s' : State) (n' : ℕ) : Type 0
  where
    -- how many blocks
    pub j : ℕ
    pub after : Machine
    pub goes : Goes W b m j b' after
    -- and there the state and the machine agree
    pub rel : R s' after
    -- what lay closed below lo is left alone
    pub kept : Kept lo s m s' after
    pub given : IsGiven way after
    pub few : j + 2 * n' ≤ 2 * n + extra
    pub rounds : s'.rounds ≤ s.rounds + j

-- how the machine stands where the flat program's run stops at once: the stack is full, or the run has
-- ended with a value
abbrev pub standing_of : How → Standing
standing_of (NoRoom out) = Full out
standing_of (Exited w s m) = Ended s.output w

-- The run stops at once.
pub record HaltsSo (W : World) (b : Block) (m : Machine) (n extra : ℕ) (how : How) : Type 0
  where
    -- how many blocks until it does
    pub j : ℕ
    -- and stays so
    pub stops : (k : ℕ) → run W.check W.at W.program (j + k) b m ≡ standing_of how
    pub few : j ≤ 2 * n + extra

-- The run has not ended, where the flat program's had no turn left.
pub record GoesOn (W : World) (b : Block) (s : State) (m : Machine) (n extra : ℕ) (out : List ℕ)
    (r : ℕ) : Type 0
  where
    -- how many blocks
    pub j : ℕ
    pub stands : run W.check W.at W.program j b m ≡ Running out
    pub few : j ≤ 2 * n + extra
    pub rounds : r ≤ s.rounds + j

-- what the machine does from b on, for each ending
abbrev pub Follows : World → ℕ → Relation → Block → State → Machine → ℕ → ℕ → (Way → Block) → Res
    → Type 0
Follows W lo R b s m n extra ways (Gone s' n') = Came W lo R b s m n extra (ways Next) Next s' n'
Follows W lo R b s m n extra ways (Broke s' n') =
    Came W lo R b s m n extra (ways Breaks) Breaks s' n'
Follows W lo R b s m n extra ways (Again s' n') =
    Came W lo R b s m n extra (ways Continues) Continues s' n'
Follows W lo R b s m n extra ways (Gave w s' n') =
    Came W lo R b s m n extra (ways (Returns w)) (Returns w) s' n'
Follows W lo R b s m n extra ways (Halts how) = HaltsSo W b m n extra how
Follows W lo R b s m n extra ways (Unfinished out r) = GoesOn W b s m n extra out r
Follows W lo R b s m n extra ways Wild = Unit {0}

-- A part of function g does what f says, with blocks from b on. Behind the frame's first word all
-- may change that is not closed.
abbrev pub Does : World → ℕ → Routine → Block → (Way → Block) → (State → ℕ → Res) → Type 0
Does W start g b ways f =
    (s : State) (m : Machine) (n : ℕ) → Rel W start g s m
    → Follows W (W.base + start + 8) (Rel W start g) b s m n 0 ways (f s n)

-- where the ways out of a statement lead
abbrev pub ways_of : Place → Block → Way → Block
ways_of p k Next = k
ways_of p k Breaks = jump p.broke
ways_of p k Continues = jump p.again
ways_of p k (Returns w) = p.gave

-- the arguments are words in their registers
abbrev pub Passed : List ℕ → Machine → Type 0
Passed ws m = (i x : ℕ) → argument ws i ≡ Some x
    → (m.registers (argument_register i) ≡ x) × (x < 2 ^ 64)

-- A call, from the entry of f back to the label whose address is in register 2. It costs three
-- blocks besides its body, and those that end behind parameters.
abbrev pub CallsFollow : World → Calls → Type 0
CallsFollow W call =
    (f : ℕ) (g : Routine) → slice_get W.routines f ≡ Some g
    → (used : ℕ) → used % 8 ≡ 0 → used ≤ frame_limit
    → (ws : List ℕ) (s : State) (m : Machine) (n back : ℕ)
    → length ws ≡ g.params → Passed ws m → m.registers 2 ≡ W.at.address back
    → IsFaithful W.at back → Stack W used s m
    → Follows W (W.base + used) (Stack W used) (block_at W.program (W.entries f)) s m n
    (3 + parameters_size g) (λ w. block_at W.program back) (call f ws used s n)
