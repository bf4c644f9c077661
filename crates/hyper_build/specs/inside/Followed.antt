-- That a block which makes a system call or a call is followed by the block that goes on.
use Rattle.std.specs.Prelude.{◌≡◌, ℕ, ◌+◌, List, [], ◌∷◌}
use Rattle.ir_forms.specs.declared.hyper.Exit.{Exit}
use Rattle.ir_forms.specs.declared.hyper.Exit.TheVariants as exit
use Rattle.ir_forms.specs.inside.HyperCode.{Tail, Leave, Test, Block}
use Rattle.hyper_build.specs.inside.Tree.{Routine}
use Rattle.hyper_build.specs.inside.Routines.{built}

-- an exit of a block behind which label l stands
abbrev pub FollowedExit : ℕ → Exit → Type 0
FollowedExit l (exit.Jump to) = Unit {0}
FollowedExit l (exit.Call to back) = back ≡ l
FollowedExit l exit.Return = Unit {0}
FollowedExit l (exit.System next) = next ≡ l

-- each exit of an end is such
abbrev pub FollowedTail : ℕ → Tail → Type 0
FollowedTail l (Leave e) = FollowedExit l e
FollowedTail l (Test t one other) = FollowedTail l one × FollowedTail l other

-- blocks that stand from label l on
abbrev pub AreFollowed : ℕ → List Block → Type 0
AreFollowed l [] = Unit {0}
AreFollowed l (b ∷ bs) = FollowedTail (l + 1) b.tail × AreFollowed (l + 1) bs

-- so are the blocks of every built program, whatever its plan
abbrev pub FollowedClaim : Type 0
FollowedClaim = (base : ℕ) (fs : List Routine) (main : ℕ) → AreFollowed 0 (built base fs main)
