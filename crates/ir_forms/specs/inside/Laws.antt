-- Laws of the three meanings.
use Rattle.std.specs.Prelude.{◌≡◌, ℕ, true, false, List}
use Rattle.ir_forms.specs.inside.FlatCode.{Code, Then, Program, Function}
use Rattle.ir_forms.specs.inside.Cells.{Checks}
use Rattle.ir_forms.specs.inside.FlatSteps.{State, Env, Res, Gone, Broke, Again, Gave, Halts, Unfinished}
use Rattle.ir_forms.specs.inside.FlatSteps.{Wild, unfinished, then_run, exec}
use Rattle.ir_forms.specs.inside.FlatRuns.{calls_within, flat_run}
use Rattle.ir_forms.specs.inside.HyperCode.{Block}
use Rattle.ir_forms.specs.inside.HyperFits.{FitsHyper}
use Rattle.ir_forms.specs.inside.HyperWords.{HasAddresses, LeavesWords}
use Rattle.ir_forms.specs.inside.HyperRuns.{Layout, Standing, Running, Ended, Full, Unclean, hyper_run}

-- each check of d is one of c
pub record Weaker (d c : Checks) : Type 0 where
  pub tame : d.tame ≡ true → c.tame ≡ true
  pub clean : d.clean ≡ true → c.clean ≡ true

-- the second result is the first, where that is not a breach
abbrev pub Agrees : Res → Res → Type 0
Agrees (Gone s m) r = r ≡ Gone s m
Agrees (Broke s m) r = r ≡ Broke s m
Agrees (Again s m) r = r ≡ Again s m
Agrees (Gave w s m) r = r ≡ Gave w s m
Agrees (Halts how) r = r ≡ Halts how
Agrees (Unfinished out n) r = r ≡ Unfinished out n
Agrees Wild r = Unit {0}

-- a run that no check ends is the run with fewer checks
abbrev pub ChecksChangeNothing : Type 0
ChecksChangeNothing =
    (c d : Checks) → Weaker d c → (P : Program) (input : List ℕ) (m : ℕ)
    → Agrees (flat_run c P input m) (flat_run d P input m)

-- code after code goes on where the first goes on
abbrev pub RunsInOrder : Type 0
RunsInOrder =
    (c : Checks) (fs : List Function) (base d : ℕ) (e : Env) (a b : Code) (s : State) (m : ℕ)
    → exec c (calls_within c fs base d) e (Then a b) s m
    ≡ then_run (exec c (calls_within c fs base d) e a s m) (exec c (calls_within c fs base d) e b)

-- with no turn nothing has ended, also where no code is left
abbrev pub StandsWithNoTurn : Type 0
StandsWithNoTurn =
    (c : Checks) (fs : List Function) (base d : ℕ) (e : Env) (a : Code) (s : State)
    → exec c (calls_within c fs base d) e a s 0 ≡ unfinished s

-- the second standing is the first, where nothing faulted
abbrev pub StandsAs : Standing → Standing → Type 0
StandsAs (Running out) q = q ≡ Running out
StandsAs (Ended out v) q = q ≡ Ended out v
StandsAs (Full out) q = q ≡ Full out
StandsAs Unclean q = Unit {0}

-- a clean run of a hyper program is its run without the check
abbrev pub CleanChangesNothing : Type 0
CleanChangesNothing =
    (at : Layout) (P : List Block) (bytes input : List ℕ) (n : ℕ)
    → StandsAs (hyper_run true at P bytes input n) (hyper_run false at P bytes input n)

-- a block that fits leaves words where it begins with words
abbrev pub KeepsWords : Type 0
KeepsWords = (at : Layout) (b : Block) → HasAddresses at → FitsHyper b → LeavesWords at b
