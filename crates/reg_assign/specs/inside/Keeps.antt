-- A flat program whose calls keep certain variables, and that it does what the program does.
use Rattle.std.specs.Prelude.{◌≡◌, ℕ, zero, suc, ◌+◌, Bool, true, false, ◌||◌, nat_eq, List, []}
use Rattle.std.specs.Prelude.{◌∷◌, length, Some, slice_get}
use Rattle.ir_forms.specs.inside.FlatViews.{stays}
use Rattle.ir_forms.specs.inside.FlatCode.{Step, Let, Frame, Load, Save, Call, Put, Get, If, Loop, Break}
use Rattle.ir_forms.specs.inside.FlatCode.{Continue, Return, Halt, Code, Nop, ◌▹◌, Function, Program}
use Rattle.ir_forms.specs.inside.FlatFits.{is_lasting, FitsProgram}
use Rattle.ir_forms.specs.inside.Cells.{Checks}
use Rattle.ir_forms.specs.inside.FlatSteps.{State, Res, Gone, Broke, Again, Gave, Halts, Unfinished}
use Rattle.ir_forms.specs.inside.FlatSteps.{Wild}
use Rattle.ir_forms.specs.inside.FlatRuns.{flat_run}
use Rattle.reg_assign.specs.inside.Live.{VarSet}

-- NUMBERED CALLS

abbrev mutual
  -- how many calls one statement has, those in its parts among them
  pub calls_in : Step → ℕ
  calls_in (Call f xs to kept) = 1
  calls_in (If x a b) = calls a + calls b
  calls_in (Loop a b) = calls a + calls b
  calls_in _ = 0

  -- how many calls stand in code
  pub calls : Code → ℕ
  calls Nop = 0
  calls (s ▹ rest) = calls_in s + calls rest

-- Calls keep what their numbers say; the first has the number k.
abbrev mutual
  -- one statement of which the first call has the number k, with what its calls keep replaced
  pub keeping_in : (ℕ → VarSet) → ℕ → Step → Step
  keeping_in keep k (Let to op x y) = Let to op x y
  keeping_in keep k (Frame to at) = Frame to at
  keeping_in keep k (Load to op x) = Load to op x
  keeping_in keep k (Save op x y) = Save op x y
  keeping_in keep k (Call f xs to kept) = Call f xs to (keep k)
  keeping_in keep k (Put x) = Put x
  keeping_in keep k (Get to) = Get to
  keeping_in keep k (If x a b) = If x (keeping keep k a) (keeping keep (k + calls a) b)
  keeping_in keep k (Loop a b) = Loop (keeping keep k a) (keeping keep (k + calls a) b)
  keeping_in keep k Break = Break
  keeping_in keep k Continue = Continue
  keeping_in keep k (Return x) = Return x
  keeping_in keep k (Halt x) = Halt x

  -- code of which the first call has the number k; calls count in the order of the text
  pub keeping : (ℕ → VarSet) → ℕ → Code → Code
  keeping keep k Nop = Nop
  keeping keep k (s ▹ rest) = keeping_in keep k s ▹ keeping keep (k + calls_in s) rest

-- a function with other code, and the same parameters, scalars and arrays
abbrev pub with_body : Function → Code → Function
with_body f c =
    record { params = f.params; scalars = f.scalars; arrays = f.arrays; body = c }

-- functions of which the first call has the number k
abbrev pub keeping_all : (ℕ → VarSet) → ℕ → List Function → List Function
keeping_all keep k [] = []
keeping_all keep k (f ∷ fs) =
    with_body f (keeping keep k f.body) ∷ keeping_all keep (k + calls f.body) fs

-- the set of the variables of a list
abbrev pub is_among : List ℕ → VarSet
is_among [] v = false
is_among (x ∷ xs) v = nat_eq v x || is_among xs v

-- call number k keeps the variables of list k; where there is none, nothing
abbrev pub kept_by : List (List ℕ) → ℕ → VarSet
kept_by [] k v = false
kept_by (vs ∷ more) zero v = is_among vs v
kept_by (vs ∷ more) (suc k) v = kept_by more k v

-- the program whose calls keep what the lists say
abbrev pub assigned_program : Program → List (List ℕ) → Program
assigned_program P lists = record {
  functions = keeping_all (kept_by lists) 0 P.functions;
  bytes = P.bytes;
  main = P.main;
}

-- LISTS FOR A PROGRAM

-- how many calls functions have, of which each wants a list
abbrev pub calls_of_all : List Function → ℕ
calls_of_all [] = 0
calls_of_all (f ∷ fs) = calls f.body + calls_of_all fs

-- scalars and temporaries alone
abbrev pub AreLasting : List ℕ → Type 0
AreLasting [] = Unit {0}
AreLasting (v ∷ vs) = (stays v ≡ true) × AreLasting vs

-- each list is one of scalars and temporaries
abbrev pub EachLasting : List (List ℕ) → Type 0
EachLasting [] = Unit {0}
EachLasting (vs ∷ lists) = AreLasting vs × EachLasting lists

-- one list for each call, of variables that can be kept
pub record FitsLists (P : Program) (lists : List (List ℕ)) : Type 0 where
  -- as many lists as calls
  pub each : length lists ≡ calls_of_all P.functions
  pub lasting : EachLasting lists

-- each call in code of a function of n scalars keeps only these scalars, and temporaries
abbrev mutual
  -- each call of one statement
  pub KeepsOwnIn : ℕ → Step → Type 0
  KeepsOwnIn n (Call f xs to kept) = (v : ℕ) → kept v ≡ true → is_lasting n v ≡ true
  KeepsOwnIn n (If x a b) = KeepsOwn n a × KeepsOwn n b
  KeepsOwnIn n (Loop a b) = KeepsOwn n a × KeepsOwn n b
  KeepsOwnIn n _ = Unit {0}

  -- each call of code
  pub KeepsOwn : ℕ → Code → Type 0
  KeepsOwn n Nop = Unit {0}
  KeepsOwn n (s ▹ rest) = KeepsOwnIn n s × KeepsOwn n rest

-- the program whose calls keep what the lists say fits, and its calls keep variables of their own
-- functions
pub record FitsKept (P : Program) (lists : List (List ℕ)) : Type 0 where
  pub fits : FitsProgram (assigned_program P lists)
  -- a function's scalars, and temporaries
  pub own : (f : ℕ) (g : Function) → slice_get (assigned_program P lists).functions f ≡ Some g
      → KeepsOwn g.scalars g.body

-- WHAT IT DOES

-- the states are the same but for variables
pub record SameOutside (s t : State) : Type 0 where
  -- also in which bytes may be loaded and saved
  pub memory : t.memory ≡ s.memory
  pub input : t.input ≡ s.input
  pub output : t.output ≡ s.output
  pub rounds : t.rounds ≡ s.rounds

-- a result is an ending with a state that is another one but for variables
pub record Reaches (end : State → Res) (s : State) (r : Res) : Type 0 where
  pub state : State
  pub same : r ≡ end state
  pub outside : SameOutside s state

-- the second ending is the first, but for variables and where the first is not Wild
abbrev pub EndsAs : Res → Res → Type 0
EndsAs (Gone s m) r = Reaches (λ t. Gone t m) s r
EndsAs (Broke s m) r = Reaches (λ t. Broke t m) s r
EndsAs (Again s m) r = Reaches (λ t. Again t m) s r
EndsAs (Gave w s m) r = Reaches (λ t. Gave w t m) s r
EndsAs (Halts how) r = r ≡ Halts how
EndsAs (Unfinished out n) r = r ≡ Unfinished out n
EndsAs Wild r = Unit {0}

-- a mode in which runs that are not tame are Wild
abbrev pub tame_and : Bool → Checks
tame_and clean = record { tame = true; clean = clean }

-- Wherever the program's run is tame, the run of the program whose calls keep only these variables
-- ends as it does, with the same value, output, input, memory and rounds, and the same turns left.
abbrev pub KeepsTameRuns : Program → List (List ℕ) → Type 0
KeepsTameRuns P lists = (clean : Bool) (input : List ℕ) (m : ℕ)
    → EndsAs (flat_run (tame_and clean) P input m)
    (flat_run (tame_and clean) (assigned_program P lists) input m)
