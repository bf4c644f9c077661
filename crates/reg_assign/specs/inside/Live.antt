-- Liveness: the variables of a flat program that may be read before they are set again.
--
-- Only scalars and temporaries are spoken of. Scratch variables never stay set over a call, so that
-- none is kept.
use Rattle.std.specs.Prelude.{ℕ, zero, suc, Bool, false, cond, ◌&&◌, ◌||◌, not, nat_eq, List}
use Rattle.std.specs.Prelude.{[], ◌∷◌, ◌++◌, map, ◌+◌, ◌*◌, ◌/◌, take, drop, length, Option, Some}
use Rattle.std.specs.Prelude.{None}
use Rattle.std.specs.Prelude.{◌≡◌, ◌≤◌}
use Rattle.std.specs.List.{concat}
use Rattle.ir_forms.specs.declared.flat.Arg.{Arg}
use Rattle.ir_forms.specs.declared.flat.Arg.TheVariants.{Const, Var}
use Rattle.ir_forms.specs.inside.FlatCode.{Step, Let, Frame, Load, Save, Call, Put, Get, If, Loop, Break}
use Rattle.ir_forms.specs.inside.FlatCode.{Continue, Return, Halt, Code, Nop, ◌▹◌, Function, Program}
use Rattle.ir_forms.specs.inside.FlatViews.{stays}

-- SETS OF VARIABLES

-- for each variable whether it is in the set
abbrev pub VarSet : Type 0
VarSet = ℕ → Bool

-- no variable, as where a function ends
abbrev pub empty : VarSet
empty v = false

-- the variable alone, where it is one that stays set over a call
abbrev pub one : ℕ → VarSet
one k v = stays k && nat_eq v k

-- the variables of either
abbrev pub both : VarSet → VarSet → VarSet
both a b v = a v || b v

-- the variables of the first that are not of the second
abbrev pub minus : VarSet → VarSet → VarSet
minus a b v = a v && not (b v)

-- WHAT IS READ

-- the variable that an argument names, if it is one that stays set over a call
abbrev pub reads : Arg → VarSet
reads (Const w) = empty
reads (Var k) = one k

-- the variables that arguments of a call read
abbrev pub reads_any : List Arg → VarSet
reads_any [] = empty
reads_any (x ∷ xs) = both (reads x) (reads_any xs)

-- what a return reads, which may be nothing
abbrev pub reads_if : Option Arg → VarSet
reads_if None = empty
reads_if (Some x) = reads x

-- what a call sets
abbrev pub result : Option ℕ → VarSet
result None = empty
result (Some to) = one to

abbrev mutual
  -- every variable that is read somewhere in one statement, whether it was set before or not
  pub uses_in : Step → VarSet
  uses_in (Let to op x y) = both (reads x) (reads y)
  uses_in (Frame to at) = empty
  uses_in (Load to op x) = reads x
  uses_in (Save op x y) = both (reads x) (reads y)
  uses_in (Call f xs to kept) = reads_any xs
  uses_in (Put x) = reads x
  uses_in (Get to) = empty
  uses_in (If x a b) = both (reads x) (both (uses a) (uses b))
  uses_in (Loop a b) = both (uses a) (uses b)
  uses_in Break = empty
  uses_in Continue = empty
  uses_in (Return x) = reads_if x
  uses_in (Halt x) = reads x

  -- every variable that is read somewhere in code
  pub uses : Code → VarSet
  uses Nop = empty
  uses (s ▹ rest) = both (uses_in s) (uses rest)

-- WHAT IS LIVE

-- at the head of a loop: what is live after it, and all that it reads
abbrev pub head : Code → Code → VarSet → VarSet
head a b next = both next (both (uses a) (uses b))

-- What is live before a statement, where these are live behind it, where a break leads, and where a
-- continue leads. A return leads to where nothing is, and so does the end of the whole run.
abbrev mutual
  -- Before one statement. A loop counts as its head.
  pub live_in : Step → VarSet → VarSet → VarSet → VarSet
  live_in (Let to op x y) next brk con = both (both (reads x) (reads y)) (minus next (one to))
  live_in (Frame to at) next brk con = minus next (one to)
  live_in (Load to op x) next brk con = both (reads x) (minus next (one to))
  live_in (Save op x y) next brk con = both (both (reads x) (reads y)) next
  live_in (Call f xs to kept) next brk con = both (reads_any xs) (minus next (result to))
  live_in (Put x) next brk con = both (reads x) next
  live_in (Get to) next brk con = minus next (one to)
  live_in (If x a b) next brk con = both (reads x)
      (both (live a next brk con) (live b next brk con))
  live_in (Loop a b) next brk con = head a b next
  live_in Break next brk con = brk
  live_in Continue next brk con = con
  live_in (Return x) next brk con = reads_if x
  live_in (Halt x) next brk con = reads x

  -- before code, of which each statement is followed by the rest
  pub live : Code → VarSet → VarSet → VarSet → VarSet
  live Nop next brk con = next
  live (s ▹ rest) next brk con = live_in s (live rest next brk con) brk con

-- WHAT MUST BE KEPT

-- For each call, in the order of the program: what is live after it and is not what it sets.
abbrev mutual
  -- of one statement: nothing but where it is a call or has calls in its parts
  pub kept_in : Step → VarSet → VarSet → VarSet → List VarSet
  kept_in (Call f xs to old) next brk con = minus next (result to) ∷ []
  kept_in (If x a b) next brk con = kept a next brk con ++ kept b next brk con
  kept_in (Loop a b) next brk con =
      kept a (head a b next) next (head a b next) ++ kept b (head a b next) empty empty
  kept_in _ next brk con = []

  -- of code, where these are live behind it
  pub kept : Code → VarSet → VarSet → VarSet → List VarSet
  kept Nop next brk con = []
  kept (s ▹ rest) next brk con = kept_in s
      (live rest next brk con) brk con ++ kept rest next brk con

-- nothing is live where a function ends
abbrev pub kept_over : Function → List VarSet
kept_over f = kept f.body empty empty empty

-- the sets of functions, one for each call, in the order of the calls
abbrev pub kept_over_all : List Function → List VarSet
kept_over_all [] = []
kept_over_all (f ∷ fs) = kept_over f ++ kept_over_all fs

-- LISTS

-- the members below n, in increasing order
abbrev pub members_below : ℕ → VarSet → List ℕ
members_below zero a = []
members_below (suc n) a = members_below n a ++ cond (a n) (n ∷ []) []

-- the scalars and temporaries of a set
unfoldable pub members : VarSet → List ℕ
members a = members_below 80 a

-- the lists of a program, one for each call
abbrev pub live_lists : Program → List (List ℕ)
live_lists P = map members (kept_over_all P.functions)

-- the first n groups: group i has the 16 variables from place 16 i on
abbrev pub first_groups : ℕ → List ℕ → List (List ℕ)
first_groups zero vs = []
first_groups (suc n) vs = first_groups n vs ++ take 16 (drop (n * 16) vs) ∷ []

-- a list, cut into groups of at most 16
abbrev pub groups_of : List ℕ → List (List ℕ)
groups_of vs = first_groups ((length vs + 15) / 16) vs

-- groups of at most 16 that make up a list
abbrev pub AreSmall : List (List ℕ) → Type 0
AreSmall [] = Unit {0}
AreSmall (g ∷ gs) = (length g ≤ 16) × AreSmall gs

-- groups that are a list in pieces, in its order, each of at most 16 variables
abbrev pub IsCut : List ℕ → List (List ℕ) → Type 0
IsCut vs gs = (concat gs ≡ vs) × AreSmall gs

-- each list by its own groups
abbrev pub AreCut : List (List ℕ) → List (List (List ℕ)) → Type 0
AreCut [] [] = Unit {0}
AreCut (vs ∷ lists) (gs ∷ groups) = IsCut vs gs × AreCut lists groups
AreCut [] (gs ∷ groups) = ⊥
AreCut (vs ∷ lists) [] = ⊥

-- at most five groups for a call: 80 variables by 16
abbrev pub AreFew : List (List (List ℕ)) → Type 0
AreFew [] = Unit {0}
AreFew (gs ∷ groups) = (length gs ≤ 5) × AreFew groups
