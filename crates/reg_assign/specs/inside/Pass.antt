-- The two passes over a function's code. A set of variables is a number here: bit v says whether
-- variable v is in it.
--
-- The first pass goes forward and notes what each loop reads, a loop behind the loops in it. The
-- second goes backward, so that it meets a loop before the loops in it: what it reads is then the
-- last that is noted. So each statement is met twice, however deep it stands.
use Rattle.std.specs.Prelude.{ℕ, ◌/◌, ◌^◌, cond, nat_eq, nat_lt, bit_and, bit_or, bit_xor, List, []}
use Rattle.std.specs.Prelude.{◌∷◌, ◌++◌, Option, Some, None}
use Rattle.ir_forms.specs.declared.flat.Arg.{Arg}
use Rattle.ir_forms.specs.declared.flat.Arg.TheVariants.{Const, Var}
use Rattle.ir_forms.specs.inside.FlatCode.{Step, Let, Frame, Load, Save, Call, Put, Get, If, Loop, Break}
use Rattle.ir_forms.specs.inside.FlatCode.{Continue, Return, Halt, Code, Nop, ◌▹◌, Function}
use Rattle.reg_assign.specs.declared.reading.Reading.{Reading}
use Rattle.reg_assign.specs.declared.walking.Walk.{Walk}
use Rattle.reg_assign.specs.inside.Live.{VarSet, members}

-- SETS AS NUMBERS

-- the set that a number stands for
abbrev pub seen : ℕ → VarSet
seen n v = nat_eq (bit_and (n / 2 ^ v) 1) 1

-- the set of one variable; of a scratch variable, which is never kept, the empty set
unfoldable pub bit : ℕ → ℕ
bit k = cond (nat_lt k 80) (2 ^ k) 0

-- the members of the first that are not of the second
abbrev pub without : ℕ → ℕ → ℕ
without a b = bit_xor a (bit_and a b)

-- the set of what an argument reads
abbrev pub read_by : Arg → ℕ
read_by (Const w) = 0
read_by (Var k) = bit k

-- with what arguments read
abbrev pub with_read : ℕ → List Arg → ℕ
with_read set [] = set
with_read set (x ∷ xs) = with_read (bit_or set (read_by x)) xs

-- the set of what a call sets
abbrev pub set_by : Option ℕ → ℕ
set_by None = 0
set_by (Some to) = bit to

-- WHAT LOOPS READ

-- one more set read since the begin of the innermost loop
abbrev pub adding : Reading → ℕ → Reading
adding r set = record { read = bit_or r.read set; loops = r.loops }

-- behind a loop, from what was read before it
abbrev pub behind_loop : ℕ → Reading → Reading
behind_loop outer r = record { read = bit_or outer r.read; loops = r.loops ++ r.read ∷ [] }

-- the arguments of a call are read
abbrev pub adding_all : Reading → List Arg → Reading
adding_all r xs = record { read = with_read r.read xs; loops = r.loops }

-- at the begin of a loop
abbrev pub opened : Reading → Reading
opened r = record { read = 0; loops = r.loops }

-- what a return gives is read, if it gives something
abbrev pub adding_if : Reading → Option Arg → Reading
adding_if r None = r
adding_if r (Some x) = adding r (read_by x)

abbrev mutual
  -- the first pass over one statement
  pub reading_in : Step → Reading → Reading
  reading_in (Let to op x y) r = adding (adding r (read_by x)) (read_by y)
  reading_in (Frame to at) r = r
  reading_in (Load to op x) r = adding r (read_by x)
  reading_in (Save op x y) r = adding (adding r (read_by x)) (read_by y)
  reading_in (Call f xs to old) r = adding_all r xs
  reading_in (Put x) r = adding r (read_by x)
  reading_in (Get to) r = r
  reading_in (If x p q) r = reading q (reading p (adding r (read_by x)))
  reading_in (Loop p q) r =
      behind_loop r.read (reading q (reading p (opened r)))
  reading_in Break r = r
  reading_in Continue r = r
  reading_in (Return x) r = adding_if r x
  reading_in (Halt x) r = adding r (read_by x)

  -- the first pass over code, forward
  pub reading : Code → Reading → Reading
  reading Nop r = r
  reading (s ▹ rest) r = reading rest (reading_in s r)

-- WHAT IS LIVE

-- the note that was made last: that of the loop which the second pass meets next
abbrev pub last_of : List ℕ → ℕ
last_of [] = 0
last_of (x ∷ []) = x
last_of (x ∷ y ∷ more) = last_of (y ∷ more)

-- the notes that are left when the last is taken
abbrev pub front_of : List ℕ → List ℕ
front_of [] = []
front_of (x ∷ []) = []
front_of (x ∷ y ∷ more) = x ∷ front_of (y ∷ more)

-- another set is live; notes and lists stay
abbrev pub living : Walk → ℕ → Walk
living w set = record { live = set; loops = w.loops; lists = w.lists }

-- before a statement that sets a variable
abbrev pub setting : Walk → ℕ → Walk
setting w to = living w (without w.live (bit to))

-- before a statement that reads an argument
abbrev pub reading_one : Walk → Arg → Walk
reading_one w x = living w (bit_or w.live (read_by x))

-- before a call: its list is what is live behind it and is not what it sets
abbrev pub before_call : Walk → Option ℕ → List Arg → Walk
before_call w to xs = record {
  live = with_read (without w.live (set_by to)) xs;
  loops = w.loops;
  lists = w.lists ++ members (seen (without w.live (set_by to))) ∷ [];
}

-- at a loop's head
abbrev pub at_head : Walk → Walk
at_head w = record {
  live = bit_or w.live (last_of w.loops);
  loops = front_of w.loops;
  lists = w.lists;
}

-- the set of what a return reads
abbrev pub read_if : Option Arg → ℕ
read_if None = 0
read_if (Some x) = read_by x

-- before an if, from what is live before its parts
abbrev pub before_if : Arg → ℕ → Walk → Walk
before_if x other w = living w (bit_or (bit_or w.live other) (read_by x))

-- where a break and where a continue leads
abbrev mutual
  -- the second pass over one statement
  pub walk_in : Step → ℕ → ℕ → Walk → Walk
  walk_in (Let to op x y) b k w = reading_one (reading_one (setting w to) x) y
  walk_in (Frame to at) b k w = setting w to
  walk_in (Load to op x) b k w = reading_one (setting w to) x
  walk_in (Save op x y) b k w = reading_one (reading_one w x) y
  walk_in (Call f xs to old) b k w = before_call w to xs
  walk_in (Put x) b k w = reading_one w x
  walk_in (Get to) b k w = setting w to
  walk_in (If x p q) b k w =
      before_if x (walk q b k w).live (walk p b k (living (walk q b k w) w.live))
  walk_in (Loop p q) b k w = living
      (walk p w.live (at_head w).live (living (walk q 0 0 (at_head w)) (at_head w).live))
      (at_head w).live
  walk_in Break b k w = living w b
  walk_in Continue b k w = living w k
  walk_in (Return x) b k w = living w (read_if x)
  walk_in (Halt x) b k w = living w (read_by x)

  -- the second pass over code, from its end to its begin
  pub walk : Code → ℕ → ℕ → Walk → Walk
  walk Nop b k w = w
  walk (s ▹ rest) b k w = walk_in s b k (walk rest b k w)

-- PROGRAMS

-- the lists of the calls of a function's body, the last first, behind those of the functions after
-- it
abbrev pub body_lists : Code → List (List ℕ) → List (List ℕ)
body_lists c lists = (walk c 0 0 (record {
  live = 0;
  loops = (reading c (record { read = 0; loops = [] })).loops;
  lists = lists;
})).lists

-- the lists of all calls, the last call's first
abbrev pub lists_backward : List Function → List (List ℕ)
lists_backward [] = []
lists_backward (f ∷ fs) = body_lists f.body (lists_backward fs)
