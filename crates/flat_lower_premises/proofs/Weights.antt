-- What code weighs, by what each statement counts: so its statements and the blocks that are made of it are
-- counted by one proof.
use Rattle.std.proofs.Common.{◌≡◌, ℕ, ◌+◌, ◌*◌, ◌≤◌, List, [], ◌∷◌, Option, Some, None, refl, arith}
use Rattle.c_tree.specs.declared.Kind.{Kind}
use Rattle.ir_forms.specs.declared.flat.Arg.{Arg}
use Rattle.ir_forms.specs.inside.FlatCode.{Step, Call, Get, If, Loop, Code, Nop, ◌▹◌, Then, only, Function}
use Rattle.ir_forms.specs.inside.FlatFits.{steps_in, steps_of, steps_of_all}
use Rattle.ir_forms.specs.inside.FlatFits.{code_blocks_in, code_blocks, code_blocks_of_all}
use Rattle.flat_lower.specs.inside.Expressions.{with_kind}

-- WEIGHTS

-- what statements count; all others count one
pub record Weight : Type 0 where
  -- an if or a loop, besides its parts
  pub branch : ℕ
  -- a call of a function
  pub call : ℕ
  -- a byte of input
  pub get : ℕ
  -- a function, besides its body
  pub function : ℕ
  -- how these go together
  pub branches : 1 ≤ branch
  pub calls : call ≤ 8 + 2 * branch
  pub gets : get ≤ 2
  pub functions : function ≤ 3 + branch

abbrev mutual
  -- one statement with its parts
  pub weight_in : Weight → Step → ℕ
  weight_in w (Call f args to kept) = w.call
  weight_in w (Get to) = w.get
  weight_in w (If a one other) = w.branch + (weight_of w one + weight_of w other)
  weight_in w (Loop body post) = w.branch + (weight_of w body + weight_of w post)
  weight_in w _ = 1

  -- statements in order
  pub weight_of : Weight → Code → ℕ
  weight_of w Nop = 0
  weight_of w (s ▹ rest) = weight_in w s + weight_of w rest

-- functions
abbrev pub weight_of_all : Weight → List Function → ℕ
weight_of_all w [] = 0
weight_of_all w (f ∷ fs) = w.function + weight_of w f.body + weight_of_all w fs

-- what so many nodes may weigh
abbrev pub share : Weight → ℕ → ℕ
share w n = (3 + w.branch) * n

-- what an expression leaves of its nodes' share
abbrev pub spare : Weight → ℕ
spare w = 1 + w.branch

-- STATEMENTS AND BLOCKS

-- each statement counts one, and each function one
abbrev pub by_steps : Weight
by_steps = record {
  branch = 1;
  call = 1;
  get = 1;
  function = 1;
  branches = omega arith;
  calls = omega arith;
  gets = omega arith;
  functions = omega arith;
}

-- each statement counts the blocks that are made of it, and each function six
abbrev pub by_blocks : Weight
by_blocks = record {
  branch = 3;
  call = 14;
  get = 2;
  function = 6;
  branches = omega arith;
  calls = omega arith;
  gets = omega arith;
  functions = omega arith;
}

mutual
  step_is : (s : Step) → weight_in by_steps s ≡ steps_in s
  step_is (If a one other) = let h = steps_are one in let k = steps_are other in omega (arith, h, k)
  step_is (Loop body post) = let h = steps_are body in let k = steps_are post in omega (arith, h, k)
  step_is _ = refl

  steps_are : (x : Code) → weight_of by_steps x ≡ steps_of x
  steps_are Nop = refl
  steps_are (s ▹ rest) = let h = step_is s in let k = steps_are rest in omega (arith, h, k)

-- the weight of functions by their steps is their number of steps
pub all_steps_are : (fs : List Function) → weight_of_all by_steps fs ≡ steps_of_all fs
all_steps_are [] = refl
all_steps_are (f ∷ fs) = let h = steps_are f.body in let k = all_steps_are fs in omega (arith, h, k)

mutual
  block_is : (s : Step) → weight_in by_blocks s ≡ code_blocks_in s
  block_is (If a one other) = let h = blocks_are one in let k = blocks_are other in omega (arith, h, k)
  block_is (Loop body post) = let h = blocks_are body in let k = blocks_are post in omega (arith, h, k)
  block_is _ = refl

  blocks_are : (x : Code) → weight_of by_blocks x ≡ code_blocks x
  blocks_are Nop = refl
  blocks_are (s ▹ rest) = let h = block_is s in let k = blocks_are rest in omega (arith, h, k)

-- the weight of functions by their blocks is their number of blocks
pub all_blocks_are : (fs : List Function) → weight_of_all by_blocks fs ≡ code_blocks_of_all fs
all_blocks_are [] = refl
all_blocks_are (f ∷ fs) = let h = blocks_are f.body in let k = all_blocks_are fs in omega (arith, h, k)

-- COMPOSITION

-- weighing `extra` more, code would still weigh no more than `most`
pub record Takes (w : Weight) (extra most : ℕ) (x : Code) : Type 0 where
  pub few : weight_of w x + extra ≤ most

then_weighs : (w : Weight) (a b : Code) → weight_of w (Then a b) ≡ weight_of w a + weight_of w b
then_weighs w Nop b = omega arith
then_weighs w (s ▹ a) b = let h = then_weighs w a b in omega (arith, h)

module _ {w : Weight} where
  -- code after code takes what both take
  pub after : {s t m n : ℕ} {a b : Code} → Takes w s m a → Takes w t n b
      → Takes w (s + t) (m + n) (Then a b)
  after {s} {t} {m} {n} {a} {b} p q =
      let h = then_weighs w a b in
      let j = p.few in
      let k = q.few in
      record { few = omega (arith, h, j, k) }

  -- a weaker claim
  pub eased : {s m t n : ℕ} {x : Code} → Takes w s m x → m + t ≤ n + s → Takes w t n x
  eased {s} {m} {t} {n} {x} p h = let j = p.few in record { few = omega (arith, h, j) }

  -- code that does nothing weighs at most any number
  pub none : (m : ℕ) → Takes w 0 m Nop
  none m = record { few = omega arith }

  -- a statement that counts one
  pub one_more : (s : Step) → weight_in w s ≡ 1 → Takes w 0 1 (only s)
  one_more s h = record { few = omega (arith, h) }

  -- an if with its legs
  pub chosen : {s t m n : ℕ} {a b : Code} → (v : Arg) → Takes w s m a → Takes w t n b
      → Takes w (s + t) (w.branch + (m + n)) (only (If v a b))
  chosen v p q =
      let j = p.few in
      let k = q.few in
      record { few = omega (arith, j, k) }

  -- a loop with its body and what is behind it
  pub looped : {s t m n : ℕ} {a b : Code} → Takes w s m a → Takes w t n b
      → Takes w (s + t) (w.branch + (m + n)) (only (Loop a b))
  looped p q =
      let j = p.few in
      let k = q.few in
      record { few = omega (arith, j, k) }

  -- code at a kind that may be missing weighs no more than at each kind
  pub known_kind : (m : ℕ) (k : Option Kind) (f : Kind → Code) → ((k : Kind) → Takes w 0 m (f k))
      → Takes w 0 m (with_kind k f)
  known_kind m None f h = none m
  known_kind m (Some k) f h = h k
