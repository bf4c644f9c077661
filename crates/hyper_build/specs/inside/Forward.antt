-- Numbers as a pass over flat code, forward: how many blocks, statements and calls stand before, and
-- the notes of the loops that were passed, in the order in which they end.
use Rattle.std.specs.Prelude.{ℕ, ◌+◌, Bool, cond, ◌&&◌, List, [], ◌∷◌, ◌++◌, Option, Some, None}
use Rattle.ir_forms.specs.declared.flat.Arg.{Arg}
use Rattle.ir_forms.specs.inside.FlatCode.{Step, Let, Frame, Load, Save, Call, Put, Get, If, Loop, Break, Continue}
use Rattle.ir_forms.specs.inside.FlatCode.{Return, Halt, Code, Nop, ◌▹◌, Function}
use Rattle.ir_forms.specs.inside.FlatFits.{steps_in, steps_of, is_empty}
use Rattle.hyper_build.specs.declared.emitting.Note.{Note}
use Rattle.hyper_build.specs.declared.numbering.Numbering.{Numbering}
use Rattle.hyper_build.specs.inside.Tree.{Plan, goes_on}
use Rattle.hyper_build.specs.inside.Parts.{cut_size, chain_size, moved_size}
use Rattle.hyper_build.specs.inside.Passing.{parameter_moves, parameter_cuts}
use Rattle.hyper_build.specs.inside.Sizes.{arguments_size}
use Rattle.hyper_build.specs.inside.BackwardItems.{is_if_item}
use Rattle.hyper_build.specs.inside.BackwardCode.{exit_of, is_bare_code, is_test_step}

-- STEPS

-- so many blocks more stand before
abbrev pub with_blocks : ℕ → Numbering → Numbering
with_blocks n s =
    record { label = s.label + n; place = s.place; calls = s.calls; notes = s.notes }

-- a statement more
abbrev pub with_statement : Numbering → Numbering
with_statement s =
    record { label = s.label; place = s.place + 1; calls = s.calls; notes = s.notes }

-- so many statements more
abbrev pub with_statements : ℕ → Numbering → Numbering
with_statements n s =
    record { label = s.label; place = s.place + n; calls = s.calls; notes = s.notes }

-- a call more
abbrev pub with_call : Numbering → Numbering
with_call s =
    record { label = s.label; place = s.place; calls = s.calls + 1; notes = s.notes }

-- a loop ends
abbrev pub with_note : Note → Numbering → Numbering
with_note note s = record {
  label = s.label;
  place = s.place;
  calls = s.calls;
  notes = s.notes ++ note ∷ [];
}

-- behind a statement that begins a block only where the plan cuts
abbrev pub single : Plan → Numbering → Numbering
single p s = with_statement (with_blocks (cut_size (p.cut s.place)) s)

-- behind a statement that is items alone
abbrev pub number_items : Plan → Step → Numbering → Numbering
number_items p x s = with_statements (steps_in x) (with_blocks (cut_size (p.cut s.place)) s)

-- the blocks that a call begins, by its numbers
abbrev pub call_size : Plan → ℕ → ℕ → List Arg → ℕ
call_size p i k args =
    chain_size (p.small i) (p.groups k)
    + (arguments_size (p.small i) args + (1 + (chain_size (p.small i) (p.groups k) + cut_size (p.cut i))))

-- a leg that has blocks begins with one
abbrev pub led_by : Option ℕ → Numbering → Numbering
led_by None s = with_blocks 1 s
led_by (Some to) s = s

-- before a leg of an if: one block more stands there, unless the leg has no block of its own
abbrev pub led : Code → Numbering → Numbering
led c s = led_by (exit_of 0 0 0 c) s

-- CODE

-- Behind a statement, or behind code. `on` says whether the code behind the statement goes on.
abbrev mutual
  -- behind one statement with its parts
  pub number_in : Plan → Bool → Step → Numbering → Numbering
  number_in p on (Let to op a b) s = single p s
  number_in p on (Frame to at) s = single p s
  number_in p on (Load to op a) s = single p s
  number_in p on (Save op a v) s = single p s
  number_in p on (Call f args to kept) s =
      with_call (with_statement (with_blocks (call_size p s.place s.calls args) s))
  number_in p on (Put v) s = with_statement (with_blocks 1 s)
  number_in p on (Get to) s = with_statement (with_blocks (1 + cut_size (p.cut s.place)) s)
  number_in p on (If x one other) s =
      cond (is_if_item (p.joined s.place) one other) (number_items p (If x one other) s)
      (with_blocks 1 (number p other (led other (number p one (led one (with_statement s))))))
  number_in p on (Loop body post) s =
      let next = number_turn p body (with_statement (with_blocks 1 s)) in
      cond (is_bare_code (p.cut s.place) body post)
      (with_note (record { head = s.label; next = s.label; place = s.place })
      (with_blocks 1 (with_statements (steps_of post) next)))
      (with_note (record { head = s.label; next = next.label; place = s.place })
      (with_blocks 1 (number p post (with_blocks 1 next))))
  number_in p on Break s = with_statement (with_blocks (cut_size on) s)
  number_in p on Continue s = with_statement (with_blocks (cut_size on) s)
  number_in p on (Return v) s = with_statement (with_blocks (cut_size on) s)
  number_in p on (Halt v) s = with_statement (with_blocks (cut_size on) s)

  -- behind code, from its first statement on
  pub number : Plan → Code → Numbering → Numbering
  number p Nop s = s
  number p (x ▹ rest) s = number p rest (number_in p (goes_on rest) x s)

  -- behind a loop's test, which is its leg, and a break that begins no block
  pub number_test : Plan → Step → Numbering → Numbering
  number_test p (If x one other) s =
      with_blocks (cut_size (p.cut s.place)) (with_statement (number p one (with_statement s)))
  number_test p _ s = s

  -- Behind a loop's body.
  pub number_turn : Plan → Code → Numbering → Numbering
  number_turn p Nop s = s
  number_turn p (x ▹ rest) s =
      number_turn p rest
      (cond (is_empty rest && is_test_step (p.joined s.place) x) (number_test p x s)
      (number_in p (goes_on rest) x s))

-- behind a statement of a loop's body; `last` says whether it is the last one
abbrev pub number_part : Plan → Bool → Bool → Step → Numbering → Numbering
number_part p last on x s =
    cond (last && is_test_step (p.joined s.place) x) (number_test p x s) (number_in p on x s)

-- FUNCTIONS

-- the blocks of a function before its body
abbrev pub way_in_size : Bool → ℕ → ℕ
way_in_size small params =
    2 + moved_size (parameter_cuts small) 0 (parameter_moves 0 params) + cut_size small

-- behind a function, which counts one statement besides those of its body
abbrev pub number_function : Plan → Function → Numbering → Numbering
number_function p f s =
    number p f.body (with_statement (with_blocks (way_in_size (p.small s.place) f.params) s))

-- behind functions, from the first on
abbrev pub number_all : Plan → List Function → Numbering → Numbering
number_all p [] s = s
number_all p (f ∷ fs) s = number_all p fs (number_function p f s)

-- the label of each function
abbrev pub entries_from : Plan → List Function → Numbering → List ℕ
entries_from p [] s = []
entries_from p (f ∷ fs) s = s.label ∷ entries_from p fs (number_function p f s)

-- before the first function: three blocks stand
abbrev pub numbers_start : Numbering
numbers_start = record { label = 3; place = 0; calls = 0; notes = [] }
