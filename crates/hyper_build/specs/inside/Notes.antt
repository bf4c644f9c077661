-- The notes of the loops of code, in the order in which the loops end.
use Rattle.std.specs.Prelude.{ℕ, ◌+◌, cond, ◌&&◌, List, [], ◌∷◌, ◌++◌}
use Rattle.ir_forms.specs.inside.FlatCode.{Step, If, Loop, Code, Nop, ◌▹◌}
use Rattle.ir_forms.specs.inside.FlatFits.{steps_in, steps_of, is_empty}
use Rattle.reg_assign.specs.inside.Keeps.{calls_in, calls}
use Rattle.hyper_build.specs.declared.emitting.Note.{Note}
use Rattle.hyper_build.specs.inside.Tree.{Plan, goes_on, annotated_in, annotated}
use Rattle.hyper_build.specs.inside.Legs.{leg_size, label_or, post_exit}
use Rattle.hyper_build.specs.inside.Sizes.{size_in, size, turn_size, part_size}
use Rattle.hyper_build.specs.inside.BackwardCode.{is_bare_code, is_test_step}

-- a loop whose head stands at a label, which is the statement of number `place`, and whose body
-- goes on at label `next`
abbrev pub note_of : ℕ → ℕ → ℕ → Note
note_of head place next = record { head = head; place = place; next = next }

-- Of code whose blocks stand from label l on, where i statements and k calls stand before it.
abbrev mutual
  -- of one statement: a loop's note stands behind those of the loops in it
  pub notes_in : Plan → ℕ → ℕ → ℕ → Step → List Note
  notes_in p l i k (If x one other) =
      let A = annotated p (i + 1) k one in
      notes_of p (l + 1) (i + 1) k one
      ++ notes_of p (l + leg_size A (size A) + 1) (i + 1 + steps_of one) (k + calls one) other
  notes_in p l i k (Loop body post) =
      let next = l + 1 + turn_size (annotated p (i + 1) k body) in
      turn_notes p (l + 1) (i + 1) k body
      ++ (notes_of p (next + 1) (i + 1 + steps_of body) (k + calls body) post
      ++ note_of l i (label_or next (post_exit (is_bare_code (p.cut i) body post) l)) ∷ [])
  notes_in p l i k _ = []

  -- of code, those of its first statement in front
  pub notes_of : Plan → ℕ → ℕ → ℕ → Code → List Note
  notes_of p l i k Nop = []
  notes_of p l i k (x ▹ c) =
      notes_in p l i k x
      ++ notes_of p (l + size_in (annotated_in p i k (goes_on c) x)) (i + steps_in x) (k + calls_in x) c

  -- of a loop's test, those of its leg
  pub test_notes : Plan → ℕ → ℕ → ℕ → Step → List Note
  test_notes p l i k (If x one other) = notes_of p l (i + 1) k one
  test_notes p l i k _ = []

  -- of a loop's body
  pub turn_notes : Plan → ℕ → ℕ → ℕ → Code → List Note
  turn_notes p l i k Nop = []
  turn_notes p l i k (x ▹ c) =
      let test = is_empty c && is_test_step (p.joined i) x in
      cond test (test_notes p l i k x) (notes_in p l i k x)
      ++ turn_notes p (l + part_size test (annotated_in p i k (goes_on c) x)) (i + steps_in x)
      (k + calls_in x) c
