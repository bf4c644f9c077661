-- What emission does before ifs, loops, and all code.
use Rattle.std.specs.Prelude.{ℕ, ◌-◌, Bool, false, cond, ◌&&◌, ◌||◌, not, nat_eq, Option, Some, None}
use Rattle.ir_forms.specs.declared.flat.Arg.{Arg}
use Rattle.ir_forms.specs.declared.hyper.Exit.TheVariants as exit
use Rattle.ir_forms.specs.inside.FlatCode.{Step, Let, Frame, Load, Save, Call, Put, Get, If, Loop, Break, Continue}
use Rattle.ir_forms.specs.inside.FlatCode.{Return, Halt, Code, Nop, ◌▹◌}
use Rattle.ir_forms.specs.inside.FlatFits.{steps_in, steps_of, is_empty}
use Rattle.ir_forms.specs.inside.HyperCode.{Done, Leave, Test, Block}
use Rattle.ir_forms.specs.inside.HyperRuns.{jump}
use Rattle.hyper_build.specs.inside.Tree.{Plan, goes_on}
use Rattle.hyper_build.specs.inside.Parts.{source}
use Rattle.hyper_build.specs.inside.Legs.{label_or, are_operations, continues}
use Rattle.hyper_build.specs.inside.Entries.{give, end_label}
use Rattle.hyper_build.specs.inside.Ground.{Ground, plan, entry_at, left}
use Rattle.hyper_build.specs.inside.Merging.{merged, test_register}
use Rattle.hyper_build.specs.inside.Backward.{Emission, with_rest, put_out, cut_at, fall, fall_by, before_by}
use Rattle.hyper_build.specs.inside.Backward.{last_note, without_note}
use Rattle.hyper_build.specs.inside.BackwardStatements.{let_out, frame_out, load_out, save_out, byte_out, byte_in}
use Rattle.hyper_build.specs.inside.BackwardStatements.{leaving, back_out, call_out}
use Rattle.hyper_build.specs.inside.BackwardItems.{is_straight, is_if_item, items_before, straight_items_in}
use Rattle.hyper_build.specs.inside.BackwardItems.{straight_items}

-- IFS

-- where a break or a continue alone leads
abbrev pub exit_in : ℕ → ℕ → Step → Option ℕ
exit_in broke again Break = Some broke
exit_in broke again Continue = Some again
exit_in broke again _ = None

-- where a leg that has no block of its own leads
abbrev pub exit_of : ℕ → ℕ → ℕ → Code → Option ℕ
exit_of join broke again Nop = Some join
exit_of join broke again (s ▹ Nop) = exit_in broke again s
exit_of join broke again (s ▹ t ▹ more) = None

-- whether code leads to label 1 at once
abbrev pub is_one : Option ℕ → Bool
is_one None = false
is_one (Some to) = nat_eq to 1

-- a break alone: it leads to 1 where only a break does
abbrev pub is_break_code : Code → Bool
is_break_code c = is_one (exit_of 0 1 0 c)

-- an if that is joined or not, whose second leg is a break alone
abbrev pub is_test_step : Bool → Step → Bool
is_test_step joined (If x one other) = joined && is_break_code other
is_test_step joined _ = false

-- a leg that has blocks begins with one
abbrev pub leg_out : Option ℕ → Emission → Emission
leg_out None s = put_out s
leg_out (Some to) s = s

-- a test that leads to one label or to the other
abbrev pub test_block : Arg → ℕ → ℕ → Block
test_block x one other = record {
  items = Done;
  tail = Test (source x) (Leave (exit.Jump one)) (Leave (exit.Jump other));
}

-- a statement that is items alone, which has so many statements, behind which the plan may cut
abbrev pub items_out : Plan → ℕ → ℕ → Step → Emission → Emission
items_out plan arrays n x s =
    with_rest (items_before (straight_items_in arrays x) (before_by plan n s).rest) (before_by plan n s)

-- LOOPS

-- whether a loop's last part has no block of its own, by whether the body's block ends before it
abbrev pub is_bare_code : Bool → Code → Code → Bool
is_bare_code c body post = is_empty post || (not c && (are_operations post && not (continues body)))

-- what the body goes on with
abbrev pub end_of_body : Bool → ℕ → Code → ℕ → ℕ → Block
end_of_body c arrays post l head =
    cond (c || not (is_straight post)) (jump l)
    (record { items = straight_items arrays post Done; tail = Leave (exit.Jump head) })

-- ALL STATEMENTS

-- Before a statement, or before code, where a break and a continue lead to labels. `on` says whether the
-- code behind the statement goes on.
abbrev mutual
  -- before one statement: its blocks are put out, and the rest does it first
  pub emit_in : Ground → ℕ → ℕ → Bool → Step → Emission → Emission
  emit_in g broke again on (Let to op a b) s = let_out (plan g) to op a b s
  emit_in g broke again on (Frame to at) s = frame_out (plan g) g.arrays to at s
  emit_in g broke again on (Load to op a) s = load_out (plan g) to op a s
  emit_in g broke again on (Save op a v) s = save_out (plan g) op a v s
  emit_in g broke again on (Call f args to kept) s =
      call_out (plan g) g.frame (entry_at g.entries f) args (back_out (plan g) g.frame to s)
  emit_in g broke again on (Put v) s = byte_out v s
  emit_in g broke again on (Get to) s = byte_in (plan g) to s
  emit_in g broke again on (If x one other) s =
      let n = steps_in (If x one other) in
      let join = (put_out s).label in
      let e2 = exit_of join broke again other in
      let e1 = exit_of join broke again one in
      let second = leg_out e2 (emit g broke again other (put_out s)) in
      let first = leg_out e1 (emit g broke again one (with_rest (jump join) second)) in
      cond (is_if_item ((plan g).joined (s.place - n)) one other)
      (items_out (plan g) g.arrays n (If x one other) s)
      (leaving (test_block x (label_or first.label e1) (label_or second.label e2)) first)
  emit_in g broke again on (Loop body post) s =
      let behind = put_out s in
      let note = last_note behind.notes in
      let ends = (plan g).cut note.place in
      let start = with_rest (jump note.head) (without_note behind) in
      let next = put_out (emit g behind.label note.next post start) in
      cond (is_bare_code ends body post)
      (fall (put_out (emit_turn g behind.label note.head body
      (with_rest (end_of_body ends g.arrays post note.head note.head) (fall_by (steps_of post) start)))))
      (fall (put_out (emit_turn g behind.label next.label body
      (with_rest (end_of_body ends g.arrays post next.label note.head) next))))
  emit_in g broke again on Break s = leaving (jump broke) (cut_at on s)
  emit_in g broke again on Continue s = leaving (jump again) (cut_at on s)
  emit_in g broke again on (Return v) s = leaving (give v (left g.frame)) (cut_at on s)
  emit_in g broke again on (Halt v) s = leaving (give (Some v) (jump end_label)) (cut_at on s)

  -- before code, its last statement first
  pub emit : Ground → ℕ → ℕ → Code → Emission → Emission
  emit g broke again Nop s = s
  emit g broke again (s ▹ rest) x = emit_in g broke again (goes_on rest) s (emit g broke again rest x)

  -- before a loop's test: its leg goes on in the block before, and so does the jump that leaves the loop
  pub test_out : Ground → ℕ → ℕ → Step → Emission → Emission
  test_out g broke again (If x one other) s =
      let n = steps_in (If x one other) in
      let leg = emit g broke again one (fall (cut_at ((plan g).cut (s.place - n)) s)) in
      leaving (merged test_register (source x) leg.rest (jump broke)) leg
  test_out g broke again _ s = s

  -- Before a loop's body.
  pub emit_turn : Ground → ℕ → ℕ → Code → Emission → Emission
  emit_turn g broke again Nop s = s
  emit_turn g broke again (st ▹ rest) s =
      let e = emit_turn g broke again rest s in
      cond (is_empty rest && is_test_step ((plan g).joined (e.place - steps_in st)) st)
      (test_out g broke again st e) (emit_in g broke again (goes_on rest) st e)

-- before a statement of a loop's body; `last` says whether it is the last one
abbrev pub part_out : Ground → ℕ → ℕ → Bool → Bool → Step → Emission → Emission
part_out g broke again last on st s =
    cond (last && is_test_step ((plan g).joined (s.place - steps_in st)) st)
    (test_out g broke again st s) (emit_in g broke again on st s)
