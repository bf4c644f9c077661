-- The line of an instruction is read from its text.
use Rattle.std.proofs.Common.{◌≡◌, ℕ, List, ◌∷◌, ◌++◌, refl, ap}
use Rattle.std.proofs.Common.{Option, Some, None, true}
use Rattle.std.specs.Prelude.{ℤ, pos, codes}
use Rattle.trips_isa.specs.declared.op.Op.{Op}
use Rattle.trips_isa.specs.declared.op.Op.TheVariants.{Bro, Callo}
use Rattle.trips_isa.specs.declared.form.Form.{Form}
use Rattle.trips_isa.specs.declared.form.Form.TheVariants.{General, Immediate, Load, Store, Branch}
use Rattle.trips_isa.specs.declared.form.Form.TheVariants.{Constant}
use Rattle.trips_isa.specs.declared.block.Sense.{Sense}
use Rattle.trips_isa.specs.Forms.{form_of}
use Rattle.isa_table.specs.Mnemonics.{mnemonic_of}
use Rattle.target_asm_spec.specs.Fields.{sense_text}
use Rattle.target_asm_spec.specs.declared.spelled.Goal.{Goal}
use Rattle.target_asm_spec.specs.declared.spelled.Goal.TheVariants.{Label, Offset}
use Rattle.target_asm_spec.specs.declared.spelled.Numbers.{Numbers}
use Rattle.target_asm_spec.specs.declared.spelled.Targets.{Targets}
use Rattle.target_asm_spec.specs.declared.spelled.SpelledTarget.{SpelledTarget}
use Rattle.target_asm_spec.specs.declared.spelled.SpelledInst.{SpelledInst}
use Rattle.target_asm_spec.specs.inside.Reading.{after_in, digits_in, spaced_in, index_in}
use Rattle.target_asm_spec.specs.inside.Places.{next_in}
use Rattle.target_asm_spec.specs.inside.Instructions.{sense_in, sense_fits, jumps, goal_in}
use Rattle.target_asm_spec.specs.inside.Instructions.{jump_in, numbers_are, immediate_in, exit_in, numbers_in}
use Rattle.target_asm_spec.specs.inside.Instructions.{number_and_immediate_in, two_targets_in, one_target_in}
use Rattle.target_asm_spec.specs.inside.Instructions.{targets_in, fields_in, operation_in, inst_in}
use Rattle.target_asm_spec.specs.Lines.{number_text, maybe_words, goal_words, numbers_words, inst_words}
use Rattle.target_asm_spec.specs.Lines.{MayHaveSense, MayHaveGoal, MayHaveTargets, IsInstruction}
use Rattle.target_asm_spec.specs.Lines.{target_words}
use Rattle.target_asm_spec.proofs.Numbers.{after_front, no_digit}
use Rattle.target_asm_spec.proofs.Targets.{feed_ends, none_again}
use Rattle.target_asm_spec.proofs.Words.{FollowsWord, space_follows, feed_follows, sense_again}
use Rattle.target_asm_spec.proofs.Words.{word_again}
use Rattle.target_asm_laws.proofs.Numerals.{capped_z, number_read, spaced_read, index_read}
use Rattle.target_asm_laws.proofs.FaultTargets.{capped_maybe, some_read, next_read}

-- ---- an instruction as it is read

-- a goal with its number capped, if there is one
abbrev pub capped_goal : Option Goal → Option Goal
capped_goal None = None
capped_goal (Some (Label k)) = Some (Label (capped_z k))
capped_goal (Some (Offset n)) = Some (Offset (capped_z n))

-- a number that its form does not have is read as 0
abbrev pub capped_numbers : Form → Numbers → Numbers
capped_numbers General n = numbers_are (pos 0) (pos 0) None
capped_numbers Immediate n = numbers_are (pos 0) (capped_z n.imm) None
capped_numbers Constant n = numbers_are (pos 0) (capped_z n.imm) None
capped_numbers Load n = numbers_are (capped_z n.number) (capped_z n.imm) None
capped_numbers Store n = numbers_are (capped_z n.number) (capped_z n.imm) None
capped_numbers Branch n = numbers_are (capped_z n.number) (pos 0) (capped_goal n.goal)

-- targets whose numbers are kept up to what lies past every field
abbrev pub capped_targets : Targets → Targets
capped_targets t = record { first = capped_maybe t.first; second = capped_maybe t.second }

-- an instruction with all its numbers capped
abbrev pub capped_inst : SpelledInst → SpelledInst
capped_inst s = record {
  slot = capped_z s.slot;
  op = s.op;
  sense = s.sense;
  numbers = capped_numbers (form_of s.op) s.numbers;
  targets = capped_targets s.targets;
}

-- ---- the numbers are read

no_label : (t : List ℕ) → after_in (codes " @") (codes " !" ++ t) ≡ None
unfolding after_in
no_label t = refl

goal_read : (g : Goal) (rest : List ℕ) → digits_in rest ≡ 0
    → goal_in (goal_words (Some g) rest) ≡ Some (capped_goal (Some g), rest)
unfolding goal_in goal_words
goal_read (Label k) rest z =
    let t : List ℕ = number_text k ++ rest in
    let a : after_in (codes " @") (codes " @" ++ t) ≡ Some t = after_front (codes " @") t in
    rw (a, number_read k rest z) refl
goal_read (Offset n) rest z =
    let t : List ℕ = number_text n ++ rest in
    let a : after_in (codes " @") (codes " !" ++ t) ≡ None = no_label t in
    let b : after_in (codes " !") (codes " !" ++ t) ≡ Some t = after_front (codes " !") t in
    rw (a, b, number_read n rest z) refl

no_goal : (goal : Option Goal) (rest : List ℕ) → goal ≡ None
    → ◌≡◌ {A = Option (Option Goal × List ℕ)} (Some (None, goal_words goal rest))
    (Some (capped_goal goal, rest))
unfolding goal_words
no_goal None rest e = refl
no_goal (Some g) rest e = absurd cc

jump_read : (op : Op) (goal : Option Goal) (rest : List ℕ) → MayHaveGoal op goal
    → digits_in rest ≡ 0
    → jump_in (jumps op) (goal_words goal rest) ≡ Some (capped_goal goal, rest)
unfolding jump_in
jump_read Bro None rest h z = absurd h
jump_read Bro (Some g) rest h z = goal_read g rest z
jump_read Callo None rest h z = absurd h
jump_read Callo (Some g) rest h z = goal_read g rest z
jump_read op goal rest h z = no_goal goal rest h

goal_stops : (goal : Option Goal) (rest : List ℕ) → digits_in rest ≡ 0
    → digits_in (goal_words goal rest) ≡ 0
unfolding goal_words
goal_stops None rest z = z
goal_stops (Some (Label k)) rest z = no_digit 32 _ refl
goal_stops (Some (Offset n)) rest z = no_digit 32 _ refl

one_read : (imm : ℤ) (rest : List ℕ) → digits_in rest ≡ 0
    → immediate_in (32 ∷ (number_text imm ++ rest)) ≡ Some (numbers_are (pos 0) (capped_z imm) None, rest)
unfolding immediate_in
one_read imm rest z = rw (spaced_read imm rest z) refl

two_read : (n imm : ℤ) (rest : List ℕ) → digits_in rest ≡ 0
    → number_and_immediate_in (32 ∷ (number_text n ++ 32 ∷ (number_text imm ++ rest)))
    ≡ Some (numbers_are (capped_z n) (capped_z imm) None, rest)
unfolding number_and_immediate_in
two_read n imm rest z =
    let t : List ℕ = 32 ∷ (number_text imm ++ rest) in
    let a : spaced_in (32 ∷ (number_text n ++ t)) ≡ Some (capped_z n, t) =
    spaced_read n t (no_digit 32 _ refl) in
    let b : spaced_in t ≡ Some (capped_z imm, rest) = spaced_read imm rest z in
    rw (a, b) refl

exit_read : (op : Op) (n : ℤ) (goal : Option Goal) (rest : List ℕ) → MayHaveGoal op goal
    → digits_in rest ≡ 0
    → exit_in op (32 ∷ (number_text n ++ goal_words goal rest))
    ≡ Some (numbers_are (capped_z n) (pos 0) (capped_goal goal), rest)
unfolding exit_in
exit_read op n goal rest h z =
    let t : List ℕ = goal_words goal rest in
    let a : spaced_in (32 ∷ (number_text n ++ t)) ≡ Some (capped_z n, t) =
    spaced_read n t (goal_stops goal rest z) in
    let b = jump_read op goal rest h z in
    rw (a, b) refl

numbers_read : (f : Form) (op : Op) (n : Numbers) (rest : List ℕ) → MayHaveGoal op n.goal
    → digits_in rest ≡ 0
    → numbers_in f op (numbers_words f n rest) ≡ Some (capped_numbers f n, rest)
unfolding numbers_in numbers_words
numbers_read General op n rest h z = refl
numbers_read Immediate op n rest h z = one_read n.imm rest z
numbers_read Constant op n rest h z = one_read n.imm rest z
numbers_read Load op n rest h z = two_read n.number n.imm rest z
numbers_read Store op n rest h z = two_read n.number n.imm rest z
numbers_read Branch op n rest h z = exit_read op n.number n.goal rest h z

-- ---- the targets are read

-- the targets and the end of the line
abbrev pub line_end : Option SpelledTarget → Option SpelledTarget → List ℕ → List ℕ
line_end first second rest = maybe_words first (maybe_words second (10 ∷ rest))

end_stops : (first second : Option SpelledTarget) (rest : List ℕ)
    → digits_in (line_end first second rest) ≡ 0
unfolding maybe_words
end_stops (Some t) second rest = no_digit 32 _ refl
end_stops None (Some t) rest = no_digit 32 _ refl
end_stops None None rest = no_digit 10 _ refl

end_follows : (first second : Option SpelledTarget) (rest : List ℕ)
    → FollowsWord (line_end first second rest)
unfolding maybe_words
end_follows (Some t) second rest = space_follows _
end_follows None (Some t) rest = space_follows _
end_follows None None rest = feed_follows rest

numbers_follow : (f : Form) (n : Numbers) (t : List ℕ) → FollowsWord t
    → FollowsWord (numbers_words f n t)
unfolding numbers_words
numbers_follow General n t h = h
numbers_follow Immediate n t h = space_follows _
numbers_follow Constant n t h = space_follows _
numbers_follow Load n t h = space_follows _
numbers_follow Store n t h = space_follows _
numbers_follow Branch n t h = space_follows _

neither : (rest : List ℕ) → two_targets_in (10 ∷ rest)
    ≡ Some (record { first = None; second = None }, 10 ∷ rest)
unfolding two_targets_in
neither rest = let n = none_again (10 ∷ rest) (feed_ends rest) in rw (n, n) refl

no_second : (rest : List ℕ) (second : Option SpelledTarget) → second ≡ None
    → two_targets_in (maybe_words second (10 ∷ rest))
    ≡ Some (record { first = None; second = capped_maybe second }, 10 ∷ rest)
unfolding maybe_words
no_second rest None e = neither rest
no_second rest (Some t) e = absurd cc

some_second : (t : SpelledTarget) (second : Option SpelledTarget) (rest : List ℕ)
    → two_targets_in (32 ∷ target_words t (maybe_words second (10 ∷ rest)))
    ≡ Some (record { first = capped_maybe (Some t); second = capped_maybe second }, 10 ∷ rest)
unfolding two_targets_in
some_second t second rest =
    let a = some_read t (maybe_words second (10 ∷ rest)) in
    let b = next_read second (10 ∷ rest) (feed_ends rest) in
    rw (a, b) refl

two_targets : (first second : Option SpelledTarget) (rest : List ℕ)
    → (first ≡ None → second ≡ None)
    → two_targets_in (line_end first second rest)
    ≡ Some (record { first = capped_maybe first; second = capped_maybe second }, 10 ∷ rest)
unfolding maybe_words
two_targets None second rest o = no_second rest second (o refl)
two_targets (Some t) second rest o = some_second t second rest

only_first : (first : Option SpelledTarget) (rest : List ℕ)
    → one_target_in (line_end first None rest)
    ≡ Some (record { first = capped_maybe first; second = None }, 10 ∷ rest)
unfolding one_target_in maybe_words
only_first first rest =
    let a : next_in (maybe_words first (10 ∷ rest)) ≡ Some (capped_maybe first, 10 ∷ rest) =
    next_read first (10 ∷ rest) (feed_ends rest) in
    rw a refl

one_target : (first second : Option SpelledTarget) (rest : List ℕ) → second ≡ None
    → one_target_in (line_end first second rest)
    ≡ Some (record { first = capped_maybe first; second = capped_maybe second }, 10 ∷ rest)
unfolding one_target_in
one_target first (Some t) rest e = absurd cc
one_target first None rest e = only_first first rest

no_target : (first second : Option SpelledTarget) (rest : List ℕ) → first ≡ None → second ≡ None
    → ◌≡◌ {A = Option (Targets × List ℕ)} (Some (
      record { first = None; second = None },
      line_end first second rest,
    ))
    (Some (record { first = capped_maybe first; second = capped_maybe second }, 10 ∷ rest))
unfolding maybe_words
no_target None None rest e g = refl
no_target (Some t) second rest e g = absurd cc
no_target None (Some t) rest e g = absurd cc

targets_read : (f : Form) (t : Targets) (rest : List ℕ) → MayHaveTargets f t
    → targets_in f (line_end t.first t.second rest) ≡ Some (capped_targets t, 10 ∷ rest)
unfolding targets_in
targets_read General t rest h = two_targets t.first t.second rest h
targets_read Immediate t rest h = one_target t.first t.second rest h
targets_read Constant t rest h = one_target t.first t.second rest h
targets_read Load t rest h = one_target t.first t.second rest h
targets_read Store t rest h = no_target t.first t.second rest h.0 h.1
targets_read Branch t rest h = no_target t.first t.second rest h.0 h.1

-- ---- the line is read

sense_good : (f : Form) (s : Sense) → MayHaveSense f s → sense_fits f s ≡ true
sense_good General s h = refl
sense_good Immediate s h = refl
sense_good Load s h = refl
sense_good Store s h = refl
sense_good Branch s h = refl
sense_good Constant s h = ap (sense_fits Constant) h

abbrev after_op : SpelledInst → List ℕ → List ℕ
after_op s rest = numbers_words (form_of s.op) s.numbers (line_end s.targets.first s.targets.second rest)

fields_read : (s : SpelledInst) (rest : List ℕ) → IsInstruction s
    → fields_in (capped_z s.slot) s.op s.sense (after_op s rest) ≡ Some (capped_inst s, rest)
unfolding fields_in
fields_read s rest h =
    let a = numbers_read (form_of s.op) s.op s.numbers (line_end s.targets.first s.targets.second rest)
    h.goal (end_stops s.targets.first s.targets.second rest) in
    let b = targets_read (form_of s.op) s.targets rest h.targets in
    let c : after_in (codes "\n") (10 ∷ rest) ≡ Some rest = after_front (codes "\n") rest in
    rw (a, b, c) refl

operation_read : (s : SpelledInst) (rest : List ℕ) → IsInstruction s
    → operation_in (capped_z s.slot) (mnemonic_of s.op ++ (sense_text s.sense ++ after_op s rest))
    ≡ Some (capped_inst s, rest)
unfolding operation_in
operation_read s rest h =
    let t : List ℕ = after_op s rest in
    let n : FollowsWord t = numbers_follow (form_of s.op) s.numbers
    (line_end s.targets.first s.targets.second rest)
    (end_follows s.targets.first s.targets.second rest) in
    let w = word_again s.op s.sense t n in
    let a : sense_in (sense_text s.sense ++ t) ≡ (s.sense, t) = sense_again s.sense t n in
    let b = sense_good (form_of s.op) s.sense h.sense in
    rw (w.found, w.left, a, b) (fields_read s rest h)

-- the words of an instruction are read as this instruction, its numbers so kept
pub inst_read : (s : SpelledInst) (rest : List ℕ) → IsInstruction s
    → inst_in (inst_words s rest) ≡ Some (capped_inst s, rest)
unfolding inst_in inst_words
inst_read s rest h =
    let t : List ℕ = mnemonic_of s.op ++ (sense_text s.sense ++ after_op s rest) in
    let a : index_in (codes "N[") (codes "N[" ++ (number_text s.slot ++ 93 ∷ (codes " " ++ t)))
    ≡ Some (capped_z s.slot, codes " " ++ t) =
    index_read (codes "N[") s.slot (codes " " ++ t) in
    let b : after_in (codes " ") (codes " " ++ t) ≡ Some t = after_front (codes " ") t in
    rw (a, b) (operation_read s rest h)
