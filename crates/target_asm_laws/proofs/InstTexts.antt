-- What is read as the line of an instruction is the text of one.
use Rattle.std.proofs.Common.{◌≡◌, ℕ, List, ◌∷◌, ◌++◌, take, drop, refl, ap}
use Rattle.std.proofs.Common.{◌∙◌, Option, Some, None, true}
use Rattle.std.specs.Prelude.{ℤ, pos, codes}
use Rattle.trips_isa.specs.declared.op.Op.{Op}
use Rattle.trips_isa.specs.declared.op.Op.TheVariants.{Bro, Callo}
use Rattle.trips_isa.specs.declared.form.Form.{Form}
use Rattle.trips_isa.specs.declared.form.Form.TheVariants.{General, Immediate, Load, Store, Branch}
use Rattle.trips_isa.specs.declared.form.Form.TheVariants.{Constant}
use Rattle.trips_isa.specs.declared.block.Sense.{Sense}
use Rattle.trips_isa.specs.declared.block.Sense.TheVariants.{Always, OnTrue, OnFalse}
use Rattle.trips_isa.specs.Forms.{form_of}
use Rattle.isa_table.specs.Mnemonics.{mnemonic_of}
use Rattle.isa_table.specs.inside.Mnemonics.{op_with_mnemonic}
use Rattle.target_asm_spec.specs.Fields.{sense_text}
use Rattle.target_asm_spec.specs.declared.spelled.Goal.{Goal}
use Rattle.target_asm_spec.specs.declared.spelled.Goal.TheVariants.{Label, Offset}
use Rattle.target_asm_spec.specs.declared.spelled.Numbers.{Numbers}
use Rattle.target_asm_spec.specs.declared.spelled.Targets.{Targets}
use Rattle.target_asm_spec.specs.declared.spelled.SpelledTarget.{SpelledTarget}
use Rattle.target_asm_spec.specs.declared.spelled.SpelledInst.{SpelledInst}
use Rattle.target_asm_spec.specs.inside.Reading.{after_in, number_in, spaced_in, index_in}
use Rattle.target_asm_spec.specs.inside.Places.{next_in}
use Rattle.target_asm_spec.specs.inside.Instructions.{letters_in, sense_in, sense_fits, jumps, goal_by, goal_in}
use Rattle.target_asm_spec.specs.inside.Instructions.{jump_in, numbers_are, immediate_in, exit_in, numbers_in}
use Rattle.target_asm_spec.specs.inside.Instructions.{number_and_immediate_in, two_targets_in, one_target_in}
use Rattle.target_asm_spec.specs.inside.Instructions.{targets_in, fields_in, sensed_in, operation_in, inst_in}
use Rattle.target_asm_spec.specs.Lines.{number_text, maybe_words, goal_words, numbers_words, inst_words}
use Rattle.target_asm_spec.specs.Lines.{MayHaveSense, MayHaveGoal, MayHaveTargets, IsInstruction}
use Rattle.target_asm_laws.proofs.Binds.{If, bind, gives, when}
use Rattle.target_asm_laws.proofs.Digits.{IsAfter, after_is, parts}
use Rattle.target_asm_laws.proofs.Words.{IsMnemonic, mnemonic_is, sense_is}
use Rattle.target_asm_laws.proofs.Numerals.{capped_z}
use Rattle.target_asm_laws.proofs.Numerals.{IsNumberOf, number_of_text, IsSpacedOf, spaced_of}
use Rattle.target_asm_laws.proofs.Numerals.{IsIndexOf, index_of}
use Rattle.target_asm_laws.proofs.FaultTargets.{capped_maybe, IsNextOf, next_of}
use Rattle.target_asm_laws.proofs.Insts.{capped_goal, capped_numbers, capped_targets, capped_inst}

-- ---- what is read as an instruction's numbers and targets is the text of some

record IsGoalOf (text : List ℕ) (r : Option Goal × List ℕ) : Type 0 where
  g : Goal
  same : capped_goal (Some g) ≡ r.0
  is : text ≡ goal_words (Some g) r.1

goal_by_of : (text : List ℕ) (o : Option (List ℕ)) → If (IsAfter (codes " @") text) o
    → If (IsGoalOf text) (goal_by o text)
unfolding goal_words
goal_by_of text (Some rest) h =
    bind (IsNumberOf rest) (IsGoalOf text) (number_in rest) _ (number_of_text rest) (λ n p. record {
      g = Label p.z;
      same = ap (λ (x : ℤ). Some (Label x)) p.same;
      is = h ∙ ap (λ (t : List ℕ). codes " @" ++ t) p.is;
    })
goal_by_of text None h =
    bind (IsAfter (codes " !") text) (IsGoalOf text) (after_in (codes " !") text) _
    (after_is (codes " !") text) (λ rest a.
    bind (IsNumberOf rest) (IsGoalOf text) (number_in rest) _ (number_of_text rest) (λ n p. record {
      g = Offset p.z;
      same = ap (λ (x : ℤ). Some (Offset x)) p.same;
      is = a ∙ ap (λ (t : List ℕ). codes " !" ++ t) p.is;
    }))

goal_of_text : (text : List ℕ) → If (IsGoalOf text) (goal_in text)
unfolding goal_in
goal_of_text text = goal_by_of text (after_in (codes " @") text) (after_is (codes " @") text)

record IsJumpOf (op : Op) (text : List ℕ) (r : Option Goal × List ℕ) : Type 0 where
  g : Option Goal
  same : capped_goal g ≡ r.0
  is : text ≡ goal_words g r.1
  has : MayHaveGoal op g

no_jump : (op : Op) (text : List ℕ) → MayHaveGoal op None → IsJumpOf op text (None, text)
unfolding goal_words
no_jump op text h = record { g = None; same = refl; is = refl; has = h }

jump_of : (op : Op) (text : List ℕ) → If (IsJumpOf op text) (jump_in (jumps op) text)
unfolding jump_in
jump_of Bro text = gives (IsGoalOf text) (IsJumpOf Bro text) (goal_in text) (goal_of_text text)
    (λ r h. record { g = Some h.g; same = h.same; is = h.is; has = tt })
jump_of Callo text = gives (IsGoalOf text) (IsJumpOf Callo text) (goal_in text) (goal_of_text text)
    (λ r h. record { g = Some h.g; same = h.same; is = h.is; has = tt })
jump_of op text = no_jump op text refl

abbrev GoalOf : Form → Op → Option Goal → Type 0
GoalOf Branch op goal = MayHaveGoal op goal
GoalOf form op goal = goal ≡ None

record AreNumbersOf (f : Form) (op : Op) (text : List ℕ) (r : Numbers × List ℕ) : Type 0 where
  n : Numbers
  same : capped_numbers f n ≡ r.0
  is : text ≡ numbers_words f n r.1
  goal : GoalOf f op n.goal

record IsOneOf (text : List ℕ) (r : Numbers × List ℕ) : Type 0 where
  z : ℤ
  same : numbers_are (pos 0) (capped_z z) None ≡ r.0
  is : text ≡ 32 ∷ (number_text z ++ r.1)

one_of : (text : List ℕ) → If (IsOneOf text) (immediate_in text)
unfolding immediate_in
one_of text =
    bind (IsSpacedOf text) (IsOneOf text) (spaced_in text) _ (spaced_of text) (λ i h. record {
      z = h.z;
      same = ap (λ (x : ℤ). numbers_are (pos 0) x None) h.same;
      is = h.is;
    })

record AreTwoOf (text : List ℕ) (r : Numbers × List ℕ) : Type 0 where
  n : ℤ
  z : ℤ
  same : numbers_are (capped_z n) (capped_z z) None ≡ r.0
  is : text ≡ 32 ∷ (number_text n ++ 32 ∷ (number_text z ++ r.1))

two_of : (text : List ℕ) → If (AreTwoOf text) (number_and_immediate_in text)
unfolding number_and_immediate_in
two_of text =
    bind (IsSpacedOf text) (AreTwoOf text) (spaced_in text) _ (spaced_of text) (λ n h.
    bind (IsSpacedOf n.1) (AreTwoOf text) (spaced_in n.1) _ (spaced_of n.1) (λ i k. record {
      n = h.z;
      z = k.z;
      same = ap (λ (x : ℤ). numbers_are x (capped_z k.z) None) h.same
          ∙ ap (λ (x : ℤ). numbers_are n.0 x None) k.same;
      is = h.is ∙ ap (λ (x : List ℕ). 32 ∷ (number_text h.z ++ x)) k.is;
    }))

exit_of : (op : Op) (text : List ℕ) → If (AreNumbersOf Branch op text) (exit_in op text)
unfolding exit_in numbers_words
exit_of op text =
    let Q = AreNumbersOf Branch op text in
    bind (IsSpacedOf text) Q (spaced_in text) _ (spaced_of text) (λ n h.
    bind (IsJumpOf op n.1) Q (jump_in (jumps op) n.1) _ (jump_of op n.1) (λ g k. record {
      n = numbers_are h.z (pos 0) k.g;
      same = ap (λ (x : ℤ). numbers_are x (pos 0) (capped_goal k.g)) h.same
          ∙ ap (λ (x : Option Goal). numbers_are n.0 (pos 0) x) k.same;
      is = h.is ∙ ap (λ (x : List ℕ). 32 ∷ (number_text h.z ++ x)) k.is;
      goal = k.has;
    }))

numbers_of : (f : Form) (op : Op) (text : List ℕ) → If (AreNumbersOf f op text) (numbers_in f op text)
unfolding numbers_in numbers_words
numbers_of General op text =
    record { n = numbers_are (pos 0) (pos 0) None; same = refl; is = refl; goal = refl }
numbers_of Immediate op text =
    gives (IsOneOf text) (AreNumbersOf Immediate op text) (immediate_in text) (one_of text)
    (λ r h. record { n = numbers_are (pos 0) h.z None; same = h.same; is = h.is; goal = refl })
numbers_of Constant op text =
    gives (IsOneOf text) (AreNumbersOf Constant op text) (immediate_in text) (one_of text)
    (λ r h. record { n = numbers_are (pos 0) h.z None; same = h.same; is = h.is; goal = refl })
numbers_of Load op text =
    gives (AreTwoOf text) (AreNumbersOf Load op text) (number_and_immediate_in text) (two_of text)
    (λ r h. record { n = numbers_are h.n h.z None; same = h.same; is = h.is; goal = refl })
numbers_of Store op text =
    gives (AreTwoOf text) (AreNumbersOf Store op text) (number_and_immediate_in text) (two_of text)
    (λ r h. record { n = numbers_are h.n h.z None; same = h.same; is = h.is; goal = refl })
numbers_of Branch op text = exit_of op text

record AreTargetsOf (f : Form) (text : List ℕ) (r : Targets × List ℕ) : Type 0 where
  t : Targets
  same : capped_targets t ≡ r.0
  is : text ≡ maybe_words t.first (maybe_words t.second r.1)
  fit : MayHaveTargets f t

two_targets_of : (text : List ℕ) → If (AreTargetsOf General text) (two_targets_in text)
unfolding two_targets_in
two_targets_of text =
    let Q = AreTargetsOf General text in
    bind (IsNextOf text) Q (next_in text) _ (next_of text) (λ a h.
    bind (IsNextOf a.1) Q (next_in a.1) _ (next_of a.1) (λ b k. record {
      t = record { first = h.t; second = k.t };
      same = ap (λ (x : Option SpelledTarget). record { first = x; second = capped_maybe k.t }) h.same
          ∙ ap (λ (x : Option SpelledTarget). record { first = a.0; second = x }) k.same;
      is = h.is ∙ ap (maybe_words h.t) k.is;
      fit = λ n. k.none (h.ends n);
    }))

one_target_of : (f : Form) (text : List ℕ) → ((t : Targets) → t.second ≡ None → MayHaveTargets f t)
    → If (AreTargetsOf f text) (one_target_in text)
unfolding one_target_in maybe_words
one_target_of f text p =
    bind (IsNextOf text) (AreTargetsOf f text) (next_in text) _ (next_of text) (λ a h. record {
      t = record { first = h.t; second = None };
      same = ap (λ (x : Option SpelledTarget). record { first = x; second = None }) h.same;
      is = h.is;
      fit = p (record { first = h.t; second = None }) refl;
    })

no_targets_of : (f : Form) (text : List ℕ) → MayHaveTargets f (record { first = None; second = None })
    → AreTargetsOf f text (record { first = None; second = None }, text)
unfolding maybe_words
no_targets_of f text p =
    record { t = record { first = None; second = None }; same = refl; is = refl; fit = p }

targets_of : (f : Form) (text : List ℕ) → If (AreTargetsOf f text) (targets_in f text)
unfolding targets_in
targets_of General text = two_targets_of text
targets_of Immediate text = one_target_of Immediate text (λ t e. e)
targets_of Constant text = one_target_of Constant text (λ t e. e)
targets_of Load text = one_target_of Load text (λ t e. e)
targets_of Store text = no_targets_of Store text (refl, refl)
targets_of Branch text = no_targets_of Branch text (refl, refl)

-- ---- what is read as the line of an instruction is the text of one

-- a text that is read as the line of an instruction is the words of one
pub record IsInstOf (text : List ℕ) (r : SpelledInst × List ℕ) : Type 0 where
  pub s : SpelledInst
  pub same : capped_inst s ≡ r.0
  pub is : text ≡ inst_words s r.1
  pub fits : IsInstruction s

goal_fits : (op : Op) (g : Option Goal) → GoalOf (form_of op) op g → MayHaveGoal op g
goal_fits Bro g h = h
goal_fits Callo g h = h
goal_fits op g h = h

good_sense : (f : Form) (s : Sense) → sense_fits f s ≡ true → MayHaveSense f s
good_sense General s e = tt
good_sense Immediate s e = tt
good_sense Load s e = tt
good_sense Store s e = tt
good_sense Branch s e = tt
good_sense Constant Always e = refl
good_sense Constant OnTrue e = absurd cc
good_sense Constant OnFalse e = absurd cc

-- a line up to the operation and its predicate
abbrev op_words : ℤ → Op → Sense → List ℕ → List ℕ
op_words slot op sense rest =
    codes "N[" ++ (number_text slot ++ 93 ∷ 32 ∷ (mnemonic_of op ++ (sense_text sense ++ rest)))

fields_of : (text inner : List ℕ) (z slot : ℤ) (op : Op) (sense : Sense)
    → sense_fits (form_of op) sense ≡ true → capped_z z ≡ slot → text ≡ op_words z op sense inner
    → If (IsInstOf text) (fields_in slot op sense inner)
unfolding fields_in inst_words
fields_of text inner z slot op sense s c h =
    let f : Form = form_of op in
    let Q = IsInstOf text in
    bind (AreNumbersOf f op inner) Q (numbers_in f op inner) _ (numbers_of f op inner) (λ n a.
    bind (AreTargetsOf f n.1) Q (targets_in f n.1) _ (targets_of f n.1) (λ t b.
    bind (IsAfter (codes "\n") t.1) Q (after_in (codes "\n") t.1) _ (after_is (codes "\n") t.1)
    (λ rest e. record {
      s = record { slot = z; op = op; sense = sense; numbers = a.n; targets = b.t };
      same =
          ap (λ (x : ℤ). record {
            slot = x;
            op = op;
            sense = sense;
            numbers = capped_numbers f a.n;
            targets = capped_targets b.t;
          }) c
          ∙ ap (λ (x : Numbers). record {
            slot = slot;
            op = op;
            sense = sense;
            numbers = x;
            targets = capped_targets b.t;
          }) a.same
          ∙ ap (λ (x : Targets). record {
            slot = slot;
            op = op;
            sense = sense;
            numbers = n.0;
            targets = x;
          }) b.same;
      is = h ∙ ap (op_words z op sense) (a.is ∙ ap (numbers_words f a.n) (b.is
          ∙ ap (λ (x : List ℕ). maybe_words b.t.first (maybe_words b.t.second x)) e));
      fits = record {
        sense = good_sense f sense s;
        goal = goal_fits op a.n.goal a.goal;
        targets = b.fit;
      };
    })))

sensed_of : (text inner : List ℕ) (z slot : ℤ) (op : Op) → capped_z z ≡ slot
    → text ≡ codes "N[" ++ (number_text z ++ 93 ∷ 32 ∷ (mnemonic_of op ++ inner))
    → If (IsInstOf text) (sensed_in slot op (sense_in inner))
sensed_of text inner z slot op c h =
    let s = sense_in inner in
    when (IsInstOf text) (sense_fits (form_of op) s.0) (fields_in slot op s.0 s.1) (λ e.
    fields_of text s.1 z slot op s.0 e c (h
    ∙ ap (λ (x : List ℕ). codes "N[" ++ (number_text z ++ 93 ∷ 32 ∷ (mnemonic_of op ++ x)))
    (sense_is inner)))

operation_of : (text inner : List ℕ) (z slot : ℤ) → capped_z z ≡ slot
    → text ≡ codes "N[" ++ (number_text z ++ 93 ∷ 32 ∷ inner)
    → If (IsInstOf text) (operation_in slot inner)
unfolding operation_in
operation_of text inner z slot c h =
    let n : ℕ = letters_in inner in
    bind (IsMnemonic (take n inner)) (IsInstOf text) (op_with_mnemonic (take n inner)) _
    (mnemonic_is (take n inner)) (λ op e.
    sensed_of text (drop n inner) z slot op c (h
    ∙ ap (λ (x : List ℕ). codes "N[" ++ (number_text z ++ 93 ∷ 32 ∷ x))
    (parts n inner ∙ ap (λ (x : List ℕ). x ++ drop n inner) e)))

-- what is read as the line of an instruction is its text
pub inst_of_text : (text : List ℕ) → If (IsInstOf text) (inst_in text)
unfolding inst_in
inst_of_text text =
    bind (IsIndexOf (codes "N[") text) (IsInstOf text) (index_in (codes "N[") text) _
    (index_of (codes "N[") text) (λ s a.
    bind (IsAfter (codes " ") s.1) (IsInstOf text) (after_in (codes " ") s.1) _
    (after_is (codes " ") s.1) (λ r b.
    operation_of text r a.z s.0 a.same (a.is
    ∙ ap (λ (x : List ℕ). codes "N[" ++ (number_text a.z ++ 93 ∷ x)) b)))
