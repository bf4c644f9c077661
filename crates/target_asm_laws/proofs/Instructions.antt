-- A line that is read as that of an instruction is its text.
use Rattle.std.proofs.Common.{◌≡◌, ℕ, List, ◌∷◌, ◌++◌, ap, ◌∙◌, take, drop}
use Rattle.std.proofs.Common.{true}
use Rattle.std.specs.Prelude.{ℤ, codes}
use Rattle.std.specs.Fmt.{signed_decimal}
use Rattle.trips_isa.specs.declared.op.Op.{Op}
use Rattle.trips_isa.specs.declared.block.Sense.{Sense}
use Rattle.trips_isa.specs.Forms.{form_of}
use Rattle.isa_table.specs.Mnemonics.{mnemonic_of}
use Rattle.isa_table.specs.inside.Mnemonics.{op_with_mnemonic}
use Rattle.target_asm_spec.specs.Fields.{sense_text}
use Rattle.target_asm_spec.specs.declared.spelled.SpelledInst.{SpelledInst}
use Rattle.target_asm_spec.specs.inside.Reading.{after_in, index_in}
use Rattle.target_asm_spec.specs.inside.Instructions.{letters_in, sense_in, sense_fits, numbers_in, targets_in}
use Rattle.target_asm_spec.specs.inside.Instructions.{fields_in, sensed_in, operation_in, inst_in}
use Rattle.target_asm_spec.proofs.Numbers.{IsSmall}
use Rattle.target_asm_laws.proofs.Binds.{If, bind, when}
use Rattle.target_asm_laws.proofs.Digits.{IsAfter, after_is, IsIndex, index_is, parts}
use Rattle.target_asm_laws.proofs.Targets.{maybe_decimals, SmallMaybe}
use Rattle.target_asm_laws.proofs.Words.{IsMnemonic, mnemonic_is, sense_is}
use Rattle.target_asm_laws.proofs.Operations.{number_words, SmallNumbers, GoalFits, AreNumbers}
use Rattle.target_asm_laws.proofs.Operations.{numbers_is, TargetsFit, AreTargets, targets_is}

-- a line up to the operation and its predicate
abbrev pub op_words : ℤ → Op → Sense → List ℕ → List ℕ
op_words slot op sense rest =
    codes "N[" ++ (signed_decimal slot ++ 93 ∷ 32 ∷ (mnemonic_of op ++ (sense_text sense ++ rest)))

abbrev pub inst_decimals : SpelledInst → List ℕ → List ℕ
inst_decimals s rest = op_words s.slot s.op s.sense (number_words (form_of s.op) s.numbers
    ++ (maybe_decimals s.targets.first ++ (maybe_decimals s.targets.second ++ 10 ∷ rest)))

-- the line of an instruction: its text, if its numbers are small, and what fits its form
pub record IsInstLine (text : List ℕ) (r : SpelledInst × List ℕ) : Type 0 where
  pub spells : IsSmall r.0.slot → SmallNumbers (form_of r.0.op) r.0.numbers
      → SmallMaybe r.0.targets.first → SmallMaybe r.0.targets.second → text ≡ inst_decimals r.0 r.1
  pub sense : sense_fits (form_of r.0.op) r.0.sense ≡ true
  pub goal : GoalFits (form_of r.0.op) r.0.op r.0.numbers.goal
  pub targets : TargetsFit (form_of r.0.op) r.0.targets

fields_is : (text inner : List ℕ) (slot : ℤ) (op : Op) (sense : Sense)
    → sense_fits (form_of op) sense ≡ true
    → (IsSmall slot → text ≡ op_words slot op sense inner)
    → If (IsInstLine text) (fields_in slot op sense inner)
unfolding fields_in
fields_is text inner slot op sense s h =
    let f = form_of op in
    bind (AreNumbers f op inner) (IsInstLine text) (numbers_in f op inner) _
    (numbers_is f op inner) (λ n a.
    bind (AreTargets f n.1) (IsInstLine text) (targets_in f n.1) _ (targets_is f n.1) (λ t b.
    bind (IsAfter (codes "\n") t.1) (IsInstLine text) (after_in (codes "\n") t.1) _
    (after_is (codes "\n") t.1) (λ rest c. record {
      spells = λ k l p q. h k ∙ ap (op_words slot op sense) (a.spells l
          ∙ ap (λ (x : List ℕ). number_words f n.0 ++ x) (b.spells p q
          ∙ ap (λ (x : List ℕ). maybe_decimals t.0.first ++ (maybe_decimals t.0.second ++ x)) c));
      sense = s;
      goal = a.goal;
      targets = b.fit;
    })))

sensed_is : (text inner : List ℕ) (slot : ℤ) (op : Op)
    → (IsSmall slot
    → text ≡ codes "N[" ++ (signed_decimal slot ++ 93 ∷ 32 ∷ (mnemonic_of op ++ inner)))
    → If (IsInstLine text) (sensed_in slot op (sense_in inner))
sensed_is text inner slot op h =
    let s = sense_in inner in
    when (IsInstLine text) (sense_fits (form_of op) s.0) (fields_in slot op s.0 s.1) (λ e.
    fields_is text s.1 slot op s.0 e (λ k. h k
    ∙ ap (λ (x : List ℕ). codes "N[" ++ (signed_decimal slot ++ 93 ∷ 32 ∷ (mnemonic_of op ++ x)))
    (sense_is inner)))

operation_is : (text inner : List ℕ) (slot : ℤ)
    → (IsSmall slot → text ≡ codes "N[" ++ (signed_decimal slot ++ 93 ∷ 32 ∷ inner))
    → If (IsInstLine text) (operation_in slot inner)
unfolding operation_in
operation_is text inner slot h =
    let n : ℕ = letters_in inner in
    bind (IsMnemonic (take n inner)) (IsInstLine text) (op_with_mnemonic (take n inner)) _
    (mnemonic_is (take n inner)) (λ op e.
    sensed_is text (drop n inner) slot op (λ k. h k
    ∙ ap (λ (x : List ℕ). codes "N[" ++ (signed_decimal slot ++ 93 ∷ 32 ∷ x))
    (parts n inner ∙ ap (λ (x : List ℕ). x ++ drop n inner) e)))

-- what is read as the line of an instruction is such a line
pub inst_is : (text : List ℕ) → If (IsInstLine text) (inst_in text)
unfolding inst_in
inst_is text =
    bind (IsIndex (codes "N[") text) (IsInstLine text) (index_in (codes "N[") text) _
    (index_is (codes "N[") text) (λ s a.
    bind (IsAfter (codes " ") s.1) (IsInstLine text) (after_in (codes " ") s.1) _
    (after_is (codes " ") s.1) (λ r b.
    operation_is text r s.0 (λ k. a k
    ∙ ap (λ (x : List ℕ). codes "N[" ++ (signed_decimal s.0 ++ 93 ∷ x)) b)))
