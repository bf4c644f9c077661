-- A text that is read as the numbers and the targets of an instruction is their text.
use Rattle.std.proofs.Common.{◌≡◌, ℕ, List, [], ◌∷◌, ◌++◌, append_assoc, refl, sym, ap, ◌∙◌}
use Rattle.std.proofs.Common.{Option, Some, None, Bool, true, false}
use Rattle.std.specs.Prelude.{ℤ, codes}
use Rattle.std.specs.Fmt.{signed_decimal}
use Rattle.trips_isa.specs.declared.op.Op.{Op}
use Rattle.trips_isa.specs.declared.form.Form.{Form}
use Rattle.trips_isa.specs.declared.form.Form.TheVariants.{General, Immediate, Load, Store, Branch}
use Rattle.trips_isa.specs.declared.form.Form.TheVariants.{Constant}
use Rattle.target_asm_spec.specs.declared.spelled.Goal.{Goal}
use Rattle.target_asm_spec.specs.declared.spelled.Goal.TheVariants.{Label, Offset}
use Rattle.target_asm_spec.specs.declared.spelled.Numbers.{Numbers}
use Rattle.target_asm_spec.specs.declared.spelled.Targets.{Targets}
use Rattle.target_asm_spec.specs.inside.Reading.{after_in, number_in, spaced_in}
use Rattle.target_asm_spec.specs.inside.Places.{next_in}
use Rattle.target_asm_spec.specs.inside.Instructions.{jumps, goal_by, goal_in, jump_in}
use Rattle.target_asm_spec.specs.inside.Instructions.{immediate_in, number_and_immediate_in, exit_in}
use Rattle.target_asm_spec.specs.inside.Instructions.{numbers_in, two_targets_in, one_target_in, targets_in}
use Rattle.target_asm_spec.proofs.Numbers.{IsSmall}
use Rattle.target_asm_laws.proofs.Binds.{If, bind, gives}
use Rattle.target_asm_laws.proofs.Digits.{Spells, IsAfter, after_is, IsNumber, number_is, spaced_words}
use Rattle.target_asm_laws.proofs.Digits.{spaced_is}
use Rattle.target_asm_laws.proofs.Targets.{maybe_decimals, SmallMaybe, IsNext, next_is}

-- ---- where a branch goes

-- the text of a goal: none, a label or an offset, behind a space
abbrev pub goal_decimals : Option Goal → List ℕ
goal_decimals None = []
goal_decimals (Some (Label k)) = 32 ∷ 64 ∷ signed_decimal k
goal_decimals (Some (Offset n)) = 32 ∷ 33 ∷ signed_decimal n

-- the number of a goal is small
abbrev pub SmallAim : Option Goal → Type 0
SmallAim None = Unit {0}
SmallAim (Some (Label k)) = IsSmall k
SmallAim (Some (Offset n)) = IsSmall n

-- a goal stands where the operation jumps, and only there
abbrev pub HasGoal : Bool → Option Goal → Type 0
HasGoal true None = ⊥
HasGoal true (Some g) = Unit {0}
HasGoal false goal = goal ≡ None

pub record IsGoal (jump : Bool) (text : List ℕ) (r : Option Goal × List ℕ) : Type 0 where
  pub spells : Spells goal_decimals SmallAim text r
  pub has : HasGoal jump r.0

goal_by_is : (text : List ℕ) (o : Option (List ℕ)) → If (IsAfter (codes " @") text) o
    → If (IsGoal true text) (goal_by o text)
goal_by_is text (Some rest) h =
    bind (IsNumber rest) (IsGoal true text) (number_in rest) _ (number_is rest) (λ n p. record {
      spells = λ l. h ∙ ap (λ (t : List ℕ). 32 ∷ 64 ∷ t) (p l);
      has = tt;
    })
goal_by_is text None h =
    bind (IsAfter (codes " !") text) (IsGoal true text) (after_in (codes " !") text) _
    (after_is (codes " !") text) (λ rest a.
    bind (IsNumber rest) (IsGoal true text) (number_in rest) _ (number_is rest) (λ n p. record {
      spells = λ l. a ∙ ap (λ (t : List ℕ). 32 ∷ 33 ∷ t) (p l);
      has = tt;
    }))

goal_is : (text : List ℕ) → If (IsGoal true text) (goal_in text)
unfolding goal_in
goal_is text = goal_by_is text (after_in (codes " @") text) (after_is (codes " @") text)

jump_is : (jump : Bool) (text : List ℕ) → If (IsGoal jump text) (jump_in jump text)
unfolding jump_in
jump_is true text = goal_is text
jump_is false text = record { spells = λ l. refl; has = refl }

-- ---- the numbers by form

-- the text of an instruction's numbers, by its form
abbrev pub number_words : Form → Numbers → List ℕ
number_words General n = []
number_words Immediate n = 32 ∷ signed_decimal n.imm
number_words Constant n = 32 ∷ signed_decimal n.imm
number_words Load n = 32 ∷ (signed_decimal n.number ++ 32 ∷ signed_decimal n.imm)
number_words Store n = 32 ∷ (signed_decimal n.number ++ 32 ∷ signed_decimal n.imm)
number_words Branch n = 32 ∷ (signed_decimal n.number ++ goal_decimals n.goal)

-- the numbers that an instruction's form has are small
abbrev pub SmallNumbers : Form → Numbers → Type 0
SmallNumbers General n = Unit {0}
SmallNumbers Immediate n = IsSmall n.imm
SmallNumbers Constant n = IsSmall n.imm
SmallNumbers Load n = IsSmall n.number × IsSmall n.imm
SmallNumbers Store n = IsSmall n.number × IsSmall n.imm
SmallNumbers Branch n = IsSmall n.number × SmallAim n.goal

-- the goal fits the form and the operation: only a branch has one
abbrev pub GoalFits : Form → Op → Option Goal → Type 0
GoalFits Branch op goal = HasGoal (jumps op) goal
GoalFits form op goal = goal ≡ None

-- the numbers of an instruction that were read: their text, if they are small, and a goal that fits
pub record AreNumbers (f : Form) (op : Op) (text : List ℕ) (r : Numbers × List ℕ) : Type 0 where
  pub spells : Spells (number_words f) (SmallNumbers f) text r
  pub goal : GoalFits f op r.0.goal

abbrev one_words : Numbers → List ℕ
one_words n = 32 ∷ signed_decimal n.imm

abbrev pub NoGoal : List ℕ → Numbers × List ℕ → Type 0
NoGoal text r = (IsSmall r.0.imm → text ≡ one_words r.0 ++ r.1) × (r.0.goal ≡ None)

one_number : (text : List ℕ) → If (NoGoal text) (immediate_in text)
unfolding immediate_in
one_number text =
    bind (Spells spaced_words IsSmall text) (NoGoal text) (spaced_in text) _ (spaced_is text)
    (λ i h. (h, refl))

two_words_are : (a b : ℤ) (text t rest : List ℕ) → text ≡ (32 ∷ signed_decimal a) ++ t
    → t ≡ (32 ∷ signed_decimal b) ++ rest
    → text ≡ (32 ∷ (signed_decimal a ++ 32 ∷ signed_decimal b)) ++ rest
two_words_are a b text t rest p q =
    p ∙ ap (λ (x : List ℕ). 32 ∷ (signed_decimal a ++ x)) q
    ∙ ap (λ (x : List ℕ). 32 ∷ x)
    (sym (append_assoc (signed_decimal a) (32 ∷ signed_decimal b) rest))

abbrev pub TwoNumbers : List ℕ → Numbers × List ℕ → Type 0
TwoNumbers text r = (IsSmall r.0.number × IsSmall r.0.imm
    → text ≡ (32 ∷ (signed_decimal r.0.number ++ 32 ∷ signed_decimal r.0.imm)) ++ r.1)
    × (r.0.goal ≡ None)

two_numbers : (text : List ℕ) → If (TwoNumbers text) (number_and_immediate_in text)
unfolding number_and_immediate_in
two_numbers text =
    bind (Spells spaced_words IsSmall text) (TwoNumbers text) (spaced_in text) _ (spaced_is text)
    (λ n h.
    bind (Spells spaced_words IsSmall n.1) (TwoNumbers text) (spaced_in n.1) _ (spaced_is n.1)
    (λ i k. (λ l. two_words_are n.0 i.0 text n.1 i.1 (h l.0) (k l.1), refl)))

exit_is : (op : Op) (text : List ℕ) → If (AreNumbers Branch op text) (exit_in op text)
unfolding exit_in
exit_is op text =
    bind (Spells spaced_words IsSmall text) (AreNumbers Branch op text) (spaced_in text) _
    (spaced_is text) (λ n h.
    bind (IsGoal (jumps op) n.1) (AreNumbers Branch op text) (jump_in (jumps op) n.1) _
    (jump_is (jumps op) n.1) (λ g k. record {
      spells = λ l. h l.0
          ∙ ap (λ (x : List ℕ). 32 ∷ (signed_decimal n.0 ++ x)) (k.spells l.1)
          ∙ ap (λ (x : List ℕ). 32 ∷ x)
          (sym (append_assoc (signed_decimal n.0) (goal_decimals g.0) g.1));
      goal = k.has;
    }))

-- what is read as the numbers of an instruction is their text
pub numbers_is : (f : Form) (op : Op) (text : List ℕ)
    → If (AreNumbers f op text) (numbers_in f op text)
unfolding numbers_in
numbers_is General op text = record { spells = λ l. refl; goal = refl }
numbers_is Immediate op text =
    gives (NoGoal text) (AreNumbers Immediate op text) (immediate_in text) (one_number text)
    (λ r h. record { spells = h.0; goal = h.1 })
numbers_is Constant op text =
    gives (NoGoal text) (AreNumbers Constant op text) (immediate_in text) (one_number text)
    (λ r h. record { spells = h.0; goal = h.1 })
numbers_is Load op text =
    gives (TwoNumbers text) (AreNumbers Load op text) (number_and_immediate_in text)
    (two_numbers text) (λ r h. record { spells = h.0; goal = h.1 })
numbers_is Store op text =
    gives (TwoNumbers text) (AreNumbers Store op text) (number_and_immediate_in text)
    (two_numbers text) (λ r h. record { spells = h.0; goal = h.1 })
numbers_is Branch op text = exit_is op text

-- ---- the targets by form

-- the targets fit the form: as many as it has, and no second one without a first
abbrev pub TargetsFit : Form → Targets → Type 0
TargetsFit General t = t.first ≡ None → t.second ≡ None
TargetsFit Immediate t = t.second ≡ None
TargetsFit Constant t = t.second ≡ None
TargetsFit Load t = t.second ≡ None
TargetsFit Store t = (t.first ≡ None) × (t.second ≡ None)
TargetsFit Branch t = (t.first ≡ None) × (t.second ≡ None)

-- the targets of an instruction that were read: their text, if they are small, and as many as fit
pub record AreTargets (f : Form) (text : List ℕ) (r : Targets × List ℕ) : Type 0 where
  pub spells : SmallMaybe r.0.first → SmallMaybe r.0.second
      → text ≡ maybe_decimals r.0.first ++ (maybe_decimals r.0.second ++ r.1)
  pub fit : TargetsFit f r.0

two_targets : (text : List ℕ) → If (AreTargets General text) (two_targets_in text)
unfolding two_targets_in
two_targets text =
    bind (IsNext text) (AreTargets General text) (next_in text) _ (next_is text) (λ a h.
    bind (IsNext a.1) (AreTargets General text) (next_in a.1) _ (next_is a.1) (λ b k. record {
      spells = λ l m. h.spells l ∙ ap (λ (x : List ℕ). maybe_decimals a.0 ++ x) (k.spells m);
      fit = λ n. k.none (h.ends n);
    }))

one_target : (f : Form) (text : List ℕ) → ((t : Targets) → t.second ≡ None → TargetsFit f t)
    → If (AreTargets f text) (one_target_in text)
unfolding one_target_in
one_target f text p =
    bind (IsNext text) (AreTargets f text) (next_in text) _ (next_is text) (λ a h. record {
      spells = λ l m. h.spells l;
      fit = p (record { first = a.0; second = None }) refl;
    })

-- what is read as the targets of an instruction is their text
pub targets_is : (f : Form) (text : List ℕ) → If (AreTargets f text) (targets_in f text)
unfolding targets_in
targets_is General text = two_targets text
targets_is Immediate text = one_target Immediate text (λ t e. e)
targets_is Constant text = one_target Constant text (λ t e. e)
targets_is Load text = one_target Load text (λ t e. e)
targets_is Store text = record { spells = λ l m. refl; fit = (refl, refl) }
targets_is Branch text = record { spells = λ l m. refl; fit = (refl, refl) }
