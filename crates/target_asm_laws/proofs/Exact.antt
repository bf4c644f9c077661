-- A line that is read as an instruction, whose numbers lie in their fields, is the line of that
-- instruction.
use Rattle.std.proofs.Common.{◌≡◌, ℕ, ◌≤◌, List, ◌∷◌, ◌++◌, append_assoc, refl, sym}
use Rattle.std.proofs.Common.{ap, subst, ◌∙◌, arith, Option, Some, None, true}
use Rattle.std.specs.Prelude.{ℤ, pos, ◌+ℤ◌}
use Rattle.std.specs.Fmt.{decimal, signed_decimal}
use Rattle.trips_isa.specs.declared.op.Op.{Op}
use Rattle.trips_isa.specs.declared.form.Form.{Form}
use Rattle.trips_isa.specs.declared.form.Form.TheVariants.{General, Immediate, Load, Store, Branch}
use Rattle.trips_isa.specs.declared.form.Form.TheVariants.{Constant}
use Rattle.trips_isa.specs.declared.block.Sense.{Sense}
use Rattle.trips_isa.specs.declared.block.Sense.TheVariants.{Always, OnTrue, OnFalse}
use Rattle.trips_isa.specs.declared.block.Spot.{Spot}
use Rattle.trips_isa.specs.declared.block.Inst.{Inst}
use Rattle.trips_isa.specs.Forms.{form_of}
use Rattle.trips_isa.specs.Fits.{FitsSigned, FitsConstant, FitsOffset, FitsTargets, FitsForm}
use Rattle.trips_isa.specs.Fits.{FitsInst}
use Rattle.isa_table.specs.Spots.{indexed}
use Rattle.target_asm_spec.specs.Fields.{target_text, branch_text, numbers_text}
use Rattle.target_asm_spec.specs.inside.Chunks.{goal_in}
use Rattle.target_asm_spec.specs.Text.{inst_line, op_text, targets_text}
use Rattle.target_asm_spec.specs.declared.spelled.SpelledTarget.{SpelledTarget}
use Rattle.target_asm_spec.specs.declared.spelled.SpelledInst.{SpelledInst}
use Rattle.target_asm_spec.specs.inside.Instructions.{sense_fits}
use Rattle.target_asm_spec.specs.inside.Blocks.{Begins}
use Rattle.target_asm_spec.proofs.Numbers.{IsSmall}
use Rattle.target_asm_spec.proofs.Operations.{signed_small, constant_small}
use Rattle.target_asm_spec.proofs.Targets.{spelled_target}
use Rattle.target_asm_laws.proofs.Digits.{InField}
use Rattle.target_asm_laws.proofs.Targets.{maybe_decimals, SmallMaybe, IsMaybe, maybe_small, maybe_text}
use Rattle.target_asm_laws.proofs.Operations.{goal_decimals, number_words, SmallNumbers, GoalFits}
use Rattle.target_asm_laws.proofs.Operations.{TargetsFit}
use Rattle.target_asm_laws.proofs.Instructions.{op_words, IsInstLine}
use Rattle.target_asm_laws.proofs.Judging.{IsSigned, NumberIs, ImmIs}
use Rattle.target_asm_laws.proofs.Aims.{Told, AimIs, kept, offset_fits, offset_words, aim_small}

-- a line that is read, judged and aimed
pub record IsAimed (b : Begins) (here : ℕ) (f : Form) (s : SpelledInst) (i : Inst)
    (z : ℤ) : Type 0 where
  pub told : Told b
  pub sense : sense_fits f s.sense ≡ true
  pub goal : GoalFits f s.op s.numbers.goal
  pub targets : TargetsFit f s.targets
  pub op : i.op ≡ s.op
  pub same : i.sense ≡ s.sense
  pub number : NumberIs f s.numbers.number i.number
  pub imm : ImmIs f s i.imm
  pub first : IsMaybe s.targets.first i.first
  pub second : IsMaybe s.targets.second i.second
  pub aim : AimIs b here s.numbers.goal i.imm z

-- an instruction with its offset
abbrev pub aimed_inst : Inst → ℤ → Inst
aimed_inst i z = record i { imm = z }

-- ---- the instruction fits

no_spot : (s : Option Spot) → spelled_target s ≡ None → s ≡ None
no_spot None e = refl
no_spot (Some s) e = absurd cc

no_target : (t : Option SpelledTarget) (s : Option Spot) → IsMaybe t s → t ≡ None → s ≡ None
no_target t s m e = no_spot s (sym m.is ∙ e)

in_order : (a c : Option Spot) → (spelled_target a ≡ None → spelled_target c ≡ None)
    → FitsTargets a c
in_order None c h = no_spot c (h refl)
in_order (Some s) c h = tt

always : (s : Sense) → sense_fits Constant s ≡ true → s ≡ Always
always Always e = refl
always OnTrue e = absurd cc
always OnFalse e = absurd cc

signed_fits : (half : ℕ) (y x z : ℤ) → IsSigned half y x → z ≡ x → FitsSigned half z
signed_fits half y x z h e = subst (FitsSigned half) (sym (e ∙ h.0)) h.1

constant_fits : (o p : Op) (y x z : ℤ) → (x ≡ y) × FitsConstant o y → z ≡ x → p ≡ o
    → FitsConstant p z
constant_fits o p y x z h e q =
    subst (λ (r : Op). FitsConstant r z) (sym q) (subst (FitsConstant o) (sym (e ∙ h.0)) h.1)

pub form_fits : (b : Begins) (here : ℕ) (f : Form) (s : SpelledInst) (i : Inst) (z : ℤ)
    → IsAimed b here f s i z → FitsForm f (aimed_inst i z)
form_fits b here General s i z a =
    let k : z ≡ i.imm = kept b here s.numbers.goal i.imm z a.goal a.aim in (
      record {
        first = a.first.fits;
        second = a.second.fits;
        order = in_order i.first i.second
            (λ n. sym a.second.is ∙ a.targets (a.first.is ∙ n));
      },
      k ∙ a.imm,
      a.number,
    )
form_fits b here Immediate s i z a =
    let k : z ≡ i.imm = kept b here s.numbers.goal i.imm z a.goal a.aim in (
      record {
        first = a.first.fits;
        second = no_target s.targets.second i.second a.second a.targets;
      },
      signed_fits 256 s.numbers.imm i.imm z a.imm k,
      a.number,
    )
form_fits b here Load s i z a =
    let k : z ≡ i.imm = kept b here s.numbers.goal i.imm z a.goal a.aim in (
      record {
        first = a.first.fits;
        second = no_target s.targets.second i.second a.second a.targets;
      },
      signed_fits 256 s.numbers.imm i.imm z a.imm k,
      a.number.below,
    )
form_fits b here Store s i z a =
    let k : z ≡ i.imm = kept b here s.numbers.goal i.imm z a.goal a.aim in (
      record {
        first = no_target s.targets.first i.first a.first a.targets.0;
        second = no_target s.targets.second i.second a.second a.targets.1;
      },
      signed_fits 256 s.numbers.imm i.imm z a.imm k,
      a.number.below,
    )
form_fits b here Branch s i z a = (
  record {
    first = no_target s.targets.first i.first a.first a.targets.0;
    second = no_target s.targets.second i.second a.second a.targets.1;
  },
  subst (λ (o : Op). FitsOffset o z) (sym a.op)
      (offset_fits b here s.op s.numbers.goal i.imm z a.goal a.imm a.aim),
  a.number.below,
)
form_fits b here Constant s i z a =
    let k : z ≡ i.imm = kept b here s.numbers.goal i.imm z a.goal a.aim in (
      record {
        first = a.first.fits;
        second = no_target s.targets.second i.second a.second a.targets;
      },
      constant_fits s.op i.op s.numbers.imm i.imm z a.imm k a.op,
      a.number,
      a.same ∙ always s.sense a.sense,
    )

-- ---- its numbers are small

field_small : (z : ℤ) (values n : ℕ) → values ≤ 128 → InField z values n → IsSmall z
field_small z values n l f = subst IsSmall (sym f.is) (omega (arith, f.below, l))

numbers_small : (b : Begins) (here : ℕ) (f : Form) (s : SpelledInst) (i : Inst) (z : ℤ)
    → IsAimed b here f s i z → SmallNumbers f s.numbers
numbers_small b here General s i z a = tt
numbers_small b here Immediate s i z a = signed_small 256 s.numbers.imm (omega arith) a.imm.1
numbers_small b here Constant s i z a = constant_small s.op s.numbers.imm a.imm.1
numbers_small b here Load s i z a = (
  field_small s.numbers.number 32 i.number (omega arith) a.number,
  signed_small 256 s.numbers.imm (omega arith) a.imm.1,
)
numbers_small b here Store s i z a = (
  field_small s.numbers.number 32 i.number (omega arith) a.number,
  signed_small 256 s.numbers.imm (omega arith) a.imm.1,
)
numbers_small b here Branch s i z a = (
  field_small s.numbers.number 8 i.number (omega arith) a.number,
  aim_small b here s.numbers.goal i.imm z a.told a.imm a.aim,
)

-- ---- they are spelled as in its line

-- the block that begins where a branch goes, if one does
abbrev pub goal_at : Begins → ℕ → ℤ → Option ℕ
goal_at b here z = goal_in b.starts (pos here +ℤ z)

imm_words : (y x z : ℤ) → x ≡ y → z ≡ x
    → ◌≡◌ {A = List ℕ} (32 ∷ signed_decimal y) (32 ∷ signed_decimal z)
imm_words y x z e k = ap (λ (v : ℤ). 32 ∷ signed_decimal v) (sym (k ∙ e))

two_words : (m y x z : ℤ) (n : ℕ) → m ≡ pos n → x ≡ y → z ≡ x
    → ◌≡◌ {A = List ℕ} (32 ∷ (signed_decimal m ++ 32 ∷ signed_decimal y))
    (32 ∷ (decimal n ++ 32 ∷ signed_decimal z))
two_words m y x z n p e k =
    ap (λ (v : ℤ). 32 ∷ (signed_decimal v ++ 32 ∷ signed_decimal y)) p
    ∙ ap (λ (t : List ℕ). 32 ∷ (decimal n ++ t)) (imm_words y x z e k)

numbers_words : (b : Begins) (here : ℕ) (f : Form) (s : SpelledInst) (i : Inst) (z : ℤ)
    → IsAimed b here f s i z
    → number_words f s.numbers ≡ numbers_text f (aimed_inst i z) (goal_at b here z)
numbers_words b here General s i z a = refl
numbers_words b here Immediate s i z a =
    imm_words s.numbers.imm i.imm z a.imm.0 (kept b here s.numbers.goal i.imm z a.goal a.aim)
numbers_words b here Constant s i z a =
    imm_words s.numbers.imm i.imm z a.imm.0 (kept b here s.numbers.goal i.imm z a.goal a.aim)
numbers_words b here Load s i z a =
    two_words s.numbers.number s.numbers.imm i.imm z i.number a.number.is a.imm.0
    (kept b here s.numbers.goal i.imm z a.goal a.aim)
numbers_words b here Store s i z a =
    two_words s.numbers.number s.numbers.imm i.imm z i.number a.number.is a.imm.0
    (kept b here s.numbers.goal i.imm z a.goal a.aim)
numbers_words b here Branch s i z a =
    let g : Option ℕ = goal_at b here z in
    ap (λ (v : ℤ). 32 ∷ (signed_decimal v ++ goal_decimals s.numbers.goal)) a.number.is
    ∙ ap (λ (t : List ℕ). 32 ∷ (decimal i.number ++ t))
    (offset_words b here s.op s.numbers.goal i.imm z a.goal a.imm a.aim
    ∙ ap (λ (o : Op). branch_text o g z) (sym a.op))

inst_line_is : (s : ℕ) (i : Inst) (goal : Option ℕ) (rest : List ℕ) → inst_line s i goal ++ rest
    ≡ op_words (pos s) i.op i.sense (numbers_text (form_of i.op) i goal
    ++ (target_text i.first ++ (target_text i.second ++ 10 ∷ rest)))
unfolding inst_line indexed op_text targets_text
inst_line_is s i goal rest = simp append_assoc refl

-- the text that is read as the line of an instruction is the line of the instruction that is aimed
pub line_is : (b : Begins) (here slot : ℕ) (text rest : List ℕ) (s : SpelledInst) (i : Inst)
    (z : ℤ) → InField s.slot 128 slot → IsInstLine text (s, rest)
    → IsAimed b here (form_of s.op) s i z
    → text ≡ inst_line slot (aimed_inst i z) (goal_at b here z) ++ rest
line_is b here slot text rest s i z f l a =
    let g : Option ℕ = goal_at b here z in
    let j : Inst = aimed_inst i z in
    let small : IsSmall s.slot = field_small s.slot 128 slot (omega arith) f in
    let first : SmallMaybe s.targets.first =
    subst SmallMaybe (sym a.first.is) (maybe_small i.first a.first.fits) in
    let second : SmallMaybe s.targets.second =
    subst SmallMaybe (sym a.second.is) (maybe_small i.second a.second.fits) in
    let ends : List ℕ = maybe_decimals s.targets.second ++ 10 ∷ rest in
    let tail : List ℕ = target_text i.first ++ (target_text i.second ++ 10 ∷ rest) in
    let first_words : maybe_decimals s.targets.first ≡ target_text i.first =
    ap maybe_decimals a.first.is ∙ maybe_text i.first a.first.fits in
    let second_words : maybe_decimals s.targets.second ≡ target_text i.second =
    ap maybe_decimals a.second.is ∙ maybe_text i.second a.second.fits in
    l.spells small (numbers_small b here (form_of s.op) s i z a) first second
    ∙ ap (λ (t : List ℕ). op_words s.slot s.op s.sense (t
    ++ (maybe_decimals s.targets.first ++ ends))) (numbers_words b here (form_of s.op) s i z a)
    ∙ ap (λ (t : List ℕ). op_words s.slot s.op s.sense (numbers_text (form_of s.op) j g
    ++ (t ++ ends))) first_words
    ∙ ap (λ (t : List ℕ). op_words s.slot s.op s.sense (numbers_text (form_of s.op) j g
    ++ (target_text i.first ++ (t ++ 10 ∷ rest)))) second_words
    ∙ ap (λ (x : ℤ). op_words x s.op s.sense (numbers_text (form_of s.op) j g ++ tail)) f.is
    ∙ ap (λ (o : Op). op_words (pos slot) o s.sense (numbers_text (form_of o) j g ++ tail))
    (sym a.op)
    ∙ ap (λ (x : Sense). op_words (pos slot) i.op x (numbers_text (form_of i.op) j g ++ tail))
    (sym a.same)
    ∙ sym (inst_line_is slot j g rest)

-- the instruction that is aimed fits
pub inst_fits : (b : Begins) (here : ℕ) (s : SpelledInst) (i : Inst) (z : ℤ)
    → IsAimed b here (form_of s.op) s i z → FitsInst (aimed_inst i z)
inst_fits b here s i z a =
    subst (λ (o : Op). FitsForm (form_of o) (aimed_inst i z)) (sym a.op)
    (form_fits b here (form_of s.op) s i z a)
