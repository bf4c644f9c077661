-- What holds of an instruction whose numbers lie in their fields.
use Rattle.std.proofs.Common.{◌≡◌, ℕ, refl}
use Rattle.std.proofs.Common.{Option, Some, None}
use Rattle.std.specs.Prelude.{ℤ, pos, negsuc, nat_lt}
use Rattle.std.proofs.lemmas.Bool.{ltb-true}
use Rattle.trips_isa.specs.declared.op.Op.{Op}
use Rattle.trips_isa.specs.declared.op.Op.TheVariants.{Gens}
use Rattle.trips_isa.specs.declared.form.Form.{Form}
use Rattle.trips_isa.specs.declared.form.Form.TheVariants.{General, Immediate, Load, Store, Branch}
use Rattle.trips_isa.specs.declared.form.Form.TheVariants.{Constant}
use Rattle.trips_isa.specs.declared.block.Inst.{Inst}
use Rattle.trips_isa.specs.Forms.{form_of}
use Rattle.trips_isa.specs.Fits.{FitsSigned, FitsUnsigned, FitsConstant}
use Rattle.trips_isa.specs.Limits.{offset_half}
use Rattle.target_asm_spec.specs.declared.spelled.Goal.{Goal}
use Rattle.target_asm_spec.specs.declared.spelled.Goal.TheVariants.{Label, Offset}
use Rattle.target_asm_spec.specs.declared.spelled.SpelledInst.{SpelledInst}
use Rattle.target_asm_spec.specs.Places.{maybe_spot}
use Rattle.target_asm_spec.specs.Judging.{signed_in, unsigned_in, number_of, constant_of, offset_of}
use Rattle.target_asm_spec.specs.Judging.{immediate_of, inst_of}
use Rattle.target_asm_laws.proofs.Binds.{If, bind, when}
use Rattle.target_asm_laws.proofs.Digits.{InField, field_is}
use Rattle.target_asm_laws.proofs.Targets.{IsMaybe, maybe_is}

-- a number that fits a signed field, taken as it is
abbrev pub IsSigned : ℕ → ℤ → ℤ → Type 0
IsSigned half z y = (y ≡ z) × FitsSigned half z

-- a number that is taken for a signed field fits it
pub signed_is : (half : ℕ) (z : ℤ) → If (IsSigned half z) (signed_in half z)
unfolding signed_in
signed_is half (pos n) = when (IsSigned half (pos n)) (nat_lt n half) (Some (pos n))
    (λ e. (refl, ltb-true n half e))
signed_is half (negsuc n) = when (IsSigned half (negsuc n)) (nat_lt n half) (Some (negsuc n))
    (λ e. (refl, ltb-true n half e))

abbrev IsUnsigned : ℕ → ℤ → ℤ → Type 0
IsUnsigned values z y = (y ≡ z) × FitsUnsigned values z

unsigned_is : (values : ℕ) (z : ℤ) → If (IsUnsigned values z) (unsigned_in values z)
unfolding unsigned_in
unsigned_is values (pos n) = when (IsUnsigned values (pos n)) (nat_lt n values) (Some (pos n))
    (λ e. (refl, ltb-true n values e))
unsigned_is values (negsuc n) = tt

-- the number of an instruction, by its form: a load's, a store's or an exit's, in its field
abbrev pub NumberIs : Form → ℤ → ℕ → Type 0
NumberIs Load z n = InField z 32 n
NumberIs Store z n = InField z 32 n
NumberIs Branch z n = InField z 8 n
NumberIs form z n = n ≡ 0

number_is : (f : Form) (z : ℤ) → If (NumberIs f z) (number_of f z)
unfolding number_of
number_is General z = refl
number_is Immediate z = refl
number_is Constant z = refl
number_is Load z = field_is z 32
number_is Store z = field_is z 32
number_is Branch z = field_is z 8

abbrev IsConstant : Op → ℤ → ℤ → Type 0
IsConstant op z y = (y ≡ z) × FitsConstant op z

constant_is : (op : Op) (z : ℤ) → If (IsConstant op z) (constant_of op z)
unfolding constant_of
constant_is Gens z = signed_is 32768 z
constant_is op z = unsigned_is 65536 z

-- the offset of a goal: none has the offset 0, and one that is said fits
abbrev pub OffsetIs : Option Goal → ℤ → Type 0
OffsetIs None z = z ≡ pos 0
OffsetIs (Some (Label k)) z = Unit {0}
OffsetIs (Some (Offset n)) z = IsSigned offset_half n z

offset_is : (g : Option Goal) → If (OffsetIs g) (offset_of g)
offset_is None = refl
offset_is (Some (Label k)) = tt
offset_is (Some (Offset n)) = signed_is offset_half n

-- the constant or the offset of an instruction, by its form, in its field
abbrev pub ImmIs : Form → SpelledInst → ℤ → Type 0
ImmIs General s z = z ≡ pos 0
ImmIs Immediate s z = IsSigned 256 s.numbers.imm z
ImmIs Load s z = IsSigned 256 s.numbers.imm z
ImmIs Store s z = IsSigned 256 s.numbers.imm z
ImmIs Constant s z = IsConstant s.op s.numbers.imm z
ImmIs Branch s z = OffsetIs s.numbers.goal z

imm_is : (f : Form) (s : SpelledInst) → If (ImmIs f s) (immediate_of f s)
unfolding immediate_of
imm_is General s = refl
imm_is Immediate s = signed_is 256 s.numbers.imm
imm_is Load s = signed_is 256 s.numbers.imm
imm_is Store s = signed_is 256 s.numbers.imm
imm_is Constant s = constant_is s.op s.numbers.imm
imm_is Branch s = offset_is s.numbers.goal

-- an instruction whose parts are those of its line, each in its field
pub record IsJudged (s : SpelledInst) (i : Inst) : Type 0 where
  pub op : i.op ≡ s.op
  pub sense : i.sense ≡ s.sense
  pub number : NumberIs (form_of s.op) s.numbers.number i.number
  pub imm : ImmIs (form_of s.op) s i.imm
  pub first : IsMaybe s.targets.first i.first
  pub second : IsMaybe s.targets.second i.second

-- what is judged as an instruction is what is spelled
pub judged_is : (s : SpelledInst) → If (IsJudged s) (inst_of s)
unfolding inst_of
judged_is s =
    let f = form_of s.op in
    bind (NumberIs f s.numbers.number) (IsJudged s) (number_of f s.numbers.number) _
    (number_is f s.numbers.number) (λ n a.
    bind (ImmIs f s) (IsJudged s) (immediate_of f s) _ (imm_is f s) (λ imm b.
    bind (IsMaybe s.targets.first) (IsJudged s) (maybe_spot s.targets.first) _
    (maybe_is s.targets.first) (λ t c.
    bind (IsMaybe s.targets.second) (IsJudged s) (maybe_spot s.targets.second) _
    (maybe_is s.targets.second) (λ u d. record {
      op = refl;
      sense = refl;
      number = a;
      imm = b;
      first = c;
      second = d;
    }))))
