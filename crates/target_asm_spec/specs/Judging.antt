-- The instruction of a line that is spelled, where each number lies in its field.
use Rattle.std.specs.Prelude.{ℕ, ℤ, pos, negsuc, Option, Some, None}
use Rattle.std.specs.Prelude.{nat_lt, if◌then◌else◌}
use Rattle.trips_isa.specs.declared.op.Op.{Op}
use Rattle.trips_isa.specs.declared.op.Op.TheVariants.{Gens}
use Rattle.trips_isa.specs.declared.form.Form.{Form}
use Rattle.trips_isa.specs.declared.form.Form.TheVariants.{General, Immediate, Load, Store, Branch}
use Rattle.trips_isa.specs.declared.form.Form.TheVariants.{Constant}
use Rattle.trips_isa.specs.declared.block.Inst.{Inst}
use Rattle.trips_isa.specs.Forms.{form_of}
use Rattle.trips_isa.specs.Limits.{offset_half}
use Rattle.target_asm_spec.specs.declared.spelled.Goal.{Goal}
use Rattle.target_asm_spec.specs.declared.spelled.Goal.TheVariants.{Label, Offset}
use Rattle.target_asm_spec.specs.declared.spelled.SpelledInst.{SpelledInst}
use Rattle.target_asm_spec.specs.Reading.{◌>>=◌, field_in}
use Rattle.target_asm_spec.specs.Places.{maybe_spot}

-- from -half to half - 1
unfoldable pub signed_in : ℕ → ℤ → Option ℤ
signed_in half (pos n) = if nat_lt n half then Some (pos n) else None
signed_in half (negsuc n) = if nat_lt n half then Some (negsuc n) else None

-- from 0 to values - 1
unfoldable pub unsigned_in : ℕ → ℤ → Option ℤ
unsigned_in values (pos n) = if nat_lt n values then Some (pos n) else None
unsigned_in values (negsuc n) = None

-- the number or the exit
unfoldable pub number_of : Form → ℤ → Option ℕ
number_of Load n = field_in n 32
number_of Store n = field_in n 32
number_of Branch n = field_in n 8
number_of form n = Some 0

-- of `gens` a constant with a sign, of `genu` and `app` one without
unfoldable pub constant_of : Op → ℤ → Option ℤ
constant_of Gens n = signed_in 32768 n
constant_of op n = unsigned_in 65536 n

-- in chunks; where none is spelled it is 0
abbrev pub offset_of : Option Goal → Option ℤ
offset_of (Some (Offset n)) = signed_in offset_half n
offset_of (Some (Label k)) = Some (pos 0)
offset_of None = Some (pos 0)

-- the immediate, the constant or the offset; the offset to a block by its number is left 0
unfoldable pub immediate_of : Form → SpelledInst → Option ℤ
immediate_of General s = Some (pos 0)
immediate_of Immediate s = signed_in 256 s.numbers.imm
immediate_of Load s = signed_in 256 s.numbers.imm
immediate_of Store s = signed_in 256 s.numbers.imm
immediate_of Constant s = constant_of s.op s.numbers.imm
immediate_of Branch s = offset_of s.numbers.goal

-- the instruction itself; none where a number lies outside its field
unfoldable pub inst_of : SpelledInst → Option Inst
inst_of s =
    number_of (form_of s.op) s.numbers.number >>= λ n. immediate_of (form_of s.op) s >>= λ imm.
    maybe_spot s.targets.first >>= λ a. maybe_spot s.targets.second >>= λ b.
    Some (record { op = s.op; sense = s.sense; imm = imm; number = n; first = a; second = b })
