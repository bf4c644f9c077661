-- Hyper blocks with the registers that outlast them, as plain data.
use Rattle.std.specs.Prelude.{ℕ, ◌/◌, ◌^◌, Bool, true, ◌||◌, not, nat_eq, nat_lt, bit_and, List, map}
use Rattle.hyper_narrow.specs.declared.narrowed.Lasting.{Lasting}
use Rattle.hyper_narrow.specs.declared.narrowed.Lasting.TheVariants.{Every, Those}
use Rattle.ir_forms.specs.inside.HyperCode.{Block}

-- whether bit r of a number is set
abbrev pub has : ℕ → ℕ → Bool
has set r = nat_eq (bit_and (set / 2 ^ r) 1) 1

-- a register from 128 on is in every set
abbrev pub is_among : ℕ → ℕ → Bool
is_among set r = has set r || not (nat_lt r 128)

-- whether a register outlasts a block
abbrev pub outlasts : Lasting → ℕ → Bool
outlasts Every r = true
outlasts (Those set) r = is_among set r

-- a block, and which registers outlast it
pub record Narrowed : Type 0 where
  pub block : Block
  pub lasting : Lasting

-- a block that every register outlasts
abbrev pub whole : Block → Narrowed
whole b = record { block = b; lasting = Every }

-- blocks without what outlasts them
abbrev pub bare : List Narrowed → List Block
bare P = map (λ (c : Narrowed). c.block) P
