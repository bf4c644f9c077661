-- Beside what is believed of Registers.antt: the lines of blocks, reads and writes, read.
use Rattle.std.specs.Prelude.{ℕ, ℤ, pos, negsuc, List, Option, Some, None, Bool, true, false}
use Rattle.std.specs.Prelude.{◌==◌, ◌-◌, ◌&&◌, if◌then◌else◌, codes, length, take, is_some}
use Rattle.target_asm_spec.specs.declared.spelled.SpelledTarget.{SpelledTarget}
use Rattle.target_asm_spec.specs.declared.spelled.SpelledTarget.TheVariants as spelled
use Rattle.target_asm_spec.specs.declared.spelled.SpelledRead.{SpelledRead}
use Rattle.target_asm_spec.specs.declared.spelled.SpelledWrite.{SpelledWrite}
use Rattle.target_asm_spec.specs.declared.spelled.SpelledBlock.{SpelledBlock}
use Rattle.target_asm_spec.specs.Reading.{◌>>=◌}
use Rattle.target_asm_spec.specs.inside.Reading.{after_in, number_in, index_in, word_in}
use Rattle.target_asm_spec.specs.inside.Places.{target_in, next_in}

-- whether a target is an operand
abbrev pub is_operand : SpelledTarget → Bool
is_operand (spelled.Left n) = true
is_operand (spelled.Right n) = true
is_operand (spelled.Pred n) = false
is_operand (spelled.Write n) = false

-- whether two numbers are one, of whatever sign
abbrev pub same_number : ℤ → ℤ → Bool
same_number (pos n) (pos m) = n == m
same_number (negsuc n) (negsuc m) = n == m
same_number n m = false

-- whether two operands are one
abbrev pub same_operand : SpelledTarget → SpelledTarget → Bool
same_operand (spelled.Left n) (spelled.Left m) = same_number n m
same_operand (spelled.Right n) (spelled.Right m) = same_number n m
same_operand t u = false

-- whether the next target of `rest` is spelled as the one between `text` and `rest`, so that two
-- numbers past every field are told apart
unfoldable pub same_text : List ℕ → List ℕ → Bool
same_text text rest =
    is_some (after_in (codes " ") rest >>= after_in (take (length text - length rest) text))

-- a second operand is another than the first, where it is told whether both are spelled alike
unfoldable pub second_fits : Bool → SpelledTarget → Option SpelledTarget → Bool
second_fits alike first None = true
second_fits alike first (Some second) =
    if is_operand second then (if same_operand first second && alike then false else true) else
    false

-- one operand, or two different ones
unfoldable pub operands_fit : Bool → SpelledTarget → Option SpelledTarget → Bool
operands_fit alike first second = if is_operand first then second_fits alike first second else false

-- what reading gives where a test holds
abbrev pub only_if : {A : Type 0} → Bool → A → Option A
only_if true x = Some x
only_if false x = None

-- the operands of a read and the end of its line, after its register
unfoldable pub operands_in : ℤ → ℤ → List ℕ → Option (SpelledRead × List ℕ)
operands_in number register text =
    after_in (codes " ") text >>= λ a. target_in a >>= λ first. next_in first.1 >>= λ second.
    after_in (codes "\n") second.1 >>= λ rest.
    only_if (operands_fit (same_text a first.1) first.0 second.0) (
      record {
        number = number;
        register = register;
        first = first.0;
        second = second.0;
      },
      rest,
    )

-- the line of a read
unfoldable pub read_in : List ℕ → Option (SpelledRead × List ℕ)
read_in text =
    index_in (codes "R[") text >>= λ n. index_in (codes " read G[") n.1 >>= λ g.
    operands_in n.0 g.0 g.1

-- the line of a write
unfoldable pub write_line_in : List ℕ → Option (SpelledWrite × List ℕ)
write_line_in text =
    index_in (codes "W[") text >>= λ n. index_in (codes " write G[") n.1 >>= λ g.
    after_in (codes "\n") g.1 >>= λ rest. Some (record { number = n.0; register = g.0 }, rest)

-- the line of a block
unfoldable pub block_line_in : List ℕ → Option (SpelledBlock × List ℕ)
block_line_in text =
    after_in (codes "block ") text >>= λ a. number_in a >>= λ n. after_in (codes " mask ") n.1
    >>= λ b. word_in b >>= λ m. after_in (codes "\n") m.1
    >>= λ rest. Some (record { number = n.0; mask = m.0 }, rest)
