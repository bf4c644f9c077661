-- What an instruction asks for when it fires, and the token that it gives once it is answered.
-- Own (docs/MACHINE.md, "The step of a block"): the analysis; the rule says the same at once
-- (specs/Rule).
use Rattle.std.specs.Prelude.{ℕ, Option, Some, None}
use Rattle.trips_isa.specs.declared.form.Form.{Form}
use Rattle.trips_isa.specs.declared.form.Form.TheVariants.{General, Immediate, Load, Store, Branch}
use Rattle.trips_isa.specs.declared.form.Form.TheVariants.{Constant}
use Rattle.trips_isa.specs.declared.block.Token.{Token}
use Rattle.trips_isa.specs.declared.block.Token.TheVariants.{Null, Word}
use Rattle.trips_isa.specs.declared.block.Inst.{Inst}
use Rattle.trips_isa.specs.declared.operands.Operands.{Operands}
use Rattle.trips_isa.specs.declared.operands.Operands.TheVariants.{Missing, Nulls, Words}
use Rattle.trips_isa.specs.declared.fired.Fired.{Fired}
use Rattle.trips_isa.specs.declared.fired.Fired.TheVariants.{Value, Loads, Stores, Leaves}
use Rattle.trips_isa.specs.Alu.{alu_of, word}
use Rattle.trips_isa.specs.Forms.{form_of, role_of, general_role}
use Rattle.trips_isa.specs.Rule.{Answer}
use Rattle.trips_isa.specs.Operands.{operands}
use Rattle.trips_isa.specs.inside.Operands.{word_of}
use Rattle.trips_isa.specs.Stores.{address_of, loaded_at}
use Rattle.trips_isa.specs.Outcomes.{or_null}

-- of the words of all its operands
abbrev pub of_words : Form → Inst → ℕ → ℕ → Fired
of_words General i l r = Value (Word (word_of (general_role i.op) (alu_of i.op) l r))
of_words Immediate i l r = Value (Word (alu_of i.op l (word i.imm)))
of_words Constant i l r = Value (Word (alu_of i.op l (word i.imm)))
of_words Load i l r = Loads i.number (Word (address_of i l))
of_words Store i l r = Stores i.number (Word (address_of i l)) (Word r)
of_words Branch i l r = Leaves i.number (Word l)

-- the address of a token at a left operand
abbrev pub addressed : Inst → Answer → Token
addressed i (Some (Word l)) = Word (address_of i l)
addressed i _ = Null

-- where an operand is null, or for `null` itself: a store has the tokens as they are
abbrev pub of_nulls : Form → Inst → Answer → Answer → Fired
of_nulls Load i l r = Loads i.number Null
of_nulls Store i l r = Stores i.number (addressed i l) (or_null r)
of_nulls Branch i l r = Leaves i.number Null
of_nulls _ i l r = Value Null

-- what an instruction of a form asks for: nothing until all operands are there
abbrev pub fired_in : Form → Operands → Inst → Answer → Answer → Option Fired
fired_in f Missing i l r = None
fired_in f (Nulls a b) i l r = Some (of_nulls f i l r)
fired_in f (Words x y) i l r = Some (of_words f i x y)

-- what an instruction asks for, of the tokens at its operands
abbrev pub fired : Inst → Answer → Answer → Option Fired
fired i l r = fired_in (form_of i.op) (operands (role_of i.op) l r) i l r

-- the token of a store at its number: null where its address or its value is
abbrev pub kept : Token → Token → Token
kept (Word a) (Word v) = Word v
kept _ _ = Null

-- the token that is given, where `answer` says which number the bytes at each address make
abbrev pub answered : Inst → (ℕ → ℕ) → Fired → Token
answered i answer (Value t) = t
answered i answer (Loads n Null) = Null
answered i answer (Loads n (Word a)) = Word (loaded_at i answer a)
answered i answer (Stores n a v) = kept a v
answered i answer (Leaves e t) = t
