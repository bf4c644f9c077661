-- Beside what is believed of Parses.antt: the faults that `parse` names, and where it finds their offsets.
use Rattle.std.specs.Prelude.{◌≡◌, ℕ, [], ◌∷◌}
use Rattle.c_grammar.specs.Tokens.{Tokens}
use Rattle.c_grammar.specs.Answers.{HasSyntaxFault, IsTooDeep, last_offset}
use Rattle.c_parse.specs.declared.unit.ParseFault.{ParseFault}
use Rattle.c_parse.specs.declared.unit.ParseFault.TheVariants.{Syntax, TooDeep, Memory}

-- what an error says of the tokens
abbrev pub ParseFails : Tokens → ParseFault → Type 0
ParseFails tokens (Syntax offset) = HasSyntaxFault tokens offset
ParseFails tokens (TooDeep offset) = IsTooDeep tokens offset
ParseFails tokens Memory = Unit {0}

-- the error is want of memory
abbrev pub IsMemory : ParseFault → Type 0
IsMemory Memory = Unit {0}
IsMemory _ = ⊥

-- the error is this fault, unless memory runs out
abbrev pub Tells : ParseFault → ParseFault → Type 0
Tells f Memory = Unit {0}
Tells f e = e ≡ f

-- the offset of a fault before which all but these tokens stand
abbrev pub fault_offset : Tokens → Tokens → ℕ
fault_offset tokens [] = last_offset tokens
fault_offset tokens (t ∷ rest) = t.offset

-- an opener that may not stand, the first of these tokens; where it is the last one, the tokens end
-- too early
abbrev pub depth_fault : Tokens → Tokens → ParseFault
depth_fault tokens [] = Syntax (last_offset tokens)
depth_fault tokens (t ∷ []) = Syntax (last_offset tokens)
depth_fault tokens (t ∷ u ∷ rest) = TooDeep t.offset
