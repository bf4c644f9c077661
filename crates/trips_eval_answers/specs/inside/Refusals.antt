-- Beside what is believed of Refusals.antt: the reports of the refusals of texts of C.
use Rattle.std.specs.Prelude.{◌≢◌}
use Rattle.c_lex.specs.declared.fault.LexFault.TheVariants as lexical
use Rattle.c_pre.specs.declared.fault.PreFault.TheVariants as directive
use Rattle.c_parse.specs.declared.unit.ParseFault.TheVariants as parse
use Rattle.c_type_expr.specs.declared.fault.TypeFault.TheVariants as typing
use Rattle.c_front.specs.declared.refusal.Refusal.{Refusal}
use Rattle.c_front.specs.declared.refusal.Refusal.TheVariants as stage

-- the fault of the refusal is no want of memory
abbrev pub IsFault : Refusal → Type 0
IsFault (stage.Lex fault) = fault ≢ lexical.Memory
IsFault (stage.Directive fault) = fault ≢ directive.Memory
IsFault (stage.Parse fault) = fault ≢ parse.Memory
IsFault (stage.Typing fault) = fault ≢ typing.Memory
IsFault stage.Memory = ⊥
