-- Reports, worked by hand from the README of this crate.
use Rattle.std.proofs.Common.{◌≡◌, [], ◌∷◌, Some, None, refl, codes}
use Rattle.std.specs.Prelude.{pos, negsuc}
use Rattle.std.specs.Fmt.{digits}
use Rattle.c_lex.specs.declared.fault.LexFault.TheVariants as lexical
use Rattle.c_parse.specs.declared.unit.ParseFault.TheVariants as parse
use Rattle.c_type_expr.specs.declared.fault.TypeFault.TheVariants as typing
use Rattle.c_front.specs.declared.refusal.Refusal.TheVariants as stage
use Rattle.c_meaning.specs.declared.outcome.Outcome.TheVariants as outcome
use Rattle.c_meaning_spec.specs.declared.fault.Fault.TheVariants as fault
use Rattle.trips_eval_answers.specs.Evaluation.{eval_report}
use Rattle.trips_eval_answers.specs.Refusals.{front_refusal}

pub done_is : eval_report [] (outcome.Done [] (pos 7) 4) ≡ codes "output 0\n\nresult 7\nsteps 4\n"
unfolding digits
done_is = refl

-- the least long
pub aborted_is : eval_report [] (outcome.Done [] (negsuc 9223372036854775807) 6)
    ≡ codes "output 0\n\naborted\nsteps 6\n"
unfolding digits
aborted_is = refl

pub deep_is : eval_report [] (outcome.Deep [] None []) ≡ codes "deep\n"
deep_is = refl

-- the second byte of the second line, in a call at the first line's third byte
pub undefined_is : eval_report (codes "ab\ncd") (outcome.Undefined [] fault.NeverSet (Some 4) (2 ∷ []))
    ≡ codes "output 0\n\nundefined at 2:2: a value is taken that was never set (C17 6.3.2.1p2), called at 1:3\n"
unfolding digits
undefined_is = refl

pub directive_is : front_refusal (codes "int a;\n#if\n") (stage.Lex (lexical.Directive 7))
    ≡ codes "refused lex 5 Directive line 2\n"
unfolding digits
directive_is = refl

pub empty_is : front_refusal [] (stage.Parse (parse.Syntax 0)) ≡ codes "refused parse 1 Syntax line 1\n"
unfolding digits
empty_is = refl

pub no_main_is : front_refusal [] (stage.Typing typing.NoMain) ≡ codes "refused type 5 NoMain\n"
no_main_is = refl
