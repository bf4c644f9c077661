-- Every text is accepted or refused.
use Rattle.std.proofs.Common.{◌≡◌, ◌⊎◌, inl, inr, ℕ, List, None, refl, subst, sym}
use Rattle.std.specs.Prelude.{Result, Ok, Err}
use Rattle.c_tree.specs.declared.tree.Program.{Program}
use Rattle.c_tree.specs.declared.typed.TypedProgram.{TypedProgram}
use Rattle.c_lex.specs.declared.fault.LexFault.TheVariants as lex
use Rattle.c_lex.specs.Lexes as raw
use Rattle.c_lex.specs.Lexes.{Tokens}
use Rattle.c_lex.specs.Faults.{Fault, FaultAt}
use Rattle.c_lex.specs.Faults as lexical
use Rattle.c_lex.specs.inside.Answers.{Answered}
use Rattle.c_lex.proofs.Answered.{answered}
use Rattle.c_pre.specs.declared.fault.PreFault.{PreFault}
use Rattle.c_pre.specs.Programs.{program}
use Rattle.c_pre.specs.Texts.{Lexed}
use Rattle.c_grammar.specs.inside.Answers.{Answer, tree, syntax, too_deep, Answers}
use Rattle.c_grammar.proofs.OneAnswer.{one_answer}
use Rattle.c_parse.specs.declared.unit.ParseFault.TheVariants as parse
use Rattle.c_type_expr.specs.declared.fault.TypeFault.TheVariants as typing
use Rattle.c_type.specs.inside.Programs.{program_fault, program_tree}
use Rattle.c_type_rules.proofs.Decided.{decided}
use Rattle.c_type_rules.proofs.GoodUnits.{unit_good}
use Rattle.c_type_rules.proofs.UnitsComplete.{accepts_typed}
use Rattle.c_front.specs.declared.refusal.Refusal.{Refusal}
use Rattle.c_front.specs.declared.refusal.Refusal.TheVariants.{Lex, Directive, Parse, Typing, Memory}
use Rattle.c_tree.specs.Limits.{most_tokens}
use Rattle.c_front.specs.Fronts.{HasTree, HasTypes, IsAccepted}
use Rattle.c_front.specs.Refusals.{IsRefused}
use Rattle.c_front.specs.inside.Refusals.{MayHaveNoTypes}
use Rattle.c_front.specs.inside.Stops.{MayStop}
use Rattle.c_front.specs.inside.Laws.{EveryTextAnswers}

-- accepted or refused
abbrev Answering : List ℕ → Type 0
Answering text = ((p : TypedProgram) × IsAccepted text p) ⊎ ((r : Refusal) × IsRefused text r)

-- a text with a tree is accepted, or refused by its typing
by_typing : (text : List ℕ) (p : Program) → HasTree text p → Answering text
by_typing text p h = elim (decided p) [
  | inl t ↦ inl (t.0, (p, h, t.1))
  | inr f ↦ inr (Typing f.0, (p, h, f.1))
]

-- a text with tokens goes on to the grammar
by_grammar : (text : List ℕ) (tokens : Tokens) → Lexed most_tokens text tokens → (a : Answer)
    → Answers tokens a → Answering text
by_grammar text tokens l (tree xs) h = by_typing text (record { items = xs }) (tokens, l, h)
by_grammar text tokens l (syntax n) h = inr (Parse (parse.Syntax n), (tokens, l, h))
by_grammar text tokens l (too_deep n) h = inr (Parse (parse.TooDeep n), (tokens, l, h))

-- a text with raw tokens is refused by its directives, or goes on
by_directives : (text : List ℕ) (tokens : Tokens) → raw.Lexed most_tokens text tokens → (m : Result Tokens PreFault)
    → program most_tokens tokens ≡ m → Answering text
by_directives text tokens l (Ok ts) e = let a = one_answer ts in by_grammar text ts (tokens, l, e) a.0 a.1
by_directives text tokens l (Err f) e = inr (Directive f, (tokens, l, e))

-- a text without tokens is refused by the lexer
by_lexer : (text : List ℕ) (f : Fault) (n : ℕ) → FaultAt most_tokens text f n → Answering text
by_lexer text lexical.BadByte n h = inr (Lex (lex.BadByte n), h)
by_lexer text lexical.BadLiteral n h = inr (Lex (lex.BadLiteral n), h)
by_lexer text lexical.Unclosed n h = inr (Lex (lex.Unclosed n), h)
by_lexer text lexical.TooManyTokens n h = inr (Lex (lex.TooManyTokens n), h)
by_lexer text lexical.Directive n h = inr (Lex (lex.Directive n), h)

by_tokens : (text : List ℕ) → Answered most_tokens text → Answering text
by_tokens text (inl x) = by_directives text x.0 x.1 (program most_tokens x.0) refl
by_tokens text (inr x) = by_lexer text x.0 x.1 x.2

-- every text is accepted or refused
pub every_text : EveryTextAnswers
every_text text = by_tokens text (answered text)

-- ---- what the typing answers

-- a typed program that is given is that of the rules
pub has_types : (p : Program) (t : TypedProgram) → program_fault p ≡ None → t ≡ program_tree p
    → HasTypes p t
has_types p t n e = subst (λ (t : TypedProgram). HasTypes p t) (sym e) (accepts_typed p n)

-- a refusal that is given says the tree's fault, unless memory runs out
pub has_no_types : (p : Program) (r : Refusal) → MayStop p r → MayHaveNoTypes p r
has_no_types p (Typing (typing.Unknown l)) h = unit_good p (typing.Unknown l) h
has_no_types p (Typing (typing.Twice l)) h = unit_good p (typing.Twice l) h
has_no_types p (Typing (typing.Mismatch l)) h = unit_good p (typing.Mismatch l) h
has_no_types p (Typing (typing.Arity l)) h = unit_good p (typing.Arity l) h
has_no_types p (Typing typing.NoMain) h = unit_good p typing.NoMain h
has_no_types p (Typing (typing.TooManyScalars l)) h = unit_good p (typing.TooManyScalars l) h
has_no_types p (Typing (typing.TooManyParams l)) h = unit_good p (typing.TooManyParams l) h
has_no_types p (Typing (typing.Need l)) h = unit_good p (typing.Need l) h
has_no_types p (Typing (typing.TooLarge l)) h = unit_good p (typing.TooLarge l) h
has_no_types p (Typing typing.Memory) h = absurd h
has_no_types p (Lex e) h = absurd h
has_no_types p (Directive e) h = absurd h
has_no_types p (Parse e) h = absurd h
has_no_types p Memory h = tt
