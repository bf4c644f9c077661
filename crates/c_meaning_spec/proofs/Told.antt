-- What is undefined has the reason that is told.
use Rattle.std.proofs.Common.{◌≡◌, ℕ, ℤ, pos, negsuc, ◌*◌, ◌^◌, ◌+ℤ◌, ◌-ℤ◌, ◌*ℤ◌, Bool, true, false, cond, List, []}
use Rattle.std.proofs.Common.{Option, Some, None, refl, sym, ap, ◌∙◌}
use Rattle.std.specs.Prelude.{nat_lt, int_div, is_none, is_some}
use Rattle.c_tree.specs.declared.Callee.TheVariants.{Func}
use Rattle.c_tree.specs.declared.Kind.{Kind}
use Rattle.c_tree.specs.declared.BinaryOp.{BinaryOp}
use Rattle.c_tree.specs.declared.BinaryOp.TheVariants as op
use Rattle.c_constant.specs.declared.causes.Cause.{Cause}
use Rattle.c_constant.specs.declared.causes.Cause.TheVariants.{Overflow, ZeroDivisor, Count, NegativeLeft}
use Rattle.c_constant.specs.Kinds.{number, width, in_kind}
use Rattle.c_constant.specs.Operation.{operate, is_zero}
use Rattle.c_constant.specs.Causes.{cause_of, unfit, divided, doubled, counted}
use Rattle.c_constant.proofs.CauseFacts.{undefined_words}
use Rattle.c_meaning_spec.specs.declared.signal.Signal.TheVariants.{Nothing, Value, Breaks, Continues, Returns}
use Rattle.c_meaning_spec.specs.declared.signal.Ending.TheVariants.{Undefined}
use Rattle.c_meaning_spec.specs.declared.signal.Halt.TheVariants.{NoStep, TooDeep, Faults, Exits}
use Rattle.c_meaning_spec.specs.declared.fault.Fault.{Fault}
use Rattle.c_meaning_spec.specs.declared.fault.Fault.TheVariants.{Binary, NoValue}
use Rattle.c_meaning_spec.specs.State.{Result, Go, Over}
use Rattle.c_meaning_spec.specs.Call.{called}
use Rattle.c_meaning_spec.specs.Eval.{Outcome, Stopped, Done, outcome, eval, fault, fault_of, meaning, start}
use Rattle.c_meaning_spec.specs.Word.{words_fault, broken}
use Rattle.c_meaning_spec.specs.Rules as rule
use Rattle.c_meaning_spec.specs.inside.Laws.{UndefinedIsTold, RuleIsBroken}

told : (n : ℕ) (r : Result) (out : List ℕ) → outcome n r ≡ Stopped Undefined out
    → (c : Fault) × (fault_of r ≡ Some c)
told n (Over (Faults c) s) out e = (c, refl)
told n (Over NoStep s) out e = absurd (cc)
told n (Over TooDeep s) out e = absurd (cc)
told n (Over (Exits w) s) out e = absurd (cc)
told n (Go (Value w) s) out e = absurd (cc)
told n (Go Nothing s) out e = (NoValue, refl)
told n (Go Breaks s) out e = (NoValue, refl)
told n (Go Continues s) out e = (NoValue, refl)
told n (Go (Returns w) s) out e = (NoValue, refl)

-- an evaluation that is undefined has a reason
pub undefined-is-told : UndefinedIsTold
unfolding eval fault
undefined-is-told P input n out e = told n (called (meaning P) P (Func P.main) [] (start P input n)) out e

-- RULES

-- the reason is told, and it holds
abbrev Holds : (Cause → Type 0) → Option Cause → Type 0
Holds F None = Unit {0}
Holds F (Some c) = F c

fits : (F : Cause → Type 0) (z : Option ℤ) → (z ≡ None → F Overflow) → Holds F (unfit z)
fits F None h = h refl
fits F (Some z) h = tt

quotients : (F : Cause → Type 0) (b : Bool) (z : Option ℤ) → (b ≡ true → F ZeroDivisor) → (z ≡ None → F Overflow)
    → Holds F (cond b (Some ZeroDivisor) (unfit z))
quotients F true z h g = h refl
quotients F false z h g = fits F z g

counts : (F : Cause → Type 0) (b : Bool) (r : Option Cause) → (b ≡ false → F Count) → Holds F r
    → Holds F (cond b r (Some Count))
counts F true r h g = g
counts F false r h g = h refl

-- what is told of an operation holds of it
holds : (o : BinaryOp) (k : Kind) (a b : ℤ) → Holds (λ c. rule.Breaks c o a b k) (cause_of o k a b)
holds op.Add k a b = fits _ (in_kind k (a +ℤ b)) (λ e. e)
holds op.Subtract k a b = fits _ (in_kind k (a -ℤ b)) (λ e. e)
holds op.Multiply k a b = fits _ (in_kind k (a *ℤ b)) (λ e. e)
holds op.Divide k a b = quotients _ (is_zero b) (in_kind k (int_div a b)) (λ e. e) (λ e. e)
holds op.Remainder k a b = quotients _ (is_zero b) (in_kind k (int_div a b)) (λ e. e) (λ e. e)
holds op.ShiftLeft k a (negsuc b) = tt
holds op.ShiftLeft k (negsuc a) (pos b) = counts _ (nat_lt b (width k)) (Some NegativeLeft) (λ e. e) tt
holds op.ShiftLeft k (pos a) (pos b) =
    counts _ (nat_lt b (width k)) (unfit (in_kind k (pos (a * 2 ^ b)))) (λ e. e)
    (fits _ (in_kind k (pos (a * 2 ^ b))) (λ e. e))
holds op.ShiftRight k a (negsuc b) = tt
holds op.ShiftRight k a (pos b) = counts _ (nat_lt b (width k)) None (λ e. e) tt
holds op.LogicalOr k a b = tt
holds op.LogicalAnd k a b = tt
holds op.BitOr k a b = tt
holds op.BitXor k a b = tt
holds op.BitAnd k a b = tt
holds op.Equal k a b = tt
holds op.NotEqual k a b = tt
holds op.Less k a b = tt
holds op.Greater k a b = tt
holds op.LessEqual k a b = tt
holds op.GreaterEqual k a b = tt

-- one that is undefined has a reason, which holds
names : (o : BinaryOp) (k : Kind) (a b : ℕ) (F : Cause → Type 0) (c : Option Cause) → is_some c ≡ true → Holds F c
    → (d : Cause) × (broken o k a b c ≡ Binary d o k a b) × F d
names o k a b F None e h = absurd (cc)
names o k a b F (Some c) e h = (c, refl, h)

-- an operation that has no value breaks the rule that is told
pub rule-is-broken : RuleIsBroken
unfolding words_fault
rule-is-broken o k a b e =
    names o k a b (λ c. rule.Breaks c o (number k a) (number k b) k) (cause_of o k (number k a) (number k b))
    (undefined_words o k a b ∙ ap is_none e) (holds o k (number k a) (number k b))
