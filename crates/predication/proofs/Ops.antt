-- What operations on words give.
use Rattle.std.proofs.Common.{◌≡◌, ℕ, ◌<◌, refl, sym, ap, ◌∙◌, arith, Bool, true, false, cond}
use Rattle.std.specs.Prelude.{Some, None, [], ◌∷◌}
use Rattle.trips_isa.specs.declared.op.Op.{Op}
use Rattle.trips_isa.specs.declared.op.Op.TheVariants as op
use Rattle.trips_isa.specs.declared.form.Form.{Form}
use Rattle.trips_isa.specs.declared.form.Form.TheVariants as form
use Rattle.trips_isa.specs.declared.form.Role.{Role}
use Rattle.trips_isa.specs.declared.form.Role.TheVariants as role
use Rattle.trips_isa.specs.declared.block.Token.TheVariants.{Word}
use Rattle.trips_isa.specs.Forms.{form_of, role_of, takes_right}
use Rattle.trips_isa.specs.Rule.{Answer, gives}
use Rattle.trips_isa.specs.Alu.{alu_of, test}
use Rattle.ir_forms.specs.declared.flow.FlowNode.{FlowNode}
use Rattle.trips_isa.specs.Faults.{divides}
use Rattle.trips_isa.specs.inside.Acts.{Divided, divisions}
use Rattle.ir_forms.specs.inside.FlatFits.{operates, is_general}
use Rattle.ir_forms.specs.inside.FlowRuns.{act_tokens}
use Rattle.predication.specs.inside.Operands.{is_test}

-- an operation on words has the general form
pub op_form : (o : Op) → operates o ≡ true → form_of o ≡ form.General
op_form op.Null e = absurd (cc)
op_form o e = by (form_of o) e
  where
    by : (f : Form) → is_general f ≡ true → f ≡ form.General
    by form.General e = refl
    by form.Immediate e = absurd (cc)
    by form.Load e = absurd (cc)
    by form.Store e = absurd (cc)
    by form.Branch e = absurd (cc)
    by form.Constant e = absurd (cc)

-- the right operand has its word where it is taken, and else no source
pub record Right (taken : Bool) (r : Answer) (y : ℕ) : Type 0 where
  pub there : taken ≡ true → r ≡ Some (Word y)
  pub absent : taken ≡ false → r ≡ None

-- what an operation gives, where fn is what it computes of words
pub record Fires (o : Op) (n : FlowNode) (fn : ℕ → ℕ → ℕ) (x y : ℕ) (r : Answer) : Type 0 where
  pub word : ℕ
  pub gives : gives (role_of o) fn (Some (Word x)) r ≡ Some (Word word)
  pub means : ((p q : ℕ) → fn p q ≡ alu_of o p q) → word ≡ alu_of o x y

both_role : (f : Role) → takes_right f ≡ true → f ≡ role.Both
both_role role.Both t = refl
both_role _ t = absurd (cc)

both_fires : (o : Op) (n : FlowNode) (fn : ℕ → ℕ → ℕ) (x y : ℕ) (r : Answer) → role_of o ≡ role.Both
    → r ≡ Some (Word y) → Fires o n fn x y r
both_fires o n fn x y r b e = record {
  word = fn x y;
  gives = ap (λ f. gives f fn (Some (Word x)) r) b ∙ ap (λ t. gives role.Both fn (Some (Word x)) t) e;
  means = λ m. m x y;
}

-- the operations that take their left operand alone
alone_fires : (o : Op) (n : FlowNode) (fn : ℕ → ℕ → ℕ) (x y : ℕ) (r : Answer) → operates o ≡ true
    → takes_right (role_of o) ≡ false → Fires o n fn x y r
alone_fires op.Extsb n fn x y r e t = record { word = fn x 0; gives = refl; means = λ m. m x 0 }
alone_fires op.Extsh n fn x y r e t = record { word = fn x 0; gives = refl; means = λ m. m x 0 }
alone_fires op.Extsw n fn x y r e t = record { word = fn x 0; gives = refl; means = λ m. m x 0 }
alone_fires op.Extub n fn x y r e t = record { word = fn x 0; gives = refl; means = λ m. m x 0 }
alone_fires op.Extuh n fn x y r e t = record { word = fn x 0; gives = refl; means = λ m. m x 0 }
alone_fires op.Extuw n fn x y r e t = record { word = fn x 0; gives = refl; means = λ m. m x 0 }
alone_fires op.Mov n fn x y r e t = record { word = x; gives = refl; means = λ m. refl }
alone_fires _ n fn x y r e t = absurd (cc)

-- an operation whose operands have words gives what it computes of them
pub op_fires : (o : Op) (n : FlowNode) (fn : ℕ → ℕ → ℕ) (x y : ℕ) (r : Answer) → operates o ≡ true
    → Right (takes_right (role_of o)) r y → Fires o n fn x y r
op_fires o n fn x y r e i = go (takes_right (role_of o)) refl
  where
    go : (b : Bool) → takes_right (role_of o) ≡ b → Fires o n fn x y r
    go true t = both_fires o n fn x y r (both_role (role_of o) t) (i.there t)
    go false t = alone_fires o n fn x y r e t

-- only an operation with a right operand divides
no_division : (o : Op) → takes_right (role_of o) ≡ false → divides o ≡ false
no_division op.Divs t = absurd (cc)
no_division op.Divu t = absurd (cc)
no_division _ t = refl

-- an operation does no act but a division's, whose divisor is its right operand
pub op_acts : (o : Op) (n : FlowNode) (x y : ℕ) (r : Answer) → n.op ≡ o → operates o ≡ true
    → Right (takes_right (role_of o)) r y
    → act_tokens (form_of o) n (Some (Word x)) r ≡ divisions o y
op_acts o n x y r s e i =
    ap (λ f. act_tokens f n (Some (Word x)) r) (op_form o e) ∙ go (takes_right (role_of o)) refl
  where
    go : (b : Bool) → takes_right (role_of o) ≡ b
        → act_tokens form.General n (Some (Word x)) r ≡ divisions o y
    go true t = ap (λ a. act_tokens form.General n (Some (Word x)) a) (i.there t)
        ∙ ap (λ p. divisions p y) s
    go false t = ap (λ a. act_tokens form.General n (Some (Word x)) a) (i.absent t)
        ∙ sym (ap (λ d. cond d (Divided y ∷ []) []) (no_division o t))

bit_two : (b : Bool) → test b < 2
bit_two true = omega arith
bit_two false = omega arith

-- a test operation gives 0 or 1
pub test_bit : (o : Op) (x y : ℕ) → is_test o ≡ true → alu_of o x y < 2
test_bit op.Teq x y e = bit_two _
test_bit op.Tne x y e = bit_two _
test_bit op.Tlt x y e = bit_two _
test_bit op.Tle x y e = bit_two _
test_bit op.Tgt x y e = bit_two _
test_bit op.Tge x y e = bit_two _
test_bit op.Tltu x y e = bit_two _
test_bit op.Tleu x y e = bit_two _
test_bit op.Tgtu x y e = bit_two _
test_bit op.Tgeu x y e = bit_two _
test_bit _ x y e = absurd (cc)
