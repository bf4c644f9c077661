-- The rule of firing read off operands, what fires and its answer, and the test of an address read off
-- causes.
use Rattle.std.proofs.Common.{◌≡◌, ℕ, ◌+◌, ◌%◌, Bool, true, false, ◌&&◌, cond, ◌==◌, nat_lt, nat_le}
use Rattle.std.proofs.Common.{Some, None, refl, ap, ◌∙◌}
use Rattle.std.specs.Prelude.{option_map}
use Rattle.trips_isa.specs.declared.block.Token.TheVariants.{Null, Word}
use Rattle.trips_isa.specs.declared.form.Role.{Role}
use Rattle.trips_isa.specs.declared.form.Role.TheVariants.{Empty, Reading, Free, Nothing, Copy, One}
use Rattle.trips_isa.specs.declared.form.Role.TheVariants.{Both}
use Rattle.trips_isa.specs.Rule.{Answer, gives}
use Rattle.trips_isa.specs.Stores.{data_size, is_good_address, address_of, loaded_at}
use Rattle.trips_isa.specs.Faults.{fault_at}
use Rattle.trips_isa.specs.declared.op.Op.{Op}
use Rattle.trips_isa.specs.declared.op.Op.TheVariants as op
use Rattle.trips_isa.specs.declared.block.Inst.{Inst}
use Rattle.trips_isa.specs.declared.form.Form.{Form}
use Rattle.trips_isa.specs.declared.form.Form.TheVariants.{General, Immediate, Load, Store, Branch}
use Rattle.trips_isa.specs.declared.form.Form.TheVariants.{Constant}
use Rattle.trips_isa.specs.declared.operands.Operands.{Operands}
use Rattle.trips_isa.specs.declared.operands.Operands.TheVariants.{Missing, Nulls, Words}
use Rattle.trips_isa.specs.Forms.{form_of, role_of, role_in, general_role, constant_role, branch_role}
use Rattle.trips_isa.specs.Blocks.{form_computes, slot_computes}
use Rattle.trips_isa.specs.inside.Fired.{fired, fired_in, answered}
use Rattle.trips_isa.specs.Operands.{operands, one_operand, both_operands}
use Rattle.trips_isa.specs.inside.Operands.{given_of, word_of}

-- what a role gives is read off its operands
pub gives_is : (role : Role) (a : ℕ → ℕ → ℕ) (l r : Answer)
    → gives role a l r ≡ given_of role a (operands role l r)
gives_is Empty a l r = refl
gives_is Reading a l r = refl
gives_is Free a l r = refl
gives_is Nothing a l r = refl
gives_is Copy a None r = refl
gives_is Copy a (Some Null) r = refl
gives_is Copy a (Some (Word x)) r = refl
gives_is One a None r = refl
gives_is One a (Some Null) r = refl
gives_is One a (Some (Word x)) r = refl
gives_is Both a None r = refl
gives_is Both a (Some Null) None = refl
gives_is Both a (Some Null) (Some Null) = refl
gives_is Both a (Some Null) (Some (Word y)) = refl
gives_is Both a (Some (Word x)) None = refl
gives_is Both a (Some (Word x)) (Some Null) = refl
gives_is Both a (Some (Word x)) (Some (Word y)) = refl

-- an address is good where its access has no cause
pub good_is : (address size : ℕ) → is_good_address address size
    ≡ (nat_lt 0 size && (fault_at address size == 0))
good_is address size = ap (λ v. nat_lt 0 size && v)
    (go (address % size == 0) (nat_le (address + size) data_size))
  where
    go : (v w : Bool) → (v && w) ≡ (cond v (cond w 0 3) 2 == 0)
    go true true = refl
    go true false = refl
    go false true = refl
    go false false = refl

-- what fires, and then is answered --------------------------------------------------------------

constant_word : (o : Op) (a : ℕ → ℕ → ℕ) (l r : ℕ) → word_of (constant_role o) a l r ≡ a l r
constant_word op.App a l r = refl
constant_word _ a l r = refl

branch_word : (o : Op) (a : ℕ → ℕ → ℕ) (l r : ℕ) → word_of (branch_role o) a l r ≡ a l r
branch_word op.Br a l r = refl
branch_word op.Ret a l r = refl
branch_word _ a l r = refl

-- the same for each form
by_form : (f : Form) (i : Inst) (answer : ℕ → ℕ) (l r : Answer)
    → given_of (role_in f i.op) (form_computes f i answer) (operands (role_in f i.op) l r)
    ≡ option_map (answered i answer) (fired_in f (operands (role_in f i.op) l r) i l r)
by_form General i answer l r = go (operands (general_role i.op) l r)
  where
    go : (o : Operands) → given_of (general_role i.op) (form_computes General i answer) o
        ≡ option_map (answered i answer) (fired_in General o i l r)
    go Missing = refl
    go (Nulls a b) = refl
    go (Words x y) = refl
by_form Immediate i answer l r = go (one_operand l)
  where
    go : (o : Operands) → given_of One (form_computes Immediate i answer) o
        ≡ option_map (answered i answer) (fired_in Immediate o i l r)
    go Missing = refl
    go (Nulls a b) = refl
    go (Words x y) = refl
by_form Constant i answer l r = go (operands (constant_role i.op) l r)
  where
    go : (o : Operands) → given_of (constant_role i.op) (form_computes Constant i answer) o
        ≡ option_map (answered i answer) (fired_in Constant o i l r)
    go Missing = refl
    go (Nulls a b) = refl
    go (Words x y) = ap (λ w. Some (Word w))
        (constant_word i.op (form_computes Constant i answer) x y)
by_form Load i answer l r = go (one_operand l)
  where
    go : (o : Operands) → given_of One (form_computes Load i answer) o
        ≡ option_map (answered i answer) (fired_in Load o i l r)
    go Missing = refl
    go (Nulls a b) = refl
    go (Words x y) = refl
by_form Store i answer l r = go l r
  where
    go : (l r : Answer) → given_of Both (form_computes Store i answer) (both_operands l r)
        ≡ option_map (answered i answer) (fired_in Store (both_operands l r) i l r)
    go None r = refl
    go (Some Null) None = refl
    go (Some Null) (Some Null) = refl
    go (Some Null) (Some (Word y)) = refl
    go (Some (Word x)) None = refl
    go (Some (Word x)) (Some Null) = refl
    go (Some (Word x)) (Some (Word y)) = refl
by_form Branch i answer l r = go (operands (branch_role i.op) l r)
  where
    go : (o : Operands) → given_of (branch_role i.op) (form_computes Branch i answer) o
        ≡ option_map (answered i answer) (fired_in Branch o i l r)
    go Missing = refl
    go (Nulls a b) = refl
    go (Words x y) = ap (λ w. Some (Word w))
        (branch_word i.op (form_computes Branch i answer) x y)

-- what an instruction gives of its operands' tokens is what it asks for, answered
pub answered_is : (i : Inst) (answer : ℕ → ℕ) (l r : Answer)
    → gives (role_of i.op) (slot_computes (Some i) answer) l r
    ≡ option_map (answered i answer) (fired i l r)
answered_is i answer l r = gives_is (role_of i.op) (slot_computes (Some i) answer) l r
    ∙ by_form (form_of i.op) i answer l r
