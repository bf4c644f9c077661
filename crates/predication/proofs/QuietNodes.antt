-- Nodes that neither load, store, divide nor leave the block: they do no act and have no exit.
use Rattle.std.proofs.Common.{◌≡◌, ℕ, zero, suc, ◌+◌, ◌/◌, List, [], ◌∷◌, ◌++◌, length, refl, ap, arith, cond, nat_lt}
use Rattle.std.proofs.Common.{Bool, true, false, append_assoc}
use Rattle.std.specs.Prelude.{Some, None}
use Rattle.trips_isa.specs.declared.form.Form.{Form}
use Rattle.trips_isa.specs.declared.form.Form.TheVariants as form
use Rattle.trips_isa.specs.declared.block.Token.TheVariants.{Null, Word}
use Rattle.trips_isa.specs.Forms.{form_of}
use Rattle.trips_isa.specs.Rule.{Answer}
use Rattle.ir_forms.specs.declared.hyper.Source.{Source}
use Rattle.ir_forms.specs.declared.hyper.Source.TheVariants.{Const, Reg}
use Rattle.ir_forms.specs.declared.flow.FlowSource.{FlowSource}
use Rattle.ir_forms.specs.declared.flow.FlowNode.{FlowNode}
use Rattle.trips_isa.specs.inside.Acts.{Act}
use Rattle.trips_isa.specs.Faults.{divides}
use Rattle.ir_forms.specs.inside.FlowRuns.{first, met, exits, leaving_in, act_tokens, fired}
use Rattle.predication.specs.inside.Environments.{Scope, Env}
use Rattle.predication.specs.inside.Operands.{Chain, longer, chain, movs, read_of, operand, second}

-- NODES OF NO STORE, LOAD OR DIVISION

-- forms that neither load nor store
abbrev pub is_still : Form → Bool
is_still form.Load = false
is_still form.Store = false
is_still _ = true

abbrev pub Still : FlowNode → Type 0
Still n = (is_still (form_of n.op) ≡ true) × (divides n.op ≡ false)

-- none of some nodes loads or stores
abbrev pub Quiet : List FlowNode → Type 0
Quiet [] = Unit {0}
Quiet (n ∷ ns) = Still n × Quiet ns

-- quiet nodes behind quiet ones are quiet
pub quiet_append : (a b : List FlowNode) → Quiet a → Quiet b → Quiet (a ++ b)
quiet_append [] b x y = y
quiet_append (n ∷ a) b x y = (x.0, quiet_append a b x.1 y)

-- forms that are no branch
abbrev pub is_inner : Form → Bool
is_inner form.Branch = false
is_inner _ = true

-- nodes of no branch
abbrev pub Inner : List FlowNode → Type 0
Inner [] = Unit {0}
Inner (n ∷ ns) = (is_inner (form_of n.op) ≡ true) × Inner ns

-- nodes without a branch behind such nodes have none
pub inner_append : (a b : List FlowNode) → Inner a → Inner b → Inner (a ++ b)
inner_append [] b x y = y
inner_append (n ∷ a) b x y = (x.0, inner_append a b x.1 y)

-- the movs of a register neither load nor store
pub movs_quiet : (r : ℕ) (gs : List Scope) → Quiet (movs r gs)
movs_quiet r [] = tt
movs_quiet r (g ∷ gs) = ((refl, refl), movs_quiet r gs)

-- the movs of a register are no branches
pub movs_inner : (r : ℕ) (gs : List Scope) → Inner (movs r gs)
movs_inner r [] = tt
movs_inner r (g ∷ gs) = (refl, movs_inner r gs)

longer_quiet : (b : Bool) (j w : ℕ) (c : Chain) → Quiet c.nodes → Quiet (longer b j w c).nodes
longer_quiet true j w c q = ((refl, refl), tt)
longer_quiet false j w c q = quiet_append c.nodes _ q ((refl, refl), tt)

pub chain_quiet : (d j w : ℕ) → Quiet (chain d j w).nodes
chain_quiet zero j w = ((refl, refl), tt)
chain_quiet (suc d) j w = longer_quiet (nat_lt w 65536) j w (chain d j (w / 65536)) (chain_quiet d j (w / 65536))

longer_inner : (b : Bool) (j w : ℕ) (c : Chain) → Inner c.nodes → Inner (longer b j w c).nodes
longer_inner true j w c q = (refl, tt)
longer_inner false j w c q = inner_append c.nodes _ q (refl, tt)

pub chain_inner : (d j w : ℕ) → Inner (chain d j w).nodes
chain_inner zero j w = (refl, tt)
chain_inner (suc d) j w = longer_inner (nat_lt w 65536) j w (chain d j (w / 65536)) (chain_inner d j (w / 65536))

read_quiet : (j r : ℕ) (ss : List FlowSource) (kept : List Scope) → Quiet (read_of j r ss kept).nodes
read_quiet j r [] kept = tt
read_quiet j r (s ∷ ss) kept = movs_quiet r kept

read_inner : (j r : ℕ) (ss : List FlowSource) (kept : List Scope) → Inner (read_of j r ss kept).nodes
read_inner j r [] kept = tt
read_inner j r (s ∷ ss) kept = movs_inner r kept

-- The nodes of an operand are quiet.
pub operand_quiet : (j : ℕ) (env : Env) (a : Source) → Quiet (operand j env a).nodes
operand_quiet j env (Const w) = chain_quiet 3 j w
operand_quiet j env (Reg r) = read_quiet j r (env r).given (env r).kept

-- the nodes of an operand are no branches
pub operand_inner : (j : ℕ) (env : Env) (a : Source) → Inner (operand j env a).nodes
operand_inner j env (Const w) = chain_inner 3 j w
operand_inner j env (Reg r) = read_inner j r (env r).given (env r).kept

-- the nodes of a second operand neither load nor store
pub second_quiet : (b : Bool) (j : ℕ) (env : Env) (a : Source) → Quiet (second b j env a).nodes
second_quiet true j env a = operand_quiet j env a
second_quiet false j env a = tt

-- the nodes of a second operand are no branches
pub second_inner : (b : Bool) (j : ℕ) (env : Env) (a : Source) → Inner (second b j env a).nodes
second_inner true j env a = operand_inner j env a
second_inner false j env a = tt

module _ (regs : ℕ → ℕ) (h : ℕ → Answer) where
  -- LISTS OF NODES IN TWO PARTS

  -- nodes behind nodes do the acts of both, in this order
  pub fired_append : (a b : List FlowNode) → fired regs h (a ++ b) ≡ fired regs h a ++ fired regs h b
  fired_append [] b = refl
  fired_append (n ∷ a) b = rw (fired_append a b) (simp append_assoc)

  -- nodes behind nodes have the exits of both, in this order
  pub exits_append : (j : ℕ) (a b : List FlowNode) → exits h j (a ++ b) ≡ exits h j a ++ exits h (j + length a) b
  exits_append j [] b = let e : j ≡ j + 0 = omega arith in ap (λ (i : ℕ). exits h i b) e
  exits_append j (n ∷ a) b =
      let e : suc j + length a ≡ j + length (n ∷ a) = omega arith in
      let ih = exits_append (suc j) a b in
      rw ih (rw e (simp append_assoc))

  pub cond_same : {A : Type 0} (b : Bool) (x : List A) → cond b x x ≡ x
  cond_same true x = refl
  cond_same false x = refl

  acts_other : (f : Form) (n : FlowNode) (l r : Answer) → is_still f ≡ true → divides n.op ≡ false
      → act_tokens f n l r ≡ []
  acts_other form.Load n l r e d = absurd (cc)
  acts_other form.Store n l r e d = absurd (cc)
  acts_other form.General n None r e d = refl
  acts_other form.General n (Some Null) r e d = refl
  acts_other form.General n (Some (Word x)) None e d = refl
  acts_other form.General n (Some (Word x)) (Some Null) e d = refl
  acts_other form.General n (Some (Word x)) (Some (Word y)) e d = rw d refl
  acts_other form.Immediate n None r e d = refl
  acts_other form.Immediate n (Some Null) r e d = refl
  acts_other form.Immediate n (Some (Word x)) None e d = refl
  acts_other form.Immediate n (Some (Word x)) (Some Null) e d = refl
  acts_other form.Immediate n (Some (Word x)) (Some (Word y)) e d = rw d refl
  acts_other form.Branch n None r e d = refl
  acts_other form.Branch n (Some Null) r e d = refl
  acts_other form.Branch n (Some (Word x)) None e d = refl
  acts_other form.Branch n (Some (Word x)) (Some Null) e d = refl
  acts_other form.Branch n (Some (Word x)) (Some (Word y)) e d = rw d refl
  acts_other form.Constant n None r e d = refl
  acts_other form.Constant n (Some Null) r e d = refl
  acts_other form.Constant n (Some (Word x)) None e d = refl
  acts_other form.Constant n (Some (Word x)) (Some Null) e d = refl
  acts_other form.Constant n (Some (Word x)) (Some (Word y)) e d = rw d refl

  -- quiet nodes do no act
  pub quiet_fired : (a : List FlowNode) → Quiet a → fired regs h a ≡ []
  quiet_fired [] q = refl
  quiet_fired (n ∷ a) q = rw (
    acts_other (form_of n.op) n (first regs h n.left) (first regs h n.right) q.0.0 q.0.1,
    cond_same {A = Act} (met h n.guard) [],
    quiet_fired a q.1,
  ) refl

  inner_leaving : (f : Form) (n : FlowNode) (t : Answer) → is_inner f ≡ true → leaving_in f n t ≡ []
  inner_leaving form.Branch n t e = absurd (cc)
  inner_leaving form.General n t e = refl
  inner_leaving form.Immediate n t e = refl
  inner_leaving form.Load n t e = refl
  inner_leaving form.Store n t e = refl
  inner_leaving form.Constant n t e = refl

  -- nodes without a branch have no exit
  pub inner_exits : (j : ℕ) (a : List FlowNode) → Inner a → exits h j a ≡ []
  inner_exits j [] q = refl
  inner_exits j (n ∷ a) q = rw (inner_leaving (form_of n.op) n (h j) q.0, inner_exits (suc j) a q.1) refl
