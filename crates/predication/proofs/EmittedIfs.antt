-- The parts of an emitted if by name, its test's nodes, and the acts of all of its nodes.
use Rattle.std.proofs.Common.{◌≡◌, ℕ, ◌+◌, List, [], ◌∷◌, ◌++◌, length, refl, cond, true, false}
use Rattle.std.specs.Prelude.{Option, Some, None}
use Rattle.trips_isa.specs.declared.form.Form.{Form}
use Rattle.trips_isa.specs.declared.form.Form.TheVariants as form
use Rattle.trips_isa.specs.Forms.{form_of, is_load, is_store}
use Rattle.trips_isa.specs.Rule.{Answer}
use Rattle.ir_forms.specs.declared.hyper.Source.{Source}
use Rattle.ir_forms.specs.declared.hyper.Source.TheVariants.{Const, Reg}
use Rattle.ir_forms.specs.declared.flow.FlowNode.{FlowNode}
use Rattle.trips_isa.specs.inside.Acts.{Act}
use Rattle.ir_forms.specs.inside.FlowRuns.{first, met, act_tokens, fired}
use Rattle.predication.specs.inside.Environments.{Scope, Env, Bits, under, no_bits, left_bits, distinct}
use Rattle.predication.specs.inside.Operands.{Got, operand, fresh_test, test_by, tested}
use Rattle.predication.specs.inside.Ifs.{Joined, join, Out, items, touched}
use Rattle.ir_forms.specs.inside.HyperCode.{Items}
use Rattle.predication.proofs.QuietNodes.{Quiet, quiet_append, Inner, inner_append, operand_quiet, operand_inner}
use Rattle.predication.proofs.QuietNodes.{fired_append, quiet_fired}

-- THE PARTS OF AN IF, BY NAME

-- where the legs of an if begin
abbrev pub legs_at : Scope → ℕ → Env → Bits → Source → ℕ
legs_at g j env bits t = j + length (tested g j env bits t).nodes

-- the node of an if's test
abbrev pub test_at : Scope → ℕ → Env → Bits → Source → ℕ
test_at g j env bits t = (tested g j env bits t).last

-- the first leg of an if, emitted
abbrev pub yea_out : Scope → ℕ → ℕ → Env → Bits → Source → Items → Out
yea_out g j m env bits t yea = items (under (test_at g j env bits t) true) (legs_at g j env bits t) m env no_bits yea

-- where the second leg of an if begins
abbrev pub nay_at : Scope → ℕ → ℕ → Env → Bits → Source → Items → ℕ
nay_at g j m env bits t yea = legs_at g j env bits t + length (yea_out g j m env bits t yea).nodes

-- the second leg of an if, emitted
abbrev pub nay_out : Scope → ℕ → ℕ → Env → Bits → Source → Items → Items → Out
nay_out g j m env bits t yea nay =
    items (under (test_at g j env bits t) false) (nay_at g j m env bits t yea)
    (yea_out g j m env bits t yea).number env no_bits nay

-- where the registers of both legs of an if are joined
abbrev pub join_at : Scope → ℕ → ℕ → Env → Bits → Source → Items → Items → ℕ
join_at g j m env bits t yea nay = nay_at g j m env bits t yea + length (nay_out g j m env bits t yea nay).nodes

-- the registers of both legs of an if, joined
abbrev pub joined : Scope → ℕ → ℕ → Env → Bits → Source → Items → Items → Joined
joined g j m env bits t yea nay =
    join (test_at g j env bits t) (join_at g j m env bits t yea nay) env (yea_out g j m env bits t yea).env
    (nay_out g j m env bits t yea nay).env (touched yea) (touched nay)
    (distinct (touched yea ++ touched nay))

-- where the items behind an if begin
abbrev pub rest_at : Scope → ℕ → ℕ → Env → Bits → Source → Items → Items → ℕ
rest_at g j m env bits t yea nay = join_at g j m env bits t yea nay + length (joined g j m env bits t yea nay).nodes

-- the items behind an if, emitted
abbrev pub rest_out : Scope → ℕ → ℕ → Env → Bits → Source → Items → Items → Items → Out
rest_out g j m env bits t yea nay rest =
    items g (rest_at g j m env bits t yea nay) (nay_out g j m env bits t yea nay).number
    (joined g j m env bits t yea nay).env (left_bits bits (touched yea ++ touched nay)) rest

pub fresh_quiet : (g : Scope) (j : ℕ) (x : Got) → Quiet x.nodes → Quiet (fresh_test g j x).nodes
fresh_quiet g j x q = quiet_append x.nodes _ q ((refl, refl), tt)

pub test_quiet : (g : Scope) (j : ℕ) (env : Env) (r : ℕ) (b : Option ℕ) → Quiet (test_by g j env r b).nodes
test_quiet g j env r None = fresh_quiet g j (operand j env (Reg r)) (operand_quiet j env (Reg r))
test_quiet g j env r (Some k) = tt

-- the nodes of a test neither load nor store
pub tested_quiet : (g : Scope) (j : ℕ) (env : Env) (bits : Bits) (t : Source) → Quiet (tested g j env bits t).nodes
tested_quiet g j env bits (Const w) = fresh_quiet g j (operand j env (Const w)) (operand_quiet j env (Const w))
tested_quiet g j env bits (Reg r) = test_quiet g j env r (bits r)

fresh_inner : (g : Scope) (j : ℕ) (x : Got) → Inner x.nodes → Inner (fresh_test g j x).nodes
fresh_inner g j x q = inner_append x.nodes _ q (refl, tt)

test_inner : (g : Scope) (j : ℕ) (env : Env) (r : ℕ) (b : Option ℕ) → Inner (test_by g j env r b).nodes
test_inner g j env r None = fresh_inner g j (operand j env (Reg r)) (operand_inner j env (Reg r))
test_inner g j env r (Some k) = tt

-- the nodes of a test are no branches
pub tested_inner : (g : Scope) (j : ℕ) (env : Env) (bits : Bits) (t : Source) → Inner (tested g j env bits t).nodes
tested_inner g j env bits (Const w) = fresh_inner g j (operand j env (Const w)) (operand_inner j env (Const w))
tested_inner g j env bits (Reg r) = test_inner g j env r (bits r)

-- A form that is found to be a load is that of loads.
pub load_form : (F : Form) → is_load F ≡ true → F ≡ form.Load
load_form form.Load e = refl
load_form form.General e = absurd (cc)
load_form form.Immediate e = absurd (cc)
load_form form.Store e = absurd (cc)
load_form form.Branch e = absurd (cc)
load_form form.Constant e = absurd (cc)

-- A form that is found to be a store is that of stores.
pub store_form : (F : Form) → is_store F ≡ true → F ≡ form.Store
store_form form.Store e = refl
store_form form.General e = absurd (cc)
store_form form.Immediate e = absurd (cc)
store_form form.Load e = absurd (cc)
store_form form.Branch e = absurd (cc)
store_form form.Constant e = absurd (cc)

module _ (regs : ℕ → ℕ) (h : ℕ → Answer) where
  -- the acts of one node
  abbrev pub node_acts : FlowNode → List Act
  node_acts n = cond (met h n.guard) (act_tokens (form_of n.op) n (first regs h n.left) (first regs h n.right)) []

  -- behind quiet nodes come the acts of a node and of those behind it
  pub fired_one : (x : List FlowNode) (n : FlowNode) (o : List FlowNode) → Quiet x → fired regs h (x ++ n ∷ o)
      ≡ node_acts n ++ fired regs h o
  fired_one x n o q = rw (fired_append regs h x (n ∷ o), quiet_fired regs h x q) refl

  -- behind two groups of quiet nodes come the acts of a node and of those behind it
  pub fired_two : (x y : List FlowNode) (n : FlowNode) (o : List FlowNode) → Quiet x → Quiet y
      → fired regs h (x ++ (y ++ n ∷ o)) ≡ node_acts n ++ fired regs h o
  fired_two x y n o q r = rw (fired_append regs h x (y ++ n ∷ o), quiet_fired regs h x q) (fired_one y n o r)

  -- an if: its test, both legs, the end, and the rest
  pub fired_if : (x a b c o : List FlowNode) → Quiet x → Quiet c →
      fired regs h (x ++ (a ++ (b ++ (c ++ o)))) ≡ fired regs h a ++ (fired regs h b ++ fired regs h o)
  fired_if x a b c o q r =
      rw (
        fired_append regs h x (a ++ (b ++ (c ++ o))),
        quiet_fired regs h x q,
        fired_append regs h a (b ++ (c ++ o)),
        fired_append regs h b (c ++ o),
        fired_append regs h c o,
        quiet_fired regs h c r,
      ) refl
