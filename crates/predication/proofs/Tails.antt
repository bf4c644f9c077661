-- The parts of an emitted tail by name, and a tail that is not taken takes no exit.
use Rattle.std.proofs.Common.{◌≡◌, ℕ, suc, ◌+◌, List, [], ◌∷◌, ◌++◌, length, refl, ap, subst, ◌∙◌, arith, cond}
use Rattle.std.proofs.Common.{nat_eq, true, false, append-nil}
use Rattle.std.specs.Prelude.{Option, None}
use Rattle.std.proofs.lemmas.Bool.Decides.{nat_tests}
use Rattle.trips_isa.specs.declared.op.Op.TheVariants as op
use Rattle.trips_isa.specs.declared.form.Form.{Form}
use Rattle.trips_isa.specs.declared.form.Form.TheVariants as form
use Rattle.trips_isa.specs.declared.block.Token.{Token}
use Rattle.trips_isa.specs.declared.block.Stored.{Stored}
use Rattle.trips_isa.specs.declared.block.Inst.{Inst}
use Rattle.trips_isa.specs.Forms.{form_of, role_of, takes_right}
use Rattle.trips_isa.specs.Rule.{Answer}
use Rattle.ir_forms.specs.declared.hyper.Source.{Source}
use Rattle.ir_forms.specs.declared.hyper.Source.TheVariants.{Reg}
use Rattle.ir_forms.specs.declared.flow.FlowSource.TheVariants.{Node}
use Rattle.ir_forms.specs.declared.flow.FlowNode.{FlowNode}
use Rattle.ir_forms.specs.inside.FlowRuns.{Computes, met, exits, leaving_in}
use Rattle.predication.specs.inside.Environments.{Scope, Env, Bits, from_node, under, member, distinct, no_bits}
use Rattle.predication.specs.inside.Environments.{left_bits}
use Rattle.predication.specs.inside.Operands.{mov_of, operand, second, tested}
use Rattle.predication.specs.inside.Ifs.{Joined, join, items, touched}
use Rattle.predication.specs.inside.Tails.{branch_of, Ending, leaving, tail, tail_touched, address_nodes}
use Rattle.ir_forms.specs.inside.HyperCode.{Items, Done, Set, Load, Save, If, Tail, Leave, Test}
use Rattle.ir_forms.specs.declared.hyper.Exit.{Exit}
use Rattle.ir_forms.specs.declared.hyper.Exit.TheVariants as exit
use Rattle.ir_forms.specs.inside.HyperFits.{FitsItems}
use Rattle.predication.proofs.QuietNodes.{is_inner, Quiet, quiet_append, Inner, inner_append, operand_quiet}
use Rattle.predication.proofs.QuietNodes.{operand_inner, second_inner, exits_append, inner_exits}
use Rattle.predication.proofs.Tables.{present_most, Clear, Dead, Sparse, from_dead, Calm, calm_append, none_clear}
use Rattle.predication.proofs.Tables.{operand_calm, Runs, runs_front, runs_back, operand_few}
use Rattle.predication.proofs.TakenLegs.{join_quiet, join_inner, join_dead, join_calm}
use Rattle.predication.proofs.EmittedIfs.{legs_at, test_at, yea_out, nay_at, nay_out, join_at, joined, rest_at}
use Rattle.predication.proofs.EmittedIfs.{tested_quiet, tested_inner, load_form, store_form}
use Rattle.predication.proofs.Untaken.{absent_clear, absent_test, unmet, Absent, absent_none, dead_here, tested_off}
use Rattle.predication.proofs.Untaken.{tested_calm}
use Rattle.predication.proofs.Ops.{op_form}

-- THE PARTS OF A TEST, BY NAME

-- the first leg of a test at the end, emitted
abbrev pub t_yea : Scope → ℕ → ℕ → Env → Bits → Source → Tail → Ending
t_yea g j e env bits t yea = tail (under (test_at g j env bits t) true) (legs_at g j env bits t) e env no_bits yea

-- where the second leg of a test at the end begins
abbrev pub t_nay_at : Scope → ℕ → ℕ → Env → Bits → Source → Tail → ℕ
t_nay_at g j e env bits t yea = legs_at g j env bits t + length (t_yea g j e env bits t yea).nodes

-- the second leg of a test at the end, emitted
abbrev pub t_nay : Scope → ℕ → ℕ → Env → Bits → Source → Tail → Tail → Ending
t_nay g j e env bits t yea nay = tail (under (test_at g j env bits t) false) (t_nay_at g j e env bits t yea)
    (t_yea g j e env bits t yea).number env no_bits nay

-- where the registers of both legs are joined
abbrev pub t_join_at : Scope → ℕ → ℕ → Env → Bits → Source → Tail → Tail → ℕ
t_join_at g j e env bits t yea nay = t_nay_at g j e env bits t yea + length (t_nay g j e env bits t yea nay).nodes

-- the registers of both legs, joined
abbrev pub t_joined : Scope → ℕ → ℕ → Env → Bits → Source → Tail → Tail → Joined
t_joined g j e env bits t yea nay =
    join (test_at g j env bits t) (t_join_at g j e env bits t yea nay) env (t_yea g j e env bits t yea).env
    (t_nay g j e env bits t yea nay).env (tail_touched yea) (tail_touched nay)
    (distinct (tail_touched yea ++ tail_touched nay))

leaving_quiet : (x : Exit) (g : Scope) (j e : ℕ) (env : Env) → Quiet (leaving g j e env x).nodes
leaving_quiet (exit.Jump l) g j e env = ((refl, refl), tt)
leaving_quiet (exit.Call l back) g j e env = ((refl, refl), ((refl, refl), ((refl, refl), ((refl, refl), tt))))
leaving_quiet exit.Return g j e env = quiet_append (operand j env (Reg 2)).nodes _ (operand_quiet j env (Reg 2))
    ((refl, refl), tt)
leaving_quiet (exit.System l) g j e env = ((refl, refl), tt)

-- the nodes of a tail neither load nor store
pub tail_quiet : (t : Tail) (g : Scope) (j e : ℕ) (env : Env) (bits : Bits) → Quiet (tail g j e env bits t).nodes
tail_quiet (Leave x) g j e env bits = leaving_quiet x g j e env
tail_quiet (Test t yea nay) g j e env bits =
    let k = test_at g j env bits t in
    let y = t_yea g j e env bits t yea in
    let n = t_nay g j e env bits t yea nay in
    quiet_append (tested g j env bits t).nodes _ (tested_quiet g j env bits t)
    (quiet_append y.nodes _ (tail_quiet yea (under k true) (legs_at g j env bits t) e env no_bits)
    (quiet_append n.nodes _ (tail_quiet nay (under k false) (t_nay_at g j e env bits t yea) y.number env no_bits)
    (join_quiet (distinct (tail_touched yea ++ tail_touched nay)) k
    (t_join_at g j e env bits t yea nay) env y.env n.env
    (tail_touched yea) (tail_touched nay))))

-- the nodes of items are no branches
pub items_inner : (is : Items) (g : Scope) (j m : ℕ) (env : Env) (bits : Bits) → FitsItems is
    → Inner (items g j m env bits is).nodes
items_inner Done g j m env bits tk = tt
items_inner (Set r o a b rest) g j m env bits tk =
    let i = j + length (operand j env a).nodes in
    let tr = takes_right (role_of o) in
    inner_append (operand j env a).nodes _ (operand_inner j env a)
    (inner_append (second tr i env b).nodes _ (second_inner tr i env b)
    (ap is_inner (op_form o tk.1), items_inner rest g _ m _ _ tk.4))
items_inner (Load r o a rest) g j m env bits tk =
    inner_append (operand j env a).nodes _ (operand_inner j env a)
    (ap is_inner (load_form (form_of o) tk.1), items_inner rest g _ (suc m) _ _ tk.3)
items_inner (Save o a v rest) g j m env bits tk =
    let i = j + length (operand j env a).nodes in
    inner_append (operand j env a).nodes _ (operand_inner j env a)
    (inner_append (operand i env v).nodes _ (operand_inner i env v)
    (ap is_inner (store_form (form_of o) tk.0), items_inner rest g _ (suc m) env bits tk.3))
items_inner (If t yea nay rest) g j m env bits tk =
    let k = test_at g j env bits t in
    let y = yea_out g j m env bits t yea in
    let n = nay_out g j m env bits t yea nay in
    let c = joined g j m env bits t yea nay in
    inner_append (tested g j env bits t).nodes _ (tested_inner g j env bits t)
    (inner_append y.nodes _ (items_inner yea (under k true) (legs_at g j env bits t) m env no_bits tk.1)
    (inner_append n.nodes _ (items_inner nay (under k false) (nay_at g j m env bits t yea) y.number env no_bits tk.2)
    (inner_append c.nodes _ (join_inner (distinct (touched yea ++ touched nay)) k
    (join_at g j m env bits t yea nay) env y.env n.env (touched yea) (touched nay))
    (items_inner rest g (rest_at g j m env bits t yea nay) n.number c.env
    (left_bits bits (touched yea ++ touched nay)) tk.3))))

module _ (regs : ℕ → ℕ) (h : ℕ → Answer) (f : Computes) (st : ℕ → Option Stored) (mem : List ℕ) where
  abbrev pub Taken : Type 0
  Taken = List (Inst × Token)

  -- one node behind nodes of no branch
  pub one_exit : (j : ℕ) (x : List FlowNode) (n : FlowNode) → Inner x → exits h j (x ++ (n ∷ []))
      ≡ leaving_in (form_of n.op) n (h (j + length x)) ++ []
  one_exit j x n q = exits_append regs h j x (n ∷ []) ∙ rw (inner_exits regs h j x q) refl

  -- the exits of a test at the end are those of its legs
  pub test_exits : (j : ℕ) (x a b c : List FlowNode) → Inner x → Inner c → exits h j (x ++ (a ++ (b ++ c)))
      ≡ exits h (j + length x) a ++ exits h (j + length x + length a) b
  test_exits j x a b c q r =
      exits_append regs h j x (a ++ (b ++ c))
      ∙ rw (
        inner_exits regs h j x q,
        exits_append regs h (j + length x) a (b ++ c),
        exits_append regs h (j + length x + length a) b c,
        inner_exits regs h (j + length x + length a + length b) c r,
      )
      (ap (λ (z : Taken). exits h (j + length x) a ++ z) (append-nil (exits h (j + length x + length a) b)))

  -- the parts of a test's nodes
  pub record TParts (g : Scope) (j e : ℕ) (env : Env) (bits : Bits) (t : Source) (yea nay : Tail) : Type 0 where
    pub test_runs : Runs regs h f st j (tested g j env bits t).nodes
    pub yea_runs : Runs regs h f st (legs_at g j env bits t) (t_yea g j e env bits t yea).nodes
    pub nay_runs : Runs regs h f st (t_nay_at g j e env bits t yea) (t_nay g j e env bits t yea nay).nodes
    pub joined_runs : Runs regs h f st (t_join_at g j e env bits t yea nay) (t_joined g j e env bits t yea nay).nodes

  -- the nodes of a test at the end run part by part
  pub t_parts : (g : Scope) (j e : ℕ) (env : Env) (bits : Bits) (t : Source) (yea nay : Tail)
      → Runs regs h f st j (tail g j e env bits (Test t yea nay)).nodes → TParts g j e env bits t yea nay
  t_parts g j e env bits t yea nay x =
      let xs = (tested g j env bits t).nodes in
      let a = (t_yea g j e env bits t yea).nodes in
      let b = (t_nay g j e env bits t yea nay).nodes in
      let c = (t_joined g j e env bits t yea nay).nodes in
      let i = legs_at g j env bits t in
      let x1 = runs_back regs h f st j xs (a ++ (b ++ c)) x in
      let x2 = runs_back regs h f st i a (b ++ c) x1 in
      record {
        test_runs = runs_front regs h f st j xs (a ++ (b ++ c)) x;
        yea_runs = runs_front regs h f st i a (b ++ c) x1;
        nay_runs = runs_front regs h f st (i + length a) b c x2;
        joined_runs = runs_back regs h f st (i + length a) b c x2;
      }

  -- the nodes of a test at the end are calm where each part's are
  pub calm_test : (x a b c : List FlowNode) → Calm regs h x → Calm regs h a → Calm regs h b → Calm regs h c
      → Calm regs h (x ++ (a ++ (b ++ c)))
  calm_test x a b c kx ka kb kc = calm_append regs h x (a ++ (b ++ c)) kx
      (calm_append regs h a (b ++ c) ka (calm_append regs h b c kb kc))

  -- A TAIL THAT IS NOT TAKEN

  -- what a tail does where its guard is not met: nothing
  pub record TailOff (g : Scope) (j e : ℕ) (env : Env) (bits : Bits) (t : Tail) : Type 0 where
    pub dead : (q : ℕ) → member q (tail_touched t) ≡ true → Dead regs h ((tail g j e env bits t).env q)
    pub exits : exits h j (tail g j e env bits t).nodes ≡ []
    pub calm : Calm regs h (tail g j e env bits t).nodes

  leave_none : (n : FlowNode) (t : Answer) → t ≡ None → leaving_in (form_of n.op) n t ++ [] ≡ []
  leave_none n t e = rw e (by_form (form_of n.op))
    where
      by_form : (F : Form) → leaving_in F n None ++ [] ≡ []
      by_form form.General = refl
      by_form form.Immediate = refl
      by_form form.Load = refl
      by_form form.Store = refl
      by_form form.Branch = refl
      by_form form.Constant = refl

  is_two : (q : ℕ) → cond (nat_eq q 2) true false ≡ true → nat_eq q 2 ≡ true
  is_two q e = grind (arith, nat_tests)

  -- the two nodes of an address are calm
  pub address_calm : (j back : ℕ) → Calm regs h (address_nodes j back)
  address_calm j back = (
    none_clear regs h,
    (omega arith, omega arith),
    (none_clear regs h, (omega (arith, present_most regs h (h j)), omega arith), tt),
  )

  leaving_off : (x : Exit) (g : Scope) (j e : ℕ) (env : Env) (bits : Bits) → Clear regs h g → met h g ≡ false
      → Sparse regs h env
      → Runs regs h f st j (leaving g j e env x).nodes → TailOff g j e env bits (Leave x)
  leaving_off (exit.Jump l) g j e env bits cl u sp y = record {
    dead = λ q z. absurd (cc);
    exits = leave_none (branch_of op.Bro l e g []) (h j) (unmet regs h g (h j) _ u y.0);
    calm = (cl, (omega arith, omega arith), tt);
  }
  leaving_off (exit.System l) g j e env bits cl u sp y = record {
    dead = λ q z. absurd (cc);
    exits = leave_none (branch_of op.Scall 0 e g []) (h j) (unmet regs h g (h j) _ u y.0);
    calm = (cl, (omega arith, omega arith), tt);
  }
  leaving_off (exit.Call l back) g j e env bits cl u sp y =
      let z = runs_back regs h f st j (address_nodes j back)
      (mov_of g (Node (suc j) ∷ []) ∷ branch_of op.Callo l e g [] ∷ []) y in
      let i = suc (suc j) in
      let same : j + length (address_nodes j back) ≡ i = omega arith in
      let z2 = subst (λ (p : ℕ). Runs regs h f st p
      (mov_of g (Node (suc j) ∷ []) ∷ branch_of op.Callo l e g [] ∷ [])) same z in
      record {
        dead = λ q w. dead_here regs h (nat_eq q 2) (from_node i) (env q)
            (from_dead regs h i (unmet regs h g (h i) _ u z2.0)) (is_two q w);
        exits = leave_none (branch_of op.Callo l e g []) (h (suc i)) (unmet regs h g (h (suc i)) _ u z2.2.0);
        calm = calm_append regs h (address_nodes j back)
            (mov_of g (Node (suc j) ∷ []) ∷ branch_of op.Callo l e g [] ∷ []) (address_calm j back)
            (cl, (omega (arith, present_most regs h (h (suc j))), omega arith), (cl, (omega arith, omega arith), tt));
      }
  leaving_off exit.Return g j e env bits cl u sp y =
      let x = operand j env (Reg 2) in
      let n = branch_of op.Ret 0 e g x.sources in
      record {
        dead = λ q z. absurd (cc);
        exits = one_exit j x.nodes n (operand_inner j env (Reg 2))
            ∙ leave_none n (h (j + length x.nodes))
            (unmet regs h g (h (j + length x.nodes)) _ u (runs_back regs h f st j x.nodes (n ∷ []) y).0);
        calm = calm_append regs h x.nodes _ (operand_calm regs h j env (Reg 2) sp) (
          cl,
          (
            operand_few regs h f st j env (Reg 2) sp (runs_front regs h f st j x.nodes (n ∷ []) y),
            omega arith,
          ),
          tt,
        );
      }

  -- where its guard is not met, a tail does nothing and takes no exit
  pub tail_off : (t : Tail) (g : Scope) (j e : ℕ) (env : Env) (bits : Bits) → Clear regs h g → met h g ≡ false
      → Sparse regs h env → Absent regs h bits
      → Runs regs h f st j (tail g j e env bits t).nodes → TailOff g j e env bits t
  tail_off (Leave x) g j e env bits cl u sp ab y = leaving_off x g j e env bits cl u sp y
  tail_off (Test t yea nay) g j e env bits cl u sp ab y =
      let p = t_parts g j e env bits t yea nay y in
      let k = test_at g j env bits t in
      let z : h k ≡ None = tested_off regs h f st mem g j env bits t u ab p.test_runs in
      let uy = absent_test regs h k true z in
      let un = absent_test regs h k false z in
      let cy = absent_clear regs h k true z in
      let cn = absent_clear regs h k false z in
      let yo = t_yea g j e env bits t yea in
      let no' = t_nay g j e env bits t yea nay in
      let c = t_joined g j e env bits t yea nay in
      let ja = t_join_at g j e env bits t yea nay in
      let a = tail_off yea (under k true) (legs_at g j env bits t) e env no_bits cy uy sp
      (absent_none regs h) p.yea_runs in
      let b = tail_off nay (under k false) (t_nay_at g j e env bits t yea) yo.number env no_bits cn un sp
      (absent_none regs h) p.nay_runs in
      record {
        dead = join_dead regs h f st k ja env yo.env no'.env (tail_touched yea)
            (tail_touched nay) cy cn uy un a.dead b.dead p.joined_runs;
        exits = test_exits j (tested g j env bits t).nodes yo.nodes no'.nodes c.nodes (tested_inner g j env bits t)
            (join_inner (distinct (tail_touched yea ++ tail_touched nay)) k ja env yo.env no'.env (tail_touched yea)
            (tail_touched nay)) ∙ rw (a.exits, b.exits) refl;
        calm = calm_test (tested g j env bits t).nodes yo.nodes no'.nodes c.nodes
            (tested_calm regs h f st mem g j env bits t cl sp p.test_runs) a.calm b.calm
            (join_calm regs h f st (distinct (tail_touched yea ++ tail_touched nay)) k ja env yo.env no'.env
            (tail_touched yea)
            (tail_touched nay) cy cn sp p.joined_runs);
      }
