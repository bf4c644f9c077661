-- Where its guard is met, a tail takes exactly one exit, and it is the tail's.
use Rattle.std.proofs.Common.{◌≡◌, ℕ, suc, ◌+◌, List, [], ◌∷◌, ◌++◌, length, refl, sym, ap, subst, ◌∙◌, arith, Bool}
use Rattle.std.proofs.Common.{true, false}
use Rattle.std.specs.Prelude.{Option, Some, None}
use Rattle.trips_isa.specs.declared.op.Op.TheVariants as op
use Rattle.trips_isa.specs.declared.form.Form.TheVariants as form
use Rattle.trips_isa.specs.declared.block.Token.{Token}
use Rattle.trips_isa.specs.declared.block.Token.TheVariants.{Word}
use Rattle.trips_isa.specs.declared.block.Stored.{Stored}
use Rattle.trips_isa.specs.declared.block.Inst.{Inst}
use Rattle.trips_isa.specs.Forms.{form_of, role_of}
use Rattle.trips_isa.specs.Rule.{Answer, low}
use Rattle.trips_isa.specs.Rule as rule
use Rattle.ir_forms.specs.declared.hyper.Source.TheVariants.{Reg}
use Rattle.ir_forms.specs.declared.flow.FlowSource.TheVariants.{Node}
use Rattle.ir_forms.specs.declared.flow.FlowNode.{FlowNode}
use Rattle.ir_forms.specs.inside.HyperRuns.{register_put, value_of, Machine, Layout, exit_of}
use Rattle.ir_forms.specs.inside.FlowRuns.{Computes, first, gives, met, exits, leaving_in, inst_of}
use Rattle.predication.specs.inside.Environments.{Scope, Env, Bits, from_node, under, distinct, no_bits}
use Rattle.predication.specs.inside.Operands.{constant_of, mov_of, operand, tested}
use Rattle.predication.specs.inside.Tails.{branch_of, leaving, tail, tail_touched, address_nodes, high_half, low_half}
use Rattle.predication.proofs.Halves.{halves_make}
use Rattle.ir_forms.specs.inside.HyperCode.{Tail, Leave, Test}
use Rattle.ir_forms.specs.declared.hyper.Exit.{Exit}
use Rattle.ir_forms.specs.declared.hyper.Exit.TheVariants as exit
use Rattle.ir_forms.specs.inside.HyperFits.{FitsSource, FitsTail, FitsExit}
use Rattle.predication.proofs.Tables.{present_most, Clear, Live, live_sparse, from_sound, live_put, Calm, calm_append}
use Rattle.predication.proofs.Tables.{operand_calm, Runs, runs_front, runs_back, operand_few}
use Rattle.predication.proofs.QuietNodes.{operand_inner}
use Rattle.predication.proofs.TakenLegs.{tail_untouched, join_inner, join_yea, join_nay, join_calm}
use Rattle.predication.proofs.EmittedIfs.{legs_at, test_at, tested_inner}
use Rattle.predication.proofs.Untaken.{word_clear, absent_none, tested_calm}
use Rattle.predication.proofs.Operands.{Meant, operand_gives}
use Rattle.trips_isa.specs.Alu.{alu_of}
use Rattle.predication.proofs.Taken.{BitsAre, no_bit, tested_decides, test_met, met_node, nonzero, pick_yea, pick_nay}
use Rattle.ir_forms.specs.inside.HyperRuns as HyperRuns
use Rattle.ir_forms.specs.inside.Agreement.{IsExit}
use Rattle.predication.proofs.Tails.{t_yea, t_nay_at, t_nay, t_join_at, t_joined, one_exit, test_exits, TParts}
use Rattle.predication.proofs.Tails.{t_parts, calm_test, TailOff, address_calm, tail_off}

module _ (regs : ℕ → ℕ) (h : ℕ → Answer) (f : Computes) (st : ℕ → Option Stored) (mem : List ℕ) where
  -- A TAIL THAT IS TAKEN

  -- what the exit is, where the nodes give what the state makes of them
  pub record Ends (t : Tail) (s : Machine) (after : ℕ → ℕ) (exit : Inst × Token) : Type 0 where
    pub registers : (at : Layout) → ((l : ℕ) → at.address l ≡ l) → after
        ≡ (HyperRuns.leaving at (exit_of t s.registers) s).registers
    pub is : IsExit (exit_of t s.registers) s exit

  -- what a tail does where its guard is met: one exit, which is the tail's
  pub record TailOn (g : Scope) (j e : ℕ) (env : Env) (bits : Bits) (t : Tail) (s : Machine) : Type 0 where
    pub after : ℕ → ℕ
    pub exit : Inst × Token
    pub live : Live regs h (tail g j e env bits t).env after
    pub only : exits h j (tail g j e env bits t).nodes ≡ exit ∷ []
    pub calm : Calm regs h (tail g j e env bits t).nodes
    pub means : Meant regs h f st mem → Ends t s after exit

  leaves_with : (n : FlowNode) (t : Answer) (w : ℕ) → form_of n.op ≡ form.Branch → t ≡ Some (Word w)
      → leaving_in (form_of n.op) n t ++ [] ≡ (inst_of n, Word w) ∷ []
  leaves_with n t w b z = rw (b, z) refl

  leaving_on : (x : Exit) (g : Scope) (j e : ℕ) (env : Env) (bits : Bits) (s : Machine) → FitsExit x → Clear regs h g
      → met h g ≡ true → Live regs h env s.registers
      → Runs regs h f st j (leaving g j e env x).nodes → TailOn g j e env bits (Leave x) s
  leaving_on (exit.Jump l) g j e env bits s fits cl u lv y =
      let n = branch_of op.Bro l e g [] in
      let w = f j n 0 0 in
      record {
        after = s.registers;
        exit = (inst_of n, Word w);
        live = lv;
        only = leaves_with n (h j) w refl (met_node regs h f st mem g (h j) _ u y.0);
        calm = (cl, (omega arith, omega arith), tt);
        means = λ m. record { registers = λ at a. refl; is = (refl, refl) };
      }
  leaving_on (exit.System l) g j e env bits s fits cl u lv y =
      let n = branch_of op.Scall 0 e g [] in
      let w = f j n 0 0 in
      record {
        after = s.registers;
        exit = (inst_of n, Word w);
        live = lv;
        only = leaves_with n (h j) w refl (met_node regs h f st mem g (h j) _ u y.0);
        calm = (cl, (omega arith, omega arith), tt);
        means = λ m. record { registers = λ at a. refl; is = refl };
      }
  leaving_on exit.Return g j e env bits s fits cl u lv y =
      let x = operand j env (Reg 2) in
      let n = branch_of op.Ret 0 e g x.sources in
      let k = j + length x.nodes in
      let sp = live_sparse regs h env s.registers lv in
      let xf = runs_front regs h f st j x.nodes (n ∷ []) y in
      let t2 : FitsSource (Reg 2) = omega arith in
      let ga = operand_gives regs h f st mem j env (Reg 2) s.registers t2 lv xf in
      let w = f k n ga.word 0 in
      let z : rule.gives (role_of op.Ret) (f k n) (first regs h x.sources) None ≡ Some (Word w) = rw ga.gives refl in
      record {
        after = s.registers;
        exit = (inst_of n, Word w);
        live = lv;
        only = one_exit regs h f st mem j x.nodes n (operand_inner j env (Reg 2))
            ∙ leaves_with n (h k) w refl (met_node regs h f st mem g (h k) _ u
            (runs_back regs h f st j x.nodes (n ∷ []) y).0 ∙ z);
        calm = calm_append regs h x.nodes _ (operand_calm regs h j env (Reg 2) sp)
            (cl, (operand_few regs h f st j env (Reg 2) sp xf, omega arith), tt);
        means = λ m. record {
          registers = λ at a. refl;
          is =
              (refl, ap (λ (v : ℕ). Word v) (m k n ga.word 0 ∙ ga.means m));
        };
      }
  leaving_on (exit.Call l back) g j e env bits s fits cl u lv y =
      let z = runs_back regs h f st j (address_nodes j back)
      (mov_of g (Node (suc j) ∷ []) ∷ branch_of op.Callo l e g [] ∷ []) y in
      let i = suc (suc j) in
      let same : j + length (address_nodes j back) ≡ i = omega arith in
      let z2 = subst (λ (p : ℕ). Runs regs h f st p
      (mov_of g (Node (suc j) ∷ []) ∷ branch_of op.Callo l e g [] ∷ [])) same z in
      let n1 = constant_of op.Genu (high_half back) [] in
      let n2 = constant_of op.App (low_half back) (Node j ∷ []) in
      let nb = branch_of op.Callo l e g [] in
      let w1 = f j n1 0 0 in
      let w2 = f (suc j) n2 w1 0 in
      let e1 : h j ≡ Some (Word w1) = y.0 in
      let e2 : gives regs h (f (suc j) n2) n2 ≡ Some (Word w2) = rw e1 refl in
      let e3 : h (suc j) ≡ Some (Word w2) = y.2.0 ∙ e2 in
      let e4 : first regs h (Node (suc j) ∷ []) ≡ Some (Word w2) = rw e3 refl in
      let e5 : h i ≡ Some (Word w2) = met_node regs h f st mem g (h i) _ u z2.0 ∙ e4 in
      let wb = f (suc i) nb 0 0 in
      record {
        after = register_put s.registers 2 w2;
        exit = (inst_of nb, Word wb);
        live = live_put regs h env s.registers 2 w2 (from_node i) lv (λ old. from_sound regs h i w2 old e5);
        only = leaves_with nb (h (suc i)) wb refl (met_node regs h f st mem g (h (suc i)) _ u z2.2.0);
        calm = calm_append regs h (address_nodes j back)
            (mov_of g (Node (suc j) ∷ []) ∷ branch_of op.Callo l e g [] ∷ []) (address_calm regs h f st mem j back)
            (cl, (omega (arith, present_most regs h (h (suc j))), omega arith), (cl, (omega arith, omega arith), tt));
        means = λ m.
            let a1 : w1 ≡ high_half back = m j n1 0 0 in
            let a2 : w2 ≡ back = m (suc j) n2 w1 0 ∙ ap (λ (p : ℕ). alu_of op.App p (low_half back)) a1
            ∙ halves_make back fits.1 in
            record {
              registers = λ at a. ap (λ (p : ℕ). register_put s.registers 2 p) (a2 ∙ sym (a back));
              is = (refl, refl);
            };
      }

  -- where its guard is met, a tail takes exactly one exit, and it is the tail's
  pub tail_on : (t : Tail) (g : Scope) (j e : ℕ) (env : Env) (bits : Bits) (s : Machine) → FitsTail t
      → Clear regs h g → met h g ≡ true → Live regs h env s.registers → BitsAre regs h f st mem bits s.registers
      → Runs regs h f st j (tail g j e env bits t).nodes → TailOn g j e env bits t s
  tail_on (Leave x) g j e env bits s tk cl u lv bs y = leaving_on x g j e env bits s tk cl u lv y
  tail_on (Test t yea nay) g j e env bits s tk cl u lv bs y =
      let p = t_parts regs h f st mem g j e env bits t yea nay y in
      let k = test_at g j env bits t in
      let d = tested_decides regs h f st mem g j env bits t s.registers tk.0 u lv bs p.test_runs in
      let sp = live_sparse regs h env s.registers lv in
      let yo = t_yea g j e env bits t yea in
      go p d.word d.gives d.means
      (λ c v. tail_on yea (under k true) (legs_at g j env bits t) e env no_bits s tk.1 c v lv
      (no_bit regs h f st mem s.registers) p.yea_runs)
      (λ c v. tail_off regs h f st mem yea (under k true) (legs_at g j env bits t) e env no_bits c v sp
      (absent_none regs h) p.yea_runs)
      (λ c v. tail_on nay (under k false) (t_nay_at g j e env bits t yea) yo.number env no_bits s tk.2 c v lv
      (no_bit regs h f st mem s.registers) p.nay_runs)
      (λ c v. tail_off regs h f st mem nay (under k false) (t_nay_at g j e env bits t yea) yo.number env no_bits c v
      sp (absent_none regs h) p.nay_runs)
      (low d.word) refl
    where
      go : TParts regs h f st mem g j e env bits t yea nay → (w : ℕ) → h (test_at g j env bits t) ≡ Some (Word w)
          → (Meant regs h f st mem → low w ≡ nonzero (value_of s.registers t))
          → (Clear regs h (under (test_at g j env bits t) true) → met h (under (test_at g j env bits t) true) ≡ true
          → TailOn (under (test_at g j env bits t) true) (legs_at g j env bits t) e env no_bits yea s)
          → (Clear regs h (under (test_at g j env bits t) true) → met h (under (test_at g j env bits t) true) ≡ false
          → TailOff regs h f st mem (under (test_at g j env bits t) true) (legs_at g j env bits t) e env no_bits yea)
          → (Clear regs h (under (test_at g j env bits t) false) → met h (under (test_at g j env bits t) false)
          ≡ true → TailOn (under (test_at g j env bits t) false) (t_nay_at g j e env bits t yea)
          (t_yea g j e env bits t yea).number env no_bits nay s)
          → (Clear regs h (under (test_at g j env bits t) false) → met h (under (test_at g j env bits t) false)
          ≡ false → TailOff regs h f st mem (under (test_at g j env bits t) false) (t_nay_at g j e env bits t yea)
          (t_yea g j e env bits t yea).number env no_bits nay)
          → (b : Bool) → low w ≡ b → TailOn g j e env bits (Test t yea nay) s
      go p w z wm ya yf na nf true o =
          let k = test_at g j env bits t in
          let ms = test_met regs h f st mem k w true z o in
          let cy = word_clear regs h k w true z in
          let cn = word_clear regs h k w false z in
          let a = ya cy ms.0 in
          let b = nf cn ms.1 in
          let sp = live_sparse regs h env s.registers lv in
          let yo = t_yea g j e env bits t yea in
          let no' = t_nay g j e env bits t yea nay in
          let c = t_joined g j e env bits t yea nay in
          let ja = t_join_at g j e env bits t yea nay in
          record {
            after = a.after;
            exit = a.exit;
            live = join_yea regs h f st k ja env yo.env no'.env (tail_touched yea)
                (tail_touched nay) a.after cy cn ms.0 ms.1 a.live
                (tail_untouched yea (under k true) (legs_at g j env bits t) e env no_bits) b.dead p.joined_runs;
            only = test_exits regs h f st mem j (tested g j env bits t).nodes yo.nodes no'.nodes c.nodes
                (tested_inner g j env bits t)
                (join_inner (distinct (tail_touched yea ++ tail_touched nay)) k ja env yo.env no'.env
                (tail_touched yea) (tail_touched nay)) ∙ rw (a.only, b.exits) refl;
            calm = calm_test regs h f st mem (tested g j env bits t).nodes yo.nodes no'.nodes c.nodes
                (tested_calm regs h f st mem g j env bits t cl sp p.test_runs) a.calm b.calm
                (join_calm regs h f st (distinct (tail_touched yea ++ tail_touched nay)) k ja env yo.env no'.env
                (tail_touched yea) (tail_touched nay) cy cn sp p.joined_runs);
            means = λ m.
                let v = value_of s.registers t in
                let q : exit_of (Test t yea nay) s.registers ≡ exit_of yea s.registers =
                pick_yea v (exit_of yea s.registers) (exit_of nay s.registers) (sym (wm m) ∙ o) in
                let r = a.means m in
                record {
                  registers = λ at i. r.registers at i
                      ∙ ap (λ (x : Exit). (HyperRuns.leaving at x s).registers) (sym q);
                  is = subst (λ (x : Exit). IsExit x s a.exit) (sym q) r.is;
                };
          }
      go p w z wm ya yf na nf false o =
          let k = test_at g j env bits t in
          let ms = test_met regs h f st mem k w false z o in
          let cy = word_clear regs h k w true z in
          let cn = word_clear regs h k w false z in
          let a = yf cy ms.0 in
          let b = na cn ms.1 in
          let sp = live_sparse regs h env s.registers lv in
          let yo = t_yea g j e env bits t yea in
          let no' = t_nay g j e env bits t yea nay in
          let c = t_joined g j e env bits t yea nay in
          let ja = t_join_at g j e env bits t yea nay in
          record {
            after = b.after;
            exit = b.exit;
            live = join_nay regs h f st k ja env yo.env no'.env (tail_touched yea)
                (tail_touched nay) b.after cy cn ms.0 ms.1 b.live
                (tail_untouched nay (under k false)
                (t_nay_at g j e env bits t yea) yo.number env no_bits) a.dead p.joined_runs;
            only = test_exits regs h f st mem j (tested g j env bits t).nodes yo.nodes no'.nodes c.nodes
                (tested_inner g j env bits t)
                (join_inner (distinct (tail_touched yea ++ tail_touched nay)) k ja env yo.env no'.env
                (tail_touched yea) (tail_touched nay)) ∙ rw (a.exits, b.only) refl;
            calm = calm_test regs h f st mem (tested g j env bits t).nodes yo.nodes no'.nodes c.nodes
                (tested_calm regs h f st mem g j env bits t cl sp p.test_runs) a.calm b.calm
                (join_calm regs h f st (distinct (tail_touched yea ++ tail_touched nay)) k ja env yo.env no'.env
                (tail_touched yea) (tail_touched nay) cy cn sp p.joined_runs);
            means = λ m.
                let v = value_of s.registers t in
                let q : exit_of (Test t yea nay) s.registers ≡ exit_of nay s.registers =
                pick_nay v (exit_of yea s.registers) (exit_of nay s.registers) (sym (wm m) ∙ o) in
                let r = b.means m in
                record {
                  registers = λ at i. r.registers at i
                      ∙ ap (λ (x : Exit). (HyperRuns.leaving at x s).registers) (sym q);
                  is = subst (λ (x : Exit). IsExit x s b.exit) (sym q) r.is;
                };
          }
