-- Each node of an emitted tail names earlier nodes and fits; exits are counted up.
use Rattle.std.proofs.Common.{◌≡◌, ℕ, suc, ◌+◌, ◌<◌, ◌≤◌, [], ◌∷◌, ◌++◌, length, ◌∙◌, length-append, refl, sym, arith}
use Rattle.std.proofs.Common.{true, false, ◌^◌}
use Rattle.trips_isa.specs.declared.op.Op.TheVariants as op
use Rattle.trips_isa.specs.declared.form.Form.TheVariants as form
use Rattle.ir_forms.specs.declared.hyper.Source.TheVariants.{Reg}
use Rattle.ir_forms.specs.declared.flow.FlowSource.TheVariants.{Node}
use Rattle.predication.specs.inside.Environments.{Scope, Env, Bits, from_node, under, distinct, no_bits}
use Rattle.predication.specs.inside.Operands.{constant_of, mov_of, operand, tested}
use Rattle.predication.specs.inside.Tails.{branch_of, Ending, leaving, tail, tail_touched, high_half, low_half}
use Rattle.predication.proofs.Halves.{high_is, low_is}
use Rattle.predication.proofs.TakenLegs.{member_distinct}
use Rattle.ir_forms.specs.inside.HyperCode.{Tail, Leave, Test}
use Rattle.ir_forms.specs.declared.hyper.Exit.{Exit}
use Rattle.ir_forms.specs.declared.hyper.Exit.TheVariants as exit
use Rattle.ir_forms.specs.inside.HyperFits.{FitsSource, FitsTail, FitsExit, exits_in}
use Rattle.predication.proofs.EmittedIfs.{legs_at, test_at}
use Rattle.predication.proofs.Tails.{t_yea, t_nay_at, t_nay, t_join_at, t_joined}
use Rattle.predication.proofs.Converted.{tail_low, either_low}
use Rattle.predication.proofs.Static.{GoodGuard, Well, Static, Heard, GoodEnv, GoodBits, guard_later, env_later}
use Rattle.predication.proofs.Static.{static_append, heard_front, heard_back, good_under, put_good, no_bits_good}
use Rattle.predication.proofs.Static.{mov_well, genu_well, app_well, operand_static, tested_static}
use Rattle.predication.proofs.StaticItems.{join_static}

module _ (T : ℕ → Type 0) where
  -- TAILS

  pub record Closed (j : ℕ) (o : Ending) : Type 0 where
    pub nodes : Static T j o.nodes
    pub env : (k : ℕ) → j + length o.nodes ≤ k → GoodEnv T k o.env

  exit_grows : (x : Exit) (g : Scope) (j e : ℕ) (env : Env) → suc e ≤ (leaving g j e env x).number
  exit_grows (exit.Jump l) g j e env = omega arith
  exit_grows (exit.Call l back) g j e env = omega arith
  exit_grows exit.Return g j e env = omega arith
  exit_grows (exit.System l) g j e env = omega arith

  exit_number : (x : Exit) (g : Scope) (j e : ℕ) (env : Env) → (leaving g j e env x).number ≡ e + 1
  exit_number (exit.Jump l) g j e env = omega arith
  exit_number (exit.Call l back) g j e env = omega arith
  exit_number exit.Return g j e env = omega arith
  exit_number (exit.System l) g j e env = omega arith

  -- exits are counted up
  pub tail_number : (t : Tail) (g : Scope) (j e : ℕ) (env : Env) (bits : Bits)
      → (tail g j e env bits t).number ≡ e + exits_in t
  tail_number (Leave x) g j e env bits = exit_number x g j e env
  tail_number (Test t yea nay) g j e env bits =
      omega (
        arith,
        tail_number yea (under (test_at g j env bits t) true) (legs_at g j env bits t) e env no_bits,
        tail_number nay (under (test_at g j env bits t) false) (t_nay_at g j e env bits t yea)
            (t_yea g j e env bits t yea).number env no_bits,
      )

  pub tail_grows : (t : Tail) (g : Scope) (j e : ℕ) (env : Env) (bits : Bits) → suc e ≤ (tail g j e env bits t).number
  tail_grows (Leave x) g j e env bits = exit_grows x g j e env
  tail_grows (Test t yea nay) g j e env bits =
      omega (
        arith,
        tail_grows yea (under (test_at g j env bits t) true) (legs_at g j env bits t) e env no_bits,
        tail_grows nay (under (test_at g j env bits t) false) (t_nay_at g j e env bits t yea)
            (t_yea g j e env bits t yea).number env no_bits,
      )

  leaving_static : (x : Exit) (g : Scope) (j e : ℕ) (env : Env) → FitsExit x → GoodGuard T j g → GoodEnv T j env
      → Heard T j (leaving g j e env x).nodes → e < 8 → Closed j (leaving g j e env x)
  leaving_static (exit.Jump l) g j e env t gg ge hd le = record {
    nodes = (
      record {
        form = (t, le);
        taken_left = λ z. refl;
        taken_right = λ z. refl;
        left = tt;
        right = tt;
        guard = gg;
      },
      tt,
    );
    env = λ k z. env_later T j k env (omega (arith, z)) ge;
  }
  leaving_static (exit.System l) g j e env t gg ge hd le = record {
    nodes = (
      record {
        form = (refl, le);
        taken_left = λ z. refl;
        taken_right = λ z. refl;
        left = tt;
        right = tt;
        guard = gg;
      },
      tt,
    );
    env = λ k z. env_later T j k env (omega (arith, z)) ge;
  }
  leaving_static exit.Return g j e env t gg ge hd le =
      let t2 : FitsSource (Reg 2) = omega arith in
      let xo = operand j env (Reg 2) in
      let n = branch_of op.Ret 0 e g xo.sources in
      let x = operand_static T j env (Reg 2) t2 ge (heard_front T j xo.nodes (n ∷ []) hd) in
      let k = j + length xo.nodes in
      let w : Well T k n = record {
        form = (refl, le);
        taken_left = λ z. absurd
            (cc);
        taken_right = λ z. refl;
        left = x.sources k (omega arith);
        right = tt;
        guard =
            guard_later T j k g (omega arith) gg;
      } in
      record {
        nodes = static_append T j xo.nodes (n ∷ []) x.nodes (w, tt);
        env = λ q z. env_later T j q env (omega (arith, z)) ge;
      }
  leaving_static (exit.Call l back) g j e env t gg ge hd le =
      let i = suc (suc j) in
      let lb : back < 2 ^ 32 = t.1 in
      let w1 : Well T j (constant_of op.Genu (high_half back) []) =
      genu_well T j (high_half back) (omega (arith, high_is back lb, lb)) in
      let w2 : Well T (suc j) (constant_of op.App (low_half back) (Node j ∷ [])) =
      app_well T (suc j) (low_half back) (Node j ∷ []) (omega (arith, low_is back lb))
      ((omega arith, hd.0 refl), tt) in
      let w3 : Well T i (mov_of g (Node (suc j) ∷ [])) =
      mov_well T i g (Node (suc j) ∷ []) (guard_later T j i g (omega arith) gg) ((omega arith, hd.1.0 refl), tt) in
      let w4 : Well T (suc i) (branch_of op.Callo l e g []) =
      record {
        form = (t.0, le);
        taken_left = λ z. refl;
        taken_right = λ z. refl;
        left = tt;
        right = tt;
        guard = guard_later T j (suc i) g (omega arith) gg;
      } in
      record {
        nodes = (w1, (w2, (w3, (w4, tt))));
        env = λ k z. put_good T k env 2 (from_node i) (env_later T j k env (omega (arith, z)) ge)
            (((omega (arith, z), hd.1.1.0 refl), tt), tt);
      }

  -- the nodes of an emitted tail are well, and what stands for registers behind them is good
  pub tail_static : (t : Tail) (g : Scope) (j e : ℕ) (env : Env) (bits : Bits) → FitsTail t → GoodGuard T j g
      → GoodEnv T j env → GoodBits T j bits
      → Heard T j (tail g j e env bits t).nodes → (tail g j e env bits t).number ≤ 8
      → Closed j (tail g j e env bits t)
  tail_static (Leave x) g j e env bits tk gg ge gb hd le =
      leaving_static x g j e env tk gg ge hd (omega (arith, exit_grows x g j e env, le))
  tail_static (Test t yea nay) g j e env bits tk gg ge gb hd le =
      let xs = (tested g j env bits t).nodes in
      let k = test_at g j env bits t in
      let i = legs_at g j env bits t in
      let y = t_yea g j e env bits t yea in
      let n = t_nay g j e env bits t yea nay in
      let c = t_joined g j e env bits t yea nay in
      let na = t_nay_at g j e env bits t yea in
      let ja = t_join_at g j e env bits t yea nay in
      let h1 = heard_back T j xs (y.nodes ++ (n.nodes ++ c.nodes)) hd in
      let h2 = heard_back T i y.nodes (n.nodes ++ c.nodes) h1 in
      let h3 = heard_back T na n.nodes c.nodes h2 in
      let x = tested_static T g j env bits t tk.0 gg ge gb
      (heard_front T j xs (y.nodes ++ (n.nodes ++ c.nodes)) hd) in
      let kn : k < na = omega (arith, x.last) in
      let kj : k < ja = omega (arith, x.last) in
      let gr = tail_grows nay (under k false) na y.number env no_bits in
      let ly = tail_static yea (under k true) i e env no_bits tk.1 (good_under T i k true x.last x.talks)
      (env_later T j i env (omega arith) ge) (no_bits_good T i)
      (heard_front T i y.nodes (n.nodes ++ c.nodes) h1) (omega (arith, gr, le)) in
      let ln = tail_static nay (under k false) na y.number env no_bits tk.2 (good_under T na k false kn x.talks)
      (env_later T j na env (omega arith) ge) (no_bits_good T na)
      (heard_front T na n.nodes c.nodes h2) le in
      let lj = join_static T (distinct (tail_touched yea ++ tail_touched nay)) k ja env y.env n.env (tail_touched yea)
      (tail_touched nay)
      (λ q z. either_low q (tail_touched yea) (tail_touched nay) (tail_low yea q) (tail_low nay q)
      (sym (member_distinct q (tail_touched yea ++ tail_touched nay)) ∙ z)) kj x.talks
      (env_later T j ja env (omega arith) ge) (ly.env ja (omega arith)) (ln.env ja (omega arith)) h3 in
      let l1 = length-append xs (y.nodes ++ (n.nodes ++ c.nodes)) in
      let l2 = length-append y.nodes (n.nodes ++ c.nodes) in
      let l3 = length-append n.nodes c.nodes in
      record {
        nodes = static_append T j xs (y.nodes ++ (n.nodes ++ c.nodes)) x.nodes
            (static_append T i y.nodes (n.nodes ++ c.nodes) ly.nodes
            (static_append T na n.nodes c.nodes ln.nodes lj.nodes));
        env = λ q l. lj.env q (omega (arith, l, l1, l2, l3));
      }
