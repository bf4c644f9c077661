-- The nodes of an end that is one exit, or a test between two jumps.
use Rattle.std.proofs.Common.{◌≡◌, ℕ, suc, ◌+◌, ◌≤◌, Bool, true, false, List, [], ◌∷◌, ◌++◌}
use Rattle.std.proofs.Common.{length, refl, sym, ap, ◌∙◌, arith, ◌⊎◌, inl, inr, cond, nat_eq}
use Rattle.std.specs.Prelude.{Some, None, pos, ℤ}
use Rattle.trips_isa.specs.declared.op.Op.{Op}
use Rattle.trips_isa.specs.declared.op.Op.TheVariants as op
use Rattle.trips_isa.specs.declared.form.Form.TheVariants as form
use Rattle.trips_isa.specs.Forms.{form_of, role_of, takes_left, takes_right}
use Rattle.ir_forms.specs.declared.hyper.Source.{Source}
use Rattle.ir_forms.specs.declared.hyper.Source.TheVariants.{Reg}
use Rattle.ir_forms.specs.declared.hyper.Exit.{Exit}
use Rattle.ir_forms.specs.declared.hyper.Exit.TheVariants as exit
use Rattle.ir_forms.specs.declared.flow.FlowSource.{FlowSource}
use Rattle.ir_forms.specs.declared.flow.FlowSource.TheVariants.{Node}
use Rattle.ir_forms.specs.declared.flow.Guard.{Guard}
use Rattle.ir_forms.specs.declared.flow.FlowNode.{FlowNode}
use Rattle.ir_forms.specs.inside.HyperCode.{Tail, Leave, Test}
use Rattle.hyper_build.specs.inside.Smallness.{TestsJump}
use Rattle.predication.specs.inside.Environments.{Env, Bits, put, from_node, member, under}
use Rattle.predication.specs.inside.Operands.{operand, tested, constant_of, mov_of}
use Rattle.predication.specs.inside.Tails.{Ending, leaving, tail, tail_touched, branch_of, high_half, low_half}
use Rattle.c_compile_blocks.specs.inside.Prices.{price}
use Rattle.c_compile_blocks.specs.inside.Costs.{tail_cost, source_cost}
use Rattle.c_compile_blocks.proofs.Flat.{uses, times, node_uses, named_once, Told, told_front, Good, nothing}
use Rattle.c_compile_blocks.proofs.Flat.{no_piece, grouped}
use Rattle.c_compile_blocks.proofs.Pieces.{IsSet, ArePlain, set_later, put_kept, put_here}
use Rattle.c_compile_blocks.proofs.Pieces.{AreBits, Names, operand_piece, tested_is}

-- an exit under a guard that node c gives
pub record IsGuarded (c : ℕ) (n : FlowNode) : Type 0 where
  pub branch : form_of n.op ≡ form.Branch
  pub left : n.left ≡ []
  pub right : n.right ≡ []
  pub guard : (g : Guard) → n.guard ≡ Some g → g.node ≡ c

-- each of some nodes is an exit under a guard that node c gives
abbrev pub AreGuarded : ℕ → List FlowNode → Type 0
AreGuarded c [] = Unit {0}
AreGuarded c (n ∷ ns) = IsGuarded c n × AreGuarded c ns

leg_guarded : (c : ℕ) (s : Bool) (l e : ℕ) → IsGuarded c (branch_of op.Bro l e (under c s) [])
leg_guarded c s l e = record {
  branch = refl;
  left = refl;
  right = refl;
  guard = λ g d. go g d;
}
  where
    go : (g : Guard) → under c s ≡ Some g → g.node ≡ c
    go g d = cc

-- the registers of an exit and of an end may be read
abbrev pub NamesExit : (ℕ → Type 0) → Exit → Type 0
NamesExit P (exit.Jump l) = Unit {0}
NamesExit P (exit.Call l back) = Unit {0}
NamesExit P exit.Return = P 2
NamesExit P (exit.System l) = Unit {0}

-- the registers of an end may be read
abbrev pub NamesEnd : (ℕ → Type 0) → Tail → Type 0
NamesEnd P (Leave e) = NamesExit P e
NamesEnd P (Test t one other) = Names P t

module _ (T P : ℕ → Type 0) where
  -- what an end comes to, from node j on: nodes without guards, and exits under guards behind them
  pub record IsEnd (j : ℕ) (before : Env) (t : Tail) (e : Ending) : Type 0 where
    pub front : List FlowNode
    pub behind : List FlowNode
    pub chooser : ℕ
    pub nodes : e.nodes ≡ front ++ behind
    pub front_cost : ℕ
    pub good : Good P j front front_cost
    pub after : AreGuarded chooser behind
    pub test : (behind ≡ []) ⊎ T chooser
    pub cost : front_cost + price behind ≤ tail_cost t
    pub kept : (r : ℕ) → IsSet j (before r) → IsSet (j + length front) (e.env r)
    pub sets : (r : ℕ) → member r (tail_touched t) ≡ true → IsSet (j + length front) (e.env r)

  -- a node without operands
  lone : (j : ℕ) (o : Op) (i : ℤ) (m : ℕ) → takes_left (role_of o) ≡ false → takes_right (role_of o) ≡ false
      → form_of o ≡ form.Branch
      → Good P j (record { op = o; imm = i; number = m; guard = None; left = []; right = [] } ∷ []) 1
  lone j o i m l r f = record {
    nodes = (
      record {
        guard = refl;
        left = λ e. absurd (let z = sym l ∙ e in cc);
        right = λ e. absurd (let z = sym r ∙ e in cc);
      },
      tt,
    );
    used = ((λ e. absurd (let z = sym f ∙ e in cc)), tt);
    reads = ((λ q e. absurd (cc)), (λ q e. absurd (cc)), tt);
    cost = (let z = own_is in omega (arith, z));
  }
    where
      own_is : price (record { op = o; imm = i; number = m; guard = None; left = []; right = [] } ∷ []) ≡ 1
      own_is = rw f refl

  -- the address to come back to, a mov of it, and the call
  pub call_good : (j l e w : ℕ) → Good P j (constant_of op.Genu (high_half w) []
      ∷ constant_of op.App (low_half w) (Node j ∷ []) ∷ mov_of None (Node (suc j) ∷ [])
      ∷ branch_of op.Callo l e None [] ∷ []) 4
  call_good j l e w =
      let genu = constant_of op.Genu (high_half w) [] in
      let app = constant_of op.App (low_half w) (Node j ∷ []) in
      let mov = mov_of None (Node (suc j) ∷ []) in
      let call = branch_of op.Callo l e None [] in
      let all : (s : FlowSource) → times s (Node j ∷ []) + times s (Node (suc j) ∷ []) ≤ uses s
      (genu ∷ app ∷ mov ∷ call ∷ []) =
      λ s.
      let a : uses s (genu ∷ app ∷ mov ∷ call ∷ []) ≡ 0 + (0 + 0) + uses s (app ∷ mov ∷ call ∷ []) =
      node_uses s genu (app ∷ mov ∷ call ∷ []) in
      let b : uses s (app ∷ mov ∷ call ∷ []) ≡ times s (Node j ∷ []) + (0 + 0) + uses s (mov ∷ call ∷ []) =
      node_uses s app (mov ∷ call ∷ []) in
      let c : uses s (mov ∷ call ∷ []) ≡ times s (Node (suc j) ∷ []) + (0 + 0) + uses s (call ∷ []) =
      node_uses s mov (call ∷ []) in
      omega (arith, a, b, c) in
      record {
        nodes = (
          record { guard = refl; left = λ d. absurd (cc); right = λ d. absurd (cc) },
          (
            record { guard = refl; left = λ d. omega arith; right = λ d. absurd (cc) },
            (
              record { guard = refl; left = λ d. omega arith; right = λ d. absurd (cc) },
              (record { guard = refl; left = λ d. absurd (cc); right = λ d. absurd (cc) }, tt),
            ),
          ),
        );
        used = (
          (λ d. let h = all (Node j) in let n = named_once (Node j) in omega (arith, h, n)),
          (
            (λ d. let h = all (Node (suc j)) in let n = named_once (Node (suc j)) in omega (arith, h, n)),
            ((λ d. absurd (cc)), ((λ d. absurd (cc)), tt)),
          ),
        );
        reads = (
          (λ q d. absurd (cc)),
          (λ q d. absurd (cc)),
          (
            (λ q d. absurd (cc)),
            (λ q d. absurd (cc)),
            ((λ q d. absurd (cc)), (λ q d. absurd (cc)), ((λ q d. absurd (cc)), (λ q d. absurd (cc)), tt)),
          ),
        );
        cost = omega arith;
      }

  no_end : (xs : List FlowNode) → xs ≡ xs ++ []
  no_end [] = refl
  no_end (x ∷ xs) = ap (λ (l : List FlowNode). x ∷ l) (no_end xs)

  exit_end : (x : Exit) (j e : ℕ) (env : Env) → NamesExit P x → ArePlain j env
      → IsEnd j env (Leave x) (leaving None j e env x)
  exit_end (exit.Jump l) j e env p g = record {
    front = branch_of op.Bro l e None [] ∷ [];
    behind = [];
    chooser = 0;
    nodes = refl;
    front_cost = 1;
    good = lone j op.Bro (pos l) e refl refl refl;
    after = tt;
    test = inl refl;
    cost = omega arith;
    kept = λ r s. set_later j (j + 1) (env r) (omega arith) s;
    sets = λ r d. absurd (cc);
  }
  exit_end (exit.System l) j e env p g = record {
    front = branch_of op.Scall 0 e None [] ∷ [];
    behind = [];
    chooser = 0;
    nodes = refl;
    front_cost = 1;
    good = lone j op.Scall (pos 0) e refl refl refl;
    after = tt;
    test = inl refl;
    cost = omega arith;
    kept = λ r s. set_later j (j + 1) (env r) (omega arith) s;
    sets = λ r d. absurd (cc);
  }
  exit_end (exit.Call l back) j e env p g = record {
    front = (leaving None j e env (exit.Call l back)).nodes;
    behind = [];
    chooser = 0;
    nodes = refl;
    front_cost = 4;
    good = call_good j l e back;
    after = tt;
    test = inl refl;
    cost = omega arith;
    kept = λ r s.
        set_later (suc (suc (suc j))) (j + 4) (put env 2 (from_node (suc (suc j))) r) (omega arith)
        (put_kept j (suc (suc j)) env 2 r (omega arith) s);
    sets = λ r d. go r (nat_eq r 2) refl d;
  }
    where
      go : (r : ℕ) (b : Bool) → nat_eq r 2 ≡ b → cond b true false ≡ true
          → IsSet (j + 4) (put env 2 (from_node (suc (suc j))) r)
      go r true z d =
          set_later (suc (suc (suc j))) (j + 4) (put env 2 (from_node (suc (suc j))) r) (omega arith)
          (put_here (suc (suc j)) env 2 r z)
      go r false z d = absurd (cc)
  exit_end exit.Return j e env p g =
      let x = operand j env (Reg 2) in
      let n = branch_of op.Ret 0 e None x.sources in
      let h = grouped P j x.nodes [] x.sources [] 1 0 0 false op.Ret (pos 0) e [] (operand_piece P j env (Reg 2) g p)
      (no_piece P (j + length x.nodes)) (λ d. absurd (cc)) (λ d. absurd (cc))
      (nothing P (suc (j + length x.nodes + 0))) in
      record {
        front = x.nodes ++ (n ∷ []);
        behind = [];
        chooser = 0;
        nodes = no_end (x.nodes ++ (n ∷ []));
        front_cost = 2;
        good = record {
          nodes = h.nodes;
          used = h.used;
          reads = h.reads;
          cost = (let c = h.cost in omega (arith, c));
        };
        after = tt;
        test = inl refl;
        cost = omega arith;
        kept = λ r s. set_later j (j + length (x.nodes ++ (n ∷ []))) (env r) (omega arith) s;
        sets = λ r d. absurd (cc);
      }

  test_end : (t : Source) (a b : ℕ) (j e : ℕ) (env : Env) (bits : Bits) → Names P t → ArePlain j env
      → AreBits T bits
      → Told T j (tail None j e env bits (Test t (Leave (exit.Jump a)) (Leave (exit.Jump b)))).nodes
      → IsEnd j env (Test t (Leave (exit.Jump a)) (Leave (exit.Jump b)))
      (tail None j e env bits (Test t (Leave (exit.Jump a)) (Leave (exit.Jump b))))
  test_end t a b j e env bits p g h k =
      let x = tested None j env bits t in
      let y = branch_of op.Bro a e (under x.last true) [] in
      let n = branch_of op.Bro b (suc e) (under x.last false) [] in
      let w = tested_is P T j env bits t g h p (told_front T j x.nodes (y ∷ n ∷ []) k) in
      record {
        front = x.nodes;
        behind = y ∷ n ∷ [];
        chooser = x.last;
        nodes = refl;
        front_cost = 1 + source_cost t;
        good = w.good;
        after = (leg_guarded x.last true a e, (leg_guarded x.last false b (suc e), tt));
        test = inr w.test;
        cost = omega arith;
        kept = λ r s. set_later j (j + length x.nodes) (env r) (omega arith) s;
        sets = λ r d. absurd (cc);
      }

  -- an end that is one exit or a test between two jumps comes to flat nodes and exits under one guard
  pub tail_end : (t : Tail) (j e : ℕ) (env : Env) (bits : Bits) → TestsJump t → NamesEnd P t → ArePlain j env
      → AreBits T bits → Told T j (tail None j e env bits t).nodes → IsEnd j env t (tail None j e env bits t)
  tail_end (Leave x) j e env bits u p g h k = exit_end x j e env p g
  tail_end (Test t (Leave (exit.Jump a)) (Leave (exit.Jump b))) j e env bits u p g h k =
      test_end t a b j e env bits p g h k
  tail_end (Test t (Leave (exit.Call l back)) other) j e env bits u p g h k = absurd (u.0)
  tail_end (Test t (Leave exit.Return) other) j e env bits u p g h k = absurd (u.0)
  tail_end (Test t (Leave (exit.System l)) other) j e env bits u p g h k = absurd (u.0)
  tail_end (Test t (Test s x y) other) j e env bits u p g h k = absurd (u.0)
  tail_end (Test t (Leave (exit.Jump a)) (Leave (exit.Call l back))) j e env bits u p g h k = absurd (u.1)
  tail_end (Test t (Leave (exit.Jump a)) (Leave exit.Return)) j e env bits u p g h k = absurd (u.1)
  tail_end (Test t (Leave (exit.Jump a)) (Leave (exit.System l))) j e env bits u p g h k = absurd (u.1)
  tail_end (Test t (Leave (exit.Jump a)) (Test s x y)) j e env bits u p g h k = absurd (u.1)
