-- The nodes of an exit under a scope of a block of one test, and of a test between two exits.
use Rattle.std.proofs.Common.{◌≡◌, ℕ, suc, ◌+◌, ◌*◌, ◌≤◌, Bool, true, false, List, [], ◌∷◌, ◌++◌, length, refl}
use Rattle.std.proofs.Common.{arith, length-append, cond, nat_eq, inl}
use Rattle.std.specs.Prelude.{None, pos}
use Rattle.trips_isa.specs.declared.op.Op.{Op}
use Rattle.trips_isa.specs.declared.op.Op.TheVariants as op
use Rattle.trips_isa.specs.declared.form.Form.{Form}
use Rattle.trips_isa.specs.declared.form.Form.TheVariants as form
use Rattle.trips_isa.specs.Forms.{form_of, role_of, takes_left, takes_right}
use Rattle.ir_forms.specs.declared.hyper.Source.{Source}
use Rattle.ir_forms.specs.declared.hyper.Source.TheVariants.{Reg}
use Rattle.ir_forms.specs.declared.hyper.Exit.{Exit}
use Rattle.ir_forms.specs.declared.hyper.Exit.TheVariants as exit
use Rattle.ir_forms.specs.declared.flow.FlowSource.{FlowSource}
use Rattle.ir_forms.specs.declared.flow.FlowSource.TheVariants.{Node}
use Rattle.ir_forms.specs.declared.flow.FlowNode.{FlowNode}
use Rattle.ir_forms.specs.inside.HyperCode.{Leave, Test}
use Rattle.predication.specs.inside.Environments.{Scope, Env, Bits, put, from_node, under, member, distinct}
use Rattle.predication.specs.inside.Operands.{Chain, operand, constant_of, mov_of, tested}
use Rattle.predication.specs.inside.Ifs.{Joined, join}
use Rattle.predication.specs.inside.Tails.{Ending, branch_of, exit_touched, leaving, tail, high_half, low_half}
use Rattle.fan_out.specs.inside.Wires.{guard_sources}
use Rattle.fan_out.specs.inside.Counts.{noted}
use Rattle.c_compile_blocks.proofs.Flat.{uses, times, node_uses, named_once, AreUsed, own_most}
use Rattle.c_compile_blocks.proofs.Pieces.{AreBits, Names}
use Rattle.c_compile_blocks.proofs.TailNodes.{NamesExit}
use Rattle.c_compile_blocks.proofs.Firmness.{bare_there}
use Rattle.c_compile_blocks.proofs.Supplies.{AreAt, at_front, at_back}
use Rattle.c_compile_blocks.proofs.OneGuard.{IsGuardBy, unguarded, under_by, guard_one, one_most, IsHeld}
use Rattle.c_compile_blocks.proofs.OneGuard.{held_append, held_wider, held_group}
use Rattle.c_compile_blocks.proofs.Entries.{IsChoice, IsOwn, IsSingle, IsKnown, choice_later, choice_under}
use Rattle.c_compile_blocks.proofs.Entries.{own_later, single_later, single_inward, known_later, under_later}
use Rattle.c_compile_blocks.proofs.Entries.{IsScant, node_put_scant}
use Rattle.c_compile_blocks.proofs.Served.{none_served, operand_served}
use Rattle.c_compile_blocks.proofs.Steps.{IsTest, tested_is}
use Rattle.c_compile_blocks.proofs.Joins.{distinct_most, IsJoined, joined}

-- an exit touches at most one register
pub exit_few : (x : Exit) → length (exit_touched x) ≤ 1
exit_few (exit.Jump l) = omega arith
exit_few (exit.Call l back) = omega arith
exit_few exit.Return = omega arith
exit_few (exit.System l) = omega arith

-- an exit leaves no more sources
pub exit_scant : (x : Exit) (g : Scope) (j e : ℕ) (env : Env) → ((q : ℕ) → IsScant 2 (env q)) → (q : ℕ)
    → IsScant 2 ((leaving g j e env x).env q)
exit_scant (exit.Jump l) g j e env h q = h q
exit_scant (exit.System l) g j e env h q = h q
exit_scant exit.Return g j e env h q = h q
exit_scant (exit.Call l back) g j e env h q = node_put_scant (suc (suc j)) env 2 q (h q)

module _ (P : ℕ → Type 0) (all : List FlowNode) (c : ℕ) where
  -- what an exit comes to under a scope, from node j on
  pub record IsLeft (g : Scope) (j : ℕ) (x : Exit) (o : Ending) : Type 0 where
    pub held : IsHeld P all c j o.nodes 10
    pub sets : (q : ℕ) → member q (exit_touched x) ≡ true → IsOwn all (j + length o.nodes) g (o.env q)

  -- a branch without operands
  lone_held : (g : Scope) (j : ℕ) (o : Op) (w e : ℕ) → IsGuardBy c g → takes_left (role_of o) ≡ false
      → takes_right (role_of o) ≡ false → form_of o ≡ form.Branch → IsHeld P all c j (branch_of o w e g [] ∷ []) 10
  lone_held g j o w e guard l r f = record {
    guards = (guard, tt);
    firm = (record { left = λ d. absurd (not_both l d); right = λ d. absurd (not_both r d) }, tt);
    used = ((λ d. absurd (no_constant (form_of o) f d)), tt);
    reads = ((λ q d. absurd (cc)), (λ q d. absurd (cc)), tt);
    cost = (let u = guard_one g in
        let a = own_most (form_of o) in
        let b = one_most (form_of o) in
        omega (arith, u, a, b));
  }
    where
      not_both : {b : Bool} → b ≡ false → b ≡ true → ⊥
      not_both x y = absurd (cc)

      no_constant : (F : Form) → F ≡ form.Branch → F ≡ form.Constant → ⊥
      no_constant F x y = absurd (cc)

  -- CALLS

  abbrev genu : ℕ → FlowNode
  genu back = constant_of op.Genu (high_half back) []

  abbrev app : ℕ → ℕ → FlowNode
  app j back = constant_of op.App (low_half back) (Node j ∷ [])

  abbrev return_to : Scope → ℕ → FlowNode
  return_to g j = mov_of g (Node (suc j) ∷ [])

  abbrev call : Scope → ℕ → ℕ → FlowNode
  call g l e = branch_of op.Callo l e g []

  abbrev call_nodes : Scope → ℕ → ℕ → ℕ → ℕ → List FlowNode
  call_nodes g j l e back = genu back ∷ app j back ∷ return_to g j ∷ call g l e ∷ []

  call_used : (g : Scope) (j l e back : ℕ) → AreUsed (call_nodes g j l e back) j (call_nodes g j l e back)
  call_used g j l e back =
      let ns = call_nodes g j l e back in
      let more : (s : FlowSource) → times s (Node j ∷ []) + times s (Node (suc j) ∷ []) ≤ uses s ns =
      λ s.
      let u : uses s ns ≡ 0 + (0 + 0) + uses s (app j back ∷ return_to g j ∷ call g l e ∷ []) =
      node_uses s (genu back) (app j back ∷ return_to g j ∷ call g l e ∷ []) in
      let v : uses s (app j back ∷ return_to g j ∷ call g l e ∷ [])
      ≡ times s (Node j ∷ []) + (0 + 0) + uses s (return_to g j ∷ call g l e ∷ []) =
      node_uses s (app j back) (return_to g j ∷ call g l e ∷ []) in
      let w : uses s (return_to g j ∷ call g l e ∷ []) ≡ times s (Node (suc j) ∷ [])
      + (0 + length (noted false s (guard_sources g))) + uses s (call g l e ∷ []) =
      node_uses s (return_to g j) (call g l e ∷ []) in
      omega (arith, u, v, w) in (
        (λ d. let h = more (Node j) in let n = named_once (Node j) in omega (arith, h, n)),
        (
          (λ d. let h = more (Node (suc j)) in let n = named_once (Node (suc j)) in omega (arith, h, n)),
          ((λ d. absurd (cc)), ((λ d. absurd (cc)), tt)),
        ),
      )

  call_held : (g : Scope) (j l e back : ℕ) → IsGuardBy c g → AreAt all j (call_nodes g j l e back)
      → IsHeld P all c j (call_nodes g j l e back) 10
  call_held g j l e back guard at =
      let second = at.1 in
      let u = guard_one g in
      record {
        guards = (unguarded c, (unguarded c, (guard, (guard, tt))));
        firm = (
          record { left = λ d. absurd (cc); right = λ d. absurd (cc) },
          (
            record {
              left = λ d. bare_there all j (suc j) None [] (omega arith) (genu back, at.0, refl);
              right = λ d. absurd (cc);
            },
            (
              record {
                left = λ d. bare_there all (suc j) (suc (suc j)) g [] (omega arith) (app j back, second.0, refl);
                right = λ d. absurd (cc);
              },
              (record { left = λ d. absurd (cc); right = λ d. absurd (cc) }, tt),
            ),
          ),
        );
        used = call_used g j l e back;
        reads = (
          (λ q d. absurd (cc)),
          (λ q d. absurd (cc)),
          (
            (λ q d. absurd (cc)),
            (λ q d. absurd (cc)),
            ((λ q d. absurd (cc)), (λ q d. absurd (cc)), ((λ q d. absurd (cc)), (λ q d. absurd (cc)), tt)),
          ),
        );
        cost = omega (arith, u);
      }

  -- register 2 is set
  call_sets : (g : Scope) (j l e back : ℕ) (env : Env) → AreAt all j (call_nodes g j l e back) → (q : ℕ)
      → cond (nat_eq q 2) true false ≡ true → IsOwn all (j + 4) g (put env 2 (from_node (suc (suc j))) q)
  call_sets g j l e back env at q d = go (nat_eq q 2) d
    where
      go : (b : Bool) → cond b true false ≡ true → IsOwn all (j + 4) g (cond b (from_node (suc (suc j))) (env q))
      go true z =
          let second = at.1 in
          let third = second.1 in
          (suc (suc j), (return_to g j, third.0, refl, omega arith), refl)
      go false z = absurd (cc)

  -- ANY EXIT

  -- an exit under a scope costs at most ten, its guards are node c's, and its own nodes set what it touches
  pub left_held : (x : Exit) (m : Bool) (g : Scope) (j e : ℕ) (env : Env) → IsGuardBy c g → NamesExit P x
      → ((q : ℕ) → IsKnown all c m j g (env q)) → AreAt all j (leaving g j e env x).nodes
      → IsLeft g j x (leaving g j e env x)
  left_held (exit.Jump l) m g j e env guard p known at = record {
    held = lone_held g j op.Bro l e guard refl refl refl;
    sets = λ q d. absurd (cc);
  }
  left_held (exit.System l) m g j e env guard p known at = record {
    held = lone_held g j op.Scall 0 e guard refl refl refl;
    sets = λ q d. absurd (cc);
  }
  left_held (exit.Call l back) m g j e env guard p known at = record {
    held = call_held g j l e back guard at;
    sets = call_sets g j l e back env at;
  }
  left_held exit.Return m g j e env guard p known at =
      let x = operand j env (Reg 2) in
      let n = branch_of op.Ret 0 e g x.sources in
      record {
        held = held_group P all c j x.nodes [] x.sources [] 5 0 false op.Ret (pos 0) e g
            (operand_served P all c m g j env (Reg 2) p known (at_front all j x.nodes (n ∷ []) at))
            (none_served P all c g (j + length x.nodes) 0) (λ d. absurd (cc)) (λ d. absurd (cc)) guard;
        sets = λ q d. absurd (cc);
      }

-- A TEST BETWEEN TWO EXITS

-- four lists of nodes, one behind the other
four_long : (a b d e : List FlowNode) (j : ℕ) → j + length a + length b + length d + length e
    ≡ j + length (a ++ (b ++ (d ++ e)))
four_long a b d e j =
    let u = length-append a (b ++ (d ++ e)) in
    let v = length-append b (d ++ e) in
    let w = length-append d e in
    omega (arith, u, v, w)

module _ (P : ℕ → Type 0) (all : List FlowNode) where
  -- what it comes to, from node j on
  pub record IsTested (j : ℕ) (o : Ending) : Type 0 where
    pub chooser : ℕ
    pub choice : IsChoice all (j + length o.nodes) None chooser
    pub held : IsHeld P all chooser j o.nodes 42
    pub known : (q : ℕ) → IsKnown all chooser true (j + length o.nodes) None (o.env q)

module _ (P : ℕ → Type 0) (all : List FlowNode) (t : Source) (one other : Exit) (j e : ℕ) (env : Env) (bits : Bits)
    (names : Names P t) (first : NamesExit P one) (second : NamesExit P other)
    (single : (q : ℕ) → IsSingle all j None (env q)) (told : AreBits (IsChoice all j None) bits)
    (at : AreAt all j (tail None j e env bits (Test t (Leave one) (Leave other))).nodes) where
  abbrev x : Chain
  x = tested None j env bits t

  -- the node that gives all guards
  abbrev pub chooser : ℕ
  chooser = x.last

  -- where the parts begin
  abbrev i : ℕ
  i = j + length x.nodes

  abbrev y : Ending
  y = leaving (under chooser true) i e env one

  abbrev i2 : ℕ
  i2 = i + length y.nodes

  abbrev z : Ending
  z = leaving (under chooser false) i2 y.number env other

  abbrev i3 : ℕ
  i3 = i2 + length z.nodes

  abbrev w : Joined
  w = join chooser i3 env y.env z.env (exit_touched one) (exit_touched other)
      (distinct (exit_touched one ++ exit_touched other))

  legs_at : AreAt all i (y.nodes ++ (z.nodes ++ w.nodes))
  legs_at = at_back all j x.nodes (y.nodes ++ (z.nodes ++ w.nodes)) at

  other_at : AreAt all i2 (z.nodes ++ w.nodes)
  other_at = at_back all i y.nodes (z.nodes ++ w.nodes) legs_at

  pub test : IsTest P all chooser j x
  test =
      tested_is P all chooser false j env bits t names (λ q. inl (single q)) told
      (at_front all j x.nodes (y.nodes ++ (z.nodes ++ w.nodes)) at)

  -- a register as an exit finds it
  found_in : (s : Bool) (k : ℕ) → j ≤ k → (q : ℕ) → IsKnown all chooser false k (under chooser s) (env q)
  found_in s k l q =
      inl (single_inward all k (under chooser s) (env q) (single_later all j k None (env q) l (single q)))

  one_is : IsLeft P all chooser (under chooser true) i one y
  one_is =
      left_held P all chooser one false (under chooser true) i e env (under_by chooser true) first
      (found_in true i (omega arith)) (at_front all i y.nodes (z.nodes ++ w.nodes) legs_at)

  other_is : IsLeft P all chooser (under chooser false) i2 other z
  other_is =
      left_held P all chooser other false (under chooser false) i2 y.number env (under_by chooser false) second
      (found_in false i2 (omega arith)) (at_front all i2 z.nodes w.nodes other_at)

  join_is : IsJoined P all chooser i3 (length (distinct (exit_touched one ++ exit_touched other))) w
  join_is =
      let k = test in
      let a = one_is in
      let b = other_is in
      joined P all chooser env y.env z.env (exit_touched one) (exit_touched other)
      (distinct (exit_touched one ++ exit_touched other)) i3
      (under_later all i i3 None chooser (omega arith) (choice_under all i None chooser k.choice))
      (λ q. single_later all j i3 None (env q) (omega arith) (single q))
      (λ q d. own_later all i2 i3 (under chooser true) (y.env q) (omega arith) (a.sets q d)) (λ q d. b.sets q d)
      (at_back all i2 z.nodes w.nodes other_at)

  -- a test between two exits costs at most 42, its guards are one node's, and each register is known behind it
  pub test_end : IsTested P all j (tail None j e env bits (Test t (Leave one) (Leave other)))
  test_end =
      let k = test in
      let a = one_is in
      let b = other_is in
      let d = join_is in
      let js = length (distinct (exit_touched one ++ exit_touched other)) in
      let long = four_long x.nodes y.nodes z.nodes w.nodes j in
      let whole = x.nodes ++ (y.nodes ++ (z.nodes ++ w.nodes)) in
      let few = distinct_most (exit_touched one ++ exit_touched other) in
      let both = length-append (exit_touched one) (exit_touched other) in
      let f = exit_few one in
      let g = exit_few other in
      record {
        chooser = chooser;
        choice = choice_later all i (j + length whole) None chooser (omega (arith, long)) k.choice;
        held = held_wider P all chooser j whole (10 + (10 + (10 + 6 * js))) 42 (omega (arith, few, both, f, g))
            (held_append P all chooser j x.nodes (y.nodes ++ (z.nodes ++ w.nodes)) 10 (10 + (10 + 6 * js)) k.held
            (held_append P all chooser i y.nodes (z.nodes ++ w.nodes) 10 (10 + 6 * js) a.held
            (held_append P all chooser i2 z.nodes w.nodes 10 (6 * js) b.held d.held)));
        known = λ q.
            known_later all chooser true (i3 + length w.nodes) (j + length whole) None (w.env q) (omega (arith, long))
            (d.known q);
      }
