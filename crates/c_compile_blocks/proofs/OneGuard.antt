-- Lists of nodes whose guards are all one node, and each operand of which is surely there.
use Rattle.std.proofs.Common.{◌≡◌, ℕ, suc, ◌+◌, ◌*◌, ◌≤◌, Bool, true, false, List, [], ◌∷◌, ◌++◌}
use Rattle.std.proofs.Common.{zero, length, refl, sym, ap, subst, arith, length-append}
use Rattle.std.specs.Prelude.{Option, Some, None, slice_get, ℤ}
use Rattle.trips_isa.specs.declared.op.Op.{Op}
use Rattle.trips_isa.specs.declared.form.Form.{Form}
use Rattle.trips_isa.specs.declared.form.Form.TheVariants as form
use Rattle.trips_isa.specs.Forms.{form_of, role_of, takes_right}
use Rattle.ir_forms.specs.declared.flow.FlowSource.{FlowSource}
use Rattle.ir_forms.specs.declared.flow.Guard.{Guard}
use Rattle.ir_forms.specs.declared.flow.FlowNode.{FlowNode}
use Rattle.predication.specs.inside.Environments.{Scope, under}
use Rattle.predication.specs.inside.Converted.{reads_in}
use Rattle.fan_out.specs.inside.Wires.{guard_sources}
use Rattle.fan_out.specs.inside.Counts.{noted}
use Rattle.c_compile_blocks.specs.inside.Prices.{price}
use Rattle.c_compile_blocks.proofs.Flat.{uses, times, node_uses, uses_append, AreUsed, used_append, used_grow}
use Rattle.c_compile_blocks.proofs.Flat.{price_append, own_most, ReadOnly, read_append, AreFlat}
use Rattle.c_compile_blocks.proofs.Firmness.{IsThere, AreFirm, firm_append}
use Rattle.c_compile_blocks.proofs.Supplies.{NoStores}

-- GUARDS

-- node c gives the guard, if there is one
abbrev pub IsGuardBy : ℕ → Option Guard → Type 0
IsGuardBy c o = (g : Guard) → o ≡ Some g → g.node ≡ c

-- node c gives the guard of each node that has one
abbrev pub AreBy : ℕ → List FlowNode → Type 0
AreBy c [] = Unit {0}
AreBy c (n ∷ ns) = IsGuardBy c n.guard × AreBy c ns

-- nodes whose guards are one node, behind such nodes, have this one
pub by_append : (c : ℕ) (a b : List FlowNode) → AreBy c a → AreBy c b → AreBy c (a ++ b)
by_append c [] b x y = y
by_append c (n ∷ a) b x y = (x.0, by_append c a b x.1 y)

-- each of some nodes whose guards are one node has this guard or none
pub by_at : (c : ℕ) (ns : List FlowNode) (i : ℕ) (n : FlowNode) → AreBy c ns → slice_get ns i ≡ Some n
    → IsGuardBy c n.guard
by_at c [] i n a e = absurd (cc)
by_at c (m ∷ ns) zero n a e = let same : m ≡ n = cc in subst (λ (x : FlowNode). IsGuardBy c x.guard) same a.0
by_at c (m ∷ ns) (suc i) n a e = by_at c ns i n a.1 e

-- Where there is no guard, any node may be said to give it.
pub unguarded : (c : ℕ) → IsGuardBy c None
unguarded c g e = absurd (cc)

-- a leg's guard is the test's node
pub under_by : (c : ℕ) (s : Bool) → IsGuardBy c (under c s)
under_by c s g e = cc

-- a guard has one source at most
pub guard_one : (g : Option Guard) → length (guard_sources g) ≤ 1
guard_one None = omega arith
guard_one (Some g) = omega arith

-- STORES

-- one of a store
abbrev pub one_store : Form → ℕ
one_store form.Store = 1
one_store form.General = 0
one_store form.Immediate = 0
one_store form.Load = 0
one_store form.Branch = 0
one_store form.Constant = 0

-- the stores among nodes
abbrev pub saves : List FlowNode → ℕ
saves [] = 0
saves (n ∷ ns) = one_store (form_of n.op) + saves ns

pub saves_append : (a b : List FlowNode) → saves (a ++ b) ≡ saves a + saves b
saves_append [] b = omega arith
saves_append (n ∷ a) b = let h = saves_append a b in omega (arith, h)

-- a node is one store at most
pub one_most : (e : Form) → one_store e ≤ 1
one_most form.Store = omega arith
one_most form.General = omega arith
one_most form.Immediate = omega arith
one_most form.Load = omega arith
one_most form.Branch = omega arith
one_most form.Constant = omega arith

-- nodes without a store have no store among them
pub none_saved : (ns : List FlowNode) → NoStores ns → saves ns ≡ 0
none_saved [] a = refl
none_saved (n ∷ ns) a = go (form_of n.op) a.0 (none_saved ns a.1)
  where
    go : (e : Form) → (e ≡ form.Store → ⊥) → saves ns ≡ 0 → one_store e + saves ns ≡ 0
    go form.Store x h = absurd (x refl)
    go form.General x h = omega (arith, h)
    go form.Immediate x h = omega (arith, h)
    go form.Load x h = omega (arith, h)
    go form.Branch x h = omega (arith, h)
    go form.Constant x h = omega (arith, h)

-- LISTS

-- two lists and a node, and what stands behind them
rejoin : (xs ys : List FlowNode) (n : FlowNode) (rest : List FlowNode)
    → (xs ++ (ys ++ n ∷ [])) ++ rest ≡ xs ++ (ys ++ n ∷ rest)
rejoin [] [] n rest = refl
rejoin [] (y ∷ ys) n rest = ap (λ (l : List FlowNode). y ∷ l) (rejoin [] ys n rest)
rejoin (x ∷ xs) ys n rest = ap (λ (l : List FlowNode). x ∷ l) (rejoin xs ys n rest)

behind_node : (j : ℕ) (xs ys : List FlowNode) (n : FlowNode)
    → suc (j + length xs + length ys) ≡ j + length (xs ++ (ys ++ n ∷ []))
behind_node j xs ys n =
    let a = length-append xs (ys ++ n ∷ []) in
    let b = length-append ys (n ∷ []) in
    omega (arith, a, b)

-- ALL OF THEM

module _ (P : ℕ → Type 0) (all : List FlowNode) (c : ℕ) where
  -- nodes from j on that cost at most k, where each store costs a null store besides
  pub record IsHeld (j : ℕ) (ns : List FlowNode) (k : ℕ) : Type 0 where
    pub guards : AreBy c ns
    pub firm : AreFirm all j ns
    pub used : AreUsed ns j ns
    pub reads : ReadOnly P ns
    pub cost : price ns + 3 * saves ns ≤ k

  -- no nodes cost nothing
  pub held_none : (j k : ℕ) → IsHeld j [] k
  held_none j k = record { guards = tt; firm = tt; used = tt; reads = tt; cost = omega arith }

  -- nodes behind nodes cost what both do
  pub held_append : (j : ℕ) (a b : List FlowNode) (k l : ℕ) → IsHeld j a k → IsHeld (j + length a) b l
      → IsHeld j (a ++ b) (k + l)
  held_append j a b k l x y =
      let e = price_append a b in
      let d = saves_append a b in
      let u = x.cost in
      let v = y.cost in
      record {
        guards = by_append c a b x.guards y.guards;
        firm = firm_append all j a b x.firm y.firm;
        used = used_append (a ++ b) j a b
            (used_grow a (a ++ b) (λ s. let h = uses_append s a b in omega (arith, h)) j a x.used)
            (used_grow b (a ++ b) (λ s. let h = uses_append s a b in omega (arith, h)) (j + length a) b y.used);
        reads = read_append P a b x.reads y.reads;
        cost = omega (arith, e, d, u, v);
      }

  -- nodes that cost at most a number cost at most a greater one
  pub held_wider : (j : ℕ) (ns : List FlowNode) (k l : ℕ) → k ≤ l → IsHeld j ns k → IsHeld j ns l
  held_wider j ns k l w x = record {
    guards = x.guards;
    firm = x.firm;
    used = x.used;
    reads = x.reads;
    cost = (let y = x.cost in omega (arith, y, w));
  }

  -- the nodes of a constant have no guards
  pub flat_by : (j : ℕ) (ns : List FlowNode) → AreFlat j ns → AreBy c ns
  flat_by j [] a = tt
  flat_by j (n ∷ ns) a =
      let f = a.0 in
      (subst (IsGuardBy c) (sym f.guard) (unguarded c), flat_by (suc j) ns a.1)

  -- nodes from j on, and the sources that they serve: where t is true, these are there behind the nodes under
  -- the scope
  pub record IsServed (t : Bool) (g : Scope) (j : ℕ) (ns : List FlowNode) (ss : List FlowSource) (k : ℕ) : Type 0
    where
      pub guards : AreBy c ns
      pub firm : AreFirm all j ns
      pub used : (l : List FlowNode) → ((s : FlowSource) → uses s ns + times s ss ≤ uses s l) → AreUsed l j ns
      pub reads : ReadOnly P ns
      pub named : (q : ℕ) → reads_in ss q ≡ true → P q
      pub silent : saves ns ≡ 0
      pub cost : price ns + length ss ≤ k
      pub there : t ≡ true → (i : ℕ) → j + length ns ≤ i → IsThere all i g ss

  -- a node behind the nodes of its operands
  pub held_group : (j : ℕ) (xs ys : List FlowNode) (ss ts : List FlowSource) (k l : ℕ) (t : Bool) (o : Op) (i : ℤ)
      (m : ℕ) (g : Scope) → IsServed true g j xs ss k → IsServed t g (j + length xs) ys ts l
      → (takes_right (role_of o) ≡ true → t ≡ true) → (form_of o ≡ form.Constant → ⊥) → IsGuardBy c g
      → IsHeld j (xs ++ (ys ++ record { op = o; imm = i; number = m; guard = g; left = ss; right = ts } ∷ []))
      (5 + k + l)
  held_group j xs ys ss ts k l t o i m g x y right plain guard =
      let n : FlowNode = record { op = o; imm = i; number = m; guard = g; left = ss; right = ts } in
      let ns = xs ++ (ys ++ n ∷ []) in
      let more : (s : FlowSource) → uses s ns
      ≡ uses s xs + (uses s ys + (times s ss + (times s ts + length (noted false s (guard_sources g))) + 0)) =
      λ s.
      let a = uses_append s xs (ys ++ n ∷ []) in
      let b = uses_append s ys (n ∷ []) in
      let d : uses s (n ∷ []) ≡ times s ss + (times s ts + length (noted false s (guard_sources g))) + 0 =
      node_uses s n [] in
      omega (arith, a, b, d) in
      let p = price_append xs (ys ++ n ∷ []) in
      let q = price_append ys (n ∷ []) in
      let a = saves_append xs (ys ++ n ∷ []) in
      let b = saves_append ys (n ∷ []) in
      let z = own_most (form_of o) in
      let w = one_most (form_of o) in
      let u = guard_one g in
      let cx = x.cost in
      let cy = y.cost in
      let sx = x.silent in
      let sy = y.silent in
      record {
        guards = by_append c xs (ys ++ n ∷ []) x.guards (by_append c ys (n ∷ []) y.guards (guard, tt));
        firm = firm_append all j xs (ys ++ n ∷ []) x.firm
            (firm_append all (j + length xs) ys (n ∷ []) y.firm (
              record {
                left = λ e. x.there refl (j + length xs + length ys) (omega arith);
                right = λ e. y.there (right e) (j + length xs + length ys) (omega arith);
              },
              tt,
            ));
        used = used_append ns j xs (ys ++ n ∷ []) (x.used ns (λ s. let h = more s in omega (arith, h)))
            (used_append ns (j + length xs) ys (n ∷ []) (y.used ns (λ s. let h = more s in omega (arith, h)))
            ((λ e. absurd (plain e)), tt));
        reads = read_append P xs (ys ++ n ∷ []) x.reads
            (read_append P ys (n ∷ []) y.reads (x.named, y.named, tt));
        cost = omega (arith, p, q, a, b, z, w, u, cx, cy, sx, sy);
      }

  -- that node, and what stands behind it
  pub held_behind : (j : ℕ) (xs ys : List FlowNode) (n : FlowNode) (rest : List FlowNode) (k l : ℕ)
      → IsHeld j (xs ++ (ys ++ n ∷ [])) k → IsHeld (suc (j + length xs + length ys)) rest l
      → IsHeld j (xs ++ (ys ++ n ∷ rest)) (k + l)
  held_behind j xs ys n rest k l x y =
      subst (λ (a : List FlowNode). IsHeld j a (k + l)) (rejoin xs ys n rest)
      (held_append j (xs ++ (ys ++ n ∷ [])) rest k l x
      (subst (λ (i : ℕ). IsHeld i rest l) (behind_node j xs ys n) y))
