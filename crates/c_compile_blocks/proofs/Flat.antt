-- Lists of nodes without guards: each operand has a source that stands before it, each constant is
-- used, and what they cost.
use Rattle.std.proofs.Common.{◌≡◌, ℕ, zero, suc, ◌+◌, ◌≤◌, Bool, true, false, List, [], ◌∷◌, ◌++◌}
use Rattle.std.proofs.Common.{length, refl, ap, subst, arith, length-append}
use Rattle.std.specs.Prelude.{Some, None, slice_get, ℤ, ◌||◌}
use Rattle.std.proofs.lemmas.Bool.Decides.{nat_tests}
use Rattle.trips_isa.specs.declared.op.Op.{Op}
use Rattle.trips_isa.specs.declared.form.Form.{Form}
use Rattle.trips_isa.specs.declared.form.Form.TheVariants as form
use Rattle.trips_isa.specs.Forms.{form_of, role_of, takes_left, takes_right}
use Rattle.block_cases.specs.Choosers.{is_copy}
use Rattle.ir_forms.specs.declared.flow.FlowSource.{FlowSource}
use Rattle.ir_forms.specs.declared.flow.FlowSource.TheVariants.{Read, Node}
use Rattle.ir_forms.specs.declared.flow.FlowNode.{FlowNode}
use Rattle.ir_forms.specs.inside.FlowRegular.{same_source}
use Rattle.predication.specs.inside.Converted.{reads_in, nodes_read}
use Rattle.null_outputs.specs.inside.Straight.{IsFed}
use Rattle.fan_out.specs.inside.Wires.{guard_sources}
use Rattle.fan_out.specs.inside.Counts.{if_noted, noted, node_kinds, nodes_kinds}
use Rattle.c_compile_blocks.specs.inside.Prices.{own, price}

-- NODES

-- a node without a guard, each operand of which has a source before it
pub record IsFlat (j : ℕ) (n : FlowNode) : Type 0 where
  pub guard : n.guard ≡ None
  pub left : takes_left (role_of n.op) ≡ true → IsFed j n.left
  pub right : takes_right (role_of n.op) ≡ true → IsFed j n.right

-- nodes, the first of which is node j
abbrev pub AreFlat : ℕ → List FlowNode → Type 0
AreFlat j [] = Unit {0}
AreFlat j (n ∷ ns) = IsFlat j n × AreFlat (suc j) ns

-- flat nodes behind flat ones are flat
pub flat_append : (j : ℕ) (a b : List FlowNode) → AreFlat j a → AreFlat (j + length a) b
    → AreFlat j (a ++ b)
flat_append j [] b x y = let e : j + 0 ≡ j = omega arith in subst (λ (i : ℕ). AreFlat i b) e y
flat_append j (n ∷ a) b x y =
    let e : j + length (n ∷ a) ≡ suc j + length a = omega arith in
    (x.0, flat_append (suc j) a b x.1 (subst (λ (i : ℕ). AreFlat i b) e y))

-- each of some flat nodes is flat at its number
pub flat_at : (j : ℕ) (ns : List FlowNode) (i k : ℕ) (n : FlowNode) → AreFlat j ns → k ≡ j + i
    → slice_get ns i ≡ Some n → IsFlat k n
flat_at j [] i k n a e s = absurd (cc)
flat_at j (m ∷ ns) zero k n a e s =
    let same : m ≡ n = cc in
    let z : j ≡ k = omega (arith, e) in
    subst (λ (i : ℕ). IsFlat i n) z (subst (IsFlat j) same a.0)
flat_at j (m ∷ ns) (suc i) k n a e s = flat_at (suc j) ns i k n a.1 (omega (arith, e)) s

-- USES

-- how often nodes name a source
abbrev pub uses : FlowSource → List FlowNode → ℕ
uses s ns = length (nodes_kinds s ns)

-- how often an operand names it
abbrev pub times : FlowSource → List FlowSource → ℕ
times s ss = length (noted true s ss)

-- A source's uses by a node and the rest are those by the node and those by the rest.
pub node_uses : (s : FlowSource) (n : FlowNode) (ns : List FlowNode)
    → uses s (n ∷ ns) ≡ times s n.left + (times s n.right + length (noted false s (guard_sources n.guard)))
    + uses s ns
node_uses s n ns =
    let a = length-append (node_kinds s n) (nodes_kinds s ns) in
    let b = length-append (noted true s n.left) (noted true s n.right ++ noted false s (guard_sources n.guard)) in
    let c = length-append (noted true s n.right) (noted false s (guard_sources n.guard)) in
    omega (arith, a, b, c)

-- Joined lists use a source as often as both together.
pub uses_append : (s : FlowSource) (a b : List FlowNode) → uses s (a ++ b) ≡ uses s a + uses s b
uses_append s [] b = omega arith
uses_append s (n ∷ a) b =
    let x = node_uses s n (a ++ b) in
    let y = node_uses s n a in
    let h = uses_append s a b in
    omega (arith, x, y, h)

same_itself : (s : FlowSource) → same_source s s ≡ true
same_itself (Read r) = grind (arith, nat_tests)
same_itself (Node j) = grind (arith, nat_tests)

-- A source alone in a list is named once.
pub named_once : (s : FlowSource) → times s (s ∷ []) ≡ 1
named_once s = ap (λ (c : Bool). length (if_noted c true [])) (same_itself s)

-- each constant of some nodes, the first of which is node j, is used among the nodes l
abbrev pub AreUsed : List FlowNode → ℕ → List FlowNode → Type 0
AreUsed l j [] = Unit {0}
AreUsed l j (n ∷ ns) = (form_of n.op ≡ form.Constant → 1 ≤ uses (Node j) l) × AreUsed l (suc j) ns

-- constants that are used, behind such constants, are used
pub used_append : (l : List FlowNode) (j : ℕ) (a b : List FlowNode) → AreUsed l j a
    → AreUsed l (j + length a) b → AreUsed l j (a ++ b)
used_append l j [] b x y = let e : j + 0 ≡ j = omega arith in subst (λ (i : ℕ). AreUsed l i b) e y
used_append l j (n ∷ a) b x y =
    let e : j + length (n ∷ a) ≡ suc j + length a = omega arith in
    (x.0, used_append l (suc j) a b x.1 (subst (λ (i : ℕ). AreUsed l i b) e y))

-- constants that are used are so among nodes that use each source as often at least
pub used_grow : (k l : List FlowNode) → ((s : FlowSource) → uses s k ≤ uses s l) → (j : ℕ)
    (ns : List FlowNode) → AreUsed k j ns → AreUsed l j ns
used_grow k l h j [] x = tt
used_grow k l h j (n ∷ ns) x =
    ((λ e. let a = x.0 e in let b = h (Node j) in omega (arith, a, b)), used_grow k l h (suc j) ns x.1)

-- PRICES

-- Joined lists cost what both cost together.
pub price_append : (a b : List FlowNode) → price (a ++ b) ≡ price a + price b
price_append [] b = omega arith
price_append (n ∷ a) b = let h = price_append a b in omega (arith, h)

-- a node costs one instruction at most
pub own_most : (e : Form) → own e ≤ 1
own_most form.General = omega arith
own_most form.Immediate = omega arith
own_most form.Load = omega arith
own_most form.Store = omega arith
own_most form.Branch = omega arith
own_most form.Constant = omega arith

-- READS

-- operands read only these registers
abbrev pub ReadOnly : (ℕ → Type 0) → List FlowNode → Type 0
ReadOnly P [] = Unit {0}
ReadOnly P (n ∷ ns) =
    ((q : ℕ) → reads_in n.left q ≡ true → P q) × ((q : ℕ) → reads_in n.right q ≡ true → P q)
    × ReadOnly P ns

-- nodes that read these registers only, behind such nodes, read these only
pub read_append : (P : ℕ → Type 0) (a b : List FlowNode) → ReadOnly P a → ReadOnly P b
    → ReadOnly P (a ++ b)
read_append P [] b x y = y
read_append P (n ∷ a) b x y = (x.0, x.1, read_append P a b x.2 y)

or_cases : {Q : Type 0} (a b : Bool) → (a || b) ≡ true → (a ≡ true → Q) → (b ≡ true → Q) → Q
or_cases true b e x y = x refl
or_cases false b e x y = y e

-- a register that some nodes read is one of those that they may read
pub read_of_all : (P : ℕ → Type 0) (ns : List FlowNode) (q : ℕ) → ReadOnly P ns → nodes_read ns q ≡ true
    → P q
read_of_all P [] q x e = absurd (cc)
read_of_all P (n ∷ ns) q x e =
    or_cases (reads_in n.left q) (reads_in n.right q || nodes_read ns q) e (x.0 q)
    (λ d. or_cases (reads_in n.right q) (nodes_read ns q) d (x.1 q) (λ c. read_of_all P ns q x.2 c))

-- MOVS

-- each node that is no mov fulfils T by its number
abbrev pub Told : (ℕ → Type 0) → ℕ → List FlowNode → Type 0
Told T j [] = Unit {0}
Told T j (n ∷ ns) = (is_copy (role_of n.op) ≡ false → T j) × Told T (suc j) ns

-- what is told of nodes is told of the first ones
pub told_front : (T : ℕ → Type 0) (j : ℕ) (a b : List FlowNode) → Told T j (a ++ b) → Told T j a
told_front T j [] b x = tt
told_front T j (n ∷ a) b x = (x.0, told_front T (suc j) a b x.1)

-- what is told of nodes is told of the later ones
pub told_back : (T : ℕ → Type 0) (j : ℕ) (a b : List FlowNode) → Told T j (a ++ b)
    → Told T (j + length a) b
told_back T j [] b x = let e : j ≡ j + 0 = omega arith in subst (λ (i : ℕ). Told T i b) e x
told_back T j (n ∷ a) b x =
    let e : suc j + length a ≡ j + length (n ∷ a) = omega arith in
    subst (λ (i : ℕ). Told T i b) e (told_back T (suc j) a b x.1)

-- what holds of each node that is no mov is told of all
pub told_from : (T : ℕ → Type 0) (ns : List FlowNode) (j : ℕ)
    → ((i k : ℕ) (n : FlowNode) → k ≡ j + i → slice_get ns i ≡ Some n → is_copy (role_of n.op) ≡ false → T k)
    → Told T j ns
told_from T [] j f = tt
told_from T (n ∷ ns) j f = (
  (λ e. f 0 j n (omega arith) refl e),
  told_from T ns (suc j) (λ i k m q e s. f (suc i) k m (omega (arith, q)) e s),
)

-- ALL OF THEM

-- nodes from j on that cost at most c
pub record Good (P : ℕ → Type 0) (j : ℕ) (ns : List FlowNode) (c : ℕ) : Type 0 where
  pub nodes : AreFlat j ns
  pub used : AreUsed ns j ns
  pub reads : ReadOnly P ns
  pub cost : price ns ≤ c

-- no nodes cost nothing
pub nothing : (P : ℕ → Type 0) (j : ℕ) → Good P j [] 0
nothing P j = record { nodes = tt; used = tt; reads = tt; cost = omega arith }

-- nodes behind nodes cost what both do
pub good_append : (P : ℕ → Type 0) (j : ℕ) (a b : List FlowNode) (c d : ℕ) → Good P j a c
    → Good P (j + length a) b d → Good P j (a ++ b) (c + d)
good_append P j a b c d x y =
    let e = price_append a b in
    let u = x.cost in
    let v = y.cost in
    record {
      nodes = flat_append j a b x.nodes y.nodes;
      used = used_append (a ++ b) j a b
          (used_grow a (a ++ b) (λ s. let h = uses_append s a b in omega (arith, h)) j a x.used)
          (used_grow b (a ++ b) (λ s. let h = uses_append s a b in omega (arith, h)) (j + length a) b y.used);
      reads = read_append P a b x.reads y.reads;
      cost = omega (arith, e, u, v);
    }

-- nodes and the sources that they serve, of which there is one where t is true
pub record Piece (P : ℕ → Type 0) (t : Bool) (j : ℕ) (ns : List FlowNode) (ss : List FlowSource) (c : ℕ)
    : Type 0
  where
    pub nodes : AreFlat j ns
    pub fed : t ≡ true → (k : ℕ) → j + length ns ≤ k → IsFed k ss
    pub used : (l : List FlowNode) → ((s : FlowSource) → uses s ns + times s ss ≤ uses s l) → AreUsed l j ns
    pub reads : ReadOnly P ns
    pub named : (q : ℕ) → reads_in ss q ≡ true → P q
    pub cost : price ns + length ss ≤ c

-- no operand
pub no_piece : (P : ℕ → Type 0) (j : ℕ) → Piece P false j [] [] 0
no_piece P j = record {
  nodes = tt;
  fed = λ e. absurd (cc);
  used = λ l h. tt;
  reads = tt;
  named = λ q e. absurd (cc);
  cost = omega arith;
}

-- a node without a guard behind the nodes of its operands, and others
pub grouped : (P : ℕ → Type 0) (j : ℕ) (xs ys : List FlowNode) (ss ts : List FlowSource) (a b c : ℕ) (t : Bool)
    (o : Op) (i : ℤ) (m : ℕ) (rest : List FlowNode) → Piece P true j xs ss a
    → Piece P t (j + length xs) ys ts b → (takes_right (role_of o) ≡ true → t ≡ true)
    → (form_of o ≡ form.Constant → ⊥) → Good P (suc (j + length xs + length ys)) rest c
    → Good P j (xs ++ (ys ++ record { op = o; imm = i; number = m; guard = None; left = ss; right = ts } ∷ rest))
    (1 + a + b + c)
grouped P j xs ys ss ts a b c t o i m rest x y right plain g =
    let n : FlowNode = record { op = o; imm = i; number = m; guard = None; left = ss; right = ts } in
    let l = xs ++ (ys ++ n ∷ rest) in
    let all : (s : FlowSource) → uses s l ≡ uses s xs + (uses s ys + (times s ss + (times s ts + 0) + uses s rest)) =
    λ s.
    let u = uses_append s xs (ys ++ n ∷ rest) in
    let v = uses_append s ys (n ∷ rest) in
    let w : uses s (n ∷ rest) ≡ times s ss + (times s ts + 0) + uses s rest = node_uses s n rest in
    omega (arith, u, v, w) in
    let p = price_append xs (ys ++ n ∷ rest) in
    let q = price_append ys (n ∷ rest) in
    let z = own_most (form_of o) in
    let cx = x.cost in
    let cy = y.cost in
    let cg = g.cost in
    record {
      nodes = flat_append j xs (ys ++ n ∷ rest) x.nodes
          (flat_append (j + length xs) ys (n ∷ rest) y.nodes (
            record {
              guard = refl;
              left = λ e. x.fed refl (j + length xs + length ys) (omega arith);
              right = λ e. y.fed (right e) (j + length xs + length ys) (omega arith);
            },
            g.nodes,
          ));
      used = used_append l j xs (ys ++ n ∷ rest)
          (x.used l (λ s. let h = all s in omega (arith, h)))
          (used_append l (j + length xs) ys (n ∷ rest) (y.used l (λ s. let h = all s in omega (arith, h))) (
            (λ e. absurd (plain e)),
            used_grow rest l (λ s. let h = all s in omega (arith, h)) (suc (j + length xs + length ys)) rest g.used,
          ));
      reads = read_append P xs (ys ++ n ∷ rest) x.reads
          (read_append P ys (n ∷ rest) y.reads (x.named, y.named, g.reads));
      cost = omega (arith, p, q, z, cx, cy, cg);
    }
