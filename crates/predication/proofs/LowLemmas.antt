-- A block of at most 128 nodes has numbers that a node's field holds: each load, store and exit is a node.
use Rattle.std.proofs.Common.{◌≡◌, ℕ, zero, suc, ◌+◌, ◌/◌, ◌%◌, ◌<◌, ◌≤◌, Bool, true, false, nat_lt, List, [], ◌∷◌}
use Rattle.std.proofs.Common.{◌++◌, length, length-append, map, refl, ap, ap₂, arith}
use Rattle.std.specs.Prelude.{Option, Some, None}
use Rattle.trips_isa.specs.Forms.{role_of, takes_right}
use Rattle.ir_forms.specs.declared.hyper.Source.{Source}
use Rattle.ir_forms.specs.declared.hyper.Source.TheVariants.{Const, Reg}
use Rattle.ir_forms.specs.declared.hyper.Exit.{Exit}
use Rattle.ir_forms.specs.declared.hyper.Exit.TheVariants as exit
use Rattle.ir_forms.specs.declared.flow.FlowSource.{FlowSource}
use Rattle.ir_forms.specs.declared.flow.FlowNode.{FlowNode}
use Rattle.ir_forms.specs.inside.HyperCode.{Items, Done, Set, Load, Save, If, Tail, Leave, Test, Block}
use Rattle.predication.specs.inside.Environments.{Scope, Entry, Env, Bits, put, note, from_node, under, no_bits}
use Rattle.predication.specs.inside.Environments.{member}
use Rattle.predication.specs.inside.Environments.{at_start, left_bits, distinct}
use Rattle.trips_isa.specs.declared.op.Op.TheVariants.{Ret}
use Rattle.predication.specs.inside.Operands.{Got, node_of, chain, longer, movs, read_of, operand, second, bit_set}
use Rattle.predication.specs.inside.Operands.{fresh_test, test_by, tested, most_apps}
use Rattle.predication.specs.inside.Ifs.{left_of, side_of, join, items, touched}
use Rattle.predication.specs.inside.Tails.{branch_of, leaving, tail, tail_touched}
use Rattle.predication.specs.inside.Converted.{begun, ended, all_nodes}
use Rattle.predication.specs.inside.Emits.{low}
use Rattle.predication.proofs.EmittedIfs.{legs_at, test_at, yea_out, nay_at, nay_out, joined, rest_at, rest_out}
use Rattle.predication.proofs.Tails.{t_yea, t_nay_at, t_nay, t_joined}

-- no node has a number above k
abbrev AtMost : ℕ → List FlowNode → Type 0
AtMost k [] = Unit {0}
AtMost k (n ∷ ns) = (n.number ≤ k) × AtMost k ns

most_append : (k : ℕ) (a b : List FlowNode) → AtMost k a → AtMost k b → AtMost k (a ++ b)
most_append k [] b x y = y
most_append k (n ∷ a) b x y = (x.0, most_append k a b x.1 y)

-- NODES WITHOUT NUMBERS

chain_most : (d j w k : ℕ) → AtMost k (chain d j w).nodes
chain_most zero j w k = (omega arith, tt)
chain_most (suc d) j w k = go (nat_lt w 65536) (chain_most d j (w / 65536) k)
  where
    go : (b : Bool) → AtMost k (chain d j (w / 65536)).nodes
        → AtMost k (longer b j w (chain d j (w / 65536))).nodes
    go true h = (omega arith, tt)
    go false h = most_append k (chain d j (w / 65536)).nodes _ h (omega arith, tt)

movs_most : (k r : ℕ) (kept : List Scope) → AtMost k (movs r kept)
movs_most k r [] = tt
movs_most k r (g ∷ kept) = (omega arith, movs_most k r kept)

read_most : (k j r : ℕ) (ss : List FlowSource) (kept : List Scope) → AtMost k (read_of j r ss kept).nodes
read_most k j r [] kept = tt
read_most k j r (s ∷ ss) kept = movs_most k r kept

operand_most : (k j : ℕ) (env : Env) (a : Source) → AtMost k (operand j env a).nodes
operand_most k j env (Const w) = chain_most most_apps j w k
operand_most k j env (Reg r) = read_most k j r (env r).given (env r).kept

second_most : (b : Bool) (k j : ℕ) (env : Env) (a : Source) → AtMost k (second b j env a).nodes
second_most true k j env a = operand_most k j env a
second_most false k j env a = tt

fresh_most : (k : ℕ) (g : Scope) (j : ℕ) (x : Got) → AtMost k x.nodes → AtMost k (fresh_test g j x).nodes
fresh_most k g j x h = most_append k x.nodes _ h (omega arith, tt)

test_most : (k : ℕ) (g : Scope) (j : ℕ) (env : Env) (r : ℕ) (b : Option ℕ) → AtMost k (test_by g j env r b).nodes
test_most k g j env r None = fresh_most k g j (operand j env (Reg r)) (operand_most k j env (Reg r))
test_most k g j env r (Some i) = tt

tested_most : (k : ℕ) (g : Scope) (j : ℕ) (env : Env) (bits : Bits) (t : Source)
    → AtMost k (tested g j env bits t).nodes
tested_most k g j env bits (Const w) =
    fresh_most k g j (operand j env (Const w)) (operand_most k j env (Const w))
tested_most k g j env bits (Reg r) = test_most k g j env r (bits r)

left_most : (k : ℕ) (g : Scope) (j r : ℕ) (ss : List FlowSource) (kept : List Scope)
    → AtMost k (left_of g j r ss kept).nodes
left_most k g j r [] kept = tt
left_most k g j r (s ∷ ss) kept = most_append k (movs r kept) _ (movs_most k r kept) (omega arith, tt)

side_most : (b : Bool) (k : ℕ) (g : Scope) (j r : ℕ) (before mine : Entry)
    → AtMost k (side_of b g j r before mine).nodes
side_most true k g j r before mine = tt
side_most false k g j r before mine = left_most k g j r before.given before.kept

join_most : (rs : List ℕ) (k t j : ℕ) (env yea nay : Env) (ty tn : List ℕ)
    → AtMost k (join t j env yea nay ty tn rs).nodes
join_most [] k t j env yea nay ty tn = tt
join_most (r ∷ rs) k t j env yea nay ty tn =
    most_append k _ _ (side_most (member r ty) k _ _ r (env r) (yea r))
    (most_append k _ _ (side_most (member r tn) k _ _ r (env r) (nay r)) (join_most rs k t _ env yea nay ty tn))

-- ITEMS

-- numbers count up
items_up : (is : Items) (g : Scope) (j m : ℕ) (env : Env) (bits : Bits) → m ≤ (items g j m env bits is).number
items_up Done g j m env bits = omega arith
items_up (Set r o a b rest) g j m env bits = items_up rest g _ m _ _
items_up (Load r o a rest) g j m env bits =
    let k = j + length (operand j env a).nodes in
    omega (arith, items_up rest g (suc k) (suc m) (put env r (from_node k)) (note bits r None))
items_up (Save o a v rest) g j m env bits =
    let i = j + length (operand j env a).nodes in
    let k = i + length (operand i env v).nodes in
    omega (arith, items_up rest g (suc k) (suc m) env bits)
items_up (If t yea nay rest) g j m env bits =
    let y = yea_out g j m env bits t yea in
    let n = nay_out g j m env bits t yea nay in
    omega (
      arith,
      items_up yea (under (test_at g j env bits t) true) (legs_at g j env bits t) m env no_bits,
      items_up nay (under (test_at g j env bits t) false) (nay_at g j m env bits t yea) y.number env no_bits,
      items_up rest g (rest_at g j m env bits t yea nay) n.number (joined g j m env bits t yea nay).env
          (left_bits bits (touched yea ++ touched nay)),
    )

-- as many as there are loads and stores, each of which is a node
items_few : (is : Items) (g : Scope) (j m : ℕ) (env : Env) (bits : Bits)
    → (items g j m env bits is).number ≤ m + length (items g j m env bits is).nodes
items_few Done g j m env bits = omega arith
items_few (Set r o a b rest) g j m env bits =
    let xs = operand j env a in
    let ys = second (takes_right (role_of o)) (j + length xs.nodes) env b in
    let k = j + length xs.nodes + length ys.nodes in
    let os = items g (suc k) m (put env r (from_node k)) (note bits r (bit_set o bits a k)) rest in
    let h = items_few rest g (suc k) m (put env r (from_node k)) (note bits r (bit_set o bits a k)) in
    let nd = node_of o 0 g xs.sources ys.sources in
    let l = length-append xs.nodes (ys.nodes ++ nd ∷ os.nodes) in
    let l2 = length-append ys.nodes (nd ∷ os.nodes) in
    omega (arith, h, l, l2)
items_few (Load r o a rest) g j m env bits =
    let xs = operand j env a in
    let k = j + length xs.nodes in
    let os = items g (suc k) (suc m) (put env r (from_node k)) (note bits r None) rest in
    let h = items_few rest g (suc k) (suc m) (put env r (from_node k)) (note bits r None) in
    let l = length-append xs.nodes (node_of o m g xs.sources [] ∷ os.nodes) in
    omega (arith, h, l)
items_few (Save o a v rest) g j m env bits =
    let xs = operand j env a in
    let ys = operand (j + length xs.nodes) env v in
    let k = j + length xs.nodes + length ys.nodes in
    let os = items g (suc k) (suc m) env bits rest in
    let h = items_few rest g (suc k) (suc m) env bits in
    let nd = node_of o m g xs.sources ys.sources in
    let l = length-append xs.nodes (ys.nodes ++ nd ∷ os.nodes) in
    let l2 = length-append ys.nodes (nd ∷ os.nodes) in
    omega (arith, h, l, l2)
items_few (If t yea nay rest) g j m env bits =
    let x = (tested g j env bits t).nodes in
    let y = yea_out g j m env bits t yea in
    let n = nay_out g j m env bits t yea nay in
    let c = joined g j m env bits t yea nay in
    let o = rest_out g j m env bits t yea nay rest in
    let a = items_few yea (under (test_at g j env bits t) true) (legs_at g j env bits t) m env no_bits in
    let b = items_few nay (under (test_at g j env bits t) false) (nay_at g j m env bits t yea) y.number env no_bits in
    let d = items_few rest g (rest_at g j m env bits t yea nay) n.number c.env
    (left_bits bits (touched yea ++ touched nay)) in
    let l1 = length-append x (y.nodes ++ (n.nodes ++ (c.nodes ++ o.nodes))) in
    let l2 = length-append y.nodes (n.nodes ++ (c.nodes ++ o.nodes)) in
    let l3 = length-append n.nodes (c.nodes ++ o.nodes) in
    let l4 = length-append c.nodes o.nodes in
    omega (arith, a, b, d, l1, l2, l3, l4)

items_most : (is : Items) (g : Scope) (j m : ℕ) (env : Env) (bits : Bits) (k : ℕ)
    → (items g j m env bits is).number ≤ k → AtMost k (items g j m env bits is).nodes
items_most Done g j m env bits k h = tt
items_most (Set r o a b rest) g j m env bits k h =
    most_append k _ _ (operand_most k j env a)
    (most_append k _ _ (second_most (takes_right (role_of o)) k _ env b)
    (omega arith, items_most rest g _ m _ _ k h))
items_most (Load r o a rest) g j m env bits k h =
    let i = j + length (operand j env a).nodes in
    let up = items_up rest g (suc i) (suc m) (put env r (from_node i)) (note bits r None) in
    let l : m ≤ k = omega (arith, up, h) in
    most_append k _ _ (operand_most k j env a) (l, items_most rest g _ _ _ _ k h)
items_most (Save o a v rest) g j m env bits k h =
    let i = j + length (operand j env a).nodes in
    let e = i + length (operand i env v).nodes in
    let up = items_up rest g (suc e) (suc m) env bits in
    let l : m ≤ k = omega (arith, up, h) in
    most_append k _ _ (operand_most k j env a)
    (most_append k _ _ (operand_most k i env v) (l, items_most rest g _ _ _ _ k h))
items_most (If t yea nay rest) g j m env bits k h =
    let y = yea_out g j m env bits t yea in
    let n = nay_out g j m env bits t yea nay in
    let c = joined g j m env bits t yea nay in
    let un = items_up nay (under (test_at g j env bits t) false) (nay_at g j m env bits t yea) y.number env no_bits in
    let ur = items_up rest g (rest_at g j m env bits t yea nay) n.number c.env
    (left_bits bits (touched yea ++ touched nay)) in
    let ln : n.number ≤ k = omega (arith, ur, h) in
    let ly : y.number ≤ k = omega (arith, un, ln) in
    most_append k _ _ (tested_most k g j env bits t)
    (most_append k _ _ (items_most yea _ _ m env no_bits k ly)
    (most_append k _ _ (items_most nay _ _ y.number env no_bits k ln)
    (most_append k _ _ (join_most (distinct (touched yea ++ touched nay)) k _ _ env y.env n.env (touched yea)
    (touched nay))
    (items_most rest g _ n.number c.env (left_bits bits (touched yea ++ touched nay)) k h))))

-- EXITS

leaving_up : (x : Exit) (g : Scope) (j e : ℕ) (env : Env) → e ≤ (leaving g j e env x).number
leaving_up (exit.Jump l) g j e env = omega arith
leaving_up (exit.Call l back) g j e env = omega arith
leaving_up exit.Return g j e env = omega arith
leaving_up (exit.System l) g j e env = omega arith

tail_up : (t : Tail) (g : Scope) (j e : ℕ) (env : Env) (bits : Bits) → e ≤ (tail g j e env bits t).number
tail_up (Leave x) g j e env bits = leaving_up x g j e env
tail_up (Test t yea nay) g j e env bits =
    omega (
      arith,
      tail_up yea (under (test_at g j env bits t) true) (legs_at g j env bits t) e env no_bits,
      tail_up nay (under (test_at g j env bits t) false) (t_nay_at g j e env bits t yea)
          (t_yea g j e env bits t yea).number env no_bits,
    )

leaving_few : (x : Exit) (g : Scope) (j e : ℕ) (env : Env)
    → (leaving g j e env x).number ≤ e + length (leaving g j e env x).nodes
leaving_few (exit.Jump l) g j e env = omega arith
leaving_few (exit.Call l back) g j e env = omega arith
leaving_few exit.Return g j e env =
    let x = operand j env (Reg 2) in
    let l = length-append x.nodes (branch_of Ret 0 e g x.sources ∷ []) in omega (arith, l)
leaving_few (exit.System l) g j e env = omega arith

tail_few : (t : Tail) (g : Scope) (j e : ℕ) (env : Env) (bits : Bits)
    → (tail g j e env bits t).number ≤ e + length (tail g j e env bits t).nodes
tail_few (Leave x) g j e env bits = leaving_few x g j e env
tail_few (Test t yea nay) g j e env bits =
    let x = (tested g j env bits t).nodes in
    let y = t_yea g j e env bits t yea in
    let n = t_nay g j e env bits t yea nay in
    let c = t_joined g j e env bits t yea nay in
    let a = tail_few yea (under (test_at g j env bits t) true) (legs_at g j env bits t) e env no_bits in
    let b = tail_few nay (under (test_at g j env bits t) false)
    (t_nay_at g j e env bits t yea) y.number env no_bits in
    let l1 = length-append x (y.nodes ++ (n.nodes ++ c.nodes)) in
    let l2 = length-append y.nodes (n.nodes ++ c.nodes) in
    let l3 = length-append n.nodes c.nodes in
    omega (arith, a, b, l1, l2, l3)

leaving_most : (x : Exit) (g : Scope) (j e : ℕ) (env : Env) (k : ℕ) → (leaving g j e env x).number ≤ k
    → AtMost k (leaving g j e env x).nodes
leaving_most (exit.Jump l) g j e env k h = (omega (arith, h), tt)
leaving_most (exit.Call l back) g j e env k h =
    (omega arith, (omega arith, (omega arith, (omega (arith, h), tt))))
leaving_most exit.Return g j e env k h =
    most_append k _ _ (operand_most k j env (Reg 2)) (omega (arith, h), tt)
leaving_most (exit.System l) g j e env k h = (omega (arith, h), tt)

tail_most : (t : Tail) (g : Scope) (j e : ℕ) (env : Env) (bits : Bits) (k : ℕ) → (tail g j e env bits t).number ≤ k
    → AtMost k (tail g j e env bits t).nodes
tail_most (Leave x) g j e env bits k h = leaving_most x g j e env k h
tail_most (Test t yea nay) g j e env bits k h =
    let y = t_yea g j e env bits t yea in
    let n = t_nay g j e env bits t yea nay in
    let un = tail_up nay (under (test_at g j env bits t) false)
    (t_nay_at g j e env bits t yea) y.number env no_bits in
    let ly : y.number ≤ k = omega (arith, un, h) in
    most_append k _ _ (tested_most k g j env bits t)
    (most_append k _ _ (tail_most yea _ _ e env no_bits k ly)
    (most_append k _ _ (tail_most nay _ _ y.number env no_bits k h)
    (join_most (distinct (tail_touched yea ++ tail_touched nay)) k _ _ env y.env n.env (tail_touched yea)
    (tail_touched nay))))

-- THE BLOCK

low_stays : (k : ℕ) (ns : List FlowNode) → k < 256 → AtMost k ns → map low ns ≡ ns
low_stays k [] l x = refl
low_stays k (n ∷ ns) l x =
    let m : n.number % 256 ≡ n.number = omega (arith, x.0, l) in
    let e : low n ≡ n = ap (λ (z : ℕ). record n { number = z }) m in
    ap₂ (λ a b. a ∷ b) e (low_stays k ns l x.1)

-- numbers modulo 256 are the numbers
pub low_nodes : (b : Block) → length (all_nodes b) ≤ 128 → map low (all_nodes b) ≡ all_nodes b
low_nodes b l =
    let x = begun b in
    let y = ended b in
    let c = length-append x.nodes y.nodes in
    let f = items_few b.items None 0 0 at_start no_bits in
    let h = tail_few b.tail None (length x.nodes) 0 x.env x.bits in
    let m1 : x.number ≤ 128 = omega (arith, f, c, l) in
    let m2 : y.number ≤ 128 = omega (arith, h, c, l) in
    low_stays 128 (all_nodes b) (omega arith)
    (most_append 128 x.nodes y.nodes (items_most b.items None 0 0 at_start no_bits 128 m1)
    (tail_most b.tail None (length x.nodes) 0 x.env x.bits 128 m2))
