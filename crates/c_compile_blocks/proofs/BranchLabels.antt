-- The labels of the branches of a predicated block are labels of the program.
use Rattle.std.proofs.Common.{◌≡◌, ℕ, zero, suc, ◌+◌, ◌/◌, Bool, true, false, nat_lt, List, [], ◌∷◌}
use Rattle.std.proofs.Common.{◌++◌, length, Option, Some, None}
use Rattle.std.specs.Prelude.{ℤ, pos}
use Rattle.trips_isa.specs.declared.op.Op.{Op}
use Rattle.trips_isa.specs.declared.op.Op.TheVariants.{Bro, Callo}
use Rattle.trips_isa.specs.Forms.{role_of, takes_right}
use Rattle.ir_forms.specs.declared.hyper.Source.{Source}
use Rattle.ir_forms.specs.declared.hyper.Source.TheVariants.{Const, Reg}
use Rattle.ir_forms.specs.declared.hyper.Exit.{Exit}
use Rattle.ir_forms.specs.declared.hyper.Exit.TheVariants as exit
use Rattle.ir_forms.specs.declared.flow.FlowSource.{FlowSource}
use Rattle.ir_forms.specs.declared.flow.FlowNode.{FlowNode}
use Rattle.ir_forms.specs.inside.HyperCode.{Items, Done, Set, Load, Save, If, Tail, Leave, Test}
use Rattle.hyper_narrow.specs.inside.NarrowedCode.{Narrowed}
use Rattle.ir_forms.specs.inside.FlatFits.{operates, loads, stores}
use Rattle.ir_forms.specs.inside.HyperFits.{FitsItems, LeadsOn, AllLeadOn, FitsHyper}
use Rattle.predication.specs.declared.work.Entry.{Entry}
use Rattle.predication.specs.inside.Environments.{Scope, Env, Bits, no_bits, put, note, from_node, under}
use Rattle.predication.specs.inside.Environments.{left_bits, member, at_start, distinct}
use Rattle.predication.specs.inside.Operands.{node_of, Chain, Got, chain, longer, movs, read_of, operand, second}
use Rattle.predication.specs.inside.Operands.{most_apps}
use Rattle.predication.specs.inside.Operands.{bit_set, fresh_test, test_by, tested}
use Rattle.predication.specs.inside.Ifs.{left_of, side_of, join, items, touched}
use Rattle.predication.specs.inside.Tails.{address_end, exit_with, tail_with, labelled, leaving, tail}
use Rattle.predication.specs.inside.Tails.{tail_touched}
use Rattle.predication.specs.inside.Converted.{begun, ended, predicated}
use Rattle.c_compile_layout.specs.inside.Emitted.{LabelBelow}

-- the label of each branch among nodes is below n
abbrev pub AllBelow : ℕ → List FlowNode → Type 0
AllBelow n [] = Unit {0}
AllBelow n (x ∷ xs) = LabelBelow n x.op x.imm × AllBelow n xs

below_append : (n : ℕ) (a b : List FlowNode) → AllBelow n a → AllBelow n b → AllBelow n (a ++ b)
below_append n [] b h g = g
below_append n (x ∷ a) b h g = (h.0, below_append n a b h.1 g)

-- what is no branch has no label
operates_below : (n : ℕ) (o : Op) (imm : ℤ) → operates o ≡ true → LabelBelow n o imm
operates_below n Bro imm e = absurd (cc)
operates_below n Callo imm e = absurd (cc)
operates_below n _ imm e = tt

loads_below : (n : ℕ) (o : Op) (imm : ℤ) → loads o ≡ true → LabelBelow n o imm
loads_below n Bro imm e = absurd (cc)
loads_below n Callo imm e = absurd (cc)
loads_below n _ imm e = tt

stores_below : (n : ℕ) (o : Op) (imm : ℤ) → stores o ≡ true → LabelBelow n o imm
stores_below n Bro imm e = absurd (cc)
stores_below n Callo imm e = absurd (cc)
stores_below n _ imm e = tt

-- OPERANDS

longer_below : (n : ℕ) (b : Bool) (j w : ℕ) (c : Chain) → AllBelow n c.nodes
    → AllBelow n (longer b j w c).nodes
longer_below n true j w c h = (tt, tt)
longer_below n false j w c h = below_append n c.nodes _ h (tt, tt)

chain_below : (n d j w : ℕ) → AllBelow n (chain d j w).nodes
chain_below n zero j w = (tt, tt)
chain_below n (suc d) j w =
    longer_below n (nat_lt w 65536) j w (chain d j (w / 65536)) (chain_below n d j (w / 65536))

movs_below : (n r : ℕ) (gs : List Scope) → AllBelow n (movs r gs)
movs_below n r [] = tt
movs_below n r (g ∷ gs) = (tt, movs_below n r gs)

read_below : (n j r : ℕ) (ss : List FlowSource) (kept : List Scope)
    → AllBelow n (read_of j r ss kept).nodes
read_below n j r [] kept = tt
read_below n j r (s ∷ ss) kept = movs_below n r kept

operand_below : (n j : ℕ) (env : Env) (s : Source) → AllBelow n (operand j env s).nodes
operand_below n j env (Const w) = chain_below n most_apps j w
operand_below n j env (Reg r) = read_below n j r (env r).given (env r).kept

second_below : (n : ℕ) (t : Bool) (j : ℕ) (env : Env) (s : Source)
    → AllBelow n (second t j env s).nodes
second_below n true j env s = operand_below n j env s
second_below n false j env s = tt

fresh_below : (n : ℕ) (g : Scope) (j : ℕ) (x : Got) → AllBelow n x.nodes
    → AllBelow n (fresh_test g j x).nodes
fresh_below n g j x h = below_append n x.nodes _ h (tt, tt)

by_below : (n : ℕ) (g : Scope) (j : ℕ) (env : Env) (r : ℕ) (bit : Option ℕ)
    → AllBelow n (test_by g j env r bit).nodes
by_below n g j env r (Some k) = tt
by_below n g j env r None =
    fresh_below n g j (operand j env (Reg r)) (operand_below n j env (Reg r))

tested_below : (n : ℕ) (g : Scope) (j : ℕ) (env : Env) (bits : Bits) (t : Source)
    → AllBelow n (tested g j env bits t).nodes
tested_below n g j env bits (Const w) =
    fresh_below n g j (operand j env (Const w)) (operand_below n j env (Const w))
tested_below n g j env bits (Reg r) = by_below n g j env r (bits r)

-- THE END OF AN IF

left_below : (n : ℕ) (g : Scope) (j r : ℕ) (ss : List FlowSource) (kept : List Scope)
    → AllBelow n (left_of g j r ss kept).nodes
left_below n g j r [] kept = tt
left_below n g j r (s ∷ ss) kept = below_append n (movs r kept) _ (movs_below n r kept) (tt, tt)

side_below : (n : ℕ) (mine : Bool) (g : Scope) (j r : ℕ) (a b : Entry)
    → AllBelow n (side_of mine g j r a b).nodes
side_below n true g j r a b = tt
side_below n false g j r a b = left_below n g j r a.given a.kept

join_below : (n t j : ℕ) (env yea nay : Env) (ty tn rs : List ℕ)
    → AllBelow n (join t j env yea nay ty tn rs).nodes
join_below n t j env yea nay ty tn [] = tt
join_below n t j env yea nay ty tn (r ∷ rs) =
    let a = side_of (member r ty) (under t true) j r (env r) (yea r) in
    let b = side_of (member r tn) (under t false) (j + length a.nodes) r (env r) (nay r) in
    let c = join t (j + length a.nodes + length b.nodes) env yea nay ty tn rs in
    below_append n a.nodes (b.nodes ++ c.nodes)
    (side_below n (member r ty) (under t true) j r (env r) (yea r))
    (below_append n b.nodes c.nodes
    (side_below n (member r tn) (under t false) (j + length a.nodes) r (env r) (nay r))
    (join_below n t (j + length a.nodes + length b.nodes) env yea nay ty tn rs))

-- ITEMS

items_below : (n : ℕ) (g : Scope) (j m : ℕ) (env : Env) (bits : Bits) (is : Items) → FitsItems is
    → AllBelow n (items g j m env bits is).nodes
items_below n g j m env bits Done f = tt
items_below n g j m env bits (Set r op a b rest) f =
    let x = operand j env a in
    let t = takes_right (role_of op) in
    let y = second t (j + length x.nodes) env b in
    let k = j + length x.nodes + length y.nodes in
    let e = put env r (from_node k) in
    let ts = note bits r (bit_set op bits a k) in
    let mine : List FlowNode =
    node_of op 0 g x.sources y.sources ∷ (items g (suc k) m e ts rest).nodes in
    below_append n x.nodes (y.nodes ++ mine) (operand_below n j env a)
    (below_append n y.nodes mine (second_below n t (j + length x.nodes) env b)
    (operates_below n op (pos 0) f.1, items_below n g (suc k) m e ts rest f.4))
items_below n g j m env bits (Load r op a rest) f =
    let x = operand j env a in
    let k = j + length x.nodes in
    let e = put env r (from_node k) in
    let ts = note bits r None in
    let mine : List FlowNode =
    node_of op m g x.sources [] ∷ (items g (suc k) (suc m) e ts rest).nodes in
    below_append n x.nodes mine (operand_below n j env a)
    (loads_below n op (pos 0) f.1, items_below n g (suc k) (suc m) e ts rest f.3)
items_below n g j m env bits (Save op a v rest) f =
    let x = operand j env a in
    let y = operand (j + length x.nodes) env v in
    let k = j + length x.nodes + length y.nodes in
    let mine : List FlowNode =
    node_of op m g x.sources y.sources ∷ (items g (suc k) (suc m) env bits rest).nodes in
    below_append n x.nodes (y.nodes ++ mine) (operand_below n j env a)
    (below_append n y.nodes mine (operand_below n (j + length x.nodes) env v)
    (stores_below n op (pos 0) f.0, items_below n g (suc k) (suc m) env bits rest f.3))
items_below n g j m env bits (If t one other rest) f =
    let x = tested g j env bits t in
    let i = j + length x.nodes in
    let y = items (under x.last true) i m env no_bits one in
    let z = items (under x.last false) (i + length y.nodes) y.number env no_bits other in
    let c = join x.last (i + length y.nodes + length z.nodes) env y.env z.env (touched one)
    (touched other) (distinct (touched one ++ touched other)) in
    let lb = left_bits bits (touched one ++ touched other) in
    let o = items g (i + length y.nodes + length z.nodes + length c.nodes) z.number c.env lb rest in
    below_append n x.nodes (y.nodes ++ (z.nodes ++ (c.nodes ++ o.nodes))) (tested_below n g j env bits t)
    (below_append n y.nodes (z.nodes ++ (c.nodes ++ o.nodes))
    (items_below n (under x.last true) i m env no_bits one f.1)
    (below_append n z.nodes (c.nodes ++ o.nodes)
    (items_below n (under x.last false) (i + length y.nodes) y.number env no_bits other f.2)
    (below_append n c.nodes o.nodes
    (join_below n x.last (i + length y.nodes + length z.nodes) env y.env z.env (touched one)
    (touched other) (distinct (touched one ++ touched other)))
    (items_below n g (i + length y.nodes + length z.nodes + length c.nodes) z.number c.env lb
    rest f.3))))

-- EXITS

leaving_below : (n k : ℕ) (g : Scope) (j e : ℕ) (env : Env) (x : Exit) (f : ℕ → ℕ) → LeadsOn k n x
    → AllBelow n (leaving g j e env (exit_with f x)).nodes
leaving_below n k g j e env (exit.Jump l) f h = (h, tt)
leaving_below n k g j e env (exit.Call l back) f h = (tt, (tt, (tt, (h.0, tt))))
leaving_below n k g j e env exit.Return f h =
    below_append n (operand j env (Reg 2)).nodes _ (operand_below n j env (Reg 2)) (tt, tt)
leaving_below n k g j e env (exit.System l) f h = (tt, tt)

tail_below : (n k : ℕ) (g : Scope) (j e : ℕ) (env : Env) (bits : Bits) (t : Tail) (f : ℕ → ℕ)
    → AllLeadOn k n t → AllBelow n (tail g j e env bits (tail_with f t)).nodes
tail_below n k g j e env bits (Leave x) f h = leaving_below n k g j e env x f h
tail_below n k g j e env bits (Test t one other) f h =
    let x = tested g j env bits t in
    let i = j + length x.nodes in
    let y = tail (under x.last true) i e env no_bits (tail_with f one) in
    let z = tail (under x.last false) (i + length y.nodes) y.number env no_bits
    (tail_with f other) in
    let ty = tail_touched (tail_with f one) in
    let tn = tail_touched (tail_with f other) in
    let c = join x.last (i + length y.nodes + length z.nodes) env y.env z.env ty tn (distinct (ty ++ tn)) in
    below_append n x.nodes (y.nodes ++ (z.nodes ++ c.nodes)) (tested_below n g j env bits t)
    (below_append n y.nodes (z.nodes ++ c.nodes)
    (tail_below n k (under x.last true) i e env no_bits one f h.0)
    (below_append n z.nodes c.nodes
    (tail_below n k (under x.last false) (i + length y.nodes) y.number env no_bits other f h.1)
    (join_below n x.last (i + length y.nodes + length z.nodes) env y.env z.env ty tn
    (distinct (ty ++ tn)))))

-- the labels of the branches of block k of n
pub labels_below : (n k : ℕ) (b : Narrowed) → FitsHyper b.block → AllLeadOn k n b.block.tail
    → AllBelow n (predicated (labelled b)).nodes
labels_below n k b fits leads =
    let s = begun (labelled b).block in
    below_append n s.nodes (ended (labelled b).block).nodes
    (items_below n None 0 0 at_start no_bits b.block.items fits.items)
    (tail_below n k None (length s.nodes) 0 s.env s.bits b.block.tail (λ l. address_end + l) leads)
