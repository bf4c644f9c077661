-- One item emitted, and the rest to come, is the item and the rest to come.
use Rattle.std.proofs.Common.{◌≡◌, ℕ, suc, ◌+◌, List, [], ◌∷◌, ◌++◌, length, length-append, refl, sym, ap, subst}
use Rattle.std.proofs.Common.{◌∙◌, arith, map, append_assoc, append-nil, Bool}
use Rattle.std.specs.Prelude.{Option, None, pos}
use Rattle.trips_isa.specs.declared.op.Op.{Op}
use Rattle.trips_isa.specs.Forms.{role_of, takes_right}
use Rattle.ir_forms.specs.declared.hyper.Source.{Source}
use Rattle.ir_forms.specs.declared.flow.FlowSource.{FlowSource}
use Rattle.ir_forms.specs.declared.flow.FlowNode.{FlowNode}
use Rattle.ir_forms.specs.inside.HyperCode.{Items, Set, Load, Save}
use Rattle.predication.specs.declared.work.Work.{Work}
use Rattle.predication.specs.declared.work.Names.{Names}
use Rattle.predication.specs.inside.Environments.{Scope, Env, Bits, put, note, from_node}
use Rattle.predication.specs.inside.Operands.{Got, node_of, operand, second, bit_set}
use Rattle.predication.specs.inside.Ifs.{Out, items, touched}
use Rattle.predication.specs.inside.Emits.{Adds, low, node, env_of, bits_of}
use Rattle.predication.specs.inside.Ends.{End, behind, out_of, ends}
use Rattle.predication.proofs.AddLemmas.{more_nodes, count_more, same_work, adds_nodes, adds_number, adds_two}
use Rattle.predication.proofs.AddLemmas.{adds_count}

-- what a list of items comes to, with the registers that it sets and its nodes
abbrev pub end_of : Out → List ℕ → List FlowNode → End
end_of o set ns = record { nodes = ns; env = o.env; bits = o.bits; number = o.number; sets = set }

-- more nodes before what comes
abbrev pub after : List FlowNode → Out → Out
after X o = record { nodes = X ++ o.nodes; env = o.env; bits = o.bits; number = o.number }

-- where the state is known, so is the end
pub goes_on : (g : Scope) (w : Work) (n : Names) (j m : ℕ) (env : Env) (bits : Bits) (rest : Items)
    → length w.nodes ≡ j → w.number ≡ m → env_of n.entries ≡ env → bits_of n.bits ≡ bits
    → out_of g w n rest ≡ items g j m env bits rest
goes_on g w n j m env bits rest b c d e =
    ap (λ (z : ℕ). items g z w.number (env_of n.entries) (bits_of n.bits) rest) b
    ∙ ap (λ (z : ℕ). items g j z (env_of n.entries) (bits_of n.bits) rest) c
    ∙ ap (λ (z : Env). items g j m z (bits_of n.bits) rest) d
    ∙ ap (λ (z : Bits). items g j m env z rest) e

-- nodes that are emitted, and the rest behind them
pub emitted : (g : Scope) (w w2 : Work) (n n2 : Names) (X : List FlowNode) (j m : ℕ) (env : Env) (bits : Bits)
    (new : List ℕ) (rest : Items)
    → w2.nodes ≡ w.nodes ++ map low X → length w.nodes + length X ≡ j → w2.number ≡ m → env_of n2.entries ≡ env
    → bits_of n2.bits ≡ bits → n2.sets ≡ n.sets ++ new
    → ends g w2 n2 rest ≡ behind w.nodes (after X (items g j m env bits rest)) (n.sets ++ (new ++ touched rest))
emitted g w w2 n n2 X j m env bits new rest e c f p q s =
    let o = items g j m env bits rest in
    let l : length w2.nodes ≡ j = ap (λ (z : List FlowNode). length z) e ∙ count_more w.nodes X ∙ c in
    let a : ends g w2 n2 rest ≡ behind w2.nodes o (n2.sets ++ touched rest) =
    ap (λ (z : Out). behind w2.nodes z (n2.sets ++ touched rest)) (goes_on g w2 n2 j m env bits rest l f p q) in
    let b : n2.sets ++ touched rest ≡ n.sets ++ (new ++ touched rest) =
    ap (λ (z : List ℕ). z ++ touched rest) s ∙ append_assoc n.sets new (touched rest) in
    let d : w2.nodes ++ map low o.nodes ≡ w.nodes ++ map low (X ++ o.nodes) =
    ap (λ (z : List FlowNode). z ++ map low o.nodes) e ∙ more_nodes w.nodes X o.nodes in
    a ∙ ap (λ (z : List ℕ). behind w2.nodes o z) b
    ∙ ap (λ (z : List FlowNode). end_of o (n.sets ++ (new ++ touched rest)) z) d

-- one node behind two operands
grouped : (x y o : List FlowNode) (d : FlowNode) → (x ++ (y ++ d ∷ [])) ++ o ≡ x ++ (y ++ d ∷ o)
grouped x y o d =
    append_assoc x (y ++ d ∷ []) o ∙ ap (λ (z : List FlowNode). x ++ z) (append_assoc y (d ∷ []) o)

counted : (j : ℕ) (x y : List FlowNode) (d : FlowNode)
    → j + length (x ++ (y ++ d ∷ [])) ≡ suc (j + length x + length y)
counted j x y d = omega (arith, length-append x (y ++ d ∷ []), length-append y (d ∷ []))

counted_one : (j : ℕ) (x : List FlowNode) (d : FlowNode) → j + length (x ++ d ∷ []) ≡ suc (j + length x)
counted_one j x d = omega (arith, length-append x (d ∷ []))

-- a node of given parts, with other names for its operands
same_node : (w w2 : Work) (o : Op) (m : ℕ) (g : Scope) (l l2 r r2 : List FlowSource) → l ≡ l2 → r ≡ r2
    → Adds w w2 (node o (pos 0) m g l r ∷ []) → Adds w w2 (node_of o m g l2 r2 ∷ [])
same_node w w2 o m g l l2 r r2 e f u =
    let a : Adds w w2 (node o (pos 0) m g l2 r ∷ []) =
    subst (λ (z : List FlowSource). Adds w w2 (node o (pos 0) m g z r ∷ [])) e u in
    subst (λ (z : List FlowSource). Adds w w2 (node o (pos 0) m g l2 z ∷ [])) f a

-- A `Set` that is emitted.
pub set_ends : (g : Scope) (w w1 w2 w3 : Work) (n n2 : Names) (r : ℕ) (o : Op) (a b : Source)
    (left right : List FlowSource) (at : ℕ) (tr : Bool) (bit : Option ℕ)
    → tr ≡ takes_right (role_of o) → bit ≡ bit_set o (bits_of n.bits) a at
    → Adds w w1 (operand (length w.nodes) (env_of n.entries) a).nodes
    → left ≡ (operand (length w.nodes) (env_of n.entries) a).sources
    → Adds w1 w2 (second tr (length w1.nodes) (env_of n.entries) b).nodes
    → right ≡ (second tr (length w1.nodes) (env_of n.entries) b).sources
    → at ≡ length w2.nodes → Adds w2 w3 (node o (pos 0) 0 g left right ∷ [])
    → env_of n2.entries ≡ put (env_of n.entries) r (from_node at)
    → bits_of n2.bits ≡ note (bits_of n.bits) r bit → n2.sets ≡ n.sets ++ r ∷ []
    → (rest : Items) → ends g w3 n2 rest ≡ ends g w n (Set r o a b rest)
set_ends g w w1 w2 w3 n n2 r o a b left right at tr bit er ei p s q t e u v z y rest =
    let j = length w.nodes in
    let env = env_of n.entries in
    let xs = operand j env a in
    let ys = second (takes_right (role_of o)) (j + length xs.nodes) env b in
    let k = j + length xs.nodes + length ys.nodes in
    let nd = node_of o 0 g xs.sources ys.sources in
    let X = xs.nodes ++ (ys.nodes ++ nd ∷ []) in
    let l1 : length w1.nodes ≡ j + length xs.nodes = adds_count w w1 xs.nodes p in
    let ey : second tr (length w1.nodes) env b ≡ ys =
    ap (λ (c : Bool). second c (length w1.nodes) env b) er
    ∙ ap (λ (i : ℕ). second (takes_right (role_of o)) i env b) l1 in
    let q2 : Adds w1 w2 ys.nodes = subst (λ (d : Got). Adds w1 w2 d.nodes) ey q in
    let u2 : Adds w2 w3 (nd ∷ []) =
    same_node w2 w3 o 0 g left xs.sources right ys.sources s (t ∙ ap (λ (d : Got). d.sources) ey) u in
    let all : Adds w w3 X =
    adds_two w w1 w3 xs.nodes (ys.nodes ++ nd ∷ []) p (adds_two w1 w2 w3 ys.nodes (nd ∷ []) q2 u2) in
    let ek : at ≡ k = e ∙ adds_count w1 w2 ys.nodes q2 ∙ ap (λ (i : ℕ). i + length ys.nodes) l1 in
    let env2 = put env r (from_node k) in
    let bits2 = note (bits_of n.bits) r (bit_set o (bits_of n.bits) a k) in
    let os = items g (suc k) w.number env2 bits2 rest in
    emitted g w w3 n n2 X (suc k) w.number env2 bits2 (r ∷ []) rest (adds_nodes w w3 X all)
    (counted j xs.nodes ys.nodes nd) (adds_number w w3 X all)
    (v ∙ ap (λ (i : ℕ). put env r (from_node i)) ek)
    (z ∙ ap (λ (c : Option ℕ). note (bits_of n.bits) r c) ei
    ∙ ap (λ (i : ℕ). note (bits_of n.bits) r (bit_set o (bits_of n.bits) a i)) ek) y
    ∙ ap (λ (ns : List FlowNode). end_of os (n.sets ++ (r ∷ touched rest)) (w.nodes ++ map low ns))
    (grouped xs.nodes ys.nodes os.nodes nd)

-- A number that is taken.
counts_on : (w w1 w2 w3 : Work) (x d : List FlowNode) → Adds w w1 x → w2 ≡ record w1 { number = w1.number + 1 }
    → Adds w2 w3 d → w3 ≡ record { nodes = w.nodes ++ map low (x ++ d); number = w.number + 1 }
counts_on w w1 w2 w3 x d p q u =
    let n2 : w2.nodes ≡ w1.nodes = ap (λ (z : Work). z.nodes) q in
    let m2 : w2.number ≡ w1.number + 1 = ap (λ (z : Work). z.number) q in
    let m1 : w1.number ≡ w.number = adds_number w w1 x p in
    let m3 : w3.number ≡ w2.number = adds_number w2 w3 d u in
    let m : w3.number ≡ w.number + 1 = omega (arith, m1, m2, m3) in
    let e : w3.nodes ≡ w.nodes ++ map low (x ++ d) =
    adds_nodes w2 w3 d u ∙ ap (λ (ns : List FlowNode). ns ++ map low d) (n2 ∙ adds_nodes w w1 x p)
    ∙ more_nodes w.nodes x d in
    same_work w3 (record { nodes = w.nodes ++ map low (x ++ d); number = w.number + 1 }) e m

-- A `Load` that is emitted.
pub load_ends : (g : Scope) (w w1 w2 w3 : Work) (n n2 : Names) (r : ℕ) (o : Op) (a : Source)
    (left right : List FlowSource) (m at : ℕ)
    → Adds w w1 (operand (length w.nodes) (env_of n.entries) a).nodes
    → left ≡ (operand (length w.nodes) (env_of n.entries) a).sources
    → m ≡ w1.number → w2 ≡ record w1 { number = w1.number + 1 } → right ≡ []
    → at ≡ length w2.nodes → Adds w2 w3 (node o (pos 0) m g left right ∷ [])
    → env_of n2.entries ≡ put (env_of n.entries) r (from_node at)
    → bits_of n2.bits ≡ note (bits_of n.bits) r None → n2.sets ≡ n.sets ++ r ∷ []
    → (rest : Items) → ends g w3 n2 rest ≡ ends g w n (Load r o a rest)
load_ends g w w1 w2 w3 n n2 r o a left right m at p s em q er e u v z y rest =
    let j = length w.nodes in
    let env = env_of n.entries in
    let xs = operand j env a in
    let k = j + length xs.nodes in
    let nd = node_of o w.number g xs.sources [] in
    let X = xs.nodes ++ nd ∷ [] in
    let l1 : length w1.nodes ≡ k = adds_count w w1 xs.nodes p in
    let m1 : m ≡ w.number = em ∙ adds_number w w1 xs.nodes p in
    let u1 : Adds w2 w3 (node_of o m g xs.sources [] ∷ []) =
    same_node w2 w3 o m g left xs.sources right [] s er u in
    let u2 : Adds w2 w3 (nd ∷ []) = subst (λ (i : ℕ). Adds w2 w3 (node_of o i g xs.sources [] ∷ [])) m1 u1 in
    let all = counts_on w w1 w2 w3 xs.nodes (nd ∷ []) p q u2 in
    let ek : at ≡ k = e ∙ ap (λ (i : Work). length i.nodes) q ∙ l1 in
    let env2 = put env r (from_node k) in
    let bits2 = note (bits_of n.bits) r None in
    let os = items g (suc k) (suc w.number) env2 bits2 rest in
    let counted_on : w3.number ≡ w.number + 1 = ap (λ (i : Work). i.number) all in
    let num : w3.number ≡ suc w.number = omega (arith, counted_on) in
    emitted g w w3 n n2 X (suc k) (suc w.number) env2 bits2 (r ∷ []) rest (ap (λ (i : Work). i.nodes) all)
    (counted_one j xs.nodes nd) num
    (v ∙ ap (λ (i : ℕ). put env r (from_node i)) ek) z y
    ∙ ap (λ (ns : List FlowNode). end_of os (n.sets ++ (r ∷ touched rest)) (w.nodes ++ map low ns))
    (append_assoc xs.nodes (nd ∷ []) os.nodes)

-- A `Save` that is emitted.
pub save_ends : (g : Scope) (w w1 w2 w3 w4 : Work) (n : Names) (o : Op) (a b : Source)
    (left right : List FlowSource) (m : ℕ)
    → Adds w w1 (operand (length w.nodes) (env_of n.entries) a).nodes
    → left ≡ (operand (length w.nodes) (env_of n.entries) a).sources
    → Adds w1 w2 (operand (length w1.nodes) (env_of n.entries) b).nodes
    → right ≡ (operand (length w1.nodes) (env_of n.entries) b).sources
    → m ≡ w2.number → w3 ≡ record w2 { number = w2.number + 1 }
    → Adds w3 w4 (node o (pos 0) m g left right ∷ [])
    → (rest : Items) → ends g w4 n rest ≡ ends g w n (Save o a b rest)
save_ends g w w1 w2 w3 w4 n o a b left right m p s q t em c u rest =
    let j = length w.nodes in
    let env = env_of n.entries in
    let xs = operand j env a in
    let ys = operand (j + length xs.nodes) env b in
    let k = j + length xs.nodes + length ys.nodes in
    let nd = node_of o w.number g xs.sources ys.sources in
    let X = xs.nodes ++ (ys.nodes ++ nd ∷ []) in
    let l1 : length w1.nodes ≡ j + length xs.nodes = adds_count w w1 xs.nodes p in
    let ey : operand (length w1.nodes) env b ≡ ys = ap (λ (i : ℕ). operand i env b) l1 in
    let q2 : Adds w1 w2 ys.nodes = subst (λ (d : Got). Adds w1 w2 d.nodes) ey q in
    let pq : Adds w w2 (xs.nodes ++ ys.nodes) = adds_two w w1 w2 xs.nodes ys.nodes p q2 in
    let m1 : m ≡ w.number = em ∙ adds_number w w2 (xs.nodes ++ ys.nodes) pq in
    let u1 : Adds w3 w4 (node_of o m g xs.sources ys.sources ∷ []) =
    same_node w3 w4 o m g left xs.sources right ys.sources s (t ∙ ap (λ (d : Got). d.sources) ey) u in
    let u2 : Adds w3 w4 (nd ∷ []) =
    subst (λ (i : ℕ). Adds w3 w4 (node_of o i g xs.sources ys.sources ∷ [])) m1 u1 in
    let all = counts_on w w2 w3 w4 (xs.nodes ++ ys.nodes) (nd ∷ []) pq c u2 in
    let nodes : w4.nodes ≡ w.nodes ++ map low X =
    ap (λ (i : Work). i.nodes) all
    ∙ ap (λ (ns : List FlowNode). w.nodes ++ map low ns) (append_assoc xs.nodes ys.nodes (nd ∷ [])) in
    let os = items g (suc k) (suc w.number) env (bits_of n.bits) rest in
    let counted_on : w4.number ≡ w.number + 1 = ap (λ (i : Work). i.number) all in
    let num : w4.number ≡ suc w.number = omega (arith, counted_on) in
    emitted g w w4 n n X (suc k) (suc w.number) env (bits_of n.bits) [] rest nodes
    (counted j xs.nodes ys.nodes nd) num refl refl (sym (append-nil n.sets))
    ∙ ap (λ (ns : List FlowNode). end_of os (n.sets ++ touched rest) (w.nodes ++ map low ns))
    (grouped xs.nodes ys.nodes os.nodes nd)
