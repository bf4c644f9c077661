-- Both legs of an if emitted and met, and the rest to come, is the if and the rest to come.
use Rattle.std.proofs.Common.{◌≡◌, ℕ, ◌+◌, List, [], ◌++◌, length, length-append, sym, ap, subst}
use Rattle.std.proofs.Common.{◌∙◌, arith, map, append_assoc, append-nil, true, false}
use Rattle.ir_forms.specs.declared.hyper.Source.{Source}
use Rattle.ir_forms.specs.declared.flow.FlowNode.{FlowNode}
use Rattle.ir_forms.specs.declared.hyper.HyperItem.{HyperItem}
use Rattle.ir_forms.specs.declared.hyper.HyperItem.TheVariants as item
use Rattle.ir_forms.specs.inside.HyperCode.{Items, Done, If}
use Rattle.ir_forms.specs.inside.HyperViews.{items_of, then_items}
use Rattle.ir_forms.proofs.Views.{then_if}
use Rattle.predication.specs.declared.work.Work.{Work}
use Rattle.predication.specs.declared.work.Named.{Named}
use Rattle.predication.specs.declared.work.Noted.{Noted}
use Rattle.predication.specs.declared.work.Names.{Names}
use Rattle.predication.specs.inside.Environments.{Scope, Env, no_bits, left_bits, under, distinct}
use Rattle.predication.specs.inside.Operands.{Chain, tested}
use Rattle.predication.specs.inside.Ifs.{Joined, Out, join, items, touched}
use Rattle.predication.specs.inside.Emits.{Adds, low, env_of, bits_of, joined_at}
use Rattle.predication.specs.inside.Ends.{End, behind, out_of, ends}
use Rattle.predication.proofs.AddLemmas.{more_nodes, count_more, adds_nodes, adds_number, adds_count}
use Rattle.predication.proofs.EndLemmas.{end_of, goes_on, emitted}

-- a state that has come from another by these nodes
pub record Came (w w2 : Work) (n2 : Names) (X : List FlowNode) (m : ℕ) (v : Env) (set : List ℕ) : Type 0 where
  pub nodes : w2.nodes ≡ w.nodes ++ map low X
  pub number : w2.number ≡ m
  pub env : env_of n2.entries ≡ v
  pub sets : n2.sets ≡ set

-- where a state has come from another by some nodes, it has as many more
pub came_count : (w w2 : Work) (n2 : Names) (X : List FlowNode) (m : ℕ) (env : Env) (set : List ℕ)
    → Came w w2 n2 X m env set → length w2.nodes ≡ length w.nodes + length X
came_count w w2 n2 X m env set c = ap (λ (ns : List FlowNode). length ns) c.nodes ∙ count_more w.nodes X

-- names as a leg begins with them
pub record Begins (es : List Named) (n : Names) : Type 0 where
  pub entries : n.entries ≡ es
  pub bits : n.bits ≡ []
  pub sets : n.sets ≡ []

-- a leg whose items are all emitted
pub leg_came : (g g2 : Scope) (w w2 : Work) (es : List Named) (n n2 : Names) (is : Items) (j m : ℕ)
    → Begins es n → g ≡ g2 → length w.nodes ≡ j → w.number ≡ m → ends g w2 n2 Done ≡ ends g w n is
    → Came w w2 n2 (items g2 j m (env_of es) no_bits is).nodes (items g2 j m (env_of es) no_bits is).number
    (items g2 j m (env_of es) no_bits is).env (touched is)
leg_came g g2 w w2 es n n2 is j m b eg l k h =
    let o = items g2 j m (env_of es) no_bits is in
    let eo : out_of g w n is ≡ o =
    goes_on g w n j m (env_of es) no_bits is l k (ap (λ (x : List Named). env_of x) b.entries)
    (ap (λ (x : List Noted). bits_of x) b.bits)
    ∙ ap (λ (x : Scope). items x j m (env_of es) no_bits is) eg in
    let h2 : ends g w2 n2 Done ≡ behind w.nodes o (n.sets ++ touched is) =
    h ∙ ap (λ (x : Out). behind w.nodes x (n.sets ++ touched is)) eo in
    record {
      nodes = sym (append-nil w2.nodes) ∙ ap (λ (e : End). e.nodes) h2;
      number = ap (λ (e : End). e.number) h2;
      env = ap (λ (e : End). e.env) h2;
      sets = sym (append-nil n2.sets) ∙ ap (λ (e : End). e.sets) h2
          ∙ ap (λ (x : List ℕ). x ++ touched is) b.sets;
    }

-- four groups of nodes behind others
pub four_nodes : (a x y n c : List FlowNode)
    → (((a ++ map low x) ++ map low y) ++ map low n) ++ map low c ≡ a ++ map low (x ++ (y ++ (n ++ c)))
four_nodes a x y n c =
    more_nodes ((a ++ map low x) ++ map low y) n c ∙ more_nodes (a ++ map low x) y (n ++ c)
    ∙ more_nodes a x (y ++ (n ++ c))

pub four_grouped : (x y n c o : List FlowNode) → (x ++ (y ++ (n ++ c))) ++ o ≡ x ++ (y ++ (n ++ (c ++ o)))
four_grouped x y n c o =
    append_assoc x (y ++ (n ++ c)) o
    ∙ ap (λ (z : List FlowNode). x ++ z) (append_assoc y (n ++ c) o
    ∙ ap (λ (z : List FlowNode). y ++ z) (append_assoc n c o))

pub four_counted : (x y n c : List FlowNode)
    → length (x ++ (y ++ (n ++ c))) ≡ length x + length y + length n + length c
four_counted x y n c =
    omega (arith, length-append x (y ++ (n ++ c)), length-append y (n ++ c), length-append n c)

-- what is joined depends on nothing else
pub same_join : (t t2 j j2 : ℕ) (es : List Named) (f s : Names) (yea nay : Env) (ty tn : List ℕ) → t ≡ t2 → j ≡ j2
    → env_of f.entries ≡ yea → env_of s.entries ≡ nay → f.sets ≡ ty → s.sets ≡ tn
    → joined_at t j es f s (distinct (f.sets ++ s.sets))
    ≡ join t2 j2 (env_of es) yea nay ty tn (distinct (ty ++ tn))
same_join t t2 j j2 es f s yea nay ty tn et ej ey en ery ern =
    let env = env_of es in
    ap (λ (x : ℕ). joined_at x j es f s (distinct (f.sets ++ s.sets))) et
    ∙ ap (λ (x : ℕ). joined_at t2 x es f s (distinct (f.sets ++ s.sets))) ej
    ∙ ap (λ (x : Env). join t2 j2 env x (env_of s.entries) f.sets s.sets
    (distinct (f.sets ++ s.sets))) ey
    ∙ ap (λ (x : Env). join t2 j2 env yea x f.sets s.sets (distinct (f.sets ++ s.sets))) en
    ∙ ap (λ (x : List ℕ). join t2 j2 env yea nay x s.sets (distinct (x ++ s.sets))) ery
    ∙ ap (λ (x : List ℕ). join t2 j2 env yea nay ty x (distinct (ty ++ x))) ern

-- the scope of the first leg of a test is the one under its node
pub same_scope : (g : Scope) (k i : ℕ) → g ≡ under k true → k ≡ i → g ≡ under i true
same_scope g k i e f = e ∙ ap (λ (x : ℕ). under x true) f

-- the scope of the second leg of a test is the one under its node
pub other_scope : (g : Scope) (k i : ℕ) → g ≡ under k false → k ≡ i → g ≡ under i false
other_scope g k i e f = e ∙ ap (λ (x : ℕ). under x false) f

-- An `If` that is emitted: w is before it, wt behind its test, wy and wn behind the legs, w3 at its end.
pub branch_ends : (g gy gn : Scope) (w wt wy wn w3 : Work) (n n3 fy sy fn sn : Names) (t : Source)
    (one other : Items) (at : ℕ)
    → at ≡ (tested g (length w.nodes) (env_of n.entries) (bits_of n.bits) t).last
    → Adds w wt (tested g (length w.nodes) (env_of n.entries) (bits_of n.bits) t).nodes
    → gy ≡ under at true → Begins n.entries fy → ends gy wy sy Done ≡ ends gy wt fy one
    → gn ≡ under at false → Begins n.entries fn → ends gn wn sn Done ≡ ends gn wy fn other
    → Adds wn w3 (joined_at at (length wn.nodes) n.entries sy sn (distinct (sy.sets ++ sn.sets))).nodes
    → env_of n3.entries ≡ (joined_at at (length wn.nodes) n.entries sy sn (distinct (sy.sets ++ sn.sets))).env
    → bits_of n3.bits ≡ left_bits (bits_of n.bits) (sy.sets ++ sn.sets) → n3.sets ≡ n.sets ++ (sy.sets ++ sn.sets)
    → (rest : Items) → ends g w3 n3 rest ≡ ends g w n (If t one other rest)
branch_ends g gy gn w wt wy wn w3 n n3 fy sy fn sn t one other at ea p ey begun hy en began hn q v z s rest =
    let j = length w.nodes in
    let env = env_of n.entries in
    let xs : Chain = tested g j env (bits_of n.bits) t in
    let i = j + length xs.nodes in
    let lt : length wt.nodes ≡ i = adds_count w wt xs.nodes p in
    let mt : wt.number ≡ w.number = adds_number w wt xs.nodes p in
    let y : Out = items (under xs.last true) i w.number env no_bits one in
    let cy : Came wt wy sy y.nodes y.number y.env (touched one) =
    leg_came gy (under xs.last true) wt wy n.entries fy sy one i w.number begun (same_scope gy at xs.last ey ea) lt mt
    hy in
    let ly : length wy.nodes ≡ i + length y.nodes =
    came_count wt wy sy y.nodes y.number y.env (touched one) cy ∙ ap (λ (k : ℕ). k + length y.nodes) lt in
    let o : Out = items (under xs.last false) (i + length y.nodes) y.number env no_bits other in
    let cn : Came wy wn sn o.nodes o.number o.env (touched other) =
    leg_came gn (under xs.last false) wy wn n.entries fn sn other (i + length y.nodes) y.number began
    (other_scope gn at xs.last en ea) ly cy.number hn in
    let ln : length wn.nodes ≡ i + length y.nodes + length o.nodes =
    came_count wy wn sn o.nodes o.number o.env (touched other) cn ∙ ap (λ (k : ℕ). k + length o.nodes) ly in
    let c : Joined = join xs.last (i + length y.nodes + length o.nodes) env y.env o.env (touched one) (touched other)
    (distinct (touched one ++ touched other)) in
    let ec : joined_at at (length wn.nodes) n.entries sy sn (distinct (sy.sets ++ sn.sets)) ≡ c =
    same_join at xs.last (length wn.nodes) (i + length y.nodes + length o.nodes) n.entries sy sn y.env o.env
    (touched one) (touched other) ea ln cy.env cn.env cy.sets cn.sets in
    let q2 : Adds wn w3 c.nodes = subst (λ (d : Joined). Adds wn w3 d.nodes) ec q in
    let X = xs.nodes ++ (y.nodes ++ (o.nodes ++ c.nodes)) in
    let k = i + length y.nodes + length o.nodes + length c.nodes in
    let nodes : w3.nodes ≡ w.nodes ++ map low X =
    adds_nodes wn w3 c.nodes q2
    ∙ ap (λ (ns : List FlowNode). ns ++ map low c.nodes) (cn.nodes
    ∙ ap (λ (ns : List FlowNode). ns ++ map low o.nodes) (cy.nodes
    ∙ ap (λ (ns : List FlowNode). ns ++ map low y.nodes) (adds_nodes w wt xs.nodes p)))
    ∙ four_nodes w.nodes xs.nodes y.nodes o.nodes c.nodes in
    let many : j + length X ≡ k = omega (arith, four_counted xs.nodes y.nodes o.nodes c.nodes) in
    let num : w3.number ≡ o.number = adds_number wn w3 c.nodes q2 ∙ cn.number in
    let sets : n3.sets ≡ n.sets ++ (touched one ++ touched other) =
    s ∙ ap (λ (x : List ℕ). n.sets ++ (x ++ sn.sets)) cy.sets
    ∙ ap (λ (x : List ℕ). n.sets ++ (touched one ++ x)) cn.sets in
    let lb = left_bits (bits_of n.bits) (touched one ++ touched other) in
    let bits : bits_of n3.bits ≡ lb =
    z ∙ ap (λ (x : List ℕ). left_bits (bits_of n.bits) (x ++ sn.sets)) cy.sets
    ∙ ap (λ (x : List ℕ). left_bits (bits_of n.bits) (touched one ++ x)) cn.sets in
    let os = items g k o.number c.env lb rest in
    emitted g w w3 n n3 X k o.number c.env lb (touched one ++ touched other) rest nodes many num
    (v ∙ ap (λ (d : Joined). d.env) ec) bits sets
    ∙ ap (λ (ns : List FlowNode). end_of os (n.sets ++ ((touched one ++ touched other) ++ touched rest))
    (w.nodes ++ map low ns)) (four_grouped xs.nodes y.nodes o.nodes c.nodes os.nodes)

-- a declared if
pub if_is : (i : HyperItem) (t : Source) (ys ns ys2 ns2 : List HyperItem) (rest : Items)
    → i ≡ item.If t ys ns → ys2 ≡ ys → ns2 ≡ ns
    → If t (items_of ys2) (items_of ns2) rest ≡ then_items i rest
if_is i t ys ns ys2 ns2 rest e f g =
    ap (λ (x : List HyperItem). If t (items_of x) (items_of ns2) rest) f
    ∙ ap (λ (x : List HyperItem). If t (items_of ys) (items_of x) rest) g
    ∙ sym (ap (λ (x : HyperItem). then_items x rest) e ∙ then_if t ys ns rest)
