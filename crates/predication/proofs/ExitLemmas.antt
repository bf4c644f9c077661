-- Exits and tails emitted are those of the definition.
use Rattle.std.proofs.Common.{◌≡◌, ℕ, suc, ◌+◌, ◌-◌, ◌/◌, ◌%◌, ◌^◌, Bool, true, false, cond, nat_lt, List, []}
use Rattle.std.proofs.Common.{◌∷◌, ◌++◌}
use Rattle.std.proofs.Common.{length, sym, ap, ap₂, subst, ◌∙◌, arith, map, IsTrue, ◌↔◌}
use Rattle.std.proofs.lemmas.Bool.Decides.{nat_tests}
use Rattle.trips_isa.specs.declared.op.Op.{Op}
use Rattle.trips_isa.specs.declared.op.Op.TheVariants.{Genu, App, Callo, Ret}
use Rattle.ir_forms.specs.declared.hyper.Source.{Source}
use Rattle.ir_forms.specs.declared.hyper.Source.TheVariants.{Reg}
use Rattle.ir_forms.specs.declared.hyper.Exit.TheVariants as exit
use Rattle.ir_forms.specs.declared.flow.FlowSource.{FlowSource}
use Rattle.ir_forms.specs.declared.flow.FlowSource.TheVariants.{Node}
use Rattle.ir_forms.specs.declared.flow.FlowNode.{FlowNode}
use Rattle.ir_forms.specs.declared.hyper.Exit.{Exit}
use Rattle.ir_forms.specs.declared.hyper.Tail as declared
use Rattle.ir_forms.specs.declared.hyper.Tail.TheVariants as tails
use Rattle.ir_forms.specs.inside.HyperCode.{Tail, Leave, Test}
use Rattle.ir_forms.specs.inside.HyperViews.{tail_of}
use Rattle.ir_forms.proofs.Views.{tail_leave, tail_test}
use Rattle.predication.specs.declared.work.Work.{Work}
use Rattle.predication.specs.declared.work.Named.{Named}
use Rattle.predication.specs.declared.work.Noted.{Noted}
use Rattle.predication.specs.declared.work.Names.{Names}
use Rattle.predication.specs.inside.Environments.{Scope, no_bits, under, distinct}
use Rattle.predication.specs.inside.Operands.{Chain, constant_of, operand, tested, mov_of}
use Rattle.predication.specs.inside.Ifs.{Joined, join}
use Rattle.predication.specs.inside.Outcomes.{NamesLabel, NamesLabels}
use Rattle.predication.specs.inside.Tails.{Ending, tail_with, tail, exit_touched, tail_touched, branch_of, high_half}
use Rattle.predication.specs.inside.Tails.{low_half, address_nodes}
use Rattle.predication.specs.inside.Emits.{Adds, low, env_of, bits_of, joined_at}
use Rattle.predication.specs.inside.Ends.{label, exit_labelled, tail_labelled, leaving_of, ending_of, work_after}
use Rattle.predication.specs.inside.Ends.{branched, address_of}
use Rattle.predication.proofs.AddLemmas.{more_nodes, same_work, adds_nodes, adds_number, adds_count}
use Rattle.predication.proofs.LegLemmas.{Came, came_count, Begins, four_nodes, same_join, same_scope, other_scope}

-- LABELS TO COME BACK TO

long_is : (l : ℕ) → nat_lt (2 ^ 32 + l) (2 ^ 32) ≡ false
long_is l = grind (arith, nat_tests)

high_is_label : (l : ℕ) → high_half (label l) ≡ 65536 + l
high_is_label l =
    let z : 65536 + (2 ^ 32 + l - 2 ^ 32) ≡ 65536 + l = omega arith in
    ap (λ (c : Bool). cond c ((2 ^ 32 + l) / 65536) (65536 + (2 ^ 32 + l - 2 ^ 32))) (long_is l) ∙ z

low_is_label : (l : ℕ) → low_half (label l) ≡ 65536 + l
low_is_label l =
    let z : 65536 + (2 ^ 32 + l - 2 ^ 32) ≡ 65536 + l = omega arith in
    ap (λ (c : Bool). cond c ((2 ^ 32 + l) % 65536) (65536 + (2 ^ 32 + l - 2 ^ 32))) (long_is l) ∙ z

abbrev address_by : Scope → ℕ → ℕ → ℕ → List FlowNode → List FlowNode
address_by g j h l rest =
    constant_of Genu h []
    ∷ constant_of App l (Node j ∷ [])
    ∷ mov_of g (Node (suc j) ∷ []) ∷ rest

-- the nodes of an address are those of its label
address_is : (g : Scope) (j back : ℕ) (rest : List FlowNode)
    → address_of g j back ++ rest ≡ address_nodes j (label back) ++ (mov_of g (Node (suc j) ∷ []) ∷ rest)
address_is g j back rest =
    ap₂ (λ h l. address_by g j h l rest) (sym (high_is_label back)) (sym (low_is_label back))

-- EXITS

-- a branch behind other nodes
branched_is : (w w1 w2 : Work) (x : List FlowNode) (g : Scope) (o : Op) (l : ℕ) (left : List FlowSource)
    → Adds w w1 x → w2 ≡ branched w1 g o l left
    → w2 ≡ record { nodes = w.nodes ++ map low (x ++ branch_of o l w.number g left ∷ []); number = suc w.number }
branched_is w w1 w2 x g o l left p q =
    let m : w1.number ≡ w.number = adds_number w w1 x p in
    let b = branch_of o l w.number g left in
    let e : w2.nodes ≡ w.nodes ++ map low (x ++ b ∷ []) =
    ap (λ (a : Work). a.nodes) q
    ∙ ap (λ (k : ℕ). w1.nodes ++ low (branch_of o l k g left) ∷ []) m
    ∙ ap (λ (ns : List FlowNode). ns ++ low b ∷ []) (adds_nodes w w1 x p)
    ∙ more_nodes w.nodes x (b ∷ []) in
    same_work w2 (record { nodes = w.nodes ++ map low (x ++ b ∷ []); number = suc w.number }) e
    (ap (λ (a : Work). a.number) q ∙ ap (λ (k : ℕ). suc k) m)

-- a call that is emitted is that of the definition
pub call_after : (g : Scope) (w w1 w2 : Work) (n : Names) (to back : ℕ) (left : List FlowSource)
    → Adds w w1 (address_of g (length w.nodes) back) → left ≡ [] → w2 ≡ branched w1 g Callo to left
    → w2 ≡ work_after w (leaving_of g w n (exit.Call to (label back)))
call_after g w w1 w2 n to back left p z q =
    let q2 : w2 ≡ branched w1 g Callo to [] = q ∙ ap (λ (l : List FlowSource). branched w1 g Callo to l) z in
    branched_is w w1 w2 (address_of g (length w.nodes) back) g Callo to [] p q2
    ∙ ap (λ (ns : List FlowNode). record { nodes = w.nodes ++ map low ns; number = suc w.number })
    (address_is g (length w.nodes) back (branch_of Callo to w.number g [] ∷ []))

-- a return that is emitted is that of the definition
pub return_after : (g : Scope) (w w1 w2 : Work) (n : Names) (left : List FlowSource)
    → Adds w w1 (operand (length w.nodes) (env_of n.entries) (Reg 2)).nodes
    → left ≡ (operand (length w.nodes) (env_of n.entries) (Reg 2)).sources → w2 ≡ branched w1 g Ret 0 left
    → w2 ≡ work_after w (leaving_of g w n exit.Return)
return_after g w w1 w2 n left p s q =
    let x = operand (length w.nodes) (env_of n.entries) (Reg 2) in
    let q2 : w2 ≡ branched w1 g Ret 0 x.sources = q ∙ ap (λ (l : List FlowSource). branched w1 g Ret 0 l) s in
    branched_is w w1 w2 x.nodes g Ret 0 x.sources p q2

-- TAILS

-- a leg of a tail that is emitted
end_came : (g g2 : Scope) (w w2 : Work) (es : List Named) (n n2 : Names) (t : Tail) (j m : ℕ)
    → Begins es n → g ≡ g2 → length w.nodes ≡ j → w.number ≡ m → w2 ≡ work_after w (ending_of g w n t)
    → env_of n2.entries ≡ (ending_of g w n t).env → n2.sets ≡ n.sets ++ tail_touched t
    → Came w w2 n2 (tail g2 j m (env_of es) no_bits t).nodes (tail g2 j m (env_of es) no_bits t).number
    (tail g2 j m (env_of es) no_bits t).env (tail_touched t)
end_came g g2 w w2 es n n2 t j m b eg l k h v s =
    let o = tail g2 j m (env_of es) no_bits t in
    let eo : ending_of g w n t ≡ o =
    ap (λ (z : ℕ). tail g z w.number (env_of n.entries) (bits_of n.bits) t) l
    ∙ ap (λ (z : ℕ). tail g j z (env_of n.entries) (bits_of n.bits) t) k
    ∙ ap (λ (x : List Named). tail g j m (env_of x) (bits_of n.bits) t) b.entries
    ∙ ap (λ (x : List Noted). tail g j m (env_of es) (bits_of x) t) b.bits
    ∙ ap (λ (x : Scope). tail x j m (env_of es) no_bits t) eg in
    let h2 : w2 ≡ work_after w o = h ∙ ap (λ (e : Ending). work_after w e) eo in
    record {
      nodes = ap (λ (e : Work). e.nodes) h2;
      number = ap (λ (e : Work). e.number) h2;
      env = v ∙ ap (λ (e : Ending). e.env) eo;
      sets = s ∙ ap (λ (x : List ℕ). x ++ tail_touched t) b.sets;
    }

-- a tail that is emitted
pub record Finished (g : Scope) (w w2 : Work) (n n2 : Names) (t : Tail) : Type 0 where
  pub work : w2 ≡ work_after w (ending_of g w n t)
  pub env : env_of n2.entries ≡ (ending_of g w n t).env
  pub sets : n2.sets ≡ n.sets ++ tail_touched t

-- a tail equal to one that is emitted is emitted
pub finished : (g : Scope) (w w2 : Work) (n n2 : Names) (t t2 : Tail) → Finished g w w2 n n2 t2 → t ≡ t2
    → Finished g w w2 n n2 t
finished g w w2 n n2 t t2 f e = subst (λ (x : Tail). Finished g w w2 n n2 x) (sym e) f

pub leave_labelled : (x : declared.Tail) (e : Exit) → x ≡ tails.Leave e
    → tail_labelled x ≡ Leave (exit_labelled e)
leave_labelled x e q = ap (tail_with label) (ap tail_of q ∙ tail_leave e)

-- an exit that is emitted is a tail that is
pub leave_finished : (g : Scope) (w w2 : Work) (n n2 : Names) (x : declared.Tail) (e : Exit) → x ≡ tails.Leave e
    → w2 ≡ work_after w (leaving_of g w n (exit_labelled e))
    → env_of n2.entries ≡ (leaving_of g w n (exit_labelled e)).env
    → n2.sets ≡ n.sets ++ exit_touched (exit_labelled e) → Finished g w w2 n n2 (tail_labelled x)
leave_finished g w w2 n n2 x e q a b c =
    finished g w w2 n n2 (tail_labelled x) (Leave (exit_labelled e)) (record { work = a; env = b; sets = c })
    (leave_labelled x e q)

-- a test whose legs are emitted and joined is a tail that is
pub test_finished : (g gy gn : Scope) (w wt wy wn w3 : Work) (n n3 fy sy fn sn : Names) (t : Source)
    (one other : Tail) (at : ℕ)
    → at ≡ (tested g (length w.nodes) (env_of n.entries) (bits_of n.bits) t).last
    → Adds w wt (tested g (length w.nodes) (env_of n.entries) (bits_of n.bits) t).nodes
    → gy ≡ under at true → Begins n.entries fy → Finished gy wt wy fy sy one
    → gn ≡ under at false → Begins n.entries fn → Finished gn wy wn fn sn other
    → Adds wn w3 (joined_at at (length wn.nodes) n.entries sy sn (distinct (sy.sets ++ sn.sets))).nodes
    → env_of n3.entries ≡ (joined_at at (length wn.nodes) n.entries sy sn (distinct (sy.sets ++ sn.sets))).env
    → n3.sets ≡ n.sets ++ (sy.sets ++ sn.sets)
    → Finished g w w3 n n3 (Test t one other)
test_finished g gy gn w wt wy wn w3 n n3 fy sy fn sn t one other at ea p ey begun hy en began hn q v s =
    let j = length w.nodes in
    let env = env_of n.entries in
    let xs : Chain = tested g j env (bits_of n.bits) t in
    let i = j + length xs.nodes in
    let lt : length wt.nodes ≡ i = adds_count w wt xs.nodes p in
    let mt : wt.number ≡ w.number = adds_number w wt xs.nodes p in
    let y : Ending = tail (under xs.last true) i w.number env no_bits one in
    let cy : Came wt wy sy y.nodes y.number y.env (tail_touched one) =
    end_came gy (under xs.last true) wt wy n.entries fy sy one i w.number begun (same_scope gy at xs.last ey ea) lt mt
    hy.work hy.env hy.sets in
    let ly : length wy.nodes ≡ i + length y.nodes =
    came_count wt wy sy y.nodes y.number y.env (tail_touched one) cy ∙ ap (λ (k : ℕ). k + length y.nodes) lt in
    let o : Ending = tail (under xs.last false) (i + length y.nodes) y.number env no_bits other in
    let cn : Came wy wn sn o.nodes o.number o.env (tail_touched other) =
    end_came gn (under xs.last false) wy wn n.entries fn sn other (i + length y.nodes) y.number began
    (other_scope gn at xs.last en ea) ly cy.number hn.work hn.env hn.sets in
    let ln : length wn.nodes ≡ i + length y.nodes + length o.nodes =
    came_count wy wn sn o.nodes o.number o.env (tail_touched other) cn
    ∙ ap (λ (k : ℕ). k + length o.nodes) ly in
    let c : Joined = join xs.last (i + length y.nodes + length o.nodes) env y.env o.env (tail_touched one)
    (tail_touched other) (distinct (tail_touched one ++ tail_touched other)) in
    let ec : joined_at at (length wn.nodes) n.entries sy sn (distinct (sy.sets ++ sn.sets)) ≡ c =
    same_join at xs.last (length wn.nodes) (i + length y.nodes + length o.nodes) n.entries sy sn y.env o.env
    (tail_touched one) (tail_touched other) ea ln cy.env cn.env cy.sets cn.sets in
    let q2 : Adds wn w3 c.nodes = subst (λ (d : Joined). Adds wn w3 d.nodes) ec q in
    let X = xs.nodes ++ (y.nodes ++ (o.nodes ++ c.nodes)) in
    let nodes : w3.nodes ≡ w.nodes ++ map low X =
    adds_nodes wn w3 c.nodes q2
    ∙ ap (λ (ns : List FlowNode). ns ++ map low c.nodes) (cn.nodes
    ∙ ap (λ (ns : List FlowNode). ns ++ map low o.nodes) (cy.nodes
    ∙ ap (λ (ns : List FlowNode). ns ++ map low y.nodes) (adds_nodes w wt xs.nodes p)))
    ∙ four_nodes w.nodes xs.nodes y.nodes o.nodes c.nodes in
    let num : w3.number ≡ o.number = adds_number wn w3 c.nodes q2 ∙ cn.number in
    record {
      work = same_work w3 (work_after w (ending_of g w n (Test t one other))) nodes num;
      env = v ∙ ap (λ (d : Joined). d.env) ec;
      sets = s ∙ ap (λ (x : List ℕ). n.sets ++ (x ++ sn.sets)) cy.sets
          ∙ ap (λ (x : List ℕ). n.sets ++ (tail_touched one ++ x)) cn.sets;
    }

-- DECLARED TAILS

-- the labels of a test are those of its legs
pub test_labelled : (x : declared.Tail) (t : Source) (y n y2 n2 : declared.Tail) → x ≡ tails.Test t y n → y2 ≡ y
    → n2 ≡ n → tail_labelled x ≡ Test t (tail_labelled y2) (tail_labelled n2)
test_labelled x t y n y2 n2 e f g =
    ap (tail_with label) (ap tail_of e ∙ tail_test t y n)
    ∙ ap (λ (z : declared.Tail). Test t (tail_labelled z) (tail_labelled n)) (sym f)
    ∙ ap (λ (z : declared.Tail). Test t (tail_labelled y2) (tail_labelled z)) (sym g)

-- THE TEST OF LABELS

-- a tail that leaves has labels that fit where its exit has
pub leave_fits : (x : declared.Tail) (e : Exit) (b : Bool) → x ≡ tails.Leave e → IsTrue b ↔ NamesLabel e
    → IsTrue b ↔ NamesLabels (tail_of x)
leave_fits x e b q h = subst (λ (z : Tail). IsTrue b ↔ NamesLabels z) (sym (ap tail_of q ∙ tail_leave e)) h

-- the first leg's labels fit, so the second's decide
pub both_fit : (x : declared.Tail) (t : Source) (y n y2 n2 : declared.Tail) (a b : Bool) → x ≡ tails.Test t y n
    → y2 ≡ y → n2 ≡ n → IsTrue a ↔ NamesLabels (tail_of y2) → a ≡ true → IsTrue b ↔ NamesLabels (tail_of n2)
    → IsTrue b ↔ NamesLabels (tail_of x)
both_fit x t y n y2 n2 a b q f g r s k =
    let ly : NamesLabels (tail_of y) = subst (λ (z : declared.Tail). NamesLabels (tail_of z)) f (r.0 s) in
    let kn : IsTrue b ↔ NamesLabels (tail_of n) =
    subst (λ (z : declared.Tail). IsTrue b ↔ NamesLabels (tail_of z)) g k in
    let both : IsTrue b ↔ NamesLabels (Test t (tail_of y) (tail_of n)) =
    ((λ h. (ly, kn.0 h)), (λ h. kn.1 h.1)) in
    subst (λ (z : Tail). IsTrue b ↔ NamesLabels z) (sym (ap tail_of q ∙ tail_test t y n)) both

-- the first leg's labels do not fit
pub none_fit : (x : declared.Tail) (t : Source) (y n y2 : declared.Tail) (a : Bool) → x ≡ tails.Test t y n
    → y2 ≡ y → IsTrue a ↔ NamesLabels (tail_of y2) → a ≡ false → IsTrue a ↔ NamesLabels (tail_of x)
none_fit x t y n y2 a q f r s =
    let ry : IsTrue a ↔ NamesLabels (tail_of y) =
    subst (λ (z : declared.Tail). IsTrue a ↔ NamesLabels (tail_of z)) f r in
    let none : IsTrue a ↔ NamesLabels (Test t (tail_of y) (tail_of n)) =
    ((λ h. absurd (cc (s, h))), (λ h. ry.1 h.0)) in
    subst (λ (z : Tail). IsTrue a ↔ NamesLabels z) (sym (ap tail_of q ∙ tail_test t y n)) none
