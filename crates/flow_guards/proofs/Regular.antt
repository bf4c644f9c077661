-- A regular block whose nodes lose their guards is regular, and each node stood where it stands.
use Rattle.std.proofs.Common.{◌≡◌, ℕ, suc, ◌+◌, List, [], ◌∷◌, refl, sym, ap, ap₂, subst, ◌∙◌, cond}
use Rattle.std.proofs.Common.{Bool, true, false, ◌||◌}
use Rattle.std.specs.Prelude.{Option, Some, None, slice_get, ◌≢◌}
use Rattle.trips_isa.specs.declared.op.Op.{Op}
use Rattle.trips_isa.specs.declared.form.Form.TheVariants.{Load, Store}
use Rattle.trips_isa.specs.declared.block.Sense.TheVariants.{Always}
use Rattle.trips_isa.specs.Forms.{form_of}
use Rattle.ir_forms.specs.declared.flow.FlowSource.{FlowSource}
use Rattle.ir_forms.specs.declared.flow.FlowSource.TheVariants.{Read, Node}
use Rattle.ir_forms.specs.declared.flow.Guard.{Guard}
use Rattle.ir_forms.specs.declared.flow.FlowNode.{FlowNode}
use Rattle.ir_forms.specs.declared.flow.FlowBlock.{FlowBlock}
use Rattle.ir_forms.specs.inside.FlowFits.{in_mask}
use Rattle.ir_forms.specs.inside.FlowRegular.{is_among, guards_by, nodes_name, writes_name, is_named, TakesOnly}
use Rattle.ir_forms.specs.inside.FlowRegular.{is_silent, IsRegular}
use Rattle.flow_guards.specs.inside.Laws.{StandsAt}
use Rattle.flow_guards.specs.inside.Unguards.{Loses, loosened, all_loosened, unguarded, Unguards}
use Rattle.flow_guards.proofs.Fitting.{stood}

-- no guard names a read
no_read : (r : ℕ) (g : Option Guard) → guards_by (Read r) g ≡ false
no_read r None = refl
no_read r (Some g) = refl

-- so each read is named as it was
reads_named : (loses : Loses) (r j : ℕ) (ns : List FlowNode)
    → nodes_name (Read r) (all_loosened loses j ns) ≡ nodes_name (Read r) ns
reads_named loses r j [] = refl
reads_named loses r j (n ∷ ns) =
    ap₂ (λ (a b : Bool). is_among (Read r) n.left || (is_among (Read r) n.right || (a || b)))
    (no_read r (loosened (loses j) n).guard ∙ sym (no_read r n.guard)) (reads_named loses r (suc j) ns)

-- where one of two is not so, neither is
or_false : (a b : Bool) → (a || b) ≡ false → (a ≡ false) × (b ≡ false)
or_false true true e = absurd (cc)
or_false true false e = absurd (cc)
or_false false true e = absurd (cc)
or_false false false e = (refl, refl)

none_of : (a b c d : Bool) → a ≡ false → b ≡ false → c ≡ false → d ≡ false → (a || (b || (c || d))) ≡ false
none_of false false false false w x y z = refl
none_of true b c d w x y z = absurd (cc)
none_of false true c d w x y z = absurd (cc)
none_of false false true d w x y z = absurd (cc)
none_of false false false true w x y z = absurd (cc)

less_named : (s : FlowSource) (b : Bool) (n : FlowNode) → guards_by s n.guard ≡ false
    → guards_by s (loosened b n).guard ≡ false
less_named s true n e = refl
less_named s false n e = e

-- what no node named no node names
still_unnamed : (loses : Loses) (s : FlowSource) (j : ℕ) (ns : List FlowNode) → nodes_name s ns ≡ false
    → nodes_name s (all_loosened loses j ns) ≡ false
still_unnamed loses s j [] e = refl
still_unnamed loses s j (n ∷ ns) e =
    let a = or_false (is_among s n.left) _ e in
    let b = or_false (is_among s n.right) _ a.1 in
    let c = or_false (guards_by s n.guard) (nodes_name s ns) b.1 in
    none_of _ _ _ _ a.0 b.0 (less_named s (loses j) n c.0) (still_unnamed loses s (suc j) ns c.1)

-- a guard that is there was there
had : (b : Bool) (g : Option Guard) (k : Guard) → cond b None g ≡ Some k → g ≡ Some k
had true g k e = absurd (cc)
had false g k e = e

module _ (loses : Loses) (f : FlowBlock) where
  regular_after : IsRegular f → IsRegular (unguarded loses f)
  regular_after r = record {
    registers = r.registers;
    loads = λ i j m n ei ej fm fn e.
        let s = stood loses 0 f.nodes i m ei in
        let t = stood loses 0 f.nodes j n ej in
        r.loads i j s.1 t.1 s.2 t.2
        (ap (λ (x : FlowNode). form_of x.op) s.3 ∙ fm)
        (ap (λ (x : FlowNode). form_of x.op) t.3 ∙ fn)
        (ap (λ (x : FlowNode). x.number) s.3 ∙ (e ∙ sym (ap (λ (x : FlowNode). x.number) t.3)));
    unmasked = λ j n e l.
        let s = stood loses 0 f.nodes j n e in
        subst (λ (x : FlowNode). in_mask f.mask x.number ≡ false) s.3
        (r.unmasked j s.1 s.2 (ap (λ (x : FlowNode). form_of x.op) s.3 ∙ l));
    masked = λ j n e l.
        let s = stood loses 0 f.nodes j n e in
        subst (λ (x : FlowNode). in_mask f.mask x.number ≡ true) s.3
        (r.masked j s.1 s.2 (ap (λ (x : FlowNode). form_of x.op) s.3 ∙ l));
    operands = λ j n e.
        let s = stood loses 0 f.nodes j n e in
        subst TakesOnly s.3 (taken s.0 s.1 (r.operands j s.1 s.2));
    guards = λ j n g e d.
        let s = stood loses 0 f.nodes j n e in
        r.guards j s.1 g s.2 (had s.0 s.1.guard g (ap (λ (x : FlowNode). x.guard) s.3 ∙ d));
    low = r.low;
    reads = r.reads;
    used = λ i x e.
        ap (λ (b : Bool). b || writes_name (Read x) f.writes) (reads_named loses x 0 f.nodes)
        ∙ r.used i x e;
    silent = λ j n e l.
        let s = stood loses 0 f.nodes j n e in
        let d = or_false (nodes_name (Node j) f.nodes) (writes_name (Node j) f.writes)
        (r.silent j s.1 s.2 (ap (λ (x : FlowNode). is_silent (form_of x.op)) s.3 ∙ l)) in
        neither _ _ (still_unnamed loses (Node j) 0 f.nodes d.0) d.1;
  }
    where
      taken : (b : Bool) (n : FlowNode) → TakesOnly n → TakesOnly (loosened b n)
      taken b n t = record { left = t.left; right = t.right }

      neither : (a b : Bool) → a ≡ false → b ≡ false → (a || b) ≡ false
      neither false false x y = refl
      neither true b x y = absurd (cc)
      neither false true x y = absurd (cc)

-- a regular block whose nodes lose their guards is regular
pub keeps_regular : (f g : FlowBlock) → Unguards f g → IsRegular f → IsRegular g
keeps_regular f g u r = subst IsRegular (sym u.same) (regular_after u.loses f r)

-- each node stood where it stands
pub keeps_nodes : (f g : FlowBlock) (j : ℕ) (n : FlowNode) → Unguards f g → slice_get g.nodes j ≡ Some n
    → StandsAt f j n
keeps_nodes f g j n u e =
    let at : slice_get (all_loosened u.loses 0 f.nodes) j ≡ Some n =
    ap (λ (x : FlowBlock). slice_get x.nodes j) (sym u.same) ∙ e in
    let s = stood u.loses 0 f.nodes j n at in
    record {
      node = s.1;
      there = s.2;
      op = ap (λ (x : FlowNode). x.op) s.3;
      imm = ap (λ (x : FlowNode). x.imm) s.3;
    }
