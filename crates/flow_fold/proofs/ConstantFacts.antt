-- Small constants: the node that gives one, and the operations that take it from their immediate.
use Rattle.std.proofs.Common.{◌≡◌, ℕ, List, [], ◌∷◌, refl, subst, true, false, not, ◌&&◌, arith}
use Rattle.std.specs.Prelude.{ℤ, pos, negsuc, int_le, int_lt, Option, Some, None, slice_get}
use Rattle.std.proofs.lemmas.Bool.{and_parts, ltb-true, leb-true}
use Rattle.std.proofs.lemmas.Option.{same_Some, cond_some}
use Rattle.trips_isa.specs.declared.op.Op.{Op}
use Rattle.trips_isa.specs.declared.op.Op.TheVariants as op
use Rattle.trips_isa.specs.declared.form.Form.TheVariants.{General, Immediate, Constant}
use Rattle.trips_isa.specs.declared.form.Role.TheVariants.{Both, Free}
use Rattle.trips_isa.specs.Alu.{alu_of}
use Rattle.trips_isa.specs.Faults.{divides}
use Rattle.trips_isa.specs.Fits.{FitsSigned}
use Rattle.trips_isa.specs.Forms.{form_of, role_of}
use Rattle.ir_forms.specs.declared.flow.FlowSource.{FlowSource}
use Rattle.ir_forms.specs.declared.flow.FlowSource.TheVariants.{Read, Node}
use Rattle.ir_forms.specs.declared.flow.Guard.{Guard}
use Rattle.ir_forms.specs.declared.flow.FlowNode.{FlowNode}
use Rattle.ir_forms.specs.inside.FlowFits.{has_guard}
use Rattle.flow_fold.specs.inside.Immediates.{immediate_of, gives_constant, is_small, is_small_constant, constant_at}
use Rattle.flow_fold.specs.inside.Immediates.{small_of}
use Rattle.flow_fold.specs.inside.Replaces.{IsOwn, names_label}

-- p takes from its immediate what o takes at the right
pub record ImmediateOf (o p : Op) : Type 0 where
  pub general : form_of o ≡ General
  pub both : role_of o ≡ Both
  pub form : form_of p ≡ Immediate
  pub calm : divides o ≡ false
  pub same : (a b : ℕ) → alu_of p a b ≡ alu_of o a b
  pub label : names_label p ≡ false

row : {o p : Op} → form_of o ≡ General → role_of o ≡ Both → form_of p ≡ Immediate → divides o ≡ false
    → ((a b : ℕ) → alu_of p a b ≡ alu_of o a b) → names_label p ≡ false → ImmediateOf o p
row a b c d e f = record { general = a; both = b; form = c; calm = d; same = e; label = f }

-- each pair of the table is such
pub immediate_is : (o p : Op) → immediate_of o ≡ Some p → ImmediateOf o p
immediate_is op.Add p e =
    subst (ImmediateOf op.Add) (same_Some op.Addi p e) (row refl refl refl refl (λ a b. refl) refl)
immediate_is op.Sub p e =
    subst (ImmediateOf op.Sub) (same_Some op.Subi p e) (row refl refl refl refl (λ a b. refl) refl)
immediate_is op.Mul p e =
    subst (ImmediateOf op.Mul) (same_Some op.Muli p e) (row refl refl refl refl (λ a b. refl) refl)
immediate_is op.And p e =
    subst (ImmediateOf op.And) (same_Some op.Andi p e) (row refl refl refl refl (λ a b. refl) refl)
immediate_is op.Or p e = subst (ImmediateOf op.Or) (same_Some op.Ori p e) (row refl refl refl refl (λ a b. refl) refl)
immediate_is op.Xor p e =
    subst (ImmediateOf op.Xor) (same_Some op.Xori p e) (row refl refl refl refl (λ a b. refl) refl)
immediate_is op.Sll p e =
    subst (ImmediateOf op.Sll) (same_Some op.Slli p e) (row refl refl refl refl (λ a b. refl) refl)
immediate_is op.Srl p e =
    subst (ImmediateOf op.Srl) (same_Some op.Srli p e) (row refl refl refl refl (λ a b. refl) refl)
immediate_is op.Sra p e =
    subst (ImmediateOf op.Sra) (same_Some op.Srai p e) (row refl refl refl refl (λ a b. refl) refl)
immediate_is op.Teq p e =
    subst (ImmediateOf op.Teq) (same_Some op.Teqi p e) (row refl refl refl refl (λ a b. refl) refl)
immediate_is op.Tne p e =
    subst (ImmediateOf op.Tne) (same_Some op.Tnei p e) (row refl refl refl refl (λ a b. refl) refl)
immediate_is op.Tlt p e =
    subst (ImmediateOf op.Tlt) (same_Some op.Tlti p e) (row refl refl refl refl (λ a b. refl) refl)
immediate_is op.Tle p e =
    subst (ImmediateOf op.Tle) (same_Some op.Tlei p e) (row refl refl refl refl (λ a b. refl) refl)
immediate_is op.Tgt p e =
    subst (ImmediateOf op.Tgt) (same_Some op.Tgti p e) (row refl refl refl refl (λ a b. refl) refl)
immediate_is op.Tge p e =
    subst (ImmediateOf op.Tge) (same_Some op.Tgei p e) (row refl refl refl refl (λ a b. refl) refl)
immediate_is op.Tltu p e =
    subst (ImmediateOf op.Tltu) (same_Some op.Tltui p e) (row refl refl refl refl (λ a b. refl) refl)
immediate_is op.Tleu p e =
    subst (ImmediateOf op.Tleu) (same_Some op.Tleui p e) (row refl refl refl refl (λ a b. refl) refl)
immediate_is op.Tgtu p e =
    subst (ImmediateOf op.Tgtu) (same_Some op.Tgtui p e) (row refl refl refl refl (λ a b. refl) refl)
immediate_is op.Tgeu p e =
    subst (ImmediateOf op.Tgeu) (same_Some op.Tgeui p e) (row refl refl refl refl (λ a b. refl) refl)
immediate_is _ p e = absurd (cc)

-- o gives its constant
pub record ConstantOf (o : Op) : Type 0 where
  pub form : form_of o ≡ Constant
  pub free : role_of o ≡ Free
  pub word : (a b : ℕ) → alu_of o a b ≡ b

-- each of the table does
pub constant_is : (o : Op) → gives_constant o ≡ true → ConstantOf o
constant_is op.Genu e = record { form = refl; free = refl; word = λ a b. refl }
constant_is op.Gens e = record { form = refl; free = refl; word = λ a b. refl }
constant_is _ e = absurd (cc)

-- a constant has no form I
pub constants_stay : (o p : Op) → gives_constant o ≡ true → immediate_of o ≡ Some p → ⊥
constants_stay op.Genu p c e = absurd (cc)
constants_stay op.Gens p c e = absurd (cc)
constants_stay _ p c e = absurd (cc)

-- a small number fits an immediate
pub small_fits : (i : ℤ) → is_small i ≡ true → FitsSigned 256 i
small_fits (pos w) e = ltb-true w 256 (and_parts (int_le (negsuc 255) (pos w)) (int_lt (pos w) (pos 256)) e).1
small_fits (negsuc w) e =
    let l = leb-true w 255 (and_parts (int_le (negsuc 255) (negsuc w)) (int_lt (negsuc w) (pos 256)) e).0 in
    omega (arith, l)

-- and is no label
pub small_own : (i : ℤ) → is_small i ≡ true → IsOwn i
small_own (pos w) e = let l = small_fits (pos w) e in omega (arith, l)
small_own (negsuc w) e = tt

-- the node that gives the small constant of some sources
pub record Small (nodes : List FlowNode) (ss : List FlowSource) (i : ℤ) : Type 0 where
  pub place : ℕ
  pub node : FlowNode
  pub sources : ss ≡ Node place ∷ []
  pub there : slice_get nodes place ≡ Some node
  pub gives : gives_constant node.op ≡ true
  pub guard : node.guard ≡ None
  pub imm : node.imm ≡ i
  pub small : is_small i ≡ true

no_guard : (g : Option Guard) → not (has_guard g) ≡ true → g ≡ None
no_guard None e = refl
no_guard (Some g) e = absurd (cc)

-- it is found where they have one
pub small_is : (nodes : List FlowNode) (ss : List FlowSource) (i : ℤ) → small_of nodes ss ≡ Some i
    → Small nodes ss i
small_is nodes [] i e = absurd (cc)
small_is nodes (Read r ∷ rest) i e = absurd (cc)
small_is nodes (Node k ∷ (s ∷ rest)) i e = absurd (cc)
small_is nodes (Node k ∷ []) i e = at_node (slice_get nodes k) refl e
  where
    at_node : (o : Option FlowNode) → slice_get nodes k ≡ o → constant_at o ≡ Some i
        → Small nodes (Node k ∷ []) i
    at_node None s d = absurd (cc)
    at_node (Some c) s d =
        let p = cond_some (is_small_constant c) c.imm i d in
        let q = and_parts (gives_constant c.op) (not (has_guard c.guard) && is_small c.imm) p.0 in
        let t = and_parts (not (has_guard c.guard)) (is_small c.imm) q.1 in
        record {
          place = k;
          node = c;
          sources = refl;
          there = s;
          gives = q.0;
          guard = no_guard c.guard t.0;
          imm = p.1;
          small = subst (λ (z : ℤ). is_small z ≡ true) p.1 t.1;
        }
