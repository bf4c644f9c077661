-- Opposite tests: the table, and the test whose opposite a node is.
use Rattle.std.proofs.Common.{◌≡◌, ◌≢◌, ℕ, ◌<◌, ◌≤◌, List, [], ◌∷◌, ◌⊎◌, inl, inr, refl, sym, ap, ◌∙◌, subst}
use Rattle.std.proofs.Common.{arith, cond, nat_eq, map, Bool, true, false, not, ◌&&◌, ◌||◌, leb, ltb}
use Rattle.std.specs.Prelude.{ℤ, pos, negsuc, int_lt, int_le, nat_lt, nat_le, Some, None, Option, option_map}
use Rattle.std.specs.Prelude.{slice_get}
use Rattle.std.proofs.lemmas.Bool.{and_parts, or_cases, eqb-false, le-ltb, lt-ltb}
use Rattle.std.proofs.lemmas.Bool.Decides.{leb_tells}
use Rattle.std.proofs.lemmas.Option.{same_Some, slice_get-map}
use Rattle.trips_isa.specs.declared.op.Op.{Op}
use Rattle.trips_isa.specs.declared.op.Op.TheVariants as op
use Rattle.trips_isa.specs.declared.form.Form.{Form}
use Rattle.trips_isa.specs.declared.form.Form.TheVariants.{General, Immediate, Load, Store, Branch, Constant}
use Rattle.trips_isa.specs.declared.form.Role.TheVariants.{One, Both}
use Rattle.trips_isa.specs.Alu.{alu_of, signed, test}
use Rattle.trips_isa.specs.Faults.{divides}
use Rattle.trips_isa.specs.Forms.{form_of, role_of}
use Rattle.ir_forms.specs.declared.flow.FlowSource.{FlowSource}
use Rattle.ir_forms.specs.declared.flow.FlowSource.TheVariants.{Read, Node}
use Rattle.ir_forms.specs.declared.flow.FlowNode.{FlowNode}
use Rattle.flow_fold.specs.inside.Copies.{covers}
use Rattle.flow_fold.specs.inside.Immediates.{is_small}
use Rattle.flow_fold.specs.inside.Tests.{is_zero}
use Rattle.flow_fold.specs.inside.Opposites as opposites
use Rattle.flow_fold.specs.inside.Replaces.{Immediates, LeavesOwn, with_immediate, names_label}
use Rattle.flow_fold.proofs.ConstantFacts.{small_own}
use Rattle.flow_fold.proofs.Forwarded.{covers_is}
use Rattle.flow_fold.proofs.TestRules.{zero_is}

-- NUMBERS

leb_not : (a b : ℕ) → leb b a ≡ not (ltb a b)
leb_not a b = pick (leb_tells b a)
  where
    pick : ((leb b a ≡ true) × (b ≤ a)) ⊎ ((leb b a ≡ false) × (a < b)) → leb b a ≡ not (ltb a b)
    pick (inl p) = p.0 ∙ sym (ap not (le-ltb a b p.1))
    pick (inr p) = p.0 ∙ sym (ap not (lt-ltb a b p.1))

ltb_not : (a b : ℕ) → ltb b a ≡ not (leb a b)
ltb_not a b = pick (leb_tells a b)
  where
    pick : ((leb a b ≡ true) × (a ≤ b)) ⊎ ((leb a b ≡ false) × (b < a)) → ltb b a ≡ not (leb a b)
    pick (inl p) = le-ltb b a p.1 ∙ sym (ap not p.0)
    pick (inr p) = lt-ltb b a p.1 ∙ sym (ap not p.0)

int_le_not : (x y : ℤ) → int_le y x ≡ not (int_lt x y)
int_le_not (pos a) (pos b) = leb_not a b
int_le_not (pos a) (negsuc b) = refl
int_le_not (negsuc a) (pos b) = refl
int_le_not (negsuc a) (negsuc b) = leb_not b a

int_lt_not : (x y : ℤ) → int_lt y x ≡ not (int_le x y)
int_lt_not (pos a) (pos b) = ltb_not a b
int_lt_not (pos a) (negsuc b) = refl
int_lt_not (negsuc a) (pos b) = refl
int_lt_not (negsuc a) (negsuc b) = ltb_not b a

not_told : (b : Bool) → test (not b) ≡ test (nat_eq (test b) 0)
not_told true = refl
not_told false = refl

other_told : (b : Bool) → test (cond b false true) ≡ test (nat_eq (test b) 0)
other_told true = refl
other_told false = refl

same_told : (b : Bool) → test b ≡ test (nat_eq (test (cond b false true)) 0)
same_told true = refl
same_told false = refl

at_most : (x y : ℤ) → test (int_le y x) ≡ test (nat_eq (test (int_lt x y)) 0)
at_most x y = ap test (int_le_not x y) ∙ not_told (int_lt x y)

below : (x y : ℤ) → test (int_lt y x) ≡ test (nat_eq (test (int_le x y)) 0)
below x y = ap test (int_lt_not x y) ∙ not_told (int_le x y)

nat_at_most : (a b : ℕ) → test (nat_le b a) ≡ test (nat_eq (test (nat_lt a b)) 0)
nat_at_most a b = ap test (leb_not a b) ∙ not_told (nat_lt a b)

nat_below : (a b : ℕ) → test (nat_lt b a) ≡ test (nat_eq (test (nat_le a b)) 0)
nat_below a b = ap test (ltb_not a b) ∙ not_told (nat_le a b)

-- THE TABLE

-- p tells of two operands, or of one and an immediate, that o does not hold
pub record OppositeOf (o p : Op) : Type 0 where
  pub shape : ((form_of o ≡ General) × (role_of o ≡ Both)) ⊎ ((form_of o ≡ Immediate) × (role_of o ≡ One))
  pub form : form_of p ≡ form_of o
  pub role : role_of p ≡ role_of o
  pub calm : divides p ≡ false
  pub label : names_label p ≡ false
  pub same : (a b : ℕ) → alu_of p a b ≡ alu_of op.Teqi (alu_of o a b) 0

general : {o p : Op} → form_of o ≡ General → role_of o ≡ Both → form_of p ≡ form_of o → role_of p ≡ role_of o
    → divides p ≡ false → names_label p ≡ false
    → ((a b : ℕ) → alu_of p a b ≡ alu_of op.Teqi (alu_of o a b) 0) → OppositeOf o p
general a b c d e f s = record { shape = inl (a, b); form = c; role = d; calm = e; label = f; same = s }

immediate : {o p : Op} → form_of o ≡ Immediate → role_of o ≡ One → form_of p ≡ form_of o → role_of p ≡ role_of o
    → divides p ≡ false → names_label p ≡ false
    → ((a b : ℕ) → alu_of p a b ≡ alu_of op.Teqi (alu_of o a b) 0) → OppositeOf o p
immediate a b c d e f s = record { shape = inr (a, b); form = c; role = d; calm = e; label = f; same = s }

-- each pair of the table is such
pub opposite_is : (o p : Op) → opposites.opposite_of o ≡ Some p → OppositeOf o p
opposite_is op.Teq p e = subst (OppositeOf op.Teq) (same_Some op.Tne p e)
    (general refl refl refl refl refl refl (λ a b. other_told (nat_eq a b)))
opposite_is op.Tne p e = subst (OppositeOf op.Tne) (same_Some op.Teq p e)
    (general refl refl refl refl refl refl (λ a b. same_told (nat_eq a b)))
opposite_is op.Tlt p e = subst (OppositeOf op.Tlt) (same_Some op.Tge p e)
    (general refl refl refl refl refl refl (λ a b. at_most (signed a) (signed b)))
opposite_is op.Tle p e = subst (OppositeOf op.Tle) (same_Some op.Tgt p e)
    (general refl refl refl refl refl refl (λ a b. below (signed a) (signed b)))
opposite_is op.Tgt p e = subst (OppositeOf op.Tgt) (same_Some op.Tle p e)
    (general refl refl refl refl refl refl (λ a b. at_most (signed b) (signed a)))
opposite_is op.Tge p e = subst (OppositeOf op.Tge) (same_Some op.Tlt p e)
    (general refl refl refl refl refl refl (λ a b. below (signed b) (signed a)))
opposite_is op.Tltu p e = subst (OppositeOf op.Tltu) (same_Some op.Tgeu p e)
    (general refl refl refl refl refl refl (λ a b. nat_at_most a b))
opposite_is op.Tleu p e = subst (OppositeOf op.Tleu) (same_Some op.Tgtu p e)
    (general refl refl refl refl refl refl (λ a b. nat_below a b))
opposite_is op.Tgtu p e = subst (OppositeOf op.Tgtu) (same_Some op.Tleu p e)
    (general refl refl refl refl refl refl (λ a b. nat_at_most b a))
opposite_is op.Tgeu p e = subst (OppositeOf op.Tgeu) (same_Some op.Tltu p e)
    (general refl refl refl refl refl refl (λ a b. nat_below b a))
opposite_is op.Teqi p e = subst (OppositeOf op.Teqi) (same_Some op.Tnei p e)
    (immediate refl refl refl refl refl refl (λ a b. other_told (nat_eq a b)))
opposite_is op.Tnei p e = subst (OppositeOf op.Tnei) (same_Some op.Teqi p e)
    (immediate refl refl refl refl refl refl (λ a b. same_told (nat_eq a b)))
opposite_is op.Tlti p e = subst (OppositeOf op.Tlti) (same_Some op.Tgei p e)
    (immediate refl refl refl refl refl refl (λ a b. at_most (signed a) (signed b)))
opposite_is op.Tlei p e = subst (OppositeOf op.Tlei) (same_Some op.Tgti p e)
    (immediate refl refl refl refl refl refl (λ a b. below (signed a) (signed b)))
opposite_is op.Tgti p e = subst (OppositeOf op.Tgti) (same_Some op.Tlei p e)
    (immediate refl refl refl refl refl refl (λ a b. at_most (signed b) (signed a)))
opposite_is op.Tgei p e = subst (OppositeOf op.Tgei) (same_Some op.Tlti p e)
    (immediate refl refl refl refl refl refl (λ a b. below (signed b) (signed a)))
opposite_is op.Tltui p e = subst (OppositeOf op.Tltui) (same_Some op.Tgeui p e)
    (immediate refl refl refl refl refl refl (λ a b. nat_at_most a b))
opposite_is op.Tleui p e = subst (OppositeOf op.Tleui) (same_Some op.Tgtui p e)
    (immediate refl refl refl refl refl refl (λ a b. nat_below a b))
opposite_is op.Tgtui p e = subst (OppositeOf op.Tgtui) (same_Some op.Tleui p e)
    (immediate refl refl refl refl refl refl (λ a b. nat_at_most b a))
opposite_is op.Tgeui p e = subst (OppositeOf op.Tgeui) (same_Some op.Tltui p e)
    (immediate refl refl refl refl refl refl (λ a b. nat_below b a))
opposite_is _ p e = absurd (cc)

-- THE NODE

-- the test c that node j, which is n, tells not to hold, and the opposite operation
pub record Opposed (nodes : List FlowNode) (j : ℕ) (n c : FlowNode) (p : Op) : Type 0 where
  pub tells : n.op ≡ op.Teqi
  pub zero : n.imm ≡ pos 0
  pub bare : n.right ≡ []
  pub place : ℕ
  pub sources : n.left ≡ Node place ∷ []
  pub there : slice_get nodes place ≡ Some c
  pub apart : place ≢ j
  pub guard : (c.guard ≡ None) ⊎ (c.guard ≡ n.guard)
  pub small : is_small c.imm ≡ true
  pub right : (form_of c.op ≡ General) ⊎ (c.right ≡ [])
  pub opposite : OppositeOf c.op p

-- a node as the rule makes it
pub record Opposing (nodes : List FlowNode) (j : ℕ) (n m : FlowNode) : Type 0 where
  pub node : FlowNode
  pub op : Op
  pub test : Opposed nodes j n node op
  pub is : m ≡ opposites.with_opposite n node op

teqi_is : (o : Op) → opposites.is_teqi o ≡ true → o ≡ op.Teqi
teqi_is op.Teqi e = refl
teqi_is _ e = absurd (cc)

empty_is : (ss : List FlowSource) → opposites.is_empty ss ≡ true → ss ≡ []
empty_is [] e = refl
empty_is (s ∷ rest) e = absurd (cc)

general_is : (x : Form) → opposites.is_general x ≡ true → x ≡ General
general_is General e = refl
general_is Immediate e = absurd (cc)
general_is Load e = absurd (cc)
general_is Store e = absurd (cc)
general_is Branch e = absurd (cc)
general_is Constant e = absurd (cc)

value : {A : Type 0} (b : Bool) (o : Option A) (x : A) → cond b o None ≡ Some x → (b ≡ true) × (o ≡ Some x)
value true o x e = (refl, e)
value false o x e = absurd (cc)

-- it is found where the opposite is
pub opposing : (nodes : List FlowNode) (j : ℕ) (n m : FlowNode) → opposites.opposed nodes j n ≡ Some m
    → Opposing nodes j n m
opposing nodes j n m e =
    let v = value (opposites.is_teqi n.op && (is_zero n.imm && opposites.is_empty n.right))
    (opposites.opposed_in nodes j n n.left) m e in
    let p = and_parts (opposites.is_teqi n.op) (is_zero n.imm && opposites.is_empty n.right) v.0 in
    let q = and_parts (is_zero n.imm) (opposites.is_empty n.right) p.1 in
    by_sources (teqi_is n.op p.0) (zero_is n.imm q.0) (empty_is n.right q.1) n.left refl v.1
  where
    at_right : (c : FlowNode) → (opposites.is_general (form_of c.op) ≡ true) ⊎ (opposites.is_empty c.right ≡ true)
        → (form_of c.op ≡ General) ⊎ (c.right ≡ [])
    at_right c (inl d) = inl (general_is (form_of c.op) d)
    at_right c (inr d) = inr (empty_is c.right d)

    by_op : n.op ≡ op.Teqi → n.imm ≡ pos 0 → n.right ≡ [] → (k : ℕ) → n.left ≡ Node k ∷ [] → k ≢ j → (c : FlowNode)
        → slice_get nodes k ≡ Some c → covers c.guard n.guard ≡ true → opposites.hands_on c ≡ true → (o : Option Op)
        → opposites.opposite_of c.op ≡ o → opposites.with_some n c o ≡ Some m → Opposing nodes j n m
    by_op t z b k l d c s g w None q x = absurd (cc)
    by_op t z b k l d c s g w (Some o) q x =
        let p = and_parts (is_small c.imm) (opposites.is_general (form_of c.op) || opposites.is_empty c.right) w in
        record {
          node = c;
          op = o;
          test = record {
            tells = t;
            zero = z;
            bare = b;
            place = k;
            sources = l;
            there = s;
            apart = d;
            guard = covers_is c.guard n.guard g;
            small = p.0;
            right = at_right c (or_cases (opposites.is_general (form_of c.op)) (opposites.is_empty c.right) p.1);
            opposite = opposite_is c.op o q;
          };
          is = sym (same_Some (opposites.with_opposite n c o) m x);
        }

    by_node : n.op ≡ op.Teqi → n.imm ≡ pos 0 → n.right ≡ [] → (k : ℕ) → n.left ≡ Node k ∷ [] → k ≢ j
        → (o : Option FlowNode) → slice_get nodes k ≡ o → opposites.opposed_at n o ≡ Some m → Opposing nodes j n m
    by_node t z b k l d None s x = absurd (cc)
    by_node t z b k l d (Some c) s x =
        let v = value (covers c.guard n.guard && opposites.hands_on c)
        (opposites.with_some n c (opposites.opposite_of c.op)) m x in
        let p = and_parts (covers c.guard n.guard) (opposites.hands_on c) v.0 in
        by_op t z b k l d c s p.0 p.1 (opposites.opposite_of c.op) refl v.1

    by_place : n.op ≡ op.Teqi → n.imm ≡ pos 0 → n.right ≡ [] → (k : ℕ) → n.left ≡ Node k ∷ [] → (b : Bool)
        → nat_eq k j ≡ b → cond b None (opposites.opposed_at n (slice_get nodes k)) ≡ Some m → Opposing nodes j n m
    by_place t z b k l true q x = absurd (cc)
    by_place t z b k l false q x = by_node t z b k l (eqb-false k j q) (slice_get nodes k) refl x

    by_sources : n.op ≡ op.Teqi → n.imm ≡ pos 0 → n.right ≡ [] → (ss : List FlowSource) → n.left ≡ ss
        → opposites.opposed_in nodes j n ss ≡ Some m → Opposing nodes j n m
    by_sources t z b [] l x = absurd (cc)
    by_sources t z b (Read r ∷ rest) l x = absurd (cc)
    by_sources t z b (Node k ∷ (s ∷ rest)) l x = absurd (cc)
    by_sources t z b (Node k ∷ []) l x = by_place t z b k l (nat_eq k j) refl x

-- new immediates leave it
pub opposing_kept : (r : Immediates) → LeavesOwn r → (nodes : List FlowNode) (j : ℕ) (n m : FlowNode)
    → Opposing nodes j n m → Opposing (map (with_immediate r) nodes) j (with_immediate r n) (with_immediate r m)
opposing_kept r own nodes j n m o =
    let s = o.test in
    let c = o.node in
    let old : r c.op c.imm ≡ c.imm = own c.op c.imm (small_own c.imm s.small) in
    let new : r o.op c.imm ≡ c.imm = own o.op c.imm (small_own c.imm s.small) in
    record {
      node = with_immediate r c;
      op = o.op;
      test = record {
        tells = s.tells;
        zero = ap (r n.op) s.zero ∙ own n.op (pos 0) (omega arith);
        bare = s.bare;
        place = s.place;
        sources = s.sources;
        there = slice_get-map (with_immediate r) nodes s.place ∙ ap (option_map (with_immediate r)) s.there;
        apart = s.apart;
        guard = s.guard;
        small = ap is_small old ∙ s.small;
        right = s.right;
        opposite = s.opposite;
      };
      is = ap (with_immediate r) o.is
          ∙ ap (λ (z : ℤ). record (opposites.with_opposite n c o.op) { imm = z }) (new ∙ sym old);
    }
