-- Sums: the number that a node adds, and the node that adds to what it gives.
use Rattle.std.proofs.Common.{◌≡◌, ◌≢◌, ℕ, ◌+◌, ◌-◌, ◌%◌, ◌^◌, List, [], ◌∷◌, ◌⊎◌, refl, sym, ap, ◌∙◌}
use Rattle.std.proofs.Common.{subst, arith, cond, nat_eq, map, Bool, true, false}
use Rattle.std.specs.Prelude.{ℤ, pos, ◌+ℤ◌, ◌-ℤ◌, Some, None, Option, option_map, slice_get}
use Rattle.std.proofs.lemmas.Bool.{eqb-false}
use Rattle.std.proofs.lemmas.Option.{same_Some, slice_get-map}
use Rattle.trips_isa.specs.declared.op.Op.{Op}
use Rattle.trips_isa.specs.declared.op.Op.TheVariants as op
use Rattle.trips_isa.specs.declared.form.Form.TheVariants.{General, Immediate}
use Rattle.trips_isa.specs.declared.form.Role.TheVariants.{Both}
use Rattle.trips_isa.specs.Alu.{alu_of, word}
use Rattle.trips_isa.specs.Faults.{divides}
use Rattle.trips_isa.specs.Forms.{form_of, role_of}
use Rattle.ir_forms.specs.declared.flow.FlowSource.{FlowSource}
use Rattle.ir_forms.specs.declared.flow.FlowSource.TheVariants.{Read, Node}
use Rattle.ir_forms.specs.declared.flow.FlowNode.{FlowNode}
use Rattle.flow_fold.specs.inside.Copies.{covers}
use Rattle.flow_fold.specs.inside.Immediates.{is_small, small_of}
use Rattle.flow_fold.specs.inside.Replaces.{Immediates, with_immediate, LeavesOwn}
use Rattle.flow_fold.specs.inside.Sums as sums
use Rattle.flow_fold.proofs.ConstantFacts.{Small, small_is, small_own}
use Rattle.flow_fold.proofs.Forwarded.{covers_is}
use Rattle.flow_fold.proofs.OffsetFacts.{three, added, subtracted}

-- THE NUMBER

-- where a small number is subtracted another is added
record Negated (i b : ℤ) : Type 0 where
  given : is_small i ≡ true
  small : is_small b ≡ true
  same : (x : ℕ) → (x + (2 ^ 64 - word i)) % 2 ^ 64 ≡ (x + word b) % 2 ^ 64

once : (y : ℕ) → (y % 2 ^ 64 + 0) % 2 ^ 64 ≡ y % 2 ^ 64
once y = omega arith

negated_is : (i b : ℤ) → sums.negated i ≡ Some b → Negated i b
negated_is i b e =
    let t = three i i (pos 0 -ℤ i) b e in
    subst (λ (z : ℤ). Negated i z) t.is
    (record {
      given = t.first;
      small = t.third;
      same = λ x. sym (subtracted x i (pos 0) t.first refl t.third ∙ once (x + (2 ^ 64 - word i)));
    })

-- an operation whose immediate is i adds the number b
pub record AddsBy (o : Op) (i b : ℤ) : Type 0 where
  pub form : form_of o ≡ Immediate
  pub calm : divides o ≡ false
  pub given : is_small i ≡ true
  pub small : is_small b ≡ true
  pub same : (x : ℕ) → alu_of o x (word i) ≡ (x + word b) % 2 ^ 64

added_by_is : (o : Op) (i b : ℤ) → sums.added_by o i ≡ Some b → AddsBy o i b
added_by_is op.Addi i b e =
    let t = three i i i b e in
    subst (λ (z : ℤ). AddsBy op.Addi i z) t.is
    (record { form = refl; calm = refl; given = t.first; small = t.third; same = λ x. refl })
added_by_is op.Subi i b e =
    let t = negated_is i b e in
    record { form = refl; calm = refl; given = t.given; small = t.small; same = t.same }
added_by_is _ i b e = absurd (cc)

-- a node adds the number b by a small constant at its right
pub record AddsAtRight (nodes : List FlowNode) (c : FlowNode) (b : ℤ) : Type 0 where
  pub general : form_of c.op ≡ General
  pub both : role_of c.op ≡ Both
  pub number : ℤ
  pub constant : Small nodes c.right number
  pub small : is_small b ≡ true
  pub same : (x : ℕ) → alu_of c.op x (word number) ≡ (x + word b) % 2 ^ 64

-- it adds the number by its immediate or so
pub data Adds (nodes : List FlowNode) (c : FlowNode) (b : ℤ) : Type 0 where
  by_immediate : AddsBy c.op c.imm b → Adds nodes c b
  at_right : AddsAtRight nodes c b → Adds nodes c b

-- each number that is found is added
pub adds_is : (nodes : List FlowNode) (c : FlowNode) (b : ℤ) (o : Op) → c.op ≡ o → sums.adds nodes c o ≡ Some b
    → Adds nodes c b
adds_is nodes c b op.Add q e =
    let s = small_is nodes c.right b e in
    at_right (record {
      general = ap form_of q;
      both = ap role_of q;
      number = b;
      constant = s;
      small = s.small;
      same = λ x. ap (λ (o : Op). alu_of o x (word b)) q;
    })
adds_is nodes c b op.Sub q e = at (small_of nodes c.right) refl e
  where
    at : (m : Option ℤ) → small_of nodes c.right ≡ m → sums.negated_some m ≡ Some b → Adds nodes c b
    at None s t = absurd (cc)
    at (Some i) s t =
        let d = negated_is i b t in
        at_right (record {
          general = ap form_of q;
          both = ap role_of q;
          number = i;
          constant = small_is nodes c.right i s;
          small = d.small;
          same = λ x. ap (λ (o : Op). alu_of o x (word i)) q ∙ d.same x;
        })
adds_is nodes c b op.Addi q e =
    by_immediate (subst (λ (o : Op). AddsBy o c.imm b) (sym q) (added_by_is op.Addi c.imm b e))
adds_is nodes c b op.Subi q e =
    by_immediate (subst (λ (o : Op). AddsBy o c.imm b) (sym q) (added_by_is op.Subi c.imm b e))
adds_is nodes c b _ q e = absurd (cc)

-- THE NODE

-- the node c at the left of node j, which is n, and the number i that both add
pub record Added (nodes : List FlowNode) (j : ℕ) (n c : FlowNode) (i : ℤ) : Type 0 where
  pub place : ℕ
  pub sources : n.left ≡ Node place ∷ []
  pub there : slice_get nodes place ≡ Some c
  pub apart : place ≢ j
  pub guard : (c.guard ≡ None) ⊎ (c.guard ≡ n.guard)
  pub first : ℤ
  pub second : ℤ
  pub adds : Adds nodes c first
  pub own : AddsBy n.op n.imm second
  pub small : is_small i ≡ true
  pub same : (x : ℕ) → (x + word i) % 2 ^ 64 ≡ ((x + word first) % 2 ^ 64 + word second) % 2 ^ 64

-- a node as the rule makes it
pub record Adding (nodes : List FlowNode) (j : ℕ) (n m : FlowNode) : Type 0 where
  pub node : FlowNode
  pub number : ℤ
  pub sum : Added nodes j n node number
  pub is : m ≡ sums.with_sum n node.left number

-- it is found where a node adds to a sum
pub adding : (nodes : List FlowNode) (j : ℕ) (n m : FlowNode) (ss : List FlowSource) → n.left ≡ ss
    → sums.added nodes j n ss ≡ Some m → Adding nodes j n m
adding nodes j n m [] l e = absurd (cc)
adding nodes j n m (Read r ∷ rest) l e = absurd (cc)
adding nodes j n m (Node k ∷ (s ∷ rest)) l e = absurd (cc)
adding nodes j n m (Node k ∷ []) l e = at (nat_eq k j) refl e
  where
    with_numbers : (c : FlowNode) → k ≢ j → slice_get nodes k ≡ Some c → covers c.guard n.guard ≡ true → (i : ℤ)
        → sums.with_sum n c.left i ≡ m
        → (a b : Option ℤ) → sums.adds nodes c c.op ≡ a → sums.added_by n.op n.imm ≡ b → sums.at_once a b ≡ Some i
        → Adding nodes j n m
    with_numbers c d s g i t None b p q e = absurd (cc)
    with_numbers c d s g i t (Some a) None p q e = absurd (cc)
    with_numbers c d s g i t (Some a) (Some b) p q e =
        let z = three a b (b +ℤ a) i e in
        record {
          node = c;
          number = i;
          sum = record {
            place = k;
            sources = l;
            there = s;
            apart = d;
            guard = covers_is c.guard n.guard g;
            first = a;
            second = b;
            adds = adds_is nodes c a c.op refl p;
            own = added_by_is n.op n.imm b q;
            small = subst (λ (y : ℤ). is_small y ≡ true) z.is z.third;
            same = subst (λ (y : ℤ). (x : ℕ) → (x + word y) % 2 ^ 64 ≡ ((x + word a) % 2 ^ 64 + word b) % 2 ^ 64)
                z.is (λ x. added x a b z.first z.second z.third);
          };
          is = sym t;
        }

    with_number : (c : FlowNode) → k ≢ j → slice_get nodes k ≡ Some c → (o : Option ℤ) → sums.sum_of nodes n c ≡ o
        → sums.with_some n c o ≡ Some m → Adding nodes j n m
    with_number c d s None q t = absurd (cc)
    with_number c d s (Some i) q t =
        let p = value (covers c.guard n.guard) (sums.at_once (sums.adds nodes c c.op) (sums.added_by n.op n.imm)) q in
        with_numbers c d s p.0 i (same_Some (sums.with_sum n c.left i) m t) (sums.adds nodes c c.op)
        (sums.added_by n.op n.imm) refl refl p.1
      where
        value : (b : Bool) (o : Option ℤ) → cond b o None ≡ Some i → (b ≡ true) × (o ≡ Some i)
        value true o q = (refl, q)
        value false o q = absurd (cc)

    at_node : k ≢ j → (o : Option FlowNode) → slice_get nodes k ≡ o → sums.added_at nodes n o ≡ Some m
        → Adding nodes j n m
    at_node d None s t = absurd (cc)
    at_node d (Some c) s t = with_number c d s (sums.sum_of nodes n c) refl t

    at : (b : Bool) → nat_eq k j ≡ b → cond b None (sums.added_at nodes n (slice_get nodes k)) ≡ Some m
        → Adding nodes j n m
    at true q t = absurd (cc)
    at false q t = at_node (eqb-false k j q) (slice_get nodes k) refl t

-- NEW IMMEDIATES

module _ (r : Immediates) (own : LeavesOwn r) where
  abbrev new : FlowNode → FlowNode
  new = with_immediate r

  by_kept : (c : FlowNode) (b : ℤ) → AddsBy c.op c.imm b → AddsBy c.op (r c.op c.imm) b
  by_kept c b a = subst (λ (z : ℤ). AddsBy c.op z b) (sym (own c.op c.imm (small_own c.imm a.given))) a

  -- new immediates leave what a node adds
  pub adds_kept : (nodes : List FlowNode) (c : FlowNode) (b : ℤ) → Adds nodes c b → Adds (map new nodes) (new c) b
  adds_kept nodes c b (by_immediate a) = by_immediate (by_kept c b a)
  adds_kept nodes c b (at_right a) =
      let s = a.constant in
      at_right (record {
        general = a.general;
        both = a.both;
        number = a.number;
        constant = record {
          place = s.place;
          node = new s.node;
          sources = s.sources;
          there = slice_get-map new nodes s.place ∙ ap (option_map new) s.there;
          gives = s.gives;
          guard = s.guard;
          imm = ap (r s.node.op) s.imm ∙ own s.node.op a.number (small_own a.number s.small);
          small = s.small;
        };
        small = a.small;
        same = a.same;
      })

  -- new immediates leave it
  pub adding_kept : (nodes : List FlowNode) (j : ℕ) (n m : FlowNode) → Adding nodes j n m
      → Adding (map new nodes) j (new n) (new m)
  adding_kept nodes j n m o =
      let s = o.sum in
      record {
        node = new o.node;
        number = o.number;
        sum = record {
          place = s.place;
          sources = s.sources;
          there = slice_get-map new nodes s.place ∙ ap (option_map new) s.there;
          apart = s.apart;
          guard = s.guard;
          first = s.first;
          second = s.second;
          adds = adds_kept nodes o.node s.first s.adds;
          own = by_kept n s.second s.own;
          small = s.small;
          same = s.same;
        };
        is = ap new o.is ∙ ap (λ (z : ℤ). sums.with_sum n o.node.left z)
            (own op.Addi o.number (small_own o.number s.small));
      }
