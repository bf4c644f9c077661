-- Offsets: the node that adds to an address, and the offset that takes what it adds.
use Rattle.std.proofs.Common.{◌≡◌, ◌≢◌, ℕ, ◌+◌, ◌-◌, ◌*◌, ◌%◌, ◌^◌, ◌≤◌, List, [], ◌∷◌, ◌⊎◌, refl, sym}
use Rattle.std.proofs.Common.{subst, arith, cond, nat_eq, Bool, true, false, ◌&&◌}
use Rattle.std.specs.Prelude.{ℤ, pos, negsuc, ◌+ℤ◌, ◌-ℤ◌, neg_ℤ, Some, None, Option, slice_get}
use Rattle.std.proofs.lemmas.Bool.{and_parts, eqb-false}
use Rattle.std.proofs.lemmas.Option.{same_Some, cond_some}
use borrow.Author.Differences.{up, down, sum_is_lem, neg_is}
use Rattle.trips_isa.specs.declared.op.Op.{Op}
use Rattle.trips_isa.specs.declared.op.Op.TheVariants as op
use Rattle.trips_isa.specs.declared.form.Form.TheVariants.{Immediate}
use Rattle.trips_isa.specs.declared.form.Role.TheVariants.{One}
use Rattle.trips_isa.specs.Alu.{alu_of, word}
use Rattle.trips_isa.specs.Forms.{form_of, role_of}
use Rattle.ir_forms.specs.declared.flow.FlowSource.{FlowSource}
use Rattle.ir_forms.specs.declared.flow.FlowSource.TheVariants.{Read, Node}
use Rattle.ir_forms.specs.declared.flow.FlowNode.{FlowNode}
use Rattle.flow_fold.specs.inside.Copies.{covers}
use Rattle.flow_fold.specs.inside.Immediates.{is_small}
use Rattle.flow_fold.specs.inside.Offsets.{if_small, moved, offset_before, with_offset, with_some, summed_at, summed}
use Rattle.flow_fold.proofs.ConstantFacts.{small_fits}
use Rattle.flow_fold.proofs.Forwarded.{covers_is}

-- WORDS OF SMALL NUMBERS

-- the word of a number is the number and some multiple of 2^64
pub record Wraps (z : ℤ) : Type 0 where
  pub times : ℕ
  pub is : word z + down z ≡ up z + times * 2 ^ 64
  pub low : word z ≤ 2 ^ 64

pub wraps : (z : ℤ) → is_small z ≡ true → Wraps z
wraps (pos n) s = let l = small_fits (pos n) s in record { times = 0; is = omega arith; low = omega (arith, l) }
wraps (negsuc n) s =
    let l = small_fits (negsuc n) s in record { times = 1; is = omega (arith, l); low = omega (arith, l) }

add_once : (x i a b p q r : ℕ) → i + (p + q) * 2 ^ 64 ≡ a + b + r * 2 ^ 64
    → (x + i) % 2 ^ 64 ≡ ((x + a) % 2 ^ 64 + b) % 2 ^ 64
add_once x i a b p q r e = omega arith

subtract_once : (x i a b q s : ℕ) → a ≤ 2 ^ 64 → i + a + q * 2 ^ 64 ≡ b + s * 2 ^ 64
    → (x + i) % 2 ^ 64 ≡ ((x + (2 ^ 64 - a)) % 2 ^ 64 + b) % 2 ^ 64
subtract_once x i a b q s l e = omega arith

-- a sum of small numbers is added at once
pub added : (x : ℕ) (a b : ℤ) → is_small a ≡ true → is_small b ≡ true → is_small (b +ℤ a) ≡ true
    → (x + word (b +ℤ a)) % 2 ^ 64 ≡ ((x + word a) % 2 ^ 64 + word b) % 2 ^ 64
added x a b s t u =
    let p = wraps a s in
    let q = wraps b t in
    let r = wraps (b +ℤ a) u in
    let d = sum_is_lem b a in
    add_once x (word (b +ℤ a)) (word a) (word b) p.times q.times r.times (sums _ _ _ _ _ _ _ _ _ _ _ _ p.is q.is r.is d)
  where
    sums : (i v w c d e f g h k l m : ℕ) → v + c ≡ d + k * 2 ^ 64 → w + e ≡ f + l * 2 ^ 64
        → i + g ≡ h + m * 2 ^ 64 → h + e + c ≡ g + f + d → i + (k + l) * 2 ^ 64 ≡ v + w + m * 2 ^ 64
    sums i v w c d e f g h k l m p q r z = omega arith

-- and so is a difference
pub subtracted : (x : ℕ) (a b : ℤ) → is_small a ≡ true → is_small b ≡ true → is_small (b -ℤ a) ≡ true
    → (x + word (b -ℤ a)) % 2 ^ 64 ≡ ((x + (2 ^ 64 - word a)) % 2 ^ 64 + word b) % 2 ^ 64
subtracted x a b s t u =
    let p = wraps a s in
    let q = wraps b t in
    let r = wraps (b -ℤ a) u in
    let d = sum_is_lem b (neg_ℤ a) in
    let n = neg_is a in
    subtract_once x (word (b -ℤ a)) (word a) (word b) q.times (p.times + r.times) p.low
    (sums _ _ _ _ _ _ _ _ _ _ _ _ _ _ p.is q.is r.is d n.0 n.1)
  where
    sums : (i v w c d e f g h y z k l m : ℕ) → v + c ≡ d + k * 2 ^ 64 → w + e ≡ f + l * 2 ^ 64
        → i + g ≡ h + m * 2 ^ 64 → h + e + z ≡ g + f + y → y ≡ c → z ≡ d
        → i + v + l * 2 ^ 64 ≡ w + (k + m) * 2 ^ 64
    sums i v w c d e f g h a b k l m p q r t y z = omega arith

-- THE OPERATION

-- with the offset i the address is what it is with the offset b behind operation o with immediate a
pub record Moves (o : Op) (a b i : ℤ) : Type 0 where
  pub form : form_of o ≡ Immediate
  pub one : role_of o ≡ One
  pub added : is_small a ≡ true
  pub offset : is_small b ≡ true
  pub sum : is_small i ≡ true
  pub same : (x : ℕ) → (x + word i) % 2 ^ 64 ≡ (alu_of o x (word a) + word b) % 2 ^ 64

-- three small numbers
pub record Three (a b z i : ℤ) : Type 0 where
  pub first : is_small a ≡ true
  pub second : is_small b ≡ true
  pub third : is_small z ≡ true
  pub is : z ≡ i

pub three : (a b z i : ℤ) → if_small a b z ≡ Some i → Three a b z i
three a b z i e =
    let p = cond_some (is_small a && (is_small b && is_small z)) z i e in
    let q = and_parts (is_small a) (is_small b && is_small z) p.0 in
    let r = and_parts (is_small b) (is_small z) q.1 in
    record { first = q.0; second = r.0; third = r.1; is = p.1 }

-- it is where the offset moves
pub moves_is : (o : Op) (a b i : ℤ) → moved o a b ≡ Some i → Moves o a b i
moves_is op.Addi a b i e =
    let t = three a b (b +ℤ a) i e in
    subst (λ (z : ℤ). Moves op.Addi a b z) t.is
    (record {
      form = refl;
      one = refl;
      added = t.first;
      offset = t.second;
      sum = t.third;
      same = λ x. added x a b t.first t.second t.third;
    })
moves_is op.Subi a b i e =
    let t = three a b (b -ℤ a) i e in
    subst (λ (z : ℤ). Moves op.Subi a b z) t.is
    (record {
      form = refl;
      one = refl;
      added = t.first;
      offset = t.second;
      sum = t.third;
      same = λ x. subtracted x a b t.first t.second t.third;
    })
moves_is _ a b i e = absurd (cc)

-- THE NODE

-- the node c at the address of node j, which is n, and the offset i that takes what it adds
pub record Summed (nodes : List FlowNode) (j : ℕ) (n c : FlowNode) (i : ℤ) : Type 0 where
  pub place : ℕ
  pub sources : n.left ≡ Node place ∷ []
  pub there : slice_get nodes place ≡ Some c
  pub apart : place ≢ j
  pub guard : (c.guard ≡ None) ⊎ (c.guard ≡ n.guard)
  pub moves : Moves c.op c.imm n.imm i

-- a node as the rule makes it
pub record Offsetly (nodes : List FlowNode) (j : ℕ) (n m : FlowNode) : Type 0 where
  pub node : FlowNode
  pub number : ℤ
  pub sum : Summed nodes j n node number
  pub is : m ≡ with_offset n node.left number

-- it is found where an address is a sum
pub summed_is : (nodes : List FlowNode) (j : ℕ) (n m : FlowNode) (ss : List FlowSource) → n.left ≡ ss
    → summed nodes j n ss ≡ Some m → Offsetly nodes j n m
summed_is nodes j n m [] l e = absurd (cc)
summed_is nodes j n m (Read r ∷ rest) l e = absurd (cc)
summed_is nodes j n m (Node k ∷ (s ∷ rest)) l e = absurd (cc)
summed_is nodes j n m (Node k ∷ []) l e = at (nat_eq k j) refl e
  where
    with_number : (c : FlowNode) → k ≢ j → slice_get nodes k ≡ Some c → (o : Option ℤ) → offset_before n c ≡ o
        → with_some n c o ≡ Some m → Offsetly nodes j n m
    with_number c d s None q t = absurd (cc)
    with_number c d s (Some i) q t =
        let p = cond_some_value (covers c.guard n.guard) (moved c.op c.imm n.imm) i q in
        record {
          node = c;
          number = i;
          sum = record {
            place = k;
            sources = l;
            there = s;
            apart = d;
            guard = covers_is c.guard n.guard p.0;
            moves = moves_is c.op c.imm n.imm i p.1;
          };
          is = sym (same_Some (with_offset n c.left i) m t);
        }
      where
        cond_some_value : (b : Bool) (o : Option ℤ) (i : ℤ) → cond b o None ≡ Some i → (b ≡ true) × (o ≡ Some i)
        cond_some_value true o i q = (refl, q)
        cond_some_value false o i q = absurd (cc)

    at_node : k ≢ j → (o : Option FlowNode) → slice_get nodes k ≡ o → summed_at n o ≡ Some m → Offsetly nodes j n m
    at_node d None s t = absurd (cc)
    at_node d (Some c) s t = with_number c d s (offset_before n c) refl t

    at : (b : Bool) → nat_eq k j ≡ b → cond b None (summed_at n (slice_get nodes k)) ≡ Some m → Offsetly nodes j n m
    at true q t = absurd (cc)
    at false q t = at_node (eqb-false k j q) (slice_get nodes k) refl t
