-- Negative constants: the nodes that a chain of 16 bits each is made of, and its word.
use Rattle.std.proofs.Common.{◌≡◌, ◌≢◌, ℕ, ◌+◌, ◌-◌, ◌*◌, ◌%◌, ◌^◌, ◌<◌, ◌≤◌, List, [], ◌∷◌, refl, sym, ap, subst}
use Rattle.std.proofs.Common.{◌∙◌, arith, Bool, true, false, not, ◌&&◌, nat_eq, map}
use Rattle.std.specs.Prelude.{ℤ, pos, negsuc, ◌-ℤ◌, neg_ℤ, int_le, int_lt, Some, None, Option, slice_get, option_map}
use Rattle.std.proofs.lemmas.Bool.{and_parts, eqb-false, ltb-true, leb-true}
use borrow.Author.Differences.{up, down, sum_is_lem, neg_is}
use Rattle.std.proofs.lemmas.Option.{slice_get-map}
use Rattle.trips_isa.specs.declared.op.Op.{Op}
use Rattle.trips_isa.specs.declared.op.Op.TheVariants as op
use Rattle.trips_isa.specs.Alu.{word}
use Rattle.trips_isa.specs.Fits.{FitsSigned}
use Rattle.ir_forms.specs.declared.flow.FlowSource.{FlowSource}
use Rattle.ir_forms.specs.declared.flow.FlowSource.TheVariants.{Read, Node}
use Rattle.ir_forms.specs.declared.flow.Guard.{Guard}
use Rattle.ir_forms.specs.declared.flow.FlowNode.{FlowNode}
use Rattle.ir_forms.specs.inside.FlowFits.{has_guard}
use Rattle.flow_fold.specs.inside.Replaces.{IsOwn, Immediates, LeavesOwn, with_immediate}
use Rattle.flow_fold.specs.inside.Negatives as negatives

-- WORDS

-- a number of 16 bits that begin with a one
pub record Upper (i : ℤ) : Type 0 where
  pub value : ℕ
  pub is : i ≡ pos value
  pub least : 32768 ≤ value
  pub most : value < 65536

pub upper_is : (i : ℤ) → negatives.is_upper i ≡ true → Upper i
upper_is (pos w) e =
    let p = and_parts (int_le (pos 32768) (pos w)) (int_lt (pos w) (pos 65536)) e in
    record { value = w; is = refl; least = leb-true 32768 w p.0; most = ltb-true w 65536 p.1 }
upper_is (negsuc w) e = absurd (cc)

full_is : (i : ℤ) → negatives.is_full i ≡ true → i ≡ pos 65535
full_is (pos w) e =
    let p = and_parts (int_le (pos 65535) (pos w)) (int_lt (pos w) (pos 65536)) e in
    let a : 65535 ≤ w = leb-true 65535 w p.0 in
    let b : w < 65536 = ltb-true w 65536 p.1 in
    ap (λ (x : ℕ). pos x) (omega (arith, a, b))
full_is (negsuc w) e = absurd (cc)

-- the number that such 16 bits behind 48 ones are
pub record Negative (z : ℤ) (u : ℕ) : Type 0 where
  pub word : word z ≡ 2 ^ 64 - 65536 + u
  pub fits : FitsSigned 32768 z
  pub own : IsOwn z

negative_by : (z : ℤ) (u : ℕ) → up z + 65536 ≡ down z + u → 32768 ≤ u → u < 65536 → Negative z u
negative_by (pos w) u e a b = absurd (omega (arith, e, a, b))
negative_by (negsuc w) u e a b = record { word = omega (arith, e, a, b); fits = omega (arith, e, a, b); own = tt }

pub negative_is : (i : ℤ) (u : Upper i) → Negative (i -ℤ pos 65536) u.value
negative_is i u =
    let d = sum_is_lem i (neg_ℤ (pos 65536)) in
    let n = neg_is (pos 65536) in
    let a : up i ≡ u.value = ap up u.is in
    let b : down i ≡ 0 = ap down u.is in
    negative_by (i -ℤ pos 65536) u.value (moves _ _ _ _ _ _ _ d n.0 n.1 a b) u.least u.most
  where
    moves : (s t p q v w c : ℕ) → s + p + w ≡ t + q + v → v ≡ 0 → w ≡ 65536 → q ≡ c → p ≡ 0 → s + 65536 ≡ t + c
    moves s t p q v w c e f g k l = omega arith

-- 16 bits behind 48 ones
pub behind_ones : (u : ℕ) → u < 65536
    → (((65535 * 65536 + 65535) % 2 ^ 64 * 65536 + 65535) % 2 ^ 64 * 65536 + u) % 2 ^ 64 ≡ 2 ^ 64 - 65536 + u
behind_ones u l = omega (arith, l)

-- THE CHAIN

no_guard : (g : Option Guard) → not (has_guard g) ≡ true → g ≡ None
no_guard None e = refl
no_guard (Some g) e = absurd (cc)

-- some sources are node c alone, which is not node j
pub record Alone (nodes : List FlowNode) (j : ℕ) (ss : List FlowSource) (c : FlowNode) : Type 0 where
  pub place : ℕ
  pub sources : ss ≡ Node place ∷ []
  pub there : slice_get nodes place ≡ Some c
  pub apart : place ≢ j

-- node c puts 16 ones
pub record Puts (c : FlowNode) (o : Op) : Type 0 where
  pub op : c.op ≡ o
  pub guard : c.guard ≡ None
  pub imm : c.imm ≡ pos 65535

-- the three nodes that give 48 ones
pub record Chain (nodes : List FlowNode) (j : ℕ) (ss : List FlowSource) : Type 0 where
  pub first : FlowNode
  pub second : FlowNode
  pub third : FlowNode
  pub last : Alone nodes j ss third
  pub middle : Alone nodes j third.left second
  pub head : Alone nodes j second.left first
  pub begins : Puts first op.Genu
  pub goes_on : Puts second op.App
  pub ends : Puts third op.App

not_false : (b : Bool) → not b ≡ true → b ≡ false
not_false false e = refl
not_false true e = absurd (cc)

-- a node that sources are alone, and what holds of it
record Holder (nodes : List FlowNode) (j : ℕ) (ss : List FlowSource) (holds : Option FlowNode → Bool) : Type 0 where
  node : FlowNode
  alone : Alone nodes j ss node
  does : holds (Some node) ≡ true

holder : (holds : Option FlowNode → Bool) → (holds None ≡ false) →
    (nodes : List FlowNode) (j : ℕ) (ss : List FlowSource)
    → negatives.is_alone holds nodes j ss ≡ true → Holder nodes j ss holds
holder holds none nodes j [] e = absurd (cc)
holder holds none nodes j (Read r ∷ rest) e = absurd (cc)
holder holds none nodes j (Node k ∷ (s ∷ rest)) e = absurd (cc)
holder holds none nodes j (Node k ∷ []) e =
    let p = and_parts (not (nat_eq k j)) (holds (slice_get nodes k)) e in
    at (slice_get nodes k) refl p.1 (eqb-false k j (not_false (nat_eq k j) p.0))
  where
    at : (o : Option FlowNode) → slice_get nodes k ≡ o → holds o ≡ true → k ≢ j → Holder nodes j (Node k ∷ []) holds
    at None s t d = absurd (let z : false ≡ true = sym none ∙ t in cc z)
    at (Some c) s t d =
        record { node = c; alone = record { place = k; sources = refl; there = s; apart = d }; does = t }

genu_is : (o : Op) → negatives.is_genu o ≡ true → o ≡ op.Genu
genu_is op.Genu e = refl
genu_is _ e = absurd (cc)

pub app_is : (o : Op) → negatives.is_app o ≡ true → o ≡ op.App
app_is op.App e = refl
app_is _ e = absurd (cc)

puts : (c : FlowNode) (o : Op) → c.op ≡ o → negatives.puts_ones c ≡ true → Puts c o
puts c o e t =
    let p = and_parts (not (has_guard c.guard)) (negatives.is_full c.imm) t in
    record { op = e; guard = no_guard c.guard p.0; imm = full_is c.imm p.1 }

-- they are found where there are 48 ones
pub chain_is : (nodes : List FlowNode) (j : ℕ) (ss : List FlowSource) → negatives.ones_48 nodes j ss ≡ true
    → Chain nodes j ss
chain_is nodes j ss e =
    let c = holder (negatives.goes_on_at (negatives.ones_32 nodes j)) refl nodes j ss e in
    let p = and_parts (negatives.is_app c.node.op) (negatives.puts_ones c.node && negatives.ones_32 nodes j c.node.left)
    c.does in
    let q = and_parts (negatives.puts_ones c.node) (negatives.ones_32 nodes j c.node.left) p.1 in
    let d = holder (negatives.goes_on_at (negatives.ones_16 nodes j)) refl nodes j c.node.left q.1 in
    let r = and_parts (negatives.is_app d.node.op) (negatives.puts_ones d.node && negatives.ones_16 nodes j d.node.left)
    d.does in
    let s = and_parts (negatives.puts_ones d.node) (negatives.ones_16 nodes j d.node.left) r.1 in
    let g = holder negatives.begins_at refl nodes j d.node.left s.1 in
    let t = and_parts (negatives.is_genu g.node.op) (negatives.puts_ones g.node) g.does in
    record {
      first = g.node;
      second = d.node;
      third = c.node;
      last = c.alone;
      middle = d.alone;
      head = g.alone;
      begins = puts g.node op.Genu (genu_is g.node.op t.0) t.1;
      goes_on = puts d.node op.App (app_is d.node.op r.0) s.0;
      ends = puts c.node op.App (app_is c.node.op p.0) q.0;
    }

-- THE RULE

-- a node that ends a negative constant, and the whole constant
pub record Ending (nodes : List FlowNode) (j : ℕ) (n m : FlowNode) : Type 0 where
  pub app : n.op ≡ op.App
  pub upper : Upper n.imm
  pub chain : Chain nodes j n.left
  pub is : m ≡ negatives.as_negative n

-- it is where the end is found
pub ending : (nodes : List FlowNode) (j : ℕ) (n m : FlowNode) → negatives.is_negative nodes j n ≡ true
    → m ≡ negatives.as_negative n → Ending nodes j n m
ending nodes j n m t e =
    let p = and_parts (negatives.is_app n.op) (negatives.is_upper n.imm && negatives.ones_48 nodes j n.left) t in
    let q = and_parts (negatives.is_upper n.imm) (negatives.ones_48 nodes j n.left) p.1 in
    record { app = app_is n.op p.0; upper = upper_is n.imm q.0; chain = chain_is nodes j n.left q.1; is = e }

module _ (r : Immediates) (own : LeavesOwn r) where
  abbrev new : FlowNode → FlowNode
  new = with_immediate r

  alone_kept : (nodes : List FlowNode) (j : ℕ) (ss : List FlowSource) (c : FlowNode) → Alone nodes j ss c
      → Alone (map new nodes) j ss (new c)
  alone_kept nodes j ss c a = record {
    place = a.place;
    sources = a.sources;
    there = slice_get-map new nodes a.place ∙ ap (option_map new) a.there;
    apart = a.apart;
  }

  puts_kept : (c : FlowNode) (o : Op) → Puts c o → Puts (new c) o
  puts_kept c o p = record {
    op = p.op;
    guard = p.guard;
    imm = ap (r c.op) p.imm ∙ own c.op (pos 65535) (omega arith);
  }

  upper_own : (i : ℤ) → Upper i → IsOwn i
  upper_own i u = subst (λ (z : ℤ). IsOwn z) (sym u.is) (u.most)

  -- new immediates leave it
  pub ending_kept : (nodes : List FlowNode) (j : ℕ) (n m : FlowNode) → Ending nodes j n m
      → Ending (map new nodes) j (new n) (new m)
  ending_kept nodes j n m e =
      let c = e.chain in
      let same : r n.op n.imm ≡ n.imm = own n.op n.imm (upper_own n.imm e.upper) in
      record {
        app = e.app;
        upper = subst (λ (z : ℤ). Upper z) (sym same) e.upper;
        chain = record {
          first = new c.first;
          second = new c.second;
          third = new c.third;
          last = alone_kept nodes j n.left c.third c.last;
          middle = alone_kept nodes j c.third.left c.second c.middle;
          head = alone_kept nodes j c.second.left c.first c.head;
          begins = puts_kept c.first op.Genu c.begins;
          goes_on = puts_kept c.second op.App c.goes_on;
          ends = puts_kept c.third op.App c.ends;
        };
        is = ap new e.is
            ∙ (ap (λ (z : ℤ). record (negatives.as_negative n) { imm = z })
            (own op.Gens (n.imm -ℤ pos 65536) (negative_is n.imm e.upper).own)
            ∙ ap (λ (z : ℤ). record (negatives.as_negative n) { imm = z -ℤ pos 65536 }) (sym same));
      }
