-- Where the nodes that stay stood, and what names them.
use Rattle.std.proofs.Common.{◌≡◌, ◌≢◌, ℕ, zero, suc, ◌+◌, ◌-◌, ◌<◌, ◌≤◌, List, [], ◌∷◌, ◌⊎◌, inl, inr, refl}
use Rattle.std.proofs.Common.{sym, ap, ap₂}
use Rattle.std.proofs.Common.{subst, ◌∙◌, arith, length, cond, nat_eq, nat_lt, Bool, true, false, ◌||◌, map}
use Rattle.std.specs.Prelude.{Some, None, Option, slice_get}
use Rattle.std.proofs.lemmas.Bool.{cases_lt, lt-ltb, le-ltb, eqb-true, eqb-false, ne_eqb, eq-eqb}
use Rattle.std.proofs.lemmas.Option.{same_Some}
use Rattle.ir_forms.specs.declared.flow.FlowSource.{FlowSource}
use Rattle.ir_forms.specs.declared.flow.FlowSource.TheVariants.{Read, Node}
use Rattle.ir_forms.specs.declared.flow.Guard.{Guard}
use Rattle.ir_forms.specs.declared.flow.FlowNode.{FlowNode}
use Rattle.ir_forms.specs.declared.flow.FlowWrite.{FlowWrite}
use Rattle.ir_forms.specs.inside.FlowRegular.{same_source, is_among, guards_by, nodes_name, writes_name}
use Rattle.flow_fold.specs.inside.Sweeps.{lower, lower_source, lower_guard, lower_node, lower_write, left_nodes}
use Rattle.flow_fold.proofs.Names.{node_names}
use Rattle.flow_fold.proofs.Lowered.{Spares, neither, lower_below, lower_same, lower_next, lower_apart}

-- an item of a list whose items are changed each stood there before
pub record Mapped {A B : Type 0} (v : A → B) (xs : List A) (y : ℕ) (x : B) : Type 0 where
  pub item : A
  pub there : slice_get xs y ≡ Some item
  pub is : v item ≡ x

-- it did
pub map_origin : {A B : Type 0} (v : A → B) (xs : List A) (y : ℕ) (x : B) → slice_get (map v xs) y ≡ Some x
    → Mapped v xs y x
map_origin v [] y x e = absurd (cc)
map_origin v (a ∷ xs) zero x e = record { item = a; there = refl; is = same_Some (v a) x e }
map_origin v (a ∷ xs) (suc y) x e =
    let w = map_origin v xs y x e in record { item = w.item; there = w.there; is = w.is }

-- a source of a list that does not have another is not this other
pub among_at : (s : FlowSource) (ss : List FlowSource) (y : ℕ) (x : FlowSource) → is_among s ss ≡ false
    → slice_get ss y ≡ Some x → same_source s x ≡ false
among_at s [] y x e t = absurd (cc)
among_at s (a ∷ ss) zero x e t =
    ap (same_source s) (sym (same_Some a x t)) ∙ (neither (same_source s a) (is_among s ss) e).0
among_at s (a ∷ ss) (suc y) x e t = among_at s ss y x (neither (same_source s a) (is_among s ss) e).1 t

-- nodes that do not name node k each spare it
pub spares_at : (k : ℕ) (ns : List FlowNode) (y : ℕ) (n : FlowNode) → nodes_name (Node k) ns ≡ false
    → slice_get ns y ≡ Some n → Spares k n
spares_at k [] y n e t = absurd (cc)
spares_at k (m ∷ ns) zero n e t =
    let a = neither (is_among (Node k) m.left) _ e in
    let b = neither (is_among (Node k) m.right) _ a.1 in
    let c = neither (guards_by (Node k) m.guard) _ b.1 in
    subst (λ (x : FlowNode). Spares k x) (same_Some m n t) (record { left = a.0; right = b.0; guard = c.0 })
spares_at k (m ∷ ns) (suc y) n e t =
    let a = neither (is_among (Node k) m.left) _ e in
    let b = neither (is_among (Node k) m.right) _ a.1 in
    let c = neither (guards_by (Node k) m.guard) _ b.1 in
    spares_at k ns y n c.1 t

-- and so do writes
pub write_spares : (k : ℕ) (ws : List FlowWrite) (y : ℕ) (w : FlowWrite) → writes_name (Node k) ws ≡ false
    → slice_get ws y ≡ Some w → is_among (Node k) w.sources ≡ false
write_spares k [] y w e t = absurd (cc)
write_spares k (v ∷ ws) zero w e t =
    ap (λ (x : FlowWrite). is_among (Node k) x.sources) (sym (same_Some v w t))
    ∙ (neither (is_among (Node k) v.sources) (writes_name (Node k) ws) e).0
write_spares k (v ∷ ws) (suc y) w e t =
    write_spares k ws y w (neither (is_among (Node k) v.sources) (writes_name (Node k) ws) e).1 t

module _ (k : ℕ) where
  -- node x of those that stay, at place y, was another before, where the first had number j
  pub record From (j : ℕ) (ns : List FlowNode) (y : ℕ) (x : FlowNode) : Type 0 where
    pub place : ℕ
    pub node : FlowNode
    pub there : slice_get ns place ≡ Some node
    pub apart : j + place ≢ k
    pub number : lower k (j + place) ≡ lower k j + y
    pub is : lower_node k node ≡ x

  -- each was
  pub left_origin : (j : ℕ) (ns : List FlowNode) (y : ℕ) (x : FlowNode) → slice_get (left_nodes k j ns) y ≡ Some x
      → From j ns y x
  left_origin j [] y x e = absurd (cc)
  left_origin j (n ∷ ns) y x e = go (λ z d. left_origin (suc j) ns z x d) (nat_eq j k) refl y e
    where
      go : ((z : ℕ) → slice_get (left_nodes k (suc j) ns) z ≡ Some x → From (suc j) ns z x) → (b : Bool)
          → nat_eq j k ≡ b → (y : ℕ)
          → slice_get (cond b (left_nodes k (suc j) ns) (lower_node k n ∷ left_nodes k (suc j) ns)) y ≡ Some x
          → From j (n ∷ ns) y x
      go again true q y e =
          let w = again y e in
          let d : j + suc w.place ≡ suc j + w.place = omega arith in
          record {
            place = suc w.place;
            node = w.node;
            there = w.there;
            apart = λ z. w.apart (sym d ∙ z);
            number = ap (lower k) d ∙ (w.number ∙ ap (λ (i : ℕ). i + y) (lower_same k j q));
            is = w.is;
          }
      go again false q zero e =
          let d : j + 0 ≡ j = omega arith in
          let z : lower k j ≡ lower k j + 0 = omega arith in
          record {
            place = 0;
            node = n;
            there = refl;
            apart = λ u. eqb-false j k q (sym d ∙ u);
            number = ap (lower k) d ∙ z;
            is = same_Some (lower_node k n) x e;
          }
      go again false q (suc y) e =
          let w = again y e in
          let d : j + suc w.place ≡ suc j + w.place = omega arith in
          let z : suc (lower k j) + y ≡ lower k j + suc y = omega arith in
          record {
            place = suc w.place;
            node = w.node;
            there = w.there;
            apart = λ u. w.apart (sym d ∙ u);
            number = ap (lower k) d ∙ (w.number ∙ (ap (λ (i : ℕ). i + y) (lower_next k j q) ∙ z));
            is = w.is;
          }

  -- behind the node that goes all stay
  pub long_behind : (j : ℕ) (ns : List FlowNode) → k < j → length (left_nodes k j ns) ≡ length ns
  long_behind j [] l = refl
  long_behind j (n ∷ ns) l =
      let r = long_behind (suc j) ns (omega (arith, l)) in
      ap (λ (b : Bool). length (cond b (left_nodes k (suc j) ns) (lower_node k n ∷ left_nodes k (suc j) ns)))
      (ne_eqb j k (λ e. absurd (omega (arith, l, e))))
      ∙ ap (λ (i : ℕ). suc i) r

  -- one node goes
  pub long_left : (j : ℕ) (ns : List FlowNode) → j ≤ k → k < j + length ns
      → suc (length (left_nodes k j ns)) ≡ length ns
  long_left j [] l g = absurd (omega (arith, l, g))
  long_left j (n ∷ ns) l g = go (λ x y. long_left (suc j) ns x y) (nat_eq j k) refl
    where
      go : (suc j ≤ k → k < suc j + length ns → suc (length (left_nodes k (suc j) ns)) ≡ length ns) → (b : Bool)
          → nat_eq j k ≡ b
          → suc (length (cond b (left_nodes k (suc j) ns) (lower_node k n ∷ left_nodes k (suc j) ns)))
          ≡ suc (length ns)
      go again true q = let s = eqb-true j k q in ap (λ (i : ℕ). suc i) (long_behind (suc j) ns (omega (arith, s)))
      go again false q =
          let d = eqb-false j k q in
          ap (λ (i : ℕ). suc i) (again (omega (arith, l, d)) (omega (arith, g)))

  -- NAMES

  module _ (p : ℕ) (apart : p ≢ k) where
    -- a source names node p by its new number only where it named it
    same_low : (s : FlowSource) → same_source (Node k) s ≡ false
        → same_source (Node (lower k p)) (lower_source k s) ≡ same_source (Node p) s
    same_low (Read r) e = refl
    same_low (Node i) e = go (nat_eq p i) refl
      where
        go : (b : Bool) → nat_eq p i ≡ b → nat_eq (lower k p) (lower k i) ≡ b
        go true q = eq-eqb (lower k p) (lower k i) (ap (lower k) (eqb-true p i q))
        go false q = ne_eqb (lower k p) (lower k i) (λ z.
            eqb-false p i q (lower_apart k p i apart (λ u. eqb-false k i e (sym u)) z))

    -- so an operand does
    pub among_low : (ss : List FlowSource) → is_among (Node k) ss ≡ false
        → is_among (Node (lower k p)) (map (lower_source k) ss) ≡ is_among (Node p) ss
    among_low [] e = refl
    among_low (s ∷ ss) e =
        let w = neither (same_source (Node k) s) (is_among (Node k) ss) e in
        ap₂ (λ (a b : Bool). a || b) (same_low s w.0) (among_low ss w.1)

    guards_low : (o : Option Guard) → guards_by (Node k) o ≡ false
        → guards_by (Node (lower k p)) (lower_guard k o) ≡ guards_by (Node p) o
    guards_low None e = refl
    guards_low (Some g) e = same_low (Node g.node) e

    -- and a node
    pub names_low : (n : FlowNode) → Spares k n
        → node_names (Node (lower k p)) (lower_node k n) ≡ node_names (Node p) n
    names_low n s =
        ap₂ (λ (a b : Bool). a || b) (among_low n.left s.left)
        (ap₂ (λ (a b : Bool). a || b) (among_low n.right s.right) (guards_low n.guard s.guard))

    -- and the writes
    pub writes_low : (ws : List FlowWrite) → writes_name (Node k) ws ≡ false
        → writes_name (Node (lower k p)) (map (lower_write k) ws) ≡ writes_name (Node p) ws
    writes_low [] e = refl
    writes_low (w ∷ ws) e =
        let z = neither (is_among (Node k) w.sources) (writes_name (Node k) ws) e in
        ap₂ (λ (a b : Bool). a || b) (among_low w.sources z.0) (writes_low ws z.1)

  -- RANKS

  -- the number that a node had
  abbrev pub higher : ℕ → ℕ
  higher i = cond (nat_lt i k) i (suc i)

  -- it is found again
  pub higher_low : (p : ℕ) → p ≢ k → higher (lower k p) ≡ p
  higher_low p a = go (cases_lt p k)
    where
      go : (p < k) ⊎ (k ≤ p) → higher (lower k p) ≡ p
      go (inl l) =
          let e = lower_below k p (omega (arith, l)) in
          ap higher e ∙ ap (λ (b : Bool). cond b p (suc p)) (lt-ltb p k l)
      go (inr l) =
          let e = lower_above_of l in
          ap higher e ∙ (ap (λ (b : Bool). cond b (p - 1) (suc (p - 1))) (le-ltb (p - 1) k (omega (arith, l, a)))
          ∙ omega (arith, l, a))
        where
          lower_above_of : k ≤ p → lower k p ≡ p - 1
          lower_above_of l = ap (λ (b : Bool). cond b (p - 1) p) (lt-ltb k p (omega (arith, l, a)))
