-- The nodes that stay where a node goes that nothing names: in the block as it is written.
use Rattle.std.proofs.Common.{◌≡◌, ◌≢◌, ℕ, zero, suc, ◌+◌, ◌<◌, ◌≤◌, List, [], ◌∷◌, ◌⊎◌, inl, inr, refl, sym}
use Rattle.std.proofs.Common.{ap, subst, ◌∙◌}
use Rattle.std.proofs.Common.{arith, length, true, false, map}
use Rattle.std.specs.Prelude.{Some, None, Option, All, slice_get}
use Rattle.std.proofs.lemmas.Bool.{cases_lt, or_cases, and_parts, eqb-true, eqb-false}
use Rattle.std.proofs.lemmas.Option.{same_Some, slice_get_within}
use Rattle.trips_isa.specs.declared.op.Op.{Op}
use Rattle.trips_isa.specs.declared.op.Op.TheVariants as op
use Rattle.trips_isa.specs.declared.form.Form.{Form}
use Rattle.trips_isa.specs.declared.form.Form.TheVariants as form
use Rattle.trips_isa.specs.declared.form.Form.TheVariants.{Load, Store}
use Rattle.trips_isa.specs.declared.block.Sense.TheVariants.{Always}
use Rattle.trips_isa.specs.Faults.{divides}
use Rattle.trips_isa.specs.Forms.{form_of}
use Rattle.ir_forms.specs.declared.flow.FlowSource.{FlowSource}
use Rattle.ir_forms.specs.declared.flow.FlowSource.TheVariants.{Read, Node}
use Rattle.ir_forms.specs.declared.flow.Guard.{Guard}
use Rattle.ir_forms.specs.declared.flow.FlowNode.{FlowNode}
use Rattle.ir_forms.specs.declared.flow.FlowWrite.{FlowWrite}
use Rattle.ir_forms.specs.declared.flow.FlowBlock.{FlowBlock}
use Rattle.ir_forms.specs.inside.FlowFits.{FitsNode, FitsNodeForm, FitsWrite, FitsFlowSource, FitsGuard}
use Rattle.ir_forms.specs.inside.FlowFits.{HasOrder, Rises, RisesFrom, RisesFromGuard}
use Rattle.ir_forms.specs.inside.FlowFits.{in_mask}
use Rattle.ir_forms.specs.inside.FlowRegular.{IsRegular, TakesOnly, is_named, is_among, guards_by, nodes_name}
use Rattle.ir_forms.specs.inside.FlowRegular.{writes_name}
use Rattle.ir_forms.specs.inside.FlowRegular.{is_silent, same_source}
use Rattle.flow_fold.specs.inside.Sweeps.{lower, lower_source, lower_guard, lower_node, lower_write}
use Rattle.flow_fold.specs.inside.Sweeps.{without}
use Rattle.flow_fold.specs.inside.Sweeps.{is_idle, takes_all}
use Rattle.flow_fold.proofs.Places.{all_at, all_of}
use Rattle.flow_fold.proofs.Names.{false_unless, not_first, not_second, node_names, named_at, namer}
use Rattle.flow_fold.proofs.Lowered.{Spares, neither, lower_below, lower_above}
use Rattle.flow_fold.proofs.Swept.{Ready}
use Rattle.flow_fold.proofs.Left.{map_origin, among_at, spares_at, write_spares, left_origin, long_left}
use Rattle.flow_fold.proofs.Left.{names_low, writes_low, higher, higher_low}

-- an idle operation does not divide
pub calm_if_idle : (o : Op) → is_idle o ≡ true → divides o ≡ false
calm_if_idle op.Divs e = absurd (cc)
calm_if_idle op.Divu e = absurd (cc)
calm_if_idle _ e = refl

module _ (f : FlowBlock) (k : ℕ) (gone : FlowNode) (there : slice_get f.nodes k ≡ Some gone)
    (idle : is_idle gone.op ≡ true) (unnamed : is_named f (Node k) ≡ false) where
  abbrev g : FlowBlock
  g = without k f

  -- the node that goes does not divide
  pub calm : divides gone.op ≡ false
  calm = calm_if_idle gone.op idle

  -- no node names it
  pub nodes_spare : nodes_name (Node k) f.nodes ≡ false
  nodes_spare = (neither (nodes_name (Node k) f.nodes) (writes_name (Node k) f.writes) unnamed).0

  -- no write names it
  pub writes_spare : writes_name (Node k) f.writes ≡ false
  writes_spare = (neither (nodes_name (Node k) f.nodes) (writes_name (Node k) f.writes) unnamed).1

  ready_from : (ns : List FlowNode) (j : ℕ) → nodes_name (Node k) ns ≡ false
      → ((y : ℕ) (n : FlowNode) → slice_get ns y ≡ Some n → j + y ≡ k → gone ≡ n) → Ready k gone idle calm j ns
  ready_from [] j e s = tt
  ready_from (n ∷ ns) j e s =
      let a = neither (is_among (Node k) n.left) _ e in
      let b = neither (is_among (Node k) n.right) _ a.1 in
      let c = neither (guards_by (Node k) n.guard) _ b.1 in (
        (
          record { left = a.0; right = b.0; guard = c.0 },
          λ q. s zero n refl (let z = eqb-true j k q in omega (arith, z)),
        ),
        ready_from ns (suc j) c.1 (λ y m t z. s (suc y) m t (omega (arith, z))),
      )

  -- the nodes with the one that goes
  pub ready : Ready k gone idle calm 0 f.nodes
  ready = ready_from f.nodes 0 nodes_spare
      (λ y n t z.
      let d : k ≡ y = omega (arith, z) in
      same_Some gone n (sym there ∙ (ap (λ (i : ℕ). slice_get f.nodes i) d ∙ t)))

  -- the node that stood in a node's place
  pub record Before (y : ℕ) (x : FlowNode) : Type 0 where
    pub place : ℕ
    pub node : FlowNode
    pub is : slice_get f.nodes place ≡ Some node
    pub apart : place ≢ k
    pub number : lower k place ≡ y
    pub same : lower_node k node ≡ x
    pub spares : Spares k node

  -- there was one
  pub before : (y : ℕ) (x : FlowNode) → slice_get g.nodes y ≡ Some x → Before y x
  before y x e =
      let w = left_origin k 0 f.nodes y x e in
      let z = lower_below k 0 (omega arith) in
      let d : 0 + w.place ≡ w.place = omega arith in
      let u : 0 + y ≡ y = omega arith in
      record {
        place = w.place;
        node = w.node;
        is = w.there;
        apart = λ e. w.apart (d ∙ e);
        number = ap (lower k) (sym d) ∙ (w.number ∙ (ap (λ (i : ℕ). i + y) z ∙ u));
        same = w.is;
        spares = spares_at k f.nodes w.place w.node nodes_spare w.there;
      }

  -- what holds of each node by its new numbers holds of those that stay
  pub each : (P : ℕ → FlowNode → Type 0)
      → ((p : ℕ) (n : FlowNode) → slice_get f.nodes p ≡ Some n → p ≢ k → Spares k n → P (lower k p) (lower_node k n))
      → (y : ℕ) (x : FlowNode) → slice_get g.nodes y ≡ Some x → P y x
  each P q y x e =
      let b = before y x e in
      subst (λ (i : ℕ). P i x) b.number
      (subst (λ (z : FlowNode). P (lower k b.place) z) b.same (q b.place b.node b.is b.apart b.spares))

  -- FIELDS

  long : suc (length g.nodes) ≡ length f.nodes
  long = long_left k 0 f.nodes (omega arith) (let l = slice_get_within f.nodes k gone there in omega (arith, l))

  below : (i : ℕ) → i < length f.nodes → i ≢ k → lower k i < length g.nodes
  below i l d = go (cases_lt k i)
    where
      go : (k < i) ⊎ (i ≤ k) → lower k i < length g.nodes
      go (inl a) = let e = lower_above k i a in let z = long in omega (arith, e, l, z, a)
      go (inr a) =
          let e = lower_below k i a in
          let z = long in
          let m = slice_get_within f.nodes k gone there in
          omega (arith, e, z, m, a, d)

  source_fits : (s : FlowSource) → same_source (Node k) s ≡ false → FitsFlowSource f s
      → FitsFlowSource g (lower_source k s)
  source_fits (Read r) e x = x
  source_fits (Node i) e x = below i x (λ d. eqb-false k i e (sym d))

  sources_fit : (ss : List FlowSource) → is_among (Node k) ss ≡ false → All (FitsFlowSource f) ss
      → All (FitsFlowSource g) (map (lower_source k) ss)
  sources_fit ss e a = all_of (FitsFlowSource g) (map (lower_source k) ss) (λ y s t.
      let w = map_origin (lower_source k) ss y s t in
      subst (λ (z : FlowSource). FitsFlowSource g z) w.is
      (source_fits w.item (among_at (Node k) ss y w.item e w.there)
      (all_at (FitsFlowSource f) ss a y w.item w.there)))

  guard_fits : (o : Option Guard) → guards_by (Node k) o ≡ false → FitsGuard f o → FitsGuard g (lower_guard k o)
  guard_fits None e x = tt
  guard_fits (Some c) e x = below c.node x (λ d. eqb-false k c.node e (sym d))

  form_fits : (n : FlowNode) → FitsNodeForm (form_of n.op) n → FitsNodeForm (form_of n.op) (lower_node k n)
  form_fits n a = at_form (form_of n.op) n.guard refl a
    where
      at_form : (x : Form) (o : Option Guard) → n.guard ≡ o → FitsNodeForm x n → FitsNodeForm x (lower_node k n)
      at_form form.General o e a = a
      at_form form.Immediate o e a = a
      at_form form.Load o e a = a
      at_form form.Store o e a = a
      at_form form.Branch o e a = a
      at_form form.Constant o e a = (a.0, a.1, ap (lower_guard k) a.2)

  node_fits : (n : FlowNode) → Spares k n → FitsNode f n → FitsNode g (lower_node k n)
  node_fits n s a = record {
    form = form_fits n a.form;
    guard = guard_fits n.guard s.guard a.guard;
    left = sources_fit n.left s.left a.left;
    right = sources_fit n.right s.right a.right;
  }

  -- the nodes that stay fit
  pub nodes_fit : All (FitsNode f) f.nodes → All (FitsNode g) g.nodes
  nodes_fit a = all_of (FitsNode g) g.nodes
      (each (λ y x. FitsNode g x) (λ p n t d s. node_fits n s (all_at (FitsNode f) f.nodes a p n t)))

  -- what holds of each write by its new numbers
  pub each_write : (P : FlowWrite → Type 0)
      → ((y : ℕ) (w : FlowWrite) → slice_get f.writes y ≡ Some w → is_among (Node k) w.sources ≡ false
      → P (lower_write k w))
      → All P g.writes
  each_write P q = all_of P g.writes (λ y v t.
      let w = map_origin (lower_write k) f.writes y v t in
      subst P w.is (q y w.item w.there (write_spares k f.writes y w.item writes_spare w.there)))

  -- and so do the writes
  pub writes_fit : All (FitsWrite f) f.writes → All (FitsWrite g) g.writes
  writes_fit a = each_write (FitsWrite g) (λ y w t e.
      let b = all_at (FitsWrite f) f.writes a y w t in
      record { register = b.register; sources = sources_fit w.sources e b.sources })

  -- ORDER

  module _ (rank : ℕ → ℕ) where
    -- the rank that a node had
    abbrev pub ranked : ℕ → ℕ
    ranked i = rank (higher k i)

    rank_kept : (p : ℕ) → p ≢ k → ranked (lower k p) ≡ rank p
    rank_kept p d = ap rank (higher_low k p d)

    source_rises : (c : ℕ) (s : FlowSource) → same_source (Node k) s ≡ false → RisesFrom rank c s
        → RisesFrom ranked c (lower_source k s)
    source_rises c (Read r) e x = tt
    source_rises c (Node i) e x = subst (λ (z : ℕ). z < c) (sym (rank_kept i (λ d. eqb-false k i e (sym d)))) x

    sources_rise : (c : ℕ) (ss : List FlowSource) → is_among (Node k) ss ≡ false → All (RisesFrom rank c) ss
        → All (RisesFrom ranked c) (map (lower_source k) ss)
    sources_rise c ss e a = all_of (RisesFrom ranked c) (map (lower_source k) ss) (λ y s t.
        let w = map_origin (lower_source k) ss y s t in
        subst (λ (z : FlowSource). RisesFrom ranked c z) w.is
        (source_rises c w.item (among_at (Node k) ss y w.item e w.there)
        (all_at (RisesFrom rank c) ss a y w.item w.there)))

    guard_rises : (c : ℕ) (o : Option Guard) → guards_by (Node k) o ≡ false → RisesFromGuard rank c o
        → RisesFromGuard ranked c (lower_guard k o)
    guard_rises c None e x = tt
    guard_rises c (Some d) e x =
        subst (λ (z : ℕ). z < c) (sym (rank_kept d.node (λ u. eqb-false k d.node e (sym u)))) x

    node_rises : (p : ℕ) (n : FlowNode) → p ≢ k → Spares k n → Rises rank (rank p) n
        → Rises ranked (ranked (lower k p)) (lower_node k n)
    node_rises p n d s a =
        subst (λ (c : ℕ). Rises ranked c (lower_node k n)) (sym (rank_kept p d))
        (record {
          left = sources_rise (rank p) n.left s.left a.left;
          right = sources_rise (rank p) n.right s.right a.right;
          guard = guard_rises (rank p) n.guard s.guard a.guard;
        })

    -- the ranks still rise
    pub order_kept : HasOrder f rank → HasOrder g ranked
    order_kept o = record {
      sources = each (λ y x. Rises ranked (ranked y) x) (λ p n t d s. node_rises p n d s (o.sources p n t));
      stores = λ a b x y ea eb fa fb l.
          let u = before a x ea in
          let v = before b y eb in
          let fu : form_of u.node.op ≡ Store = ap (λ (z : FlowNode). form_of z.op) u.same ∙ fa in
          let fv : form_of v.node.op ≡ Load = ap (λ (z : FlowNode). form_of z.op) v.same ∙ fb in
          let nu : u.node.number ≡ x.number = ap (λ (z : FlowNode). z.number) u.same in
          let nv : v.node.number ≡ y.number = ap (λ (z : FlowNode). z.number) v.same in
          let r = o.stores u.place v.place u.node v.node u.is v.is fu fv (omega (arith, l, nu, nv)) in
          let ru : ranked a ≡ rank u.place = ap ranked (sym u.number) ∙ rank_kept u.place u.apart in
          let rv : ranked b ≡ rank v.place = ap ranked (sym v.number) ∙ rank_kept v.place v.apart in
          omega (arith, r, ru, rv);
    }

  -- REGULARITY

  guard_sense : (o : Option Guard) → ((b : Guard) → o ≡ Some b → b.sense ≢ Always) → (c : Guard)
      → lower_guard k o ≡ Some c → c.sense ≢ Always
  guard_sense None q c e = absurd (cc)
  guard_sense (Some b) q c e = subst (λ (z : Guard). z.sense ≢ Always) (same_Some _ c e) (q b refl)

  takes_at : (rs : List ℕ) (i r : ℕ) → takes_all g rs ≡ true → slice_get rs i ≡ Some r
      → is_named g (Read r) ≡ true
  takes_at [] i r t e = absurd (cc)
  takes_at (x ∷ rs) zero r t e =
      ap (λ (z : ℕ). is_named g (Read z)) (sym (same_Some x r e))
      ∙ (and_parts (is_named g (Read x)) (takes_all g rs) t).0
  takes_at (x ∷ rs) (suc i) r t e = takes_at rs i r (and_parts (is_named g (Read x)) (takes_all g rs) t).1 e

  still_unnamed : (p : ℕ) → p ≢ k → is_named f (Node p) ≡ false → is_named g (Node (lower k p)) ≡ false
  still_unnamed p d e = false_unless (is_named g (Node (lower k p))) (λ t.
      pick (or_cases (nodes_name (Node (lower k p)) g.nodes) (writes_name (Node (lower k p)) g.writes) t))
    where
      pick : (nodes_name (Node (lower k p)) g.nodes ≡ true) ⊎ (writes_name (Node (lower k p)) g.writes ≡ true) → ⊥
      pick (inl t) =
          let w = namer (Node (lower k p)) g.nodes t in
          let b = before w.place w.node w.there in
          not_first (nodes_name (Node p) f.nodes) (writes_name (Node p) f.writes) e
          (named_at (Node p) f.nodes b.place b.node b.is
          (sym (names_low k p d b.node b.spares)
          ∙ (ap (λ (z : FlowNode). node_names (Node (lower k p)) z) b.same ∙ w.names)))
      pick (inr t) =
          not_second (nodes_name (Node p) f.nodes) (writes_name (Node p) f.writes) e
          (sym (writes_low k p d f.writes writes_spare) ∙ t)

  -- the block is still regular
  pub regular_kept : IsRegular f → takes_all g f.reads ≡ true → IsRegular g
  regular_kept r taken = record {
    registers = λ i j v w ei ej e.
        let a = map_origin (lower_write k) f.writes i v ei in
        let b = map_origin (lower_write k) f.writes j w ej in
        r.registers i j a.item b.item a.there b.there
        (ap (λ (z : FlowWrite). z.register) a.is ∙ (e ∙ sym (ap (λ (z : FlowWrite). z.register) b.is)));
    loads = λ a b x y ea eb fa fb e.
        let u = before a x ea in
        let v = before b y eb in
        let same = r.loads u.place v.place u.node v.node u.is v.is
        (ap (λ (z : FlowNode). form_of z.op) u.same ∙ fa) (ap (λ (z : FlowNode). form_of z.op) v.same ∙ fb)
        (ap (λ (z : FlowNode). z.number) u.same ∙ (e ∙ sym (ap (λ (z : FlowNode). z.number) v.same))) in
        sym u.number ∙ (ap (lower k) same ∙ v.number);
    unmasked = each (λ y x. form_of x.op ≡ Load → in_mask f.mask x.number ≡ false)
        (λ p n e d s. r.unmasked p n e);
    masked = each (λ y x. form_of x.op ≡ Store → in_mask f.mask x.number ≡ true) (λ p n e d s. r.masked p n e);
    operands = each (λ y x. TakesOnly x)
        (λ p n e d s.
        let t = r.operands p n e in
        record {
          left = λ q. ap (map (lower_source k)) (t.left q);
          right = λ q. ap (map (lower_source k)) (t.right q);
        });
    guards = λ y x c e q.
        each (λ i z. (b : Guard) → z.guard ≡ Some b → b.sense ≢ Always)
        (λ p n t d s. guard_sense n.guard (λ b z. r.guards p n b t z)) y x e c q;
    low = r.low;
    reads = r.reads;
    used = λ i x e. takes_at f.reads i x taken e;
    silent = each (λ y x. is_silent (form_of x.op) ≡ true → is_named g (Node y) ≡ false)
        (λ p n e d s q. still_unnamed p d (r.silent p n e q));
  }
