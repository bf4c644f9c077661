-- A block with one node in the place of another: it stays complete and regular, and means the same.
use Rattle.std.proofs.Common.{◌≡◌, ◌≢◌, ℕ, ◌+◌, ◌<◌, List, ◌⊎◌, inl, inr, refl, sym, ap, subst, ◌∙◌}
use Rattle.std.proofs.Common.{arith, length, ◌≤◌, true, false}
use Rattle.std.specs.Prelude.{Some, None, Option, All, slice_get, slice_set}
use Rattle.std.proofs.lemmas.Bool.{cases_eq, or_cases}
use Rattle.std.proofs.lemmas.List.{length-set}
use Rattle.std.proofs.lemmas.Option.{same_Some}
use Rattle.trips_isa.specs.declared.block.Token.{Token}
use Rattle.trips_isa.specs.declared.block.Token.TheVariants.{Null}
use Rattle.trips_isa.specs.declared.block.Inst.{Inst}
use Rattle.trips_isa.specs.declared.block.Stored.{Stored}
use Rattle.trips_isa.specs.Forms.{form_of}
use Rattle.trips_isa.specs.Rule.{Answer}
use Rattle.ir_forms.specs.declared.flow.FlowSource.{FlowSource}
use Rattle.ir_forms.specs.declared.flow.FlowSource.TheVariants.{Read, Node}
use Rattle.ir_forms.specs.declared.flow.Guard.{Guard}
use Rattle.ir_forms.specs.declared.flow.FlowNode.{FlowNode}
use Rattle.ir_forms.specs.declared.flow.FlowBlock.{FlowBlock}
use Rattle.ir_forms.specs.inside.HyperRuns.{Layout}
use Rattle.ir_forms.specs.inside.FlowRuns.{Computes, OnPath, AtStart, Obeys, gives, meant, stores, guard_token}
use Rattle.ir_forms.specs.inside.FlowRuns.{tokens}
use Rattle.ir_forms.specs.inside.FlowRuns.{exits}
use Rattle.ir_forms.specs.inside.FlowFits.{FitsNode, FitsWrite, FitsFlowSource, FitsGuard, FitsFlow, IsComplete}
use Rattle.ir_forms.specs.inside.FlowFits.{HasOrder, Rises, AtMostOne, IsTidy, in_mask}
use Rattle.ir_forms.specs.inside.FlowRegular.{IsRegular, is_named, is_silent, nodes_name, writes_name}
use Rattle.hyper_narrow.specs.inside.NarrowedCode.{Narrowed}
use Rattle.hyper_narrow.specs.inside.NarrowedMeaning.{MeansNarrowed}
use Rattle.hyper_narrow.proofs.ActsAlike.{acts_on, equal_acts}
use Rattle.flow_fold.specs.inside.Folds.{with_node}
use Rattle.flow_fold.specs.inside.Replaces.{Stands, names_label}
use Rattle.flow_fold.proofs.Places.{all_at, all_of, set_here, set_there, set_origin}
use Rattle.flow_fold.proofs.Echoes.{echo, echoed, obeys_at, obeys_of}
use Rattle.flow_fold.proofs.Names.{false_unless, or_first, or_second, not_first, not_second, node_names}
use Rattle.flow_fold.proofs.Names.{named_at, namer}
use Rattle.flow_fold.proofs.Turned.{Written, Works, Does}
use Rattle.flow_fold.proofs.Placing.{Ordered, Placed, placed}
use Rattle.flow_fold.proofs.Tables.{stores_kept, memory_kept, fired_kept, exits_kept, tokens_kept}

-- what does what a node did does what can fault too
pub works_does : (f : FlowBlock) (j : ℕ) (n m : FlowNode) → slice_get f.nodes j ≡ Some n → Works f j n m → Does f j n m
works_does f j n m there w = record {
  path = w.path;
  tidy = w.tidy;
  outputs = w.outputs;
  stored = λ regs mem h o. (w.deeds regs mem h o).stored;
  acts = λ regs mem h o.
      equal_acts _ _ (fired_kept regs h n m (w.deeds regs mem h o).acts f.nodes j there);
  start = w.start;
}

-- each node may be put in its own place
itself : (f : FlowBlock) (j : ℕ) (n : FlowNode) → slice_get f.nodes j ≡ Some n → Placed f j n n
itself f j n e = record {
  fits = λ all x. x;
  orders = λ rank o. record { rank = rank; order = o; rises = o.sources j n e };
  load = λ l. (l, refl);
  store = λ l. (l, refl);
  silent = λ s. s;
  operands = λ t. t;
  guards = λ s. s;
  reads = λ r t. named_at (Read r) (slice_set f.nodes j n) j n (set_here f.nodes j n n e) t;
  names = λ y x d s t. named_at (Node y) f.nodes j n e t;
  label = λ t. record { place = j; node = n; there = e; op = refl; imm = refl };
}

module _ (f : FlowBlock) (j : ℕ) (n m : FlowNode) (there : slice_get f.nodes j ≡ Some n)
    (put : Placed f j n m) where
  abbrev g : FlowBlock
  g = with_node f j m

  -- the node that stood in a node's place
  record Before (y : ℕ) (x : FlowNode) : Type 0 where
    node : FlowNode
    is : slice_get f.nodes y ≡ Some node
    may : Placed f y node x

  before : (y : ℕ) (x : FlowNode) → slice_get g.nodes y ≡ Some x → Before y x
  before y x e = pick (set_origin f.nodes j y m x e)
    where
      pick : ((y ≡ j) × (m ≡ x)) ⊎ ((y ≢ j) × (slice_get f.nodes y ≡ Some x)) → Before y x
      pick (inl d) =
          subst (λ (z : FlowNode). Before y z) d.1
          (subst (λ (i : ℕ). Before i m) (sym d.0) (record { node = n; is = there; may = put }))
      pick (inr d) = record { node = x; is = d.1; may = itself f y x d.1 }

  long : length g.nodes ≡ length f.nodes
  long = length-set f.nodes j m

  source_fits : (s : FlowSource) → FitsFlowSource f s → FitsFlowSource g s
  source_fits (Read r) x = x
  source_fits (Node i) x = subst (λ (l : ℕ). i < l) (sym long) x

  sources_fit : (ss : List FlowSource) → All (FitsFlowSource f) ss → All (FitsFlowSource g) ss
  sources_fit ss a = all_of (FitsFlowSource g) ss (λ y s e. source_fits s (all_at (FitsFlowSource f) ss a y s e))

  guard_fits : (o : Option Guard) → FitsGuard f o → FitsGuard g o
  guard_fits None x = tt
  guard_fits (Some k) x = subst (λ (l : ℕ). k.node < l) (sym long) x

  node_fits : (x : FlowNode) → FitsNode f x → FitsNode g x
  node_fits x a = record {
    form = a.form;
    guard = guard_fits x.guard a.guard;
    left = sources_fit x.left a.left;
    right = sources_fit x.right a.right;
  }

  nodes_fit : All (FitsNode f) f.nodes → All (FitsNode g) g.nodes
  nodes_fit a = all_of (FitsNode g) g.nodes (λ y x e.
      let b = before y x e in
      node_fits x (b.may.fits a (all_at (FitsNode f) f.nodes a y b.node b.is)))

  writes_fit : All (FitsWrite f) f.writes → All (FitsWrite g) g.writes
  writes_fit a = all_of (FitsWrite g) f.writes (λ y w e.
      let b = all_at (FitsWrite f) f.writes a y w e in
      record { register = b.register; sources = sources_fit w.sources b.sources })

  order_kept : (w : Ordered f j m) → HasOrder g w.rank
  order_kept w = record {
    sources = λ y x e. at y x (set_origin f.nodes j y m x e);
    stores = λ a b x y ea eb fa fb l.
        let p = before a x ea in
        let q = before b y eb in
        let s = p.may.store fa in
        let t = q.may.load fb in
        w.order.stores a b p.node q.node p.is q.is s.0 t.0
        (subst (λ (z : ℕ). z < q.node.number) s.1 (subst (λ (z : ℕ). x.number < z) t.1 l));
  }
    where
      at : (y : ℕ) (x : FlowNode) → ((y ≡ j) × (m ≡ x)) ⊎ ((y ≢ j) × (slice_get f.nodes y ≡ Some x))
          → Rises w.rank (w.rank y) x
      at y x (inl d) =
          subst (λ (z : FlowNode). Rises w.rank (w.rank y) z) d.1
          (subst (λ (i : ℕ). Rises w.rank (w.rank i) m) (sym d.0) w.rises)
      at y x (inr d) = w.order.sources y x d.1

  -- each branch leads where it led
  pub labels_placed : (y : ℕ) (x : FlowNode) → slice_get g.nodes y ≡ Some x → names_label x.op ≡ true → Stands f x
  labels_placed y x e t = (before y x e).may.label t

  still_named : (r : ℕ) → is_named f (Read r) ≡ true → is_named g (Read r) ≡ true
  still_named r e = pick (or_cases (nodes_name (Read r) f.nodes) (writes_name (Read r) f.writes) e)
    where
      at : (y : ℕ) (x : FlowNode) → slice_get f.nodes y ≡ Some x → node_names (Read r) x ≡ true
          → (y ≡ j) ⊎ (y ≡ j → ⊥) → nodes_name (Read r) g.nodes ≡ true
      at y x s t (inl d) =
          let same : x ≡ n = same_Some x n (sym s ∙ (ap (λ (i : ℕ). slice_get f.nodes i) d ∙ there)) in
          put.reads r (subst (λ (z : FlowNode). node_names (Read r) z ≡ true) same t)
      at y x s t (inr d) = named_at (Read r) g.nodes y x (set_there f.nodes j y m d ∙ s) t

      pick : (nodes_name (Read r) f.nodes ≡ true) ⊎ (writes_name (Read r) f.writes ≡ true)
          → is_named g (Read r) ≡ true
      pick (inl t) =
          let w = namer (Read r) f.nodes t in
          or_first (nodes_name (Read r) g.nodes) (writes_name (Read r) f.writes)
          (at w.place w.node w.there w.names (cases_eq w.place j))
      pick (inr t) = or_second (nodes_name (Read r) g.nodes) (writes_name (Read r) f.writes) t

  still_unnamed : (i : ℕ) (x : FlowNode) → slice_get f.nodes i ≡ Some x → is_silent (form_of x.op) ≡ true
      → is_named f (Node i) ≡ false → is_named g (Node i) ≡ false
  still_unnamed i x s u e = false_unless (is_named g (Node i)) (λ t.
      pick (or_cases (nodes_name (Node i) g.nodes) (writes_name (Node i) f.writes) t))
    where
      pick : (nodes_name (Node i) g.nodes ≡ true) ⊎ (writes_name (Node i) f.writes ≡ true) → ⊥
      pick (inl t) =
          let w = namer (Node i) g.nodes t in
          not_first (nodes_name (Node i) f.nodes) (writes_name (Node i) f.writes) e
          ((before w.place w.node w.there).may.names i x s u w.names)
      pick (inr t) = not_second (nodes_name (Node i) f.nodes) (writes_name (Node i) f.writes) e t

  -- the block is still regular
  pub regular_placed : IsRegular f → IsRegular g
  regular_placed r = record {
    registers = r.registers;
    loads = λ a b x y ea eb fa fb s.
        let p = before a x ea in
        let q = before b y eb in
        let u = p.may.load fa in
        let v = q.may.load fb in
        r.loads a b p.node q.node p.is q.is u.0 v.0 (sym u.1 ∙ (s ∙ v.1));
    unmasked = λ y x e l.
        let p = before y x e in
        let u = p.may.load l in
        ap (in_mask f.mask) u.1 ∙ r.unmasked y p.node p.is u.0;
    masked = λ y x e l.
        let p = before y x e in
        let u = p.may.store l in
        ap (in_mask f.mask) u.1 ∙ r.masked y p.node p.is u.0;
    operands = λ y x e. let p = before y x e in p.may.operands (r.operands y p.node p.is);
    guards = λ y x k e d.
        let p = before y x e in p.may.guards (λ c u. r.guards y p.node c p.is u) k d;
    low = r.low;
    reads = r.reads;
    used = λ i k e. still_named k (r.used i k e);
    silent = λ y x e s.
        let p = before y x e in
        let u = p.may.silent s in
        still_unnamed y p.node p.is u (r.silent y p.node p.is u);
  }

  module _ (works : Does f j n m) where
    old_path : (regs : ℕ → ℕ) (c : Computes) (h : ℕ → Answer) → OnPath regs c h g → OnPath regs (echo h) h f
    old_path regs c h o =
        obeys_of regs (echo h) h 0 f.nodes (λ y x i q s. at y x i q s (cases_eq y j))
      where
        at : (y : ℕ) (x : FlowNode) (i : ℕ) → i ≡ 0 + y → slice_get f.nodes y ≡ Some x → (y ≡ j) ⊎ (y ≡ j → ⊥)
            → h i ≡ gives regs h (echo h i x) x
        at y x i q s (inl d) =
            let same : n ≡ x = same_Some n x (sym there ∙ (ap (λ (k : ℕ). slice_get f.nodes k) (sym d) ∙ s)) in
            let w = works.path regs c h o in
            let k : j ≡ i = omega (arith, q, d) in
            subst (λ (z : ℕ). h z ≡ gives regs h (echo h z x) x) k
            (subst (λ (z : FlowNode). h j ≡ gives regs h (echo h j z) z) same
            (echoed regs h (h j) w.computes n w.is))
        at y x i q s (inr d) =
            echoed regs h (h i) (c i x) x (obeys_at regs c h 0 g.nodes o y x i q (set_there f.nodes j y m d ∙ s))

    tidy_kept : (regs : ℕ → ℕ) (c : Computes) (h : ℕ → Answer) → OnPath regs c h g → IsTidy regs h f
        → IsTidy regs h g
    tidy_kept regs c h o t = record {
      clear = all_of (λ x. guard_token h x.guard ≢ Some Null) g.nodes
          (λ y x e. clear y x (set_origin f.nodes j y m x e));
      operands = all_of (AtMostOne regs h) g.nodes (λ y x e. operands y x (set_origin f.nodes j y m x e));
    }
      where
        clear : (y : ℕ) (x : FlowNode) → ((y ≡ j) × (m ≡ x)) ⊎ ((y ≢ j) × (slice_get f.nodes y ≡ Some x))
            → guard_token h x.guard ≢ Some Null
        clear y x (inl d) = subst (λ (z : FlowNode). guard_token h z.guard ≢ Some Null) d.1
            (works.tidy regs c h o t).clear
        clear y x (inr d) = all_at (λ z. guard_token h z.guard ≢ Some Null) f.nodes t.clear y x d.1

        operands : (y : ℕ) (x : FlowNode) → ((y ≡ j) × (m ≡ x)) ⊎ ((y ≢ j) × (slice_get f.nodes y ≡ Some x))
            → AtMostOne regs h x
        operands y x (inl d) = subst (λ (z : FlowNode). AtMostOne regs h z) d.1 (works.tidy regs c h o t).operands
        operands y x (inr d) = all_at (AtMostOne regs h) f.nodes t.operands y x d.1

    same_tokens : (h : ℕ → Answer) (k : ℕ) → tokens h 0 g.nodes k ≡ tokens h 0 f.nodes k
    same_tokens h k = tokens_kept h n m f.nodes 0 j j (omega arith) (works.outputs h) there k

    same_exits : (h : ℕ → Answer) → exits h 0 g.nodes ≡ exits h 0 f.nodes
    same_exits h = exits_kept h n m f.nodes 0 j j (omega arith) (works.outputs h) there

    -- the block still fits
    fits_kept : FitsFlow f → FitsFlow g
    fits_kept fits = record {
      nodes = nodes_fit fits.nodes;
      writes = writes_fit fits.writes;
      mask = fits.mask;
      order = let w = put.orders fits.order.0 fits.order.1 in (w.rank, order_kept w);
      tidy = λ regs c h o. tidy_kept regs c h o (fits.tidy regs (echo h) h (old_path regs c h o));
      one = λ regs c h o.
          let t = fits.one regs (echo h) h (old_path regs c h o) in
          record {
            writes = t.writes;
            numbers = λ k. subst (λ (i : ℕ). i ≤ 1) (sym (same_tokens h k)) (t.numbers k);
            exits = ap (λ (l : List (Inst × Token)). length l) (same_exits h) ∙ t.exits;
          };
    }

    -- the block is still complete
    pub complete_placed : IsComplete f → IsComplete g
    complete_placed c = record {
      fits = fits_kept c.fits;
      all = λ regs a h o.
          let t = c.all regs (echo h) h (old_path regs a h o) in
          record { writes = t.writes; numbers = λ k. same_tokens h k ∙ t.numbers k };
    }

    old_start : (regs : ℕ → ℕ) (mem : List ℕ) (h : ℕ → Answer) → AtStart regs mem h g → AtStart regs mem h f
    old_start regs mem h o =
        let e = stores_kept regs h n m (works.stored regs mem h o) f.nodes j there in
        subst (λ (s : ℕ → Option Stored). Obeys regs (meant s mem) h 0 f.nodes) e
        (obeys_of regs (meant (stores regs h g.nodes) mem) h 0 f.nodes (λ y x i q s. at y x i q s (cases_eq y j)))
      where
        at : (y : ℕ) (x : FlowNode) (i : ℕ) → i ≡ 0 + y → slice_get f.nodes y ≡ Some x → (y ≡ j) ⊎ (y ≡ j → ⊥)
            → h i ≡ gives regs h (meant (stores regs h g.nodes) mem i x) x
        at y x i q s (inl d) =
            let same : n ≡ x = same_Some n x (sym there ∙ (ap (λ (k : ℕ). slice_get f.nodes k) (sym d) ∙ s)) in
            let k : j ≡ i = omega (arith, q, d) in
            subst (λ (z : ℕ). h z ≡ gives regs h (meant (stores regs h g.nodes) mem z x) x) k
            (subst (λ (z : FlowNode). h j ≡ gives regs h (meant (stores regs h g.nodes) mem j z) z) same
            (works.start regs mem h o))
        at y x i q s (inr d) =
            obeys_at regs (meant (stores regs h g.nodes) mem) h 0 g.nodes o y x i q
            (set_there f.nodes j y m d ∙ s)

    -- the block still means what it meant
    pub means_placed : (at : Layout) (b : Narrowed) → MeansNarrowed at b f → MeansNarrowed at b g
    means_placed at b means machine h words o =
        let c = means machine h words (old_start machine.registers machine.memory h o) in
        let d = works.stored machine.registers machine.memory h o in
        record {
          registers = c.registers;
          memory = memory_kept machine.registers h n m d f.nodes j there machine.memory ∙ c.memory;
          exit = record { branch = c.exit.branch; only = same_exits h ∙ c.exit.only; is = c.exit.is };
          acts = acts_on _ _ _ (works.acts machine.registers machine.memory h o) c.acts;
        }

-- THE SAME OF A NODE THAT MAY BE WRITTEN THERE

module _ (f : FlowBlock) (j : ℕ) (n m : FlowNode) (there : slice_get f.nodes j ≡ Some n)
    (written : Written f j n m) where
  put_there : Placed f j n m
  put_there = placed f j n m there written

  pub labels_kept : (y : ℕ) (x : FlowNode) → slice_get (with_node f j m).nodes y ≡ Some x → names_label x.op ≡ true
      → Stands f x
  labels_kept = labels_placed f j n m there put_there

  pub regular_kept : IsRegular f → IsRegular (with_node f j m)
  regular_kept = regular_placed f j n m there put_there

  pub complete_kept : Works f j n m → IsComplete f → IsComplete (with_node f j m)
  complete_kept w = complete_placed f j n m there put_there (works_does f j n m there w)

  pub means_kept : Works f j n m → (at : Layout) (b : Narrowed) → MeansNarrowed at b f
      → MeansNarrowed at b (with_node f j m)
  means_kept w = means_placed f j n m there put_there (works_does f j n m there w)
