-- A block whose writes take what copies copy may stand for the block.
use Rattle.std.proofs.Common.{◌≡◌, ℕ, ◌≤◌, List, [], ◌∷◌, ◌⊎◌, inl, inr, refl, sym, ap, ap₂, subst, ◌∙◌}
use Rattle.std.proofs.Common.{cond, nat_eq, Bool, true, false, map, length}
use Rattle.std.specs.Prelude.{Some, None, Option, All}
use Rattle.std.proofs.Math.Path.{fun_ext}
use Rattle.std.proofs.lemmas.Bool.{or_cases}
use Rattle.std.proofs.lemmas.List.{length-map}
use Rattle.trips_isa.specs.Rule.{Answer}
use Rattle.ir_forms.specs.declared.flow.FlowSource.{FlowSource}
use Rattle.ir_forms.specs.declared.flow.FlowSource.TheVariants.{Read, Node}
use Rattle.ir_forms.specs.declared.flow.Guard.{Guard}
use Rattle.ir_forms.specs.declared.flow.FlowNode.{FlowNode}
use Rattle.ir_forms.specs.declared.flow.FlowWrite.{FlowWrite}
use Rattle.ir_forms.specs.declared.flow.FlowBlock.{FlowBlock}
use Rattle.ir_forms.specs.inside.HyperRuns.{Layout}
use Rattle.ir_forms.specs.inside.FlowRuns.{Computes, Obeys, count, written, word_or}
use Rattle.ir_forms.specs.inside.FlowFits.{FitsNode, FitsWrite, FitsFlowSource, FitsGuard, FitsFlow, IsComplete}
use Rattle.ir_forms.specs.inside.FlowFits.{AtMostOne}
use Rattle.ir_forms.specs.inside.FlowRegular.{IsRegular, is_named, is_among, nodes_name, writes_name}
use Rattle.hyper_narrow.specs.inside.NarrowedCode.{Narrowed}
use Rattle.hyper_narrow.specs.inside.NarrowedMeaning.{MeansNarrowed}
use Rattle.flow_fold.specs.inside.Draws.{all_behind, drawn_write, drawn}
use Rattle.flow_fold.specs.inside.Replaces.{Immediates, with_immediate, with_immediates, Replaces}
use Rattle.flow_fold.proofs.Places.{all_at, all_of}
use Rattle.flow_fold.proofs.Names.{false_unless, or_first, or_second, not_first, not_second}
use Rattle.flow_fold.proofs.StandingBehind.{first_behind, count_behind, among_read, among_node, all_behind_hold}
use Rattle.flow_fold.proofs.StandingBehind.{all_behind_new}
use Rattle.flow_fold.proofs.Left.{map_origin}

-- what stands behind some sources of a write
abbrev behind_all : List FlowNode → List Bool → List FlowSource → List FlowSource
behind_all nodes marks ss = all_behind nodes marks (length nodes) ss

-- IN THE TABLES

module _ (nodes : List FlowNode) (marks : List Bool) (regs : ℕ → ℕ) (a : Computes) (h : ℕ → Answer)
    (obeys : Obeys regs a h 0 nodes) where
  written_drawn : (ws : List FlowWrite) (r : ℕ)
      → written regs h (map (drawn_write nodes marks) ws) r ≡ written regs h ws r
  written_drawn [] r = refl
  written_drawn (w ∷ ws) r = ap₂ (λ (x : Answer) (y : ℕ). cond (nat_eq r w.register) (word_or x (regs r)) y)
      (first_behind nodes nodes (length nodes) (λ k n d e. e) regs a h obeys marks w.sources) (written_drawn ws r)

  counts_drawn : All (AtMostOne regs h) nodes → (P : ℕ → Type 0) (ws : List FlowWrite)
      → All (λ (w : FlowWrite). P (count regs h w.sources)) ws
      → All (λ (w : FlowWrite). P (count regs h w.sources)) (map (drawn_write nodes marks) ws)
  counts_drawn tidy P ws t = all_of (λ (w : FlowWrite). P (count regs h w.sources)) (map (drawn_write nodes marks) ws)
      (λ y w e.
      let o = map_origin (drawn_write nodes marks) ws y w e in
      subst (λ (z : FlowWrite). P (count regs h z.sources)) o.is
      (subst P (sym (count_behind nodes nodes (length nodes) (λ k n d e. e) regs a h obeys tidy marks o.item.sources))
      (all_at (λ (z : FlowWrite). P (count regs h z.sources)) ws t y o.item o.there)))

-- IN THE BLOCK

write_read : (nodes : List FlowNode) (marks : List Bool) (r : ℕ) (ws : List FlowWrite) → writes_name (Read r) ws ≡ true
    → writes_name (Read r) (map (drawn_write nodes marks) ws) ≡ true
write_read nodes marks r [] e = absurd (cc)
write_read nodes marks r (w ∷ ws) e =
    pick (λ d. write_read nodes marks r ws d) (or_cases (is_among (Read r) w.sources) (writes_name (Read r) ws) e)
  where
    pick : (writes_name (Read r) ws ≡ true → writes_name (Read r) (map (drawn_write nodes marks) ws) ≡ true)
        → (is_among (Read r) w.sources ≡ true) ⊎ (writes_name (Read r) ws ≡ true)
        → writes_name (Read r) (map (drawn_write nodes marks) (w ∷ ws)) ≡ true
    pick after (inl d) = or_first (is_among (Read r) (behind_all nodes marks w.sources))
        (writes_name (Read r) (map (drawn_write nodes marks) ws)) (among_read nodes marks (length nodes) r w.sources d)
    pick after (inr d) = or_second (is_among (Read r) (behind_all nodes marks w.sources))
        (writes_name (Read r) (map (drawn_write nodes marks) ws)) (after d)

write_node : (nodes : List FlowNode) (marks : List Bool) (j : ℕ) (ws : List FlowWrite)
    → writes_name (Node j) (map (drawn_write nodes marks) ws) ≡ true
    → (writes_name (Node j) ws ≡ true) ⊎ (nodes_name (Node j) nodes ≡ true)
write_node nodes marks j [] e = absurd (cc)
write_node nodes marks j (w ∷ ws) e =
    pick (λ d. write_node nodes marks j ws d) (or_cases (is_among (Node j) (behind_all nodes marks w.sources))
    (writes_name (Node j) (map (drawn_write nodes marks) ws)) e)
  where
    here : (is_among (Node j) w.sources ≡ true) ⊎ (nodes_name (Node j) nodes ≡ true)
        → (writes_name (Node j) (w ∷ ws) ≡ true) ⊎ (nodes_name (Node j) nodes ≡ true)
    here (inl d) = inl (or_first (is_among (Node j) w.sources) (writes_name (Node j) ws) d)
    here (inr d) = inr d

    later : (writes_name (Node j) ws ≡ true) ⊎ (nodes_name (Node j) nodes ≡ true)
        → (writes_name (Node j) (w ∷ ws) ≡ true) ⊎ (nodes_name (Node j) nodes ≡ true)
    later (inl d) = inl (or_second (is_among (Node j) w.sources) (writes_name (Node j) ws) d)
    later (inr d) = inr d

    pick : (writes_name (Node j) (map (drawn_write nodes marks) ws) ≡ true
        → (writes_name (Node j) ws ≡ true) ⊎ (nodes_name (Node j) nodes ≡ true))
        → (is_among (Node j) (behind_all nodes marks w.sources) ≡ true)
        ⊎ (writes_name (Node j) (map (drawn_write nodes marks) ws) ≡ true)
        → (writes_name (Node j) (w ∷ ws) ≡ true) ⊎ (nodes_name (Node j) nodes ≡ true)
    pick after (inl d) = here (among_node nodes marks (length nodes) j w.sources d)
    pick after (inr d) = later (after d)

module _ (marks : List Bool) (f : FlowBlock) where
  source_fits : (s : FlowSource) → FitsFlowSource f s → FitsFlowSource (drawn marks f) s
  source_fits (Read r) x = x
  source_fits (Node i) x = x

  sources_fit : (ss : List FlowSource) → All (FitsFlowSource f) ss → All (FitsFlowSource (drawn marks f)) ss
  sources_fit ss a = all_of (FitsFlowSource (drawn marks f)) ss
      (λ y s e. source_fits s (all_at (FitsFlowSource f) ss a y s e))

  guard_fits : (o : Option Guard) → FitsGuard f o → FitsGuard (drawn marks f) o
  guard_fits None x = tt
  guard_fits (Some g) x = x

  nodes_fit : All (FitsNode f) f.nodes → All (FitsNode (drawn marks f)) f.nodes
  nodes_fit a = all_of (FitsNode (drawn marks f)) f.nodes (λ y n e.
      let x = all_at (FitsNode f) f.nodes a y n e in
      record {
        form = x.form;
        guard = guard_fits n.guard x.guard;
        left = sources_fit n.left x.left;
        right = sources_fit n.right x.right;
      })

  writes_fit : All (FitsNode f) f.nodes → All (FitsWrite f) f.writes
      → All (FitsWrite (drawn marks f)) (drawn marks f).writes
  writes_fit a b = all_of (FitsWrite (drawn marks f)) (drawn marks f).writes (λ y w e.
      let o = map_origin (drawn_write f.nodes marks) f.writes y w e in
      let x = all_at (FitsWrite f) f.writes b y o.item o.there in
      subst (FitsWrite (drawn marks f)) o.is
      (record {
        register = x.register;
        sources = sources_fit (behind_all f.nodes marks o.item.sources)
            (all_behind_hold (FitsFlowSource f) f.nodes marks (length f.nodes)
            (λ k n d t s q p. (all_at (FitsNode f) f.nodes a k n t).left) o.item.sources x.sources);
      }))

  fits_drawn : FitsFlow f → FitsFlow (drawn marks f)
  fits_drawn x = record {
    nodes = nodes_fit x.nodes;
    writes = writes_fit x.nodes x.writes;
    mask = x.mask;
    order = (x.order.0, record { sources = x.order.1.sources; stores = x.order.1.stores });
    tidy = λ regs c h o.
        let t = x.tidy regs c h o in
        record { clear = t.clear; operands = t.operands };
    one = λ regs c h o.
        let t = x.one regs c h o in
        record {
          writes = counts_drawn f.nodes marks regs c h o (x.tidy regs c h o).operands (λ (i : ℕ). i ≤ 1) f.writes
              t.writes;
          numbers = t.numbers;
          exits = t.exits;
        };
  }

  complete_drawn : IsComplete f → IsComplete (drawn marks f)
  complete_drawn x = record {
    fits = fits_drawn x.fits;
    all = λ regs c h o.
        let t = x.all regs c h o in
        record {
          writes = counts_drawn f.nodes marks regs c h o (x.fits.tidy regs c h o).operands (λ (i : ℕ). i ≡ 1)
              f.writes t.writes;
          numbers = t.numbers;
        };
  }

  regular_drawn : IsRegular f → IsRegular (drawn marks f)
  regular_drawn r = record {
    registers = λ i j v w ei ej e.
        let a = map_origin (drawn_write f.nodes marks) f.writes i v ei in
        let b = map_origin (drawn_write f.nodes marks) f.writes j w ej in
        r.registers i j a.item b.item a.there b.there
        (ap (λ (z : FlowWrite). z.register) a.is ∙ (e ∙ sym (ap (λ (z : FlowWrite). z.register) b.is)));
    loads = r.loads;
    unmasked = r.unmasked;
    masked = r.masked;
    operands = r.operands;
    guards = r.guards;
    low = r.low;
    reads = r.reads;
    used = λ i x e. used_after x
        (or_cases (nodes_name (Read x) f.nodes) (writes_name (Read x) f.writes) (r.used i x e));
    silent = λ j n e s. silent_after j (r.silent j n e s);
  }
    where
      used_after : (x : ℕ) → (nodes_name (Read x) f.nodes ≡ true) ⊎ (writes_name (Read x) f.writes ≡ true)
          → is_named (drawn marks f) (Read x) ≡ true
      used_after x (inl d) = or_first (nodes_name (Read x) f.nodes) (writes_name (Read x) (drawn marks f).writes) d
      used_after x (inr d) = or_second (nodes_name (Read x) f.nodes) (writes_name (Read x) (drawn marks f).writes)
          (write_read f.nodes marks x f.writes d)

      silent_after : (j : ℕ) → is_named f (Node j) ≡ false → is_named (drawn marks f) (Node j) ≡ false
      silent_after j e = false_unless (is_named (drawn marks f) (Node j)) (λ t.
          pick (or_cases (nodes_name (Node j) f.nodes) (writes_name (Node j) (drawn marks f).writes) t))
        where
          no_node : nodes_name (Node j) f.nodes ≡ true → ⊥
          no_node = not_first (nodes_name (Node j) f.nodes) (writes_name (Node j) f.writes) e

          by_write : (writes_name (Node j) f.writes ≡ true) ⊎ (nodes_name (Node j) f.nodes ≡ true) → ⊥
          by_write (inl d) = not_second (nodes_name (Node j) f.nodes) (writes_name (Node j) f.writes) e d
          by_write (inr d) = no_node d

          pick : (nodes_name (Node j) f.nodes ≡ true) ⊎ (writes_name (Node j) (drawn marks f).writes ≡ true) → ⊥
          pick (inl d) = no_node d
          pick (inr d) = by_write (write_node f.nodes marks j f.writes d)

  means_drawn : (at : Layout) (b : Narrowed) → MeansNarrowed at b f → MeansNarrowed at b (drawn marks f)
  means_drawn at b means m h words o =
      let c = means m h words o in
      record {
        registers = λ r. written_drawn f.nodes marks m.registers _ h o f.writes r ∙ c.registers r;
        memory = c.memory;
        exit = c.exit;
        acts = c.acts;
      }

-- WHATEVER THE LABELS BECOME

drawn_new : (r : Immediates) (marks : List Bool) (f : FlowBlock)
    → drawn marks (with_immediates r f) ≡ with_immediates r (drawn marks f)
drawn_new r marks f = ap (λ (v : List FlowSource → List FlowSource). record (with_immediates r f) {
  writes = map (λ (w : FlowWrite). record w { sources = v w.sources }) f.writes;
}) (fun_ext (λ (ss : List FlowSource).
    ap (λ (k : ℕ). all_behind (map (with_immediate r) f.nodes) marks k ss) (length-map f.nodes (with_immediate r))
    ∙ all_behind_new r f.nodes marks (length f.nodes) ss))

-- a block whose writes take what copies copy may stand for the block
pub drawing_stands : (marks : List Bool) (f : FlowBlock) → Replaces f (drawn marks f)
drawing_stands marks f = record {
  regular = λ r own t. regular_drawn marks f t.regular;
  complete = λ r own t. subst IsComplete (drawn_new r marks f)
      (complete_drawn marks (with_immediates r f) t.complete);
  means = λ r own t at b x. subst (MeansNarrowed at b) (drawn_new r marks f)
      (means_drawn marks (with_immediates r f) at b x);
  labels = λ y n e t. record { place = y; node = n; there = e; op = refl; imm = refl };
}
