-- A completed block has an order, and its fields fit.
use Rattle.std.proofs.Common.{◌≡◌, ℕ, zero, suc, ◌+◌, ◌<◌, ◌≤◌, List, ◌∷◌, []}
use Rattle.std.proofs.Common.{length, refl, sym, subst, arith, cond}
use Rattle.std.proofs.Common.{Bool, true, false}
use Rattle.std.specs.Prelude.{Option, Some, None, slice_get, All}
use Rattle.std.proofs.lemmas.List.Elements.{All-head, All-tail, All-nil, All-cons, All-append}
use Rattle.std.proofs.lemmas.Option.{slice_get_within}
use Rattle.trips_isa.specs.declared.form.Form.TheVariants as form
use Rattle.ir_forms.specs.declared.flow.FlowSource.{FlowSource}
use Rattle.ir_forms.specs.declared.flow.FlowSource.TheVariants.{Read, Node}
use Rattle.ir_forms.specs.declared.flow.Guard.{Guard}
use Rattle.ir_forms.specs.declared.flow.FlowNode.{FlowNode}
use Rattle.ir_forms.specs.declared.flow.FlowWrite.{FlowWrite}
use Rattle.ir_forms.specs.declared.flow.FlowBlock.{FlowBlock}
use Rattle.ir_forms.specs.inside.FlowFits.{FitsFlowSource, FitsNode, FitsGuard, FitsWrite, RisesFrom}
use Rattle.ir_forms.specs.inside.FlowFits.{RisesFromGuard, HasOrder}
use Rattle.null_outputs.proofs.Oracles.{EachWanted, Closed}
use Rattle.null_outputs.specs.inside.Completed.{trues, falses, lefts, rights, writes_at, places, cover}
use Rattle.null_outputs.specs.inside.Completed.{write_part, write_size, filled, filled_all, numbers_at}
use Rattle.null_outputs.specs.inside.Completed.{all_numbers}
use Rattle.null_outputs.specs.inside.Completed.{writes_region, trues_region, falses_region, lefts_region}
use Rattle.null_outputs.specs.inside.Completed.{rights_region, added, completed}
use Rattle.null_outputs.specs.inside.Covers.{Want, copy_under, both_under}
use Rattle.null_outputs.specs.inside.Covers.{left_open, right_open, Cover, Sure}
use Rattle.null_outputs.specs.inside.Covers.{list_top, list_nodes}
use Rattle.null_outputs.specs.inside.Groups.{left_needed, right_needed, guard_group, is_used}
use Rattle.null_outputs.specs.inside.Groups.{guard_part, guard_part_size, left_part, left_size, right_part}
use Rattle.null_outputs.specs.inside.Groups.{right_size, region, stores_of}
use Rattle.null_outputs.proofs.Spaces.{guard_part_length, left_length, right_length}
use Rattle.null_outputs.proofs.Covers.{all_from, both_true, used_wants, all_at, within}
use Rattle.null_outputs.proofs.Outputs.{write_length, stores_fit}
use Rattle.null_outputs.proofs.Walks.{Each, each_append, each_front, each_back, each_at, each_of, spread_end}
use Rattle.null_outputs.proofs.Walks.{spread_all}
use Rattle.null_outputs.proofs.Ranks.{scaled, scaled_le, list_ranks, group_ranks, width}
use Rattle.null_outputs.proofs.Ranks.{step, base_of, guard_ranks, left_ranks, right_ranks, top_rank}
use Rattle.null_outputs.proofs.Ranks.{write_ranks}
use Rattle.null_outputs.proofs.Ranks.{all_number_ranks}
use Rattle.null_outputs.proofs.Ranks.{writes_ranks, rank_in}
use Rattle.null_outputs.proofs.Ranks.{write_fits}
use Rattle.null_outputs.proofs.RankPlaces.{at_writes, at_numbers, true_stands, false_stands, left_stands}
use Rattle.null_outputs.proofs.RankPlaces.{right_stands, write_stands}
use Rattle.null_outputs.proofs.RankPlaces
use Rattle.null_outputs.proofs.CoverOrder.{widest_at, plain_ok, cover_weaker, group_ok}
use Rattle.null_outputs.proofs.CoverOrder
use Rattle.null_outputs.proofs.NumberOrder

module _ (sure : Sure) (want : Want) (b : FlowBlock) (rank : ℕ → ℕ) where
  abbrev total : ℕ
  total = length (completed sure want b).nodes

  -- a node's number and rank
  abbrev Stands : (p r : ℕ) → Type 0
  Stands = RankPlaces.Stands sure want b rank

  abbrev c : Cover
  c = cover sure want b

  abbrev at_ : ℕ → ℕ
  at_ = rank_in sure want b rank

  abbrev base : ℕ → ℕ
  base = base_of sure want b rank

  abbrev w : ℕ
  w = width sure want b rank

  abbrev EachAt : ℕ → List FlowSource → Type 0
  EachAt = RankPlaces.EachAt sure want b rank

  abbrev GuardAt : ℕ → Option Guard → Type 0
  GuardAt = RankPlaces.GuardAt sure want b rank

  abbrev weaker : (i j : ℕ) → i ≤ j → (ss : List FlowSource) → EachAt i ss → EachAt j ss
  weaker = RankPlaces.weaker sure want b rank

  abbrev old_stands : (y : ℕ) (n : FlowNode) → slice_get b.nodes y ≡ Some n → Stands y (base y)
  old_stands = RankPlaces.old_stands sure want b rank

  abbrev NodeOk : (p : ℕ) → (n : FlowNode) → Type 0
  NodeOk = CoverOrder.NodeOk sure want b rank

  abbrev EachCover : ℕ → List FlowSource → Type 0
  EachCover = CoverOrder.EachCover sure want b rank

  abbrev list_ok : (lim p : ℕ) (ss : List FlowSource) → EachCover lim ss → Each Stands p (list_ranks lim ss)
      → Each NodeOk p (list_nodes c p ss)
  list_ok = CoverOrder.list_ok sure want b rank

  abbrev list_at : (lim p : ℕ) (ss : List FlowSource) → EachCover lim ss → Each Stands p (list_ranks lim ss)
      → EachAt (lim + suc (length ss)) (list_top c p ss)
  list_at = CoverOrder.list_at sure want b rank

  abbrev when_true : {X : Type 0} (Q : ℕ → X → Type 0) (t : Bool) (p : ℕ) (ns : List X) → Each Q p (cond t ns [])
      → t ≡ true → Each Q p ns
  when_true = CoverOrder.when_true sure want b rank

  abbrev each_if : (t : Bool) (p : ℕ) (ns : List FlowNode) → (t ≡ true → Each NodeOk p ns)
      → Each NodeOk p (cond t ns [])
  each_if = CoverOrder.each_if sure want b rank

  module _ (ord : HasOrder b rank) (fitn : All (FitsNode b) b.nodes) (closed : Closed sure want b) where
    abbrev old_within : (j : ℕ) → j < length b.nodes → j < total
    old_within = CoverOrder.old_within sure want b rank ord fitn closed

    abbrev old_sources : (i : ℕ) (ss : List FlowSource) → All (FitsFlowSource b) ss → All (RisesFrom rank i) ss
        → EachAt (suc (scaled (step sure want b rank) i)) ss
    old_sources = CoverOrder.old_sources sure want b rank ord fitn closed

    abbrev old_guard : (i : ℕ) (g : Option Guard) → FitsGuard b g → RisesFromGuard rank i g
        → GuardAt (suc (scaled (step sure want b rank) i)) g
    old_guard = CoverOrder.old_guard sure want b rank ord fitn closed

    -- the cover of a node
    abbrev node_at : (y : ℕ) (n : FlowNode) → slice_get b.nodes y ≡ Some n → want y ≡ true
        → EachAt (base y + w) (c (Node y))
    node_at = CoverOrder.node_at sure want b rank ord fitn closed

    abbrev cover_sources : (i : ℕ) (ss : List FlowSource) → All (FitsFlowSource b) ss → All (RisesFrom rank i) ss
        → EachWanted want ss → EachCover (scaled (step sure want b rank) i + w) ss
    cover_sources = CoverOrder.cover_sources sure want b rank ord fitn closed

    abbrev all_numbers_ok : (p : ℕ) → Each Stands p (all_number_ranks sure want b rank)
        → ((q : ℕ) → All (FitsFlowSource b) (stores_of 0 b.nodes q)) → p ≡ numbers_at sure want b
        → Each NodeOk p (all_numbers sure want b)
    all_numbers_ok = NumberOrder.all_numbers_ok sure want b rank ord fitn closed

    -- GROUPS

    old_ok : (y : ℕ) (n : FlowNode) → slice_get b.nodes y ≡ Some n → NodeOk y n
    old_ok y n e =
        let fit = all_at (FitsNode b) b.nodes fitn y n e in
        let rise = ord.sources y n e in
        let s = old_stands y n e in
        let up : suc (scaled (step sure want b rank) (rank y)) ≤ at_ y = let d = s.is in omega (arith, d) in
        record {
          fields = fit.form;
          left = weaker _ (at_ y) up n.left (old_sources (rank y) n.left fit.left rise.left);
          right = weaker _ (at_ y) up n.right (old_sources (rank y) n.right fit.right rise.right);
          guard = guard_weaker (at_ y) up n.guard (old_guard (rank y) n.guard fit.guard rise.guard);
          stores = λ es j m em el lt.
              let r = ord.stores y j n m e em es el lt in
              let l = scaled_le (step sure want b rank) (suc (rank y)) (rank j) (omega (arith, r)) in
              let d = s.is in
              omega (arith, l, d);
          loads = λ el. e;
        }
      where
        guard_weaker : (j : ℕ) → suc (scaled (step sure want b rank) (rank y)) ≤ j → (g : Option Guard)
            → GuardAt (suc (scaled (step sure want b rank) (rank y))) g → GuardAt j g
        guard_weaker j l None x = tt
        guard_weaker j l (Some g) x = let z = x.1 in (x.0, omega (arith, z, l))

    guard_ok : (s : Bool) (p y : ℕ) (n : FlowNode) → slice_get b.nodes y ≡ Some n
        → Each Stands p (guard_ranks sure want b rank s p y n) → Each NodeOk p (guard_part want b.nodes c s p y n)
    guard_ok s p y n e x =
        let d = (old_stands y n e).is in
        let l = widest_at b.nodes y n e in
        each_if (is_used want 0 b.nodes s y) p (guard_group p s y (c (Node y)))
        (λ u.
        group_ok sure want b rank (base y + w) p y s (c (Node y))
        (old_within y (slice_get_within b.nodes y n e), omega (arith, d, l))
        (node_at y n e (used_wants sure want b closed s y u))
        (when_true Stands (is_used want 0 b.nodes s y) p (group_ranks (base y + w) (c (Node y))) x u))

    left_ok : (p y : ℕ) (n : FlowNode) → slice_get b.nodes y ≡ Some n
        → Each Stands p (left_ranks sure want b rank p y n) → Each NodeOk p (left_part sure want c p y n)
    left_ok p y n e x =
        let fit = all_at (FitsNode b) b.nodes fitn y n e in
        let rise = ord.sources y n e in
        let g = guard_up (base y + suc (length n.left)) (omega arith) n.guard
        (old_guard (rank y) n.guard fit.guard rise.guard) in
        each_if (left_needed sure want y n) p _
        (λ u.
        let v = both_true (want y) (left_open sure n) u in
        let k = cover_weaker sure want b rank (scaled (step sure want b rank) (rank y) + w) (base y) (omega arith)
        n.left
        (cover_sources (rank y) n.left fit.left rise.left (closed.left y n e v.0 v.1)) in
        let z = when_true Stands (left_needed sure want y n) p _ x u in (
          plain_ok sure want b rank p (base y + suc (length n.left)) n.guard (list_top c (suc p) n.left) [] z.0 g
              (list_at (base y) (suc p) n.left k z.1) tt
              (copy_under n.guard (list_top c (suc p) n.left)) refl refl refl (refl, refl) refl,
          list_ok (base y) (suc p) n.left k z.1,
        ))
      where
        guard_up : (j : ℕ) → suc (scaled (step sure want b rank) (rank y)) ≤ j → (g : Option Guard)
            → GuardAt (suc (scaled (step sure want b rank) (rank y))) g → GuardAt j g
        guard_up j l None x = tt
        guard_up j l (Some g) x = let z = x.1 in (x.0, omega (arith, z, l))

    right_ok : (p y : ℕ) (n : FlowNode) → slice_get b.nodes y ≡ Some n
        → Each Stands p (right_ranks sure want b rank p y n) → Each NodeOk p (right_part sure want c p y n)
    right_ok p y n e x =
        let fit = all_at (FitsNode b) b.nodes fitn y n e in
        let rise = ord.sources y n e in
        let g = guard_up (base y + suc (length n.right)) (omega arith) n.guard
        (old_guard (rank y) n.guard fit.guard rise.guard) in
        let l = weaker (suc (scaled (step sure want b rank) (rank y))) (base y + suc (length n.right))
        (omega arith) n.left (old_sources (rank y) n.left fit.left rise.left) in
        each_if (right_needed sure want y n) p _
        (λ u.
        let v = both_true (want y) (right_open sure n) u in
        let k = cover_weaker sure want b rank (scaled (step sure want b rank) (rank y) + w) (base y) (omega arith)
        n.right
        (cover_sources (rank y) n.right fit.right rise.right (closed.right y n e v.0 v.1)) in
        let z = when_true Stands (right_needed sure want y n) p _ x u in (
          plain_ok sure want b rank p (base y + suc (length n.right)) n.guard n.left (list_top c (suc p) n.right) z.0
              g l
              (list_at (base y) (suc p) n.right k z.1)
              (both_under n.guard n.left (list_top c (suc p) n.right)) refl refl refl (refl, refl) refl,
          list_ok (base y) (suc p) n.right k z.1,
        ))
      where
        guard_up : (j : ℕ) → suc (scaled (step sure want b rank) (rank y)) ≤ j → (g : Option Guard)
            → GuardAt (suc (scaled (step sure want b rank) (rank y))) g → GuardAt j g
        guard_up j l None x = tt
        guard_up j l (Some g) x = let z = x.1 in (x.0, omega (arith, z, l))

    -- WRITES

    top_has : (j : ℕ) (ns : List FlowNode) (y : ℕ) (n : FlowNode) (i : ℕ) → i ≡ j + y → slice_get ns y ≡ Some n
        → base i + w ≤ top_rank sure want b rank j ns
    top_has j [] y n i e s = absurd (cc)
    top_has j (m ∷ ns) zero n i e s =
        let d : i ≡ j = omega (arith, e) in
        subst (λ (z : ℕ). base z + w ≤ top_rank sure want b rank j (m ∷ ns)) (sym d) (omega arith)
    top_has j (m ∷ ns) (suc y) n i e s = let r = top_has (suc j) ns y n i (omega (arith, e)) s in omega (arith, r)

    cover_top : (ss : List FlowSource) → All (FitsFlowSource b) ss → EachWanted want ss
        → EachCover (top_rank sure want b rank 0 b.nodes) ss
    cover_top [] fit v = tt
    cover_top (Read r ∷ ss) fit v = (tt, cover_top ss (All-tail (FitsFlowSource b) (Read r) ss fit) v)
    cover_top (Node j ∷ ss) fit v =
        let x = within b.nodes j (All-head (FitsFlowSource b) (Node j) ss fit) in (
          weaker (base j + w) (top_rank sure want b rank 0 b.nodes)
              (top_has 0 b.nodes j x.0 j (omega arith) x.1) (c (Node j)) (node_at j x.0 x.1 v.0),
          cover_top ss (All-tail (FitsFlowSource b) (Node j) ss fit) v.1,
        )

    abbrev WriteWanted : FlowWrite → Type 0
    WriteWanted x = sure None x.sources ≡ false → EachWanted want x.sources

    write_ok : (p j : ℕ) (x : FlowWrite) → FitsWrite b x → WriteWanted x
        → Each Stands p (write_ranks sure want b rank p j x) → Each NodeOk p (write_part sure want b p j x)
    write_ok p j x fit v s = go (sure None x.sources) v s
      where
        go : (t : Bool) → (t ≡ false → EachWanted want x.sources)
            → Each Stands p (cond t [] (list_ranks (top_rank sure want b rank 0 b.nodes) x.sources))
            → Each NodeOk p (cond t [] (list_nodes c p x.sources))
        go true v s = tt
        go false v s = list_ok (top_rank sure want b rank 0 b.nodes) p x.sources
            (cover_top x.sources fit.sources (v refl)) s

    each_fits : (lim : ℕ) (ss : List FlowSource) → EachAt lim ss → All (FitsFlowSource (completed sure want b)) ss
    each_fits lim [] x = All-nil (FitsFlowSource (completed sure want b))
    each_fits lim (s ∷ ss) x = All-cons (FitsFlowSource (completed sure want b)) s ss x.0.0 (each_fits lim ss x.1)

    each_rises : (lim : ℕ) (ss : List FlowSource) → EachAt lim ss → All (RisesFrom at_ lim) ss
    each_rises lim [] x = All-nil (RisesFrom at_ lim)
    each_rises lim (s ∷ ss) x = All-cons (RisesFrom at_ lim) s ss x.0.1 (each_rises lim ss x.1)

    old_fits : (ss : List FlowSource) → All (FitsFlowSource b) ss → All (FitsFlowSource (completed sure want b)) ss
    old_fits [] fit = All-nil (FitsFlowSource (completed sure want b))
    old_fits (s ∷ ss) fit = All-cons (FitsFlowSource (completed sure want b)) s ss
        (one s (All-head (FitsFlowSource b) s ss fit)) (old_fits ss (All-tail (FitsFlowSource b) s ss fit))
      where
        one : (s : FlowSource) → FitsFlowSource b s → FitsFlowSource (completed sure want b) s
        one (Read r) fit = fit
        one (Node j) fit = old_within j fit

    filled_fits : (p j : ℕ) (x : FlowWrite) → FitsWrite b x → WriteWanted x
        → Each Stands p (write_ranks sure want b rank p j x)
        → FitsWrite (completed sure want b) (filled sure want b p x)
    filled_fits p j x fit v s = record {
      register = fit.register;
      sources = All-append (FitsFlowSource (completed sure want b)) x.sources _ (old_fits x.sources fit.sources)
          (go (sure None x.sources) v s);
    }
      where
        go : (t : Bool) → (t ≡ false → EachWanted want x.sources)
            → Each Stands p (cond t [] (list_ranks (top_rank sure want b rank 0 b.nodes) x.sources))
            → All (FitsFlowSource (completed sure want b)) (cond t [] (list_top c p x.sources))
        go true v s = All-nil (FitsFlowSource (completed sure want b))
        go false v s = each_fits _ (list_top c p x.sources)
            (list_at (top_rank sure want b rank 0 b.nodes) p x.sources
            (cover_top x.sources fit.sources (v refl)) s)

    all_filled_fit : (p j : ℕ) (xs : List FlowWrite) → All (FitsWrite b) xs → All WriteWanted xs
        → Each Stands p (region (write_ranks sure want b rank) (write_size sure want b) p j xs)
        → All (FitsWrite (completed sure want b)) (filled_all sure want b p j xs)
    all_filled_fit p j [] fit v s = All-nil (FitsWrite (completed sure want b))
    all_filled_fit p j (x ∷ xs) fit v s =
        let l = write_fits sure want b rank p j x in
        All-cons (FitsWrite (completed sure want b)) (filled sure want b p x)
        (filled_all sure want b (p + write_size sure want b j x) (suc j) xs)
        (filled_fits p j x (All-head (FitsWrite b) x xs fit) (All-head WriteWanted x xs v)
        (each_front Stands p (write_ranks sure want b rank p j x) _ s))
        (all_filled_fit (p + write_size sure want b j x) (suc j) xs (All-tail (FitsWrite b) x xs fit)
        (All-tail WriteWanted x xs v) (each_back Stands p (write_ranks sure want b rank p j x) _ s _
        (omega (arith, l))))

    module _ (fitw : All (FitsWrite b) b.writes) where
      self : (i : ℕ) (n : FlowNode) (z : ℕ) → z ≡ 0 + i → slice_get b.nodes i ≡ Some n → slice_get b.nodes z ≡ Some n
      self i n z e s = let d : i ≡ z = omega (arith, e) in subst (λ (q : ℕ). slice_get b.nodes q ≡ Some n) d s

      self_write : (i : ℕ) (x : FlowWrite) (z : ℕ) → z ≡ 0 + i → slice_get b.writes i ≡ Some x
          → slice_get b.writes z ≡ Some x
      self_write i x z e s = let d : i ≡ z = omega (arith, e) in subst (λ (q : ℕ). slice_get b.writes q ≡ Some x) d s

      each_node : Each NodeOk 0 (completed sure want b).nodes
      each_node =
          each_append NodeOk 0 (trues sure want b) b.nodes (added sure want b) (omega arith)
          (each_of NodeOk 0 b.nodes (λ y n i e s. old_ok i n (self y n i e s)))
          (each_append NodeOk (trues sure want b) (falses sure want b) (trues_region sure want b) _
          (spread_end NodeOk (guard_part want b.nodes c true) (guard_part_size want b.nodes sure true)
          (guard_part_length want b.nodes sure (places sure want b) true) (trues sure want b) 0 b.nodes)
          (spread_all NodeOk (guard_part want b.nodes c true) (guard_part_size want b.nodes sure true)
          (guard_part_length want b.nodes sure (places sure want b) true) b.nodes
          (λ p j n. Each Stands p (guard_ranks sure want b rank true p j n))
          (λ p j n s x. guard_ok true p j n s x) (trues sure want b) 0 b.nodes self
          (λ i n z e s. true_stands sure want b rank i n z e s))
          (each_append NodeOk (falses sure want b) (lefts sure want b) (falses_region sure want b) _
          (spread_end NodeOk (guard_part want b.nodes c false) (guard_part_size want b.nodes sure false)
          (guard_part_length want b.nodes sure (places sure want b) false) (falses sure want b) 0 b.nodes)
          (spread_all NodeOk (guard_part want b.nodes c false) (guard_part_size want b.nodes sure false)
          (guard_part_length want b.nodes sure (places sure want b) false) b.nodes
          (λ p j n. Each Stands p (guard_ranks sure want b rank false p j n))
          (λ p j n s x. guard_ok false p j n s x) (falses sure want b) 0 b.nodes self
          (λ i n z e s. false_stands sure want b rank i n z e s))
          (each_append NodeOk (lefts sure want b) (rights sure want b) (lefts_region sure want b) _
          (spread_end NodeOk (left_part sure want c) (left_size sure want) (left_length sure want c)
          (lefts sure want b) 0 b.nodes)
          (spread_all NodeOk (left_part sure want c) (left_size sure want) (left_length sure want c) b.nodes
          (λ p j n. Each Stands p (left_ranks sure want b rank p j n)) (λ p j n s x. left_ok p j n s x)
          (lefts sure want b) 0 b.nodes self (λ i n z e s. left_stands sure want b rank i n z e s))
          (each_append NodeOk (rights sure want b) (writes_at sure want b) (rights_region sure want b) _
          (spread_end NodeOk (right_part sure want c) (right_size sure want) (right_length sure want c)
          (rights sure want b) 0 b.nodes)
          (spread_all NodeOk (right_part sure want c) (right_size sure want) (right_length sure want c) b.nodes
          (λ p j n. Each Stands p (right_ranks sure want b rank p j n)) (λ p j n s x. right_ok p j n s x)
          (rights sure want b) 0 b.nodes self (λ i n z e s. right_stands sure want b rank i n z e s))
          (each_append NodeOk (writes_at sure want b) (numbers_at sure want b) (writes_region sure want b) _
          (spread_end NodeOk (write_part sure want b) (write_size sure want b) (write_length sure want b)
          (writes_at sure want b) 0 b.writes)
          (spread_all NodeOk (write_part sure want b) (write_size sure want b) (write_length sure want b) b.writes
          (λ p j x. Each Stands p (write_ranks sure want b rank p j x))
          (λ p j x s y. write_ok p j x (all_at (FitsWrite b) b.writes fitw j x s) (closed.writes j x s) y)
          (writes_at sure want b) 0 b.writes self_write
          (λ i x z e s. write_stands sure want b rank i x z e s))
          (all_numbers_ok (numbers_at sure want b) (at_numbers sure want b rank)
          (λ q. stores_fit sure want b 0 b.nodes q (omega arith)) refl))))))

      node_ok : (j : ℕ) (n : FlowNode) → slice_get (completed sure want b).nodes j ≡ Some n → NodeOk j n
      node_ok j n e = each_at NodeOk 0 (completed sure want b).nodes each_node j n j (omega arith) e

      rises_guard : (lim : ℕ) (g : Option Guard) → GuardAt lim g → RisesFromGuard at_ lim g
      rises_guard lim None x = tt
      rises_guard lim (Some g) x = x.1

      fits_guard : (lim : ℕ) (g : Option Guard) → GuardAt lim g → FitsGuard (completed sure want b) g
      fits_guard lim None x = tt
      fits_guard lim (Some g) x = x.0

      -- the ranks of a completed block are an order
      pub has_order : HasOrder (completed sure want b) at_
      has_order = record {
        sources = λ j n e.
            let k = node_ok j n e in
            record {
              left = each_rises (at_ j) n.left k.left;
              right = each_rises (at_ j) n.right k.right;
              guard = rises_guard (at_ j) n.guard k.guard;
            };
        stores = λ i j m n ei ej fs fl lt.
            let old = (node_ok j n ej).loads fl in
            let x = (node_ok i m ei).stores fs j n old fl lt in
            let d = (old_stands j n old).is in
            omega (arith, x, d);
      }

      -- each node of a completed block fits
      pub nodes_fit : All (FitsNode (completed sure want b)) (completed sure want b).nodes
      nodes_fit =
          all_from (FitsNode (completed sure want b)) (completed sure want b).nodes
          (λ j n e.
          let k = node_ok j n e in
          record {
            form = k.fields;
            guard = fits_guard (at_ j) n.guard k.guard;
            left = each_fits (at_ j) n.left k.left;
            right = each_fits (at_ j) n.right k.right;
          })

      -- each write of a completed block fits
      pub writes_fit : All (FitsWrite (completed sure want b)) (completed sure want b).writes
      writes_fit = all_filled_fit (writes_at sure want b) 0 b.writes fitw
          (all_from WriteWanted b.writes closed.writes)
          (each_front Stands (writes_at sure want b) (writes_ranks sure want b rank) _ (at_writes sure want b rank))
