-- The order of what an added node takes: of a list, of a guard's group and of the cover of an old node.
use Rattle.std.proofs.Common.{◌≡◌, ℕ, zero, suc, ◌+◌, ◌<◌, ◌≤◌, List, ◌∷◌, []}
use Rattle.std.proofs.Common.{length, refl, sym, ap, subst, ◌∙◌, arith, cond}
use Rattle.std.proofs.Common.{Bool, true, false, not, ◌&&◌, length-append}
use Rattle.std.specs.Prelude.{Option, Some, None, slice_get, All}
use Rattle.std.proofs.lemmas.List.Elements.{All-head, All-tail}
use Rattle.trips_isa.specs.declared.form.Form.TheVariants as form
use Rattle.trips_isa.specs.declared.block.Sense.{Sense}
use Rattle.trips_isa.specs.declared.block.Sense.TheVariants.{Always, OnTrue, OnFalse}
use Rattle.trips_isa.specs.Forms.{form_of}
use Rattle.ir_forms.specs.declared.flow.FlowSource.{FlowSource}
use Rattle.ir_forms.specs.declared.flow.FlowSource.TheVariants.{Read, Node}
use Rattle.ir_forms.specs.declared.flow.Guard.{Guard}
use Rattle.ir_forms.specs.declared.flow.FlowNode.{FlowNode}
use Rattle.ir_forms.specs.declared.flow.FlowBlock.{FlowBlock}
use Rattle.ir_forms.specs.inside.FlowFits.{FitsFlowSource, FitsNode, FitsNodeForm, FitsGuard, RisesFrom}
use Rattle.ir_forms.specs.inside.FlowFits.{RisesFromGuard, HasOrder}
use Rattle.null_outputs.proofs.Oracles.{EachWanted, Closed}
use Rattle.null_outputs.specs.inside.Completed.{places, cover}
use Rattle.null_outputs.specs.inside.Completed.{added, completed}
use Rattle.null_outputs.specs.inside.Covers.{Want, null_under, copy_under, both_under, guard_on, sense_cover}
use Rattle.null_outputs.specs.inside.Covers.{guard_cover, left_open, right_open, one_if, cover_at, Cover, Sure}
use Rattle.null_outputs.specs.inside.Covers.{top_of, list_top, pairs, list_nodes}
use Rattle.null_outputs.specs.inside.Groups.{guard_group, guard_is, is_used}
use Rattle.null_outputs.proofs.Spaces.{some_is}
use Rattle.null_outputs.proofs.Covers.{all_at, within, used_at, guard_is_on}
use Rattle.null_outputs.proofs.Walks.{Each}
use Rattle.null_outputs.proofs.Ranks.{scaled, scaled_le, pair_ranks, list_ranks, group_ranks, widest, width}
use Rattle.null_outputs.proofs.Ranks.{step, base_of, guard_ranks}
use Rattle.null_outputs.proofs.Ranks.{rank_in}
use Rattle.null_outputs.proofs.RankPlaces.{at_append, at_rank, old_stands, true_stands, false_stands, left_stands}
use Rattle.null_outputs.proofs.RankPlaces.{right_stands}
use Rattle.null_outputs.proofs.RankPlaces

-- the widest node has room for the operands of each
pub widest_at : (ns : List FlowNode) (y : ℕ) (n : FlowNode) → slice_get ns y ≡ Some n
    → 2 + (length n.left + length n.right) ≤ widest ns
widest_at [] y n e = absurd (cc)
widest_at (m ∷ ns) zero n e = subst (λ (x : FlowNode). 2 + (length x.left + length x.right) ≤ widest (m ∷ ns))
    (some_is m n e) (omega arith)
widest_at (m ∷ ns) (suc y) n e = let r = widest_at ns y n e in omega (arith, r)

module _ (sure : Sure) (want : Want) (b : FlowBlock) (rank : ℕ → ℕ) where
  abbrev total : ℕ
  total = length (completed sure want b).nodes

  -- a node's number and rank
  abbrev Stands : (p r : ℕ) → Type 0
  Stands = RankPlaces.Stands sure want b rank

  abbrev c : Cover
  c = cover sure want b

  abbrev at_ : ℕ → ℕ
  at_ = rank_in sure want b rank

  abbrev base : ℕ → ℕ
  base = base_of sure want b rank

  abbrev w : ℕ
  w = width sure want b rank

  abbrev SourceAt : ℕ → FlowSource → Type 0
  SourceAt = RankPlaces.SourceAt sure want b rank

  abbrev EachAt : ℕ → List FlowSource → Type 0
  EachAt = RankPlaces.EachAt sure want b rank

  abbrev GuardAt : ℕ → Option Guard → Type 0
  GuardAt = RankPlaces.GuardAt sure want b rank

  abbrev weaker : (i j : ℕ) → i ≤ j → (ss : List FlowSource) → EachAt i ss → EachAt j ss
  weaker = RankPlaces.weaker sure want b rank

  abbrev stand_source : (p r lim : ℕ) → Stands p r → r < lim → SourceAt lim (Node p)
  stand_source = RankPlaces.stand_source sure want b rank

  -- NODES

  -- a node of the completed block, at place p, fits, and what it takes stands below it
  pub record NodeOk (p : ℕ) (n : FlowNode) : Type 0 where
    pub fields : FitsNodeForm (form_of n.op) n
    pub left : EachAt (at_ p) n.left
    pub right : EachAt (at_ p) n.right
    pub guard : GuardAt (at_ p) n.guard
    pub stores : form_of n.op ≡ form.Store → (j : ℕ) (m : FlowNode) → slice_get b.nodes j ≡ Some m
        → form_of m.op ≡ form.Load → n.number < m.number → at_ p < base j
    pub loads : form_of n.op ≡ form.Load → slice_get b.nodes p ≡ Some n

  -- an added node that is no store
  pub plain_ok : (p r : ℕ) (g : Option Guard) (ls rs : List FlowSource) → Stands p r → GuardAt r g → EachAt r ls
      → EachAt r rs → (n : FlowNode)
      → n.guard ≡ g → n.left ≡ ls → n.right ≡ rs → FitsNodeForm (form_of n.op) n → form_of n.op ≡ form.General
      → NodeOk p n
  plain_ok p r g ls rs s ag al ar n eg el er ff ef = record {
    fields = ff;
    left = subst (EachAt (at_ p)) (sym el) (at_rank sure want b rank p r ls s al);
    right = subst (EachAt (at_ p)) (sym er) (at_rank sure want b rank p r rs s ar);
    guard = subst (GuardAt (at_ p)) (sym eg) (subst (λ (i : ℕ). GuardAt i g) (sym s.is) ag);
    stores = λ e. absurd (general_store (sym ef ∙ e));
    loads = λ e. absurd (general_load (sym ef ∙ e));
  }
    where
      general_store : form.General ≡ form.Store → ⊥
      general_store e = absurd (cc)

      general_load : form.General ≡ form.Load → ⊥
      general_load e = absurd (cc)

  -- each source of the covers of a list has a rank below a limit
  abbrev pub EachCover : ℕ → List FlowSource → Type 0
  EachCover lim [] = Unit {0}
  EachCover lim (s ∷ ss) = EachAt lim (c s) × EachCover lim ss

  -- and below any higher limit
  pub cover_weaker : (i j : ℕ) → i ≤ j → (ss : List FlowSource) → EachCover i ss → EachCover j ss
  cover_weaker i j l [] x = tt
  cover_weaker i j l (s ∷ ss) x = (weaker i j l (c s) x.0, cover_weaker i j l ss x.1)

  top_at : (lim p : ℕ) (s : FlowSource) (rest : List FlowSource) → EachCover lim (s ∷ rest)
      → Each Stands p (pair_ranks lim rest) → EachAt (lim + suc (length rest)) (top_of c p s rest)
  top_at lim p s [] k x = weaker lim (lim + suc 0) (omega arith) (c s) k.0
  top_at lim p s (t ∷ rest) k x = (
    stand_source p (lim + suc (length rest)) (lim + suc (length (t ∷ rest))) x.0
        (omega arith),
    tt,
  )

  pairs_ok : (lim p : ℕ) (s : FlowSource) (rest : List FlowSource) → EachCover lim (s ∷ rest)
      → Each Stands p (pair_ranks lim rest) → Each NodeOk p (pairs c p s rest)
  pairs_ok lim p s [] k x = tt
  pairs_ok lim p s (t ∷ rest) k x = (
    plain_ok p (lim + suc (length rest)) None (c s) (top_of c (suc p) t rest) x.0 tt
        (weaker lim (lim + suc (length rest)) (omega arith) (c s) k.0) (top_at lim (suc p) t rest k.1 x.1)
        (both_under None (c s) (top_of c (suc p) t rest)) refl refl refl (refl, refl) refl,
    pairs_ok lim (suc p) t rest k.1 x.1,
  )

  -- the nodes of a list's completion fit, and take what stands below them
  pub list_ok : (lim p : ℕ) (ss : List FlowSource) → EachCover lim ss → Each Stands p (list_ranks lim ss)
      → Each NodeOk p (list_nodes c p ss)
  list_ok lim p [] k x = (
    plain_ok p lim None [] [] x.0 tt tt tt (null_under None) refl refl refl
        (refl, refl) refl,
    tt,
  )
  list_ok lim p (s ∷ rest) k x = pairs_ok lim p s rest k x

  -- the top of a list's completion stands below a limit that is higher by the list's length
  pub list_at : (lim p : ℕ) (ss : List FlowSource) → EachCover lim ss → Each Stands p (list_ranks lim ss)
      → EachAt (lim + suc (length ss)) (list_top c p ss)
  list_at lim p [] k x = (stand_source p lim (lim + suc 0) x.0 (omega arith), tt)
  list_at lim p (s ∷ rest) k x = weaker (lim + suc (length rest)) (lim + suc (length (s ∷ rest))) (omega arith)
      (top_of c p s rest) (top_at lim p s rest k x)

  -- what holds of nodes that stand under a test holds of them where the test is true
  pub when_true : {X : Type 0} (Q : ℕ → X → Type 0) (t : Bool) (p : ℕ) (ns : List X) → Each Q p (cond t ns [])
      → t ≡ true → Each Q p ns
  when_true Q t p ns o e = subst (λ (u : Bool). Each Q p (cond u ns [])) e o

  -- nodes under a test are in order, where they are if the test is true
  pub each_if : (t : Bool) (p : ℕ) (ns : List FlowNode) → (t ≡ true → Each NodeOk p ns) → Each NodeOk p (cond t ns [])
  each_if true p ns f = f refl
  each_if false p ns f = tt

  -- the first of a guard's group
  head_at : (lim p : ℕ) (ms : List FlowSource) → Each Stands p (group_ranks lim ms)
      → SourceAt (suc (suc lim)) (Node p)
  head_at lim p [] x = stand_source p lim (suc (suc lim)) x.0 (omega arith)
  head_at lim p (m ∷ ms) x = stand_source p (suc lim) (suc (suc lim)) x.0 (omega arith)

  -- the nodes of a guard's group fit, and take what stands below them
  pub group_ok : (lim p y : ℕ) (s : Bool) (ms : List FlowSource) → GuardAt lim (Some (guard_on (not s) y))
      → EachAt lim ms → Each Stands p (group_ranks lim ms) → Each NodeOk p (guard_group p s y ms)
  group_ok lim p y s [] g k x = (
    plain_ok p lim (Some (guard_on (not s) y)) [] [] x.0 g tt tt
        (null_under (Some (guard_on (not s) y))) refl refl refl (refl, refl) refl,
    tt,
  )
  group_ok lim p y s (m ∷ ms) g k x = (
    plain_ok p (suc lim) None (Node (suc p) ∷ m ∷ ms) [] x.0 tt
        (stand_source (suc p) lim (suc lim) x.1.0 (omega arith), weaker lim (suc lim) (omega arith) (m ∷ ms) k) tt
        (copy_under None (Node (suc p) ∷ m ∷ ms)) refl refl refl (refl, refl) refl,
    (
      plain_ok (suc p) lim (Some (guard_on (not s) y)) [] [] x.1.0 g tt tt
          (null_under (Some (guard_on (not s) y))) refl refl refl (refl, refl) refl,
      tt,
    ),
  )

  module _ (ord : HasOrder b rank) (fitn : All (FitsNode b) b.nodes) (closed : Closed sure want b) where
    -- a node of the old block is one of the completed block
    pub old_within : (j : ℕ) → j < length b.nodes → j < total
    old_within j l = omega (arith, l, length-append b.nodes (added sure want b))

    base_low : (j i : ℕ) → rank j < i → base j ≤ scaled (step sure want b rank) i
    base_low j i l = scaled_le (step sure want b rank) (suc (rank j)) i (omega (arith, l))

    -- a source of an old node
    old_source : (i : ℕ) (s : FlowSource) → FitsFlowSource b s → RisesFrom rank i s
        → SourceAt (suc (scaled (step sure want b rank) i)) s
    old_source i (Read r) fit rise = (fit, tt)
    old_source i (Node j) fit rise =
        let x = within b.nodes j fit in
        let l = base_low j i rise in
        let e = (old_stands sure want b rank j x.0 x.1).is in
        (old_within j fit, omega (arith, l, e))

    -- the operands of an old node stand below it
    pub old_sources : (i : ℕ) (ss : List FlowSource) → All (FitsFlowSource b) ss → All (RisesFrom rank i) ss
        → EachAt (suc (scaled (step sure want b rank) i)) ss
    old_sources i [] fit rise = tt
    old_sources i (s ∷ ss) fit rise = (
      old_source i s (All-head (FitsFlowSource b) s ss fit) (All-head (RisesFrom rank i) s ss rise),
      old_sources i ss (All-tail (FitsFlowSource b) s ss fit) (All-tail (RisesFrom rank i) s ss rise),
    )

    -- so does the node of its guard
    pub old_guard : (i : ℕ) (g : Option Guard) → FitsGuard b g → RisesFromGuard rank i g
        → GuardAt (suc (scaled (step sure want b rank) i)) g
    old_guard i None fit rise = tt
    old_guard i (Some g) fit rise =
        let x = within b.nodes g.node fit in
        let l = base_low g.node i rise in
        let e = (old_stands sure want b rank g.node x.0 x.1).is in
        (old_within g.node fit, omega (arith, l, e))

    -- the cover of a guard
    bit_at : (s : Bool) (y p : ℕ) (n : FlowNode) → is_used want 0 b.nodes s y ≡ true
        → Each Stands p (guard_ranks sure want b rank s p y n) → EachAt (suc (suc (base y + w))) (Node p ∷ [])
    bit_at s y p n u x = (
      head_at (base y + w) p (c (Node y))
          (when_true Stands (is_used want 0 b.nodes s y) p (group_ranks (base y + w) (c (Node y))) x u),
      tt,
    )

    sense_at : (y : ℕ) (n : FlowNode) → slice_get b.nodes y ≡ Some n → want y ≡ true → (g : Guard)
        → n.guard ≡ Some g → g.node < length b.nodes → (s : Sense) → g.sense ≡ s
        → EachAt (suc (suc (base g.node + w))) (sense_cover (places sure want b) s g.node)
    sense_at y n e wy g eg l Always es = tt
    sense_at y n e wy g eg l OnTrue es =
        let x = within b.nodes g.node l in
        let u : guard_is true g.node n.guard ≡ true = ap (guard_is true g.node) eg ∙ guard_is_on true g es in
        bit_at true g.node _ x.0 (used_at want 0 b.nodes true g.node y n y (omega arith) e wy u)
        (true_stands sure want b rank g.node x.0 g.node (omega arith) x.1)
    sense_at y n e wy g eg l OnFalse es =
        let x = within b.nodes g.node l in
        let u : guard_is false g.node n.guard ≡ true = ap (guard_is false g.node) eg ∙ guard_is_on false g es in
        bit_at false g.node _ x.0 (used_at want 0 b.nodes false g.node y n y (omega arith) e wy u)
        (false_stands sure want b rank g.node x.0 g.node (omega arith) x.1)

    guard_at : (y : ℕ) (n : FlowNode) → slice_get b.nodes y ≡ Some n → want y ≡ true → (g : Option Guard)
        → n.guard ≡ g → FitsGuard b g → RisesFromGuard rank (rank y) g
        → EachAt (base y + w) (guard_cover (places sure want b) g)
    guard_at y n e wy None eg fit rise = tt
    guard_at y n e wy (Some g) eg fit rise =
        let l = base_low g.node (rank y) rise in
        weaker (suc (suc (base g.node + w))) (base y + w) (omega (arith, l))
        (sense_cover (places sure want b) g.sense g.node) (sense_at y n e wy g eg fit g.sense refl)

    left_at : (y : ℕ) (n : FlowNode) → slice_get b.nodes y ≡ Some n → want y ≡ true
        → EachAt (base y + w) (one_if (left_open sure n) ((places sure want b).left y))
    left_at y n e wy = go (want y) (left_open sure n) wy (left_stands sure want b rank y n y (omega arith) e)
      where
        go : (v t : Bool) → v ≡ true → Each Stands ((places sure want b).left y)
            (cond (v && t) ((base y + suc (length n.left)) ∷ list_ranks (base y) n.left) [])
            → EachAt (base y + w) (one_if t ((places sure want b).left y))
        go false t v x = absurd (cc)
        go true true v x = let l = widest_at b.nodes y n e in
            (stand_source _ (base y + suc (length n.left)) (base y + w) x.0 (omega (arith, l)), tt)
        go true false v x = tt

    right_at : (y : ℕ) (n : FlowNode) → slice_get b.nodes y ≡ Some n → want y ≡ true
        → EachAt (base y + w) (one_if (right_open sure n) ((places sure want b).right y))
    right_at y n e wy = go (want y) (right_open sure n) wy (right_stands sure want b rank y n y (omega arith) e)
      where
        go : (v t : Bool) → v ≡ true → Each Stands ((places sure want b).right y)
            (cond (v && t) ((base y + suc (length n.right)) ∷ list_ranks (base y) n.right) [])
            → EachAt (base y + w) (one_if t ((places sure want b).right y))
        go false t v x = absurd (cc)
        go true true v x = let l = widest_at b.nodes y n e in
            (stand_source _ (base y + suc (length n.right)) (base y + w) x.0 (omega (arith, l)), tt)
        go true false v x = tt

    -- the cover of a node
    pub node_at : (y : ℕ) (n : FlowNode) → slice_get b.nodes y ≡ Some n → want y ≡ true
        → EachAt (base y + w) (c (Node y))
    node_at y n e wy =
        let fit = all_at (FitsNode b) b.nodes fitn y n e in
        let g = guard_at y n e wy n.guard refl fit.guard (ord.sources y n e).guard in
        subst (λ (o : Option FlowNode). EachAt (base y + w) (cover_at sure (places sure want b) y o)) (sym e)
        (at_append sure want b rank (base y + w) (guard_cover (places sure want b) n.guard) _ g
        (at_append sure want b rank (base y + w) (one_if (left_open sure n) ((places sure want b).left y))
        (one_if (right_open sure n) ((places sure want b).right y)) (left_at y n e wy) (right_at y n e wy)))

    -- the covers of the operands of an old node stand below a limit
    pub cover_sources : (i : ℕ) (ss : List FlowSource) → All (FitsFlowSource b) ss → All (RisesFrom rank i) ss
        → EachWanted want ss → EachCover (scaled (step sure want b rank) i + w) ss
    cover_sources i [] fit rise v = tt
    cover_sources i (Read r ∷ ss) fit rise v = (
      tt,
      cover_sources i ss (All-tail (FitsFlowSource b) (Read r) ss fit)
          (All-tail (RisesFrom rank i) (Read r) ss rise) v,
    )
    cover_sources i (Node j ∷ ss) fit rise v =
        let x = within b.nodes j (All-head (FitsFlowSource b) (Node j) ss fit) in
        let l = base_low j i (All-head (RisesFrom rank i) (Node j) ss rise) in (
          weaker (base j + w) (scaled (step sure want b rank) i + w) (omega (arith, l)) (c (Node j))
              (node_at j x.0 x.1 v.0),
          cover_sources i ss (All-tail (FitsFlowSource b) (Node j) ss fit)
              (All-tail (RisesFrom rank i) (Node j) ss rise) v.1,
        )
