-- All that an added node takes hands its token on.
use Rattle.std.proofs.Common.{◌≡◌, ℕ, zero, suc, ◌+◌, ◌<◌, List, ◌∷◌, ◌++◌, []}
use Rattle.std.proofs.Common.{length, refl, sym, ap, subst, ◌∙◌, arith, cond, Bool, true, false}
use Rattle.std.proofs.Common.{◌&&◌}
use Rattle.std.proofs.Common.{true≢false}
use Rattle.std.proofs.lemmas.List.Elements.{All-head, All-tail}
use Rattle.std.proofs.lemmas.Option.{slice_get_within}
use Rattle.std.specs.Prelude.{Option, Some, None, slice_get, All}
use Rattle.trips_isa.specs.declared.block.Sense.{Sense}
use Rattle.trips_isa.specs.declared.block.Sense.TheVariants.{Always, OnTrue, OnFalse}
use Rattle.trips_isa.specs.Forms.{form_of}
use Rattle.ir_forms.specs.declared.flow.FlowSource.{FlowSource}
use Rattle.ir_forms.specs.declared.flow.FlowSource.TheVariants.{Read, Node}
use Rattle.ir_forms.specs.declared.flow.Guard.{Guard}
use Rattle.ir_forms.specs.declared.flow.FlowNode.{FlowNode}
use Rattle.ir_forms.specs.declared.flow.FlowWrite.{FlowWrite}
use Rattle.ir_forms.specs.declared.flow.FlowBlock.{FlowBlock}
use Rattle.ir_forms.specs.inside.FlowFits.{FitsFlow, FitsFlowSource, FitsNode, FitsWrite, FitsGuard}
use Rattle.ir_forms.specs.inside.FlowRegular.{same_source, is_among, guards_by, nodes_name, writes_name, is_named}
use Rattle.ir_forms.specs.inside.FlowRegular.{is_silent, IsRegular}
use Rattle.null_outputs.specs.inside.Covers.{copy_under, both_under}
use Rattle.null_outputs.specs.inside.Covers.{Sure, Want, sense_cover, guard_cover, left_open}
use Rattle.null_outputs.specs.inside.Covers.{right_open, one_if, cover_at, Cover, list_top, list_nodes}
use Rattle.null_outputs.specs.inside.Groups.{left_needed, right_needed, guard_group, guard_is, is_used}
use Rattle.null_outputs.specs.inside.Groups.{guard_part}
use Rattle.null_outputs.specs.inside.Groups.{left_part, right_part}
use Rattle.null_outputs.specs.inside.Groups.{stores_of, number_open}
use Rattle.null_outputs.specs.inside.Completed.{places, cover}
use Rattle.null_outputs.specs.inside.Completed.{write_part}
use Rattle.null_outputs.specs.inside.Completed.{numbers_at, number_part, number_size}
use Rattle.null_outputs.specs.inside.Completed.{numbers_part}
use Rattle.null_outputs.specs.inside.Completed.{all_numbers}
use Rattle.null_outputs.specs.inside.Completed.{added, completed}
use Rattle.null_outputs.proofs.Oracles.{EachWanted, Closed}
use Rattle.null_outputs.proofs.Covers.{both_true, used_wants, all_at, within, used_at, guard_is_on}
use Rattle.null_outputs.proofs.Outputs.{number_length, stores_fit}
use Rattle.null_outputs.proofs.Walks.{Each, each_append, each_front, each_back}
use Rattle.null_outputs.proofs.NamedSources.{or_first, or_second, itself, named_at, used_named}
use Rattle.null_outputs.proofs.LoudPlaces.{loud_append, stood_loud, head_loud, group_loud, true_stands, false_stands}
use Rattle.null_outputs.proofs.LoudPlaces.{left_stands, right_stands}
use Rattle.null_outputs.proofs.LoudPlaces

module _ (sure : Sure) (want : Want) (b : FlowBlock) where
  abbrev all : List FlowNode
  all = (completed sure want b).nodes

  abbrev c : Cover
  c = cover sure want b

  -- a node of the completed block stands here
  abbrev Stood : ℕ → FlowNode → Type 0
  Stood p n = slice_get all p ≡ Some n

  -- what stands there hands a token on
  abbrev Loud : FlowSource → Type 0
  Loud = LoudPlaces.Loud sure want b

  abbrev EachLoud : List FlowSource → Type 0
  EachLoud = LoudPlaces.EachLoud sure want b

  abbrev LoudGuard : Option Guard → Type 0
  LoudGuard = LoudPlaces.LoudGuard sure want b

  abbrev LoudNode : (p : ℕ) → (n : FlowNode) → Type 0
  LoudNode = LoudPlaces.LoudNode sure want b

  abbrev loud_node : (p : ℕ) (n : FlowNode) → EachLoud n.left → EachLoud n.right → LoudGuard n.guard → LoudNode p n
  loud_node = LoudPlaces.loud_node sure want b

  abbrev LoudCover : List FlowSource → Type 0
  LoudCover = LoudPlaces.LoudCover sure want b

  abbrev list_loud : (p : ℕ) (ss : List FlowSource) → LoudCover ss → Each Stood p (list_nodes c p ss)
      → Each LoudNode p (list_nodes c p ss)
  list_loud = LoudPlaces.list_loud sure want b

  abbrev list_top_loud : (p : ℕ) (ss : List FlowSource) → LoudCover ss → Each Stood p (list_nodes c p ss)
      → EachLoud (list_top c p ss)
  list_top_loud = LoudPlaces.list_top_loud sure want b

  abbrev when_true : {X : Type 0} (Q : ℕ → X → Type 0) (t : Bool) (p : ℕ) (ns : List X) → Each Q p (cond t ns [])
      → t ≡ true → Each Q p ns
  when_true = LoudPlaces.when_true sure want b

  abbrev each_if : (t : Bool) (p : ℕ) (ns : List FlowNode) → (t ≡ true → Each LoudNode p ns)
      → Each LoudNode p (cond t ns [])
  each_if = LoudPlaces.each_if sure want b

  module _ (fits : FitsFlow b) (reg : IsRegular b) (closed : Closed sure want b) where
    front_at : (xs ys : List FlowNode) (j : ℕ) (n : FlowNode) → j < length xs → slice_get (xs ++ ys) j ≡ Some n
        → slice_get xs j ≡ Some n
    front_at [] ys j n l e = absurd (omega (arith, l))
    front_at (x ∷ xs) ys zero n l e = e
    front_at (x ∷ xs) ys (suc j) n l e = front_at xs ys j n (omega (arith, l)) e

    -- what the block itself names
    old_loud : (s : FlowSource) → FitsFlowSource b s → is_named b s ≡ true → Loud s
    old_loud (Read r) fit e = tt
    old_loud (Node j) fit e = λ n d. loud n (is_silent (form_of n.op)) refl
        (front_at b.nodes (added sure want b) j n fit d)
      where
        loud : (n : FlowNode) (t : Bool) → is_silent (form_of n.op) ≡ t → slice_get b.nodes j ≡ Some n
            → is_silent (form_of n.op) ≡ false
        loud n true et d = absurd (true≢false (sym e ∙ reg.silent j n d et))
        loud n false et d = et

    by_nodes : (s : FlowSource) → nodes_name s b.nodes ≡ true → is_named b s ≡ true
    by_nodes s e = or_first (nodes_name s b.nodes) (writes_name s b.writes) e

    -- all of a list that something names
    pub some_loud : (ss : List FlowSource) → All (FitsFlowSource b) ss
        → ((s : FlowSource) → is_among s ss ≡ true → is_named b s ≡ true) → EachLoud ss
    some_loud [] fit f = tt
    some_loud (s ∷ ss) fit f = (
      old_loud s (All-head (FitsFlowSource b) s ss fit) (f s (or_first (same_source s s) (is_among s ss) (itself s))),
      some_loud ss (All-tail (FitsFlowSource b) s ss fit)
          (λ x e. f x (or_second (same_source x s) (is_among x ss) e)),
    )

    node_fits : (y : ℕ) (n : FlowNode) → slice_get b.nodes y ≡ Some n → FitsNode b n
    node_fits y n e = all_at (FitsNode b) b.nodes fits.nodes y n e

    -- the left operands of an old node hand tokens on
    pub left_loud : (y : ℕ) (n : FlowNode) → slice_get b.nodes y ≡ Some n → EachLoud n.left
    left_loud y n e =
        some_loud n.left (node_fits y n e).left
        (λ s d. by_nodes s (named_at s b.nodes y n e (or_first (is_among s n.left) _ d)))

    -- so do the right ones
    pub right_loud : (y : ℕ) (n : FlowNode) → slice_get b.nodes y ≡ Some n → EachLoud n.right
    right_loud y n e =
        some_loud n.right (node_fits y n e).right
        (λ s d. by_nodes s (named_at s b.nodes y n e
        (or_second (is_among s n.left) _ (or_first (is_among s n.right) _ d))))

    -- an old node's guard has a sense, and its node hands a token on
    pub guard_loud : (y : ℕ) (n : FlowNode) → slice_get b.nodes y ≡ Some n → LoudGuard n.guard
    guard_loud y n e = go n.guard refl (node_fits y n e).guard
      where
        go : (g : Option Guard) → n.guard ≡ g → FitsGuard b g → LoudGuard g
        go None eg fit = tt
        go (Some g) eg fit = (
          old_loud (Node g.node) fit
              (by_nodes (Node g.node) (named_at (Node g.node) b.nodes y n e
              (or_second (is_among (Node g.node) n.left) _
              (or_second (is_among (Node g.node) n.right) _
              (ap (guards_by (Node g.node)) eg ∙ itself (Node g.node)))))),
          reg.guards y n g e eg,
        )

    -- COVERS

    sense_loud : (y : ℕ) (n : FlowNode) → slice_get b.nodes y ≡ Some n → want y ≡ true → (g : Guard)
        → n.guard ≡ Some g → g.node < length b.nodes → (s : Sense) → g.sense ≡ s
        → EachLoud (sense_cover (places sure want b) s g.node)
    sense_loud y n e wy g eg l Always es = tt
    sense_loud y n e wy g eg l OnTrue es =
        let x = within b.nodes g.node l in
        let u : guard_is true g.node n.guard ≡ true = ap (guard_is true g.node) eg ∙ guard_is_on true g es in (
          head_loud sure want b _ true g.node (c (Node g.node))
              (when_true Stood (is_used want 0 b.nodes true g.node) _ _
              (true_stands sure want b g.node x.0 g.node (omega arith) x.1)
              (used_at want 0 b.nodes true g.node y n y (omega arith) e wy u)),
          tt,
        )
    sense_loud y n e wy g eg l OnFalse es =
        let x = within b.nodes g.node l in
        let u : guard_is false g.node n.guard ≡ true = ap (guard_is false g.node) eg ∙ guard_is_on false g es in (
          head_loud sure want b _ false g.node (c (Node g.node))
              (when_true Stood (is_used want 0 b.nodes false g.node) _ _
              (false_stands sure want b g.node x.0 g.node (omega arith) x.1)
              (used_at want 0 b.nodes false g.node y n y (omega arith) e wy u)),
          tt,
        )

    guard_cover_loud : (y : ℕ) (n : FlowNode) → slice_get b.nodes y ≡ Some n → want y ≡ true
        → (g : Option Guard) → n.guard ≡ g → FitsGuard b g → EachLoud (guard_cover (places sure want b) g)
    guard_cover_loud y n e wy None eg fit = tt
    guard_cover_loud y n e wy (Some g) eg fit = sense_loud y n e wy g eg fit g.sense refl

    left_cover_loud : (y : ℕ) (n : FlowNode) → slice_get b.nodes y ≡ Some n → want y ≡ true
        → EachLoud (one_if (left_open sure n) ((places sure want b).left y))
    left_cover_loud y n e wy = go (want y) (left_open sure n) wy (left_stands sure want b y n y (omega arith) e)
      where
        p : ℕ
        p = (places sure want b).left y

        go : (v t : Bool) → v ≡ true → Each Stood p
            (cond (v && t) (copy_under n.guard (list_top c (suc p) n.left) ∷ list_nodes c (suc p) n.left) [])
            → EachLoud (one_if t p)
        go false t v x = absurd (cc)
        go true true v x = (stood_loud sure want b p _ x.0 refl, tt)
        go true false v x = tt

    right_cover_loud : (y : ℕ) (n : FlowNode) → slice_get b.nodes y ≡ Some n → want y ≡ true
        → EachLoud (one_if (right_open sure n) ((places sure want b).right y))
    right_cover_loud y n e wy = go (want y) (right_open sure n) wy (right_stands sure want b y n y (omega arith) e)
      where
        p : ℕ
        p = (places sure want b).right y

        go : (v t : Bool) → v ≡ true → Each Stood p
            (cond (v && t) (both_under n.guard n.left (list_top c (suc p) n.right) ∷ list_nodes c
            (suc p) n.right) []) → EachLoud (one_if t p)
        go false t v x = absurd (cc)
        go true true v x = (stood_loud sure want b p _ x.0 refl, tt)
        go true false v x = tt

    node_cover_loud : (y : ℕ) (n : FlowNode) → slice_get b.nodes y ≡ Some n → want y ≡ true → EachLoud (c (Node y))
    node_cover_loud y n e wy =
        subst (λ (o : Option FlowNode). EachLoud (cover_at sure (places sure want b) y o)) (sym e)
        (loud_append sure want b (guard_cover (places sure want b) n.guard) _
        (guard_cover_loud y n e wy n.guard refl (node_fits y n e).guard)
        (loud_append sure want b (one_if (left_open sure n) ((places sure want b).left y))
        (one_if (right_open sure n) ((places sure want b).right y)) (left_cover_loud y n e wy)
        (right_cover_loud y n e wy)))

    -- the covers of sources that are wanted hand tokens on
    pub sources_loud : (ss : List FlowSource) → All (FitsFlowSource b) ss → EachWanted want ss → LoudCover ss
    sources_loud [] fit v = tt
    sources_loud (Read r ∷ ss) fit v = (tt, sources_loud ss (All-tail (FitsFlowSource b) (Read r) ss fit) v)
    sources_loud (Node j ∷ ss) fit v =
        let x = within b.nodes j (All-head (FitsFlowSource b) (Node j) ss fit) in
        (node_cover_loud j x.0 x.1 v.0, sources_loud ss (All-tail (FitsFlowSource b) (Node j) ss fit) v.1)

    -- GROUPS

    -- the nodes of a guard's group take what hands tokens on
    pub guard_part_loud : (s : Bool) (p y : ℕ) (n : FlowNode) → slice_get b.nodes y ≡ Some n
        → Each Stood p (guard_part want b.nodes c s p y n) → Each LoudNode p (guard_part want b.nodes c s p y n)
    guard_part_loud s p y n e x =
        each_if (is_used want 0 b.nodes s y) p (guard_group p s y (c (Node y)))
        (λ u.
        group_loud sure want b p s y (c (Node y)) (old_loud (Node y) (slice_get_within b.nodes y n e)
        (by_nodes (Node y) (used_named want 0 b.nodes s y u)))
        (node_cover_loud y n e (used_wants sure want b closed s y u))
        (when_true Stood (is_used want 0 b.nodes s y) p (guard_group p s y (c (Node y))) x u))

    -- so do those of a left operand's completion
    pub left_part_loud : (p y : ℕ) (n : FlowNode) → slice_get b.nodes y ≡ Some n
        → Each Stood p (left_part sure want c p y n) → Each LoudNode p (left_part sure want c p y n)
    left_part_loud p y n e x =
        each_if (left_needed sure want y n) p _
        (λ u.
        let v = both_true (want y) (left_open sure n) u in
        let k = sources_loud n.left (node_fits y n e).left (closed.left y n e v.0 v.1) in
        let z = when_true Stood (left_needed sure want y n) p _ x u in (
          loud_node p _ (list_top_loud (suc p) n.left k z.1) tt (guard_loud y n e),
          list_loud (suc p) n.left k z.1,
        ))

    -- so do those of a right operand's completion
    pub right_part_loud : (p y : ℕ) (n : FlowNode) → slice_get b.nodes y ≡ Some n
        → Each Stood p (right_part sure want c p y n) → Each LoudNode p (right_part sure want c p y n)
    right_part_loud p y n e x =
        each_if (right_needed sure want y n) p _
        (λ u.
        let v = both_true (want y) (right_open sure n) u in
        let k = sources_loud n.right (node_fits y n e).right (closed.right y n e v.0 v.1) in
        let z = when_true Stood (right_needed sure want y n) p _ x u in (
          loud_node p _ (left_loud y n e) (list_top_loud (suc p) n.right k z.1) (guard_loud y n e),
          list_loud (suc p) n.right k z.1,
        ))

    -- a write of the block fits
    pub write_fits : (j : ℕ) (w : FlowWrite) → slice_get b.writes j ≡ Some w → FitsWrite b w
    write_fits j w e = all_at (FitsWrite b) b.writes fits.writes j w e

    -- the nodes of a write's completion take what hands tokens on
    pub write_part_loud : (p j : ℕ) (w : FlowWrite) → slice_get b.writes j ≡ Some w
        → Each Stood p (write_part sure want b p j w) → Each LoudNode p (write_part sure want b p j w)
    write_part_loud p j w e s = go (sure None w.sources) (closed.writes j w e) s
      where
        go : (t : Bool) → (t ≡ false → EachWanted want w.sources)
            → Each Stood p (cond t [] (list_nodes c p w.sources))
            → Each LoudNode p (cond t [] (list_nodes c p w.sources))
        go true v s = tt
        go false v s = list_loud p w.sources (sources_loud w.sources (write_fits j w e).sources (v refl)) s

    number_part_loud : (p k : ℕ) → Each Stood p (number_part sure want b p k)
        → Each LoudNode p (number_part sure want b p k)
    number_part_loud p k x =
        each_if (number_open sure b k) p _
        (λ u.
        let ss = stores_of 0 b.nodes k in
        let v = sources_loud ss (stores_fit sure want b 0 b.nodes k (omega arith)) (closed.numbers k u) in
        let z = when_true Stood (number_open sure b k) p _ x u in
        let t = list_top_loud (suc p) ss v z.1 in
        (loud_node p _ t t tt, list_loud (suc p) ss v z.1))

    numbers_part_loud : (m p k : ℕ) → Each Stood p (numbers_part sure want b p k m)
        → Each LoudNode p (numbers_part sure want b p k m)
    numbers_part_loud zero p k x = tt
    numbers_part_loud (suc m) p k x =
        let l = number_length sure want b p k in
        let d : p + length (number_part sure want b p k) ≡ p + number_size sure want b k = omega (arith, l) in
        each_append LoudNode p (p + number_size sure want b k) (number_part sure want b p k) _ d
        (number_part_loud p k (each_front Stood p (number_part sure want b p k) _ x))
        (numbers_part_loud m (p + number_size sure want b k) (suc k)
        (each_back Stood p (number_part sure want b p k) _ x _ d))

    -- so do those of all numbers of stores
    pub all_numbers_loud : Each Stood (numbers_at sure want b) (all_numbers sure want b)
        → Each LoudNode (numbers_at sure want b) (all_numbers sure want b)
    unfolding all_numbers
    all_numbers_loud x = numbers_part_loud 32 (numbers_at sure want b) 0 x
