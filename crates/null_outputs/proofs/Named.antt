-- Each node whose token something of a completed block takes hands a token on, and has a guard with a sense.
use Rattle.std.proofs.Common.{◌≡◌, ◌≢◌, ℕ, zero, suc, ◌+◌, List, ◌∷◌, ◌⊎◌, inl, inr, []}
use Rattle.std.proofs.Common.{refl, sym, subst, ◌∙◌, arith, cond, Bool, true, false}
use Rattle.std.proofs.Common.{◌==◌}
use Rattle.std.proofs.Common.{true≢false}
use Rattle.std.proofs.lemmas.Bool.Decides.{nat_tests}
use Rattle.std.specs.Prelude.{Option, Some, None, slice_get, All}
use Rattle.trips_isa.specs.declared.block.Sense.TheVariants.{Always}
use Rattle.trips_isa.specs.Forms.{form_of}
use Rattle.ir_forms.specs.declared.flow.FlowSource.{FlowSource}
use Rattle.ir_forms.specs.declared.flow.FlowSource.TheVariants.{Read, Node}
use Rattle.ir_forms.specs.declared.flow.Guard.{Guard}
use Rattle.ir_forms.specs.declared.flow.FlowNode.{FlowNode}
use Rattle.ir_forms.specs.declared.flow.FlowWrite.{FlowWrite}
use Rattle.ir_forms.specs.declared.flow.FlowBlock.{FlowBlock}
use Rattle.ir_forms.specs.inside.FlowFits.{FitsFlow, FitsFlowSource, FitsWrite}
use Rattle.ir_forms.specs.inside.FlowRegular.{same_source, is_among, guards_by, nodes_name, writes_name, is_named}
use Rattle.ir_forms.specs.inside.FlowRegular.{is_silent, IsRegular}
use Rattle.null_outputs.specs.inside.Covers.{Sure, Want}
use Rattle.null_outputs.specs.inside.Covers.{Cover, list_top, list_nodes}
use Rattle.null_outputs.specs.inside.Groups.{guard_part}
use Rattle.null_outputs.specs.inside.Groups.{guard_part_size, left_part, left_size, right_part, right_size, region}
use Rattle.null_outputs.specs.inside.Completed.{trues, falses, lefts, rights, writes_at, places, cover}
use Rattle.null_outputs.specs.inside.Completed.{write_part, write_size}
use Rattle.null_outputs.specs.inside.Completed.{filled, filled_all, numbers_at}
use Rattle.null_outputs.specs.inside.Completed.{all_numbers, trues_region, falses_region, lefts_region, rights_region}
use Rattle.null_outputs.specs.inside.Completed.{writes_region, added, completed}
use Rattle.null_outputs.proofs.Oracles.{EachWanted, Closed}
use Rattle.null_outputs.proofs.Spaces.{guard_part_length, left_length, right_length}
use Rattle.null_outputs.proofs.Outputs.{write_length}
use Rattle.null_outputs.proofs.Walks.{Each, each_append, each_front, each_back, each_at, each_of, spread_end}
use Rattle.null_outputs.proofs.Walks.{spread_all}
use Rattle.null_outputs.proofs.NamedSources.{or_first, or_second, or_either, neither, among_front, named_front}
use Rattle.null_outputs.proofs.NamedSources.{write_named}
use Rattle.null_outputs.proofs.LoudPlaces.{loud_append, loud_node, list_top_loud, at_writes, at_numbers, true_stands}
use Rattle.null_outputs.proofs.LoudPlaces.{false_stands, left_stands, right_stands, write_stands}
use Rattle.null_outputs.proofs.LoudPlaces
use Rattle.null_outputs.proofs.LoudGroups

module _ (sure : Sure) (want : Want) (b : FlowBlock) where
  abbrev all : List FlowNode
  all = (completed sure want b).nodes

  abbrev c : Cover
  c = cover sure want b

  -- a node of the completed block stands here
  abbrev Stood : ℕ → FlowNode → Type 0
  Stood p n = slice_get all p ≡ Some n

  -- what stands there hands a token on
  abbrev Loud : FlowSource → Type 0
  Loud = LoudPlaces.Loud sure want b

  abbrev EachLoud : List FlowSource → Type 0
  EachLoud = LoudPlaces.EachLoud sure want b

  abbrev LoudGuard : Option Guard → Type 0
  LoudGuard = LoudPlaces.LoudGuard sure want b

  abbrev LoudNode : (p : ℕ) → (n : FlowNode) → Type 0
  LoudNode = LoudPlaces.LoudNode sure want b

  abbrev LoudCover : List FlowSource → Type 0
  LoudCover = LoudPlaces.LoudCover sure want b

  module _ (fits : FitsFlow b) (reg : IsRegular b) (closed : Closed sure want b) where
    -- all of a list that something names
    abbrev some_loud : (ss : List FlowSource) → All (FitsFlowSource b) ss
        → ((s : FlowSource) → is_among s ss ≡ true → is_named b s ≡ true) → EachLoud ss
    some_loud = LoudGroups.some_loud sure want b fits reg closed

    abbrev left_loud : (y : ℕ) (n : FlowNode) → slice_get b.nodes y ≡ Some n → EachLoud n.left
    left_loud = LoudGroups.left_loud sure want b fits reg closed

    abbrev right_loud : (y : ℕ) (n : FlowNode) → slice_get b.nodes y ≡ Some n → EachLoud n.right
    right_loud = LoudGroups.right_loud sure want b fits reg closed

    abbrev guard_loud : (y : ℕ) (n : FlowNode) → slice_get b.nodes y ≡ Some n → LoudGuard n.guard
    guard_loud = LoudGroups.guard_loud sure want b fits reg closed

    abbrev sources_loud : (ss : List FlowSource) → All (FitsFlowSource b) ss → EachWanted want ss → LoudCover ss
    sources_loud = LoudGroups.sources_loud sure want b fits reg closed

    abbrev guard_part_loud : (s : Bool) (p y : ℕ) (n : FlowNode) → slice_get b.nodes y ≡ Some n
        → Each Stood p (guard_part want b.nodes c s p y n) → Each LoudNode p (guard_part want b.nodes c s p y n)
    guard_part_loud = LoudGroups.guard_part_loud sure want b fits reg closed

    abbrev left_part_loud : (p y : ℕ) (n : FlowNode) → slice_get b.nodes y ≡ Some n
        → Each Stood p (left_part sure want c p y n) → Each LoudNode p (left_part sure want c p y n)
    left_part_loud = LoudGroups.left_part_loud sure want b fits reg closed

    abbrev right_part_loud : (p y : ℕ) (n : FlowNode) → slice_get b.nodes y ≡ Some n
        → Each Stood p (right_part sure want c p y n) → Each LoudNode p (right_part sure want c p y n)
    right_part_loud = LoudGroups.right_part_loud sure want b fits reg closed

    abbrev write_fits : (j : ℕ) (w : FlowWrite) → slice_get b.writes j ≡ Some w → FitsWrite b w
    write_fits = LoudGroups.write_fits sure want b fits reg closed

    abbrev write_part_loud : (p j : ℕ) (w : FlowWrite) → slice_get b.writes j ≡ Some w
        → Each Stood p (write_part sure want b p j w) → Each LoudNode p (write_part sure want b p j w)
    write_part_loud = LoudGroups.write_part_loud sure want b fits reg closed

    abbrev all_numbers_loud : Each Stood (numbers_at sure want b) (all_numbers sure want b)
        → Each LoudNode (numbers_at sure want b) (all_numbers sure want b)
    all_numbers_loud = LoudGroups.all_numbers_loud sure want b fits reg closed

    self : {A : Type 0} (xs : List A) (i : ℕ) (x : A) (z : ℕ) → z ≡ 0 + i → slice_get xs i ≡ Some x
        → slice_get xs z ≡ Some x
    self xs i x z e s = let d : i ≡ z = omega (arith, e) in subst (λ (q : ℕ). slice_get xs q ≡ Some x) d s

    -- ALL NODES

    each_loud : Each LoudNode 0 all
    each_loud =
        each_append LoudNode 0 (trues sure want b) b.nodes (added sure want b) (omega arith)
        (each_of LoudNode 0 b.nodes (λ y n i e s. let d = self b.nodes y n i e s in
        loud_node sure want b i n (left_loud i n d) (right_loud i n d) (guard_loud i n d)))
        (each_append LoudNode (trues sure want b) (falses sure want b) (trues_region sure want b) _
        (spread_end LoudNode (guard_part want b.nodes c true) (guard_part_size want b.nodes sure true)
        (guard_part_length want b.nodes sure (places sure want b) true) (trues sure want b) 0 b.nodes)
        (spread_all LoudNode (guard_part want b.nodes c true) (guard_part_size want b.nodes sure true)
        (guard_part_length want b.nodes sure (places sure want b) true) b.nodes
        (λ p j n. Each Stood p (guard_part want b.nodes c true p j n))
        (λ p j n s x. guard_part_loud true p j n s x) (trues sure want b) 0 b.nodes (self b.nodes)
        (λ i n z e s. true_stands sure want b i n z e s))
        (each_append LoudNode (falses sure want b) (lefts sure want b) (falses_region sure want b) _
        (spread_end LoudNode (guard_part want b.nodes c false) (guard_part_size want b.nodes sure false)
        (guard_part_length want b.nodes sure (places sure want b) false) (falses sure want b) 0 b.nodes)
        (spread_all LoudNode (guard_part want b.nodes c false) (guard_part_size want b.nodes sure false)
        (guard_part_length want b.nodes sure (places sure want b) false) b.nodes
        (λ p j n. Each Stood p (guard_part want b.nodes c false p j n))
        (λ p j n s x. guard_part_loud false p j n s x) (falses sure want b) 0 b.nodes (self b.nodes)
        (λ i n z e s. false_stands sure want b i n z e s))
        (each_append LoudNode (lefts sure want b) (rights sure want b) (lefts_region sure want b) _
        (spread_end LoudNode (left_part sure want c) (left_size sure want) (left_length sure want c)
        (lefts sure want b) 0 b.nodes)
        (spread_all LoudNode (left_part sure want c) (left_size sure want) (left_length sure want c) b.nodes
        (λ p j n. Each Stood p (left_part sure want c p j n)) (λ p j n s x. left_part_loud p j n s x)
        (lefts sure want b) 0 b.nodes (self b.nodes) (λ i n z e s. left_stands sure want b i n z e s))
        (each_append LoudNode (rights sure want b) (writes_at sure want b) (rights_region sure want b) _
        (spread_end LoudNode (right_part sure want c) (right_size sure want) (right_length sure want c)
        (rights sure want b) 0 b.nodes)
        (spread_all LoudNode (right_part sure want c) (right_size sure want) (right_length sure want c) b.nodes
        (λ p j n. Each Stood p (right_part sure want c p j n)) (λ p j n s x. right_part_loud p j n s x)
        (rights sure want b) 0 b.nodes (self b.nodes) (λ i n z e s. right_stands sure want b i n z e s))
        (each_append LoudNode (writes_at sure want b) (numbers_at sure want b) (writes_region sure want b) _
        (spread_end LoudNode (write_part sure want b) (write_size sure want b) (write_length sure want b)
        (writes_at sure want b) 0 b.writes)
        (spread_all LoudNode (write_part sure want b) (write_size sure want b) (write_length sure want b) b.writes
        (λ p j x. Each Stood p (write_part sure want b p j x)) (λ p j x s y. write_part_loud p j x s y)
        (writes_at sure want b) 0 b.writes (self b.writes)
        (λ i x z e s. write_stands sure want b i x z e s))
        (all_numbers_loud (at_numbers sure want b)))))))

    -- WRITES

    abbrev LoudWrite : FlowWrite → Type 0
    LoudWrite w = EachLoud w.sources

    abbrev LoudWrites : List FlowWrite → Type 0
    LoudWrites [] = Unit {0}
    LoudWrites (w ∷ ws) = LoudWrite w × LoudWrites ws

    filled_loud : (p j : ℕ) (w : FlowWrite) → slice_get b.writes j ≡ Some w
        → Each Stood p (write_part sure want b p j w) → LoudWrite (filled sure want b p w)
    filled_loud p j w e s =
        loud_append sure want b w.sources _
        (some_loud w.sources (write_fits j w e).sources
        (λ x d. or_second (nodes_name x b.nodes) (writes_name x b.writes) (write_named x b.writes j w e d)))
        (go (sure None w.sources) (closed.writes j w e) s)
      where
        go : (t : Bool) → (t ≡ false → EachWanted want w.sources)
            → Each Stood p (cond t [] (list_nodes c p w.sources)) → EachLoud (cond t [] (list_top c p w.sources))
        go true v s = tt
        go false v s = list_top_loud sure want b p w.sources
            (sources_loud w.sources (write_fits j w e).sources (v refl)) s

    all_filled_loud : (p j : ℕ) (ws : List FlowWrite)
        → ((i : ℕ) (w : FlowWrite) (z : ℕ) → z ≡ j + i → slice_get ws i ≡ Some w → slice_get b.writes z ≡ Some w)
        → Each Stood p (region (write_part sure want b) (write_size sure want b) p j ws)
        → LoudWrites (filled_all sure want b p j ws)
    all_filled_loud p j [] at s = tt
    all_filled_loud p j (w ∷ ws) at s =
        let l = write_length sure want b p j w in (
          filled_loud p j w (at zero w j (omega arith) refl) (each_front Stood p (write_part sure want b p j w) _ s),
          all_filled_loud (p + write_size sure want b j w) (suc j) ws
              (λ i x z e d. at (suc i) x z (omega (arith, e)) d)
              (each_back Stood p (write_part sure want b p j w) _ s _ (omega (arith, l))),
        )

    writes_loud : LoudWrites (completed sure want b).writes
    writes_loud = all_filled_loud (writes_at sure want b) 0 b.writes (self b.writes)
        (each_front Stood (writes_at sure want b) (writes_region sure want b) _ (at_writes sure want b))

    -- NOTHING TAKES A SILENT NODE'S TOKEN

    module _ (j : ℕ) (n : FlowNode) (at : slice_get all j ≡ Some n) (silent : is_silent (form_of n.op) ≡ true) where
      not_loud : Loud (Node j) → ⊥
      not_loud l = true≢false (sym silent ∙ l n at)

      differs : (s : FlowSource) → Loud s → same_source (Node j) s ≡ false
      differs (Read r) l = refl
      differs (Node k) l = go (j == k) refl
        where
          go : (t : Bool) → (j == k) ≡ t → (j == k) ≡ false
          go false e = e
          go true e = let d : k ≡ j = grind (arith, nat_tests, e) in
              absurd (not_loud (subst (λ (i : ℕ). Loud (Node i)) d l))

      not_among : (ss : List FlowSource) → EachLoud ss → is_among (Node j) ss ≡ false
      not_among [] l = refl
      not_among (s ∷ ss) l = neither (same_source (Node j) s) (is_among (Node j) ss) (differs s l.0)
          (not_among ss l.1)

      not_guard : (g : Option Guard) → LoudGuard g → guards_by (Node j) g ≡ false
      not_guard None l = refl
      not_guard (Some g) l = differs (Node g.node) l.0

      not_nodes : (p : ℕ) (ns : List FlowNode) → Each LoudNode p ns → nodes_name (Node j) ns ≡ false
      not_nodes p [] l = refl
      not_nodes p (m ∷ ns) l =
          neither (is_among (Node j) m.left) _ (not_among m.left l.0.left)
          (neither (is_among (Node j) m.right) _ (not_among m.right l.0.right)
          (neither (guards_by (Node j) m.guard) (nodes_name (Node j) ns) (not_guard m.guard l.0.guard)
          (not_nodes (suc p) ns l.1)))

      not_writes : (ws : List FlowWrite) → LoudWrites ws → writes_name (Node j) ws ≡ false
      not_writes [] l = refl
      not_writes (w ∷ ws) l = neither (is_among (Node j) w.sources) (writes_name (Node j) ws)
          (not_among w.sources l.0) (not_writes ws l.1)

      -- nothing of a completed block takes the token of a node that hands none on
      pub not_named : is_named (completed sure want b) (Node j) ≡ false
      not_named = neither (nodes_name (Node j) all) _ (not_nodes 0 all each_loud)
          (not_writes (completed sure want b).writes writes_loud)

    -- each guard of a completed block has a sense
    pub guards_have_senses : (j : ℕ) (n : FlowNode) (g : Guard) → slice_get all j ≡ Some n → n.guard ≡ Some g
        → g.sense ≢ Always
    guards_have_senses j n g e eg = (subst LoudGuard eg
        (each_at LoudNode 0 all each_loud j n j (omega arith) e).guard).1

  -- what the block names, the completed one names
  filled_names : (s : FlowSource) (p j : ℕ) (ws : List FlowWrite) → writes_name s ws ≡ true
      → writes_name s (filled_all sure want b p j ws) ≡ true
  filled_names s p j [] e = absurd (true≢false (sym e))
  filled_names s p j (w ∷ ws) e =
      go (or_either (is_among s w.sources) (writes_name s ws) e)
      (λ d. filled_names s (p + write_size sure want b j w) (suc j) ws d)
    where
      go : (is_among s w.sources ≡ true) ⊎ (writes_name s ws ≡ true)
          → (writes_name s ws ≡ true → writes_name s
          (filled_all sure want b (p + write_size sure want b j w) (suc j) ws) ≡ true)
          → writes_name s (filled_all sure want b p j (w ∷ ws)) ≡ true
      go (inl d) f = or_first (is_among s (filled sure want b p w).sources)
          (writes_name s (filled_all sure want b (p + write_size sure want b j w) (suc j) ws))
          (among_front s w.sources _ d)
      go (inr d) f = or_second (is_among s (filled sure want b p w).sources)
          (writes_name s (filled_all sure want b (p + write_size sure want b j w) (suc j) ws)) (f d)

  -- what the block took from, the completed block takes from
  pub still_named : (s : FlowSource) → is_named b s ≡ true → is_named (completed sure want b) s ≡ true
  still_named s e = go (or_either (nodes_name s b.nodes) (writes_name s b.writes) e)
    where
      go : (nodes_name s b.nodes ≡ true) ⊎ (writes_name s b.writes ≡ true) → is_named (completed sure want b) s ≡ true
      go (inl d) = or_first (nodes_name s all) (writes_name s (completed sure want b).writes)
          (named_front s b.nodes (added sure want b) d)
      go (inr d) = or_second (nodes_name s all) (writes_name s (completed sure want b).writes)
          (filled_names s (writes_at sure want b) 0 b.writes d)
