-- Where the old nodes and each region of a completed block stand among its ranks.
use Rattle.std.proofs.Common.{◌≡◌, ℕ, zero, suc, ◌+◌, ◌<◌, ◌≤◌, List, ◌∷◌, ◌++◌, []}
use Rattle.std.proofs.Common.{length, sym, ap, subst, ◌∙◌, arith}
use Rattle.std.proofs.Common.{true, false, length-append}
use Rattle.std.specs.Prelude.{Option, Some, None, slice_get}
use Rattle.std.proofs.lemmas.Option.{slice_get_within, get_or_from_slice_get}
use Rattle.ir_forms.specs.declared.flow.FlowSource.{FlowSource}
use Rattle.ir_forms.specs.declared.flow.FlowSource.TheVariants.{Read, Node}
use Rattle.ir_forms.specs.declared.flow.Guard.{Guard}
use Rattle.ir_forms.specs.declared.flow.FlowNode.{FlowNode}
use Rattle.ir_forms.specs.declared.flow.FlowWrite.{FlowWrite}
use Rattle.ir_forms.specs.declared.flow.FlowBlock.{FlowBlock}
use Rattle.ir_forms.specs.inside.FlowFits.{FitsFlowSource, RisesFrom}
use Rattle.null_outputs.specs.inside.Completed.{trues, falses, lefts, rights, writes_at, places, cover}
use Rattle.null_outputs.specs.inside.Completed.{write_part, write_size, numbers_at}
use Rattle.null_outputs.specs.inside.Completed.{all_numbers}
use Rattle.null_outputs.specs.inside.Completed.{writes_region, trues_region, falses_region, lefts_region}
use Rattle.null_outputs.specs.inside.Completed.{rights_region, added, completed}
use Rattle.null_outputs.specs.inside.Covers.{Want}
use Rattle.null_outputs.specs.inside.Covers.{Cover, Sure}
use Rattle.null_outputs.specs.inside.Groups.{guard_part, guard_part_size, left_part, left_size, right_part}
use Rattle.null_outputs.specs.inside.Groups.{right_size, region, start_of}
use Rattle.null_outputs.proofs.Spaces.{guard_part_length, left_length, right_length}
use Rattle.null_outputs.proofs.Covers.{within}
use Rattle.null_outputs.proofs.Outputs.{write_length}
use Rattle.null_outputs.proofs.Walks.{Each, each_front, each_back, each_at, each_of, spread_end}
use Rattle.null_outputs.proofs.Walks.{spread_at}
use Rattle.null_outputs.proofs.Ranks.{width}
use Rattle.null_outputs.proofs.Ranks.{base_of, old_ranks, guard_ranks, left_ranks, right_ranks}
use Rattle.null_outputs.proofs.Ranks.{write_ranks}
use Rattle.null_outputs.proofs.Ranks.{all_number_ranks, true_ranks, false_ranks, lefts_ranks, rights_ranks}
use Rattle.null_outputs.proofs.Ranks.{writes_ranks, new_ranks, ranks, rank_in, old_length, guard_fits}
use Rattle.null_outputs.proofs.Ranks.{left_fits, right_fits, write_fits, numbers_fit}

abbrev any : {X : Type 0} → ℕ → X → Type 0
any p x = Unit {0}

module _ {A : Type 0} {X Y : Type 0} (part : ℕ → ℕ → A → List X) (other : ℕ → ℕ → A → List Y) (size : ℕ → A → ℕ)
    (fits : (p j : ℕ) (x : A) → length (part p j x) ≡ size j x)
    (fits2 : (p j : ℕ) (x : A) → length (other p j x) ≡ size j x) where
  same_length : (p : ℕ) (xs : List A) → length (region part size p 0 xs) ≡ length (region other size p 0 xs)
  same_length p xs =
      let a = spread_end (λ (i : ℕ) (x : X). Unit {0}) part size fits p 0 xs in
      let c = spread_end (λ (i : ℕ) (x : Y). Unit {0}) other size fits2 p 0 xs in
      omega (arith, a, c)

numbers_same : (sure : Sure) (want : Want) (b : FlowBlock) (rank : ℕ → ℕ)
    → length (all_number_ranks sure want b rank) ≡ length (all_numbers sure want b)
unfolding all_numbers all_number_ranks
numbers_same sure want b rank = numbers_fit sure want b rank 32 (numbers_at sure want b) 0

module _ (sure : Sure) (want : Want) (b : FlowBlock) (rank : ℕ → ℕ) where
  abbrev total : ℕ
  total = length (completed sure want b).nodes

  sum_six : (o a c d e f u v w x y z : ℕ) → a ≡ u → c ≡ v → d ≡ w → e ≡ x → f ≡ y → o ≡ z
      → a + (c + (d + (e + (f + o)))) ≡ u + (v + (w + (x + (y + z))))
  sum_six o a c d e f u v w x y z p q r s t i = omega (arith, p, q, r, s, t, i)

  six_length : {X : Type 0} (a c d e f g : List X)
      → length (a ++ (c ++ (d ++ (e ++ (f ++ g)))))
      ≡ length a + (length c + (length d + (length e + (length f + length g))))
  six_length a c d e f g =
      omega (
        arith,
        length-append a (c ++ (d ++ (e ++ (f ++ g)))),
        length-append c (d ++ (e ++ (f ++ g))),
        length-append d (e ++ (f ++ g)),
        length-append e (f ++ g),
        length-append f g,
      )

  new_length : length (new_ranks sure want b rank) ≡ length (added sure want b)
  new_length =
      six_length (true_ranks sure want b rank) (false_ranks sure want b rank) (lefts_ranks sure want b rank)
      (rights_ranks sure want b rank) (writes_ranks sure want b rank) (all_number_ranks sure want b rank)
      ∙ (sum_six _ _ _ _ _ _ _ _ _ _ _ _
      (same_length (guard_ranks sure want b rank true) (guard_part want b.nodes (cover sure want b) true)
      (guard_part_size want b.nodes sure true) (guard_fits sure want b rank true)
      (guard_part_length want b.nodes sure (places sure want b) true) (trues sure want b) b.nodes)
      (same_length (guard_ranks sure want b rank false) (guard_part want b.nodes (cover sure want b) false)
      (guard_part_size want b.nodes sure false) (guard_fits sure want b rank false)
      (guard_part_length want b.nodes sure (places sure want b) false) (falses sure want b) b.nodes)
      (same_length (left_ranks sure want b rank) (left_part sure want (cover sure want b)) (left_size sure want)
      (left_fits sure want b rank) (left_length sure want (cover sure want b)) (lefts sure want b) b.nodes)
      (same_length (right_ranks sure want b rank) (right_part sure want (cover sure want b))
      (right_size sure want) (right_fits sure want b rank) (right_length sure want (cover sure want b))
      (rights sure want b) b.nodes)
      (same_length (write_ranks sure want b rank) (write_part sure want b) (write_size sure want b)
      (write_fits sure want b rank) (write_length sure want b) (writes_at sure want b) b.writes)
      (numbers_same sure want b rank)
      ∙ sym (six_length (trues_region sure want b) (falses_region sure want b) (lefts_region sure want b)
      (rights_region sure want b) (writes_region sure want b) (all_numbers sure want b)))

  ranks_length : length (ranks sure want b rank) ≡ total
  ranks_length = omega (
    arith,
    length-append (old_ranks sure want b rank 0 b.nodes)
        (new_ranks sure want b rank),
    length-append b.nodes (added sure want b),
    new_length,
    old_length sure want b rank 0 b.nodes,
  )

  -- a node's number and rank
  pub record Stands (p r : ℕ) : Type 0 where
    pub is : rank_in sure want b rank p ≡ r
    pub within : p < total

  all_stand : Each Stands 0 (ranks sure want b rank)
  unfolding rank_in
  all_stand =
      each_of Stands 0 (ranks sure want b rank)
      (λ y r i e s.
      let ei : i ≡ y = omega (arith, e) in
      let si : slice_get (ranks sure want b rank) i ≡ Some r =
      subst (λ (z : ℕ). slice_get (ranks sure want b rank) z ≡ Some r) (sym ei) s in
      record {
        is = get_or_from_slice_get (ranks sure want b rank) i r 0 si;
        within = let w = slice_get_within (ranks sure want b rank) i r si in omega (arith, w, ranks_length);
      })

  abbrev c : Cover
  c = cover sure want b

  abbrev at_ : ℕ → ℕ
  at_ = rank_in sure want b rank

  abbrev base : ℕ → ℕ
  base = base_of sure want b rank

  abbrev w : ℕ
  w = width sure want b rank

  -- SOURCES

  -- a source is in the completed block, with a rank below a limit
  abbrev pub SourceAt : ℕ → FlowSource → Type 0
  SourceAt lim s = FitsFlowSource (completed sure want b) s × RisesFrom at_ lim s

  -- the same of each source of a list
  abbrev pub EachAt : ℕ → List FlowSource → Type 0
  EachAt lim [] = Unit {0}
  EachAt lim (s ∷ ss) = SourceAt lim s × EachAt lim ss

  -- the same of a guard's node
  abbrev pub GuardAt : ℕ → Option Guard → Type 0
  GuardAt lim None = Unit {0}
  GuardAt lim (Some g) = (g.node < total) × (at_ g.node < lim)

  source_weaker : (i j : ℕ) → i ≤ j → (s : FlowSource) → SourceAt i s → SourceAt j s
  source_weaker i j l (Read r) x = x
  source_weaker i j l (Node z) x = let y = x.1 in (x.0, omega (arith, y, l))

  -- what stands below a limit stands below a higher one
  pub weaker : (i j : ℕ) → i ≤ j → (ss : List FlowSource) → EachAt i ss → EachAt j ss
  weaker i j l [] x = tt
  weaker i j l (s ∷ ss) x = (source_weaker i j l s x.0, weaker i j l ss x.1)

  -- what stands below a limit in two lists does so in both together
  pub at_append : (i : ℕ) (xs ys : List FlowSource) → EachAt i xs → EachAt i ys → EachAt i (xs ++ ys)
  at_append i [] ys x y = y
  at_append i (s ∷ xs) ys x y = (x.0, at_append i xs ys x.1 y)

  -- a node of a rank below a limit is such a source
  pub stand_source : (p r lim : ℕ) → Stands p r → r < lim → SourceAt lim (Node p)
  stand_source p r lim s l = let e = s.is in (s.within, omega (arith, e, l))

  -- what stands below a node's rank stands below the node
  pub at_rank : (p r : ℕ) (ss : List FlowSource) → Stands p r → EachAt r ss → EachAt (at_ p) ss
  at_rank p r ss s x = subst (λ (i : ℕ). EachAt i ss) (sym s.is) x

  -- what stands in the old part and in each region
  old_at : (j : ℕ) (ns : List FlowNode) (y : ℕ) (n : FlowNode) (i : ℕ) → i ≡ j + y → slice_get ns y ≡ Some n
      → slice_get (old_ranks sure want b rank j ns) y ≡ Some (base i)
  old_at j [] y n i e s = absurd (cc)
  old_at j (m ∷ ns) zero n i e s = let d : j ≡ i = omega (arith, e) in ap (λ (z : ℕ). Some (base z)) d
  old_at j (m ∷ ns) (suc y) n i e s = old_at (suc j) ns y n i (omega (arith, e)) s

  -- an old node has the rank of its base
  pub old_stands : (y : ℕ) (n : FlowNode) → slice_get b.nodes y ≡ Some n → Stands y (base y)
  old_stands y n e =
      each_at Stands 0 (old_ranks sure want b rank 0 b.nodes)
      (each_front Stands 0 (old_ranks sure want b rank 0 b.nodes) (new_ranks sure want b rank) all_stand)
      y (base y) y (omega arith) (old_at 0 b.nodes y n y (omega arith) e)

  at_trues : Each Stands (trues sure want b) (new_ranks sure want b rank)
  at_trues = each_back Stands 0 (old_ranks sure want b rank 0 b.nodes) (new_ranks sure want b rank) all_stand
      (trues sure want b) (omega (arith, old_length sure want b rank 0 b.nodes))

  at_falses : Each Stands (falses sure want b)
      (false_ranks sure want b rank ++ (lefts_ranks sure want b rank ++
      (rights_ranks sure want b rank ++ (writes_ranks sure want b rank ++ all_number_ranks sure want b rank))))
  at_falses = each_back Stands (trues sure want b) (true_ranks sure want b rank) _ at_trues (falses sure want b)
      (spread_end Stands (guard_ranks sure want b rank true) (guard_part_size want b.nodes sure true)
      (guard_fits sure want b rank true) (trues sure want b) 0 b.nodes)

  at_lefts : Each Stands (lefts sure want b)
      (lefts_ranks sure want b rank ++ (rights_ranks sure want b rank ++
      (writes_ranks sure want b rank ++ all_number_ranks sure want b rank)))
  at_lefts = each_back Stands (falses sure want b) (false_ranks sure want b rank) _ at_falses (lefts sure want b)
      (spread_end Stands (guard_ranks sure want b rank false) (guard_part_size want b.nodes sure false)
      (guard_fits sure want b rank false) (falses sure want b) 0 b.nodes)

  at_rights : Each Stands (rights sure want b)
      (rights_ranks sure want b rank ++ (writes_ranks sure want b rank ++ all_number_ranks sure want b rank))
  at_rights = each_back Stands (lefts sure want b) (lefts_ranks sure want b rank) _ at_lefts (rights sure want b)
      (spread_end Stands (left_ranks sure want b rank) (left_size sure want) (left_fits sure want b rank)
      (lefts sure want b) 0 b.nodes)

  -- the ranks of the writes stand where their nodes do
  pub at_writes : Each Stands (writes_at sure want b)
      (writes_ranks sure want b rank ++ all_number_ranks sure want b rank)
  at_writes = each_back Stands (rights sure want b) (rights_ranks sure want b rank) _ at_rights
      (writes_at sure want b)
      (spread_end Stands (right_ranks sure want b rank) (right_size sure want) (right_fits sure want b rank)
      (rights sure want b) 0 b.nodes)

  -- the ranks of the numbers of stores stand where their nodes do
  pub at_numbers : Each Stands (numbers_at sure want b) (all_number_ranks sure want b rank)
  at_numbers = each_back Stands (writes_at sure want b) (writes_ranks sure want b rank) _ at_writes
      (numbers_at sure want b)
      (spread_end Stands (write_ranks sure want b rank) (write_size sure want b) (write_fits sure want b rank)
      (writes_at sure want b) 0 b.writes)

  -- the ranks of a group of a guard on true stand where its nodes do
  pub true_stands : (y : ℕ) (n : FlowNode) (i : ℕ) → i ≡ 0 + y → slice_get b.nodes y ≡ Some n
      → Each Stands ((places sure want b).on_true i)
      (guard_ranks sure want b rank true ((places sure want b).on_true i) i n)
  true_stands y n i e s =
      spread_at Stands (guard_ranks sure want b rank true) (guard_part_size want b.nodes sure true)
      (guard_fits sure want b rank true) (trues sure want b) 0 b.nodes
      (each_front Stands (trues sure want b) (true_ranks sure want b rank) _ at_trues) y n i e s

  -- the ranks of a group of a guard on false stand where its nodes do
  pub false_stands : (y : ℕ) (n : FlowNode) (i : ℕ) → i ≡ 0 + y → slice_get b.nodes y ≡ Some n
      → Each Stands ((places sure want b).on_false i)
      (guard_ranks sure want b rank false ((places sure want b).on_false i) i n)
  false_stands y n i e s =
      spread_at Stands (guard_ranks sure want b rank false) (guard_part_size want b.nodes sure false)
      (guard_fits sure want b rank false) (falses sure want b) 0 b.nodes
      (each_front Stands (falses sure want b) (false_ranks sure want b rank) _ at_falses) y n i e s

  -- the ranks of a left operand's completion stand where its nodes do
  pub left_stands : (y : ℕ) (n : FlowNode) (i : ℕ) → i ≡ 0 + y → slice_get b.nodes y ≡ Some n
      → Each Stands ((places sure want b).left i) (left_ranks sure want b rank ((places sure want b).left i) i n)
  left_stands y n i e s =
      spread_at Stands (left_ranks sure want b rank) (left_size sure want) (left_fits sure want b rank)
      (lefts sure want b) 0 b.nodes
      (each_front Stands (lefts sure want b) (lefts_ranks sure want b rank) _ at_lefts) y n i e s

  -- the ranks of a right operand's completion stand where its nodes do
  pub right_stands : (y : ℕ) (n : FlowNode) (i : ℕ) → i ≡ 0 + y → slice_get b.nodes y ≡ Some n
      → Each Stands ((places sure want b).right i)
      (right_ranks sure want b rank ((places sure want b).right i) i n)
  right_stands y n i e s =
      spread_at Stands (right_ranks sure want b rank) (right_size sure want) (right_fits sure want b rank)
      (rights sure want b) 0 b.nodes
      (each_front Stands (rights sure want b) (rights_ranks sure want b rank) _ at_rights) y n i e s

  -- the ranks of a write's completion stand where its nodes do
  pub write_stands : (y : ℕ) (x : FlowWrite) (i : ℕ) → i ≡ 0 + y → slice_get b.writes y ≡ Some x
      → Each Stands (start_of (write_size sure want b) (writes_at sure want b) 0 b.writes i)
      (write_ranks sure want b rank (start_of (write_size sure want b) (writes_at sure want b) 0 b.writes i) i
      x)
  write_stands y x i e s =
      spread_at Stands (write_ranks sure want b rank) (write_size sure want b) (write_fits sure want b rank)
      (writes_at sure want b) 0 b.writes
      (each_front Stands (writes_at sure want b) (writes_ranks sure want b rank) _ at_writes) y x i e s
