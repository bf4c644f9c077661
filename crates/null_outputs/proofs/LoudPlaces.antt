-- Where the regions of a completed block stand, and which of its lists hand tokens on.
use Rattle.std.proofs.Common.{◌≡◌, ◌≢◌, ℕ, suc, ◌+◌, List, ◌∷◌, ◌++◌, []}
use Rattle.std.proofs.Common.{refl, sym, subst, ◌∙◌, arith, cond, Bool, true, false, not}
use Rattle.std.specs.Prelude.{Option, Some, None, slice_get}
use Rattle.trips_isa.specs.declared.block.Sense.TheVariants.{Always}
use Rattle.trips_isa.specs.Forms.{form_of}
use Rattle.ir_forms.specs.declared.flow.FlowSource.{FlowSource}
use Rattle.ir_forms.specs.declared.flow.FlowSource.TheVariants.{Read, Node}
use Rattle.ir_forms.specs.declared.flow.Guard.{Guard}
use Rattle.ir_forms.specs.declared.flow.FlowNode.{FlowNode}
use Rattle.ir_forms.specs.declared.flow.FlowWrite.{FlowWrite}
use Rattle.ir_forms.specs.declared.flow.FlowBlock.{FlowBlock}
use Rattle.ir_forms.specs.inside.FlowRegular.{is_silent}
use Rattle.null_outputs.specs.inside.Covers.{Sure, Want}
use Rattle.null_outputs.specs.inside.Covers.{Cover, top_of, list_top, pairs, list_nodes}
use Rattle.null_outputs.specs.inside.Groups.{guard_group}
use Rattle.null_outputs.specs.inside.Groups.{guard_part}
use Rattle.null_outputs.specs.inside.Groups.{guard_part_size, left_part, left_size, right_part, right_size}
use Rattle.null_outputs.specs.inside.Groups.{start_of}
use Rattle.null_outputs.specs.inside.Completed.{trues, falses, lefts, rights, writes_at, places, cover}
use Rattle.null_outputs.specs.inside.Completed.{write_part, write_size}
use Rattle.null_outputs.specs.inside.Completed.{numbers_at}
use Rattle.null_outputs.specs.inside.Completed.{all_numbers, trues_region, falses_region, lefts_region, rights_region}
use Rattle.null_outputs.specs.inside.Completed.{writes_region, added, completed}
use Rattle.null_outputs.proofs.Spaces.{guard_part_length, left_length, right_length, some_is}
use Rattle.null_outputs.proofs.Outputs.{write_length}
use Rattle.null_outputs.proofs.Walks.{Each, each_front, each_back, each_of, spread_end}
use Rattle.null_outputs.proofs.Walks.{spread_at}
use Rattle.null_outputs.proofs.NamedSources.{on_has_sense}

module _ (sure : Sure) (want : Want) (b : FlowBlock) where
  abbrev all : List FlowNode
  all = (completed sure want b).nodes

  abbrev c : Cover
  c = cover sure want b

  -- a node of the completed block stands here
  abbrev Stood : ℕ → FlowNode → Type 0
  Stood p n = slice_get all p ≡ Some n

  -- what stands there hands a token on
  abbrev pub Loud : FlowSource → Type 0
  Loud (Read r) = Unit {0}
  Loud (Node j) = (n : FlowNode) → slice_get all j ≡ Some n → is_silent (form_of n.op) ≡ false

  -- each source of a list hands a token on
  abbrev pub EachLoud : List FlowSource → Type 0
  EachLoud [] = Unit {0}
  EachLoud (s ∷ ss) = Loud s × EachLoud ss

  -- a guard has a sense, and its node hands a token on
  abbrev pub LoudGuard : Option Guard → Type 0
  LoudGuard None = Unit {0}
  LoudGuard (Some g) = Loud (Node g.node) × (g.sense ≢ Always)

  -- what a node takes hands tokens on
  pub record LoudNode (p : ℕ) (n : FlowNode) : Type 0 where
    pub left : EachLoud n.left
    pub right : EachLoud n.right
    pub guard : LoudGuard n.guard

  -- where two lists hand tokens on, both in one do
  pub loud_append : (xs ys : List FlowSource) → EachLoud xs → EachLoud ys → EachLoud (xs ++ ys)
  loud_append [] ys x y = y
  loud_append (s ∷ xs) ys x y = (x.0, loud_append xs ys x.1 y)

  -- what stands at a place is loud where its operation is
  pub stood_loud : (p : ℕ) (n : FlowNode) → Stood p n → is_silent (form_of n.op) ≡ false → Loud (Node p)
  stood_loud p n s e m d = subst (λ (x : FlowNode). is_silent (form_of x.op) ≡ false) (some_is n m (sym s ∙ d)) e

  -- a node whose operands and guard hand tokens on is one
  pub loud_node : (p : ℕ) (n : FlowNode) → EachLoud n.left → EachLoud n.right → LoudGuard n.guard → LoudNode p n
  loud_node p n l r g = record { left = l; right = r; guard = g }

  -- LISTS

  -- the cover of each source of a list hands tokens on
  abbrev pub LoudCover : List FlowSource → Type 0
  LoudCover [] = Unit {0}
  LoudCover (s ∷ ss) = EachLoud (c s) × LoudCover ss

  top_loud : (p : ℕ) (s : FlowSource) (rest : List FlowSource) → LoudCover (s ∷ rest)
      → Each Stood p (pairs c p s rest) → EachLoud (top_of c p s rest)
  top_loud p s [] k x = k.0
  top_loud p s (t ∷ rest) k x = (stood_loud p _ x.0 refl, tt)

  pairs_loud : (p : ℕ) (s : FlowSource) (rest : List FlowSource) → LoudCover (s ∷ rest)
      → Each Stood p (pairs c p s rest) → Each LoudNode p (pairs c p s rest)
  pairs_loud p s [] k x = tt
  pairs_loud p s (t ∷ rest) k x = (
    loud_node p _ k.0 (top_loud (suc p) t rest k.1 x.1) tt,
    pairs_loud (suc p) t rest k.1 x.1,
  )

  -- the nodes of a list's completion take what hands tokens on
  pub list_loud : (p : ℕ) (ss : List FlowSource) → LoudCover ss → Each Stood p (list_nodes c p ss)
      → Each LoudNode p (list_nodes c p ss)
  list_loud p [] k x = (loud_node p _ tt tt tt, tt)
  list_loud p (s ∷ rest) k x = pairs_loud p s rest k x

  -- the top of a list's completion hands tokens on
  pub list_top_loud : (p : ℕ) (ss : List FlowSource) → LoudCover ss → Each Stood p (list_nodes c p ss)
      → EachLoud (list_top c p ss)
  list_top_loud p [] k x = (stood_loud p _ x.0 refl, tt)
  list_top_loud p (s ∷ rest) k x = top_loud p s rest k x

  -- the head of a guard's group hands a token on
  pub head_loud : (p : ℕ) (s : Bool) (y : ℕ) (ms : List FlowSource) → Each Stood p (guard_group p s y ms)
      → Loud (Node p)
  head_loud p s y [] x = stood_loud p _ x.0 refl
  head_loud p s y (m ∷ ms) x = stood_loud p _ x.0 refl

  -- the nodes of a guard's group take what hands tokens on
  pub group_loud : (p : ℕ) (s : Bool) (y : ℕ) (ms : List FlowSource) → Loud (Node y) → EachLoud ms
      → Each Stood p (guard_group p s y ms) → Each LoudNode p (guard_group p s y ms)
  group_loud p s y [] l k x = (loud_node p _ tt tt (l, on_has_sense (not s)), tt)
  group_loud p s y (m ∷ ms) l k x = (
    loud_node p _ (stood_loud (suc p) _ x.1.0 refl, k) tt tt,
    (loud_node (suc p) _ tt tt (l, on_has_sense (not s)), tt),
  )

  -- what holds of nodes that stand under a test holds of them where the test is true
  pub when_true : {X : Type 0} (Q : ℕ → X → Type 0) (t : Bool) (p : ℕ) (ns : List X) → Each Q p (cond t ns [])
      → t ≡ true → Each Q p ns
  when_true Q t p ns o e = subst (λ (u : Bool). Each Q p (cond u ns [])) e o

  -- nodes under a test take what hands tokens on, where they do if the test is true
  pub each_if : (t : Bool) (p : ℕ) (ns : List FlowNode) → (t ≡ true → Each LoudNode p ns)
      → Each LoudNode p (cond t ns [])
  each_if true p ns f = f refl
  each_if false p ns f = tt

  -- WHERE THE REGIONS STAND

  all_stood : Each Stood 0 all
  all_stood = each_of Stood 0 all (λ y n i e s. let d : i ≡ y = omega (arith, e) in
      subst (λ (z : ℕ). slice_get all z ≡ Some n) (sym d) s)

  at_trues : Each Stood (trues sure want b) (added sure want b)
  at_trues = each_back Stood 0 b.nodes (added sure want b) all_stood (trues sure want b) (omega arith)

  at_falses : Each Stood (falses sure want b)
      (falses_region sure want b ++ (lefts_region sure want b ++
      (rights_region sure want b ++ (writes_region sure want b ++ all_numbers sure want b))))
  at_falses = each_back Stood (trues sure want b) (trues_region sure want b) _ at_trues (falses sure want b)
      (spread_end Stood (guard_part want b.nodes c true) (guard_part_size want b.nodes sure true)
      (guard_part_length want b.nodes sure (places sure want b) true) (trues sure want b) 0 b.nodes)

  at_lefts : Each Stood (lefts sure want b)
      (lefts_region sure want b ++ (rights_region sure want b ++
      (writes_region sure want b ++ all_numbers sure want b)))
  at_lefts = each_back Stood (falses sure want b) (falses_region sure want b) _ at_falses (lefts sure want b)
      (spread_end Stood (guard_part want b.nodes c false) (guard_part_size want b.nodes sure false)
      (guard_part_length want b.nodes sure (places sure want b) false) (falses sure want b) 0 b.nodes)

  at_rights : Each Stood (rights sure want b)
      (rights_region sure want b ++ (writes_region sure want b ++ all_numbers sure want b))
  at_rights = each_back Stood (lefts sure want b) (lefts_region sure want b) _ at_lefts (rights sure want b)
      (spread_end Stood (left_part sure want c) (left_size sure want) (left_length sure want c)
      (lefts sure want b) 0 b.nodes)

  -- where the nodes of the writes stand
  pub at_writes : Each Stood (writes_at sure want b) (writes_region sure want b ++ all_numbers sure want b)
  at_writes = each_back Stood (rights sure want b) (rights_region sure want b) _ at_rights (writes_at sure want b)
      (spread_end Stood (right_part sure want c) (right_size sure want) (right_length sure want c)
      (rights sure want b) 0 b.nodes)

  -- where the nodes of the numbers of stores stand
  pub at_numbers : Each Stood (numbers_at sure want b) (all_numbers sure want b)
  at_numbers = each_back Stood (writes_at sure want b) (writes_region sure want b) _ at_writes
      (numbers_at sure want b)
      (spread_end Stood (write_part sure want b) (write_size sure want b) (write_length sure want b)
      (writes_at sure want b) 0 b.writes)

  -- where a node's group of a guard on true stands
  pub true_stands : (y : ℕ) (n : FlowNode) (i : ℕ) → i ≡ 0 + y → slice_get b.nodes y ≡ Some n
      → Each Stood ((places sure want b).on_true i)
      (guard_part want b.nodes c true ((places sure want b).on_true i) i n)
  true_stands y n i e s =
      spread_at Stood (guard_part want b.nodes c true) (guard_part_size want b.nodes sure true)
      (guard_part_length want b.nodes sure (places sure want b) true) (trues sure want b) 0 b.nodes
      (each_front Stood (trues sure want b) (trues_region sure want b) _ at_trues) y n i e s

  -- where a node's group of a guard on false stands
  pub false_stands : (y : ℕ) (n : FlowNode) (i : ℕ) → i ≡ 0 + y → slice_get b.nodes y ≡ Some n
      → Each Stood ((places sure want b).on_false i)
      (guard_part want b.nodes c false ((places sure want b).on_false i) i n)
  false_stands y n i e s =
      spread_at Stood (guard_part want b.nodes c false) (guard_part_size want b.nodes sure false)
      (guard_part_length want b.nodes sure (places sure want b) false) (falses sure want b) 0 b.nodes
      (each_front Stood (falses sure want b) (falses_region sure want b) _ at_falses) y n i e s

  -- where the completion of a node's left operand stands
  pub left_stands : (y : ℕ) (n : FlowNode) (i : ℕ) → i ≡ 0 + y → slice_get b.nodes y ≡ Some n
      → Each Stood ((places sure want b).left i) (left_part sure want c ((places sure want b).left i) i n)
  left_stands y n i e s =
      spread_at Stood (left_part sure want c) (left_size sure want) (left_length sure want c)
      (lefts sure want b) 0 b.nodes
      (each_front Stood (lefts sure want b) (lefts_region sure want b) _ at_lefts) y n i e s

  -- where the completion of a node's right operand stands
  pub right_stands : (y : ℕ) (n : FlowNode) (i : ℕ) → i ≡ 0 + y → slice_get b.nodes y ≡ Some n
      → Each Stood ((places sure want b).right i) (right_part sure want c ((places sure want b).right i) i n)
  right_stands y n i e s =
      spread_at Stood (right_part sure want c) (right_size sure want) (right_length sure want c)
      (rights sure want b) 0 b.nodes
      (each_front Stood (rights sure want b) (rights_region sure want b) _ at_rights) y n i e s

  -- where the completion of a write stands
  pub write_stands : (y : ℕ) (x : FlowWrite) (i : ℕ) → i ≡ 0 + y → slice_get b.writes y ≡ Some x
      → Each Stood (start_of (write_size sure want b) (writes_at sure want b) 0 b.writes i)
      (write_part sure want b (start_of (write_size sure want b) (writes_at sure want b) 0 b.writes i) i x)
  write_stands y x i e s =
      spread_at Stood (write_part sure want b) (write_size sure want b) (write_length sure want b)
      (writes_at sure want b) 0 b.writes
      (each_front Stood (writes_at sure want b) (writes_region sure want b) _ at_writes) y x i e s
