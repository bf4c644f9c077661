-- The flow block of a hyper block that is straight but for a test between two jumps: its outputs hang
-- on nodes that are not guarded, its guards are one node, and what it costs.
use Rattle.std.proofs.Common.{◌≡◌, ℕ, zero, suc, ◌+◌, ◌-◌, ◌<◌, ◌≤◌, Bool, true, false, ◌||◌, List}
use Rattle.std.proofs.Common.{[], ◌∷◌, ◌++◌, length, refl, sym, ap, subst, ◌∙◌, arith, length-append, ◌⊎◌, inl, inr}
use Rattle.std.proofs.Common.{cond, nat_eq, nat_lt}
use Rattle.std.specs.Prelude.{Option, Some, slice_get}
use Rattle.std.proofs.lemmas.Bool.{cases_lt}
use Rattle.std.proofs.lemmas.Bool.Decides.{nat_tests}
use Rattle.trips_isa.specs.declared.form.Form.{Form}
use Rattle.trips_isa.specs.declared.form.Form.TheVariants as form
use Rattle.trips_isa.specs.Forms.{form_of, role_of}
use Rattle.block_cases.specs.Choosers.{is_copy}
use Rattle.ir_forms.specs.declared.flow.FlowSource.{FlowSource}
use Rattle.ir_forms.specs.declared.flow.FlowSource.TheVariants.{Node}
use Rattle.ir_forms.specs.declared.flow.Guard.{Guard}
use Rattle.ir_forms.specs.declared.flow.FlowNode.{FlowNode}
use Rattle.ir_forms.specs.inside.FlowFits.{in_mask}
use Rattle.ir_forms.specs.inside.HyperCode.{Block}
use Rattle.ir_forms.specs.inside.HyperFits.{FitsItems, ifs_in, items_in}
use Rattle.hyper_narrow.specs.inside.NarrowedCode.{Narrowed}
use Rattle.hyper_build.specs.inside.Smallness.{TestsJump}
use Rattle.predication.specs.inside.Environments.{no_bits, at_start, member}
use Rattle.predication.specs.inside.Converted.{begun, ended, all_nodes, all_touched, all_written, reads_in}
use Rattle.predication.specs.inside.Converted.{nodes_read, writes_read, has_store, stores_as, mask_below, predicated}
use Rattle.predication.proofs.Regular.{mask_says, read_once}
use Rattle.predication.specs.inside.Ifs.{touched}
use Rattle.predication.specs.inside.Tails.{tail_touched}
use Rattle.null_outputs.specs.inside.Groups.{store_source, stores_of}
use Rattle.null_outputs.specs.inside.Straight.{IsFed, IsStraight}
use Rattle.fan_out.specs.inside.Counts.{nodes_kinds, writes_kinds}
use Rattle.fan_out.specs.inside.Targeted.{count_insts}
use Rattle.c_compile_blocks.specs.inside.Prices.{price}
use Rattle.c_compile_blocks.specs.inside.Costs.{items_cost, tail_cost}
use Rattle.c_compile_blocks.proofs.Prices.{Feeding, few_insts}
use Rattle.c_compile_blocks.proofs.Flat.{IsFlat, flat_at, uses_append, AreUsed, used_append, used_grow}
use Rattle.c_compile_blocks.proofs.Flat.{price_append, ReadOnly, read_append, read_of_all, Told, told_front}
use Rattle.c_compile_blocks.proofs.Flat.{told_back, told_from, Good, good_append}
use Rattle.c_compile_blocks.proofs.Pieces.{IsSet, ArePlain}
use Rattle.c_compile_blocks.proofs.Items.{NamesIn, IsOut, items_out}
use Rattle.c_compile_blocks.proofs.TailNodes.{IsGuarded, AreGuarded, NamesEnd, IsEnd, tail_end}
use Rattle.c_compile_blocks.proofs.Members.{member_split, written_set}
use Rattle.c_compile_blocks.proofs.PlainWrites.{or_none, EachWrite, writes_each, FromFront, from_set, fronts_price}
use Rattle.c_compile_blocks.proofs.PlainWrites.{fronts_read, front_at}

-- a block without if-items, whose registers fulfil P where they are read
pub record IsPlainBlock (P : ℕ → Type 0) (b : Block) : Type 0 where
  pub items : FitsItems b.items
  pub plain : ifs_in b.items ≡ 0
  pub jumps : TestsJump b.tail
  pub named : NamesIn P b.items
  pub ends : NamesEnd P b.tail

-- a node that is no mov
abbrev pub IsNoMov : List FlowNode → ℕ → Type 0
IsNoMov ns k = (n : FlowNode) → slice_get ns k ≡ Some n → is_copy (role_of n.op) ≡ false

pub told_all : (ns : List FlowNode) → Told (IsNoMov ns) 0 ns
told_all ns = told_from (IsNoMov ns) ns 0 (λ i k n q s e m z.
    let at : i ≡ k = omega (arith, q) in
    let same : m ≡ n = one (slice_get ns k) z (ap (slice_get ns) (sym at) ∙ s) in
    ap (λ (a : FlowNode). is_copy (role_of a.op)) same ∙ e)
  where
    one : {m n : FlowNode} (o : Option FlowNode) → o ≡ Some m → o ≡ Some n → m ≡ n
    one o a b = cc

-- LISTS

pub regroup : (a b c : List FlowNode) → a ++ (b ++ c) ≡ (a ++ b) ++ c
regroup [] b c = refl
regroup (n ∷ a) b c = ap (λ (l : List FlowNode). n ∷ l) (regroup a b c)

behind_got : (xs ys : List FlowNode) (i : ℕ) → length xs ≤ i
    → slice_get (xs ++ ys) i ≡ slice_get ys (i - length xs)
behind_got [] ys i l = let e : i ≡ i - 0 = omega arith in ap (slice_get ys) e
behind_got (x ∷ xs) ys zero l = absurd (omega (arith, l))
behind_got (x ∷ xs) ys (suc i) l =
    let e : i - length xs ≡ suc i - suc (length xs) = omega arith in
    behind_got xs ys i (omega (arith, l)) ∙ ap (slice_get ys) e

-- an item of the first of two lists stands in both together at the same place
pub front_got : (xs ys : List FlowNode) (i : ℕ) → i < length xs → slice_get (xs ++ ys) i ≡ slice_get xs i
front_got [] ys i l = absurd (omega (arith, l))
front_got (x ∷ xs) ys zero l = refl
front_got (x ∷ xs) ys (suc i) l = front_got xs ys i (omega (arith, l))

-- GUARDED EXITS

guarded_used : (c : ℕ) (l : List FlowNode) (j : ℕ) (ns : List FlowNode) → AreGuarded c ns → AreUsed l j ns
guarded_used c l j [] a = tt
guarded_used c l j (n ∷ ns) a =
    let b = a.0 in
    ((λ e. absurd (clash (form_of n.op) b.branch e)), guarded_used c l (suc j) ns a.1)
  where
    clash : (F : Form) → F ≡ form.Branch → F ≡ form.Constant → ⊥
    clash F x y = absurd (cc)

guarded_reads : (P : ℕ → Type 0) (c : ℕ) (ns : List FlowNode) → AreGuarded c ns → ReadOnly P ns
guarded_reads P c [] a = tt
guarded_reads P c (n ∷ ns) a =
    let b = a.0 in (
      (λ q e. absurd (let z = ap (λ (ss : List FlowSource). reads_in ss q) (sym b.left) ∙ e in cc)),
      (λ q e. absurd (let z = ap (λ (ss : List FlowSource). reads_in ss q) (sym b.right) ∙ e in cc)),
      guarded_reads P c ns a.1,
    )

branch_stores : (F : Form) (n : FlowNode) (k : ℕ) → F ≡ form.Branch → stores_as F n k ≡ false
branch_stores form.Branch n k e = refl
branch_stores form.General n k e = absurd (cc)
branch_stores form.Immediate n k e = absurd (cc)
branch_stores form.Load n k e = absurd (cc)
branch_stores form.Store n k e = absurd (cc)
branch_stores form.Constant n k e = absurd (cc)

guarded_stores : (c k : ℕ) (ns : List FlowNode) → AreGuarded c ns → has_store ns k ≡ false
guarded_stores c k [] a = refl
guarded_stores c k (n ∷ ns) a =
    let b = a.0 in
    or_none (stores_as (form_of n.op) n k) (has_store ns k) (branch_stores (form_of n.op) n k b.branch)
    (guarded_stores c k ns a.1)

-- a store of a number that some store among the first has
stored_fed : (c k : ℕ) (a b : List FlowNode) (j : ℕ) → AreGuarded c b → has_store (a ++ b) k ≡ true
    → IsFed (j + length a) (stores_of j (a ++ b) k)
stored_fed c k [] b j g e = absurd (let z = sym (guarded_stores c k b g) ∙ e in cc)
stored_fed c k (n ∷ a) b j g e =
    let z : suc j + length a ≡ j + suc (length a) = omega arith in
    by (form_of n.op) e
    (λ d. subst (λ (i : ℕ). IsFed i (stores_of (suc j) (a ++ b) k)) z (stored_fed c k a b (suc j) g d))
  where
    at : (t : Bool) → nat_eq n.number k ≡ t → (nat_eq n.number k || has_store (a ++ b) k) ≡ true
        → (has_store (a ++ b) k ≡ true → IsFed (j + suc (length a)) (stores_of (suc j) (a ++ b) k))
        → IsFed (j + suc (length a)) (cond t (Node j ∷ []) [] ++ stores_of (suc j) (a ++ b) k)
    at true q d f = omega arith
    at false q d f = f (let y = ap (λ (t : Bool). t || has_store (a ++ b) k) (sym q) ∙ d in y)

    by : (F : Form) → (stores_as F n k || has_store (a ++ b) k) ≡ true
        → (has_store (a ++ b) k ≡ true → IsFed (j + suc (length a)) (stores_of (suc j) (a ++ b) k))
        → IsFed (j + suc (length a)) (store_source F n j k ++ stores_of (suc j) (a ++ b) k)
    by form.Store d f = at (nat_eq n.number k) refl d f
    by form.General d f = f d
    by form.Immediate d f = f d
    by form.Load d f = f d
    by form.Branch d f = f d
    by form.Constant d f = f d

-- THE BLOCK

module _ (P : ℕ → Type 0) (narrow : Narrowed) (st : IsPlainBlock P narrow.block) where
  abbrev b : Block
  b = narrow.block

  abbrev ns : List FlowNode
  ns = all_nodes b

  abbrev T : ℕ → Type 0
  T = IsNoMov ns

  out : IsOut T P 0 0 at_start b.items (begun b)
  out =
      items_out T P b.items 0 0 at_start no_bits st.items st.plain st.named (λ r. inl refl) (λ r k e. absurd (cc))
      (told_front T 0 (begun b).nodes (ended b).nodes (told_all ns))

  size : 0 + length (begun b).nodes ≡ length (begun b).nodes
  size = omega arith

  finish : IsEnd T P (length (begun b).nodes) (begun b).env b.tail (ended b)
  finish =
      let o = out in
      tail_end T P b.tail (length (begun b).nodes) 0 (begun b).env (begun b).bits st.jumps st.ends
      (subst (λ (i : ℕ). ArePlain i (begun b).env) size o.env) o.bits
      (subst (λ (i : ℕ). Told T i (ended b).nodes) size (told_back T 0 (begun b).nodes (ended b).nodes (told_all ns)))

  -- the nodes that are not guarded
  abbrev ahead : List FlowNode
  ahead = (begun b).nodes ++ finish.front

  nodes_are : ns ≡ ahead ++ finish.behind
  nodes_are =
      let e = finish in
      ap (λ (l : List FlowNode). (begun b).nodes ++ l) e.nodes ∙ regroup (begun b).nodes e.front e.behind

  good : Good P 0 ahead (items_cost b.items + finish.front_cost)
  good =
      let o = out in
      let e = finish in
      good_append P 0 (begun b).nodes e.front (items_cost b.items) e.front_cost o.good
      (subst (λ (i : ℕ). Good P i e.front e.front_cost) (sym size) e.good)

  costs : price ns ≤ items_cost b.items + tail_cost b.tail
  costs =
      let e = finish in
      let g = good in
      let a = ap price nodes_are in
      let c = price_append ahead e.behind in
      let d = g.cost in
      let u = e.cost in
      omega (arith, a, c, d, u)

  used : AreUsed ns 0 ns
  used =
      let e = finish in
      let g = good in
      subst (λ (l : List FlowNode). AreUsed l 0 l) (sym nodes_are)
      (used_append (ahead ++ e.behind) 0 ahead e.behind
      (used_grow ahead (ahead ++ e.behind) (λ s. let h = uses_append s ahead e.behind in omega (arith, h)) 0 ahead
      g.used)
      (guarded_used e.chooser (ahead ++ e.behind) (0 + length ahead) e.behind e.after))

  reads : ReadOnly P ns
  reads =
      let e = finish in
      let g = good in
      subst (ReadOnly P) (sym nodes_are)
      (read_append P ahead e.behind g.reads (guarded_reads P e.chooser e.behind e.after))

  set_all : (r : ℕ) → member r (all_touched b) ≡ true → IsSet (length ahead) ((ended b).env r)
  set_all r m = go (member_split r (touched b.items) (tail_touched b.tail) m)
    where
      at : length (begun b).nodes + length finish.front ≡ length ahead
      at = sym (length-append (begun b).nodes finish.front)

      go : (member r (touched b.items) ≡ true) ⊎ (member r (tail_touched b.tail) ≡ true)
          → IsSet (length ahead) ((ended b).env r)
      go (inl x) =
          let o = out in
          let e = finish in
          subst (λ (i : ℕ). IsSet i ((ended b).env r)) at
          (e.kept r (subst (λ (i : ℕ). IsSet i ((begun b).env r)) size (o.sets r x)))
      go (inr x) = let e = finish in subst (λ (i : ℕ). IsSet i ((ended b).env r)) at (e.sets r x)

  writes : EachWrite (FromFront (length ahead)) (predicated narrow).writes
  writes =
      writes_each (FromFront (length ahead)) (ended b).env (all_written narrow) 128
      (λ r m. from_set (length ahead) r ((ended b).env r) (set_all r (written_set narrow r m)))

  within_all : length ahead ≤ length ns
  within_all =
      let a = ap (λ (l : List FlowNode). length l) nodes_are in
      let c = length-append ahead finish.behind in
      omega (arith, a, c)

  front_flat : (y : ℕ) (n : FlowNode) → y < length ahead → slice_get ns y ≡ Some n → IsFlat y n
  front_flat y n l e =
      let g = good in
      flat_at 0 ahead y y n g.nodes (omega arith)
      (sym (front_got ahead finish.behind y l) ∙ ap (λ (x : List FlowNode). slice_get x y) (sym nodes_are) ∙ e)

  numbers_fed : (k : ℕ) → in_mask (mask_below ns 32) k ≡ true → IsFed (length ahead) (stores_of 0 ns k)
  numbers_fed k m = go (nat_lt k 32) refl (has_store ns k) refl
    where
      z : 0 + length ahead ≡ length ahead
      z = omega arith

      go : (c : Bool) → nat_lt k 32 ≡ c → (d : Bool) → has_store ns k ≡ d → IsFed (length ahead) (stores_of 0 ns k)
      go false e d h = absurd (low e m)
        where
          low : nat_lt k 32 ≡ false → in_mask (mask_below ns 32) k ≡ true → ⊥
          low e m = absurd (let y : in_mask (mask_below ns 32) k ≡ false = rw e refl in let x = sym y ∙ m in cc)
      go true e false h =
          let l : k < 32 = grind (arith, nat_tests) in
          absurd (let y = sym (mask_says ns k false l h) ∙ m in cc)
      go true e true h =
          let x = finish in
          subst (λ (l : List FlowNode). IsFed (length ahead) (stores_of 0 l k)) (sym nodes_are)
          (subst (λ (i : ℕ). IsFed i (stores_of 0 (ahead ++ x.behind) k)) z
          (stored_fed x.chooser k ahead x.behind 0 x.after
          (ap (λ (l : List FlowNode). has_store l k) (sym nodes_are) ∙ h)))

  -- what is written and stored hangs on nodes that are not guarded
  pub straight : IsStraight (predicated narrow)
  straight = record {
    front = length ahead;
    within = within_all;
    guards = λ y n l e. let f = front_flat y n l e in f.guard;
    left = λ y n l e t. let f = front_flat y n l e in f.left t;
    right = λ y n l e t. let f = front_flat y n l e in f.right t;
    writes = λ j w e. front_at (length ahead) (predicated narrow).writes j w writes e;
    numbers = numbers_fed;
  }

  -- COUNTS

  feeding : (j : ℕ) (ms : List FlowNode) → AreUsed ns j ms → Feeding (predicated narrow) j ms
  feeding j [] a = tt
  feeding j (n ∷ ms) a = (
    (λ e.
        let h = (a.0) e in
        let s = length-append (nodes_kinds (Node j) ns) (writes_kinds (Node j) (predicated narrow).writes) in
        omega (arith, h, s)),
    feeding (suc j) ms a.1,
  )

  -- a plain block has no more instructions than its items, its tail and its writes cost
  pub insts_few : count_insts (predicated narrow)
      ≤ items_cost b.items + tail_cost b.tail + length (predicated narrow).writes
  insts_few =
      let a = few_insts (predicated narrow) (λ i j r x y. read_once ns (predicated narrow).writes 128 i j r x y)
      (feeding 0 ns used) in
      let c = costs in
      let d = fronts_price (length ahead) (predicated narrow).writes writes in
      omega (arith, a, c, d)

  -- each register that a plain block reads is one that it may read
  pub reads_are : (q : ℕ) → (nodes_read ns q || writes_read (predicated narrow).writes q) ≡ true → P q
  reads_are q e = go (nodes_read ns q) refl e
    where
      go : (c : Bool) → nodes_read ns q ≡ c → (c || writes_read (predicated narrow).writes q) ≡ true → P q
      go true x y = read_of_all P ns q reads x
      go false x y =
          absurd (let z = sym (fronts_read (length ahead) q (predicated narrow).writes writes) ∙ y in cc)

  -- a plain block has no more loads and stores than items
  pub number_few : (begun b).number ≤ items_in b.items
  number_few = let o = out in let h = o.number in omega (arith, h)

  -- GUARDS

  -- one node, which is no mov, gives all guards
  pub record HasOneGuard : Type 0 where
    pub node : ℕ
    pub only : (j : ℕ) (n : FlowNode) (d : Guard) → slice_get ns j ≡ Some n → n.guard ≡ Some d → d.node ≡ node
    pub no_mov : IsNoMov ns node

  guarded_at : (c : ℕ) (ms : List FlowNode) (i : ℕ) (n : FlowNode) → AreGuarded c ms → slice_get ms i ≡ Some n
      → IsGuarded c n
  guarded_at c [] i n a e = absurd (cc)
  guarded_at c (m ∷ ms) zero n a e = let same : m ≡ n = cc in subst (IsGuarded c) same a.0
  guarded_at c (m ∷ ms) (suc i) n a e = guarded_at c ms i n a.1 e

  no_guard : (y : ℕ) (n : FlowNode) (d : Guard) → y < length ahead → slice_get ns y ≡ Some n → n.guard ≡ Some d → ⊥
  no_guard y n d l e z = absurd (let f = front_flat y n l e in let x = sym f.guard ∙ z in cc)

  only_at : (c : ℕ) → AreGuarded c finish.behind → (j : ℕ) (n : FlowNode) (d : Guard) → slice_get ns j ≡ Some n
      → n.guard ≡ Some d → d.node ≡ c
  only_at c a j n d e z = go (cases_lt j (length ahead))
    where
      go : (j < length ahead) ⊎ (length ahead ≤ j) → d.node ≡ c
      go (inl l) = absurd (no_guard j n d l e z)
      go (inr l) =
          let x = guarded_at c finish.behind (j - length ahead) n a
          (sym (behind_got ahead finish.behind j l)
          ∙ ap (λ (y : List FlowNode). slice_get y j) (sym nodes_are) ∙ e) in
          x.guard d z

  past : (xs : List FlowNode) (n : FlowNode) → slice_get xs (length xs) ≡ Some n → ⊥
  past [] n e = absurd (cc)
  past (x ∷ xs) n e = past xs n e

  -- one node, which is no mov, gives all guards of a plain block
  pub one_guard : HasOneGuard
  one_guard = go finish.test
    where
      go : (finish.behind ≡ []) ⊎ T finish.chooser → HasOneGuard
      go (inl z) = record {
        node = length ns;
        only = only_at (length ns) (subst (AreGuarded (length ns)) (sym z) tt);
        no_mov = λ n e. absurd (past ns n e);
      }
      go (inr t) = record { node = finish.chooser; only = only_at finish.chooser finish.after; no_mov = t }
