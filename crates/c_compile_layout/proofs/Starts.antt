-- Each entry state has a table of a flow block that has an order.
use Rattle.std.proofs.Common.{◌≡◌, ℕ, zero, suc, ◌+◌, ◌<◌, Bool, true, false, cond, nat_eq, List, []}
use Rattle.std.proofs.Common.{◌∷◌, Option, Some, None, slice_get, refl, ap, ap₂, subst, ◌∙◌, arith}
use Rattle.std.specs.Prelude.{slice_index}
use Rattle.std.specs.List.{All}
use Rattle.std.proofs.Math.Path.{fun_ext}
use Rattle.std.proofs.lemmas.Bool.Decides.{nat_tests}
use Rattle.trips_isa.specs.declared.form.Form.{Form}
use Rattle.trips_isa.specs.declared.form.Form.TheVariants.{General, Immediate, Load, Store, Branch}
use Rattle.trips_isa.specs.declared.form.Form.TheVariants.{Constant}
use Rattle.trips_isa.specs.declared.block.Stored.{Stored}
use Rattle.trips_isa.specs.Forms.{form_of, role_of, size_of}
use Rattle.trips_isa.specs.Rule.{Answer, rule, matched}
use Rattle.trips_isa.specs.Tables.{or_else}
use Rattle.trips_isa.specs.Stores.{stored_of, bytes_seen}
use Rattle.trips_isa.specs.Blocks.{form_computes}
use Rattle.block_cases.proofs.Settled.{load_same, bytes_seen_same}
use Rattle.ir_forms.specs.declared.flow.FlowSource.{FlowSource}
use Rattle.ir_forms.specs.declared.flow.FlowSource.TheVariants.{Read, Node}
use Rattle.ir_forms.specs.declared.flow.Guard.{Guard}
use Rattle.ir_forms.specs.declared.flow.FlowNode.{FlowNode}
use Rattle.ir_forms.specs.declared.flow.FlowBlock.{FlowBlock}
use Rattle.ir_forms.specs.inside.FlowRuns.{got, first, sense_of, guard_token, inst_of, gives, met, Obeys}
use Rattle.ir_forms.specs.inside.FlowRuns.{stored_where, stored_in, stores, meant, AtStart}
use Rattle.ir_forms.specs.inside.FlowFits.{RisesFrom, RisesFromGuard, Rises, HasOrder, FitsFlow}
use Rattle.c_compile_layout.specs.inside.Joint.{HasStarts}

-- two tables that agree below a rank
abbrev Agree : (ℕ → ℕ) → ℕ → (ℕ → Answer) → (ℕ → Answer) → Type 0
Agree rank k h g = (i : ℕ) → rank i < k → h i ≡ g i

module _ (regs : ℕ → ℕ) (rank : ℕ → ℕ) where
  got_same : (k : ℕ) (h g : ℕ → Answer) → Agree rank k h g → (s : FlowSource) → RisesFrom rank k s
      → got regs h s ≡ got regs g s
  got_same k h g e (Read r) l = refl
  got_same k h g e (Node j) l = e j l

  first_same : (k : ℕ) (h g : ℕ → Answer) → Agree rank k h g → (ss : List FlowSource)
      → All (RisesFrom rank k) ss → first regs h ss ≡ first regs g ss
  first_same k h g e [] a = refl
  first_same k h g e (s ∷ ss) a = ap₂ or_else
      (got_same k h g e s (a 0 s (omega arith)))
      (first_same k h g e ss (λ i d l. a (suc i) d (omega arith)))

  guard_same : (k : ℕ) (h g : ℕ → Answer) → Agree rank k h g → (d : Option Guard)
      → RisesFromGuard rank k d → guard_token h d ≡ guard_token g d
  guard_same k h g e None l = refl
  guard_same k h g e (Some d) l = e d.node l

  gives_same : (a : ℕ → ℕ → ℕ) (k : ℕ) (h g : ℕ → Answer) → Agree rank k h g → (n : FlowNode)
      → Rises rank k n → gives regs h a n ≡ gives regs g a n
  gives_same a k h g e n r =
      ap (λ l. rule (role_of n.op) (sense_of n.guard) a l (first regs h n.right) (guard_token h n.guard))
      (first_same k h g e n.left r.left)
      ∙ ap (λ l. rule (role_of n.op) (sense_of n.guard) a (first regs g n.left) l (guard_token h n.guard))
      (first_same k h g e n.right r.right)
      ∙ ap (λ l. rule (role_of n.op) (sense_of n.guard) a (first regs g n.left) (first regs g n.right) l)
      (guard_same k h g e n.guard r.guard)

  stored_same : (k : ℕ) (h g : ℕ → Answer) → Agree rank k h g → (n : FlowNode) → Rises rank k n
      → stored_where (met h n.guard) regs h n ≡ stored_where (met g n.guard) regs g n
  stored_same k h g e n r =
      ap (λ t. stored_where (matched (sense_of n.guard) t) regs h n) (guard_same k h g e n.guard r.guard)
      ∙ ap₂ (λ x y. cond (met g n.guard) (stored_of (inst_of n) x y) None)
      (first_same k h g e n.left r.left) (first_same k h g e n.right r.right)

  in_same : (x : Form) (k : ℕ) (h g : ℕ → Answer) (n : FlowNode) (m : ℕ)
      → (x ≡ Store → n.number ≡ m → Agree rank k h g × Rises rank k n)
      → stored_in x regs h n m ≡ stored_in x regs g n m
  in_same Store k h g n m e = go (nat_eq n.number m) refl
    where
      go : (v : Bool) → nat_eq n.number m ≡ v
          → cond v (stored_where (met h n.guard) regs h n) None ≡ cond v (stored_where (met g n.guard) regs g n) None
      go true q =
          let z : n.number ≡ m = grind (arith, nat_tests) in
          let a = e refl z in stored_same k h g a.0 n a.1
      go false q = refl
  in_same General k h g n m e = refl
  in_same Immediate k h g n m e = refl
  in_same Load k h g n m e = refl
  in_same Branch k h g n m e = refl
  in_same Constant k h g n m e = refl

  stores_same : (h g : ℕ → Answer) (ns : List FlowNode) (m : ℕ)
      → ((i : ℕ) (n : FlowNode) → slice_get ns i ≡ Some n → form_of n.op ≡ Store → n.number ≡ m
      → (k : ℕ) × Agree rank k h g × Rises rank k n)
      → stores regs h ns m ≡ stores regs g ns m
  stores_same h g [] m e = refl
  stores_same h g (n ∷ ns) m e =
      ap₂ or_else (head (form_of n.op) refl)
      (stores_same h g ns m (λ i x s. e (suc i) x s))
    where
      head : (x : Form) → form_of n.op ≡ x → stored_in x regs h n m ≡ stored_in x regs g n m
      head Store s = at (nat_eq n.number m) refl
        where
          at : (v : Bool) → nat_eq n.number m ≡ v
              → cond v (stored_where (met h n.guard) regs h n) None
              ≡ cond v (stored_where (met g n.guard) regs g n) None
          at true q =
              let z : n.number ≡ m = grind (arith, nat_tests) in
              let a = e 0 n refl s z in stored_same a.0 h g a.1 n a.2
          at false q = refl
      head General s = refl
      head Immediate s = refl
      head Load s = refl
      head Branch s = refl
      head Constant s = refl

-- what a node computes depends on the stores of lower numbers, where it is a load
computes_same : (n : FlowNode) (st st' : ℕ → Option Stored) (mem : List ℕ) (j : ℕ)
    → (form_of n.op ≡ Load → (m : ℕ) → m < n.number → st m ≡ st' m)
    → meant st mem j n ≡ meant st' mem j n
computes_same n st st' mem j e = go (form_of n.op) refl
  where
    go : (x : Form) → form_of n.op ≡ x
        → form_computes x (inst_of n) (λ a. bytes_seen st (slice_index mem) n.number a (size_of n.op))
        ≡ form_computes x (inst_of n) (λ a. bytes_seen st' (slice_index mem) n.number a (size_of n.op))
    go Load s = fun_ext (λ l. fun_ext (λ r. load_same (inst_of n) _ _ l
        (λ a. bytes_seen_same st st' (slice_index mem) n.number a (size_of n.op) (e s))))
    go General s = refl
    go Immediate s = refl
    go Store s = refl
    go Branch s = refl
    go Constant s = refl

module _ (f : FlowBlock) (rank : ℕ → ℕ) (order : HasOrder f rank) (regs : ℕ → ℕ) (mem : List ℕ) where
  abbrev node_given : Option FlowNode → ℕ → (ℕ → Answer) → Answer
  node_given None j h = None
  node_given (Some n) j h = gives regs h (meant (stores regs h f.nodes) mem j n) n

  -- what node j gives where it asks k deep
  abbrev pulled : ℕ → ℕ → Answer
  pulled zero j = None
  pulled (suc k) j = node_given (slice_get f.nodes j) j (pulled k)

  given_same : (j : ℕ) (h g : ℕ → Answer) → Agree rank (rank j) h g
      → node_given (slice_get f.nodes j) j h ≡ node_given (slice_get f.nodes j) j g
  given_same j h g e = go (slice_get f.nodes j) refl
    where
      go : (o : Option FlowNode) → slice_get f.nodes j ≡ o → node_given o j h ≡ node_given o j g
      go None s = refl
      go (Some n) s =
          ap (λ a. gives regs h a n) (computes_same n (stores regs h f.nodes) (stores regs g f.nodes) mem j
          (λ l m u. stores_same regs rank h g f.nodes m (λ i x t c d.
          let up : rank i < rank j = order.stores i j x n t s c l (omega (arith, d, u)) in
          (rank i, (λ y z. e y (omega (arith, z, up))), order.sources i x t))))
          ∙ gives_same regs rank (meant (stores regs g f.nodes) mem j n) (rank j) h g e n (order.sources j n s)

  deeper : (k m j : ℕ) → rank j < k → rank j < m → pulled k j ≡ pulled m j
  deeper zero m j l u = absurd (omega arith)
  deeper (suc k) zero j l u = absurd (omega arith)
  deeper (suc k) (suc m) j l u =
      given_same j (pulled k) (pulled m) (λ i e. deeper k m i (omega arith) (omega arith))

  abbrev table : ℕ → Answer
  table j = pulled (suc (rank j)) j

  at_node : (j : ℕ) (n : FlowNode) → slice_get f.nodes j ≡ Some n
      → table j ≡ gives regs table (meant (stores regs table f.nodes) mem j n) n
  at_node j n e =
      given_same j (pulled (rank j)) table (λ i l. deeper (rank j) (suc (rank i)) i l (omega arith))
      ∙ ap (λ o. node_given o j table) e

  obeys_from : (ns : List FlowNode) (j : ℕ)
      → ((k i : ℕ) (n : FlowNode) → slice_get ns k ≡ Some n → i ≡ j + k
      → table i ≡ gives regs table (meant (stores regs table f.nodes) mem i n) n)
      → Obeys regs (meant (stores regs table f.nodes) mem) table j ns
  obeys_from [] j e = tt
  obeys_from (n ∷ ns) j e = (
    e 0 j n refl (omega arith),
    obeys_from ns (suc j) (λ k i m s z. e (suc k) i m s (omega arith)),
  )

  starts : AtStart regs mem table f
  starts = obeys_from f.nodes 0 (λ k i n s z.
      let same : k ≡ i = omega arith in
      at_node i n (subst (λ y. slice_get f.nodes y ≡ Some n) same s))

-- a block that has an order has a table from each entry state
pub starts_in_order : (f : FlowBlock) (rank : ℕ → ℕ) → HasOrder f rank → HasStarts f
starts_in_order f rank order regs mem = (table f rank order regs mem, starts f rank order regs mem)

-- each entry state of a flow block that fits has a table
pub has_starts : (f : FlowBlock) → FitsFlow f → HasStarts f
has_starts f fits = let o = fits.order in starts_in_order f o.0 o.1
