-- Each write and each number of the mask gets exactly one token, and the block keeps its meaning.
use Rattle.std.proofs.Common.{◌≡◌, ℕ, zero, suc, ◌+◌, ◌-◌, ◌<◌, ◌≤◌, List, [], ◌∷◌, ◌++◌, ◌⊎◌, inl, inr}
use Rattle.std.proofs.Common.{length, refl, sym, ap, subst, ◌∙◌, arith, cond, nat_eq, Bool, true, false}
use Rattle.std.proofs.lemmas.Bool.Decides.{nat_tests}
use Rattle.std.specs.Prelude.{Option, Some, None, All, ◌≢◌}
use Rattle.std.proofs.lemmas.List.Elements.{All-nil, All-cons, All-append}
use Rattle.trips_isa.specs.declared.form.Form.{Form}
use Rattle.trips_isa.specs.declared.form.Form.TheVariants as form
use Rattle.trips_isa.specs.declared.block.Token.{Token}
use Rattle.trips_isa.specs.declared.block.Token.TheVariants.{Null, Word}
use Rattle.trips_isa.specs.declared.block.Inst.{Inst}
use Rattle.trips_isa.specs.declared.block.Stored.{Stored}
use Rattle.trips_isa.specs.Forms.{form_of}
use Rattle.trips_isa.specs.Rule.{Answer}
use Rattle.trips_isa.specs.Stores.{stored_of}
use Rattle.ir_forms.specs.declared.flow.FlowSource.{FlowSource}
use Rattle.ir_forms.specs.declared.flow.FlowSource.TheVariants.{Node}
use Rattle.ir_forms.specs.declared.flow.FlowNode.{FlowNode}
use Rattle.ir_forms.specs.declared.flow.FlowWrite.{FlowWrite}
use Rattle.ir_forms.specs.declared.flow.FlowBlock.{FlowBlock}
use Rattle.trips_isa.specs.inside.Acts.{Act}
use Rattle.ir_forms.specs.inside.FlowRuns.{first, Computes, Obeys, present, count, tokens, numbered, exits}
use Rattle.ir_forms.specs.inside.FlowRuns.{leaving_in}
use Rattle.ir_forms.specs.inside.FlowRuns.{fired, act_tokens, stores, inst_of}
use Rattle.ir_forms.specs.inside.FlowFits.{FitsFlowSource, in_mask}
use Rattle.null_outputs.proofs.Oracles.{EachWanted}
use Rattle.null_outputs.specs.inside.Completed.{cover, write_part, write_size, numbers_at, number_part}
use Rattle.null_outputs.specs.inside.Completed.{number_size, numbers_part, all_numbers}
use Rattle.null_outputs.specs.inside.Covers.{Want, null_store_of, Sure, list_top, list_nodes, list_size}
use Rattle.null_outputs.specs.inside.Groups.{store_source, stores_of, number_open}
use Rattle.null_outputs.specs.inside.Laws.{MaskedIn, EachMasked}
use Rattle.null_outputs.proofs.NullsOnPaths.{all_there, IsNull, here, Covered, count-append, first_null, here_count}
use Rattle.null_outputs.proofs.NullsOnPaths.{node_there}
use Rattle.null_outputs.proofs.Spaces.{nodes_length, obeys_front, obeys_back, cond_length}
use Rattle.null_outputs.proofs.QuietNodes.{AllQuiet, nodes_quiet, tokens_append, exits_append, fired_append}
use Rattle.null_outputs.proofs.QuietNodes.{stores_append, quiet_tokens, quiet_exits, quiet_fired, quiet_stores}
use Rattle.null_outputs.proofs.Hollow.{Hollow, hollow_or}

-- STORES BY NUMBER

module _ (sure : Sure) (want : Want) (b : FlowBlock) where
  source_fits : (x : Form) (n : FlowNode) (j k : ℕ) → j < length b.nodes
      → All (FitsFlowSource b) (store_source x n j k)
  source_fits form.Store n j k l = go (nat_eq n.number k)
    where
      go : (t : Bool) → All (FitsFlowSource b) (cond t (Node j ∷ []) [])
      go true = All-cons (FitsFlowSource b) (Node j) [] l (All-nil (FitsFlowSource b))
      go false = All-nil (FitsFlowSource b)
  source_fits form.General n j k l = All-nil (FitsFlowSource b)
  source_fits form.Immediate n j k l = All-nil (FitsFlowSource b)
  source_fits form.Load n j k l = All-nil (FitsFlowSource b)
  source_fits form.Branch n j k l = All-nil (FitsFlowSource b)
  source_fits form.Constant n j k l = All-nil (FitsFlowSource b)

  -- the stores of a number are nodes of the block
  pub stores_fit : (j : ℕ) (ns : List FlowNode) (k : ℕ) → j + length ns ≤ length b.nodes
      → All (FitsFlowSource b) (stores_of j ns k)
  stores_fit j [] k l = All-nil (FitsFlowSource b)
  stores_fit j (n ∷ ns) k l =
      All-append (FitsFlowSource b) (store_source (form_of n.op) n j k) (stores_of (suc j) ns k)
      (source_fits (form_of n.op) n j k (omega (arith, l))) (stores_fit (suc j) ns k (omega (arith, l)))

  -- The part for a write is as long as its size says.
  pub write_length : (p j : ℕ) (w : FlowWrite) → length (write_part sure want b p j w) ≡ write_size sure want b j w
  write_length p j w = go (sure None w.sources)
    where
      go : (t : Bool) → length (cond t [] (list_nodes (cover sure want b) p w.sources))
          ≡ cond t 0 (list_size w.sources)
      go true = refl
      go false = nodes_length (cover sure want b) p w.sources

  -- The part for a store number is as long as its size says.
  pub number_length : (p k : ℕ) → length (number_part sure want b p k) ≡ number_size sure want b k
  number_length p k =
      cond_length (number_open sure b k) _ (suc (list_size (stores_of 0 b.nodes k)))
      (let e = nodes_length (cover sure want b) (suc p) (stores_of 0 b.nodes k) in omega (arith, e))

  module _ (regs : ℕ → ℕ) (h : ℕ → Answer) where
    count_source : (x : Form) (n : FlowNode) (j k : ℕ) → count regs h (store_source x n j k) ≡ numbered x n (h j) k
    count_source form.Store n j k = go (nat_eq n.number k)
      where
        go : (t : Bool) → count regs h (cond t (Node j ∷ []) []) ≡ cond t (present (h j)) 0
        go true = omega arith
        go false = refl
    count_source form.General n j k = refl
    count_source form.Immediate n j k = refl
    count_source form.Load n j k = refl
    count_source form.Branch n j k = refl
    count_source form.Constant n j k = refl

    -- the stores of a number are there as often as the number has tokens
    pub count_stores : (j : ℕ) (ns : List FlowNode) (k : ℕ) → count regs h (stores_of j ns k) ≡ tokens h j ns k
    count_stores j [] k = refl
    count_stores j (n ∷ ns) k =
        let a = count-append regs h (store_source (form_of n.op) n j k) (stores_of (suc j) ns k) in
        let x = count_source (form_of n.op) n j k in
        let y = count_stores (suc j) ns k in
        omega (arith, a, x, y)

    masked_numbered : (x : Form) (n : FlowNode) (t : Answer) (k : ℕ) → MaskedIn x b n → in_mask b.mask k ≡ false
        → numbered x n t k ≡ 0
    masked_numbered form.Store n t k m e = go (nat_eq n.number k) refl
      where
        differ : (x : Bool) → x ≡ true → x ≡ false → ⊥
        differ x a c = absurd (cc)

        same : (i j : ℕ) → nat_eq i j ≡ true → i ≡ j
        same i j e = grind (arith, nat_tests)

        go : (u : Bool) → nat_eq n.number k ≡ u → cond u (present t) 0 ≡ 0
        go true eu = absurd (differ (in_mask b.mask k)
            (subst (λ (i : ℕ). in_mask b.mask i ≡ true) (same n.number k eu) m) e)
        go false eu = refl
    masked_numbered form.General n t k m e = refl
    masked_numbered form.Immediate n t k m e = refl
    masked_numbered form.Load n t k m e = refl
    masked_numbered form.Branch n t k m e = refl
    masked_numbered form.Constant n t k m e = refl

    -- a number outside the mask has no token
    pub masked_tokens : (j : ℕ) (ns : List FlowNode) (k : ℕ) → EachMasked b ns → in_mask b.mask k ≡ false
        → tokens h j ns k ≡ 0
    masked_tokens j [] k m e = refl
    masked_tokens j (n ∷ ns) k m e =
        let x = masked_numbered (form_of n.op) n (h j) k m.0 e in
        let y = masked_tokens (suc j) ns k m.1 e in
        omega (arith, x, y)

-- NUMBERS

store_leaves : (n : FlowNode) (t : Answer) → leaving_in form.Store n t ≡ []
store_leaves n None = refl
store_leaves n (Some t) = refl

null_acts : (n : FlowNode) (t u : Answer) → IsNull t → act_tokens form.Store n t u ≡ []
null_acts n None u i = refl
null_acts n (Some Null) u i = refl
null_acts n (Some (Word w)) u i = absurd i

null_hollow : (i : Inst) (t u : Answer) → IsNull t → Hollow (stored_of i t u)
null_hollow i None u e = tt
null_hollow i (Some Null) None e = tt
null_hollow i (Some Null) (Some u) e = refl
null_hollow i (Some (Word w)) u e = absurd e

hollow_if : (t : Bool) (x : Option Stored) → Hollow x → Hollow (cond t x None)
hollow_if true x e = e
hollow_if false x e = tt

all_same : (j k : ℕ) → j ≡ k → k ≤ 1 → all_there j j ≡ k
all_same zero k e l = e
all_same (suc j) k e l = e

same_number : (i j : ℕ) → nat_eq i j ≡ true → i ≡ j
same_number i j e = grind (arith, nat_tests)

other_number : (i j : ℕ) → nat_eq i j ≡ false → i ≢ j
other_number i j e = grind (arith, nat_tests)

module _ (sure : Sure) (want : Want) (b : FlowBlock) (regs : ℕ → ℕ) (h : ℕ → Answer) (f : Computes) where
  -- each list of the block's sources is covered
  abbrev pub Ready : Type 0
  Ready = (ss : List FlowSource) → All (FitsFlowSource b) ss → (p : ℕ) (s : Bool)
      → (s ≡ false → EachWanted want ss) → (s ≡ true → here regs h ss ≡ 1)
      → Obeys regs f h p (cond s [] (list_nodes (cover sure want b) p ss))
      → Covered regs h (1 - here regs h ss) (cond s [] (list_top (cover sure want b) p ss))

  -- how many tokens a number of the mask wants
  abbrev pub lack : ℕ → ℕ
  lack k = cond (number_open sure b k) (1 - here regs h (stores_of 0 b.nodes k)) 0

  -- what a group of nodes that stands at p does
  pub record Does (p : ℕ) (ns : List FlowNode) (count_of : ℕ → ℕ) : Type 0 where
    pub gets : (q : ℕ) → tokens h p ns q ≡ count_of q
    pub leaves : exits h p ns ≡ []
    pub acts : fired regs h ns ≡ []
    pub hollow : (q : ℕ) → Hollow (stores regs h ns q)

  -- nodes behind nodes give the tokens of both
  pub does_append : (p i : ℕ) (xs ys : List FlowNode) (x y : ℕ → ℕ) → p + length xs ≡ i → Does p xs x
      → Does i ys y → Does p (xs ++ ys) (λ q. x q + y q)
  does_append p i xs ys x y e c d = record {
    gets = λ q. let a = c.gets q in let z = d.gets q in let t = tokens_append regs h p i xs ys q e in
        omega (arith, a, z, t);
    leaves = exits_append regs h p i xs ys e
        ∙ (ap (λ (l : List (Inst × Token)). l ++ exits h i ys) c.leaves ∙ d.leaves);
    acts = fired_append regs h xs ys ∙ (ap (λ (l : List Act). l ++ fired regs h ys) c.acts ∙ d.acts);
    hollow = λ q. subst Hollow (sym (stores_append regs h xs ys q))
        (hollow_or (stores regs h xs q) (stores regs h ys q) (c.hollow q) (d.hollow q));
  }

  -- quiet nodes give no number a token
  pub does_quiet : (p : ℕ) (ns : List FlowNode) → AllQuiet ns → Does p ns (λ q. 0)
  does_quiet p ns z = record {
    gets = λ q. quiet_tokens regs h ns z p q;
    leaves = quiet_exits regs h ns z p;
    acts = quiet_fired regs h ns z;
    hollow = λ q. subst Hollow (sym (quiet_stores regs h ns z q)) tt;
  }

  abbrev sources : ℕ → List FlowSource
  sources k = stores_of 0 b.nodes k

  abbrev tops : ℕ → ℕ → List FlowSource
  tops p k = list_top (cover sure want b) (suc p) (sources k)

  abbrev below : ℕ → ℕ → List FlowNode
  below p k = list_nodes (cover sure want b) (suc p) (sources k)

  number_does : Ready → ((k : ℕ) → number_open sure b k ≡ true → EachWanted want (sources k)) → (p k : ℕ)
      → Obeys regs f h p (number_part sure want b p k)
      → Does p (number_part sure want b p k) (λ q. cond (nat_eq k q) (lack k) 0)
  number_does ready wants p k o = go (number_open sure b k) (wants k) o
    where
      none : (t : Bool) → 0 ≡ cond {A = ℕ} t 0 0
      none true = refl
      none false = refl

      go : (t : Bool) → (t ≡ true → EachWanted want (sources k))
          → Obeys regs f h p (cond t (null_store_of k (tops p k) ∷ (below p k)) [])
          → Does p (cond t (null_store_of k (tops p k) ∷ (below p k)) [])
          (λ q. cond (nat_eq k q) (cond t (1 - here regs h (sources k)) 0) 0)
      go false v o = record { gets = λ q. none (nat_eq k q); leaves = refl; acts = refl; hollow = λ q. tt }
      go true v o =
          let c : Covered regs h (1 - here regs h (sources k)) (tops p k) =
          ready (sources k) (stores_fit sure want b 0 b.nodes k (omega arith)) (suc p) false (λ e. v refl)
          (λ e. absurd (cc)) o.1 in
          let low : 1 - here regs h (sources k) ≤ 1 = omega arith in
          let m : here regs h (tops p k) ≡ 1 - here regs h (sources k) =
          here_count regs h (tops p k) (omega (arith, c.number)) ∙ c.number in
          let t : present (h p) ≡ 1 - here regs h (sources k) =
          node_there regs h (f p (null_store_of k (tops p k))) p (null_store_of k (tops p k)) o.0
          ∙ all_same (here regs h (tops p k)) (1 - here regs h (sources k)) m low in
          let z = does_quiet (suc p) (below p k) (nodes_quiet (cover sure want b) (suc p) (sources k)) in
          let nul = first_null regs h (tops p k) c.null in
          record {
            gets = λ q. let r = z.gets q in
                ap (λ (i : ℕ). i + tokens h (suc p) (below p k) q) (ap (λ (i : ℕ). cond (nat_eq k q) i 0) t)
                ∙ omega (arith, r);
            leaves = ap (λ (l : List (Inst × Token)). l ++ exits h (suc p) (below p k))
                (store_leaves (null_store_of k (tops p k)) (h p)) ∙ z.leaves;
            acts = ap (λ (l : List Act). l ++ fired regs h (below p k))
                (null_acts (null_store_of k (tops p k)) (first regs h (tops p k)) (first regs h (tops p k)) nul)
                ∙ z.acts;
            hollow = λ q. hollow_or _ (stores regs h (below p k) q)
                (hollow_if (nat_eq k q) _ (null_hollow (inst_of (null_store_of k (tops p k)))
                (first regs h (tops p k)) (first regs h (tops p k)) nul)) (z.hollow q);
          }

  -- the tokens of m numbers from k on
  abbrev pub lacks_from : ℕ → ℕ → ℕ → ℕ
  lacks_from k zero q = 0
  lacks_from k (suc m) q = cond (nat_eq k q) (lack k) 0 + lacks_from (suc k) m q

  numbers_does : Ready → ((k : ℕ) → number_open sure b k ≡ true → EachWanted want (sources k)) → (m p k : ℕ)
      → Obeys regs f h p (numbers_part sure want b p k m)
      → Does p (numbers_part sure want b p k m) (lacks_from k m)
  numbers_does ready wants zero p k o = record { gets = λ q. refl; leaves = refl; acts = refl; hollow = λ q. tt }
  numbers_does ready wants (suc m) p k o =
      let e = number_length sure want b p k in
      let i : p + length (number_part sure want b p k) ≡ p + number_size sure want b k = omega (arith, e) in
      does_append p (p + number_size sure want b k) (number_part sure want b p k)
      (numbers_part sure want b (p + number_size sure want b k) (suc k) m) _ (lacks_from (suc k) m) i
      (number_does ready wants p k (obeys_front regs h f p (number_part sure want b p k) _ o))
      (numbers_does ready wants m (p + number_size sure want b k) (suc k)
      (obeys_back regs h f p (number_part sure want b p k) _ o _ i))

  -- the nodes for some numbers give no token to others
  pub lacks_out : (m k q : ℕ) → (q < k) ⊎ (k + m ≤ q) → lacks_from k m q ≡ 0
  lacks_out zero k q out = refl
  lacks_out (suc m) k q out =
      let r = lacks_out m (suc k) q (later out) in
      let z = zero_at (nat_eq k q) (λ e. apart out (same_number k q e)) in
      omega (arith, r, z)
    where
      later : (q < k) ⊎ (k + suc m ≤ q) → (q < suc k) ⊎ (suc k + m ≤ q)
      later (inl l) = inl (omega (arith, l))
      later (inr l) = inr (omega (arith, l))

      apart : (q < k) ⊎ (k + suc m ≤ q) → k ≡ q → ⊥
      apart (inl l) e = absurd (omega (arith, l, e))
      apart (inr l) e = absurd (omega (arith, l, e))

      zero_at : (t : Bool) → (t ≡ true → ⊥) → cond t (lack k) 0 ≡ 0
      zero_at true f = absurd (f refl)
      zero_at false f = refl

  -- the nodes for some numbers give each the token that it wants
  pub lacks_in : (m k q : ℕ) → k ≤ q → q < k + m → lacks_from k m q ≡ lack q
  lacks_in zero k q l g = absurd (omega (arith, l, g))
  lacks_in (suc m) k q l g = go (nat_eq k q) refl (λ d. lacks_in m (suc k) q (omega (arith, l, d)) (omega (arith, g)))
    where
      go : (t : Bool) → nat_eq k q ≡ t → (k ≢ q → lacks_from (suc k) m q ≡ lack q)
          → cond t (lack k) 0 + lacks_from (suc k) m q ≡ lack q
      go true e rest =
          let s = same_number k q e in
          let r = lacks_out m (suc k) q (inl (omega (arith, s))) in
          let z : lack k ≡ lack q = ap lack s in
          omega (arith, r, z)
      go false e rest = let r = rest (other_number k q e) in omega (arith, r)

  -- the numbers of the whole block
  abbrev pub all_lacks : ℕ → ℕ
  all_lacks q = lacks_from 0 32 q

  -- the nodes for all numbers give each the token that it wants
  pub all_numbers_do : Ready → ((k : ℕ) → number_open sure b k ≡ true → EachWanted want (sources k)) → (p : ℕ)
      → p ≡ numbers_at sure want b → Obeys regs f h p (all_numbers sure want b)
      → Does p (all_numbers sure want b) (lacks_from 0 32)
  unfolding all_numbers
  all_numbers_do ready wants p e o =
      subst (λ (i : ℕ). Does i (numbers_part sure want b (numbers_at sure want b) 0 32) (lacks_from 0 32)) (sym e)
      (numbers_does ready wants 32 (numbers_at sure want b) 0
      (subst (λ (i : ℕ). Obeys regs f h i (numbers_part sure want b (numbers_at sure want b) 0 32)) e o))
