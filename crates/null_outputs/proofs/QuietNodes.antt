-- Added nodes store nothing, leave by no exit and do nothing that can fault.
use Rattle.std.proofs.Common.{◌≡◌, ℕ, suc, ◌+◌, List, [], ◌∷◌, ◌++◌}
use Rattle.std.proofs.Common.{length, refl, sym, ap, subst, ◌∙◌, arith, cond, Bool, true, false}
use Rattle.std.specs.Prelude.{Option, Some, None}
use Rattle.trips_isa.specs.declared.form.Form.{Form}
use Rattle.trips_isa.specs.declared.form.Form.TheVariants.{General}
use Rattle.trips_isa.specs.declared.block.Token.{Token}
use Rattle.trips_isa.specs.declared.block.Token.TheVariants.{Null, Word}
use Rattle.trips_isa.specs.declared.block.Inst.{Inst}
use Rattle.trips_isa.specs.declared.block.Stored.{Stored}
use Rattle.trips_isa.specs.Forms.{form_of}
use Rattle.trips_isa.specs.Rule.{Answer}
use Rattle.trips_isa.specs.Tables.{or_else}
use Rattle.ir_forms.specs.declared.flow.FlowSource.{FlowSource}
use Rattle.ir_forms.specs.declared.flow.FlowSource.TheVariants.{Node}
use Rattle.ir_forms.specs.declared.flow.FlowNode.{FlowNode}
use Rattle.trips_isa.specs.inside.Acts.{Act}
use Rattle.trips_isa.specs.Faults.{divides}
use Rattle.ir_forms.specs.inside.FlowRuns.{first, met, tokens, numbered, exits, leaving_in, fired, act_tokens, stores}
use Rattle.ir_forms.specs.inside.FlowRuns.{stored_in}
use Rattle.null_outputs.specs.inside.Covers.{Want, Sure, Cover, pairs, list_nodes}
use Rattle.null_outputs.specs.inside.Groups.{left_needed, right_needed, guard_group, guard_part, left_part}
use Rattle.null_outputs.specs.inside.Groups.{right_part, region, is_used}

pub record Quiet (n : FlowNode) : Type 0 where
  pub form : form_of n.op ≡ General
  pub calm : divides n.op ≡ false

-- each of some nodes stores nothing, leaves by no exit and does nothing that can fault
abbrev pub AllQuiet : List FlowNode → Type 0
AllQuiet [] = Unit {0}
AllQuiet (n ∷ ns) = Quiet n × AllQuiet ns

pub quiet_append : (a b : List FlowNode) → AllQuiet a → AllQuiet b → AllQuiet (a ++ b)
quiet_append [] b x y = y
quiet_append (n ∷ a) b x y = (x.0, quiet_append a b x.1 y)

quiet_if : (t : Bool) (a b : List FlowNode) → AllQuiet a → AllQuiet b → AllQuiet (cond t a b)
quiet_if true a b x y = x
quiet_if false a b x y = y

pairs_quiet : (c : Cover) (p : ℕ) (s : FlowSource) (rest : List FlowSource) → AllQuiet (pairs c p s rest)
pairs_quiet c p s [] = tt
pairs_quiet c p s (t ∷ rest) = (record { form = refl; calm = refl }, pairs_quiet c (suc p) t rest)

-- the nodes of a list of sources are quiet
pub nodes_quiet : (c : Cover) (p : ℕ) (ss : List FlowSource) → AllQuiet (list_nodes c p ss)
nodes_quiet c p [] = (record { form = refl; calm = refl }, tt)
nodes_quiet c p (s ∷ rest) = pairs_quiet c p s rest

group_quiet : (p : ℕ) (s : Bool) (y : ℕ) (ms : List FlowSource) → AllQuiet (guard_group p s y ms)
group_quiet p s y [] = (record { form = refl; calm = refl }, tt)
group_quiet p s y (m ∷ ms) = (record { form = refl; calm = refl }, (record { form = refl; calm = refl }, tt))

-- the nodes for a guard are quiet
pub guard_quiet : (want : Want) (nodes : List FlowNode) (c : Cover) (s : Bool) (p j : ℕ) (n : FlowNode)
    → AllQuiet (guard_part want nodes c s p j n)
guard_quiet want nodes c s p j n = quiet_if (is_used want 0 nodes s j) _ [] (group_quiet p s j (c (Node j))) tt

-- the nodes for a left operand are quiet
pub left_quiet : (sure : Sure) (want : Want) (c : Cover) (p j : ℕ) (n : FlowNode)
    → AllQuiet (left_part sure want c p j n)
left_quiet sure want c p j n = quiet_if (left_needed sure want j n) _ []
    (record { form = refl; calm = refl }, nodes_quiet c (suc p) n.left) tt

-- the nodes for a right operand are quiet
pub right_quiet : (sure : Sure) (want : Want) (c : Cover) (p j : ℕ) (n : FlowNode)
    → AllQuiet (right_part sure want c p j n)
right_quiet sure want c p j n = quiet_if (right_needed sure want j n) _ []
    (record { form = refl; calm = refl }, nodes_quiet c (suc p) n.right) tt

-- the nodes of a list of sources that may be sure are quiet
pub list_quiet : (c : Cover) (p : ℕ) (s : Bool) (ss : List FlowSource) → AllQuiet (cond s [] (list_nodes c p ss))
list_quiet c p s ss = quiet_if s [] _ tt (nodes_quiet c p ss)

-- a region of quiet groups is quiet
pub region_quiet : {A : Type 0} (part : ℕ → ℕ → A → List FlowNode) (size : ℕ → A → ℕ)
    → ((p j : ℕ) (x : A) → AllQuiet (part p j x))
    → (p j : ℕ) (xs : List A) → AllQuiet (region part size p j xs)
region_quiet part size q p j [] = tt
region_quiet part size q p j (x ∷ rest) =
    quiet_append (part p j x) _ (q p j x) (region_quiet part size q (p + size j x) (suc j) rest)

module _ (regs : ℕ → ℕ) (h : ℕ → Answer) where
  -- LISTS PUT TOGETHER

  -- nodes behind nodes give a number the tokens of both
  pub tokens_append : (j i : ℕ) (a b : List FlowNode) (k : ℕ) → j + length a ≡ i
      → tokens h j (a ++ b) k ≡ tokens h j a k + tokens h i b k
  tokens_append j i [] b k e = let e2 : j ≡ i = omega (arith, e) in
      subst (λ (z : ℕ). tokens h j b k ≡ 0 + tokens h z b k) e2 (omega arith)
  tokens_append j i (n ∷ a) b k e = let r = tokens_append (suc j) i a b k (omega (arith, e)) in omega (arith, r)

  append_again : {A : Type 0} (a b c : List A) → (a ++ b) ++ c ≡ a ++ (b ++ c)
  append_again [] b c = refl
  append_again (x ∷ a) b c = ap (λ (l : _). x ∷ l) (append_again a b c)

  -- nodes behind nodes have the exits of both, in this order
  pub exits_append : (j i : ℕ) (a b : List FlowNode) → j + length a ≡ i
      → exits h j (a ++ b) ≡ exits h j a ++ exits h i b
  exits_append j i [] b e = let e2 : j ≡ i = omega (arith, e) in ap (λ (z : ℕ). exits h z b) e2
  exits_append j i (n ∷ a) b e =
      ap (λ (l : List (Inst × Token)). leaving_in (form_of n.op) n (h j) ++ l)
      (exits_append (suc j) i a b (omega (arith, e)))
      ∙ sym (append_again (leaving_in (form_of n.op) n (h j)) (exits h (suc j) a) (exits h i b))

  -- nodes behind nodes do the acts of both, in this order
  pub fired_append : (a b : List FlowNode) → fired regs h (a ++ b) ≡ fired regs h a ++ fired regs h b
  fired_append [] b = refl
  fired_append (n ∷ a) b =
      let x : List Act = cond (met h n.guard)
      (act_tokens (form_of n.op) n (first regs h n.left) (first regs h n.right)) [] in
      ap (λ (l : List Act). x ++ l) (fired_append a b) ∙ sym (append_again x (fired regs h a) (fired regs h b))

  or_again : (a b c : Option Stored) → or_else (or_else a b) c ≡ or_else a (or_else b c)
  or_again None b c = refl
  or_again (Some t) b c = refl

  -- nodes behind nodes store under a number what the first do, or else the others
  pub stores_append : (a b : List FlowNode) (k : ℕ)
      → stores regs h (a ++ b) k ≡ or_else (stores regs h a k) (stores regs h b k)
  stores_append [] b k = refl
  stores_append (n ∷ a) b k =
      ap (or_else (stored_in (form_of n.op) regs h n k)) (stores_append a b k)
      ∙ sym (or_again (stored_in (form_of n.op) regs h n k) (stores regs h a k) (stores regs h b k))

  -- a list with nothing behind it is the list
  pub append_end : {A : Type 0} (a b : List A) → b ≡ [] → a ++ b ≡ a
  append_end [] b e = e
  append_end (x ∷ a) b e = ap (λ (l : _). x ∷ l) (append_end a b e)

  -- QUIET NODES

  -- quiet nodes give no number a token
  pub quiet_tokens : (ns : List FlowNode) → AllQuiet ns → (j k : ℕ) → tokens h j ns k ≡ 0
  quiet_tokens [] q j k = refl
  quiet_tokens (n ∷ ns) q j k =
      let e : numbered (form_of n.op) n (h j) k ≡ 0 = ap (λ (x : Form). numbered x n (h j) k) (q.0).form in
      let r = quiet_tokens ns q.1 (suc j) k in
      omega (arith, e, r)

  general_leaves : (n : FlowNode) (t : Answer) → leaving_in General n t ≡ []
  general_leaves n None = refl
  general_leaves n (Some t) = refl

  -- quiet nodes have no exit
  pub quiet_exits : (ns : List FlowNode) → AllQuiet ns → (j : ℕ) → exits h j ns ≡ []
  quiet_exits [] q j = refl
  quiet_exits (n ∷ ns) q j =
      ap (λ (x : Form). leaving_in x n (h j) ++ exits h (suc j) ns) (q.0).form
      ∙ ap (λ (l : List (Inst × Token)). l ++ exits h (suc j) ns) (general_leaves n (h j))
      ∙ quiet_exits ns q.1 (suc j)

  general_acts : (n : FlowNode) → divides n.op ≡ false → (l r : Answer) → act_tokens General n l r ≡ []
  general_acts n e None r = refl
  general_acts n e (Some Null) r = refl
  general_acts n e (Some (Word l)) None = refl
  general_acts n e (Some (Word l)) (Some Null) = refl
  general_acts n e (Some (Word l)) (Some (Word r)) = rw e refl

  pub no_act : (b : Bool) (l : List Act) → l ≡ [] → cond b l [] ≡ []
  no_act true l e = e
  no_act false l e = refl

  -- quiet nodes do no act
  pub quiet_fired : (ns : List FlowNode) → AllQuiet ns → fired regs h ns ≡ []
  quiet_fired [] q = refl
  quiet_fired (n ∷ ns) q =
      let e : act_tokens (form_of n.op) n (first regs h n.left) (first regs h n.right) ≡ [] =
      ap (λ (x : Form). act_tokens x n (first regs h n.left) (first regs h n.right)) (q.0).form
      ∙ general_acts n (q.0).calm (first regs h n.left) (first regs h n.right) in
      ap (λ (l : List Act). l ++ fired regs h ns) (no_act (met h n.guard) _ e) ∙ quiet_fired ns q.1

  -- quiet nodes store nothing
  pub quiet_stores : (ns : List FlowNode) → AllQuiet ns → (k : ℕ) → stores regs h ns k ≡ None
  quiet_stores [] q k = refl
  quiet_stores (n ∷ ns) q k =
      ap (λ (x : Form). or_else (stored_in x regs h n k) (stores regs h ns k)) (q.0).form ∙ quiet_stores ns q.1 k
