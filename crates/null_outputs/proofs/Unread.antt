-- Completing never reads an immediate: what is guessed and where covers stand depend on all else of the nodes alone.
use Rattle.std.proofs.Common.{◌≡◌, ℕ, zero, suc, ◌+◌, Bool, true, false, not, ◌&&◌, ◌||◌, cond, nat_eq}
use Rattle.std.proofs.Common.{List, [], ◌∷◌, ◌++◌, map, length, refl, sym, ap, ap₂, ◌∙◌}
use Rattle.std.specs.Prelude.{Option, Some, None, slice_get, option_map}
use Rattle.std.proofs.Math.Path.{fun_ext}
use Rattle.std.proofs.lemmas.List.{map-append, length-map}
use Rattle.std.proofs.lemmas.Option.{slice_get-map}
use Rattle.trips_isa.specs.declared.form.Form.{Form}
use Rattle.trips_isa.specs.declared.form.Form.TheVariants.{Store}
use Rattle.trips_isa.specs.Forms.{form_of}
use Rattle.ir_forms.specs.declared.flow.FlowSource.{FlowSource}
use Rattle.ir_forms.specs.declared.flow.FlowSource.TheVariants.{Read, Node}
use Rattle.ir_forms.specs.declared.flow.FlowNode.{FlowNode}
use Rattle.ir_forms.specs.declared.flow.FlowWrite.{FlowWrite}
use Rattle.ir_forms.specs.declared.flow.FlowBlock.{FlowBlock}
use Rattle.ir_forms.specs.inside.FlowFits.{in_mask}
use Rattle.null_outputs.specs.inside.Completed.{trues, falses, lefts, rights, writes_at, places, cover}
use Rattle.null_outputs.specs.inside.Completed.{write_size, filled_all, numbers_at, number_part, number_size}
use Rattle.null_outputs.specs.inside.Completed.{numbers_part, all_numbers}
use Rattle.null_outputs.specs.inside.Completed.{lefts_region, rights_region, writes_region, added, completed}
use Rattle.null_outputs.specs.inside.Covers.{Sure, Want, Places, Cover, left_open, right_open, cover_at, cover_of}
use Rattle.null_outputs.specs.inside.Covers.{one_if, list_nodes, list_top, null_store_of, list_size}
use Rattle.null_outputs.specs.inside.Groups.{guard_is, is_used, guard_size, guard_group, guard_part, left_part}
use Rattle.null_outputs.specs.inside.Groups.{right_part, left_size, right_size, guard_part_size, nowhere, region}
use Rattle.null_outputs.specs.inside.Groups.{start_of, end_of, is_store_of, stores_of, number_open}
use Rattle.null_outputs.specs.inside.Immediates.{Immediates, with_immediate, with_immediates, KeepsZeros}
use Rattle.null_outputs.specs.inside.Laws.{MaskedIn, EachMasked}
use Rattle.null_outputs.specs.inside.Surely.{Scope, Firm, has, scope_at, scope_of, scopes, split, close, is_always}
use Rattle.null_outputs.specs.inside.Surely.{ask, reaches, sure_in, sure_of, is_firm, firm_of, firms_from, firms}
use Rattle.null_outputs.specs.inside.Surely.{sure_by}
use Rattle.null_outputs.specs.inside.Wants.{spread_at, spread, mark_writes, is_open_store, open_stores, node_closed}
use Rattle.null_outputs.specs.inside.Wants.{nodes_closed, writes_closed, is_closed, or_all, wants_of}
use Rattle.null_outputs.specs.inside.Wants.{found_wants, want_by, complete}
use Rattle.null_outputs.proofs.Added.{all_added, added_stay}

-- places by pairs
abbrev four : (ℕ → ℕ) × (ℕ → ℕ) → (ℕ → ℕ) × (ℕ → ℕ) → Places
four x y = record { on_true = x.0; on_false = x.1; left = y.0; right = y.1 }

abbrev pair : (ℕ → ℕ) → (ℕ → ℕ) → (ℕ → ℕ) × (ℕ → ℕ)
pair f g = (f, g)

module _ (r : Immediates) where
  abbrev new : FlowNode → FlowNode
  new = with_immediate r

  -- WHAT IS SURELY THERE

  at_scope : (t : Bool) (o : Option FlowNode) → scope_at t (option_map new o) ≡ scope_at t o
  at_scope true None = refl
  at_scope true (Some n) = refl
  at_scope false None = refl
  at_scope false (Some n) = refl

  one_scope : (nodes : List FlowNode) (firm : Firm) (s : FlowSource)
      → scope_of (map new nodes) firm s ≡ scope_of nodes firm s
  one_scope nodes firm (Read x) = refl
  one_scope nodes firm (Node y) = ap (scope_at (firm y)) (slice_get-map new nodes y)
      ∙ at_scope (firm y) (slice_get nodes y)

  all_scopes : (nodes : List FlowNode) (firm : Firm) (ss : List FlowSource)
      → scopes (map new nodes) firm ss ≡ scopes nodes firm ss
  all_scopes nodes firm [] = refl
  all_scopes nodes firm (s ∷ ss) = ap₂ (λ (a b : List Scope). a ++ b) (one_scope nodes firm s)
      (all_scopes nodes firm ss)

  same_close : (firm : Firm) (j : ℕ) (ns : List FlowNode) (s : List Scope)
      → close firm j (map new ns) s ≡ close firm j ns s
  same_close firm j [] s = refl
  same_close firm j (n ∷ ns) s = ap (split firm j n) (same_close firm (suc j) ns s)

  same_ask : (f : Scope → Bool) (o : Option FlowNode) → ask f (option_map new o) ≡ ask f o
  same_ask f None = refl
  same_ask f (Some n) = refl

  same_reach : (nodes : List FlowNode) (s : List Scope) (d : ℕ) (x : Scope)
      → reaches (map new nodes) s d x ≡ reaches nodes s d x
  same_reach nodes s zero x = refl
  same_reach nodes s (suc d) None = refl
  same_reach nodes s (suc d) (Some k) =
      ap (λ (b : Bool). has s (Some k) || (not (is_always k.sense) && b))
      (ap (ask (reaches (map new nodes) s d)) (slice_get-map new nodes k.node)
      ∙ (same_ask (reaches (map new nodes) s d) (slice_get nodes k.node)
      ∙ ap (λ (f : Scope → Bool). ask f (slice_get nodes k.node)) (fun_ext (λ (x : Scope). same_reach nodes s d x))))

  same_sure_in : (nodes : List FlowNode) (s : List Scope) (x : Scope)
      → sure_in (map new nodes) s x ≡ sure_in nodes s x
  same_sure_in nodes s x =
      ap (λ (b : Bool). has s None || b)
      (ap (λ (d : ℕ). reaches (map new nodes) s d x) (length-map nodes new) ∙ same_reach nodes s (length nodes) x)

  same_sure : (nodes : List FlowNode) (firm : Firm) → sure_of (map new nodes) firm ≡ sure_of nodes firm
  same_sure nodes firm =
      fun_ext (λ (x : Scope).
      fun_ext (λ (ss : List FlowSource).
      ap (λ (z : List Scope). sure_in (map new nodes) z x)
      (ap (close firm 0 (map new nodes)) (all_scopes nodes firm ss) ∙ same_close firm 0 nodes (scopes nodes firm ss))
      ∙ same_sure_in nodes (close firm 0 nodes (scopes nodes firm ss)) x))

  same_firm : (nodes : List FlowNode) (firm : Firm) (n : FlowNode)
      → is_firm (map new nodes) firm (new n) ≡ is_firm nodes firm n
  same_firm nodes firm n = ap (λ (s : Sure). not (left_open s n) && not (right_open s n)) (same_sure nodes firm)

  same_firms : (nodes : List FlowNode) (found : List Bool) (rest : List FlowNode)
      → firms_from (map new nodes) found (map new rest) ≡ firms_from nodes found rest
  same_firms nodes found [] = refl
  same_firms nodes found (n ∷ rest) =
      ap (λ (t : Bool). firms_from (map new nodes) (found ++ (t ∷ [])) (map new rest))
      (same_firm nodes (firm_of found) n)
      ∙ same_firms nodes (found ++ (is_firm nodes (firm_of found) n ∷ [])) rest

  same_sure_by : (b : FlowBlock) → sure_by (with_immediates r b) ≡ sure_by b
  same_sure_by b =
      ap (λ (f : List Bool). sure_of (map new b.nodes) (firm_of f)) (same_firms b.nodes [] b.nodes)
      ∙ same_sure b.nodes (firm_of (firms b.nodes))

  -- WHAT IS WANTED

  same_store : (e : Form) (n : FlowNode) (k : ℕ) → is_store_of e (new n) k ≡ is_store_of e n k
  same_store Store n k = refl
  same_store _ n k = refl

  same_stores : (j : ℕ) (ns : List FlowNode) (k : ℕ) → stores_of j (map new ns) k ≡ stores_of j ns k
  same_stores j [] k = refl
  same_stores j (n ∷ ns) k =
      ap₂ (λ (t : Bool) (x : List FlowSource). one_if t j ++ x) (same_store (form_of n.op) n k)
      (same_stores (suc j) ns k)

  module _ (sure : Sure) (b : FlowBlock) where
    abbrev newer : FlowBlock
    newer = with_immediates r b

    same_number : (k : ℕ) → number_open sure newer k ≡ number_open sure b k
    same_number k = ap (λ (ss : List FlowSource). in_mask b.mask k && not (sure None ss)) (same_stores 0 b.nodes k)

    same_open : (e : Form) (n : FlowNode) → is_open_store sure newer e (new n) ≡ is_open_store sure b e n
    same_open Store n = same_number n.number
    same_open _ n = refl

    same_opens : (ns : List FlowNode) → open_stores sure newer (map new ns) ≡ open_stores sure b ns
    same_opens [] = refl
    same_opens (n ∷ ns) = ap₂ (λ (t : Bool) (ts : List Bool). t ∷ ts) (same_open (form_of n.op) n) (same_opens ns)

    same_spread : (ws : List Bool) (j : ℕ) (ns : List FlowNode) → spread sure ws j (map new ns) ≡ spread sure ws j ns
    same_spread ws j [] = refl
    same_spread ws j (n ∷ ns) = ap (spread_at sure j n) (same_spread ws (suc j) ns)

    same_wants : wants_of sure newer ≡ wants_of sure b
    same_wants =
        ap (λ (ws : List Bool). spread sure (mark_writes sure ws b.writes) 0 (map new b.nodes)) (same_opens b.nodes)
        ∙ same_spread (mark_writes sure (open_stores sure b b.nodes) b.writes) 0 b.nodes

    same_nodes : (want : Want) (j : ℕ) (ns : List FlowNode)
        → nodes_closed sure want newer j (map new ns) ≡ nodes_closed sure want b j ns
    same_nodes want j [] = refl
    same_nodes want j (n ∷ ns) =
        ap₂ (λ (x y : Bool). x && y)
        (ap (λ (t : Bool). (not (want j) || node_closed sure want n) && (not t || want j))
        (same_open (form_of n.op) n))
        (same_nodes want (suc j) ns)

    same_closed : (want : Want) → is_closed sure want newer ≡ is_closed sure want b
    same_closed want = ap (λ (t : Bool). t && writes_closed sure want b.writes) (same_nodes want 0 b.nodes)

  same_found : (b : FlowBlock) → found_wants (with_immediates r b) ≡ found_wants b
  same_found b =
      ap (λ (s : Sure). firm_of (wants_of s (with_immediates r b))) (same_sure_by b)
      ∙ ap firm_of (same_wants (sure_by b) b)

  same_want_by : (b : FlowBlock) → want_by (with_immediates r b) ≡ want_by b
  same_want_by b =
      ap₂ (λ (s : Sure) (w : Want). or_all (is_closed s w (with_immediates r b)) w) (same_sure_by b) (same_found b)
      ∙ ap (λ (t : Bool). or_all t (found_wants b)) (same_closed (sure_by b) b (found_wants b))

  -- REGIONS

  module _ (size other : ℕ → FlowNode → ℕ) (same : (j : ℕ) (n : FlowNode) → size j (new n) ≡ other j n) where
    same_start : (p j : ℕ) (ns : List FlowNode) (y : ℕ) → start_of size p j (map new ns) y ≡ start_of other p j ns y
    same_start p j [] y = refl
    same_start p j (n ∷ ns) y =
        ap (λ (k : ℕ). cond (nat_eq y j) p (start_of size (p + k) (suc j) (map new ns) y)) (same j n)
        ∙ ap (λ (q : ℕ). cond (nat_eq y j) p q) (same_start (p + other j n) (suc j) ns y)

    same_end : (p j : ℕ) (ns : List FlowNode) → end_of size p j (map new ns) ≡ end_of other p j ns
    same_end p j [] = refl
    same_end p j (n ∷ ns) =
        ap (λ (k : ℕ). end_of size (p + k) (suc j) (map new ns)) (same j n)
        ∙ same_end (p + other j n) (suc j) ns

    same_region : (part by : ℕ → ℕ → FlowNode → List FlowNode)
        → ((p j : ℕ) (n : FlowNode) → part p j (new n) ≡ by p j n)
        → (p j : ℕ) (ns : List FlowNode) → region part size p j (map new ns) ≡ region by other p j ns
    same_region part by parts p j [] = refl
    same_region part by parts p j (n ∷ ns) =
        ap₂ (λ (a c : List FlowNode). a ++ c) (parts p j n)
        (ap (λ (k : ℕ). region part size (p + k) (suc j) (map new ns)) (same j n)
        ∙ same_region part by parts (p + other j n) (suc j) ns)

  -- THE BLOCK

  module _ (sure : Sure) (want : Want) (b : FlowBlock) where
    abbrev later : FlowBlock
    later = with_immediates r b

    same_used : (j : ℕ) (ns : List FlowNode) (s : Bool) (y : ℕ)
        → is_used want j (map new ns) s y ≡ is_used want j ns s y
    same_used j [] s y = refl
    same_used j (n ∷ ns) s y = ap (λ (t : Bool). (want j && guard_is s y n.guard) || t) (same_used (suc j) ns s y)

    same_at : (at : Places) (y : ℕ) (o : Option FlowNode)
        → cover_at sure at y (option_map new o) ≡ cover_at sure at y o
    same_at at y None = refl
    same_at at y (Some n) = refl

    same_source : (at : Places) (s : FlowSource) → cover_of (map new b.nodes) sure at s ≡ cover_of b.nodes sure at s
    same_source at (Read x) = refl
    same_source at (Node y) = ap (cover_at sure at y) (slice_get-map new b.nodes y)
        ∙ same_at at y (slice_get b.nodes y)

    same_guard : (s : Bool) (j : ℕ) (n : FlowNode)
        → guard_part_size want (map new b.nodes) sure s j (new n) ≡ guard_part_size want b.nodes sure s j n
    same_guard s j n =
        ap₂ (λ (t : Bool) (ms : List FlowSource). cond t (guard_size ms) 0) (same_used 0 b.nodes s j)
        (same_source nowhere (Node j))

    same_trues : trues sure want later ≡ trues sure want b
    same_trues = length-map b.nodes new

    same_falses : falses sure want later ≡ falses sure want b
    same_falses =
        ap (λ (p : ℕ). end_of (guard_part_size want (map new b.nodes) sure true) p 0 (map new b.nodes)) same_trues
        ∙ same_end (guard_part_size want (map new b.nodes) sure true) (guard_part_size want b.nodes sure true)
        (same_guard true) (trues sure want b) 0 b.nodes

    same_lefts : lefts sure want later ≡ lefts sure want b
    same_lefts =
        ap (λ (p : ℕ). end_of (guard_part_size want (map new b.nodes) sure false) p 0 (map new b.nodes)) same_falses
        ∙ same_end (guard_part_size want (map new b.nodes) sure false) (guard_part_size want b.nodes sure false)
        (same_guard false) (falses sure want b) 0 b.nodes

    same_rights : rights sure want later ≡ rights sure want b
    same_rights =
        ap (λ (p : ℕ). end_of (left_size sure want) p 0 (map new b.nodes)) same_lefts
        ∙ same_end (left_size sure want) (left_size sure want) (λ j n. refl) (lefts sure want b) 0 b.nodes

    same_writes_at : writes_at sure want later ≡ writes_at sure want b
    same_writes_at =
        ap (λ (p : ℕ). end_of (right_size sure want) p 0 (map new b.nodes)) same_rights
        ∙ same_end (right_size sure want) (right_size sure want) (λ j n. refl) (rights sure want b) 0 b.nodes

    same_numbers_at : numbers_at sure want later ≡ numbers_at sure want b
    same_numbers_at = ap (λ (p : ℕ). end_of (write_size sure want b) p 0 b.writes) same_writes_at

    guards_at : (t : Bool) (p q : ℕ) → p ≡ q
        → start_of (guard_part_size want (map new b.nodes) sure t) p 0 (map new b.nodes)
        ≡ start_of (guard_part_size want b.nodes sure t) q 0 b.nodes
    guards_at t p q e =
        fun_ext (λ (y : ℕ).
        ap (λ (i : ℕ). start_of (guard_part_size want (map new b.nodes) sure t) i 0 (map new b.nodes) y) e
        ∙ same_start (guard_part_size want (map new b.nodes) sure t) (guard_part_size want b.nodes sure t)
        (same_guard t) q 0 b.nodes y)

    left_at : start_of (left_size sure want) (lefts sure want later) 0 (map new b.nodes)
        ≡ start_of (left_size sure want) (lefts sure want b) 0 b.nodes
    left_at =
        fun_ext (λ (y : ℕ).
        ap (λ (p : ℕ). start_of (left_size sure want) p 0 (map new b.nodes) y) same_lefts
        ∙ same_start (left_size sure want) (left_size sure want) (λ j n. refl) (lefts sure want b) 0 b.nodes y)

    right_at : start_of (right_size sure want) (rights sure want later) 0 (map new b.nodes)
        ≡ start_of (right_size sure want) (rights sure want b) 0 b.nodes
    right_at =
        fun_ext (λ (y : ℕ).
        ap (λ (p : ℕ). start_of (right_size sure want) p 0 (map new b.nodes) y) same_rights
        ∙ same_start (right_size sure want) (right_size sure want) (λ j n. refl) (rights sure want b) 0 b.nodes y)

    same_places : places sure want later ≡ places sure want b
    same_places =
        ap₂ four
        (ap₂ pair (guards_at true (trues sure want later) (trues sure want b) same_trues)
        (guards_at false (falses sure want later) (falses sure want b) same_falses))
        (ap₂ pair left_at right_at)

    same_cover : cover sure want later ≡ cover sure want b
    same_cover =
        ap (cover_of (map new b.nodes) sure) same_places
        ∙ fun_ext (λ (s : FlowSource). same_source (places sure want b) s)

    same_guards : (s : Bool) (p q : ℕ) → p ≡ q
        → region (guard_part want (map new b.nodes) (cover sure want later) s)
        (guard_part_size want (map new b.nodes) sure s) p 0 (map new b.nodes)
        ≡ region (guard_part want b.nodes (cover sure want b) s) (guard_part_size want b.nodes sure s) q 0 b.nodes
    same_guards s p q e =
        ap₂ (λ (c : Cover) (i : ℕ). region (guard_part want (map new b.nodes) c s)
        (guard_part_size want (map new b.nodes) sure s) i 0 (map new b.nodes)) same_cover e
        ∙ same_region (guard_part_size want (map new b.nodes) sure s) (guard_part_size want b.nodes sure s)
        (same_guard s)
        (guard_part want (map new b.nodes) (cover sure want b) s) (guard_part want b.nodes (cover sure want b) s)
        (λ i j n. ap (λ (t : Bool). cond t (guard_group i s j (cover sure want b (Node j))) [])
        (same_used 0 b.nodes s j)) q 0 b.nodes

    same_left : lefts_region sure want later ≡ lefts_region sure want b
    same_left =
        ap₂ (λ (c : Cover) (i : ℕ). region (left_part sure want c) (left_size sure want) i 0 (map new b.nodes))
        same_cover same_lefts
        ∙ same_region (left_size sure want) (left_size sure want) (λ j n. refl)
        (left_part sure want (cover sure want b)) (left_part sure want (cover sure want b))
        (λ p j n. refl) (lefts sure want b) 0 b.nodes

    same_right : rights_region sure want later ≡ rights_region sure want b
    same_right =
        ap₂ (λ (c : Cover) (i : ℕ). region (right_part sure want c) (right_size sure want) i 0 (map new b.nodes))
        same_cover same_rights
        ∙ same_region (right_size sure want) (right_size sure want) (λ j n. refl)
        (right_part sure want (cover sure want b)) (right_part sure want (cover sure want b))
        (λ p j n. refl) (rights sure want b) 0 b.nodes

    same_writes : writes_region sure want later ≡ writes_region sure want b
    same_writes =
        ap₂ (λ (c : Cover) (i : ℕ). region
        (λ (p j : ℕ) (w : FlowWrite). cond (sure None w.sources) [] (list_nodes c p w.sources))
        (write_size sure want b) i 0 b.writes)
        same_cover same_writes_at

    same_filled : (p j : ℕ) (ws : List FlowWrite) → filled_all sure want later p j ws ≡ filled_all sure want b p j ws
    same_filled p j [] = refl
    same_filled p j (w ∷ ws) =
        ap₂ (λ (c : Cover) (rest : List FlowWrite).
        record w { sources = w.sources ++ cond (sure None w.sources) [] (list_top c p w.sources) } ∷ rest)
        same_cover (same_filled (p + write_size sure want b j w) (suc j) ws)

    same_part : (p k : ℕ) → number_part sure want later p k ≡ number_part sure want b p k
    same_part p k =
        ap₂ (λ (c : Cover) (ss : List FlowSource). cond (in_mask b.mask k && not (sure None ss))
        (null_store_of k (list_top c (suc p) ss) ∷ list_nodes c (suc p) ss) [])
        same_cover (same_stores 0 b.nodes k)

    same_number_size : (k : ℕ) → number_size sure want later k ≡ number_size sure want b k
    same_number_size k =
        ap (λ (ss : List FlowSource). cond (in_mask b.mask k && not (sure None ss)) (suc (list_size ss)) 0)
        (same_stores 0 b.nodes k)

    same_parts : (m p k : ℕ) → numbers_part sure want later p k m ≡ numbers_part sure want b p k m
    same_parts zero p k = refl
    same_parts (suc m) p k =
        ap₂ (λ (x y : List FlowNode). x ++ y) (same_part p k)
        (ap (λ (i : ℕ). numbers_part sure want later (p + i) (suc k) m) (same_number_size k)
        ∙ same_parts m (p + number_size sure want b k) (suc k))

    same_numbers : all_numbers sure want later ≡ all_numbers sure want b
    unfolding all_numbers
    same_numbers =
        ap (λ (p : ℕ). numbers_part sure want later p 0 32) same_numbers_at ∙ same_parts 32 (numbers_at sure want b) 0

    same_added : added sure want later ≡ added sure want b
    same_added =
        ap₂ (λ (x y : List FlowNode). x ++ y)
        (same_guards true (trues sure want later) (trues sure want b) same_trues)
        (ap₂ (λ (x y : List FlowNode). x ++ y)
        (same_guards false (falses sure want later) (falses sure want b) same_falses)
        (ap₂ (λ (x y : List FlowNode). x ++ y) same_left
        (ap₂ (λ (x y : List FlowNode). x ++ y) same_right
        (ap₂ (λ (x y : List FlowNode). x ++ y) same_writes same_numbers))))

    same_completed : KeepsZeros r → completed sure want later ≡ with_immediates r (completed sure want b)
    same_completed zeros =
        ap₂ (λ (ns : List FlowNode) (ws : List FlowWrite). record b { nodes = ns; writes = ws })
        (ap (λ (x : List FlowNode). map new b.nodes ++ x)
        (same_added ∙ sym (added_stay r zeros (added sure want b) (all_added sure want b)))
        ∙ sym (map-append new b.nodes (added sure want b)))
        (ap (λ (p : ℕ). filled_all sure want later p 0 b.writes) same_writes_at
        ∙ same_filled (writes_at sure want b) 0 b.writes)

  -- new immediates before and after completing
  pub keeps_immediates : KeepsZeros r → (b : FlowBlock)
      → complete (with_immediates r b) ≡ with_immediates r (complete b)
  keeps_immediates zeros b =
      ap₂ (λ (s : Sure) (w : Want). completed s w (with_immediates r b)) (same_sure_by b) (same_want_by b)
      ∙ same_completed (sure_by b) (want_by b) b zeros

  one_masked : (e : Form) (b : FlowBlock) (n : FlowNode) → MaskedIn e b n → MaskedIn e (with_immediates r b) (new n)
  one_masked Store b n m = m
  one_masked _ b n m = tt

  -- each store's number is still in the mask with new immediates
  pub each_masked : (b : FlowBlock) (ns : List FlowNode) → EachMasked b ns
      → EachMasked (with_immediates r b) (map new ns)
  each_masked b [] m = tt
  each_masked b (n ∷ ns) m = (one_masked (form_of n.op) b n m.0, each_masked b ns m.1)
