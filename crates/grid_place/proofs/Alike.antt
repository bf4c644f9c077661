-- In every state a moved block has the block's tokens, and comes to the same.
use Rattle.std.proofs.Common.{◌≡◌, ℕ, zero, suc, ◌+◌, ◌<◌, ◌≤◌, Bool, true, false, List, [], ◌∷◌}
use Rattle.std.proofs.Common.{◌++◌, Option, Some, None, length, refl, sym, ap, ap₂, ◌∙◌, arith}
use Rattle.std.specs.Prelude.{option_map}
use Rattle.std.proofs.Math.Path.{fun_ext}
use Rattle.trips_isa.specs.declared.node.Node.{Node}
use Rattle.trips_isa.specs.declared.op.Op.{Op}
use Rattle.trips_isa.specs.declared.op.Op.TheVariants.{Bro, Callo, Br, Ret, Scall}
use Rattle.trips_isa.specs.declared.block.Inst.{Inst}
use Rattle.trips_isa.specs.declared.block.Token.{Token}
use Rattle.trips_isa.specs.declared.block.Stored.{Stored}
use Rattle.trips_isa.specs.declared.block.Block.{Block}
use Rattle.trips_isa.specs.Fits.{FitsBlock}
use Rattle.trips_isa.specs.Rule.{Answer}
use Rattle.trips_isa.specs.Places.{targets, names, nodes_of}
use Rattle.trips_isa.specs.Tables.{taken, or_else, first, deepest, IsRanked}
use Rattle.trips_isa.specs.Stores.{listed, listed_below}
use Rattle.trips_isa.specs.Blocks.{is_read, inst_at, at_place, store_of, Leaving, leaves_with}
use Rattle.trips_isa.specs.Blocks.{leaves_if_read, leaving_of, responses_in, given, token_of}
use Rattle.trips_isa.specs.inside.Blocks.{Solves}
use Rattle.trips_isa.specs.Outcomes.{next_of, is_system, exit_of, next_by, or_null, writes_from}
use Rattle.trips_isa.specs.Outcomes.{all_stores, Effects, plain_by, plain}
use Rattle.block_cases.specs.Good.{GoodBlock}
use Rattle.block_cases.proofs.Settled.{token_settled, token_solves, only_table}
use Rattle.grid_place.specs.Moves.{Permutes}
use Rattle.grid_place.specs.inside.Moves.{IsMoved, renamed_inst}
use Rattle.grid_place.proofs.Renaming.{place_goes, place_stays}
use Rattle.grid_place.proofs.MovedNodes.{Standing, standing, node_goes, still_read, as_many}
use Rattle.grid_place.proofs.MovedNodes.{inst_moved}
use Rattle.grid_place.proofs.Outcome.{first_alike, one_gives, token_alike, store_alike, given_alike}
use Rattle.grid_place.proofs.Outcome.{leaves_silent}
use Rattle.grid_place.proofs.Edges.{ranked_back}

-- the branch that leaves has its targets renamed
abbrev leaving_renamed : (ℕ → ℕ) → Inst × Token → Inst × Token
leaving_renamed p (i, t) = (renamed_inst p i, t)

option_first : {A B : Type 0} → (h : A → B) (ns : List Node) (q : ℕ) (f : ℕ → Option A)
    → first ns q (λ x. option_map h (f x)) ≡ option_map h (first ns q f)
option_first h [] q f = refl
option_first h (n ∷ ns) q f = ap₂ or_else (head (names (targets n) q))
    (option_first h ns q (λ y. f (suc y)))
    ∙ joined (taken (names (targets n) q) f) (first ns q (λ y. f (suc y)))
  where
    head : (v : Bool) → taken v (λ x. option_map h (f x)) ≡ option_map h (taken v f)
    head true = refl
    head false = refl

    joined : (o r : Option _) → or_else (option_map h o) (option_map h r)
        ≡ option_map h (or_else o r)
    joined None r = refl
    joined (Some u) r = refl

leaves_renamed : (p : ℕ → ℕ) (o : Option Inst) (t : Answer)
    → leaves_with (option_map (renamed_inst p) o) t
    ≡ option_map (leaving_renamed p) (leaves_with o t)
leaves_renamed p None t = refl
leaves_renamed p (Some i) None = refl
leaves_renamed p (Some i) (Some t) = refl

next_renamed : (p : ℕ → ℕ) (blocks : List Block) (k : ℕ) (i : Inst) (t : Token) (o : Op)
    → next_by o blocks k (renamed_inst p i) t ≡ next_by o blocks k i t
next_renamed p blocks k i t Bro = refl
next_renamed p blocks k i t Callo = refl
next_renamed p blocks k i t Br = refl
next_renamed p blocks k i t Ret = refl
next_renamed p blocks k i t Scall = refl
next_renamed p blocks k i t _ = refl

next_same : (p : ℕ → ℕ) (blocks : List Block) (k : ℕ) (o : Leaving)
    → next_of blocks k (option_map (leaving_renamed p) o) ≡ next_of blocks k o
next_same p blocks k None = refl
next_same p blocks k (Some (i, t)) = next_renamed p blocks k i t i.op

system_same : (p : ℕ → ℕ) (o : Leaving)
    → is_system (option_map (leaving_renamed p) o) ≡ is_system o
system_same p None = refl
system_same p (Some (i, t)) = refl

exit_same : (p : ℕ → ℕ) (o : Leaving) → exit_of (option_map (leaving_renamed p) o) ≡ exit_of o
exit_same p None = refl
exit_same p (Some (i, t)) = refl

listed_same : (s s' : ℕ → Option Stored) (n : ℕ) → ((k : ℕ) → k < n → s k ≡ s' k)
    → listed_below s n ≡ listed_below s' n
listed_same s s' zero h = refl
listed_same s s' (suc n) h = ap₂ (λ l o. l ++ listed o)
    (listed_same s s' n (λ k l. h k (omega arith))) (h n (omega arith))

stores_same : (s s' : ℕ → Option Stored) → ((k : ℕ) → k < 33 → s k ≡ s' k)
    → all_stores s ≡ all_stores s'
unfolding all_stores
stores_same s s' h = listed_same s s' 32 (λ k l. h k (omega arith))

writes_same : (at at' : ℕ → Answer) (w : ℕ) (rs : List ℕ) → w + length rs ≤ 32
    → ((j : ℕ) → j < 32 → at (384 + j) ≡ at' (384 + j)) → writes_from at w rs ≡ writes_from at' w rs
writes_same at at' w [] l h = refl
writes_same at at' w (r ∷ rs) l h = ap₂ (λ t ts. or_null t ∷ ts) (h w (omega arith))
    (writes_same at at' (suc w) rs (omega arith) h)

abbrev made : List Token → List Stored → ℕ → Bool → ℕ → Effects
made w s e y n = record { writes = w; stores = s; exit = e; system = y; successor = n }

made_same : (w w' : List Token) (s s' : List Stored) (e e' : ℕ) (y y' : Bool) (n n' : ℕ) → w ≡ w'
    → s ≡ s' → e ≡ e' → y ≡ y' → n ≡ n' → made w s e y n ≡ made w' s' e' y' n'
made_same w w' s s' e e' y y' n n' a b c d f = ap₂ (λ i j. made i j e y n) a b
    ∙ ap₂ (λ i j. made w' s' i j n) c d ∙ ap (made w' s' e' y') f

module _ (p q : ℕ → ℕ) (b c : Block) (fits : FitsBlock b) (good : GoodBlock b) (m : Permutes p q)
    (w : IsMoved p b c) where
  stand : Standing (nodes_of b) (nodes_of c) (place_goes p) (node_goes p b) (node_goes q c)
  stand = standing p q b c fits m w

  -- the nodes of a moved block are ranked
  pub moved_ranked : IsRanked (nodes_of c)
  moved_ranked = ranked_back (nodes_of b) (nodes_of c) (place_goes p) (node_goes p b)
      (node_goes q c)
      stand good.ranked

  module _ (regs mem : List ℕ) where
    abbrev tokens : ℕ → Answer
    tokens = token_of b regs mem deepest

    abbrev moved : ℕ → Answer
    moved y = tokens (node_goes q c y)

    -- a node of the moved block has the token of the block's node
    pub same : (x : ℕ) → moved (node_goes p b x) ≡ tokens x
    same x = ap tokens (stand.returns x)

    -- the block's tokens solve its equations
    pub solves : Solves b (responses_in b regs mem tokens) tokens
    solves = token_solves b regs mem good.ranked

    settled : (y : ℕ) → moved y ≡ given c regs mem moved y
    settled y = token_settled b regs mem good.ranked (node_goes q c y)
        ∙ sym (given_alike p q b c fits good m w
        (responses_in b regs mem tokens) tokens moved solves same
        regs mem (node_goes q c y))
        ∙ ap (given c regs mem moved) (stand.returned y)

    -- the tokens of the moved block are those of the block, each at its node's new place
    pub moved_tokens : moved ≡ token_of c regs mem deepest
    moved_tokens = fun_ext (only_table c regs mem moved_ranked moved settled)

    abbrev leaves : Block → (ℕ → Answer) → ℕ → Leaving
    leaves a g x = leaves_if_read (is_read a x) a g x

    leaving_at : (x : ℕ) → leaves c moved (node_goes p b x)
        ≡ option_map (leaving_renamed p) (leaves b tokens x)
    leaving_at x = by (is_read c (node_goes p b x)) (is_read b x) refl
        (still_read p q b c (as_many p q b c fits m w) x)
      where
        by : (u v : Bool) → is_read b x ≡ v → u ≡ v
            → leaves_if_read u c moved (node_goes p b x)
            ≡ option_map (leaving_renamed p) (leaves_if_read v b tokens x)
        by true true e k = refl
        by false true e k = absurd (cc)
        by true false e k = absurd (cc)
        by false false e k = ap₂ leaves_with (inst_moved p q b c fits m w x e) (same x)
            ∙ leaves_renamed p (inst_at b x) (tokens x)

    silent : (x : ℕ) → tokens x ≡ None → option_map (leaving_renamed p) (leaves b tokens x) ≡ None
    silent x e = ap (option_map (leaving_renamed p)) (leaves_silent b tokens x e)

    leaving_alike : leaving_of c moved ≡ option_map (leaving_renamed p) (leaving_of b tokens)
    leaving_alike = sym (
        sym (option_first (leaving_renamed p) (nodes_of b) 448 (leaves b tokens))
        ∙ first_alike (nodes_of b) (nodes_of c) (place_goes p) (node_goes p b) (node_goes q c) stand
        (λ x. option_map (leaving_renamed p) (leaves b tokens x)) (leaves c moved) leaving_at 448
        (one_gives b fits good (responses_in b regs mem tokens) tokens solves
        (λ x. option_map (leaving_renamed p) (leaves b tokens x)) silent 448 (omega arith))
        ∙ ap (λ r. first (nodes_of c) r (leaves c moved)) (place_stays p 448 (omega arith))
        )

    written : (j : ℕ) → j < 32 → at_place c moved (384 + j) ≡ at_place b tokens (384 + j)
    written j l = sym (token_alike p q b c fits good m w (responses_in b regs mem tokens) tokens moved
        solves same (384 + j) (omega arith)
        ∙ ap (at_place c moved) (place_stays p (384 + j) (omega arith)))

    moved_plain : (blocks : List Block) (k : ℕ) → plain_by blocks k c moved
        ≡ plain_by blocks k b tokens
    moved_plain blocks k = made_same _ _ _ _ _ _ _ _ _ _
        (ap (writes_from (at_place c moved) 0) w.writes
        ∙ writes_same (at_place c moved) (at_place b tokens) 0 b.writes.items
        (let few : length b.writes.items ≤ 32 = fits.writes in omega arith) written)
        (stores_same (store_of c moved) (store_of b tokens)
        (λ n l. sym (store_alike p q b c fits good
        m w (responses_in b regs mem tokens) tokens moved solves same n l)))
        (ap exit_of leaving_alike ∙ exit_same p (leaving_of b tokens))
        (ap is_system leaving_alike ∙ system_same p (leaving_of b tokens))
        (ap (next_of blocks k) leaving_alike ∙ next_same p blocks k (leaving_of b tokens))

    -- a moved block comes to what the block comes to
    pub same_plain : (blocks : List Block) (k : ℕ) → plain blocks k c regs mem
        ≡ plain blocks k b regs mem
    same_plain blocks k = sym (ap (plain_by blocks k c) moved_tokens) ∙ moved_plain blocks k
