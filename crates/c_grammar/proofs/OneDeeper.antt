-- What is known of the parser of expressions one deeper, and expressions up to a mark.
use Rattle.std.proofs.Common.{◌≡◌, ℕ, suc, ◌<◌, Bool, true, List, ◌∷◌, Option, Some, None, Ok, ◌∙◌}
use Rattle.std.proofs.Common.{arith}
use Rattle.c_tree.specs.declared.token.Form.{Form}
use Rattle.c_tree.specs.declared.token.Form.TheVariants as form
use Rattle.c_tree.specs.declared.token.Mark.{Mark}
use Rattle.c_tree.specs.declared.tree.Expr.{Expr}
use Rattle.c_grammar.specs.Tokens.{Tokens, punct, May}
use Rattle.c_grammar.specs.inside.Parsing.{Out, and_then, by_option, expect}
use Rattle.c_grammar.specs.inside.ModelDepth.{Nested}
use Rattle.c_grammar.specs.inside.ModelOperators.{seen}
use Rattle.c_grammar.proofs.Agree.{Tied, Lands, lands_by}
use Rattle.c_grammar.proofs.Pieces.{Rel, Sound, Complete, Then, always, any, Piece, seq, done, Done}
use Rattle.c_grammar.proofs.Pieces.{turn, same_tree}
use Rattle.c_grammar.proofs.TokenPieces.{Is, mark_piece}
use Rattle.c_grammar.proofs.DepthPieces.{Reach}
use Rattle.c_grammar.proofs.Stops.{bind, mark_stops, tied_seen, by_none, by_some, by_step}
use Rattle.c_grammar.proofs.Levels.{zero_token, zero_first}
use Rattle.c_grammar.proofs.Joins.{Level, ends_at}

-- what is known of what stands one deeper
pub record Deeper (nested : Nested) (m d : ℕ) : Type 0 where
  pub reach : Reach nested m d
  pub unary_in : nested.allowed ≡ true → Piece same_tree (Level 2 (suc d)) any always
      (ends_at 2) zero_first m nested.unary
  pub cast_deep : nested.allowed ≡ true → Piece same_tree (Level 3 (suc d)) any always
      (ends_at 3) zero_first m nested.cast
  pub conditional_in : nested.allowed ≡ true
      → Piece same_tree (Level 14 (suc d)) any always (ends_at 14) zero_first m nested.conditional
  pub assignment_in : nested.allowed ≡ true
      → Piece same_tree (Level 15 (suc d)) any always (ends_at 15) zero_first m nested.assignment
  pub expression_in : nested.allowed ≡ true
      → Piece same_tree (Level 16 (suc d)) any always (ends_at 16) zero_first m nested.expression

-- arguments that are known, and no token of them
abbrev pub args_here : List Expr → Tokens → Out (List Expr)
args_here es t = Ok (es, t)

-- an expression up to a mark, and what is made of it
pub closed : {A : Type 0} {n d m : ℕ} {run : Tokens → Out Expr} (k : Mark) → n < bind (form.Mark k)
    → (make : Expr → A) → Piece same_tree (Level n d) any always (ends_at n) zero_first m run
    → {Ends : A → Tokens → Type 0}
    → Piece same_tree (Then (Level n d) (λ e. Then (Is k) (λ l. Done (make e)))) any always Ends
    (λ t. zero_token ∷ punct 0 k ∷ t) m
    (λ ts. and_then (run ts) (λ e ts. and_then (expect k ts) (λ _ ts. Ok (make e, ts))))
closed {n = n} {m = m} k lt make p =
    seq (λ e ts. and_then (expect k ts) (λ _ ts. Ok (make e, ts))) p
    (λ e. seq (λ _ ts. Ok (make e, ts)) (mark_piece k m)
    (λ l. done same_tree (make e) m (λ t h. tt)) (λ t. omega arith) (λ may x y u t r h. tt))
    (λ t. omega arith) (λ may x y u t r h. mark_stops n k lt r.0 r.1 u r.2)

-- the operator, by the first token
pub data Among {X P : Type 0} (R : P → Rel X) (S : Rel X) (may : May) (x : X) (f t : Tokens) : Type 0 where
  by : (p : P) → R p may x f t → Among R S may x f t
  plain : S may x f t → Among R S may x f t

-- a parser that looks at the first form for one of several parts, and reads another one where there is none, is
-- sound and complete where they are
pub among : {X A P : Type 0} {tree : X → A} {R : P → Rel X} {S : Rel X} {Ends : X → Tokens → Type 0}
    {after : Tokens → Tokens} {m : ℕ} {run : P → Tokens → Out A}
    {run' : Tokens → Out A} (look : Form → Option P)
    → ((p : P) (ts : Tokens) → seen look ts ≡ Some p → Sound tree (R p) always m ts (run p ts))
    → ((p : P) → Complete tree (R p) Ends m (run p)) → Piece tree S any always Ends after m run'
    → ((p : P) (may : May) (x : X) (f t : Tokens) → R p may x f t → seen look f ≡ Some p)
    → ((may : May) (x : X) (f t : Tokens) → S may x f t → Ends x t → seen look f ≡ None)
    → Piece tree (Among R S) any always Ends after m
    (λ ts. by_option (seen look ts) (run' ts) (λ p. run p ts))
among {tree = tree} {R = R} {S = S} {Ends = Ends} {m = m} {run = run}
    {run' = run'} look sound complete q is_by is_plain =
    record {
      grow = q.grow;
      least = λ may t fr fr'. let a = q.least may t fr fr' in (a.0, plain a.1);
      sound = λ ts h. by_step (Sound tree (Among R S) always m ts) (seen look ts) _ _
          (λ e. turn (λ may x f t r. plain r) ts (q.sound ts tt))
          (λ p e. turn (λ may x f t r. by p r) ts (sound p ts e));
      complete = λ cut g g' may x f' t' r e f tied. whole cut g g' may x f' t' r e f tied;
    }
  where
    whole : (cut : Bool) (g g' : Tokens) (may : May) (x : _) (f' t' : Tokens)
        → Among R S may x f' t' → Ends x t' → (f : Tokens) → Tied cut g g' f f'
        → Lands cut g g' may m (by_option (seen look f) (run' f) (λ p. run p f))
        (λ to. Ok (tree x, to)) t'
    whole cut g g' may x f' t' (by p r) e f tied =
        lands_by cut g g' may m (by_some (seen look f) p _ _
        (tied_seen look tied ∙ is_by p may x f' t' r)) (complete p cut g g' may x f' t' r e f tied)
    whole cut g g' may x f' t' (plain r) e f tied =
        lands_by cut g g' may m (by_none (seen look f) _ _
        (tied_seen look tied ∙ is_plain may x f' t' r e)) (q.complete cut g g' may x f' t' r e f tied)
