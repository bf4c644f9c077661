-- The meaning without its depth: one equation for each task, and the law of more steps.
use Rattle.std.proofs.Common.{◌≡◌, ℕ, zero, suc, ◌+◌, ◌*◌, ◌<◌, ◌≤◌, refl, sym, ap, ◌∙◌, arith}
use Rattle.std.proofs.Common.{add-zero}
use Rattle.c_tree.specs.declared.TypedExpr.{TypedExpr}
use Rattle.c_tree.specs.declared.TypedStmt.{TypedStmt, out-TypedStmt}
use Rattle.c_tree.specs.declared.TypedProgram.{TypedProgram}
use Rattle.c_meaning_spec.specs.declared.signal.Halt.TheVariants.{NoStep, TooDeep, Faults, Exits}
use Rattle.c_meaning_spec.specs.State.{State, Result, Go, Over}
use Rattle.c_meaning_spec.specs.Task.{Task, Of, Run, Turn, Parts}
use Rattle.c_tree.specs.TypedTrees.{node_of}
use Rattle.c_meaning_spec.specs.Eval.{perform, evaluated, enough, meaning}
use Rattle.c_meaning_spec.proofs.Puts.{Puts}
use Rattle.c_meaning_spec.proofs.StatementsPut.{p-evaluated, p-meaning}
use Rattle.c_meaning_spec.proofs.Grows.{more, Grew}
use Rattle.c_meaning_spec.proofs.ExpressionsGrow.{g-expression}
use Rattle.c_meaning_spec.proofs.StatementsGrow.{g-statement, g-turn}

-- the depth that a task needs
abbrev pub weight : Task → ℕ → ℕ
weight (Of e) n = 2 * n + 1
weight (Run st) n = 2 * n + 1
weight (Turn test post body) n = 2 * n + 2

-- at most so much
pub weight-le : (t : Task) (n : ℕ) → weight t n ≤ 2 * n + 2
weight-le (Of e) n = omega arith
weight-le (Run st) n = omega arith
weight-le (Turn test post body) n = omega arith

-- every task weighs something
pub weight-some : (t : Task) (n : ℕ) → 0 < weight t n
weight-some (Of e) n = omega arith
weight-some (Run st) n = omega arith
weight-some (Turn test post body) n = omega arith

-- what grew with fewer steps at most did so with more
pub weaker : (d m n : ℕ) (r r' : Result) → m ≤ n → Grew d m r r' → Grew d n r r'
weaker d m n (Go v s) r' h g = let lt : s.stock < m = g.grows.1 in record { grows = (g.grows.0, omega arith) }
weaker d m n (Over NoStep s) r' h g = record { grows = g.grows }
weaker d m n (Over (Faults c) s) r' h g = record { grows = g.grows }
weaker d m n (Over TooDeep s) r' h g = record { grows = g.grows }
weaker d m n (Over (Exits w) s) r' h g = record { grows = g.grows }

-- with fewer steps than n the parts are the same with d more
abbrev pub Below : ℕ → ℕ → Parts → Parts → Type 0
Below d n rec rec' = (t : Task) (s : State) → s.stock < n → Grew d n (rec t s) (rec' t (more d s))

-- no part takes anything back
abbrev pub NoneTaken : Parts → Type 0
NoneTaken rec = (t : Task) (s : State) → Puts s.output s.stock (rec t s)

-- one task, from what is known of its parts
grown_by : (P : TypedProgram) (d : ℕ) (rec rec' : Parts) (t : Task) (s : State)
    → Below d s.stock rec rec' → NoneTaken rec'
    → ((e : TypedExpr) → Grew d s.stock (rec (Of e) s) (rec' (Of e) (more d s)))
    → ((st : TypedStmt) → Grew d s.stock (rec (Run st) s) (rec' (Run st) (more d s)))
    → Grew d s.stock (perform rec P t s) (perform rec' P t (more d s))
grown_by P d rec rec' (Of e) s b p he hs =
    g-expression d s.stock rec rec' b p P (node_of e) s (omega arith)
grown_by P d rec rec' (Run st) s b p he hs =
    g-statement d s.stock rec rec' b p (out-TypedStmt st) s (omega arith)
grown_by P d rec rec' (Turn test post body) s b p he hs =
    g-turn d s.stock rec rec' b p test post body s he hs

-- a depth that is enough gives the same, with more steps too
pub grown : (P : TypedProgram) (d k k' : ℕ) (t : Task) (s : State) → weight t s.stock ≤ k
    → weight t (s.stock + d) ≤ k' → Grew d s.stock (evaluated k P t s) (evaluated k' P t (more d s))
unfolding evaluated
grown P d zero k' t s h h' = let w = weight-some t s.stock in absurd (omega arith)
grown P d (suc k) zero t s h h' = let w = weight-some t (s.stock + d) in absurd (omega arith)
grown P d (suc k) (suc k') (Of e) s h h' =
    g-expression d s.stock (evaluated k P) (evaluated k' P)
    (λ t u lt. let a = weight-le t u.stock in let b = weight-le t (u.stock + d) in
    weaker d u.stock s.stock _ _ (omega arith) (grown P d k k' t u (omega arith) (omega arith)))
    (p-evaluated k' P) P (node_of e) s (omega arith)
grown P d (suc k) (suc k') (Run st) s h h' =
    g-statement d s.stock (evaluated k P) (evaluated k' P)
    (λ t u lt. let a = weight-le t u.stock in let b = weight-le t (u.stock + d) in
    weaker d u.stock s.stock _ _ (omega arith) (grown P d k k' t u (omega arith) (omega arith)))
    (p-evaluated k' P) (out-TypedStmt st) s (omega arith)
grown P d (suc k) (suc k') (Turn test post body) s h h' =
    g-turn d s.stock (evaluated k P) (evaluated k' P)
    (λ t u lt. let a = weight-le t u.stock in let b = weight-le t (u.stock + d) in
    weaker d u.stock s.stock _ _ (omega arith) (grown P d k k' t u (omega arith) (omega arith)))
    (p-evaluated k' P) test post body s
    (λ e. grown P d k k' (Of e) s (omega arith) (omega arith))
    (λ st. grown P d k k' (Run st) s (omega arith) (omega arith))

-- no more steps
pub more-zero : (s : State) → more 0 s ≡ s
more-zero s = ap (λ (n : ℕ). record s { stock = n }) (add-zero s.stock)

-- what grew by no steps is the same
pub same_result : (n : ℕ) (r r' : Result) → Grew 0 n r r' → r' ≡ r
same_result n (Go v s) r' g = g.grows.0 ∙ ap (Go v) (more-zero s)
same_result n (Over NoStep s) r' g = g.grows.0 refl ∙ ap (Over NoStep) (more-zero s)
same_result n (Over (Faults c) s) r' g = g.grows ∙ ap (Over (Faults c)) (more-zero s)
same_result n (Over TooDeep s) r' g = g.grows ∙ ap (Over TooDeep) (more-zero s)
same_result n (Over (Exits w) s) r' g = g.grows ∙ ap (Over (Exits w)) (more-zero s)

-- more steps: the law for every task
pub meaning-more : (P : TypedProgram) (d : ℕ) (t : Task) (s : State)
    → Grew d s.stock (meaning P t s) (meaning P t (more d s))
unfolding meaning
meaning-more P d t s = let a = weight-le t s.stock in let b = weight-le t (s.stock + d) in
    grown P d (enough s.stock) (enough (s.stock + d)) t s a b

-- What a task means, by what its parts mean: all that a proof over evaluations needs to know of
-- `meaning`.
pub meaning-is : (P : TypedProgram) (t : Task) (s : State)
    → meaning P t s ≡ perform (meaning P) P t s
unfolding meaning evaluated
meaning-is P t s =
    let k : ℕ = 2 * s.stock + 1 in
    let e : enough s.stock ≡ suc k = omega arith in
    let step : evaluated (enough s.stock) P t s ≡ perform (evaluated k P) P t s = ap (λ n. evaluated n P t s) e in
    let g : Grew 0 s.stock (perform (evaluated k P) P t s) (perform (meaning P) P t (more 0 s)) =
    grown_by P 0 (evaluated k P) (meaning P) t s
    (λ t u lt. let a = weight-le t u.stock in let b = weight-le t (u.stock + 0) in
    weaker 0 u.stock s.stock _ _ (omega arith)
    (grown P 0 k (enough (u.stock + 0)) t u (omega arith) b))
    (p-meaning P)
    (λ x. grown P 0 k (enough (s.stock + 0)) (Of x) s (omega arith) (omega arith))
    (λ x. grown P 0 k (enough (s.stock + 0)) (Run x) s (omega arith) (omega arith)) in
    step ∙ (sym (same_result s.stock _ _ g) ∙ ap (perform (meaning P) P t) (more-zero s))
