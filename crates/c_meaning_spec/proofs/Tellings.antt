-- The laws of an evaluation with its places.
use Rattle.std.proofs.Common.{◌≡◌, ℕ, zero, suc, ◌+◌, ◌*◌, ◌≤◌, List, [], Option, Some, None}
use Rattle.std.proofs.Common.{refl, sym, ap, ◌∙◌, arith}
use Rattle.c_tree.specs.declared.Callee.TheVariants.{Func}
use Rattle.c_tree.specs.declared.TypedExpr.{TypedExpr}
use Rattle.c_tree.specs.declared.TypedStmt.{TypedStmt, out-TypedStmt}
use Rattle.c_tree.specs.declared.TypedProgram.{TypedProgram}
use Rattle.c_tree.specs.TypedTrees.{node_of}
use Rattle.c_meaning_spec.specs.declared.signal.Signal.{Signal}
use Rattle.c_meaning_spec.specs.declared.signal.Halt.{Halt}
use Rattle.c_meaning_spec.specs.declared.signal.Halt.TheVariants.{NoStep, TooDeep, Faults, Exits}
use Rattle.c_meaning_spec.specs.State.{State, Told, Result, Go, Over}
use Rattle.c_meaning_spec.specs.inside.Output.{IsPrefix, output_of}
use Rattle.c_meaning_spec.specs.inside.Told.{bared}
use Rattle.c_meaning_spec.specs.Task.{Task, Of, Run, Turn, Parts}
use Rattle.c_meaning_spec.specs.Call.{called}
use Rattle.c_meaning_spec.specs.Eval.{perform, evaluated, enough, meaning, start, outcome, eval, fault, fault_of}
use Rattle.c_meaning_spec.specs.Telling.{first_place, with_place, marked, placed, calling, told_by, told_to, telling}
use Rattle.c_meaning_spec.specs.inside.TellingLaws.{TellsByParts, TellsAlike, GoingOnTellsNothing, StoppingIsPlaced}
use Rattle.c_meaning_spec.specs.inside.TellingLaws.{run_told, OutcomeIsTold, FaultIsTold}
use Rattle.c_meaning_spec.proofs.Puts.{Puts, p-over}
use Rattle.c_meaning_spec.proofs.StatementsPut.{p-perform}
use Rattle.c_meaning_spec.proofs.Grows.{more, Grew, Within}
use Rattle.c_meaning_spec.proofs.ExpressionsGrow.{g-expression}
use Rattle.c_meaning_spec.proofs.StatementsGrow.{g-statement, g-turn}
use Rattle.c_meaning_spec.proofs.Equations.{weight, weight-le, weight-some, weaker, Below, NoneTaken, more-zero}
use Rattle.c_meaning_spec.proofs.Equations.{same_result}
use Rattle.c_meaning_spec.proofs.Alike.{Alike, a-over}
use Rattle.c_meaning_spec.proofs.ExpressionsAlike.{a-expression, a-called}
use Rattle.c_meaning_spec.proofs.StatementsAlike.{a-statement, a-turn}

-- WHAT IS PUT OUT

-- a mark takes nothing back
p-marked : (out : List ℕ) (n : ℕ) (change : Told → Told) (r : Result) → Puts out n r → Puts out n (marked change r)
p-marked out n change (Go v s) h = h
p-marked out n change (Over why s) h = record { puts = h.puts; spends = h.spends }

p-calling : (at : ℕ) (rec : Parts) → NoneTaken rec → NoneTaken (calling at rec)
p-calling at rec h (Of e) s = h (Of e) s
p-calling at rec h (Run st) s = p-marked s.output s.stock _ (rec (Run st) s) (h (Run st) s)
p-calling at rec h (Turn test post body) s = h (Turn test post body) s

p-told_by : (rec : Parts) → NoneTaken rec → (P : TypedProgram) (t : Task) (s : State)
    → Puts s.output s.stock (told_by rec P t s)
p-told_by rec h P (Of e) s =
    p-marked s.output s.stock _ _ (p-perform (calling e.at rec) (p-calling e.at rec h) P (Of e) s)
p-told_by rec h P (Run st) s = p-perform rec h P (Run st) s
p-told_by rec h P (Turn test post body) s = p-perform rec h P (Turn test post body) s

-- no task takes anything back, at any depth
p-told_to : (k : ℕ) (P : TypedProgram) (t : Task) (s : State) → Puts s.output s.stock (told_to k P t s)
unfolding told_to
p-told_to zero P t s = p-over _ s
p-told_to (suc k) P t s = p-told_by (told_to k P) (p-told_to k P) P t s

p-telling : (P : TypedProgram) (t : Task) (s : State) → Puts s.output s.stock (telling P t s)
unfolding telling
p-telling P t s = p-told_to (enough s.stock) P t s

-- MORE STEPS

prefix-marked : (out : List ℕ) (change : Told → Told) (r : Result) → IsPrefix out (output_of r)
    → IsPrefix out (output_of (marked change r))
prefix-marked out change (Go v s) h = h
prefix-marked out change (Over why s) h = h

within-marked : (d : ℕ) (change : Told → Told) (r : Result) → Within d r → Within d (marked change r)
within-marked d change (Go v s) h = h
within-marked d change (Over NoStep s) h = h
within-marked d change (Over TooDeep s) h = h
within-marked d change (Over (Faults c) s) h = h
within-marked d change (Over (Exits w) s) h = h

-- a mark grows where its result does
g-marked : (d n : ℕ) (change : Told → Told) (r r' : Result) → Grew d n r r'
    → Grew d n (marked change r) (marked change r')
g-marked d n change (Go v s) r' g = record { grows = (ap (marked change) g.grows.0, g.grows.1) }
g-marked d n change (Over NoStep s) r' g = record {
  grows = (
    λ e. ap (marked change) (g.grows.0 e),
    prefix-marked s.output change r' g.grows.1,
    within-marked d change r' g.grows.2,
  );
}
g-marked d n change (Over (Faults c) s) r' g = record { grows = ap (marked change) g.grows }
g-marked d n change (Over TooDeep s) r' g = record { grows = ap (marked change) g.grows }
g-marked d n change (Over (Exits w) s) r' g = record { grows = ap (marked change) g.grows }

g-calling : (d n at : ℕ) (rec rec' : Parts) → Below d n rec rec' → Below d n (calling at rec) (calling at rec')
g-calling d n at rec rec' b (Of e) s h = b (Of e) s h
g-calling d n at rec rec' b (Run st) s h = g-marked d n _ _ _ (b (Run st) s h)
g-calling d n at rec rec' b (Turn test post body) s h = b (Turn test post body) s h

-- an expression, from what is known of its parts
expression-grown : (P : TypedProgram) (d : ℕ) (rec rec' : Parts) (e : TypedExpr) (s : State)
    → Below d s.stock rec rec' → NoneTaken rec'
    → Grew d s.stock (told_by rec P (Of e) s) (told_by rec' P (Of e) (more d s))
expression-grown P d rec rec' e s b p =
    g-marked d s.stock _ _ _
    (g-expression d s.stock (calling e.at rec) (calling e.at rec') (g-calling d s.stock e.at rec rec' b)
    (p-calling e.at rec' p) P (node_of e) s (omega arith))

-- one task, from what is known of its parts
told_grown : (P : TypedProgram) (d : ℕ) (rec rec' : Parts) (t : Task) (s : State)
    → Below d s.stock rec rec' → NoneTaken rec'
    → ((e : TypedExpr) → Grew d s.stock (rec (Of e) s) (rec' (Of e) (more d s)))
    → ((st : TypedStmt) → Grew d s.stock (rec (Run st) s) (rec' (Run st) (more d s)))
    → Grew d s.stock (told_by rec P t s) (told_by rec' P t (more d s))
told_grown P d rec rec' (Of e) s b p he hs = expression-grown P d rec rec' e s b p
told_grown P d rec rec' (Run st) s b p he hs =
    g-statement d s.stock rec rec' b p (out-TypedStmt st) s (omega arith)
told_grown P d rec rec' (Turn test post body) s b p he hs =
    g-turn d s.stock rec rec' b p test post body s he hs

-- a depth that is enough gives the same, with more steps too
grown : (P : TypedProgram) (d k k' : ℕ) (t : Task) (s : State) → weight t s.stock ≤ k
    → weight t (s.stock + d) ≤ k' → Grew d s.stock (told_to k P t s) (told_to k' P t (more d s))
unfolding told_to
grown P d zero k' t s h h' = let w = weight-some t s.stock in absurd (omega arith)
grown P d (suc k) zero t s h h' = let w = weight-some t (s.stock + d) in absurd (omega arith)
grown P d (suc k) (suc k') (Of e) s h h' =
    expression-grown P d (told_to k P) (told_to k' P) e s
    (λ t u lt. let a = weight-le t u.stock in let b = weight-le t (u.stock + d) in
    weaker d u.stock s.stock _ _ (omega arith) (grown P d k k' t u (omega arith) (omega arith)))
    (p-told_to k' P)
grown P d (suc k) (suc k') (Run st) s h h' =
    g-statement d s.stock (told_to k P) (told_to k' P)
    (λ t u lt. let a = weight-le t u.stock in let b = weight-le t (u.stock + d) in
    weaker d u.stock s.stock _ _ (omega arith) (grown P d k k' t u (omega arith) (omega arith)))
    (p-told_to k' P) (out-TypedStmt st) s (omega arith)
grown P d (suc k) (suc k') (Turn test post body) s h h' =
    g-turn d s.stock (told_to k P) (told_to k' P)
    (λ t u lt. let a = weight-le t u.stock in let b = weight-le t (u.stock + d) in
    weaker d u.stock s.stock _ _ (omega arith) (grown P d k k' t u (omega arith) (omega arith)))
    (p-told_to k' P) test post body s
    (λ e. grown P d k k' (Of e) s (omega arith) (omega arith))
    (λ st. grown P d k k' (Run st) s (omega arith) (omega arith))

-- what a task means with its places, by what its parts mean with theirs: all that a proof over evaluations with places
-- needs to know of `telling`
pub telling-is : TellsByParts
unfolding telling told_to
telling-is P t s =
    let k : ℕ = 2 * s.stock + 1 in
    let e : enough s.stock ≡ suc k = omega arith in
    let step : told_to (enough s.stock) P t s ≡ told_by (told_to k P) P t s = ap (λ n. told_to n P t s) e in
    let g : Grew 0 s.stock (told_by (told_to k P) P t s) (told_by (telling P) P t (more 0 s)) =
    told_grown P 0 (told_to k P) (telling P) t s
    (λ t u lt. let a = weight-le t u.stock in let b = weight-le t (u.stock + 0) in
    weaker 0 u.stock s.stock _ _ (omega arith)
    (grown P 0 k (enough (u.stock + 0)) t u (omega arith) b))
    (p-telling P)
    (λ x. grown P 0 k (enough (s.stock + 0)) (Of x) s (omega arith) (omega arith))
    (λ x. grown P 0 k (enough (s.stock + 0)) (Run x) s (omega arith) (omega arith)) in
    step ∙ (sym (same_result s.stock _ _ g) ∙ ap (told_by (telling P) P t) (more-zero s))

-- THE SAME WITHOUT PLACES

bared-marked : (change : Told → Told) (r : Result) → bared (marked change r) ≡ bared r
bared-marked change (Go v s) = refl
bared-marked change (Over why s) = refl

-- a mark is told alone
a-marked : (τ : Told) (change : Told → Told) (r r' : Result) → Alike τ r r' → Alike τ r (marked change r')
a-marked τ change (Go v s) r' g = record { likes = (ap (marked change) g.likes.0, g.likes.1) }
a-marked τ change (Over why s) r' g = record { likes = (bared-marked change r' ∙ g.likes.0, g.likes.1) }

abbrev AlikeParts : Told → Parts → Parts → Type 0
AlikeParts τ rec rec' = (t : Task) (s : State) → s.told ≡ τ → Alike τ (rec t s) (rec' t s)

a-calling : (τ : Told) (at : ℕ) (rec rec' : Parts) → AlikeParts τ rec rec' → AlikeParts τ rec (calling at rec')
a-calling τ at rec rec' b (Of e) s h = b (Of e) s h
a-calling τ at rec rec' b (Run st) s h = a-marked τ _ _ _ (b (Run st) s h)
a-calling τ at rec rec' b (Turn test post body) s h = b (Turn test post body) s h

a-told_by : (τ : Told) (P : TypedProgram) (rec rec' : Parts) → AlikeParts τ rec rec' → (t : Task) (s : State)
    → s.told ≡ τ → Alike τ (perform rec P t s) (told_by rec' P t s)
a-told_by τ P rec rec' b (Of e) s h =
    a-marked τ _ _ _
    (a-expression τ rec (calling e.at rec') (a-calling τ e.at rec rec' b) P (node_of e) s h)
a-told_by τ P rec rec' b (Run st) s h = a-statement τ rec rec' b (out-TypedStmt st) s h
a-told_by τ P rec rec' b (Turn test post body) s h =
    a-turn τ rec rec' b test post body s (λ e. b (Of e) s h) (λ st. b (Run st) s h)

a-told_to : (τ : Told) (P : TypedProgram) (k : ℕ) → AlikeParts τ (evaluated k P) (told_to k P)
unfolding told_to evaluated
a-told_to τ P zero t s h = a-over τ _ s h
a-told_to τ P (suc k) t s h = a-told_by τ P (evaluated k P) (told_to k P) (a-told_to τ P k) t s h

-- with its places a task is the same, but for what is told
pub a-telling : (τ : Told) (P : TypedProgram) → AlikeParts τ (meaning P) (telling P)
unfolding telling meaning
a-telling τ P t s h = a-told_to τ P (enough s.stock) t s h

bared_alike : (τ : Told) (r r' : Result) → Alike τ r r' → bared r' ≡ bared r
bared_alike τ (Go v s) r' g = ap bared g.likes.0
bared_alike τ (Over why s) r' g = g.likes.0

pub tells-alike : TellsAlike
tells-alike P t s = bared_alike s.told (meaning P t s) (telling P t s) (a-telling s.told P t s refl)

going-on : (τ : Told) (r r' : Result) (v : Signal) (s : State) → Alike τ r r' → r' ≡ Go v s → s.told ≡ τ
going-on τ (Go w u) r' v s g e =
    let same : Go w u ≡ Go v s = sym g.likes.0 ∙ e in
    let at : u ≡ s = cc in
    ap (λ (x : State). x.told) (sym at) ∙ g.likes.1
going-on τ (Over why u) r' v s g e =
    let none : Over why (record u { told = _ }) ≡ Go v s = sym g.likes.0 ∙ ap bared e in
    absurd (cc)

pub going-on-tells-nothing : GoingOnTellsNothing
going-on-tells-nothing P t s s' v e =
    going-on s.told (meaning P t s) (telling P t s) v s' (a-telling s.told P t s refl) e

-- THE PLACE OF AN EXPRESSION

first-is : (o : Option ℕ) (at : ℕ) → (x : ℕ) × (first_place o at ≡ Some x)
first-is None at = (at, refl)
first-is (Some x) at = (x, refl)

placed-stops : (at : ℕ) (r : Result) (why : Halt) (s : State) → placed at r ≡ Over why s
    → (x : ℕ) × (s.told.at ≡ Some x)
placed-stops at (Go v u) why s e = absurd (cc)
placed-stops at (Over w u) why s e =
    let same : record u { told = with_place at u.told } ≡ s = cc in
    let is : first_place u.told.at at ≡ s.told.at = ap (λ (x : State). x.told.at) same in
    let x = first-is u.told.at at in
    (x.0, sym is ∙ x.1)

pub stopping-is-placed : StoppingIsPlaced
stopping-is-placed P e s s' why h = placed-stops e.at _ why s' (sym (telling-is P (Of e) s) ∙ h)

-- PROGRAMS

a-run : (P : TypedProgram) (input : List ℕ) (n : ℕ)
    → Alike (start P input n).told (called (meaning P) P (Func P.main) [] (start P input n)) (run_told P input n)
a-run P input n =
    a-called (start P input n).told (meaning P) (telling P) (a-telling (start P input n).told P) P (Func P.main) []
    (start P input n) refl

outcome-bared : (n : ℕ) (r : Result) → outcome n (bared r) ≡ outcome n r
outcome-bared n (Go v s) = refl
outcome-bared n (Over NoStep s) = refl
outcome-bared n (Over TooDeep s) = refl
outcome-bared n (Over (Faults c) s) = refl
outcome-bared n (Over (Exits w) s) = refl

fault-bared : (r : Result) → fault_of (bared r) ≡ fault_of r
fault-bared (Go v s) = refl
fault-bared (Over NoStep s) = refl
fault-bared (Over TooDeep s) = refl
fault-bared (Over (Faults c) s) = refl
fault-bared (Over (Exits w) s) = refl

pub outcome-is-told : OutcomeIsTold
unfolding eval
outcome-is-told P input n =
    sym (outcome-bared n (run_told P input n))
    ∙ (ap (outcome n) (bared_alike _ _ _ (a-run P input n))
    ∙ outcome-bared n (called (meaning P) P (Func P.main) [] (start P input n)))

pub fault-is-told : FaultIsTold
unfolding fault
fault-is-told P input n =
    sym (fault-bared (run_told P input n))
    ∙ (ap fault_of (bared_alike _ _ _ (a-run P input n))
    ∙ fault-bared (called (meaning P) P (Func P.main) [] (start P input n)))
