-- The code of an expression puts its value into a temporary: what that says, and how parts are put
-- together.
use Rattle.std.proofs.Common.{◌≡◌, ◌≢◌, ℕ, zero, suc, ◌+◌, ◌-◌, ◌*◌, ◌%◌, ◌^◌, ◌<◌, ◌≤◌, List, []}
use Rattle.std.proofs.Common.{◌∷◌, map, length, Option, Some, None, refl, sym, ap, ◌∙◌, subst}
use Rattle.std.proofs.Common.{arith}
use Rattle.c_tree.specs.declared.Kind.{Kind}
use Rattle.c_tree.specs.declared.TypedExpr.{TypedExpr}
use Rattle.c_tree.specs.declared.TypedStmt.{TypedStmt}
use Rattle.c_tree.specs.declared.TypedProgram.{TypedProgram}
use Rattle.c_meaning_spec.specs.declared.signal.Signal.{Signal}
use Rattle.c_meaning_spec.specs.declared.signal.Signal.TheVariants.{Nothing, Value, Breaks, Continues}
use Rattle.c_meaning_spec.specs.declared.signal.Signal.TheVariants.{Returns}
use Rattle.c_meaning_spec.specs.State.{Result, Go, Over, spend}
use Rattle.c_meaning_spec.specs.inside.State.{then}
use Rattle.c_meaning_spec.specs.State as eval
use Rattle.c_meaning_spec.specs.Task.{Of}
use Rattle.c_meaning_spec.specs.Eval.{meaning}
use Rattle.c_meaning_spec.proofs.Induction.{meaning-falls}
use Rattle.ir_forms.specs.inside.FlatCode.{Code, Then, Function}
use Rattle.ir_forms.specs.inside.FlatSteps.{State}
use Rattle.ir_forms.specs.inside.FlatRuns.{checked}
use Rattle.ir_forms.proofs.Leads.{Run}
use Rattle.ir_forms.proofs.Steps.{code_waits}
use Rattle.flat_lower.specs.inside.Tree.{Expr}
use Rattle.flat_lower.specs.inside.TreeViews.{func_of, expr_of}
use Rattle.c_constant.specs.Kinds.{IsWord}
use Rattle.flat_lower.specs.inside.Operations.{temp}
use Rattle.flat_lower.specs.inside.Expressions.{expr_code}
use Rattle.flat_lower.specs.inside.Statements.{lowered_from}
use Rattle.flat_lower.specs.inside.Fits.{FitsExpr}
use Rattle.flat_lower.specs.inside.Sizes.{nodes}
use Rattle.flat_lower.proofs.Straight.{Sets, Puts}
use Rattle.flat_lower.specs.declared.around.Around.{Around}
use Rattle.flat_lower.specs.declared.around.Around.TheVariants as around
use Rattle.flat_lower.proofs.Follows.{Post, Settles, Goes, Follows, FollowsIn, run_of, then_follows_in}
use Rattle.flat_lower.proofs.Follows.{spends}
use Rattle.flat_lower.proofs.Related.{Scene, IsScene, scope, context, frames_from, Related}
use Rattle.flat_lower.proofs.Related.{sets_unseen, spent}

-- the states are related, and the temporaries below d are as they were
pub record KeptIs (S : Scene) (d : ℕ) (f0 : State) (s : eval.State) (f : State) : Type 0 where
  pub rel : Related S s f
  pub kept : (j : ℕ) → j < d → f.vars (temp j) ≡ f0.vars (temp j)

-- and temporary d has a value of a kind
pub record ValueIs (S : Scene) (d : ℕ) (k : Option Kind) (f0 : State) (w : ℕ) (s : eval.State)
    (f : State) : Type 0 where
  pub keeps : KeptIs S d f0 s f
  pub kind : Kind
  pub is_kind : k ≡ Some kind
  pub fits : IsWord kind w
  pub is : f.vars (temp d) ≡ Some w

-- a value stands in the temporary at this depth; without a value, what was kept is
abbrev pub Valued : Scene → ℕ → Option Kind → State → Post
Valued S d k f0 Nothing s f = KeptIs S d f0 s f
Valued S d k f0 (Value w) s f = ValueIs S d k f0 w s f
Valued S d k f0 Breaks s f = ⊥
Valued S d k f0 Continues s f = ⊥
Valued S d k f0 (Returns w) s f = ⊥

-- the end of an expression is one that settles
pub valued_settles : (S : Scene) (d : ℕ) (k : Option Kind) (f0 : State) (v : Signal)
    (s : eval.State) (f : State) → Valued S d k f0 v s f → Settles v
valued_settles S d k f0 Nothing s f h = tt
valued_settles S d k f0 (Value w) s f h = tt
valued_settles S d k f0 Breaks s f h = absurd h
valued_settles S d k f0 Continues s f h = absurd h
valued_settles S d k f0 (Returns w) s f h = absurd h

-- a value that is taken
pub value_at : (S : Scene) (d : ℕ) (k : Option Kind) (f0 : State) (v : Signal) (w : ℕ)
    (s : eval.State) (f : State) → v ≡ Value w → Valued S d k f0 v s f → ValueIs S d k f0 w s f
value_at S d k f0 v w s f e h = subst (λ v. Valued S d k f0 v s f) e h

-- whatever an expression gave, the states are related
pub kept_at : (S : Scene) (d : ℕ) (k : Option Kind) (f0 : State) (v : Signal) (s : eval.State)
    (f : State) → Valued S d k f0 v s f → KeptIs S d f0 s f
kept_at S d k f0 Nothing s f h = h
kept_at S d k f0 (Value w) s f h = h.keeps
kept_at S d k f0 Breaks s f h = absurd h
kept_at S d k f0 Continues s f h = absurd h
kept_at S d k f0 (Returns w) s f h = absurd h

-- nothing was done
pub keeps_all : (S : Scene) (d : ℕ) (s : eval.State) (f : State) → Related S s f → KeptIs S d f s f
keeps_all S d s f r = record { rel = r; kept = λ j lt. refl }

-- one after the other, the second at least as deep
pub keeps_both : (S : Scene) (d d1 : ℕ) (f0 f g : State) (s s1 : eval.State) → d ≤ d1
    → KeptIs S d f0 s f → KeptIs S d1 f s1 g → KeptIs S d f0 s1 g
keeps_both S d d1 f0 f g s s1 le a b = record {
  rel = b.rel;
  kept = λ j lt. b.kept j (omega arith)
      ∙ a.kept j lt;
}

module _ (P : TypedProgram) (most : ℕ) where
  -- the flat functions of the program
  abbrev pub functions : List Function
  functions = lowered_from P.globals P.main 0 (map func_of P.functions)

  -- the address from which frames stand
  abbrev pub base : ℕ
  base = frames_from P

  -- what is said of an expression: a node is paid by its steps but for four turns, of which a
  -- conversion takes one
  abbrev pub FollowsOf : TypedExpr → eval.State → Type 0
  FollowsOf e s =
      (S : Scene) → IsScene P S → (d top low : ℕ) (f : State) → FitsExpr (scope P S) d (expr_of e)
      → Related S s f → 8 * s.stock ≤ top + 3
      → low ≤ s.stock + most * f.rounds - nodes (expr_of e)
      → Follows most (Valued S d e.kind f)
      (run_of functions base most S.env (expr_code (context P S) d (expr_of e)) f) top low
      (meaning P (Of e) s)

  module _ (S : Scene) (y : IsScene P S) where
    -- the run of some code in the scene
    abbrev pub run : Code → State → Run
    run a f = run_of functions base most S.env a f

    -- the code of an expression at a depth
    abbrev pub code : ℕ → TypedExpr → Code
    code d e = expr_code (context P S) d (expr_of e)

    -- what is not seen by the relation keeps the lower temporaries
    pub keeps_set : (d : ℕ) (f0 f g : State) (s : eval.State) (x spare w : ℕ) → 64 + d ≤ x
        → 80 ≤ spare → d ≤ 16 → KeptIs S d f0 s f → Sets x spare w f g → KeptIs S d f0 s g
    keeps_set d f0 f g s x spare w lt ls le k t = record {
      rel = sets_unseen S y s f g x spare w (omega arith) (omega arith) t k.rel;
      kept = λ j l. t.others (temp j) (λ e. omega arith) (λ e. omega arith) ∙ k.kept j l;
    }

    -- code that puts a value into temporary d ends an expression
    pub value_end : (d : ℕ) (k : Option Kind) (f0 g : State) (a : Code) (m spare w top low : ℕ)
        (s : eval.State) (kind : Kind) → d < 16 → 80 ≤ spare → k ≡ Some kind → IsWord kind w
        → KeptIs S d f0 s g → Puts functions base S.env a g m (temp d) spare w → m + 8 * s.stock ≤ top
        → low ≤ s.stock + most * g.rounds
        → Follows most (Valued S d k f0) (run a g) top low (Go (Value w) s)
    value_end d k f0 g a m spare w top low s kind ld ls hk fits ke p hu hl = record {
      t = p.t;
      to = p.to;
      upper = omega (arith, p.few);
      lower = subst (λ r. low ≤ s.stock + most * r) (sym p.sets.rounds) hl;
      holds = record {
        keeps = keeps_set d f0 g p.to s (temp d) spare w (omega arith) ls (omega arith) ke p.sets;
        kind = kind;
        is_kind = hk;
        fits = fits;
        is = p.sets.value;
      };
      leads = p.leads;
    }

    -- an operand at its depth, and what follows it
    pub operand_in : (x : Around) (Q : Post) (e : TypedExpr) (d : ℕ) (b : Code) (s : eval.State)
        (f : State) (top low : ℕ) (next : Signal → eval.State → Result) → FollowsOf e s
        → FitsExpr (scope P S) d (expr_of e) → Related S s f → 8 * s.stock - 3 ≤ top
        → low ≤ s.stock + most * f.rounds - nodes (expr_of e)
        → ((v : Signal) (s1 : eval.State) (g : State) (t : ℕ) → Valued S d e.kind f v s1 g
        → s1.stock < s.stock → t + 8 * s1.stock ≤ 8 * s.stock - 3
        → s.stock + most * f.rounds - nodes (expr_of e) ≤ s1.stock + most * g.rounds
        → FollowsIn x most Q (run b g) (top - t) low (next v s1))
        → FollowsIn x most Q (run (Then (code d e) b) f) top low (then (meaning P (Of e) s) next)
    operand_in x Q e d b s f top low next h fits r hu hl go =
        then_follows_in functions base most S.env around.Loop x (Valued S d e.kind f) Q (code d e) b f
        (8 * s.stock - 3) (s.stock + most * f.rounds - nodes (expr_of e)) top low
        (meaning P (Of e) s) next
        (h S y d (8 * s.stock - 3) (s.stock + most * f.rounds - nodes (expr_of e)) f fits r
        (omega arith) (omega arith)) hu hl
        (λ v s1 g t eq holds u l. (
          valued_settles S d e.kind f v s1 g holds,
          go v s1 g t holds (meaning-falls P (Of e) s v s1 eq) u l,
        ))

    -- Code behind an operand's code follows where it does from each state in which the operand has its value.
    pub operand : (Q : Post) (e : TypedExpr) (d : ℕ) (b : Code) (s : eval.State) (f : State)
        (top low : ℕ) (next : Signal → eval.State → Result) → FollowsOf e s
        → FitsExpr (scope P S) d (expr_of e) → Related S s f → 8 * s.stock - 3 ≤ top
        → low ≤ s.stock + most * f.rounds - nodes (expr_of e)
        → ((v : Signal) (s1 : eval.State) (g : State) (t : ℕ) → Valued S d e.kind f v s1 g
        → s1.stock < s.stock → t + 8 * s1.stock ≤ 8 * s.stock - 3
        → s.stock + most * f.rounds - nodes (expr_of e) ≤ s1.stock + most * g.rounds
        → Follows most Q (run b g) (top - t) low (next v s1))
        → Follows most Q (run (Then (code d e) b) f) top low (then (meaning P (Of e) s) next)
    operand = operand_in around.Loop

    -- a node spends its step first
    pub spending_in : (x : Around) (Q : Post) (a : Code) (s : eval.State) (f : State) (top low : ℕ)
        (next : eval.State → Result) → Related S s f → low ≤ s.stock + most * f.rounds
        → ((n : ℕ) → s.stock ≡ suc n → Related S (record s { stock = n }) f
        → FollowsIn x most Q (run a f) top low (next (record s { stock = n })))
        → FollowsIn x most Q (run a f) top low (spend s next)
    spending_in x Q a s f top low next r hl go =
        spends x most Q (run a f) top low s f.rounds next
        (code_waits checked functions base S.env a f s.output r.output) hl
        (λ n e. go n e (spent S s f n r))

    -- What spends a step follows where the rest does with a step less.
    pub spending : (Q : Post) (a : Code) (s : eval.State) (f : State) (top low : ℕ)
        (next : eval.State → Result) → Related S s f → low ≤ s.stock + most * f.rounds
        → ((n : ℕ) → s.stock ≡ suc n → Related S (record s { stock = n }) f
        → Follows most Q (run a f) top low (next (record s { stock = n })))
        → Follows most Q (run a f) top low (spend s next)
    spending = spending_in around.Loop
