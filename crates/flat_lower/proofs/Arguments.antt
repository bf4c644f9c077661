-- The arguments of a call follow the evaluation, each in its temporary.
use Rattle.std.proofs.Common.{◌≡◌, ◌≢◌, ℕ, zero, suc, ◌+◌, ◌-◌, ◌*◌, ◌%◌, ◌^◌, ◌<◌, ◌≤◌, Bool, true}
use Rattle.std.proofs.Common.{false, cond, List, [], ◌∷◌, ◌++◌, map, length, take, Option, Some}
use Rattle.std.proofs.Common.{None, refl, sym, ap, ap₂, ◌∙◌, subst, append-nil, append_assoc, arith}
use Rattle.std.specs.Prelude.{slice_get}
use Rattle.c_tree.specs.declared.Kind.{Kind}
use Rattle.c_tree.specs.declared.Place.{Place}
use Rattle.c_tree.specs.declared.Place.TheVariants.{Global, Scalar, Array}
use Rattle.c_tree.specs.declared.Callee.{Callee}
use Rattle.c_tree.specs.declared.Slot.{Slot}
use Rattle.c_tree.specs.declared.Slot.TheVariants as slot
use Rattle.c_tree.specs.declared.TypedExpr.{TypedExpr}
use Rattle.c_tree.specs.declared.TypedProgram.{TypedProgram}
use Rattle.c_tree.specs.declared.TypedNode.TheOpen as node
use Rattle.c_meaning_spec.specs.declared.signal.Signal.{Signal}
use Rattle.c_meaning_spec.specs.declared.signal.Signal.TheVariants.{Nothing, Value, Breaks, Continues}
use Rattle.c_meaning_spec.specs.declared.signal.Signal.TheVariants.{Returns}
use Rattle.c_meaning_spec.specs.declared.signal.Object.TheVariants.{InScalar, InArray}
use Rattle.c_meaning_spec.specs.State.{Result, Go, Over, spend, want, cell, held, load}
use Rattle.c_meaning_spec.specs.inside.State.{then}
use Rattle.c_meaning_spec.specs.State as eval
use Rattle.c_meaning_spec.specs.Task.{Of, array_of, name, is_array}
use Rattle.c_meaning_spec.specs.Call.{called, arguments}
use Rattle.c_tree.specs.TypedTrees.{Node, node_of}
use Rattle.c_meaning_spec.specs.Expression.{opened, expression}
use Rattle.c_meaning_spec.specs.Eval.{meaning}
use Rattle.c_meaning_spec.proofs.Equations.{meaning-is}
use Rattle.c_meaning_spec.proofs.Induction.{meaning-falls}
use Rattle.ir_forms.specs.declared.flat.Arg.TheVariants.{Const, Var}
use Rattle.ir_forms.specs.inside.FlatCode.{Code, Nop, Then}
use Rattle.ir_forms.specs.inside.FlatSteps.{State, read, read_all, beside}
use Rattle.ir_forms.specs.inside.FlatRuns.{checked}
use Rattle.ir_forms.proofs.Steps.{then_then}
use Rattle.flat_lower.specs.inside.Tree as tree
use Rattle.flat_lower.specs.inside.TreeViews.{expr_of, exprs_of}
use Rattle.c_constant.specs.Kinds.{IsWord}
use Rattle.flat_lower.specs.inside.Operations.{temp, copied}
use Rattle.flat_lower.specs.inside.Objects.{Context, whole_code}
use Rattle.flat_lower.specs.inside.Expressions.{global_code, name_code, expr_code, args_code, temps}
use Rattle.flat_lower.specs.inside.Fits.{GlobalIs, FitsWhole, FitsArg, FitsArgs, FitsExpr}
use Rattle.flat_lower.specs.inside.Sizes.{nodes, all_nodes}
use Rattle.flat_lower.proofs.Straight.{Puts, var_read}
use Rattle.flat_lower.proofs.TreeFacts.{plain_node, expr_is, kind_is}
use Rattle.flat_lower.proofs.Follows.{Post, Settles, Goes, Follows, then_follows, needed, wanted}
use Rattle.flat_lower.proofs.Follows.{weaker}
use Rattle.flat_lower.proofs.Related.{Scene, IsScene, scope, context, IsScalar, Related}
use Rattle.flat_lower.proofs.Pieces.{place_is}
use Rattle.flat_lower.proofs.Values.{KeptIs, Valued, keeps_all, keeps_both, functions, base}
use Rattle.flat_lower.proofs.Values.{FollowsOf, run, code, keeps_set, spending}
use Rattle.flat_lower.proofs.Entered.{ArgsAre}

module _ (P : TypedProgram) (most : ℕ) (S : Scene) (y : IsScene P S) where
  -- an argument for a parameter stands in temporary d
  pub record ArgHas (x : Slot) (d : ℕ) (f0 : State) (w : ℕ) (s : eval.State) (f : State) : Type 0 where
    pub keeps : KeptIs S d f0 s f
    pub value : ℕ
    pub is : f.vars (temp d) ≡ Some value
    pub scalar : IsScalar S.objects x w (Some value)

  abbrev pub ArgIs : Slot → ℕ → State → Post
  ArgIs x d f0 Nothing s f = Unit {0}
  ArgIs x d f0 (Value w) s f = ArgHas x d f0 w s f
  ArgIs x d f0 Breaks s f = ⊥
  ArgIs x d f0 Continues s f = ⊥
  ArgIs x d f0 (Returns w) s f = ⊥

  arg_settles : (x : Slot) (d : ℕ) (f0 : State) (v : Signal) (s : eval.State) (f : State)
      → ArgIs x d f0 v s f → Settles v
  arg_settles x d f0 Nothing s f h = tt
  arg_settles x d f0 (Value w) s f h = tt
  arg_settles x d f0 Breaks s f h = absurd h
  arg_settles x d f0 Continues s f h = absurd h
  arg_settles x d f0 (Returns w) s f h = absurd h

  arg_has : (x : Slot) (d : ℕ) (f0 : State) (v : Signal) (w : ℕ) (s : eval.State) (f : State)
      → v ≡ Value w → ArgIs x d f0 v s f → ArgHas x d f0 w s f
  arg_has x d f0 v w s f e h = subst (λ v. ArgIs x d f0 v s f) e h

  -- SCALARS

  scalar_arg : (k : Kind) (j : Option Kind) (d : ℕ) (f0 : State) (v : Signal) (s : eval.State)
      (f : State) → j ≡ Some k → Valued S d j f0 v s f → ArgIs (slot.Scalar k) d f0 v s f
  scalar_arg k j d f0 Nothing s f e h = tt
  scalar_arg k j d f0 (Value w) s f e h =
      let same : h.kind ≡ k = cc (sym h.is_kind ∙ e) in
      record {
        keeps = h.keeps;
        value = w;
        is = h.is;
        scalar = (refl, subst (λ k. IsWord k w) same h.fits);
      }
  scalar_arg k j d f0 Breaks s f e h = absurd h
  scalar_arg k j d f0 Continues s f e h = absurd h
  scalar_arg k j d f0 (Returns w) s f e h = absurd h

  -- ARRAYS

  -- an array's number, and its address in the temporary
  whole_end : (p : Place) (k : Kind) (row : Option ℕ) (n d top low : ℕ) (s : eval.State) (f : State) → d < 16
      → FitsWhole (scope P S) k row p → Related S s f → array_of p s ≡ Some n → 1 + 8 * s.stock ≤ top
      → low ≤ s.stock + most * f.rounds
      → Goes most (ArgIs (slot.Address k row) d f)
      (run P most S y (whole_code (context P S) p (temp d)) f) top low (Value n) s
  whole_end p k row n d top low s f ld t r h hu hl =
      let q = place_is P (functions P most) (base P most) S y p k row n s f r t h in
      let w = q.whole (temp d) 80 in
      record {
        t = w.t;
        to = w.to;
        upper = omega (arith, w.few);
        lower = subst (λ r. low ≤ s.stock + most * r) (sym w.sets.rounds) hl;
        holds = record {
          keeps = keeps_set P most S y d f f w.to s (temp d) 80 q.array.it.at (omega arith)
              (omega arith) (omega arith) (keeps_all S d s f r) w.sets;
          value = q.array.it.at;
          is = w.sets.value;
          scalar = record { array = q.array; wide = q.wide; is = refl };
        };
        leads = w.leads;
      }

  is_whole : (g n : ℕ) (k : Kind) (row : Option ℕ) → GlobalIs (scope P S) g k (Some n) row
      → is_array (slice_get P.globals g) ≡ true
  is_whole g n k row x = ap is_array x.found ∙ go x.global.length x.long
    where
      go : (l : Option ℕ) → l ≡ Some n → is_array (Some (record x.global { length = l })) ≡ true
      go None e = absurd (cc e)
      go (Some n) e = refl

  whole_arg : (p : Place) (k : Kind) (row : Option ℕ) (d top low : ℕ) (s : eval.State) (f : State) → d < 16
      → FitsWhole (scope P S) k row p → Related S s f → 1 + 8 * s.stock ≤ top
      → low ≤ s.stock + most * f.rounds
      → Follows most (ArgIs (slot.Address k row) d f)
      (run P most S y (name_code (context P S) p (temp d) k) f) top low (name P p s)
  whole_arg (Global g) k row d top low s f ld t r hu hl =
      subst (λ b. Follows most (ArgIs (slot.Address k row) d f)
      (run P most S y (global_code (context P S) b g (temp d) k) f) top low
      (cond b (Go (Value g) s) (load (InArray g 0) s))) (sym (is_whole g t.0 k row t.1))
      (whole_end (Global g) k row g d top low s f ld t r refl hu hl)
  whole_arg (Scalar i) k row d top low s f ld t r hu hl =
      needed most (ArgIs (slot.Address k row) d f) (run P most S y (copied (temp d) i) f) top low
      (held (cell s (InScalar i))) _ s (λ w. Go (Value w) s) (λ w e.
      whole_end (Scalar i) k row w d top low s f ld t r e hu hl)
  whole_arg (Array a) k row d top low s f ld t r hu hl =
      whole_end (Array a) k row (s.base + a) d top low s f ld t r refl hu hl

  address_node : (x : Node) (j : Option Kind) (T : Type 0) (k : Kind) (row : Option ℕ) (d top low : ℕ)
      (s : eval.State) (f : State) → FitsArg (scope P S) d (slot.Address k row) T (plain_node x j)
      → Related S s f → 8 * s.stock ≤ top + 3
      → low ≤ s.stock + most * f.rounds - nodes (plain_node x j)
      → Follows most (ArgIs (slot.Address k row) d f)
      (run P most S y (expr_code (context P S) d (plain_node x j)) f) top low
      (expression (meaning P) P x s)
  address_node (node.Name p) None T k row d top low s f t r hu hl = absurd (cc t.1)
  address_node (node.Name p) (Some j) T k row d top low s f t r hu hl =
      let same : j ≡ k = cc t.1 in
      spending P most S y (ArgIs (slot.Address k row) d f)
      (name_code (context P S) p (temp d) j) s f top low (opened (meaning P) P (node.Name p)) r
      (omega arith) (λ n e rn.
      subst (λ j. Follows most (ArgIs (slot.Address k row) d f)
      (run P most S y (name_code (context P S) p (temp d) j) f) top low
      (name P p (record s { stock = n }))) (sym same)
      (whole_arg p k row d top low (record s { stock = n }) f t.0 t.2 rn (omega arith) (omega arith)))
  address_node (node.Number w) j T k row d top low s f t r hu hl = absurd t
  address_node (node.Element p None index) j T k row d top low s f t r hu hl = absurd t
  address_node (node.Element p (Some i) index) j T k row d top low s f t r hu hl = absurd t
  address_node (node.Call c args) j T k row d top low s f t r hu hl = absurd t
  address_node (node.Unary o e) j T k row d top low s f t r hu hl = absurd t
  address_node (node.Cast to e) j T k row d top low s f t r hu hl = absurd t
  address_node (node.Convert to e) j T k row d top low s f t r hu hl = absurd t
  address_node (node.Bump o e) j T k row d top low s f t r hu hl = absurd t
  address_node (node.Binary o l e) j T k row d top low s f t r hu hl = absurd t
  address_node (node.Choice c one other) j T k row d top low s f t r hu hl = absurd t
  address_node (node.Assign o at l e) j T k row d top low s f t r hu hl = absurd t
  address_node (node.Comma l e) j T k row d top low s f t r hu hl = absurd t

  address_arg : (e : TypedExpr) (x : tree.Expr) (T : Type 0) (k : Kind) (row : Option ℕ) (d top low : ℕ)
      (s : eval.State) (f : State) → x ≡ plain_node (node_of e) e.kind
      → FitsArg (scope P S) d (slot.Address k row) T x → Related S s f → 8 * s.stock ≤ top + 3
      → low ≤ s.stock + most * f.rounds - nodes x
      → Follows most (ArgIs (slot.Address k row) d f)
      (run P most S y (expr_code (context P S) d x) f) top low (meaning P (Of e) s)
  address_arg e x T k row d top low s f q t r hu hl =
      subst (λ r. Follows most (ArgIs (slot.Address k row) d f)
      (run P most S y (expr_code (context P S) d x) f) top low r) (sym (meaning-is P (Of e) s))
      (subst (λ x. Follows most (ArgIs (slot.Address k row) d f)
      (run P most S y (expr_code (context P S) d x) f) top low
      (expression (meaning P) P (node_of e) s)) (sym q)
      (address_node (node_of e) e.kind T k row d top low s f
      (subst (FitsArg (scope P S) d (slot.Address k row) T) q t) r hu
      (subst (λ x. low ≤ s.stock + most * f.rounds - nodes x) q hl)))

  -- one argument
  arg_follows : (x : Slot) (e : TypedExpr) (d top low : ℕ) (s : eval.State) (f : State)
      → FollowsOf P most e s → FitsArg (scope P S) d x (FitsExpr (scope P S) d (expr_of e))
      (expr_of e) → Related S s f → 8 * s.stock ≤ top + 3
      → low ≤ s.stock + most * f.rounds - nodes (expr_of e)
      → Follows most (ArgIs x d f) (run P most S y (code P most S y d e) f) top low
      (meaning P (Of e) s)
  arg_follows (slot.Scalar k) e d top low s f h t r hu hl =
      weaker most (Valued S d e.kind f) (ArgIs (slot.Scalar k) d f)
      (run P most S y (code P most S y d e) f) top low (meaning P (Of e) s)
      (λ v s1 g. scalar_arg k e.kind d f v s1 g (sym (kind_is e) ∙ t.1))
      (h S y d top low f t.0 r hu hl)
  arg_follows (slot.Address k row) e d top low s f h t r hu hl =
      address_arg e (expr_of e) (FitsExpr (scope P S) d (expr_of e)) k row d top low s f
      (expr_is e) t r hu hl

  -- ALL OF THEM

  -- what follows the arguments gets them by the parameters
  pub args_follow : (Q : Post) (es : List TypedExpr) (slots : List Slot) (done : List ℕ) (d : ℕ)
      (tail : Code) (fn : Callee) (s : eval.State) (f : State) (top low bound : ℕ)
      → ((e : TypedExpr) (s1 : eval.State) → s1.stock < bound → FollowsOf P most e s1)
      → s.stock < bound → FitsArgs (scope P S) d slots (exprs_of (map expr_of es)) → Related S s f
      → 8 * s.stock + 4 ≤ top → low ≤ s.stock + most * f.rounds -
      (1 + all_nodes (exprs_of (map expr_of es)))
      → ((ws vs : List ℕ) (s1 : eval.State) (g : State) (up : ℕ) → ArgsAre P S.objects slots ws vs
      → read_all checked g (temps d (exprs_of (map expr_of es))) ≡ Some vs → KeptIs S d f s1 g
      → s1.stock ≤ s.stock → 8 * s1.stock + 4 ≤ up → low ≤ s1.stock + most * g.rounds - 1
      → Follows most Q (run P most S y tail g) up low (called (meaning P) P fn (done ++ ws) s1))
      → Follows most Q (run P most S y (Then
      (args_code (context P S) d (exprs_of (map expr_of es))) tail) f) top low
      (arguments (meaning P) P fn es done s)
  args_follow Q [] [] done d tail fn s f top low bound h lt t r hu hl go =
      subst (λ ws. Follows most Q (run P most S y tail f) top low (called (meaning P) P fn ws s))
      (append-nil done)
      (go [] [] s f top tt refl (keeps_all S d s f r) (omega arith) hu hl)
  args_follow Q [] (x ∷ xs) done d tail fn s f top low bound h lt t r hu hl go = absurd t
  args_follow Q (e ∷ es) [] done d tail fn s f top low bound h lt t r hu hl go = absurd t
  args_follow Q (e ∷ es) (x ∷ xs) done d tail fn s f top low bound h lt t r hu hl go =
      let b = args_code (context P S) (suc d) (exprs_of (map expr_of es)) in
      let rest = exprs_of (map expr_of es) in
      subst (λ a. Follows most Q (run P most S y a f) top low
      (arguments (meaning P) P fn (e ∷ es) done s)) (sym (then_then (code P most S y d e) b tail))
      (then_follows (functions P most) (base P most) most S.env (ArgIs x d f) Q
      (code P most S y d e) (Then b tail) f (8 * s.stock - 3)
      (s.stock + most * f.rounds - nodes (expr_of e)) top low (meaning P (Of e) s)
      (λ v s. want v s (λ w. arguments (meaning P) P fn es (done ++ w ∷ []) s))
      (arg_follows x e d (8 * s.stock - 3) (s.stock + most * f.rounds - nodes (expr_of e)) s f
      (h e s lt) t.0 r (omega arith) (omega arith)) (omega arith) (omega arith)
      (λ v s1 g t1 eq holds u l. let falls = meaning-falls P (Of e) s v s1 eq in (
        arg_settles x d f v s1 g holds,
        wanted most Q (run P most S y (Then b tail) g) (top - t1) low v s1
            (λ w. arguments (meaning P) P fn es (done ++ w ∷ []) s1) (λ w ew.
            let a = arg_has x d f v w s1 g ew holds in
            args_follow Q es xs (done ++ w ∷ []) (suc d) tail fn s1 g (top - t1) low bound h
            (omega arith) t.1 a.keeps.rel (omega arith) (omega arith)
            (λ ws vs s2 g2 up are reads ke le hu2 hl2.
            subst (λ ds. Follows most Q (run P most S y tail g2) up low
            (called (meaning P) P fn ds s2)) (sym (append_assoc done (w ∷ []) ws))
            (go (w ∷ ws) (a.value ∷ vs) s2 g2 up (a.scalar, are)
            (ap₂ beside (var_read (functions P most) (base P most) S.env g2 (temp d) a.value
            (ke.kept d (omega arith) ∙ a.is)) reads)
            (keeps_both S d (suc d) f g g2 s1 s2 (omega arith) a.keeps ke) (omega arith) hu2 hl2))),
      )))
