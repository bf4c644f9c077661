-- Which typed trees a statement has, and the state after it, by one rule for each kind (C17 6.8).
use Rattle.std.specs.Prelude.{◌≡◌, ℕ, ◌*◌, ◌≤◌, ◌<◌, true, false, length, List, [], ◌∷◌, ◌++◌, Option}
use Rattle.std.specs.Prelude.{Some, None}
use Rattle.c_tree.specs.Limits.{most_object_bytes, most_scalars}
use Rattle.c_tree.specs.declared.token.Kind.{Kind}
use Rattle.c_tree.specs.declared.tree.ArraySize.TheVariants as size
use Rattle.c_tree.specs.declared.tree.Expr.{Expr}
use Rattle.c_tree.specs.declared.tree.Label.{Label}
use Rattle.c_tree.specs.declared.tree.Section.{Section}
use Rattle.c_tree.specs.declared.tree.Stmt.{Stmt}
use Rattle.c_tree.specs.declared.tree.StmtNode.TheVariants as node
use Rattle.c_tree.specs.declared.tree.ForInit.{ForInit}
use Rattle.c_tree.specs.declared.tree.ForInit.TheVariants as first_part
use Rattle.c_tree.specs.declared.typed.Place.TheVariants as place
use Rattle.c_tree.specs.declared.typed.TypedExpr.{TypedExpr}
use Rattle.c_tree.specs.declared.typed.TypedSection.{TypedSection}
use Rattle.c_tree.specs.declared.typed.TypedStmt.{TypedStmt}
use Rattle.c_tree.specs.declared.typed.TypedStmt.TheVariants as typed
use Rattle.c_tree.specs.declared.typed.TypedForInit.{TypedForInit}
use Rattle.c_tree.specs.declared.typed.TypedForInit.TheVariants as typed_init
use Rattle.c_constant.specs.Need.{need_fits}
use Rattle.c_type_expr.specs.Scope.{Scope}
use Rattle.c_type_expr.specs.declared.role.Role.{Role}
use Rattle.c_type_expr.specs.declared.role.Role.TheVariants.{Value, Free}
use Rattle.c_type_expr.specs.Conversions.{kind_of, with_convert}
use Rattle.c_type_expr.specs.Typed.{Typed}
use Rattle.c_type.specs.declared.state.State.{State}
use Rattle.c_type.specs.declared.state.Around.{Around}
use Rattle.c_type.specs.States.{at, entered, left, with_scalar, with_array, with_switch, is_taken}
use Rattle.c_type.specs.Statements.{label_among}
use Rattle.c_type.specs.States.{in_loop, in_switch, sectioned}
use Rattle.c_constant.specs.Kinds.{bytes, promoted, converted}
use Rattle.c_constant.specs.Constant.{constant, ends}
use Rattle.c_type_rules.specs.Constants.{IsConstant, Size}

-- a full expression, whose need is at most the limit
abbrev pub Full : Scope → Role → Expr → TypedExpr → Type 0
Full G r e t = Typed G r e t × (need_fits e ≡ true)

-- a full expression that may be left out
pub data FullIf (G : Scope) (r : Role) : Option Expr → Option TypedExpr → Type 0 where
  absent : FullIf G r None None
  present : {e : Expr} {t : TypedExpr} → Full G r e t → FullIf G r (Some e) (Some t)

-- an initialiser that may be left out, converted to the type of what it is stored in
pub data Initialises (G : Scope) (k : Kind) : Option Expr → Option TypedExpr → Type 0 where
  without_value : Initialises G k None None
  with_value : {e : Expr} {t : TypedExpr}
      → Full G Value e t → Initialises G k (Some e) (Some (with_convert k t))

-- the words of some labels of a switch of a type, behind labels of other words: a case is a constant
-- expression, and `default` has none
pub data Labels (G : Scope) (k : Kind) : List (Option ℕ) → List Label → List (Option ℕ) → Type 0
  where
    no_label : {seen : List (Option ℕ)} → Labels G k seen [] []
    -- 6.8.4.2: its value is converted to the type of the test before it is compared
    a_case : {seen words : List (Option ℕ)} {l n : ℕ} {e : Expr} {xs : List Label}
        → IsConstant G e → (constant ends e).value ≡ Some n → need_fits e ≡ true
        → label_among (Some (converted k n)) seen ≡ false
        → Labels G k (seen ++ Some (converted k n) ∷ []) xs words
        → Labels G k seen ((record { offset = l; value = Some e }) ∷ xs) (Some (converted k n) ∷ words)
    -- at most once in a switch
    a_default : {seen words : List (Option ℕ)} {l : ℕ} {xs : List Label}
        → label_among None seen ≡ false → Labels G k (seen ++ None ∷ []) xs words
        → Labels G k seen ((record { offset = l; value = None }) ∷ xs) (None ∷ words)

mutual
  -- by what is around it, the statement has the typed tree; the second state is the one after it
  pub data Types : Around → State → Stmt → TypedStmt → State → Type 0 where
    -- 6.2.1, 6.7: the name is in scope in its own initialiser
    scalar_declared : {b : Around} {v : State} {l : ℕ} {k : Kind} {w : List ℕ} {init : Option Expr}
        {t : Option TypedExpr}
        → is_taken v.names w ≡ false → length v.scalars < most_scalars
        → Initialises (with_scalar k w v).names k init t
        → Types b v (at l (node.Declare k w size.Scalar init))
        (typed.Declare (place.Scalar (length v.scalars)) t) (with_scalar k w v)
    -- 6.7.6.2: it has no initialiser
    array_declared : {b : Around} {v : State} {l n : ℕ} {k : Kind} {w : List ℕ} {e : Expr}
        → Size v.names e n → is_taken v.names w ≡ false → n * bytes k ≤ most_object_bytes
        → Types b v (at l (node.Declare k w (size.Sized e) None))
        (typed.Declare (place.Array (length v.arrays)) None) (with_array k None w n v)
    -- the same with two sizes: so many rows, of so many elements each
    rows_declared : {b : Around} {v : State} {l m n : ℕ} {k : Kind} {w : List ℕ} {r e : Expr}
        → Size v.names r m → Size v.names e n → is_taken v.names w ≡ false
        → m * n * bytes k ≤ most_object_bytes
        → Types b v (at l (node.Declare k w (size.Rows (Some r) e) None))
        (typed.Declare (place.Array (length v.arrays)) None) (with_array k (Some n) w (m * n) v)
    -- 6.8.3: its value, if it has one, is not taken
    expression : {b : Around} {v : State} {l : ℕ} {e : Option Expr} {t : Option TypedExpr}
        → FullIf v.names Free e t → Types b v (at l (node.Plain e)) (typed.Plain t) v
    -- 6.8.2: a scope of its own
    block : {b : Around} {v w : State} {l : ℕ} {ss : List Stmt} {ts : List TypedStmt}
        → TypesAll b (entered v) ss ts w
        → Types b v (at l (node.Compound ss)) (typed.Compound ts) (left w)
    -- 6.8.4.1
    either : {b : Around} {v v' w : State} {l : ℕ} {c : Expr} {d : TypedExpr} {s : Stmt}
        {t : TypedStmt} {other : Option Stmt} {u : Option TypedStmt}
        → Full v.names Value c d → Types b v s t v' → TypesIf b v' other u w
        → Types b v (at l (node.If c s other)) (typed.If d t u) w
    -- 6.8.5.1
    while_loop : {b : Around} {v w : State} {l : ℕ} {c : Expr} {d : TypedExpr} {s : Stmt}
        {t : TypedStmt}
        → Full v.names Value c d → Types in_loop v s t w
        → Types b v (at l (node.While c s)) (typed.While d t) w
    -- 6.8.5.2
    do_loop : {b : Around} {v w : State} {l : ℕ} {c : Expr} {d : TypedExpr} {s : Stmt} {t : TypedStmt}
        → Types in_loop v s t w → Full w.names Value c d
        → Types b v (at l (node.Do s c)) (typed.Do t d) w
    -- 6.8.5.3: what its first part declares is in scope in all of it, and not behind it
    for_loop : {b : Around} {v v' w : State} {l : ℕ} {init : ForInit} {i : TypedForInit}
        {c p : Option Expr} {d q : Option TypedExpr} {s : Stmt} {t : TypedStmt}
        → Begins b (entered v) init i v' → FullIf v'.names Value c d → FullIf v'.names Free p q
        → Types in_loop v' s t w
        → Types b v (at l (node.For init c p s)) (typed.For i d q t) (left w)
    -- the switch counts a scalar of its own, which comes before those of its sections
    switches : {b : Around} {v w : State} {l : ℕ} {c : Expr} {d : TypedExpr} {xs : List Section}
        {ts : List TypedSection}
        → Full v.names Value c d → length v.scalars < most_scalars
        → TypesSections (promoted (kind_of d)) [] (in_switch b)
        (with_switch (promoted (kind_of d)) v) xs ts w
        → Types b v (at l (node.Switch c xs))
        (typed.Switch (length v.scalars) (with_convert (promoted (kind_of d)) d) ts) w
    -- 6.8.6.3: in a loop or a switch
    breaks : {b : Around} {v : State} {l : ℕ} → b.may_break ≡ true
        → Types b v (at l node.Break) typed.Break v
    -- 6.8.6.2: in a loop, which may have switches between
    continues : {b : Around} {v : State} {l : ℕ} → b.may_continue ≡ true
        → Types b v (at l node.Continue) typed.Continue v
    -- 6.8.6.4: without a value in a function that gives none
    returns : {b : Around} {v : State} {l : ℕ}
        → v.result ≡ None → Types b v (at l (node.Return None)) (typed.Return None) v
    -- and with one, converted to the function's type, in any other
    returns_value : {b : Around} {v : State} {l : ℕ} {k : Kind} {e : Expr} {t : TypedExpr}
        → v.result ≡ Some k → Full v.names Value e t
        → Types b v (at l (node.Return (Some e))) (typed.Return (Some (with_convert k t))) v

  -- several, one after another
  pub data TypesAll : Around → State → List Stmt → List TypedStmt → State → Type 0 where
    no_more : {b : Around} {v : State} → TypesAll b v [] [] v
    one_more : {b : Around} {v v' w : State} {s : Stmt} {t : TypedStmt} {ss : List Stmt}
        {ts : List TypedStmt}
        → Types b v s t v' → TypesAll b v' ss ts w → TypesAll b v (s ∷ ss) (t ∷ ts) w

  -- the sections of a switch of a type, behind labels of these words: no two labels are the same
  pub data TypesSections : Kind → List (Option ℕ) → Around → State → List Section
      → List TypedSection → State → Type 0 where
    no_section : {k : Kind} {seen : List (Option ℕ)} {b : Around} {v : State}
        → TypesSections k seen b v [] [] v
    one_section : {k : Kind} {seen words : List (Option ℕ)} {b : Around} {v v' w : State}
        {ls : List Label} {ss : List Stmt} {ts : List TypedStmt} {xs : List Section}
        {us : List TypedSection}
        → Labels v.names k seen ls words → TypesAll b v ss ts v'
        → TypesSections k (seen ++ words) b v' xs us w
        → TypesSections k seen b v (sectioned ls ss ∷ xs) ((record { labels = words; body = ts }) ∷ us) w

  -- a leg that may be left out
  pub data TypesIf : Around → State → Option Stmt → Option TypedStmt → State → Type 0 where
    without_else : {b : Around} {v : State} → TypesIf b v None None v
    with_else : {b : Around} {v w : State} {s : Stmt} {t : TypedStmt}
        → Types b v s t w → TypesIf b v (Some s) (Some t) w

  -- the first part of a `for`
  pub data Begins : Around → State → ForInit → TypedForInit → State → Type 0 where
    no_first : {b : Around} {v : State} → Begins b v first_part.Nothing typed_init.Nothing v
    first_value : {b : Around} {v : State} {e : Expr} {t : TypedExpr}
        → Full v.names Free e t → Begins b v (first_part.First e) (typed_init.First t) v
    first_locals : {b : Around} {v w : State} {ss : List Stmt} {ts : List TypedStmt}
        → TypesAll b v ss ts w → Begins b v (first_part.Locals ss) (typed_init.Locals ts) w
