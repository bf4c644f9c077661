-- What a task means, by what its parts mean.
use Rattle.std.proofs.Common.{◌≡◌, ℕ, Option, Some, None, refl, sym, ap, subst, ◌∙◌}
use Rattle.c_tree.specs.declared.BinaryOp.{BinaryOp}
use Rattle.c_tree.specs.declared.BinaryOp.TheVariants.{LogicalOr, LogicalAnd}
use Rattle.c_tree.specs.declared.BumpOp.{BumpOp}
use Rattle.c_tree.specs.declared.Kind.{Kind}
use Rattle.c_tree.specs.declared.Place.TheVariants.{Scalar}
use Rattle.c_tree.specs.declared.TypedNode.{out-TypedNode, out-roll-TypedNode}
use Rattle.c_tree.specs.declared.TypedNode.TheOpen.{Number, Name, Element}
use Rattle.c_tree.specs.declared.TypedNode.TheVariants as node
use Rattle.c_tree.specs.declared.TypedExpr.{TypedExpr}
use Rattle.c_tree.specs.declared.TypedStmt.{TypedStmt, out-TypedStmt}
use Rattle.c_tree.specs.declared.TypedProgram.{TypedProgram}
use Rattle.c_tree.specs.TypedTrees.{Node, node_of}
use Rattle.c_meaning_spec.specs.declared.Object.TheVariants.{InScalar}
use Rattle.c_meaning_spec.specs.declared.Signal.TheVariants.{Value}
use Rattle.c_meaning_spec.specs.State.{State, Result, Go, Over, spend, load}
use Rattle.c_meaning_spec.specs.Task.{Of, Run, Turn, Parts}
use Rattle.c_meaning_spec.specs.Expression.{expression, binary, assign, bump}
use Rattle.c_meaning_spec.specs.Statement.{statement, turn}
use Rattle.c_meaning_spec.specs.Telling.{first_place, placed, calling, telling}
use Rattle.c_meaning_spec.proofs.Tellings.{telling-is}
use Rattle.c_meaning.specs.inside.Direct.{stop_told, placed_told, Values, ValuesAt, parts_at, through_if}
use Rattle.c_meaning.specs.declared.store.Store.{Store}
use Rattle.c_meaning.specs.declared.direct.Stop.{Stop}
use Rattle.c_meaning.specs.declared.direct.Stop.TheVariants as stop

-- what an expression means is what its node does with the meaning of its parts, with its place
pub of_is : (P : TypedProgram) (e : TypedExpr) (s : State)
    → telling P (Of e) s ≡ placed e.at (expression (calling e.at (telling P)) P (node_of e) s)
of_is P e s = telling-is P (Of e) s

-- what a statement means is what its node does with the meaning of its parts
pub run_is : (P : TypedProgram) (st : TypedStmt) (s : State)
    → telling P (Run st) s ≡ statement (telling P) (out-TypedStmt st) s
run_is P st s = telling-is P (Run st) s

-- what a loop's turn means is what it does with the meaning of its parts
pub turn_is : (P : TypedProgram) (test post : Option TypedExpr) (body : TypedStmt) (s : State)
    → telling P (Turn test post body) s ≡ turn (telling P) test post body s
turn_is P test post body s = telling-is P (Turn test post body) s

-- PLACES

first-once : (o : Option ℕ) (token : ℕ) → first_place (first_place o token) token ≡ first_place o token
first-once None token = refl
first-once (Some x) token = refl

-- a place is told once
placed-once : (token : ℕ) (r : Result) → placed token (placed token r) ≡ placed token r
placed-once token (Go v s) = refl
placed-once token (Over why s) =
    ap (λ (o : Option ℕ). Over why (record s { told = record { at = o; calls = s.told.calls } }))
    (first-once s.told.at token)

-- an expression has told its place
pub told_once : (P : TypedProgram) (e : TypedExpr) (s : State) → placed e.at (telling P (Of e) s) ≡ telling P (Of e) s
told_once P e s =
    ap (placed e.at) (of_is P e s)
    ∙ (placed-once e.at (expression (calling e.at (telling P)) P (node_of e) s) ∙ sym (of_is P e s))

stop-placed : (P : TypedProgram) (token : ℕ) (x : Stop) (m : Store) (r : Result) → stop_told P x m r ≡ r
    → placed_told P token x m (placed token r) ≡ placed token r
stop-placed P token stop.Memory m r h = refl
stop-placed P token (stop.Fails why) m r h = ap (placed token) h
stop-placed P token (stop.AtExpr e) m r h = ap (placed token) h
stop-placed P token (stop.AtStmt st) m r h = ap (placed token) h
stop-placed P token stop.Gave m r h = ap (placed token) h

-- what came to what its node does has come to what it means, but for its place
values-placed : (P : TypedProgram) (token : ℕ) (r : Result) (m : Store) (x : Option ℕ) → Values P r m x
    → ValuesAt P token (placed token r) m x
values-placed P token r m (Some w) h = ap (placed token) h
values-placed P token r m None h = stop-placed P token m.stop m r h

-- the same of an expression
pub expression_placed : (P : TypedProgram) (e : TypedExpr) (s : State) (m : Store) (x : Option ℕ)
    → Values P (expression (calling e.at (telling P)) P (node_of e) s) m x
    → ValuesAt P e.at (telling P (Of e) s) m x
expression_placed P e s m x h =
    subst (λ (r : Result). ValuesAt P e.at r m x) (sym (of_is P e s)) (values-placed P e.at _ m x h)

-- what a body comes to in a call
pub body_is : (P : TypedProgram) (call : Option ℕ) (st : TypedStmt) (s : State)
    → parts_at P call (Run st) s ≡ through_if call (telling P (Run st) s)
body_is P None st s = refl
body_is P (Some token) st s = refl

-- an operation calls nothing
pub binary_is : (token : ℕ) (rec : Parts) (op : BinaryOp) (l r : TypedExpr) (s : State)
    → binary (calling token rec) op l r s ≡ binary rec op l r s
binary_is token rec LogicalAnd l r s = refl
binary_is token rec LogicalOr l r s = refl
binary_is token rec _ l r s = refl

-- nor does an assignment
pub assign_is : (token : ℕ) (rec : Parts) (op : Option BinaryOp) (to : Option Kind) (at : Kind) (n : Node)
    (r : TypedExpr) (s : State) → assign (calling token rec) op to at n r s ≡ assign rec op to at n r s
assign_is token rec None to at (Name p) r s = refl
assign_is token rec None to at (Element p None index) r s = refl
assign_is token rec None to at (Element p (Some row) index) r s = refl
assign_is token rec (Some op) to at (Name p) r s = refl
assign_is token rec (Some op) to at (Element p None index) r s = refl
assign_is token rec (Some op) to at (Element p (Some row) index) r s = refl
assign_is token rec op to at _ r s = refl

-- nor do ++ and --
pub bump_is : (token : ℕ) (rec : Parts) (op : BumpOp) (k : Option Kind) (n : Node) (s : State)
    → bump (calling token rec) op k n s ≡ bump rec op k n s
bump_is token rec op k (Name p) s = refl
bump_is token rec op k (Element p None index) s = refl
bump_is token rec op k (Element p (Some row) index) s = refl
bump_is token rec op k _ s = refl

-- LEAVES

node-number : (e : TypedExpr) (w : ℕ) → e.node ≡ node.Number w → node_of e ≡ Number w
node-number e w h =
    ap out-TypedNode h ∙ (ap out-TypedNode (sym (node.rolls-Number w)) ∙ out-roll-TypedNode (Number w))

-- a number takes a step and is its value
pub number_placed : (P : TypedProgram) (e : TypedExpr) (w : ℕ) (s : State) (m : Store) (x : Option ℕ)
    → e.node ≡ node.Number w → Values P (spend s (λ u. Go (Value w) u)) m x
    → ValuesAt P e.at (telling P (Of e) s) m x
number_placed P e w s m x n h =
    expression_placed P e s m x
    (subst (λ (k : Node). Values P (expression (calling e.at (telling P)) P k s) m x) (sym (node-number e w n)) h)

-- a scalar's name takes a step and reads the scalar
pub scalar_placed : (P : TypedProgram) (e : TypedExpr) (i : ℕ) (s : State) (m : Store) (x : Option ℕ)
    → node_of e ≡ Name (Scalar i) → Values P (spend s (λ u. load (InScalar i) u)) m x
    → ValuesAt P e.at (telling P (Of e) s) m x
scalar_placed P e i s m x n h =
    expression_placed P e s m x
    (subst (λ (k : Node). Values P (expression (calling e.at (telling P)) P k s) m x) (sym n) h)
