-- What that which waits makes of a part, one behind another.
use Rattle.std.proofs.Common.{◌≡◌, ℕ, List, [], ◌∷◌, ◌++◌, map, length, refl, sym, ap, subst, ◌∙◌, arith}
use Rattle.std.specs.Borrow.{Bor}
use Rattle.c_tree.specs.declared.TypedExpr.{TypedExpr}
use Rattle.c_tree.specs.declared.TypedStmt.{TypedStmt}
use Rattle.c_tree.specs.declared.TypedProgram.{TypedProgram}
use Rattle.c_meaning_spec.specs.declared.Signal.{Signal}
use Rattle.c_meaning_spec.specs.declared.Signal.TheVariants.{Nothing, Value, Breaks, Continues, Returns}
use Rattle.c_meaning_spec.specs.Statement.{dropped, going_on, sequence}
use Rattle.c_meaning_spec.specs.State.{State, Result, Go, Over}
use Rattle.c_meaning_spec.specs.inside.State.{then}
use Rattle.c_meaning_spec.specs.Task.{Of, Run}
use Rattle.c_meaning_spec.specs.Telling.{placed, telling}
use Rattle.c_meaning.specs.inside.Ahead.{unwind_on, back_on}
use Rattle.c_meaning.specs.inside.Follow.{Waits}
use Rattle.c_meaning.specs.inside.View.{view, waits}
use Rattle.c_meaning.specs.inside.Direct.{stop_told, placed_told}
use Rattle.c_meaning.specs.declared.frame.Waiting.{Waiting}
use Rattle.c_meaning.specs.declared.frame.Waiting.TheVariants as waiting
use Rattle.c_meaning.specs.declared.store.Store.{Store}
use Rattle.c_meaning.specs.declared.direct.Stop.{Stop}
use Rattle.c_meaning.specs.declared.direct.Stop.TheVariants as stop

-- what waits nowhere makes nothing of it
pub unwound : (P : TypedProgram) (r : Result) (xs : List Waiting) → xs ≡ [] → unwind_on P (map waits xs) r ≡ r
unfolding unwind_on
unwound P r xs e = ap (λ (xs : List Waiting). unwind_on P (map waits xs) r) e

-- what waits before other
pub unwound-on : (P : TypedProgram) (xs ys : List Waits) (r : Result)
    → unwind_on P (xs ++ ys) r ≡ unwind_on P ys (unwind_on P xs r)
unfolding unwind_on
unwound-on P [] ys r = refl
unwound-on P (x ∷ xs) ys r = unwound-on P xs ys (back_on P x r)

map-on : (xs : List Waiting) (x : Waiting) → map waits (xs ++ x ∷ []) ≡ map waits xs ++ waits x ∷ []
map-on [] x = refl
map-on (y ∷ xs) x = ap (λ (zs : List Waits). waits y ∷ zs) (map-on xs x)

one : (P : TypedProgram) (x : Waits) (r : Result) → unwind_on P (x ∷ []) r ≡ back_on P x r
unfolding unwind_on
one P x r = refl

-- one more that waits
pub one_more : (P : TypedProgram) (r : Result) (old new : List Waiting) (x : Waiting) → new ≡ old ++ x ∷ []
    → unwind_on P (map waits new) r ≡ back_on P (waits x) (unwind_on P (map waits old) r)
one_more P r old new x e =
    ap (λ (xs : List Waiting). unwind_on P (map waits xs) r) e
    ∙ (ap (λ (xs : List Waits). unwind_on P xs r) (map-on old x)
    ∙ (unwound-on P (map waits old) (waits x ∷ []) r ∙ one P (waits x) (unwind_on P (map waits old) r)))

-- what a part that stopped means, with one more that waits behind it
grown : (P : TypedProgram) (r q : Result) (s : State) (old new : Store) (x : Waiting)
    → view new ≡ view old → new.pending.items ≡ old.pending.items ++ x ∷ [] → (f : State → Result)
    → unwind_on P (map waits old.pending.items) (f (view old)) ≡ q
    → unwind_on P (map waits new.pending.items) (f (view new)) ≡ back_on P (waits x) q
grown P r q s old new x same more f h =
    one_more P (f (view new)) old.pending.items new.pending.items x more
    ∙ (ap (λ (u : State). back_on P (waits x) (unwind_on P (map waits old.pending.items) (f u))) same
    ∙ ap (back_on P (waits x)) h)

-- one more behind an expression that is left
pub expr_more : (P : TypedProgram) (x : Stop) (e : Bor TypedExpr) (old new : Store) (w : Waiting) (r : Result)
    → x ≡ stop.AtExpr e → view new ≡ view old → new.pending.items ≡ old.pending.items ++ w ∷ []
    → stop_told P x old r ≡ r
    → stop_told P x new (back_on P (waits w) r) ≡ back_on P (waits w) r
expr_more P x e old new w r at same more h =
    ap (λ (y : Stop). stop_told P y new (back_on P (waits w) r)) at
    ∙ grown P r r (view old) old new w same more (telling P (Of e.now))
    (sym (ap (λ (y : Stop). stop_told P y old r) at) ∙ h)

-- one more behind a statement that is left
pub stmt_more : (P : TypedProgram) (x : Stop) (st : Bor TypedStmt) (old new : Store) (w : Waiting) (r : Result)
    → x ≡ stop.AtStmt st → view new ≡ view old → new.pending.items ≡ old.pending.items ++ w ∷ []
    → stop_told P x old r ≡ r
    → stop_told P x new (back_on P (waits w) r) ≡ back_on P (waits w) r
stmt_more P x st old new w r at same more h =
    ap (λ (y : Stop). stop_told P y new (back_on P (waits w) r)) at
    ∙ grown P r r (view old) old new w same more (telling P (Run st.now))
    (sym (ap (λ (y : Stop). stop_told P y old r) at) ∙ h)

-- one more behind a call that gave no value
pub gave_more : (P : TypedProgram) (x : Stop) (old new : Store) (w : Waiting) (r : Result)
    → x ≡ stop.Gave → view new ≡ view old → new.pending.items ≡ old.pending.items ++ w ∷ []
    → stop_told P x old r ≡ r
    → stop_told P x new (back_on P (waits w) r) ≡ back_on P (waits w) r
gave_more P x old new w r at same more h =
    ap (λ (y : Stop). stop_told P y new (back_on P (waits w) r)) at
    ∙ grown P r r (view old) old new w same more (Go Nothing) (sym (ap (λ (y : Stop). stop_told P y old r) at) ∙ h)

-- the place of an expression that stopped waits behind what is left of it
pub expr_placed : (P : TypedProgram) (token : ℕ) (x : Stop) (e : Bor TypedExpr) (old new : Store) (r : Result)
    → x ≡ stop.AtExpr e → view new ≡ view old → new.pending.items ≡ old.pending.items ++ waiting.Place token ∷ []
    → placed_told P token x old r ≡ r → stop_told P x new r ≡ r
expr_placed P token x e old new r at same more h =
    ap (λ (y : Stop). stop_told P y new r) at
    ∙ (grown P r _ (view old) old new (waiting.Place token) same more (telling P (Of e.now)) refl
    ∙ (sym (ap (λ (y : Stop). placed_told P token y old r) at) ∙ h))

-- the same of a statement
pub stmt_placed : (P : TypedProgram) (token : ℕ) (x : Stop) (st : Bor TypedStmt) (old new : Store) (r : Result)
    → x ≡ stop.AtStmt st → view new ≡ view old → new.pending.items ≡ old.pending.items ++ waiting.Place token ∷ []
    → placed_told P token x old r ≡ r → stop_told P x new r ≡ r
stmt_placed P token x st old new r at same more h =
    ap (λ (y : Stop). stop_told P y new r) at
    ∙ (grown P r _ (view old) old new (waiting.Place token) same more (telling P (Run st.now)) refl
    ∙ (sym (ap (λ (y : Stop). placed_told P token y old r) at) ∙ h))

-- the same of a call that gave no value
pub gave_placed : (P : TypedProgram) (token : ℕ) (x : Stop) (old new : Store) (r : Result)
    → x ≡ stop.Gave → view new ≡ view old → new.pending.items ≡ old.pending.items ++ waiting.Place token ∷ []
    → placed_told P token x old r ≡ r → stop_told P x new r ≡ r
gave_placed P token x old new r at same more h =
    ap (λ (y : Stop). stop_told P y new r) at
    ∙ (grown P r _ (view old) old new (waiting.Place token) same more (Go Nothing) refl
    ∙ (sym (ap (λ (y : Stop). placed_told P token y old r) at) ∙ h))

-- no value, before nothing that waits
pub nothing_given : (P : TypedProgram) (s : State) (xs : List Waiting) → xs ≡ []
    → unwind_on P (map waits xs) (Go Nothing s) ≡ Go Nothing s
nothing_given P s xs e = unwound P (Go Nothing s) xs e

no-items : (xs : List Waiting) → length xs ≡ 0 → xs ≡ []
no-items [] h = refl
no-items (x ∷ xs) h = absurd (omega arith)

gave-empty : (P : TypedProgram) (token : ℕ) (s : State) (xs : List Waiting) (r : Result) → xs ≡ []
    → placed token (unwind_on P (map waits xs) (Go Nothing s)) ≡ r → Go Nothing s ≡ r
gave-empty P token s xs r e h = sym (ap (placed token) (nothing_given P s xs e)) ∙ h

-- an expression statement whose call gave no value, with nothing that waits between
pub plain_gave : (P : TypedProgram) (token : ℕ) (x : Stop) (m : Store) (r : Result) → x ≡ stop.Gave
    → length m.pending.items ≡ 0 → placed_told P token x m r ≡ r → Go Nothing (view m) ≡ then r dropped
plain_gave P token x m r at e h =
    ap (λ (q : Result). then q dropped)
    (gave-empty P token (view m) m.pending.items r (no-items m.pending.items e)
    (sym (ap (λ (y : Stop). placed_told P token y m r) at) ∙ h))

on-none : (P : TypedProgram) (v : Signal) (s : State) → going_on v s (sequence (telling P) []) ≡ Go v s
on-none P Nothing s = refl
on-none P (Value w) s = refl
on-none P Breaks s = refl
on-none P Continues s = refl
on-none P (Returns w) s = refl

then-none : (P : TypedProgram) (r : Result) → then r (λ v s. going_on v s (sequence (telling P) [])) ≡ r
then-none P (Go v s) = on-none P v s
then-none P (Over why s) = refl

no-statements : (xs : List TypedStmt) → length xs ≡ 0 → xs ≡ []
no-statements [] h = refl
no-statements (x ∷ xs) h = absurd (omega arith)

-- what stopped before no statement
pub none_behind : (P : TypedProgram) (rest : List TypedStmt) (m : Store) (r : Result) → length rest ≡ 0
    → stop_told P m.stop m r ≡ r
    → stop_told P m.stop m (then r (λ v s. going_on v s (sequence (telling P) rest)))
    ≡ then r (λ v s. going_on v s (sequence (telling P) rest))
none_behind P rest m r e h =
    subst (λ (q : Result). stop_told P m.stop m q ≡ q)
    (sym (ap (λ (xs : List TypedStmt). then r (λ v s. going_on v s (sequence (telling P) xs))) (no-statements rest e)
    ∙ then-none P r)) h
