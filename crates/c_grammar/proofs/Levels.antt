-- Facts on expressions of a level: what they begin with, what may be assigned to, what opens.
use Rattle.std.proofs.Common.{◌≡◌, ℕ, zero, suc, ◌<◌, ◌≤◌, true, false, List, [], ◌∷◌, length, refl}
use Rattle.std.proofs.Common.{Some, None, sym, ap, ◌∙◌, arith}
use Rattle.std.proofs.lemmas.Bool.{false≢true}
use Rattle.c_tree.specs.declared.token.Lexeme.{Lexeme}
use Rattle.c_tree.specs.declared.token.Form.{Form}
use Rattle.c_tree.specs.declared.token.Form.TheVariants as form
use Rattle.c_tree.specs.declared.token.Mark.{Mark}
use Rattle.c_tree.specs.declared.token.Mark.TheVariants as mark
use Rattle.c_tree.specs.declared.token.Kind.TheVariants as kind
use Rattle.c_tree.specs.declared.tree.UnaryOp.TheVariants as unary
use Rattle.c_tree.specs.declared.tree.Expr.{Expr}
use Rattle.c_tree.specs.declared.tree.ExprNode.TheVariants as node
use Rattle.c_tree.specs.declared.tree.BumpOp.TheVariants as bump
use Rattle.c_grammar.specs.Tokens.{Tokens, token, May}
use Rattle.c_grammar.specs.Operators.{at, op, comma, sign, increase, decrease, increased, decreased}
use Rattle.c_grammar.specs.Operators.{assigner_op}
use Rattle.c_grammar.specs.Expressions.{Phrase, expr, arg_list, Spells, number, name, group}
use Rattle.c_grammar.specs.Expressions.{row_element}
use Rattle.c_grammar.specs.Expressions.{element, call, none, some, last, next, suffix, prefix, cast}
use Rattle.c_grammar.specs.Expressions.{join, choice, assign, up}
use Rattle.c_grammar.specs.inside.Numbers.{is_mark}
use Rattle.c_grammar.specs.inside.Parsing.{first, is_next}
use Rattle.c_grammar.specs.inside.ModelTypes.{is_type, begins_type}
use Rattle.c_grammar.specs.inside.ModelExpressions.{is_cast}
use Rattle.c_grammar.specs.inside.ModelOperators.{is_unary_node, is_unary}
use Rattle.c_grammar.specs.inside.ModelBegins.{begins_expression}
use Rattle.c_grammar.proofs.Numbers.{mark_is}
use Rattle.c_grammar.proofs.Agree.{apart}
use Rattle.c_grammar.proofs.Stops.{below_joins}
use Rattle.c_grammar.proofs.Types.{types_shorter}

-- ---- the shortest expression

-- the token of the number 0
abbrev pub zero_token : Lexeme
zero_token = token 0 (form.Number 0 kind.Int)

-- the expression 0
abbrev pub zero_expr : Expr
zero_expr = at 0 (node.Number 0 kind.Int)

-- some tokens behind the number 0
abbrev pub zero_first : Tokens → Tokens
zero_first t = zero_token ∷ t

-- A zero alone spells an expression of each level.
pub shortest : {may : May} {d : ℕ} {t : Tokens} → (n : ℕ)
    → Spells may (expr n zero_expr) d (zero_token ∷ t) t
shortest zero = number
shortest (suc n) = up (shortest n)

-- a unary expression is a conditional one
pub as_conditional : {may : May} {d : ℕ} {e : Expr} {f t : Tokens} → Spells may (expr 2 e) d f t
    → Spells may (expr 14 e) d f t
as_conditional x = up (up (up (up (up (up (up (up (up (up (up (up x)))))))))))

-- ---- first tokens

-- Tokens that spell an expression begin as expressions do.
pub level_starts : {may : May} {n d : ℕ} {e : Expr} {f t : Tokens} → Spells may (expr n e) d f t
    → first begins_expression f ≡ true
level_starts number = refl
level_starts name = refl
level_starts (group ok x) = refl
level_starts (element ok x) = refl
level_starts (row_element ok x ok' y) = refl
level_starts (call ok x) = refl
level_starts (suffix s x) = level_starts x
level_starts (prefix (sign unary.Plus) ok x) = refl
level_starts (prefix (sign _) ok x) = refl
level_starts (prefix increase ok x) = refl
level_starts (prefix decrease ok x) = refl
level_starts (cast ok x y) = refl
level_starts (join j x y) = level_starts x
level_starts (choice x ok y z) = level_starts x
level_starts (assign s x ok y) = level_starts x
level_starts (up x) = level_starts x

-- a list of arguments begins as expressions do
pub list_starts : {may : May} {d : ℕ} {es : List Expr} {f t : Tokens}
    → Spells may (arg_list es) d f t → first begins_expression f ≡ true
list_starts (last x) = level_starts x
list_starts (next x y) = level_starts x

-- Where an expression begins, no punctuator stands with which none begins.
pub starts_no_mark : (k : Mark) → begins_expression (form.Mark k) ≡ false → (ts : Tokens)
    → first begins_expression ts ≡ true → is_next k ts ≡ false
starts_no_mark k no' ts e = apart begins_expression (is_mark k)
    (λ f p q. false≢true (sym no' ∙ ap begins_expression (sym (mark_is k f q)) ∙ p)) ts e

starts_no_type_form : (f : Form) → begins_expression f ≡ true → is_type f ≡ false
starts_no_type_form (form.Name w) e = refl
starts_no_type_form (form.Number v k) e = refl
starts_no_type_form (form.Mark m) e = refl
starts_no_type_form _ e = absurd (false≢true e)

-- no type stands where an expression begins
pub starts_no_type : (ts : Tokens) → first begins_expression ts ≡ true → begins_type ts ≡ false
starts_no_type [] e = absurd (false≢true e)
starts_no_type (t ∷ ts) e = starts_no_type_form t.form e

-- a unary expression is no cast
pub unary_no_cast : {may : May} {n d : ℕ} {e : Expr} {f t : Tokens} → Spells may (expr n e) d f t
    → n ≤ 2 → is_cast f ≡ false
unary_no_cast number le = refl
unary_no_cast name le = refl
unary_no_cast (group ok x) le = starts_no_type _ (level_starts x)
unary_no_cast (element ok x) le = refl
unary_no_cast (row_element ok x ok' y) le = refl
unary_no_cast (call ok x) le = refl
unary_no_cast (suffix s x) le = unary_no_cast x le'
  where
    le' : 1 ≤ 2
    le' = omega arith
unary_no_cast (prefix (sign unary.Plus) ok x) le = refl
unary_no_cast (prefix (sign _) ok x) le = refl
unary_no_cast (prefix increase ok x) le = refl
unary_no_cast (prefix decrease ok x) le = refl
unary_no_cast (cast ok x y) le = absurd (omega (arith, le))
unary_no_cast (join j x y) le = let h = (below_joins j).many in absurd (omega (arith, le, h))
unary_no_cast (choice x ok y z) le = absurd (omega (arith, le))
unary_no_cast (assign s x ok y) le = absurd (omega (arith, le))
unary_no_cast (up x) le = unary_no_cast x (omega (arith, le))

-- a parenthesis that an expression begins with opens a depth
pub paren_opens : {may : May} {n d : ℕ} {e : Expr} {f t : Tokens} → Spells may (expr n e) d f t
    → is_next mark.LeftParen f ≡ true → may f (suc d) ≡ true
paren_opens number h = absurd (false≢true h)
paren_opens name h = absurd (false≢true h)
paren_opens (group ok x) h = ok
paren_opens (element ok x) h = absurd (false≢true h)
paren_opens (row_element ok x ok' y) h = absurd (false≢true h)
paren_opens (call ok x) h = absurd (false≢true h)
paren_opens (suffix s x) h = paren_opens x h
paren_opens (prefix (sign unary.Plus) ok x) h = absurd (false≢true h)
paren_opens (prefix (sign _) ok x) h = absurd (false≢true h)
paren_opens (prefix increase ok x) h = absurd (false≢true h)
paren_opens (prefix decrease ok x) h = absurd (false≢true h)
paren_opens (cast ok x y) h = ok
paren_opens (join j x y) h = paren_opens x h
paren_opens (choice x ok y z) h = paren_opens x h
paren_opens (assign s x ok y) h = paren_opens x h
paren_opens (up x) h = paren_opens x h

-- ---- what may be assigned to

-- an expression of the level of unary ones, or of a lower one, is unary
pub unary_is : {may : May} {n d : ℕ} {e : Expr} {f t : Tokens} → Spells may (expr n e) d f t → n ≤ 2
    → is_unary e ≡ true
unfolding is_unary
unary_is (number {v = v} {k = k}) le = ap is_unary_node (node.outs-Number v k)
unary_is (name {w = w}) le = ap is_unary_node (node.outs-Name w)
unary_is (group {e = e} ok x) le = ap is_unary_node (node.outs-Group e)
unary_is (element {w = w} {e = e} ok x) le = ap is_unary_node (node.outs-Element w None e)
unary_is (row_element {w = w} {r = r} {e = e} ok x ok' y) le =
    ap is_unary_node (node.outs-Element w (Some r) e)
unary_is (call {w = w} {es = es} ok x) le = ap is_unary_node (node.outs-Call w es)
unary_is (suffix {e = e} increased x) le = ap is_unary_node (node.outs-Bump bump.PostInc e)
unary_is (suffix {e = e} decreased x) le = ap is_unary_node (node.outs-Bump bump.PostDec e)
unary_is (prefix {e = e} (sign o) ok x) le = ap is_unary_node (node.outs-Unary o e)
unary_is (prefix {e = e} increase ok x) le = ap is_unary_node (node.outs-Bump bump.PreInc e)
unary_is (prefix {e = e} decrease ok x) le = ap is_unary_node (node.outs-Bump bump.PreDec e)
unary_is (cast ok x y) le = absurd (omega (arith, le))
unary_is (join j x y) le = let h = (below_joins j).many in absurd (omega (arith, le, h))
unary_is (choice x ok y z) le = absurd (omega (arith, le))
unary_is (assign s x ok y) le = absurd (omega (arith, le))
unary_is (up x) le = unary_is x (omega (arith, le))

-- a unary expression of any level is spelled at the level of unary ones
pub unary_only : {may : May} {n d : ℕ} {e : Expr} {f t : Tokens} → Spells may (expr n e) d f t
    → is_unary e ≡ true → Spells may (expr 2 e) d f t
unfolding is_unary
unary_only number h = up (up number)
unary_only name h = up (up name)
unary_only (group ok x) h = up (up (group ok x))
unary_only (element ok x) h = up (up (element ok x))
unary_only (row_element ok x ok' y) h = up (up (row_element ok x ok' y))
unary_only (call ok x) h = up (up (call ok x))
unary_only (suffix s x) h = up (suffix s x)
unary_only (prefix p ok x) h = prefix p ok x
unary_only (cast {c = c} {e = e} ok x y) h =
    absurd (false≢true (sym (ap is_unary_node (node.outs-Cast c e)) ∙ h))
unary_only (join {a = a} {b = b} (op o) x y) h =
    absurd (false≢true (sym (ap is_unary_node (node.outs-Binary o a b)) ∙ h))
unary_only (join {a = a} {b = b} comma x y) h =
    absurd (false≢true (sym (ap is_unary_node (node.outs-Comma a b)) ∙ h))
unary_only (choice {a = a} {b = b} {c = c} x ok y z) h =
    absurd (false≢true (sym (ap is_unary_node (node.outs-Choice a b c)) ∙ h))
unary_only (assign {a = a} {b = b} s x ok y) h =
    absurd (false≢true (sym (ap is_unary_node (node.outs-Assign (assigner_op s) a b)) ∙ h))
unary_only (up x) h = unary_only x h

-- ---- lengths

-- What is left behind a phrase is shorter.
pub spells_shorter : {may : May} {p : Phrase} {d : ℕ} {f t : Tokens} → Spells may p d f t
    → length t < length f
spells_shorter number = omega arith
spells_shorter name = omega arith
spells_shorter (group ok x) = let h = spells_shorter x in omega arith
spells_shorter (element ok x) = let h = spells_shorter x in omega arith
spells_shorter (row_element ok x ok' y) =
    let h = spells_shorter x in let i = spells_shorter y in omega arith
spells_shorter (call ok x) = let h = spells_shorter x in omega arith
spells_shorter none = omega arith
spells_shorter (some x) = spells_shorter x
spells_shorter (last x) = let h = spells_shorter x in omega arith
spells_shorter (next x y) = let h = spells_shorter x in let i = spells_shorter y in omega arith
spells_shorter (suffix s x) = let h = spells_shorter x in omega arith
spells_shorter (prefix p ok x) = let h = spells_shorter x in omega arith
spells_shorter (cast ok x y) = let h = types_shorter x in let i = spells_shorter y in omega arith
spells_shorter (join j x y) = let h = spells_shorter x in let i = spells_shorter y in omega arith
spells_shorter (choice x ok y z) =
    let h = spells_shorter x in let i = spells_shorter y in let j = spells_shorter z in omega arith
spells_shorter (assign s x ok y) = let h = spells_shorter x in let i = spells_shorter y in omega arith
spells_shorter (up x) = spells_shorter x
