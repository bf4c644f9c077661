-- The text of `print.d`: its tokens, its tree, and the typing of it.
use Rattle.std.proofs.Common.{ℕ, true, List, [], ◌∷◌, ◌++◌, map, codes, Option, Some}
use Rattle.std.proofs.Common.{None, refl, sym, subst, arith}
use Rattle.c_tree.specs.Limits.{most_nesting}
use Rattle.c_tree.specs.declared.token.Kind.TheVariants.{Int, Long, ULong}
use Rattle.c_tree.specs.declared.tree.UnaryOp.TheVariants.{Minus}
use Rattle.c_tree.specs.declared.tree.BinaryOp.TheVariants.{Add, GreaterEqual}
use Rattle.c_tree.specs.declared.tree.ArraySize.TheVariants as sizes
use Rattle.c_tree.specs.declared.tree.Stmt.{Stmt}
use Rattle.c_tree.specs.declared.tree.StmtNode.TheVariants as statement
use Rattle.c_tree.specs.declared.tree.Top.{Top}
use Rattle.c_tree.specs.declared.typed.Place.TheVariants as place
use Rattle.c_tree.specs.declared.typed.Slot.TheVariants as slot
use Rattle.c_tree.specs.declared.typed.TypedFunc.{TypedFunc}
use Rattle.c_grammar.specs.Tokens.{Tokens, token, within}
use Rattle.c_grammar.specs.Types as types
use Rattle.c_grammar.specs.Operators.{op, sign}
use Rattle.c_grammar.specs.Expressions as e
use Rattle.c_grammar.specs.Statements as s
use Rattle.c_grammar.specs.Statements.{semicolon}
use Rattle.c_grammar.specs.Units as u
use Rattle.c_grammar.specs.Units.{Units, item}
use Rattle.c_type_expr.specs.declared.meaning.Meaning.{Meaning}
use Rattle.c_type_expr.specs.declared.meaning.Meaning.TheVariants as meaning
use Rattle.c_type_expr.specs.Scope.{Frame, bound}
use Rattle.c_type_expr.specs.Typed as ty
use Rattle.c_type.specs.declared.state.State.{State}
use Rattle.c_type_rules.specs.Statements as st
use Rattle.c_type_rules.specs.Statements.{Full, TypesAll}
use Rattle.c_type_rules.specs.Units as un
use Rattle.c_type_rules.specs.Units.{Item}
use Rattle.library_laws.specs.Printers as printers
use Rattle.library_trees.specs.Tokens.{signed_tokens}
use Rattle.library_trees.specs.Typings.{IsTyped, defined, with_putchar, with_unsigned}
use Rattle.library_trees.proofs.Parts.{lift, name, number, joined, called, one_operand, cast_to}
use Rattle.library_trees.proofs.Parts.{need_number, need_name, need_binary, need_call}
use Rattle.library_trees.proofs.Parts.{need_unary, need_cast, fits}

-- its statements, all of which stand at one place
abbrev code : ℕ → List Stmt
code l =
    (s.at l (statement.If (joined l GreaterEqual (name l (codes "n")) (number l 0)) (s.at l (statement.Return
    (Some (called l (codes "print.u") ((name l (codes "n")) ∷ []))))) None)) ∷ (s.at l (statement.Plain (Some
    (called l (codes "putchar") ((number l 45) ∷ []))))) ∷ (s.at l (statement.Return (Some (joined l Add (number
    l 1) (called l (codes "print.u") ((one_operand l Minus (cast_to l ULong (name l (codes "n")))) ∷ [])))))) ∷
    []

-- its tree
abbrev tree : ℕ → Top
tree l =
    u.function l (Some Int) (codes "print.d") (u.parameter (l, Some (codes "n")) Long sizes.Scalar ∷ []) (Some
    (s.at l (statement.Compound (code l))))

-- which its tokens spell, whatever stands behind them
spelled : (l : ℕ) (t : Tokens) → Units (within most_nesting) (item (tree l ∷ [])) (map (token l) signed_tokens ++ t) t
spelled l t =
    u.a_function (u.typed types.int) (u.definition (u.some_params (u.last_param (u.param_is types.long
    u.labelled u.no_brackets))) (s.go (s.entry_stmt (s.inner_is refl (s.if_only (s.tested (lift 9 (e.join {a =
    (name l (codes "n"))} (op GreaterEqual) (lift 7 e.name) (lift 6 e.number)))) (s.inner_is refl (s.return
    (s.given semicolon (lift 16 (e.call refl (e.some (e.last (lift 15 e.name))))))))))) (s.go (s.entry_stmt
    (s.inner_is refl (s.plain (lift 16 (e.call refl (e.some (e.last (lift 15 e.number)))))))) (s.go
    (s.entry_stmt (s.inner_is refl (s.return (s.given semicolon (lift 11 (e.join {a = (number l 1)} (op Add)
    (lift 5 e.number) (lift 4 (e.call refl (e.some (e.last (lift 13 (e.prefix (sign Minus) refl (e.cast refl
    types.unsigned_long (lift 3 e.name)))))))))))))) s.stop))))

-- the typed function
abbrev made : ℕ → ℕ → ℕ → TypedFunc
made l f g = printers.signed_printer (λ j. l) f

-- the state behind its statements
abbrev behind : ℕ → ℕ → ℕ → Frame → State
behind l f g names = record {
  names = (bound (codes "n") (meaning.Scalar Long (place.Scalar 0)) ∷ []) ∷ (defined (codes "print.d")
      (slot.Scalar Long ∷ []) g names) ∷ [];
  scalars = (slot.Scalar Long ∷ []);
  arrays = [];
  result = Some Int;
}

-- its scope, tree and typing
pub signed_typed : (l f g : ℕ) → IsTyped signed_tokens (codes "print.d") (slot.Scalar Long ∷ []) (with_putchar ∷
    with_unsigned f ∷ []) (codes "n" ∷ []) l g (made l f g)
signed_typed l f g = record {
  item_of = tree l;
  spelled = spelled l;
  typed = λ unit names globals bytes functions calls new means free.
      un.definition {v = behind l f g names} calls (
        (un.one_param (un.no_row_size refl) (un.named refl free.0) (omega arith) un.no_param),
        subst (λ (m : Option Meaning). un.Agrees true (Some Int)
            (slot.Scalar Long ∷ []) m) (sym new) un.fresh,
      ) (un.outermost
      (st.one_more (st.either (
        (ty.operation (ty.scalar refl refl) (ty.number refl) refl),
        fits (joined l
            GreaterEqual (name l (codes "n")) (number l 0)) _ (need_binary l GreaterEqual (name l (codes "n")) (number
            l 0) _ _ (need_name l (codes "n")) (need_number l 0)) refl,
      ) (st.returns_value refl (
        (ty.call means.1.0
            (ty.value (ty.scalar refl refl) ty.none) refl),
        fits (called l (codes "print.u") ((name l (codes "n")) ∷
            [])) _ (need_call l (codes "print.u") (name l (codes "n")) _ (need_name l (codes "n"))) refl,
      ))
      st.without_else) (st.one_more (st.expression (st.present (
        (ty.call means.0 (ty.value (ty.number refl)
            ty.none) refl),
        fits (called l (codes "putchar") ((number l 45) ∷ [])) _ (need_call l (codes "putchar")
            (number l 45) _ (need_number l 45)) refl,
      ))) (st.one_more (st.returns_value refl (
        (ty.operation (ty.number
            refl) (ty.call means.1.0 (ty.value (ty.operator (ty.conversion (ty.scalar refl refl) refl) refl) ty.none)
            refl) refl),
        fits (joined l Add (number l 1) (called l (codes "print.u") ((one_operand l Minus (cast_to l
            ULong (name l (codes "n")))) ∷ []))) _ (need_binary l Add (number l 1) (called l (codes "print.u")
            ((one_operand l Minus (cast_to l ULong (name l (codes "n")))) ∷ [])) _ _ (need_number l 1) (need_call l
            (codes "print.u") (one_operand l Minus (cast_to l ULong (name l (codes "n")))) _ (need_unary l Minus
            (cast_to l ULong (name l (codes "n"))) _ (need_cast l ULong (name l (codes "n")) _ (need_name l (codes
            "n")))))) refl,
      )) st.no_more))));
}
