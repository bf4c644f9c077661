-- The text of `print.fill`: its tokens, its tree, and the typing of it.
use Rattle.std.proofs.Common.{ℕ, true, List, [], ◌∷◌, ◌++◌, map, codes, Option, Some}
use Rattle.std.proofs.Common.{refl, sym, subst, arith}
use Rattle.c_tree.specs.Limits.{most_nesting}
use Rattle.c_tree.specs.declared.token.Kind.TheVariants.{Int}
use Rattle.c_tree.specs.declared.tree.BinaryOp.TheVariants.{Less}
use Rattle.c_tree.specs.declared.tree.ArraySize.TheVariants as sizes
use Rattle.c_tree.specs.declared.tree.Stmt.{Stmt}
use Rattle.c_tree.specs.declared.tree.StmtNode.TheVariants as statement
use Rattle.c_tree.specs.declared.tree.Top.{Top}
use Rattle.c_tree.specs.declared.typed.Place.TheVariants as place
use Rattle.c_tree.specs.declared.typed.Slot.TheVariants as slot
use Rattle.c_tree.specs.declared.typed.TypedFunc.{TypedFunc}
use Rattle.c_grammar.specs.Tokens.{Tokens, token, within}
use Rattle.c_grammar.specs.Types as types
use Rattle.c_grammar.specs.Operators.{op, increased}
use Rattle.c_grammar.specs.Expressions as e
use Rattle.c_grammar.specs.Statements as s
use Rattle.c_grammar.specs.Statements.{semicolon}
use Rattle.c_grammar.specs.Units as u
use Rattle.c_grammar.specs.Units.{Units, item}
use Rattle.c_type_expr.specs.declared.meaning.Meaning.{Meaning}
use Rattle.c_type_expr.specs.declared.meaning.Meaning.TheVariants as meaning
use Rattle.c_type_expr.specs.Scope.{Frame, bound}
use Rattle.c_type_expr.specs.Typed as ty
use Rattle.c_type_expr.specs.Roles as places
use Rattle.c_type.specs.declared.state.State.{State}
use Rattle.c_type_rules.specs.Statements as st
use Rattle.c_type_rules.specs.Statements.{Full, TypesAll}
use Rattle.c_type_rules.specs.Units as un
use Rattle.c_type_rules.specs.Units.{Item}
use Rattle.library_laws.specs.FieldPrinters as fields
use Rattle.library_trees.specs.Tokens.{fill_tokens}
use Rattle.library_trees.specs.Typings.{IsTyped, defined, with_putchar}
use Rattle.library_trees.proofs.Parts.{lift, name, number, joined, called, raised_name}
use Rattle.library_trees.proofs.Parts.{need_number, need_name, need_binary, need_call}
use Rattle.library_trees.proofs.Parts.{need_raised, fits}

-- its statements, all of which stand at one place
abbrev code : ℕ → List Stmt
code l =
    (s.declared l Int (codes "k") (sizes.Scalar, Some (number l 0))) ∷ (s.at l (statement.While (joined l Less
    (name l (codes "k")) (name l (codes "count"))) (s.at l (statement.Compound ((s.at l (statement.Plain (Some
    (called l (codes "putchar") ((name l (codes "c")) ∷ []))))) ∷ (s.at l (statement.Plain (Some (raised_name l
    (codes "k"))))) ∷ []))))) ∷ (s.at l (statement.Return (Some (name l (codes "k"))))) ∷ []

-- its tree
abbrev tree : ℕ → Top
tree l =
    u.function l (Some Int) (codes "print.fill") (u.parameter (l, Some (codes "c")) Int sizes.Scalar ∷
    u.parameter (l, Some (codes "count")) Int sizes.Scalar ∷ []) (Some (s.at l (statement.Compound (code l))))

-- which its tokens spell, whatever stands behind them
spelled : (l : ℕ) (t : Tokens) → Units (within most_nesting) (item (tree l ∷ [])) (map (token l) fill_tokens ++ t) t
spelled l t =
    u.a_function (u.typed types.int) (u.definition (u.some_params (u.next_param (u.param_is types.int u.labelled
    u.no_brackets) (u.last_param (u.param_is types.int u.labelled u.no_brackets)))) (s.go (s.entry_local refl
    (s.declaration types.int (s.last_decl (s.value (lift 15 e.number))))) (s.go (s.entry_stmt (s.inner_is refl
    (s.while (s.tested (lift 9 (e.join {a = (name l (codes "k"))} (op Less) (lift 7 e.name) (lift 6 e.name))))
    (s.inner_is refl (s.compound (s.go (s.entry_stmt (s.inner_is refl (s.plain (lift 16 (e.call refl (e.some
    (e.last (lift 15 e.name)))))))) (s.go (s.entry_stmt (s.inner_is refl (s.plain (lift 15 (e.suffix {e = (name
    l (codes "k"))} increased (lift 1 e.name)))))) s.stop))))))) (s.go (s.entry_stmt (s.inner_is refl (s.return
    (s.given semicolon (lift 16 e.name))))) s.stop))))

-- the typed function
abbrev made : ℕ → ℕ → TypedFunc
made l f = fields.fill_printer (λ j. l)

-- the state behind its statements
abbrev behind : ℕ → ℕ → Frame → State
behind l f names = record {
  names = (bound (codes "k") (meaning.Scalar Int (place.Scalar 2)) ∷ bound (codes "count") (meaning.Scalar Int
      (place.Scalar 1)) ∷ bound (codes "c") (meaning.Scalar Int (place.Scalar 0)) ∷ []) ∷ (defined (codes
      "print.fill") (slot.Scalar Int ∷ slot.Scalar Int ∷ []) f names) ∷ [];
  scalars = (slot.Scalar Int ∷ slot.Scalar Int ∷ slot.Scalar Int ∷ []);
  arrays = [];
  result = Some Int;
}

-- its scope, tree and typing
pub fill_typed : (l f : ℕ) → IsTyped fill_tokens (codes "print.fill") (slot.Scalar Int ∷ slot.Scalar Int ∷ [])
    (with_putchar ∷ []) (codes "c" ∷ codes "count" ∷ codes "k" ∷ []) l f (made l f)
fill_typed l f = record {
  item_of = tree l;
  spelled = spelled l;
  typed = λ unit names globals bytes functions calls new means free.
      un.definition {v = behind l f names} calls (
        (un.one_param (un.no_row_size refl) (un.named refl free.0) (omega arith) (un.one_param (un.no_row_size
            refl) (un.named refl free.1.0) (omega arith) un.no_param)),
        subst (λ (m : Option Meaning). un.Agrees true (Some Int)
            (slot.Scalar Int ∷ slot.Scalar Int ∷ []) m) (sym new) un.fresh,
      ) (un.outermost
      (st.one_more (st.scalar_declared free.1.1.0 (omega arith) (st.with_value (
        (ty.number refl),
        fits (number l
            0) _ (need_number l 0) refl,
      ))) (st.one_more (st.while_loop (
        (ty.operation (ty.scalar refl refl) (ty.scalar
            refl refl) refl),
        fits (joined l Less (name l (codes "k")) (name l (codes "count"))) _ (need_binary l Less
            (name l (codes "k")) (name l (codes "count")) _ _ (need_name l (codes "k")) (need_name l (codes "count")))
            refl,
      ) (st.block (st.one_more (st.expression (st.present (
        (ty.call means.0 (ty.value (ty.scalar refl refl)
            ty.none) refl),
        fits (called l (codes "putchar") ((name l (codes "c")) ∷ [])) _ (need_call l (codes
            "putchar") (name l (codes "c")) _ (need_name l (codes "c"))) refl,
      ))) (st.one_more (st.expression
      (st.present (
        (ty.step places.a_name (ty.scalar refl refl) refl),
        fits (raised_name l (codes "k")) _
            (need_raised l (codes "k")) refl,
      ))) st.no_more)))) (st.one_more (st.returns_value refl (
        (ty.scalar refl
            refl),
        fits (name l (codes "k")) _ (need_name l (codes "k")) refl,
      )) st.no_more))));
}
