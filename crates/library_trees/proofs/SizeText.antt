-- The text of `print.size`: its tokens, its tree, and the typing of it.
use Rattle.std.proofs.Common.{ℕ, true, List, [], ◌∷◌, ◌++◌, map, codes, Option, Some}
use Rattle.std.proofs.Common.{refl, sym, subst, arith}
use Rattle.c_tree.specs.Limits.{most_nesting}
use Rattle.c_tree.specs.declared.token.Kind.TheVariants.{Int, ULong}
use Rattle.c_tree.specs.declared.tree.BinaryOp.TheVariants.{Divide, NotEqual}
use Rattle.c_tree.specs.declared.tree.ArraySize.TheVariants as sizes
use Rattle.c_tree.specs.declared.tree.Stmt.{Stmt}
use Rattle.c_tree.specs.declared.tree.StmtNode.TheVariants as statement
use Rattle.c_tree.specs.declared.tree.Top.{Top}
use Rattle.c_tree.specs.declared.typed.Place.TheVariants as place
use Rattle.c_tree.specs.declared.typed.Slot.TheVariants as slot
use Rattle.c_tree.specs.declared.typed.TypedFunc.{TypedFunc}
use Rattle.c_grammar.specs.Tokens.{Tokens, token, within}
use Rattle.c_grammar.specs.Types as types
use Rattle.c_grammar.specs.Operators.{op, compound, increased}
use Rattle.c_grammar.specs.Expressions as e
use Rattle.c_grammar.specs.Statements as s
use Rattle.c_grammar.specs.Statements.{semicolon}
use Rattle.c_grammar.specs.Units as u
use Rattle.c_grammar.specs.Units.{Units, item}
use Rattle.c_type_expr.specs.declared.meaning.Meaning.{Meaning}
use Rattle.c_type_expr.specs.declared.meaning.Meaning.TheVariants as meaning
use Rattle.c_type_expr.specs.Scope.{Frame, bound}
use Rattle.c_type_expr.specs.Typed as ty
use Rattle.c_type_expr.specs.Roles as places
use Rattle.c_type.specs.declared.state.State.{State}
use Rattle.c_type_rules.specs.Statements as st
use Rattle.c_type_rules.specs.Statements.{Full, TypesAll}
use Rattle.c_type_rules.specs.Units as un
use Rattle.c_type_rules.specs.Units.{Item}
use Rattle.library_laws.specs.FieldPrinters as fields
use Rattle.library_trees.specs.Tokens.{size_tokens}
use Rattle.library_trees.specs.Typings.{IsTyped, defined}
use Rattle.library_trees.proofs.Parts.{lift, name, number, joined, raised_name}
use Rattle.library_trees.proofs.Parts.{updated, need_number, need_name, need_binary}
use Rattle.library_trees.proofs.Parts.{need_raised, need_updated, fits}

-- its statements, all of which stand at one place
abbrev code : ℕ → List Stmt
code l =
    (s.declared l Int (codes "k") (sizes.Scalar, Some (number l 0))) ∷ (s.at l (statement.While (joined l
    NotEqual (name l (codes "n")) (number l 0)) (s.at l (statement.Compound ((s.at l (statement.Plain (Some
    (updated l Divide (name l (codes "n")) (name l (codes "base")))))) ∷ (s.at l (statement.Plain (Some
    (raised_name l (codes "k"))))) ∷ []))))) ∷ (s.at l (statement.Return (Some (name l (codes "k"))))) ∷ []

-- its tree
abbrev tree : ℕ → Top
tree l =
    u.function l (Some Int) (codes "print.size") (u.parameter (l, Some (codes "n")) ULong sizes.Scalar ∷
    u.parameter (l, Some (codes "base")) Int sizes.Scalar ∷ []) (Some (s.at l (statement.Compound (code l))))

-- which its tokens spell, whatever stands behind them
spelled : (l : ℕ) (t : Tokens) → Units (within most_nesting) (item (tree l ∷ [])) (map (token l) size_tokens ++ t) t
spelled l t =
    u.a_function (u.typed types.int) (u.definition (u.some_params (u.next_param (u.param_is types.unsigned_long
    u.labelled u.no_brackets) (u.last_param (u.param_is types.int u.labelled u.no_brackets)))) (s.go
    (s.entry_local refl (s.declaration types.int (s.last_decl (s.value (lift 15 e.number))))) (s.go
    (s.entry_stmt (s.inner_is refl (s.while (s.tested (lift 8 (e.join {a = (name l (codes "n"))} (op NotEqual)
    (lift 8 e.name) (lift 7 e.number)))) (s.inner_is refl (s.compound (s.go (s.entry_stmt (s.inner_is refl
    (s.plain (lift 1 (e.assign {a = (name l (codes "n"))} (compound Divide tt) (lift 2 e.name) refl (lift 15
    e.name)))))) (s.go (s.entry_stmt (s.inner_is refl (s.plain (lift 15 (e.suffix {e = (name l (codes "k"))}
    increased (lift 1 e.name)))))) s.stop))))))) (s.go (s.entry_stmt (s.inner_is refl (s.return (s.given
    semicolon (lift 16 e.name))))) s.stop))))

-- the typed function
abbrev made : ℕ → ℕ → TypedFunc
made l f = fields.size_counter (λ j. l)

-- the state behind its statements
abbrev behind : ℕ → ℕ → Frame → State
behind l f names = record {
  names = (bound (codes "k") (meaning.Scalar Int (place.Scalar 2)) ∷ bound (codes "base") (meaning.Scalar Int
      (place.Scalar 1)) ∷ bound (codes "n") (meaning.Scalar ULong (place.Scalar 0)) ∷ []) ∷ (defined (codes
      "print.size") (slot.Scalar ULong ∷ slot.Scalar Int ∷ []) f names) ∷ [];
  scalars = (slot.Scalar ULong ∷ slot.Scalar Int ∷ slot.Scalar Int ∷ []);
  arrays = [];
  result = Some Int;
}

-- its scope, tree and typing
pub size_typed : (l f : ℕ) → IsTyped size_tokens (codes "print.size") (slot.Scalar ULong ∷ slot.Scalar Int ∷ []) []
    (codes "n" ∷ codes "base" ∷ codes "k" ∷ []) l f (made l f)
size_typed l f = record {
  item_of = tree l;
  spelled = spelled l;
  typed = λ unit names globals bytes functions calls new means free.
      un.definition {v = behind l f names} calls (
        (un.one_param (un.no_row_size refl) (un.named refl free.0) (omega arith) (un.one_param (un.no_row_size
            refl) (un.named refl free.1.0) (omega arith) un.no_param)),
        subst (λ (m : Option Meaning). un.Agrees true (Some Int)
            (slot.Scalar ULong ∷ slot.Scalar Int ∷ []) m) (sym new) un.fresh,
      ) (un.outermost
      (st.one_more (st.scalar_declared free.1.1.0 (omega arith) (st.with_value (
        (ty.number refl),
        fits (number l
            0) _ (need_number l 0) refl,
      ))) (st.one_more (st.while_loop (
        (ty.operation (ty.scalar refl refl) (ty.number
            refl) refl),
        fits (joined l NotEqual (name l (codes "n")) (number l 0)) _ (need_binary l NotEqual (name l
            (codes "n")) (number l 0) _ _ (need_name l (codes "n")) (need_number l 0)) refl,
      ) (st.block (st.one_more
      (st.expression (st.present (
        (ty.assignment places.a_name (ty.scalar refl refl) (ty.scalar refl refl)
            refl),
        fits (updated l Divide (name l (codes "n")) (name l (codes "base"))) _ (need_updated l Divide
            (codes "n") (name l (codes "base")) _ (need_name l (codes "base"))) refl,
      ))) (st.one_more (st.expression
      (st.present (
        (ty.step places.a_name (ty.scalar refl refl) refl),
        fits (raised_name l (codes "k")) _
            (need_raised l (codes "k")) refl,
      ))) st.no_more)))) (st.one_more (st.returns_value refl (
        (ty.scalar refl
            refl),
        fits (name l (codes "k")) _ (need_name l (codes "k")) refl,
      )) st.no_more))));
}
