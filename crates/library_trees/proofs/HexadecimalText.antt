-- The text of `print.x`: its tokens, its tree, and the typing of it.
use Rattle.std.proofs.Common.{ℕ, true, List, [], ◌∷◌, ◌++◌, map, codes, Option, Some}
use Rattle.std.proofs.Common.{refl, sym, subst, arith}
use Rattle.c_tree.specs.Limits.{most_nesting}
use Rattle.c_tree.specs.declared.token.Kind.TheVariants.{Int, ULong}
use Rattle.c_tree.specs.declared.tree.BinaryOp.TheVariants.{Less, Add}
use Rattle.c_tree.specs.declared.tree.BinaryOp.TheVariants.{ShiftRight, BitAnd, Subtract}
use Rattle.c_tree.specs.declared.tree.ArraySize.TheVariants as sizes
use Rattle.c_tree.specs.declared.tree.Stmt.{Stmt}
use Rattle.c_tree.specs.declared.tree.StmtNode.TheVariants as statement
use Rattle.c_tree.specs.declared.tree.Top.{Top}
use Rattle.c_tree.specs.declared.typed.Place.TheVariants as place
use Rattle.c_tree.specs.declared.typed.Slot.TheVariants as slot
use Rattle.c_tree.specs.declared.typed.TypedFunc.{TypedFunc}
use Rattle.c_grammar.specs.Tokens.{Tokens, token, within}
use Rattle.c_grammar.specs.Types as types
use Rattle.c_grammar.specs.Operators.{op}
use Rattle.c_grammar.specs.Expressions as e
use Rattle.c_grammar.specs.Statements as s
use Rattle.c_grammar.specs.Statements.{semicolon}
use Rattle.c_grammar.specs.Units as u
use Rattle.c_grammar.specs.Units.{Units, item}
use Rattle.c_type_expr.specs.declared.meaning.Meaning.{Meaning}
use Rattle.c_type_expr.specs.declared.meaning.Meaning.TheVariants as meaning
use Rattle.c_type_expr.specs.Scope.{Frame, bound}
use Rattle.c_type_expr.specs.Typed as ty
use Rattle.c_type.specs.declared.state.State.{State}
use Rattle.c_type_rules.specs.Statements as st
use Rattle.c_type_rules.specs.Statements.{Full, TypesAll}
use Rattle.c_type_rules.specs.Units as un
use Rattle.c_type_rules.specs.Units.{Item}
use Rattle.library_laws.specs.Printers as printers
use Rattle.library_trees.specs.Tokens.{hexadecimal_tokens}
use Rattle.library_trees.specs.Typings.{IsTyped, defined, with_putchar}
use Rattle.library_trees.proofs.Parts.{lift, name, number, joined, called, chosen}
use Rattle.library_trees.proofs.Parts.{need_number, need_name, need_binary, need_call, need_choice}
use Rattle.library_trees.proofs.Parts.{fits}

-- its statements, all of which stand at one place
abbrev code : ℕ → List Stmt
code l =
    (s.declared l Int (codes "k") (
      sizes.Scalar,
      Some (chosen l (joined l Less (name l (codes "n")) (number l
          16)) (number l 0) (called l (codes "print.x") ((joined l ShiftRight (name l (codes "n")) (number l 4)) ∷
          []))),
    )) ∷ (s.declared l Int (codes "d") (
      sizes.Scalar,
      Some (joined l BitAnd (name l (codes "n")) (number l
          15)),
    )) ∷ (s.at l (statement.Plain (Some (called l (codes "putchar") ((chosen l (joined l Less (name l (codes
    "d")) (number l 10)) (joined l Add (number l 48) (name l (codes "d"))) (joined l Add (joined l Subtract
    (number l 97) (number l 10)) (name l (codes "d")))) ∷ []))))) ∷ (s.at l (statement.Return (Some (joined l
    Add (name l (codes "k")) (number l 1))))) ∷ []

-- its tree
abbrev tree : ℕ → Top
tree l =
    u.function l (Some Int) (codes "print.x") (u.parameter (l, Some (codes "n")) ULong sizes.Scalar ∷ []) (Some
    (s.at l (statement.Compound (code l))))

-- which its tokens spell, whatever stands behind them
spelled : (l : ℕ) (t : Tokens)
    → Units (within most_nesting) (item (tree l ∷ [])) (map (token l) hexadecimal_tokens ++ t) t
spelled l t =
    u.a_function (u.typed types.int) (u.definition (u.some_params (u.last_param (u.param_is types.unsigned_long
    u.labelled u.no_brackets))) (s.go (s.entry_local refl (s.declaration types.int (s.last_decl (s.value (lift 1
    (e.choice (lift 6 (e.join {a = (name l (codes "n"))} (op Less) (lift 7 e.name) (lift 6 e.number))) refl
    (lift 16 e.number) (lift 14 (e.call refl (e.some (e.last (lift 9 (e.join {a = (name l (codes "n"))} (op
    ShiftRight) (lift 6 e.name) (lift 5 e.number))))))))))))) (s.go (s.entry_local refl (s.declaration types.int
    (s.last_decl (s.value (lift 6 (e.join {a = (name l (codes "n"))} (op BitAnd) (lift 9 e.name) (lift 8
    e.number))))))) (s.go (s.entry_stmt (s.inner_is refl (s.plain (lift 16 (e.call refl (e.some (e.last (lift 1
    (e.choice (lift 6 (e.join {a = (name l (codes "d"))} (op Less) (lift 7 e.name) (lift 6 e.number))) refl
    (lift 11 (e.join {a = (number l 48)} (op Add) (lift 5 e.number) (lift 4 e.name))) (lift 9 (e.join {a =
    (joined l Subtract (number l 97) (number l 10))} (op Add) (e.join {a = (number l 97)} (op Subtract) (lift 5
    e.number) (lift 4 e.number)) (lift 4 e.name)))))))))))) (s.go (s.entry_stmt (s.inner_is refl (s.return
    (s.given semicolon (lift 11 (e.join {a = (name l (codes "k"))} (op Add) (lift 5 e.name) (lift 4
    e.number))))))) s.stop)))))

-- the typed function
abbrev made : ℕ → ℕ → TypedFunc
made l f = printers.hexadecimal_printer (λ j. l) f

-- the state behind its statements
abbrev behind : ℕ → ℕ → Frame → State
behind l f names = record {
  names = (bound (codes "d") (meaning.Scalar Int (place.Scalar 2)) ∷ bound (codes "k") (meaning.Scalar Int
      (place.Scalar 1)) ∷ bound (codes "n") (meaning.Scalar ULong (place.Scalar 0)) ∷ []) ∷ (defined (codes
      "print.x") (slot.Scalar ULong ∷ []) f names) ∷ [];
  scalars = (slot.Scalar ULong ∷ slot.Scalar Int ∷ slot.Scalar Int ∷ []);
  arrays = [];
  result = Some Int;
}

-- its scope, tree and typing
pub hexadecimal_typed : (l f : ℕ) → IsTyped hexadecimal_tokens (codes "print.x") (slot.Scalar ULong ∷ [])
    (with_putchar ∷ []) (codes "n" ∷ codes "k" ∷ codes "d" ∷ []) l f (made l f)
hexadecimal_typed l f = record {
  item_of = tree l;
  spelled = spelled l;
  typed = λ unit names globals bytes functions calls new means free.
      un.definition {v = behind l f names} calls (
        (un.one_param (un.no_row_size refl) (un.named refl free.0) (omega arith) un.no_param),
        subst (λ (m : Option Meaning). un.Agrees true (Some Int)
            (slot.Scalar ULong ∷ []) m) (sym new) un.fresh,
      ) (un.outermost
      (st.one_more (st.scalar_declared free.1.0 (omega arith) (st.with_value (
        (ty.either (ty.operation
            (ty.scalar refl refl) (ty.number refl) refl) (ty.number refl) (ty.call refl (ty.value (ty.operation
            (ty.scalar refl refl) (ty.number refl) refl) ty.none) refl) refl),
        fits (chosen l (joined l Less (name l
            (codes "n")) (number l 16)) (number l 0) (called l (codes "print.x") ((joined l ShiftRight (name l (codes
            "n")) (number l 4)) ∷ []))) _ (need_choice l (joined l Less (name l (codes "n")) (number l 16)) (number l
            0) (called l (codes "print.x") ((joined l ShiftRight (name l (codes "n")) (number l 4)) ∷ [])) _ _ _
            (need_binary l Less (name l (codes "n")) (number l 16) _ _ (need_name l (codes "n")) (need_number l 16))
            (need_number l 0) (need_call l (codes "print.x") (joined l ShiftRight (name l (codes "n")) (number l 4)) _
            (need_binary l ShiftRight (name l (codes "n")) (number l 4) _ _ (need_name l (codes "n")) (need_number l
            4)))) refl,
      ))) (st.one_more (st.scalar_declared free.1.1.0 (omega arith) (st.with_value (
        (ty.operation
            (ty.scalar refl refl) (ty.number refl) refl),
        fits (joined l BitAnd (name l (codes "n")) (number l 15)) _
            (need_binary l BitAnd (name l (codes "n")) (number l 15) _ _ (need_name l (codes "n")) (need_number l 15))
            refl,
      ))) (st.one_more (st.expression (st.present (
        (ty.call means.0 (ty.value (ty.either (ty.operation
            (ty.scalar refl refl) (ty.number refl) refl) (ty.operation (ty.number refl) (ty.scalar refl refl) refl)
            (ty.operation (ty.operation (ty.number refl) (ty.number refl) refl) (ty.scalar refl refl) refl) refl)
            ty.none) refl),
        fits (called l (codes "putchar") ((chosen l (joined l Less (name l (codes "d")) (number l
            10)) (joined l Add (number l 48) (name l (codes "d"))) (joined l Add (joined l Subtract (number l 97)
            (number l 10)) (name l (codes "d")))) ∷ [])) _ (need_call l (codes "putchar") (chosen l (joined l Less
            (name l (codes "d")) (number l 10)) (joined l Add (number l 48) (name l (codes "d"))) (joined l Add
            (joined l Subtract (number l 97) (number l 10)) (name l (codes "d")))) _ (need_choice l (joined l Less
            (name l (codes "d")) (number l 10)) (joined l Add (number l 48) (name l (codes "d"))) (joined l Add
            (joined l Subtract (number l 97) (number l 10)) (name l (codes "d"))) _ _ _ (need_binary l Less (name l
            (codes "d")) (number l 10) _ _ (need_name l (codes "d")) (need_number l 10)) (need_binary l Add (number l
            48) (name l (codes "d")) _ _ (need_number l 48) (need_name l (codes "d"))) (need_binary l Add (joined l
            Subtract (number l 97) (number l 10)) (name l (codes "d")) _ _ (need_binary l Subtract (number l 97)
            (number l 10) _ _ (need_number l 97) (need_number l 10)) (need_name l (codes "d"))))) refl,
      ))) (st.one_more
      (st.returns_value refl (
        (ty.operation (ty.scalar refl refl) (ty.number refl) refl),
        fits (joined l Add
            (name l (codes "k")) (number l 1)) _ (need_binary l Add (name l (codes "k")) (number l 1) _ _ (need_name l
            (codes "k")) (need_number l 1)) refl,
      )) st.no_more)))));
}
