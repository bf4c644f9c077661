-- The text of `print.digits`: its tokens, its tree, and the typing of it.
use Rattle.std.proofs.Common.{ℕ, true, List, [], ◌∷◌, ◌++◌, map, codes, Option, Some}
use Rattle.std.proofs.Common.{None, refl, sym, subst, arith}
use Rattle.c_tree.specs.Limits.{most_nesting}
use Rattle.c_tree.specs.declared.token.Kind.TheVariants.{Int, ULong}
use Rattle.c_tree.specs.declared.tree.BinaryOp.TheVariants.{Less, Add, Divide, Remainder, Equal}
use Rattle.c_tree.specs.declared.tree.ArraySize.TheVariants as sizes
use Rattle.c_tree.specs.declared.tree.Stmt.{Stmt}
use Rattle.c_tree.specs.declared.tree.StmtNode.TheVariants as statement
use Rattle.c_tree.specs.declared.tree.Top.{Top}
use Rattle.c_tree.specs.declared.typed.Place.TheVariants as place
use Rattle.c_tree.specs.declared.typed.Slot.TheVariants as slot
use Rattle.c_tree.specs.declared.typed.TypedFunc.{TypedFunc}
use Rattle.c_grammar.specs.Tokens.{Tokens, token, within}
use Rattle.c_grammar.specs.Types as types
use Rattle.c_grammar.specs.Operators.{op}
use Rattle.c_grammar.specs.Expressions as e
use Rattle.c_grammar.specs.Statements as s
use Rattle.c_grammar.specs.Statements.{semicolon}
use Rattle.c_grammar.specs.Units as u
use Rattle.c_grammar.specs.Units.{Units, item}
use Rattle.c_type_expr.specs.declared.meaning.Meaning.{Meaning}
use Rattle.c_type_expr.specs.declared.meaning.Meaning.TheVariants as meaning
use Rattle.c_type_expr.specs.Scope.{Frame, bound}
use Rattle.c_type_expr.specs.Typed as ty
use Rattle.c_type.specs.declared.state.State.{State}
use Rattle.c_type_rules.specs.Statements as st
use Rattle.c_type_rules.specs.Statements.{Full, TypesAll}
use Rattle.c_type_rules.specs.Units as un
use Rattle.c_type_rules.specs.Units.{Item}
use Rattle.library_laws.specs.FieldPrinters as fields
use Rattle.library_trees.specs.Tokens.{digits_tokens}
use Rattle.library_trees.specs.Typings.{IsTyped, defined, with_putchar}
use Rattle.library_trees.proofs.Parts.{lift, name, number, joined, called, chosen}
use Rattle.library_trees.proofs.Parts.{need_number, need_name, need_binary, need_call, need_three, need_choice}
use Rattle.library_trees.proofs.Parts.{fits}

-- its statements, all of which stand at one place
abbrev code : ℕ → List Stmt
code l =
    (s.at l (statement.If (joined l Equal (name l (codes "n")) (number l 0)) (s.at l (statement.Return (Some
    (number l 0)))) None)) ∷ (s.declared l Int (codes "k") (
      sizes.Scalar,
      Some (called l (codes "print.digits")
          ((joined l Divide (name l (codes "n")) (name l (codes "base"))) ∷ (name l (codes "base")) ∷ (name l (codes
          "letters")) ∷ [])),
    )) ∷ (s.declared l Int (codes "d") (
      sizes.Scalar,
      Some (joined l Remainder (name l (codes
          "n")) (name l (codes "base"))),
    )) ∷ (s.at l (statement.Plain (Some (called l (codes "putchar") ((chosen l
    (joined l Less (name l (codes "d")) (number l 10)) (joined l Add (number l 48) (name l (codes "d"))) (joined
    l Add (name l (codes "letters")) (name l (codes "d")))) ∷ []))))) ∷ (s.at l (statement.Return (Some (joined
    l Add (name l (codes "k")) (number l 1))))) ∷ []

-- its tree
abbrev tree : ℕ → Top
tree l =
    u.function l (Some Int) (codes "print.digits") (u.parameter (l, Some (codes "n")) ULong sizes.Scalar ∷
    u.parameter (l, Some (codes "base")) Int sizes.Scalar ∷ u.parameter (l, Some (codes "letters")) Int
    sizes.Scalar ∷ []) (Some (s.at l (statement.Compound (code l))))

-- which its tokens spell, whatever stands behind them
spelled : (l : ℕ) (t : Tokens) → Units (within most_nesting) (item (tree l ∷ [])) (map (token l) digits_tokens ++ t) t
spelled l t =
    u.a_function (u.typed types.int) (u.definition (u.some_params (u.next_param (u.param_is types.unsigned_long
    u.labelled u.no_brackets) (u.next_param (u.param_is types.int u.labelled u.no_brackets) (u.last_param
    (u.param_is types.int u.labelled u.no_brackets))))) (s.go (s.entry_stmt (s.inner_is refl (s.if_only
    (s.tested (lift 8 (e.join {a = (name l (codes "n"))} (op Equal) (lift 8 e.name) (lift 7 e.number))))
    (s.inner_is refl (s.return (s.given semicolon (lift 16 e.number))))))) (s.go (s.entry_local refl
    (s.declaration types.int (s.last_decl (s.value (lift 15 (e.call refl (e.some (e.next (lift 11 (e.join {a =
    (name l (codes "n"))} (op Divide) (lift 4 e.name) (lift 3 e.name))) (e.next (lift 15 e.name) (e.last (lift
    15 e.name))))))))))) (s.go (s.entry_local refl (s.declaration types.int (s.last_decl (s.value (lift 11
    (e.join {a = (name l (codes "n"))} (op Remainder) (lift 4 e.name) (lift 3 e.name))))))) (s.go (s.entry_stmt
    (s.inner_is refl (s.plain (lift 16 (e.call refl (e.some (e.last (lift 1 (e.choice (lift 6 (e.join {a = (name
    l (codes "d"))} (op Less) (lift 7 e.name) (lift 6 e.number))) refl (lift 11 (e.join {a = (number l 48)} (op
    Add) (lift 5 e.number) (lift 4 e.name))) (lift 9 (e.join {a = (name l (codes "letters"))} (op Add) (lift 5
    e.name) (lift 4 e.name)))))))))))) (s.go (s.entry_stmt (s.inner_is refl (s.return (s.given semicolon (lift
    11 (e.join {a = (name l (codes "k"))} (op Add) (lift 5 e.name) (lift 4 e.number))))))) s.stop))))))

-- the typed function
abbrev made : ℕ → ℕ → TypedFunc
made l f = fields.digits_printer (λ j. l) f

-- the state behind its statements
abbrev behind : ℕ → ℕ → Frame → State
behind l f names = record {
  names = (bound (codes "d") (meaning.Scalar Int (place.Scalar 4)) ∷ bound (codes "k") (meaning.Scalar Int
      (place.Scalar 3)) ∷ bound (codes "letters") (meaning.Scalar Int (place.Scalar 2)) ∷ bound (codes "base")
      (meaning.Scalar Int (place.Scalar 1)) ∷ bound (codes "n") (meaning.Scalar ULong (place.Scalar 0)) ∷ []) ∷
      (defined (codes "print.digits") (slot.Scalar ULong ∷ slot.Scalar Int ∷ slot.Scalar Int ∷ []) f names) ∷
      [];
  scalars = (slot.Scalar ULong ∷ slot.Scalar Int ∷ slot.Scalar Int ∷ slot.Scalar Int ∷ slot.Scalar Int ∷ []);
  arrays = [];
  result = Some Int;
}

-- its scope, tree and typing
pub digits_typed : (l f : ℕ) → IsTyped digits_tokens (codes "print.digits") (slot.Scalar ULong ∷ slot.Scalar Int ∷
    slot.Scalar Int ∷ []) (with_putchar ∷ []) (codes "n" ∷ codes "base" ∷ codes "letters" ∷ codes "k" ∷ codes
    "d" ∷ []) l f (made l f)
digits_typed l f = record {
  item_of = tree l;
  spelled = spelled l;
  typed = λ unit names globals bytes functions calls new means free.
      un.definition {v = behind l f names} calls (
        (un.one_param (un.no_row_size refl) (un.named refl free.0) (omega arith) (un.one_param (un.no_row_size
            refl) (un.named refl free.1.0) (omega arith) (un.one_param (un.no_row_size refl) (un.named refl
            free.1.1.0) (omega arith) un.no_param))),
        subst (λ (m : Option Meaning). un.Agrees true (Some Int)
            (slot.Scalar ULong ∷ slot.Scalar Int ∷ slot.Scalar Int ∷ []) m) (sym new) un.fresh,
      ) (un.outermost
      (st.one_more (st.either (
        (ty.operation (ty.scalar refl refl) (ty.number refl) refl),
        fits (joined l Equal
            (name l (codes "n")) (number l 0)) _ (need_binary l Equal (name l (codes "n")) (number l 0) _ _ (need_name
            l (codes "n")) (need_number l 0)) refl,
      ) (st.returns_value refl (
        (ty.number refl),
        fits (number l 0) _
            (need_number l 0) refl,
      )) st.without_else) (st.one_more (st.scalar_declared free.1.1.1.0 (omega arith)
      (st.with_value (
        (ty.call refl (ty.value (ty.operation (ty.scalar refl refl) (ty.scalar refl refl) refl)
            (ty.value (ty.scalar refl refl) (ty.value (ty.scalar refl refl) ty.none))) refl),
        fits (called l (codes
            "print.digits") ((joined l Divide (name l (codes "n")) (name l (codes "base"))) ∷ (name l (codes "base"))
            ∷ (name l (codes "letters")) ∷ [])) _ (need_three l (codes "print.digits") (joined l Divide (name l (codes
            "n")) (name l (codes "base"))) (name l (codes "base")) (name l (codes "letters")) _ _ _ (need_binary l
            Divide (name l (codes "n")) (name l (codes "base")) _ _ (need_name l (codes "n")) (need_name l (codes
            "base"))) (need_name l (codes "base")) (need_name l (codes "letters"))) refl,
      ))) (st.one_more
      (st.scalar_declared free.1.1.1.1.0 (omega arith) (st.with_value (
        (ty.operation (ty.scalar refl refl)
            (ty.scalar refl refl) refl),
        fits (joined l Remainder (name l (codes "n")) (name l (codes "base"))) _
            (need_binary l Remainder (name l (codes "n")) (name l (codes "base")) _ _ (need_name l (codes "n"))
            (need_name l (codes "base"))) refl,
      ))) (st.one_more (st.expression (st.present (
        (ty.call means.0 (ty.value
            (ty.either (ty.operation (ty.scalar refl refl) (ty.number refl) refl) (ty.operation (ty.number refl)
            (ty.scalar refl refl) refl) (ty.operation (ty.scalar refl refl) (ty.scalar refl refl) refl) refl) ty.none)
            refl),
        fits (called l (codes "putchar") ((chosen l (joined l Less (name l (codes "d")) (number l 10))
            (joined l Add (number l 48) (name l (codes "d"))) (joined l Add (name l (codes "letters")) (name l (codes
            "d")))) ∷ [])) _ (need_call l (codes "putchar") (chosen l (joined l Less (name l (codes "d")) (number l
            10)) (joined l Add (number l 48) (name l (codes "d"))) (joined l Add (name l (codes "letters")) (name l
            (codes "d")))) _ (need_choice l (joined l Less (name l (codes "d")) (number l 10)) (joined l Add (number l
            48) (name l (codes "d"))) (joined l Add (name l (codes "letters")) (name l (codes "d"))) _ _ _
            (need_binary l Less (name l (codes "d")) (number l 10) _ _ (need_name l (codes "d")) (need_number l 10))
            (need_binary l Add (number l 48) (name l (codes "d")) _ _ (need_number l 48) (need_name l (codes "d")))
            (need_binary l Add (name l (codes "letters")) (name l (codes "d")) _ _ (need_name l (codes "letters"))
            (need_name l (codes "d"))))) refl,
      ))) (st.one_more (st.returns_value refl (
        (ty.operation (ty.scalar refl
            refl) (ty.number refl) refl),
        fits (joined l Add (name l (codes "k")) (number l 1)) _ (need_binary l Add
            (name l (codes "k")) (number l 1) _ _ (need_name l (codes "k")) (need_number l 1)) refl,
      )) st.no_more))))));
}
