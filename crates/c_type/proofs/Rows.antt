-- The words of all values are those of their rows.
use Rattle.std.proofs.Common.{◌≡◌, ℕ, ◌+◌, ◌-◌, ◌*◌, ◌/◌, ◌<◌, false, arith, List, [], ◌∷◌, ◌++◌, map, length, take}
use Rattle.std.proofs.Common.{drop, refl}
use Rattle.std.proofs.Common.{sym, ap, ◌∙◌, suc, Some, None, append_assoc, get_or}
use Rattle.std.proofs.Math.Seq.{drop-cons}
use Rattle.std.specs.Prelude.{replicate, nat_le}
use Rattle.std.proofs.lemmas.Bool.Decides.{nat_tests}
use Rattle.c_tree.specs.declared.token.Kind.{Kind}
use Rattle.c_tree.specs.declared.token.Kind.TheVariants.{Char, UChar, Short, UShort, Int, UInt}
use Rattle.c_tree.specs.declared.token.Kind.TheVariants.{Long, ULong}
use Rattle.c_tree.specs.declared.token.Kind.TheVariants as kind
use Rattle.c_tree.specs.declared.tree.ArraySize.{ArraySize}
use Rattle.c_tree.specs.declared.tree.ArraySize.TheVariants as size
use Rattle.c_tree.specs.declared.tree.Expr.{Expr}
use Rattle.c_type_expr.specs.Scope.{Scope}
use Rattle.c_type_expr.specs.Blames.{Blame, first}
use Rattle.c_type_expr.specs.Constants.{full_constant, constant_at}
use Rattle.c_constant.specs.Kinds.{bytes}
use Rattle.c_type.specs.States.{row_if, row_in}
use Rattle.c_type.specs.Units.{rows_words, row_length}
use Rattle.c_type.specs.inside.Units.{values_fault, filled_rows}
use Rattle.c_type.specs.FileScopes.{all_values}

-- which of three faults is first
pub assoc : (a b c : Blame) → first (first a b) c ≡ first a (first b c)
assoc None b c = refl
assoc (Some f) b c = refl

-- the first fault of two lists of values
pub values_append : (xs ys : List Expr) (G : Scope)
    → values_fault (xs ++ ys) G ≡ first (values_fault xs G) (values_fault ys G)
values_append [] ys G = refl
values_append (e ∷ es) ys G =
    ap (λ b. first (full_constant e G) b) (values_append es ys G)
    ∙ sym (assoc (full_constant e G) (values_fault es G) (values_fault ys G))

pub ruleset on_values = (values_append)

-- the item of a list that is next, and those behind it
pub item_of : {A : Type 0} → (xs : List A) (i : ℕ) (x : A) → i < length xs → x ≡ get_or xs i x
    → drop i xs ≡ x ∷ drop (i + 1) xs
item_of xs i x h e =
    let n : i + 1 ≡ suc i = omega arith in
    drop-cons xs i x h ∙ ap (λ n. get_or xs i x ∷ drop n xs) (sym n) ∙ ap (λ y. y ∷ drop (i + 1) xs) (sym e)

module _ (A B : Type 0) (f : A → B) where
  front : (xs : List A) (ys : List B) → take (length xs) (map f xs ++ ys) ≡ map f xs
  front [] ys = refl
  front (x ∷ xs) ys = ap (λ zs. f x ∷ zs) (front xs ys)

  back : (xs : List A) (ys : List B) → drop (length xs) (map f xs ++ ys) ≡ ys
  back [] ys = refl
  back (x ∷ xs) ys = back xs ys

  mapped : (xs ys : List A) → map f (xs ++ ys) ≡ map f xs ++ map f ys
  mapped [] ys = refl
  mapped (x ∷ xs) ys = ap (λ zs. f x ∷ zs) (mapped xs ys)

-- the words of one list more
pub words_on : (k : Kind) (all rest : List (List Expr)) (es : List Expr) (found : List ℕ)
    → map (constant_at k) (all_values all) ≡ found ++ map (constant_at k) (all_values (es ∷ rest))
    → map (constant_at k) (all_values all)
    ≡ (found ++ map (constant_at k) es) ++ map (constant_at k) (all_values rest)
words_on k all rest es found e =
    let f = constant_at k in
    e ∙ ap (λ ws. found ++ ws) (mapped _ _ f es (all_values rest))
    ∙ sym (append_assoc found (map f es) (map f (all_values rest)))

-- the rows that are filled from the words of all values are the words of rows
pub filled : (k : Kind) (n : ℕ) (ess : List (List Expr))
    → filled_rows n ess (map (constant_at k) (all_values ess)) ≡ rows_words k n ess
filled k n [] = refl
filled k n (es ∷ ess) =
    let f = constant_at k in
    let zeros = replicate (n - length es) 0 in
    let rest = map f (all_values ess) in
    ap (λ ws. filled_rows n (es ∷ ess) ws) (mapped _ _ f es (all_values ess))
    ∙ ap (λ ws. (ws ++ zeros) ++ filled_rows n ess (drop (length es) (map f es ++ rest))) (front _ _ f es rest)
    ∙ ap (λ ws. (map f es ++ zeros) ++ filled_rows n ess ws) (back _ _ f es rest)
    ∙ ap (λ ws. (map f es ++ zeros) ++ ws) (filled k n ess)

-- as many words as values
pub as_many : (k : Kind) (es : List Expr) → length (map (constant_at k) es) ≡ length es
as_many k [] = refl
as_many k (e ∷ es) = ap suc (as_many k es)

pub ruleset on_rows = (filled, as_many)

-- the second size of an array of rows of that length
pub row_known : (s : ArraySize) (init : List (List Expr)) → row_if s (row_length s init) ≡ row_in s
row_known size.Scalar init = refl
row_known size.Open init = refl
row_known (size.Sized e) init = refl
row_known (size.Rows o e) init = refl

pub ruleset on_global = (row_known)

-- more elements than 64 bits count have too many bytes
pub too_many : (k : Kind) (p b : ℕ) → 18446744073709551615 < p → nat_le (p * bytes k + b) 1048576 ≡ false
too_many Char p b h = grind (arith, nat_tests)
too_many UChar p b h = grind (arith, nat_tests)
too_many Short p b h = grind (arith, nat_tests)
too_many UShort p b h = grind (arith, nat_tests)
too_many Int p b h = grind (arith, nat_tests)
too_many UInt p b h = grind (arith, nat_tests)
too_many Long p b h = grind (arith, nat_tests)
too_many ULong p b h = grind (arith, nat_tests)
too_many kind.Bool p b h = grind (arith, nat_tests)

-- so many elements are within an object's bytes exactly where they are at most the quotient
pub as_quotient : (k : Kind) (n : ℕ) → nat_le n (1048576 / bytes k) ≡ nat_le (n * bytes k) 1048576
as_quotient Char n = grind (arith, nat_tests)
as_quotient UChar n = grind (arith, nat_tests)
as_quotient Short n = grind (arith, nat_tests)
as_quotient UShort n = grind (arith, nat_tests)
as_quotient Int n = grind (arith, nat_tests)
as_quotient UInt n = grind (arith, nat_tests)
as_quotient Long n = grind (arith, nat_tests)
as_quotient ULong n = grind (arith, nat_tests)
as_quotient kind.Bool n = grind (arith, nat_tests)
