-- Items and globals are no more than the tokens that spell them.
use Rattle.std.proofs.Common.{◌+◌, ◌≤◌, List, [], ◌∷◌, ◌++◌, length}
use Rattle.std.proofs.Common.{arith, length-append}
use Rattle.c_tree.specs.declared.tree.Program.{Program}
use Rattle.c_tree.specs.declared.tree.Top.{Top}
use Rattle.c_tree.specs.declared.tree.TopNode.{TopNode}
use Rattle.c_tree.specs.declared.typed.TypedGlobal.{TypedGlobal}
use Rattle.c_tree.specs.declared.typed.TypedProgram.{TypedProgram}
use Rattle.c_type.specs.declared.file_scope.FileScope.{FileScope}
use Rattle.c_type.specs.FileScopes.{empty_file}
use Rattle.c_grammar.specs.Tokens.{Tokens, May, within}
use Rattle.c_grammar.specs.Accepted.{IsUnit, limit}
use Rattle.c_grammar.specs.Units.{Phrase, globals, func, item, unit, Units}
use Rattle.c_grammar.specs.Units as spelled
use Rattle.c_grammar.proofs.Types.{types_shorter}
use Rattle.c_grammar.proofs.Begins.{writes_shorter}
use Rattle.c_grammar.proofs.UnitLengths.{units_shorter}
use Rattle.c_type_rules.specs.Units.{Item, Items, Accepts}
use Rattle.c_type_rules.specs.Units as typing

-- UNITS

abbrev Counts : Phrase → Tokens → Tokens → Type 0
Counts (globals k xs) f t = length xs + length t ≤ length f
Counts (func r x) f t = 1 + length t ≤ length f
Counts (item xs) f t = length xs + length t ≤ length f
Counts (unit xs) f t = length xs + length t ≤ length f
Counts _ f t = Unit {0}

counted : (may : May) (p : Phrase) (f t : Tokens) → Units may p f t → Counts p f t
counted may _ f t (spelled.last_global x) = let h = units_shorter x in omega arith
counted may _ f t (spelled.next_global {k = k} {gs = gs} {m' = m'} x y) =
    let h = units_shorter x in let i = counted may (globals k gs) m' t y in omega arith
counted may _ f t (spelled.prototype x) = let h = units_shorter x in omega arith
counted may _ f t (spelled.definition x y) =
    let h = units_shorter x in let i = writes_shorter y in omega arith
counted may _ f t spelled.include = omega arith
counted may _ f t (spelled.a_function {r = r} {x = z} {m = m} x y) =
    let h = units_shorter x in let i = counted may (func r z) m t y in omega arith
counted may _ f t (spelled.some_globals {k = k} {gs = gs} {m = m} x y) =
    let h = types_shorter x in let i = counted may (globals k gs) m t y in omega arith
counted may _ f t (spelled.last_item {xs = xs} x) = counted may (item xs) f t x
counted may _ f t (spelled.next_item {xs = xs} {ys = ys} {m = m} x y) =
    let h = counted may (item xs) f m x in let i = counted may (unit ys) m t y in
    let l = length-append xs ys in omega arith
counted may _ f t spelled.no_size = tt
counted may _ f t (spelled.some_size x) = tt
counted may _ f t (spelled.last_value x) = tt
counted may _ f t (spelled.last_comma x) = tt
counted may _ f t (spelled.next_value x y) = tt
counted may _ f t (spelled.last_row x) = tt
counted may _ f t (spelled.last_row_comma x) = tt
counted may _ f t (spelled.next_row x y) = tt
counted may _ f t spelled.bare = tt
counted may _ f t (spelled.valued x) = tt
counted may _ f t (spelled.sized x) = tt
counted may _ f t (spelled.filled x y) = tt
counted may _ f t (spelled.rows_sized x y) = tt
counted may _ f t (spelled.rows_filled x y z) = tt
counted may _ f t spelled.unlabelled = tt
counted may _ f t spelled.labelled = tt
counted may _ f t spelled.no_brackets = tt
counted may _ f t (spelled.some_brackets x) = tt
counted may _ f t (spelled.two_brackets x y) = tt
counted may _ f t (spelled.param_is x y z) = tt
counted may _ f t spelled.no_params = tt
counted may _ f t spelled.void_params = tt
counted may _ f t (spelled.some_params x) = tt
counted may _ f t (spelled.last_param x) = tt
counted may _ f t (spelled.next_param x y) = tt
counted may _ f t spelled.void = tt
counted may _ f t (spelled.typed x) = tt

-- a unit has no more items than tokens
pub items_few : (ts : Tokens) (xs : List Top) → IsUnit ts xs → length xs ≤ length ts
items_few ts xs h = let i = counted (within limit) (unit xs) ts [] h in omega arith

-- PROGRAMS

added : (gs : List TypedGlobal) (g : TypedGlobal) → length (gs ++ g ∷ []) ≤ 1 + length gs
added gs g = let h = length-append gs (g ∷ []) in omega (arith, h)

item_adds : (T : List Top) (U : FileScope) (n : TopNode) (V : FileScope) → Item T U n V
    → length V.globals ≤ 1 + length U.globals
item_adds T U _ _ (typing.include e g p x) = omega arith
item_adds T U _ _ (typing.include_again e) = omega arith
item_adds T U _ _ (typing.global c e b v) = added U.globals _
item_adds T U _ _ (typing.prototype k h) = omega arith
item_adds T U _ _ (typing.definition k h b) = omega arith

items_add : (T : List Top) (U : FileScope) (ts : List Top) (W : FileScope) → Items T U ts W
    → length W.globals ≤ length ts + length U.globals
items_add T U _ _ typing.no_item = omega arith
items_add T U _ W (typing.one_item {V = V} {t = t} {ts = ts} x y) =
    let h = item_adds T U t.node V x in let i = items_add T V ts W y in omega arith

-- a typed program has no more globals than its unit has items
pub globals_few : (p : Program) (t : TypedProgram) → Accepts p t
    → length t.globals ≤ length p.items
globals_few p _ (typing.accepts {U = U} h m) =
    let i = items_add p.items empty_file p.items U h in omega arith
