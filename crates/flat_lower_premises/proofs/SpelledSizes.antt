-- What tokens spell has no more nodes than there are tokens.
use Rattle.std.proofs.Common.{◌≡◌, ℕ, ◌+◌, ◌≤◌, length, Option, Some, None}
use Rattle.std.proofs.Common.{arith}
use Rattle.c_tree.specs.declared.token.Kind.{Kind}
use Rattle.c_tree.specs.declared.tree.BumpOp.TheVariants as bump
use Rattle.c_tree.specs.declared.tree.Expr.{Expr}
use Rattle.c_grammar.specs.Tokens.{Tokens, May}
use Rattle.c_grammar.specs.Types.{Types, bool, char, signed_char, unsigned_char, int, signed, signed_int}
use Rattle.c_grammar.specs.Types.{unsigned, unsigned_int, long, long_int, signed_long}
use Rattle.c_grammar.specs.Types.{signed_long_int, unsigned_long, unsigned_long_int}
use Rattle.c_grammar.specs.Types.{short, short_int, signed_short, signed_short_int, unsigned_short}
use Rattle.c_grammar.specs.Types.{unsigned_short_int}
use Rattle.c_grammar.specs.Operators.{Joiner, op, comma, joined, Prefix, sign, increase, decrease}
use Rattle.c_grammar.specs.Operators.{prefixed, Suffix, increased, decreased, suffixed}
use Rattle.c_grammar.specs.Operators.{assigner_op}
use Rattle.c_grammar.specs.Expressions as e
use Rattle.c_grammar.specs.Expressions.{Spells}
use Rattle.c_grammar.specs.Statements as s
use Rattle.c_grammar.specs.Statements.{Writes}
use Rattle.c_grammar.specs.Units as u
use Rattle.c_grammar.specs.Units.{Units}
use Rattle.flat_lower_premises.specs.inside.Nodes.{expr_nodes, exprs_nodes, expr_if_nodes, stmt_nodes, first_nodes}
use Rattle.flat_lower_premises.specs.inside.Nodes.{stmts_nodes, section_nodes, sections_nodes, top_nodes, unit_nodes}
use Rattle.flat_lower_premises.specs.inside.Sizes.{UnitsAreSmall}
use Rattle.flat_lower_premises.proofs.TreeSizes.{nodes-Number, nodes-Name, nodes-Element, nodes-Call, nodes-Group}
use Rattle.flat_lower_premises.proofs.TreeSizes.{nodes-Unary, nodes-Cast, nodes-Bump, nodes-Binary, nodes-Choice}
use Rattle.flat_lower_premises.proofs.TreeSizes.{nodes-Assign, nodes-Comma, nodes-Declare, nodes-Plain}
use Rattle.flat_lower_premises.proofs.TreeSizes.{nodes-Compound, nodes-If, nodes-While, nodes-Do, nodes-For}
use Rattle.flat_lower_premises.proofs.TreeSizes.{nodes-Switch, nodes-section}
use Rattle.flat_lower_premises.proofs.TreeSizes.{nodes-Break, nodes-Continue, nodes-Return, nodes-Nothing}
use Rattle.flat_lower_premises.proofs.TreeSizes.{nodes-First, nodes-Locals, stmts_append, units_append}

-- EXPRESSIONS

abbrev phrase_nodes : e.Phrase → ℕ
phrase_nodes (e.expr n x) = expr_nodes x
phrase_nodes (e.args es) = 1 + exprs_nodes es
phrase_nodes (e.arg_list es) = 1 + exprs_nodes es

types_few : {l : ℕ} {k : Kind} {f t : Tokens} → Types l k f t → 1 + length t ≤ length f
types_few bool = omega arith
types_few char = omega arith
types_few signed_char = omega arith
types_few unsigned_char = omega arith
types_few int = omega arith
types_few signed = omega arith
types_few signed_int = omega arith
types_few unsigned = omega arith
types_few unsigned_int = omega arith
types_few short = omega arith
types_few short_int = omega arith
types_few signed_short = omega arith
types_few signed_short_int = omega arith
types_few unsigned_short = omega arith
types_few unsigned_short_int = omega arith
types_few long = omega arith
types_few long_int = omega arith
types_few signed_long = omega arith
types_few signed_long_int = omega arith
types_few unsigned_long = omega arith
types_few unsigned_long_int = omega arith

joined_few : (k : ℕ) (j : Joiner) (a b : Expr)
    → expr_nodes (joined k j a b) ≡ 1 + (expr_nodes a + expr_nodes b)
joined_few k (op o) a b = nodes-Binary a.offset k o a b
joined_few k comma a b = nodes-Comma a.offset k a b

prefixed_few : (l : ℕ) (p : Prefix) (x : Expr) → expr_nodes (prefixed l p x) ≡ 1 + expr_nodes x
prefixed_few l (sign o) x = nodes-Unary l l o x
prefixed_few l increase x = nodes-Bump l l bump.PreInc x
prefixed_few l decrease x = nodes-Bump l l bump.PreDec x

suffixed_few : (k : ℕ) (p : Suffix) (x : Expr) → expr_nodes (suffixed k p x) ≡ 1 + expr_nodes x
suffixed_few k increased x = nodes-Bump x.offset k bump.PostInc x
suffixed_few k decreased x = nodes-Bump x.offset k bump.PostDec x

pub spells_few : {may : May} {p : e.Phrase} {d : ℕ} {f t : Tokens} → Spells may p d f t
    → phrase_nodes p + length t ≤ length f
spells_few (e.number {l = l} {v = v} {k = k}) = let n = nodes-Number l l v k in omega arith
spells_few (e.name {l = l} {w = w}) = let n = nodes-Name l l w in omega arith
spells_few (e.group {l = l} {e = a} ok x) =
    let h = spells_few x in let n = nodes-Group l l a in omega arith
spells_few (e.element {l = l} {w = w} {e = a} ok x) =
    let h = spells_few x in let n = nodes-Element l l w None a in omega arith
spells_few (e.row_element {l = l} {w = w} {r = r} {e = a} ok x ok' y) =
    let h = spells_few x in let i = spells_few y in let n = nodes-Element l l w (Some r) a in omega arith
spells_few (e.call {l = l} {w = w} {es = es} ok x) =
    let h = spells_few x in let n = nodes-Call l l w es in omega arith
spells_few e.none = omega arith
spells_few (e.some x) = spells_few x
spells_few (e.last x) = let h = spells_few x in omega arith
spells_few (e.next x y) = let h = spells_few x in let i = spells_few y in omega arith
spells_few (e.suffix {k = k} {e = a} p x) =
    let h = spells_few x in let n = suffixed_few k p a in omega arith
spells_few (e.prefix {l = l} {e = a} p ok x) =
    let h = spells_few x in let n = prefixed_few l p a in omega arith
spells_few (e.cast {l = l} {c = c} {e = a} ok x y) =
    let h = types_few x in let i = spells_few y in let n = nodes-Cast l l c a in omega arith
spells_few (e.join {k = k} {a = a} {b = b} j x y) =
    let h = spells_few x in let i = spells_few y in let n = joined_few k j a b in omega arith
spells_few (e.choice {k = k} {a = a} {b = b} {c = c} x ok y z) =
    let h = spells_few x in let i = spells_few y in let j = spells_few z in
    let n = nodes-Choice a.offset k a b c in omega arith
spells_few (e.assign {k = k} {a = a} {b = b} p x ok y) =
    let h = spells_few x in let i = spells_few y in
    let n = nodes-Assign a.offset k (assigner_op p) a b in omega arith
spells_few (e.up x) = spells_few x

-- STATEMENTS

abbrev written_nodes : s.Phrase → ℕ
written_nodes (s.until c o) = expr_if_nodes o
written_nodes (s.test x) = expr_nodes x
written_nodes (s.shape a) = expr_if_nodes a.1
written_nodes (s.decls k ss) = stmts_nodes ss
written_nodes (s.locals ss) = stmts_nodes ss
written_nodes (s.stmt b x) = stmt_nodes x
written_nodes (s.inner b x) = stmt_nodes x
written_nodes (s.entry ss) = stmts_nodes ss
written_nodes (s.init i) = first_nodes i
written_nodes (s.entries ss) = stmts_nodes ss
written_nodes (s.label x) = 2
written_nodes (s.labels ls) = 1 + length ls
written_nodes (s.body ss) = stmts_nodes ss
written_nodes (s.section x) = section_nodes x
written_nodes (s.sections xs) = sections_nodes xs

for_init_few : (o : Option Expr) → first_nodes (s.for_init o) ≡ expr_if_nodes o
for_init_few None = nodes-Nothing
for_init_few (Some a) = nodes-First a

pub writes_few : {may : May} {p : s.Phrase} {d : ℕ} {f t : Tokens} → Writes may p d f t
    → written_nodes p + length t ≤ length f
writes_few (s.absent c) = omega arith
writes_few (s.given c x) = let h = spells_few x in omega arith
writes_few (s.tested x) = let h = spells_few x in omega arith
writes_few s.bare = omega arith
writes_few (s.value x) = let h = spells_few x in omega arith
writes_few (s.array x) = let h = spells_few x in omega arith
writes_few (s.rows x y) = let h = spells_few x in let i = spells_few y in omega arith
writes_few (s.last_decl {l = l} {k = k} {w = w} {s = a} x) =
    let h = writes_few x in let n = nodes-Declare l k w a.0 a.1 in omega arith
writes_few (s.next_decl {l = l} {k = k} {w = w} {s = a} x y) =
    let h = writes_few x in let i = writes_few y in
    let n = nodes-Declare l k w a.0 a.1 in omega arith
writes_few (s.declaration x y) = let h = types_few x in let i = writes_few y in omega arith
writes_few (s.inner_is ok x) = writes_few x
writes_few (s.entry_stmt x) = let h = writes_few x in omega arith
writes_few (s.entry_local ok x) = writes_few x
writes_few s.stop = omega arith
writes_few (s.go {ss = ss} {rest = rest} x y) =
    let h = writes_few x in let i = writes_few y in let n = stmts_append ss rest in omega arith
writes_few (s.compound {l = l} {ss = ss} x) =
    let h = writes_few x in let n = nodes-Compound l ss in omega arith
writes_few (s.empty {l = l}) = let n = nodes-Plain l None in omega arith
writes_few (s.plain {e = a} x) =
    let h = spells_few x in let n = nodes-Plain a.offset (Some a) in omega arith
writes_few (s.if_only {l = l} {c = c} {aye = aye} x y) =
    let h = writes_few x in let i = writes_few y in let n = nodes-If l c aye None in omega arith
writes_few (s.if_else {l = l} {c = c} {aye = aye} {nay = nay} x y z) =
    let h = writes_few x in let i = writes_few y in let j = writes_few z in
    let n = nodes-If l c aye (Some nay) in omega arith
writes_few (s.a_case x) = let h = spells_few x in omega arith
writes_few s.a_default = omega arith
writes_few (s.last_label x) = let h = writes_few x in omega arith
writes_few (s.next_label x y) = let h = writes_few x in let i = writes_few y in omega arith
writes_few (s.last_stmt x) = let h = writes_few x in omega arith
writes_few (s.next_stmt x y) = let h = writes_few x in let i = writes_few y in omega arith
writes_few (s.section_is {ls = ls} {ss = ss} x y) =
    let h = writes_few x in let i = writes_few y in let n = nodes-section ls ss in omega arith
writes_few s.no_section = omega arith
writes_few (s.next_section x y) = let h = writes_few x in let i = writes_few y in omega arith
writes_few (s.switch {l = l} {c = c} {xs = xs} x y) =
    let h = writes_few x in let i = writes_few y in let n = nodes-Switch l c xs in omega arith
writes_few (s.while {l = l} {c = c} {s = b} x y) =
    let h = writes_few x in let i = writes_few y in let n = nodes-While l c b in omega arith
writes_few (s.repeat {l = l} {c = c} {s = b} x y) =
    let h = writes_few x in let i = writes_few y in let n = nodes-Do l b c in omega arith
writes_few (s.init_local {ss = ss} ok x) =
    let h = writes_few x in let n = nodes-Locals ss in omega arith
writes_few (s.init_plain {o = o} x) =
    let h = writes_few x in let n = for_init_few o in omega arith
writes_few (s.for {l = l} {i = i} {s = b} {o = o} {o' = o'} x y z w) =
    let h = writes_few x in let j = writes_few y in let k = writes_few z in
    let m = writes_few w in let n = nodes-For l i o o' b in omega arith
writes_few (s.break {l = l}) = let n = nodes-Break l in omega arith
writes_few (s.continue {l = l}) = let n = nodes-Continue l in omega arith
writes_few (s.return {l = l} {o = o} x) =
    let h = writes_few x in let n = nodes-Return l o in omega arith

-- UNITS

abbrev part_nodes : u.Phrase → ℕ
part_nodes (u.func r x) = top_nodes x.node
part_nodes (u.globals k gs) = unit_nodes gs
part_nodes (u.item xs) = unit_nodes xs
part_nodes (u.unit xs) = unit_nodes xs
part_nodes _ = 0

pub units_few : {may : May} {p : u.Phrase} {f t : Tokens} → Units may p f t
    → part_nodes p + length t ≤ length f
units_few u.no_size = omega arith
units_few (u.some_size x) = let h = spells_few x in omega arith
units_few (u.last_value x) = let h = spells_few x in omega arith
units_few (u.last_comma x) = let h = spells_few x in omega arith
units_few (u.next_value x y) = let h = spells_few x in let i = units_few y in omega arith
units_few (u.last_row x) = let h = units_few x in omega arith
units_few (u.last_row_comma x) = let h = units_few x in omega arith
units_few (u.next_row x y) = let h = units_few x in let i = units_few y in omega arith
units_few u.bare = omega arith
units_few (u.valued x) = let h = spells_few x in omega arith
units_few (u.sized x) = let h = units_few x in omega arith
units_few (u.filled x y) = let h = units_few x in let i = units_few y in omega arith
units_few (u.rows_sized x y) = let h = units_few x in let i = spells_few y in omega arith
units_few (u.rows_filled x y z) =
    let h = units_few x in let i = spells_few y in let j = units_few z in omega arith
units_few (u.last_global x) = let h = units_few x in omega arith
units_few (u.next_global x y) = let h = units_few x in let i = units_few y in omega arith
units_few u.unlabelled = omega arith
units_few u.labelled = omega arith
units_few u.no_brackets = omega arith
units_few (u.some_brackets x) = let h = units_few x in omega arith
units_few (u.two_brackets x y) = let h = units_few x in let i = spells_few y in omega arith
units_few (u.param_is x y z) =
    let h = types_few x in let i = units_few y in let j = units_few z in omega arith
units_few u.no_params = omega arith
units_few u.void_params = omega arith
units_few (u.some_params x) = units_few x
units_few (u.last_param x) = let h = units_few x in omega arith
units_few (u.next_param x y) = let h = units_few x in let i = units_few y in omega arith
units_few u.void = omega arith
units_few (u.typed x) = let h = types_few x in omega arith
units_few (u.prototype x) = let h = units_few x in omega arith
units_few (u.definition {k' = k'} {ss = ss} x y) =
    let h = units_few x in let i = writes_few y in let n = nodes-Compound k' ss in omega arith
units_few u.include = omega arith
units_few (u.a_function x y) = let h = units_few x in let i = units_few y in omega arith
units_few (u.some_globals x y) = let h = types_few x in let i = units_few y in omega arith
units_few (u.last_item x) = units_few x
units_few (u.next_item {xs = xs} {ys = ys} x y) =
    let h = units_few x in let i = units_few y in let n = units_append xs ys in omega arith

-- A unit is no larger than its tokens allow.
pub units_small : UnitsAreSmall
units_small ts xs h = let n = units_few h in omega arith
