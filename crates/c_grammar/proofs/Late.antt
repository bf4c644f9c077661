-- Every opener of a phrase stands before what is left, and none is the last token of a unit.
use Rattle.std.proofs.Common.{◌≡◌, ℕ, suc, ◌<◌, ◌≤◌, true, List, length, arith}
use Rattle.c_tree.specs.declared.tree.Stmt.{Stmt}
use Rattle.c_grammar.specs.Tokens.{Tokens, May}
use Rattle.c_grammar.specs.Expressions.{Spells}
use Rattle.c_grammar.specs.Expressions as e
use Rattle.c_grammar.specs.Statements.{Writes, entries}
use Rattle.c_grammar.specs.Statements as s
use Rattle.c_grammar.specs.Units.{Units}
use Rattle.c_grammar.specs.Units as u
use Rattle.c_grammar.proofs.Types.{types_shorter}
use Rattle.c_grammar.proofs.Levels.{spells_shorter}
use Rattle.c_grammar.proofs.Begins.{writes_shorter}
use Rattle.c_grammar.proofs.UnitLengths.{units_shorter}

-- what one test lets pass that stands before a place, another one does
abbrev pub Passes : May → May → ℕ → Type 0
Passes may may' n = (q : Tokens) (d : ℕ) → n < length q → may q d ≡ true → may' q d ≡ true

pub later : {may may' : May} {n n' : ℕ} → n ≤ n' → Passes may may' n → Passes may may' n'
later {n = n} {n' = n'} le h q d lt e = h q d (omega (arith, le, lt)) e

pub spells_far : {may may' : May} {p : e.Phrase} {d : ℕ} {f t : Tokens} → Passes may may' (length t)
    → Spells may p d f t → Spells may' p d f t
spells_far h e.number = e.number
spells_far h e.name = e.name
spells_far h (e.group ok x) =
    let l = spells_shorter x in e.group (h _ _ (omega arith) ok) (spells_far (later (omega arith) h) x)
spells_far h (e.element ok x) =
    let l = spells_shorter x in e.element (h _ _ (omega arith) ok) (spells_far (later (omega arith) h) x)
spells_far h (e.call ok x) = let l = spells_shorter x in e.call (h _ _ (omega arith) ok) (spells_far h x)
spells_far h (e.row_element ok x ok' y) =
    let l = spells_shorter x in let l' = spells_shorter y in
    e.row_element (h _ _ (omega arith) ok) (spells_far (later (omega arith) h) x) (h _ _ (omega arith) ok')
    (spells_far (later (omega arith) h) y)
spells_far h e.none = e.none
spells_far h (e.some x) = e.some (spells_far h x)
spells_far h (e.last x) = e.last (spells_far (later (omega arith) h) x)
spells_far h (e.next x y) = let l = spells_shorter y in e.next (spells_far (later (omega arith) h) x) (spells_far h y)
spells_far h (e.suffix s x) = e.suffix s (spells_far (later (omega arith) h) x)
spells_far h (e.prefix p ok x) = let l = spells_shorter x in e.prefix p (h _ _ (omega arith) ok) (spells_far h x)
spells_far h (e.cast ok x y) =
    let l = types_shorter x in let l' = spells_shorter y in e.cast (h _ _ (omega arith) ok) x (spells_far h y)
spells_far h (e.join j x y) =
    let l = spells_shorter y in e.join j (spells_far (later (omega arith) h) x) (spells_far h y)
spells_far h (e.choice x ok y z) =
    let l = spells_shorter y in let l' = spells_shorter z in
    e.choice (spells_far (later (omega arith) h) x) (h _ _ (omega arith) ok) (spells_far (later (omega arith) h) y)
    (spells_far h z)
spells_far h (e.assign s x ok y) =
    let l = spells_shorter y in e.assign s (spells_far (later (omega arith) h) x) (h _ _ (omega arith) ok)
    (spells_far h y)
spells_far h (e.up x) = e.up (spells_far h x)

pub writes_far : {may may' : May} {p : s.Phrase} {d : ℕ} {f t : Tokens} → Passes may may' (length t)
    → Writes may p d f t → Writes may' p d f t
writes_far h (s.absent c) = s.absent c
writes_far h (s.given c x) = s.given c (spells_far (later (omega arith) h) x)
writes_far h (s.tested x) = s.tested (spells_far (later (omega arith) h) x)
writes_far h s.bare = s.bare
writes_far h (s.value x) = s.value (spells_far h x)
writes_far h (s.array x) = s.array (spells_far (later (omega arith) h) x)
writes_far h (s.rows x y) =
    let l = spells_shorter y in
    s.rows (spells_far (later (omega arith) h) x) (spells_far (later (omega arith) h) y)
writes_far h (s.last_decl x) = s.last_decl (writes_far (later (omega arith) h) x)
writes_far h (s.next_decl x y) =
    let l = writes_shorter y in s.next_decl (writes_far (later (omega arith) h) x) (writes_far h y)
writes_far h (s.declaration x y) = s.declaration x (writes_far h y)
writes_far h (s.inner_is ok x) = s.inner_is (h _ _ (writes_shorter x) ok) (writes_far h x)
writes_far h (s.entry_stmt x) = s.entry_stmt (writes_far h x)
writes_far h (s.entry_local ok x) = s.entry_local (h _ _ (writes_shorter x) ok) (writes_far h x)
writes_far h s.stop = s.stop
writes_far h (s.go x y) = let l = writes_shorter y in s.go (writes_far (later (omega arith) h) x) (writes_far h y)
writes_far h (s.compound x) = s.compound (writes_far h x)
writes_far h s.empty = s.empty
writes_far h (s.plain x) = s.plain (spells_far (later (omega arith) h) x)
writes_far h (s.if_only c x) =
    let l = writes_shorter x in s.if_only (writes_far (later (omega arith) h) c) (writes_far h x)
writes_far h (s.if_else c x y) =
    let l = writes_shorter x in let l' = writes_shorter y in
    s.if_else (writes_far (later (omega arith) h) c) (writes_far (later (omega arith) h) x) (writes_far h y)
writes_far h (s.a_case x) = s.a_case (spells_far (later (omega arith) h) x)
writes_far h s.a_default = s.a_default
writes_far h (s.last_label x) = s.last_label (writes_far h x)
writes_far h (s.next_label x y) =
    let l = writes_shorter y in s.next_label (writes_far (later (omega arith) h) x) (writes_far h y)
writes_far h (s.last_stmt x) = s.last_stmt (writes_far h x)
writes_far h (s.next_stmt x y) =
    let l = writes_shorter y in s.next_stmt (writes_far (later (omega arith) h) x) (writes_far h y)
writes_far h (s.section_is x y) =
    let l = writes_shorter y in s.section_is (writes_far (later (omega arith) h) x) (writes_far h y)
writes_far h s.no_section = s.no_section
writes_far h (s.next_section x y) =
    let l = writes_shorter y in s.next_section (writes_far (later (omega arith) h) x) (writes_far h y)
writes_far h (s.switch c x) =
    let l = writes_shorter x in s.switch (writes_far (later (omega arith) h) c) (writes_far h x)
writes_far h (s.while c x) = let l = writes_shorter x in
    s.while (writes_far (later (omega arith) h) c) (writes_far h x)
writes_far h (s.repeat x c) =
    let l = writes_shorter c in s.repeat (writes_far (later (omega arith) h) x) (writes_far (later (omega arith) h) c)
writes_far h (s.init_local ok x) = s.init_local (h _ _ (writes_shorter x) ok) (writes_far h x)
writes_far h (s.init_plain x) = s.init_plain (writes_far h x)
writes_far h (s.for i o o' x) =
    let l = writes_shorter x in let l' = writes_shorter o' in let l'' = writes_shorter o in
    s.for (writes_far (later (omega arith) h) i) (writes_far (later (omega arith) h) o)
    (writes_far (later (omega arith) h) o') (writes_far h x)
writes_far h s.break = s.break
writes_far h s.continue = s.continue
writes_far h (s.return x) = s.return (writes_far h x)

-- an entry of a list is never the last thing: a brace is
entries_far : {may may' : May} {ss : List Stmt} {d : ℕ} {f t : Tokens}
    → Passes may may' (suc (length t)) → Writes may (entries ss) d f t
    → Writes may' (entries ss) d f t
entries_far h s.stop = s.stop
entries_far h (s.go x y) = let l = writes_shorter y in s.go (writes_far (later (omega arith) h) x) (entries_far h y)

-- only the value behind the name of a global may end in an opener's inside
abbrev Needs : u.Phrase → Tokens → ℕ
Needs (u.shape s) t = length t
Needs _ t = suc (length t)

-- a phrase of a unit is spelled by another test as well, which lets pass what stands far enough before the end
pub units_far : {may may' : May} {p : u.Phrase} {f t : Tokens} → Passes may may' (Needs p t)
    → Units may p f t → Units may' p f t
units_far h u.no_size = u.no_size
units_far h (u.some_size x) = u.some_size (spells_far (later (omega arith) h) x)
units_far h (u.last_value x) = u.last_value (spells_far (later (omega arith) h) x)
units_far h (u.last_comma x) = u.last_comma (spells_far (later (omega arith) h) x)
units_far h (u.next_value x y) =
    let l = units_shorter y in u.next_value (spells_far (later (omega arith) h) x) (units_far h y)
units_far h (u.last_row x) = u.last_row (units_far (later (omega arith) h) x)
units_far h (u.last_row_comma x) = u.last_row_comma (units_far (later (omega arith) h) x)
units_far h (u.next_row x y) =
    let l = units_shorter y in u.next_row (units_far (later (omega arith) h) x) (units_far h y)
units_far h u.bare = u.bare
units_far h (u.valued x) = u.valued (spells_far h x)
units_far h (u.sized x) = u.sized (units_far (later (omega arith) h) x)
units_far h (u.rows_sized x y) =
    let l = spells_shorter y in u.rows_sized (units_far (later (omega arith) h) x)
    (spells_far (later (omega arith) h) y)
units_far h (u.filled x y) =
    let l = units_shorter y in u.filled (units_far (later (omega arith) h) x) (units_far (later (omega arith) h) y)
units_far h (u.rows_filled x y z) =
    let l = spells_shorter y in let l' = units_shorter z in
    u.rows_filled (units_far (later (omega arith) h) x) (spells_far (later (omega arith) h) y)
    (units_far (later (omega arith) h) z)
units_far h (u.last_global x) = u.last_global (units_far (later (omega arith) h) x)
units_far h (u.next_global x y) =
    let l = units_shorter y in u.next_global (units_far (later (omega arith) h) x) (units_far h y)
units_far h u.unlabelled = u.unlabelled
units_far h u.labelled = u.labelled
units_far h u.no_brackets = u.no_brackets
units_far h (u.some_brackets x) = u.some_brackets (units_far h x)
units_far h (u.two_brackets x y) =
    let l = spells_shorter y in
    u.two_brackets (units_far (later (omega arith) h) x) (spells_far (later (omega arith) h) y)
units_far h (u.param_is x y z) =
    let l = units_shorter z in u.param_is x (units_far (later (omega arith) h) y) (units_far h z)
units_far h u.no_params = u.no_params
units_far h u.void_params = u.void_params
units_far h (u.some_params x) = u.some_params (units_far h x)
units_far h (u.last_param x) = u.last_param (units_far (later (omega arith) h) x)
units_far h (u.next_param x y) =
    let l = units_shorter y in u.next_param (units_far (later (omega arith) h) x) (units_far h y)
units_far h u.void = u.void
units_far h (u.typed x) = u.typed x
units_far h (u.prototype x) = u.prototype (units_far (later (omega arith) h) x)
units_far h (u.definition x y) =
    let l = writes_shorter y in u.definition (units_far (later (omega arith) h) x) (entries_far h y)
units_far h u.include = u.include
units_far h (u.a_function x y) =
    let l = units_shorter y in u.a_function (units_far (later (omega arith) h) x) (units_far h y)
units_far h (u.some_globals x y) = u.some_globals x (units_far h y)
units_far h (u.last_item x) = u.last_item (units_far h x)
units_far h (u.next_item x y) =
    let l = units_shorter y in u.next_item (units_far (later (omega arith) h) x) (units_far h y)
