-- What statements begin with, and how long they are.
use Rattle.std.proofs.Common.{◌≡◌, ℕ, ◌<◌, ◌≤◌, Bool, true, false, List, [], ◌∷◌, length, Option, refl}
use Rattle.std.proofs.Common.{sym, ap, ◌∙◌, arith}
use Rattle.std.proofs.lemmas.Bool.{false≢true}
use Rattle.c_tree.specs.declared.token.Form.{Form}
use Rattle.c_tree.specs.declared.token.Form.TheVariants as form
use Rattle.c_tree.specs.declared.token.Mark.{Mark}
use Rattle.c_tree.specs.declared.token.Mark.TheVariants as mark
use Rattle.c_tree.specs.declared.token.Key.{Key}
use Rattle.c_tree.specs.declared.token.Key.TheVariants as key
use Rattle.c_tree.specs.declared.tree.Expr.{Expr}
use Rattle.c_tree.specs.declared.tree.Label.{Label}
use Rattle.c_tree.specs.declared.tree.Section.{Section}
use Rattle.c_tree.specs.declared.tree.Stmt.{Stmt}
use Rattle.c_grammar.specs.Tokens.{Tokens, May}
use Rattle.c_grammar.specs.Expressions as x
use Rattle.c_grammar.specs.Statements.{Phrase, Writes, semicolon, until, shape, stmt, inner, entry}
use Rattle.c_grammar.specs.Statements.{entries, locals, absent, given, tested, bare, value, array}
use Rattle.c_grammar.specs.Statements.{last_decl, next_decl, declaration, inner_is, entry_stmt}
use Rattle.c_grammar.specs.Statements.{entry_local, stop, go, compound, empty, plain, if_only, if_else}
use Rattle.c_grammar.specs.Statements.{while, repeat, init_local, init_plain, for, break, continue}
use Rattle.c_grammar.specs.Statements.{return, rows, label, labels, body, section, sections, a_case}
use Rattle.c_grammar.specs.Statements.{a_default, last_label, next_label, last_stmt, next_stmt}
use Rattle.c_grammar.specs.Statements.{section_is, no_section, next_section, switch}
use Rattle.c_grammar.specs.inside.Numbers.{is_mark, is_key}
use Rattle.c_grammar.specs.inside.Parsing.{first, is_next, is_word}
use Rattle.c_grammar.specs.inside.ModelTypes.{is_type, begins_type}
use Rattle.c_grammar.specs.inside.ModelBegins.{begins_expression, begins_statement, begins_label}
use Rattle.c_grammar.proofs.Numbers.{mark_is, key_is}
use Rattle.c_grammar.proofs.Agree.{apart}
use Rattle.c_grammar.proofs.Types.{types_shorter, types_begin}
use Rattle.c_grammar.proofs.Levels.{level_starts, spells_shorter, starts_no_type}

-- ---- first tokens

form_begins : (f : Form) → begins_expression f ≡ true → begins_statement f ≡ true
form_begins (form.Name w) h = refl
form_begins (form.Number v k) h = refl
form_begins (form.Mark mark.LeftParen) h = refl
form_begins (form.Mark mark.Plus) h = refl
form_begins (form.Mark mark.Minus) h = refl
form_begins (form.Mark mark.Tilde) h = refl
form_begins (form.Mark mark.Not) h = refl
form_begins (form.Mark mark.PlusPlus) h = refl
form_begins (form.Mark mark.MinusMinus) h = refl
form_begins _ h = absurd (false≢true h)

pub starts_begin : (ts : Tokens) → first begins_expression ts ≡ true
    → first begins_statement ts ≡ true
starts_begin [] h = absurd (false≢true h)
starts_begin (t ∷ ts) h = form_begins t.form h

pub stmt_begins : {may : May} {b : Bool} {d : ℕ} {s : Stmt} {f t : Tokens}
    → Writes may (stmt b s) d f t → first begins_statement f ≡ true
stmt_begins (compound x) = refl
stmt_begins empty = refl
stmt_begins (plain x) = starts_begin _ (level_starts x)
stmt_begins (if_only c x) = refl
stmt_begins (if_else c x y) = refl
stmt_begins (switch c x) = refl
stmt_begins (while c x) = refl
stmt_begins (repeat x c) = refl
stmt_begins (for i o p x) = refl
stmt_begins break = refl
stmt_begins continue = refl
stmt_begins (return x) = refl

-- an inner statement begins as statements do
pub inner_begins : {may : May} {b : Bool} {d : ℕ} {s : Stmt} {f t : Tokens}
    → Writes may (inner b s) d f t → first begins_statement f ≡ true
inner_begins (inner_is ok x) = stmt_begins x

-- a keyword that begins no statement does not stand where one begins
pub begins_no_word : (k : Key) → begins_statement (form.Key k) ≡ false → (ts : Tokens)
    → first begins_statement ts ≡ true → is_word k ts ≡ false
begins_no_word k no' ts h = apart begins_statement (is_key k)
    (λ f p q. false≢true (sym no' ∙ ap begins_statement (sym (key_is k f q)) ∙ p)) ts h

pub begins_no_mark : (k : Mark) → begins_statement (form.Mark k) ≡ false → (ts : Tokens)
    → first begins_statement ts ≡ true → is_next k ts ≡ false
begins_no_mark k no' ts h = apart begins_statement (is_mark k)
    (λ f p q. false≢true (sym no' ∙ ap begins_statement (sym (mark_is k f q)) ∙ p)) ts h

-- no keyword stands where an expression begins
pub starts_no_word : (k : Key) → (ts : Tokens) → first begins_expression ts ≡ true
    → is_word k ts ≡ false
starts_no_word k ts h = apart begins_expression (is_key k)
    (λ f p q. false≢true (ap begins_expression (sym (key_is k f q)) ∙ p)) ts h

no_type_form : (f : Form) → begins_statement f ≡ true → is_type f ≡ false
no_type_form (form.Name w) h = refl
no_type_form (form.Number v k) h = refl
no_type_form (form.Mark m) h = refl
no_type_form (form.Key key.If) h = refl
no_type_form (form.Key key.While) h = refl
no_type_form (form.Key key.Do) h = refl
no_type_form (form.Key key.For) h = refl
no_type_form (form.Key key.Switch) h = refl
no_type_form (form.Key key.Break) h = refl
no_type_form (form.Key key.Continue) h = refl
no_type_form (form.Key key.Return) h = refl
no_type_form _ h = absurd (false≢true h)

-- no type stands where a statement begins
pub begins_no_type : (ts : Tokens) → first begins_statement ts ≡ true → begins_type ts ≡ false
begins_no_type ts h = apart begins_statement is_type
    (λ f p q. false≢true (sym (no_type_form f p) ∙ q)) ts h

-- no type stands where an expression that may be absent begins
pub until_no_type : {may : May} {d : ℕ} {o : Option Expr} {f t : Tokens}
    → Writes may (until semicolon o) d f t → begins_type f ≡ false
until_no_type (absent semicolon) = refl
until_no_type (given semicolon x) = starts_no_type _ (level_starts x)

-- a declaration of locals begins with a type
pub locals_begin : {may : May} {d : ℕ} {ss : List Stmt} {f t : Tokens}
    → Writes may (locals ss) d f t → begins_type f ≡ true
locals_begin (declaration x y) = types_begin x

-- a keyword that is no type does not stand where a type begins
pub type_no_word : (k : Key) → is_type (form.Key k) ≡ false → (ts : Tokens) → begins_type ts ≡ true
    → is_word k ts ≡ false
type_no_word k no' ts h = apart is_type (is_key k)
    (λ f p q. false≢true (sym no' ∙ ap is_type (sym (key_is k f q)) ∙ p)) ts h

-- no mark stands where a type begins
pub type_no_mark : (k : Mark) → (ts : Tokens) → begins_type ts ≡ true → is_next k ts ≡ false
type_no_mark k ts h = apart is_type (is_mark k)
    (λ f p q. false≢true (ap is_type (sym (mark_is k f q)) ∙ p)) ts h

pub entry_no_else : {may : May} {d : ℕ} {ss : List Stmt} {f t : Tokens}
    → Writes may (entry ss) d f t → is_word key.Else f ≡ false
entry_no_else (entry_stmt x) = begins_no_word key.Else refl _ (inner_begins x)
entry_no_else (entry_local {f = f} ok x) = type_no_word key.Else refl f (locals_begin x)

-- an entry of a block does not begin with its right brace
pub entry_no_brace : {may : May} {d : ℕ} {ss : List Stmt} {f t : Tokens}
    → Writes may (entry ss) d f t → is_next mark.RightBrace f ≡ false
entry_no_brace (entry_stmt x) = begins_no_mark mark.RightBrace refl _ (inner_begins x)
entry_no_brace (entry_local {f = f} ok x) = type_no_mark mark.RightBrace f (locals_begin x)

-- the entries of a block do not begin with `else`
pub entries_no_else : {may : May} {d : ℕ} {ss : List Stmt} {f t : Tokens}
    → Writes may (entries ss) d f t → is_word key.Else f ≡ false
entries_no_else stop = refl
entries_no_else (go x y) = entry_no_else x

-- ---- sections of a switch

pub label_begins : {may : May} {d : ℕ} {x : Label} {f t : Tokens} → Writes may (label x) d f t
    → first begins_label f ≡ true
label_begins (a_case x) = refl
label_begins a_default = refl

-- labels begin with a label
pub labels_begin : {may : May} {d : ℕ} {xs : List Label} {f t : Tokens} → Writes may (labels xs) d f t
    → first begins_label f ≡ true
labels_begin (last_label x) = label_begins x
labels_begin (next_label x y) = label_begins x

-- the body of a section begins as statements do
pub body_begins : {may : May} {d : ℕ} {ss : List Stmt} {f t : Tokens} → Writes may (body ss) d f t
    → first begins_statement f ≡ true
body_begins (last_stmt x) = inner_begins x
body_begins (next_stmt x y) = inner_begins x

section_begins : {may : May} {d : ℕ} {x : Section} {f t : Tokens} → Writes may (section x) d f t
    → first begins_label f ≡ true
section_begins (section_is x y) = labels_begin x

-- no statement begins with a label
label_form : (f : Form) → begins_label f ≡ true → begins_statement f ≡ false
label_form (form.Key key.Case) h = refl
label_form (form.Key key.Default) h = refl
label_form _ h = absurd (false≢true h)

pub label_no_statement : (ts : Tokens) → first begins_label ts ≡ true
    → first begins_statement ts ≡ false
label_no_statement ts h = apart begins_label begins_statement
    (λ f p q. false≢true (sym (label_form f p) ∙ q)) ts h

-- no label stands where a statement begins
pub statement_no_label : (ts : Tokens) → first begins_statement ts ≡ true
    → first begins_label ts ≡ false
statement_no_label ts h = apart begins_statement begins_label
    (λ f p q. false≢true (sym (label_form f q) ∙ p)) ts h

label_no_word : (k : Key) → begins_label (form.Key k) ≡ false → (ts : Tokens)
    → first begins_label ts ≡ true → is_word k ts ≡ false
label_no_word k no' ts h = apart begins_label (is_key k)
    (λ f p q. false≢true (sym no' ∙ ap begins_label (sym (key_is k f q)) ∙ p)) ts h

label_no_mark : (k : Mark) → (ts : Tokens) → first begins_label ts ≡ true → is_next k ts ≡ false
label_no_mark k ts h = apart begins_label (is_mark k)
    (λ f p q. false≢true (ap begins_label (sym (mark_is k f q)) ∙ p)) ts h

-- a section does not begin with a right brace
pub section_no_brace : {may : May} {d : ℕ} {x : Section} {f t : Tokens}
    → Writes may (section x) d f t → is_next mark.RightBrace f ≡ false
section_no_brace x = label_no_mark mark.RightBrace _ (section_begins x)

-- behind a section stands a label or the brace
pub sections_behind : {may : May} {d : ℕ} {xs : List Section} {f t : Tokens}
    → Writes may (sections xs) d f t
    → (first begins_statement f ≡ false) × (is_word key.Else f ≡ false)
sections_behind no_section = (refl, refl)
sections_behind (next_section x y) =
    let h = section_begins x in (label_no_statement _ h, label_no_word key.Else refl _ h)

-- ---- lengths

-- a phrase takes a token at least, what stands behind the name of a local maybe none
abbrev pub Takes : Phrase → Tokens → Tokens → Type 0
Takes (shape s) f t = length t ≤ length f
Takes _ f t = length t < length f

-- A phrase takes at least one token, what stands behind a local's name maybe none.
pub writes_shorter : {may : May} {p : Phrase} {d : ℕ} {f t : Tokens} → Writes may p d f t
    → Takes p f t
writes_shorter (absent c) = omega arith
writes_shorter (given c x) = let h = spells_shorter x in omega arith
writes_shorter (tested x) = let h = spells_shorter x in omega arith
writes_shorter bare = omega arith
writes_shorter (value x) = let h = spells_shorter x in omega arith
writes_shorter (array x) = let h = spells_shorter x in omega arith
writes_shorter (rows x y) = let h = spells_shorter x in let i = spells_shorter y in omega arith
writes_shorter (last_decl x) = let h = writes_shorter x in omega arith
writes_shorter (next_decl x y) = let h = writes_shorter x in let i = writes_shorter y in omega arith
writes_shorter (declaration x y) = let h = types_shorter x in let i = writes_shorter y in omega arith
writes_shorter (inner_is ok x) = writes_shorter x
writes_shorter (entry_stmt x) = writes_shorter x
writes_shorter (entry_local ok x) = writes_shorter x
writes_shorter stop = omega arith
writes_shorter (go x y) = let h = writes_shorter x in let i = writes_shorter y in omega arith
writes_shorter (compound x) = let h = writes_shorter x in omega arith
writes_shorter empty = omega arith
writes_shorter (plain x) = let h = spells_shorter x in omega arith
writes_shorter (if_only c x) = let h = writes_shorter c in let i = writes_shorter x in omega arith
writes_shorter (if_else c x y) =
    let h = writes_shorter c in let i = writes_shorter x in let j = writes_shorter y in omega arith
writes_shorter (a_case x) = let h = spells_shorter x in omega arith
writes_shorter a_default = omega arith
writes_shorter (last_label x) = writes_shorter x
writes_shorter (next_label x y) =
    let h = writes_shorter x in let i = writes_shorter y in omega arith
writes_shorter (last_stmt x) = writes_shorter x
writes_shorter (next_stmt x y) = let h = writes_shorter x in let i = writes_shorter y in omega arith
writes_shorter (section_is x y) = let h = writes_shorter x in let i = writes_shorter y in omega arith
writes_shorter no_section = omega arith
writes_shorter (next_section x y) =
    let h = writes_shorter x in let i = writes_shorter y in omega arith
writes_shorter (switch c x) = let h = writes_shorter c in let i = writes_shorter x in omega arith
writes_shorter (while c x) = let h = writes_shorter c in let i = writes_shorter x in omega arith
writes_shorter (repeat x c) = let h = writes_shorter c in let i = writes_shorter x in omega arith
writes_shorter (init_local ok x) = writes_shorter x
writes_shorter (init_plain x) = writes_shorter x
writes_shorter (for x o o' y) =
    let h = writes_shorter x in let i = writes_shorter o in let j = writes_shorter o' in let k = writes_shorter y in
    omega arith
writes_shorter break = omega arith
writes_shorter continue = omega arith
writes_shorter (return x) = let h = writes_shorter x in omega arith
