-- What holds of each raw token and of each constant of a header holds of the macros, the line and the tokens so far.
use Rattle.std.proofs.Common.{◌≡◌, ◌≤◌, ℕ, ◌+◌, Bool, true, false, cond, not, List, [], ◌∷◌, ◌++◌, map, length, subst}
use Rattle.std.proofs.Common.{arith}
use Rattle.std.specs.Prelude.{◌&&◌, codes, Option, Some, None, Result, Ok, Err}
use Rattle.c_tree.specs.declared.Form.{Form}
use Rattle.c_tree.specs.declared.Form.TheVariants as form
use Rattle.c_tree.specs.declared.Key.TheVariants as key
use Rattle.c_tree.specs.declared.Lexeme.{Lexeme}
use Rattle.c_lex.specs.declared.directive.DirectiveKind.{DirectiveKind}
use Rattle.c_lex.specs.declared.directive.DirectiveKind.TheVariants as directive
use Rattle.c_pre.specs.declared.fault.PreFault.{PreFault}
use Rattle.c_pre.specs.declared.fault.PreFault.TheVariants as fault
use Rattle.c_pre.specs.declared.groups.Group.{Group}
use Rattle.c_lex.specs.declared.directive.Header.{Header}
use Rattle.c_lex.specs.declared.directive.Header.TheVariants as header
use Rattle.c_pre.specs.declared.reader.Line.{Line}
use Rattle.c_pre.specs.declared.reader.Reader.{Reader}
use Rattle.c_pre.specs.declared.said.Said.{Said}
use Rattle.c_pre.specs.declared.said.Said.TheVariants as said
use Rattle.c_pre.specs.Forms.{same_forms}
use Rattle.c_pre.specs.Groups.{is_read}
use Rattle.c_pre.specs.Headers.{Row, names_of}
use Rattle.c_pre.specs.Lines.{with_macro, named_by, named, is_apart, defined_as, defined, undefined, included, opened}
use Rattle.c_pre.specs.Lines.{header_read, with_bool}
use Rattle.c_pre.specs.Lines.{opened_by, opened_at, is_macro, is_more, other, parted, closed, obeyed, lone_name}
use Rattle.c_pre.specs.Macros.{Name, name_of, body_of, turns}
use Rattle.c_pre.specs.Outputs.{◌>>=◌, taken, all_taken}
use Rattle.c_pre.specs.Programs.{stays, kept, header_given}
use Rattle.c_pre.specs.Programs.{given, in_line, read_plain, read_in_line, read_by, read_token, read_all, line_ended}
use Rattle.c_pre.specs.Programs.{groups_ended, ended, directed, beginning}
use Rattle.c_pre.specs.Said.{said_by}
use Rattle.c_lex.specs.Lexes.{Tokens}
use Rattle.c_pre.proofs.Kept.{Fact, EachForm, EachToken, BodyHas, EachMacro, OkHas, bound, token_end, macro_end}
use Rattle.c_pre.proofs.Kept.{forms_have, Out, form_has, token_has}

-- it holds of the tokens of a line
abbrev LineHas : Fact → Option Line → Type 0
LineHas P None = Unit {0}
LineHas P (Some l) = EachToken P l.tokens

-- it holds of all that was read
record Has (P : Fact) (most : ℕ) (r : Reader) : Type 0 where
  macros : EachMacro P r.macros
  line : LineHas P r.line
  output : Out P most r.output

-- it holds of the constants of these rows
abbrev pub EachRow : Fact → List Row → Type 0
EachRow P [] = Unit {0}
EachRow P (row ∷ rows) = P (form.Number row.1 row.2) × EachRow P rows

-- it holds of what a header makes known
pub record HeaderHas (P : Fact) (d : Header) : Type 0 where
  -- its constants
  pub rows : EachRow P (names_of d)
  -- the keyword that `bool` stands for
  pub word : P (form.Key key.Bool)

-- by a test
either : (P : Fact) (most : ℕ) (b : Bool) (x y : Result Reader PreFault) → OkHas (Has P most) x
    → OkHas (Has P most) y → OkHas (Has P most) (cond b x y)
either P most true x y h k = h
either P most false x y h k = k

-- MACROS

said_has : (P : Fact) (most : ℕ) (w : Name) (b : Option (List Form)) (r : Reader) → Has P most r → BodyHas P b
    → Has P most (with_macro w b r)
said_has P most w b r h k = record {
  macros = macro_end P r.macros (record { name = w; body = b }) h.macros k;
  line = h.line;
  output = h.output;
}

named_has : (P : Fact) (most at : ℕ) (w : Name) (body : List Form) (r : Reader) (o : Option (List Form))
    → Has P most r → EachForm P body → OkHas (Has P most) (named_by o at w body r)
named_has P most at w body r None h k = said_has P most w (Some body) r h k
named_has P most at w body r (Some old) h k =
    either P most (same_forms old body) (Ok r) (Err (fault.Redefined at)) h tt

defined_by : (P : Fact) (most o at : ℕ) (w : Option Name) (ts : Tokens) (r : Reader) → Has P most r → EachToken P ts
    → OkHas (Has P most) (defined_as o w at ts r)
defined_by P most o at None ts r h k = tt
defined_by P most o at (Some w) ts r h k =
    either P most (is_apart (at + length w) ts) (named at w (map (λ t. t.form) ts) r) (Err (fault.BadDefine o))
    (named_has P most at w (map (λ t. t.form) ts) r (body_of w r.macros) h (forms_have P ts k)) tt

defined_has : (P : Fact) (most o : ℕ) (ts : Tokens) (r : Reader) → Has P most r → EachToken P ts
    → OkHas (Has P most) (defined o ts r)
defined_has P most o [] r h k = tt
defined_has P most o (t ∷ ts) r h k = defined_by P most o t.offset (name_of t.form) ts r h k.1

undefined_has : (P : Fact) (most o : ℕ) (w : Option Name) (r : Reader) → Has P most r
    → OkHas (Has P most) (undefined o w r)
undefined_has P most o None r h = tt
undefined_has P most o (Some w) r h = said_has P most w None r h tt

included_has : (P : Fact) (most o : ℕ) (rows : List Row) (r : Reader) → Has P most r → EachRow P rows
    → OkHas (Has P most) (included o rows r)
included_has P most o [] r h k = h
included_has P most o (row ∷ rows) r h k =
    bound (Has P most) (Has P most) (named o row.0 (form.Number row.1 row.2 ∷ []) r) (included o rows)
    (named_has P most o row.0 (form.Number row.1 row.2 ∷ []) r (body_of row.0 r.macros) h (k.0, tt))
    (λ x q. included_has P most o rows x q k.1)

with_bool_has : (P : Fact) (most o : ℕ) (d : Header) (r : Reader) → Has P most r → P (form.Key key.Bool)
    → OkHas (Has P most) (with_bool o d r)
with_bool_has P most o header.Stdbool r h k =
    named_has P most o (codes "bool") (form.Key key.Bool ∷ []) r (body_of (codes "bool") r.macros) h (k, tt)
with_bool_has P most o _ r h k = h

header_has : (P : Fact) (most o : ℕ) (d : Header) (r : Reader) → Has P most r → HeaderHas P d
    → OkHas (Has P most) (header_read o d r)
unfolding header_read
header_has P most o d r h k =
    bound (Has P most) (Has P most) (included o (names_of d) r) (with_bool o d)
    (included_has P most o (names_of d) r h k.rows) (λ x q. with_bool_has P most o d x q k.word)

-- GROUPS

-- groups say nothing of tokens
grouped : (P : Fact) (most : ℕ) (gs : List Group) (r : Reader) → Has P most r → Has P most (record r { groups = gs })
grouped P most gs r h = record { macros = h.macros; line = h.line; output = h.output }

opened_has : (P : Fact) (most o : ℕ) (b : Bool) (r : Reader) → Has P most r → Has P most (opened o b r)
opened_has P most o b r h = record { macros = h.macros; line = h.line; output = h.output }

opened_by_has : (P : Fact) (most o : ℕ) (wanted : Bool) (w : Option Name) (r : Reader) → Has P most r
    → OkHas (Has P most) (opened_by wanted o w r)
opened_by_has P most o wanted None r h = tt
opened_by_has P most o wanted (Some w) r h =
    opened_has P most o (cond wanted (is_macro (body_of w r.macros)) (not (is_macro (body_of w r.macros)))) r h

opened_at_has : (P : Fact) (most o : ℕ) (wanted : Bool) (ts : Tokens) (r : Reader) → Has P most r
    → OkHas (Has P most) (opened_at wanted o ts r)
opened_at_has P most o wanted ts r h =
    either P most (is_read r.groups) (opened_by wanted o (lone_name ts) r) (Ok (opened o false r))
    (opened_by_has P most o wanted (lone_name ts) r h) (opened_has P most o false r h)

parted_has : (P : Fact) (most o : ℕ) (ts : Tokens) (gs : List Group) (r : Reader) → Has P most r
    → OkHas (Has P most) (parted o ts gs r)
parted_has P most o ts [] r h = tt
parted_has P most o ts (g ∷ gs) r h =
    either P most g.is_else (Err (fault.Unbalanced o))
    (cond (g.around && is_more ts) (Err (fault.BadDefine o)) (Ok (record r { groups = other g ∷ gs }))) tt
    (either P most (g.around && is_more ts) (Err (fault.BadDefine o)) (Ok (record r { groups = other g ∷ gs })) tt
    (grouped P most (other g ∷ gs) r h))

closed_has : (P : Fact) (most o : ℕ) (ts : Tokens) (gs : List Group) (r : Reader) → Has P most r
    → OkHas (Has P most) (closed o ts gs r)
closed_has P most o ts [] r h = tt
closed_has P most o ts (g ∷ gs) r h =
    either P most (g.around && is_more ts) (Err (fault.BadDefine o)) (Ok (record r { groups = gs })) tt
    (grouped P most gs r h)

obeyed_has : (P : Fact) (most o : ℕ) (d : DirectiveKind) (ts : Tokens) (r : Reader) → Has P most r → EachToken P ts
    → OkHas (Has P most) (obeyed d o ts r)
obeyed_has P most o directive.Define ts r h k =
    either P most (is_read r.groups) (defined o ts r) (Ok r) (defined_has P most o ts r h k) h
obeyed_has P most o directive.Undef ts r h k =
    either P most (is_read r.groups) (undefined o (lone_name ts) r) (Ok r)
    (undefined_has P most o (lone_name ts) r h) h
obeyed_has P most o directive.Ifdef ts r h k = opened_at_has P most o true ts r h
obeyed_has P most o directive.Ifndef ts r h k = opened_at_has P most o false ts r h
obeyed_has P most o directive.Else ts r h k = parted_has P most o ts r.groups r h
obeyed_has P most o directive.Endif ts r h k = closed_has P most o ts r.groups r h

-- RAW TOKENS

-- it holds of what each header makes known
abbrev pub HeadersHave : Fact → Type 0
HeadersHave P = (h : Header) → HeaderHas P h

given_has : (P : Fact) (most : ℕ) (t : Lexeme) (r : Reader) → Has P most r → P t.form
    → OkHas (Has P most) (given most t r)
given_has P most t r h p =
    bound (Out P most) (Has P most) (all_taken most t.offset (turns (length r.macros) r.macros [] t.form) r.output)
    (λ o. Ok (record r { output = o }))
    (form_has P most t.offset (length r.macros) r.macros t.form r.output p h.macros h.output)
    (λ o q. record { macros = h.macros; line = h.line; output = q })

kept_has : (P : Fact) (most : ℕ) (b : Bool) (t : Lexeme) (r : Reader) → Has P most r → P t.form
    → OkHas (Has P most) (kept most b t r)
kept_has P most false t r h p = h
kept_has P most true t r h p =
    bound (Out P most) (Has P most) (taken most t.offset (Some t.form) r.output)
    (λ o. Ok (record r { output = o })) (token_has P most t.offset t.form r.output h.output p)
    (λ o q. record { macros = h.macros; line = h.line; output = q })

header_given_has : (P : Fact) (most : ℕ) (t : Lexeme) (d : Header) (r : Reader) → HeadersHave P → Has P most r
    → P t.form → OkHas (Has P most) (header_given most t d r)
header_given_has P most t d r c h p =
    bound (Has P most) (Has P most) (kept most (stays t d) t r) (header_read t.offset d)
    (kept_has P most (stays t d) t r h p) (λ x q. header_has P most t.offset d x q (c d))

lined : (P : Fact) (most : ℕ) (l : Option Line) (r : Reader) → Has P most r → LineHas P l → Has P most (in_line l r)
lined P most l r h k = record { macros = h.macros; line = k; output = h.output }

plain_has : (P : Fact) (most : ℕ) (s : Said) (t : Lexeme) (r : Reader) → HeadersHave P → Has P most r → P t.form
    → OkHas (Has P most) (read_plain most s t r)
plain_has P most said.Token t r c h p =
    either P most (is_read r.groups) (given most t r) (Ok r) (given_has P most t r h p) h
plain_has P most (said.Directive d) t r c h p =
    lined P most (Some (record { directive = d; offset = t.offset; tokens = [] })) r h tt
plain_has P most (said.Header d) t r c h p =
    either P most (is_read r.groups) (header_given most t d r) (Ok r) (header_given_has P most t d r c h p) h
plain_has P most said.LineEnd t r c h p = h

line_has : (P : Fact) (most : ℕ) (s : Said) (l : Line) (t : Lexeme) (r : Reader) → Has P most r → EachToken P l.tokens
    → P t.form → OkHas (Has P most) (read_in_line s l t r)
line_has P most said.LineEnd l t r h k p = obeyed_has P most l.offset l.directive l.tokens r h k
line_has P most said.Token l t r h k p =
    lined P most (Some (record l { tokens = l.tokens ++ t ∷ [] })) r h (token_end P l.tokens t k p)
line_has P most (said.Directive d) l t r h k p = tt
line_has P most (said.Header d) l t r h k p = tt

by_has : (P : Fact) (most : ℕ) (l : Option Line) (t : Lexeme) (r : Reader) → HeadersHave P → Has P most r
    → LineHas P l → P t.form → OkHas (Has P most) (read_by most l t r)
by_has P most None t r c h k p = plain_has P most (said_by t.form) t r c h p
by_has P most (Some l) t r c h k p = line_has P most (said_by t.form) l t r h k p

all_read : (P : Fact) (most : ℕ) (ts : Tokens) (r : Reader) → HeadersHave P → Has P most r → EachToken P ts
    → OkHas (Has P most) (read_all most ts r)
all_read P most [] r c h k = h
all_read P most (t ∷ ts) r c h k =
    bound (Has P most) (Has P most) (read_token most t r) (read_all most ts)
    (by_has P most r.line t (in_line None r) c (lined P most None r h tt) h.line k.0)
    (λ x q. all_read P most ts x c q k.1)

-- THE END

-- it holds of these tokens, and they are few
pub record Few (P : Fact) (most : ℕ) (ts : Tokens) : Type 0 where
  pub forms : EachToken P ts
  pub few : length ts ≤ most

line_ended_has : (P : Fact) (most : ℕ) (l : Option Line) (r : Reader) → Has P most r → LineHas P l
    → OkHas (Has P most) (line_ended l r)
line_ended_has P most None r h k = h
line_ended_has P most (Some l) r h k = obeyed_has P most l.offset l.directive l.tokens r h k

groups_ended_has : (P : Fact) (most : ℕ) (gs : List Group) (ts : Tokens) → Few P most ts
    → OkHas (Few P most) (groups_ended gs ts)
groups_ended_has P most [] ts h = h
groups_ended_has P most (g ∷ gs) ts h = tt

few_given : (P : Fact) (most : ℕ) (r : Reader) → Has P most r → Few P most r.output.tokens
few_given P most r h =
    let many : length r.output.tokens ≤ r.output.count = h.output.many in
    let few : r.output.count ≤ most = h.output.few in
    record { forms = h.output.forms; few = omega arith }

ended_has : (P : Fact) (most : ℕ) (r : Reader) → Has P most r → OkHas (Few P most) (ended r)
ended_has P most r h =
    bound (Has P most) (Few P most) (line_ended r.line (in_line None r))
    (λ r. groups_ended r.groups r.output.tokens)
    (line_ended_has P most r.line (in_line None r) (lined P most None r h tt) h.line)
    (λ r q. groups_ended_has P most r.groups r.output.tokens (few_given P most r q))

begins : (P : Fact) (most : ℕ) → Has P most beginning
begins P most = record {
  macros = tt;
  line = tt;
  output = record { forms = tt; many = omega arith; few = omega arith };
}

-- what holds of each raw token and of each constant of a header holds of each token behind directives, of which there
-- are as few as there may be
pub directed_keeps : (P : Fact) (most : ℕ) (raw ts : Tokens) → HeadersHave P → EachToken P raw
    → directed most raw ≡ Ok ts → Few P most ts
directed_keeps P most raw ts c k e =
    subst (λ (m : Result Tokens PreFault). OkHas (Few P most) m) e
    (bound (Has P most) (Few P most) (read_all most raw beginning) ended
    (all_read P most raw beginning c (begins P most) k) (λ r q. ended_has P most r q))
