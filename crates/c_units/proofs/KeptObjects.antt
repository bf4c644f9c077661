-- What holds of all tokens and of all that may be added holds of the items of a unit, and of the objects that they
-- declare.
use Rattle.std.proofs.Common.{◌≡◌, ℕ, Bool, true, false, cond, List, [], ◌∷◌, ◌++◌, Option, Some, None}
use Rattle.std.specs.Prelude.{◌&&◌, ◌||◌, map}
use Rattle.c_tree.specs.declared.Form.{Form}
use Rattle.c_tree.specs.declared.Key.{Key}
use Rattle.c_tree.specs.declared.Key.TheVariants as key
use Rattle.c_tree.specs.declared.Mark.TheVariants as mark
use Rattle.c_tree.specs.declared.Lexeme.{Lexeme}
use Rattle.c_lex.specs.Lexes.{Tokens}
use Rattle.c_library.proofs.Holds.{Fact, EachToken, Allows, each_append}
use Rattle.c_locals.specs.Brackets.{Parts, split, pieces}
use Rattle.c_library.specs.Calls.{is_mark}
use Rattle.c_locals.specs.Declarators.{whole, braced}
use Rattle.c_locals.specs.Elements.{marked}
use Rattle.c_locals.specs.Walks.{is_word}
use Rattle.c_locals.proofs.KeptElements.{EachPart, EachPiece, parts_keep, pieces_keep, marked_keeps}
use Rattle.c_words.specs.declared.named.Named.{Named}
use Rattle.c_words.specs.declared.named.Named.TheVariants as named
use Rattle.c_words.specs.Keys.{behind}
use Rattle.c_words.specs.Keys as k
use Rattle.c_words.specs.Ordered.{key_at}
use Rattle.c_words.specs.Types.{type_of, spelling}
use Rattle.c_units.specs.declared.cuts.Cut.{Cut}
use Rattle.c_units.specs.declared.objects.Declaration.{Declaration}
use Rattle.c_units.specs.Cuts.{start, past, ends, beginning, with_token, ended, step, cut, items}
use Rattle.c_units.specs.Braces.{only_by, only_of, only, begins_list, list_of, has_char, is_one_size, unbraced}
use Rattle.c_units.specs.Objects.{or_bare, is_qualifier, words_from, behind_words, are_objects, sizes_by, value_by}
use Rattle.c_units.specs.Objects.{declaration, with_piece, each_from, read_body, may_declare, spelled, read_typed}
use Rattle.c_units.specs.Objects.{place_if, read_behind, read}

-- ITEMS

-- it holds of all that is cut
record EachCut (P : Fact) (c : Cut) : Type 0 where
  items : EachPiece P c.items
  item : EachToken P c.item

piece_behind : (P : Fact) (ps : List Tokens) (p : Tokens) → EachPiece P ps → EachToken P p → EachPiece P (ps ++ p ∷ [])
piece_behind P [] p h k = (k, tt)
piece_behind P (x ∷ ps) p h k = (h.0, piece_behind P ps p h.1 k)

token_keeps : (P : Fact) (t : Lexeme) (c : Cut) → EachCut P c → P t.form → EachCut P (with_token t c)
token_keeps P t c h k = record { items = h.items; item = each_append P c.item (t ∷ []) h.item (k, tt) }

ended_by : (P : Fact) (b : Bool) (c : Cut) → EachCut P c → EachCut P (cond b (ended c) c)
ended_by P true c h = record { items = piece_behind P c.items c.item h.items h.item; item = tt }
ended_by P false c h = h

step_keeps : (P : Fact) (t : Lexeme) (c : Cut) → EachCut P c → P t.form → EachCut P (step t c)
step_keeps P t c h k =
    ended_by P (ends t.form (with_token t c).place) (with_token t c) (token_keeps P t c h k)

cut_keeps : (P : Fact) (c : Cut) (ts : Tokens) → EachCut P c → EachToken P ts → EachPiece P (cut c ts)
cut_keeps P c [] h k = piece_behind P c.items c.item h.items h.item
cut_keeps P c (t ∷ ts) h k = cut_keeps P (step t c) ts (step_keeps P t c h k.0) k.1

-- the items of a unit
pub items_keep : (P : Fact) (ts : Tokens) → EachToken P ts → EachPiece P (items ts)
items_keep P ts h = cut_keeps P beginning ts (record { items = tt; item = tt }) h

-- DECLARATIONS

-- it holds of all that a declaration has
pub record EachPartOf (P : Fact) (d : Declaration) : Type 0 where
  pub head : EachToken P d.head
  pub value : EachToken P d.value

-- and of each of these
abbrev pub EachDeclared : Fact → List Declaration → Type 0
EachDeclared P [] = Unit {0}
EachDeclared P (d ∷ ds) = EachPartOf P d × EachDeclared P ds

-- of declarations behind declarations
pub declared_append : (P : Fact) (xs ys : List Declaration) → EachDeclared P xs → EachDeclared P ys
    → EachDeclared P (xs ++ ys)
declared_append P [] ys h k = k
declared_append P (x ∷ xs) ys h k = (h.0, declared_append P xs ys h.1 k)

-- of one of two rows of tokens
pub either : (P : Fact) (b : Bool) (xs ys : Tokens) → EachToken P xs → EachToken P ys → EachToken P (cond b xs ys)
either P true xs ys h k = h
either P false xs ys h k = k

either_list : (P : Fact) (b : Bool) (xs ys : List Declaration) → EachDeclared P xs → EachDeclared P ys
    → EachDeclared P (cond b xs ys)
either_list P true xs ys h k = h
either_list P false xs ys h k = k

pub words_keep : (P : Fact) (e : Bool) (got ts : Tokens) → EachToken P got → EachToken P ts
    → EachToken P (words_from e got ts)
words_keep P e got [] h k = h
words_keep P e got (t ∷ ts) h k =
    either P (is_word t.form) (words_from e (got ++ t ∷ []) ts)
    (cond (e && is_qualifier t.form) (words_from e got ts) got)
    (words_keep P e (got ++ t ∷ []) ts (each_append P got (t ∷ []) h (k.0, tt)) k.1)
    (either P (e && is_qualifier t.form) (words_from e got ts) got (words_keep P e got ts h k.1) h)

pub behind_keep : (P : Fact) (e : Bool) (ts : Tokens) → EachToken P ts → EachToken P (behind_words e ts)
behind_keep P e [] h = tt
behind_keep P e (t ∷ ts) h =
    either P (is_word t.form || (e && is_qualifier t.form)) (behind_words e ts) (t ∷ ts) (behind_keep P e ts h.1) h

sizes_keep : (P : Fact) (ts : Tokens) (o : Option Parts) → EachToken P ts → EachPart P o → EachToken P (sizes_by ts o)
sizes_keep P ts None h k = h
sizes_keep P ts (Some (a, b)) h k = k.0

-- it holds of what is there
abbrev pub EachOf : Fact → Option Tokens → Type 0
EachOf P None = Unit {0}
EachOf P (Some ts) = EachToken P ts

whole_keeps : (P : Fact) (o : Option Parts) → EachPart P o → EachOf P (whole o)
whole_keeps P None h = tt
whole_keeps P (Some ([], b)) h = tt
whole_keeps P (Some (v ∷ vs, [])) h = h.0
whole_keeps P (Some (v ∷ vs, t ∷ ts)) h = tt

pub if_there : (P : Fact) (x : Bool) (o : Option Tokens) → EachOf P o → EachOf P (cond x o None)
if_there P true o h = h
if_there P false o h = tt

braced_keeps : (P : Fact) (ts : Tokens) → EachToken P ts → EachOf P (braced ts)
braced_keeps P [] h = tt
braced_keeps P (t ∷ ts) h =
    if_there P (is_mark mark.LeftBrace t.form) (whole (split mark.RightBrace ts))
    (whole_keeps P (split mark.RightBrace ts) (parts_keep P mark.RightBrace ts h.1))

only_by_keeps : (P : Fact) (ts : Tokens) (o : Option Parts) → EachToken P ts → EachPart P o → EachOf P (only_by ts o)
only_by_keeps P ts None h k = h
only_by_keeps P ts (Some (a, [])) h k = k.0
only_by_keeps P ts (Some (a, t ∷ b)) h k = tt

only_of_keeps : (P : Fact) (o : Option Tokens) → EachOf P o → EachOf P (only_of o)
only_of_keeps P None h = tt
only_of_keeps P (Some ts) h = only_by_keeps P ts (split mark.Comma ts) h (parts_keep P mark.Comma ts h)

list_keeps : (P : Fact) (o : Option Tokens) → EachOf P o → EachOf P (list_of o)
list_keeps P None h = tt
list_keeps P (Some ts) h = if_there P (begins_list ts) (Some ts) h

unbraced_keeps : (P : Fact) (ws sizes value : Tokens) → EachToken P value → EachOf P (unbraced ws sizes value)
unbraced_keeps P ws [] value h = only_of_keeps P (braced value) (braced_keeps P value h)
unbraced_keeps P ws (t ∷ ts) value h =
    if_there P (has_char ws && is_one_size (t ∷ ts)) (list_of (only value))
    (list_keeps P (only value) (only_of_keeps P (braced value) (braced_keeps P value h)))

bare_keeps : (P : Fact) (ts : Tokens) (o : Option Tokens) → EachToken P ts → EachOf P o → EachToken P (or_bare ts o)
bare_keeps P ts None h k = h
bare_keeps P ts (Some us) h k = k

value_keeps : (P : Fact) (ws : Tokens) (at : ℕ) (o : Option Parts) → Allows P → EachPart P o
    → EachToken P (value_by ws at o)
value_keeps P ws at None a k = tt
value_keeps P ws at (Some (x, b)) a k =
    each_append P (marked at mark.Assign) (or_bare b (unbraced ws x b)) (marked_keeps P at mark.Assign a)
    (bare_keeps P b (unbraced ws x b) k.1 (unbraced_keeps P ws x b k.1))

declaration_keeps : (P : Fact) (e : Option ℕ) (ws : Tokens) (n : Lexeme) (ts : Tokens) → Allows P → EachToken P ws
    → P n.form → EachToken P ts → EachPartOf P (declaration e ws n ts)
declaration_keeps P e ws n ts a h k m =
    let parts : EachPart P (split mark.Assign ts) = parts_keep P mark.Assign ts m in
    record {
      head = each_append P ws (n ∷ sizes_by ts (split mark.Assign ts)) h
          (k, sizes_keep P ts (split mark.Assign ts) m parts);
      value = value_keeps P ws n.offset (split mark.Assign ts) a parts;
    }

piece_keeps : (P : Fact) (e : Option ℕ) (ws : Tokens) (got : List Declaration) (p : Tokens) → Allows P → EachToken P ws
    → EachDeclared P got → EachToken P p → EachDeclared P (with_piece e ws got p)
piece_keeps P e ws got [] a h k m = k
piece_keeps P e ws got (n ∷ ts) a h k m =
    declared_append P got (declaration e ws n ts ∷ []) k (declaration_keeps P e ws n ts a h m.0 m.1, tt)

each_keep : (P : Fact) (e : Option ℕ) (ws : Tokens) (got : List Declaration) (ps : List Tokens) → Allows P
    → EachToken P ws → EachDeclared P got → EachPiece P ps → EachDeclared P (each_from e ws got ps)
each_keep P e ws got [] a h k m = k
each_keep P e ws got (p ∷ ps) a h k m =
    each_keep P e ws (with_piece e ws got p) ps a h (piece_keeps P e ws got p a h k m.0) m.1

body_keeps : (P : Fact) (e : Option ℕ) (ws : Tokens) (o : Option Parts) → Allows P → EachToken P ws → EachPart P o
    → EachDeclared P (read_body e ws o)
body_keeps P e ws None a h k = tt
body_keeps P e ws (Some (b, [])) a h k =
    either_list P (are_objects (pieces b)) (each_from e ws [] (pieces b)) []
    (each_keep P e ws [] (pieces b) a h tt (pieces_keep P b k.0)) tt
body_keeps P e ws (Some (b, t ∷ ts)) a h k = tt

keys_have : (P : Fact) (at : ℕ) (ks : List Key) → Allows P → EachToken P (map (key_at at) ks)
keys_have P at [] a = tt
keys_have P at (k ∷ ks) a = (a.key k, keys_have P at ks a)

typed_keeps : (P : Fact) (e : Option ℕ) (at : ℕ) (o : Option Named) (ts : Tokens) → Allows P → EachToken P ts
    → EachDeclared P (read_typed e at o ts)
typed_keeps P e at None ts a h = tt
typed_keeps P e at (Some named.Void) ts a h = tt
typed_keeps P e at (Some n) ts a h =
    body_keeps P e (spelled at n) (split mark.Semicolon ts) a (keys_have P at (spelling n) a)
    (parts_keep P mark.Semicolon ts h)

run_behind_keeps : (P : Fact) (ts : Tokens) → EachToken P ts → EachToken P (behind ts)
run_behind_keeps P [] h = tt
run_behind_keeps P (t ∷ ts) h =
    either P (k.is_word t.form) (behind ts) (t ∷ ts) (run_behind_keeps P ts h.1) h

behind_has : (P : Fact) (at : ℕ) (ws ts : Tokens) → Allows P → EachToken P ts → EachDeclared P (read_behind at ws ts)
behind_has P at ws ts a h =
    let e : Bool = k.one key.Extern ws in
    either_list P (may_declare e ws) (read_typed (place_if e at) at (type_of ws) ts) []
    (typed_keeps P (place_if e at) at (type_of ws) ts a h) tt

-- the objects that an item declares
pub read_keeps : (P : Fact) (ts : Tokens) → Allows P → EachToken P ts → EachDeclared P (read ts)
read_keeps P [] a h = tt
read_keeps P (t ∷ ts) a h =
    behind_has P t.offset (k.run (t ∷ ts)) (behind (t ∷ ts)) a (run_behind_keeps P (t ∷ ts) h)
