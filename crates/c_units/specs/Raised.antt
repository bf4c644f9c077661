-- Prototypes and `extern` of objects in blocks, in front of the items of their unit (C17 6.2.2, 6.7.6.3).
use Rattle.std.specs.Prelude.{ℕ, zero, suc, ◌-◌, Bool, true, false, not, ◌&&◌, ◌||◌, nat_eq, if◌then◌else◌, [], ◌∷◌}
use Rattle.std.specs.Prelude.{◌++◌}
use Rattle.std.specs.Prelude.{length, Option, Some, None}
use Rattle.c_tree.specs.declared.Form.{Form}
use Rattle.c_tree.specs.declared.Key.TheVariants as key
use Rattle.c_tree.specs.declared.Mark.TheVariants as mark
use Rattle.c_tree.specs.declared.Lexeme.{Lexeme}
use Rattle.c_lex.specs.Lexes.{Tokens}
use Rattle.c_library.specs.Calls.{is_mark}
use Rattle.c_locals.specs.Brackets.{Parts, split}
use Rattle.c_locals.specs.Elements.{marked}
use Rattle.c_locals.specs.Values.{is_name}
use Rattle.c_locals.specs.Walks.{parens_past}
use Rattle.c_words.specs.Keys.{is_key}
use Rattle.c_units.specs.declared.raised.Raise.{Raise}
use Rattle.c_units.specs.Cuts.{start, past, ends}
use Rattle.c_units.specs.Externs.{external}
use Rattle.c_units.specs.Objects.{is_extern, words_from, behind_words}

-- A PROTOTYPE

-- with the parameters, if a `;` follows the bracket behind them
abbrev pub closed_by : Tokens → ℕ → Option Parts → Option Tokens
closed_by head at (Some (params, t ∷ ts)) =
    if is_mark mark.Semicolon t.form then Some (head ++ (params ++ marked at mark.RightParen)) else None
closed_by head at _ = None

-- of a function with the words of its type, if its name and a `(` follow
abbrev pub named_by : Tokens → Tokens → Option Tokens
named_by ws (n ∷ o ∷ ts) =
    if is_name n.form && is_mark mark.LeftParen o.form
    then closed_by (ws ++ n ∷ o ∷ []) n.offset (split mark.RightParen ts) else None
named_by ws _ = None

-- of one with the words of a type of values, if there are any
abbrev pub valued_by : Tokens → Tokens → Option Tokens
valued_by [] ts = None
valued_by (w ∷ ws) ts = named_by (w ∷ ws) ts

-- the prototype of a function with such a type that tokens begin with
abbrev pub valued : Tokens → Option Tokens
valued ts = valued_by (words_from false [] ts) (behind_words false ts)

-- the prototype that tokens begin with, without its `;`
abbrev pub prototype : Tokens → Option Tokens
prototype [] = None
prototype (t ∷ ts) = if is_key key.Void t.form then named_by (t ∷ []) ts else valued (t ∷ ts)

-- THE UNIT

-- before the first token of a unit
abbrev pub beginning : Raise
beginning =
    record { out = []; front = []; item = []; place = start; parens = 0; is_value = false; is_start = false; skip = 0 }

-- does a statement or a declaration of a block begin: in braces, outside of other brackets, behind `;` or a brace?
abbrev pub begins : Raise → Bool
begins s = s.is_start && (nat_eq s.parens 0 && not (nat_eq s.place.depth 0))

-- with a token of the item
abbrev pub to_item : Lexeme → Raise → Raise
to_item t s = record s { item = s.item ++ t ∷ [] }

-- with a prototype in front of the item, so many tokens of which follow
abbrev pub raised_by : ℕ → ℕ → Tokens → Raise → Raise
raised_by at n ts s = record s { front = s.front ++ (ts ++ marked at mark.Semicolon); skip = n }

-- with the prototype that a token begins, which is `extern` or its first
abbrev pub found_by : Lexeme → Bool → Option Tokens → Raise → Raise
found_by t e None s = to_item t s
found_by t e (Some ts) s = raised_by t.offset (if e then length ts else length ts - 1) ts s

-- with what an `extern` begins: this prototype, or objects
abbrev pub extern_by : Lexeme → Tokens → Option Tokens → Raise → Raise
extern_by t ts (Some ps) s = found_by t true (Some ps) s
extern_by t ts None s = found_by t false (external t s.item ts) s

-- with a token where one may begin, before these
abbrev pub started : Lexeme → Tokens → Raise → Raise
started t ts s =
    if is_extern t.form then extern_by t ts (prototype ts) s else found_by t false (prototype (t ∷ ts)) s

-- with a token of a prototype that stands in front
abbrev pub skipped : ℕ → Raise → Raise
skipped n s = record s { skip = n }

-- with a token, before these
abbrev pub taken : ℕ → Lexeme → Tokens → Raise → Raise
taken (suc n) t ts s = skipped n s
taken zero t ts s = if begins s then started t ts s else to_item t s

-- is a value read behind the token: behind a `=` outside of brackets but braces, up to the `;`?
abbrev pub in_value : Form → Raise → Bool
in_value f s =
    not (is_mark mark.Semicolon f) && (s.is_value || (is_mark mark.Assign f && nat_eq s.parens 0))

-- is it a brace?
abbrev pub is_brace : Form → Bool
is_brace f = is_mark mark.LeftBrace f || is_mark mark.RightBrace f

-- may a declaration stand behind the token: a `;`, or a brace of no value?
abbrev pub is_break : Form → Raise → Bool
is_break f s = is_mark mark.Semicolon f || (is_brace f && not s.is_value)

-- the brackets behind a token
abbrev pub counted : Form → Raise → Raise
counted f s =
    record s {
      place = past f s.place;
      parens = parens_past s.parens f;
      is_value = in_value f s;
      is_start = is_break f s;
    }

-- the item whole, with the prototypes in front of it
abbrev pub flushed : Raise → Raise
flushed s =
    record s { out = s.out ++ (s.front ++ s.item); front = []; item = []; place = start }

abbrev pub flushed_if : Form → Raise → Raise
flushed_if f s = if ends f s.place then flushed s else s

-- behind a token, before these
abbrev pub step : Lexeme → Tokens → Raise → Raise
step t ts s = flushed_if t.form (counted t.form (taken s.skip t ts s))

-- all tokens, from here on
abbrev pub run : Raise → Tokens → Tokens
run s [] = s.out ++ (s.front ++ s.item)
run s (t ∷ ts) = run (step t ts s) ts

-- A unit no block of which has a prototype or an `extern`: these stand in front of their functions, and their `;`
-- stays.
abbrev pub raised : Tokens → Tokens
raised ts = run beginning ts
