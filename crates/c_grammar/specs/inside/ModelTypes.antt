-- The model of the parser of types.
use Rattle.std.specs.Prelude.{ℕ, Bool, ◌||◌, if◌then◌else◌, Ok}
use Rattle.c_tree.specs.declared.token.Form.{Form}
use Rattle.c_tree.specs.declared.token.Key.{Key}
use Rattle.c_tree.specs.declared.token.Key.TheVariants as key
use Rattle.c_tree.specs.declared.token.Kind.{Kind}
use Rattle.c_tree.specs.declared.token.Kind.TheVariants as kind
use Rattle.c_grammar.specs.Tokens.{Tokens}
use Rattle.c_grammar.specs.inside.Numbers.{is_key}
use Rattle.c_grammar.specs.inside.Parsing.{Out, and_then, first, is_word, expect_keyword}

-- is it a word of a type?
abbrev pub is_type : Form → Bool
is_type f =
    is_key key.Char f
    || (is_key key.Int f || (is_key key.Short f || (is_key key.Long f
    || (is_key key.Signed f || (is_key key.Unsigned f || is_key key.Bool f)))))

-- does a type begin here?
abbrev pub begins_type : Tokens → Bool
begins_type ts = first is_type ts

-- an `int` that may be left out; the offset and the type are known
unfoldable pub int_of : ℕ → Kind → Tokens → Out (ℕ × Kind)
int_of l k ts = if is_word key.Int ts then and_then (expect_keyword key.Int ts)
    (λ _ ts. Ok ((l, k), ts)) else Ok ((l, k), ts)

-- takes `char` behind a sign
unfoldable pub char_of : ℕ → Kind → Tokens → Out (ℕ × Kind)
char_of l k ts = and_then (expect_keyword key.Char ts) (λ _ ts. Ok ((l, k), ts))

-- takes `short` or `long`, and maybe `int`, behind a sign
unfoldable pub and_int_of : Key → ℕ → Kind → Tokens → Out (ℕ × Kind)
and_int_of w l k ts = and_then (expect_keyword w ts) (λ _ ts. int_of l k ts)

-- behind `signed` or `unsigned`, the types with `char`, `short`, `int` and `long`
unfoldable pub sized_of : ℕ → Kind → Kind → Kind → Kind → Tokens → Out (ℕ × Kind)
sized_of l c s i g ts =
    if is_word key.Char ts then char_of l c ts
    else if is_word key.Short ts then and_int_of key.Short l s ts
    else if is_word key.Long ts then and_int_of key.Long l g ts
    else int_of l i ts

-- takes a type that begins with `signed`
unfoldable pub signed_of : Tokens → Out (ℕ × Kind)
signed_of ts = and_then (expect_keyword key.Signed ts)
    (λ l ts. sized_of l kind.Char kind.Short kind.Int kind.Long ts)

-- takes a type that begins with `unsigned`
unfoldable pub unsigned_of : Tokens → Out (ℕ × Kind)
unsigned_of ts = and_then (expect_keyword key.Unsigned ts)
    (λ l ts. sized_of l kind.UChar kind.UShort kind.UInt kind.ULong ts)

-- takes a type of one word
unfoldable pub plain_of : Key → Kind → Tokens → Out (ℕ × Kind)
plain_of w k ts = and_then (expect_keyword w ts) (λ l ts. Ok ((l, k), ts))

-- takes a type that begins with `short` or `long`
unfoldable pub begun_of : Key → Kind → Tokens → Out (ℕ × Kind)
begun_of w k ts = and_then (expect_keyword w ts) (λ l ts. int_of l k ts)

-- the offset and the type
unfoldable pub type_of : Tokens → Out (ℕ × Kind)
type_of ts =
    if is_word key.Char ts then plain_of key.Char kind.Char ts
    else if is_word key.Int ts then plain_of key.Int kind.Int ts
    else if is_word key.Short ts then begun_of key.Short kind.Short ts
    else if is_word key.Long ts then begun_of key.Long kind.Long ts
    else if is_word key.Signed ts then signed_of ts
    else if is_word key.Bool ts then plain_of key.Bool kind.Bool ts
    else unsigned_of ts
