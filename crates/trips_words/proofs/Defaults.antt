-- The default values that join at the end of a parse: `false` for each flag that is not said.
use Rattle.std.proofs.Common.{◌≡◌, ◌∙◌, refl, sym, ap, Bool, cond, true, false, true≢false, List, [], ◌∷◌}
use Rattle.std.proofs.Common.{◌++◌, Option, Some, None, codes}
use Rattle.std.specs.Prelude.{ℕ, ◌+◌, not, ◌&&◌, ◌||◌, find}
use Rattle.std.specs.List.{fold, list_any}
use Rattle.std.specs.Str.{bytes_eq}
use Rattle.std.proofs.lemmas.Option.{none-some}
use Rattle.std.proofs.lemmas.Slice.Eq.{bytes_eq-Decides}
use Rattle.clap.specs.Walk.{Row, has_row, more_values, with_default, with_values}
use Rattle.clap.specs.Takes.{is_given}
use Rattle.clap.specs.Kinds.{Kinds, check_kinds, or_else}
use Rattle.clap.specs.Faults.{check_fault, defaults_fault}
use Rattle.clap.specs.declared.builder.value_parser.Reading.TheVariants.{AsWritten}
use Rattle.clap.specs.declared.parser.matches.ValueSource.TheVariants.{DefaultValue}
use Rattle.trips_requests.specs.Words.{Text, Named, valued, flag}
use Rattle.trips_words.specs.inside.Read.{single, rule_for, place_rule, place_rules, rules_for, shape_for, is_flag}
use Rattle.trips_words.proofs.Rules.{or_this}
use Rattle.trips_words.proofs.Rows.{at_end}

-- no default fails, and nothing is wanted --------------------------------------------------------

no_kind : (b : Bool) → ◌≡◌ {A = Kinds} (cond b [] []) []
no_kind true = refl
no_kind false = refl

no_place_defaults : (number : ℕ) (places : List Text) (rows : List Row)
    → defaults_fault rows (place_rules number places) ≡ []
unfolding defaults_fault
no_place_defaults number [] rows = refl
no_place_defaults number (place ∷ places) rows =
    ap (λ k. or_else k
    (defaults_fault (with_default rows (place_rule number place)) (place_rules (number + 1) places)))
    (no_kind (has_row place rows || true))
    ∙ no_place_defaults (number + 1) places (with_default rows (place_rule number place))

-- no default value makes a fault
pub no_defaults : (options : List Named) (places : List Text) (rows : List Row)
    → defaults_fault rows (rules_for options places) ≡ []
unfolding defaults_fault
no_defaults [] places rows = no_place_defaults 1 places rows
no_defaults (valued n ∷ options) places rows =
    ap (λ k. or_else k (defaults_fault (with_default rows (rule_for (valued n))) (rules_for options places)))
    (no_kind (has_row n rows || true)) ∙ no_defaults options places (with_default rows (rule_for (valued n)))
no_defaults (flag n ∷ options) places rows =
    ap (λ k. or_else k (defaults_fault (with_default rows (rule_for (flag n))) (rules_for options places)))
    (no_kind (has_row n rows || false)) ∙ no_defaults options places (with_default rows (rule_for (flag n)))

not_wanted : (b c : Bool) → c ≡ false → ((false && not b) || c) ≡ false
not_wanted true c e = e
not_wanted false c e = e

no_place_wanted : (number : ℕ) (places : List Text) (rows : List Row)
    → list_any (λ a. a.required && not (is_given a.id rows)) (place_rules number places) ≡ false
no_place_wanted number [] rows = refl
no_place_wanted number (place ∷ places) rows =
    not_wanted (is_given place rows) _ (no_place_wanted (number + 1) places rows)

none_wanted : (options : List Named) (places : List Text) (rows : List Row)
    → list_any (λ a. a.required && not (is_given a.id rows)) (rules_for options places) ≡ false
none_wanted [] places rows = no_place_wanted 1 places rows
none_wanted (valued n ∷ options) places rows = not_wanted (is_given n rows) _ (none_wanted options places rows)
none_wanted (flag n ∷ options) places rows = not_wanted (is_given n rows) _ (none_wanted options places rows)

-- the check of a command that is built finds no fault
pub no_check : (name : Text) (options : List Named) (places : List Text) (rows : List Row)
    → check_fault (shape_for name options places) rows false ≡ []
no_check name options places rows = go (list_any (λ r. Rattle.clap.specs.Facts.explicit_source r.source) rows)
    (list_any (λ a. a.required && not (is_given a.id rows)) (rules_for options places))
    (none_wanted options places rows)
  where
    go : (x y : Bool) → y ≡ false
        → check_kinds (not false && (false && not x)) (not false && false) (not (false && false) && y) ≡ []
    go true true e = absurd (true≢false e)
    go false true e = absurd (true≢false e)
    go true false e = refl
    go false false e = refl

-- rows -------------------------------------------------------------------------------------------

-- the first row of an id
abbrev pub row_of : Text → List Row → Option Row
row_of id rows = find (λ r. bytes_eq r.id id) rows

-- a flag that is not said
abbrev pub off : Text → Row
off name = record {
  id = name;
  values = codes "false" ∷ [];
  count = None;
  source = Some DefaultValue;
  reading = AsWritten;
}

same_rows : (b : Bool) (rows : List Row) → cond b rows rows ≡ rows
same_rows true rows = refl
same_rows false rows = refl

single_default : (rows : List Row) (name : Text) (long : Option Text) (index : Option ℕ)
    → with_default rows (single name long index) ≡ rows
single_default rows name long index = same_rows (has_row name rows) rows

flag_default : (rows : List Row) (name : Text)
    → with_default rows (rule_for (flag name)) ≡ cond (has_row name rows) rows (rows ++ off name ∷ [])
flag_default rows name = go (has_row name rows) refl
  where
    go : (b : Bool) → has_row name rows ≡ b
        → cond b rows (with_values name AsWritten DefaultValue (codes "false" ∷ []) rows)
        ≡ cond b rows (rows ++ off name ∷ [])
    go true e = refl
    go false e = at_end name (more_values DefaultValue (codes "false" ∷ [])) (off name ∷ []) rows e

one_more : (id : Text) (rows : List Row) (r : Row)
    → row_of id (rows ++ r ∷ []) ≡ or_this (row_of id rows) (cond (bytes_eq r.id id) (Some r) None)
one_more id [] r = refl
one_more id (x ∷ rows) r = go (bytes_eq x.id id) (one_more id rows r)
  where
    go : (b : Bool) → row_of id (rows ++ r ∷ [])
        ≡ or_this (row_of id rows) (cond (bytes_eq r.id id) (Some r) None)
        → cond b (Some x) (row_of id (rows ++ r ∷ []))
        ≡ or_this (cond b (Some x) (row_of id rows)) (cond (bytes_eq r.id id) (Some r) None)
    go true e = refl
    go false e = e

this_alone : {A : Type 0} (o : Option A) → or_this o None ≡ o
this_alone None = refl
this_alone (Some a) = refl

no_row : (id : Text) (rows : List Row) → row_of id rows ≡ None → has_row id rows ≡ false
no_row id [] e = refl
no_row id (x ∷ rows) e = go (bytes_eq x.id id) e (no_row id rows)
  where
    go : (b : Bool) → cond b (Some x) (row_of id rows) ≡ None
        → (row_of id rows ≡ None → has_row id rows ≡ false) → (b || has_row id rows) ≡ false
    go true e f = absurd (none-some x (sym e))
    go false e f = f e

neither : (b c : Bool) → (b || c) ≡ false → (b ≡ false) × (c ≡ false)
neither true true e = absurd (true≢false e)
neither true false e = absurd (true≢false e)
neither false true e = absurd (true≢false e)
neither false false e = (refl, refl)

-- a flag of another name joins
flag_kept : (id name : Text) (rows : List Row) → bytes_eq name id ≡ false
    → row_of id (with_default rows (rule_for (flag name))) ≡ row_of id rows
flag_kept id name rows e = ap (row_of id) (flag_default rows name) ∙ go (has_row name rows)
  where
    go : (b : Bool) → row_of id (cond b rows (rows ++ off name ∷ [])) ≡ row_of id rows
    go true = refl
    go false = one_more id rows (off name)
        ∙ ap (λ b. or_this (row_of id rows) (cond b (Some (off name)) None)) e ∙ this_alone (row_of id rows)

-- places have no default
places_kept : (number : ℕ) (places : List Text) (rows : List Row)
    → fold with_default rows (place_rules number places) ≡ rows
places_kept number [] rows = refl
places_kept number (place ∷ places) rows =
    ap (λ rs. fold with_default rs (place_rules (number + 1) places)) (single_default rows place None (Some number))
    ∙ places_kept (number + 1) places rows

-- the row of what is no flag stays
pub kept : (options : List Named) (places : List Text) (id : Text) (rows : List Row) → is_flag id options ≡ false
    → row_of id (fold with_default rows (rules_for options places)) ≡ row_of id rows
kept [] places id rows e = ap (row_of id) (places_kept 1 places rows)
kept (valued n ∷ options) places id rows e =
    kept options places id (with_default rows (rule_for (valued n))) e
    ∙ ap (row_of id) (single_default rows n (Some n) None)
kept (flag n ∷ options) places id rows e =
    let p = neither (bytes_eq n id) (is_flag id options) e in
    kept options places id (with_default rows (rule_for (flag n))) p.1 ∙ flag_kept id n rows p.0

-- a row that is there stays
pub stays : (options : List Named) (places : List Text) (id : Text) (r : Row) (rows : List Row)
    → row_of id rows ≡ Some r
    → row_of id (fold with_default rows (rules_for options places)) ≡ Some r
stays [] places id r rows e = ap (row_of id) (places_kept 1 places rows) ∙ e
stays (valued n ∷ options) places id r rows e = stays options places id r (with_default rows (rule_for (valued n)))
    (ap (row_of id) (single_default rows n (Some n) None) ∙ e)
stays (flag n ∷ options) places id r rows e = stays options places id r (with_default rows (rule_for (flag n)))
    (ap (row_of id) (flag_default rows n) ∙ go (has_row n rows))
  where
    go : (b : Bool) → row_of id (cond b rows (rows ++ off n ∷ [])) ≡ Some r
    go true = e
    go false = one_more id rows (off n)
        ∙ ap (λ o. or_this o (cond (bytes_eq n id) (Some (off n)) None)) e

-- and a flag that is not said is off
pub turned_off : (options : List Named) (places : List Text) (id : Text) (rows : List Row) → row_of id rows ≡ None
    → is_flag id options ≡ true → row_of id (fold with_default rows (rules_for options places)) ≡ Some (off id)
turned_off [] places id rows e f = absurd (true≢false (sym f))
turned_off (valued n ∷ options) places id rows e f =
    turned_off options places id (with_default rows (rule_for (valued n)))
    (ap (row_of id) (single_default rows n (Some n) None) ∙ e) f
turned_off (flag n ∷ options) places id rows e f =
    go (bytes_eq n id) refl f (turned_off options places id (with_default rows (rule_for (flag n))))
  where
    other : (c : Bool) → (false || c) ≡ true → c ≡ true
    other true g = refl
    other false g = g

    go : (b : Bool) → bytes_eq n id ≡ b → (b || is_flag id options) ≡ true
        → (row_of id (with_default rows (rule_for (flag n))) ≡ None → is_flag id options ≡ true
        → row_of id (fold with_default (with_default rows (rule_for (flag n))) (rules_for options places))
        ≡ Some (off id))
        → row_of id (fold with_default (with_default rows (rule_for (flag n))) (rules_for options places))
        ≡ Some (off id)
    go false q g rest = rest (flag_kept id n rows q ∙ e) (other (is_flag id options) g)
    go true q g rest =
        let same : n ≡ id = (bytes_eq-Decides n id).0 q in
        let none : has_row n rows ≡ false = ap (λ x. has_row x rows) same ∙ no_row id rows e in
        stays options places id (off id) (with_default rows (rule_for (flag n)))
        (ap (row_of id) (flag_default rows n ∙ ap (λ b. cond b rows (rows ++ off n ∷ [])) none)
        ∙ one_more id rows (off n)
        ∙ ap (λ o. or_this o (cond (bytes_eq n id) (Some (off n)) None)) e
        ∙ ap (λ b. cond b (Some (off n)) None) q ∙ ap (λ x. Some (off x)) same)
