-- What a parse looks up among the arguments of a command that is built.
use Rattle.std.proofs.Common.{◌≡◌, ◌∙◌, refl, sym, ap, Bool, cond, true, false, ℕ, List, [], ◌∷◌}
use Rattle.std.proofs.Common.{Option, Some, None, option_map, ◌+◌, ◌⊎◌, inl, inr}
use Rattle.std.specs.Prelude.{◌==◌, ◌&&◌, ◌||◌, unwrap_or}
use Rattle.std.specs.Str.{bytes_eq}
use Rattle.std.proofs.lemmas.Slice.Eq.{bytes_eq-Decides}
use Rattle.std.proofs.lemmas.Option.{none-some}
use Rattle.clap.specs.Walk.{Rule, arg_by_id, arg_by_long, arg_by_short, arg_by_index}
use Rattle.trips_requests.specs.Words.{Text, Named, valued, flag, name_of, named}
use Rattle.trips_words.specs.inside.Read.{rule_for, place_rule, place_rules, rules_for}

no_long : (number : ℕ) (places : List Text) (name : Text) → arg_by_long (place_rules number places) name ≡ None
no_long number [] name = refl
no_long number (place ∷ places) name = no_long (number + 1) places name

-- by its long name
pub by_long : (options : List Named) (places : List Text) (name : Text)
    → arg_by_long (rules_for options places) name ≡ option_map rule_for (named name options)
by_long [] places name = no_long 1 places name
by_long (valued other ∷ options) places name = go (bytes_eq other name) (by_long options places name)
  where
    go : (b : Bool) → arg_by_long (rules_for options places) name ≡ option_map rule_for (named name options)
        → cond (true && (b || false)) (Some (rule_for (valued other))) (arg_by_long (rules_for options places) name)
        ≡ option_map rule_for (cond b (Some (valued other)) (named name options))
    go true e = refl
    go false e = e
by_long (flag other ∷ options) places name = go (bytes_eq other name) (by_long options places name)
  where
    go : (b : Bool) → arg_by_long (rules_for options places) name ≡ option_map rule_for (named name options)
        → cond (true && (b || false)) (Some (rule_for (flag other))) (arg_by_long (rules_for options places) name)
        ≡ option_map rule_for (cond b (Some (flag other)) (named name options))
    go true e = refl
    go false e = e

-- the first of two that there is
abbrev pub or_this : {A : Type 0} → Option A → Option A → Option A
or_this (Some a) other = Some a
or_this None other = other

-- by its id
pub by_id : (options : List Named) (places : List Text) (name : Text) → arg_by_id (rules_for options places) name
    ≡ or_this (option_map rule_for (named name options)) (arg_by_id (place_rules 1 places) name)
by_id [] places name = refl
by_id (valued other ∷ options) places name = go (bytes_eq other name) (by_id options places name)
  where
    go : (b : Bool) → arg_by_id (rules_for options places) name
        ≡ or_this (option_map rule_for (named name options)) (arg_by_id (place_rules 1 places) name)
        → cond b (Some (rule_for (valued other))) (arg_by_id (rules_for options places) name)
        ≡ or_this (option_map rule_for (cond b (Some (valued other)) (named name options)))
        (arg_by_id (place_rules 1 places) name)
    go true e = refl
    go false e = e
by_id (flag other ∷ options) places name = go (bytes_eq other name) (by_id options places name)
  where
    go : (b : Bool) → arg_by_id (rules_for options places) name
        ≡ or_this (option_map rule_for (named name options)) (arg_by_id (place_rules 1 places) name)
        → cond b (Some (rule_for (flag other))) (arg_by_id (rules_for options places) name)
        ≡ or_this (option_map rule_for (cond b (Some (flag other)) (named name options)))
        (arg_by_id (place_rules 1 places) name)
    go true e = refl
    go false e = e

-- the rule that a parse finds for an option is the one that is made for it
pub option_by_id : (options : List Named) (places : List Text) (name : Text) (o : Named)
    → named name options ≡ Some o → arg_by_id (rules_for options places) name ≡ Some (rule_for o)
option_by_id options places name o e = by_id options places name
    ∙ ap (λ x. or_this (option_map rule_for x) (arg_by_id (place_rules 1 places) name)) e

no_short : (number : ℕ) (places : List Text) (x : ℕ) → arg_by_short (place_rules number places) x ≡ None
no_short number [] x = refl
no_short number (place ∷ places) x = no_short (number + 1) places x

-- none has a short name
pub by_short : (options : List Named) (places : List Text) (x : ℕ)
    → arg_by_short (rules_for options places) x ≡ None
by_short [] places x = no_short 1 places x
by_short (valued other ∷ options) places x = by_short options places x
by_short (flag other ∷ options) places x = by_short options places x

-- the places alone have numbers
pub by_index : (options : List Named) (places : List Text) (i : ℕ)
    → arg_by_index (rules_for options places) i ≡ arg_by_index (place_rules 1 places) i
by_index [] places i = refl
by_index (valued other ∷ options) places i = by_index options places i
by_index (flag other ∷ options) places i = by_index options places i

-- what is found by a number is a place
pub any_place : (number : ℕ) (places : List Text) (i : ℕ) → (arg_by_index (place_rules number places) i ≡ None)
    ⊎ ((k : ℕ) × (place : Text) × (arg_by_index (place_rules number places) i ≡ Some (place_rule k place)))
any_place number [] i = inl refl
any_place number (place ∷ places) i = go (number == i) (any_place (number + 1) places i)
  where
    go : (b : Bool) → (arg_by_index (place_rules (number + 1) places) i ≡ None)
        ⊎ ((k : ℕ) × (other : Text)
        × (arg_by_index (place_rules (number + 1) places) i ≡ Some (place_rule k other)))
        → (cond b (Some (place_rule number place)) (arg_by_index (place_rules (number + 1) places) i) ≡ None)
        ⊎ ((k : ℕ) × (other : Text)
        × (cond b (Some (place_rule number place)) (arg_by_index (place_rules (number + 1) places) i)
        ≡ Some (place_rule k other)))
    go true r = inr (number, place, refl)
    go false r = r

-- names ------------------------------------------------------------------------------------------

-- an option that is found has the name
pub found_name : (options : List Named) (name : Text) (o : Named) → named name options ≡ Some o
    → bytes_eq (name_of o) name ≡ true
found_name [] name o e = absurd (none-some o e)
found_name (p ∷ options) name o e = go (bytes_eq (name_of p) name) refl (found_name options name o) e
  where
    go : (b : Bool) → bytes_eq (name_of p) name ≡ b
        → (named name options ≡ Some o → bytes_eq (name_of o) name ≡ true)
        → cond b (Some p) (named name options) ≡ Some o → bytes_eq (name_of o) name ≡ true
    go true t r e = ap (λ x. bytes_eq (name_of (unwrap_or x p)) name) (sym e) ∙ t
    go false t r e = r e

pub same_name : (options : List Named) (name : Text) (o : Named) → named name options ≡ Some o
    → name_of o ≡ name
same_name options name o e = (bytes_eq-Decides (name_of o) name).0 (found_name options name o e)

-- and is found under its own
pub renamed : (options : List Named) (name : Text) (o : Named) → named name options ≡ Some o
    → named (name_of o) options ≡ Some o
renamed options name o e = ap (λ n. named n options) (same_name options name o e) ∙ e

-- an option does not have a name under which no option is found
pub not_place : (options : List Named) (name place : Text) (o : Named) → named place options ≡ None
    → named name options ≡ Some o → bytes_eq (name_of o) place ≡ false
not_place options name place o none e = go (bytes_eq (name_of o) place) refl
  where
    go : (b : Bool) → bytes_eq (name_of o) place ≡ b → b ≡ false
    go false t = refl
    go true t =
        let same : name_of o ≡ place = (bytes_eq-Decides (name_of o) place).0 t in
        absurd (none-some o (sym none ∙ ap (λ n. named n options) (sym same) ∙ renamed options name o e))
