-- What a parse holds between two words, and what was said.
use Rattle.std.proofs.Common.{◌≡◌, ◌∙◌, ap, Bool, true, false, ℕ, List, [], ◌∷◌, ◌++◌}
use Rattle.std.proofs.Common.{Option, Some, None}
use Rattle.std.specs.Option.{option_map_or}
use Rattle.clap.specs.Walk.{Held, Rule, arg_by_id, has_row, settled, settled_rows, used, used_by_id}
use Rattle.clap.specs.Faults.{settle_fault, use_fault}
use Rattle.trips_requests.specs.Words.{Text, Named, valued, named, Said, is_said}
use Rattle.trips_words.specs.inside.Read.{single, rules_for}
use Rattle.trips_words.proofs.Rows.{rows_for, has_said, put_said}
use Rattle.trips_words.proofs.Faults.{Fails, fails_as, conflict, no_conflict, some_conflict}

-- what is held gives what was said, once it is settled
pub record Settles (options : List Named) (places : List Text) (h : Held) (said : Said) : Type 0 where
  pub rows : (settled (rules_for options places) h).rows ≡ rows_for said
  pub fault : settle_fault (rules_for options places) false h ≡ []
  pub skip : h.skip ≡ 0

-- an option waits for its value
pub record WaitsFor (options : List Named) (h : Held) (name : Text) (said : Said) : Type 0 where
  pub known : named name options ≡ Some (valued name)
  pub rows : h.rows ≡ rows_for said
  pub pending : h.pending ≡ Some (name, [])
  pub skip : h.skip ≡ 0

-- the fault of what is pending
pub settle_is : (options : List Named) (places : List Text) (h : Held) (name : Text) (values : List Text) (a : Rule)
    → h.pending ≡ Some (name, values) → arg_by_id (rules_for options places) name ≡ Some a
    → settle_fault (rules_for options places) false h ≡ use_fault false a values h.rows
settle_is options places h name values a p i =
    ap (λ q. option_map_or (λ x. option_map_or (λ r. use_fault false r x.1 h.rows)
    (arg_by_id (rules_for options places) x.0) []) q []) p
    ∙ ap (λ o. option_map_or (λ r. use_fault false r values h.rows) o []) i

-- nothing is pending
pub settles_none : (options : List Named) (places : List Text) (h : Held) (said : Said) → h.pending ≡ None
    → h.rows ≡ rows_for said → h.skip ≡ 0 → Settles options places h said
settles_none options places h said p r s = record {
  rows = ap (λ q. settled_rows (rules_for options places) q h.rows) p ∙ r;
  fault = ap (λ q. option_map_or (λ x. option_map_or (λ a. use_fault false a x.1 h.rows)
      (arg_by_id (rules_for options places) x.0) []) q []) p;
  skip = s;
}

has_now : (h : Held) (name : Text) (said : Said) (b : Bool) → h.rows ≡ rows_for said
    → is_said name said ≡ b → has_row name h.rows ≡ b
has_now h name said b r e = ap (has_row name) r ∙ has_said said name ∙ e

-- one value is pending, of an argument that takes one
pub settles_one : (options : List Named) (places : List Text) (h : Held) (name value : Text) (long : Option Text)
    (index : Option ℕ) (said : Said) → h.pending ≡ Some (name, value ∷ [])
    → arg_by_id (rules_for options places) name ≡ Some (single name long index) → h.rows ≡ rows_for said
    → h.skip ≡ 0 → is_said name said ≡ false → Settles options places h (said ++ (name, value) ∷ [])
settles_one options places h name value long index said p i r s absent = record {
  rows = ap (λ q. settled_rows (rules_for options places) q h.rows) p
      ∙ ap (λ a. used_by_id a (value ∷ []) h.rows) i
      ∙ ap (used (single name long index) (value ∷ [])) r ∙ put_said name value said absent;
  fault = settle_is options places h name (value ∷ []) (single name long index) p i
      ∙ no_conflict (has_row name h.rows) (has_now h name said false r absent);
  skip = s;
}

-- and it was there before
pub settles_not : (options : List Named) (places : List Text) (h : Held) (name value : Text) (long : Option Text)
    (index : Option ℕ) (said : Said) → h.pending ≡ Some (name, value ∷ [])
    → arg_by_id (rules_for options places) name ≡ Some (single name long index) → h.rows ≡ rows_for said
    → is_said name said ≡ true → Fails (settle_fault (rules_for options places) false h)
settles_not options places h name value long index said p i r present =
    fails_as (settle_fault (rules_for options places) false h) (conflict (has_row name h.rows))
    (settle_is options places h name (value ∷ []) (single name long index) p i)
    (some_conflict (has_row name h.rows) (has_now h name said true r present))
