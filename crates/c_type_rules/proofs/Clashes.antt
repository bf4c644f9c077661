-- An include has no fault exactly where none of its names has one.
use Rattle.std.proofs.Common.{◌≡◌, ℕ, true, List, [], Option, Some, None}
use Rattle.c_tree.specs.declared.token.Kind.{Kind}
use Rattle.c_tree.specs.declared.token.Kind.TheVariants.{Int}
use Rattle.c_tree.specs.declared.typed.Slot.{Slot}
use Rattle.c_type_expr.specs.Scope.{Scope, look_up}
use Rattle.c_type_expr.specs.Blames.{Blame, first}
use Rattle.c_type.specs.Declarations.{twice_fault}
use Rattle.c_type.specs.FileScopes.{eof_name, getchar_name, putchar_name, exit_name, int_slots, long_slots}
use Rattle.c_type.specs.Units.{defined_fault, type_fault, function_fault, include_clash}
use Rattle.c_type_rules.proofs.SoundParts.{both}
use Rattle.c_type_rules.proofs.CompleteParts.{split}

-- a function of the include may be declared
abbrev pub May : Option Kind → List Slot → List ℕ → Scope → ℕ → Type 0
May r ss w G l = function_fault true r ss (look_up G w) l ≡ None

-- none of the names of the include has a fault
pub record Clear (G : Scope) (l : ℕ) : Type 0 where
  pub get : May (Some Int) [] getchar_name G l
  pub put : May (Some Int) int_slots putchar_name G l
  pub end : May None long_slots exit_name G l
  pub eof : twice_fault G eof_name l ≡ None

-- a function that the unit has defined
abbrev defined : List ℕ → Scope → ℕ → Blame
defined w G l = defined_fault true (look_up G w) l

-- a function that the unit has declared otherwise
abbrev differs : Option Kind → List Slot → List ℕ → Scope → ℕ → Blame
differs r ss w G l = type_fault r ss (look_up G w) l

-- what is tested last, and before it
abbrev last_types : Scope → ℕ → Blame
last_types G l = first (differs (Some Int) int_slots putchar_name G l) (differs None long_slots exit_name G l)

abbrev all_types : Scope → ℕ → Blame
all_types G l = first (differs (Some Int) [] getchar_name G l) (last_types G l)

abbrev from_eof : Scope → ℕ → Blame
from_eof G l = first (twice_fault G eof_name l) (all_types G l)

abbrev from_end : Scope → ℕ → Blame
from_end G l = first (defined exit_name G l) (from_eof G l)

abbrev from_put : Scope → ℕ → Blame
from_put G l = first (defined putchar_name G l) (from_end G l)

-- an include without a fault
pub clear : (G : Scope) (l : ℕ) → include_clash G l ≡ None → Clear G l
clear G l h =
    let a = split (defined getchar_name G l) (from_put G l) h in
    let b = split (defined putchar_name G l) (from_end G l) a.1 in
    let c = split (defined exit_name G l) (from_eof G l) b.1 in
    let d = split (twice_fault G eof_name l) (all_types G l) c.1 in
    let e = split (differs (Some Int) [] getchar_name G l) (last_types G l) d.1 in
    let f = split (differs (Some Int) int_slots putchar_name G l) (differs None long_slots exit_name G l) e.1 in
    record {
      get = both (defined getchar_name G l) (differs (Some Int) [] getchar_name G l) a.0 e.0;
      put = both (defined putchar_name G l) (differs (Some Int) int_slots putchar_name G l) b.0 f.0;
      end = both (defined exit_name G l) (differs None long_slots exit_name G l) c.0 f.1;
      eof = d.0;
    }

-- and the other way round
pub no_clash : (G : Scope) (l : ℕ) → Clear G l → include_clash G l ≡ None
no_clash G l c =
    let g = split (defined getchar_name G l) (differs (Some Int) [] getchar_name G l) c.get in
    let p = split (defined putchar_name G l) (differs (Some Int) int_slots putchar_name G l) c.put in
    let e = split (defined exit_name G l) (differs None long_slots exit_name G l) c.end in
    both (defined getchar_name G l) (from_put G l) g.0
    (both (defined putchar_name G l) (from_end G l) p.0
    (both (defined exit_name G l) (from_eof G l) e.0
    (both (twice_fault G eof_name l) (all_types G l) c.eof
    (both (differs (Some Int) [] getchar_name G l) (last_types G l) g.1
    (both (differs (Some Int) int_slots putchar_name G l) (differs None long_slots exit_name G l) p.1 e.1)))))

-- a function that may be declared has been declared as it is
pub as_it_is : (r : Option Kind) (ss : List Slot) (w : List ℕ) (G : Scope) (l : ℕ) → May r ss w G l
    → differs r ss w G l ≡ None
as_it_is r ss w G l h = (split (defined w G l) (differs r ss w G l) h).1
