-- The rows of the code's table are read by their places, and column by column.
use Rattle.std.proofs.Common.{◌≡◌, ◌<◌, ℕ, zero, suc, ap, ◌∙◌, refl, arith, get_or, map, length, List, [], ◌∷◌}
use Rattle.trips_isa.specs.OperationTable.{Row}
use Rattle.trips_isa.specs.inside.OperationTable.{Columns, Values, values, row_values, no_values}

values_in : (n : ℕ) (rows : List Columns) (d : Columns) → n < length rows
    → values (get_or rows n d) ≡ get_or (map values rows) n no_values
values_in n [] d h = absurd (omega arith)
values_in zero (row ∷ rows) d h = refl
values_in (suc n) (row ∷ rows) d h = values_in n rows d (let l : suc n < suc (length rows) = h in omega arith)

-- the row at a place has the values at that place
pub values_at : (n : ℕ) (rows : List Columns) (c : Columns) → n < length rows → c ≡ get_or rows n c
    → values c ≡ get_or (map values rows) n no_values
values_at n rows c h e = ap values e ∙ values_in n rows c h

-- a row of these values has each of them
pub mnemonic_is : (c : Columns) (r : Row) → values c ≡ row_values r → c.0.now ≡ r.mnemonic
mnemonic_is c r e = ap (λ (v : Values). v.0) e

pub form_is : (c : Columns) (r : Row) → values c ≡ row_values r → c.1 ≡ r.form
form_is c r e = ap (λ (v : Values). v.1) e

pub opcode_is : (c : Columns) (r : Row) → values c ≡ row_values r → c.2 ≡ r.opcode
opcode_is c r e = ap (λ (v : Values). v.2) e

pub extended_is : (c : Columns) (r : Row) → values c ≡ row_values r → c.3 ≡ r.extended
extended_is c r e = ap (λ (v : Values). v.3) e

pub latency_is : (c : Columns) (r : Row) → values c ≡ row_values r → c.4 ≡ r.latency
latency_is c r e = ap (λ (v : Values). v.4) e
