-- Items without those that set a register which nobody reads later, from the last to the first.
use Rattle.std.specs.Prelude.{ℕ, Bool, true, ◌&&◌, ◌||◌, not, cond, bit_or}
use Rattle.trips_isa.specs.declared.op.Op.{Op}
use Rattle.trips_isa.specs.Faults.{divides}
use Rattle.ir_forms.specs.declared.hyper.Source.{Source}
use Rattle.ir_forms.specs.inside.HyperCode.{Items, Done, Set, Load, Save, If}
use Rattle.ir_forms.specs.inside.HyperFits.{is_filled}
use Rattle.hyper_trim.specs.inside.Sets.{bit, without, read_by, matters}

-- items that are left, and the registers that are alive before them
pub record Trimmed : Type 0 where
  pub live : ℕ
  pub items : Items

-- no items, where a set is alive
abbrev pub ended : ℕ → Trimmed
ended live = record { live = live; items = Done }

-- Whether an item that sets a register is dropped where a set is alive behind it: it cannot fault, and nobody reads
-- the register before it is set again. In a leg the last item that does something stays, so that what is filled stays
-- filled.
abbrev pub drops : Bool → Op → ℕ → ℕ → Bool → Bool
drops leg op to live filled = not (divides op) && (not (matters live to) && (not leg || filled))

-- whether it is, before items that are trimmed
abbrev pub is_dropped : Bool → Op → ℕ → Trimmed → Bool
is_dropped leg op to t = drops leg op to t.live (is_filled t.items)

-- before an item that stays
abbrev pub set_kept : ℕ → Op → Source → Source → Trimmed → Trimmed
set_kept to op a b t = record {
  live = bit_or (bit_or (without t.live (bit to)) (read_by a)) (read_by b);
  items = Set to op a b t.items;
}

-- before an item that sets a register
abbrev pub set_before : Bool → ℕ → Op → Source → Source → Trimmed → Trimmed
set_before leg to op a b t = cond (is_dropped leg op to t) t (set_kept to op a b t)

-- a load can fault, so it stays
abbrev pub load_before : ℕ → Op → Source → Trimmed → Trimmed
load_before to op a t = record {
  live = bit_or (without t.live (bit to)) (read_by a);
  items = Load to op a t.items;
}

-- so can a save
abbrev pub save_before : Op → Source → Source → Trimmed → Trimmed
save_before op a v t = record {
  live = bit_or (bit_or t.live (read_by a)) (read_by v);
  items = Save op a v t.items;
}

-- before an if-item, whose legs are trimmed
abbrev pub if_before : Source → Trimmed → Trimmed → Trimmed → Trimmed
if_before x one other t = record {
  live = bit_or (bit_or one.live other.live) (read_by x);
  items = If x one.items other.items t.items;
}

-- Items before others that are trimmed. `leg` says whether they are those of a leg.
abbrev pub trim : Bool → Items → Trimmed → Trimmed
trim leg Done t = t
trim leg (Set to op a b rest) t = set_before leg to op a b (trim leg rest t)
trim leg (Load to op a rest) t = load_before to op a (trim leg rest t)
trim leg (Save op a v rest) t = save_before op a v (trim leg rest t)
trim leg (If x one other rest) t =
    if_before x (trim true one (ended (trim leg rest t).live))
    (trim true other (ended (trim leg rest t).live)) (trim leg rest t)
