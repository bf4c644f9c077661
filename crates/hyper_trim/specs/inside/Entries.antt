-- What is known of copies, as a list: of a register the last entry counts.
use Rattle.std.specs.Prelude.{ℕ, Bool, false, ◌||◌, cond, nat_eq, List, [], ◌∷◌}
use Rattle.ir_forms.specs.declared.hyper.Source.{Source}
use Rattle.ir_forms.specs.declared.hyper.Source.TheVariants.{Reg}
use Rattle.ir_forms.specs.declared.hyper.HyperItem.{HyperItem}
use Rattle.ir_forms.specs.inside.HyperCode.{Items}
use Rattle.ir_forms.specs.inside.HyperViews.{then_items}
use Rattle.hyper_trim.specs.declared.forwarding.Entry.{Entry}
use Rattle.hyper_trim.specs.inside.Forward.{Copies, reads, unless_read}

-- what a list says of a register, of which a source was said before
abbrev pub from : Source → List Entry → ℕ → Source
from s [] r = s
from s (e ∷ l) r = from (cond (nat_eq r e.register) e.source s) l r

-- what a list says
abbrev pub copies_of : List Entry → Copies
copies_of l r = from (Reg r) l r

-- an entry, where a register was set
abbrev pub forgotten : ℕ → Entry → Entry
forgotten to e = record {
  register = e.register;
  source = cond (nat_eq e.register to) (Reg e.register) (unless_read to e.register e.source);
}

-- whether an entry is of a register, or of one that has its word
abbrev pub is_known : ℕ → Entry → Bool
is_known to e = nat_eq e.register to || reads to e.source

-- whether an entry of a list is
abbrev pub any_known : ℕ → List Entry → Bool
any_known to [] = false
any_known to (e ∷ l) = is_known to e || any_known to l

-- declared items before others
abbrev pub before : List HyperItem → Items → Items
before [] rest = rest
before (i ∷ l) rest = then_items i (before l rest)
