-- A block that folding or sweeping put in the place of a block may stand for it.
use Rattle.std.proofs.Common.{◌≡◌, ℕ, ◌-◌, ◌/◌, ◌%◌, ℤ, pos, negsuc, Bool, false, cond, nat_le, refl}
use Rattle.std.proofs.Common.{ap, sym, arith, ◌∙◌}
use Rattle.std.proofs.lemmas.Bool.Decides.{nat_tests}
use Rattle.trips_isa.specs.declared.op.Op.{Op}
use Rattle.trips_isa.specs.declared.op.Op.TheVariants.{Genu, App, Bro, Callo}
use Rattle.ir_forms.specs.declared.flow.FlowBlock.{FlowBlock}
use Rattle.predication.specs.inside.Labels.{half_of, by_address}
use Rattle.flow_fold.specs.inside.Replaces as fold
use Rattle.flow_ease.specs.inside.Eases.{Eases, Takes, names_label}
use Rattle.flow_ease.proofs.Standing.{eases_on}

-- a constant that is no label stays as it is
half_own : (half : ℕ → ℕ) (i : ℤ) → fold.IsOwn i → half_of half i ≡ i
half_own half (negsuc w) own = refl
half_own half (pos w) own =
    let e : nat_le 65536 w ≡ false = grind (arith, nat_tests, own) in
    ap (λ (c : Bool). cond c (pos (half (w - 65536))) (pos w)) e

-- addresses take the place of labels alone
leaves_own : (address : ℕ → ℕ) → fold.LeavesOwn (by_address address)
leaves_own address Genu i own = half_own (λ l. address l / 65536) i own
leaves_own address App i own = half_own (λ l. address l % 65536) i own
leaves_own address _ i own = refl

-- both definitions name the same branches
named_alike : (o : Op) → names_label o ≡ fold.names_label o
named_alike Bro = refl
named_alike Callo = refl
named_alike _ = refl

-- what may be built on is the same
takes_alike : (address : ℕ → ℕ) (f : FlowBlock) → Takes address f → fold.Takes (by_address address) f
takes_alike address f t = record { complete = t.complete; regular = t.regular }

-- a block that replaces another may stand for it
pub eases_replaced : (f g : FlowBlock) → fold.Replaces f g → Eases f g
eases_replaced f g r = record {
  regular = λ a t. r.regular (by_address a) (leaves_own a) (takes_alike a f t);
  complete = λ a t. r.complete (by_address a) (leaves_own a) (takes_alike a f t);
  means = λ at b t m. r.means (by_address at.address) (leaves_own at.address) (takes_alike at.address f t) at b m;
  labels = λ j n e l.
      let s = r.labels j n e (sym (named_alike n.op) ∙ l) in
      record { place = s.place; node = s.node; there = s.there; op = s.op; imm = s.imm };
}

-- so where the block that it replaces may stand for another
pub eases_then_replaced : (e f g : FlowBlock) → Eases e f → fold.Replaces f g → Eases e g
eases_then_replaced e f g one r = eases_on e f g one (eases_replaced f g r)
