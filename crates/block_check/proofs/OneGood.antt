-- A block that fits has no fault exactly where it is good by its cases.
use Rattle.std.proofs.Common.{sym, ap, ◌∙◌, subst}
use Rattle.std.specs.Prelude.{◌↔◌}
use Rattle.trips_isa.specs.declared.block.Spot.TheVariants.{Read, Inst, Write}
use Rattle.trips_isa.specs.declared.block.Block.{Block}
use Rattle.trips_isa.specs.Fits.{FitsBlock}
use Rattle.block_cases.specs.Cases.{cases, GetsTwo, GetsNone}
use Rattle.block_cases.specs.Blocks.{nodes_of, wanted_of}
use Rattle.block_cases.specs.Good.{GoodBlock}
use Rattle.block_check.specs.declared.fault.CheckFault.TheVariants as say
use Rattle.block_check.specs.Faults.{IsGood}
use Rattle.block_check.specs.inside.Checked.{spot_of}
use Rattle.block_check.proofs.Lists.{not_true}
use Rattle.block_check.proofs.Spots.{at_spot, wanted_owed}
use Rattle.block_check.proofs.Lowest.{at_most, found_good}
use Rattle.block_check.proofs.Ranking.{acyclic_ranked, nodes_few}

pub faultless_good : (b : Block) → FitsBlock b → IsGood b → GoodBlock b
faultless_good b f g = record {
  in_order = record {
    reads = λ i lt. not_true _ (λ e. g (say.BadTarget (Read i)) (lt, e));
    insts = λ j lt. not_true _ (λ e. g (say.BadTarget (Inst j)) (lt, e));
    numbers = λ j lt. not_true _ (λ e. g (say.BadNumber (Inst j)) (lt, e));
    writes = λ w lt. not_true _ (λ e. g (say.BadNumber (Write w)) (lt, e));
  };
  good = record {
    acyclic = λ h. g say.Cycle h;
    few = at_most 256 (cases (nodes_of b)) (λ h. g say.TooManyCases h);
    no_two = λ q lt h. let at = at_spot q lt in
        g (say.TwoTokens (spot_of q)) (at.takes, subst (GetsTwo (nodes_of b)) (sym at.place) h);
    no_gap = λ q lt w h. let at = at_spot q lt in
        g (say.NoToken (spot_of q)) (
          wanted_owed b f.writes (spot_of q) at.takes (ap (wanted_of b)
              at.place ∙ w),
          subst (GetsNone (nodes_of b)) (sym at.place) h,
        );
    exit = λ h. g say.NoExit h;
    one_exit = λ h. g say.TwoExits h;
  };
  ranked = acyclic_ranked (nodes_of b) (nodes_few b f) (λ h. g say.Cycle h);
}

-- a block that fits is good by the rules of its cases exactly where it has no fault
pub one_good : (b : Block) → FitsBlock b → (IsGood b ↔ GoodBlock b)
one_good b f = (faultless_good b f, found_good b f)
