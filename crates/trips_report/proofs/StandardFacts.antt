-- Reports, worked by hand from the README of this crate.
use Rattle.std.proofs.Common.{◌≡◌, ◌-◌, ◌^◌, [], ◌∷◌, ◌++◌, refl, codes, true, false, None, Some}
use Rattle.std.specs.Fmt.{digits}
use Rattle.hex.specs.Hex.{encode_with}
use Rattle.isa_table.specs.Spots.{indexed, at_slot}
use Rattle.trips_isa.specs.declared.causes.TrapCause.TheVariants.{Misaligned}
use Rattle.trips_isa.specs.declared.run.Ending.TheVariants as ending
use Rattle.trips_isa.specs.declared.block.Spot.TheVariants as spot
use Rattle.trips_isa.specs.Machine.{State}
use Rattle.block_image.specs.declared.fault.ImageFault.TheVariants as image
use Rattle.target_asm_spec.specs.declared.fault.AsmFault.TheVariants as asm
use Rattle.block_check.specs.declared.fault.CheckFault.TheVariants as check
use Rattle.trips_report.specs.declared.said.Said.TheVariants as said
use Rattle.trips_report.specs.declared.measured.Measured.{Measured}
use Rattle.trips_report.specs.declared.show.Show.{Show}
use Rattle.trips_requests.specs.declared.status.Status.TheVariants as status
use Rattle.trips_report.specs.Endings.{status_of}
use Rattle.trips_report.specs.Runs.{word_digits, register_line, traced_line, count_line, count_lines, with_part}
use Rattle.trips_report.specs.Runs.{fired_lines, flushed_lines, memory_lines, predicted_lines, flight_line}
use Rattle.trips_report.specs.Runs.{network_lines}
use Rattle.trips_report.specs.Commits.{commit_line}
use Rattle.trips_report.specs.Runs.{station_line, statistic_lines, signed, run_report}
use Rattle.trips_report.specs.inside.Refusals.{refusal_report}

-- four registers, of which the last has what main returned, and one committed block
abbrev ended : State
ended = record {
  registers = 3 ∷ 0 ∷ 0 ∷ 7 ∷ [];
  memory = [];
  next = 0;
  rest = [];
  output = codes "hi";
  trace = (record { block = 0; exit = 1 }) ∷ [];
}

abbrev measured : Measured
measured = record {
  counts = record { cycles = 40; fetched = 3; committed = 1; flushed = 2 };
  statistics = record {
    movs = 1;
    nulls = 2;
    useful = 34;
    loads = 5;
    stores = 6;
    violations = 0;
    wrong_exits = 7;
    ends = 8;
    predictions = 9;
    right = 4;
    parcels = 90;
    links = 210;
    waits = 13;
    in_flight = 3 ∷ 0 ∷ 12 ∷ 0 ∷ 5 ∷ 0 ∷ 0 ∷ 0 ∷ 20 ∷ [];
    stations = 9 ∷ 0 ∷ 0 ∷ 0 ∷ 0 ∷ 8 ∷ 0 ∷ 0 ∷ 0 ∷ 0 ∷ 0 ∷ 0 ∷ 0 ∷ 7 ∷ 0 ∷ 6 ∷ [];
  };
  events = codes "cycle 3 seal frame 1\nmore\n";
}

abbrev shown : Show
shown = record { regs = true; trace = true; cycles = true; stats = false; events = None }

abbrev hidden : Show
hidden = record { regs = false; trace = false; cycles = false; stats = false; events = None }

abbrev counted : Show
counted = record { regs = false; trace = false; cycles = true; stats = true; events = None }

abbrev told : Show
told = record {
  regs = false;
  trace = true;
  cycles = false;
  stats = false;
  events = Some (record { first = 3; last = 3 });
}

pub plain_is : run_report ending.Ended ended measured 512 hidden ≡ codes "output 2\nhi\nresult 7\n"
unfolding digits with_part
plain_is = refl

pub whole_is : run_report ending.StackFull ended measured 512 shown
    ≡ codes "output 2\nhi\nstack full\n"
    ++ (codes "G[0] 0000000000000003\nG[1] 0000000000000000\n"
    ++ (codes "G[2] 0000000000000000\nG[3] 0000000000000007\n"
    ++ (codes "block 0 exit 1\n"
    ++ codes "blocks 1\ncycles 40\nfetched 3\nflushed 2\ncost 512\n")))
unfolding digits encode_with indexed word_digits register_line traced_line count_line count_lines with_part
whole_is = refl

-- the statistics stand behind all else, each under its own name
pub statistics_are : run_report ending.Ended ended measured 512 counted
    ≡ codes "output 2\nhi\nresult 7\nblocks 1\ncycles 40\nfetched 3\nflushed 2\ncost 512\n"
    ++ (codes "movs 1\nnulls 2\nuseful 34\nloads 5\nstores 6\n"
    ++ (codes "flushed_by_violation 0\nflushed_by_exit 7\nflushed_at_end 8\npredicted 9\npredicted_right 4\n"
    ++ (codes "parcels 90\nlinks 210\nwaits 13\n"
    ++ (codes "in_flight_0 3\nin_flight_1 0\nin_flight_2 12\nin_flight_3 0\nin_flight_4 5\n"
    ++ (codes "in_flight_5 0\nin_flight_6 0\nin_flight_7 0\nin_flight_8 20\n"
    ++ (codes "station_0_0 9\nstation_0_1 0\nstation_0_2 0\nstation_0_3 0\n"
    ++ (codes "station_1_0 0\nstation_1_1 8\nstation_1_2 0\nstation_1_3 0\n"
    ++ (codes "station_2_0 0\nstation_2_1 0\nstation_2_2 0\nstation_2_3 0\n"
    ++ (codes "station_3_0 0\nstation_3_1 7\nstation_3_2 0\nstation_3_3 6\n"
    ++ codes "block 0 committed 1\n")))))))))
unfolding digits count_line count_lines fired_lines memory_lines flushed_lines predicted_lines network_lines
    flight_line station_line commit_line statistic_lines with_part
statistics_are = refl

-- the lines of events stand behind all else
pub events_are : run_report ending.Ended ended measured 512 told
    ≡ codes "output 2\nhi\nresult 7\nblock 0 exit 1\ncycle 3 seal frame 1\nmore\n"
unfolding digits traced_line with_part
events_are = refl

-- the word of the least long in register 3
abbrev aborting : State
aborting = record ended { registers = 3 ∷ 0 ∷ 0 ∷ 2 ^ 63 ∷ [] }

pub aborted_is : run_report ending.Ended aborting measured 512 hidden ≡ codes "output 2\nhi\naborted\n"
unfolding digits with_part
aborted_is = refl

pub aborted_has_its_status : status_of ending.Ended aborting ≡ status.Aborted
aborted_has_its_status = refl

pub budget_is : run_report ending.Budget ended measured 512 hidden ≡ codes "output 2\nhi\nbudget 1\n"
unfolding digits with_part
budget_is = refl

pub trap_is : run_report (ending.Trap 12 Misaligned) ended measured 512 hidden
    ≡ codes "output 2\nhi\ntrap block 12 cause 2\n"
unfolding digits with_part
trap_is = refl

-- every digit, and the most significant one first
pub digits_are : word_digits 81985529216486895 ≡ codes "0123456789abcdef"
unfolding encode_with word_digits
digits_are = refl

pub negative_is : signed (2 ^ 64 - 31) ≡ codes "-31"
unfolding digits
negative_is = refl

pub cut_is : refusal_report (said.Image (image.Truncated 200))
    ≡ codes "refused image 3 Truncated at 200\n"
unfolding digits
cut_is = refl

pub label_is : refusal_report (said.Asm (asm.Label 4)) ≡ codes "refused asm 3 Label line 4\n"
unfolding digits
label_is = refl

pub no_token_is : refusal_report (said.Check 0 (check.NoToken (spot.Store 0)))
    ≡ codes "refused check 6 NoToken S[0] block 0\n"
unfolding digits indexed
no_token_is = refl

pub two_tokens_are : refusal_report (said.Check 7 (check.TwoTokens (spot.Left 2)))
    ≡ codes "refused check 5 TwoTokens N[2,0] block 7\n"
unfolding digits at_slot
two_tokens_are = refl
